-- A whole document is accepted: one weighted row at the root, and one cable.
use Rattle.std.proofs.Common.{◌≡◌, ◌≢◌, ℕ, zero, suc, ◌<◌, ◌≤◌, List, [], ◌∷◌, ℤ, pos, refl, ap, sym, arith, subst, get_or}
use Rattle.std.specs.Prelude.{codes, Some, All, AllPairs, Any, Bool, true, false, unwrap_or, unsigned_abs, IsTrue, ◌≤ℤ◌, ◌+◌, ◌^◌, slice_get, length}
use Rattle.std.specs.Fmt.{digits}
use Rattle.std.specs.List.{AllPass}
use Rattle.std.proofs.lemmas.Bool.{false≢true}
use Rattle.std.proofs.lemmas.Int.{ints}
use Rattle.std.proofs.lemmas.Option.{none-some, slice_get_within}
use Rattle.cable_definitions.specs.declared.claim.Claim.TheVariants.{Optimal}
use Rattle.cable_definitions.specs.declared.row.RowKind.{RowKind}
use Rattle.cable_definitions.specs.declared.row.RowKind.TheVariants.{Out}
use Rattle.cable_definitions.specs.declared.row.Mark.{Mark}
use Rattle.cable_definitions.specs.declared.row.Mark.TheVariants.{Free}
use Rattle.cable_definitions.specs.declared.row.Act.TheVariants.{Stop}
use Rattle.cable_definitions.specs.declared.site.Point.{Point}
use Rattle.cable_definitions.specs.Naming.{IsName, is_name_byte}
use Rattle.cable_definitions.specs.Plane.{SamePlace, length_of, root_bits}
use Rattle.cable_definitions.specs.Site.{IsValid, IsKind, IsCableType}
use Rattle.cable_definitions.specs.Arcs.{IsPoint, IsCandidate, AreArcs, kind_of, is_turbine, is_substation, length_between, charge_of}
use Rattle.cable_definitions.specs.Walk.{most_steps}
use Rattle.cable_definitions.specs.Row.{Row, is_equation, Question, SomeMember, RightCount, InRange, Ascending, RightKind, NoSubstation, Incompatible, Meets}
use Rattle.cable_definitions.specs.Choice.{Choice, NoCable, Carries, IsChoice, AreLawful, reduced_cost, AtMost, IsValue}
use Rattle.cable_definitions.specs.Tree.{Item, RowItem, WorkItem, ProofState, root, worked, Stopped, IsBound, IsAccepted, Agrees, is_open_leaf}
use Rattle.cable_definitions.specs.Text.{document_text}
use Rattle.cable_definitions.proofs.Sites.{arc, cable, two_points, only_arc, out_row}
use Rattle.cable_definitions.proofs.Plans.{arc_is_candidate, one_cable_is_legal}

-- ---- the site is valid
-- a name of one letter
one_letter : (b : ℕ) → is_name_byte b ≡ true → IsName (b ∷ [])
one_letter b e = record { not_empty = omega arith; short = omega arith; spelled = spelled }
  where
    spelled : AllPass is_name_byte (b ∷ [])
    spelled zero d l = e
    spelled (suc k) d l = absurd (omega (arith, l))

names : All (λ p. IsName p.name) two_points.points
names zero d l = one_letter 83 refl
names (suc zero) d l = one_letter 65 refl
names (suc (suc k)) d l = absurd (omega (arith, l))

-- the two names and the two places differ
names_differ : AllPairs (λ p q. p.name ≢ q.name) two_points.points
names_differ zero zero d h l e = absurd (omega (arith, h))
names_differ zero (suc zero) d h l e = absurd (omega (arith, ap (λ (xs : List ℕ). get_or xs 0 0) e))
names_differ zero (suc (suc j)) d h l e = absurd (omega (arith, l))
names_differ (suc i) zero d h l e = absurd (omega (arith, h))
names_differ (suc i) (suc zero) d h l e = absurd (omega (arith, h))
names_differ (suc i) (suc (suc j)) d h l e = absurd (omega (arith, l))

places_differ : AllPairs (λ p q. ¬ (SamePlace p.at q.at)) two_points.points
places_differ zero zero d h l e = absurd (omega (arith, h))
places_differ zero (suc zero) d h l e = absurd (omega (arith, ints, e.x))
places_differ zero (suc (suc j)) d h l e = absurd (omega (arith, l))
places_differ (suc i) zero d h l e = absurd (omega (arith, h))
places_differ (suc i) (suc zero) d h l e = absurd (omega (arith, h))
places_differ (suc i) (suc (suc j)) d h l e = absurd (omega (arith, l))

kinds : All (λ p. IsKind p.kind) two_points.points
kinds zero d l = (omega arith, omega arith)
kinds (suc zero) d l = (omega arith, omega arith)
kinds (suc (suc k)) d l = absurd (omega (arith, l))

types : All (IsCableType two_points.version) two_points.types
types zero d l = record { some_capacity = omega arith; capacity = omega arith; price = omega arith; loss = omega arith; no_loss = λ e. refl }
types (suc k) d l = absurd (omega (arith, l))

pub two_points_are_valid : IsValid two_points
two_points_are_valid = record {
  version = omega arith;
  some_types = omega arith;
  types_count = omega arith;
  types = types;
  points_count = omega arith;
  names = names;
  kinds = kinds;
  names_differ = names_differ;
  places_differ = places_differ;
  obstacles_count = omega arith;
  obstacles = λ k d l. absurd (omega (arith, l));
  corners_count = omega arith;
  outside = λ k d l. absurd (omega (arith, l));
  pairs = λ k d l. absurd (omega (arith, l));
  ruled_once = λ i j d h l. absurd (omega (arith, l));
}

-- ---- it has one candidate arc
-- an arc starts in the turbine
starts_in_turbine : (p : ℕ) (from : Point) → IsPoint two_points p from → ¬ (IsTrue (is_substation from.kind)) → p ≡ 1
starts_in_turbine zero from e f = absurd (f (sym (ap (λ o. is_substation (unwrap_or o from).kind) e)))
starts_in_turbine (suc zero) from e f = refl
starts_in_turbine (suc (suc p)) from e f = absurd (none-some from e)

-- and ends in the substation
ends_in_substation : (q : ℕ) (to : Point) → IsPoint two_points q to → q ≢ 1 → q ≡ 0
ends_in_substation zero to e f = refl
ends_in_substation (suc zero) to e f = absurd (f refl)
ends_in_substation (suc (suc q)) to e f = absurd (none-some to e)

all_listed : (p q : ℕ) → IsCandidate two_points p q → Any (λ a. (a.from ≡ p) × (a.to ≡ q)) only_arc
all_listed p q c =
    let e : p ≡ 1 = starts_in_turbine p c.from c.from_is c.no_substation in
    let f : q ≡ 0 = ends_in_substation q c.to c.to_is (λ h. c.different (omega (arith, e, h))) in
    (0, arc 1 0 500, omega arith, refl, (sym e, sym f))

candidates : All (λ a. IsCandidate two_points a.from a.to) only_arc
candidates zero d l = arc_is_candidate
candidates (suc k) d l = absurd (omega (arith, l))

lengths : All (λ a. a.length ≡ length_between (slice_get two_points.points a.from) (slice_get two_points.points a.to)) only_arc
unfolding length_of root_bits
lengths zero d l = refl
lengths (suc k) d l = absurd (omega (arith, l))

charges : All (λ a. a.charge ≡ charge_of two_points a.from a.to) only_arc
charges zero d l = refl
charges (suc k) d l = absurd (omega (arith, l))

pub it_is_the_arc : AreArcs two_points only_arc
it_is_the_arc = record { in_order = λ i j d h l. absurd (omega (arith, h, l)); candidates = candidates; all_candidates = all_listed; lengths = lengths; charges = charges }

-- ---- the row is well formed
-- what stands in its list of members
the_member : (i m : ℕ) → slice_get (1 ∷ []) i ≡ Some m → m ≡ 1
the_member zero m e = sym (ap (λ o. unwrap_or o 1) e)
the_member (suc i) m e = absurd (none-some m e)

no_second : (i n : ℕ) → slice_get (1 ∷ []) (i + 1) ≡ Some n → ⊥
no_second i n e = absurd (omega (arith, slice_get_within (1 ∷ []) (i + 1) n e))

-- whether a kind is `Out`
is_out : RowKind → Bool
is_out Out = true
is_out kind = false

pub well_formed : (question : Question) (i j : ℕ) → Meets two_points only_arc Out (1 ∷ []) question i j
unfolding is_out
well_formed SomeMember i j = λ e. absurd (omega (arith, ap length e))
well_formed RightCount i j = (λ t. refl, omega arith)
well_formed InRange i j = λ m e. omega (arith, the_member i m e)
well_formed Ascending i j = λ m n e f. absurd (no_second i n f)
well_formed RightKind i j = λ m e. subst (λ (p : ℕ). IsTrue (is_turbine (kind_of two_points p))) (sym (the_member i m e)) refl
well_formed NoSubstation i j = λ m e f. absurd (false≢true (sym (ap is_out f)))
well_formed Incompatible i j = λ m n a b e. absurd (false≢true (sym (ap is_out e)))

-- ---- its weight is worth what the cable costs
abbrev weights : List (ℕ × ℤ)
weights = (0, pos 52428800000) ∷ []

listed : All (λ w. w.0 < 1) weights
listed zero d l = omega arith
listed (suc k) d l = absurd (omega (arith, l))

not_zero : All (λ w. w.1 ≢ pos 0) weights
not_zero zero d l = λ e. absurd (omega (arith, ints, e))
not_zero (suc k) d l = absurd (omega (arith, l))

small : All (λ w. unsigned_abs w.1 ≤ 2 ^ 76) weights
small zero d l = omega arith
small (suc k) d l = absurd (omega (arith, l))

signs : All (λ w. (row : Row) → slice_get (out_row ∷ []) w.0 ≡ Some row → ¬ (IsTrue (is_equation row.kind)) → pos 0 ≤ℤ w.1) weights
signs zero d l = λ row e f. omega (arith, ints)
signs (suc k) d l = absurd (omega (arith, l))

lawful : AreLawful (out_row ∷ []) weights
lawful = record { ascending = λ i j d h l. absurd (omega (arith, h, l)); listed = listed; not_zero = not_zero; small = small; signs = signs }

-- no choice of the arc leaves less of its cost than 0
none_below : (other : Choice) → IsChoice two_points (arc 1 0 500) Free other → AtMost (pos 0) (reduced_cost two_points (out_row ∷ []) weights 0 (arc 1 0 500) other)
unfolding length_of root_bits
none_below NoCable h = omega (arith, ints)
none_below (Carries zero load) h = omega (arith, ints)
none_below (Carries (suc grade) load) h = absurd (omega (arith, h.1))

-- whether a mark is `Free`
is_free : Mark → Bool
is_free Free = true
is_free mark = false

value : IsValue two_points only_arc (out_row ∷ []) (Free ∷ []) weights (pos 52428800000)
unfolding is_free
value = record {
  least = pos 0;
  is_least = record {
    extremes = pos 0 ∷ [];
    are_extremes = (record { choice = NoCable; is_choice = λ e. false≢true (sym (ap is_free e)); reached = refl; none_beyond = none_below }, tt);
    sum = refl;
  };
  sum = refl;
}

bound : IsBound 0 (pos 52428800000) 50000
bound = record { parent = omega arith; value_below = omega (arith, ints); least = λ b h k. omega (arith, ints, k) }

-- ---- the items are accepted
abbrev items : List Item
items = RowItem out_row ∷ WorkItem 1 weights Stop ∷ []

abbrev pub after_row : ProofState
after_row = record { rows = out_row ∷ []; nodes = root ∷ []; works = 0 }

abbrev after_work : ProofState
after_work = record { rows = out_row ∷ []; nodes = worked root 50000 Stopped ∷ []; works = 1 }

pub items_are_accepted : IsAccepted two_points only_arc 10 items after_work
items_are_accepted = (
  after_row,
  record { well_formed = well_formed; rows_count = omega arith; members_count = omega arith; rows = refl; nodes = refl; works = refl },
  (
    after_work,
    record {
      node = root;
      made = refl;
      unworked = refl;
      weights_count = omega arith;
      lawful = lawful;
      within_budget = omega arith;
      value = pos 52428800000;
      is_value = value;
      acted = (50000, bound, refl);
      rows = refl;
      works = refl;
    },
    refl,
  ),
)

least_bound : All (λ v. IsTrue (is_open_leaf v.status) → 50000 ≤ v.bound) after_work.nodes
least_bound zero d l = λ t. omega arith
least_bound (suc k) d l = absurd (omega (arith, l))

-- ---- the text of the document, whose layout and least bound are as its claim says
pub document_is_spelled : codes "site 1\nmode tree\ntype 400 100\nsubstation S 0 0 4 10000\nturbine A 300 400 100\nend site\nbudget 10\nrow out 1\nwork 1 1\nby 0 52428800000\nstop\nlayout 1\ncable A S 0\noptimal 50000\nend document\n" ≡ document_text two_points 10 items (cable 1 0 0 ∷ []) (Optimal 50000)
unfolding digits
document_is_spelled = refl

pub claim_agrees : Agrees two_points 10 after_work (cable 1 0 0 ∷ []) (Optimal 50000)
unfolding most_steps length_of root_bits
claim_agrees = ((one_cable_is_legal, refl), record { reached = (0, _, omega arith, refl, (refl, refl)); least = least_bound })
