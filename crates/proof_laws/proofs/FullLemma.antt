-- Where all arcs are decided and no reason is true, the used arcs are a layout.
use Rattle.std.proofs.Common.{◌≡◌, ◌≢◌, ℕ, zero, suc, ◌+◌, ◌-◌, ◌<◌, ◌≤◌, inl, inr, true, false, ℤ, pos, neg_ℤ, ◌-ℤ◌, List, [], ◌∷◌, length, slice_get, Some, None, Option, is_some, refl, ap, sym, ◌∙◌, subst, arith, eq-eqb}
use Rattle.std.specs.Prelude.{◌==◌, IsTrue}
use Rattle.std.specs.List.{range_with_len}
use Rattle.std.proofs.lemmas.Int.{ints}
use Rattle.std.proofs.lemmas.Option.{slice_get_within}
use Rattle.std.proofs.lemmas.List.Sums.{sum_by-le-sum_by}
use Rattle.cable_definitions.specs.declared.cable.Cable.{Cable}
use Rattle.cable_definitions.specs.declared.cable.Arc.{Arc}
use Rattle.cable_definitions.specs.declared.row.Mark.{Mark}
use Rattle.cable_definitions.specs.declared.row.Mark.TheVariants.{Free, Used, Unused}
use Rattle.cable_definitions.specs.declared.row.RowKind.{RowKind}
use Rattle.cable_definitions.specs.declared.row.RowKind.TheVariants.{Out, Inlet, Bend, One, Cut}
use Rattle.cable_definitions.specs.declared.row.Why.{Why}
use Rattle.cable_definitions.specs.declared.row.Why.TheVariants.{Row as RowWhy, Pair, Loop}
use Rattle.cable_definitions.specs.declared.site.Kind.{Kind}
use Rattle.cable_definitions.specs.declared.site.Kind.TheVariants.{Turbine, Substation, Bend as BendKind}
use Rattle.cable_definitions.specs.declared.site.Point.{Point}
use Rattle.cable_definitions.specs.Site.{Site, IsValid}
use Rattle.cable_definitions.specs.Arcs.{AreArcs, IsCandidate, kind_of, kind_from, is_turbine, is_substation}
use Rattle.cable_definitions.specs.Walk.{cable_out, walk_end, most_steps, starts_in, ends_in}
use Rattle.cable_definitions.specs.Layout.{IsCable, Starts}
use Rattle.cable_definitions.specs.Row.{Row, is_member, one_if, inlet_limit, speaks_of, member_count, SomeMember, RightCount, InRange, Ascending, RightKind, NoSubstation, Incompatible, IsWellFormed, AreIncompatible}
use Rattle.cable_definitions.specs.Tree.{used_cables, IsDead}
use Rattle.number_laws.proofs.Sums.{sum_int, sum_int-same, sum_int-minus}
use Rattle.number_laws.proofs.Keys.{first_at, value_at, sum_by-keys}
use Rattle.number_laws.proofs.NatSums.{count_by-at}
use Rattle.layout_laws.specs.Alike.{StartsDiffer}
use Rattle.layout_laws.specs.Visits.{WalksEnd}
use Rattle.layout_laws.proofs.Alike.{cable_out-from, cable_out-place}
use Rattle.layout_laws.proofs.Walking.{Starts-from_out, out_cases, walk_end-stays, walk_end-step, walk_end-further, walk_end-ended, most_steps_is}
use Rattle.layout_laws.proofs.Typing.{all-at}
use Rattle.proof_laws.specs.Decided.{AreDecided, HasPointRows}
use Rattle.proof_laws.proofs.Cables.{arc_place}
use Rattle.proof_laws.proofs.Points.{starts_in-none, sum_by-ones}
use Rattle.proof_laws.proofs.RowsHold.{row_at, sum-starts, sum-ends, sum-negative}
use Rattle.proof_laws.proofs.Within.{UsedArc, used_arc, used_arc-later}
use Rattle.proof_laws.proofs.Decided.{decided_row}

-- What is known of a node with all arcs decided where no reason is true.
pub record NoReason (s : Site) (arcs : List Arc) (rows : List Row) (marks : List Mark) (bound : ℕ) : Type 0 where
  pub valid : IsValid s
  pub are_arcs : AreArcs s arcs
  pub decided : AreDecided arcs marks
  pub listed : HasPointRows s arcs rows
  pub no_reason : (why : Why) → ¬ (IsDead s arcs rows marks bound why)

-- a row with one member is well formed where it speaks of a point of the site
pub row_at-formed : (s : Site) (arcs : List Arc) (kind : RowKind) (m : ℕ) → kind ≢ One → kind ≢ Cut → m < member_count s arcs kind → IsTrue (speaks_of kind (kind_of s m)) → IsWellFormed s arcs (row_at kind m)
row_at-formed s arcs kind m none nor within speaks SomeMember i j = λ e. cc
row_at-formed s arcs kind m none nor within speaks RightCount i j = ((λ t. refl), omega arith)
row_at-formed s arcs kind m none nor within speaks InRange zero j = λ n e. let same : m ≡ n = cc in subst (λ (k : ℕ). k < member_count s arcs kind) same within
row_at-formed s arcs kind m none nor within speaks InRange (suc i) j = λ n e. absurd (cc)
row_at-formed s arcs kind m none nor within speaks Ascending i j = λ k n e f. absurd (let q : None ≡ Some n = ap (slice_get (m ∷ [])) (sym (let p : i + 1 ≡ suc i = omega arith in p)) ∙ f in cc)
row_at-formed s arcs kind m none nor within speaks RightKind zero j = λ n e. let same : m ≡ n = cc in subst (λ (k : ℕ). IsTrue (speaks_of kind (kind_of s k))) same speaks
row_at-formed s arcs kind m none nor within speaks RightKind (suc i) j = λ n e. absurd (cc)
row_at-formed s arcs kind m none nor within speaks NoSubstation i j = λ n e k. absurd (nor k)
row_at-formed s arcs kind m none nor within speaks Incompatible i j = λ k n a b o. absurd (none o)

-- a point that isn't a bend is of the site
pub within-turbine : (s : Site) (p : ℕ) → IsTrue (is_turbine (kind_of s p)) → p < length s.points
within-turbine s p h = by_point (slice_get s.points p) refl h
  where
    by_point : (o : Option Point) → slice_get s.points p ≡ o → IsTrue (is_turbine (kind_from o)) → p < length s.points
    by_point None e h = absurd (cc)
    by_point (Some point) e h = slice_get_within s.points p point e

pub within-substation : (s : Site) (p : ℕ) → IsTrue (is_substation (kind_of s p)) → p < length s.points
within-substation s p h = by_point (slice_get s.points p) refl h
  where
    by_point : (o : Option Point) → slice_get s.points p ≡ o → IsTrue (is_substation (kind_from o)) → p < length s.points
    by_point None e h = absurd (cc)
    by_point (Some point) e h = slice_get_within s.points p point e

-- one used cable starts in each turbine
pub used-out : (s : Site) (arcs : List Arc) (rows : List Row) (marks : List Mark) (bound : ℕ) → NoReason s arcs rows marks bound
    → (p : ℕ) → IsTrue (is_turbine (kind_of s p)) → starts_in (used_cables arcs marks) p ≡ 1
used-out s arcs rows marks bound n p h =
    let formed = row_at-formed s arcs Out p (λ e. cc) (λ e. cc) (within-turbine s p h) h in
    let r = n.listed (row_at Out p) (inl refl) formed in
    let holds = decided_row s arcs marks (row_at Out p) (λ a b. one_if (is_member (p ∷ []) a)) n.valid n.are_arcs n.decided (λ a b c. refl) (λ a b. refl) (λ can. n.no_reason (RowWhy r.0) (row_at Out p, r.1, can)) in
    let sum = sum-starts (used_cables arcs marks) p in
    let equal = holds.1 refl in
    omega (arith, ints, sum, equal)

-- no more used cables end in a point than its inlet takes
pub used-inlet : (s : Site) (arcs : List Arc) (rows : List Row) (marks : List Mark) (bound : ℕ) → NoReason s arcs rows marks bound
    → (p : ℕ) → p < length s.points → ends_in (used_cables arcs marks) p ≤ inlet_limit s.mode (kind_of s p)
used-inlet s arcs rows marks bound n p h =
    let formed = row_at-formed s arcs Inlet p (λ e. cc) (λ e. cc) h refl in
    let r = n.listed (row_at Inlet p) (inr (inl refl)) formed in
    let inward = λ (c : Cable). one_if (is_member (p ∷ []) c.to) in
    let holds = decided_row s arcs marks (row_at Inlet p) (λ a b. neg_ℤ (one_if (is_member (p ∷ []) b))) n.valid n.are_arcs n.decided (λ a b c. refl) (λ a b. refl) (λ can. n.no_reason (RowWhy r.0) (row_at Inlet p, r.1, can)) in
    let negative : sum_int (λ (c : Cable). neg_ℤ (inward c)) (used_cables arcs marks) ≡ (pos 0 -ℤ sum_int inward (used_cables arcs marks)) =
    sum_int-same (λ (c : Cable). neg_ℤ (inward c)) (λ c. pos 0 -ℤ inward c) (used_cables arcs marks) (λ c. minus_is (inward c)) ∙ sum-negative inward (used_cables arcs marks) in
    let sum = sum-ends (used_cables arcs marks) p in
    let least = holds.0 in
    omega (arith, ints, negative, sum, least)
  where
    minus_is : (z : ℤ) → neg_ℤ z ≡ (pos 0 -ℤ z)
    minus_is z = omega (arith, ints)

-- as many used cables start as end in a bend
pub used-bend : (s : Site) (arcs : List Arc) (rows : List Row) (marks : List Mark) (bound : ℕ) → NoReason s arcs rows marks bound
    → (p : ℕ) → p < length s.points → kind_of s p ≡ BendKind → starts_in (used_cables arcs marks) p ≡ ends_in (used_cables arcs marks) p
used-bend s arcs rows marks bound n p h k =
    let formed = row_at-formed s arcs Bend p (λ e. cc) (λ e. cc) h (rw k refl) in
    let r = n.listed (row_at Bend p) (inr (inr refl)) formed in
    let outward = λ (c : Cable). one_if (is_member (p ∷ []) c.from) in
    let inward = λ (c : Cable). one_if (is_member (p ∷ []) c.to) in
    let holds = decided_row s arcs marks (row_at Bend p) (λ a b. one_if (is_member (p ∷ []) a) -ℤ one_if (is_member (p ∷ []) b)) n.valid n.are_arcs n.decided (λ a b c. refl) (λ a b. refl)
    (λ can. n.no_reason (RowWhy r.0) (row_at Bend p, r.1, can)) in
    let difference = sum_int-minus outward inward (used_cables arcs marks) in
    let a = sum-starts (used_cables arcs marks) p in
    let b = sum-ends (used_cables arcs marks) p in
    let equal = holds.1 refl in
    omega (arith, ints, difference, a, b, equal)

-- A later used cable is that of a later arc.
record LaterArc (arcs : List Arc) (marks : List Mark) (c d : Cable) : Type 0 where
  later : UsedArc arcs marks c.from c.to
  earlier : UsedArc arcs marks d.from d.to
  order : earlier.place < later.place

further : (arcs : List Arc) (marks : List Mark) (c d : Cable) (a : Arc) (m : Mark) → LaterArc arcs marks c d → LaterArc (a ∷ arcs) (m ∷ marks) c d
further arcs marks c d a m r = record { later = used_arc-later arcs marks c.from c.to a m r.later; earlier = used_arc-later arcs marks d.from d.to a m r.earlier; order = (let o = r.order in omega (arith, o)) }

later_arc : (arcs : List Arc) (marks : List Mark) (i j : ℕ) (c d : Cable) → IsCable (used_cables arcs marks) i c → IsCable (used_cables arcs marks) j d → j < i → LaterArc arcs marks c d
later_arc [] marks i j c d e f l = absurd (cc)
later_arc (a ∷ arcs) [] i j c d e f l = absurd (cc)
later_arc (a ∷ arcs) (Free ∷ marks) i j c d e f l = further arcs marks c d a Free (later_arc arcs marks i j c d e f l)
later_arc (a ∷ arcs) (Unused ∷ marks) i j c d e f l = further arcs marks c d a Unused (later_arc arcs marks i j c d e f l)
later_arc (a ∷ arcs) (Used ∷ marks) zero j c d e f l = absurd (omega arith)
later_arc (a ∷ arcs) (Used ∷ marks) (suc i) zero c d e f l =
    let own : Cable = record { from = a.from; to = a.to; grade = 0 } in
    let same : own ≡ d = cc in
    record {
      later = used_arc-later arcs marks c.from c.to a Used (used_arc arcs marks i c e);
      earlier = record { place = 0; arc = a; is_arc = refl; is_used = refl; starts = ap (λ (x : Cable). x.from) same; ends = ap (λ (x : Cable). x.to) same };
      order = omega arith;
    }
later_arc (a ∷ arcs) (Used ∷ marks) (suc i) (suc j) c d e f l = further arcs marks c d a Used (later_arc arcs marks i j c d e f (omega arith))

-- two used cables on arcs that aren't apart make a reason
pub no_used_pair : (s : Site) (arcs : List Arc) (rows : List Row) (marks : List Mark) (bound : ℕ) → NoReason s arcs rows marks bound
    → (u v : ℕ) (a b : Arc) → slice_get arcs u ≡ Some a → slice_get arcs v ≡ Some b → slice_get marks u ≡ Some Used → slice_get marks v ≡ Some Used → u ≢ v → ¬ (AreIncompatible s a b)
no_used_pair s arcs rows marks bound n u v a b e f g h differ k = n.no_reason (Pair u v) (
  differ,
  record {
    first = a;
    second = b;
    first_is = e;
    second_is = f;
    first_used = g;
    second_used = h;
    incompatible = k;
  },
)

-- no two used cables have one start
pub used-differ : (s : Site) (arcs : List Arc) (rows : List Row) (marks : List Mark) (bound : ℕ) → NoReason s arcs rows marks bound → StartsDiffer (used_cables arcs marks)
used-differ s arcs rows marks bound n i j c d e f l same =
    let r = later_arc arcs marks i j c d e f l in
    let order = r.order in
    let from : r.later.arc.from ≡ r.earlier.arc.from = r.later.starts ∙ sym same ∙ sym r.earlier.starts in
    let apart : r.later.place ≢ r.earlier.place = λ q. omega (arith, order, q) in
    no_used_pair s arcs rows marks bound n r.later.place r.earlier.place r.later.arc r.earlier.arc r.later.is_arc r.earlier.is_arc r.later.is_used r.earlier.is_used apart (record {
      different = λ q. apart (arc_place s arcs n.are_arcs r.later.place r.earlier.place r.later.arc r.earlier.arc r.later.is_arc r.earlier.is_arc q.0 q.1);
      apart = inl (inl from);
    })

-- each used cable is a candidate arc
pub used-candidate : (s : Site) (arcs : List Arc) (marks : List Mark) → AreArcs s arcs → (i : ℕ) (c : Cable) → IsCable (used_cables arcs marks) i c → IsCandidate s c.from c.to
used-candidate s arcs marks are i c e =
    let u = used_arc arcs marks i c e in
    let own = all-at (λ (a : Arc). IsCandidate s a.from a.to) arcs u.place u.arc are.candidates u.is_arc in
    subst (λ (p : ℕ). IsCandidate s p c.to) u.starts (subst (λ (q : ℕ). IsCandidate s u.arc.from q) u.ends own)

-- more numbers than there are below n aren't all different
pigeonhole : (f : ℕ → ℕ) (m n : ℕ) → ((i : ℕ) → i < m → f i < n) → ((i j : ℕ) → j < i → i < m → f j ≢ f i) → m ≤ n
pigeonhole f m n below differ =
    let keys = sum_by-keys f (λ (k : ℕ). 1) n (range_with_len 0 m) distinct bounded in
    let most = sum_by-le-sum_by (λ (k : ℕ). value_at (λ (i : ℕ). 1) (first_at f (range_with_len 0 m) k)) (λ k. 1) (range_with_len 0 n) (λ k. one (first_at f (range_with_len 0 m) k)) in
    omega (arith, keys, most, sum_by-ones 0 m, sum_by-ones 0 n)
  where
    one : (o : Option ℕ) → value_at (λ (i : ℕ). 1) o ≤ 1
    one None = omega arith
    one (Some i) = omega arith

    place : (a len i x : ℕ) → slice_get (range_with_len a len) i ≡ Some x → (x ≡ a + i) × (i < len)
    place a zero i x e = absurd (cc)
    place a (suc len) zero x e = let same : a ≡ x = cc in (omega arith, omega arith)
    place a (suc len) (suc i) x e =
        let r = place (a + 1) len i x e in
        let at : x ≡ a + 1 + i = r.0 in
        let within : i < len = r.1 in
        (omega arith, omega arith)

    bounded : (i x : ℕ) → slice_get (range_with_len 0 m) i ≡ Some x → f x < n
    bounded i x e =
        let r = place 0 m i x e in
        let at : x ≡ 0 + i = r.0 in
        let within : i < m = r.1 in
        below x (omega arith)

    distinct : (i j x y : ℕ) → slice_get (range_with_len 0 m) i ≡ Some x → slice_get (range_with_len 0 m) j ≡ Some y → j < i → f y ≢ f x
    distinct i j x y e g l =
        let r = place 0 m i x e in
        let q = place 0 m j y g in
        let at : x ≡ 0 + i = r.0 in
        let within : i < m = r.1 in
        let other : y ≡ 0 + j = q.0 in
        differ x y (omega arith) (omega arith)

-- the used walks end
pub used-end : (s : Site) (arcs : List Arc) (rows : List Row) (marks : List Mark) (bound : ℕ) → NoReason s arcs rows marks bound → WalksEnd (used_cables arcs marks)
used-end s arcs rows marks bound n t going =
    let few = pigeonhole (λ k. walk_end k (used_cables arcs marks) t) (suc most_steps) (length s.points) within differ in
    let most = n.valid.points_count in
    omega (arith, few, most, most_steps_is)
  where
    -- a walk that goes on to the end goes on from each point before
    on_the_way : (k : ℕ) → k ≤ most_steps → (c : Cable) × (cable_out (used_cables arcs marks) (walk_end k (used_cables arcs marks) t) ≡ Some c)
    on_the_way k h = elim (out_cases (used_cables arcs marks) (walk_end k (used_cables arcs marks) t)) [
      | inr w ↦ w
      | inl none ↦
          let used = used_cables arcs marks in
          let last = walk_end-ended used t k most_steps h none in
          let q : is_some (cable_out used (walk_end most_steps used t)) ≡ false = ap is_some (ap (cable_out used) last ∙ none) in
          let r : true ≡ false = sym going ∙ q in
          absurd (cc)
    ]

    within : (k : ℕ) → k < suc most_steps → walk_end k (used_cables arcs marks) t < length s.points
    within k h =
        let used = used_cables arcs marks in
        let w = on_the_way k (omega arith) in
        let place = cable_out-place used (walk_end k used t) w.0 w.1 in
        let a = used-candidate s arcs marks n.are_arcs place.0 w.0 place.1 in
        let from : w.0.from ≡ walk_end k used t = cable_out-from used (walk_end k used t) w.0 w.1 in
        let l = slice_get_within s.points w.0.from a.from a.from_is in
        omega (arith, from, l)

    differ : (i j : ℕ) → j < i → i < suc most_steps → walk_end j (used_cables arcs marks) t ≢ walk_end i (used_cables arcs marks) t
    differ i j l h same =
        let used = used_cables arcs marks in
        let p : ℕ = walk_end j used t in
        let w = on_the_way j (omega arith) in
        let sum : j + (i - j) ≡ i = omega arith in
        let back : walk_end (i - j) used (walk_end j used t) ≡ walk_end j used t = sym (walk_end-further used t j (i - j)) ∙ ap (λ (k : ℕ). walk_end k used t) sum ∙ sym same in
        n.no_reason (Loop (walk_end j used t)) (Starts-from_out used (walk_end j used t) w.0 w.1, (i - j, omega arith, omega arith, back))

-- a walk that begins with a cable comes over some cable to where it ends
last_cable : (cables : List Cable) (steps t : ℕ) (c : Cable) → cable_out cables t ≡ Some c → (i : ℕ) × (b : Cable) × (IsCable cables i b) × (b.to ≡ walk_end (suc steps) cables t)
last_cable cables zero t c e = let place = cable_out-place cables t c e in (place.0, c, place.1, sym (walk_end-step cables t 0 c e))
last_cable cables (suc steps) t c e = elim (out_cases cables c.to) [
  | inl none ↦
      let place = cable_out-place cables t c e in
      (place.0, c, place.1, sym (walk_end-step cables t (suc steps) c e ∙ walk_end-stays cables c.to (suc steps) none))
  | inr w ↦
      let r = last_cable cables steps c.to w.0 w.1 in
      (r.0, r.1, r.2, r.3 ∙ sym (walk_end-step cables t (suc steps) c e))
]

-- a point in which some used cable starts
pub starts_from_count : (cables : List Cable) → StartsDiffer cables → (p : ℕ) → 1 ≤ starts_in cables p → Starts cables p
starts_from_count cables d p h = elim (out_cases cables p) [
  | inl none ↦ absurd (let zero_starts = starts_in-none cables d p none in omega (arith, zero_starts))
  | inr w ↦ Starts-from_out cables p w.0 w.1
]

-- each used walk ends in a substation
pub used-lost : (s : Site) (arcs : List Arc) (rows : List Row) (marks : List Mark) (bound : ℕ) → NoReason s arcs rows marks bound
    → (p : ℕ) → Starts (used_cables arcs marks) p → IsTrue (is_substation (kind_of s (walk_end most_steps (used_cables arcs marks) p)))
used-lost s arcs rows marks bound n p st = elim (out_cases (used_cables arcs marks) p) [
  | inl none ↦ absurd (let q : false ≡ true = ap is_some (sym none) ∙ st in cc)
  | inr w ↦
      let used = used_cables arcs marks in
      let last = last_cable used 255 p w.0 w.1 in
      let steps : walk_end (suc 255) used p ≡ walk_end most_steps used p = ap (λ (k : ℕ). walk_end k used p) (sym most_steps_is) in
      let to : last.1.to ≡ walk_end most_steps used p = last.3 ∙ steps in
      by_kind last.0 last.1 last.2 to (kind_of s (walk_end most_steps used p)) refl
]
  where
    by_kind : (i : ℕ) (b : Cable) → IsCable (used_cables arcs marks) i b → b.to ≡ walk_end most_steps (used_cables arcs marks) p
        → (k : Kind) → kind_of s (walk_end most_steps (used_cables arcs marks) p) ≡ k → IsTrue (is_substation k)
    by_kind i b is to (Turbine power) k =
        let one = used-out s arcs rows marks bound n (walk_end most_steps (used_cables arcs marks) p) (ap is_turbine k) in
        absurd (used-end s arcs rows marks bound n p (starts_from_count (used_cables arcs marks) (used-differ s arcs rows marks bound n) (walk_end most_steps (used_cables arcs marks) p) (omega (arith, one))))
    by_kind i b is to (Substation feeders power) k = refl
    by_kind i b is to BendKind k =
        let used = used_cables arcs marks in
        let e : ℕ = walk_end most_steps used p in
        let a = used-candidate s arcs marks n.are_arcs i b is in
        let l = slice_get_within s.points b.to a.to a.to_is in
        let some : 1 ≤ ends_in used (walk_end most_steps used p) = count_by-at (λ (c : Cable). c.to == walk_end most_steps used p) used i b is (eq-eqb b.to (walk_end most_steps used p) to) in
        let same = used-bend s arcs rows marks bound n (walk_end most_steps used p) (subst (λ (k : ℕ). k < length s.points) to l) k in
        absurd (used-end s arcs rows marks bound n p (starts_from_count used (used-differ s arcs rows marks bound n) (walk_end most_steps used p) (omega (arith, some, same))))
