-- A whole document is accepted: the root is split, one part is full and the other is dead.
use Rattle.std.proofs.Common.{◌≡◌, ◌≢◌, ℕ, zero, suc, ◌<◌, ◌≤◌, ◌⊎◌, inr, List, [], ◌∷◌, pos, refl, ap, sym, ◌∙◌, arith}
use Rattle.std.specs.Prelude.{codes, All, true, IsTrue}
use Rattle.std.specs.Fmt.{digits}
use Rattle.std.proofs.lemmas.Bool.{false≢true}
use Rattle.std.proofs.lemmas.Int.{ints}
use Rattle.cable_definitions.specs.declared.claim.Claim.TheVariants.{Optimal}
use Rattle.cable_definitions.specs.declared.row.Mark.{Mark}
use Rattle.cable_definitions.specs.declared.row.Mark.TheVariants.{Free, Used, Unused}
use Rattle.cable_definitions.specs.declared.row.Act.TheVariants.{Split, Dead, Full}
use Rattle.cable_definitions.specs.declared.row.Why.TheVariants.{Row as RowWhy}
use Rattle.cable_definitions.specs.Plane.{length_of, root_bits}
use Rattle.cable_definitions.specs.Arcs.{cost_of, Bears, IsCheapest}
use Rattle.cable_definitions.specs.Walk.{most_steps, load}
use Rattle.cable_definitions.specs.Choice.{Choice, NoCable, Carries, IsChoice, AreLawful, reduced_cost, AtMost, IsValue}
use Rattle.cable_definitions.specs.Tree.{Item, RowItem, WorkItem, ProofState, empty_state, root, worked, child, WasSplit, WasFull, WasDead, IsBound, IsFull, IsListed, IsWorked, IsAccepted, is_open_leaf}
use Rattle.cable_definitions.specs.Document.{IsAcceptedDocument}
use Rattle.cable_definitions.proofs.Sites.{arc, cable, two_points, only_arc, out_row}
use Rattle.cable_definitions.proofs.Plans.{one_cable_is_legal}
use Rattle.cable_definitions.proofs.Accepted.{two_points_are_valid, it_is_the_arc, well_formed, after_row}
use Rattle.cable_definitions.proofs.Dead.{may_leave, dead_row}

-- no weights are lawful
lawful : AreLawful (out_row ∷ []) []
lawful = record {
  ascending = λ i j d h l. absurd (omega (arith, l));
  listed = λ k d l. absurd (omega (arith, l));
  not_zero = λ k d l. absurd (omega (arith, l));
  small = λ k d l. absurd (omega (arith, l));
  signs = λ k d l. absurd (omega (arith, l));
}

-- without weights no choice costs less than nothing, and no used one less than the cable
free_choice : (mark : Mark) (other : Choice) → IsChoice two_points (arc 1 0 500) mark other → AtMost (pos 0) (reduced_cost two_points (out_row ∷ []) [] 0 (arc 1 0 500) other)
unfolding length_of root_bits
free_choice mark NoCable h = omega (arith, ints)
free_choice mark (Carries zero load) h = omega (arith, ints)
free_choice mark (Carries (suc grade) load) h = absurd (omega (arith, h.1))

used_choice : (other : Choice) → IsChoice two_points (arc 1 0 500) Used other → AtMost (pos 52428800000) (reduced_cost two_points (out_row ∷ []) [] 0 (arc 1 0 500) other)
unfolding length_of root_bits
used_choice NoCable h = absurd (h refl)
used_choice (Carries zero load) h = omega (arith, ints)
used_choice (Carries (suc grade) load) h = absurd (omega (arith, h.1))

-- the values at the root, where the arc is used, and where it isn't
value_unused : (mark : Mark) → may_leave mark ≡ true → IsValue two_points only_arc (out_row ∷ []) (mark ∷ []) [] (pos 0)
value_unused mark m = record {
  least = pos 0;
  is_least = record {
    extremes = pos 0 ∷ [];
    are_extremes = (record { choice = NoCable; is_choice = λ e. false≢true (sym (ap may_leave e) ∙ m); reached = refl; none_beyond = free_choice mark }, tt);
    sum = refl;
  };
  sum = refl;
}

-- `Used` isn't `Unused`
used_is_no_unused : Used ≢ Unused
used_is_no_unused e = false≢true (ap may_leave e)

value_used : IsValue two_points only_arc (out_row ∷ []) (Used ∷ []) [] (pos 52428800000)
unfolding length_of root_bits
value_used = record {
  least = pos 52428800000;
  is_least = record {
    extremes = pos 52428800000 ∷ [];
    are_extremes = (record { choice = Carries 0 100; is_choice = (λ e. used_is_no_unused e, omega arith, omega arith, omega arith); reached = refl; none_beyond = used_choice }, tt);
    sum = refl;
  };
  sum = refl;
}

-- no weight gives no bound
no_bound : IsBound 0 (pos 0) 0
no_bound = record { parent = omega arith; value_below = omega (arith, ints); least = λ b h k. omega arith }

-- the one type is the cheapest
cheapest : IsCheapest two_points 1 0 100 0
cheapest = record { bears = record { listed = omega arith; enough = omega arith }; least = λ g h. only_type g h }
  where
    only_type : (g : ℕ) → Bears two_points g 100
        → (cost_of two_points 1 0 0 100 < cost_of two_points 1 0 g 100) ⊎ ((cost_of two_points 1 0 0 100 ≡ cost_of two_points 1 0 g 100) × (0 ≤ g))
    only_type zero h = inr (refl, omega arith)
    only_type (suc g) h = absurd (omega (arith, h.listed))

all_cheapest : All (λ c. IsCheapest two_points c.from c.to (load two_points (cable 1 0 0 ∷ []) c.from) c.grade) (cable 1 0 0 ∷ [])
unfolding most_steps
all_cheapest zero d l = cheapest
all_cheapest (suc k) d l = absurd (omega (arith, l))

-- where the arc is used, the cable alone is a legal layout
full : IsFull two_points only_arc (Used ∷ []) (cable 1 0 0 ∷ [])
full = record { starts = refl; ends = refl; cheapest = all_cheapest; legal = one_cable_is_legal }

-- ---- the items are accepted
abbrev items : List Item
items = RowItem out_row ∷ WorkItem 1 [] (Split 0) ∷ WorkItem 2 [] Full ∷ WorkItem 3 [] (Dead (RowWhy 0)) ∷ []

abbrev after_split : ProofState
after_split = record { rows = out_row ∷ []; nodes = worked root 0 WasSplit ∷ child 1 0 0 Used ∷ child 1 0 0 Unused ∷ []; works = 1 }

abbrev after_full : ProofState
after_full = record { rows = out_row ∷ []; nodes = worked root 0 WasSplit ∷ worked (child 1 0 0 Used) 50000 WasFull ∷ child 1 0 0 Unused ∷ []; works = 2 }

abbrev after_dead : ProofState
after_dead = record { rows = out_row ∷ []; nodes = worked root 0 WasSplit ∷ worked (child 1 0 0 Used) 50000 WasFull ∷ worked (child 1 0 0 Unused) 0 WasDead ∷ []; works = 3 }

row_is_listed : IsListed two_points only_arc empty_state out_row after_row
row_is_listed = record { well_formed = well_formed; rows_count = omega arith; members_count = omega arith; rows = refl; nodes = refl; works = refl }

root_is_split : IsWorked two_points only_arc 8191 after_row 1 [] (Split 0) after_split
root_is_split = record {
  node = root;
  made = refl;
  unworked = refl;
  weights_count = omega arith;
  lawful = lawful;
  within_budget = omega arith;
  value = pos 0;
  is_value = value_unused Free refl;
  acted = (0, no_bound, refl, refl);
  rows = refl;
  works = refl;
}

used_is_full : IsWorked two_points only_arc 8191 after_split 2 [] Full after_full
unfolding most_steps length_of root_bits
used_is_full = record {
  node = child 1 0 0 Used;
  made = refl;
  unworked = refl;
  weights_count = omega arith;
  lawful = lawful;
  within_budget = omega arith;
  value = pos 52428800000;
  is_value = value_used;
  acted = (cable 1 0 0 ∷ [], full, refl);
  rows = refl;
  works = refl;
}

unused_is_dead : IsWorked two_points only_arc 8191 after_full 3 [] (Dead (RowWhy 0)) after_dead
unused_is_dead = record {
  node = child 1 0 0 Unused;
  made = refl;
  unworked = refl;
  weights_count = omega arith;
  lawful = lawful;
  within_budget = omega arith;
  value = pos 0;
  is_value = value_unused Unused refl;
  acted = (0, no_bound, dead_row, refl);
  rows = refl;
  works = refl;
}

pub items_are_accepted : IsAccepted two_points only_arc 8191 items after_dead
items_are_accepted = (after_row, row_is_listed, (after_split, root_is_split, (after_full, used_is_full, (after_dead, unused_is_dead, refl))))

-- ---- so is the document, whose one open leaf has the cost as its bound
least_bound : All (λ v. IsTrue (is_open_leaf v.status) → 50000 ≤ v.bound) after_dead.nodes
least_bound zero d l = λ t. absurd (false≢true t)
least_bound (suc zero) d l = λ t. omega arith
least_bound (suc (suc zero)) d l = λ t. absurd (false≢true t)
least_bound (suc (suc (suc k))) d l = absurd (omega (arith, l))

pub document_is_accepted : IsAcceptedDocument (codes "site 1\nmode tree\ntype 400 100\nsubstation S 0 0 4 10000\nturbine A 300 400 100\nend site\nbudget 8191\nrow out 1\nwork 1 0\nsplit 0\nwork 2 0\nfull\nwork 3 0\ndead row 0\nlayout 1\ncable A S 0\noptimal 50000\nend document\n") two_points (Optimal 50000)
unfolding digits most_steps length_of root_bits
document_is_accepted = record {
  arcs = only_arc;
  budget = 8191;
  items = items;
  cables = cable 1 0 0 ∷ [];
  kept = after_dead;
  valid = two_points_are_valid;
  are_arcs = it_is_the_arc;
  is_budget = (omega arith, omega arith);
  text = refl;
  in_order = λ i j d h l. absurd (omega (arith, h, l));
  accepted = items_are_accepted;
  in_range = omega arith;
  agrees = ((one_cable_is_legal, refl), record { reached = (1, _, omega arith, refl, (refl, refl)); least = least_bound });
}
