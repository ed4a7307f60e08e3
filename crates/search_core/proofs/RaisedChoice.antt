-- What is chosen on a node by raised weights.
use Rattle.std.proofs.Common.{◌≡◌, ◌≢◌, ℕ, ◌^◌, ◌≤◌, ℤ, pos, negsuc, ◌≤ℤ◌, ◌<ℤ◌, List, [], length, slice_get, Some, None, Option, Result, IfOk, sym, ◌∙◌, ap, subst, arith, rules}
use Rattle.std.specs.Prelude.{nat_abs}
use Rattle.std.proofs.lemmas.Int.{ints, to_z-of_z}
use Rattle.std.specs.Int.{w128}
use mir.Val.{to_z, of_z}
use Rattle.cable_definitions.specs.declared.cable.Arc.{Arc}
use Rattle.cable_definitions.specs.declared.row.Mark.{Mark}
use Rattle.cable_definitions.specs.declared.row.Mark.TheVariants.{Free}
use Rattle.cable_definitions.specs.declared.row.Act.{Act}
use Rattle.cable_definitions.specs.declared.row.Act.TheVariants.{Split, Stop, Dead, Full}
use Rattle.cable_definitions.specs.Site.{Site, IsValid}
use Rattle.cable_definitions.specs.Arcs.{AreArcs}
use Rattle.cable_definitions.specs.Row.{Row}
use Rattle.cable_definitions.specs.Choice.{AreLawful, IsValue}
use Rattle.cable_definitions.specs.Core.{HasLift}
use Rattle.cable_definitions.specs.Tree.{IsBound}
use Rattle.proof_laws.specs.Decided.{HasPointRows}
use Rattle.proof_laws.proofs.FullWhole.{full-from}
use Rattle.node_reasons.specs.Node.{NodeParts}
use Rattle.search_progress.specs.Chosen.{Closes, NeedsSplit, IsActFor, IsNodeBound}
use Rattle.search_core.specs.Raised.{IsRaised}
use Rattle.search_progress.specs.Settled.{IsSettled, IsSettledAt}
use Rattle.search_progress.specs.declared.settling.Choice.{Choice}
use Rattle.search_core.specs.declared.worth.Worth.{Worth}

-- a bound that is passed on is the same bound
pub passed-bound : (z : ℤ) → pos 0 ≤ℤ z → z <ℤ pos (2 ^ 100) → to_z w128 (of_z w128 z) ≡ z
passed-bound z h k = to_z-of_z w128 z (omega (arith, ints, h, k))

-- a value that is passed on is the same value
pub passed-value : (z : ℤ) → nat_abs z ≤ 10 ^ 36 → to_z w128 (of_z w128 z) ≡ z
passed-value (pos n) h = to_z-of_z w128 (pos n) (omega (arith, ints, h))
passed-value (negsuc n) h = to_z-of_z w128 (negsuc n) (omega (arith, ints, h))

-- a new bound that is small where its parent's is, is small as it is passed on
pub passed-small : (parent bound : ℤ) → pos 0 ≤ℤ parent → parent <ℤ pos (2 ^ 100) → (to_z w128 (of_z w128 parent) <ℤ pos (2 ^ 100) → bound <ℤ pos (2 ^ 100)) → pos 0 ≤ℤ bound
    → to_z w128 (of_z w128 bound) <ℤ pos (2 ^ 100)
passed-small parent bound h k small o =
    let less : bound <ℤ pos (2 ^ 100) = small (subst (λ (z : ℤ). z <ℤ pos (2 ^ 100)) (sym (passed-bound parent h k)) k) in
    subst (λ (z : ℤ). z <ℤ pos (2 ^ 100)) (sym (passed-bound bound o less)) less

-- a value gives one bound
pub one-bound : (parent : ℕ) (value : ℤ) (b c : ℕ) → IsBound parent value b → IsBound parent value c → b ≡ c
one-bound parent value b c first second =
    let up = first.least c second.parent second.value_below in
    let down = second.least b first.parent first.value_below in
    omega (arith, up, down)

-- what closes a node may be done on it
closes-act : (s : Site) (arcs : List Arc) (rows : List Row) (marks : List Mark) (known : Option ℕ) (weights : List (ℕ × ℤ)) (bound after : ℕ) (act : Act) → Closes s arcs rows marks known bound act after
    → IsActFor s arcs rows marks known weights bound act after
closes-act s arcs rows marks known weights bound after (Split a) closes = absurd closes
closes-act s arcs rows marks known weights bound after Stop closes = closes
closes-act s arcs rows marks known weights bound after (Dead why) closes = closes
closes-act s arcs rows marks known weights bound after Full closes = closes

-- the bound of raised weights
raised-bound : (s : Site) (arcs : List Arc) (rows : List Row) (marks : List Mark) (parent bound : ℕ) (worth : Worth) (weights : List (ℕ × ℤ)) → IsRaised s arcs rows marks worth → weights ≡ worth.weights
    → IsBound parent worth.value bound → IsNodeBound s arcs rows marks weights parent bound
raised-bound s arcs rows marks parent bound worth weights raised e is =
    subst (λ (w : List (ℕ × ℤ)). IsNodeBound s arcs rows marks w parent bound) (sym e) (record { value = worth.value; is_value = raised.is_value; is_bound = is })

-- a node that needs no split
pub closed-chosen : (s : Site) (arcs : List Arc) (rows : List Row) (marks : List Mark) (known : Option ℕ) (parent : ℤ) (worth : Worth) (weights : List (ℕ × ℤ)) (closed : Option Choice) (choice : Choice)
    → pos 0 ≤ℤ parent → parent <ℤ pos (2 ^ 100) → IsRaised s arcs rows marks worth → weights ≡ worth.weights
    → IsSettledAt s arcs rows marks known (nat_abs (to_z w128 (of_z w128 parent))) worth.value closed → closed ≡ Some choice
    → (bound : ℕ) × IsNodeBound s arcs rows marks weights (nat_abs parent) bound × IsActFor s arcs rows marks known weights bound choice.act (nat_abs choice.bound)
closed-chosen s arcs rows marks known parent worth weights closed choice h k raised e settled f =
    let is = subst (λ (z : ℤ). IsBound (nat_abs z) worth.value settled.bound) (passed-bound parent h k) settled.is_bound in
    let closing = subst (IsSettled s arcs rows marks known settled.bound) f settled.settled in (
      settled.bound,
      raised-bound s arcs rows marks (nat_abs parent) settled.bound worth weights raised e is,
      closes-act s arcs rows marks known weights settled.bound (nat_abs choice.bound) choice.act closing.closes,
    )

-- what a node that needs one needs
pub settled-open : (s : Site) (arcs : List Arc) (rows : List Row) (marks : List Mark) (known : Option ℕ) (parent : ℕ) (value : ℤ) (closed : Option Choice)
    → IsSettledAt s arcs rows marks known parent value closed → closed ≡ None → (bound : ℕ) × IsBound parent value bound × NeedsSplit s arcs rows marks known bound
settled-open s arcs rows marks known parent value closed settled f = (settled.bound, settled.is_bound, subst (IsSettled s arcs rows marks known settled.bound) f settled.settled)

-- a node that is split
pub split-chosen : (s : Site) (arcs : List Arc) (rows : List Row) (marks : List Mark) (known : Option ℕ) (parent : ℤ) (worth : Worth) (weights : List (ℕ × ℤ)) (closed : Option Choice) (a : ℕ) (after : ℤ)
    → pos 0 ≤ℤ parent → parent <ℤ pos (2 ^ 100) → IsRaised s arcs rows marks worth → weights ≡ worth.weights
    → IsSettledAt s arcs rows marks known (nat_abs (to_z w128 (of_z w128 parent))) worth.value closed → closed ≡ None → slice_get marks a ≡ Some Free
    → pos 0 ≤ℤ after → (to_z w128 (of_z w128 parent) <ℤ pos (2 ^ 100) → after <ℤ pos (2 ^ 100)) → IsBound (nat_abs (to_z w128 (of_z w128 parent))) (to_z w128 (of_z w128 worth.value)) (nat_abs after)
    → (bound : ℕ) × IsNodeBound s arcs rows marks weights (nat_abs parent) bound × ((slice_get marks a ≡ Some Free) × (nat_abs (to_z w128 (of_z w128 after)) ≡ bound)
    × NeedsSplit s arcs rows marks known bound × ((r : ℕ) → ¬ (HasLift s arcs rows marks weights r)))
split-chosen s arcs rows marks known parent worth weights closed a after h k raised e settled f free positive small bound_is =
    let needs = settled-open s arcs rows marks known _ worth.value closed settled f in
    let less : after <ℤ pos (2 ^ 100) = small (subst (λ (z : ℤ). z <ℤ pos (2 ^ 100)) (sym (passed-bound parent h k)) k) in
    let same : nat_abs (to_z w128 (of_z w128 after)) ≡ needs.0 = ap nat_abs (passed-bound after positive less) ∙ one-bound _ worth.value (nat_abs after) needs.0
    (subst (λ (z : ℤ). IsBound (nat_abs (to_z w128 (of_z w128 parent))) z (nat_abs after)) (passed-value worth.value raised.small) bound_is) needs.1 in
    let is = subst (λ (z : ℤ). IsBound (nat_abs z) worth.value needs.0) (passed-bound parent h k) needs.1 in (
      needs.0,
      raised-bound s arcs rows marks (nat_abs parent) needs.0 worth weights raised e is,
      (free, same, needs.2, subst (λ (w : List (ℕ × ℤ)). (r : ℕ) → ¬ (HasLift s arcs rows marks w r)) (sym e) raised.no_lift),
    )

-- a node that needs a split has a free arc
pub some-free : (s : Site) (arcs : List Arc) (rows : List Row) (marks : List Mark) (known : Option ℕ) (parent : ℕ) (value : ℤ) (closed : Option Choice) → IsValid s → AreArcs s arcs
    → length marks ≡ length arcs → HasPointRows s arcs rows → IsSettledAt s arcs rows marks known parent value closed → closed ≡ None → ¬ ((a : ℕ) → slice_get marks a ≢ Some Free)
some-free s arcs rows marks known parent value closed valid are count listed settled f none =
    let needs = settled-open s arcs rows marks known parent value closed settled f in
    let full = full-from s arcs rows marks needs.0 (record {
      valid = valid;
      are_arcs = are;
      decided = record { as_many = count; none_free = λ a mark e same. none a (e ∙ ap Some same) };
      listed = listed;
      no_reason = needs.2.alive;
    }) in
    needs.2.not_full full.0 full.1

-- the same for a parent's bound that was passed on
pub chosen-passed : {E : Type 0} → (s : Site) (arcs : List Arc) (rows : List Row) (marks : List Mark) (known : Option ℕ) (parent : ℤ) (weights : List (ℕ × ℤ)) (result : Result Choice E)
    → pos 0 ≤ℤ parent → parent <ℤ pos (2 ^ 100)
    → IfOk result (λ choice. (bound : ℕ) × IsNodeBound s arcs rows marks weights (nat_abs (to_z w128 (of_z w128 parent))) bound × IsActFor s arcs rows marks known weights bound choice.act (nat_abs choice.bound))
    → IfOk result (λ choice. (bound : ℕ) × IsNodeBound s arcs rows marks weights (nat_abs parent) bound × IsActFor s arcs rows marks known weights bound choice.act (nat_abs choice.bound))
chosen-passed s arcs rows marks known parent weights result h k chosen =
    subst (λ (z : ℤ). IfOk result (λ choice. (bound : ℕ) × IsNodeBound s arcs rows marks weights (nat_abs z) bound × IsActFor s arcs rows marks known weights bound choice.act (nat_abs choice.bound)))
    (passed-bound parent h k) chosen

-- ---- bounds that are passed on
-- what is done with the box of a node is done with the node of its site, arcs and marks
pub settled-there : (s : Site) (arcs : List Arc) (rows : List Row) (marks : List Mark) (node : NodeParts) (known : Option ℕ) (bound : ℕ) (closed : Option Choice) → node ≡ record { site = s; arcs = arcs; marks = marks }
    → IsSettled node.site node.arcs rows node.marks known bound closed → IsSettled s arcs rows marks known bound closed
settled-there s arcs rows marks node known bound closed same settled = subst (λ (n : NodeParts). IsSettled n.site n.arcs rows n.marks known bound closed) same settled

-- what is known of a node at the bound that was computed
pub settled-at : (s : Site) (arcs : List Arc) (rows : List Row) (marks : List Mark) (known : Option ℕ) (parent value bound : ℤ) (closed : Option Choice) → pos 0 ≤ℤ parent → parent <ℤ pos (2 ^ 100)
    → nat_abs value ≤ 10 ^ 36 → IsBound (nat_abs (to_z w128 (of_z w128 parent))) (to_z w128 (of_z w128 value)) (nat_abs bound) → pos 0 ≤ℤ bound
    → (to_z w128 (of_z w128 parent) <ℤ pos (2 ^ 100) → bound <ℤ pos (2 ^ 100)) → IsSettled s arcs rows marks known (nat_abs (to_z w128 (of_z w128 bound))) closed
    → IsSettledAt s arcs rows marks known (nat_abs parent) value closed
settled-at s arcs rows marks known parent value bound closed h k few is positive small settled =
    let less : bound <ℤ pos (2 ^ 100) = small (subst (λ (z : ℤ). z <ℤ pos (2 ^ 100)) (sym (passed-bound parent h k)) k) in
    record {
      bound = nat_abs bound;
      is_bound =
          subst (λ (z : ℤ). IsBound (nat_abs z) value (nat_abs bound)) (passed-bound parent h k)
          (subst (λ (z : ℤ). IsBound (nat_abs (to_z w128 (of_z w128 parent))) z (nat_abs bound)) (passed-value value few) is);
      settled = subst (λ (z : ℤ). IsSettled s arcs rows marks known (nat_abs z) closed) (passed-bound bound positive less) settled;
    }

-- what is known of a node stays known of the same rows and value
pub settled-kept : (s : Site) (arcs : List Arc) (rows new : List Row) (marks : List Mark) (known : Option ℕ) (parent : ℕ) (value after : ℤ) (closed : Option Choice) → new ≡ rows → after ≡ value
    → IsSettledAt s arcs rows marks known parent value closed → IsSettledAt s arcs new marks known parent after closed
settled-kept s arcs rows new marks known parent value after closed e f settled =
    subst (λ (v : ℤ). IsSettledAt s arcs new marks known parent v closed) (sym f) (subst (λ (r : List Row). IsSettledAt s arcs r marks known parent value closed) (sym e) settled)

-- no weights are lawful
pub none-lawful : (rows : List Row) → AreLawful rows []
none-lawful rows = record { ascending = search rules; listed = search rules; not_zero = search rules; small = search rules; signs = search rules }

-- what closes a node at the bound of its weights
pub bare-chosen : (s : Site) (arcs : List Arc) (rows : List Row) (marks : List Mark) (known : Option ℕ) (parent value : ℤ) (weights : List (ℕ × ℤ)) (choice : Choice) → IsValue s arcs rows marks weights value
    → IsSettledAt s arcs rows marks known (nat_abs parent) value (Some choice)
    → (bound : ℕ) × IsNodeBound s arcs rows marks weights (nat_abs parent) bound × IsActFor s arcs rows marks known weights bound choice.act (nat_abs choice.bound)
bare-chosen s arcs rows marks known parent value weights choice is settled = (
  settled.bound,
  record { value = value; is_value = is; is_bound = settled.is_bound },
  closes-act s arcs rows marks known weights settled.bound (nat_abs choice.bound) choice.act settled.settled.closes,
)
