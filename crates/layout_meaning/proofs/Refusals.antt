-- Why an arc is refused, and what a blocked turbine is.
use Rattle.std.proofs.Common.{◌≡◌, ℕ, Bool, true, false, List, Option, Some, None, is_some, IsTrue, ◌↔◌, refl, subst}
use Rattle.std.specs.Prelude.{Result, Ok, Err, not, IfNone}
use Rattle.std.specs.Result.{is_ok}
use Rattle.cable_definitions.specs.declared.cable.Cable.{Cable}
use Rattle.cable_definitions.specs.declared.cable.Rule.{Rule}
use Rattle.cable_definitions.specs.Site.{Site}
use Rattle.cable_definitions.specs.Part.{IsGrown, IsBlocked, AreCheapTyped, IsFirstBrokenOfPart}
use Rattle.layout_laws.specs.Typable.{extended_by}
use Rattle.layout_laws.proofs.Typed.{cheap_typed-same, IsGrown-cheap, IsBlocked-cheap, cheap-blocked}
use Rattle.layout_meaning.specs.declared.joining.JoinFault.{JoinFault}
use Rattle.layout_meaning.specs.declared.joining.JoinFault.TheVariants.{Joined, Target, Candidate, Breaks}
use Rattle.layout_meaning.specs.Joining.{IsUnjoined, IsFreeArc, Joins, BreaksWith, NeverGrown, CanJoin, IsJoining}

-- the answer of a refusal
abbrev refused : JoinFault → Result Unit JoinFault
refused fault = Err fault

-- a list with a broken rule isn't grown
pub broken_grown : (s : Site) (cables : List Cable) (rule : Rule) (a b : ℕ) → IsFirstBrokenOfPart s cables rule a b → ¬ (IsGrown s cables)
broken_grown s cables rule a b f grown = f.broken (grown rule f.place f.second_place f.not_unjoined)

-- a free arc that breaks a rule isn't grown with any types
pub breaks_never : (s : Site) (part : List Cable) (from to : ℕ) (rule : Rule) (a b : ℕ) → BreaksWith s part from to rule a b → NeverGrown s part from to
breaks_never s part from to rule a b w typed arcs grown =
    broken_grown s w.typed rule a b w.broken (IsGrown-cheap s (extended_by part from to) w.typed typed w.cheapest arcs grown)

-- an arc that is refused can't be added
pub refused_joins : (s : Site) (part : List Cable) (from to : ℕ) (fault : JoinFault) → IsJoining s part from to (Err fault) → (typed : List Cable) → ¬ (Joins s part from to typed)
refused_joins s part from to Joined f typed j = f j.free.unjoined
refused_joins s part from to Target f typed j = f.1 j.free.target
refused_joins s part from to Candidate f typed j = f.2 j.free.candidate
refused_joins s part from to (Breaks rule a b) f typed j = breaks_never s part from to rule a b f typed j.cheapest.arcs j.grown

-- only a free arc that no types make grown breaks a rule
pub breaks_exactly : (s : Site) (part : List Cable) (from to : ℕ) (fault : JoinFault) → IsJoining s part from to (Err fault)
    → ((rule : Rule) × (a : ℕ) × (b : ℕ) × (refused fault ≡ refused (Breaks rule a b))) ↔ (IsFreeArc s part from to × NeverGrown s part from to)
breaks_exactly s part from to Joined n = (λ e. absurd (let f = e.3 in cc), λ t. absurd (n t.0.unjoined))
breaks_exactly s part from to Target f = (λ e. absurd (let g = e.3 in cc), λ t. absurd (f.1 t.0.target))
breaks_exactly s part from to Candidate f = (λ e. absurd (let g = e.3 in cc), λ t. absurd (f.2 t.0.candidate))
breaks_exactly s part from to (Breaks rule a b) w = (λ e. (w.free, breaks_never s part from to rule a b w), λ t. (rule, a, b, refl))

-- it is the rule that the cheapest types break
pub breaks_first : (s : Site) (part : List Cable) (from to : ℕ) (fault : JoinFault) → IsJoining s part from to (Err fault)
    → (rule : Rule) (a b : ℕ) → refused fault ≡ refused (Breaks rule a b) → (typed : List Cable) → AreCheapTyped s (extended_by part from to) typed → IsFirstBrokenOfPart s typed rule a b
breaks_first s part from to Joined n rule a b e typed cheapest = absurd (cc)
breaks_first s part from to Target f rule a b e typed cheapest = absurd (cc)
breaks_first s part from to Candidate f rule a b e typed cheapest = absurd (cc)
breaks_first s part from to (Breaks r x y) w rule a b e typed cheapest =
    let on_rule : r ≡ rule = cc in
    let on_a : x ≡ a = cc in
    let on_b : y ≡ b = cc in
    subst (λ (k : ℕ). IsFirstBrokenOfPart s typed rule a k) on_b
    (subst (λ (k : ℕ). IsFirstBrokenOfPart s typed rule k y) on_a
    (subst (λ (q : Rule). IsFirstBrokenOfPart s typed q x y) on_rule
    (subst (λ (xs : List Cable). IsFirstBrokenOfPart s xs r x y) (cheap_typed-same s (extended_by part from to) w.typed typed w.cheapest cheapest) w.broken)))

-- a turbine from which no arc can be added is blocked
pub blocked_from : (s : Site) (part : List Cable) (turbine : ℕ) → IsGrown s part → IsUnjoined s part turbine → ¬ (CanJoin s part turbine) → IsBlocked s part turbine
blocked_from s part turbine grown u n =
    IsBlocked-cheap s part turbine grown u.turbine u.not_joined
    (λ q cheap t candidate cheapest g. n (q, cheap, record { free = record { unjoined = u; target = t; candidate = candidate }; cheapest = cheapest; grown = g }))

-- from a blocked turbine no arc can be added
pub blocked_joins : (s : Site) (part : List Cable) (turbine : ℕ) → IsBlocked s part turbine → ¬ (CanJoin s part turbine)
blocked_joins s part turbine b j =
    let joins = j.2 in
    cheap-blocked s part turbine b j.0 j.1 joins.free.target joins.free.candidate joins.cheapest joins.grown

-- an answer says whether the arc can be added
pub added_or_not : (s : Site) (part : List Cable) (from to : ℕ) (r : Result (List Cable) JoinFault) → IsJoining s part from to r → IsTrue (is_ok r) ↔ ((typed : List Cable) × Joins s part from to typed)
added_or_not s part from to (Ok typed) j = (λ t. (typed, j), λ t. refl)
added_or_not s part from to (Err fault) f = (λ t. absurd (cc), λ j. absurd (refused_joins s part from to fault f j.0 j.1))

-- what holds where there is no value
pub where_none : {X : Type 0} → (P : Type 0) (o : Option X) → is_some o ≡ false → IfNone o P → P
where_none P None e h = h
where_none P (Some x) e h = absurd (cc)

-- no arc can be added, and the turbine is blocked
pub blocked_or_not : (s : Site) (part : List Cable) (turbine : ℕ) (can : Bool) → IsGrown s part → IsUnjoined s part turbine → IsTrue can ↔ CanJoin s part turbine → IsTrue (not can) ↔ IsBlocked s part turbine
blocked_or_not s part turbine true grown u k = (λ t. absurd (cc), λ b. absurd (blocked_joins s part turbine b (k.0 refl)))
blocked_or_not s part turbine false grown u k = (λ t. blocked_from s part turbine grown u (λ j. absurd (let e : IsTrue false = k.1 j in cc)), λ b. refl)
