-- Every legal layout of a site without bends and with one type has a choice of one end for each turbine that is legal too, at the same cost.
use Rattle.std.proofs.Common.{◌≡◌, ◌≢◌, ℕ, suc, ◌+◌, ◌<◌, ◌≤◌, ◌⊎◌, inl, inr, List, [], ◌∷◌, length, get_or, slice_get, Option, Some, None, true, false, eqb, IsSome, refl, sym, ◌∙◌, ap, subst, arith}
use Rattle.std.specs.Prelude.{All}
use Rattle.std.specs.List.{cons_option}
use Rattle.std.proofs.lemmas.Bool.{cases_eq, cases_lt, false≢true}
use Rattle.std.proofs.lemmas.Bool.Decides.{nat_tests}
use Rattle.std.proofs.lemmas.Option.{slice_get_within, get_or_from_slice_get}
use Rattle.std.proofs.lemmas.List.Elements.{All-nil, All-cons}
use Rattle.std.proofs.lemmas.List.Kept.{AllPairs-cons}
use Rattle.cable_definitions.specs.declared.cable.Cable.{Cable}
use Rattle.cable_definitions.specs.declared.site.Kind.{Kind}
use Rattle.cable_definitions.specs.declared.site.Kind.TheVariants.{Turbine, Substation, Bend}
use Rattle.cable_definitions.specs.declared.site.Point.{Point}
use Rattle.cable_definitions.specs.Site.{Site}
use Rattle.cable_definitions.specs.Arcs.{kind_of, kind_from, is_turbine, is_substation}
use Rattle.cable_definitions.specs.Walk.{cable_out}
use Rattle.cable_definitions.specs.Layout.{IsLegal, cost}
use Rattle.layout_laws.specs.Alike.{StartsDiffer, SameOuts}
use Rattle.layout_laws.proofs.Alike.{cable_out-from, cable_out-place, IsLegal-ordered, cost-ordered}
use Rattle.plain_planner.specs.Choices.{cable_to, ChoiceAt, IsOneEach, Ascends}

-- the first cables out of so many points from p on, in order
abbrev pub outs : List Cable → ℕ → List Point → List Cable
outs cables p [] = []
outs cables p (point ∷ points) = cons_option (cable_out cables p) (outs cables (p + 1) points)

-- a cable out of a point of a legal layout of one type, made anew
cable_is : (s : Site) (cables : List Cable) (p : ℕ) (c : Cable) → length s.types ≡ 1 → IsLegal s cables → cable_out cables p ≡ Some c → (q : ℕ) × (q < length s.points) × (c ≡ cable_to p q)
cable_is s cables p c one l e =
    let at = cable_out-place cables p c e in
    let from = cable_out-from cables p c e in
    let grade : c.grade ≡ 0 = omega (arith, one, (l.range at.0).grade c at.1) in
    (c.to, (l.range at.0).to c at.1, same_cable c p 0 from grade)
  where
    same_cable : (c : Cable) (p grade : ℕ) → c.from ≡ p → c.grade ≡ grade → c ≡ record { from = p; to = c.to; grade = grade }
    same_cable c p grade e f = ap (λ (x : ℕ). record { from = x; to = c.to; grade = c.grade }) e ∙ ap (λ (x : ℕ). record { from = p; to = c.to; grade = x }) f

-- no cable of a legal layout starts in a substation
substation_none : (s : Site) (cables : List Cable) (p feeders power : ℕ) → IsLegal s cables → kind_of s p ≡ Substation feeders power → (o : Option Cable) → cable_out cables p ≡ o → o ≡ None
substation_none s cables p feeders power l e None f = refl
substation_none s cables p feeders power l e (Some c) f =
    let at = cable_out-place cables p c f in
    let k = l.candidate at.0 c at.1 in
    let here : kind_from (slice_get s.points p) ≡ k.from.kind = ap (λ (n : ℕ). kind_from (slice_get s.points n)) (sym (cable_out-from cables p c f)) ∙ ap kind_from k.from_is in
    absurd (k.no_substation (ap is_substation (sym here ∙ e)))

-- a turbine of a legal layout starts a cable
turbine_some : (s : Site) (cables : List Cable) (p power : ℕ) → IsLegal s cables → kind_of s p ≡ Turbine power → IsSome (cable_out cables p)
turbine_some s cables p power l e = l.joined p (ap is_turbine e)

-- the first cables out of all points are a choice
outs_are : (s : Site) (cables : List Cable) → length s.types ≡ 1 → IsLegal s cables → (p : ℕ) (points : List Point)
    → ((i : ℕ) (point : Point) → slice_get points i ≡ Some point → (kind_of s (p + i) ≡ point.kind) × (point.kind ≢ Bend)) → IsOneEach s p points (outs cables p points)
outs_are s cables one l p [] h = refl
outs_are s cables one l p (point ∷ points) h =
    let further = outs_are s cables one l (p + 1) points (λ i x e. let k = h (suc i) x e in (ap (kind_of s) (shift i) ∙ k.0, k.1)) in
    let here : kind_of s p ≡ point.kind = ap (kind_of s) (start) ∙ (h 0 point refl).0 in
    by point.kind here (h 0 point refl).1 (cable_out cables p) refl further
  where
    shift : (i : ℕ) → p + 1 + i ≡ p + suc i
    shift i = omega arith

    start : p ≡ p + 0
    start = omega arith

    by : (kind : Kind) → kind_of s p ≡ kind → kind ≢ Bend → (o : Option Cable) → cable_out cables p ≡ o → IsOneEach s (p + 1) points (outs cables (p + 1) points)
        → ChoiceAt s p kind (cons_option o (outs cables (p + 1) points)) (IsOneEach s (p + 1) points)
    by (Turbine power) e n None f k = absurd (missing (cable_out cables p) f (turbine_some s cables p power l e))
      where
        missing : (o : Option Cable) → o ≡ None → IsSome o → ⊥
        missing None e h = false≢true h
        missing (Some c) e h = cc
    by (Turbine power) e n (Some c) f k = (cable_is s cables p c one l f, k)
    by (Substation feeders power) e n o f k = subst (λ (x : Option Cable). IsOneEach s (p + 1) points (cons_option x (outs cables (p + 1) points))) (sym (substation_none s cables p feeders power l e o f)) k
    by Bend e n o f k = absurd (n refl)

-- a first cable out of another point isn't found
passed_over : (o : Option Cable) (rest : List Cable) (p q : ℕ) → ((c : Cable) → o ≡ Some c → c.from ≡ p) → p ≢ q → cable_out (cons_option o rest) q ≡ cable_out rest q
passed_over None rest p q from n = refl
passed_over (Some c) rest p q from n = let e : eqb c.from q ≡ false = not_equal c.from (from c refl) in rw e refl
  where
    not_equal : (k : ℕ) → k ≡ p → eqb k q ≡ false
    not_equal k e = grind (arith, nat_tests)

-- no first cable out of a point from p on starts before p
none_below : (cables : List Cable) (p : ℕ) (points : List Point) (q : ℕ) → q < p → cable_out (outs cables p points) q ≡ None
none_below cables p [] q h = refl
none_below cables p (point ∷ points) q h =
    passed_over (cable_out cables p) (outs cables (p + 1) points) p q (cable_out-from cables p) (omega arith) ∙ none_below cables (p + 1) points q (omega arith)

-- nor behind them
none_above : (cables : List Cable) (p : ℕ) (points : List Point) (q : ℕ) → p + length points ≤ q → cable_out (outs cables p points) q ≡ None
none_above cables p [] q h = refl
none_above cables p (point ∷ points) q h =
    passed_over (cable_out cables p) (outs cables (p + 1) points) p q (cable_out-from cables p) (omega arith) ∙ none_above cables (p + 1) points q (omega arith)

-- the first cable out of p stands in front
in_front : (o : Option Cable) (rest : List Cable) (p : ℕ) → ((c : Cable) → o ≡ Some c → c.from ≡ p) → cable_out rest p ≡ None → cable_out (cons_option o rest) p ≡ o
in_front None rest p from n = n
in_front (Some c) rest p from n = let e : eqb c.from p ≡ true = equal c.from (from c refl) in rw e refl
  where
    equal : (k : ℕ) → k ≡ p → eqb k p ≡ true
    equal k e = grind (arith, nat_tests)

-- out of each of these points it is the same
same_between : (cables : List Cable) (p : ℕ) (points : List Point) (q : ℕ) → p ≤ q → q < p + length points → cable_out (outs cables p points) q ≡ cable_out cables q
same_between cables p [] q h k = absurd (omega arith)
same_between cables p (point ∷ points) q h k = by (cases_eq p q) (λ n. same_between cables (p + 1) points q (omega arith) (omega arith))
  where
    by : (p ≡ q) ⊎ (p ≢ q) → (p ≢ q → cable_out (outs cables (p + 1) points) q ≡ cable_out cables q) → cable_out (cons_option (cable_out cables p) (outs cables (p + 1) points)) q ≡ cable_out cables q
    by (inl e) later =
        subst (λ (x : ℕ). cable_out (cons_option (cable_out cables p) (outs cables (p + 1) points)) x ≡ cable_out cables x) e
        (in_front (cable_out cables p) (outs cables (p + 1) points) p (cable_out-from cables p) (none_below cables (p + 1) points p (omega arith)))
    by (inr n) later = passed_over (cable_out cables p) (outs cables (p + 1) points) p q (cable_out-from cables p) n ∙ later n

-- out of a point past the site starts no cable of a legal layout
none_past : (s : Site) (cables : List Cable) (q : ℕ) → IsLegal s cables → length s.points ≤ q → (o : Option Cable) → cable_out cables q ≡ o → o ≡ None
none_past s cables q l h None e = refl
none_past s cables q l h (Some c) e =
    let at = cable_out-place cables q c e in
    absurd (omega (arith, cable_out-from cables q c e, (l.range at.0).from c at.1))

-- out of each point the choice has the same first cable
same_outs : (s : Site) (cables : List Cable) → IsLegal s cables → SameOuts cables (outs cables 0 s.points)
same_outs s cables l q = by (cases_lt q (length s.points))
  where
    by : (q < length s.points) ⊎ (length s.points ≤ q) → cable_out cables q ≡ cable_out (outs cables 0 s.points) q
    by (inl h) = sym (same_between cables 0 s.points q (omega arith) (omega arith))
    by (inr h) = none_past s cables q l h (cable_out cables q) refl ∙ sym (none_above cables 0 s.points q (omega arith))

-- a choice starts in ascending points, from p on
pub record Rises (p : ℕ) (cables : List Cable) : Type 0 where
  pub from : All (λ c. p ≤ c.from) cables
  pub in_order : Ascends cables

-- one more cable in front
rises_more : (p : ℕ) (c : Cable) (cables : List Cable) → c.from ≡ p → Rises (p + 1) cables → Rises p (c ∷ cables)
rises_more p c cables e h = record {
  from = All-cons (λ (d : Cable). p ≤ d.from) c cables (omega arith) (λ k d i. omega (arith, h.from k d i));
  in_order = AllPairs-cons (λ (c d : Cable). c.from < d.from) c cables (λ k d i. omega (arith, h.from k d i)) h.in_order;
}

-- fewer points in front
rises_later : (p : ℕ) (cables : List Cable) → Rises (p + 1) cables → Rises p cables
rises_later p cables h = record { from = λ k d i. omega (arith, h.from k d i); in_order = h.in_order }

-- each choice rises
pub choice_rises : (s : Site) (p : ℕ) (points : List Point) (cables : List Cable) → IsOneEach s p points cables → Rises p cables
choice_rises s p [] cables h = subst (Rises p) (sym h) (record { from = All-nil (λ (c : Cable). p ≤ c.from); in_order = λ i j d k l. absurd (omega arith) })
choice_rises s p (point ∷ points) cables h = by point.kind cables (choice_rises s (p + 1) points) h
  where
    by : (kind : Kind) (cables : List Cable) → ((rest : List Cable) → IsOneEach s (p + 1) points rest → Rises (p + 1) rest) → ChoiceAt s p kind cables (IsOneEach s (p + 1) points) → Rises p cables
    by (Turbine power) [] further h = absurd h
    by (Turbine power) (c ∷ cables) further h = rises_more p c cables (ap (λ (x : Cable). x.from) h.0.2) (further cables h.1)
    by (Substation feeders power) cables further h = rises_later p cables (further cables h)
    by Bend cables further h = rises_later p cables (further cables h)

-- ascending starts differ
pub starts_differ : (cables : List Cable) → Ascends cables → StartsDiffer cables
starts_differ cables h i j c d ci dj l e =
    let less = h j i c l (slice_get_within cables i c ci) in
    let at_j : get_or cables j c ≡ d = get_or_from_slice_get cables j d c dj in
    let at_i : get_or cables i c ≡ c = get_or_from_slice_get cables i c c ci in
    omega (arith, less, ap (λ (x : Cable). x.from) at_j, ap (λ (x : Cable). x.from) at_i, e)

-- a choice that is as good as a legal layout
pub record IsAsGood (s : Site) (cables choice : List Cable) : Type 0 where
  pub choice_is : IsOneEach s 0 s.points choice
  pub legal : IsLegal s choice
  pub same_cost : cost s choice ≡ cost s cables

-- each legal layout has one
pub completeness : (s : Site) (cables : List Cable) → length s.types ≡ 1 → All (λ p. p.kind ≢ Bend) s.points → IsLegal s cables → (choice : List Cable) × IsAsGood s cables choice
completeness s cables one no_bends l =
    let chosen = outs cables 0 s.points in
    let is = outs_are s cables one l 0 s.points point_at in
    let differ = starts_differ chosen (choice_rises s 0 s.points chosen is).in_order in
    let same = same_outs s cables l in
    (chosen, record { choice_is = is; legal = IsLegal-ordered s cables chosen differ same l; same_cost = sym (cost-ordered s cables chosen l.start differ same) })
  where
    point_at : (i : ℕ) (point : Point) → slice_get s.points i ≡ Some point → (kind_of s (0 + i) ≡ point.kind) × (point.kind ≢ Bend)
    point_at i point e =
        let z : 0 + i ≡ i = omega arith in
        (ap (kind_of s) z ∙ ap kind_from e, subst (λ (x : Point). x.kind ≢ Bend) (get_or_from_slice_get s.points i point point e) (no_bends i point (slice_get_within s.points i point e)))
