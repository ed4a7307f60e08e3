-- The used arcs of a box, and their walks, which are beginnings of the walks of each layout in the box.
use Rattle.std.proofs.Common.{◌≡◌, ℕ, zero, suc, ◌≤◌, inl, inr, true, cond, List, [], ◌∷◌, slice_get, Some, None, refl, ap, sym, ◌∙◌, subst, arith}
use Rattle.std.specs.List.{AllZip, enumerate_from}
use Rattle.std.proofs.lemmas.List.Sums.{sum_by-le-sum_by}
use Rattle.cable_definitions.specs.declared.cable.Cable.{Cable}
use Rattle.cable_definitions.specs.declared.cable.Arc.{Arc}
use Rattle.cable_definitions.specs.declared.row.Mark.{Mark}
use Rattle.cable_definitions.specs.declared.row.Mark.TheVariants.{Free, Used, Unused}
use Rattle.cable_definitions.specs.declared.site.Point.{Point}
use Rattle.cable_definitions.specs.Site.{Site}
use Rattle.cable_definitions.specs.Arcs.{power_of_kind}
use Rattle.cable_definitions.specs.Walk.{cable_out, walk_end, most_steps, passes, load}
use Rattle.cable_definitions.specs.Row.{has_arc}
use Rattle.cable_definitions.specs.Choice.{IsKept, IsInBox}
use Rattle.cable_definitions.specs.Tree.{used_cables}
use Rattle.layout_laws.specs.Alike.{StartsDiffer}
use Rattle.layout_laws.proofs.Alike.{cable_out-from, cable_out-place, cable_out-of}
use Rattle.layout_laws.proofs.Walking.{out_cases, walk_end-stays, walk_end-step, comes_to-from_end, end-from_comes_to}
use Rattle.proof_laws.proofs.Lists.{true_or_false}
use Rattle.proof_laws.proofs.Cables.{CableOn, cable_on}

-- An arc marked used, with its place.
pub record UsedArc (arcs : List Arc) (marks : List Mark) (from to : ℕ) : Type 0 where
  pub place : ℕ
  pub arc : Arc
  pub is_arc : slice_get arcs place ≡ Some arc
  pub is_used : slice_get marks place ≡ Some Used
  pub starts : arc.from ≡ from
  pub ends : arc.to ≡ to

-- the same among longer lists
abbrev pub used_arc-later : (arcs : List Arc) (marks : List Mark) (from to : ℕ) (a : Arc) (m : Mark) → UsedArc arcs marks from to → UsedArc (a ∷ arcs) (m ∷ marks) from to
used_arc-later arcs marks from to a m u = record { place = suc u.place; arc = u.arc; is_arc = u.is_arc; is_used = u.is_used; starts = u.starts; ends = u.ends }

-- each used cable is that of a used arc
pub used_arc : (arcs : List Arc) (marks : List Mark) (i : ℕ) (c : Cable) → slice_get (used_cables arcs marks) i ≡ Some c → UsedArc arcs marks c.from c.to
used_arc [] marks i c e = absurd (cc)
used_arc (a ∷ arcs) [] i c e = absurd (cc)
used_arc (a ∷ arcs) (Free ∷ marks) i c e = used_arc-later arcs marks c.from c.to a Free (used_arc arcs marks i c e)
used_arc (a ∷ arcs) (Unused ∷ marks) i c e = used_arc-later arcs marks c.from c.to a Unused (used_arc arcs marks i c e)
used_arc (a ∷ arcs) (Used ∷ marks) zero c e =
    let own : Cable = record { from = a.from; to = a.to; grade = 0 } in
    let same : own ≡ c = cc in
    record { place = 0; arc = a; is_arc = refl; is_used = refl; starts = ap (λ (x : Cable). x.from) same; ends = ap (λ (x : Cable). x.to) same }
used_arc (a ∷ arcs) (Used ∷ marks) (suc i) c e = used_arc-later arcs marks c.from c.to a Used (used_arc arcs marks i c e)

-- and each used arc has a used cable
pub used_cable_on : (arcs : List Arc) (marks : List Mark) (k : ℕ) (a : Arc) → slice_get arcs k ≡ Some a → slice_get marks k ≡ Some Used → CableOn (used_cables arcs marks) a
used_cable_on [] marks k a e f = absurd (cc)
used_cable_on (b ∷ arcs) [] k a e f = absurd (cc)
used_cable_on (b ∷ arcs) (Free ∷ marks) zero a e f = absurd (cc)
used_cable_on (b ∷ arcs) (Unused ∷ marks) zero a e f = absurd (cc)
used_cable_on (b ∷ arcs) (Used ∷ marks) zero a e f =
    let same : b ≡ a = cc in
    record {
      place = 0;
      cable = record { from = b.from; to = b.to; grade = 0 };
      is_cable = refl;
      from = ap (λ (x : Arc). x.from) same;
      to = ap (λ (x : Arc). x.to) same;
    }
used_cable_on (b ∷ arcs) (Free ∷ marks) (suc k) a e f = used_cable_on arcs marks k a e f
used_cable_on (b ∷ arcs) (Unused ∷ marks) (suc k) a e f = used_cable_on arcs marks k a e f
used_cable_on (b ∷ arcs) (Used ∷ marks) (suc k) a e f =
    let on = used_cable_on arcs marks k a e f in
    record { place = suc on.place; cable = on.cable; is_cable = on.is_cable; from = on.from; to = on.to }

-- a relation at each place of two lists
pub zip_at : {X Y : Type 0} → (R : X → Y → Type 0) (xs : List X) (ys : List Y) → AllZip R xs ys → (k : ℕ) (x : X) (y : Y) → slice_get xs k ≡ Some x → slice_get ys k ≡ Some y → R x y
zip_at R [] ys z k x y e f = absurd (cc)
zip_at R (x' ∷ xs) [] z k x y e f = absurd (cc)
zip_at R (x' ∷ xs) (y' ∷ ys) z zero x y e f =
    let a : x' ≡ x = cc in
    let b : y' ≡ y = cc in
    subst (λ v. R x v) b (subst (λ v. R v y') a z.0)
zip_at R (x' ∷ xs) (y' ∷ ys) z (suc k) x y e f = zip_at R xs ys z.1 k x y e f

-- out of each point from which one list has a cable, the other has one to the same end
abbrev pub IsWithin : List Cable → List Cable → Type 0
IsWithin part whole = (p : ℕ) (c : Cable) → cable_out part p ≡ Some c → (d : Cable) × (cable_out whole p ≡ Some d) × (d.to ≡ c.to)

-- a layout in a box has each arc that is used there
pub used_on : (arcs : List Arc) (marks : List Mark) (cables : List Cable) → IsInBox arcs marks cables → (k : ℕ) (a : Arc) → slice_get arcs k ≡ Some a → slice_get marks k ≡ Some Used → CableOn cables a
used_on arcs marks cables box k a e f = cable_on cables a (zip_at (λ a mark. IsKept mark (has_arc cables a)) arcs marks box k a Used e f)

-- the used cables of a box are within each layout of the box
pub used_within : (arcs : List Arc) (marks : List Mark) (cables : List Cable) → StartsDiffer cables → IsInBox arcs marks cables → IsWithin (used_cables arcs marks) cables
used_within arcs marks cables differ box p c e =
    let place = cable_out-place (used_cables arcs marks) p c e in
    let u = used_arc arcs marks place.0 c place.1 in
    let on = used_on arcs marks cables box u.place u.arc u.is_arc u.is_used in
    let from : on.cable.from ≡ p = on.from ∙ u.starts ∙ cable_out-from (used_cables arcs marks) p c e in
    (on.cable, ap (cable_out cables) (sym from) ∙ cable_out-of cables differ on.place on.cable on.is_cable, on.to ∙ u.ends)

-- where the walk over a part stands, the walk over the whole stands after at most as many steps
pub walk_within : (part whole : List Cable) → IsWithin part whole → (steps t : ℕ) → (j : ℕ) × (j ≤ steps) × (walk_end j whole t ≡ walk_end steps part t)
walk_within part whole w zero t = (0, omega arith, refl)
walk_within part whole w (suc steps) t = elim (out_cases part t) [
  | inl n ↦ (0, omega arith, sym (walk_end-stays part t (suc steps) n))
  | inr c ↦
      let d = w t c.0 c.1 in
      let r = walk_within part whole w steps c.0.to in
      let l : r.0 ≤ steps = r.1 in
      (suc r.0, omega arith, walk_end-step whole t r.0 d.0 d.1 ∙ ap (walk_end r.0 whole) d.2 ∙ r.2 ∙ sym (walk_end-step part t steps c.0 c.1))
]

-- a walk over a part that isn't at its end stands where the walk over the whole stands
pub walk_within-going : (part whole : List Cable) → IsWithin part whole → (steps t : ℕ) (c : Cable) → cable_out part (walk_end steps part t) ≡ Some c → walk_end steps whole t ≡ walk_end steps part t
walk_within-going part whole w zero t c e = refl
walk_within-going part whole w (suc steps) t c e = elim (out_cases part t) [
  | inl n ↦ absurd (let q : None ≡ Some c = sym n ∙ ap (cable_out part) (sym (walk_end-stays part t (suc steps) n)) ∙ e in cc)
  | inr b ↦
      let d = w t b.0 b.1 in
      let here = walk_end-step part t steps b.0 b.1 in
      walk_end-step whole t steps d.0 d.1 ∙ ap (walk_end steps whole) d.2 ∙ walk_within-going part whole w steps b.0.to c (ap (cable_out part) (sym here) ∙ e) ∙ sym here
]

-- a walk over the whole passes what the walk over the part passes
pub passes_within : (part whole : List Cable) → IsWithin part whole → (p t : ℕ) → passes part p t ≡ true → passes whole p t ≡ true
passes_within part whole w p t h =
    let k = end-from_comes_to part p most_steps t h in
    let r = walk_within part whole w k.0 t in
    let a : k.0 ≤ most_steps = k.1 in
    let b : r.0 ≤ k.0 = r.1 in
    comes_to-from_end whole p most_steps t r.0 (omega arith) (r.2 ∙ k.2)

-- so the load over the part is at most the load over the whole
pub load_within : (s : Site) (part whole : List Cable) → IsWithin part whole → (p : ℕ) → load s part p ≤ load s whole p
load_within s part whole w p =
    sum_by-le-sum_by
    (λ (x : ℕ × Point). cond (passes part p x.0) (power_of_kind x.1.kind) 0)
    (λ (x : ℕ × Point). cond (passes whole p x.0) (power_of_kind x.1.kind) 0)
    (enumerate_from 0 s.points)
    (λ x. each x.0 (power_of_kind x.1.kind))
  where
    each : (t n : ℕ) → cond (passes part p t) n 0 ≤ cond (passes whole p t) n 0
    each t n = elim (true_or_false (passes part p t)) [
      | inl h ↦ rw (h, passes_within part whole w p t h) (omega arith)
      | inr h ↦ rw h (omega arith)
    ]
