-- Where all arcs are decided and no reason is true, the node is full.
use Rattle.std.proofs.Common.{◌≡◌, ◌≢◌, ℕ, ◌<◌, ◌≤◌, ◌⊎◌, inl, inr, List, slice_get, Some, None, Option, refl, ap, sym, ◌∙◌, subst, arith}
use Rattle.std.specs.Prelude.{IsTrue}
use Rattle.std.proofs.lemmas.Option.{slice_get_within}
use Rattle.cable_definitions.specs.declared.cable.Cable.{Cable}
use Rattle.cable_definitions.specs.declared.cable.Arc.{Arc}
use Rattle.cable_definitions.specs.declared.cable.Rule.{Rule}
use Rattle.cable_definitions.specs.declared.cable.Rule.TheVariants.{Range, Candidate, Start, Unjoined, Bend, Lost, Overload, Feeders, Power, Branch, Clash}
use Rattle.cable_definitions.specs.declared.row.Mark.{Mark}
use Rattle.cable_definitions.specs.declared.row.Why.TheVariants.{Load as LoadWhy, Power as PowerWhy}
use Rattle.cable_definitions.specs.declared.site.Kind.TheVariants.{Substation}
use Rattle.cable_definitions.specs.declared.site.Mode.TheVariants.{Strings}
use Rattle.cable_definitions.specs.declared.site.Point.{Point}
use Rattle.cable_definitions.specs.Site.{Site}
use Rattle.cable_definitions.specs.Arcs.{kind_of, kind_from, is_substation, largest_capacity}
use Rattle.cable_definitions.specs.Walk.{cable_out, load, load_into}
use Rattle.cable_definitions.specs.Layout.{IsCable, Keeps, KeepsJoined, PairsClash}
use Rattle.cable_definitions.specs.Row.{Row, inlet_limit, power_limit}
use Rattle.cable_definitions.specs.Tree.{used_cables, IsFull}
use Rattle.number_laws.proofs.Keys.{value_at}
use Rattle.layout_laws.specs.Typable.{IsTypable}
use Rattle.layout_laws.proofs.Ending.{load_into-substation}
use Rattle.layout_laws.proofs.Typing.{some_cheap_typed}
use Rattle.layout_laws.proofs.Typed.{IsLegal-typable}
use Rattle.proof_laws.proofs.Points.{starts_in-out, turbine_kind}
use Rattle.proof_laws.proofs.Within.{used_arc}
use Rattle.proof_laws.proofs.FullNodes.{full-legal}
use Rattle.proof_laws.proofs.FullLemma.{NoReason, used-out, used-inlet, used-bend, used-differ, used-candidate, used-end, used-lost, no_used_pair, starts_from_count, within-turbine, within-substation}

either : (a b : ℕ) → (a ≤ b) ⊎ (b < a)
either a b = grind arith

-- one cable at most starts in a point where starts differ
starts_in-most : (o : Option Cable) → value_at (λ (c : Cable). 1) o ≤ 1
starts_in-most None = omega arith
starts_in-most (Some c) = omega arith

-- a used cable carries no more than the largest capacity
pub used-load : (s : Site) (arcs : List Arc) (rows : List Row) (marks : List Mark) (bound : ℕ) → NoReason s arcs rows marks bound
    → (i : ℕ) (c : Cable) → IsCable (used_cables arcs marks) i c → load s (used_cables arcs marks) c.from ≤ largest_capacity s
used-load s arcs rows marks bound n i c e = elim (either (load s (used_cables arcs marks) c.from) (largest_capacity s)) [
  | inl fits ↦ fits
  | inr heavy ↦
      let a = used-candidate s arcs marks n.are_arcs i c e in
      let free : ¬ IsTrue (is_substation (kind_of s c.from)) = λ h. a.no_substation (sym (ap (λ (o : Option Point). is_substation (kind_from o)) a.from_is) ∙ h) in
      absurd (n.no_reason (LoadWhy c.from) (slice_get_within s.points c.from a.from a.from_is, free, heavy))
]

-- no more comes to a substation than its power
pub used-power : (s : Site) (arcs : List Arc) (rows : List Row) (marks : List Mark) (bound : ℕ) → NoReason s arcs rows marks bound
    → (p feeders power : ℕ) → kind_of s p ≡ Substation feeders power → load_into s (used_cables arcs marks) p ≤ power
used-power s arcs rows marks bound n p feeders power k =
    let used = used_cables arcs marks in
    let substation : IsTrue (is_substation (kind_of s p)) = ap is_substation k in
    let into = load_into-substation s used (used-differ s arcs rows marks bound n) (used-end s arcs rows marks bound n) p substation in
    let limit : power_limit (kind_of s p) ≡ power = ap power_limit k in
    elim (either (load s used p) (power_limit (kind_of s p))) [
      | inl fits ↦ omega (arith, into, limit, fits)
      | inr heavy ↦ absurd (n.no_reason (PowerWhy p) (substation, heavy))
    ]

-- no two used cables clash
pub used-clear : (s : Site) (arcs : List Arc) (rows : List Row) (marks : List Mark) (bound : ℕ) → NoReason s arcs rows marks bound
    → (i j : ℕ) (c d : Cable) → IsCable (used_cables arcs marks) i c → IsCable (used_cables arcs marks) j d → c.from < d.from → ¬ (PairsClash s c.from c.to d.from d.to)
used-clear s arcs rows marks bound n i j c d e f l clash =
    let u = used_arc arcs marks i c e in
    let v = used_arc arcs marks j d f in
    let moved : PairsClash s u.arc.from u.arc.to v.arc.from v.arc.to =
    subst (λ (x : ℕ). PairsClash s x u.arc.to v.arc.from v.arc.to) (sym u.starts)
    (subst (λ (x : ℕ). PairsClash s c.from x v.arc.from v.arc.to) (sym u.ends)
    (subst (λ (x : ℕ). PairsClash s c.from c.to x v.arc.to) (sym v.starts)
    (subst (λ (x : ℕ). PairsClash s c.from c.to d.from x) (sym v.ends) clash))) in
    let us = u.starts in
    let vs = v.starts in
    let apart : u.place ≢ v.place = λ same.
    let q : Some u.arc ≡ Some v.arc = sym u.is_arc ∙ ap (slice_get arcs) same ∙ v.is_arc in
    let r : u.arc ≡ v.arc = cc in
    let w : u.arc.from ≡ v.arc.from = ap (λ (a : Arc). a.from) r in
    omega (arith, us, vs, w, l) in
    no_used_pair s arcs rows marks bound n u.place v.place u.arc v.arc u.is_arc v.is_arc u.is_used v.is_used apart
    (record { different = λ q. moved.different (inl q); apart = inr moved })

-- all rules but those on types are kept
used-keeps : (s : Site) (arcs : List Arc) (rows : List Row) (marks : List Mark) (bound : ℕ) → NoReason s arcs rows marks bound
    → (rule : Rule) (i j : ℕ) → rule ≢ Range → rule ≢ Unjoined → rule ≢ Overload → Keeps s (used_cables arcs marks) rule i j
used-keeps s arcs rows marks bound n Range i j x y z = absurd (x refl)
used-keeps s arcs rows marks bound n Candidate i j x y z = used-candidate s arcs marks n.are_arcs i
used-keeps s arcs rows marks bound n Start i j x y z = used-differ s arcs rows marks bound n i
used-keeps s arcs rows marks bound n Unjoined i j x y z = absurd (y refl)
used-keeps s arcs rows marks bound n Bend p j x y z =
    record {
      as_many = λ point is k. used-bend s arcs rows marks bound n p (slice_get_within s.points p point is) (ap kind_from is ∙ k);
      at_most_one = λ point is k.
          let starts = starts_in-out (used_cables arcs marks) (used-differ s arcs rows marks bound n) p in
          let one = starts_in-most (cable_out (used_cables arcs marks) p) in
          omega (arith, starts, one);
    }
used-keeps s arcs rows marks bound n Lost p j x y z = used-lost s arcs rows marks bound n p
used-keeps s arcs rows marks bound n Overload i j x y z = absurd (z refl)
used-keeps s arcs rows marks bound n Feeders p j x y z = λ feeders power k.
    let few = used-inlet s arcs rows marks bound n p (within-substation s p (ap is_substation k)) in
    let limit : inlet_limit s.mode (kind_of s p) ≡ feeders = ap (inlet_limit s.mode) k in
    omega (arith, few, limit)
used-keeps s arcs rows marks bound n Power p j x y z = used-power s arcs rows marks bound n p
used-keeps s arcs rows marks bound n Branch p j x y z = λ mode h.
    let few = used-inlet s arcs rows marks bound n p (within-turbine s p h) in
    let kind = turbine_kind (kind_of s p) h in
    let limit : inlet_limit s.mode (kind_of s p) ≡ 1 = ap (λ m. inlet_limit m (kind_of s p)) mode ∙ ap (inlet_limit Strings) kind.1 in
    omega (arith, few, limit)
used-keeps s arcs rows marks bound n Clash p q x y z = λ i j c d e f u v l.
    used-clear s arcs rows marks bound n i j c d e f (omega (arith, u, v, l))

-- so types can be given to the used cables
pub used-typable : (s : Site) (arcs : List Arc) (rows : List Row) (marks : List Mark) (bound : ℕ) → NoReason s arcs rows marks bound → IsTypable s (used_cables arcs marks)
used-typable s arcs rows marks bound n = record {
  from = λ i c e. let a = used-candidate s arcs marks n.are_arcs i c e in slice_get_within s.points c.from a.from a.from_is;
  to = λ i c e. let a = used-candidate s arcs marks n.are_arcs i c e in slice_get_within s.points c.to a.to a.to_is;
  rules = used-keeps s arcs rows marks bound n;
  loads = used-load s arcs rows marks bound n;
}

-- and the node is full
pub full-from : (s : Site) (arcs : List Arc) (rows : List Row) (marks : List Mark) (bound : ℕ) → NoReason s arcs rows marks bound → (full : List Cable) × IsFull s arcs marks full
full-from s arcs rows marks bound n =
    let cheap = some_cheap_typed s (used_cables arcs marks) in
    let legal = IsLegal-typable s (used_cables arcs marks) cheap.0 n.valid.some_types (used-typable s arcs rows marks bound n) joined cheap.1 in
    (cheap.0, full-legal s arcs marks cheap.0 cheap.1 legal)
  where
    joined : (p : ℕ) → KeepsJoined s (used_cables arcs marks) p
    joined p h =
        let one = used-out s arcs rows marks bound n p h in
        starts_from_count (used_cables arcs marks) (used-differ s arcs rows marks bound n) p (omega (arith, one))
