-- Bends and walks' ends, point by point.
use Rattle.std.proofs.Common.{◌≡◌, ℕ, ◌<◌, ◌≤◌, List, length, Option, Some, None, IsSome, false, arith, refl, ap, sym, ◌∙◌}
use Rattle.cable_definitions.specs.declared.cable.Cable.{Cable}
use Rattle.cable_definitions.specs.declared.site.Point.{Point}
use Rattle.cable_definitions.specs.declared.site.Kind.TheVariants.{Bend}
use Rattle.cable_definitions.specs.Site.{Site}
use Rattle.cable_definitions.specs.Arcs.{IsPoint, kind_from, kind_of, is_bend}
use Rattle.cable_definitions.specs.Walk.{cable_out, starts_in, ends_in}
use Rattle.cable_definitions.specs.Layout.{KeepsRange, KeepsBend, KeepsEnd, Starts}
use Rattle.std.proofs.lemmas.Option.{slice_get_within}
use Rattle.layout_meaning.proofs.Places.{out_place}

-- as many cables start as end in the bend, and at most one
pub bend_here : (s : Site) (cables : List Cable) (p : ℕ) → starts_in cables p ≡ ends_in cables p → starts_in cables p ≤ 1 → KeepsBend s cables p
bend_here s cables p e h = record { as_many = λ point g b. e; at_most_one = λ point g b. h }

-- another point than a bend
pub bend_other : (s : Site) (cables : List Cable) (p : ℕ) → is_bend (kind_of s p) ≡ false → KeepsBend s cables p
bend_other s cables p n = record {
  as_many = λ point g b. absurd (bends point g b);
  at_most_one = λ point g b. absurd (bends point g b);
}
  where
    bends : (point : Point) → IsPoint s p point → ¬ (point.kind ≡ Bend)
    bends point g b = let kind : kind_of s p ≡ Bend = ap kind_from g ∙ b in absurd (let no : is_bend Bend ≡ false = ap is_bend (sym kind) ∙ n in cc)

-- past the points there is no bend
pub bend_past : (s : Site) (cables : List Cable) (p : ℕ) → length s.points ≤ p → KeepsBend s cables p
bend_past s cables p h = record {
  as_many = λ point g b. absurd (let k = slice_get_within s.points p point g in omega (arith, k));
  at_most_one = λ point g b. absurd (let k = slice_get_within s.points p point g in omega (arith, k));
}

-- where all numbers are of the site, a cable starts in a point of the site alone
pub starts_below : (s : Site) (cables : List Cable) (p : ℕ) → ((i : ℕ) → KeepsRange s cables i) → Starts cables p → p < length s.points
starts_below s cables p range started = by_cable (cable_out cables p) refl started
  where
    by_cable : (o : Option Cable) → cable_out cables p ≡ o → IsSome o → p < length s.points
    by_cable (Some c) e t =
        let r = out_place cables p c e in
        let k = (range r.place).from c r.is_cable in
        omega (arith, k, r.start)
    by_cable None e t = absurd (cc)

-- past the points no walk starts
pub end_past : (s : Site) (cables : List Cable) (p : ℕ) → ((i : ℕ) → KeepsRange s cables i) → length s.points ≤ p → KeepsEnd s cables p
end_past s cables p range h started = absurd (let k = starts_below s cables p range started in omega (arith, k))
