-- Loads and costs of cables that were read from a value that holds them with their site.
use Rattle.std.proofs.Common.{◌≡◌, ℕ, ◌+◌, ◌<◌, ◌≤◌, List, length, take, get_or, arith, refl, ap, sym, ◌∙◌, subst}
use Rattle.std.specs.Prelude.{slice_get, sum_by, Option, Some, None}
use Rattle.cable_definitions.specs.declared.cable.Cable.{Cable}
use Rattle.cable_definitions.specs.declared.site.Point.{Point}
use Rattle.cable_definitions.specs.declared.site.Kind.TheVariants.{Substation}
use Rattle.cable_definitions.specs.Site.{Site}
use Rattle.cable_definitions.specs.Arcs.{kind_from, cost_of}
use Rattle.cable_definitions.specs.Walk.{load}
use Rattle.cable_definitions.specs.Layout.{IsCable, KeepsRange, KeepsPower}
use Rattle.layout_meaning.specs.Partial.{SitePart}
use Rattle.layout_meaning.specs.Typed.{JoinPoints}
use Rattle.std.proofs.lemmas.Option.{slice_get-get_or, slice_get_within}
use Rattle.layout_meaning.proofs.Costing.{cost_step}

-- what is true of a site and cables that were read is true of those that they were read from
pub read_as : {s t : Site} → {xs ys : List Cable} → (P : Site → List Cable → Type 0) → s ≡ t → xs ≡ ys → P s xs → P t ys
read_as {s} {t} {xs} {ys} P e f h = subst (λ (zs : List Cable). P t zs) f (subst (λ (u : Site). P u xs) e h)

-- a site with cables that were put together from it and them
pub flows_are : (s : Site) (xs ys : List Cable) (flows : SitePart) → flows ≡ record { site = s; cables = xs } → xs ≡ ys → flows ≡ record { site = s; cables = ys }
flows_are s xs ys flows e f = e ∙ ap (λ (zs : List Cable). record { site = s; cables = zs }) f

-- the cable that is read at a place of the same list
pub cable_there : (xs ys : List Cable) (i : ℕ) (d : Cable) → ys ≡ xs → i < length ys → IsCable xs i (get_or ys i d)
cable_there xs ys i d e h = subst (λ (zs : List Cable). IsCable zs i (get_or ys i d)) e (slice_get-get_or ys i d h)

-- cables whose numbers are of the site join its points
pub range_joins : (s : Site) (cables : List Cable) → ((i : ℕ) → KeepsRange s cables i) → JoinPoints s cables
range_joins s cables range i c h = ((range i).from c h, (range i).to c h)

-- past the points there is no substation
pub power_past : (s : Site) (cables : List Cable) (p : ℕ) → length s.points ≤ p → KeepsPower s cables p
power_past s cables p h feeders power e = absurd (by_point (slice_get s.points p) refl)
  where
    by_point : (o : Option Point) → slice_get s.points p ≡ o → ⊥
    by_point None g = let f : kind_from None ≡ Substation feeders power = ap kind_from (sym g) ∙ e in absurd (cc)
    by_point (Some point) g = absurd (let k = slice_get_within s.points p point g in omega (arith, k))

-- the running total of the costs, with one cable more, which is read from the same list
pub cost_step_read : (s : Site) (xs ys : List Cable) (i : ℕ) (d : Cable) (total carried here : ℕ) → ys ≡ xs → i < length ys
    → total ≡ sum_by (λ (c : Cable). cost_of s c.from c.to c.grade (load s xs c.from)) (take i xs)
    → carried ≡ load s xs (get_or ys i d).from
    → here ≡ cost_of s (get_or ys i d).from (get_or ys i d).to (get_or ys i d).grade carried
    → total + here ≡ sum_by (λ (c : Cable). cost_of s c.from c.to c.grade (load s xs c.from)) (take (i + 1) xs)
cost_step_read s xs ys i d total carried here same h t l e =
    cost_step s xs i d total carried here (subst (λ (zs : List Cable). i < length zs) same h) t
    (subst (λ (zs : List Cable). carried ≡ load s xs (get_or zs i d).from) same l)
    (subst (λ (zs : List Cable). here ≡ cost_of s (get_or zs i d).from (get_or zs i d).to (get_or zs i d).grade carried) same e)
