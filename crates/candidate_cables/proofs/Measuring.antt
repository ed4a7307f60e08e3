-- The arcs of a site have the length and the charge of their pairs, so what they cost needs no distance.
use Rattle.std.proofs.Common.{◌≡◌, ℕ, List, slice_get, Some}
use Rattle.std.proofs.lemmas.Option.{slice_get_within}
use Rattle.layout_laws.proofs.Typing.{all-at}
use Rattle.cable_definitions.specs.declared.cable.Arc.{Arc}
use Rattle.cable_definitions.specs.Site.{Site}
use Rattle.cable_definitions.specs.Arcs.{IsCandidate, AreArcs, length_between, charge_of}
use Rattle.site_model.specs.Measured.{IsMeasured}

-- for callers: what `Site::cost_on` and `Site::cheapest_on` ask of an arc
pub measured_at : (s : Site) (arcs : List Arc) (n : ℕ) (a : Arc) → AreArcs s arcs → slice_get arcs n ≡ Some a → IsMeasured s a
measured_at s arcs n a are e =
    let k = all-at (λ (b : Arc). IsCandidate s b.from b.to) arcs n a are.candidates e in
    record {
      from = slice_get_within s.points a.from k.from k.from_is;
      to = slice_get_within s.points a.to k.to k.to_is;
      metres = all-at (λ (b : Arc). b.length ≡ length_between (slice_get s.points b.from) (slice_get s.points b.to)) arcs n a are.lengths e;
      charged = all-at (λ (b : Arc). b.charge ≡ charge_of s b.from b.to) arcs n a are.charges e;
    }
