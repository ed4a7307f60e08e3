-- What the makers of rows are handed.
use Rattle.std.proofs.Common.{◌≡◌, ℕ, List, sym, ◌∙◌, subst}
use Rattle.cable_definitions.specs.declared.cable.Arc.{Arc}
use Rattle.cable_definitions.specs.Site.{Site}
use Rattle.cable_definitions.specs.Arcs.{AreArcs}
use Rattle.crossing_index.specs.Clashing.{SiteArcs}
use Rattle.document_laws.proofs.ArcsOnce.{arcs-same}
use Rattle.stored_makers.specs.Makers.{AreShares}

-- a site has one list of arcs, so the index of the site and its arcs is that of the arcs which come with shares
pub handed : (s t : Site) (own arcs brcs : List Arc) (shares parts : List ℕ) (crossings : SiteArcs) → AreArcs s own → crossings ≡ record { site = s; arcs = own } → AreShares s arcs shares → t ≡ s → brcs ≡ arcs
    → parts ≡ shares → AreShares t brcs parts × (crossings ≡ record { site = t; arcs = brcs })
handed s t own arcs brcs shares parts crossings are is shared e f h =
    let same : own ≡ brcs = arcs-same s own arcs are shared.arcs_of_site ∙ sym f in
    let here : s ≡ t = sym e in (
      subst (λ (x : Site). AreShares x brcs parts) here (subst (λ (xs : List Arc). AreShares s xs parts) (sym f) (subst (AreShares s arcs) (sym h) shared)),
      is ∙ (λ i. record { site = here i; arcs = same i }),
    )
