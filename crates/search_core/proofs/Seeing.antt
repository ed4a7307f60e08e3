-- What is seen of a search by its parts.
use Rattle.std.proofs.Common.{◌≡◌, ℕ, ℤ, List, Some, None, Option, IfSome, Bool, refl, sym, ap, subst}
use Rattle.std.specs.Prelude.{◌↔◌, IfNone, nat_abs}
use Rattle.cable_definitions.specs.declared.cable.Arc.{Arc}
use Rattle.cable_definitions.specs.Site.{Site}
use Rattle.cable_definitions.specs.Tree.{Node, Item, ProofState, IsLeastBound, AllDead}
use Rattle.cable_definitions.specs.Core.{IsClosed, IsSpent}
use Rattle.stored_makers.specs.Makers.{Maker}
use Rattle.search_progress.specs.Progress.{kept_of, core_of, IsSearching}
use Rattle.search_parts.specs.Floored.{IsFloored}
use Rattle.search_core.specs.State.{State, KeepsParts, core}
use Rattle.search_progress.specs.declared.progress.Progress.{Progress}

-- a search is closed where its parts are
pub closed-there : {F G : Type 0} → (P : Type 0) (seen whole : State F G) → seen ≡ whole → IsSearching whole.site whole.arcs whole.progress.budget whole.progress
    → ((s : Site) (arcs : List Arc) (n : ℕ) (items : List Item) → IsSearching s arcs n seen.progress → P ↔ IsClosed s (core_of items seen.progress)) → (items : List Item)
    → P ↔ IsClosed whole.site (core items whole)
closed-there {F} {G} P seen whole e h closed items =
    subst (λ (x : State F G). (s : Site) (arcs : List Arc) (n : ℕ) (items : List Item) → IsSearching s arcs n x.progress → P ↔ IsClosed s (core_of items x.progress)) e closed whole.site whole.arcs
    whole.progress.budget items h

-- and spent where they are
pub spent-there : {F G : Type 0} → (P : Type 0) (seen whole : State F G) → seen ≡ whole → IsSearching whole.site whole.arcs whole.progress.budget whole.progress
    → ((s : Site) (arcs : List Arc) (n : ℕ) (items : List Item) → IsSearching s arcs n seen.progress → P ↔ IsSpent s n (core_of items seen.progress)) → (items : List Item)
    → P ↔ IsSpent whole.site whole.progress.budget (core items whole)
spent-there {F} {G} P seen whole e h spent items =
    subst (λ (x : State F G). (s : Site) (arcs : List Arc) (n : ℕ) (items : List Item) → IsSearching s arcs n x.progress → P ↔ IsSpent s n (core_of items x.progress)) e spent whole.site whole.arcs
    whole.progress.budget items h

-- the least bound of its nodes
pub least-there : {F G : Type 0} → (seen whole : State F G) (bound : Option ℤ) → seen ≡ whole
    → IfSome bound (λ b. (kept : ProofState) → kept.nodes ≡ seen.progress.tree.nodes → IsLeastBound kept (nat_abs b)) → IfSome bound (λ b. IsLeastBound (kept_of whole.progress) (nat_abs b))
least-there {F} {G} seen whole None e h = tt
least-there {F} {G} seen whole (Some b) e h = h (kept_of whole.progress) (ap (λ (x : State F G). x.progress.tree.nodes) (sym e))

-- or that all its leaves are dead
pub dead-there : {F G : Type 0} → (seen whole : State F G) (bound : Option ℤ) → seen ≡ whole → IfNone bound ((kept : ProofState) → kept.nodes ≡ seen.progress.tree.nodes → AllDead kept)
    → IfNone bound (AllDead (kept_of whole.progress))
dead-there {F} {G} seen whole None e h = h (kept_of whole.progress) (ap (λ (x : State F G). x.progress.tree.nodes) (sym e))
dead-there {F} {G} seen whole (Some b) e h = tt

-- a step leaves the site, its arcs, the closures and the most works
pub parts-after : {F G : Type 0} → (seen whole : State F G) (maker : Maker F) (progress : Progress) (lacks : Bool) → seen ≡ whole
    → IsSearching whole.site whole.arcs whole.progress.budget whole.progress
    → ((n : ℕ) → IsSearching seen.site seen.arcs n seen.progress → IsSearching seen.site seen.arcs n progress) → maker.make ≡ seen.maker.make → maker.site ≡ seen.maker.site
    → KeepsParts whole (record seen { maker = maker; progress = progress; lacks_memory = lacks })
parts-after {F} {G} seen whole maker progress lacks e h on make site =
    let before = subst (λ (x : State F G). IsSearching x.site x.arcs x.progress.budget x.progress) (sym e) h in
    let after = on seen.progress.budget before in
    subst (λ (x : State F G). KeepsParts x (record seen { maker = maker; progress = progress; lacks_memory = lacks })) e (record {
      site = refl;
      arcs = refl;
      make = make;
      maker_site = site;
      chooser = refl;
      budget = after.limit;
    })

-- node 1 is floored at the site that is seen
pub floor-there : {F G : Type 0} → (seen whole : State F G) (node : Node) → seen ≡ whole → IsSearching whole.site whole.arcs whole.progress.budget whole.progress
    → ((n : ℕ) → IsSearching seen.site seen.arcs n seen.progress → IsFloored seen.site node) → IsFloored whole.site node
floor-there {F} {G} seen whole node e h floored =
    subst (λ (x : State F G). IsFloored x.site node) e
    (floored seen.progress.budget (subst (λ (x : State F G). IsSearching x.site x.arcs x.progress.budget x.progress) (sym e) h))
