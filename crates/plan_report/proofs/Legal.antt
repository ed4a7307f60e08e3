-- Legal layouts and grown parts can be reported, and what can be reported joins points.
use Rattle.std.proofs.Common.{All, List, get_or, refl, subst}
use Rattle.cable_definitions.specs.declared.cable.Cable.{Cable}
use Rattle.cable_definitions.specs.Site.{Site}
use Rattle.cable_definitions.specs.declared.cable.Rule.TheVariants.{Range, Overload}
use Rattle.cable_definitions.specs.Layout.{IsLegal, KeepsRange, KeepsCapacity}
use Rattle.cable_definitions.specs.Part.{IsGrown}
use Rattle.layout_meaning.specs.Typed.{JoinPoints}
use Rattle.std.proofs.lemmas.Option.{slice_get-get_or, slice_get_within}
use Rattle.number_laws.proofs.Places.{same_item}
use Rattle.plan_report.specs.Reported.{IsReported}

-- the cables of a legal layout can be reported
pub legal_reported : (s : Site) (cables : List Cable) → IsLegal s cables → All (IsReported s cables) cables
legal_reported s cables legal k d l =
    let c = get_or cables k d in
    let e = slice_get-get_or cables k d l in
    record { from = (legal.range k).from c e; to = (legal.range k).to c e; grade = (legal.range k).grade c e; borne = legal.capacity c.from k c e refl }

-- so can those of a grown part
pub grown_reported : (s : Site) (cables : List Cable) → IsGrown s cables → All (IsReported s cables) cables
grown_reported s cables grown k d l =
    let c = get_or cables k d in
    let e = slice_get-get_or cables k d l in
    let range : KeepsRange s cables k = grown Range k 0 (λ r. cc) in
    let capacity : KeepsCapacity s cables c.from = grown Overload c.from 0 (λ r. cc) in
    record { from = range.from c e; to = range.to c e; grade = range.grade c e; borne = capacity k c e refl }

-- cables that can be reported join points of the site
pub reported_joins : (s : Site) (cables : List Cable) → All (IsReported s cables) cables → JoinPoints s cables
reported_joins s cables reported i c h =
    let l = slice_get_within cables i c h in
    let r = subst (IsReported s cables) (same_item cables i (get_or cables i c) c (slice_get-get_or cables i c l) h) (reported i c l) in
    (r.from, r.to)
