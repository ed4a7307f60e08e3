use Rattle.std.proofs.Common.{rules, ◌≡◌, ◌↔◌, Result, Err, sym, ◌∙◌, ap, subst, refl}
use Rattle.serde_json.specs.View.{view}
use Rattle.cable_definitions.specs.declared.site.Version.{Version}
use Rattle.cable_definitions.specs.declared.site.SiteCode.{SiteCode}
use Rattle.cable_definitions.specs.Items.{RawItem, IsFirstCode}
use Rattle.site_model.specs.declared.fault.BuildFault.{BuildFault}
use Rattle.site_model.specs.declared.fault.BuildFault.TheVariants.{Refused as RefusedItem}
use Rattle.site_model.specs.Building.{type_item}
use Rattle.site_model.proofs.Ranges.{passed_two}
use Rattle.run_definitions.specs.Json.{raw_type}
use Rattle.site_json.proofs.Steps.{stands_type, TakesTypes-more}
use Rattle.site_json.proofs.Refusing.{Fails-shape, Fails-built}
use Rattle.site_json.proofs.lists.add_type.Goals as goal

pub returns-in_default-clause-refused : goal.returns-in_default-clause-refused
returns-in_default-clause-refused c = λ code place broken e.
    Fails-shape c.args.builder.now c.args.before (raw_type c.args.version (view c.args.member.now)) c.refused.result code place broken
    (stands_type c.args.builder.now c.args.before c.args.version (view c.args.member.now) c.requires.takes) c.in_default.ensures c.refused.ensures e

pub returns-in-Ok-clause-takes : goal.returns-in-Ok-clause-takes
returns-in-Ok-clause-takes c = TakesTypes-more c.args.builder.now.site.version c.in-Some.found.loss c.args.builder.now c.add_type.new.self c.args.before _ _ refl c.requires.takes c.in-Ok.ensures.good c.in-Ok.ensures.adds

pub returns-in-Err-clause-refused : goal.returns-in-Err-clause-refused
returns-in-Err-clause-refused c = λ code place broken e.
    let d = c.args.builder.now in
    let found = c.in-Some.found in
    let first = passed_two (λ u v. (k : SiteCode) → (◌≡◌ {A = Result (Unit {0}) BuildFault} (Err c.in-Err.fault) (Err (RefusedItem k))) ↔ IsFirstCode d (type_item d.site.version u v found.loss) k) found.capacity found.price (search rules) (search rules) c.in-Err.ensures.refused in
    let same : type_item d.site.version found.capacity found.price found.loss ≡ raw_type c.args.version (view c.args.member.now) =
    ap (λ (v : Version). type_item v found.capacity found.price found.loss) c.requires.version ∙ sym c.in-Some.ensures in
    Fails-built d c.args.before (raw_type c.args.version (view c.args.member.now)) c.in-Err.fault c.fault_at.result code place broken
    (subst (λ (i : RawItem). (k : SiteCode) → (◌≡◌ {A = Result (Unit {0}) BuildFault} (Err c.in-Err.fault) (Err (RefusedItem k))) ↔ IsFirstCode d i k) same first) c.fault_at.ensures e
