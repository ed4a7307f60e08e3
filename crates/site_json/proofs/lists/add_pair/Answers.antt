use Rattle.std.proofs.Common.{◌≡◌, ◌↔◌, Result, Err, sym, ◌∙◌, ap, subst, List, ℕ}
use Rattle.serde_json.specs.View.{view}
use Rattle.cable_definitions.specs.declared.site.SiteCode.{SiteCode}
use Rattle.cable_definitions.specs.Items.{RawItem, IsFirstCode}
use Rattle.site_model.specs.declared.fault.BuildFault.{BuildFault}
use Rattle.site_model.specs.declared.fault.BuildFault.TheVariants.{Refused as RefusedItem}
use Rattle.site_model.specs.Building.{pair_item}
use Rattle.run_definitions.specs.Json.{raw_pair}
use Rattle.site_json.proofs.Steps.{stands_pair, TakesUpTo-pair}
use Rattle.site_json.proofs.Refusing.{Fails-shape, Fails-built}
use Rattle.site_json.proofs.lists.add_pair.Goals as goal

pub returns-in_default-clause-refused : goal.returns-in_default-clause-refused
returns-in_default-clause-refused c = λ code place broken e.
    Fails-shape c.args.builder.now c.args.before (raw_pair (view c.args.member.now)) c.refused.result code place broken
    (stands_pair c.args.builder.now c.args.before (view c.args.member.now) c.requires.takes) c.in_default.ensures c.refused.ensures e

pub returns-in-Ok-clause-takes : goal.returns-in-Ok-clause-takes
returns-in-Ok-clause-takes c = TakesUpTo-pair c.args.builder.now c.add_pair.new.self c.args.before _ _ _ c.requires.takes c.in-Ok.ensures.good c.in-Ok.ensures.adds

pub returns-in-Err-clause-refused : goal.returns-in-Err-clause-refused
returns-in-Err-clause-refused c = λ code place broken e.
    let d = c.args.builder.now in
    let found = c.in-Some.found in
    let same : pair_item c.as_bytes.result.now c.as_bytes-2.result.now found.amount ≡ raw_pair (view c.args.member.now) =
    ap (λ (a : List ℕ). pair_item a c.as_bytes-2.result.now found.amount) c.as_bytes.ensures.value
    ∙ ap (λ (b : List ℕ). pair_item found.a.now b found.amount) c.as_bytes-2.ensures.value
    ∙ sym c.in-Some.ensures in
    Fails-built d c.args.before (raw_pair (view c.args.member.now)) c.in-Err.fault c.fault_at.result code place broken
    (subst (λ (i : RawItem). (k : SiteCode) → (◌≡◌ {A = Result (Unit {0}) BuildFault} (Err c.in-Err.fault) (Err (RefusedItem k))) ↔ IsFirstCode d i k) same c.in-Err.ensures.refused) c.fault_at.ensures e
