use Rattle.std.proofs.Common.{◌≡◌, ◌↔◌, ◌+◌, ◌∷◌, [], ℤ, pos, List, length, Some, Result, Err, to_z, sym, ap, ◌∙◌, subst, arith, refl}
use Rattle.std.specs.Int.{w128}
use Rattle.serde_json.specs.Find.{as_array}
use Rattle.serde_json.specs.View.{view, items_view}
use Rattle.serde_json.specs.declared.value.Value.{Value}
use Rattle.cable_definitions.specs.declared.site.SiteCode.{SiteCode}
use Rattle.cable_definitions.specs.Items.{RawItem, AnObstacle, Misshapen, IsFirstCode, IsGood, Adds}
use Rattle.site_model.specs.declared.fault.BuildFault.{BuildFault}
use Rattle.site_model.specs.declared.fault.BuildFault.TheVariants.{Refused as RefusedItem}
use Rattle.run_definitions.specs.Json.{raw_obstacle, raw_corners}
use Rattle.site_json.specs.Faults.{Fails}
use Rattle.site_json.proofs.Misshapen.{misshapen_shape}
use Rattle.site_json.proofs.Leading.{Leads-one, Fails-front, Fails-behind}
use Rattle.site_json.proofs.Steps.{TakesCorners-begin, TakesCorners-same, some_corners}
use Rattle.site_json.proofs.Rings.{count_passed, raw_obstacle-array, Leads-first, Leads-same}
use Rattle.site_json.proofs.Refusing.{Fails-shape, Fails-built}
use Rattle.site_json.proofs.lists.add_obstacle.Goals as goal

pub returns-in_default-clause-refused : goal.returns-in_default-clause-refused
returns-in_default-clause-refused c = λ code place broken e.
    subst (λ (xs : List RawItem). Fails c.args.builder.now c.args.before xs code place broken) (ap raw_obstacle c.in_default.ensures)
    (Fails-shape c.args.builder.now c.args.before Misshapen c.refused.result code place broken refl misshapen_shape c.refused.ensures e)

pub add_corners-requires : goal.add_corners-requires
add_corners-requires c =
    let d = c.args.builder.now in
    let n = length c.in-Some.corners.now.items in
    let same : to_z w128 c.len.result ≡ pos n = count_passed c.len.result n (omega (arith, c.len.ensures, c.in-Some.corners.now.ok.0)) c.len.type_inv in
    let good = subst (λ (z : ℤ). IsGood d (AnObstacle (Some z))) same c.in-Ok.ensures.good in
    let adds = subst (λ (z : ℤ). Adds d (AnObstacle (Some z)) c.add_obstacle.new.self) same c.in-Ok.ensures.adds in
    TakesCorners-same n _ c.add_obstacle.new.self (c.args.before + 1) (sym (ap length c.as_slice.ensures.value)) (TakesCorners-begin d c.add_obstacle.new.self c.args.before n (some_corners d n good) c.requires good adds)

pub returns-in-Ok-clause-leads : goal.returns-in-Ok-clause-leads
returns-in-Ok-clause-leads c =
    let d = c.args.builder.now in
    let vs = c.in-Some.corners.now.items in
    let same : to_z w128 c.len.result ≡ pos (length vs) = count_passed c.len.result (length vs) (omega (arith, c.len.ensures, c.in-Some.corners.now.ok.0)) c.len.type_inv in
    let good = subst (λ (z : ℤ). IsGood d (AnObstacle (Some z))) same c.in-Ok.ensures.good in
    let adds = subst (λ (z : ℤ). Adds d (AnObstacle (Some z)) c.add_obstacle.new.self) same c.in-Ok.ensures.adds in
    let items : AnObstacle (Some (pos (length vs))) ∷ raw_corners (items_view c.as_slice.result.now) ≡ raw_obstacle (as_array (view c.args.member.now)) =
    ap (λ (ws : List Value). AnObstacle (Some (pos (length vs))) ∷ raw_corners (items_view ws)) c.as_slice.ensures.value ∙ sym (raw_obstacle-array (view c.args.member.now) vs c.in-Some.ensures) in
    Leads-same d c.add_corners.new.builder c.args.before _ _ c.add_corners.result items
    (Leads-first d c.add_obstacle.new.self c.add_corners.new.builder c.args.before (AnObstacle (Some (pos (length vs)))) (raw_corners (items_view c.as_slice.result.now)) c.add_corners.result good adds c.add_corners.ensures.leads)

pub returns-in-Ok-clause-refused : goal.returns-in-Ok-clause-refused
returns-in-Ok-clause-refused c = λ code place broken e.
    let d = c.args.builder.now in
    let vs = c.in-Some.corners.now.items in
    let same : to_z w128 c.len.result ≡ pos (length vs) = count_passed c.len.result (length vs) (omega (arith, c.len.ensures, c.in-Some.corners.now.ok.0)) c.len.type_inv in
    let good = subst (λ (z : ℤ). IsGood d (AnObstacle (Some z))) same c.in-Ok.ensures.good in
    let adds = subst (λ (z : ℤ). Adds d (AnObstacle (Some z)) c.add_obstacle.new.self) same c.in-Ok.ensures.adds in
    let items : AnObstacle (Some (pos (length vs))) ∷ raw_corners (items_view c.as_slice.result.now) ≡ raw_obstacle (as_array (view c.args.member.now)) =
    ap (λ (ws : List Value). AnObstacle (Some (pos (length vs))) ∷ raw_corners (items_view ws)) c.as_slice.ensures.value ∙ sym (raw_obstacle-array (view c.args.member.now) vs c.in-Some.ensures) in
    subst (λ (xs : List RawItem). Fails d c.args.before xs code place broken) items
    (Fails-behind d c.add_obstacle.new.self c.args.before (c.args.before + 1) (AnObstacle (Some (pos (length vs))) ∷ []) (raw_corners (items_view c.as_slice.result.now)) code place broken
    (Leads-one d c.add_obstacle.new.self c.args.before (AnObstacle (Some (pos (length vs)))) good adds) (c.add_corners.ensures.refused code place broken e))

pub returns-in-Err-clause-refused : goal.returns-in-Err-clause-refused
returns-in-Err-clause-refused c = λ code place broken e.
    let d = c.args.builder.now in
    let vs = c.in-Some.corners.now.items in
    let same : to_z w128 c.len.result ≡ pos (length vs) = count_passed c.len.result (length vs) (omega (arith, c.len.ensures, c.in-Some.corners.now.ok.0)) c.len.type_inv in
    let first = subst (λ (z : ℤ). (k : SiteCode) → (◌≡◌ {A = Result (Unit {0}) BuildFault} (Err c.in-Err.fault) (Err (RefusedItem k))) ↔ IsFirstCode d (AnObstacle (Some z)) k) same c.in-Err.ensures.refused in
    subst (λ (xs : List RawItem). Fails d c.args.before xs code place broken) (sym (raw_obstacle-array (view c.args.member.now) vs c.in-Some.ensures))
    (Fails-front d c.args.before (AnObstacle (Some (pos (length vs))) ∷ []) (raw_corners (items_view vs)) code place broken
    (Fails-built d c.args.before (AnObstacle (Some (pos (length vs)))) c.in-Err.fault c.fault_at.result code place broken first c.fault_at.ensures e))
