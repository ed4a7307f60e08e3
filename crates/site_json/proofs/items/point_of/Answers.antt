use Rattle.std.proofs.Common.{◌≡◌, None, sym, ◌∙◌, arith}
use Rattle.std.specs.Prelude.{codes, is_some}
use Rattle.serde_json.specs.Find.{get}
use Rattle.serde_json.specs.View.{view}
use Rattle.cable_definitions.specs.Items.{APoint}
use Rattle.site_model.specs.Building.{kind_item}
use Rattle.run_definitions.specs.Json.{whole, text, text_or_none}
use Rattle.site_json.proofs.Misshapen.{at_none, misshapen_in, misshapen_same}
use Rattle.site_json.proofs.items.point_of.Goals as goal

pub returns-in_err-x : goal.returns-in_err-x
returns-in_err-x c =
    let none : whole (get (codes "x") (view c.args.member.now)) ≡ None = sym c.whole_at.ensures ∙ c.in_err-x.was in
    at_none _ _ _ c.from_residual-in_err-x.ensures (misshapen_same _ _ c.in_ok-kind.ensures (misshapen_in (is_some (text (get (codes "name") (view c.args.member.now)))) (APoint (text_or_none (get (codes "name") (view c.args.member.now))) (whole (get (codes "x") (view c.args.member.now))) (whole (get (codes "y") (view c.args.member.now))) (kind_item c.in_ok-kind.kind)) 0 (omega arith) none))

pub returns-in_err-y : goal.returns-in_err-y
returns-in_err-y c =
    let none : whole (get (codes "y") (view c.args.member.now)) ≡ None = sym c.whole_at-2.ensures ∙ c.in_err-y.was in
    at_none _ _ _ c.from_residual-in_err-y.ensures (misshapen_same _ _ c.in_ok-kind.ensures (misshapen_in (is_some (text (get (codes "name") (view c.args.member.now)))) (APoint (text_or_none (get (codes "name") (view c.args.member.now))) (whole (get (codes "x") (view c.args.member.now))) (whole (get (codes "y") (view c.args.member.now))) (kind_item c.in_ok-kind.kind)) 1 (omega arith) none))
