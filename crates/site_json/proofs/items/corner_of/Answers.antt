use Rattle.std.proofs.Common.{◌≡◌, None, Some, lit<, length, sym, ◌∙◌, arith, rules, ap}
use Rattle.serde_json.specs.Find.{at, as_array}
use Rattle.serde_json.specs.View.{view}
use Rattle.cable_definitions.specs.Items.{ACorner}
use Rattle.run_definitions.specs.Json.{whole, corner_of}
use Rattle.site_json.proofs.Misshapen.{at_none, misshapen_at, misshapen_length, misshapen_corner, corner_of-two}
use Rattle.site_json.proofs.items.corner_of.Goals as goal

pub returns-then-len-ne2 : goal.returns-then-len-ne2
returns-then-len-ne2 c =
    misshapen_length (view c.args.member.now) c.in_ok-numbers.numbers.now.items c.in_ok-numbers.ensures (λ two. c.if-len-ne2.true (omega (arith, two, c.len.ensures, c.in_ok-numbers.numbers.now.ok.0)))

pub returns-in_err-x : goal.returns-in_err-x
returns-in_err-x c =
    let none : whole (at 0 (view c.args.member.now)) ≡ None = sym (c.whole.ensures ∙ ap whole c.get.ensures) ∙ c.in_err-x.was in
    at_none _ _ _ c.from_residual-in_err-x.ensures
    (misshapen_corner (view c.args.member.now) c.in_ok-numbers.numbers.now.items c.in_ok-numbers.ensures (misshapen_at (ACorner (whole (at 0 (view c.args.member.now))) (whole (at 1 (view c.args.member.now)))) 0 (lit< tt) none))

pub returns-in_err-y : goal.returns-in_err-y
returns-in_err-y c =
    let none : whole (at 1 (view c.args.member.now)) ≡ None = sym (c.whole-2.ensures ∙ ap whole c.get-2.ensures) ∙ c.in_err-y.was in
    at_none _ _ _ c.from_residual-in_err-y.ensures
    (misshapen_corner (view c.args.member.now) c.in_ok-numbers.numbers.now.items c.in_ok-numbers.ensures (misshapen_at (ACorner (whole (at 0 (view c.args.member.now))) (whole (at 1 (view c.args.member.now)))) 1 (lit< tt) none))

pub returns : goal.returns
returns c =
    let two : length c.in_ok-numbers.numbers.now.items ≡ 2 = omega (arith, c.len.ensures, c.in_ok-numbers.numbers.now.ok.0) in
    let x_is : whole (at 0 (view c.args.member.now)) ≡ Some c.in_ok-x.x = sym (c.whole.ensures ∙ ap whole c.get.ensures) ∙ c.in_ok-x.was in
    let y_is : whole (at 1 (view c.args.member.now)) ≡ Some c.in_ok-y.y = sym (c.whole-2.ensures ∙ ap whole c.get-2.ensures) ∙ c.in_ok-y.was in
    let is : corner_of (as_array (view c.args.member.now)) (view c.args.member.now) ≡ ACorner (Some c.in_ok-x.x) (Some c.in_ok-y.y) = corner_of-two (view c.args.member.now) c.in_ok-numbers.numbers.now.items c.in_ok-x.x c.in_ok-y.y c.in_ok-numbers.ensures two x_is y_is in
    is ∙ search rules
