use Rattle.std.proofs.Common.{◌≡◌, None, lit<, [], ◌∷◌, sym, ◌∙◌}
use Rattle.std.specs.Prelude.{codes, is_some, ◌&&◌}
use Rattle.serde_json.specs.Find.{get}
use Rattle.serde_json.specs.View.{view}
use Rattle.cable_definitions.specs.Items.{APoint, ATurbine}
use Rattle.run_definitions.specs.Json.{whole, text, text_or_none, has_exactly}
use Rattle.site_json.proofs.Misshapen.{at_none, misshapen_in}
use Rattle.site_json.proofs.items.turbine_of.Goals as goal

pub returns-in_err-power : goal.returns-in_err-power
returns-in_err-power c =
    let none : whole (get (codes "power") (view c.args.member.now)) ≡ None = sym c.whole_at.ensures ∙ c.in_err-power.was in
    at_none _ _ _ c.from_residual.ensures (misshapen_in (has_exactly (codes "kind" ∷ codes "name" ∷ codes "x" ∷ codes "y" ∷ codes "power" ∷ []) (view c.args.member.now) && is_some (text (get (codes "name") (view c.args.member.now)))) (APoint (text_or_none (get (codes "name") (view c.args.member.now))) (whole (get (codes "x") (view c.args.member.now))) (whole (get (codes "y") (view c.args.member.now))) (ATurbine (whole (get (codes "power") (view c.args.member.now))))) 2 (lit< tt) none)
