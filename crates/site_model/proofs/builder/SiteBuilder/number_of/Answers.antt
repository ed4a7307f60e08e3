use Rattle.std.proofs.Common.{◌≡◌, map, subst, arith}
use Rattle.cable_definitions.specs.Items.{Draft}
use Rattle.site_model.specs.Numbered.{names_in}
use Rattle.site_model.proofs.Numbered.{no_point, point_named}
use Rattle.site_model.proofs.builder.SiteBuilder.number_of.Goals as goal

pub returns-in_err-number : goal.returns-in_err-number
returns-in_err-number c =
    let d = c.args.self.now in
    let numbered = subst (λ (e : Draft). names_in c.self.inside.names.keys ≡ map (λ p. p.name) e.site.points) c.self.view_is c.self.invariant.numbered in
    rw c.from_residual.ensures (no_point d.site.points (names_in c.self.inside.names.keys) c.args.name.now numbered c.in_err-number.ensures)

pub overflow_cast-result : goal.overflow_cast-result
overflow_cast-result c =
    let found = point_named c.self.inside.points.items (names_in c.self.inside.names.keys) c.args.name.now c.in_ok-number.number c.self.invariant.numbered c.in_ok-number.ensures in
    omega (arith, found.0, c.self.invariant.draft.points.count)

pub returns : goal.returns
returns c =
    let d = c.args.self.now in
    let numbered = subst (λ (e : Draft). names_in c.self.inside.names.keys ≡ map (λ p. p.name) e.site.points) c.self.view_is c.self.invariant.numbered in
    point_named d.site.points (names_in c.self.inside.names.keys) c.args.name.now c.in_ok-number.number numbered c.in_ok-number.ensures
