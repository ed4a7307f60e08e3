use Rattle.std.proofs.Common.{◌≡◌, ◌≢◌, ℕ, ◌<◌, get_or}
use Rattle.cable_definitions.specs.declared.site.Point.{Point}
use Rattle.site_model.proofs.Site.number_of.Given as goal

abbrev pub invariant-loop-number : goal.invariant-loop-number
invariant-loop-number l = (k : ℕ) (x : Point) → k < l.number → get_or l.self.points k x ≡ x → x.name ≢ l.name
