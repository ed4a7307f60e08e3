use Rattle.std.proofs.Common.{◌≡◌, ℕ, Bool, false, Err, ap, refl}
use Rattle.cable_definitions.specs.declared.site.SiteCode.{SiteCode}
use Rattle.cable_definitions.specs.Items.{TheEnd, IsFirstCode}
use Rattle.site_text.proofs.NextLine.{build_fault}
use Rattle.site_text.proofs.read.finish.Goals as goal

pub returns-in-Err-clause-refused : goal.returns-in-Err-clause-refused
returns-in-Err-clause-refused c =
    let P : SiteCode → ℕ → Bool → Type 0 = λ x y z. IsFirstCode c.args.builder TheEnd x × (y ≡ c.args.place) × (z ≡ false) in
    build_fault P c.in-Err.fault c.args.place c.fault_of.result c.fault_of.ensures (λ code e. ((c.in-Err.ensures.refused code).0 (ap Err e), refl, refl))
