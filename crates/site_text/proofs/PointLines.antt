-- The line of a point of each kind, with its words one by one.
use Rattle.std.proofs.Common.{◌≡◌, ℕ, List, [], ◌∷◌, refl}
use Rattle.std.specs.Prelude.{codes}
use Rattle.std.specs.Fmt.{decimal}
use Rattle.cable_definitions.specs.declared.site.Kind.TheVariants.{Turbine, Substation, Bend}
use Rattle.cable_definitions.specs.declared.site.Point.{Point}
use Rattle.cable_definitions.specs.Text.{number, line, point_line}

pub turbine_line : (p : Point) (n x y w : List ℕ) (power : ℕ) → p.kind ≡ Turbine power → n ≡ p.name → x ≡ number p.at.x → y ≡ number p.at.y → w ≡ decimal power → point_line p ≡ line (codes "turbine" ∷ n ∷ x ∷ y ∷ w ∷ [])
turbine_line p n x y w power k a b c d = rw (k, a, b, c, d) refl

pub substation_line : (p : Point) (n x y v w : List ℕ) (feeders power : ℕ) → p.kind ≡ Substation feeders power → n ≡ p.name → x ≡ number p.at.x → y ≡ number p.at.y → v ≡ decimal feeders → w ≡ decimal power → point_line p ≡ line (codes "substation" ∷ n ∷ x ∷ y ∷ v ∷ w ∷ [])
substation_line p n x y v w feeders power k a b c d e = rw (k, a, b, c, d, e) refl

pub bend_line : (p : Point) (n x y : List ℕ) → p.kind ≡ Bend → n ≡ p.name → x ≡ number p.at.x → y ≡ number p.at.y → point_line p ≡ line (codes "bend" ∷ n ∷ x ∷ y ∷ [])
bend_line p n x y k a b c = rw (k, a, b, c) refl
