-- Numbers of the site, cable by cable.
use Rattle.std.proofs.Common.{ℕ, ◌<◌, ◌≤◌, List, length, arith, subst}
use Rattle.cable_definitions.specs.declared.cable.Cable.{Cable}
use Rattle.cable_definitions.specs.Site.{Site}
use Rattle.cable_definitions.specs.Layout.{IsCable, KeepsRange}
use Rattle.layout_meaning.specs.Numbers.{AreNumbers}
use Rattle.std.proofs.lemmas.Option.{slice_get_within}
use Rattle.number_laws.proofs.Places.{same_item}

-- the cable at the place has numbers of the site
pub range_here : (s : Site) (cables : List Cable) (i : ℕ) (c : Cable) → IsCable cables i c → AreNumbers s c → KeepsRange s cables i
range_here s cables i c h n = record {
  from = λ d g. subst (λ (x : Cable). x.from < length s.points) (same_item cables i c d h g) n.from;
  to = λ d g. subst (λ (x : Cable). x.to < length s.points) (same_item cables i c d h g) n.to;
  grade = λ d g. subst (λ (x : Cable). x.grade < length s.types) (same_item cables i c d h g) n.grade;
}

-- where the rule is kept, the cable at the place has numbers of the site
pub numbers_here : (s : Site) (cables : List Cable) (i : ℕ) (c : Cable) → IsCable cables i c → KeepsRange s cables i → AreNumbers s c
numbers_here s cables i c h k = record { from = k.from c h; to = k.to c h; grade = k.grade c h }

-- past the cables the rule is kept
pub range_past : (s : Site) (cables : List Cable) (i : ℕ) → length cables ≤ i → KeepsRange s cables i
range_past s cables i h = record {
  from = λ c g. absurd (let b = slice_get_within cables i c g in omega (arith, b));
  to = λ c g. absurd (let b = slice_get_within cables i c g in omega (arith, b));
  grade = λ c g. absurd (let b = slice_get_within cables i c g in omega (arith, b));
}
