-- The lines of a report, and its parts.
use Rattle.std.proofs.Common.{◌≡◌, ℕ, List, [], ◌∷◌, ◌++◌, length, map, refl, sym, ap, ◌∙◌}
use Rattle.std.specs.Prelude.{codes, sum_by}
use Rattle.std.specs.List.{concat, enumerate_from, flat_map}
use Rattle.std.specs.Fmt.{decimal}
use Rattle.cable_definitions.specs.declared.cable.Cable.{Cable}
use Rattle.cable_definitions.specs.declared.claim.Claim.{Claim}
use Rattle.cable_definitions.specs.declared.site.CableType.{CableType}
use Rattle.cable_definitions.specs.declared.site.Point.{Point}
use Rattle.cable_definitions.specs.Site.{Site}
use Rattle.cable_definitions.specs.Walk.{load}
use Rattle.cable_definitions.specs.Text.{line, mode_line, name_of, claim_line}
use Rattle.layout_meaning.specs.Partial.{SitePart}
use Rattle.cable_definitions.specs.Report.{left_in, right_in, cable_length, cable_cost, of_type, report_cable, report_type, report_point, report_text}

-- the line of a type, with its words one by one
pub type_words : (s : Site) (cables : List Cable) (t : ℕ) (number count metres cost : List ℕ) → number ≡ decimal t → count ≡ decimal (length (of_type cables t))
    → metres ≡ decimal (sum_by (cable_length s) (of_type cables t)) → cost ≡ decimal (sum_by (cable_cost s cables) (of_type cables t))
    → report_type s cables t ≡ line (codes "type" ∷ number ∷ codes "cables" ∷ count ∷ codes "length" ∷ metres ∷ codes "cost" ∷ cost ∷ [])
type_words s cables t number count metres cost a b c d = rw (a, b, c, d) refl

-- the line of a cable, with its columns one by one
pub cable_columns : (s : Site) (cables : List Cable) (c : Cable) (from to : List ℕ) (grade metres carried cost : ℕ) → from ≡ name_of s c.from → to ≡ name_of s c.to → grade ≡ c.grade
    → metres ≡ cable_length s c → carried ≡ load s cables c.from → cost ≡ cable_cost s cables c
    → report_cable s cables c
    ≡ line (codes "cable" ∷ left_in 16 from ∷ left_in 16 to ∷ right_in 2 (decimal grade) ∷ right_in 8 (decimal metres) ∷ right_in 8 (decimal carried) ∷ right_in 19 (decimal cost) ∷ [])
cable_columns s cables c from to grade metres carried cost e f g h k l = rw (e, f, g, h, k, l) refl

-- the texts of all items, one after another
flat_map-concat : {X : Type 0} (f : X → List ℕ) (xs : List X) → flat_map f xs ≡ concat (map f xs)
flat_map-concat f [] = refl
flat_map-concat f (x ∷ xs) = ap (λ l. f x ++ l) (flat_map-concat f xs)

-- what the loops of a report write
abbrev pub cables_text : Site → List Cable → List ℕ
cables_text s cables = concat (map (report_cable s cables) cables)

abbrev pub types_text : Site → List Cable → List ℕ
types_text s cables = concat (map (λ (q : ℕ × CableType). report_type s cables q.0) (enumerate_from 0 s.types))

abbrev pub points_text : Site → List Cable → List ℕ
points_text s cables = concat (map (λ (q : ℕ × Point). report_point s cables q.0 q.1.name q.1.kind) (enumerate_from 0 s.points))

-- a report is its parts one after another
pub report_parts : (s : Site) (cables : List Cable) (claim : Claim)
    → report_text s cables claim ≡ mode_line s.mode ++ cables_text s cables ++ types_text s cables ++ points_text s cables ++ claim_line s claim
report_parts s cables claim =
    ap (λ l. mode_line s.mode ++ l ++ flat_map (λ (q : ℕ × CableType). report_type s cables q.0) (enumerate_from 0 s.types) ++ flat_map (λ (q : ℕ × Point). report_point s cables q.0 q.1.name q.1.kind) (enumerate_from 0 s.points) ++ claim_line s claim)
    (flat_map-concat (report_cable s cables) cables)
    ∙ ap (λ l. mode_line s.mode ++ cables_text s cables ++ l ++ flat_map (λ (q : ℕ × Point). report_point s cables q.0 q.1.name q.1.kind) (enumerate_from 0 s.points) ++ claim_line s claim)
    (flat_map-concat (λ (q : ℕ × CableType). report_type s cables q.0) (enumerate_from 0 s.types))
    ∙ ap (λ l. mode_line s.mode ++ cables_text s cables ++ types_text s cables ++ l ++ claim_line s claim)
    (flat_map-concat (λ (q : ℕ × Point). report_point s cables q.0 q.1.name q.1.kind) (enumerate_from 0 s.points))

-- the same over a site and cables that were put together
pub report_parts_of : (s : Site) (layout : List Cable) (flows : SitePart) (claim : Claim) → flows ≡ record { site = s; cables = layout }
    → report_text s layout claim
    ≡ mode_line s.mode ++ cables_text flows.site flows.cables ++ types_text flows.site flows.cables ++ points_text flows.site flows.cables ++ claim_line s claim
report_parts_of s layout flows claim e =
    report_parts s layout claim
    ∙ ap (λ (f : SitePart). mode_line s.mode ++ cables_text f.site f.cables ++ types_text f.site f.cables ++ points_text f.site f.cables ++ claim_line s claim) (sym e)
