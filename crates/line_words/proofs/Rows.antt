-- Rows whose members are within their limits or beyond them.
use Rattle.std.proofs.Common.{◌≡◌, ℕ, ℤ, pos, List, [], ◌∷◌, length, map, codes, true, false, refl, sym, ap, ◌∙◌, subst, arith, All}
use Rattle.std.proofs.lemmas.List.{length-map}
use Rattle.cable_definitions.specs.declared.row.RowKind.{RowKind}
use Rattle.cable_definitions.specs.declared.claim.Cause.TheVariants.{Limit}
use Rattle.cable_definitions.specs.Numeral.{spelling as spelled}
use Rattle.cable_definitions.specs.Text.{kind_word}
use Rattle.cable_definitions.specs.Items.{IsWithin}
use Rattle.cable_definitions.specs.Refusal.{RowLine, AtItem, member_field}
use Rattle.line_words.specs.Said.{IsRow}
use Rattle.line_words.specs.Members.{up_to, AreSpelled}
use Rattle.line_words.specs.Judged.{IsStanding, IsGoodLine, IsBad}

-- the fields of members are those up to the greatest number
fields_are : (kind : RowKind) (most : ℕ) (zs : List ℤ) → ((z : ℤ) → member_field kind z ≡ up_to most z) → map (member_field kind) zs ≡ map (up_to most) zs
fields_are kind most [] same = refl
fields_are kind most (z ∷ zs) same = ap (λ f. f ∷ map (member_field kind) zs) (same z) ∙ ap (λ fs. up_to most z ∷ fs) (fields_are kind most zs same)

-- the words of a row stand as its line
row_standing : (ws vs : List (List ℕ)) (kind : RowKind) (zs : List ℤ) → IsRow ws kind vs → vs ≡ map spelled zs → IsStanding AtItem ws (RowLine kind zs)
row_standing ws vs kind zs h e =
    let size : length vs ≡ length zs = ap length e ∙ length-map zs spelled in
    record { words_are = h.words_are ∙ ap (λ us. codes "row" ∷ kind_word kind ∷ us) e; members = (omega (arith, h.some, size), λ one. omega (arith, h.single one, size)); allowed = refl }

-- where the members fit, the line is good
pub good_row : (ws vs : List (List ℕ)) (kind : RowKind) (most : ℕ) (members : List ℕ) → IsRow ws kind vs → ((z : ℤ) → member_field kind z ≡ up_to most z) → AreSpelled vs most true members → IsGoodLine AtItem ws (RowLine kind (map pos members))
good_row ws vs kind most members h same k =
    let fit = k.fit refl in
    let zs : List ℤ = map pos members in
    let P : List ℤ → Type 0 = λ ys. All IsWithin (map (up_to most) ys) in
    record {
      standing = row_standing ws vs kind zs h (k.words_are ∙ ap (map spelled) fit.0);
      limits = (subst (All IsWithin) (sym (fields_are kind most zs same)) (subst P fit.0 fit.1.0), omega (arith, fit.1.1, ap length fit.0));
    }

-- where they don't, a number is beyond its limits or they are too many
pub bad_row : (ws vs : List (List ℕ)) (kind : RowKind) (most : ℕ) (members : List ℕ) → IsRow ws kind vs → ((z : ℤ) → member_field kind z ≡ up_to most z) → AreSpelled vs most false members → IsBad AtItem ws Limit
bad_row ws vs kind most members h same k = (
  RowLine kind k.numbers,
  row_standing ws vs kind k.numbers h k.words_are,
  λ limits. k.unfit refl (subst (All IsWithin) (fields_are kind most k.numbers same) limits.0, limits.1),
)

-- a row line that stands is a row of its kind
pub row_stands : (ws : List (List ℕ)) (kind : RowKind) (zs : List ℤ) → IsStanding AtItem ws (RowLine kind zs) → IsRow ws kind (map spelled zs)
row_stands ws kind zs h = record {
  words_are = h.words_are;
  some = omega (arith, h.members.0, length-map zs spelled);
  single = λ one. omega (arith, h.members.1 one, length-map zs spelled);
}
