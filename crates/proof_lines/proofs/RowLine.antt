-- The line of a row, part by part.
use Rattle.std.proofs.Common.{◌≡◌, ℕ, List, [], ◌∷◌, ◌++◌, map, sym, ap, ◌∙◌, append_assoc, codes}
use Rattle.std.specs.List.{concat}
use Rattle.std.specs.Fmt.{decimal}
use Rattle.std.proofs.lemmas.List.{append-nil}
use Rattle.cable_definitions.specs.declared.row.RowKind.{RowKind}
use Rattle.cable_definitions.specs.Text.{words, kind_word, row_line}
use Rattle.proof_lines.specs.Written.{spaced_number}

-- a word and the numbers behind it
words-numbers : (w : List ℕ) (ns : List ℕ) → words (w ∷ map decimal ns) ≡ w ++ concat (map spaced_number ns)
words-numbers w [] = sym (append-nil w)
words-numbers w (n ∷ ns) = ap (λ l. w ++ 32 ∷ l) (words-numbers (decimal n) ns)

-- the line of a row is its word, its kind, its members with a space before each, and the newline
pub row_parts : (kind : RowKind) (members : List ℕ) → row_line (record { kind = kind; members = members }) ≡ codes "row " ++ (kind_word kind ++ (concat (map spaced_number members) ++ 10 ∷ []))
row_parts kind members =
    ap (λ l. (codes "row " ++ l) ++ 10 ∷ []) (words-numbers (kind_word kind) members)
    ∙ ap (λ l. codes "row " ++ l) (append_assoc (kind_word kind) (concat (map spaced_number members)) (10 ∷ []))
