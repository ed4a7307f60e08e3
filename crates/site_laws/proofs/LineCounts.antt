-- A run of good items takes as many lines as it has items.
use Rattle.std.proofs.Common.{◌≡◌, ℕ, ◌+◌, List, [], ◌∷◌, ◌++◌, length, cond, Bool, true, false, not, ◌==◌, refl, ap, subst, arith}
use Rattle.std.proofs.lemmas.Bool.{not-true}
use Rattle.std.proofs.lemmas.List.Elements.{All-head, All-tail}
use Rattle.std.proofs.lemmas.List.Sums.{sum_by-append, sum_by-cons}
use Rattle.cable_definitions.specs.Text.{HasNoNewline, Piece, IsNext, line_count}
use Rattle.cable_definitions.specs.Items.{Draft, RawItem, ReadsItems}
use Rattle.site_laws.proofs.LineItems.{whole_piece}
use Rattle.site_laws.proofs.Runs.{adds_whole}

-- bytes that hold no newline end no line
no_lines : (bytes : List ℕ) → HasNoNewline bytes → line_count bytes ≡ 0
no_lines [] h = refl
no_lines (b ∷ bs) h =
    let e : (b == 10) ≡ false = not-true (b == 10) (All-head (λ z. not (z == 10) ≡ true) b bs h) in
    let C : Bool → ℕ = λ t. cond t 1 0 in
    let f : C (b == 10) ≡ 0 = ap C e in
    omega (arith, sum_by-cons (λ z. cond (z == 10) 1 0) b bs, no_lines bs (All-tail (λ z. not (z == 10) ≡ true) b bs h))

-- the lines of two texts
pub lines_of_both : (xs ys : List ℕ) → line_count (xs ++ ys) ≡ line_count xs + line_count ys
lines_of_both xs ys = sum_by-append (λ z. cond (z == 10) 1 0) xs ys

-- a line and what follows it
one_line : (text rest : List ℕ) → HasNoNewline text → line_count (text ++ 10 ∷ rest) ≡ 1 + line_count rest
one_line text rest h = omega (arith, lines_of_both text (10 ∷ rest), no_lines text h, sum_by-cons (λ z. cond (z == 10) 1 0) 10 rest)

-- the lines of a run, and those that are left
pub lines_read : (items : List RawItem) (d e : Draft) (bytes rest : List ℕ) → ReadsItems d bytes items e rest → line_count bytes ≡ length items + line_count rest
lines_read [] d e bytes rest h = omega (arith, ap line_count h.1)
lines_read (item ∷ items) d e bytes rest h =
    let w = whole_piece d.site.version h.2.piece item h.2.item_is (adds_whole d h.0 item h.4) in
    let next = subst (λ (p : Piece). IsNext bytes p h.1) w.1 h.2.next in
    omega (arith, ap line_count next.0, one_line w.0 h.1 next.1, lines_read items h.0 e h.1 rest h.5)
