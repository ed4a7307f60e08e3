-- The next item of bytes is one.
use Rattle.std.proofs.Common.{◌≡◌, ◌≢◌, ℕ, List, [], false, refl, sym, ap, ◌∙◌, subst, inl, inr}
use Rattle.cable_definitions.specs.declared.site.Version.{Version}
use Rattle.cable_definitions.specs.declared.site.Version.TheVariants.{One, Two}
use Rattle.cable_definitions.specs.Text.{Piece, Whole, LongLine, CutLine, NoLine, IsNext}
use Rattle.cable_definitions.specs.Items.{RawItem, AVersion, AMode, AType, APoint, ATurbine, ASubstation, ABend, AnObstacle, ACorner, APair, ACharge, AClosing, TheEnd, Misshapen, Stray, Unended, Missing, Overlong, HasWords, IsLineOf, IsItemOf, IsItemAt, is_broken_line}
use Rattle.site_laws.proofs.Pieces.{same_piece, same_rest}
use Rattle.site_laws.proofs.Words.{same_words, same_said}

-- words that say an item are some
pub some_said : (version : Version) (ws : List (List ℕ)) (item : RawItem) → HasWords version ws item → ws ≢ []
some_said version ws (AVersion v) h e = let k = h.1 in cc
some_said version ws (AMode m) h e = let k = h.1 in cc
some_said One ws (AType c p l) h e = let k = h.2 in cc
some_said Two ws (AType c p l) h e = let k = h.3 in cc
some_said version ws (APoint n x y (ATurbine p)) h e = let k = h.3 in cc
some_said version ws (APoint n x y (ASubstation f p)) h e = let k = h.4 in cc
some_said version ws (APoint n x y ABend) h e = let k = h.2 in cc
some_said version ws (AnObstacle i) h e = let k = h.1 in cc
some_said version ws (ACorner x y) h e = let k = h.2 in cc
some_said version ws (APair a b (ACharge z)) h e = let k = h.1 in cc
some_said version ws (APair a b AClosing) h e = cc
some_said version ws TheEnd h e = cc
some_said version ws Misshapen h e = h
some_said version ws Stray h e = h
some_said version ws Unended h e = h
some_said version ws Missing h e = h
some_said version ws Overlong h e = h

-- a line says one item
line_same : (version : Version) (text : List ℕ) (item other : RawItem) → IsLineOf version text item → IsLineOf version text other → item ≡ other
line_same version text item other h k =
    let same = same_words h.ws k.ws (some_said version h.ws item h.says) (some_said version k.ws other k.says) h.are_words k.are_words (sym h.text_is ∙ k.text_is) in
    same_said version k.ws item other (subst (λ (vs : List (List ℕ)). HasWords version vs item) same h.says) k.says

-- a piece has one item
item_same : (version : Version) (piece : Piece) (item other : RawItem) → IsItemOf version piece item → IsItemOf version piece other → item ≡ other
item_same version (Whole text) item other (inl h) (inl k) = line_same version text item other h k
item_same version (Whole text) item other (inl h) (inr k) = absurd (k.1 item h)
item_same version (Whole text) item other (inr h) (inl k) = absurd (h.1 other k)
item_same version (Whole text) item other (inr h) (inr k) = h.0 ∙ sym k.0
item_same version LongLine item other h k = h ∙ sym k
item_same version CutLine item other h k = h ∙ sym k
item_same version NoLine item other h k = h ∙ sym k

-- the next item is one
pub next_item : (version : Version) (bytes : List ℕ) (item other : RawItem) (rest left : List ℕ) → IsItemAt version bytes item rest → IsItemAt version bytes other left → item ≡ other
next_item version bytes item other rest left h k =
    let same = same_piece bytes h.piece k.piece rest left h.next k.next in
    item_same version k.piece item other (subst (λ (p : Piece). IsItemOf version p item) same h.item_is) k.item_is

-- the piece of an item is a whole line where the item isn't that of a broken line
pub whole_piece : (version : Version) (piece : Piece) (item : RawItem) → IsItemOf version piece item → is_broken_line item ≡ false → (text : List ℕ) × (piece ≡ Whole text)
whole_piece version (Whole text) item h e = (text, refl)
whole_piece version LongLine item h e = absurd (let b = ap is_broken_line h in cc)
whole_piece version CutLine item h e = absurd (let b = ap is_broken_line h in cc)
whole_piece version NoLine item h e = absurd (let b = ap is_broken_line h in cc)

-- behind the item of a whole line one rest is left
pub next_rest : (version : Version) (bytes : List ℕ) (item other : RawItem) (rest left : List ℕ) → IsItemAt version bytes item rest → IsItemAt version bytes other left → is_broken_line item ≡ false → rest ≡ left
next_rest version bytes item other rest left h k e =
    let w = whole_piece version h.piece item h.item_is e in
    let same = same_piece bytes k.piece h.piece left rest k.next h.next in
    same_rest bytes w.0 w.0 rest left (subst (λ (p : Piece). IsNext bytes p rest) w.1 h.next) (subst (λ (p : Piece). IsNext bytes p left) (same ∙ w.1) k.next)
