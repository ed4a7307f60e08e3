-- A line has one list of words, and words say one item.
use Rattle.std.proofs.Common.{◌≡◌, ◌≢◌, ℕ, ℤ, List, [], ◌∷◌, sum, ◌||◌, ◌==◌, refl, sym, ap, ◌∙◌, arith, All, Option, Some, None}
use Rattle.std.specs.Prelude.{if◌then◌else◌}
use Rattle.std.proofs.lemmas.List.Elements.{All-head, All-tail}
use Rattle.cable_definitions.specs.declared.site.Version.{Version}
use Rattle.cable_definitions.specs.declared.site.Version.TheVariants.{One, Two}
use Rattle.cable_definitions.specs.declared.site.Mode.{Mode}
use Rattle.cable_definitions.specs.declared.site.Mode.TheVariants.{Tree, Strings}
use Rattle.cable_definitions.specs.Text.{words, IsWord, Reads, mode_word}
use Rattle.cable_definitions.specs.Items.{RawKind, ATurbine, ASubstation, ABend, RawRule, ACharge, AClosing, RawItem, AVersion, AMode, AType, APoint, AnObstacle, ACorner, APair, TheEnd, Misshapen, Stray, Unended, Missing, Overlong, NamesMode, HasTypeWords, HasPointWords, HasPairWords, HasWords}
use Rattle.cable_text.proofs.Reading.{spelling-same}
use Rattle.site_laws.proofs.Pieces.{first_apart, none_within}

-- two lists of words with one text are one
pub same_words : (ws vs : List (List ℕ)) → ws ≢ [] → vs ≢ [] → All IsWord ws → All IsWord vs → words ws ≡ words vs → ws ≡ vs
same_words [] vs m n h k e = absurd (m refl)
same_words ws [] m n h k e = absurd (n refl)
same_words (w ∷ []) (v ∷ []) m n h k e = ap (λ u. u ∷ []) e
same_words (w ∷ []) (v ∷ y ∷ vs) m n h k e = absurd (none_within 32 w v (words (y ∷ vs)) (All-head IsWord w [] h).no_space e)
same_words (w ∷ x ∷ ws) (v ∷ []) m n h k e = absurd (none_within 32 v w (words (x ∷ ws)) (All-head IsWord v [] k).no_space (sym e))
same_words (w ∷ x ∷ ws) (v ∷ y ∷ vs) m n h k e =
    let first = first_apart 32 w v (words (x ∷ ws)) (words (y ∷ vs)) (All-head IsWord w (x ∷ ws) h).no_space (All-head IsWord v (y ∷ vs) k).no_space e in
    let rest = same_words (x ∷ ws) (y ∷ vs) (λ f. cc) (λ f. cc) (All-tail IsWord w (x ∷ ws) h) (All-tail IsWord v (y ∷ vs) k) first.1 in
    let f = first.0 in
    cc

-- a word reads as one number, or as none
pub reads_same : (w v : List ℕ) → w ≡ v → (a b : Option ℤ) → Reads w a → Reads v b → a ≡ b
reads_same w v e (Some x) (Some y) h k = ap Some (spelling-same x y (sym h ∙ e ∙ k))
reads_same w v e (Some x) None h k = absurd (k x (sym e ∙ h))
reads_same w v e None (Some y) h k = absurd (h y (e ∙ k))
reads_same w v e None None h k = refl

-- modes of one word are one
mode_same : (m n : Mode) → mode_word m ≡ mode_word n → m ≡ n
mode_same Tree Tree e = refl
mode_same Tree Strings e = absurd (cc)
mode_same Strings Tree e = absurd (cc)
mode_same Strings Strings e = refl

-- a word names one mode, or none
names_same : (w v : List ℕ) → w ≡ v → (a b : Option Mode) → NamesMode w a → NamesMode v b → a ≡ b
names_same w v e (Some m) (Some n) h k = ap Some (mode_same m n (sym h ∙ e ∙ k))
names_same w v e (Some m) None h k = absurd (k m (sym e ∙ h))
names_same w v e None (Some n) h k = absurd (h n (e ∙ k))
names_same w v e None None h k = refl

-- a number for the first word, which tells the forms of items apart: one for all points, one for all pair rules, and else the sum of its bytes
first_form : List (List ℕ) → ℕ
first_form [] = 0
first_form (w ∷ ws) = group (sum w)
  where
    group : ℕ → ℕ
    group n = if (n == 761) || ((n == 1100) || (n == 409)) then 1 else (if (n == 618) || (n == 634) then 2 else n)

-- the number of an item's form
form_of : RawItem → ℕ
form_of (AVersion v) = 437
form_of (AMode m) = 421
form_of (AType c p l) = 450
form_of (APoint n x y kind) = 1
form_of (AnObstacle k) = 845
form_of (ACorner x y) = 649
form_of (APair a b rule) = 2
form_of TheEnd = 311
form_of Misshapen = 0
form_of Stray = 0
form_of Unended = 0
form_of Missing = 0
form_of Overlong = 0

-- the words of an item begin with a word of its form
begins : (version : Version) (ws : List (List ℕ)) (item : RawItem) → HasWords version ws item → first_form ws ≡ form_of item
unfolding first_form form_of
begins version ws (AVersion v) h = ap first_form h.1
begins version ws (AMode m) h = ap first_form h.1
begins One ws (AType c p l) h = ap first_form h.2
begins Two ws (AType c p l) h = ap first_form h.3
begins version ws (APoint n x y (ATurbine p)) h = ap first_form h.3
begins version ws (APoint n x y (ASubstation f p)) h = ap first_form h.4
begins version ws (APoint n x y ABend) h = ap first_form h.2
begins version ws (AnObstacle k) h = ap first_form h.1
begins version ws (ACorner x y) h = ap first_form h.2
begins version ws (APair a b (ACharge z)) h = ap first_form h.1
begins version ws (APair a b AClosing) h = ap first_form h
begins version ws TheEnd h = ap first_form h
begins version ws Misshapen h = absurd h
begins version ws Stray h = absurd h
begins version ws Unended h = absurd h
begins version ws Missing h = absurd h
begins version ws Overlong h = absurd h

-- the words of a type say one type
type_same : (version : Version) (ws : List (List ℕ)) (c p l d q m : Option ℤ) → HasTypeWords version ws c p l → HasTypeWords version ws d q m → AType c p l ≡ AType d q m
type_same One ws c p l d q m h k =
    let a = h.2 in
    let b = k.2 in
    let u = reads_same h.0 k.0 (cc) c d h.3 k.3 in
    let v = reads_same h.1 k.1 (cc) p q h.4 k.4 in
    let w : l ≡ m = h.5 ∙ sym k.5 in
    cc
type_same Two ws c p l d q m h k =
    let a = h.3 in
    let b = k.3 in
    let u = reads_same h.0 k.0 (cc) c d h.4 k.4 in
    let v = reads_same h.1 k.1 (cc) p q h.5 k.5 in
    let w = reads_same h.2 k.2 (cc) l m h.6 k.6 in
    cc

-- the words of a point say one point
point_same : (ws : List (List ℕ)) (n : List ℕ) (x y : Option ℤ) (kind : RawKind) (m : List ℕ) (z t : Option ℤ) (other : RawKind) → HasPointWords ws n x y kind → HasPointWords ws m z t other → APoint n x y kind ≡ APoint m z t other
point_same ws n x y (ATurbine p) m z t (ATurbine q) h k =
    let a = h.3 in
    let b = k.3 in
    let u = reads_same h.0 k.0 (cc) x z h.4 k.4 in
    let v = reads_same h.1 k.1 (cc) y t h.5 k.5 in
    let w = reads_same h.2 k.2 (cc) p q h.6 k.6 in
    let s : n ≡ m = cc in
    cc
point_same ws n x y (ATurbine p) m z t (ASubstation g q) h k = absurd (let a = h.3 in let b = k.4 in cc)
point_same ws n x y (ATurbine p) m z t ABend h k = absurd (let a = h.3 in let b = k.2 in cc)
point_same ws n x y (ASubstation f p) m z t (ATurbine q) h k = absurd (let a = h.4 in let b = k.3 in cc)
point_same ws n x y (ASubstation f p) m z t (ASubstation g q) h k =
    let a = h.4 in
    let b = k.4 in
    let u = reads_same h.0 k.0 (cc) x z h.5 k.5 in
    let v = reads_same h.1 k.1 (cc) y t h.6 k.6 in
    let r = reads_same h.2 k.2 (cc) f g h.7 k.7 in
    let w = reads_same h.3 k.3 (cc) p q h.8 k.8 in
    let s : n ≡ m = cc in
    cc
point_same ws n x y (ASubstation f p) m z t ABend h k = absurd (let a = h.4 in let b = k.2 in cc)
point_same ws n x y ABend m z t (ATurbine q) h k = absurd (let a = h.2 in let b = k.3 in cc)
point_same ws n x y ABend m z t (ASubstation g q) h k = absurd (let a = h.2 in let b = k.4 in cc)
point_same ws n x y ABend m z t ABend h k =
    let a = h.2 in
    let b = k.2 in
    let u = reads_same h.0 k.0 (cc) x z h.3 k.3 in
    let v = reads_same h.1 k.1 (cc) y t h.4 k.4 in
    let s : n ≡ m = cc in
    cc

-- the words of a pair rule say one pair rule
pair_same : (ws : List (List ℕ)) (a b : List ℕ) (rule : RawRule) (c d : List ℕ) (other : RawRule) → HasPairWords ws a b rule → HasPairWords ws c d other → APair a b rule ≡ APair c d other
pair_same ws a b (ACharge i) c d (ACharge j) h k =
    let e = h.1 in
    let f = k.1 in
    let u = reads_same h.0 k.0 (cc) i j h.2 k.2 in
    let s : a ≡ c = cc in
    let t : b ≡ d = cc in
    cc
pair_same ws a b (ACharge i) c d AClosing h k = absurd (let e = h.1 in cc)
pair_same ws a b AClosing c d (ACharge j) h k = absurd (let e = k.1 in cc)
pair_same ws a b AClosing c d AClosing h k =
    let s : a ≡ c = cc in
    let t : b ≡ d = cc in
    cc

-- words say one item
pub same_said : (version : Version) (ws : List (List ℕ)) (item other : RawItem) → HasWords version ws item → HasWords version ws other → item ≡ other
unfolding form_of
same_said version ws (AVersion v) (AVersion u) h k = let a = h.1 in let b = k.1 in ap AVersion (reads_same h.0 k.0 (cc) v u h.2 k.2)
same_said version ws (AMode m) (AMode n) h k = let a = h.1 in let b = k.1 in ap AMode (names_same h.0 k.0 (cc) m n h.2 k.2)
same_said version ws (AType c p l) (AType d q m) h k = type_same version ws c p l d q m h k
same_said version ws (APoint n x y kind) (APoint m z t other) h k = point_same ws n x y kind m z t other h k
same_said version ws (AnObstacle i) (AnObstacle j) h k = let a = h.1 in let b = k.1 in ap AnObstacle (reads_same h.0 k.0 (cc) i j h.2 k.2)
same_said version ws (ACorner x y) (ACorner z t) h k =
    let a = h.2 in
    let b = k.2 in
    let u = reads_same h.0 k.0 (cc) x z h.3 k.3 in
    let v = reads_same h.1 k.1 (cc) y t h.4 k.4 in
    cc
same_said version ws (APair a b rule) (APair c d other) h k = pair_same ws a b rule c d other h k
same_said version ws TheEnd TheEnd h k = refl
same_said version ws Misshapen other h k = absurd h
same_said version ws Stray other h k = absurd h
same_said version ws Unended other h k = absurd h
same_said version ws Missing other h k = absurd h
same_said version ws Overlong other h k = absurd h
same_said version ws item other h k = absurd (omega (arith, begins version ws item h, begins version ws other k))
