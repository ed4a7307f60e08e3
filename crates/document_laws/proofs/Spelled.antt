-- The lines that are written are the spellings of lines, of short words and numbers within their ranges.
use Rattle.std.proofs.Common.{◌≡◌, ℕ, zero, suc, ◌+◌, ◌*◌, ◌^◌, ◌<◌, ◌≤◌, ℤ, pos, negsuc, true, List, [], ◌∷◌, length, map, Some, refl, sym, ap, ◌∙◌, subst, arith, codes, lit≤}
use Rattle.std.specs.Prelude.{All, ◌≤ℤ◌, neg_ℤ, nat_abs, unsigned_abs}
use Rattle.std.specs.List.{list_all}
use Rattle.std.specs.Fmt.{decimal}
use Rattle.std.proofs.lemmas.Int.{ints}
use Rattle.std.proofs.lemmas.Option.{same_Some}
use Rattle.std.proofs.lemmas.List.{length-append}
use Rattle.std.proofs.lemmas.List.Elements.{All-nil, All-cons, All-head, All-tail, All-weaker}
use Rattle.cable_definitions.specs.declared.row.RowKind.{RowKind}
use Rattle.cable_definitions.specs.declared.row.RowKind.TheVariants.{Out, Flow, Inlet, Bend, Power, One, Cut}
use Rattle.cable_definitions.specs.declared.row.Why.TheVariants.{Row as RowWhy, Pair as PairWhy, Load as LoadWhy, Loop as LoopWhy, Power as PowerWhy, Ceiling as CeilingWhy}
use Rattle.cable_definitions.specs.declared.row.Act.{Act}
use Rattle.cable_definitions.specs.declared.row.Act.TheVariants.{Split, Stop, Dead as DeadAct, Full as FullAct}
use Rattle.cable_definitions.specs.declared.claim.Claim.{Claim}
use Rattle.cable_definitions.specs.declared.claim.Claim.TheVariants.{Optimal, Gap, Partial, Infeasible}
use Rattle.cable_definitions.specs.Site.{Site}
use Rattle.cable_definitions.specs.Naming.{IsName}
use Rattle.cable_definitions.specs.Numeral.{numeral, spelling as spelled}
use Rattle.cable_definitions.specs.Items.{Field, within, IsWithin}
use Rattle.cable_definitions.specs.Text.{number, words, line, IsWord, kind_word, act_line, claim_line, name_of}
use Rattle.cable_definitions.specs.Document.{IsClaimInRange}
use Rattle.cable_definitions.specs.Refusal.{RawAct, ASplit, AStop, AFull, ADeadRow, ADeadPair, ADeadLoad, ADeadLoop, ADeadPower, ADeadCeiling, RawClaim, AnOptimal, AGap, AnOpen, AnInfeasible, act_spelling, claim_spelling, act_fields, claim_fields, act_from}
use Rattle.cable_text.proofs.Numerals.{length-digit_bytes, numeral-zero, numeral-digit_bytes, numeral-decimal}
use Rattle.cable_text.proofs.Reading.{spelling-number}
use Rattle.site_laws.proofs.Numerals.{is_letter, letters_fit, name_fits}
use Rattle.document_laws.proofs.Words.{numeral_word, spelling_word}

-- ---- numbers that are written
-- a number below 2 ^ 64 is written as it is spelled
pub written : (n : ℕ) → n < 2 ^ 64 → decimal n ≡ numeral n
written n h = sym (numeral-decimal n (omega (arith, h)))

-- a weight is written as it is spelled
pub weight-written : (z : ℤ) → unsigned_abs z ≤ 2 ^ 76 → number z ≡ spelled z
weight-written z h = sym (spelling-number z (omega (arith, ints, h)) (omega (arith, ints, h)))

-- ---- short words
-- a word of at most so many bytes
pub record IsShort (most : ℕ) (w : List ℕ) : Type 0 where
  pub word : IsWord w
  pub short : length w ≤ most

-- a keyword, which in the line of a row has at most 14 bytes
pub row-key : (w : List ℕ) → list_all is_letter w ≡ true → 1 ≤ length w → length w ≤ 14 → IsShort 14 w
row-key w h some l = record { word = (letters_fit w h some (omega (arith, l))).word; short = l }

pub key : (w : List ℕ) → list_all is_letter w ≡ true → 1 ≤ length w → length w ≤ 24 → IsShort 24 w
key w h some l = record { word = (letters_fit w h some (omega (arith, l))).word; short = l }

pub short-name : (w : List ℕ) → IsName w → IsShort 24 w
short-name w h = let l = h.short in record { word = (name_fits w h).word; short = omega (arith, l) }

numeral_length : (k n : ℕ) → 1 ≤ k → n < 10 ^ k → length (numeral n) ≤ k
numeral_length k zero l h = let e = ap length numeral-zero in omega (arith, e, l)
numeral_length k (suc n) l h = let e = ap length (numeral-digit_bytes (suc n) (omega arith)) in let m = length-digit_bytes k (suc n) h in omega (arith, e, m)

pub short-count : (k most n : ℕ) → 1 ≤ k → n < 10 ^ k → k ≤ most → IsShort most (numeral n)
short-count k most n l h m = let s = numeral_length k n l h in record { word = numeral_word n; short = omega (arith, s, m) }

-- a number below 2 ^ 64 has at most 20 digits
pub short-number : (n : ℕ) → n < 2 ^ 64 → IsShort 24 (numeral n)
short-number n h = short-count 20 24 n (omega arith) (omega (arith, h)) (omega arith)

-- a weight has at most 23 digits
pub short-weight : (z : ℤ) → unsigned_abs z ≤ 2 ^ 76 → IsShort 24 (spelled z)
short-weight (pos n) h = short-count 23 24 n (omega arith) (omega (arith, h)) (omega arith)
short-weight (negsuc n) h =
    let s = numeral_length 23 (n + 1) (omega arith) (omega (arith, h)) in
    record { word = spelling_word (negsuc n); short = omega (arith, s) }

-- so many short words make a short text
pub short-text : (most : ℕ) (ws : List (List ℕ)) → All (IsShort most) ws → length (words ws) ≤ (most + 1) * length ws
short-text most [] h = omega arith
short-text most (w ∷ []) h = let l = (All-head (IsShort most) w [] h).short in omega (arith, l)
short-text most (w ∷ v ∷ ws) h =
    let l = (All-head (IsShort most) w (v ∷ ws) h).short in
    let rest = short-text most (v ∷ ws) (All-tail (IsShort most) w (v ∷ ws) h) in
    omega (arith, l, rest, length-append w (32 ∷ words (v ∷ ws)))

pub short-words : (most : ℕ) (ws : List (List ℕ)) → All (IsShort most) ws → All IsWord ws
short-words most ws h = All-weaker (IsShort most) IsWord (λ w s. s.word) ws h

-- lists of short words
pub one-short : (most : ℕ) (w : List ℕ) → IsShort most w → All (IsShort most) (w ∷ [])
one-short most w h = All-cons (IsShort most) w [] h (All-nil (IsShort most))

pub two-short : (most : ℕ) (w v : List ℕ) → IsShort most w → IsShort most v → All (IsShort most) (w ∷ v ∷ [])
two-short most w v h k = All-cons (IsShort most) w (v ∷ []) h (one-short most v k)

pub three-short : (most : ℕ) (w v u : List ℕ) → IsShort most w → IsShort most v → IsShort most u → All (IsShort most) (w ∷ v ∷ u ∷ [])
three-short most w v u h k l = All-cons (IsShort most) w (v ∷ u ∷ []) h (two-short most v u k l)

pub four-short : (most : ℕ) (w v u t : List ℕ) → IsShort most w → IsShort most v → IsShort most u → IsShort most t → All (IsShort most) (w ∷ v ∷ u ∷ t ∷ [])
four-short most w v u t h k l m = All-cons (IsShort most) w (v ∷ u ∷ t ∷ []) h (three-short most v u t k l m)

-- ---- numbers within their ranges
pub number-within : (z least most : ℤ) → least ≤ℤ z → z ≤ℤ most → IsWithin (within (Some z) least most)
number-within z least most h k y e = let same = same_Some z y e in subst (λ (x : ℤ). (least ≤ℤ x) × (x ≤ℤ most)) same (h, k)

pub count-within : (n low high : ℕ) → low ≤ n → n ≤ high → IsWithin (within (Some (pos n)) (pos low) (pos high))
count-within n low high h k = number-within (pos n) (pos low) (pos high) (omega (arith, ints, h)) (omega (arith, ints, k))

pub weight-within : (z : ℤ) → unsigned_abs z ≤ 2 ^ 76 → IsWithin (within (Some z) (neg_ℤ (pos 75557863725914323419136)) (pos 75557863725914323419136))
weight-within z h = number-within z (neg_ℤ (pos 75557863725914323419136)) (pos 75557863725914323419136) (omega (arith, ints, h)) (omega (arith, ints, h))

-- lists of numbers within their ranges
pub no_field : All IsWithin []
no_field = All-nil IsWithin

pub one_field : (f : Field) → IsWithin f → All IsWithin (f ∷ [])
one_field f h = All-cons IsWithin f [] h no_field

pub two_fields : (f g : Field) → IsWithin f → IsWithin g → All IsWithin (f ∷ g ∷ [])
two_fields f g h k = All-cons IsWithin f (g ∷ []) h (one_field g k)

-- ---- acts
-- the act as it is written
abbrev pub raw_act : Act → RawAct
raw_act (Split a) = ASplit (pos a)
raw_act Stop = AStop
raw_act (DeadAct (RowWhy r)) = ADeadRow (pos r)
raw_act (DeadAct (PairWhy a b)) = ADeadPair (pos a) (pos b)
raw_act (DeadAct (LoadWhy p)) = ADeadLoad (pos p)
raw_act (DeadAct (LoopWhy p)) = ADeadLoop (pos p)
raw_act (DeadAct (PowerWhy p)) = ADeadPower (pos p)
raw_act (DeadAct CeilingWhy) = ADeadCeiling
raw_act FullAct = AFull

pub raw_act-read : (act : Act) → act_from (raw_act act) ≡ act
raw_act-read (Split a) = refl
raw_act-read Stop = refl
raw_act-read (DeadAct (RowWhy r)) = refl
raw_act-read (DeadAct (PairWhy a b)) = refl
raw_act-read (DeadAct (LoadWhy p)) = refl
raw_act-read (DeadAct (LoopWhy p)) = refl
raw_act-read (DeadAct (PowerWhy p)) = refl
raw_act-read (DeadAct CeilingWhy) = refl
raw_act-read FullAct = refl

-- the numbers of an act are of arcs, rows and points
abbrev pub FitsAct : Act → Type 0
FitsAct (Split a) = a < 65280
FitsAct Stop = Unit {0}
FitsAct (DeadAct (RowWhy r)) = r < 16384
FitsAct (DeadAct (PairWhy a b)) = (a < 65280) × (b < 65280)
FitsAct (DeadAct (LoadWhy p)) = p < 256
FitsAct (DeadAct (LoopWhy p)) = p < 256
FitsAct (DeadAct (PowerWhy p)) = p < 256
FitsAct (DeadAct CeilingWhy) = Unit {0}
FitsAct FullAct = Unit {0}

-- what is said of the line of an act
pub record IsActWritten (act : Act) : Type 0 where
  pub text : act_line act ≡ line (act_spelling (raw_act act))
  pub shorts : All (IsShort 24) (act_spelling (raw_act act))
  pub few : length (act_spelling (raw_act act)) ≤ 4
  pub fields : All IsWithin (act_fields (raw_act act))

dead_key : IsShort 24 (codes "dead")
dead_key = key (codes "dead") refl (lit≤ tt) (lit≤ tt)

-- a reason with one number
dead_one : (w : List ℕ) (n : ℕ) → IsShort 24 w → n < 2 ^ 64 → line (codes "dead" ∷ w ∷ decimal n ∷ []) ≡ line (codes "dead" ∷ w ∷ numeral n ∷ [])
dead_one w n h l = ap (λ (v : List ℕ). line (codes "dead" ∷ w ∷ v ∷ [])) (written n l)

dead_words : (w : List ℕ) (n : ℕ) → IsShort 24 w → n < 2 ^ 64 → All (IsShort 24) (codes "dead" ∷ w ∷ numeral n ∷ [])
dead_words w n h l = three-short 24 (codes "dead") w (numeral n) dead_key h (short-number n l)

pub act-written : (act : Act) → FitsAct act → IsActWritten act
act-written (Split a) h = record {
  text = ap (λ (v : List ℕ). line (codes "split" ∷ v ∷ [])) (written a (omega (arith, h)));
  shorts = two-short 24 (codes "split") (numeral a) (key (codes "split") refl (lit≤ tt) (lit≤ tt)) (short-number a (omega (arith, h)));
  few = lit≤ tt;
  fields = one_field (within (Some (pos a)) (pos 0) (pos 65279)) (count-within a 0 65279 (omega arith) (omega (arith, h)));
}
act-written Stop h = record { text = refl; shorts = one-short 24 (codes "stop") (key (codes "stop") refl (lit≤ tt) (lit≤ tt)); few = lit≤ tt; fields = no_field }
act-written (DeadAct (RowWhy r)) h =
    let k = key (codes "row") refl (lit≤ tt) (lit≤ tt) in
    let l : r < 2 ^ 64 = omega (arith, h) in
    record { text = dead_one (codes "row") r k l; shorts = dead_words (codes "row") r k l; few = lit≤ tt; fields = one_field (within (Some (pos r)) (pos 0) (pos 16383)) (count-within r 0 16383 (omega arith) (omega (arith, h))) }
act-written (DeadAct (PairWhy a b)) h =
    let l : a < 2 ^ 64 = omega (arith, h.0) in
    let m : b < 2 ^ 64 = omega (arith, h.1) in
    record {
      text = ap (λ (v : List ℕ). line (codes "dead" ∷ codes "pair" ∷ v ∷ decimal b ∷ [])) (written a l) ∙ ap (λ (v : List ℕ). line (codes "dead" ∷ codes "pair" ∷ numeral a ∷ v ∷ [])) (written b m);
      shorts = four-short 24 (codes "dead") (codes "pair") (numeral a) (numeral b) dead_key (key (codes "pair") refl (lit≤ tt) (lit≤ tt)) (short-number a l) (short-number b m);
      few = lit≤ tt;
      fields = two_fields (within (Some (pos a)) (pos 0) (pos 65279)) (within (Some (pos b)) (pos 0) (pos 65279)) (count-within a 0 65279 (omega arith) (omega (arith, h.0))) (count-within b 0 65279 (omega arith) (omega (arith, h.1)));
    }
act-written (DeadAct (LoadWhy p)) h =
    let k = key (codes "load") refl (lit≤ tt) (lit≤ tt) in
    let l : p < 2 ^ 64 = omega (arith, h) in
    record { text = dead_one (codes "load") p k l; shorts = dead_words (codes "load") p k l; few = lit≤ tt; fields = one_field (within (Some (pos p)) (pos 0) (pos 255)) (count-within p 0 255 (omega arith) (omega (arith, h))) }
act-written (DeadAct (LoopWhy p)) h =
    let k = key (codes "loop") refl (lit≤ tt) (lit≤ tt) in
    let l : p < 2 ^ 64 = omega (arith, h) in
    record { text = dead_one (codes "loop") p k l; shorts = dead_words (codes "loop") p k l; few = lit≤ tt; fields = one_field (within (Some (pos p)) (pos 0) (pos 255)) (count-within p 0 255 (omega arith) (omega (arith, h))) }
act-written (DeadAct (PowerWhy p)) h =
    let k = key (codes "power") refl (lit≤ tt) (lit≤ tt) in
    let l : p < 2 ^ 64 = omega (arith, h) in
    record { text = dead_one (codes "power") p k l; shorts = dead_words (codes "power") p k l; few = lit≤ tt; fields = one_field (within (Some (pos p)) (pos 0) (pos 255)) (count-within p 0 255 (omega arith) (omega (arith, h))) }
act-written (DeadAct CeilingWhy) h = record { text = refl; shorts = two-short 24 (codes "dead") (codes "ceiling") dead_key (key (codes "ceiling") refl (lit≤ tt) (lit≤ tt)); few = lit≤ tt; fields = no_field }
act-written FullAct h = record { text = refl; shorts = one-short 24 (codes "full") (key (codes "full") refl (lit≤ tt) (lit≤ tt)); few = lit≤ tt; fields = no_field }

-- ---- claims
-- the claim as it is written
abbrev pub raw_claim : Site → Claim → RawClaim
raw_claim s (Optimal c) = AnOptimal (pos c)
raw_claim s (Gap c b) = AGap (pos c) (pos b)
raw_claim s (Partial b stuck) = AnOpen (pos b) (name_of s stuck)
raw_claim s Infeasible = AnInfeasible

-- the name of a turbine that is left out is one
abbrev pub HasName : Site → Claim → Type 0
HasName s (Optimal c) = Unit {0}
HasName s (Gap c b) = Unit {0}
HasName s (Partial b stuck) = IsName (name_of s stuck)
HasName s Infeasible = Unit {0}

-- what is said of the line of a claim
pub record IsClaimWritten (s : Site) (claim : Claim) : Type 0 where
  pub text : claim_line s claim ≡ line (claim_spelling (raw_claim s claim))
  pub shorts : All (IsShort 24) (claim_spelling (raw_claim s claim))
  pub few : length (claim_spelling (raw_claim s claim)) ≤ 4
  pub fields : All IsWithin (claim_fields (raw_claim s claim))

sum-within : (c : ℕ) → c < 2 ^ 63 → IsWithin (within (Some (pos c)) (pos 0) (pos 9223372036854775807))
sum-within c h = count-within c 0 9223372036854775807 (omega arith) (omega (arith, h))

pub claim-written : (s : Site) (claim : Claim) → IsClaimInRange claim → HasName s claim → IsClaimWritten s claim
claim-written s (Optimal c) h named =
    let l : c < 2 ^ 64 = omega (arith, h) in
    record {
      text = ap (λ (v : List ℕ). line (codes "optimal" ∷ v ∷ [])) (written c l);
      shorts = two-short 24 (codes "optimal") (numeral c) (key (codes "optimal") refl (lit≤ tt) (lit≤ tt)) (short-number c l);
      few = lit≤ tt;
      fields = one_field (within (Some (pos c)) (pos 0) (pos 9223372036854775807)) (sum-within c h);
    }
claim-written s (Gap c b) h named =
    let l : c < 2 ^ 64 = omega (arith, h.0) in
    let m : b < 2 ^ 64 = omega (arith, h.1) in
    record {
      text = ap (λ (v : List ℕ). line (codes "gap" ∷ v ∷ decimal b ∷ [])) (written c l) ∙ ap (λ (v : List ℕ). line (codes "gap" ∷ numeral c ∷ v ∷ [])) (written b m);
      shorts = three-short 24 (codes "gap") (numeral c) (numeral b) (key (codes "gap") refl (lit≤ tt) (lit≤ tt)) (short-number c l) (short-number b m);
      few = lit≤ tt;
      fields = two_fields (within (Some (pos c)) (pos 0) (pos 9223372036854775807)) (within (Some (pos b)) (pos 0) (pos 9223372036854775807)) (sum-within c h.0) (sum-within b h.1);
    }
claim-written s (Partial b stuck) h named =
    let l : b < 2 ^ 64 = omega (arith, h) in
    record {
      text = ap (λ (v : List ℕ). line (codes "open" ∷ v ∷ codes "stuck" ∷ name_of s stuck ∷ [])) (written b l);
      shorts = four-short 24 (codes "open") (numeral b) (codes "stuck") (name_of s stuck) (key (codes "open") refl (lit≤ tt) (lit≤ tt)) (short-number b l) (key (codes "stuck") refl (lit≤ tt) (lit≤ tt)) (short-name (name_of s stuck) named);
      few = lit≤ tt;
      fields = one_field (within (Some (pos b)) (pos 0) (pos 9223372036854775807)) (sum-within b h);
    }
claim-written s Infeasible h named = record { text = refl; shorts = one-short 24 (codes "infeasible") (key (codes "infeasible") refl (lit≤ tt) (lit≤ tt)); few = lit≤ tt; fields = no_field }

-- ---- rows
-- the word of a kind is short
pub kind-short : (kind : RowKind) → IsShort 14 (kind_word kind)
kind-short Out = row-key (codes "out") refl (lit≤ tt) (lit≤ tt)
kind-short Flow = row-key (codes "flow") refl (lit≤ tt) (lit≤ tt)
kind-short Inlet = row-key (codes "inlet") refl (lit≤ tt) (lit≤ tt)
kind-short Bend = row-key (codes "bend") refl (lit≤ tt) (lit≤ tt)
kind-short Power = row-key (codes "power") refl (lit≤ tt) (lit≤ tt)
kind-short One = row-key (codes "one") refl (lit≤ tt) (lit≤ tt)
kind-short Cut = row-key (codes "cut") refl (lit≤ tt) (lit≤ tt)

-- members are short words, written as they are spelled, and read back
pub members-short : (ms : List ℕ) → All (λ m. m < 65280) ms → All (IsShort 14) (map spelled (map pos ms))
members-short [] h = All-nil (IsShort 14)
members-short (m ∷ ms) h =
    let l : m < 65280 = All-head (λ n. n < 65280) m ms h in
    All-cons (IsShort 14) (numeral m) (map spelled (map pos ms)) (short-count 5 14 m (omega arith) (omega (arith, l)) (omega arith)) (members-short ms (All-tail (λ n. n < 65280) m ms h))

pub members-written : (ms : List ℕ) → All (λ m. m < 65280) ms → map decimal ms ≡ map spelled (map pos ms)
members-written [] h = refl
members-written (m ∷ ms) h =
    let l : m < 65280 = All-head (λ n. n < 65280) m ms h in
    ap (λ (w : List ℕ). w ∷ map decimal ms) (written m (omega (arith, l))) ∙ ap (λ (ws : List (List ℕ)). numeral m ∷ ws) (members-written ms (All-tail (λ n. n < 65280) m ms h))

pub members-read : (ms : List ℕ) → map nat_abs (map pos ms) ≡ ms
members-read [] = refl
members-read (m ∷ ms) = ap (λ (ns : List ℕ). m ∷ ns) (members-read ms)
