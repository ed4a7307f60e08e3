-- The lines that were read so far: good items that lead from the beginning to the site so far.
use Rattle.std.proofs.Common.{◌≡◌, ℕ, zero, suc, ◌+◌, ◌-◌, ◌^◌, ◌<◌, ◌≤◌, List, [], ◌∷◌, ◌++◌, length, Bool, true, false, not, cond, ◌==◌, refl, sym, ap, ◌∙◌, subst, append_assoc, arith, Option, Some, None, Result, Ok, Err}
use Rattle.std.specs.Prelude.{IfOk, OnOk}
use Rattle.std.proofs.lemmas.List.{append-nil, length_push}
use Rattle.std.proofs.lemmas.List.Elements.{All-head, All-tail}
use Rattle.std.proofs.lemmas.List.Sums.{sum_by-append, sum_by-cons}
use Rattle.std.proofs.lemmas.Bool.{not-true}
use Rattle.cable_definitions.specs.declared.site.SiteCode.{SiteCode}
use Rattle.cable_definitions.specs.Site.{Site, IsValid}
use Rattle.cable_definitions.specs.Text.{Whole, HasNoNewline, line_count, site_lines}
use Rattle.cable_definitions.specs.Items.{Draft, RawItem, TheEnd, IsGood, Adds, IsFirstCode, IsItemAt, ReadsItems, IsLineFault, empty_draft}
use Rattle.cable_definitions.specs.Stream.{GivesFront}
use Rattle.cable_text.specs.Lines.{next_number}
use Rattle.site_text.specs.Reading.{lines_after, ReadsItemLine, ReadsItem, IsNextFault, FaultsNext, Faults}
use Rattle.site_text.proofs.NextLine.{line_fault}
use Rattle.site_text.proofs.SiteReading.{GoesOn, goes_on, begins, site_read}
use Rattle.site_text.proofs.Counting.{lines_of, lines_more, lines_few}

-- how many lines were read after so many more
abbrev pub lines_from : ℕ → ℕ → ℕ
lines_from lines zero = lines
lines_from lines (suc k) = next_number (lines_from lines k)

lines_counted : (lines k : ℕ) → lines_from lines (suc k) ≡ lines_after lines (suc k)
lines_counted lines zero = omega arith
lines_counted lines (suc k) = let h = lines_counted lines k in omega arith

lines_small : (lines k : ℕ) → lines + k < 2 ^ 64 → lines_from lines k ≡ lines + k
lines_small lines zero h = omega arith
lines_small lines (suc k) h = let r = lines_small lines k (omega arith) in omega arith

-- the lines of these items
pub record Run (d e : Draft) (before after : Option (List ℕ)) (old new : ℕ) (front : List ℕ) (items : List RawItem) : Type 0 where
  pub reads : (rest : List ℕ) → ReadsItems d (front ++ rest) items e rest
  pub gives : GivesFront before after front
  pub newlines : line_count front ≡ length items
  pub lines : new ≡ lines_from old (length items)

-- ---- runs one after another
Gives-nil : (before : Option (List ℕ)) → GivesFront before before []
Gives-nil None = refl
Gives-nil (Some bytes) = (bytes, refl, refl)

Gives-then : (a b c : Option (List ℕ)) (x y : List ℕ) → GivesFront a b x → GivesFront b c y → GivesFront a c (x ++ y)
Gives-then None b c x y g h = let P : Option (List ℕ) → Type 0 = λ o. GivesFront o c y in subst P g h
Gives-then (Some bytes) b c x y g h =
    let P : Option (List ℕ) → Type 0 = λ o. GivesFront o c y in
    let k = subst P g.2 h in
    (k.0, g.1 ∙ ap (λ r. x ++ r) k.1 ∙ sym (append_assoc x y k.0), k.2)

ReadsItems-then : (items more : List RawItem) (d e f : Draft) (bytes mid rest : List ℕ) → ReadsItems d bytes items e mid → ReadsItems e mid more f rest → ReadsItems d bytes (items ++ more) f rest
ReadsItems-then [] more d e f bytes mid rest r s =
    let P : Draft → Type 0 = λ g. ReadsItems g mid more f rest in
    subst (λ (b : List ℕ). ReadsItems d b more f rest) r.1 (subst P r.0 s)
ReadsItems-then (item ∷ items) more d e f bytes mid rest r s = (r.0, r.1, r.2, r.3, r.4, ReadsItems-then items more r.0 e f r.1 mid rest r.5 s)

-- the newlines of a text, one after another
abbrev newline : ℕ → ℕ
newline b = cond (b == 10) 1 0

count_then : (x y : List ℕ) → line_count (x ++ y) ≡ line_count x + line_count y
count_then x y = sum_by-append newline x y

-- a line ends in one newline
plain_count : (text : List ℕ) → HasNoNewline text → line_count (text ++ 10 ∷ []) ≡ 1
plain_count [] h = refl
plain_count (b ∷ bs) h =
    let n : (b == 10) ≡ false = not-true (b == 10) (All-head (λ z. not (z == 10) ≡ true) b bs h) in
    let r = plain_count bs (All-tail (λ z. not (z == 10) ≡ true) b bs h) in
    let one : newline b ≡ 0 = ap (λ (t : Bool). cond t 1 0) n in
    let split : line_count (b ∷ (bs ++ 10 ∷ [])) ≡ newline b + line_count (bs ++ 10 ∷ []) = sum_by-cons newline b (bs ++ 10 ∷ []) in
    omega arith

-- the run of no line
pub no_line : (d : Draft) (before : Option (List ℕ)) (lines : ℕ) → Run d d before before lines lines [] []
no_line d before lines = record { reads = λ rest. (refl, refl); gives = Gives-nil before; newlines = refl; lines = refl }

-- a run with one line more
pub line_more : (d e f : Draft) (before mid after : Option (List ℕ)) (old now new : ℕ) (front : List ℕ) (items : List RawItem) (item : RawItem) → Run d e before mid old now front items
    → (l : ReadsItemLine e.site.version item mid after now new) → IsGood e item → Adds e item f → Run d f before after old new (front ++ (l.text ++ 10 ∷ [])) (items ++ item ∷ [])
line_more d e f before mid after old now new front items item run l good adds = record {
  reads = λ rest.
      let at : IsItemAt e.site.version ((l.text ++ 10 ∷ []) ++ rest) item rest = record { piece = Whole l.text; next = (append_assoc l.text (10 ∷ []) rest, l.plain, l.short); item_is = l.item_of } in
      let first = run.reads ((l.text ++ 10 ∷ []) ++ rest) in
      subst (λ (b : List ℕ). ReadsItems d b (items ++ item ∷ []) f rest) (sym (append_assoc front (l.text ++ 10 ∷ []) rest))
      (ReadsItems-then items (item ∷ []) d e f (front ++ ((l.text ++ 10 ∷ []) ++ rest)) ((l.text ++ 10 ∷ []) ++ rest) rest first (f, rest, at, good, adds, (refl, refl)));
  gives = Gives-then before mid after front (l.text ++ 10 ∷ []) run.gives l.gives;
  newlines = omega (arith, count_then front (l.text ++ 10 ∷ []), plain_count l.text l.plain, run.newlines, length_push items item);
  lines = l.lines ∙ ap next_number run.lines ∙ ap (lines_from old) (let p = length_push items item in let q : suc (length items) ≡ length (items ++ item ∷ []) = omega arith in q);
}

-- ---- the site so far, and the lines that it was read from
pub record HasRead (d : Draft) (before after : Option (List ℕ)) (old new : ℕ) : Type 0 where
  pub front : List ℕ
  pub items : List RawItem
  pub run : Run empty_draft d before after old new front items
  pub goes_on : GoesOn d
  pub count : length items ≡ lines_of d

pub nothing_read : (before : Option (List ℕ)) (lines : ℕ) → HasRead empty_draft before before lines lines
nothing_read before lines = record { front = []; items = []; run = no_line empty_draft before lines; goes_on = begins; count = refl }

pub one_more : (d e : Draft) (before mid after : Option (List ℕ)) (old now new : ℕ) → HasRead d before mid old now → ReadsItem d e mid after now new → HasRead e before after old new
one_more d e before mid after old now new h r =
    let l = r.line in
    let at : IsItemAt d.site.version (l.text ++ 10 ∷ []) r.item [] = record { piece = Whole l.text; next = (refl, l.plain, l.short); item_is = l.item_of } in
    record {
      front = h.front ++ (l.text ++ 10 ∷ []);
      items = h.items ++ r.item ∷ [];
      run = line_more empty_draft d e before mid after old now new h.front h.items r.item h.run l r.takes.good r.takes.adds;
      goes_on = goes_on d e (l.text ++ 10 ∷ []) [] r.item h.goes_on at r.takes.good r.takes.adds r.other;
      count = omega (arith, length_push h.items r.item, h.count, lines_more d e r.item h.goes_on.draft h.goes_on.tidy r.takes.good r.takes.adds r.other);
    }

-- what is left to read is less after each item
pub fewer_left : (d e : Draft) (before mid after : Option (List ℕ)) (old now new : ℕ) → HasRead d before mid old now → ReadsItem d e mid after now new → 34000 - lines_of e < 34000 - lines_of d
fewer_left d e before mid after old now new h r =
    let k = one_more d e before mid after old now new h r in
    omega (arith, lines_more d e r.item h.goes_on.draft h.goes_on.tidy r.takes.good r.takes.adds r.other, lines_few e k.goes_on.draft)

-- ---- the end
pub record ReadsSite (s : Site) (before after : Option (List ℕ)) (old new : ℕ) : Type 0 where
  pub valid : IsValid s
  pub text : GivesFront before after (site_lines s)
  pub lines : new ≡ lines_after old (line_count (site_lines s))
  pub few : line_count (site_lines s) ≤ 34100

pub site_ended : (d : Draft) (before mid after : Option (List ℕ)) (old now new : ℕ) → HasRead d before mid old now → ReadsItemLine d.site.version TheEnd mid after now new → IsGood d TheEnd → ReadsSite d.site before after old new
site_ended d before mid after old now new h l good =
    let e : Draft = record d { stage = 6 } in
    let front = h.front ++ (l.text ++ 10 ∷ []) in
    let items = h.items ++ TheEnd ∷ [] in
    let run = line_more empty_draft d e before mid after old now new h.front h.items TheEnd h.run l good refl in
    let read = site_read (front ++ []) [] items e (run.reads []) refl in
    let text : front ≡ site_lines d.site = sym (append-nil front) ∙ read.text ∙ append-nil (site_lines d.site) in
    let size : length items ≡ suc (length h.items) = omega (arith, length_push h.items TheEnd) in
    let count : line_count (site_lines d.site) ≡ suc (length h.items) = ap line_count (sym text) ∙ run.newlines ∙ size in
    record {
      valid = read.valid;
      text = subst (GivesFront before after) text run.gives;
      lines = run.lines ∙ ap (lines_from old) size ∙ lines_counted old (length h.items) ∙ ap (lines_after old) (sym count);
      few = omega (arith, count, h.count, lines_few d h.goes_on.draft);
    }

-- what holds of a site that was read
pub of_read : {X E : Type 0} (r : Result X E) {P Q : X → Type 0} → ((x : X) → P x → Q x) → IfOk r P → IfOk r Q
of_read (Ok x) f h = f x h
of_read (Err e) f h = tt

pub finished : {E : Type 0} (r : Result Site E) (d f : Draft) (before mid after : Option (List ℕ)) (old now new : ℕ) → f ≡ d → HasRead d before mid old now → ReadsItemLine d.site.version TheEnd mid after now new → OnOk r (IsGood f TheEnd) → IfOk r (λ s. s ≡ f.site) → IfOk r (λ s. ReadsSite s before after old new)
finished (Ok s) d f before mid after old now new e h l good is =
    let ended = site_ended d before mid after old now new h l (subst (λ (k : Draft). IsGood k TheEnd) e good) in
    let same : s ≡ d.site = is ∙ ap (λ (k : Draft). k.site) e in
    subst (λ (t : Site). ReadsSite t before after old new) (sym same) ended
finished (Err e) d f before mid after old now new same h l good is = tt

-- ---- the fault
pub read_fault : (d : Draft) (before mid : Option (List ℕ)) (bytes : List ℕ) (old now : ℕ) (code : SiteCode) (place : ℕ) (broken : Bool) → before ≡ Some bytes → old + 34100 < 2 ^ 64 → HasRead d before mid old now → Faults d mid now code place broken → IsLineFault bytes (old + 1) code place broken
read_fault d before mid bytes old now code place broken is small h f =
    let P : Option (List ℕ) → Type 0 = λ o. GivesFront o mid h.front in
    let g = subst P is h.run.gives in
    let Q : Option (List ℕ) → Type 0 = λ o. FaultsNext d o code broken in
    let n : IsNextFault d g.0 code broken = subst Q g.2 f.next in
    let few = lines_few d h.goes_on.draft in
    let c = h.count in
    let lines : now ≡ old + length h.items = h.run.lines ∙ lines_small old (length h.items) (omega arith) in
    record {
      good = h.items;
      draft = d;
      left = g.0;
      reads = subst (λ (b : List ℕ). ReadsItems empty_draft b h.items d g.0) (sym g.1) (h.run.reads g.0);
      not_ended = λ six. let s = h.goes_on.before_end in omega arith;
      bad = n.bad;
      rest = n.rest;
      bad_at = n.bad_at;
      first = n.first;
      place_is = (let p = f.place_is in omega arith);
      broken_line_is = n.broken_is;
    }

-- the end that may not stand
pub end_fault : (d f : Draft) (before mid after : Option (List ℕ)) (bytes : List ℕ) (old now new number : ℕ) (code : SiteCode) (place : ℕ) (broken : Bool) → before ≡ Some bytes → old + 34100 < 2 ^ 64 → f ≡ d → HasRead d before mid old now → ReadsItemLine d.site.version TheEnd mid after now new
    → number ≡ next_number now → IsFirstCode f TheEnd code × (place ≡ number) × (broken ≡ false) → IsLineFault bytes (old + 1) code place broken
end_fault d f before mid after bytes old now new number code place broken is small e h l number_is t =
    let first = subst (λ (k : Draft). IsFirstCode k TheEnd code) e t.0 in
    let fault = line_fault d mid after TheEnd code now new place l first (t.1 ∙ number_is) in
    read_fault d before mid bytes old now code place broken is small h (subst (λ (b : Bool). Faults d mid now code place b) (sym t.2) fault)
