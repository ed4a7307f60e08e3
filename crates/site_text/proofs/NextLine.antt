-- The line that stands next: a whole one, or the fault of one that is missing, too long or without its end.
use Rattle.std.proofs.Common.{◌≡◌, ℕ, ◌≤◌, inl, inr, List, [], ◌∷◌, ◌++◌, length, Bool, true, false, refl, sym, ap, ◌∙◌, subst, append_assoc, Option, IfNone, Some, None, Result, Ok, Err}
use Rattle.cable_definitions.specs.declared.site.Version.{Version}
use Rattle.cable_definitions.specs.declared.site.SiteCode.{SiteCode}
use Rattle.cable_definitions.specs.declared.site.SiteCode.TheVariants.{TooLong, Form}
use Rattle.cable_definitions.specs.Text.{Whole, LongLine, CutLine, NoLine, HasNoNewline}
use Rattle.cable_definitions.specs.Items.{RawItem, Unended, Missing, Overlong, Draft, IsFirstCode, HasWords, IsItemOf, is_broken_line}
use Rattle.cable_definitions.specs.Stream.{StreamState, FaultsRose, GivesFront}
use Rattle.cable_text.specs.Lines.{LinesState, ahead, StandsNext, ReadsPiece, ReadsLine, next_number}
use Rattle.cable_text.specs.declared.fault.Line.{Line}
use Rattle.cable_text.specs.declared.fault.Line.TheVariants.{End}
use Rattle.cable_text.specs.declared.fault.LineFault.{LineFault}
use Rattle.cable_text.specs.declared.fault.LineFault.TheVariants.{TooLong as LongFault, NoNewline}
use Rattle.site_model.specs.declared.fault.BuildFault.{BuildFault}
use Rattle.site_model.specs.declared.fault.BuildFault.TheVariants.{Refused as RefusedCall, Memory as NoMemory}
use Rattle.site_model.specs.declared.fault.SiteFault.{SiteFault}
use Rattle.site_model.specs.declared.fault.SiteFault.TheVariants.{Refused}
use Rattle.site_model.proofs.Codes.{KeepsBelow-none, IsFirstCode-at, not_broken}
use Rattle.site_text.specs.Adding.{TextBreaks}
use Rattle.site_text.specs.Reading.{fault_of_line, ReadsText, ReadsItemLine, FaultsNext, Faults}
use Rattle.site_text.proofs.Changed.{form_first}

-- what holds where nothing is kept
pub none_kept : {X : Type 0} (kept : Option X) {P : Type 0} → kept ≡ None → IfNone kept P → P
none_kept None e h = h
none_kept (Some x) e h = absurd (cc)

-- what holds of a fault holds of its parts
pub fault_parts : {A : Type 0} (P : SiteCode → ℕ → Bool → Type 0) (f : SiteFault) (c code : SiteCode) (n place : ℕ) (b broken : Bool) → f ≡ Refused c n b → ◌≡◌ {A = Result A SiteFault} (Err f) (Err (Refused code place broken)) → P c n b → P code place broken
fault_parts P f c code n place b broken is e h =
    let same : Refused c n b ≡ Refused code place broken = cc in
    let x : c ≡ code = cc in
    let y : n ≡ place = cc in
    let z : b ≡ broken = cc in
    subst (λ (v : Bool). P code place v) z (subst (λ (v : ℕ). P code v b) y (subst (λ (v : SiteCode). P v n b) x h))

-- a line that is too long
long_first : (d : Draft) → IsFirstCode d Overlong TooLong
long_first d = IsFirstCode-at d Overlong TooLong (KeepsBelow-none d Overlong) refl

-- the faults of lines that are not whole, of bytes that are told
finds_missing : (d : Draft) (before after : Option (List ℕ)) → StandsNext before NoLine after → FaultsNext d before Form true
finds_missing d None after f = tt
finds_missing d (Some bytes) after f = record { bad = Missing; rest = f.0; bad_at = record { piece = NoLine; next = f.1; item_is = refl }; first = form_first d Missing (λ e. cc) (λ t. cc); broken_is = refl }

finds_cut : (d : Draft) (before after : Option (List ℕ)) → StandsNext before CutLine after → FaultsNext d before Form true
finds_cut d None after f = tt
finds_cut d (Some bytes) after f = record { bad = Unended; rest = f.0; bad_at = record { piece = CutLine; next = f.1; item_is = refl }; first = form_first d Unended (λ e. cc) (λ t. cc); broken_is = refl }

finds_long : (d : Draft) (before after : Option (List ℕ)) → StandsNext before LongLine after → FaultsNext d before TooLong true
finds_long d None after f = tt
finds_long d (Some bytes) after f = record { bad = Overlong; rest = f.0; bad_at = record { piece = LongLine; next = f.1; item_is = refl }; first = long_first d; broken_is = refl }

module _ (d : Draft) (old new : LinesState) (left_old left_new : StreamState) (number : ℕ) (number_is : number ≡ new.number) where
  pub missing_line : (r : Result Line LineFault) → r ≡ Ok End → ReadsLine old new left_old left_new r → Faults d (ahead old left_old) old.lines Form number true
  missing_line r e h =
      let P : Result Line LineFault → Type 0 = λ q. ReadsPiece (ahead old left_old) (ahead new left_new) new.text (FaultsRose left_old left_new) q in
      record { next = finds_missing d (ahead old left_old) (ahead new left_new) (subst P e h.piece); place_is = number_is ∙ h.number }

  pub cut_line : (r : Result Line LineFault) → r ≡ Err NoNewline → ReadsLine old new left_old left_new r → Faults d (ahead old left_old) old.lines Form number true
  cut_line r e h =
      let P : Result Line LineFault → Type 0 = λ q. ReadsPiece (ahead old left_old) (ahead new left_new) new.text (FaultsRose left_old left_new) q in
      record { next = finds_cut d (ahead old left_old) (ahead new left_new) (subst P e h.piece); place_is = number_is ∙ h.number }

  pub long_line : (r : Result Line LineFault) → r ≡ Err LongFault → ReadsLine old new left_old left_new r → Faults d (ahead old left_old) old.lines TooLong number true
  long_line r e h =
      let P : Result Line LineFault → Type 0 = λ q. ReadsPiece (ahead old left_old) (ahead new left_new) new.text (FaultsRose left_old left_new) q in
      record { next = finds_long d (ahead old left_old) (ahead new left_new) (subst P e h.piece); place_is = number_is ∙ h.number }

-- ---- a whole line
-- the bytes give its text and a newline
pub gives_text : (before after : Option (List ℕ)) (text : List ℕ) → StandsNext before (Whole text) after → GivesFront before after (text ++ 10 ∷ [])
gives_text None after text f = f
gives_text (Some bytes) after text f = (f.0, f.1.0 ∙ sym (append_assoc text (10 ∷ []) f.0), f.2)

-- an item that is said is no broken line
said_whole : (version : Version) (ws : List (List ℕ)) (item : RawItem) → HasWords version ws item → is_broken_line item ≡ false
said_whole v ws item h = let Said : RawItem → Type 0 = λ i. HasWords v ws i in not_broken item (λ e. subst Said e h) (λ e. subst Said e h) (λ e. subst Said e h)

item_whole : (version : Version) (text : List ℕ) (item : RawItem) → IsItemOf version (Whole text) item → is_broken_line item ≡ false
item_whole v text item h = elim h [ inl l ↦ said_whole v l.ws item l.says | inr s ↦ ap is_broken_line s.0 ]

-- the fault of a whole line, in bytes that give it
gives_fault : (d : Draft) (before after : Option (List ℕ)) (text : List ℕ) (item : RawItem) (code : SiteCode) → HasNoNewline text → length text ≤ 4096 → GivesFront before after (text ++ 10 ∷ []) → IsItemOf d.site.version (Whole text) item → IsFirstCode d item code → FaultsNext d before code false
gives_fault d None after text item code plain short g of first = tt
gives_fault d (Some bytes) after text item code plain short g of first = record {
  bad = item;
  rest = g.0;
  bad_at = record { piece = Whole text; next = (g.1 ∙ append_assoc text (10 ∷ []) g.0, plain, short); item_is = of };
  first = first;
  broken_is = sym (item_whole d.site.version text item of);
}

-- a line that says an item which breaks a rule
pub line_fault : (d : Draft) (before after : Option (List ℕ)) (item : RawItem) (code : SiteCode) (old new place : ℕ) → ReadsItemLine d.site.version item before after old new → IsFirstCode d item code → place ≡ next_number old → Faults d before old code place false
line_fault d before after item code old new place l first is = record { next = gives_fault d before after l.text item code l.plain l.short l.gives l.item_of first; place_is = is }

-- the line of a text that says this item
pub text_line : (version : Version) (item : RawItem) (before after : Option (List ℕ)) (old new : LinesState) (lines_old : ℕ) → lines_old ≡ old.lines → ReadsText before after old new → IsItemOf version (Whole new.text) item → ReadsItemLine version item before after lines_old new.lines
text_line version item before after old new lines_old same t of = record { text = new.text; plain = t.plain; short = t.short; gives = gives_text before after new.text t.finds; item_of = of; lines = t.lines ∙ ap next_number (sym same) }

-- a text that breaks a rule
pub text_fault : (d : Draft) (before after : Option (List ℕ)) (old new : LinesState) (text : List ℕ) (code : SiteCode) (place : ℕ) → ReadsText before after old new → text ≡ new.text → TextBreaks d text code → place ≡ new.number → Faults d before old.lines code place false
text_fault d before after old new text code place h e b p =
    let t = subst (λ (x : List ℕ). TextBreaks d x code) e b in
    line_fault d before after t.item code old.lines new.lines place (text_line d.site.version t.item before after old new old.lines refl h t.item_of) t.first (p ∙ h.number)

-- what holds of a refusal by the builder holds of the fault that is made of it
pub build_fault : {A : Type 0} (P : SiteCode → ℕ → Bool → Type 0) (fault : BuildFault) (n : ℕ) (f : SiteFault) → f ≡ fault_of_line fault n → ((c : SiteCode) → fault ≡ RefusedCall c → P c n false)
    → (code : SiteCode) (place : ℕ) (broken : Bool) → ◌≡◌ {A = Result A SiteFault} (Err f) (Err (Refused code place broken)) → P code place broken
build_fault P (RefusedCall c) n f is h code place broken e = fault_parts P f c code n place false broken is e (h c refl)
build_fault P NoMemory n f is h code place broken e = absurd (let same : fault_of_line NoMemory n ≡ Refused code place broken = cc in cc)
