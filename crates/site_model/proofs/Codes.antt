-- The first code of an item, one code after another, for callers.
use Rattle.site_model.specs.declared.fault.BuildFault.{BuildFault}
use Rattle.site_model.specs.declared.fault.BuildFault.TheVariants.{Refused}
use Rattle.std.specs.Result.{is_err, OnOk, OnErr}
use Rattle.std.proofs.Common.{◌≡◌, ◌↔◌, Result, Ok, Err, true, false, ℕ, suc, ◌==◌, cond, ◌<◌, ◌≤◌, ⊎_elim, IsTrue, refl, sym, ap, ◌∙◌, subst, arith}
use Rattle.std.specs.Prelude.{All, IsSome}
use Rattle.std.proofs.lemmas.Bool.{cases_lt}
use Rattle.cable_definitions.specs.declared.site.SiteCode.{SiteCode}
use Rattle.cable_definitions.specs.declared.site.SiteCode.TheVariants.{TooLong, Form, Shape, Range, BadName, SameName, SamePlace, UnknownName, SamePair, InObstacle, TooMany}
use Rattle.cable_definitions.specs.Items.{RawItem, AVersion, AMode, AType, APoint, AnObstacle, ACorner, APair, TheEnd, Misshapen, Stray, Unended, Missing, Overlong, Draft, may_stand, is_readable, is_broken_line, fields_of, Breaks, code_number, IsFirstCode, IsGood}

-- the code of a number
code_at : ℕ → SiteCode
code_at n = cond (n == 1) TooLong (cond (n == 2) Form (cond (n == 3) Shape (cond (n == 4) Range (cond (n == 5) BadName (cond (n == 6) SameName (cond (n == 7) SamePlace (cond (n == 8) UnknownName (cond (n == 9) SamePair (cond (n == 10) InObstacle TooMany)))))))))

-- each code is that of its number
code_at-code_number : (c : SiteCode) → code_at (code_number c) ≡ c
unfolding code_at
code_at-code_number TooLong = refl
code_at-code_number Form = refl
code_at-code_number Shape = refl
code_at-code_number Range = refl
code_at-code_number BadName = refl
code_at-code_number SameName = refl
code_at-code_number SamePlace = refl
code_at-code_number UnknownName = refl
code_at-code_number SamePair = refl
code_at-code_number InObstacle = refl
code_at-code_number TooMany = refl

-- codes with one number are one
same_code : (c other : SiteCode) → code_number c ≡ code_number other → c ≡ other
same_code c other e = sym (code_at-code_number c) ∙ ap code_at e ∙ code_at-code_number other

-- the codes are numbered from 1 to 11
code_number-within : (c : SiteCode) → (1 ≤ code_number c) × (code_number c < 12)
code_number-within TooLong = (omega arith, omega arith)
code_number-within Form = (omega arith, omega arith)
code_number-within Shape = (omega arith, omega arith)
code_number-within Range = (omega arith, omega arith)
code_number-within BadName = (omega arith, omega arith)
code_number-within SameName = (omega arith, omega arith)
code_number-within SamePlace = (omega arith, omega arith)
code_number-within UnknownName = (omega arith, omega arith)
code_number-within SamePair = (omega arith, omega arith)
code_number-within InObstacle = (omega arith, omega arith)
code_number-within TooMany = (omega arith, omega arith)

-- the item keeps each rule whose code is below this number
abbrev pub KeepsBelow : Draft → RawItem → ℕ → Type 0
KeepsBelow d item n = (other : SiteCode) → code_number other < n → ¬ (Breaks d item other)

-- past a rule that it keeps too
pub KeepsBelow-past : (d : Draft) (item : RawItem) (c : SiteCode) → KeepsBelow d item (code_number c) → ¬ (Breaks d item c) → KeepsBelow d item (suc (code_number c))
KeepsBelow-past d item c before kept other l broken =
    ⊎_elim (λ (lower : code_number other < code_number c). before other lower broken)
    (λ (not_lower : code_number c ≤ code_number other). kept (subst (Breaks d item) (same_code other c (omega arith)) broken))
    (cases_lt (code_number other) (code_number c))

-- the code of the first rule that is broken
pub IsFirstCode-at : (d : Draft) (item : RawItem) (c : SiteCode) → KeepsBelow d item (code_number c) → Breaks d item c → IsFirstCode d item c
IsFirstCode-at d item c before broken = record { broken = broken; least = before }

-- an item that keeps every rule is good
pub IsGood-kept : (d : Draft) (item : RawItem) → KeepsBelow d item 12 → IsGood d item
IsGood-kept d item kept c = kept c (code_number-within c).1

-- no rule comes before the first
pub KeepsBelow-none : (d : Draft) (item : RawItem) → KeepsBelow d item 1
KeepsBelow-none d item other l broken = let some = (code_number-within other).0 in absurd (omega arith)

-- an item that is no overlong line keeps the first rule
pub KeepsBelow-line : (d : Draft) (item : RawItem) → ¬ (item ≡ Overlong) → KeepsBelow d item 2
KeepsBelow-line d item short = KeepsBelow-past d item TooLong (KeepsBelow-none d item) short

-- an item that may stand and whose numbers are all given keeps the first three rules
pub KeepsBelow-shaped : (d : Draft) (item : RawItem) → ¬ (item ≡ Overlong) → IsTrue (may_stand d item) → IsTrue (is_readable item) → All (λ f. IsSome f.value) (fields_of item) → KeepsBelow d item 4
KeepsBelow-shaped d item short stands readable given =
    let standing = KeepsBelow-past d item Form (KeepsBelow-line d item short) (λ astray. astray stands) in
    KeepsBelow-past d item Shape standing (λ misshapen. misshapen (readable, given))

-- there is one first code
pub IsFirstCode-unique : (d : Draft) (item : RawItem) (c other : SiteCode) → IsFirstCode d item c → IsFirstCode d item other → c ≡ other
IsFirstCode-unique d item c other first second =
    same_code c other (⊎_elim (λ (lower : code_number c < code_number other). absurd (second.least c lower first.broken))
    (λ (not_lower : code_number other ≤ code_number c).
    ⊎_elim (λ (higher : code_number other < code_number c). absurd (first.least other higher second.broken))
    (λ (not_higher : code_number c ≤ code_number other). omega arith)
    (cases_lt (code_number other) (code_number c)))
    (cases_lt (code_number c) (code_number other)))

-- a good item has no first code
pub IsFirstCode-good : (d : Draft) (item : RawItem) (c : SiteCode) → IsGood d item → ¬ (IsFirstCode d item c)
IsFirstCode-good d item c good first = good c first.broken

-- a refusal by the first code says it, and no other
pub refused_exactly : (d : Draft) (item : RawItem) (found : SiteCode) → IsFirstCode d item found → (code : SiteCode) → (◌≡◌ {A = Result (Unit {0}) BuildFault} (Err (Refused found)) (Err (Refused code))) ↔ IsFirstCode d item code
refused_exactly d item found first code = (
  λ e. let same : found ≡ code = cc in subst (IsFirstCode d item) same first,
  λ other. ap (λ (c : SiteCode). Err (Refused c)) (IsFirstCode-unique d item found code first other),
)

-- a good item is not refused
pub not_refused : (d : Draft) (item : RawItem) → IsGood d item → (code : SiteCode) → (◌≡◌ {A = Result (Unit {0}) BuildFault} (Ok tt) (Err (Refused code))) ↔ IsFirstCode d item code
not_refused d item good code = (λ e. absurd (cc), λ first. absurd (IsFirstCode-good d item code good first))

-- an item that is none of the three broken lines is no broken line
pub not_broken : (item : RawItem) → ¬ (item ≡ Unended) → ¬ (item ≡ Missing) → ¬ (item ≡ Overlong) → is_broken_line item ≡ false
not_broken (AVersion v) u m o = refl
not_broken (AMode m) u n o = refl
not_broken (AType c p l) u m o = refl
not_broken (APoint n x y k) u m o = refl
not_broken (AnObstacle k) u m o = refl
not_broken (ACorner x y) u m o = refl
not_broken (APair a b r) u m o = refl
not_broken TheEnd u m o = refl
not_broken Misshapen u m o = refl
not_broken Stray u m o = refl
not_broken Unended u m o = absurd (u refl)
not_broken Missing u m o = absurd (m refl)
not_broken Overlong u m o = absurd (o refl)

-- what a call says of its success, where it didn't fail
pub OnOk-at : {T E : Type 0} {P : Type 0} (r : Result T E) → is_err r ≡ false → OnOk r P → P
OnOk-at (Ok v) e h = h
OnOk-at (Err y) e h = absurd (cc)

-- what a call says of its failure, where it failed
pub OnErr-at : {T E : Type 0} {P : Type 0} (r : Result T E) → is_err r ≡ true → OnErr r P → P
OnErr-at (Ok v) e h = absurd (cc)
OnErr-at (Err y) e h = h
