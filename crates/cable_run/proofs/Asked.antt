-- Words, and the commands that they ask for.
use Rattle.std.proofs.Common.{◌≡◌, ℕ, ◌≤◌, ◌<◌, ◌≢◌, List, [], ◌∷◌, get_or, refl, sym, ap, length, ◌∙◌, arith, ⊎_elim, inl, inr}
use Rattle.std.specs.Prelude.{◌^◌, ℤ, pos}
use Rattle.std.specs.Fmt.{decimal}
use Rattle.std.proofs.lemmas.Int.{ints}
use Rattle.std.proofs.lemmas.Fmt.{decimal_injective}
use Rattle.cable_definitions.specs.declared.command.Command.{Command}
use Rattle.cable_definitions.specs.declared.command.Command.TheVariants.{Plan, Check, Site, Migrate, Judge, Report, Rings, Carry, Drill}
use Rattle.cable_definitions.specs.Command.{Spells}
use Rattle.cable_text.specs.declared.number.NumberFault.{NumberFault}
use Rattle.cable_text.specs.declared.number.NumberFault.TheVariants.{NotDecimal, Over}
use Rattle.cable_definitions.specs.Numeral.{spelling}
use Rattle.cable_text.specs.Number.{LiesOutside}
use Rattle.cable_text.proofs.Numerals.{numeral-decimal}
use Rattle.cable_text.proofs.Reading.{spelling-same}
use Rattle.std.specs.declared.string.String.{String}
use Rattle.std.specs.String.{string_bytes}
use Rattle.run_definitions.specs.Words.{texts, AsksFor}

-- ---- numbers
-- the word is no number in the range, with the reason that `read_number` gives
abbrev pub IsUnread : List ℕ → ℤ → ℤ → NumberFault → Type 0
IsUnread word least most e =
    (e ≡ NotDecimal → (z : ℤ) → word ≢ spelling z)
    × (e ≡ Over → (z : ℤ) × (word ≡ spelling z) × LiesOutside least most z)

spelled : (n : ℕ) → n < 2 ^ 32 → decimal n ≡ spelling (pos n)
spelled n h = sym (numeral-decimal n (omega (arith, h)))

not_outside : (least most : ℕ) (low high : ℤ) (n : ℕ) → low ≡ pos least → high ≡ pos most → least ≤ n → n ≤ most → LiesOutside low high (pos n) → ⊥
not_outside least most low high n p q h k o = ⊎_elim (λ b. omega (arith, ints, b, h, p)) (λ a. omega (arith, ints, a, k, q)) o

-- no number in the range is spelled by such a word
pub no_number : (word : List ℕ) (least most : ℕ) (low high : ℤ) (e : NumberFault) → low ≡ pos least → high ≡ pos most → most < 2 ^ 32 → IsUnread word low high e
    → (n : ℕ) → least ≤ n → n ≤ most → word ≢ decimal n
no_number word least most low high NotDecimal p q small u n h k w = u.0 refl (pos n) (w ∙ spelled n (omega (arith, k, small)))
no_number word least most low high Over p q small u n h k w =
    let o = u.1 refl in
    let same : pos n ≡ o.0 = spelling-same (pos n) o.0 (sym (w ∙ spelled n (omega (arith, k, small))) ∙ o.1) in
    not_outside least most low high n p q h k (rw same o.2)

-- ---- words
-- the bytes of four words
pub four_texts : {Z : Type 0} → (ws : List (String Z)) (a b c d : String Z) (r s t u : List ℕ) → 4 ≤ length ws → length ws < 5
    → a ≡ get_or ws 0 a → b ≡ get_or ws 1 b → c ≡ get_or ws 2 c → d ≡ get_or ws 3 d → r ≡ string_bytes a → s ≡ string_bytes b → t ≡ string_bytes c → u ≡ string_bytes d
    → texts ws ≡ r ∷ s ∷ t ∷ u ∷ []
four_texts [] a b c d r s t u least most p q v w i j k l = absurd (omega (arith, least))
four_texts (x ∷ []) a b c d r s t u least most p q v w i j k l = absurd (omega (arith, least))
four_texts (x ∷ y ∷ []) a b c d r s t u least most p q v w i j k l = absurd (omega (arith, least))
four_texts (x ∷ y ∷ z ∷ []) a b c d r s t u least most p q v w i j k l = absurd (omega (arith, least))
four_texts (x ∷ y ∷ z ∷ o ∷ []) a b c d r s t u least most p q v w i j k l = cc
four_texts (x ∷ y ∷ z ∷ o ∷ n ∷ ws) a b c d r s t u least most p q v w i j k l = absurd (omega (arith, most))

abbrev first_of : List (List ℕ) → ℕ
first_of [] = 0
first_of ([] ∷ ws) = 0
first_of ((c ∷ cs) ∷ ws) = c

-- the first byte of a command's words
abbrev letter : Command → ℕ
letter (Plan n lanes) = 112
letter Check = 99
letter Site = 115
letter Migrate = 0
letter Judge = 106
letter Report = 114
letter Rings = 0
letter Carry = 0
letter (Drill k turbines n) = 100

first_is : (words : List (List ℕ)) (command : Command) → AsksFor words command → first_of words ≡ letter command
first_is words (Plan n lanes) h = ⊎_elim (λ two. ap first_of two.0) (λ three. ap first_of three) h.2
first_is words Check h = ap first_of h
first_is words Site h = ap first_of h
first_is words Migrate h = absurd h
first_is words Judge h = ap first_of h
first_is words Report h = ap first_of h
first_is words Rings h = absurd h
first_is words Carry h = absurd h
first_is words (Drill k turbines n) h = ap first_of h.4

same_number : (m n : ℕ) → m < 2 ^ 32 → n < 2 ^ 32 → decimal m ≡ decimal n → m ≡ n
same_number m n h k e = decimal_injective m n (omega (arith, h)) (omega (arith, k)) e

two_same : (a b c d : List ℕ) → a ∷ b ∷ [] ≡ c ∷ d ∷ [] → b ≡ d
two_same a b c d e = cc

three_same : (a b c d e f : List ℕ) → a ∷ b ∷ c ∷ [] ≡ d ∷ e ∷ f ∷ [] → (b ≡ e) × (c ≡ f)
three_same a b c d e f h = (cc, cc)

four_same : (a b c d e f g h : List ℕ) → a ∷ b ∷ c ∷ d ∷ [] ≡ e ∷ f ∷ g ∷ h ∷ [] → (b ≡ f) × (c ≡ g) × (d ≡ h)
four_same a b c d e f g h i = (cc, cc, cc)

same_plan : (words : List (List ℕ)) (n lanes m others : ℕ) → Spells words (Plan n lanes) → Spells words (Plan m others) → Plan n lanes ≡ Plan m others
same_plan words n lanes m others (budget, few, inl two) (budget2, few2, inl two2) =
    let numbers = same_number n m (omega (arith, budget.1)) (omega (arith, budget2.1)) (two_same _ _ _ _ (sym two.0 ∙ two2.0)) in
    let l = two.1 in
    let l2 = two2.1 in
    cc
same_plan words n lanes m others (budget, few, inl two) (budget2, few2, inr three2) = absurd (omega (arith, ap length (sym two.0 ∙ three2)))
same_plan words n lanes m others (budget, few, inr three) (budget2, few2, inl two2) = absurd (omega (arith, ap length (sym three ∙ two2.0)))
same_plan words n lanes m others (budget, few, inr three) (budget2, few2, inr three2) =
    let same = three_same _ _ _ _ _ _ (sym three ∙ three2) in
    let numbers = same_number n m (omega (arith, budget.1)) (omega (arith, budget2.1)) same.0 in
    let counts = same_number lanes others (omega (arith, few.1)) (omega (arith, few2.1)) same.1 in
    cc

same_drill : (words : List (List ℕ)) (k turbines n j others m : ℕ) → Spells words (Drill k turbines n) → Spells words (Drill j others m) → Drill k turbines n ≡ Drill j others m
same_drill words k turbines n j others m h i =
    let same = four_same _ _ _ _ _ _ _ _ (sym h.4 ∙ i.4) in
    let first = same_number k j (omega (arith, h.0)) (omega (arith, i.0)) same.0 in
    let second = same_number turbines others (omega (arith, h.2)) (omega (arith, i.2)) same.1 in
    let third = same_number n m (omega (arith, h.3.1)) (omega (arith, i.3.1)) same.2 in
    cc

-- words ask for at most one command
pub one_command : (words : List (List ℕ)) (command other : Command) → AsksFor words command → AsksFor words other → command ≡ other
one_command words (Plan n lanes) (Plan m others) h i = same_plan words n lanes m others h i
one_command words (Plan n lanes) Check h i = absurd (omega (arith, first_is words (Plan n lanes) h, first_is words Check i))
one_command words (Plan n lanes) Site h i = absurd (omega (arith, first_is words (Plan n lanes) h, first_is words Site i))
one_command words (Plan n lanes) Migrate h i = absurd i
one_command words (Plan n lanes) Judge h i = absurd (omega (arith, first_is words (Plan n lanes) h, first_is words Judge i))
one_command words (Plan n lanes) Report h i = absurd (omega (arith, first_is words (Plan n lanes) h, first_is words Report i))
one_command words (Plan n lanes) Rings h i = absurd i
one_command words (Plan n lanes) Carry h i = absurd i
one_command words (Plan n lanes) (Drill j others m) h i = absurd (omega (arith, first_is words (Plan n lanes) h, first_is words (Drill j others m) i))
one_command words Check (Plan m others) h i = absurd (omega (arith, first_is words Check h, first_is words (Plan m others) i))
one_command words Check Check h i = refl
one_command words Check Site h i = absurd (omega (arith, first_is words Check h, first_is words Site i))
one_command words Check Migrate h i = absurd i
one_command words Check Judge h i = absurd (omega (arith, first_is words Check h, first_is words Judge i))
one_command words Check Report h i = absurd (omega (arith, first_is words Check h, first_is words Report i))
one_command words Check Rings h i = absurd i
one_command words Check Carry h i = absurd i
one_command words Check (Drill j others m) h i = absurd (omega (arith, first_is words Check h, first_is words (Drill j others m) i))
one_command words Site (Plan m others) h i = absurd (omega (arith, first_is words Site h, first_is words (Plan m others) i))
one_command words Site Check h i = absurd (omega (arith, first_is words Site h, first_is words Check i))
one_command words Site Site h i = refl
one_command words Site Migrate h i = absurd i
one_command words Site Judge h i = absurd (omega (arith, first_is words Site h, first_is words Judge i))
one_command words Site Report h i = absurd (omega (arith, first_is words Site h, first_is words Report i))
one_command words Site Rings h i = absurd i
one_command words Site Carry h i = absurd i
one_command words Site (Drill j others m) h i = absurd (omega (arith, first_is words Site h, first_is words (Drill j others m) i))
one_command words Migrate other h i = absurd h
one_command words Judge (Plan m others) h i = absurd (omega (arith, first_is words Judge h, first_is words (Plan m others) i))
one_command words Judge Check h i = absurd (omega (arith, first_is words Judge h, first_is words Check i))
one_command words Judge Site h i = absurd (omega (arith, first_is words Judge h, first_is words Site i))
one_command words Judge Migrate h i = absurd i
one_command words Judge Judge h i = refl
one_command words Judge Report h i = absurd (omega (arith, first_is words Judge h, first_is words Report i))
one_command words Judge Rings h i = absurd i
one_command words Judge Carry h i = absurd i
one_command words Judge (Drill j others m) h i = absurd (omega (arith, first_is words Judge h, first_is words (Drill j others m) i))
one_command words Report (Plan m others) h i = absurd (omega (arith, first_is words Report h, first_is words (Plan m others) i))
one_command words Report Check h i = absurd (omega (arith, first_is words Report h, first_is words Check i))
one_command words Report Site h i = absurd (omega (arith, first_is words Report h, first_is words Site i))
one_command words Report Migrate h i = absurd i
one_command words Report Judge h i = absurd (omega (arith, first_is words Report h, first_is words Judge i))
one_command words Report Report h i = refl
one_command words Report Rings h i = absurd i
one_command words Report Carry h i = absurd i
one_command words Report (Drill j others m) h i = absurd (omega (arith, first_is words Report h, first_is words (Drill j others m) i))
one_command words Rings other h i = absurd h
one_command words Carry other h i = absurd h
one_command words (Drill k turbines n) (Plan m others) h i = absurd (omega (arith, first_is words (Drill k turbines n) h, first_is words (Plan m others) i))
one_command words (Drill k turbines n) Check h i = absurd (omega (arith, first_is words (Drill k turbines n) h, first_is words Check i))
one_command words (Drill k turbines n) Site h i = absurd (omega (arith, first_is words (Drill k turbines n) h, first_is words Site i))
one_command words (Drill k turbines n) Migrate h i = absurd i
one_command words (Drill k turbines n) Judge h i = absurd (omega (arith, first_is words (Drill k turbines n) h, first_is words Judge i))
one_command words (Drill k turbines n) Report h i = absurd (omega (arith, first_is words (Drill k turbines n) h, first_is words Report i))
one_command words (Drill k turbines n) Rings h i = absurd i
one_command words (Drill k turbines n) Carry h i = absurd i
one_command words (Drill k turbines n) (Drill j others m) h i = same_drill words k turbines n j others m h i
