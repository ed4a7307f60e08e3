-- Lines that may stand in a place, and their numbers.
use Rattle.std.proofs.Common.{◌≡◌, ◌≢◌, ℕ, suc, ℤ, pos, List, [], ◌∷◌, codes, Option, None, IfNone, Some, ap, ◌∙◌, subst, All}
use Rattle.std.proofs.lemmas.List.Elements.{All-head, All-tail}
use Rattle.cable_definitions.specs.declared.row.RowKind.{RowKind}
use Rattle.cable_definitions.specs.declared.claim.Cause.TheVariants.{Form}
use Rattle.cable_definitions.specs.Numeral.{spelling as spelled}
use Rattle.cable_definitions.specs.Items.{Field, IsWithin, within}
use Rattle.cable_definitions.specs.Refusal.{RawAct, ADeadPair, act_spelling, act_fields, RawClaim, claim_spelling, BudgetLine, RowLine, WorkLine, WeightLine, ActLine, LayoutLine, CableLine, ClaimLine, EndLine, AtBudget, AtItem, AtWeights, AtCables, AtLast, AtJudged}
use Rattle.line_words.specs.declared.number.Number.{Number}
use Rattle.line_words.specs.Numbers.{Is}
use Rattle.line_words.specs.Judged.{IsStanding, IsBad}

-- ---- no line that may stand there
pub no_budget : (ws : List (List ℕ)) → ((z : ℤ) → ws ≢ codes "budget" ∷ spelled z ∷ []) → IsBad AtBudget ws Form
no_budget ws none (BudgetLine n) h = none n h.words_are
no_budget ws none (RowLine kind members) h = let a = h.allowed in cc
no_budget ws none (WorkLine v k) h = let a = h.allowed in cc
no_budget ws none (WeightLine r w) h = let a = h.allowed in cc
no_budget ws none (ActLine act) h = let a = h.allowed in cc
no_budget ws none (LayoutLine k) h = let a = h.allowed in cc
no_budget ws none (CableLine a b t) h = let d = h.allowed in cc
no_budget ws none (ClaimLine claim) h = let a = h.allowed in cc
no_budget ws none EndLine h = let a = h.allowed in cc

pub no_count : (ws : List (List ℕ)) → ((z : ℤ) → ws ≢ codes "layout" ∷ spelled z ∷ []) → IsBad AtJudged ws Form
no_count ws none (BudgetLine n) h = let a = h.allowed in cc
no_count ws none (RowLine kind members) h = let a = h.allowed in cc
no_count ws none (WorkLine v k) h = let a = h.allowed in cc
no_count ws none (WeightLine r w) h = let a = h.allowed in cc
no_count ws none (ActLine act) h = let a = h.allowed in cc
no_count ws none (LayoutLine k) h = none k h.words_are
no_count ws none (CableLine a b t) h = let d = h.allowed in cc
no_count ws none (ClaimLine claim) h = let a = h.allowed in cc
no_count ws none EndLine h = let a = h.allowed in cc

pub no_act_line : (ws : List (List ℕ)) (v : ℕ) (weights : List (ℕ × ℤ)) → ((raw : RawAct) → ws ≢ act_spelling raw) → IsBad (AtWeights v 0 weights) ws Form
no_act_line ws v weights none (BudgetLine n) h = let a = h.allowed in cc
no_act_line ws v weights none (RowLine kind members) h = let a = h.allowed in cc
no_act_line ws v weights none (WorkLine u k) h = let a = h.allowed in cc
no_act_line ws v weights none (WeightLine r w) h = let a = h.allowed in cc
no_act_line ws v weights none (ActLine act) h = none act h.words_are
no_act_line ws v weights none (LayoutLine k) h = let a = h.allowed in cc
no_act_line ws v weights none (CableLine a b t) h = let d = h.allowed in cc
no_act_line ws v weights none (ClaimLine claim) h = let a = h.allowed in cc
no_act_line ws v weights none EndLine h = let a = h.allowed in cc

pub no_weight_line : (ws : List (List ℕ)) (v k : ℕ) (weights : List (ℕ × ℤ)) → ((y z : ℤ) → ws ≢ codes "by" ∷ spelled y ∷ spelled z ∷ []) → IsBad (AtWeights v (suc k) weights) ws Form
no_weight_line ws v k weights none (BudgetLine n) h = let a = h.allowed in cc
no_weight_line ws v k weights none (RowLine kind members) h = let a = h.allowed in cc
no_weight_line ws v k weights none (WorkLine u j) h = let a = h.allowed in cc
no_weight_line ws v k weights none (WeightLine r w) h = none r w h.words_are
no_weight_line ws v k weights none (ActLine act) h = let a = h.allowed in cc
no_weight_line ws v k weights none (LayoutLine j) h = let a = h.allowed in cc
no_weight_line ws v k weights none (CableLine a b t) h = let d = h.allowed in cc
no_weight_line ws v k weights none (ClaimLine claim) h = let a = h.allowed in cc
no_weight_line ws v k weights none EndLine h = let a = h.allowed in cc

pub no_claim_line : (ws : List (List ℕ)) → ((raw : RawClaim) → ws ≢ claim_spelling raw) → IsBad (AtCables 0) ws Form
no_claim_line ws none (BudgetLine n) h = let a = h.allowed in cc
no_claim_line ws none (RowLine kind members) h = let a = h.allowed in cc
no_claim_line ws none (WorkLine v k) h = let a = h.allowed in cc
no_claim_line ws none (WeightLine r w) h = let a = h.allowed in cc
no_claim_line ws none (ActLine act) h = let a = h.allowed in cc
no_claim_line ws none (LayoutLine k) h = let a = h.allowed in cc
no_claim_line ws none (CableLine a b t) h = let d = h.allowed in cc
no_claim_line ws none (ClaimLine claim) h = none claim h.words_are
no_claim_line ws none EndLine h = let a = h.allowed in cc

pub no_end : (ws : List (List ℕ)) → ws ≢ codes "end" ∷ codes "document" ∷ [] → IsBad AtLast ws Form
no_end ws none (BudgetLine n) h = let a = h.allowed in cc
no_end ws none (RowLine kind members) h = let a = h.allowed in cc
no_end ws none (WorkLine v k) h = let a = h.allowed in cc
no_end ws none (WeightLine r w) h = let a = h.allowed in cc
no_end ws none (ActLine act) h = let a = h.allowed in cc
no_end ws none (LayoutLine k) h = let a = h.allowed in cc
no_end ws none (CableLine a b t) h = let d = h.allowed in cc
no_end ws none (ClaimLine claim) h = let a = h.allowed in cc
no_end ws none EndLine h = none h.words_are

pub no_item : (ws : List (List ℕ)) → ((kind : RowKind) (zs : List ℤ) → ¬ (IsStanding AtItem ws (RowLine kind zs))) → ((y z : ℤ) → ws ≢ codes "work" ∷ spelled y ∷ spelled z ∷ []) → ((z : ℤ) → ws ≢ codes "layout" ∷ spelled z ∷ []) → IsBad AtItem ws Form
no_item ws row work layout (BudgetLine n) h = let a = h.allowed in cc
no_item ws row work layout (RowLine kind members) h = row kind members h
no_item ws row work layout (WorkLine v k) h = work v k h.words_are
no_item ws row work layout (WeightLine r w) h = let a = h.allowed in cc
no_item ws row work layout (ActLine act) h = let a = h.allowed in cc
no_item ws row work layout (LayoutLine k) h = layout k h.words_are
no_item ws row work layout (CableLine a b t) h = let d = h.allowed in cc
no_item ws row work layout (ClaimLine claim) h = let a = h.allowed in cc
no_item ws row work layout EndLine h = let a = h.allowed in cc

-- ---- numbers beyond their ranges
pub bad_one : (f : Field) (fs : List Field) → ¬ (IsWithin f) → ¬ (All IsWithin (f ∷ fs))
bad_one f fs none all = none (All-head IsWithin f fs all)

pub bad_second : (f g : Field) (fs : List Field) → ¬ (IsWithin g) → ¬ (All IsWithin (f ∷ g ∷ fs))
bad_second f g fs none all = bad_one g fs none (All-tail IsWithin f (g ∷ fs) all)

-- an act whose one number is beyond its range
pub bad_act : (make : ℤ → RawAct) (n : Number) (most : ℕ) → ((z : ℤ) → act_fields (make z) ≡ within (Some z) (pos 0) (pos most) ∷ []) → ((z : ℤ) → Is n z → ¬ (IsWithin (within (Some z) (pos 0) (pos most)))) → (raw : RawAct) → (z : ℤ) × (raw ≡ make z) × Is n z → ¬ (All IsWithin (act_fields raw))
bad_act make n most fields none raw h all =
    let P : List Field → Type 0 = All IsWithin in
    bad_one (within (Some h.0) (pos 0) (pos most)) [] (none h.0 h.2) (subst P (ap act_fields h.1 ∙ fields h.0) all)

-- what follows where there is no value
pub if_none : {A : Type 0} (r : Option A) {P : Type 0} → P → IfNone r P
if_none None p = p
if_none (Some a) p = tt

-- what is told of no value
pub value_none : {A : Type 0} (r : Option A) {P : Type 0} → r ≡ None → IfNone r P → P
value_none None e p = p
value_none (Some a) e p = absurd (cc)

-- a pair whose first or second number is beyond its range
pub bad_pair_first : (m n : Number) → ((z : ℤ) → Is m z → ¬ (IsWithin (within (Some z) (pos 0) (pos 65279)))) → (raw : RawAct) → (y z : ℤ) × (raw ≡ ADeadPair y z) × Is m y × Is n z → ¬ (All IsWithin (act_fields raw))
bad_pair_first m n none raw h all =
    let P : List Field → Type 0 = All IsWithin in
    bad_one (within (Some h.0) (pos 0) (pos 65279)) (within (Some h.1) (pos 0) (pos 65279) ∷ []) (none h.0 h.3) (subst P (ap act_fields h.2) all)

pub bad_pair_second : (m n : Number) → ((z : ℤ) → Is n z → ¬ (IsWithin (within (Some z) (pos 0) (pos 65279)))) → (raw : RawAct) → (y z : ℤ) × (raw ≡ ADeadPair y z) × Is m y × Is n z → ¬ (All IsWithin (act_fields raw))
bad_pair_second m n none raw h all =
    let P : List Field → Type 0 = All IsWithin in
    bad_second (within (Some h.0) (pos 0) (pos 65279)) (within (Some h.1) (pos 0) (pos 65279)) [] (none h.1 h.4) (subst P (ap act_fields h.2) all)
