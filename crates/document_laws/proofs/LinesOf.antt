-- The lines of a document behind its site, and that they tell the document.
use Rattle.std.proofs.Common.{◌≡◌, ℕ, ℤ, pos, List, [], ◌∷◌, ◌++◌, length, map, refl, sym, ap, ◌∙◌}
use Rattle.std.specs.Prelude.{nat_abs}
use Rattle.cable_definitions.specs.declared.cable.Cable.{Cable}
use Rattle.cable_definitions.specs.declared.claim.Claim.{Claim}
use Rattle.cable_definitions.specs.declared.row.RowKind.TheVariants.{Out}
use Rattle.cable_definitions.specs.declared.row.Act.{Act}
use Rattle.cable_definitions.specs.Site.{Site}
use Rattle.cable_definitions.specs.Row.{Row}
use Rattle.cable_definitions.specs.Tree.{Item, RowItem, WorkItem}
use Rattle.cable_definitions.specs.Text.{name_of}
use Rattle.cable_definitions.specs.Refusal.{RawAct, AStop, RawClaim, AnInfeasible, DocLine, BudgetLine, RowLine, WorkLine, WeightLine, ActLine, LayoutLine, CableLine, ClaimLine, EndLine, row_from, act_from}
use Rattle.document_laws.proofs.Spelled.{raw_act, raw_claim, raw_act-read, members-read}

-- ---- the lines
-- the line of a cable
abbrev pub cable_read : Site → Cable → DocLine
cable_read s c = CableLine (name_of s c.from) (name_of s c.to) (pos c.grade)

-- the line of a weight
abbrev pub weight_read : ℕ × ℤ → DocLine
weight_read w = WeightLine (pos w.0) w.1

-- the lines of items, and then these
abbrev pub items_read : List Item → List DocLine → List DocLine
items_read [] later = later
items_read (RowItem row ∷ items) later = RowLine row.kind (map pos row.members) ∷ items_read items later
items_read (WorkItem v weights act ∷ items) later = WorkLine (pos v) (pos (length weights)) ∷ (map weight_read weights ++ ActLine (raw_act act) ∷ items_read items later)

-- the lines of cables and of a claim
abbrev pub layout_behind : Site → List Cable → Claim → List DocLine
layout_behind s cables claim = map (cable_read s) cables ++ ClaimLine (raw_claim s claim) ∷ EndLine ∷ []

-- the lines of a layout and its claim
abbrev pub layout_read : Site → List Cable → Claim → List DocLine
layout_read s cables claim = LayoutLine (pos (length cables)) ∷ layout_behind s cables claim

-- the lines of a document behind its site
abbrev pub document_read : Site → ℕ → List Item → List Cable → Claim → List DocLine
document_read s n items cables claim = BudgetLine (pos n) ∷ items_read items (layout_read s cables claim)

-- ---- what they tell
abbrev first_line : List DocLine → DocLine
first_line [] = EndLine
first_line (l ∷ ls) = l

abbrev pub behind_first : List DocLine → List DocLine
behind_first [] = []
behind_first (l ∷ ls) = ls

abbrev row_told : DocLine → Row
row_told (RowLine kind members) = row_from kind members
row_told l = row_from Out []

abbrev node_told : DocLine → ℕ
node_told (WorkLine v k) = nat_abs v
node_told l = 0

abbrev weight_told : DocLine → ℕ × ℤ
weight_told (WeightLine r w) = (nat_abs r, w)
weight_told l = (0, pos 0)

abbrev act_told : DocLine → RawAct
act_told (ActLine act) = act
act_told l = AStop

abbrev pub claim_told : DocLine → RawClaim
claim_told (ClaimLine claim) = claim
claim_told l = AnInfeasible

row_back : (row : Row) → row_from row.kind (map pos row.members) ≡ row
row_back row = ap (λ (ms : List ℕ). record row { members = ms }) (members-read row.members)

same_rows : (row other : Row) → RowLine row.kind (map pos row.members) ≡ RowLine other.kind (map pos other.members) → row ≡ other
same_rows row other e = sym (row_back row) ∙ ap row_told e ∙ row_back other

same_acts : (act other : Act) → ActLine (raw_act act) ≡ ActLine (raw_act other) → act ≡ other
same_acts act other e = sym (raw_act-read act) ∙ ap act_from (ap act_told e) ∙ raw_act-read other

-- the weights, the act and what follows
record SameRest (ws vs : List (ℕ × ℤ)) (act other : Act) (ls ms : List DocLine) : Type 0 where
  weights : ws ≡ vs
  acts : act ≡ other
  rests : ls ≡ ms

same_weights : (ws vs : List (ℕ × ℤ)) (act other : Act) (ls ms : List DocLine) → map weight_read ws ++ ActLine (raw_act act) ∷ ls ≡ map weight_read vs ++ ActLine (raw_act other) ∷ ms → SameRest ws vs act other ls ms
same_weights [] [] act other ls ms e = record { weights = refl; acts = same_acts act other (ap first_line e); rests = ap behind_first e }
same_weights [] (v ∷ vs) act other ls ms e = absurd (let heads = ap first_line e in cc)
same_weights (w ∷ ws) [] act other ls ms e = absurd (let heads = ap first_line e in cc)
same_weights (w ∷ ws) (v ∷ vs) act other ls ms e =
    let first : w ≡ v = ap weight_told (ap first_line e) in
    let rest = same_weights ws vs act other ls ms (ap behind_first e) in
    record { weights = ap (λ (x : ℕ × ℤ). x ∷ ws) first ∙ ap (λ (xs : List (ℕ × ℤ)). v ∷ xs) rest.weights; acts = rest.acts; rests = rest.rests }

-- items and the lines behind them
pub record SameItems (items others : List Item) (ls ms : List DocLine) : Type 0 where
  pub lists : items ≡ others
  pub rests : ls ≡ ms

pub same_items : (items others : List Item) (a b : ℕ) (ls ms : List DocLine) → items_read items (LayoutLine (pos a) ∷ ls) ≡ items_read others (LayoutLine (pos b) ∷ ms) → SameItems items others (LayoutLine (pos a) ∷ ls) (LayoutLine (pos b) ∷ ms)
same_items [] [] a b ls ms e = record { lists = refl; rests = e }
same_items [] (RowItem row ∷ ys) a b ls ms e = absurd (let heads = ap first_line e in cc)
same_items [] (WorkItem v weights act ∷ ys) a b ls ms e = absurd (let heads = ap first_line e in cc)
same_items (RowItem row ∷ xs) [] a b ls ms e = absurd (let heads = ap first_line e in cc)
same_items (RowItem row ∷ xs) (RowItem other ∷ ys) a b ls ms e =
    let first = same_rows row other (ap first_line e) in
    let rest = same_items xs ys a b ls ms (ap behind_first e) in
    record { lists = ap (λ (x : Row). RowItem x ∷ xs) first ∙ ap (λ (is : List Item). RowItem other ∷ is) rest.lists; rests = rest.rests }
same_items (RowItem row ∷ xs) (WorkItem v weights act ∷ ys) a b ls ms e = absurd (let heads = ap first_line e in cc)
same_items (WorkItem v weights act ∷ xs) [] a b ls ms e = absurd (let heads = ap first_line e in cc)
same_items (WorkItem v weights act ∷ xs) (RowItem row ∷ ys) a b ls ms e = absurd (let heads = ap first_line e in cc)
same_items (WorkItem v ws act ∷ xs) (WorkItem u vs other ∷ ys) a b ls ms e =
    let node : v ≡ u = ap node_told (ap first_line e) in
    let work = same_weights ws vs act other (items_read xs (LayoutLine (pos a) ∷ ls)) (items_read ys (LayoutLine (pos b) ∷ ms)) (ap behind_first e) in
    let rest = same_items xs ys a b ls ms work.rests in
    record {
      lists =
          ap (λ (n : ℕ). WorkItem n ws act ∷ xs) node ∙ ap (λ (xw : List (ℕ × ℤ)). WorkItem u xw act ∷ xs) work.weights ∙ ap (λ (x : Act). WorkItem u vs x ∷ xs) work.acts
          ∙ ap (λ (is : List Item). WorkItem u vs other ∷ is) rest.lists;
      rests = rest.rests;
    }

-- the claim behind one list of cables
pub same_verdicts : (s : Site) (a b : ℕ) (cables : List Cable) (raw other : RawClaim) → LayoutLine (pos a) ∷ (map (cable_read s) cables ++ ClaimLine raw ∷ EndLine ∷ []) ≡ LayoutLine (pos b) ∷ (map (cable_read s) cables ++ ClaimLine other ∷ EndLine ∷ []) → raw ≡ other
same_verdicts s a b cables raw other e = behind cables (ap behind_first e)
  where
    behind : (cs : List Cable) → map (cable_read s) cs ++ ClaimLine raw ∷ EndLine ∷ [] ≡ map (cable_read s) cs ++ ClaimLine other ∷ EndLine ∷ [] → raw ≡ other
    behind [] f = ap claim_told (ap first_line f)
    behind (c ∷ cs) f = behind cs (ap behind_first f)
