-- What a reader of items holds, and what it does.
use Rattle.std.specs.Prelude.{◌≡◌, ℕ, suc, ◌+◌, ◌≤◌, ℤ, pos, neg_ℤ, ◌≤ℤ◌, List, [], ◌∷◌, ◌++◌, length, map, codes, Option, Some, None, Result, Ok, Err}
use Rattle.std.specs.List.{concat}
use Rattle.std.specs.Fmt.{decimal}
use Rattle.cable_definitions.specs.declared.row.RowKind.{RowKind}
use Rattle.cable_definitions.specs.declared.row.Act.{Act}
use Rattle.cable_definitions.specs.Site.{Site}
use Rattle.cable_definitions.specs.Tree.{RowItem, WorkItem}
use Rattle.cable_definitions.specs.Text.{line, item_lines, weight_line, act_line}
use Rattle.cable_definitions.specs.Refusal.{DocLine, RowLine, WorkLine, WeightLine, ActLine, LayoutLine, RawAct, act_from, Reader, AtItem, AtWeights, AtCables}
use Rattle.node_works.specs.declared.work.Work.{Work}
use Rattle.cable_definitions.specs.Stream.{GivesFront}
use Rattle.proof_text.specs.declared.fault.ItemFault.{ItemFault}
use Rattle.proof_text.specs.declared.items.Next.{Next}
use Rattle.proof_text.specs.declared.items.Next.TheVariants.{Row, Work as WorkNext, Layout}
use Rattle.line_words.specs.declared.judging.ItemLine.{ItemLine}
use Rattle.line_words.specs.declared.judging.ItemLine.TheVariants.{Row as RowItemLine, Work as WorkItemLine, Layout as LayoutItemLine}
use Rattle.proof_text.specs.Reading.{line_number_after, ReadsTo, ReadsDocLine}

-- the last row, the last work, and the fault that is kept
pub record ItemsState : Type 0 where
  pub kind : RowKind
  pub members : List ℕ
  pub work : Work
  pub fault : Option ItemFault

-- the line of each weight
abbrev pub weight_lines : List (ℕ × ℤ) → List DocLine
weight_lines weights = map (λ (r, w). WeightLine (pos r) w) weights

-- the line of a row is read, with 1 to 256 members
pub record ReadsRow (before after : Option (List ℕ)) (kind : RowKind) (members : List ℕ) : Type 0 where
  pub reads : (s : Site) (r : Reader) → r.phase ≡ AtItem → ReadsDocLine s r before after (RowLine kind (map pos members))
  pub text : GivesFront before after (item_lines (RowItem (record { kind = kind; members = members })))
  pub some : 1 ≤ length members
  pub most : length members ≤ 256

-- the lines of a work are read; `middle` is to come behind its weights
pub record ReadsWork (before after : Option (List ℕ)) (node : ℕ) (weights : List (ℕ × ℤ)) (act : Act) : Type 0 where
  pub middle : Option (List ℕ)
  pub reads : (s : Site) (r : Reader) → r.phase ≡ AtItem → ReadsTo s r before middle (WorkLine (pos node) (pos (length weights)) ∷ weight_lines weights) (record r { phase = AtWeights node 0 weights })
  pub raw : RawAct
  pub act_is : act_from raw ≡ act
  pub reads_act : (s : Site) (r : Reader) → r.phase ≡ AtWeights node 0 weights → ReadsDocLine s r middle after (ActLine raw)
  pub text : GivesFront before after (item_lines (WorkItem node weights act))
  pub first : 1 ≤ node
  pub few : length weights ≤ 1024

-- the line with the number of cables is read
pub record ReadsLayoutLine (before after : Option (List ℕ)) (count : ℕ) : Type 0 where
  pub reads : (s : Site) (r : Reader) → r.phase ≡ AtItem → ReadsTo s r before after (LayoutLine (pos count) ∷ []) (record r { phase = AtCables count })
  pub text : GivesFront before after (line (codes "layout" ∷ decimal count ∷ []))
  pub most : count ≤ 256

-- what a call for the next item reads, how many lines, and what is held then
abbrev pub ReadsNext : Option (List ℕ) → Option (List ℕ) → ℕ → ℕ → ItemsState → Result Next ItemFault → Type 0
ReadsNext before after old new held (Ok Row) = ReadsRow before after held.kind held.members × (new ≡ line_number_after old 1)
ReadsNext before after old new held (Ok WorkNext) = ReadsWork before after held.work.node held.work.weights held.work.act × (new ≡ line_number_after old (2 + length held.work.weights))
ReadsNext before after old new held (Ok (Layout count)) = ReadsLayoutLine before after count × (new ≡ line_number_after old 1)
ReadsNext before after old new held (Err fault) = Unit {0}

-- the fault that is kept after such an answer
abbrev pub kept_after : {A : Type 0} → Result A ItemFault → Option ItemFault
kept_after (Ok a) = None
kept_after (Err fault) = Some fault

-- the first line of an item is read, a row with these members, or the layout's line
abbrev pub ReadsItemLine : Option (List ℕ) → Option (List ℕ) → ItemLine → List ℕ → Type 0
ReadsItemLine before after (RowItemLine kind) members = ReadsRow before after kind members
ReadsItemLine before after (WorkItemLine node count) members =
    (1 ≤ node) × (count ≤ 1024) × GivesFront before after (line (codes "work" ∷ decimal node ∷ decimal count ∷ []))
    × ((s : Site) (r : Reader) → r.phase ≡ AtItem → ReadsTo s r before after (WorkLine (pos node) (pos count) ∷ []) (record r { phase = AtWeights node count [] }))
ReadsItemLine before after (LayoutItemLine count) members = ReadsLayoutLine before after count

-- the line of a weight is read, where one is to come; the weight is from -2 ^ 76 to 2 ^ 76
pub record ReadsWeight (before after : Option (List ℕ)) (weight : ℕ × ℤ) : Type 0 where
  pub reads : (s : Site) (r : Reader) (v k : ℕ) (weights : List (ℕ × ℤ)) → r.phase ≡ AtWeights v (suc k) weights → ReadsTo s r before after (WeightLine (pos weight.0) weight.1 ∷ []) (record r { phase = AtWeights v k (weights ++ weight ∷ []) })
  pub text : GivesFront before after (weight_line weight)
  pub small : (neg_ℤ (pos 75557863725914323419136) ≤ℤ weight.1) × (weight.1 ≤ℤ pos 75557863725914323419136)

-- the lines of these weights are read, the first of a work, and so many are to come
pub record ReadsWeights (before after : Option (List ℕ)) (weights : List (ℕ × ℤ)) : Type 0 where
  pub reads : (s : Site) (r : Reader) (v left : ℕ) → r.phase ≡ AtWeights v (length weights + left) [] → ReadsTo s r before after (weight_lines weights) (record r { phase = AtWeights v left weights })
  pub text : GivesFront before after (concat (map weight_line weights))

-- the line of an act is read, whatever the weights are
pub record ReadsAct (before after : Option (List ℕ)) (act : Act) : Type 0 where
  pub raw : RawAct
  pub act_is : act_from raw ≡ act
  pub reads : (s : Site) (r : Reader) (v : ℕ) (weights : List (ℕ × ℤ)) → r.phase ≡ AtWeights v 0 weights → ReadsDocLine s r before after (ActLine raw)
  pub text : GivesFront before after (act_line act)

-- the lines of a work behind its first are read
pub record ReadsRest (before after : Option (List ℕ)) (weights : List (ℕ × ℤ)) (act : Act) : Type 0 where
  pub middle : Option (List ℕ)
  pub reads_weights : ReadsWeights before middle weights
  pub reads_act : ReadsAct middle after act
