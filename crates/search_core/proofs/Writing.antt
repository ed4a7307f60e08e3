-- The lines of rows and of steps.
use Rattle.std.proofs.Common.{◌≡◌, ℕ, ◌+◌, ◌-◌, ◌<◌, ◌≤◌, List, [], ◌∷◌, ◌++◌, Result, Ok, Err, IsErr, map, take, drop, length, get_or, slice_get, Some, refl, sym, ◌∙◌, ap, arith}
use Rattle.std.specs.List.{concat}
use Rattle.std.proofs.lemmas.List.{append-nil, map-append, get_or-drop, length-drop, take_all}
use Rattle.std.proofs.lemmas.List.Folds.{concat-append}
use Rattle.std.proofs.lemmas.Option.{slice_get-get_or}
use Rattle.cable_definitions.specs.declared.row.RowKind.{RowKind}
use Rattle.cable_definitions.specs.Row.{Row}
use Rattle.cable_definitions.specs.Tree.{Item}
use Rattle.cable_definitions.specs.Text.{row_line, item_lines}
use Rattle.cable_definitions.specs.Core.{are_row_items}
use Rattle.cable_text.specs.declared.stream.Failed.{Failed}
use Rattle.cable_definitions.specs.Stream.{StreamState, Writes}
use Rattle.cable_text.proofs.Writing.{Writes-then}
use Rattle.cable_text.proofs.Writers.{stopped, wrote_more_of, wrote_part, written_as}
use Rattle.search_core.specs.Works.{last_item}
use Rattle.search_progress.specs.declared.progress.Progress.{Progress}
use Rattle.search_core.specs.declared.machine.Step.{Step}
use Rattle.search_core.specs.declared.machine.Step.TheVariants.{Worked}
use Rattle.search_core.specs.Advances.{items_after}

-- the lines of rows
pub lines-rows : (rows : List Row) → concat (map item_lines (are_row_items rows)) ≡ concat (map row_line rows)
lines-rows [] = refl
lines-rows (row ∷ rows) = ap (λ (l : List ℕ). row_line row ++ l) (lines-rows rows)

-- the lines of items and then of others
pub lines-then : (xs ys : List Item) → concat (map item_lines (xs ++ ys)) ≡ concat (map item_lines xs) ++ concat (map item_lines ys)
lines-then xs ys = ap concat (map-append item_lines xs ys) ∙ concat-append (map item_lines xs) (map item_lines ys)

-- the lines of the rows from one place up to another
abbrev pub lines_between : List Row → ℕ → ℕ → List ℕ
lines_between rows from to = concat (map row_line (take (to - from) (drop from rows)))

-- the row at a place
row_at : (rows : List Row) (from at : ℕ) (kind : RowKind) (members : List ℕ) → from ≤ at → at < length rows → ((r : Row) → slice_get rows at ≡ Some r → kind ≡ r.kind)
    → ((r : Row) → slice_get rows at ≡ Some r → members ≡ r.members) → (let x : Row = record { kind = kind; members = members } in x ≡ get_or (drop from rows) (at - from) x)
row_at rows from at kind members l within kind_is members_are =
    let x : Row = record { kind = kind; members = members } in
    let r : Row = get_or rows at x in
    let is : slice_get rows at ≡ Some r = slice_get-get_or rows at x within in
    let same : x ≡ r = λ i. record { kind = kind_is r is i; members = members_are r is i } in
    let place : from + (at - from) ≡ at = omega (arith, l) in
    same ∙ sym (get_or-drop from rows (at - from) x ∙ ap (λ (k : ℕ). get_or rows k x) place)

-- one row further
pub rows-more : (rows : List Row) (from at : ℕ) (kind : RowKind) (members : List ℕ) {u v : Unit {0}} {a b c : StreamState} → from ≤ at → at < length rows
    → ((r : Row) → slice_get rows at ≡ Some r → kind ≡ r.kind) → ((r : Row) → slice_get rows at ≡ Some r → members ≡ r.members)
    → Writes {A = Unit {0}} {E = Failed} (Ok u) a b (lines_between rows from at) → Writes {A = Unit {0}} {E = Failed} (Ok v) b c (row_line (record { kind = kind; members = members }))
    → Writes {A = Unit {0}} {E = Failed} (Ok v) a c (lines_between rows from (at + 1))
rows-more rows from at kind members l within kind_is members_are p q =
    let count = length-drop from rows in
    let next : (at - from) + 1 ≡ at + 1 - from = omega (arith, l) in
    written_as
    (wrote_more_of row_line (drop from rows) (at - from) (record { kind = kind; members = members }) (omega (arith, l, within, count)) (row_at rows from at kind members l within kind_is members_are) p q)
    (ap (λ (m : ℕ). concat (map row_line (take m (drop from rows)))) (sym next))

-- a row that failed
pub rows-part : (rows : List Row) (from at : ℕ) (kind : RowKind) (members : List ℕ) {u : Unit {0}} {e : Failed} {r : Result (Unit {0}) Failed} {a b c : StreamState} → from ≤ at → at < length rows
    → ((r : Row) → slice_get rows at ≡ Some r → kind ≡ r.kind) → ((r : Row) → slice_get rows at ≡ Some r → members ≡ r.members) → IsErr r
    → Writes {A = Unit {0}} {E = Failed} (Ok u) a b (lines_between rows from at) → Writes {A = Unit {0}} {E = Failed} (Err e) b c (row_line (record { kind = kind; members = members }))
    → Writes r a c (concat (map item_lines (are_row_items (drop from rows))))
rows-part rows from at kind members {r = r} l within kind_is members_are failed p q =
    let count = length-drop from rows in
    let x : Row = record { kind = kind; members = members } in
    written_as
    (wrote_part row_line (drop from rows) (at - from) x (omega (arith, l, within, count)) failed p (written_as q (ap row_line (sym (row_at rows from at kind members l within kind_is members_are)))))
    (lines-rows (drop from rows))

-- all rows
pub rows-all : (rows : List Row) (from at : ℕ) {u : Unit {0}} {a b : StreamState} → from ≤ length rows → at ≡ length rows → Writes {A = Unit {0}} {E = Failed} (Ok u) a b (lines_between rows from at)
    → Writes {A = Unit {0}} {E = Failed} (Ok u) a b (concat (map item_lines (are_row_items (drop from rows))))
rows-all rows from at l all p =
    let count = length-drop from rows in
    let whole : take (at - from) (drop from rows) ≡ drop from rows = take_all (at - from) (drop from rows) (omega (arith, l, all, count)) in
    written_as p (lines-rows (drop from rows) ∙ ap (λ (xs : List Row). concat (map row_line xs)) (sym whole))

-- ---- steps
-- the lines of a work that a step did
worked-lines : (p : Progress) (step : Step) (from to : ℕ) → step ≡ Worked from to
    → concat (map item_lines (items_after p step)) ≡ concat (map item_lines (are_row_items (drop from p.pool))) ++ item_lines (last_item p)
worked-lines p step from to e =
    ap (λ (x : Step). concat (map item_lines (items_after p x))) e ∙ lines-then (are_row_items (drop from p.pool)) (last_item p ∷ [])
    ∙ ap (λ (l : List ℕ). concat (map item_lines (are_row_items (drop from p.pool))) ++ l) (append-nil (item_lines (last_item p)))

-- its rows failed
pub step-part : (p : Progress) (step : Step) (from to : ℕ) {e : Failed} {r : Result (Unit {0}) Failed} {a b : StreamState} → step ≡ Worked from to → IsErr r
    → Writes {A = Unit {0}} (Err e) a b (concat (map item_lines (are_row_items (drop from p.pool)))) → Writes r a b (concat (map item_lines (items_after p step)))
step-part p step from to e h q = stopped (item_lines (last_item p)) h q (worked-lines p step from to e)

-- its rows were written, and then its work
pub step-whole : (p : Progress) (step : Step) (from to : ℕ) {u : Unit {0}} {r : Result (Unit {0}) Failed} {a b c : StreamState} → step ≡ Worked from to
    → Writes {A = Unit {0}} {E = Failed} (Ok u) a b (concat (map item_lines (are_row_items (drop from p.pool)))) → Writes r b c (item_lines (last_item p))
    → Writes r a c (concat (map item_lines (items_after p step)))
step-whole p step from to e q w = written_as (Writes-then q w) (worked-lines p step from to e)
