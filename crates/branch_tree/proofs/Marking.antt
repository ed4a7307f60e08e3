-- The marks that a walk to the root leaves.
use Rattle.std.proofs.Common.{◌≡◌, ◌≢◌, ℕ, zero, suc, ◌+◌, ◌-◌, ◌<◌, ◌≤◌, List, [], ◌∷◌, length, map, Some, Bool, true, false, cond, arith, refl, sym, ap, ◌∙◌}
use Rattle.std.specs.Prelude.{slice_get, ◌==◌}
use Rattle.std.proofs.lemmas.Bool.{eqb-true, eqb-false}
use Rattle.std.specs.List.{enumerate_from}
use Rattle.cable_definitions.specs.declared.cable.Arc.{Arc}
use Rattle.cable_definitions.specs.declared.row.Mark.{Mark}
use Rattle.cable_definitions.specs.declared.row.Mark.TheVariants.{Free, Used, Unused}
use Rattle.cable_definitions.specs.Tree.{Node, mark_by, mark_in}
use Rattle.proof_laws.proofs.Boxes.{AreParentsBefore, still_made, mark_in-still}
use Rattle.branch_tree.specs.Nodes.{ArePlaced, or_mark}

-- the mark of arc a in a node is that in the list, or else that in node v
pub record IsMarked (nodes : List Node) (node : ℕ) (into : List Mark) (a v : ℕ) : Type 0 where
  pub mark : Mark
  pub stands : slice_get into a ≡ Some mark
  pub tells : mark_in node nodes a node ≡ or_mark mark (mark_in v nodes a v)

-- at first all are free
pub marked_first : (nodes : List Node) (node : ℕ) (into : List Mark) (a : ℕ) → slice_get into a ≡ Some Free → IsMarked nodes node into a node
marked_first nodes node into a e = record { mark = Free; stands = e; tells = refl }

elseward_twice : (m n : Mark) (rest : Mark) → n ≢ Free → or_mark m n ≡ or_mark (or_mark m n) rest
elseward_twice Free Free rest h = absurd (h refl)
elseward_twice Free Used rest h = refl
elseward_twice Free Unused rest h = refl
elseward_twice Used n rest h = refl
elseward_twice Unused n rest h = refl

-- the mark in a node is that of its arc, or that in its parent
pub mark_in-parent : (arcs : ℕ) (nodes : List Node) → ArePlaced arcs nodes → (a v : ℕ) (x : Node) → 1 ≤ v → slice_get nodes (v - 1) ≡ Some x
    → mark_in v nodes a v ≡ cond (x.arc == a) x.mark (mark_in x.parent nodes a x.parent)
mark_in-parent arcs nodes placed a zero x h e = absurd (omega arith)
mark_in-parent arcs nodes placed a (suc v) x h e =
    let at : slice_get nodes v ≡ Some x = ap (slice_get nodes) (let q : v ≡ suc v - 1 = omega arith in q) ∙ e in
    let before : AreParentsBefore nodes = λ i y f. (placed i y f).parent_before in
    let within : suc v ≤ length nodes = below nodes v x at in
    ap (λ o. mark_by a o (mark_in v nodes a)) at
    ∙ ap (cond (x.arc == a) x.mark) (mark_in-still nodes nodes before (still_made nodes) a v x.parent x.parent (before v x at) (omega arith) (let p = before v x at in omega arith))
  where
    below : (xs : List Node) (i : ℕ) (y : Node) → slice_get xs i ≡ Some y → suc i ≤ length xs
    below [] i y f = absurd (cc)
    below (z ∷ zs) zero y f = omega arith
    below (z ∷ zs) (suc i) y f = let r = below zs i y f in omega arith

-- a step to the parent
pub marked_step : (arcs : ℕ) (nodes : List Node) → ArePlaced arcs nodes → (node v : ℕ) (old new : List Mark) (a : ℕ) (x : Node) → 1 < v → slice_get nodes (v - 1) ≡ Some x
    → ((m : Mark) → slice_get old x.arc ≡ Some m → slice_get new x.arc ≡ Some (or_mark m x.mark))
    → ((b : ℕ) → b ≢ x.arc → slice_get new b ≡ slice_get old b)
    → IsMarked nodes node old a v → IsMarked nodes node new a x.parent
marked_step arcs nodes placed node v old new a x h e here other m =
    by_case (x.arc == a) refl
  where
    up : mark_in v nodes a v ≡ cond (x.arc == a) x.mark (mark_in x.parent nodes a x.parent)
    up = mark_in-parent arcs nodes placed a v x (omega arith) e

    decides : x.mark ≢ Free
    decides = (placed (v - 1) x e).decides (omega arith)

    by_case : (b : Bool) → (x.arc == a) ≡ b → IsMarked nodes node new a x.parent
    by_case true t =
        let same : x.arc ≡ a = eqb-true x.arc a t in
        record {
          mark = or_mark m.mark x.mark;
          stands = ap (slice_get new) (sym same) ∙ here m.mark (ap (slice_get old) same ∙ m.stands);
          tells = m.tells ∙ ap (or_mark m.mark) (up ∙ ap (λ b. cond b x.mark (mark_in x.parent nodes a x.parent)) t) ∙ elseward_twice m.mark x.mark (mark_in x.parent nodes a x.parent) decides;
        }
    by_case false t =
        record {
          mark = m.mark;
          stands = other a (λ q. eqb-false x.arc a t (sym q)) ∙ m.stands;
          tells = m.tells ∙ ap (or_mark m.mark) (up ∙ ap (λ b. cond b x.mark (mark_in x.parent nodes a x.parent)) t);
        }

-- at the root, or above it, nothing more is marked
pub marked_last : (arcs : ℕ) (nodes : List Node) → ArePlaced arcs nodes → (node v : ℕ) (into : List Mark) (a : ℕ) → v ≤ 1 → v ≤ length nodes → IsMarked nodes node into a v
    → slice_get into a ≡ Some (mark_in node nodes a node)
marked_last arcs nodes placed node v into a h l m =
    m.stands ∙ ap Some (sym (m.tells ∙ ap (or_mark m.mark) (root_mark v h l) ∙ nothing m.mark))
  where
    nothing : (n : Mark) → or_mark n Free ≡ n
    nothing Free = refl
    nothing Used = refl
    nothing Unused = refl

    by_test : (x : Node) (b : Bool) → x.mark ≡ Free → cond b x.mark Free ≡ Free
    by_test x true f = f
    by_test x false f = refl

    by_first : (xs : List Node) → ArePlaced arcs xs → 1 ≤ length xs → mark_in 1 xs a 1 ≡ Free
    by_first [] p k = absurd (omega arith)
    by_first (x ∷ xs) p k = by_test x (x.arc == a) ((p 0 x refl).root_free refl)

    root_mark : (k : ℕ) → k ≤ 1 → k ≤ length nodes → mark_in k nodes a k ≡ Free
    root_mark zero q r = refl
    root_mark (suc zero) q r = by_first nodes placed (omega arith)
    root_mark (suc (suc k)) q r = absurd (omega arith)

-- a list with the right mark at each place is the list of all marks
pub marks_are : (arcs : List Arc) (f : ℕ → Mark) (n : ℕ) (into : List Mark) → length into ≡ length arcs → ((a : ℕ) → a < length into → slice_get into a ≡ Some (f (n + a)))
    → into ≡ map (λ (x : ℕ × Arc). f x.0) (enumerate_from n arcs)
marks_are [] f n [] e h = refl
marks_are [] f n (m ∷ ms) e h = absurd (omega arith)
marks_are (x ∷ xs) f n [] e h = absurd (omega arith)
marks_are (x ∷ xs) f n (m ∷ ms) e h =
    let first : Some m ≡ Some (f (n + 0)) = h 0 (omega arith) in
    let here : m ≡ f n = (cc) ∙ ap f (let q : n + 0 ≡ n = omega arith in q) in
    let rest : ms ≡ map (λ (y : ℕ × Arc). f y.0) (enumerate_from (n + 1) xs) =
    marks_are xs f (n + 1) ms (omega arith) (λ a l. h (suc a) (omega arith) ∙ ap (λ k. Some (f k)) (let q : n + suc a ≡ n + 1 + a = omega arith in q)) in
    λ i. here i ∷ rest i
