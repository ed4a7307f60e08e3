-- The least bound over the leaves that aren't dead.
use Rattle.std.proofs.Common.{◌≡◌, ℕ, zero, suc, ◌+◌, ◌<◌, ◌≤◌, List, [], ◌∷◌, ◌++◌, length, map, take, get_or, Some, None, Option, inl, inr, ◌⊎◌, arith, refl, sym, ap, ◌∙◌, subst}
use Rattle.std.specs.Prelude.{slice_get, IsTrue, Any}
use Rattle.std.proofs.lemmas.List.{map_more}
use Rattle.std.proofs.lemmas.Option.{slice_get_within, get_or_from_slice_get}
use Rattle.cable_definitions.specs.Tree.{Node, ProofState, is_open_leaf, IsLeastBound, AllDead}
use Rattle.proof_laws.proofs.Boxes.{append_left, append_right, append_either}
use Rattle.proof_laws.proofs.Lists.{all_from}
use Rattle.branch_tree.specs.declared.node.TreeNode.{TreeNode}
use Rattle.branch_tree.specs.Nodes.{IsLeastIn, IsLeastOf, as_node}

-- an element of a list with one more at its end is one of the list or the last
last_or : {X : Type 0} → (xs : List X) (y : X) (i : ℕ) (x : X) → slice_get (xs ++ y ∷ []) i ≡ Some x → (slice_get xs i ≡ Some x) ⊎ (y ≡ x)
last_or xs y i x e = elim (append_either xs (y ∷ []) i x e) [
  | inl h ↦ inl h
  | inr r ↦ inr (only r.0 r.2)
]
  where
    only : (j : ℕ) → slice_get (y ∷ []) j ≡ Some x → y ≡ x
    only zero f = cc
    only (suc j) f = absurd (cc)

-- a node that is no open leaf changes nothing
pub least_same : (nodes : List Node) (y : Node) (o : Option ℕ) → ¬ (IsTrue (is_open_leaf y.status)) → IsLeastOf nodes o → IsLeastOf (nodes ++ y ∷ []) o
least_same nodes y None h l = λ i x e. elim (last_or nodes y i x e) [
  | inl f ↦ l i x f
  | inr q ↦ (λ p. h (subst (λ (z : Node). IsTrue (is_open_leaf z.status)) (sym q) p))
]
least_same nodes y (Some b) h l = record {
  place = l.place;
  node = l.node;
  stands = append_left nodes (y ∷ []) l.place l.node l.stands;
  is_open = l.is_open;
  reached = l.reached;
  least = λ i x e p. elim (last_or nodes y i x e) [
    | inl f ↦ l.least i x f p
    | inr q ↦ absurd (h (subst (λ (z : Node). IsTrue (is_open_leaf z.status)) (sym q) p))
  ];
}

-- an open leaf whose bound is the least so far or below
pub least_new : (nodes : List Node) (y : Node) → IsTrue (is_open_leaf y.status)
    → ((i : ℕ) (x : Node) → slice_get nodes i ≡ Some x → IsTrue (is_open_leaf x.status) → y.bound ≤ x.bound) → IsLeastIn (nodes ++ y ∷ []) y.bound
least_new nodes y h l = record {
  place = length nodes;
  node = y;
  stands = ap (slice_get (nodes ++ y ∷ [])) (let q : length nodes ≡ length nodes + 0 = omega arith in q) ∙ append_right nodes (y ∷ []) 0;
  is_open = h;
  reached = refl;
  least = λ i x e p. elim (last_or nodes y i x e) [
    | inl f ↦ l i x f p
    | inr q ↦ (let same : y.bound ≡ x.bound = ap (λ (z : Node). z.bound) q in omega arith)
  ];
}

-- an open leaf whose bound is no lesser
pub least_old : (nodes : List Node) (y : Node) (b : ℕ) → b ≤ y.bound → IsLeastIn nodes b → IsLeastIn (nodes ++ y ∷ []) b
least_old nodes y b h l = record {
  place = l.place;
  node = l.node;
  stands = append_left nodes (y ∷ []) l.place l.node l.stands;
  is_open = l.is_open;
  reached = l.reached;
  least = λ i x e p. elim (last_or nodes y i x e) [
    | inl f ↦ l.least i x f p
    | inr q ↦ (let same : y.bound ≡ x.bound = ap (λ (z : Node). z.bound) q in omega arith)
  ];
}

-- without an open leaf all leaves are dead
pub all_dead : (nodes : List Node) → IsLeastOf nodes None → (kept : ProofState) → kept.nodes ≡ nodes → AllDead kept
all_dead nodes l kept e = all_from (λ v. ¬ IsTrue (is_open_leaf v.status)) kept.nodes (λ i x f. l i x (ap (λ (xs : List Node). slice_get xs i) (sym e) ∙ f))

-- the least bound of what is kept
pub least_bound_is : (nodes : List Node) (b : ℕ) → IsLeastIn nodes b → (kept : ProofState) → kept.nodes ≡ nodes → IsLeastBound kept b
least_bound_is nodes b l kept e = record {
  reached = any_from (λ v. IsTrue (is_open_leaf v.status) × (v.bound ≡ b)) kept.nodes l.place l.node (ap (λ (xs : List Node). slice_get xs l.place) e ∙ l.stands) (l.is_open, l.reached);
  least = all_from (λ v. IsTrue (is_open_leaf v.status) → b ≤ v.bound) kept.nodes (λ i x f. l.least i x (ap (λ (xs : List Node). slice_get xs i) (sym e) ∙ f));
}
  where
    any_from : (P : Node → Type 0) (xs : List Node) (i : ℕ) (x : Node) → slice_get xs i ≡ Some x → P x → Any P xs
    any_from P xs i x f p = (i, x, slice_get_within xs i x f, get_or_from_slice_get xs i x x f, p)

-- one kept node more
pub least_more : (xs : List TreeNode) (i : ℕ) (d : TreeNode) (o : Option ℕ) → i < length xs → IsLeastOf (map as_node (take i xs) ++ as_node (get_or xs i d) ∷ []) o
    → IsLeastOf (map as_node (take (i + 1) xs)) o
least_more xs i d o h l = subst (λ (ys : List Node). IsLeastOf ys o) (sym (map_more as_node xs i d h)) l
