-- Items of another shape: a number that is none, and keys that are others.
use Rattle.std.proofs.Common.{◌≡◌, ℕ, ◌<◌, List, [], ◌∷◌, length, get_or, Option, Some, None, Bool, true, false, cond, ◌&&◌, refl, sym, subst, lit<, arith}
use Rattle.std.proofs.lemmas.Bool.Decides.{nat_tests}
use Rattle.std.specs.Prelude.{MatchOption, IsSome, IsTrue, is_some, codes, ◌==◌, ℤ}
use Rattle.serde_json.specs.Data.{Data}
use Rattle.serde_json.specs.Find.{get, at, as_array}
use Rattle.serde_json.specs.View.{items_view}
use Rattle.serde_json.specs.declared.value.Value.{Value}
use Rattle.cable_definitions.specs.Items.{RawItem, ACorner, APair, ACharge, Misshapen, fields_of, coordinate}
use Rattle.run_definitions.specs.Json.{whole, text, text_or_none, item_count, has_exactly, raw_pair, corner_of}
use Rattle.site_json.specs.Shapes.{IsMisshapen}
use Rattle.site_json.proofs.Levels.{item_count-items_view}

no_value : (o : Option ℤ) → o ≡ None → IsSome o → ⊥
no_value None e h = cc
no_value (Some z) e h = cc

-- what holds where there is none holds of an option that is none
pub at_none : {T : Type 0} → (o : Option T) (P : Type 0) (Q : T → Type 0) → o ≡ None → P → MatchOption o P Q
at_none None P Q e p = p
at_none (Some x) P Q e p = cc

-- an item that is the same is misshapen too
pub misshapen_same : (item other : RawItem) → item ≡ other → IsMisshapen other → IsMisshapen item
misshapen_same item other e h = subst IsMisshapen (sym e) h

no_truth : IsTrue false → ⊥
no_truth h = cc

-- what stands in the place of an item of another shape
pub misshapen_shape : IsMisshapen Misshapen
misshapen_shape = λ w. no_truth w.0

-- one of the item's numbers is none
pub misshapen_at : (item : RawItem) (k : ℕ) → k < length (fields_of item) → (get_or (fields_of item) k (coordinate None)).value ≡ None → IsMisshapen item
misshapen_at item k l none = λ h. no_value _ none (h.1 k (coordinate None) l)

-- an item that has another shape, or whose keys are others
pub misshapen_either : (keys : Bool) (item : RawItem) → IsMisshapen item → IsMisshapen (cond keys item Misshapen)
misshapen_either true item h = h
misshapen_either false item h = λ w. no_truth w.0

-- one of the item's numbers is none, or its keys are others
pub misshapen_in : (keys : Bool) (item : RawItem) (k : ℕ) → k < length (fields_of item) → (get_or (fields_of item) k (coordinate None)).value ≡ None → IsMisshapen (cond keys item Misshapen)
misshapen_in keys item k l none = misshapen_either keys item (misshapen_at item k l none)

-- a pair with the keys of a charge, whose amount is none
pub misshapen_charge : (d : Data) → has_exactly (codes "a" ∷ codes "b" ∷ codes "charge" ∷ []) d ≡ true → whole (get (codes "charge") d) ≡ None → IsMisshapen (raw_pair d)
misshapen_charge d keys none =
    misshapen_either (is_some (text (get (codes "a") d)) && is_some (text (get (codes "b") d))) _
    (rw keys (misshapen_at (APair (text_or_none (get (codes "a") d)) (text_or_none (get (codes "b") d)) (ACharge (whole (get (codes "charge") d)))) 0 (lit< tt) none))

-- an array of another length than 2 is no corner
pub misshapen_length : (d : Data) (vs : List Value) → Some (items_view vs) ≡ as_array d → (length vs ≡ 2 → ⊥) → IsMisshapen (corner_of (as_array d) d)
misshapen_length d vs is_array other =
    let test : (length vs == 2) ≡ false = grind (arith, nat_tests) in
    rw (← is_array, item_count-items_view vs, test) (λ w. no_truth w.0)

-- a corner is misshapen where one of its numbers is none
pub misshapen_corner : (d : Data) (vs : List Value) → Some (items_view vs) ≡ as_array d → IsMisshapen (ACorner (whole (at 0 d)) (whole (at 1 d))) → IsMisshapen (corner_of (as_array d) d)
misshapen_corner d vs is_array h = rw (← is_array) (misshapen_either (item_count (items_view vs) == 2) _ h)

-- an array of two numbers is a corner
pub corner_of-two : (d : Data) (vs : List Value) (x y : ℤ) → Some (items_view vs) ≡ as_array d → length vs ≡ 2 → whole (at 0 d) ≡ Some x → whole (at 1 d) ≡ Some y → corner_of (as_array d) d ≡ ACorner (Some x) (Some y)
corner_of-two d vs x y is_array two x_is y_is = rw (← is_array, item_count-items_view vs, two, x_is, y_is) refl
