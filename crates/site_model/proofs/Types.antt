-- The first code of a cable type, and what a good one adds.
use Rattle.std.proofs.Common.{◌≡◌, ◌≤◌, ◌<◌, arith, ◌==◌, ◌++◌, [], ◌∷◌, List, length, ℤ, pos, Option, Some, None, IsTrue, refl, sym, ap, ◌∙◌, subst, to_z, of_z, FitsSigned}
use Rattle.std.specs.Prelude.{All, IsSome}
use Rattle.std.specs.Int.{w128}
use Rattle.std.proofs.lemmas.Int.{ints}
use Rattle.std.proofs.lemmas.List.Elements.{All-nil, All-cons}
use Rattle.cable_definitions.specs.declared.site.Version.{Version}
use Rattle.cable_definitions.specs.declared.site.Version.TheVariants.{One, Two}
use Rattle.cable_definitions.specs.declared.site.CableType.{CableType}
use Rattle.cable_definitions.specs.declared.site.SiteCode.TheVariants.{Range, BadName, SameName, SamePlace, UnknownName, SamePair, InObstacle, TooMany}
use Rattle.cable_definitions.specs.Site.{IsCableType}
use Rattle.cable_definitions.specs.Items.{RawItem, AType, Overlong, Draft, Field, within, IsWithin, fields_of, IsGood, IsFirstCode}
use Rattle.site_model.specs.Building.{type_item}
use Rattle.site_model.specs.Drafts.{IsDraft, FitsVersion, item_of_type}
use Rattle.site_model.proofs.Ranges.{passed, passed_two, IsWithin-some}
use Rattle.site_model.proofs.Codes.{KeepsBelow, KeepsBelow-past, KeepsBelow-shaped, IsFirstCode-at, IsGood-kept}
use Rattle.site_model.proofs.Drafts.{IsDraft-type}

-- a cable type whose numbers, as they were passed on, are out of range
pub IsFirstCode-type : (d : Draft) (version : Version) (c p : ℤ) (loss : Option ℤ) (l : ℤ) → version ≡ d.site.version → type_item version c p loss ≡ AType (Some c) (Some p) (Some l) → IsTrue (d.stage == 2)
    → FitsSigned w128 c → FitsSigned w128 p → FitsSigned w128 l → ¬ (All IsWithin (fields_of (AType (Some (to_z w128 (of_z w128 c))) (Some (to_z w128 (of_z w128 p))) (Some (to_z w128 (of_z w128 l))))))
    → IsFirstCode d (type_item d.site.version c p loss) Range
IsFirstCode-type d version c p loss l same said stands fits_c fits_p fits_l out =
    let known : RawItem = AType (Some c) (Some p) (Some l) in
    let Out : ℤ → ℤ → ℤ → Type 0 = λ u v w. ¬ (All IsWithin (fields_of (AType (Some u) (Some v) (Some w)))) in
    let not_in : Out c p l = passed_two (λ u v. Out u v l) c p fits_c fits_p (passed (λ w. Out (to_z w128 (of_z w128 c)) (to_z w128 (of_z w128 p)) w) l fits_l out) in
    let P : Field → Type 0 = λ f. IsSome f.value in
    let given : All P (fields_of (AType (Some c) (Some p) (Some l))) =
    All-cons P (within (Some c) (pos 1) (pos 10000)) (within (Some p) (pos 0) (pos 1000000) ∷ within (Some l) (pos 0) (pos 100) ∷ []) refl
    (All-cons P (within (Some p) (pos 0) (pos 1000000)) (within (Some l) (pos 0) (pos 100) ∷ []) refl
    (All-cons P (within (Some l) (pos 0) (pos 100)) [] refl (All-nil P))) in
    let kept : KeepsBelow d known 4 = KeepsBelow-shaped d known (λ e. absurd (no_line e)) stands refl given in
    let known_first : IsFirstCode d known Range = IsFirstCode-at d known Range kept not_in in
    subst (λ (v : Version). IsFirstCode d (type_item v c p loss) Range) same (subst (λ (i : RawItem). IsFirstCode d i Range) (sym said) known_first)
  where
    no_line : AType (Some c) (Some p) (Some l) ≡ Overlong → ⊥
    no_line e = cc

-- in version 1 the item of a cable type has no loss
FitsVersion-type : (d : Draft) (version : Version) (c p : ℤ) (loss : Option ℤ) → d.site.version ≡ version → FitsVersion d (type_item version c p loss)
FitsVersion-type d One c p None e = λ one. refl
FitsVersion-type d One c p (Some loss) e = tt
FitsVersion-type d Two c p None e = tt
FitsVersion-type d Two c p (Some loss) e = λ one. absurd (cc (e, one))

-- the site so far with a good cable type more
pub IsDraft-pushed_type : (d e : Draft) (c p : ℤ) (loss : Option ℤ) (t : CableType) (types : List CableType) → d ≡ e → IsDraft d → IsGood e (type_item e.site.version c p loss) → type_item e.site.version c p loss ≡ item_of_type t
    → types ≡ d.site.types ++ t ∷ [] → IsDraft (record d { site = record d.site { types = types } })
IsDraft-pushed_type d e c p loss t types same draft good said pushed =
    let item : RawItem = type_item e.site.version c p loss in
    let good_here : IsGood d (item_of_type t) = subst (λ (i : RawItem). IsGood d i) said (subst (λ (f : Draft). IsGood f item) (sym same) good) in
    let fits : FitsVersion d (item_of_type t) = subst (λ (i : RawItem). FitsVersion d i) said (FitsVersion-type d e.site.version c p loss (ap (λ (f : Draft). f.site.version) same)) in
    subst (λ (ts : List CableType). IsDraft (record d { site = record d.site { types = ts } })) (sym pushed) (IsDraft-type d t draft good_here fits)

-- a cable type in range, whose item this is, keeps each rule but those on counts
KeepsBelow-type : (d : Draft) (t : CableType) → IsTrue (d.stage == 2) → IsCableType Two t → KeepsBelow d (item_of_type t) 11
KeepsBelow-type d t stands fits =
    let item = item_of_type t in
    let C : Field = within (Some (pos t.capacity)) (pos 1) (pos 10000) in
    let M : Field = within (Some (pos t.price)) (pos 0) (pos 1000000) in
    let L : Field = within (Some (pos t.loss)) (pos 0) (pos 100) in
    let P : Field → Type 0 = λ f. IsSome f.value in
    let given : All P (fields_of item) = All-cons P C (M ∷ L ∷ []) refl (All-cons P M (L ∷ []) refl (All-cons P L [] refl (All-nil P))) in
    let in_range : All IsWithin (fields_of item) =
    All-cons IsWithin C (M ∷ L ∷ []) (IsWithin-some (pos t.capacity) (pos 1) (pos 10000) (omega (arith, ints, fits.some_capacity)) (omega (arith, ints, fits.capacity)))
    (All-cons IsWithin M (L ∷ []) (IsWithin-some (pos t.price) (pos 0) (pos 1000000) (omega (arith, ints)) (omega (arith, ints, fits.price)))
    (All-cons IsWithin L [] (IsWithin-some (pos t.loss) (pos 0) (pos 100) (omega (arith, ints)) (omega (arith, ints, fits.loss))) (All-nil IsWithin))) in
    let shaped : KeepsBelow d item 4 = KeepsBelow-shaped d item (λ e. absurd (no_line e)) stands refl given in
    let ranged : KeepsBelow d item 5 = KeepsBelow-past d item Range shaped (λ out. out in_range) in
    let named : KeepsBelow d item 6 = KeepsBelow-past d item BadName ranged (λ bad. bad (All-nil _)) in
    let fresh : KeepsBelow d item 8 = KeepsBelow-past d item SamePlace (KeepsBelow-past d item SameName named (λ h. h)) (λ h. h) in
    KeepsBelow-past d item InObstacle (KeepsBelow-past d item SamePair (KeepsBelow-past d item UnknownName fresh (λ h. h)) (λ h. h)) (λ h. h)
  where
    no_line : item_of_type t ≡ Overlong → ⊥
    no_line e = cc

-- the ninth cable type
pub IsFirstCode-many_types : (d : Draft) (item : RawItem) (t : CableType) → item ≡ item_of_type t → IsTrue (d.stage == 2) → IsCableType Two t → 8 ≤ length d.site.types → IsFirstCode d item TooMany
IsFirstCode-many_types d item t said stands fits many =
    subst (λ (i : RawItem). IsFirstCode d i TooMany) (sym said) (IsFirstCode-at d (item_of_type t) TooMany (KeepsBelow-type d t stands fits) many)

-- a cable type that isn't one too many
pub IsGood-type : (d : Draft) (item : RawItem) (t : CableType) → item ≡ item_of_type t → IsTrue (d.stage == 2) → IsCableType Two t → length d.site.types < 8 → IsGood d item
IsGood-type d item t said stands fits few =
    subst (λ (i : RawItem). IsGood d i) (sym said)
    (IsGood-kept d (item_of_type t) (KeepsBelow-past d (item_of_type t) TooMany (KeepsBelow-type d t stands fits) (λ (many : 8 ≤ length d.site.types). omega arith)))

-- the item of a cable type that was found in range, from its numbers as they were passed on
pub type_found : (d : Draft) (version : Version) (c p : ℤ) (loss : Option ℤ) (l : ℤ) (t : CableType) → version ≡ d.site.version → type_item version c p loss ≡ AType (Some c) (Some p) (Some l)
    → FitsSigned w128 c → FitsSigned w128 p → FitsSigned w128 l
    → (to_z w128 (of_z w128 c) ≡ pos t.capacity) × (to_z w128 (of_z w128 p) ≡ pos t.price) × (to_z w128 (of_z w128 l) ≡ pos t.loss) × IsCableType Two t
    → type_item d.site.version c p loss ≡ item_of_type t
type_found d version c p loss l t same said fits_c fits_p fits_l found =
    let capacity : c ≡ pos t.capacity = passed (λ v. v ≡ pos t.capacity) c fits_c found.0 in
    let price : p ≡ pos t.price = passed (λ v. v ≡ pos t.price) p fits_p found.1 in
    let own_loss : l ≡ pos t.loss = passed (λ v. v ≡ pos t.loss) l fits_l found.2 in
    let known : AType (Some c) (Some p) (Some l) ≡ item_of_type t = cc (capacity, price, own_loss) in
    subst (λ (v : Version). type_item v c p loss ≡ item_of_type t) same (said ∙ known)
