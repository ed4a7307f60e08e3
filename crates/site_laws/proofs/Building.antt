-- Good items make one draft of a draft, and have no fault.
use Rattle.std.proofs.Common.{◌≡◌, ℕ, ◌+◌, List, [], ◌∷◌, ◌++◌, length, refl, sym, ap, ◌∙◌, subst, arith}
use Rattle.cable_definitions.specs.declared.site.SiteCode.{SiteCode}
use Rattle.cable_definitions.specs.Items.{RawItem, Draft, empty_draft, IsFirstCode, IsGood, Adds, Builds, IsItemFault}
use Rattle.site_model.proofs.Codes.{IsFirstCode-unique, IsFirstCode-good}
use Rattle.site_laws.proofs.Adding.{NamesDiffer, NamesDiffer-empty, adds_same, names_kept}

-- good items lead to one draft
pub builds_same : (items : List RawItem) (d e f : Draft) → NamesDiffer d → Builds d items e → Builds d items f → e ≡ f
builds_same [] d e f names h k = h ∙ sym k
builds_same (item ∷ items) d e f names h k =
    let B : Draft → Type 0 = λ g. Builds g items e in
    let same = adds_same d item h.0 k.0 names h.2 k.2 in
    builds_same items k.0 e f (names_kept d k.0 item names k.1 k.2) (subst B same h.3) k.3

-- a good item is not the first bad one
good_or_bad : (d e : Draft) (item other : RawItem) (code : SiteCode) → d ≡ e → item ≡ other → IsGood d item → IsFirstCode e other code → ⊥
good_or_bad d e item other code same here good first =
    let G : RawItem → Type 0 = λ i. IsGood d i in
    let H : Draft → Type 0 = λ g. IsGood g other in
    IsFirstCode-good e other code (subst H same (subst G here good)) first

-- good items have no bad one among them
pub none_bad : (items good further : List RawItem) (d e f : Draft) (bad : RawItem) (code : SiteCode) → NamesDiffer d → Builds d items e → items ≡ good ++ bad ∷ further → Builds d good f → IsFirstCode f bad code → ⊥
none_bad [] [] further d e f bad code names h s k first = cc
none_bad [] (j ∷ js) further d e f bad code names h s k first = cc
none_bad (i ∷ is) [] further d e f bad code names h s k first = good_or_bad d f i bad code (sym k) (cc) h.1 first
none_bad (i ∷ is) (j ∷ js) further d e f bad code names h s k first =
    let here : i ≡ j = cc in
    let A : RawItem → Type 0 = λ x. Adds d x h.0 in
    let B : Draft → Type 0 = λ g. Builds g is e in
    let same = adds_same d j h.0 k.0 names (subst A here h.2) k.2 in
    none_bad is js further k.0 e f bad code (names_kept d k.0 j names k.1 k.2) (subst B same h.3) (cc) k.3 first

-- the first bad item of a list is one
record SameFault (code other : SiteCode) (good front : List RawItem) : Type 0 where
  codes_are : code ≡ other
  places_are : length good ≡ length front

first_bad : (good front more further : List RawItem) (d e f : Draft) (bad other : RawItem) (code found : SiteCode) → NamesDiffer d → Builds d good e → IsFirstCode e bad code → Builds d front f → IsFirstCode f other found
    → good ++ bad ∷ more ≡ front ++ other ∷ further → SameFault code found good front
first_bad [] [] more further d e f bad other code found names h first k second s =
    let P : Draft → Type 0 = λ g. IsFirstCode g bad code in
    let Q : Draft → Type 0 = λ g. IsFirstCode g other found in
    let R : RawItem → Type 0 = λ i. IsFirstCode d i code in
    let here : bad ≡ other = cc in
    record { codes_are = IsFirstCode-unique d other code found (subst R here (subst P h first)) (subst Q k second); places_are = refl }
first_bad [] (j ∷ js) more further d e f bad other code found names h first k second s = absurd (good_or_bad d e j bad code (sym h) (cc) k.1 first)
first_bad (i ∷ is) [] more further d e f bad other code found names h first k second s = absurd (good_or_bad d f i other found (sym k) (cc) h.1 second)
first_bad (i ∷ is) (j ∷ js) more further d e f bad other code found names h first k second s =
    let here : i ≡ j = cc in
    let A : RawItem → Type 0 = λ x. Adds d x h.0 in
    let B : Draft → Type 0 = λ g. Builds g is e in
    let same = adds_same d j h.0 k.0 names (subst A here h.2) k.2 in
    let later = first_bad is js more further k.0 e f bad other code found (names_kept d k.0 j names k.1 k.2) (subst B same h.3) first k.3 second (cc) in
    record { codes_are = later.codes_are; places_are = let l = later.places_are in omega arith }

-- good items have no fault
pub no_fault : (items : List RawItem) (d : Draft) (code : SiteCode) (place : ℕ) → Builds empty_draft items d → IsItemFault items code place → ⊥
no_fault items d code place h fault = none_bad items fault.good fault.further empty_draft d fault.draft fault.bad code NamesDiffer-empty h fault.items_are fault.builds fault.first

-- a fault of items is one
pub item_fault_same : (items : List RawItem) (code other : SiteCode) (place there : ℕ) → IsItemFault items code place → IsItemFault items other there → (code ≡ other) × (place ≡ there)
item_fault_same items code other place there h k =
    let s = first_bad h.good k.good h.further k.further empty_draft h.draft k.draft h.bad k.bad code other NamesDiffer-empty h.builds h.first k.builds k.first (sym h.items_are ∙ k.items_are) in
    (s.codes_are, h.place_is ∙ ap (λ n. n + 1) s.places_are ∙ sym k.place_is)
