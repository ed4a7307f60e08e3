-- The refusal of an item, as a fault of the items.
use Rattle.std.proofs.Common.{◌≡◌, ◌↔◌, ℕ, ◌+◌, ◌∷◌, [], Bool, false, Result, Err, IsTrue, refl, sym, ap, ◌∙◌, subst}
use Rattle.cable_definitions.specs.declared.site.SiteCode.{SiteCode}
use Rattle.cable_definitions.specs.declared.site.SiteCode.TheVariants.{Shape}
use Rattle.cable_definitions.specs.Items.{Draft, RawItem, IsFirstCode, may_stand}
use Rattle.site_model.specs.declared.fault.BuildFault.{BuildFault}
use Rattle.site_model.specs.declared.fault.BuildFault.TheVariants.{Refused as RefusedItem, Memory as NoRoom}
use Rattle.site_model.specs.declared.fault.SiteFault.{SiteFault}
use Rattle.site_model.specs.declared.fault.SiteFault.TheVariants.{Refused}
use Rattle.site_json.specs.Shapes.{IsMisshapen}
use Rattle.site_json.specs.Faults.{Fails, fault_at}
use Rattle.site_json.proofs.Codes.{IsFirstCode-shape}
use Rattle.site_json.proofs.Leading.{Fails-one}

fault_of : {T : Type 0} → (r s : SiteFault) → ◌≡◌ {A = Result T SiteFault} (Err r) (Err s) → r ≡ s
fault_of r s e = cc

-- the fault that is passed on is the one that was answered
pub passed_on : {T U : Type 0} → (r : Result T SiteFault) (y fault s : SiteFault) → r ≡ Err y → y ≡ fault → r ≡ Err s → ◌≡◌ {A = Result U SiteFault} (Err fault) (Err s)
passed_on r y fault s is same e =
    let other : y ≡ s = cc in
    ap (λ (f : SiteFault). Err f) (sym same ∙ other)

-- what a refusal says
pub refused_is : {T : Type 0} → (r : SiteFault) (found code : SiteCode) (at place : ℕ) (broken : Bool) → r ≡ Refused found at false → ◌≡◌ {A = Result T SiteFault} (Err r) (Err (Refused code place broken)) → (found ≡ code) × (at ≡ place) × (broken ≡ false)
refused_is r found code at place broken is e =
    let same : Refused found at false ≡ Refused code place broken = subst (λ (f : SiteFault). f ≡ Refused code place broken) is (fault_of r (Refused code place broken) e) in
    parts found code at place broken same where
      parts : (found code : SiteCode) (at place : ℕ) (broken : Bool) → Refused found at false ≡ Refused code place broken → (found ≡ code) × (at ≡ place) × (broken ≡ false)
      parts found code at place broken same = (cc, cc, cc)

-- an item is refused by this code at the next place
pub Fails-coded : (d : Draft) (before : ℕ) (item : RawItem) (found code : SiteCode) (place : ℕ) (broken : Bool) → IsFirstCode d item found
    → Refused found (before + 1) false ≡ Refused code place broken → Fails d before (item ∷ []) code place broken
Fails-coded d before item found code place broken first e =
    let same : found ≡ code = cc in
    let at : before + 1 ≡ place = cc in
    let whole : false ≡ broken = cc in
    Fails-one d before item code place broken (subst (IsFirstCode d item) same first) (sym at) (sym whole)

-- an item of another shape is refused
pub Fails-shape : {T : Type 0} → (d : Draft) (before : ℕ) (item : RawItem) (r : SiteFault) (code : SiteCode) (place : ℕ) (broken : Bool) → IsTrue (may_stand d item) → IsMisshapen item → r ≡ Refused Shape (before + 1) false
    → ◌≡◌ {A = Result T SiteFault} (Err r) (Err (Refused code place broken)) → Fails d before (item ∷ []) code place broken
Fails-shape d before item r code place broken stands misshapen is e =
    Fails-coded d before item Shape code place broken (IsFirstCode-shape d item stands misshapen) (subst (λ (f : SiteFault). f ≡ Refused code place broken) is (fault_of r (Refused code place broken) e))

-- a builder refuses an item
pub Fails-built : {T U : Type 0} → (d : Draft) (before : ℕ) (item : RawItem) (fault : BuildFault) (r : SiteFault) (code : SiteCode) (place : ℕ) (broken : Bool)
    → ((c : SiteCode) → (◌≡◌ {A = Result U BuildFault} (Err fault) (Err (RefusedItem c))) ↔ IsFirstCode d item c) → r ≡ fault_at (before + 1) fault
    → ◌≡◌ {A = Result T SiteFault} (Err r) (Err (Refused code place broken)) → Fails d before (item ∷ []) code place broken
Fails-built d before item (RefusedItem found) r code place broken first is e =
    Fails-coded d before item found code place broken ((first found).0 refl) (subst (λ (f : SiteFault). f ≡ Refused code place broken) is (fault_of r (Refused code place broken) e))
Fails-built d before item NoRoom r code place broken first is e = cc
