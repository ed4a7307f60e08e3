-- Sites that are read, and what is read in their place.
use Rattle.std.proofs.Common.{◌≡◌, ℕ, List, refl, sym, subst}
use Rattle.std.specs.Prelude.{Bool, Result, Ok, Err}
use Rattle.cable_definitions.specs.declared.site.SiteCode.{SiteCode}
use Rattle.cable_definitions.specs.Site.{Site}
use Rattle.cable_definitions.specs.Text.{site_lines}
use Rattle.site_model.specs.declared.fault.SiteFault.{SiteFault}
use Rattle.site_model.specs.declared.fault.SiteFault.TheVariants.{Refused as RefusedSite, Read as SiteRead, Memory as SiteMemory}
use Rattle.run_definitions.specs.declared.ending.Ending.TheVariants.{Done}
use Rattle.run_definitions.specs.Bytes.{IsPlanFault, IsFrontFault}
use Rattle.run_definitions.specs.Effect.{Effect, Held, Faulted, Untouched, Wrote, WroteFirstPart}
use Rattle.run_definitions.specs.Ends.{IsFront}
use Rattle.cable_run.specs.declared.fault.Fault.{Fault}
use Rattle.cable_run.specs.declared.fault.Fault.TheVariants.{Write}
use Rattle.cable_run.specs.Faults.{site_fault}
use Rattle.cable_run.specs.Steps.{ReadsSite, SiteGives}

whole_ends : (input : Effect) (fault : SiteFault)
    → ((code : SiteCode) (place : ℕ) (broken : Bool) (bytes : List ℕ) → ◌≡◌ {A = Result Site SiteFault} (Err fault) (Err (RefusedSite code place broken)) → Held input bytes → IsPlanFault bytes code place)
    → (◌≡◌ {A = Result Site SiteFault} (Err fault) (Err SiteRead) → Faulted input) → ReadsSite input (Err (site_fault fault))
whole_ends input (RefusedSite code place broken) refused read = λ bytes held. refused code place broken bytes refl held
whole_ends input SiteRead refused read = read refl
whole_ends input SiteMemory refused read = tt

-- what the fault of a whole site gives
pub whole_fails : (input : Effect) (fault : SiteFault) (answer : Fault) → answer ≡ site_fault fault
    → ((code : SiteCode) (place : ℕ) (broken : Bool) (bytes : List ℕ) → ◌≡◌ {A = Result Site SiteFault} (Err fault) (Err (RefusedSite code place broken)) → Held input bytes → IsPlanFault bytes code place)
    → (◌≡◌ {A = Result Site SiteFault} (Err fault) (Err SiteRead) → Faulted input) → ReadsSite input (Err answer)
whole_fails input fault answer is refused read = subst (λ (f : Fault). ReadsSite input (Err f)) (sym is) (whole_ends input fault refused read)

front_ends : (input out : Effect) (fault : SiteFault) → Untouched out
    → ((code : SiteCode) (place : ℕ) (broken : Bool) (bytes : List ℕ) → ◌≡◌ {A = Result Site SiteFault} (Err fault) (Err (RefusedSite code place broken)) → Held input bytes → IsFrontFault bytes code place)
    → (◌≡◌ {A = Result Site SiteFault} (Err fault) (Err SiteRead) → Faulted input) → SiteGives input out (Err (site_fault fault))
front_ends input out (RefusedSite code place broken) same refused read = (λ bytes held. refused code place broken bytes refl held, same)
front_ends input out SiteRead same refused read = (read refl, same)
front_ends input out SiteMemory same refused read = same

-- what the fault of a site at the front gives
pub front_fails : (input out : Effect) (fault : SiteFault) (answer : Fault) → answer ≡ site_fault fault → Untouched out
    → ((code : SiteCode) (place : ℕ) (broken : Bool) (bytes : List ℕ) → ◌≡◌ {A = Result Site SiteFault} (Err fault) (Err (RefusedSite code place broken)) → Held input bytes → IsFrontFault bytes code place)
    → (◌≡◌ {A = Result Site SiteFault} (Err fault) (Err SiteRead) → Faulted input) → SiteGives input out (Err answer)
front_fails input out fault answer is same refused read = subst (λ (f : Fault). SiteGives input out (Err f)) (sym is) (front_ends input out fault same refused read)

-- the lines of a site, whole or in part
pub lines_written : (input out : Effect) (s : Site) → IsFront input s → Wrote out (site_lines s) → SiteGives input out (Ok Done)
lines_written input out s front wrote = (tt, (refl, (site_lines s, (s, front, refl), wrote)))

pub lines_begun : (input out : Effect) (s : Site) → IsFront input s → Faulted out → WroteFirstPart out (site_lines s) → SiteGives input out (Err Write)
lines_begun input out s front failed part = (failed, (site_lines s, (s, front, refl), part))
