-- The text of a line, by what is answered of the item that is held of it.
use Rattle.std.proofs.Common.{◌≡◌, ◌≢◌, ℕ, List, refl, ap, ◌∙◌, subst, Result, Ok, Err}
use Rattle.std.specs.Prelude.{IfOk, OnOk}
use Rattle.cable_definitions.specs.declared.site.Version.{Version}
use Rattle.cable_definitions.specs.declared.site.SiteCode.{SiteCode}
use Rattle.cable_definitions.specs.Text.{Whole}
use Rattle.cable_definitions.specs.Items.{RawItem, TheEnd, Draft, IsFirstCode, IsItemOf}
use Rattle.site_model.specs.declared.fault.BuildFault.{BuildFault}
use Rattle.site_model.specs.declared.fault.BuildFault.TheVariants.{Refused}
use Rattle.site_text.specs.declared.add.Progress.{Progress}
use Rattle.site_text.specs.declared.add.Progress.TheVariants.{Added, Ended}
use Rattle.site_text.specs.declared.item.Item.{Item}
use Rattle.site_text.specs.declared.item.Item.TheVariants.{Version as VersionItem, Mode as ModeItem, CableType, Point, Obstacle, Corner, Pair, End, Stray}
use Rattle.site_text.specs.Item.{item_held, held_item}
use Rattle.site_text.specs.Adding.{Answers, TakesItem, TextAdds, TextBreaks}
use Rattle.site_text.proofs.Changed.{held_good, held_first}

-- an item that is taken as it is held is taken as it is
pub held_takes : (d e : Draft) (raw : RawItem) → TakesItem d (held_item raw) e → TakesItem d raw e
held_takes d e raw t = subst (λ (i : RawItem). TakesItem d i e) (held_good d raw t.good) t

-- an item that is not the end is held as none
pub not_end : (i : Item) → i ≢ End → item_held i ≢ TheEnd
not_end (VersionItem v) h e = cc
not_end (ModeItem m) h e = cc
not_end (CableType c p l) h e = cc
not_end (Point n x y k) h e = cc
not_end (Obstacle k) h e = cc
not_end (Corner x y) h e = cc
not_end (Pair a b r) h e = cc
not_end End h e = h refl
not_end Stray h e = cc

module _ (r : Result Progress BuildFault) (d e : Draft) (version : Version) (text : List ℕ) (held raw : RawItem) (held_is : held ≡ held_item raw) (same : version ≡ d.site.version) (item_of : IsItemOf version (Whole text) raw) (answers : Answers r d held e) where
  here : IsItemOf d.site.version (Whole text) raw
  here = subst (λ (v : Version). IsItemOf v (Whole text) raw) same item_of

  pub text_added : held ≢ TheEnd → r ≡ Ok Added → TextAdds d text e
  text_added before_end is =
      let P : Result Progress BuildFault → Type 0 = λ q. OnOk q (TakesItem d held e) in
      record { item = raw; item_of = here; takes = held_takes d e raw (subst (λ (i : RawItem). TakesItem d i e) held_is (subst P is answers.takes)); other = λ k. before_end (held_is ∙ ap held_item k) }

  pub text_refused : (code : SiteCode) → r ≡ Err (Refused code) → TextBreaks d text code
  text_refused code is = record { item = raw; item_of = here; first = held_first d raw code (subst (λ (i : RawItem). IsFirstCode d i code) held_is (answers.refused code is)) }

  pub text_not_ended : r ≡ Ok Ended → ⊥
  text_not_ended is =
      let P : Result Progress BuildFault → Type 0 = λ q. IfOk q (λ p. p ≡ Added) in
      let e : Ended ≡ Added = subst P is answers.progress in
      cc
