-- Items that a builder refuses for no code.
use Rattle.std.proofs.Common.{◌^◌, to_z, of_z, ◌≡◌, ◌↔◌, ℕ, ◌<◌, ◌≤◌, inl, inr, ℤ, pos, List, [], ◌∷◌, ◌++◌, length, Some, None, IsTrue, Result, Ok, Err, true, ◌&&◌, ◌==◌, refl, sym, ap, ◌∙◌, subst, arith, sum_by}
use Rattle.std.specs.Prelude.{All, Any, IsSome, nat_le}
use Rattle.std.specs.Result.{OnOk}
use Rattle.std.specs.Int.{w64, w128}
use Rattle.std.proofs.lemmas.Int.{ints, to_z-of_z}
use Rattle.cable_definitions.specs.Coordinate.{IsCoordinate}
use Rattle.std.proofs.lemmas.Bool.{le-leb}
use Rattle.std.proofs.lemmas.List.Elements.{All-nil, All-cons}
use Rattle.cable_definitions.specs.declared.place.Place.{Place}
use Rattle.cable_definitions.specs.declared.site.Version.TheVariants.{One}
use Rattle.cable_definitions.specs.declared.site.Kind.{Kind}
use Rattle.cable_definitions.specs.declared.site.Kind.TheVariants.{Turbine, Substation, Bend}
use Rattle.cable_definitions.specs.declared.site.Point.{Point}
use Rattle.cable_definitions.specs.declared.site.CableType.{CableType}
use Rattle.cable_definitions.specs.declared.site.SiteCode.{SiteCode}
use Rattle.cable_definitions.specs.declared.site.SiteCode.TheVariants.{TooLong, Form, Shape, Range, BadName, SameName, SamePlace, UnknownName, SamePair, InObstacle, TooMany}
use Rattle.cable_definitions.specs.Naming.{IsName}
use Rattle.cable_definitions.specs.Plane.{IsOutside}
use Rattle.cable_definitions.specs.Site.{IsCableType, IsKind}
use Rattle.cable_definitions.specs.Items.{RawItem, AnObstacle, ACorner, TheEnd, Draft, within, IsWithin, IsAt, raw_kind, IsGood, IsFirstCode, Adds}
use Rattle.cable_definitions.specs.Drill.{IsPlaceAt}
use Rattle.site_model.specs.declared.fault.BuildFault.{BuildFault}
use Rattle.site_model.specs.declared.fault.BuildFault.TheVariants.{Refused}
use Rattle.site_model.specs.declared.raw.RawKind.{RawKind}
use Rattle.site_model.specs.Building.{type_item, point_item, kind_item}
use Rattle.site_model.specs.Drafts.{item_of_type}
use Rattle.site_model.proofs.Ranges.{IsWithin-some}
use Rattle.site_model.proofs.Codes.{KeepsBelow, KeepsBelow-past, IsFirstCode-good}
use Rattle.site_model.proofs.Points.{KeepsBelow-point_ranges, KeepsBelow-point_name, KeepsBelow-point_place, IsGood-point}
use Rattle.site_model.proofs.Types.{IsGood-type}
use Rattle.site_model.proofs.Corners.{IsGood-corner}
use Rattle.drill_site.specs.Growing.{TakesPoints, IsApart, Gains}

-- where every element has one fact, and no element with it has the other, none has the other
pub none_of : {X : Type 0} (P Q : X → Type 0) (xs : List X) → ((x : X) → P x → ¬ (Q x)) → All P xs → ¬ (Any Q xs)
none_of P Q xs apart all any = apart any.1 (subst P any.3 (all any.0 any.1 any.2)) any.4

-- a call that refuses an item exactly with its first code doesn't refuse a good one, which it was passed
pub never_refused : {T : Type 0} (r : Result T BuildFault) (d : Draft) (item passed_on : RawItem) → passed_on ≡ item → IsGood d item → ((code : SiteCode) → (r ≡ Err (Refused code)) ↔ IsFirstCode d passed_on code)
    → (code : SiteCode) → r ≡ Err (Refused code) → ⊥
never_refused r d item passed_on same good says code e = IsFirstCode-good d item code good (subst (λ (i : RawItem). IsFirstCode d i code) same ((says code).0 e))

-- a coordinate, as it is passed on
pub coordinate_passed : (x r : ℤ) → r ≡ to_z w64 (of_z w64 x) → IsCoordinate x → to_z w128 (of_z w128 r) ≡ x
coordinate_passed x r e h =
    let own : to_z w64 (of_z w64 x) ≡ x = to_z-of_z w64 x (omega (arith, ints, h.least, h.most)) in
    subst (λ (v : ℤ). to_z w128 (of_z w128 v) ≡ x) (sym (e ∙ own)) (to_z-of_z w128 x (omega (arith, ints, h.least, h.most)))

-- the item of a point, as its coordinates are passed on
pub point_passed : (name : List ℕ) (at : Place) (raw : RawKind) (r s : ℤ) → r ≡ to_z w64 (of_z w64 at.x) → s ≡ to_z w64 (of_z w64 at.y) → point_item name (to_z w128 (of_z w128 r)) (to_z w128 (of_z w128 s)) raw ≡ point_item name at.x at.y raw
point_passed name at raw r s e f =
    ap (λ (z : ℤ). point_item name z (to_z w128 (of_z w128 s)) raw) (coordinate_passed at.x r e at.x_in_range) ∙ ap (λ (z : ℤ). point_item name at.x z raw) (coordinate_passed at.y s f at.y_in_range)

-- the item of a corner, as its coordinates are passed on
pub corner_passed : (at : Place) (r s : ℤ) → r ≡ to_z w64 (of_z w64 at.x) → s ≡ to_z w64 (of_z w64 at.y) → ACorner (Some (to_z w128 (of_z w128 r))) (Some (to_z w128 (of_z w128 s))) ≡ ACorner (Some at.x) (Some at.y)
corner_passed at r s e f =
    ap (λ (z : ℤ). ACorner (Some z) (Some (to_z w128 (of_z w128 s)))) (coordinate_passed at.x r e at.x_in_range) ∙ ap (λ (z : ℤ). ACorner (Some at.x) (Some z)) (coordinate_passed at.y s f at.y_in_range)

-- a number of 32 bits, as it is passed on
pub number_passed : (n : ℕ) (r : ℤ) → r ≡ pos n → n < 2 ^ 32 → to_z w128 (of_z w128 r) ≡ pos n
number_passed n r e h = subst (λ (v : ℤ). to_z w128 (of_z w128 v) ≡ pos n) (sym e) (to_z-of_z w128 (pos n) (omega (arith, ints)))

-- what a step says of its success, where what was made of it succeeded
pub OnOk-through : {T U E F : Type 0} (P : Type 0) (r : Result T E) (v : T) (s : Result U F) → OnOk s (r ≡ Ok v) → OnOk r P → OnOk s P
OnOk-through {T} {U} {E} {F} P r v (Ok u) is h = subst (λ (q : Result T E). OnOk q P) is h
OnOk-through P r v (Err f) is h = tt

-- the same of what follows from it
pub OnOk-more : {T E : Type 0} (P Q : Type 0) (r : Result T E) → (P → Q) → OnOk r P → OnOk r Q
OnOk-more P Q (Ok u) f h = f h
OnOk-more P Q (Err e) f h = tt

-- a cable type may stand where the last item was one
pub IsGood-drill_type : (d : Draft) (t : CableType) → d.stage ≡ 2 → d.site.version ≡ One → length d.site.types < 8 → IsCableType One t → IsGood d (type_item d.site.version (pos t.capacity) (pos t.price) None)
IsGood-drill_type d t stage version few fits =
    let no_loss : t.loss ≡ 0 = fits.no_loss refl in
    let said : type_item d.site.version (pos t.capacity) (pos t.price) None ≡ item_of_type t = rw (version, no_loss) refl in
    IsGood-type d (type_item d.site.version (pos t.capacity) (pos t.price) None) t said (rw stage refl)
    (record { some_capacity = fits.some_capacity; capacity = fits.capacity; price = fits.price; loss = fits.loss; no_loss = λ e. absurd (cc) }) few

-- the item of a cable type, as its numbers are passed on
pub type_passed : (d : Draft) (t : CableType) (r s : ℤ) → r ≡ pos t.capacity → s ≡ pos t.price → IsCableType One t → type_item d.site.version (to_z w128 (of_z w128 r)) (to_z w128 (of_z w128 s)) None ≡ type_item d.site.version (pos t.capacity) (pos t.price) None
type_passed d t r s e f fits =
    ap (λ (z : ℤ). type_item d.site.version z (to_z w128 (of_z w128 s)) None) (number_passed t.capacity r e (omega (arith, fits.capacity)))
    ∙ ap (λ (z : ℤ). type_item d.site.version (pos t.capacity) z None) (number_passed t.price s f (omega (arith, fits.price)))

-- the cable type that was added
pub type_added : (d e : Draft) (t : CableType) → d.site.version ≡ One → IsCableType One t → Adds d (type_item d.site.version (pos t.capacity) (pos t.price) None) e → e ≡ record d { site = record d.site { types = d.site.types ++ t ∷ [] } }
type_added d e t version fits added =
    let no_loss : t.loss ≡ 0 = fits.no_loss refl in
    let said : type_item d.site.version (pos t.capacity) (pos t.price) None ≡ item_of_type t = rw (version, no_loss) refl in
    let known : Adds d (item_of_type t) e = subst (λ (i : RawItem). Adds d i e) said added in
    let capacity : t.capacity ≡ known.0.capacity = let f = known.1 in cc in
    let price : t.price ≡ known.0.price = let f = known.2 in cc in
    let loss : t.loss ≡ known.0.loss = let f = known.3 in cc in
    let same : t ≡ known.0 = λ i. record { capacity = capacity i; price = price i; loss = loss i } in
    known.4 ∙ ap (λ (u : CableType). record d { site = record d.site { types = d.site.types ++ u ∷ [] } }) (sym same)

-- a site so far that takes points has types, and lacks no corner
settled : (d : Draft) → TakesPoints d → (most : ℕ) → 3 ≤ most → IsTrue ((nat_le 1 (length d.site.types) && (d.missing == 0)) && nat_le d.stage most)
settled d takes most l =
    let stage : nat_le d.stage most ≡ true = le-leb d.stage most (omega (arith, takes.stage)) in
    rw (takes.types, takes.missing, stage) refl

-- a point may stand whose name and place no point has so far
pub IsGood-apart : (d : Draft) (name : List ℕ) (at : Place) (kind : Kind) (raw : RawKind) → TakesPoints d → IsName name → IsKind kind → kind_item raw ≡ raw_kind kind → length d.site.points < 256
    → All (IsApart name at.x at.y) d.site.points → IsGood d (point_item name at.x at.y raw)
IsGood-apart d name at kind raw takes named known same few apart =
    let item : RawItem = point_item name at.x at.y raw in
    let ranged : KeepsBelow d item 5 = KeepsBelow-point_ranges d name at.x at.y raw at kind (settled d takes 3 (omega arith)) (record { x_is = refl; y_is = refl }) same known in
    let spelled : KeepsBelow d item 6 = KeepsBelow-point_name d name at.x at.y raw ranged named in
    let fresh : KeepsBelow d item 7 = KeepsBelow-past d item SameName spelled (none_of (IsApart name at.x at.y) (λ p. p.name ≡ name) d.site.points (λ p h. h.name_differs) apart) in
    let placed : KeepsBelow d item 11 = KeepsBelow-point_place d name at.x at.y raw fresh (none_of (IsApart name at.x at.y) (λ p. IsAt (Some at.x) (Some at.y) p.at) d.site.points (λ p h is. h.place_differs (other_place p is)) apart) in
    IsGood-point d name at.x at.y raw placed few
  where
    other_place : (p : Point) → IsAt (Some at.x) (Some at.y) p.at → IsPlaceAt p.at at.x at.y
    other_place p is = let x = is.x_is in let y = is.y_is in (cc, cc)

-- kinds that are written alike are one
same_kind : (a b : Kind) → raw_kind a ≡ raw_kind b → a ≡ b
same_kind (Turbine m) (Turbine n) e = cc
same_kind (Turbine m) (Substation f n) e = absurd (cc)
same_kind (Turbine m) Bend e = absurd (cc)
same_kind (Substation f n) (Turbine m) e = absurd (cc)
same_kind (Substation f n) (Substation g m) e = cc
same_kind (Substation f n) Bend e = absurd (cc)
same_kind Bend (Turbine m) e = absurd (cc)
same_kind Bend (Substation f n) e = absurd (cc)
same_kind Bend Bend e = refl

-- the point that was added
pub Gains-added : (d e : Draft) (name : List ℕ) (at : Place) (kind : Kind) (raw : RawKind) → kind_item raw ≡ raw_kind kind → Adds d (point_item name at.x at.y raw) e → Gains d name at.x at.y kind e
Gains-added d e name at kind raw same added =
    let x = added.2.x_is in
    let y = added.2.y_is in
    record {
      p = added.0;
      point = record { name_is = added.1; x_is = cc; y_is = cc; kind_is = same_kind added.0.kind kind (sym added.3 ∙ same) };
      becomes = added.4;
    }

-- a site so far that takes points takes more after a point
pub TakesPoints-gains : (d e : Draft) (name : List ℕ) (x y : ℤ) (kind : Kind) → TakesPoints d → Gains d name x y kind e → TakesPoints e
TakesPoints-gains d e name x y kind takes gains =
    subst TakesPoints (sym gains.becomes)
    (record { stage = omega arith; version = takes.version; mode = takes.mode; types = takes.types; obstacles = takes.obstacles; pairs = takes.pairs; missing = takes.missing })

-- an obstacle of four corners may stand after the points
pub IsGood-square : (d : Draft) → TakesPoints d → IsGood d (AnObstacle (Some (pos 4)))
IsGood-square d takes TooLong h = absurd (cc)
IsGood-square d takes Form h = h (settled d takes 4 (omega arith))
IsGood-square d takes Shape h = h (refl, All-cons (λ f. IsSome f.value) (within (Some (pos 4)) (pos 3) (pos 1024)) [] refl (All-nil _))
IsGood-square d takes Range h = h (All-cons IsWithin (within (Some (pos 4)) (pos 3) (pos 1024)) [] (IsWithin-some (pos 4) (pos 3) (pos 1024) (omega (arith, ints)) (omega (arith, ints))) (All-nil IsWithin))
IsGood-square d takes BadName h = h (All-nil _)
IsGood-square d takes SameName h = h
IsGood-square d takes SamePlace h = h
IsGood-square d takes UnknownName h = h
IsGood-square d takes SamePair h = h
IsGood-square d takes InObstacle h = h
IsGood-square d takes TooMany (inl many) = let none : length d.site.obstacles ≡ 0 = rw takes.obstacles in omega arith
IsGood-square d takes TooMany (inr many) =
    let none : sum_by length d.site.obstacles ≡ 0 = rw takes.obstacles in
    let e = many.1 in
    let four : pos 4 ≡ many.0 = cc in
    let above = many.2 in
    omega (arith, ints, four, above, none)

-- the next corner may stand where no point is inside with it
pub IsGood-clear : (d : Draft) (at : Place) → d.stage ≡ 4 → 1 ≤ d.missing → (d.missing ≡ 1 → All (λ p. IsOutside p.at (d.corners ++ at ∷ [])) d.site.points) → IsGood d (ACorner (Some at.x) (Some at.y))
IsGood-clear d at stage missing clear =
    let some : nat_le 1 d.missing ≡ true = le-leb 1 d.missing missing in
    IsGood-corner d at.x at.y at (rw (stage, some) refl) (record { x_is = refl; y_is = refl })
    (λ inside. none_of (λ p. IsOutside p.at (d.corners ++ at ∷ [])) (λ p. ¬ (IsOutside p.at (d.corners ++ at ∷ []))) d.site.points (λ p out not_out. not_out out) (clear inside.0) inside.1)

-- a site so far with types and with no corner missing may end
pub IsGood-end : (d : Draft) → d.stage ≤ 5 → 1 ≤ length d.site.types → d.missing ≡ 0 → IsGood d TheEnd
IsGood-end d stage some complete TooLong h = absurd (cc)
IsGood-end d stage some complete Form h =
    let types : nat_le 1 (length d.site.types) ≡ true = le-leb 1 (length d.site.types) some in
    let late : nat_le d.stage 5 ≡ true = le-leb d.stage 5 stage in
    h (rw (types, complete, late) refl)
IsGood-end d stage some complete Shape h = h (refl, All-nil _)
IsGood-end d stage some complete Range h = h (All-nil _)
IsGood-end d stage some complete BadName h = h (All-nil _)
IsGood-end d stage some complete SameName h = h
IsGood-end d stage some complete SamePlace h = h
IsGood-end d stage some complete UnknownName h = h
IsGood-end d stage some complete SamePair h = h
IsGood-end d stage some complete InObstacle h = h
IsGood-end d stage some complete TooMany h = h
