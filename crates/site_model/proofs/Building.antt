-- What the builder's calls have found of an item where they end: that it breaks nothing before, its first code, or that it is good.
use Rattle.std.proofs.Common.{◌≡◌, ◌↔◌, ℕ, ◌<◌, ◌≤◌, ⊎_elim, ℤ, pos, List, [], ◌∷◌, ◌++◌, length, Bool, false, Option, Some, IsTrue, sym, ap, ◌∙◌, subst, arith, to_z, of_z, FitsSigned, ◌==◌}
use Rattle.std.specs.Prelude.{Any, is_some}
use Rattle.std.specs.Int.{w128}
use Rattle.cable_definitions.specs.declared.place.Place.{Place}
use Rattle.cable_definitions.specs.declared.site.Version.{Version}
use Rattle.cable_definitions.specs.declared.site.Version.TheVariants.{Two}
use Rattle.cable_definitions.specs.declared.site.CableType.{CableType}
use Rattle.cable_definitions.specs.declared.site.Kind.{Kind}
use Rattle.cable_definitions.specs.declared.site.PairRule.{PairRule}
use Rattle.cable_definitions.specs.declared.site.Point.{Point}
use Rattle.cable_definitions.specs.declared.site.SiteCode.TheVariants.{SameName, InObstacle, TooMany}
use Rattle.cable_definitions.specs.Naming.{IsName}
use Rattle.cable_definitions.specs.Plane.{IsOutside}
use Rattle.cable_definitions.specs.Site.{IsCableType, IsKind, IsPairRule}
use Rattle.cable_definitions.specs.Text.{name_of}
use Rattle.cable_definitions.specs.Items.{AType, ACorner, Draft, HasNamed, IsAt, IsGood, IsFirstCode, IsOnNames, may_stand, raw_kind, raw_rule}
use Rattle.site_model.specs.declared.raw.RawKind.{RawKind}
use Rattle.site_model.specs.Building.{type_item, point_item, pair_item, kind_item, rule_item}
use Rattle.site_model.specs.Drafts.{IsDraft, IsBuilder}
use Rattle.site_model.specs.Ruled.{rule_in}
use Rattle.site_model.proofs.Codes.{KeepsBelow, KeepsBelow-past}
use Rattle.site_model.proofs.Corners.{IsInside, IsFirstCode-inside, IsGood-corner, some_missing}
use Rattle.site_model.proofs.Names.{Any-named, Any-placed_same}
use Rattle.site_model.proofs.Pairs.{KeepsBelow-pair_ranges, KeepsBelow-pair_names, KeepsBelow-pair_known, IsGood-pair, one_number, Any-joined_named, Any-named_joined}
use Rattle.site_model.proofs.Passed.{denied}
use Rattle.site_model.proofs.Points.{IsAt-passed, KeepsBelow-point_ranges, KeepsBelow-point_name, KeepsBelow-point_place}
use Rattle.site_model.proofs.Ruled.{has_rule_where}
use Rattle.site_model.proofs.Types.{type_found, IsFirstCode-many_types, IsGood-type}

-- ---- cable types
-- the ninth cable type, which may stand and whose numbers were found in range as they were passed on
pub IsFirstCode-ninth_type : (d : Draft) (version : Version) (c p : ℤ) (loss : Option ℤ) (l : ℤ) (t : CableType) → version ≡ d.site.version → type_item version c p loss ≡ AType (Some c) (Some p) (Some l) → IsTrue (d.stage == 2)
    → FitsSigned w128 c → FitsSigned w128 p → FitsSigned w128 l
    → (to_z w128 (of_z w128 c) ≡ pos t.capacity) × (to_z w128 (of_z w128 p) ≡ pos t.price) × (to_z w128 (of_z w128 l) ≡ pos t.loss) × IsCableType Two t
    → 8 ≤ length d.site.types → IsFirstCode d (type_item d.site.version c p loss) TooMany
IsFirstCode-ninth_type d version c p loss l t same said stands fits_c fits_p fits_l found many =
    IsFirstCode-many_types d (type_item d.site.version c p loss) t (type_found d version c p loss l t same said fits_c fits_p fits_l found) stands found.3 many

-- such a cable type that isn't one too many is good
pub IsGood-type_read : (d : Draft) (version : Version) (c p : ℤ) (loss : Option ℤ) (l : ℤ) (t : CableType) → version ≡ d.site.version → type_item version c p loss ≡ AType (Some c) (Some p) (Some l) → IsTrue (d.stage == 2)
    → FitsSigned w128 c → FitsSigned w128 p → FitsSigned w128 l
    → (to_z w128 (of_z w128 c) ≡ pos t.capacity) × (to_z w128 (of_z w128 p) ≡ pos t.price) × (to_z w128 (of_z w128 l) ≡ pos t.loss) × IsCableType Two t
    → length d.site.types < 8 → IsGood d (type_item d.site.version c p loss)
IsGood-type_read d version c p loss l t same said stands fits_c fits_p fits_l found few =
    IsGood-type d (type_item d.site.version c p loss) t (type_found d version c p loss l t same said fits_c fits_p fits_l found) stands found.3 few

-- ---- points
-- a point that may stand, with its place and its kind in range as they were passed on, keeps each rule before that on names
pub KeepsBelow-point_read : (d : Draft) (name : List ℕ) (x y : ℤ) (kind : RawKind) (at : Place) (known : Kind) → IsTrue (may_stand d (point_item name x y kind)) → FitsSigned w128 x → FitsSigned w128 y
    → IsAt (Some (to_z w128 (of_z w128 x))) (Some (to_z w128 (of_z w128 y))) at → (kind_item kind ≡ raw_kind known) × IsKind known → KeepsBelow d (point_item name x y kind) 5
KeepsBelow-point_read d name x y kind at known stands fits_x fits_y at_is kind_is = KeepsBelow-point_ranges d name x y kind at known stands (IsAt-passed x y at fits_x fits_y at_is) kind_is.0 kind_is.1

-- such a point with a name keeps each rule before that on its own name
pub KeepsBelow-point_named : (d : Draft) (name : List ℕ) (x y : ℤ) (kind : RawKind) (at : Place) (known : Kind) → IsTrue (may_stand d (point_item name x y kind)) → FitsSigned w128 x → FitsSigned w128 y
    → IsAt (Some (to_z w128 (of_z w128 x))) (Some (to_z w128 (of_z w128 y))) at → (kind_item kind ≡ raw_kind known) × IsKind known → IsName name → KeepsBelow d (point_item name x y kind) 6
KeepsBelow-point_named d name x y kind at known stands fits_x fits_y at_is kind_is is_name = KeepsBelow-point_name d name x y kind (KeepsBelow-point_read d name x y kind at known stands fits_x fits_y at_is kind_is) is_name

-- whether some of the builder's points was found at a place says whether some point stands at its coordinates
pub IsAt-where : (d e : Draft) (x y : ℤ) (at : Place) (points : List Point) (answer : Bool) → d ≡ e → points ≡ d.site.points → FitsSigned w128 x → FitsSigned w128 y
    → IsAt (Some (to_z w128 (of_z w128 x))) (Some (to_z w128 (of_z w128 y))) at → (IsTrue answer ↔ Any (λ p. IsAt (Some at.x) (Some at.y) p.at) points) → IsTrue answer ↔ Any (λ p. IsAt (Some x) (Some y) p.at) e.site.points
IsAt-where d e x y at points answer same read fits_x fits_y at_is says =
    let here = IsAt-passed x y at fits_x fits_y at_is in
    let points_are = read ∙ ap (λ (f : Draft). f.site.points) same in (
      λ t. Any-placed_same points e.site.points (Some at.x) (Some at.y) (Some x) (Some y) points_are (sym here.x_is) (sym here.y_is) (says.0 t),
      λ w. says.1 (Any-placed_same e.site.points points (Some x) (Some y) (Some at.x) (Some at.y) (sym points_are) here.x_is here.y_is w),
    )

-- a point whose name and place no other has, as was found, keeps each rule but those on counts
pub KeepsBelow-point_alone : (d e : Draft) (name : List ℕ) (x y : ℤ) (kind : RawKind) (at : Place) (points : List Point) (has_name has_place : Bool) → KeepsBelow e (point_item name x y kind) 6 → (IsTrue has_name ↔ HasNamed e name) → has_name ≡ false
    → d ≡ e → points ≡ d.site.points → FitsSigned w128 x → FitsSigned w128 y → IsAt (Some (to_z w128 (of_z w128 x))) (Some (to_z w128 (of_z w128 y))) at → (IsTrue has_place ↔ Any (λ p. IsAt (Some at.x) (Some at.y) p.at) points) → has_place ≡ false
    → KeepsBelow e (point_item name x y kind) 11
KeepsBelow-point_alone d e name x y kind at points has_name has_place kept named unnamed same read fits_x fits_y at_is placed unplaced =
    KeepsBelow-point_place e name x y kind (KeepsBelow-past e (point_item name x y kind) SameName kept (denied has_name named unnamed))
    (denied has_place (IsAt-where d e x y at points has_place same read fits_x fits_y at_is placed) unplaced)

-- ---- corners
-- whether a corner was found to enclose some of the builder's points says whether some point isn't outside the obstacle that is complete with it
IsInside-where : (d e : Draft) (corner : Place) (points : List Point) (answer : Bool) → d ≡ e → points ≡ d.site.points
    → (IsTrue answer ↔ ((d.missing ≡ 1) × Any (λ p. ¬ (IsOutside p.at (d.corners ++ corner ∷ []))) points)) → IsTrue answer ↔ IsInside e corner
IsInside-where d e corner points answer same read says =
    subst (λ (f : Draft). IsTrue answer ↔ IsInside f corner) same
    (subst (λ (ps : List Point). IsTrue answer ↔ ((d.missing ≡ 1) × Any (λ p. ¬ (IsOutside p.at (d.corners ++ corner ∷ []))) ps)) read says)

-- a corner that was found to enclose a point
pub IsFirstCode-enclosing : (d e : Draft) (x y : ℤ) (corner : Place) (points : List Point) (answer : Bool) → d ≡ e → IsTrue (may_stand e (ACorner (Some x) (Some y))) → FitsSigned w128 x → FitsSigned w128 y
    → IsAt (Some (to_z w128 (of_z w128 x))) (Some (to_z w128 (of_z w128 y))) corner → points ≡ d.site.points
    → (IsTrue answer ↔ ((d.missing ≡ 1) × Any (λ p. ¬ (IsOutside p.at (d.corners ++ corner ∷ []))) points)) → IsTrue answer → IsFirstCode e (ACorner (Some x) (Some y)) InObstacle
IsFirstCode-enclosing d e x y corner points answer same stands fits_x fits_y at_is read says holds =
    IsFirstCode-inside e x y corner stands (IsAt-passed x y corner fits_x fits_y at_is) ((IsInside-where d e corner points answer same read says).0 holds)

-- a corner that was found to enclose no point is good
pub IsGood-clear : (d e : Draft) (x y : ℤ) (corner : Place) (points : List Point) (answer : Bool) → d ≡ e → IsTrue (may_stand e (ACorner (Some x) (Some y))) → FitsSigned w128 x → FitsSigned w128 y
    → IsAt (Some (to_z w128 (of_z w128 x))) (Some (to_z w128 (of_z w128 y))) corner → points ≡ d.site.points
    → (IsTrue answer ↔ ((d.missing ≡ 1) × Any (λ p. ¬ (IsOutside p.at (d.corners ++ corner ∷ []))) points)) → answer ≡ false → IsGood e (ACorner (Some x) (Some y))
IsGood-clear d e x y corner points answer same stands fits_x fits_y at_is read says fails =
    IsGood-corner e x y corner stands (IsAt-passed x y corner fits_x fits_y at_is) (denied answer (IsInside-where d e corner points answer same read says) fails)

-- where a corner may stand, the builder misses some
pub missing_some : (d e : Draft) (x y : ℤ) → d ≡ e → IsTrue (may_stand e (ACorner (Some x) (Some y))) → 1 ≤ d.missing
missing_some d e x y same stands = subst (λ (f : Draft). 1 ≤ f.missing) (sym same) (some_missing e x y stands).1

-- ---- pair rules
-- a pair rule that may stand, in range and on two names, keeps each rule before that on unknown names
pub KeepsBelow-pair_read : (d : Draft) (a b : List ℕ) (amount : Option ℤ) (rule : PairRule) → IsTrue (may_stand d (pair_item a b amount)) → (rule_item amount ≡ raw_rule rule) × IsPairRule rule → IsName a → IsName b → KeepsBelow d (pair_item a b amount) 8
KeepsBelow-pair_read d a b amount rule stands rule_is first second = KeepsBelow-pair_names d a b amount (KeepsBelow-pair_ranges d a b amount rule stands rule_is.0 rule_is.1) first second

-- the number is one of a point of this name
abbrev pub IsNumber : Draft → List ℕ → ℕ → Type 0
IsNumber d name i = (i < length d.site.points) × (name_of d.site i ≡ name)

-- a pair rule on the names of points whose numbers were found keeps each rule before that on pairs
pub KeepsBelow-pair_found : (d : Draft) (a b : List ℕ) (amount : Option ℤ) (i j : ℕ) → KeepsBelow d (pair_item a b amount) 8 → IsNumber d a i → IsNumber d b j → KeepsBelow d (pair_item a b amount) 9
KeepsBelow-pair_found d a b amount i j kept first second =
    KeepsBelow-pair_known d a b amount kept (Any-named d.site.points a i first.0 first.1) (Any-named d.site.points b j second.0 second.1)

-- whether the builder's table was found to have a rule on two points says whether an earlier rule is on their names
pub IsOnNames-where : (d e : Draft) (corners_room obstacles_room : ℕ) (rules table : List (Option PairRule)) (names : List (List ℕ)) (a b : List ℕ) (i j : ℕ) (answer : Bool) → d ≡ e → IsBuilder d corners_room obstacles_room rules names
    → IsNumber e a i → IsNumber e b j → table ≡ rules → answer ≡ is_some (rule_in table i j) → IsTrue answer ↔ Any (IsOnNames e.site a b) e.site.pairs
IsOnNames-where d e corners_room obstacles_room rules table names a b i j answer same builder first second read answered =
    let here : IsBuilder e corners_room obstacles_room rules names = subst (λ (f : Draft). IsBuilder f corners_room obstacles_room rules names) same builder in
    let count = here.draft.points.count in
    let first_place : i < 256 = omega (arith, first.0, count) in
    let second_place : j < 256 = omega (arith, second.0, count) in
    let says = has_rule_where rules e.site.pairs i j here.table first_place second_place in
    let is = answered ∙ ap (λ (rs : List (Option PairRule)). is_some (rule_in rs i j)) read in (
      λ t. Any-joined_named e.site a b i j first.1 second.1 (says.0 (sym is ∙ t)),
      λ w. is ∙ says.1 (Any-named_joined e.site a b i j here.draft.points.names_differ here.draft.pairs.each first.0 second.0 first.1 second.1 w),
    )

-- a pair rule on two points whose names no earlier rule is on, as was found, is good
pub IsGood-unruled : (d e : Draft) (corners_room obstacles_room : ℕ) (rules table : List (Option PairRule)) (names : List (List ℕ)) (a b : List ℕ) (amount : Option ℤ) (i j : ℕ) (answer : Bool) → d ≡ e → IsBuilder d corners_room obstacles_room rules names
    → KeepsBelow e (pair_item a b amount) 9 → IsNumber e a i → IsNumber e b j → ¬ (i ≡ j) → table ≡ rules → answer ≡ is_some (rule_in table i j) → answer ≡ false → IsGood e (pair_item a b amount)
IsGood-unruled d e corners_room obstacles_room rules table names a b amount i j answer same builder kept first second differ read answered fails =
    let draft : IsDraft e = subst IsDraft same builder.draft in
    IsGood-pair e a b amount kept
    (λ taken. ⊎_elim
    (λ (alike : a ≡ b). differ (one_number e.site.points i j draft.points.names_differ first.0 second.0 (first.1 ∙ alike ∙ sym second.1)))
    (λ (ruled : Any (IsOnNames e.site a b) e.site.pairs). denied answer (IsOnNames-where d e corners_room obstacles_room rules table names a b i j answer same builder first second read answered) fails ruled)
    taken)
