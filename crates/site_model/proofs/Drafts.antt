-- Good items keep the facts of a site so far, and a site that has ended is valid.
use Rattle.std.proofs.Common.{◌≡◌, ◌≢◌, ℕ, zero, suc, ◌+◌, ◌≤◌, ◌<◌, ◌⊎◌, inl, inr, ⊎_elim, ℤ, pos, List, [], ◌∷◌, ◌++◌, length, Bool, true, ◌&&◌, ◌==◌, Option, Some, IsTrue, refl, sym, ap, ◌∙◌, subst, arith, get_or, sum_by}
use Rattle.std.specs.Prelude.{All, Any, nat_le}
use Rattle.std.proofs.lemmas.Bool.{cases_lt, cases_eq, and_parts, or_cases, leb-true, eqb-true, true_from_ne_false}
use Rattle.std.proofs.lemmas.List.{get_or_default, length_push}
use Rattle.std.proofs.lemmas.List.Elements.{All-nil, All-push}
use Rattle.std.proofs.lemmas.List.Quantifiers.{all_pairs_push}
use Rattle.std.proofs.lemmas.List.Sums.{sum_by_push}
use Rattle.std.proofs.lemmas.Int.{ints}
use Rattle.cable_definitions.specs.declared.place.Place.{Place}
use Rattle.cable_definitions.specs.declared.site.Version.{Version}
use Rattle.cable_definitions.specs.declared.site.Mode.{Mode}
use Rattle.cable_definitions.specs.declared.site.Point.{Point}
use Rattle.cable_definitions.specs.declared.site.Kind.{Kind}
use Rattle.cable_definitions.specs.declared.site.Kind.TheVariants.{Turbine, Substation, Bend}
use Rattle.cable_definitions.specs.declared.site.CableType.{CableType}
use Rattle.cable_definitions.specs.declared.site.PairRule.{PairRule}
use Rattle.cable_definitions.specs.declared.site.PairRule.TheVariants.{Charge, Closed}
use Rattle.cable_definitions.specs.declared.site.Pair.{Pair}
use Rattle.cable_definitions.specs.declared.site.SiteCode.TheVariants.{Form, Range, BadName, SameName, SamePlace as Placed, SamePair, InObstacle, TooMany}
use Rattle.cable_definitions.specs.Naming.{IsName, is_name_byte}
use Rattle.cable_definitions.specs.Plane.{SamePlace, IsOutside}
use Rattle.cable_definitions.specs.Site.{Site, version_number, latest_version, IsCableType, IsKind, IsObstacle, IsPairRule, IsPair, joins, IsValid}
use Rattle.cable_definitions.specs.Text.{name_of}
use Rattle.cable_definitions.specs.Items.{RawItem, AVersion, AMode, AType, APoint, AnObstacle, ACorner, APair, TheEnd, Misshapen, Stray, Unended, Missing, Overlong, Draft, empty_draft, is_settled, may_stand, Field, within, fields_of, IsWithin, IsAt, raw_kind, raw_rule, IsOnNames, IsGood, Adds, with_corner}
use Rattle.site_model.specs.Drafts.{item_of_version, item_of_type, item_of_point, item_of_corner, item_of_pair, TypesFit, PointsFit, ObstaclesFit, PairsFit, StageFits, IsDraft, FitsVersion}

-- ---- facts that hold where they can't fail
-- a test that can't be false is true
stable_test : (b : Bool) → ¬ (¬ (IsTrue b)) → IsTrue b
stable_test b h = true_from_ne_false b (λ e. h (λ t. absurd (cc (e, t))))

-- an order that can't fail holds
stable_le : (m n : ℕ) → ¬ (¬ (m ≤ n)) → m ≤ n
stable_le m n h = ⊎_elim (λ (l : n < m). absurd (h (λ (k : m ≤ n). omega arith))) (λ (k : m ≤ n). k) (cases_lt n m)

-- an equation of numbers that can't fail holds
stable_eq : (m n : ℕ) → ¬ (¬ (m ≡ n)) → m ≡ n
stable_eq m n h = ⊎_elim (λ (e : m ≡ n). e) (λ (ne : ¬ (m ≡ n)). absurd (h ne)) (cases_eq m n)

-- bytes that can't fail to be a name are one
pub stable_name : (bytes : List ℕ) → ¬ (¬ (IsName bytes)) → IsName bytes
stable_name bytes h = record {
  not_empty = stable_le 1 (length bytes) (λ n. h (λ name. n name.not_empty));
  short = stable_le (length bytes) 16 (λ n. h (λ name. n name.short));
  spelled = λ k d l. stable_test (is_name_byte (get_or bytes k d)) (λ n. h (λ name. n (name.spelled k d l)));
}

-- a place that can't fail to be outside is outside
pub stable_outside : (p : Place) (corners : List Place) → ¬ (¬ (IsOutside p corners)) → IsOutside p corners
stable_outside p corners h = record {
  on_no_edge = λ k d l on. h (λ out. out.on_no_edge k d l on);
  even = stable_eq _ 0 (λ n. h (λ out. n out.even));
}

-- ---- what a good item says
-- a good item may stand
stands : (d : Draft) (item : RawItem) → IsGood d item → IsTrue (may_stand d item)
stands d item good = stable_test (may_stand d item) (good Form)

-- a number of a good item is in its range
in_range : (d : Draft) (item : RawItem) → IsGood d item → (k n least most : ℕ) → k < length (fields_of item) → get_or (fields_of item) k (within (Some (pos n)) (pos least) (pos most)) ≡ within (Some (pos n)) (pos least) (pos most) → (least ≤ n) × (n ≤ most)
in_range d item good k n least most l e =
    let f : Field = within (Some (pos n)) (pos least) (pos most) in
    let at : All IsWithin (fields_of item) → IsWithin f = λ all. subst IsWithin e (all k f l) in (
      stable_le least n (λ no_least. good Range (λ all. no_least (omega (arith, ints, (at all (pos n) refl).0)))),
      stable_le n most (λ no_most. good Range (λ all. no_most (omega (arith, ints, (at all (pos n) refl).1)))),
    )

-- an element of a list is some element
Any-at : {X : Type 0} (P : X → Type 0) (xs : List X) (k : ℕ) (d : X) → k < length xs → P (get_or xs k d) → Any P xs
Any-at P xs k d l h = (k, get_or xs k d, l, get_or_default xs k (get_or xs k d) d l, h)

-- some type stands, and no corner is missing
settled : (d : Draft) → IsTrue (is_settled d) → (1 ≤ length d.site.types) × (d.missing ≡ 0)
settled d h =
    let parts = and_parts _ _ h in
    (leb-true 1 (length d.site.types) parts.0, eqb-true d.missing 0 parts.1)

-- the same under a further test of the stage
settled_at : (d : Draft) (most : ℕ) → IsTrue (is_settled d && nat_le d.stage most) → (1 ≤ length d.site.types) × (d.missing ≡ 0) × (d.stage ≤ most)
settled_at d most h =
    let parts = and_parts _ _ h in
    let both = settled d parts.0 in
    (both.0, both.1, leb-true d.stage most parts.1)

-- ---- nothing was read yet
-- no item has broken a fact
pub IsDraft-empty : IsDraft empty_draft
IsDraft-empty = record {
  version = omega arith;
  types = record { count = omega arith; each = All-nil _ };
  points = record { count = omega arith; names = All-nil _; kinds = All-nil _; names_differ = λ i j d h l. absurd (omega arith); places_differ = λ i j d h l. absurd (omega arith) };
  obstacles = record { count = omega arith; each = All-nil _; corners_count = omega arith; outside = All-nil _; room = λ h. absurd (omega arith); enough = λ h. absurd (omega arith) };
  pairs = record { each = All-nil _; ruled_once = λ i j d h l. absurd (omega arith) };
  order = record { no_types = λ h. refl; some_types = λ h. absurd (omega arith); no_obstacles = λ h. refl; no_pairs = λ h. refl };
}

-- ---- each kind of item
-- types are in range in every version where there are none
TypesFit-none : (version other : Version) (types : List CableType) → types ≡ [] → TypesFit version types → TypesFit other types
TypesFit-none version other types none fit = record {
  count = fit.count;
  each = subst (λ (ts : List CableType). All (IsCableType other) ts) (sym none) (All-nil _);
}

-- a version
IsDraft-version : (d : Draft) (version : Version) → IsDraft d → IsGood d (item_of_version version) → IsDraft (record d { stage = 1; site = record d.site { version = version } })
IsDraft-version d version draft good =
    let first = eqb-true d.stage 0 (stands d (item_of_version version) good) in
    record {
      version = (in_range d (item_of_version version) good 0 (version_number version) 1 latest_version (omega arith) refl).1;
      types = TypesFit-none d.site.version version d.site.types (draft.order.no_types (omega arith)) draft.types;
      points = draft.points;
      obstacles = draft.obstacles;
      pairs = draft.pairs;
      order = record {
        no_types = λ h. draft.order.no_types (omega arith);
        some_types = λ h. absurd (omega arith);
        no_obstacles = λ h. draft.order.no_obstacles (omega arith);
        no_pairs = λ h. draft.order.no_pairs (omega arith);
      };
    }

-- a mode
IsDraft-mode : (d : Draft) (m : Option Mode) (mode : Mode) → IsDraft d → IsGood d (AMode m) → IsDraft (record d { stage = 2; site = record d.site { mode = mode } })
IsDraft-mode d m mode draft good =
    let second = eqb-true d.stage 1 (stands d (AMode m) good) in
    record {
      version = draft.version;
      types = draft.types;
      points = draft.points;
      obstacles = draft.obstacles;
      pairs = draft.pairs;
      order = record {
        no_types = λ h. absurd (omega arith);
        some_types = λ h. absurd (omega arith);
        no_obstacles = λ h. draft.order.no_obstacles (omega arith);
        no_pairs = λ h. draft.order.no_pairs (omega arith);
      };
    }

-- a cable type in range
IsCableType-good : (d : Draft) (t : CableType) → IsGood d (item_of_type t) → FitsVersion d (item_of_type t) → IsCableType d.site.version t
IsCableType-good d t good fits =
    let capacity = in_range d (item_of_type t) good 0 t.capacity 1 10000 (omega arith) refl in
    let price = in_range d (item_of_type t) good 1 t.price 0 1000000 (omega arith) refl in
    let loss = in_range d (item_of_type t) good 2 t.loss 0 100 (omega arith) refl in
    record {
      some_capacity = capacity.0;
      capacity = capacity.1;
      price = price.1;
      loss = loss.1;
      no_loss = λ one. let e = fits one in cc;
    }

-- a cable type
pub IsDraft-type : (d : Draft) (t : CableType) → IsDraft d → IsGood d (item_of_type t) → FitsVersion d (item_of_type t) → IsDraft (record d { site = record d.site { types = d.site.types ++ t ∷ [] } })
IsDraft-type d t draft good fits =
    let at = eqb-true d.stage 2 (stands d (item_of_type t) good) in
    let few : length d.site.types < 8 = ⊎_elim (λ (l : length d.site.types < 8). l) (λ (l : 8 ≤ length d.site.types). absurd (good TooMany l)) (cases_lt (length d.site.types) 8) in
    let more = length_push d.site.types t in
    record {
      version = draft.version;
      types = record { count = omega arith; each = All-push (IsCableType d.site.version) d.site.types t draft.types.each (IsCableType-good d t good fits) };
      points = draft.points;
      obstacles = draft.obstacles;
      pairs = draft.pairs;
      order = record {
        no_types = λ h. absurd (omega arith);
        some_types = λ h. absurd (omega arith);
        no_obstacles = λ h. draft.order.no_obstacles (omega arith);
        no_pairs = λ h. draft.order.no_pairs (omega arith);
      };
    }

-- a kind in range
IsKind-good : (d : Draft) (name : List ℕ) (x y : Option ℤ) (kind : Kind) → IsGood d (APoint name x y (raw_kind kind)) → IsKind kind
IsKind-good d name x y (Turbine power) good = in_range d (APoint name x y (raw_kind (Turbine power))) good 2 power 1 1000 (omega arith) refl
IsKind-good d name x y (Substation feeders power) good = (
  (in_range d (APoint name x y (raw_kind (Substation feeders power))) good 2 feeders 0 256 (omega arith) refl).1,
  (in_range d (APoint name x y (raw_kind (Substation feeders power))) good 3 power 0 300000 (omega arith) refl).1,
)
IsKind-good d name x y Bend good = tt

-- the points fit with a good one more
PointsFit-push : (d : Draft) (p : Point) → PointsFit d.site.points → IsGood d (item_of_point p) → PointsFit (d.site.points ++ p ∷ [])
PointsFit-push d p fit good =
    let points = d.site.points in
    let few : length points < 256 = ⊎_elim (λ (l : length points < 256). l) (λ (l : 256 ≤ length points). absurd (good TooMany l)) (cases_lt (length points) 256) in
    let more = length_push points p in
    record {
      count = omega arith;
      names = All-push (λ q. IsName q.name) points p fit.names (stable_name p.name (λ n. good BadName (λ all. n (all 0 p.name (omega arith)))));
      kinds = All-push (λ q. IsKind q.kind) points p fit.kinds (IsKind-good d p.name (Some p.at.x) (Some p.at.y) p.kind good);
      names_differ = all_pairs_push (λ q r. q.name ≢ r.name) points p fit.names_differ
          (λ k q l e. good SameName (Any-at (λ (r : Point). r.name ≡ p.name) points k q l e));
      places_differ = all_pairs_push (λ q r. ¬ (SamePlace q.at r.at)) points p fit.places_differ
          (λ k q l same. good Placed (Any-at (λ (r : Point). IsAt (Some p.at.x) (Some p.at.y) r.at) points k q l (record { x_is = ap Some (sym same.x); y_is = ap Some (sym same.y) })));
    }

-- obstacles fit with other points where there are none
ObstaclesFit-none : (points others : List Point) (obstacles : List (List Place)) (corners : List Place) (missing : ℕ) → obstacles ≡ [] → ObstaclesFit points obstacles corners missing → ObstaclesFit others obstacles corners missing
ObstaclesFit-none points others obstacles corners missing none fit = record {
  count = fit.count;
  each = fit.each;
  corners_count = fit.corners_count;
  outside = subst (λ (os : List (List Place)). All (λ o. All (λ p. IsOutside p.at o) others) os) (sym none) (All-nil _);
  room = fit.room;
  enough = fit.enough;
}

-- pair rules fit with other points where there are none
PairsFit-none : (points others : List Point) (pairs : List Pair) → pairs ≡ [] → PairsFit points pairs → PairsFit others pairs
PairsFit-none points others pairs none fit = record {
  each = subst (λ (ps : List Pair). All (IsPair others) ps) (sym none) (All-nil _);
  ruled_once = fit.ruled_once;
}

-- a point
pub IsDraft-point : (d : Draft) (p : Point) → IsDraft d → IsGood d (item_of_point p) → IsDraft (record d { stage = 3; site = record d.site { points = d.site.points ++ p ∷ [] } })
IsDraft-point d p draft good =
    let at = settled_at d 3 (stands d (item_of_point p) good) in
    record {
      version = draft.version;
      types = draft.types;
      points = PointsFit-push d p draft.points good;
      obstacles = ObstaclesFit-none d.site.points (d.site.points ++ p ∷ []) d.site.obstacles d.corners d.missing (draft.order.no_obstacles at.2) draft.obstacles;
      pairs = PairsFit-none d.site.points (d.site.points ++ p ∷ []) d.site.pairs (draft.order.no_pairs (omega (arith, at.2))) draft.pairs;
      order = record {
        no_types = λ h. absurd (omega arith);
        some_types = λ h. at.0;
        no_obstacles = λ h. draft.order.no_obstacles at.2;
        no_pairs = λ h. draft.order.no_pairs (omega (arith, at.2));
      };
    }

-- an obstacle whose corners are to come
pub IsDraft-obstacle : (d : Draft) (n : ℕ) → IsDraft d → IsGood d (AnObstacle (Some (pos n))) → IsDraft (record d { stage = 4; corners = []; missing = n })
IsDraft-obstacle d n draft good =
    let at = settled_at d 4 (stands d (AnObstacle (Some (pos n))) good) in
    let range = in_range d (AnObstacle (Some (pos n))) good 0 n 3 1024 (omega arith) refl in
    let few : length d.site.obstacles < 64 = ⊎_elim (λ (l : length d.site.obstacles < 64). l) (λ (l : 64 ≤ length d.site.obstacles). absurd (good TooMany (inl l))) (cases_lt (length d.site.obstacles) 64) in
    let room : sum_by length d.site.obstacles + n ≤ 1024 = stable_le _ 1024 (λ over. good TooMany (inr (pos n, refl, omega (arith, ints)))) in
    record {
      version = draft.version;
      types = draft.types;
      points = draft.points;
      obstacles = record {
        count = draft.obstacles.count;
        each = draft.obstacles.each;
        corners_count = omega arith;
        outside = draft.obstacles.outside;
        room = λ h. few;
        enough = λ h. omega (arith, range.0);
      };
      pairs = draft.pairs;
      order = record {
        no_types = λ h. absurd (omega arith);
        some_types = λ h. at.0;
        no_obstacles = λ h. absurd (omega arith);
        no_pairs = λ h. draft.order.no_pairs at.2;
      };
    }

-- the last corner of an obstacle, which is complete with it
ObstaclesFit-complete : (d : Draft) (corner : Place) → d.missing ≡ 1 → IsDraft d → IsGood d (item_of_corner corner) → ObstaclesFit d.site.points (d.site.obstacles ++ (d.corners ++ corner ∷ []) ∷ []) [] 0
ObstaclesFit-complete d corner last draft good =
    let old = draft.obstacles in
    let whole = d.corners ++ corner ∷ [] in
    let longer = length_push d.corners corner in
    let more = length_push d.site.obstacles whole in
    let sums = sum_by_push length d.site.obstacles whole in
    let room = old.room (omega arith) in
    let enough = old.enough (omega arith) in
    let count = old.corners_count in
    let is_obstacle : IsObstacle whole = record { at_least_three = omega arith; at_most = omega arith } in
    record {
      count = omega arith;
      each = All-push IsObstacle d.site.obstacles whole old.each is_obstacle;
      corners_count = omega arith;
      outside = All-push (λ o. All (λ p. IsOutside p.at o) d.site.points) d.site.obstacles whole old.outside
          (λ k q l. stable_outside (get_or d.site.points k q).at whole
          (λ n. good InObstacle (last, (corner, record { x_is = refl; y_is = refl }, Any-at (λ (p : Point). ¬ (IsOutside p.at whole)) d.site.points k q l n))));
      room = λ h. absurd (omega arith);
      enough = λ h. absurd (omega arith);
    }

-- a further corner of an obstacle
ObstaclesFit-more : (d : Draft) (corner : Place) (n : ℕ) → d.missing ≡ suc (suc n) → ObstaclesFit d.site.points d.site.obstacles d.corners d.missing → ObstaclesFit d.site.points d.site.obstacles (d.corners ++ corner ∷ []) (suc n)
ObstaclesFit-more d corner n more fit =
    let longer = length_push d.corners corner in
    let room = fit.room (omega arith) in
    let enough = fit.enough (omega arith) in
    let count = fit.corners_count in
    record {
      count = fit.count;
      each = fit.each;
      corners_count = omega arith;
      outside = fit.outside;
      room = λ h. room;
      enough = λ h. omega arith;
    }

-- a stage past the points, whichever complete obstacles there are
StageFits-obstacles : (stage : ℕ) (site other : Site) → stage ≡ 4 → other.types ≡ site.types → other.pairs ≡ site.pairs → StageFits stage site → StageFits stage other
StageFits-obstacles stage site other at types pairs fits = record {
  no_types = λ h. absurd (omega arith);
  some_types = λ h. subst (λ (ts : List CableType). 1 ≤ length ts) (sym types) (fits.some_types h);
  no_obstacles = λ h. absurd (omega arith);
  no_pairs = λ h. pairs ∙ fits.no_pairs h;
}

-- a corner, where this many are missing
pub IsDraft-corner : (d : Draft) (corner : Place) (missing : ℕ) → d.missing ≡ missing → IsDraft d → IsGood d (item_of_corner corner) → IsDraft (with_corner d corner missing)
IsDraft-corner d corner zero e draft good = draft
IsDraft-corner d corner (suc zero) e draft good = record {
  version = draft.version;
  types = draft.types;
  points = draft.points;
  obstacles = ObstaclesFit-complete d corner e draft good;
  pairs = draft.pairs;
  order = StageFits-obstacles d.stage d.site (record d.site { obstacles = d.site.obstacles ++ (d.corners ++ corner ∷ []) ∷ [] }) (eqb-true d.stage 4 (and_parts _ _ (stands d (item_of_corner corner) good)).0) refl refl draft.order;
}
IsDraft-corner d corner (suc (suc n)) e draft good = record {
  version = draft.version;
  types = draft.types;
  points = draft.points;
  obstacles = ObstaclesFit-more d corner n e draft.obstacles;
  pairs = draft.pairs;
  order = draft.order;
}

-- a rule in range
IsPairRule-good : (d : Draft) (a b : List ℕ) (rule : PairRule) → IsGood d (APair a b (raw_rule rule)) → IsPairRule rule
IsPairRule-good d a b (Charge amount) good = (in_range d (APair a b (raw_rule (Charge amount))) good 0 amount 0 1000000000000 (omega arith) refl).1
IsPairRule-good d a b Closed good = tt

-- a pair that joins two points is on them, in either order
pub joins_cases : (a b : ℕ) (p : Pair) → IsTrue (joins a b p) → ((p.a ≡ a) × (p.b ≡ b)) ⊎ ((p.a ≡ b) × (p.b ≡ a))
joins_cases a b p h =
    ⊎_elim (λ (t : ((p.a == a) && (p.b == b)) ≡ true). let both = and_parts _ _ t in inl (eqb-true p.a a both.0, eqb-true p.b b both.1))
    (λ (t : ((p.a == b) && (p.b == a)) ≡ true). let both = and_parts _ _ t in inr (eqb-true p.a b both.0, eqb-true p.b a both.1))
    (or_cases ((p.a == a) && (p.b == b)) ((p.a == b) && (p.b == a)) h)

-- a rule on the same points is on the same names
IsOnNames-joined : (s : Site) (p q : Pair) → IsTrue (joins q.a q.b p) → IsOnNames s (name_of s p.a) (name_of s p.b) q
IsOnNames-joined s p q h =
    ⊎_elim (λ (e : (p.a ≡ q.a) × (p.b ≡ q.b)). inl (ap (name_of s) (sym e.0), ap (name_of s) (sym e.1)))
    (λ (e : (p.a ≡ q.b) × (p.b ≡ q.a)). inr (ap (name_of s) (sym e.1), ap (name_of s) (sym e.0)))
    (joins_cases q.a q.b p h)

-- a pair rule
pub IsDraft-pair : (d : Draft) (p : Pair) → p.a < length d.site.points → p.b < length d.site.points → IsDraft d → IsGood d (item_of_pair d.site p) → IsDraft (record d { stage = 5; site = record d.site { pairs = d.site.pairs ++ p ∷ [] } })
IsDraft-pair d p first second draft good =
    let at = settled_at d 5 (stands d (item_of_pair d.site p) good) in
    let is_pair : IsPair d.site.points p = record {
      first = first;
      second = second;
      different = λ e. good SamePair (inl (ap (name_of d.site) e));
      rule = IsPairRule-good d (name_of d.site p.a) (name_of d.site p.b) p.rule good;
    } in
    record {
      version = draft.version;
      types = draft.types;
      points = draft.points;
      obstacles = draft.obstacles;
      pairs = record {
        each = All-push (IsPair d.site.points) d.site.pairs p draft.pairs.each is_pair;
        ruled_once = all_pairs_push (λ q r. ¬ IsTrue (joins q.a q.b r)) d.site.pairs p draft.pairs.ruled_once
            (λ k q l same. good SamePair (inr (Any-at (IsOnNames d.site (name_of d.site p.a) (name_of d.site p.b)) d.site.pairs k q l (IsOnNames-joined d.site p (get_or d.site.pairs k q) same))));
      };
      order = record {
        no_types = λ h. absurd (omega arith);
        some_types = λ h. at.0;
        no_obstacles = λ h. absurd (omega arith);
        no_pairs = λ h. absurd (omega arith);
      };
    }

-- the end of the site
IsDraft-end : (d : Draft) → IsDraft d → IsGood d TheEnd → IsDraft (record d { stage = 6 })
IsDraft-end d draft good =
    let at = settled_at d 5 (stands d TheEnd good) in
    record {
      version = draft.version;
      types = draft.types;
      points = draft.points;
      obstacles = draft.obstacles;
      pairs = draft.pairs;
      order = record {
        no_types = λ h. absurd (omega arith);
        some_types = λ h. at.0;
        no_obstacles = λ h. absurd (omega arith);
        no_pairs = λ h. absurd (omega arith);
      };
    }

-- ---- the laws
-- a good item keeps the facts of the site so far
pub IsDraft-adds : (d e : Draft) (item : RawItem) → IsDraft d → FitsVersion d item → IsGood d item → Adds d item e → IsDraft e
IsDraft-adds d e (AVersion v) draft fits good (version, said, becomes) =
    subst IsDraft (sym becomes) (IsDraft-version d version draft (subst (λ (i : RawItem). IsGood d i) (ap AVersion said) good))
IsDraft-adds d e (AMode m) draft fits good (mode, said, becomes) = subst IsDraft (sym becomes) (IsDraft-mode d m mode draft good)
IsDraft-adds d e (AType capacity price loss) draft fits good (t, c, p, l, becomes) =
    let same : AType capacity price loss ≡ item_of_type t = cc in
    subst IsDraft (sym becomes) (IsDraft-type d t draft (subst (λ (i : RawItem). IsGood d i) same good) (subst (λ (i : RawItem). FitsVersion d i) same fits))
IsDraft-adds d e (APoint name x y kind) draft fits good (p, named, at, standing, becomes) =
    let x_is = at.x_is in
    let y_is = at.y_is in
    let same : APoint name x y kind ≡ item_of_point p = cc in
    subst IsDraft (sym becomes) (IsDraft-point d p draft (subst (λ (i : RawItem). IsGood d i) same good))
IsDraft-adds d e (AnObstacle k) draft fits good (n, said, becomes) =
    subst IsDraft (sym becomes) (IsDraft-obstacle d n draft (subst (λ (i : RawItem). IsGood d i) (ap AnObstacle said) good))
IsDraft-adds d e (ACorner x y) draft fits good (corner, at, becomes) =
    let x_is = at.x_is in
    let y_is = at.y_is in
    let same : ACorner x y ≡ item_of_corner corner = cc in
    subst IsDraft (sym becomes) (IsDraft-corner d corner d.missing refl draft (subst (λ (i : RawItem). IsGood d i) same good))
IsDraft-adds d e (APair a b rule) draft fits good (p, first, second, first_name, second_name, ruled, becomes) =
    let same : APair a b rule ≡ item_of_pair d.site p = cc in
    subst IsDraft (sym becomes) (IsDraft-pair d p first second draft (subst (λ (i : RawItem). IsGood d i) same good))
IsDraft-adds d e TheEnd draft fits good becomes = subst IsDraft (sym becomes) (IsDraft-end d draft good)
IsDraft-adds d e Misshapen draft fits good adds = absurd adds
IsDraft-adds d e Stray draft fits good adds = absurd adds
IsDraft-adds d e Unended draft fits good adds = absurd adds
IsDraft-adds d e Missing draft fits good adds = absurd adds
IsDraft-adds d e Overlong draft fits good adds = absurd adds

-- a site with some type is valid
pub IsValid-draft : (d : Draft) → IsDraft d → 1 ≤ length d.site.types → IsValid d.site
IsValid-draft d draft some = record {
  version = draft.version;
  some_types = some;
  types_count = draft.types.count;
  types = draft.types.each;
  points_count = draft.points.count;
  names = draft.points.names;
  kinds = draft.points.kinds;
  names_differ = draft.points.names_differ;
  places_differ = draft.points.places_differ;
  obstacles_count = draft.obstacles.count;
  obstacles = draft.obstacles.each;
  corners_count = omega (arith, draft.obstacles.corners_count);
  outside = draft.obstacles.outside;
  pairs = draft.pairs.each;
  ruled_once = draft.pairs.ruled_once;
}

-- a site that has ended is valid
pub IsValid-ended : (d : Draft) → IsDraft d → d.stage ≡ 6 → IsValid d.site
IsValid-ended d draft ended = IsValid-draft d draft (draft.order.some_types (omega arith))

-- the site so far in the beginning, after the version and the mode
pub IsDraft-begins : (version : Version) (mode : Mode) → version_number version ≤ latest_version → IsDraft (record { stage = 2; site = record { version = version; mode = mode; types = []; points = []; obstacles = []; pairs = [] }; corners = []; missing = 0 })
IsDraft-begins version mode read = record {
  version = read;
  types = record { count = omega arith; each = All-nil _ };
  points = IsDraft-empty.points;
  obstacles = IsDraft-empty.obstacles;
  pairs = IsDraft-empty.pairs;
  order = record { no_types = λ h. refl; some_types = λ h. absurd (omega arith); no_obstacles = λ h. refl; no_pairs = λ h. refl };
}
