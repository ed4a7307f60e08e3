-- The lines of a valid site are a run of good items that leads to the site.
use Rattle.std.proofs.Common.{◌≡◌, ℕ, ◌≤◌, ◌<◌, inl, inr, ⊎_elim, pos, List, [], ◌∷◌, ◌++◌, length, map, sum_by, get_or, true, ◌==◌, refl, sym, ap, ◌∙◌, subst, append_assoc, arith, All, Option, Some, None, IsTrue, codes}
use Rattle.std.specs.Prelude.{nat_le, slice_get}
use Rattle.std.specs.List.{concat}
use Rattle.std.specs.Fmt.{decimal}
use Rattle.std.proofs.lemmas.Bool.{and_from, le-leb}
use Rattle.std.proofs.lemmas.List.{append-nil}
use Rattle.std.proofs.lemmas.List.Sums.{sum_by-append, sum_by-cons}
use Rattle.std.proofs.lemmas.Option.{slice_get_cases}
use Rattle.cable_definitions.specs.declared.place.Place.{Place}
use Rattle.cable_definitions.specs.declared.site.Point.{Point}
use Rattle.cable_definitions.specs.declared.site.CableType.{CableType}
use Rattle.cable_definitions.specs.declared.site.Pair.{Pair}
use Rattle.cable_definitions.specs.Naming.{IsName}
use Rattle.cable_definitions.specs.Plane.{SamePlace, IsOutside}
use Rattle.cable_definitions.specs.Site.{Site, IsCableType, IsKind, IsObstacle, IsPair, joins, IsValid}
use Rattle.cable_definitions.specs.Text.{line, site_line, mode_line, type_line, point_line, corner_line, obstacle_lines, pair_line, site_lines, name_from, name_of}
use Rattle.cable_definitions.specs.Items.{RawItem, AMode, AnObstacle, APair, TheEnd, raw_rule, Draft, empty_draft, is_settled, IsAt, IsOnNames, IsGood, Adds, ReadsItems}
use Rattle.site_model.specs.Drafts.{item_of_version, item_of_type, item_of_point, item_of_corner}
use Rattle.site_model.proofs.Names.{Any-named}
use Rattle.site_model.proofs.Pairs.{one_number, joins_from}
use Rattle.site_laws.proofs.Says.{Says, item_in_front, version_says, mode_says, type_says, point_says, obstacle_says, corner_says, pair_says, end_says}
use Rattle.site_laws.proofs.Goods.{good_version, good_mode, good_type, good_point, good_obstacle, good_corner, good_pair, good_end}
use Rattle.site_laws.proofs.Middles.{room, middle, before, before_it}

-- ---- runs
-- the front of the bytes is a run of good items that leads from d to e, and this is left
pub record Run (d : Draft) (bytes : List ℕ) (e : Draft) (rest : List ℕ) : Type 0 where
  pub items : List RawItem
  pub reads : ReadsItems d bytes items e rest

-- nothing is read
no_run : (d e : Draft) (bytes rest : List ℕ) → d ≡ e → bytes ≡ rest → Run d bytes e rest
no_run d e bytes rest h k = record { items = []; reads = (sym h, sym k) }

-- one item more at the front
step : (d e f : Draft) (text rest bytes left : List ℕ) (item : RawItem) → Says d.site.version text item → bytes ≡ text ++ rest → IsGood d item → Adds d item e → Run e rest f left → Run d bytes f left
step d e f text rest bytes left item says same good adds further = record {
  items = item ∷ further.items;
  reads = (e, rest, item_in_front d.site.version text rest bytes item says same, good, adds, further.reads);
}

-- one run behind another
onward : (items others : List RawItem) (d e f : Draft) (bytes mid rest : List ℕ) → ReadsItems d bytes items e mid → ReadsItems e mid others f rest → ReadsItems d bytes (items ++ others) f rest
onward [] others d e f bytes mid rest h k =
    let P : Draft → Type 0 = λ g. ReadsItems g mid others f rest in
    let Q : List ℕ → Type 0 = λ b. ReadsItems d b others f rest in
    subst Q h.1 (subst P h.0 k)
onward (item ∷ items) others d e f bytes mid rest h k = (h.0, h.1, h.2, h.3, h.4, onward items others h.0 e f h.1 mid rest h.5 k)

joined : (d e f : Draft) (bytes mid rest : List ℕ) → Run d bytes e mid → Run e mid f rest → Run d bytes f rest
joined d e f bytes mid rest h k = record { items = h.items ++ k.items; reads = onward h.items k.items d e f bytes mid rest h.reads k.reads }

-- ---- sites so far
-- no obstacle is open
abbrev pub begun : ℕ → Site → Draft
begun stage site = record { stage = stage; site = site; corners = []; missing = 0 }

-- the site with some of its types, and nothing behind them
abbrev with_types : Site → List CableType → Site
with_types s types = record s { types = types; points = []; obstacles = []; pairs = [] }

abbrev with_points : Site → List Point → Site
with_points s points = record s { points = points; obstacles = []; pairs = [] }

abbrev with_obstacles : Site → List (List Place) → Site
with_obstacles s obstacles = record s { obstacles = obstacles; pairs = [] }

abbrev with_pairs : Site → List Pair → Site
with_pairs s pairs = record s { pairs = pairs }

-- a run to a site at some stage
record Reaches (d : Draft) (bytes : List ℕ) (site : Site) (most : ℕ) (rest : List ℕ) : Type 0 where
  stage : ℕ
  low : stage ≤ most
  run : Run d bytes (begun stage site) rest

-- some type stands, and no obstacle is open
settled_at : (stage : ℕ) (site : Site) → 1 ≤ length site.types → is_settled (begun stage site) ≡ true
settled_at stage site h = and_from (nat_le 1 (length site.types)) (0 == 0) (le-leb 1 (length site.types) h) refl

-- ---- types
types_run : (s : Site) (done todo : List CableType) (rest : List ℕ) → IsValid s → s.types ≡ done ++ todo → Run (begun 2 (with_types s done)) (concat (map (type_line s.version) todo) ++ rest) (begun 2 (with_types s s.types)) rest
types_run s done [] rest valid e =
    let F : List CableType → Draft = λ ts. begun 2 (with_types s ts) in
    no_run (F done) (F s.types) rest rest (ap F (sym (append-nil done) ∙ sym e)) refl
types_run s done (t ∷ ts) rest valid e =
    let F : List CableType → Draft = λ us. begun 2 (with_types s us) in
    let fits = middle (IsCableType s.version) s.types done ts t e valid.types in
    let few : length done < 8 = (let r = room s.types done ts t e in let c = valid.types_count in omega arith) in
    step (F done) (F (done ++ t ∷ [])) (F s.types) (type_line s.version t) (concat (map (type_line s.version) ts) ++ rest) (concat (map (type_line s.version) (t ∷ ts)) ++ rest) rest (item_of_type t) (type_says s.version t fits)
    (append_assoc (type_line s.version t) (concat (map (type_line s.version) ts)) rest) (good_type (F done) s.version t refl fits few) (t, refl, refl, refl, refl)
    (types_run s (done ++ t ∷ []) ts rest valid (e ∙ sym (append_assoc done (t ∷ []) ts)))

-- ---- points
points_run : (s : Site) (stage : ℕ) (done todo : List Point) (rest : List ℕ) → IsValid s → stage ≤ 3 → s.points ≡ done ++ todo
    → Reaches (begun stage (with_points s done)) (concat (map point_line todo) ++ rest) (with_points s s.points) 3 rest
points_run s stage done [] rest valid low e =
    let F : List Point → Draft = λ ps. begun stage (with_points s ps) in
    record { stage = stage; low = low; run = no_run (F done) (F s.points) rest rest (ap F (sym (append-nil done) ∙ sym e)) refl }
points_run s stage done (p ∷ ps) rest valid low e =
    let d : Draft = begun stage (with_points s done) in
    let name = middle (λ q. IsName q.name) s.points done ps p e valid.names in
    let kind = middle (λ q. IsKind q.kind) s.points done ps p e valid.kinds in
    let later = points_run s 3 (done ++ p ∷ []) ps rest valid (omega arith) (e ∙ sym (append_assoc done (p ∷ []) ps)) in
    let good = good_point d p (record {
      stands = and_from (is_settled d) (nat_le stage 3) (settled_at stage (with_points s done) valid.some_types) (le-leb stage 3 low);
      name = name;
      kind = kind;
      new_name = λ (k, q, l, g, h). before_it (λ a b. a.name ≡ b.name → ⊥) s.points done ps p e valid.names_differ k q l g h;
      new_place = λ (k, q, l, g, h). before_it (λ a b. SamePlace a.at b.at → ⊥) s.points done ps p e valid.places_differ k q l g (same_place p.at q.at h);
      few = let r = room s.points done ps p e in let c = valid.points_count in omega arith;
    }) in
    record {
      stage = later.stage;
      low = later.low;
      run = step d (begun 3 (with_points s (done ++ p ∷ []))) (begun later.stage (with_points s s.points)) (point_line p) (concat (map point_line ps) ++ rest) (concat (map point_line (p ∷ ps)) ++ rest) rest (item_of_point p)
          (point_says s.version p.name p.at p.kind name kind) (append_assoc (point_line p) (concat (map point_line ps)) rest) good (p, refl, record { x_is = refl; y_is = refl }, refl, refl) later.run;
    }
  where
    same_place : (a b : Place) → IsAt (Some a.x) (Some a.y) b → SamePlace b a
    same_place a b at = let x = at.x_is in let y = at.y_is in record { x = cc; y = cc }

-- ---- obstacles
-- inside of an obstacle, of which these corners are to come
abbrev inside : Site → List (List Place) → List Place → List Place → Draft
inside s done corners more = record { stage = 4; site = with_obstacles s done; corners = corners; missing = length more }

corners_run : (s : Site) (done after : List (List Place)) (o corners : List Place) (c : Place) (more : List Place) (rest : List ℕ) → IsValid s → s.obstacles ≡ done ++ o ∷ after → o ≡ corners ++ c ∷ more
    → Run (inside s done corners (c ∷ more)) (concat (map corner_line (c ∷ more)) ++ rest) (begun 4 (with_obstacles s (done ++ o ∷ []))) rest
corners_run s done after o corners c [] rest valid e f =
    let F : List Place → Draft = λ p. begun 4 (with_obstacles s (done ++ p ∷ [])) in
    let out = middle (λ p. All (λ q. IsOutside q.at p) s.points) s.obstacles done after o e valid.outside in
    let P : List Place → Type 0 = λ p. All (λ q. IsOutside q.at p) s.points in
    step (inside s done corners (c ∷ [])) (F (corners ++ c ∷ [])) (F o) (corner_line c) rest (concat (map corner_line (c ∷ [])) ++ rest) rest (item_of_corner c) (corner_says s.version c)
    (ap (λ t. t ++ rest) (append-nil (corner_line c))) (good_corner (inside s done corners (c ∷ [])) c refl (λ last. subst P f out)) (c, record { x_is = refl; y_is = refl }, refl) (no_run (F (corners ++ c ∷ [])) (F o) rest rest (ap F (sym f)) refl)
corners_run s done after o corners c (b ∷ more) rest valid e f =
    let d : Draft = inside s done corners (c ∷ b ∷ more) in
    step d (inside s done (corners ++ c ∷ []) (b ∷ more)) (begun 4 (with_obstacles s (done ++ o ∷ []))) (corner_line c) (concat (map corner_line (b ∷ more)) ++ rest) (concat (map corner_line (c ∷ b ∷ more)) ++ rest) rest (item_of_corner c)
    (corner_says s.version c) (append_assoc (corner_line c) (concat (map corner_line (b ∷ more))) rest) (good_corner d c (le-leb 1 (length (c ∷ b ∷ more)) (omega arith)) (λ last. absurd (omega (arith, last)))) (c, record { x_is = refl; y_is = refl }, refl)
    (corners_run s done after o (corners ++ c ∷ []) b more rest valid e (f ∙ sym (append_assoc corners (c ∷ []) (b ∷ more))))

-- one obstacle
obstacle_run : (s : Site) (stage : ℕ) (done after : List (List Place)) (o : List Place) (rest : List ℕ) → IsValid s → stage ≤ 4 → s.obstacles ≡ done ++ o ∷ after
    → Run (begun stage (with_obstacles s done)) (obstacle_lines o ++ rest) (begun 4 (with_obstacles s (done ++ o ∷ []))) rest
obstacle_run s stage done after [] rest valid low e = let h = middle IsObstacle s.obstacles done after [] e valid.obstacles in absurd (let k = h.at_least_three in omega arith)
obstacle_run s stage done after (c ∷ more) rest valid low e =
    let o : List Place = c ∷ more in
    let h = middle IsObstacle s.obstacles done after o e valid.obstacles in
    let d : Draft = begun stage (with_obstacles s done) in
    let first : List ℕ = line (codes "obstacle" ∷ decimal (length o) ∷ []) in
    let good = good_obstacle d (length o) (record {
      stands = and_from (is_settled d) (nat_le stage 4) (settled_at stage (with_obstacles s done) valid.some_types) (le-leb stage 4 low);
      some = h.at_least_three;
      most = h.at_most;
      few = let r = room s.obstacles done after o e in let k = valid.obstacles_count in omega arith;
      corners = let k = valid.corners_count in omega (arith, ap (sum_by length) e, sum_by-append length done (o ∷ after), sum_by-cons length o after);
    }) in
    step d (inside s done [] o) (begun 4 (with_obstacles s (done ++ o ∷ []))) first (concat (map corner_line o) ++ rest) (obstacle_lines o ++ rest) rest (AnObstacle (Some (pos (length o)))) (obstacle_says s.version (length o) h.at_most)
    (append_assoc first (concat (map corner_line o)) rest) good (length o, refl, refl) (corners_run s done after o [] c more rest valid e refl)

obstacles_run : (s : Site) (stage : ℕ) (done todo : List (List Place)) (rest : List ℕ) → IsValid s → stage ≤ 4 → s.obstacles ≡ done ++ todo
    → Reaches (begun stage (with_obstacles s done)) (concat (map obstacle_lines todo) ++ rest) (with_obstacles s s.obstacles) 4 rest
obstacles_run s stage done [] rest valid low e =
    let F : List (List Place) → Draft = λ os. begun stage (with_obstacles s os) in
    record { stage = stage; low = low; run = no_run (F done) (F s.obstacles) rest rest (ap F (sym (append-nil done) ∙ sym e)) refl }
obstacles_run s stage done (o ∷ os) rest valid low e =
    let later = obstacles_run s 4 (done ++ o ∷ []) os rest valid (omega arith) (e ∙ sym (append_assoc done (o ∷ []) os)) in
    let here = obstacle_run s stage done os o (concat (map obstacle_lines os) ++ rest) valid low e in
    let P : List ℕ → Type 0 = λ b. Run (begun stage (with_obstacles s done)) b (begun later.stage (with_obstacles s s.obstacles)) rest in
    record {
      stage = later.stage;
      low = later.low;
      run = subst P (sym (append_assoc (obstacle_lines o) (concat (map obstacle_lines os)) rest))
          (joined (begun stage (with_obstacles s done)) (begun 4 (with_obstacles s (done ++ o ∷ []))) (begun later.stage (with_obstacles s s.obstacles)) (obstacle_lines o ++ (concat (map obstacle_lines os) ++ rest))
          (concat (map obstacle_lines os) ++ rest) rest here later.run);
    }

-- ---- pair rules
-- a point's name is one
name_known : (points : List Point) (k : ℕ) → k < length points → All (λ p. IsName p.name) points → IsName (name_from (slice_get points k))
name_known points k l all =
    let N : Option Point → Type 0 = λ o. IsName (name_from o) in
    ⊎_elim
    (λ (w : (x : Point) × (k < length points) × (slice_get points k ≡ Some x) × (get_or points k x ≡ x)).
    let Q : Point → Type 0 = λ q. IsName q.name in subst N (sym w.2) (subst Q w.3 (all k w.0 l)))
    (λ (w : (length points ≤ k) × (slice_get points k ≡ None)). absurd (omega (arith, w.0)))
    (slice_get_cases points k).1

-- a rule on the same two points joins them
rules_join : (s : Site) (p q : Pair) → IsValid s → IsPair s.points p → IsPair s.points q → IsOnNames s (name_of s p.a) (name_of s p.b) q → IsTrue (joins q.a q.b p)
rules_join s p q valid h k (inl (a, b)) = joins_from q.a q.b p (inl (one_number s.points p.a q.a valid.names_differ h.first k.first (sym a), one_number s.points p.b q.b valid.names_differ h.second k.second (sym b)))
rules_join s p q valid h k (inr (a, b)) = joins_from q.a q.b p (inr (one_number s.points p.a q.b valid.names_differ h.first k.second (sym b), one_number s.points p.b q.a valid.names_differ h.second k.first (sym a)))

pairs_run : (s : Site) (stage : ℕ) (done todo : List Pair) (rest : List ℕ) → IsValid s → stage ≤ 5 → s.pairs ≡ done ++ todo → Reaches (begun stage (with_pairs s done)) (concat (map (pair_line s) todo) ++ rest) s 5 rest
pairs_run s stage done [] rest valid low e =
    let F : List Pair → Draft = λ ps. begun stage (with_pairs s ps) in
    record { stage = stage; low = low; run = no_run (F done) (F s.pairs) rest rest (ap F (sym (append-nil done) ∙ sym e)) refl }
pairs_run s stage done (p ∷ ps) rest valid low e =
    let d : Draft = begun stage (with_pairs s done) in
    let kept = middle (IsPair s.points) s.pairs done ps p e valid.pairs in
    let first = name_known s.points p.a kept.first valid.names in
    let second = name_known s.points p.b kept.second valid.names in
    let later = pairs_run s 5 (done ++ p ∷ []) ps rest valid (omega arith) (e ∙ sym (append_assoc done (p ∷ []) ps)) in
    let good = good_pair d (name_of s p.a) (name_of s p.b) p.rule (record {
      stands = and_from (is_settled d) (nat_le stage 5) (settled_at stage (with_pairs s done) valid.some_types) (le-leb stage 5 low);
      fits = kept.rule;
      first = first;
      second = second;
      knows_first = Any-named s.points (name_of s p.a) p.a kept.first refl;
      knows_second = Any-named s.points (name_of s p.b) p.b kept.second refl;
      differ = λ same. kept.different (one_number s.points p.a p.b valid.names_differ kept.first kept.second same);
      new_pair = λ (k, q, l, g, on).
          before_it (λ a b. IsTrue (joins a.a a.b b) → ⊥) s.pairs done ps p e valid.ruled_once k q l g (rules_join s p q valid kept (before (IsPair s.points) s.pairs done ps p e valid.pairs k q l g) on);
    }) in
    record {
      stage = later.stage;
      low = later.low;
      run = step d (begun 5 (with_pairs s (done ++ p ∷ []))) (begun later.stage s) (pair_line s p) (concat (map (pair_line s) ps) ++ rest) (concat (map (pair_line s) (p ∷ ps)) ++ rest) rest
          (APair (name_of s p.a) (name_of s p.b) (raw_rule p.rule)) (pair_says s.version (name_of s p.a) (name_of s p.b) p.rule first second kept.rule) (append_assoc (pair_line s p) (concat (map (pair_line s) ps)) rest) good
          (p, kept.first, kept.second, refl, refl, refl, refl) later.run;
    }

-- ---- the whole site
-- a site that has ended
abbrev closed : ℕ → Site → Draft
closed stage s = record (begun stage s) { stage = 6 }

end_run : (s : Site) (stage : ℕ) (rest : List ℕ) → IsValid s → stage ≤ 5 → Run (begun stage s) (line (codes "end" ∷ codes "site" ∷ []) ++ rest) (closed stage s) rest
end_run s stage rest valid low =
    let d : Draft = begun stage s in
    step d (closed stage s) (closed stage s) (line (codes "end" ∷ codes "site" ∷ [])) rest (line (codes "end" ∷ codes "site" ∷ []) ++ rest) rest TheEnd (end_says s.version) refl
    (good_end d (and_from (is_settled d) (nat_le stage 5) (settled_at stage s valid.some_types) (le-leb stage 5 low))) refl (no_run (closed stage s) (closed stage s) rest rest refl refl)

-- the lines of a site regrouped
regroup : (a b t p o r e rest : List ℕ) → (a ++ b ++ t ++ p ++ o ++ r ++ e) ++ rest ≡ a ++ (b ++ (t ++ (p ++ (o ++ (r ++ (e ++ rest))))))
regroup a b t p o r e rest = simp append_assoc

-- the version and the mode, and then what follows
head_run : (s : Site) (mid rest bytes : List ℕ) (e : Draft) → IsValid s → bytes ≡ site_line s.version ++ (mode_line s.mode ++ mid) → Run (begun 2 (with_types s [])) mid e rest → Run empty_draft bytes e rest
head_run s mid rest bytes e valid same further =
    let one : Draft = record empty_draft { stage = 1; site = record empty_draft.site { version = s.version } } in
    step empty_draft one e (site_line s.version) (mode_line s.mode ++ mid) bytes rest (item_of_version s.version) (version_says empty_draft.site.version s.version) same (good_version empty_draft s.version refl valid.version) (s.version, refl, refl)
    (step one (begun 2 (with_types s [])) e (mode_line s.mode) mid (mode_line s.mode ++ mid) rest (AMode (Some s.mode)) (mode_says s.version s.mode) refl (good_mode one s.mode refl) (s.mode, refl, refl) further)

-- a run to the end of the site
pub record WholeRun (s : Site) (rest : List ℕ) : Type 0 where
  pub stage : ℕ
  pub run : Run empty_draft (site_lines s ++ rest) (record (begun stage s) { stage = 6 }) rest

pub site_run : (s : Site) (rest : List ℕ) → IsValid s → WholeRun s rest
site_run s rest valid =
    let last : List ℕ = line (codes "end" ∷ codes "site" ∷ []) in
    let in_pairs : List ℕ = concat (map (pair_line s) s.pairs) ++ (last ++ rest) in
    let in_obstacles : List ℕ = concat (map obstacle_lines s.obstacles) ++ in_pairs in
    let in_points : List ℕ = concat (map point_line s.points) ++ in_obstacles in
    let in_types : List ℕ = concat (map (type_line s.version) s.types) ++ in_points in
    let types = types_run s [] s.types in_points valid refl in
    let points = points_run s 2 [] s.points in_obstacles valid (omega arith) refl in
    let obstacles = obstacles_run s points.stage [] s.obstacles in_pairs valid (let l = points.low in omega arith) refl in
    let pairs = pairs_run s obstacles.stage [] s.pairs (last ++ rest) valid (let l = obstacles.low in omega arith) refl in
    let end = end_run s pairs.stage rest valid pairs.low in
    let done : Draft = closed pairs.stage s in
    let from_pairs = joined (begun obstacles.stage (with_obstacles s s.obstacles)) (begun pairs.stage s) done in_pairs (last ++ rest) rest pairs.run end in
    let from_obstacles = joined (begun points.stage (with_points s s.points)) (begun obstacles.stage (with_obstacles s s.obstacles)) done in_obstacles in_pairs rest obstacles.run from_pairs in
    let from_points = joined (begun 2 (with_types s s.types)) (begun points.stage (with_points s s.points)) done in_points in_obstacles rest points.run from_obstacles in
    let from_types = joined (begun 2 (with_types s [])) (begun 2 (with_types s s.types)) done in_types in_points rest types from_points in
    record {
      stage = pairs.stage;
      run = head_run s in_types rest (site_lines s ++ rest) done valid
          (regroup (site_line s.version) (mode_line s.mode) (concat (map (type_line s.version) s.types)) (concat (map point_line s.points)) (concat (map obstacle_lines s.obstacles)) (concat (map (pair_line s) s.pairs)) last rest) from_types;
    }
