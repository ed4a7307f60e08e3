-- How many lines the site so far has, and that a site has few.
use Rattle.std.proofs.Common.{◌≡◌, ◌≢◌, ℕ, zero, suc, ◌+◌, ◌≤◌, min, [], ◌∷◌, ◌++◌, length, ◌==◌, refl, sym, ap, subst, arith}
use Rattle.std.specs.Prelude.{nat_le, sum_by}
use Rattle.std.proofs.lemmas.Bool.{eqb-true, leb-true, and_parts}
use Rattle.std.proofs.lemmas.List.{length_push}
use Rattle.std.proofs.lemmas.List.Sums.{sum_by-append}
use Rattle.cable_definitions.specs.declared.place.Place.{Place}
use Rattle.cable_definitions.specs.Items.{Draft, RawItem, AVersion, AMode, AType, APoint, AnObstacle, ACorner, APair, TheEnd, Misshapen, Stray, Unended, Missing, Overlong, with_corner, is_settled, IsGood, Adds}
use Rattle.site_model.specs.Drafts.{IsDraft}
use Rattle.site_text.proofs.DraftSteps.{corner_stage, Tidy, stands, settled, some_stage, some_corner}
use Rattle.site_text.proofs.PairCount.{pair_count}

-- the lines of the version and the mode, of the lists, and of the obstacle that is open
abbrev pub lines_of : Draft → ℕ
lines_of d = min d.stage 2 + length d.site.types + length d.site.points + length d.site.obstacles + sum_by length d.site.obstacles + length d.corners + min d.missing 1 + length d.site.pairs

-- a further corner is a further line
corner_more : (d : Draft) (c : Place) (missing : ℕ) → d.missing ≡ missing → 1 ≤ missing → lines_of (with_corner d c missing) ≡ lines_of d + 1
corner_more d c zero m some = absurd (omega arith)
corner_more d c (suc zero) m some =
    omega (arith, length_push d.site.obstacles (d.corners ++ c ∷ []), sum_by-append length d.site.obstacles ((d.corners ++ c ∷ []) ∷ []), length_push d.corners c)
corner_more d c (suc (suc n)) m some = omega (arith, length_push d.corners c)

-- a good item before the end is a further line
pub lines_more : (d f : Draft) (item : RawItem) → IsDraft d → Tidy d → IsGood d item → Adds d item f → item ≢ TheEnd → lines_of f ≡ lines_of d + 1
lines_more d f (AVersion v) draft tidy good adds other =
    let stage = eqb-true d.stage 0 (stands d (AVersion v) good) in
    let P : Draft → Type 0 = λ g. lines_of g ≡ lines_of d + 1 in
    subst P (sym adds.2) (omega arith)
lines_more d f (AMode m) draft tidy good adds other =
    let stage = eqb-true d.stage 1 (stands d (AMode m) good) in
    let P : Draft → Type 0 = λ g. lines_of g ≡ lines_of d + 1 in
    subst P (sym adds.2) (omega arith)
lines_more d f (AType c p l) draft tidy good adds other =
    let P : Draft → Type 0 = λ g. lines_of g ≡ lines_of d + 1 in
    subst P (sym adds.4) (omega (arith, length_push d.site.types adds.0))
lines_more d f (APoint n x y k) draft tidy good adds other =
    let may = and_parts (is_settled d) (nat_le d.stage 3) (stands d (APoint n x y k) good) in
    let low = some_stage d draft may.0 in
    let P : Draft → Type 0 = λ g. lines_of g ≡ lines_of d + 1 in
    subst P (sym adds.4) (omega (arith, length_push d.site.points adds.0))
lines_more d f (AnObstacle k) draft tidy good adds other =
    let may = and_parts (is_settled d) (nat_le d.stage 4) (stands d (AnObstacle k) good) in
    let low = some_stage d draft may.0 in
    let none = settled d may.0 in
    let closed = ap length (tidy.closed none) in
    let some = some_corner d k adds.0 good adds.1 in
    let P : Draft → Type 0 = λ g. lines_of g ≡ lines_of d + 1 in
    subst P (sym adds.2) (omega arith)
lines_more d f (ACorner x y) draft tidy good adds other =
    let may = and_parts (d.stage == 4) (nat_le 1 d.missing) (stands d (ACorner x y) good) in
    let P : Draft → Type 0 = λ g. lines_of g ≡ lines_of d + 1 in
    subst P (sym adds.2) (corner_more d adds.0 d.missing refl (leb-true 1 d.missing may.1))
lines_more d f (APair a b r) draft tidy good adds other =
    let may = and_parts (is_settled d) (nat_le d.stage 5) (stands d (APair a b r) good) in
    let low = some_stage d draft may.0 in
    let P : Draft → Type 0 = λ g. lines_of g ≡ lines_of d + 1 in
    subst P (sym adds.6) (omega (arith, length_push d.site.pairs adds.0))
lines_more d f TheEnd draft tidy good adds other = absurd (other refl)
lines_more d f Misshapen draft tidy good adds other = absurd adds
lines_more d f Stray draft tidy good adds other = absurd adds
lines_more d f Unended draft tidy good adds other = absurd adds
lines_more d f Missing draft tidy good adds other = absurd adds
lines_more d f Overlong draft tidy good adds other = absurd adds

-- the site so far has few lines
pub lines_few : (d : Draft) → IsDraft d → lines_of d ≤ 33995
lines_few d draft =
    let t = draft.types.count in
    let p = draft.points.count in
    let o = draft.obstacles.count in
    let c = draft.obstacles.corners_count in
    omega (arith, pair_count d.site.points d.site.pairs draft.points.count draft.pairs.each draft.pairs.ruled_once)

-- a good item behind the mode leaves the version as it is, and stands behind the mode
pub record StaysBehind (d e : Draft) : Type 0 where
  pub version : d.site.version ≡ e.site.version
  pub begun : 2 ≤ e.stage

stays_behind : (d e f : Draft) → e ≡ f → d.site.version ≡ f.site.version → 2 ≤ f.stage → StaysBehind d e
stays_behind d e f is version begun = subst (StaysBehind d) (sym is) (record { version = version; begun = begun })

pub behind_mode : (d e : Draft) (item : RawItem) → 2 ≤ d.stage → IsGood d item → Adds d item e → StaysBehind d e
behind_mode d e (AVersion v) low good adds = let s = eqb-true d.stage 0 (stands d (AVersion v) good) in absurd (omega arith)
behind_mode d e (AMode m) low good adds = let s = eqb-true d.stage 1 (stands d (AMode m) good) in absurd (omega arith)
behind_mode d e (AType c p l) low good adds = stays_behind d e _ adds.4 refl low
behind_mode d e (APoint n x y k) low good adds = stays_behind d e _ adds.4 refl (omega arith)
behind_mode d e (AnObstacle k) low good adds = stays_behind d e _ adds.2 refl (omega arith)
behind_mode d e (ACorner x y) low good adds = stays_behind d e (with_corner d adds.0 d.missing) adds.2 (same adds.0 d.missing) (omega (arith, corner_stage d adds.0 d.missing))
  where
    same : (c : Place) (missing : ℕ) → d.site.version ≡ (with_corner d c missing).site.version
    same c zero = refl
    same c (suc zero) = refl
    same c (suc (suc n)) = refl
behind_mode d e (APair a b r) low good adds = stays_behind d e _ adds.6 refl (omega arith)
behind_mode d e TheEnd low good adds = stays_behind d e _ adds refl (omega arith)
behind_mode d e Misshapen low good adds = absurd adds
behind_mode d e Stray low good adds = absurd adds
behind_mode d e Unended low good adds = absurd adds
behind_mode d e Missing low good adds = absurd adds
behind_mode d e Overlong low good adds = absurd adds
