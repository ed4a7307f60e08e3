-- The text of a site so far, and that the line of each good item goes on with it.
use Rattle.std.proofs.Common.{◌≡◌, ℕ, zero, suc, ◌+◌, ◌≤◌, List, [], ◌∷◌, ◌++◌, length, map, refl, sym, ap, ◌∙◌, append_assoc, arith, codes}
use Rattle.std.proofs.lemmas.List.{append-nil, length-append}
use Rattle.std.specs.List.{concat}
use Rattle.std.specs.Fmt.{decimal}
use Rattle.cable_definitions.specs.declared.place.Place.{Place}
use Rattle.cable_definitions.specs.declared.site.Point.{Point}
use Rattle.cable_definitions.specs.declared.site.CableType.{CableType}
use Rattle.cable_definitions.specs.declared.site.Pair.{Pair}
use Rattle.cable_definitions.specs.Site.{Site}
use Rattle.cable_definitions.specs.Text.{line, site_line, mode_line, type_line, point_line, corner_line, obstacle_lines, pair_line}
use Rattle.cable_definitions.specs.Items.{Draft}

-- the lines of an obstacle that lacks corners
abbrev pub open_text : List Place → ℕ → List ℕ
open_text corners zero = []
open_text corners (suc n) = line (codes "obstacle" ∷ decimal (length corners + suc n) ∷ []) ++ concat (map corner_line corners)

-- the lines behind the mode
abbrev pub body : Site → List Place → ℕ → List ℕ
body s corners missing =
    concat (map (type_line s.version) s.types) ++ (concat (map point_line s.points) ++ (concat (map obstacle_lines s.obstacles) ++ (open_text corners missing ++ concat (map (pair_line s) s.pairs))))

-- the lines so far, at a stage
abbrev pub text_at : ℕ → Draft → List ℕ
text_at zero d = []
text_at (suc zero) d = site_line d.site.version
text_at (suc (suc n)) d = site_line d.site.version ++ (mode_line d.site.mode ++ body d.site d.corners d.missing)

-- the lines so far
abbrev pub text_so_far : Draft → List ℕ
text_so_far d = text_at d.stage d

-- the lines behind the mode come after it
pub text_behind : (n : ℕ) (d : Draft) → 2 ≤ n → text_at n d ≡ site_line d.site.version ++ (mode_line d.site.mode ++ body d.site d.corners d.missing)
text_behind zero d h = absurd (omega arith)
text_behind (suc zero) d h = absurd (omega arith)
text_behind (suc (suc n)) d h = refl

-- what a list writes with one more
pub concat_push : {X : Type 0} (f : X → List ℕ) (xs : List X) (x : X) → concat (map f (xs ++ x ∷ [])) ≡ concat (map f xs) ++ f x
concat_push f [] x = append-nil (f x)
concat_push f (y ∷ ys) x = ap (λ l. f y ++ l) (concat_push f ys x) ∙ sym (append_assoc (f y) (concat (map f ys)) (f x))

-- five texts, of which one grows and the later ones are empty
grow_first : (a x : List ℕ) → (a ++ x) ++ ([] ++ ([] ++ ([] ++ []))) ≡ (a ++ ([] ++ ([] ++ ([] ++ [])))) ++ x
grow_first a x = simp (append-nil, append_assoc)

grow_second : (a b x : List ℕ) → a ++ ((b ++ x) ++ ([] ++ ([] ++ []))) ≡ (a ++ (b ++ ([] ++ ([] ++ [])))) ++ x
grow_second a b x = simp (append-nil, append_assoc)

grow_open : (a b c x : List ℕ) → a ++ (b ++ (c ++ (x ++ []))) ≡ (a ++ (b ++ (c ++ ([] ++ [])))) ++ x
grow_open a b c x = simp (append-nil, append_assoc)

grow_fourth : (a b c d x : List ℕ) → a ++ (b ++ (c ++ ((d ++ x) ++ []))) ≡ (a ++ (b ++ (c ++ (d ++ [])))) ++ x
grow_fourth a b c d x = simp (append-nil, append_assoc)

grow_closed : (a b c d x : List ℕ) → a ++ (b ++ ((c ++ (d ++ x)) ++ ([] ++ []))) ≡ (a ++ (b ++ (c ++ (d ++ [])))) ++ x
grow_closed a b c d x = simp (append-nil, append_assoc)

grow_last : (a b c d e x : List ℕ) → a ++ (b ++ (c ++ (d ++ (e ++ x)))) ≡ (a ++ (b ++ (c ++ (d ++ e)))) ++ x
grow_last a b c d e x = simp append_assoc

-- a further type, where no points, obstacles and pair rules stand
pub type_grows : (s : Site) (t : CableType) → s.points ≡ [] → s.obstacles ≡ [] → s.pairs ≡ [] → body (record s { types = s.types ++ t ∷ [] }) [] 0 ≡ body s [] 0 ++ type_line s.version t
type_grows s t p o r = rw (p, o, r, concat_push (type_line s.version) s.types t) (grow_first (concat (map (type_line s.version) s.types)) (type_line s.version t))

-- a further point, where no obstacles and pair rules stand
pub point_grows : (s : Site) (p : Point) → s.obstacles ≡ [] → s.pairs ≡ [] → body (record s { points = s.points ++ p ∷ [] }) [] 0 ≡ body s [] 0 ++ point_line p
point_grows s p o r = rw (o, r, concat_push point_line s.points p) (grow_second (concat (map (type_line s.version) s.types)) (concat (map point_line s.points)) (point_line p))

-- an obstacle begins, where no pair rules stand
pub obstacle_grows : (s : Site) (n : ℕ) → s.pairs ≡ [] → body s [] (suc n) ≡ body s [] 0 ++ line (codes "obstacle" ∷ decimal (suc n) ∷ [])
obstacle_grows s n r =
    let zero_more : length {A = Place} [] + suc n ≡ suc n = omega arith in
    rw (r, zero_more) (ap (λ l. concat (map (type_line s.version) s.types) ++ (concat (map point_line s.points) ++ (concat (map obstacle_lines s.obstacles) ++ (l ++ [])))) (append-nil (line (codes "obstacle" ∷ decimal (suc n) ∷ [])))
    ∙ grow_open (concat (map (type_line s.version) s.types)) (concat (map point_line s.points)) (concat (map obstacle_lines s.obstacles)) (line (codes "obstacle" ∷ decimal (suc n) ∷ [])))

-- the lines of an open obstacle with one more corner, which isn't the last
open_grows : (corners : List Place) (c : Place) (n : ℕ) → open_text (corners ++ c ∷ []) (suc n) ≡ open_text corners (suc (suc n)) ++ corner_line c
open_grows corners c n =
    let more : length (corners ++ c ∷ []) + suc n ≡ length corners + suc (suc n) = omega (arith, length-append corners (c ∷ [])) in
    rw (more, concat_push corner_line corners c) (sym (append_assoc (line (codes "obstacle" ∷ decimal (length corners + suc (suc n)) ∷ [])) (concat (map corner_line corners)) (corner_line c)))

-- the lines of an open obstacle with its last corner
open_closes : (corners : List Place) (c : Place) → obstacle_lines (corners ++ c ∷ []) ≡ open_text corners 1 ++ corner_line c
open_closes corners c =
    let more : length (corners ++ c ∷ []) ≡ length corners + 1 = omega (arith, length-append corners (c ∷ [])) in
    rw (more, concat_push corner_line corners c) (sym (append_assoc (line (codes "obstacle" ∷ decimal (length corners + 1) ∷ [])) (concat (map corner_line corners)) (corner_line c)))

-- a further corner that isn't the last
pub corner_grows : (s : Site) (corners : List Place) (c : Place) (n : ℕ) → s.pairs ≡ [] → body s (corners ++ c ∷ []) (suc n) ≡ body s corners (suc (suc n)) ++ corner_line c
corner_grows s corners c n r =
    let f : List ℕ → List ℕ = λ l. concat (map (type_line s.version) s.types) ++ (concat (map point_line s.points) ++ (concat (map obstacle_lines s.obstacles) ++ (l ++ []))) in
    rw r (ap f (open_grows corners c n) ∙ grow_fourth (concat (map (type_line s.version) s.types)) (concat (map point_line s.points)) (concat (map obstacle_lines s.obstacles)) (open_text corners (suc (suc n))) (corner_line c))

-- the last corner
pub corner_closes : (s : Site) (corners : List Place) (c : Place) → s.pairs ≡ [] → body (record s { obstacles = s.obstacles ++ (corners ++ c ∷ []) ∷ [] }) [] 0 ≡ body s corners 1 ++ corner_line c
corner_closes s corners c r =
    let f : List ℕ → List ℕ = λ l. concat (map (type_line s.version) s.types) ++ (concat (map point_line s.points) ++ ((concat (map obstacle_lines s.obstacles) ++ l) ++ ([] ++ []))) in
    rw (r, concat_push obstacle_lines s.obstacles (corners ++ c ∷ [])) (ap f (open_closes corners c) ∙ grow_closed (concat (map (type_line s.version) s.types)) (concat (map point_line s.points)) (concat (map obstacle_lines s.obstacles)) (open_text corners 1) (corner_line c))

-- a further pair rule
pub pair_grows : (s : Site) (p : Pair) → body (record s { pairs = s.pairs ++ p ∷ [] }) [] 0 ≡ body s [] 0 ++ pair_line s p
pair_grows s p =
    rw (concat_push (pair_line s) s.pairs p) (grow_last (concat (map (type_line s.version) s.types)) (concat (map point_line s.points)) (concat (map obstacle_lines s.obstacles)) [] (concat (map (pair_line s) s.pairs)) (pair_line s p))
