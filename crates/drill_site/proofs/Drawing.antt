-- The points so far of a generated site.
use Rattle.std.proofs.Common.{to_z, ◌≡◌, ◌≢◌, ℕ, zero, suc, ◌+◌, ◌*◌, ◌/◌, ◌%◌, ◌≤◌, ◌<◌, inl, inr, ℤ, pos, List, [], ◌∷◌, ◌++◌, length, refl, sym, ap, ◌∙◌, subst, arith, append_assoc, length-append}
use Rattle.std.specs.Prelude.{All, codes}
use Rattle.std.specs.Fmt.{decimal}
use Rattle.std.proofs.lemmas.Int.{ints}
use Rattle.std.proofs.lemmas.List.Elements.{All-nil, All-cons, All-push, All-append, All-weaker}
use Rattle.cable_definitions.specs.declared.site.Kind.{Kind}
use Rattle.cable_definitions.specs.declared.site.Kind.TheVariants.{Bend}
use Rattle.cable_definitions.specs.declared.site.Point.{Point}
use Rattle.cable_definitions.specs.Items.{Draft}
use Rattle.std.specs.Int.{w64}
use Rattle.cable_definitions.specs.declared.place.Place.{Place}
use Rattle.cable_definitions.specs.Site.{Site}
use Rattle.cable_definitions.specs.Drill.{IsDrawn, AreDrawn, AreLastPoints, AreDrillPoints, AreDrillObstacles, IsDrillSite, state_after}
use Rattle.drill_site.specs.Growing.{IsApart, Gains, AreDrawnTo, AreFirst, HasFirst, GainsTurbine, GainsBends, GainsSquare, TakesPoints, IsBeside}
use Rattle.drill_site.proofs.Apart.{IsCell, IsCell-drawn, IsEarly, IsApart-known, IsApart-turbine, IsApart-bend, IsBeside-early, off_450, off_950, second_differs}

-- ---- what the points so far are
-- each of the turbines that are drawn
drawn_cells : (n i state end : ℕ) (points : List Point) → AreDrawnTo n i state end points → All (λ p. (j : ℕ) × (j < i + n) × IsCell j p) points
drawn_cells zero i state end [] h = All-nil _
drawn_cells zero i state end (p ∷ points) h = absurd h
drawn_cells (suc n) i state end [] h = absurd h
drawn_cells (suc n) i state end (p ∷ points) h =
    All-cons (λ q. (j : ℕ) × (j < i + suc n) × IsCell j q) p points (i, omega arith, IsCell-drawn i state p h.0)
    (All-weaker (λ q. (j : ℕ) × (j < (i + 1) + n) × IsCell j q) (λ q. (j : ℕ) × (j < i + suc n) × IsCell j q) (λ q c. let l = c.1 in (c.0, omega (arith, l), c.2)) points (drawn_cells n (i + 1) (state_after 3 state) end points h.1))

-- how many they are
drawn_length : (n i state end : ℕ) (points : List Point) → AreDrawnTo n i state end points → length points ≡ n
drawn_length zero i state end [] h = refl
drawn_length zero i state end (p ∷ points) h = absurd h
drawn_length (suc n) i state end [] h = absurd h
drawn_length (suc n) i state end (p ∷ points) h = ap suc (drawn_length n (i + 1) (state_after 3 state) end points h.1)

-- each of the first points
pub first_early : (k n end : ℕ) (points : List Point) → AreFirst k n end points → All (IsEarly n) points
first_early k n end [] h = absurd h
first_early k n end (s0 ∷ []) h = absurd h
first_early k n end (s0 ∷ s1 ∷ points) h =
    All-cons (IsEarly n) s0 (s1 ∷ points) (inl h.0.0)
    (All-cons (IsEarly n) s1 points (inr (inl h.0.1))
    (All-weaker (λ q. (j : ℕ) × (j < 0 + n) × IsCell j q) (IsEarly n) (λ q c. let l = c.1 in inr (inr (c.0, omega (arith, l), c.2))) points (drawn_cells n 0 k end points h.1)))

-- how many they are
pub first_length : (k n end : ℕ) (points : List Point) → AreFirst k n end points → length points ≡ n + 2
first_length k n end [] h = absurd h
first_length k n end (s0 ∷ []) h = absurd h
first_length k n end (s0 ∷ s1 ∷ points) h = let l = drawn_length n 0 k end points h.1 in omega (arith, l)

-- ---- one turbine more
-- one turbine more after those that are drawn
AreDrawnTo-push : (n i state end : ℕ) (points : List Point) (p : Point) → AreDrawnTo n i state end points → IsDrawn (i + n) end p → AreDrawnTo (suc n) i state (state_after 3 end) (points ++ p ∷ [])
AreDrawnTo-push zero i state end [] p h drawn =
    (subst (λ (s : ℕ). IsDrawn i s p) h (subst (λ (j : ℕ). IsDrawn j end p) (let e : i + zero ≡ i = omega arith in e) drawn), ap (λ (s : ℕ). state_after 3 s) h)
AreDrawnTo-push zero i state end (q ∷ points) p h drawn = absurd h
AreDrawnTo-push (suc n) i state end [] p h drawn = absurd h
AreDrawnTo-push (suc n) i state end (q ∷ points) p h drawn =
    (h.0, AreDrawnTo-push n (i + 1) (state_after 3 state) end points p h.1 (subst (λ (j : ℕ). IsDrawn j end p) (let e : i + suc n ≡ (i + 1) + n = omega arith in e) drawn))

-- one turbine more after the first points
AreFirst-push : (k n end : ℕ) (points : List Point) (p : Point) → AreFirst k n end points → IsDrawn n end p → AreFirst k (suc n) (state_after 3 end) (points ++ p ∷ [])
AreFirst-push k n end [] p h drawn = absurd h
AreFirst-push k n end (s0 ∷ []) p h drawn = absurd h
AreFirst-push k n end (s0 ∷ s1 ∷ points) p h drawn = (h.0, AreDrawnTo-push n 0 k end points p h.1 (subst (λ (j : ℕ). IsDrawn j end p) (let e : n ≡ 0 + n = omega arith in e) drawn))

-- the points after a point was added
pub points_gained : (d e : Draft) (name : List ℕ) (x y : ℤ) (kind : Kind) → (g : Gains d name x y kind e) → e.site.points ≡ d.site.points ++ g.p ∷ []
points_gained d e name x y kind g = ap (λ (f : Draft). f.site.points) g.becomes

-- the first points after a turbine was added
pub AreFirst-gains : (k n end next : ℕ) (d e : Draft) → AreFirst k n end d.site.points → GainsTurbine d n end e → next ≡ state_after 3 end → AreFirst k (n + 1) next e.site.points
AreFirst-gains k n end next d e first gains is =
    let pushed : AreFirst k (suc n) (state_after 3 end) (d.site.points ++ gains.p ∷ []) = AreFirst-push k n end d.site.points gains.p first gains.point in
    subst (λ (ps : List Point). AreFirst k (n + 1) next ps) (sym (points_gained d e _ _ _ _ gains))
    (subst (λ (s : ℕ). AreFirst k (n + 1) s (d.site.points ++ gains.p ∷ [])) (sym is)
    (subst (λ (m : ℕ). AreFirst k m (state_after 3 end) (d.site.points ++ gains.p ∷ [])) (let f : suc n ≡ n + 1 = omega arith in f) pushed))

-- ---- points that are apart
-- the points so far are apart from the turbine that comes next
pub apart_turbine : (i end a b : ℕ) (points : List Point) → i < 200 → a ≤ 400 → b ≤ 400 → HasFirst i end points → All (IsApart (codes "T" ++ decimal i) (pos (1000 * (i % 10) + a)) (pos (1000 * (i / 10) + b))) points
apart_turbine i end a b points few small_a small_b h =
    All-weaker (IsEarly i) (IsApart (codes "T" ++ decimal i) (pos (1000 * (i % 10) + a)) (pos (1000 * (i / 10) + b))) (λ p early. IsApart-turbine i a b p few small_a small_b early) points (first_early h.0 i end points h.1)

-- some number of turbines with the substations
abbrev pub HasSome : List Point → Type 0
HasSome points = (n : ℕ) × (end : ℕ) × (n ≤ 200) × HasFirst n end points

-- there is room for the bends
pub some_length : (points : List Point) → HasSome points → length points ≤ 202
some_length points h = let l = first_length h.3.0 h.0 h.1 points h.3.1 in let m = h.2 in omega (arith, l, m)

-- the points before the bends are apart from those at 4,450 metres
pub apart_450 : (b y : ℕ) (points : List Point) → HasSome points → All (IsApart (66 ∷ b ∷ []) (pos 4450) (pos y)) points
apart_450 b y points h =
    All-weaker (IsEarly h.0) (IsApart (66 ∷ b ∷ []) (pos 4450) (pos y)) (λ p early. IsApart-bend h.0 b 4450 y p h.2 off_450 (λ e. omega arith) early) points (first_early h.3.0 h.0 h.1 points h.3.1)

-- and from those at 4,950 metres
pub apart_950 : (b y : ℕ) (points : List Point) → HasSome points → All (IsApart (66 ∷ b ∷ []) (pos 4950) (pos y)) points
apart_950 b y points h =
    All-weaker (IsEarly h.0) (IsApart (66 ∷ b ∷ []) (pos 4950) (pos y)) (λ p early. IsApart-bend h.0 b 4950 y p h.2 off_950 (λ e. omega arith) early) points (first_early h.3.0 h.0 h.1 points h.3.1)

-- after a bend, the points so far are apart from a further one with another number and another place
pub apart_more : (d e : Draft) (a b : ℕ) (x y u v : ℤ) → Gains d (66 ∷ a ∷ []) x y Bend e → All (IsApart (66 ∷ b ∷ []) u v) d.site.points → a ≢ b → ¬ ((x ≡ u) × (y ≡ v)) → All (IsApart (66 ∷ b ∷ []) u v) e.site.points
apart_more d e a b x y u v gains apart ne away =
    subst (λ (ps : List Point). All (IsApart (66 ∷ b ∷ []) u v) ps) (sym (points_gained d e _ _ _ _ gains))
    (All-push (IsApart (66 ∷ b ∷ []) u v) d.site.points gains.p apart (IsApart-known gains.p (66 ∷ a ∷ []) (66 ∷ b ∷ []) x y u v Bend gains.point (second_differs 66 a b ne) away))

-- how many points there are after one was added
pub length_gained : (d e : Draft) (name : List ℕ) (x y : ℤ) (kind : Kind) → Gains d name x y kind e → length e.site.points ≡ length d.site.points + 1
length_gained d e name x y kind gains = ap length (points_gained d e name x y kind gains) ∙ length-append d.site.points (gains.p ∷ [])

-- the four bends
pub GainsBends-four : (d d0 d1 d2 d3 : Draft) → Gains d (codes "B0") (pos 4450) (pos 450) Bend d0 → Gains d0 (codes "B1") (pos 4950) (pos 450) Bend d1 → Gains d1 (codes "B2") (pos 4450) (pos 950) Bend d2
    → Gains d2 (codes "B3") (pos 4950) (pos 950) Bend d3 → GainsBends d.site.points d3.site.points
GainsBends-four d d0 d1 d2 d3 g0 g1 g2 g3 =
    let e0 = points_gained d d0 _ _ _ _ g0 in
    let e1 = points_gained d0 d1 _ _ _ _ g1 in
    let e2 = points_gained d1 d2 _ _ _ _ g2 in
    let e3 = points_gained d2 d3 _ _ _ _ g3 in
    (g0.p ∷ g1.p ∷ g2.p ∷ g3.p ∷ [], (g0.point, g1.point, g2.point, g3.point), rw (e3, e2, e1, e0) (simp append_assoc))

-- ---- all points
-- the turbines that are drawn, and then the bends
AreDrawn-end : (n i state end : ℕ) (points bends : List Point) → AreDrawnTo n i state end points → AreLastPoints bends → AreDrawn n i state (points ++ bends)
AreDrawn-end zero i state end [] bends h last = last
AreDrawn-end zero i state end (p ∷ points) bends h last = absurd h
AreDrawn-end (suc n) i state end [] bends h last = absurd h
AreDrawn-end (suc n) i state end (p ∷ points) bends h last = (h.0, AreDrawn-end n (i + 1) (state_after 3 state) end points bends h.1 last)

-- the first points, and then the bends
AreDrillPoints-end : (k n end : ℕ) (points bends : List Point) → AreFirst k n end points → AreLastPoints bends → AreDrillPoints k n (points ++ bends)
AreDrillPoints-end k n end [] bends h last = absurd h
AreDrillPoints-end k n end (s0 ∷ []) bends h last = absurd h
AreDrillPoints-end k n end (s0 ∷ s1 ∷ points) bends h last = (h.0.0, h.0.1, AreDrawn-end n 0 k end points bends h.1 last)

-- the points of a generated site
pub AreDrillPoints-bends : (k n end : ℕ) (points more : List Point) → AreFirst k n end points → GainsBends points more → AreDrillPoints k n more
AreDrillPoints-bends k n end points more first bends = subst (λ (ps : List Point). AreDrillPoints k n ps) (sym bends.2) (AreDrillPoints-end k n end points bends.0 first bends.1)

-- the bends are beside the obstacle
last_beside : (bends : List Point) → AreLastPoints bends → All IsBeside bends
last_beside [] h = absurd h
last_beside (a ∷ []) h = absurd h
last_beside (a ∷ b ∷ []) h = absurd h
last_beside (a ∷ b ∷ c ∷ []) h = absurd h
last_beside (a ∷ b ∷ c ∷ d ∷ []) h =
    All-cons IsBeside a (b ∷ c ∷ d ∷ []) (inl (let e = h.0.x_is in omega (arith, ints, e)))
    (All-cons IsBeside b (c ∷ d ∷ []) (inr (let e = h.1.x_is in omega (arith, ints, e)))
    (All-cons IsBeside c (d ∷ []) (inl (let e = h.2.x_is in omega (arith, ints, e)))
    (All-cons IsBeside d [] (inr (let e = h.3.x_is in omega (arith, ints, e))) (All-nil IsBeside))))
last_beside (a ∷ b ∷ c ∷ d ∷ e ∷ points) h = absurd h

-- all points are beside the obstacle
pub all_beside : (k n end : ℕ) (points more : List Point) → AreFirst k n end points → GainsBends points more → All IsBeside more
all_beside k n end points more first bends =
    subst (λ (ps : List Point). All IsBeside ps) (sym bends.2)
    (All-append IsBeside points bends.0 (All-weaker (IsEarly n) IsBeside (IsBeside-early n) points (first_early k n end points first)) (last_beside bends.0 bends.1))

-- what is built with the obstacle is the generated site
pub IsDrillSite-square : (k n end : ℕ) (points : List Point) (d e : Draft) (s : Site) → AreFirst k n end points → TakesPoints d → GainsBends points d.site.points → GainsSquare d e → s ≡ e.site → IsDrillSite k n s
IsDrillSite-square k n end points d e s first takes bends square is =
    let made : s ≡ record d.site { obstacles = d.site.obstacles ++ square.0 ∷ [] } = is ∙ ap (λ (f : Draft). f.site) square.2 in
    subst (λ (t : Site). IsDrillSite k n t) (sym made)
    (record {
      version = takes.version;
      mode = takes.mode;
      types = takes.types;
      points = AreDrillPoints-bends k n end points d.site.points first bends;
      obstacles = subst (λ (os : List (List Place)). AreDrillObstacles (os ++ square.0 ∷ [])) (sym takes.obstacles) square.1;
      pairs = takes.pairs;
    })

-- the points so far are apart from the turbine that comes next, whose name and coordinates these are
pub apart_next : (i end a b : ℕ) (name : List ℕ) (x y : ℤ) (points : List Point) → i < 200 → a ≤ 400 → b ≤ 400 → name ≡ codes "T" ++ decimal i → x ≡ pos (1000 * (i % 10) + a) → y ≡ pos (1000 * (i / 10) + b) → HasFirst i end points
    → All (IsApart name x y) points
apart_next i end a b name x y points few small_a small_b named at_x at_y h =
    subst (λ (w : List ℕ). All (IsApart w x y) points) (sym named)
    (subst (λ (z : ℤ). All (IsApart (codes "T" ++ decimal i) z y) points) (sym at_x)
    (subst (λ (z : ℤ). All (IsApart (codes "T" ++ decimal i) (pos (1000 * (i % 10) + a)) z) points) (sym at_y) (apart_turbine i end a b points few small_a small_b h)))

-- a coordinate of a turbine, as it is passed on
pub square_passed : (square offset u a : ℕ) → square ≡ u → offset ≡ a → u < 20 → a ≤ 400 → to_z w64 (1000 * square + offset) ≡ pos (1000 * u + a)
square_passed square offset u a e f small_u small_a = omega (arith, ints)
