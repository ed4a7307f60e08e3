-- The cheapest types that bear given loads, and lists of cables that have them.
use Rattle.std.proofs.Common.{◌≡◌, ℕ, zero, suc, ◌<◌, ◌≤◌, ◌⊎◌, inl, inr, List, [], ◌∷◌, map, length, get_or, fold, max, sum_by, Some, slice_get, All, refl, ap, sym, ◌∙◌, subst, arith}
use Rattle.std.proofs.lemmas.Bool.{cases_lt}
use Rattle.std.proofs.lemmas.List.Sums.{sum_by-cons}
use Rattle.std.proofs.lemmas.List.Elements.{All-map}
use Rattle.std.proofs.lemmas.Option.{slice_get_within, get_or_from_slice_get}
use Rattle.cable_definitions.specs.declared.cable.Cable.{Cable}
use Rattle.cable_definitions.specs.declared.site.CableType.{CableType}
use Rattle.cable_definitions.specs.Site.{Site}
use Rattle.cable_definitions.specs.Arcs.{cost_of, capacity_of, capacity_from, largest_capacity, Bears, IsCheapest}
use Rattle.cable_definitions.specs.Walk.{load}
use Rattle.cable_definitions.specs.Layout.{IsCable, cost}
use Rattle.cable_definitions.specs.Part.{SameArcs, AreCheapTyped}
use Rattle.layout_laws.specs.Alike.{StartsDiffer}
use Rattle.layout_laws.specs.Cheapest.{IsCheapestOrZero}
use Rattle.layout_laws.proofs.Alike.{load-same}
use Rattle.layout_laws.proofs.Arcs.{SameEnds-from_arcs}

-- the number costs less, or as much and is no greater
abbrev pub Beats : (ℕ → ℕ) → ℕ → ℕ → Type 0
Beats cost best other = (cost best < cost other) ⊎ ((cost best ≡ cost other) × (best ≤ other))

-- the numbers below a further one
split_below : (k n : ℕ) → k < suc n → (k < n) ⊎ (k ≡ n)
split_below k n h = elim (cases_lt k n) [
  | inl l ↦ inl l
  | inr l ↦ inr (omega arith)
]

-- of the numbers below n that fit, the first of the cheapest
pub least_below : (cost : ℕ → ℕ) (Fits : ℕ → Type 0) → ((g : ℕ) → Fits g ⊎ (¬ (Fits g))) → (n : ℕ)
    → ((g : ℕ) → g < n → ¬ (Fits g)) ⊎ ((g : ℕ) × (g < n) × (Fits g) × ((other : ℕ) → other < n → Fits other → Beats cost g other))
least_below cost Fits decide zero = inl (λ g l. absurd (omega arith))
least_below cost Fits decide (suc n) = step (least_below cost Fits decide n) (decide n)
  where
    step : ((g : ℕ) → g < n → ¬ (Fits g)) ⊎ ((g : ℕ) × (g < n) × (Fits g) × ((other : ℕ) → other < n → Fits other → Beats cost g other)) → Fits n ⊎ (¬ (Fits n))
        → ((g : ℕ) → g < suc n → ¬ (Fits g)) ⊎ ((g : ℕ) × (g < suc n) × (Fits g) × ((other : ℕ) → other < suc n → Fits other → Beats cost g other))
    step (inl none) (inl b) = inr (
      n,
      omega arith,
      b,
      λ other l c. elim (split_below other n l) [
        | inl k ↦ absurd (none other k c)
        | inr e ↦ inr (ap cost (sym e), omega arith)
      ],
    )
    step (inl none) (inr m) = inl (λ g l c. elim (split_below g n l) [
      | inl k ↦ none g k c
      | inr e ↦ m (subst Fits e c)
    ])
    step (inr (g, l, f, least)) (inr m) = inr (
      g,
      omega arith,
      f,
      λ other k c. elim (split_below other n k) [
        | inl j ↦ least other j c
        | inr e ↦ absurd (m (subst Fits e c))
      ],
    )
    step (inr (g, l, f, least)) (inl b) = elim (cases_lt (cost n) (cost g)) [
      | inl lower ↦ inr (
        n,
        omega arith,
        b,
        λ other k c. elim (split_below other n k) [
          | inl j ↦ elim (least other j c) [
            | inl h ↦ inl (omega arith)
            | inr h ↦ let same : cost g ≡ cost other = h.0 in inl (omega arith)
          ]
          | inr e ↦ inr (ap cost (sym e), omega arith)
        ],
      )
      | inr no_lower ↦ inr (
        g,
        omega arith,
        f,
        λ other k c. elim (split_below other n k) [
          | inl j ↦ least other j c
          | inr e ↦
              let same : cost other ≡ cost n = ap cost e in
              elim (cases_lt (cost g) (cost other)) [
                | inl h ↦ inl h
                | inr h ↦ inr (omega arith, omega arith)
              ]
        ],
      )
    ]

-- whether a type bears a load
pub bears_or_not : (s : Site) (load grade : ℕ) → Bears s grade load ⊎ (¬ (Bears s grade load))
bears_or_not s load grade = elim (cases_lt grade (length s.types)) [
  | inr past ↦ inr (λ b. let l = b.listed in absurd (omega arith))
  | inl listed ↦ elim (cases_lt (capacity_of s grade) load) [
    | inl less ↦ inr (λ b. let l = b.enough in absurd (omega arith))
    | inr enough ↦ inl (record { listed = listed; enough = enough })
  ]
]

-- a cheapest type, where some type bears the load
pub some_cheapest : (s : Site) (from to load : ℕ) → ((g : ℕ) → ¬ (Bears s g load)) ⊎ ((g : ℕ) × IsCheapest s from to load g)
some_cheapest s from to load = by (least_below (λ g. cost_of s from to g load) (λ g. Bears s g load) (bears_or_not s load) (length s.types))
  where
    by : ((g : ℕ) → g < length s.types → ¬ (Bears s g load))
        ⊎ ((g : ℕ) × (g < length s.types) × (Bears s g load) × ((other : ℕ) → other < length s.types → Bears s other load → Beats (λ h. cost_of s from to h load) g other))
        → ((g : ℕ) → ¬ (Bears s g load)) ⊎ ((g : ℕ) × IsCheapest s from to load g)
    by (inl none) = inl (λ g b. none g b.listed b)
    by (inr (g, l, b, least)) = inr (g, record { bears = b; least = λ other c. least other c.listed c })

-- some type is the cheapest that bears the load, or type 0 where none does
pub cheap_or_none : (s : Site) (from to load : ℕ) → (g : ℕ) × IsCheapestOrZero s from to load g
cheap_or_none s from to load = by (some_cheapest s from to load)
  where
    by : ((g : ℕ) → ¬ (Bears s g load)) ⊎ ((g : ℕ) × IsCheapest s from to load g) → (g : ℕ) × IsCheapestOrZero s from to load g
    by (inl none) = (0, inr (none, refl))
    by (inr (g, h)) = (g, inl h)

-- where some type bears the load, it is the cheapest
pub cheapest_of : (s : Site) (from to load grade other : ℕ) → IsCheapestOrZero s from to load grade → Bears s other load → IsCheapest s from to load grade
cheapest_of s from to load grade other (inl h) b = h
cheapest_of s from to load grade other (inr h) b = absurd (h.0 other b)

-- there is one cheapest type
pub IsCheapest-same : (s : Site) (from to load a b : ℕ) → IsCheapest s from to load a → IsCheapest s from to load b → a ≡ b
IsCheapest-same s from to load a b h k = by (cost_of s from to a load) (cost_of s from to b load) (h.least b k.bears) (k.least a h.bears)
  where
    by : (c d : ℕ) → (c < d) ⊎ ((c ≡ d) × (a ≤ b)) → (d < c) ⊎ ((d ≡ c) × (b ≤ a)) → a ≡ b
    by c d (inl x) (inl y) = absurd (omega arith)
    by c d (inl x) (inr y) = let e : d ≡ c = y.0 in absurd (omega arith)
    by c d (inr x) (inl y) = let e : c ≡ d = x.0 in absurd (omega arith)
    by c d (inr x) (inr y) = let l : a ≤ b = x.1 in let m : b ≤ a = y.1 in omega arith

-- no type that bears the load costs less than the cheapest
pub cheapest-le : (s : Site) (from to load grade other : ℕ) → IsCheapest s from to load grade → Bears s other load → cost_of s from to grade load ≤ cost_of s from to other load
cheapest-le s from to load grade other h b = by (cost_of s from to grade load) (cost_of s from to other load) (h.least other b)
  where
    by : (c d : ℕ) → (c < d) ⊎ ((c ≡ d) × (grade ≤ other)) → c ≤ d
    by c d (inl x) = omega arith
    by c d (inr x) = let e : c ≡ d = x.0 in omega arith

-- the start is at most the greatest capacity
pub start-le_greatest : (types : List CableType) (start : ℕ) → start ≤ fold (λ most t. max most t.capacity) start types
start-le_greatest [] start = omega arith
start-le_greatest (t ∷ types) start = let l = start-le_greatest types (max start t.capacity) in let m : start ≤ max start t.capacity = omega arith in omega arith

-- each capacity is at most the greatest
capacity-le_greatest : (types : List CableType) (start g : ℕ) → capacity_from (slice_get types g) ≤ fold (λ most t. max most t.capacity) start types
capacity-le_greatest [] start g = omega arith
capacity-le_greatest (t ∷ types) start zero = let l = start-le_greatest types (max start t.capacity) in let m : t.capacity ≤ max start t.capacity = omega arith in omega arith
capacity-le_greatest (t ∷ types) start (suc g) = capacity-le_greatest types (max start t.capacity) g

-- what is at most the greatest capacity is at most the start or some capacity
reaches : (types : List CableType) (start load : ℕ) → load ≤ fold (λ most t. max most t.capacity) start types → (load ≤ start) ⊎ ((g : ℕ) × (g < length types) × (load ≤ capacity_from (slice_get types g)))
reaches [] start load h = inl h
reaches (t ∷ types) start load h = by (reaches types (max start t.capacity) load h)
  where
    split : (a b : ℕ) → load ≤ max a b → (load ≤ a) ⊎ (load ≤ b)
    split a b h = grind arith

    by : (load ≤ max start t.capacity) ⊎ ((g : ℕ) × (g < length types) × (load ≤ capacity_from (slice_get types g))) → (load ≤ start) ⊎ ((g : ℕ) × (g < suc (length types)) × (load ≤ capacity_from (slice_get (t ∷ types) g)))
    by (inl k) = elim (split start t.capacity k) [
      | inl a ↦ inl a
      | inr b ↦ inr (0, omega arith, b)
    ]
    by (inr (g, k, l)) = inr (suc g, omega arith, l)

-- a load that a type bears is at most the largest capacity
pub borne-le_largest : (s : Site) (grade load : ℕ) → Bears s grade load → load ≤ largest_capacity s
borne-le_largest s grade load b = let l = b.enough in let m : capacity_of s grade ≤ largest_capacity s = capacity-le_greatest s.types 0 grade in omega arith

-- some type bears a load that is at most the largest capacity
pub some_bears : (s : Site) (load : ℕ) → 1 ≤ length s.types → load ≤ largest_capacity s → (g : ℕ) × Bears s g load
some_bears s load some h = by (reaches s.types 0 load h)
  where
    by : (load ≤ 0) ⊎ ((g : ℕ) × (g < length s.types) × (load ≤ capacity_of s g)) → (g : ℕ) × Bears s g load
    by (inl k) = (0, record { listed = omega arith; enough = omega arith })
    by (inr (g, k, l)) = (g, record { listed = k; enough = l })

-- what holds of all elements holds of the one at a place
pub all-at : {X : Type 0} → (P : X → Type 0) (xs : List X) (i : ℕ) (x : X) → All P xs → slice_get xs i ≡ Some x → P x
all-at P xs i x h e = subst P (get_or_from_slice_get xs i x x e) (h i x (slice_get_within xs i x e))

-- a cable of a list with the start and the end of this one, at the same place
pub record IsMatched (ys : List Cable) (i : ℕ) (c : Cable) : Type 0 where
  pub cable : Cable
  pub is_cable : IsCable ys i cable
  pub from : c.from ≡ cable.from
  pub to : c.to ≡ cable.to

-- lists with the same arcs match place by place
pub matched : (xs ys : List Cable) → SameArcs xs ys → (i : ℕ) (c : Cable) → IsCable xs i c → IsMatched ys i c
matched xs ys a = by_lists xs ys a.starts a.ends
  where
    by_lists : (xs ys : List Cable) → map (λ (c : Cable). c.from) xs ≡ map (λ (c : Cable). c.from) ys → map (λ (c : Cable). c.to) xs ≡ map (λ (c : Cable). c.to) ys
        → (i : ℕ) (c : Cable) → IsCable xs i c → IsMatched ys i c
    by_lists [] ys e f i c h = absurd (cc)
    by_lists (x ∷ xs) [] e f i c h = absurd (cc)
    by_lists (x ∷ xs) (y ∷ ys) e f zero c h =
        let same : x ≡ c = cc in
        let start : x.from ≡ y.from = cc in
        let finish : x.to ≡ y.to = cc in
        record { cable = y; is_cable = refl; from = ap (λ (d : Cable). d.from) (sym same) ∙ start; to = ap (λ (d : Cable). d.to) (sym same) ∙ finish }
    by_lists (x ∷ xs) (y ∷ ys) e f (suc i) c h =
        let r = by_lists xs ys (cc) (cc) i c h in
        record { cable = r.cable; is_cable = r.is_cable; from = r.from; to = r.to }

-- the same arcs the other way round
pub SameArcs-turned : (xs ys : List Cable) → SameArcs xs ys → SameArcs ys xs
SameArcs-turned xs ys a = record { starts = sym a.starts; ends = sym a.ends }

-- the same arcs as a third list
pub SameArcs-further : (xs ys zs : List Cable) → SameArcs xs ys → SameArcs ys zs → SameArcs xs zs
SameArcs-further xs ys zs a b = record { starts = a.starts ∙ b.starts; ends = a.ends ∙ b.ends }

-- starts differ in lists with the same arcs
pub StartsDiffer-arcs : (xs ys : List Cable) → SameArcs xs ys → StartsDiffer ys → StartsDiffer xs
StartsDiffer-arcs xs ys a d i j c e h k l same =
    let x = matched xs ys a i c h in
    let y = matched xs ys a j e k in
    d i j x.cable y.cable x.is_cable y.is_cable l (sym y.from ∙ same ∙ x.from)

-- terms of which each is at most the one at the same place
pub sum_by-le_matched : (f g : Cable → ℕ) (xs ys : List Cable) → SameArcs xs ys
    → ((i : ℕ) (c d : Cable) → IsCable xs i c → IsCable ys i d → c.from ≡ d.from → c.to ≡ d.to → f c ≤ g d) → sum_by f xs ≤ sum_by g ys
sum_by-le_matched f g xs ys a h = by_lists xs ys a.starts a.ends h
  where
    by_lists : (xs ys : List Cable) → map (λ (c : Cable). c.from) xs ≡ map (λ (c : Cable). c.from) ys → map (λ (c : Cable). c.to) xs ≡ map (λ (c : Cable). c.to) ys
        → ((i : ℕ) (c d : Cable) → IsCable xs i c → IsCable ys i d → c.from ≡ d.from → c.to ≡ d.to → f c ≤ g d) → sum_by f xs ≤ sum_by g ys
    by_lists [] [] e r h = omega arith
    by_lists [] (d ∷ ys) e r h = absurd (cc)
    by_lists (c ∷ xs) [] e r h = absurd (cc)
    by_lists (c ∷ xs) (d ∷ ys) e r h =
        let start : c.from ≡ d.from = cc in
        let finish : c.to ≡ d.to = cc in
        let one = h 0 c d refl refl start finish in
        omega (arith, sum_by-cons f c xs, sum_by-cons g d ys, one, by_lists xs ys (cc) (cc) (λ i. h (suc i)))

-- the cable with the cheapest type that bears its load in a list, or with type 0
abbrev pub with_cheap_type : Site → List Cable → Cable → Cable
with_cheap_type s cables c = record c { grade = (cheap_or_none s c.from c.to (load s cables c.from)).0 }

-- the same arcs
pub with_cheap_type-arcs : (s : Site) (cables xs : List Cable) → SameArcs (map (with_cheap_type s cables) xs) xs
with_cheap_type-arcs s cables [] = record { starts = refl; ends = refl }
with_cheap_type-arcs s cables (c ∷ xs) =
    let a = with_cheap_type-arcs s cables xs in
    record { starts = ap (λ ps. c.from ∷ ps) a.starts; ends = ap (λ ps. c.to ∷ ps) a.ends }

-- there are cheapest types for each list
pub some_cheap_typed : (s : Site) (cables : List Cable) → (typed : List Cable) × AreCheapTyped s cables typed
some_cheap_typed s cables =
    let typed = map (with_cheap_type s cables) cables in
    let arcs = with_cheap_type-arcs s cables cables in (
      typed,
      record {
        arcs = arcs;
        types = All-map (λ (c : Cable). IsCheapestOrZero s c.from c.to (load s typed c.from) c.grade) (with_cheap_type s cables) cables
            (λ k d l. right typed arcs (get_or cables k d));
      },
    )
  where
    right : (typed : List Cable) → SameArcs typed cables → (c : Cable) → IsCheapestOrZero s c.from c.to (load s typed c.from) (cheap_or_none s c.from c.to (load s cables c.from)).0
    right typed arcs c =
        subst (λ (n : ℕ). IsCheapestOrZero s c.from c.to n (cheap_or_none s c.from c.to (load s cables c.from)).0)
        (load-same s cables typed (λ p. sym (SameEnds-from_arcs typed cables arcs p)) c.from)
        (cheap_or_none s c.from c.to (load s cables c.from)).1
