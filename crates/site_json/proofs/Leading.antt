-- Items one after another, and the first fault among them.
use Rattle.std.proofs.Common.{◌≡◌, ℕ, ◌+◌, ◌<◌, ◌≤◌, List, [], ◌∷◌, ◌++◌, length, get_or, map, take, drop, Bool, false, refl, sym, ap, ◌∙◌, subst, arith, length-append, append_assoc}
use Rattle.std.proofs.lemmas.List.{append-nil, map-append, take_more, drop_more, take-append-drop, take_all}
use Rattle.serde_json.specs.Data.{Data}
use Rattle.serde_json.specs.View.{view}
use Rattle.serde_json.specs.declared.value.Value.{Value}
use Rattle.cable_definitions.specs.declared.site.SiteCode.{SiteCode}
use Rattle.cable_definitions.specs.Items.{Draft, RawItem, Builds, IsGood, Adds, IsFirstCode, IsItemFault, empty_draft}
use Rattle.site_json.specs.Faults.{LeadsOn, Fails}

-- good items behind good items
pub Builds-append : (d e f : Draft) (xs ys : List RawItem) → Builds d xs e → Builds e ys f → Builds d (xs ++ ys) f
Builds-append d e f [] ys b c = subst (λ (g : Draft). Builds g ys f) b c
Builds-append d e f (x ∷ xs) ys (g, good, adds, rest) c = (g, good, adds, Builds-append g e f xs ys rest c)

-- no item changes nothing
pub Leads-none : (d : Draft) (a : ℕ) → LeadsOn d a [] d a
Leads-none d a = record { builds = refl; counted = omega arith }

-- one good item
pub Leads-one : (d e : Draft) (a : ℕ) (item : RawItem) → IsGood d item → Adds d item e → LeadsOn d a (item ∷ []) e (a + 1)
Leads-one d e a item good adds = record { builds = (e, good, adds, refl); counted = omega arith }

-- further items
pub Leads-append : (d e f : Draft) (a b c : ℕ) (xs ys : List RawItem) → LeadsOn d a xs e b → LeadsOn e b ys f c → LeadsOn d a (xs ++ ys) f c
Leads-append d e f a b c xs ys l m = record { builds = Builds-append d e f xs ys l.builds m.builds; counted = omega (arith, length-append xs ys, l.counted, m.counted) }

-- nothing behind the items
pub Leads-end : (d e : Draft) (a b : ℕ) (xs : List RawItem) → LeadsOn d a xs e b → LeadsOn d a (xs ++ []) e b
Leads-end d e a b xs l = subst (λ (zs : List RawItem). LeadsOn d a zs e b) (sym (append-nil xs)) l

-- the first item is at fault
pub Fails-one : (d : Draft) (a : ℕ) (item : RawItem) (code : SiteCode) (place : ℕ) (broken : Bool) → IsFirstCode d item code → place ≡ a + 1 → broken ≡ false → Fails d a (item ∷ []) code place broken
Fails-one d a item code place broken first at whole = record {
  good = [];
  bad = item;
  further = [];
  draft = d;
  items_are = refl;
  builds = refl;
  first = first;
  place_is = omega (arith, at);
  unbroken = whole;
}

-- a fault stays where further items follow
pub Fails-front : (d : Draft) (a : ℕ) (xs ys : List RawItem) (code : SiteCode) (place : ℕ) (broken : Bool) → Fails d a xs code place broken → Fails d a (xs ++ ys) code place broken
Fails-front d a xs ys code place broken f = record {
  good = f.good;
  bad = f.bad;
  further = f.further ++ ys;
  draft = f.draft;
  items_are = ap (λ (l : List RawItem). l ++ ys) f.items_are ∙ append_assoc f.good (f.bad ∷ f.further) ys;
  builds = f.builds;
  first = f.first;
  place_is = f.place_is;
  unbroken = f.unbroken;
}

-- a fault behind good items
pub Fails-behind : (d e : Draft) (a b : ℕ) (xs ys : List RawItem) (code : SiteCode) (place : ℕ) (broken : Bool) → LeadsOn d a xs e b → Fails e b ys code place broken → Fails d a (xs ++ ys) code place broken
Fails-behind d e a b xs ys code place broken l f = record {
  good = xs ++ f.good;
  bad = f.bad;
  further = f.further;
  draft = f.draft;
  items_are = ap (λ (zs : List RawItem). xs ++ zs) f.items_are ∙ sym (append_assoc xs f.good (f.bad ∷ f.further));
  builds = Builds-append d e f.draft xs f.good l.builds f.builds;
  first = f.first;
  place_is = omega (arith, length-append xs f.good, f.place_is, l.counted);
  unbroken = f.unbroken;
}

-- the fault of all items
pub IsItemFault-all : (items : List RawItem) (code : SiteCode) (place : ℕ) (broken : Bool) → Fails empty_draft 0 items code place broken → IsItemFault items code place
IsItemFault-all items code place broken f = record {
  good = f.good;
  bad = f.bad;
  further = f.further;
  draft = f.draft;
  items_are = f.items_are;
  builds = f.builds;
  first = f.first;
  place_is = omega (arith, f.place_is);
}

-- ---- lists of members
-- the items of a list are those of its parts, one after another
pub record Joins (F : List Data → List RawItem) : Type 0 where
  pub none : F [] ≡ []
  pub joined : (xs ys : List Data) → F (xs ++ ys) ≡ F xs ++ F ys

-- the items up to the next member
pub items_more : (F : List Data → List RawItem) (j : Joins F) (vs : List Value) (i : ℕ) (v : Value) → i < length vs → v ≡ get_or vs i v → F (map view (take (i + 1) vs)) ≡ F (map view (take i vs)) ++ F (view v ∷ [])
items_more F j vs i v l is =
    ap (λ (ws : List Value). F (map view ws)) (take_more vs i v l ∙ ap (λ (w : Value). take i vs ++ w ∷ []) (sym is))
    ∙ ap F (map-append view (take i vs) (v ∷ []))
    ∙ j.joined (map view (take i vs)) (view v ∷ [])

parted : (vs : List Value) (i : ℕ) (v : Value) → i < length vs → v ≡ get_or vs i v → vs ≡ take i vs ++ v ∷ drop (i + 1) vs
parted vs i v l is = sym (take-append-drop i vs) ∙ ap (λ (ws : List Value). take i vs ++ ws) (drop_more vs i v l ∙ ap (λ (w : Value). w ∷ drop (i + 1) vs) (sym is))

-- the items around a member
pub items_around : (F : List Data → List RawItem) (j : Joins F) (vs : List Value) (i : ℕ) (v : Value) → i < length vs → v ≡ get_or vs i v
    → F (map view vs) ≡ F (map view (take i vs)) ++ F (view v ∷ []) ++ F (map view (drop (i + 1) vs))
items_around F j vs i v l is =
    ap (λ (ws : List Value). F (map view ws)) (parted vs i v l is)
    ∙ ap F (map-append view (take i vs) (v ∷ drop (i + 1) vs))
    ∙ j.joined (map view (take i vs)) (view v ∷ map view (drop (i + 1) vs))
    ∙ ap (λ (zs : List RawItem). F (map view (take i vs)) ++ zs) (j.joined (view v ∷ []) (map view (drop (i + 1) vs)))
    ∙ sym (append_assoc (F (map view (take i vs))) (F (view v ∷ [])) (F (map view (drop (i + 1) vs))))

-- the items of one member more
pub Leads-more : (F : List Data → List RawItem) (j : Joins F) (vs : List Value) (i : ℕ) (v : Value) (d e f : Draft) (a b c : ℕ) → i < length vs → v ≡ get_or vs i v
    → LeadsOn d a (F (map view (take i vs))) e b → LeadsOn e b (F (view v ∷ [])) f c → LeadsOn d a (F (map view (take (i + 1) vs))) f c
Leads-more F j vs i v d e f a b c l is before here =
    subst (λ (zs : List RawItem). LeadsOn d a zs f c) (sym (items_more F j vs i v l is)) (Leads-append d e f a b c _ _ before here)

-- the fault of a member behind others
pub Fails-more : (F : List Data → List RawItem) (j : Joins F) (vs : List Value) (i : ℕ) (v : Value) (d e : Draft) (a b : ℕ) (code : SiteCode) (place : ℕ) (broken : Bool) → i < length vs → v ≡ get_or vs i v
    → LeadsOn d a (F (map view (take i vs))) e b → Fails e b (F (view v ∷ [])) code place broken → Fails d a (F (map view vs)) code place broken
Fails-more F j vs i v d e a b code place broken l is before here =
    subst (λ (zs : List RawItem). Fails d a zs code place broken) (sym (items_around F j vs i v l is))
    (Fails-front d a _ (F (map view (drop (i + 1) vs))) code place broken (Fails-behind d e a b (F (map view (take i vs))) (F (view v ∷ [])) code place broken before here))

-- the items of no member
pub Leads-begin : (F : List Data → List RawItem) (j : Joins F) (vs : List Value) (d : Draft) (a : ℕ) → LeadsOn d a (F (map view (take 0 vs))) d a
Leads-begin F j vs d a = subst (λ (zs : List RawItem). LeadsOn d a zs d a) (sym j.none) (Leads-none d a)

-- the items of all members
pub Leads-all : (F : List Data → List RawItem) (vs : List Value) (i : ℕ) (d e : Draft) (a b : ℕ) → length vs ≤ i → LeadsOn d a (F (map view (take i vs))) e b → LeadsOn d a (F (map view vs)) e b
Leads-all F vs i d e a b l h = subst (λ (ws : List Value). LeadsOn d a (F (map view ws)) e b) (take_all i vs l) h
