-- A good item makes one draft of a draft.
use Rattle.std.proofs.Common.{◌≡◌, ◌≢◌, ℕ, zero, suc, ℤ, pos, List, [], ◌∷◌, ◌++◌, get_or, Option, Some, refl, sym, ap, ◌∙◌, subst, arith}
use Rattle.std.specs.Prelude.{AllPairs}
use Rattle.std.proofs.lemmas.List.{get_or_default}
use Rattle.std.proofs.lemmas.List.Quantifiers.{all_pairs_push}
use Rattle.cable_definitions.specs.declared.place.Place.{Place}
use Rattle.cable_definitions.specs.declared.site.Version.{Version}
use Rattle.cable_definitions.specs.declared.site.Version.TheVariants.{One, Two}
use Rattle.cable_definitions.specs.declared.site.Mode.{Mode}
use Rattle.cable_definitions.specs.declared.site.Kind.{Kind}
use Rattle.cable_definitions.specs.declared.site.Kind.TheVariants.{Turbine, Substation, Bend}
use Rattle.cable_definitions.specs.declared.site.Point.{Point}
use Rattle.cable_definitions.specs.declared.site.CableType.{CableType}
use Rattle.cable_definitions.specs.declared.site.PairRule.{PairRule}
use Rattle.cable_definitions.specs.declared.site.PairRule.TheVariants.{Charge, Closed}
use Rattle.cable_definitions.specs.declared.site.Pair.{Pair}
use Rattle.cable_definitions.specs.declared.site.SiteCode.TheVariants.{SameName}
use Rattle.cable_definitions.specs.Site.{version_number}
use Rattle.cable_definitions.specs.Items.{RawItem, AVersion, AMode, AType, APoint, AnObstacle, ACorner, APair, TheEnd, Misshapen, Stray, Unended, Missing, Overlong, raw_kind, raw_rule, Draft, empty_draft, IsAt, IsGood, Adds, with_corner}
use Rattle.cable_definitions.proofs.Places.{one_place}
use Rattle.site_model.proofs.Pairs.{one_number}

-- the names of the points so far differ
abbrev pub NamesDiffer : Draft → Type 0
NamesDiffer d = AllPairs (λ p q. p.name ≢ q.name) d.site.points

-- at first there are no names
pub NamesDiffer-empty : NamesDiffer empty_draft
NamesDiffer-empty i j d below l = absurd (omega arith)

-- versions of one number are one
version_same : (m n : Version) → version_number m ≡ version_number n → m ≡ n
version_same One One e = refl
version_same One Two e = absurd (omega (arith, e))
version_same Two One e = absurd (omega (arith, e))
version_same Two Two e = refl

-- kinds that are written alike are one
kind_same : (j k : Kind) → raw_kind j ≡ raw_kind k → j ≡ k
kind_same (Turbine p) (Turbine q) e = let f : p ≡ q = cc in ap Turbine f
kind_same (Turbine p) (Substation g q) e = absurd (cc)
kind_same (Turbine p) Bend e = absurd (cc)
kind_same (Substation f p) (Turbine q) e = absurd (cc)
kind_same (Substation f p) (Substation g q) e =
    let a : p ≡ q = cc in
    let b : f ≡ g = cc in
    cc
kind_same (Substation f p) Bend e = absurd (cc)
kind_same Bend (Turbine q) e = absurd (cc)
kind_same Bend (Substation g q) e = absurd (cc)
kind_same Bend Bend e = refl

-- rules that are written alike are one
rule_same : (j k : PairRule) → raw_rule j ≡ raw_rule k → j ≡ k
rule_same (Charge p) (Charge q) e = let f : p ≡ q = cc in ap Charge f
rule_same (Charge p) Closed e = absurd (cc)
rule_same Closed (Charge q) e = absurd (cc)
rule_same Closed Closed e = refl

-- types of the same numbers are one
type_same : (t u : CableType) → t.capacity ≡ u.capacity → t.price ≡ u.price → t.loss ≡ u.loss → t ≡ u
type_same t u c p l =
    let F : ℕ → CableType = λ z. record t { capacity = z } in
    let G : ℕ → CableType = λ z. record t { capacity = u.capacity; price = z } in
    let H : ℕ → CableType = λ z. record u { loss = z } in
    ap F c ∙ ap G p ∙ ap H l

-- points of the same name, place and kind are one
point_same : (p q : Point) → p.name ≡ q.name → p.at ≡ q.at → p.kind ≡ q.kind → p ≡ q
point_same p q n a k =
    let F : List ℕ → Point = λ z. record p { name = z } in
    let G : Place → Point = λ z. record p { name = q.name; at = z } in
    let H : Kind → Point = λ z. record q { kind = z } in
    ap F n ∙ ap G a ∙ ap H k

-- pair rules on the same points are one
pair_same : (p q : Pair) → p.a ≡ q.a → p.b ≡ q.b → p.rule ≡ q.rule → p ≡ q
pair_same p q a b r =
    let F : ℕ → Pair = λ z. record p { a = z } in
    let G : ℕ → Pair = λ z. record p { a = q.a; b = z } in
    let H : PairRule → Pair = λ z. record q { rule = z } in
    ap F a ∙ ap G b ∙ ap H r

-- a number that is written is one
number_same : (o : Option ℤ) (m n : ℕ) → o ≡ Some (pos m) → o ≡ Some (pos n) → m ≡ n
number_same o m n h k = cc

-- the place of two coordinates is one
pub place_same : (x y : Option ℤ) (a b : Place) → IsAt x y a → IsAt x y b → a ≡ b
place_same x y a b h k =
    let p = h.x_is in
    let q = k.x_is in
    let r = h.y_is in
    let s = k.y_is in
    one_place a b (cc) (cc)

-- an item makes one draft of a draft in which names differ
pub adds_same : (d : Draft) (item : RawItem) (e f : Draft) → NamesDiffer d → Adds d item e → Adds d item f → e ≡ f
adds_same d (AVersion v) e f names h k =
    let F : Version → Draft = λ w. record d { stage = 1; site = record d.site { version = w } } in
    h.2 ∙ ap F (version_same h.0 k.0 (number_same v (version_number h.0) (version_number k.0) h.1 k.1)) ∙ sym k.2
adds_same d (AMode m) e f names h k =
    let F : Mode → Draft = λ w. record d { stage = 2; site = record d.site { mode = w } } in
    let a = h.1 in
    let b = k.1 in
    let same : h.0 ≡ k.0 = cc in
    h.2 ∙ ap F same ∙ sym k.2
adds_same d (AType capacity price loss) e f names h k =
    let F : CableType → Draft = λ t. record d { site = record d.site { types = d.site.types ++ t ∷ [] } } in
    let t = h.0 in
    let u = k.0 in
    h.4 ∙ ap F (type_same t u (number_same capacity t.capacity u.capacity h.1 k.1) (number_same price t.price u.price h.2 k.2) (number_same loss t.loss u.loss h.3 k.3)) ∙ sym k.4
adds_same d (APoint name x y kind) e f names h k =
    let F : Point → Draft = λ p. record d { stage = 3; site = record d.site { points = d.site.points ++ p ∷ [] } } in
    let p = h.0 in
    let q = k.0 in
    h.4 ∙ ap F (point_same p q (h.1 ∙ sym k.1) (place_same x y p.at q.at h.2 k.2) (kind_same p.kind q.kind (sym h.3 ∙ k.3))) ∙ sym k.4
adds_same d (AnObstacle i) e f names h k =
    let F : ℕ → Draft = λ n. record d { stage = 4; corners = []; missing = n } in
    h.2 ∙ ap F (number_same i h.0 k.0 h.1 k.1) ∙ sym k.2
adds_same d (ACorner x y) e f names h k =
    let F : Place → Draft = λ c. with_corner d c d.missing in
    h.2 ∙ ap F (place_same x y h.0 k.0 h.1 k.1) ∙ sym k.2
adds_same d (APair a b rule) e f names h k =
    let F : Pair → Draft = λ p. record d { stage = 5; site = record d.site { pairs = d.site.pairs ++ p ∷ [] } } in
    let p = h.0 in
    let q = k.0 in
    h.6
    ∙ ap F (pair_same p q (one_number d.site.points p.a q.a names h.1 k.1 (h.3 ∙ sym k.3)) (one_number d.site.points p.b q.b names h.2 k.2 (h.4 ∙ sym k.4)) (rule_same p.rule q.rule (sym h.5 ∙ k.5)))
    ∙ sym k.6
adds_same d TheEnd e f names h k = h ∙ sym k
adds_same d Misshapen e f names h k = absurd h
adds_same d Stray e f names h k = absurd h
adds_same d Unended e f names h k = absurd h
adds_same d Missing e f names h k = absurd h
adds_same d Overlong e f names h k = absurd h

-- a corner changes no point
corner_names : (d : Draft) (c : Place) (missing : ℕ) → NamesDiffer d → NamesDiffer (with_corner d c missing)
corner_names d c zero names = names
corner_names d c (suc zero) names = names
corner_names d c (suc (suc n)) names = names

-- a good item keeps the names different
pub names_kept : (d e : Draft) (item : RawItem) → NamesDiffer d → IsGood d item → Adds d item e → NamesDiffer e
names_kept d e (AVersion v) names good adds = let P : Draft → Type 0 = NamesDiffer in subst P (sym adds.2) names
names_kept d e (AMode m) names good adds = let P : Draft → Type 0 = NamesDiffer in subst P (sym adds.2) names
names_kept d e (AType c p l) names good adds = let P : Draft → Type 0 = NamesDiffer in subst P (sym adds.4) names
names_kept d e (APoint name x y kind) names good adds =
    let P : Draft → Type 0 = NamesDiffer in
    let p = adds.0 in
    subst P (sym adds.4)
    (all_pairs_push (λ q r. q.name ≢ r.name) d.site.points p names (λ k q l same. good SameName (k, get_or d.site.points k q, l, get_or_default d.site.points k (get_or d.site.points k q) q l, same ∙ adds.1)))
names_kept d e (AnObstacle k) names good adds = let P : Draft → Type 0 = NamesDiffer in subst P (sym adds.2) names
names_kept d e (ACorner x y) names good adds = let P : Draft → Type 0 = NamesDiffer in subst P (sym adds.2) (corner_names d adds.0 d.missing names)
names_kept d e (APair a b rule) names good adds = let P : Draft → Type 0 = NamesDiffer in subst P (sym adds.6) names
names_kept d e TheEnd names good adds = let P : Draft → Type 0 = NamesDiffer in subst P (sym adds) names
names_kept d e Misshapen names good adds = absurd adds
names_kept d e Stray names good adds = absurd adds
names_kept d e Unended names good adds = absurd adds
names_kept d e Missing names good adds = absurd adds
names_kept d e Overlong names good adds = absurd adds
