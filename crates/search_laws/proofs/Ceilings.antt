-- The ceiling is small.
use Rattle.std.proofs.Common.{◌≡◌, ℕ, suc, ◌+◌, ◌*◌, ◌^◌, ◌<◌, ◌≤◌, Bool, true, false, List, [], ◌∷◌, map, fold, max, cond, get_or, slice_get, Some, None, Option, option_map, refl, sym, ◌∙◌, ap, arith}
use Rattle.std.specs.Prelude.{◌==◌, find}
use Rattle.std.specs.List.{enumerate_from, position_or_len}
use Rattle.std.proofs.Math.Nat.{max-le}
use Rattle.std.proofs.lemmas.Nat.{mul-le}
use Rattle.std.proofs.lemmas.List.Sums.{sum_by-le}
use Rattle.std.proofs.lemmas.List.Folds.{find_at}
use Rattle.std.proofs.lemmas.List.FromFn.{length-enumerate_from}
use Rattle.std.proofs.lemmas.Option.{slice_get-map}
use Rattle.cable_definitions.specs.declared.cable.Arc.{Arc}
use Rattle.cable_definitions.specs.declared.site.CableType.{CableType}
use Rattle.cable_definitions.specs.declared.site.Pair.{Pair}
use Rattle.cable_definitions.specs.declared.site.PairRule.{PairRule}
use Rattle.cable_definitions.specs.declared.site.PairRule.TheVariants.{Charge, Closed}
use Rattle.cable_definitions.specs.declared.site.Point.{Point}
use Rattle.cable_definitions.specs.Site.{Site, IsValid, IsCableType, IsPair, IsPairRule, joins}
use Rattle.cable_definitions.specs.Arcs.{is_substation, cost_of, cost_from, length_between, charge_of, charge_from, rule_from}
use Rattle.cable_definitions.specs.Tree.{ceiling, greatest_out, greatest_of_types}
use Rattle.number_laws.proofs.Places.{slice_get-enumerate_from}
use Rattle.layout_laws.proofs.Typing.{all-at}
use Rattle.search_laws.proofs.Lengths.{length_between_small}

-- ---- the cost of a cable
-- what a metre costs at most
rate_small : (price loss load : ℕ) → price ≤ 1000000 → loss ≤ 100 → load ≤ 10000 → price + loss * load * load ≤ 10001000000
rate_small price loss load p l h =
    let a : loss * load ≤ 100 * 10000 = mul-le loss load 100 10000 l h in
    let b : loss * load * load ≤ 100 * 10000 * 10000 = mul-le (loss * load) load (100 * 10000) 10000 a h in
    omega arith

-- what all metres cost at most
metres_small : (metres rate : ℕ) → metres ≤ 2828428 → rate ≤ 10001000000 → metres * rate ≤ 28287108428000000
metres_small metres rate m r = let a : metres * rate ≤ 2828428 * 10001000000 = mul-le metres rate 2828428 10001000000 m r in omega arith

-- what a charge is at most
rule_small : (r : PairRule) → IsPairRule r → charge_from (Some r) ≤ 1000000000000
rule_small (Charge amount) h = h
rule_small Closed h = omega arith

charge_small : (s : Site) (a b : ℕ) → IsValid s → charge_of s a b ≤ 1000000000000
charge_small s a b valid = by_pair (find (joins a b) s.pairs) refl
  where
    by_pair : (found : Option Pair) → find (joins a b) s.pairs ≡ found → charge_from (rule_from found) ≤ 1000000000000
    by_pair None e = omega arith
    by_pair (Some p) e = rule_small p.rule (all-at (IsPair s.points) s.pairs (position_or_len (joins a b) s.pairs) p valid.pairs (sym (find_at (joins a b) s.pairs) ∙ e)).rule

-- the cost of a cable whose load is at most 10,000
cost_small : (s : Site) (p q grade carried : ℕ) → IsValid s → carried ≤ 10000 → cost_of s p q grade carried ≤ 28400000000000000
cost_small s p q grade carried valid h = by_type (slice_get s.types grade) refl
  where
    by_type : (o : Option CableType) → slice_get s.types grade ≡ o → cost_from s p q o carried ≤ 28400000000000000
    by_type None e = omega arith
    by_type (Some t) e =
        let k : IsCableType s.version t = all-at (IsCableType s.version) s.types grade t valid.types e in
        let rate = rate_small t.price t.loss carried k.price k.loss h in
        let metres = metres_small (length_between (slice_get s.points p) (slice_get s.points q)) (t.price + t.loss * carried * carried) (length_between_small (slice_get s.points p) (slice_get s.points q)) rate in
        let charge = charge_small s p q valid in
        omega (arith, metres, charge)

-- ---- the ceiling
-- a greatest value is at most what each is
fold_max-le : {X : Type 0} → (f : X → ℕ) (m most : ℕ) (xs : List X) → most ≤ m → ((i : ℕ) (x : X) → slice_get xs i ≡ Some x → f x ≤ m) → fold (λ k x. max k (f x)) most xs ≤ m
fold_max-le f m most [] l each = l
fold_max-le f m most (x ∷ xs) l each = fold_max-le f m (max most (f x)) xs (max-le l (each 0 x refl)) (λ i. each (suc i))

-- a capacity of a type of the site
capacity_at : (s : Site) (i capacity : ℕ) → IsValid s → slice_get (map (λ (t : CableType). t.capacity) s.types) i ≡ Some capacity → capacity ≤ 10000
capacity_at s i capacity valid e = by_type (slice_get s.types i) refl
  where
    by_type : (o : Option CableType) → slice_get s.types i ≡ o → capacity ≤ 10000
    by_type None f = absurd (let none : None ≡ Some capacity = sym (ap (option_map (λ (t : CableType). t.capacity)) f) ∙ sym (slice_get-map (λ (t : CableType). t.capacity) s.types i) ∙ e in cc)
    by_type (Some t) f =
        let some : Some t.capacity ≡ Some capacity = sym (ap (option_map (λ (t : CableType). t.capacity)) f) ∙ sym (slice_get-map (λ (t : CableType). t.capacity) s.types i) ∙ e in
        let same : t.capacity ≡ capacity = cc in
        let small = (all-at (IsCableType s.version) s.types i t valid.types f).capacity in
        omega (arith, same, small)

-- the greatest cost of an arc is small
greatest_small : (s : Site) (a : Arc) → IsValid s → greatest_of_types s a ≤ 28400000000000000
greatest_small s a valid =
    fold_max-le (λ (x : ℕ × ℕ). cost_of s a.from a.to x.0 x.1) 28400000000000000 0 (enumerate_from 0 (map (λ (t : CableType). t.capacity) s.types)) (omega arith)
    (λ i x e. cost_small s a.from a.to x.0 x.1 valid (capacity_at s i x.1 valid (slice_get-enumerate_from 0 (map (λ (t : CableType). t.capacity) s.types) i x e).1))

-- one of two small numbers
either_small : (b : Bool) (x m : ℕ) → x ≤ m → cond b x 0 ≤ m
either_small true x m l = l
either_small false x m l = omega arith

other_small : (b : Bool) (x m : ℕ) → x ≤ m → cond b 0 x ≤ m
other_small true x m l = omega arith
other_small false x m l = l

-- the greatest cost of an arc out of a point
out_small : (s : Site) (arcs : List Arc) (p : ℕ) → IsValid s → greatest_out s arcs p ≤ 28400000000000000
out_small s arcs p valid =
    fold_max-le (λ (a : Arc). cond (a.from == p) (greatest_of_types s a) 0) 28400000000000000 0 arcs (omega arith)
    (λ i a e. either_small (a.from == p) (greatest_of_types s a) 28400000000000000 (greatest_small s a valid))

-- the ceiling is less than 2 ^ 63
pub ceiling_small : (s : Site) (arcs : List Arc) → IsValid s → ceiling s arcs < 2 ^ 63
ceiling_small s arcs valid =
    let points : List (ℕ × Point) = enumerate_from 0 s.points in
    let value : ℕ × Point → ℕ = λ x. cond (is_substation x.1.kind) 0 (greatest_out s arcs x.0) in
    let each = sum_by-le value 28400000000000000 points (λ k d h. other_small (is_substation (get_or points k d).1.kind) (greatest_out s arcs (get_or points k d).0) 28400000000000000 (out_small s arcs (get_or points k d).0 valid)) in
    let count = length-enumerate_from 0 s.points in
    let few = valid.points_count in
    omega (arith, each, count, few)
