-- What cables cost, and how much that is at most.
use Rattle.std.proofs.Common.{◌≡◌, ℕ, ◌+◌, ◌*◌, ◌<◌, ◌≤◌, List, length, get_or, slice_get, Option, Some, None, Bool, sym, ◌∙◌, ap, subst, refl, arith}
use Rattle.std.specs.Prelude.{find}
use Rattle.std.specs.List.{position_or_len}
use Rattle.std.proofs.lemmas.Nat.{mul-le}
use Rattle.std.proofs.lemmas.List.Folds.{find_at}
use Rattle.std.proofs.lemmas.Option.{slice_get_within, get_or_from_slice_get, slice_get-get_or}
use Rattle.cable_definitions.specs.declared.site.CableType.{CableType}
use Rattle.cable_definitions.specs.declared.site.Pair.{Pair}
use Rattle.cable_definitions.specs.declared.site.PairRule.{PairRule}
use Rattle.cable_definitions.specs.declared.site.PairRule.TheVariants.{Charge, Closed}
use Rattle.cable_definitions.specs.declared.site.Point.{Point}
use Rattle.cable_definitions.specs.Plane.{length_of}
use Rattle.cable_definitions.specs.Site.{Site, IsValid, IsPairRule, IsCableType, joins}
use Rattle.cable_definitions.specs.Arcs.{IsPoint, cost_by, cost_of, cost_from, length_between, charge_of, charge_from, rule_from}

-- what a metre costs at most
pub rate_small : (price loss load : ℕ) → price ≤ 1000000 → loss ≤ 100 → load ≤ 10000 → price + loss * load * load ≤ 10001000000
rate_small price loss load p l h =
    let a : loss * load ≤ 100 * 10000 = mul-le loss load 100 10000 l h in
    let b : loss * load * load ≤ 100 * 10000 * 10000 = mul-le (loss * load) load (100 * 10000) 10000 a h in
    omega arith

-- what all metres cost at most
pub metres_small : (metres rate : ℕ) → metres ≤ 2828428 → rate ≤ 10001000000 → metres * rate ≤ 28287108428000000
metres_small metres rate m r = let a : metres * rate ≤ 2828428 * 10001000000 = mul-le metres rate 2828428 10001000000 m r in omega arith

-- an element that is found is one that stands in the list
found_at : (f : Pair → Bool) (pairs : List Pair) (p : Pair) → find f pairs ≡ Some p → slice_get pairs (position_or_len f pairs) ≡ Some p
found_at f pairs p e = sym (find_at f pairs) ∙ e

charge_of_rule : (r : PairRule) → IsPairRule r → charge_from (Some r) ≤ 1000000000000
charge_of_rule (Charge amount) h = h
charge_of_rule Closed h = omega arith

charge_found : (s : Site) (f : Pair → Bool) → IsValid s → (found : Option Pair) → find f s.pairs ≡ found → charge_from (rule_from found) ≤ 1000000000000
charge_found s f v None e = omega arith
charge_found s f v (Some p) e =
    let at = found_at f s.pairs p e in
    let i = position_or_len f s.pairs in
    charge_of_rule p.rule (subst (λ (q : Pair). IsPairRule q.rule) (get_or_from_slice_get s.pairs i p p at) (v.pairs i p (slice_get_within s.pairs i p at)).rule)

-- no charge exceeds this
pub charge_small : (s : Site) (a b : ℕ) → IsValid s → charge_of s a b ≤ 1000000000000
charge_small s a b v = charge_found s (joins a b) v (find (joins a b) s.pairs) refl

-- a type that was read is that of its number
pub type_is : (s : Site) (types : List CableType) (grade : ℕ) (d : CableType) → types ≡ s.types → grade < length s.types → slice_get s.types grade ≡ Some (get_or types grade d)
type_is s types grade d e h = slice_get-get_or s.types grade d h ∙ ap (λ (ts : List CableType). Some (get_or ts grade d)) (sym e)

-- a listed type is in range
pub type_at : (s : Site) (grade : ℕ) (t : CableType) → IsValid s → slice_get s.types grade ≡ Some t → IsCableType s.version t
type_at s grade t v e = subst (IsCableType s.version) (get_or_from_slice_get s.types grade t t e) (v.types grade t (slice_get_within s.types grade t e))

-- the cost of a cable between two points of a type, where there are such
abbrev pub cost_read : Option Point → Option Point → Option CableType → ℕ → ℕ → ℕ
cost_read a b None load charge = 0
cost_read a b (Some t) load charge = cost_by (length_between a b) t load charge

-- it is the cost that is defined
pub cost_from_read : (s : Site) (p q load : ℕ) (o : Option CableType) → cost_from s p q o load ≡ cost_read (slice_get s.points p) (slice_get s.points q) o load (charge_of s p q)
cost_from_read s p q load None = refl
cost_from_read s p q load (Some t) = refl

-- the cost of a cable whose parts were read
pub cost_is : (s : Site) (p q grade load metres : ℕ) (from to : Point) (t : CableType) → IsPoint s p from → IsPoint s q to → slice_get s.types grade ≡ Some t → metres ≡ length_of from.at to.at
    → cost_by metres t load (charge_of s p q) ≡ cost_of s p q grade load
cost_is s p q grade load metres from to t f g h m =
    ap (λ (l : ℕ). cost_by l t load (charge_of s p q)) m
    ∙ ap (λ (x : Option Point). cost_read x (Some to) (Some t) load (charge_of s p q)) (sym f)
    ∙ ap (λ (x : Option Point). cost_read (slice_get s.points p) x (Some t) load (charge_of s p q)) (sym g)
    ∙ ap (λ (x : Option CableType). cost_read (slice_get s.points p) (slice_get s.points q) x load (charge_of s p q)) (sym h)
    ∙ sym (cost_from_read s p q load (slice_get s.types grade))
