-- What a line names, and where a reader goes on after it, is determined.
use Rattle.std.proofs.Common.{◌≡◌, ℕ, ◌<◌, ◌≤◌, ◌⊎◌, ⊎_elim, ℤ, pos, List, [], ◌∷◌, ◌++◌, length, slice_get, get_or, Some, None, sym, ap, ◌∙◌, subst, arith}
use Rattle.std.specs.Prelude.{nat_abs}
use Rattle.std.proofs.lemmas.Option.{slice_get-get_or, slice_get_cases}
use Rattle.std.proofs.lemmas.Bool.{cases_order}
use Rattle.cable_definitions.specs.declared.cable.Cable.{Cable}
use Rattle.cable_definitions.specs.declared.cable.Arc.{Arc}
use Rattle.cable_definitions.specs.declared.claim.Claim.{Claim}
use Rattle.cable_definitions.specs.declared.claim.Claim.TheVariants.{Partial}
use Rattle.cable_definitions.specs.declared.site.Point.{Point}
use Rattle.cable_definitions.specs.Site.{Site, IsValid}
use Rattle.cable_definitions.specs.Tree.{RowItem, WorkItem, ProofState, Accepts}
use Rattle.cable_definitions.specs.Text.{name_of, name_from}
use Rattle.cable_definitions.specs.Refusal.{RawClaim, AnOptimal, AGap, AnOpen, AnInfeasible, DocLine, BudgetLine, RowLine, WorkLine, WeightLine, ActLine, LayoutLine, CableLine, ClaimLine, EndLine, AtItem, AtWeights, Reader, IsCableOf, IsClaimOf, row_from, act_from, after_cable, GoesOn}
use Rattle.proof_laws.proofs.FullLemma.{within-turbine}
use Rattle.document_laws.proofs.Accepted.{accept-same}

-- the point of a number
pub point_at : (points : List Point) (k : ℕ) → k < length points → (p : Point) × (slice_get points k ≡ Some p)
point_at points k l =
    ⊎_elim (λ (w : (x : Point) × (k < length points) × (slice_get points k ≡ Some x) × (get_or points k x ≡ x)). (w.0, w.2))
    (λ (w : (length points ≤ k) × (slice_get points k ≡ None)). absurd (omega (arith, w.0, l)))
    (slice_get_cases points k).1

-- points of one name are one
pub name-tells : (s : Site) → IsValid s → (p q : ℕ) → p < length s.points → q < length s.points → name_of s p ≡ name_of s q → p ≡ q
name-tells s valid p q l m e =
    let d : Point = (point_at s.points p l).0 in
    let names : (get_or s.points p d).name ≡ (get_or s.points q d).name = ap name_from (sym (slice_get-get_or s.points p d l)) ∙ e ∙ ap name_from (slice_get-get_or s.points q d m) in
    ⊎_elim (λ (f : p ≡ q). f)
    (λ (w : (p < q) ⊎ (q < p)).
    ⊎_elim (λ (f : p < q). absurd (valid.names_differ p q d f m names)) (λ (f : q < p). absurd (valid.names_differ q p d f l (sym names))) w)
    (cases_order p q)

-- cables are one where their numbers are
same_cable : (c d : Cable) → c.from ≡ d.from → c.to ≡ d.to → c.grade ≡ d.grade → c ≡ d
same_cable c d e f g = ap (λ n. record c { from = n }) e ∙ ap (λ n. record c { from = d.from; to = n }) f ∙ ap (λ n. record d { grade = n }) g

-- a line names one cable
pub cable-same : (s : Site) → IsValid s → (r : Reader) (a b : List ℕ) (t : ℤ) (c d : Cable) → IsCableOf s r a b t c → IsCableOf s r a b t d → c ≡ d
cable-same s valid r a b t c d h k =
    let types : pos c.grade ≡ pos d.grade = sym h.grade ∙ k.grade in
    same_cable c d (name-tells s valid c.from d.from h.from_listed k.from_listed (h.from ∙ sym k.from)) (name-tells s valid c.to d.to h.to_listed k.to_listed (h.to ∙ sym k.to)) (cc)

-- a line makes one claim
pub claim-same : (s : Site) → IsValid s → (raw : RawClaim) (claim other : Claim) → IsClaimOf s raw claim → IsClaimOf s raw other → claim ≡ other
claim-same s valid (AnOptimal c) claim other h k = h ∙ sym k
claim-same s valid (AGap c b) claim other h k = h ∙ sym k
claim-same s valid (AnOpen b name) claim other (p, t, e, h) (q, u, f, k) =
    h ∙ ap (Partial (nat_abs b)) (name-tells s valid p q (within-turbine s p t) (within-turbine s q u) (e ∙ sym f)) ∙ sym k
claim-same s valid AnInfeasible claim other h k = h ∙ sym k

-- the work that a reader stands in
pub same_node : (v w : ℕ) (xs ys : List (ℕ × ℤ)) → AtWeights v 0 xs ≡ AtWeights w 0 ys → v ≡ w
same_node v w xs ys e = cc

pub same_weights : (v w : ℕ) (xs ys : List (ℕ × ℤ)) → AtWeights v 0 xs ≡ AtWeights w 0 ys → xs ≡ ys
same_weights v w xs ys e = cc

-- a reader goes on in one way
pub goes-same : (s : Site) → IsValid s → (arcs : List Arc) (r : Reader) (l : DocLine) (next other : Reader) → GoesOn s arcs r l next → GoesOn s arcs r l other → next ≡ other
goes-same s valid arcs r (BudgetLine n) next other h k = h ∙ sym k
goes-same s valid arcs r (RowLine kind members) next other (kept, a, e) (new, b, f) =
    e ∙ ap (λ (held : ProofState). record r { kept = held }) (accept-same s arcs r.budget r.kept (RowItem (row_from kind members)) kept new a b) ∙ sym f
goes-same s valid arcs r (WorkLine v k) next other h g = h ∙ sym g
goes-same s valid arcs r (WeightLine row w) next other h k = h ∙ sym k
goes-same s valid arcs r (ActLine act) next other (v, weights, kept, at, a, e) (w, others, new, there, b, f) =
    let one = sym at ∙ there in
    let moved = subst (λ (u : ℕ). Accepts s arcs r.budget r.kept (WorkItem u weights (act_from act)) kept) (same_node v w weights others one) a in
    let here = subst (λ (ws : List (ℕ × ℤ)). Accepts s arcs r.budget r.kept (WorkItem w ws (act_from act)) kept) (same_weights v w weights others one) moved in
    e ∙ ap (λ (held : ProofState). record r { phase = AtItem; kept = held }) (accept-same s arcs r.budget r.kept (WorkItem w others (act_from act)) kept new here b) ∙ sym f
goes-same s valid arcs r (LayoutLine k) next other h g = h ∙ sym g
goes-same s valid arcs r (CableLine a b t) next other (c, h, e) (d, k, f) =
    e ∙ ap (λ (x : Cable). record r { phase = after_cable r.phase; cables = r.cables ++ x ∷ [] }) (cable-same s valid r a b t c d h k) ∙ sym f
goes-same s valid arcs r (ClaimLine raw) next other h k = h ∙ sym k
goes-same s valid arcs r EndLine next other h k = h ∙ sym k
