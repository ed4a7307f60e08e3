-- The numbers of what is accepted lie within the ranges of their fields.
use Rattle.std.proofs.Common.{ℕ, ◌<◌, ◌≤◌, ℤ, pos, List, [], ◌∷◌, length, map, Some, sym, ap, subst, arith}
use Rattle.std.specs.Prelude.{All}
use Rattle.std.proofs.lemmas.Option.{slice_get_within, slice_get-get_or}
use Rattle.std.proofs.lemmas.List.Elements.{All-nil, All-cons, All-head, All-tail, All-weaker}
use Rattle.cable_definitions.specs.declared.cable.Arc.{Arc}
use Rattle.cable_definitions.specs.declared.row.RowKind.{RowKind}
use Rattle.cable_definitions.specs.declared.row.RowKind.TheVariants.{Out, Flow, Inlet, Bend, Power, One, Cut}
use Rattle.cable_definitions.specs.declared.row.Mark.TheVariants.{Free}
use Rattle.cable_definitions.specs.declared.row.Why.{Why}
use Rattle.cable_definitions.specs.declared.row.Why.TheVariants.{Row as RowWhy, Pair, Load, Loop, Power as PowerWhy, Ceiling}
use Rattle.cable_definitions.specs.declared.row.Act.{Act}
use Rattle.cable_definitions.specs.declared.row.Act.TheVariants.{Split, Stop, Dead, Full}
use Rattle.cable_definitions.specs.declared.site.Point.{Point}
use Rattle.cable_definitions.specs.Naming.{IsName}
use Rattle.cable_definitions.specs.Site.{Site, IsValid}
use Rattle.cable_definitions.specs.Arcs.{AreArcs}
use Rattle.cable_definitions.specs.Items.{within, IsWithin}
use Rattle.cable_definitions.specs.Row.{Row, InRange, IsWellFormed, member_count}
use Rattle.cable_definitions.specs.Text.{name_of, name_from}
use Rattle.cable_definitions.specs.Tree.{ProofState, Node, marks_of, used_cables, IsDead, IsActed}
use Rattle.cable_definitions.specs.Refusal.{member_field}
use Rattle.cable_definitions.proofs.Lists.{listed_out}
use Rattle.proof_laws.proofs.Lists.{all_from}
use Rattle.proof_laws.proofs.Boxes.{marks_of-at}
use Rattle.proof_laws.proofs.FullLemma.{within-substation, used-candidate}
use Rattle.document_laws.proofs.Going.{point_at}
use Rattle.document_laws.proofs.Counting.{arcs-most}
use Rattle.document_laws.proofs.Spelled.{count-within, FitsAct}

-- ---- points
-- a point of the site
pub point-below : (s : Site) → IsValid s → (p : ℕ) → p < length s.points → p < 256
point-below s valid p h = let l = valid.points_count in omega (arith, l, h)

-- it has a name
pub point-named : (s : Site) → IsValid s → (p : ℕ) → p < length s.points → IsName (name_of s p)
point-named s valid p h =
    let d : Point = (point_at s.points p h).0 in
    subst (λ (w : List ℕ). IsName w) (sym (ap name_from (slice_get-get_or s.points p d h))) (valid.names p d h)

-- ---- rows
-- members are numbers of points or arcs
pub members-below : (s : Site) (arcs : List Arc) (row : Row) → IsWellFormed s arcs row → All (λ m. m < member_count s arcs row.kind) row.members
members-below s arcs row formed = all_from (λ m. m < member_count s arcs row.kind) row.members (λ i m e. formed InRange i 0 m e)

count_most : (s : Site) (arcs : List Arc) (kind : RowKind) → IsValid s → AreArcs s arcs → member_count s arcs kind ≤ 65280
count_most s arcs Out valid are = let l = valid.points_count in omega (arith, l)
count_most s arcs Flow valid are = let l = valid.points_count in omega (arith, l)
count_most s arcs Inlet valid are = let l = valid.points_count in omega (arith, l)
count_most s arcs Bend valid are = let l = valid.points_count in omega (arith, l)
count_most s arcs Power valid are = let l = valid.points_count in omega (arith, l)
count_most s arcs One valid are = arcs-most s arcs valid are
count_most s arcs Cut valid are = let l = valid.points_count in omega (arith, l)

pub members-small : (s : Site) (arcs : List Arc) (kind : RowKind) (ms : List ℕ) → IsValid s → AreArcs s arcs → All (λ m. m < member_count s arcs kind) ms → All (λ m. m < 65280) ms
members-small s arcs kind ms valid are h = let l = count_most s arcs kind valid are in All-weaker (λ m. m < member_count s arcs kind) (λ m. m < 65280) (λ m b. omega (arith, l, b)) ms h

point_within : (s : Site) → IsValid s → (m : ℕ) → m < length s.points → IsWithin (within (Some (pos m)) (pos 0) (pos 255))
point_within s valid m h = let l = point-below s valid m h in count-within m 0 255 (omega arith) (omega (arith, l))

member_within : (s : Site) (arcs : List Arc) (kind : RowKind) (m : ℕ) → IsValid s → AreArcs s arcs → m < member_count s arcs kind → IsWithin (member_field kind (pos m))
member_within s arcs Out m valid are h = point_within s valid m h
member_within s arcs Flow m valid are h = point_within s valid m h
member_within s arcs Inlet m valid are h = point_within s valid m h
member_within s arcs Bend m valid are h = point_within s valid m h
member_within s arcs Power m valid are h = point_within s valid m h
member_within s arcs One m valid are h = let l = arcs-most s arcs valid are in count-within m 0 65279 (omega arith) (omega (arith, l, h))
member_within s arcs Cut m valid are h = point_within s valid m h

pub members-within : (s : Site) (arcs : List Arc) (kind : RowKind) (ms : List ℕ) → IsValid s → AreArcs s arcs → All (λ m. m < member_count s arcs kind) ms
    → All IsWithin (map (member_field kind) (map pos ms))
members-within s arcs kind [] valid are h = All-nil IsWithin
members-within s arcs kind (m ∷ ms) valid are h =
    All-cons IsWithin (member_field kind (pos m)) (map (member_field kind) (map pos ms)) (member_within s arcs kind m valid are (All-head (λ k. k < member_count s arcs kind) m ms h))
    (members-within s arcs kind ms valid are (All-tail (λ k. k < member_count s arcs kind) m ms h))

-- ---- acts
dead_fits : (s : Site) (arcs : List Arc) (kept : ProofState) (v bound : ℕ) (why : Why) → IsValid s → AreArcs s arcs → length kept.rows ≤ 16384
    → IsDead s arcs kept.rows (marks_of arcs kept.nodes v) bound why → FitsAct (Dead why)
dead_fits s arcs kept v bound (RowWhy r) valid are rows h = let l = slice_get_within kept.rows r h.0 h.1 in omega (arith, l, rows)
dead_fits s arcs kept v bound (Pair a b) valid are rows h =
    let most = arcs-most s arcs valid are in
    let l = slice_get_within arcs a h.1.first h.1.first_is in
    let m = slice_get_within arcs b h.1.second h.1.second_is in
    (omega (arith, l, most), omega (arith, m, most))
dead_fits s arcs kept v bound (Load p) valid are rows h = point-below s valid p h.0
dead_fits s arcs kept v bound (Loop p) valid are rows h =
    let (i, c, e, f) = listed_out (used_cables arcs (marks_of arcs kept.nodes v)) p h.0 in
    let own = used-candidate s arcs (marks_of arcs kept.nodes v) are i c e in
    point-below s valid p (subst (λ (q : ℕ). q < length s.points) f (slice_get_within s.points c.from own.from own.from_is))
dead_fits s arcs kept v bound (PowerWhy p) valid are rows h = point-below s valid p (within-substation s p h.0)
dead_fits s arcs kept v bound Ceiling valid are rows h = tt

pub act-fits : (s : Site) (arcs : List Arc) (kept : ProofState) (v : ℕ) (node : Node) (value : ℤ) (act : Act) (nodes : List Node) → IsValid s → AreArcs s arcs → length kept.rows ≤ 16384
    → IsActed s arcs kept v node value act nodes → FitsAct act
act-fits s arcs kept v node value (Split a) nodes valid are rows h =
    let most = arcs-most s arcs valid are in
    let l = (marks_of-at arcs kept.nodes v a Free h.2).0 in
    omega (arith, l, most)
act-fits s arcs kept v node value Stop nodes valid are rows h = tt
act-fits s arcs kept v node value (Dead why) nodes valid are rows h = dead_fits s arcs kept v h.0 why valid are rows h.2
act-fits s arcs kept v node value Full nodes valid are rows h = tt
