-- Points by their names, and the cable lines that name them.
use Rattle.std.proofs.Common.{◌≡◌, ◌≢◌, ℕ, suc, ◌-◌, ◌<◌, ◌≤◌, ℤ, List, [], ◌∷◌, ◌++◌, length, get_or, Bool, true, false, refl, sym, ap, ◌∙◌, subst, arith, inl, inr, All, codes}
use Rattle.std.specs.Prelude.{slice_get, IsTrue}
use Rattle.std.specs.List.{Any, AllPairs}
use Rattle.std.specs.Fmt.{decimal}
use Rattle.std.proofs.lemmas.Bool.{cases_order}
use Rattle.std.proofs.lemmas.Option.{slice_get-get_or}
use Rattle.std.proofs.lemmas.List.{get_or_default}
use Rattle.std.proofs.lemmas.List.Elements.{All-nil}
use Rattle.cable_definitions.specs.declared.cable.Cable.{Cable}
use Rattle.cable_definitions.specs.declared.cable.Arc.{Arc as CandidateArc}
use Rattle.cable_definitions.specs.declared.claim.Cause.{Cause}
use Rattle.cable_definitions.specs.declared.claim.Cause.TheVariants.{Line, Form, Site as SiteCause, Row, Limit, Node, Weight, Arc, Dead, Full, Layout, Verdict}
use Rattle.cable_definitions.specs.declared.site.Point.{Point}
use Rattle.cable_definitions.specs.Site.{Site}
use Rattle.cable_definitions.specs.Arcs.{kind_of, is_turbine}
use Rattle.cable_definitions.specs.Items.{IsWithin}
use Rattle.cable_definitions.specs.Numeral.{spelling as spelled}
use Rattle.cable_definitions.specs.Text.{name_from, name_of, line, cable_line, Whole}
use Rattle.cable_definitions.specs.Refusal.{BudgetLine, RowLine, WorkLine, WeightLine, ActLine, LayoutLine, CableLine, ClaimLine, EndLine, line_spelling, Phase, AtCables, AtAnyCables, Reader, IsLineAt, IsWithinLimits, IsInOrder, IsCableOf, after_cable, GoesOn, IsFoundByReading, IsLeastCause}
use Rattle.cable_text.proofs.Numerals.{numeral-decimal}
use Rattle.proof_laws.proofs.FullLemma.{within-turbine}
use Rattle.line_words.specs.Words.{IsCut}
use Rattle.line_words.specs.Judged.{IsStanding, IsGoodLine, IsBad}
use Rattle.proof_text.specs.Cables.{IsCableNamed, IsAhead, IsNoCable, cables_left, cable_line_words}
use Rattle.proof_text.proofs.Causes.{line_of, first_layout, bad_refused}

-- ---- names
-- the name of a point that is listed
name_at : (xs : List Point) (p : ℕ) (d : Point) → p < length xs → name_from (slice_get xs p) ≡ (get_or xs p d).name
name_at xs p d l = ap name_from (slice_get-get_or xs p d l)

-- a point of this name is listed
there : (xs : List Point) (p : ℕ) (n : List ℕ) → p < length xs → name_from (slice_get xs p) ≡ n → Any (λ q. q.name ≡ n) xs
there [] p n l e = absurd (omega (arith, l))
there (x ∷ xs) p n l e =
    let d = get_or (x ∷ xs) p x in
    (p, get_or (x ∷ xs) p x, l, get_or_default (x ∷ xs) p (get_or (x ∷ xs) p x) x l, sym (name_at (x ∷ xs) p x l) ∙ e)

-- points of one name are one
one_name : (xs : List Point) (p q : ℕ) (n : List ℕ) → AllPairs (λ a b. a.name ≢ b.name) xs → p < length xs → q < length xs → name_from (slice_get xs p) ≡ n → name_from (slice_get xs q) ≡ n → p ≡ q
one_name [] p q n differ l m e f = absurd (omega (arith, l))
one_name (x ∷ xs) p q n differ l m e f =
    let at_p : (get_or (x ∷ xs) p x).name ≡ n = sym (name_at (x ∷ xs) p x l) ∙ e in
    let at_q : (get_or (x ∷ xs) q x).name ≡ n = sym (name_at (x ∷ xs) q x m) ∙ f in
    elim (cases_order p q) [ inl same ↦ same | inr o ↦ elim o [ inl lt ↦ absurd (differ p q x lt m (at_p ∙ sym at_q)) | inr gt ↦ absurd (differ q p x gt l (at_q ∙ sym at_p)) ] ]

-- where no point has a name, no cable has it
pub no_start : (s : Site) (a b : List ℕ) (z : ℤ) (c : Cable) → ¬ (Any (λ p. p.name ≡ a) s.points) → ¬ (IsCableNamed s a b z c)
no_start s a b z c none h = none (there s.points c.from a h.listed.from h.from)

pub no_finish : (s : Site) (a b : List ℕ) (z : ℤ) (c : Cable) → ¬ (Any (λ p. p.name ≡ b) s.points) → ¬ (IsCableNamed s a b z c)
no_finish s a b z c none h = none (there s.points c.to b h.listed.to h.to)

-- nor has a turbine it
pub no_point : (s : Site) (n : List ℕ) (p : ℕ) → ¬ (Any (λ q. q.name ≡ n) s.points) → IsTrue (is_turbine (kind_of s p)) → name_of s p ≢ n
no_point s n p none turbine e = none (there s.points p n (within-turbine s p turbine) e)

-- where the point of a name is no turbine, no turbine has it
pub no_turbine_named : (s : Site) (n : List ℕ) (p q : ℕ) → AllPairs (λ a b. a.name ≢ b.name) s.points → p < length s.points → name_of s p ≡ n → ¬ IsTrue (is_turbine (kind_of s p)) → IsTrue (is_turbine (kind_of s q)) → name_of s q ≢ n
no_turbine_named s n p q differ l e none turbine f =
    let P : ℕ → Type 0 = λ k. IsTrue (is_turbine (kind_of s k)) in
    none (subst P (one_name s.points q p n differ (within-turbine s q turbine) l f e) turbine)

-- cables of the same start stand behind the same cables
pub ahead_too : (s : Site) (a b : List ℕ) (z : ℤ) (c d : Cable) (ordered : Bool) (cables : List Cable) → AllPairs (λ p q. p.name ≢ q.name) s.points → IsCableNamed s a b z c → IsCableNamed s a b z d → IsAhead ordered cables c → IsAhead ordered cables d
ahead_too s a b z c d true cables differ h k ahead =
    let P : ℕ → Type 0 = λ n. All (λ e. e.from < n) cables in
    subst P (one_name s.points c.from d.from a differ h.listed.from k.listed.from h.from k.from) ahead
ahead_too s a b z c d false cables differ h k ahead = tt

-- ---- the line of a cable
pub no_cable : (ordered : Bool) (k : ℕ) (ws : List (List ℕ)) → ((a b : List ℕ) (t : ℤ) → ws ≢ cable_line_words a b t) → IsBad (cables_left ordered (suc k)) ws Form
no_cable true k ws none (BudgetLine n) h = let d = h.allowed in cc
no_cable true k ws none (RowLine kind members) h = let d = h.allowed in cc
no_cable true k ws none (WorkLine v j) h = let d = h.allowed in cc
no_cable true k ws none (WeightLine r w) h = let d = h.allowed in cc
no_cable true k ws none (ActLine act) h = let d = h.allowed in cc
no_cable true k ws none (LayoutLine j) h = let d = h.allowed in cc
no_cable true k ws none (CableLine a b t) h = none a b t h.words_are
no_cable true k ws none (ClaimLine claim) h = let d = h.allowed in cc
no_cable true k ws none EndLine h = let d = h.allowed in cc
no_cable false k ws none (BudgetLine n) h = let d = h.allowed in cc
no_cable false k ws none (RowLine kind members) h = let d = h.allowed in cc
no_cable false k ws none (WorkLine v j) h = let d = h.allowed in cc
no_cable false k ws none (WeightLine r w) h = let d = h.allowed in cc
no_cable false k ws none (ActLine act) h = let d = h.allowed in cc
no_cable false k ws none (LayoutLine j) h = let d = h.allowed in cc
no_cable false k ws none (CableLine a b t) h = none a b t h.words_are
no_cable false k ws none (ClaimLine claim) h = let d = h.allowed in cc
no_cable false k ws none EndLine h = let d = h.allowed in cc

pub cable_standing : (ordered : Bool) (k : ℕ) (ws : List (List ℕ)) (a b : List ℕ) (t : ℤ) → ws ≡ cable_line_words a b t → IsStanding (cables_left ordered (suc k)) ws (CableLine a b t)
cable_standing true k ws a b t e = record { words_are = e; members = tt; allowed = refl }
cable_standing false k ws a b t e = record { words_are = e; members = tt; allowed = refl }

cable_limits : (a b : List ℕ) (t : ℤ) → IsWithinLimits (CableLine a b t)
cable_limits a b t = (All-nil IsWithin, tt)

pub cable_good : (ordered : Bool) (k : ℕ) (ws : List (List ℕ)) (a b : List ℕ) (t : ℤ) → ws ≡ cable_line_words a b t → IsGoodLine (cables_left ordered (suc k)) ws (CableLine a b t)
cable_good ordered k ws a b t e = record { standing = cable_standing ordered k ws a b t e; limits = cable_limits a b t }

-- a cable that may stand there, and back
in_order : (ordered : Bool) (k : ℕ) (cables : List Cable) (c : Cable) → IsAhead ordered cables c → IsInOrder (cables_left ordered (suc k)) cables c
in_order true k cables c h = h
in_order false k cables c h = tt

order_back : (ordered : Bool) (k : ℕ) (cables : List Cable) (c : Cable) → IsInOrder (cables_left ordered (suc k)) cables c → IsAhead ordered cables c
order_back true k cables c h = h
order_back false k cables c h = tt

pub cable_of : (s : Site) (r : Reader) (ordered : Bool) (k : ℕ) (cables : List Cable) (a b : List ℕ) (t : ℤ) (c : Cable) → r.phase ≡ cables_left ordered (suc k) → r.cables ≡ cables → IsCableNamed s a b t c → IsAhead ordered cables c → IsCableOf s r a b t c
cable_of s r ordered k cables a b t c e f h ahead =
    let P : Phase → Type 0 = λ p. IsInOrder p r.cables c in
    let Q : List Cable → Type 0 = λ cs. IsInOrder (cables_left ordered (suc k)) cs c in
    record { from_listed = h.listed.from; to_listed = h.listed.to; grade_listed = h.listed.grade; from = h.from; to = h.to; grade = h.grade; in_order = subst P (sym e) (subst Q (sym f) (in_order ordered k cables c ahead)) }

-- where the reader stands after it
phase_after : (ordered : Bool) (k : ℕ) → after_cable (cables_left ordered (suc k)) ≡ cables_left ordered k
phase_after true k = let e : suc k - 1 ≡ k = omega arith in ap AtCables e
phase_after false k = let e : suc k - 1 ≡ k = omega arith in ap AtAnyCables e

pub cable_goes : (s : Site) (arcs : List CandidateArc) (r : Reader) (ordered : Bool) (k : ℕ) (cables : List Cable) (a b : List ℕ) (t : ℤ) (c : Cable) → r.phase ≡ cables_left ordered (suc k) → r.cables ≡ cables → IsCableOf s r a b t c
    → GoesOn s arcs r (CableLine a b t) (record r { phase = cables_left ordered k; cables = cables ++ c ∷ [] })
cable_goes s arcs r ordered k cables a b t c e f h =
    let p : cables_left ordered k ≡ after_cable r.phase = sym (ap after_cable e ∙ phase_after ordered k) in
    (c, h, ap (λ q. record r { phase = q; cables = cables ++ c ∷ [] }) p ∙ ap (λ cs. record r { phase = after_cable r.phase; cables = cs ++ c ∷ [] }) (sym f))

-- its text
pub cable_spelled : (s : Site) (a b : List ℕ) (t : ℤ) (c : Cable) → IsCableNamed s a b t c → length s.types ≤ 8 → cable_line s c ≡ line (line_spelling (CableLine a b t))
cable_spelled s a b t c h few =
    ap (λ w. line (codes "cable" ∷ w ∷ name_of s c.to ∷ decimal c.grade ∷ [])) h.from ∙ ap (λ w. line (codes "cable" ∷ a ∷ w ∷ decimal c.grade ∷ [])) h.to
    ∙ ap (λ w. line (codes "cable" ∷ a ∷ b ∷ w ∷ [])) (sym (numeral-decimal c.grade (omega (arith, h.listed.grade, few)))) ∙ ap (λ z. line (codes "cable" ∷ a ∷ b ∷ spelled z ∷ [])) (sym h.grade)

-- its refusal
pub cable_bad : (s : Site) (r : Reader) (ordered : Bool) (k : ℕ) (cables : List Cable) (text : List ℕ) (ws : List (List ℕ)) (cause : Cause) → r.phase ≡ cables_left ordered (suc k) → r.cables ≡ cables → IsCut text ws → IsNoCable s ordered cables ws cause → IsLeastCause (IsFoundByReading s r (Whole text)) cause
cable_bad s r ordered k cables text ws Line e f cut h = absurd h
cable_bad s r ordered k cables text ws Form e f cut h = bad_refused s r (cables_left ordered (suc k)) text ws Form e cut (no_cable ordered k ws h)
cable_bad s r ordered k cables text ws SiteCause e f cut h = absurd h
cable_bad s r ordered k cables text ws Row e f cut h = absurd h
cable_bad s r ordered k cables text ws Limit e f cut h = absurd h
cable_bad s r ordered k cables text ws Node e f cut h = absurd h
cable_bad s r ordered k cables text ws Weight e f cut h = absurd h
cable_bad s r ordered k cables text ws Arc e f cut h = absurd h
cable_bad s r ordered k cables text ws Dead e f cut h = absurd h
cable_bad s r ordered k cables text ws Full e f cut h = absurd h
cable_bad s r ordered k cables text ws Layout e f cut h =
    let P : Phase → Type 0 = λ p. IsLineAt p text (CableLine h.0 h.1 h.2) in
    let at = subst P (sym e) (line_of (cables_left ordered (suc k)) text ws (CableLine h.0 h.1 h.2) cut (cable_standing ordered k ws h.0 h.1 h.2 h.3)) in
    first_layout s r text (CableLine h.0 h.1 h.2) at (cable_limits h.0 h.1 h.2) (λ n.
    let c = n.0 in
    let k2 = n.1 in
    let Q : Phase → Type 0 = λ p. IsInOrder p r.cables n.0 in
    let R : List Cable → Type 0 = λ cs. IsInOrder (cables_left ordered (suc k)) cs n.0 in
    h.4 n.0 (record { listed = record { from = n.1.from_listed; to = n.1.to_listed; grade = n.1.grade_listed }; from = n.1.from; to = n.1.to; grade = n.1.grade })
    (order_back ordered k cables n.0 (subst R f (subst Q e n.1.in_order))))
cable_bad s r ordered k cables text ws Verdict e f cut h = absurd h
