-- Lists of cables with the same arcs in one order, one more cable, and other types.
use Rattle.std.proofs.Common.{◌≡◌, ℕ, inl, inr, cond, List, [], ◌∷◌, ◌++◌, map, Option, Some, None, option_map, is_some, IsSome, refl, ap, sym, ◌∙◌, arith}
use Rattle.std.proofs.lemmas.Bool.Decides.{eqb_tells}
use Rattle.cable_definitions.specs.declared.cable.Cable.{Cable}
use Rattle.cable_definitions.specs.declared.cable.Rule.TheVariants.{Start}
use Rattle.cable_definitions.specs.Site.{Site}
use Rattle.cable_definitions.specs.Walk.{cable_out}
use Rattle.cable_definitions.specs.Layout.{Starts}
use Rattle.cable_definitions.specs.Part.{IsSettled, IsBlocked, IsTarget, AreNeighbours, SameArcs}
use Rattle.number_laws.proofs.Keys.{first_at-append, first_at-map, DifferentKeys-append_one, DifferentKeys-map}
use Rattle.layout_laws.specs.Alike.{StartsDiffer, SameOuts, SameEnds}
use Rattle.layout_laws.proofs.Alike.{cable_out-from, Starts-same, SameEnds-from_outs, IsLegal-ordered, IsGrown-ordered, cost-ordered}

-- the same arcs in one order end alike
pub SameEnds-from_arcs : (xs ys : List Cable) → SameArcs xs ys → SameEnds xs ys
SameEnds-from_arcs xs ys a = by_lists xs ys a.starts a.ends
  where
    by_lists : (xs ys : List Cable) → map (λ (c : Cable). c.from) xs ≡ map (λ (c : Cable). c.from) ys → map (λ (c : Cable). c.to) xs ≡ map (λ (c : Cable). c.to) ys → SameEnds xs ys
    by_lists [] [] e f p = refl
    by_lists [] (d ∷ ys) e f p = absurd (cc)
    by_lists (c ∷ xs) [] e f p = absurd (cc)
    by_lists (c ∷ xs) (d ∷ ys) e f p =
        let same : c.from ≡ d.from = cc in
        let to : Some c.to ≡ Some d.to = cc in
        elim (eqb_tells d.from p) [
          | inl t ↦ rw (same, t.0) to
          | inr t ↦ rw (same, t.0) (by_lists xs ys (cc) (cc) p)
        ]

-- more cables at the end of lists that end alike
pub SameEnds-append : (xs ys zs : List Cable) → SameEnds xs ys → SameEnds (xs ++ zs) (ys ++ zs)
SameEnds-append xs ys zs e p =
    let from = λ (c : Cable). c.from in
    ap (option_map (λ (c : Cable). c.to)) (first_at-append from xs zs p)
    ∙ by_cases (cable_out xs p) (cable_out ys p) (cable_out zs p) (e p)
    ∙ ap (option_map (λ (c : Cable). c.to)) (sym (first_at-append from ys zs p))
  where
    by_cases : (o q r : Option Cable) → option_map (λ (c : Cable). c.to) o ≡ option_map (λ (c : Cable). c.to) q
        → option_map (λ (c : Cable). c.to) (cond (is_some o) o r) ≡ option_map (λ (c : Cable). c.to) (cond (is_some q) q r)
    by_cases None None r e = refl
    by_cases None (Some d) r e = absurd (cc)
    by_cases (Some c) None r e = absurd (cc)
    by_cases (Some c) (Some d) r e = e

-- starts still differ with one more cable out of a point that starts none
pub StartsDiffer-append_one : (xs : List Cable) (c : Cable) → StartsDiffer xs → ¬ (Starts xs c.from) → StartsDiffer (xs ++ c ∷ [])
StartsDiffer-append_one xs c d n = DifferentKeys-append_one (λ (c : Cable). c.from) xs c d (none (cable_out xs c.from) n)
  where
    none : (o : Option Cable) → ¬ (IsSome o) → o ≡ None
    none None n = refl
    none (Some c) n = absurd (n refl)

-- the type of a cable, and 0 where there is none
abbrev pub grade_from : Option Cable → ℕ
grade_from None = 0
grade_from (Some c) = c.grade

-- a cable with the type that the first cable out of its start has in another list
abbrev pub with_grade_of : List Cable → Cable → Cable
with_grade_of typed c = record c { grade = grade_from (cable_out typed c.from) }

-- the same cables with these types
abbrev pub with_grades_of : List Cable → List Cable → List Cable
with_grades_of typed xs = map (with_grade_of typed) xs

-- they have the same arcs
pub with_grades_of-arcs : (typed xs : List Cable) → SameArcs (with_grades_of typed xs) xs
with_grades_of-arcs typed [] = record { starts = refl; ends = refl }
with_grades_of-arcs typed (c ∷ xs) =
    let a = with_grades_of-arcs typed xs in
    record { starts = ap (λ ps. c.from ∷ ps) a.starts; ends = ap (λ ps. c.to ∷ ps) a.ends }

-- starts still differ
pub with_grades_of-differ : (typed xs : List Cable) → StartsDiffer xs → StartsDiffer (with_grades_of typed xs)
with_grades_of-differ typed xs d = DifferentKeys-map (λ (c : Cable). c.from) (with_grade_of typed) xs (λ c. refl) d

-- where both lists end alike, each first cable is that of the other
pub with_grades_of-outs : (typed xs : List Cable) → SameEnds typed xs → SameOuts typed (with_grades_of typed xs)
with_grades_of-outs typed xs e p =
    by_cases (cable_out typed p) (cable_out xs p) refl refl (e p) ∙ sym (first_at-map (λ (c : Cable). c.from) (with_grade_of typed) xs p (λ c. refl))
  where
    by_cases : (o q : Option Cable) → cable_out typed p ≡ o → cable_out xs p ≡ q → option_map (λ (c : Cable). c.to) o ≡ option_map (λ (c : Cable). c.to) q
        → o ≡ option_map (with_grade_of typed) q
    by_cases None None u v w = refl
    by_cases None (Some d) u v w = absurd (cc)
    by_cases (Some c) None u v w = absurd (cc)
    by_cases (Some c) (Some d) u v w =
        let start : c.from ≡ d.from = cable_out-from typed p c u ∙ sym (cable_out-from xs p d v) in
        let finish : c.to ≡ d.to = cc in
        let type : c.grade ≡ grade_from (cable_out typed d.from) =
        sym (ap grade_from (ap (cable_out typed) (cable_out-from xs p d v) ∙ u)) in
        λ i. Some (record { from = start i; to = finish i; grade = type i })

-- a settled layout in another order
pub IsSettled-ordered : (s : Site) (xs ys : List Cable) → StartsDiffer ys → SameOuts xs ys → IsSettled s xs → IsSettled s ys
IsSettled-ordered s xs ys b e g =
    let f : SameEnds xs ys = SameEnds-from_outs xs ys e in
    let c = cost-ordered s xs ys g.legal.start b e in
    record {
      legal = IsLegal-ordered s xs ys b e g.legal;
      no_cheaper = λ other legal n.
          let m : AreNeighbours xs other = record {
            starts = λ p. (λ h. (n.starts p).0 (Starts-same xs ys f p h), λ h. Starts-same ys xs (λ q. sym (f q)) p ((n.starts p).1 h));
            moved = n.moved;
            ends = λ p h. f p ∙ n.ends p h;
          } in
          let l = g.no_cheaper other legal m in
          omega (arith, l, c);
    }

-- a turbine that is joined in one list is joined in the other
pub IsTarget-same : (s : Site) (xs ys : List Cable) → SameEnds xs ys → (q : ℕ) → IsTarget s xs q → IsTarget s ys q
IsTarget-same s xs ys e q t = elim t [
  | inl h ↦ inl (h.0, Starts-same xs ys e q h.1)
  | inr h ↦ inr h
]

-- a blocked turbine of a part in another order
pub IsBlocked-ordered : (s : Site) (xs ys : List Cable) → StartsDiffer ys → SameOuts xs ys → (turbine : ℕ) → IsBlocked s xs turbine → IsBlocked s ys turbine
IsBlocked-ordered s xs ys b e turbine g =
    let f : SameEnds xs ys = SameEnds-from_outs xs ys e in
    let d : StartsDiffer xs = λ i. g.grown Start i 0 (λ x. absurd (cc)) in
    record {
      grown = IsGrown-ordered s xs ys b e g.grown;
      turbine_is = g.turbine_is;
      not_joined = λ h. g.not_joined (Starts-same ys xs (λ q. sym (f q)) turbine h);
      no_arc = λ q typed t candidate arcs grown.
          let new : List Cable = record { from = turbine; to = q; grade = 0 } ∷ [] in
          let other = with_grades_of typed (xs ++ new) in
          let alike : SameEnds typed (xs ++ new) = λ p. SameEnds-from_arcs typed (ys ++ new) arcs p ∙ sym (SameEnds-append xs ys new f p) in
          let differ : StartsDiffer other = with_grades_of-differ typed (xs ++ new) (StartsDiffer-append_one xs (record { from = turbine; to = q; grade = 0 }) d g.not_joined) in
          g.no_arc q other (IsTarget-same s ys xs (λ r. sym (f r)) q t) candidate (with_grades_of-arcs typed (xs ++ new))
          (IsGrown-ordered s typed other differ (with_grades_of-outs typed (xs ++ new) alike) grown);
    }
