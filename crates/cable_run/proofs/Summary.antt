-- The summary line of a drill is what stands before the verdict, and the verdict line.
use Rattle.std.proofs.Common.{◌≡◌, ℕ, List, [], ◌∷◌, ◌++◌, sym, ap, ◌∙◌, append_assoc}
use Rattle.std.specs.Prelude.{codes}
use Rattle.std.specs.Fmt.{decimal}
use Rattle.cable_definitions.specs.declared.claim.Claim.{Claim}
use Rattle.cable_definitions.specs.declared.claim.Claim.TheVariants.{Optimal, Gap, Partial, Infeasible}
use Rattle.cable_definitions.specs.Site.{Site}
use Rattle.cable_definitions.specs.Text.{line, words, name_of, claim_line}
use Rattle.cable_definitions.specs.Drill.{drill_line}
use Rattle.cable_run.specs.Summary.{summary_front}

-- the parts of the line side by side
abbrev flat : List ℕ → List ℕ → List ℕ → List ℕ → List ℕ → List ℕ
flat k t n a rest = codes "drill " ++ (k ++ (32 ∷ (t ++ (32 ∷ (n ++ (codes " arcs " ++ (a ++ (codes ": " ++ rest))))))))

line_flat : (k t n a x e : List ℕ)
    → (codes "drill " ++ (k ++ (32 ∷ (t ++ (32 ∷ (n ++ (codes " arcs " ++ ((a ++ codes ":") ++ (32 ∷ x))))))))) ++ e ≡ flat k t n a (x ++ e)
line_flat k t n a x e =
    let last = append_assoc (a ++ codes ":") (32 ∷ x) e ∙ append_assoc a (codes ":") (32 ∷ (x ++ e)) in
    let from_n = append_assoc n (codes " arcs " ++ ((a ++ codes ":") ++ (32 ∷ x))) e ∙ ap (λ l. n ++ (codes " arcs " ++ l)) last in
    let from_t = append_assoc t (32 ∷ (n ++ (codes " arcs " ++ ((a ++ codes ":") ++ (32 ∷ x))))) e ∙ ap (λ l. t ++ (32 ∷ l)) from_n in
    let from_k = append_assoc k (32 ∷ (t ++ (32 ∷ (n ++ (codes " arcs " ++ ((a ++ codes ":") ++ (32 ∷ x))))))) e ∙ ap (λ l. k ++ (32 ∷ l)) from_t in
    ap (λ l. codes "drill " ++ l) from_k

front_flat : (k t n a y : List ℕ)
    → ((codes "drill " ++ k) ++ ((codes " " ++ t) ++ ((codes " " ++ n) ++ ((codes " arcs " ++ a) ++ codes ": ")))) ++ y ≡ flat k t n a y
front_flat k t n a y =
    let last = append_assoc a (codes ": ") y in
    let from_n = append_assoc n ((codes " arcs " ++ a) ++ codes ": ") y ∙ ap (λ l. n ++ (codes " arcs " ++ l)) last in
    let from_t = append_assoc t ((codes " " ++ n) ++ ((codes " arcs " ++ a) ++ codes ": ")) y ∙ ap (λ l. t ++ (32 ∷ l)) from_n in
    let from_k = append_assoc k ((codes " " ++ t) ++ ((codes " " ++ n) ++ ((codes " arcs " ++ a) ++ codes ": "))) y ∙ ap (λ l. k ++ (32 ∷ l)) from_t in
    ap (λ l. codes "drill " ++ l) from_k

both : (k t n arcs : ℕ) (w : List ℕ) (ws : List (List ℕ))
    → line (codes "drill" ∷ decimal k ∷ decimal t ∷ decimal n ∷ codes "arcs" ∷ (decimal arcs ++ codes ":") ∷ w ∷ ws) ≡ summary_front k t n arcs ++ line (w ∷ ws)
both k t n arcs w ws =
    line_flat (decimal k) (decimal t) (decimal n) (decimal arcs) (words (w ∷ ws)) (10 ∷ [])
    ∙ sym (front_flat (decimal k) (decimal t) (decimal n) (decimal arcs) (words (w ∷ ws) ++ 10 ∷ []))

-- the summary line is what stands before the verdict, and the verdict line
pub summary_parts : (s : Site) (k turbines n arcs : ℕ) (claim : Claim) → drill_line s k turbines n arcs claim ≡ summary_front k turbines n arcs ++ claim_line s claim
summary_parts s k turbines n arcs (Optimal best) = both k turbines n arcs (codes "optimal") (decimal best ∷ [])
summary_parts s k turbines n arcs (Gap best bound) = both k turbines n arcs (codes "gap") (decimal best ∷ decimal bound ∷ [])
summary_parts s k turbines n arcs (Partial bound stuck) = both k turbines n arcs (codes "open") (decimal bound ∷ codes "stuck" ∷ name_of s stuck ∷ [])
summary_parts s k turbines n arcs Infeasible = both k turbines n arcs (codes "infeasible") []
