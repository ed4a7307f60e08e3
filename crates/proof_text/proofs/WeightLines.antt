-- The lines of a work, one after another.
use Rattle.std.proofs.Common.{◌≡◌, ℕ, suc, ◌+◌, ◌-◌, ◌<◌, ℤ, pos, List, [], ◌∷◌, ◌++◌, length, map, Option, Some, None, Result, Ok, Err, refl, sym, ap, ◌∙◌, subst, arith, codes}
use Rattle.std.specs.Prelude.{neg_ℤ}
use Rattle.std.specs.List.{concat}
use Rattle.std.specs.Fmt.{decimal}
use Rattle.std.proofs.lemmas.Int.{ints}
use Rattle.std.proofs.lemmas.List.{append-nil, length-append, length-map, map-append}
use Rattle.std.proofs.lemmas.List.Folds.{concat-append}
use Rattle.std.proofs.lemmas.List.Elements.{All-head, All-tail}
use Rattle.cable_definitions.specs.declared.row.Act.{Act}
use Rattle.cable_definitions.specs.Site.{Site}
use Rattle.cable_definitions.specs.Numeral.{spelling as spelled}
use Rattle.cable_definitions.specs.Text.{line, number, act_line, weight_line, Whole}
use Rattle.cable_definitions.specs.Items.{Field, IsWithin, within}
use Rattle.cable_definitions.specs.Refusal.{DocLine, WorkLine, WeightLine, row_field, Phase, Reader, AtItem, AtWeights, after_weight}
use Rattle.cable_text.proofs.Numerals.{numeral-decimal}
use Rattle.cable_text.proofs.Reading.{spelling-number}
use Rattle.cable_definitions.specs.Stream.{GivesFront}
use Rattle.cable_text.specs.Lines.{StandsNext}
use Rattle.proof_text.specs.declared.fault.ItemFault.{ItemFault}
use Rattle.proof_text.specs.declared.fault.ItemFault.TheVariants.{Refused, Read}
use Rattle.line_words.specs.declared.judging.ItemLine.TheVariants.{Work}
use Rattle.line_words.specs.Words.{IsCut}
use Rattle.line_words.specs.Judged.{IsGoodLine}
use Rattle.proof_text.specs.Reading.{line_number_after, ReadsTo, RefusedAfter, IfRefused, AwaitsWeight, AwaitsAct}
use Rattle.proof_text.specs.Items.{weight_lines, ReadsWork, ReadsItemLine, ReadsWeight, ReadsWeights, ReadsRest}
use Rattle.proof_text.proofs.Streams.{goes_one, line_given}
use Rattle.proof_text.proofs.Behind.{reads_then, refused_after, refused_behind}
use Rattle.proof_text.proofs.ItemLines.{gives_then}

-- ---- the line of a weight
-- where a reader stands behind it
one_fewer : (v k : ℕ) (weights : List (ℕ × ℤ)) (weight : ℕ × ℤ) (phase : Phase) → phase ≡ AtWeights v (suc k) weights → AtWeights v k (weights ++ weight ∷ []) ≡ after_weight phase weight
one_fewer v k weights weight phase e =
    let fewer : k ≡ suc k - 1 = omega arith in
    ap (λ left. AtWeights v left (weights ++ weight ∷ [])) fewer ∙ ap (λ p. after_weight p weight) (sym e)

-- its words
weight_spelled : (row : ℕ) (weight : ℤ) → IsWithin (row_field (pos row)) → IsWithin (within (Some weight) (neg_ℤ (pos 75557863725914323419136)) (pos 75557863725914323419136)) → line (codes "by" ∷ decimal row ∷ number weight ∷ []) ≡ line (codes "by" ∷ spelled (pos row) ∷ spelled weight ∷ [])
weight_spelled row weight h k =
    let b = h (pos row) refl in
    let d = k weight refl in
    ap (λ w. line (codes "by" ∷ w ∷ number weight ∷ [])) (sym (numeral-decimal row (omega (arith, ints, b.1))))
    ∙ ap (λ w. line (codes "by" ∷ spelled (pos row) ∷ w ∷ [])) (sym (spelling-number weight (omega (arith, ints, d.0)) (omega (arith, ints, d.1))))

-- the line as it was found
pub weight_read : (before after : Option (List ℕ)) (text cut_text : List ℕ) (ws : List (List ℕ)) (weight : ℕ × ℤ) → StandsNext before (Whole text) after → cut_text ≡ text → IsCut cut_text ws
    → ((v k : ℕ) (weights : List (ℕ × ℤ)) → IsGoodLine (AtWeights v (suc k) weights) ws (WeightLine (pos weight.0) weight.1)) → ReadsWeight before after weight
weight_read before after text cut_text ws weight found same cut good = record {
  reads = λ s r v k weights e. goes_one s r (AtWeights v (suc k) weights) before after text cut_text ws (WeightLine (pos weight.0) weight.1) (record r { phase = AtWeights v k (weights ++ weight ∷ []) }) found same cut (good v k weights) e tt
      (λ arcs cause f. f) (λ arcs. ap (λ p. record r { phase = p }) (one_fewer v k weights weight r.phase e));
  text =
      let range : Field = within (Some weight.1) (neg_ℤ (pos 75557863725914323419136)) (pos 75557863725914323419136) in
      let limits = (good 0 0 []).limits.0 in
      line_given (AtWeights 0 1 []) before after text cut_text ws (WeightLine (pos weight.0) weight.1) (weight_line weight) found same cut (good 0 0 []).standing
      (weight_spelled weight.0 weight.1 (All-head IsWithin (row_field (pos weight.0)) (range ∷ []) limits) (All-head IsWithin range [] (All-tail IsWithin (row_field (pos weight.0)) (range ∷ []) limits)));
  small =
      let range : Field = within (Some weight.1) (neg_ℤ (pos 75557863725914323419136)) (pos 75557863725914323419136) in
      All-head IsWithin range [] (All-tail IsWithin (row_field (pos weight.0)) (range ∷ []) (good 0 0 []).limits.0) weight.1 refl;
}

-- ---- the lines of weights
-- none of them
pub no_weights : (before : Option (List ℕ)) → ReadsWeights before before []
no_weights None = record { reads = λ s r v left e. refl; text = refl }
no_weights (Some bytes) = record {
  reads = λ s r v left e.
      let all : left ≡ length {A = ℕ × ℤ} [] + left = omega arith in
      (bytes, refl, λ arcs. (ap (λ p. record r { phase = p }) (ap (λ n. AtWeights v n []) all ∙ sym e), refl));
  text = (bytes, refl, refl);
}

-- one more of them
pub one_weight_more : (before middle after : Option (List ℕ)) (weights : List (ℕ × ℤ)) (weight : ℕ × ℤ) → ReadsWeights before middle weights → ReadsWeight middle after weight → ReadsWeights before after (weights ++ weight ∷ [])
one_weight_more before middle after weights weight h k =
    let make : ℕ × ℤ → DocLine = λ (row, w). WeightLine (pos row) w in record {
      reads = λ s r v left e.
          let now : Reader = record r { phase = AtWeights v (suc left) weights } in
          let then : Reader = record r { phase = AtWeights v left (weights ++ weight ∷ []) } in
          let here : length (weights ++ weight ∷ []) + left ≡ length weights + suc left = omega (arith, length-append weights (weight ∷ [])) in
          let first = h.reads s r v (suc left) (e ∙ ap (λ n. AtWeights v n []) here) in
          subst (λ ls. ReadsTo s r before after ls then) (sym (map-append make weights (weight ∷ []))) (reads_then s r now then before middle after (weight_lines weights) (WeightLine (pos weight.0) weight.1 ∷ []) first (k.reads s now v left weights refl));
      text =
          let lines_are : concat (map weight_line (weights ++ weight ∷ [])) ≡ concat (map weight_line weights) ++ weight_line weight =
          ap concat (map-append weight_line weights (weight ∷ [])) ∙ concat-append (map weight_line weights) (weight_line weight ∷ []) ∙ ap (λ t. concat (map weight_line weights) ++ t) (append-nil (weight_line weight)) in
          subst (GivesFront before after) (sym lines_are) (gives_then before middle after (concat (map weight_line weights)) (weight_line weight) h.text k.text);
    }

-- a refusal behind some of so many weights
pub weight_refused : (before middle : Option (List ℕ)) (weights : List (ℕ × ℤ)) (total lines later : ℕ) (fault : ItemFault) → ReadsWeights before middle weights → length weights < total → line_number_after later 1 ≡ line_number_after lines (length weights + 1)
    → IfRefused {A = ℕ × ℤ} (Err fault) (λ x. (s : Site) (r : Reader) → AwaitsWeight s r → RefusedAfter s r middle later x)
    → IfRefused {A = Unit {0}} (Err fault) (λ x. (s : Site) (r : Reader) (v : ℕ) → r.phase ≡ AtWeights v total [] → RefusedAfter s r before lines x)
weight_refused before middle weights total lines later (Refused x) h few n k = λ s r v e.
    let left : ℕ = total - (length weights + 1) in
    let all : total ≡ length weights + suc left = omega (arith, few) in
    let now : Reader = record r { phase = AtWeights v (suc left) weights } in
    refused_after s r now before middle (weight_lines weights) lines later x (h.reads s r v (suc left) (e ∙ ap (λ m. AtWeights v m []) all)) (omega (arith, n, length-map weights (λ (row, w). WeightLine (pos row) w))) (k s now (v, left, weights, refl))
weight_refused before middle weights total lines later Read h few n k = tt

-- ---- the lines of a work behind its first
-- a refusal of the line of the act
pub act_refused : (before middle : Option (List ℕ)) (weights : List (ℕ × ℤ)) (count lines later : ℕ) (result : Result Act ItemFault) → ReadsWeights before middle weights → length weights ≡ count → line_number_after later 1 ≡ line_number_after lines (count + 1)
    → IfRefused result (λ x. (s : Site) (r : Reader) → AwaitsAct s r → RefusedAfter s r middle later x)
    → IfRefused result (λ x. (s : Site) (r : Reader) (v : ℕ) → r.phase ≡ AtWeights v count [] → RefusedAfter s r before lines x)
act_refused before middle weights count lines later (Ok act) h size n k = tt
act_refused before middle weights count lines later (Err (Refused x)) h size n k = λ s r v e.
    let all : count ≡ length weights + 0 = omega (arith, size) in
    let now : Reader = record r { phase = AtWeights v 0 weights } in
    refused_after s r now before middle (weight_lines weights) lines later x (h.reads s r v 0 (e ∙ ap (λ m. AtWeights v m []) all)) (omega (arith, n, size, length-map weights (λ (row, w). WeightLine (pos row) w))) (k s now (v, weights, refl))
act_refused before middle weights count lines later (Err Read) h size n k = tt

-- ---- all lines of a work
pub work_read : (before middle after : Option (List ℕ)) (node count : ℕ) (weights : List (ℕ × ℤ)) (act : Act) (members : List ℕ) → ReadsItemLine before middle (Work node count) members → length weights ≡ count → ReadsRest middle after weights act → ReadsWork before after node weights act
work_read before middle after node count weights act members first size rest =
    let h : ReadsItemLine before middle (Work node (length weights)) members = subst (λ n. ReadsItemLine before middle (Work node n) members) (sym size) first in
    let head : List ℕ = line (codes "work" ∷ decimal node ∷ decimal (length weights) ∷ []) in
    let body : List ℕ = concat (map weight_line weights) in record {
      middle = rest.middle;
      reads = λ s r e.
          let start : Reader = record r { phase = AtWeights node (length weights) [] } in
          let end : Reader = record r { phase = AtWeights node 0 weights } in
          let all : length weights ≡ length weights + 0 = omega arith in
          reads_then s r start end before middle rest.middle (WorkLine (pos node) (pos (length weights)) ∷ []) (weight_lines weights) (h.3 s r e) (rest.reads_weights.reads s start node 0 (ap (λ n. AtWeights node n []) all));
      raw = rest.reads_act.raw;
      act_is = rest.reads_act.act_is;
      reads_act = λ s r e. rest.reads_act.reads s r node weights e;
      text = gives_then before rest.middle after (head ++ body) (act_line act) (gives_then before middle rest.middle head body h.2 rest.reads_weights.text) rest.reads_act.text;
      first = h.0;
      few = h.1;
    }

-- a refusal behind the first line
pub rest_refused : (B : Type 0) (fault : ItemFault) (before middle : Option (List ℕ)) (lines later node count : ℕ) (members : List ℕ) → ReadsItemLine before middle (Work node count) members → later ≡ line_number_after lines 1
    → IfRefused {A = Act} (Err fault) (λ x. (s : Site) (r : Reader) (v : ℕ) → r.phase ≡ AtWeights v count [] → RefusedAfter s r middle later x)
    → IfRefused {A = B} (Err fault) (λ x. (s : Site) (r : Reader) → r.phase ≡ AtItem → RefusedAfter s r before lines x)
rest_refused B (Refused x) before middle lines later node count members h n k = λ s r e.
    let now : Reader = record r { phase = AtWeights node count [] } in
    refused_behind s r now before middle (WorkLine (pos node) (pos count) ∷ []) lines later x (h.3 s r e) n (k s now node refl)
rest_refused B Read before middle lines later node count members h n k = tt
