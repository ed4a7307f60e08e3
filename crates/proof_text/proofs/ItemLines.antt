-- The lines of items, as they were found.
use Rattle.std.proofs.Common.{◌≡◌, ℕ, ◌≤◌, ◌<◌, ◌^◌, ℤ, pos, List, [], ◌∷◌, ◌++◌, length, map, Option, Some, None, refl, sym, ap, ◌∙◌, subst, append_assoc, arith, codes, All}
use Rattle.std.specs.Prelude.{nat_abs}
use Rattle.std.specs.Fmt.{decimal}
use Rattle.std.proofs.lemmas.Int.{ints}
use Rattle.std.proofs.lemmas.List.{length-map}
use Rattle.std.proofs.lemmas.List.Elements.{All-head, All-tail}
use Rattle.cable_definitions.specs.declared.row.RowKind.{RowKind}
use Rattle.cable_definitions.specs.declared.row.RowKind.TheVariants.{Out, Flow, Inlet, Bend, Power, One, Cut}
use Rattle.cable_definitions.specs.declared.row.Act.{Act}
use Rattle.cable_definitions.specs.Numeral.{spelling as spelled}
use Rattle.cable_definitions.specs.Text.{line, act_line, kind_word, row_line, Whole}
use Rattle.cable_definitions.specs.Items.{Field, IsWithin, within}
use Rattle.cable_definitions.specs.Refusal.{RawAct, ASplit, AStop, AFull, ADeadRow, ADeadPair, ADeadLoad, ADeadLoop, ADeadPower, ADeadCeiling, act_spelling, act_from, act_fields, DocLine, RowLine, WorkLine, ActLine, LayoutLine, member_field, AtItem, AtWeights, AtCables, after_layout}
use Rattle.cable_text.proofs.Numerals.{numeral-decimal}
use Rattle.cable_definitions.specs.Stream.{GivesFront}
use Rattle.cable_text.specs.Lines.{StandsNext}
use Rattle.line_words.specs.declared.judging.ItemLine.{ItemLine}
use Rattle.line_words.specs.declared.judging.ItemLine.TheVariants.{Row, Work, Layout}
use Rattle.line_words.specs.Words.{IsCut}
use Rattle.line_words.specs.Judged.{IsGoodLine, item_line}
use Rattle.proof_text.specs.Items.{ReadsItemLine, ReadsAct}
use Rattle.proof_text.proofs.Claims.{spelled_small}
use Rattle.proof_text.proofs.Streams.{goes_one, line_of_good, line_given}

-- a member within its range is small
member_small : (kind : RowKind) (m : ℕ) → IsWithin (member_field kind (pos m)) → m ≤ 65279
member_small Out m h = let b = h (pos m) refl in omega (arith, ints, b.1)
member_small Flow m h = let b = h (pos m) refl in omega (arith, ints, b.1)
member_small Inlet m h = let b = h (pos m) refl in omega (arith, ints, b.1)
member_small Bend m h = let b = h (pos m) refl in omega (arith, ints, b.1)
member_small Power m h = let b = h (pos m) refl in omega (arith, ints, b.1)
member_small One m h = let b = h (pos m) refl in omega (arith, ints, b.1)
member_small Cut m h = let b = h (pos m) refl in omega (arith, ints, b.1)

-- members within their range are spelled as they are written
members_spelled : (kind : RowKind) (ms : List ℕ) → All IsWithin (map (member_field kind) (map pos ms)) → map decimal ms ≡ map spelled (map pos ms)
members_spelled kind [] h = refl
members_spelled kind (m ∷ ms) h =
    let small = member_small kind m (All-head IsWithin (member_field kind (pos m)) (map (member_field kind) (map pos ms)) h) in
    ap (λ w. w ∷ map decimal ms) (sym (numeral-decimal m (omega (arith, small))))
    ∙ ap (λ ws. spelled (pos m) ∷ ws) (members_spelled kind ms (All-tail IsWithin (member_field kind (pos m)) (map (member_field kind) (map pos ms)) h))

-- the first line of an item as it was found
module _ (before after : Option (List ℕ)) (text cut_text : List ℕ) (ws : List (List ℕ)) (found : StandsNext before (Whole text) after) (same : cut_text ≡ text) (cut : IsCut cut_text ws) where
  pub item_read : (item : ItemLine) (members : List ℕ) → IsGoodLine AtItem ws (item_line item members) → ReadsItemLine before after item members
  item_read (Row kind) members good =
      let l : DocLine = RowLine kind (map pos members) in
      let size : length (map pos members) ≡ length members = length-map members pos in
      record {
        reads = λ s r e. line_of_good s r AtItem before after text cut_text ws l found same cut good e tt;
        text = line_given AtItem before after text cut_text ws l (row_line (record { kind = kind; members = members })) found same cut good.standing
            (ap (λ w. line (codes "row" ∷ kind_word kind ∷ w)) (members_spelled kind members good.limits.0));
        some = omega (arith, size, good.standing.members.0);
        most = omega (arith, size, good.limits.1);
      }
  item_read (Work node count) members good =
      let most : Field = within (Some (pos count)) (pos 0) (pos 1024) in
      let b = All-head IsWithin (within (Some (pos node)) (pos 1) (pos 100001)) (most ∷ []) good.limits.0 (pos node) refl in
      let d = All-head IsWithin most [] (All-tail IsWithin (within (Some (pos node)) (pos 1) (pos 100001)) (most ∷ []) good.limits.0) (pos count) refl in
      let few : count ≤ 1024 = omega (arith, ints, d.1) in (
        omega (arith, ints, b.0),
        few,
        line_given AtItem before after text cut_text ws (WorkLine (pos node) (pos count)) (line (codes "work" ∷ decimal node ∷ decimal count ∷ [])) found same cut good.standing
            (ap (λ w. line (codes "work" ∷ w ∷ decimal count ∷ [])) (sym (numeral-decimal node (omega (arith, ints, b.1)))) ∙ ap (λ w. line (codes "work" ∷ spelled (pos node) ∷ w ∷ [])) (sym (numeral-decimal count (omega (arith, few))))),
        λ s r e. goes_one s r AtItem before after text cut_text ws (WorkLine (pos node) (pos count)) (record r { phase = AtWeights node count [] }) found same cut good e tt (λ arcs cause f. f) (λ arcs. refl),
      )
  item_read (Layout count) members good =
      let b = All-head IsWithin (within (Some (pos count)) (pos 0) (pos 256)) [] good.limits.0 (pos count) refl in
      let most : count ≤ 256 = omega (arith, ints, b.1) in
      record {
        reads = λ s r e. goes_one s r AtItem before after text cut_text ws (LayoutLine (pos count)) (record r { phase = AtCables count }) found same cut good e tt (λ arcs cause f. f)
            (λ arcs. ap (λ p. record r { phase = after_layout p count }) (sym e));
        text = line_given AtItem before after text cut_text ws (LayoutLine (pos count)) (line (codes "layout" ∷ decimal count ∷ [])) found same cut good.standing (ap (λ w. line (codes "layout" ∷ w ∷ [])) (sym (numeral-decimal count (omega (arith, most)))));
        most = most;
      }

-- the line of an act within its limits
one_number : (z : ℤ) (most : ℕ) → most < 10 ^ 64 → All IsWithin (within (Some z) (pos 0) (pos most) ∷ []) → decimal (nat_abs z) ≡ spelled z
one_number z most small h = spelled_small z most small (All-head IsWithin (within (Some z) (pos 0) (pos most)) [] h)

pub act_spelled : (raw : RawAct) → All IsWithin (act_fields raw) → act_line (act_from raw) ≡ line (act_spelling raw)
act_spelled (ASplit a) h = ap (λ w. line (codes "split" ∷ w ∷ [])) (one_number a 65279 (omega arith) h)
act_spelled AStop h = refl
act_spelled AFull h = refl
act_spelled (ADeadRow r) h = ap (λ w. line (codes "dead" ∷ codes "row" ∷ w ∷ [])) (one_number r 16383 (omega arith) h)
act_spelled (ADeadPair a b) h =
    let k = All-tail IsWithin (within (Some a) (pos 0) (pos 65279)) (within (Some b) (pos 0) (pos 65279) ∷ []) h in
    let f = All-head IsWithin (within (Some a) (pos 0) (pos 65279)) (within (Some b) (pos 0) (pos 65279) ∷ []) h in
    ap (λ w. line (codes "dead" ∷ codes "pair" ∷ w ∷ decimal (nat_abs b) ∷ [])) (spelled_small a 65279 (omega arith) f)
    ∙ ap (λ w. line (codes "dead" ∷ codes "pair" ∷ spelled a ∷ w ∷ [])) (one_number b 65279 (omega arith) k)
act_spelled (ADeadLoad p) h = ap (λ w. line (codes "dead" ∷ codes "load" ∷ w ∷ [])) (one_number p 255 (omega arith) h)
act_spelled (ADeadLoop p) h = ap (λ w. line (codes "dead" ∷ codes "loop" ∷ w ∷ [])) (one_number p 255 (omega arith) h)
act_spelled (ADeadPower p) h = ap (λ w. line (codes "dead" ∷ codes "power" ∷ w ∷ [])) (one_number p 255 (omega arith) h)
act_spelled ADeadCeiling h = refl

pub act_read : (before after : Option (List ℕ)) (text cut_text : List ℕ) (ws : List (List ℕ)) (act : Act) → StandsNext before (Whole text) after → cut_text ≡ text → IsCut cut_text ws
    → (raw : RawAct) × (act_from raw ≡ act) × ((v : ℕ) (weights : List (ℕ × ℤ)) → IsGoodLine (AtWeights v 0 weights) ws (ActLine raw)) → ReadsAct before after act
act_read before after text cut_text ws act found same cut h = record {
  raw = h.0;
  act_is = h.1;
  reads = λ s r v weights e. line_of_good s r (AtWeights v 0 weights) before after text cut_text ws (ActLine h.0) found same cut (h.2 v weights) e tt;
  text = line_given (AtWeights 0 0 []) before after text cut_text ws (ActLine h.0) (act_line act) found same cut (h.2 0 []).standing (ap act_line (sym h.1) ∙ act_spelled h.0 (h.2 0 []).limits.0);
}

-- one text and then another
pub gives_then : (before middle after : Option (List ℕ)) (first second : List ℕ) → GivesFront before middle first → GivesFront middle after second → GivesFront before after (first ++ second)
gives_then None middle after first second h k = let P : Option (List ℕ) → Type 0 = λ o. GivesFront o after second in subst P h k
gives_then (Some bytes) middle after first second h k =
    let P : Option (List ℕ) → Type 0 = λ o. GivesFront o after second in
    let d = subst P h.2 k in
    (d.0, h.1 ∙ ap (λ rest. first ++ rest) d.1 ∙ sym (append_assoc first second d.0), d.2)
