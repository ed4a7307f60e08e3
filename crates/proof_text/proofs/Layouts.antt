-- Cable lines one after another.
use Rattle.std.proofs.Common.{◌≡◌, ℕ, zero, suc, ◌+◌, ◌-◌, ◌<◌, ◌≤◌, List, [], ◌∷◌, ◌++◌, length, map, Bool, true, false, Option, Some, None, Result, Ok, Err, refl, sym, ap, ◌∙◌, subst, append_assoc, arith, All}
use Rattle.std.specs.Prelude.{IsTrue, IsOk, IsErr, OnOk, ◌↔◌}
use Rattle.std.specs.List.{AllPairs, concat}
use Rattle.std.proofs.lemmas.List.{append-nil, length-append}
use Rattle.std.proofs.lemmas.List.Elements.{All-nil, All-push}
use Rattle.std.proofs.lemmas.List.Quantifiers.{all_pairs_push}
use Rattle.cable_definitions.specs.declared.cable.Cable.{Cable}
use Rattle.cable_definitions.specs.Site.{Site}
use Rattle.cable_definitions.specs.Text.{cable_line}
use Rattle.cable_definitions.specs.Refusal.{DocLine, Reader}
use Rattle.cable_definitions.specs.Stream.{GivesFront}
use Rattle.proof_text.specs.declared.fault.ItemFault.{ItemFault}
use Rattle.proof_text.specs.declared.fault.ItemFault.TheVariants.{Refused, Read}
use Rattle.proof_text.specs.Reading.{line_number_after, ReadsTo, RefusedAfter, IfRefused}
use Rattle.proof_text.specs.Cables.{HasNumbersOf, IsAhead, AwaitsCable, ReadsCables, cables_left}
use Rattle.proof_text.proofs.Behind.{reads_then, refused_after}
use Rattle.proof_text.proofs.ItemLines.{gives_then}

-- what so many cable lines have given
pub record AreRead (s : Site) (ordered : Bool) (count done : ℕ) (before now : Option (List ℕ)) (lines later : ℕ) (cables : List Cable) : Type 0 where
  pub size : length cables ≡ done
  pub reads : ReadsCables s ordered count (count - done) before now cables
  pub text : GivesFront before now (concat (map (cable_line s) cables))
  pub listed : All (HasNumbersOf s) cables
  pub in_order : IsTrue ordered → AllPairs (λ c d. c.from < d.from) cables
  pub lines_some : 1 ≤ done → later ≡ line_number_after lines done
  pub lines_none : done ≡ 0 → later ≡ lines

-- no line leaves the reader where it is
reads_none : (s : Site) (r e : Reader) (before : Option (List ℕ)) → e ≡ r → ReadsTo s r before before [] e
reads_none s r e None h = refl
reads_none s r e (Some bytes) h = (bytes, refl, λ arcs. (h, refl))

gives_none : (before : Option (List ℕ)) → GivesFront before before []
gives_none None = refl
gives_none (Some bytes) = (bytes, refl, refl)

pub none_read : (s : Site) (ordered : Bool) (count : ℕ) (before : Option (List ℕ)) (lines : ℕ) (cables : List Cable) → cables ≡ [] → AreRead s ordered count 0 before before lines lines cables
none_read s ordered count before lines cables empty =
    let P : List Cable → Type 0 = λ cs. AreRead s ordered count 0 before before lines lines cs in
    subst P (sym empty) (record {
      size = refl;
      reads = record {
        read_lines = [];
        lines_count = refl;
        reads = λ r e f.
            let z : count - 0 ≡ count = omega arith in
            reads_none s r (record r { phase = cables_left ordered (count - 0); cables = [] }) before
            (ap (λ k. record r { phase = cables_left ordered k; cables = [] }) z ∙ ap (λ p. record r { phase = p; cables = [] }) (sym e) ∙ ap (λ cs. record r { phase = r.phase; cables = cs }) (sym f));
      };
      text = gives_none before;
      listed = All-nil (HasNumbersOf s);
      in_order = λ o i j d h l. absurd (omega (arith, l));
      lines_some = λ h. absurd (omega (arith, h));
      lines_none = λ h. refl;
    })

-- the texts of one more cable
concat_push : (f : Cable → List ℕ) (cs : List Cable) (c : Cable) → concat (map f (cs ++ c ∷ [])) ≡ concat (map f cs) ++ f c
concat_push f [] c = append-nil (f c)
concat_push f (d ∷ ds) c = ap (λ l. f d ++ l) (concat_push f ds c) ∙ sym (append_assoc (f d) (concat (map f ds)) (f c))

-- a cable that is ahead, where cables are ordered
ahead_of : (ordered : Bool) (cables : List Cable) (c : Cable) → IsTrue ordered → IsAhead ordered cables c → All (λ d. d.from < c.from) cables
ahead_of true cables c o h = h
ahead_of false cables c o h = absurd (cc)

-- one more cable
pub one_read : (s : Site) (ordered : Bool) (count done : ℕ) (before now after : Option (List ℕ)) (lines later last : ℕ) (cables more : List Cable) (c : Cable) → done < count → AreRead s ordered count done before now lines later cables → more ≡ cables ++ c ∷ []
    → (l : DocLine) × ((r : Reader) (k : ℕ) → r.phase ≡ cables_left ordered (suc k) → r.cables ≡ cables → ReadsTo s r now after (l ∷ []) (record r { phase = cables_left ordered k; cables = cables ++ c ∷ [] }))
    → GivesFront now after (cable_line s c) → HasNumbersOf s c → IsAhead ordered cables c → last ≡ line_number_after later 1 → AreRead s ordered count (done + 1) before after lines last more
one_read s ordered count done before now after lines later last cables more c below h e line text listed ahead n =
    let P : List Cable → Type 0 = λ cs. AreRead s ordered count (done + 1) before after lines last cs in
    subst P (sym e) (record {
      size = omega (arith, h.size, length-append cables (c ∷ []));
      reads = record {
        read_lines = h.reads.read_lines ++ line.0 ∷ [];
        lines_count = omega (arith, h.reads.lines_count, length-append h.reads.read_lines (line.0 ∷ []), length-append cables (c ∷ []));
        reads = λ r d f.
            let left : count - done ≡ suc (count - (done + 1)) = omega (arith, below) in
            reads_then s r (record r { phase = cables_left ordered (count - done); cables = cables }) (record r { phase = cables_left ordered (count - (done + 1)); cables = cables ++ c ∷ [] }) before now after h.reads.read_lines (line.0 ∷ [])
            (h.reads.reads r d f) (line.1 (record r { phase = cables_left ordered (count - done); cables = cables }) (count - (done + 1)) (ap (cables_left ordered) left) refl);
      };
      text = let Q : List ℕ → Type 0 = λ t. GivesFront before after t in subst Q (sym (concat_push (cable_line s) cables c)) (gives_then before now after (concat (map (cable_line s) cables)) (cable_line s c) h.text text);
      listed = All-push (HasNumbersOf s) cables c h.listed listed;
      in_order = λ o. all_pairs_push (λ a b. a.from < b.from) cables c (h.in_order o) (ahead_of ordered cables c o ahead);
      lines_some = λ some. one_later done lines later last h.lines_some h.lines_none n;
      lines_none = λ z. absurd (omega (arith, z));
    })
  where
    one_later : (d i j k : ℕ) → (1 ≤ d → j ≡ line_number_after i d) → (d ≡ 0 → j ≡ i) → k ≡ line_number_after j 1 → k ≡ line_number_after i (d + 1)
    one_later zero i j k some none e = let f = none refl in omega (arith, e, f)
    one_later (suc d) i j k some none e = let f = some (omega arith) in omega (arith, e, f)

-- a refusal of a further cable
pub cable_refused : (A B : Type 0) (fault : ItemFault) (s : Site) (ordered : Bool) (count done : ℕ) (before now : Option (List ℕ)) (lines later : ℕ) (cables : List Cable) → done < count → AreRead s ordered count done before now lines later cables
    → IfRefused {A = A} (Err fault) (λ x. (q : Site) (r : Reader) → AwaitsCable s ordered cables q r → RefusedAfter q r now later x)
    → IfRefused {A = B} (Err fault) (λ x. (r : Reader) → r.phase ≡ cables_left ordered count → r.cables ≡ [] → RefusedAfter s r before lines x)
cable_refused A B (Refused x) s ordered count done before now lines later cables below h k = λ r e f.
    let left : count - done ≡ suc (count - (done + 1)) = omega (arith, below) in
    let mid : Reader = record r { phase = cables_left ordered (count - done); cables = cables } in
    refused_after s r (record r { phase = cables_left ordered (count - done); cables = cables }) before now h.reads.read_lines lines later x (h.reads.reads r e f)
    (next_is done lines later (length h.reads.read_lines) (h.reads.lines_count ∙ h.size) h.lines_some h.lines_none)
    (k s (record r { phase = cables_left ordered (count - done); cables = cables }) (refl, count - (done + 1), ap (cables_left ordered) left, refl))
  where
    next_is : (d i j n : ℕ) → n ≡ d → (1 ≤ d → j ≡ line_number_after i d) → (d ≡ 0 → j ≡ i) → line_number_after j 1 ≡ line_number_after i (1 + n)
    next_is zero i j n e some none = let f = none refl in omega (arith, e, f)
    next_is (suc d) i j n e some none = let f = some (omega arith) in omega (arith, e, f)
cable_refused A B Read s ordered count done before now lines later cables below h k = tt

-- a push below the limit
pub push_ok : {A E : Type 0} (r : Result A E) (n : ℕ) → IsErr r ↔ (n ≡ 256) → n < 256 → IsOk r
push_ok (Ok a) n h below = refl
push_ok (Err e) n h below = absurd (omega (arith, h.0 refl, below))

pub at_ok : {A E : Type 0} {P : Type 0} (r : Result A E) → IsOk r → OnOk r P → P
at_ok (Ok a) h p = p
at_ok (Err e) h p = absurd (cc)
