-- Questions on the form of a row, met and not met.
use Rattle.std.proofs.Common.{◌≡◌, ◌≢◌, ℕ, ◌+◌, ◌<◌, ◌≤◌, inl, inr, Bool, true, false, List, [], ◌∷◌, length, get_or, slice_get, Some, refl, ap, sym, ◌∙◌, subst, arith, below_more}
use Rattle.std.specs.Prelude.{All, IsTrue, ◌↔◌, ◌==◌}
use Rattle.std.proofs.lemmas.Bool.{iff_false, false≢true, eqb-false}
use Rattle.std.proofs.lemmas.Bool.Decides.{eqb_tells}
use Rattle.std.proofs.lemmas.Option.{slice_get-get_or, slice_get_within, get_or_from_slice_get}
use Rattle.cable_definitions.specs.declared.cable.Arc.{Arc}
use Rattle.cable_definitions.specs.declared.row.RowKind.{RowKind}
use Rattle.cable_definitions.specs.declared.row.RowKind.TheVariants.{One, Cut}
use Rattle.cable_definitions.specs.declared.row.RowFault.{RowFault}
use Rattle.cable_definitions.specs.declared.row.RowFault.TheVariants.{Empty, Count, Range, Order, OtherKind, Substation, NotIncompatible}
use Rattle.cable_definitions.specs.Site.{Site}
use Rattle.cable_definitions.specs.Arcs.{kind_of, is_substation}
use Rattle.cable_definitions.specs.Layout.{IsBefore}
use Rattle.cable_definitions.specs.Row.{Question, SomeMember, RightCount, InRange, Ascending, RightKind, NoSubstation, Incompatible, question_number, Meets, Names, AreIncompatible, IsWellFormed, IsRowFault, has_one_member, member_count, speaks_of}
use Rattle.cable_rows.specs.Form.{IsMet, IsFirstUnmet, IsPairedWell, IsFirstBadPair}

-- ---- one question
-- a question of one place, first not met there
pub unmet_at : (s : Site) (arcs : List Arc) (kind : RowKind) (members : List ℕ) (question : Question) (place : ℕ) (fault : RowFault)
    → ¬ (Meets s arcs kind members question place 0) → Names members question place 0 fault → ((i j : ℕ) → i < place → Meets s arcs kind members question i j)
    → IsFirstUnmet s arcs kind members question fault
unmet_at s arcs kind members question place fault n named earlier = record { place = place; second_place = 0; not_met = n; named = named; earlier_places = before }
  where
    before : (i j : ℕ) → IsBefore i j place 0 → Meets s arcs kind members question i j
    before i j (inl l) = earlier i j l
    before i j (inr (e, l)) = absurd (omega arith)

-- the member at a place is the one that was read
read_same : (members : List ℕ) (place m : ℕ) → slice_get members place ≡ Some m → get_or members place 0 ≡ m
read_same members place m e = get_or_from_slice_get members place m 0 e

-- a member out of range
pub range_unmet : (s : Site) (arcs : List Arc) (kind : RowKind) (members : List ℕ) (place count : ℕ) → place < length members → count ≡ member_count s arcs kind
    → count ≤ get_or members place 0 → ((i j : ℕ) → i < place → Meets s arcs kind members InRange i j) → IsFirstUnmet s arcs kind members InRange (Range (get_or members place 0))
range_unmet s arcs kind members place count l e out earlier =
    let is = slice_get-get_or members place 0 l in
    unmet_at s arcs kind members InRange place (Range (get_or members place 0)) (λ h. omega (arith, h (get_or members place 0) is)) (get_or members place 0, is, refl) earlier

-- a member in range
pub range_more : (s : Site) (arcs : List Arc) (kind : RowKind) (members : List ℕ) (place count : ℕ) → count ≡ member_count s arcs kind
    → get_or members place 0 < count → ((i j : ℕ) → i < place → Meets s arcs kind members InRange i j) → (i j : ℕ) → i < place + 1 → Meets s arcs kind members InRange i j
range_more s arcs kind members place count e within earlier i j l =
    below_more (λ (k : ℕ). Meets s arcs kind members InRange k j) place (λ k b. earlier k j b) (λ m is. omega (arith, read_same members place m is)) i l

-- all members are in range
pub range_met : (s : Site) (arcs : List Arc) (kind : RowKind) (members : List ℕ) (n : ℕ) → length members ≤ n → ((i j : ℕ) → i < n → Meets s arcs kind members InRange i j) → IsMet s arcs kind members InRange
range_met s arcs kind members n past met i j = λ m e. met i j (omega (arith, slice_get_within members i m e)) m e

-- a member that isn't above the one before it
pub order_unmet : (s : Site) (arcs : List Arc) (kind : RowKind) (members : List ℕ) (place before : ℕ) → before + 1 ≡ place → place < length members
    → get_or members place 0 ≤ get_or members before 0 → ((i j : ℕ) → i + 1 < place → Meets s arcs kind members Ascending i j) → IsFirstUnmet s arcs kind members Ascending (Order (get_or members place 0))
order_unmet s arcs kind members place before e l out earlier =
    let first = slice_get-get_or members before 0 (omega arith) in
    let second = slice_get-get_or members (before + 1) 0 (omega arith) in
    let same = ap (λ (k : ℕ). get_or members k 0) e in
    unmet_at s arcs kind members Ascending before (Order (get_or members place 0)) (λ h. omega (arith, same, h (get_or members before 0) (get_or members (before + 1) 0) first second))
    (get_or members (before + 1) 0, second, ap Order (sym same)) (λ i j k. earlier i j (omega arith))

-- a member that is above the one before it
pub order_more : (s : Site) (arcs : List Arc) (kind : RowKind) (members : List ℕ) (place before : ℕ) → before + 1 ≡ place
    → get_or members before 0 < get_or members place 0 → ((i j : ℕ) → i + 1 < place → Meets s arcs kind members Ascending i j) → (i j : ℕ) → i + 1 < place + 1 → Meets s arcs kind members Ascending i j
order_more s arcs kind members place before e above earlier i j l =
    let same = ap (λ (k : ℕ). get_or members k 0) e in
    below_more (λ (k : ℕ). Meets s arcs kind members Ascending k j) before (λ k b. earlier k j (omega arith))
    (λ m n is then. omega (arith, same, read_same members before m is, read_same members (before + 1) n then)) i (omega arith)

-- all members ascend
pub order_met : (s : Site) (arcs : List Arc) (kind : RowKind) (members : List ℕ) (n : ℕ) → length members ≤ n → ((i j : ℕ) → i + 1 < n → Meets s arcs kind members Ascending i j) → IsMet s arcs kind members Ascending
order_met s arcs kind members n past met i j = λ m k e f. met i j (omega (arith, slice_get_within members (i + 1) k f)) m k e f

-- a point of another kind
pub kinds_unmet : (s : Site) (arcs : List Arc) (kind : RowKind) (members : List ℕ) (place : ℕ) → place < length members → speaks_of kind (kind_of s (get_or members place 0)) ≡ false
    → ((i j : ℕ) → i < place → Meets s arcs kind members RightKind i j) → IsFirstUnmet s arcs kind members RightKind (OtherKind (get_or members place 0))
kinds_unmet s arcs kind members place l other earlier =
    let is = slice_get-get_or members place 0 l in
    unmet_at s arcs kind members RightKind place (OtherKind (get_or members place 0)) (λ h. false≢true (sym other ∙ h (get_or members place 0) is)) (get_or members place 0, is, refl) earlier

-- a point of a right kind
pub kinds_more : (s : Site) (arcs : List Arc) (kind : RowKind) (members : List ℕ) (place : ℕ) → speaks_of kind (kind_of s (get_or members place 0)) ≡ true
    → ((i j : ℕ) → i < place → Meets s arcs kind members RightKind i j) → (i j : ℕ) → i < place + 1 → Meets s arcs kind members RightKind i j
kinds_more s arcs kind members place right earlier i j l =
    below_more (λ (k : ℕ). Meets s arcs kind members RightKind k j) place (λ k b. earlier k j b) (λ m is. subst (λ (p : ℕ). IsTrue (speaks_of kind (kind_of s p))) (read_same members place m is) right) i l

-- all points are of right kinds
pub kinds_met : (s : Site) (arcs : List Arc) (kind : RowKind) (members : List ℕ) (n : ℕ) → length members ≤ n → ((i j : ℕ) → i < n → Meets s arcs kind members RightKind i j) → IsMet s arcs kind members RightKind
kinds_met s arcs kind members n past met i j = λ m e. met i j (omega (arith, slice_get_within members i m e)) m e

-- a substation in a `Cut`
pub substation_unmet : (s : Site) (arcs : List Arc) (kind : RowKind) (members : List ℕ) (place : ℕ) → kind ≡ Cut → place < length members → is_substation (kind_of s (get_or members place 0)) ≡ true
    → ((i j : ℕ) → i < place → Meets s arcs kind members NoSubstation i j) → IsFirstUnmet s arcs kind members NoSubstation (Substation (get_or members place 0))
substation_unmet s arcs kind members place cut l stands earlier =
    let is = slice_get-get_or members place 0 l in
    unmet_at s arcs kind members NoSubstation place (Substation (get_or members place 0)) (λ h. h (get_or members place 0) is cut stands) (get_or members place 0, is, refl) earlier

-- a point that is no substation
pub substation_more : (s : Site) (arcs : List Arc) (kind : RowKind) (members : List ℕ) (place : ℕ) → is_substation (kind_of s (get_or members place 0)) ≡ false
    → ((i j : ℕ) → i < place → Meets s arcs kind members NoSubstation i j) → (i j : ℕ) → i < place + 1 → Meets s arcs kind members NoSubstation i j
substation_more s arcs kind members place none earlier i j l =
    below_more (λ (k : ℕ). Meets s arcs kind members NoSubstation k j) place (λ k b. earlier k j b)
    (λ m is cut t. false≢true (sym none ∙ (ap (λ (p : ℕ). is_substation (kind_of s p)) (read_same members place m is) ∙ t))) i l

-- no point is a substation
pub substation_met : (s : Site) (arcs : List Arc) (kind : RowKind) (members : List ℕ) (n : ℕ) → length members ≤ n → ((i j : ℕ) → i < n → Meets s arcs kind members NoSubstation i j) → IsMet s arcs kind members NoSubstation
substation_met s arcs kind members n past met i j = λ m e. met i j (omega (arith, slice_get_within members i m e)) m e

-- ---- pairs of arcs
-- a bad pair
pub pair_unmet : (s : Site) (arcs : List Arc) (members : List ℕ) (first second : ℕ) (bad : Bool) → first < second → second < length members → All (λ m. m < length arcs) members
    → ((a b : Arc) → slice_get arcs (get_or members first 0) ≡ Some a → slice_get arcs (get_or members second 0) ≡ Some b → IsTrue bad ↔ AreIncompatible s a b) → bad ≡ false
    → ((j : ℕ) → j < second → IsPairedWell s arcs members first j) → IsFirstBadPair s arcs members first (NotIncompatible (get_or members first 0) (get_or members second 0))
pair_unmet s arcs members first second bad l within range tells fails earlier =
    let m = get_or members first 0 in
    let n = get_or members second 0 in
    let first_is = slice_get-get_or members first 0 (omega arith) in
    let second_is = slice_get-get_or members second 0 within in
    let none : Arc = record { from = 0; to = 0; length = 0; charge = 0 } in
    let a_is = slice_get-get_or arcs m none (range first 0 (omega arith)) in
    let b_is = slice_get-get_or arcs n none (range second 0 within) in
    record {
      second = second;
      not_well = λ h. iff_false (tells (get_or arcs m none) (get_or arcs n none) a_is b_is) fails (h m n (get_or arcs m none) (get_or arcs n none) l first_is second_is a_is b_is);
      named = (m, n, first_is, second_is, refl);
      earlier = earlier;
    }

-- one more good pair
pub pair_more : (s : Site) (arcs : List Arc) (members : List ℕ) (first second : ℕ) (bad : Bool)
    → ((a b : Arc) → slice_get arcs (get_or members first 0) ≡ Some a → slice_get arcs (get_or members second 0) ≡ Some b → IsTrue bad ↔ AreIncompatible s a b) → bad ≡ true
    → ((j : ℕ) → j < second → IsPairedWell s arcs members first j) → (j : ℕ) → j < second + 1 → IsPairedWell s arcs members first j
pair_more s arcs members first second bad tells passes earlier =
    below_more (λ (j : ℕ). IsPairedWell s arcs members first j) second earlier
    (λ m n a b l e f g h. (tells a b (ap (slice_get arcs) (read_same members first m e) ∙ g) (ap (slice_get arcs) (read_same members second n f) ∙ h)).0 passes)

-- all pairs with the first are good
pub pairs_well : (s : Site) (arcs : List Arc) (members : List ℕ) (first n : ℕ) → length members ≤ n → ((j : ℕ) → j < n → IsPairedWell s arcs members first j) → (j : ℕ) → IsPairedWell s arcs members first j
pairs_well s arcs members first n past met j = λ m k a b l e f g h. met j (omega (arith, slice_get_within members j k f)) m k a b l e f g h

-- the members of a `One` are arcs
pub arcs_below : (s : Site) (arcs : List Arc) (kind : RowKind) (members : List ℕ) → kind ≡ One → IsMet s arcs kind members InRange → All (λ m. m < length arcs) members
arcs_below s arcs kind members one met k d l = subst (λ (q : RowKind). get_or members k d < member_count s arcs q) one (met k 0 (get_or members k d) (slice_get-get_or members k d l))

-- good pairs answer the question
pub well_met : (s : Site) (arcs : List Arc) (kind : RowKind) (members : List ℕ) (n : ℕ) → length members ≤ n → ((i j : ℕ) → i < n → IsPairedWell s arcs members i j) → IsMet s arcs kind members Incompatible
well_met s arcs kind members n past met i j = λ m k a b one l e f g h. met i j (omega (arith, slice_get_within members i m e)) m k a b l e f g h

-- a bad pair denies it
pub bad_unmet : (s : Site) (arcs : List Arc) (kind : RowKind) (members : List ℕ) (first : ℕ) (fault : RowFault) → kind ≡ One → ((i j : ℕ) → i < first → IsPairedWell s arcs members i j) → IsFirstBadPair s arcs members first fault
    → IsFirstUnmet s arcs kind members Incompatible fault
bad_unmet s arcs kind members first fault one before bad = record {
  place = first;
  second_place = bad.second;
  not_met = λ h. bad.not_well (λ m n a b l e f g k. h m n a b one l e f g k);
  named = bad.named;
  earlier_places = earlier;
}
  where
    earlier : (i j : ℕ) → IsBefore i j first bad.second → Meets s arcs kind members Incompatible i j
    earlier i j (inl l) = λ m n a b one l2 e f g k. before i j l m n a b l2 e f g k
    earlier i j (inr (same, l)) = λ m n a b one l2 e f g k. subst (λ (x : ℕ). IsPairedWell s arcs members x j) (sym same) (bad.earlier j l) m n a b l2 e f g k

-- ---- all questions
-- the questions of numbers below n are met
abbrev pub MetBelow : Site → List Arc → RowKind → List ℕ → ℕ → Type 0
MetBelow s arcs kind members n = (q : Question) (i j : ℕ) → question_number q < n → Meets s arcs kind members q i j

pub with_some : (s : Site) (arcs : List Arc) (kind : RowKind) (members : List ℕ) → members ≢ [] → MetBelow s arcs kind members 2
with_some s arcs kind members met SomeMember i j l = met
with_some s arcs kind members met q i j l = absurd (omega arith)

pub with_count : (s : Site) (arcs : List Arc) (kind : RowKind) (members : List ℕ) → MetBelow s arcs kind members 2 → IsMet s arcs kind members RightCount → MetBelow s arcs kind members 3
with_count s arcs kind members below met RightCount i j l = met i j
with_count s arcs kind members below met q i j l = below q i j (omega arith)

pub with_range : (s : Site) (arcs : List Arc) (kind : RowKind) (members : List ℕ) → MetBelow s arcs kind members 3 → IsMet s arcs kind members InRange → MetBelow s arcs kind members 4
with_range s arcs kind members below met InRange i j l = met i j
with_range s arcs kind members below met q i j l = below q i j (omega arith)

pub with_order : (s : Site) (arcs : List Arc) (kind : RowKind) (members : List ℕ) → MetBelow s arcs kind members 4 → IsMet s arcs kind members Ascending → MetBelow s arcs kind members 5
with_order s arcs kind members below met Ascending i j l = met i j
with_order s arcs kind members below met q i j l = below q i j (omega arith)

pub with_kinds : (s : Site) (arcs : List Arc) (kind : RowKind) (members : List ℕ) → MetBelow s arcs kind members 5 → IsMet s arcs kind members RightKind → MetBelow s arcs kind members 6
with_kinds s arcs kind members below met RightKind i j l = met i j
with_kinds s arcs kind members below met q i j l = below q i j (omega arith)

pub with_substations : (s : Site) (arcs : List Arc) (kind : RowKind) (members : List ℕ) → MetBelow s arcs kind members 6 → IsMet s arcs kind members NoSubstation → MetBelow s arcs kind members 7
with_substations s arcs kind members below met NoSubstation i j l = met i j
with_substations s arcs kind members below met q i j l = below q i j (omega arith)

-- all questions are met
pub well_formed : (s : Site) (arcs : List Arc) (kind : RowKind) (members : List ℕ) → MetBelow s arcs kind members 7 → IsMet s arcs kind members Incompatible → IsWellFormed s arcs (record { kind = kind; members = members })
well_formed s arcs kind members below met Incompatible i j = met i j
well_formed s arcs kind members below met q i j = below q i j (omega arith)

-- the first question that isn't met tells the fault
pub fault_of : (s : Site) (arcs : List Arc) (kind : RowKind) (members : List ℕ) (question : Question) (fault : RowFault) → MetBelow s arcs kind members (question_number question)
    → IsFirstUnmet s arcs kind members question fault → IsRowFault s arcs kind members fault
fault_of s arcs kind members question fault below unmet = record {
  question = question;
  place = unmet.place;
  second_place = unmet.second_place;
  not_met = unmet.not_met;
  named = unmet.named;
  earlier_questions = below;
  earlier_places = unmet.earlier_places;
}

-- a list of no length
none_long : (members : List ℕ) → length members ≡ 0 → members ≡ []
none_long [] e = refl
none_long (m ∷ members) e = absurd (omega (arith, e))

-- a list that isn't empty
pub some_member : (members : List ℕ) (empty : Bool) → empty ≡ (length members == 0) → empty ≡ false → members ≢ []
some_member members empty tells e f = eqb-false (length members) 0 (sym tells ∙ e) (ap length f)

-- an empty list of members
pub empty_fault : (s : Site) (arcs : List Arc) (kind : RowKind) (members : List ℕ) (empty : Bool) → empty ≡ (length members == 0) → empty ≡ true → IsRowFault s arcs kind members Empty
empty_fault s arcs kind members empty tells e =
    fault_of s arcs kind members SomeMember Empty nothing (unmet_at s arcs kind members SomeMember 0 Empty (λ n. n none) refl (λ i j l. absurd (omega arith)))
  where
    none : members ≡ []
    none = elim (eqb_tells (length members) 0) [ inl t ↦ none_long members t.1 | inr t ↦ absurd (false≢true (sym t.0 ∙ (sym tells ∙ e))) ]

    nothing : (q : Question) (i j : ℕ) → question_number q < 1 → Meets s arcs kind members q i j
    nothing SomeMember i j l = absurd (omega arith)
    nothing q i j l = absurd (omega arith)

-- another number of members
pub count_fault : (s : Site) (arcs : List Arc) (kind : RowKind) (members : List ℕ) → members ≢ [] → ¬ ((IsTrue (has_one_member kind) → length members ≡ 1) × (length members ≤ 256)) → IsRowFault s arcs kind members Count
count_fault s arcs kind members some n =
    fault_of s arcs kind members RightCount Count (with_some s arcs kind members some) (unmet_at s arcs kind members RightCount 0 Count n refl (λ i j l. absurd (omega arith)))
