-- Writes one after another.
use Rattle.std.proofs.Common.{◌≡◌, ℕ, ◌-◌, ◌^◌, ◌≤◌, inl, inr, List, [], ◌++◌, Option, Some, None, Result, Ok, Err, IsOk, refl, sym, ap, subst, append_assoc, arith}
use Rattle.std.proofs.lemmas.List.{append-nil}
use Rattle.cable_definitions.specs.Stream.{StreamState, Rose, FaultsRose, Appends, AppendsPrefix, Writes}

-- a text and then another
pub Appends-then : (a b c : Option (List ℕ)) (first second : List ℕ) → Appends a b first → Appends b c second → Appends a c (first ++ second)
Appends-then None b c first second p q = let P : Option (List ℕ) → Type 0 = λ o. Appends o c second in subst P p q
Appends-then (Some xs) b c first second p q =
    let P : Option (List ℕ) → Type 0 = λ o. Appends o c second in
    let e : c ≡ Some ((xs ++ first) ++ second) = subst P p q in
    rw (← append_assoc xs first second) e

-- no text leaves a sink as it was
pub Appends-nothing : (a : Option (List ℕ)) → Appends a a []
Appends-nothing None = refl
Appends-nothing (Some xs) = ap Some (sym (append-nil xs))

-- a first part of a text is a first part of the text and what follows
pub AppendsPrefix-front : (a b : Option (List ℕ)) (first second : List ℕ) → AppendsPrefix a b first → AppendsPrefix a b (first ++ second)
AppendsPrefix-front a b first second p =
    (p.0, p.1 ++ second, rw p.2 (append_assoc p.0 p.1 second), p.3)

-- a text and then a first part of another
pub AppendsPrefix-then : (a b c : Option (List ℕ)) (first second : List ℕ) → Appends a b first → AppendsPrefix b c second → AppendsPrefix a c (first ++ second)
AppendsPrefix-then a b c first second p q =
    (first ++ q.0, q.1, rw q.2 (sym (append_assoc first q.0 q.1)), Appends-then a b c first q.0 p q.3)

-- a count that rose later rose from earlier
pub Rose-after : (i j k : ℕ) → i ≤ j → Rose j k → Rose i k
Rose-after i j k h (inl p) = inl (omega arith)
Rose-after i j k h (inr p) = inr p

-- a count that rose earlier is risen later
pub Rose-before : (i j k : ℕ) → j ≤ k → k ≤ 2 ^ 64 - 1 → Rose i j → Rose i k
Rose-before i j k h top (inl p) = inl (omega arith)
Rose-before i j k h top (inr p) = inr (omega arith)

-- a whole text and then another
pub Writes-then : {A B E F : Type 0} {u : A} {r : Result B F} {a b c : StreamState} {first second : List ℕ} → Writes {A = A} {E = E} (Ok u) a b first → Writes r b c second → Writes r a c (first ++ second)
Writes-then {r = Ok v} {a} {b} {c} {first} {second} p q = record {
  ok = Appends-then a.bytes b.bytes c.bytes first second p.ok q.ok;
  failed = tt;
  part = tt;
  count = omega arith;
}
Writes-then {r = Err e} {a} {b} {c} {first} {second} p q = record {
  ok = tt;
  failed = Rose-after a.faults b.faults c.faults p.count q.failed;
  part = AppendsPrefix-then a.bytes b.bytes c.bytes first second p.ok q.part;
  count = omega arith;
}

-- a text that failed stops what follows it
pub Writes-stop : {A B E F : Type 0} {e : E} (f : F) {a b : StreamState} {first : List ℕ} (second : List ℕ) → Writes {A = A} {E = E} (Err e) a b first → Writes {A = B} {E = F} (Err f) a b (first ++ second)
Writes-stop f {a} {b} {first} second p = record {
  ok = tt;
  failed = p.failed;
  part = AppendsPrefix-front a.bytes b.bytes first second p.part;
  count = p.count;
}

-- nothing was to be written
pub Writes-nothing : {A E : Type 0} (u : A) (a : StreamState) → Writes {A = A} {E = E} (Ok u) a a []
Writes-nothing u a = record { ok = Appends-nothing a.bytes; failed = tt; part = tt; count = omega arith }

-- the same with another error or value
pub Writes-ok : {A B E F : Type 0} {u : A} (v : B) {a b : StreamState} {text : List ℕ} → Writes {A = A} {E = E} (Ok u) a b text → Writes {A = B} {E = F} (Ok v) a b text
Writes-ok v p = record { ok = p.ok; failed = tt; part = tt; count = p.count }

pub Writes-err : {A B E F : Type 0} {e : E} (f : F) {a b : StreamState} {text : List ℕ} → Writes {A = A} {E = E} (Err e) a b text → Writes {A = B} {E = F} (Err f) a b text
Writes-err f p = record { ok = tt; failed = p.failed; part = p.part; count = p.count }

-- where the count didn't rise, all was written
pub Writes-whole : {A E : Type 0} {r : Result A E} {a b : StreamState} {text : List ℕ} → Writes r a b text → (FaultsRose a b → ⊥) → IsOk r × Appends a.bytes b.bytes text
Writes-whole {r = Ok u} p calm = (refl, p.ok)
Writes-whole {r = Err e} p calm = absurd (calm p.failed)
