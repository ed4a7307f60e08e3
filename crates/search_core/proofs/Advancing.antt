-- Parts of a search, one after another.
use Rattle.std.proofs.Common.{◌≡◌, ℕ, List, [], ◌++◌, Result, Ok, Err, IsErr, refl, sym, ◌∙◌, ap, subst, append_assoc, arith}
use Rattle.std.specs.Prelude.{OnOk, OnErr}
use Rattle.std.specs.Result.{IsErrAnd}
use Rattle.std.proofs.lemmas.List.{append-nil}
use Rattle.cable_definitions.specs.declared.cable.Arc.{Arc}
use Rattle.cable_definitions.specs.Site.{Site}
use Rattle.cable_definitions.specs.Tree.{Item}
use Rattle.cable_definitions.specs.Core.{Core, Event, Runs}
use Rattle.cable_text.specs.declared.stream.Failed.{Failed}
use Rattle.cable_definitions.specs.Stream.{StreamState, Writes}
use Rattle.cable_text.proofs.Writing.{Appends-then, Appends-nothing, AppendsPrefix-then, Rose-after}
use Rattle.search_core.specs.declared.searching.SearchFault.{SearchFault}
use Rattle.search_core.specs.declared.searching.SearchFault.TheVariants.{Write, Memory}
use Rattle.search_core.specs.Advances.{Tells, Advances}
use Rattle.search_parts.proofs.Rounding.{runs-then}
use Rattle.search_core.proofs.Writing.{lines-then}

-- ---- texts
-- a text and then another
pub tells-then : {A B : Type 0} {u : A} {r : Result B SearchFault} {a b c : StreamState} {first second : List ℕ} → Tells {A = A} (Ok u) a b first → Tells r b c second
    → Tells r a c (first ++ second)
tells-then {r = Ok v} {a} {b} {c} {first} {second} p q = record {
  whole = Appends-then a.bytes b.bytes c.bytes first second p.whole q.whole;
  part = tt;
  failed = λ e. absurd (cc);
  count = (let m = p.count in let n = q.count in omega (arith, m, n));
}
tells-then {r = Err f} {a} {b} {c} {first} {second} p q = record {
  whole = tt;
  part = AppendsPrefix-then a.bytes b.bytes c.bytes first second p.whole q.part;
  failed = λ e. Rose-after a.faults b.faults c.faults p.count (q.failed e);
  count = (let m = p.count in let n = q.count in omega (arith, m, n));
}

-- what was written
pub tells-written : {A B : Type 0} {u : A} (v : B) {a b : StreamState} {text : List ℕ} → Writes {A = A} {E = Failed} (Ok u) a b text → Tells {A = B} (Ok v) a b text
tells-written v p = record { whole = p.ok; part = tt; failed = λ e. absurd (cc); count = p.count }

-- what failed to be written
pub tells-failed : {A B : Type 0} {e : Failed} {r : Result B SearchFault} {a b : StreamState} {text : List ℕ} → IsErr r → Writes {A = A} {E = Failed} (Err e) a b text → Tells r a b text
tells-failed {r = Ok v} h p = absurd (cc)
tells-failed {r = Err f} h p = record { whole = tt; part = p.part; failed = λ _. p.failed; count = p.count }

-- memory was lacking
pub tells-memory : {B : Type 0} (r : Result B SearchFault) (a : StreamState) → IsErr r → IsErrAnd r (λ fault. fault ≡ Memory) → Tells r a a []
tells-memory (Ok v) a h e = absurd (cc)
tells-memory (Err f) a h e = record { whole = tt; part = ([], [], refl, Appends-nothing a.bytes); failed = λ w. absurd (cc); count = omega arith }

-- the same fault, handed on
pub tells-same : {A B : Type 0} {f : SearchFault} (r : Result B SearchFault) {a b : StreamState} {text : List ℕ} → IsErr r → IsErrAnd r (λ fault. fault ≡ f) → Tells {A = A} (Err f) a b text
    → Tells r a b text
tells-same (Ok v) h e p = absurd (cc)
tells-same {f = f} (Err g) h e p = record { whole = tt; part = p.part; failed = λ w. p.failed (let same : g ≡ Write = cc in ap Err (sym e ∙ same)); count = p.count }

-- the same with another value
pub tells-ok : {A B : Type 0} {u : A} (v : B) {a b : StreamState} {text : List ℕ} → Tells {A = A} (Ok u) a b text → Tells {A = B} (Ok v) a b text
tells-ok v p = record { whole = p.whole; part = tt; failed = λ e. absurd (cc); count = p.count }

-- ---- results
-- a fact of a result that went well, from another
pub on_ok : {A E P Q : Type 0} (r : Result A E) → OnOk r P → (P → Q) → OnOk r Q
on_ok (Ok u) p f = f p
on_ok (Err e) p f = tt

-- a result that failed says nothing of what went well
pub none_ok : {A E : Type 0} (P : Type 0) (r : Result A E) → IsErr r → OnOk r P
none_ok P (Ok u) h = absurd (cc)
none_ok P (Err e) h = tt

-- a fact of an error
pub on_err : {A E P : Type 0} (r : Result A E) → P → OnErr r P
on_err (Ok u) p = tt
on_err (Err e) p = p

-- ---- parts
-- a part and then another
pub advances-then : {A B : Type 0} {u : A} {r : Result B SearchFault} {s : Site} {arcs : List Arc} {n : ℕ} {old : Core} {First : Core → Type 0} {Second : List Item → Core → Type 0} {Both : Core → Type 0}
    {mid now : List Item → Core} {a b c : StreamState} → ((items : List Item) → (mid items).items ≡ items) → Advances {A = A} (Ok u) s arcs n old First mid a b
    → ((items : List Item) → Advances r s arcs n (mid items) (Second items) now b c) → ((items : List Item) (new : Core) → First (mid items) → Second items new → Both new)
    → Advances r s arcs n old Both now a c
advances-then {r = r} {s} {arcs} {n} {old} {First} {Second} {Both} {mid} {now} named p q together =
    let between : List Item = p.core.items in
    let second = q between in
    record {
      events = p.events ++ second.events;
      core = second.core;
      runs = runs-then s arcs n old (mid between) second.core p.events second.events (subst (Runs s arcs n old p.events) p.reached.1 p.runs) second.runs;
      items = p.items ++ second.items;
      added = second.added ∙ ap (λ (xs : List Item). xs ++ second.items) (named between ∙ p.added) ∙ append_assoc old.items p.items second.items;
      tells = subst (Tells r _ _) (sym (lines-then p.items second.items)) (tells-then p.tells second.tells);
      reached = on_ok r second.reached (λ (h : Second between second.core × (second.core ≡ now second.core.items)). (together between second.core (subst First p.reached.1 p.reached.0) h.0, h.1));
    }

-- a part that failed, whatever was to be reached
pub advances-failed : {A B : Type 0} {f : SearchFault} {r : Result B SearchFault} {s : Site} {arcs : List Arc} {n : ℕ} {old : Core} {First Both : Core → Type 0} {mid now : List Item → Core} {a b : StreamState}
    → IsErr r → IsErrAnd r (λ fault. fault ≡ f) → Advances {A = A} (Err f) s arcs n old First mid a b → Advances r s arcs n old Both now a b
advances-failed {r = r} h e p = record { events = p.events; core = p.core; runs = p.runs; items = p.items; added = p.added; tells = tells-same r h e p.tells; reached = none_ok _ r h }

-- memory was lacking before anything was done
pub advances-memory : {B : Type 0} (r : Result B SearchFault) (s : Site) (arcs : List Arc) (n : ℕ) (old : Core) (Reached : Core → Type 0) (now : List Item → Core) (a : StreamState)
    → IsErr r → IsErrAnd r (λ fault. fault ≡ Memory) → Advances r s arcs n old Reached now a a
advances-memory r s arcs n old Reached now a h e = record { events = []; core = old; runs = refl; items = []; added = sym (append-nil old.items); tells = tells-memory r a h e; reached = none_ok _ r h }

-- nothing but events that add no item
pub advances-silent : {A : Type 0} (u : A) (s : Site) (arcs : List Arc) (n : ℕ) (old : Core) (Reached : Core → Type 0) (now : List Item → Core) (a : StreamState) (events : List Event) (new : Core)
    → Runs s arcs n old events new → new.items ≡ old.items → Reached new → new ≡ now new.items → Advances {A = A} (Ok u) s arcs n old Reached now a a
advances-silent u s arcs n old Reached now a events new runs same reached is = record {
  events = events;
  core = new;
  runs = runs;
  items = [];
  added = same ∙ sym (append-nil old.items);
  tells = record { whole = Appends-nothing a.bytes; part = tt; failed = λ e. absurd (cc); count = omega arith };
  reached = (reached, is);
}

-- what is to be reached, told otherwise
pub advances-reached : {A : Type 0} {r : Result A SearchFault} {s : Site} {arcs : List Arc} {n : ℕ} {old : Core} {First Second : Core → Type 0} {now : List Item → Core} {a b : StreamState}
    → ((new : Core) → First new → Second new) → Advances r s arcs n old First now a b → Advances r s arcs n old Second now a b
advances-reached {r = r} {First = First} {now = now} f p = record {
  events = p.events;
  core = p.core;
  runs = p.runs;
  items = p.items;
  added = p.added;
  tells = p.tells;
  reached = on_ok r p.reached (λ (h : First p.core × (p.core ≡ now p.core.items)). (f p.core h.0, h.1));
}
