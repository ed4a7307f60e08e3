-- What a pull and a push do to the bytes of a source and a sink, where those tell them, and to their counts of faults.
use Rattle.std.specs.Prelude.{◌≡◌, ℕ, ◌-◌, ◌^◌, ◌<◌, ◌≤◌, ◌⊎◌, List, [], ◌++◌, Option, Some, None, Result, OnOk, OnErr}

-- what is told of a source or a sink: its bytes, those that are left or those that it took, where it tells them, and how many of its calls failed
pub record StreamState : Type 0 where
  pub bytes : Option (List ℕ)
  pub faults : ℕ

-- a count rose, or stands at its last value
abbrev pub Rose : ℕ → ℕ → Type 0
Rose old new = (old < new) ⊎ (new ≡ 2 ^ 64 - 1)

-- a call failed: the count of faults rose, or stands at its last value
abbrev pub FaultsRose : StreamState → StreamState → Type 0
FaultsRose old new = Rose old.faults new.faults

-- no fault is forgotten
abbrev pub FaultsOnlyRise : StreamState → StreamState → Type 0
FaultsOnlyRise old new = old.faults ≤ new.faults

-- a source had these bytes in front, and has the rest; one that tells nothing goes on so
abbrev pub GivesFront : Option (List ℕ) → Option (List ℕ) → List ℕ → Type 0
GivesFront None new front = new ≡ None
GivesFront (Some bytes) new front = (rest : List ℕ) × (bytes ≡ front ++ rest) × (new ≡ Some rest)

-- no byte is left in a source that tells its bytes
abbrev pub IsAtEnd : Option (List ℕ) → Type 0
IsAtEnd None = Unit {0}
IsAtEnd (Some bytes) = bytes ≡ []

-- what tells nothing goes on so
abbrev pub StaysSilent : Option (List ℕ) → Option (List ℕ) → Type 0
StaysSilent old new = old ≡ None → new ≡ None

-- a sink took these bytes at its end; one that tells nothing goes on so
abbrev pub Appends : Option (List ℕ) → Option (List ℕ) → List ℕ → Type 0
Appends None new bytes = new ≡ None
Appends (Some xs) new bytes = new ≡ Some (xs ++ bytes)

-- a sink took some first part of these bytes
abbrev pub AppendsPrefix : Option (List ℕ) → Option (List ℕ) → List ℕ → Type 0
AppendsPrefix old new bytes = (front back : List ℕ) × (bytes ≡ front ++ back) × Appends old new front

-- what writing a text does to a sink: all of it stands there, or a count rose and a first part stands there
pub record Writes {A E : Type 0} (result : Result A E) (old new : StreamState) (text : List ℕ) : Type 0 where
  pub ok : OnOk result (Appends old.bytes new.bytes text)
  pub failed : OnErr result (FaultsRose old new)
  pub part : OnErr result (AppendsPrefix old.bytes new.bytes text)
  pub count : FaultsOnlyRise old new
