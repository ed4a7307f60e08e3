-- Sources and sinks in memory.
use Rattle.std.specs.Prelude.{◌≡◌, ℕ, ◌+◌, ◌-◌, ◌^◌, ◌<◌, ◌≤◌, ◌⊎◌, min, List, ◌++◌, length, take, drop, Contains}

-- a source: the bytes that are left, how many it gives at most, the numbers of the calls that fail, how many calls there were, and how many failed
pub record SourceState : Type 0 where
  pub left : List ℕ
  pub piece : ℕ
  pub fails : List ℕ
  pub calls : ℕ
  pub failed : ℕ

-- a sink: the bytes taken, how many it takes in all, the numbers of the calls that fail, how many calls there were, and how many failed
pub record SinkState : Type 0 where
  pub taken : List ℕ
  pub room : ℕ
  pub fails : List ℕ
  pub calls : ℕ
  pub failed : ℕ

-- a count one higher, which stands still at its last value
abbrev pub next_count : ℕ → ℕ
next_count n = min (n + 1) (2 ^ 64 - 1)

-- the call after this many is listed
abbrev pub FailsNext : List ℕ → ℕ → Type 0
FailsNext fails calls = (calls < 2 ^ 64 - 1) × Contains fails (calls + 1)

-- a listed call took no byte and counted
pub record FailsAsListed (old new : SourceState) : Type 0 where
  pub listed : FailsNext old.fails old.calls
  pub state : new ≡ record old { calls = next_count old.calls; failed = old.failed + 1 }

-- a call gave as many bytes as the piece, the buffer of this size and what is left allow
pub record GivesPiece (old new : SourceState) (size count : ℕ) : Type 0 where
  pub not_listed : FailsNext old.fails old.calls → ⊥
  pub most : count ≡ min (min (length old.left) old.piece) size
  pub state : new ≡ record old { left = drop count old.left; calls = next_count old.calls }

-- a call took all of the bytes, which fit in the room
pub record TakesAll (old new : SinkState) (bytes : List ℕ) : Type 0 where
  pub not_listed : FailsNext old.fails old.calls → ⊥
  pub fits : length old.taken + length bytes ≤ old.room
  pub state : new ≡ record old { taken = old.taken ++ bytes; calls = next_count old.calls }

-- a listed call took nothing and counted, or one whose bytes didn't fit took those that fit and counted
abbrev pub TakesPart : SinkState → SinkState → List ℕ → Type 0
TakesPart old new bytes =
    (FailsNext old.fails old.calls × (new ≡ record old { calls = next_count old.calls; failed = next_count old.failed }))
    ⊎ ((FailsNext old.fails old.calls → ⊥) × (old.room < length old.taken + length bytes)
    × (new ≡ record old { taken = old.taken ++ take (old.room - length old.taken) bytes; calls = next_count old.calls; failed = next_count old.failed }))
