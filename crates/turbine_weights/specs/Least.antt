-- The lesser of two costs.
use Rattle.std.specs.Prelude.{ℕ, min, Option, Some, None}

-- the lesser of two costs, of which each may be missing
abbrev pub lesser_cost : Option ℕ → Option ℕ → Option ℕ
lesser_cost None b = b
lesser_cost (Some a) None = Some a
lesser_cost (Some a) (Some b) = Some (min a b)
