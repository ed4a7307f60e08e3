-- Names by the numbers of their points.
use Rattle.std.specs.Prelude.{ℕ, List, map}
use Rattle.std.specs.Vec.{vec_items}
use Rattle.std.specs.declared.vec.Vec.{Vec}

-- the bytes of each name of a list
abbrev pub names_in : {Z : Type 0} → List (Vec ℕ Z) → List (List ℕ)
names_in keys = map vec_items keys
