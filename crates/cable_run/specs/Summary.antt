-- The summary of a drill, part by part.
use Rattle.std.specs.Prelude.{ℕ, List, ◌++◌, codes}
use Rattle.std.specs.Fmt.{decimal}

-- what stands before the verdict: the number, how many turbines, the budget, and how many arcs
abbrev pub summary_front : ℕ → ℕ → ℕ → ℕ → List ℕ
summary_front k turbines n arcs =
    (codes "drill " ++ decimal k) ++ ((codes " " ++ decimal turbines) ++ ((codes " " ++ decimal n) ++ ((codes " arcs " ++ decimal arcs) ++ codes ": ")))
