-- One elimination for all counts: that of K coefficients contains those of fewer, in its corner and in the first places of b. Definitions only.
use Rattle.std.specs.Prelude.{◌≡◌, cond, List, ℕ, ◌<◌, min, ltb, length, get_or, replicate, Float}
use Rattle.std.specs.Float.{nan}
use Rattle.basis.specs.Sizes.{max_terms}
use Rattle.loops.specs.Loop.{Stopped}
use Rattle.loops.specs.Places.{each}
use Rattle.value.specs.Numbers.{zero_f}
use Rattle.solve.specs.declared.Solved.{Solved}
use Rattle.solve.specs.Solve.{System, eliminate, back, right_of}
use Rattle.solve.specs.Corner.{SameCells, first_rows}

-- s, of more coefficients, holds what t holds of k
pub record Nested (k : ℕ) (s t : System) : Type 0 where
  pub corner : SameCells k s.m t.m
  pub right : (r : ℕ) → r < k → get_or s.b r nan ≡ get_or t.b r nan
  pub long : length s.b ≡ max_terms
  pub long' : length t.b ≡ max_terms

-- an elimination that stopped at a pivot, with M and b
abbrev pub stopped : ℕ → List Float → List Float → Stopped System
stopped held m b = record { at = held; state = record { m = m; b = b } }

-- that of k coefficients, from the first k rows of A and the first k places of g; the starting values are A's
abbrev pub elimination : List Float → ℕ → Stopped System
elimination sums k = eliminate sums k (record { m = first_rows sums k; b = right_of sums k })

-- the first k places of b, then +0
unfoldable pub front : ℕ → List Float → List Float
front k b = each (λ i _. get_or b i nan) k (replicate max_terms zero_f)

-- what is solved for k coefficients, read off an elimination of at least as many
unfoldable pub solution_of : ℕ → Stopped System → Solved
solution_of k e =
    record { held = min k e.at; c = cond (ltb e.at k) (replicate max_terms zero_f) (back k e.state.m (front k e.state.b)) }
