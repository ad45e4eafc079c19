-- Numbers that lie side by side in vectors. Definitions only.
use Rattle.std.specs.Prelude.{◌≡◌, ℕ, List, map, length, get_or, Float}
use Rattle.std.specs.Float.{nan}
use Rattle.loops.specs.All.{All}

-- each vector holds two
abbrev pub Paired : List (List Float) → Type 0
Paired vs = All (λ (v : List Float). length v ≡ 2) vs

-- what stands at place i of each
unfoldable pub lane : ℕ → List (List Float) → List Float
lane i vs = map (λ v. get_or v i nan) vs
