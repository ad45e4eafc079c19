-- A partition of `ByArea`, piece by piece. Definitions only.
use Rattle.std.specs.Prelude.{List, [], ◌∷◌, ℕ, ◌+◌, ◌*◌}
use Rattle.student.specs.ByArea.{piece_at, Node}

-- a piece of half width g more
abbrev pub step : ℕ → ℕ → Node → ℕ → Node
step ν M m g = (m.0 + 2 * g, m.1 + (piece_at ν M g m.0).0, m.2 + (piece_at ν M g m.0).1)

-- pieces of these half widths, one after the other
unfoldable pub run : ℕ → ℕ → Node → List ℕ → Node
run ν M m [] = m
run ν M m (g ∷ gs) = run ν M (step ν M m g) gs
