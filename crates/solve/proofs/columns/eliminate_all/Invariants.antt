-- `solve::columns::eliminate_all` meets its contract. The invariants of the loops: for each column the definition from here on is the definition where the loop began,
-- and no pivot has failed yet.
use Rattle.std.proofs.Common.{◌≡◌, ◌<◌, ℕ, List, length}
use lib.Ieee.{Float}
use Rattle.loops.specs.Loop.{from, while}
use Rattle.solve.specs.Solve.{less_cell, clear_row, clear_below, pivot_holds}
use Rattle.solve.specs.Columns.{Diagonal, column_in}
use Rattle.solve.proofs.columns.eliminate_all.Given as goal

abbrev pub invariant-columns : goal.invariant-columns
invariant-columns l = from (less_cell l.p l.r l.f) l.c l.n l.m ≡ from (less_cell l.p l.r l.f) l.initial.c l.n l.initial.m

abbrev pub invariant-beside : goal.invariant-beside
invariant-beside l = (from (less_cell l.p l.r l.f) l.c l.n l.v ≡ from (less_cell l.p l.r l.f) 0 l.n l.initial.v) × (length l.v ≡ 256)

abbrev pub invariant-rows : goal.invariant-rows
invariant-rows l =
    ((j : ℕ) → j < l.n → from (clear_row l.n l.p) l.r l.n (record { m = l.m; b = column_in l.v j }) ≡ from (clear_row l.n l.p) l.initial.r l.n (record { m = l.initial.m; b = column_in l.initial.v j }))
    × (length l.v ≡ 256)

abbrev pub invariant-pivots : goal.invariant-pivots
invariant-pivots l =
    ((s : List Float) → Diagonal l.n s l.start → (j : ℕ) → j < l.n → while (pivot_holds s) (clear_below l.n) l.p l.n (record { m = l.m; b = column_in l.v j }) ≡ while (pivot_holds s) (clear_below l.n) l.initial.p l.n (record { m = l.initial.m; b = column_in l.initial.v j })) × (l.held ≡ l.n)
    × (length l.v ≡ 256)
