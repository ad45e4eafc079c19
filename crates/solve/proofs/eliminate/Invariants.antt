-- `solve::eliminate` meets its contract. The invariants of the three loops: the definition from here on is the definition where the loop began, and
-- no pivot has failed yet.
use Rattle.std.proofs.Common.{◌≡◌}
use Rattle.loops.specs.Loop.{from, while}
use Rattle.solve.specs.Solve.{less_cell, clear_row, clear_below, pivot_holds}
use Rattle.solve.proofs.eliminate.Given as goal

abbrev pub invariant-columns : goal.invariant-columns
invariant-columns l = from (less_cell l.p l.r l.f) l.c l.n l.m ≡ from (less_cell l.p l.r l.f) l.initial.c l.n l.initial.m

abbrev pub invariant-rows : goal.invariant-rows
invariant-rows l = from (clear_row l.n l.p) l.r l.n (record { m = l.m; b = l.b }) ≡ from (clear_row l.n l.p) l.initial.r l.n (record { m = l.initial.m; b = l.initial.b })

abbrev pub invariant-pivots : goal.invariant-pivots
invariant-pivots l = (while (pivot_holds l.start) (clear_below l.n) l.p l.n (record { m = l.m; b = l.b }) ≡ while (pivot_holds l.start) (clear_below l.n) l.initial.p l.n (record { m = l.initial.m; b = l.initial.b })) × (l.held ≡ l.n)
