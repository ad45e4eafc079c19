-- `solve::back_substitution` meets its contract. The invariants: the definition from here on is the definition where the loop began.
use Rattle.std.proofs.Common.{◌≡◌, ◌-◌}
use Rattle.loops.specs.Loop.{from}
use Rattle.solve.specs.Solve.{less_term, back_row}
use Rattle.solve.proofs.back_substitution.Given as goal

abbrev pub invariant-loop-c : goal.invariant-loop-c
invariant-loop-c l = from (less_term l.m l.r l.b) l.c l.n l.v ≡ from (less_term l.m l.r l.b) l.initial.c l.n l.initial.v

abbrev pub invariant-loop-r : goal.invariant-loop-r
invariant-loop-r l = from (λ j. back_row l.n l.m (l.n - 1 - j)) (l.n - l.r) l.n l.b ≡ from (λ j. back_row l.n l.m (l.n - 1 - j)) 0 l.n l.initial.b
