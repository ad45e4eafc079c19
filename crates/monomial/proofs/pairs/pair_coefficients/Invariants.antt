-- `monomial::pairs::pair_coefficients` meets its contract. The loop's invariant: the places passed are written.
use Rattle.std.proofs.Common.{◌≡◌, [], ◌∷◌, get_or}
use lib.Ieee.{nan}
use Rattle.loops.specs.Places.{each}
use Rattle.monomial.proofs.pairs.pair_coefficients.Given as goal

abbrev pub invariant-loop-j : goal.invariant-loop-j
invariant-loop-j l = l.v ≡ each (λ i _. get_or l.c i nan ∷ get_or l.c i nan ∷ []) l.j l.initial.v
