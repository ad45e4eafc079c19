-- `monomial::pairs::pair_fitted` meets its contract. The loop's invariant: v holds the fitted values of the coefficients passed.
use Rattle.std.proofs.Common.{◌≡◌, [], ◌∷◌}
use Rattle.value.specs.Lanes.{lane}
use Rattle.monomial.specs.Rows.{fitted}
use Rattle.monomial.proofs.pairs.pair_fitted.Given as goal

abbrev pub invariant-loop-j : goal.invariant-loop-j
invariant-loop-j l = l.v ≡ fitted l.j (lane 0 l.c) (lane 0 l.terms) ∷ fitted l.j (lane 1 l.c) (lane 1 l.terms) ∷ []
