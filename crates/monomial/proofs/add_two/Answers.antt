-- `monomial::add_two` meets its contract: the two rows are added to A, and then to g in the tail that is lent.
use native.Mathlib.Omega.{arith}
use Rattle.monomial.specs.Rows.{row_at, weighted_at}
use Rattle.monomial.proofs.Upper.{two_added}
use Rattle.monomial.proofs.add_two.Goals as goal

pub returns : goal.returns
unfolding weighted_at row_at
returns c = rw (c.add_right-2.ensures, c.add_right.ensures, ← c.terms-terms.ensures, ← c.terms-later.ensures, ← c.weight-w.ensures, ← c.weight-v.ensures)
    (two_added c.args.sums.now c.add_upper.new.sums _ _ _ _ _ _ (omega (arith, c.requires.0)) c.add_upper.ensures)
