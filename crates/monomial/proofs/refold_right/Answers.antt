-- `monomial::refold_right` meets its contract: g is folded in the tail that is lent.
use lib.ListN.{drop}
use Rattle.loops.specs.PlaceLaws.{tail_back}
use Rattle.monomial.specs.Sums.{sums_of}
use Rattle.monomial.specs.Reading.{weighted_read}
use Rattle.monomial.proofs.refold_right.Goals as goal

pub returns : goal.returns
returns c = rw c.fold_right.ensures (tail_back 256 16 c.args.sums.now (drop 256 (sums_of (weighted_read c.args.rows))))
