-- `folds::start_of` meets its contract.
use Rattle.std.proofs.Common.{refl, arith}
use Rattle.folds.specs.Folds.{start_of}
use Rattle.folds.specs.FoldLaws.{product_below}
use Rattle.folds.proofs.start_of.Goals as goal

pub overflow_mul-result : goal.overflow_mul-result
overflow_mul-result c = record { fits = omega (arith, product_below c.args.n c.args.folds c.args.f (omega arith)) }

pub returns : goal.returns
unfolding start_of
returns c = refl
