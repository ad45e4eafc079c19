-- `folds::end_of` meets its contract.
use Rattle.std.proofs.Common.{◌+◌, sym, arith, ne_eqb}
use Rattle.folds.specs.Folds.{end_of}
use Rattle.folds.specs.FoldLaws.{product_below, last_end}
use Rattle.folds.proofs.end_of.Goals as goal

pub returns-then-next-folds : goal.returns-then-next-folds
returns-then-next-folds c = sym (last_end c.args.n c.args.folds c.args.f c.if-next-folds.true)

pub overflow_mul-result : goal.overflow_mul-result
overflow_mul-result c = record { fits = omega (arith, product_below c.args.n c.args.folds (c.args.f + 1) (omega arith)) }

pub returns : goal.returns
unfolding end_of
returns c = rw (ne_eqb (c.args.f + 1) c.args.folds c.if-next-folds.false)
