-- `fit::judged` meets its contract.
use borrow.Author.Rules.{rules}
use lib.ListN.{length}
use Rattle.monomial.specs.RowLaws.{length_rows_at}
use Rattle.fit.proofs.Trials.{pivot_fails, pivots_hold}
use Rattle.fit.proofs.judged.Goals as goal

pub returns-then-s-k : goal.returns-then-s-k
returns-then-s-k c = pivot_fails c.args.sums.now _ c.args.k.0 (length c.args.rows.ys.now) c.args.scratch.now c.args.s.now c.requires.2 c.if-s-k.true

pub returns : goal.returns
returns c = pivots_hold c.args.sums.now _ c.args.k.0 (length c.args.rows.ys.now) c.args.scratch.now c.args.s.now c.requires.2 c.if-s-k.false _ _ c.sizes-solved.ensures.is c.sizes-solved.ensures.written (length_rows_at c.args.rows.basis c.args.rows.xs.now c.args.rows.zs.now c.args.rows.ys.now (length c.args.rows.ys.now)) (search rules)
