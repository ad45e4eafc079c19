-- `statistics::t_score` meets its contract. By the two tests on df.
use Rattle.std.proofs.Common.{arith, eq-eqb, ne_eqb, le-leb}
use borrow.Author.Tests.{lt-leb}
use Rattle.statistics.specs.Scores.{t_score}
use Rattle.statistics.proofs.t_score.Goals as goal

pub returns-then-df-eq0 : goal.returns-then-df-eq0
unfolding t_score
returns-then-df-eq0 c = rw (eq-eqb c.args.df 0 c.if-df-eq0.true)

pub returns-then-df-le30 : goal.returns-then-df-le30
unfolding t_score
returns-then-df-le30 c = rw (ne_eqb c.args.df 0 c.if-df-eq0.false, le-leb c.args.df 30 (omega arith)) c.table_score.ensures

pub returns : goal.returns
unfolding t_score
returns c = rw (ne_eqb c.args.df 0 c.if-df-eq0.false, lt-leb c.args.df 30 (omega arith)) c.z_score.ensures
