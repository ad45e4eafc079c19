-- `solve::columns::put_identity` meets its contract. The loop's invariant: the definition from here on is the definition at the start.
use Rattle.std.proofs.Common.{ap, sym, ◌∙◌}
use Rattle.loops.specs.LoopLaws.{again, done}
use Rattle.solve.specs.Columns.{column_in}
use Rattle.solve.specs.ColumnLaws.{unit_columns}
use Rattle.solve.proofs.columns.put_identity.Goals as goal

pub loop-i-preserved : goal.loop-i-preserved
loop-i-preserved c = again _ _ _ _ c.loop-i-test.true ∙ c.loop-i.invariant

pub returns : goal.returns
returns c j h = ap (λ v. column_in v j) (sym (done _ _ _ _ c.loop-i-test.false) ∙ c.loop-i.invariant) ∙ (rw c.requires.1 (unit_columns c.args.k.0 j h c.requires.0))
