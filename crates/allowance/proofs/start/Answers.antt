-- `allowance::start` meets its contract.
use Rattle.std.proofs.Common.{refl}
use Rattle.refusal.specs.NamedLaws.{passed, refused_on}
use Rattle.allowance.specs.Table.{start_out, started}
use Rattle.allowance.proofs.Charging.{table_refused}
use Rattle.allowance.proofs.start.Goals as goal

pub returns-in_err-check_table : goal.returns-in_err-check_table
unfolding start_out
returns-in_err-check_table c = table_refused _ _ _ (refused_on c.check_table.ensures c.in_err-check_table.was c.from_residual.ensures.1)

pub returns : goal.returns
unfolding start_out started
returns c = rw (passed c.check_table.ensures c.in_ok-check_table.was) (record { answer = refl; table = c.fill.ensures })
