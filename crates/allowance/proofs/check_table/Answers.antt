-- `allowance::check_table` meets its contract.
use Rattle.std.proofs.Common.{rules}
use Rattle.allowance.specs.Table.{table_refusal}
use Rattle.allowance.proofs.check_table.Goals as goal

pub returns : goal.returns
unfolding table_refusal
returns c = search rules
