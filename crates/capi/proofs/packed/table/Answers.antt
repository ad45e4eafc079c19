-- `capi::packed::table` meets its contract.
use borrow.Author.Rules.{rules}
use Rattle.capi.specs.Packed.{packed_table}
use Rattle.capi.proofs.packed.table.Goals as goal

pub returns-in-Ok : goal.returns-in-Ok
unfolding packed_table
returns-in-Ok c = search rules

pub returns-in-Err : goal.returns-in-Err
unfolding packed_table
returns-in-Err c = rw c.in-Err.is c.refused.ensures
