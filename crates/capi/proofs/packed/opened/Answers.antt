-- `capi::packed::opened` meets its contract.
use borrow.Author.Rules.{rules}
use Rattle.capi.specs.Packed.{packed_opened}
use Rattle.capi.proofs.packed.opened.Goals as goal

pub returns-in-Ok : goal.returns-in-Ok
unfolding packed_opened
returns-in-Ok c = search rules

pub returns-in-Err : goal.returns-in-Err
unfolding packed_opened
returns-in-Err c = rw c.in-Err.is c.refused.ensures
