-- `capi::stakebook_start` meets its contract.
use Rattle.capi.proofs.Promises.{table_packed}
use Rattle.capi.proofs.stakebook_start.Goals as goal

pub returns : goal.returns
returns c = table_packed _ c.start.ensures c.table.ensures
