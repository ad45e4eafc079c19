-- `capi::stakebook_renew` meets its contract.
use Rattle.capi.proofs.Promises.{table_packed}
use Rattle.capi.proofs.stakebook_renew.Goals as goal

pub returns : goal.returns
returns c = table_packed _ c.renew.ensures c.table.ensures
