-- `capi::stakebook_two_column_withdraw` meets its contract.
use Rattle.capi.proofs.Promises.{pair_packed}
use Rattle.capi.proofs.stakebook_two_column_withdraw.Goals as goal

pub returns : goal.returns
returns c = pair_packed c.withdraw.ensures c.book.ensures
