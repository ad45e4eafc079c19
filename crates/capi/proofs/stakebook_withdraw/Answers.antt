-- `capi::stakebook_withdraw` meets its contract.
use Rattle.capi.proofs.Promises.{book_packed}
use Rattle.capi.proofs.stakebook_withdraw.Goals as goal

pub returns : goal.returns
returns c = book_packed c.withdraw.ensures c.book.ensures
