-- `capi::stakebook_carry` meets its contract.
use Rattle.capi.proofs.Promises.{book_packed}
use Rattle.capi.proofs.stakebook_carry.Goals as goal

pub returns : goal.returns
returns c = book_packed c.carry.ensures c.book.ensures
