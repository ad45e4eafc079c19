-- `capi::stakebook_add` meets its contract.
use Rattle.capi.proofs.Promises.{book_packed}
use Rattle.capi.proofs.stakebook_add.Goals as goal

pub returns : goal.returns
returns c = book_packed c.add.ensures c.book.ensures
