-- `capi::stakebook_add_frame` meets its contract.
use Rattle.capi.proofs.Promises.{book_packed}
use Rattle.capi.proofs.stakebook_add_frame.Goals as goal

pub returns : goal.returns
returns c = book_packed c.add_frame.ensures c.book.ensures
