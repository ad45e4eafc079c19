-- `capi::stakebook_add_window` meets its contract.
use Rattle.capi.proofs.Promises.{book_packed}
use Rattle.capi.proofs.stakebook_add_window.Goals as goal

pub returns : goal.returns
returns c = book_packed c.add_window.ensures c.book.ensures
