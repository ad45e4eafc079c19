-- `capi::stakebook_open` meets its contract.
use Rattle.capi.proofs.Promises.{book_packed}
use Rattle.capi.proofs.stakebook_open.Goals as goal

pub returns : goal.returns
returns c =
    let at_open = c.«open» in
    book_packed at_open.ensures c.book.ensures
