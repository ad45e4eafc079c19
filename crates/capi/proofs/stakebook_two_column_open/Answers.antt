-- `capi::stakebook_two_column_open` meets its contract.
use Rattle.capi.proofs.Promises.{pair_packed}
use Rattle.capi.proofs.stakebook_two_column_open.Goals as goal

pub returns : goal.returns
returns c =
    let at_open = c.«open» in
    pair_packed at_open.ensures c.book.ensures
