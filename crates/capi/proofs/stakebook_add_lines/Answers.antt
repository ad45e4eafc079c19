-- `capi::stakebook_add_lines` meets its contract.
use Rattle.capi.proofs.Promises.{book_packed}
use Rattle.capi.proofs.stakebook_add_lines.Goals as goal

pub returns : goal.returns
returns c = book_packed c.add_lines.ensures c.book.ensures
