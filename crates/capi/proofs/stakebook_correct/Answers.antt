-- `capi::stakebook_correct` meets its contract.
use Rattle.capi.proofs.Promises.{book_packed}
use Rattle.capi.proofs.stakebook_correct.Goals as goal

pub returns : goal.returns
returns c = book_packed c.correct.ensures c.book.ensures
