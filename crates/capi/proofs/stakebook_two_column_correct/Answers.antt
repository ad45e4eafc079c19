-- `capi::stakebook_two_column_correct` meets its contract.
use Rattle.capi.proofs.Promises.{pair_packed}
use Rattle.capi.proofs.stakebook_two_column_correct.Goals as goal

pub returns : goal.returns
returns c = pair_packed c.correct.ensures c.book.ensures
