-- `capi::stakebook_validate` meets its contract.
use Rattle.capi.proofs.Promises.{fit_packed}
use Rattle.capi.proofs.stakebook_validate.Goals as goal

pub returns : goal.returns
returns c = rw (← c.bound-by.ensures, ← c.criterion-scored.ensures) (fit_packed _ _ c.validate.ensures c.fit.ensures)
