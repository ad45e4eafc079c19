-- `capi::stakebook_fit` meets its contract.
use Rattle.capi.proofs.Promises.{fit_packed}
use Rattle.capi.proofs.stakebook_fit.Goals as goal

pub returns : goal.returns
returns c = fit_packed _ _ c.fit.ensures c.fit-2.ensures
