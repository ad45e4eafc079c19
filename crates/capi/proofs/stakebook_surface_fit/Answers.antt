-- `capi::stakebook_surface_fit` meets its contract.
use Rattle.capi.proofs.Promises.{fit_packed}
use Rattle.capi.proofs.stakebook_surface_fit.Goals as goal

pub returns : goal.returns
returns c = fit_packed _ _ c.surface_fit.ensures c.fit.ensures
