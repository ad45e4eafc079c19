-- `capi::stakebook_surface_band` meets its contract.
use mathlib.Core.Path.{refl}
use borrow.Author.Tests.{lt-ltb, le-ltb}
use Rattle.capi.proofs.Promises.{band_short, band_packed}
use Rattle.capi.proofs.stakebook_surface_band.Goals as goal

pub returns-then-places-lt-BAND : goal.returns-then-places-lt-BAND
returns-then-places-lt-BAND c = band_short _ _ _ _ (lt-ltb _ _ c.if-places-lt-BAND.true) refl refl _ c.refused.ensures

pub returns : goal.returns
returns c = rw (← c.confidence-with.ensures, ← c.tolerance-allowed.ensures)
    (band_packed _ _ _ _ (le-ltb _ _ c.if-places-lt-BAND.false) _ _ c.surface_band-answer.ensures c.packed_band.ensures.0 c.packed_band.ensures.1)
