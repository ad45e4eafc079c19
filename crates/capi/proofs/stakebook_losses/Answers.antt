-- `capi::stakebook_losses` meets its contract.
use mathlib.Core.Path.{refl}
use borrow.Author.Tests.{lt-ltb, le-ltb}
use Rattle.capi.proofs.Promises.{loss_short, loss_packed}
use Rattle.capi.proofs.stakebook_losses.Goals as goal

pub returns-then-numbers-lt-TOLD : goal.returns-then-numbers-lt-TOLD
returns-then-numbers-lt-TOLD c = loss_short _ _ _ _ _ (lt-ltb _ _ c.if-numbers-lt-TOLD.true) refl refl refl _ c.refused.ensures

pub returns : goal.returns
returns c = rw (← c.listed-settings.ensures)
    (loss_packed _ _ _ _ _ (le-ltb _ _ c.if-numbers-lt-TOLD.false) _ _ c.losses.ensures c.packed_losses.ensures.0 c.packed_losses.ensures.1)
