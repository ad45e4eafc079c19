-- Laws of Losses.antt.
use Rattle.std.specs.Prelude.{◌≡◌, List, [], ◌∷◌, map, refl, Float}
use Rattle.std.proofs.Common.{ap, ap₂, ◌∙◌}
use Rattle.value.specs.Absolute.{abs_f}
use Rattle.value.specs.AbsoluteLaws.{abs_abs}
use Rattle.statistics.specs.Medians.{median_absolute_deviation}
use Rattle.statistics.specs.MedianLaws.{deviation_sizes}
use Rattle.statistics.specs.Losses.{huber_const, huber_loss, losses}

loss_size : (r constant mad : Float) → huber_loss (abs_f r) constant mad ≡ huber_loss r constant mad
unfolding huber_loss
loss_size r constant mad = rw (abs_abs r)

-- the losses of residuals are those of their sizes
pub losses_sizes : (rs : List Float) → losses (map abs_f rs) ≡ losses rs
unfolding losses
losses_sizes rs =
    ap (λ (m : Float). map (λ r. huber_loss r huber_const m) (map abs_f rs)) (deviation_sizes rs) ∙ each (median_absolute_deviation rs) rs
  where
    each : (m : Float) (l : List Float) → map (λ r. huber_loss r huber_const m) (map abs_f l) ≡ map (λ r. huber_loss r huber_const m) l
    each m [] = refl
    each m (x ∷ xs) = ap₂ (λ (a : Float) (r : List Float). a ∷ r) (loss_size x huber_const m) (each m xs)
