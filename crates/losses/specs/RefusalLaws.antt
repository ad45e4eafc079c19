-- What the losses may refuse by of 1 to 9, in the checking order, and what they may count on past them.
use Rattle.std.specs.Prelude.{◌≡◌, ℕ, ◌≤◌, ◌<◌}
use Rattle.std.proofs.Math.Path.{refl}
use mathlib.Core.List.{List, [], ◌∷◌, Memᴰ}
use Rattle.basis.specs.Sizes.{highest_degree}
use Rattle.statistics.specs.Degrees.{max_degree}
use Rattle.samples.specs.declared.Sample.{Sample}
use Rattle.refusal.specs.Refusals.{numbers_of, InOrder, those, is_among}
use Rattle.refusal.specs.Laws.{numbered}
use Rattle.refusal.specs.Rooms.{Room}
use Rattle.settings.specs.declared.Settings.{Settings}
use Rattle.reporting.specs.RefusalLaws.{choosing_room}
use Rattle.losses.specs.Refusals.{loss_needs, loss_tests, loss_refusal}

module _ (n : ℕ) (settings : Settings) (samples : List Sample) (columns : List ℕ) (sums scratch losses : ℕ) where
  pub loss_numbers_lem : Memᴰ (loss_refusal n settings samples columns sums scratch losses) (0 ∷ 1 ∷ 4 ∷ 7 ∷ 8 ∷ [])
  unfolding loss_refusal
  loss_numbers_lem = numbered _

  pub loss_in_order : InOrder (numbers_of (loss_tests n settings samples columns sums scratch losses))
  unfolding those is_among
  loss_in_order = refl

-- 0: the memory, a sample at least, and a bound of 15 at most
pub loss_room : (n : ℕ) (settings : Settings) (samples : List Sample) (columns : List ℕ) (sums scratch losses : ℕ)
    → loss_refusal n settings samples columns sums scratch losses ≡ 0
    → Room n columns (loss_needs n sums scratch losses) × (0 < n) × (max_degree settings.bound n ≤ highest_degree)
unfolding loss_refusal
loss_room n settings samples columns sums scratch losses = choosing_room n settings samples columns (loss_needs n sums scratch losses)
