-- What the scores may refuse by of 1 to 9, in the checking order, and what they may count on past them.
use Rattle.std.specs.Prelude.{◌≡◌, ℕ, ◌≤◌, ◌<◌}
use Rattle.std.proofs.Math.Path.{refl}
use mathlib.Core.List.{List, [], ◌∷◌, Memᴰ}
use Rattle.basis.specs.Sizes.{highest_degree}
use Rattle.statistics.specs.Degrees.{max_degree}
use Rattle.samples.specs.declared.Sample.{Sample}
use Rattle.refusal.specs.Refusals.{numbers_of, InOrder, those, is_among}
use Rattle.refusal.specs.Laws.{numbered}
use Rattle.refusal.specs.Rooms.{Room}
use Rattle.settings.specs.declared.Settings.{Settings}
use Rattle.reporting.specs.RefusalLaws.{choosing_room}
use Rattle.scores.specs.Refusals.{scores_needs, scores_tests, scores_refusal}

module _ (n : ℕ) (settings : Settings) (samples : List Sample) (columns : List ℕ) (sums scratch solved scores : ℕ) where
  pub scores_numbers : Memᴰ (scores_refusal n settings samples columns sums scratch solved scores) (0 ∷ 1 ∷ 4 ∷ 7 ∷ 8 ∷ [])
  unfolding scores_refusal
  scores_numbers = numbered _

  pub scores_in_order : InOrder (numbers_of (scores_tests n settings samples columns sums scratch solved scores))
  unfolding those is_among
  scores_in_order = refl

  -- 0: the memory, a sample at least, and a bound of 15 at most
  pub scores_room : scores_refusal n settings samples columns sums scratch solved scores ≡ 0
      → Room n columns (scores_needs n sums scratch solved scores) × (0 < n) × (max_degree settings.bound n ≤ highest_degree)
  unfolding scores_refusal
  scores_room = choosing_room n settings samples columns (scores_needs n sums scratch solved scores)
