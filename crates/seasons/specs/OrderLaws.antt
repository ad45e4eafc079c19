-- The tests of a call on a stake stand in the checking order, 18 before all others. A change is refused by the first of them that holds, as the book's own call is by
-- the first of its own.
-- `stakes/specs/RefusalLaws.antt` has this of openings, adds, corrections, withdrawals, frames and lines.
use Rattle.std.specs.Prelude.{◌≡◌, refl, Bool, true, false, cond, ◌||◌, ℕ, ltb, leb, length, Float}
use mathlib.Core.List.{List, ◌∷◌}
use Rattle.statistics.specs.declared.Confidence.{Confidence}
use Rattle.statistics.specs.declared.DegreeBound.{DegreeBound}
use Rattle.statistics.specs.declared.Tolerance.{Tolerance}
use Rattle.samples.specs.declared.Sample.{Sample}
use Rattle.refusal.specs.Refusals.{Test, by, first_of, settle, numbers_of, InOrder, those, is_among}
use Rattle.refusal.specs.Named.{number_of}
use Rattle.settings.specs.declared.Settings.{Settings}
use Rattle.book.specs.Calls.{Out, State}
use Rattle.book.specs.Window.{window_tests}
use Rattle.carried.specs.Carry.{carry_tests}
use Rattle.query.specs.Refusals.{fit_tests, validate_tests, band_tests}
use Rattle.reporting.specs.declared.Places.{Places}
use Rattle.report.specs.Refusals.{report_tests}
use Rattle.losses.specs.Refusals.{loss_tests}
use Rattle.scores.specs.Refusals.{scores_tests}
use Rattle.split.specs.declared.Places.{Places as Sides}
use Rattle.split.specs.Refusals.{split_tests}
use Rattle.stakes.specs.Parts.{stakes}
use Rattle.stakes.specs.Season.{SeasonState, stake_state, stake_refusal, season_tests}
use Rattle.season.specs.Changes.{SeasonOut, left_alone, on_stake}

module _ (s counts n : ℕ) (columns : List ℕ) (sums : ℕ) where
  pub more_changes_in_order : (p : Sample) → InOrder (numbers_of (season_tests s counts (window_tests n p columns sums))) × InOrder (numbers_of (season_tests s counts (carry_tests n columns sums)))
  unfolding those is_among
  more_changes_in_order p = (refl, refl)

  module _ (samples : List Sample) (scratch : ℕ) where
    pub reads_in_order : (degree folds coefficients : ℕ) (bound : DegreeBound) (x : Float) (confidence : Confidence) (tolerance : Tolerance)
        → InOrder (numbers_of (season_tests s counts (fit_tests n samples columns sums scratch degree coefficients)))
        × InOrder (numbers_of (season_tests s counts (validate_tests n samples columns sums scratch folds bound coefficients)))
        × InOrder (numbers_of (season_tests s counts (band_tests n samples columns sums scratch x degree confidence tolerance)))
    unfolding those is_among
    reads_in_order degree folds coefficients bound x confidence tolerance = (refl, refl, refl)

    pub reports_in_order : (settings : Settings) (places : Places) (sides : Sides) (losses solved scores : ℕ)
        → InOrder (numbers_of (season_tests s counts (report_tests n settings samples columns sums places)))
        × InOrder (numbers_of (season_tests s counts (loss_tests n settings samples columns sums scratch losses)))
        × InOrder (numbers_of (season_tests s counts (scores_tests n settings samples columns sums scratch solved scores)))
        × InOrder (numbers_of (season_tests s counts (split_tests n settings samples columns sums sides)))
    unfolding those is_among
    reports_in_order settings places sides losses solved scores = (refl, refl, refl, refl)

-- of a call that changes a stake's book; `season_number` has it of those that read
pub change_number : (s : ℕ) (S : SeasonState) (call : State → Out) (short : Bool) (later : List Test)
    → number_of (call (stake_state s S)).answer ≡ first_of (by short 1 ∷ later)
    → number_of (on_stake s S call).answer ≡ first_of (season_tests s (length S.counts) (by short 1 ∷ later))
unfolding on_stake stake_refusal first_of
change_number s S call short later e = go (leb stakes s) (ltb (length S.counts) stakes) short (first_of later) _ e
  where
    go : (a b c : Bool) (k : ℕ) (o : SeasonOut) → number_of o.answer ≡ cond c 1 k
        → (let r = cond a 18 (cond b 1 0) in number_of (settle r o (left_alone r S)).answer) ≡ cond a 18 (cond (b || c) 1 k)
    go true b c k o e = refl
    go false true c k o e = refl
    go false false c k o e = e
