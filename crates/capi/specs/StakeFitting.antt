-- What the calls that read a stake answer fits the fields that it is packed into, as the book's own answer does, and is read back.
use Rattle.std.specs.Prelude.{Bool, true, false, cond, List, [], leb, Float, length}
use Prim.Native.Nat.{ℕ, zero, suc}
use Rattle.statistics.specs.declared.DegreeBound.{DegreeBound}
use Rattle.statistics.specs.declared.Confidence.{Confidence}
use Rattle.statistics.specs.declared.Tolerance.{Tolerance}
use Rattle.score.specs.declared.Criterion.{Criterion}
use Rattle.refusal.specs.Named.{named}
use Rattle.refusal.specs.NamedLaws.{number_fits}
use Rattle.refusal.specs.Refusals.{settle}
use Rattle.settings.specs.declared.Settings.{Settings}
use Rattle.book.specs.Calls.{State}
use Rattle.measure.specs.Fits.{FitOut, fit_refused}
use Rattle.measure.specs.Bands.{BandOut, band_refused}
use Rattle.losses.specs.Losses.{LossOut, loss_refused}
use Rattle.scores.specs.Scores.{ScoresOut, scores_refused}
use Rattle.split.specs.Splits.{SplitOut, split_refused}
use Rattle.stakes.specs.Parts.{stakes, part_of}
use Rattle.stakes.specs.Season.{SeasonState, stake_state, stake_refusal, read_stake}
use Rattle.season_query.specs.Reads.{fit_from, validate_from, stake_fit_out, band_from, stake_band_out, loss_from, stake_loss_out, scores_from, stake_scores_out, split_from, stake_split_out}
use Rattle.capi.specs.Packed.{packed_fit, packed_band, band_into, packed_losses, loss_into, packed_scores, scores_into, packed_split, split_into, FitFits, BandFits, LossFits, ScoresFits, SplitFits}
use Rattle.capi.specs.SeasonPacked.{stake_into}
use Rattle.capi.specs.Fitting.{fit_fits, validate_fits, band_out_fits, into_fits as band-into}
use Rattle.capi.specs.LossFitting.{told_fits, into_fits as loss-into}
use Rattle.capi.specs.ScoresFitting.{scores_fits, into_fits as scores-into, scores_read}
use Rattle.capi.specs.SplitFitting.{split_fits, split_into_lem, split_read}
use Rattle.capi.specs.Reading.{FitRead, BandRead, LossRead, ScoresRead, SplitRead}
use Rattle.capi.specs.ReadingLaws.{fit_read, band_read, loss_read}

-- ---- of any kind O of answer: what is read of a stake, and what is judged with 1 after the stake's number

module _ {O : Type 0} (F : O → Type 0) (s : ℕ) where
  read_fits : (S : SeasonState) (call : State → O) (refused : ℕ → O) → ((k : ℕ) → F (refused k)) → F (call (stake_state s S))
      → F (read_stake s S call refused)
  unfolding read_stake
  read_fits S call refused none good = go (stake_refusal s (length S.counts))
    where
      go : (r : ℕ) → F (settle r (call (stake_state s S)) (refused r))
      go zero = good
      go (suc r) = none (suc r)

  judged_fits : (into : O → O) (o : O) → ((p : O) → F p → F (into p)) → F o → F (stake_into s into o)
  judged_fits into o g h = go (leb stakes s)
    where
      go : (t : Bool) → F (cond t o (into o))
      go true = h
      go false = g o h

-- ---- so of each call

module _ (s : ℕ) (S : SeasonState) (scratch : List Float) where
  module _ (coefficients : List Float) where
    pub stake_fit_fits : (degree : ℕ) → FitFits (stake_fit_out (fit_from degree) s S scratch coefficients).answer
    unfolding FitFits
    stake_fit_fits degree =
        let b = stake_state s S in
        read_fits (λ (o : FitOut). FitFits o.answer) s S (λ b. fit_from degree b (part_of s scratch) (part_of s coefficients)) fit_refused (λ k. number_fits (named k))
        (fit_fits b.count b.columns b.sums (part_of s scratch) (part_of s coefficients) degree)

    pub stake_validate_fits : (folds : ℕ) (bound : DegreeBound) (criterion : Criterion)
        → FitFits (stake_fit_out (validate_from folds bound criterion) s S scratch coefficients).answer
    unfolding FitFits
    stake_validate_fits folds bound criterion =
        let b = stake_state s S in
        read_fits (λ (o : FitOut). FitFits o.answer) s S (λ b. validate_from folds bound criterion b (part_of s scratch) (part_of s coefficients)) fit_refused (λ k. number_fits (named k))
        (validate_fits b.count b.columns b.sums (part_of s scratch) (part_of s coefficients) folds bound criterion)

    pub stake_fit_back : (degree : ℕ) → (let a = (stake_fit_out (fit_from degree) s S scratch coefficients).answer in FitRead (packed_fit a) a)
    stake_fit_back degree = fit_read _ (stake_fit_fits degree)

    pub stake_validate_back : (folds : ℕ) (bound : DegreeBound) (criterion : Criterion)
        → (let a = (stake_fit_out (validate_from folds bound criterion) s S scratch coefficients).answer in FitRead (packed_fit a) a)
    stake_validate_back folds bound criterion = fit_read _ (stake_validate_fits folds bound criterion)

  module _ (x : Float) (degree : ℕ) (confidence : Confidence) (tolerance : Tolerance) (places : ℕ) where
    abbrev banded : BandOut
    banded = stake_into s (band_into places) (stake_band_out (band_from x degree confidence tolerance) s S scratch)

    pub stake_band_fits : BandFits banded.answer
    unfolding BandFits
    stake_band_fits =
        let b = stake_state s S in
        judged_fits (λ (o : BandOut). BandFits o.answer) s (band_into places) _ (band-into places)
        (read_fits (λ (o : BandOut). BandFits o.answer) s S (λ b. band_from x degree confidence tolerance b (part_of s scratch)) band_refused (λ k. number_fits (named k))
        (band_out_fits b.count x degree confidence tolerance b.columns b.sums (part_of s scratch)))

    pub stake_band_back : BandRead (packed_band banded.answer) banded.answer
    stake_band_back = band_read _ stake_band_fits

  module _ (settings : Settings) where
    module _ (losses : List Float) (places : ℕ) where
      abbrev lost : LossOut
      lost = stake_into s (loss_into places) (stake_loss_out (loss_from settings losses) s S scratch)

      pub stake_loss_fits : LossFits lost.answer
      unfolding LossFits
      stake_loss_fits =
          let b = stake_state s S in
          judged_fits (λ (o : LossOut). LossFits o.answer) s (loss_into places) _ (loss-into places)
          (read_fits (λ (o : LossOut). LossFits o.answer) s S (λ b. loss_from settings losses b (part_of s scratch)) loss_refused (λ k. number_fits (named k))
          (told_fits b.count settings b.columns b.sums (part_of s scratch) losses))

      pub stake_loss_back : LossRead (packed_losses lost.answer) lost.answer
      stake_loss_back = loss_read _ stake_loss_fits

    -- of the scores and the split first the season's own answer, which `packed_scores` and `packed_split` ask to fit
    module _ (solved : List ℕ) (told : List Float) where
      pub stake_scores_fits : ScoresFits (stake_scores_out (scores_from settings solved told) s S scratch).answer
      unfolding ScoresFits
      stake_scores_fits =
          let b = stake_state s S in
          read_fits (λ (o : ScoresOut). ScoresFits o.answer) s S (λ b. scores_from settings solved told b (part_of s scratch)) scores_refused (λ k. number_fits (named k))
          (scores_fits b.count settings b.columns b.sums (part_of s scratch) solved told)

      module _ (places : ℕ) where
        abbrev scored : ScoresOut
        scored = stake_into s (scores_into places) (stake_scores_out (scores_from settings solved told) s S scratch)

        pub stake_scores_into : ScoresFits scored.answer
        stake_scores_into = judged_fits (λ (o : ScoresOut). ScoresFits o.answer) s (scores_into places) _ (scores-into places) stake_scores_fits

        pub stake_scores_back : ScoresRead (packed_scores scored.answer) scored.answer
        stake_scores_back = scores_read _ stake_scores_into

    module _ (limit : ℕ) (earlier later : List Float) where
      pub stake_split_fits : SplitFits (stake_split_out (split_from settings limit earlier later) s S scratch).answer
      unfolding SplitFits
      stake_split_fits =
          let b = stake_state s S in
          read_fits (λ (o : SplitOut). SplitFits o.answer) s S (λ b. split_from settings limit earlier later b (part_of s scratch)) (λ k. split_refused k []) (λ k. number_fits (named k))
          (split_fits b.count settings limit b.columns (length b.sums) _)

      module _ (places : ℕ) where
        abbrev divided : SplitOut
        divided = stake_into s (split_into places) (stake_split_out (split_from settings limit earlier later) s S scratch)

        pub stake_split_into : SplitFits divided.answer
        stake_split_into = judged_fits (λ (o : SplitOut). SplitFits o.answer) s (split_into places) _ (split_into_lem places) stake_split_fits

        pub stake_split_back : SplitRead (packed_split divided.answer) divided.answer
        stake_split_back = split_read _ stake_split_into
