-- Laws of Calls.antt: what the season's calls promise is what a list of calls has.
use Rattle.std.specs.Prelude.{◌≡◌, refl, List, ℕ, zero, suc, ◌<◌, Float}
use Rattle.std.proofs.Math.ListN.{length}
use Rattle.statistics.specs.declared.Confidence.{Confidence}
use Rattle.statistics.specs.declared.DegreeBound.{DegreeBound}
use Rattle.statistics.specs.declared.Tolerance.{Tolerance}
use Rattle.score.specs.declared.Criterion.{Criterion}
use Rattle.settings.specs.declared.Settings.{Settings}
use Rattle.refusal.specs.Refusals.{settle}
use Rattle.book.specs.Calls.{State}
use Rattle.reporting.specs.Outputs.{Outputs, places_of}
use Rattle.report.specs.Reports.{report_out}
use Rattle.ledger.specs.ReadCalls.{fits, validates, bands, reports, splits, losses, scores, fit_reply, band_reply, report_reply, split_reply, loss_reply, scores_reply, read_on}
use Rattle.stakes.specs.Parts.{stakes}
use Rattle.stakes.specs.PartLaws.{length_part}
use Rattle.stakes.specs.Season.{SeasonState, stake_state, stake_refusal, read_stake}
use Rattle.stakes.specs.SeasonLaws.{stake_below}
use Rattle.season_query.specs.Reads.{fit_from, validate_from, stake_fit_out, band_from, stake_band_out, loss_from, stake_loss_out, scores_from, stake_scores_out, split_from, stake_split_out}
use Rattle.season_report.specs.Reports.{parts_of, stake_report_out}
use Rattle.seasons.specs.Calls.{part_places, by_part, refused_told, read_from, read_season, report_at}

-- what a call makes of a stake's book, told otherwise
told_as : {O P : Type 0} (f : O → P) (s : ℕ) (S : SeasonState) (call : State → O) (no_call : ℕ → O) (call' : State → P) (no-call' : ℕ → P)
    → (s < stakes → f (call (stake_state s S)) ≡ call' (stake_state s S)) → ((r : ℕ) → f (no_call r) ≡ no-call' r) → f (read_stake s S call no_call) ≡ read_stake s S call' no-call'
unfolding read_stake
told_as {O} {P} f s S call no_call call' no-call' e g = go (stake_refusal s (length S.counts)) refl
  where
    go : (r : ℕ) → stake_refusal s (length S.counts) ≡ r
        → f (settle r (call (stake_state s S)) (no_call r)) ≡ settle r (call' (stake_state s S)) (no-call' r)
    go zero z = e (stake_below s (length S.counts) z)
    go (suc r) z = g (suc r)

-- the lengths of a stake's parts
parts_places : (s : ℕ) → s < stakes → (w : Outputs) → places_of (parts_of s w) ≡ part_places (places_of w)
parts_places s h w =
    λ j. record {
      scratch = length_part s w.scratch h j;
      coefficients = length_part s w.coefficients h j;
      errors = length_part s w.errors h j;
      pruned = length_part s w.pruned h j;
      lower = length_part s w.lower h j;
      upper = length_part s w.upper h j;
      outliers = length_part s w.outliers h j;
    }

module _ (s : ℕ) (S : SeasonState) where
  pub fit_told : (degree : ℕ) (t c : List Float) → fit_reply (stake_fit_out (fit_from degree) s S t c) ≡ read_season s S (fits degree (length t) (length c))
  unfolding read_on by_part refused_told
  fit_told degree t c =
      told_as fit_reply s S _ _ _ _ (λ h. λ j. read_from (fits degree (length_part s t h j) (length_part s c h j)) (stake_state s S)) (λ r. refl)

  pub validate_told : (folds : ℕ) (bound : DegreeBound) (criterion : Criterion) (t c : List Float)
      → fit_reply (stake_fit_out (validate_from folds bound criterion) s S t c) ≡ read_season s S (validates folds bound criterion (length t) (length c))
  unfolding read_on by_part refused_told
  validate_told folds bound criterion t c =
      told_as fit_reply s S _ _ _ _ (λ h. λ j. read_from (validates folds bound criterion (length_part s t h j) (length_part s c h j)) (stake_state s S)) (λ r. refl)

  pub band_told : (x : Float) (degree : ℕ) (confidence : Confidence) (tolerance : Tolerance) (t : List Float)
      → band_reply (stake_band_out (band_from x degree confidence tolerance) s S t) ≡ read_season s S (bands x degree confidence tolerance (length t))
  unfolding read_on by_part refused_told
  band_told x degree confidence tolerance t =
      told_as band_reply s S _ _ _ _ (λ h. λ j. read_from (bands x degree confidence tolerance (length_part s t h j)) (stake_state s S)) (λ r. refl)

  pub loss_told : (settings : Settings) (t l : List Float) → loss_reply (stake_loss_out (loss_from settings l) s S t) ≡ read_season s S (losses settings (length t) (length l))
  unfolding read_on by_part refused_told
  loss_told settings t l = told_as loss_reply s S _ _ _ _ (λ h. λ j. read_from (losses settings (length_part s t h j) (length l)) (stake_state s S)) (λ r. refl)

  pub scores_told : (settings : Settings) (t : List Float) (d : List ℕ) (l : List Float)
      → scores_reply (stake_scores_out (scores_from settings d l) s S t) ≡ read_season s S (scores settings (length t) (length d) (length l))
  unfolding read_on by_part refused_told
  scores_told settings t d l =
      told_as scores_reply s S _ _ _ _ (λ h. λ j. read_from (scores settings (length_part s t h j) (length d) (length l)) (stake_state s S)) (λ r. refl)

  pub split_told : (settings : Settings) (limit : ℕ) (t f g : List Float)
      → split_reply (stake_split_out (split_from settings limit f g) s S t)
      ≡ read_season s S (splits settings limit (record { scratch = length t; before = length f; after = length g }))
  unfolding read_on by_part refused_told
  split_told settings limit t f g =
      told_as split_reply s S _ _ _ _
      (λ h. λ j. read_from (splits settings limit (record { scratch = length_part s t h j; before = length f; after = length g })) (stake_state s S)) (λ r. refl)

  -- a stake's report, alone and in a season report
  pub report_is : (settings : Settings) (w : Outputs) → stake_report_out settings s S w ≡ report_at settings (places_of w) S s
  report_is settings w =
      let b = stake_state s S in
      told_as (λ o. o) s S _ _ _ _ (λ h. λ j. report_out b.count settings b.columns b.sums (parts_places s h w j)) (λ r. refl)

  pub report_told : (settings : Settings) (w : Outputs) → report_reply (stake_report_out settings s S w) ≡ read_season s S (reports settings (places_of w))
  unfolding read_on by_part refused_told
  report_told settings w = told_as report_reply s S _ _ _ _ (λ h. λ j. read_from (reports settings (parts_places s h w j)) (stake_state s S)) (λ r. refl)
