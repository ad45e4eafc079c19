-- Laws of Reading.antt.
use Rattle.std.specs.Prelude.{◌≡◌, refl, Bool, true, false, List, ℕ, zero, suc, ◌+◌, ◌-◌, ◌*◌, ◌/◌, ◌%◌, ◌≤◌, ◌<◌, leb, Float, length, Ok, Err}
use Rattle.std.proofs.Common.{ap, ◌∙◌, mod-eq_of_lt, add-sub_cancel, arith, leb-true, leb-false}
use Rattle.std.proofs.Math.Nat.{add-mul-div_right, div-eq_of_lt, mod-eq-sub-div-mul}
use Rattle.refusal.specs.Named.{number}
use Rattle.measure.specs.Bands.{BandAnswer}
use Rattle.measure.specs.Fits.{FitAnswer}
use Rattle.reporting.specs.Reports.{ReportAnswer}
use Rattle.statistics.specs.declared.DegreeBound.{DegreeBound}
use Rattle.statistics.specs.declared.Confidence.{Confidence}
use Rattle.statistics.specs.declared.Tolerance.{Tolerance}
use Rattle.samples.specs.declared.Sample.{Sample}
use Rattle.score.specs.declared.Criterion.{Criterion}
use Rattle.book.specs.Calls.{Answer, open_out, add_out, correct_out, withdraw_out, add_frame_out, add_lines_out}
use Rattle.book.specs.Window.{window_out}
use Rattle.samples.specs.Columns.{Columns}
use Rattle.two_column.specs.declared.Pair.{Pair}
use Rattle.two_column.specs.Pairs.{Columns as PairColumns}
use Rattle.two_column.specs.Calls as pairs
use Rattle.frame.specs.Frame.{frame_refusal, weighted, sample_bytes}
use Rattle.frame.specs.Laws.{least_bytes}
use Rattle.frame.specs.Handed.{next_of, opened_by, opened_of}
use Rattle.frame.specs.HandedLaws.{next_whole, next_end}
use Rattle.query.specs.Fits.{fit_out, validate_out}
use Rattle.query.specs.Bands.{band_out}
use Rattle.settings.specs.declared.Settings.{Settings}
use Rattle.reporting.specs.declared.Places.{Places}
use Rattle.report.specs.Reports.{report_out}
use Rattle.losses.specs.Losses.{LossAnswer, loss_out}
use Rattle.ledger.specs.Ledger.{Call}
use Rattle.ledger.specs.ReadCalls.{ReadCall}
use Rattle.replay.specs.Replay.{Memory, Ran}
use Rattle.capi.specs.Packed.{packed_opened, packed_read, band_into, packed_refusal, packed_book, packed_fit, packed_band, packed_fields, packed_report, packed_losses, loss_into, BookFits, FitFits, BandFits, ReportFits, LossFits}
use Rattle.carried.specs.Carry.{carry_out}
use Rattle.capi.specs.CarryFitting.{carry_fits}
use Rattle.capi.specs.LossFitting.{loss_fits}
use Rattle.capi.specs.Fitting.{open_fits, add_fits, correct_fits, withdraw_fits, frame_fits, lines_fits, window_fits, fit_fits, validate_fits, band_fits, report_fits}
use Rattle.capi.specs.PairFitting as pair
use Rattle.capi.specs.ReplayFitting.{replay_fits}
use Rattle.capi.specs.Reading.{number_in, count_in, BookRead, FitRead, BandRead, ReportRead, LossRead, OpenedRead, ReadRead}

-- a number of a low part below m and a high part
module _ (m low high : ℕ) (below : low < m) where
  pub upper_part : (low + high * m) / m ≡ high
  upper_part =
      let e = add-mul-div_right low high {z = m} (omega arith) in
      omega (arith, e, div-eq_of_lt below)

  pub lower_part : (low + high * m) % m ≡ low
  lower_part =
      let e = mod-eq-sub-div-mul (low + high * m) m in
      e ∙ ap (λ q. low + high * m - q * m) upper_part ∙ add-sub_cancel low (high * m)

pub refusal_read : (k : ℕ) → number_in (packed_refusal k) ≡ k
refusal_read k =
    let e : packed_refusal k ≡ 0 + k * 0x100_0000_0000_0000 = omega arith in
    ap number_in e ∙ upper_part 0x100_0000_0000_0000 0 k (omega arith)

pub book_read : (a : Answer) → BookFits a → BookRead (packed_book a) a
unfolding BookFits BookRead packed_book
book_read (Ok b) h = (div-eq_of_lt (omega arith), mod-eq_of_lt (omega arith))
book_read (Err k) h = refusal_read (number k)

pub fit_read : (a : FitAnswer) → FitFits a → FitRead (packed_fit a) a
unfolding FitFits FitRead packed_fit
fit_read (Ok d) h = (div-eq_of_lt (omega arith), mod-eq_of_lt (omega arith))
fit_read (Err k) h = refusal_read (number k)

pub band_read : (a : BandAnswer) → BandFits a → BandRead (packed_band a) a
unfolding BandFits BandRead packed_band
band_read (Ok b) h = refl
band_read (Err k) h = refusal_read (number k)

pub loss_read : (a : LossAnswer) → LossFits a → LossRead (packed_losses a) a
unfolding LossFits LossRead packed_losses
loss_read (Ok r) h = (div-eq_of_lt (omega arith), mod-eq_of_lt (omega arith))
loss_read (Err k) h = refusal_read (number k)

-- four numbers, each below what its field holds
module _ (a b c d : ℕ) (ha : a < 0x100) (hb : b < 0x100) (hc : c < 0x1_0000) (hd : d < 0x100_0000) where
  pub none_in : number_in (packed_fields a b c d) ≡ 0
  none_in = div-eq_of_lt (omega arith)

  pub first_in : packed_fields a b c d % 0x100 ≡ a
  first_in =
      let e : packed_fields a b c d ≡ a + (b + c * 0x100 + d * 0x100_0000) * 0x100 = omega arith in
      ap (λ q. q % 0x100) e ∙ lower_part 0x100 a (b + c * 0x100 + d * 0x100_0000) ha

  pub second_in : packed_fields a b c d / 0x100 % 0x100 ≡ b
  second_in =
      let e : packed_fields a b c d ≡ a + (b + c * 0x100 + d * 0x100_0000) * 0x100 = omega arith in
      let u : b + c * 0x100 + d * 0x100_0000 ≡ b + (c + d * 0x1_0000) * 0x100 = omega arith in
      ap (λ q. q / 0x100 % 0x100) e ∙ ap (λ q. q % 0x100) (upper_part 0x100 a (b + c * 0x100 + d * 0x100_0000) ha ∙ u)
      ∙ lower_part 0x100 b (c + d * 0x1_0000) hb

  pub third_of : packed_fields a b c d / 0x1_0000 ≡ c + d * 0x1_0000
  third_of =
      let e : packed_fields a b c d ≡ a + b * 0x100 + (c + d * 0x1_0000) * 0x1_0000 = omega arith in
      ap (λ q. q / 0x1_0000) e ∙ upper_part 0x1_0000 (a + b * 0x100) (c + d * 0x1_0000) (omega arith)

  pub fourth_of : packed_fields a b c d / 0x1_0000_0000 ≡ d
  fourth_of = upper_part 0x1_0000_0000 (a + b * 0x100 + c * 0x1_0000) d (omega arith)

pub report_read : (a : ReportAnswer) → ReportFits a → ReportRead (packed_report a) a
unfolding ReportFits ReportRead packed_report
report_read (Ok r) h =
    let d = r.degree in
    let s = r.solved in
    let o = r.outliers in
    let p = r.pruned in
    let hd : d.0 < 0x100 = omega (arith, h.0) in
    let hs : s < 0x100 = omega (arith, h.1) in
    let ho : o < 0x100_0000 = omega (arith, h.2) in
    let hp : p < 0x1_0000 = omega (arith, h.3) in
    let u : p + o * 0x1_0000 ≡ p + (o * 0x100) * 0x100 = omega arith in (
      none_in d.0 s p o hd hs hp ho,
      first_in d.0 s p o hd hs hp ho,
      second_in d.0 s p o hd hs hp ho,
      ap (λ q. q % 0x100) (third_of d.0 s p o hd hs hp ho ∙ u) ∙ lower_part 0x100 p (o * 0x100) (omega (arith, h.3)),
      ap (λ q. q % 0x1_0000) (fourth_of d.0 s p o hd hs hp ho) ∙ mod-eq_of_lt (omega (arith, h.2)),
    )
report_read (Err k) h = refusal_read (number k)

-- ---- so for every call, whatever it was given: the packed answer is read as the answer

pub open_back : (sums : List Float) → BookRead (packed_book (open_out sums).answer) (open_out sums).answer
open_back sums = book_read _ (open_fits sums)

module _ (n : ℕ) (columns : Columns) (sums : List Float) where
  pub add_back : (p : Sample) → BookRead (packed_book (add_out n p columns sums).answer) (add_out n p columns sums).answer
  add_back p = book_read _ (add_fits n columns sums p)

  pub correct_back : (i : ℕ) (y : Float) → BookRead (packed_book (correct_out n i y columns sums).answer) (correct_out n i y columns sums).answer
  correct_back i y = book_read _ (correct_fits n columns sums i y)

  pub withdraw_back : (i : ℕ) → BookRead (packed_book (withdraw_out n i columns sums).answer) (withdraw_out n i columns sums).answer
  withdraw_back i = book_read _ (withdraw_fits n columns sums i)

  pub frame_back : (f : List ℕ) → BookRead (packed_book (add_frame_out n f columns sums).answer) (add_frame_out n f columns sums).answer
  frame_back f = book_read _ (frame_fits n columns sums f)

  pub lines_back : (t : List ℕ) → BookRead (packed_book (add_lines_out n t columns sums).answer) (add_lines_out n t columns sums).answer
  lines_back t = book_read _ (lines_fits n columns sums t)

  pub window_back : (p : Sample) → BookRead (packed_book (window_out n p columns sums).answer) (window_out n p columns sums).answer
  window_back p = book_read _ (window_fits n columns sums p)

  module _ (scratch coefficients : List Float) where
    pub fit_back : (degree : ℕ) → (let a = (fit_out n columns sums scratch coefficients degree).answer in FitRead (packed_fit a) a)
    fit_back degree = fit_read _ (fit_fits n columns sums scratch coefficients degree)

    pub validate_back : (folds : ℕ) (bound : DegreeBound) (criterion : Criterion)
        → (let a = (validate_out n columns sums scratch coefficients folds bound criterion).answer in FitRead (packed_fit a) a)
    validate_back folds bound criterion = fit_read _ (validate_fits n columns sums scratch coefficients folds bound criterion)

  pub band_back : (x : Float) (degree : ℕ) (confidence : Confidence) (tolerance : Tolerance) (scratch : List Float) (places : ℕ)
      → (let a = (band_into places (band_out n x degree confidence tolerance columns sums scratch)).answer in BandRead (packed_band a) a)
  band_back x degree confidence tolerance scratch places =
      band_read _ (band_fits n x degree confidence tolerance columns sums scratch places)

  pub report_back : (settings : Settings) (places : Places)
      → (let a = (report_out n settings columns sums places).answer in ReportRead (packed_report a) a)
  report_back settings places = report_read _ (report_fits n settings columns sums places)

-- ---- of the losses

pub loss_back : (n : ℕ) (settings : Settings) (columns : Columns) (sums scratch told : List Float) (places : ℕ)
    → (let a = (loss_into places (loss_out n settings columns sums scratch told)).answer in LossRead (packed_losses a) a)
loss_back n settings columns sums scratch told places = loss_read _ (loss_fits n settings columns sums scratch told places)

-- ---- of a two-column book

pub pair_open_back : (sums : List Float) → (let a = (pairs.open_out sums).answer in BookRead (packed_book a) a)
pair_open_back sums = book_read _ (pair.open_fits sums)

module _ (n : ℕ) (columns : PairColumns) (sums : List Float) where
  pub pair_add_back : (p : Pair) → (let a = (pairs.add_out n p columns sums).answer in BookRead (packed_book a) a)
  pair_add_back p = book_read _ (pair.add_fits n columns sums p)

  pub pair_correct_back : (i : ℕ) (y : Float) → (let a = (pairs.correct_out n i y columns sums).answer in BookRead (packed_book a) a)
  pair_correct_back i y = book_read _ (pair.correct_fits n columns sums i y)

  pub pair_withdraw_back : (i : ℕ) → (let a = (pairs.withdraw_out n i columns sums).answer in BookRead (packed_book a) a)
  pair_withdraw_back i = book_read _ (pair.withdraw_fits n columns sums i)

  pub pair_frame_back : (f : List ℕ) → (let a = (pairs.add_frame_out n f columns sums).answer in BookRead (packed_book a) a)
  pair_frame_back f = book_read _ (pair.frame_fits n columns sums f)

-- ---- of a carry

pub carry_back : (n : ℕ) (columns : Columns) (sums : List Float) → (let a = (carry_out n columns sums).answer in BookRead (packed_book a) a)
carry_back n columns sums = book_read _ (carry_fits n columns sums)

-- ---- the reader. No memory has 2 ^ 56 places

pub reader_back : (f : List ℕ) → OpenedRead (packed_opened (opened_of f)) (opened_of f)
unfolding opened_of OpenedRead packed_opened
reader_back f = by_number (frame_refusal f)
  where
    by_number : (k : ℕ) → OpenedRead (packed_opened (opened_by k)) (opened_by k)
    by_number zero = (refl, refl)
    by_number (suc k) = refusal_read _

pub next_back : (f : List ℕ) (at : ℕ) → length f < 0x100_0000_0000_0000 → ReadRead (packed_read (next_of f at)) (next_of f at)
unfolding ReadRead packed_read
next_back f at h = by_test (leb (at + sample_bytes (weighted f)) (length f)) refl
  where
    by_test : (t : Bool) → leb (at + sample_bytes (weighted f)) (length f) ≡ t → ReadRead (packed_read (next_of f at)) (next_of f at)
    by_test true e =
        let k : at + sample_bytes (weighted f) ≤ length f = leb-true _ _ e in
        rw (next_whole f at k) (omega (arith, least_bytes (weighted f)), div-eq_of_lt (omega arith), mod-eq_of_lt (omega arith))
    by_test false e = rw (next_end f at (leb-false _ _ e))

-- ---- a replay that was run: its answer is not the one of buffers that hold no list of calls

pub replay_back : {cs : List (Call ReadCall)} {width r : ℕ} {m m' : Memory} → Ran cs width r m m' → (number_in r ≡ 0) × (count_in r ≡ r)
replay_back ran =
    let few = replay_fits ran in
    (div-eq_of_lt (omega (arith, few)), mod-eq_of_lt (omega (arith, few)))
