-- From what the book's own call promises to what the C interface promises.
use mathlib.Core.Path.{◌≡◌, refl, sym, ap, subst, ◌∙◌}
use mathlib.Core.Bool.{true, false}
use mathlib.Core.List.{List, [], ◌∷◌}
use Prim.Native.Nat.{ℕ, ◌≤◌, ◌<◌}
use native.Mathlib.Omega.{arith}
use lib.Dec.{ltb}
use lib.ListN.{length, set}
use lib.Ieee.{Float}
use Rattle.refusal.specs.Named.{refused_by}
use Rattle.frame.specs.Handed.{Read}
use Rattle.book.specs.Calls.{Answer, Out, Is}
use Rattle.two_column.specs.Pairs.{Columns as PairColumns}
use Rattle.two_column.specs.Calls.{Out as PairOut, Is as PairIs}
use Rattle.measure.specs.Fits.{FitAnswer, FitOut, FitIs}
use Rattle.measure.specs.Bands.{BandAnswer, BandOut, BandIs}
use Rattle.reporting.specs.Reports.{ReportAnswer, ReportOut, Does}
use Rattle.reporting.specs.Outputs.{LentOutputs}
use Rattle.split.specs.Splits.{SplitAnswer, SplitOut, LentSplit, split_refused, Does as SplitDoes}
use Rattle.allowance.specs.Table.{TableAnswer, TableOut, TableIs}
use Rattle.allowance.specs.Charges.{Charged, ReportCharged, SplitCharged}
use Rattle.losses.specs.Losses.{LossAnswer, LossOut, LossIs}
use Rattle.scores.specs.Scores.{ScoresAnswer, ScoresOut, ScoresIs}
use Rattle.std.specs.Prelude.{Option}
use Rattle.book.specs.declared.Book.{Book}
use Rattle.replay.specs.Records.{calls_of}
use Rattle.replay.specs.Replay.{LentMemory, Ran, ReplayIs}
use Rattle.lent.specs.Slices.{Slice, before, after, contents}
use Rattle.lent.specs.Written.{over}
use Rattle.capi.specs.Packed.{packed_refusal, packed_book, packed_fit, packed_band, packed_report, packed_losses, band_numbers, band_into, loss_numbers, loss_into, BookPacked, PairPacked, FitPacked, BandPacked, ReportPacked, LossPacked, packed_split, split_total, split_into, SplitPacked, packed_table, TablePacked, ReportChargedPacked, SplitChargedPacked, charged_into, packed_scores, least_number, scores_into, ScoresPacked, packed_read, read_numbers, ReadPacked, packed_replay, ReplayPacked}
use Rattle.samples.specs.Columns.{Columns}

pub book_packed : {o : Out} {a : Answer} {r : ℕ} {columns : Columns} {sums : List Float} → Is o a columns sums → r ≡ packed_book a → BookPacked o r columns sums
book_packed i e = record { answer = e ∙ ap packed_book i.answer; columns = i.columns; sums = i.sums }

pub pair_packed : {o : PairOut} {a : Answer} {r : ℕ} {columns : PairColumns} {sums : List Float} → PairIs o a columns sums → r ≡ packed_book a
    → PairPacked o r columns sums
pair_packed i e = record { answer = e ∙ ap packed_book i.answer; columns = i.columns; sums = i.sums }

pub fit_packed : {o : FitOut} {a : FitAnswer} {r : ℕ} (s c : Slice Float) → FitIs o a (contents s) (contents c) → r ≡ packed_fit a → FitPacked o r s c
fit_packed s c i e =
    record { answer = e ∙ ap packed_fit i.answer; lent = record { answer = refl; scratch = i.scratch; coefficients = i.coefficients } }

pub report_packed : {o : ReportOut} {a : ReportAnswer} {r : ℕ} {w : LentOutputs} → Does o a w → r ≡ packed_report a → ReportPacked o r w
report_packed i q = record { answer = q ∙ ap packed_report i.answer; lent = record { answer = refl; outputs = i.outputs } }

-- three places are written
pub three_written : (v w u : Float) (l : List Float) → 3 ≤ length l → set (set (set l 0 v) 1 w) 2 u ≡ over (v ∷ w ∷ u ∷ []) l
three_written v w u [] h = absurd (omega arith)
three_written v w u (a ∷ []) h = absurd (omega arith)
three_written v w u (a ∷ b ∷ []) h = absurd (omega arith)
three_written v w u (a ∷ b ∷ d ∷ l) h = refl

-- a band into too few places, and into enough
module _ (o : BandOut) (places : ℕ) (s v : Slice Float) where
  pub band_short : ltb places 3 ≡ true → after s ≡ before s → after v ≡ before v → (r : ℕ) → r ≡ packed_refusal 1 → BandPacked (band_into places o) r s v
  unfolding band_into packed_band band_numbers
  band_short h es ev r e = rw h (record { answer = e; lent = record { answer = refl; scratch = es }; numbers = ev })

  pub band_packed : ltb places 3 ≡ false → (a : BandAnswer) (r : ℕ) → BandIs o a (contents s) → r ≡ packed_band a
      → after v ≡ over (band_numbers a) (before v) → BandPacked (band_into places o) r s v
  unfolding band_into
  band_packed h a r i e n =
      rw h
      (record {
        answer = e ∙ ap packed_band i.answer;
        lent = record { answer = refl; scratch = i.scratch };
        numbers = n ∙ ap (λ (b : BandAnswer). over (band_numbers b) (before v)) i.answer;
      })

-- one place is written
pub one_written : (v : Float) (l : List Float) → 1 ≤ length l → set l 0 v ≡ over (v ∷ []) l
one_written v [] h = absurd (omega arith)
one_written v (a ∷ l) h = refl

-- a split whose total has no place, and one
module _ (o : SplitOut) (places : ℕ) (w : LentSplit) (v : Slice Float) where
  pub split_short : ltb places 1 ≡ true → (left_alone : SplitDoes (split_refused 1 []) (refused_by 1) w) → after v ≡ before v → (r : ℕ) → r ≡ packed_refusal 1
      → SplitPacked (split_into places o) r w v
  unfolding split_into packed_split split_total
  split_short h alone ev r e = rw h (record { answer = e; lent = alone; total = ev })

  pub split_packed : ltb places 1 ≡ false → (a : SplitAnswer) (r : ℕ) → SplitDoes o a w → r ≡ packed_split a → after v ≡ over (split_total a) (before v)
      → SplitPacked (split_into places o) r w v
  unfolding split_into
  split_packed h a r i e n =
      rw h
      (record {
        answer = e ∙ ap packed_split i.answer;
        lent = record { answer = refl; scratch = i.scratch; before = i.before; after = i.after };
        total = n ∙ ap (λ (b : SplitAnswer). over (split_total b) (before v)) i.answer;
      })

-- a table that was started or renewed
pub table_packed : {o : TableOut} {a : TableAnswer} {r : ℕ} (t : Slice ℕ) → TableIs o a (after t) → r ≡ packed_table a → TablePacked o r t
table_packed t i e = record { answer = e ∙ ap packed_table i.answer; table = i.table }

-- a report that is charged to a group
pub report_charged_packed : {o : Charged ReportOut} {a : ReportAnswer} {r : ℕ} {w : LentOutputs} (t : Slice ℕ) → ReportCharged o a w (after t) → r ≡ packed_report a
    → ReportChargedPacked o r w t
report_charged_packed t i q = record { does = report_packed i.does q; table = i.table }

-- a group's split whose total has no place, and one
module _ (o : Charged SplitOut) (places : ℕ) (w : LentSplit) (v : Slice Float) (t : Slice ℕ) where
  pub split_charged_short : ltb places 1 ≡ true → (left_alone : SplitDoes (split_refused 1 []) (refused_by 1) w) → after v ≡ before v → after t ≡ before t → (r : ℕ)
      → r ≡ packed_refusal 1 → SplitChargedPacked (charged_into places (before t) o) r w v t
  unfolding charged_into packed_split split_total
  split_charged_short h alone ev et r e = rw h (record { does = record { answer = e; lent = alone; total = ev }; table = et })

  pub split_charged_packed : ltb places 1 ≡ false → (a : SplitAnswer) (r : ℕ) → SplitCharged o a w (after t) → r ≡ packed_split a
      → after v ≡ over (split_total a) (before v) → SplitChargedPacked (charged_into places (before t) o) r w v t
  unfolding charged_into
  split_charged_packed h a r i e n =
      rw h
      (record {
        does =
            record {
              answer = e ∙ ap packed_split i.does.answer;
              lent = record { answer = refl; scratch = i.does.scratch; before = i.does.before; after = i.does.after };
              total = n ∙ ap (λ (b : SplitAnswer). over (split_total b) (before v)) i.does.answer;
            };
        table = i.table;
      })

-- two places are written
pub two_written : (v w : Float) (l : List Float) → 2 ≤ length l → set (set l 0 v) 1 w ≡ over (v ∷ w ∷ []) l
two_written v w [] h = absurd (omega arith)
two_written v w (a ∷ []) h = absurd (omega arith)
two_written v w (a ∷ b ∷ l) h = refl

-- the losses' numbers into too few places, and into enough
module _ (o : LossOut) (places : ℕ) (s l v : Slice Float) where
  pub loss_short : ltb places 2 ≡ true → after s ≡ before s → after l ≡ before l → after v ≡ before v → (r : ℕ) → r ≡ packed_refusal 1
      → LossPacked (loss_into places o) r s l v
  unfolding loss_into packed_losses loss_numbers
  loss_short h es el ev r e = rw h (record { answer = e; lent = record { answer = refl; scratch = es; losses = el }; numbers = ev })

  pub loss_packed : ltb places 2 ≡ false → (a : LossAnswer) (r : ℕ) → LossIs o a (contents s) (contents l) → r ≡ packed_losses a
      → after v ≡ over (loss_numbers a) (before v) → LossPacked (loss_into places o) r s l v
  unfolding loss_into
  loss_packed h a r i e n =
      rw h
      (record {
        answer = e ∙ ap packed_losses i.answer;
        lent = record { answer = refl; scratch = i.scratch; losses = i.losses };
        numbers = n ∙ ap (λ (b : LossAnswer). over (loss_numbers b) (before v)) i.answer;
      })

-- the least of the scores into no place, and into one
module _ (o : ScoresOut) (places : ℕ) (s : Slice Float) (b : Slice ℕ) (l v : Slice Float) where
  pub scores_short : ltb places 1 ≡ true → after s ≡ before s → after b ≡ before b → after l ≡ before l → after v ≡ before v → (r : ℕ) → r ≡ packed_refusal 1
      → ScoresPacked (scores_into places o) r s b l v
  unfolding scores_into packed_scores least_number
  scores_short h es eb el ev r e = rw h (record { answer = e; lent = record { answer = refl; scratch = es; solved = eb; scores = el }; least = ev })

  pub scores_packed : ltb places 1 ≡ false → (a : ScoresAnswer) (r : ℕ) → ScoresIs o a (contents s) (contents b) (contents l) → r ≡ packed_scores a
      → after v ≡ over (least_number a) (before v) → ScoresPacked (scores_into places o) r s b l v
  unfolding scores_into
  scores_packed h a r i e n =
      rw h
      (record {
        answer = e ∙ ap packed_scores i.answer;
        lent = record { answer = refl; scratch = i.scratch; solved = i.solved; scores = i.scores };
        least = n ∙ ap (λ (c : ScoresAnswer). over (least_number c) (before v)) i.answer;
      })

-- a sample into too few places, and into enough
module _ (a : Read) (v : Slice Float) where
  pub read_short : length (before v) < 3 → after v ≡ before v → (r : ℕ) → r ≡ packed_refusal 1 → ReadPacked a r v
  read_short h ev r e = record { short = λ _. (e, ev); read = λ k. absurd (omega arith) }

  pub read_packed : 3 ≤ length (before v) → (b : Read) (r : ℕ) → b ≡ a → r ≡ packed_read b → after v ≡ over (read_numbers b) (before v) → ReadPacked a r v
  read_packed h b r q e n =
      record { short = λ k. absurd (omega arith); read = λ _. (e ∙ ap packed_read q, n ∙ ap (λ (z : Read). over (read_numbers z) (before v)) q) }

pub replay_packed : {kinds words : List ℕ} {numbers : List Float} {width : ℕ} {m : LentMemory} {a : Option Book} {r : ℕ}
    → ReplayIs kinds words numbers width m a → r ≡ packed_replay a → ReplayPacked kinds words numbers width m r
unfolding packed_replay
replay_packed {kinds} {words} {numbers} {width} {m} i e =
    record {
      malformed = λ h. let b = i.malformed h in (e ∙ ap packed_replay b.0, b.1);
      ran = λ h. let b = i.ran h in subst (λ n. Ran (calls_of kinds words numbers) width n m.found m.left) (sym (e ∙ ap packed_replay b.answer)) b.ran;
    }
