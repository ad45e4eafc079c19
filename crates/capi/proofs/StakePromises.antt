-- From what the season's own call promises of a stake to what the C interface promises.
use mathlib.Core.Path.{◌≡◌, refl, sym, ap, ◌∙◌}
use mathlib.Core.Bool.{cond}
use mathlib.Core.List.{[]}
use Prim.Native.Nat.{ℕ, ◌≤◌, ◌<◌}
use borrow.Author.Tests.{lt-ltb, le-ltb, le-leb, lt-leb}
use lib.Dec.{ltb, leb}
use lib.Ieee.{Float}
use Rattle.refusal.specs.Named.{number, named}
use Rattle.refusal.specs.Refusals.{first_of}
use Rattle.lent.specs.Slices.{Slice, before, after, contents}
use Rattle.lent.specs.Written.{over}
use Rattle.book.specs.Calls.{State}
use Rattle.measure.specs.Fits.{FitAnswer, FitOut}
use Rattle.measure.specs.Bands.{BandAnswer, BandOut, band_refused}
use Rattle.losses.specs.Losses.{LossAnswer, LossOut, loss_refused}
use Rattle.scores.specs.Scores.{ScoresAnswer, ScoresOut, scores_refused}
use Rattle.split.specs.Splits.{SplitAnswer, SplitOut, LentSplit, split_refused}
use Rattle.stakes.specs.Parts.{stakes}
use Rattle.stakes.specs.Season.{SeasonState, stake_refusal, read_stake}
use Rattle.stakes.specs.SeasonLaws.{none_over}
use Rattle.season_query.specs.Reads.{StakeFitIs, StakeBandIs, StakeLossIs, StakeScoresIs, StakeSplitIs}
use Rattle.capi.specs.Packed.{packed_refusal, packed_fit, packed_band, band_numbers, packed_losses, loss_numbers, packed_scores, least_number, packed_split, split_total}
use Rattle.capi.specs.SeasonPacked.{StakeFitPacked, StakeBandPacked, StakeLossPacked, StakeScoresPacked, StakeSplitPacked}

pub stake_fit_packed : {s : ℕ} {o : FitOut} {a : FitAnswer} {r : ℕ} (t c : Slice Float) → StakeFitIs s o a (contents t) (contents c) → r ≡ packed_fit a
    → StakeFitPacked s o r t c
stake_fit_packed t c i e =
    record { answer = e ∙ ap packed_fit i.answer; lent = record { answer = refl; scratch = i.scratch; coefficients = i.coefficients } }

-- ---- what a call with places of its own answers, of any kind O of answer

module _ {O : Type 0} (s : ℕ) where
  -- a stake's number above 31 comes first
  pub beyond : (S : SeasonState) (call : State → O) (refused : ℕ → O) (other : O) → stakes ≤ s
      → cond (leb stakes s) (read_stake s S call refused) other ≡ refused 18
  unfolding read_stake stake_refusal first_of
  beyond S call refused other h = rw (le-leb stakes s h) refl

  module _ (places least : ℕ) (bad o : O) (own : s < stakes) where
    -- then too few places
    pub few : places < least → cond (leb stakes s) o (cond (ltb places least) bad o) ≡ bad
    few h = rw (lt-leb stakes s own, lt-ltb places least h) refl

    pub enough : least ≤ places → cond (leb stakes s) o (cond (ltb places least) bad o) ≡ o
    enough h = rw (lt-leb stakes s own, le-ltb places least h) refl

-- ---- each kind of call: refused by k, so that nothing is written, and done

module _ {s : ℕ} {o : BandOut} (t v : Slice Float) where
  pub band_none : (k : ℕ) → number (named k) ≡ k → o ≡ band_refused k → after t ≡ before t → after v ≡ before v → (r : ℕ) → r ≡ packed_refusal k → StakeBandPacked s o r t v
  unfolding packed_band band_numbers
  band_none k same q et ev r e = rw q (record { answer = e ∙ ap packed_refusal (sym same); lent = record { answer = refl; scratch = et ∙ none_over s (before t) }; numbers = ev })

  pub band_done : {p : BandOut} → o ≡ p → (a : BandAnswer) (r : ℕ) → StakeBandIs s p a (contents t) → r ≡ packed_band a
      → after v ≡ over (band_numbers a) (before v) → StakeBandPacked s o r t v
  band_done q a r i e n =
      rw q
      (record {
        answer = e ∙ ap packed_band i.answer;
        lent = record { answer = refl; scratch = i.scratch };
        numbers = n ∙ ap (λ (b : BandAnswer). over (band_numbers b) (before v)) i.answer;
      })

module _ {s : ℕ} {o : LossOut} (t l v : Slice Float) where
  pub loss_none : (k : ℕ) → number (named k) ≡ k → o ≡ loss_refused k → after t ≡ before t → after l ≡ before l → after v ≡ before v → (r : ℕ) → r ≡ packed_refusal k
      → StakeLossPacked s o r t l v
  unfolding packed_losses loss_numbers
  loss_none k same q et el ev r e =
      rw q (record { answer = e ∙ ap packed_refusal (sym same); lent = record { answer = refl; scratch = et ∙ none_over s (before t); losses = el }; numbers = ev })

  pub loss_done : {p : LossOut} → o ≡ p → (a : LossAnswer) (r : ℕ) → StakeLossIs s p a (contents t) (contents l) → r ≡ packed_losses a
      → after v ≡ over (loss_numbers a) (before v) → StakeLossPacked s o r t l v
  loss_done q a r i e n =
      rw q
      (record {
        answer = e ∙ ap packed_losses i.answer;
        lent = record { answer = refl; scratch = i.scratch; losses = i.losses };
        numbers = n ∙ ap (λ (b : LossAnswer). over (loss_numbers b) (before v)) i.answer;
      })

module _ {s : ℕ} {o : ScoresOut} (t : Slice Float) (b : Slice ℕ) (l v : Slice Float) where
  pub scores_none : (k : ℕ) → number (named k) ≡ k → o ≡ scores_refused k → after t ≡ before t → after b ≡ before b → after l ≡ before l → after v ≡ before v → (r : ℕ)
      → r ≡ packed_refusal k → StakeScoresPacked s o r t b l v
  unfolding packed_scores least_number
  scores_none k same q et eb el ev r e =
      rw q (record { answer = e ∙ ap packed_refusal (sym same); lent = record { answer = refl; scratch = et ∙ none_over s (before t); solved = eb; scores = el }; least = ev })

  pub scores_done : {p : ScoresOut} → o ≡ p → (a : ScoresAnswer) (r : ℕ) → StakeScoresIs s p a (contents t) (contents b) (contents l) → r ≡ packed_scores a
      → after v ≡ over (least_number a) (before v) → StakeScoresPacked s o r t b l v
  scores_done q a r i e n =
      rw q
      (record {
        answer = e ∙ ap packed_scores i.answer;
        lent = record { answer = refl; scratch = i.scratch; solved = i.solved; scores = i.scores };
        least = n ∙ ap (λ (c : ScoresAnswer). over (least_number c) (before v)) i.answer;
      })

module _ {s : ℕ} {o : SplitOut} (w : LentSplit) (v : Slice Float) where
  pub split_none : (k : ℕ) → number (named k) ≡ k → o ≡ split_refused k [] → w.scratch.left ≡ w.scratch.found → w.before.left ≡ w.before.found → w.after.left ≡ w.after.found
      → after v ≡ before v → (r : ℕ) → r ≡ packed_refusal k → StakeSplitPacked s o r w v
  unfolding packed_split split_total
  split_none k same q et ef eg ev r e =
      rw q (record { answer = e ∙ ap packed_refusal (sym same); lent = record { answer = refl; scratch = et ∙ none_over s w.scratch.found; before = ef; after = eg }; total = ev })

  pub split_done : {p : SplitOut} → o ≡ p → (a : SplitAnswer) (r : ℕ) → StakeSplitIs s p a w → r ≡ packed_split a
      → after v ≡ over (split_total a) (before v) → StakeSplitPacked s o r w v
  split_done q a r i e n =
      rw q
      (record {
        answer = e ∙ ap packed_split i.answer;
        lent = record { answer = refl; scratch = i.scratch; before = i.before; after = i.after };
        total = n ∙ ap (λ (b : SplitAnswer). over (split_total b) (before v)) i.answer;
      })
