-- Laws of Window.antt: what a window's add may refuse by, in the checking order, and what it may count on where it is not refused.
use Rattle.std.specs.Prelude.{◌≡◌, true, length, Float}
use Rattle.std.proofs.Math.Path.{refl}
use mathlib.Core.List.{List, [], ◌∷◌, Memᴰ}
use Prim.Native.Nat.{ℕ, zero, suc, ◌<◌}
use native.Mathlib.Omega.{arith}
use borrow.Author.Tests.{eqb-false, not-false}
use Rattle.samples.specs.declared.Sample.{Sample}
use Rattle.samples.specs.Columns.{Columns, lengths}
use Rattle.refusal.specs.Refusals.{numbers_of, InOrder, those, is_among}
use Rattle.refusal.specs.Tests.{capacity, sample_finite, weight_above}
use Rattle.refusal.specs.Laws.{numbered, first_none}
use Rattle.refusal.specs.Rooms.{Room}
use Rattle.refusal.specs.RoomLaws.{room}
use Rattle.book.specs.Refusals.{sums_lent}
use Rattle.book.specs.Calls.{state_of, add_next}
use Rattle.refusal.specs.Named.{number_of}
use Rattle.refusal.specs.NamedLaws.{number_judged}
use Rattle.book.specs.CallLaws.{answer_number}
use Rattle.book.specs.Window.{window_tests, window_refusal, with_place, window_out}

module _ (n : ℕ) (p : Sample) (columns : List ℕ) (sums : ℕ) where
  pub window_numbers : Memᴰ (window_refusal n p columns sums) (0 ∷ 1 ∷ 4 ∷ 15 ∷ 5 ∷ [])
  unfolding window_refusal
  window_numbers = numbered _

  pub window_in_order : InOrder (numbers_of (window_tests n p columns sums))
  unfolding those is_among
  window_in_order = refl

  pub window_room : window_refusal n p columns sums ≡ 0
      → Room n columns (sums_lent sums) × (sample_finite p ≡ true) × (weight_above p ≡ true) × (0 < capacity columns)
  unfolding window_refusal
  window_room e =
      let k1 = first_none _ 0 _ e in
      let k4 = first_none _ 3 _ k1.1 in
      let k15 = first_none _ 14 _ k4.1 in
      let k5 = first_none _ 4 _ k15.1 in
      (room n columns (sums_lent sums) k1.0, not-false _ k4.0, not-false _ k15.0, positive _ (eqb-false _ 0 k5.0))
    where
      positive : (c : ℕ) → (c ≡ 0 → ⊥) → 0 < c
      positive zero z = absurd (z refl)
      positive (suc c) z = omega arith

pub window_number : (n : ℕ) (p : Sample) (columns : Columns) (sums : List Float) → number_of (window_out n p columns sums).answer ≡ window_refusal n p (lengths columns) (length sums)
unfolding window_out
window_number n p columns sums = answer_number (window_refusal n p (lengths columns) (length sums)) (add_next (with_place (state_of n columns sums)) p) columns sums (number_judged _ refl (window_numbers n p (lengths columns) (length sums)))
