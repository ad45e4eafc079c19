-- Laws of Carry.antt.
use Rattle.std.specs.Prelude.{◌≡◌, ℕ}
use Rattle.std.proofs.Math.Path.{refl}
use mathlib.Core.List.{List, [], ◌∷◌, Memᴰ}
use Rattle.refusal.specs.Refusals.{first_of, numbers_of, InOrder, those, is_among}
use Rattle.refusal.specs.Laws.{numbered, first_none}
use Rattle.refusal.specs.Rooms.{Room}
use Rattle.refusal.specs.RoomLaws.{room, long_enough}
use Rattle.book.specs.Refusals.{sums_lent}
use Rattle.carried.specs.Carry.{carry_tests, carry_refusal}

module _ (n : ℕ) (columns : List ℕ) (sums : ℕ) where
  -- only 1 can refuse
  pub carry_numbers : Memᴰ (carry_refusal n columns sums) (0 ∷ 1 ∷ [])
  unfolding carry_refusal
  carry_numbers = numbered _

  pub carry_in_order : InOrder (numbers_of (carry_tests n columns sums))
  unfolding those is_among
  carry_in_order = refl

  pub carry_room : carry_refusal n columns sums ≡ 0 → Room n columns (sums_lent sums)
  unfolding carry_refusal
  carry_room e = room n columns (sums_lent sums) (first_none _ 0 _ e).0

  pub carry_taken : Room n columns (sums_lent sums) → carry_refusal n columns sums ≡ 0
  unfolding carry_refusal first_of
  carry_taken r = rw (long_enough n columns (sums_lent sums) r) refl
