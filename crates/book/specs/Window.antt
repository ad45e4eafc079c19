-- Document 02's window book: an add to a full book first withdraws sample 0, by 01's withdrawal and add. Definitions only.
use Rattle.std.specs.Prelude.{cond, not, List, [], ◌∷◌, ℕ, eqb, length, Float}
use Rattle.samples.specs.declared.Sample.{Sample}
use Rattle.refusal.specs.Refusals.{Test, by, first_of, settle}
use Rattle.refusal.specs.Tests.{capacity, book_short, sample_finite, weight_above}
use Rattle.samples.specs.Columns.{Columns, lengths}
use Rattle.book.specs.Calls.{Out, State, state_after, refused, withdraw_out, add_next, book_answered}

-- 5's condition for single adds there is that capacity is zero
abbrev pub window_tests : ℕ → Sample → List ℕ → ℕ → List Test
window_tests n p columns sums = by (book_short n columns sums) 1 ∷ by (not (sample_finite p)) 4 ∷ by (not (weight_above p)) 15 ∷ by (eqb (capacity columns) 0) 5 ∷ []

unfoldable pub window_refusal : ℕ → Sample → List ℕ → ℕ → ℕ
window_refusal n p columns sums = first_of (window_tests n p columns sums)

-- a full book without sample 0, any other as it is
unfoldable pub with_place : State → State
with_place s =
    cond (eqb s.count (capacity (lengths s.columns))) (state_after s.count (withdraw_out s.count 0 s.columns s.sums)) s

unfoldable pub window_out : ℕ → Sample → Columns → List Float → Out
window_out n p columns sums =
    let r = window_refusal n p (lengths columns) (length sums) in
    settle r (book_answered (add_next (with_place (record { count = n; columns = columns; sums = sums })) p)) (refused r columns sums)
