-- Document 02's E6: an open two-column book is carried into one with weights. The weights below the count become 1, nothing else changes, and only 1 can
-- refuse. Definitions only.
use Rattle.std.specs.Prelude.{List, [], ◌∷◌, ◌++◌, ℕ, length, drop, replicate, Float}
use Rattle.value.specs.Numbers.{one_f}
use Rattle.samples.specs.Columns.{Columns, of_x, of_y, of_w, lengths}
use Rattle.refusal.specs.Refusals.{Test, by, first_of, settle}
use Rattle.refusal.specs.Tests.{book_short}
use Rattle.book.specs.Calls.{Out, book_of, refused}

abbrev pub carry_tests : ℕ → List ℕ → ℕ → List Test
carry_tests n columns sums = by (book_short n columns sums) 1 ∷ []

unfoldable pub carry_refusal : ℕ → List ℕ → ℕ → ℕ
carry_refusal n columns sums = first_of (carry_tests n columns sums)

-- the weights below the count are 1; past it they stand
abbrev pub ones_below : ℕ → List Float → List Float
ones_below n ws = replicate n one_f ++ drop n ws

abbrev pub carried_columns : ℕ → Columns → Columns
carried_columns n c of_x = c of_x
carried_columns n c of_y = c of_y
carried_columns n c of_w = ones_below n (c of_w)

unfoldable pub carry_out : ℕ → Columns → List Float → Out
carry_out n columns sums =
    let r = carry_refusal n (lengths columns) (length sums) in
    settle r (record { answer = book_of n; columns = carried_columns n columns; sums = sums }) (refused r columns sums)
