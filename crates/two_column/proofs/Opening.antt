-- An open is the same call for both kinds of book: no sample has no sums, weighted or not.
use mathlib.Core.Path.{◌≡◌, refl, ap, ◌∙◌}
use mathlib.Core.List.{List, [], ◌++◌}
use Prim.Native.Nat.{ℕ, zero, suc}
use lib.ListN.{length, drop}
use lib.Ieee.{Float}
use Rattle.loops.specs.Fold.{fold}
use Rattle.samples.specs.Columns.{no_columns}
use Rattle.refusal.specs.Refusals.{settle}
use Rattle.monomial.specs.Sums.{sums_of}
use Rattle.monomial.specs.Plain.{plain_sums}
use Rattle.book.specs.Refusals.{open_refusal}
use Rattle.book.specs.Calls.{Answer, book_of}
use Rattle.book.specs.Calls as book
use Rattle.two_column.specs.Pairs.{columns}
use Rattle.two_column.specs.Calls.{Is, refused, open_out}

pub no_sums : sums_of [] ≡ plain_sums []
unfolding sums_of plain_sums fold
no_sums = refl

pub opened : (s : List Float) (r : Answer) (t : List Float) → book.Is (book.open_out s) r no_columns t → Is (open_out s) r (columns [] []) t
unfolding open_out book.open_out
opened s r t w = go (open_refusal (length s)) w.answer w.sums
  where
    go : (k : ℕ)
        → r ≡ (settle k (record { answer = book_of 0; columns = no_columns; sums = sums_of [] ++ drop 272 s }) (book.refused k no_columns s)).answer
        → t ≡ (settle k (record { answer = book_of 0; columns = no_columns; sums = sums_of [] ++ drop 272 s }) (book.refused k no_columns s)).sums
        → Is (settle k (record { answer = book_of 0; columns = columns [] []; sums = plain_sums [] ++ drop 272 s }) (refused k (columns [] []) s)) r (columns [] []) t
    go zero a b = record { answer = a; columns = refl; sums = b ∙ ap (λ u. u ++ drop 272 s) no_sums }
    go (suc k) a b = record { answer = a; columns = refl; sums = b }
