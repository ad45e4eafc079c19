-- Document 02's E6, the claim: a book that was carried over answers, from there, as if every earlier call not refused had gone, at weight 1, to a book with
-- weights. The theorem, `carried_over`, is proved in proofs/Over.antt. Definitions only.
use Rattle.std.specs.Prelude.{◌≡◌, List, ◌≤◌, length, take, Float, Option, None, Some, Ok, Err}
use Rattle.basis.specs.Sizes.{sum_places}
use Rattle.runs.specs.Runs.{sifted}
use Rattle.samples.specs.Columns.{Column, columns_of}
use Rattle.samples.specs.Columns as three
use Rattle.book.specs.Calls.{Answer, Out, State, state_after, book_of}
use Rattle.ledger.specs.Ledger.{Call, changes, program_replies, final, opened, lent_of}
use Rattle.ledger.specs.Ledger as whole
use Rattle.ledger.specs.ReadCalls.{ReadCall, read_on}
use Rattle.two_column.specs.Pairs.{Columns, at_weight_one}
use Rattle.two_column.specs.Calls.{open_out}
use Rattle.two_column.specs.Calls as calls
use Rattle.two_column.specs.Ledger.{Change, adds, corrects, withdraws, frames, program, answer}
use Rattle.two_column.specs.Ledger as pairs
use Rattle.carried.specs.Carry.{carry_out}

-- ---- the station's book: two-column calls from opening, then the carry, with the weight column ws

abbrev pub two_column : Columns → List Float → List Change → calls.State
two_column c sums earlier = pairs.final (pairs.opened c sums) earlier

abbrev pub carry_from : calls.State → List Float → Out
carry_from s ws = carry_out s.count (columns_of s.columns.xs s.columns.ys ws) s.sums

abbrev pub carried : Columns → List Float → List Float → List Change → State
carried c ws sums earlier =
    let s = two_column c sums earlier in
    state_after s.count (carry_from s ws)

-- ---- the book that it is held against: with weights from the start

-- an earlier call at weight 1; a frame of version 1 means it
abbrev pub at_one : Change → whole.Change
at_one (adds p) = whole.adds (at_weight_one p)
at_one (corrects i y) = whole.corrects i y
at_one (withdraws i) = whole.withdraws i
at_one (frames f) = whole.frames f

-- those that were not refused
abbrev pub goes_on : Answer → Change → Option (Call ReadCall)
goes_on (Ok b) c = Some (changes (at_one c))
goes_on (Err r) c = None

abbrev pub not_refused : Columns → List Float → List Change → List (Call ReadCall)
not_refused c sums earlier = sifted program (λ s d. goes_on (answer s d) d) (pairs.opened c sums) earlier

abbrev pub from_the_start : three.Columns → List Float → List (Call ReadCall) → State
from_the_start columns sums calls = final (opened columns sums) calls

-- ---- the claim about two such books and any list of later calls

pub record Alike (s t : State) (later : List (Call ReadCall)) : Type 0 where
  -- answers and written bits, call by call
  pub replies : program_replies read_on s later ≡ program_replies read_on t later
  -- and after the list the count, the sums, and the samples below the count
  pub count : (final s later).count ≡ (final t later).count
  pub sums : take sum_places (final s later).sums ≡ take sum_places (final t later).sums
  pub below : (k : Column) → take (final s later).count ((final s later).columns k) ≡ take (final t later).count ((final t later).columns k)

-- Take any two-column calls from opening, refused ones included, and a weight column no shorter than the other two. The carry is not refused; and beside a
-- book in memory of the same lengths, whatever that holds, any list of calls gives the same.
pub record CarriedOver (c : Columns) (ws sums₀ : List Float) (earlier : List Change) : Type 0 where
  pub answers : (carry_from (two_column c sums₀ earlier) ws).answer ≡ book_of (two_column c sums₀ earlier).count
  pub alike : (columns : three.Columns) (sums : List Float) → lent_of columns sums ≡ lent_of (columns_of c.xs c.ys ws) sums₀ → (later : List (Call ReadCall))
      → Alike (carried c ws sums₀ earlier) (from_the_start columns sums (not_refused c sums₀ earlier)) later

abbrev pub BooksOpenInSpring : Type 0
BooksOpenInSpring =
    (c : Columns) (ws sums : List Float) → (open_out sums).answer ≡ book_of 0 → length c.xs ≤ length ws → length c.ys ≤ length ws → (earlier : List Change)
    → CarriedOver c ws sums earlier
