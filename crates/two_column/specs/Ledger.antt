-- Demand 3 for a two-column book: a list of the calls that change one, run by the definitions that the contracts promise, the plain ledger of the same
-- calls, and what it is that they agree. The theorem, `whole_pairs`, is proved in proofs/Whole.antt. Definitions only.
use Rattle.std.specs.Prelude.{◌≡◌, List, [], ◌∷◌, ◌++◌, map, ℕ, zero, suc, ◌+◌, length, get_or, take, drop, Float}
use Rattle.std.specs.Float.{nan}
use Rattle.basis.specs.Sizes.{sum_places}
use Rattle.loops.specs.Fold.{fold}
use Rattle.runs.specs.Runs.{Machine, replies as replies_of, history}
use Rattle.monomial.specs.Plain.{plain_sums}
use Rattle.refusal.specs.Refusals.{settle}
use Rattle.refusal.specs.Named.{refused_by}
use Rattle.book.specs.Refusals.{correct_refusal, withdraw_refusal}
use Rattle.book.specs.Calls.{Answer, book_of, book_after}
use Rattle.ledger.specs.Ledger.{Lent, seen}
use Rattle.two_column.specs.declared.Pair.{Pair}
use Rattle.two_column.specs.Pairs.{pair_rows, Columns, lengths}
use Rattle.two_column.specs.Refusals.{frame_pairs, add_refusal, frame_refusal}
use Rattle.two_column.specs.Calls.{Out, open_out, add_out, correct_out, withdraw_out, add_frame_out, State, state_after}

-- a call, with its arguments
pub data Change : Type 0 where
  adds : Pair → Change
  corrects : ℕ → Float → Change
  withdraws : ℕ → Change
  frames : List ℕ → Change

-- ---- the program: each call gets the book last returned, and the columns and sums as the call before left them

unfoldable pub out_of : State → Change → Out
out_of s (adds p) = add_out s.count p s.columns s.sums
out_of s (corrects i y) = correct_out s.count i y s.columns s.sums
out_of s (withdraws i) = withdraw_out s.count i s.columns s.sums
out_of s (frames f) = add_frame_out s.count f s.columns s.sums

abbrev pub next : State → Change → State
next s c = state_after s.count (out_of s c)

abbrev pub answer : State → Change → Answer
answer s c = (out_of s c).answer

abbrev pub program : Machine State Change Answer
program = record { step = next; reply = answer }

abbrev pub final : State → List Change → State
final s cs = fold next s cs

abbrev pub program_answers : State → List Change → List Answer
program_answers s cs = replies_of program s cs

-- a book just opened, over columns that hold anything
abbrev pub opened : Columns → List Float → State
opened c sums = record { count = book_after 0 (open_out sums).answer; columns = c; sums = (open_out sums).sums }

abbrev pub lent_of : Columns → List Float → Lent
lent_of c sums = record { columns = lengths c; sums = length sums }

-- ---- the plain ledger: a list of samples

-- Correct i: sample i gets a new y.
unfoldable pub new_y : List Pair → ℕ → Float → List Pair
new_y [] i y = []
new_y (p ∷ l) zero y = record { x = p.x; y = y } ∷ l
new_y (p ∷ l) (suc i) y = p ∷ new_y l i y

unfoldable pub changed : List Pair → Change → List Pair
changed l (adds p) = l ++ (p ∷ [])
changed l (corrects i y) = new_y l i y
changed l (withdraws i) = take i l ++ drop (i + 1) l
changed l (frames f) = l ++ frame_pairs f

-- A call is refused exactly when the refusals, read with the ledger's length as the count n, give it a number; 0 is none.
unfoldable pub refusal_of : Lent → ℕ → Change → ℕ
refusal_of m n (adds p) = add_refusal n p m.columns m.sums
refusal_of m n (corrects i y) = correct_refusal n i y m.columns m.sums
refusal_of m n (withdraws i) = withdraw_refusal n i m.columns m.sums
refusal_of m n (frames f) = frame_refusal n f m.columns m.sums

-- A refusal changes nothing, and its number is the answer. Any other call answers the book, which is the ledger's length.
abbrev pub ledger_next : Lent → List Pair → Change → List Pair
ledger_next m l c = settle (refusal_of m (length l) c) (changed l c) l

abbrev pub ledger_answer : Lent → List Pair → Change → Answer
ledger_answer m l c = settle (refusal_of m (length l) c) (book_of (length (changed l c))) (refused_by (refusal_of m (length l) c))

abbrev pub ledger : Lent → Machine (List Pair) Change Answer
ledger m = record { step = ledger_next m; reply = ledger_answer m }

abbrev pub ledger_end : Lent → List Pair → List Change → List Pair
ledger_end m l cs = fold (ledger_next m) l cs

abbrev pub ledger_answers : Lent → List Pair → List Change → List Answer
ledger_answers m l cs = replies_of (ledger m) l cs

-- what a place holds after the calls, if it held v at first and f takes a sample's value for this column: what it held when it was last below the
-- count, or else v
abbrev pub held : (Pair → Float) → Float → Lent → List Pair → List Change → ℕ → Float
held f v m l cs p = fold (λ u k. seen u (map f k) p) v (history (ledger_next m) l cs)

-- ---- the claim, about any list of calls from a book just opened, refused ones included, whatever the columns held at opening

pub record WholePairs (c : Columns) (sums₀ : List Float) (cs : List Change) : Type 0 where
  -- Each call's answer is the ledger's.
  pub answered : program_answers (opened c sums₀) cs ≡ ledger_answers (lent_of c sums₀) [] cs
  -- After the list, the book is the ledger's length,
  pub book : (final (opened c sums₀) cs).count ≡ length (ledger_end (lent_of c sums₀) [] cs)
  -- the column places below it hold the ledger's samples,
  pub below_x : take (final (opened c sums₀) cs).count (final (opened c sums₀) cs).columns.xs ≡ map (λ (p : Pair). p.x) (ledger_end (lent_of c sums₀) [] cs)
  pub below_y : take (final (opened c sums₀) cs).count (final (opened c sums₀) cs).columns.ys ≡ map (λ (p : Pair). p.y) (ledger_end (lent_of c sums₀) [] cs)
  -- and the 272 sums are the ledger's, bit for bit, NaNs as one value.
  pub sums : take sum_places (final (opened c sums₀) cs).sums ≡ plain_sums (pair_rows (ledger_end (lent_of c sums₀) [] cs))
  -- A column place at or past the count keeps what it held when it was last below the count, or else what it held at opening.
  pub places_x : (p : ℕ) → get_or (final (opened c sums₀) cs).columns.xs p nan ≡ held (λ (q : Pair). q.x) (get_or c.xs p nan) (lent_of c sums₀) [] cs p
  pub places_y : (p : ℕ) → get_or (final (opened c sums₀) cs).columns.ys p nan ≡ held (λ (q : Pair). q.y) (get_or c.ys p nan) (lent_of c sums₀) [] cs p
  -- Places past the 272 are not the book's: they are left as they were.
  pub past : drop sum_places (final (opened c sums₀) cs).sums ≡ drop sum_places sums₀
  -- The columns and the sums are the same lent memory in every call.
  pub lent : lent_of (final (opened c sums₀) cs).columns (final (opened c sums₀) cs).sums ≡ lent_of c sums₀
