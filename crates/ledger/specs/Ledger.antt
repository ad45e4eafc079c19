-- Demand 3: a list of calls run by the definitions that the contracts promise, the plain ledger of the same calls, and what it is that they
-- agree. The theorem, `whole_list`, is proved in proofs/Whole.antt. Definitions only.
use Rattle.std.specs.Prelude.{◌≡◌, List, [], ◌∷◌, ◌++◌, map, ℕ, zero, suc, ◌+◌, eqb, cond, length, get_or, take, drop, Float}
use Rattle.std.specs.Float.{nan}
use Rattle.refusal.specs.Named.{refused_by}
use Rattle.basis.specs.Sizes.{sum_places}
use Rattle.loops.specs.Fold.{fold}
use Rattle.runs.specs.Runs.{Machine, replies as replies_of, history}
use Rattle.samples.specs.declared.Sample.{Sample}
use Rattle.monomial.specs.Rows.{weighted_rows}
use Rattle.monomial.specs.Sums.{sums_of}
use Rattle.frame.specs.Frame.{decode}
use Rattle.decimal.specs.Lines.{read_lines}
use Rattle.book.specs.Refusals.{add_refusal, correct_refusal, withdraw_refusal, frame_add_refusal, lines_add_refusal}
use Rattle.refusal.specs.Tests.{capacity}
use Rattle.book.specs.Calls.{Answer, Out, State, state_of, state_after, book_of, book_after, open_out, add_out, correct_out, withdraw_out, add_frame_out, add_lines_out}
use Rattle.samples.specs.Columns.{Column, value, lengths, samples_of, Columns}
use Rattle.refusal.specs.Refusals.{settle}
use Rattle.refusal.specs.Named.{refused_by}
use Rattle.book.specs.Window.{window_refusal, window_out}

-- ---- calls

-- a call that changes a book, with its arguments
pub data Change : Type 0 where
  adds : Sample → Change
  corrects : ℕ → Float → Change
  withdraws : ℕ → Change
  frames : List ℕ → Change
  texts : List ℕ → Change
  windows : Sample → Change

-- A call of a list. R is the type of the calls that only read (fit, report, validate, band, split, losses, scores), each with its arguments and the lengths of the memory
-- lent to it alone.
pub data Call (R : Type 0) : Type 0 where
  changes : Change → Call R
  reads : R → Call R

-- what comes back: the answer, or of a call that reads, W: its answer and the values that it writes
pub data Reply (W : Type 0) : Type 0 where
  said : Answer → Reply W
  told : W → Reply W

-- what a call that reads answers and writes, from the count, the samples, the 272 sums, and the lengths of the columns and of the sums
abbrev pub Reading : Type 0 → Type 0 → Type 0
Reading R W = R → ℕ → List Sample → List Float → List ℕ → ℕ → W

-- the lengths of the lent memory that is the same in every call: the columns' and the sums'
pub record Lent : Type 0 where
  pub columns : List ℕ
  pub sums : ℕ

abbrev pub lent_by : State → Lent
lent_by s = record { columns = lengths s.columns; sums = length s.sums }

abbrev pub lent_of : Columns → List Float → Lent
lent_of columns sums = lent_by (state_of 0 columns sums)

-- ---- the program: each call gets the book last returned, and the columns and sums as the call before left them

-- what a call that changes a book answers and leaves: the definition that its contract promises
unfoldable pub out_of : State → Change → Out
out_of s (adds p) = add_out s.count p s.columns s.sums
out_of s (corrects i y) = correct_out s.count i y s.columns s.sums
out_of s (withdraws i) = withdraw_out s.count i s.columns s.sums
out_of s (frames f) = add_frame_out s.count f s.columns s.sums
out_of s (texts t) = add_lines_out s.count t s.columns s.sums
out_of s (windows p) = window_out s.count p s.columns s.sums

unfoldable pub next : {R : Type 0} → State → Call R → State
next s (changes c) = state_after s.count (out_of s c)
next s (reads q) = s

unfoldable pub reply : {R W : Type 0} → Reading R W → State → Call R → Reply W
reply read_on s (changes c) = said (out_of s c).answer
reply read_on s (reads q) =
    told (read_on q s.count (samples_of s.count s.columns) (take sum_places s.sums) (lengths s.columns) (length s.sums))

abbrev pub program : {R W : Type 0} → Reading R W → Machine State (Call R) (Reply W)
program read_on = record { step = next; reply = reply read_on }

abbrev pub final : {R : Type 0} → State → List (Call R) → State
final s cs = fold next s cs

abbrev pub program_replies : {R W : Type 0} → Reading R W → State → List (Call R) → List (Reply W)
program_replies read_on s cs = replies_of (program read_on) s cs

-- a book just opened, over columns that hold anything
abbrev pub opened : Columns → List Float → State
opened columns sums = record { count = book_after 0 (open_out sums).answer; columns = columns; sums = (open_out sums).sums }

-- ---- the plain ledger: a list of samples, fed the calls' arguments and the lengths of the lent memory

-- Correct i: sample i gets a new y and keeps its weight.
unfoldable pub new_y : List Sample → ℕ → Float → List Sample
new_y [] i y = []
new_y (p ∷ l) zero y = record { x = p.x; y = y; w = p.w } ∷ l
new_y (p ∷ l) (suc i) y = p ∷ new_y l i y

-- Withdraw i: it goes, later ones move down one.
abbrev pub without : ℕ → List Sample → List Sample
without i l = take i l ++ drop (i + 1) l

-- Add: one sample at the end. A frame, and lines, equal that many adds. An add to a full window book first withdraws sample 0.
unfoldable pub changed : Lent → List Sample → Change → List Sample
changed m l (adds p) = l ++ (p ∷ [])
changed m l (corrects i y) = new_y l i y
changed m l (withdraws i) = without i l
changed m l (frames f) = l ++ decode f
changed m l (texts t) = l ++ read_lines t
changed m l (windows p) = cond (eqb (length l) (capacity m.columns)) (without 0 l) l ++ (p ∷ [])

-- A call is refused exactly when the refusals, read with the ledger's length as the count n, give it a number; 0 is none.
unfoldable pub refusal_of : Lent → ℕ → Change → ℕ
refusal_of m n (adds p) = add_refusal n p m.columns m.sums
refusal_of m n (corrects i y) = correct_refusal n i y m.columns m.sums
refusal_of m n (withdraws i) = withdraw_refusal n i m.columns m.sums
refusal_of m n (frames f) = frame_add_refusal n f m.columns m.sums
refusal_of m n (texts t) = lines_add_refusal n t m.columns m.sums
refusal_of m n (windows p) = window_refusal n p m.columns m.sums

-- A refusal changes nothing. A report, or any other call that reads, changes nothing.
unfoldable pub ledger_next : {R : Type 0} → Lent → List Sample → Call R → List Sample
ledger_next m l (changes c) = settle (refusal_of m (length l) c) (changed m l c) l
ledger_next m l (reads q) = l

-- The refusal's number is then the answer. Any other add, correction or withdrawal answers the book, which is the ledger's length; a call that
-- reads answers and writes what is defined, from the ledger's samples and sums. The ledger's sums are always those over its whole list.
unfoldable pub ledger_reply : {R W : Type 0} → Reading R W → Lent → List Sample → Call R → Reply W
ledger_reply read_on m l (changes c) =
    said (settle (refusal_of m (length l) c) (book_of (length (changed m l c))) (refused_by (refusal_of m (length l) c)))
ledger_reply read_on m l (reads q) = told (read_on q (length l) l (sums_of (weighted_rows l)) m.columns m.sums)

abbrev pub ledger : {R W : Type 0} → Reading R W → Lent → Machine (List Sample) (Call R) (Reply W)
ledger read_on m = record { step = ledger_next m; reply = ledger_reply read_on m }

abbrev pub ledger_end : {R : Type 0} → Lent → List Sample → List (Call R) → List Sample
ledger_end m l cs = fold (ledger_next m) l cs

abbrev pub ledger_replies : {R W : Type 0} → Reading R W → Lent → List Sample → List (Call R) → List (Reply W)
ledger_replies read_on m l cs = replies_of (ledger read_on m) l cs

-- what a place of a column holds while the values of the ledger's samples are vs, if it held v before: theirs where it is below the count, else v
abbrev pub seen : Float → List Float → ℕ → Float
seen v vs p = get_or vs p v

-- what a place holds after the calls, if it held v at first and f takes a sample's value for this column: by the lists that the ledger has had, one
-- after another, what it held when it was last below the count, or else v
abbrev pub held : {R : Type 0} → (Sample → Float) → Float → Lent → List Sample → List (Call R) → ℕ → Float
held f v m l cs p = fold (λ u k. seen u (map f k) p) v (history (ledger_next m) l cs)

-- ---- the claim, about the whole list of calls cs: the program from the state s and the ledger from the list l agree, where the lent memory held
-- columns₀ and sums₀ at opening

pub record Agrees {R W : Type 0} (read_on : Reading R W) (columns₀ : Columns) (sums₀ : List Float) (s : State) (l : List Sample) (cs : List (Call R)) : Type 0 where
  -- Each call's answer, and each place that a report writes, is the ledger's.
  pub answered : program_replies read_on s cs ≡ ledger_replies read_on (lent_of columns₀ sums₀) l cs
  -- After the list, the book is the ledger's length,
  pub book : (final s cs).count ≡ length (ledger_end (lent_of columns₀ sums₀) l cs)
  -- the column places below it hold the ledger's samples,
  pub below : (k : Column) → take (final s cs).count ((final s cs).columns k) ≡ map (value k) (ledger_end (lent_of columns₀ sums₀) l cs)
  -- and the 272 sums are the ledger's, bit for bit, NaNs as one value.
  pub sums : take sum_places (final s cs).sums ≡ sums_of (weighted_rows (ledger_end (lent_of columns₀ sums₀) l cs))
  -- A column place at or past the count keeps what it held when it was last below the count, or else what it held at opening.
  pub places : (k : Column) (p : ℕ) → get_or ((final s cs).columns k) p nan ≡ held (value k) (get_or (s.columns k) p nan) (lent_of columns₀ sums₀) l cs p
  -- Places past the 272 are not the book's: they are left as they were.
  pub past : drop sum_places (final s cs).sums ≡ drop sum_places sums₀
  -- The columns and the sums are the same lent memory in every call.
  pub lent : lent_by (final s cs) ≡ lent_of columns₀ sums₀

-- Take any list of calls, refused ones included, in any order, from a book just opened, whatever the columns held at opening.
abbrev pub WholeList : {R W : Type 0} → Reading R W → Type 0
WholeList {R} read_on =
    (columns : Columns) (sums : List Float) → (open_out sums).answer ≡ book_of 0 → (cs : List (Call R)) → Agrees read_on columns sums (opened columns sums) [] cs
