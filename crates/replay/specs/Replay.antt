-- What replaying a list of calls leaves, by the plain ledger. Definitions only.
use Rattle.std.specs.Prelude.{◌≡◌, true, false, List, [], ◌∷◌, ◌++◌, ℕ, ◌+◌, ◌*◌, length, take, drop, Float, Option, Some, None, Ok, Err}
use Rattle.refusal.specs.Named.{number}
use Rattle.reporting.specs.Reports.{ReportAnswer}
use Rattle.samples.specs.Columns.{Columns, columns_of}
use Rattle.lent.specs.Written.{over}
use Rattle.reporting.specs.Outputs.{nothing, Outputs, LentOutputs, places_of}
use Rattle.ledger.specs.Ledger.{Call, Reply, said, told, lent_of, final, opened, ledger_end, ledger_replies}
use Rattle.ledger.specs.ReadCalls.{ReadCall, Told, fit_reply, band_reply, report_reply, split_reply, loss_reply, scores_reply, read_on}
use Rattle.ledger.specs.Whole.{WholeBook}
use Rattle.lent.specs.Slices.{Slice, before, after}
use Rattle.replay.specs.declared.Buffers.{Buffers}
use Rattle.book.specs.declared.Book.{Book}
use Rattle.replay.specs.Records.{calls_of, well_formed}

-- ---- what is recorded of a reply

-- five results: the refusal's number, 0 for none; the book's count or the degree; solved degrees; outliers; pruned terms
abbrev pub report_results : ReportAnswer → List ℕ
report_results (Ok r) = 0 ∷ r.degree.0 ∷ r.solved ∷ r.outliers ∷ r.pruned ∷ []
report_results (Err r) = (number r) ∷ 0 ∷ 0 ∷ 0 ∷ 0 ∷ []

-- (fits, validations, bands, losses and scores stand in no record)
unfoldable pub results_of : Reply Told → List ℕ
results_of (said (Ok b)) = 0 ∷ b.count ∷ 0 ∷ 0 ∷ 0 ∷ []
results_of (said (Err r)) = (number r) ∷ 0 ∷ 0 ∷ 0 ∷ 0 ∷ []
results_of (told (report_reply o)) = report_results o.answer
results_of (told (fit_reply o)) = 0 ∷ 0 ∷ 0 ∷ 0 ∷ 0 ∷ []
results_of (told (band_reply o)) = 0 ∷ 0 ∷ 0 ∷ 0 ∷ 0 ∷ []
results_of (told (split_reply o)) = 0 ∷ 0 ∷ 0 ∷ 0 ∷ 0 ∷ []
results_of (told (loss_reply o)) = 0 ∷ 0 ∷ 0 ∷ 0 ∷ 0 ∷ []
results_of (told (scores_reply o)) = 0 ∷ 0 ∷ 0 ∷ 0 ∷ 0 ∷ []

-- the values written to the memory of a report
unfoldable pub written_of : Reply Told → Outputs
written_of (said a) = nothing
written_of (told (report_reply o)) = o.written
written_of (told (fit_reply o)) = nothing
written_of (told (band_reply o)) = nothing
written_of (told (split_reply o)) = nothing
written_of (told (loss_reply o)) = nothing
written_of (told (scores_reply o)) = nothing

-- ---- the buffers

-- values are written from place i on; all other places are left
unfoldable pub over_at : {A : Type 0} → ℕ → List A → List A → List A
over_at i values lent = take i lent ++ over values (drop i lent)

abbrev pub over_all_at : ℕ → Outputs → Outputs → Outputs
over_all_at i values lent =
    record {
      scratch = over_at i values.scratch lent.scratch;
      coefficients = over_at i values.coefficients lent.coefficients;
      errors = over_at i values.errors lent.errors;
      pruned = over_at i values.pruned lent.pruned;
      lower = over_at i values.lower lent.lower;
      upper = over_at i values.upper lent.upper;
      outliers = over_at i values.outliers lent.outliers;
    }

-- the replies are written one after another, the j-th by `put j`
unfoldable pub write_all : {B W : Type 0} → (ℕ → B → W → W) → ℕ → List B → W → W
write_all put j [] w = w
write_all put j (r ∷ rs) w = write_all put (j + 1) rs (put j r w)

-- five results a call
abbrev pub put_results : ℕ → Reply Told → List ℕ → List ℕ
put_results j r results = over_at (5 * j) (results_of r) results

-- a window a call in each memory of a report
abbrev pub put_outputs : ℕ → ℕ → Reply Told → Outputs → Outputs
put_outputs width j r w = over_all_at (width * j) (written_of r) w

-- what is lent to be written: the columns, the sums, the results, and a window a call of each memory of a report
pub record Memory : Type 0 where
  pub columns : Columns
  pub sums : List Float
  pub results : List ℕ
  pub outputs : Outputs

-- as a call finds it and as it leaves it
pub record LentMemory : Type 0 where
  pub found : Memory
  pub left : Memory

abbrev pub memory : Slice Float → Slice Float → Slice Float → Slice Float → Slice ℕ → LentOutputs → LentMemory
memory xs ys ws sums results w =
    record {
      found = record { columns = columns_of (before xs) (before ys) (before ws); sums = before sums; results = before results; outputs = w.found };
      left = record { columns = columns_of (after xs) (after ys) (after ws); sums = after sums; results = after results; outputs = w.left };
    }

-- the calls cs from a book just opened: n is the book, m the memory before and m' after
pub record Ran (cs : List (Call ReadCall)) (width n : ℕ) (m m' : Memory) : Type 0 where
  -- demand 3 of these calls: columns and sums below are the plain ledger's
  pub whole : WholeBook m.columns m.sums cs
  pub book : n ≡ length (ledger_end (lent_of m.columns m.sums) [] cs)
  pub columns : m'.columns ≡ (final (opened m.columns m.sums) cs).columns
  pub sums : m'.sums ≡ (final (opened m.columns m.sums) cs).sums
  -- and all that is recorded is what the plain ledger replies
  pub results : m'.results ≡ write_all put_results 0 (ledger_replies read_on (lent_of m.columns m.sums) [] cs) m.results
  pub outputs : m'.outputs ≡ write_all (put_outputs width) 0 (ledger_replies read_on (lent_of m.columns m.sums) [] cs) m.outputs

-- ---- the promise of `replay`

abbrev pub buffers_of : List Float → List ℕ → Outputs → Buffers
buffers_of sums results w = record { sums = length sums; results = length results; outputs = places_of w }

abbrev pub buffers_in : Memory → Buffers
buffers_in m = buffers_of m.sums m.results m.outputs

-- the answer is a book, and it and the memory are what the calls leave
pub record RanBook (cs : List (Call ReadCall)) (width : ℕ) (m m' : Memory) (r : Option Book) : Type 0 where
  pub count : ℕ
  pub answer : r ≡ Some (record { count = count })
  pub ran : Ran cs width count m m'

-- r is the answer, m the memory
pub record ReplayIs (kinds words : List ℕ) (numbers : List Float) (width : ℕ) (m : LentMemory) (r : Option Book) : Type 0 where
  -- buffers that hold no list of calls: they say so, and no place is written
  pub malformed : well_formed kinds words numbers width (buffers_in m.found) ≡ false → (r ≡ None) × (m.left ≡ m.found)
  -- any other: all its calls were run
  pub ran : well_formed kinds words numbers width (buffers_in m.found) ≡ true → RanBook (calls_of kinds words numbers) width m.found m.left r
