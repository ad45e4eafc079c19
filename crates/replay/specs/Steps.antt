-- What one call of a replay leaves. Definitions only.
use Rattle.std.specs.Prelude.{◌≡◌, List, [], ◌∷◌, ℕ, ◌+◌, ◌*◌, ◌≤◌, length, Float, Ok, Err}
use Rattle.refusal.specs.Named.{number}
use Rattle.book.specs.Calls.{Answer, State, state_of}
use Rattle.reporting.specs.declared.Places.{Places}
use Rattle.reporting.specs.Reports.{ReportAnswer, ReportOut}
use Rattle.ledger.specs.Ledger.{Call, next, reply}
use Rattle.ledger.specs.ReadCalls.{ReadCall, read_on}
use Rattle.replay.specs.declared.Done.{Done}
use Rattle.reporting.specs.Outputs.{Outputs, LentOutputs}
use Rattle.replay.specs.Replay.{Memory, LentMemory, Ran, results_of, over_all_at, put_results, put_outputs}
use Rattle.samples.specs.Columns.{Columns}

-- the five results
abbrev pub results_in : Done → List ℕ
results_in d = d.number ∷ d.size ∷ d.solved ∷ d.outliers ∷ d.pruned ∷ []

-- after the answer of a call that changes a book of n samples
unfoldable pub change_record : ℕ → Answer → Done
change_record n (Ok b) = record { count = b.count; number = 0; size = b.count; solved = 0; outliers = 0; pruned = 0 }
change_record n (Err r) = record { count = n; number = (number r); size = 0; solved = 0; outliers = 0; pruned = 0 }

-- after a report's
unfoldable pub report_record : ℕ → ReportAnswer → Done
report_record n (Ok r) = record { count = n; number = 0; size = r.degree.0; solved = r.solved; outliers = r.outliers; pruned = r.pruned }
report_record n (Err r) = record { count = n; number = (number r); size = 0; solved = 0; outliers = 0; pruned = 0 }

-- a call that changes a book
pub record Changed (s : State) (c : Call ReadCall) (d : Done) (left : Columns) (sums : List Float) : Type 0 where
  pub state : state_of d.count left sums ≡ next s c
  pub results : results_in d ≡ results_of (reply read_on s c)

-- a report into windows that are cut from this place on
pub record Reported (n at : ℕ) (o : ReportOut) (d : Done) (w : LentOutputs) : Type 0 where
  pub done : d ≡ report_record n o.answer
  pub wrote : w.left ≡ over_all_at at o.written w.found

-- the call c, the k-th, from the book n and the memory m: n' and m' are left
pub record Turned (c : Call ReadCall) (width k n n' : ℕ) (m m' : Memory) : Type 0 where
  pub state : state_of n' m'.columns m'.sums ≡ next (state_of n m.columns m.sums) c
  pub results : m'.results ≡ put_results k (reply read_on (state_of n m.columns m.sums) c) m.results
  pub outputs : m'.outputs ≡ put_outputs width k (reply read_on (state_of n m.columns m.sums) c) m.outputs

-- in a contract
abbrev pub TurnIs : Call ReadCall → ℕ → ℕ → ℕ → ℕ → LentMemory → Type 0
TurnIs c width k n n' m = Turned c width k n n' m.found m.left

abbrev pub RunIs : List (Call ReadCall) → ℕ → ℕ → LentMemory → Type 0
RunIs cs width n m = Ran cs width n m.found m.left

-- ---- room

-- the k-th record stands in the buffers
pub record Stands (kinds words : List ℕ) (numbers : List Float) (k : ℕ) : Type 0 where
  pub kind : 5 * k + 5 ≤ length kinds
  pub word : 9 * k + 9 ≤ length words
  pub number : 5 * k + 5 ≤ length numbers

-- memory of these lengths can be cut from this place on
pub record Windows (at : ℕ) (p : Places) (w : Outputs) : Type 0 where
  pub scratch : at + p.scratch ≤ length w.scratch
  pub coefficients : at + p.coefficients ≤ length w.coefficients
  pub errors : at + p.errors ≤ length w.errors
  pub pruned : at + p.pruned ≤ length w.pruned
  pub lower : at + p.lower ≤ length w.lower
  pub upper : at + p.upper ≤ length w.upper
  pub outliers : at + p.outliers ≤ length w.outliers
