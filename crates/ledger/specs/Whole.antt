-- Demand 3, whole: the claim about any list of calls from a book just opened. The theorem, `whole_book`, is proved in proofs/Book.antt. Definitions
-- only.
use Rattle.std.specs.Prelude.{◌≡◌, List, [], ◌∷◌, ◌++◌, length, Float}
use Rattle.samples.specs.declared.Sample.{Sample}
use Rattle.monomial.specs.Rows.{weighted_rows}
use Rattle.monomial.specs.Sums.{sums_of}
use Rattle.book.specs.Calls.{book_of, open_out}
use Rattle.settings.specs.declared.Settings.{Settings}
use Rattle.reporting.specs.declared.Places.{Places}
use Rattle.report.specs.Refusals.{report_refusal}
use Rattle.reporting.specs.Reports.{ReportOut}
use Rattle.report.specs.Reports.{report_on}
use Rattle.ledger.specs.Ledger.{Call, reads, Reply, told, Lent, lent_of, program_replies, opened, ledger_end, ledger_replies, Agrees}
use Rattle.ledger.specs.ReadCalls.{ReadCall, Told, reports, report_reply, read_on}
use Rattle.ledger.specs.Words.{Words}
use Rattle.samples.specs.Columns.{Columns}

-- a report of the plain ledger
abbrev pub ledger_report : Lent → List Sample → Settings → Places → ReportOut
ledger_report m l settings places = report_on (length l) settings l (sums_of (weighted_rows l)) m.columns m.sums places

-- a report that stands in the list after the calls `before`; all are what the calls reply
pub record ReportedIn (m : Lent) (before : List (Call ReadCall)) (settings : Settings) (places : Places) (all : List (Reply Told)) : Type 0 where
  -- its reply comes after theirs, and is the report of the ledger that they leave;
  pub later : List (Reply Told)
  pub stands : all ≡ ledger_replies read_on m [] before ++ (told (report_reply (ledger_report m (ledger_end m [] before) settings places)) ∷ later)
  -- if it passes refusals 1 to 9, demand 3's words hold of it
  pub words : report_refusal (length (ledger_end m [] before)) settings (ledger_end m [] before) m.columns m.sums places ≡ 0
      → Words settings (ledger_end m [] before) (ledger_report m (ledger_end m [] before) settings places)

-- the claim about the list of calls cs, where the lent memory held these columns and sums at opening
pub record WholeBook (columns : Columns) (sums : List Float) (cs : List (Call ReadCall)) : Type 0 where
  -- answers call by call, every value that a call writes, the book, the columns below the count and past it, the sums and the places past 272
  pub agrees : Agrees read_on columns sums (opened columns sums) [] cs
  -- each report in it
  pub each_report : (before : List (Call ReadCall)) (settings : Settings) (places : Places) (after : List (Call ReadCall))
      → cs ≡ before ++ (reads (reports settings places) ∷ after)
      → ReportedIn (lent_of columns sums) before settings places (program_replies read_on (opened columns sums) cs)

-- Take any list of adds, a window's adds, corrections, withdrawals, frames, lines, fits, validations, bands, reports, splits, losses and scores, refused ones included, in any
-- order, from a book just opened.
abbrev pub AnyList : Type 0
AnyList = (columns : Columns) (sums : List Float) → (open_out sums).answer ≡ book_of 0 → (cs : List (Call ReadCall)) → WholeBook columns sums cs
