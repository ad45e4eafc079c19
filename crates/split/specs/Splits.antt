-- Document 02's split (E8): what it answers and writes, from samples and lengths. Definitions only.
use denote.Triple.Both.{Both}
use Rattle.std.specs.Prelude.{◌≡◌, ⊤, cond, List, [], ℕ, ltb, length, take, drop, Float, Result, Ok, Err}
use Rattle.loops.specs.Within.{Within}
use Rattle.statistics.specs.declared.DegreeBound.{DegreeBound}
use Rattle.samples.specs.declared.Sample.{Sample}
use Rattle.samples.specs.Columns.{samples_of, Columns, lengths}
use Rattle.monomial.specs.Rows.{WeightedRow, weighted_rows}
use Rattle.score.specs.declared.Criterion.{Criterion}
use Rattle.refusal.specs.declared.refusals.Refusal.{Refusal}
use Rattle.refusal.specs.Named.{refused_by}
use Rattle.refusal.specs.Refusals.{settle}
use Rattle.lent.specs.Slices.{Contents, Slice, contents, contents_of, Given}
use Rattle.lent.specs.Written.{over, zeros}
use Rattle.settings.specs.declared.Settings.{Settings}
use Rattle.split.specs.declared.Best.{Best}
use Rattle.split.specs.declared.CountedSplit.{CountedSplit}
use Rattle.split.specs.declared.Memory.{Memory}
use Rattle.split.specs.declared.Places.{Places}
use Rattle.split.specs.declared.Searched.{Searched}
use Rattle.split.specs.declared.Break.{Break}
use Rattle.split.specs.Search.{side_fit, best_break, search_tests}
use Rattle.split.specs.Refusals.{split_refusal, searched}

-- what a split answers: the break, or a refusal
abbrev pub SplitAnswer : Type 0
SplitAnswer = Result Break Refusal

-- the answer, and the values written to scratch and as the two fits
pub record SplitOut : Type 0 where
  pub answer : SplitAnswer
  pub scratch : List Float
  pub before : List Float
  pub after : List Float

-- refused by r: neither fit is written
abbrev pub split_refused : ℕ → List Float → SplitOut
split_refused r scratch = record { answer = refused_by r; scratch = scratch; before = []; after = [] }

-- the best break: its total, how many samples are before it, the pivot tests of the whole search, and both fits, each a degree and 16 coefficients
unfoldable pub split_at : ℕ → ℕ → List WeightedRow → Best → SplitOut
split_at n tests rows best =
    record {
      answer = Ok (record { total = best.total; at = best.at; tests = tests; before = best.before; after = best.after });
      scratch = zeros n;
      before = side_fit (take best.at rows) best.before;
      after = side_fit (drop best.at rows) best.after;
    }

-- of what a search came to: refused, or the best break
abbrev pub split_by : ℕ → ℕ → List WeightedRow → Result Best Refusal → SplitOut
split_by n tests rows (Ok best) = split_at n tests rows best
split_by n tests rows (Err e) = record { answer = Err e; scratch = zeros n; before = []; after = [] }

-- past refusals 1 to 9: 16, 11, or the best break. Scratch is left as a report leaves it.
unfoldable pub split_past : ℕ → DegreeBound → Criterion → ℕ → List WeightedRow → SplitOut
split_past n bound criterion limit rows =
    let tests = search_tests bound criterion rows in
    split_by n tests rows (searched limit tests (best_break bound criterion rows))

-- a split of a book of n samples; columns, sums and the memory that is written have these lengths. The sums are judged and not read.
unfoldable pub split_on : ℕ → Settings → ℕ → List Sample → List ℕ → ℕ → Places → SplitOut
split_on n settings limit samples columns sums places =
    let r = split_refusal n settings samples columns sums places in
    settle r (split_past n settings.bound settings.criterion limit (weighted_rows samples)) (split_refused r [])

-- The pivot tests that a split takes of those left, where its search needs so many: none at 16, and all of them else, also at 11.
unfoldable pub taken_of : ℕ → ℕ → ℕ
taken_of limit tests = cond (ltb limit tests) 0 tests

-- none where it is refused by 1 to 9
unfoldable pub split_taken : ℕ → Settings → ℕ → List Sample → List ℕ → ℕ → Places → ℕ
split_taken n settings limit samples columns sums places =
    settle (split_refusal n settings samples columns sums places)
    (taken_of limit (search_tests settings.bound settings.criterion (weighted_rows samples))) 0

-- the same on what stands in memory: what the call does
abbrev pub split_out : ℕ → Settings → ℕ → Columns → ℕ → Places → SplitOut
split_out n settings limit columns sums places = split_on n settings limit (samples_of n columns) (lengths columns) sums places

-- ---- the promises

-- the memory that a split writes, as it finds it and as it leaves it
pub record LentSplit : Type 0 where
  pub scratch : Contents Float
  pub before : Contents Float
  pub after : Contents Float

abbrev pub lent_split : Slice Float → Slice Float → Slice Float → LentSplit
lent_split s b a = record { scratch = contents s; before = contents b; after = contents a }

-- the same of slices that are lent in one struct: as the call leaves it, they stand in the order of its fields
abbrev pub MemoryLeft : Type 0
MemoryLeft = Given Float × (Given Float × (Given Float × ⊤))

abbrev pub lent_memory : Both Memory MemoryLeft → LentSplit
lent_memory m =
    record {
      scratch = contents_of m.entry.scratch.now m.exit.0.now;
      before = contents_of m.entry.before.now m.exit.1.0.now;
      after = contents_of m.entry.after.now m.exit.1.1.0.now;
    }

abbrev pub places_now : Memory → Places
places_now m = record { scratch = length m.scratch.now; before = length m.before.now; after = length m.after.now }

abbrev pub places_of : LentSplit → Places
places_of w = record { scratch = length w.scratch.found; before = length w.before.found; after = length w.after.found }

-- o is what the call does: its answer, and every memory that it may write
pub record Does (o : SplitOut) (r : SplitAnswer) (w : LentSplit) : Type 0 where
  pub answer : r ≡ o.answer
  pub scratch : w.scratch.left ≡ over o.scratch w.scratch.found
  pub before : w.before.left ≡ over o.before w.before.found
  pub after : w.after.left ≡ over o.after w.after.found

-- a split of these columns
abbrev pub SplitIs : ℕ → Settings → ℕ → Columns → List Float → SplitAnswer → LentSplit → Type 0
SplitIs n settings limit columns sums r w = Does (split_out n settings limit columns (length sums) (places_of w)) r w

-- and the pivot tests that it takes
pub record SplitWithinIs (n : ℕ) (settings : Settings) (limit : ℕ) (columns : Columns) (sums : List Float) (r : CountedSplit) (w : LentSplit) : Type 0 where
  pub does : SplitIs n settings limit columns sums r.answer w
  pub taken : r.tests ≡ split_taken n settings limit (samples_of n columns) (lengths columns) (length sums) (places_of w)

-- of the code's search: r, and scratch s before and t after
pub record Searches (limit : ℕ) (bound : DegreeBound) (criterion : Criterion) (rows : List WeightedRow) (n : ℕ) (s t : List Float) (r : Searched) : Type 0 where
  pub best : r.best ≡ searched limit (search_tests bound criterion rows) (best_break bound criterion rows)
  pub tests : r.tests ≡ taken_of limit (search_tests bound criterion rows)
  pub within : Within n s t
