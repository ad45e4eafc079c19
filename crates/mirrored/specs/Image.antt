-- Document 02's mirror image, whole: what two books just opened, whose lent memory has the same lengths and held anything, reply to two lists of
-- calls alike but for the sign of every y. The theorem, `mirror_image`, is proved in proofs/Image.antt, and so is `flipped_image`, that every list of
-- calls has its mirror image. Definitions only.
use Rattle.std.specs.Prelude.{◌≡◌, List, [], ℕ, take, Float}
use Rattle.samples.specs.Columns.{Columns}
use Rattle.settings.specs.declared.Settings.{Settings}
use Rattle.book.specs.Calls.{book_of, open_out}
use Rattle.ledger.specs.Ledger.{Call, lent_of, program_replies, opened, ledger_end}
use Rattle.ledger.specs.ReadCalls.{ReadCall, read_on}
use Rattle.ledger.specs.Words.{scored}
use Rattle.mirrored.specs.Calls.{MirrorCalls, MirrorReply, ByCall}

pub record Image (columns columns' : Columns) (sums sums' : List Float) (cs ds : List (Call ReadCall)) : Type 0 where
  -- The program's replies, call by call. Equal: answers of calls that change a book, refusals by number, chosen degrees, numbers of solved degrees,
  -- outliers and pivot tests, errors, outlier marks, losses, scores, totals and breaks, and what is pruned by size. Of opposite sign: coefficients
  -- and a band's value; lower and upper change places besides.
  pub replied : ByCall MirrorReply cs (program_replies read_on (opened columns sums) cs) (program_replies read_on (opened columns' sums') ds)
  -- After the first n calls of both, whether a degree is solved, and its score, are equal, for every degree that a report would try.
  pub scores : (n : ℕ) (settings : Settings) (d : ℕ)
      → scored settings (ledger_end (lent_of columns sums) [] (take n cs)) d ≡ scored settings (ledger_end (lent_of columns' sums') [] (take n ds)) d

-- Take two lists of calls, refused ones included, in any order, alike but for the sign of every y.
abbrev pub AnyMirror : Type 0
AnyMirror =
    (columns columns' : Columns) (sums sums' : List Float) → lent_of columns sums ≡ lent_of columns' sums' → (open_out sums).answer ≡ book_of 0
    → (open_out sums').answer ≡ book_of 0 → (cs ds : List (Call ReadCall)) → MirrorCalls cs ds → Image columns columns' sums sums' cs ds
