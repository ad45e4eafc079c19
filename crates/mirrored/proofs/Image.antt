-- The mirror image, whole: by the ledger, which the program agrees with.
use mathlib.Core.Path.{◌≡◌, refl, sym, subst₂}
use mathlib.Core.List.{List, [], map}
use Prim.Native.Nat.{ℕ}
use lib.Ieee.{Float}
use Rattle.loops.specs.All.{All}
use Rattle.samples.specs.Columns.{Columns}
use Rattle.basis.specs.Counts.{count_of}
use Rattle.basis.specs.declared.Basis.TheVariants.{Curve}
use Rattle.settings.specs.declared.Settings.{Settings}
use Rattle.book.specs.Calls.{book_of, open_out}
use Rattle.ledger.specs.Ledger.{Call, Lent, lent_of, ledger, ledger_replies, ledger_end}
use Rattle.ledger.specs.ReadCalls.{ReadCall, read_on}
use Rattle.ledger.specs.Words.{scored}
use Rattle.ledger.proofs.Book.{whole_book}
use Rattle.mirror.specs.Pairs.{none}
use Rattle.mirror.specs.PairLaws.{pairs_take}
use Rattle.mirror.specs.FitLaws.{scored_mirror}
use Rattle.mirrored.specs.Samples.{MirrorSamples}
use Rattle.mirrored.specs.SampleLaws.{rows_mirror, book_sums_mirror}
use Rattle.mirrored.specs.Calls.{MirrorCall, MirrorCalls, MirrorReply, ByCall}
use Rattle.mirrored.proofs.CallLaws.{next_mirror, reply_mirror, related_by_call}
use Rattle.mirrored.specs.Flipped.{flip_call, InBytes}
use Rattle.mirrored.specs.FlippedLaws.{flip_calls}
use Rattle.mirrored.specs.Image.{Image, AnyMirror}

-- by the ledger
module _ (m : Lent) {cs ds : List (Call ReadCall)} (p : MirrorCalls cs ds) where
  ledger_mirror : ByCall MirrorReply cs (ledger_replies read_on m [] cs) (ledger_replies read_on m [] ds) × MirrorSamples (ledger_end m [] cs) (ledger_end m [] ds)
  ledger_mirror =
      related_by_call (ledger read_on m) (ledger read_on m) MirrorSamples MirrorCall MirrorReply (λ l k c d h q. (reply_mirror m h q, next_mirror m h q)) [] [] none p

  scores_mirror : (settings : Settings) (d : ℕ) → scored settings (ledger_end m [] cs) d ≡ scored settings (ledger_end m [] ds) d
  scores_mirror settings d = let e = ledger_mirror.1 in scored_mirror settings.criterion (book_sums_mirror e) (rows_mirror e) (rows_mirror e) (count_of Curve d)

pub mirror_image : AnyMirror
mirror_image columns columns' sums sums' same h h' cs ds p =
    record {
      replied =
          subst₂ (ByCall MirrorReply cs) (sym (whole_book columns sums h cs).agrees.answered) (sym (whole_book columns' sums' h' ds).agrees.answered)
          (rw same (ledger_mirror (lent_of columns' sums') p).0);
      scores = λ n settings d. rw same (scores_mirror (lent_of columns' sums') (pairs_take n p) settings d);
    }

-- and so, of every list of calls and the same list with the sign of every y changed
pub flipped_image : (columns : Columns) (sums : List Float) → (open_out sums).answer ≡ book_of 0 → (cs : List (Call ReadCall)) → All InBytes cs
    → Image columns columns sums sums cs (map flip_call cs)
flipped_image columns sums h cs b = mirror_image columns columns sums sums refl h h cs (map flip_call cs) (flip_calls cs b)
