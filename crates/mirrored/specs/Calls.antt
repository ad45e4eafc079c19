-- Two lists of calls alike but for the sign of every y, and what it is for their replies to be each other's mirror image. Definitions only.
use Rattle.std.specs.Prelude.{List, [], ◌∷◌, ℕ, Float}
use Rattle.book.specs.Calls.{Answer}
use Rattle.samples.specs.declared.Sample.{Sample}
use Rattle.ledger.specs.Ledger.{Change, adds, corrects, withdraws, frames, texts, windows, Call, changes, reads, Reply, said, told}
use Rattle.ledger.specs.ReadCalls.{ReadCall, Told}
use Rattle.signs.specs.Opposite.{Opposite}
use Rattle.mirror.specs.Pairs.{Pairs}
use Rattle.mirrored.specs.Samples.{MirrorSample}
use Rattle.mirrored.specs.Frames.{MirrorFrame, MirrorText}
use Rattle.mirrored.specs.Replies.{MirrorTold, PrunesBySize}

-- calls that change a book: places are equal, and every y has its sign changed, in frames and texts too
pub data MirrorChange : Change → Change → Type 0 where
  adding : {p q : Sample} → MirrorSample p q → MirrorChange (adds p) (adds q)
  correcting : (i : ℕ) {y u : Float} → Opposite y u → MirrorChange (corrects i y) (corrects i u)
  withdrawing : (i : ℕ) → MirrorChange (withdraws i) (withdraws i)
  framing : {f g : List ℕ} → MirrorFrame f g → MirrorChange (frames f) (frames g)
  writing : {f g : List ℕ} → MirrorText f g → MirrorChange (texts f) (texts g)
  windowing : {p q : Sample} → MirrorSample p q → MirrorChange (windows p) (windows q)

-- calls that read are asked alike
pub data MirrorCall : Call ReadCall → Call ReadCall → Type 0 where
  changing : {c d : Change} → MirrorChange c d → MirrorCall (changes c) (changes d)
  reading : (q : ReadCall) → MirrorCall (reads q) (reads q)

abbrev pub MirrorCalls : List (Call ReadCall) → List (Call ReadCall) → Type 0
MirrorCalls cs ds = Pairs MirrorCall cs ds

-- the replies to a call and to its mirror image: a call that changes a book has the same answer, and what a call that reads is told is mirrored
pub data MirrorReply : Call ReadCall → Reply Told → Reply Told → Type 0 where
  answer : (c : Change) (a : Answer) → MirrorReply (changes c) (said a) (said a)
  reply : (q : ReadCall) {a b : Told} → MirrorTold (PrunesBySize q) a b → MirrorReply (reads q) (told a) (told b)

-- the replies to a list of calls and to another, call by call, related as the call has it
pub data ByCall {C P Q : Type 0} (R : C → P → Q → Type 0) : List C → List P → List Q → Type 0 where
  no_call : ByCall R [] [] []
  next_call : {c : C} {a : P} {b : Q} {cs : List C} {l : List P} {m : List Q} → R c a b → ByCall R cs l m → ByCall R (c ∷ cs) (a ∷ l) (b ∷ m)
