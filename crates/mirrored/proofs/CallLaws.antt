-- Laws of Calls.antt: what one call and its mirror image leave and reply, by the ledger, and so a list of them.
use Rattle.std.specs.Prelude.{◌≡◌, Bool, cond, List, ℕ, zero, suc, ◌+◌, eqb, length, Float}
use Rattle.std.proofs.Math.Bool.{true, false}
use Rattle.loops.specs.Fold.{fold}
use Rattle.runs.specs.Runs.{Machine, replies}
use Rattle.samples.specs.declared.Sample.{Sample}
use Rattle.monomial.specs.Rows.{weighted_rows}
use Rattle.monomial.specs.Sums.{sums_of}
use Rattle.refusal.specs.Tests.{capacity}
use Rattle.book.specs.Refusals.{add_refusal, correct_refusal, withdraw_refusal, frame_add_refusal, lines_add_refusal}
use Rattle.book.specs.Window.{window_refusal}
use Rattle.ledger.specs.Ledger.{Change, Call, changes, Lent, new_y, without, changed, refusal_of, ledger_next, ledger_reply}
use Rattle.ledger.specs.ReadCalls.{ReadCall, read_on}
use Rattle.signs.specs.Opposite.{Opposite}
use Rattle.signs.specs.Steps.{finite_opposite}
use Rattle.mirror.specs.Pairs.{Pairs, none, and}
use Rattle.mirror.specs.PairLaws.{pairs_length, pairs_append, pairs_take, pairs_drop}
use Rattle.mirrored.specs.Samples.{MirrorSamples}
use Rattle.mirrored.specs.SampleLaws.{book_sums_mirror, sample_finite_mirror, weight_above_mirror, all_finite_mirror, all_above_mirror}
use Rattle.mirrored.specs.Replies.{MirrorTold, PrunesBySize}
use Rattle.mirrored.proofs.ReplyLaws.{settle_mirror}
use Rattle.mirrored.proofs.ReadLaws.{read_on_mirror}
use Rattle.mirrored.specs.Calls.{MirrorChange, adding, correcting, withdrawing, framing, writing, windowing, MirrorCall, changing, reading, MirrorReply, answer, reply, ByCall, no_call, next_call}

-- ---- a call that changes a book

new_y_mirror : (i : ℕ) {l k : List Sample} {y u : Float} → MirrorSamples l k → Opposite y u → MirrorSamples (new_y l i y) (new_y k i u)
unfolding new_y
new_y_mirror i none o = none
new_y_mirror zero (and h p) o = and (record { x = h.x; y = o; w = h.w }) p
new_y_mirror (suc i) (and h p) o = and h (new_y_mirror i p o)

without_mirror : (i : ℕ) {l k : List Sample} → MirrorSamples l k → MirrorSamples (without i l) (without i k)
without_mirror i p = pairs_append (pairs_take i p) (pairs_drop (i + 1) p)

module _ (m : Lent) {l k : List Sample} (p : MirrorSamples l k) where
  -- what it leaves, if it is not refused
  pub changed_mirror : {c d : Change} → MirrorChange c d → MirrorSamples (changed m l c) (changed m k d)
  unfolding changed
  changed_mirror (adding h) = pairs_append p (and h none)
  changed_mirror (correcting i o) = new_y_mirror i p o
  changed_mirror (withdrawing i) = without_mirror i p
  changed_mirror (framing f) = pairs_append p f.samples
  changed_mirror (writing t) = pairs_append p t.samples
  changed_mirror (windowing h) = rw (pairs_length p) (pairs_append (go (eqb (length k) (capacity m.columns))) (and h none))
    where
      go : (b : Bool) → MirrorSamples (cond b (without 0 l) l) (cond b (without 0 k) k)
      go true = without_mirror 0 p
      go false = p

  -- refusals agree by number
  pub refusal_mirror : {c d : Change} → MirrorChange c d → refusal_of m (length l) c ≡ refusal_of m (length k) d
  unfolding refusal_of add_refusal correct_refusal withdraw_refusal frame_add_refusal lines_add_refusal window_refusal
  refusal_mirror (adding {p = a} {q = b} h) = rw (pairs_length p, sample_finite_mirror a b h, weight_above_mirror a b h)
  refusal_mirror (correcting i o) = rw (pairs_length p, finite_opposite o)
  refusal_mirror (withdrawing i) = rw (pairs_length p)
  refusal_mirror (framing f) =
      rw (pairs_length p, f.long, f.version, all_finite_mirror f.samples, all_above_mirror f.samples, pairs_length f.samples)
  refusal_mirror (writing t) = rw (pairs_length p, t.refusal, pairs_length t.samples)
  refusal_mirror (windowing {p = a} {q = b} h) = rw (pairs_length p, sample_finite_mirror a b h, weight_above_mirror a b h)

  -- what it leaves, refused or not, and its answer
  pub change_mirror : {c d : Change} → MirrorChange c d → MirrorSamples (ledger_next {R = ReadCall} m l (changes c)) (ledger_next {R = ReadCall} m k (changes d))
  unfolding ledger_next
  change_mirror {c} {d} h = rw (refusal_mirror h) (settle_mirror MirrorSamples (refusal_of m (length k) d) (changed_mirror h) p)

  -- ---- a call that reads

  pub read_mirror : (q : ReadCall)
      → MirrorTold (PrunesBySize q) (read_on q (length l) l (sums_of (weighted_rows l)) m.columns m.sums)
      (read_on q (length k) k (sums_of (weighted_rows k)) m.columns m.sums)
  read_mirror q = rw (pairs_length p) (read_on_mirror (book_sums_mirror p) p (length k) m.columns m.sums q)

  -- ---- any call

  pub next_mirror : {c d : Call ReadCall} → MirrorCall c d → MirrorSamples (ledger_next m l c) (ledger_next m k d)
  unfolding ledger_next
  next_mirror (changing h) = change_mirror h
  next_mirror (reading q) = p

  pub reply_mirror : {c d : Call ReadCall} → MirrorCall c d → MirrorReply c (ledger_reply read_on m l c) (ledger_reply read_on m k d)
  unfolding ledger_reply
  reply_mirror (changing {c} h) = rw (refusal_mirror h, pairs_length (changed_mirror h)) (answer c _)
  reply_mirror (reading q) = reply q (read_mirror q)

-- ---- a list of calls, each beside its mirror image, of any two machines: `related` of crate `runs`, where what is said of two replies is the call's to say

module _ {S T C P Q : Type 0} (M : Machine S C P) (N : Machine T C Q) (Rel : S → T → Type 0) (Pair : C → C → Type 0) (Same : C → P → Q → Type 0)
    (go : (s : S) (t : T) (c d : C) → Rel s t → Pair c d → Same c (M.reply s c) (N.reply t d) × Rel (M.step s c) (N.step t d)) where
  pub related_by_call : (s : S) (t : T) → Rel s t → {cs ds : List C} → Pairs Pair cs ds
      → ByCall Same cs (replies M s cs) (replies N t ds) × Rel (fold M.step s cs) (fold N.step t ds)
  unfolding replies fold
  related_by_call s t h none = (no_call, h)
  related_by_call s t h (and {a = c} {b = d} q p) =
      let w = go s t c d h q in
      let r = related_by_call (M.step s c) (N.step t d) w.1 p in
      (next_call w.0 r.0, r.1)
