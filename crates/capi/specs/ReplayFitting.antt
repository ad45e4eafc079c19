-- What a replay answers fits: no list of calls makes a book of more than 4,096 samples.
use Rattle.std.specs.Prelude.{List, ℕ, ◌≤◌}
use Rattle.std.proofs.Common.{arith}
use Rattle.basis.specs.Sizes.{max_samples}
use Rattle.book.specs.Calls.{State, open_out}
use Rattle.ledger.specs.Ledger.{Call, Change, changes, reads, adds, corrects, withdraws, frames, texts, windows, out_of, next, opened}
use Rattle.ledger.specs.ReadCalls.{ReadCall}
use Rattle.replay.specs.Replay.{Memory, Ran}
use Rattle.capi.specs.Packed.{BookFits}
use Rattle.capi.specs.Fitting.{after_fits, many_fit, open_fits, add_fits, correct_fits, withdraw_fits, frame_fits, lines_fits, window_fits}

change_fits : (s : State) (c : Change) → s.count ≤ max_samples → BookFits (out_of s c).answer
unfolding out_of
change_fits s (adds p) h = add_fits s.count s.columns s.sums p
change_fits s (corrects i y) h = correct_fits s.count s.columns s.sums i y
change_fits s (withdraws i) h = withdraw_fits s.count s.columns s.sums i
change_fits s (frames f) h = frame_fits s.count s.columns s.sums f
change_fits s (texts t) h = lines_fits s.count s.columns s.sums t
change_fits s (windows p) h = window_fits s.count s.columns s.sums p

next_fits : (s : State) (c : Call ReadCall) → s.count ≤ max_samples → (next s c).count ≤ max_samples
unfolding next
next_fits s (changes c) h = after_fits s.count (out_of s c).answer h (change_fits s c h)
next_fits s (reads q) h = h

-- the book of a replay that was run
pub replay_fits : {cs : List (Call ReadCall)} {width r : ℕ} {m m' : Memory} → Ran cs width r m m' → r ≤ max_samples
replay_fits {cs} {width} {r} {m} ran =
    let s = opened m.columns m.sums in
    let few = many_fit (λ (s : State). s.count) next next_fits cs s (after_fits 0 (open_out m.sums).answer (omega arith) (open_fits m.sums)) in
    omega (arith, few, ran.book, ran.whole.agrees.book)
