-- What the calls that change a two-column book answer fits, as Fitting.antt has it of a book with weights.
use Rattle.std.proofs.Math.Path.{refl}
use Rattle.std.specs.Prelude.{List, [], ℕ, ◌≤◌, Float, length}
use Rattle.std.proofs.Common.{arith}
use Rattle.basis.specs.Sizes.{max_samples}
use Rattle.book.specs.Refusals.{open_refusal, correct_refusal, withdraw_refusal}
use Rattle.book.specs.RefusalLaws.{correct_room, withdraw_room}
use Rattle.two_column.specs.declared.Pair.{Pair}
use Rattle.two_column.specs.Pairs.{Columns, columns as columns_of, lengths}
use Rattle.two_column.specs.Refusals.{frame_pairs, add_refusal, frame_refusal}
use Rattle.two_column.specs.RefusalLaws.{add_room, frame_room}
use Rattle.two_column.specs.Calls.{Out, refused, State, state_of, add_next, add_many, open_out, add_out, correct_out, withdraw_out, add_frame_out}
use Rattle.capi.specs.Packed.{BookFits}
use Rattle.capi.specs.Fitting.{settled_fits, after_fits, many_fit}

pub open_fits : (sums : List Float) → BookFits (open_out sums).answer
unfolding open_out BookFits
open_fits sums =
    let r = open_refusal (length sums) in
    settled_fits (λ (o : Out). o.answer) r _ (refused r (columns_of [] []) sums) refl (λ e. omega arith)

module _ (n : ℕ) (columns : Columns) (sums : List Float) where
  pub add_fits : (p : Pair) → BookFits (add_out n p columns sums).answer
  unfolding add_out BookFits
  add_fits p =
      let r = add_refusal n p (lengths columns) (length sums) in
      settled_fits (λ (o : Out). o.answer) r _ (refused r columns sums) refl
      (λ e. (add_room n (lengths columns) (length sums) p e).0.most)

  pub correct_fits : (i : ℕ) (y : Float) → BookFits (correct_out n i y columns sums).answer
  unfolding correct_out BookFits
  correct_fits i y =
      let r = correct_refusal n i y (lengths columns) (length sums) in
      settled_fits (λ (o : Out). o.answer) r _ (refused r columns sums) refl
      (λ e. (correct_room n (lengths columns) (length sums) i y e).0.most)

  pub withdraw_fits : (i : ℕ) → BookFits (withdraw_out n i columns sums).answer
  unfolding withdraw_out BookFits
  withdraw_fits i =
      let r = withdraw_refusal n i (lengths columns) (length sums) in
      settled_fits (λ (o : Out). o.answer) r _ (refused r columns sums) refl
      (λ e. omega (arith, (withdraw_room n (lengths columns) (length sums) i e).0.most))

add_next_fits : (s : State) (p : Pair) → s.count ≤ max_samples → (add_next s p).count ≤ max_samples
add_next_fits s p h = after_fits s.count _ h (add_fits s.count s.columns s.sums p)

adds_fit : (ps : List Pair) (s : State) → s.count ≤ max_samples → (add_many ps s).count ≤ max_samples
unfolding add_many
adds_fit ps s h = many_fit (λ (s : State). s.count) add_next add_next_fits ps s h

pub frame_fits : (n : ℕ) (columns : Columns) (sums : List Float) (f : List ℕ) → BookFits (add_frame_out n f columns sums).answer
unfolding add_frame_out BookFits
frame_fits n columns sums f =
    let r = frame_refusal n f (lengths columns) (length sums) in
    settled_fits (λ (o : Out). o.answer) r _ (refused r columns sums) refl
    (λ e. adds_fit (frame_pairs f) (state_of n columns sums) (omega (arith, (frame_room n (lengths columns) (length sums) f e).0.most)))
