-- No call on a book changes the length of a column or of the sums, refused or not and whatever the book holds.
use mathlib.Core.Path.{◌≡◌, refl, ◌∙◌}
use mathlib.Core.Bool.{Bool, true, false, cond}
use mathlib.Core.List.{List, [], ◌∷◌, ◌++◌}
use Prim.Native.Nat.{ℕ, zero, suc, ◌-◌, ◌≤◌}
use native.Mathlib.Omega.{arith}
use lib.Dec.{eqb}
use lib.ListN.{length, take, drop, replicate, length-set, length-append, length-drop, length-replicate}
use lib.Seq.{length-take-le}
use lib.Ieee.{Float}
use Rattle.loops.specs.Fold.{fold}
use Rattle.value.specs.Numbers.{one_f}
use Rattle.samples.specs.declared.Sample.{Sample}
use Rattle.samples.specs.Columns.{Column, of_x, of_y, of_w, lengths, samples_of, with_y, no_columns}
use Rattle.samples.specs.ColumnLaws.{of_every}
use Rattle.monomial.specs.Rows.{weighted_rows}
use Rattle.monomial.specs.Sums.{sums_of}
use Rattle.monomial.specs.SumLaws.{length_sums, length_add_row}
use Rattle.lent.specs.Gaps.{without_at}
use Rattle.lent.specs.GapLaws.{length_without}
use Rattle.frame.specs.Frame.{decode}
use Rattle.decimal.specs.Lines.{read_lines}
use Rattle.refusal.specs.Refusals.{settle}
use Rattle.refusal.specs.Tests.{capacity}
use Rattle.book.specs.Refusals.{open_refusal, add_refusal, correct_refusal, withdraw_refusal, frame_add_refusal, lines_add_refusal}
use Rattle.book.specs.RefusalLaws.{open_room, correct_room, withdraw_room}
use Rattle.book.specs.Calls.{Out, State, state_of, state_after, book_of, refused, open_out, add_out, correct_out, withdraw_out, add_next, add_many, add_frame_out, add_lines_out}
use Rattle.book.specs.Window.{window_refusal, with_place, window_out}
use Rattle.carried.specs.Carry.{carry_refusal, carry_out}
use Rattle.carried.specs.CarryLaws.{carry_room}
use Rattle.ledger.specs.Ledger.{Change, adds, corrects, withdraws, frames, texts, windows, out_of}
use Rattle.season.specs.Changes.{opens, carries}
use Rattle.seasons.specs.Calls.{StakeChange, changing, opening, carrying, out_by}

-- b and c are equally long
pub record Long (b c : State) : Type 0 where
  pub columns : (k : Column) → length (c.columns k) ≡ length (b.columns k)
  pub sums : length c.sums ≡ length b.sums

-- what a call leaves, whatever it answers
abbrev left_by : Out → State
left_by o = state_of 0 o.columns o.sums

same_long : (b : State) → Long b b
same_long b = record { columns = λ k. refl; sums = refl }

then : {b c d : State} → Long b c → Long c d → Long b d
then f g = record { columns = λ k. g.columns k ∙ f.columns k; sums = g.sums ∙ f.sums }

-- a refusal leaves all as it was
settled : (k : ℕ) (b : State) (good : Out) → (k ≡ 0 → Long b (left_by good)) → Long b (left_by (settle k good (refused k b.columns b.sums)))
settled zero b good h = h refl
settled (suc k) b good h = record { columns = λ c. refl; sums = refl }

-- 272 sums afresh
afresh : (l s : List Float) → length l ≡ 272 → 272 ≤ length s → length (l ++ drop 272 s) ≡ length s
afresh l s e h = simp (length-append, length-drop) (omega (arith, e, h))

afresh_right : (l s : List Float) → length l ≡ 272 → 272 ≤ length s → length (take 256 s ++ (drop 256 l ++ drop 272 s)) ≡ length s
afresh_right l s e h =
    let front = length-take-le 256 s (omega arith) in
    simp (length-append, length-drop) (omega (arith, e, h, front))

-- ---- the calls

long_add : (b : State) (p : Sample) → Long b (left_by (add_out b.count p b.columns b.sums))
unfolding add_out
long_add b p =
    settled (add_refusal b.count p (lengths b.columns) (length b.sums)) b _
    (λ z. record { columns = λ k. length-set (b.columns k) b.count _; sums = length_add_row b.sums _ })

long_next : (b : State) (p : Sample) → Long b (add_next b p)
long_next b p = let h = long_add b p in record { columns = h.columns; sums = h.sums }

long_many : (ps : List Sample) (b : State) → Long b (add_many ps b)
unfolding add_many fold
long_many [] b = same_long b
long_many (p ∷ ps) b = then (long_next b p) (long_many ps (add_next b p))

long_correct : (b : State) (i : ℕ) (y : Float) → Long b (left_by (correct_out b.count i y b.columns b.sums))
unfolding correct_out
long_correct b i y =
    settled (correct_refusal b.count i y (lengths b.columns) (length b.sums)) b _
    (λ z.
    let r = correct_room b.count (lengths b.columns) (length b.sums) i y z in
    let rows = weighted_rows (samples_of b.count (with_y i y b.columns)) in
    record {
      columns = elim [ of_x ↦ refl | of_y ↦ length-set (b.columns of_y) i y | of_w ↦ refl ];
      sums = afresh_right (sums_of rows) b.sums (length_sums rows) r.0.enough.0;
    })

long_withdraw : (b : State) (i : ℕ) → Long b (left_by (withdraw_out b.count i b.columns b.sums))
unfolding withdraw_out
long_withdraw b i =
    settled (withdraw_refusal b.count i (lengths b.columns) (length b.sums)) b _
    (λ z.
    let r = withdraw_room b.count (lengths b.columns) (length b.sums) i z in
    let rows = weighted_rows (samples_of (b.count - 1) (λ k. without_at i b.count (b.columns k))) in
    record {
      columns = λ k. length_without i b.count (b.columns k) r.1 (of_every (λ l. b.count ≤ l) b.columns r.0.within k);
      sums = afresh (sums_of rows) b.sums (length_sums rows) r.0.enough.0;
    })

long_frame : (b : State) (f : List ℕ) → Long b (left_by (add_frame_out b.count f b.columns b.sums))
unfolding add_frame_out
long_frame b f =
    settled (frame_add_refusal b.count f (lengths b.columns) (length b.sums)) b _
    (λ z. let h = long_many (decode f) b in record { columns = h.columns; sums = h.sums })

long_lines : (b : State) (t : List ℕ) → Long b (left_by (add_lines_out b.count t b.columns b.sums))
unfolding add_lines_out
long_lines b t =
    settled (lines_add_refusal b.count t (lengths b.columns) (length b.sums)) b _
    (λ z. let h = long_many (read_lines t) b in record { columns = h.columns; sums = h.sums })

long_place : (b : State) → Long b (with_place b)
unfolding with_place
long_place b = go (eqb b.count (capacity (lengths b.columns)))
  where
    go : (t : Bool) → Long b (cond t (state_after b.count (withdraw_out b.count 0 b.columns b.sums)) b)
    go true = let h = long_withdraw b 0 in record { columns = h.columns; sums = h.sums }
    go false = same_long b

long_window : (b : State) (p : Sample) → Long b (left_by (window_out b.count p b.columns b.sums))
unfolding window_out
long_window b p =
    settled (window_refusal b.count p (lengths b.columns) (length b.sums)) b _
    (λ z. let h = then (long_place b) (long_next (with_place b) p) in record { columns = h.columns; sums = h.sums })

long_change : (b : State) (c : Change) → Long b (left_by (out_of b c))
unfolding out_of
long_change b (adds p) = long_add b p
long_change b (corrects i y) = long_correct b i y
long_change b (withdraws i) = long_withdraw b i
long_change b (frames f) = long_frame b f
long_change b (texts t) = long_lines b t
long_change b (windows p) = long_window b p

long_open : (b : State) → Long b (left_by (opens b))
unfolding open_out
long_open b = go (open_refusal (length b.sums)) refl
  where
    go : (k : ℕ) → open_refusal (length b.sums) ≡ k
        → Long b
        (state_of 0 b.columns
        (settle {A = Out} k (record { answer = book_of 0; columns = no_columns; sums = sums_of [] ++ drop 272 b.sums }) (refused k no_columns b.sums)).sums)
    go zero e = record { columns = λ k. refl; sums = afresh (sums_of []) b.sums (length_sums []) (open_room (length b.sums) e) }
    go (suc k) e = record { columns = λ k. refl; sums = refl }

long_carry : (b : State) → Long b (left_by (carries b))
unfolding carry_out
long_carry b =
    settled (carry_refusal b.count (lengths b.columns) (length b.sums)) b _
    (λ z.
    let r = carry_room b.count (lengths b.columns) (length b.sums) z in
    let h : b.count ≤ length (b.columns of_w) = of_every (λ l. b.count ≤ l) b.columns r.within of_w in
    record {
      columns =
          elim [
            | of_x ↦ refl
            | of_y ↦ refl
            | of_w ↦ length-append (replicate b.count one_f) (drop b.count (b.columns of_w))
                ∙ omega (arith, length-replicate b.count one_f, length-drop b.count (b.columns of_w), h)
          ];
      sums = refl;
    })

-- every call
pub long_by : (c : StakeChange) (b : State) → Long b (state_after b.count (out_by c b))
unfolding out_by
long_by (changing c) b = let h = long_change b c in record { columns = h.columns; sums = h.sums }
long_by opening b = let h = long_open b in record { columns = h.columns; sums = h.sums }
long_by carrying b = let h = long_carry b in record { columns = h.columns; sums = h.sums }
