-- A two-column book seen as one with weights: beside its columns stands a third that holds 1 everywhere. Each call on the one leaves and answers what its
-- call at weight 1 does on the other.
use mathlib.Core.Path.{◌≡◌, refl, sym, ap, ap₂, fun_ext, ◌∙◌}
use mathlib.Core.Logic.{◌⊎◌, inl, inr}
use mathlib.Core.Bool.{Bool, true, false, cond, ◌&&◌}
use mathlib.Core.List.{List, [], ◌∷◌, ◌++◌, map, map-map, map-append}
use Prim.Native.Nat.{ℕ, zero, suc, ◌+◌, ◌-◌, ◌≤◌, ◌<◌}
use native.Mathlib.Omega.{arith}
use lib.ListN.{length, get_or, set, take, drop, replicate, length-replicate, get_or-replicate, replicate-append-replicate, length-map}
use lib.Ieee.{Float, nan, lt, of_bits}
use Rattle.loops.specs.Fold.{fold}
use Rattle.loops.specs.FoldLaws.{fold_map}
use Rattle.loops.specs.PlaceLaws.{table_same, map_table}
use Rattle.value.specs.Finite.{finite}
use Rattle.value.specs.Numbers.{one_f, zero_f}
use Rattle.samples.specs.Columns.{Column, of_x, of_y, of_w, value, sample_at, samples_of, with_y}
use Rattle.samples.specs.Columns as three
use Rattle.monomial.specs.Rows.{weighted_rows}
use Rattle.monomial.specs.Sums.{sums_of}
use Rattle.monomial.specs.Plain.{plain_sums}
use Rattle.refusal.specs.Refusals.{first_of, settle}
use Rattle.refusal.specs.Tests.{capacity, sample_finite, all_finite, weight_above, all_above}
use Rattle.frame.specs.Bytes.{word}
use Rattle.frame.specs.Frame.{wrong_length, wrong_version, decode}
use Rattle.frame.specs.Laws.{neither_test}
use Rattle.frame.specs.Plain.{plain_refusal, plain_length, plain_version}
use Rattle.frame.specs.PlainLaws.{plain_sound, plain_neither, plain_number, plain_weights}
use Rattle.loops.specs.Digits.{number}
use Rattle.book.specs.Refusals as weighted
use Rattle.book.specs.RefusalLaws.{correct_room, withdraw_room}
use Rattle.lent.specs.Gaps.{without_at}
use Rattle.book.specs.Calls as book
use Rattle.ledger.specs.Ledger as whole
use Rattle.two_column.specs.declared.Pair.{Pair}
use Rattle.two_column.specs.Pairs.{pair_of, pair_rows, at_weight_one, Columns, lengths, pairs_of, with_pair, with_new_y}
use Rattle.two_column.specs.PairLaws.{add_pair, sums_of_pairs}
use Rattle.two_column.specs.Refusals.{pair_finite, pairs_finite, frame_pairs, add_refusal, frame_refusal}
use Rattle.two_column.specs.RefusalLaws.{capacity_two, short_two, room_two, frame_room}
use Rattle.two_column.specs.Calls.{Out, refused, add_out, correct_out, withdraw_out, without_pair, add_frame_out, State, state_of, add_next, add_many}
use Rattle.two_column.specs.Ledger.{Change, adds, corrects, withdraws, frames, out_of, new_y, changed, refusal_of}

-- ---- a column of ones

unfoldable pub places : ℕ
places = 4096

pub places_are : places ≡ 4096
unfolding places
places_are = refl

abbrev pub ones : List Float
ones = replicate places one_f

set_same : (m n : ℕ) (a : Float) → set (replicate m a) n a ≡ replicate m a
set_same zero n a = refl
set_same (suc m) zero a = refl
set_same (suc m) (suc n) a = ap (λ l. a ∷ l) (set_same m n a)

take_same : (k m : ℕ) (a : Float) → k ≤ m → take k (replicate m a) ≡ replicate k a
take_same zero m a h = refl
take_same (suc k) zero a h = absurd (omega arith)
take_same (suc k) (suc m) a h = ap (λ l. a ∷ l) (take_same k m a (omega arith))

drop_same : (k m : ℕ) (a : Float) → k ≤ m → drop k (replicate m a) ≡ replicate (m - k) a
drop_same zero m a h = let e : m ≡ m - 0 = omega arith in ap (λ j. replicate j a) e
drop_same (suc k) zero a h = absurd (omega arith)
drop_same (suc k) (suc m) a h = let e : m - k ≡ suc m - suc k = omega arith in drop_same k m a (omega arith) ∙ ap (λ j. replicate j a) e

without_same : (i n m : ℕ) (a : Float) → i < n → n ≤ m → without_at i n (replicate m a) ≡ replicate m a
unfolding without_at
without_same i n m a h g =
    let k = n - 1 - i in
    let whole : i + k + (m - (i + k)) ≡ m = omega arith in
    ap₂ (λ u v. u ++ v ++ drop (i + k) (replicate m a)) (take_same i m a (omega arith))
    (ap (take k) (drop_same (i + 1) m a (omega arith)) ∙ take_same k (m - (i + 1)) a (omega arith))
    ∙ ap₂ (λ u v. u ++ v) (replicate-append-replicate i k a) (drop_same (i + k) m a (omega arith))
    ∙ replicate-append-replicate (i + k) (m - (i + k)) a
    ∙ ap (λ j. replicate j a) whole

-- ---- the book with weights

abbrev pub with_ones : Columns → three.Columns
with_ones c of_x = c.xs
with_ones c of_y = c.ys
with_ones c of_w = ones

abbrev pub weighted_state : State → book.State
weighted_state s = book.state_of s.count (with_ones s.columns) s.sums

abbrev weighted_out : Out → book.Out
weighted_out o = record { answer = o.answer; columns = with_ones o.columns; sums = o.sums }

-- the samples that it holds
samples_at_one : (n : ℕ) (c : Columns) → n ≤ 4096 → samples_of n (with_ones c) ≡ map at_weight_one (pairs_of n c)
unfolding samples_of pairs_of
samples_at_one n c h =
    table_same (sample_at (with_ones c)) (λ t. at_weight_one (record { x = get_or c.xs t nan; y = get_or c.ys t nan })) n
    (λ t q. λ i. record { x = get_or c.xs t nan; y = get_or c.ys t nan; w = get_or-replicate places t one_f nan (omega (arith, q, h, places_are)) i })
    ∙ map_table at_weight_one (λ t. record { x = get_or c.xs t nan; y = get_or c.ys t nan }) n

sums_at_columns : (n : ℕ) (c : Columns) → n ≤ 4096 → sums_of (weighted_rows (samples_of n (with_ones c))) ≡ plain_sums (pair_rows (pairs_of n c))
sums_at_columns n c h = ap (λ l. sums_of (weighted_rows l)) (samples_at_one n c h) ∙ sums_of_pairs (pairs_of n c)

-- ---- refusals

one_finite : finite one_f ≡ true
unfolding finite of_bits
one_finite = refl

one_above : lt zero_f one_f ≡ true
unfolding lt of_bits
one_above = refl

and_true : (b : Bool) → (b && true) ≡ b
and_true true = refl
and_true false = refl

finite_one : (p : Pair) → sample_finite (at_weight_one p) ≡ pair_finite p
finite_one p = ap (λ b. pair_finite p && b) one_finite ∙ and_true (pair_finite p)

finite_ones : (ps : List Pair) → all_finite (map at_weight_one ps) ≡ pairs_finite ps
finite_ones ps =
    fold_map (λ b p. b && sample_finite p) at_weight_one true ps
    ∙ ap (λ (f : Bool → Pair → Bool). fold f true ps) (fun_ext (λ (b : Bool). fun_ext (λ (p : Pair). ap (λ t. b && t) (finite_one p))))

above_ones : (ps : List Pair) → all_above (map at_weight_one ps) ≡ true
unfolding fold
above_ones [] = refl
above_ones (p ∷ ps) = ap (λ b. fold (λ c q. c && weight_above q) b (map at_weight_one ps)) one_above ∙ above_ones ps

-- a frame of version 1 has its pairs at weight 1
pub frame_at_one : (f : List ℕ) → plain_refusal f ≡ 0 → decode f ≡ map at_weight_one (frame_pairs f)
frame_at_one f e = plain_weights f (plain_sound f e).1 ∙ sym (map-map at_weight_one pair_of (decode f))

-- Any other frame is refused by 2 or 3, whatever it holds: for it stands a frame that a book with weights refuses alike.
abbrev stand_in : List ℕ → ℕ → List ℕ
stand_in f zero = f
stand_in f (suc zero) = []
stand_in f (suc (suc zero)) = []
stand_in f (suc (suc (suc k))) = 0 ∷ 1 ∷ 3 ∷ []

abbrev pub weighted_change : Change → whole.Change
weighted_change (adds p) = whole.adds (at_weight_one p)
weighted_change (corrects i y) = whole.corrects i y
weighted_change (withdraws i) = whole.withdraws i
weighted_change (frames f) = whole.frames (stand_in f (plain_refusal f))

module _ (n : ℕ) (columns two : List ℕ) (sums : ℕ) (same : capacity columns ≡ capacity two) (f : List ℕ) where
  sound_frame : (plain_length f ≡ false) × (plain_version f ≡ false) → (wrong_length f ≡ false) × (wrong_version f ≡ false) → decode f ≡ map at_weight_one (frame_pairs f)
      → weighted.frame_add_refusal n f columns sums ≡ frame_refusal n f two sums
  unfolding weighted.frame_add_refusal frame_refusal first_of
  sound_frame p q e =
      let t : all_finite (decode f) ≡ pairs_finite (frame_pairs f) = ap all_finite e ∙ finite_ones (frame_pairs f) in
      let a : all_above (decode f) ≡ true = ap all_above e ∙ above_ones (frame_pairs f) in
      let l : length (decode f) ≡ length (frame_pairs f) = sym (length-map (decode f) pair_of) in
      rw (short_two n sums columns two same, p.0, p.1, q.0, q.1, t, a, l, room_two n (length (frame_pairs f)) columns two same) refl

  wrong_length_lem : plain_refusal f ≡ 2 → weighted.frame_add_refusal n [] columns sums ≡ frame_refusal n f two sums
  unfolding weighted.frame_add_refusal frame_refusal first_of plain_refusal
  wrong_length_lem = go (plain_length f) (plain_version f) refl
    where
      go : (a b : Bool) → plain_length f ≡ a → ◌≡◌ {A = ℕ} (cond a 2 (cond b 3 0)) 2 → weighted.frame_add_refusal n [] columns sums ≡ frame_refusal n f two sums
      go true b p z = rw (short_two n sums columns two same, p) refl
      go false true p z = absurd (omega arith)
      go false false p z = absurd (omega arith)

  wrong_version_lem : plain_refusal f ≡ 3 → weighted.frame_add_refusal n (0 ∷ 1 ∷ 3 ∷ []) columns sums ≡ frame_refusal n f two sums
  unfolding weighted.frame_add_refusal frame_refusal first_of plain_refusal word number fold
  wrong_version_lem = go (plain_length f) (plain_version f) refl refl
    where
      go : (a b : Bool) → plain_length f ≡ a → plain_version f ≡ b → ◌≡◌ {A = ℕ} (cond a 2 (cond b 3 0)) 3
          → weighted.frame_add_refusal n (0 ∷ 1 ∷ 3 ∷ []) columns sums ≡ frame_refusal n f two sums
      go true b p q z = absurd (omega arith)
      go false true p q z = rw (short_two n sums columns two same, p, q) refl
      go false false p q z = absurd (omega arith)

module _ (n : ℕ) (columns two : List ℕ) (sums : ℕ) (same : capacity columns ≡ capacity two) where
  add_refusal_lem : (p : Pair) → weighted.add_refusal n (at_weight_one p) columns sums ≡ add_refusal n p two sums
  unfolding weighted.add_refusal add_refusal first_of
  add_refusal_lem p = rw (short_two n sums columns two same, room_two n 1 columns two same, finite_one p, one_above) refl

  correct_refusal_lem : (i : ℕ) (y : Float) → weighted.correct_refusal n i y columns sums ≡ weighted.correct_refusal n i y two sums
  unfolding weighted.correct_refusal first_of
  correct_refusal_lem i y = rw (short_two n sums columns two same) refl

  withdraw_refusal_lem : (i : ℕ) → weighted.withdraw_refusal n i columns sums ≡ weighted.withdraw_refusal n i two sums
  unfolding weighted.withdraw_refusal first_of
  withdraw_refusal_lem i = rw (short_two n sums columns two same) refl

  frame_refusal_lem : (f : List ℕ) → weighted.frame_add_refusal n (stand_in f (plain_refusal f)) columns sums ≡ frame_refusal n f two sums
  frame_refusal_lem f = go (plain_number f)
    where
      let_through : plain_refusal f ≡ 0 → weighted.frame_add_refusal n f columns sums ≡ frame_refusal n f two sums
      let_through z = sound_frame n columns two sums same f (plain_neither f z) (neither_test f (plain_sound f z).0) (frame_at_one f z)

      go : (plain_refusal f ≡ 0) ⊎ ((plain_refusal f ≡ 2) ⊎ (plain_refusal f ≡ 3))
          → weighted.frame_add_refusal n (stand_in f (plain_refusal f)) columns sums ≡ frame_refusal n f two sums
      go (inl z) = rw z (let_through z)
      go (inr (inl z)) = rw z (wrong_length_lem n columns two sums same f z)
      go (inr (inr z)) = rw z (wrong_version_lem n columns two sums same f z)

-- the refusal of any call, where the third column bounds nothing
pub refusal_at_one : (n : ℕ) (columns two : List ℕ) (sums : ℕ) → capacity columns ≡ capacity two → (c : Change)
    → whole.refusal_of (record { columns = columns; sums = sums }) n (weighted_change c) ≡ refusal_of (record { columns = two; sums = sums }) n c
unfolding whole.refusal_of refusal_of
refusal_at_one n columns two sums same (adds p) = add_refusal_lem n columns two sums same p
refusal_at_one n columns two sums same (corrects i y) = correct_refusal_lem n columns two sums same i y
refusal_at_one n columns two sums same (withdraws i) = withdraw_refusal_lem n columns two sums same i
refusal_at_one n columns two sums same (frames f) = frame_refusal_lem n columns two sums same f

-- ---- what a call leaves

lent_ones : (c : Columns) → capacity (three.lengths (with_ones c)) ≡ capacity (lengths c)
lent_ones c = ap (λ k. capacity (length c.xs ∷ length c.ys ∷ k ∷ [])) (length-replicate places one_f ∙ places_are) ∙ capacity_two (length c.xs) (length c.ys)

settled : (k l : ℕ) (c : Columns) (sums : List Float) (good : Out) (heavy : book.Out) → k ≡ l → (l ≡ 0 → heavy ≡ weighted_out good)
    → settle k heavy (book.refused k (with_ones c) sums) ≡ weighted_out (settle l good (refused l c sums))
settled k l c sums good heavy e h = rw e (go l h)
  where
    go : (l : ℕ) → (l ≡ 0 → heavy ≡ weighted_out good) → settle l heavy (book.refused l (with_ones c) sums) ≡ weighted_out (settle l good (refused l c sums))
    go zero h = h refl
    go (suc l) h = refl

module _ (n : ℕ) (c : Columns) (sums : List Float) where
  add_at_one : (p : Pair) → book.add_out n (at_weight_one p) (with_ones c) sums ≡ weighted_out (add_out n p c sums)
  unfolding book.add_out add_out
  add_at_one p =
      settled _ _ c sums _ _
      (add_refusal_lem n (three.lengths (with_ones c)) (lengths c) (length sums) (lent_ones c) p)
      (λ z. λ i. record { answer = book.book_of (n + 1); columns = new i; sums = add_pair sums p i })
    where
      new : (λ k. set (with_ones c k) n (value k (at_weight_one p))) ≡ with_ones (with_pair n p c)
      new = fun_ext (elim [ of_x ↦ refl | of_y ↦ refl | of_w ↦ set_same places n one_f ])

  correct_at_one : (i : ℕ) (y : Float) → book.correct_out n i y (with_ones c) sums ≡ weighted_out (correct_out n i y c sums)
  unfolding book.correct_out correct_out
  correct_at_one i y =
      settled _ _ c sums _ _
      (correct_refusal_lem n (three.lengths (with_ones c)) (lengths c) (length sums) (lent_ones c) i y)
      (λ z.
      let most = (correct_room n (lengths c) (length sums) i y z).0.most in
      let s = ap (λ d. sums_of (weighted_rows (samples_of n d))) new ∙ sums_at_columns n (with_new_y i y c) (omega (arith, most)) in
      λ j. record { answer = book.book_of n; columns = new j; sums = take 256 sums ++ (drop 256 (s j) ++ drop 272 sums) })
    where
      new : with_y i y (with_ones c) ≡ with_ones (with_new_y i y c)
      new = fun_ext (elim [ of_x ↦ refl | of_y ↦ refl | of_w ↦ refl ])

  withdraw_at_one : (i : ℕ) → book.withdraw_out n i (with_ones c) sums ≡ weighted_out (withdraw_out n i c sums)
  unfolding book.withdraw_out withdraw_out
  withdraw_at_one i =
      settled _ _ c sums _ _
      (withdraw_refusal_lem n (three.lengths (with_ones c)) (lengths c) (length sums) (lent_ones c) i)
      (λ z.
      let r = withdraw_room n (lengths c) (length sums) i z in
      let new = left r.1 (omega (arith, r.0.most, places_are)) in
      let s = ap (λ d. sums_of (weighted_rows (samples_of (n - 1) d))) new ∙ sums_at_columns (n - 1) (without_pair i n c) (omega (arith, r.0.most)) in
      λ j. record { answer = book.book_of (n - 1); columns = new j; sums = s j ++ drop 272 sums })
    where
      left : i < n → n ≤ places → (λ k. without_at i n (with_ones c k)) ≡ with_ones (without_pair i n c)
      left h g = fun_ext (elim [ of_x ↦ refl | of_y ↦ refl | of_w ↦ without_same i n places one_f h g ])

-- many adds
adds_at_one : (ps : List Pair) (s : State) → book.add_many (map at_weight_one ps) (weighted_state s) ≡ weighted_state (add_many ps s)
unfolding book.add_many add_many fold
adds_at_one [] s = refl
adds_at_one (p ∷ ps) s =
    ap (λ (t : book.State). fold book.add_next t (map at_weight_one ps)) (ap (book.state_after s.count) (add_at_one s.count s.columns s.sums p))
    ∙ adds_at_one ps (add_next s p)

frame_out : (n : ℕ) (c : Columns) (sums : List Float) (f : List ℕ)
    → book.add_frame_out n (stand_in f (plain_refusal f)) (with_ones c) sums ≡ weighted_out (add_frame_out n f c sums)
unfolding book.add_frame_out add_frame_out
frame_out n c sums f =
    settled _ _ c sums _ _
    (frame_refusal_lem n (three.lengths (with_ones c)) (lengths c) (length sums) (lent_ones c) f)
    (λ z.
    let e = (frame_room n (lengths c) (length sums) f z).1 in
    let same : decode (stand_in f (plain_refusal f)) ≡ map at_weight_one (frame_pairs f) = ap (λ k. decode (stand_in f k)) e ∙ frame_at_one f e in
    ap book.book_answered (ap (λ l. book.add_many l (weighted_state (state_of n c sums))) same ∙ adds_at_one (frame_pairs f) (state_of n c sums)))

pub out_at_one : (s : State) (c : Change) → whole.out_of (weighted_state s) (weighted_change c) ≡ weighted_out (out_of s c)
unfolding whole.out_of out_of
out_at_one s (adds p) = add_at_one s.count s.columns s.sums p
out_at_one s (corrects i y) = correct_at_one s.count s.columns s.sums i y
out_at_one s (withdraws i) = withdraw_at_one s.count s.columns s.sums i
out_at_one s (frames f) = frame_out s.count s.columns s.sums f

-- ---- the ledger

new_at_one : (l : List Pair) (i : ℕ) (y : Float) → whole.new_y (map at_weight_one l) i y ≡ map at_weight_one (new_y l i y)
unfolding whole.new_y new_y
new_at_one [] i y = refl
new_at_one (p ∷ l) zero y = refl
new_at_one (p ∷ l) (suc i) y = ap (λ r. at_weight_one p ∷ r) (new_at_one l i y)

taken_at_one : (k : ℕ) (l : List Pair) → take k (map at_weight_one l) ≡ map at_weight_one (take k l)
taken_at_one zero l = refl
taken_at_one (suc k) [] = refl
taken_at_one (suc k) (p ∷ l) = ap (λ r. at_weight_one p ∷ r) (taken_at_one k l)

dropped_at_one : (k : ℕ) (l : List Pair) → drop k (map at_weight_one l) ≡ map at_weight_one (drop k l)
dropped_at_one zero l = refl
dropped_at_one (suc k) [] = refl
dropped_at_one (suc k) (p ∷ l) = dropped_at_one k l

-- a call that is not refused changes both ledgers alike
pub changed_at_one : (m two : whole.Lent) (n : ℕ) (l : List Pair) (c : Change) → refusal_of two n c ≡ 0
    → whole.changed m (map at_weight_one l) (weighted_change c) ≡ map at_weight_one (changed l c)
unfolding whole.changed changed refusal_of
changed_at_one m two n l (adds p) z = sym (map-append at_weight_one l (p ∷ []))
changed_at_one m two n l (corrects i y) z = new_at_one l i y
changed_at_one m two n l (withdraws i) z =
    ap₂ (λ u v. u ++ v) (taken_at_one i l) (dropped_at_one (i + 1) l) ∙ sym (map-append at_weight_one (take i l) (drop (i + 1) l))
changed_at_one m two n l (frames f) z =
    let e = (frame_room n two.columns two.sums f z).1 in
    ap (λ k. map at_weight_one l ++ decode (stand_in f k)) e ∙ ap (λ r. map at_weight_one l ++ r) (frame_at_one f e) ∙ sym (map-append at_weight_one l (frame_pairs f))
