-- What a withdrawal that is not refused leaves, and the place that it makes in a full window book.
use mathlib.Core.Path.{◌≡◌, refl, sym, ap, subst, ◌∙◌}
use mathlib.Core.Bool.{Bool, true, false, cond}
use mathlib.Core.List.{List, ◌++◌}
use Prim.Native.Nat.{ℕ, ◌+◌, ◌-◌, ◌≤◌, ◌<◌}
use native.Mathlib.Omega.{arith}
use borrow.Author.Tests.{lt-leb, eqb-true, eqb-false}
use lib.Dec.{eqb}
use lib.ListN.{length, set, drop, length-append}
use lib.Ieee.{Float}
use Rattle.loops.specs.Cases.{either}
use Rattle.basis.specs.declared.Basis.TheVariants.{Curve}
use Rattle.samples.specs.declared.Sample.{Sample}
use Rattle.monomial.specs.Rows.{weighted_of, weighted_rows, weighted_rows_at}
use Rattle.monomial.specs.RowLaws.{curve_weighted}
use Rattle.monomial.specs.Sums.{add_row, sums_of}
use Rattle.monomial.specs.SumLaws.{length_sums}
use Rattle.refusal.specs.Refusals.{first_of}
use Rattle.refusal.specs.Rooms.{Room}
use Rattle.refusal.specs.RoomLaws.{room_of, long_enough}
use Rattle.refusal.specs.Tests.{capacity}
use Rattle.samples.specs.Columns.{Column, of_x, of_y, of_w, value, Columns, columns_of, lengths, samples_of}
use Rattle.samples.specs.ColumnLaws.{of_every, lengths_same, columns_are}
use Rattle.book.specs.Refusals.{withdraw_refusal, sums_lent}
use Rattle.lent.specs.Gaps.{without_at}
use Rattle.lent.specs.GapLaws.{length_without}
use Rattle.book.specs.Calls.{State, state_of, state_after, Is, book_of, book_answered, add_next, withdraw_out}
use Rattle.book.specs.CallLaws.{is_answered}
use Rattle.book.specs.Many.{added, RoomFor}
use Rattle.book.specs.ManyLaws.{one_added}
use Rattle.book.specs.Window.{window_refusal, with_place}
use Rattle.book.specs.WindowLaws.{window_room}

-- sample i goes
abbrev pub withdrawn : State → ℕ → State
withdrawn s i =
    let c : Column → List Float = λ k. without_at i s.count (s.columns k) in
    record { count = s.count - 1; columns = c; sums = sums_of (weighted_rows (samples_of (s.count - 1) c)) ++ drop 272 s.sums }

module _ (s : State) (room : Room s.count (lengths s.columns) (sums_lent (length s.sums))) where
  same_long : (i : ℕ) → i < s.count → (k : Column) → length ((withdrawn s i).columns k) ≡ length (s.columns k)
  same_long i h k = length_without i s.count (s.columns k) h (of_every (λ l. s.count ≤ l) s.columns room.within k)

  still_long : (i : ℕ) → 272 ≤ length (withdrawn s i).sums
  still_long i =
      let rows = weighted_rows (samples_of (s.count - 1) (withdrawn s i).columns) in
      omega (arith, length-append (sums_of rows) (drop 272 s.sums), length_sums rows)

  pub withdraw_taken : (i : ℕ) → i < s.count → state_after s.count (withdraw_out s.count i s.columns s.sums) ≡ withdrawn s i
  unfolding withdraw_out withdraw_refusal first_of
  withdraw_taken i h = rw (long_enough s.count (lengths s.columns) (sums_lent (length s.sums)) room, lt-leb s.count i h)

  -- it is what `take_out` leaves
  pub taken_out : (i : ℕ) (xs ys ws t : List Float) → i < s.count → xs ≡ without_at i s.count (s.columns of_x) → ys ≡ without_at i s.count (s.columns of_y)
      → ws ≡ without_at i s.count (s.columns of_w) → t ≡ sums_of (weighted_rows_at Curve (s.count - 1) xs xs ys ws) ++ drop 272 s.sums
      → state_of (s.count - 1) (columns_of xs ys ws) t ≡ withdrawn s i
  taken_out i xs ys ws t h a b c e =
      let now = columns_are {c = (withdrawn s i).columns} a b c in
      let long = ap length c ∙ same_long i h of_w in
      let rows = curve_weighted (s.count - 1) xs xs ys ws (omega (arith, long, room.within.1.1.0)) ∙ ap (λ d. weighted_rows (samples_of (s.count - 1) d)) now in
      let sums = e ∙ ap (λ r. sums_of r ++ drop 272 s.sums) rows in
      λ j. state_of (s.count - 1) (now j) (sums j)

  module _ (some : 0 < capacity (lengths s.columns)) where
    -- a full book loses sample 0, and then there is a place
    pub place_made : with_place s ≡ cond (eqb s.count (capacity (lengths s.columns))) (withdrawn s 0) s
    unfolding with_place
    place_made = go (eqb s.count (capacity (lengths s.columns))) refl
      where
        go : (b : Bool) → eqb s.count (capacity (lengths s.columns)) ≡ b
            → cond b (state_after s.count (withdraw_out s.count 0 s.columns s.sums)) s ≡ cond b (withdrawn s 0) s
        go false q = refl
        go true q = withdraw_taken 0 (omega (arith, some, eqb-true s.count (capacity (lengths s.columns)) q))

    pub place_free : RoomFor (with_place s) 1
    place_free = rw place_made (go (eqb s.count (capacity (lengths s.columns))) refl)
      where
        below : (a b : ℕ) → a ≤ b → (a ≡ b → ⊥) → a + 1 ≤ b
        below a b u v = either (a + 1) b (λ x. x) (λ x. absurd (v (omega arith)))

        go : (b : Bool) → eqb s.count (capacity (lengths s.columns)) ≡ b → RoomFor (cond b (withdrawn s 0) s) 1
        go false q =
            room_of (s.count + 1) (lengths s.columns) (sums_lent (length s.sums))
            (below s.count (capacity (lengths s.columns)) room.count (eqb-false s.count (capacity (lengths s.columns)) q))
            room.enough
        go true q =
            let t = withdrawn s 0 in
            let z = eqb-true s.count (capacity (lengths s.columns)) q in
            let same = lengths_same t.columns s.columns (same_long 0 (omega (arith, some, z))) in
            let r : s.count - 1 + 1 ≤ capacity (lengths s.columns) = omega (arith, some, z) in
            room_of (s.count - 1 + 1) (lengths t.columns) (sums_lent (length t.sums))
            (subst (λ (l : List ℕ). s.count - 1 + 1 ≤ capacity l) (sym same) r)
            (still_long 0, tt)

-- ---- a window's add that is not refused

module _ (s : State) (p : Sample) (e : window_refusal s.count p (lengths s.columns) (length s.sums) ≡ 0) (n : ℕ) (c : Columns) (sums : List Float) (made : state_of n c sums ≡ with_place s) where
  -- there is a place
  pub window_free : RoomFor (state_of n c sums) 1
  window_free =
      let r = window_room s.count p (lengths s.columns) (length s.sums) e in
      subst (λ (u : State). RoomFor u 1) (sym made) (place_free s r.0 r.3)

  -- and the sample is put there
  pub window_put : (d : Columns) (t : List Float) → d ≡ (λ k. set (c k) n (value k p)) → t ≡ add_row sums (weighted_of p)
      → Is (book_answered (add_next (with_place s) p)) (book_of (n + 1)) d t
  window_put d t f g =
      let r = window_room s.count p (lengths s.columns) (length s.sums) e in
      let put : state_of (n + 1) d t ≡ added (state_of n c sums) p = λ i. state_of (n + 1) (f i) (g i) in
      is_answered (put ∙ sym (one_added (state_of n c sums) p window_free r.1 r.2) ∙ ap (λ (u : State). add_next u p) made)
