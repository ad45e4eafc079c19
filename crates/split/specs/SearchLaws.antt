-- What the search comes to, of any choices and any floats.
use Rattle.std.specs.Prelude.{◌≡◌, Bool, cond, not, List, ◌⊎◌, length, take, drop, Float, Option, Some, None}
use Rattle.std.proofs.Math.Path.{refl}
use Rattle.std.proofs.Common.{sym, ap, ◌∙◌, inl, inr, mul-le-mul_right, length-take, length-drop}
use Rattle.std.proofs.Math.Bool.{true, false}
use Prim.Native.Nat.{ℕ, zero, suc, ◌+◌, ◌-◌, ◌*◌, ◌≤◌, ◌<◌}
use native.Mathlib.Omega.{arith}
use borrow.Author.Tests.{ltb-true, ltb-false}
use Rattle.std.proofs.Math.Dec.{ltb}
use Rattle.std.specs.Float.Ieee.{lt, le}
use Rattle.loops.specs.Cases.{never}
use Rattle.loops.specs.Fold.{fold}
use Rattle.loops.specs.FoldLaws.{fold_table}
use Rattle.loops.specs.Loop.{from}
use Rattle.loops.specs.LoopLaws.{again, done, last_from}
use Rattle.loops.specs.Places.{table}
use Rattle.loops.specs.PlaceLaws.{length_table, map_table}
use Rattle.value.specs.Order.{lt_itself, lt_trans, le_lt}
use Rattle.basis.specs.Counts.{count_of}
use Rattle.basis.specs.CountLaws.{curve_count}
use Rattle.basis.specs.declared.Basis.TheVariants.{Curve}
use Rattle.basis.specs.declared.Degree.{Degree}
use Rattle.statistics.specs.Degrees.{max_degree}
use Rattle.statistics.specs.DegreeLaws.{max_degree_grows}
use Rattle.statistics.specs.declared.DegreeBound.{DegreeBound}
use Rattle.monomial.specs.Rows.{WeightedRow}
use Rattle.monomial.specs.Sums.{sums_of}
use Rattle.score.specs.declared.Criterion.{Criterion}
use Rattle.choice.specs.Laws.{chosen}
use Rattle.fit.specs.Solved.{pivot_tests}
use Rattle.fit.specs.Chosen.{choice_of, counts_of, tests_of}
use Rattle.fit.specs.declared.Choice.{Choice}
use Rattle.split.specs.declared.Best.{Best}
use Rattle.split.specs.Search.{side_choice, total_of, better_by, better, best_of, left_of, right_of, best_break, break_tests, search_tests}
use Rattle.split.specs.Words.{both, IsBest, AllPassed}
use Rattle.split.specs.Rooms.{FoundRoom, most_tests}

-- ---- the best break

module _ (L R : ℕ → Choice) (i : ℕ) where
  -- what is known of the breaks below m by the best one so far
  Known : ℕ → Option Best → Type 0
  Known m None = AllPassed L R i m
  Known m (Some s) = IsBest L R i m s

  same_or_below : (b m : ℕ) → b < m + 1 → (b ≡ m) ⊎ (b < m)
  same_or_below b m h = go (ltb b m) refl
    where
      go : (t : Bool) → ltb b m ≡ t → (b ≡ m) ⊎ (b < m)
      go true q = inr (ltb-true b m q)
      go false q = inl (omega (arith, ltb-false b m q))

  -- s stays the best, if break m does not total less or is passed over
  kept : (m : ℕ) (s : Best) → (both L R m ≡ true → lt (total_of (L m) (R m)) s.total ≡ false) → IsBest L R i m s → IsBest L R i (m + 1) s
  kept m s q w =
      record {
        after_first = w.after_first;
        before_last = omega (arith, w.before_last);
        left = w.left;
        right = w.right;
        totals = w.totals;
        least = λ b a h c. least_of_lem b a c (same_or_below b m h);
        first = w.first;
      }
    where
      least_of_lem : (b : ℕ) → i ≤ b → both L R b ≡ true → (b ≡ m) ⊎ (b < m) → lt (total_of (L b) (R b)) s.total ≡ false
      least_of_lem b a c (inl e) = rw e (q (ap (both L R) (sym e) ∙ c))
      least_of_lem b a c (inr l) = w.least b a l c

  -- break m is passed over
  passed : (m : ℕ) (o : Option Best) → both L R m ≡ false → Known m o → Known (m + 1) o
  unfolding Known
  passed m None q k = λ b a h. by_place b a (same_or_below b m h)
    where
      by_place : (b : ℕ) → i ≤ b → (b ≡ m) ⊎ (b < m) → both L R b ≡ false
      by_place b a (inl e) = rw e q
      by_place b a (inr l) = k b a l
  passed m (Some s) q k = kept m s (λ c. never (sym q ∙ c)) k

  -- it is the best now
  new_best : (m : ℕ) (d e : Degree) → i ≤ m → (L m).chosen ≡ Some d → (R m).chosen ≡ Some e
      → ((b : ℕ) → i ≤ b → b < m → both L R b ≡ true → le (total_of (L b) (R b)) (total_of (L m) (R m)) ≡ false)
      → ((b : ℕ) → i ≤ b → b < m → both L R b ≡ true → lt (total_of (L b) (R b)) (total_of (L m) (R m)) ≡ false)
      → IsBest L R i (m + 1) (record { at = m; total = total_of (L m) (R m); before = d; after = e })
  new_best m d e a p q le_not lt_not =
      record {
        after_first = a;
        before_last = omega arith;
        left = p;
        right = q;
        totals = refl;
        least = λ b k h c. by_place b k c (same_or_below b m h);
        first = le_not;
      }
    where
      by_place : (b : ℕ) → i ≤ b → both L R b ≡ true → (b ≡ m) ⊎ (b < m) → lt (total_of (L b) (R b)) (total_of (L m) (R m)) ≡ false
      by_place b k c (inl z) = rw z (lt_itself (total_of (L m) (R m)))
      by_place b k c (inr l) = lt_not b k l c

  -- one break more
  known_again : (m : ℕ) (o : Option Best) → i ≤ m → Known m o → Known (m + 1) (better m (L m) (R m) o)
  unfolding better better_by Known
  known_again m o a k = by_left (L m).chosen refl
    where
      -- against what was the best
      below_old : (s : Best) → IsBest L R i m s → lt (total_of (L m) (R m)) s.total ≡ true → (b : ℕ) → i ≤ b → b < m → both L R b ≡ true
          → (t : Bool) → lt (total_of (L b) (R b)) (total_of (L m) (R m)) ≡ t → t ≡ false
      below_old s w q b l h c false z = refl
      below_old s w q b l h c true z = never (sym (w.least b l h c) ∙ lt_trans _ _ _ z q)

      most_old : (s : Best) → IsBest L R i m s → lt (total_of (L m) (R m)) s.total ≡ true → (b : ℕ) → i ≤ b → b < m → both L R b ≡ true
          → (t : Bool) → le (total_of (L b) (R b)) (total_of (L m) (R m)) ≡ t → t ≡ false
      most_old s w q b l h c false z = refl
      most_old s w q b l h c true z = never (sym (w.least b l h c) ∙ le_lt _ _ _ z q)

      by_test : (d e : Degree) → (L m).chosen ≡ Some d → (R m).chosen ≡ Some e → (s : Best) → IsBest L R i m s → (t : Bool) → lt (total_of (L m) (R m)) s.total ≡ t
          → Known (m + 1) (cond (not t) (Some s) (Some (record { at = m; total = total_of (L m) (R m); before = d; after = e })))
      by_test d e p q s w false t = kept m s (λ _. t) w
      by_test d e p q s w true t =
          new_best m d e a p q (λ b l h c. most_old s w t b l h c _ refl) (λ b l h c. below_old s w t b l h c _ refl)

      by_best : (d e : Degree) → (L m).chosen ≡ Some d → (R m).chosen ≡ Some e → (u : Option Best) → Known m u
          → Known (m + 1) (better_by m (Some d) (Some e) (total_of (L m) (R m)) u)
      by_best d e p q None w = new_best m d e a p q (λ b l h c. never (sym (w b l h) ∙ c)) (λ b l h c. never (sym (w b l h) ∙ c))
      by_best d e p q (Some s) w = by_test d e p q s w (lt (total_of (L m) (R m)) s.total) refl

      by_right : (d : Degree) → (L m).chosen ≡ Some d → (u : Option Degree) → (R m).chosen ≡ u → Known (m + 1) (better_by m (Some d) u (total_of (L m) (R m)) o)
      by_right d p None q = passed m o (rw (p, q)) k
      by_right d p (Some e) q = by_best d e p q o k

      by_left : (u : Option Degree) → (L m).chosen ≡ u → Known (m + 1) (better_by m u (R m).chosen (total_of (L m) (R m)) o)
      by_left None p = passed m o (rw p) k
      by_left (Some d) p = by_right d p (R m).chosen refl

  known : (n : ℕ) → Known (i + n) (best_of L R i (i + n))
  unfolding best_of Known
  known zero =
      let z : i + 0 ≡ i = omega arith in
      rw (z, done (λ b s. better b (L b) (R b) s) i i None (omega arith)) (λ b a h. absurd (omega arith))
  known (suc n) =
      let z : i + suc n ≡ suc (i + n) = omega arith in
      let y : i + n + 1 ≡ suc (i + n) = omega arith in
      rw (z, last_from (λ b s. better b (L b) (R b) s) i (i + n) None (omega arith)) (rw y at (known_again (i + n) (best_of L R i (i + n)) (omega arith) (known n)))

module _ (L R : ℕ → Choice) (i m : ℕ) where
  by_range : Known L R i m (best_of L R i m)
  unfolding Known best_of
  by_range = go (ltb i m) refl
    where
      go : (t : Bool) → ltb i m ≡ t → Known L R i m (best_of L R i m)
      go true q =
          let l : i < m = ltb-true i m q in
          let z : i + (m - i) ≡ m = omega arith in
          rw z at (known L R i (m - i))
      go false q =
          let l : m ≤ i = ltb-false i m q in
          rw (done (λ b s. better b (L b) (R b) s) i m None l) (λ b a h. absurd (omega arith))

  -- a break that is found is the best
  pub found_best : (s : Best) → best_of L R i m ≡ Some s → IsBest L R i m s
  unfolding Known
  found_best s e = rw e at by_range

  -- none is found exactly if all are passed over
  pub none_found : best_of L R i m ≡ None → AllPassed L R i m
  unfolding Known
  none_found e = rw e at by_range

  pub none_found_only : AllPassed L R i m → best_of L R i m ≡ None
  none_found_only p = go (best_of L R i m) refl
    where
      go : (o : Option Best) → best_of L R i m ≡ o → o ≡ None
      go None q = refl
      go (Some s) q =
          let w = found_best s q in
          let c : both L R s.at ≡ true = rw (w.left, w.right) in
          never (sym (p s.at w.after_first w.before_last) ∙ c)

-- ---- pivot tests

at_most : (sums : List Float) (k : ℕ) → pivot_tests sums k ≤ k
unfolding pivot_tests
at_most sums k = omega arith

-- of the degrees below m: twice their number is at most m (m + 1)
twice : (sums : List Float) (m : ℕ) → 2 * fold ◌+◌ 0 (table (λ d. pivot_tests sums (count_of Curve d)) m) ≤ m * (m + 1)
unfolding fold table
twice sums zero = omega arith
twice sums (suc m) = go m (twice sums m)
  where
    go : (m : ℕ) → 2 * fold ◌+◌ 0 (table (λ d. pivot_tests sums (count_of Curve d)) m) ≤ m * (m + 1)
        → 2 * fold ◌+◌ 0 (table (λ d. pivot_tests sums (count_of Curve d)) (suc m)) ≤ suc m * (suc m + 1)
    go m h =
        let z : suc m ≡ m + 1 = omega arith in
        let e = ap (λ (j : ℕ). fold ◌+◌ 0 (table (λ d. pivot_tests sums (count_of Curve d)) j)) z ∙ fold_table ◌+◌ 0 (λ d. pivot_tests sums (count_of Curve d)) m in
        omega (arith, e, h, at_most sums (count_of Curve m), curve_count m)

-- sixteen degrees have at most 1 + 2 + .. + 16
pub tests_at_most : (sums : List Float) (bound : ℕ) → bound ≤ 15 → tests_of sums (counts_of Curve bound) ≤ 136
unfolding tests_of
tests_at_most sums bound h =
    let e = ap (fold ◌+◌ 0) (map_table (pivot_tests sums) (count_of Curve) (bound + 1)) in
    let a : (bound + 1) * (bound + 1 + 1) ≤ 16 * (bound + 1 + 1) = mul-le-mul_right (bound + 1 + 1) (omega arith) in
    omega (arith, e, twice sums (bound + 1))

-- ---- the search over rows

module _ (bound : DegreeBound) (criterion : Criterion) (rows : List WeightedRow) (fits : max_degree bound (length rows) ≤ 15) where
  -- the bound of a side is at most that of the whole list
  pub left_bound : (b : ℕ) → max_degree bound (length (take b rows)) ≤ 15
  left_bound b = omega (arith, fits, max_degree_grows bound (length (take b rows)) (length rows) (simp length-take (omega arith)))

  pub right_bound : (b : ℕ) → max_degree bound (length (drop b rows)) ≤ 15
  right_bound b = omega (arith, fits, max_degree_grows bound (length (drop b rows)) (length rows) (simp length-drop (omega arith)))

  -- a break has at most 272 pivot tests
  pub break_tests_lem : (b : ℕ) → break_tests bound criterion rows b ≤ 272
  unfolding break_tests left_of right_of side_choice choice_of
  break_tests_lem b =
      omega
      (arith, tests_at_most (sums_of (take b rows)) (max_degree bound (length (take b rows))) (left_bound b), tests_at_most (sums_of (drop b rows)) (max_degree bound (length (drop b rows))) (right_bound b))

-- a running count
module _ (f : ℕ → ℕ) (k : ℕ) (most : (b : ℕ) → f b ≤ k) where
  counted : (n i t : ℕ) → (t ≤ from (λ b c. c + f b) i (i + n) t) × (from (λ b c. c + f b) i (i + n) t ≤ t + n * k)
  counted zero i t =
      let z : i + 0 ≡ i = omega arith in
      rw (z, done (λ b c. c + f b) i i t (omega arith)) (omega arith, omega arith)
  counted (suc n) i t =
      let z : i + suc n ≡ i + 1 + n = omega arith in
      let w = counted n (i + 1) (t + f i) in
      rw (z, ← (again (λ b c. c + f b) i (i + 1 + n) t (omega arith))) (omega (arith, w.0), omega (arith, w.1, most i))

  -- it only grows, and by at most k a turn
  pub count_range : (i m t : ℕ) → i ≤ m → (t ≤ from (λ b c. c + f b) i m t) × (from (λ b c. c + f b) i m t ≤ t + (m - i) * k)
  count_range i m t h =
      let z : i + (m - i) ≡ m = omega arith in
      rw z at (counted (m - i) i t)

-- a search of at most 4,096 samples has at most 4,093 × 272 pivot tests
pub search_tests_lem : (bound : DegreeBound) (criterion : Criterion) (rows : List WeightedRow) → max_degree bound (length rows) ≤ 15 → 4 ≤ length rows → length rows ≤ 4096
    → search_tests bound criterion rows ≤ most_tests
unfolding search_tests
search_tests_lem bound criterion rows h l m =
    let w = count_range (break_tests bound criterion rows) 272 (break_tests_lem bound criterion rows h) 2 (length rows - 1) 0 (omega arith) in
    omega (arith, w.1)

-- a chosen degree of a side is at most its bound
pub side_degree : (bound : DegreeBound) (criterion : Criterion) (rows : List WeightedRow) (d : Degree) → (side_choice bound criterion rows).chosen ≡ Some d
    → d.0 ≤ max_degree bound (length rows)
unfolding side_choice choice_of
side_degree bound criterion rows d h =
    omega (arith, (chosen _ _ d.0 h).within, length_table (count_of Curve) (max_degree bound (length rows) + 1))

-- a break that is found has a place in the list, and its degrees are at most 15
pub found_room : (bound : DegreeBound) (criterion : Criterion) (rows : List WeightedRow) → max_degree bound (length rows) ≤ 15 → (best : Best)
    → best_break bound criterion rows ≡ Some best → FoundRoom (length rows) best
unfolding best_break left_of right_of
found_room bound criterion rows h best f =
    let w = found_best (left_of bound criterion rows) (right_of bound criterion rows) 2 (length rows - 1) best f in
    record {
      place = omega (arith, w.before_last);
      before = omega (arith, side_degree bound criterion (take best.at rows) best.before w.left, left_bound bound criterion rows h best.at);
      after = omega (arith, side_degree bound criterion (drop best.at rows) best.after w.right, right_bound bound criterion rows h best.at);
    }
