-- A fold's own part of the sizes in scratch, and its score.
use Rattle.std.proofs.Common.{◌≡◌, refl, ℕ, ◌+◌, ◌-◌, ◌<◌, ◌≤◌, Bool, true, false, ◌&&◌, eqb, List, ◌++◌, map, length, take, drop, sym, ap, ◌∙◌, arith, length-append, length-drop, length-take, drop-drop, eq-eqb, ne_eqb}
use Rattle.std.proofs.lemmas.List.{drop-take}
use Rattle.std.specs.Prelude.{Option, Some}
use lib.Ieee.{Float}
use Rattle.loops.specs.Fold.{all_of}
use Rattle.loops.specs.PlaceLaws.{laid_past}
use Rattle.loops.specs.Within.{Within}
use Rattle.value.specs.Absolute.{abs_f}
use Rattle.value.specs.Finite.{finite}
use Rattle.value.specs.Total.{total_f}
use Rattle.statistics.specs.Losses.{losses}
use Rattle.statistics.specs.LossLaws.{losses_sizes}
use Rattle.monomial.specs.Rows.{Row, WeightedRow, rows_in}
use Rattle.monomial.specs.Sums.{sums_of}
use Rattle.monomial.specs.SumLaws.{length_sums}
use Rattle.monomial.specs.Corner.{SameCorner}
use Rattle.solve.specs.Solve.{solve}
use Rattle.solve.specs.SolveLaws.{solve_at_most}
use Rattle.score.specs.Score.{score_of}
use Rattle.score.specs.declared.Criterion.{Criterion}
use Rattle.fit.specs.Residuals.{residuals}
use Rattle.fit.specs.Solved.{is_solved, scored_by}
use Rattle.fit.specs.SolvedLaws.{scored_is}
use Rattle.fit.specs.Corner.{scored_corner}
use Rattle.folds.specs.Folds.{start_of, end_of, own_of, others_of, fold_scored}

-- as many sizes as rows
pub length_own : (start end : ℕ) (rows : List Row) (s : List Float) → end ≤ length rows → end ≤ length s → length (own_of start end rows) ≡ length (take (end - start) (drop start s))
unfolding own_of
length_own start end rows s h g = simp (length-take, length-drop) (omega arith)

-- what a fold says of k coefficients, from sums that are those over the others in the corner of m rows and columns
pub fold_scored_lem : (criterion : Criterion) (rows : List WeightedRow) (plain : List Row) (n folds k m f start end : ℕ) (sums : List Float) (r : Option Float) → length rows ≡ n → rows_in rows ≡ plain
    → start ≡ start_of n folds f → end ≡ end_of n folds f → m ≤ 16 → k ≤ m → 256 ≤ length sums → SameCorner m sums (sums_of (others_of start end rows))
    → r ≡ scored_by criterion sums plain (own_of start end plain) k → r ≡ fold_scored criterion rows folds k f
unfolding fold_scored
fold_scored_lem criterion rows plain n folds k m f start end sums r l e a b u v g w h =
    rw (l, e, ← a, ← b)
    (h ∙ scored_corner m u sums (sums_of (others_of start end rows)) g (omega (arith, length_sums (others_of start end rows))) w criterion plain (own_of start end plain) k v)

-- ---- scratch, of which a part was lent and came back as q

pub within_part : (n start end : ℕ) (s m q : List Float) → start ≤ end → end ≤ n → n ≤ length s → Within n s m → length q ≡ end - start
    → Within n s (take start m ++ (q ++ drop (end - start) (drop start m)))
within_part n start end s m q g h l w z =
    record {
      long = simp (length-append, length-take, length-drop) (omega (arith, z, w.long));
      rest =
          ap (λ (t : List Float). drop n (take start m ++ (q ++ t))) (drop-drop (end - start) start m)
          ∙ laid_past start (end - start) q m (omega (arith, w.long)) z n (omega arith) ∙ w.rest;
    }

-- ---- whether a fold solves k coefficients

module _ (sums : List Float) (rows : List Row) (k : ℕ) where
  pub pivot_failed : (solve sums k).held < k → is_solved sums rows k ≡ false
  unfolding is_solved
  pivot_failed h = rw (ne_eqb (solve sums k).held k (λ q. omega arith)) refl

  pub one_infinite : false ≡ all_of finite (residuals k (solve sums k).c rows) → is_solved sums rows k ≡ false
  unfolding is_solved
  one_infinite h = rw (← h) (go (eqb (solve sums k).held k))
    where
      go : (t : Bool) → (t && false) ≡ false
      go true = refl
      go false = refl

  pub all_solved : k ≤ (solve sums k).held → true ≡ all_of finite (residuals k (solve sums k).c rows) → is_solved sums rows k ≡ true
  unfolding is_solved
  all_solved g h = rw (← h, eq-eqb (solve sums k).held k (omega (arith, g, solve_at_most sums k))) refl

-- the score on the fold's own rows, where it solves them
pub own_scored : (criterion : Criterion) (sums : List Float) (rows part : List Row) (k start end : ℕ) (s : List Float) (v : Float) → is_solved sums rows k ≡ true → part ≡ drop start (take end rows)
    → start ≤ end → end ≤ length rows → end ≤ length s
    → v ≡ score_of criterion (length (take (end - start) (drop start s))) k (total_f (losses (residuals k (solve sums k).c part))) → Some v ≡ scored_by criterion sums rows (own_of start end rows) k
unfolding own_of
own_scored criterion sums rows part k start end s v solved e h g l w =
    let n = length (take (end - start) (drop start s)) in
    let c = (solve sums k).c in
    let own = take (end - start) (drop start rows) in
    let whole : start + (end - start) ≡ end = omega arith in
    let cut : part ≡ own = e ∙ ap (λ m. drop start (take m rows)) (sym whole) ∙ drop-take start (end - start) rows in
    scored_is criterion sums rows own k solved n (map abs_f (residuals k c own)) v (length_own start end rows s g l) refl
    (w ∙ ap (λ r. score_of criterion n k (total_f (losses (residuals k c r)))) cut ∙ sym (ap (λ ls. score_of criterion n k (total_f ls)) (losses_sizes (residuals k c own))))
