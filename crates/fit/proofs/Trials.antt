-- What an attempt at k coefficients comes to.
use mathlib.Core.Path.{◌≡◌, refl, ◌∙◌}
use mathlib.Core.Bool.{Bool, false, false≢true}
use mathlib.Core.List.{List, ◌++◌, map}
use Prim.Native.Nat.{ℕ, ◌+◌, ◌≤◌, ◌<◌}
use native.Mathlib.Omega.{arith}
use borrow.Author.Tests.{eq-eqb, ne_eqb}
use lib.ListN.{length, drop, length-map}
use lib.Ieee.{Float}
use Rattle.loops.specs.Fold.{all_of}
use Rattle.loops.specs.WithinLaws.{within_itself, within_written, front_written}
use Rattle.value.specs.Absolute.{abs_f}
use Rattle.value.specs.Finite.{finite}
use Rattle.monomial.specs.Rows.{Row}
use Rattle.solve.specs.Solve.{solve}
use Rattle.solve.specs.SolveLaws.{solve_at_most}
use Rattle.solve.specs.declared.Solved.{Solved}
use Rattle.fit.specs.Promises.{Attempted}
use Rattle.fit.specs.Residuals.{residual, residuals}
use Rattle.fit.specs.Solved.{is_solved, pivot_tests}

length_sizes : (k : ℕ) (c : List Float) (rows : List Row) → length (map abs_f (residuals k c rows)) ≡ length rows
unfolding residuals
length_sizes k c rows = length-map (residuals k c rows) abs_f ∙ length-map rows (residual k c)

module _ (sums : List Float) (rows : List Row) (k n : ℕ) (t : List Float) (s : Solved) (e : s ≡ solve sums k) where
  at_most : s.held ≤ k
  at_most = rw e (solve_at_most sums k)

  -- a pivot fails
  pub pivot_fails : s.held < k → Attempted sums rows k n t t (record { tests = s.held + 1; solved = false })
  unfolding is_solved pivot_tests
  pivot_fails h =
      let fails = ne_eqb s.held k (λ q. omega arith) in
      record {
        tests = rw (← e) (omega arith);
        solved = rw (← e, fails) refl;
        within = within_itself n t;
        sizes = λ q. absurd (false≢true (rw (← e, fails) at q));
      }

  -- every pivot holds
  pub pivots_hold : k ≤ s.held → (all : Bool) (u : List Float) → all ≡ all_of finite (residuals k s.c rows) → u ≡ map abs_f (residuals k s.c rows) ++ drop n t
      → length rows ≡ n → n ≤ length t → Attempted sums rows k n t u (record { tests = k; solved = all })
  unfolding is_solved pivot_tests
  pivots_hold h all u a w l r =
      record {
        tests = rw (← e) (omega arith);
        solved = rw (← e, eq-eqb s.held k (omega (arith, at_most))) a;
        within = within_written n t u (map abs_f (residuals k s.c rows)) w sized r;
        sizes = λ q. rw (← e) (front_written n t u (map abs_f (residuals k s.c rows)) w sized);
      }
    where
      sized : length (map abs_f (residuals k s.c rows)) ≡ n
      sized = length_sizes k s.c rows ∙ l
