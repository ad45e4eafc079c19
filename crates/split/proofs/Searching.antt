-- The loop over the breaks, and what it comes to: refused by 16, by 11, or a break.
use mathlib.Core.Path.{◌≡◌, refl, ap, ap₂, ◌∙◌}
use mathlib.Core.List.{List}
use Prim.Native.Nat.{ℕ, ◌+◌, ◌-◌, ◌≤◌, ◌<◌}
use native.Mathlib.Omega.{arith}
use borrow.Author.Tests.{lt-ltb, le-ltb}
use lib.ListN.{length}
use lib.Ieee.{Float}
use Rattle.loops.specs.Loop.{from}
use Rattle.loops.specs.LoopLaws.{again, done}
use Rattle.loops.specs.Within.{Within}
use Rattle.statistics.specs.Degrees.{max_degree}
use Rattle.statistics.specs.declared.DegreeBound.{DegreeBound}
use Rattle.monomial.specs.Rows.{WeightedRow}
use Rattle.score.specs.declared.Criterion.{Criterion}
use Rattle.std.specs.Prelude.{Option, None, Some, Result, ok_or}
use Rattle.refusal.specs.declared.refusals.Refusal.TheVariants.{NoneChosen}
use Rattle.refusal.specs.declared.refusals.Refusal.{Refusal}
use Rattle.refusal.specs.Named.{refused_by}
use Rattle.fit.specs.declared.Choice.{Choice}
use Rattle.split.specs.declared.Best.{Best}
use Rattle.split.specs.Search.{better, best_of, left_of, right_of, best_break, break_tests, search_tests}
use Rattle.split.specs.SearchLaws.{break_tests_lem, count_range}
use Rattle.split.specs.Refusals.{found_in, searched}
use Rattle.split.specs.Splits.{taken_of, Searches}

-- what is left of the search at break b
module _ (bound : DegreeBound) (criterion : Criterion) (rows : List WeightedRow) where
  unfoldable pub best_from : ℕ → ℕ → Option Best → Option Best
  best_from b last best = from (λ j s. better j (left_of bound criterion rows j) (right_of bound criterion rows j) s) b last best

  unfoldable pub tests_from : ℕ → ℕ → ℕ → ℕ
  tests_from b last tests = from (λ j t. t + break_tests bound criterion rows j) b last tests

  -- one break
  module _ (b last : ℕ) (l r : Choice) (el : l ≡ left_of bound criterion rows b) (er : r ≡ right_of bound criterion rows b) where
    pub best_again : b < last → (best u : Option Best) → u ≡ better b l r best → best_from (b + 1) last u ≡ best_from b last best
    unfolding best_from
    best_again h best u e =
        ap (λ (v : Option Best). from (λ j s. better j (left_of bound criterion rows j) (right_of bound criterion rows j) s) (b + 1) last v)
        (e ∙ ap₂ (λ x y. better b x y best) el er)
        ∙ again (λ j s. better j (left_of bound criterion rows j) (right_of bound criterion rows j) s) b last best h

    sides_tests : l.tests + r.tests ≡ break_tests bound criterion rows b
    unfolding break_tests
    sides_tests = ap₂ (λ (x y : Choice). x.tests + y.tests) el er

    pub tests_again : b < last → (tests : ℕ) → tests_from (b + 1) last (tests + (l.tests + r.tests)) ≡ tests_from b last tests
    unfolding tests_from
    tests_again h tests =
        ap (λ (k : ℕ). from (λ j t. t + break_tests bound criterion rows j) (b + 1) last (tests + k)) sides_tests
        ∙ again (λ j t. t + break_tests bound criterion rows j) b last tests h

    pub tests_few : max_degree bound (length rows) ≤ 15 → l.tests + r.tests ≤ 272
    tests_few h = omega (arith, sides_tests, break_tests_lem bound criterion rows h b)

  -- no break is left
  pub best_done : (b last : ℕ) (best : Option Best) → last ≤ b → best_from b last best ≡ best
  unfolding best_from
  best_done b last best h = done (λ j s. better j (left_of bound criterion rows j) (right_of bound criterion rows j) s) b last best h

  pub tests_done : (b last tests : ℕ) → last ≤ b → tests_from b last tests ≡ tests
  unfolding tests_from
  tests_done b last tests h = done (λ j t. t + break_tests bound criterion rows j) b last tests h

  -- none is tried yet
  pub best_whole : (n : ℕ) → length rows ≡ n → best_from 2 (n - 1) None ≡ best_break bound criterion rows
  unfolding best_from best_break best_of
  best_whole n e = rw e

  pub tests_whole : (n : ℕ) → length rows ≡ n → tests_from 2 (n - 1) 0 ≡ search_tests bound criterion rows
  unfolding tests_from search_tests
  tests_whole n e = rw e

  -- the count only grows
  pub tests_grow : max_degree bound (length rows) ≤ 15 → (b last tests : ℕ) → b ≤ last → tests ≤ tests_from b last tests
  unfolding tests_from
  tests_grow h b last tests l = (count_range (break_tests bound criterion rows) 272 (break_tests_lem bound criterion rows h) b last tests l).0

  -- ---- what the search comes to

  module _ (limit n : ℕ) (s t : List Float) (w : Within n s t) (tests : ℕ) where
    -- the count passes the limit
    pub searches_over : limit < tests → tests ≤ search_tests bound criterion rows
        → Searches limit bound criterion rows n s t (record { tests = 0; best = refused_by 16 })
    unfolding searched taken_of
    searches_over h g =
        record {
          best = rw (lt-ltb limit (search_tests bound criterion rows) (omega arith));
          tests = rw (lt-ltb limit (search_tests bound criterion rows) (omega arith));
          within = w;
        }

    -- every break is tried: r is the best one, or that there is none
    pub searches_done : tests ≤ limit → tests ≡ search_tests bound criterion rows → (best : Option Best) → best ≡ best_break bound criterion rows
        → (r : Result Best Refusal) → r ≡ found_in best → Searches limit bound criterion rows n s t (record { tests = tests; best = r })
    unfolding searched taken_of
    searches_done h et best eb r er =
        record {
          best = rw (← et, ← eb, le-ltb limit tests h) er;
          tests = rw (← et, le-ltb limit tests h);
          within = w;
        }

-- the best break, or 11, as the code says it
pub found_or : (o : Option Best) → ok_or o NoneChosen ≡ found_in o
found_or None = refl
found_or (Some s) = refl
