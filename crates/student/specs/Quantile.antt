-- What it is for an entry of the t table to be the quantile that it stands for. Definitions only.
--
-- T has Student's distribution with ν degrees of freedom. The two-sided quantile for a confidence p is the t at which |T| is at most t with probability p,
-- and so above t with probability 1 − p. For the six confidences of the table 1 − p is 1/5, 1/10, 1/20, 1/50, 1/100 and 1/1000, always one in a whole k.
-- The density of T is symmetric. So the probability that |T| is above t is the area under the density beyond t divided by the whole area from 0 on, and a
-- constant factor of the density cancels: it is left out, with its π and Γ. What is left is (1 + x²/ν)^(−(ν+1)/2).
-- This probability falls as t grows. So an entry is the quantile, rounded at its last printed place, when the probability is above 1/k half a place below the
-- entry and below 1/k half a place above it. Halves of a thousandth are 1/2000: all points t are N/2000 with a whole N. Where 2 e is less than h, 2 e − h is 0: |T| is
-- never below 0. Past the columns 1/k is 1/0, and nothing is above it.
--
-- Two measures of the areas are given, by series (`BySeries`) and by parabolas under and over the curve (`ByArea`). What ties them: the list, the columns, the
-- places, and all definitions of this file are the same for both, and so is the meaning of "below 1/k" (`Ratio`); the theorems of the 180 entries,
-- `every_entry_by_series` and `every_entry_by_area`, are one statement at two measures. What does not: no law says that a bound of an area by the one measure
-- agrees with a bound by the other. That would need the area itself, as a limit, which neither measure speaks of. Each measure is to be believed on its own, and
-- a reader who believes either has the table. Neither lets another number pass: no bound from below exceeds one from above (`Laws`, and `AreaLaws` in proofs/), so that the entries
-- are the only ones (`Only` in proofs/).
use Rattle.std.specs.Prelude.{ℕ, zero, suc, ◌+◌, ◌-◌, ◌*◌, ◌<◌, [], ◌∷◌, get_or}
use Rattle.statistics.specs.Table.{table_entry}
use Rattle.student.specs.Ratio.{Fraction, RatioBelow, RatioAbove}

-- which fractions bound the square of the area beyond N/2000 (arguments ν and N), and of the whole area (argument ν)
pub record Measure : Type 1 where
  pub beyond_at_most : ℕ → ℕ → Fraction → Type 0
  pub beyond_at_least : ℕ → ℕ → Fraction → Type 0
  pub whole_at_most : ℕ → Fraction → Type 0
  pub whole_at_least : ℕ → Fraction → Type 0

-- the probability that |T| is above N/2000 is below 1/k
unfoldable pub TailBelow : Measure → ℕ → ℕ → ℕ → Type 0
TailBelow measure ν k N = RatioBelow (measure.beyond_at_most ν N) (measure.whole_at_least ν) 1 k

-- it is above 1/k
unfoldable pub TailAbove : Measure → ℕ → ℕ → ℕ → Type 0
TailAbove measure ν k N = RatioAbove (measure.beyond_at_least ν N) (measure.whole_at_most ν) 1 k

-- the quantile lies within half of the last printed place, h/2000, of e thousandths
unfoldable pub Rounded : Measure → ℕ → ℕ → ℕ → ℕ → Type 0
Rounded measure ν k e h = TailAbove measure ν k (2 * e - h) × TailBelow measure ν k (2 * e + h)

-- the columns: 1 − p is one in 5, 10, 20, 50, 100 and 1000
unfoldable pub one_in : ℕ → ℕ
one_in col = get_or (5 ∷ 10 ∷ 20 ∷ 50 ∷ 100 ∷ 1000 ∷ []) col 0

-- half of the last printed place in 1/2000: three decimals are printed, in the first row two from the third column on
unfoldable pub half_place : ℕ → ℕ → ℕ
half_place zero (suc (suc col)) = 10
half_place zero zero = 1
half_place zero (suc zero) = 1
half_place (suc row) col = 1

-- the entry that the t score reads in this row and column, both from 0, is the rounded quantile for row + 1 degrees of freedom
unfoldable pub IsQuantile : Measure → ℕ → ℕ → Type 0
IsQuantile measure row col = Rounded measure (row + 1) (one_in col) (table_entry row col) (half_place row col)

unfoldable pub EveryEntry : Measure → Type 0
EveryEntry measure = (row col : ℕ) → row < 30 → col < 6 → IsQuantile measure row col

-- e is less than a printed place from the entry; with as many places as printed it is the entry
unfoldable pub IsEntry : ℕ → ℕ → ℕ → Type 0
IsEntry row col e = (e < table_entry row col + half_place row col) × (table_entry row col < e + half_place row col)
