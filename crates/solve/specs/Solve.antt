-- Document 01's stand-ins "Solve" and "Inverse", on the k by k corner of A and on g. Definitions only.
use Rattle.std.specs.Prelude.{Bool, cond, List, ℕ, ◌+◌, ◌-◌, ◌*◌, ltb, leb, get_or, set, take, replicate, Float}
use Rattle.std.specs.Float.{nan, binary64}
use Rattle.std.specs.Float.Ieee.{of_bits, add, sub, mul, div, lt}
use Rattle.basis.specs.Sizes.{matrix_places, max_terms}
use Rattle.loops.specs.Loop.{from, while, Stopped}
use Rattle.loops.specs.Places.{each}
use Rattle.value.specs.Numbers.{zero_f, one_f, epsilon}
use Rattle.solve.specs.declared.Solved.{Solved}

-- M and b. M[r][c] stands at 16r + c.
pub record System : Type 0 where
  pub m : List Float
  pub b : List Float

abbrev pub cell : List Float → ℕ → ℕ → Float
cell m r c = get_or m (16 * r + c) nan

-- 2⁻⁴⁸
abbrev pub pivot_ratio : Float
pivot_ratio = of_bits binary64 0x3CF0_0000_0000_0000

-- ---- Solve

-- The pivot M[p][p] must be greater than 2⁻⁴⁸ × its starting value.
unfoldable pub pivot_holds : List Float → ℕ → System → Bool
pivot_holds start p s = lt (mul binary64 pivot_ratio (cell start p p)) (cell s.m p p)

-- M[r][c] less f × M[p][c]
abbrev pub less_cell : ℕ → ℕ → Float → ℕ → List Float → List Float
less_cell p r f c m = set m (16 * r + c) (sub binary64 (cell m r c) (mul binary64 f (cell m p c)))

-- Row r: f = M[r][p] / M[p][p]; M[r][c] less f × M[p][c] for c > p; b[r] less f × b[p].
unfoldable pub clear_row : ℕ → ℕ → ℕ → System → System
clear_row k p r s =
    let f = div binary64 (cell s.m r p) (cell s.m p p) in
    record { m = from (less_cell p r f) (p + 1) k s.m; b = set s.b r (sub binary64 (get_or s.b r nan) (mul binary64 f (get_or s.b p nan))) }

-- each row r below p
unfoldable pub clear_below : ℕ → ℕ → System → System
clear_below k p s = from (clear_row k p) (p + 1) k s

-- For p from 0, the pivot must hold, or the elimination is abandoned there: how many pivots held, and M and b then.
unfoldable pub eliminate : List Float → ℕ → System → Stopped System
eliminate start k s = while (pivot_holds start) (clear_below k) 0 k s

-- less M[r][c] × coefficient c
abbrev pub less_term : List Float → ℕ → List Float → ℕ → Float → Float
less_term m r b c v = sub binary64 v (mul binary64 (cell m r c) (get_or b c nan))

-- Row r, whose later places hold coefficients: b[r] less M[r][c] × coefficient c, c ascending from r + 1, divided by M[r][r].
unfoldable pub back_row : ℕ → List Float → ℕ → List Float → List Float
back_row k m r b = set b r (div binary64 (from (less_term m r b) (r + 1) k (get_or b r nan)) (cell m r r))

-- from the last row up
unfoldable pub back : ℕ → List Float → List Float → List Float
back k m b = from (λ i. back_row k m (k - 1 - i)) 0 k b

-- the 256 places of A
abbrev pub matrix_of : List Float → List Float
matrix_of sums = take matrix_places sums

-- the first k places of g, then +0
unfoldable pub right_of : List Float → ℕ → List Float
right_of sums k = each (λ i _. get_or sums (matrix_places + i) nan) k (replicate max_terms zero_f)

-- how many pivots held; the k coefficients if no pivot failed; +0 in every other place
unfoldable pub solved : ℕ → Stopped System → Solved
solved k s = record { held = s.at; c = cond (ltb s.at k) (replicate max_terms zero_f) (back k s.state.m s.state.b) }

-- Solve, on the k by k corner of A and g; the starting values are A's.
unfoldable pub solve : List Float → ℕ → Solved
solve sums k = solved k (eliminate (matrix_of sums) k (record { m = matrix_of sums; b = right_of sums k }))

-- ---- Inverse

-- 2⁻⁵² is added to M[i][i]
abbrev pub ridge_cell : ℕ → List Float → List Float
ridge_cell i m = set m (16 * i + i) (add binary64 (cell m i i) epsilon)

-- the corner with 2⁻⁵² first added to each diagonal place
unfoldable pub ridge : ℕ → List Float → List Float
ridge k m = from ridge_cell 0 k m

-- unit column j
abbrev pub unit : ℕ → List Float
unit j = set (replicate max_terms zero_f) j one_f

-- the same elimination for unit column j; the starting values include the 2⁻⁵²
unfoldable pub unit_column : ℕ → List Float → ℕ → Stopped System
unit_column k m j = eliminate m k (record { m = m; b = unit j })

-- no pivot fails
unfoldable pub column_holds : ℕ → List Float → ℕ → List Float → Bool
column_holds k m j v = leb k (unit_column k m j).at

-- V[i][j] is b[i]
abbrev pub put_cell : ℕ → List Float → ℕ → List Float → List Float
put_cell j b i v = set v (16 * i + j) (get_or b i nan)

-- column j of V is b
unfoldable pub put_column : ℕ → ℕ → List Float → List Float → List Float
put_column k j b v = from (put_cell j b) 0 k v

-- column j of the inverse, by back substitution
unfoldable pub inverse_column : ℕ → List Float → ℕ → List Float → List Float
inverse_column k m j v = let s = (unit_column k m j).state in put_column k j (back k s.m s.b) v

-- once per unit column, up to the first at which a pivot fails
unfoldable pub inverse_columns : ℕ → List Float → Stopped (List Float)
inverse_columns k m = while (column_holds k m) (inverse_column k m) 0 k (replicate matrix_places zero_f)

-- how many columns are made, and V
pub record Inverted : Type 0 where
  pub columns : ℕ
  pub v : List Float

-- Inverse: how many columns are made, all k unless a pivot fails, and V; +0 in every other place.
unfoldable pub inverse : List Float → ℕ → Inverted
inverse sums k = let t = inverse_columns k (ridge k (matrix_of sums)) in record { columns = t.at; v = t.state }
