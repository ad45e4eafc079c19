-- How far from 0 the x's and y's of a book lie. Rounding keeps the order, so that bounds on these and on the coefficients bound every residual. Definitions only.
use Rattle.std.specs.Prelude.{◌≡◌, true, false, List, map, ℕ, ◌*◌, ◌≤◌, Float}
use Rattle.std.specs.Float.{nan, inf, fin, binary64}
use Rattle.std.specs.Float.Ieee.{add, up, down}
use Rattle.basis.specs.Sizes.{max_terms}
use Rattle.loops.specs.All.{All}
use Rattle.loops.specs.Places.{table}
use Rattle.value.specs.Absolute.{abs_f}
use Rattle.value.specs.Finite.{finite}
use Rattle.value.specs.Power.{power_f}
use Rattle.monomial.specs.Rows.{fitted}
use Rattle.monomial.specs.declared.rows.Rows.{Rows}
use Rattle.folds.specs.declared.reach.Reach.{Reach}

-- x is finite, and no farther from 0 than b, which is finite and from +0 on
abbrev pub Under : Float → Float → Type 0
Under nan b = ⊥
Under (inf s) b = ⊥
Under (fin s m e) nan = ⊥
Under (fin s m e) (inf t) = ⊥
Under (fin s m e) (fin true n d) = ⊥
Under (fin s m e) (fin false n d) = m * up e * down d ≤ n * up d * down e

-- so it is if b is finite; another b says nothing
abbrev pub Bounds : Float → Float → Type 0
Bounds b x = finite b ≡ true → Under x b

-- the x's and the y's of rows
abbrev pub Reached : Rows → Reach → Type 0
Reached rows reach = All (Bounds reach.across) rows.xs.now × All (Bounds reach.along) rows.ys.now

-- the farthest that a residual of k coefficients can lie from 0: the curve of their sizes at the farthest x, and the farthest y
abbrev pub farthest : Reach → ℕ → List Float → Float
farthest reach k c = add binary64 reach.along (fitted k (map abs_f c) (table (power_f reach.across) max_terms))
