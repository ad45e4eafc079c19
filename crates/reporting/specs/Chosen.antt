-- What is chosen among the degrees to try, and measured, for rows of any basis. Definitions only.
use Rattle.std.specs.Prelude.{◌≡◌, cond, List, ℕ, Float, Option, Some, None, Result, Ok, Err, OnErr}
use Rattle.loops.specs.Within.{Within}
use Rattle.basis.specs.Counts.{count_of}
use Rattle.basis.specs.declared.Basis.{Basis}
use Rattle.basis.specs.declared.Degree.{Degree}
use Rattle.monomial.specs.Rows.{Row}
use Rattle.solve.specs.Solve.{solve}
use Rattle.fit.specs.declared.Choice.{Choice}
use Rattle.refusal.specs.declared.refusals.Refusal.{Refusal}
use Rattle.refusal.specs.Named.{refused_by}
use Rattle.measure.specs.Measures.{Measured, inverse_fails, covariance_at}
use Rattle.reporting.specs.declared.Chosen.{Chosen}

-- 11: no degree is chosen; 12: an inverse pivot fails
unfoldable pub chosen_refusal : Basis → Option Degree → List Float → ℕ
chosen_refusal basis None sums = 11
chosen_refusal basis (Some d) sums = cond (inverse_fails sums (count_of basis d.0)) 12 0

-- what a call makes of the chosen degree or none, past refusals 1 to 9: it is refused by 11 if no degree is chosen, by 12 if an inverse pivot fails, and else
-- told of the chosen degree
abbrev pub of_chosen : {A : Type 0} → Basis → List Float → (ℕ → A) → (Degree → A) → Option Degree → A
of_chosen basis sums late told None = late 11
of_chosen basis sums late told (Some d) = cond (inverse_fails sums (count_of basis d.0)) (late 12) (told d)

-- the chosen degree, with its coefficients and their covariance
pub record Found : Type 0 where
  pub degree : Degree
  pub measured : Measured

-- what is found of it: the coefficients of the chosen degree and their covariance, or the refusal
abbrev pub found_of : Basis → List Row → List Float → Option Degree → Result Found Refusal
found_of basis rows sums o =
    of_chosen basis sums refused_by
    (λ d.
    let k = count_of basis d.0 in
    Ok (record { degree = d; measured = record { c = (solve sums k).c; covariance = covariance_at sums rows k } })) o

-- what an answer and the two places that are lent give
abbrev pub found_by : Result Degree Refusal → List Float → List Float → Result Found Refusal
found_by (Ok d) c v = Ok (record { degree = d; measured = record { c = c; covariance = v } })
found_by (Err e) c v = Err e

-- the promise of the code's choice: r and the lent places, c' and v' afterwards, where the choice is o, and scratch s before and t after; where it is refused, they
-- stand as they were, c and v
pub record Chooses (basis : Basis) (o : Choice) (n : ℕ) (rows : List Row) (sums s t c c' v v' : List Float) (r : Chosen) : Type 0 where
  pub choice : r.choice ≡ o
  pub found : found_by r.found c' v' ≡ found_of basis rows sums o.chosen
  pub kept : OnErr r.found ((c' ≡ c) × (v' ≡ v))
  pub within : Within n s t
