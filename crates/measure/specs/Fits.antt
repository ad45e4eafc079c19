-- The fit of an asked degree: what it answers and writes, from rows and sums, of a curve and of a surface. Definitions only.
use Rattle.std.specs.Prelude.{◌≡◌, cond, List, [], ℕ, take, Float, Result, Ok}
use Rattle.basis.specs.Counts.{count_of}
use Rattle.basis.specs.declared.Basis.{Basis}
use Rattle.monomial.specs.Rows.{Row}
use Rattle.solve.specs.Solve.{solve}
use Rattle.fit.specs.Solved.{is_solved}
use Rattle.lent.specs.Slices.{Contents}
use Rattle.lent.specs.Written.{over, zeros}
use Rattle.basis.specs.declared.Degree.{Degree}
use Rattle.refusal.specs.declared.refusals.Refusal.{Refusal}
use Rattle.refusal.specs.Named.{refused_by}
use Rattle.measure.specs.Places.{term_places}

-- what the call answers: the degree, or a refusal
abbrev pub FitAnswer : Type 0
FitAnswer = Result Degree Refusal

-- the answer, and the values written to scratch and to the coefficients
pub record FitOut : Type 0 where
  pub answer : FitAnswer
  pub scratch : List Float
  pub coefficients : List Float

-- refused by r, one of 1 to 9: nothing is written
abbrev pub fit_refused : ℕ → FitOut
fit_refused r = record { answer = refused_by r; scratch = []; coefficients = [] }

-- past refusals 1 to 9, of the samples' rows: 10 if the asked degree is unsolved, else the degree and its 16 coefficients, of a surface 15, +0 from k on
unfoldable pub fit_past : Basis → ℕ → ℕ → List Row → List Float → FitOut
fit_past basis n degree rows sums =
    cond (is_solved sums rows (count_of basis degree))
    (record {
      answer = Ok (record { 0 = degree });
      scratch = zeros n;
      coefficients = take (term_places basis) (solve sums (count_of basis degree)).c;
    })
    (record { answer = refused_by 10; scratch = zeros n; coefficients = [] })

-- the promise: the answer is the definition's, and its values are written to scratch s and the coefficients c
pub record FitIs (o : FitOut) (r : FitAnswer) (s c : Contents Float) : Type 0 where
  pub answer : r ≡ o.answer
  pub scratch : s.left ≡ over o.scratch s.found
  pub coefficients : c.left ≡ over o.coefficients c.found
