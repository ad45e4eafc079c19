-- Laws of Measures.antt.
use Rattle.std.specs.Prelude.{◌≡◌, refl, true, false, List, map, ℕ, zero, suc, Float, Result, Ok, Err, ⊤}
use Rattle.std.proofs.Math.Path.{ap, ap₂}
use Rattle.std.proofs.Common.{sym, ◌∙◌}
use Rattle.value.specs.Absolute.{abs_f}
use Rattle.statistics.specs.Variances.{residual_variance}
use Rattle.statistics.specs.VarianceLaws.{variance_sizes}
use Rattle.monomial.specs.Rows.{Row}
use Rattle.solve.specs.Solve.{Inverted, solve, inverse}
use Rattle.fit.specs.Residuals.{residuals}
use Rattle.fit.specs.Solved.{is_solved}
use Rattle.covariance.specs.Covariance.{covariance_of}
use Rattle.refusal.specs.Refusals.{first_of, settle, numbers_of, InOrder, those, is_among}
use Rattle.refusal.specs.declared.refusals.Refusal.{Refusal}
use Rattle.refusal.specs.Named.{named, refused_by}
use Rattle.refusal.specs.NamedLaws.{settled_err, settled_ok}
use Rattle.measure.specs.Measures.{Measured, told, measured, measure_tests, inverse_fails, measure_refusal, covariance_at}

module _ (sums : List Float) (rows : List Row) (k : ℕ) where
  pub measure_unsolved : is_solved sums rows k ≡ false → 10 ≡ measure_refusal sums rows k
  unfolding measure_refusal first_of
  measure_unsolved h = rw h

  pub measure_failed : is_solved sums rows k ≡ true → inverse_fails sums k ≡ true → 12 ≡ measure_refusal sums rows k
  unfolding measure_refusal first_of
  measure_failed h g = rw (h, g)

  pub measure_whole : is_solved sums rows k ≡ true → inverse_fails sums k ≡ false → 0 ≡ measure_refusal sums rows k
  unfolding measure_refusal first_of
  measure_whole h g = rw (h, g)

  -- refused by r, 10 or 12, or measured
  pub measured_refused : (r : ℕ) → r ≡ measure_refusal sums rows k → (r ≡ 0 → ⊥) → refused_by {A = Measured} r ≡ measured sums rows k
  measured_refused r e n = rw (← e) (go r n)
    where
      go : (r : ℕ) → (r ≡ 0 → ⊥) → refused_by {A = Measured} r ≡ settle r (Ok (record { c = (solve sums k).c; covariance = covariance_at sums rows k })) (refused_by r)
      go zero n = absurd (n refl)
      go (suc r) n = refl

  pub measured_whole : 0 ≡ measure_refusal sums rows k → (c v : List Float) → c ≡ (solve sums k).c → v ≡ covariance_at sums rows k
      → Ok (record { c = c; covariance = v }) ≡ measured sums rows k
  measured_whole e c v ec ev = rw (← e) (λ i. Ok (record { c = ec i; covariance = ev i }))

  -- and the other way
  pub measured_ok : {r : Result ⊤ Refusal} {a : ⊤} (c v : List Float) → told r c v ≡ measured sums rows k → r ≡ Ok a
      → (measure_refusal sums rows k ≡ 0) × (c ≡ (solve sums k).c) × (v ≡ covariance_at sums rows k)
  measured_ok c v e h =
      let p = settled_ok (measure_refusal sums rows k) _ (sym e ∙ ap (λ (r : Result ⊤ Refusal). told r c v) h) in
      (p.0, ap (λ (m : Measured). m.c) p.1, ap (λ (m : Measured). m.covariance) p.1)

  pub measured_err : {r : Result ⊤ Refusal} {e : Refusal} (c v : List Float) → told r c v ≡ measured sums rows k → r ≡ Err e
      → (measure_refusal sums rows k ≡ 0 → ⊥) × (e ≡ named (measure_refusal sums rows k))
  measured_err c v p h = settled_err (measure_refusal sums rows k) _ (sym p ∙ ap (λ (r : Result ⊤ Refusal). told r c v) h)

  -- the covariance from the inverse i, the sizes a of the residuals, and their variance v
  pub measured_covariance : (i : Inverted) (a : List Float) (v : Float) (w : List Float) → i ≡ inverse sums k
      → a ≡ map abs_f (residuals k (solve sums k).c rows) → v ≡ residual_variance k a → w ≡ covariance_of i.v v → w ≡ covariance_at sums rows k
  unfolding covariance_at
  measured_covariance i a v w ei ea ev ew =
      ew ∙ ap₂ (λ (j : Inverted) (x : Float). covariance_of j.v x) ei (ev ∙ ap (residual_variance k) ea ∙ variance_sizes k _)

-- 10 and 12 stand in the checking order
pub measure_in_order : (sums : List Float) (rows : List Row) (k : ℕ) → InOrder (numbers_of (measure_tests sums rows k))
unfolding those is_among
measure_in_order sums rows k = refl
