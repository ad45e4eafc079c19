-- What the writes of a report come to.
use mathlib.Core.Path.{◌≡◌, ap, ap₂, ◌∙◌}
use mathlib.Core.List.{List, ◌++◌, map}
use Prim.Native.Nat.{ℕ}
use lib.ListN.{length, take, drop, length-map, length-replicate}
use lib.Ieee.{Float}
use Rattle.loops.specs.PlaceLaws.{length_table}
use Rattle.value.specs.Numbers.{zero_f}
use Rattle.statistics.specs.Scores.{z_score, t_score, degrees_of_freedom}
use Rattle.statistics.specs.Variances.{stddev_and_mean}
use Rattle.basis.specs.Counts.{count_of}
use Rattle.basis.specs.declared.Basis.{Basis}
use Rattle.monomial.specs.Rows.{Row, ys_in}
use Rattle.covariance.specs.Covariance.{errors_of}
use Rattle.covariance.specs.Marks.{ones}
use Rattle.covariance.specs.Bands.{lower_of, upper_of, outlier_of, lowers_of, uppers_of, outliers_of}
use Rattle.covariance.specs.Spread.{DoesFor}
use Rattle.covariance.specs.SpreadLaws.{same_lower, same_upper, same_outlier}
use Rattle.covariance.specs.Pruning.{pruned_at, pruned_bytes}
use Rattle.measure.specs.Places.{term_places}
use Rattle.lent.specs.Written.{over, zeros}
use Rattle.lent.specs.WrittenLaws.{over_by}
use Rattle.settings.specs.declared.Settings.{Settings}
use Rattle.std.specs.Prelude.{Ok}
use Rattle.reporting.specs.Outputs.{Outputs}
use Rattle.reporting.specs.Reports.{Does, written_by}

module _ (basis : Basis) (n : ℕ) (settings : Settings) (rows : List Row) (degree solved : ℕ) (c v : List Float)
    (m : ℕ) (em : m ≡ term_places basis) (k : ℕ) (ek : k ≡ count_of basis degree) (counted : length rows ≡ n)
    (t z sd : Float) (e : List Float) (et : t ≡ t_score settings.confidence (degrees_of_freedom n k))
    (ez : z ≡ z_score settings.confidence) (es : DoesFor settings.tolerance sd (stddev_and_mean (ys_in rows)).stddev) (ee : e ≡ errors_of k v) where
  -- a value of each sample was written
  rows_over : {A : Type 0} (f : Row → A) (l l' : List A) → l' ≡ map f rows ++ drop n l → l' ≡ over (map f rows) l
  rows_over f l l' h = over_by n (map f rows) l l' (length-map rows f ∙ counted) h

  pub writes_is : (marks terms : ℕ) (w w' : Outputs)
      → marks ≡ ones (outliers_of k c v settings.tolerance z sd rows) → terms ≡ ones (pruned_bytes m settings.pruning k c e t)
      → w'.scratch ≡ zeros n ++ drop n w.scratch
      → w'.coefficients ≡ over (take m c) w.coefficients → w'.errors ≡ over (take m e) w.errors → w'.pruned ≡ pruned_bytes m settings.pruning k c e t ++ drop m w.pruned
      → w'.lower ≡ lowers_of k c v settings.tolerance z sd rows ++ drop n w.lower
      → w'.upper ≡ uppers_of k c v settings.tolerance z sd rows ++ drop n w.upper
      → w'.outliers ≡ outliers_of k c v settings.tolerance z sd rows ++ drop n w.outliers
      → Does (written_by basis n settings rows degree solved c v) (Ok (record { degree = record { 0 = degree }; solved = solved; outliers = marks; pruned = terms })) (record { found = w; left = w' })
  unfolding written_by
  writes_is marks terms w w' hm ht hs hc he hp hl hu hb =
      let own = (stddev_and_mean (ys_in rows)).stddev in
      let tolerance = settings.tolerance in
      let ol = same_lower k c v z tolerance sd own es in
      let ou = same_upper k c v z tolerance sd own es in
      let oo = same_outlier k c v z tolerance sd own es in
      rw (← em, ← ek, ← et, ← ez, ← ee)
      (record {
        answer = ap₂ (λ o p. Ok (record { degree = record { 0 = degree }; solved = solved; outliers = o; pruned = p })) (hm ∙ ap (λ f. ones (map f rows)) oo) ht;
        outputs = λ i. record {
          scratch = over_by n (zeros n) w.scratch w'.scratch (length-replicate n zero_f) hs i;
          coefficients = hc i;
          errors = he i;
          pruned = over_by m (pruned_bytes m settings.pruning k c e t) w.pruned w'.pruned (length_table (pruned_at settings.pruning k c e t) m) hp i;
          lower = rows_over (lower_of k c v tolerance z own) w.lower w'.lower (hl ∙ ap (λ f. map f rows ++ drop n w.lower) ol) i;
          upper = rows_over (upper_of k c v tolerance z own) w.upper w'.upper (hu ∙ ap (λ f. map f rows ++ drop n w.upper) ou) i;
          outliers = rows_over (outlier_of k c v tolerance z own) w.outliers w'.outliers (hb ∙ ap (λ f. map f rows ++ drop n w.outliers) oo) i;
        };
      })
