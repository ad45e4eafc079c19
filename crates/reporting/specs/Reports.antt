-- A report of the chosen degree: what it answers and writes, from rows and sums, of a curve and of a surface. Definitions only.
use Rattle.std.specs.Prelude.{◌≡◌, List, ℕ, take, Float, Option, Result, Ok}
use Rattle.basis.specs.declared.Degree.{Degree}
use Rattle.basis.specs.Counts.{count_of}
use Rattle.basis.specs.declared.Basis.{Basis}
use Rattle.statistics.specs.Scores.{z_score, t_score, degrees_of_freedom}
use Rattle.statistics.specs.Variances.{stddev_and_mean}
use Rattle.monomial.specs.Rows.{Row, ys_in}
use Rattle.solve.specs.Solve.{solve}
use Rattle.covariance.specs.Covariance.{errors_of}
use Rattle.covariance.specs.Marks.{ones}
use Rattle.covariance.specs.Bands.{lowers_of, uppers_of, outliers_of}
use Rattle.covariance.specs.Pruning.{pruned_bytes}
use Rattle.measure.specs.Places.{term_places}
use Rattle.measure.specs.Measures.{covariance_at}
use Rattle.lent.specs.Written.{zeros}
use Rattle.settings.specs.declared.Settings.{Settings}
use Rattle.refusal.specs.declared.refusals.Refusal.{Refusal}
use Rattle.refusal.specs.Named.{refused_by}
use Rattle.reporting.specs.declared.Report.{Report}
use Rattle.reporting.specs.Chosen.{of_chosen}
use Rattle.reporting.specs.Outputs.{Outputs, LentOutputs, nothing, scratch_alone, over_all}

-- what the call answers: the report, or a refusal
abbrev pub ReportAnswer : Type 0
ReportAnswer = Result Report Refusal

-- the answer, and the values written
pub record ReportOut : Type 0 where
  pub answer : ReportAnswer
  pub written : Outputs

-- Report returns degree, number of solved degrees, outliers and pruned terms. It writes unpruned coefficients and errors (16 places each, of a surface 15,
-- +0 from k on), as many pruning bytes (1 pruned, else 0), and per sample lower, upper and an outlier byte; scratch ends as +0 in its first n places. Bands
-- use unpruned coefficients and the z score; pruning uses the settings' rule and the t score at n − k degrees of freedom. c are the coefficients, v their
-- covariance.
unfoldable pub written_by : Basis → ℕ → Settings → List Row → ℕ → ℕ → List Float → List Float → ReportOut
written_by basis n settings rows degree solved c v =
    let k = count_of basis degree in
    let m = term_places basis in
    let e = errors_of k v in
    let z = z_score settings.confidence in
    let sd = (stddev_and_mean (ys_in rows)).stddev in
    let pruned = pruned_bytes m settings.pruning k c e (t_score settings.confidence (degrees_of_freedom n k)) in
    let outliers = outliers_of k c v settings.tolerance z sd rows in
    record {
      answer = Ok (record { degree = record { 0 = degree }; solved = solved; outliers = ones outliers; pruned = ones pruned });
      written =
          record {
            scratch = zeros n;
            coefficients = take m c;
            errors = take m e;
            pruned = pruned;
            lower = lowers_of k c v settings.tolerance z sd rows;
            upper = uppers_of k c v settings.tolerance z sd rows;
            outliers = outliers;
          };
    }

-- refused by 11 or 12: nothing but scratch is written
abbrev pub refused_late : ℕ → ℕ → ReportOut
refused_late n r = record { answer = refused_by r; written = scratch_alone n }

-- refused by 1 to 9: nothing is written
abbrev pub refused_early : ℕ → ReportOut
refused_early r = record { answer = refused_by r; written = nothing }

-- past refusals 1 to 9, of the chosen degree or none: 11 if no degree is chosen, 12 if an inverse pivot fails, else the report of the chosen degree
unfoldable pub report_of : Basis → ℕ → Settings → List Row → List Float → ℕ → Option Degree → ReportOut
report_of basis n settings rows sums solved o =
    of_chosen basis sums (refused_late n)
    (λ d.
    let k = count_of basis d.0 in
    written_by basis n settings rows d.0 solved (solve sums k).c (covariance_at sums rows k)) o

-- ---- the promise

-- o is what the call does: its answer, and every memory that it may write
pub record Does (o : ReportOut) (r : ReportAnswer) (w : LentOutputs) : Type 0 where
  pub answer : r ≡ o.answer
  pub outputs : w.left ≡ over_all o.written w.found
