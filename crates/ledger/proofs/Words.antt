-- Demand 3's words of a report that passes refusals 1 to 9, from its definition and the laws of the choice.
use Rattle.std.specs.Prelude.{Option, Some, None}
use mathlib.Core.Path.{◌≡◌, refl, sym, ap, ◌∙◌}
use mathlib.Core.Bool.{Bool, true, false, cond}
use mathlib.Core.List.{List}
use Prim.Native.Nat.{ℕ, ◌<◌}
use native.Mathlib.Omega.{arith}
use lib.ListN.{length}
use lib.Ieee.{Float}
use Rattle.refusal.specs.Named.{refused_by, number_of}
use Rattle.loops.specs.PlaceLaws.{length_table, table_at}
use Rattle.statistics.specs.Degrees.{max_degree}
use Rattle.basis.specs.declared.Degree.{Degree}
use Rattle.basis.specs.Counts.{count_of}
use Rattle.basis.specs.declared.Basis.TheVariants.{Curve}
use Rattle.samples.specs.declared.Sample.{Sample}
use Rattle.monomial.specs.Rows.{rows_of}
use Rattle.solve.specs.Solve.{solve}
use Rattle.choice.specs.Choice.{degree, chosen_of, solved_count}
use Rattle.choice.specs.ChoiceLaws.{chosen_same, count_same}
use Rattle.choice.specs.Laws.{none_below, attained, chosen, chosen_is, none_such, none_such_only}
use Rattle.fit.specs.Solved.{scored_by}
use Rattle.fit.specs.Chosen.{counts_of, tried, choice_of}
use Rattle.measure.specs.Measures.{inverse_fails, covariance_at}
use Rattle.settings.specs.declared.Settings.{Settings}
use Rattle.report.specs.Reports.{report_choice}
use Rattle.reporting.specs.Reports.{ReportOut, refused_late, written_by, report_of}
use Rattle.report.specs.Reports.{report_past}
use Rattle.ledger.specs.Words.{Words, IsChosen, ledger_sums, degrees, scored}

-- the choice among the counts 1 to bound + 1 is the choice among the degrees 0 to the bound
module _ (settings : Settings) (l : List Sample) where
  counts : List ℕ
  counts = counts_of Curve (max_degree settings.bound (length l))

  try : ℕ → Option Float
  try = tried settings.criterion (ledger_sums settings l) (rows_of l) counts

  long : length counts ≡ degrees settings l
  unfolding counts
  long = length_table (count_of Curve) (degrees settings l)

  same : (d : ℕ) → d < degrees settings l → try d ≡ scored settings l d
  unfolding try counts tried
  same d h =
      ap (scored_by settings.criterion (ledger_sums settings l) (rows_of l) (rows_of l)) (table_at (count_of Curve) (degrees settings l) d 0 h)

  chosen_by : (report_choice (length l) settings (rows_of l) (ledger_sums settings l)).chosen ≡ chosen_of (scored settings l) (degrees settings l)
  unfolding report_choice choice_of try counts
  chosen_by = ap (chosen_of try) long ∙ chosen_same try (scored settings l) (degrees settings l) same

  solved_by : (report_choice (length l) settings (rows_of l) (ledger_sums settings l)).solved ≡ solved_count (scored settings l) (degrees settings l)
  unfolding report_choice choice_of try counts
  solved_by = ap (solved_count try) long ∙ count_same try (scored settings l) (degrees settings l) same

-- what a report answers past refusals 1 to 9, from the chosen degree or none
module _ (settings : Settings) (l : List Sample) where
  abbrev pub report_by : Option Degree → ReportOut
  report_by c = report_of Curve (length l) settings (rows_of l) (ledger_sums settings l) (solved_count (scored settings l) (degrees settings l)) c

  pub past_chosen : report_past (length l) settings (rows_of l) (ledger_sums settings l) ≡ report_by (chosen_of (scored settings l) (degrees settings l))
  unfolding report_past
  past_chosen = rw (chosen_by settings l, solved_by settings l) refl

  -- its number where a degree is chosen
  number_some : (d : ℕ) → number_of (report_by (Some (degree d))).answer ≡ cond (inverse_fails (ledger_sums settings l) (count_of Curve d)) 12 0
  unfolding report_of written_by
  number_some d = go (inverse_fails (ledger_sums settings l) (count_of Curve d)) _ refl
    where
      go : (t : Bool) (w : ReportOut) → number_of w.answer ≡ 0 → number_of (cond t (refused_late (length l) 12) w).answer ≡ cond t 12 0
      go true w h = refl
      go false w h = h

module _ (settings : Settings) (l : List Sample) (o : ReportOut) (e : o ≡ report_by settings l (chosen_of (scored settings l) (degrees settings l))) where
  S : ℕ → Option Float
  S = scored settings l

  b : ℕ
  b = degrees settings l

  answered : (c : Option Degree) → chosen_of S b ≡ c → o.answer ≡ (report_by settings l c).answer
  unfolding S b
  answered c h = ap (λ (t : ReportOut). t.answer) e ∙ ap (λ x. (report_by settings l x).answer) h

  chosen_number : (d : ℕ) → chosen_of S b ≡ Some (degree d) → number_of o.answer ≡ cond (inverse_fails (ledger_sums settings l) (count_of Curve d)) 12 0
  chosen_number d h = ap number_of (answered (Some (degree d)) h) ∙ number_some settings l d

  none_if_11 : o.answer ≡ refused_by 11 → (d : ℕ) → IsChosen settings l d → ⊥
  unfolding S b
  none_if_11 h d w = go (inverse_fails (ledger_sums settings l) (count_of Curve d)) (sym (ap number_of h) ∙ chosen_number d (chosen_is S b d w))
    where
      go : (t : Bool) → ◌≡◌ {A = ℕ} 11 (cond t 12 0) → ⊥
      go true q = omega arith
      go false q = omega arith

  11-if-none : ((d : ℕ) → IsChosen settings l d → ⊥) → o.answer ≡ refused_by 11
  unfolding S b report_of
  11-if-none h = answered None (none_such_only S b h)

  fails_if_12 : o.answer ≡ refused_by 12 → (d : ℕ) × IsChosen settings l d × (inverse_fails (ledger_sums settings l) (count_of Curve d) ≡ true)
  unfolding S b
  fails_if_12 h = by (chosen_of S b) refl
    where
      last : (d : ℕ) → chosen_of S b ≡ Some (degree d) → (t : Bool) → inverse_fails (ledger_sums settings l) (count_of Curve d) ≡ t → ◌≡◌ {A = ℕ} 12 (cond t 12 0)
          → (d : ℕ) × IsChosen settings l d × (inverse_fails (ledger_sums settings l) (count_of Curve d) ≡ true)
      last d q true k z = (d, chosen S b d q, k)
      last d q false k z = absurd (omega arith)

      by : (c : Option Degree) → chosen_of S b ≡ c → (d : ℕ) × IsChosen settings l d × (inverse_fails (ledger_sums settings l) (count_of Curve d) ≡ true)
      by None q = absurd (let z : ◌≡◌ {A = ℕ} 12 11 = sym (ap number_of h) ∙ ap number_of (11-if-none (λ d w. none_such S b q d w)) in omega arith)
      by (Some d) q = last d.0 q (inverse_fails (ledger_sums settings l) (count_of Curve d.0)) refl (sym (ap number_of h) ∙ chosen_number d.0 q)

  12-if-fails : (d : ℕ) → IsChosen settings l d → inverse_fails (ledger_sums settings l) (count_of Curve d) ≡ true → o.answer ≡ refused_by 12
  unfolding S b report_of
  12-if-fails d w h = answered (Some (degree d)) (chosen_is S b d w) ∙ (rw h)

  otherwise : (d : ℕ) → IsChosen settings l d → inverse_fails (ledger_sums settings l) (count_of Curve d) ≡ false
      → o ≡ written_by Curve (length l) settings (rows_of l) d (solved_count (scored settings l) (degrees settings l)) (solve (ledger_sums settings l) (count_of Curve d)).c (covariance_at (ledger_sums settings l) (rows_of l) (count_of Curve d))
  unfolding S b report_of
  otherwise d w h = e ∙ ap (report_by settings l) (chosen_is S b d w) ∙ (rw h)

  one_chosen : (d e : ℕ) → IsChosen settings l d → IsChosen settings l e → d ≡ e
  unfolding S b
  one_chosen d f v w =
      ap (λ (c : Option Degree). numbered c) (sym (chosen_is S b d v) ∙ chosen_is S b f w)
    where
      numbered : Option Degree → ℕ
      numbered None = 0
      numbered (Some d) = d.0

  pub words_of : Words settings l o
  unfolding S b
  words_of =
      record {
        none_below = none_below S b;
        attained = attained S b;
        one_chosen = one_chosen;
        none_if_11 = none_if_11;
        11-if-none = 11-if-none;
        fails_if_12 = fails_if_12;
        12-if-fails = 12-if-fails;
        otherwise = otherwise;
      }
