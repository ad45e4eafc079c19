-- What a report may answer, by document 01's numbers, and calls that are refused as it is.
use Rattle.std.specs.Prelude.{◌≡◌, refl, Bool, true, false, cond, Float, Option, Some, None, Result, Ok}
use Rattle.std.proofs.Math.Path.{sym}
use Rattle.std.proofs.Common.{ap, ◌∙◌}
use mathlib.Core.List.{List, [], ◌∷◌, Memᴰ}
use Prim.Native.Nat.{ℕ, zero, suc}
use Rattle.basis.specs.Counts.{count_of}
use Rattle.basis.specs.declared.Basis.TheVariants.{Curve}
use Rattle.basis.specs.declared.Degree.{Degree}
use Rattle.samples.specs.declared.Sample.{Sample}
use Rattle.monomial.specs.Rows.{Row, rows_of}
use Rattle.solve.specs.Solve.{solve}
use Rattle.fit.specs.declared.Choice.{Choice}
use Rattle.refusal.specs.Refusals.{settle, InOrder, those, is_among}
use Rattle.refusal.specs.declared.refusals.Refusal.{Refusal}
use Rattle.refusal.specs.Named.{refused_by, number_of}
use Rattle.refusal.specs.NamedLaws.{answer_among}
use Rattle.measure.specs.Measures.{inverse_fails, covariance_at}
use Rattle.settings.specs.declared.Settings.{Settings}
use Rattle.reporting.specs.declared.Places.{Places}
use Rattle.reporting.specs.declared.Report.{Report}
use Rattle.reporting.specs.Chosen.{chosen_refusal, of_chosen}
use Rattle.reporting.specs.ChosenLaws.{of_told, of_number, chosen_numbers}
use Rattle.reporting.specs.LimitedLaws.{report_number_lem}
use Rattle.report.specs.Refusals.{report_refusal}
use Rattle.report.specs.RefusalLaws.{report_numbers}
use Rattle.reporting.specs.Reports.{ReportAnswer, ReportOut, refused_late, refused_early, written_by, report_of}
use Rattle.report.specs.Reports.{report_choice, report_past, report_on}

pub report_answers : (n : ℕ) (settings : Settings) (samples : List Sample) (sums : List Float) (columns : List ℕ) (length : ℕ) (places : Places)
    → Memᴰ (number_of (report_on n settings samples sums columns length places).answer) (0 ∷ 1 ∷ 4 ∷ 7 ∷ 8 ∷ 11 ∷ 12 ∷ [])
unfolding report_on report_past
report_answers n settings samples sums columns length places =
    answer_among (λ (o : ReportOut). o.answer) (report_refusal n settings samples columns length places) (report_past n settings (rows_of samples) sums) _
    (0 ∷ 1 ∷ 4 ∷ 7 ∷ 8 ∷ []) (11 ∷ 12 ∷ []) refl (report_numbers n settings samples columns length places) refl
    (rw (report_number_lem Curve n settings (rows_of samples) sums _ _) (chosen_numbers Curve _ sums))

-- they too stand in the checking order
pub answers_in_order : InOrder (1 ∷ 4 ∷ 7 ∷ 8 ∷ 11 ∷ 12 ∷ [])
unfolding those is_among
answers_in_order = refl

-- a report that is answered is one of the chosen degree
written_degree : (n : ℕ) (settings : Settings) (rows : List Row) (e solved : ℕ) (c v : List Float) {a : Report}
    → (written_by Curve n settings rows e solved c v).answer ≡ Ok a → record { 0 = e } ≡ a.degree
unfolding written_by
written_degree n settings rows e solved c v {a} h = go h
  where
    go : {b : Report} → ◌≡◌ {A = ReportAnswer} (Ok b) (Ok a) → b.degree ≡ a.degree
    go q = cc

answered : (n : ℕ) (settings : Settings) (rows : List Row) (sums : List Float) (solved : ℕ) (o : Option Degree) {a : Report}
    → (report_of Curve n settings rows sums solved o).answer ≡ Ok a → (o ≡ Some a.degree) × (chosen_refusal Curve (Some a.degree) sums ≡ 0)
unfolding report_of chosen_refusal
answered n settings rows sums solved None h = absurd cc
answered n settings rows sums solved (Some e) {a} h =
    let k = count_of Curve e.0 in
    go (inverse_fails sums k) refl _ (written_degree n settings rows e.0 solved (solve sums k).c (covariance_at sums rows k)) h
  where
    go : (t : Bool) → inverse_fails sums (count_of Curve e.0) ≡ t → (w : ReportOut) → (w.answer ≡ Ok a → e ≡ a.degree)
        → (cond t (refused_late n 12) w).answer ≡ Ok a → (Some e ≡ Some a.degree) × (◌≡◌ {A = ℕ} (cond (inverse_fails sums (count_of Curve a.degree.0)) 12 0) 0)
    go true z w f q = absurd cc
    go false z w f q =
        let same = f q in
        (ap (λ x. Some x) same, rw (← same, z))

-- ---- another call that is refused as a report is, by a number q from 1 to 9 and then by the choice

module _ {A : Type 0} (n : ℕ) (settings : Settings) (samples : List Sample) (sums : List Float) (columns : List ℕ) (length : ℕ) (places : Places) (q : ℕ) (early late : ℕ → A) (told : Degree → A) where
  -- its number
  pub number_alike : {B : Type 0} (answer : A → Result B Refusal) → ((r : ℕ) → answer (early r) ≡ refused_by r) → ((r : ℕ) → answer (late r) ≡ refused_by r) → ((d : Degree) → number_of (answer (told d)) ≡ 0)
      → q ≡ report_refusal n settings samples columns length places
      → number_of (answer (settle q (of_chosen Curve sums late told (report_choice n settings (rows_of samples) sums).chosen) (early q))) ≡ number_of (report_on n settings samples sums columns length places).answer
  unfolding report_on report_past
  number_alike answer f l t e =
      rw e
      (go (report_refusal n settings samples columns length places) _
      (of_number Curve sums late told (λ a. number_of (answer a)) (ap number_of (l 11)) (ap number_of (l 12)) t _ ∙ sym (report_number_lem Curve n settings (rows_of samples) sums _ _)))
    where
      go : (r : ℕ) (b : ReportOut) → number_of (answer (of_chosen Curve sums late told (report_choice n settings (rows_of samples) sums).chosen)) ≡ number_of b.answer
          → number_of (answer (settle r (of_chosen Curve sums late told (report_choice n settings (rows_of samples) sums).chosen) (early r))) ≡ number_of (settle r b (refused_early r)).answer
      go zero b h = h
      go (suc r) b h = ap number_of (f (suc r))

  -- where a report tells of a degree, it is the chosen one, and the call tells of it
  pub told_alike : (report_refusal n settings samples columns length places ≡ 0 → q ≡ 0)
      → {a : Report} → (report_on n settings samples sums columns length places).answer ≡ Ok a
      → ((report_choice n settings (rows_of samples) sums).chosen ≡ Some a.degree)
      × (settle q (of_chosen Curve sums late told (report_choice n settings (rows_of samples) sums).chosen) (early q) ≡ told a.degree)
  unfolding report_on report_past
  told_alike f {a} e = go (report_refusal n settings samples columns length places) f e
    where
      choice : Choice
      choice = report_choice n settings (rows_of samples) sums

      go : (r : ℕ) → (r ≡ 0 → q ≡ 0) → (settle r (report_of Curve n settings (rows_of samples) sums choice.solved choice.chosen) (refused_early r)).answer ≡ Ok a
          → (choice.chosen ≡ Some a.degree) × (settle q (of_chosen Curve sums late told choice.chosen) (early q) ≡ told a.degree)
      go zero g h =
          let w = answered n settings (rows_of samples) sums choice.solved choice.chosen h in
          (w.0, rw (g refl, w.0) (of_told Curve sums late told a.degree w.1))
      go (suc r) g h = absurd cc
