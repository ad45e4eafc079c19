-- Laws of Losses.antt: what the losses may answer, that they answer where a report does, and that their total is the one that the chosen score is made of.
use Rattle.std.specs.Prelude.{◌≡◌, refl, true, false, ℕ, zero, suc, ◌+◌, length, Float, Option, Some, Ok, unwrap_or}
use Rattle.std.proofs.Common.{ap, ◌∙◌, arith}
use Rattle.value.specs.Numbers.{zero_f}
use mathlib.Core.List.{List, [], ◌∷◌, Memᴰ}
use Rattle.std.proofs.lemmas.List.{length-map}
use Rattle.loops.specs.PlaceLaws.{table_at}
use Rattle.basis.specs.Counts.{count_of}
use Rattle.basis.specs.declared.Basis.TheVariants.{Curve}
use Rattle.basis.specs.declared.Degree.{Degree}
use Rattle.value.specs.Total.{total_f}
use Rattle.statistics.specs.Degrees.{max_degree}
use Rattle.statistics.specs.Losses.{huber_const, huber_loss, losses}
use Rattle.statistics.specs.Medians.{median_absolute_deviation}
use Rattle.samples.specs.declared.Sample.{Sample}
use Rattle.monomial.specs.Rows.{Row, row_of, rows_of}
use Rattle.solve.specs.Solve.{solve}
use Rattle.score.specs.Score.{score_of}
use Rattle.score.specs.declared.Criterion.{Criterion}
use Rattle.choice.specs.Laws.{score_some}
use Rattle.fit.specs.Residuals.{residual, residuals}
use Rattle.fit.specs.Solved.{is_solved, score_on, scored_by}
use Rattle.fit.specs.Chosen.{choice_of, counts_of, tried}
use Rattle.refusal.specs.Refusals.{settle, first_of}
use Rattle.refusal.specs.Named.{refused_by, number_of}
use Rattle.refusal.specs.NamedLaws.{answer_among}
use Rattle.refusal.specs.Tests.{too_short}
use Rattle.refusal.specs.RoomLaws.{long_enough}
use Rattle.measure.specs.Measures.{inverse_fails}
use Rattle.lent.specs.Written.{zeros}
use Rattle.settings.specs.declared.Settings.{Settings}
use Rattle.reporting.specs.declared.Places.{Places}
use Rattle.reporting.specs.declared.Report.{Report}
use Rattle.report.specs.Refusals.{report_needs, report_refusal}
use Rattle.report.specs.RefusalLaws.{report_room}
use Rattle.report.specs.ReportLaws.{number_alike, told_alike}
use Rattle.reporting.specs.Chosen.{chosen_refusal}
use Rattle.reporting.specs.ChosenLaws.{of_either, of_number, chosen_numbers}
use Rattle.report.specs.Reports.{report_choice, report_on}
use Rattle.report.specs.ChosenLaws.{chosen_solved}
use Rattle.losses.specs.declared.LossTotals.{LossTotals}
use Rattle.losses.specs.Refusals.{loss_needs, loss_refusal}
use Rattle.losses.specs.RefusalLaws.{loss_numbers_lem}
use Rattle.losses.specs.Losses.{LossAnswer, LossOut, loss_late, loss_refused, losses_at, losses_by, loss_of, loss_past, loss_on}

-- ---- what they may answer, by document 01's numbers

by_number : (n : ℕ) (settings : Settings) (rows : List Row) (sums : List Float) (degree : ℕ) → number_of (losses_by n settings rows sums degree).answer ≡ 0
unfolding losses_by
by_number n settings rows sums degree = refl

-- past 1 to 9 it is the number of the choice
past_number : (n : ℕ) (settings : Settings) (rows : List Row) (sums : List Float) (o : Option Degree) → number_of (loss_of n settings rows sums o).answer ≡ chosen_refusal Curve o sums
unfolding loss_of
past_number n settings rows sums = of_number Curve sums (loss_late n) _ (λ w. number_of w.answer) refl refl (λ d. by_number n settings rows sums d.0)

pub loss_answers : (n : ℕ) (settings : Settings) (samples : List Sample) (sums : List Float) (columns : List ℕ) (places scratch losses : ℕ)
    → Memᴰ (number_of (loss_on n settings samples sums columns places scratch losses).answer) (0 ∷ 1 ∷ 4 ∷ 7 ∷ 8 ∷ 11 ∷ 12 ∷ [])
unfolding loss_on loss_past
loss_answers n settings samples sums columns places scratch losses =
    answer_among (λ (o : LossOut). o.answer) (loss_refusal n settings samples columns places scratch losses) (loss_past n settings (rows_of samples) sums) _
    (0 ∷ 1 ∷ 4 ∷ 7 ∷ 8 ∷ []) (11 ∷ 12 ∷ []) refl (loss_numbers_lem n settings samples columns places scratch losses) refl
    (rw (past_number n settings (rows_of samples) sums _) (chosen_numbers Curve _ sums))

-- ---- they answer where a report answers, and are refused by its number where it is refused

-- past 1
pub same_refusal : (n : ℕ) (settings : Settings) (samples : List Sample) (columns : List ℕ) (places scratch losses : ℕ) (lent : Places)
    → too_short n columns (loss_needs n places scratch losses) ≡ false → too_short n columns (report_needs n places lent) ≡ false
    → loss_refusal n settings samples columns places scratch losses ≡ report_refusal n settings samples columns places lent
unfolding loss_refusal report_refusal first_of
same_refusal n settings samples columns places scratch losses lent h q = rw (h, q)

pub same_answer : (n : ℕ) (settings : Settings) (samples : List Sample) (sums : List Float) (columns : List ℕ) (places scratch losses : ℕ) (lent : Places)
    → too_short n columns (loss_needs n places scratch losses) ≡ false → too_short n columns (report_needs n places lent) ≡ false
    → number_of (loss_on n settings samples sums columns places scratch losses).answer ≡ number_of (report_on n settings samples sums columns places lent).answer
unfolding loss_on loss_past loss_of
same_answer n settings samples sums columns places scratch losses lent h q =
    number_alike n settings samples sums columns places lent (loss_refusal n settings samples columns places scratch losses) loss_refused (loss_late n)
    (λ d. losses_by n settings (rows_of samples) sums d.0) (λ w. w.answer) (λ r. refl) (λ r. refl)
    (λ d. by_number n settings (rows_of samples) sums d.0) (same_refusal n settings samples columns places scratch losses lent h q)

-- so where a report tells a degree, it is the chosen one, and the losses are told of it
pub told_with_report : (n : ℕ) (settings : Settings) (samples : List Sample) (sums : List Float) (columns : List ℕ) (places scratch losses : ℕ) (lent : Places)
    → too_short n columns (loss_needs n places scratch losses) ≡ false
    → {a : Report} → (report_on n settings samples sums columns places lent).answer ≡ Ok a
    → ((report_choice n settings (rows_of samples) sums).chosen ≡ Some a.degree)
    × (loss_on n settings samples sums columns places scratch losses ≡ losses_by n settings (rows_of samples) sums a.degree.0)
unfolding loss_on loss_past loss_of
told_with_report n settings samples sums columns places scratch losses lent h =
    told_alike n settings samples sums columns places lent (loss_refusal n settings samples columns places scratch losses) loss_refused (loss_late n)
    (λ d. losses_by n settings (rows_of samples) sums d.0)
    (λ z.
    same_refusal n settings samples columns places scratch losses lent h (long_enough n columns (report_needs n places lent) (report_room n settings samples columns places lent z).room) ∙ z)

-- ---- the total

known_score : (criterion : Criterion) (rows : List Row) (sums : List Float) (k j : ℕ) → j ≡ k → is_solved sums rows k ≡ true
    → Some (score_of criterion (length rows) k (total_f (losses_at sums rows k))) ≡ scored_by criterion sums rows rows j
unfolding scored_by score_on losses_at
known_score criterion rows sums k j e h = rw (e, h)

-- the score of the choice is made of the total of the chosen degree's losses
pub chosen_total : (settings : Settings) (rows : List Row) (sums : List Float) (d : Degree) → (report_choice (length rows) settings rows sums).chosen ≡ Some d
    → score_of settings.criterion (length rows) (count_of Curve d.0) (total_f (losses_at sums rows (count_of Curve d.0)))
    ≡ (report_choice (length rows) settings rows sums).score
unfolding report_choice choice_of tried
chosen_total settings rows sums d h =
    let b = max_degree settings.bound (length rows) in
    let s = chosen_solved (length rows) settings rows sums d h in
    ap (λ (v : Option Float). unwrap_or v zero_f) (known_score settings.criterion rows sums (count_of Curve d.0) _ (table_at (count_of Curve) (b + 1) d.0 0 (omega (arith, s.0))) s.1)
    ∙ score_some (tried settings.criterion sums rows (counts_of Curve b)) _ d h

told_by : (n : ℕ) (settings : Settings) (rows : List Row) (sums : List Float) (d : Degree)
    → (report_choice n settings rows sums).chosen ≡ Some d → inverse_fails sums (count_of Curve d.0) ≡ false
    → loss_past n settings rows sums ≡ losses_by n settings rows sums d.0
unfolding loss_past loss_of
told_by n settings rows sums d h f = rw (h, f)

score_of_rows : (settings : Settings) (rows : List Row) (sums : List Float) (d : Degree)
    → (report_choice (length rows) settings rows sums).chosen ≡ Some d → inverse_fails sums (count_of Curve d.0) ≡ false
    → (loss_past (length rows) settings rows sums).answer
    ≡ Ok (record { degree = d; total = total_f (loss_past (length rows) settings rows sums).losses; score = (report_choice (length rows) settings rows sums).score })
unfolding losses_by
score_of_rows settings rows sums d h f =
    rw (told_by (length rows) settings rows sums d h f)
    (ap (λ v. Ok (record { degree = d; total = total_f (losses_at sums rows (count_of Curve d.0)); score = v })) (chosen_total settings rows sums d h))

-- and so it is the score that is answered
pub score_is_chosen : (n : ℕ) (settings : Settings) (rows : List Row) (sums : List Float) (d : Degree) → n ≡ length rows
    → (report_choice n settings rows sums).chosen ≡ Some d → inverse_fails sums (count_of Curve d.0) ≡ false
    → (loss_past n settings rows sums).answer
    ≡ Ok (record { degree = d; total = total_f (loss_past n settings rows sums).losses; score = (report_choice n settings rows sums).score })
score_is_chosen n settings rows sums d l h f = rw l (score_of_rows settings rows sums d (rw l at h) f)

-- ---- how many are written

pub length_losses_at : (sums : List Float) (rows : List Row) (k : ℕ) → length (losses_at sums rows k) ≡ length rows
unfolding losses_at losses residuals
length_losses_at sums rows k =
    let rs = residuals k (solve sums k).c rows in
    length-map rs (λ r. huber_loss r huber_const (median_absolute_deviation rs)) ∙ length-map rows (residual k (solve sums k).c)

-- ---- where they are told, the total is that of the losses written, and these are n

abbrev Told : ℕ → LossOut → Type 0
Told n o = (a : LossTotals) → o.answer ≡ Ok a → (a.total ≡ total_f o.losses) × (length o.losses ≡ n)

none_told : (n r : ℕ) (s : List Float) → Told n (record { answer = refused_by r; scratch = s; losses = [] })
none_told n r s a h = absurd cc

by_told : (n : ℕ) (settings : Settings) (rows : List Row) (sums : List Float) (degree : ℕ) → length rows ≡ n → Told n (losses_by n settings rows sums degree)
unfolding losses_by
by_told n settings rows sums degree l a h = (go h, length_losses_at sums rows (count_of Curve degree) ∙ l)
  where
    go : {b : LossTotals} → ◌≡◌ {A = LossAnswer} (Ok b) (Ok a) → a.total ≡ b.total
    go q = cc

of_told : (n : ℕ) (settings : Settings) (rows : List Row) (sums : List Float) (o : Option Degree) → length rows ≡ n → Told n (loss_of n settings rows sums o)
unfolding loss_of
of_told n settings rows sums o l = of_either Curve sums (loss_late n) _ (Told n) o (none_told n 11 (zeros n)) (none_told n 12 (zeros n)) (λ d e. by_told n settings rows sums d.0 l)

settled_told : (n r : ℕ) (w : LossOut) → Told n w → Told n (settle r w (loss_refused r))
settled_told n zero w h = h
settled_told n (suc r) w h = none_told n (suc r) []

pub losses_told : (n : ℕ) (settings : Settings) (samples : List Sample) (sums : List Float) (columns : List ℕ) (places scratch losses : ℕ) → length samples ≡ n
    → (a : LossTotals) → (loss_on n settings samples sums columns places scratch losses).answer ≡ Ok a
    → (a.total ≡ total_f (loss_on n settings samples sums columns places scratch losses).losses) × (length (loss_on n settings samples sums columns places scratch losses).losses ≡ n)
unfolding loss_on loss_past
losses_told n settings samples sums columns places scratch losses l =
    settled_told n (loss_refusal n settings samples columns places scratch losses) _ (of_told n settings (rows_of samples) sums _ (length-map samples row_of ∙ l))
