-- What the scores come to: refused by 1 to 9, refused by 11 or 12, or told.
use Rattle.std.specs.Prelude.{Option, Ok, Err, IsErrAnd}
use mathlib.Core.Path.{◌≡◌, refl, ap, ◌∙◌}
use mathlib.Core.List.{List, ◌++◌, map}
use Prim.Native.Nat.{ℕ, zero, suc}
use lib.ListN.{length, drop, length-map}
use lib.Ieee.{Float}
use Rattle.basis.specs.declared.Basis.TheVariants.{Curve}
use Rattle.basis.specs.declared.Degree.{Degree}
use Rattle.statistics.specs.Degrees.{max_degree}
use Rattle.monomial.specs.Rows.{Row}
use Rattle.fit.specs.declared.Choice.{Choice}
use Rattle.refusal.specs.declared.refusals.Refusal.{Refusal}
use Rattle.refusal.specs.Named.{refused_by}
use Rattle.refusal.specs.NamedLaws.{given_back}
use Rattle.refusal.specs.Refusals.{settle}
use Rattle.lent.specs.Slices.{contents_of}
use Rattle.lent.specs.Written.{over, zeros}
use Rattle.lent.specs.WrittenLaws.{over_by, over_cleared}
use Rattle.settings.specs.declared.Settings.{Settings}
use Rattle.reporting.specs.declared.Chosen.{Chosen}
use Rattle.reporting.specs.Chosen.{chosen_refusal, of_chosen, Chooses}
use Rattle.reporting.specs.ChosenLaws.{of_late, of_told, none_found, one_found}
use Rattle.report.specs.Reports.{report_choice}
use Rattle.scores.specs.Scores.{ScoresAnswer, ScoresOut, ScoresIs, solved_mark, score_or_zero, scores_refused, scores_late, scores_by, scores_of, scores_past}
use Rattle.scores.specs.ScoreLaws.{length_scores}

-- refused by q, one of 1 to 9
pub refused_early_lem : (q : ℕ) (past : ScoresOut) (s : List Float) (b : List ℕ) (l : List Float) {r : ScoresAnswer} → (q ≡ 0 → ⊥) × (r ≡ refused_by q)
    → ScoresIs (settle q past (scores_refused q)) r (contents_of s s) (contents_of b b) (contents_of l l)
refused_early_lem zero past s b l h = absurd (h.0 refl)
refused_early_lem (suc k) past s b l h = record { answer = h.1; scratch = refl; solved = refl; scores = refl }

-- let through by 1 to 9: the rows are those of the samples
pub let_through : (q n : ℕ) (settings : Settings) (rows own : List Row) (sums : List Float) (r : ScoresAnswer) (s s' : List Float) (b b' : List ℕ) (l l' : List Float) → q ≡ 0 → rows ≡ own
    → ScoresIs (scores_past n settings rows sums) r (contents_of s s') (contents_of b b') (contents_of l l')
    → ScoresIs (settle q (scores_past n settings own sums) (scores_refused q)) r (contents_of s s') (contents_of b b') (contents_of l l')
let_through q n settings rows own sums r s s' b b' l l' e same f = rw (e, ← same) f

-- m is what was chosen, and u scratch after it, which was cleared
module _ (n : ℕ) (settings : Settings) (rows : List Row) (sums s u c c' v v' : List Float) (m : Chosen) (ch : Chooses Curve (report_choice n settings rows sums) n rows sums s u c c' v v' m)
    (t : List Float) (cleared : t ≡ zeros n ++ drop n u) where
  -- 11 or 12
  pub refused_late_lem : {e : Refusal} {r : ScoresAnswer} → m.found ≡ Err e → IsErrAnd r (λ d. d ≡ e) → (b : List ℕ) (l : List Float)
      → ScoresIs (scores_past n settings rows sums) r (contents_of s t) (contents_of b b) (contents_of l l)
  unfolding scores_past scores_of
  refused_late_lem h q b l =
      let choice = report_choice n settings rows sums in
      let w = none_found Curve rows sums c' v' choice.chosen ch.found h in
      rw (of_late Curve sums (scores_late n) (scores_by n (max_degree settings.bound n) choice) choice.chosen (chosen_refusal Curve choice.chosen sums) refl w.0)
      (record { answer = (given_back w q).1; scratch = over_cleared n s u t ch.within cleared; solved = refl; scores = refl })

  -- the chosen degree is told
  module _ {e : Degree} (z : m.found ≡ Ok e) where
    told_by : scores_past n settings rows sums ≡ scores_by n (max_degree settings.bound n) (report_choice n settings rows sums) e
    unfolding scores_past scores_of
    told_by =
        let choice = report_choice n settings rows sums in
        let o = one_found Curve rows sums c' v' choice.chosen ch.found z in
        let told = scores_by n (max_degree settings.bound n) choice in
        ap (λ (d : Option Degree). of_chosen Curve sums (scores_late n) told d) o.0 ∙ of_told Curve sums (scores_late n) told e o.1

    pub told_whole : (last : Degree) → last.0 ≡ max_degree settings.bound n
        → (b b' : List ℕ) (l l' : List Float) → b' ≡ map solved_mark m.choice.scores ++ drop 16 b → l' ≡ over (map score_or_zero m.choice.scores) l
        → ScoresIs (scores_past n settings rows sums)
        (Ok (record { degree = e; bound = last; solved = m.choice.solved; least = m.choice.least; tests = m.choice.tests })) (contents_of s t) (contents_of b b') (contents_of l l')
    unfolding scores_by
    told_whole last el b b' l l' eb es =
        let fl = ap (λ (o : Choice). length o.scores) ch.choice ∙ length_scores n settings rows sums in
        rw (told_by, ← ch.choice, ← el)
        (record {
          answer = refl;
          scratch = over_cleared n s u t ch.within cleared;
          solved = over_by 16 (map solved_mark m.choice.scores) b b' (length-map m.choice.scores solved_mark ∙ fl) eb;
          scores = es;
        })
