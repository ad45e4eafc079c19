-- What the losses come to: refused by 1 to 9, refused by 11 or 12, or told.
use Rattle.std.specs.Prelude.{Ok, Err}
use Rattle.std.proofs.Common.{le_refl, take_all}
use mathlib.Core.Path.{◌≡◌, refl, ap, ap₂, ◌∙◌}
use mathlib.Core.List.{List, ◌++◌, map}
use Prim.Native.Nat.{ℕ, zero, suc, ◌≤◌}
use native.Mathlib.Omega.{arith}
use lib.ListN.{length, get_or, take, drop, length-map}
use lib.Ieee.{Float, nan}
use Rattle.loops.specs.Places.{each}
use Rattle.loops.specs.PlaceLaws.{each_write, map_table, table_take}
use Rattle.loops.specs.Within.{Within}
use Rattle.loops.specs.WithinLaws.{within_then, within_written, front_written}
use Rattle.basis.specs.Counts.{count_of}
use Rattle.basis.specs.declared.Basis.TheVariants.{Curve}
use Rattle.basis.specs.declared.Degree.{Degree}
use Rattle.value.specs.Absolute.{abs_f}
use Rattle.value.specs.Total.{total_f}
use Rattle.statistics.specs.Losses.{huber_loss, losses}
use Rattle.statistics.specs.LossLaws.{losses_sizes}
use Rattle.statistics.specs.Degrees.{max_degree}
use Rattle.monomial.specs.Rows.{Row}
use Rattle.score.specs.Score.{score_of}
use Rattle.fit.specs.Residuals.{residual, residuals}
use Rattle.refusal.specs.declared.refusals.Refusal.{Refusal}
use Rattle.refusal.specs.Named.{refused_by}
use Rattle.refusal.specs.Refusals.{settle}
use Rattle.lent.specs.Slices.{contents_of}
use Rattle.lent.specs.Written.{zeros}
use Rattle.lent.specs.WrittenLaws.{over_by, over_cleared}
use Rattle.settings.specs.declared.Settings.{Settings}
use Rattle.reporting.specs.declared.Chosen.{Chosen}
use Rattle.reporting.specs.Chosen.{chosen_refusal, Chooses}
use Rattle.reporting.specs.ChosenLaws.{of_late, of_told, none_found, one_found}
use Rattle.report.specs.Reports.{report_choice}
use Rattle.report.specs.ChosenLaws.{chosen_solved}
use Rattle.losses.specs.Losses.{LossAnswer, LossOut, LossIs, loss_refused, loss_late, losses_at, losses_by, loss_of, loss_past}
use Rattle.losses.specs.LossLaws.{length_losses_at}

-- the losses of all numbers are written
pub losses_written : (constant mad : Float) (a out : List Float) → length a ≤ length out
    → each (λ j _. huber_loss (get_or a j nan) constant mad) (length a) out ≡ map (λ r. huber_loss r constant mad) a ++ drop (length a) out
losses_written constant mad a out h =
    let n = length a in
    each_write (λ j. huber_loss (get_or a j nan) constant mad) n out h
    ∙ ap (λ l. l ++ drop n out) (map_table (λ r. huber_loss r constant mad) (λ j. get_or a j nan) n ∙ ap (map (λ r. huber_loss r constant mad)) (table_take nan n a (le_refl n) ∙ take_all n a (le_refl n)))

-- refused by q, one of 1 to 9
pub refused_early_lem : (q : ℕ) (past : LossOut) (s l : List Float) {r : LossAnswer} → (q ≡ 0 → ⊥) × (r ≡ refused_by q) → LossIs (settle q past (loss_refused q)) r (contents_of s s) (contents_of l l)
refused_early_lem zero past s l h = absurd (h.0 refl)
refused_early_lem (suc k) past s l h = record { answer = h.1; scratch = refl; losses = refl }

-- let through by 1 to 9: the rows are those of the samples
pub let_through : (q n : ℕ) (settings : Settings) (rows own : List Row) (sums : List Float) (r : LossAnswer) (s s' l l' : List Float) → q ≡ 0 → rows ≡ own
    → LossIs (loss_past n settings rows sums) r (contents_of s s') (contents_of l l')
    → LossIs (settle q (loss_past n settings own sums) (loss_refused q)) r (contents_of s s') (contents_of l l')
let_through q n settings rows own sums r s s' l l' e same f = rw (e, ← same) f

module _ (n : ℕ) (settings : Settings) (rows : List Row) (sums : List Float) where
  -- m is what was chosen, and u scratch after it
  module _ (s u c c' v v' : List Float) (m : Chosen) (ch : Chooses Curve (report_choice n settings rows sums) n rows sums s u c c' v v' m) where
    -- 11 or 12: scratch is cleared
    pub refused_late_lem : {e : Refusal} {r : LossAnswer} → m.found ≡ Err e → r ≡ Err e → (l t : List Float) → t ≡ zeros n ++ drop n u
        → LossIs (loss_past n settings rows sums) r (contents_of s t) (contents_of l l)
    unfolding loss_past loss_of
    refused_late_lem h q l t cleared =
        let o = (report_choice n settings rows sums).chosen in
        let w = none_found Curve rows sums c' v' o ch.found h in
        rw (of_late Curve sums (loss_late n) (λ d. losses_by n settings rows sums d.0) o (chosen_refusal Curve o sums) refl w.0)
        (record { answer = q ∙ ap (λ d. Err d) w.1; scratch = over_cleared n s u t ch.within cleared; losses = refl })

    module _ {e : Degree} (z : m.found ≡ Ok e) where
      -- the chosen degree has at most 16 coefficients
      pub few_terms : max_degree settings.bound n ≤ 15 → e.0 ≤ 15
      few_terms h = omega (arith, h, (chosen_solved n settings rows sums e (one_found Curve rows sums c' v' (report_choice n settings rows sums).chosen ch.found z).0).0)

      told_by : loss_past n settings rows sums ≡ losses_by n settings rows sums e.0
      unfolding loss_past loss_of
      told_by =
          let o = one_found Curve rows sums c' v' (report_choice n settings rows sums).chosen ch.found z in
          rw o.0 (of_told Curve sums (loss_late n) (λ d. losses_by n settings rows sums d.0) e o.1)

      -- k is the count of its coefficients; the sizes of their residuals were written to scratch, which w is now
      module _ (k : ℕ) (ek : k ≡ count_of Curve e.0) (rowed : length rows ≡ n) (w : List Float) (written : w ≡ map abs_f (residuals k c' rows) ++ drop n u) (h : n ≤ length u) where
        length_sizes : length (map abs_f (residuals k c' rows)) ≡ n
        unfolding residuals
        length_sizes = length-map (residuals k c' rows) abs_f ∙ length-map rows (residual k c') ∙ rowed

        sizes_within : Within n u w
        sizes_within = within_written n u w (map abs_f (residuals k c' rows)) written length_sizes h

        -- their losses are the definition's
        sizes_told : losses (take n w) ≡ losses_at sums rows (count_of Curve e.0)
        unfolding losses_at
        sizes_told =
            ap losses (front_written n u w (map abs_f (residuals k c' rows)) written length_sizes) ∙ losses_sizes (residuals k c' rows)
            ∙ (rw (ek, (one_found Curve rows sums c' v' (report_choice n settings rows sums).chosen ch.found z).2))

        -- they are told
        pub told_whole : (l l' t : List Float) (total score : Float) → total ≡ total_f (losses (take n w)) → l' ≡ losses (take n w) ++ drop n l
            → score ≡ score_of settings.criterion n k total → t ≡ zeros n ++ drop n w
            → LossIs (loss_past n settings rows sums) (Ok (record { degree = e; total = total; score = score })) (contents_of s t) (contents_of l l')
        unfolding losses_by
        told_whole l l' t total score et el es cleared =
            let told = losses_at sums rows (count_of Curve e.0) in
            let total_is : total ≡ total_f told = et ∙ ap total_f sizes_told in
            let q : score ≡ score_of settings.criterion n (count_of Curve e.0) (total_f told) = es ∙ ap₂ (λ j x. score_of settings.criterion n j x) ek total_is in
            rw told_by
            (record {
              answer = λ i. Ok (record { degree = e; total = total_is i; score = q i });
              scratch = over_cleared n s w t (within_then ch.within sizes_within) cleared;
              losses = over_by n told l l' (length_losses_at sums rows (count_of Curve e.0) ∙ rowed) (el ∙ ap (λ a. a ++ drop n l) sizes_told);
            })
