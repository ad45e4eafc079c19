-- Laws of Bands.antt.
use Rattle.std.specs.Prelude.{refl, ℕ, Float}
use mathlib.Core.List.Memᴰ
use mathlib.Core.List.{List, [], ◌∷◌, Memᴰ}
use Rattle.std.proofs.Common.{⊎_elim}
use Rattle.statistics.specs.declared.Confidence.{Confidence}
use Rattle.statistics.specs.declared.Tolerance.{Tolerance}
use Rattle.basis.specs.declared.Basis.TheVariants.{Curve}
use Rattle.samples.specs.declared.Sample.{Sample}
use Rattle.monomial.specs.Rows.{rows_of}
use Rattle.refusal.specs.Named.{number_of}
use Rattle.refusal.specs.NamedLaws.{answer_among}
use Rattle.measure.specs.Bands.{BandOut, band_past}
use Rattle.measure.specs.BandLaws.{band_past_number}
use Rattle.query.specs.Refusals.{band_refusal}
use Rattle.query.specs.RefusalLaws.{band_numbers_lem}
use Rattle.query.specs.Bands.{band_for}

-- 0, 10 or 12 among these
past_among : (k : ℕ) → Memᴰ k (0 ∷ 10 ∷ 12 ∷ []) → Memᴰ k (0 ∷ 1 ∷ 4 ∷ 7 ∷ 8 ∷ 9 ∷ 10 ∷ 12 ∷ [])
past_among k h =
    ⊎_elim (λ e. Memᴰ.head e) (λ m. Memᴰ.append_right (0 ∷ 1 ∷ 4 ∷ 7 ∷ 8 ∷ 9 ∷ []) m) (Memᴰ.cases_cons h)

-- what a band may answer, by document 01's numbers
pub band_answers : (n : ℕ) (x : Float) (degree : ℕ) (confidence : Confidence) (tolerance : Tolerance) (samples : List Sample) (sums : List Float) (columns : List ℕ) (places scratch : ℕ)
    → Memᴰ (number_of (band_for n x degree confidence tolerance samples sums columns places scratch).answer) (0 ∷ 1 ∷ 4 ∷ 7 ∷ 8 ∷ 9 ∷ 10 ∷ 12 ∷ [])
unfolding band_for
band_answers n x degree confidence tolerance samples sums columns places scratch =
    answer_among (λ (o : BandOut). o.answer) (band_refusal n x degree confidence tolerance samples columns places scratch)
    (band_past Curve n x x degree confidence tolerance (rows_of samples) sums) _ (0 ∷ 1 ∷ 4 ∷ 7 ∷ 8 ∷ 9 ∷ []) (10 ∷ 12 ∷ []) refl
    (band_numbers_lem n samples columns places scratch x degree confidence tolerance) refl (past_among _ (band_past_number Curve n x x degree confidence tolerance (rows_of samples) sums))
