-- Laws of Bands.antt.
use Rattle.std.specs.Prelude.{refl, ℕ, Float}
use mathlib.Core.List.{List, [], ◌∷◌, Memᴰ}
use Rattle.statistics.specs.declared.Confidence.{Confidence}
use Rattle.statistics.specs.declared.Tolerance.{Tolerance}
use Rattle.basis.specs.declared.Basis.{Basis}
use Rattle.monomial.specs.Rows.{Row}
use Rattle.refusal.specs.Laws.{numbered}
use Rattle.refusal.specs.Named.{number_of}
use Rattle.refusal.specs.NamedLaws.{number_judged, settled_number}
use Rattle.measure.specs.Measures.{measure_refusal}
use Rattle.measure.specs.Bands.{band_past}

-- past refusals 1 to 9 it is refused by 10 or 12 or not at all
pub band_past_number : (basis : Basis) (n : ℕ) (x z : Float) (degree : ℕ) (confidence : Confidence) (tolerance : Tolerance) (rows : List Row) (sums : List Float)
    → Memᴰ (number_of (band_past basis n x z degree confidence tolerance rows sums).answer) (0 ∷ 10 ∷ 12 ∷ [])
unfolding band_past measure_refusal
band_past_number basis n x z degree confidence tolerance rows sums = rw (settled_number _ _ refl (number_judged _ refl (numbered _))) (numbered _)
