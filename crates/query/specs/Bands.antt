-- Document 01's band for one x and degree: what it answers and writes, from samples, sums and lengths. Definitions only.
use Rattle.std.specs.Prelude.{List, ℕ, length, take, Float}
use Rattle.basis.specs.Sizes.{sum_places}
use Rattle.basis.specs.declared.Basis.TheVariants.{Curve}
use Rattle.statistics.specs.declared.Confidence.{Confidence}
use Rattle.statistics.specs.declared.Tolerance.{Tolerance}
use Rattle.samples.specs.declared.Sample.{Sample}
use Rattle.samples.specs.Columns.{samples_of, Columns, lengths}
use Rattle.monomial.specs.Rows.{rows_of}
use Rattle.refusal.specs.Refusals.{settle}
use Rattle.measure.specs.Bands.{BandOut, band_refused, band_past}
use Rattle.query.specs.Refusals.{band_refusal}

-- a band of a book of n samples with these sums, columns, sums and scratch of these lengths
unfoldable pub band_for : ℕ → Float → ℕ → Confidence → Tolerance → List Sample → List Float → List ℕ → ℕ → ℕ → BandOut
band_for n x degree confidence tolerance samples sums columns places scratch =
    let r = band_refusal n x degree confidence tolerance samples columns places scratch in
    settle r (band_past Curve n x x degree confidence tolerance (rows_of samples) sums) (band_refused r)

-- the same on what stands in memory: what the call does
abbrev pub band_out : ℕ → Float → ℕ → Confidence → Tolerance → Columns → List Float → List Float → BandOut
band_out n x degree confidence tolerance columns sums scratch =
    band_for n x degree confidence tolerance (samples_of n columns) (take sum_places sums) (lengths columns) (length sums) (length scratch)
