-- Laws of Samples.antt: the rows of such samples, their sums, and the tests that refuse them.
use Rattle.std.specs.Prelude.{◌≡◌, List, ℕ, get_or}
use Rattle.std.proofs.Math.Path.{refl}
use Rattle.std.proofs.Common.{ap, ap₂}
use Rattle.std.specs.Float.{nan}
use Rattle.std.specs.Float.Ieee.{lt}
use Rattle.basis.specs.Sizes.{max_terms}
use Rattle.basis.specs.declared.Basis.TheVariants.{Surface}
use Rattle.loops.specs.Places.{table}
use Rattle.value.specs.Power.{power_f}
use Rattle.value.specs.Numbers.{zero_f}
use Rattle.samples.specs.Samples.{xs_of}
use Rattle.samples.specs.declared.Sample.{Sample}
use Rattle.monomial.specs.Terms.{terms_at}
use Rattle.monomial.specs.Rows.{row_of, rows_of, weighted_of, weighted_rows}
use Rattle.monomial.specs.Plain.{at_one}
use Rattle.monomial.specs.Sums.{sums_of}
use Rattle.refusal.specs.Tests.{sample_finite, all_finite, weight_above, all_above}
use Rattle.surface.specs.Points.{Point, PointColumns, point_at, points_of, xs_in, zs_in, row_of_point, rows_of_points, surface_sums}
use Rattle.surface.specs.Refusals.{point_finite, points_finite}
use Rattle.signs.specs.OppositeLaws.{opposite_nan}
use Rattle.signs.specs.Steps.{finite_opposite}
use Rattle.mirror.specs.PairLaws.{pairs_length, pairs_at, pairs_table, pairs_map, pairs_equal, pairs_all}
use Rattle.mirror.specs.Mirror.{MirrorRow, MirrorRows, MirrorWeighted, MirrorWeights, Opposites, MirrorSums}
use Rattle.mirror.specs.SumLaws.{sums_mirror}
use Rattle.mirrored.specs.Samples.{MirrorSample, MirrorSamples, MirrorPoint, MirrorPoints, MirrorPointColumns}

-- ---- a book's samples

row_mirror : (p q : Sample) → MirrorSample p q → MirrorRow (row_of p) (row_of q)
unfolding row_of
row_mirror p q h = record { terms = ap (λ x. table (power_f x) max_terms) h.x; y = h.y }

pub sample_finite_mirror : (p q : Sample) → MirrorSample p q → sample_finite p ≡ sample_finite q
sample_finite_mirror p q h = rw (h.x, finite_opposite h.y, h.w)

pub weight_above_mirror : (p q : Sample) → MirrorSample p q → weight_above p ≡ weight_above q
weight_above_mirror p q h = ap (lt zero_f) h.w

module _ {ps qs : List Sample} (p : MirrorSamples ps qs) where
  pub rows_mirror : MirrorRows (rows_of ps) (rows_of qs)
  rows_mirror = pairs_map MirrorRow row_of row_of row_mirror p

  pub weights_mirror : MirrorWeights (weighted_rows ps) (weighted_rows qs)
  weights_mirror = pairs_map MirrorWeighted weighted_of weighted_of (λ a b h. record { row = row_mirror a b h; weight = h.w }) p

  pub book_sums_mirror : MirrorSums (sums_of (weighted_rows ps)) (sums_of (weighted_rows qs))
  book_sums_mirror = sums_mirror weights_mirror

  pub xs_mirror : xs_of ps ≡ xs_of qs
  xs_mirror = pairs_equal (λ (a : Sample). a.x) (λ (b : Sample). b.x) (λ a b h. h.x) p

  pub all_finite_mirror : all_finite ps ≡ all_finite qs
  all_finite_mirror = pairs_all sample_finite sample_finite sample_finite_mirror p

  pub all_above_mirror : all_above ps ≡ all_above qs
  all_above_mirror = pairs_all weight_above weight_above weight_above_mirror p

-- ---- a surface's

point_row_mirror : (p q : Point) → MirrorPoint p q → MirrorRow (row_of_point p) (row_of_point q)
unfolding row_of_point
point_row_mirror p q h = record { terms = ap₂ (terms_at Surface) h.x h.z; y = h.y }

module _ {ps qs : List Point} (p : MirrorPoints ps qs) where
  pub point_rows_mirror : MirrorRows (rows_of_points ps) (rows_of_points qs)
  point_rows_mirror = pairs_map MirrorRow row_of_point row_of_point point_row_mirror p

  pub surface_sums_mirror : MirrorSums (surface_sums ps) (surface_sums qs)
  unfolding surface_sums
  surface_sums_mirror = sums_mirror (pairs_map MirrorWeighted at_one at_one (λ a b h. record { row = h; weight = refl }) point_rows_mirror)

  pub xs_in_mirror : xs_in ps ≡ xs_in qs
  xs_in_mirror = pairs_equal (λ (a : Point). a.x) (λ (b : Point). b.x) (λ a b h. h.x) p

  pub zs_in_mirror : zs_in ps ≡ zs_in qs
  zs_in_mirror = pairs_equal (λ (a : Point). a.z) (λ (b : Point). b.z) (λ a b h. h.z) p

  pub points_finite_mirror : points_finite ps ≡ points_finite qs
  points_finite_mirror = pairs_all point_finite point_finite (λ a b h. rw (h.x, h.z, finite_opposite h.y)) p

-- columns mirrored whole are so for every count
pub columns_mirror : {c d : PointColumns} → c.xs ≡ d.xs → c.zs ≡ d.zs → Opposites c.ys d.ys → (n : ℕ) → MirrorPointColumns n c d
unfolding points_of
columns_mirror {c} {d} x z y n =
    record {
      points =
          pairs_table (point_at c) (point_at d) n
          (λ t l. record { x = ap (λ s. get_or s t nan) x; z = ap (λ s. get_or s t nan) z; y = pairs_at y opposite_nan t });
      lengths = rw (x, z, pairs_length y);
    }
