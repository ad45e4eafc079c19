-- Samples alike but for the sign of y, of a book and of a surface. Definitions only.
use Rattle.std.specs.Prelude.{◌≡◌, List, ℕ}
use Rattle.samples.specs.declared.Sample.{Sample}
use Rattle.surface.specs.Points.{Point, PointColumns, point_lengths, points_of}
use Rattle.signs.specs.Opposite.{Opposite}
use Rattle.mirror.specs.Pairs.{Pairs}

pub record MirrorSample (p q : Sample) : Type 0 where
  pub x : p.x ≡ q.x
  pub y : Opposite p.y q.y
  pub w : p.w ≡ q.w

abbrev pub MirrorSamples : List Sample → List Sample → Type 0
MirrorSamples ps qs = Pairs MirrorSample ps qs

pub record MirrorPoint (p q : Point) : Type 0 where
  pub x : p.x ≡ q.x
  pub z : p.z ≡ q.z
  pub y : Opposite p.y q.y

abbrev pub MirrorPoints : List Point → List Point → Type 0
MirrorPoints ps qs = Pairs MirrorPoint ps qs

-- The columns that a surface's call of n samples is lent: these samples are mirrored, and the lengths, which 1 judges, are equal. What stands past the
-- count is free, since no call reads it.
pub record MirrorPointColumns (n : ℕ) (c d : PointColumns) : Type 0 where
  pub points : MirrorPoints (points_of n c) (points_of n d)
  pub lengths : point_lengths c ≡ point_lengths d
