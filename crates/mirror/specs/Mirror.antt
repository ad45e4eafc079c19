-- What it is for rows, sums and bands to be alike but for the sign of y. Definitions only.
use Rattle.std.specs.Prelude.{◌≡◌, List, take, drop, Float}
use Rattle.basis.specs.Sizes.{matrix_places}
use Rattle.monomial.specs.Rows.{Row, WeightedRow}
use Rattle.covariance.specs.declared.Band.{Band}
use Rattle.signs.specs.Opposite.{Opposite}
use Rattle.mirror.specs.Pairs.{Pairs}

-- two rows alike but for the sign of y; with weights, these are equal
pub record MirrorRow (r q : Row) : Type 0 where
  pub terms : r.terms ≡ q.terms
  pub y : Opposite r.y q.y

pub record MirrorWeighted (r q : WeightedRow) : Type 0 where
  pub row : MirrorRow r.row q.row
  pub weight : r.weight ≡ q.weight

abbrev pub MirrorRows : List Row → List Row → Type 0
MirrorRows rs qs = Pairs MirrorRow rs qs

abbrev pub MirrorWeights : List WeightedRow → List WeightedRow → Type 0
MirrorWeights rs qs = Pairs MirrorWeighted rs qs

-- two lists of opposite numbers, place by place
abbrev pub Opposites : List Float → List Float → Type 0
Opposites l m = Pairs Opposite l m

-- two lists of sums: the 256 places of A are equal, and the later ones, those of g, are opposite
pub record MirrorSums (s t : List Float) : Type 0 where
  pub matrix : take matrix_places s ≡ take matrix_places t
  pub right : Opposites (drop matrix_places s) (drop matrix_places t)

-- two bands: the values are opposite, and lower and upper change places and sign
pub record MirrorBand (a b : Band) : Type 0 where
  pub value : Opposite a.value b.value
  pub lower : Opposite a.lower b.upper
  pub upper : Opposite a.upper b.lower
