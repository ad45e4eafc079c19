-- Pruning by size sees only the size of a coefficient, so that opposite coefficients are pruned alike. Document 01's rule sees the sign.
use Rattle.std.specs.Prelude.{◌≡◌, refl, Bool, true, false, ◌&&◌, List, ℕ, ltb, get_or, Float}
use Rattle.std.proofs.Common.{sym, ap, subst}
use Rattle.std.specs.Float.{nan, binary64}
use Rattle.std.specs.Float.Ieee.{of_bits, neg, div, lt}
use Rattle.loops.specs.PlaceLaws.{table_same}
use Rattle.value.specs.Absolute.{abs_f}
use Rattle.value.specs.Numbers.{epsilon, one_f, two_f}
use Rattle.covariance.specs.Marks.{mark}
use Rattle.covariance.specs.Pruning.{tested, prunes, pruned_at, pruned_bytes}
use Rattle.covariance.specs.declared.PruningRule.{PruningRule}
use Rattle.covariance.specs.declared.PruningRule.TheVariants as rules
use Rattle.signs.specs.Opposite.{Opposite}
use Rattle.signs.specs.OppositeLaws.{opposite_nan}
use Rattle.signs.specs.Steps.{abs_opposite}
use Rattle.mirror.specs.PairLaws.{pairs_at}
use Rattle.mirror.specs.Mirror.{Opposites}

pub prunes_mirror : (t error : Float) {c d : Float} → Opposite c d → prunes rules.Size t c error ≡ prunes rules.Size t d error
unfolding prunes tested
prunes_mirror t error o = ap (λ (x : Float). lt epsilon x && lt (div binary64 x error) t) (abs_opposite o)

by_size : (m k : ℕ) (errors : List Float) (t : Float) {c d : List Float} → Opposites c d
    → pruned_bytes m rules.Size k c errors t ≡ pruned_bytes m rules.Size k d errors t
unfolding pruned_at
by_size m k errors t o =
    table_same _ _ m (λ i l. ap (λ (b : Bool). mark (ltb i k && b)) (prunes_mirror t (get_or errors i nan) (pairs_at o opposite_nan i)))

-- the m pruning bytes, if the rule is by size
pub pruned_mirror : (rule : PruningRule) → rule ≡ rules.Size → (m k : ℕ) (errors : List Float) (t : Float) {c d : List Float} → Opposites c d
    → pruned_bytes m rule k c errors t ≡ pruned_bytes m rule k d errors t
pruned_mirror rule e m k errors t {c} {d} o =
    subst (λ (r : PruningRule). pruned_bytes m r k c errors t ≡ pruned_bytes m r k d errors t) (sym e) (by_size m k errors t o)

-- The other rule: at the t score 2 and the error 1 it prunes 1 and leaves −1.
pub positive_sees : (prunes rules.Positive two_f one_f one_f ≡ true) × (prunes rules.Positive two_f (neg one_f) one_f ≡ false)
unfolding prunes tested abs_f div lt neg of_bits
positive_sees = (refl, refl)
