-- `value::pairs::pair_abs` meets its contract, for each by the two tests.
use Rattle.std.proofs.Common.{◌≡◌, cond, T, [], ◌∷◌, sym, subst, ap₂}
use lib.Ieee.{Float, binary64, of_bits, neg, lt, eq, fits}
use lib.Lanes.{top}
use Rattle.loops.specs.Cases.{by_test}
use Rattle.value.specs.Absolute.{abs_f}
use Rattle.value.specs.AbsoluteLaws.{abs_below, abs_zero, abs_above}
use Rattle.value.specs.LaneLaws.{lane_selected}
use Rattle.value.specs.Numbers.{zero_f}
use Rattle.value.proofs.pairs.pair_abs.Goals as goal

one : (x : Float) → T (fits binary64 x)
    → cond (top 63 (cond (eq x zero_f) 0xFFFF_FFFF_FFFF_FFFF 0)) zero_f (cond (top 63 (cond (lt x zero_f) 0xFFFF_FFFF_FFFF_FFFF 0)) (neg x) x) ≡ abs_f x
unfolding of_bits
one x f =
    rw (lane_selected (eq x zero_f) zero_f (cond (top 63 (cond (lt x zero_f) 0xFFFF_FFFF_FFFF_FFFF 0)) (neg x) x), lane_selected (lt x zero_f) (neg x) x)
    (by_test (eq x zero_f) (λ e. rw e (abs_zero x f e)) (λ e. rw e (by_test (lt x zero_f) (λ l. rw l (abs_below x l)) (λ l. rw l (abs_above x l e)))))

pub returns : goal.returns
returns c =
    ap₂ (λ (a b : Float). a ∷ b ∷ []) (one c.args.x (subst T (sym c.well_formed.0.1) tt)) (one c.args.y (subst T (sym c.well_formed.1.0.1) tt))
