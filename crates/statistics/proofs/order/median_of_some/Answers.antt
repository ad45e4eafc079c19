-- `statistics::order::median_of_some` meets its contract.
use Rattle.std.proofs.Common.{◌≡◌, ℕ, ◌/◌, ◌%◌, ◌-◌, ◌<◌, false, List, length, sym, ap, ◌∙◌, ap₂, arith}
use lib.Ieee.{Float, binary64, of_bits}
use Rattle.statistics.specs.Medians.{any_nan, midpoint, median_of}
use Rattle.statistics.specs.Counting.{distances, Middles}
use Rattle.statistics.proofs.Counts.{placed}
use Rattle.statistics.proofs.Deviations.{length_distances, distances_plain, bits_some, median_none, median_one, median_odd, median_even}
use Rattle.statistics.proofs.order.median_of_some.Goals as goal

-- of an even number there is a place before the middle
lower : (n : ℕ) → (n ≡ 0 → ⊥) → (n % 2 ≡ 1 → ⊥) → 0 < n / 2
lower n p q = omega arith

-- the median of n deviations from what stands in the middle
module _ (d : Float) (a : List Float) (some : any_nan (distances d a) ≡ false) (none : length a ≡ 0 → ⊥) (low high : ℕ) (m : Middles (distances d a) (length a / 2) low high) where
  of_odd : length a % 2 ≡ 1 → of_bits binary64 high ≡ median_of (distances d a)
  of_odd odd =
      let l = distances d a in
      let e = length_distances d a in
      placed l (distances_plain d a some) (length a / 2) high m.upper (omega arith) ∙ (rw e at (median_odd l some (λ q. none (sym e ∙ q)) (rw e odd)))

  of_even : (length a % 2 ≡ 1 → ⊥) → midpoint (of_bits binary64 low) (of_bits binary64 high) ≡ median_of (distances d a)
  of_even odd =
      let l = distances d a in
      let e = length_distances d a in
      let p = distances_plain d a some in
      ap₂ midpoint (placed l p (length a / 2 - 1) low (m.lower (lower (length a) none odd)) (omega arith)) (placed l p (length a / 2) high m.upper (omega arith))
      ∙ (rw e at (median_even l some (λ q. none (sym e ∙ q)) (λ q. odd (sym (ap (λ (k : ℕ). k % 2) e) ∙ q))))

pub returns-then-n-eq0 : goal.returns-then-n-eq0
returns-then-n-eq0 c = median_none (distances c.args.d c.args.a.now) (length_distances c.args.d c.args.a.now ∙ c.if-n-eq0.true)

pub invariant_of-numbers : goal.invariant_of-numbers
invariant_of-numbers c = distances_plain c.args.d c.args.a.now (c.requires)

pub middles-p-requires : goal.middles-p-requires
middles-p-requires c = let z = c.if-n-eq0.false in omega (arith, length_distances c.args.d c.args.a.now)

pub float_from_bits-high : goal.float_from_bits-high
float_from_bits-high c = bits_some _ c.middles-p.ensures.upper.small

pub float_from_bits-p : goal.float_from_bits-p
float_from_bits-p c = bits_some _ (c.middles-p.ensures.lower (lower _ c.if-n-eq0.false c.if-n-eq1-2.false)).small

pub returns-then-n-eq1 : goal.returns-then-n-eq1
returns-then-n-eq1 c = rw (c.abs-then-n-eq1.ensures, c.abs.ensures) (median_one c.args.d c.args.a.now c.requires c.if-n-eq1.true)

pub returns-then-n-eq1-2 : goal.returns-then-n-eq1-2
returns-then-n-eq1-2 c = of_odd _ _ (c.requires) c.if-n-eq0.false _ _ c.middles-p.ensures c.if-n-eq1-2.true

pub returns : goal.returns
returns c = c.midpoint.ensures ∙ of_even _ _ (c.requires) c.if-n-eq0.false _ _ c.middles-p.ensures c.if-n-eq1-2.false
