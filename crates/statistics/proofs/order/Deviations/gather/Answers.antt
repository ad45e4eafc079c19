-- `statistics::order::Deviations::gather` meets its contract. The invariant: both counts are right so far, and the first c places are those kept so far, if they fit.
use Rattle.std.proofs.Common.{◌≡◌, ℕ, ◌+◌, ◌-◌, ◌*◌, ◌/◌, ◌%◌, ◌<◌, ◌≤◌, List, length, get_or, take, refl, ◌∙◌, zero-le, length-take-le, arith}
use Rattle.std.proofs.lemmas.List.{length-set}
use lib.Ieee.{Float, nan, binary64, sub}
use lib.Ieee.Bits.{of_bits-to_bits}
use Rattle.std.specs.Int.{from_bool}
use Rattle.value.specs.Absolute.{abs_f}
use Rattle.value.specs.Keys.{plain_fits}
use Rattle.statistics.specs.Counting.{distances, count, under, upto, onward, between, keep}
use Rattle.statistics.proofs.Counts.{from_bool_most, under_rest}
use Rattle.statistics.proofs.Deviations.{length_distances, plain_at, bits_some}
use Rattle.statistics.proofs.Kept.{keep_two, keep_neither, keep_odd, count_between}
use Rattle.statistics.proofs.Pairs.{Lanes, lanes_more, lanes_sum, count_two, count_even, count_odd}
use Rattle.statistics.proofs.order.Deviations.gather.Goals as goal
use Rattle.statistics.proofs.order.Deviations.gather.Goals.{then-c-last, else-c-last}

-- what the loop has counted, and with a last one of an odd number
module _ (lo hi : ℕ) (o : lo ≤ hi) (d : Float) (a : List Float) (i : ℕ) (e : i ≡ length a / 2) (ls : List ℕ) (l : Lanes ls i (count (onward lo) (distances d (take (2 * i) a)))) where
  low_pairs : 2 * (length a / 2) - (get_or ls 0 0 + get_or ls 1 0) ≡ count (under lo) (distances d (take (2 * i) a))
  low_pairs =
      let h = under_rest lo (distances d (take (2 * i) a)) in
      let n = length_distances d (take (2 * i) a) ∙ length-take-le (2 * i) a (omega arith) in
      let s = lanes_sum ls i _ l in
      omega arith

  module _ (c : ℕ) (f : c ≡ count (between lo hi) (distances d (take (2 * i) a))) where
    high_pairs : 2 * (length a / 2) - (get_or ls 0 0 + get_or ls 1 0) + c ≡ count (upto hi) (distances d (take (2 * i) a))
    high_pairs = rw (low_pairs, f) (count_between lo hi o (distances d (take (2 * i) a)))

  module _ (odd : length a % 2 ≡ 1) where
    low_odd : 2 * (length a / 2) - (get_or ls 0 0 + get_or ls 1 0) + from_bool (under lo (abs_f (sub binary64 (abs_f (get_or a (length a - 1) nan)) d))) ≡ count (under lo) (distances d a)
    low_odd = rw low_pairs (count_odd (under lo) d a i e odd)

    high_odd : (c : ℕ) → c ≡ count (between lo hi) (distances d (take (2 * i) a))
        → 2 * (length a / 2) - (get_or ls 0 0 + get_or ls 1 0) + c + from_bool (upto hi (abs_f (sub binary64 (abs_f (get_or a (length a - 1) nan)) d))) ≡ count (upto hi) (distances d a)
    high_odd c f = rw (high_pairs c f) (count_odd (upto hi) d a i e odd)

pub loop-p-init : goal.loop-p-init
unfolding count keep distances
loop-p-init c = (record { two = refl; small = (zero-le, (zero-le, tt)); sum = refl }, zero-le, refl, omega (arith, c.requires.2), λ _. refl)

pub both-v-requires : goal.both-v-requires
both-v-requires c = (plain_at _ _ _ (omega arith) c.self.invariant, plain_at _ _ _ (omega arith) c.self.invariant)

pub ones_between-requires : goal.ones_between-requires
ones_between-requires c =
    rw c.both-v.ensures
    (refl, (plain_at _ _ _ (omega arith) c.self.invariant, (plain_at _ _ _ (omega arith) c.self.invariant, tt)), omega (arith, c.requires.0, c.requires.1), c.requires.1)

pub ones_onward-onward-requires : goal.ones_onward-onward-requires
ones_onward-onward-requires c =
    rw c.both-v.ensures
    (refl, (plain_at _ _ _ (omega arith) c.self.invariant, (plain_at _ _ _ (omega arith) c.self.invariant, tt)), omega (arith, c.requires.0, c.requires.1))

pub loop-p-preserved : goal.loop-p-preserved
loop-p-preserved c =
    let a = c.self.inside.sizes.now in
    let d = c.self.inside.from in
    let i = c.loop-p.p in
    let q = between c.args.lo c.args.hi in
    let t : 2 * i + 1 < length a = omega arith in
    let inv = c.loop-p.invariant in
    let one = get_or c.ones_between.result 0 0 in
    let other = get_or c.ones_between.result 1 0 in
    let x = get_or c.both-v.result 0 nan in
    let y = get_or c.both-v.result 1 nan in
    let u : x ≡ abs_f (sub binary64 (abs_f (get_or a (2 * i) nan)) d) = rw c.both-v.ensures refl in
    let v : y ≡ abs_f (sub binary64 (abs_f (get_or a (2 * i + 1) nan)) d) = rw c.both-v.ensures refl in
    let b : one ≡ from_bool (q x) = rw (c.ones_between.ensures, c.both-v.ensures) refl in
    let e : other ≡ from_bool (q y) = rw (c.ones_between.ensures, c.both-v.ensures) refl in
    let m : one ≤ 1 = rw b (from_bool_most (q x)) in
    let n : other ≤ 1 = rw e (from_bool_most (q y)) in (
      rw (c.ones_onward-onward.ensures, c.both-v.ensures, ← count_two (onward c.args.lo) d a i t)
          (lanes_more _ _ _ _ _ inv.0 (omega (arith, c.self.told)) (from_bool_most _) (from_bool_most _)),
      omega (arith, inv.1, m, n),
      rw (b, e, u, v, inv.2) (count_two q d a i t),
      elim c.if-c-last.branch [ then-c-last w ↦ rw w.out-is (length-set _ _ _ ∙ length-set _ _ _ ∙ inv.3) | else-c-last w ↦ rw w.out-is inv.3 ],
      elim c.if-c-last.branch [
        | then-c-last w ↦ rw w.out-is (keep_two q d a i t c.loop-p.out c.loop-p.c _ inv.3 inv.4 one other x y u b v e w.if-c-last.true)
        | else-c-last w ↦ rw w.out-is (keep_neither q d a i t c.loop-p.out c.loop-p.c _ inv.3 inv.4 one other x y u b v e (omega (arith, w.if-c-last.false)))
      ],
    )

pub key-k-requires : goal.key-k-requires
key-k-requires c = plain_at _ _ _ (omega arith) c.self.invariant

pub float_from_bits-out : goal.float_from_bits-out
float_from_bits-out c = bits_some _ c.key-k.ensures.small

pub returns-then-n-eq1-clause-low : goal.returns-then-n-eq1-clause-low
returns-then-n-eq1-clause-low c =
    rw (c.from.ensures, c.at_most.ensures, c.key-k.ensures.is, ← c.self.view_is)
    (low_odd c.args.lo c.args.hi c.requires.0 c.self.inside.from c.self.inside.sizes.now c.loop-p.p (omega arith) _ c.loop-p.invariant.0 c.if-n-eq1.true)

pub returns-then-n-eq1-clause-high : goal.returns-then-n-eq1-clause-high
returns-then-n-eq1-clause-high c =
    rw (c.from-then-n-eq1.ensures, c.at_most-then-n-eq1.ensures, c.key-k.ensures.is, ← c.self.view_is)
    (high_odd c.args.lo c.args.hi c.requires.0 c.self.inside.from c.self.inside.sizes.now c.loop-p.p (omega arith) _ c.loop-p.invariant.0 c.if-n-eq1.true c.loop-p.c c.loop-p.invariant.2)

pub returns-then-n-eq1-clause-out_after : goal.returns-then-n-eq1-clause-out_after
returns-then-n-eq1-clause-out_after c =
    rw (c.min.ensures, c.key-k.ensures.is, of_bits-to_bits binary64 _ (plain_fits _ (plain_at _ _ (length c.self.inside.sizes.now - 1) (omega arith) c.self.invariant)), ← c.self.view_is)
    (λ r. keep_odd (between c.args.lo c.args.hi) c.self.inside.from c.self.inside.sizes.now c.loop-p.p (omega arith) c.loop-p.out c.loop-p.c _ c.loop-p.invariant.2 c.loop-p.invariant.4
    c.if-n-eq1.true _ c.loop-p.invariant.3 refl (omega arith))

pub returns-else-n-eq1-clause-low : goal.returns-else-n-eq1-clause-low
returns-else-n-eq1-clause-low c =
    rw (low_pairs c.args.lo c.args.hi c.requires.0 c.self.inside.from c.self.inside.sizes.now c.loop-p.p (omega arith) _ c.loop-p.invariant.0, ← c.self.view_is)
    (count_even (under c.args.lo) c.self.inside.from c.self.inside.sizes.now c.loop-p.p (omega arith) c.if-n-eq1.false)

pub returns-else-n-eq1-clause-high : goal.returns-else-n-eq1-clause-high
returns-else-n-eq1-clause-high c =
    rw (high_pairs c.args.lo c.args.hi c.requires.0 c.self.inside.from c.self.inside.sizes.now c.loop-p.p (omega arith) _ c.loop-p.invariant.0 c.loop-p.c c.loop-p.invariant.2, ← c.self.view_is)
    (count_even (upto c.args.hi) c.self.inside.from c.self.inside.sizes.now c.loop-p.p (omega arith) c.if-n-eq1.false)
