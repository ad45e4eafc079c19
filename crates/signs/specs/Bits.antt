-- The sign's bit: two patterns that differ in it alone are opposite doubles.
use Rattle.std.specs.Prelude.{◌≡◌, refl, Bool, true, false, not, cond, ℕ, zero, suc, ◌+◌, ◌/◌, ◌%◌, ◌^◌, ◌<◌, eqb}
use Rattle.std.proofs.Common.{arith, le-leb}
use Rattle.std.proofs.lemmas.Bool.{lt-leb}
use Rattle.std.specs.Float.{nan, inf, Format, binary64}
use Rattle.std.specs.Float.Ieee.{neg, odd, of_fields, of_bits, prec, low, ones, hid}
use Rattle.signs.specs.Opposite.{Opposite}
use Rattle.signs.specs.OppositeLaws.{opposite_of}
use Rattle.signs.specs.Negated.{odd_neg}

fields_neg : (f : Format) (s : Bool) (x t : ℕ) → of_fields f (not s) x t ≡ neg (of_fields f s x t)
unfolding of_fields neg
fields_neg f s zero t = odd_neg (prec f) s t 0 (low f)
fields_neg f s (suc x) t = go (eqb (suc x) (ones f)) (eqb t 0)
  where
    go : (u v : Bool) → cond u (cond v (inf (not s)) nan) (odd (prec f) (not s) (hid f + t) x (low f)) ≡ neg (cond u (cond v (inf s) nan) (odd (prec f) s (hid f + t) x (low f)))
    go true true = refl
    go true false = refl
    go false v = odd_neg (prec f) s (hid f + t) x (low f)

-- the pattern b with the sign set
pub bits_neg : (b : ℕ) → b < 2 ^ 63 → of_bits binary64 (b + 2 ^ 63) ≡ neg (of_bits binary64 b)
unfolding of_bits
bits_neg b h =
    let x : (b + 2 ^ 63) % 2 ^ 63 / 2 ^ 52 ≡ b % 2 ^ 63 / 2 ^ 52 = omega arith in
    let t : (b + 2 ^ 63) % 2 ^ 52 ≡ b % 2 ^ 52 = omega arith in
    rw (le-leb (2 ^ 63) (b + 2 ^ 63) (omega arith), lt-leb (2 ^ 63) b h, x, t) (fields_neg binary64 false (b % 2 ^ 63 / 2 ^ 52) (b % 2 ^ 52))

-- two patterns that differ in the sign alone
pub bits_opposite : (b : ℕ) → b < 2 ^ 63 → Opposite (of_bits binary64 b) (of_bits binary64 (b + 2 ^ 63))
bits_opposite b h = rw (bits_neg b h) (opposite_of (of_bits binary64 b))
