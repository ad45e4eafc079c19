-- The digits of `Writer::hex`.
use mathlib.Core.Path.{◌≡◌, refl, sym, ap, ◌∙◌}
use mathlib.Core.List.{map}
use Prim.Native.Nat.{ℕ, zero, suc, ◌+◌, ◌-◌, ◌*◌, ◌/◌, ◌%◌, ◌^◌, ◌<◌}
use native.Mathlib.Nat.{pow-suc}
use native.Mathlib.Omega.{arith}
use lib.ListN.{get_or, get_or-map}
use lib.Pow.{pow-add}
use Rattle.std.proofs.Common.{zero-add}
use Rattle.std.proofs.lemmas.List.{get_or_default}
use Rattle.std.proofs.lemmas.List.FromFn.{get_or-range_with_len}
use Rattle.std.specs.List.{range_with_len}
use Rattle.loops.specs.Digits.{digits}
use Rattle.loops.specs.DigitLaws.{digits_at}
use Rattle.listing.specs.Text.{glyph, hexadecimal}

-- a hexadecimal digit is four bits
four : (k : ℕ) → 2 ^ (4 * k) ≡ 16 ^ k
four zero = refl
four (suc k) =
    let e : 4 * suc k ≡ 4 * k + 4 = omega arith in
    ap (λ z. 2 ^ z) e ∙ pow-add 2 (4 * k) 4 ∙ ap (λ z. z * 16) (four k) ∙ sym (pow-suc 16 k)

-- a digit's code is in the table of them
table_at : (d : ℕ) → d < 16 → get_or (map glyph (range_with_len 0 16)) d 0 ≡ glyph d
table_at d h = get_or_default (map glyph (range_with_len 0 16)) d 0 (glyph 0) h ∙ get_or-map glyph (range_with_len 0 16) d 0 ∙ ap glyph (get_or-range_with_len 0 16 d 0 h ∙ zero-add d)

-- digit i of 16
pub hex_at : (n i : ℕ) → i < 16 → get_or (map glyph (range_with_len 0 16)) (n / 2 ^ (60 - 4 * i) % 16) 0 ≡ get_or (hexadecimal n) i (glyph 0)
unfolding hexadecimal
hex_at n i h =
    let e : 60 - 4 * i ≡ 4 * (16 - 1 - i) = omega arith in
    table_at (n / 2 ^ (60 - 4 * i) % 16) (omega arith)
    ∙ sym (get_or-map glyph (digits 16 16 n) i 0 ∙ ap glyph (digits_at 16 16 n i h ∙ sym (ap (λ z. n / z % 16) (ap (λ z. 2 ^ z) e ∙ four (16 - 1 - i)))))
