-- From a double's bits to `root_f` of it: by the exponent's field and the digits, as the code of `sqrt` takes them apart.
use Rattle.std.proofs.Common.{◌≡◌, ℕ, zero, suc, ◌+◌, ◌-◌, ◌*◌, ◌/◌, ◌%◌, ◌^◌, ◌<◌, ◌≤◌, Bool, true, false, cond, T, eqb, sym, refl, ap, ◌∙◌, subst, true≢false, lt_irrefl, mul_assoc, add_comm, mul-pos, mul-one, mul_right_comm, mul-div_cancel, arith, pow_pos, pow-add, ne_eqb}
use lib.Ieee.{Float, nan, inf, fin, binary64, up, down, odd, fits, of_fields, to_bits, of_bits}
use lib.Ieee.Fits.{down_pos}
use lib.Ieee.Exact.{HasValue, odd_sign}
use lib.Ieee.Positive.{positive}
use lib.Ieee.Bits.{of_bits-to_bits}
use borrow.Author.Tests.{lt-leb}
use Rattle.value.specs.Keys.{bits_le}
use Rattle.value.specs.Root.{root_f, root_of}
use Rattle.value.specs.Nearest.{ulps}
use Rattle.value.specs.Exact.{zero_value}
use Rattle.value.proofs.Positive.{positive_plain}

-- ---- by a value's size
pub ulps_of_value : (v : Float) (n : ℕ) → HasValue v false n (2 ^ 1074) → ulps v ≡ n
ulps_of_value nan n h = absurd h
ulps_of_value (inf s) n h = absurd h
ulps_of_value (fin s m e) n h = ap (λ (x : ℕ). x / down e) h.1 ∙ mul-div_cancel n (down_pos e)

pub positive_value : (v : Float) (a : ℕ) → HasValue v false a (2 ^ 1074) → 0 < a → root_f v ≡ root_of (a * 2 ^ 1074)
unfolding root_f
positive_value nan a h p = absurd h
positive_value (inf s) a h p = absurd h
positive_value (fin true m e) a h p = absurd (true≢false h.0)
positive_value (fin false zero e) a h p = absurd (zero_value e a (2 ^ 1074) h.1 p)
positive_value (fin false (suc m) e) a h p =
    ap root_of (ap (λ (x : ℕ). x / down e) (sym (mul_assoc (suc m * up e) (2 ^ 1074) (2 ^ 1074)) ∙ ap (λ (x : ℕ). x * 2 ^ 1074) h.1 ∙ mul_right_comm a (down e) (2 ^ 1074)) ∙ mul-div_cancel (a * 2 ^ 1074) (down_pos e))

-- ---- the fields
positive_bits : (b : ℕ) → b < 2 ^ 63 → of_bits binary64 b ≡ of_fields binary64 false (b / 2 ^ 52) (b % 2 ^ 52)
unfolding of_bits
positive_bits b h = let same : b % 2 ^ 63 ≡ b = omega arith in rw (lt-leb (2 ^ 63) b h, same)

at_zero : (t : ℕ) → of_fields binary64 false 0 t ≡ odd 53 false t 0 1074
unfolding of_fields
at_zero t = refl

at_suc : (x t : ℕ) → of_fields binary64 false (suc x) t ≡ cond (eqb (suc x) 2047) (cond (eqb t 0) (inf false) nan) (odd 53 false (2 ^ 52 + t) x 1074)
unfolding of_fields
at_suc x t = refl

-- a subnormal
pub small_value : (b : ℕ) → 0 < b → b / 2 ^ 52 ≡ 0 → root_f (of_bits binary64 b) ≡ root_of (b % 2 ^ 52 * 2 ^ 1074)
small_value b p z =
    let t = b % 2 ^ 52 in
    ap root_f (positive_bits b (omega arith) ∙ ap (λ (y : ℕ). of_fields binary64 false y t) z ∙ at_zero t)
    ∙ positive_value (odd 53 false t 0 1074) (t * 2 ^ 0) (odd_sign 53 false t 0 1074) (mul-pos (omega arith) (pow_pos 0))
    ∙ ap (λ (y : ℕ). root_of (y * 2 ^ 1074)) (mul-one t)

-- a finite double that is not subnormal: 53 digits, the first a 1
pub normal_bits : (b : ℕ) → 2 ^ 52 ≤ b → b < 0x7FF0_0000_0000_0000 → of_bits binary64 b ≡ odd 53 false (2 ^ 52 + b % 2 ^ 52) (b / 2 ^ 52 - 1) 1074
normal_bits b l h = positive_bits b (omega arith) ∙ go (b / 2 ^ 52) (b % 2 ^ 52) (omega arith) (omega arith)
  where
    go : (y t : ℕ) → 0 < y → y < 2047 → of_fields binary64 false y t ≡ odd 53 false (2 ^ 52 + t) (y - 1) 1074
    go zero t z h = absurd (lt_irrefl 0 z)
    go (suc y) t z h =
        at_suc y t
        ∙ ap (λ (c : Bool). cond c (cond (eqb t 0) (inf false) nan) (odd 53 false (2 ^ 52 + t) y 1074)) (ne_eqb (suc y) 2047 (λ q. omega arith))
        ∙ (let z : y ≡ suc y - 1 = omega arith in ap (λ (x : ℕ). odd 53 false (2 ^ 52 + t) x 1074) z)

pub large_value : (b : ℕ) → b < 0x7FF0_0000_0000_0000 → (b / 2 ^ 52 ≡ 0 → ⊥) → root_f (of_bits binary64 b) ≡ root_of ((b % 2 ^ 52 + 2 ^ 52) * 2 ^ (b / 2 ^ 52 + 1073))
large_value b h z =
    let c = 2 ^ 52 + b % 2 ^ 52 in
    let y = b / 2 ^ 52 - 1 in
    let joined : y + 1074 ≡ b / 2 ^ 52 + 1073 = omega arith in
    ap root_f (normal_bits b (omega arith) h)
    ∙ positive_value (odd 53 false c y 1074) (c * 2 ^ y) (odd_sign 53 false c y 1074) (mul-pos (omega arith) (pow_pos y))
    ∙ ap root_of (mul_assoc c (2 ^ y) (2 ^ 1074) ∙ ap (λ (k : ℕ). c * k) (sym (pow-add 2 y 1074) ∙ ap (λ (k : ℕ). 2 ^ k) joined) ∙ ap (λ (k : ℕ). k * 2 ^ (b / 2 ^ 52 + 1073)) (add_comm (2 ^ 52) (b % 2 ^ 52)))

-- ---- a double above zero, by its bits
pub record Pattern (x : Float) : Type 0 where
  pub some : 0 < to_bits binary64 x
  pub finite : to_bits binary64 x < 0x7FF0_0000_0000_0000
  pub back : of_bits binary64 (to_bits binary64 x) ≡ x

pub pattern : (x : Float) → T (fits binary64 x) → T (positive x) → Pattern x
pattern x f p =
    let back : of_bits binary64 (to_bits binary64 x) ≡ x = of_bits-to_bits binary64 x f in
    let most = bits_le x (positive_plain x f p) in
    let differs : (n : ℕ) → (T (positive (of_bits binary64 n)) → ⊥) → to_bits binary64 x ≡ n → ⊥ = λ n q e. q (subst (λ (y : Float). T (positive y)) (sym back ∙ ap (of_bits binary64) e) p) in
    let zero : to_bits binary64 x ≡ 0 → ⊥ = differs 0 (unfold of_bits in λ q. q) in
    let infinity : to_bits binary64 x ≡ 0x7FF0_0000_0000_0000 → ⊥ = differs 0x7FF0_0000_0000_0000 (unfold of_bits in λ q. q) in
    record { some = omega arith; finite = omega arith; back = back }
