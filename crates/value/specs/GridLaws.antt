-- Laws of Grid.antt: every double is on the grid, and between neighbours of 53 digits there is none.
use Rattle.std.specs.Prelude.{◌≡◌, ℕ, zero, suc, ◌+◌, ◌-◌, ◌*◌, ◌/◌, ◌%◌, ◌^◌, ◌<◌, ◌≤◌, Bool, ◌&&◌, T, ◌⊎◌, ℤ, pos, negsuc, nat_eq, nat_le, nat_lt, refl, Float}
use Rattle.std.proofs.Common.{sym, ap, ◌∙◌, subst, inl, inr, le_trans, le_of_eq, le_of_lt, le_of_suc-le-suc, lt_of_not-le, not-le_of_lt, mul-le-mul_right, mul_assoc, mul-one, mul-div_cancel, zero-mul, arith, leb→le, ltb→lt, pow-add, pow_mono, pow_pos}
use Rattle.std.proofs.Math.Pow.{pow-lt}
use Rattle.std.specs.Float.{nan, inf, fin, binary64}
use Rattle.std.specs.Float.Ieee.{up, down, fits}
use Rattle.std.specs.Float.Ieee.Fits.{down_pos, and_l, and_r}
use Rattle.loops.specs.Cases.{either}
use Rattle.value.specs.Nearest.{ulps}
use Rattle.value.specs.Grid.{Double}

-- ---- a double is c * 2 ^ i smallest ones, c of at most 53 binary digits

pow_le_back : (i p : ℕ) → 2 ^ i ≤ 2 ^ p → i ≤ p
pow_le_back i p h = le_of_suc-le-suc (lt_of_not-le (λ (g : suc p ≤ i). not-le_of_lt (pow-lt g) h))

back : (a b : ℕ) → a ≤ b → b - a + a ≡ b
back a b h = omega arith

-- 2 ^ e is 2 ^ i smallest doubles
pub place : (e : ℤ) → down e ≤ 2 ^ 1074 → (i : ℕ) × ((m : ℕ) → m * up e * 2 ^ 1074 ≡ m * 2 ^ i * down e)
place (pos a) h = (a + 1074, λ m. mul_assoc m (2 ^ a) (2 ^ 1074) ∙ ap (λ (x : ℕ). m * x) (sym (pow-add 2 a 1074)) ∙ sym (mul-one (m * 2 ^ (a + 1074))))
place (negsuc a) h = (
  1074 - suc a,
  λ m.
      ap (λ (x : ℕ). x * 2 ^ 1074) (mul-one m)
      ∙ ap (λ (x : ℕ). m * x) (ap (λ (x : ℕ). 2 ^ x) (sym (back (suc a) 1074 (pow_le_back (suc a) 1074 h))) ∙ pow-add 2 (1074 - suc a) (suc a))
      ∙ sym (mul_assoc m (2 ^ (1074 - suc a)) (2 ^ suc a)),
)

-- what fitting says of a double above zero
pub says : (m : ℕ) (s : Bool) (e : ℤ) → T (fits binary64 (fin s (suc m) e)) → (suc m < 2 ^ 53) × (down e ≤ 2 ^ 1074) × (suc m * up e < 2 ^ 1024 * down e)
unfolding fits
says m s e t =
    let a : Bool = nat_eq (suc m % 2) 1 in
    let b : Bool = nat_lt (suc m) (2 ^ 53) in
    let c : Bool = nat_le (down e) (2 ^ 1074) in
    let d : Bool = nat_lt (suc m * up e) (2 ^ 1024 * down e) in (
      ltb→lt (suc m) (2 ^ 53) (and_r a b (and_l (a && b) c (and_l (a && b && c) d t))),
      leb→le (down e) (2 ^ 1074) (and_r (a && b) c (and_l (a && b && c) d t)),
      ltb→lt (suc m * up e) (2 ^ 1024 * down e) (and_r (a && b && c) d t),
    )

nothing : Double 0
nothing = record { digits = 0; zeros = 0; is = refl; short = pow_pos 53 }

zero_ulps : (e : ℤ) → 0 * up e * 2 ^ 1074 / down e ≡ 0
zero_ulps e = ap (λ (x : ℕ). x * 2 ^ 1074 / down e) (zero-mul (up e)) ∙ ap (λ (x : ℕ). x / down e) (sym (zero-mul (down e))) ∙ mul-div_cancel 0 (down_pos e)

pub ulps_double : (y : Float) → T (fits binary64 y) → Double (ulps y)
ulps_double nan t = nothing
ulps_double (inf s) t = nothing
ulps_double (fin s zero e) t = subst Double (sym (zero_ulps e)) nothing
ulps_double (fin s (suc m) e) t =
    let h = says m s e t in
    let p = place e h.1 in
    record {
      digits = suc m;
      zeros = p.0;
      is = ap (λ (x : ℕ). x / down e) (p.1 (suc m)) ∙ mul-div_cancel (suc m * 2 ^ p.0) (down_pos e);
      short = h.0;
    }

-- ---- between q * 2 ^ k and (q + 1) * 2 ^ k there is no double, for a q of 53 binary digits or more

on_grid : (v u q k : ℕ) → v ≡ u * 2 ^ k → (v ≤ q * 2 ^ k) ⊎ (suc q * 2 ^ k ≤ v)
on_grid v u q k is =
    either u q
    (λ a. inl (le_trans (le_of_eq is) (mul-le-mul_right (2 ^ k) a)))
    (λ a. inr (le_trans (mul-le-mul_right (2 ^ k) a) (le_of_eq (sym is))))

finer : (v q k : ℕ) (d : Double v) → 2 ^ 52 ≤ q → d.zeros < k → v ≤ q * 2 ^ k
finer v q k d h l =
    le_trans (le_of_eq d.is)
    (le_trans (mul-le-mul_right (2 ^ d.zeros) (le_of_lt d.short))
    (le_trans (le_of_eq (sym (pow-add 2 53 d.zeros)))
    (le_trans (pow_mono (shift d.zeros k l)) (le_trans (le_of_eq (pow-add 2 52 k)) (mul-le-mul_right (2 ^ k) h)))))
  where
    shift : (i k : ℕ) → i < k → 53 + i ≤ 52 + k
    shift i k l = omega arith

pub gap : (v q k : ℕ) → Double v → 2 ^ 52 ≤ q → (v ≤ q * 2 ^ k) ⊎ (suc q * 2 ^ k ≤ v)
gap v q k d h =
    either k d.zeros
    (λ l.
    on_grid v (d.digits * 2 ^ (d.zeros - k)) q k
    (d.is ∙ ap (λ (x : ℕ). d.digits * x) (ap (λ (x : ℕ). 2 ^ x) (sym (back k d.zeros l)) ∙ pow-add 2 (d.zeros - k) k) ∙ sym (mul_assoc d.digits (2 ^ (d.zeros - k)) (2 ^ k))))
    (λ l. inl (finer v q k d h l))
