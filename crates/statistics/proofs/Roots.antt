-- What a search up to a cap finds is the lesser of the root and the cap.
use Rattle.std.proofs.Common.{◌≡◌, ℕ, zero, suc, ◌+◌, ◌-◌, ◌*◌, ◌^◌, ◌<◌, ◌≤◌, min, sym, ap, ◌∙◌, subst, le_trans, le_of_eq, lt_of_lt_of_le, lt_of_le_of_lt, not-suc-le-zero, lt_irrefl, one-mul, pow-suc, lt_of_not-le, mul-zero, arith, lit<}
use native.Mathlib.Nat.{pow-le-pow_left, pow-zero, pow-le-pow_right}
use Rattle.statistics.specs.Degrees.{root}
use Rattle.statistics.specs.DegreeLaws.{root_largest}

-- a power that is worked out fits
pub small_power : (s p : ℕ) → s ≤ 15 → p ≤ 5 → s ^ p < 2 ^ 64
small_power s p h l = lt_of_le_of_lt (le_trans (pow-le-pow_left h p) (pow-le-pow_right {n = 15} (lit< tt) l)) (lit< tt)

pub zero_le_power : (p n : ℕ) → 0 < p → 0 ^ p ≤ n
zero_le_power zero n h = absurd (not-suc-le-zero h)
zero_le_power (suc p) n h = subst (λ (m : ℕ). m ≤ n) (sym (pow-suc 0 p ∙ mul-zero (0 ^ p))) (omega arith)

-- r whose power is at most n, and the power of r + 1 not, is the lesser of the root and the cap
pub root_is : (p n r cap : ℕ) → 0 < p → r ≤ cap → r ^ p ≤ n → n < (r + 1) ^ p → r ≡ min (root p n) cap
root_is p n r cap h c l b =
    let low = (root_largest p n h).most r l in
    let high : root p n < r + 1 =
    lt_of_not-le (λ g. lt_irrefl n (lt_of_lt_of_le b (le_trans (pow-le-pow_left g p) (root_largest p n h).holds))) in
    omega arith

pub root_cap : (p n cap : ℕ) → 0 < p → cap ^ p ≤ n → cap ≡ min (root p n) cap
root_cap p n cap h l = let low = (root_largest p n h).most cap l in omega arith

-- the first root is the number itself
pub root_one : (n : ℕ) → n - 1 ≡ min (root 1 n) (n - 1)
root_one n =
    let low = (root_largest 1 n (omega arith)).most n (le_of_eq (pow-suc n 0 ∙ ap (λ (j : ℕ). j * n) (pow-zero n) ∙ one-mul n)) in
    omega arith
