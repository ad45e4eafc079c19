-- Laws of Degrees.antt.
use Rattle.std.specs.Prelude.{◌≡◌, ℕ, zero, suc, ◌-◌, ◌*◌, ◌/◌, ◌^◌, ◌<◌, ◌≤◌, min, nat_le}
use Rattle.std.proofs.Common.{sym, subst, ◌∙◌, ⊎_elim, le_trans, le_antisymm, lt_irrefl, lt_of_lt_of_le, not-suc-le-zero, le_of_suc-le-suc, eq-or-lt_of_le, pow-suc, mul-zero, mul-le-mul_right, one-mul, arith, lit<, leb-true, leb-false}
use Rattle.std.proofs.Math.Nat.{one-le-pow}
use Rattle.loops.specs.Cases.{choose}
use Rattle.statistics.specs.declared.DegreeBound.{DegreeBound}
use Rattle.statistics.specs.declared.DegreeBound.TheVariants.{Conservative, Relaxed, Aggressive, Custom}
use Rattle.statistics.specs.Degrees.{Largest, root_up_to, root, least_bound, max_degree}

upto_holds : (p n k : ℕ) → root_up_to (suc p) n k ^ suc p ≤ n
unfolding root_up_to
upto_holds p n zero = subst (λ (m : ℕ). m ≤ n) (sym (pow-suc 0 p ∙ mul-zero (0 ^ p))) (omega arith)
upto_holds p n (suc k) =
    choose (λ (m : ℕ). m ^ suc p ≤ n) (nat_le (suc k ^ suc p) n) (suc k) (root_up_to (suc p) n k)
    (λ t. leb-true (suc k ^ suc p) n t) (λ t. upto_holds p n k)

upto_most : (p n k s : ℕ) → s ≤ k → s ^ p ≤ n → s ≤ root_up_to p n k
unfolding root_up_to
upto_most p n zero s h l = h
upto_most p n (suc k) s h l =
    choose (λ (r : ℕ). s ≤ r) (nat_le (suc k ^ p) n) (suc k) (root_up_to p n k)
    (λ t. h)
    (λ t. ⊎_elim
    (λ e. absurd (lt_irrefl n (lt_of_lt_of_le (leb-false (suc k ^ p) n t) (subst (λ (j : ℕ). j ^ p ≤ n) e l))))
    (λ b. upto_most p n k s (le_of_suc-le-suc b) l)
    (eq-or-lt_of_le h))

-- a number is at most its powers
base_le : (p m : ℕ) → m ≤ m ^ suc p
base_le p zero = omega arith
base_le p (suc m) =
    subst (λ (j : ℕ). suc m ≤ j) (sym (pow-suc (suc m) p))
    (subst (λ (j : ℕ). j ≤ suc m ^ p * suc m) (one-mul (suc m)) (mul-le-mul_right (suc m) (one-le-pow p (suc m) (omega arith))))

-- the root is the largest whole r with r ^ p at most n
pub root_largest : (p n : ℕ) → 0 < p → Largest p n (root p n)
unfolding root
root_largest zero n h = absurd (not-suc-le-zero h)
root_largest (suc p) n h =
    record { holds = upto_holds p n n; most = λ s l. upto_most (suc p) n n s (le_trans (base_le p s) l) l }

-- and nothing else is
pub largest_one : (p n r s : ℕ) → Largest p n r → Largest p n s → r ≡ s
largest_one p n r s a b = le_antisymm (b.most r a.holds) (a.most s b.holds)

-- a bound is below n, for every n above 0
pub max_degree_below : (b : DegreeBound) (n : ℕ) → 0 < n → max_degree b n < n
unfolding max_degree
max_degree_below Conservative n h = omega arith
max_degree_below Relaxed n h = omega arith
max_degree_below Aggressive n h = omega arith
max_degree_below (Custom d) n h = omega arith

-- a part of a list
root_grows : (p m n : ℕ) → 0 < p → m ≤ n → root p m ≤ root p n
root_grows p m n h l = (root_largest p n h).most (root p m) (le_trans (root_largest p m h).holds l)

min_grows : (a b c d : ℕ) → a ≤ b → c ≤ d → min a c ≤ min b d
min_grows a b c d h k = omega arith

least_grows : (r s ratio top top' m n : ℕ) → r ≤ s → m / ratio ≤ n / ratio → top ≤ top' → m ≤ n → least_bound r ratio top m ≤ least_bound s ratio top' n
least_grows r s ratio top top' m n a q c l =
    min_grows (min (min r (m / ratio - 1)) top) (min (min s (n / ratio - 1)) top') (m - 1) (n - 1)
    (min_grows (min r (m / ratio - 1)) (min s (n / ratio - 1)) top top' (min_grows r s (m / ratio - 1) (n / ratio - 1) a (omega arith)) c) (omega arith)

-- the bound of a part of a list is at most that of the list
pub max_degree_grows : (b : DegreeBound) (m n : ℕ) → m ≤ n → max_degree b m ≤ max_degree b n
unfolding max_degree
max_degree_grows Conservative m n l = least_grows (root 5 m) (root 5 n) 15 8 8 m n (root_grows 5 m n (lit< tt) l) (omega arith) (omega arith) l
max_degree_grows Relaxed m n l = least_grows (root 3 m) (root 3 n) 8 15 15 m n (root_grows 3 m n (lit< tt) l) (omega arith) (omega arith) l
max_degree_grows Aggressive m n l = least_grows (root 1 m) (root 1 n) 8 (m - 1) (n - 1) m n (root_grows 1 m n (lit< tt) l) (omega arith) (omega arith) l
max_degree_grows (Custom d) m n l = omega arith
