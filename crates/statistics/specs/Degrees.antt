-- `max_degree`: the bound on the degree, from the number n of samples, with document 01's whole-number root. Definitions only.
use Rattle.std.specs.Prelude.{ℕ, zero, suc, ◌-◌, ◌/◌, ◌^◌, ◌≤◌, min, cond, nat_le}
use Rattle.statistics.specs.declared.DegreeBound.{DegreeBound}
use Rattle.statistics.specs.declared.DegreeBound.TheVariants.{Conservative, Relaxed, Aggressive, Custom}

-- the largest r up to k with r ^ p at most n
unfoldable pub root_up_to : ℕ → ℕ → ℕ → ℕ
root_up_to p n zero = 0
root_up_to p n (suc k) = let r = root_up_to p n k in cond (nat_le (suc k ^ p) n) (suc k) r

-- `max_degree`'s root: the largest whole r with r ^ p at most n (`root_largest`; p is 5, 3 or 1, so that no r above n is one)
unfoldable pub root : ℕ → ℕ → ℕ
root p n = root_up_to p n n

-- The least of four: the root, n / ratio less 1 (not below 0), the hard cap, and n − 1 (0 where n is 0).
abbrev pub least_bound : ℕ → ℕ → ℕ → ℕ → ℕ
least_bound smooth ratio cap n = min (min (min smooth (n / ratio - 1)) cap) (n - 1)

-- `max_degree`: Conservative has r⁵, 15 samples a coefficient and the cap 8; Relaxed r³, 8 and 15; Aggressive r, 8 and n − 1. Custom is capped by n − 1 alone.
unfoldable pub max_degree : DegreeBound → ℕ → ℕ
max_degree Conservative n = least_bound (root 5 n) 15 8 n
max_degree Relaxed n = least_bound (root 3 n) 8 15 n
max_degree Aggressive n = least_bound (root 1 n) 8 (n - 1) n
max_degree (Custom d) n = min d.0 (n - 1)

-- what it is to be the largest
pub record Largest (p n r : ℕ) : Type 0 where
  pub holds : r ^ p ≤ n
  pub most : (s : ℕ) → s ^ p ≤ n → s ≤ r
