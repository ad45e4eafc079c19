-- Laws of Counts.antt.
use Rattle.std.specs.Prelude.{◌≡◌, refl, [], ◌∷◌, map, ℕ, ◌+◌, ◌*◌, ◌/◌, ◌≤◌, ◌<◌}
use Rattle.std.proofs.Common.{mul-le-mul, arith}
use Rattle.basis.specs.declared.Basis.{Basis}
use Rattle.basis.specs.declared.Basis.TheVariants.{Curve, Surface}
use Rattle.basis.specs.Counts.{count_of}

-- total degrees 0 to 4 have 1, 3, 6, 10 and 15 terms
pub surface_counts_lem : map (count_of Surface) (0 ∷ 1 ∷ 2 ∷ 3 ∷ 4 ∷ []) ≡ 1 ∷ 3 ∷ 6 ∷ 10 ∷ 15 ∷ []
unfolding count_of
surface_counts_lem = refl

pub curve_count : (d : ℕ) → count_of Curve d ≡ d + 1
unfolding count_of
curve_count d = refl

half_le : (p q : ℕ) → p ≤ q → p / 2 ≤ q / 2
half_le p q h = omega arith

-- a higher degree has no fewer coefficients
pub count_mono : (basis : Basis) (d e : ℕ) → d ≤ e → count_of basis d ≤ count_of basis e
unfolding count_of
count_mono Curve d e h = omega arith
count_mono Surface d e h = half_le ((d + 1) * (d + 2)) ((e + 1) * (e + 2)) (mul-le-mul (omega arith) (omega arith))

twice_le : (a p : ℕ) → a * 2 ≤ p → a ≤ p / 2
twice_le a p h = omega arith

-- a degree is below its count
pub below_count : (basis : Basis) (d : ℕ) → d < count_of basis d
unfolding count_of
below_count Curve d = omega arith
below_count Surface d =
    let h : (d + 1) * 2 ≤ (d + 1) * (d + 2) = mul-le-mul (omega arith) (omega arith) in
    omega (arith, twice_le (d + 1) ((d + 1) * (d + 2)) h)

-- so the degrees up to one with at most 16 coefficients have at most 16 and are at most 15
pub count_fits : (basis : Basis) (d e : ℕ) → d ≤ e → count_of basis e ≤ 16 → (count_of basis d ≤ 16) × (d ≤ 15)
count_fits basis d e h g = let m = count_mono basis d e h in (omega (arith, m), omega (arith, m, below_count basis d))
