-- Document 02's E2: the t score at thirty degrees of freedom, beside the Rust's, and which answers changed. Definitions only.
use Rattle.std.specs.Prelude.{◌≡◌, cond, ℕ, eqb, leb, Float}
use Rattle.value.specs.Numbers.{infinity_f}
use Rattle.statistics.specs.declared.Confidence.{Confidence}
use Rattle.statistics.specs.declared.Confidence.TheVariants.{P80, P90, P95, P98, P99, P999, Custom}
use Rattle.statistics.specs.Scores.{milli, z_score, table_score, t_score}

-- the Rust's `t_score`: df 30 or more gives the z score, so that row 30 is never read
unfoldable pub rust_score : Confidence → ℕ → Float
rust_score c df = cond (eqb df 0) infinity_f (cond (leb 30 df) (z_score c) (table_score c df))

-- at df 30 the score was one number of thousandths and becomes another
abbrev pub Becomes : Confidence → ℕ → ℕ → Type 0
Becomes c old new = (rust_score c 30 ≡ milli old) × (t_score c 30 ≡ milli new)

pub record Thirty : Type 0 where
  -- P80 1.281 to 1.310
  pub p80 : Becomes P80 1281 1310
  -- P90 1.644 to 1.697
  pub p90 : Becomes P90 1644 1697
  -- P95 1.959 to 2.042
  pub p95 : Becomes P95 1959 2042
  -- P98 2.326 to 2.457
  pub p98 : Becomes P98 2326 2457
  -- P99 2.575 to 2.75
  pub p99 : Becomes P99 2575 2750
  -- P999 3.290 to 3.646
  pub p999 : Becomes P999 3290 3646
  -- the answers that change are all at df 30
  pub elsewhere : (c : Confidence) (df : ℕ) → (df ≡ 30 → ⊥) → t_score c df ≡ rust_score c df
  -- and none of them is Custom's
  pub custom : (z : Float) → t_score (Custom z) 30 ≡ rust_score (Custom z) 30
