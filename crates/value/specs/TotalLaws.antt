-- Laws of Total.antt.
use Rattle.std.specs.Prelude.{◌≡◌, ℕ, ◌+◌, Float}
use Rattle.std.specs.Float.{binary64}
use Rattle.std.specs.Float.Ieee.{add}
use Rattle.loops.specs.Places.{table}
use Rattle.loops.specs.FoldLaws.{fold_table}
use Rattle.value.specs.Numbers.{zero_f}
use Rattle.value.specs.Total.{total_f}

-- one term more
pub total_again : (f : ℕ → Float) (i : ℕ) → total_f (table f (i + 1)) ≡ add binary64 (total_f (table f i)) (f i)
total_again f i = fold_table (add binary64) zero_f f i
