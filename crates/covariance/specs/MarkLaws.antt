-- Laws of Marks.antt.
use Rattle.std.specs.Prelude.{◌≡◌, Bool, true, false, ℕ, ◌+◌, ◌≤◌}
use Rattle.std.proofs.Common.{arith, refl}
use Rattle.std.specs.Int.{from_bool}
use Rattle.loops.specs.FoldLaws.{fold_table}
use Rattle.loops.specs.Places.{table}
use Rattle.covariance.specs.Marks.{mark, ones}

-- a mark is the byte that std makes of a test, 0 or 1
pub mark_byte : (b : Bool) → from_bool b ≡ mark b
mark_byte true = refl
mark_byte false = refl

pub mark_at_most : (b : Bool) → from_bool b ≤ 1
mark_at_most true = omega arith
mark_at_most false = omega arith

-- one mark more
pub ones_again : (f : ℕ → ℕ) (i : ℕ) → ones (table f (i + 1)) ≡ ones (table f i) + f i
unfolding ones
ones_again f i = fold_table ◌+◌ 0 f i
