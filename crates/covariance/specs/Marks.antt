-- Bytes that mark what passes a test, and their count. Definitions only.
use Rattle.std.specs.Prelude.{Bool, cond, List, ℕ, ◌+◌}
use Rattle.loops.specs.Fold.{fold}

-- 1 where a test passes, else 0
abbrev pub mark : Bool → ℕ
mark b = cond b 1 0

-- how many of the marks are 1
unfoldable pub ones : List ℕ → ℕ
ones l = fold ◌+◌ 0 l
