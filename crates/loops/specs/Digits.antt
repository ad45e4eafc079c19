-- Numbers and their digits in a base b, the highest first: bytes are digits in base 256. Definitions only.
use Rattle.std.specs.Prelude.{List, [], ◌∷◌, ◌++◌, ℕ, zero, suc, ◌+◌, ◌*◌, ◌/◌, ◌%◌}
use Rattle.loops.specs.Fold.{fold}

-- the last k digits of n
unfoldable pub digits : ℕ → ℕ → ℕ → List ℕ
digits b zero n = []
digits b (suc k) n = digits b k (n / b) ++ (n % b ∷ [])

-- the number that digits spell
unfoldable pub number : ℕ → List ℕ → ℕ
number b l = fold (λ a d. a * b + d) 0 l
