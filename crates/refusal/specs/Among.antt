-- What the laws of a list of tests speak of: the first test that holds, and the largest number. Definitions only.
use Rattle.std.specs.Prelude.{◌≡◌, true, false, List, [], ◌∷◌, ℕ, max}
use Rattle.refusal.specs.Refusals.{Test}

-- k is the number of the first test that holds
pub data Among (k : ℕ) : List Test → Type 0 where
  here : {r : Test} {rs : List Test} → r.holds ≡ true → r.number ≡ k → Among k (r ∷ rs)
  there : {r : Test} {rs : List Test} → r.holds ≡ false → Among k rs → Among k (r ∷ rs)

-- 0 where there is none
abbrev pub largest : List ℕ → ℕ
largest [] = 0
largest (k ∷ l) = max k (largest l)
