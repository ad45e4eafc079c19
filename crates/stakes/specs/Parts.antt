-- Document 02's E14: memory is lent whole and cut into 32 equal parts, rounded down, in stake order. The rest at the end is nobody's. Definitions only.
use Rattle.std.specs.Prelude.{◌≡◌, List, ◌++◌, ℕ, ◌+◌, ◌*◌, ◌/◌, ◌≤◌, length, take, drop}
use Rattle.lent.specs.Written.{over}

-- how many stakes there are
abbrev pub stakes : ℕ
stakes = 32

-- of a memory of n places, the part of stake s is from place a on and before place e
pub record Cut (n s a e : ℕ) : Type 0 where
  pub starts : a ≡ s * (n / stakes)
  pub ends : e ≡ s * (n / stakes) + n / stakes
  pub within : e ≤ n

module _ {A : Type 0} where
  -- the places of a part
  abbrev pub size : List A → ℕ
  size l = length l / stakes

  -- the part of stake s
  unfoldable pub part_of : ℕ → List A → List A
  part_of s l = take (size l) (drop (s * size l) l)

  -- p in the place of the part of stake s; all else is left
  unfoldable pub with_part : ℕ → List A → List A → List A
  with_part s p l = take (s * size l) l ++ (p ++ drop (s * size l + size l) l)

  -- values are written from the first place of the part on; all else is left
  abbrev pub over_part : ℕ → List A → List A → List A
  over_part s values l = with_part s (over values (part_of s l)) l
