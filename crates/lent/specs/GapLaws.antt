-- Laws of Gaps.antt.
use Rattle.std.specs.Prelude.{◌≡◌, List, ℕ, ◌+◌, ◌-◌, ◌≤◌, ◌<◌, length, drop, Float}
use Rattle.std.proofs.Common.{arith, length-drop}
use Rattle.std.proofs.lemmas.List.Edits.{length-paste}
use Rattle.lent.specs.Gaps.{without_at}

-- it is as long as before
pub length_without : (i n : ℕ) (c : List Float) → i < n → n ≤ length c → length (without_at i n c) ≡ length c
unfolding without_at
length_without i n c h k = length-paste c i (drop (i + 1) c) (n - 1 - i) (omega arith) (rw length-drop (omega arith))
