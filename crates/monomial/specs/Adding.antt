-- n sums at once over a list, where f says what an element adds at place k: the laws of the 272 sums, for any number of places. Definitions only.
use Rattle.std.specs.Prelude.{List, ℕ, replicate, Float}
use Rattle.std.specs.Float.{binary64}
use Rattle.std.specs.Float.Ieee.{add}
use Rattle.loops.specs.Fold.{fold}
use Rattle.loops.specs.Places.{each}
use Rattle.value.specs.Numbers.{zero_f}

-- an element is added to what stands at the first n places
unfoldable pub add_one : {A : Type 0} → (A → ℕ → Float) → ℕ → List Float → A → List Float
add_one f n s a = each (λ k v. add binary64 v (f a k)) n s

-- elements are added one after the other
abbrev pub add_all : {A : Type 0} → (A → ℕ → Float) → ℕ → List Float → List A → List Float
add_all f n s l = fold (add_one f n) s l

-- the sums over a list, in index order from +0
unfoldable pub sums : {A : Type 0} → (A → ℕ → Float) → ℕ → List A → List Float
sums f n l = add_all f n (replicate n zero_f) l
