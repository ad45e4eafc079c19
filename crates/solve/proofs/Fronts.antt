-- The first places of a list, then +0, as the code copies them and as the definitions say it.
use Rattle.std.proofs.Common.{◌≡◌, List, ◌++◌, ℕ, ◌+◌, ◌-◌, ◌*◌, ◌≤◌, length, get_or, take, drop, replicate, sym, ap, ◌∙◌, arith, length-drop, length-take-le}
use Rattle.std.proofs.lemmas.List.{length-replicate}
use Rattle.std.proofs.Math.Seq.{get_or-drop}
use Rattle.std.specs.Float.Ieee.{Float, nan}
use Rattle.loops.specs.PlaceLaws.{each_copy, each_same, slice_from}
use Rattle.value.specs.Numbers.{zero_f}
use Rattle.solve.specs.Solve.{right_of}
use Rattle.solve.specs.Corner.{first_rows}
use Rattle.solve.specs.Nested.{front}

pub rows_are : (sums : List Float) (k : ℕ) → k ≤ 16 → 256 ≤ length sums → take (16 * k) sums ++ drop (16 * k) (replicate 256 zero_f) ≡ first_rows sums k
unfolding first_rows
rows_are sums k h l = sym (each_copy nan (16 * k) sums (replicate 256 zero_f) (omega arith) (omega (arith, length-replicate 256 zero_f)))

pub right_is : (sums : List Float) (k : ℕ) → k ≤ 16 → 272 ≤ length sums → take k (take (length sums - 256) (drop 256 sums)) ++ drop k (replicate 16 zero_f) ≡ right_of sums k
unfolding right_of
right_is sums k h l =
    ap (λ s. take k s ++ drop k (replicate 16 zero_f)) (slice_from 256 sums)
    ∙ sym (each_copy nan k (drop 256 sums) (replicate 16 zero_f) (omega (arith, length-drop 256 sums)) (omega (arith, length-replicate 16 zero_f)))
    ∙ each_same (λ i _. get_or (drop 256 sums) i nan) (λ i _. get_or sums (256 + i) nan) k (replicate 16 zero_f) (λ i v z. get_or-drop 256 sums i nan)

pub front_is : (k : ℕ) (b : List Float) → k ≤ 16 → length b ≡ 16 → take k b ++ drop k (replicate 16 zero_f) ≡ front k b
unfolding front
front_is k b h n = sym (each_copy nan k b (replicate 16 zero_f) (omega (arith, n)) (omega (arith, length-replicate 16 zero_f)))

-- what is copied is cut to n places
pub cut_is : (m n : ℕ) (l : List Float) → n ≤ length l → take n l ++ drop (length (take n l)) (replicate m zero_f) ≡ take n l ++ drop n (replicate m zero_f)
cut_is m n l h = ap (λ k. take n l ++ drop k (replicate m zero_f)) (length-take-le n l h)
