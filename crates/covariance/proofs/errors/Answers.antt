-- `covariance::errors` meets its contract.
use Rattle.std.proofs.Common.{◌≡◌, ℕ, ◌≤◌, List, ◌++◌, map, length, take, drop, sym, ap, ap₂, ◌∙◌, rules}
use Rattle.std.proofs.Math.Seq.{take-append_seam}
use lib.Ieee.{Float}
use Rattle.loops.specs.Places.{each, table}
use Rattle.loops.specs.PlaceLaws.{each_rest, each_write, length_table, map_table}
use Rattle.value.specs.Root.{root_f}
use Rattle.covariance.specs.Covariance.{errors_of}
use Rattle.covariance.proofs.errors.Goals as goal

-- the first n places become their roots, where they were written before
roots_of : (f : ℕ → Float) (n : ℕ) (s : List Float) → n ≤ length s → map root_f (take n (each (λ i _. f i) n s)) ++ drop n (each (λ i _. f i) n s) ≡ each (λ i _. root_f (f i)) n s
roots_of f n s h =
    let front : take n (each (λ i _. f i) n s) ≡ table f n =
    ap (take n) (each_write f n s h) ∙ ap (λ (k : ℕ). take k (table f n ++ drop n s)) (sym (length_table f n)) ∙ take-append_seam (table f n) (drop n s) in
    ap₂ (λ (l r : List Float). l ++ r) (ap (map root_f) front ∙ sym (map_table root_f f n)) (each_rest (λ i _. f i) n s) ∙ sym (each_write (λ i. root_f (f i)) n s h)

pub returns : goal.returns
unfolding errors_of
returns c = rw (c.put_roots.ensures, c.diagonal-e.ensures) (roots_of _ _ _ (search rules))
