-- At weight 1 the sums are document 01's, bit for bit: a product × 1 is the product for every double, a NaN, an infinity, a zero of either sign or a
-- subnormal number too.
use Rattle.std.specs.Prelude.{◌≡◌, Bool, true, false, cond, List, map, ℕ, ◌-◌, ◌/◌, ◌%◌, ltb, Float, get_or, replicate}
use Rattle.std.proofs.Common.{ap, ◌∙◌}
use Rattle.std.proofs.Math.Path.{fun_ext}
use Rattle.std.specs.Float.{nan, binary64}
use Rattle.std.specs.Float.Ieee.{add, mul}
use Rattle.loops.specs.Fold.{fold}
use Rattle.loops.specs.FoldLaws.{fold_map}
use Rattle.loops.specs.Places.{each}
use Rattle.value.specs.Exact.{product_times_one}
use Rattle.value.specs.Numbers.{one_f, zero_f}
use Rattle.monomial.specs.Rows.{Row}
use Rattle.monomial.specs.Sums.{product_of, weighted_product, add_row, add_rows, sums_of}
use Rattle.monomial.specs.Plain.{add_plain, add_plain_rows, plain_sums, at_one}

product_at_one : (r : Row) (k : ℕ) → weighted_product (at_one r) k ≡ product_of r.terms r.y k
unfolding weighted_product product_of
product_at_one r k = go (ltb k 256) (get_or r.terms (k / 16) nan) (get_or r.terms (k % 16) nan) (get_or r.terms (k - 256) nan) r.y
  where
    go : (t : Bool) (a b c d : Float) → mul binary64 (cond t (mul binary64 a b) (mul binary64 c d)) one_f ≡ cond t (mul binary64 a b) (mul binary64 c d)
    go true a b c d = product_times_one a b
    go false a b c d = product_times_one c d

-- an add at weight 1 leaves what document 01's leaves, on any lent sums
pub add_at_one : (s : List Float) (r : Row) → add_row s (at_one r) ≡ add_plain s r
unfolding add_row add_plain
add_at_one s r = ap (λ (f : ℕ → Float). each (λ k v. add binary64 v (f k)) 272 s) (fun_ext (product_at_one r))

-- and so do many adds
pub adds_at_one : (s : List Float) (rs : List Row) → add_rows s (map at_one rs) ≡ add_plain_rows s rs
adds_at_one s rs =
    fold_map add_row at_one s rs ∙ ap (λ (step : List Float → Row → List Float). fold step s rs) (fun_ext (λ (u : List Float). fun_ext (λ (r : Row). add_at_one u r)))

-- the sums of a list at weight 1 are document 01's
pub sums_at_one : (rs : List Row) → sums_of (map at_one rs) ≡ plain_sums rs
unfolding sums_of plain_sums
sums_at_one rs = adds_at_one (replicate 272 zero_f) rs
