-- One turn of the loops that add a row's products, and a row's products added in two parts, A and then g.
use mathlib.Core.Path.{◌≡◌, sym, ap, ◌∙◌}
use mathlib.Core.List.{List, ◌++◌}
use Prim.Native.Nat.{ℕ, ◌+◌, ◌-◌, ◌*◌, ◌≤◌, ◌<◌}
use native.Mathlib.Omega.{arith}
use lib.ListN.{length, get_or, set, take, drop}
use lib.Ieee.{Float, nan, binary64, add, mul}
use Rattle.basis.specs.declared.Basis.{Basis}
use Rattle.loops.specs.Fold.{fold}
use Rattle.loops.specs.FoldLaws.{fold_snoc}
use Rattle.loops.specs.Places.{each}
use Rattle.loops.specs.PlaceLaws.{each_again, each_same, each_rest, each_split, tail_through}
use Rattle.value.specs.Numbers.{zero_f}
use Rattle.monomial.specs.Rows.{WeightedRow, weighted_row, weighted_at, weighted_rows_at}
use Rattle.monomial.specs.Sums.{weighted_product, add_row}
use Rattle.monomial.specs.RowLaws.{weighted_at_again}
use Rattle.monomial.specs.SumLaws.{weighted_matrix, weighted_no_y}

-- A with its places below n added
abbrev pub added_a : List Float → Float → ℕ → List Float → List Float
added_a terms w n s = each (λ k v. add binary64 v (weighted_product (weighted_row terms zero_f w) k)) n s

-- place 16i + j of A
pub add_place : (terms : List Float) (w : Float) (i j : ℕ) (s : List Float) → i < 16 → j < 16 → 256 ≤ length s
    → set (added_a terms w (16 * i + j) s) (16 * i + j)
    (add binary64 (get_or (added_a terms w (16 * i + j) s) (16 * i + j) nan) (mul binary64 (mul binary64 (get_or terms i nan) (get_or terms j nan)) w))
    ≡ added_a terms w (16 * i + (j + 1)) s
add_place terms w i j s h g l =
    let e : 16 * i + (j + 1) ≡ 16 * i + j + 1 = omega arith in
    rw (e, sym (weighted_matrix terms zero_f w i j h g)) (each_again (λ k v. add binary64 v (weighted_product (weighted_row terms zero_f w) k)) (16 * i + j) s nan (omega arith))

-- g with its places below n added
abbrev pub added_g : WeightedRow → ℕ → List Float → List Float
added_g r n s = each (λ i v. add binary64 v (weighted_product r (256 + i))) n s

-- A, and then g in the tail that is lent
pub add_parts : (s m : List Float) (r : WeightedRow) → 256 ≤ length s → m ≡ added_a r.row.terms r.weight 256 s
    → take 256 m ++ (added_g r 16 (take (length m - 256) (drop 256 m)) ++ drop (length m - 256) (drop 256 m)) ≡ add_row s r
unfolding add_row
add_parts s m r h e =
    tail_through (added_g r 16) 256 m
    ∙ (rw (e, each_rest)
    (sym
    (each_split (λ k v. add binary64 v (weighted_product r k)) 256 16 s h
    ∙ ap (λ l. take 256 l ++ added_g r 16 (drop 256 s))
    (each_same (λ k v. add binary64 v (weighted_product r k)) (λ k v. add binary64 v (weighted_product (weighted_row r.row.terms zero_f r.weight) k)) 256 s
    (λ k v q. ap (add binary64 v) (weighted_no_y r k q))))))

-- one row more, for any way to add one
pub fold_rows_again : (f : List Float → WeightedRow → List Float) (s : List Float) (basis : Basis) (t : ℕ) (xs zs ys ws : List Float)
    → fold f s (weighted_rows_at basis (t + 1) xs zs ys ws) ≡ f (fold f s (weighted_rows_at basis t xs zs ys ws)) (weighted_at basis xs zs ys ws t)
fold_rows_again f s basis t xs zs ys ws =
    rw (weighted_at_again basis xs zs ys ws t) (fold_snoc f s (weighted_rows_at basis t xs zs ys ws) (weighted_at basis xs zs ys ws t))
