-- Laws of Folds.antt.
use Rattle.std.specs.Prelude.{◌≡◌, ℕ, zero, suc, ◌+◌, ◌-◌, ◌*◌, ◌/◌, ◌<◌, ◌≤◌, List, [], ◌∷◌, ◌++◌, length, take, ◌==◌, refl}
use Rattle.std.proofs.Common.{sym, ◌∙◌, mul-le-mul_right, eq-eqb, ne_eqb, take-add}
use Rattle.std.proofs.Math.Path.{ap}
use Rattle.std.proofs.Math.Nat.{mul-div-le}
use native.Mathlib.Omega.{arith}
use Rattle.std.proofs.Math.Seq.{take-length}
use Rattle.loops.specs.Cases.{choose}
use Rattle.loops.specs.Fold.{fold}
use Rattle.loops.specs.FoldLaws.{fold_table}
use Rattle.loops.specs.Places.{table}
use Rattle.folds.specs.Folds.{start_of, end_of, own_of, own}

-- 10 samples in 3 folds give 3, 3, 4
pub ten_in_three : (table (start_of 10 3) 3 ≡ 0 ∷ 3 ∷ 6 ∷ []) × (table (end_of 10 3) 3 ≡ 3 ∷ 6 ∷ 10 ∷ [])
unfolding start_of end_of table
ten_in_three = (refl, refl)

-- the first fold begins at 0, each other where the one before it ends, and the last ends at n
pub first_start : (n folds : ℕ) → start_of n folds 0 ≡ 0
unfolding start_of
first_start n folds = omega arith

pub next_start : (n folds f : ℕ) → f + 1 < folds → start_of n folds (f + 1) ≡ end_of n folds f
unfolding start_of end_of
next_start n folds f h = rw (ne_eqb (f + 1) folds (λ q. omega arith))

pub last_end : (n folds f : ℕ) → f + 1 ≡ folds → end_of n folds f ≡ n
unfolding end_of
last_end n folds f h = rw (eq-eqb (f + 1) folds h)

-- no fold passes n
pub product_below : (n folds f : ℕ) → f ≤ folds → f * (n / folds) ≤ n
product_below n folds f h = omega (arith, mul-le-mul_right (n / folds) h, mul-div-le n folds)

pub end_below : (n folds f : ℕ) → f < folds → end_of n folds f ≤ n
unfolding end_of
end_below n folds f h = choose (λ e. e ≤ n) (f + 1 == folds) n ((f + 1) * (n / folds)) (λ _. omega arith) (λ _. product_below n folds (f + 1) (omega arith))

-- and none ends before it begins
pub start_end : (n folds f : ℕ) → f < folds → start_of n folds f ≤ end_of n folds f
unfolding start_of end_of
start_end n folds f h =
    choose (λ e. f * (n / folds) ≤ e) (f + 1 == folds) n ((f + 1) * (n / folds)) (λ _. product_below n folds f (omega arith)) (λ _. mul-le-mul_right (n / folds) (omega arith))

-- so the folds' own rows, one fold after the other, are all rows, each once
own_after : {A : Type 0} (start end : ℕ) (rows : List A) → start ≤ end → take start rows ++ own_of start end rows ≡ take end rows
unfolding own_of
own_after start end rows h =
    let z : start + (end - start) ≡ end = omega arith in
    sym (take-add start (end - start) rows) ∙ ap (λ k. take k rows) z

module _ {A : Type 0} (rows : List A) (folds : ℕ) where
  one_more : (f : ℕ) → f < folds → fold ◌++◌ [] (table (own rows folds) f) ≡ take (start_of (length rows) folds f) rows
      → fold ◌++◌ [] (table (own rows folds) (f + 1)) ≡ take (end_of (length rows) folds f) rows
  one_more f h i =
      fold_table ◌++◌ [] (own rows folds) f ∙ ap (λ l. l ++ own rows folds f) i
      ∙ own_after (start_of (length rows) folds f) (end_of (length rows) folds f) rows (start_end (length rows) folds f h)

  joined : (f : ℕ) → f < folds → fold ◌++◌ [] (table (own rows folds) f) ≡ take (start_of (length rows) folds f) rows
  unfolding fold table
  joined zero h = rw first_start
  joined (suc f) h = rest f h (one_more f (omega arith) (joined f (omega arith)))
    where
      rest : (f : ℕ) → suc f < folds → fold ◌++◌ [] (table (own rows folds) (f + 1)) ≡ take (end_of (length rows) folds f) rows
          → fold ◌++◌ [] (table (own rows folds) (suc f)) ≡ take (start_of (length rows) folds (suc f)) rows
      rest f h i =
          let z : suc f ≡ f + 1 = omega arith in
          ap (λ k. fold ◌++◌ [] (table (own rows folds) k)) z ∙ i ∙ ap (λ k. take k rows) (sym (next_start (length rows) folds f (omega arith)) ∙ ap (start_of (length rows) folds) (sym z))

  pub covered : 0 < folds → fold ◌++◌ [] (table (own rows folds) folds) ≡ rows
  covered h =
      let z : folds - 1 + 1 ≡ folds = omega arith in
      ap (λ k. fold ◌++◌ [] (table (own rows folds) k)) (sym z) ∙ one_more (folds - 1) (omega arith) (joined (folds - 1) (omega arith))
      ∙ ap (λ k. take k rows) (last_end (length rows) folds (folds - 1) z)
      ∙ take-length rows
