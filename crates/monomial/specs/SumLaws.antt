-- Laws of Sums.antt.
use Rattle.std.specs.Prelude.{◌≡◌, List, [], ◌∷◌, ◌++◌, map, ℕ, ◌+◌, ◌-◌, ◌*◌, ◌/◌, ◌%◌, ◌≤◌, ◌<◌, length, get_or, take, drop, replicate, Float}
use Rattle.std.proofs.Common.{sym, ◌∙◌, lt-ltb, le-ltb, lit≤, take-append-drop}
use Rattle.std.proofs.Math.Path.{ap, fun_ext}
use Rattle.std.proofs.lemmas.Simd.{map-map}
use Rattle.std.proofs.lemmas.List.{map-append}
use native.Mathlib.Omega.{arith}
use Rattle.std.specs.Float.{nan}
use Rattle.std.specs.Float.Ieee.{binary64, mul}
use Rattle.loops.specs.FoldLaws.{fold_snoc, fold_append}
use Rattle.loops.specs.Places.{each, table}
use Rattle.loops.specs.PlaceLaws.{table_at}
use Rattle.value.specs.Numbers.{zero_f}
use Rattle.value.specs.Power.{power_f}
use Rattle.value.specs.Total.{total_f}
use Rattle.samples.specs.declared.Sample.{Sample}
use Rattle.monomial.specs.Rows.{WeightedRow, weighted_row, row_of, weighted_of, weighted_rows}
use Rattle.monomial.specs.Adding.{add_one, sums}
use Rattle.monomial.specs.AddingLaws.{length_add_one, add_one_append, sums_afresh, sums_length, sums_place, sums_same, sums_take, sums_drop}
use Rattle.monomial.specs.Sums.{product_of, weighted_product, add_row, add_rows, sums_of}
use Rattle.monomial.specs.Parts.{without_y, terms_of, y_aside, right_product}

-- the 272 sums are a case of n sums at once

pub length_sums : (rs : List WeightedRow) → length (sums_of rs) ≡ 272
unfolding sums_of add_row sums add_one
length_sums rs = sums_length weighted_product 272 rs

pub length_add_row : (s : List Float) (r : WeightedRow) → length (add_row s r) ≡ length s
unfolding add_row add_one
length_add_row s r = length_add_one weighted_product 272 s r

-- an add leaves what stands behind the 272 places alone
pub add_row_append : (s t : List Float) (r : WeightedRow) → length s ≡ 272 → add_row (s ++ t) r ≡ add_row s r ++ t
unfolding add_row add_one
add_row_append s t r h = add_one_append weighted_product 272 s t r h

-- rows added to 272 places that were set to +0
pub rows_afresh : (s : List Float) (rs : List WeightedRow) → 272 ≤ length s → add_rows (each (λ _ _. zero_f) 272 s) rs ≡ sums_of rs ++ drop 272 s
unfolding sums_of add_row sums add_one
rows_afresh s rs h = sums_afresh weighted_product 272 s rs h

-- one row more at the end is an add
pub sums_again : (rs : List WeightedRow) (r : WeightedRow) → sums_of (rs ++ (r ∷ [])) ≡ add_row (sums_of rs) r
unfolding sums_of
sums_again rs r = fold_snoc add_row (replicate 272 zero_f) rs r

-- one list of rows behind another
pub sums_append : (rs qs : List WeightedRow) → sums_of (rs ++ qs) ≡ add_rows (sums_of rs) qs
unfolding sums_of
sums_append rs qs = fold_append add_row (replicate 272 zero_f) rs qs

-- place k is the sum, in index order from +0, of what each row adds there
pub sums_at : (rs : List WeightedRow) (k : ℕ) → k < 272 → get_or (sums_of rs) k nan ≡ total_f (map (λ (r : WeightedRow). weighted_product r k) rs)
unfolding sums_of add_row sums add_one
sums_at rs k h = sums_place weighted_product 272 rs k h

-- ---- the two parts, A and g

module _ (terms : List Float) (y : Float) where
  pub product_matrix : (i j : ℕ) → i < 16 → j < 16 → product_of terms y (16 * i + j) ≡ mul binary64 (get_or terms i nan) (get_or terms j nan)
  unfolding product_of
  product_matrix i j h g =
      let d : (16 * i + j) / 16 ≡ i = omega arith in
      let m : (16 * i + j) % 16 ≡ j = omega arith in
      rw (lt-ltb (16 * i + j) 256 (omega arith), d, m)

  pub product_right : (i : ℕ) → product_of terms y (256 + i) ≡ mul binary64 (get_or terms i nan) y
  unfolding product_of
  product_right i =
      let d : 256 + i - 256 ≡ i = omega arith in
      rw (le-ltb (256 + i) 256 (omega arith), d)

  product_no_y : (k : ℕ) → k < 256 → product_of terms y k ≡ product_of terms zero_f k
  unfolding product_of
  product_no_y k h = rw (lt-ltb k 256 h)

-- with the weight
module _ (terms : List Float) (y w : Float) where
  pub weighted_matrix : (i j : ℕ) → i < 16 → j < 16
      → weighted_product (weighted_row terms y w) (16 * i + j) ≡ mul binary64 (mul binary64 (get_or terms i nan) (get_or terms j nan)) w
  unfolding weighted_product
  weighted_matrix i j h g = ap (λ p. mul binary64 p w) (product_matrix terms y i j h g)

  pub weighted_right : (i : ℕ) → weighted_product (weighted_row terms y w) (256 + i) ≡ mul binary64 (mul binary64 (get_or terms i nan) y) w
  unfolding weighted_product
  weighted_right i = ap (λ p. mul binary64 p w) (product_right terms y i)

-- at a place of A, y is not read
pub weighted_no_y : (r : WeightedRow) (k : ℕ) → k < 256 → weighted_product r k ≡ weighted_product (without_y r) k
unfolding weighted_product
weighted_no_y r k h = ap (λ p. mul binary64 p r.weight) (product_no_y r.row.terms r.row.y k h)

matrix_is : (rs : List WeightedRow) → take 256 (sums_of rs) ≡ sums weighted_product 256 (terms_of rs)
unfolding sums_of add_row sums add_one
matrix_is rs =
    sums_take weighted_product 272 256 rs (lit≤ tt)
    ∙ sums_same weighted_product weighted_product 256 rs (terms_of rs)
    (λ k h. ap (λ f. map f rs) (fun_ext (λ (r : WeightedRow). weighted_no_y r k h)) ∙ sym (map-map (λ (r : WeightedRow). weighted_product r k) without_y rs))

pub matrix_same : (rs qs : List WeightedRow) → terms_of rs ≡ terms_of qs → take 256 (sums_of rs) ≡ take 256 (sums_of qs)
matrix_same rs qs e = matrix_is rs ∙ ap (λ l. sums weighted_product 256 l) e ∙ sym (matrix_is qs)

-- so after a correction, which leaves A and folds g afresh, the sums are those of the corrected list
pub corrected : (rs qs : List WeightedRow) → terms_of rs ≡ terms_of qs → take 256 (sums_of rs) ++ drop 256 (sums_of qs) ≡ sums_of qs
corrected rs qs e = rw (matrix_same rs qs e) (take-append-drop 256 (sums_of qs))

pub right_is : (rs : List WeightedRow) → drop 256 (sums_of rs) ≡ sums right_product 16 rs
unfolding sums_of add_row sums add_one
right_is rs = sums_drop weighted_product 272 256 rs (lit≤ tt)

-- ---- the curve

-- samples that differ in y alone have the same term values and weights
pub terms_same : (ps qs : List Sample) → map y_aside ps ≡ map y_aside qs → terms_of (weighted_rows ps) ≡ terms_of (weighted_rows qs)
unfolding row_of
terms_same ps qs e = by_aside ps ∙ ap (λ l. map (λ p. without_y (weighted_of p)) l) e ∙ sym (by_aside qs)
  where
    by_aside : (ps : List Sample) → terms_of (weighted_rows ps) ≡ map (λ p. without_y (weighted_of p)) (map y_aside ps)
    by_aside ps = map-map without_y weighted_of ps ∙ sym (map-map (λ p. without_y (weighted_of p)) y_aside ps)

-- one sample more at the end
pub rows_again : (ps : List Sample) (p : Sample) → weighted_rows (ps ++ (p ∷ [])) ≡ weighted_rows ps ++ (weighted_of p ∷ [])
rows_again ps p = map-append weighted_of ps (p ∷ [])

-- place k over samples, where g says what each adds there
samples_at : (ps : List Sample) (k : ℕ) (g : Sample → Float) → k < 272 → ((p : Sample) → weighted_product (weighted_of p) k ≡ g p)
    → get_or (sums_of (weighted_rows ps)) k nan ≡ total_f (map g ps)
samples_at ps k g h e = sums_at (weighted_rows ps) k h ∙ ap total_f (map-map (λ (r : WeightedRow). weighted_product r k) weighted_of ps ∙ ap (λ f. map f ps) (fun_ext e))

-- A[i][j] at 16i + j: the sum over samples of (xⁱ × xʲ) × w
pub matrix_at : (ps : List Sample) (i j : ℕ) → i < 16 → j < 16
    → get_or (sums_of (weighted_rows ps)) (16 * i + j) nan
    ≡ total_f (map (λ (p : Sample). mul binary64 (mul binary64 (power_f p.x i) (power_f p.x j)) p.w) ps)
unfolding row_of
matrix_at ps i j h g =
    samples_at ps (16 * i + j) (λ (p : Sample). mul binary64 (mul binary64 (power_f p.x i) (power_f p.x j)) p.w) (omega arith)
    (λ p. weighted_matrix (table (power_f p.x) 16) p.y p.w i j h g ∙ (rw (table_at (power_f p.x) 16 i nan h, table_at (power_f p.x) 16 j nan g)))

-- g[i] at 256 + i: the sum of (xⁱ × y) × w
pub right_at : (ps : List Sample) (i : ℕ) → i < 16
    → get_or (sums_of (weighted_rows ps)) (256 + i) nan ≡ total_f (map (λ (p : Sample). mul binary64 (mul binary64 (power_f p.x i) p.y) p.w) ps)
unfolding row_of
right_at ps i h =
    samples_at ps (256 + i) (λ (p : Sample). mul binary64 (mul binary64 (power_f p.x i) p.y) p.w) (omega arith)
    (λ p. weighted_right (table (power_f p.x) 16) p.y p.w i ∙ (rw (table_at (power_f p.x) 16 i nan h)))
