-- Laws of the upper half: rows added to sums that agree there leave sums that do, the sums of rows are symmetric, and symmetric sums that agree there are one.
use Rattle.std.specs.Prelude.{◌≡◌, refl, Bool, true, false, cond, List, ◌++◌, map, ℕ, ◌+◌, ◌*◌, ◌/◌, ◌%◌, ◌≤◌, ◌<◌, ltb, eqb, length, get_or, Float}
use Rattle.std.proofs.Common.{sym, ap, ◌∙◌, mul_comm, arith, ltb-true, ltb-false, ext_get_or}
use Rattle.std.proofs.Math.Path.{fun_ext}
use Rattle.std.proofs.Math.ListN.{get_or-append}
use Rattle.std.specs.Float.{nan, inf, fin, binary64}
use Rattle.std.specs.Float.Ieee.{add, mul, round, unlike, up, down}
use Rattle.loops.specs.PlaceLaws.{each_past}
use Rattle.value.specs.Total.{total_f}
use Rattle.monomial.specs.Rows.{WeightedRow}
use Rattle.monomial.specs.Sums.{weighted_product, add_row, sums_of}
use Rattle.monomial.specs.SumLaws.{length_sums, length_add_row, sums_at, weighted_matrix}
use Rattle.monomial.specs.Upper.{SameUpper, Symmetric}
use Rattle.monomial.specs.CornerLaws.{add_row_at}

pub upper_itself : (s : List Float) → SameUpper s s
upper_itself s = record { long = refl; matrix = λ i j a b. refl; behind = λ p a. refl }

pub upper_then : {s t u : List Float} → SameUpper s t → SameUpper t u → SameUpper s u
upper_then p q = record { long = p.long ∙ q.long; matrix = λ i j a b. p.matrix i j a b ∙ q.matrix i j a b; behind = λ k a. p.behind k a ∙ q.behind k a }

add_row_past : (s : List Float) (r : WeightedRow) (p : ℕ) → 272 ≤ p → get_or (add_row s r) p nan ≡ get_or s p nan
unfolding add_row
add_row_past s r p h = each_past (λ k v. add binary64 v (weighted_product r k)) 272 s p nan h

-- one row more
pub row_upper : (s t : List Float) (r : WeightedRow) → 272 ≤ length s → SameUpper s t → SameUpper (add_row s r) (add_row t r)
row_upper s t r h w =
    record {
      long = length_add_row s r ∙ w.long ∙ sym (length_add_row t r);
      matrix = λ i j a b. place (16 * i + j) (omega arith) (w.matrix i j a b);
      behind = λ p a. go p (ltb p 272) refl (w.behind p a);
    }
  where
    place : (p : ℕ) → p < 272 → get_or s p nan ≡ get_or t p nan → get_or (add_row s r) p nan ≡ get_or (add_row t r) p nan
    place p l e = add_row_at s r p h l ∙ ap (λ v. add binary64 v (weighted_product r p)) e ∙ sym (add_row_at t r p (omega (arith, w.long)) l)

    go : (p : ℕ) (b : Bool) → ltb p 272 ≡ b → get_or s p nan ≡ get_or t p nan → get_or (add_row s r) p nan ≡ get_or (add_row t r) p nan
    go p true q e = place p (ltb-true p 272 q) e
    go p false q e = add_row_past s r p (ltb-false p 272 q) ∙ e ∙ sym (add_row_past t r p (ltb-false p 272 q))

-- ---- a product is that of its factors in the other order

unlike_turned : (s t : Bool) → unlike s t ≡ unlike t s
unlike_turned true true = refl
unlike_turned true false = refl
unlike_turned false true = refl
unlike_turned false false = refl

pub times_turned : (a b : Float) → mul binary64 a b ≡ mul binary64 b a
unfolding mul
times_turned nan nan = refl
times_turned nan (inf t) = refl
times_turned nan (fin t n d) = refl
times_turned (inf s) nan = refl
times_turned (inf s) (inf t) = ap inf (unlike_turned s t)
times_turned (inf s) (fin t n d) = ap (λ (u : Bool). cond (eqb n 0) nan (inf u)) (unlike_turned s t)
times_turned (fin s m e) nan = refl
times_turned (fin s m e) (inf t) = ap (λ (u : Bool). cond (eqb m 0) nan (inf u)) (unlike_turned s t)
times_turned (fin s m e) (fin t n d) = λ i. round binary64 (unlike_turned s t i) (mul_comm (m * up e) (n * up d) i) (mul_comm (down e) (down d) i)

product_turned : (r : WeightedRow) (i j : ℕ) → i < 16 → j < 16 → weighted_product r (16 * j + i) ≡ weighted_product r (16 * i + j)
product_turned r i j h g =
    weighted_matrix r.row.terms r.row.y r.weight j i g h
    ∙ ap (λ (p : Float). mul binary64 p r.weight) (times_turned (get_or r.row.terms j nan) (get_or r.row.terms i nan))
    ∙ sym (weighted_matrix r.row.terms r.row.y r.weight i j h g)

-- the sums of rows, with anything behind them
pub sums_symmetric : (rs : List WeightedRow) (t : List Float) → Symmetric (sums_of rs ++ t)
sums_symmetric rs t =
    record {
      turned = λ i j a b. at (16 * j + i) (omega arith) ∙ ap total_f (ap (λ f. map f rs) (fun_ext (λ (r : WeightedRow). product_turned r i j (omega arith) b)))
          ∙ sym (at (16 * i + j) (omega arith));
    }
  where
    at : (p : ℕ) → p < 272 → get_or (sums_of rs ++ t) p nan ≡ total_f (map (λ (r : WeightedRow). weighted_product r p) rs)
    at p h = get_or-append (sums_of rs) t nan p (omega (arith, length_sums rs)) ∙ sums_at rs p h

-- ---- two lists of symmetric sums that agree in the upper half

pub upper_all : (s t : List Float) → SameUpper s t → Symmetric s → Symmetric t → s ≡ t
upper_all s t w a b = ext_get_or nan s t w.long (λ p h. go p (ltb p 256) refl)
  where
    half : (i j : ℕ) → j < 16 → i < 16 → (c : Bool) → ltb j i ≡ c → get_or s (16 * i + j) nan ≡ get_or t (16 * i + j) nan
    half i j h g true q = let l = ltb-true j i q in a.turned j i l g ∙ w.matrix j i (omega arith) g ∙ sym (b.turned j i l g)
    half i j h g false q = w.matrix i j (ltb-false j i q) h

    go : (p : ℕ) (c : Bool) → ltb p 256 ≡ c → get_or s p nan ≡ get_or t p nan
    go p true q =
        let l = ltb-true p 256 q in
        let e : p ≡ 16 * (p / 16) + p % 16 = omega arith in
        rw e (half (p / 16) (p % 16) (omega arith) (omega arith) (ltb (p % 16) (p / 16)) refl)
    go p false q = w.behind p (ltb-false p 256 q)
