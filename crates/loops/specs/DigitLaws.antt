-- Laws of Digits.antt.
use Rattle.std.specs.Prelude.{◌≡◌, refl, List, [], ◌∷◌, ◌++◌, ℕ, zero, suc, ◌+◌, ◌-◌, ◌*◌, ◌/◌, ◌%◌, ◌^◌, ◌<◌, length, get_or}
use Rattle.std.proofs.Common.{sym, ap, subst, ◌∙◌, zero-add, add-zero, mul-one, add-mul, mul_assoc, add_assoc, zero-mul, div-one, div-add-mod', div-lt_iff_lt-mul, pow-suc, arith, length-append}
use Rattle.std.proofs.Math.Nat.{div-div-eq-div-mul, pow-zero, pow-succ'}
use Rattle.loops.specs.Fold.{fold}
use Rattle.loops.specs.FoldLaws.{fold_snoc, fold_append}
use Rattle.loops.specs.Digits.{digits, number}

pub length_digits : (b k n : ℕ) → length (digits b k n) ≡ k
unfolding digits
length_digits b zero n = refl
length_digits b (suc k) n = length-append (digits b k (n / b)) (n % b ∷ []) ∙ ap (λ z. z + 1) (length_digits b k (n / b)) ∙ omega arith

-- the first of k + 1 digits, and the k others
pub digits_cons : (b k n : ℕ) → digits b (suc k) n ≡ n / b ^ k % b ∷ digits b k n
unfolding digits
digits_cons b zero n = ap (λ z. z % b ∷ []) (sym (ap (λ z. n / z) (pow-zero b) ∙ div-one n))
digits_cons b (suc k) n =
    ap (λ l. l ++ (n % b ∷ [])) (digits_cons b k (n / b))
    ∙ ap (λ z. z % b ∷ digits b k (n / b) ++ (n % b ∷ [])) (div-div-eq-div-mul n b (b ^ k) ∙ ap (λ z. n / z) (sym (pow-succ' b k)))

-- digit i of k
pub digits_at : (b k n i : ℕ) → i < k → get_or (digits b k n) i 0 ≡ n / b ^ (k - 1 - i) % b
digits_at b zero n i h = absurd (omega arith)
digits_at b (suc k) n zero h = ap (λ l. get_or l 0 0) (digits_cons b k n) ∙ ap (λ z. n / b ^ z % b) (first k)
  where
    first : (k : ℕ) → k ≡ suc k - 1 - 0
    first k = omega arith
digits_at b (suc k) n (suc i) h = ap (λ l. get_or l (suc i) 0) (digits_cons b k n) ∙ digits_at b k n i (omega arith) ∙ ap (λ z. n / b ^ z % b) (later k i)
  where
    later : (k i : ℕ) → k - 1 - i ≡ suc k - 1 - suc i
    later k i = omega arith

-- the digits of a number spell it
pub number_digits : (b k n : ℕ) → 0 < b → n < b ^ k → number b (digits b k n) ≡ n
unfolding number digits fold
number_digits b zero n p h =
    let z : n ≡ 0 = omega (arith, subst (λ z. n < z) (pow-zero b) h) in
    sym z
number_digits b (suc k) n p h =
    fold_snoc (λ a d. a * b + d) 0 (digits b k (n / b)) (n % b)
    ∙ ap (λ z. z * b + n % b) (number_digits b k (n / b) p ((div-lt_iff_lt-mul p).1 (subst (λ z. n < z) (pow-suc b k) h)))
    ∙ div-add-mod' n b

-- what digits spell behind a number a
folded_from : (b a : ℕ) (l : List ℕ) → fold (λ c d. c * b + d) a l ≡ a * b ^ length l + fold (λ c d. c * b + d) 0 l
unfolding fold
folded_from b a [] = sym (add-zero (a * b ^ 0) ∙ ap (λ z. a * z) (pow-zero b) ∙ mul-one a)
folded_from b a (d ∷ l) =
    folded_from b (a * b + d) l
    ∙ step a d (b ^ length l) (fold (λ c e. c * b + e) 0 l)
    ∙ ap (λ z. a * z + (d * b ^ length l + fold (λ c e. c * b + e) 0 l)) (sym (pow-succ' b (length l)))
    ∙ ap (λ z. a * b ^ suc (length l) + z) (sym (folded_from b d l) ∙ ap (λ z. fold (λ c e. c * b + e) z l) (sym (ap (λ z. z + d) (zero-mul b) ∙ zero-add d)))
  where
    step : (a q p r : ℕ) → (a * b + q) * p + r ≡ a * (b * p) + (q * p + r)
    step a q p r = ap (λ z. z + r) (add-mul (a * b) q p ∙ ap (λ z. z + q * p) (mul_assoc a b p)) ∙ add_assoc (a * (b * p)) (q * p) r

-- two runs of digits: the first, moved up, and the second
pub number_append : (b : ℕ) (l m : List ℕ) → number b (l ++ m) ≡ number b l * b ^ length m + number b m
unfolding number
number_append b l m = fold_append (λ c d. c * b + d) 0 l m ∙ folded_from b (fold (λ c d. c * b + d) 0 l) m
