-- Laws of Text.antt.
use Rattle.std.specs.Prelude.{◌≡◌, List, [], ◌∷◌, ◌++◌, Bool, true, false, cond, ℕ, zero, suc, ◌+◌, ◌/◌, ◌%◌, ◌^◌, ◌≤◌, ◌<◌, ltb, Float, length}
use Rattle.std.proofs.Common.{ap, subst, ◌∙◌, div-lt_iff_lt-mul, pow-suc, arith, lt-ltb, length-append}
use Rattle.std.specs.Float.{binary64}
use Rattle.std.specs.Float.Ieee.{to_bits}
use Rattle.std.proofs.lemmas.List.{length-map}
use Rattle.loops.specs.Digits.{digits}
use Rattle.loops.specs.DigitLaws.{length_digits}
use Rattle.listing.specs.Text.{glyph, decimal_in, decimal, hexadecimal, bits_of, fields, line}

pub length_hexadecimal : (n : ℕ) → length (hexadecimal n) ≡ 16
unfolding hexadecimal
length_hexadecimal n = length-map (digits 16 16 n) glyph ∙ length_digits 16 16 n

pub length_bits : (v : Float) → length (bits_of v) ≡ 16
unfolding bits_of
length_bits v = length_hexadecimal (to_bits binary64 v)

-- at most 20 decimal digits
few_digits : (k n : ℕ) → length (decimal_in k n) ≤ k
unfolding decimal_in
few_digits zero n = omega arith
few_digits (suc k) n = by_test (ltb n 10) (decimal_in k (n / 10)) (few_digits k (n / 10))
  where
    by_test : (t : Bool) (front : List ℕ) → length front ≤ k → length (cond t (glyph n ∷ []) (front ++ (glyph (n % 10) ∷ []))) ≤ suc k
    by_test true front h = omega arith
    by_test false front h = rw length-append (omega arith)

pub length_decimal : (n : ℕ) → length (decimal n) ≤ 20
unfolding decimal
length_decimal n = few_digits 20 n

-- below 10 ^ k, at most k where k is not 0
digits_below : (f k n : ℕ) → n < 10 ^ suc k → length (decimal_in f n) ≤ suc k
unfolding decimal_in
digits_below zero k n h = omega arith
digits_below (suc f) zero n h = rw (lt-ltb n 10 h) (omega arith)
digits_below (suc f) (suc k) n h =
    let some : 0 < 10 = omega arith in
    let few : n / 10 < 10 ^ suc k = (div-lt_iff_lt-mul some).1 (subst (λ z. n < z) (pow-suc 10 (suc k)) h) in
    by_test (ltb n 10) (decimal_in f (n / 10)) (digits_below f k (n / 10) few)
  where
    by_test : (t : Bool) (front : List ℕ) → length front ≤ suc k → length (cond t (glyph n ∷ []) (front ++ (glyph (n % 10) ∷ []))) ≤ suc (suc k)
    by_test true front q = omega arith
    by_test false front q = rw length-append (omega arith)

-- below 10,000, at most 4
pub length_small : (n : ℕ) → n < 10000 → length (decimal n) ≤ 4
unfolding decimal
length_small n h = digits_below 20 3 n h

-- a line of a word and one field
pub length_line : (w f : List ℕ) → length (line w (f ∷ [])) ≡ length w + (length f + 2)
unfolding line fields
length_line w f = length-append w (32 ∷ (f ++ (10 ∷ []))) ∙ ap (λ z. length w + suc z) (length-append f (10 ∷ [])) ∙ omega arith
