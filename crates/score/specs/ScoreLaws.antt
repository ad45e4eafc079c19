-- Laws of Score.antt.
use Rattle.std.specs.Prelude.{◌≡◌, ℕ, true, false, ◌&&◌, Float}
use Rattle.std.specs.Float.{binary64}
use Rattle.std.specs.Float.Ieee.{add, sub, mul, div, lt}
use Rattle.value.specs.Logarithm.{ln_f}
use Rattle.value.specs.Numbers.{one_f, two_f, four_f, num}
use Rattle.score.specs.Score.{likelihood_of, aic_of, bic_of}

module _ (n k : ℕ) (total N K L : Float) (en : N ≡ num n) (ek : K ≡ num k) (el : L ≡ ln_f (likelihood_of n total)) where
  pub aic_few : lt (div binary64 N K) four_f && lt (add binary64 K one_f) N ≡ true
      → add binary64 (add binary64 (mul binary64 N L) (mul binary64 two_f K)) (div binary64 (mul binary64 (mul binary64 two_f K) (add binary64 K one_f)) (sub binary64 (sub binary64 N K) one_f)) ≡ aic_of n k total
  unfolding aic_of
  aic_few h = rw (← en, ← ek, ← el, h)

  pub aic_many : lt (div binary64 N K) four_f && lt (add binary64 K one_f) N ≡ false
      → add binary64 (mul binary64 N L) (mul binary64 two_f K) ≡ aic_of n k total
  unfolding aic_of
  aic_many h = rw (← en, ← ek, ← el, h)

  pub bic_is : (M : Float) → M ≡ ln_f N → add binary64 (mul binary64 N L) (mul binary64 K M) ≡ bic_of n k total
  unfolding bic_of
  bic_is M em = rw (em, ← en, ← ek, ← el)
