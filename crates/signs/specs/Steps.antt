-- What float steps make of opposite numbers.
use Rattle.std.specs.Prelude.{◌≡◌, refl, Bool, pos, Float}
use Rattle.std.proofs.Common.{sym, ap, ◌∙◌, inl}
use Rattle.std.specs.Float.{nan, inf, fin, Format, binary64}
use Rattle.std.specs.Float.Ieee.{neg, add, sub, mul, div, lt, le}
use Rattle.value.specs.Absolute.{abs_f}
use Rattle.value.specs.AbsoluteLaws.{square_abs}
use Rattle.value.specs.Finite.{finite}
use Rattle.value.specs.FiniteLaws.{finite_abs}
use Rattle.signs.specs.Opposite.{Opposite}
use Rattle.signs.specs.OppositeLaws.{same_sym, same_trans, neg_same, opposite_neg, opposite_of, same_at}
use Rattle.signs.specs.Negated.{mul_neg_left, mul_neg_right, div_neg, lt_neg, le_neg}
use Rattle.signs.specs.Zeros.{add_same, mul_same, div_same, lt_same, le_same, add_neg}

-- ---- the four steps

module _ (f : Format) {a a' : Float} (p : Opposite a a') where
  -- a' + b' is −(a + b)
  pub add_opposite : {b b' : Float} → Opposite b b' → Opposite (add f a b) (add f a' b')
  add_opposite {b} q = record { negated = same_trans (same_sym (add_neg f a b)) (add_same f p.negated q.negated) }

  pub sub_opposite : {b b' : Float} → Opposite b b' → Opposite (sub f a b) (sub f a' b')
  unfolding sub
  sub_opposite q = add_opposite (record { negated = neg_same q.negated })

  -- a' + c is −(a − c), and a' − c is −(a + c)
  pub sub_add_opposite : (c : Float) → Opposite (sub f a c) (add f a' c)
  unfolding sub
  sub_add_opposite c = add_opposite (opposite_neg c)

  pub add_sub_opposite : (c : Float) → Opposite (add f a c) (sub f a' c)
  unfolding sub
  add_sub_opposite c = add_opposite (opposite_of c)

  -- c × a' is −(c × a), a' × c is −(a × c), and a' / c is −(a / c)
  pub mul_opposite_right : (c : Float) → Opposite (mul f c a) (mul f c a')
  mul_opposite_right c = record { negated = same_trans (inl (sym (mul_neg_right f c a))) (mul_same f (inl refl) p.negated) }

  pub mul_opposite_left : (c : Float) → Opposite (mul f a c) (mul f a' c)
  mul_opposite_left c = record { negated = same_trans (inl (sym (mul_neg_left f a c))) (mul_same f p.negated (inl refl)) }

  pub div_opposite : (c : Float) → Opposite (div f a c) (div f a' c)
  div_opposite c = record { negated = same_trans (inl (sym (div_neg f a c))) (div_same f c p.negated) }

-- ---- what does not see the sign

abs_neg : (x : Float) → abs_f (neg x) ≡ abs_f x
unfolding abs_f neg
abs_neg nan = refl
abs_neg (inf s) = refl
abs_neg (fin s m e) = refl

abs_zeros : (s t : Bool) → abs_f (fin s 0 (pos 0)) ≡ abs_f (fin t 0 (pos 0))
unfolding abs_f
abs_zeros s t = refl

module _ {a a' : Float} (p : Opposite a a') where
  -- the same bits
  pub abs_opposite : abs_f a ≡ abs_f a'
  abs_opposite = sym (abs_neg a) ∙ same_at abs_f abs_zeros p.negated

  pub finite_opposite : finite a ≡ finite a'
  finite_opposite = sym (finite_abs a) ∙ ap finite abs_opposite ∙ finite_abs a'

  pub square_opposite : mul binary64 a a ≡ mul binary64 a' a'
  square_opposite = sym (square_abs a) ∙ ap (λ (x : Float). mul binary64 x x) abs_opposite ∙ square_abs a'

  -- a < b is b' < a'
  pub lt_opposite : {b b' : Float} → Opposite b b' → lt a b ≡ lt b' a'
  lt_opposite {b} q = sym (lt_neg a b) ∙ lt_same q.negated p.negated

  pub le_opposite : {b b' : Float} → Opposite b b' → le a b ≡ le b' a'
  le_opposite {b} q = sym (le_neg a b) ∙ le_same q.negated p.negated
