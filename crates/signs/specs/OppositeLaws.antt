-- Laws of Opposite.antt.
use Rattle.std.specs.Prelude.{◌≡◌, refl, Bool, true, false, pos, Float}
use Rattle.std.proofs.Common.{sym, ap, subst, subst₂, ◌∙◌, inl, inr}
use Rattle.std.specs.Float.{nan, inf, fin}
use Rattle.std.specs.Float.Ieee.{neg}
use Rattle.signs.specs.Opposite.{Zero, Same, Opposite}

pub same_sym : {a b : Float} → Same a b → Same b a
same_sym (inl p) = inl (sym p)
same_sym (inr z) = inr (z.1, z.0)

pub same_trans : {a b c : Float} → Same a b → Same b c → Same a c
same_trans (inl p) (inl q) = inl (p ∙ q)
same_trans (inl p) (inr z) = inr (subst Zero (sym p) z.0, z.1)
same_trans (inr z) (inl q) = inr (z.0, subst Zero q z.1)
same_trans (inr z) (inr w) = inr (z.0, w.1)

pub neg_neg : (a : Float) → neg (neg a) ≡ a
unfolding neg
neg_neg nan = refl
neg_neg (inf true) = refl
neg_neg (inf false) = refl
neg_neg (fin true m e) = refl
neg_neg (fin false m e) = refl

pub zero_neg : (a : Float) → Zero a → Zero (neg a)
unfolding neg
zero_neg nan z = z
zero_neg (inf s) z = z
zero_neg (fin s m e) z = z

pub neg_same : {a b : Float} → Same a b → Same (neg a) (neg b)
neg_same (inl p) = inl (ap neg p)
neg_same {a} {b} (inr z) = inr (zero_neg a z.0, zero_neg b z.1)

pub opposite_neg : (a : Float) → Opposite (neg a) a
opposite_neg a = record { negated = inl (neg_neg a) }

pub opposite_of : (a : Float) → Opposite a (neg a)
opposite_of a = record { negated = inl refl }

pub opposite_sym : {a b : Float} → Opposite a b → Opposite b a
opposite_sym {a} {b} o = record { negated = same_trans (neg_same (same_sym o.negated)) (inl (neg_neg a)) }

-- +0 is its own opposite
pub opposite_zero : Opposite (fin false 0 (pos 0)) (fin false 0 (pos 0))
unfolding neg
opposite_zero = record { negated = inr ((refl, refl), (refl, refl)) }

pub opposite_nan : Opposite nan nan
unfolding neg
opposite_nan = record { negated = inl refl }

-- ---- what treats the two zeros alike treats numbers that are the same alike

zero_is : (a : Float) → Zero a → (s : Bool) × (a ≡ fin s 0 (pos 0))
zero_is nan z = absurd z
zero_is (inf s) z = absurd z
zero_is (fin s m e) z = (s, λ i. fin s (z.0 i) (z.1 i))

pub at_same : (g : Float → Float) → ((s t : Bool) → Same (g (fin s 0 (pos 0))) (g (fin t 0 (pos 0)))) → {a b : Float} → Same a b → Same (g a) (g b)
at_same g h (inl p) = inl (ap g p)
at_same g h {a} {b} (inr z) =
    let p = zero_is a z.0 in
    let q = zero_is b z.1 in
    subst₂ (λ (x y : Float). Same (g x) (g y)) (sym p.1) (sym q.1) (h p.0 q.0)

pub same_at : {X : Type 0} (g : Float → X) → ((s t : Bool) → g (fin s 0 (pos 0)) ≡ g (fin t 0 (pos 0))) → {a b : Float} → Same a b → g a ≡ g b
same_at g h (inl p) = ap g p
same_at g h {a} {b} (inr z) =
    let p = zero_is a z.0 in
    let q = zero_is b z.1 in
    ap g p.1 ∙ h p.0 q.0 ∙ sym (ap g q.1)
