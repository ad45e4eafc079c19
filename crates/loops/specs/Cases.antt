-- Proofs by cases on a test.
use Rattle.std.specs.Prelude.{◌≡◌, refl, Bool, true, false, cond, ◌&&◌, ◌||◌, ℕ, ◌≤◌, ◌<◌, leb}
use Rattle.std.proofs.Common.{sym, leb-true, leb-false}
use Rattle.std.proofs.lemmas.Bool.{false≢true}

-- by what a test says
pub by_test : (t : Bool) {G : Type 0} → (t ≡ true → G) → (t ≡ false → G) → G
by_test true f g = f refl
by_test false f g = g refl

-- what `cond` picks has what both have
pub choose : {X : Type 0} (P : X → Type 0) (t : Bool) (x y : X) → (t ≡ true → P x) → (t ≡ false → P y) → P (cond t x y)
choose P true x y f g = f refl
choose P false x y f g = g refl

-- by the order of two numbers
pub either : (a b : ℕ) {G : Type 0} → (a ≤ b → G) → (b < a → G) → G
either a b f g = by_test (leb a b) (λ t. f (leb-true a b t)) (λ t. g (leb-false a b t))

-- a test does not say both
pub never : {G : Type 0} → false ≡ true → G
never h = absurd (false≢true h)

-- both of two tests hold
pub and_first : (a b : Bool) → a && b ≡ true → a ≡ true
and_first true b h = refl
and_first false b h = h

pub and_second : (a b : Bool) → a && b ≡ true → b ≡ true
and_second true b h = h
and_second false b h = never h

-- neither of two tests holds
pub or_false : (s t : Bool) → (s || t) ≡ false → (s ≡ false) × (t ≡ false)
or_false true t e = never (sym e)
or_false false t e = (refl, e)
