-- Pieces under a curve and pieces over it, over whole numbers, which need not be cut at the same points. Definitions only.
--
-- A line (A, B) is A − B y². From a to b it has the area A (b − a) − B (b³ − a³)/3, so that 3 A b + B a³ − 3 A a − B b³ is three times that.
use Rattle.std.specs.Prelude.{◌≡◌, List, [], ◌∷◌, ℕ, ◌+◌, ◌*◌, ◌≤◌, ◌<◌}

-- a piece under the curve: where it ends, its line, and an area that it has at least
pub record Under : Type 0 where
  pub end : ℕ
  pub top : ℕ
  pub fall : ℕ
  pub area : ℕ

-- a piece over the curve: where it ends, a height at least the curve's there, and an area that it has at most
pub record Over : Type 0 where
  pub end : ℕ
  pub height : ℕ
  pub area : ℕ

unfoldable pub under_sum : List Under → ℕ
under_sum [] = 0
under_sum (p ∷ ps) = p.area + under_sum ps

unfoldable pub over_sum : List Over → ℕ
over_sum [] = 0
over_sum (p ∷ ps) = p.area + over_sum ps

-- The line lies below each height that counts as over the curve (Tall x f: the height f at x does), and below K/y².
unfoldable pub Line : ℕ → (ℕ → ℕ → Type 0) → ℕ → ℕ → Type 0
Line K Tall A B = ((x f : ℕ) → Tall x f → A ≤ f + B * (x * x)) × ((m : ℕ) → 4 * A * (m * m) ≤ 16 * K + B * (m * m * (m * m)))

-- pieces under the curve from a on; W is three times the unit of the areas
unfoldable pub Lower : ℕ → ℕ → (ℕ → ℕ → Type 0) → ℕ → List Under → Type 0
Lower W K Tall a [] = Unit
Lower W K Tall a (p ∷ ps) =
    (a ≤ p.end) × Line K Tall p.top p.fall
    × (W * p.area + p.fall * (p.end * p.end * p.end) + 3 * p.top * a ≤ 3 * p.top * p.end + p.fall * (a * a * a))
    × Lower W K Tall p.end ps

-- pieces over the curve from x on, where f is the height, and a tail T: from x to x' the line through both heights has three times the area
-- (x' − x) (f (2 x' + x) + f' (x' + 2 x)) / (x + x'), and beyond x there lies K/x under K/y²
unfoldable pub Upper : ℕ → ℕ → ℕ → (ℕ → ℕ → Type 0) → ℕ → ℕ → List Over → Type 0
Upper W K T Tall x f [] = (0 < x) × Tall x f × (3 * K ≤ W * T * x)
Upper W K T Tall x f (p ∷ ps) =
    (x ≤ p.end) × Tall x f
    × ((w : ℕ) → x + w ≡ p.end → w * (f * (2 * p.end + x) + p.height * (p.end + 2 * x)) ≤ (x + p.end) * (W * p.area))
    × Upper W K T Tall p.end p.height ps
