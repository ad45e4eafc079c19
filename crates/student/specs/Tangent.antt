-- The parabola that touches Student's curve at a point, as a line in y² (`Lines`). All in whole numbers: the y of a point is x/D, and heights are in units of 1/(U H).
-- Definitions only.
use Rattle.std.specs.Prelude.{◌≡◌, ℕ, ◌+◌, ◌*◌, ◌^◌, ◌≤◌, ◌<◌}

-- x/D is the point S/P, where 1 + (S/P)² is (Q/P)², and f is at least the curve's height (P/Q)ⁿ there
unfoldable pub Tall : ℕ → ℕ → ℕ → ℕ → ℕ → ℕ → Type 0
Tall n U D H x f =
    (P : ℕ) × (Q : ℕ) × (S : ℕ)
    × (0 < P) × (x * P ≡ S * D) × (P * P + S * S ≡ Q * Q) × (H * (U * P ^ n) ≤ f * Q ^ n)

-- the line: with 1 + y² = Q²/P² at the point, S² = Q² - P², its height h/U, and H = 2 Q² D² e
abbrev pub top : ℕ → ℕ → ℕ → ℕ → ℕ → ℕ → ℕ
top n D e h Q S = e * (D * D) * h * (2 * (Q * Q) + n * (S * S))

abbrev pub fall : ℕ → ℕ → ℕ → ℕ → ℕ
fall n e h P = e * h * n * (P * P)
