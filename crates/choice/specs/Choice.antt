-- Document 01's choice among the degrees 0, 1, .. below b, where S d is the score of degree d if it is solved, and else none. Definitions only.
use Rattle.std.specs.Prelude.{Bool, false, cond, List, ℕ, ◌+◌, ◌<◌, get_or, Float, ◌≡◌, true, Option, Some, None, is_some, unwrap_or}
use Rattle.std.specs.Float.{binary64}
use Rattle.std.specs.Float.Ieee.{sub, lt, le}
use Rattle.value.specs.Finite.{finite}
use Rattle.loops.specs.Loop.{from, seek}
use Rattle.basis.specs.declared.Degree.{Degree}
use Rattle.value.specs.Numbers.{zero_f, two_f, infinity_f}

-- the degree d
abbrev pub degree : ℕ → Degree
degree d = record { 0 = d }

-- The least score yields to a smaller one of a solved degree;
unfoldable pub yields : Option Float → Float → Float
yields None a = a
yields (Some v) a = cond (lt v a) v a

-- document 01's "least": it starts at +infinity and yields to each smaller score of a solved degree
unfoldable pub least_of : (ℕ → Option Float) → ℕ → Float
least_of S b = from (λ d a. yields (S d) a) 0 b infinity_f

-- a solved degree with score − least, a float step, at most 2
unfoldable pub near : Float → Option Float → Bool
near a None = false
near a (Some v) = le (sub binary64 v a) two_f

abbrev pub degree_of : Option ℕ → Option Degree
degree_of None = None
degree_of (Some d) = Some (degree d)

-- document 01's "chosen": the lowest solved degree with score − least at most 2
unfoldable pub chosen_of : (ℕ → Option Float) → ℕ → Option Degree
chosen_of S b = degree_of (seek (λ d. near (least_of S b) (S d)) 0 b)

-- the score of the chosen degree; +0 stands where none is chosen
unfoldable pub chosen_score : (ℕ → Option Float) → Option Degree → Float
chosen_score S None = zero_f
chosen_score S (Some d) = unwrap_or (S d.0) zero_f

-- a degree, if one is chosen, is below b
abbrev pub Below : ℕ → Option Degree → Type 0
Below b None = Unit {0}
Below b (Some d) = d.0 < b

-- the number of solved degrees
unfoldable pub solved_count : (ℕ → Option Float) → ℕ → ℕ
solved_count S b = from (λ d m. cond (is_some (S d)) (m + 1) m) 0 b 0

-- of a list
abbrev pub scored_at : List (Option Float) → ℕ → Option Float
scored_at scores d = get_or scores d None

-- ---- in words

-- degree d is chosen: it is solved, with a score at most 2 above the least, which is finite; and no lower solved degree is
pub record Chosen (S : ℕ → Option Float) (b d : ℕ) : Type 0 where
  pub within : d < b
  pub score : Float
  pub is_solved_lem : S d ≡ Some score
  pub close : le (sub binary64 score (least_of S b)) two_f ≡ true
  pub least_finite : finite (least_of S b) ≡ true
  pub lowest : (e : ℕ) (v : Float) → e < d → S e ≡ Some v → le (sub binary64 v (least_of S b)) two_f ≡ false

-- a is the score of a solved degree
pub record Attained (S : ℕ → Option Float) (b : ℕ) (a : Float) : Type 0 where
  pub degree : ℕ
  pub within : degree < b
  pub is_least : S degree ≡ Some a
