-- Document 01's "Refused, in checking order": the form of a test, and the order. A call's tests are a list. Definitions only.
use Rattle.std.specs.Prelude.{◌≡◌, Bool, false, cond, ◌||◌, List, [], ◌∷◌, map, ℕ, zero, suc, eqb}

-- A test and the number that it refuses by.
pub record Test : Type 0 where
  pub holds : Bool
  pub number : ℕ

abbrev pub by : Bool → ℕ → Test
by t k = record { holds = t; number = k }

-- In checking order: the number of the first test that holds, 0 if none does.
unfoldable pub first_of : List Test → ℕ
first_of [] = 0
first_of (r ∷ rs) = cond r.holds r.number (first_of rs)

-- by the refusal's number: 0 is none
abbrev pub settle : {A : Type 0} → ℕ → A → A → A
settle zero good bad = good
settle (suc k) good bad = bad

-- ---- the order

-- 01's numbers, and those of document 02 beside them, in the order in which they are checked
abbrev pub checking_order : List ℕ
checking_order = 18 ∷ 1 ∷ 17 ∷ 2 ∷ 3 ∷ 13 ∷ 14 ∷ 4 ∷ 15 ∷ 5 ∷ 6 ∷ 7 ∷ 8 ∷ 9 ∷ 10 ∷ 16 ∷ 11 ∷ 12 ∷ []

-- the largest of them
abbrev pub most_number : ℕ
most_number = 18

abbrev pub numbers_of : List Test → List ℕ
numbers_of rs = map (λ (r : Test). r.number) rs

unfoldable pub is_among : ℕ → List ℕ → Bool
is_among k [] = false
is_among k (l ∷ ls) = eqb k l || is_among k ls

-- those of the first list that are among the second
unfoldable pub those : List ℕ → List ℕ → List ℕ
those [] ks = []
those (o ∷ os) ks = let rest = those os ks in cond (is_among o ks) (o ∷ rest) rest

-- these numbers are among them, each stands once, and in the checking order
abbrev pub InOrder : List ℕ → Type 0
InOrder ks = those checking_order ks ≡ ks
