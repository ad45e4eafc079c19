-- What the code counts to find the numbers in the middle of many without a sort. Not needed to read a public promise. Definitions only.
-- The bits of doubles with no sign are in the order of the doubles, so a place of the list in order is told by two counts of bits.
use Rattle.std.specs.Prelude.{◌≡◌, ℕ, ◌+◌, ◌-◌, ◌<◌, ◌≤◌, Bool, cond, not, ◌&&◌, T, List, [], ◌∷◌, map, nat_le, nat_lt, to_bits, Float}
use Rattle.std.specs.Int.{from_bool}
use Rattle.std.specs.Float.{binary64}
use Rattle.std.specs.Float.Ieee.{sub}
use Rattle.loops.specs.Fold.{fold}
use Rattle.value.specs.Absolute.{abs_f}
use Rattle.value.specs.Numbers.{plain}

-- no NaN and no sign. +infinity is one of them.
abbrev pub Plain : Float → Type 0
Plain x = T (plain x)

-- the deviations of sizes from d, worked out from the numbers: ||x| − d| of each
unfoldable pub distances : Float → List Float → List Float
distances d l = map (λ x. abs_f (sub binary64 (abs_f x) d)) l

-- how many pass a test
unfoldable pub count : (Float → Bool) → List Float → ℕ
count p [] = 0
count p (x ∷ xs) = from_bool (p x) + count p xs

-- whether a double's bits are at most b
abbrev pub upto : ℕ → Float → Bool
upto b x = nat_le (to_bits binary64 x) b

-- whether they are below b
abbrev pub under : ℕ → Float → Bool
under b x = not (nat_le b (to_bits binary64 x))

-- whether they are b or above
abbrev pub onward : ℕ → Float → Bool
onward b x = nat_le b (to_bits binary64 x)

-- b is the bits at place m of the list in order, from 0: at most m are under b, and more than m are up to b. +infinity has the greatest bits.
pub record AtPlace (l : List Float) (m b : ℕ) : Type 0 where
  pub small : b ≤ 0x7FF0_0000_0000_0000
  pub below : count (under b) l ≤ m
  pub reached : m < count (upto b) l

-- low and high stand at place m and at the one before it, if there is one
pub record Middles (l : List Float) (m low high : ℕ) : Type 0 where
  pub upper : AtPlace l m high
  pub lower : 0 < m → AtPlace l (m - 1) low

-- A range from lo to hi that place m lies in: `below` are under lo, and `most` up to hi.
pub record InRange (l : List Float) (m lo hi below most : ℕ) : Type 0 where
  pub ordered : lo ≤ hi
  pub small : hi ≤ 0x7FF0_0000_0000_0000
  pub under_it : below ≡ count (under lo) l
  pub least : below ≤ m
  pub reached : m < most
  pub upto_it : most ≡ count (upto hi) l

-- whether a double's bits lie from lo to hi
abbrev pub between : ℕ → ℕ → Float → Bool
between lo hi x = nat_le lo (to_bits binary64 x) && nat_le (to_bits binary64 x) hi

-- those of a list that pass a test, in their order
unfoldable pub keep : (Float → Bool) → List Float → List Float
keep p [] = []
keep p (x ∷ xs) = let r = keep p xs in cond (p x) (x ∷ r) r

-- of k and v: k where it is b or above, and below v
unfoldable pub nearer : ℕ → ℕ → ℕ → ℕ
nearer b k v = cond (nat_le b k && nat_lt k v) k v

-- of k and v: k where it is under b, and above v
unfoldable pub farther : ℕ → ℕ → ℕ → ℕ
farther b k v = cond (nat_lt k b && nat_lt v k) k v

-- the least bits that are b or above, and else +infinity's
unfoldable pub least_from : ℕ → List Float → ℕ
least_from b l = fold (λ v x. nearer b (to_bits binary64 x) v) 0x7FF0_0000_0000_0000 l

-- the greatest bits under b, and else +0's
unfoldable pub greatest_under : ℕ → List Float → ℕ
greatest_under b l = fold (λ v x. farther b (to_bits binary64 x) v) 0 l
