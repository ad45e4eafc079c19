-- A machine over a list of calls: what it replies, what it leaves, and the laws of any such list. The state after the calls cs is `fold step s cs`. Definitions only.
use Rattle.std.specs.Prelude.{Bool, cond, List, [], ◌∷◌, ℕ, ◌+◌, Option, None, Some}

-- S is what it keeps, C what it is told, P what it replies
pub record Machine (S C P : Type 0) : Type 0 where
  pub step : S → C → S
  pub reply : S → C → P

-- the replies, call by call
unfoldable pub replies : {S C P : Type 0} → Machine S C P → S → List C → List P
replies M s [] = []
replies M s (c ∷ cs) = M.reply s c ∷ replies M (M.step s c) cs

-- the states, from the first to the one after the last call
unfoldable pub history : {S C : Type 0} → (S → C → S) → S → List C → List S
history step s [] = s ∷ []
history step s (c ∷ cs) = s ∷ history step (step s c) cs

-- two lists of one length, place by place
abbrev pub Each : {A B : Type 0} → (A → B → Type 0) → List A → List B → Type 0
Each R [] [] = Unit {0}
Each R [] (b ∷ m) = ⊥
Each R (a ∷ l) [] = ⊥
Each R (a ∷ l) (b ∷ m) = R a b × Each R l m

-- a, where there is something
abbrev pub front : {A D : Type 0} → Option D → A → List A → List A
front None a l = l
front (Some d) a l = a ∷ l

abbrev pub front_of : {D : Type 0} → Option D → List D → List D
front_of None l = l
front_of (Some d) l = d ∷ l

-- the calls of another machine that a run stands for, where a call stands for one or for none, as the state has it; and the replies to those that
-- stand for one
module _ {S C P D : Type 0} (M : Machine S C P) (sift : S → C → Option D) where
  unfoldable pub sifted : S → List C → List D
  sifted s [] = []
  sifted s (c ∷ cs) = front_of (sift s c) (sifted (M.step s c) cs)

  unfoldable pub replies_to : S → List C → List P
  replies_to s [] = []
  replies_to s (c ∷ cs) = front (sift s c) (M.reply s c) (replies_to (M.step s c) cs)

-- the same where the state has no say: a list of calls without those that stand for none
unfoldable pub only : {C D : Type 0} → (C → Option D) → List C → List D
only mine [] = []
only mine (c ∷ cs) = front_of (mine c) (only mine cs)

-- of the replies to a list of calls, those to the calls that stand for one
unfoldable pub pick : {C D P : Type 0} → (C → Option D) → List C → List P → List P
pick mine [] rs = []
pick mine (c ∷ cs) [] = []
pick mine (c ∷ cs) (r ∷ rs) = front (mine c) r (pick mine cs rs)

-- what the calls cost in all, each by the state in which it is made
unfoldable pub along : {S C : Type 0} → (S → C → S) → (S → C → ℕ) → S → List C → ℕ
along step cost s [] = 0
along step cost s (c ∷ cs) = cost s c + along step cost (step s c) cs

-- the calls that a test lets through
abbrev pub passed : {C : Type 0} → (C → Bool) → C → Option C
passed test c = cond (test c) (Some c) None
