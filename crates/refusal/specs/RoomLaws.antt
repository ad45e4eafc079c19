-- Laws of Rooms.antt: the tests of 1, and the room that there is where neither 1 nor 5 holds.
use Rattle.std.specs.Prelude.{◌≡◌, refl, Bool, true, false, ◌||◌, List, [], ◌∷◌, ℕ, ◌+◌, ◌-◌, ◌≤◌, ◌<◌, min, ltb, Result, Ok, ⊤}
use Rattle.std.proofs.Common.{sym, ap, ap₂, ◌∙◌, arith, lt-ltb, le-ltb, ltb-true, ltb-false}
use Rattle.loops.specs.All.{All}
use Rattle.loops.specs.Cases.{or_false}
use Rattle.loops.specs.Fold.{fold}
use Rattle.basis.specs.Sizes.{max_samples}
use Rattle.refusal.specs.Tests.{Needed, needed, any_short, capacity, too_short, no_room}
use Rattle.refusal.specs.Rooms.{Enough, Room}
use Rattle.refusal.specs.declared.refusals.Refusal.{Refusal}
use Rattle.refusal.specs.Refusals.{Test, by, first_of}
use Rattle.refusal.specs.Named.{judged}
use Rattle.refusal.specs.NamedLaws.{passed}
use Rattle.refusal.specs.Laws.{first_none}

-- ---- the code's tests

-- one memory more in front
pub short_of : (needs lent : ℕ) (ms : List Needed) {t others : Bool} → t ≡ (ltb lent needs || others) → others ≡ any_short ms → t ≡ any_short (needed needs lent ∷ ms)
unfolding any_short
short_of needs lent ms e q = e ∙ ap (λ b. ltb lent needs || b) q

-- no memory left
pub short_end : false ≡ any_short []
unfolding any_short
short_end = refl

pub short_is : (n : ℕ) (columns : List ℕ) (ms : List Needed) {t m : Bool} → t ≡ (m || ltb (capacity columns) n) → m ≡ any_short ms → t ≡ too_short n columns ms
short_is n columns ms e q = e ∙ ap (λ b. b || ltb (capacity columns) n) q

-- 5, where the count is at most the room
pub room_left : (room n more : ℕ) → n ≤ room → ltb (room - n) more ≡ ltb room (n + more)
room_left room n more h = go (ltb (room - n) more) refl
  where
    go : (t : Bool) → ltb (room - n) more ≡ t → t ≡ ltb room (n + more)
    go true q =
        let k : room - n < more = ltb-true _ _ q in
        sym (lt-ltb room (n + more) (omega arith))
    go false q =
        let k : more ≤ room - n = ltb-false _ _ q in
        sym (le-ltb room (n + more) (omega arith))

-- ---- the shortest column

-- at most the first
least_first : (b : ℕ) (columns : List ℕ) → fold min b columns ≤ b
unfolding fold
least_first b [] = omega arith
least_first b (a ∷ columns) = let h = least_first (min b a) columns in omega (arith, h)

-- what is within it is within every column
within_all : (n b : ℕ) (columns : List ℕ) → n ≤ fold min b columns → All (λ a. n ≤ a) columns
unfolding fold
within_all n b [] h = tt
within_all n b (a ∷ columns) h = (let k = least_first (min b a) columns in omega (arith, h, k), within_all n (min b a) columns h)

-- and the other way
all_within : (n b : ℕ) (columns : List ℕ) → n ≤ b → All (λ a. n ≤ a) columns → n ≤ fold min b columns
unfolding fold
all_within n b [] h a = h
all_within n b (l ∷ columns) h a =
    let k : n ≤ l = a.0 in
    all_within n (min b l) columns (omega arith) a.1

-- ---- the room

all_enough : (ms : List Needed) → any_short ms ≡ false → All Enough ms
unfolding any_short
all_enough [] h = tt
all_enough (m ∷ ms) h =
    let q = or_false (ltb m.lent m.needs) (any_short ms) h in
    (ltb-false _ _ q.0, all_enough ms q.1)

none_short : (ms : List Needed) → All Enough ms → any_short ms ≡ false
unfolding any_short
none_short [] a = refl
none_short (m ∷ ms) a = ap₂ ◌||◌ (le-ltb m.lent m.needs a.0) (none_short ms a.1)

pub room_of : (n : ℕ) (columns : List ℕ) (memories : List Needed) → n ≤ capacity columns → All Enough memories → Room n columns memories
unfolding capacity
room_of n columns memories h e = record { count = h; within = within_all n max_samples columns h; most = omega (arith, h, least_first max_samples columns); enough = e }

module _ (n : ℕ) (columns : List ℕ) (memories : List Needed) where
  -- 1 does not hold
  pub room : too_short n columns memories ≡ false → Room n columns memories
  room e =
      let p = or_false (any_short memories) (ltb (capacity columns) n) e in
      room_of n columns memories (ltb-false _ _ p.1) (all_enough memories p.0)

  -- so it is where a call whose first test is 1 is not refused
  pub room_passed : (rs : List Test) {r : Result ⊤ Refusal} {u : ⊤} → r ≡ judged (first_of (by (too_short n columns memories) 1 ∷ rs)) → r ≡ Ok u → Room n columns memories
  room_passed rs e h = room (first_none _ 0 _ (passed e h)).0

  -- nor does 5
  pub room_for : (more : ℕ) → Room n columns memories → no_room n more columns ≡ false → Room (n + more) columns memories
  room_for more r e = room_of (n + more) columns memories (ltb-false _ _ e) r.enough

  -- and with room 1 does not hold
  pub long_enough : Room n columns memories → too_short n columns memories ≡ false
  long_enough r = ap₂ ◌||◌ (none_short memories r.enough) (le-ltb (capacity columns) n r.count)

-- columns that each have room for n, which is at most 4,096
pub count_within : (n : ℕ) (columns : List ℕ) → n ≤ max_samples → All (λ l. n ≤ l) columns → n ≤ capacity columns
unfolding capacity
count_within n columns h a = all_within n max_samples columns h a
