-- Laws of Runs.antt.
use Rattle.std.specs.Prelude.{◌≡◌, Bool, true, false, cond, length, Option, None, Some}
use Rattle.std.proofs.Math.Path.{refl, ap}
use Rattle.std.proofs.Common.{sym, ap₂, ◌∙◌, arith}
use Rattle.std.proofs.lemmas.Bool.{false≢true}
use mathlib.Core.List.{List, [], ◌∷◌, ◌++◌}
use Prim.Native.Nat.{ℕ, suc, ◌+◌, ◌≤◌}
use Rattle.loops.specs.Fold.{fold}
use Rattle.loops.specs.Places.{table}
use Rattle.loops.specs.PlaceLaws.{table_again}
use Rattle.runs.specs.Runs.{Machine, replies, history, Each, front, front_of, sifted, replies_to, only, pick, along, passed}

-- ---- of one machine

module _ {S C P : Type 0} (M : Machine S C P) where
  pub length_replies : (s : S) (cs : List C) → length (replies M s cs) ≡ length cs
  unfolding replies
  length_replies s [] = refl
  length_replies s (c ∷ cs) = ap suc (length_replies (M.step s c) cs)

  -- one list behind another
  pub replies_append : (s : S) (cs ds : List C) → replies M s (cs ++ ds) ≡ replies M s cs ++ replies M (fold M.step s cs) ds
  unfolding replies fold
  replies_append s [] ds = refl
  replies_append s (c ∷ cs) ds = ap (λ rs. M.reply s c ∷ rs) (replies_append (M.step s c) cs ds)

  -- those to the calls before one, the one's, and the later ones'
  pub replies_at_lem : (s : S) (before : List C) (c : C) (after : List C)
      → let t = fold M.step s before in
      replies M s (before ++ (c ∷ after)) ≡ replies M s before ++ (M.reply t c ∷ replies M (M.step t c) after)
  unfolding replies
  replies_at_lem s before c after = replies_append s before (c ∷ after)

  -- one call more of a table of calls
  pub replies_table : (s : S) (g : ℕ → C) (k : ℕ)
      → replies M s (table g (k + 1)) ≡ replies M s (table g k) ++ (M.reply (fold M.step s (table g k)) (g k) ∷ [])
  unfolding replies
  replies_table s g k = ap (replies M s) (table_again g k) ∙ replies_append s (table g k) (g k ∷ [])

-- what every call keeps
pub kept : {S C : Type 0} (step : S → C → S) (Inv : S → Type 0) → ((s : S) (c : C) → Inv s → Inv (step s c)) → (s : S) → Inv s → (cs : List C)
    → Inv (fold step s cs)
unfolding fold
kept step Inv go s h [] = h
kept step Inv go s h (c ∷ cs) = kept step Inv go (step s c) (go s c h) cs

-- a counter that each call lowers by its cost at most: where it covers the cost of all, it covers each call's when that is made
module _ {S C : Type 0} (step : S → C → S) (cost : S → C → ℕ) (counter : S → ℕ)
    (lowers : (s : S) (c : C) → cost s c ≤ counter s → counter s ≤ cost s c + counter (step s c)) where
  pub afforded : (s : S) (before : List C) (c : C) (after : List C) → along step cost s (before ++ (c ∷ after)) ≤ counter s
      → cost (fold step s before) c ≤ counter (fold step s before)
  unfolding along fold
  afforded s [] c after h = omega (arith, h)
  afforded s (d ∷ before) c after h =
      let k = lowers s d (omega (arith, h)) in
      afforded (step s d) before c after (omega (arith, h, k))

-- ---- laws of two machines whose states stay related

-- each call of one beside a call of the other
module _ {S T C D P Q : Type 0} (M : Machine S C P) (N : Machine T D Q) (Rel : S → T → Type 0) (Pair : C → D → Type 0) (Same : P → Q → Type 0)
    (go : (s : S) (t : T) (c : C) (d : D) → Rel s t → Pair c d → Same (M.reply s c) (N.reply t d) × Rel (M.step s c) (N.step t d)) where
  pub related : (s : S) (t : T) → Rel s t → (cs : List C) (ds : List D) → Each Pair cs ds
      → Each Same (replies M s cs) (replies N t ds) × Rel (fold M.step s cs) (fold N.step t ds)
  unfolding replies fold
  related s t h [] [] e = (tt, h)
  related s t h [] (d ∷ ds) e = absurd e
  related s t h (c ∷ cs) [] e = absurd e
  related s t h (c ∷ cs) (d ∷ ds) e =
      let w = go s t c d h e.0 in
      let r = related (M.step s c) (N.step t d) w.1 cs ds e.1 in
      ((w.0, r.0), r.1)

-- the same calls, and equal replies
module _ {S T C P : Type 0} (M : Machine S C P) (N : Machine T C P) (Rel : S → T → Type 0)
    (go : (s : S) (t : T) (c : C) → Rel s t → (M.reply s c ≡ N.reply t c) × Rel (M.step s c) (N.step t c)) where
  pub agree : (s : S) (t : T) → Rel s t → (cs : List C) → (replies M s cs ≡ replies N t cs) × Rel (fold M.step s cs) (fold N.step t cs)
  unfolding replies fold
  agree s t h [] = (refl, h)
  agree s t h (c ∷ cs) =
      let w = go s t c h in
      let r = agree (M.step s c) (N.step t c) w.1 cs in
      (ap₂ (λ a l. a ∷ l) w.0 r.0, r.1)

-- a call of one beside a call of the other, or beside none
module _ {S T C D P Q : Type 0} (M : Machine S C P) (N : Machine T D Q) (Rel : S → T → Type 0) (Same : P → Q → Type 0) (sift : S → C → Option D)
    (skips : (s : S) (t : T) (c : C) → Rel s t → sift s c ≡ None → Rel (M.step s c) t)
    (meets : (s : S) (t : T) (c : C) (d : D) → Rel s t → sift s c ≡ Some d → Same (M.reply s c) (N.reply t d) × Rel (M.step s c) (N.step t d)) where
  pub sifts : (s : S) (t : T) → Rel s t → (cs : List C)
      → Each Same (replies_to M sift s cs) (replies N t (sifted M sift s cs)) × Rel (fold M.step s cs) (fold N.step t (sifted M sift s cs))
  unfolding replies fold sifted replies_to
  sifts s t h [] = (tt, h)
  sifts s t h (c ∷ cs) = by (sift s c) refl (λ u g. sifts (M.step s c) u g cs)
    where
      by : (o : Option D) → sift s c ≡ o
          → ((u : T) → Rel (M.step s c) u
          → Each Same (replies_to M sift (M.step s c) cs) (replies N u (sifted M sift (M.step s c) cs))
          × Rel (fold M.step (M.step s c) cs) (fold N.step u (sifted M sift (M.step s c) cs)))
          → Each Same (front o (M.reply s c) (replies_to M sift (M.step s c) cs)) (replies N t (front_of o (sifted M sift (M.step s c) cs)))
          × Rel (fold M.step (M.step s c) cs) (fold N.step t (front_of o (sifted M sift (M.step s c) cs)))
      by None e later = later t (skips s t c h e)
      by (Some d) e later =
          let w = meets s t c d h e in
          let r = later (N.step t d) w.1 in
          ((w.0, r.0), r.1)

-- ---- what is read off the one, by the history of the other

-- `look` makes the value known of the one's state from the value known before and the other's state: it changes nothing where the two are related, and
-- after a call it makes the same of the value before as of the value after
module _ {S T C K : Type 0} (step : S → C → S) (step' : T → C → T) (Rel : S → T → Type 0) (go : (s : S) (t : T) (c : C) → Rel s t → Rel (step s c) (step' t c))
    (read : S → K) (look : K → T → K) (shows : (s : S) (t : T) → Rel s t → read s ≡ look (read s) t)
    (stands : (s : S) (t : T) (c : C) → Rel s t → look (read (step s c)) (step' t c) ≡ look (read s) (step' t c)) where
  pub remembered : (s : S) (t : T) → Rel s t → (cs : List C) → read (fold step s cs) ≡ fold look (read s) (history step' t cs)
  unfolding fold history
  remembered s t h [] = shows s t h
  remembered s t h (c ∷ cs) =
      remembered (step s c) (step' t c) (go s t c h) cs ∙ from cs (stands s t c h ∙ ap (λ v. look v (step' t c)) (shows s t h))
    where
      from : (ds : List C) {v w : K} → look v (step' t c) ≡ look w (step' t c)
          → fold look v (history step' (step' t c) ds) ≡ fold look w (history step' (step' t c) ds)
      from [] e = e
      from (d ∷ ds) e = ap (λ v. fold look v (history step' (step' (step' t c) d) ds)) e

-- ---- one component of many

pub no_call : {D : Type 0} (d : D) → Some d ≡ None → ⊥
no_call d e = let z : ◌≡◌ {A = Bool} true false = cc in false≢true (sym z)

-- equal place by place is equal
pub each_equal : {A : Type 0} (l m : List A) → Each (λ a b. a ≡ b) l m → l ≡ m
each_equal [] [] e = refl
each_equal [] (b ∷ m) e = absurd e
each_equal (a ∷ l) [] e = absurd e
each_equal (a ∷ l) (b ∷ m) e = ap₂ (λ x r. x ∷ r) e.0 (each_equal l m e.1)

-- where the state has no say
pub sifted_only : {S C P D : Type 0} (M : Machine S C P) (mine : C → Option D) (s : S) (cs : List C) → sifted M (λ _. mine) s cs ≡ only mine cs
unfolding sifted only
sifted_only M mine s [] = refl
sifted_only M mine s (c ∷ cs) = ap (front_of (mine c)) (sifted_only M mine (M.step s c) cs)

pub picked : {S C P D : Type 0} (M : Machine S C P) (mine : C → Option D) (s : S) (cs : List C)
    → pick mine cs (replies M s cs) ≡ replies_to M (λ _. mine) s cs
unfolding pick replies replies_to
picked M mine s [] = refl
picked M mine s (c ∷ cs) = ap (front (mine c) (M.reply s c)) (picked M mine (M.step s c) cs)

-- M is the whole, N the component, `Seen s t`: what the component sees of s is t, `Part r q`: the component's part of the reply r is q. A call of another
-- leaves what it sees, and its own calls are answered by what it sees alone. Then its parts of the replies to its calls, in the run of all calls, are the
-- replies of the run of its own calls.
module _ {S T C D P Q : Type 0} (M : Machine S C P) (N : Machine T D Q) (mine : C → Option D) (Seen : S → T → Type 0) (Part : P → Q → Type 0)
    (others : (s : S) (t : T) (c : C) → Seen s t → mine c ≡ None → Seen (M.step s c) t)
    (own : (s : S) (t : T) (c : C) (d : D) → Seen s t → mine c ≡ Some d → Part (M.reply s c) (N.reply t d) × Seen (M.step s c) (N.step t d)) where
  pub projected : (s : S) (t : T) → Seen s t → (cs : List C)
      → Each Part (pick mine cs (replies M s cs)) (replies N t (only mine cs)) × Seen (fold M.step s cs) (fold N.step t (only mine cs))
  projected s t h cs = rw (picked M mine s cs, ← sifted_only M mine s cs) (sifts M N Seen Part (λ _. mine) others own s t h cs)

-- The same where its own calls are told by a test, and a reply to them is its whole. N may be M itself: then its replies are those of the list without the others' calls, from any state in
-- which it sees the same.
module _ {S T C P : Type 0} (M : Machine S C P) (N : Machine T C P) (mine : C → Bool) (Seen : S → T → Type 0)
    (others : (s : S) (t : T) (c : C) → Seen s t → mine c ≡ false → Seen (M.step s c) t)
    (own : (s : S) (t : T) (c : C) → Seen s t → mine c ≡ true → (M.reply s c ≡ N.reply t c) × Seen (M.step s c) (N.step t c)) where
  not_passed : (c : C) (b : Bool) → cond b (Some c) None ≡ None → b ≡ false
  not_passed c true e = cc
  not_passed c false e = refl

  is_passed : (s : S) (t : T) (c d : C) → Seen s t → (b : Bool) → mine c ≡ b → cond b (Some c) None ≡ Some d
      → (M.reply s c ≡ N.reply t d) × Seen (M.step s c) (N.step t d)
  is_passed s t c d h true q e =
      let z : c ≡ d = cc in
      rw (← z) (own s t c h q)
  is_passed s t c d h false q e = absurd (no_call d (sym e))

  pub alone : (s : S) (t : T) → Seen s t → (cs : List C)
      → (pick (passed mine) cs (replies M s cs) ≡ replies N t (only (passed mine) cs)) × Seen (fold M.step s cs) (fold N.step t (only (passed mine) cs))
  alone s t h cs =
      let r = projected M N (passed mine) Seen (λ a b. a ≡ b)
      (λ s t c h e. others s t c h (not_passed c (mine c) e)) (λ s t c d h e. is_passed s t c d h (mine c) refl e) s t h cs in
      (each_equal _ _ r.0, r.1)
