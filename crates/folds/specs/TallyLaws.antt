-- Laws of Tallies.antt.
use Rattle.std.specs.Prelude.{◌≡◌, ℕ, ◌+◌, ◌<◌, ◌≤◌, List, [], ◌∷◌, ◌++◌, length, replicate, get_or, refl, Float, Option, None, Some}
use Rattle.std.proofs.Common.{sym, ap, ◌∙◌, append-nil, arith, length-append}
use Rattle.std.proofs.lemmas.List.{length-replicate, get_or-replicate}
use Rattle.std.specs.Float.{binary64}
use Rattle.std.specs.Float.Ieee.{add}
use Rattle.loops.specs.Fold.{fold}
use Rattle.loops.specs.FoldLaws.{fold_snoc}
use Rattle.loops.specs.Places.{each, table}
use Rattle.loops.specs.PlaceLaws.{table_again, each_at, length_each, length_table}
use Rattle.value.specs.Numbers.{zero_f}
use Rattle.folds.specs.declared.Tally.{Tally}
use Rattle.folds.specs.Folds.{solved_of}
use Rattle.folds.specs.Tallies.{added, no_tally, tally_of, Tallied}

-- one fold more
solved_snoc : (l : List (Option Float)) (s : Option Float) → solved_of (l ++ (s ∷ [])) ≡ solved_of l ++ solved_of (s ∷ [])
unfolding solved_of
solved_snoc [] s = refl
solved_snoc (None ∷ l) s = solved_snoc l s
solved_snoc (Some v ∷ l) s = ap (λ r. v ∷ r) (solved_snoc l s)

solved_again : (S : ℕ → Option Float) (f : ℕ) → solved_of (table S (f + 1)) ≡ solved_of (table S f) ++ solved_of (S f ∷ [])
solved_again S f = ap solved_of (table_again S f) ∙ solved_snoc (table S f) (S f)

one_more : (l : List Float) (s : Option Float) → tally_of (l ++ solved_of (s ∷ [])) ≡ added s (tally_of l)
unfolding solved_of added
one_more l None = ap tally_of (append-nil l)
one_more l (Some v) =
    let total = fold_snoc (add binary64) zero_f l v in
    let count = length-append l (v ∷ []) in
    λ i. record { total = total i; count = count i }

-- no more folds are solved than there are
solved_at_most : (l : List (Option Float)) → length (solved_of l) ≤ length l
unfolding solved_of
solved_at_most [] = omega arith
solved_at_most (None ∷ l) = omega (arith, solved_at_most l)
solved_at_most (Some v ∷ l) = omega (arith, solved_at_most l)

-- no fold yet
pub tallied_none : (S : ℕ → ℕ → Option Float) (b : ℕ) → b ≤ 16 → Tallied S 0 b (replicate 16 no_tally)
unfolding table solved_of fold
tallied_none S b h = record { long = length-replicate 16 no_tally; tally = λ d t q. get_or-replicate 16 d no_tally t (omega arith) }

module _ (S : ℕ → ℕ → Option Float) (f b : ℕ) (u : List Tally) (w : Tallied S f b u) where
  pub count_at_most : (d : ℕ) (t : Tally) → d < b → (get_or u d t).count ≤ f
  count_at_most d t h =
      let e = ap (λ (t : Tally). t.count) (w.tally d t h) in
      omega (arith, e, solved_at_most (table (S d) f), length_table (S d) f)

  -- A fold that takes every degree's tally one step on leaves what degrees outside and folds inside would make: the same bits.
  pub tallied_again : b ≤ 16 → Tallied S (f + 1) b (each (λ d t. added (S d f) t) b u)
  tallied_again l =
      record {
        long = length_each (λ d t. added (S d f) t) b u ∙ w.long;
        tally = λ d t h. each_at (λ d t. added (S d f) t) b u d t h (omega (arith, w.long)) ∙ ap (added (S d f)) (w.tally d t h)
            ∙ sym (ap tally_of (solved_again (S d) f) ∙ one_more (solved_of (table (S d) f)) (S d f));
      }
