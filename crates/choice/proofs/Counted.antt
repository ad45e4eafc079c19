-- The scores that a list has are as many as solved degrees.
use Rattle.std.specs.Prelude.{◌≡◌, List, [], ◌∷◌, ℕ, zero, suc, ◌+◌, ◌-◌, Bool, true, false, cond, length, get_or, Float, Option, None, Some, is_some, MatchBool, flat_map}
use Rattle.std.proofs.Common.{sym, refl, ap, ◌∙◌, arith, Bor}
use Rattle.std.proofs.lemmas.Option.{none-some}
use Rattle.std.proofs.lemmas.Iterator.{YieldsList}
use Rattle.std.proofs.lemmas.Iterator.Consumers.{YieldsList-from_shown}
use Rattle.std.specs.Option.{option_to_list}
use Rattle.std.specs.declared.option.Iter.{OptionIter}
use Rattle.std.specs.Iterator.Adapters.{option_iter_item, option_iter_done, option_iter_steps}
use Rattle.loops.specs.Loop.{turns, from}
use Rattle.choice.specs.Choice.{solved_count, scored_at}

-- an option yields its value, once
left : OptionIter Float → List Float
left s = cond (option_iter_done s) [] (option_to_list (option_iter_item s))

at_none : (d : Bool) (o : Option Float) → MatchBool d (◌≡◌ {A = Option (Bor Float)} None None) (None ≡ o) → length (cond d [] (option_to_list o)) ≡ 0
at_none true o h = refl
at_none false o h = ap (λ p. length (option_to_list p)) (sym h)

at_some : (d e : Bool) (o p : Option Float) (x : Bor Float) → e ≡ true → MatchBool d (Some x ≡ None) (Some x.now ≡ o) → cond d [] (option_to_list o) ≡ x.now ∷ cond e [] (option_to_list p)
at_some true e o p x z h = absurd (none-some x (sym h))
at_some false e o p x z h = rw z (ap option_to_list (sym h))

pub yields_value : (s : OptionIter Float) (o : Option Float) → option_iter_item s ≡ o → option_iter_done s ≡ false → YieldsList option_iter_steps (λ y. y.now) s (option_to_list o)
unfolding left
yields_value s o e d =
    let l : left s ≡ option_to_list o = rw (d, e) in
    rw l at (YieldsList-from_shown option_iter_steps (λ y. y.now) left (λ s t h. at_none _ _ h.1) (λ s x t h. at_some _ _ _ _ x h.0 h.1) s)

-- the turns of a longer list's loop are those of the shorter one's, one place later
abbrev step : List (Option Float) → ℕ → ℕ → ℕ
step l d k = cond (is_some (get_or l d None)) (k + 1) k

later : (s : Option Float) (l : List (Option Float)) (n i m : ℕ) → turns (step (s ∷ l)) (i + 1) n m ≡ turns (step l) i n m
unfolding turns
later s l zero i m = refl
later s l (suc n) i m =
    let z : i + 1 ≡ suc i = omega arith in
    ap (λ j. turns (step (s ∷ l)) (i + 1 + 1) n (step (s ∷ l) j m)) z ∙ later s l n (i + 1) (step l i m)

counts : (l : List (Option Float)) (m : ℕ) → m + length (flat_map option_to_list l) ≡ turns (step l) 0 (length l) m
unfolding turns
counts [] m = omega arith
counts (None ∷ l) m = counts l m ∙ sym (later None l (length l) 0 m)
counts (Some v ∷ l) m =
    let z : m + suc (length (flat_map option_to_list l)) ≡ m + 1 + length (flat_map option_to_list l) = omega arith in
    z ∙ counts l (m + 1) ∙ sym (later (Some v) l (length l) 0 (m + 1))

pub counted : (l : List (Option Float)) → length (flat_map option_to_list l) ≡ solved_count (scored_at l) (length l)
unfolding solved_count from
counted l =
    let z : length (flat_map option_to_list l) ≡ 0 + length (flat_map option_to_list l) = omega arith in
    let e : length l ≡ length l - 0 = omega arith in
    z ∙ counts l 0 ∙ ap (λ n. turns (step l) 0 n 0) e
