-- The first place at which a test holds is where the search of the definition stops.
use Rattle.std.specs.Prelude.{◌≡◌, List, ℕ, zero, suc, ◌+◌, ◌<◌, Bool, true, false, length, Float, Option, None, Some, MatchOption, IsSomeAnd}
use Rattle.std.proofs.Common.{sym, ap, ◌∙◌, arith}
use Rattle.std.specs.List.{AllWithin, HoldsAt}
use Rattle.loops.specs.Loop.{seek}
use Rattle.loops.specs.LoopLaws.{seek_again, seek_found, seek_nowhere}
use Rattle.basis.specs.declared.Degree.{Degree}
use Rattle.choice.specs.Choice.{scored_at, degree, degree_of}

-- a number, if there is one, became a degree
pub made : (o : Option ℕ) (r : Option Degree) → MatchOption o (r ≡ None) (λ d. IsSomeAnd r (λ k. k.0 ≡ d)) → r ≡ degree_of o
made None r h = h
made (Some d) None h = absurd h
made (Some d) (Some k) h = ap (λ n. Some (degree n)) h

module _ (test : Option Float → Bool) (scores : List (Option Float)) where
  abbrev holds : ℕ → Bool
  holds d = test (scored_at scores d)

  stops : (i n d : ℕ) → i + n ≡ d → d < length scores → holds d ≡ true → ((e : ℕ) → e < d → holds e ≡ false) → seek holds i (length scores) ≡ Some d
  stops i zero d e h p q =
      let z : i ≡ d = omega arith in
      rw z (seek_found holds d (length scores) h p)
  stops i (suc n) d e h p q = sym (seek_again holds i (length scores) (omega arith) (q i (omega arith))) ∙ stops (i + 1) n d (omega arith) h p q

  pub first_found : (r : Option ℕ)
      → MatchOption r (AllWithin (λ s. false ≡ test s) scores 0 (length scores)) (λ d. (d < length scores) × HoldsAt (λ s. true ≡ test s) scores d × AllWithin (λ s. false ≡ test s) scores 0 d)
      → r ≡ seek holds 0 (length scores)
  first_found None h = sym (seek_nowhere holds (length scores) (λ e k. sym (h e None (omega arith) k)))
  first_found (Some d) h = sym (stops 0 d d (omega arith) h.0 (sym (h.1 None)) (λ e k. sym (h.2 e None (omega arith) k)))
