-- Laws of Within.antt.
use Rattle.std.specs.Prelude.{◌≡◌, refl, List, ◌++◌, ℕ, ◌+◌, ◌-◌, ◌≤◌, ◌<◌, length, set, take, drop}
use Rattle.std.proofs.Common.{ap, ◌∙◌, arith, length-set, length-append, length-drop, drop-set-lt, take_at, drop_at, drop-drop}
use Rattle.loops.specs.Within.{Within}

pub within_itself : {A : Type 0} (n : ℕ) (s : List A) → Within n s s
within_itself n s = record { long = refl; rest = refl }

pub within_then : {A : Type 0} {n : ℕ} {s t u : List A} → Within n s t → Within n t u → Within n s u
within_then p q = record { long = q.long ∙ p.long; rest = q.rest ∙ p.rest }

pub within_set : {A : Type 0} (n : ℕ) (s : List A) (i : ℕ) (a : A) → i < n → Within n s (set s i a)
within_set n s i a h = record { long = length-set s i a; rest = drop-set-lt n s i a h }

-- memory of which fewer places are used
pub within_more : {A : Type 0} (m n : ℕ) (s t : List A) → m ≤ n → Within m s t → Within n s t
within_more m n s t h w =
    let z : m + (n - m) ≡ n = omega arith in
    record { long = w.long; rest = rw (← z, ← (drop-drop (n - m) m t), ← (drop-drop (n - m) m s), w.rest) }

-- memory whose first n places were written with r
module _ {A : Type 0} (n : ℕ) (s u r : List A) (e : u ≡ r ++ drop n s) (sized : length r ≡ n) where
  pub front_written : take n u ≡ r
  front_written = ap (λ l. take n l) e ∙ take_at r (drop n s) n sized

  pub within_written : n ≤ length s → Within n s u
  within_written h =
      record {
        long = ap length e ∙ length-append r (drop n s) ∙ omega (arith, sized, length-drop n s);
        rest = ap (λ l. drop n l) e ∙ drop_at r (drop n s) n sized;
      }
