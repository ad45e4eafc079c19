-- Laws of Written.antt.
use Rattle.std.specs.Prelude.{◌≡◌, List, ◌++◌, ℕ, length, drop, Float}
use Rattle.std.proofs.Common.{sym, ap, ◌∙◌}
use Rattle.std.proofs.lemmas.List.{length-replicate}
use Rattle.loops.specs.Within.{Within}
use Rattle.value.specs.Numbers.{zero_f}
use Rattle.lent.specs.Written.{over, zeros}

-- n values were written
pub over_by : {A : Type 0} (n : ℕ) (values lent t : List A) → length values ≡ n → t ≡ values ++ drop n lent → t ≡ over values lent
over_by n values lent t h e = e ∙ ap (λ m. values ++ drop m lent) (sym h)

-- scratch was used, and then cleared
pub over_cleared : (n : ℕ) (s u t : List Float) → Within n s u → t ≡ zeros n ++ drop n u → t ≡ over (zeros n) s
over_cleared n s u t w e = over_by n (zeros n) s t (length-replicate n zero_f) (e ∙ ap (λ l. zeros n ++ l) w.rest)

-- scratch that was used is cleared to the same as scratch that was not
pub over_within : (n : ℕ) (s u : List Float) → Within n s u → over (zeros n) u ≡ over (zeros n) s
over_within n s u w =
    over_cleared n s u (over (zeros n) u) w (ap (λ m. zeros n ++ drop m u) (length-replicate n zero_f))
