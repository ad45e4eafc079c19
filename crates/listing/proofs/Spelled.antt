-- The decimal digits that std's `{}` prints are those of the definition.
use mathlib.Core.Path.{◌≡◌, ap, subst}
use mathlib.Core.List.{List, [], ◌∷◌, ◌++◌}
use Prim.Native.Nat.{ℕ, zero, suc, ◌+◌, ◌/◌, ◌%◌, ◌^◌, ◌≤◌, ◌<◌}
use Rattle.std.proofs.Common.{lt-ltb, le-ltb, div-lt_iff_lt-mul, pow-suc, arith}
use Rattle.std.proofs.lemmas.Fmt.{decimal_by_steps}
use Rattle.std.specs.Fmt as fmt
use Rattle.listing.specs.Text.{decimal_in, decimal}

-- ds are the digits of n, by the definition for up to k + 1 digits
abbrev Spelled : ℕ → List ℕ → Type 0
Spelled n ds = (k : ℕ) → n < 10 ^ suc k → ds ≡ decimal_in (suc k) n

one : (n : ℕ) → n < 10 → Spelled n ((48 + n) ∷ [])
unfolding decimal_in
one n l k f = rw (lt-ltb n 10 l)

more : (n : ℕ) (ds : List ℕ) → 10 ≤ n → Spelled (n / 10) ds → Spelled n (ds ++ ((48 + n % 10) ∷ []))
unfolding decimal_in
more n ds l s zero f = absurd (omega arith)
more n ds l s (suc k) f =
    let some : 0 < 10 = omega arith in
    let few : n / 10 < 10 ^ suc k = (div-lt_iff_lt-mul some).1 (subst (λ z. n < z) (pow-suc 10 (suc k)) f) in
    rw (le-ltb n 10 l, lt-ltb (n % 10) 10 (omega arith)) (ap (λ t. t ++ ((48 + n % 10) ∷ [])) (s k few))

pub decimal_spelled : (n : ℕ) → n < 2 ^ 64 → fmt.decimal n ≡ decimal n
unfolding decimal
decimal_spelled n h = decimal_by_steps Spelled one more n h 19 (omega (arith, h))
