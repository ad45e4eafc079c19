-- A guessed root held against the squares: the guess or a neighbour is the closest.
use Rattle.std.proofs.Common.{◌≡◌, ℕ, zero, suc, ◌+◌, ◌-◌, ◌*◌, ◌^◌, ◌<◌, ◌≤◌, Bool, true, false, cond, ◌&&◌, ltb, leb, sym, refl, ap, ◌∙◌, add-one, add-zero, arith, ltb-false, ltb-true, le-ltb, lt-ltb, leb-false, leb-true}
use Rattle.std.proofs.Math.Nat.{sub-zero}
use Rattle.std.specs.Int.{from_bool}
use Rattle.loops.specs.Cases.{either, and_first, and_second}
use Rattle.value.specs.Root.{closest_root}
use Rattle.value.proofs.SquareRoot.Numbers.{closest_root_is}

-- ---- the closest, by the squares: √n is above r - 1/2 and not above r + 1/2
at_least : (n r : ℕ) → n < 4 ^ 53 → n ≤ r * r + r → r * r ≤ n → r ≡ closest_root n
at_least n r h b l = sym (closest_root_is n r (n - r * r) h (omega arith) (omega arith) ∙ ap (λ (t : Bool). cond t (suc r) r) (le-ltb r (n - r * r) (omega arith)))

beneath : (n r : ℕ) → n < 4 ^ 53 → r * r < n + r → n < r * r → r ≡ closest_root n
beneath n zero h a l = absurd (omega arith)
beneath n (suc q) h a l =
    sym (closest_root_is n q (n - q * q) h (omega arith) (omega arith) ∙ ap (λ (t : Bool). cond t (suc q) q) (lt-ltb q (n - q * q) (omega arith)))

pub closest : (n r : ℕ) → n < 4 ^ 53 → r * r < n + r → n ≤ r * r + r → r ≡ closest_root n
closest n r h a b = either (r * r) n (at_least n r h b) (beneath n r h a)

-- ---- what the tests of `closest_root` settle: d is r's distance, and less than three half places either way
near : (a b c d : ℕ) → ltb a b && leb c d ≡ true → (a < b) × (c ≤ d)
near a b c d t = (ltb-true a b (and_first (ltb a b) (leb c d) t), leb-true c d (and_second (ltb a b) (leb c d) t))

one_less : (n r d : ℕ) → n < 4 ^ 53 → r * r + d ≡ n + 2 ^ 56 → 0x100_0000_0000_0002 < d + 3 * r → d + r ≤ 0x100_0000_0000_0000 → r - 1 ≡ closest_root n
one_less n zero d h e a b = absurd (omega arith)
one_less n (suc q) d h e a b =
    let back : suc q - 1 ≡ q = omega arith in
    back ∙ closest n q h (omega arith) (omega arith)

one_more : (n r d : ℕ) → n < 4 ^ 53 → r * r + d ≡ n + 2 ^ 56 → 0x100_0000_0000_0000 + r < d → d ≤ 0x100_0000_0000_0002 + 3 * r → r + 1 ≡ closest_root n
one_more n r d h e a b = add-one r ∙ closest n (suc r) h (omega arith) (omega arith)

-- by the two tests: one above, one below, or r itself
moved : (n r d : ℕ) → n < 4 ^ 53 → r * r + d ≡ n + 2 ^ 56 → (0x100_0000_0000_0002 < d + 3 * r) × (d ≤ 0x100_0000_0000_0002 + 3 * r) → (s t : Bool)
    → ltb (0x100_0000_0000_0000 + r) d ≡ s → leb (d + r) 0x100_0000_0000_0000 ≡ t → r + from_bool s - from_bool t ≡ closest_root n
moved n r d h e k true true p q =
    let a : 0x100_0000_0000_0000 + r < d = ltb-true _ _ p in
    let b : d + r ≤ 0x100_0000_0000_0000 = leb-true _ _ q in
    absurd (omega arith)
moved n r d h e k true false p q = rw sub-zero (one_more n r d h e (ltb-true _ _ p) k.1)
moved n r d h e k false true p q = rw add-zero (one_less n r d h e k.0 (leb-true _ _ q))
moved n r d h e k false false p q =
    let a : d ≤ 0x100_0000_0000_0000 + r = ltb-false _ _ p in
    let b : 0x100_0000_0000_0000 < d + r = leb-false _ _ q in
    rw (add-zero, sub-zero) (closest n r h (omega arith) (omega arith))

pub settled : (m r d : ℕ) → m < 2 ^ 54 → r * r + d ≡ m * 2 ^ 52 + 2 ^ 56 → ltb 0x100_0000_0000_0002 (d + 3 * r) && leb d (0x100_0000_0000_0002 + 3 * r) ≡ true
    → r + from_bool (ltb (0x100_0000_0000_0000 + r) d) - from_bool (leb (d + r) 0x100_0000_0000_0000) ≡ closest_root (m * 2 ^ 52)
settled m r d h e t = moved (m * 2 ^ 52) r d (omega arith) e (near 0x100_0000_0000_0002 (d + 3 * r) d (0x100_0000_0000_0002 + 3 * r) t) _ _ refl refl
