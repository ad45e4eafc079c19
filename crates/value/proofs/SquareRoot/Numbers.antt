-- Square roots of whole numbers: what `isqrt` and `closest_root` are, and one turn of the loop of `root_by_digits`.
use Rattle.std.proofs.Common.{◌≡◌, ℕ, zero, suc, ◌+◌, ◌-◌, ◌*◌, ◌/◌, ◌%◌, ◌^◌, ◌<◌, ◌≤◌, Bool, true, false, cond, ltb, leb, sym, refl, ap, ◌∙◌, subst, le_trans, lt_trans, shl_lt, lit<, le_of_eq, lt_of_lt_of_le, le_of_suc-le-suc, lt_irrefl, mul-le-mul_right, mul_assoc, mul-le-mul, le_antisymm, pow-suc, lt_of_not-le, add-one, arith, pow_mono, pow-add, le-ltb, lt-ltb, leb-true, leb-false, ltb-true, ltb-false}
use Rattle.std.proofs.lemmas.Nat.{leading_top}
use Rattle.std.specs.Int.Count.{count_leading_zeros}
use Rattle.value.specs.Root.{isqrt, closest_root}

-- ---- the whole part of a root
pub record IsRoot (n q : ℕ) : Type 0 where
  pub low : q * q ≤ n
  pub high : n < suc q * suc q

pub root_le : (n p q : ℕ) → p * p ≤ n → n < suc q * suc q → p ≤ q
root_le n p q a b = le_of_suc-le-suc (lt_of_not-le (λ (g : suc q ≤ p). lt_irrefl n (lt_of_lt_of_le b (le_trans (mul-le-mul g g) a))))

pub root_unique : (n p q : ℕ) → IsRoot n p → IsRoot n q → p ≡ q
root_unique n p q a b = le_antisymm (root_le n p q a.low b.high) (root_le n q p b.low a.high)

digit : (s n : ℕ) (b : Bool) → IsRoot (n / 4) s → leb ((2 * s + 1) * (2 * s + 1)) n ≡ b → IsRoot n (cond b (2 * s + 1) (2 * s))
digit s n true r e = record { low = leb-true _ _ e; high = omega (arith, r.high) }
digit s n false r e = record { low = omega (arith, r.low); high = omega (arith, leb-false _ _ e) }

pub isqrt_is : (d n : ℕ) → n < 4 ^ d → IsRoot n (isqrt d n)
unfolding isqrt
isqrt_is zero n h = record { low = omega arith; high = omega arith }
isqrt_is (suc d) n h = digit (isqrt d (n / 4)) n _ (isqrt_is d (n / 4) (omega arith)) refl

-- ---- the closest whole number to a root, by the remainder
unfoldable pub half : ℕ → ℕ
half q = (2 * q + 1) * (2 * q + 1)

pub closest_root_at : (n q : ℕ) → isqrt 53 n ≡ q → closest_root n ≡ cond (ltb (half q) (4 * n)) (suc q) q
unfolding half closest_root
closest_root_at n q p = ap (λ (x : ℕ). cond (ltb (half x) (4 * n)) (suc x) x) p

-- the remainder r is above q where the root is past q + 1/2
by_rest : (n q r : ℕ) → q * q + r ≡ n → ltb (half q) (4 * n) ≡ ltb q r
unfolding half
by_rest n q r e = go (ltb q r) refl
  where
    go : (b : Bool) → ltb q r ≡ b → ltb ((2 * q + 1) * (2 * q + 1)) (4 * n) ≡ b
    go true t = lt-ltb _ _ (omega (arith, ltb-true q r t))
    go false t = le-ltb _ _ (omega (arith, ltb-false q r t))

pub closest_root_is : (n q r : ℕ) → n < 4 ^ 53 → q * q + r ≡ n → r ≤ 2 * q → closest_root n ≡ cond (ltb q r) (suc q) q
closest_root_is n q r h e l =
    let is : IsRoot n q = record { low = omega arith; high = omega arith } in
    closest_root_at n q (root_unique n (isqrt 53 n) q (isqrt_is 53 n h) is) ∙ ap (λ (b : Bool). cond b (suc q) q) (by_rest n q r e)

-- ---- the loop: after n turns
pub record Run (m root rest next n : ℕ) : Type 0 where
  pub split : (root * root + rest) * 2 ^ 54 + next ≡ m * 4 ^ n
  pub small : next < 2 ^ 54
  pub tight : rest ≤ 2 * root
  pub room : root < 2 ^ n
  pub turns : n ≤ 53

-- the squares' part of a turn, with the old square as a number v and the new one as a number w
turn_split : (v w rest next rest' m p p' : ℕ) → (v + rest) * 2 ^ 54 + next ≡ p → p' ≡ 4 * p → w + rest' ≡ 4 * v + (rest * 4 + next / 0x10_0000_0000_0000)
    → (w + rest') * 2 ^ 54 + next % 0x10_0000_0000_0000 * 4 ≡ p'
turn_split v w rest next rest' m p p' a b e = omega arith

pow4 : (m n : ℕ) → m * 4 ^ (n + 1) ≡ 4 * (m * 4 ^ n)
pow4 m n = rw (add-one n, pow-suc 4 n) (omega arith)

pow2 : (n : ℕ) → 2 ^ (n + 1) ≡ 2 * 2 ^ n
pow2 n = rw (add-one n, pow-suc 2 n) (omega arith)

-- what a turn computes with stays small
pub room_53 : {m root rest next n : ℕ} → Run m root rest next n → root < 2 ^ 53
room_53 r = lt_of_lt_of_le r.room (pow_mono r.turns)

module _ {m root rest next n : ℕ} (r : Run m root rest next n) (go : n < 53) where
  pub turn_one : root * 4 + 1 ≤ rest * 4 + next / 0x10_0000_0000_0000
      → Run m (root * 2 + 1) (rest * 4 + next / 0x10_0000_0000_0000 - (root * 4 + 1)) (next % 0x10_0000_0000_0000 * 4) (n + 1)
  turn_one h = record {
    split = turn_split (root * root) ((root * 2 + 1) * (root * 2 + 1)) rest next (rest * 4 + next / 0x10_0000_0000_0000 - (root * 4 + 1)) m (m * 4 ^ n) (m * 4 ^ (n + 1)) r.split (pow4 m n) (omega arith);
    small = omega (arith, r.small);
    tight = omega (arith, r.small, r.tight);
    room = omega (arith, r.room, pow2 n);
    turns = omega (arith, go);
  }

  pub turn_zero : rest * 4 + next / 0x10_0000_0000_0000 < root * 4 + 1
      → Run m (root * 2) (rest * 4 + next / 0x10_0000_0000_0000) (next % 0x10_0000_0000_0000 * 4) (n + 1)
  turn_zero h = record {
    split = turn_split (root * root) (root * 2 * (root * 2)) rest next (rest * 4 + next / 0x10_0000_0000_0000) m (m * 4 ^ n) (m * 4 ^ (n + 1)) r.split (pow4 m n) (omega arith);
    small = omega (arith, r.small);
    tight = omega (arith, h);
    room = omega (arith, r.room, pow2 n);
    turns = omega (arith, go);
  }

-- after the last turn nothing is left below the point
last_split : (v m next : ℕ) → v * 2 ^ 54 + next ≡ m * 2 ^ 106 → next < 2 ^ 54 → v ≡ m * 2 ^ 52
last_split v m next a b = omega arith

ends : {m root rest next n : ℕ} → m < 2 ^ 54 → Run m root rest next n → 53 ≤ n → closest_root (m * 2 ^ 52) ≡ cond (ltb root rest) (suc root) root
ends {m} {root} {rest} {next} {n} h r g =
    let at : n ≡ 53 = omega (arith, r.turns) in
    closest_root_is (m * 2 ^ 52) root rest (omega (arith, h)) (last_split (root * root + rest) m next (subst (λ (x : ℕ). (root * root + rest) * 2 ^ 54 + next ≡ m * 4 ^ x) at r.split) r.small) r.tight

pub ends_up : {m root rest next n : ℕ} → m < 2 ^ 54 → Run m root rest next n → 53 ≤ n → root < rest → root + 1 ≡ closest_root (m * 2 ^ 52)
ends_up {m} {root} {rest} h r g t = add-one root ∙ sym (ends h r g ∙ ap (λ (b : Bool). cond b (suc root) root) (lt-ltb root rest t))

pub ends_down : {m root rest next n : ℕ} → m < 2 ^ 54 → Run m root rest next n → 53 ≤ n → rest ≤ root → root ≡ closest_root (m * 2 ^ 52)
ends_down {m} {root} {rest} h r g t = sym (ends h r g ∙ ap (λ (b : Bool). cond b (suc root) root) (le-ltb root rest t))

-- ---- the shift of `small_root`: a number of j + 1 digits is left with 53
pub grown : (c j s : ℕ) → j + s ≡ 52 → 2 ^ j ≤ c → c < 2 ^ suc j → (2 ^ 52 ≤ c * 2 ^ s) × (c * 2 ^ s < 2 ^ 53)
grown c j s e a b =
    let p : suc j + s ≡ 53 = omega arith in
    (subst (λ (n : ℕ). 2 ^ n ≤ c * 2 ^ s) e (le_trans (le_of_eq (pow-add 2 j s)) (mul-le-mul_right (2 ^ s) a)), subst (λ (n : ℕ). c * 2 ^ s < 2 ^ n) p (shl_lt (suc j) s b))

pub record Shifted (c z : ℕ) : Type 0 where
  pub some : 11 ≤ z
  pub few : z < 64
  pub full : (2 ^ 52 ≤ c * 2 ^ (z - 11)) × (c * 2 ^ (z - 11) < 2 ^ 53)

pub shifted : (c : ℕ) → 0 < c → c < 2 ^ 52 → Shifted c (count_leading_zeros 64 c)
shifted c a b =
    let t = leading_top 64 c a (lt_trans b (lit< tt)) in
    let j : t.0 < 52 = lt_of_not-le (λ (g : 52 ≤ t.0). lt_irrefl c (lt_of_lt_of_le b (le_trans (pow_mono g) t.2))) in
    record { some = omega (arith, t.1); few = omega (arith, t.1); full = grown c t.0 (count_leading_zeros 64 c - 11) (omega (arith, t.1)) t.2 t.3 }

pub shifted_back : (c s : ℕ) → s < 53 → c * 2 ^ s < 2 ^ 53 → c * 2 ^ s % 2 ^ 64 * 2 ^ (1074 - s) ≡ c * 2 ^ 1074
shifted_back c s h k =
    let w : c * 2 ^ s % 2 ^ 64 ≡ c * 2 ^ s = omega arith in
    let e : s + (1074 - s) ≡ 1074 = omega arith in
    rw w (mul_assoc c (2 ^ s) (2 ^ (1074 - s)) ∙ ap (λ (x : ℕ). c * x) (sym (pow-add 2 s (1074 - s)) ∙ ap (λ (x : ℕ). 2 ^ x) e))
