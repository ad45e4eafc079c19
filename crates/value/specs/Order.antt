-- The order of doubles, NaNs and infinities among them.
use Rattle.std.specs.Prelude.{◌≡◌, ℕ, zero, suc, ◌+◌, ◌*◌, ◌<◌, Bool, true, false, not, ◌&&◌, ◌||◌, ◌==◌, refl, Float}
use Rattle.std.proofs.Common.{sym, ap, ◌∙◌, mul_right_comm, mul-lt-mul_of_pos_right, lt_of_mul-lt-mul_right, mul-pos, zero-mul, arith, ltb-true, lt-ltb, le-ltb, eqb-true}
use Rattle.std.specs.Bool.{beq}
use Rattle.std.specs.Float.{nan, inf, fin}
use Rattle.std.specs.Float.Ieee.{lt, eq, le, up, down, below}
use Rattle.std.specs.Float.Ieee.Fits.{down_pos}
use Rattle.loops.specs.Cases.{never, and_first, and_second}

-- nothing is below itself
pub lt_itself : (x : Float) → lt x x ≡ false
unfolding lt
lt_itself nan = refl
lt_itself (inf true) = refl
lt_itself (inf false) = refl
lt_itself (fin false m e) = le-ltb (m * up e * down e) (m * up e * down e) (omega arith)
lt_itself (fin true m e) = le-ltb (m * up e * down e) (m * up e * down e) (omega arith)

-- fractions a / ca < b / cb < c / cd
cross : (a ca b cb c cd : ℕ) → 0 < ca → 0 < cb → 0 < cd → a * cb < b * ca → b * cd < c * cb → a * cd < c * ca
cross a ca b cb c cd pa pb pc h g =
    let h' : a * cb * cd < b * ca * cd = mul-lt-mul_of_pos_right h pc in
    let g' : b * cd * ca < c * cb * ca = mul-lt-mul_of_pos_right g pa in
    let e1 : a * cb * cd ≡ a * cd * cb = mul_right_comm a cb cd in
    let e2 : b * ca * cd ≡ b * cd * ca = mul_right_comm b ca cd in
    let e3 : c * cb * ca ≡ c * ca * cb = mul_right_comm c cb ca in
    let k : a * cd * cb < c * ca * cb = omega arith in
    lt_of_mul-lt-mul_right cb k

above_zero : (a c d : ℕ) → 0 < d → 0 < a * c → 0 < a * d
above_zero zero c d p h = absurd (let z : 0 * c ≡ 0 = zero-mul c in omega arith)
above_zero (suc a) c d p h = mul-pos {m = suc a} {n = d} (omega arith) p

below_trans : (s t u : Bool) (a ca b cb c cd : ℕ) → 0 < ca → 0 < cb → 0 < cd → below s (a * cb) t (b * ca) ≡ true → below t (b * cd) u (c * cb) ≡ true → below s (a * cd) u (c * ca) ≡ true
below_trans false false false a ca b cb c cd pa pb pc h g = lt-ltb _ _ (cross a ca b cb c cd pa pb pc (ltb-true _ _ h) (ltb-true _ _ g))
below_trans false false true a ca b cb c cd pa pb pc h g = g
below_trans false true u a ca b cb c cd pa pb pc h g = never h
below_trans true false false a ca b cb c cd pa pb pc h g =
    let k : 0 < c * ca = above_zero c cb ca pa (let m : b * cd < c * cb = ltb-true _ _ g in omega arith) in
    lt-ltb 0 (a * cd + c * ca) (omega arith)
below_trans true false true a ca b cb c cd pa pb pc h g = never g
below_trans true true false a ca b cb c cd pa pb pc h g =
    let k : 0 < a * cd = above_zero a cb cd pc (let m : b * ca < a * cb = ltb-true _ _ h in omega arith) in
    lt-ltb 0 (a * cd + c * ca) (omega arith)
below_trans true true true a ca b cb c cd pa pb pc h g = lt-ltb _ _ (cross c cd b cb a ca pc pb pa (ltb-true _ _ g) (ltb-true _ _ h))

pub lt_trans : (x y z : Float) → lt x y ≡ true → lt y z ≡ true → lt x z ≡ true
unfolding lt
lt_trans nan y z h g = h
lt_trans (inf s) nan z h g = never h
lt_trans (inf s) (inf t) nan h g = g
lt_trans (inf true) (inf t) (inf false) h g = refl
lt_trans (inf true) (inf false) (inf true) h g = g
lt_trans (inf true) (inf true) (inf true) h g = never h
lt_trans (inf false) (inf t) (inf u) h g = never h
lt_trans (inf s) (inf t) (fin u p f) h g = first s t h
  where
    first : (s t : Bool) → s && not t ≡ true → s ≡ true
    first true t h = refl
    first false t h = h
lt_trans (inf s) (fin t n d) nan h g = g
lt_trans (inf s) (fin t n d) (inf u) h g = rw h g
lt_trans (inf s) (fin t n d) (fin u p f) h g = h
lt_trans (fin s m e) nan z h g = never h
lt_trans (fin s m e) (inf t) nan h g = g
lt_trans (fin s m e) (inf t) (inf u) h g = second t u g
  where
    second : (t u : Bool) → t && not u ≡ true → not u ≡ true
    second true u h = h
    second false u h = never h
lt_trans (fin s m e) (inf true) (fin u p f) h g = never h
lt_trans (fin s m e) (inf false) (fin u p f) h g = never g
lt_trans (fin s m e) (fin t n d) nan h g = g
lt_trans (fin s m e) (fin t n d) (inf u) h g = g
lt_trans (fin s m e) (fin t n d) (fin u p f) h g =
    below_trans s t u (m * up e) (down e) (n * up d) (down d) (p * up f) (down f) (down_pos e) (down_pos d) (down_pos f) h g

-- fractions a / ca = b / cb < c / cd
cross_right : (a ca b cb c cd : ℕ) → 0 < ca → 0 < cb → a * cb ≡ b * ca → b * cd < c * cb → a * cd < c * ca
cross_right a ca b cb c cd pa pb e h =
    let h' : b * cd * ca < c * cb * ca = mul-lt-mul_of_pos_right h pa in
    let e1 : a * cd * cb ≡ a * cb * cd = mul_right_comm a cd cb in
    let e2 : a * cb * cd ≡ b * ca * cd = ap (λ (m : ℕ). m * cd) e in
    let e3 : b * ca * cd ≡ b * cd * ca = mul_right_comm b ca cd in
    let e4 : c * cb * ca ≡ c * ca * cb = mul_right_comm c cb ca in
    let k : a * cd * cb < c * ca * cb = omega arith in
    lt_of_mul-lt-mul_right cb k

-- c / cd < b / cb = a / ca
cross_left : (a ca b cb c cd : ℕ) → 0 < ca → 0 < cb → a * cb ≡ b * ca → c * cb < b * cd → c * ca < a * cd
cross_left a ca b cb c cd pa pb e h =
    let h' : c * cb * ca < b * cd * ca = mul-lt-mul_of_pos_right h pa in
    let e1 : a * cd * cb ≡ a * cb * cd = mul_right_comm a cd cb in
    let e2 : a * cb * cd ≡ b * ca * cd = ap (λ (m : ℕ). m * cd) e in
    let e3 : b * ca * cd ≡ b * cd * ca = mul_right_comm b ca cd in
    let e4 : c * cb * ca ≡ c * ca * cb = mul_right_comm c cb ca in
    let k : c * ca * cb < a * cd * cb = omega arith in
    lt_of_mul-lt-mul_right cb k

no_product : (a c d : ℕ) → 0 < c → a * c ≡ 0 → a * d ≡ 0
no_product zero c d p h = zero-mul d
no_product (suc a) c d p h = absurd (let q : 0 < suc a * c = mul-pos {m = suc a} {n = c} (omega arith) p in omega arith)

module _ (a ca b cb c cd : ℕ) (pa : 0 < ca) (pb : 0 < cb) (pc : 0 < cd) (e : a * cb ≡ b * ca) where
  above_sum : 0 < b * cd + c * cb → 0 < a * cd + c * ca
  above_sum h = go b c e h
    where
      go : (b c : ℕ) → a * cb ≡ b * ca → 0 < b * cd + c * cb → 0 < a * cd + c * ca
      go b (suc c) e h = let q : 0 < suc c * ca = mul-pos {m = suc c} {n = ca} (omega arith) pa in omega arith
      go (suc b) zero e h =
          let q : 0 < suc b * ca = mul-pos {m = suc b} {n = ca} (omega arith) pa in
          let p : 0 < a * cd = above_zero a cb cd pc (omega arith) in
          omega arith
      go zero zero e h = absurd (let y : 0 * cd ≡ 0 = zero-mul cd in let z : 0 * cb ≡ 0 = zero-mul cb in omega arith)

  -- both are 0
  module _ (z : a * cb ≡ 0) where
    zero_left : a * cd ≡ 0
    zero_left = no_product a cb cd pb z

    zero_right : b * cd ≡ 0
    zero_right = no_product b ca cd pa (sym e ∙ z)

    zero_below : 0 < c * cb → a * cd < c * ca
    zero_below h = let q : 0 < c * ca = above_zero c cb ca pa h in omega (arith, zero_left)

  level_below : (s t u : Bool) → beq s t || (a * cb == 0) ≡ true → below t (b * cd) u (c * cb) ≡ true → below s (a * cd) u (c * ca) ≡ true
  level_below false false false l h = lt-ltb _ _ (cross_right a ca b cb c cd pa pb e (ltb-true _ _ h))
  level_below false false true l h = h
  level_below true true false l h = lt-ltb _ _ (above_sum (ltb-true _ _ h))
  level_below true true true l h = lt-ltb _ _ (cross_left a ca b cb c cd pa pb e (ltb-true _ _ h))
  level_below false true false l h =
      let z = eqb-true (a * cb) 0 l in
      lt-ltb (a * cd) (c * ca) (zero_below z (omega (arith, zero_right z, ltb-true 0 (b * cd + c * cb) h)))
  level_below false true true l h = absurd (let z = eqb-true (a * cb) 0 l in omega (arith, zero_right z, ltb-true (c * cb) (b * cd) h))
  level_below true false false l h =
      let z = eqb-true (a * cb) 0 l in
      let k : b * cd < c * cb = ltb-true _ _ h in
      let q : 0 < c * cb = omega arith in
      lt-ltb 0 (a * cd + c * ca) (omega (arith, zero_below z q))
  level_below true false true l h = never h

-- what is equal to y, or at most y, is below all that y is below
eq_lt : (x y z : Float) → eq x y ≡ true → lt y z ≡ true → lt x z ≡ true
unfolding eq lt
eq_lt nan y z e h = never e
eq_lt (inf s) nan z e h = never e
eq_lt (inf s) (fin t n d) z e h = never e
eq_lt (fin s m e) nan z q h = never q
eq_lt (fin s m e) (inf t) z q h = never q
eq_lt (inf true) (inf true) z e h = h
eq_lt (inf false) (inf false) z e h = h
eq_lt (inf true) (inf false) z e h = never e
eq_lt (inf false) (inf true) z e h = never e
eq_lt (fin s m e) (fin t n d) nan q h = h
eq_lt (fin s m e) (fin t n d) (inf u) q h = h
eq_lt (fin s m e) (fin t n d) (fin u p f) q h =
    level_below (m * up e) (down e) (n * up d) (down d) (p * up f) (down f) (down_pos e) (down_pos d) (down_pos f)
    (eqb-true (m * up e * down d) (n * up d * down e) (and_first _ _ q)) s t u (and_second (m * up e * down d == n * up d * down e) _ q) h

pub le_lt : (x y z : Float) → le x y ≡ true → lt y z ≡ true → lt x z ≡ true
unfolding le
le_lt x y z h g = go (lt x y) refl h
  where
    go : (t : Bool) → lt x y ≡ t → t || eq x y ≡ true → lt x z ≡ true
    go true q k = lt_trans x y z q g
    go false q k = eq_lt x y z k g
