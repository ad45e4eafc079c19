-- Laws of Loop.antt.
use Rattle.std.proofs.Math.Path.{◌≡◌}
use Rattle.std.specs.Prelude.{refl, Bool, ◌⊎◌, leb, eqb, Option, None, Some}
use Rattle.std.proofs.Common.{sym, ap, ◌∙◌, inl, inr, leb-true, leb-false, eqb-true}
use Rattle.std.proofs.lemmas.Bool.{eqb-false}
use Rattle.std.proofs.Math.Bool.{true, false}
use Prim.Native.Nat.{ℕ, zero, suc, ◌+◌, ◌-◌, ◌≤◌, ◌<◌}
use native.Mathlib.Omega.{arith}
use Rattle.loops.specs.Cases.{never}
use Rattle.loops.specs.Loop.{turns, from, tries, while, seeks, seek, First, Together, Longer}

-- one turn
pub again : {S : Type 0} (step : ℕ → S → S) (i b : ℕ) (s : S) → i < b → from step (i + 1) b (step i s) ≡ from step i b s
unfolding from turns
again step i b s h =
    let e : b - i ≡ suc (b - (i + 1)) = omega arith in
    rw e

-- no turn left
pub done : {S : Type 0} (step : ℕ → S → S) (i b : ℕ) (s : S) → b ≤ i → from step i b s ≡ s
unfolding from turns
done step i b s h =
    let e : b - i ≡ 0 = omega arith in
    rw e

pub while_again : {S : Type 0} (ok : ℕ → S → Bool) (step : ℕ → S → S) (i b : ℕ) (s : S) → i < b → ok i s ≡ true → while ok step (i + 1) b (step i s) ≡ while ok step i b s
unfolding while tries
while_again ok step i b s h t =
    let e : b - i ≡ suc (b - (i + 1)) = omega arith in
    rw (e, t)

pub while_fails : {S : Type 0} (ok : ℕ → S → Bool) (step : ℕ → S → S) (i b : ℕ) (s : S) → i < b → ok i s ≡ false → while ok step i b s ≡ record { at = i; state = s }
unfolding while tries
while_fails ok step i b s h t =
    let e : b - i ≡ suc (b - (i + 1)) = omega arith in
    rw (e, t)

pub while_done : {S : Type 0} (ok : ℕ → S → Bool) (step : ℕ → S → S) (i b : ℕ) (s : S) → b ≤ i → while ok step i b s ≡ record { at = i; state = s }
unfolding while tries
while_done ok step i b s h =
    let e : b - i ≡ 0 = omega arith in
    rw e

-- one turn more at the end
turns_last : {S : Type 0} (step : ℕ → S → S) (i n : ℕ) (s : S) → turns step i (suc n) s ≡ step (i + n) (turns step i n s)
unfolding turns
turns_last step i zero s =
    let e : i ≡ i + 0 = omega arith in
    ap (λ j. step j s) e
turns_last step i (suc n) s =
    let e : i + 1 + n ≡ i + suc n = omega arith in
    turns_last step (i + 1) n (step i s) ∙ ap (λ j. step j (turns step (i + 1) n (step i s))) e

-- the last turn of a loop that has one
pub last_from : {S : Type 0} (step : ℕ → S → S) (i b : ℕ) (s : S) → i ≤ b → from step i (suc b) s ≡ step b (from step i b s)
unfolding from
last_from step i b s h =
    let e : suc b - i ≡ suc (b - i) = omega arith in
    let z : i + (b - i) ≡ b = omega arith in
    rw e (turns_last step i (b - i) s ∙ ap (λ j. step j (turns step i (b - i) s)) z)

pub last : {S : Type 0} (step : ℕ → S → S) (b : ℕ) (s : S) → from step 0 (suc b) s ≡ step b (from step 0 b s)
last step b s = last_from step 0 b s (omega arith)

-- two loops whose turns agree below b
pub from_same : {S : Type 0} (f g : ℕ → S → S) (b : ℕ) (s : S) → ((i : ℕ) (t : S) → i < b → f i t ≡ g i t) → from f 0 b s ≡ from g 0 b s
from_same f g zero s h = done f 0 0 s (omega arith) ∙ sym (done g 0 0 s (omega arith))
from_same f g (suc b) s h = last f b s ∙ ap (λ t. f b t) (from_same f g b s (λ i t k. h i t (omega arith))) ∙ h b (from g 0 b s) (omega arith) ∙ sym (last g b s)

pub seek_again : (f : ℕ → Bool) (i b : ℕ) → i < b → f i ≡ false → seek f (i + 1) b ≡ seek f i b
unfolding seek seeks
seek_again f i b h t =
    let e : b - i ≡ suc (b - (i + 1)) = omega arith in
    rw (e, t)

pub seek_found : (f : ℕ → Bool) (i b : ℕ) → i < b → f i ≡ true → seek f i b ≡ Some i
unfolding seek seeks
seek_found f i b h t =
    let e : b - i ≡ suc (b - (i + 1)) = omega arith in
    rw (e, t)

pub seek_done : (f : ℕ → Bool) (i b : ℕ) → b ≤ i → seek f i b ≡ None
unfolding seek seeks
seek_done f i b h =
    let e : b - i ≡ 0 = omega arith in
    rw e

-- what was found: f holds there, and at no lower place from i on
seeks_some : (f : ℕ → Bool) (n i : ℕ) (t : Bool) (d : ℕ) → f i ≡ t → seeks f n i t ≡ Some d → (i ≤ d) × (d < i + n) × (f d ≡ true) × ((e : ℕ) → i ≤ e → e < d → f e ≡ false)
unfolding seeks
seeks_some f zero i t d q h = absurd (let z : ◌≡◌ {A = ℕ} 0 1 = cc in omega arith)
seeks_some f (suc n) i true d q h =
    let z : i ≡ d = cc in
    (omega arith, omega arith, (rw z at q), λ e l m. absurd (omega arith))
seeks_some f (suc n) i false d q h =
    let r = seeks_some f n (i + 1) (f (i + 1)) d refl h in
    (omega (arith, r.0), omega (arith, r.1), r.2, λ e l m. below e l m r.3 (compared e l))
  where
    compared : (e : ℕ) → i ≤ e → (i ≡ e) ⊎ (i + 1 ≤ e)
    compared e l = go (leb (i + 1) e) refl
      where
        go : (b : Bool) → leb (i + 1) e ≡ b → (i ≡ e) ⊎ (i + 1 ≤ e)
        go true w = inr (leb-true (i + 1) e w)
        go false w = inl (omega (arith, leb-false (i + 1) e w))

    below : (e : ℕ) → i ≤ e → e < d → ((j : ℕ) → i + 1 ≤ j → j < d → f j ≡ false) → (i ≡ e) ⊎ (i + 1 ≤ e) → f e ≡ false
    below e l m k (inl w) = rw w at q
    below e l m k (inr w) = k e w m

seeks_none : (f : ℕ → Bool) (n i : ℕ) (t : Bool) → f i ≡ t → seeks f n i t ≡ None → (e : ℕ) → i ≤ e → e < i + n → f e ≡ false
unfolding seeks
seeks_none f zero i t q h e l m = absurd (omega arith)
seeks_none f (suc n) i true q h e l m = absurd (let z : ◌≡◌ {A = ℕ} 0 1 = cc in omega arith)
seeks_none f (suc n) i false q h e l m = go (λ w. seeks_none f n (i + 1) (f (i + 1)) refl h e w (omega arith)) (leb (i + 1) e) refl
  where
    go : (i + 1 ≤ e → f e ≡ false) → (b : Bool) → leb (i + 1) e ≡ b → f e ≡ false
    go k true w = k (leb-true (i + 1) e w)
    go k false w =
        let z : i ≡ e = omega (arith, leb-false (i + 1) e w) in
        rw z at q

pub seek_first : (f : ℕ → Bool) (b d : ℕ) → seek f 0 b ≡ Some d → First f b d
unfolding seek
seek_first f b d h =
    let r = seeks_some f (b - 0) 0 (f 0) d refl h in
    record { within = omega (arith, r.1); holds = r.2; lowest = λ e k. r.3 e (omega arith) k }

pub seek_none : (f : ℕ → Bool) (b : ℕ) → seek f 0 b ≡ None → (e : ℕ) → e < b → f e ≡ false
unfolding seek
seek_none f b h e k = seeks_none f (b - 0) 0 (f 0) refl h e (omega arith) (omega arith)

-- and if f holds nowhere, nothing is found
seeks_nowhere : (f : ℕ → Bool) (n i : ℕ) (t : Bool) → f i ≡ t → ((e : ℕ) → i ≤ e → e < i + n → f e ≡ false) → seeks f n i t ≡ None
unfolding seeks
seeks_nowhere f zero i t q h = refl
seeks_nowhere f (suc n) i true q h = never (sym (h i (omega arith) (omega arith)) ∙ q)
seeks_nowhere f (suc n) i false q h = seeks_nowhere f n (i + 1) (f (i + 1)) refl (λ e l m. h e (omega arith) (omega arith))

pub seek_nowhere : (f : ℕ → Bool) (b : ℕ) → ((e : ℕ) → e < b → f e ≡ false) → seek f 0 b ≡ None
unfolding seek
seek_nowhere f b h = seeks_nowhere f (b - 0) 0 (f 0) refl (λ e l m. h e (omega arith))

-- two searches whose tests agree below b
pub seek_same : (f g : ℕ → Bool) (b : ℕ) → ((i : ℕ) → i < b → f i ≡ g i) → seek f 0 b ≡ seek g 0 b
seek_same f g b h = by_cases (seek g 0 b) refl
  where
    by_cases : (r : Option ℕ) → seek g 0 b ≡ r → seek f 0 b ≡ seek g 0 b
    by_cases None q = seek_nowhere f b (λ e k. h e k ∙ seek_none g b q e k) ∙ sym q
    by_cases (Some d) q = at_first (seek_first g b d q) ∙ sym q
      where
        at_first : First g b d → seek f 0 b ≡ Some d
        at_first w = found_at 0 d (omega arith)
          where
            found_at : (i n : ℕ) → i + n ≡ d → seek f i b ≡ Some d
            found_at i zero e =
                let z : i ≡ d = omega arith in
                rw z (seek_found f d b w.within (h d w.within ∙ w.holds))
            found_at i (suc n) e =
                sym (seek_again f i b (omega (arith, w.within)) (h i (omega (arith, w.within)) ∙ w.lowest i (omega arith))) ∙ found_at (i + 1) n (omega arith)

-- a loop of which one turn changes its state, and no other
module _ {S : Type 0} (step : ℕ → S → S) (j : ℕ) (still : (c : ℕ) (t : S) → (c ≡ j → ⊥) → step c t ≡ t) where
  turns_none : (i n : ℕ) (s : S) → j < i → turns step i n s ≡ s
  unfolding turns
  turns_none i zero s h = refl
  turns_none i (suc n) s h = ap (turns step (i + 1) n) (still i s (λ e. absurd (omega arith))) ∙ turns_none (i + 1) n s (omega arith)

  turns_only : (i n : ℕ) (s : S) → i ≤ j → j < i + n → turns step i n s ≡ step j s
  unfolding turns
  turns_only i zero s h l = absurd (omega arith)
  turns_only i (suc n) s h l =
      by (eqb i j) refl (λ q. turns_only (i + 1) n s (let r : i ≡ j → ⊥ = q in by_less i j h r) (omega arith))
    where
      by_less : (i j : ℕ) → i ≤ j → (i ≡ j → ⊥) → i + 1 ≤ j
      by_less i j h r = omega arith

      by : (t : Bool) → eqb i j ≡ t → ((i ≡ j → ⊥) → turns step (i + 1) n s ≡ step j s) → turns step (i + 1) n (step i s) ≡ step j s
      by true e f = turns_none (i + 1) n (step i s) (let q = eqb-true i j e in omega arith) ∙ ap (λ c. step c s) (eqb-true i j e)
      by false e f = let q = eqb-false i j e in ap (turns step (i + 1) n) (still i s q) ∙ f q

  pub from_only : (i b : ℕ) (s : S) → i ≤ j → j < b → from step i b s ≡ step j s
  unfolding from
  from_only i b s h l = turns_only i (b - i) s h (omega arith)

-- two loops whose turns keep a relation of their states
turns_related : {S U : Type 0} (R : S → U → Type 0) (f : ℕ → S → S) (g : ℕ → U → U) (i n : ℕ) (s : S) (u : U)
    → ((j : ℕ) (t : S) (v : U) → i ≤ j → j < i + n → R t v → R (f j t) (g j v)) → R s u → R (turns f i n s) (turns g i n u)
unfolding turns
turns_related R f g i zero s u h r = r
turns_related R f g i (suc n) s u h r =
    turns_related R f g (i + 1) n (f i s) (g i u) (λ j t v a b q. h j t v (omega arith) (omega arith) q) (h i s u (omega arith) (omega arith) r)

pub from_related : {S U : Type 0} (R : S → U → Type 0) (f : ℕ → S → S) (g : ℕ → U → U) (i b : ℕ) (s : S) (u : U)
    → ((j : ℕ) (t : S) (v : U) → i ≤ j → j < b → R t v → R (f j t) (g j v)) → R s u → R (from f i b s) (from g i b u)
unfolding from
from_related R f g i b s u h r = turns_related R f g i (b - i) s u (λ j t v a k q. h j t v a (omega arith) q) r

module _ {S U : Type 0} (R : S → U → Type 0) (ok : ℕ → S → Bool) (ok' : ℕ → U → Bool) (f : ℕ → S → S) (g : ℕ → U → U) where
  tries_related : (n i : ℕ) (t t' : Bool) (s : S) (u : U) → (0 < n → t ≡ t')
      → ((j : ℕ) (v : S) (w : U) → i ≤ j → j < i + n → R v w → (ok j v ≡ ok' j w) × R (f j v) (g j w)) → R s u → Together R (tries ok f n i t s) (tries ok' g n i t' u)
  unfolding tries
  tries_related zero i t t' s u q h r = record { stop = refl; related = r }
  tries_related (suc n) i false false s u q h r = record { stop = refl; related = r }
  tries_related (suc n) i false true s u q h r = absurd (let e = q (omega arith) in let z : ◌≡◌ {A = ℕ} 0 1 = cc in omega arith)
  tries_related (suc n) i true false s u q h r = absurd (let e = q (omega arith) in let z : ◌≡◌ {A = ℕ} 0 1 = cc in omega arith)
  tries_related (suc n) i true true s u q h r =
      let r' = (h i s u (omega arith) (omega arith) r).1 in
      tries_related n (i + 1) (ok (i + 1) (f i s)) (ok' (i + 1) (g i u)) (f i s) (g i u) (λ l. (h (i + 1) (f i s) (g i u) (omega arith) (omega arith) r').0)
      (λ j v w a b. h j v w (omega arith) (omega arith)) r'

  pub while_related : (i b : ℕ) (s : S) (u : U)
      → ((j : ℕ) (v : S) (w : U) → i ≤ j → j < b → R v w → (ok j v ≡ ok' j w) × R (f j v) (g j w)) → R s u → Together R (while ok f i b s) (while ok' g i b u)
  unfolding while
  while_related i b s u h r =
      tries_related (b - i) i (ok i s) (ok' i u) s u (λ l. (h i s u (omega arith) (omega arith) r).0) (λ j v w a k. h j v w a (omega arith)) r

-- what every turn keeps holds at the end
pub from_keeps : {S : Type 0} (P : S → Type 0) (step : ℕ → S → S) (i b : ℕ) (s : S) → ((j : ℕ) (t : S) → i ≤ j → j < b → P t → P (step j t)) → P s → P (from step i b s)
from_keeps P step i b s h p = from_related (λ t u. P t) step step i b s s (λ j t u a l q. h j t a l q) p

tries_keeps : {S : Type 0} (P : S → Type 0) (ok : ℕ → S → Bool) (step : ℕ → S → S) (n i : ℕ) (t : Bool) (s : S)
    → ((j : ℕ) (u : S) → i ≤ j → j < i + n → P u → P (step j u)) → P s → P (tries ok step n i t s).state
unfolding tries
tries_keeps P ok step zero i t s h p = p
tries_keeps P ok step (suc n) i false s h p = p
tries_keeps P ok step (suc n) i true s h p =
    tries_keeps P ok step n (i + 1) (ok (i + 1) (step i s)) (step i s) (λ j u a l. h j u (omega arith) (omega arith)) (h i s (omega arith) (omega arith) p)

pub while_keeps : {S : Type 0} (P : S → Type 0) (ok : ℕ → S → Bool) (step : ℕ → S → S) (i b : ℕ) (s : S)
    → ((j : ℕ) (t : S) → i ≤ j → j < b → P t → P (step j t)) → P s → P (while ok step i b s).state
unfolding while
while_keeps P ok step i b s h p = tries_keeps P ok step (b - i) i (ok i s) s (λ j u a l. h j u a (omega arith)) p

-- a loop stops at its bound at the latest
tries_at_most : {S : Type 0} (ok : ℕ → S → Bool) (step : ℕ → S → S) (n i : ℕ) (t : Bool) (s : S) → (tries ok step n i t s).at ≤ i + n
unfolding tries
tries_at_most ok step zero i t s = omega arith
tries_at_most ok step (suc n) i false s = omega arith
tries_at_most ok step (suc n) i true s = omega (arith, tries_at_most ok step n (i + 1) (ok (i + 1) (step i s)) (step i s))

pub while_at_most : {S : Type 0} (ok : ℕ → S → Bool) (step : ℕ → S → S) (i b : ℕ) (s : S) → i ≤ b → (while ok step i b s).at ≤ b
unfolding while
while_at_most ok step i b s h = omega (arith, tries_at_most ok step (b - i) i (ok i s) s)

-- a loop whose test never fails takes every turn
tries_all : {S : Type 0} (ok : ℕ → S → Bool) (step : ℕ → S → S) (n i : ℕ) (t : Bool) (s : S) → (0 < n → t ≡ true)
    → ((j : ℕ) (u : S) → i ≤ j → j < i + n → ok j u ≡ true) → (tries ok step n i t s).at ≡ i + n
unfolding tries
tries_all ok step zero i t s q h = omega arith
tries_all ok step (suc n) i false s q h = absurd (let e = q (omega arith) in let z : ◌≡◌ {A = ℕ} 0 1 = cc in omega arith)
tries_all ok step (suc n) i true s q h =
    let e = tries_all ok step n (i + 1) (ok (i + 1) (step i s)) (step i s) (λ l. h (i + 1) (step i s) (omega arith) (omega arith)) (λ j u a b. h j u (omega arith) (omega arith)) in
    omega (arith, e)

pub while_all : {S : Type 0} (ok : ℕ → S → Bool) (step : ℕ → S → S) (i b : ℕ) (s : S) → i ≤ b → ((j : ℕ) (u : S) → i ≤ j → j < b → ok j u ≡ true)
    → (while ok step i b s).at ≡ b
unfolding while
while_all ok step i b s k h = omega (arith, tries_all ok step (b - i) i (ok i s) s (λ l. h i s (omega arith) (omega arith)) (λ j u a l. h j u a (omega arith)))

-- ---- a loop with more turns beside one with fewer

module _ {S U : Type 0} (R : S → U → Type 0) (f : ℕ → S → S) (g : ℕ → U → U) where
  turns_longer : (n total i : ℕ) (s : S) (u : U) → n ≤ total
      → ((j : ℕ) (v : S) (w : U) → i ≤ j → j < i + n → R v w → R (f j v) (g j w))
      → ((j : ℕ) (v : S) (w : U) → i + n ≤ j → j < i + total → R v w → R (f j v) w) → R s u → R (turns f i total s) (turns g i n u)
  unfolding turns
  turns_longer zero zero i s u l both more r = r
  turns_longer zero (suc total) i s u l both more r =
      turns_longer zero total (i + 1) (f i s) u (omega arith) (λ j v w a b. absurd (omega arith)) (λ j v w a b. more j v w (omega arith) (omega arith)) (more i s u (omega arith) (omega arith) r)
  turns_longer (suc n) zero i s u l both more r = absurd (omega arith)
  turns_longer (suc n) (suc total) i s u l both more r =
      turns_longer n total (i + 1) (f i s) (g i u) (omega arith) (λ j v w a b. both j v w (omega arith) (omega arith)) (λ j v w a b. more j v w (omega arith) (omega arith)) (both i s u (omega arith) (omega arith) r)

  pub from_longer : (i k b : ℕ) (s : S) (u : U) → i ≤ k → k ≤ b
      → ((j : ℕ) (v : S) (w : U) → i ≤ j → j < k → R v w → R (f j v) (g j w))
      → ((j : ℕ) (v : S) (w : U) → k ≤ j → j < b → R v w → R (f j v) w) → R s u → R (from f i b s) (from g i k u)
  unfolding from
  from_longer i k b s u h l both more r =
      turns_longer (k - i) (b - i) i s u (omega arith) (λ j v w a q. both j v w a (omega arith)) (λ j v w a q. more j v w (omega arith) (omega arith)) r

tries_at_least : {S : Type 0} (ok : ℕ → S → Bool) (step : ℕ → S → S) (n i : ℕ) (t : Bool) (s : S) → i ≤ (tries ok step n i t s).at
unfolding tries
tries_at_least ok step zero i t s = omega arith
tries_at_least ok step (suc n) i false s = omega arith
tries_at_least ok step (suc n) i true s = omega (arith, tries_at_least ok step n (i + 1) (ok (i + 1) (step i s)) (step i s))

module _ {S U : Type 0} (R : S → U → Type 0) (ok : ℕ → S → Bool) (ok' : ℕ → U → Bool) (f : ℕ → S → S) (g : ℕ → U → U) where
  tries_longer : (n total i : ℕ) (t t' : Bool) (s : S) (u : U) → n ≤ total → (0 < n → t ≡ t')
      → ((j : ℕ) (v : S) (w : U) → i ≤ j → j < i + n → R v w → (ok j v ≡ ok' j w) × R (f j v) (g j w))
      → ((j : ℕ) (v : S) (w : U) → i + n ≤ j → j < i + total → R v w → R (f j v) w) → R s u → Longer R (i + n) (tries ok f total i t s) (tries ok' g n i t' u)
  unfolding tries
  tries_longer zero total i t t' s u l q both more r =
      record {
        stop = omega (arith, tries_at_least ok f total i t s);
        related = λ h. tries_keeps (λ (v : S). R v u) ok f total i t s (λ j v a b. more j v u (omega arith) b) r;
      }
  tries_longer (suc n) zero i t t' s u l q both more r = absurd (omega arith)
  tries_longer (suc n) (suc total) i false false s u l q both more r = record { stop = omega arith; related = λ h. absurd (omega arith) }
  tries_longer (suc n) (suc total) i false true s u l q both more r = absurd (let e = q (omega arith) in let z : ◌≡◌ {A = ℕ} 0 1 = cc in omega arith)
  tries_longer (suc n) (suc total) i true false s u l q both more r = absurd (let e = q (omega arith) in let z : ◌≡◌ {A = ℕ} 0 1 = cc in omega arith)
  tries_longer (suc n) (suc total) i true true s u l q both more r =
      let r' = (both i s u (omega arith) (omega arith) r).1 in
      let e : i + suc n ≡ i + 1 + n = omega arith in
      rw e
      (tries_longer n total (i + 1) (ok (i + 1) (f i s)) (ok' (i + 1) (g i u)) (f i s) (g i u) (omega arith) (λ h. (both (i + 1) (f i s) (g i u) (omega arith) (omega arith) r').0)
      (λ j v w a b. both j v w (omega arith) (omega arith)) (λ j v w a b. more j v w (omega arith) (omega arith)) r')

  pub while_longer : (k b : ℕ) (s : S) (u : U) → k ≤ b
      → ((j : ℕ) (v : S) (w : U) → j < k → R v w → (ok j v ≡ ok' j w) × R (f j v) (g j w))
      → ((j : ℕ) (v : S) (w : U) → k ≤ j → j < b → R v w → R (f j v) w) → R s u → Longer R k (while ok f 0 b s) (while ok' g 0 k u)
  unfolding while
  while_longer k b s u l both more r =
      let e : 0 + (k - 0) ≡ k = omega arith in
      rw e at
      (tries_longer (k - 0) (b - 0) 0 (ok 0 s) (ok' 0 u) s u (omega arith) (λ h. (both 0 s u (omega arith) r).0) (λ j v w a q. both j v w (omega arith)) (λ j v w a q. more j v w (omega arith) (omega arith)) r)
