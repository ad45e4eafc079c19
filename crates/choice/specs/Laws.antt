-- What the choice comes to, of any scores.
use Rattle.std.specs.Prelude.{◌≡◌, refl, Bool, true, false, cond, not, ◌||◌, ◌⊎◌, ℕ, zero, suc, ◌-◌, ◌*◌, ◌≤◌, ◌<◌, T, ltb, Float, Option, Some, None, unwrap_or}
use Rattle.std.proofs.Common.{sym, ap, ◌∙◌, inl, inr, mul-pos, arith, ltb-true, ltb-false, le-ltb, lit<}
use Rattle.std.specs.Int.Count.{count_trailing_zeros}
use Rattle.std.specs.Float.{nan, inf, fin, binary64}
use Rattle.std.specs.Float.Ieee.{sub, add, neg, sum, round, lt, le, eq, of_bits, up, down, size, span, climb, odd, units}
use Rattle.std.specs.Float.Ieee.Fits.{down_pos}
use Rattle.std.specs.Float.Ieee.Order.{round_mono}
use Rattle.loops.specs.Cases.{never}
use Rattle.loops.specs.Loop.{First}
use Rattle.loops.specs.LoopLaws.{last, done, seek_first, seek_none, seek_nowhere}
use Rattle.value.specs.Finite.{finite}
use Rattle.basis.specs.declared.Degree.{Degree}
use Rattle.value.specs.Numbers.{zero_f, two_f, infinity_f}
use Rattle.value.specs.Order.{lt_itself, lt_trans}
use Rattle.choice.specs.Choice.{Attained, Chosen, degree, yields, least_of, near, degree_of, chosen_of, chosen_score, Below}

-- ---- the least

least_last : (S : ℕ → Option Float) (b : ℕ) → least_of S (suc b) ≡ yields (S b) (least_of S b)
unfolding least_of
least_last S b = last _ b (infinity_f)

least_none : (S : ℕ → Option Float) → least_of S 0 ≡ infinity_f
unfolding least_of
least_none S = done _ 0 0 (infinity_f) (omega arith)

-- what is not below a is not below what a yields to
not_below : (v a : Float) (s : Option Float) → lt v a ≡ false → lt v (yields s a) ≡ false
unfolding yields
not_below v a None h = h
not_below v a (Some w) h = go (lt w a) refl
  where
    against : (t : Bool) → lt v w ≡ t → lt w a ≡ true → t ≡ false
    against false q k = refl
    against true q k = never (sym h ∙ lt_trans v w a q k)

    go : (t : Bool) → lt w a ≡ t → lt v (cond t w a) ≡ false
    go false q = h
    go true q = against (lt v w) refl q

-- a solved score is not below what the least yields to
not_below_it : (a v : Float) → lt v (yields (Some v) a) ≡ false
unfolding yields
not_below_it a v = go (lt v a) refl
  where
    go : (t : Bool) → lt v a ≡ t → lt v (cond t v a) ≡ false
    go true q = lt_itself v
    go false q = q

split : (d b : ℕ) → d < suc b → (d ≡ b) ⊎ (d < b)
split d b h = go (ltb d b) refl
  where
    go : (t : Bool) → ltb d b ≡ t → (d ≡ b) ⊎ (d < b)
    go true q = inr (ltb-true d b q)
    go false q = inl (omega (arith, ltb-false d b q))

-- no solved degree scores below the least
pub none_below : (S : ℕ → Option Float) (b d : ℕ) (v : Float) → d < b → S d ≡ Some v → lt v (least_of S b) ≡ false
none_below S zero d v h q = absurd (omega arith)
none_below S (suc b) d v h q = rw (least_last S b) (go (split d b h) (λ k. none_below S b d v k q))
  where
    go : (d ≡ b) ⊎ (d < b) → (d < b → lt v (least_of S b) ≡ false) → lt v (yields (S b) (least_of S b)) ≡ false
    go (inl e) k = ap (λ (s : Option Float). lt v (yields s (least_of S b))) (ap S (sym e) ∙ q) ∙ not_below_it (least_of S b) v
    go (inr l) k = not_below v (least_of S b) (S b) (k l)

-- the least is +infinity, or the score of a solved degree
pub attained : (S : ℕ → Option Float) (b : ℕ) → (least_of S b ≡ infinity_f) ⊎ Attained S b (least_of S b)
unfolding yields
attained S zero = inl (least_none S)
attained S (suc b) = rw (least_last S b) (by_score (S b) refl (keep (attained S b)))
  where
    further : (a : Float) → Attained S b a → Attained S (suc b) a
    further a w = record { degree = w.degree; within = omega (arith, w.within); is_least = w.is_least }

    keep : (least_of S b ≡ infinity_f) ⊎ Attained S b (least_of S b) → (least_of S b ≡ infinity_f) ⊎ Attained S (suc b) (least_of S b)
    keep (inl e) = inl e
    keep (inr w) = inr (further (least_of S b) w)

    by_score : (s : Option Float) → S b ≡ s → (least_of S b ≡ infinity_f) ⊎ Attained S (suc b) (least_of S b)
        → (yields s (least_of S b) ≡ infinity_f) ⊎ Attained S (suc b) (yields s (least_of S b))
    by_score None q w = w
    by_score (Some v) q w = by_test (lt v (least_of S b))
      where
        by_test : (t : Bool) → (cond t v (least_of S b) ≡ infinity_f) ⊎ Attained S (suc b) (cond t v (least_of S b))
        by_test true = inr (record { degree = b; within = omega arith; is_least = q })
        by_test false = w

-- ---- a score at most 2 above the least

or_first : (a b : Bool) → a ≡ true → a || b ≡ true
or_first true b h = refl
or_first false b h = never h

told : (b : Bool) → T b → b ≡ true
told true t = refl
told false t = elim t [ ]

two_is : two_f ≡ round binary64 false 2 1
unfolding of_bits round size span climb odd units count_trailing_zeros
two_is = refl

round_near : (c : ℕ) → 0 < c → le (round binary64 false 0 c) two_f ≡ true
round_near c p = rw two_is (told _ (round_mono binary64 0 c 2 1 p (lit< tt) (omega arith)))

zero_near : (s : Bool) (a c : ℕ) → 0 < c → le (sum binary64 s a (not s) a c) two_f ≡ true
unfolding sum
zero_near true a c p =
    let z : a - a ≡ 0 = omega arith in
    rw (le-ltb a a (omega arith), z) (round_near c p)
zero_near false a c p =
    let z : a - a ≡ 0 = omega arith in
    rw (le-ltb a a (omega arith), z) (round_near c p)

-- a finite score is 0 above itself
itself_near : (x : Float) → finite x ≡ true → le (sub binary64 x x) two_f ≡ true
unfolding finite sub add neg
itself_near nan h = never h
itself_near (inf s) h = never h
itself_near (fin s m e) h = zero_near s (m * up e * down e) (down e * down e) (mul-pos (down_pos e) (down_pos e))

-- nothing is near a least that is not finite and below which nothing scores
far : (v a : Float) → finite a ≡ false → lt v a ≡ false → le (sub binary64 v a) two_f ≡ false
unfolding finite sub add neg lt eq le of_bits
far nan a f h = refl
far (inf s) nan f h = refl
far (inf true) (inf true) f h = refl
far (inf true) (inf false) f h = never (sym h)
far (inf false) (inf true) f h = refl
far (inf false) (inf false) f h = refl
far (inf s) (fin t n d) f h = never (sym f)
far (fin s m e) nan f h = refl
far (fin s m e) (inf true) f h = refl
far (fin s m e) (inf false) f h = never (sym h)
far (fin s m e) (fin t n d) f h = never (sym f)

-- ---- the choice

-- a degree near the least is solved, with a score at most 2 above it
near_score : (a : Float) (s : Option Float) → near a s ≡ true → (v : Float) × (s ≡ Some v) × (le (sub binary64 v a) two_f ≡ true)
unfolding near
near_score a None h = never h
near_score a (Some v) h = (v, refl, h)

not_near : (a : Float) (s : Option Float) (v : Float) → near a s ≡ false → s ≡ Some v → le (sub binary64 v a) two_f ≡ false
unfolding near
not_near a s v h q = rw q at h

degree_some : (o : Option ℕ) (d : ℕ) → degree_of o ≡ Some (degree d) → o ≡ Some d
degree_some None d h = never (absurd (let z : ◌≡◌ {A = ℕ} 0 1 = cc in omega arith))
degree_some (Some e) d h =
    let z : degree e ≡ degree d = cc in
    ap (λ (r : Degree). Some r.0) z

degree_none : (o : Option ℕ) → degree_of o ≡ None → o ≡ None
degree_none None h = refl
degree_none (Some e) h = absurd (let z : ◌≡◌ {A = ℕ} 0 1 = cc in omega arith)

-- a least that is not finite has no degree near it
none_near : (S : ℕ → Option Float) (b : ℕ) → finite (least_of S b) ≡ false → (d : ℕ) → d < b → near (least_of S b) (S d) ≡ false
unfolding near
none_near S b f d h = go (S d) refl
  where
    go : (s : Option Float) → S d ≡ s → near (least_of S b) s ≡ false
    go None q = refl
    go (Some v) q = far v (least_of S b) f (none_below S b d v h q)

pub chosen : (S : ℕ → Option Float) (b d : ℕ) → chosen_of S b ≡ Some (degree d) → Chosen S b d
unfolding chosen_of
chosen S b d h =
    let w : First (λ d. near (least_of S b) (S d)) b d = seek_first _ b d (degree_some _ d h) in
    let n = near_score _ _ w.holds in
    record {
      within = w.within;
      score = n.0;
      is_solved_lem = n.1;
      close = n.2;
      least_finite = go (finite (least_of S b)) refl w.within w.holds;
      lowest = λ e v k q. not_near _ _ v (w.lowest e k) q;
    }
  where
    go : (t : Bool) → finite (least_of S b) ≡ t → d < b → near (least_of S b) (S d) ≡ true → t ≡ true
    go true q k n = refl
    go false q k n = sym (none_near S b q d k) ∙ n

-- a finite least has a degree chosen
pub chosen_only : (S : ℕ → Option Float) (b : ℕ) → finite (least_of S b) ≡ true → chosen_of S b ≡ None → ⊥
unfolding chosen_of finite of_bits
chosen_only S b f h = go (attained S b)
  where
    away : (e : ℕ) → e < b → near (least_of S b) (S e) ≡ false
    away = seek_none _ b (degree_none _ h)

    go : (least_of S b ≡ infinity_f) ⊎ Attained S b (least_of S b) → ⊥
    go (inl e) = never (rw e at f)
    go (inr w) = never (sym (not_near (least_of S b) (S w.degree) (least_of S b) (away w.degree w.within) w.is_least) ∙ itself_near (least_of S b) f)

-- none is chosen exactly when the least is not finite: +infinity, where no solved degree scores below it, or -infinity
pub none_chosen : (S : ℕ → Option Float) (b : ℕ) → finite (least_of S b) ≡ false → chosen_of S b ≡ None
unfolding chosen_of
none_chosen S b f = ap degree_of (seek_nowhere _ b (none_near S b f))

pub none_chosen_only : (S : ℕ → Option Float) (b : ℕ) → chosen_of S b ≡ None → finite (least_of S b) ≡ false
none_chosen_only S b h = go (finite (least_of S b)) refl
  where
    go : (t : Bool) → finite (least_of S b) ≡ t → t ≡ false
    go false q = refl
    go true q = absurd (chosen_only S b q h)

-- and a degree that is as `Chosen` says is the one
pub chosen_is : (S : ℕ → Option Float) (b d : ℕ) → Chosen S b d → chosen_of S b ≡ Some (degree d)
chosen_is S b d w = go (chosen_of S b) refl
  where
    apart : (e f : ℕ) → e < f → Chosen S b e → Chosen S b f → ⊥
    apart e f h u v = never (sym (v.lowest e u.score h u.is_solved_lem) ∙ u.close)

    same : (e : ℕ) → Chosen S b e → (t : Bool) → ltb d e ≡ t → (r : Bool) → ltb e d ≡ r → e ≡ d
    same e v true q r k = absurd (apart d e (ltb-true d e q) w v)
    same e v false q true k = absurd (apart e d (ltb-true e d k) v w)
    same e v false q false k = omega (arith, ltb-false d e q, ltb-false e d k)

    go : (p : Option Degree) → chosen_of S b ≡ p → chosen_of S b ≡ Some (degree d)
    go None q = absurd (chosen_only S b w.least_finite q)
    go (Some e) q = q ∙ ap (λ (j : ℕ). Some (degree j)) (same e.0 (chosen S b e.0 q) (ltb d e.0) refl (ltb e.0 d) refl)

-- none is chosen exactly when there is no such degree
pub none_such : (S : ℕ → Option Float) (b : ℕ) → chosen_of S b ≡ None → (d : ℕ) → Chosen S b d → ⊥
none_such S b h d w = absurd (let q = chosen_is S b d w in let z : ◌≡◌ {A = ℕ} 0 1 = cc in omega arith)

pub none_such_only : (S : ℕ → Option Float) (b : ℕ) → ((d : ℕ) → Chosen S b d → ⊥) → chosen_of S b ≡ None
none_such_only S b h = go (chosen_of S b) refl
  where
    go : (p : Option Degree) → chosen_of S b ≡ p → chosen_of S b ≡ None
    go None q = q
    go (Some d) q = absurd (h d.0 (chosen S b d.0 q))

-- ---- the chosen degree's place and score

pub chosen_below : (S : ℕ → Option Float) (b m : ℕ) (o : Option Degree) → b ≤ m → o ≡ chosen_of S b → Below m o
chosen_below S b m None h e = tt
chosen_below S b m (Some d) h e = omega (arith, (chosen S b d.0 (sym e)).within)

pub below_some : (b : ℕ) (o : Option Degree) (d : Degree) → o ≡ Some d → Below b o → d.0 < b
below_some b o d e h = rw e at h

-- where two ways to score agree below b, they agree of the chosen degree
pub chosen_score_same : (S R : ℕ → Option Float) (b : ℕ) → ((d : ℕ) → d < b → S d ≡ R d) → (o : Option Degree) → o ≡ chosen_of S b
    → chosen_score S o ≡ chosen_score R o
unfolding chosen_score
chosen_score_same S R b same None e = refl
chosen_score_same S R b same (Some d) e = ap (λ (s : Option Float). unwrap_or s zero_f) (same d.0 (chosen S b d.0 (sym e)).within)

-- where it is d
pub score_some : (S : ℕ → Option Float) (o : Option Degree) (d : Degree) → o ≡ Some d → unwrap_or (S d.0) zero_f ≡ chosen_score S o
unfolding chosen_score
score_some S o d e = rw e
