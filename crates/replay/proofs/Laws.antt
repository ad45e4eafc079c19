-- Values written into lent buffers: into a window that is cut out, and window after window.
use mathlib.Core.Path.{◌≡◌, refl, sym, ap, ◌∙◌}
use mathlib.Core.List.{List, [], ◌∷◌, ◌++◌, append_assoc}
use Prim.Native.Nat.{ℕ, suc, ◌+◌, ◌-◌, ◌≤◌}
use native.Mathlib.Omega.{arith}
use lib.ListN.{length, set, take, drop, length-append, length-drop, length-take, take-append-drop}
use lib.Seq.{drop-append-le, length_front, length-take-le}
use Rattle.lent.specs.Written.{over}
use Rattle.replay.specs.Replay.{over_at, write_all}

-- values that are written without making a list longer stand in it
over_fits : {A : Type 0} (v l w : List A) → w ≡ over v l → length w ≡ length l → length v ≤ length l
over_fits v l w e h = omega (arith, ap length e ∙ length-append v (drop (length v) l), length-drop (length v) l)

-- a window of n places is cut out at i, values are written into it, and it is put back
pub window_over : {A : Type 0} (i n : ℕ) (v s w : List A) → w ≡ over v (take n (drop i s)) → length w ≡ length (take n (drop i s))
    → take i s ++ (w ++ drop n (drop i s)) ≡ over_at i v s
unfolding over_at
window_over i n v s w e h =
    let d = drop i s in
    let t = take n d in
    ap (λ l. take i s ++ (l ++ drop n d)) e
    ∙ ap (λ l. take i s ++ l) (append_assoc v (drop (length v) t) (drop n d))
    ∙ ap (λ l. take i s ++ (v ++ l)) (sym (drop-append-le (length v) t (drop n d) (over_fits v t w e h)))
    ∙ ap (λ l. take i s ++ (v ++ drop (length v) l)) (take-append-drop n d)

-- the list keeps its length; w is told by an equation
pub window_same : {A : Type 0} (i n : ℕ) (s : List A) {w u : List A} → w ≡ u → length w ≡ length (take n (drop i s)) → i ≤ length s
    → length (take i s ++ (w ++ drop n (drop i s))) ≡ length s
window_same i n s {w} e h q =
    length-append (take i s) (w ++ drop n (drop i s)) ∙ omega (arith, length-take-le i s q, length_front (drop i s) w n h, length-drop i s)

-- where no value is written, all is left
pub over_nothing : {A : Type 0} (i : ℕ) (s : List A) → s ≡ over_at i [] s
unfolding over_at
over_nothing i s = sym (take-append-drop i s)

-- a window that is cut out has its length
pub window_length : {A : Type 0} (i n : ℕ) (s : List A) → i + n ≤ length s → length (take (i + n - i) (drop i s)) ≡ n
window_length i n s h = omega (arith, length-take (i + n - i) (drop i s), length-drop i s)

-- five places are set
pub five_set : (a b c d e : ℕ) (l : List ℕ) → 5 ≤ length l
    → set (set (set (set (set l 0 a) 1 b) 2 c) 3 d) 4 e ≡ over (a ∷ b ∷ c ∷ d ∷ e ∷ []) l
five_set a b c d e [] h = absurd (omega arith)
five_set a b c d e (_ ∷ []) h = absurd (omega arith)
five_set a b c d e (_ ∷ _ ∷ []) h = absurd (omega arith)
five_set a b c d e (_ ∷ _ ∷ _ ∷ []) h = absurd (omega arith)
five_set a b c d e (_ ∷ _ ∷ _ ∷ _ ∷ []) h = absurd (omega arith)
five_set a b c d e (_ ∷ _ ∷ _ ∷ _ ∷ _ ∷ l) h = refl

-- one reply more
pub write_snoc : {B W : Type 0} (put : ℕ → B → W → W) (j : ℕ) (rs : List B) (r : B) (w : W)
    → write_all put j (rs ++ (r ∷ [])) w ≡ put (j + length rs) r (write_all put j rs w)
unfolding write_all
write_snoc put j [] r w =
    let e : j ≡ j + 0 = omega arith in
    ap (λ i. put i r w) e
write_snoc put j (q ∷ rs) r w =
    let e : j + 1 + length rs ≡ j + suc (length rs) = omega arith in
    write_snoc put (j + 1) rs r (put j q w) ∙ ap (λ i. put i r (write_all put (j + 1) rs (put j q w))) e
