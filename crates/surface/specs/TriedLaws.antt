-- Which total degrees a report tries: those from 0 to the last one whose terms are at most as many as the samples.
use Rattle.std.specs.Prelude.{◌≡◌, refl, Bool, true, false, cond, List, [], ◌∷◌, ◌++◌, ℕ, zero, suc, ◌+◌, ◌-◌, ◌≤◌, ◌<◌, leb, Float, take, drop}
use Rattle.std.proofs.Common.{sym, ap, ap₂, ◌∙◌, append-nil, arith, add-one, leb-true, leb-false, le-leb, take-append-drop}
use Rattle.std.proofs.lemmas.Bool.{lt-leb}
use Rattle.loops.specs.All.{All}
use Rattle.loops.specs.AllLaws.{all_table}
use Rattle.loops.specs.Cases.{either}
use Rattle.loops.specs.Places.{table}
use Rattle.loops.specs.PlaceLaws.{take_table, drop_table}
use Rattle.basis.specs.Counts.{count_of}
use Rattle.basis.specs.CountLaws.{count_mono}
use Rattle.basis.specs.declared.Basis.TheVariants.{Surface}
use Rattle.statistics.specs.Degrees.{max_degree}
use Rattle.monomial.specs.Rows.{Row}
use Rattle.fit.specs.Chosen.{choice_of, counts_of}
use Rattle.settings.specs.declared.Settings.{Settings}
use Rattle.surface.specs.Surfaces.{at_most, surface_counts, last_tried, surface_choice}

-- ---- the last total degree

pub last_again : (n d : ℕ) → last_tried n (d + 1) ≡ cond (leb (count_of Surface (d + 1)) n) (d + 1) (last_tried n d)
unfolding last_tried
last_again n d = rw (add-one d)

pub last_none : (n : ℕ) → last_tried n 0 ≡ 0
unfolding last_tried
last_none n = refl

no_terms : count_of Surface 0 ≡ 1
unfolding count_of
no_terms = refl

-- it is within the bound, its terms are at most n, and those of all later ones within the bound are more
last_is : (n d : ℕ) → 0 < n
    → (last_tried n d ≤ d) × (count_of Surface (last_tried n d) ≤ n) × ((e : ℕ) → last_tried n d < e → e ≤ d → n < count_of Surface e)
unfolding last_tried
last_is n zero h = (omega arith, omega (arith, no_terms), λ e l m. absurd (omega arith))
last_is n (suc d) h = go (leb (count_of Surface (suc d)) n) refl (last_is n d h)
  where
    go : (t : Bool) → leb (count_of Surface (suc d)) n ≡ t
        → (last_tried n d ≤ d) × (count_of Surface (last_tried n d) ≤ n) × ((e : ℕ) → last_tried n d < e → e ≤ d → n < count_of Surface e)
        → (cond t (suc d) (last_tried n d) ≤ suc d) × (count_of Surface (cond t (suc d) (last_tried n d)) ≤ n)
        × ((e : ℕ) → cond t (suc d) (last_tried n d) < e → e ≤ suc d → n < count_of Surface e)
    go true q w = (omega arith, leb-true _ _ q, λ e l m. absurd (omega arith))
    go false q w = (omega (arith, w.0), w.1, λ e l m. either e d (λ k. w.2 e l k) (λ k. let same : e ≡ suc d = omega arith in rw same (leb-false _ _ q)))

pub last_within : (n d : ℕ) → 0 < n → last_tried n d ≤ d
last_within n d h = (last_is n d h).0

pub last_fits : (n d : ℕ) → 0 < n → count_of Surface (last_tried n d) ≤ n
last_fits n d h = (last_is n d h).1

-- ---- the counts

kept_all : (n : ℕ) (ks : List ℕ) → All (λ k. k ≤ n) ks → at_most n ks ≡ ks
unfolding at_most
kept_all n [] a = refl
kept_all n (k ∷ ks) a = rw (le-leb k n a.0) (ap (λ l. k ∷ l) (kept_all n ks a.1))

kept_none : (n : ℕ) (ks : List ℕ) → All (λ k. n < k) ks → at_most n ks ≡ []
unfolding at_most
kept_none n [] a = refl
kept_none n (k ∷ ks) a = rw (lt-leb k n a.0) (kept_none n ks a.1)

kept_append : (n : ℕ) (ks ls : List ℕ) → at_most n (ks ++ ls) ≡ at_most n ks ++ at_most n ls
unfolding at_most
kept_append n [] ls = refl
kept_append n (k ∷ ks) ls = go (leb k n) (kept_append n ks ls)
  where
    go : (t : Bool) → at_most n (ks ++ ls) ≡ at_most n ks ++ at_most n ls
        → cond t (k ∷ at_most n (ks ++ ls)) (at_most n (ks ++ ls)) ≡ cond t (k ∷ at_most n ks) (at_most n ks) ++ at_most n ls
    go true e = ap (λ l. k ∷ l) e
    go false e = e

-- the counts tried are those of the total degrees 0 to the last one that has as many samples as terms
pub tried_counts : (n bound : ℕ) → 0 < n → surface_counts n bound ≡ counts_of Surface (last_tried n bound)
unfolding surface_counts
tried_counts n bound h =
    let w = last_is n bound h in
    let m = last_tried n bound in
    let l = table (count_of Surface) (bound + 1) in
    let first : take (m + 1) l ≡ table (count_of Surface) (m + 1) = take_table (count_of Surface) (m + 1) (bound + 1) (omega (arith, w.0)) in
    let later : drop (m + 1) l ≡ table (λ k. count_of Surface (m + 1 + k)) (bound + 1 - (m + 1)) = drop_table (count_of Surface) (m + 1) (bound + 1) (omega (arith, w.0)) in
    let few = all_table (λ k. k ≤ n) (count_of Surface) (m + 1) (λ k q. omega (arith, count_mono Surface k m (omega arith), w.1)) in
    let many = all_table (λ k. n < k) (λ k. count_of Surface (m + 1 + k)) (bound + 1 - (m + 1)) (λ k q. w.2 (m + 1 + k) (omega arith) (omega (arith, w.0))) in
    ap (at_most n) (sym (take-append-drop (m + 1) l)) ∙ kept_append n (take (m + 1) l) (drop (m + 1) l)
    ∙ ap₂ ◌++◌ (ap (at_most n) first ∙ kept_all n _ few) (ap (at_most n) later ∙ kept_none n _ many) ∙ append-nil _

-- so the choice is among those
pub surface_choice_is : (n : ℕ) (settings : Settings) (rows : List Row) (sums : List Float) → 0 < n
    → surface_choice n settings rows sums ≡ choice_of settings.criterion sums rows (counts_of Surface (last_tried n (max_degree settings.bound n)))
unfolding surface_choice
surface_choice_is n settings rows sums h = ap (choice_of settings.criterion sums rows) (tried_counts n (max_degree settings.bound n) h)
