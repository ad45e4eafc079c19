-- Laws of Named.antt: a refusal and its number are one and the same, and what the code's list of tests comes to.
use Rattle.std.specs.Prelude.{◌≡◌, refl, Bool, true, false, cond, not, ◌||◌, List, [], ◌∷◌, ◌++◌, ℕ, zero, suc, ◌+◌, ◌≤◌, ◌<◌, eqb, ltb, length, drop, slice_index_or, Result, Ok, Err, IsErrAnd, ⊤}
use Rattle.std.specs.List.{list_any, list_all}
use Rattle.std.proofs.Common.{sym, ap, ◌∙◌, drop-cons, add-one, eqb-true, arith}
use Rattle.std.proofs.lemmas.Result.{err_from_is_err_and}
use mathlib.Core.List.Memᴰ
use mathlib.Core.List.{Memᴰ}
use Rattle.loops.specs.Cases.{by_test, and_first, and_second}
use Rattle.refusal.specs.declared.refusals.Refusal.{Refusal}
use Rattle.refusal.specs.declared.refusals.Refusal.TheVariants.{Short, FrameLength, FrameVersion, NotFinite, Full, NoSample, TooFew, DegreeTooHigh, Outside, Unsolved, NoneChosen, NoInverse, Malformed, TooManyDigits, Weightless, OverLimit, NoGroup, NoStake}
use Rattle.refusal.specs.Refusals.{Test, first_of, settle, most_number}
use Rattle.refusal.specs.Tests.{any_short}
use Rattle.refusal.specs.Named.{number, named, refused_by, number_of, judged, tests_of, memories_of}

-- ---- the number of a refusal

pub judged_number : (r : Refusal) → judged (number r) ≡ Err r
judged_number Short = refl
judged_number FrameLength = refl
judged_number FrameVersion = refl
judged_number NotFinite = refl
judged_number Full = refl
judged_number NoSample = refl
judged_number TooFew = refl
judged_number DegreeTooHigh = refl
judged_number Outside = refl
judged_number Unsolved = refl
judged_number NoneChosen = refl
judged_number NoInverse = refl
judged_number Malformed = refl
judged_number TooManyDigits = refl
judged_number Weightless = refl
judged_number OverLimit = refl
judged_number NoGroup = refl
judged_number NoStake = refl

-- its number names it
pub named_number : (r : Refusal) → named (number r) ≡ r
named_number Short = refl
named_number FrameLength = refl
named_number FrameVersion = refl
named_number NotFinite = refl
named_number Full = refl
named_number NoSample = refl
named_number TooFew = refl
named_number DegreeTooHigh = refl
named_number Outside = refl
named_number Unsolved = refl
named_number NoneChosen = refl
named_number NoInverse = refl
named_number Malformed = refl
named_number TooManyDigits = refl
named_number Weightless = refl
named_number OverLimit = refl
named_number NoGroup = refl
named_number NoStake = refl

-- it is one of 1 to 18
pub number_fits : (r : Refusal) → (1 ≤ number r) × (number r ≤ most_number)
number_fits Short = (omega arith, omega arith)
number_fits FrameLength = (omega arith, omega arith)
number_fits FrameVersion = (omega arith, omega arith)
number_fits NotFinite = (omega arith, omega arith)
number_fits Full = (omega arith, omega arith)
number_fits NoSample = (omega arith, omega arith)
number_fits TooFew = (omega arith, omega arith)
number_fits DegreeTooHigh = (omega arith, omega arith)
number_fits Outside = (omega arith, omega arith)
number_fits Unsolved = (omega arith, omega arith)
number_fits NoneChosen = (omega arith, omega arith)
number_fits NoInverse = (omega arith, omega arith)
number_fits Malformed = (omega arith, omega arith)
number_fits TooManyDigits = (omega arith, omega arith)
number_fits Weightless = (omega arith, omega arith)
number_fits OverLimit = (omega arith, omega arith)
number_fits NoGroup = (omega arith, omega arith)
number_fits NoStake = (omega arith, omega arith)

-- one of the documents' numbers, or 0 for none
abbrev is_number : ℕ → Bool
is_number k = eqb k 0 || eqb (number (named k)) k

number_is : (k : ℕ) → is_number k ≡ true → number_of (judged k) ≡ k
number_is k h = by_test (eqb k 0) (λ t. rw (eqb-true k 0 t) refl) (λ f. own k (eqb-true _ _ (rw f at h)))
  where
    own : (k : ℕ) → number (named k) ≡ k → number_of (judged k) ≡ k
    own zero e = refl
    own (suc k) e = e

-- of a list of such numbers, as each call has it, each is its refusal's
pub number_judged : {k : ℕ} (l : List ℕ) → list_all is_number l ≡ true → Memᴰ k l → number_of (judged k) ≡ k
number_judged [] h m = elim m [ ]
number_judged (a ∷ l) h (Memᴰ.head e) = rw e (number_is a (and_first (is_number a) (list_all is_number l) h))
number_judged (a ∷ l) h (Memᴰ.tail m) = number_judged l (and_second (is_number a) (list_all is_number l) h) m

-- of an answer that the tests settle
pub settled_number : {A : Type 0} (r : ℕ) (good : Result A Refusal) → number_of good ≡ 0 → number_of (judged r) ≡ r → number_of (settle r good (refused_by r)) ≡ r
settled_number zero good e h = e
settled_number (suc k) good e h = h

-- ---- the code's list of tests

-- the tests from a place on: it is refused by the one that stands there, or by a later one
pub tests_from : (ts : List (Bool × Refusal)) (i : ℕ) (d : Bool × Refusal) → i < length ts
    → first_of (tests_of (drop i ts)) ≡ cond (slice_index_or ts i d).0 (number (slice_index_or ts i d).1) (first_of (tests_of (drop (i + 1) ts)))
unfolding first_of
tests_from ts i d h = rw (drop-cons ts i d h, add-one i) refl

-- a memory that is short
pub memories_short : (ms : List (ℕ × ℕ)) → list_any (λ (m : ℕ × ℕ). ltb m.1 m.0) ms ≡ any_short (memories_of ms)
unfolding any_short
memories_short [] = refl
memories_short (m ∷ ms) = ap (λ b. ltb m.1 m.0 || b) (memories_short ms)

-- ---- what a test that is asked with `?` says

-- the call goes on only where no test holds
pub passed : {k : ℕ} {r : Result ⊤ Refusal} {u : ⊤} → r ≡ judged k → r ≡ Ok u → k ≡ 0
passed {k} e h = go k (sym e ∙ h)
  where
    go : (k : ℕ) {u : ⊤} → judged k ≡ Ok u → k ≡ 0
    go zero h = refl
    go (suc k) h = cc

-- the same, where the answer is only said to be no refusal
pub let_by : {k : ℕ} {r : Result ⊤ Refusal} → r ≡ judged k → ((e : Refusal) → r ≡ Err e → ⊥) → k ≡ 0
let_by {k} p h = go k h p
  where
    go : (k : ℕ) {r : Result ⊤ Refusal} → ((e : Refusal) → r ≡ Err e → ⊥) → r ≡ judged k → k ≡ 0
    go zero h p = refl
    go (suc k) h p = absurd (h _ p)

-- else it is refused by the first that holds
pub stopped : {k : ℕ} {r : Result ⊤ Refusal} {e : Refusal} → r ≡ judged k → r ≡ Err e → (k ≡ 0 → ⊥) × (e ≡ named k)
stopped {k} p h = go k (sym p ∙ h)
  where
    go : (k : ℕ) {e : Refusal} → judged k ≡ Err e → (k ≡ 0 → ⊥) × (e ≡ named k)
    go zero h = absurd (cc)
    go (suc k) h = (λ z. absurd (omega (arith, z)), cc)

-- and that refusal is what the call answers
pub given_back : {A : Type 0} {k : ℕ} {e : Refusal} {a : Result A Refusal} → (k ≡ 0 → ⊥) × (e ≡ named k) → IsErrAnd a (λ d. d ≡ e) → (k ≡ 0 → ⊥) × (a ≡ refused_by k)
given_back {a} s q =
    let is = err_from_is_err_and a q in
    (s.0, is.1 ∙ ap (λ d. Err d) (is.2 ∙ s.1))

pub refused_on : {A : Type 0} {k : ℕ} {r : Result ⊤ Refusal} {e : Refusal} {a : Result A Refusal} → r ≡ judged k → r ≡ Err e → IsErrAnd a (λ d. d ≡ e)
    → (k ≡ 0 → ⊥) × (a ≡ refused_by k)
refused_on p h q = given_back (stopped p h) q

-- the same of an answer that the tests settle
pub settled_err : {A : Type 0} (k : ℕ) (a : A) {e : Refusal} → settle k (Ok a) (refused_by k) ≡ Err e → (k ≡ 0 → ⊥) × (e ≡ named k)
settled_err zero a h = absurd (cc)
settled_err (suc k) a h = (λ z. absurd (omega (arith, z)), cc)

pub settled_ok : {A : Type 0} (k : ℕ) (a : A) {b : A} → settle k (Ok a) (refused_by k) ≡ Ok b → (k ≡ 0) × (b ≡ a)
settled_ok zero a h = (refl, cc)
settled_ok (suc k) a h = absurd (cc)

-- the number of such an answer: one of l where the tests refuse by r, one of the documents' numbers, and else one of l or m
pub answer_among : {A : Type 0} {B : Type 0} (answer : A → Result B Refusal) (r : ℕ) (good bad : A) (l m : List ℕ) → list_all is_number l ≡ true → Memᴰ r l
    → answer bad ≡ refused_by r → Memᴰ (number_of (answer good)) (l ++ m) → Memᴰ (number_of (answer (settle r good bad))) (l ++ m)
answer_among answer zero good bad l m h k e g = g
answer_among answer (suc r) good bad l m h k e g =
    Memᴰ.cast (ap number_of e ∙ number_judged l h k) (Memᴰ.append_left m k)

-- ---- a call that asks its first tests with `?`, and then the later ones

-- no test has the number 0
abbrev all_refuse : List Test → Bool
all_refuse rs = list_all (λ (r : Test). not (eqb r.number 0)) rs

first_append : (rs later : List Test) → all_refuse rs ≡ true → first_of (rs ++ later) ≡ settle (first_of rs) (first_of later) (first_of rs)
unfolding first_of
first_append [] later h = refl
first_append (r ∷ rs) later h =
    go r.holds r.number (and_first (not (eqb r.number 0)) (all_refuse rs) h) (first_append rs later (and_second (not (eqb r.number 0)) (all_refuse rs) h))
  where
    go : (t : Bool) (k : ℕ) → not (eqb k 0) ≡ true → first_of (rs ++ later) ≡ settle (first_of rs) (first_of later) (first_of rs)
        → cond t k (first_of (rs ++ later)) ≡ settle (cond t k (first_of rs)) (first_of later) (cond t k (first_of rs))
    go true zero q e = absurd (cc)
    go true (suc k) q e = refl
    go false k q e = e

pub first_asked : (rs later : List Test) {r a : Result ⊤ Refusal} {e : Refusal} → all_refuse rs ≡ true → r ≡ judged (first_of rs) → r ≡ Err e → IsErrAnd a (λ d. d ≡ e)
    → a ≡ judged (first_of (rs ++ later))
first_asked rs later h p q d =
    let s = refused_on p q d in
    s.1 ∙ go (first_of rs) s.0 ∙ ap judged (sym (first_append rs later h))
  where
    go : (k : ℕ) → (k ≡ 0 → ⊥) → refused_by k ≡ judged (settle k (first_of later) k)
    go zero n = absurd (n refl)
    go (suc k) n = refl

pub then_asked : (rs later : List Test) {r a : Result ⊤ Refusal} {u : ⊤} → all_refuse rs ≡ true → r ≡ judged (first_of rs) → r ≡ Ok u → a ≡ judged (first_of later)
    → a ≡ judged (first_of (rs ++ later))
then_asked rs later h p q d = d ∙ ap judged (sym (first_append rs later h ∙ rw (passed p q) refl))
