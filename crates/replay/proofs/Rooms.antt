-- Buffers that hold a list of calls have room for each: its record, its results, and its windows.
use mathlib.Core.Path.{◌≡◌, refl, ap}
use mathlib.Core.Bool.{Bool, true, false, ◌&&◌, ◌||◌}
use mathlib.Core.List.{List}
use Prim.Native.Nat.{ℕ, zero, suc, ◌+◌, ◌*◌, ◌/◌, ◌≤◌, ◌<◌}
use native.Mathlib.Nat.{zero-mul, mul-suc, mul-le-mul_left, mul-div-le}
use native.Mathlib.Omega.{arith}
use borrow.Author.Tests.{leb-true, eqb-true}
use lib.Dec.{leb, eqb}
use lib.ListN.{length}
use lib.Ieee.{Float}
use Rattle.loops.specs.Fold.{all_of}
use Rattle.loops.specs.FoldLaws.{all_cons}
use Rattle.loops.specs.Places.{table}
use Rattle.reporting.specs.declared.Places.{Places}
use Rattle.replay.specs.declared.Buffers.{Buffers}
use Rattle.replay.specs.Records.{places_at, call_count, holds, holds_all, fits_in, all_fit, has_room, well_formed}
use Rattle.replay.specs.Replay.{Memory, buffers_in}
use Rattle.replay.specs.Steps.{Stands, Windows}

and_both : (a b : Bool) → a && b ≡ true → (a ≡ true) × (b ≡ true)
and_both true b h = (refl, h)
and_both false b h = absurd (let z : ◌≡◌ {A = ℕ} 0 1 = cc in omega arith)

-- ---- of the tests, their parts

record HeldAll (width m : ℕ) (p : Places) : Type 0 where
  scratch : holds width m p.scratch ≡ true
  coefficients : holds width m p.coefficients ≡ true
  errors : holds width m p.errors ≡ true
  pruned : holds width m p.pruned ≡ true
  lower : holds width m p.lower ≡ true
  upper : holds width m p.upper ≡ true
  outliers : holds width m p.outliers ≡ true

held_all : (width m : ℕ) (p : Places) → holds_all width m p ≡ true → HeldAll width m p
unfolding holds_all
held_all width m p h =
    let o = and_both _ (holds width m p.outliers) h in
    let u = and_both _ (holds width m p.upper) o.0 in
    let l = and_both _ (holds width m p.lower) u.0 in
    let b = and_both _ (holds width m p.pruned) l.0 in
    let e = and_both _ (holds width m p.errors) b.0 in
    let c = and_both (holds width m p.scratch) (holds width m p.coefficients) e.0 in
    record { scratch = c.0; coefficients = c.1; errors = e.1; pruned = b.1; lower = l.1; upper = u.1; outliers = o.1 }

record Roomy (m words numbers width : ℕ) (b : Buffers) : Type 0 where
  word : m ≤ words / 9
  number : m ≤ numbers / 5
  results : m ≤ b.results / 5
  sums : 272 ≤ b.sums
  outputs : HeldAll width m b.outputs

roomy : (m words numbers width : ℕ) (b : Buffers) → has_room m words numbers width b ≡ true → Roomy m words numbers width b
unfolding has_room
roomy m words numbers width b h =
    let w = and_both _ (holds_all width m b.outputs) h in
    let t = and_both _ (leb 272 b.sums) w.0 in
    let r = and_both _ (leb m (b.results / 5)) t.0 in
    let n = and_both (leb m (words / 9)) (leb m (numbers / 5)) r.0 in
    record {
      word = leb-true _ _ n.0;
      number = leb-true _ _ n.1;
      results = leb-true _ _ r.1;
      sums = leb-true _ _ t.1;
      outputs = held_all width m b.outputs w.1;
    }

-- the words hold m records
pub words_room : (m words numbers width : ℕ) (b : Buffers) → has_room m words numbers width b ≡ true → 9 * m ≤ words
words_room m words numbers width b h = omega (arith, (roomy m words numbers width b h).word)

pub record Formed (kinds words : List ℕ) (numbers : List Float) (width : ℕ) (b : Buffers) : Type 0 where
  room : Roomy (call_count kinds) (length words) (length numbers) width b
  fit : all_fit words width (call_count kinds) ≡ true

module _ (kinds words : List ℕ) (numbers : List Float) (width : ℕ) (b : Buffers) where
  pub formed : well_formed kinds words numbers width b ≡ true → Formed kinds words numbers width b
  unfolding well_formed
  formed h =
      let f = and_both _ (all_fit words width (call_count kinds)) h in
      record { room = roomy (call_count kinds) (length words) (length numbers) width b f.0; fit = f.1 }

  pub sums_room : well_formed kinds words numbers width b ≡ true → 272 ≤ b.sums
  sums_room h = (formed h).room.sums

record Fit (width : ℕ) (p : Places) : Type 0 where
  scratch : p.scratch ≤ width
  coefficients : p.coefficients ≤ width
  errors : p.errors ≤ width
  pruned : p.pruned ≤ width
  lower : p.lower ≤ width
  upper : p.upper ≤ width
  outliers : p.outliers ≤ width

fit_parts : (width : ℕ) (p : Places) → fits_in width p ≡ true → Fit width p
unfolding fits_in
fit_parts width p h =
    let o = and_both _ (leb p.outliers width) h in
    let u = and_both _ (leb p.upper width) o.0 in
    let l = and_both _ (leb p.lower width) u.0 in
    let b = and_both _ (leb p.pruned width) l.0 in
    let e = and_both _ (leb p.errors width) b.0 in
    let c = and_both (leb p.scratch width) (leb p.coefficients width) e.0 in
    record {
      scratch = leb-true _ _ c.0;
      coefficients = leb-true _ _ c.1;
      errors = leb-true _ _ e.1;
      pruned = leb-true _ _ b.1;
      lower = leb-true _ _ l.1;
      upper = leb-true _ _ u.1;
      outliers = leb-true _ _ o.1;
    }

-- a test that passes at all of a table passes at the k-th
all_at : {A : Type 0} (f : A → Bool) (g : ℕ → A) (m k : ℕ) → all_of f (table g m) ≡ true → k < m → f (g k) ≡ true
unfolding table
all_at f g zero k h q = absurd (omega arith)
all_at f g (suc m) zero h q = (all_cons f (g 0) (table (λ i. g (suc i)) m) h).0
all_at f g (suc m) (suc k) h q = all_at f (λ i. g (suc i)) m k (all_cons f (g 0) (table (λ i. g (suc i)) m) h).1 (omega arith)

-- ---- room

-- m records of n places each
record_room : (n m k l : ℕ) → m ≤ l / n → k < m → n * k + n ≤ l
record_room n m k l h q =
    let a : suc k ≤ l / n = omega arith in
    omega (arith, mul-suc n k, mul-le-mul_left n a, mul-div-le l n)

-- m windows
window_room : (width m k n l : ℕ) → holds width m l ≡ true → k < m → n ≤ width → width * k + n ≤ l
window_room width m k n l h q f = go (eqb width 0) refl h
  where
    go : (t : Bool) → eqb width 0 ≡ t → t || leb m (l / width) ≡ true → width * k + n ≤ l
    go true e r =
        let z : width ≡ 0 = eqb-true width 0 e in
        omega (arith, ap (λ v. v * k) z, zero-mul k)
    go false e r = omega (arith, record_room width m k l (leb-true m (l / width) r) q)

module _ (kinds words : List ℕ) (numbers : List Float) (width k : ℕ) (m : Memory) (h : Formed kinds words numbers width (buffers_in m)) (q : k < call_count kinds)
  where
    pub stands : Stands kinds words numbers k
    stands =
        record {
          kind = record_room 5 (call_count kinds) k (length kinds) (omega arith) q;
          word = record_room 9 (call_count kinds) k (length words) h.room.word q;
          number = record_room 5 (call_count kinds) k (length numbers) h.room.number q;
        }

    pub results_room : 5 * k + 5 ≤ length m.results
    results_room = record_room 5 (call_count kinds) k (length m.results) h.room.results q

    pub windows : Windows (width * k) (places_at words k) m.outputs
    unfolding all_fit
    windows =
        let n = call_count kinds in
        let p = places_at words k in
        let f = fit_parts width p (all_at (fits_in width) (places_at words) n k h.fit q) in
        record {
          scratch = window_room width n k p.scratch (length m.outputs.scratch) h.room.outputs.scratch q f.scratch;
          coefficients = window_room width n k p.coefficients (length m.outputs.coefficients) h.room.outputs.coefficients q f.coefficients;
          errors = window_room width n k p.errors (length m.outputs.errors) h.room.outputs.errors q f.errors;
          pruned = window_room width n k p.pruned (length m.outputs.pruned) h.room.outputs.pruned q f.pruned;
          lower = window_room width n k p.lower (length m.outputs.lower) h.room.outputs.lower q f.lower;
          upper = window_room width n k p.upper (length m.outputs.upper) h.room.outputs.upper q f.upper;
          outliers = window_room width n k p.outliers (length m.outputs.outliers) h.room.outputs.outliers q f.outliers;
        }
