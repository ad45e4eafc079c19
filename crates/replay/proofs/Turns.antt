-- The loop of a replay: one call, all calls so far, and all.
use Rattle.std.specs.Prelude.{Some, None}
use mathlib.Core.Path.{◌≡◌, refl, sym, ap, subst, ◌∙◌}
use mathlib.Core.Bool.{true, false, false≢true}
use mathlib.Core.List.{List, ◌++◌}
use Prim.Native.Nat.{ℕ, ◌+◌, ◌-◌, ◌*◌, ◌≤◌, ◌<◌}
use native.Mathlib.Nat.{zero-add}
use native.Mathlib.Omega.{arith}
use borrow.Author.Tests.{le-ltb}
use lib.ListN.{length, get_or, take, drop}
use lib.Ieee.{Float, nan}
use Rattle.loops.specs.Fold.{fold}
use Rattle.loops.specs.FoldLaws.{fold_table}
use Rattle.loops.specs.Places.{table}
use Rattle.loops.specs.PlaceLaws.{length_table}
use Rattle.runs.specs.Runs.{replies as replies_of}
use Rattle.runs.specs.RunLaws.{length_replies, replies_table}
use Rattle.lent.specs.Written.{over}
use Rattle.book.specs.Refusals.{open_refusal}
use Rattle.refusal.specs.Refusals.{first_of}
use Rattle.book.specs.Calls.{Answer, Is, State, state_of, book_of, book_after, open_out}
use Rattle.samples.specs.Columns.{Columns, no_columns, Column}
use Rattle.settings.specs.declared.Settings.{Settings}
use Rattle.reporting.specs.declared.Places.{Places}
use Rattle.report.specs.Reports.{report_out}
use Rattle.reporting.specs.Outputs.{Outputs, places_of}
use Rattle.refusal.specs.Tests.{any_short}
use Rattle.ledger.specs.Ledger.{Call, Reply, next, reply, program, final, program_replies, opened}
use Rattle.ledger.specs.ReadCalls.{ReadCall, Told, read_on}
use Rattle.ledger.proofs.Book.{whole_book}
use Rattle.replay.specs.declared.Done.{Done}
use Rattle.replay.specs.Records.{settings_at, places_at, call_of, call_at, call_count, calls_of, well_formed}
use Rattle.replay.specs.Replay.{Memory, Ran, ReplayIs, buffers_in, results_of, written_of, over_at, write_all, put_results, put_outputs}
use Rattle.replay.specs.Steps.{results_in, change_record, Changed, Reported, Turned}
use Rattle.replay.proofs.Laws.{window_over, write_snoc}
use Rattle.replay.proofs.Calling.{change_count, report_count, report_results_lem, nothing_else, is_report_lem}
use Rattle.replay.proofs.Rooms.{Formed, formed}

-- ---- one call

module _ (kinds words : List ℕ) (numbers : List Float) (width k n : ℕ) (m : Memory) (settings : Settings) (places : Places)
    (is : settings ≡ settings_at kinds words numbers k) (ip : places ≡ places_at words k) (d : Done) (out : List ℕ)
    (put : out ≡ over (results_in d) (take (5 * k + 5 - 5 * k) (drop (5 * k) m.results))) (kept : length out ≡ length (take (5 * k + 5 - 5 * k) (drop (5 * k) m.results)))
  where
    -- the results, put back
    abbrev back : List ℕ
    back = take (5 * k) m.results ++ (out ++ drop (5 * k + 5 - 5 * k) (drop (5 * k) m.results))

    back_is : back ≡ over_at (5 * k) (results_in d) m.results
    back_is = window_over (5 * k) (5 * k + 5 - 5 * k) (results_in d) m.results out put kept

    pub turned_change : (left : Columns) (t : List Float) → get_or kinds (5 * k) 0 < 3
        → Changed (state_of n m.columns m.sums)
        (call_of (get_or kinds (5 * k) 0) (get_or words (9 * k) 0) (get_or numbers (5 * k) nan) (get_or numbers (5 * k + 1) nan) (get_or numbers (5 * k + 2) nan) settings places) d left t
        → Turned (call_at kinds words numbers k) width k n d.count m (record { columns = left; sums = t; results = back; outputs = m.outputs })
    unfolding call_at
    turned_change left t h c =
        rw (← is, ← ip)
        (record {
          state = c.state;
          results = back_is ∙ ap (λ v. over_at (5 * k) v m.results) c.results;
          outputs = nothing_else _ _ _ _ _ settings places h (state_of n m.columns m.sums) (width * k) m.outputs;
        })

    pub turned_report : (w : Outputs) → 3 ≤ get_or kinds (5 * k) 0
        → Reported n (width * k) (report_out n settings m.columns m.sums places) d (record { found = m.outputs; left = w })
        → Turned (call_at kinds words numbers k) width k n d.count m (record { columns = m.columns; sums = m.sums; results = back; outputs = w })
    unfolding call_at next reply read_on results_of written_of
    turned_report w h r =
        let o = report_out n settings m.columns m.sums places in
        let q = is_report_lem (get_or kinds (5 * k) 0) (get_or words (9 * k) 0) (get_or numbers (5 * k) nan) (get_or numbers (5 * k + 1) nan) (get_or numbers (5 * k + 2) nan) settings places h in
        let e = ap (λ (z : Done). z.count) r.done ∙ report_count n o.answer in
        rw (← is, ← ip, q)
        (record {
          state = λ i. state_of (e i) m.columns m.sums;
          results = back_is ∙ ap (λ v. over_at (5 * k) v m.results) (ap results_in r.done ∙ report_results_lem n o.answer);
          outputs = r.wrote;
        })

-- ---- the calls so far

-- memory b that holds what the first k calls write gets what the next one writes
written_more : {W : Type 0} (put : ℕ → Reply Told → W → W) (s₀ s : State) (g : ℕ → Call ReadCall) (k : ℕ) → s ≡ final s₀ (table g k) → (b₀ b b' : W)
    → b ≡ write_all put 0 (program_replies read_on s₀ (table g k)) b₀ → b' ≡ put k (reply read_on s (g k)) b
    → b' ≡ write_all put 0 (program_replies read_on s₀ (table g (k + 1))) b₀
written_more put s₀ s g k q b₀ b b' e h =
    let rs = program_replies read_on s₀ (table g k) in
    let r = reply read_on (final s₀ (table g k)) (g k) in
    let at : k ≡ 0 + length rs = sym (zero-add (length rs) ∙ length_replies (program read_on) s₀ (table g k) ∙ length_table g k) in
    h
    ∙ ap (λ z. put k (reply read_on z (g k)) b) q
    ∙ ap (put k r) e
    ∙ ap (λ i. put i r (write_all put 0 rs b₀)) at
    ∙ sym (write_snoc put 0 rs r b₀)
    ∙ ap (λ l. write_all put 0 l b₀) (sym (replies_table (program read_on) s₀ g k))

-- lent memory keeps its lengths
pub record Same (m m' : Memory) : Type 0 where
  pub columns : (k : Column) → length (m'.columns k) ≡ length (m.columns k)
  pub sums : length m'.sums ≡ length m.sums
  pub results : length m'.results ≡ length m.results
  pub outputs : places_of m'.outputs ≡ places_of m.outputs

abbrev pub with_sums : Memory → List Float → Memory
with_sums m t = record { columns = m.columns; sums = t; results = m.results; outputs = m.outputs }

-- buffers that hold a list of calls still do, when the sums are t of the same length, and then all is m'
pub still_formed : (kinds words : List ℕ) (numbers : List Float) (width : ℕ) (m : Memory) (t : List Float) (m' : Memory) → length t ≡ length m.sums
    → Same (with_sums m t) m' → well_formed kinds words numbers width (buffers_in m) ≡ true → Formed kinds words numbers width (buffers_in m')
still_formed kinds words numbers width m t m' e s h =
    let path : buffers_in m ≡ buffers_in m' =
    λ i. record { sums = sym (s.sums ∙ e) i; results = sym s.results i; outputs = sym s.outputs i } in
    formed kinds words numbers width (buffers_in m') (subst (λ b. well_formed kinds words numbers width b ≡ true) path h)

-- k calls are done: from the state s₀ and the memory m₀, they left n and m
pub record Upto (kinds words : List ℕ) (numbers : List Float) (width : ℕ) (s₀ : State) (m₀ : Memory) (n : ℕ) (m : Memory) (k : ℕ) : Type 0 where
  pub upto : k ≤ call_count kinds
  pub same : Same m₀ m
  pub state : state_of n m.columns m.sums ≡ final s₀ (table (call_at kinds words numbers) k)
  pub results : m.results ≡ write_all put_results 0 (program_replies read_on s₀ (table (call_at kinds words numbers) k)) m₀.results
  pub outputs : m.outputs ≡ write_all (put_outputs width) 0 (program_replies read_on s₀ (table (call_at kinds words numbers) k)) m₀.outputs

module _ (kinds words : List ℕ) (numbers : List Float) (width : ℕ) where
  pub none : (n : ℕ) (m : Memory) → Upto kinds words numbers width (state_of n m.columns m.sums) m n m 0
  unfolding table fold replies_of write_all
  none n m =
      record { upto = omega arith; same = record { columns = λ k. refl; sums = refl; results = refl; outputs = refl }; state = refl; results = refl; outputs = refl }

  pub more : (s₀ : State) (m₀ : Memory) (n : ℕ) (m : Memory) (k : ℕ) → Upto kinds words numbers width s₀ m₀ n m k → k < call_count kinds
      → (n' : ℕ) (m' : Memory) → Turned (call_at kinds words numbers k) width k n n' m m' → Same m m' → Upto kinds words numbers width s₀ m₀ n' m' (k + 1)
  more s₀ m₀ n m k u h n' m' t l =
      let g = call_at kinds words numbers in
      let s = state_of n m.columns m.sums in
      let q = u.same in
      record {
        upto = omega arith;
        same =
            record { columns = λ k. l.columns k ∙ q.columns k; sums = l.sums ∙ q.sums; results = l.results ∙ q.results; outputs = l.outputs ∙ q.outputs };
        state = t.state ∙ ap (λ z. next z (g k)) u.state ∙ sym (fold_table next s₀ g k);
        results = written_more put_results s₀ s g k u.state m₀.results m.results m'.results u.results t.results;
        outputs = written_more (put_outputs width) s₀ s g k u.state m₀.outputs m.outputs m'.outputs u.outputs t.outputs;
      }

-- ---- all calls are done

open_book_lem : (t : List Float) → 272 ≤ length t → (open_out t).answer ≡ book_of 0
unfolding open_out open_refusal first_of any_short
open_book_lem t h = rw (le-ltb (length t) 272 h)

module _ (kinds words : List ℕ) (numbers : List Float) (width : ℕ) (m : Memory) where
  -- from a book just opened
  from_opened : (n : ℕ) (t : List Float) (m' : Memory) → Upto kinds words numbers width (opened m.columns m.sums) (with_sums m t) n m' (call_count kinds)
      → 272 ≤ length m.sums → Ran (calls_of kinds words numbers) width n m m'
  unfolding calls_of
  from_opened n t m' u h =
      let cs = calls_of kinds words numbers in
      let whole = whole_book m.columns m.sums (open_book_lem m.sums h) cs in
      let e = whole.agrees.answered in
      record {
        whole = whole;
        book = ap (λ (z : State). z.count) u.state ∙ whole.agrees.book;
        columns = ap (λ (z : State). z.columns) u.state;
        sums = ap (λ (z : State). z.sums) u.state;
        results = u.results ∙ ap (λ rs. write_all put_results 0 rs m.results) e;
        outputs = u.outputs ∙ ap (λ rs. write_all (put_outputs width) 0 rs m.outputs) e;
      }

  -- r is what open answers, and t what it leaves of the sums
  pub all : (r : Answer) (t : List Float) → Is (open_out m.sums) r no_columns t → (n₀ : ℕ) → n₀ ≡ (change_record 0 r).count → (n : ℕ) (m' : Memory) (k : ℕ)
      → Upto kinds words numbers width (state_of n₀ m.columns t) (with_sums m t) n m' k → k ≡ call_count kinds → 272 ≤ length m.sums
      → Ran (calls_of kinds words numbers) width n m m'
  all r t o n₀ e n m' k u q h =
      let c = e ∙ change_count 0 r ∙ ap (book_after 0) o.answer in
      let s : state_of n₀ m.columns t ≡ opened m.columns m.sums = λ i. state_of (c i) m.columns (o.sums i) in
      from_opened n t m'
      (subst (λ z. Upto kinds words numbers width z (with_sums m t) n m' (call_count kinds)) s (subst (λ j. Upto kinds words numbers width (state_of n₀ m.columns t) (with_sums m t) n m' j) q u)) h

-- ---- the promise of `replay`

module _ (kinds words : List ℕ) (numbers : List Float) (width : ℕ) (m : Memory) where
  pub replay_malformed : well_formed kinds words numbers width (buffers_in m) ≡ false
      → ReplayIs kinds words numbers width (record { found = m; left = m }) None
  replay_malformed e = record { malformed = λ h. (refl, refl); ran = λ h. absurd (false≢true (sym e ∙ h)) }

  pub replay_ran : well_formed kinds words numbers width (buffers_in m) ≡ true → (n : ℕ) (m' : Memory) → Ran (calls_of kinds words numbers) width n m m'
      → ReplayIs kinds words numbers width (record { found = m; left = m' }) (Some (record { count = n }))
  replay_ran e n m' r = record { malformed = λ h. absurd (false≢true (sym h ∙ e)); ran = λ h. record { count = n; answer = refl; ran = r } }
