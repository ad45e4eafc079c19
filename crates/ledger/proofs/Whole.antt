-- The theorem over a list of calls: the definitions that the contracts promise, folded over any list of calls from a book just opened, agree with
-- the plain ledger.
use mathlib.Core.Path.{◌≡◌, refl, ap, subst, ◌∙◌}
use mathlib.Core.List.{List, [], ◌++◌, map}
use Prim.Native.Nat.{ℕ, zero, suc, ◌≤◌}
use native.Mathlib.Omega.{arith}
use lib.ListN.{length, get_or, take, drop, length-map, length-append, length-drop}
use lib.Ieee.{Float, nan}
use Rattle.refusal.specs.Named.{refused_by}
use Rattle.runs.specs.RunLaws.{agree, remembered}
use Rattle.samples.specs.declared.Sample.{Sample}
use Rattle.refusal.specs.Named.{refused_by}
use Rattle.monomial.specs.Sums.{sums_of}
use Rattle.monomial.specs.SumLaws.{length_sums}
use Rattle.book.specs.Refusals.{open_refusal}
use Rattle.book.specs.RefusalLaws.{open_room}
use Rattle.book.specs.Calls.{State, state_of, book_of, open_out}
use Rattle.samples.specs.Columns.{Column, value, Columns, lengths}
use Rattle.ledger.specs.Ledger.{Call, changes, reads, said, told, Reading, Lent, lent_of, next, reply, program, final, program_replies, opened, ledger_next, ledger_reply, ledger, ledger_end, ledger_replies, seen, held, Agrees, WholeList}
use Rattle.ledger.proofs.Lists.{seen_is, seen_kept, sums_first, sums_rest}
use Rattle.ledger.proofs.Steps.{Holds, Leaves, leaves_all, held_by_lem, step}

module _ {R W : Type 0} (read_on : Reading R W) (m : Lent) (rest : List Float) where
  -- one call, on both sides
  pub leaves_next : (s : State) (l : List Sample) (c : Call R) → Holds m rest l s → Leaves m rest s (ledger_next m l c) (next s c)
  unfolding next ledger_next
  leaves_next s l (changes c) h = (step m rest l s h c).leaves
  leaves_next s l (reads q) h = leaves_all m rest l s h

  pub reply_next : (s : State) (l : List Sample) (c : Call R) → Holds m rest l s → reply read_on s c ≡ ledger_reply read_on m l c
  unfolding reply ledger_reply
  reply_next s l (changes c) h = ap said (step m rest l s h c).answer
  reply_next s l (reads q) h =
      let e = held_by_lem l s h.count h.below in
      let t = sums_first l rest s.sums h.sums in
      λ i. told (read_on q (h.count i) (e i) (t i) (h.lent i).columns (h.lent i).sums)

  -- any list of calls, from a state that holds a ledger
  pub whole_from : (s : State) (l : List Sample) → Holds m rest l s → (cs : List (Call R))
      → (program_replies read_on s cs ≡ ledger_replies read_on m l cs) × Holds m rest (ledger_end m l cs) (final s cs)
  whole_from s l h cs =
      agree (program read_on) (ledger read_on m) (λ t k. Holds m rest k t) (λ t k c g. (reply_next t k c g, (leaves_next t k c g).holds)) s l h cs

  -- a place of a column
  place_from : (k : Column) (p : ℕ) (s : State) (l : List Sample) → Holds m rest l s → (cs : List (Call R))
      → get_or ((final s cs).columns k) p nan ≡ held (value k) (get_or (s.columns k) p nan) m l cs p
  place_from k p =
      remembered next (ledger_next m) (λ t j. Holds m rest j t) (λ t j c g. (leaves_next t j c g).holds)
      (λ t. get_or (t.columns k) p nan) (λ v j. seen v (map (value k) j) p)
      (λ t j g. seen_is (map (value k) j) (t.columns k) p (rw (length-map j (value k), ← g.count) (g.below k)))
      (λ t j c g.
      let z = leaves_next t j c g in
      let j' = ledger_next m j c in
      seen_kept (map (value k) j') ((next t c).columns k) (t.columns k) p (rw (length-map j' (value k), ← z.holds.count) (z.keeps k)))

-- ---- a book just opened

-- an open that answers the book was not refused
not_refused_lem : (sums : List Float) (k : ℕ) → open_refusal (length sums) ≡ k → (open_out sums).answer ≡ book_of 0 → k ≡ 0
unfolding open_out
not_refused_lem sums zero e h = refl
not_refused_lem sums (suc k) e h =
    let w : refused_by (suc k) ≡ book_of 0 = rw e at h in
    let z : ◌≡◌ {A = ℕ} 0 1 = cc in
    absurd (omega arith)

abbrev pub empty_state : Columns → List Float → State
empty_state columns sums = state_of 0 columns (sums_of [] ++ drop 272 sums)

pub opened_is : (columns : Columns) (sums : List Float) → open_refusal (length sums) ≡ 0 → empty_state columns sums ≡ opened columns sums
unfolding open_out
opened_is columns sums e = rw e

pub opened_holds : (columns : Columns) (sums : List Float) → 272 ≤ length sums → Holds (lent_of columns sums) (drop 272 sums) [] (empty_state columns sums)
opened_holds columns sums h =
    let t : length (sums_of [] ++ drop 272 sums) ≡ length sums =
    length-append (sums_of []) (drop 272 sums) ∙ omega (arith, length-drop 272 sums, length_sums []) in
    record {
      count = refl;
      lent = λ i. record { columns = lengths columns; sums = t i };
      room = omega arith;
      long = rw t h;
      below = none;
      sums = refl;
    }
  where
    none : (k : Column) → take 0 (columns k) ≡ map (value k) []
    none k = refl

-- so a book just opened holds the empty ledger
pub opened_now : (columns : Columns) (sums : List Float) → (open_out sums).answer ≡ book_of 0 → Holds (lent_of columns sums) (drop 272 sums) [] (opened columns sums)
opened_now columns sums h =
    let e = not_refused_lem sums (open_refusal (length sums)) refl h in
    subst (λ (t : State). Holds (lent_of columns sums) (drop 272 sums) [] t) (opened_is columns sums e) (opened_holds columns sums (open_room (length sums) e))

pub whole_list : {R W : Type 0} (read_on : Reading R W) → WholeList read_on
whole_list read_on columns sums h cs =
    let e = not_refused_lem sums (open_refusal (length sums)) refl h in
    let m = lent_of columns sums in
    let rest = drop 272 sums in
    let s = empty_state columns sums in
    let g = opened_holds columns sums (open_room (length sums) e) in
    let w = whole_from read_on m rest s [] g cs in
    subst (λ (t : State). Agrees read_on columns sums t [] cs) (opened_is columns sums e)
    (record {
      answered = w.0;
      book = w.1.count;
      below = w.1.below;
      sums = sums_first (ledger_end m [] cs) rest (final s cs).sums w.1.sums;
      places = λ k p. place_from read_on m rest k p s [] g cs;
      past = sums_rest (ledger_end m [] cs) rest (final s cs).sums w.1.sums;
      lent = w.1.lent;
    })
