-- Demand 3 for a two-column book: what holds of the book with weights, seen without them.
use mathlib.Core.Path.{◌≡◌, refl, sym, ap, subst, fun_ext, ◌∙◌}
use mathlib.Core.List.{List, [], ◌∷◌, map, map-map}
use Prim.Native.Nat.{ℕ, zero, suc}
use native.Mathlib.Omega.{arith}
use lib.ListN.{length, get_or, take, drop, length-map, length-replicate}
use lib.Ieee.{Float, nan}
use Rattle.runs.specs.Runs.{replies as replies_of}
use Rattle.runs.specs.RunLaws.{agree, remembered}
use Rattle.value.specs.Numbers.{one_f}
use Rattle.refusal.specs.Named.{refused_by}
use Rattle.samples.specs.Columns.{Column, of_x, of_y, value}
use Rattle.book.specs.Refusals.{open_refusal}
use Rattle.book.specs.RefusalLaws.{open_room}
use Rattle.book.specs.Calls.{book_of}
use Rattle.book.specs.Calls as book
use Rattle.ledger.specs.Ledger.{Lent, lent_by, seen}
use Rattle.ledger.specs.Ledger as whole
use Rattle.ledger.proofs.Lists.{seen_is, seen_kept, sums_first, sums_rest}
use Rattle.ledger.proofs.Steps.{Holds, Leaves, step}
use Rattle.ledger.proofs.Whole.{empty_state, opened_holds}
use Rattle.two_column.specs.declared.Pair.{Pair}
use Rattle.two_column.specs.Pairs.{at_weight_one, Columns}
use Rattle.two_column.specs.PairLaws.{sums_of_pairs}
use Rattle.two_column.specs.RefusalLaws.{capacity_two}
use Rattle.two_column.specs.Calls.{State, open_out}
use Rattle.two_column.specs.Ledger.{Change, next, answer, program, final, opened, lent_of, changed, refusal_of, ledger_next, ledger_answer, ledger, ledger_end, held, WholePairs}
use Rattle.two_column.proofs.Opening.{no_sums}
use Rattle.two_column.proofs.Weighted.{places, places_are, with_ones, weighted_state, weighted_change, refusal_at_one, out_at_one, changed_at_one}

-- xs, ys and sums are the lengths of the lent memory, rest what the sums hold past the 272
module _ (xs ys sums : ℕ) (rest : List Float) where
  abbrev pub two : Lent
  two = record { columns = xs ∷ ys ∷ []; sums = sums }

  abbrev pub three : Lent
  three = record { columns = xs ∷ ys ∷ 4096 ∷ []; sums = sums }

  -- the book holds the ledger: with a column of ones, it holds the ledger at weight 1
  abbrev pub HoldsPairs : State → List Pair → Type 0
  HoldsPairs s l = Holds three rest (map at_weight_one l) (weighted_state s)

  pub record Step (s : State) (l : List Pair) (c : Change) : Type 0 where
    pub leaves : Leaves three rest (weighted_state s) (map at_weight_one (ledger_next two l c)) (weighted_state (next s c))
    pub same : answer s c ≡ ledger_answer two l c

  -- one call, on both sides
  pub step_pairs : (s : State) (l : List Pair) (c : Change) → HoldsPairs s l → Step s l c
  step_pairs s l c h = go (refusal_of two (length l) c) refl
    where
      -- the same number refuses
      number : whole.refusal_of three (length (map at_weight_one l)) (weighted_change c) ≡ refusal_of two (length l) c
      number = ap (λ n. whole.refusal_of three n (weighted_change c)) (length-map l at_weight_one) ∙ refusal_at_one (length l) (xs ∷ ys ∷ 4096 ∷ []) (xs ∷ ys ∷ []) sums (capacity_two xs ys) c

      after : book.state_after s.count (whole.out_of (weighted_state s) (weighted_change c)) ≡ weighted_state (next s c)
      after = ap (book.state_after s.count) (out_at_one s c)

      go : (k : ℕ) → refusal_of two (length l) c ≡ k → Step s l c
      go zero z =
          let w = step three rest (map at_weight_one l) (weighted_state s) h (weighted_change c) in
          let t = changed_at_one three two (length l) l c z in
          record {
            leaves = rw z (subst (λ (u : book.State). Leaves three rest (weighted_state s) (map at_weight_one (changed l c)) u) after (rw (number, z, t) at w.leaves));
            same = rw z (ap (λ (o : book.Out). o.answer) (sym (out_at_one s c)) ∙ (rw (number, z, t) at w.answer) ∙ ap book_of (length-map (changed l c) at_weight_one));
          }
      go (suc k) z =
          let w = step three rest (map at_weight_one l) (weighted_state s) h (weighted_change c) in
          record {
            leaves = rw z (subst (λ (u : book.State). Leaves three rest (weighted_state s) (map at_weight_one l) u) after (rw (number, z) at w.leaves));
            same = rw z (ap (λ (o : book.Out). o.answer) (sym (out_at_one s c)) ∙ (rw (number, z) at w.answer));
          }

  -- any list of calls
  pub pairs_from : (s : State) (l : List Pair) → HoldsPairs s l → (cs : List Change)
      → (replies_of program s cs ≡ replies_of (ledger two) l cs) × HoldsPairs (final s cs) (ledger_end two l cs)
  pairs_from s l h cs = agree program (ledger two) HoldsPairs (λ t k c g. let w = step_pairs t k c g in (w.same, w.leaves.holds)) s l h cs

  -- a place of a column, where f is a pair's value for it
  place_from : (k : Column) (f : Pair → Float) → ((p : Pair) → value k (at_weight_one p) ≡ f p) → (p : ℕ) (s : State) (l : List Pair) → HoldsPairs s l → (cs : List Change)
      → get_or (with_ones (final s cs).columns k) p nan ≡ held f (get_or (with_ones s.columns k) p nan) two l cs p
  place_from k f e p =
      remembered next (ledger_next two) HoldsPairs (λ t j c g. (step_pairs t j c g).leaves.holds)
      (λ t. get_or (with_ones t.columns k) p nan) (λ v j. seen v (map f j) p)
      (λ t j g. seen_is (map f j) (with_ones t.columns k) p (rw (length-map j f) (counted t j g ∙ values j)))
      (λ t j c g.
      let z = (step_pairs t j c g).leaves in
      let j' = ledger_next two j c in
      seen_kept (map f j') (with_ones (next t c).columns k) (with_ones t.columns k) p
      (ap (λ n. drop n (with_ones (next t c).columns k)) (long j' z.holds) ∙ z.keeps k ∙ ap (λ n. drop n (with_ones t.columns k)) (sym (long j' z.holds))))
    where
      values : (j : List Pair) → map (value k) (map at_weight_one j) ≡ map f j
      values j = map-map (value k) at_weight_one j ∙ ap (λ (g : Pair → Float). map g j) (fun_ext e)

      long : {t : book.State} (j : List Pair) → Holds three rest (map at_weight_one j) t → length (map f j) ≡ t.count
      long j g = length-map j f ∙ sym (length-map j at_weight_one) ∙ sym g.count

      counted : (t : State) (j : List Pair) → HoldsPairs t j → take (length j) (with_ones t.columns k) ≡ map (value k) (map at_weight_one j)
      counted t j g = ap (λ n. take n (with_ones t.columns k)) (sym (length-map j at_weight_one) ∙ sym g.count) ∙ g.below k

-- ---- a book just opened

-- an open that answers the book was not refused
pub not_refused_lem : (sums : List Float) (k : ℕ) → open_refusal (length sums) ≡ k → (open_out sums).answer ≡ book_of 0 → k ≡ 0
unfolding open_out
not_refused_lem sums zero e h = refl
not_refused_lem sums (suc k) e h =
    let w : refused_by (suc k) ≡ book_of 0 = rw e at h in
    let z : ◌≡◌ {A = ℕ} 0 1 = cc in
    absurd (omega arith)

begun : (c : Columns) (sums : List Float) → open_refusal (length sums) ≡ 0 → empty_state (with_ones c) sums ≡ weighted_state (opened c sums)
unfolding open_out
begun c sums e = rw (e, no_sums) refl

-- it holds the empty ledger
pub opened_pairs : (c : Columns) (sums : List Float) → (open_out sums).answer ≡ book_of 0
    → HoldsPairs (length c.xs) (length c.ys) (length sums) (drop 272 sums) (opened c sums) []
opened_pairs c sums h =
    let e = not_refused_lem sums (open_refusal (length sums)) refl h in
    let n = length-replicate places one_f ∙ places_are in
    subst (λ (u : book.State). Holds (record { columns = length c.xs ∷ length c.ys ∷ 4096 ∷ []; sums = length sums }) (drop 272 sums) [] u) (begun c sums e)
    (subst (λ (k : ℕ). Holds (record { columns = length c.xs ∷ length c.ys ∷ k ∷ []; sums = length sums }) (drop 272 sums) [] (empty_state (with_ones c) sums)) n
    (opened_holds (with_ones c) sums (open_room (length sums) e)))

pub whole_pairs : (c : Columns) (sums : List Float) → (open_out sums).answer ≡ book_of 0 → (cs : List Change) → WholePairs c sums cs
whole_pairs c sums h cs =
    let xs = length c.xs in
    let ys = length c.ys in
    let rest = drop 272 sums in
    let s = opened c sums in
    let l = ledger_end (lent_of c sums) [] cs in
    let w = pairs_from xs ys (length sums) rest s [] (opened_pairs c sums h) cs in
    let end = w.1 in
    record {
      answered = w.0;
      book = end.count ∙ length-map l at_weight_one;
      below_x = end.below of_x ∙ map-map (value of_x) at_weight_one l;
      below_y = end.below of_y ∙ map-map (value of_y) at_weight_one l;
      sums = sums_first (map at_weight_one l) rest (final s cs).sums end.sums ∙ sums_of_pairs l;
      places_x = λ p. place_from xs ys (length sums) rest of_x (λ (q : Pair). q.x) (λ q. refl) p s [] (opened_pairs c sums h) cs;
      places_y = λ p. place_from xs ys (length sums) rest of_y (λ (q : Pair). q.y) (λ q. refl) p s [] (opened_pairs c sums h) cs;
      past = sums_rest (map at_weight_one l) rest (final s cs).sums end.sums;
      lent = λ i. record { columns = take 2 (end.lent i).columns; sums = (end.lent i).sums };
    }
