-- E6's theorem. The two-column book holds a ledger of pairs, and after the carry the same ledger at weight 1; so does the book with weights from the start;
-- and two books that hold one ledger answer alike.
use mathlib.Core.Path.{◌≡◌, refl, sym, ap, subst, ◌∙◌}
use Rattle.std.specs.Prelude.{None, Some}
use mathlib.Core.List.{List, [], ◌∷◌, map}
use Prim.Native.Nat.{ℕ, zero, suc, ◌≤◌}
use native.Mathlib.Omega.{arith}
use lib.ListN.{length, get_or, take, drop, replicate, length-map, length-replicate, length-append, length-drop}
use lib.Seq.{take_at}
use lib.Ieee.{Float}
use Rattle.runs.specs.Runs.{sifted}
use Rattle.runs.specs.RunLaws.{sifts, no_call}
use Rattle.value.specs.Numbers.{one_f}
use Rattle.samples.specs.Columns.{Column, of_x, of_y, of_w, value, columns_of, lengths}
use Rattle.samples.specs.declared.Sample.{Sample}
use Rattle.samples.specs.Columns as three
use Rattle.samples.specs.ColumnLaws.{of_every}
use Rattle.refusal.specs.Refusals.{settle}
use Rattle.refusal.specs.Named.{refused_by}
use Rattle.refusal.specs.Tests.{capacity}
use Rattle.refusal.specs.RoomLaws.{room_of}
use Rattle.book.specs.Refusals.{open_refusal, sums_lent}
use Rattle.book.specs.RefusalLaws.{open_room}
use Rattle.book.specs.Calls.{Out, State, state_after, book_of}
use Rattle.ledger.specs.Ledger.{Call, changes, Lent, lent_by, lent_of, next, program, final, opened}
use Rattle.ledger.specs.Ledger as whole
use Rattle.ledger.specs.ReadCalls.{ReadCall, read_on}
use Rattle.ledger.proofs.Lists.{sums_first}
use Rattle.ledger.proofs.Steps.{Holds, step}
use Rattle.ledger.proofs.Whole.{whole_from, opened_holds, opened_is}
use Rattle.two_column.specs.declared.Pair.{Pair}
use Rattle.two_column.specs.Pairs.{at_weight_one}
use Rattle.two_column.specs.Calls as calls
use Rattle.two_column.specs.RefusalLaws.{capacity_longer, capacity_two, frame_room}
use Rattle.two_column.specs.Ledger.{Change, adds, corrects, withdraws, frames, answer, ledger_next, refusal_of, changed}
use Rattle.two_column.specs.Ledger as pairs
use Rattle.two_column.proofs.Weighted.{weighted_change, refusal_at_one, changed_at_one}
use Rattle.two_column.proofs.Whole.{HoldsPairs, two, step_pairs, pairs_from, opened_pairs, not_refused_lem}
use Rattle.carried.specs.Carry.{ones_below, carry_refusal, carried_columns, carry_out}
use Rattle.carried.specs.CarryLaws.{carry_taken}
use Rattle.carried.specs.Carried.{two_column, carry_from, carried, at_one, goes_on, not_refused, from_the_start, Alike, BooksOpenInSpring}

-- two books that hold one ledger answer alike
alike_from : (m : Lent) (rest rest' : List Float) (l : List Sample) (s t : State) → Holds m rest l s → Holds m rest' l t → (later : List (Call ReadCall)) → Alike s t later
alike_from m rest rest' l s t h g later =
    let a = whole_from read_on m rest s l h later in
    let b = whole_from read_on m rest' t l g later in
    let k = whole.ledger_end m l later in
    record {
      replies = a.0 ∙ sym b.0;
      count = a.1.count ∙ sym b.1.count;
      sums = sums_first k rest (final s later).sums a.1.sums ∙ sym (sums_first k rest' (final t later).sums b.1.sums);
      below = λ c. a.1.below c ∙ sym (b.1.below c);
    }

-- a call that is not refused is the same call at weight 1
at_one_is : (m : Lent) (n : ℕ) (c : Change) → refusal_of m n c ≡ 0 → weighted_change c ≡ at_one c
unfolding refusal_of
at_one_is m n (adds p) z = refl
at_one_is m n (corrects i y) z = refl
at_one_is m n (withdraws i) z = refl
at_one_is m n (frames f) z = rw (frame_room n m.columns m.sums f z).1 refl

-- ---- the lengths of the lent memory: those of the two columns and of the sums, and the weight column's

module _ (xs ys ws sums : ℕ) (same : capacity (xs ∷ ys ∷ ws ∷ []) ≡ capacity (xs ∷ ys ∷ [])) (rest rest' : List Float) where
  abbrev m : Lent
  m = record { columns = xs ∷ ys ∷ ws ∷ []; sums = sums }

  -- the two-column book and the book with weights hold one ledger
  pub record Both (s : calls.State) (t : State) : Type 0 where
    pub ledger : List Pair
    pub plain : HoldsPairs xs ys sums rest s ledger
    pub heavy : Holds m rest' (map at_weight_one ledger) t

  -- by whether the call is refused
  module _ (s : calls.State) (t : State) (c : Change) (b : Both s t) where
    number : ℕ
    number = refusal_of (two xs ys sums rest) (length b.ledger) c

    answered : answer s c ≡ settle number (book_of (length (changed b.ledger c))) (refused_by number)
    unfolding number
    answered = (step_pairs xs ys sums rest s b.ledger c b.plain).same

    -- refused, it leaves both as they were
    stays : (k : ℕ) → number ≡ suc k → Both (pairs.next s c) t
    unfolding number
    stays k e = record { ledger = b.ledger; plain = rw e at (step_pairs xs ys sums rest s b.ledger c b.plain).leaves.holds; heavy = b.heavy }

    -- else it changes both alike
    moves : number ≡ 0 → Both (pairs.next s c) (next {R = ReadCall} t (changes (at_one c)))
    unfolding number next
    moves e =
        let l = b.ledger in
        let n = ap (λ j. whole.refusal_of m j (weighted_change c)) (length-map l at_weight_one) ∙ refusal_at_one (length l) (xs ∷ ys ∷ ws ∷ []) (xs ∷ ys ∷ []) sums same c ∙ e in
        let w = (step m rest' (map at_weight_one l) t b.heavy (weighted_change c)).leaves.holds in
        let z = changed_at_one m (two xs ys sums rest) (length l) l c e in
        let is = at_one_is (two xs ys sums rest) (length l) c e in
        record {
          ledger = changed l c;
          plain = rw e at (step_pairs xs ys sums rest s l c b.plain).leaves.holds;
          heavy = subst (λ (d : whole.Change). Holds m rest' (map at_weight_one (changed l c)) (state_after t.count (whole.out_of t d))) is (rw (n, z) at w);
        }

  -- a call that is refused goes on to nothing
  skips : (s : calls.State) (t : State) (c : Change) → Both s t → goes_on (answer s c) c ≡ None → Both (pairs.next s c) t
  skips s t c b e = go (number s t c b) refl
    where
      go : (k : ℕ) → number s t c b ≡ k → Both (pairs.next s c) t
      go zero z = absurd (no_call _ (sym (ap (λ a. goes_on a c) (rw z at (answered s t c b))) ∙ e))
      go (suc k) z = stays s t c b k z

  -- one that is not goes on to itself at weight 1
  meets : (s : calls.State) (t : State) (c : Change) (d : Call ReadCall) → Both s t → goes_on (answer s c) c ≡ Some d
      → Unit {0} × Both (pairs.next s c) (next t d)
  meets s t c d b e = go (number s t c b) refl
    where
      go : (k : ℕ) → number s t c b ≡ k → Unit {0} × Both (pairs.next s c) (next t d)
      go zero z =
          let q : Some (changes (at_one c)) ≡ Some d = sym (ap (λ a. goes_on a c) (rw z at (answered s t c b))) ∙ e in
          let p : changes (at_one c) ≡ d = cc in
          (tt, subst (λ (x : Call ReadCall). Both (pairs.next s c) (next t x)) p (moves s t c b z))
      go (suc k) z = absurd (no_call d (sym e ∙ ap (λ a. goes_on a c) (rw z at (answered s t c b))))

  pub both_from : (s : calls.State) (t : State) → Both s t → (cs : List Change)
      → Both (pairs.final s cs) (final t (sifted pairs.program (λ u d. goes_on (answer u d) d) s cs))
  both_from s t b cs = (sifts pairs.program (program read_on) Both (λ _ _. Unit {0}) (λ u d. goes_on (answer u d) d) skips meets s t b cs).1

-- ---- after the carry

-- the weights below the count are those of the ledger at weight 1
ones_are : (l : List Pair) → replicate (length l) one_f ≡ map (value of_w) (map at_weight_one l)
ones_are [] = refl
ones_are (p ∷ l) = ap (λ r. one_f ∷ r) (ones_are l)

long_ones : (n : ℕ) (ws : List Float) → n ≤ length ws → length (ones_below n ws) ≡ length ws
long_ones n ws h =
    length-append (replicate n one_f) (drop n ws) ∙ omega (arith, length-replicate n one_f, length-drop n ws, h)

module _ (xs ys sums : ℕ) (rest ws : List Float) (wide : xs ≤ length ws) (high : ys ≤ length ws) (s : calls.State) (l : List Pair) (h : HoldsPairs xs ys sums rest s l) where
  same : capacity (xs ∷ ys ∷ length ws ∷ []) ≡ capacity (xs ∷ ys ∷ [])
  same = capacity_longer xs ys (length ws) wide high

  columns_long : (length s.columns.xs ≡ xs) × (length s.columns.ys ≡ ys) × (length s.sums ≡ sums)
  columns_long =
      let e = h.lent in
      (ap (λ (z : Lent). get_or z.columns 0 0) e, ap (λ (z : Lent). get_or z.columns 1 0) e, ap (λ (z : Lent). z.sums) e)

  lent_is : lent_of (columns_of s.columns.xs s.columns.ys ws) s.sums ≡ record { columns = xs ∷ ys ∷ length ws ∷ []; sums = sums }
  lent_is =
      let w = columns_long in
      λ i. record { columns = w.0 i ∷ w.1 i ∷ length ws ∷ []; sums = w.2 i }

  counted : s.count ≤ capacity (xs ∷ ys ∷ length ws ∷ [])
  counted = rw (same, ← capacity_two xs ys) (subst (λ (z : Lent). s.count ≤ capacity z.columns) h.lent h.room)

  -- it is not refused
  taken : carry_refusal s.count (lengths (columns_of s.columns.xs s.columns.ys ws)) (length s.sums) ≡ 0
  taken =
      carry_taken _ _ _
      (room_of s.count (lengths (columns_of s.columns.xs s.columns.ys ws)) (sums_lent (length s.sums))
      (subst (λ (z : Lent). s.count ≤ capacity z.columns) (sym lent_is) counted) (h.long, tt))

  carried_is : carry_from s ws
      ≡ record { answer = book_of s.count; columns = carried_columns s.count (columns_of s.columns.xs s.columns.ys ws); sums = s.sums }
  unfolding carry_out
  carried_is = rw taken refl

  -- and holds the ledger at weight 1
  pub carried_holds : Holds (record { columns = xs ∷ ys ∷ length ws ∷ []; sums = sums }) rest (map at_weight_one l) (state_after s.count (carry_from s ws))
  carried_holds = rw carried_is
      (record {
        count = h.count;
        lent = lent ∙ lent_is;
        room = subst (λ (z : Lent). s.count ≤ capacity z.columns) (sym (lent ∙ lent_is)) counted;
        long = h.long;
        below = below;
        sums = h.sums;
      })
    where
      within : s.count ≤ length ws
      within = of_every (λ k. s.count ≤ k) (columns_of s.columns.xs s.columns.ys ws)
          (room_of s.count (lengths (columns_of s.columns.xs s.columns.ys ws)) [] (subst (λ (z : Lent). s.count ≤ capacity z.columns) (sym lent_is) counted) tt).within of_w

      lent : lent_of (carried_columns s.count (columns_of s.columns.xs s.columns.ys ws)) s.sums ≡ lent_of (columns_of s.columns.xs s.columns.ys ws) s.sums
      lent = λ i. record { columns = length s.columns.xs ∷ length s.columns.ys ∷ long_ones s.count ws within i ∷ []; sums = length s.sums }

      below : (k : Column) → take s.count (carried_columns s.count (columns_of s.columns.xs s.columns.ys ws) k) ≡ map (value k) (map at_weight_one l)
      below of_x = h.below of_x
      below of_y = h.below of_y
      below of_w =
          take_at (replicate s.count one_f) (drop s.count ws) s.count (length-replicate s.count one_f)
          ∙ ap (λ n. replicate n one_f) (h.count ∙ length-map l at_weight_one) ∙ ones_are l

-- ---- the theorem

pub carried_over : BooksOpenInSpring
carried_over c ws sums h wide high earlier =
    record { answers = answered; alike = λ columns sums' e later. alike columns sums' e later }
  where
    begin : HoldsPairs (length c.xs) (length c.ys) (length sums) (drop 272 sums) (pairs.opened c sums) []
    begin = opened_pairs c sums h

    answered : (carry_from (two_column c sums earlier) ws).answer ≡ book_of (two_column c sums earlier).count
    answered =
        let w = (pairs_from (length c.xs) (length c.ys) (length sums) (drop 272 sums) (pairs.opened c sums) [] begin earlier).1 in
        ap (λ (o : Out). o.answer) (carried_is (length c.xs) (length c.ys) (length sums) (drop 272 sums) ws wide high (two_column c sums earlier) (pairs.ledger_end (pairs.lent_of c sums) [] earlier) w)

    alike : (columns : three.Columns) (sums' : List Float) → lent_of columns sums' ≡ lent_of (columns_of c.xs c.ys ws) sums → (later : List (Call ReadCall))
        → Alike (carried c ws sums earlier) (from_the_start columns sums' (not_refused c sums earlier)) later
    alike columns sums' e later =
        let long = ap (λ (z : Lent). z.sums) e in
        let open₀ = not_refused_lem sums (open_refusal (length sums)) refl h in
        let open₁ : open_refusal (length sums') ≡ 0 = ap open_refusal long ∙ open₀ in
        let g = subst (λ (u : State). Holds (lent_of columns sums') (drop 272 sums') [] u) (opened_is columns sums' open₁) (opened_holds columns sums' (open_room (length sums') open₁)) in
        let b = both_from (length c.xs) (length c.ys) (length ws) (length sums) (capacity_longer (length c.xs) (length c.ys) (length ws) wide high) (drop 272 sums) (drop 272 sums')
        (pairs.opened c sums) (opened columns sums') (record { ledger = []; plain = begin; heavy = subst (λ (z : Lent). Holds z (drop 272 sums') [] (opened columns sums')) e g }) earlier in
        alike_from _ (drop 272 sums) (drop 272 sums') (map at_weight_one b.ledger) _ _
        (carried_holds (length c.xs) (length c.ys) (length sums) (drop 272 sums) ws wide high (two_column c sums earlier) b.ledger b.plain) b.heavy later
