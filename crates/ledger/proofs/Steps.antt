-- One call: what the program and the ledger make of it, where they agreed before.
use mathlib.Core.Path.{◌≡◌, refl, sym, ap, ap₂, subst, ◌∙◌}
use mathlib.Core.Bool.{Bool, true, false, cond}
use mathlib.Core.List.{List, [], ◌∷◌, ◌++◌, map, append-nil}
use Prim.Native.Nat.{ℕ, zero, suc, ◌+◌, ◌-◌, ◌≤◌, ◌<◌}
use native.Mathlib.Omega.{arith}
use borrow.Author.Tests.{eqb-true}
use lib.Dec.{eqb}
use lib.ListN.{length, set, take, drop, length-append, length-set}
use lib.Seq.{drop-set-lt, take-set-lt, append_snoc}
use lib.Ieee.{Float}
use Rattle.refusal.specs.Named.{refused_by}
use Rattle.loops.specs.Fold.{fold}
use Rattle.samples.specs.declared.Sample.{Sample}
use Rattle.monomial.specs.Rows.{weighted_rows}
use Rattle.monomial.specs.Sums.{sums_of}
use Rattle.frame.specs.Frame.{decode}
use Rattle.decimal.specs.Lines.{read_lines}
use Rattle.book.specs.Refusals.{sums_lent}
use Rattle.book.specs.RefusalLaws.{add_room, correct_room, withdraw_room, frame_room, lines_room}
use Rattle.refusal.specs.Refusals.{settle}
use Rattle.refusal.specs.Named.{refused_by}
use Rattle.refusal.specs.Rooms.{Room}
use Rattle.refusal.specs.RoomLaws.{room_of}
use Rattle.refusal.specs.Tests.{capacity}
use Rattle.samples.specs.Columns.{lengths, Column, of_x, of_y, of_w, value, samples_of, with_y}
use Rattle.samples.specs.ColumnLaws.{of_every, lengths_same}
use Rattle.book.specs.Calls.{Answer, Out, State, state_after, book_of, book_answered, refused, add_out, correct_out, withdraw_out, add_next, add_many, add_frame_out, add_lines_out}
use Rattle.book.specs.Many.{added, RoomFor}
use Rattle.book.specs.ManyLaws.{room_one, room_rest, one_added, many_added, added_is}
use Rattle.book.specs.Window.{window_refusal, with_place, window_out}
use Rattle.book.specs.WindowLaws.{window_room}
use Rattle.ledger.specs.Ledger.{Change, adds, corrects, withdraws, frames, texts, windows, Lent, lent_by, out_of, new_y, without, changed, refusal_of}
use Rattle.lent.specs.GapLaws.{length_without}
use Rattle.book.proofs.Withdrawn.{withdrawn, place_made, place_free}
use Rattle.ledger.proofs.Lists.{length_new, new_same, new_y_lem, length_less, column_add, column_without, without_rest, samples_are, sums_rest, sums_add, sums_correct, sums_long, drop_later}

-- ---- what a call that is not refused leaves

-- sample i gets a new y
abbrev corrected_state : State → ℕ → Float → State
corrected_state s i y =
    let c = with_y i y s.columns in
    record { count = s.count; columns = c; sums = take 256 s.sums ++ (drop 256 (sums_of (weighted_rows (samples_of s.count c))) ++ drop 272 s.sums) }

abbrev done : State → Change → State
done s (adds p) = added s p
done s (corrects i y) = corrected_state s i y
done s (withdraws i) = withdrawn s i
done s (frames f) = add_many (decode f) s
done s (texts t) = add_many (read_lines t) s
done s (windows p) = add_next (with_place s) p

out_is : (s : State) (c : Change)
    → let k = refusal_of (lent_by s) s.count c in
    out_of s c ≡ settle k (book_answered (done s c)) (refused k s.columns s.sums)
unfolding out_of refusal_of add_out correct_out withdraw_out add_frame_out add_lines_out window_out
out_is s (adds p) = refl
out_is s (corrects i y) = refl
out_is s (withdraws i) = refl
out_is s (frames f) = refl
out_is s (texts t) = refl
out_is s (windows p) = refl

-- ---- any column

same_lent : (s t : State) → ((k : Column) → length (t.columns k) ≡ length (s.columns k)) → length t.sums ≡ length s.sums → lent_by t ≡ lent_by s
same_lent s t e q = λ i. record { columns = lengths_same t.columns s.columns e i; sums = q i }

pub held_by_lem : (l : List Sample) (s : State) → s.count ≡ length l → ((k : Column) → take s.count (s.columns k) ≡ map (value k) l) → samples_of s.count s.columns ≡ l
held_by_lem l s q e = samples_are l s.count s.columns q e

-- a count within capacity has room in every column
roomy : (s : State) (n : ℕ) → n ≤ capacity (lent_by s).columns → 272 ≤ length s.sums → Room n (lengths s.columns) (sums_lent (length s.sums))
roomy s n h t = room_of n (lengths s.columns) (sums_lent (length s.sums)) h (t, tt)

within : (s : State) (n : ℕ) → n ≤ capacity (lent_by s).columns → (k : Column) → n ≤ length (s.columns k)
within s n h = of_every (λ l. n ≤ l) s.columns (room_of n (lengths s.columns) [] h tt).within

-- ---- the relation, where m are the lengths of the lent memory and rest is what the sums hold past the 272

module _ (m : Lent) (rest : List Float) where
  -- the book is the ledger's length, the columns hold its samples, and the sums are its
  pub record Holds (l : List Sample) (s : State) : Type 0 where
    pub count : s.count ≡ length l
    pub lent : lent_by s ≡ m
    pub room : s.count ≤ capacity (lent_by s).columns
    pub long : 272 ≤ length s.sums
    pub below : (k : Column) → take s.count (s.columns k) ≡ map (value k) l
    pub sums : s.sums ≡ sums_of (weighted_rows l) ++ rest

  -- s' is what a call leaves of s: it holds l, and the columns stand from the new count on
  pub record Leaves (s : State) (l : List Sample) (s' : State) : Type 0 where
    pub holds : Holds l s'
    pub keeps : (k : Column) → drop s'.count (s'.columns k) ≡ drop s'.count (s.columns k)

  pub leaves_all : (l : List Sample) (s : State) → Holds l s → Leaves s l s
  leaves_all l s h = record { holds = h; keeps = λ k. refl }

  -- what is to be shown of a call
  leaves_by : (l l' : List Sample) (s s' : State) → Holds l s → s'.count ≡ length l' → s'.count ≤ capacity (lent_by s).columns
      → ((k : Column) → length (s'.columns k) ≡ length (s.columns k)) → ((k : Column) → take s'.count (s'.columns k) ≡ map (value k) l')
      → ((k : Column) → drop s'.count (s'.columns k) ≡ drop s'.count (s.columns k)) → s'.sums ≡ sums_of (weighted_rows l') ++ rest → Leaves s l' s'
  leaves_by l l' s s' h c r n b d q =
      let t = ap length q ∙ sums_long l' l rest ∙ sym (ap length h.sums) in
      let e = same_lent s s' n t in
      record {
        holds = record { count = c; lent = e ∙ h.lent; room = subst (λ (z : Lent). s'.count ≤ capacity z.columns) (sym e) r; long = rw t h.long; below = b; sums = q };
        keeps = d;
      }

  -- one call after another
  leaves_then : (l k : List Sample) (s t u : State) → Leaves s l t → Leaves t k u → t.count ≤ u.count → Leaves s k u
  leaves_then l k s t u p q h =
      record { holds = q.holds; keeps = λ c. q.keeps c ∙ drop_later t.count u.count (t.columns c) (s.columns c) h (p.keeps c) }

  -- one sample at the end
  leaves_add : (l : List Sample) (s : State) (p : Sample) → Holds l s → s.count + 1 ≤ capacity (lent_by s).columns → Leaves s (l ++ (p ∷ [])) (added s p)
  leaves_add l s p h r =
      let n = s.count in
      leaves_by l (l ++ (p ∷ [])) s (added s p) h
      (ap (λ m. m + 1) h.count ∙ sym (length-append l (p ∷ [])))
      r
      (λ k. length-set (s.columns k) n (value k p))
      (λ k. column_add (value k) l n (s.columns k) (h.below k) p (omega (arith, within s (n + 1) r k)))
      (λ k. drop-set-lt (n + 1) (s.columns k) n (value k p) (omega arith))
      (sums_add l rest s.sums h.sums p)

  -- many samples at the end
  leaves_many : (ps l : List Sample) (s : State) → Holds l s → RoomFor s (length ps) → Leaves s (l ++ ps) (fold added s ps)
  unfolding fold
  leaves_many [] l s h r = rw (append-nil l) (leaves_all l s h)
  leaves_many (p ∷ ps) l s h r =
      let one = leaves_add l s p h (room_one s p (length ps) r).count in
      let more = leaves_many ps (l ++ (p ∷ [])) (added s p) one.holds (room_rest s p (length ps) r) in
      let q = ap (λ (t : State). t.count) (added_is ps (added s p)) in
      rw (← append_snoc l p ps) (leaves_then (l ++ (p ∷ [])) (l ++ (p ∷ []) ++ ps) s (added s p) (fold added (added s p) ps) one more (omega (arith, q)))

  -- sample i gets a new y
  leaves_correct : (l : List Sample) (s : State) (i : ℕ) (y : Float) → Holds l s → i < s.count → Leaves s (new_y l i y) (corrected_state s i y)
  leaves_correct l s i y h r =
      let n = s.count in
      let c = h.count ∙ sym (length_new l i y) in
      let b = below in
      leaves_by l (new_y l i y) s (corrected_state s i y) h c h.room long b keeps
      (ap (λ u. take 256 s.sums ++ (drop 256 (sums_of (weighted_rows u)) ++ drop 272 s.sums)) (held_by_lem (new_y l i y) (corrected_state s i y) c b)
      ∙ sums_correct l rest s.sums h.sums i y)
    where
      long : (k : Column) → length ((corrected_state s i y).columns k) ≡ length (s.columns k)
      long of_x = refl
      long of_y = length-set (s.columns of_y) i y
      long of_w = refl

      below : (k : Column) → take s.count ((corrected_state s i y).columns k) ≡ map (value k) (new_y l i y)
      below of_x = h.below of_x ∙ sym (new_same (value of_x) (λ p. refl) l i y)
      below of_w = h.below of_w ∙ sym (new_same (value of_w) (λ p. refl) l i y)
      below of_y = take-set-lt s.count (s.columns of_y) i y r ∙ ap (λ u. set u i y) (h.below of_y) ∙ sym (new_y_lem l i y)

      keeps : (k : Column) → drop s.count ((corrected_state s i y).columns k) ≡ drop s.count (s.columns k)
      keeps of_x = refl
      keeps of_y = drop-set-lt s.count (s.columns of_y) i y r
      keeps of_w = refl

  -- sample i goes
  leaves_withdraw : (l : List Sample) (s : State) (i : ℕ) → Holds l s → i < s.count → Leaves s (without i l) (withdrawn s i)
  leaves_withdraw l s i h r =
      let n = s.count in
      let t = withdrawn s i in
      let f = within s n h.room in
      let c = ap (λ j. j - 1) h.count ∙ sym (length_less l i (rw h.count at r)) in
      let b : (k : Column) → take (n - 1) (t.columns k) ≡ map (value k) (without i l) = λ k.
      column_without (value k) l n (s.columns k) (h.below k) i r (f k) in
      leaves_by l (without i l) s t h c (omega (arith, h.room))
      (λ k. length_without i n (s.columns k) r (f k))
      b
      (λ k. without_rest i n (s.columns k) r (f k))
      (ap₂ (λ u v. sums_of (weighted_rows u) ++ v) (held_by_lem (without i l) t c b) (sums_rest l rest s.sums h.sums))

  -- a full window book loses sample 0
  leaves_place : (l : List Sample) (s : State) → Holds l s → 0 < capacity (lent_by s).columns
      → Leaves s (cond (eqb (length l) (capacity m.columns)) (without 0 l) l) (with_place s)
  leaves_place l s h some =
      let same : eqb s.count (capacity (lent_by s).columns) ≡ eqb (length l) (capacity m.columns) = λ i. eqb (h.count i) (capacity (h.lent i).columns) in
      rw (place_made s (roomy s s.count h.room h.long) some)
      (subst (λ (b : Bool). Leaves s (cond b (without 0 l) l) (cond (eqb s.count (capacity (lent_by s).columns)) (withdrawn s 0) s)) same
      (go (eqb s.count (capacity (lent_by s).columns)) refl))
    where
      go : (b : Bool) → eqb s.count (capacity (lent_by s).columns) ≡ b → Leaves s (cond b (without 0 l) l) (cond b (withdrawn s 0) s)
      go false q = leaves_all l s h
      go true q = leaves_withdraw l s 0 h (omega (arith, some, eqb-true s.count (capacity (lent_by s).columns) q))

  -- and the sample goes to the end
  leaves_window : (l : List Sample) (s : State) (p : Sample) → Holds l s → window_refusal s.count p (lent_by s).columns (lent_by s).sums ≡ 0
      → Leaves s (changed m l (windows p)) (add_next (with_place s) p)
  unfolding changed
  leaves_window l s p h e =
      let w = window_room s.count p (lengths s.columns) (length s.sums) e in
      let r = place_free s w.0 w.3 in
      let k = cond (eqb (length l) (capacity m.columns)) (without 0 l) l in
      let one = leaves_place l s h w.3 in
      rw (one_added (with_place s) p r w.1 w.2)
      (leaves_then k (k ++ (p ∷ [])) s (with_place s) (added (with_place s) p) one (leaves_add k (with_place s) p one.holds r.count) (omega arith))

-- ---- a call: what it leaves of s is o, and the ledger's list and answer are l and a

module _ (m : Lent) (rest : List Float) where
  leaves : (l : List Sample) (s : State) → Holds m rest l s → (c : Change) → refusal_of (lent_by s) s.count c ≡ 0 → Leaves m rest s (changed m l c) (done s c)
  unfolding refusal_of changed
  leaves l s h (adds p) e = leaves_add m rest l s p h (add_room s.count (lengths s.columns) (length s.sums) p e).0.count
  leaves l s h (corrects i y) e =
      leaves_correct m rest l s i y h (correct_room s.count (lengths s.columns) (length s.sums) i y e).1
  leaves l s h (withdraws i) e = leaves_withdraw m rest l s i h (withdraw_room s.count (lengths s.columns) (length s.sums) i e).1
  leaves l s h (frames f) e =
      let r = frame_room s.count (lengths s.columns) (length s.sums) f e in
      rw (many_added (decode f) s r.0 (r.2, r.3)) (leaves_many m rest (decode f) l s h r.0)
  leaves l s h (texts t) e =
      let r = lines_room s.count (lengths s.columns) (length s.sums) t e in
      rw (many_added (read_lines t) s r.0 (r.2, r.3)) (leaves_many m rest (read_lines t) l s h r.0)
  leaves l s h (windows p) e = leaves_window m rest l s p h e

  pub record Stepped (s : State) (o : Out) (l : List Sample) (a : Answer) : Type 0 where
    pub leaves : Leaves m rest s l (state_after s.count o)
    pub answer : o.answer ≡ a

  -- a refusal changes nothing on either side; so it is enough to know what a call that is not refused leaves
  settled : (l l' : List Sample) (s s' : State) (k : ℕ) → Holds m rest l s → (k ≡ 0 → Leaves m rest s l' s')
      → Stepped s (settle k (book_answered s') (refused k s.columns s.sums)) (settle k l' l) (settle k (book_of (length l')) (refused_by k))
  settled l l' s s' zero h g = record { leaves = g refl; answer = ap book_of (g refl).holds.count }
  settled l l' s s' (suc k) h g = record { leaves = leaves_all m rest l s h; answer = refl }

  pub step : (l : List Sample) (s : State) → Holds m rest l s → (c : Change)
      → let k = refusal_of m (length l) c in
      Stepped s (out_of s c) (settle k (changed m l c) l) (settle k (book_of (length (changed m l c))) (refused_by k))
  step l s h c =
      let l' = changed m l c in
      let same : refusal_of (lent_by s) s.count c ≡ refusal_of m (length l) c = λ i. refusal_of (h.lent i) (h.count i) c in
      subst (λ (k : ℕ). Stepped s (out_of s c) (settle k l' l) (settle k (book_of (length l')) (refused_by k))) same
      (rw (out_is s c) (settled l l' s (done s c) (refusal_of (lent_by s) s.count c) h (leaves l s h c)))
