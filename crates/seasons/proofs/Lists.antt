-- Any list of calls: a stake's replies are those of a book of its own, so that demand 3 holds stake by stake.
use mathlib.Core.Path.{◌≡◌, refl, sym, ap, ap₂, ◌∙◌}
use mathlib.Core.Logic.{⊎_elim}
use mathlib.Core.Bool.{Bool, true, false, cond}
use Rattle.std.specs.Prelude.{None, Some}
use mathlib.Core.List.{List, [], ◌∷◌, ◌++◌, map}
use Prim.Native.Nat.{ℕ, zero, suc, ◌/◌, ◌≤◌, ◌<◌}
use native.Mathlib.Omega.{arith}
use native.Mathlib.Nat.{eq-or-lt_of_le}
use borrow.Author.Tests.{eqb-true, eqb-false, ltb-false, le-ltb}
use lib.Dec.{eqb, ltb}
use lib.ListN.{length, get_or, drop}
use Rattle.refusal.specs.Named.{refused_by}
use Rattle.loops.specs.Cases.{or_false}
use Rattle.loops.specs.Fold.{fold}
use Rattle.loops.specs.Loop.{from}
use Rattle.loops.specs.LoopLaws.{last_from, done}
use Rattle.loops.specs.PlaceLaws.{table_at}
use Rattle.runs.specs.Runs.{Each, replies, only, pick}
use Rattle.runs.specs.RunLaws.{projected, no_call}
use Rattle.refusal.specs.Refusals.{first_of, settle}
use Rattle.refusal.specs.Laws.{first_none}
use Rattle.refusal.specs.Tests.{any_short}
use Rattle.samples.specs.Columns.{Columns, no_columns}
use Rattle.monomial.specs.Sums.{sums_of}
use Rattle.settings.specs.declared.Settings.{Settings}
use Rattle.book.specs.Refusals.{open_refusal}
use Rattle.book.specs.Calls.{Out, State, state_of, state_after, book_of, book_after, refused, open_out}
use Rattle.reporting.specs.declared.Places.{Places}
use Rattle.reporting.specs.Reports.{ReportOut, refused_early}
use Rattle.ledger.specs.Ledger.{Call, changes, reads, Reply, said, told, next, reply, program_replies, final, opened}
use Rattle.ledger.specs.ReadCalls.{ReadCall, reports, Told, report_reply, read_on}
use Rattle.ledger.proofs.Book.{whole_book}
use Rattle.stakes.specs.Parts.{stakes, part_of}
use Rattle.stakes.specs.PartLaws.{length_part}
use Rattle.stakes.specs.Season.{SeasonState, stake_state, stake_refusal, season_open_refusal}
use Rattle.stakes.specs.SeasonLaws.{stake_taken, stake_below, counts_long, read_done}
use Rattle.season.proofs.Changed.{opens_book}
use Rattle.season.specs.Changes.{SeasonOut, left_alone, on_stake, opens, open_stake_out, emptied, season_open_out}
use Rattle.seasons.specs.Calls.{opening, StakeCall, alters, looks, SeasonCall, names, opens_all, seasonal, SeasonReply, by_part, out_by, read_from, book_next, book_reply, own_book, as_stake, refused_told, part_places, report_at, season_next, season_reply, season_book, as_part, own_call, own_reply}
use Rattle.seasons.specs.Claims.{StakeByStake, WholeStake, OpenedStake, WholeStakes}
use Rattle.seasons.proofs.Lengths.{Long, long_by}
use Rattle.seasons.proofs.Stakes.{on_done, on_own, on_other, on_counts, counts_kept, leaves_others}

-- ---- a season just opened

-- after the first b stakes are opened
module _ (S : SeasonState) (h : stakes ≤ length S.counts) where
  abbrev open_next : ℕ → SeasonState → SeasonState
  open_next s T = (open_stake_out s T).season

  abbrev open_book : ℕ → State
  open_book s = state_after (stake_state s S).count (opens (stake_state s S))

  pub record Opened (b : ℕ) (T : SeasonState) : Type 0 where
    pub counts : length T.counts ≡ length S.counts
    pub later : (s : ℕ) → b ≤ s → s < stakes → stake_state s T ≡ stake_state s S
    pub done : (s : ℕ) → s < b → s < stakes → stake_state s T ≡ open_book s

  module _ (b : ℕ) (k : b < stakes) (T : SeasonState) (g : Opened b T) where
    keeps : Long (stake_state b T) (state_after (stake_state b T).count (opens (stake_state b T)))
    unfolding out_by
    keeps = long_by opening (stake_state b T)

    opened_at : (s : ℕ) → s < suc b → s < stakes → stake_state s (open_next b T) ≡ open_book s
    opened_at s m l =
        ⊎_elim
        (λ e.
        ap (λ (x : ℕ). stake_state x (open_next b T)) e ∙ on_own b T opens keeps k (omega (arith, h, g.counts))
        ∙ ap (λ (a : State). state_after a.count (opens a)) (g.later b (omega arith) k) ∙ sym (ap open_book e))
        (λ n. on_other b T opens keeps s l (λ e. omega (arith, n, e)) ∙ g.done s n l)
        (eq-or-lt_of_le {n = s} {m = b} (omega arith))

    opened_again : Opened (suc b) (open_next b T)
    opened_again =
        record {
          counts = on_counts b T opens ∙ g.counts;
          later = λ s m l. on_other b T opens keeps s l (λ e. omega (arith, m, e)) ∙ g.later s (omega arith) l;
          done = opened_at;
        }

  opened_by_lem : (b : ℕ) → b ≤ stakes → Opened b (from open_next 0 b S)
  opened_by_lem zero m =
      rw (done open_next 0 0 S (omega arith)) (record { counts = refl; later = λ s k l. refl; done = λ s k l. absurd (omega arith) })
  opened_by_lem (suc b) m =
      rw (last_from open_next 0 b S (omega arith)) (opened_again b (omega arith) (from open_next 0 b S) (opened_by_lem b (omega arith)))

-- an opening that answers the book was not refused
open_taken : (S : SeasonState) (k : ℕ) → season_open_refusal (length S.counts) (length S.sums) ≡ k → (season_open_out S).answer ≡ book_of 0 → k ≡ 0
unfolding season_open_out
open_taken S zero e a = refl
open_taken S (suc k) e a =
    let w : refused_by (suc k) ≡ book_of 0 = rw e at a in
    let z : ◌≡◌ {A = ℕ} 0 1 = cc in
    absurd (omega arith)

-- then there are 32 counts, and the sums of each stake are enough
open_room : (n m : ℕ) → season_open_refusal n m ≡ 0 → (stakes ≤ n) × (272 ≤ m / stakes)
unfolding season_open_refusal any_short
open_room n m e =
    let a = or_false (ltb n stakes) _ (first_none _ 0 _ e).0 in
    let b = or_false (ltb (m / stakes) 272) _ a.1 in
    (ltb-false n stakes a.0, ltb-false (m / stakes) 272 b.0)

emptied_is : (S : SeasonState) → season_open_refusal (length S.counts) (length S.sums) ≡ 0 → (season_open_out S).season ≡ emptied S
unfolding season_open_out
emptied_is S z = rw z

-- with 32 counts the opening of all is refused where a stake's own is
open_same : (n m : ℕ) → stakes ≤ n → season_open_refusal n m ≡ open_refusal (m / stakes)
unfolding season_open_refusal open_refusal first_of any_short
open_same n m h = rw (le-ltb n stakes h) refl

all_left : (S : SeasonState) (k : ℕ) → season_open_refusal (length S.counts) (length S.sums) ≡ suc k → (season_open_out S).season ≡ S
unfolding season_open_out
all_left S k e = rw e refl

one_left : (b : State) (k : ℕ) → open_refusal (length b.sums) ≡ suc k → state_after b.count (opens b) ≡ b
unfolding open_out
one_left b k e = rw e refl

module _ (t : ℕ) (own : t < stakes) (S : SeasonState) (h : stakes ≤ length S.counts) where
  same_number : season_open_refusal (length S.counts) (length S.sums) ≡ open_refusal (length (part_of t S.sums))
  same_number = open_same (length S.counts) (length S.sums) h ∙ ap open_refusal (sym (length_part t S.sums own))

  all_answer : (season_open_out S).answer ≡ (opens (stake_state t S)).answer
  unfolding season_open_out open_out
  all_answer = rw same_number (by (open_refusal (length (part_of t S.sums))))
    where
      by : (r : ℕ)
          → (settle {A = SeasonOut} r (record { answer = book_of 0; season = emptied S }) (left_alone r S)).answer
          ≡ (settle {A = Out} r (record { answer = book_of 0; columns = no_columns; sums = sums_of [] ++ drop 272 (part_of t S.sums) }) (refused r no_columns (part_of t S.sums))).answer
      by zero = refl
      by (suc r) = refl

  all_opened : (length (season_open_out S).season.counts ≡ length S.counts)
      × (stake_state t (season_open_out S).season ≡ state_after (stake_state t S).count (opens (stake_state t S)))
  all_opened = go (open_refusal (length (part_of t S.sums))) refl
    where
      go : (r : ℕ) → open_refusal (length (part_of t S.sums)) ≡ r
          → (length (season_open_out S).season.counts ≡ length S.counts)
          × (stake_state t (season_open_out S).season ≡ state_after (stake_state t S).count (opens (stake_state t S)))
      go zero e =
          let is = emptied_is S (same_number ∙ e) in
          let g = opened_by_lem S h stakes (omega arith) in
          (ap (λ (U : SeasonState). length U.counts) is ∙ g.counts, ap (stake_state t) is ∙ g.done t own own)
      go (suc r) e =
          let is = all_left S r (same_number ∙ e) in
          (ap (λ (U : SeasonState). length U.counts) is, ap (stake_state t) is ∙ sym (one_left (stake_state t S) r e))

-- ---- any list

module _ (t : ℕ) (own : t < stakes) where
  -- the season has 32 counts, and b is the book of stake t in it
  pub record Seen (S : SeasonState) (b : State) : Type 0 where
    pub counts : stakes ≤ length S.counts
    pub book : stake_state t S ≡ b

  abbrev Part : SeasonReply → Reply Told → Type 0
  Part r q = own_reply t r ≡ q

  seen_next : (S : SeasonState) (s : ℕ) (c : StakeCall) (b : State) → stakes ≤ length S.counts → stake_state t (season_next S (names s c)) ≡ b → Seen (season_next S (names s c)) b
  seen_next S s c b h e = record { counts = omega (arith, h, counts_kept S s c); book = e }

  -- a call of another stake
  passes_by : (S : SeasonState) (b : State) (c : SeasonCall) → Seen S b → own_call t c ≡ None → Seen (season_next S c) b
  unfolding own_call
  passes_by S b (names s c) g e = by (eqb s t) refl e
    where
      by : (z : Bool) → eqb s t ≡ z → cond z (Some (as_part c)) None ≡ None → Seen (season_next S (names s c)) b
      by true q e = absurd (no_call (as_part c) e)
      by false q e = seen_next S s c b g.counts (leaves_others S s t c own (λ x. eqb-false s t q (sym x)) ∙ g.book)
  passes_by S b opens_all g e = absurd (no_call _ e)
  passes_by S b (seasonal settings places) g e = absurd (no_call _ e)

  -- its own: not refused by the season, and so the book's own
  meets_own : (S : SeasonState) (c : StakeCall) → stakes ≤ length S.counts
      → Part (season_reply S (names t c)) (book_reply (stake_state t S) (as_part c)) × (stake_state t (season_next S (names t c)) ≡ book_next (stake_state t S) (as_part c))
  unfolding season_reply season_next book_reply book_next as_part own_reply
  meets_own S (alters c) h =
      let z = stake_taken t (length S.counts) own h in
      (ap (λ o. said o.answer) (on_done t S (out_by c) z), on_own t S (out_by c) (long_by c (stake_state t S)) own h)
  meets_own S (looks q) h =
      (ap told (read_done t S (read_from (by_part q)) (refused_told q) (stake_taken t (length S.counts) own h)), refl)

  meets_report : (S : SeasonState) (settings : Settings) (places : Places) → stakes ≤ length S.counts
      → Part (season_reply S (seasonal settings places)) (book_reply (stake_state t S) (looks (reports settings (part_places places))))
  unfolding season_reply book_reply own_reply read_on
  meets_report S settings places h =
      ap (λ (o : ReportOut). told (report_reply o)) (table_at (report_at settings places S) stakes t (refused_early 1) own ∙ read_done t S _ refused_early (stake_taken t (length S.counts) own h))

  stays : (S : SeasonState) (settings : Settings) (places : Places) → stakes ≤ length S.counts
      → Seen (season_next S (seasonal settings places)) (book_next (stake_state t S) (looks (reports settings (part_places places))))
  unfolding season_next book_next
  stays S settings places h = record { counts = h; book = refl }

  -- the opening of all is the opening of each
  meets_open : (S : SeasonState) → stakes ≤ length S.counts
      → Part (season_reply S opens_all) (book_reply (stake_state t S) (alters opening)) × Seen (season_next S opens_all) (book_next (stake_state t S) (alters opening))
  unfolding season_reply season_next book_reply book_next own_reply out_by
  meets_open S h =
      let o = all_opened t own S h in
      (ap said (all_answer t own S h), record { counts = omega (arith, h, o.0); book = o.1 })

  met : (S : SeasonState) (b : State) (c : SeasonCall) (d : StakeCall) → Seen S b → own_call t c ≡ Some d
      → Part (season_reply S c) (book_reply b d) × Seen (season_next S c) (book_next b d)
  unfolding own_call
  met S b (names s c) d g e = by (eqb s t) refl e
    where
      by : (z : Bool) → eqb s t ≡ z → cond z (Some (as_part c)) None ≡ Some d
          → Part (season_reply S (names s c)) (book_reply b d) × Seen (season_next S (names s c)) (book_next b d)
      by true q e =
          let x : s ≡ t = eqb-true s t q in
          let y : as_part c ≡ d = cc in
          let m = meets_own S c g.counts in
          rw (x, ← y, ← g.book) (m.0, seen_next S t c (book_next (stake_state t S) (as_part c)) g.counts m.1)
      by false q e = absurd (no_call d (sym e))
  met S b opens_all d g e =
      let y : alters opening ≡ d = cc in
      rw (← y, ← g.book) (meets_open S g.counts)
  met S b (seasonal settings places) d g e =
      let y : looks (reports settings (part_places places)) ≡ d = cc in
      rw (← y, ← g.book) (meets_report S settings places g.counts, stays S settings places g.counts)

-- equal part by part
each_map : {A B : Type 0} (f : A → B) (l : List A) (m : List B) → Each (λ a b. f a ≡ b) l m → map f l ≡ m
each_map f [] [] e = refl
each_map f [] (b ∷ m) e = absurd e
each_map f (a ∷ l) [] e = absurd e
each_map f (a ∷ l) (b ∷ m) e = ap₂ (λ x r. x ∷ r) e.0 (each_map f l m e.1)

pub stake_by_stake : StakeByStake
stake_by_stake S h t own cs =
    let r = projected season_book own_book (own_call t) (Seen t own) (Part t own) (passes_by t own) (met t own) S (stake_state t S) (record { counts = h; book = refl }) cs in
    record { replies = each_map (own_reply t) (pick (own_call t) cs (replies season_book S cs)) (replies own_book (stake_state t S) (only (own_call t) cs)) r.0; book = r.1.book }

-- ---- demand 3, stake by stake

-- the ledger's calls on a book of its own
one_reply_lem : (b : State) (c : Call ReadCall) → book_reply b (as_stake c) ≡ reply read_on b c
unfolding book_reply reply out_by
one_reply_lem b (changes c) = refl
one_reply_lem b (reads q) = refl

one_next_lem : (b : State) (c : Call ReadCall) → book_next b (as_stake c) ≡ next b c
unfolding book_next next out_by
one_next_lem b (changes c) = refl
one_next_lem b (reads q) = refl

as_replies : (b : State) (ds : List (Call ReadCall)) → replies own_book b (map as_stake ds) ≡ program_replies read_on b ds
unfolding replies
as_replies b [] = refl
as_replies b (c ∷ ds) =
    ap₂ (λ r l. r ∷ l) (one_reply_lem b c) (ap (λ (a : State). replies own_book a (map as_stake ds)) (one_next_lem b c) ∙ as_replies (next b c) ds)

as_final : (b : State) (ds : List (Call ReadCall)) → fold book_next b (map as_stake ds) ≡ final b ds
unfolding fold
as_final b [] = refl
as_final b (c ∷ ds) = ap (λ (a : State). fold book_next a (map as_stake ds)) (one_next_lem b c) ∙ as_final (next b c) ds

pub whole_stake : WholeStake
whole_stake S h t own columns sums q b cs ds e =
    let o = stake_by_stake S h t own cs in
    record {
      replies = o.replies ∙ ap₂ (λ (u : State) l. replies own_book u l) b e ∙ as_replies (opened columns sums) ds;
      book = o.book ∙ ap₂ (λ (u : State) l. fold book_next u l) b e ∙ as_final (opened columns sums) ds;
      whole = whole_book columns sums q ds;
    }

pub whole_stakes : WholeStakes
whole_stakes S a t own cs ds e =
    let z = open_taken S (season_open_refusal (length S.counts) (length S.sums)) refl a in
    let room = open_room (length S.counts) (length S.sums) z in
    let g = opened_by_lem S room.0 stakes (omega arith) in
    let T = (season_open_out S).season in
    let columns : Columns = λ k. part_of t (S.columns k) in
    let sums = part_of t S.sums in
    let q = opens_book sums (rw (length_part t S.sums own) room.1) in
    let n = get_or S.counts t 0 in
    let is = emptied_is S z in
    let b : stake_state t T ≡ opened columns sums = ap (stake_state t) is ∙ g.done t own own
    ∙ (λ j. state_of ((ap (book_after n) q ∙ sym (ap (book_after 0) q)) j) columns (open_out sums).sums) in
    whole_stake T (omega (arith, room.0, ap (λ (U : SeasonState). length U.counts) is, g.counts)) t own columns sums q b cs ds e

-- an own opening that answers the book
not_refused_lem : (s : ℕ) (S : SeasonState) (k : ℕ) → stake_refusal s (length S.counts) ≡ k → (open_stake_out s S).answer ≡ book_of 0 → k ≡ 0
unfolding on_stake
not_refused_lem s S zero e a = refl
not_refused_lem s S (suc k) e a =
    let w : refused_by (suc k) ≡ book_of 0 = rw e at a in
    let z : ◌≡◌ {A = ℕ} 0 1 = cc in
    absurd (omega arith)

long_open_by : (t : ℕ) (S : SeasonState) → Long (stake_state t S) (state_after (stake_state t S).count (opens (stake_state t S)))
unfolding out_by
long_open_by t S = long_by opening (stake_state t S)

pub opened_stake : OpenedStake
opened_stake S t a cs ds e =
    let z = not_refused_lem t S (stake_refusal t (length S.counts)) refl a in
    let own = stake_below t (length S.counts) z in
    let long = counts_long t (length S.counts) z in
    let columns : Columns = λ k. part_of t (S.columns k) in
    let sums = part_of t S.sums in
    let q : (open_out sums).answer ≡ book_of 0 = sym (ap (λ (o : SeasonOut). o.answer) (on_done t S opens z)) ∙ a in
    let keeps = long_open_by t S in
    let b : stake_state t (open_stake_out t S).season ≡ opened columns sums = on_own t S opens keeps own long
    ∙ (λ j. state_of ((ap (book_after (get_or S.counts t 0)) q ∙ sym (ap (book_after 0) q)) j) columns (open_out sums).sums) in
    whole_stake (open_stake_out t S).season (omega (arith, long, on_counts t S opens)) t own columns sums q b cs ds e
