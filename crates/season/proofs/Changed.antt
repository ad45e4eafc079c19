-- What a call on the parts of a stake makes of the season.
use Rattle.std.specs.Prelude.{Result, Ok, Err, ⊤}
use mathlib.Core.Path.{◌≡◌, refl, sym, subst, ◌∙◌}
use mathlib.Core.List.{List}
use Prim.Native.Nat.{ℕ, ◌≤◌, ◌<◌}
use borrow.Author.Tests.{le-ltb}
use lib.ListN.{length, get_or, set}
use lib.Ieee.{Float}
use Rattle.samples.specs.Columns.{Columns, columns_of, no_columns}
use Rattle.samples.specs.ColumnLaws.{columns_are}
use Rattle.refusal.specs.declared.refusals.Refusal.{Refusal}
use Rattle.refusal.specs.Refusals.{first_of}
use Rattle.refusal.specs.Tests.{any_short}
use Rattle.refusal.specs.Named.{judged}
use Rattle.book.specs.Refusals.{open_refusal}
use Rattle.book.specs.Calls.{Answer, Out, State, state_of, Is, book_of, book_after, open_out}
use Rattle.stakes.specs.Parts.{stakes, part_of, with_part}
use Rattle.stakes.specs.PartLaws.{with_own, length_part}
use Rattle.stakes.specs.SeasonLaws.{stake_taken, all_counted}
use Rattle.stakes.specs.Season.{season_of, stake_state, with_stake, stake_refusal, season_open_refusal}
use Rattle.stakes.proofs.Pieces.{Piece, book_is}
use Rattle.season.specs.Changes.{SeasonIs, on_stake, opens, open_stake_out}
use Rattle.season.specs.ChangeLaws.{stake_done}

-- a call on the parts of three columns and of the sums: r is what the season's own tests came to
module _ (s : ℕ) (call : State → Out) (counts : List ℕ) (xs ys ws sums : List Float) {r : Result ⊤ Refusal} (e : r ≡ judged (stake_refusal s (length counts))) {u : ⊤} (h : r ≡ Ok u) where
  pub stake_changed : (a : Answer)
      → {xp xq xm yp yq ym wp wq wm sp sq sm : List Float} → Piece s xs xp xq xm → Piece s ys yp yq ym → Piece s ws wp wq wm → Piece s sums sp sq sm
      → Is (call (state_of (get_or counts s 0) (columns_of xp yp wp) sp)) a (columns_of xq yq wq) sq
      → SeasonIs (on_stake s (season_of counts (columns_of xs ys ws) sums) call) a (season_of (set counts s (book_after (get_or counts s 0) a)) (columns_of xm ym wm) sm)
  stake_changed a {xq = xq} {yq = yq} {wq = wq} {sq = sq} px py pw ps i =
      let S = season_of counts (columns_of xs ys ws) sums in
      let own = subst (λ (b : State). Is (call b) a (columns_of xq yq wq) sq) (book_is s counts xs ys ws sums px.found py.found pw.found ps.found) i in
      let whole : season_of (set counts s (book_after (get_or counts s 0) a)) (columns_of _ _ _) _ ≡ with_stake s (state_of (book_after (get_or counts s 0) a) (columns_of xq yq wq) sq) S
      = λ j. season_of (set counts s (book_after (get_or counts s 0) a)) (columns_are {c = λ c. with_part s (columns_of xq yq wq c) (columns_of xs ys ws c)} px.left py.left pw.left j) (ps.left j) in
      rw whole (stake_done s S call e h a (columns_of xq yq wq) sq own)

-- an open, which is lent no column: whatever the columns are, they stand
pub stake_opened : (s : ℕ) (counts : List ℕ) (columns : Columns) (sums : List Float) {r : Result ⊤ Refusal} → r ≡ judged (stake_refusal s (length counts)) → {u : ⊤} → r ≡ Ok u
    → (a : Answer) → {sp sq sm : List Float} → Piece s sums sp sq sm → Is (open_out sp) a no_columns sq
    → SeasonIs (open_stake_out s (season_of counts columns sums)) a (season_of (set counts s (book_after (get_or counts s 0) a)) columns sm)
stake_opened s counts columns sums e h a {sq = sq} {sm = sm} ps i =
    let S = season_of counts columns sums in
    let o = subst (λ (l : List Float). Is (open_out l) a no_columns sq) ps.found i in
    let own : Is (opens (stake_state s S)) a (stake_state s S).columns sq = record { answer = o.answer; columns = refl; sums = o.sums } in
    let whole : season_of (set counts s (book_after (get_or counts s 0) a)) columns sm ≡ with_stake s (state_of (book_after (get_or counts s 0) a) (stake_state s S).columns sq) S
    = λ j. season_of (set counts s (book_after (get_or counts s 0) a)) (λ c. sym (with_own s (columns c)) j) (ps.left j) in
    rw whole (stake_done s S opens e h a (stake_state s S).columns sq own)

-- ---- all 32 opened: none of them is refused

pub opens_book : (sums : List Float) → 272 ≤ length sums → (open_out sums).answer ≡ book_of 0
unfolding open_out open_refusal first_of any_short
opens_book sums h = rw (le-ltb (length sums) 272 h) refl

pub opens_stake : (s : ℕ) (counts : List ℕ) (columns : Columns) (sums : List Float) → s < stakes → season_open_refusal (length counts) (length sums) ≡ 0
    → (open_stake_out s (season_of counts columns sums)).answer ≡ book_of 0
unfolding on_stake
opens_stake s counts columns sums h e =
    let w = all_counted (length counts) (length sums) e in
    rw (stake_taken s (length counts) h w.0) (opens_book (part_of s sums) (rw (length_part s sums h) w.1))

pub not_refused_lem : {a : Answer} {d : Refusal} → a ≡ book_of 0 → a ≡ Err d → ⊥
not_refused_lem p h = let z : ◌≡◌ {A = Answer} (book_of 0) (Err _) = sym p ∙ h in absurd (cc)
