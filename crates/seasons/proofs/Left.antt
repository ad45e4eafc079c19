-- What calls leave: all that is past the 32 parts; and a refused one leaves all.
use Rattle.std.specs.Prelude.{Err}
use mathlib.Core.Path.{◌≡◌, refl, sym, ap, ◌∙◌}
use mathlib.Core.List.{List, [], ◌++◌}
use Prim.Native.Nat.{ℕ, zero, suc, ◌*◌, ◌/◌, ◌<◌}
use native.Mathlib.Omega.{arith}
use lib.ListN.{length, drop}
use lib.Ieee.{Float}
use Rattle.std.proofs.lemmas.List.{drop-set-lt}
use Rattle.loops.specs.Loop.{from}
use Rattle.loops.specs.LoopLaws.{last_from, done}
use Rattle.refusal.specs.declared.refusals.Refusal.{Refusal}
use Rattle.refusal.specs.Refusals.{settle}
use Rattle.samples.specs.Columns.{lengths, no_columns}
use Rattle.monomial.specs.Sums.{sums_of}
use Rattle.book.specs.Refusals.{open_refusal, add_refusal, correct_refusal, withdraw_refusal, frame_add_refusal, lines_add_refusal}
use Rattle.book.specs.Calls.{Answer, Out, State, state_of, state_after, book_of, book_after, refused, open_out, add_out, correct_out, withdraw_out, add_frame_out, add_lines_out}
use Rattle.book.specs.Window.{window_refusal, window_out}
use Rattle.carried.specs.Carry.{carry_refusal, carry_out}
use Rattle.ledger.specs.Ledger.{Change, adds, corrects, withdraws, frames, texts, windows, out_of, said, told}
use Rattle.stakes.specs.Parts.{stakes, size, with_part}
use Rattle.stakes.specs.PartLaws.{length_with}
use Rattle.stakes.specs.PartLaws as parts
use Rattle.stakes.specs.Season.{SeasonState, season_of, stake_state, with_stake, Sized, stake_refusal, season_open_refusal}
use Rattle.stakes.specs.SeasonLaws.{stake_below, same_stake}
use Rattle.season.specs.Changes.{SeasonOut, left_alone, on_stake, open_stake_out, emptied, season_open_out}
use Rattle.seasons.specs.Calls.{StakeChange, changing, opening, carrying, alters, looks, names, opens_all, seasonal, SeasonReply, of_stake, of_season, out_by, season_next, season_reply}
use Rattle.seasons.specs.Claims.{RefusedLeaves, rest, season_rest, LeavesRest}
use Rattle.seasons.proofs.Lengths.{long_by}
use Rattle.seasons.proofs.Stakes.{left, sized, by_refusal}

-- ---- what is past the 32 parts

part_rest : (s : ℕ) (l : List Float) → s < stakes → (p : List Float) → length p ≡ size l → rest (with_part s p l) ≡ rest l
part_rest s l h p e = ap (λ (n : ℕ). drop (stakes * (n / stakes)) (with_part s p l)) (length_with s l h p e) ∙ parts.rest_kept s l h p e

rest_with : (s : ℕ) (b : State) (S : SeasonState) → s < stakes → Sized b S → season_rest (with_stake s b S) ≡ season_rest S
rest_with s b S h z =
    λ j. season_of (drop-set-lt stakes S.counts s b.count h j) (λ k. part_rest s (S.columns k) h (b.columns k) (z.columns k) j) (part_rest s S.sums h b.sums z.sums j)

rest_on : (s : ℕ) (S : SeasonState) (c : StakeChange) → season_rest (on_stake s S (out_by c)).season ≡ season_rest S
rest_on s S c =
    by_refusal s S (out_by c) (λ T. season_rest T ≡ season_rest S) refl
    (λ z.
    let h = stake_below s (length S.counts) z in
    rest_with s (left s S (out_by c)) S h (sized s S (out_by c) h (long_by c (stake_state s S))))

abbrev open_next : ℕ → SeasonState → SeasonState
open_next s T = (open_stake_out s T).season

rest_emptied : (b : ℕ) (S : SeasonState) → season_rest (from open_next 0 b S) ≡ season_rest S
unfolding out_by
rest_emptied zero S = ap season_rest (done open_next 0 0 S (omega arith))
rest_emptied (suc b) S = ap season_rest (last_from open_next 0 b S (omega arith)) ∙ rest_on b (from open_next 0 b S) opening ∙ rest_emptied b S

rest_opened : (S : SeasonState) (r : ℕ) → season_rest (settle {A = SeasonOut} r (record { answer = book_of 0; season = emptied S }) (left_alone r S)).season ≡ season_rest S
rest_opened S zero = rest_emptied stakes S
rest_opened S (suc r) = refl

pub leaves_rest : LeavesRest
unfolding season_next season_open_out
leaves_rest S (names s (alters c)) = rest_on s S c
leaves_rest S (names s (looks q)) = refl
leaves_rest S opens_all = rest_opened S (season_open_refusal (length S.counts) (length S.sums))
leaves_rest S (seasonal settings places) = refl

-- ---- a refused call

never_refused : {P : Type 0} (m : ℕ) (a : Answer) (r : Refusal) → a ≡ book_of m → a ≡ Err r → P
never_refused m a r g e =
    let w : book_of m ≡ Err r = sym g ∙ e in
    let z : ◌≡◌ {A = ℕ} 0 1 = cc in
    absurd (omega arith)

settled : (k : ℕ) (b : State) (good : Out) (m : ℕ) → good.answer ≡ book_of m → (r : Refusal) → (settle k good (refused k b.columns b.sums)).answer ≡ Err r
    → state_after b.count (settle k good (refused k b.columns b.sums)) ≡ b
settled zero b good m g r e = never_refused m good.answer r g e
settled (suc k) b good m g r e = refl

change_leaves : (b : State) (c : Change) (r : Refusal) → (out_of b c).answer ≡ Err r → state_after b.count (out_of b c) ≡ b
unfolding out_of add_out correct_out withdraw_out add_frame_out add_lines_out window_out
change_leaves b (adds p) r e = settled (add_refusal b.count p (lengths b.columns) (length b.sums)) b _ _ refl r e
change_leaves b (corrects i y) r e = settled (correct_refusal b.count i y (lengths b.columns) (length b.sums)) b _ _ refl r e
change_leaves b (withdraws i) r e = settled (withdraw_refusal b.count i (lengths b.columns) (length b.sums)) b _ _ refl r e
change_leaves b (frames f) r e = settled (frame_add_refusal b.count f (lengths b.columns) (length b.sums)) b _ _ refl r e
change_leaves b (texts t) r e = settled (lines_add_refusal b.count t (lengths b.columns) (length b.sums)) b _ _ refl r e
change_leaves b (windows p) r e = settled (window_refusal b.count p (lengths b.columns) (length b.sums)) b _ _ refl r e

open_leaves : (b : State) (k : ℕ) (r : Refusal)
    → (let o = settle {A = Out} k (record { answer = book_of 0; columns = no_columns; sums = sums_of [] ++ drop 272 b.sums }) (refused k no_columns b.sums) in
    o.answer ≡ Err r → state_of (book_after b.count o.answer) b.columns o.sums ≡ b)
open_leaves b zero r e = never_refused 0 _ r refl e
open_leaves b (suc k) r e = refl

refusal_leaves : (c : StakeChange) (b : State) (r : Refusal) → (out_by c b).answer ≡ Err r → state_after b.count (out_by c b) ≡ b
unfolding out_by open_out carry_out
refusal_leaves (changing c) b r e = change_leaves b c r e
refusal_leaves opening b r e = open_leaves b (open_refusal (length b.sums)) r e
refusal_leaves carrying b r e = settled (carry_refusal b.count (lengths b.columns) (length b.sums)) b _ _ refl r e

answer_in : SeasonReply → Answer
answer_in (of_stake (said a)) = a
answer_in (of_stake (told t)) = book_of 0
answer_in (of_season os n) = book_of 0

pub refused_leaves : RefusedLeaves
unfolding season_next season_reply on_stake season_open_out stake_refusal answer_in
refused_leaves S (names s (alters c)) r e = go (stake_refusal s (length S.counts)) (ap answer_in e)
  where
    go : (k : ℕ)
        → (let o = settle {A = SeasonOut} k (record { answer = (out_by c (stake_state s S)).answer; season = with_stake s (state_after (stake_state s S).count (out_by c (stake_state s S))) S }) (left_alone k S) in
        o.answer ≡ Err r → o.season ≡ S)
    go zero a = ap (λ b. with_stake s b S) (refusal_leaves c (stake_state s S) r a) ∙ same_stake s S
    go (suc k) a = refl
refused_leaves S (names s (looks q)) r e = refl
refused_leaves S opens_all r e = go (season_open_refusal (length S.counts) (length S.sums)) (ap answer_in e)
  where
    go : (k : ℕ) → (let o = settle {A = SeasonOut} k (record { answer = book_of 0; season = emptied S }) (left_alone k S) in o.answer ≡ Err r → o.season ≡ S)
    go zero a = never_refused 0 _ r refl a
    go (suc k) a = refl
refused_leaves S (seasonal settings places) r e = refl
