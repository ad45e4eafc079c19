-- A stake's part of one lent memory, lent to a call and put back.
use Rattle.std.specs.Prelude.{Result, Ok, Err, IsErrAnd, ⊤}
use Rattle.std.proofs.lemmas.Result.{err_from_is_err_and}
use mathlib.Core.Path.{◌≡◌, refl, sym, ap, ◌∙◌}
use mathlib.Core.List.{List, [], ◌∷◌, ◌++◌}
use Prim.Native.Nat.{ℕ, ◌-◌, ◌<◌}
use native.Mathlib.Omega.{arith}
use lib.ListN.{length, get_or, take, drop}
use lib.Ieee.{Float}
use Rattle.lent.specs.Written.{over}
use Rattle.samples.specs.Columns.{columns_of}
use Rattle.samples.specs.ColumnLaws.{columns_are}
use Rattle.refusal.specs.declared.refusals.Refusal.{Refusal}
use Rattle.refusal.specs.Named.{number, named, refused_by, number_of, judged}
use Rattle.refusal.specs.NamedLaws.{passed, named_number, number_fits, number_judged, given_back}
use Rattle.book.specs.Calls.{state_of}
use Rattle.stakes.specs.Parts.{stakes, Cut, part_of, with_part, over_part}
use Rattle.stakes.specs.PartLaws.{cut_part, cut_back, with_own}
use Rattle.stakes.specs.Season.{SeasonState, season_of, stake_state, stake_refusal}
use Rattle.stakes.specs.SeasonLaws.{stake_below, stake_counted}
use Rattle.stakes.specs.RefusalLaws.{stake_numbers}
use Rattle.stakes.specs.declared.Stake.{Stake}
use Rattle.stakes.specs.Stake.{book_held, StakeIs}

-- a stake that is not refused is one of the 32, and so many counts are lent
pub below : {s n : ℕ} {r : Result ⊤ Refusal} {u : ⊤} → r ≡ judged (stake_refusal s n) → r ≡ Ok u → (s < stakes) × (s < n)
below {s} {n} e h = (stake_below s n (passed e h), stake_counted s n (passed e h))

-- the call got the part p of l and left it as q; the whole is then m
pub record Piece {A : Type 0} (s : ℕ) (l p q m : List A) : Type 0 where
  pub found : p ≡ part_of s l
  pub left : m ≡ with_part s q l

-- lent to be written
pub lends : {A : Type 0} (s : ℕ) (l q : List A) (a e : ℕ) → Cut (length l) s a e → Piece s l (take (e - a) (drop a l)) q (take a l ++ (q ++ drop (e - a) (drop a l)))
lends s l q a e c = record { found = cut_part s l a e c; left = cut_back s l q a e c }

-- lent to be read
pub shows : {A : Type 0} (s : ℕ) (l p : List A) → p ≡ part_of s l → Piece s l p p l
shows {A = A} s l p e = record { found = e; left = sym (ap (λ (z : List A). with_part s z l) e ∙ with_own s l) }

-- values written to a part
pub wrote : {A : Type 0} (s : ℕ) {l p q m : List A} (values : List A) → Piece s l p q m → q ≡ over values p → m ≡ over_part s values l
wrote s {l = l} values w e = w.left ∙ ap (λ z. with_part s z l) (e ∙ ap (over values) w.found)

-- what was lent to a call is the book of the stake
module _ (s : ℕ) (counts : List ℕ) (xs ys ws sums : List Float) where
  pub book_is : {xp yp wp sp : List Float} → xp ≡ part_of s xs → yp ≡ part_of s ys → wp ≡ part_of s ws → sp ≡ part_of s sums
      → state_of (get_or counts s 0) (columns_of xp yp wp) sp ≡ stake_state s (season_of counts (columns_of xs ys ws) sums)
  book_is px py pw ps = λ j. state_of (get_or counts s 0) (columns_are {c = λ k. part_of s (columns_of xs ys ws k)} px py pw j) (ps j)

-- ---- `Season::stake`: the book of a stake, cut out of a season

module _ {s : ℕ} {S : SeasonState} where
  -- refused by the season's own tests
  pub none_taken : {t : Result ⊤ Refusal} {e : Refusal} {r : Result Stake Refusal} → t ≡ judged (stake_refusal s (length S.counts)) → t ≡ Err e → IsErrAnd r (λ d. d ≡ e) → StakeIs s S r
  none_taken {t} {e} {r} p h q =
      let is = err_from_is_err_and r q in
      let k : number e ≡ stake_refusal s (length S.counts) = ap number_of (sym h ∙ p) ∙ number_judged (0 ∷ 18 ∷ 1 ∷ []) refl (stake_numbers s (length S.counts)) in
      record { refused = λ d g. ap (number_of {A = Stake}) (sym g ∙ is.1) ∙ ap number is.2 ∙ k; taken = λ b g. absurd (cc) }

  -- not refused
  pub book_taken : {t : Result ⊤ Refusal} {u : ⊤} {b : Stake} → t ≡ judged (stake_refusal s (length S.counts)) → t ≡ Ok u → book_held b ≡ stake_state s S → StakeIs s S (Ok b)
  book_taken {b = b} p h own = record { refused = λ e g. absurd (cc); taken = λ d g. let same : d ≡ b = cc in (passed p h, ap book_held same ∙ own) }

  module _ {r : Result Stake Refusal} (is : StakeIs s S r) where
    -- a call that asks for it with `?` answers the same refusal
    pub turned_away : {A : Type 0} {e : Refusal} {a : Result A Refusal} → r ≡ Err e → IsErrAnd a (λ d. d ≡ e)
        → (stake_refusal s (length S.counts) ≡ 0 → ⊥) × (a ≡ refused_by (stake_refusal s (length S.counts)))
    turned_away {e = e} h q =
        let k = is.refused e h in
        given_back ((λ z. absurd (omega (arith, k, z, (number_fits e).0))), sym (named_number e) ∙ ap named k) q

    -- it is one of the 32
    pub taken_below : {b : Stake} → r ≡ Ok b → s < stakes
    taken_below {b} h = stake_below s (length S.counts) (is.taken b h).0
