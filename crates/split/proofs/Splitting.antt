-- What a split comes to: refused by 1 to 9, refused by 16 or 11, or written.
use mathlib.Core.Path.{◌≡◌, refl, sym, subst, ◌∙◌}
use mathlib.Core.List.{List, [], ◌++◌}
use Prim.Native.Nat.{ℕ, zero, suc, ◌≤◌}
use native.Mathlib.Omega.{arith}
use Rattle.std.specs.Prelude.{false, ltb, Option, Some, Ok, Err}
use Rattle.refusal.specs.declared.refusals.Refusal.{Refusal}
use Rattle.refusal.specs.Named.{refused_by}
use Rattle.refusal.specs.Refusals.{settle}
use lib.ListN.{length, take, drop, length-replicate}
use lib.Ieee.{Float}
use Rattle.value.specs.Numbers.{zero_f}
use Rattle.basis.specs.Counts.{count_of}
use Rattle.basis.specs.CountLaws.{curve_count}
use Rattle.basis.specs.declared.Basis.TheVariants.{Curve}
use Rattle.basis.specs.declared.Degree.{Degree}
use Rattle.samples.specs.Columns.{Columns, samples_of, lengths}
use Rattle.monomial.specs.Rows.{WeightedRow, weighted_rows}
use Rattle.monomial.specs.Sums.{sums_of}
use Rattle.solve.specs.Laws.{solve_within}
use Rattle.lent.specs.Slices.{contents_of}
use Rattle.lent.specs.Written.{zeros}
use Rattle.lent.specs.WrittenLaws.{over_by, over_cleared}
use Rattle.settings.specs.declared.Settings.{Settings}
use Rattle.statistics.specs.Degrees.{max_degree}
use Rattle.split.specs.declared.Best.{Best}
use Rattle.split.specs.declared.Places.{Places}
use Rattle.split.specs.declared.Searched.{Searched}
use Rattle.split.specs.Search.{side_fit, best_break, search_tests}
use Rattle.split.specs.SearchLaws.{found_room}
use Rattle.split.specs.Refusals.{split_refusal}
use Rattle.split.specs.RefusalLaws.{split_room, searched_ok}
use Rattle.split.specs.Rooms.{SplitRoom, FoundRoom}
use Rattle.split.specs.Splits.{SplitAnswer, split_refused, LentSplit, Does, Searches, taken_of, split_at, split_past, split_on, split_taken, split_out}

length_fit : (rows : List WeightedRow) (d : Degree) → d.0 ≤ 15 → length (side_fit rows d) ≡ 16
unfolding side_fit
length_fit rows d h = (solve_within (sums_of rows) (count_of Curve d.0) (omega (arith, curve_count d.0))).long ∙ length-replicate 16 zero_f

-- scratch s became s', and the fits b and a became b' and a'
abbrev lent : List Float → List Float → List Float → List Float → List Float → List Float → LentSplit
lent s s' b b' a a' = record { scratch = contents_of s s'; before = contents_of b b'; after = contents_of a a' }

-- a split of n samples, over the columns, the length of the sums, and the lists that it writes; rows are the samples' as the code has them
module _ (n : ℕ) (settings : Settings) (limit : ℕ) (columns : Columns) (sums : ℕ) (s b a : List Float) where
  abbrev places : Places
  places = record { scratch = length s; before = length b; after = length a }

  abbrev refusal : ℕ
  refusal = split_refusal n settings (samples_of n columns) (lengths columns) sums places

  abbrev out : SplitAnswer → List Float → List Float → List Float → Type 0
  out r s' b' a' = Does (split_out n settings limit columns sums places) r (lent s s' b b' a a')

  abbrev taken : ℕ
  taken = split_taken n settings limit (samples_of n columns) (lengths columns) sums places

  -- refused by one of 1 to 9
  pub split_refused_lem : {r : SplitAnswer} → (refusal ≡ 0 → ⊥) × (r ≡ refused_by refusal) → out r s b a
  unfolding split_on
  split_refused_lem h = go refusal h
    where
      go : (k : ℕ) {r : SplitAnswer} → (k ≡ 0 → ⊥) × (r ≡ refused_by k)
          → Does (settle k (split_past n settings.bound settings.criterion limit (weighted_rows (samples_of n columns))) (split_refused k [])) r (lent s s b b a a)
      go zero h = absurd (h.0 refl)
      go (suc k) h = record { answer = h.1; scratch = refl; before = refl; after = refl }

  pub taken_refused : (refusal ≡ 0 → ⊥) → 0 ≡ taken
  unfolding split_taken
  taken_refused h = go refusal h
    where
      go : (k : ℕ) → (k ≡ 0 → ⊥) → 0 ≡ settle k (taken_of limit (search_tests settings.bound settings.criterion (weighted_rows (samples_of n columns)))) 0
      go zero h = absurd (h refl)
      go (suc k) h = refl

  -- none of them holds
  module _ (past : refusal ≡ 0) where
    pub has_room : SplitRoom n settings (lengths columns) sums places
    has_room = split_room n settings (samples_of n columns) (lengths columns) sums places past

    -- m is what the search came to; scratch was used, and then cleared
    module _ (rows : List WeightedRow) (are : rows ≡ weighted_rows (samples_of n columns)) (m : Searched) (s' t : List Float) (se : Searches limit settings.bound settings.criterion rows n s s' m) (cleared : t ≡ zeros n ++ drop n s') where
      abbrev best : Option Best
      best = best_break settings.bound settings.criterion rows

      abbrev tests : ℕ
      tests = search_tests settings.bound settings.criterion rows

      pub taken_past : m.tests ≡ taken
      unfolding split_taken
      taken_past = rw (past, ← are) se.tests

      -- 16 or 11
      pub split_late : (e : Refusal) {r : SplitAnswer} → m.best ≡ Err e → r ≡ Err e → out r t b a
      unfolding split_on split_past
      split_late e h q = rw (past, ← are, ← se.best, h) (record { answer = q; scratch = over_cleared n s s' t se.within cleared; before = refl; after = refl })

      -- a break is found
      module _ (k : Best) (found : m.best ≡ Ok k) (long : length rows ≡ n) where
        is_found : (ltb limit tests ≡ false) × (best ≡ Some k)
        is_found = searched_ok limit tests best k (sym se.best ∙ found)

        all_taken : m.tests ≡ tests
        unfolding taken_of
        all_taken = rw is_found.0 at se.tests

        pub best_room : FoundRoom n k
        best_room =
            let most : max_degree settings.bound (length rows) ≤ 15 = rw long has_room.most in
            subst (λ (j : ℕ). FoundRoom j k) long (found_room settings.bound settings.criterion rows most k is_found.1)

        pub split_whole : (b' a' : List Float) → b' ≡ side_fit (take k.at rows) k.before ++ drop 16 b
            → a' ≡ side_fit (drop k.at rows) k.after ++ drop 16 a
            → out (Ok (record { total = k.total; at = k.at; tests = m.tests; before = k.before; after = k.after })) t b' a'
        unfolding split_on split_past split_at
        split_whole b' a' eb ea =
            rw (past, ← are, ← se.best, found, ← all_taken)
            (record {
              answer = refl;
              scratch = over_cleared n s s' t se.within cleared;
              before = over_by 16 (side_fit (take k.at rows) k.before) b b' (length_fit (take k.at rows) k.before best_room.before) eb;
              after = over_by 16 (side_fit (drop k.at rows) k.after) a a' (length_fit (drop k.at rows) k.after best_room.after) ea;
            })
