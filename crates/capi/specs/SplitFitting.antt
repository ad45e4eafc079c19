-- What a split can answer fits the fields that it is packed into, and is read back.
use Rattle.std.specs.Prelude.{◌≡◌, refl, Bool, true, false, cond, List, [], ℕ, zero, suc, ◌%◌, ◌≤◌, ◌<◌, ltb, Float, length, Result, Ok, Err}
use Rattle.std.proofs.Common.{ap, ◌∙◌, mod-eq_of_lt, arith}
use Rattle.std.proofs.lemmas.List.{length-map}
use Rattle.refusal.specs.Named.{number}
use Rattle.statistics.specs.Degrees.{max_degree}
use Rattle.samples.specs.Columns.{Columns, samples_of, lengths}
use Rattle.samples.specs.ColumnLaws.{length_samples}
use Rattle.monomial.specs.Rows.{WeightedRow, weighted_of, weighted_rows}
use Rattle.refusal.specs.NamedLaws.{number_fits}
use Rattle.refusal.specs.Named.{named}
use Rattle.refusal.specs.Refusals.{settle}
use Rattle.settings.specs.declared.Settings.{Settings}
use Rattle.refusal.specs.declared.refusals.Refusal.{Refusal}
use Rattle.split.specs.declared.Best.{Best}
use Rattle.split.specs.declared.Places.{Places}
use Rattle.split.specs.Search.{best_break, search_tests}
use Rattle.split.specs.SearchLaws.{search_tests_lem, found_room}
use Rattle.split.specs.Refusals.{split_refusal, searched}
use Rattle.split.specs.RefusalLaws.{split_room, searched_ok}
use Rattle.split.specs.Splits.{SplitAnswer, SplitOut, split_refused, split_at, split_by, split_past, split_on, split_out}
use Rattle.capi.specs.Packed.{packed_split, split_into, SplitFits}
use Rattle.capi.specs.Reading.{SplitRead}
use Rattle.capi.specs.ReadingLaws.{lower_part, refusal_read, none_in, first_in, second_in, third_of, fourth_of}

split_settles : (k : ℕ) (good : SplitOut) (scratch : List Float) → (k ≡ 0 → SplitFits good.answer)
    → SplitFits (settle k good (split_refused k scratch)).answer
unfolding SplitFits
split_settles zero good scratch g = g refl
split_settles (suc k) good scratch g = number_fits (named (suc k))

pub split_into_lem : (places : ℕ) (o : SplitOut) → SplitFits o.answer → SplitFits (split_into places o).answer
unfolding split_into SplitFits
split_into_lem places o h = go (ltb places 1)
  where
    go : (t : Bool) → SplitFits (cond t (split_refused 1 []) o).answer
    go true = (omega arith, omega arith)
    go false = h

module _ (n : ℕ) (settings : Settings) (limit : ℕ) (rows : List WeightedRow) (four : 4 ≤ length rows) (few : length rows ≤ 4096) (most : max_degree settings.bound (length rows) ≤ 15) where
  pub past_fits : SplitFits (split_past n settings.bound settings.criterion limit rows).answer
  unfolding split_past split_at SplitFits
  past_fits =
      go (searched limit (search_tests settings.bound settings.criterion rows) (best_break settings.bound settings.criterion rows)) refl
    where
      go : (r : Result Best Refusal) → searched limit (search_tests settings.bound settings.criterion rows) (best_break settings.bound settings.criterion rows) ≡ r
          → SplitFits (split_by n (search_tests settings.bound settings.criterion rows) rows r).answer
      go (Err e) q = number_fits e
      go (Ok best) q =
          let w = found_room settings.bound settings.criterion rows most best (searched_ok limit _ _ best q).1 in
          (w.before, w.after, omega (arith, w.place), search_tests_lem settings.bound settings.criterion rows most four few)

pub split_fits : (n : ℕ) (settings : Settings) (limit : ℕ) (columns : Columns) (sums : ℕ) (places : Places) → SplitFits (split_out n settings limit columns sums places).answer
unfolding split_on
split_fits n settings limit columns sums places =
    let samples = samples_of n columns in
    let long : length (weighted_rows samples) ≡ n = length-map samples weighted_of ∙ length_samples n columns in
    split_settles (split_refusal n settings samples (lengths columns) sums places) _ []
    (λ e.
    let w = split_room n settings samples (lengths columns) sums places e in
    past_fits n settings limit (weighted_rows samples) (omega (arith, long, w.four)) (omega (arith, long, w.room.most)) (rw long w.most))

-- ---- read back

pub split_read : (a : SplitAnswer) → SplitFits a → SplitRead (packed_split a) a
unfolding SplitFits SplitRead packed_split
split_read (Ok r) h =
    let d = r.before in
    let e = r.after in
    let at = r.at in
    let tests = r.tests in
    let hd : d.0 < 0x100 = omega (arith, h.0) in
    let he : e.0 < 0x100 = omega (arith, h.1) in
    let ha : at < 0x1_0000 = omega (arith, h.2) in
    let ht : tests < 0x100_0000 = omega (arith, h.3) in (
      none_in d.0 e.0 at tests hd he ha ht,
      first_in d.0 e.0 at tests hd he ha ht,
      second_in d.0 e.0 at tests hd he ha ht,
      ap (λ q. q % 0x1_0000) (third_of d.0 e.0 at tests hd he ha ht) ∙ lower_part 0x1_0000 at tests ha,
      ap (λ q. q % 0x100_0000) (fourth_of d.0 e.0 at tests hd he ha ht) ∙ mod-eq_of_lt ht,
    )
split_read (Err k) h = refusal_read (number k)

pub split_back : (n : ℕ) (settings : Settings) (limit : ℕ) (columns : Columns) (sums : ℕ) (places : Places) (into : ℕ)
    → (let a = (split_into into (split_out n settings limit columns sums places)).answer in SplitRead (packed_split a) a)
split_back n settings limit columns sums places into = split_read _ (split_into_lem into _ (split_fits n settings limit columns sums places))
