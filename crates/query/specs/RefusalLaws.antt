-- What fit, validation and band may refuse by, in the checking order, and what each may count on past refusals 1 to 9.
use Rattle.std.specs.Prelude.{◌≡◌, ℕ, ◌≤◌, leb, Float}
use Rattle.std.proofs.Math.Path.{refl}
use mathlib.Core.List.{List, [], ◌∷◌, Memᴰ}
use borrow.Author.Tests.{ltb-false}
use Rattle.loops.specs.Cases.{or_false}
use Rattle.basis.specs.Sizes.{highest_degree}
use Rattle.statistics.specs.Degrees.{max_degree}
use Rattle.statistics.specs.declared.Confidence.{Confidence}
use Rattle.statistics.specs.declared.DegreeBound.{DegreeBound}
use Rattle.statistics.specs.declared.Tolerance.{Tolerance}
use Rattle.samples.specs.declared.Sample.{Sample}
use Rattle.refusal.specs.Refusals.{numbers_of, InOrder, those, is_among}
use Rattle.refusal.specs.Laws.{numbered, first_none}
use Rattle.refusal.specs.Rooms.{Room}
use Rattle.refusal.specs.RoomLaws.{room}
use Rattle.query.specs.Refusals.{fit_needs, band_needs, fit_tests, validate_tests, band_tests, fit_refusal, validate_refusal, band_refusal}

module _ (n : ℕ) (samples : List Sample) (columns : List ℕ) (sums scratch : ℕ) where
  -- ---- the numbers of each, of 1 to 9: these and no others

  pub fit_numbers : (degree coefficients : ℕ) → Memᴰ (fit_refusal n degree samples columns sums scratch coefficients) (0 ∷ 1 ∷ 4 ∷ 7 ∷ 8 ∷ [])
  unfolding fit_refusal
  fit_numbers degree coefficients = numbered _

  pub validate_numbers : (folds : ℕ) (bound : DegreeBound) (coefficients : ℕ)
      → Memᴰ (validate_refusal n folds bound samples columns sums scratch coefficients) (0 ∷ 1 ∷ 4 ∷ 7 ∷ 8 ∷ [])
  unfolding validate_refusal
  validate_numbers folds bound coefficients = numbered _

  pub band_numbers_lem : (x : Float) (degree : ℕ) (confidence : Confidence) (tolerance : Tolerance)
      → Memᴰ (band_refusal n x degree confidence tolerance samples columns sums scratch) (0 ∷ 1 ∷ 4 ∷ 7 ∷ 8 ∷ 9 ∷ [])
  unfolding band_refusal
  band_numbers_lem x degree confidence tolerance = numbered _

  -- ---- each call's tests stand in the checking order

  pub in_order : (degree folds coefficients : ℕ) (bound : DegreeBound) (x : Float) (confidence : Confidence) (tolerance : Tolerance)
      → InOrder (numbers_of (fit_tests n samples columns sums scratch degree coefficients))
      × InOrder (numbers_of (validate_tests n samples columns sums scratch folds bound coefficients))
      × InOrder (numbers_of (band_tests n samples columns sums scratch x degree confidence tolerance))
  unfolding those is_among
  in_order degree folds coefficients bound x confidence tolerance = (refl, refl, refl)

  -- ---- what each may count on

  pub fit_room : (degree coefficients : ℕ) → fit_refusal n degree samples columns sums scratch coefficients ≡ 0
      → Room n columns (fit_needs n sums scratch coefficients) × (degree ≤ highest_degree)
  unfolding fit_refusal
  fit_room degree coefficients e =
      let p1 = first_none _ 0 _ e in
      let p4 = first_none _ 3 _ p1.1 in
      let p7 = first_none _ 6 _ p4.1 in
      let p8 = first_none _ 7 _ p7.1 in
      (room n columns _ p1.0, ltb-false _ _ (or_false (leb n degree) _ p8.0).1)

  pub validate_room : (folds : ℕ) (bound : DegreeBound) (coefficients : ℕ) → validate_refusal n folds bound samples columns sums scratch coefficients ≡ 0
      → Room n columns (fit_needs n sums scratch coefficients) × (max_degree bound n ≤ highest_degree)
  unfolding validate_refusal
  validate_room folds bound coefficients e =
      let p1 = first_none _ 0 _ e in
      let p4 = first_none _ 3 _ p1.1 in
      let p7 = first_none _ 6 _ p4.1 in
      let p8 = first_none _ 7 _ p7.1 in
      (room n columns _ p1.0, ltb-false _ _ p8.0)

  pub band_room : (x : Float) (degree : ℕ) (confidence : Confidence) (tolerance : Tolerance)
      → band_refusal n x degree confidence tolerance samples columns sums scratch ≡ 0 → Room n columns (band_needs n sums scratch) × (degree ≤ highest_degree)
  unfolding band_refusal
  band_room x degree confidence tolerance e =
      let p1 = first_none _ 0 _ e in
      let p4 = first_none _ 3 _ p1.1 in
      let p7 = first_none _ 6 _ p4.1 in
      let p8 = first_none _ 7 _ p7.1 in
      (room n columns _ p1.0, ltb-false _ _ (or_false (leb n degree) _ p8.0).1)
