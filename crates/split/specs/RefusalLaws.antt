-- What a split may refuse by of 1 to 9, and its search by 16 and 11, in the checking order, and what it may count on past them.
use Rattle.std.specs.Prelude.{◌≡◌, Bool, true, false, cond, ltb, is_none, ℕ, Option, None, Some, Ok}
use Rattle.std.proofs.Common.{ap, ◌∙◌}
use Rattle.std.proofs.Math.Path.{refl}
use mathlib.Core.List.{List, [], ◌∷◌, Memᴰ}
use borrow.Author.Tests.{ltb-false}
use Rattle.samples.specs.declared.Sample.{Sample}
use Rattle.refusal.specs.Refusals.{first_of, numbers_of, InOrder, those, is_among}
use Rattle.refusal.specs.Laws.{numbered, first_none}
use Rattle.refusal.specs.RoomLaws.{room}
use Rattle.refusal.specs.Named.{number_of, refused_by}
use Rattle.settings.specs.declared.Settings.{Settings}
use Rattle.split.specs.declared.Best.{Best}
use Rattle.split.specs.declared.Places.{Places}
use Rattle.split.specs.Refusals.{split_tests, split_refusal, search_refusals, search_refusal, found_in, searched}
use Rattle.split.specs.Rooms.{SplitRoom}

module _ (n : ℕ) (settings : Settings) (samples : List Sample) (columns : List ℕ) (sums : ℕ) (places : Places) where
  pub split_numbers : Memᴰ (split_refusal n settings samples columns sums places) (0 ∷ 1 ∷ 4 ∷ 7 ∷ 8 ∷ [])
  unfolding split_refusal
  split_numbers = numbered _

  pub split_in_order : InOrder (numbers_of (split_tests n settings samples columns sums places))
  unfolding those is_among
  split_in_order = refl

  pub split_room : split_refusal n settings samples columns sums places ≡ 0 → SplitRoom n settings columns sums places
  unfolding split_refusal
  split_room e =
      let p1 = first_none _ 0 _ e in
      let p4 = first_none _ 3 _ p1.1 in
      let p7 = first_none _ 6 _ p4.1 in
      let p8 = first_none _ 7 _ p7.1 in
      record { room = room n columns _ p1.0; four = ltb-false _ _ p7.0; most = ltb-false _ _ p8.0 }

module _ (limit tests : ℕ) (best : Option Best) where
  pub search_numbers : Memᴰ (search_refusal limit tests best) (0 ∷ 16 ∷ 11 ∷ [])
  unfolding search_refusal
  search_numbers = numbered _

  pub search_in_order : InOrder (numbers_of (search_refusals limit tests best))
  unfolding those is_among
  search_in_order = refl

  -- a search that is not refused is within the limit, and found a break
  pub search_within : search_refusal limit tests best ≡ 0 → ltb limit tests ≡ false
  unfolding search_refusal
  search_within e = (first_none _ 15 _ e).0

  pub search_found : search_refusal limit tests best ≡ 0 → is_none best ≡ false
  unfolding search_refusal
  search_found e = (first_none _ 10 _ (first_none _ 15 _ e).1).0

-- the number of what a search comes to is its refusal's
pub searched_number : (limit tests : ℕ) (best : Option Best) → number_of (searched limit tests best) ≡ search_refusal limit tests best
unfolding searched search_refusal first_of
searched_number limit tests best = go (ltb limit tests) best
  where
    go : (t : Bool) (o : Option Best) → number_of (cond t (refused_by 16) (found_in o)) ≡ cond t 16 (cond (is_none o) 11 0)
    go true o = refl
    go false None = refl
    go false (Some s) = refl

-- a search that finds a break is within the limit
pub searched_ok : (limit tests : ℕ) (best : Option Best) (s : Best) → searched limit tests best ≡ Ok s → (ltb limit tests ≡ false) × (best ≡ Some s)
unfolding searched
searched_ok limit tests best s h = go (ltb limit tests) best refl refl h
  where
    go : (t : Bool) (o : Option Best) → ltb limit tests ≡ t → best ≡ o → cond t (refused_by 16) (found_in o) ≡ Ok s → (ltb limit tests ≡ false) × (best ≡ Some s)
    go true o q e h = absurd (cc)
    go false None q e h = absurd (cc)
    go false (Some u) q e h = let z : u ≡ s = cc in (q, e ∙ ap (λ v. Some v) z)

-- all numbers that a split answers stand in the checking order
pub answers_in_order : InOrder (1 ∷ 4 ∷ 7 ∷ 8 ∷ 16 ∷ 11 ∷ [])
unfolding those is_among
answers_in_order = refl
