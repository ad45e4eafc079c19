-- Laws of Numbers.antt: settings from lists are those from their numbers, whether the rule of pruning is lent as 0 or not at all.
use Rattle.std.specs.Prelude.{◌≡◌, List, [], ◌∷◌, ℕ, Float}
use Rattle.std.proofs.Math.Path.{refl}
use Rattle.settings.specs.Numbers.{settings_of, settings_in}

module _ (bound most criterion confidence : ℕ) (score : Float) (tolerance : ℕ) (value : Float) where
  pub listed_all : (pruning : ℕ) → settings_in (bound ∷ most ∷ criterion ∷ confidence ∷ tolerance ∷ pruning ∷ []) (score ∷ value ∷ [])
      ≡ settings_of bound most criterion confidence score tolerance value pruning
  unfolding settings_in
  listed_all pruning = refl

  pub listed_first : settings_in (bound ∷ most ∷ criterion ∷ confidence ∷ tolerance ∷ []) (score ∷ value ∷ [])
      ≡ settings_of bound most criterion confidence score tolerance value 0
  unfolding settings_in
  listed_first = refl

  -- further places are not read
  pub listed_more : (pruning : ℕ) (words : List ℕ) (values : List Float)
      → settings_in (bound ∷ most ∷ criterion ∷ confidence ∷ tolerance ∷ pruning ∷ words) (score ∷ value ∷ values)
      ≡ settings_of bound most criterion confidence score tolerance value pruning
  unfolding settings_in
  listed_more pruning words values = refl
