-- Lists, place by place: `each` puts the first places through a function, `table` makes a list of n places. Definitions only.
use Rattle.std.specs.Prelude.{List, [], ◌∷◌, ℕ, zero, suc}

-- each place k below n goes through f k; the others stand
unfoldable pub each : {A : Type 0} → (ℕ → A → A) → ℕ → List A → List A
each f zero s = s
each f (suc n) [] = []
each f (suc n) (v ∷ vs) = f 0 v ∷ each (λ k. f (suc k)) n vs

-- n places: f 0, f 1, ..
unfoldable pub table : {A : Type 0} → (ℕ → A) → ℕ → List A
table f zero = []
table f (suc n) = f 0 ∷ table (λ k. f (suc k)) n
