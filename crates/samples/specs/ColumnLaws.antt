-- Laws of Columns.antt.
use Rattle.std.specs.Prelude.{◌≡◌, refl, ℕ, ◌+◌, ◌≤◌, length, take, Float}
use Rattle.std.proofs.Common.{sym, ◌∙◌}
use Rattle.std.proofs.Math.Path.{fun_ext}
use mathlib.Core.List.{List, [], ◌∷◌, ◌++◌, map, Memᴰ}
use Rattle.std.specs.Float.{nan}
use Rattle.loops.specs.All.{All}
use Rattle.loops.specs.Places.{table}
use Rattle.loops.specs.PlaceLaws.{table_again, length_table, map_table, table_take}
use Rattle.samples.specs.declared.Sample.{Sample}
use Rattle.samples.specs.Columns.{Column, of_x, of_y, of_w, every, value, Columns, columns_of, lengths, sample_at, samples_of}

-- no column is left out of the list
pub every_column : (k : Column) → Memᴰ k every
every_column of_x = Memᴰ.head refl
every_column of_y = Memᴰ.tail (Memᴰ.head refl)
every_column of_w = Memᴰ.tail (Memᴰ.tail (Memᴰ.head refl))

-- what holds of all lengths holds of each column's
pub of_every : (P : ℕ → Type 0) (c : Columns) → All P (lengths c) → (k : Column) → P (length (c k))
of_every P c a of_x = a.0
of_every P c a of_y = a.1.0
of_every P c a of_w = a.1.1.0

-- columns of the same lengths
pub lengths_same : (c d : Columns) → ((k : Column) → length (c k) ≡ length (d k)) → lengths c ≡ lengths d
lengths_same c d e = λ i. e of_x i ∷ e of_y i ∷ e of_w i ∷ []

-- columns are what each of them is
pub columns_are : {c : Columns} {xs ys ws : List Float} → xs ≡ c of_x → ys ≡ c of_y → ws ≡ c of_w → columns_of xs ys ws ≡ c
columns_are e f g = fun_ext (elim [ of_x ↦ e | of_y ↦ f | of_w ↦ g ])

-- ---- the samples of the first n places

module _ (n : ℕ) (c : Columns) where
  pub length_samples : length (samples_of n c) ≡ n
  unfolding samples_of
  length_samples = length_table (sample_at c) n

  -- one place more is one sample more at the end
  pub samples_again : samples_of (n + 1) c ≡ samples_of n c ++ (sample_at c n ∷ [])
  unfolding samples_of
  samples_again = table_again (sample_at c) n

  -- what g makes of each sample
  pub map_samples : {B : Type 0} (g : Sample → B) → table (λ t. g (sample_at c t)) n ≡ map g (samples_of n c)
  unfolding samples_of
  map_samples g = map_table g (sample_at c) n

  -- the values of the samples are the first n places of their column
  pub column_of_samples : (k : Column) → n ≤ length (c k) → map (value k) (samples_of n c) ≡ take n (c k)
  column_of_samples of_x h = sym (map_samples (value of_x)) ∙ table_take nan n (c of_x) h
  column_of_samples of_y h = sym (map_samples (value of_y)) ∙ table_take nan n (c of_y) h
  column_of_samples of_w h = sym (map_samples (value of_w)) ∙ table_take nan n (c of_w) h
