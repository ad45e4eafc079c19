-- Frames and texts alike but for the sign of every y. Definitions only.
use Rattle.std.specs.Prelude.{◌≡◌, ◌⊎◌, List, ℕ, ◌+◌, ◌%◌, ◌<◌, length, get_or}
use Rattle.loops.specs.All.{All}
use Rattle.frame.specs.Frame.{weighted, sample_bytes, wrong_length, wrong_version, decode}
use Rattle.decimal.specs.Lines.{lines_refusal, read_lines}
use Rattle.mirrored.specs.Samples.{MirrorSamples}

-- two frames, of either version: both have the same fault of form or none, and their samples are alike but for the sign of y
pub record MirrorFrame (f g : List ℕ) : Type 0 where
  pub long : wrong_length f ≡ wrong_length g
  pub version : wrong_version f ≡ wrong_version g
  pub samples : MirrorSamples (decode f) (decode g)

-- two texts: the same number refuses both or none, and their samples are alike but for the sign of y
pub record MirrorText (f g : List ℕ) : Type 0 where
  pub refusal : lines_refusal f ≡ lines_refusal g
  pub samples : MirrorSamples (read_lines f) (read_lines g)

-- ---- the same of frames, byte by byte

-- two bytes that differ in the high bit alone
abbrev pub Flipped : ℕ → ℕ → Type 0
Flipped a b = ((a < 128) × (b ≡ a + 128)) ⊎ ((b < 128) × (a ≡ b + 128))

-- The first byte of a y, which has its sign, stands 8 behind the place where the sample begins: at 11, 27, 43, .. where a sample has 16 bytes, and at
-- 11, 35, 59, .. where it has 24. These bytes differ in the high bit, and all others are equal.
pub record SignsFlipped (f g : List ℕ) : Type 0 where
  pub bytes : All (λ b. b < 256) f
  pub long : length f ≡ length g
  pub alike : (i : ℕ) → (i % sample_bytes (weighted f) ≡ 11 → ⊥) → get_or f i 0 ≡ get_or g i 0
  pub flipped : (i : ℕ) → i < length f → i % sample_bytes (weighted f) ≡ 11 → Flipped (get_or f i 0) (get_or g i 0)
