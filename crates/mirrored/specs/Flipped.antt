-- The mirror image of any list of calls: every y with its sign changed, in adds and corrections as a number, in frames as a bit, and in texts as a
-- minus. Calls that read stay as they are. So of a group's calls, where a surface's y is a number of a column. Definitions only.
use Rattle.std.specs.Prelude.{cond, List, ◌∷◌, ◌++◌, map, ℕ, ◌+◌, ◌%◌, ◌<◌, eqb, length, get_or, take, drop}
use Rattle.std.specs.Float.Ieee.{neg}
use Rattle.loops.specs.All.{All}
use Rattle.loops.specs.Places.{table}
use Rattle.samples.specs.declared.Sample.{Sample}
use Rattle.surface.specs.Points.{PointColumns}
use Rattle.frame.specs.Frame.{weighted, sample_bytes}
use Rattle.decimal.specs.Characters.{minus_byte, space_byte}
use Rattle.decimal.specs.Readings.{has_minus}
use Rattle.decimal.specs.Lines.{space_in, newline_in, line_of, lines_in, joined, entry_refusal}
use Rattle.ledger.specs.Ledger.{Change, adds, corrects, withdraws, frames, texts, windows, Call, changes, reads}
use Rattle.ledger.specs.ReadCalls.{ReadCall}
use Rattle.groups.specs.Calls.{SurfaceCall, surface_fits, surface_reports, surface_bands, CostCall, group_reports, group_surfaces, group_splits, GroupCall, books, surfaces, costs}
use Rattle.groups.specs.Shared.{SharedCall, start_all, renew_all, of}

abbrev pub flip_sample : Sample → Sample
flip_sample p = record { x = p.x; y = neg p.y; w = p.w }

-- ---- a frame, of either version

-- the high bit of a byte is changed
abbrev pub flip_byte : ℕ → ℕ
flip_byte b = (b + 128) % 256

-- and so it is in the first byte of every y
unfoldable pub flip_frame : List ℕ → List ℕ
flip_frame f = table (λ i. cond (eqb (i % sample_bytes (weighted f)) 11) (flip_byte (get_or f i 0)) (get_or f i 0)) (length f)

-- ---- a text

-- a reading: its minus is taken out, or one is put in
unfoldable pub flip_reading : List ℕ → List ℕ
flip_reading y = cond (has_minus y) (drop 1 y) (minus_byte ∷ y)

-- what stands in front of a newline: x and the space stay
unfoldable pub flip_body : List ℕ → List ℕ
flip_body l = take (space_in l) l ++ space_byte ∷ flip_reading (drop (space_in l + 1) l)

-- a line; one that is refused stays as it is
unfoldable pub flip_line : List ℕ → List ℕ
flip_line l = cond (eqb (entry_refusal (line_of l)) 0) (flip_body (take (newline_in l) l) ++ drop (newline_in l) l) l

unfoldable pub flip_text : List ℕ → List ℕ
flip_text t = joined (map flip_line (lines_in t))

-- ---- a call

unfoldable pub flip_change : Change → Change
flip_change (adds p) = adds (flip_sample p)
flip_change (corrects i y) = corrects i (neg y)
flip_change (withdraws i) = withdraws i
flip_change (frames f) = frames (flip_frame f)
flip_change (texts t) = texts (flip_text t)
flip_change (windows p) = windows (flip_sample p)

unfoldable pub flip_call : Call ReadCall → Call ReadCall
flip_call (changes c) = changes (flip_change c)
flip_call (reads q) = reads q

-- a frame is made of bytes, as the code's are
abbrev pub InBytes : Call ReadCall → Type 0
InBytes (changes (adds p)) = Unit {0}
InBytes (changes (corrects i y)) = Unit {0}
InBytes (changes (withdraws i)) = Unit {0}
InBytes (changes (frames f)) = All (λ b. b < 256) f
InBytes (changes (texts t)) = Unit {0}
InBytes (changes (windows p)) = Unit {0}
InBytes (reads q) = Unit {0}

-- ---- a call of a group

abbrev pub flip_points : PointColumns → PointColumns
flip_points c = record { xs = c.xs; zs = c.zs; ys = map neg c.ys }

unfoldable pub flip_surface : SurfaceCall → SurfaceCall
flip_surface (surface_fits n degree columns scratch coefficients) = surface_fits n degree (flip_points columns) scratch coefficients
flip_surface (surface_reports n settings columns places) = surface_reports n settings (flip_points columns) places
flip_surface (surface_bands n x z degree confidence tolerance columns scratch) = surface_bands n x z degree confidence tolerance (flip_points columns) scratch

unfoldable pub flip_cost : CostCall → CostCall
flip_cost (group_reports settings places) = group_reports settings places
flip_cost (group_surfaces n settings columns places) = group_surfaces n settings (flip_points columns) places
flip_cost (group_splits settings places) = group_splits settings places

unfoldable pub flip_group : GroupCall → GroupCall
flip_group (books c) = books (flip_call c)
flip_group (surfaces q) = surfaces (flip_surface q)
flip_group (costs q) = costs (flip_cost q)

-- starts and renewals stay as they are
unfoldable pub flip_shared : SharedCall → SharedCall
flip_shared (start_all quota) = start_all quota
flip_shared renew_all = renew_all
flip_shared (of group c) = of group (flip_group c)

abbrev pub SharedInBytes : SharedCall → Type 0
SharedInBytes (start_all quota) = Unit {0}
SharedInBytes renew_all = Unit {0}
SharedInBytes (of group (books c)) = InBytes c
SharedInBytes (of group (surfaces q)) = Unit {0}
SharedInBytes (of group (costs q)) = Unit {0}
