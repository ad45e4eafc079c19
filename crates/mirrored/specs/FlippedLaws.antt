-- Laws of Flipped.antt: every list of calls with the sign of every y changed is its mirror image, of a book and of eight groups.
use Rattle.std.specs.Prelude.{◌≡◌, refl, cond, List, [], ◌∷◌, map, ℕ, ◌%◌, ◌<◌, eqb, length, get_or, Float}
use Rattle.std.proofs.Math.Path.{sym}
use Rattle.std.proofs.Common.{◌∙◌, inl, inr, arith, eq-eqb, ne_eqb}
use Rattle.std.proofs.Math.ListN.{get_or-eq_default}
use Rattle.std.specs.Float.Ieee.{neg}
use Rattle.loops.specs.All.{All}
use Rattle.loops.specs.AllLaws.{all_at}
use Rattle.loops.specs.Cases.{either}
use Rattle.loops.specs.PlaceLaws.{length_table, table_at}
use Rattle.samples.specs.declared.Sample.{Sample}
use Rattle.surface.specs.Points.{PointColumns}
use Rattle.frame.specs.Frame.{weighted, sample_bytes}
use Rattle.ledger.specs.Ledger.{adds, corrects, withdraws, frames, texts, windows, Call, changes, reads}
use Rattle.ledger.specs.ReadCalls.{ReadCall}
use Rattle.groups.specs.Calls.{SurfaceCall, surface_fits, surface_reports, surface_bands, CostCall, group_reports, group_surfaces, group_splits, books, surfaces, costs}
use Rattle.groups.specs.Shared.{SharedCall, start_all, renew_all, of}
use Rattle.signs.specs.OppositeLaws.{opposite_of}
use Rattle.mirror.specs.Pairs.{Pairs, none, and}
use Rattle.mirror.specs.Mirror.{Opposites}
use Rattle.mirrored.specs.Samples.{MirrorSample, MirrorPointColumns}
use Rattle.mirrored.specs.SampleLaws.{columns_mirror}
use Rattle.mirrored.specs.Frames.{Flipped, SignsFlipped}
use Rattle.mirrored.specs.FrameLaws.{frame_mirror}
use Rattle.mirrored.specs.Calls.{adding, correcting, withdrawing, framing, writing, windowing, MirrorCall, changing, reading, MirrorCalls}
use Rattle.mirrored.specs.Groups.{MirrorSurface, surface_fitting, surface_reporting, surface_banding, MirrorCost, group_reporting, group_surfacing, group_splitting, of_book, of_surface, of_cost, MirrorShared, starting_all, renewing_all, made}
use Rattle.mirrored.specs.Flipped.{flip_sample, flip_byte, flip_frame, flip_change, flip_call, InBytes, flip_points, flip_surface, flip_cost, flip_group, flip_shared, SharedInBytes}
use Rattle.mirrored.specs.TextLaws.{text_mirror}

flip_byte_lem : (b : ℕ) → b < 256 → Flipped b (flip_byte b)
flip_byte_lem b h = either 128 b (λ l. inr (omega arith, omega arith)) (λ l. inl (l, omega arith))

module _ (f : List ℕ) where
  flipped_at : ℕ → ℕ
  flipped_at i = cond (eqb (i % sample_bytes (weighted f)) 11) (flip_byte (get_or f i 0)) (get_or f i 0)

  flip_long : length f ≡ length (flip_frame f)
  unfolding flip_frame
  flip_long = sym (length_table _ (length f))

  flip_at : (i : ℕ) → i < length f → get_or (flip_frame f) i 0 ≡ flipped_at i
  unfolding flip_frame flipped_at
  flip_at i l = table_at flipped_at (length f) i 0 l

  flip_alike : (i : ℕ) → (i % sample_bytes (weighted f) ≡ 11 → ⊥) → get_or f i 0 ≡ get_or (flip_frame f) i 0
  unfolding flipped_at
  flip_alike i h =
      either (length f) i (λ l. get_or-eq_default f 0 l ∙ sym (get_or-eq_default (flip_frame f) 0 (rw (← flip_long) l)))
      (λ l. sym (flip_at i l ∙ rw (ne_eqb (i % sample_bytes (weighted f)) 11 h)))

  flip_there : (i : ℕ) → i < length f → i % sample_bytes (weighted f) ≡ 11 → get_or (flip_frame f) i 0 ≡ flip_byte (get_or f i 0)
  unfolding flipped_at
  flip_there i l e = flip_at i l ∙ rw (eq-eqb (i % sample_bytes (weighted f)) 11 e)

  pub flip_frame_lem : All (λ b. b < 256) f → SignsFlipped f (flip_frame f)
  flip_frame_lem a =
      record {
        bytes = a;
        long = flip_long;
        alike = flip_alike;
        flipped = λ i l e. rw (flip_there i l e) (flip_byte_lem (get_or f i 0) (all_at (λ b. b < 256) f i 0 a l));
      }

flip_sample_lem : (p : Sample) → MirrorSample p (flip_sample p)
flip_sample_lem p = record { x = refl; y = opposite_of p.y; w = refl }

pub flip_call_lem : (c : Call ReadCall) → InBytes c → MirrorCall c (flip_call c)
unfolding flip_call flip_change
flip_call_lem (changes (adds p)) b = changing (adding (flip_sample_lem p))
flip_call_lem (changes (corrects i y)) b = changing (correcting i (opposite_of y))
flip_call_lem (changes (withdraws i)) b = changing (withdrawing i)
flip_call_lem (changes (frames f)) b = changing (framing (frame_mirror (flip_frame_lem f b)))
flip_call_lem (changes (texts t)) b = changing (writing (text_mirror t))
flip_call_lem (changes (windows p)) b = changing (windowing (flip_sample_lem p))
flip_call_lem (reads q) b = reading q

-- each of a list, by what is known of it
each_flipped : {C : Type 0} (R : C → C → Type 0) (Known : C → Type 0) (flip : C → C) → ((c : C) → Known c → R c (flip c)) → (cs : List C) → All Known cs
    → Pairs R cs (map flip cs)
each_flipped R Known flip h [] b = none
each_flipped R Known flip h (c ∷ cs) b = and (h c b.0) (each_flipped R Known flip h cs b.1)

pub flip_calls : (cs : List (Call ReadCall)) → All InBytes cs → MirrorCalls cs (map flip_call cs)
flip_calls = each_flipped MirrorCall InBytes flip_call flip_call_lem

-- ---- a call of a group

flip_ys : (l : List Float) → Opposites l (map neg l)
flip_ys [] = none
flip_ys (y ∷ l) = and (opposite_of y) (flip_ys l)

flip_points_lem : (n : ℕ) (c : PointColumns) → MirrorPointColumns n c (flip_points c)
flip_points_lem n c = columns_mirror refl refl (flip_ys c.ys) n

flip_surface_lem : (q : SurfaceCall) → MirrorSurface q (flip_surface q)
unfolding flip_surface
flip_surface_lem (surface_fits n degree columns scratch coefficients) = surface_fitting n degree (flip_points_lem n columns) scratch coefficients
flip_surface_lem (surface_reports n settings columns places) = surface_reporting n settings (flip_points_lem n columns) places
flip_surface_lem (surface_bands n x z degree confidence tolerance columns scratch) = surface_banding n x z degree confidence tolerance (flip_points_lem n columns) scratch

flip_cost_lem : (q : CostCall) → MirrorCost q (flip_cost q)
unfolding flip_cost
flip_cost_lem (group_reports settings places) = group_reporting settings places
flip_cost_lem (group_surfaces n settings columns places) = group_surfacing n settings (flip_points_lem n columns) places
flip_cost_lem (group_splits settings places) = group_splitting settings places

pub flip_shared_lem : (c : SharedCall) → SharedInBytes c → MirrorShared c (flip_shared c)
unfolding flip_shared flip_group
flip_shared_lem (start_all quota) b = starting_all quota
flip_shared_lem renew_all b = renewing_all
flip_shared_lem (of group (books c)) b = made group (of_book (flip_call_lem c b))
flip_shared_lem (of group (surfaces q)) b = made group (of_surface (flip_surface_lem q))
flip_shared_lem (of group (costs q)) b = made group (of_cost (flip_cost_lem q))

pub flip_shared_calls : (cs : List SharedCall) → All SharedInBytes cs → Pairs MirrorShared cs (map flip_shared cs)
flip_shared_calls = each_flipped MirrorShared SharedInBytes flip_shared flip_shared_lem
