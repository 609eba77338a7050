-- What a second part that isn't done leaves of a track, by its frame.
use Rattle.std.proofs.Common.{◌≡◌, ℕ, true, false, refl}
use Rattle.std.specs.Prelude.{Option, Some, None, is_some}
use Rattle.track_image.specs.Image.{Image}
use Rattle.track_cache.specs.declared.frames.Frame.{Frame}
use Rattle.track_cache.specs.Frames.{is_modified_frame}
use Rattle.device_outside.specs.Interaction.{Done}
use Rattle.device_defs.specs.Contents.{contents}
use Rattle.device_defs.specs.Cutting.{half_cut, is_of_command, origin_cut}
use Rattle.device_defs.specs.Losses.{without_patch}
use Rattle.device_defs.specs.Second.{cut_kept}
use Rattle.device_defs.specs.Store.{HalfWrite, Origin, OfBackground, OfCommand, OfCut, with_frame}
use Rattle.device_store.specs.Looks.{StoreOf}

pub cut_framed : (s : StoreOf) (t : ℕ) (i : Image) (f : Option Frame) → is_some f ≡ true →
    cut_kept contents s t i f ≡ without_patch contents (with_frame s t (Some (record { image = i; modified = is_modified_frame f }))) t
cut_framed s t i None there = absurd cc
cut_framed s t i (Some f) there = refl

pub cut_bare : (s : StoreOf) (t : ℕ) (i : Image) (f : Option Frame) → is_some f ≡ false → cut_kept contents s t i f ≡ s
cut_bare s t i None there = refl
cut_bare s t i (Some f) there = absurd cc

cut_by : (s : StoreOf) (h : HalfWrite Image) (o : Origin) → is_of_command o ≡ false → origin_cut contents s h o ≡ Done s tt
cut_by s h (OfCommand bypass e) not = absurd cc
cut_by s h (OfCut bypass) not = refl
cut_by s h OfBackground not = refl

-- a half write of no command at hand stays as it is
pub cut_none : (s : StoreOf) (h : HalfWrite Image) → is_of_command h.origin ≡ false → half_cut contents s (Some h) ≡ Done s tt
cut_none s h not = cut_by s h h.origin not
