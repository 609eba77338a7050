-- A command's write: where its edit goes, when it takes effect, and what the keeper is told.
use Rattle.std.specs.Prelude.{ℕ, ◌&&◌, ◌||◌, not, Bool, true, Option, Some, None, is_some, if◌then◌else◌, nat_le}
use Rattle.ckd_types.specs.declared.record.Edit.{Edit}
use Rattle.ckd_types.specs.Parameters.{is_bypass}
use Rattle.track_image.specs.Image.{Image, edited_image}
use Rattle.track_table.specs.Tracks.{least}
use Rattle.device_outside.specs.Keeper.{BeforeEdit, Firm}
use Rattle.device_outside.specs.Pool.{SetClean, FreeSlot}
use Rattle.device_outside.specs.Interaction.{Interaction, Done, Ask, Tell, and_then}
use Rattle.device_defs.specs.declared.answers.Choice.{Choice}
use Rattle.device_defs.specs.declared.answers.Choice.TheVariants.{Provisional, Fast, Through}
use Rattle.device_defs.specs.declared.answers.Took.{Took}
use Rattle.device_defs.specs.declared.answers.Took.TheVariants.{Whole, Opened, Unwritten}
use Rattle.device_defs.specs.declared.usage.Usage.{Usage}
use Rattle.device_defs.specs.Choosing.{choose, fast_written, provisionally_written}
use Rattle.device_defs.specs.Contents.{Contents}
use Rattle.device_defs.specs.Effects.{with_edit}
use Rattle.device_defs.specs.Losses.{settled}
use Rattle.device_defs.specs.Memory.{tried}
use Rattle.device_defs.specs.Owed.{is_clean}
use Rattle.device_defs.specs.Store.{OfCommand, Store, has_level, takes_b, frame_at, is_loose}
use Rattle.device_defs.specs.Writing.{write_first, write_second, write_done, firm_first, write_opened}

module _ {F P H : Type 0} where
  -- whether a track from `first` up to before t is loose: a command looks at tracks one behind the other
  abbrev pub another_loose : Store F P H → ℕ → ℕ → Bool
  another_loose s first t = is_some (least t (λ q. nat_le first q && is_loose s q))

module _ {F P H R : Type 0} (c : Contents F P H R) where
  -- In all that follows i is the new image

  -- the edit takes effect on a track that isn't loose, and the keeper is told
  abbrev pub effect : {A : Type 0} → Store F P H → ℕ → Image → Edit → (Store F P H → Interaction R Image (Store F P H) A) →
      Interaction R Image (Store F P H) A
  effect s t i e k = Tell (Firm s.device t i) (λ _. k (with_edit s t e))

  abbrev pub whole : Store F P H → ℕ → Image → Edit → Bool → Interaction R Image (Store F P H) Took
  whole s t i e bypass = effect s t i e (λ z. and_then (write_done c z t i bypass) (λ y _. Done y Whole))

  -- the second part in the same event
  abbrev pub at_once : Store F P H → ℕ → Image → Edit → Bool → Interaction R Image (Store F P H) Took
  at_once s t i e bypass =
      and_then (write_second c s t (c.bytes i))
      (λ z _. if has_level z t then whole z t i e bypass else Done (settled c z t) Unwritten)

  abbrev pub through_by : ℕ → Image → Edit → Bool → Bool → Bool → Store F P H → Took → Interaction R Image (Store F P H) Took
  through_by t i e bypass opens was_loose s Whole = whole s t i e bypass
  through_by t i e bypass opens was_loose s Opened =
      if opens then and_then (write_opened c s t i (OfCommand bypass e) was_loose) (λ z _. Done z Opened)
      else at_once s t i e bypass
  through_by t i e bypass opens was_loose s Unwritten = Done s Unwritten

  -- with two sides it takes two events, unless another track that the command looked at is loose
  unfoldable pub through : Store F P H → ℕ → Image → Edit → Bool → Bool → Interaction R Image (Store F P H) Took
  through s t i e bypass opens =
      and_then (firm_first c s t)
      (λ z was_loose. and_then (write_first c z t (c.bytes i)) (λ y w. through_by t i e bypass opens was_loose y w.took))

  abbrev pub write_by : Usage → ℕ → ℕ → Image → Edit → Store F P H → Choice → Interaction R Image (Store F P H) Took
  write_by u first t i e s Provisional = Done (provisionally_written c s t i e) Whole
  write_by u first t i e s (Fast slot) = Tell (Firm s.device t i) (λ _. Done (fast_written c s t i e slot) Whole)
  write_by u first t i e s Through = through s t i e (is_bypass u.mode) (not (another_loose s first t))

  abbrev pub written : Store F P H → Usage → ℕ → ℕ → Image → Edit → Choice → Interaction R Image (Store F P H) (Option Took)
  written s u first t old e choice =
      and_then (write_by u first t (edited_image e old) e s choice) (λ z took. Done z (Some took))

  -- the edit goes to a frame, or to a volume
  abbrev pub is_given : Store F P H → Choice → Bool
  is_given s Through = s.a.up || takes_b s
  is_given s _ = true

  abbrev pub clean_again : Store F P H → ℕ → Interaction R Image (Store F P H) (Option Took)
  clean_again s t = if is_clean c (frame_at s t) then Ask (SetClean s.device t) (λ _. Done s None) else Done s None

  -- memory was lacking: a new slot is given back, and a frame that the pool was told as modified is clean as before
  abbrev pub unchosen : Store F P H → ℕ → Choice → Interaction R Image (Store F P H) (Option Took)
  unchosen s t (Fast (Some slot)) = Ask (FreeSlot slot) (λ _. clean_again s t)
  unchosen s t (Fast None) = clean_again s t
  unchosen s t Provisional = clean_again s t
  unchosen s t Through = Done s None

  -- the keeper is told the track before an edit that is given to something
  abbrev pub write_chosen : Usage → ℕ → ℕ → Image → Edit → Store F P H → Choice → Interaction R Image (Store F P H) (Option Took)
  write_chosen u first t old e s choice =
      if is_given s choice then
      Tell (BeforeEdit s.device t old) (λ ok. if ok then written s u first t old e choice else unchosen s t choice)
      else written s u first t old e choice

  -- of a command that looked at the tracks from `first` to t, the last one of which is this
  unfoldable pub write : Store F P H → Usage → ℕ → ℕ → Image → Edit → Interaction R Image (Store F P H) (Option Took)
  write s u first t old e = tried s (and_then (choose c s u t) (write_chosen u first t old e))
