-- What a device does by itself: it recovers, copies, stages or destages a track, the first of these that there is to do.
use Rattle.std.specs.Prelude.{ℕ, ◌&&◌, ◌||◌, Bool, false, List, [], ◌∷◌, Option, Some, None, is_some, if◌then◌else◌}
use Rattle.ckd_types.specs.declared.paths.Side.{Side}
use Rattle.ckd_types.specs.declared.paths.Side.TheVariants.{A, B}
use Rattle.track_image.specs.Image.{Image}
use Rattle.track_table.specs.Tracks.{least}
use Rattle.device_outside.specs.Pool.{WantFrame, DropFrame}
use Rattle.device_outside.specs.Interaction.{Interaction, Done, Ask, Try, and_then}
use Rattle.device_defs.specs.declared.answers.Did.{Did}
use Rattle.device_defs.specs.declared.answers.Did.TheVariants.{Nothing, Recovered, Copied, Staged, Skipped, Destaged, Half, Fault, BadBytes}
use Rattle.device_defs.specs.declared.answers.Took.{Took}
use Rattle.device_defs.specs.declared.answers.Took.TheVariants.{Whole, Opened, Unwritten}
use Rattle.device_defs.specs.Contents.{Contents}
use Rattle.device_defs.specs.Image.{Got, read_side, level_bytes, image_of, filled}
use Rattle.device_defs.specs.Losses.{framed_image, call_failed}
use Rattle.device_defs.specs.Memory.{tried}
use Rattle.device_defs.specs.Owed.{is_modified, waits}
use Rattle.device_defs.specs.Store.{
  OfBackground,
  Store,
  tracks_of,
  stale_at,
  level_at,
  some_up,
  takes_b,
  frame_at,
  patch_at,
  is_lost,
  is_loose,
  with_stale,
}
use Rattle.device_defs.specs.Writing.{write_side, firm_first, write_first, write_done, write_opened}

-- an event in which a call failed is a fault, also where it did its work then
abbrev pub did : Option Side → Did → Did
did None d = d
did (Some side) d = Fault side

abbrev pub other : Side → Side
other A = B
other B = A

module _ {F P H : Type 0} where
  -- the side that is up, not held, and has the track stale, where the other has it level
  abbrev pub copies_to : Store F P H → ℕ → Option Side
  copies_to s t =
      if s.a.up && stale_at s.a t && level_at s.b t then Some A
      else if takes_b s && stale_at s.b t && level_at s.a t then Some B
      else None

  -- the least track to copy
  abbrev pub to_copy : Store F P H → Option ℕ
  to_copy s = least (tracks_of s) (λ t. is_some (copies_to s t))

module _ {F P H R : Type 0} (c : Contents F P H R) where
  -- the least track that waits, where a side is up
  abbrev pub to_recover : Store F P H → Option ℕ
  to_recover s = if some_up s then least (tracks_of s) (waits c s) else None

  -- a loose track, or one that is modified with a patch
  abbrev pub is_destaged : Store F P H → ℕ → Bool
  is_destaged s t = is_loose s t || (is_modified c (frame_at s t) && is_some (patch_at s t))

  -- the least such track, where a side is up
  abbrev pub to_destage : Store F P H → Option ℕ
  to_destage s = if some_up s then least (tracks_of s) (is_destaged s) else None

  -- A track is written to the volumes, where i is its image

  abbrev pub saved_by : ℕ → Image → Did → Option Side → Bool → Option Side → Store F P H → Took → Interaction R Image (Store F P H) Did
  saved_by t i d fault was_loose failed s Whole = and_then (write_done c s t i false) (λ z _. Done z (did fault (did failed d)))
  saved_by t i d fault was_loose failed s Opened = and_then (write_opened c s t i OfBackground was_loose) (λ z _. Done z (did fault (Half t)))
  saved_by t i d fault was_loose failed s Unwritten = Done s (did fault (did failed Nothing))

  abbrev pub saving : Store F P H → ℕ → Image → Did → Option Side → Interaction R Image (Store F P H) Did
  saving s t i d fault =
      and_then (firm_first c s t)
      (λ z was_loose. and_then (write_first c z t (c.bytes i)) (λ y w. saved_by t i d fault was_loose w.fault y w.took))

  abbrev pub saved : Store F P H → ℕ → Image → Did → Option Side → Interaction R Image (Store F P H) (Option Did)
  saved s t i d fault = tried s (and_then (saving s t i d fault) (λ z e. Done z (Some e)))

  -- Recovery

  abbrev pub recovered_image : ℕ → Store F P H → Got R → Option Image → Interaction R Image (Store F P H) (Option Did)
  recovered_image t s g None = Done s (Some (did g.fault (BadBytes g.side)))
  recovered_image t s g (Some i) = saved s t i (Recovered t) g.fault

  abbrev pub recovered_bytes : ℕ → Store F P H → Got R → Option R → Interaction R Image (Store F P H) (Option Did)
  recovered_bytes t s g None = Done s (Some (did g.fault Nothing))
  recovered_bytes t s g (Some r) = tried s (recovered_image t s g (image_of c s t r))

  -- what its frame has, or what a level side has with the patch
  abbrev pub recover : Store F P H → ℕ → Option F → Interaction R Image (Store F P H) (Option Did)
  recover s t (Some f) = saved s t (framed_image c s t (Some f)) (Recovered t) None
  recover s t None = and_then (level_bytes c s t) (λ z g. recovered_bytes t z g g.bytes)

  -- Copying: the bytes as they are. It makes no loose track firm

  abbrev pub copied : ℕ → Side → Store F P H → Bool → Interaction R Image (Store F P H) (Option Did)
  copied t side s ok =
      if ok then Done (with_stale s side t false) (Some (Copied t))
      else and_then (call_failed c s side None) (λ z _. Done z (Some (Fault side)))

  abbrev pub copy_read : ℕ → Side → Store F P H → Option R → Interaction R Image (Store F P H) (Option Did)
  copy_read t side s None = and_then (call_failed c s (other side) None) (λ z _. Done z (Some (Fault (other side))))
  copy_read t side s (Some r) = write_side c s side t r (copied t side)

  abbrev pub copy_by : Store F P H → ℕ → Option Side → Interaction R Image (Store F P H) (Option Did)
  copy_by s t None = Done s (Some Nothing)
  copy_by s t (Some side) = read_side c s (other side) t (copy_read t side)

  -- Staging

  -- a frame that was given and isn't filled is given back
  abbrev pub unfilled : Store F P H → ℕ → Option Did → Interaction R Image (Store F P H) (Option Did)
  unfilled s t d = Ask (DropFrame s.device t) (λ _. Done s d)

  abbrev pub staged_image : ℕ → Store F P H → Got R → Option Image → Interaction R Image (Store F P H) (Option Did)
  staged_image t s g None = unfilled s t (Some (did g.fault (BadBytes g.side)))
  staged_image t s g (Some i) = and_then (filled c s t i) (λ z _. Done z (Some (did g.fault (Staged t))))

  abbrev pub staged_bytes : ℕ → Store F P H → Got R → Option R → Interaction R Image (Store F P H) (Option Did)
  staged_bytes t s g None = unfilled s t (Some (did g.fault Nothing))
  staged_bytes t s g (Some r) = Try (λ ok. if ok then staged_image t s g (image_of c s t r) else unfilled s t None)

  abbrev pub staging_granted : Store F P H → ℕ → Bool → Interaction R Image (Store F P H) (Option Did)
  staging_granted s t given =
      if given then and_then (level_bytes c s t) (λ z g. staged_bytes t z g g.bytes)
      else Done s (Some (Skipped t))

  -- nothing where it has a frame, is lost, or gets no frame
  abbrev pub stage : Store F P H → ℕ → Interaction R Image (Store F P H) (Option Did)
  stage s t =
      if is_some (frame_at s t) || is_lost s t then Done s (Some (Skipped t))
      else tried s (Ask (WantFrame s.device t) (staging_granted s t))

  -- The order

  abbrev pub destage_first : Store F P H → Option ℕ → Interaction R Image (Store F P H) (Option Did)
  destage_first s None = Done s (Some Nothing)
  destage_first s (Some t) = saved s t (framed_image c s t (frame_at s t)) (Destaged t) None

  abbrev pub stage_first : Store F P H → List ℕ → Interaction R Image (Store F P H) (Option Did)
  stage_first s [] = destage_first s (to_destage s)
  stage_first s (t ∷ ts) = stage (record s { queue = ts }) t

  abbrev pub copy_first : Store F P H → Option ℕ → Interaction R Image (Store F P H) (Option Did)
  copy_first s None = stage_first s s.queue
  copy_first s (Some t) = copy_by s t (copies_to s t)

  abbrev pub recover_first : Store F P H → Option ℕ → Interaction R Image (Store F P H) (Option Did)
  recover_first s None = copy_first s (to_copy s)
  recover_first s (Some t) = recover s t (frame_at s t)

  -- the first that applies
  unfoldable pub work : Store F P H → Interaction R Image (Store F P H) (Option Did)
  work s = recover_first s (to_recover s)
