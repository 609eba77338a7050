-- What a command saw of the tracks that it looked at, which volumes it called for that, and how many reads and writes each part of it made; also where the
-- volumes don't tell what they hold.
use Rattle.std.specs.Prelude.{◌≡◌, ◌+◌, ℕ, suc, Bool, true, false, List, [], ◌∷◌, Option, Some, None, length}
use Rattle.ckd_types.specs.declared.geometry.Geometry.{Geometry}
use Rattle.ckd_types.specs.declared.paths.Side.{Side}
use Rattle.ckd_types.specs.declared.paths.Side.TheVariants.{A, B}
use Rattle.ckd_types.specs.declared.record.Edit.{Edit}
use Rattle.ckd_types.specs.declared.record.Track.{Track}
use Rattle.ckd_types.specs.Parameters.{is_bypass}
use Rattle.ckd_rules.specs.declared.order.LocalAct.{LocalAct}
use Rattle.ckd_chain.specs.declared.progress.Progress.{Progress}
use Rattle.ckd_chain.specs.declared.progress.Progress.TheVariants as progresses
use Rattle.ckd_chain.specs.declared.progress.Settled.{Settled}
use Rattle.ckd_chain.specs.declared.progress.Settled.TheVariants.{Written, Equipment}
use Rattle.ckd_chain.specs.Fed.{Fed, fed}
use Rattle.ckd_chain.specs.State.{ChainState}
use Rattle.ckd_chain.specs.Steps.{need_of, stepped, behind, end_with, settled_by}
use Rattle.plain_defs.specs.History.{OpenEntry}
use Rattle.plain_device.specs.Acted.{settled_act, paths_behind}
use Rattle.track_image.specs.Image.{Image}
use Rattle.track_cache.specs.declared.frames.Frame.{Frame}
use Rattle.device_outside.specs.Keeper.{Hearing}
use Rattle.device_outside.specs.Outside.{Answered, Outside, PortView, view_of, Ran}
use Rattle.device_outside.specs.Pool.{Touch}
use Rattle.device_outside.specs.Volume.{VolumeView}
use Rattle.device_defs.specs.declared.answers.Came.{Came}
use Rattle.device_defs.specs.declared.answers.Came.TheVariants.{Ends, Checks, HalfOpen}
use Rattle.device_defs.specs.declared.answers.Choice.{Choice}
use Rattle.device_defs.specs.declared.answers.Choice.TheVariants.{Provisional, Fast, Through}
use Rattle.device_defs.specs.declared.answers.SecondEnd.{SecondEnd}
use Rattle.device_defs.specs.declared.answers.Stepped.{Stepped}
use Rattle.device_defs.specs.declared.answers.Took.{Took}
use Rattle.device_defs.specs.declared.answers.Took.TheVariants.{Whole, Opened, Unwritten}
use Rattle.device_defs.specs.declared.counts.Counts.{Counts}
use Rattle.device_defs.specs.declared.usage.Usage.{Usage}
use Rattle.device_defs.specs.Choosing.{choose}
use Rattle.device_defs.specs.Command.{has_loss}
use Rattle.device_defs.specs.Contents.{contents}
use Rattle.device_defs.specs.Events.{second_told, second_turn}
use Rattle.device_defs.specs.Device.{event_begun}
use Rattle.device_defs.specs.Image.{got, level_bytes, image_of}
use Rattle.device_defs.specs.Outcomes.{Turn, checks, told_step, turned, usage_of}
use Rattle.device_defs.specs.Owed.{hear}
use Rattle.device_defs.specs.Sound.{DeviceStore}
use Rattle.device_defs.specs.Store.{HalfWrite, OfCommand, Store, tracks_of, level_at, frame_at, is_lost, with_frame}
use Rattle.device_laws.specs.Standing.{RunsOn}
use Rattle.device_laws.specs.Whole.{WholeDevice}
use Rattle.device_laws.specs.Moved.{Counted, miss_reads, choice_writes, sides_writing}

-- no volume was called between these two
pub record NotCalled {R K : Type 0} (u z : Outside R K) : Type 0 where
  pub a : z.a ≡ u.a
  pub b : z.b ≡ u.b

-- the bytes that this side delivered last
pub record LastOf {K : Type 0} (u : Outside (List ℕ) K) (side : Side) (bytes : List ℕ) : Type 0 where
  pub view : VolumeView (List ℕ)
  pub is : view_of u side ≡ Some view
  pub delivered : view.delivered ≡ Some bytes

-- a track that was looked at, the image that was seen, and how many reads that made
pub record Look : Type 0 where
  pub track : ℕ
  pub image : Image
  pub reads : ℕ

abbrev pub look_at : ℕ → Image → ℕ → Look
look_at t i reads = record { track = t; image = i; reads = reads }

-- of all of them
abbrev pub reads_of : List Look → ℕ
reads_of [] = 0
reads_of (l ∷ ls) = l.reads + reads_of ls

-- the images are those of these tracks, on volumes of this geometry
abbrev pub AreOf : Geometry → (ℕ → Track) → List Look → Type 0
AreOf g tracks [] = Unit {0}
AreOf g tracks (l ∷ ls) = (l.image ≡ record { geometry = g; track = tracks l.track }) × AreOf g tracks ls

-- It ends so, or its write is half done and it ends so once that is done. Of an equipment or a data check nothing is said
abbrev pub EndsAs : Fed → ChainState → Came → Type 0
EndsAs f chain (Ends e) = (f.end ≡ e) × (f.chain ≡ chain)
EndsAs f chain (Checks e) = Unit {0}
EndsAs f chain (HalfOpen t) = (f.end ≡ end_with chain (settled_by chain Written)) × (f.chain ≡ behind chain (settled_by chain Written))

abbrev pub asks_write : Progress → Bool
asks_write (progresses.Ended e) = false
asks_write (progresses.Need t) = false
asks_write (progresses.Write t e) = true
asks_write (progresses.Local act) = false

-- a write that is half done then
abbrev pub is_opened : Took → Bool
is_opened Whole = false
is_opened Opened = true
is_opened Unwritten = false

abbrev pub is_half : Came → Bool
is_half (Ends e) = false
is_half (Checks e) = false
is_half (HalfOpen t) = true

-- The side that gave the bytes of a track, and the first that failed: A where the track is level there, else B; and B where A's read failed and it is level
-- there
pub data ReadFrom {F P H : Type 0} (s : Store F P H) (t : ℕ) : Side → Option Side → Type 0 where
  from_a : level_at s.a t ≡ true → ReadFrom s t A None
  from_b : level_at s.a t ≡ false → level_at s.b t ≡ true → ReadFrom s t B None
  after_a : level_at s.a t ≡ true → level_at s.b t ≡ true → ReadFrom s t B (Some A)

-- no side gave them: how many reads failed, one of each side where the track is level, and the first side whose did
pub data ReadNone {F P H : Type 0} (s : Store F P H) (t : ℕ) : ℕ → Option Side → Type 0 where
  none_level : level_at s.a t ≡ false → level_at s.b t ≡ false → ReadNone s t 0 None
  a_failed : level_at s.a t ≡ true → level_at s.b t ≡ false → ReadNone s t 1 (Some A)
  b_failed : level_at s.a t ≡ false → level_at s.b t ≡ true → ReadNone s t 1 (Some B)
  both_failed : level_at s.a t ≡ true → level_at s.b t ≡ true → ReadNone s t 2 (Some A)

-- a fast or a provisional write
abbrev pub is_in_cache : Choice → Bool
is_in_cache Provisional = true
is_in_cache (Fast slot) = true
is_in_cache Through = false

module _ {K : Type 0} where
  -- A track is read that has no frame, or has a clean one in bypass mode, or one of which the pool answers that it lists it no more: that frame goes. What
  -- it is read from, and the outside then
  pub data IsMissed (s : DeviceStore) (usage : Usage) (t : ℕ) (u : Outside (List ℕ) K) : DeviceStore → Outside (List ℕ) K → Type 0 where
    no_frame : frame_at s t ≡ None → IsMissed s usage t u s u
    bypassed : (f : Frame) → frame_at s t ≡ Some f → f.modified ≡ false → is_bypass usage.mode ≡ true → IsMissed s usage t u s u
    unlisted : (f : Frame) (p : PortView) → frame_at s t ≡ Some f → f.modified ≡ false → is_bypass usage.mode ≡ false →
        Answered u.port (Touch s.device t) false p → IsMissed s usage t u (with_frame s t None) (record u { port = p })

  -- A track is seen in its frame where that is modified, and where it is clean, the mode isn't bypass and the pool answers that it lists it. The outside then
  pub data IsHit (s : DeviceStore) (usage : Usage) (t : ℕ) (u : Outside (List ℕ) K) (f : Frame) : Outside (List ℕ) K → Type 0 where
    modified : f.modified ≡ true → IsHit s usage t u f u
    listed : (p : PortView) → f.modified ≡ false → is_bypass usage.mode ≡ false → Answered u.port (Touch s.device t) true p →
        IsHit s usage t u f (record u { port = p })

module _ {K : Type 0} (had : Bool → Type 0) (hears : Hearing Image K) where
  -- A look at a track of this store saw this image, made so many reads and no write, and left a store. A hit saw what is in the frame, and called no
  -- volume: it made none. A miss saw what the bytes of a level side make, with the patch that is held; it made one, and one more where side A's read failed
  pub data Saw (s : DeviceStore) (usage : Usage) (t : ℕ) (u : Outside (List ℕ) K) (i : Image) : ℕ → DeviceStore → Outside (List ℕ) K → Type 0 where
    hit : {z : Outside (List ℕ) K} (f : Frame) → frame_at s t ≡ Some f → IsHit s usage t u f z → i ≡ f.image → NotCalled u z → Saw s usage t u i 0 s z
    missed : {e : DeviceStore} {z : Outside (List ℕ) K} (x y : DeviceStore) (v w : Outside (List ℕ) K) (side : Side) (bytes : List ℕ)
        (fault : Option Side) → IsMissed s usage t u x v → Ran had hears (level_bytes contents x t) v y (got side (Some bytes) fault) w →
        ReadFrom x t side fault → LastOf w side bytes → image_of contents y t bytes ≡ Some i → NotCalled w z →
        Counted (miss_reads fault) 0 s.counts e.counts → Saw s usage t u i (miss_reads fault) e z

  -- A look that saw no image: its track is lost, and no volume was called; or no level side gave bytes, and each of them was read once; or the bytes that
  -- came are no track
  pub data SawNone (s : DeviceStore) (usage : Usage) (t : ℕ) (u : Outside (List ℕ) K) : ℕ → DeviceStore → Outside (List ℕ) K → Type 0 where
    lost : {z : Outside (List ℕ) K} → is_lost s t ≡ true → NotCalled u z → SawNone s usage t u 0 s z
    unread : {e : DeviceStore} {z : Outside (List ℕ) K} (x y : DeviceStore) (v w : Outside (List ℕ) K) (reads : ℕ) (side : Side) (fault : Option Side) →
        IsMissed s usage t u x v → Ran had hears (level_bytes contents x t) v y (got side None fault) w → ReadNone x t reads fault → NotCalled w z →
        Counted reads 0 s.counts e.counts → SawNone s usage t u reads e z
    no_track : {e : DeviceStore} {z : Outside (List ℕ) K} (x y : DeviceStore) (v w : Outside (List ℕ) K) (side : Side) (bytes : List ℕ)
        (fault : Option Side) → IsMissed s usage t u x v → Ran had hears (level_bytes contents x t) v y (got side (Some bytes) fault) w →
        ReadFrom x t side fault → LastOf w side bytes → image_of contents y t bytes ≡ None → NotCalled w z →
        Counted (miss_reads fault) 0 s.counts e.counts → SawNone s usage t u (miss_reads fault) e z

  -- looks one behind the other, each at the track that the chain asks for then, and behind which it asked for a further one. What they leave: the chain,
  -- and a store
  pub data WentOn : ChainState → DeviceStore → Outside (List ℕ) K → List Look → ChainState → DeviceStore → Outside (List ℕ) K → Type 0 where
    none_yet : {chain : ChainState} {s : DeviceStore} {u : Outside (List ℕ) K} → WentOn chain s u [] chain s u
    one_more : {chain final : ChainState} {s y e : DeviceStore} {u v z : Outside (List ℕ) K} {ls : List Look} (t next : ℕ) (i : Image) (reads : ℕ) →
        need_of chain ≡ Some t → Saw s (usage_of chain) t u i reads y v → (stepped chain (Some i)).progress ≡ progresses.Need next →
        WentOn (stepped chain (Some i)).chain y v ls final e z → WentOn chain s u (look_at t i reads ∷ ls) final e z

  -- Behind the last look: nothing more, or a write of its track where the chain asks for one, which is half done then or isn't; how many writes of volumes
  -- that made, and no read; and the store that it left. In the cache alone it calls no volume
  pub data Wrote (usage : Usage) (t : ℕ) (s : DeviceStore) (u : Outside (List ℕ) K) (asked half : Bool) : ℕ → DeviceStore → Outside (List ℕ) K →
      Type 0 where
    no_write : {z : Outside (List ℕ) K} → asked ≡ false → half ≡ false → NotCalled u z → Wrote usage t s u asked half 0 s z
    wrote : {e : DeviceStore} {z : Outside (List ℕ) K} (v : Outside (List ℕ) K) (choice : Choice) → asked ≡ true →
        Ran had hears (choose contents s usage t) u s choice v → (is_in_cache choice ≡ true → NotCalled u z) →
        Counted 0 (choice_writes (sides_writing s) choice half) s.counts e.counts →
        Wrote usage t s u asked half (choice_writes (sides_writing s) choice half) e z

  -- A command that began so came out so, by the images that it saw. Between these counts it made the reads of its looks and the writes of its write. It ends
  -- with equipment or data check where its last look saw no image, or where it asks for more tracks than there are; also behind an image it may
  pub data CameAsSeen (n : ℕ) (g : Geometry) (chain : ChainState) (s : DeviceStore) (u : Outside (List ℕ) K) (turn : Turn) (old new : Counts)
      (z : Outside (List ℕ) K) : Type 0 where
    came : (looks : List Look) (final : ChainState) (t : ℕ) (i : Image) (reads writes : ℕ) (x y e : DeviceStore) (v w : Outside (List ℕ) K) →
        WentOn chain s u looks final x v → need_of final ≡ Some t → Saw x (usage_of final) t v i reads y w →
        Wrote (usage_of final) t y w (asks_write (stepped final (Some i)).progress) (is_half turn.came) writes e z →
        ((tracks : ℕ → Track) (answer : LocalAct → Settled) → AreOf g tracks looks → i ≡ record { geometry = g; track = tracks t } →
        EndsAs (fed n tracks answer chain) turn.chain turn.came) → Counted (reads_of looks + reads) writes old new → CameAsSeen n g chain s u turn old new z
    unseen : {c : _} (looks : List Look) (final : ChainState) (t reads : ℕ) (x y : DeviceStore) (v : Outside (List ℕ) K) → turn.came ≡ Checks c →
        WentOn chain s u looks final x v → need_of final ≡ Some t → SawNone x (usage_of final) t v reads y z →
        Counted (reads_of looks + reads) 0 old new → CameAsSeen n g chain s u turn old new z
    too_many : {c : _} (looks : List Look) (final : ChainState) (x : DeviceStore) → length looks ≡ n → turn.came ≡ Checks c →
        WentOn chain s u looks final x z → Counted (reads_of looks) 0 old new → CameAsSeen n g chain s u turn old new z

-- what is kept behind the command of a path, of the device as it was before it or behind an act on its paths
pub record IsKept (d : WholeDevice) (path : ℕ) (turn : Turn) (a : Stepped) (e : WholeDevice) : Type 0 where
  pub answer : a ≡ told_step turn.came
  pub paths : e.paths ≡ (turned d path turn).paths
  pub chain : e.chain ≡ (turned d path turn).chain

-- the device once it did an act that a command asked for, or refused it
abbrev pub with_act : WholeDevice → ℕ → LocalAct → WholeDevice
with_act d path act = record d { paths = paths_behind d.paths path act }

-- how a command of the paths came out that asked for an act, or for none
abbrev pub answered : WholeDevice → ℕ → ChainState → Progress → WholeDevice
answered d path chain (progresses.Local act) = with_act d path act
answered d path chain p = d

module _ {K : Type 0} (had : Bool → Type 0) (hears : Hearing Image K) where
  -- the event took its notices, and left this store
  pub record Noticed (d : WholeDevice) (u : Outside (List ℕ) K) (s : DeviceStore) (v : Outside (List ℕ) K) : Type 0 where
    pub answer : Unit {0}
    pub ran : Ran had hears (hear contents 960 (event_begun d).store) u s answer v
    pub quiet : NotCalled u v

  -- A command of the running program: by the images of the tracks that it looked at, and by what the device kept of its paths. Once data of
  -- cache fast write were lost in its own program it looks at none. One that looks at none makes no transfer; any other makes those of its looks and of its
  -- write
  pub data CommandCame (d : WholeDevice) (o : OpenEntry) (chain : ChainState) (u : Outside (List ℕ) K) (a : Stepped) (e : WholeDevice)
      (z : Outside (List ℕ) K) : Type 0 where
    data_lost : has_loss o.acts ≡ true → IsKept d o.path (checks chain Equipment) a e → NotCalled u z →
        Counted 0 0 d.store.counts e.store.counts → CommandCame d o chain u a e z
    looked : (t : ℕ) (s : DeviceStore) (v w : Outside (List ℕ) K) (turn : Turn) → need_of chain ≡ Some t → Noticed d u s v →
        CameAsSeen had hears (tracks_of d.store) d.store.geometry chain s v turn d.store.counts e.store.counts w → NotCalled w z →
        IsKept d o.path turn a e → CommandCame d o chain u a e z
    asked : (turn : Turn) → need_of chain ≡ None → NotCalled u z →
        ((n : ℕ) (tracks : ℕ → Track) → EndsAs (fed (suc n) tracks (settled_act d.store.geometry d.paths o.path) chain) turn.chain turn.came) →
        IsKept (answered d o.path chain (stepped chain None).progress) o.path turn a e → Counted 0 0 d.store.counts e.store.counts →
        CommandCame d o chain u a e z

-- the second part of a command's write, done or not: the command ends as the chain that was kept does, or with equipment check
pub record SecondCame (d : WholeDevice) (o : OpenEntry) (kept : ChainState) (t : ℕ) (a : SecondEnd) (e : WholeDevice) : Type 0 where
  pub done : Bool
  pub answer : a ≡ second_told contents t (second_turn contents kept done).came
  pub paths : e.paths ≡ (turned d o.path (second_turn contents kept done)).paths
  pub chain : e.chain ≡ (turned d o.path (second_turn contents kept done)).chain

-- what is kept of the paths, and the chain, are as they were
pub record KeepsPaths (d e : WholeDevice) : Type 0 where
  pub paths : e.paths ≡ d.paths
  pub chain : e.chain ≡ d.chain

-- As the calls of a device say it

module _ {K : Type 0} (had : Bool → Type 0) (hears : Hearing Image K) where
  -- a command of a running program that ended, or is half done
  abbrev pub EndsAsSeen : WholeDevice → Outside (List ℕ) K → WholeDevice → Option Stepped → Outside (List ℕ) K → Type 0
  EndsAsSeen d u e a z =
      (o : OpenEntry) (chain : ChainState) (x : Stepped) → d.history.running ≡ Some o → d.chain ≡ Some chain →
      RunsOn d.store.cylinders d.store.geometry chain → a ≡ Some x → CommandCame had hears d o chain u x e z

-- a command's half write that was open
abbrev pub EndsAsKept : WholeDevice → WholeDevice → SecondEnd → Type 0
EndsAsKept d e a =
    (o : OpenEntry) (chain : ChainState) (h : HalfWrite Image) (bypass : Bool) (edit : Edit) → d.store.half ≡ Some h → h.origin ≡ OfCommand bypass edit →
    d.history.running ≡ Some o → d.chain ≡ Some chain → SecondCame d o chain h.track a e
