-- The primitive moves of a device's tracks and sides, and what is kept by each is kept by all.
use Rattle.std.proofs.Common.{[], ◌≡◌, ◌≤◌, ℕ, Bool, true, false, List, ◌∷◌, ◌++◌, Option, Some, None, is_some, ◌⊎◌}
use Rattle.std.specs.Prelude.{length, nat_lt}
use Rattle.ckd_types.specs.declared.paths.Side.{Side}
use Rattle.ckd_types.specs.declared.paths.Side.TheVariants as sides
use Rattle.ckd_types.specs.declared.record.Edit.{Edit}
use Rattle.loss_model.specs.declared.Loss.{Loss}
use Rattle.loss_model.specs.declared.Loss.TheVariants as losses
use Rattle.plain_defs.specs.declared.journal.Act.TheVariants.{CfwLost}
use Rattle.track_image.specs.Image.{Image}
use Rattle.device_outside.specs.Interaction.{Interaction}
use Rattle.device_defs.specs.declared.owed.Owed.{Owed}
use Rattle.device_defs.specs.Choosing.{fast_written, provisionally_written}
use Rattle.device_defs.specs.Contents.{Contents}
use Rattle.device_defs.specs.Effects.{with_edit, act_noted, hardened, gone_back}
use Rattle.device_defs.specs.Events.{with_loss}
use Rattle.device_defs.specs.Image.{read_counted}
use Rattle.device_defs.specs.Losses.{owes_modified, hardened_by_loss, stale_everywhere, down}
use Rattle.device_defs.specs.Owed.{is_modified, is_clean}
use Rattle.device_defs.specs.Second.{half_closed}
use Rattle.device_defs.specs.Store.{
  Origin,
  OfCut,
  HalfWrite,
  Store,
  stale_at,
  takes_b,
  has_level,
  has_loose,
  frame_at,
  patch_at,
  is_lost,
  is_loose,
  half_is,
  owed_at,
  with_stale,
  with_frame,
  with_patch,
  with_lost,
  with_owed,
}
use Rattle.device_defs.specs.Writing.{write_counted, taken_a, cleaned, half_opened}
use Rattle.device_laws.proofs.walks.Within.{Policy, MayFail, Inner, Within}

-- What an event is: no half write is open as it begins, and only there is a loose track written to the volumes; one may be open; or it is one
-- of a loss; and apart from events, what gives up frames and patches
pub data Kind : Type 0 where
  Shut : Kind
  Half : Kind
  Emptied : Kind
  Losing : Loss → Kind

-- it may give up frames
abbrev pub Empties : Kind → Type 0
Empties Shut = ⊥
Empties Half = ⊥
Empties Emptied = Unit {0}
Empties (Losing loss) = Unit {0}

-- tracks may become stale on all sides, where the store was lost
abbrev pub Stales : Kind → Type 0
Stales Shut = ⊥
Stales Half = ⊥
Stales Emptied = Unit {0}
Stales (Losing losses.Cache) = ⊥
Stales (Losing losses.Store) = Unit {0}
Stales (Losing (losses.Side side)) = ⊥

-- a track that is level on no side, of a device that isn't lent, and isn't lost yet
pub record IsBare {F P H : Type 0} (z : Store F P H) (t : ℕ) : Type 0 where
  pub lent : is_some z.lent ≡ false
  pub there : is_lost z t ≡ false
  pub none : has_level z t ≡ false

module _ {K F P H : Type 0} (w : Policy K) where
  -- a track isn't loose, or a call failed
  abbrev pub IsFirm : Store F P H → ℕ → Type 0
  IsFirm z t = (is_loose z t ≡ false) ⊎ MayFail w

  -- behind a write of a track: some side has it, and it is firm, or the open half write is of it; or a call failed
  pub data IsWritten (kind : Kind) (z : Store F P H) (t : ℕ) : Type 0 where
    first_written : has_level z t ≡ true → is_loose z t ≡ false → IsWritten kind z t
    second_written : (kind ≡ Shut → ⊥) → has_level z t ≡ true → (h : HalfWrite H) → z.half ≡ Some h → h.track ≡ t → IsWritten kind z t
    write_failed : MayFail w → IsWritten kind z t

  -- why a half write ends: some side has its track, and no patch is left; side B wasn't tried, and no side has it; a call failed; or the power did
  pub data Closes (kind : Kind) (z : Store F P H) : Type 0 where
    half_done : (h : HalfWrite H) → z.half ≡ Some h → has_level z h.track ≡ true → patch_at z h.track ≡ None → Closes kind z
    half_untried : (kind ≡ Shut → ⊥) → (h : HalfWrite H) → z.half ≡ Some h → has_level z h.track ≡ false → takes_b z ≡ false → Closes kind z
    half_failed : MayFail w → Closes kind z
    half_emptied : Empties kind → Closes kind z

-- a track's frame isn't modified, or a call failed
abbrev pub IsPlain : {K F P H R : Type 0} → Policy K → Contents F P H R → Store F P H → ℕ → Type 0
IsPlain w c z t = (is_modified c (frame_at z t) ≡ false) ⊎ MayFail w

-- a half write is to be opened where side A took the track and side B takes writes
abbrev pub MayOpen : {F P H : Type 0} → Store F P H → ℕ → Type 0
MayOpen z t = (z.a.up ≡ true) × (takes_b z ≡ true) × (stale_at z.a t ≡ false)

module _ {K F P H R : Type 0} (w : Policy K) (kind : Kind) (c : Contents F P H R) (k : K) (s : Store F P H) where
  -- From store s on to another, and from what the policy kept before to what it keeps then
  pub data Moves : K → Store F P H → Type 0 where
    stays : Moves k s
    -- calls of the volumes
    reads : {m n : K} {z : Store F P H} → Moves m z → (ok : Bool) → w.read m ok ≡ Some n → Moves n (read_counted z ok)
    writes : {m n : K} {z : Store F P H} → Moves m z → (ok : Bool) → w.wrote m ok ≡ Some n → Moves n (write_counted z ok)
    falls_reading : {m n : K} {z : Store F P H} → Moves m z → (side : Side) → z.paired ≡ true → w.read m false ≡ Some n →
        Moves n (down (read_counted z false) side)
    falls_writing : {m n : K} {z : Store F P H} → Moves m z → (side : Side) → z.paired ≡ true → w.wrote m false ≡ Some n →
        Moves n (down (write_counted z false) side)
    falls : {n : K} {z : Store F P H} → Moves n z → (side : Side) → kind ≡ Losing (losses.Side side) → Moves n (down z side)
    -- what sides have of a track
    takes : {n : K} {z : Store F P H} → Moves n z → (t : ℕ) → kind ≡ Shut → z.a.up ≡ true → Moves n (taken_a z t)
    levels : {n : K} {z : Store F P H} → Moves n z → (side : Side) (t : ℕ) → Moves n (with_stale z side t false)
    spoils : {n : K} {z : Store F P H} → Moves n z → (t : ℕ) → kind ≡ Shut → z.paired ≡ false → MayFail w → Moves n (with_stale z sides.A t true)
    stales : {n : K} {z : Store F P H} → Moves n z → (t : ℕ) → half_is z.half t ≡ false → Stales kind → Moves n (stale_everywhere z t)
    firms : {n : K} {z : Store F P H} → Moves n z → (t : ℕ) → kind ≡ Shut → is_loose z t ≡ true → (z.a.up ≡ false) ⊎ MayFail w →
        Moves n (stale_everywhere (hardened z t) t)
    firms_taken : {m n : K} {z : Store F P H} → Moves m z → (t : ℕ) → kind ≡ Shut → is_loose z t ≡ true → z.a.up ≡ true → w.wrote m true ≡ Some n →
        Moves n (taken_a (write_counted (stale_everywhere (hardened z t) t) true) t)
    -- a track that is level on no side
    marks : {n : K} {z : Store F P H} → Moves n z → (t : ℕ) (f : F) → IsBare z t → frame_at z t ≡ Some f → c.modified f ≡ false →
        Moves n (owes_modified (with_frame z t (Some (c.marked f true))) t)
    hardens : {n : K} {z : Store F P H} → Moves n z → (t : ℕ) → IsBare z t → is_loose z t ≡ true → Moves n (hardened_by_loss z t)
    loses : {n : K} {z : Store F P H} → Moves n z → (t : ℕ) → IsBare z t → frame_at z t ≡ None → half_is z.half t ≡ false → Moves n (with_lost z t)
    -- frames, patches and the queue
    drops : {n : K} {z : Store F P H} → Moves n z → (t : ℕ) → is_clean c (frame_at z t) ≡ true → Moves n (with_frame z t None)
    fills : {n : K} {z : Store F P H} → Moves n z → (t : ℕ) (i : Image) (patched : Bool) → is_some (patch_at z t) ≡ patched → IsPlain w c z t →
        Moves n (with_frame z t (Some (c.frame i patched)))
    frames : {n : K} {z : Store F P H} → Moves n z → (t : ℕ) (o : Option F) → patch_at z t ≡ None → IsWritten w kind z t → Moves n (with_frame z t o)
    renews : {n : K} {z : Store F P H} → Moves n z → (t : ℕ) (i : Image) (f : F) → patch_at z t ≡ None → frame_at z t ≡ Some f →
        Moves n (with_frame z t (Some (c.frame i (c.modified f))))
    unframes : {n : K} {z : Store F P H} → Moves n z → (t : ℕ) → Empties kind →
        Moves n (with_owed (with_frame z t None) t (record (owed_at z t) { dropped = true }))
    patches : {n : K} {z : Store F P H} → Moves n z → (t : ℕ) → Moves n (with_patch z t None)
    unpatches : {n : K} {z : Store F P H} → Moves n z → (t slot : ℕ) → Moves n (with_owed (with_patch z t None) t (record (owed_at z t) { freed = Some slot }))
    queues : {n : K} {z : Store F P H} → Moves n z → (t : ℕ) → nat_lt (length z.queue) 64 ≡ true → Moves n (record z { queue = z.queue ++ t ∷ [] })
    dequeues : {n : K} {z : Store F P H} → Moves n z → (ts : List ℕ) → length ts ≤ length z.queue → Moves n (record z { queue = ts })
    -- edits
    edits : {n : K} {z : Store F P H} → Moves n z → (t : ℕ) (e : Edit) → Moves n (with_edit z t e)
    goes_fast : {n : K} {z : Store F P H} → Moves n z → (t : ℕ) (i : Image) (e : Edit) (slot : Option ℕ) → is_some (frame_at z t) ≡ true →
        Moves n (fast_written c z t i e slot)
    goes_provisionally : {n : K} {z : Store F P H} → Moves n z → (t : ℕ) (i : Image) (e : Edit) → kind ≡ Shut → Moves n (provisionally_written c z t i e)
    goes_back : {n : K} {z : Store F P H} → Moves n z → Empties kind → has_loose z ≡ true → Moves n (gone_back z)
    loses_loose : {n : K} {z : Store F P H} → Moves n z → kind ≡ Losing losses.Cache → has_loose z ≡ true → Moves n (act_noted (gone_back z) CfwLost)
    -- a half write
    closes : {n : K} {z : Store F P H} → Moves n z → Closes w kind z → Moves n (half_closed z)
    cuts : {n : K} {z : Store F P H} → Moves n z → (h : HalfWrite H) (bypass : Bool) (e : Edit) → z.half ≡ Some h →
        Moves n (record (with_edit z h.track e) { half = Some (record h { origin = OfCut bypass }) })
    -- what is noted, and what is owed
    notes : {n : K} {z : Store F P H} → Moves n z → (loss : Loss) → kind ≡ Losing loss → Moves n (with_loss z loss)
    pays : {n : K} {z : Store F P H} → Moves n z → (t : ℕ) (o : Owed) → Moves n (with_owed z t o)

  -- and at the end a half write may be opened
  pub data Ends : K → Store F P H → Type 0 where
    moved : {n : K} {z : Store F P H} → Moves n z → Ends n z
    opens : {n : K} {z : Store F P H} → Moves n z → (t : ℕ) (i : Image) (origin : Origin) → kind ≡ Shut → MayOpen z t → IsFirm w z t →
        Ends n (half_opened c z t i origin)
    opens_cleaned : {n : K} {z : Store F P H} → Moves n z → (t : ℕ) (i : Image) (origin : Origin) → kind ≡ Shut → MayOpen z t → IsFirm w z t →
        Ends n (half_opened c (with_frame z t (cleaned c (frame_at z t))) t i origin)
    then_pays : {n : K} {z : Store F P H} → Ends n z → (t : ℕ) (o : Owed) → Ends n (with_owed z t o)

  -- so an interaction over the tracks moves them
  abbrev pub Goes : {A : Type 0} → K → Interaction R Image (Store F P H) A → Type 0
  Goes n i = Within w (Inner w) (λ m z a. Moves m z) n i

  -- and so where a half write may be opened at the end
  abbrev pub Comes : {A : Type 0} → K → Interaction R Image (Store F P H) A → Type 0
  Comes n i = Within w (Inner w) (λ m z a. Ends m z) n i

-- An invariant, one field a move

pub record IsKept {K F P H R : Type 0} (w : Policy K) (kind : Kind) (c : Contents F P H R) (q : K → Store F P H → Type 0) : Type 0 where
  pub reads : (m n : K) (z : Store F P H) (ok : Bool) → w.read m ok ≡ Some n → q m z → q n (read_counted z ok)
  pub writes : (m n : K) (z : Store F P H) (ok : Bool) → w.wrote m ok ≡ Some n → q m z → q n (write_counted z ok)
  pub falls_reading : (m n : K) (z : Store F P H) (side : Side) → z.paired ≡ true → w.read m false ≡ Some n → q m z → q n (down (read_counted z false) side)
  pub falls_writing : (m n : K) (z : Store F P H) (side : Side) → z.paired ≡ true → w.wrote m false ≡ Some n → q m z →
      q n (down (write_counted z false) side)
  pub falls : (n : K) (z : Store F P H) (side : Side) → kind ≡ Losing (losses.Side side) → q n z → q n (down z side)
  pub takes : (n : K) (z : Store F P H) (t : ℕ) → kind ≡ Shut → z.a.up ≡ true → q n z → q n (taken_a z t)
  pub levels : (n : K) (z : Store F P H) (side : Side) (t : ℕ) → q n z → q n (with_stale z side t false)
  pub spoils : (n : K) (z : Store F P H) (t : ℕ) → kind ≡ Shut → z.paired ≡ false → MayFail w → q n z → q n (with_stale z sides.A t true)
  pub stales : (n : K) (z : Store F P H) (t : ℕ) → half_is z.half t ≡ false → Stales kind → q n z → q n (stale_everywhere z t)
  pub firms : (n : K) (z : Store F P H) (t : ℕ) → kind ≡ Shut → is_loose z t ≡ true → (z.a.up ≡ false) ⊎ MayFail w → q n z →
      q n (stale_everywhere (hardened z t) t)
  pub firms_taken : (m n : K) (z : Store F P H) (t : ℕ) → kind ≡ Shut → is_loose z t ≡ true → z.a.up ≡ true → w.wrote m true ≡ Some n → q m z →
      q n (taken_a (write_counted (stale_everywhere (hardened z t) t) true) t)
  pub marks : (n : K) (z : Store F P H) (t : ℕ) (f : F) → IsBare z t → frame_at z t ≡ Some f → c.modified f ≡ false → q n z →
      q n (owes_modified (with_frame z t (Some (c.marked f true))) t)
  pub hardens : (n : K) (z : Store F P H) (t : ℕ) → IsBare z t → is_loose z t ≡ true → q n z → q n (hardened_by_loss z t)
  pub loses : (n : K) (z : Store F P H) (t : ℕ) → IsBare z t → frame_at z t ≡ None → half_is z.half t ≡ false → q n z → q n (with_lost z t)
  pub drops : (n : K) (z : Store F P H) (t : ℕ) → is_clean c (frame_at z t) ≡ true → q n z → q n (with_frame z t None)
  pub fills : (n : K) (z : Store F P H) (t : ℕ) (i : Image) (patched : Bool) → is_some (patch_at z t) ≡ patched → IsPlain w c z t → q n z →
      q n (with_frame z t (Some (c.frame i patched)))
  pub frames : (n : K) (z : Store F P H) (t : ℕ) (o : Option F) → patch_at z t ≡ None → IsWritten w kind z t → q n z → q n (with_frame z t o)
  pub renews : (n : K) (z : Store F P H) (t : ℕ) (i : Image) (f : F) → patch_at z t ≡ None → frame_at z t ≡ Some f → q n z →
      q n (with_frame z t (Some (c.frame i (c.modified f))))
  pub unframes : (n : K) (z : Store F P H) (t : ℕ) → Empties kind → q n z → q n (with_owed (with_frame z t None) t (record (owed_at z t) { dropped = true }))
  pub patches : (n : K) (z : Store F P H) (t : ℕ) → q n z → q n (with_patch z t None)
  pub unpatches : (n : K) (z : Store F P H) (t slot : ℕ) → q n z → q n (with_owed (with_patch z t None) t (record (owed_at z t) { freed = Some slot }))
  pub queues : (n : K) (z : Store F P H) (t : ℕ) → nat_lt (length z.queue) 64 ≡ true → q n z → q n (record z { queue = z.queue ++ t ∷ [] })
  pub dequeues : (n : K) (z : Store F P H) (ts : List ℕ) → length ts ≤ length z.queue → q n z → q n (record z { queue = ts })
  pub edits : (n : K) (z : Store F P H) (t : ℕ) (e : Edit) → q n z → q n (with_edit z t e)
  pub goes_fast : (n : K) (z : Store F P H) (t : ℕ) (i : Image) (e : Edit) (slot : Option ℕ) → is_some (frame_at z t) ≡ true → q n z →
      q n (fast_written c z t i e slot)
  pub goes_provisionally : (n : K) (z : Store F P H) (t : ℕ) (i : Image) (e : Edit) → kind ≡ Shut → q n z → q n (provisionally_written c z t i e)
  pub goes_back : (n : K) (z : Store F P H) → Empties kind → has_loose z ≡ true → q n z → q n (gone_back z)
  pub loses_loose : (n : K) (z : Store F P H) → kind ≡ Losing losses.Cache → has_loose z ≡ true → q n z → q n (act_noted (gone_back z) CfwLost)
  pub closes : (n : K) (z : Store F P H) → Closes w kind z → q n z → q n (half_closed z)
  pub cuts : (n : K) (z : Store F P H) (h : HalfWrite H) (bypass : Bool) (e : Edit) → z.half ≡ Some h → q n z →
      q n (record (with_edit z h.track e) { half = Some (record h { origin = OfCut bypass }) })
  pub notes : (n : K) (z : Store F P H) (loss : Loss) → kind ≡ Losing loss → q n z → q n (with_loss z loss)
  pub pays : (n : K) (z : Store F P H) (t : ℕ) (o : Owed) → q n z → q n (with_owed z t o)

pub moves_keep : {K F P H R : Type 0} {w : Policy K} {kind : Kind} {c : Contents F P H R} {q : K → Store F P H → Type 0} {k : K} {s : Store F P H}
    {n : K} {z : Store F P H} →
    IsKept w kind c q → q k s → Moves w kind c k s n z → q n z
moves_keep f x stays = x
moves_keep f x (reads {z = z} m ok is) = f.reads _ _ z ok is (moves_keep f x m)
moves_keep f x (writes {z = z} m ok is) = f.writes _ _ z ok is (moves_keep f x m)
moves_keep f x (falls_reading {z = z} m side pair is) = f.falls_reading _ _ z side pair is (moves_keep f x m)
moves_keep f x (falls_writing {z = z} m side pair is) = f.falls_writing _ _ z side pair is (moves_keep f x m)
moves_keep f x (falls {z = z} m side lost) = f.falls _ z side lost (moves_keep f x m)
moves_keep f x (takes {z = z} m t is up) = f.takes _ z t is up (moves_keep f x m)
moves_keep f x (levels {z = z} m side t) = f.levels _ z side t (moves_keep f x m)
moves_keep f x (spoils {z = z} m t is alone why) = f.spoils _ z t is alone why (moves_keep f x m)
moves_keep f x (stales {z = z} m t other away) = f.stales _ z t other away (moves_keep f x m)
moves_keep f x (firms {z = z} m t is loose why) = f.firms _ z t is loose why (moves_keep f x m)
moves_keep f x (firms_taken {z = z} m t is loose up wrote) = f.firms_taken _ _ z t is loose up wrote (moves_keep f x m)
moves_keep f x (marks {z = z} m t g bare is clean) = f.marks _ z t g bare is clean (moves_keep f x m)
moves_keep f x (hardens {z = z} m t bare loose) = f.hardens _ z t bare loose (moves_keep f x m)
moves_keep f x (loses {z = z} m t bare none other) = f.loses _ z t bare none other (moves_keep f x m)
moves_keep f x (drops {z = z} m t clean) = f.drops _ z t clean (moves_keep f x m)
moves_keep f x (fills {z = z} m t i patched is level) = f.fills _ z t i patched is level (moves_keep f x m)
moves_keep f x (frames {z = z} m t o bare why) = f.frames _ z t o bare why (moves_keep f x m)
moves_keep f x (renews {z = z} m t i g bare is) = f.renews _ z t i g bare is (moves_keep f x m)
moves_keep f x (unframes {z = z} m t may) = f.unframes _ z t may (moves_keep f x m)
moves_keep f x (patches {z = z} m t) = f.patches _ z t (moves_keep f x m)
moves_keep f x (unpatches {z = z} m t slot) = f.unpatches _ z t slot (moves_keep f x m)
moves_keep f x (queues {z = z} m t room) = f.queues _ z t room (moves_keep f x m)
moves_keep f x (dequeues {z = z} m ts less) = f.dequeues _ z ts less (moves_keep f x m)
moves_keep f x (edits {z = z} m t e) = f.edits _ z t e (moves_keep f x m)
moves_keep f x (goes_fast {z = z} m t i e slot there) = f.goes_fast _ z t i e slot there (moves_keep f x m)
moves_keep f x (goes_provisionally {z = z} m t i e is) = f.goes_provisionally _ z t i e is (moves_keep f x m)
moves_keep f x (goes_back {z = z} m may some) = f.goes_back _ z may some (moves_keep f x m)
moves_keep f x (loses_loose {z = z} m lossy some) = f.loses_loose _ z lossy some (moves_keep f x m)
moves_keep f x (closes {z = z} m why) = f.closes _ z why (moves_keep f x m)
moves_keep f x (cuts {z = z} m h bypass e is) = f.cuts _ z h bypass e is (moves_keep f x m)
moves_keep f x (notes {z = z} m loss lossy) = f.notes _ z loss lossy (moves_keep f x m)
moves_keep f x (pays {z = z} m t o) = f.pays _ z t o (moves_keep f x m)

-- what holds where a half write may have been opened
pub record IsEnded {K F P H R : Type 0} (w : Policy K) (kind : Kind) (c : Contents F P H R) (q g : K → Store F P H → Type 0) : Type 0 where
  pub weaker : (n : K) (z : Store F P H) → q n z → g n z
  pub opens : (n : K) (z : Store F P H) (t : ℕ) (i : Image) (origin : Origin) → kind ≡ Shut → MayOpen z t → IsFirm w z t → q n z →
      g n (half_opened c z t i origin)
  pub opens_cleaned : (n : K) (z : Store F P H) (t : ℕ) (i : Image) (origin : Origin) → kind ≡ Shut → MayOpen z t → IsFirm w z t → q n z →
      g n (half_opened c (with_frame z t (cleaned c (frame_at z t))) t i origin)
  pub pays : (n : K) (z : Store F P H) (t : ℕ) (o : Owed) → g n z → g n (with_owed z t o)

pub ends_keep : {K F P H R : Type 0} {w : Policy K} {kind : Kind} {c : Contents F P H R} {q g : K → Store F P H → Type 0} {k : K}
    {s : Store F P H} {n : K} {z : Store F P H} →
    IsKept w kind c q → IsEnded w kind c q g → q k s → Ends w kind c k s n z → g n z
ends_keep f e x (moved {z = z} m) = e.weaker _ z (moves_keep f x m)
ends_keep f e x (opens {z = z} m t i origin is may firm) = e.opens _ z t i origin is may firm (moves_keep f x m)
ends_keep f e x (opens_cleaned {z = z} m t i origin is may firm) = e.opens_cleaned _ z t i origin is may firm (moves_keep f x m)
ends_keep f e x (then_pays {z = z} m t o) = e.pays _ z t o (ends_keep f e x m)
