-- What the image of a track is: the one in its frame, or that of the bytes of a level side.
use Rattle.std.proofs.Common.{◌≡◌, ℕ, Bool, true, false, List, Option, Some, None, refl, sym, ap, subst, ◌∙◌}
use Rattle.std.specs.Prelude.{if◌then◌else◌}
use Rattle.ckd_types.specs.declared.paths.Side.{Side}
use Rattle.ckd_types.specs.declared.paths.Side.TheVariants.{A, B}
use Rattle.ckd_types.specs.Parameters.{is_bypass}
use Rattle.track_cache.specs.declared.frames.Frame.{Frame}
use Rattle.track_image.specs.Image.{Image}
use Rattle.device_outside.specs.Interaction.{Interaction, Done, Ask}
use Rattle.device_outside.specs.Keeper.{Hearing}
use Rattle.device_outside.specs.Outside.{ByPool, Answered, Outside, PortView, view_of, with_view, Ran, done, tried, asked, read}
use Rattle.device_outside.specs.Pool as P
use Rattle.device_outside.specs.Pool.{Pool, Touch, WantFrame, is_listed}
use Rattle.device_outside.specs.Volume.{VolumeView, ReadOf}
use Rattle.device_defs.specs.declared.usage.Usage.{Usage}
use Rattle.device_defs.specs.Contents.{contents}
use Rattle.device_defs.specs.Image as I
use Rattle.device_defs.specs.Image.{
  Got,
  got,
  Imaged,
  Has,
  NoBytes,
  BadTrack,
  first_faulty_side,
  read_counted,
  ahead,
  loads,
  read_side,
  second_read,
  read_b,
  first_read,
  level_bytes,
  image_of,
  filled,
  granted,
  delivered,
  missed,
  miss,
  hit,
  clean_image,
  image_by,
  image,
}
use Rattle.device_defs.specs.Losses.{call_failed}
use Rattle.device_defs.specs.Memory.{tried as or_none}
use Rattle.device_defs.specs.Sound.{DeviceStore}
use Rattle.device_defs.specs.Store.{level_at, frame_at, with_frame}
use Rattle.device_laws.proofs.Based.{Base, base_of, Hushed, Based, based_ask}
use Rattle.device_laws.proofs.invariants.CallCounts.{level_steady, image_steady}
use Rattle.device_laws.proofs.QuietParts.{Quiet, asks_quiet}
use Rattle.device_laws.specs.Seen as seen
use Rattle.device_laws.specs.Seen.{NotCalled, LastOf, ReadFrom, ReadNone, IsMissed, IsHit, Saw, SawNone}
use Rattle.device_laws.specs.Moved.{Moved, Counted, miss_reads}
use Rattle.device_laws.proofs.counted.Counting.{ran_moved}
use Rattle.device_laws.proofs.counted.ReadCounts.{LevelBy, level_exact}
use Rattle.device_laws.proofs.counted.RanCounts.{counted_from, counted_to, moved_counted, based_rest, quiet_base}
use Rattle.device_laws.proofs.counted.RanParts.{split, quiet_ran, same_calls}
use Rattle.device_laws.proofs.PoolWalks.{missed_asks}

missed_quiet : (u : Usage) (t : ℕ) (s : DeviceStore) (g : Got (List ℕ)) (o : Option (List ℕ)) → Quiet (missed contents u t s g o)
missed_quiet u t s g o = asks_quiet (missed_asks contents (λ z. Unit {0}) (λ z q j b is f. f) (λ v z q f. f) u t s g o tt)

module _ {K : Type 0} (had : Bool → Type 0) (hears : Hearing Image K) where
  abbrev Calls : Type 0
  Calls = Outside (List ℕ) K

  viewed : (w : Calls) (side : Side) (v : VolumeView (List ℕ)) → view_of (with_view w side v) side ≡ Some v
  viewed w A v = refl
  viewed w B v = refl

  -- a read that doesn't fail
  read_last : (w : Calls) (side : Side) (t : ℕ) (old new : VolumeView (List ℕ)) (r : List ℕ) → ReadOf old t (Some r) new → LastOf (with_view w side new) side r
  read_last w side t old new r of =
      record { view = new; is = viewed w side new; delivered = ap (λ (v : VolumeView (List ℕ)). v.delivered) of.after }

  -- the bytes that a run gave are those that its side delivered last
  abbrev Delivered : Got (List ℕ) → Calls → Type 0
  Delivered g z = (r : List ℕ) → g.bytes ≡ Some r → LastOf z g.side r

  no_bytes : (side : Side) (fault : Option Side) (z : Calls) → Delivered (got side None fault) z
  no_bytes side fault z r e = absurd (cc)

  some_bytes : (side : Side) (r : List ℕ) (fault : Option Side) (z : Calls) → LastOf z side r → Delivered (got side (Some r) fault) z
  some_bytes side r fault z last q e = let same : r ≡ q = cc in subst (LastOf z side) same last

  none_behind : {y e : DeviceStore} {f : Option Side} {v z : Calls} {g : Got (List ℕ)} → Ran had hears (Done y (got B None f)) v e g z → Delivered g z
  none_behind {f = f} {z = z} done = no_bytes B f z

  from_b : (t : ℕ) (fault : Option Side) (s : DeviceStore) (b : Bool) {u z : Calls} {e : DeviceStore} {g : Got (List ℕ)} →
      Ran had hears (if b then read_side contents s B t (second_read contents fault) else Done s (got B None fault)) u e g z → Delivered g z
  from_b t fault s true {u = w} (read {got = Some r} {v = v} {u = u} is of done) = some_bytes B r fault (with_view w B u) (read_last w B t v u r of)
  from_b t fault s true (read {got = None} is of r) =
      let x = split (call_failed contents (read_counted s false) B None) (λ z _. Done z (got B None (Some (first_faulty_side fault B)))) r in
      none_behind x.rest
  from_b t fault s false {z = z} done = no_bytes B fault z

  from_a : (t : ℕ) (s : DeviceStore) (b : Bool) {u z : Calls} {e : DeviceStore} {g : Got (List ℕ)} →
      Ran had hears (if b then read_side contents s A t (first_read contents t) else read_b contents s t None) u e g z → Delivered g z
  from_a t s true {u = w} (read {got = Some r} {v = v} {u = u} is of done) = some_bytes A r None (with_view w A u) (read_last w A t v u r of)
  from_a t s true (read {got = None} is of r) =
      let x = split (call_failed contents (read_counted s false) A None) (λ z _. read_b contents z t (Some A)) r in
      from_b t (Some A) x.state (level_at x.state.b t) x.rest
  from_a t s false r = from_b t None s (level_at s.b t) r

  pub bytes_are_last : (s : DeviceStore) (t : ℕ) {u z : Calls} {e : DeviceStore} {g : Got (List ℕ)} → Ran had hears (level_bytes contents s t) u e g z →
      Delivered g z
  unfolding I.level_bytes
  bytes_are_last s t r = from_a t s (level_at s.a t) r

  -- A track that is loaded is answered as it was read

  done_has : {s e : DeviceStore} {u z : Calls} {i : Image} {a : Imaged} → Ran had hears (Done s (Some (Has i))) u e (Some a) z → a ≡ Has i
  done_has done = refl

  none_has : {s e : DeviceStore} {u z : Calls} {a : Imaged} → Ran had hears (Done s None) u e (Some a) z → ⊥
  none_has r = elim r [ ]

  granted_has : (s : DeviceStore) (t : ℕ) (i : Image) (given : Bool) {u z : Calls} {e : DeviceStore} {a : Imaged} →
      Ran had hears (granted contents s t i given) u e (Some a) z → a ≡ Has i
  granted_has s t i true r = done_has (split (filled contents s t i) (λ z _. Done z (Some (Has i))) r).rest
  granted_has s t i false r = done_has r

  wanted_has : (s : DeviceStore) (t : ℕ) (i : Image) (ok : Bool) {u z : Calls} {e : DeviceStore} {a : Imaged} →
      Ran had hears (if ok then Ask (WantFrame s.device t) (granted contents s t i) else Done s None) u e (Some a) z → a ≡ Has i
  wanted_has s t i true (asked {a = given} says r) = granted_has s t i given r
  wanted_has s t i false r = absurd (none_has r)

  loaded_has : (s : DeviceStore) (t : ℕ) (i : Image) (b : Bool) {u z : Calls} {e : DeviceStore} {a : Imaged} →
      Ran had hears (if b then or_none s (Ask (WantFrame s.device t) (granted contents s t i)) else Done s (Some (Has i))) u e (Some a) z → a ≡ Has i
  loaded_has s t i true (tried ok m r) = wanted_has s t i ok r
  loaded_has s t i false r = done_has r

  -- Misses

  module _ (usage : Usage) (t : ℕ) where
    -- what a look that was answered so saw
    abbrev pub SeenBy : DeviceStore → Calls → DeviceStore → Calls → Imaged → Type 0
    SeenBy s u e z (Has i) = (reads : ℕ) × Saw had hears s usage t u i reads e z
    SeenBy s u e z (NoBytes fault) = (reads : ℕ) × SawNone had hears s usage t u reads e z
    SeenBy s u e z (BadTrack side) = (reads : ℕ) × SawNone had hears s usage t u reads e z

    -- behind the read
    data MissedSo (y : DeviceStore) (g : Got (List ℕ)) : Imaged → Type 0 where
      miss_none : g.bytes ≡ None → MissedSo y g (NoBytes g.fault)
      miss_bad : (r : List ℕ) → g.bytes ≡ Some r → image_of contents y t r ≡ None → MissedSo y g (BadTrack g.side)
      miss_image : (r : List ℕ) (i : Image) → g.bytes ≡ Some r → image_of contents y t r ≡ Some i → MissedSo y g (Has i)

    delivered_so : (y : DeviceStore) (g : Got (List ℕ)) (r : List ℕ) → g.bytes ≡ Some r → (o : Option Image) → image_of contents y t r ≡ o →
        {u z : Calls} {e : DeviceStore} {a : Imaged} → Ran had hears (delivered contents usage t g.side y o) u e (Some a) z → MissedSo y g a
    delivered_so y g r is None im done = miss_bad r is im
    delivered_so y g r is (Some j) im x =
        subst (λ (i : Imaged). MissedSo y g i) (sym (loaded_has (ahead usage y t) t j (loads usage.mode) x)) (miss_image r j is im)

    had_so : (y : DeviceStore) (g : Got (List ℕ)) (r : List ℕ) → g.bytes ≡ Some r → (ok : Bool) → {u z : Calls} {e : DeviceStore} {a : Imaged} →
        Ran had hears (if ok then delivered contents usage t g.side y (image_of contents y t r) else Done y None) u e (Some a) z → MissedSo y g a
    had_so y g r is true x = delivered_so y g r is (image_of contents y t r) refl x
    had_so y g r is false x = absurd (none_has x)

    missed_so : (y : DeviceStore) (g : Got (List ℕ)) (o : Option (List ℕ)) → g.bytes ≡ o → {u z : Calls} {e : DeviceStore} {a : Imaged} →
        Ran had hears (missed contents usage t y g o) u e (Some a) z → MissedSo y g a
    missed_so y g None is done = miss_none is
    missed_so y g (Some r) is (tried ok m x) = had_so y g r is ok x

    -- what was read
    module _ (x y : DeviceStore) (g : Got (List ℕ)) where
      was_given : (o : Option (List ℕ)) (bytes : List ℕ) → o ≡ Some bytes → Moved (λ r w. LevelBy x t r w g o) x.counts y.counts →
          ReadFrom x t g.side g.fault × Counted (miss_reads g.fault) 0 x.counts y.counts
      was_given None bytes e m = absurd (cc)
      was_given (Some r) bytes e m = (m.is.2, moved_counted (miss_reads g.fault) 0 m m.is.0 m.is.1)

      was_vain : (o : Option (List ℕ)) → o ≡ None → (m : Moved (λ r w. LevelBy x t r w g o) x.counts y.counts) →
          ReadNone x t m.reads g.fault × Counted m.reads 0 x.counts y.counts
      was_vain None e m = (m.is.1, moved_counted m.reads 0 m refl m.is.0)
      was_vain (Some r) e m = absurd (cc)

      module _ (e : DeviceStore) {s : DeviceStore} {u v w z : Calls} (from : IsMissed s usage t u x v) (same : x.counts ≡ s.counts)
          (first : Ran had hears (level_bytes contents x t) v y g w) (quiet : NotCalled w z) (over : e.counts ≡ y.counts) where
        with_bytes : (o : Option (List ℕ)) → g.bytes ≡ o → Ran had hears (level_bytes contents x t) v y (got g.side o g.fault) w
        with_bytes o is = rw (← is) first

        counted_in : {reads : ℕ} → Counted reads 0 x.counts y.counts → Counted reads 0 s.counts e.counts
        counted_in h = counted_from (sym same) (counted_to h over)

        by_missed : {a : Imaged} → Moved (λ r w. LevelBy x t r w g g.bytes) x.counts y.counts → MissedSo y g a → SeenBy s u e z a
        by_missed m (miss_none is) =
            let k = was_vain g.bytes is m in
            (m.reads, seen.unread x y v w m.reads g.side g.fault from (with_bytes None is) k.0 quiet (counted_in k.1))
        by_missed m (miss_bad r is im) =
            let k = was_given g.bytes r is m in (
              miss_reads g.fault,
              seen.no_track x y v w g.side r g.fault from (with_bytes (Some r) is) k.0 (bytes_are_last x t first r is) im quiet (counted_in k.1),
            )
        by_missed m (miss_image r i is im) =
            let k = was_given g.bytes r is m in (
              miss_reads g.fault,
              seen.missed x y v w g.side r g.fault from (with_bytes (Some r) is) k.0 (bytes_are_last x t first r is) im quiet (counted_in k.1),
            )

    miss_saw : (s x : DeviceStore) {u v z : Calls} {e : DeviceStore} {a : Imaged} → IsMissed s usage t u x v → x.counts ≡ s.counts →
        Based base_of Hushed (base_of x) (miss contents x usage t) → Ran had hears (miss contents x usage t) v e (Some a) z → SeenBy s u e z a
    miss_saw s x {e = e} from same based r =
        let after = λ (z : DeviceStore) (g : Got (List ℕ)). missed contents usage t z g g.bytes in
        let y = split (level_bytes contents x t) after r in
        let level = level_steady contents x t in
        let still = missed_quiet usage t y.state y.answer y.answer.bytes in
        by_missed x y.state y.answer e from same y.first (quiet_ran still y.rest)
        (ap (λ (b : Base). b.counts) (quiet_base still (based_rest after level based y.first) y.rest))
        (ran_moved level (level_exact contents x t) y.first) (missed_so y.state y.answer y.answer.bytes refl y.rest)

    -- Hits

    hit_saw : (s : DeviceStore) (f : Frame) → frame_at s t ≡ Some f → {u v z : Calls} {e : DeviceStore} {a : Imaged} → IsHit s usage t u f v → NotCalled u v →
        Ran had hears (hit contents s t f) v e (Some a) z → SeenBy s u e z a
    hit_saw s f is why quiet done = (0, seen.hit f is why refl quiet)

    touched_saw : (s : DeviceStore) (f : Frame) → frame_at s t ≡ Some f → f.modified ≡ false → is_bypass usage.mode ≡ false → (listed : Bool) (p : PortView)
        {u z : Calls} {e : DeviceStore} {a : Imaged} → Answered u.port (Touch s.device t) listed p →
        Based base_of Hushed (base_of s) (if listed then hit contents s t f else miss contents (with_frame s t None) usage t) →
        Ran had hears (if listed then hit contents s t f else miss contents (with_frame s t None) usage t) (record u { port = p }) e (Some a) z →
        SeenBy s u e z a
    touched_saw s f is clean unpassed true p says based r = hit_saw s f is (seen.listed p clean unpassed says) (record { a = refl; b = refl }) r
    touched_saw s f is clean unpassed false p says based r = miss_saw s (with_frame s t None) (seen.unlisted f p is clean unpassed says) refl based r

    no_call : (u : Calls) → NotCalled u u
    no_call u = record { a = refl; b = refl }

    abbrev clean_by : DeviceStore → Frame → Bool → Interaction (List ℕ) Image DeviceStore (Option Imaged)
    clean_by s f bypass =
        if bypass then miss contents s usage t
        else Ask (Touch s.device t) (λ listed. if listed then hit contents s t f else miss contents (with_frame s t None) usage t)

    clean_saw : (s : DeviceStore) (f : Frame) → frame_at s t ≡ Some f → f.modified ≡ false → (bypass : Bool) → is_bypass usage.mode ≡ bypass →
        {u z : Calls} {e : DeviceStore} {a : Imaged} → Based base_of Hushed (base_of s) (clean_by s f bypass) →
        Ran had hears (clean_by s f bypass) u e (Some a) z → SeenBy s u e z a
    clean_saw s f is clean true by based r = miss_saw s s (seen.bypassed f is clean by) refl based r
    clean_saw s f is clean false by (based_ask m based) (asked {a = listed} {p = p} says r) =
        touched_saw s f is clean by listed p says (based listed) r

    framed_saw : (s : DeviceStore) (f : Frame) → frame_at s t ≡ Some f → (modified : Bool) → f.modified ≡ modified → {u z : Calls} {e : DeviceStore}
        {a : Imaged} → Based base_of Hushed (base_of s) (if modified then hit contents s t f else clean_image contents s usage t f) →
        Ran had hears (if modified then hit contents s t f else clean_image contents s usage t f) u e (Some a) z →
        SeenBy s u e z a
    framed_saw s f is true by {u = u} based r = hit_saw s f is (seen.modified by) (no_call u) r
    framed_saw s f is false by based r = clean_saw s f is by (is_bypass usage.mode) refl based r

    by_frame : (s : DeviceStore) (o : Option Frame) → frame_at s t ≡ o → {u z : Calls} {e : DeviceStore} {a : Imaged} →
        Based base_of Hushed (base_of s) (image_by contents s usage t o) → Ran had hears (image_by contents s usage t o) u e (Some a) z →
        SeenBy s u e z a
    by_frame s None is based r = miss_saw s s (seen.no_frame is) refl based r
    by_frame s (Some f) is based r = framed_saw s f is f.modified refl based r

    pub image_saw : (s : DeviceStore) {u z : Calls} {e : DeviceStore} (a : Imaged) → Ran had hears (image contents s usage t) u e (Some a) z →
        SeenBy s u e z a
    unfolding I.image
    image_saw s a r = by_frame s (frame_at s t) refl (image_steady contents s usage t) r

    -- a frame that counts is a hit, whatever comes

    hit_quiet : (s : DeviceStore) (f : Frame) {u z : Calls} {e : DeviceStore} {a : Option Imaged} → Ran had hears (hit contents s t f) u e a z →
        NotCalled u z × (a ≡ Some (Has f.image))
    hit_quiet s f done = (record { a = refl; b = refl }, refl)

    modified_quiet : (s : DeviceStore) (f : Frame) (m : Bool) → m ≡ true → {u z : Calls} {e : DeviceStore} {a : Option Imaged} →
        Ran had hears (if m then hit contents s t f else clean_image contents s usage t f) u e a z → NotCalled u z × (a ≡ Some (Has f.image))
    modified_quiet s f true is r = hit_quiet s f r
    modified_quiet s f false is r = absurd (cc)

    framed_quiet : (s : DeviceStore) (f : Frame) (o : Option Frame) → o ≡ Some f → f.modified ≡ true → {u z : Calls} {e : DeviceStore} {a : Option Imaged} →
        Ran had hears (image_by contents s usage t o) u e a z → NotCalled u z × (a ≡ Some (Has f.image))
    framed_quiet s f None e is r = absurd (cc)
    framed_quiet s f (Some g) e is {u = u} {z = z} {a = a} r =
        let same : g ≡ f = cc in
        rw (← same) (modified_quiet s g g.modified (ap (λ (x : Frame). x.modified) same ∙ is) r)

    pub modified_is_hit : (s : DeviceStore) (f : Frame) → frame_at s t ≡ Some f → f.modified ≡ true → {u z : Calls} {e : DeviceStore} {a : Option Imaged} →
        Ran had hears (image contents s usage t) u e a z → NotCalled u z × (a ≡ Some (Has f.image))
    unfolding I.image
    modified_is_hit s f e is r = framed_quiet s f (frame_at s t) e is r

    listed_quiet : (s : DeviceStore) (f : Frame) (listed : Bool) → listed ≡ true → {u v z : Calls} {e : DeviceStore} {a : Option Imaged} → NotCalled u v →
        Ran had hears (if listed then hit contents s t f else miss contents (with_frame s t None) usage t) v e a z →
        NotCalled u z × (a ≡ Some (Has f.image))
    listed_quiet s f true is quiet r = let y = hit_quiet s f r in (same_calls quiet y.0, y.1)
    listed_quiet s f false is quiet r = absurd (cc)

    touched_is : (p : Pool) (d : ℕ) (o new : Option Pool) (a : Bool) → o ≡ Some p → ByPool o (Touch d t) a new → is_listed p.frames d t ≡ true → a ≡ true
    unfolding P.answer
    touched_is p d None new a is by listed = absurd (cc)
    touched_is p d (Some q) new a is by listed =
        let same : q ≡ p = cc in by.0.same ∙ ap (λ (x : Pool). is_listed x.frames d t) same ∙ listed

    touch_quiet : (s : DeviceStore) (f : Frame) (p : Pool) (b : Bool) → b ≡ false → is_listed p.frames s.device t ≡ true →
        {u z : Calls} {e : DeviceStore} {a : Option Imaged} → u.port.pool ≡ Some p →
        Ran had hears (if b then miss contents s usage t
        else Ask (Touch s.device t) (λ listed. if listed then hit contents s t f else miss contents (with_frame s t None) usage t)) u e a z →
        NotCalled u z × (a ≡ Some (Has f.image))
    touch_quiet s f p true is listed told r = absurd (cc)
    touch_quiet s f p false is listed {u = u} told (asked {a = a} {p = new} says r) =
        listed_quiet s f a (touched_is p s.device u.port.pool new.pool a told says.by_pool listed) (record { a = refl; b = refl }) r

    by_mark : (s : DeviceStore) (f : Frame) (p : Pool) (m : Bool) → m ≡ false → is_bypass usage.mode ≡ false → is_listed p.frames s.device t ≡ true →
        {u z : Calls} {e : DeviceStore} {a : Option Imaged} → u.port.pool ≡ Some p →
        Ran had hears (if m then hit contents s t f else clean_image contents s usage t f) u e a z → NotCalled u z × (a ≡ Some (Has f.image))
    by_mark s f p true is unpassed listed told r = absurd (cc)
    by_mark s f p false is unpassed listed told r = touch_quiet s f p (is_bypass usage.mode) unpassed listed told r

    clean_quiet : (s : DeviceStore) (f : Frame) (o : Option Frame) → o ≡ Some f → f.modified ≡ false → is_bypass usage.mode ≡ false → (p : Pool) →
        is_listed p.frames s.device t ≡ true → {u z : Calls} {e : DeviceStore} {a : Option Imaged} → u.port.pool ≡ Some p →
        Ran had hears (image_by contents s usage t o) u e a z → NotCalled u z × (a ≡ Some (Has f.image))
    clean_quiet s f None e clean unpassed p listed told r = absurd (cc)
    clean_quiet s f (Some g) e clean unpassed p listed {u = u} {z = z} {a = a} told r =
        let same : g ≡ f = cc in
        rw (← same) (by_mark s g p g.modified (ap (λ (x : Frame). x.modified) same ∙ clean) unpassed listed told r)

    pub clean_is_hit : (s : DeviceStore) (f : Frame) (p : Pool) → frame_at s t ≡ Some f → f.modified ≡ false → is_bypass usage.mode ≡ false →
        is_listed p.frames s.device t ≡ true → {u z : Calls} {e : DeviceStore} {a : Option Imaged} → u.port.pool ≡ Some p →
        Ran had hears (image contents s usage t) u e a z → NotCalled u z × (a ≡ Some (Has f.image))
    unfolding I.image
    clean_is_hit s f p e clean unpassed listed told r = clean_quiet s f (frame_at s t) e clean unpassed p listed told r
