-- A device lends its volume: of its tracks it gives up what it keeps, and over marks does the same.
use Rattle.std.proofs.Common.{
  ◌≡◌,
  ◌<◌,
  ◌≤◌,
  ℕ,
  zero,
  suc,
  Bool,
  true,
  false,
  List,
  [],
  ◌∷◌,
  length,
  Option,
  Some,
  None,
  is_some,
  get_or,
  refl,
  ap,
  ◌∙◌,
  arith,
  ◌⊎◌,
  inl,
  inr,
}
use Rattle.std.proofs.lemmas.Bool.{cases_lt}
use Rattle.std.specs.Prelude.{if◌then◌else◌}
use Rattle.ckd_types.specs.declared.paths.Side.{Side}
use Rattle.ckd_types.specs.declared.paths.Side.TheVariants.{A, B}
use Rattle.ckd_types.specs.declared.record.Track.{Track}
use Rattle.track_cache.specs.declared.frames.Frame.{Frame}
use Rattle.nv_store.specs.declared.patches.Stored.{Stored}
use Rattle.track_table.proofs.Places.{empty_places}
use Rattle.device_outside.specs.After.{holds_of}
use Rattle.device_outside.specs.Interaction.{Done}
use Rattle.device_defs.specs.Contents.{Contents, contents, by_plain}
use Rattle.device_defs.specs.Device.{Device, event_begun}
use Rattle.device_defs.specs.Losses as L
use Rattle.device_defs.specs.Losses.{over, without_frame, without_patch}
use Rattle.device_defs.specs.Marks.{MarksStore, marks_of}
use Rattle.device_defs.specs.Owed as O
use Rattle.device_defs.specs.Orders as Q
use Rattle.device_defs.specs.Orders.{with_tracks, lent_to, given_up, lend}
use Rattle.device_defs.specs.Sound.{DeviceStore}
use Rattle.device_defs.specs.Store.{Store, tracks_of, side_of, frame_at, patch_at, owed_at, with_frame, with_owed}
use Rattle.device_laws.specs.Agrees.{Held, slot_at, IsGround}
use Rattle.device_laws.specs.InOrder.{IsInOrder}
use Rattle.device_laws.specs.Lent.{IsLentStore, IsLent}
use Rattle.device_laws.specs.Whole.{WholeDevice, marks_device, WholeTwins}
use Rattle.device_laws.proofs.Always.{Always, always_done, always_then}
use Rattle.device_laws.proofs.ContentChanges.{base_of, Altered, ground_altered, same_tracks, same_slots, sits_still, slot_of, by_track, unseen_slots}
use Rattle.device_laws.proofs.FailedCall.{IsWell}
use Rattle.device_laws.proofs.Lent.{LeavesLent, quiet_lent}
use Rattle.device_laws.proofs.OrderMarks.{IsGone, lent_now_gone}
use Rattle.device_laws.proofs.PoolWalks.{asks_always, ended_asks}
use Rattle.device_laws.proofs.TrackContents as T
use Rattle.device_laws.proofs.TrackContents.{TrackContents, contents_at}
use Rattle.device_laws.proofs.TrackMarks as M
use Rattle.device_laws.proofs.TrackMarks.{track_at, device_is_faithful}
use Rattle.device_laws.proofs.TwinCacheLost.{bare, bared, bared_twin}
use Rattle.device_laws.proofs.TwinChanges.{without_patch_twin}
use Rattle.device_laws.proofs.TwinLaws.{in_order}
use Rattle.device_laws.proofs.TwinSettled.{AllTold, told_altered, unpatched, altered_unpatched, unpatched_slots}
use Rattle.device_laws.proofs.TwinWalks.{both_behind, both_long, both_weaker}
use Rattle.device_laws.proofs.WholeTwins.{whole_ends, begun_order}

-- Track by track

record Given (v w : List Track) (h : Held) (y z : DeviceStore) : Type 0 where
  ground : IsGround v w z h
  told : AllTold z h
  base : base_of z h ≡ base_of y h

module _ (v w : List Track) (h : Held) (y z : DeviceStore) (n : ℕ) (lt : n < tracks_of z) (x : Given v w h y z) where
  abbrev a : DeviceStore
  a = without_frame z n

  abbrev c : TrackContents
  c = contents_at z h n

  e : Altered z h a h n (bare c)
  e = bared z h n lt x.ground.sizes

  slots_by : (kept : Bool) → slot_of kept (bare c) ≡ slot_of kept c
  slots_by true = refl
  slots_by false = refl

  ground_a : IsGround v w a h
  ground_a =
      ground_altered v w z h a h n (bare c) x.ground e (sits_still v w z h n (bare c) lt x.ground refl refl)
      (unseen_slots z h a h (λ kept q. by_track z h a h n (bare c) kept e (slots_by kept) q) refl x.ground.slots)

  told_a : AllTold a h
  told_a = told_altered z h a h n (bare c) x.told e refl

  below : n < tracks_of a
  below = let same = same_tracks z h a h e.base in omega arith

  f : Altered a h (without_patch contents a n) h n (unpatched (contents_at a h n))
  f = altered_unpatched a h n below ground_a.sizes

  given_on : Given v w h y (given_up contents n z)
  given_on =
      let k = unpatched (contents_at a h n) in
      let still = sits_still v w a h n (contents_at a h n) below ground_a refl refl in
      record {
        ground = ground_altered v w a h (without_patch contents a n) h n k ground_a f
            (record { same = still.same; patch = λ p g. absurd (cc); apart = still.apart })
            (unpatched_slots a h (without_patch contents a n) h n k f refl refl refl ground_a.slots);
        told = told_altered a h (without_patch contents a n) h n k told_a f refl;
        base = f.base ∙ e.base ∙ x.base;
      }

given_all : (v w : List Track) (h : Held) (y : DeviceStore) → IsGround v w y h → AllTold y h → (n : ℕ) → n ≤ tracks_of y →
    Given v w h y (over n (given_up contents) y)
unfolding L.over
given_all v w h y g told zero le = record { ground = g; told = told; base = refl }
given_all v w h y g told (suc n) le =
    let x = given_all v w h y g told n (omega arith) in
    given_on v w h y (over n (given_up contents) y) n (let same = same_tracks y h (over n (given_up contents) y) h x.base in omega arith) x

given_marks : (v w : List Track) (n : ℕ) (s : DeviceStore) → marks_of v w (over n (given_up contents) s) ≡ over n (given_up by_plain) (marks_of v w s)
unfolding L.over
given_marks v w zero s = refl
given_marks v w (suc n) s =
    let z = over n (given_up contents) s in
    without_patch_twin v w (without_frame z n) n
    ∙ ap (λ (m : MarksStore). without_patch by_plain m n) (bared_twin v w z n)
    ∙ ap (λ (m : MarksStore). without_patch by_plain (without_frame m n) n) (given_marks v w n s)

-- What is left

past : {X : Type 0} (xs : List X) (t : ℕ) (d : X) → length xs ≤ t → get_or xs t d ≡ d
past [] t d le = refl
past (x ∷ xs) zero d le = absurd (omega arith)
past (x ∷ xs) (suc t) d le = past xs t d (omega arith)

module _ (v w : List Track) (s : DeviceStore) (h : Held) (to : ℕ) (g : IsGround v w s h) (told : AllTold s h) (well : IsWell contents s)
    (single : s.paired ≡ false) (none : s.half ≡ None) where
  abbrev z : DeviceStore
  z = over (tracks_of s) (given_up contents) s

  abbrev y : DeviceStore
  y = lent_to (over (tracks_of s) (given_up contents) s) to

  gone : IsGone contents device_is_faithful y
  gone = lent_now_gone contents device_is_faithful s to well single none

  given : Given v w h s z
  given = given_all v w h s g told (tracks_of s) (omega arith)

  slots_same : (kept : Bool) (q : ℕ) → slot_at y kept q ≡ slot_at z kept q
  slots_same true q = refl
  slots_same false q = refl

  long : (side : Side) → (side_of y side).up ≡ true → length (holds_of h side) ≡ tracks_of y
  long A up = absurd (cc)
  long B up = given.ground.long B up

  ground : IsGround v w y h
  ground = record {
    sizes = gone.sizes;
    plain = given.ground.plain;
    firm = given.ground.firm;
    same = given.ground.same;
    apart = given.ground.apart;
    patches = given.ground.patches;
    long = long;
    slots = same_slots z y h.slots slots_same given.ground.slots;
  }

  frame_none : (t : ℕ) → (t < tracks_of y) ⊎ (tracks_of y ≤ t) → frame_at y t ≡ None
  unfolding M.track_at
  frame_none t (inl lt) = by_mark (frame_at y t) (gone.frame t lt)
    where
      by_mark : (o : Option Frame) → M.frame_mark contents o ≡ None → o ≡ None
      by_mark None e = refl
      by_mark (Some f) e = absurd (cc)
  frame_none t (inr le) = past y.frames t None (let all : length y.frames ≡ tracks_of y = cc (gone.sizes.are) in omega arith)

  patch_none : (t : ℕ) → (t < tracks_of y) ⊎ (tracks_of y ≤ t) → patch_at y t ≡ None
  unfolding M.track_at
  patch_none t (inl lt) = by_mark (patch_at y t) (gone.patched t lt)
    where
      by_mark : (o : Option Stored) → is_some o ≡ false → o ≡ None
      by_mark None e = refl
      by_mark (Some f) e = absurd (cc)
  patch_none t (inr le) = past y.patches t None (let all : length y.patches ≡ tracks_of y = cc (gone.sizes.are) in omega arith)

  told_firm : (t : ℕ) → (owed_at y t).firm ≡ false
  unfolding T.contents_at
  told_firm t = given.told t

  lent_now : IsLentStore v w y h
  lent_now = record {
    ground = ground;
    told = told_firm;
    lent = refl;
    single = gone.single;
    down_a = refl;
    down_b = gone.other;
    half = gone.none;
    queue = refl;
    frame = λ t. frame_none t (cases_lt t (tracks_of y));
    patch = λ t. patch_none t (cases_lt t (tracks_of y));
    lost = λ t. empty_places (tracks_of z) t false;
  }

-- As an event

pub lend_whole : (v w : List Track) (d : WholeDevice) (h : Held) (to : ℕ) → IsInOrder v w d.store h → d.store.paired ≡ false → d.history.running ≡ None →
    WholeTwins LeavesLent (lend contents d to) (lend by_plain (marks_device v w d) to) h
unfolding Q.lend
lend_whole v w d h to i single idle =
    let x : WholeDevice = event_begun d in
    let s = x.store in
    let order = begun_order v w d.store h i in
    let o = in_order v w s h order in
    let n = tracks_of s in
    let left = lent_now v w s h to o.sure.ground o.told o.well single (order.whole single) in
    quiet_lent v w d h (λ z. Done (with_tracks z (lent_to (over (tracks_of z.store) (given_up contents) z.store) to)) (tt {0}))
    (λ z. Done (with_tracks z (lent_to (over (tracks_of z.store) (given_up by_plain) z.store) to)) (tt {0}))
    (whole_ends v w (with_tracks x (lent_to (over n (given_up contents) s) to))
    (ap (λ (m : MarksStore). with_tracks (marks_device v w x) (lent_to m to)) (given_marks v w n s))
    (record { lent = record { store = left; idle = idle }; same = refl }))

-- Its number stays, and its volume is as long as it was

module _ {F P H R : Type 0} (c : Contents F P H R) where
  abbrev Numbered : Store F P H → Store F P H → Unit {0} → Type 0
  Numbered s z u = z.device ≡ s.device

  ended_number : (before : ℕ) (s : Store F P H) → Always (O.noted_end c before s) (Numbered s)
  ended_number before s = asks_always (ended_asks c (λ z. z.device ≡ s.device) (λ z t e. e) before s refl)

  unframed_number : (s : Store F P H) (t : ℕ) (b : Bool) →
      (if b then with_owed (with_frame s t None) t (record (owed_at s t) { dropped = true }) else s).device ≡ s.device
  unframed_number s t true = refl
  unframed_number s t false = refl

  freed_slot_number : (s : Store F P H) (t : ℕ) (o : Option ℕ) → (L.gives_up s t o).device ≡ s.device
  freed_slot_number s t None = refl
  freed_slot_number s t (Some slot) = refl

  given_number : (n : ℕ) (s : Store F P H) → (over n (given_up c) s).device ≡ s.device
  unfolding L.over
  given_number zero s = refl
  given_number (suc n) s =
      let z = over n (given_up c) s in
      freed_slot_number (without_frame z n) n (L.slot_in c (patch_at (without_frame z n) n))
      ∙ unframed_number z n (is_some (frame_at z n)) ∙ given_number n s

  lend_number : (d : Device F P H) (to : ℕ) → Always (lend c d to) (λ y _. y.store.device ≡ d.store.device)
  unfolding Q.lend
  lend_number d to =
      let s = (event_begun d).store in
      let y = lent_to (over (tracks_of s) (given_up c) s) to in
      always_then (ended_number (O.waiting_count c d.store) y) (λ z _ e. always_done (e ∙ given_number (tracks_of s) s))

pub record LeavesLending (n at : ℕ) (v w : List Track) (d : WholeDevice) (a b : Unit {0}) (k : Held) : Type 0 where
  pub lent : IsLent v w d k
  pub long : length k.a ≡ n
  pub number : d.store.device ≡ at

pub lend_long : (v w : List Track) (d : WholeDevice) (h : Held) (to : ℕ) → IsInOrder v w d.store h → d.store.paired ≡ false → d.history.running ≡ None →
    WholeTwins (LeavesLending (length h.a) d.store.device) (lend contents d to) (lend by_plain (marks_device v w d) to) h
lend_long v w d h to i single idle =
    let i' = lend contents d to in
    let j' = lend by_plain (marks_device v w d) to in
    both_weaker i' j' h
    (λ s a m b k e. record {
      plain = e.0.0.plain;
      firm = e.0.0.firm;
      marks = e.0.0.marks;
      is = record { lent = e.0.0.is.lent; long = e.1.0; number = e.0.1 };
    })
    (both_long (length h.a) (length h.b) i' j' h refl refl (both_behind i' j' h (lend_whole v w d h to i single idle) (lend_number contents d to).holds))
