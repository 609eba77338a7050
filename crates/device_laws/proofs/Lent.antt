-- A device that is lent stays that: its events ask and change next to nothing, and do over marks what they do over contents.
use Rattle.std.proofs.Common.{◌≡◌, ◌&&◌, ◌||◌, not, ℕ, zero, suc, Bool, true, false, List, [], ◌∷◌, Option, Some, None, is_some, refl, sym, ap, subst, ◌∙◌}
use Rattle.std.specs.Prelude.{option_map, if◌then◌else◌}
use Rattle.ckd_types.specs.declared.paths.Side.TheVariants.{A, B}
use Rattle.ckd_types.specs.declared.record.Track.{Track}
use Rattle.plain_defs.specs.declared.journal.Act.{Act}
use Rattle.plain_defs.specs.History.{
  History,
  OpenEntry,
  acted_in,
  acted as act_done,
  reset_in,
  reset_in_history as history_reset,
  lost_power_in,
  lost_power,
  has_used,
}
use Rattle.plain_defs.specs.Legal.{is_used, is_started}
use Rattle.plain_defs.specs.PlainState.{fresh_paths, reset_path}
use Rattle.loss_model.specs.declared.Loss.{Loss}
use Rattle.loss_model.specs.declared.Loss.TheVariants as losses
use Rattle.track_table.specs.Tracks.{least}
use Rattle.track_table.proofs.Rising.{least_none}
use Rattle.track_image.specs.Image.{Image}
use Rattle.track_cache.specs.declared.frames.Frame.{Frame}
use Rattle.nv_store.specs.declared.patches.Stored.{Stored}
use Rattle.device_outside.specs.Interaction.{Interaction, Done, Tell, and_then}
use Rattle.device_outside.specs.Keeper.{Firm}
use Rattle.device_outside.proofs.BothRules.{on_test}
use Rattle.device_defs.specs.declared.answers.Did.TheVariants.{Nothing}
use Rattle.device_defs.specs.Background as K
use Rattle.device_defs.specs.Background.{copies_to, copy_first, stage_first, destage_first, recover_first, work}
use Rattle.device_defs.specs.Contents.{Contents, contents, by_plain}
use Rattle.device_defs.specs.Cutting as U
use Rattle.device_defs.specs.Cutting.{counts_one_by, half_cut, half_lost, loose_gone, powerless, powered_off, power, reset_noted, reset_by, reset}
use Rattle.device_defs.specs.Device.{Device, all_acted, with_store, event_begun, quiet_event, event}
use Rattle.device_defs.specs.Effects.{gone_back}
use Rattle.device_defs.specs.Events as E
use Rattle.device_defs.specs.Events.{with_loss, losing, background, lose}
use Rattle.device_defs.specs.Losses as L
use Rattle.device_defs.specs.Losses.{over, without_frame, settled, patch_lost, cache_lost, store_lost, framed_image, all_firm_told}
use Rattle.device_defs.specs.Marks.{MarksStore, MarksDevice, marks_of, frame_mark, patch_mark, half_mark}
use Rattle.device_defs.specs.Owed as O
use Rattle.device_defs.specs.Owed.{is_clean, dropped, heard, hear, noted_begin, waiting_count, noted_end}
use Rattle.device_defs.specs.Sound.{DeviceStore}
use Rattle.device_defs.specs.Store.{
  HalfWrite,
  Store,
  tracks_of,
  stale_at,
  level_at,
  has_level,
  frame_at,
  patch_at,
  is_lost,
  has_loose,
  half_is,
  owed_at,
  with_frame,
  with_owed,
}
use Rattle.device_laws.specs.Agrees.{Held, image_in, slot_at, IsGround}
use Rattle.device_laws.specs.Lent.{IsLentStore, IsLent}
use Rattle.device_laws.specs.Twin.{Twins}
use Rattle.device_laws.specs.Whole.{WholeDevice, marks_device, WholeTwins}
use Rattle.device_laws.proofs.Changes as C
use Rattle.device_laws.proofs.Changes.{Rest, rest_of}
use Rattle.device_laws.proofs.ContentChanges.{same_slots}
use Rattle.device_laws.proofs.FailedCall.{IsSame}
use Rattle.device_laws.proofs.Notices.{ending_changes_no_mark}
use Rattle.device_laws.proofs.TrackContents as T
use Rattle.device_laws.proofs.TrackContents.{contents_at, none_fits}
use Rattle.device_laws.proofs.TrackMarks as M
use Rattle.device_laws.proofs.TrackMarks.{track_at}
use Rattle.device_laws.proofs.TwinAsks.{Ordered, ask_notice, right_keeps}
use Rattle.device_laws.proofs.TwinCacheLost.{begun_with, begins}
use Rattle.device_laws.proofs.TwinChanges.{frame_twin, patch_twin, owed_twin}
use Rattle.device_laws.proofs.TwinEvents.{ended_twin, count_twin}
use Rattle.device_laws.proofs.TwinWalks.{twin_done, twin_always, twin_weaker}
use Rattle.device_laws.proofs.WholeTwins.{whole_done, whole_ends, store_then, whole_then}
use Rattle.device_defs.specs.declared.counts.Counts.{Counts}

-- No act and no event starts a program

acted_idle : (h : History) (act : Act) → h.running ≡ None → (act_done h act).running ≡ None
acted_idle h act e = ap (λ (o : Option OpenEntry). (acted_in h act o).running) e ∙ e

pub all_idle : (h : History) (acts : List Act) → h.running ≡ None → (all_acted h acts).running ≡ None
all_idle h [] e = e
all_idle h (act ∷ acts) e = all_idle (act_done h act) acts (acted_idle h act e)

running_if : (b : Bool) (x y : History) → x.running ≡ None → y.running ≡ None → (if b then x else y).running ≡ None
running_if true x y e f = e
running_if false x y e f = f

pub reset_idle : (h : History) (path more : ℕ) → h.running ≡ None → (history_reset h path more).running ≡ None
reset_idle h path more e =
    ap (λ (o : Option OpenEntry). (reset_in h path more o).running) e ∙ running_if (is_used path false h.items) _ h e e

pub power_idle : (h : History) (more : ℕ) → h.running ≡ None → (lost_power h more).running ≡ None
power_idle h more e = ap (λ (o : Option OpenEntry). (lost_power_in h more o).running) e ∙ running_if (is_started false h.items) _ h refl e

-- What nothing is kept of stays so

module _ {F P H R : Type 0} (c : Contents F P H R) where
  pub dropped_same : (s : Store F P H) (t : ℕ) → frame_at s t ≡ None → dropped c s t ≡ s
  dropped_same s t e = ap (λ (o : Option F). if is_clean c o then with_frame s t None else s) e

  pub unframed_same : (s : Store F P H) (t : ℕ) → frame_at s t ≡ None → without_frame s t ≡ s
  unframed_same s t e =
      ap (λ (o : Option F). if is_some o then with_owed (with_frame s t None) t (record (owed_at s t) { dropped = true }) else s) e

  pub settled_same : (s : Store F P H) (t : ℕ) → is_some s.lent ≡ true → settled c s t ≡ s
  unfolding L.settled
  settled_same s t e =
      ap (λ (b : Bool). if b then s else if is_lost s t then s else if has_level s t then s
      else L.by_frame c s t (frame_at s t)) e

  pub swept_same : (n : ℕ) (s : Store F P H) → ((t : ℕ) → frame_at s t ≡ None) → is_some s.lent ≡ true →
      over n (λ t z. settled c (without_frame z t) t) s ≡ s
  unfolding L.over
  swept_same zero s none lent = refl
  swept_same (suc n) s none lent =
      ap (λ (z : Store F P H). settled c (without_frame z n) n) (swept_same n s none lent)
      ∙ ap (λ (z : Store F P H). settled c z n) (unframed_same s n (none n)) ∙ settled_same s n lent

  pub patches_same : (n : ℕ) (s : Store F P H) → ((t : ℕ) → patch_at s t ≡ None) → over n (patch_lost c) s ≡ s
  unfolding L.over
  patches_same zero s none = refl
  patches_same (suc n) s none =
      ap (patch_lost c n) (patches_same n s none)
      ∙ ap (λ (o : Option P). if is_some o then
      (if half_is s.half n then L.without_patch c s n else settled c (L.stale_everywhere (L.without_patch c s n) n) n)
      else s) (none n)

  told_same : (n : ℕ) (s : Store F P H) → ((t : ℕ) → (owed_at s t).firm ≡ false) → all_firm_told c n s ≡ Done s tt
  unfolding L.all_firm_told
  told_same zero s told = refl
  told_same (suc n) s told =
      ap (λ (i : Interaction R Image (Store F P H) (Unit {0})). and_then i (λ z _. L.firm_told c n z)) (told_same n s told)
      ∙ ap (λ (b : Bool). if b then
      Tell (Firm s.device n (framed_image c s n (frame_at s n)))
      (λ _. Done (with_owed s n (record (owed_at s n) { firm = false })) tt)
      else Done s tt) (told n)

  -- there is nothing to do
  copies_by : (x y held p q r u : Bool) → x ≡ false → y ≡ false →
      is_some (if x && p && q then Some A else if y && not held && r && u then Some B else None) ≡ false
  copies_by false false held p q r u e f = refl
  copies_by true y held p q r u e f = absurd (cc)
  copies_by false true held p q r u e f = absurd (cc)

  no_copy : (s : Store F P H) → s.a.up ≡ false → s.b.up ≡ false → K.to_copy s ≡ None
  no_copy s a b =
      least_none (tracks_of s) (λ t. is_some (copies_to s t))
      (λ t lt. copies_by s.a.up s.b.up s.held (stale_at s.a t) (level_at s.b t) (stale_at s.b t)
      (level_at s.a t) a b)

  none_up : (x y : Bool) → x ≡ false → y ≡ false → (x || y) ≡ false
  none_up false y e f = f
  none_up true y e f = absurd (cc)

  pub work_none : (s : Store F P H) → s.a.up ≡ false → s.b.up ≡ false → s.queue ≡ [] → work c s ≡ Done s (Some Nothing)
  unfolding K.work
  work_none s a b queue =
      let up = none_up s.a.up s.b.up a b in
      ap (λ (x : Bool). recover_first c s (if x then least (tracks_of s) (O.waits c s) else None)) up
      ∙ ap (copy_first c s) (no_copy s a b)
      ∙ ap (stage_first c s) queue
      ∙ ap (λ (x : Bool). destage_first c s (if x then least (tracks_of s) (K.is_destaged c s) else None)) up

-- A lent store

module _ (v w : List Track) (s : DeviceStore) (h : Held) (i : IsLentStore v w s h) where
  level_off : (up x : Bool) → up ≡ false → (up && x) ≡ false
  level_off false x e = refl
  level_off true x e = absurd (cc)

  a_off : (t : ℕ) → (contents_at s h t).a ≡ false
  unfolding T.contents_at
  a_off t = level_off s.a.up _ i.down_a

  b_off : (t : ℕ) → (contents_at s h t).b ≡ false
  unfolding T.contents_at
  b_off t = level_off s.b.up _ i.down_b

  no_frame : (t : ℕ) → (contents_at s h t).frame ≡ None
  unfolding T.contents_at
  no_frame t = i.frame t

  no_patch : (t : ℕ) → (contents_at s h t).patch ≡ None
  unfolding T.contents_at
  no_patch t = i.patch t

  no_debt_there : (t : ℕ) → (contents_at s h t).debt ≡ false
  unfolding T.contents_at
  no_debt_there t = i.told t

  pub lent_ordered : Ordered v w s h
  lent_ordered = record {
    sure = record {
      ground = i.ground;
      right = λ q lt ne. right_keeps s.geometry q s.half (contents_at s h q) (image_in s v q) (image_in s w q)
          (ap (λ (o : Option (HalfWrite Image)). half_is o q) i.half)
          (record {
            frame = λ f e. absurd (let n = no_frame q in cc);
            a = λ e. absurd (let n = a_off q in cc);
            b = λ e. absurd (let n = b_off q in cc);
            patch = none_fits (contents_at s h q).patch (image_in s v q) (image_in s w q) (no_patch q);
          });
    };
    told = no_debt_there;
  }

  marks_frame : (t : ℕ) → frame_at (marks_of v w s) t ≡ None
  marks_frame t = frame_twin v w s t ∙ ap (option_map frame_mark) (i.frame t)

  marks_patch : (t : ℕ) → patch_at (marks_of v w s) t ≡ None
  marks_patch t = patch_twin v w s t ∙ ap (option_map patch_mark) (i.patch t)

  marks_told : (t : ℕ) → (owed_at (marks_of v w s) t).firm ≡ false
  marks_told t = ap (λ (o : _). o.firm) (owed_twin v w s t) ∙ i.told t

abbrev Away : List Track → List Track → DeviceStore → Unit {0} → Unit {0} → Held → Type 0
Away v w z a b k = IsLentStore v w z k

hear_lent : (n : ℕ) (v w : List Track) (s : DeviceStore) (h : Held) → IsLentStore v w s h → Twins Away (hear contents n s) (hear by_plain n (marks_of v w s)) h
unfolding O.hear
hear_lent zero v w s h i = twin_done i
hear_lent (suc n) v w s h i = ask_notice s.device (λ note. by_note note (hear_lent n v w s h i))
  where
    by_note : (note : Option ℕ) → Twins Away (hear contents n s) (hear by_plain n (marks_of v w s)) h →
        Twins Away (heard contents (hear contents n) s note) (heard by_plain (hear by_plain n) (marks_of v w s) note) h
    by_note None later = twin_done i
    by_note (Some t) later =
        rw (dropped_same contents s t (i.frame t)) (rw (dropped_same by_plain (marks_of v w s) t (marks_frame v w s h i t)) later)

-- an event's end

frame_of : (s z : DeviceStore) (q : ℕ) → track_at contents z q ≡ track_at contents s q → frame_at s q ≡ None → frame_at z q ≡ None
unfolding M.track_at
frame_of s z q e none = by_mark (frame_at z q) (ap (λ (x : M.TrackMarks). x.frame) e ∙ ap (M.frame_mark contents) none)
  where
    by_mark : (o : Option Frame) → M.frame_mark contents o ≡ None → o ≡ None
    by_mark None e = refl
    by_mark (Some f) e = absurd (cc)

patch_of : (s z : DeviceStore) (q : ℕ) → track_at contents z q ≡ track_at contents s q → patch_at s q ≡ None → patch_at z q ≡ None
unfolding M.track_at
patch_of s z q e none = by_mark (patch_at z q) (ap (λ (x : M.TrackMarks). x.patched) e ∙ ap is_some none)
  where
    by_mark : (o : Option Stored) → is_some o ≡ false → o ≡ None
    by_mark None e = refl
    by_mark (Some f) e = absurd (cc)

lost_of : (s z : DeviceStore) (q : ℕ) → track_at contents z q ≡ track_at contents s q → is_lost s q ≡ false → is_lost z q ≡ false
unfolding M.track_at
lost_of s z q e off = ap (λ (x : M.TrackMarks). x.lost) e ∙ off

same_lent : (v w v' w' : List Track) (s z : DeviceStore) (h k : Held) → IsLentStore v w s h → IsSame contents s z → Ordered v' w' z k → IsLentStore v' w' z k
unfolding C.rest_of T.contents_at
same_lent v w v' w' s z h k i e o = record {
  ground = o.sure.ground;
  told = o.told;
  lent = ap (λ (r : Rest Image). is_some r.lent) e.rest ∙ i.lent;
  single = ap (λ (r : Rest Image). r.paired) e.rest ∙ i.single;
  down_a = ap (λ (r : Rest Image). r.up_a) e.rest ∙ i.down_a;
  down_b = ap (λ (r : Rest Image). r.up_b) e.rest ∙ i.down_b;
  half = ap (λ (r : Rest Image). r.half) e.rest ∙ i.half;
  queue = ap (λ (r : Rest Image). r.queue) e.rest ∙ i.queue;
  frame = λ t. frame_of s z t (e.marks t) (i.frame t);
  patch = λ t. patch_of s z t (e.marks t) (i.patch t);
  lost = λ t. lost_of s z t (e.marks t) (i.lost t);
}

ended_lent : (before : ℕ) (v w : List Track) (s : DeviceStore) (h : Held) → IsLentStore v w s h →
    Twins Away (noted_end contents before s) (noted_end by_plain before (marks_of v w s)) h
ended_lent before v w s h i =
    twin_weaker (twin_always (ended_twin before v w s h (lent_ordered v w s h i)) (ending_changes_no_mark contents before s i.ground.sizes))
    (λ v' w' z a b k f. same_lent v w v' w' s z h k i f.1 f.0.order)

-- Data of cache fast write go

beside_lent : {v w v' w' : List Track} {s z : DeviceStore} {h : Held} → IsLentStore v w s h → IsGround v' w' z h →
    z ≡ record s { number = z.number; plain = z.plain; firm = z.firm; loose = z.loose; acts = z.acts; counts = z.counts; queue = [] } →
    IsLentStore v' w' z h
beside_lent i ground e = record {
  ground = ground;
  told = λ t. ap (λ (x : DeviceStore). (owed_at x t).firm) e ∙ i.told t;
  lent = ap (λ (x : DeviceStore). is_some x.lent) e ∙ i.lent;
  single = ap (λ (x : DeviceStore). x.paired) e ∙ i.single;
  down_a = ap (λ (x : DeviceStore). x.a.up) e ∙ i.down_a;
  down_b = ap (λ (x : DeviceStore). x.b.up) e ∙ i.down_b;
  half = ap (λ (x : DeviceStore). x.half) e ∙ i.half;
  queue = ap (λ (x : DeviceStore). x.queue) e;
  frame = λ t. ap (λ (x : DeviceStore). frame_at x t) e ∙ i.frame t;
  patch = λ t. ap (λ (x : DeviceStore). patch_at x t) e ∙ i.patch t;
  lost = λ t. ap (λ (x : DeviceStore). is_lost x t) e ∙ i.lost t;
}

ground_beside : {v w : List Track} {s : DeviceStore} {h : Held} (acts : List Act) (counts : Counts) → IsGround v w s h →
    IsGround v w (record s { acts = acts; counts = counts }) h
ground_beside {s = s} {h = h} acts counts g = record {
  sizes = record { are = g.sizes.are };
  plain = g.plain;
  firm = g.firm;
  same = g.same;
  apart = g.apart;
  patches = g.patches;
  long = g.long;
  slots = same_slots s (record s { acts = acts; counts = counts }) h.slots
      (λ kept q. elim kept as (λ b. slot_at (record s { acts = acts; counts = counts }) b q ≡ slot_at s b q) [ true ↦ refl | false ↦ refl ]) g.slots;
}

begun_lent : (v w : List Track) (s : DeviceStore) (h : Held) (any : Bool) → has_loose s ≡ any → IsLentStore v w s h →
    IsLentStore (if any then w else v) w (begun_with any s) h
begun_lent v w s h true e i =
    let o = lent_ordered v w s h i in beside_lent i (begins v w s h o.sure o.told true e).off.ground refl
begun_lent v w s h false e i =
    let o = lent_ordered v w s h i in beside_lent i (begins v w s h o.sure o.told false e).off.ground refl

-- its acts and its counts aren't of its tracks
acts_lent : (v w : List Track) (s : DeviceStore) (h : Held) (acts : List Act) → IsLentStore v w s h → IsLentStore v w (record s { acts = acts }) h
acts_lent v w s h acts i =
    beside_lent i (ground_beside acts s.counts i.ground) (ap (λ (l : List ℕ). record s { acts = acts; queue = l }) i.queue)

counted_lent : (v w : List Track) (s : DeviceStore) (h : Held) (loss : Loss) → IsLentStore v w s h → IsLentStore v w (with_loss s loss) h
counted_lent v w s h loss i =
    beside_lent i (ground_beside s.acts (with_loss s loss).counts i.ground) (ap (λ (l : List ℕ). record (with_loss s loss) { queue = l }) i.queue)

-- Events

pub record LeavesLent {A : Type 0} (v w : List Track) (d : WholeDevice) (a b : A) (k : Held) : Type 0 where
  pub lent : IsLent v w d k
  pub same : a ≡ b

module _ {A : Type 0} where
  ending : (before : ℕ) (v w : List Track) (d : WholeDevice) (a b : A) (h : Held) → LeavesLent v w d a b h →
      WholeTwins LeavesLent (and_then (noted_end contents before d.store) (λ z _. Done (record d { store = z }) a))
      (and_then (noted_end by_plain before (marks_of v w d.store)) (λ z _. Done (record (marks_device v w d) { store = z }) b)) h
  ending before v w d a b h x =
      store_then _ _ (ended_lent before v w d.store h x.lent.store)
      (λ v' w' z _ _ k f. whole_done v' w' (record d { store = z }) (record { lent = record { store = f; idle = x.lent.idle }; same = x.same }))

  pub quiet_lent : (v w : List Track) (d : WholeDevice) (h : Held) (f : WholeDevice → Interaction (List ℕ) Image WholeDevice A)
      (g : MarksDevice → Interaction Bool Image MarksDevice A) → WholeTwins LeavesLent (f (event_begun d)) (g (event_begun (marks_device v w d))) h →
      WholeTwins LeavesLent (quiet_event contents d f) (quiet_event by_plain (marks_device v w d) g) h
  quiet_lent v w d h f g x =
      whole_then _ _ x
      (λ v' w' z a b k o.
      rw (count_twin v w d.store) (ending (waiting_count contents d.store) v' w' z a b k o))

  event_lent : (v w : List Track) (d : WholeDevice) (h : Held) (f : WholeDevice → Interaction (List ℕ) Image WholeDevice A)
      (g : MarksDevice → Interaction Bool Image MarksDevice A) → IsLent v w d h →
      ((v' w' : List Track) (s : DeviceStore) (k : Held) → IsLentStore v' w' s k →
      WholeTwins LeavesLent (f (record (event_begun d) { store = s })) (g (marks_device v' w' (record (event_begun d) { store = s }))) k) →
      WholeTwins LeavesLent (event contents d f) (event by_plain (marks_device v w d) g) h
  event_lent v w d h f g i body =
      quiet_lent v w d h (λ z. and_then (hear contents 960 z.store) (λ s _. f (record z { store = s })))
      (λ z. and_then (hear by_plain 960 z.store) (λ s _. g (record z { store = s })))
      (store_then _ _ (hear_lent 960 v w (noted_begin d.store) h (acts_lent v w d.store h [] i.store))
      (λ v' w' s _ _ k x. body v' w' s k x))

pub background_lent : (v w : List Track) (d : WholeDevice) (h : Held) → IsLent v w d h →
    WholeTwins LeavesLent (background contents d) (background by_plain (marks_device v w d)) h
unfolding E.background
background_lent v w d h i =
    event_lent v w d h (λ z. and_then (work contents z.store) (λ s did. Done (with_store z s) did))
    (λ z. and_then (work by_plain z.store) (λ s did. Done (with_store z s) did)) i
    (λ v' w' s k o.
    let z : WholeDevice = record (event_begun d) { store = s } in
    rw (work_none contents s o.down_a o.down_b o.queue) (rw (work_none by_plain (marks_of v' w' s) o.down_a o.down_b o.queue)
    (whole_done v' w' (with_store z s) (record { lent = record { store = o; idle = all_idle d.history s.acts i.idle }; same = refl }))))

-- Losses

module _ (v w : List Track) (s : DeviceStore) (h : Held) (i : IsLentStore v w s h) where
  abbrev any : Bool
  any = has_loose s

  abbrev y : DeviceStore
  y = begun_with (has_loose s) s

  abbrev u : List Track
  u = if has_loose s then w else v

  begun_marks : (b : Bool) → marks_of (if b then w else v) w (begun_with b s) ≡ begun_with b (marks_of v w s)
  begun_marks true = refl
  begun_marks false = refl

  begun_frame : {F P H : Type 0} (b : Bool) (x : Store F P H) (t : ℕ) → frame_at x t ≡ None → frame_at (begun_with b x) t ≡ None
  begun_frame true x t e = e
  begun_frame false x t e = e

  begun_is_lent : {F P H : Type 0} (b : Bool) (x : Store F P H) → is_some x.lent ≡ true → is_some (begun_with b x).lent ≡ true
  begun_is_lent true x e = e
  begun_is_lent false x e = e

  lent_y : IsLentStore u w y h
  lent_y = begun_lent v w s h (has_loose s) refl i

  cache_same : cache_lost contents s ≡ y
  unfolding L.cache_lost
  cache_same =
      swept_same contents (tracks_of s) y (λ t. begun_frame (has_loose s) s t (i.frame t)) (begun_is_lent (has_loose s) s i.lent)

  cache_marks : cache_lost by_plain (marks_of v w s) ≡ marks_of u w y
  unfolding L.cache_lost
  cache_marks =
      swept_same by_plain (tracks_of s) (begun_with (has_loose s) (marks_of v w s))
      (λ t. begun_frame (has_loose s) (marks_of v w s) t (marks_frame v w s h i t)) (begun_is_lent (has_loose s) (marks_of v w s) i.lent)
      ∙ sym (begun_marks (has_loose s))

  store_same : store_lost contents s ≡ s
  unfolding L.store_lost
  store_same = patches_same contents (tracks_of s) s i.patch

  store_marks : store_lost by_plain (marks_of v w s) ≡ marks_of v w s
  unfolding L.store_lost
  store_marks = patches_same by_plain (tracks_of s) (marks_of v w s) (marks_patch v w s h i)

-- what is told then is nothing
told_nothing : (v w : List Track) (n : ℕ) (s : DeviceStore) (h : Held) (m : MarksStore) → marks_of v w s ≡ m → IsLentStore v w s h →
    Twins Away (all_firm_told contents n s) (all_firm_told by_plain n m) h
told_nothing v w n s h m e i =
    rw (← e) (rw (told_same contents n s i.told) (rw (told_same by_plain n (marks_of v w s) (marks_told v w s h i)) (twin_done i)))

-- of the cache or the store: that of a side is refused
abbrev pub IsShared : Loss → Type 0
IsShared losses.Cache = Unit {0}
IsShared losses.Store = Unit {0}
IsShared (losses.Side side) = ⊥

losing_lent : (v w : List Track) (s : DeviceStore) (h : Held) (loss : Loss) → IsShared loss → IsLentStore v w s h →
    Twins Away (losing contents s loss) (losing by_plain (marks_of v w s) loss) h
losing_lent v w s h losses.Cache shared i =
    let z = with_loss s losses.Cache in
    let o = counted_lent v w s h losses.Cache i in
    rw (cache_same v w z h o)
    (told_nothing (if has_loose z then w else v) w (tracks_of s) (begun_with (has_loose z) z) h (cache_lost by_plain (marks_of v w z))
    (sym (cache_marks v w z h o)) (lent_y v w z h o))
losing_lent v w s h losses.Store shared i =
    let z = with_loss s losses.Store in
    let o = counted_lent v w s h losses.Store i in
    rw (store_same v w z h o) (told_nothing v w (tracks_of s) z h (store_lost by_plain (marks_of v w z)) (sym (store_marks v w z h o)) o)
losing_lent v w s h (losses.Side side) shared i = absurd shared

pub loss_lent : (v w : List Track) (d : WholeDevice) (h : Held) (loss : Loss) → IsShared loss → IsLent v w d h →
    WholeTwins LeavesLent (lose contents d loss) (lose by_plain (marks_device v w d) loss) h
unfolding E.lose
loss_lent v w d h loss shared i =
    event_lent v w d h (λ z. and_then (losing contents z.store loss) (λ s _. Done (with_store z s) (tt {0})))
    (λ z. and_then (losing by_plain z.store loss) (λ s _. Done (with_store z s) (tt {0}))) i
    (λ v' w' s k o.
    let z : WholeDevice = record (event_begun d) { store = s } in
    store_then _ _ (losing_lent v' w' s k loss shared o)
    (λ v2 w2 y a b l f. whole_done v2 w2 (with_store z y) (record { lent = record { store = f; idle = all_idle d.history y.acts i.idle }; same = refl })))

-- Power

module _ {F P H R : Type 0} (c : Contents F P H R) where
  gone_frame : (s : Store F P H) (b : Bool) (t : ℕ) → frame_at s t ≡ None → frame_at (if b then gone_back s else s) t ≡ None
  gone_frame s true t e = e
  gone_frame s false t e = e

  gone_is_lent : (s : Store F P H) (b : Bool) → is_some s.lent ≡ true → is_some (if b then gone_back s else s).lent ≡ true
  gone_is_lent s true e = e
  gone_is_lent s false e = e

  powerless_same : (s : Store F P H) → s.half ≡ None → ((t : ℕ) → frame_at s t ≡ None) → is_some s.lent ≡ true →
      powerless c s ≡ record (loose_gone c s) { queue = [] }
  powerless_same s half none lent =
      ap (λ (o : Option (HalfWrite H)). over (tracks_of s) (λ t z. settled c (without_frame z t) t)
      (record (half_lost c (loose_gone c s) o) { queue = [] })) half
      ∙ swept_same c (tracks_of s) (record (loose_gone c s) { queue = [] }) (λ t. gone_frame s (has_loose s) t (none t)) (gone_is_lent s (has_loose s) lent)

  off_same : (d : Device F P H) → d.store.half ≡ None →
      and_then {R = R} {I = Image} (half_cut c d.store d.store.half) (λ s _. Done (powered_off c d s) (tt {0})) ≡ Done (powered_off c d d.store) (tt {0})
  off_same d half = ap (λ (o : Option (HalfWrite H)). and_then (half_cut c d.store o) (λ s _. Done (powered_off c d s) (tt {0}))) half

gone_lent : (v w : List Track) (s : DeviceStore) (h : Held) (any : Bool) → has_loose s ≡ any → IsLentStore v w s h →
    IsLentStore (if any then w else v) w (record (if any then gone_back s else s) { queue = [] }) h
gone_lent v w s h true e i = acts_lent w w (begun_with true s) h s.acts (begun_lent v w s h true e i)
gone_lent v w s h false e i = acts_lent v w (begun_with false s) h s.acts (begun_lent v w s h false e i)

gone_marks : (v w : List Track) (s : DeviceStore) (any : Bool) →
    marks_of (if any then w else v) w (record (if any then gone_back s else s) { queue = [] })
    ≡ record (if any then gone_back (marks_of v w s) else marks_of v w s) { queue = [] }
gone_marks v w s true = refl
gone_marks v w s false = refl

counts_none : {H : Type 0} (o : Option (HalfWrite H)) → o ≡ None → counts_one_by o ≡ 0
counts_none o e = ap counts_one_by e

pub power_lent : (v w : List Track) (d : WholeDevice) (h : Held) → IsLent v w d h →
    WholeTwins LeavesLent (power contents d) (power by_plain (marks_device v w d)) h
unfolding U.power
power_lent v w d h i =
    let z : WholeDevice = event_begun d in
    let s = z.store in
    let l = with_loss s losses.Cache in
    let o = counted_lent v w s h losses.Cache (acts_lent v w d.store h [] i.store) in
    let any = has_loose l in
    let u = if any then w else v in
    let y = record (loose_gone contents l) { queue = [] } in
    let off = λ (m : MarksStore) (n : ℕ). record (marks_device v w z) { store = m; paths = fresh_paths; history = lost_power z.history n; chain = None } in
    let half : option_map half_mark d.store.half ≡ None = ap (option_map half_mark) i.store.half in
    let e : powerless contents l ≡ y = powerless_same contents l i.store.half i.store.frame i.store.lent in
    quiet_lent v w d h (λ x. and_then (half_cut contents x.store x.store.half) (λ s _. Done (powered_off contents x s) (tt {0})))
    (λ x. and_then (half_cut by_plain x.store x.store.half) (λ s _. Done (powered_off by_plain x s) (tt {0})))
    (rw (off_same contents z i.store.half) (rw (off_same by_plain (marks_device v w z) half) (whole_ends u w (powered_off contents z s)
    (ap (λ (x : DeviceStore). off (marks_of u w x) (counts_one_by d.store.half)) e
    ∙ ap (λ (m : MarksStore). off m (counts_one_by d.store.half)) (gone_marks v w l any)
    ∙ ap (λ (m : MarksStore). off m (counts_one_by d.store.half))
    (sym (powerless_same by_plain (marks_of v w l) half (marks_frame v w l h o) i.store.lent))
    ∙ ap (λ (n : ℕ). off (powerless by_plain (marks_of v w l)) n)
    (counts_none d.store.half i.store.half ∙ sym (counts_none (option_map half_mark d.store.half) half)))
    (record {
      lent = record {
        store = subst (λ (x : DeviceStore). IsLentStore u w x h) (sym e) (gone_lent v w l h any refl o);
        idle = power_idle d.history (counts_one_by d.store.half) i.idle;
      };
      same = refl;
    }))))

-- Resets

pub reset_lent : (v w : List Track) (d : WholeDevice) (h : Held) (path : ℕ) → IsLent v w d h →
    WholeTwins LeavesLent (reset contents d path) (reset by_plain (marks_device v w d) path) h
unfolding U.reset
reset_lent v w d h path i =
    subst (λ (o : Option OpenEntry). WholeTwins LeavesLent (reset_by contents d path o) (reset_by by_plain (marks_device v w d) path o) h) (sym i.idle)
    (on_test (has_used d.history path)
    (λ _. whole_done v w (record (reset_noted contents d path 0) { paths = reset_path d.paths path })
    (record { lent = record { store = i.store; idle = reset_idle d.history path 0 i.idle }; same = refl }))
    (λ _. whole_done v w d (record { lent = i; same = refl })))
