-- A whole device and the device of a run, walked together: how an event begins and ends, and what stands between.
use Rattle.std.proofs.Common.{◌≡◌, ℕ, Bool, true, List, [], refl, sym, ap, subst, ◌∙◌}
use Rattle.ckd_types.specs.declared.record.Track.{Track}
use Rattle.track_image.specs.Image.{Image}
use Rattle.device_outside.specs.Both.{both_done, TellsAll}
use Rattle.device_outside.specs.Interaction.{Interaction, Done, and_then}
use Rattle.device_outside.specs.Keeper.{Hearing}
use Rattle.device_outside.specs.Outside.{Outside, Ran}
use Rattle.device_outside.specs.Told.{Told}
use Rattle.device_outside.proofs.BothRules.{first_then}
use Rattle.device_outside.proofs.Link.{linked}
use Rattle.device_defs.specs.Contents.{contents, by_plain}
use Rattle.device_defs.specs.Device.{event_begun, quiet_event, event}
use Rattle.device_defs.specs.Marks.{MarksStore, MarksDevice, marks_of}
use Rattle.device_defs.specs.Owed.{waiting_count, noted_begin, hear, noted_end}
use Rattle.device_defs.specs.Sound.{DeviceStore}
use Rattle.device_laws.specs.Agrees.{Held}
use Rattle.device_laws.specs.InOrder.{IsInOrder}
use Rattle.device_laws.specs.Twin.{Claim, Twins}
use Rattle.device_laws.specs.Whole.{WholeDevice, marks_device, WholeClaim, WholeTwin, WholeTwins, Leaves, IsStep}
use Rattle.device_laws.proofs.Changes as C
use Rattle.device_laws.proofs.FailedCall.{IsWell, same_is_well}
use Rattle.device_laws.proofs.Notices.{hearing_keeps_good, ending_changes_no_mark}
use Rattle.device_laws.proofs.TrackMarks as M
use Rattle.device_laws.proofs.TwinAsks.{Stays, Ordered, beside_order}
use Rattle.device_laws.proofs.TwinEvents.{hear_twin, ended_twin, count_twin}
use Rattle.device_laws.proofs.TwinLaws.{in_order, is_in_order}
use Rattle.device_laws.proofs.TwinWalks.{twin_always, twin_weaker}

-- One after another

module _ {A B : Type 0} {q : WholeClaim A B} {h : Held} where
  pub whole_done : (v w : List Track) (d : WholeDevice) {a : A} {b : B} → q v w d a b h → WholeTwins q (Done d a) (Done (marks_device v w d) b) h
  whole_done v w d x = both_done (record { plain = v; firm = w; marks = refl; is = x })

  pub whole_ends : (v w : List Track) (d : WholeDevice) {m : MarksDevice} {a : A} {b : B} → marks_device v w d ≡ m → q v w d a b h →
      WholeTwins q (Done d a) (Done m b) h
  whole_ends v w d e x = both_done (record { plain = v; firm = w; marks = e; is = x })

  -- a part of its store, and then the device
  pub store_then : {C E : Type 0} {p : Claim C E} {i : Interaction (List ℕ) Image DeviceStore C} {j : Interaction Bool Image MarksStore E}
      (f : DeviceStore → C → Interaction (List ℕ) Image WholeDevice A) (g : MarksStore → E → Interaction Bool Image MarksDevice B) → Twins p i j h →
      ((v w : List Track) (s : DeviceStore) (c : C) (e : E) (k : Held) → p v w s c e k → WholeTwins q (f s c) (g (marks_of v w s) e) k) →
      WholeTwins q (and_then i f) (and_then j g) h
  store_then f g x w = first_then f g x (λ s c m e k is. rw (← is.marks) (w is.plain is.firm s c e k is.is))

  pub whole_then : {C E : Type 0} {p : WholeClaim C E} {i : Interaction (List ℕ) Image WholeDevice C} {j : Interaction Bool Image MarksDevice E}
      (f : WholeDevice → C → Interaction (List ℕ) Image WholeDevice A) (g : MarksDevice → E → Interaction Bool Image MarksDevice B) → WholeTwins p i j h →
      ((v w : List Track) (d : WholeDevice) (c : C) (e : E) (k : Held) → p v w d c e k → WholeTwins q (f d c) (g (marks_device v w d) e) k) →
      WholeTwins q (and_then i f) (and_then j g) h
  whole_then f g x w = first_then f g x (λ d c m e k is. rw (← is.marks) (w is.plain is.firm d c e k is.is))

-- The front of an event and its end

record Goes (u : List Track) (s : DeviceStore) (v w : List Track) (z : DeviceStore) (k : Held) : Type 0 where
  order : IsInOrder v w z k
  plain : v ≡ u
  stays : Stays s z

hears : (n : ℕ) (v w : List Track) (s : DeviceStore) (h : Held) → IsInOrder v w s h →
    Twins (λ v' w' z _ _ k. Goes v s v' w' z k) (hear contents n s) (hear by_plain n (marks_of v w s)) h
hears n v w s h i =
    let o = in_order v w s h i in
    twin_weaker (twin_always (hear_twin n v w s h o) (hearing_keeps_good contents n s o.well))
    (λ v' w' z a b k f. record { order = is_in_order v' w' z k f.0.order f.1.well; plain = f.0.plain; stays = f.0.stays })

ends : (before : ℕ) (v w : List Track) (s : DeviceStore) (h : Held) → IsInOrder v w s h →
    Twins (λ v' w' z _ _ k. Goes v s v' w' z k) (noted_end contents before s) (noted_end by_plain before (marks_of v w s)) h
ends before v w s h i =
    let o = in_order v w s h i in
    twin_weaker
    (twin_always (ended_twin before v w s h (record { sure = o.sure; told = o.told })) (ending_changes_no_mark contents before s o.well.sizes))
    (λ v' w' z a b k f. record {
      order = is_in_order v' w' z k f.0.order (same_is_well contents s z o.well f.1);
      plain = f.0.plain;
      stays = f.0.stays;
    })

module _ (v w : List Track) (s : DeviceStore) (h : Held) where
  begun_ordered : Ordered v w s h → Ordered v w (noted_begin s) h
  begun_ordered o = beside_order o

  begun_well : IsWell contents s → IsWell contents (noted_begin s)
  unfolding M.track_at C.rest_of
  begun_well y = record {
    sizes = record { are = y.sizes.are };
    here = record { free = y.here.free; alone = y.here.alone; whole = y.here.whole; within = y.here.within; queued = y.here.queued };
    good = y.good;
    kept = y.kept;
  }

  pub begun_order : IsInOrder v w s h → IsInOrder v w (noted_begin s) h
  begun_order i =
      let o = in_order v w s h i in
      is_in_order v w (noted_begin s) h (begun_ordered (record { sure = o.sure; told = o.told })) (begun_well o.well)

-- Whole events

module _ {A : Type 0} {p : List Track → Type 0} where
  ending : (before : ℕ) (v w : List Track) (d : WholeDevice) (a b : A) (h : Held) → Leaves p v w d a b h →
      WholeTwins (Leaves p) (and_then (noted_end contents before d.store) (λ z _. Done (record d { store = z }) a))
      (and_then (noted_end by_plain before (marks_of v w d.store)) (λ z _. Done (record (marks_device v w d) { store = z }) b)) h
  ending before v w d a b h x =
      store_then _ _ (ends before v w d.store h x.order)
      (λ v' w' z _ _ k f. whole_done v' w' (record d { store = z }) (record { order = f.order; same = x.same; is = subst p (sym f.plain) x.is }))

  -- an event that takes no notes
  pub quiet_twin : (v w : List Track) (d : WholeDevice) (h : Held) (f : WholeDevice → Interaction (List ℕ) Image WholeDevice A)
      (g : MarksDevice → Interaction Bool Image MarksDevice A) → WholeTwins (Leaves p) (f (event_begun d)) (g (event_begun (marks_device v w d))) h →
      WholeTwins (Leaves p) (quiet_event contents d f) (quiet_event by_plain (marks_device v w d) g) h
  quiet_twin v w d h f g x =
      whole_then _ _ x
      (λ v' w' z a b k o.
      rw (count_twin v w d.store) (ending (waiting_count contents d.store) v' w' z a b k o))

  -- and one that first takes the notes
  pub event_twin : (v w : List Track) (d : WholeDevice) (h : Held) (f : WholeDevice → Interaction (List ℕ) Image WholeDevice A)
      (g : MarksDevice → Interaction Bool Image MarksDevice A) → IsInOrder v w d.store h →
      ((w' : List Track) (s : DeviceStore) (k : Held) → IsInOrder v w' s k → Stays d.store s →
      WholeTwins (Leaves p) (f (record (event_begun d) { store = s })) (g (marks_device v w' (record (event_begun d) { store = s }))) k) →
      WholeTwins (Leaves p) (event contents d f) (event by_plain (marks_device v w d) g) h
  event_twin v w d h f g i body =
      quiet_twin v w d h (λ z. and_then (hear contents 960 z.store) (λ s _. f (record z { store = s })))
      (λ z. and_then (hear by_plain 960 z.store) (λ s _. g (record z { store = s })))
      (store_then _ _ (hears 960 v w (noted_begin d.store) h (begun_order v w d.store h i))
      (λ v' w' s _ _ k x.
      rw x.plain (body w' s k (subst (λ (y : List Track). IsInOrder y w' s k) x.plain x.order)
      (record { geometry = x.stays.geometry; cylinders = x.stays.cylinders; half = x.stays.half }))))

-- The step of a run

-- where the outside tells its pool, what the sides hold and which calls fail, and memory is had
pub whole_linked : {K A : Type 0} {p : List Track → Type 0} {had : Bool → Type 0} {hears : Hearing Image K} (others : List ℕ)
    {i : Interaction (List ℕ) Image WholeDevice A} {j : Interaction Bool Image MarksDevice A} (h : Held) (t : Told)
    {u z : Outside (List ℕ) K} {d : WholeDevice} {a : A} → ((ok : Bool) → had ok → ok ≡ true) → WholeTwins (Leaves p) i j h → Ran had hears i u d a z →
    TellsAll others u h t → IsStep p others j t d a z
whole_linked {p = p} others {j = j} h t {d = d} {a = a} memory x r tells =
    let o = linked others memory [] true (WholeTwin (Leaves p)) h t x r tells in
    record {
      plain = o.is.plain;
      firm = o.is.firm;
      held = o.holdings;
      told = o.told;
      ran = o.ran
          ∙ ap (λ (m : MarksDevice). record { state = m; answer = o.answer; told = o.told }) (sym o.is.marks)
          ∙ ap (λ (b : _). record { state = marks_device o.is.plain o.is.firm d; answer = b; told = o.told }) (sym o.is.is.same);
      order = o.is.is.order;
      is = o.is.is.is;
      tells = o.tells;
    }
