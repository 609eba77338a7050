-- The front and the end of an event leave all right, with their twins on marks: the notices, what is owed, and how many tracks wait.
use Rattle.std.proofs.Common.{
  ◌≡◌,
  ◌≢◌,
  ◌<◌,
  ◌≤◌,
  ◌==◌,
  ◌&&◌,
  ◌||◌,
  ◌+◌,
  zero,
  suc,
  ℕ,
  Bool,
  true,
  false,
  List,
  Option,
  Some,
  None,
  is_some,
  refl,
  sym,
  ap,
  subst,
  ◌∙◌,
  arith,
  ◌⊎◌,
  inl,
  inr,
}
use Rattle.std.proofs.lemmas.Bool.{cases_eq}
use Rattle.std.specs.Prelude.{option_map, if◌then◌else◌}
use Rattle.ckd_types.specs.declared.record.Track.{Track}
use Rattle.ckd_types.specs.Volume.{track_in}
use Rattle.track_table.specs.Tracks as T
use Rattle.track_table.specs.Tracks.{count_below}
use Rattle.device_outside.specs.Both.{both_free}
use Rattle.device_outside.specs.Interaction.{Done, and_then}
use Rattle.device_outside.specs.Pool.{FreeSlot}
use Rattle.device_outside.specs.Slots.{held_after}
use Rattle.device_outside.proofs.BothRules.{on_test, on_tests}
use Rattle.device_defs.specs.declared.owed.Owed.{Owed}
use Rattle.device_defs.specs.Contents.{contents, by_plain}
use Rattle.device_defs.specs.Marks.{marks_of, slot_mark}
use Rattle.device_defs.specs.Owed as O
use Rattle.device_defs.specs.Owed.{
  is_modified,
  is_clean,
  waits,
  waiting_count,
  dropped,
  heard,
  hear,
  modified_told,
  dropped_told,
  freed_told,
  settles_debt,
  is_owed,
  track_told,
  all_told,
  waiting_told,
  noted_end,
}
use Rattle.device_defs.specs.Sound.{DeviceStore}
use Rattle.device_defs.specs.Store.{tracks_of, frame_at, owed_at, with_frame, with_owed, no_debt}
use Rattle.device_laws.specs.Agrees.{Held, slot_at, HasSlots}
use Rattle.device_laws.specs.Twin.{Twins}
use Rattle.device_laws.proofs.ContentChanges as C
use Rattle.device_laws.proofs.ContentChanges.{Altered, altered_owed, slot_of, slot_is, by_track, unseen_slots, sits_still, right_altered}
use Rattle.device_laws.proofs.FailedCall.{IsWell}
use Rattle.device_laws.proofs.Notices.{clean_below, dropped_by}
use Rattle.device_laws.proofs.TrackContents as K
use Rattle.device_laws.proofs.TrackContents.{TrackContents, contents_at, right_fewer}
use Rattle.device_laws.proofs.TwinAsks.{ask_notice, ask_modified, ask_drop, ask_waiting, Stays, stays_same, stays_on, InOrder, Ordered}
use Rattle.device_laws.proofs.TwinChanges.{frame_twin, owed_twin, with_frame_twin, with_owed_twin}
use Rattle.device_laws.proofs.TwinChoices.{clean_same}
use Rattle.device_laws.proofs.TwinLooks.{unframed_order}
use Rattle.device_laws.proofs.TwinSettled.{told_altered}
use Rattle.device_laws.proofs.TwinSlots.{may_free, freed_slots}
use Rattle.device_laws.proofs.TwinWalks.{some_map, twin_done, twin_ends, twin_then, twin_weaker}
use Rattle.device_laws.proofs.TwinWork.{waits_same, modified_frame}

pub record Hears (u : List Track) (s : DeviceStore) (v w : List Track) (z : DeviceStore) (k : Held) : Type 0 where
  pub order : Ordered v w z k
  pub plain : v ≡ u
  pub stays : Stays s z

-- Notices

drops : (v w : List Track) (s : DeviceStore) (h : Held) (t : ℕ) → InOrder v w s h → (b : Bool) → is_clean contents (frame_at s t) ≡ b →
    (Ordered v w (if b then with_frame s t None else s) h) × (Stays s (if b then with_frame s t None else s))
drops v w s h t o true e = (
  unframed_order v w s h t (clean_below contents s t o.well e) (record { sure = o.sure; told = o.told }),
  record { geometry = refl; cylinders = refl; half = refl },
)
drops v w s h t o false e = (record { sure = o.sure; told = o.told }, stays_same s)

drops_twin : (v w : List Track) (s : DeviceStore) (t : ℕ) (b : Bool) →
    marks_of v w (if b then with_frame s t None else s) ≡ (if b then with_frame (marks_of v w s) t None else marks_of v w s)
drops_twin v w s t true = with_frame_twin v w s t None
drops_twin v w s t false = refl

dropped_twin : (v w : List Track) (s : DeviceStore) (t : ℕ) → marks_of v w (dropped contents s t) ≡ dropped by_plain (marks_of v w s) t
dropped_twin v w s t =
    drops_twin v w s t (is_clean contents (frame_at s t))
    ∙ ap (λ (b : Bool). if b then with_frame (marks_of v w s) t None else marks_of v w s) (sym (clean_same v w s t))

dropped_well : (s : DeviceStore) (t : ℕ) → IsWell contents s → IsWell contents (dropped contents s t)
dropped_well s t w = (dropped_by contents s t (is_clean contents (frame_at s t)) refl w).well

abbrev Hearing : ℕ → Type 0
Hearing n =
    (v w : List Track) (s : DeviceStore) (h : Held) → InOrder v w s h →
    Twins (λ v' w' z _ _ k. Hears v s v' w' z k) (hear contents n s) (hear by_plain n (marks_of v w s)) h

by_note : (n : ℕ) (v w : List Track) (s : DeviceStore) (h : Held) (note : Option ℕ) → Hearing n → InOrder v w s h →
    Twins (λ v' w' z _ _ k. Hears v s v' w' z k) (heard contents (hear contents n) s note) (heard by_plain (hear by_plain n) (marks_of v w s) note) h
by_note n v w s h None later o = twin_done (record { order = record { sure = o.sure; told = o.told }; plain = refl; stays = stays_same s })
by_note n v w s h (Some t) later o =
    let d = drops v w s h t o (is_clean contents (frame_at s t)) refl in
    let z = dropped contents s t in
    let i : InOrder v w z h = record { sure = d.0.sure; told = d.0.told; well = dropped_well s t o.well } in
    rw (← (dropped_twin v w s t))
    (twin_weaker (later v w z h i) (λ v' w' y _ _ k f. record { order = f.order; plain = f.plain; stays = stays_on s z y d.1 f.stays }))

pub hear_twin : (n : ℕ) → Hearing n
unfolding O.hear
hear_twin zero v w s h o = twin_done (record { order = record { sure = o.sure; told = o.told }; plain = refl; stays = stays_same s })
hear_twin (suc n) v w s h o = ask_notice s.device (λ note. by_note n v w s h note (hear_twin n) o)

-- What is owed

record Same (v w : List Track) (s : DeviceStore) (v' w' : List Track) (z : DeviceStore) (k : Held) : Type 0 where
  pub plain : v' ≡ v
  pub firm : w' ≡ w
  pub store : z ≡ s
  pub order : Ordered v w s k

same_is : (v w : List Track) (s : DeviceStore) (k : Held) → Ordered v w s k → Same v w s v w s k
same_is v w s k o = record { plain = refl; firm = refl; store = refl; order = o }

base_slots : (s : DeviceStore) (h : Held) (z : DeviceStore) (o : Option (List ℕ)) → C.base_of z (record h { slots = o }) ≡ C.base_of z h
unfolding C.base_of
base_slots s h z o = refl

module _ (v w : List Track) (s : DeviceStore) (t : ℕ) (lt : t < tracks_of s) where
  modified_twin : (h : Held) → Ordered v w s h →
      Twins (λ v' w' z _ _ k. Same v w s v' w' z k) (modified_told contents t s) (modified_told by_plain t (marks_of v w s)) h
  modified_twin h o =
      on_tests ((owed_at s t).modified && is_modified contents (frame_at s t))
      ((owed_at (marks_of v w s) t).modified && is_modified by_plain (frame_at (marks_of v w s) t))
      (ap (λ (x : Owed). x.modified && is_modified by_plain (frame_at (marks_of v w s) t)) (owed_twin v w s t)
      ∙ ap (λ (b : Bool). (owed_at s t).modified && b) (ap (is_modified by_plain) (frame_twin v w s t) ∙ modified_frame (frame_at s t)))
      (λ _. ask_modified s.device t (λ _. twin_done (same_is v w s h o)))
      (λ _. twin_done (same_is v w s h o))

  drop_twin : (h : Held) → Ordered v w s h →
      Twins (λ v' w' z _ _ k. Same v w s v' w' z k) (dropped_told contents t s) (dropped_told by_plain t (marks_of v w s)) h
  drop_twin h o =
      on_tests (owed_at s t).dropped (owed_at (marks_of v w s) t).dropped (ap (λ (x : Owed). x.dropped) (owed_twin v w s t))
      (λ _. ask_drop s.device t (twin_done (same_is v w s h o)))
      (λ _. twin_done (same_is v w s h o))

  module _ (h : Held) (o : Ordered v w s h) where
    abbrev x : TrackContents
    x = contents_at s h t

    abbrev paid : DeviceStore
    paid = with_owed s t no_debt

    abbrev y : TrackContents
    y = record x { freed = None; debt = false }

    paid_altered : Altered s h paid h t (record x { freed = None; debt = false })
    paid_altered = altered_owed s h t lt o.sure.ground.sizes no_debt

    after_slots : (k : Held) → Altered s h paid k t (record x { freed = None; debt = false }) → HasSlots paid k.slots → Ordered v w paid k
    after_slots k e slots = record {
      sure = right_altered None v w s h paid k t (record x { freed = None; debt = false }) o.sure e
          (sits_still v w s h t (record x { freed = None; debt = false }) lt o.sure.ground refl refl) slots
          (λ ne. right_fewer s.geometry t s.half x (record x { freed = None; debt = false })
          (record { geometry = s.geometry; track = track_in v t })
          (record { geometry = s.geometry; track = track_in w t })
          (record { lost = λ l. l; frame = λ i f. f; patch = refl; a = λ l. (l, refl); b = λ l. (l, refl) }) (o.sure.right t lt ne));
      told = told_altered s h paid k t (record x { freed = None; debt = false }) o.told e (sym (o.told t));
    }

    freed_is : (owed_at s t).freed ≡ x.freed
    unfolding K.contents_at
    freed_is = refl

    other_slots : (kept : Bool) (q : ℕ) → slot_of kept (record x { freed = None; debt = false }) ≡ slot_of kept x → (r : ℕ) →
        slot_of kept (contents_at paid h r) ≡ slot_of kept (contents_at s h r)
    other_slots kept q same r = by_track s h paid h t (record x { freed = None; debt = false }) kept paid_altered same r

    nothing_freed : (owed_at s t).freed ≡ None → Ordered v w paid h
    nothing_freed none =
        after_slots h paid_altered
        (unseen_slots s h paid h (λ kept q. other_slots kept q (slots_by kept) q) refl o.sure.ground.slots)
      where
        slots_by : (kept : Bool) → slot_of kept (record x { freed = None; debt = false }) ≡ slot_of kept x
        slots_by true = refl
        slots_by false = sym none ∙ freed_is

    module _ (slot : ℕ) (owed : (owed_at s t).freed ≡ Some slot) where
      slot_gone : slot_at paid false t ≡ None
      slot_gone = slot_is paid h false t ∙ ap (slot_of false) paid_altered.here

      slots_still : (kept : Bool) (q n : ℕ) → slot_at paid kept q ≡ Some n → slot_at s kept q ≡ Some n
      slots_still kept q n e = by_place kept (cases_eq q t) e
        where
          by_place : (kept : Bool) → ((q ≡ t) ⊎ (q ≢ t)) → slot_at paid kept q ≡ Some n → slot_at s kept q ≡ Some n
          by_place true at e = e
          by_place false (inl at) e =
              absurd (let f : slot_at paid false t ≡ Some n = subst (λ (r : ℕ). slot_at paid false r ≡ Some n) at e in let g = slot_gone in cc)
          by_place false (inr ne) e =
              slot_is s h false q ∙ sym (ap (slot_of false) (paid_altered.elsewhere q ne)) ∙ sym (slot_is paid h false q) ∙ e

      same_at : (z : DeviceStore) (q : ℕ) → contents_at z (record h { slots = held_after h.slots (FreeSlot slot) (tt {0}) }) q ≡ contents_at z h q
      unfolding K.contents_at
      same_at z q = refl

      freed_order : Ordered v w paid (record h { slots = held_after h.slots (FreeSlot slot) (tt {0}) })
      freed_order =
          after_slots (record h { slots = held_after h.slots (FreeSlot slot) (tt {0}) }) freed_altered
          (freed_slots s paid false t slot owed slots_still slot_gone h.slots o.sure.ground.slots)
        where
          freed_altered : Altered s h paid (record h { slots = held_after h.slots (FreeSlot slot) (tt {0}) }) t (record x { freed = None; debt = false })
          freed_altered = record {
            sizes = paid_altered.sizes;
            base = base_slots s h paid (held_after h.slots (FreeSlot slot) (tt {0})) ∙ paid_altered.base;
            elsewhere = λ q ne. same_at paid q ∙ paid_altered.elsewhere q ne;
            here = same_at paid t ∙ paid_altered.here;
          }

    freed_by : (f : Option ℕ) → (owed_at s t).freed ≡ f →
        Twins (λ v' w' z _ _ k. (v' ≡ v) × ((w' ≡ w) × ((z ≡ s) × (Ordered v w paid k)))) (freed_told contents s f)
        (freed_told by_plain (marks_of v w s) (option_map slot_mark f)) h
    freed_by None e = twin_done (refl, (refl, (refl, nothing_freed e)))
    freed_by (Some slot) e =
        both_free (may_free s paid false t slot e (slots_still slot e) (slot_gone slot e) h.slots o.sure.ground.slots)
        (twin_done (refl, (refl, (refl, freed_order slot e))))

    freed_twin : Twins (λ v' w' z _ _ k. (v' ≡ v) × ((w' ≡ w) × ((z ≡ s) × (Ordered v w paid k)))) (freed_told contents s (owed_at s t).freed)
        (freed_told by_plain (marks_of v w s) (owed_at (marks_of v w s) t).freed) h
    freed_twin = rw (ap (λ (x : Owed). x.freed) (owed_twin v w s t)) (freed_by (owed_at s t).freed refl)

-- The end of an event

at_same : (P : List Track → List Track → DeviceStore → Type 0) (v w : List Track) (s : DeviceStore) (v' w' : List Track) (z : DeviceStore) →
    v' ≡ v → w' ≡ w → z ≡ s → P v w s → P v' w' z
at_same P v w s v' w' z e f g x =
    subst (λ (a : List Track). P a w' z) (sym e) (subst (λ (a : List Track). P v a z) (sym f) (subst (λ (a : DeviceStore). P v w a) (sym g) x))

module _ (v w : List Track) (s : DeviceStore) (t : ℕ) (lt : t < tracks_of s) where
  abbrev Ends : List Track → List Track → DeviceStore → Unit {0} → Unit {0} → Held → Type 0
  Ends v' w' z _ _ k = Hears v s v' w' z k

  last_twin : (h : Held) → Ordered v w s h →
      Twins Ends (and_then (freed_told contents s (owed_at s t).freed) (λ x _. Done (with_owed x t no_debt) (tt {0})))
      (and_then (freed_told by_plain (marks_of v w s) (owed_at (marks_of v w s) t).freed) (λ x _. Done (with_owed x t no_debt) (tt {0}))) h
  last_twin h o =
      twin_then _ _ (freed_twin v w s t lt h o)
      (λ v' w' z _ _ k f.
      at_same (λ a b c. Twins Ends (Done (with_owed c t no_debt) (tt {0})) (Done (with_owed (marks_of a b c) t no_debt)
      (tt {0})) k) v w s v' w' z f.0 f.1.0 f.1.1.0
      (twin_ends (with_owed_twin v w s t no_debt)
      (record { order = f.1.1.1; plain = refl; stays = record { geometry = refl; cylinders = refl; half = refl } })))

  debt_twin : (h : Held) → Ordered v w s h → Twins Ends (settles_debt contents t s) (settles_debt by_plain t (marks_of v w s)) h
  debt_twin h o =
      twin_then _ _ (modified_twin v w s t lt h o)
      (λ v' w' z _ _ k f.
      at_same
      (λ a b c. Twins Ends
      (and_then (dropped_told contents t c) (λ y _. and_then (freed_told contents y (owed_at y t).freed) (λ x _. Done (with_owed x t no_debt) (tt {0}))))
      (and_then (dropped_told by_plain t (marks_of a b c)) (λ y _. and_then (freed_told by_plain y (owed_at y t).freed) (λ x _. Done
      (with_owed x t no_debt) (tt {0})))) k)
      v w s v' w' z f.plain f.firm f.store
      (twin_then _ _ (drop_twin v w s t lt k f.order)
      (λ v2 w2 y _ _ l g.
      at_same
      (λ a b c. Twins Ends (and_then (freed_told contents c (owed_at c t).freed) (λ x _. Done (with_owed x t no_debt) (tt {0})))
      (and_then (freed_told by_plain (marks_of a b c) (owed_at (marks_of a b c) t).freed) (λ x _. Done (with_owed x t no_debt) (tt {0}))) l)
      v w s v2 w2 y g.plain g.firm g.store (last_twin l g.order))))

  owed_same : is_owed by_plain (owed_at (marks_of v w s) t) ≡ is_owed contents (owed_at s t)
  owed_same =
      ap (λ (x : Owed). x.modified || x.dropped || is_some x.freed) (owed_twin v w s t)
      ∙ ap (λ (b : Bool). (owed_at s t).modified || (owed_at s t).dropped || b) (some_map slot_mark (owed_at s t).freed)

  track_twin : (h : Held) → Ordered v w s h → Twins Ends (track_told contents t s) (track_told by_plain t (marks_of v w s)) h
  track_twin h o =
      on_tests (is_owed contents (owed_at s t)) (is_owed by_plain (owed_at (marks_of v w s) t)) owed_same
      (λ _. debt_twin h o)
      (λ _. twin_done (record { order = o; plain = refl; stays = stays_same s }))

told_twins : (n : ℕ) (v w : List Track) (s : DeviceStore) (h : Held) → n ≤ tracks_of s → Ordered v w s h →
    Twins (λ v' w' z _ _ k. Hears v s v' w' z k) (all_told contents n s) (all_told by_plain n (marks_of v w s)) h
unfolding O.all_told
told_twins zero v w s h le o = twin_done (record { order = o; plain = refl; stays = stays_same s })
told_twins (suc n) v w s h le o =
    twin_then _ _ (told_twins n v w s h (omega arith) o)
    (λ v' w' z _ _ k f.
    twin_weaker (track_twin v' w' z n (let same = f.stays.cylinders in omega arith) k f.order)
    (λ v2 w2 y _ _ l g. record { order = g.order; plain = g.plain ∙ f.plain; stays = stays_on s z y f.stays g.stays }))

count_same : (n : ℕ) (p r : ℕ → Bool) → ((q : ℕ) → p q ≡ r q) → count_below n p ≡ count_below n r
unfolding T.count_below
count_same zero p r e = refl
count_same (suc n) p r e =
    ap (λ (c : ℕ). c + (if p n then 1 else 0)) (count_same n p r e) ∙ ap (λ (b : Bool). count_below n r + (if b then 1 else 0)) (e n)

pub count_twin : (v w : List Track) (s : DeviceStore) → waiting_count by_plain (marks_of v w s) ≡ waiting_count contents s
count_twin v w s = count_same (tracks_of s) (waits by_plain (marks_of v w s)) (waits contents s) (λ q. waits_same v w s q)

waiting_twin : (before : ℕ) (v w : List Track) (s : DeviceStore) (h : Held) → Ordered v w s h →
    Twins (λ v' w' z _ _ k. Hears v s v' w' z k) (waiting_told contents before s) (waiting_told by_plain before (marks_of v w s)) h
waiting_twin before v w s h o =
    rw (count_twin v w s) (on_test (waiting_count contents s == before)
    (λ _. twin_done (record { order = o; plain = refl; stays = stays_same s }))
    (λ _. ask_waiting s.device (waiting_count contents s) (twin_done (record { order = o; plain = refl; stays = stays_same s }))))

pub ended_twin : (before : ℕ) (v w : List Track) (s : DeviceStore) (h : Held) → Ordered v w s h →
    Twins (λ v' w' z _ _ k. Hears v s v' w' z k) (noted_end contents before s) (noted_end by_plain before (marks_of v w s)) h
ended_twin before v w s h o =
    twin_then _ _ (told_twins (tracks_of s) v w s h (omega arith) o)
    (λ v' w' z _ _ k f.
    twin_weaker (waiting_twin before v' w' z k f.order)
    (λ v2 w2 y _ _ l g. record { order = g.order; plain = g.plain ∙ f.plain; stays = stays_on s z y f.stays g.stays }))
