-- Where a write goes: a device and its twin on marks choose alike.
use Rattle.std.proofs.Common.{◌≡◌, ◌&&◌, not, ℕ, Bool, true, false, List, Option, Some, None, is_some, length, refl, sym, ap, subst, ◌∙◌}
use Rattle.std.specs.Prelude.{option_map, if◌then◌else◌}
use Rattle.ckd_types.specs.Parameters.{is_bypass}
use Rattle.ckd_types.specs.declared.record.Track.{Track}
use Rattle.track_cache.specs.declared.frames.Frame.{Frame}
use Rattle.device_outside.specs.declared.port.SlotGrant.{SlotGrant}
use Rattle.device_outside.specs.declared.port.SlotGrant.TheVariants as grants
use Rattle.ckd_types.specs.declared.paths.Side.{Side}
use Rattle.ckd_types.specs.declared.paths.Side.TheVariants.{A, B}
use Rattle.device_outside.specs.After.{holds_of}
use Rattle.device_outside.specs.Both.{both_ask, both_free}
use Rattle.device_outside.specs.Interaction.{Done}
use Rattle.device_outside.specs.Pool.{WantSlot, FreeSlot, unnumbered}
use Rattle.device_outside.specs.Slots.{MayAnswer, held_after}
use Rattle.device_outside.proofs.BothRules.{on_test, on_tests}
use Rattle.device_defs.specs.declared.answers.Choice.{Choice}
use Rattle.device_defs.specs.declared.answers.Choice.TheVariants.{Provisional, Fast, Through}
use Rattle.device_defs.specs.declared.usage.Usage.{Usage}
use Rattle.device_defs.specs.Choosing as G
use Rattle.device_defs.specs.Choosing.{slot_by, fast_by, may_be_fast, fast_or_through, choose}
use Rattle.device_defs.specs.Contents.{contents, by_plain}
use Rattle.device_defs.specs.Marks.{marks_of, frame_mark, slot_mark}
use Rattle.device_defs.specs.Owed.{is_clean}
use Rattle.device_defs.specs.Sound.{DeviceStore}
use Rattle.device_defs.specs.Store.{tracks_of, side_of, frame_at, patch_at, is_loose}
use Rattle.device_laws.specs.Agrees.{Held, HasSlots}
use Rattle.device_laws.specs.Twin.{Twins}
use Rattle.device_laws.proofs.ContentChanges as C
use Rattle.device_laws.proofs.TrackContents as T
use Rattle.device_laws.proofs.TwinAsks.{ask_modified, Ordered}
use Rattle.device_laws.proofs.TwinChanges.{frame_twin, has_frame_twin, has_patch_twin}
use Rattle.device_laws.proofs.TwinSlots.{IsNew, given_slots, may_free_new, unused_slots}
use Rattle.device_laws.proofs.TwinWalks.{twin_done}

long_still : (s : DeviceStore) (h : Held) (o : Option (List ℕ)) → ((side : Side) → (side_of s side).up ≡ true → length (holds_of h side) ≡ tracks_of s) →
    (side : Side) → (side_of s side).up ≡ true → length (holds_of (record h { slots = o }) side) ≡ tracks_of s
long_still s h o f A up = f A up
long_still s h o f B up = f B up

-- other slots of the device alone
pub slots_order : (v w : List Track) (s : DeviceStore) (h : Held) (o : Option (List ℕ)) → Ordered v w s h → HasSlots s o →
    Ordered v w s (record h { slots = o })
unfolding T.contents_at C.base_of
slots_order v w s h o i x = record {
  sure = record {
    ground = record {
      sizes = i.sure.ground.sizes;
      plain = i.sure.ground.plain;
      firm = i.sure.ground.firm;
      same = i.sure.ground.same;
      apart = i.sure.ground.apart;
      patches = i.sure.ground.patches;
      long = long_still s h o i.sure.ground.long;
      slots = x;
    };
    right = i.sure.right;
  };
  told = i.told;
}

-- a slot has no number in a run
abbrev pub choice_mark : Choice → Choice
choice_mark (Fast slot) = Fast (option_map slot_mark slot)
choice_mark Provisional = Provisional
choice_mark Through = Through

abbrev pub NewBy : DeviceStore → Choice → Option (List ℕ) → Type 0
NewBy s (Fast (Some slot)) o = IsNew s slot o
NewBy s (Fast None) o = Unit {0}
NewBy s Provisional o = Unit {0}
NewBy s Through o = Unit {0}

pub record Chooses (v w : List Track) (s : DeviceStore) (v' w' : List Track) (z : DeviceStore) (a b : Choice) (k : Held) : Type 0 where
  pub plain : v' ≡ v
  pub firm : w' ≡ w
  pub store : z ≡ s
  pub order : Ordered v w s k
  pub same : b ≡ choice_mark a
  pub new : NewBy s a k.slots

clean_by : (f : Option Frame) → is_clean by_plain (option_map frame_mark f) ≡ is_clean contents f
clean_by None = refl
clean_by (Some f) = refl

pub clean_same : (v w : List Track) (s : DeviceStore) (t : ℕ) → is_clean by_plain (frame_at (marks_of v w s) t) ≡ is_clean contents (frame_at s t)
clean_same v w s t = ap (is_clean by_plain) (frame_twin v w s t) ∙ clean_by (frame_at s t)

module _ (v w : List Track) (s : DeviceStore) (u : Usage) (t : ℕ) where
  abbrev Ends : List Track → List Track → DeviceStore → Choice → Choice → Held → Type 0
  Ends v' w' z a b k = Chooses v w s v' w' z a b k

  ends : (a : Choice) (k : Held) → Ordered v w s k → NewBy s a k.slots → Twins Ends (Done s a) (Done (marks_of v w s) (choice_mark a)) k
  ends a k o new = twin_done (record { plain = refl; firm = refl; store = refl; order = o; same = refl; new = new })

  given_twin : (h : Held) (slot : ℕ) → Ordered v w s h → MayAnswer h.slots WantSlot (grants.Given slot) →
      Twins Ends (slot_by contents s t (grants.Given slot)) (slot_by by_plain (marks_of v w s) t (grants.Given 0))
      (record h { slots = held_after h.slots WantSlot (grants.Given slot) })
  given_twin h slot o free =
      let x = given_slots s slot h.slots free o.sure.ground.slots in
      let n : Held = record h { slots = held_after h.slots WantSlot (grants.Given slot) } in
      let i = slots_order v w s h n.slots o x.0 in
      ask_modified s.device t (λ listed. on_test listed
      (λ _. ends (Fast (Some slot)) n i x.1)
      (λ _. both_free (may_free_new s slot n.slots x.1)
      (ends Through (record n { slots = held_after n.slots (FreeSlot slot) (tt {0}) })
      (slots_order v w s n (held_after n.slots (FreeSlot slot) (tt {0})) i (unused_slots s slot n.slots x.1 x.0)) tt)))

  denied_by : (o : Option (List ℕ)) → held_after o WantSlot grants.Denied ≡ o
  denied_by None = refl
  denied_by (Some mine) = refl

  down_by : (o : Option (List ℕ)) → held_after o WantSlot grants.Down ≡ o
  down_by None = refl
  down_by (Some mine) = refl

  grant_twin : (h : Held) (g : SlotGrant) → Ordered v w s h → MayAnswer h.slots WantSlot g →
      Twins Ends (slot_by contents s t g) (slot_by by_plain (marks_of v w s) t (unnumbered WantSlot g))
      (record h { slots = held_after h.slots WantSlot g })
  grant_twin h (grants.Given slot) o free = given_twin h slot o free
  grant_twin h grants.Denied o free =
      ends Through (record h { slots = held_after h.slots WantSlot grants.Denied })
      (slots_order v w s h (held_after h.slots WantSlot grants.Denied) o (subst (HasSlots s) (sym (denied_by h.slots)) o.sure.ground.slots)) tt
  grant_twin h grants.Down o free =
      ends Through (record h { slots = held_after h.slots WantSlot grants.Down })
      (slots_order v w s h (held_after h.slots WantSlot grants.Down) o (subst (HasSlots s) (sym (down_by h.slots)) o.sure.ground.slots)) tt

  again_twin : (h : Held) (listed : Bool) → Ordered v w s h →
      Twins Ends (Done s (if listed then Fast None else Through)) (Done (marks_of v w s) (if listed then Fast None else Through)) h
  again_twin h true o = ends (Fast None) h o tt
  again_twin h false o = ends Through h o tt

  patched_twin : (h : Held) (b : Bool) → Ordered v w s h → Twins Ends (fast_by contents s t b) (fast_by by_plain (marks_of v w s) t b) h
  patched_twin h true o = ask_modified s.device t (λ listed. again_twin h listed o)
  patched_twin h false o = both_ask refl (λ g m. grant_twin h g o m)

  fast_twin : (h : Held) → Ordered v w s h → Twins Ends (fast_or_through contents s u t) (fast_or_through by_plain (marks_of v w s) u t) h
  fast_twin h o =
      on_tests (may_be_fast contents s u t) (may_be_fast by_plain (marks_of v w s) u t)
      (ap (λ (b : Bool). not (is_bypass u.mode) && not u.inhibit && b) (has_frame_twin v w s t))
      (λ _. rw (has_patch_twin v w s t) (patched_twin h (is_some (patch_at s t)) o))
      (λ _. ends Through h o tt)

  listed_twin : (h : Held) (listed : Bool) → Ordered v w s h →
      Twins Ends (Done s (if listed then Provisional else Through)) (Done (marks_of v w s) (if listed then Provisional else Through)) h
  listed_twin h true o = ends Provisional h o tt
  listed_twin h false o = ends Through h o tt

  pub choice_twin : (h : Held) → Ordered v w s h → Twins Ends (choose contents s u t) (choose by_plain (marks_of v w s) u t) h
  unfolding G.choose
  choice_twin h o =
      on_test (is_loose s t)
      (λ _. on_test u.provisional
      (λ _. ask_modified s.device t (λ listed. listed_twin h listed o))
      (λ _. ends Through h o tt))
      (λ _. on_tests (u.provisional && is_clean contents (frame_at s t)) (u.provisional && is_clean by_plain (frame_at (marks_of v w s) t))
      (ap (λ (b : Bool). u.provisional && b) (clean_same v w s t))
      (λ _. ask_modified s.device t (λ listed. on_test listed (λ _. ends Provisional h o tt) (λ _. fast_twin h o)))
      (λ _. fast_twin h o))
