-- Calls of the port that give and take no slot, and a device that is in order.
use Rattle.std.proofs.Common.{◌≡◌, ◌<◌, ℕ, Bool, true, false, List, Option, Some, None, refl, ap, ◌∙◌}
use Rattle.ckd_types.specs.declared.geometry.Geometry.{Geometry}
use Rattle.ckd_types.specs.declared.paths.Side.{Side}
use Rattle.ckd_types.specs.declared.paths.Side.TheVariants.{A, B}
use Rattle.ckd_types.specs.declared.record.Track.{Track}
use Rattle.ckd_types.specs.Volume.{track_in}
use Rattle.track_image.specs.Image.{Image}
use Rattle.device_outside.specs.Both.{both_ask}
use Rattle.device_outside.specs.Interaction.{Interaction, Ask}
use Rattle.device_outside.specs.Pool.{NextNotice, Touch, WantFrame, SetModified, SetClean, DropFrame, TellWaiting, Call, AnswerTo, unnumbered}
use Rattle.device_outside.specs.Slots.{held_after, slots_after, gives_back}
use Rattle.device_defs.specs.Contents.{contents}
use Rattle.device_defs.specs.Marks.{MarksStore}
use Rattle.device_defs.specs.Sound.{DeviceStore}
use Rattle.device_defs.specs.Store.{HalfWrite, tracks_of, is_lost, half_is}
use Rattle.device_laws.specs.Agrees.{Held, image_in}
use Rattle.device_laws.specs.Twin.{Claim, Twins}
use Rattle.device_laws.proofs.ContentChanges.{base_of, same_geometry, same_cylinders, same_half, Sure, Similar, similar_right, Altered, beside_right}
use Rattle.device_laws.proofs.FailedCall.{IsWell}
use Rattle.device_laws.proofs.TrackContents as T
use Rattle.device_laws.proofs.TrackContents.{TrackContents, contents_at, IsRight, HeldBy, Keeps, held_of, right_by, keeps_other, other_keeps}
use Rattle.device_laws.proofs.TwinFailed.{fell}
use Rattle.device_laws.proofs.TwinSettled.{AllTold, told_altered}
use Rattle.device_defs.specs.declared.counts.Counts.{Counts}
use Rattle.plain_defs.specs.declared.journal.Act.{Act}

slots_still : (o : Option (List ℕ)) (call : Call) (a : AnswerTo call) → ((mine : List ℕ) → slots_after mine call a ≡ mine) → held_after o call a ≡ o
slots_still None call a e = refl
slots_still (Some mine) call a e = ap Some (e mine)

module _ {X Y : Type 0} {q : Claim X Y} {h : Held} where
  ask_still : (call : Call) {k : AnswerTo call → Interaction (List ℕ) Image DeviceStore X} {l : AnswerTo call → Interaction Bool Image MarksStore Y} →
      gives_back call ≡ false → ((a : AnswerTo call) (mine : List ℕ) → slots_after mine call a ≡ mine) →
      ((a : AnswerTo call) → Twins q (k a) (l (unnumbered call a)) h) → Twins q (Ask call k) (Ask call l) h
  ask_still call {k} {l} gives still f = both_ask gives (λ a m. rw (slots_still h.slots call a (still a)) (f a))

  pub ask_modified : (d t : ℕ) {k : Bool → Interaction (List ℕ) Image DeviceStore X} {l : Bool → Interaction Bool Image MarksStore Y} →
      ((a : Bool) → Twins q (k a) (l a) h) → Twins q (Ask (SetModified d t) k) (Ask (SetModified d t) l) h
  ask_modified d t f = ask_still (SetModified d t) refl (λ a mine. refl) f

  pub ask_touch : (d t : ℕ) {k : Bool → Interaction (List ℕ) Image DeviceStore X} {l : Bool → Interaction Bool Image MarksStore Y} →
      ((a : Bool) → Twins q (k a) (l a) h) → Twins q (Ask (Touch d t) k) (Ask (Touch d t) l) h
  ask_touch d t f = ask_still (Touch d t) refl (λ a mine. refl) f

  pub ask_frame : (d t : ℕ) {k : Bool → Interaction (List ℕ) Image DeviceStore X} {l : Bool → Interaction Bool Image MarksStore Y} →
      ((a : Bool) → Twins q (k a) (l a) h) → Twins q (Ask (WantFrame d t) k) (Ask (WantFrame d t) l) h
  ask_frame d t f = ask_still (WantFrame d t) refl (λ a mine. refl) f

  pub ask_clean : (d t : ℕ) {k : Unit {0} → Interaction (List ℕ) Image DeviceStore X} {l : Unit {0} → Interaction Bool Image MarksStore Y} →
      Twins q (k tt) (l tt) h → Twins q (Ask (SetClean d t) k) (Ask (SetClean d t) l) h
  ask_clean d t f = ask_still (SetClean d t) refl (λ a mine. refl) (λ a. f)

  pub ask_drop : (d t : ℕ) {k : Unit {0} → Interaction (List ℕ) Image DeviceStore X} {l : Unit {0} → Interaction Bool Image MarksStore Y} →
      Twins q (k tt) (l tt) h → Twins q (Ask (DropFrame d t) k) (Ask (DropFrame d t) l) h
  ask_drop d t f = ask_still (DropFrame d t) refl (λ a mine. refl) (λ a. f)

  pub ask_waiting : (d t : ℕ) {k : Unit {0} → Interaction (List ℕ) Image DeviceStore X} {l : Unit {0} → Interaction Bool Image MarksStore Y} →
      Twins q (k tt) (l tt) h → Twins q (Ask (TellWaiting d t) k) (Ask (TellWaiting d t) l) h
  ask_waiting d t f = ask_still (TellWaiting d t) refl (λ a mine. refl) (λ a. f)

  pub ask_notice : (d : ℕ) {k : Option ℕ → Interaction (List ℕ) Image DeviceStore X} {l : Option ℕ → Interaction Bool Image MarksStore Y} →
      ((a : Option ℕ) → Twins q (k a) (l a) h) → Twins q (Ask (NextNotice d) k) (Ask (NextNotice d) l) h
  ask_notice d f = ask_still (NextNotice d) refl (λ a mine. refl) f

-- What stays of a store, whatever becomes of its marks
pub record Stays (s z : DeviceStore) : Type 0 where
  pub geometry : z.geometry ≡ s.geometry
  pub cylinders : z.cylinders ≡ s.cylinders
  pub half : z.half ≡ s.half

abbrev pub SameSize : DeviceStore → DeviceStore → Type 0
SameSize s z = (z.geometry ≡ s.geometry) × (z.cylinders ≡ s.cylinders)

pub size_of : {s z : DeviceStore} → Stays s z → SameSize s z
size_of e = (e.geometry, e.cylinders)

pub size_on : {g h k : Geometry} {a b c : ℕ} → (h ≡ g) × (b ≡ a) → (k ≡ h) × (c ≡ b) → (k ≡ g) × (c ≡ a)
size_on e f = (f.0 ∙ e.0, f.1 ∙ e.1)

pub stays_same : (s : DeviceStore) → Stays s s
stays_same s = record { geometry = refl; cylinders = refl; half = refl }

pub stays_on : (s z y : DeviceStore) → Stays s z → Stays z y → Stays s y
stays_on s z y f g = record { geometry = g.geometry ∙ f.geometry; cylinders = g.cylinders ∙ f.cylinders; half = g.half ∙ f.half }

pub stays_by : (s : DeviceStore) (h : Held) (z : DeviceStore) (k : Held) → base_of z k ≡ base_of s h → Stays s z
stays_by s h z k e = record { geometry = same_geometry s h z k e; cylinders = same_cylinders s h z k e; half = same_half s h z k e }

pub stays_fell : (b : Bool) (s : DeviceStore) (side : Side) → Stays s (fell b s side)
stays_fell true s A = record { geometry = refl; cylinders = refl; half = refl }
stays_fell true s B = record { geometry = refl; cylinders = refl; half = refl }
stays_fell false s side = stays_same s

pub stays_image : (s z : DeviceStore) (v : List Track) (t : ℕ) → Stays s z → image_in z v t ≡ image_in s v t
stays_image s z v t e = ap (λ (g : Geometry). record { geometry = g; track = track_in v t }) e.geometry

pub stays_off : (s z : DeviceStore) (t : ℕ) → Stays s z → half_is s.half t ≡ false → half_is z.half t ≡ false
stays_off s z t e off = ap (λ (o : Option (HalfWrite Image)). half_is o t) e.half ∙ off

-- A device that is in order: its marks are good, what it holds is right, and the keeper was told all
pub record InOrder (v w : List Track) (s : DeviceStore) (h : Held) : Type 0 where
  pub sure : Sure v w s h
  pub told : AllTold s h
  pub well : IsWell contents s

-- the same while a track is being written
pub record Ordered (v w : List Track) (s : DeviceStore) (h : Held) : Type 0 where
  pub sure : Sure v w s h
  pub told : AllTold s h

pub beside_order : {v w : List Track} {s : DeviceStore} {h : Held} {held : Bool} {queue : List ℕ} {plain firm : List Track} {acts : List Act}
    {counts : Counts} → Ordered v w s h →
    Ordered v w (record s { held = held; queue = queue; plain = plain; firm = firm; acts = acts; counts = counts }) h
unfolding T.contents_at
beside_order o = record { sure = beside_right o.sure; told = o.told }

-- a change of one track, that stays right and of which nothing more is to be told
pub altered_order : {v w : List Track} {s : DeviceStore} {h : Held} {z : DeviceStore} {k : Held} {t : ℕ} {y : TrackContents} → Ordered v w s h →
    Altered s h z k t y → t < tracks_of s → Similar (contents_at s h t) y → y.debt ≡ (contents_at s h t).debt → k.slots ≡ h.slots →
    (IsRight s.geometry t s.half (contents_at s h t) (image_in s v t) (image_in s w t) → IsRight s.geometry t s.half y (image_in s v t) (image_in s w t)) →
    Ordered v w z k
altered_order {s = s} {h = h} {z = z} {k = k} {t = t} {y = y} o e lt same debt slots here = record {
  sure = similar_right o.sure e lt same slots (λ _. here);
  told = told_altered s h z k t y o.told e debt;
}

pub lost_is : (s : DeviceStore) (h : Held) (t : ℕ) → (contents_at s h t).lost ≡ is_lost s t
unfolding T.contents_at
lost_is s h t = refl

keeps_half : (s : DeviceStore) (h : Held) (t : ℕ) (plain firm : Image) (half : Option (HalfWrite Image)) → half_is half t ≡ false →
    HeldBy s.geometry t (contents_at s h t) plain firm half → Keeps s.geometry t (contents_at s h t) plain firm
keeps_half s h t plain firm None off k = k
keeps_half s h t plain firm (Some i) off k = keeps_other s.geometry t i (contents_at s h t) plain firm off k

-- what a track holds that isn't lost, and that no half write is open on
pub keeps_at : (v w : List Track) (s : DeviceStore) (h : Held) (t : ℕ) → Sure v w s h → t < tracks_of s → is_lost s t ≡ false → half_is s.half t ≡ false →
    Keeps s.geometry t (contents_at s h t) (image_in s v t) (image_in s w t)
keeps_at v w s h t b lt there off =
    keeps_half s h t (image_in s v t) (image_in s w t) s.half off
    (held_of s.geometry t s.half (contents_at s h t) (image_in s v t) (image_in s w t) (lost_is s h t ∙ there) (b.right t lt (λ e. absurd (cc))))

half_keeps : (g : Geometry) (t : ℕ) (x : TrackContents) (plain firm : Image) (half : Option (HalfWrite Image)) → half_is half t ≡ false →
    Keeps g t x plain firm → HeldBy g t x plain firm half
half_keeps g t x plain firm None off k = k
half_keeps g t x plain firm (Some i) off k = other_keeps g t i x plain firm off k

pub right_keeps : (g : Geometry) (t : ℕ) (half : Option (HalfWrite Image)) (x : TrackContents) (plain firm : Image) → half_is half t ≡ false →
    Keeps g t x plain firm → IsRight g t half x plain firm
right_keeps g t half x plain firm off k = right_by g t half x plain firm (half_keeps g t x plain firm half off k)
