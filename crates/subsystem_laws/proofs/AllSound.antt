-- Devices that stand as a run has them, each with the history of a plain device, are sound.
use Rattle.std.proofs.Common.{◌≡◌, ◌<◌, ℕ, Bool, true, false, List, Option, Some, None, is_some, sym, ap, subst}
use Rattle.ckd_types.specs.declared.record.Track.{Track}
use Rattle.ckd_types.specs.Volume.{empty_volume, track_in}
use Rattle.plain_defs.specs.History.{plain_of}
use Rattle.plain_defs.specs.PlainState.{PlainState}
use Rattle.track_image.specs.Image.{Image}
use Rattle.device_outside.specs.After.{Tells}
use Rattle.device_outside.specs.Both.{SideTold}
use Rattle.device_outside.specs.Told.{Calls}
use Rattle.device_outside.specs.Volume.{VolumeView}
use Rattle.device_defs.specs.Sound.{IsSound, IsSoundAt, IsHeld}
use Rattle.device_defs.specs.Store.{tracks_of}
use Rattle.device_laws.specs.Agrees.{Held, image_in}
use Rattle.device_laws.specs.InOrder.{IsInOrder}
use Rattle.device_laws.specs.Lent.{Stands, in_order, is_away}
use Rattle.device_laws.specs.SoundOn.{IsSoundAtOn, IsSoundOn, firm_on, image_on, plain_on}
use Rattle.device_laws.specs.Whole.{WholeDevice, marks_device}
use Rattle.device_laws.proofs.PlainStores.{IsOf, core_of}
use Rattle.subsystem_defs.specs.Subsystem.{Mounted}
use Rattle.subsystem_laws.specs.AllSound.{StandsSound, AreSound}
use Rattle.subsystem_laws.specs.WholeStood.{Stood, IsMounted, is_mounted, AreMountedBy, no_more, one_more}
use Rattle.subsystem_laws.proofs.PlainRuns.{ArePlain, Plainly}

pub side_tells : (v : Option (VolumeView (List ℕ))) (l : List (List ℕ)) (u : Calls) → SideTold v l u → Tells v l
side_tells None l u told = tt
side_tells (Some v) l u told = told.contents

module _ (first : ℕ → List Track) (v w : List Track) (d : WholeDevice) (h : Held) (of : IsOf (plain_on first d) (core_of (marks_device v w d).store)) where
  -- the images of the plain device are those of the plain volumes
  plain_is : (t : ℕ) → image_in d.store v t ≡ image_on first d t
  plain_is t = ap (λ (l : List Track). record { geometry = d.store.geometry; track = track_in l t }) (sym of.volume)

  firm_is : (t : ℕ) → image_in d.store w t ≡ firm_on first d t
  firm_is t = ap (λ (x : Track). record { geometry = d.store.geometry; track = x }) (sym (of.firm t))

  sound_at : IsInOrder v w d.store h → (t : ℕ) → t < tracks_of d.store → IsSoundAtOn first d h t
  sound_at i t lt = record {
    marks = i.marks t lt;
    loose = sym (of.loose t);
    held = subst (λ (x : Image). IsHeld d.store h t x (firm_on first d t)) (plain_is t)
        (subst (λ (x : Image). IsHeld d.store h t (image_in d.store v t) x) (firm_is t) (i.agrees.held t lt));
  }

  at_home : (b : Bool) → b ≡ false → IsInOrder v w d.store h →
      elim b as (λ (x : Bool). Type 0) [ true ↦ Unit {0} | false ↦ (t : ℕ) → t < tracks_of d.store → IsSoundAtOn first d h t ]
  at_home true free i = tt
  at_home false free i = sound_at i

  pub in_order_sound : IsInOrder v w d.store h → IsSoundOn first d h
  in_order_sound i = at_home (is_some d.store.lent) i.free i

  away : (b : Bool) → b ≡ true → elim b as (λ (x : Bool). Type 0) [ true ↦ Unit {0} | false ↦ (t : ℕ) → t < tracks_of d.store → IsSoundAtOn first d h t ]
  away true is = tt
  away false is = absurd (cc)

  stands_sound : Stands v w d h → IsSoundOn first d h
  stands_sound (in_order i) = in_order_sound i
  stands_sound (is_away l) = away (is_some d.store.lent) l.store.lent

-- on empty volumes
sound_by : (d : WholeDevice) (h : Held) (b : Bool) →
    elim b as (λ (x : Bool). Type 0) [ true ↦ Unit {0} | false ↦ (t : ℕ) → t < tracks_of d.store → IsSoundAtOn empty_volume d h t ] →
    elim b as (λ (x : Bool). Type 0) [ true ↦ Unit {0} | false ↦ (t : ℕ) → t < tracks_of d.store → IsSoundAt d h t ]
sound_by d h true s = tt
sound_by d h false s = λ t lt. let x = s t lt in record { marks = x.marks; loose = x.loose; held = x.held }

pub empty_sound : (d : WholeDevice) (h : Held) → IsSoundOn empty_volume d h → IsSound d h
empty_sound d h s = sound_by d h (is_some d.store.lent) s

one_sound : {mine : List ℕ} {x : Stood} {m : Mounted} → IsMounted mine x m → Plainly m.device → StandsSound x
one_sound (is_mounted d v w h on_a on_b a b stands slots told_a told_b) p = record {
  holdings = h;
  a = side_tells on_a h.a a told_a;
  b = side_tells on_b h.b b told_b;
  sound = empty_sound d h (stands_sound empty_volume v w d h
      (subst (λ (x : PlainState). IsOf (plain_of d.plans x d.history) (core_of (marks_device v w d).store)) p.base p.follows.of) stands);
}

pub all_sound : {used taken : List ℕ} {xs : List Stood} {ms : List Mounted} → AreMountedBy used taken xs ms → ArePlain ms → AreSound xs
all_sound (no_more f) p = tt
all_sound (one_more mine is apart rest) p = (one_sound is p.0, all_sound rest p.1)
