-- What a device promises by an order that holds or resumes side B, gives a side another volume, makes a pair, or parts one.
use Rattle.std.proofs.Common.{◌≡◌, ◌*◌, ℕ, true, false, List, Option, Some, None, is_some, ap, ◌∙◌}
use Rattle.std.specs.Prelude.{option_map}
use Rattle.ckd_types.specs.declared.paths.Side.{Side}
use Rattle.ckd_types.specs.declared.paths.Side.TheVariants.{A, B}
use Rattle.device_outside.specs.declared.volume.Volume.{Ghosts}
use Rattle.device_outside.specs.Outside.{Outside, no_pool, with_view}
use Rattle.device_defs.specs.Orders.{hold_side, join, replace, resume, split}
use Rattle.device_defs.specs.Store.{side_of}
use Rattle.duplex_pair.specs.declared.pair.SideVolumes.{SideVolumes}
use Rattle.duplex_pair.specs.Sides.{other_of, volume_of}
use Rattle.device_store.specs.State.{on_a, on_b, outside_of}
use Rattle.subsystem_defs.specs.Refusals.{replace_fault, suspend_fault, unpair_fault}
use Rattle.subsystem_laws.proofs.turning.Orders.{
  held_beside,
  held_stands,
  joined_beside,
  joined_stands,
  replaced_beside,
  replaced_stands,
  split_beside,
  split_stands,
}
use Rattle.device_core.specs.declared.device.Device.{Device}
use Rattle.device_core.specs.Promises.{KeepsPlain, KeepsWhole, StaysExcused, StaysPlain, StaysSound, TellsTracks, told_by, whole_of}
use Rattle.device_core.specs.State.{device_of}
use Rattle.device_core.proofs.Promising.{excused_by, plain_by, plain_over, sound_by, whole_over}
use Rattle.device_core.proofs.WholePasts.{replace_same, store_on, suspend_same, unpair_same}

module _ {V : Type 0} {G : Ghosts V} (d e : Device V G) where
  -- Side B is held, or resumed

  same_volumes : e.store.pair.volumes ≡ d.store.pair.volumes → told_by e ≡ told_by d
  same_volumes same = ap (λ (v : SideVolumes V). outside_of (no_pool 0) G.view v (tt {0})) same

  held_plain : device_of e ≡ hold_side (device_of d) → e.store.pair.volumes ≡ d.store.pair.volumes → KeepsPlain d e
  held_plain is same = plain_over d e (λ past first s. store_on s (hold_side (device_of d)).store (held_beside (whole_of past d) (told_by d) true)) is (same_volumes same)

  held_whole : device_of e ≡ hold_side (device_of d) → e.store.pair.volumes ≡ d.store.pair.volumes → suspend_fault (device_of d) ≡ None →
      KeepsWhole d e
  held_whole is same fault = whole_over d e (λ past first s. store_on s (hold_side (device_of d)).store (held_stands (whole_of past d) (told_by d) true (λ _. suspend_same past (device_of d) ∙ fault))) is (same_volumes same)

  pub hold_sound : device_of e ≡ hold_side (device_of d) → e.store.pair.volumes ≡ d.store.pair.volumes → StaysSound d e
  hold_sound is same = sound_by d e (held_plain is same)

  pub hold_stays_plain : device_of e ≡ hold_side (device_of d) → e.store.pair.volumes ≡ d.store.pair.volumes → StaysPlain d e
  hold_stays_plain is same = plain_by d e (held_plain is same)

  pub hold_excused : device_of e ≡ hold_side (device_of d) → e.store.pair.volumes ≡ d.store.pair.volumes → suspend_fault (device_of d) ≡ None → StaysExcused d e
  hold_excused is same fault = excused_by d e (held_whole is same fault)

  resumed_plain : device_of e ≡ resume (device_of d) → e.store.pair.volumes ≡ d.store.pair.volumes → KeepsPlain d e
  resumed_plain is same = plain_over d e (λ past first s. store_on s (resume (device_of d)).store (held_beside (whole_of past d) (told_by d) false)) is (same_volumes same)

  resumed_whole : device_of e ≡ resume (device_of d) → e.store.pair.volumes ≡ d.store.pair.volumes → KeepsWhole d e
  resumed_whole is same = whole_over d e (λ past first s. store_on s (resume (device_of d)).store (held_stands (whole_of past d) (told_by d) false (λ f. absurd (cc)))) is (same_volumes same)

  pub resume_sound : device_of e ≡ resume (device_of d) → e.store.pair.volumes ≡ d.store.pair.volumes → StaysSound d e
  resume_sound is same = sound_by d e (resumed_plain is same)

  pub resume_stays_plain : device_of e ≡ resume (device_of d) → e.store.pair.volumes ≡ d.store.pair.volumes → StaysPlain d e
  resume_stays_plain is same = plain_by d e (resumed_plain is same)

  pub resume_excused : device_of e ≡ resume (device_of d) → e.store.pair.volumes ≡ d.store.pair.volumes → StaysExcused d e
  resume_excused is same = excused_by d e (resumed_whole is same)

  -- A side gets another volume

  abbrev told_with : Option V → Option V → Outside (List ℕ) (Unit {0})
  told_with a b = record { port = no_pool 0; a = option_map G.view a; b = option_map G.view b; keeper = tt }

  pub side_told : (side : Side) (v : V) → volume_of e.store.pair.volumes side ≡ Some v →
      other_of e.store.pair.volumes side ≡ other_of d.store.pair.volumes side → told_by e ≡ with_view (told_by d) side (G.view v)
  side_told A v here other =
      ap (λ (a : Option V). told_with a e.store.pair.volumes.b) here ∙ ap (told_with (Some v)) other
  side_told B v here other =
      ap (told_with e.store.pair.volumes.a) here ∙ ap (λ (a : Option V). told_with a (Some v)) other

  paired_by : (side : Side) → is_some (volume_of d.store.pair.volumes side) ≡ true → side ≡ B → (device_of d).store.paired ≡ true
  paired_by A there is = absurd (cc)
  paired_by B there is = there

  module _ (side : Side) (v : V) (tells : TellsTracks (G.view v) (d.store.cylinders * 15)) (is : device_of e ≡ replace (device_of d) side)
      (here : volume_of e.store.pair.volumes side ≡ Some v) (other : other_of e.store.pair.volumes side ≡ other_of d.store.pair.volumes side) where
    replaced_plain : is_some (volume_of d.store.pair.volumes side) ≡ true → (side_of (device_of d).store side).up ≡ false → KeepsPlain d e
    replaced_plain there down =
        plain_over d e (λ past first s. store_on s (replace (device_of d) side).store (λ b. replaced_beside (whole_of past d) (told_by d) (G.view v) tells.0 tells.1 tells.2 side b down (paired_by side there))) is
        (side_told side v here other)

    replaced_whole : replace_fault (device_of d) side ≡ None → KeepsWhole d e
    replaced_whole fault =
        whole_over d e (λ past first s. store_on s (replace (device_of d) side).store (λ b. replaced_stands (whole_of past d) (told_by d) (G.view v) tells.0 tells.1 tells.2 side b
        (replace_same past (device_of d) side ∙ fault))) is (side_told side v here other)

    pub replace_sound : is_some (volume_of d.store.pair.volumes side) ≡ true → (side_of (device_of d).store side).up ≡ false → StaysSound d e
    replace_sound there down = sound_by d e (replaced_plain there down)

    pub replace_stays_plain : is_some (volume_of d.store.pair.volumes side) ≡ true → (side_of (device_of d).store side).up ≡ false → StaysPlain d e
    replace_stays_plain there down = plain_by d e (replaced_plain there down)

    pub replace_excused : replace_fault (device_of d) side ≡ None → StaysExcused d e
    replace_excused fault = excused_by d e (replaced_whole fault)

  -- A pair is made, or parted

  module _ (v : V) (tells : TellsTracks (G.view v) (d.store.cylinders * 15)) (single : (device_of d).store.paired ≡ false)
      (is : device_of e ≡ join (device_of d)) (a : on_a e.store ≡ on_a d.store) (b : on_b e.store ≡ Some v) where
    joined_plain : KeepsPlain d e
    joined_plain =
        plain_over d e (λ past first s. store_on s (join (device_of d)).store (joined_beside (whole_of past d) (told_by d) (G.view v) tells.0 tells.1 tells.2 single)) is (side_told B v b a)

    joined_whole : KeepsWhole d e
    joined_whole =
        whole_over d e (λ past first s. store_on s (join (device_of d)).store (joined_stands (whole_of past d) (told_by d) (G.view v) tells.0 tells.1 tells.2 single)) is (side_told B v b a)

    pub join_sound : StaysSound d e
    join_sound = sound_by d e joined_plain

    pub join_stays_plain : StaysPlain d e
    join_stays_plain = plain_by d e joined_plain

    pub join_excused : StaysExcused d e
    join_excused = excused_by d e joined_whole

  parted_told : on_a e.store ≡ on_a d.store → on_b e.store ≡ None → told_by e ≡ record (told_by d) { b = None }
  parted_told a b = ap (λ (x : Option V). told_with x e.store.pair.volumes.b) a ∙ ap (told_with d.store.pair.volumes.a) b

  module _ (fault : unpair_fault (device_of d) ≡ None) (is : device_of e ≡ split (device_of d)) (a : on_a e.store ≡ on_a d.store)
      (b : on_b e.store ≡ None) where
    split_plain : KeepsPlain d e
    split_plain = plain_over d e (λ past first s. store_on s (split (device_of d)).store (split_beside (whole_of past d) (told_by d) (unpair_same past (device_of d) ∙ fault))) is (parted_told a b)

    split_whole : KeepsWhole d e
    split_whole = whole_over d e (λ past first s. store_on s (split (device_of d)).store (split_stands (whole_of past d) (told_by d) (unpair_same past (device_of d) ∙ fault))) is (parted_told a b)

    pub part_sound : StaysSound d e
    part_sound = sound_by d e split_plain

    pub part_stays_plain : StaysPlain d e
    part_stays_plain = plain_by d e split_plain

    pub part_excused : StaysExcused d e
    part_excused = excused_by d e split_whole
