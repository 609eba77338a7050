-- A device that stands beside the plain device of its history is sound, its history is a plain device's, and it is excused for what it lost.
use Rattle.std.proofs.Common.{◌<◌, ◌^◌, ◌-◌, ℕ, List}
use Rattle.ckd_types.specs.declared.record.Track.{Track}
use Rattle.plain_defs.specs.History.{IsPlain}
use Rattle.device_outside.specs.Outside.{Outside}
use Rattle.device_defs.specs.Excused.{IsExcused}
use Rattle.device_laws.specs.SoundOn.{IsSoundOn, begun_as}
use Rattle.device_laws.specs.Whole.{WholeDevice, marks_device}
use Rattle.subsystem_laws.proofs.AllSound.{in_order_sound}
use Rattle.subsystem_laws.proofs.Excusable.{excused_of}
use Rattle.subsystem_laws.specs.Standing.{IsBesideOn, StandsOn}

pub beside_sound : {first : ℕ → List Track} {K : Type 0} (d : WholeDevice) (u : Outside (List ℕ) K) (s : IsBesideOn first d u) → IsSoundOn first d s.held
beside_sound {first = first} d u s = in_order_sound first s.plain s.firm d s.held s.follows.of s.order

pub beside_plain : {first : ℕ → List Track} {K : Type 0} (d : WholeDevice) (u : Outside (List ℕ) K) → IsBesideOn first d u →
    IsPlain d.plans (begun_as first d) d.history
beside_plain d u s = s.follows.stands.plain

pub stands_excused : {first : ℕ → List Track} {K : Type 0} (d : WholeDevice) (u : Outside (List ℕ) K) → StandsOn first d u → d.store.counts.failed < 2 ^ 64 - 1 →
    d.store.counts.losses.cache < 2 ^ 64 - 1 →
    IsExcused d.plans (begun_as first d) d.history.items d.store.lost d.store.counts
stands_excused d u s failed cache =
    excused_of (marks_device s.beside.plain s.beside.firm d) s.about (record { home = s.beside.order.free; none = s.never }) failed cache
