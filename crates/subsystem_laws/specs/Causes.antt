-- What causes a check of the run of a deck.
use Rattle.std.specs.Prelude.{◌≡◌, ◌<◌, ◌^◌, ◌-◌, ◌⊎◌, ⊤, ℕ, true, false, List, [], ◌∷◌, Some, All, count_by, is_some}
use Rattle.plain_defs.specs.History.{OpenEntry}
use Rattle.device_defs.specs.Command.{has_loss}
use Rattle.device_defs.specs.Contents.{by_plain}
use Rattle.loss_model.specs.declared.Loss.{Loss}
use Rattle.device_defs.specs.Events.{one_loss_more}
use Rattle.device_defs.specs.Excused.{count_lost}
use Rattle.device_defs.specs.Marks.{MarksDevice}
use Rattle.device_defs.specs.Pledge.{ends_with_data_check}
use Rattle.device_defs.specs.Store.{HalfWrite, level_at, has_level, takes_b, is_lost}
use Rattle.device_laws.specs.Unharmed.{MarksAreGood, NothingLost, ends_with_equipment_check, some_takes}
use Rattle.subsystem_defs.specs.Lines.{Logged}
use Rattle.subsystem_defs.specs.Promised.{misses_nothing}
use Rattle.subsystem_defs.specs.Subsystem.{devices_of}

-- no program of its journal ended with data check
abbrev pub HasNoDataCheck : MarksDevice → Type 0
HasNoDataCheck d = count_by ends_with_data_check d.history.items ≡ 0

abbrev pub HaveNoDataCheck : Logged → Type 0
HaveNoDataCheck x = All HasNoDataCheck (devices_of x.happened.behind)

-- its marks are good, unless it is lent
abbrev pub HasGoodMarks : MarksDevice → Type 0
HasGoodMarks d = is_some d.store.lent ≡ false → MarksAreGood by_plain d.store

abbrev pub HaveGoodMarks : Logged → Type 0
HaveGoodMarks x = All HasGoodMarks (devices_of x.happened.behind)

-- none of its tracks is lost, unless one of its sides or the store was lost or a call failed
abbrev pub KeepsTracks : MarksDevice → Type 0
KeepsTracks d = NothingLost d.store → count_lost d.store.lost ≡ 0

abbrev pub KeepTracks : Logged → Type 0
KeepTracks x = All KeepsTracks (devices_of x.happened.behind)

-- none of its programs ended with equipment check, unless something of it was lost or a call failed
abbrev pub ChecksNothing : MarksDevice → Type 0
ChecksNothing d = NothingLost d.store → d.store.counts.losses.cache ≡ 0 → count_by ends_with_equipment_check d.history.items ≡ 0

abbrev pub CheckNothing : Logged → Type 0
CheckNothing x = All ChecksNothing (devices_of x.happened.behind)

-- so what is promised of a calm run holds of it
abbrev pub MissesNothing : MarksDevice → Type 0
MissesNothing d = NothingLost d.store → d.store.counts.losses.cache ≡ 0 → misses_nothing d ≡ true

abbrev pub MissNothing : Logged → Type 0
MissNothing x = All MissesNothing (devices_of x.happened.behind)

-- its failed calls are counted on: at the greatest number the count stands still
abbrev pub CountsFailures : MarksDevice → Type 0
CountsFailures d = d.store.counts.failed < 2 ^ 64 - 1

abbrev pub CountFailures : Logged → Type 0
CountFailures x = All CountsFailures (devices_of x.happened.before)

-- Where the number of checks rises in an event: a call failed in it (or their number stands at the greatest one, which counts no further), or before it
-- no side took writes, side A hadn't the track of the open half write and B took no writes, a track was lost, or data of cache fast write of the
-- program that runs were gone
pub data HasCause (x y : MarksDevice) : Type 0 where
  call_failed : x.store.counts.failed < y.store.counts.failed → HasCause x y
  not_counted : x.store.counts.failed ≡ 2 ^ 64 - 1 → HasCause x y
  none_takes : some_takes x.store ≡ false → HasCause x y
  half_untried : (h : HalfWrite (Unit {0})) → x.store.half ≡ Some h → level_at x.store.a h.track ≡ false → takes_b x.store ≡ false → HasCause x y
  track_lost : (t : ℕ) → is_lost x.store t ≡ true → HasCause x y
  data_gone : (o : OpenEntry) → x.history.running ≡ Some o → has_loss o.acts ≡ true → HasCause x y

abbrev pub checks_of : MarksDevice → ℕ
checks_of d = count_by ends_with_equipment_check d.history.items

abbrev pub ChecksForCause : MarksDevice → MarksDevice → Type 0
ChecksForCause x y = (checks_of y ≡ checks_of x) ⊎ HasCause x y

-- each device before beside the same behind
abbrev pub EachPair : (MarksDevice → MarksDevice → Type 0) → List MarksDevice → List MarksDevice → Type 0
EachPair r [] [] = ⊤
EachPair r (x ∷ xs) (y ∷ ys) = r x y × EachPair r xs ys
EachPair r _ _ = ⊥

abbrev pub CheckForCause : Logged → Type 0
CheckForCause x = EachPair ChecksForCause (devices_of x.happened.before) (devices_of x.happened.behind)

-- A track becomes lost where a loss was given to the device, a call failed (or their number stands at the greatest one), or of the open half write no
-- side has the track and B takes no writes

pub data MayLose (x y : MarksDevice) : Type 0 where
  by_loss : (loss : Loss) → y.store.counts.losses ≡ one_loss_more x.store.counts.losses loss → MayLose x y
  by_call : x.store.counts.failed < y.store.counts.failed → MayLose x y
  by_full_count : x.store.counts.failed ≡ 2 ^ 64 - 1 → MayLose x y
  by_half : (h : HalfWrite (Unit {0})) → x.store.half ≡ Some h → has_level x.store h.track ≡ false → takes_b x.store ≡ false → MayLose x y

-- no track more is lost
abbrev pub LosesNone : MarksDevice → MarksDevice → Type 0
LosesNone x y = (t : ℕ) → is_lost y.store t ≡ true → is_lost x.store t ≡ true

abbrev pub LosesForCause : MarksDevice → MarksDevice → Type 0
LosesForCause x y = LosesNone x y ⊎ MayLose x y

abbrev pub LoseForCause : Logged → Type 0
LoseForCause x = EachPair LosesForCause (devices_of x.happened.before) (devices_of x.happened.behind)
