-- Which event brings what into the journal of which device: what each event makes of a device's history. Nothing else makes an item or an act.
use Rattle.std.specs.Prelude.{◌≡◌, ℕ, ◌==◌, ◌&&◌, not, Bool, true, false, List, [], ◌∷◌, slice_index_or, slice_set, Option, Some, None, is_some}
use Rattle.ckd_types.specs.declared.channel.CommandEnd.{CommandEnd}
use Rattle.plain_defs.specs.declared.journal.Act.{Act}
use Rattle.plain_defs.specs.declared.journal.Act.TheVariants.{Loosen, Harden, CfwLost}
use Rattle.plain_defs.specs.History.{History, started, ended, checked, reset_in_history, lost_power, emptied}
use Rattle.device_defs.specs.Cutting.{counts_one_by}
use Rattle.device_defs.specs.Device.{all_acted}
use Rattle.device_defs.specs.Marks.{MarksDevice}
use Rattle.device_defs.specs.Start.{next_ordinal}
use Rattle.device_defs.specs.Store.{has_loose}
use Rattle.subsystem_defs.specs.declared.end.EventEnd.{EventEnd}
use Rattle.subsystem_defs.specs.declared.end.EventEnd.TheVariants as ends
use Rattle.subsystem_defs.specs.declared.event.Event.{Event}
use Rattle.subsystem_defs.specs.declared.event.Event.TheVariants as events
use Rattle.subsystem_defs.specs.Happening.{is_lent_to}
use Rattle.subsystem_defs.specs.Lines.{Asked, Once, Replace, Unpair, Run, Settle, Logged}
use Rattle.subsystem_defs.specs.Subsystem.{devices_of}
use Rattle.subsystem_laws.specs.Causes.{EachPair}

-- RUN asks for steps, and SETTLE for work in the background
abbrev pub event_of : Asked → Option Event
event_of (Once e) = Some e
event_of (Run n) = Some (events.Step n)
event_of (Settle n) = Some (events.Back n)
event_of (Replace n side) = None
event_of (Unpair a) = None

abbrev pub is_refused : EventEnd → Bool
is_refused (ends.Refused f) = true
is_refused _ = false

-- it was this event, and it wasn't refused
pub record IsBy (asked : Asked) (end : EventEnd) (e : Event) : Type 0 where
  pub event : event_of asked ≡ Some e
  pub goes : is_refused end ≡ false

-- Acts

-- loose tracks become firm, each once
abbrev pub are_firmed : List Bool → List Act → Bool
are_firmed loose [] = true
are_firmed loose (Harden t ∷ acts) = slice_index_or loose t false && are_firmed (slice_set loose t false) acts
are_firmed loose (Loosen t ∷ acts) = false
are_firmed loose (CfwLost ∷ acts) = false

-- and at last one track that isn't loose may become that
abbrev pub are_noted : List Bool → List Act → Bool
are_noted loose [] = true
are_noted loose (Harden t ∷ acts) = slice_index_or loose t false && are_noted (slice_set loose t false) acts
are_noted loose (Loosen t ∷ []) = not (slice_index_or loose t false)
are_noted loose (Loosen t ∷ act ∷ acts) = false
are_noted loose (CfwLost ∷ acts) = false

abbrev pub is_one_loss : List Act → Bool
is_one_loss (CfwLost ∷ []) = true
is_one_loss _ = false

-- a step makes loose tracks of its device firm, and may make one loose; work in the background, and the loss of a side, make loose ones firm;
-- the loss of the cache takes the data of all loose tracks, once, where there are some
abbrev pub may_act : Event → MarksDevice → List Act → Bool
may_act (events.Step n) d acts = (d.store.device == n) && are_noted d.store.loose acts
may_act (events.Back n) d acts = (d.store.device == n) && are_firmed d.store.loose acts
may_act (events.FailVolume n side) d acts = (d.store.device == n) && are_firmed d.store.loose acts
may_act events.FailCache d acts = has_loose d.store && is_one_loss acts
may_act _ d acts = false

-- a command ends in a step of its device, or in its background where that is the other part of a write
abbrev pub may_end : Event → MarksDevice → Bool
may_end (events.Step n) d = d.store.device == n
may_end (events.Back n) d = (d.store.device == n) && is_some d.store.half
may_end _ d = false

-- Histories

-- of a device d before an event that was asked for so, and ended so
pub data Brings (asked : Asked) (end : EventEnd) (d : MarksDevice) : History → Type 0 where
  -- any event may leave it
  nothing : Brings asked end d d.history
  -- acts come to the running program, or to the journal while none runs
  acts_alone : (e : Event) → IsBy asked end e → (acts : List Act) → may_act e d acts ≡ true → Brings asked end d (all_acted d.history acts)
  -- a START of a path at this device: its next program runs
  start_of_program : (path : ℕ) → IsBy asked end (events.Start path d.store.device) →
      Brings asked end d (started d.history path (next_ordinal d path))
  -- a command ends, behind its acts; with its program's end comes the program, and the resets that waited
  end_of_command : (e : Event) → IsBy asked end e → may_end e d ≡ true → (acts : List Act) → may_act e d acts ≡ true → (c : CommandEnd) →
      Brings asked end d (ended (all_acted d.history acts) c)
  -- or it is checked, and so is its program
  check_of_command : (e : Event) → IsBy asked end e → may_end e d ≡ true → (acts : List Act) → may_act e d acts ≡ true → (c : CommandEnd) →
      Brings asked end d (checked (all_acted d.history acts) c)
  -- a RESET of a path at this device: its program is cut and the reset follows, or waits for another path's; an open half write counts
  reset_of_path : (path : ℕ) → IsBy asked end (events.Reset path d.store.device) →
      Brings asked end d (reset_in_history d.history path (counts_one_by d.store.half))
  -- POWER: the running program is cut, and the loss of power follows
  loss_of_power : IsBy asked end events.Power → Brings asked end d (lost_power d.history (counts_one_by d.store.half))
  -- UNPAIR of the device that this one is lent to: its volume is empty
  new_volume : (a : ℕ) → asked ≡ Unpair a → is_refused end ≡ false → is_lent_to d.store.lent a ≡ true → Brings asked end d (emptied d.history)

abbrev pub HasOrigin : Logged → MarksDevice → MarksDevice → Type 0
HasOrigin x before behind = Brings x.asked x.happened.end before behind.history

-- of each device before and behind the event
abbrev pub HaveOrigins : Logged → Type 0
HaveOrigins x = EachPair (HasOrigin x) (devices_of x.happened.before) (devices_of x.happened.behind)

-- the device got a new volume, which the order gives back to it: that is all that came
pub record IsGivenBack (asked : Asked) (end : EventEnd) (d : MarksDevice) (k : History) : Type 0 where
  pub pair : ℕ
  pub order : asked ≡ Unpair pair
  pub goes : is_refused end ≡ false
  pub lent : is_lent_to d.store.lent pair ≡ true
  pub is : k ≡ emptied d.history
