-- The start of a path's next program.
use Rattle.std.specs.Prelude.{ℕ, ◌+◌, ◌-◌, ◌==◌, ◌&&◌, ◌||◌, not, Bool, List, [], ◌∷◌, length, count_by, Option, Some, None, is_some, if◌then◌else◌}
use Rattle.std.specs.List.{list_all}
use Rattle.ckd_types.specs.declared.channel.Ccw.{Ccw}
use Rattle.ckd_types.specs.declared.paths.Owner.{Owner}
use Rattle.ckd_chain.specs.Steps.{begun_chain}
use Rattle.plain_defs.specs.History.{OpenEntry, History, is_path_of, started}
use Rattle.plain_defs.specs.Journal.{planned, program_of}
use Rattle.plain_defs.specs.Legal.{is_of_path}
use Rattle.plain_defs.specs.PlainState.{is_admitted}
use Rattle.plain_defs.specs.Program.{sense_begun}
use Rattle.device_defs.specs.declared.answers.StartFault.{StartFault}
use Rattle.device_defs.specs.declared.answers.StartFault.TheVariants.{Secondary, Busy, PlanDone, Shut, Reserved}
use Rattle.device_defs.specs.Device.{Device}
use Rattle.device_defs.specs.Store.{store_fixed}

-- a history has the programs that were started, in their order
abbrev pub started_count : History → ℕ → ℕ
started_count h path = count_by (is_of_path path) h.items + (if is_path_of h.running path then 1 else 0)

module _ {F P H : Type 0} where
  -- the programs of a path that weren't started yet
  abbrev pub left : Device F P H → ℕ → ℕ
  left d path = length (planned d.plans path) - started_count d.history path

  abbrev pub next_program : Device F P H → ℕ → List Ccw
  next_program d path = program_of d.plans path (started_count d.history path + 1)

  -- whoever holds the device keeps the path's next program out
  abbrev pub keeps_out : Device F P H → ℕ → Bool
  keeps_out d path = not (is_admitted d.paths path (next_program d path))

  abbrev pub has_none_or_is_out : Device F P H → ℕ → Bool
  has_none_or_is_out d path = (left d path == 0) || keeps_out d path

  -- no path has a next program that would start
  abbrev pub is_shut : Device F P H → Bool
  is_shut d = list_all (has_none_or_is_out d) (1 ∷ 2 ∷ 3 ∷ 4 ∷ [])

  abbrev pub reserved_fault : Device F P H → Option Owner → Option StartFault
  reserved_fault d (Some owner) = Some (if is_shut d then Shut owner else Reserved owner)
  reserved_fault d None = None

  abbrev pub idle_fault : Device F P H → ℕ → Option StartFault
  idle_fault d path =
      if left d path == 0 then Some PlanDone
      else if keeps_out d path then reserved_fault d d.paths.owner
      else None

  abbrev pub running_fault : Device F P H → ℕ → Option OpenEntry → Option StartFault
  running_fault d path (Some o) = Some (Busy o.path)
  running_fault d path None = idle_fault d path

  abbrev pub fault_by : Device F P H → ℕ → Option ℕ → Option StartFault
  fault_by d path (Some of) = Some (Secondary of)
  fault_by d path None = running_fault d path d.history.running

  -- why a path's next program doesn't start, the first cause; the path itself runs none
  unfoldable pub start_fault : Device F P H → ℕ → Option StartFault
  start_fault d path = fault_by d path d.store.lent

  -- its ordinal
  abbrev pub next_ordinal : Device F P H → ℕ → ℕ
  next_ordinal d path = started_count d.history path + 1

  -- the device with that program
  unfoldable pub start : Device F P H → ℕ → Device F P H
  start d path =
      let ccws = next_program d path in record d {
        paths = sense_begun d.paths path ccws;
        history = started d.history path (next_ordinal d path);
        chain = Some (begun_chain ccws (store_fixed d.store));
      }

  -- a path has no program left, or is kept out
  abbrev pub is_finished : Device F P H → Bool
  is_finished d = not (is_some d.history.running) && (is_some d.store.lent || is_shut d)
