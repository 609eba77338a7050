-- How the end of an event is seen. The end of a command stands in the journal of its device, and nothing of it is copied.
use Rattle.std.specs.Prelude.{◌≡◌, Bool, true, Option, Some, None, Result, Ok, Err}
use Rattle.ckd_types.specs.declared.channel.CommandEnd.{CommandEnd}
use Rattle.device_core.specs.State.{step_seen, second_seen}
use Rattle.subsystem_defs.specs.declared.end.EventEnd as defs
use Rattle.subsystem_defs.specs.declared.end.EventEnd.TheVariants as answers
use Rattle.subsystem_defs.specs.Deeds.{end_of}
use Rattle.subsystem_core.specs.declared.end.EventEnd.{EventEnd}
use Rattle.subsystem_core.specs.declared.end.EventEnd.TheVariants as ends

-- with the last end of the device that the event names
abbrev pub end_seen : Option CommandEnd → EventEnd → Option defs.EventEnd
end_seen last (ends.Started n) = Some (answers.Started n)
end_seen last (ends.NotStarted fault) = Some (answers.NotStarted fault)
end_seen last ends.Running = Some answers.Running
end_seen last (ends.Stepped s) = end_of answers.Stepped (step_seen last s)
end_seen last (ends.Second s) = end_of answers.Second (second_seen last s)
end_seen last ends.Idle = Some answers.Idle
end_seen last (ends.Back did) = Some (answers.Back did)
end_seen last ends.Done = Some answers.Done
end_seen last (ends.Pending n) = Some (answers.Pending n)
end_seen last (ends.Refused fault) = Some (answers.Refused fault)

-- None: memory was lacking
abbrev pub end_had : Option CommandEnd → Option EventEnd → Option defs.EventEnd
end_had last (Some end) = end_seen last end
end_had last None = None

-- memory was had, where the answer doesn't say that it was lacking
abbrev pub where_some : {X : Type 0} → Option X → Bool → Type 0
where_some (Some x) ok = ok ≡ true
where_some None ok = Unit {0}

abbrev pub answer_of : {X E : Type 0} → Result X E → Option X
answer_of (Ok x) = Some x
answer_of (Err e) = None

-- it ends so, whatever the last end of whichever device is
abbrev pub Answers : Option EventEnd → defs.EventEnd → Type 0
Answers a end = (last : Option CommandEnd) → end_had last a ≡ Some end
