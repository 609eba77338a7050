-- A device with all of its past.
use Rattle.device_defs.specs.Device.{Device}
use Rattle.past_laws.specs.PutAway.{PutAway, whole_history, whole_plans}

-- the device with all of its past
abbrev pub with_past : {F P H : Type 0} → PutAway → Device F P H → Device F P H
with_past w d = record d { plans = whole_plans w d.plans; history = whole_history w d.history }
