-- Want of memory. Where an event may lack it, its answer is an Option: None says that it was lacking.
use Rattle.std.specs.Prelude.{Option, None, Some, if◌then◌else◌}
use Rattle.device_outside.specs.Interaction.{Interaction, Done, Try, and_then}

-- it goes on only where memory is had, and else leaves this state
abbrev pub tried : {R I S A : Type 0} → S → Interaction R I S (Option A) → Interaction R I S (Option A)
tried s i = Try (λ ok. if ok then i else Done s None)

abbrev pub had_by : {R I S A B : Type 0} → (S → A → Interaction R I S (Option B)) → S → Option A → Interaction R I S (Option B)
had_by f s (Some a) = f s a
had_by f s None = Done s None

-- one, and then another unless memory was lacking
abbrev pub and_had : {R I S A B : Type 0} → Interaction R I S (Option A) → (S → A → Interaction R I S (Option B)) →
    Interaction R I S (Option B)
and_had i f = and_then i (had_by f)
