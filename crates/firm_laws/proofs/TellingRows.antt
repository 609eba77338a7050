-- A course that keeps the run and what is told as firm in it goes along so.
use Rattle.std.proofs.Common.{◌≡◌, ◌++◌, ℕ, List, refl}
use Rattle.std.specs.declared.convert.Infallible.{Infallible}
use Rattle.subsystem_defs.specs.Happening.{happens, replaced, unpaired}
use Rattle.subsystem_defs.specs.Subsystem.{Subsystem, unfailing}
use Rattle.keeper_laws.specs.Messages.{event_messages}
use Rattle.line_drive.specs.Driven.{Course, Occurred, Comes, Replaces, Unpairs, Goes, run_did}
use Rattle.firm_laws.specs.FirmWrites.{FirmWrite, firms_in}
use Rattle.firm_laws.specs.Telling.{IsTelling}

record Listening : Type 0 where
  run : Subsystem
  device : ℕ
  firms : List FirmWrite

abbrev did : Listening → Occurred → Listening
did x (Comes e) = record x { run = (happens x.run e).behind; firms = x.firms ++ firms_in x.device (event_messages x.run e) }
did x (Replaces d side) = record x { run = (replaced x.run d side unfailing).behind }
did x (Unpairs a) = record x { run = (unpaired x.run a unfailing).behind }

abbrev listening : Course Listening Infallible
listening = record { sub = λ x. x.run; did = did; behind = Goes }

stays : (x : Listening) (o : Occurred) → (did x o).device ≡ x.device
stays x (Comes e) = refl
stays x (Replaces d side) = refl
stays x (Unpairs a) = refl

goes : (x : Listening) (o : Occurred) → (did x o).run ≡ run_did x.run o
goes x (Comes e) = refl
goes x (Replaces d side) = refl
goes x (Unpairs a) = refl

it_tells : IsTelling listening (λ x. x.device) (λ x. x.firms)
it_tells = record {
  stays = stays;
  sub = goes;
  comes = λ x e. refl;
  replaces = λ x d side. refl;
  unpairs = λ x a. refl;
  behind = λ x. refl;
}
