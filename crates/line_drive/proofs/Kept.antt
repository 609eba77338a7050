-- An event with a keeper: from what came of it to what happens in a run.
use Rattle.std.proofs.Common.{◌≡◌, ◌∙◌, true, Result, Ok, Err, ap}
use Rattle.std.specs.Prelude.{IfOk, OnOk}
use Rattle.track_image.specs.Image.{Image}
use Rattle.device_outside.specs.declared.volume.Volume.{Ghosts}
use Rattle.device_outside.specs.Hears.{HeardAll}
use Rattle.device_outside.specs.Keeper.{Hearing}
use Rattle.subsystem_core.specs.declared.end.EventEnd.{EventEnd}
use Rattle.subsystem_core.specs.declared.subsystem.Subsystem.{Subsystem}
use Rattle.subsystem_core.specs.Comes.{CameKept}
use Rattle.subsystem_core.specs.Devices.{numbers_of}
use Rattle.subsystem_core.specs.Ends.{answer_of}
use Rattle.subsystem_core.specs.Places.{may_come}
use Rattle.subsystem_defs.specs.declared.event.Event.{Event}
use Rattle.subsystem_defs.specs.Happening.{happens}
use Rattle.subsystem_defs.specs.Lines.{is_settled}
use Rattle.subsystem_defs.specs.Subsystem as runs
use Rattle.keeper_laws.specs.Messages.{event_messages}
use Rattle.deck_run.specs.Owning.{AreOwn, ChainsStand}
use Rattle.deck_run.specs.Seen.{settles}
use Rattle.deck_run.specs.Standing.{StandsAs}
use Rattle.line_drive.specs.Ending.{EndsAs}
use Rattle.line_drive.specs.Recalling.{IsPathIn}
use Rattle.line_drive.proofs.Forgets.{came_plainly}
use Rattle.line_drive.proofs.Hearings.{heard_so}
use Rattle.line_drive.proofs.Happened.{event_happens, event_owns}
use Rattle.line_drive.proofs.Settles.{settles_as}

module _ {V : Type 0} {G : Ghosts V} {K X : Type 0} (hears : Hearing Image K) (old : Subsystem V G) (keep : K) (new : Subsystem V G) (kept : K) (e : Event)
    (path_in : IsPathIn e) (may : may_come (numbers_of old.devices.items) e ≡ true) (numbers : numbers_of new.devices.items ≡ numbers_of old.devices.items)
    (stand : ChainsStand old.devices.items) where
  abbrev KeptSo : Result EventEnd X → Type 0
  KeptSo r = CameKept hears e old keep (answer_of r) new kept

  pub own_kept : (r : Result EventEnd X) → KeptSo r → AreOwn old.devices.items → OnOk r (AreOwn new.devices.items)
  own_kept (Ok a) came own = event_owns old new a own numbers e path_in may (came_plainly hears old keep a new kept e came)
  own_kept (Err x) came own = tt

  pub happens_kept : (r : Result EventEnd X) → KeptSo r → (run : runs.Subsystem) → StandsAs old run → AreOwn old.devices.items →
      IfOk r (λ a. EndsAs e new a (happens run e).end × StandsAs new (happens run e).behind)
  happens_kept (Ok a) came run all own =
      event_happens old new a own numbers e path_in may (came_plainly hears old keep a new kept e came) run stand all
  happens_kept (Err x) came run all own = tt

  pub settled_kept : (r : Result EventEnd X) → KeptSo r → (run : runs.Subsystem) → StandsAs old run → AreOwn old.devices.items →
      IfOk r (λ a. settles a ≡ is_settled (happens run e).end)
  settled_kept (Ok a) came run all own =
      let so = event_happens old new a own numbers e path_in may (came_plainly hears old keep a new kept e came) run stand all in
      settles_as new a (happens run e).end e (ap (λ ns. may_come ns e) numbers ∙ may) so.0
  settled_kept (Err x) came run all own = tt

  pub heard_kept : (r : Result EventEnd X) → KeptSo r → (run : runs.Subsystem) → StandsAs old run → AreOwn old.devices.items →
      OnOk r (HeardAll hears keep (event_messages run e) kept)
  heard_kept (Ok a) came run all own =
      let so = event_happens old new a own numbers e path_in may (came_plainly hears old keep a new kept e came) run stand all in
      heard_so hears old keep a new kept own stand numbers run all e (happens run e).end may so.0 came
  heard_kept (Err x) came run all own = tt
