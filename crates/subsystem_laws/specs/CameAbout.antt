-- A device over marks that came about from a new one by its events, by looks past the channel, by orders that aren't refused, and by programs that were
-- planned for it, whatever was answered where memory was had.
use Rattle.std.specs.Prelude.{◌≡◌, ◌<◌, ◌≤◌, ℕ, ◌*◌, true, false, List, length, Some, None, is_some}
use Rattle.ckd_types.specs.declared.channel.Ccw.{Ccw}
use Rattle.ckd_types.specs.declared.geometry.Geometry.{Geometry}
use Rattle.ckd_types.specs.declared.paths.Side.{Side}
use Rattle.ckd_types.specs.declared.record.Track.{Track}
use Rattle.ckd_types.specs.Volume.{empty_volume}
use Rattle.loss_model.specs.declared.Loss.{Loss}
use Rattle.loss_model.specs.declared.Loss.TheVariants as losses
use Rattle.plain_defs.specs.History.{OpenEntry}
use Rattle.plain_defs.specs.Journal.{Plans}
use Rattle.device_defs.specs.Command.{command}
use Rattle.device_defs.specs.Contents.{by_plain}
use Rattle.device_defs.specs.Cutting.{power, reset}
use Rattle.device_defs.specs.Events.{background, lose, second}
use Rattle.device_defs.specs.Marks.{MarksDevice}
use Rattle.device_defs.specs.Orders as orders
use Rattle.device_defs.specs.Peek.{peek}
use Rattle.device_defs.specs.Start.{start, start_fault}
use Rattle.device_defs.specs.Store.{HalfWrite, tracks_of}
use Rattle.device_laws.specs.NewDevice.{device_on}
use Rattle.subsystem_defs.specs.Happening.{is_lent_to}
use Rattle.subsystem_defs.specs.Refusals.{pair_fault, replace_fault, suspend_fault, unpair_fault}
use Rattle.subsystem_laws.specs.Came.{CameTo}
use Rattle.subsystem_laws.specs.Planning.{with_planned}

-- a device that is lent has no side to lose
abbrev pub HasLost : MarksDevice → Loss → Type 0
HasLost d losses.Cache = Unit {0}
HasLost d losses.Store = Unit {0}
HasLost d (losses.Side side) = is_some d.store.lent ≡ false

-- from one on a volume that held these tracks first, where it has so many cylinders
pub data CameAboutOn (first : ℕ → List Track) : MarksDevice → Type 0 where
  opened : (number : ℕ) (on : Geometry) (n : ℕ) (plans : Plans) → 1 ≤ n → length (first n) ≡ n * 15 →
      CameAboutOn first (device_on number on n (first n) plans)
  started : {d : MarksDevice} → CameAboutOn first d → (path : ℕ) → 1 ≤ path → path ≤ 4 → start_fault d path ≡ None → CameAboutOn first (start d path)
  commanded : {d : MarksDevice} → CameAboutOn first d → (o : OpenEntry) → d.history.running ≡ Some o → d.store.half ≡ None →
      (t : CameTo (command by_plain d)) → CameAboutOn first t.state
  seconded : {d : MarksDevice} → CameAboutOn first d → (h : HalfWrite (Unit {0})) → d.store.half ≡ Some h → (t : CameTo (second by_plain d)) → CameAboutOn first t.state
  worked : {d : MarksDevice} → CameAboutOn first d → d.store.half ≡ None → (t : CameTo (background by_plain d)) → CameAboutOn first t.state
  looked : {d : MarksDevice} → CameAboutOn first d → is_some d.store.lent ≡ false → (track : ℕ) → track < tracks_of d.store →
      (t : CameTo (peek by_plain d track)) → CameAboutOn first t.state
  cut : {d : MarksDevice} → CameAboutOn first d → (path : ℕ) → (t : CameTo (reset by_plain d path)) → CameAboutOn first t.state
  lost : {d : MarksDevice} → CameAboutOn first d → (loss : Loss) → HasLost d loss → (t : CameTo (lose by_plain d loss)) → CameAboutOn first t.state
  lost_power : {d : MarksDevice} → CameAboutOn first d → (t : CameTo (power by_plain d)) → CameAboutOn first t.state
  held : {d : MarksDevice} → CameAboutOn first d → suspend_fault d ≡ None → CameAboutOn first (orders.hold_side d)
  resumed : {d : MarksDevice} → CameAboutOn first d → (is_some d.store.lent ≡ true → d.store.paired ≡ true) → CameAboutOn first (orders.resume d)
  replaced : {d : MarksDevice} → CameAboutOn first d → (side : Side) → replace_fault d side ≡ None → CameAboutOn first (orders.replace d side)
  lent : {x d : MarksDevice} → CameAboutOn first x → CameAboutOn first d → pair_fault x d ≡ None → (t : CameTo (orders.lend by_plain d x.store.device)) → CameAboutOn first t.state
  joined : {d : MarksDevice} → CameAboutOn first d → d.store.paired ≡ false → is_some d.store.lent ≡ false → CameAboutOn first (orders.join d)
  parted : {d : MarksDevice} → CameAboutOn first d → unpair_fault d ≡ None → CameAboutOn first (orders.split d)
  restored : {d : MarksDevice} → CameAboutOn first d → (to : ℕ) → is_lent_to d.store.lent to ≡ true → CameAboutOn first (orders.restore d)
  planned : {d : MarksDevice} → CameAboutOn first d → (path : ℕ) (program : List Ccw) → CameAboutOn first (with_planned d path program)

-- from one on an empty volume
abbrev pub CameAbout : MarksDevice → Type 0
CameAbout d = CameAboutOn empty_volume d
