-- A device beside the plain device of its history, over volumes that tell what they hold and a port that tells nothing.
use Rattle.std.specs.Prelude.{◌≡◌, ◌≤◌, ℕ, false, true, List, Option, None, Some}
use Rattle.ckd_chain.specs.Facts.{IsChain}
use Rattle.ckd_chain.specs.State.{ChainState}
use Rattle.ckd_types.specs.declared.record.Track.{Track}
use Rattle.ckd_types.specs.Volume.{empty_volume}
use Rattle.loss_model.specs.declared.Loss.{Loss}
use Rattle.plain_defs.specs.History.{OpenEntry}
use Rattle.plain_defs.specs.Whole.{GiveBytes}
use Rattle.track_image.specs.Image.{Image}
use Rattle.device_outside.specs.declared.keep.NoKeep.{NoKeep}
use Rattle.device_outside.specs.After.{Holdings, Tells}
use Rattle.device_outside.specs.Keeper.{reply}
use Rattle.device_outside.specs.Outside.{Outside, Ran}
use Rattle.device_defs.specs.declared.answers.Did.{Did}
use Rattle.device_defs.specs.declared.answers.SecondEnd.{SecondEnd}
use Rattle.device_defs.specs.declared.answers.Stepped.{Stepped}
use Rattle.device_defs.specs.Command.{command}
use Rattle.device_defs.specs.Contents.{contents}
use Rattle.device_defs.specs.Events.{second, background, lose}
use Rattle.device_defs.specs.Start.{start, start_fault}
use Rattle.device_defs.specs.Store.{HalfWrite}
use Rattle.device_laws.specs.Agrees.{Held}
use Rattle.device_laws.specs.InOrder.{IsInOrder}
use Rattle.device_laws.specs.SoundOn.{begun_as}
use Rattle.device_laws.specs.Whole.{WholeDevice, marks_device}
use Rattle.device_laws.proofs.PlainTurns.{Follows}
use Rattle.subsystem_laws.specs.CameAbout.{CameAboutOn}
use Rattle.subsystem_laws.specs.Excused.{has_fresh}

-- the volumes tell these holdings, and of slots nothing is told
pub record Untold {R K : Type 0} (w : Outside R K) (h : Holdings R) : Type 0 where
  pub a : Tells w.a h.a
  pub b : Tells w.b h.b
  pub slots : h.slots ≡ None

-- The device is in order with a plain volume and one without data of cache fast write, its history is a plain device's whose volume that is, and the
-- program that runs goes on as there. That one began with these tracks, where it has so many cylinders
pub record IsBesideOn (first : ℕ → List Track) {K : Type 0} (d : WholeDevice) (u : Outside (List ℕ) K) : Type 0 where
  pub plain : List Track
  pub firm : List Track
  pub held : Held
  pub untold : Untold u held
  pub order : IsInOrder plain firm d.store held
  pub follows : Follows d.store.device (begun_as first d) (marks_device plain firm d)
  pub gives : GiveBytes d.plans

-- It is so beside the plain device of its history, and over marks it came about from a new device by its events and by orders that weren't refused, and
-- never got an empty volume on the way
pub record StandsOn (first : ℕ → List Track) {K : Type 0} (d : WholeDevice) (u : Outside (List ℕ) K) : Type 0 where
  pub beside : IsBesideOn first d u
  pub about : CameAboutOn first (marks_device beside.plain beside.firm d)
  pub never : has_fresh d.history.items ≡ false

-- so on an empty volume
abbrev pub IsBeside : {K : Type 0} → WholeDevice → Outside (List ℕ) K → Type 0
IsBeside d u = IsBesideOn empty_volume d u

abbrev pub Stands : {K : Type 0} → WholeDevice → Outside (List ℕ) K → Type 0
Stands d u = StandsOn empty_volume d u

-- what is so of a device and its outside goes on to be so behind each event, whatever the port answers and whichever calls fail, where memory was had
pub record IsKept (So : WholeDevice → Outside (List ℕ) NoKeep → Type 0) : Type 0 where
  pub starts : (d : WholeDevice) (u : Outside (List ℕ) NoKeep) (path : ℕ) → So d u → 1 ≤ path → path ≤ 4 → start_fault d path ≡ None → So (start d path) u
  pub command : (d e : WholeDevice) (u z : Outside (List ℕ) NoKeep) (a : Option Stepped) (o : OpenEntry) → So d u → d.store.half ≡ None →
      d.history.running ≡ Some o → ((chain : ChainState) → d.chain ≡ Some chain → IsChain chain) →
      Ran (λ ok. ok ≡ true) (λ _ m r _. r ≡ reply m) (command contents d) u e a z → So e z
  pub second : (d e : WholeDevice) (u z : Outside (List ℕ) NoKeep) (a : SecondEnd) (h : HalfWrite Image) → So d u → d.store.half ≡ Some h →
      Ran (λ ok. ok ≡ true) (λ _ m r _. r ≡ reply m) (second contents d) u e a z → So e z
  pub background : (d e : WholeDevice) (u z : Outside (List ℕ) NoKeep) (a : Option Did) → So d u → d.store.half ≡ None →
      Ran (λ ok. ok ≡ true) (λ _ m r _. r ≡ reply m) (background contents d) u e a z → So e z
  pub lose : (d e : WholeDevice) (u z : Outside (List ℕ) NoKeep) (a : Unit {0}) (loss : Loss) → So d u →
      Ran (λ ok. ok ≡ true) (λ _ m r _. r ≡ reply m) (lose contents d loss) u e a z → So e z
