-- A copy that begins over the run of the first lines of a deck, or is refused there.
use Rattle.std.proofs.Common.{◌≡◌, ◌≤◌, ◌∙◌, ◌⊎◌, inl, inr, ℕ, List, drop, map, Some, None, Ok, Err, sym, ap, subst}
use Rattle.std.specs.Prelude.{IfOk}
use Rattle.ckd_types.specs.declared.geometry.Geometry.{Geometry}
use Rattle.deck_plan.specs.declared.event.EventLine.{EventLine}
use Rattle.deck_text.specs.DeckLines.{DeckLines}
use Rattle.device_outside.specs.declared.volume.Volume.{Ghosts}
use Rattle.device_core.specs.declared.device.Device.{Device}
use Rattle.subsystem_core.specs.declared.subsystem.Subsystem.{Subsystem}
use Rattle.subsystem_core.specs.Devices.{device_at}
use Rattle.subsystem_defs.specs.Decks.{empty_firsts}
use Rattle.subsystem_defs.specs.Lines.{asked_by}
use Rattle.subsystem_defs.specs.Subsystem as runs
use Rattle.subsystem_defs.specs.Subsystem.{Mounted, mounted_in}
use Rattle.subsystem_laws.proofs.PlainRuns.{empty_whole}
use Rattle.subsystem_laws.proofs.ReadDecks.{read_served, read_small}
use Rattle.deck_run.specs.Fronts.{front_of}
use Rattle.deck_run.specs.Opening.{WasRead}
use Rattle.deck_run.specs.Standing.{StandsAs}
use Rattle.volume_file.specs.File.{ImageVolume, IsWhole}
use Rattle.volume_save.specs.Saving.{volume_with}
use Rattle.volume_save.proofs.SmallRuns.{small_in_front}
use Rattle.volume_save.proofs.Stepping.{stood_run}
use Rattle.point_copy.specs.declared.given.BeginFault.{BeginFault}
use Rattle.point_copy.specs.declared.given.BeginFault.TheVariants.{NoMemory}
use Rattle.point_copy.specs.declared.session.Session.{Session}
use Rattle.point_copy.specs.Copying.{begin_fault}
use Rattle.point_copy.specs.CopyRun.{IsPlainVolumeAt, copied, copy_run}
use Rattle.point_copy.specs.Sessions.{IsBegunOver}
use Rattle.point_copy.proofs.Fronts.{front_is_plain}
use Rattle.copy_tool.specs.Copying as C
use Rattle.copy_tool.specs.Copying.{Made, copying, copying_at, not_begun, unless_refused, volume_of, Gives}
use Rattle.copy_tool.specs.Standing.{IsBegunOf, IsMade}
use Rattle.copy_tool.proofs.Made.{gives_err, some_same}

pub record IsThere (run : runs.Subsystem) (d : ℕ) : Type 0 where
  pub mounted : Mounted
  pub there : mounted_in run.mounted d ≡ Some mounted

module _ {V : Type 0} {G : Ghosts V} where
  -- of the device of the code
  pub begun_of : (sub : Subsystem V G) (run : runs.Subsystem) (d : ℕ) (x : Device V G) (s : Session V G) (g : Geometry) (n : ℕ) → StandsAs sub run →
      device_at sub.devices.items d ≡ Some x → g ≡ x.store.geometry → n ≡ x.store.cylinders → IsBegunOver run d s → IsBegunOf run d g n s
  begun_of sub run d x s g n stands at geometry cylinders b =
      let stood = stood_run sub run d x stands at in
      let same : stood.mounted ≡ b.mounted = some_same (sym stood.there ∙ b.there) in
      record {
        begun = b;
        geometry = geometry ∙ sym stood.geometry ∙ ap (λ (m : Mounted). m.device.store.geometry) same;
        cylinders_are = cylinders ∙ sym stood.cylinders ∙ ap (λ (m : Mounted). m.device.store.cylinders) same;
      }

  -- of a deck that was read it is small
  pub small_device : (sub : Subsystem V G) (deck : DeckLines) (n d : ℕ) (x : Device V G) (k : ℕ) → WasRead deck → StandsAs sub (front_of deck n).behind →
      device_at sub.devices.items d ≡ Some x → k ≡ x.store.cylinders → k ≤ 64
  small_device sub deck n d x k read stands at is =
      let stood = stood_run sub (front_of deck n).behind d x stands at in
      subst (λ (m : ℕ). m ≤ 64) (stood.cylinders ∙ sym is)
      (small_in_front empty_firsts deck n d stood.mounted (read_small read.0 deck read.1) stood.there)

  pub is_there : (sub : Subsystem V G) (run : runs.Subsystem) (d : ℕ) (x : Device V G) → StandsAs sub run → device_at sub.devices.items d ≡ Some x →
      IsThere run d
  is_there sub run d x stands at = let stood = stood_run sub run d x stands at in record { mounted = stood.mounted; there = stood.there }

module _ (deck : DeckLines) (d n : ℕ) (m : Mounted) (there : mounted_in (front_of deck n).behind.mounted d ≡ Some m) where
  copying_begun : begin_fault m.device.store ≡ None → copying deck d n ≡ volume_of m (copy_run deck n d)
  unfolding C.copying
  copying_begun free = ap (copying_at deck d n) there ∙ ap (λ o. unless_refused o (volume_of m (copy_run deck n d))) free

  pub begun_found : (rest : List EventLine) (r : Made) → begin_fault m.device.store ≡ None → rest ≡ drop n deck.events →
      Gives r (volume_of m (copied (front_of deck n).behind d (map asked_by rest))) → Gives r (copying deck d n)
  begun_found rest r free is found =
      subst (Gives r) (ap (λ (l : List EventLine). volume_of m (copied (front_of deck n).behind d (map asked_by l))) is ∙ sym (copying_begun free)) found

  copying_refused : (fault : BeginFault) → begin_fault m.device.store ≡ Some fault → copying deck d n ≡ Err (not_begun fault)
  unfolding C.copying
  copying_refused fault is = ap (copying_at deck d n) there ∙ ap (λ o. unless_refused o (volume_of m (copy_run deck n d))) is

  pub refused_found : (fault : BeginFault) →
      (begin_fault m.device.store ≡ Some fault) ⊎ ((begin_fault m.device.store ≡ None) × (fault ≡ NoMemory)) →
      Gives {A = ImageVolume} (Err (not_begun fault)) (copying deck d n)
  refused_found fault why = elim why [
    | inl is ↦ gives_err (not_begun fault) (copying deck d n) (copying_refused fault is)
    | inr lacks ↦ subst (λ (f : BeginFault). Gives {A = ImageVolume} (Err (not_begun f)) (copying deck d n)) (sym lacks.1) tt
  ]

  same_volume : (v : ImageVolume) → IsMade m v → volume_with m.device.store.geometry m.device.store.cylinders v.images ≡ v
  same_volume v made =
      sym (ap (λ (g : Geometry). record v { geometry = g }) made.geometry
      ∙ ap (λ (k : ℕ). record v { geometry = m.device.store.geometry; cylinders = k }) made.cylinders)

  plain_at : (v : ImageVolume) → WasRead deck → IsMade m v → IsPlainVolumeAt deck n d v × IsWhole v
  plain_at v read made = (
    subst (IsPlainVolumeAt deck n d) (same_volume v made)
        (front_is_plain empty_firsts empty_whole deck n d m v.images (read_served read.0 deck read.1) there made.plain made.images),
    made.whole,
  )

  pub plain_ok : (r : Made) → WasRead deck → IfOk r (IsMade m) → IfOk r (λ v. IsPlainVolumeAt deck n d v × IsWhole v)
  plain_ok (Ok v) read made = plain_at v read made
  plain_ok (Err why) read made = tt
