-- What is opened stands as a run has it.
use Rattle.std.proofs.Common.{
  ◌≡◌,
  ◌<◌,
  ◌≤◌,
  ◌+◌,
  ◌∙◌,
  ◌++◌,
  ◌∷◌,
  [],
  length,
  map,
  take,
  ℕ,
  true,
  false,
  List,
  Option,
  Some,
  None,
  refl,
  sym,
  ap,
  subst,
  arith,
}
use Rattle.std.specs.Prelude.{option_map}
use Rattle.std.proofs.lemmas.Bool.Decides.{nat_tests}
use Rattle.std.proofs.lemmas.List.{length-take-le}
use Rattle.ckd_types.specs.declared.geometry.Geometry.{Geometry}
use Rattle.ckd_types.specs.Volume.{empty_volume}
use Rattle.plain_defs.specs.Whole.{GiveBytes}
use Rattle.deck_run.specs.Owning.{IsOwn}
use Rattle.deck_run.specs.Unused.{AreUnused, IsUnused}
use Rattle.deck_text.specs.declared.line.DeviceLine.{DeviceLine}
use Rattle.deck_text.specs.DeckLines.{DeckLines}
use Rattle.deck_text.specs.Plans.{plans_of}
use Rattle.plain_defs.specs.Journal.{Plans}
use Rattle.plain_device.proofs.Wholes.{volume_empty}
use Rattle.device_laws.specs.NewDevice.{volume_contents}
use Rattle.device_laws.proofs.NewDevices.{empty_is_contents}
use Rattle.device_outside.specs.declared.volume.Volume.{Ghosts}
use Rattle.device_outside.specs.Bay as bays
use Rattle.device_outside.specs.Bay.{spoil_all}
use Rattle.device_outside.specs.declared.bay.Spoiled.{Spoiled}
use Rattle.device_outside.specs.Both.{SideIs}
use Rattle.device_outside.specs.Disk.{Disk, disk_view, new_disk}
use Rattle.device_outside.specs.Lists as lists
use Rattle.device_outside.specs.Lists.{is_in}
use Rattle.device_outside.specs.Pool.{Pool, new_pool, counted_slots}
use Rattle.device_outside.specs.Volume.{VolumeView}
use Rattle.device_core.specs.State.{DefinedDevice, opened_device as opened_by}
use Rattle.device_core.specs.declared.device.Device.{Device}
use Rattle.subsystem_core.specs.Devices.{number_of, numbers_of}
use Rattle.subsystem_core.specs.declared.subsystem.Subsystem.{Subsystem}
use Rattle.subsystem_defs.specs.Decks.{Firsts, empty_firsts, failing_of, opened_device_on, plan_for}
use Rattle.subsystem_defs.specs.Subsystem as defs
use Rattle.subsystem_defs.specs.Subsystem.{Mounted, new_calls}
use Rattle.subsystem_laws.specs.WholeStood.{opened, Stood, IsMounted, AreMounted, no_more}
use Rattle.subsystem_laws.proofs.WholeOrders.{first_mounted}
use Rattle.subsystem_laws.proofs.WholeSlots.{one_mounted}
use Rattle.deck_run.specs.Opening.{HoldsFirst, is_open_device, numbers_in}
use Rattle.deck_run.specs.Standing.{StandsAs, all_stood, stood_of}
use Rattle.deck_run.proofs.Lines.{mapped_more}

pub at_most : (d : DeviceLine) → is_open_device d ≡ true → d.cylinders ≤ 4369
at_most d is = grind (arith, nat_tests)

pub none_spoiled : (spoiled : List Spoiled) (d : ℕ) (disk : Disk) → spoiled ≡ [] → spoil_all spoiled d disk ≡ disk
unfolding bays.spoil_all
none_spoiled spoiled d disk none = ap (λ (l : List Spoiled). spoil_all l d disk) none

-- A volume of empty tracks, of which the calls of the device's FAULT lines fail, holds first what empty volumes hold
pub empty_holds : (deck : DeckLines) (d : DeviceLine) (volume : VolumeView (List ℕ)) (reads writes : List ℕ) → is_open_device d ≡ true →
    volume ≡ disk_view (new_disk d.cylinders reads writes) → reads ≡ failing_of false d.number deck.faults → writes ≡ failing_of true d.number deck.faults →
    HoldsFirst empty_firsts deck d volume
empty_holds deck d volume reads writes right_line volume_is reads_are writes_are =
    let right = failing_of false d.number deck.faults in
    let wrong = failing_of true d.number deck.faults in
    let view : volume ≡ disk_view (new_disk d.cylinders right wrong) =
    volume_is ∙ ap (λ (l : List ℕ). disk_view (new_disk d.cylinders l writes)) reads_are
    ∙ ap (λ (l : List ℕ). disk_view (new_disk d.cylinders right l)) writes_are in
    record {
      fits = volume_empty d.geometry d.cylinders (at_most d right_line);
      tells = subst (λ (v : VolumeView (List ℕ)). SideIs v (volume_contents (empty_volume d.cylinders)) (new_calls (plan_for deck.faults d.number))) (sym view)
          (record { contents = ap (λ (l : List (List ℕ)). Some l) (empty_is_contents d.cylinders); reads = refl; writes = refl; plan = refl });
    }

-- A device on what its volume holds first
pub device_stands : (firsts : Firsts) (deck : DeckLines) (d : DeviceLine) (x : DefinedDevice) (volume : VolumeView (List ℕ)) (plans : Plans) →
    HoldsFirst firsts deck d volume → x ≡ opened_by d.number d.geometry d.cylinders plans → plans ≡ plans_of deck.programs d.number →
    IsMounted [] (record { device = x; a = Some volume; b = None }) (opened_device_on firsts deck d)
device_stands firsts deck d x volume plans holds is plans_are =
    let planned = plans_of deck.programs d.number in
    let device : x ≡ opened d.number d.geometry d.cylinders planned =
    is ∙ ap (λ (l : Plans). opened_by d.number d.geometry d.cylinders l) plans_are in
    subst (λ (y : DefinedDevice). IsMounted [] (record { device = y; a = Some volume; b = None }) (opened_device_on firsts deck d)) (sym device)
    (first_mounted d.number d.geometry d.cylinders (firsts d.number d.cylinders) planned (plan_for deck.faults d.number) volume holds.fits holds.tells)

-- what its sides tell
pub stood_stands : {V : Type 0} {m : Mounted} (view : V → VolumeView (List ℕ)) (x : DefinedDevice) (a b : Option V) (v : V) → a ≡ Some v → b ≡ None →
    IsMounted [] (record { device = x; a = Some (view v); b = None }) m →
    IsMounted [] (record { device = x; a = option_map view a; b = option_map view b }) m
stood_stands {V} {m = m} view x a b v is none stands =
    subst (λ (o : Option V). IsMounted [] (record { device = x; a = option_map view o; b = option_map view b }) m) (sym is)
    (subst (λ (o : Option V). IsMounted [] (record { device = x; a = Some (view v); b = option_map view o }) m) (sym none) stands)

new_counted : (frames slots : ℕ) → new_pool frames slots ≡ counted_slots (new_pool frames slots)
new_counted frames slots = refl

none_in : (k : ℕ) → is_in k [] ≡ true → ⊥
unfolding lists.is_in
none_in k is = absurd (cc)

pub none_mounted : (p : Pool) → AreMounted p [] []
none_mounted p = no_more (λ k is. absurd (none_in k is))

-- How many volumes were made

pub none_made : (ds : List DeviceLine) (made : ℕ) → made ≡ made + length (take 0 ds)
none_made ds made = omega arith

one_longer : (ds : List DeviceLine) (i : ℕ) → i < length ds → length (take (i + 1) ds) ≡ length (take i ds) + 1
one_longer ds i inside =
    length-take-le (i + 1) ds (omega (arith, inside)) ∙ ap (λ (n : ℕ). n + 1) (sym (length-take-le i ds (omega (arith, inside))))

made_by : (made now behind n m : ℕ) → now ≡ made + n → behind ≡ now + 1 → m ≡ n + 1 → behind ≡ made + m
made_by made now behind n m is more one = omega (arith, is, more, one)

pub made_more : (ds : List DeviceLine) (i made now behind : ℕ) → i < length ds → now ≡ made + length (take i ds) → behind ≡ now + 1 →
    behind ≡ made + length (take (i + 1) ds)
made_more ds i made now behind inside is more =
    made_by made now behind (length (take i ds)) (length (take (i + 1) ds)) is more (one_longer ds i inside)

module _ {V : Type 0} {G : Ghosts V} where
  pub opened_stands : (s : Subsystem V G) (run : defs.Subsystem) (frames slots : ℕ) → s.pool.pool ≡ new_pool frames slots →
      run.pool ≡ new_pool frames slots → ((p : Pool) → AreMounted p (all_stood s.devices.items) run.mounted) → StandsAs s run
  opened_stands s run frames slots pool other mounted = record {
    pool = other ∙ new_counted frames slots ∙ ap counted_slots (sym pool);
    mounted = mounted s.pool.pool;
  }

  pub numbers_more : (xs : List (Device V G)) (x : Device V G) (ds : List DeviceLine) (d : DeviceLine) → numbers_of xs ≡ numbers_in ds →
      number_of x ≡ d.number → numbers_of (xs ++ x ∷ []) ≡ numbers_in (ds ++ d ∷ [])
  numbers_more xs x ds d are is =
      mapped_more number_of xs x ∙ ap (λ (l : List ℕ). l ++ number_of x ∷ []) are ∙ ap (λ (n : ℕ). numbers_in ds ++ n ∷ []) is
      ∙ sym (mapped_more (λ (e : DeviceLine). e.number) ds d)

  pub unused_more : (xs : List (Device V G)) (x : Device V G) → AreUnused xs → IsUnused x → AreUnused (xs ++ x ∷ [])
  unused_more [] x all is = (is, tt)
  unused_more (y ∷ ys) x all is = (all.0, unused_more ys x all.1 is)

  pub stands_more : (firsts : Firsts) (p : Pool) (deck : DeckLines) (xs : List (Device V G)) (x : Device V G) (ds : List DeviceLine) (d : DeviceLine) →
      AreMounted p (all_stood xs) (map (opened_device_on firsts deck) ds) → IsMounted [] (stood_of x) (opened_device_on firsts deck d) →
      AreMounted p (all_stood (xs ++ x ∷ [])) (map (opened_device_on firsts deck) (ds ++ d ∷ []))
  stands_more firsts p deck xs x ds d are is =
      subst (λ (l : List Stood). AreMounted p l (map (opened_device_on firsts deck) (ds ++ d ∷ []))) (sym (mapped_more stood_of xs x))
      (subst (λ (l : List defs.Mounted). AreMounted p (all_stood xs ++ stood_of x ∷ []) l) (sym (mapped_more (opened_device_on firsts deck) ds d))
      (one_mounted are is))

pub opened_own : (x : DefinedDevice) (n : ℕ) (g : Geometry) (cylinders : ℕ) (plans : Plans) → x ≡ opened_by n g cylinders plans → GiveBytes plans → IsOwn x
opened_own x n g cylinders plans is gives = subst IsOwn (sym is) (record { plans = gives; chain = tt })
