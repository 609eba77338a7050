-- An order for which a volume is handed in ends as it does in a run.
use Rattle.std.proofs.Common.{◌≡◌, ◌∙◌, ◌*◌, ℕ, Bool, true, [], ◌∷◌, Option, Some, None, is_some, refl, sym, ap, subst}
use Rattle.std.specs.Prelude.{not, option_map}
use Rattle.ckd_types.specs.declared.paths.Side.{Side}
use Rattle.ckd_types.specs.declared.paths.Side.TheVariants.{A, B}
use Rattle.track_table.specs.Tracks.{count_below}
use Rattle.plain_defs.specs.History.{History, OpenEntry}
use Rattle.device_outside.specs.declared.volume.Volume.{Ghosts}
use Rattle.device_defs.specs.Store.{HalfWrite, SideMarks, stale_at}
use Rattle.device_core.specs.declared.device.Device.{Device}
use Rattle.device_core.specs.State.{device_of}
use Rattle.subsystem_core.specs.declared.end.EventEnd.{EventEnd}
use Rattle.subsystem_core.specs.declared.subsystem.Subsystem.{Subsystem}
use Rattle.subsystem_core.specs.Comes.{Replaced, ReplacedBy, Unpaired, UnpairedBy}
use Rattle.subsystem_core.specs.Devices.{device_at}
use Rattle.subsystem_core.specs.Ends.{Answers}
use Rattle.subsystem_defs.specs.declared.end.EventEnd as ends
use Rattle.subsystem_defs.specs.declared.end.EventEnd.TheVariants as answers
use Rattle.subsystem_defs.specs.declared.end.OrderFault.{OrderFault}
use Rattle.subsystem_defs.specs.declared.end.OrderFault.TheVariants as faults
use Rattle.subsystem_defs.specs.Happening as H
use Rattle.subsystem_defs.specs.Happening.{replaced, replaced_at, replaced_by, unpaired, unpaired_at, unpaired_by}
use Rattle.subsystem_defs.specs.Refusals as R
use Rattle.subsystem_defs.specs.Refusals.{active_by, first_cause, lent_by, not_level_by, replace_fault, unpair_fault, where_so}
use Rattle.subsystem_defs.specs.Subsystem as runs
use Rattle.subsystem_defs.specs.Subsystem.{Mounted, mounted_in, unfailing}
use Rattle.subsystem_laws.specs.WholeStood.{Stood}
use Rattle.deck_run.specs.Standing.{StandsAs, all_stood, stood_of}
use Rattle.deck_run.proofs.Telling.{IsKnown, all_known, known_at}

half_is : {X Y : Type 0} (f : X → Y) (o : Option X) → is_some (option_map f o) ≡ is_some o
half_is f None = refl
half_is f (Some x) = refl

half_known : (x : Stood) (m : Mounted) → IsKnown x m → is_some m.device.store.half ≡ is_some x.device.store.half
half_known x m is = ap (λ (o : Option (HalfWrite (Unit {0}))). is_some o) is.half ∙ half_is _ x.device.store.half

-- A run refuses the order where the code does

abbrev replace_cause : Option ℕ → Bool → Bool → Bool → Option OrderFault
replace_cause lent there up half =
    first_cause (lent_by lent ∷ where_so (not there) faults.NoSide ∷ where_so up faults.Up ∷ where_so half faults.Half ∷ [])

replace_known : (x : Stood) (m : Mounted) (side : Side) → IsKnown x m → replace_fault m.device side ≡ replace_fault x.device side
unfolding R.replace_fault
replace_known x m A is =
    let s = m.device.store in
    let z = x.device.store in
    ap (λ (o : Option ℕ). replace_cause o true s.a.up (is_some s.half)) is.lent
    ∙ ap (λ (b : Bool). replace_cause z.lent true b (is_some s.half)) is.up_a ∙ ap (replace_cause z.lent true z.a.up) (half_known x m is)
replace_known x m B is =
    let s = m.device.store in
    let z = x.device.store in
    ap (λ (o : Option ℕ). replace_cause o s.paired s.b.up (is_some s.half)) is.lent
    ∙ ap (λ (b : Bool). replace_cause z.lent b s.b.up (is_some s.half)) is.paired
    ∙ ap (λ (b : Bool). replace_cause z.lent z.paired b (is_some s.half)) is.up_b ∙ ap (replace_cause z.lent z.paired z.b.up) (half_known x m is)

abbrev unpair_cause : Bool → Option OpenEntry → Bool → Bool → ℕ → SideMarks → Option OrderFault
unpair_cause paired running half up cylinders a =
    first_cause (where_so (not paired) faults.Unpaired ∷ active_by running ∷ where_so half faults.Half ∷ where_so (not up) faults.Down
    ∷ not_level_by (count_below (cylinders * 15) (stale_at a)) ∷ [])

unpair_known : (x : Stood) (m : Mounted) → IsKnown x m → unpair_fault m.device ≡ unpair_fault x.device
unfolding R.unpair_fault
unpair_known x m is =
    let s = m.device.store in
    let z = x.device.store in
    ap (λ (b : Bool). unpair_cause b m.device.history.running (is_some s.half) s.a.up s.cylinders s.a) is.paired
    ∙ ap (λ (h : History). unpair_cause z.paired h.running (is_some s.half) s.a.up s.cylinders s.a) is.history
    ∙ ap (λ (b : Bool). unpair_cause z.paired x.device.history.running b s.a.up s.cylinders s.a) (half_known x m is)
    ∙ ap (λ (n : ℕ). unpair_cause z.paired x.device.history.running (is_some z.half) s.a.up n s.a) is.cylinders
    ∙ ap (λ (a : SideMarks). unpair_cause z.paired x.device.history.running (is_some z.half) a.up z.cylinders a) is.side_a

-- It ends by its refusal

abbrev end_by : Option OrderFault → ends.EventEnd
end_by (Some f) = answers.Refused f
end_by None = answers.Done

replaced_ends_by : (s : runs.Subsystem) (d : ℕ) (side : Side) (m : Mounted) (f : Option OrderFault) → (replaced_by s d side unfailing m f).end ≡ end_by f
replaced_ends_by s d side m (Some f) = refl
replaced_ends_by s d side m None = refl

replaced_ends : (s : runs.Subsystem) (d : ℕ) (side : Side) (m : Mounted) → mounted_in s.mounted d ≡ Some m →
    (replaced s d side unfailing).end ≡ end_by (replace_fault m.device side)
unfolding H.replaced
replaced_ends s d side m there =
    ap (λ (o : Option Mounted). (replaced_at s d side unfailing o).end) there ∙ replaced_ends_by s d side m (replace_fault m.device side)

unpaired_ends_by : (s : runs.Subsystem) (n : ℕ) (m : Mounted) (f : Option OrderFault) → (unpaired_by s n unfailing m f).end ≡ end_by f
unpaired_ends_by s n m (Some f) = refl
unpaired_ends_by s n m None = refl

unpaired_ends : (s : runs.Subsystem) (n : ℕ) (m : Mounted) → mounted_in s.mounted n ≡ Some m → (unpaired s n unfailing).end ≡ end_by (unpair_fault m.device)
unfolding H.unpaired
unpaired_ends s n m there =
    ap (λ (o : Option Mounted). (unpaired_at s n unfailing o).end) there ∙ unpaired_ends_by s n m (unpair_fault m.device)

module _ {V : Type 0} {G : Ghosts V} (d : ℕ) (volume : V) (x : Device V G) (old new : Subsystem V G) (a : EventEnd)
    (at : device_at old.devices.items d ≡ Some x) (run : runs.Subsystem) (all : StandsAs old run) where
  replaced_answers : (side : Side) (f : Option OrderFault) → ReplacedBy d side volume f old a new → Answers (Some a) (end_by f)
  replaced_answers side (Some f) came = came.0
  replaced_answers side None came = came.0

  pub replaced_ended : (side : Side) → Replaced d side volume (Some x) old a new → Answers (Some a) (replaced run d side unfailing).end
  replaced_ended side came =
      let m = known_at old.devices.items run.mounted d x (all_known (all_stood old.devices.items) run.mounted all.mounted) at in
      subst (λ (end : ends.EventEnd). Answers (Some a) end)
      (sym (replaced_ends run d side m.mounted m.there ∙ ap end_by (replace_known (stood_of x) m.mounted side m.is)))
      (replaced_answers side (replace_fault (device_of x) side) came)

  unpaired_answers : (f : Option OrderFault) → UnpairedBy d volume f old a new → Answers (Some a) (end_by f)
  unpaired_answers (Some f) came = came.0
  unpaired_answers None came = came.0

  pub unpaired_ended : Unpaired d volume (Some x) old a new → Answers (Some a) (unpaired run d unfailing).end
  unpaired_ended came =
      let m = known_at old.devices.items run.mounted d x (all_known (all_stood old.devices.items) run.mounted all.mounted) at in
      subst (λ (end : ends.EventEnd). Answers (Some a) end)
      (sym (unpaired_ends run d m.mounted m.there ∙ ap end_by (unpair_known (stood_of x) m.mounted m.is)))
      (unpaired_answers (unpair_fault (device_of x)) came)
