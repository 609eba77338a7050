-- A new volume in place of a failed side's: what it comes to in a run, and what is told of it.
use Rattle.std.proofs.Common.{◌≡◌, ◌∙◌, ◌*◌, ℕ, Bool, true, List, [], ◌∷◌, Option, Some, None, is_some, length, refl, sym, ap, subst}
use Rattle.std.specs.Prelude.{not, option_map}
use Rattle.ckd_types.specs.declared.paths.Side.{Side}
use Rattle.ckd_types.specs.declared.paths.Side.TheVariants.{A, B}
use Rattle.device_outside.specs.declared.volume.Volume.{Ghosts}
use Rattle.device_outside.specs.Both.{SideIs}
use Rattle.device_outside.specs.Disk.{disk_view, empty_contents, new_disk}
use Rattle.device_outside.specs.Pool as pools
use Rattle.device_outside.specs.Volume.{VolumeView}
use Rattle.device_store.specs.State.{on_a, on_b}
use Rattle.device_defs.specs.Orders.{replace}
use Rattle.device_defs.specs.Store.{HalfWrite}
use Rattle.device_core.specs.declared.device.Device.{Device}
use Rattle.device_core.specs.State.{DefinedDevice, device_of}
use Rattle.report_text.specs.declared.order.Order.TheVariants as orders
use Rattle.subsystem_core.specs.declared.end.EventEnd.{EventEnd}
use Rattle.subsystem_core.specs.declared.subsystem.Subsystem.{Subsystem}
use Rattle.subsystem_core.specs.Comes.{IsReplaced, Replaced, ReplacedBy}
use Rattle.subsystem_core.specs.Devices.{device_at, put_at}
use Rattle.subsystem_defs.specs.declared.end.EventEnd as ends
use Rattle.subsystem_defs.specs.declared.end.EventEnd.TheVariants as answers
use Rattle.subsystem_defs.specs.declared.end.OrderFault.{OrderFault}
use Rattle.subsystem_defs.specs.declared.end.OrderFault.TheVariants.{Half, NoSide, Up}
use Rattle.subsystem_defs.specs.Happening as H
use Rattle.subsystem_defs.specs.Happening.{EventHappened, quietly, replaced, replaced_at, replaced_by}
use Rattle.subsystem_defs.specs.Lines.{Replace, logged}
use Rattle.subsystem_defs.specs.Refusals as R
use Rattle.subsystem_defs.specs.Refusals.{first_cause, lent_by, replace_fault, where_so}
use Rattle.subsystem_defs.specs.Subsystem as runs
use Rattle.subsystem_defs.specs.Subsystem.{Mounted, mounted_in, unfailing}
use Rattle.subsystem_laws.specs.WholeComes.{subsystem_of, IsWhatCame}
use Rattle.subsystem_laws.specs.WholeStood as laws
use Rattle.subsystem_laws.specs.WholeStood.{Stood, with_volume}
use Rattle.subsystem_defs.proofs.Unrefused.{first_none, is_not, where_none}
use Rattle.subsystem_laws.proofs.WholeOrders.{replaced_so}
use Rattle.deck_run.specs.Ordered.{IsOrdered}
use Rattle.deck_run.specs.Owning.{AllOwn, AreOwn, ChainsStand, IsOwn}
use Rattle.deck_run.specs.Sides.{AreAccounted, all_sides, sides_of}
use Rattle.deck_run.specs.Standing.{StandsAs, all_stood, stood_of}
use Rattle.deck_run.specs.Sweeping.{order_end}
use Rattle.deck_run.proofs.Accounted.{put_sides, same_sides}
use Rattle.deck_run.proofs.Found.{chains_are, own_at, own_put, put_same, put_stood, stood_found}
use Rattle.deck_run.proofs.Ordered.{IsQuiet, ordered_tells, stands_by}
use Rattle.deck_run.proofs.Sweeping.{blank, order_seen}
use Rattle.deck_run.proofs.Telling.{AreKnown, IsKnown, all_known, known_at, put_then, same_pasts}

some_same : {X : Type 0} {x y : X} → Some x ≡ Some y → x ≡ y
some_same e = cc

-- A run refuses the order where the code does

half_is : {X Y : Type 0} (f : X → Y) (o : Option X) → is_some (option_map f o) ≡ is_some o
half_is f None = refl
half_is f (Some x) = refl

fault_known : (x : Stood) (m : Mounted) (side : Side) → IsKnown x m → replace_fault m.device side ≡ replace_fault x.device side
unfolding R.replace_fault
fault_known x m A is =
    ap (λ (o : Option ℕ). first_cause (lent_by o ∷ where_so (not true) NoSide ∷ where_so m.device.store.a.up Up ∷
    where_so (is_some m.device.store.half) Half ∷ []))
    is.lent
    ∙ ap (λ (b : Bool). first_cause (lent_by x.device.store.lent ∷ where_so (not true) NoSide ∷ where_so b Up ∷
    where_so (is_some m.device.store.half) Half ∷ []))
    is.up_a
    ∙ ap (λ (b : Bool). first_cause (lent_by x.device.store.lent ∷ where_so (not true) NoSide ∷ where_so x.device.store.a.up Up ∷ where_so b Half ∷ []))
    (ap (λ (o : Option (HalfWrite (Unit {0}))). is_some o) is.half ∙ half_is _ x.device.store.half)
fault_known x m B is =
    ap (λ (o : Option ℕ). first_cause (lent_by o ∷ where_so (not m.device.store.paired) NoSide ∷ where_so m.device.store.b.up Up
    ∷ where_so (is_some m.device.store.half) Half ∷ [])) is.lent
    ∙ ap (λ (b : Bool). first_cause (lent_by x.device.store.lent ∷ where_so (not b) NoSide ∷ where_so m.device.store.b.up Up
    ∷ where_so (is_some m.device.store.half) Half ∷ [])) is.paired
    ∙ ap (λ (b : Bool). first_cause (lent_by x.device.store.lent ∷ where_so (not x.device.store.paired) NoSide ∷ where_so b Up
    ∷ where_so (is_some m.device.store.half) Half ∷ [])) is.up_b
    ∙ ap (λ (b : Bool). first_cause (lent_by x.device.store.lent ∷ where_so (not x.device.store.paired) NoSide ∷ where_so x.device.store.b.up Up
    ∷ where_so b Half ∷ [])) (ap (λ (o : Option (HalfWrite (Unit {0}))). is_some o) is.half ∙ half_is _ x.device.store.half)

-- No volume is called

quiet_by : (s : runs.Subsystem) (d : ℕ) (side : Side) (m : Mounted) (f : Option OrderFault) → IsQuiet s (replaced_by s d side unfailing m f)
quiet_by s d side m None = (refl, (refl, refl))
quiet_by s d side m (Some f) = (refl, (refl, refl))

quiet_at : (s : runs.Subsystem) (d : ℕ) (side : Side) (o : Option Mounted) → IsQuiet s (replaced_at s d side unfailing o)
quiet_at s d side None = (refl, (refl, refl))
quiet_at s d side (Some m) = quiet_by s d side m (replace_fault m.device side)

quiet_so : (s : runs.Subsystem) (d : ℕ) (side : Side) → IsQuiet s (replaced s d side unfailing)
unfolding H.replaced
quiet_so s d side = quiet_at s d side (mounted_in s.mounted d)

-- The device's chain is its own still, and the side had a volume

replace_own : (d : DefinedDevice) (side : Side) → IsOwn d → IsOwn (replace d side)
replace_own d A own = record { plans = own.plans; chain = own.chain }
replace_own d B own = record { plans = own.plans; chain = own.chain }

past_same : (d : DefinedDevice) (side : Side) → (replace d side).history ≡ d.history
past_same d A = refl
past_same d B = refl

number_same : (d : DefinedDevice) (side : Side) → (replace d side).store.device ≡ d.store.device
number_same d A = refl
number_same d B = refl

lent_same : (d : DefinedDevice) (side : Side) → (replace d side).store.lent ≡ d.store.lent
lent_same d A = refl
lent_same d B = refl

none_lent : (o : Option ℕ) → lent_by o ≡ None → o ≡ None
none_lent None e = refl
none_lent (Some to) e = absurd (cc)

free_so : (d : DefinedDevice) (side : Side) → replace_fault d side ≡ None → d.store.lent ≡ None
unfolding R.replace_fault
free_so d side e = none_lent d.store.lent (first_none (lent_by d.store.lent) _ e).0

paired_so : (d : DefinedDevice) → replace_fault d B ≡ None → d.store.paired ≡ true
unfolding R.replace_fault
paired_so d e =
    let rest = (first_none (lent_by d.store.lent) _ e).1 in
    is_not d.store.paired (where_none (not d.store.paired) NoSide (first_none (where_so (not d.store.paired) NoSide) _ rest).0)

pub new_told : (v : VolumeView (List ℕ)) (n : ℕ) → v ≡ disk_view (new_disk n [] []) → SideIs v (empty_contents (n * 15)) unfailing
new_told v n is =
    subst (λ (w : VolumeView (List ℕ)). SideIs w (empty_contents (n * 15)) unfailing) (sym is)
    (record { contents = refl; reads = refl; writes = refl; plan = refl })

there_is : {V : Type 0} (v : V) (o : Option V) (b : Bool) → o ≡ Some v → b ≡ true → is_some o ≡ b
there_is {V} v o b is e = ap (λ (x : Option V). is_some x) is ∙ sym e

module _ {V : Type 0} {G : Ghosts V} where
  replaced_sides : (side : Side) (volume : V) (x y : Device V G) → replace_fault (device_of x) side ≡ None → IsReplaced side volume x y → sides_of y
      ≡ sides_of x
  replaced_sides A volume x y free r =
      let home : is_some (on_a x.store) ≡ true = x.store.pair.home (ap (λ (o : Option ℕ). is_some o) (free_so (device_of x) A free)) in
      same_sides x y (ap (λ (d : DefinedDevice). d.store.device) r.0 ∙ number_same (device_of x) A)
      (ap (λ (d : DefinedDevice). d.store.lent) r.0 ∙ lent_same (device_of x) A) (there_is volume (on_a y.store) (is_some (on_a x.store)) r.1 home)
      (ap (λ (o : Option V). is_some o) r.2)
  replaced_sides B volume x y free r =
      same_sides x y (ap (λ (d : DefinedDevice). d.store.device) r.0 ∙ number_same (device_of x) B)
      (ap (λ (d : DefinedDevice). d.store.lent) r.0 ∙ lent_same (device_of x) B) (ap (λ (o : Option V). is_some o) r.2)
      (there_is volume (on_b y.store) (is_some (on_b x.store)) r.1 (paired_so (device_of x) free))

  module _ (d : ℕ) (side : Side) (volume : V) (x : Device V G) (old new : Subsystem V G) (a : EventEnd)
      (at : device_at old.devices.items d ≡ Some x) (own : AreOwn old.devices.items) where
    own_by : (f : Option OrderFault) → replace_fault (device_of x) side ≡ f → ReplacedBy d side volume f old a new → AreOwn new.devices.items
    own_by (Some f) free came = subst AreOwn (sym came.1.1) own
    own_by None free came =
        let ch = came.2 in
        let before : ch.before ≡ x = some_same (sym ch.stood ∙ at) in
        record {
          each = subst AllOwn (sym ch.stands) (own_put old.devices.items d ch.behind own.each
              (subst IsOwn (sym ch.is_so.0) (replace_own (device_of ch.before) side
              (subst (λ (z : Device V G). IsOwn (device_of z)) (sym before) (own_at old.devices.items d x own.each at)))));
          accounted = subst AreAccounted (sym (ap (λ (l : List (Device V G)). all_sides l) ch.stands
              ∙ put_sides old.devices.items d ch.before ch.behind
              (replaced_sides side volume ch.before ch.behind (ap (λ (z : Device V G). replace_fault (device_of z) side) before ∙ free) ch.is_so) ch.stood))
              own.accounted;
        }

    pub replaced_own : Replaced d side volume (Some x) old a new → AreOwn new.devices.items
    replaced_own came = own_by (replace_fault (device_of x) side) refl came

    view_is : (o : Option V) → o ≡ Some volume → option_map G.view o ≡ Some (G.view volume)
    view_is o is = ap (λ (p : Option V). option_map G.view p) is

    stood_by : (y : Device V G) (k : Side) → IsReplaced k volume x y → stood_of y ≡ with_volume (stood_of x) k (G.view volume) (replace (device_of x) k)
    stood_by y A r =
        ap (λ (e : DefinedDevice). record { device = e; a = option_map G.view (on_a y.store); b = option_map G.view (on_b y.store) }) r.0
        ∙ ap (λ (v : Option (VolumeView (List ℕ))). record { device = replace (device_of x) A; a = v; b = option_map G.view (on_b y.store) })
        (view_is (on_a y.store) r.1)
        ∙ ap (λ (o : Option V). record { device = replace (device_of x) A; a = Some (G.view volume); b = option_map G.view o }) r.2
    stood_by y B r =
        ap (λ (e : DefinedDevice). record { device = e; a = option_map G.view (on_a y.store); b = option_map G.view (on_b y.store) }) r.0
        ∙ ap (λ (v : Option (VolumeView (List ℕ))). record { device = replace (device_of x) B; a = option_map G.view (on_a y.store); b = v })
        (view_is (on_b y.store) r.1)
        ∙ ap (λ (o : Option V). record { device = replace (device_of x) B; a = option_map G.view o; b = Some (G.view volume) }) r.2

    module _ (run : runs.Subsystem) (stand : ChainsStand old.devices.items) (all : StandsAs old run)
        (told : SideIs (G.view volume) (empty_contents (x.store.cylinders * 15)) unfailing)
        (long : length (empty_contents (x.store.cylinders * 15)) ≡ x.store.cylinders * 15) where
      abbrev known : AreKnown (all_stood old.devices.items) run.mounted
      known = all_known (all_stood old.devices.items) run.mounted all.mounted

      abbrev what : EventHappened
      what = replaced run d side unfailing

      -- the device has the same past
      ordered : (y : Device V G) (end : ends.EventEnd) → what.end ≡ end → (device_of y).history ≡ (device_of x).history →
          AreKnown (all_stood (put_at old.devices.items d y)) what.behind.mounted → order_end a ≡ end → StandsAs new what.behind →
          IsOrdered (logged (Replace d side) what) (orders.Replace d side) (order_end a) new
      ordered y end ended same now seen stands = record {
        stands = stands;
        lines = ordered_tells (Replace d side) what run (orders.Replace d side) (order_end a) old.devices.items (put_at old.devices.items d y)
            (quiet_so run d side) (ended ∙ sym seen) (λ e ds es. refl)
            (put_then old.devices.items (put_at old.devices.items d y) d x y same at (same_pasts (put_at old.devices.items d y))) known now;
      }

      same_what : (f : OrderFault) → replace_fault (device_of x) side ≡ Some f → what ≡ quietly run run (answers.Refused f)
      unfolding H.replaced
      same_what f free =
          let m = known_at old.devices.items run.mounted d x known at in
          ap (λ (o : Option Mounted). replaced_at run d side unfailing o) m.there
          ∙ ap (λ (o : Option OrderFault). replaced_by run d side unfailing m.mounted o) (fault_known (stood_of x) m.mounted side m.is ∙ free)

      swapped_by : (f : Option OrderFault) → replace_fault (device_of x) side ≡ f → ReplacedBy d side volume f old a new →
          IsOrdered (logged (Replace d side) what) (orders.Replace d side) (order_end a) new
      swapped_by (Some f) free came =
          let is = same_what f free in
          let behind : what.behind ≡ run = ap (λ (h : EventHappened). h.behind) is in
          ordered x (answers.Refused f) (ap (λ (h : EventHappened). h.end) is) refl
          (subst (λ (s : runs.Subsystem). AreKnown (all_stood (put_at old.devices.items d x)) s.mounted) (sym behind)
          (subst (λ (l : List (Device V G)). AreKnown (all_stood l) run.mounted) (sym (put_same old.devices.items d x at)) known))
          (order_seen a (answers.Refused f) tt (came.0 blank))
          (subst (λ (s : runs.Subsystem). StandsAs new s) (sym behind)
          (stands_by new run old.pool (all_stood old.devices.items) all.pool all.mounted came.1.0 (ap all_stood came.1.1)))
      swapped_by None free came =
          let ch = came.2 in
          let before : ch.before ≡ x = some_same (sym ch.stood ∙ at) in
          let is : IsReplaced side volume x ch.behind = subst (λ (z : Device V G). IsReplaced side volume z ch.behind) before ch.is_so in
          let p = old.pool.pool in
          let xs = all_stood old.devices.items in
          let same : run ≡ subsystem_of p run.mounted = ap (λ (q : pools.Pool). record { pool = q; mounted = run.mounted }) all.pool in
          let put : laws.put_at xs d (with_volume (stood_of x) side (G.view volume) (replace (device_of x) side))
          ≡ all_stood (put_at old.devices.items d ch.behind) =
          ap (λ (y : Stood). laws.put_at xs d y) (sym (stood_by ch.behind side is)) ∙ sym (put_stood old.devices.items d ch.behind) in
          let w : IsWhatCame what answers.Done p (all_stood (put_at old.devices.items d ch.behind)) =
          subst (λ (s : runs.Subsystem). IsWhatCame (replaced s d side unfailing) answers.Done p (all_stood (put_at old.devices.items d ch.behind))) (sym same)
          (subst (λ (l : List Stood). IsWhatCame (replaced (subsystem_of p run.mounted) d side unfailing) answers.Done p l) put
          (replaced_so p xs run.mounted d side unfailing (empty_contents (x.store.cylinders * 15)) (G.view volume) (stood_of x) all.mounted
          (chains_are old.devices.items own.each stand) (stood_found old.devices.items d x at) free told long)) in
          ordered ch.behind answers.Done w.ended (ap (λ (e : DefinedDevice). e.history) is.0 ∙ past_same (device_of x) side)
          (all_known (all_stood (put_at old.devices.items d ch.behind)) what.behind.mounted w.mounted) (order_seen a answers.Done tt (came.0 blank))
          (stands_by new what.behind old.pool (all_stood (put_at old.devices.items d ch.behind)) w.left w.mounted came.1 (ap all_stood ch.stands))

      pub swapped : Replaced d side volume (Some x) old a new → IsOrdered (logged (Replace d side) what) (orders.Replace d side) (order_end a) new
      swapped came = swapped_by (replace_fault (device_of x) side) refl came
