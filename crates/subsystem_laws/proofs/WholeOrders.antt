-- New devices are mounted as a run mounts them, and so is the volume that takes the place of a failed one.
use Rattle.std.proofs.Common.{◌≡◌, ◌≤◌, ◌*◌, ℕ, Bool, true, false, List, [], ◌∷◌, length, Option, Some, None, is_some, refl, sym, ap, subst, ◌∙◌}
use Rattle.std.specs.Prelude.{not, option_map}
use Rattle.ckd_types.specs.declared.geometry.Geometry.{Geometry}
use Rattle.ckd_types.specs.declared.paths.Side.{Side}
use Rattle.ckd_types.specs.declared.paths.Side.TheVariants.{A, B}
use Rattle.ckd_types.specs.declared.record.Track.{Track}
use Rattle.ckd_types.specs.Volume.{IsVolume, empty_volume}
use Rattle.plain_defs.specs.Journal.{Plans}
use Rattle.plain_device.proofs.Wholes.{volume_empty}
use Rattle.track_image.specs.Image.{Image}
use Rattle.device_outside.specs.Both.{SideIs}
use Rattle.device_outside.specs.Disk.{empty_contents}
use Rattle.device_outside.specs.Pool.{Pool}
use Rattle.device_outside.specs.Told.{Calls}
use Rattle.device_outside.specs.Volume.{Plan, VolumeView}
use Rattle.device_defs.specs.Marks.{MarksStore, half_mark, new_device}
use Rattle.device_defs.specs.Orders.{replace}
use Rattle.device_defs.specs.Store.{HalfWrite, tracks_of, side_of}
use Rattle.device_laws.specs.Agrees.{Held}
use Rattle.device_laws.specs.InOrder.{IsInOrder}
use Rattle.device_laws.specs.Lent.{Stands, in_order, is_away}
use Rattle.device_laws.specs.Whole.{WholeDevice, marks_device, holding}
use Rattle.device_laws.specs.NewDevice.{volume_contents}
use Rattle.device_laws.proofs.NewDevices.{empty_is_contents, in_order_on, marks_on}
use Rattle.device_laws.proofs.OrdersInOrder.{replace_order, replace_same}
use Rattle.subsystem_defs.specs.declared.end.EventEnd.TheVariants.{Done}
use Rattle.subsystem_defs.specs.declared.end.OrderFault.{OrderFault}
use Rattle.subsystem_defs.specs.declared.end.OrderFault.TheVariants.{NoSide, Up, Half}
use Rattle.subsystem_defs.specs.Happening as H
use Rattle.subsystem_defs.specs.Happening.{replaced_by, replaced_at, replaced}
use Rattle.subsystem_defs.specs.Refusals as R
use Rattle.subsystem_defs.specs.Refusals.{first_cause, where_so, lent_by, replace_fault}
use Rattle.subsystem_defs.specs.Subsystem.{Mounted, new_calls, unfailing, mounted_on, newly_mounted, mounted_in, put_in, with_calls}
use Rattle.subsystem_laws.specs.WholeComes.{subsystem_of, IsWhatCame}
use Rattle.subsystem_laws.specs.WholeStood.{opened, Stood, stood_in, put_at, with_volume, IsMounted, is_mounted, AreMounted, HaveChains}
use Rattle.subsystem_laws.proofs.WholeDeeds.{Seat, seat_of}
use Rattle.subsystem_laws.proofs.WholeFinding.{Found, none_found, both_found, find, chain_at}

some_is : {X : Type 0} (x y : X) → Some x ≡ Some y → x ≡ y
some_is x y e = cc

-- A new device has no slot

pub first_mounted : (d : ℕ) (g : Geometry) (n : ℕ) (tracks : List Track) (plans : Plans) (plan : Plan) (volume : VolumeView (List ℕ)) →
    IsVolume g n tracks → SideIs volume (volume_contents tracks) (new_calls plan) →
    IsMounted [] (record { device = opened d g n plans; a = Some volume; b = None }) (mounted_on d g n tracks plans plan)
first_mounted d g n tracks plans plan volume is side =
    let h : Held = record { a = volume_contents tracks; b = []; slots = Some [] } in
    subst (λ (m : MarksStore). IsMounted [] (record { device = opened d g n plans; a = Some volume; b = None })
    (record { device = record (new_device d g n plans) { store = m }; a = new_calls plan; b = unfailing })) (marks_on d g n tracks)
    (is_mounted (opened d g n plans) tracks tracks h (Some volume) None (new_calls plan) unfailing (in_order (in_order_on d g n tracks h is refl)) refl side tt)

pub new_mounted : (d : ℕ) (g : Geometry) (n : ℕ) (plans : Plans) (plan : Plan) (volume : VolumeView (List ℕ)) → n ≤ 4369 →
    SideIs volume (empty_contents (n * 15)) (new_calls plan) →
    IsMounted [] (record { device = opened d g n plans; a = Some volume; b = None }) (newly_mounted d g n plans plan)
new_mounted d g n plans plan volume most side =
    first_mounted d g n (empty_volume n) plans plan volume (volume_empty g n most)
    (subst (λ (l : List (List ℕ)). SideIs volume l (new_calls plan)) (empty_is_contents n) side)

-- A failed volume is replaced

fault_some : (o : Option (HalfWrite Image)) → is_some (option_map half_mark o) ≡ is_some o
fault_some None = refl
fault_some (Some hw) = refl

pub fault_both : (v w : List Track) (d : WholeDevice) (side : Side) → replace_fault (marks_device v w d) side ≡ replace_fault d side
unfolding R.replace_fault
fault_both v w d A =
    ap (λ (b : Bool). first_cause (lent_by d.store.lent ∷ where_so (not (R.has_side d.store A)) NoSide ∷ where_so d.store.a.up Up ∷ where_so b Half ∷ []))
    (fault_some d.store.half)
fault_both v w d B =
    ap (λ (b : Bool). first_cause (lent_by d.store.lent ∷ where_so (not (R.has_side d.store B)) NoSide ∷ where_so d.store.b.up Up ∷ where_so b Half ∷ []))
    (fault_some d.store.half)

pub is_down : (lent : Option ℕ) (has up : Bool) (more : List (Option OrderFault)) →
    first_cause (lent_by lent ∷ where_so (not has) NoSide ∷ where_so up Up ∷ more) ≡ None → (up ≡ false) × (has ≡ true) × (is_some lent ≡ false)
is_down (Some to) has up more e = absurd (cc)
is_down None true true more e = absurd (cc)
is_down None false up more e = absurd (cc)
is_down None true false more e = (refl, refl, refl)

pub down_by : (d : WholeDevice) (side : Side) → replace_fault d side ≡ None → ((side_of d.store side).up ≡ false) × (R.has_side d.store side ≡ true) ×
    (is_some d.store.lent ≡ false)
unfolding R.replace_fault
down_by d side e =
    is_down d.store.lent (R.has_side d.store side) (side_of d.store side).up (where_so (is_some d.store.half) Half ∷ []) e

unless_lent : {v w : List Track} {d : WholeDevice} {h : Held} → Stands v w d h → is_some d.store.lent ≡ false → IsInOrder v w d.store h
unless_lent (in_order i) free = i
unless_lent (is_away i) free = absurd (let lent = i.store.lent in cc)

pub paired_by : (d : WholeDevice) (side : Side) → R.has_side d.store side ≡ true → side ≡ B → d.store.paired ≡ true
paired_by d A e is = absurd (cc)
paired_by d B e is = e

module _ (p : Pool) (xs : List Stood) (ms : List Mounted) (n : ℕ) (side : Side) (calls : Calls) (l : List (List ℕ)) (volume : VolumeView (List ℕ))
    (told : SideIs volume l calls) where
  now_mounted : (x : Seat p xs ms n) (d : WholeDevice) → IsInOrder x.plain x.firm d.store (holding x.held side l) →
      (here : Side) → here ≡ side →
      IsMounted x.mine (with_volume (record { device = x.device; a = x.on_a; b = x.on_b }) here volume d)
      (with_calls (record { device = marks_device x.plain x.firm d; a = x.a; b = x.b }) here calls)
  now_mounted x d order A is =
      let o = subst (λ (k : Side). IsInOrder x.plain x.firm d.store (holding x.held k l)) (sym is) order in
      is_mounted d x.plain x.firm (holding x.held A l) (Some volume) x.on_b calls x.b (in_order o) x.slots told x.told_b
  now_mounted x d order B is =
      let o = subst (λ (k : Side). IsInOrder x.plain x.firm d.store (holding x.held k l)) (sym is) order in
      is_mounted d x.plain x.firm (holding x.held B l) x.on_a (Some volume) x.a calls (in_order o) x.slots x.told_a told

  by_seat : (x : Seat p xs ms n) (y : Stood) → length l ≡ tracks_of x.device.store → replace_fault x.device side ≡ None →
      y ≡ with_volume (record { device = x.device; a = x.on_a; b = x.on_b }) side volume (replace x.device side) →
      IsWhatCame (replaced_at (subsystem_of p ms) n side calls (mounted_in ms n)) Done p (put_at xs n y)
  by_seat x y long free is =
      let s = subsystem_of p ms in
      let m : Mounted = record { device = marks_device x.plain x.firm x.device; a = x.a; b = x.b } in
      let facts = down_by x.device side free in
      let order = replace_order x.plain x.firm x.device x.held side l (unless_lent x.stands facts.2) facts.0 (paired_by x.device side facts.1) long in
      let new = now_mounted x (replace x.device side) order side refl in
      subst (λ (o : Option Mounted). IsWhatCame (replaced_at s n side calls o) Done p (put_at xs n y)) (sym x.mounted)
      (subst (λ (f : Option OrderFault). IsWhatCame (replaced_by s n side calls m f) Done p (put_at xs n y))
      (sym (fault_both x.plain x.firm x.device side ∙ free))
      (record {
        ended = refl;
        left = refl;
        mounted =
            subst (λ (k : Mounted). AreMounted p (put_at xs n y) (put_in ms n k))
            (ap (λ (d : _). with_calls (record m { device = d }) side calls) (replace_same x.plain x.firm x.device x.held side))
            (x.put p.used x.mine y (with_calls (record { device = marks_device x.plain x.firm (replace x.device side); a = x.a; b = x.b }) side calls)
            (subst (λ (u : Stood). IsMounted x.mine u (with_calls (record { device = marks_device x.plain x.firm (replace x.device side); a = x.a; b = x.b })
            side calls)) (sym is) new) x.shared);
      }))

  by_found : (x y : Stood) → Found p.used [] xs ms n → HaveChains xs → stood_in xs n ≡ Some x → length l ≡ tracks_of x.device.store →
      replace_fault x.device side ≡ None →
      y ≡ with_volume x side volume (replace x.device side) →
      IsWhatCame (replaced_at (subsystem_of p ms) n side calls (mounted_in ms n)) Done p (put_at xs n y)
  by_found x y (none_found s t) chains at long free is = absurd (cc)
  by_found x y (both_found u m mine others s t there shared number put) chains at long free is =
      let seat = seat_of p xs ms n u m mine others s t there shared (chain_at xs n u chains s) number put in
      let e : record { device = seat.device; a = seat.on_a; b = seat.on_b } ≡ x =
      some_is (record { device = seat.device; a = seat.on_a; b = seat.on_b }) x (sym seat.stood ∙ at) in
      by_seat seat y (long ∙ ap (λ (k : Stood). tracks_of k.device.store) (sym e)) (ap (λ (k : Stood). replace_fault k.device side) e ∙ free)
      (is ∙ ap (λ (k : Stood). with_volume k side volume (replace k.device side)) (sym e))

-- a volume of as many tracks in place of a failed one, where the order isn't refused
pub replaced_so : (p : Pool) (xs : List Stood) (ms : List Mounted) (n : ℕ) (side : Side) (calls : Calls) (l : List (List ℕ)) (volume : VolumeView (List ℕ))
    (x : Stood) → AreMounted p xs ms → HaveChains xs → stood_in xs n ≡ Some x → replace_fault x.device side ≡ None → SideIs volume l calls →
    length l ≡ tracks_of x.device.store →
    IsWhatCame (replaced (subsystem_of p ms) n side calls) Done p (put_at xs n (with_volume x side volume (replace x.device side)))
unfolding H.replaced
replaced_so p xs ms n side calls l volume x all chains at free told long =
    by_found p xs ms n side calls l volume told x (with_volume x side volume (replace x.device side)) (find p.used [] xs ms n all) chains at long free refl
