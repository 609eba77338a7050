-- New volumes may come to small devices.
use Rattle.std.proofs.Common.{◌≡◌, ◌*◌, true, ℕ, List, [], ◌∷◌, Option, Some, None, length, refl, sym, ap, subst, ◌∙◌}
use Rattle.std.specs.Prelude.{All, IfSome, if◌then◌else◌, ◌==◌, Bool, false}
use Rattle.std.proofs.lemmas.List.FromFn.{length-map-range_with_len}
use Rattle.std.proofs.lemmas.List.Elements.{All-head, All-tail, All-weaker}
use Rattle.device_outside.specs.declared.volume.Volume.{Ghosts}
use Rattle.device_outside.specs.Both.{SideIs}
use Rattle.device_outside.specs.Disk.{Disk, disk_view, empty_bytes, empty_contents, new_disk}
use Rattle.device_outside.specs.Volume.{VolumeView}
use Rattle.subsystem_core.specs.Devices.{device_at}
use Rattle.subsystem_defs.specs.Subsystem.{unfailing}
use Rattle.device_core.specs.declared.device.Device.{Device}
use Rattle.path_workers.specs.Spare.{IsSpare}
use Rattle.path_workers.proofs.Spares.{new_spare}
use Rattle.path_threads.specs.declared.orders.Order.{Order}
use Rattle.path_threads.specs.declared.orders.Order.TheVariants.{Event, Replace}
use Rattle.path_threads.specs.Places.{IsSpareAmong}
use Rattle.path_trials.specs.declared.maker.EmptyVolume.{EmptyVolume}
use Rattle.path_trials.specs.Small.{IsNew, IsSmall, makes_empty}

module _ {G : Ghosts Disk} (seen : (v : Disk) → G.view v ≡ disk_view v) where
  -- a new volume of as many cylinders
  as_new : (d : Device Disk G) (volume : Disk) → G.view volume ≡ disk_view (new_disk d.store.cylinders [] []) → IsSpare d volume
  as_new d volume is =
      let long : length (empty_contents (d.store.cylinders * 15)) ≡ d.store.cylinders * 15 = length-map-range_with_len empty_bytes 0 (d.store.cylinders * 15) in
      new_spare d volume
      (subst (λ (v : VolumeView (List ℕ)). SideIs v (empty_contents (d.store.cylinders * 15)) unfailing) (sym is)
      (record { contents = refl; reads = refl; writes = refl; plan = refl }))
      (ap (λ (v : VolumeView (List ℕ)). v.tracks) is ∙ long)

  -- what is made for an order may come to this device
  abbrev CanCome : EmptyVolume → Device Disk G → Type 0
  CanCome empty d = (volume : Disk) → makes_empty empty volume → IsSpare d volume

  spare_at : (ds : List (Device Disk G)) (n : ℕ) (empty : EmptyVolume) → empty.cylinders ≡ 1 → All IsSmall ds → IfSome (device_at ds n) (CanCome empty)
  spare_at [] n empty is small = tt
  spare_at (d ∷ ds) n empty is small = here (d.store.number == n) (spare_at ds n empty is (All-tail IsSmall d ds small)) where
    here : (b : Bool) → IfSome (device_at ds n) (CanCome empty) → IfSome (if b then Some d else device_at ds n) (CanCome empty)
    here true rest = λ volume made.
        as_new d volume
        (seen volume ∙ ap disk_view made ∙ ap (λ (c : ℕ). disk_view (new_disk c [] [])) (is ∙ sym (All-head IsSmall d ds small)))
    here false rest = rest

  pub all_spare : (ds : List (Device Disk G)) (os : List (Order EmptyVolume)) → All IsSmall ds → All IsNew os → All (IsSpareAmong makes_empty ds) os
  all_spare ds os small new = All-weaker IsNew (IsSpareAmong makes_empty ds) one os new where
    one : (o : Order EmptyVolume) → IsNew o → IsSpareAmong makes_empty ds o
    one (Event e) is = tt
    one (Replace n side empty) is = spare_at ds n empty is small
