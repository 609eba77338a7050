-- A new volume of which no call fails may come in the place of a failed one.
use Rattle.std.proofs.Common.{◌≡◌, ◌*◌, ℕ, List, length, Option, sym, ap, subst}
use Rattle.std.proofs.lemmas.List.FromFn.{length-map-range_with_len}
use Rattle.device_outside.specs.declared.volume.Volume.{Ghosts}
use Rattle.device_outside.specs.Both.{SideIs}
use Rattle.device_outside.specs.Disk.{empty_bytes, empty_contents}
use Rattle.device_outside.specs.Volume.{Plan}
use Rattle.device_core.specs.declared.device.Device.{Device}
use Rattle.subsystem_defs.specs.Subsystem.{unfailing}
use Rattle.path_workers.specs.Spare.{IsSpare, TellsTracks}
use Rattle.path_workers.specs.Planned.{still_failing}

tracks_long : (n : ℕ) → length (empty_contents n) ≡ n
tracks_long n = length-map-range_with_len empty_bytes 0 n

pub new_spare : {V : Type 0} {G : Ghosts V} (d : Device V G) (volume : V) → SideIs (G.view volume) (empty_contents (d.store.cylinders * 15)) unfailing →
    (G.view volume).tracks ≡ d.store.cylinders * 15 → IsSpare d volume
new_spare {V} {G} d volume new long = record {
  tracks = long;
  tells = λ told. subst (λ (o : Option (List (List ℕ))). TellsTracks o (d.store.cylinders * 15)) (sym new.contents) (tracks_long (d.store.cylinders * 15));
  sure = λ told. ap (λ (o : Option Plan). still_failing o (G.view volume).reads (G.view volume).writes (G.view volume).allowance) new.plan;
}
