-- Devices of which one more was finished.
use Rattle.std.proofs.Common.{◌<◌, ℕ, List, [], ◌∷◌, length, get_or, set}
use Rattle.std.specs.List.{AllZip}
use Rattle.device_outside.specs.declared.volume.Volume.{Ghosts}
use Rattle.device_core.specs.declared.device.Device.{Device}
use Rattle.device_turn.proofs.Zips.{zip_at, zip_set}
use Rattle.path_workers.specs.Keeping.{StaysKept}

module _ {V : Type 0} {G : Ghosts V} where
  pub all_same : (ds : List (Device V G)) → AllZip StaysKept ds ds
  all_same [] = tt
  all_same (d ∷ ds) = ((λ first p k. k), all_same ds)

  -- one is put back, which keeps what it kept
  pub one_more : (ds es : List (Device V G)) (i : ℕ) (d e : Device V G) → AllZip StaysKept ds es → i < length ds → StaysKept (get_or es i d) e →
      AllZip StaysKept ds (set es i e)
  one_more ds es i d e all low on = zip_set StaysKept ds es i d e all (λ first p k. on first p (zip_at StaysKept ds es i d d all low first p k))
