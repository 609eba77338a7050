-- A track of a device that tells what it holds is quiet where it isn't loose and no half write of a command or of a cut is open on it.
use Rattle.std.proofs.Common.{◌≡◌, ◌<◌, ℕ, false, List, [], Some, None, sym, ap, subst, ◌∙◌}
use Rattle.ckd_types.specs.declared.record.Track.{Track}
use Rattle.ckd_types.specs.Volume.{track_in}
use Rattle.device_outside.specs.Pool.{Pool}
use Rattle.device_defs.specs.Store.{tracks_of, is_loose}
use Rattle.device_laws.specs.Agrees.{Held}
use Rattle.device_laws.specs.Lent.{Stands, in_order, is_away}
use Rattle.device_laws.specs.Whole.{WholeDevice}
use Rattle.subsystem_defs.specs.Subsystem.{Mounted, mounted_in}
use Rattle.subsystem_laws.specs.WholeStood.{Stood, is_mounted, AreMounted}
use Rattle.subsystem_laws.proofs.WholeFinding.{Found, none_found, both_found, find}
use Rattle.subsystem_laws.proofs.WholeTalks.{mounts}
use Rattle.subsystem_laws.specs.Looking.{is_written_at}
use Rattle.keeper_laws.specs.Quiet.{IsQuiet}

some_is : {X : Type 0} {x y : X} → Some x ≡ Some y → x ≡ y
some_is e = cc

firm_same : (v w : List Track) (d : WholeDevice) (h : Held) (t : ℕ) → Stands v w d h → t < tracks_of d.store → is_loose d.store t ≡ false →
    track_in w t ≡ track_in v t
firm_same v w d h t (in_order i) lt firm = i.agrees.ground.same t lt firm
firm_same v w d h t (is_away i) lt firm = i.store.ground.same t lt firm

module _ (p : Pool) (xs : List Stood) (ms : List Mounted) (n t : ℕ) (m : Mounted) (there : mounted_in ms n ≡ Some m) (lt : t < tracks_of m.device.store)
    (firm : is_loose m.device.store t ≡ false) (free : is_written_at m.device.store.half t ≡ false) where
  by_found : Found p.used [] xs ms n → IsQuiet m t
  by_found (none_found s e) = absurd (let no : None ≡ Some m = sym e ∙ there in cc)
  by_found (both_found x k mine others s e (is_mounted d v w h on_a on_b a b stands slots told_a told_b) shared number put) =
      let same : mounts v w d a b ≡ m = some_is (sym e ∙ there) in
      let below : t < tracks_of d.store = subst (λ (u : Mounted). t < tracks_of u.device.store) (sym same) lt in
      let loose : is_loose d.store t ≡ false = ap (λ (u : Mounted). is_loose u.device.store t) same ∙ firm in
      record {
        loose = firm;
        half = free;
        firm = subst (λ (u : Mounted). track_in u.device.store.firm t ≡ track_in u.device.store.plain t) same (firm_same v w d h t stands below loose);
      }

pub mounted_is_quiet : (p : Pool) (xs : List Stood) (ms : List Mounted) (n t : ℕ) (m : Mounted) → AreMounted p xs ms → mounted_in ms n ≡ Some m →
    t < tracks_of m.device.store → is_loose m.device.store t ≡ false → is_written_at m.device.store.half t ≡ false → IsQuiet m t
mounted_is_quiet p xs ms n t m all there lt firm free = by_found p xs ms n t m there lt firm free (find p.used [] xs ms n all)
