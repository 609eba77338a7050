-- What a look with a keeper came to, from what was told of it.
use Rattle.std.proofs.Common.{◌≡◌, ◌∙◌, ℕ, List, Some, None, Result, Ok, Err, IfOk, sym, ap, subst}
use Rattle.std.specs.Prelude.{IfSome}
use Rattle.ckd_types.specs.declared.memory.NoMemory.{NoMemory}
use Rattle.track_image.specs.Image.{Image}
use Rattle.device_outside.specs.declared.volume.Volume.{Ghosts}
use Rattle.device_outside.specs.Keeper.{Hearing}
use Rattle.device_outside.specs.Outside.{where_ok}
use Rattle.device_defs.specs.Contents.{contents}
use Rattle.device_defs.specs.Peek as defs
use Rattle.device_defs.specs.Peek.{peek}
use Rattle.device_core.specs.declared.device.Device.{Device}
use Rattle.device_core.specs.State.{device_of}
use Rattle.device_store.specs.declared.store.Peeked.{Peeked}
use Rattle.device_store.specs.Looks.{peeked_by, IsPeeked}
use Rattle.device_store.specs.State.{had, state_of}
use Rattle.subsystem_core.specs.declared.subsystem.Subsystem.{Subsystem}
use Rattle.subsystem_core.specs.Comes.{AskedKept, Changes}
use Rattle.subsystem_core.specs.Devices.{device_at, numbers_of}
use Rattle.deck_run.proofs.Found.{again}
use Rattle.track_looks.specs.declared.found.Look.{Look}
use Rattle.track_looks.specs.Looking.{look_seen, LooksKept}

some_same : {X : Type 0} {x y : X} → Some x ≡ Some y → x ≡ y
some_same e = cc

pub told_by : (r : Result Look NoMemory) (p : defs.Peeked) → IfOk r (λ found. look_seen found ≡ p) → IfSome (had look_seen r) (λ found. Some p ≡ Some found)
told_by (Ok found) p is = ap Some (sym is)
told_by (Err e) p is = tt

module _ {V : Type 0} {G : Ghosts V} where
  -- the device that is read behind it is the one that was looked at
  behind_is : {how : Device V G → Device V G → Type 0} (d : ℕ) (old new : List (Device V G)) (z : Device V G) (ch : Changes d how old new) →
      numbers_of new ≡ numbers_of old → device_at new d ≡ Some z → ch.behind ≡ z
  behind_is d old new z ch same at =
      some_same (sym (again old d ch.before ch.behind ch.stood (subst (λ (l : List (Device V G)). numbers_of l ≡ numbers_of old) ch.stands same))
      ∙ ap (λ (l : List (Device V G)). device_at l d) (sym ch.stands) ∙ at)

  module _ {K : Type 0} (hears : Hearing Image K) (d t : ℕ) (old : Subsystem V G) (keep : K) (new : Subsystem V G) (kept : K) where
    abbrev Peeks : Result Peeked NoMemory → Type 0
    Peeks r = Changes d (λ x y. IfOk r (IsPeeked (state_of y.store) t) × AskedKept hears (where_ok r)
        (peek contents (device_of x) t) (had (peeked_by (state_of y.store) t) r) old.pool keep x y new.pool kept)
        old.devices.items new.devices.items

    pub peeked_there : (p : Peeked) (z : Device V G) → Peeks (Ok p) → numbers_of new.devices.items ≡ numbers_of old.devices.items →
        device_at new.devices.items d ≡ Some z → IsPeeked (state_of z.store) t p
    peeked_there p z ch same at =
        subst (λ (x : Device V G). IsPeeked (state_of x.store) t p) (behind_is d old.devices.items new.devices.items z ch same at) ch.is_so.0

    pub looks_had : (p : Peeked) (z : Device V G) (r : Result Look NoMemory) → Peeks (Ok p) → numbers_of new.devices.items ≡ numbers_of old.devices.items →
        device_at new.devices.items d ≡ Some z → IfOk r (λ found. look_seen found ≡ peeked_by (state_of z.store) t p) →
        LooksKept hears d t (had look_seen r) old keep new kept
    looks_had p z r ch same at is = record {
      answer = Some (peeked_by (state_of ch.behind.store) t p);
      told_is = told_by r (peeked_by (state_of ch.behind.store) t p)
          (subst (λ (x : Device V G). IfOk r (λ found. look_seen found ≡ peeked_by (state_of x.store) t p))
          (sym (behind_is d old.devices.items new.devices.items z ch same at)) is);
      asked = record { before = ch.before; behind = ch.behind; stood = ch.stood; stands = ch.stands; is_so = ch.is_so.1 };
    }

    pub looks_lacked : (e : NoMemory) → Peeks (Err e) → LooksKept hears d t None old keep new kept
    looks_lacked e ch = record {
      answer = None;
      told_is = tt;
      asked = record { before = ch.before; behind = ch.behind; stood = ch.stood; stands = ch.stands; is_so = ch.is_so.1 };
    }
