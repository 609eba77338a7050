-- What is the devices' own stays behind a look: each one's plans and chain, and where the volumes stand.
use Rattle.std.proofs.Common.{◌≡◌, ◌∙◌, ℕ, List, Option, Some, is_some, sym, ap, subst}
use Rattle.std.specs.Prelude.{IfSome, option_map}
use Rattle.ckd_chain.specs.State.{ChainState}
use Rattle.ckd_types.specs.declared.geometry.Geometry.{Geometry}
use Rattle.plain_defs.specs.Whole.{GiveBytes, GivesAll}
use Rattle.track_image.specs.Image.{Image}
use Rattle.device_outside.specs.declared.volume.Volume.{Ghosts}
use Rattle.device_outside.specs.Keeper.{Hearing}
use Rattle.device_defs.specs.Peek.{Peeked}
use Rattle.device_store.specs.State.{on_a, on_b}
use Rattle.device_core.specs.declared.device.Device.{Device}
use Rattle.device_core.specs.State.{device_of}
use Rattle.device_laws.specs.Whole.{WholeDevice}
use Rattle.subsystem_core.specs.declared.subsystem.Subsystem.{Subsystem}
use Rattle.subsystem_core.specs.Devices.{device_at, put_at}
use Rattle.deck_run.specs.Owning.{IsOwn, AllOwn, AreOwn}
use Rattle.deck_run.specs.Sides.{AreAccounted, all_sides}
use Rattle.deck_run.proofs.Accounted.{asked_sides, put_sides, ran_there}
use Rattle.deck_run.proofs.Found.{own_put, own_at}
use Rattle.subsystem_laws.specs.Looking.{KeepsOwn}
use Rattle.subsystem_laws.proofs.looking.Keeps.{peek_keeps_own}
use Rattle.track_looks.specs.Looking.{LooksKept, Looks}

still_own : (d e : WholeDevice) → KeepsOwn d e → IsOwn d → IsOwn e
still_own d e kept own = record {
  plans = subst GiveBytes (sym kept.plans) own.plans;
  chain = subst (λ (g : Geometry). IfSome e.chain (λ (c : ChainState). (c.fixed.geometry ≡ g) × GivesAll c.ccws)) (sym kept.geometry)
      (subst (λ (o : Option ChainState). IfSome o (λ (c : ChainState). (c.fixed.geometry ≡ d.store.geometry) × GivesAll c.ccws)) (sym kept.chain) own.chain);
}

module _ {V : Type 0} {G : Ghosts V} where
  own_by : (n : ℕ) (xs ys : List (Device V G)) (x y : Device V G) → device_at xs n ≡ Some x → ys ≡ put_at xs n y →
      KeepsOwn (device_of x) (device_of y) →
      (is_some (option_map G.view (on_a y.store)) ≡ is_some (option_map G.view (on_a x.store)))
      × (is_some (option_map G.view (on_b y.store)) ≡ is_some (option_map G.view (on_b x.store))) → AreOwn xs → AreOwn ys
  own_by n xs ys x y at stands kept there own =
      let sides : all_sides ys ≡ all_sides xs =
      ap (λ (l : List (Device V G)). all_sides l) stands ∙ put_sides xs n x y (asked_sides x y kept.number kept.lent there) at in
      record {
        each = subst AllOwn (sym stands) (own_put xs n y own.each (still_own (device_of x) (device_of y) kept (own_at xs n x own.each at)));
        accounted = subst AreAccounted (sym sides) own.accounted;
      }

  pub looks_own : (d t : ℕ) (told : Option Peeked) (old new : Subsystem V G) → Looks d t told old new → AreOwn old.devices.items → AreOwn new.devices.items
  looks_own d t told old new l own =
      let ch = l.asked in
      let ran = ch.is_so (record {}) in
      own_by d old.devices.items new.devices.items ch.before ch.behind ch.stood ch.stands
      (peek_keeps_own (device_of ch.before) (device_of ch.behind) t ran) (ran_there ran) own

  pub kept_looks_own : {K : Type 0} (hears : Hearing Image K) (d t : ℕ) (told : Option Peeked) (old new : Subsystem V G) (keep kept : K) →
      LooksKept hears d t told old keep new kept → AreOwn old.devices.items → AreOwn new.devices.items
  kept_looks_own hears d t told old new keep kept l own =
      let ch = l.asked in
      own_by d old.devices.items new.devices.items ch.before ch.behind ch.stood ch.stands
      (peek_keeps_own (device_of ch.before) (device_of ch.behind) t ch.is_so) (ran_there ch.is_so) own
