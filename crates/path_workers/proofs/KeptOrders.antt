-- What orders keep of what was pledged.
use Rattle.std.proofs.Common.{◌≡◌, Bool, true, List, ℕ, Option, Some, None, refl, sym, ap, subst, ◌∙◌}
use Rattle.std.specs.Prelude.{◌&&◌, is_some}
use Rattle.device_outside.specs.declared.volume.Volume.{Ghosts}
use Rattle.device_outside.specs.Outside.{Outside, PortView, Ran, no_pool}
use Rattle.device_outside.proofs.Runs.{ran_weaker}
use Rattle.device_defs.specs.declared.counts.Losses.{Losses}
use Rattle.device_defs.specs.Contents.{contents}
use Rattle.device_defs.specs.Events.{lose, one_loss_more}
use Rattle.device_defs.specs.Pledge.{Pledge, seat_counts}
use Rattle.loss_model.specs.declared.Loss.{Loss}
use Rattle.device_laws.specs.Handed.{StaysInTurn, allowance_in}
use Rattle.device_laws.specs.Whole.{WholeDevice}
use Rattle.device_laws.proofs.KeepLaws.{AreWithin, loss_kept, loss_checks}
use Rattle.subsystem_defs.specs.Refusals.{suspend_fault}
use Rattle.subsystem_laws.specs.Standing.{StandsOn}
use Rattle.subsystem_laws.proofs.turning.Counts.{loss_acts, same_counts}
use Rattle.subsystem_laws.proofs.turning.Orders.{held_stands}
use Rattle.subsystem_laws.proofs.turning.Standing.{loss_stands}
use Rattle.duplex_pair.specs.declared.pair.SideVolumes.{SideVolumes}
use Rattle.device_store.specs.State.{outside, outside_of}
use Rattle.device_core.specs.declared.device.Device.{Device}
use Rattle.device_core.specs.State.{device_of}
use Rattle.path_workers.specs.Keeping.{IsWithin, handed_of, tells, told_of}
use Rattle.path_workers.specs.Planned.{told_planned}
use Rattle.path_workers.proofs.Keeping.{hears, no_keep, of_keeps, of_stands, to_keeps}
use Rattle.path_workers.proofs.Planned.{ran_planned}
use Rattle.path_workers.specs.Ordered.{HaveLosses, IsOrdered, MayLose}

within_all : (l most : Losses) → IsWithin l most → AreWithin l most
within_all l most w = (w.cache, w.store, w.sides)

pub lent_away : (o : Option ℕ) → is_some o ≡ true → o ≡ None → ⊥
lent_away (Some to) is none = absurd (cc)
lent_away None is none = absurd (cc)

-- a side that is held or not, over the same volumes
module _ (p : Pledge) (x : WholeDevice) (held : Bool) (u : Outside (List ℕ) (Unit {0})) where
  abbrev held_device : WholeDevice
  held_device = record x { store = record x.store { held = held } }

  held_keeps : (allowed : _) → StaysInTurn p x (record { allowance = allowance_in u; tells = allowed; told = p.told }) u →
      StaysInTurn p held_device (record { allowance = allowance_in u; tells = allowed; told = p.told }) u
  held_keeps allowed k = record {
    keeps = record {
      number = k.keeps.number;
      geometry = k.keeps.geometry;
      cylinders = k.keeps.cylinders;
      plans = k.keeps.plans;
      lent = k.keeps.lent;
      was_lent = k.keeps.was_lent;
      journal = k.keeps.journal;
      still = k.keeps.still;
      cache = k.keeps.cache;
      store = k.keeps.store;
      sides = k.keeps.sides;
      failures = k.keeps.failures;
      tells = k.keeps.tells;
      told = k.keeps.told;
      checks = k.keeps.checks;
    };
    allowance = k.allowance;
    none = k.none;
  }

module _ {V : Type 0} {G : Ghosts V} where
  -- a refused order
  pub same_ordered : {pledged : Pledge → Type 0} (d : Device V G) → IsOrdered pledged d d
  same_ordered d = record { kept = λ first p is k. k; counts = refl }

  -- of fewer pledges
  pub ordered_where : {pledged more : Pledge → Type 0} {d e : Device V G} → ((p : Pledge) → more p → pledged p) → IsOrdered pledged d e → IsOrdered more d e
  ordered_where f o = record { kept = λ first p is k. o.kept first p (f p is) k; counts = o.counts }

  pub loss_ordered : (d e : Device V G) (old new : PortView) (loss : Loss) (most : Losses) → (device_of d).store.lent ≡ None → MayLose loss most d →
      Ran (λ ok. ok ≡ true) hears (lose contents (device_of d) loss) (outside old d.store no_keep) (device_of e) tt (outside new e.store no_keep) →
      IsOrdered (HaveLosses most) d e
  loss_ordered d e old new loss most home may r = record {
    kept = λ first p is k.
        let told_ran = ran_planned r in
        let ran = ran_weaker (λ ok h. tt) told_ran in
        let checks = loss_checks contents (device_of d) loss ran in
        let within = subst (λ (m : Losses). AreWithin (one_loss_more d.store.counts.losses loss) m) (sym is) (within_all _ _ (may.1 home)) in
        to_keeps d e old new p _
        (loss_kept contents hears p (handed_of p.told d) (device_of d) (device_of e) (told_planned (outside old d.store no_keep))
        (told_planned (outside new e.store no_keep))
        (of_keeps d e old new p k) home (λ told. checks) loss tt within ran)
        (λ told. loss_stands (of_stands d e old new (k.stands told home)) (λ _ m r l h. h) loss tt told_ran);
    counts = same_counts (device_of d) (device_of e) (loss_acts contents (device_of d) loss (ran_weaker (λ ok h. tt) r));
  }

  pub held_ordered : (d e : Device V G) (held : Bool) (most : Losses) → (held ≡ true → suspend_fault (device_of d) ≡ None) → device_of e ≡ record (device_of d) { store = record (device_of d).store { held = held } } →
      e.store.pair.volumes ≡ d.store.pair.volumes → IsOrdered (HaveLosses most) d e
  held_ordered d e held most fault is same = record {
    kept = λ first p _ k.
        let told : told_of e ≡ told_of d = ap (λ (v : SideVolumes V). told_planned (outside_of (no_pool 0) G.view v (tt {0}))) same in
        record {
          keeps = subst (λ (x : WholeDevice). StaysInTurn p x (handed_of p.told e) (told_of e)) (sym is)
              (subst (λ (w : Outside (List ℕ) (Unit {0})). StaysInTurn p (held_device p (device_of d) held (told_of d))
              (record { allowance = allowance_in w; tells = tells w.a && tells w.b; told = p.told }) w) (sym told)
              (held_keeps p (device_of d) held (told_of d) (tells (told_of d).a && tells (told_of d).b) k.keeps));
          stands = λ is_told home. subst (λ (x : WholeDevice). StandsOn first x (told_of e)) (sym is)
              (subst (λ (w : Outside (List ℕ) (Unit {0})). StandsOn first (held_device p (device_of d) held (told_of d)) w) (sym told)
              (held_stands (device_of d) (told_of d) held fault (k.stands is_told (sym (ap (λ (x : WholeDevice). x.store.lent) is) ∙ home))));
        };
    counts = ap (λ (x : WholeDevice). seat_counts x) is;
  }
