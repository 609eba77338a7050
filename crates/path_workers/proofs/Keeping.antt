-- What an event leaves of a device in its turn.
use Rattle.std.proofs.Common.{◌≡◌, ◌≤◌, ℕ, Bool, true, false, List, Option, Some, None, refl, sym, ap, subst, ◌∙◌}
use Rattle.std.proofs.lemmas.Bool.{and_from}
use Rattle.std.proofs.lemmas.Option.{same_Some}
use Rattle.std.specs.Prelude.{◌&&◌, IfSome, is_some, option_map}
use Rattle.ckd_chain.specs.Facts.{IsChain}
use Rattle.ckd_chain.specs.State.{ChainState}
use Rattle.ckd_types.specs.declared.record.Track.{Track}
use Rattle.plain_defs.specs.History.{OpenEntry, is_path_of}
use Rattle.track_image.specs.Image.{Image}
use Rattle.device_outside.specs.declared.volume.Volume.{Ghosts}
use Rattle.device_outside.specs.declared.keep.NoKeep.{NoKeep}
use Rattle.device_outside.specs.After.{Tells}
use Rattle.device_outside.specs.Interaction.{Interaction}
use Rattle.device_outside.specs.Keeper.{Hearing, reply}
use Rattle.device_outside.specs.Outside.{Outside, PortView, Ran, no_pool}
use Rattle.device_outside.specs.Volume.{VolumeView}
use Rattle.device_outside.proofs.Runs.{ran_weaker}
use Rattle.device_defs.specs.declared.answers.Did.{Did}
use Rattle.device_defs.specs.declared.counts.Losses.{Losses}
use Rattle.device_defs.specs.declared.answers.SecondEnd.{SecondEnd}
use Rattle.device_defs.specs.declared.answers.Stepped.{Stepped}
use Rattle.device_defs.specs.Command.{command}
use Rattle.device_defs.specs.Contents.{contents}
use Rattle.device_defs.specs.Events.{background, second}
use Rattle.device_defs.specs.Pledge.{Pledge, command_count}
use Rattle.device_defs.specs.Start.{start, start_fault}
use Rattle.device_defs.specs.Store.{HalfWrite, Origin, OfCommand, OfCut, OfBackground}
use Rattle.device_laws.proofs.DeviceHistory.{starts_where_idle}
use Rattle.device_laws.specs.Handed.{StaysInTurn, allowance_in}
use Rattle.device_laws.specs.Whole.{WholeDevice}
use Rattle.device_laws.proofs.KeepLaws.{start_kept, command_kept, second_kept, background_kept, background_checks}
use Rattle.subsystem_laws.specs.Standing.{StandsOn}
use Rattle.subsystem_laws.proofs.turning.Counts.{
  OtherPaths,
  command_counts,
  second_counts,
  background_acts,
  own_second_acts,
  start_counts,
  others_set,
  same_counts,
}
use Rattle.subsystem_laws.proofs.turning.Beside.{command_checks, second_checks}
use Rattle.subsystem_laws.proofs.turning.Standing.{background_stands, command_stands, second_stands, stands_there, start_stands}
use Rattle.device_store.specs.State.{outside}
use Rattle.device_store.specs.declared.store.DeviceStore.{DeviceStore}
use Rattle.device_core.specs.declared.device.Device.{Device}
use Rattle.device_core.specs.State.{device_of}
use Rattle.path_workers.specs.Keeping.{KeepsPledge, KeepsWithin, Moves, StaysKept, handed_of, pledge_with, tells, told_of}
use Rattle.path_workers.specs.Planned.{told_planned}
use Rattle.path_workers.specs.Visits.{is_backgrounds, is_of_background}
use Rattle.path_workers.proofs.Planned.{ran_planned}

abbrev pub hears : Hearing Image NoKeep
hears = λ _ m r _. r ≡ reply m

abbrev pub no_keep : NoKeep
no_keep = record {}

-- the chain of the program that runs, told of the device
pub chain_told : (o : Option ChainState) → IfSome o IsChain → (chain : ChainState) → o ≡ Some chain → IsChain chain
chain_told (Some c) is chain e = subst IsChain (same_Some c chain e) is
chain_told None is chain e = absurd (cc)

-- the path's program is there
pub record Runs (r : Option OpenEntry) : Type 0 where
  pub entry : OpenEntry
  pub is : r ≡ Some entry

pub runs_some : (path : ℕ) (r : Option OpenEntry) → is_path_of r path ≡ true → Runs r
runs_some path (Some o) is = record { entry = o; is = refl }
runs_some path None is = absurd (cc)

pub some_runs : (r : Option OpenEntry) → is_some r ≡ true → Runs r
some_runs (Some o) is = record { entry = o; is = refl }
some_runs None is = absurd (cc)

pub none_of : {X : Type 0} (o : Option X) → is_some o ≡ false → o ≡ None
none_of None is = refl
none_of (Some x) is = absurd (cc)

pub with_some : {X : Type 0} (o : Option X) (Q : Type 0) → is_some o ≡ true → ((x : X) → o ≡ Some x → Q) → Q
with_some (Some x) Q is f = f x refl
with_some None Q is f = absurd (cc)

origin_own : (o : Origin) → is_of_background o ≡ true → o ≡ OfBackground
origin_own OfBackground is = refl
origin_own (OfCommand bypass e) is = absurd (cc)
origin_own (OfCut bypass) is = absurd (cc)

pub with_own : {H : Type 0} (o : Option (HalfWrite H)) (Q : Type 0) → is_backgrounds o ≡ true → ((h : HalfWrite H) → o ≡ Some h → h.origin ≡ OfBackground → Q) → Q
with_own (Some h) Q is f = f h refl (origin_own h.origin is)
with_own None Q is f = absurd (cc)

told_true : {R : Type 0} (v : Option (VolumeView R)) (l : List R) → Tells v l → tells v ≡ true
told_true None l t = refl
told_true (Some v) l t = ap (λ (o : Option (List _)). is_some o) t

module _ {V : Type 0} {G : Ghosts V} where
  pub stays_same : (d : Device V G) → StaysKept d d
  stays_same d first p s = s

  -- what was pledged before a run is kept behind it
  pub stays_within : (most : Losses) (x d e : Device V G) → StaysKept d e → KeepsWithin most x d → KeepsWithin most x e
  stays_within most x d e on kept = λ first told began. on first (pledge_with told x most) (kept first told began)

  pub none_moves : (d : Device V G) (path : ℕ) → 1 ≤ path → path ≤ 4 → Moves path d d
  none_moves d path least most = record {
    stays = stays_same d;
    count = command_count (device_of d) path;
    counts = others_set (device_of d) (device_of d) path least most (record { counts = λ q no. refl });
  }

  -- a device that stands tells all
  pub stands_tells : {first : ℕ → List Track} {K : Type 0} (d : Device V G) (u : Outside (List ℕ) K) (port : PortView) (k : K) →
      u ≡ told_planned (outside port d.store k) → StandsOn first (device_of d) u →
      (tells (told_of d).a && tells (told_of d).b) ≡ true
  stands_tells d u port k is s =
      let t = s.beside.untold in
      let held = s.beside.held in
      and_from (tells (told_of d).a) (tells (told_of d).b)
      (told_true (told_of d).a held.a (subst (λ (u : Outside _ _). Tells u.a held.a) is t.a))
      (told_true (told_of d).b held.b (subst (λ (u : Outside _ _). Tells u.b held.b) is t.b))

  module _ (d e : Device V G) (old new : PortView) where
    abbrev pub u : Outside (List ℕ) NoKeep
    u = told_planned (outside old d.store no_keep)

    abbrev pub z : Outside (List ℕ) NoKeep
    z = told_planned (outside new e.store no_keep)

    abbrev pub Came : {A : Type 0} → (Bool → Type 0) → Interaction (List ℕ) Image WholeDevice A → A → Type 0
    Came had i a = Ran had hears i (outside old d.store no_keep) (device_of e) a (outside new e.store no_keep)

    pub of_keeps : {first : ℕ → List Track} (p : Pledge) → KeepsPledge first p d → StaysInTurn p (device_of d) (handed_of p.told d) u
    of_keeps p k = record { keeps = k.keeps.keeps; allowance = k.keeps.allowance; none = k.keeps.none }

    pub of_stands : {first : ℕ → List Track} → StandsOn first (device_of d) (told_of d) → StandsOn first (device_of d) u
    of_stands s = stands_there (device_of d) (told_of d) u (λ h t. record { a = t.a; b = t.b; slots = t.slots }) s

    pub to_stands : {first : ℕ → List Track} → StandsOn first (device_of e) z → StandsOn first (device_of e) (told_of e)
    to_stands s = stands_there (device_of e) z (told_of e) (λ h t. record { a = t.a; b = t.b; slots = t.slots }) s

    -- behind an event that keeps the pledge and lets the device stand
    pub to_keeps : {first : ℕ → List Track} (p : Pledge) (tells_before : Bool) →
        StaysInTurn p (device_of e) (record { allowance = allowance_in z; tells = tells_before; told = p.told }) z →
        (p.told ≡ true → StandsOn first (device_of e) z) → KeepsPledge first p e
    to_keeps p before k stands = record {
      keeps = record {
        keeps = record {
          number = k.keeps.number;
          geometry = k.keeps.geometry;
          cylinders = k.keeps.cylinders;
          plans = k.keeps.plans;
          lent = k.keeps.lent;
          was_lent = k.keeps.was_lent;
          journal = k.keeps.journal;
          still = k.keeps.still;
          cache = k.keeps.cache;
          store = k.keeps.store;
          sides = k.keeps.sides;
          failures = k.keeps.failures;
          tells = λ told. stands_tells e z new no_keep refl (stands told);
          told = k.keeps.told;
          checks = k.keeps.checks;
        };
        allowance = refl;
        none = k.none;
      };
      stands = λ told home. to_stands (stands told);
    }

    module _ (home : (device_of d).store.lent ≡ None) where
      pub command_stays : {a : Option Stepped} → (device_of d).store.half ≡ None → Runs (device_of d).history.running →
          IfSome (device_of d).chain IsChain → Came (λ ok. ok ≡ true) (command contents (device_of d)) a → StaysKept d e
      command_stays {a = a} none runs chain r first p k =
          let chains = chain_told (device_of d).chain chain in
          let ran = ran_planned r in
          to_keeps p _
          (command_kept contents hears p (handed_of p.told d) (device_of d) (device_of e) u z (of_keeps p k) home
          (λ told. command_checks (of_stands (k.stands told home)).beside (λ _ m r l h. h) a runs.entry none runs.is chains ran) a
          (ran_weaker (λ ok h. tt) ran))
          (λ told. command_stands (of_stands (k.stands told home)) (λ _ m r l h. h) a runs.entry none runs.is chains ran)

      pub second_stays : {a : SecondEnd} (h : HalfWrite Image) → (device_of d).store.half ≡ Some h →
          Came (λ ok. ok ≡ true) (second contents (device_of d)) a → StaysKept d e
      second_stays {a = a} h half r first p k =
          let ran = ran_planned r in
          to_keeps p _
          (second_kept contents hears p (handed_of p.told d) (device_of d) (device_of e) u z (of_keeps p k) home
          (λ told. second_checks (of_stands (k.stands told home)).beside (λ _ m r l h. h) a ran) a (ran_weaker (λ ok h. tt) ran))
          (λ told. second_stands (of_stands (k.stands told home)) (λ _ m r l h. h) a h half ran)

      pub background_stays : {a : Option Did} → (device_of d).store.half ≡ None → Came (λ ok. ok ≡ true) (background contents (device_of d)) a → StaysKept d e
      background_stays {a = a} none r first p k =
          let told_ran = ran_planned r in
          let ran = ran_weaker (λ ok h. tt) told_ran in
          to_keeps p _
          (background_kept contents hears p (handed_of p.told d) (device_of d) (device_of e) u z (of_keeps p k) home
          (λ told. background_checks contents (device_of d) ran) a ran)
          (λ told. background_stands (of_stands (k.stands told home)) (λ _ m r l h. h) a none told_ran)

      module _ (path : ℕ) (least : 1 ≤ path) (most : path ≤ 4) (runs : is_path_of (device_of d).history.running path ≡ true) where
        pub command_moves : {a : Option Stepped} → (device_of d).store.half ≡ None → IfSome (device_of d).chain IsChain →
            Came (λ ok. ok ≡ true) (command contents (device_of d)) a → Moves path d e
        command_moves none chain r = record {
          stays = command_stays none (runs_some path (device_of d).history.running runs) chain r;
          count = command_count (device_of e) path;
          counts = others_set (device_of d) (device_of e) path least most (command_counts contents (device_of d) path runs (ran_weaker (λ ok h. tt) r));
        }

        pub second_moves : {a : SecondEnd} (h : HalfWrite Image) → (device_of d).store.half ≡ Some h →
            Came (λ ok. ok ≡ true) (second contents (device_of d)) a → Moves path d e
        second_moves h half r = record {
          stays = second_stays h half r;
          count = command_count (device_of e) path;
          counts = others_set (device_of d) (device_of e) path least most (second_counts contents (device_of d) path runs (ran_weaker (λ ok h. tt) r));
        }

      pub background_moves : {a : Option Did} → (device_of d).store.half ≡ None → Came (λ ok. ok ≡ true) (background contents (device_of d)) a → Moves 5 d e
      background_moves none r = record {
        stays = background_stays none r;
        count = 0;
        counts = same_counts (device_of d) (device_of e) (background_acts contents (device_of d) (ran_weaker (λ ok h. tt) r));
      }

      pub own_second_moves : {a : SecondEnd} (h : HalfWrite Image) → (device_of d).store.half ≡ Some h → h.origin ≡ OfBackground →
          Came (λ ok. ok ≡ true) (second contents (device_of d)) a → Moves 5 d e
      own_second_moves h half own r = record {
        stays = second_stays h half r;
        count = 0;
        counts = same_counts (device_of d) (device_of e) (own_second_acts contents (device_of d) h half own (ran_weaker (λ ok h. tt) r));
      }

  -- a start
  module _ (d e : Device V G) (path : ℕ) (least : 1 ≤ path) (most : path ≤ 4) (is : device_of e ≡ start (device_of d) path)
      (same : e.store ≡ d.store) where
    -- what a store's volumes tell
    abbrev told_by : DeviceStore V G → Outside (List ℕ) (Unit {0})
    told_by x = told_planned (outside (no_pool 0) x (tt {0}))

    abbrev KeepsStarted : (ℕ → List Track) → Pledge → DeviceStore V G → Type 0
    KeepsStarted first p x =
        StaysInTurn p (start (device_of d) path) (record {
          allowance = allowance_in (told_by x);
          tells = tells (told_by x).a && tells (told_by x).b;
          told = p.told;
        }) (told_by x)
        × (p.told ≡ true → (device_of d).store.lent ≡ None → StandsOn first (start (device_of d) path) (told_by x))

    started_keeps : (first : ℕ → List Track) (p : Pledge) → (start_fault (device_of d) path ≡ None) → KeepsPledge first p d → (x : DeviceStore V G) →
        x ≡ d.store → KeepsStarted first p x
    started_keeps first p none k x as_before =
        subst (KeepsStarted first p) (sym as_before) (
          start_kept p (handed_of p.told d) (device_of d) (told_of d) path k.keeps,
          (λ told home. start_stands (device_of d) (told_of d) path (k.stands told home) least most none),
        )

    pub started_stays : (start_fault (device_of d) path ≡ None) → StaysKept d e
    started_stays none first p k =
        let on = started_keeps first p none k e.store same in
        record {
          keeps = subst (λ (x : WholeDevice). StaysInTurn p x (handed_of p.told e) (told_of e)) (sym is) on.0;
          stands = λ told home. subst (λ (x : WholeDevice). StandsOn first x (told_of e)) (sym is) (on.1 told (lent_same home));
        }
      where
        lent_same : (device_of e).store.lent ≡ None → (device_of d).store.lent ≡ None
        lent_same home = ap (λ (x : DeviceStore V G). x.pair.lent) (sym same) ∙ home

    pub started_moves : (start_fault (device_of d) path ≡ None) → Moves path d e
    started_moves none = record {
      stays = started_stays none;
      count = command_count (device_of e) path;
      counts = others_set (device_of d) (device_of e) path least most
          (subst (λ (x : WholeDevice). OtherPaths path (device_of d).history x.history) (sym is) (start_counts (device_of d) path (starts_where_idle (device_of d) path none)));
    }
