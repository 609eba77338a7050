-- A device keeps what was pledged of it where a volume comes in the place of a failed side's.
use Rattle.std.proofs.Common.{◌≡◌, ◌*◌, Bool, true, false, List, length, ℕ, Option, Some, None, refl, sym, ap, subst, ◌∙◌, arith}
use Rattle.std.proofs.lemmas.Bool.{and_from, and_parts}
use Rattle.std.specs.Prelude.{◌&&◌, is_some}
use Rattle.ckd_types.specs.declared.paths.Side.{Side}
use Rattle.ckd_types.specs.declared.paths.Side.TheVariants.{A, B}
use Rattle.device_outside.specs.declared.volume.Volume.{Ghosts}
use Rattle.device_outside.specs.Outside.{Outside, no_pool, with_view}
use Rattle.device_outside.specs.Volume.{VolumeView}
use Rattle.device_defs.specs.Orders.{replace}
use Rattle.device_defs.specs.Pledge.{Handed, Pledge, StaysWithin, seat_counts}
use Rattle.device_defs.specs.Store.{SideMarks, new_side, tracks_of}
use Rattle.duplex_pair.specs.Sides.{other_of, volume_of}
use Rattle.duplex_pair.specs.declared.pair.SideVolumes.{SideVolumes}
use Rattle.device_laws.specs.Handed.{StaysInTurn, allowance_in, in_all}
use Rattle.device_laws.specs.Whole.{WholeDevice}
use Rattle.subsystem_core.proofs.Coming.{is_home}
use Rattle.subsystem_defs.specs.Refusals.{replace_fault}
use Rattle.subsystem_laws.specs.Standing.{StandsOn}
use Rattle.subsystem_laws.proofs.turning.Orders.{replaced_stands}
use Rattle.device_store.specs.State.{outside_of}
use Rattle.device_core.specs.declared.device.Device.{Device}
use Rattle.device_core.specs.State.{device_of}
use Rattle.path_workers.specs.Keeping.{handed_of, tells, told_of}
use Rattle.path_workers.specs.Planned.{as_planned, told_planned}
use Rattle.path_workers.proofs.Keeping.{none_of}
use Rattle.path_workers.proofs.Planned.{with_planned}
use Rattle.path_workers.specs.Ordered.{IsOrdered, IsPledged}
use Rattle.path_workers.specs.Spare.{TellsTracks}

abbrev Told : Type 0
Told = Outside (List ℕ) (Unit {0})

-- what a volume tells

is_told : (o : Option (List (List ℕ))) (n : ℕ) → TellsTracks o n → is_some o ≡ true
is_told (Some all) n h = refl
is_told None n h = absurd h

record HasTracks (o : Option (List (List ℕ))) (n : ℕ) : Type 0 where
  all : List (List ℕ)
  is : o ≡ Some all
  long : length all ≡ n

has_tracks : (o : Option (List (List ℕ))) (n : ℕ) → TellsTracks o n → HasTracks o n
has_tracks (Some all) n h = record { all = all; is = refl; long = h }
has_tracks None n h = absurd h

-- a volume of which no call fails leaves no more calls that may

sure_first : (n failed : ℕ) (old other : Option ℕ) → StaysWithin (Some n) failed (in_all old other) → StaysWithin (Some n) failed (in_all (Some 0) other)
sure_first n failed (Some x) (Some y) within = omega (arith, within)
sure_first n failed (Some x) None within = within
sure_first n failed None other within = absurd within

sure_second : (n failed : ℕ) (other old : Option ℕ) → StaysWithin (Some n) failed (in_all other old) → StaysWithin (Some n) failed (in_all other (Some 0))
sure_second n failed (Some x) (Some y) within = omega (arith, within)
sure_second n failed (Some x) None within = absurd within
sure_second n failed None old within = within

stays_first : (most : Option ℕ) (failed : ℕ) (old other new : Option ℕ) → (is_some most ≡ true → new ≡ Some 0) → StaysWithin most failed (in_all old other) →
    StaysWithin most failed (in_all new other)
stays_first None failed old other new sure within = tt
stays_first (Some n) failed old other new sure within =
    subst (λ (o : Option ℕ). StaysWithin (Some n) failed (in_all o other)) (sym (sure refl)) (sure_first n failed old other within)

stays_second : (most : Option ℕ) (failed : ℕ) (other old new : Option ℕ) → (is_some most ≡ true → new ≡ Some 0) → StaysWithin most failed (in_all other old) →
    StaysWithin most failed (in_all other new)
stays_second None failed other old new sure within = tt
stays_second (Some n) failed other old new sure within =
    subst (λ (o : Option ℕ). StaysWithin (Some n) failed (in_all other o)) (sym (sure refl)) (sure_second n failed other old within)

-- a device with other marks of its sides, over volumes of which no more calls may fail

abbrev handed : Bool → Told → Handed
handed told w = record { allowance = allowance_in w; tells = tells w.a && tells w.b; told = told }

module _ (p : Pledge) (x : WholeDevice) (u w : Told) (a b : SideMarks) where
  sides_keep : StaysInTurn p x (handed p.told u) u → (p.told ≡ true → (tells w.a && tells w.b) ≡ true) →
      StaysWithin p.failures x.store.counts.failed (allowance_in w) →
      StaysInTurn p (record x { store = record x.store { a = a; b = b } }) (handed p.told w) w
  sides_keep k told within = record {
    keeps = record {
      number = k.keeps.number;
      geometry = k.keeps.geometry;
      cylinders = k.keeps.cylinders;
      plans = k.keeps.plans;
      lent = k.keeps.lent;
      was_lent = k.keeps.was_lent;
      journal = k.keeps.journal;
      still = k.keeps.still;
      cache = k.keeps.cache;
      store = k.keeps.store;
      sides = k.keeps.sides;
      failures = within;
      tells = told;
      told = k.keeps.told;
      checks = k.keeps.checks;
    };
    allowance = refl;
    none = k.none;
  }

module _ (p : Pledge) (x : WholeDevice) (u : Told) (v : VolumeView (List ℕ)) (is_sure : is_some p.failures ≡ true → v.allowance ≡ Some 0)
    (is_there : p.told ≡ true → is_some v.contents ≡ true) where
  replaced_keeps : (side : Side) → StaysInTurn p x (handed p.told u) u →
      StaysInTurn p (replace x side) (handed p.told (with_view u side v)) (with_view u side v)
  replaced_keeps A k =
      sides_keep p x u (with_view u A v) (new_side (tracks_of x.store) true) x.store.b k
      (λ told. and_from (is_some v.contents) (tells u.b) (is_there told) (and_parts (tells u.a) (tells u.b) (k.keeps.tells told)).1)
      (stays_first p.failures x.store.counts.failed _ _ v.allowance is_sure k.keeps.failures)
  replaced_keeps B k =
      sides_keep p x u (with_view u B v) x.store.a (new_side (tracks_of x.store) true) k
      (λ told. and_from (tells u.a) (is_some v.contents) (and_parts (tells u.a) (tells u.b) (k.keeps.tells told)).0 (is_there told))
      (stays_second p.failures x.store.counts.failed _ _ v.allowance is_sure k.keeps.failures)

same_counts : (x : WholeDevice) (side : Side) → seat_counts (replace x side) ≡ seat_counts x
same_counts x A = refl
same_counts x B = refl

replaced_told : {V : Type 0} (view : V → VolumeView (List ℕ)) (x y : SideVolumes V) (side : Side) (volume : V) → volume_of y side ≡ Some volume →
    other_of y side ≡ other_of x side →
    outside_of (no_pool 0) view y (tt {0}) ≡ with_view (outside_of (no_pool 0) view x (tt {0})) side (view volume)
replaced_told {V} view x y A volume here other =
    ap (λ (o : Option V). outside_of (no_pool 0) view (record { a = o; b = y.b }) (tt {0})) here
    ∙ ap (λ (o : Option V). outside_of (no_pool 0) view (record { a = Some volume; b = o }) (tt {0})) other
replaced_told {V} view x y B volume here other =
    ap (λ (o : Option V). outside_of (no_pool 0) view (record { a = y.a; b = o }) (tt {0})) here
    ∙ ap (λ (o : Option V). outside_of (no_pool 0) view (record { a = o; b = Some volume }) (tt {0})) other

module _ {V : Type 0} {G : Ghosts V} where
  pub replaced_ordered : (d e : Device V G) (side : Side) (volume : V) → replace_fault (device_of d) side ≡ None →
      device_of e ≡ replace (device_of d) side → volume_of e.store.pair.volumes side ≡ Some volume →
      other_of e.store.pair.volumes side ≡ other_of d.store.pair.volumes side → IsOrdered (λ p. IsPledged p (G.view volume)) d e
  replaced_ordered d e side volume free is here other =
      let x = device_of d in
      let v = as_planned (G.view volume) in
      let home : x.store.lent ≡ None = none_of x.store.lent (is_home d side free) in
      let before : Told = outside_of (no_pool 0) G.view d.store.pair.volumes (tt {0}) in
      let told : told_of e ≡ with_view (told_of d) side v =
      ap (λ (w : Told). told_planned w) (replaced_told G.view d.store.pair.volumes e.store.pair.volumes side volume here other)
      ∙ sym (with_planned before side (G.view volume)) in
      record {
        kept = λ first p pledged k. record {
          keeps = subst (λ (y : WholeDevice). StaysInTurn p y (handed_of p.told e) (told_of e)) (sym is)
              (subst (λ (w : Told). StaysInTurn p (replace x side) (handed p.told w) w) (sym told)
              (replaced_keeps p x (told_of d) v pledged.sure (λ told. is_told v.contents (p.cylinders * 15) (pledged.tells told)) side k.keeps));
          stands = λ is_told _.
              let has = has_tracks v.contents (p.cylinders * 15) (pledged.tells is_told) in
              let long : length has.all ≡ tracks_of x.store = has.long ∙ ap (λ (n : ℕ). n * 15) (sym k.keeps.keeps.cylinders) in
              subst (λ (y : WholeDevice). StandsOn first y (told_of e)) (sym is)
              (subst (λ (w : Told). StandsOn first (replace x side) w) (sym told)
              (replaced_stands x (told_of d) v has.all has.is long side (k.stands is_told home) free));
        };
        counts = ap (λ (y : WholeDevice). seat_counts y) is ∙ same_counts x side;
      }
