-- Which tracks a keeper may be told of behind an event, and events whose keeper keeps nothing.
use Rattle.std.proofs.Common.{◌≡◌, ◌∙◌, ◌<◌, ◌*◌, ℕ, Bool, true, false, List, [], ◌∷◌, Option, Some, length, map, get_or, set, refl, sym, ap, subst}
use Rattle.std.specs.Prelude.{◌==◌, All, IfSome, if◌then◌else◌}
use Rattle.std.proofs.Math.Seq.{map-set_same}
use Rattle.std.proofs.lemmas.List.{get_or-map, length-map}
use Rattle.std.proofs.lemmas.List.Elements.{All-head, All-tail}
use Rattle.ckd_types.specs.declared.paths.Side.{Side}
use Rattle.ckd_types.specs.declared.paths.Side.TheVariants.{A, B}
use Rattle.track_image.specs.Image.{Image}
use Rattle.device_outside.specs.declared.keep.NoKeep.{NoKeep}
use Rattle.device_outside.specs.declared.volume.Volume.{Ghosts}
use Rattle.device_outside.specs.Interaction.{Interaction}
use Rattle.device_outside.specs.Keeper.{Heard, Hearing}
use Rattle.device_outside.specs.Outside.{Outside, Ran, done, tried, asked, read, wrote, told, with_view}
use Rattle.device_outside.specs.Volume.{VolumeView}
use Rattle.frame_pool.specs.Shared.{Shared}
use Rattle.device_defs.specs.Contents.{contents}
use Rattle.device_store.specs.State.{Takes}
use Rattle.device_store.proofs.Moves.{heard_alone}
use Rattle.device_core.specs.declared.device.Device.{Device}
use Rattle.device_core.specs.State.{DefinedDevice}
use Rattle.subsystem_defs.specs.declared.event.Event.{Event}
use Rattle.subsystem_defs.specs.Deeds.{Ends, Becomes, Asks, Each, Repairs, Lends, deed}
use Rattle.subsystem_core.specs.declared.end.EventEnd.{EventEnd}
use Rattle.subsystem_core.specs.declared.subsystem.Subsystem.{Subsystem}
use Rattle.subsystem_core.specs.Comes.{
  OwnDeed,
  Talk,
  Changes,
  SweptBy,
  over,
  next,
  SweepsOne,
  SweepsKept,
  CameBy,
  Came,
  CameKeptBy,
  CameKept,
  Joins,
  JoinsKept,
}
use Rattle.subsystem_core.specs.Devices.{devices_of, device_at, numbers_of}
use Rattle.subsystem_core.specs.Keepers.{Span, span_of, spans_of, TakesAll, hears_none}

-- Numbers and sizes

abbrev number_in : Span → ℕ
number_in s = s.number

module _ {V : Type 0} {G : Ghosts V} where
  same_span : (x y : Device V G) → y.store.number ≡ x.store.number → y.store.cylinders ≡ x.store.cylinders → y.store.geometry ≡ x.store.geometry →
      span_of y ≡ span_of x
  same_span x y number cylinders geometry = rw (number, cylinders, geometry) refl

  pub spans_kept : (ds : List (Device V G)) (i : ℕ) (x y : Device V G) → x ≡ get_or ds i x → y.store.number ≡ x.store.number →
      y.store.cylinders ≡ x.store.cylinders → y.store.geometry ≡ x.store.geometry → spans_of (set ds i y) ≡ spans_of ds
  spans_kept ds i x y here number cylinders geometry = map-set_same span_of ds i y x (same_span x y number cylinders geometry ∙ ap span_of here)

  by_spans : (ds : List (Device V G)) → numbers_of ds ≡ map number_in (spans_of ds)
  by_spans [] = refl
  by_spans (d ∷ ds) = ap (λ (ns : List ℕ). d.store.number ∷ ns) (by_spans ds)

  pub numbers_by_spans : (xs ys : List (Device V G)) → spans_of xs ≡ spans_of ys → numbers_of xs ≡ numbers_of ys
  numbers_by_spans xs ys same = by_spans xs ∙ ap (map number_in) same ∙ sym (by_spans ys)

-- What a keeper may be told

module _ {K : Type 0} (takes : K → ℕ → ℕ → Image → Type 0) where
  -- with all that it might be called with before
  abbrev pub Still : K → K → Type 0
  Still old new = (d t : ℕ) (i : Image) → takes old d t i → takes new d t i

  same_still : (old new : K) → new ≡ old → Still old new
  same_still old new is d t i may = subst (λ (k : K). takes k d t i) (sym is) may

module _ {V : Type 0} {G : Ghosts V} where
  at_by : (p : Device V G → Type 0) (d : Device V G) (o : Option (Device V G)) (b : Bool) → p d → IfSome o p → IfSome (if b then Some d else o) p
  at_by p d o true first rest = first
  at_by p d o false first rest = rest

  all_at : (p : Device V G → Type 0) (ds : List (Device V G)) (n : ℕ) → All p ds → IfSome (device_at ds n) p
  all_at p [] n all = tt
  all_at p (d ∷ ds) n all =
      at_by p d (device_at ds n) (d.store.number == n) (All-head p d ds all) (all_at p ds n (All-tail p d ds all))

module _ {V : Type 0} {G : Ghosts V} {K : Type 0} {takes : K → ℕ → ℕ → Image → Type 0} where
  -- of the device of a number
  pub takes_at : (k : K) (ds : List (Device V G)) (n : ℕ) → TakesAll takes k ds →
      IfSome (device_at ds n) (λ x. Takes takes k x.store.number x.store.geometry (x.store.cylinders * 15))
  takes_at k ds n all = all_at (λ (x : Device V G). Takes takes k x.store.number x.store.geometry (x.store.cylinders * 15)) ds n all

  takes_span : (k l : K) (x y : Device V G) → Still takes k l → span_of y ≡ span_of x → Takes takes k x.store.number x.store.geometry (x.store.cylinders * 15) →
      Takes takes l y.store.number y.store.geometry (y.store.cylinders * 15)
  takes_span k l x y still is may =
      subst (λ (s : Span). Takes takes l s.number s.geometry (s.cylinders * 15)) (sym is)
      (record { all = λ t i below of fits. still x.store.number t i (may.all t i below of fits) })

  -- of all devices that are where these were
  pub takes_on : (k l : K) (olds news : List (Device V G)) → Still takes k l → spans_of news ≡ spans_of olds → TakesAll takes k olds →
      TakesAll takes l news
  takes_on k l olds news still same all i d within =
      let count : length news ≡ length olds = sym (length-map news span_of) ∙ ap length same ∙ length-map olds span_of in
      let there : i < length olds = subst (λ (n : ℕ). i < n) count within in
      let is : span_of (get_or news i d) ≡ span_of (get_or olds i d) =
      sym (get_or-map span_of news i d (span_of d) within) ∙ ap (λ (ss : List Span). get_or ss i (span_of d)) same
      ∙ get_or-map span_of olds i d (span_of d) there in
      takes_span k l (get_or olds i d) (get_or news i d) still is (all i d there)

-- Behind what was run

view_keeper : {R K : Type 0} (w : Outside R K) (side : Side) (v : VolumeView R) → w.keeper ≡ (with_view w side v).keeper
view_keeper w A v = refl
view_keeper w B v = refl

pub ran_still : {R K S X : Type 0} {had : Bool → Type 0} {hears : Hearing Image K} (takes : K → ℕ → ℕ → Image → Type 0) {i : Interaction R Image S X}
    {before behind : Outside R K} {s : S} {a : X} → Ran had (Heard hears takes) i before s a behind → Still takes before.keeper behind.keeper
ran_still takes done = λ d t i may. may
ran_still takes (tried ok x r) = ran_still takes r
ran_still takes (asked says r) = ran_still takes r
ran_still takes (read {side = side} {u = u} {w = w} {z = z} is of r) =
    subst (λ k. Still takes k z.keeper) (sym (view_keeper w side u)) (ran_still takes r)
ran_still takes (wrote {side = side} {u = u} {w = w} {z = z} is of r) =
    subst (λ k. Still takes k z.keeper) (sym (view_keeper w side u)) (ran_still takes r)
ran_still takes (told reply heard x r) = λ d t i may. ran_still takes r d t i (heard.still d t i may)

module _ {V : Type 0} {G : Ghosts V} {K : Type 0} (hears : Hearing Image K) (takes : K → ℕ → ℕ → Image → Type 0) where
  pub swept_still : (f : DefinedDevice → Talk (Unit {0})) {s z : Shared × K} {xs ys : List (Device V G)} →
      SweptBy (SweepsKept (Heard hears takes) f) s xs ys z → Still takes s.1 z.1
  swept_still f over = λ d t i may. may
  swept_still f (next ran rest) = λ d t i may. swept_still f rest d t i (ran_still takes ran d t i may)

  deed_still : (e : OwnDeed) (old new : Subsystem V G) (k l : K) (a : Option EventEnd) → CameKeptBy (Heard hears takes) e old k a new l →
      Still takes k l
  deed_still (Ends end) old new k l a came = same_still takes k l came.1
  deed_still (Becomes d end) old new k l a came = same_still takes k l came.1
  deed_still (Asks d talk) old new k l a came = ran_still takes came.is_so
  deed_still (Each pool f) old new k l a came = swept_still f came.1
  deed_still (Repairs pool) old new k l a came = same_still takes k l came.1
  deed_still (Lends x y) old new k l a came = same_still takes k l came.2

  pub came_still : (e : Event) (old new : Subsystem V G) (k l : K) (a : Option EventEnd) → CameKept (Heard hears takes) e old k a new l →
      Still takes k l
  came_still e old new k l a came = deed_still (deed contents old.pool.pool (devices_of old.devices.items) e) old new k l a came

-- A keeper that keeps nothing

-- it hears all, and may be called with all
abbrev pub none_heard : Hearing Image NoKeep
none_heard = Heard hears_none (λ _ _ _ _. Unit {0})

module _ {V : Type 0} {G : Ghosts V} where
  pub none_takes : (k : NoKeep) (ds : List (Device V G)) → TakesAll (λ _ _ _ _. Unit {0}) k ds
  none_takes k ds i d within = record { all = λ t image below of fits. tt }

  -- a device changed so, said in another way
  pub changed_less : {n : ℕ} {olds news : List (Device V G)} {how less : Device V G → Device V G → Type 0} → ((x y : Device V G) → how x y → less x y) →
      Changes n how olds news → Changes n less olds news
  changed_less f ch = record {
    before = ch.before;
    behind = ch.behind;
    stood = ch.stood;
    stands = ch.stands;
    is_so = f ch.before ch.behind ch.is_so;
  }

  plain_sweep : (f : DefinedDevice → Talk (Unit {0})) {s z : Shared × NoKeep} {xs ys : List (Device V G)} → SweptBy (SweepsKept none_heard f) s xs ys z →
      SweptBy (SweepsOne f) s.0 xs ys z.0
  plain_sweep f over = over
  plain_sweep f (next ran rest) = next (λ (j : NoKeep). heard_alone ran) (plain_sweep f rest)

  plain_joins : {to from : ℕ} {y : DefinedDevice} {old new : Subsystem V G} → JoinsKept none_heard to from y old new → Joins to from y old new
  plain_joins j = record {
    before = j.before;
    behind = j.behind;
    first = j.first;
    second = j.second;
    volume = j.volume;
    stood = j.stood;
    asked = λ (k : NoKeep). heard_alone (j.asked k);
    gone = j.gone;
    other = j.other;
    joined = j.joined;
    a = j.a;
    b = j.b;
    stands = j.stands;
  }

  plain_by : (e : OwnDeed) (old new : Subsystem V G) (k l : NoKeep) (a : Option EventEnd) → CameKeptBy none_heard e old k a new l → CameBy e old a new
  plain_by (Ends end) old new k l a came = came.0
  plain_by (Becomes d end) old new k l a came = came.0
  plain_by (Asks d talk) old new k l a came = changed_less (λ x y ran. λ (j : NoKeep). heard_alone ran) came
  plain_by (Each pool f) old new k l a came = (came.0, plain_sweep f came.1)
  plain_by (Repairs pool) old new k l a came = came.0
  plain_by (Lends x y) old new k l a came = (came.0, plain_joins came.1)

  pub came_plain : (e : Event) (old new : Subsystem V G) (k l : NoKeep) (a : Option EventEnd) → CameKept none_heard e old k a new l → Came e old a new
  came_plain e old new k l a came = plain_by (deed contents old.pool.pool (devices_of old.devices.items) e) old new k l a came
