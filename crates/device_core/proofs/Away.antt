-- A device that lends its volume is still beside the plain device of its history; and on an empty volume it stands beside it again.
use Rattle.std.proofs.Common.{◌≡◌, ◌≤◌, ◌<◌, ◌*◌, ℕ, Bool, true, false, List, [], Option, Some, None, Result, Ok, Err, is_some, refl, sym, ap, subst, ◌∙◌}
use Rattle.std.specs.Prelude.{OnOk, option_map}
use Rattle.ckd_types.specs.declared.memory.NoMemory.{NoMemory}
use Rattle.ckd_types.specs.declared.paths.Side.TheVariants as sides
use Rattle.ckd_types.specs.declared.record.Track.{Track}
use Rattle.ckd_types.specs.Volume.{empty_volume}
use Rattle.loss_model.specs.declared.Loss.{Loss}
use Rattle.loss_model.specs.declared.Loss.TheVariants as losses
use Rattle.plain_defs.specs.Journal.{Plans}
use Rattle.plain_defs.specs.Whole.{GiveBytes}
use Rattle.track_image.specs.Image.{Image}
use Rattle.device_outside.specs.declared.volume.Volume.{Ghosts}
use Rattle.device_outside.specs.After.{Holdings, Tells}
use Rattle.device_outside.specs.Disk.{empty_contents}
use Rattle.device_outside.specs.Interaction.{Interaction}
use Rattle.device_outside.specs.Keeper.{Hearing}
use Rattle.device_outside.specs.Outside.{Outside, PortView, Ran, where_ok, with_view}
use Rattle.device_outside.specs.Volume.{VolumeView}
use Rattle.device_defs.specs.declared.answers.Did.{Did}
use Rattle.device_defs.specs.Contents.{Contents, contents}
use Rattle.device_defs.specs.Cutting.{power, reset}
use Rattle.device_defs.specs.Device.{Device, event_ended}
use Rattle.device_defs.specs.Events.{background, lose}
use Rattle.device_defs.specs.Marks.{MarksDevice, half_mark}
use Rattle.device_defs.specs.Orders as O
use Rattle.device_defs.specs.Orders.{lend, restore}
use Rattle.device_defs.specs.Owed.{noted_end, waiting_count}
use Rattle.device_defs.specs.Peek.{Peeked, peek}
use Rattle.device_defs.specs.Store.{is_lost, tracks_of}
use Rattle.device_laws.specs.SoundOn.{IsSoundAtOn, IsSoundOn, begun_as}
use Rattle.device_laws.specs.Whole.{WholeDevice, WholeTwin, WholeTwins, holding, marks_device}
use Rattle.device_laws.proofs.Always.{Always, always_done, always_then, always_weaker}
use Rattle.device_laws.proofs.DeviceCuts.{always_any}
use Rattle.device_laws.proofs.Had.{Had}
use Rattle.device_laws.proofs.KeepLaws.{always_ran}
use Rattle.device_laws.proofs.KeptEvents.{Continues, background_goes, lose_goes}
use Rattle.device_laws.proofs.Lending.{lend_whole}
use Rattle.device_laws.proofs.Lent.{IsShared, LeavesLent, background_lent, loss_lent, power_lent, reset_lent}
use Rattle.device_laws.proofs.PlainCuts.{reset_follows}
use Rattle.device_laws.proofs.PlainEvents.{had_always}
use Rattle.device_laws.proofs.PlainLosses.{background_follows, loss_follows}
use Rattle.device_laws.proofs.PlainOrders.{lend_follows, restore_follows}
use Rattle.device_laws.proofs.PlainPower.{power_follows}
use Rattle.device_laws.proofs.PlainTurns.{Follows}
use Rattle.device_laws.proofs.Restoring.{restore_order, restore_same}
use Rattle.past_laws.specs.PutAway.{PutAway}
use Rattle.past_laws.proofs.Events.{background_same, lend_same, lose_same, peek_same, power_same, reset_same}
use Rattle.device_store.specs.State.{had, on_a, on_b, outside, surely}
use Rattle.subsystem_laws.specs.Came.{CameTo}
use Rattle.subsystem_laws.specs.Standing.{IsBesideOn, Untold}
use Rattle.subsystem_laws.proofs.Came.{came_had}
use Rattle.subsystem_laws.proofs.Shapes.{power_shape, reset_shape}
use Rattle.subsystem_laws.proofs.looking.EitherWay.{look_had}
use Rattle.subsystem_laws.proofs.looking.Keeps.{peek_keeps_own}
use Rattle.subsystem_laws.proofs.looking.LentPeek.{peek_lent}
use Rattle.subsystem_laws.proofs.turning.Beside.{beside_there, itself, own_follows}
use Rattle.subsystem_laws.proofs.turning.Sound.{beside_plain, beside_sound}
use Rattle.subsystem_laws.proofs.turning.Untold.{replied, twinned}
use Rattle.subsystem_laws.proofs.turning.Wanting.{peek_stays}
use Rattle.device_core.specs.declared.device.Device as core
use Rattle.device_core.specs.Promises.{
  ComesPlain,
  ComesSound,
  HasLostNone,
  IsLentBeside,
  LeavesPlain,
  StandsLent,
  StandsPlain,
  StaysLent,
  StaysSound,
  TakesNoSide,
  told_by,
  whole_of,
}
use Rattle.device_core.specs.WholePast.{SoWithPast}
use Rattle.device_core.specs.State.{DefinedDevice, device_of}
use Rattle.device_core.proofs.Ordering.{side_told}
use Rattle.device_core.proofs.WholePasts.{idle_whole, restore_on, run_on, then_on}

-- Its plans stay

module _ {F P H R : Type 0} (c : Contents F P H R) where
  lend_plans : (d : Device F P H) (to : ℕ) → Always (lend c d to) (λ y (_ : Unit {0}). y.plans ≡ d.plans)
  unfolding O.lend
  lend_plans d to =
      always_then {S = Device F P H} {A = Unit {0}} {f = event_ended c d} {p = λ y _. y.plans ≡ d.plans} (always_done refl)
      (λ y a g. always_then (always_any (noted_end c (waiting_count c d.store) y.store)) (λ z _ _. always_done g))

-- Over contents

abbrev marks : {first : List Track} {K : Type 0} {d : WholeDevice} {u : Outside (List ℕ) K} → IsLentBeside first d u → MarksDevice
marks {d = d} s = marks_device s.plain s.firm d

shared : (loss : Loss) → TakesNoSide loss → IsShared loss
shared losses.Cache no_side = tt
shared losses.Store no_side = tt
shared (losses.Side side) no_side = no_side

module _ (first : List Track) {K : Type 0} (d : WholeDevice) {e : WholeDevice} {u z : Outside (List ℕ) K} {hears : Hearing Image K} where
  -- what leaves it lent
  behind : {A : Type 0} {a : A} (h : Holdings (List ℕ)) → Untold u h → GiveBytes d.plans → {i : Interaction (List ℕ) Image WholeDevice A}
      {j : Interaction Bool Image MarksDevice A} → WholeTwins LeavesLent i j h → Had j (λ y _. Follows d.store.device (begun_as (λ (_ : ℕ). first) d) y) →
      ((t : CameTo j) (v w : List Track) → marks_device v w e ≡ t.state → e.plans ≡ d.plans) → Ran surely hears i u e a z → IsLentBeside first e z
  behind h untold gives {j = j} both follows plans r =
      let o = twinned [] (WholeTwin LeavesLent) (λ m y q l h. h) h both untold (replied r) in
      let t : CameTo j = record { state = o.state; answer = o.answer; is = o.came } in
      record {
        plain = o.is.plain;
        firm = o.is.firm;
        held = o.holdings;
        untold = o.untold;
        lent = o.is.is.lent;
        follows = own_follows (λ (_ : ℕ). first) d.store.device (begun_as (λ (_ : ℕ). first) d) (marks_device o.is.plain o.is.firm e)
            (subst (λ (x : MarksDevice). Follows d.store.device (begun_as (λ (_ : ℕ). first) d) x) (sym o.is.marks) (came_had follows t)) refl;
        gives = subst (λ (p : Plans). GiveBytes p) (sym (plans t o.is.plain o.is.firm o.is.marks)) gives;
      }

  -- the volume leaves
  lends : (to : ℕ) → IsBesideOn (λ (_ : ℕ). first) d u → d.store.paired ≡ false → d.history.running ≡ None → Ran surely hears (lend contents d to) u e tt z → IsLentBeside first e z
  lends to s single idle r =
      behind s.held s.untold s.gives (lend_whole s.plain s.firm d s.held to s.order single idle)
      (lend_follows d.store.device (begun_as (λ (_ : ℕ). first) d) (marks_device s.plain s.firm d) s.follows idle to)
      (λ t v w is. always_ran (lend contents d to) (λ y _. y.plans ≡ d.plans) (lend_plans contents d to).holds r) r

  -- Its events then

  module _ (s : IsLentBeside first d u) where
    works : {a : Option Did} → Ran surely hears (background contents d) u e a z → IsLentBeside first e z
    works r =
        behind s.held s.untold s.gives (background_lent s.plain s.firm d s.held s.lent)
        (background_follows d.store.device (begun_as (λ (_ : ℕ). first) d) (marks s) s.follows (ap (option_map half_mark) s.lent.store.half))
        (λ t v w is. (always_ran (background contents d) (λ y _. Continues d.plans d.history y)
        (background_goes contents d.plans d.history d (itself d)).holds r).plans) r

    looks : (track : ℕ) {a : Option Peeked} → Ran surely hears (peek contents d track) u e a z → IsLentBeside first e z
    looks track r =
        behind s.held s.untold s.gives (peek_lent s.plain s.firm d s.held track s.lent)
        (had_always (always_weaker (peek_stays d.store.device (begun_as (λ (_ : ℕ). first) d) (marks s) s.follows track) (λ y _ x. x.follows)))
        (λ t v w is. (peek_keeps_own d e track r).plans) r

    loses : (loss : Loss) → TakesNoSide loss → Ran surely hears (lose contents d loss) u e tt z → IsLentBeside first e z
    loses loss no_side r =
        behind s.held s.untold s.gives (loss_lent s.plain s.firm d s.held loss (shared loss no_side) s.lent)
        (loss_follows d.store.device (begun_as (λ (_ : ℕ). first) d) (marks s) s.follows loss)
        (λ t v w is. (always_ran (lose contents d loss) (λ y _. Continues d.plans d.history y)
        (lose_goes contents d.plans d.history d loss (itself d)).holds r).plans) r

    resets : (path : ℕ) → Ran surely hears (reset contents d path) u e tt z → IsLentBeside first e z
    resets path r =
        behind s.held s.untold s.gives (reset_lent s.plain s.firm d s.held path s.lent)
        (reset_follows d.store.device (begun_as (λ (_ : ℕ). first) d) (marks s) s.follows path)
        (λ t v w is. ap (λ (m : MarksDevice). m.plans) is ∙ (reset_shape (marks s) path t).1) r

    loses_power : Ran surely hears (power contents d) u e tt z → IsLentBeside first e z
    loses_power r =
        behind s.held s.untold s.gives (power_lent s.plain s.firm d s.held s.lent) (power_follows d.store.device (begun_as (λ (_ : ℕ). first) d) (marks s) s.follows)
        (λ t v w is. ap (λ (m : MarksDevice). m.plans) is ∙ (power_shape (marks s) t).1) r

-- an empty one comes
restores : {first : List Track} {K : Type 0} {d : WholeDevice} {u : Outside (List ℕ) K} (v : VolumeView (List ℕ)) → d.store.cylinders ≤ 4369 →
    v.contents ≡ Some (empty_contents (d.store.cylinders * 15)) → IsLentBeside first d u → IsBesideOn (λ (_ : ℕ). first) (restore d) (with_view u sides.A v)
restores {first = first} {d = d} v most tells s = record {
  plain = empty_volume d.store.cylinders;
  firm = empty_volume d.store.cylinders;
  held = holding s.held sides.A (empty_contents (d.store.cylinders * 15));
  untold = record { a = tells; b = s.untold.b; slots = s.untold.slots };
  order = restore_order s.plain s.firm d s.held s.lent.store most;
  follows =
      subst (λ (x : MarksDevice). Follows d.store.device (begun_as (λ (_ : ℕ). first) d) x) (sym (restore_same s.plain s.firm d s.held s.lent.store most))
      (restore_follows d.store.device (begun_as (λ (_ : ℕ). first) d) (marks_device s.plain s.firm d) s.follows s.lent.idle);
  gives = s.gives;
}

-- of a device that is lent nothing has to be held
lent_by_mark : (first : List Track) (d : WholeDevice) (h : Holdings (List ℕ)) (b : Bool) → b ≡ true →
    elim b as (λ (x : Bool). Type 0) [ true ↦ Unit {0} | false ↦ (t : ℕ) → t < tracks_of d.store → IsSoundAtOn (λ (_ : ℕ). first) d h t ]
lent_by_mark first d h true e = tt
lent_by_mark first d h false e = absurd (cc)

lent_sound : {first : List Track} {K : Type 0} {d : WholeDevice} {u : Outside (List ℕ) K} (s : IsLentBeside first d u) → IsSoundOn (λ (_ : ℕ). first) d s.held
lent_sound {first = first} {d = d} s = lent_by_mark first d s.held (is_some d.store.lent) s.lent.store.lent

-- over another outside of the same volumes
there : {first : List Track} {K L : Type 0} {d : WholeDevice} {u : Outside (List ℕ) K} {w : Outside (List ℕ) L} → ((h : Holdings (List ℕ)) → Untold u h → Untold w h) →
    IsLentBeside first d u → IsLentBeside first d w
there same s = record {
  plain = s.plain;
  firm = s.firm;
  held = s.held;
  untold = same s.held s.untold;
  lent = s.lent;
  follows = s.follows;
  gives = s.gives;
}

-- The calls

module _ {V : Type 0} {G : Ghosts V} (d e : core.Device V G) where
  module _ (single : (device_of d).store.paired ≡ false) (to : ℕ) {L : Type 0} (old new : PortView) (k : L) (x : Option V) (gone : on_a e.store ≡ None)
      {hears : Hearing Image L}
      (run : Ran surely hears (lend contents (device_of d) to) (outside old d.store k) (device_of e) tt
      (record (outside new e.store k) { a = option_map G.view x })) (idle : (device_of d).history.running ≡ None) where
    goes : (past : PutAway) (first : List Track) → StandsPlain past first d → StandsLent past first e
    goes past first s =
        let b : SoWithPast (IsBesideOn (λ (_ : ℕ). first)) past (device_of d) (outside old d.store k) =
        then_on s (beside_there (whole_of past d) (told_by d) (outside old d.store k) (λ h t. record { a = t.a; b = t.b; slots = t.slots })) in
        let l : SoWithPast (IsLentBeside first) past (device_of e) (record (outside new e.store k) { a = option_map G.view x }) =
        run_on b (lend_same contents surely hears past (device_of d) to b.away) run
        (λ y r. lends first (whole_of past d) to b.is single (idle_whole past (device_of d) idle) r) in
        then_on l (there (λ h t. record {
          a = subst (λ (o : Option V). Tells (option_map G.view o) h.a) (sym gone) tt;
          b = t.b;
          slots = t.slots;
        }))

    pub lend_sound : StaysSound d e
    lend_sound = record {
      sound = λ past first s. let l = (goes past first s).is in record { held = l.held; on_a = l.untold.a; on_b = l.untold.b; is = lent_sound l };
    }

    pub lend_leaves_plain : LeavesPlain d e
    lend_leaves_plain = record { stands = goes; history = λ past first s. (goes past first s).is.follows.stands.plain }

    pub lend_loses_none : (past : PutAway) (first : List Track) → StandsPlain past first d → HasLostNone e
    lend_loses_none past first s = record { none = (goes past first s).is.lent.store.lost }

  module _ (v : V) (is : device_of e ≡ restore (device_of d)) (a : on_a e.store ≡ Some v) (b : on_b e.store ≡ on_b d.store)
      (tells : (G.view v).contents ≡ Some (empty_contents (d.store.cylinders * 15))) where
    comes : (past : PutAway) (first : List Track) → StandsLent past first d → StandsPlain past first e
    comes past first s =
        subst (λ (y : DefinedDevice). SoWithPast (IsBesideOn (λ (_ : ℕ). first)) past y (told_by e)) (sym is)
        (subst (λ (w : Outside (List ℕ) (Unit {0})). SoWithPast (IsBesideOn (λ (_ : ℕ). first)) past (restore (device_of d)) w) (sym (side_told d e sides.A v a b))
        (restore_on s (restores (G.view v) d.store.most tells)))

    pub restore_sound : ComesSound d e
    restore_sound = record {
      sound = λ past first s. let x = (comes past first s).is in record {
        held = x.held;
        on_a = x.untold.a;
        on_b = x.untold.b;
        is = beside_sound (whole_of past e) (told_by e) x;
      };
    }

    pub restore_comes_plain : ComesPlain d e
    restore_comes_plain = record { stands = comes; history = λ past first s. beside_plain (whole_of past e) (told_by e) (comes past first s).is }

  pub restore_loses_none : device_of e ≡ restore (device_of d) → (past : PutAway) (first : List Track) → StandsLent past first d → HasLostNone e
  restore_loses_none is past first s = record { none = λ t. ap (λ (y : DefinedDevice). is_lost y.store t) is ∙ s.is.lent.store.lost t }

  -- while it is lent

  pub lent_by : ((past : PutAway) (first : List Track) → StandsLent past first d → StandsLent past first e) → StaysLent d e
  lent_by f = record {
    stands = f;
    history = λ past first s. (f past first s).is.follows.stands.plain;
    lost = λ past first s. record { none = (f past first s).is.lent.store.lost };
  }

  module _ {L : Type 0} (old new : PortView) (j k : L) where
    abbrev u : Outside (List ℕ) L
    u = outside old d.store j

    abbrev z : Outside (List ℕ) L
    z = outside new e.store k

    across : ((past : PutAway) (first : List Track) → SoWithPast (IsLentBeside first) past (device_of d) u → SoWithPast (IsLentBeside first) past (device_of e) z) →
        StaysLent d e
    across f =
        lent_by (λ past first s. then_on (f past first (then_on s (there (λ h t. record { a = t.a; b = t.b; slots = t.slots }))))
        (there (λ h t. record { a = t.a; b = t.b; slots = t.slots })))

    pub background_lent_on : {hears : Hearing Image L} (r : Result Did NoMemory) →
        Ran (where_ok r) hears (background contents (device_of d)) u (device_of e) (had (λ x. x) r) z → OnOk r (StaysLent d e)
    background_lent_on {hears = hears} (Ok x) run =
        across (λ past first s. run_on s (background_same contents (λ ok. ok ≡ true) hears past (device_of d) s.away) run
        (λ y r. works first (whole_of past d) s.is r))
    background_lent_on (Err x) run = tt

    -- a look, also where memory was lacking
    pub peek_lent_on : {hears : Hearing Image L} {had : Bool → Type 0} {a : Option Peeked} (t : ℕ) →
        Ran had hears (peek contents (device_of d) t) u (device_of e) a z → StaysLent d e
    peek_lent_on {hears = hears} t run =
        across (λ past first s. run_on s (peek_same contents surely hears past (device_of d) t s.away) (look_had contents (device_of d) t run).1
        (λ y r. looks first (whole_of past d) s.is t r))

    pub lose_lent_on : {hears : Hearing Image L} (loss : Loss) → Ran surely hears (lose contents (device_of d) loss) u (device_of e) tt z → TakesNoSide loss → StaysLent d e
    lose_lent_on {hears = hears} loss run no_side =
        across (λ past first s. run_on s (lose_same contents surely hears past (device_of d) loss s.away) run
        (λ y r. loses first (whole_of past d) s.is loss no_side r))

    pub reset_lent_on : {hears : Hearing Image L} (path : ℕ) → 1 ≤ path → path ≤ 4 → Ran surely hears (reset contents (device_of d) path) u (device_of e) tt z →
        StaysLent d e
    reset_lent_on {hears = hears} path least most run =
        across (λ past first s. run_on s (reset_same contents surely hears past (device_of d) path least most s.away) run
        (λ y r. resets first (whole_of past d) s.is path r))

    pub power_lent_on : {hears : Hearing Image L} → Ran surely hears (power contents (device_of d)) u (device_of e) tt z → StaysLent d e
    power_lent_on {hears = hears} run =
        across (λ past first s. run_on s (power_same contents surely hears past (device_of d) s.away) run (λ y r. loses_power first (whole_of past d) s.is r))
