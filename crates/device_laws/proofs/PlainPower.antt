-- A loss of power keeps the history of a run's device a plain device's.
use Rattle.std.proofs.Common.{
  ◌≡◌,
  ◌<◌,
  ◌≤◌,
  ◌++◌,
  ℕ,
  Bool,
  true,
  false,
  List,
  [],
  ◌∷◌,
  Option,
  Some,
  None,
  is_some,
  cond,
  refl,
  sym,
  ap,
  subst,
  ◌∙◌,
  arith,
  inl,
  inr,
}
use Rattle.std.specs.Prelude.{◌⊎◌, if◌then◌else◌}
use Rattle.std.proofs.lemmas.Bool.{cases_Bool, cases_lt, cond_both, eq-eqb, true≢false}
use Rattle.std.proofs.lemmas.List.{get_or_past}
use Rattle.ckd_types.specs.declared.geometry.Geometry.{Geometry}
use Rattle.loss_model.specs.declared.Loss.TheVariants as losses
use Rattle.plain_defs.specs.declared.journal.Act.{Act}
use Rattle.plain_defs.specs.declared.journal.Act.TheVariants.{Loosen, Harden, CfwLost}
use Rattle.plain_defs.specs.declared.journal.Item.{Item}
use Rattle.plain_defs.specs.declared.journal.Item.TheVariants as items
use Rattle.plain_defs.specs.History.{OpenEntry, History, plain_of, state_by, lost_power, lost_power_in}
use Rattle.plain_defs.specs.Journal.{Plans, replay, replay_item}
use Rattle.plain_defs.specs.Legal.{AreActs, IsSomeLoose, IsLegalFrom, is_started}
use Rattle.plain_defs.specs.Loose.{is_loose_in, without, act_done, cfw_lost, lost_by_power}
use Rattle.plain_defs.specs.PlainState.{LooseTrack, PlainState, fresh_paths}
use Rattle.plain_defs.specs.Program.{acts_done}
use Rattle.track_table.specs.Tracks.{least}
use Rattle.device_defs.specs.Contents.{by_plain}
use Rattle.device_defs.specs.Cutting as K
use Rattle.device_defs.specs.Cutting.{counts_one_by, half_ended, half_lost, loose_gone, powerless, powered_off, power}
use Rattle.device_defs.specs.Device.{event_begun}
use Rattle.device_defs.specs.Effects.{gone_back}
use Rattle.device_defs.specs.Events.{with_loss}
use Rattle.device_defs.specs.Losses.{settled, slot_in, without_frame}
use Rattle.device_defs.specs.Marks.{MarksDevice, MarksStore}
use Rattle.device_defs.specs.Owed.{noted_begin, waiting_count}
use Rattle.device_defs.specs.Store.{Origin, OfCommand, OfCut, OfBackground, HalfWrite, tracks_of, is_loose, patch_at}
use Rattle.device_laws.specs.NewDevice.{first_state}
use Rattle.device_laws.proofs.CacheLost.{none_below}
use Rattle.device_laws.proofs.DeviceCuts.{power_stands}
use Rattle.device_laws.proofs.Had.{Had, had_done, had_then, had_weaker}
use Rattle.device_laws.proofs.HistoryCuts.{idle_power_state, power_cut_state}
use Rattle.device_laws.proofs.PathsAlong.{power_keeps_paths}
use Rattle.device_laws.proofs.PlainCuts.{CutSo, taken_by, half_so, may}
use Rattle.device_laws.proofs.PlainEvents.{had_always, had_both, runs_idle}
use Rattle.device_laws.proofs.PlainLosses.{of_gone, places_gone, Walked, over_goes, unframed_settles}
use Rattle.device_laws.proofs.PlainStores.{Core, Open, core_of, with_half, of_half, IsOf, HasPlaces, stays_itself}
use Rattle.device_laws.proofs.PlainTurns.{Follows, of_paths, mid_none, home_idle}
use Rattle.device_laws.proofs.PlainWalks.{patch_same, ended_same}
use Rattle.device_laws.proofs.Working.{least_found}

-- Where no track is loose

all_firm : (l : List LooseTrack) → ((t : ℕ) → is_loose_in l t ≡ false) → l ≡ []
all_firm [] h = refl
all_firm (x ∷ l) h = absurd (true≢false (sym (ap (λ (b : Bool). cond b true (is_loose_in l x.track)) (eq-eqb x.track x.track refl)) ∙ h x.track))

acts_none : (p : PlainState) (acts : List Act) → p.loose ≡ [] → AreActs p None acts → acts ≡ []
acts_none p [] e are = refl
acts_none p (Loosen t ∷ []) e are = absurd (let none : None ≡ Some t = are.1 in cc)
acts_none p (Loosen t ∷ act ∷ acts) e are = absurd are
acts_none p (Harden t ∷ acts) e are = absurd (true≢false (sym are.0 ∙ ap (λ (l : List LooseTrack). is_loose_in l t) e))
acts_none p (CfwLost ∷ acts) e are = absurd (subst IsSomeLoose e are.0)

act_loose : (s : PlainState) (act : Act) → s.loose ≡ [] → AreActs s None (act ∷ []) → (act_done s act).loose ≡ []
act_loose s (Loosen t) e are = absurd (let none : None ≡ Some t = are.1 in cc)
act_loose s (Harden t) e are = ap (without t) e
act_loose s CfwLost e are = refl

lost_loose : (s : PlainState) (l : List LooseTrack) → s.loose ≡ l → (lost_by_power s l).loose ≡ []
lost_loose s [] e = e
lost_loose s (x ∷ l) e = refl

-- before the first start since a power loss none is
unstarted_loose : (plans : Plans) (s : PlainState) (earlier xs : List Item) (began : Bool) → (began ≡ false → s.loose ≡ []) →
    IsLegalFrom plans s earlier xs → is_started began xs ≡ false → (replay plans s xs).loose ≡ []
unstarted_loose plans s earlier [] began none legal not_yet = none not_yet
unstarted_loose plans s earlier (items.Program e ∷ xs) began none legal not_yet =
    unstarted_loose plans (replay_item plans s (items.Program e)) (earlier ++ items.Program e ∷ []) xs true (λ no. absurd (true≢false no)) legal.1 not_yet
unstarted_loose plans s earlier (items.Reset p ∷ xs) began none legal not_yet =
    unstarted_loose plans (replay_item plans s (items.Reset p)) (earlier ++ items.Reset p ∷ []) xs began none legal.1 not_yet
unstarted_loose plans s earlier (items.Fresh ∷ xs) began none legal not_yet =
    unstarted_loose plans (replay_item plans s items.Fresh) (earlier ++ items.Fresh ∷ []) xs began (λ no. refl) legal.1 not_yet
unstarted_loose plans s earlier (items.Act act ∷ xs) began none legal not_yet =
    unstarted_loose plans (replay_item plans s (items.Act act)) (earlier ++ items.Act act ∷ []) xs began (λ no. act_loose s act (none no) legal.0)
    legal.1 not_yet
unstarted_loose plans s earlier (items.Power ∷ xs) began none legal not_yet =
    unstarted_loose plans (replay_item plans s items.Power) (earlier ++ items.Power ∷ []) xs false (λ no. lost_loose s s.loose refl) legal.1 not_yet

-- The store

abbrev pub lost_state : PlainState → PlainState
lost_state p = lost_by_power p p.loose

-- a store of the device that lost its data of cache fast write
record IsGoneBack (p : PlainState) (s z : MarksStore) : Type 0 where
  of : IsOf (lost_state p) (core_of z)
  places : HasPlaces (core_of z)
  acts : z.acts ≡ []
  geometry : z.geometry ≡ s.geometry
  cylinders : z.cylinders ≡ s.cylinders
  half : z.half ≡ s.half
  device : z.device ≡ s.device

-- an open half write ends
ended_core : (z : MarksStore) (h : HalfWrite (Unit {0})) (origin : Origin) → core_of (half_ended by_plain z h origin) ≡ with_half (core_of z) None
ended_core z h (OfCommand bypass e) =
    patch_same (record z { half = None }) h.track (slot_in by_plain (patch_at (record z { half = None }) h.track))
ended_core z h (OfCut bypass) = patch_same (record z { half = None }) h.track (slot_in by_plain (patch_at (record z { half = None }) h.track))
ended_core z h OfBackground = refl

half_lost_core : (z : MarksStore) (h : Option (HalfWrite (Unit {0}))) → z.half ≡ h → core_of (half_lost by_plain z h) ≡ with_half (core_of z) None
half_lost_core z None e = ap (λ (h : Option (HalfWrite (Unit {0}))). with_half (core_of z) h) e
half_lost_core z (Some h) e = ended_core z h h.origin

module _ (p : PlainState) (s : MarksStore) (of : IsOf p (core_of s)) (places : HasPlaces (core_of s)) (none : s.acts ≡ []) where
  none_at : is_some (least (tracks_of s) (is_loose s)) ≡ false → (t : ℕ) → is_loose_in p.loose t ≡ false
  none_at e t = of.loose t ∙ by_place (cases_lt t (tracks_of s)) where
    by_place : (t < tracks_of s) ⊎ (tracks_of s ≤ t) → is_loose s t ≡ false
    by_place (inl lt) = none_below (tracks_of s) (is_loose s) e t lt
    by_place (inr le) = let a = of.looses in let b = of.tracks in get_or_past s.loose t false (omega (arith, le, a, b))

  some_gone : (l : List LooseTrack) (t : ℕ) → is_loose_in l t ≡ true → lost_by_power p l ≡ cfw_lost p
  some_gone [] t e = absurd (cc)
  some_gone (x ∷ l) t e = refl

  gone_by : (o : Option ℕ) → least (tracks_of s) (is_loose s) ≡ o → IsGoneBack p s (if is_some o then gone_back s else s)
  gone_by None e = record {
    of = rw (ap (λ (l : List LooseTrack). lost_by_power p l) (all_firm p.loose (none_at (ap (λ (o : Option ℕ). is_some o) e)))) of;
    places = places;
    acts = none;
    geometry = refl;
    cylinders = refl;
    half = refl;
    device = refl;
  }
  gone_by (Some t) e = record {
    of = rw (some_gone p.loose t (of.loose t ∙ (least_found (tracks_of s) (is_loose s) t e).1)) (of_gone p (core_of s) of);
    places = places_gone p (core_of s) of places;
    acts = none;
    geometry = refl;
    cylinders = refl;
    half = refl;
    device = refl;
  }

  abbrev whole_core : Core
  whole_core = with_half (core_of (loose_gone by_plain s)) None

  powerless_goes : Walked (lost_state p) s.geometry s.cylinders (with_half (core_of (loose_gone by_plain s)) None) (core_of (powerless by_plain s))
  powerless_goes =
      let gone = gone_by (least (tracks_of s) (is_loose s)) refl in
      let z = loose_gone by_plain s in
      over_goes (lost_state p) s.geometry s.cylinders whole_core (tracks_of s) (λ t x. settled by_plain (without_frame x t) t)
      (unframed_settles (lost_state p) s.geometry s.cylinders whole_core) (record (half_lost by_plain z s.half) { queue = [] })
      (subst (Walked (lost_state p) s.geometry s.cylinders whole_core) (sym (half_lost_core z s.half gone.half)) (record {
        plain = z.plain;
        walks = record {
          of = subst (λ (l : List Act). IsOf (acts_done (lost_state p) l) whole_core) (sym gone.acts) (of_half (lost_state p) (core_of z) gone.of None);
          are = subst (λ (l : List Act). AreActs (lost_state p) None l) (sym gone.acts) tt;
          places = gone.places;
          plain = refl;
          geometry = gone.geometry;
          cylinders = gone.cylinders;
          rest = refl;
        };
        stays = stays_itself whole_core;
      }))

  pub powerless_of : IsOf (lost_state p) (core_of (powerless by_plain s))
  powerless_of =
      let w = powerless_goes.walks in
      subst (λ (l : List Act). IsOf (acts_done (lost_state p) l) (core_of (powerless by_plain s)))
      (acts_none (lost_state p) (powerless by_plain s).acts (lost_loose p p.loose refl) w.are) w.of

  pub powerless_places : HasPlaces (core_of (powerless by_plain s))
  powerless_places = powerless_goes.walks.places

  pub powerless_geometry : (powerless by_plain s).geometry ≡ s.geometry
  powerless_geometry = powerless_goes.walks.geometry

  pub powerless_cylinders : (powerless by_plain s).cylinders ≡ s.cylinders
  powerless_cylinders = powerless_goes.walks.cylinders

  pub powerless_device : (powerless by_plain s).device ≡ s.device
  powerless_device =
      let gone = gone_by (least (tracks_of s) (is_loose s)) refl in
      ap (λ (x : Open). x.1.1) powerless_goes.walks.rest ∙ gone.device

  pub powerless_half : (powerless by_plain s).half ≡ None
  powerless_half = ap (λ (x : Open). x.0) powerless_goes.walks.rest

-- The event

module _ (num : ℕ) (empty : PlainState) (d : MarksDevice) (f : Follows num empty d) where
  abbrev n : ℕ
  n = counts_one_by d.store.half

  state_on : (c : Core) (r : Option OpenEntry) → d.history.running ≡ r → IsOf (lost_state (taken_by num empty d f r n)) c →
      IsOf (plain_of d.plans empty (lost_power d.history n)) c
  state_on c (Some o) running of =
      rw (power_cut_state d.plans empty d.history f.stands.plain o running n (may num empty d f o running))
      (of_paths (lost_state (taken_by num empty d f (Some o) n)) c of fresh_paths)
  state_on c None none of = by_start (cases_Bool (is_started false d.history.items)) where
    by_start : (is_started false d.history.items ≡ true) ⊎ (is_started false d.history.items ≡ false) → IsOf (plain_of d.plans empty (lost_power d.history n)) c
    by_start (inl began) =
        rw (idle_power_state d.plans empty d.history f.stands.plain none n began)
        (of_paths (lost_state (replay d.plans empty d.history.items)) c of fresh_paths)
    by_start (inr not_yet) =
        let s = replay d.plans empty d.history.items in
        let stays : lost_power d.history n ≡ d.history =
        ap (λ (r : Option OpenEntry). lost_power_in d.history n r) none
        ∙ ap (λ (b : Bool). cond b (record { items = d.history.items ++ items.Power ∷ []; running = None; waiting = [] }) d.history) not_yet in
        let firm : s.loose ≡ [] =
        unstarted_loose d.plans empty [] d.history.items false (λ no. ap (λ (x : PlainState). x.loose) f.base) f.stands.plain.legal not_yet in
        rw stays (rw (ap (λ (r : Option OpenEntry). state_by d.plans s r) none)
        (subst (λ (x : PlainState). IsOf x c) (ap (λ (l : List LooseTrack). lost_by_power s l) firm) of))

  stops : (r : Option OpenEntry) → d.history.running ≡ r → (lost_power d.history n).running ≡ None
  stops (Some o) running = ap (λ (r : Option OpenEntry). (lost_power_in d.history n r).running) running
  stops None none =
      ap (λ (r : Option OpenEntry). (lost_power_in d.history n r).running) none
      ∙ cond_both (is_started false d.history.items) (record { items = d.history.items ++ items.Power ∷ []; running = None; waiting = [] }) d.history
      (λ (h : History). h.running ≡ None) (λ _. refl) (λ _. none)

  -- of what isn't of the history's legality or of the paths
  record IsOff (y : MarksDevice) : Type 0 where
    of : IsOf (plain_of y.plans empty y.history) (core_of y.store)
    places : HasPlaces (core_of y.store)
    geometry : y.store.geometry ≡ d.store.geometry
    cylinders : y.store.cylinders ≡ d.store.cylinders
    half : y.store.half ≡ None
    device : y.store.device ≡ d.store.device
    chain : y.chain ≡ None
    stopped : y.history.running ≡ None

  off_device : (z : MarksStore) → CutSo num empty d f d.history.running (counts_one_by d.store.half) (noted_begin d.store) z →
      IsOff (powered_off by_plain (event_begun d) z)
  off_device z cut =
      let p = taken_by num empty d f d.history.running n in
      let s = with_loss z losses.Cache in
      record {
        of = state_on (core_of (powerless by_plain s)) d.history.running refl (powerless_of p s cut.of cut.places cut.acts);
        places = powerless_places p s cut.of cut.places cut.acts;
        geometry = powerless_geometry p s cut.of cut.places cut.acts ∙ cut.geometry;
        cylinders = powerless_cylinders p s cut.of cut.places cut.acts ∙ cut.cylinders;
        half = powerless_half p s cut.of cut.places cut.acts;
        device = powerless_device p s cut.of cut.places cut.acts ∙ cut.device;
        chain = refl;
        stopped = stops d.history.running refl;
      }

  off_store : (y : MarksDevice) (z : MarksStore) → core_of z ≡ core_of y.store → IsOff y → IsOff (record y { store = z })
  off_store y z e o = record {
    of = subst (λ (c : Core). IsOf (plain_of y.plans empty y.history) c) (sym e) o.of;
    places = subst HasPlaces (sym e) o.places;
    geometry = ap (λ (c : Core). c.geometry) e ∙ o.geometry;
    cylinders = ap (λ (c : Core). c.cylinders) e ∙ o.cylinders;
    half = ap (λ (c : Core). c.half) e ∙ o.half;
    device = ap (λ (c : Core). c.device) e ∙ o.device;
    chain = o.chain;
    stopped = o.stopped;
  }

  goes_off : Had (power by_plain d) (λ y (_ : Unit {0}). IsOff y)
  unfolding K.power
  goes_off =
      had_then {p = λ y _. IsOff y}
      (had_then (half_so num empty d f (noted_begin d.store) refl d.history.running refl d.store.half refl refl) (λ s _ cut. had_done (off_device s cut)))
      (λ y a o. had_then (ended_same (waiting_count by_plain d.store) y.store) (λ z _ e. had_done (off_store y z e o)))

  pub power_follows : Had (power by_plain d) (λ y (_ : Unit {0}). Follows num empty y)
  power_follows =
      had_weaker
      (had_both goes_off (had_both (had_always (power_stands by_plain empty d f.stands (may num empty d f)))
      (had_always (power_keeps_paths by_plain empty d f.stands (ap (λ (x : PlainState). x.paths) f.base) (may num empty d f)))))
      (λ y _ g. record {
        number = g.0.device ∙ f.number;
        base = f.base ∙ ap (λ (x : Geometry). first_state x d.store.cylinders empty.volume) (sym g.0.geometry)
            ∙ ap (λ (n : ℕ). first_state y.store.geometry n empty.volume) (sym g.0.cylinders);
        some = subst (λ (m : ℕ). 0 < m) (sym g.0.cylinders) f.some;
        stands = g.1.0;
        keeps = g.1.1;
        of = g.0.of;
        places = g.0.places;
        before = None;
        runs = runs_idle y.plans (replay y.plans empty y.history.items) y.history.running None g.0.stopped;
        chain = tt;
        mid = mid_none (core_of y.store) y.store.half y.history.running None y.chain g.0.half g.0.chain;
        home = home_idle y.store.lent y.history.running g.0.stopped;
      })
