-- Each event of a device's work in the background that doesn't stop leaves less to do, and so a SETTLE comes to its end.
use Rattle.std.proofs.Common.{◌≡◌, ◌≢◌, ◌<◌, ◌≤◌, ◌⊎◌, ℕ, Bool, true, false, Option, Some, None, is_some, refl, sym, ap, subst, ◌∙◌, arith, inl, inr}
use Rattle.std.proofs.lemmas.Bool.{cases_eq}
use Rattle.device_defs.specs.declared.answers.Did.{Did}
use Rattle.device_defs.specs.declared.answers.SecondEnd.{SecondEnd}
use Rattle.device_defs.specs.Contents.{by_plain}
use Rattle.device_defs.specs.Device.{event_begun, with_store}
use Rattle.device_defs.specs.Events as V
use Rattle.device_defs.specs.Events.{background, command_ended, second, second_ended, second_of}
use Rattle.device_defs.specs.Marks.{MarksDevice, MarksStore}
use Rattle.device_defs.specs.Owed.{noted_begin, noted_end, hear, is_clean, waiting_count}
use Rattle.device_defs.specs.Store as store
use Rattle.device_defs.specs.Store.{Origin, OfBackground, OfCommand, OfCut, frame_at, half_is, has_level, is_lost, is_loose, patch_at, tracks_of, with_frame}
use Rattle.plain_defs.specs.History.{OpenEntry}
use Rattle.ckd_chain.specs.State.{ChainState}
use Rattle.device_laws.proofs.Changes as C
use Rattle.device_laws.proofs.FailedCall.{IsWell}
use Rattle.device_laws.proofs.HeldPlaces.{none_at}
use Rattle.device_laws.proofs.Had.{Had, had_done, had_then, had_weaker}
use Rattle.device_laws.proofs.PoolWalks.{asks_had, ended_asks, hear_asks}
use Rattle.device_laws.proofs.TrackMarks as M
use Rattle.device_laws.proofs.TrackMarks.{is_good, marks}
use Rattle.device_laws.proofs.walks.Events.{turned_same}
use Rattle.subsystem_laws.proofs.GoodMarks.{Good, by_lent, half_home}
use Rattle.audit_laws.proofs.own.Weights.{Spot, left, spot_at, sum_least}
use Rattle.audit_laws.proofs.own.Lighter.{Lower, Same, WorkSo, not_own, own_is, lower_on, near_frame, same_least, same_self, work_on}
use Rattle.audit_laws.proofs.own.InOrder.{work_so}
use Rattle.audit_laws.proofs.own.SecondLighter.{IsSafe, is_level}
use Rattle.audit_laws.proofs.own.SecondWork.{part_so}

-- Notices: clean frames are dropped

abbrev HeardAt : Spot → Spot → Type 0
HeardAt p r = (r ≡ p) ⊎ ((p.frame ≡ Some false) × (r ≡ record p { frame = None }))

record Heard (s z : MarksStore) : Type 0 where
  cylinders : z.cylinders ≡ s.cylinders
  queue : z.queue ≡ s.queue
  half : z.half ≡ s.half
  paired : z.paired ≡ s.paired
  spots : (q : ℕ) → HeardAt (spot_at s q) (spot_at z q)

is_clean_frame : (o : Option Bool) → is_clean by_plain o ≡ true → o ≡ Some false
is_clean_frame o e = grind arith

dropped_at : (p r : Spot) → r.frame ≡ Some false → HeardAt p r → HeardAt p (record r { frame = None })
dropped_at p r clean x4 = grind arith

heard_drops : (s z : MarksStore) (t : ℕ) → is_clean by_plain (frame_at z t) ≡ true → Heard s z → Heard s (with_frame z t None)
heard_drops s z t clean h = record { cylinders = h.cylinders; queue = h.queue; half = h.half; paired = h.paired; spots = λ q. by_place q (cases_eq q t) } where
  by_place : (q : ℕ) → ((q ≡ t) ⊎ (q ≢ t)) → HeardAt (spot_at s q) (spot_at (with_frame z t None) q)
  by_place q (inr ne) = subst (HeardAt (spot_at s q)) (sym ((near_frame z t None).others q ne)) (h.spots q)
  by_place q (inl is) =
      subst (λ (i : ℕ). HeardAt (spot_at s i) (spot_at (with_frame z t None) i)) (sym is)
      (subst (λ (o : Option Bool). HeardAt (spot_at s t) (record (spot_at z t) { frame = o })) (sym (none_at z.frames t))
      (dropped_at (spot_at s t) (spot_at z t) (is_clean_frame (frame_at z t) clean) (h.spots t)))

heard_so : (s : MarksStore) → Had (hear by_plain 960 (noted_begin s)) (λ z (_ : Unit {0}). Heard s z)
heard_so s = asks_had (hear_asks by_plain (Heard s) (heard_drops s) 960 (noted_begin s) (search arith))

-- a clean frame is of a track that waits no more without it
abbrev IsClean : Spot → Type 0
IsClean p = p.frame ≡ Some false → p.half ≡ false → (p.lost ≡ false) × ((is_level p ≡ true) × (p.patched ≡ false))

heard_least : (s z : MarksStore) → ((q : ℕ) → q < tracks_of s → IsClean (spot_at s q)) → Heard s z → left z ≤ left s
heard_least s z clean h = grind (arith, sum_least)

-- Good marks

well_clean : (s : MarksStore) → IsWell by_plain s → (q : ℕ) → q < tracks_of s → IsClean (spot_at s q)
unfolding M.track_at
well_clean s w q lt = grind (arith, is_some, is_good, marks)

well_firm : (s : MarksStore) → IsWell by_plain s → (q : ℕ) → q < tracks_of s → half_is s.half q ≡ true → is_loose s q ≡ false
unfolding M.track_at
well_firm s w q lt mine = grind (arith, is_good, marks)

good_clean : (x : MarksDevice) → Good x → (q : ℕ) → q < tracks_of x.store → IsClean (spot_at x.store q)
good_clean x g q lt =
    by_lent x (λ home. well_clean x.store (g.well home) q lt)
    (λ away. λ framed. absurd (let none = (g.gone away).store.frame q in let both : None ≡ Some false = sym none ∙ framed in cc))

-- The end of an event

ended_so : (before : ℕ) (s : MarksStore) → Had (noted_end by_plain before s) (λ z (_ : Unit {0}). Same s z)
ended_so before s = asks_had (ended_asks by_plain (Same s) (λ z t e. (search arith)) before s (same_self s))

-- Work

same_work : (s y z : MarksStore) (a : Option Did) → Same y z → WorkSo s y a → WorkSo s z a
same_work s y z a e h = grind (arith, same_least)

pub background_so : (x : MarksDevice) → Good x → x.store.half ≡ None → Had (background by_plain x) (λ y a. WorkSo x.store y.store a)
unfolding V.background
background_so x g whole =
    had_then {p = λ (y : MarksDevice) a. WorkSo x.store y.store a}
    (had_then (heard_so x.store)
    (λ s _ h. had_then (work_so s (h.half ∙ whole))
    (λ z a k. had_done (work_on x.store s z a (heard_least x.store s (good_clean x g) h) k))))
    (λ y a k. had_then (ended_so (waiting_count by_plain x.store) y.store) (λ z _ e. had_done (same_work x.store y.store z a e k)))

-- The second part

none_half : (p : Spot) → IsClean p → p.half ≡ false → (r : Spot) → HeardAt p r → IsSafe r
none_half p clean whole r x5 = grind (arith, is_level)

heard_firm : (p r : Spot) → HeardAt p r → p.loose ≡ false → r.loose ≡ false
heard_firm p r x3 firm = grind arith

command_same : (x : MarksDevice) (s : MarksStore) (t : ℕ) (r : Option OpenEntry) (c : Option ChainState) (done : Bool) → Lower s x.store →
    Had (command_ended by_plain x t r c done) (λ y (_ : SecondEnd). Lower s y.store)
command_same x s t (Some o) (Some chain) done lower = had_done (rw (turned_same x o.path _ _) lower)
command_same x s t r c done lower = had_done lower

ended_same : (x : MarksDevice) (s : MarksStore) (t : ℕ) (origin : Origin) (done : Bool) → Lower s x.store →
    Had (second_ended by_plain x t origin done) (λ y (_ : SecondEnd). Lower s y.store)
ended_same x s t (OfCommand bypass e) done lower = command_same x s t x.history.running x.chain done lower
ended_same x s t origin done lower = had_done lower

module _ (x : MarksDevice) (g : Good x) (h : store.HalfWrite (Unit {0})) (is : x.store.half ≡ Some h) where
  home : IsWell by_plain x.store
  home = g.well (half_home x g h is)

  within : h.track < tracks_of x.store
  unfolding C.rest_of
  within = home.here.within h is

  paired_by : (b : Bool) → x.store.paired ≡ b → b ≡ true
  unfolding C.rest_of
  paired_by b e = grind arith

  mine : half_is x.store.half h.track ≡ true
  mine = ap (λ (o : Option (store.HalfWrite (Unit {0}))). half_is o h.track) is ∙ own_is h.track

  half_of : (s : MarksStore) → Heard x.store s → (o : Option (store.HalfWrite (Unit {0}))) → s.half ≡ o → o ≡ Some h →
      Had (second_of by_plain (record (event_begun x) { store = s }) o) (λ y (_ : SecondEnd). Lower s y.store)
  half_of s e None at same = absurd (cc)
  half_of s e (Some k) at same =
      let it : k ≡ h = cc in
      let d : MarksDevice = record (event_begun x) { store = s } in
      had_then (part_so s k at (e.paired ∙ paired_by x.store.paired refl) (λ q lt ne. let below : q < tracks_of x.store = rw (← e.cylinders) lt in none_half
      (spot_at x.store q) (good_clean x g q below) (ap (λ (o : Option (store.HalfWrite (Unit {0}))). half_is o q) (sym e.half ∙ at) ∙ not_own k.track q ne)
      (spot_at s q) (e.spots q)) (heard_firm (spot_at x.store k.track) (spot_at s k.track) (e.spots k.track) (rw (ap (λ (w : store.HalfWrite
      (Unit {0})). w.track) it) (well_firm x.store home h.track within mine)))) (λ z done lower. ended_same (with_store d z) s k.track k.origin done lower)

  pub second_lower : Had (second by_plain x) (λ y (_ : SecondEnd). Lower x.store y.store)
  unfolding V.second
  second_lower =
      had_then {p = λ (y : MarksDevice) (_ : SecondEnd). Lower x.store y.store} (had_then (heard_so x.store) (λ s _ e. had_weaker (half_of s e s.half refl
      (e.half ∙ is)) (λ y a lower. lower_on x.store s y.store (heard_least x.store s (good_clean x g) e) lower))) (λ y a lower. had_then (ended_so
      (waiting_count by_plain x.store) y.store) (λ z _ e. had_done (omega (arith, lower, same_least y.store z e))))
