-- What a piece of work in the background makes of a device beside its history: a half write is open behind it where it says so, and only there.
use Rattle.std.proofs.Common.{arith, ◌≡◌, ℕ, zero, suc, Bool, true, false, List, [], ◌∷◌, Option, Some, None, refl, sym, ap, ◌∙◌}
use Rattle.std.specs.Prelude.{◌||◌, is_some}
use Rattle.std.proofs.lemmas.Bool.{and_parts}
use Rattle.ckd_types.specs.declared.paths.Side.{Side}
use Rattle.ckd_types.specs.declared.paths.Side.TheVariants.{A, B}
use Rattle.ckd_types.specs.declared.record.Track.{Track}
use Rattle.ckd_types.specs.declared.geometry.Geometry.{Geometry}
use Rattle.plain_defs.specs.PlainState.{PlainState}
use Rattle.track_image.specs.Image.{Image}
use Rattle.device_outside.specs.Interaction.{Done, and_then}
use Rattle.device_defs.specs.declared.answers.Did.{Did}
use Rattle.device_defs.specs.declared.answers.Did.TheVariants as dids
use Rattle.device_defs.specs.declared.answers.Took.{Took}
use Rattle.device_defs.specs.declared.answers.Took.TheVariants.{Opened, Unwritten, Whole}
use Rattle.device_defs.specs.Background as G
use Rattle.device_defs.specs.Background.{copied, copies_to, copy_by, copy_first, copy_read, destage_first, did, other, recover, recover_first, recovered_bytes, saved, saved_by, stage, stage_first, staged_bytes, to_copy, to_destage, to_recover, work}
use Rattle.device_defs.specs.Contents.{by_plain}
use Rattle.device_defs.specs.Effects.{hardened}
use Rattle.device_defs.specs.Image as I
use Rattle.device_defs.specs.Image.{Got, filled, first_read, level_bytes, read_b, second_read}
use Rattle.device_defs.specs.Losses as L
use Rattle.device_defs.specs.Losses.{all_firm_told, call_failed, down, side_lost, stale_everywhere}
use Rattle.device_defs.specs.Device.{event_begun, with_store}
use Rattle.device_defs.specs.Events as V
use Rattle.device_defs.specs.Events.{background}
use Rattle.device_defs.specs.Marks.{MarksDevice, MarksStore}
use Rattle.device_defs.specs.Owed.{noted_begin, hear, waiting_count}
use Rattle.device_defs.specs.Store as store
use Rattle.device_defs.specs.Store.{OfBackground, frame_at, is_lost, is_loose, level_at, owed_at, patch_at, plain_at, takes_b, tracks_of, with_frame, with_stale}
use Rattle.device_defs.specs.Writing as W
use Rattle.device_defs.specs.Writing.{firm_first, write_first}
use Rattle.device_laws.proofs.Had.{Had, had_ask, had_done, had_if, had_read, had_tell, had_then, had_try, had_weaker, had_write}
use Rattle.device_laws.proofs.PlainEvents.{had_both, had_always}
use Rattle.device_laws.proofs.Based.{kept}
use Rattle.device_laws.proofs.BasedEvents.{base_in, background_based}
use Rattle.device_laws.proofs.PlainLosses.{walks_first}
use Rattle.device_laws.proofs.PlainTurns.{Follows}
use Rattle.device_laws.proofs.PoolWalks.{asks_had, hear_asks}
use Rattle.device_laws.proofs.PlainStores.{Core, Open, Walks, core_of, walks_on}
use Rattle.device_laws.proofs.PlainWalks.{FirstTook, bytes_on, done_same, ended_same, failed_on, firm_first_on, first_on, framed_same, opened_core, opened_half, stale_same}
use Rattle.device_laws.proofs.invariants.LedSides.{lost_side_is_down}
use Rattle.deck_audit.specs.History.{back_half}
use Rattle.run_report.specs.Answers.{back_answer}
use Rattle.plain_defs.specs.History.{plain_of}
use Rattle.audit_laws.specs.Standing.{audited, half_by}
use Rattle.audit_laws.proofs.own.ResetDevices.{HasParts}
use Rattle.audit_laws.proofs.own.StepParts.{begins, parts_by, stays_by}
use Rattle.subsystem_laws.proofs.HadAnswers.{any_had}
use Rattle.audit_laws.proofs.own.Lighter.{near_everywhere}
use Rattle.device_laws.proofs.KeptEvents.{always_any, background_goes}
use Rattle.subsystem_laws.proofs.LendBase.{IsStill}

-- Side A falls with its call, in a pair

abbrev AIsDown : MarksStore → Type 0
AIsDown z = z.a.up ≡ false

told_down : (k : ℕ) (s : MarksStore) → AIsDown s → Had (all_firm_told by_plain k s) (λ z (_ : Unit {0}). AIsDown z)
unfolding L.all_firm_told
told_down zero s is = had_done is
told_down (suc k) s is = had_then (told_down k s is) (λ z _ v. had_if (owed_at z k).firm (λ _. had_tell (had_done v)) (λ _. had_done v))

lost_down : (s : MarksStore) → AIsDown (side_lost by_plain s A None)
lost_down s = lost_side_is_down by_plain s None

-- a volume that is alone isn't failed by its call
abbrev IsAlone : MarksStore → Type 0
IsAlone s = s.paired ≡ false → s.b.up ≡ false

-- A fault is told of bytes that are had only where side A is down

abbrev ToldDown : MarksStore → Got Bool → Type 0
ToldDown z k = is_some k.bytes ≡ true → is_some k.fault ≡ true → AIsDown z

second_told : (s : MarksStore) (fault : Option Side) → (is_some fault ≡ true → AIsDown s) → (r : Option Bool) →
    Had (second_read by_plain fault s r) (λ z k. ToldDown z k)
second_told s fault down (Some r) = had_done (λ some fails. down fails)
second_told s fault down None = had_then (any_had (call_failed by_plain s B None)) (λ z _ _. had_done (λ some fails. absurd (let none : false ≡ true = some in cc)))

b_told : (s : MarksStore) (t : ℕ) (fault : Option Side) → (level_at s.b t ≡ true → is_some fault ≡ true → AIsDown s) →
    Had (read_b by_plain s t fault) (λ z k. ToldDown z k)
b_told s t fault down =
    had_if (level_at s.b t)
    (λ level. had_read (λ r. second_told (I.read_counted s (is_some r)) fault (λ fails. down level fails) r))
    (λ _. had_done (λ some fails. absurd (let none : false ≡ true = some in cc)))

first_told : (t : ℕ) (s : MarksStore) → IsAlone s → (r : Option Bool) → Had (first_read by_plain t s r) (λ z k. ToldDown z k)
first_told t s alone (Some r) = had_done (λ some fails. absurd (let none : false ≡ true = fails in cc))
first_told t s alone None = had_then failed (λ z _ v. b_told z t (Some A) v) where
  failed : Had (call_failed by_plain s A None) (λ z (_ : Unit {0}). level_at z.b t ≡ true → is_some (Some A) ≡ true → AIsDown z)
  failed =
      had_if s.paired
      (λ _. had_weaker (told_down (tracks_of s) (side_lost by_plain s A None) (lost_down s)) (λ z _ v level fails. v))
      (λ single. had_done (λ level fails. absurd (let both : true ≡ false = sym (and_parts s.b.up _ level).0 ∙ alone single in cc)))

bytes_told : (s : MarksStore) (t : ℕ) → IsAlone s → Had (level_bytes by_plain s t) (λ z k. ToldDown z k)
unfolding I.level_bytes
bytes_told s t alone = search (arith, had_if, had_read, first_told, b_told)

-- A write that begins with side A down opens nothing

firm_stays : (s : MarksStore) (t : ℕ) → Had (firm_first by_plain s t) (λ z (_ : Bool). z.a.up ≡ s.a.up)
firm_stays s t = had_if (is_loose s t) (λ _. had_tell (had_done (near_everywhere (hardened s t) t).a)) (λ _. had_done refl)

abbrev OpensNot : Took → Type 0
OpensNot Whole = Unit {0}
OpensNot Opened = ⊥
OpensNot Unwritten = Unit {0}

alone_opens_not : (t : ℕ) (fault : Option Side) (first : Side) (s : MarksStore) (ok : Bool) → Had (W.alone_b by_plain t fault first s ok) (λ z w. OpensNot w.took)
alone_opens_not t fault first s ok = had_if ok (λ _. had_done tt) (λ _. had_then (any_had (call_failed by_plain s B (Some t))) (λ z _ _. had_done tt))

down_opens_not : (s : MarksStore) (t : ℕ) (r : Bool) → AIsDown s → Had (write_first by_plain s t r) (λ z w. OpensNot w.took)
unfolding W.write_first
down_opens_not s t r is =
    had_if s.a.up (λ up. absurd (let both : true ≡ false = sym up ∙ is in cc))
    (λ _. had_if (takes_b s) (λ _. had_write (λ ok. alone_opens_not t None B (W.write_counted s ok) ok)) (λ _. had_done tt))

opens_if : (s : MarksStore) (t : ℕ) (r : Bool) (fault : Option Side) → (is_some fault ≡ true → AIsDown s) →
    Had (write_first by_plain s t r) (λ z w. is_some fault ≡ true → OpensNot w.took)
opens_if s t r (Some side) down = had_weaker (down_opens_not s t r (down refl)) (λ z w h fails. h)
opens_if s t r None down = had_weaker (had_always (always_any (write_first by_plain s t r))) (λ z w h fails. absurd (let none : false ≡ true = fails in cc))

-- What is said of the work, and the half write behind it

abbrev pub IsSaid : Did → Option (store.HalfWrite (Unit {0})) → Type 0
IsSaid (dids.Half t) h = h ≡ opened_half t OfBackground
IsSaid d h = h ≡ None

abbrev pub WorkIs : MarksStore → Option Did → Type 0
WorkIs z (Some d) = IsSaid d z.half
WorkIs z None = ⊥

-- no half write
abbrev IsNoHalf : Did → Type 0
IsNoHalf (dids.Half t) = ⊥
IsNoHalf d = Unit {0}

said_none : (d : Did) (h : Option (store.HalfWrite (Unit {0}))) → IsNoHalf d → h ≡ None → IsSaid d h
said_none d h fine is = grind arith

fault_none : (f : Option Side) (d : Did) → IsNoHalf d → IsNoHalf (did f d)
fault_none f d fine = grind arith

module _ (p : PlainState) (u : List Track) (g : Geometry) (n : ℕ) (lent : Option ℕ × ℕ) where
  abbrev On : MarksStore → Type 0
  On s = Walks p u g n (None, lent) (core_of s)

  whole : (s : MarksStore) → On s → s.half ≡ None
  whole s w = ap (λ (k : Open). k.0) w.rest

  same_on : (s z : MarksStore) → core_of z ≡ core_of s → On s → On z
  same_on s z e w = walks_on p u g n (None, lent) e w

  none_said : (d : Did) (s : MarksStore) → IsNoHalf d → On s → IsSaid d s.half
  none_said d s fine w = said_none d s.half fine (whole s w)

  saved_said : (t : ℕ) (i : Image) (d : Did) (fault : Option Side) (was : Bool) (failed : Option Side) (s : MarksStore) (took : Took) → IsNoHalf d →
      FirstTook p u g n (None, lent) (λ q. ⊥) t s took → (is_some fault ≡ true → OpensNot took) →
      Had (saved_by by_plain t i d fault was failed s took) (λ z e. IsSaid e z.half)
  saved_said t i d fault was failed s Whole fine w shut =
      had_then (done_same s t i false)
      (λ z _ e. had_done (none_said (did fault (did failed d)) z (fault_none fault (did failed d) (fault_none failed d fine)) (same_on s z e w.on)))
  saved_said t i d (Some side) was failed s Opened fine w shut = absurd (shut refl)
  saved_said t i d None was failed s Opened fine w shut = had_then (opened_core s t i OfBackground was) (λ z _ e. had_done (ap (λ (c : Core). c.half) e))
  saved_said t i d fault was failed s Unwritten fine w shut = search (arith, had_done, none_said, fault_none)

  save_said : (s : MarksStore) (t : ℕ) (i : Image) (d : Did) (fault : Option Side) → IsNoHalf d → On s → (is_some fault ≡ true → AIsDown s) →
      Had (saved by_plain s t i d fault) WorkIs
  save_said s t i d fault fine w down =
      had_try (had_then {p = λ z e. IsSaid e z.half}
      (had_then (had_both (firm_first_on p u g n (None, lent) (λ q. ⊥) t s w (λ q r. absurd r)) (firm_stays s t))
      (λ z was f. had_then (had_both (first_on p u g n (None, lent) (λ q. ⊥) t z true f.0) (opens_if z t true fault (λ fails. f.1 ∙ down fails)))
      (λ y k h. saved_said t i d fault was k.fault y k.took fine h.0 h.1)))
      (λ z e h. had_done h))

  recovered_said : (t : ℕ) (s : MarksStore) (k : Got Bool) (b : Option Bool) → k.bytes ≡ b → On s → ToldDown s k →
      Had (recovered_bytes by_plain t s k b) WorkIs
  recovered_said t s k b is w told = search (arith, had_done, none_said, fault_none, had_try, save_said)

  recover_said : (s : MarksStore) (t : ℕ) (f : Option Bool) → On s → IsAlone s → Had (recover by_plain s t f) WorkIs
  recover_said s t (Some f) w alone = save_said s t _ (dids.Recovered t) None tt w (λ fails. absurd (let none : false ≡ true = fails in cc))
  recover_said s t None w alone =
      had_then (had_both (bytes_on p u g n (None, lent) s t w) (bytes_told s t alone)) (λ z k v. recovered_said t z k k.bytes refl v.0 v.1)

  stopped_said : (s : MarksStore) (side : Side) (d : Did) → IsNoHalf d → On s → Had (and_then (call_failed by_plain s side None) (λ z _. Done z (Some d))) WorkIs
  stopped_said s side d fine w = had_then (failed_on p u g n (None, lent) s side None w) (λ z _ v. had_done (none_said d z fine v))

  copied_said : (t : ℕ) (side : Side) (s : MarksStore) (ok : Bool) → On s → Had (copied by_plain t side s ok) WorkIs
  copied_said t side s ok w =
      had_if ok
      (λ _. had_done (none_said (dids.Copied t) (with_stale s side t false) tt (same_on s (with_stale s side t false) (stale_same s side t false) w)))
      (λ _. stopped_said s side (dids.Fault side) tt w)

  copy_said : (t : ℕ) (side : Side) (s : MarksStore) (r : Option Bool) → On s → Had (copy_read by_plain t side s r) WorkIs
  copy_said t side s None w = stopped_said s (other side) (dids.Fault (other side)) tt w
  copy_said t side s (Some r) w = had_write (λ ok. copied_said t side (W.write_counted s ok) ok w)

  staged_said : (t : ℕ) (s : MarksStore) (k : Got Bool) (b : Option Bool) → On s → Had (staged_bytes by_plain t s k b) WorkIs
  staged_said t s k b w = search (arith, had_ask, had_done, none_said, fault_none, had_try, had_then, had_if, same_on, framed_same)

  stage_said : (s : MarksStore) (t : ℕ) → On s → Had (stage by_plain s t) WorkIs
  stage_said s t w =
      had_if (is_some (frame_at s t) || is_lost s t) (λ _. had_done (none_said (dids.Skipped t) s tt w))
      (λ _. had_try (had_ask (λ given. had_if given
      (λ _. had_then (bytes_on p u g n (None, lent) s t w) (λ z k v. staged_said t z k k.bytes v))
      (λ _. had_done (none_said (dids.Skipped t) s tt w)))))

  destage_said : (s : MarksStore) (o : Option ℕ) → On s → Had (destage_first by_plain s o) WorkIs
  destage_said s o w = search (arith, had_done, none_said, save_said)

  stages_said : (s : MarksStore) (q : List ℕ) → On s → Had (stage_first by_plain s q) WorkIs
  stages_said s [] w = destage_said s (to_destage by_plain s) w
  stages_said s (t ∷ ts) w = stage_said (record s { queue = ts }) t w

  copy_first_said : (s : MarksStore) (o : Option ℕ) → On s → Had (copy_first by_plain s o) WorkIs
  copy_first_said s o w = search (arith, stages_said, had_done, none_said, had_read, copy_said)

  recover_first_said : (s : MarksStore) (o : Option ℕ) → On s → IsAlone s → Had (recover_first by_plain s o) WorkIs
  recover_first_said s None w alone = copy_first_said s (to_copy s) w
  recover_first_said s (Some t) w alone = recover_said s t (frame_at s t) w alone

  pub work_said : (s : MarksStore) → On s → (s.paired ≡ false → s.b.up ≡ false) → Had (work by_plain s) WorkIs
  unfolding G.work
  work_said s w alone = recover_first_said s (to_recover by_plain s) w alone

-- The event

abbrev pub BackLeft : MarksDevice → MarksDevice → Option Did → Type 0
BackLeft x y (Some d) = HasParts x y (back_half (audited x) (back_answer d))
BackLeft x y None = ⊥

module _ (num : ℕ) (empty : PlainState) (x : MarksDevice) (f : Follows num empty x) (none : x.store.half ≡ None)
    (alone : x.store.paired ≡ false → x.store.b.up ≡ false) where
  record Front (s : MarksStore) : Type 0 where
    same : core_of s ≡ core_of (noted_begin x.store)
    single : s.paired ≡ false → s.b.up ≡ false

  fronted : Had (hear by_plain 960 (noted_begin x.store)) (λ s (_ : Unit {0}). Front s)
  fronted = asks_had (hear_asks by_plain Front (λ z t clean e. (search (arith, framed_same))) 960 (noted_begin x.store) (search arith))

  walks : (s : MarksStore) → core_of s ≡ core_of (noted_begin x.store) →
      Walks (plain_of x.plans empty x.history) x.store.plain x.store.geometry x.store.cylinders (None, (x.store.lent, x.store.device)) (core_of s)
  walks s e = grind (arith, core_of, walks_first)

  abbrev HalfSaid : MarksDevice → Option Did → Type 0
  HalfSaid y (Some d) = half_by y.store.half ≡ back_half (audited x) (back_answer d)
  HalfSaid y None = ⊥

  said_by : (y : MarksDevice) (a : Option Did) → WorkIs y.store a → HalfSaid y a
  said_by y a said = grind arith

  stays_said : (y : MarksDevice) (a : Option Did) (z : MarksStore) → core_of z ≡ core_of y.store → HalfSaid y a → HalfSaid (record y { store = z }) a
  stays_said y a z e p = grind arith

  half_left : Had (background by_plain x) HalfSaid
  unfolding V.background
  half_left =
      had_then {p = HalfSaid}
      (had_then fronted (λ s _ e. had_then
      (work_said (plain_of x.plans empty x.history) x.store.plain x.store.geometry x.store.cylinders (x.store.lent, x.store.device) s (walks s e.same) e.single)
      (λ z a g. had_done (said_by (with_store (record (event_begun x) { store = s }) z) a g))))
      (λ y a g. had_then (ended_same (waiting_count by_plain x.store) y.store) (λ z _ e. had_done (stays_said y a z e g)))

  left_by : (y : MarksDevice) (a : Option Did) → IsStill (kept x.store) (base_in y) × (y.plans ≡ x.plans) → HalfSaid y a → BackLeft x y a
  left_by y a k said = grind (arith, parts_by)

  pub back_left : Had (background by_plain x) (BackLeft x)
  back_left =
      had_weaker (had_both half_left (stays_by x (background_based by_plain x) (background_goes by_plain x.plans x.history x (begins x))))
      (λ y a k. left_by y a k.1 k.0)
