-- The other part of a write, and orders, keep the history of a run's device a plain device's.
use Rattle.std.proofs.Common.{◌≡◌, ℕ, Bool, true, false, List, Option, Some, None, refl, sym, ap, subst, ◌∙◌, arith}
use Rattle.ckd_types.specs.declared.geometry.Geometry.{Geometry}
use Rattle.ckd_types.specs.declared.record.Edit.{Edit}
use Rattle.ckd_types.specs.declared.record.Track.{Track}
use Rattle.ckd_chain.specs.declared.progress.Settled.TheVariants.{Written, Equipment}
use Rattle.ckd_chain.specs.Fed.{Fed}
use Rattle.ckd_chain.specs.State.{ChainState}
use Rattle.ckd_chain.specs.Steps.{behind, end_with}
use Rattle.plain_defs.specs.History.{OpenEntry, plain_of}
use Rattle.plain_defs.specs.Legal.{AreActs}
use Rattle.plain_defs.specs.PlainState.{PlainState}
use Rattle.track_image.specs.Image.{Image}
use Rattle.device_defs.specs.declared.answers.Came.TheVariants.{Ends}
use Rattle.device_defs.specs.declared.answers.SecondEnd.{SecondEnd}
use Rattle.device_defs.specs.Contents.{by_plain}
use Rattle.device_defs.specs.Device.{all_acted, with_store, event_begun}
use Rattle.device_defs.specs.Effects.{with_edit}
use Rattle.device_defs.specs.Events as V
use Rattle.device_defs.specs.Events.{second_of, second_ended, second_turn, command_ended, second}
use Rattle.device_defs.specs.Losses.{slot_in}
use Rattle.device_defs.specs.Marks.{MarksDevice, MarksStore}
use Rattle.device_defs.specs.Outcomes.{Turn, settles, checks, turned}
use Rattle.device_defs.specs.Owed.{noted_begin}
use Rattle.device_defs.specs.Second as N
use Rattle.device_defs.specs.Second.{second_part, second_by, cut_kept, half_closed}
use Rattle.device_defs.specs.Store.{Origin, OfCommand, OfCut, OfBackground, HalfWrite, has_level, frame_at, patch_at, with_frame}
use Rattle.device_laws.proofs.Had.{Had, had_done, had_tell, had_if, had_then}
use Rattle.device_laws.proofs.PlainCommand.{equipment_on, edited_follows, sized_by, runs_on, event_follows}
use Rattle.device_laws.proofs.PlainCuts.{its_effect, its_end, its_edit, its_sense}
use Rattle.device_laws.proofs.PlainLosses.{acts_follow, walks_first}
use Rattle.device_laws.proofs.PlainStores.{Core, Open, core_of, loose_at, edited_core, hardened_core, Walks, walks_on, walks_hardened, walks_half}
use Rattle.device_laws.proofs.PlainTurns.{Halfway, IsMid, IsMidOf, Follows, some_none, mid_none}
use Rattle.device_laws.proofs.PlainWalks.{firmly, FirmAt, firm_hardened, framed_same, patch_same, done_same, settled_on, second_part_holds}

-- What the other part leaves: the edit of a command took effect, or none

module _ (p : PlainState) (u : List Track) (g : Geometry) (n : ℕ) (lent : Option ℕ × ℕ) where
  abbrev pub On : MarksStore → Type 0
  On s = Walks p u g n (None, lent) (core_of s)

  pub record Edited (t : ℕ) (e : Edit) (z : MarksStore) : Type 0 where
    pub before : Core
    pub on : Walks p u g n (None, lent) before
    pub firm : loose_at before t ≡ false
    pub is : core_of z ≡ edited_core before t e

  abbrev pub SecondSo : ℕ → Origin → MarksStore → Bool → Type 0
  SecondSo t (OfCommand bypass e) z true = Edited t e z
  SecondSo t (OfCommand bypass e) z false = On z
  SecondSo t (OfCut bypass) z done = On z
  SecondSo t OfBackground z done = On z

  -- the track of a command's edit is firm
  abbrev pub Holds : Origin → Open → ℕ → Core → Type 0
  Holds (OfCommand bypass e) m t c = FirmAt p u g n m (λ q. ⊥) t c
  Holds (OfCut bypass) m t c = Walks p u g n m c
  Holds OfBackground m t c = Walks p u g n m c

  hard : (origin : Origin) (m : Open) (t : ℕ) (c : Core) (k : ℕ) → Holds origin m t c → loose_at c k ≡ true → Holds origin m t (hardened_core c k)
  hard (OfCommand bypass e) m t c k w is = firm_hardened p u g n m (λ q. ⊥) t c k w is
  hard (OfCut bypass) m t c k w is = walks_hardened p u g n m c k w is
  hard OfBackground m t c k w is = walks_hardened p u g n m c k w is

  closed_on : (h : Option (HalfWrite (Unit {0}))) (s : MarksStore) → Walks p u g n (h, lent) (core_of s) → On (half_closed s)
  closed_on h s w = walks_half p u g n (h, lent) (core_of s) w None

  kept_on : (s : MarksStore) (t : ℕ) (i : Image) (o : Option Bool) → On s → On (cut_kept by_plain s t i o)
  kept_on s t i None w = w
  kept_on s t i (Some f) w =
      walks_on p u g n (None, lent)
      (patch_same (with_frame s t (Some f)) t (slot_in by_plain (patch_at (with_frame s t (Some f)) t)) ∙ framed_same s t (Some f)) w

  by_level : (h : Option (HalfWrite (Unit {0}))) (s : MarksStore) (t : ℕ) (i : Image) (origin : Origin) → Holds origin (h, lent) t (core_of s) →
      Had (second_by by_plain t i origin s) (λ z done. SecondSo t origin z done)
  by_level h s t i (OfCommand bypass e) f =
      had_if (has_level s t)
      (λ _. had_tell (had_then (done_same (with_edit (half_closed s) t e) t i bypass)
      (λ z _ same. had_done (record { before = core_of (half_closed s); on = closed_on h s f.on; firm = f.firm; is = same }))))
      (λ _. had_done (settled_on p u g n (None, lent) (half_closed s) t (closed_on h s f.on)))
  by_level h s t i (OfCut bypass) w =
      had_if (has_level s t)
      (λ _. had_then (done_same (half_closed s) t i bypass) (λ z _ e. had_done (walks_on p u g n (None, lent) e (closed_on h s w))))
      (λ _. had_done (settled_on p u g n (None, lent) (cut_kept by_plain (half_closed s) t i (frame_at (half_closed s) t)) t
      (kept_on (half_closed s) t i (frame_at (half_closed s) t) (closed_on h s w))))
  by_level h s t i OfBackground w =
      had_if (has_level s t)
      (λ _. had_then (done_same (half_closed s) t i false) (λ z _ e. had_done (walks_on p u g n (None, lent) e (closed_on h s w))))
      (λ _. had_done (settled_on p u g n (None, lent) (half_closed s) t (closed_on h s w)))

  pub part_so : (s : MarksStore) (h : HalfWrite (Unit {0})) (m : Option (HalfWrite (Unit {0}))) → Holds h.origin (m, lent) h.track (core_of s) →
      Had (second_part by_plain s h) (λ z done. SecondSo h.track h.origin z done)
  unfolding N.second_part
  part_so s h m w =
      had_then (second_part_holds (Holds h.origin (m, lent) h.track) (hard h.origin (m, lent) h.track) s h.track true w)
      (λ z _ f. by_level m z h.track _ h.origin f)

-- The event

module _ (num : ℕ) (empty : PlainState) (d : MarksDevice) (f : Follows num empty d) where
  abbrev p : PlainState
  p = plain_of d.plans empty d.history

  abbrev AtEnd : MarksStore → Type 0
  AtEnd y = Walks (plain_of d.plans empty d.history) d.store.plain d.store.geometry d.store.cylinders (None, (d.store.lent, d.store.device)) (core_of y)

  half_gone : (y : MarksStore) → AtEnd y → y.half ≡ None
  half_gone y w = ap (λ (x : Open). x.0) w.rest

  -- of a write that is no command's
  other_follows : (y : MarksStore) → AtEnd y → d.chain ≡ f.before → Follows num empty (with_store d y)
  other_follows y w same =
      acts_follow num empty d f y d.store.plain
      (subst (λ (h : Option (HalfWrite (Unit {0}))). Walks (plain_of d.plans empty d.history) d.store.plain d.store.geometry d.store.cylinders
      (h, (d.store.lent, d.store.device)) (core_of y)) (sym (half_gone y w)) w)
      (mid_none (core_of y) y.half (all_acted d.history y.acts).running f.before d.chain (half_gone y w) same)

  module _ (t : ℕ) (e : Edit) (mid : Halfway (core_of d.store) t e d.history.running f.before d.chain) (o : OpenEntry)
      (running : d.history.running ≡ Some o) where
    same_turn : (record {
      came = Ends (end_with mid.origin (its_effect num empty d f o running t e mid).outcome);
      chain = behind mid.origin (its_effect num empty d f o
          running t e mid).outcome;
    }) ≡ settles mid.chain Written
    same_turn = ap (λ (x : Fed). record { came = Ends x.end; chain = x.chain }) (its_end num empty d f o running t e mid)

    done_follows : (y : MarksStore) → Edited (plain_of d.plans empty d.history) d.store.plain d.store.geometry d.store.cylinders
        (d.store.lent, d.store.device) t e y →
        Follows num empty (turned (with_store d y) o.path (settles mid.chain Written))
    done_follows y k =
        subst (λ (x : Turn). Follows num empty (turned (with_store d y) o.path x)) same_turn
        (edited_follows num empty d f o running mid.origin mid.begins y (core_of y) t e refl (its_edit num empty d f o running t e mid)
        (its_sense num empty d f o running t e mid) (firmly k.before (core_of y) k.on k.firm k.is))

    failed_follows : (y : MarksStore) → AtEnd y → Follows num empty (turned (with_store d y) o.path (checks mid.chain Equipment))
    failed_follows y w =
        equipment_on num empty d f o running mid.origin mid.begins y
        (sized_by num empty d f o running mid.origin mid.begins y (core_of y) (core_of y) refl w w.places refl refl refl) w.are w.of mid.chain mid.word

    turn_follows : (y : MarksStore) (done : Bool) →
        SecondSo (plain_of d.plans empty d.history) d.store.plain d.store.geometry d.store.cylinders (d.store.lent, d.store.device) t
        (OfCommand false e) y done →
        Follows num empty (turned (with_store d y) o.path (second_turn by_plain mid.chain done))
    turn_follows y true k = done_follows y k
    turn_follows y false w = failed_follows y w

    acts_legal : (y : MarksStore) (done : Bool) →
        SecondSo (plain_of d.plans empty d.history) d.store.plain d.store.geometry d.store.cylinders (d.store.lent, d.store.device) t
        (OfCommand false e) y done →
        AreActs (plain_of d.plans empty d.history) None y.acts
    acts_legal y true k = rw (ap (λ (c : Core). c.acts) k.is) k.on.are
    acts_legal y false w = w.are

    command_follows : (y : MarksStore) (done : Bool) →
        SecondSo (plain_of d.plans empty d.history) d.store.plain d.store.geometry d.store.cylinders (d.store.lent, d.store.device) t
        (OfCommand false e) y done →
        Had (command_ended by_plain (with_store d y) t (all_acted d.history y.acts).running d.chain done) (λ x (_ : SecondEnd). Follows num empty x)
    command_follows y done k =
        let r = runs_on num empty d f o running mid.origin mid.begins y.acts (acts_legal y done k) in
        subst (λ (x : Option OpenEntry). Had (command_ended by_plain (with_store d y) t x d.chain done) (λ x (_ : SecondEnd). Follows num empty x))
        (sym r.running)
        (subst (λ (x : Option ChainState). Had (command_ended by_plain (with_store d y) t (Some r.entry) x done) (λ x (_ : SecondEnd). Follows num empty x))
        (sym mid.is) (had_done (rw r.path_is (turn_follows y done k))))

  its_second : (t : ℕ) (e : Edit) (mid : Halfway (core_of d.store) t e d.history.running f.before d.chain) (r : Option OpenEntry) →
      d.history.running ≡ r → (y : MarksStore) (done : Bool) →
      SecondSo (plain_of d.plans empty d.history) d.store.plain d.store.geometry d.store.cylinders (d.store.lent, d.store.device) t (OfCommand false e) y done →
      Had (command_ended by_plain (with_store d y) t (all_acted d.history y.acts).running d.chain done) (λ x (_ : SecondEnd). Follows num empty x)
  its_second t e mid None none y done k = absurd (some_none d.history.running mid.runs none)
  its_second t e mid (Some o) running y done k = command_follows t e mid o running y done k

  either_done : (t : ℕ) (bypass : Bool) (e : Edit) (y : MarksStore) (done : Bool) →
      SecondSo (plain_of d.plans empty d.history) d.store.plain d.store.geometry d.store.cylinders (d.store.lent, d.store.device) t
      (OfCommand bypass e) y done →
      SecondSo (plain_of d.plans empty d.history) d.store.plain d.store.geometry d.store.cylinders (d.store.lent, d.store.device) t (OfCommand false e) y done
  either_done t bypass e y true k = k
  either_done t bypass e y false k = k

  ended_so : (t : ℕ) (origin : Origin) → IsMidOf (core_of d.store) t origin d.history.running f.before d.chain → (y : MarksStore) (done : Bool) →
      SecondSo (plain_of d.plans empty d.history) d.store.plain d.store.geometry d.store.cylinders (d.store.lent, d.store.device) t origin y done →
      Had (second_ended by_plain (with_store d y) t origin done) (λ x (_ : SecondEnd). Follows num empty x)
  ended_so t (OfCommand bypass e) mid y done k = its_second t e mid d.history.running refl y done (either_done t bypass e y done k)
  ended_so t (OfCut bypass) mid y done w = had_done (other_follows y w mid)
  ended_so t OfBackground mid y done w = had_done (other_follows y w mid)

  pub holds_first : (t : ℕ) (origin : Origin) → IsMidOf (core_of d.store) t origin d.history.running f.before d.chain → (s : MarksStore) →
      core_of s ≡ core_of (noted_begin d.store) →
      Holds (plain_of d.plans empty d.history) d.store.plain d.store.geometry d.store.cylinders (d.store.lent, d.store.device) origin
      (d.store.half, (d.store.lent, d.store.device)) t (core_of s)
  holds_first t (OfCommand bypass e) mid s is = record {
    on = walks_first num empty d f s is;
    firm = ap (λ (c : Core). loose_at c t) is ∙ (let below = mid.below in mid.firm t below (omega arith));
    others = λ q r. absurd r;
  }
  holds_first t (OfCut bypass) mid s is = walks_first num empty d f s is
  holds_first t OfBackground mid s is = walks_first num empty d f s is

  -- the other part of a write
  pub second_follows : (h : HalfWrite (Unit {0})) → d.store.half ≡ Some h → Had (second by_plain d) (λ y (_ : SecondEnd). Follows num empty y)
  unfolding V.second
  second_follows h there =
      let mid = subst (λ (x : Option (HalfWrite (Unit {0}))). IsMid (core_of d.store) x d.history.running f.before d.chain) there f.mid in
      event_follows num empty d (λ z. second_of by_plain z z.store.half)
      (λ s e. subst (λ (x : Option (HalfWrite (Unit {0}))). Had (second_of by_plain (record (event_begun d) { store = s }) x)
      (λ y (_ : SecondEnd). Follows num empty y))
      (sym (ap (λ (c : Core). c.half) e ∙ there))
      (had_then (part_so (plain_of d.plans empty d.history) d.store.plain d.store.geometry d.store.cylinders (d.store.lent, d.store.device) s h d.store.half
      (holds_first h.track h.origin mid s e))
      (λ y done k. ended_so h.track h.origin mid y done k)))
