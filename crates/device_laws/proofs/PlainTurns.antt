-- A run's device whose history is a plain device's, and that behind the end of its command at hand.
use Rattle.std.proofs.Common.{◌≡◌, ◌<◌, ◌≤◌, ◌*◌, ℕ, Bool, true, false, List, [], Option, Some, None, cond, refl, sym, ap, subst, ◌∙◌}
use Rattle.std.specs.Prelude.{IsSome}
use Rattle.ckd_types.specs.declared.channel.Ccw.{Ccw}
use Rattle.ckd_types.specs.declared.channel.CommandEnd.{CommandEnd}
use Rattle.ckd_types.specs.declared.geometry.Geometry.{Geometry}
use Rattle.ckd_types.specs.declared.record.Edit.{Edit}
use Rattle.ckd_types.specs.declared.record.Track.{Track}
use Rattle.ckd_types.specs.Ccw.{ccw_at}
use Rattle.ckd_types.specs.Volume.{track_in}
use Rattle.ckd_chain.specs.declared.progress.Settled.{Settled}
use Rattle.ckd_chain.specs.declared.progress.Settled.TheVariants.{Written, Equipment, DataCheck}
use Rattle.ckd_chain.specs.Fed.{ended_by, fed}
use Rattle.ckd_chain.specs.State.{ChainState}
use Rattle.ckd_chain.specs.Steps.{index_of, need_of, behind, end_with, settled_by}
use Rattle.ckd_rules.specs.declared.order.LocalAct.{LocalAct}
use Rattle.ckd_rules.specs.Ending.{Outcome}
use Rattle.ckd_rules.specs.Ends.{end_at_word}
use Rattle.plain_defs.specs.declared.journal.Act.{Act}
use Rattle.plain_defs.specs.declared.journal.How.TheVariants.{Full}
use Rattle.plain_defs.specs.Effect.{Effect, behind_effect}
use Rattle.plain_defs.specs.History.{
  OpenEntry,
  History,
  open_part,
  plain_of,
  state_by,
  acted,
  with_end,
  closed,
  ended as history_ended,
  ended_in,
  checked,
  checked_in,
  IsPlain,
}
use Rattle.plain_defs.specs.Journal.{Plans, program_of, replay}
use Rattle.plain_defs.specs.Legal.{MayEdit, IsCheck, IsLegal}
use Rattle.plain_defs.specs.PlainState.{PathsState, PlainState, with_sense}
use Rattle.plain_defs.specs.Program.{Part, ended_with, part_of}
use Rattle.device_defs.specs.declared.answers.Came.TheVariants.{Ends}
use Rattle.device_defs.specs.Device.{all_reset}
use Rattle.device_defs.specs.Marks.{MarksDevice}
use Rattle.device_defs.specs.Store.{Origin, OfCommand, OfCut, OfBackground, HalfWrite}
use Rattle.device_defs.specs.Outcomes.{checks, turned, sense_kept, program_over}
use Rattle.device_laws.specs.NewDevice.{first_state}
use Rattle.device_laws.proofs.ChainAtHand.{act_at_hand, end_at_hand}
use Rattle.device_laws.proofs.DeviceCuts.{StandsPlainly}
use Rattle.device_laws.proofs.DeviceEnds.{equipment_stands, data_check_stands}
use Rattle.device_laws.proofs.DeviceHistory.{IsAtHand, next_is, index_is, equipment_is_check, data_check_is_check}
use Rattle.device_laws.proofs.DevicePaths.{KeepsPaths}
use Rattle.device_laws.proofs.DueResets.{ended_due}
use Rattle.device_laws.proofs.HistoryEnds.{
  all_reset_in,
  edited_next,
  effect_at,
  one_longer,
  part_with_one,
  running_is_open,
  checked_state,
  going_ends_plain,
  ended_state_on,
  ended_state_over,
}
use Rattle.device_laws.proofs.OpenProgram.{IsGoing, with_one_act, going_of_open, part_with_act}
use Rattle.device_laws.proofs.PathsAlong.{equipment_keeps, data_check_keeps}
use Rattle.device_laws.proofs.PlainLooks.{IsAtWord}
use Rattle.device_laws.proofs.PlainStores.{Core, core_of, loose_at, IsOf, HasPlaces, Stays, of_beside}
use Rattle.device_laws.proofs.WaitingResets.{AreDue}

-- the chain is where the running program goes on, and none of its commands has begun
pub record AtPart (plans : Plans) (s : PlainState) (o : OpenEntry) (chain : ChainState) : Type 0 where
  pub hand : IsAtHand plans s o chain
  pub stance : chain.at.stance ≡ (open_part plans s o).stance
  pub fixed : chain.fixed ≡ (open_part plans s o).fixed
  pub fresh : chain.stage ≡ None

abbrev pub RunsAt : Plans → PlainState → Option OpenEntry → Option ChainState → Type 0
RunsAt plans s (Some o) (Some chain) = AtPart plans s o chain
RunsAt plans s (Some o) None = ⊥
RunsAt plans s None chain = Unit {0}

abbrev pub ChainOf : Geometry → ℕ → Option ChainState → Type 0
ChainOf g n (Some chain) = (chain.fixed.geometry ≡ g) × (chain.fixed.cylinders ≡ n)
ChainOf g n None = Unit {0}

-- Between the two parts of a command's write: the chain is behind it, and the program still before it, as it has no effect yet. It will end so on
-- every volume that has the same on the tracks that it looked at, and these are firm
pub record Halfway (c : Core) (t : ℕ) (e : Edit) (r : Option OpenEntry) (before now : Option ChainState) : Type 0 where
  pub runs : IsSome r
  pub origin : ChainState
  pub begins : before ≡ Some origin
  pub chain : ChainState
  pub is : now ≡ Some chain
  pub word : IsAtWord origin chain
  pub need : ℕ
  pub needs : need_of origin ≡ Some need
  pub first : ℕ
  pub below : first ≤ t
  pub firm : (q : ℕ) → first ≤ q → q ≤ t → loose_at c q ≡ false
  pub answer : LocalAct → Settled
  pub does : (v : List Track) → ((q : ℕ) → first ≤ q → q ≤ t → track_in v q ≡ track_in c.plain q) →
      fed (c.cylinders * 15) (track_in v) answer origin ≡ ended_by chain (settled_by chain Written) (Some (record { track = t; edit = e }))

abbrev pub IsMidOf : Core → ℕ → Origin → Option OpenEntry → Option ChainState → Option ChainState → Type 0
IsMidOf c t (OfCommand bypass e) r before now = Halfway c t e r before now
IsMidOf c t (OfCut bypass) r before now = now ≡ before
IsMidOf c t OfBackground r before now = now ≡ before

-- the chain, and the one before the command whose half write is open
abbrev pub IsMid : Core → Option (HalfWrite (Unit {0})) → Option OpenEntry → Option ChainState → Option ChainState → Type 0
IsMid c (Some h) r before now = IsMidOf c h.track h.origin r before now
IsMid c None r before now = now ≡ before

-- a device that is lent runs nothing
abbrev pub IsAtHome : Option ℕ → Option OpenEntry → Type 0
IsAtHome (Some to) r = r ≡ None
IsAtHome None r = Unit {0}

-- the history is a plain device's, whose volume and whose paths the device keeps, and whose program it runs
pub record Follows (num : ℕ) (empty : PlainState) (d : MarksDevice) : Type 0 where
  pub number : d.store.device ≡ num
  pub base : empty ≡ first_state d.store.geometry d.store.cylinders empty.volume
  pub some : 0 < d.store.cylinders
  pub stands : StandsPlainly empty d
  pub keeps : KeepsPaths empty d
  pub of : IsOf (plain_of d.plans empty d.history) (core_of d.store)
  pub places : HasPlaces (core_of d.store)
  pub before : Option ChainState
  pub runs : RunsAt d.plans (replay d.plans empty d.history.items) d.history.running before
  pub chain : ChainOf d.store.geometry d.store.cylinders before
  pub mid : IsMid (core_of d.store) d.store.half d.history.running before d.chain
  pub home : IsAtHome d.store.lent d.history.running

pub mid_none : (c : Core) (h : Option (HalfWrite (Unit {0}))) (r : Option OpenEntry) (b k : Option ChainState) → h ≡ None → k ≡ b → IsMid c h r b k
mid_none c (Some h) r b k is same = absurd (cc)
mid_none c None r b k is same = same

pub none_mid : (c : Core) (h : Option (HalfWrite (Unit {0}))) (r : Option OpenEntry) (b k : Option ChainState) → h ≡ None → IsMid c h r b k → k ≡ b
none_mid c (Some h) r b k is mid = absurd (cc)
none_mid c None r b k is mid = mid

pub some_none : (r : Option OpenEntry) → IsSome r → r ≡ None → ⊥
some_none (Some o) is none = cc
some_none None is none = cc

mid_idle_of : (c : Core) (t : ℕ) (origin : Origin) (r : Option OpenEntry) (b k : Option ChainState) → r ≡ None → IsMidOf c t origin r b k → k ≡ b
mid_idle_of c t (OfCommand bypass e) r b k none mid = absurd (some_none r mid.runs none)
mid_idle_of c t (OfCut bypass) r b k none mid = mid
mid_idle_of c t OfBackground r b k none mid = mid

-- where nothing runs
pub mid_idle : (c : Core) (h : Option (HalfWrite (Unit {0}))) (r : Option OpenEntry) (b k : Option ChainState) → r ≡ None → IsMid c h r b k → k ≡ b
mid_idle c (Some h) r b k none mid = mid_idle_of c h.track h.origin r b k none mid
mid_idle c None r b k none mid = mid

mid_other_of : (c e : Core) (t : ℕ) (origin : Origin) (r x : Option OpenEntry) (b k y z : Option ChainState) → r ≡ None → IsMidOf c t origin r b k →
    z ≡ y → IsMidOf e t origin x y z
mid_other_of c e t (OfCommand bypass edit) r x b k y z none mid same = absurd (some_none r mid.runs none)
mid_other_of c e t (OfCut bypass) r x b k y z none mid same = same
mid_other_of c e t OfBackground r x b k y z none mid same = same

-- any chain is behind nothing then
pub mid_other : (c e : Core) (h : Option (HalfWrite (Unit {0}))) (r x : Option OpenEntry) (b k y z : Option ChainState) → r ≡ None → IsMid c h r b k →
    z ≡ y → IsMid e h x y z
mid_other c e (Some h) r x b k y z none mid same = mid_other_of c e h.track h.origin r x b k y z none mid same
mid_other c e None r x b k y z none mid same = same

mid_stays_of : (c e : Core) (t : ℕ) (origin : Origin) (r x : Option OpenEntry) (b k : Option ChainState) → Stays c e → e.cylinders ≡ c.cylinders →
    (IsSome r → IsSome x) → IsMidOf c t origin r b k → IsMidOf e t origin x b k
mid_stays_of c e t (OfCommand bypass edit) r x b k stays n runs mid = record {
  runs = runs mid.runs;
  origin = mid.origin;
  begins = mid.begins;
  chain = mid.chain;
  is = mid.is;
  word = mid.word;
  need = mid.need;
  needs = mid.needs;
  first = mid.first;
  below = mid.below;
  firm = λ q above below. stays.loose q (mid.firm q above below);
  answer = mid.answer;
  does = λ v agrees.
      ap (λ (i : ℕ). fed (i * 15) (track_in v) mid.answer mid.origin) n
      ∙ mid.does v (λ q above below. agrees q above below ∙ stays.plain q (mid.firm q above below));
}
mid_stays_of c e t (OfCut bypass) r x b k stays n runs mid = mid
mid_stays_of c e t OfBackground r x b k stays n runs mid = mid

-- where firm tracks stay as they are, and a program that runs runs on
pub mid_stays : (c e : Core) (h : Option (HalfWrite (Unit {0}))) (r x : Option OpenEntry) (b k : Option ChainState) → Stays c e →
    e.cylinders ≡ c.cylinders → (IsSome r → IsSome x) → IsMid c h r b k → IsMid e h x b k
mid_stays c e (Some h) r x b k stays n runs mid = mid_stays_of c e h.track h.origin r x b k stays n runs mid
mid_stays c e None r x b k stays n runs mid = mid

pub at_home : (l : Option ℕ) (r : Option OpenEntry) → l ≡ None → IsAtHome l r
at_home (Some to) r is = absurd (cc)
at_home None r is = tt

pub home_runs : (l : Option ℕ) (r : Option OpenEntry) → IsAtHome l r → IsSome r → l ≡ None
home_runs (Some to) r home some = absurd (some_none r some home)
home_runs None r home some = refl

pub home_idle : (l : Option ℕ) (r : Option OpenEntry) → r ≡ None → IsAtHome l r
home_idle (Some to) r none = none
home_idle None r none = tt

pub home_stays : (l : Option ℕ) (r x : Option OpenEntry) → (r ≡ None → x ≡ None) → IsAtHome l r → IsAtHome l x
home_stays (Some to) r x idle home = idle home
home_stays None r x idle home = tt

-- what is kept of the paths is no part of a store
pub of_paths : (p : PlainState) (c : Core) → IsOf p c → (paths : PathsState) → IsOf (record p { paths = paths }) c
of_paths p c of paths = of_beside of paths c.acts c.half c.lent

-- the acts of an event are none either
pub of_begun : (p : PlainState) (c : Core) → IsOf p c → IsOf p (record c { acts = [] })
of_begun p c of = of_beside of p.paths [] c.half c.lent

pub runs_none : (plans : Plans) (s : PlainState) (r : Option OpenEntry) → r ≡ None → RunsAt plans s r None
runs_none plans s (Some o) is = absurd (cc)
runs_none plans s None is = tt

-- Behind the acts of an event

module _ (plans : Plans) (empty : PlainState) (chain : ChainState) where
  -- a program of the same path runs, and the chain is where it goes on
  pub record StillRuns (path : ℕ) (h : History) : Type 0 where
    pub entry : OpenEntry
    pub running : h.running ≡ Some entry
    pub path_is : entry.path ≡ path
    pub at : AtPart plans (replay plans empty h.items) entry chain

  pub act_at : (h : History) → IsPlain plans empty h → (o : OpenEntry) → h.running ≡ Some o → AreDue h → AtPart plans (replay plans empty h.items) o chain →
      (act : Act) → AtPart plans (replay plans empty h.items) (with_one_act o act) chain
  act_at h plain o running due at act =
      let s = replay plans empty h.items in
      let is_open = running_is_open plans empty h plain due o running in
      let same = part_with_act plans s h.items o (going_of_open plans s h.items o None is_open) act in
      record {
        hand = act_at_hand plans s h.items o chain at.hand is_open act;
        stance = at.stance ∙ sym (ap (λ (p : Part). p.stance) same);
        fixed = at.fixed ∙ sym (ap (λ (p : Part). p.fixed) same);
        fresh = at.fresh;
      }

  act_runs : (h : History) → IsPlain plans empty h → (o : OpenEntry) → h.running ≡ Some o → AreDue h → AtPart plans (replay plans empty h.items) o chain →
      (act : Act) → StillRuns o.path (acted h act)
  act_runs h plain o running due at act =
      rw running (record {
        entry = with_one_act o act;
        running = refl;
        path_is = refl;
        at = act_at h plain o running due at act;
      })

  pub one_act_runs : (path : ℕ) (h : History) → IsPlain plans empty h → AreDue h → StillRuns path h → (act : Act) → StillRuns path (acted h act)
  one_act_runs path h plain due r act =
      let one = act_runs h plain r.entry r.running due r.at act in
      record { entry = one.entry; running = one.running; path_is = one.path_is ∙ r.path_is; at = one.at }

-- A command's end

module _ (empty : PlainState) (d : MarksDevice) where
  abbrev s : PlainState
  s = replay d.plans empty d.history.items

  abbrev h : History
  h = d.history

  module _ (base : empty ≡ first_state d.store.geometry d.store.cylinders empty.volume) (some : 0 < d.store.cylinders) (places : HasPlaces (core_of d.store))
      (whole : d.store.half ≡ None) (home : d.store.lent ≡ None) (num : ℕ) (number : d.store.device ≡ num)
      (o : OpenEntry) (running : d.history.running ≡ Some o) (chain : ChainState) where
    -- as on the plain device, with what its path keeps of it
    module _ (legal : IsLegal d.plans empty d.history.items) (due : AreDue d.history)
        (at : AtPart d.plans (replay d.plans empty d.history.items) o chain)
        (going : IsGoing d.plans (replay d.plans empty d.history.items) d.history.items o
        (edited_next d.plans (replay d.plans empty d.history.items) d.history.items o))
        (outcome : Outcome)
        (same : outcome ≡ (effect_at d.plans (replay d.plans empty d.history.items) d.history.items o (index_of chain.at.next)).outcome)
        (may : MayEdit (open_part d.plans (replay d.plans empty d.history.items) o).state (open_part d.plans (replay d.plans empty d.history.items) o).stance
        (effect_at d.plans (replay d.plans empty d.history.items) d.history.items o (index_of chain.at.next)).edit)
        (paths_are : with_sense d.paths o.path outcome.ending.sense
        ≡ (effect_at d.plans (replay d.plans empty d.history.items) d.history.items o (index_of chain.at.next)).paths)
        (of : IsOf (behind_effect (open_part d.plans (replay d.plans empty d.history.items) o).state
        (effect_at d.plans (replay d.plans empty d.history.items) d.history.items o (index_of chain.at.next))) (core_of d.store))
        (on : ChainOf d.store.geometry d.store.cylinders (Some chain)) where
      abbrev i : ℕ
      i = index_of chain.at.next

      abbrev eff : Effect
      eff = effect_at d.plans s d.history.items o (index_of chain.at.next)

      abbrev e : CommandEnd
      e = end_with chain outcome

      next : (open_part d.plans s o).next ≡ Some (index_of chain.at.next)
      next = sym at.hand.next ∙ index_is chain.at.next (subst (λ (n : Option ℕ). IsSome n) (sym at.hand.next) going.runs)

      end_is : end_with chain outcome ≡ end_at_word (index_of chain.at.next) (ccw_at (program_of d.plans o.path o.ordinal) (index_of chain.at.next)) eff.outcome
      end_is =
          ap (λ (l : List Ccw). end_at_word (index_of chain.at.next) (ccw_at l (index_of chain.at.next)) outcome) at.hand.words
          ∙ ap (λ (x : Outcome). end_at_word (index_of chain.at.next) (ccw_at (program_of d.plans o.path o.ordinal) (index_of chain.at.next)) x) same

      ends_stand : StandsPlainly empty (record d { history = history_ended d.history e })
      ends_stand = record {
        plain = going_ends_plain d.plans empty d.history legal due o running going i next e end_is may;
        due = ended_due d.history due e;
      }

      state_over : e.over ≡ true → plain_of d.plans empty (history_ended d.history e)
          ≡ all_reset_in (behind_effect (open_part d.plans s o).state eff) d.history.waiting
      state_over over = ended_state_over d.plans empty d.history legal due o running going i next e end_is may over

      state_on : e.over ≡ false → plain_of d.plans empty (history_ended d.history e) ≡ behind_effect (open_part d.plans s o).state eff
      state_on more = ended_state_on d.plans empty d.history legal due o running going i next e end_is may more

      goes_over : e.over ≡ true → Follows num empty (program_over (sense_kept d o.path e) (history_ended d.history e))
      goes_over over = record {
        number = number;
        base = base;
        some = some;
        stands = record { plain = ends_stand.plain; due = ends_stand.due };
        keeps = ap (λ (x : PathsState). all_reset x d.history.waiting) paths_are ∙ sym (ap (λ (x : PlainState). x.paths) (state_over over));
        of = subst (λ (x : PlainState). IsOf x (core_of d.store)) (sym (state_over over))
            (of_paths (behind_effect (open_part d.plans s o).state eff) (core_of d.store) of (all_reset eff.paths d.history.waiting));
        places = places;
        before = None;
        runs = runs_none d.plans (replay d.plans empty (history_ended d.history e).items) (history_ended d.history e).running
            (ap (λ (r : Option OpenEntry). (ended_in d.history e r).running) running
            ∙ ap (λ (b : Bool). (cond b (closed d.history (with_end o e) Full) (record d.history { running = Some (with_end o e) })).running) over);
        chain = tt;
        mid = mid_none (core_of d.store) d.store.half (history_ended d.history e).running None None whole refl;
        home = at_home d.store.lent (history_ended d.history e).running home;
      }

      part_is : open_part d.plans s (with_end o e)
          ≡ (let p = open_part d.plans s o in ended_with (program_of d.plans o.path o.ordinal) p i eff)
      part_is =
          ap (λ (k : ℕ). part_of s o.path (program_of d.plans o.path o.ordinal) o.acts k) (one_longer o.ends e)
          ∙ part_with_one d.plans s d.history.items o going i next

      at_end : AtPart d.plans s (with_end o e) (behind chain outcome)
      at_end = record {
        hand = end_at_hand d.plans s d.history.items o chain at.hand going i (at.hand.next ∙ next) e outcome same;
        stance = ap (λ (x : Outcome). x.stance) same ∙ sym (ap (λ (p : Part). p.stance) part_is);
        fixed = at.fixed ∙ sym (ap (λ (p : Part). p.fixed) part_is);
        fresh = refl;
      }

      history_on : e.over ≡ false → history_ended d.history e ≡ record d.history { running = Some (with_end o e) }
      history_on more =
          ap (λ (r : Option OpenEntry). ended_in d.history e r) running
          ∙ ap (λ (b : Bool). cond b (closed d.history (with_end o e) Full) (record d.history { running = Some (with_end o e) })) more

      goes_on : e.over ≡ false → Follows num empty (record (sense_kept d o.path e) { chain = Some (behind chain outcome); history = history_ended d.history e })
      goes_on more = record {
        number = number;
        base = base;
        some = some;
        stands = record { plain = ends_stand.plain; due = ends_stand.due };
        keeps = paths_are ∙ sym (ap (λ (x : PlainState). x.paths) (state_on more));
        of = subst (λ (x : PlainState). IsOf x (core_of d.store)) (sym (state_on more)) of;
        places = places;
        before = Some (behind chain outcome);
        runs = subst (λ (k : History). RunsAt d.plans (replay d.plans empty k.items) k.running (Some (behind chain outcome))) (sym (history_on more)) at_end;
        chain = on;
        mid = mid_none (core_of d.store) d.store.half (history_ended d.history e).running (Some (behind chain outcome))
            (Some (behind chain outcome)) whole refl;
        home = at_home d.store.lent (history_ended d.history e).running home;
      }

      by_over : (over : Bool) → e.over ≡ over → Follows num empty (cond over (program_over (sense_kept d o.path e) (history_ended d.history e))
          (record (sense_kept d o.path e) { chain = Some (behind chain outcome); history = history_ended d.history e }))
      by_over true over = goes_over over
      by_over false more = goes_on more

      pub end_follows : Follows num empty (turned d o.path (record { came = Ends (end_with chain outcome); chain = behind chain outcome }))
      end_follows = by_over e.over refl

    -- with equipment check or data check
    module _ (stands : StandsPlainly empty d) (keeps : KeepsPaths empty d) (of : IsOf (plain_of d.plans empty d.history) (core_of d.store))
        (hand : IsAtHand d.plans (replay d.plans empty d.history.items) o chain) (at : ChainState) (word : IsAtWord chain at) where
      here : IsAtHand d.plans s o at
      here = record { words = word.words ∙ hand.words; next = word.next ∙ hand.next }

      check_state : (c : CommandEnd) → (open_part d.plans s o).next ≡ Some c.index → IsCheck (program_of d.plans o.path o.ordinal) c →
          IsOf (plain_of d.plans empty (checked d.history c)) (core_of d.store)
      check_state c next check =
          let is_open = running_is_open d.plans empty d.history stands.plain stands.due o running in
          let p = (open_part d.plans s o).state in
          rw (checked_state d.plans empty d.history stands.plain.legal stands.due o running is_open c next check) (of_paths p (core_of d.store)
          (subst (λ (x : PlainState). IsOf x (core_of d.store)) (ap (λ (r : Option OpenEntry). state_by d.plans s r) running) of)
          (all_reset (with_sense p.paths o.path c.sense) d.history.waiting))

      over_runs : (c : CommandEnd) → RunsAt d.plans (replay d.plans empty (checked d.history c).items) (checked d.history c).running None
      over_runs c = runs_none d.plans (replay d.plans empty (checked d.history c).items) (checked d.history c).running
          (ap (λ (r : Option OpenEntry). (checked_in d.history c r).running) running)

      pub equipment_follows : Follows num empty (turned d o.path (checks at Equipment))
      equipment_follows = record {
        number = number;
        base = base;
        some = some;
        stands = equipment_stands empty d o.path at stands o running here;
        keeps = equipment_keeps empty d keeps stands o running at here;
        of = check_state (end_with at (settled_by at Equipment)) (next_is empty d stands.plain stands.due o running at here o.path)
            (rw (← here.words) (equipment_is_check at));
        places = places;
        before = None;
        runs = over_runs (end_with at (settled_by at Equipment));
        chain = tt;
        mid = mid_none (core_of d.store) d.store.half (checked d.history (end_with at (settled_by at Equipment))).running None None whole refl;
        home = at_home d.store.lent (checked d.history (end_with at (settled_by at Equipment))).running home;
      }

      pub data_check_follows : Follows num empty (turned d o.path (checks at DataCheck))
      data_check_follows = record {
        number = number;
        base = base;
        some = some;
        stands = data_check_stands empty d o.path at stands o running here;
        keeps = data_check_keeps empty d keeps stands o running at here;
        of = check_state (end_with at (settled_by at DataCheck)) (next_is empty d stands.plain stands.due o running at here o.path)
            (rw (← here.words) (data_check_is_check at));
        places = places;
        before = None;
        runs = over_runs (end_with at (settled_by at DataCheck));
        chain = tt;
        mid = mid_none (core_of d.store) d.store.half (checked d.history (end_with at (settled_by at DataCheck))).running None None whole refl;
        home = at_home d.store.lent (checked d.history (end_with at (settled_by at DataCheck))).running home;
      }
