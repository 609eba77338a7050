-- A program that ended with a check in an event has the command at hand as its last one.
use Rattle.std.proofs.Common.{◌≡◌, ◌+◌, ◌-◌, ℕ, Bool, true, false, List, [], ◌∷◌, ◌++◌, length, Option, Some, None, refl, sym, ap, subst, ◌∙◌, arith}
use Rattle.std.proofs.lemmas.List.{length-append}
use Rattle.std.specs.Prelude.{IfSome, IsSome, if◌then◌else◌}
use Rattle.ckd_chain.specs.declared.progress.Progress.{Progress}
use Rattle.ckd_chain.specs.declared.progress.Progress.TheVariants as progresses
use Rattle.ckd_chain.specs.declared.progress.Settled.{Settled}
use Rattle.ckd_chain.specs.declared.progress.Settled.TheVariants.{Written, Equipment, DataCheck}
use Rattle.ckd_chain.specs.Fed.{Fed, fed}
use Rattle.ckd_chain.specs.State.{ChainState}
use Rattle.ckd_chain.specs.Steps.{need_of, index_of, word_of, end_with, settled_by, stage_of, stepped}
use Rattle.ckd_rules.specs.declared.order.LocalAct.{LocalAct}
use Rattle.ckd_types.specs.declared.channel.Ccw.{Ccw}
use Rattle.ckd_types.specs.declared.channel.CommandEnd.{CommandEnd}
use Rattle.ckd_types.specs.declared.record.Edit.{Edit}
use Rattle.ckd_types.specs.declared.record.Track.{Track}
use Rattle.ckd_types.specs.Ccw.{ccw_at}
use Rattle.ckd_types.specs.Commands.{command_of}
use Rattle.ckd_types.specs.Volume.{track_in}
use Rattle.plain_defs.specs.declared.journal.Act.{Act}
use Rattle.plain_defs.specs.declared.journal.Acted.{Acted}
use Rattle.plain_defs.specs.declared.journal.How.{How}
use Rattle.plain_defs.specs.declared.journal.How.TheVariants.{Full, Checked}
use Rattle.plain_defs.specs.declared.journal.Item.{Item}
use Rattle.plain_defs.specs.declared.journal.Item.TheVariants as items
use Rattle.plain_defs.specs.Effect.{Effect}
use Rattle.plain_defs.specs.Entry.{ProgramEntry}
use Rattle.plain_defs.specs.History.{
  OpenEntry,
  History,
  IsOpen,
  entry_of,
  resets_of,
  with_end,
  closed,
  ended_in,
  ended,
  checked_in,
  checked,
  acted,
  acted_in,
  open_part,
  plain_of,
}
use Rattle.plain_defs.specs.Journal.{program_of, entry_part, replay}
use Rattle.plain_defs.specs.PlainState.{PlainState}
use Rattle.plain_defs.specs.Program.{Part, part_of}
use Rattle.plain_device.specs.Acted.{settled_act, paths_behind}
use Rattle.track_image.specs.Image.{Image}
use Rattle.device_outside.specs.Interaction.{Interaction}
use Rattle.device_defs.specs.declared.answers.Came.TheVariants.{Ends}
use Rattle.device_defs.specs.declared.answers.SecondEnd.{SecondEnd}
use Rattle.device_defs.specs.Command as N
use Rattle.device_defs.specs.Command.{is_loss, has_loss, on_tracks, answered_by, command_at, command_by, command}
use Rattle.device_defs.specs.Contents.{by_plain}
use Rattle.device_defs.specs.Device.{all_acted, with_store, event_begun, event}
use Rattle.device_defs.specs.Excused.{LastCommand, is_write, is_checked, last_command}
use Rattle.device_defs.specs.Excused as X
use Rattle.device_defs.specs.Events as V
use Rattle.device_defs.specs.Events.{second_turn, command_ended, second_ended, second_of, second}
use Rattle.device_defs.specs.Marks.{MarksDevice, MarksStore}
use Rattle.device_defs.specs.Outcomes.{Turn, program_over, sense_kept, turned_by, turned, settles}
use Rattle.device_defs.specs.Owed.{noted_begin, waiting_count}
use Rattle.device_defs.specs.Store.{Origin, OfCommand, HalfWrite, tracks_of}
use Rattle.device_laws.proofs.DeviceHistory.{index_is}
use Rattle.device_laws.proofs.Had.{Had, had_done, had_try, had_if, had_then}
use Rattle.device_laws.proofs.OpenProgram.{with_one_act}
use Rattle.device_laws.proofs.PlainCommand as C
use Rattle.device_laws.proofs.PlainLooks.{from_itself, TurnIs, ended_so, equipment, data_check, half_open, FollowSo, follow_so}
use Rattle.device_laws.proofs.PlainRules.{eff_of}
use Rattle.device_laws.proofs.PlainSeconds.{SecondSo, part_so, holds_first}
use Rattle.device_laws.proofs.PlainStores.{Core, core_of}
use Rattle.device_laws.proofs.PlainTurns.{AtPart, Follows, Halfway, IsMidOf, IsMid}
use Rattle.device_laws.proofs.PlainWalks.{hear_same, ended_same}
use Rattle.device_laws.proofs.UncheckedEvents.{NoTrack, stage_none}

-- What a list begins with

same_front : (l : List Item) (x y : Item) (xs ys : List Item) → l ++ x ∷ xs ≡ l ++ y ∷ ys → x ≡ y
same_front [] x y xs ys e = cc
same_front (z ∷ l) x y xs ys e = let rest : l ++ x ∷ xs ≡ l ++ y ∷ ys = cc in same_front l x y xs ys rest

not_more : (l : List Item) (y : Item) (ys : List Item) → l ≡ l ++ y ∷ ys → ⊥
not_more [] y ys e = cc
not_more (z ∷ l) y ys e = let rest : l ≡ l ++ y ∷ ys = cc in not_more l y ys rest

-- A running program behind acts

still_lost : (acts : List Acted) (a : Acted) → has_loss acts ≡ true → has_loss (acts ++ a ∷ []) ≡ true
still_lost [] a e = absurd (cc)
still_lost (x ∷ acts) a e = by_test (is_loss x.act) e (λ f. still_lost acts a f) where
  by_test : (b : Bool) → (if b then true else has_loss acts) ≡ true → (has_loss acts ≡ true → has_loss (acts ++ a ∷ []) ≡ true) →
      (if b then true else has_loss (acts ++ a ∷ [])) ≡ true
  by_test true e more = refl
  by_test false e more = more e

pub record RunsOn (h : History) (o : OpenEntry) (k : History) : Type 0 where
  pub entry : OpenEntry
  pub running : k.running ≡ Some entry
  pub items : k.items ≡ h.items
  pub losses : has_loss o.acts ≡ true → has_loss entry.acts ≡ true

pub runs_still : (acts : List Act) (h : History) (o : OpenEntry) → h.running ≡ Some o → RunsOn h o (all_acted h acts)
runs_still [] h o running = record { entry = o; running = running; items = refl; losses = λ e. e }
runs_still (act ∷ acts) h o running =
    let r = runs_still acts (acted h act) (with_one_act o act) (ap (λ (x : Option OpenEntry). (acted_in h act x).running) running) in
    record {
      entry = r.entry;
      running = r.running;
      items = r.items ∙ ap (λ (x : Option OpenEntry). (acted_in h act x).items) running;
      losses = λ e. r.losses (still_lost o.acts _ e);
    }

module _ (num : ℕ) (empty : PlainState) (d : MarksDevice) (f : Follows num empty d) (o : OpenEntry) (running : d.history.running ≡ Some o) (chain : ChainState)
    (is : f.before ≡ Some chain) where
  abbrev pub its_effect : Effect
  its_effect = eff_of chain (C.at num empty d f o running chain is).fresh d.paths o.path d.store.plain

  -- the last command of an entry is the one at hand
  pub record Tells (e : ProgramEntry) : Type 0 where
    pub touched : (last_command d.plans (replay d.plans empty d.history.items) e).touched ≡ its_effect.touched
    pub writes : (last_command d.plans (replay d.plans empty d.history.items) e).writes ≡ is_write (command_of (word_of chain).command)
    pub losses : has_loss o.acts ≡ true → has_loss e.acts ≡ true

  -- what comes to the journal first, where it is a program that ended with a check
  abbrev pub Adds : History → Type 0
  Adds h = (e : ProgramEntry) (xs : List Item) → h.items ≡ d.history.items ++ items.Program e ∷ xs → is_checked e.how ≡ true → Tells e

  some_next : IsSome chain.at.next
  some_next =
      subst IsSome (sym (C.at num empty d f o running chain is).hand.next)
      (subst (λ (r : Option OpenEntry). IfSome r (IsOpen d.plans (replay d.plans empty d.history.items) d.history.items)) running f.stands.plain.at).runs

  module _ (h : History) (same : h.items ≡ d.history.items) (entry : OpenEntry) (path_is : entry.path ≡ o.path)
      (here : AtPart d.plans (replay d.plans empty h.items) entry chain)
      (volume : (open_part d.plans (replay d.plans empty h.items) entry).state.volume ≡ d.store.plain)
      (kept : (open_part d.plans (replay d.plans empty h.items) entry).state.paths ≡ d.paths)
      (losses : has_loss o.acts ≡ true → has_loss entry.acts ≡ true) (end : CommandEnd) where
    abbrev the_entry : ProgramEntry
    the_entry = record { path = entry.path; ordinal = entry.ordinal; how = Checked; ends = entry.ends ++ end ∷ []; acts = entry.acts }

    abbrev the_part : Part
    the_part = open_part d.plans (replay d.plans empty h.items) entry

    abbrev words : List Ccw
    words = program_of d.plans entry.path entry.ordinal

    part_is : entry_part d.plans (replay d.plans empty d.history.items) the_entry (length (entry.ends ++ end ∷ []) - 1) ≡ the_part
    part_is =
        let many : length (entry.ends ++ end ∷ []) ≡ length entry.ends + 1 = length-append entry.ends (end ∷ []) in
        let less : length (entry.ends ++ end ∷ []) - 1 ≡ length entry.ends = omega (arith, many) in
        ap (λ (k : ℕ). part_of (replay d.plans empty d.history.items) entry.path words entry.acts k) less
        ∙ ap (λ (l : List Item). open_part d.plans (replay d.plans empty l) entry) (sym same)

    command_is : last_command d.plans (replay d.plans empty d.history.items) the_entry
        ≡ X.last_command_at words entry.path the_part (Some (index_of chain.at.next))
    command_is =
        ap (λ (p : Part). X.command_in words entry.path p) part_is
        ∙ ap (λ (k : Option ℕ). X.last_command_at words entry.path the_part k) (sym here.hand.next ∙ index_is chain.at.next some_next)

    entry_tells : Tells the_entry
    entry_tells = record {
      touched = ap (λ (c : LastCommand). c.touched) command_is
          ∙ ap (λ (x : Effect). x.touched) (sym (C.same_effect num empty d f o running chain is h entry path_is here volume kept));
      writes = ap (λ (c : LastCommand). c.writes) command_is
          ∙ ap (λ (l : List Ccw). is_write (command_of (ccw_at l (index_of chain.at.next)).command)) (sym here.hand.words);
      losses = losses;
    }

    check_adds_by : (r : Option OpenEntry) → r ≡ Some entry → Adds (checked_in h end r)
    check_adds_by None runs e xs at how = absurd (cc)
    check_adds_by (Some x) runs e xs at how =
        let it : x ≡ entry = cc in
        let begins : d.history.items ++ entry_of (with_end entry end) Checked ∷ resets_of h.waiting ≡ d.history.items ++ items.Program e ∷ xs =
        ap (λ (l : List Item). l ++ entry_of (with_end entry end) Checked ∷ resets_of h.waiting) (sym same)
        ∙ ap (λ (k : OpenEntry). h.items ++ entry_of (with_end k end) Checked ∷ resets_of h.waiting) (sym it) ∙ at in
        let first : entry_of (with_end entry end) Checked ≡ items.Program e = same_front d.history.items _ _ _ _ begins in
        let is : the_entry ≡ e = cc in
        subst Tells is entry_tells

  -- no program ended with a check
  none_adds : (h : History) → h.items ≡ d.history.items → Adds h
  none_adds h same e xs at how = absurd (not_more d.history.items (items.Program e) xs (sym same ∙ at))

  over_adds : (h : History) (x : OpenEntry) (b : Bool) → h.items ≡ d.history.items → Adds (if b then closed h x Full else record h { running = Some x })
  over_adds h x true same e xs at how =
      let begins : d.history.items ++ entry_of x Full ∷ resets_of h.waiting ≡ d.history.items ++ items.Program e ∷ xs =
      ap (λ (l : List Item). l ++ entry_of x Full ∷ resets_of h.waiting) (sym same) ∙ at in
      let first : entry_of x Full ≡ items.Program e = same_front d.history.items _ _ _ _ begins in
      let full : Full ≡ e.how = cc in
      absurd (let none : is_checked Full ≡ true = subst (λ (k : How). is_checked k ≡ true) (sym full) how in cc)
  over_adds h x false same e xs at how = none_adds h same e xs at how

  ended_adds : (h : History) → h.items ≡ d.history.items → (end : CommandEnd) (r : Option OpenEntry) → Adds (ended_in h end r)
  ended_adds h same end (Some x) = over_adds h (with_end x end) end.over same
  ended_adds h same end None = none_adds h same

  gone_adds : (z : MarksDevice) (k : History) (last : ChainState) (b : Bool) → Adds k →
      Adds (if b then program_over z k else record z { chain = Some last; history = k }).history
  gone_adds z k last true f = f
  gone_adds z k last false f = f

  ends_add : (z : MarksDevice) (path : ℕ) (last : ChainState) (end : CommandEnd) → z.history.items ≡ d.history.items →
      Adds (turned_by z path last (Ends end)).history
  ends_add z path last end same =
      gone_adds (sense_kept z path end) (ended z.history end) last end.over (ended_adds z.history same end z.history.running)

  abbrev Walking : Core → Type 0
  Walking c = C.Walking num empty d f o running chain is c

  -- behind acts of an event
  check_adds : (y : MarksStore) → Walking (core_of y) → (end : CommandEnd) → Adds (checked (all_acted d.history y.acts) end)
  check_adds y w end =
      let r = C.runs_on num empty d f o running chain is y.acts w.are in
      let on = runs_still y.acts d.history o running in
      let it : on.entry ≡ r.entry = (let both : Some on.entry ≡ Some r.entry = sym on.running ∙ r.running in cc) in
      let part = C.part_on num empty d f o running chain is y.acts w.are in
      check_adds_by (all_acted d.history y.acts) on.items r.entry r.path_is r.at
      (ap (λ (s : PlainState). s.volume) part ∙ w.of.volume ∙ w.plain)
      (ap (λ (s : PlainState). s.paths) part ∙ C.paths_on num empty d f o running chain is y.acts w.are) (rw (← it) on.losses) end
      (all_acted d.history y.acts).running r.running

  turn_adds : (z : MarksDevice) → z.history ≡ d.history → (answer : LocalAct → Settled)
      (on : chain.fixed.geometry ≡ d.store.geometry) (k : List Track → Fed) (from first : ℕ) (turn : Turn) (y : MarksStore)
      (c : Core) → core_of y ≡ c →
      TurnIs (plain_of d.plans empty d.history) d.store.plain d.store.geometry d.store.cylinders (None, (d.store.lent, d.store.device)) answer chain on first k
      from turn c →
      Adds (turned (with_store z y) o.path turn).history
  turn_adds z hist answer on k from first turn y c same (ended_so e after x end goes edit) =
      ends_add (with_store z y) o.path after e
      (ap (λ (h : History). (all_acted h y.acts).items) hist ∙ (runs_still y.acts d.history o running).items)
  turn_adds z hist answer on k from first turn y c same (equipment at x word w) =
      rw hist (check_adds y (subst Walking (sym same) w) (end_with at (settled_by at Equipment)))
  turn_adds z hist answer on k from first turn y c same (data_check at x word w) =
      rw hist (check_adds y (subst Walking (sym same) w) (end_with at (settled_by at DataCheck)))
  turn_adds z hist answer on k from first turn y c same (half_open t e next x word below does half) =
      none_adds (all_acted z.history y.acts)
      (ap (λ (h : History). (all_acted h y.acts).items) hist ∙ (runs_still y.acts d.history o running).items)

  abbrev AddsBehind : {A : Type 0} → Interaction Bool Image MarksDevice A → Type 0
  AddsBehind {A} i = Had i (λ x (_ : A). Adds x.history)

  by_turn : (z : MarksDevice) → z.history ≡ d.history → (answer : LocalAct → Settled) (on : chain.fixed.geometry ≡ d.store.geometry) (k t : ℕ)
      (y : MarksStore) (a : Option Turn) →
      FollowSo (plain_of d.plans empty d.history) d.store.plain d.store.geometry d.store.cylinders (None, (d.store.lent, d.store.device)) answer chain on t k
      chain t y a → AddsBehind (on_tracks by_plain z o.path chain y a)
  by_turn z hist answer on k t y None w = absurd w
  by_turn z hist answer on k t y (Some turn) w =
      had_done (turn_adds z hist answer on (λ (v : List Track). fed k (track_in v) answer chain) t t turn y (core_of y) refl w)

  answered_adds : (z : MarksDevice) → z.history.items ≡ d.history.items → (last : ChainState) (x : Progress) → NoTrack x →
      AddsBehind (answered_by by_plain z o.path last x)
  answered_adds z same last (progresses.Ended e) none = had_done (ends_add z o.path last e same)
  answered_adds z same last (progresses.Local act) none =
      had_done (ends_add (record z { paths = paths_behind z.paths o.path act }) o.path
      (settles last (settled_act z.store.geometry z.paths o.path act)).chain
      (end_with last (settled_by last (settled_act z.store.geometry z.paths o.path act))) same)
  answered_adds z same last (progresses.Need q) none = absurd none
  answered_adds z same last (progresses.Write q e) none = absurd none

  event_adds : {A : Type 0} (body : MarksDevice → Interaction Bool Image MarksDevice A) →
      ((s : MarksStore) → core_of s ≡ core_of (noted_begin d.store) → AddsBehind (body (record (event_begun d) { store = s }))) → AddsBehind (event by_plain d body)
  event_adds body h =
      had_then (had_then (hear_same 960 (noted_begin d.store)) (λ s _ e. h s e))
      (λ y a g. had_then (ended_same (waiting_count by_plain d.store) y.store) (λ z _ e. had_done g))

  module _ (now : d.chain ≡ Some chain) (whole : d.store.half ≡ None) where
    module _ (s : MarksStore) (e : core_of s ≡ core_of (noted_begin d.store)) where
      abbrev with_it : MarksDevice
      with_it = record (event_begun d) { store = s }

      tracked : (t : ℕ) → need_of chain ≡ Some t → AddsBehind (command_at by_plain with_it o.path chain (Some t))
      tracked t needs =
          let on = (C.on num empty d f o running chain is).0 in
          let answer = settled_act chain.fixed.geometry d.paths o.path in
          had_then (follow_so (plain_of d.plans empty d.history) d.store.plain d.store.geometry d.store.cylinders (None, (d.store.lent, d.store.device))
          answer chain on t (tracks_of s) chain t s (record { from = from_itself chain; needs = needs; above = omega arith })
          (C.walking_first num empty d f o running chain is now whole s e))
          (λ y a w. by_turn with_it refl answer on (tracks_of s) t y a w)

      by_need : (k : Option ℕ) → need_of chain ≡ k → AddsBehind (command_at by_plain with_it o.path chain k)
      by_need (Some t) needs = tracked t needs
      by_need None none =
          had_try (answered_adds with_it refl (stepped chain None).chain (stepped chain None).progress (stage_none chain (stage_of chain) none refl))

      lost_adds : Adds (checked d.history (end_with chain (settled_by chain Equipment)))
      lost_adds =
          subst (λ (l : List Act). Adds (checked (all_acted d.history l) (end_with chain (settled_by chain Equipment))))
          (ap (λ (c : Core). c.acts) e)
          (check_adds s (C.walking_first num empty d f o running chain is now whole s e) (end_with chain (settled_by chain Equipment)))

      begun_adds : AddsBehind (command_by by_plain with_it (Some o) (Some chain))
      begun_adds = had_if (has_loss o.acts) (λ _. had_done lost_adds) (λ _. by_need (need_of chain) refl)

      by_adds : AddsBehind (command_by by_plain with_it d.history.running d.chain)
      by_adds =
          subst (λ (r : Option OpenEntry). AddsBehind (command_by by_plain with_it r d.chain)) (sym running)
          (subst (λ (k : Option ChainState). AddsBehind (command_by by_plain with_it (Some o) k)) (sym now) begun_adds)

    pub command_adds : AddsBehind (command by_plain d)
    unfolding N.command
    command_adds = had_try (event_adds (λ z. command_by by_plain z z.history.running z.chain) (λ s e. by_adds s e))

  -- the other part of its write
  module _ (t : ℕ) (edit : Edit) (last : ChainState) (now : d.chain ≡ Some last) where
    abbrev SecondBehind : Origin → MarksStore → Bool → Type 0
    SecondBehind origin y done =
        SecondSo (plain_of d.plans empty d.history) d.store.plain d.store.geometry d.store.cylinders (d.store.lent, d.store.device) t origin y done

    turn_second : (bypass : Bool) (y : MarksStore) (path : ℕ) (done : Bool) → SecondBehind (OfCommand bypass edit) y done →
        Adds (turned (with_store d y) path (second_turn by_plain last done)).history
    turn_second bypass y path true k =
        ends_add (with_store d y) path (settles last Written).chain (end_with last (settled_by last Written)) (runs_still y.acts d.history o running).items
    turn_second bypass y path false w = check_adds y w (end_with last (settled_by last Equipment))

    pub second_ended_adds : (bypass : Bool) (y : MarksStore) (done : Bool) → SecondBehind (OfCommand bypass edit) y done →
        AddsBehind (second_ended by_plain (with_store d y) t (OfCommand bypass edit) done)
    second_ended_adds bypass y done k =
        let r = runs_still y.acts d.history o running in
        subst (λ (x : Option OpenEntry). AddsBehind (command_ended by_plain (with_store d y) t x d.chain done)) (sym r.running)
        (subst (λ (x : Option ChainState). AddsBehind (command_ended by_plain (with_store d y) t (Some r.entry) x done)) (sym now)
        (had_done (turn_second bypass y r.entry.path done k)))

-- the event of the other part of a command's write
module _ (num : ℕ) (empty : PlainState) (d : MarksDevice) (f : Follows num empty d) (h : HalfWrite (Unit {0})) (there : d.store.half ≡ Some h)
    (bypass : Bool) (edit : Edit) (of_command : h.origin ≡ OfCommand bypass edit) (o : OpenEntry) (running : d.history.running ≡ Some o) where
  pub halfway : Halfway (core_of d.store) h.track edit d.history.running f.before d.chain
  halfway =
      subst (λ (x : Origin). IsMidOf (core_of d.store) h.track x d.history.running f.before d.chain) of_command
      (subst (λ (x : Option (HalfWrite (Unit {0}))). IsMid (core_of d.store) x d.history.running f.before d.chain) there f.mid)

  pub second_adds : Had (second by_plain d) (λ y (_ : SecondEnd). Adds num empty d f o running halfway.origin halfway.begins y.history)
  unfolding V.second
  second_adds =
      let mid = subst (λ (x : Option (HalfWrite (Unit {0}))). IsMid (core_of d.store) x d.history.running f.before d.chain) there f.mid in
      event_adds num empty d f o running halfway.origin halfway.begins (λ z. second_of by_plain z z.store.half)
      (λ s e. subst (λ (x : Option (HalfWrite (Unit {0}))). Had (second_of by_plain (record (event_begun d) { store = s }) x)
      (λ y (_ : SecondEnd). Adds num empty d f o running halfway.origin halfway.begins y.history))
      (sym (ap (λ (c : Core). c.half) e ∙ there))
      (had_then (part_so (plain_of d.plans empty d.history) d.store.plain d.store.geometry d.store.cylinders (d.store.lent, d.store.device) s h d.store.half
      (holds_first num empty d f h.track h.origin mid s e))
      (λ y done k. by_origin y done h.origin of_command k)))
    where
      by_origin : (y : MarksStore) (done : Bool) (origin : Origin) → origin ≡ OfCommand bypass edit →
          SecondSo (plain_of d.plans empty d.history) d.store.plain d.store.geometry d.store.cylinders (d.store.lent, d.store.device) h.track origin y done →
          Had (second_ended by_plain (with_store d y) h.track origin done)
          (λ x (_ : SecondEnd). Adds num empty d f o running halfway.origin halfway.begins x.history)
      by_origin y done origin e k =
          rw e (second_ended_adds num empty d f o running halfway.origin halfway.begins h.track edit halfway.chain halfway.is bypass y done
          (rw (← e) k))
