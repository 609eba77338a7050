-- Each equipment check in the run of a deck is explained, while failed calls are counted.
use Rattle.std.proofs.Common.{
  ◌≡◌,
  ◌<◌,
  ◌+◌,
  ◌-◌,
  ◌==◌,
  ℕ,
  Bool,
  true,
  false,
  List,
  [],
  ◌∷◌,
  ◌++◌,
  length,
  Option,
  Some,
  None,
  option_map,
  refl,
  sym,
  ap,
  subst,
  ◌∙◌,
  append_assoc,
  arith,
  ◌⊎◌,
  inl,
  inr,
}
use Rattle.std.proofs.lemmas.Bool.{ne_eqb}
use Rattle.std.proofs.lemmas.List.{append-nil}
use Rattle.std.specs.Prelude.{not, count_by, if◌then◌else◌, ◌&&◌, ◌||◌}
use Rattle.ckd_chain.specs.State.{ChainState}
use Rattle.ckd_chain.specs.Steps.{word_of}
use Rattle.ckd_types.specs.declared.paths.Side.{Side}
use Rattle.ckd_types.specs.declared.paths.Side.TheVariants as sides
use Rattle.ckd_types.specs.declared.record.Edit.{Edit}
use Rattle.ckd_types.specs.Commands.{command_of}
use Rattle.ckd_types.specs.declared.record.Track.{Track}
use Rattle.ckd_types.specs.Volume.{track_in}
use Rattle.plain_defs.specs.declared.journal.How.TheVariants.{Cut}
use Rattle.plain_defs.specs.declared.journal.Item.{Item}
use Rattle.plain_defs.specs.declared.journal.Item.TheVariants as items
use Rattle.plain_defs.specs.Entry.{ProgramEntry}
use Rattle.plain_defs.specs.History.{OpenEntry, History, entry_of, resets_of, put, cut_by, reset_in, lost_power_in, has_used}
use Rattle.plain_defs.specs.Journal.{replay, last_sense}
use Rattle.plain_defs.specs.Legal.{is_used, is_started}
use Rattle.plain_defs.specs.PlainState.{PlainState}
use Rattle.device_defs.specs.declared.answers.SecondEnd.{SecondEnd}
use Rattle.device_defs.specs.Command.{has_loss, command}
use Rattle.device_defs.specs.Contents.{by_plain}
use Rattle.device_defs.specs.Cutting as U
use Rattle.device_defs.specs.Cutting.{half_cut, counts_one_by, reset_by, reset, powered_off, power}
use Rattle.device_defs.specs.Device.{event_begun, with_store}
use Rattle.loss_model.specs.declared.Loss.{Loss}
use Rattle.device_defs.specs.Events as E
use Rattle.device_defs.specs.Events.{second_ended, second_of, second, lose, background}
use Rattle.device_defs.specs.Second.{second_part}
use Rattle.device_defs.specs.Excused.{LastCommand, is_write, is_checked, is_equipment_check, has_lost, last_command}
use Rattle.device_defs.specs.Marks.{MarksDevice}
use Rattle.device_defs.specs.Owed.{noted_begin, waiting_count, noted_end}
use Rattle.device_defs.specs.Peek.{peek}
use Rattle.device_defs.specs.Store.{Origin, OfCommand, OfCut, OfBackground, HalfWrite, stale_at, level_at, takes_b, some_up}
use Rattle.device_laws.specs.Unharmed.{ends_with_equipment_check}
use Rattle.device_laws.proofs.Always.{Always, always_done, always_then}
use Rattle.device_laws.proofs.BasedEvents.{command_based, second_based}
use Rattle.device_laws.proofs.Had.{Had, had_done, had_then}
use Rattle.device_laws.proofs.KeptEvents.{Continues, always_any, always_if, command_goes, second_goes, background_goes, lose_goes, peek_goes}
use Rattle.device_laws.proofs.KeptHistories.{AreNot, same_came, extends_itself}
use Rattle.device_laws.proofs.LastCommands.{Tells, Adds, its_effect, command_adds, halfway, second_adds}
use Rattle.device_laws.proofs.Lucky.{top, where_none_failed}
use Rattle.device_laws.proofs.PlainCuts as P
use Rattle.device_laws.proofs.PlainTurns.{Follows, RunsAt, Halfway, IsMid, IsMidOf, none_mid, some_none}
use Rattle.device_laws.proofs.PlainEvents.{had_always}
use Rattle.device_laws.proofs.PlainStores.{Core, core_of as plain_core}
use Rattle.device_laws.proofs.PlainWalks.{hear_same}
use Rattle.device_laws.proofs.TouchedTracks.{command_touched}
use Rattle.device_laws.proofs.TrackMarks.{marks_are_faithful}
use Rattle.device_laws.proofs.UncheckedEvents.{equipment_checks, acts_same}
use Rattle.device_laws.proofs.Unlost.{Fine, core_of}
use Rattle.device_laws.proofs.invariants.NoTrackIsLost as N
use Rattle.device_laws.proofs.WriteLooks.{edited_is_write}
use Rattle.subsystem_defs.specs.Beside.{behind_first, new_items}
use Rattle.subsystem_defs.specs.Promised.{explains, explained_first_by, explained_on_by, first_of}
use Rattle.subsystem_laws.specs.Causes.{checks_of, EachPair}
use Rattle.subsystem_laws.specs.Came.{CameTo}
use Rattle.subsystem_laws.proofs.Came.{at, came_had, came_served}
use Rattle.subsystem_laws.proofs.CheckCauses.{by_failed, decided, second_checks, reset_same, power_same, loss_same, background_same, peek_same, restore_same}
use Rattle.subsystem_laws.proofs.GoodMarks.{runs_home, half_home, within}
use Rattle.subsystem_laws.proofs.PlainRuns.{PlainlyOn}
use Rattle.subsystem_laws.proofs.SteeredRuns.{Steered}
use Rattle.subsystem_laws.proofs.TracksKept.{Fair}
use Rattle.std.proofs.Common.{◌≡◌, ◌∙◌}
use Rattle.std.specs.Prelude.{All}
use Rattle.deck_text.specs.DeckLines.{DeckLines}
use Rattle.loss_model.specs.declared.Loss.TheVariants as losses
use Rattle.device_defs.specs.Orders.{hold_side, resume, replace, lend, join, split}
use Rattle.device_defs.specs.Start.{start, next_ordinal}
use Rattle.subsystem_defs.specs.declared.end.EventEnd.TheVariants as ends
use Rattle.subsystem_defs.specs.Decks.{Firsts, run_on}
use Rattle.subsystem_defs.specs.Deeds.{ends_done, end_of}
use Rattle.subsystem_defs.specs.Lines.{Logged}
use Rattle.subsystem_defs.specs.Subsystem.{Subsystem, devices_of}
use Rattle.subsystem_laws.specs.Served.{IsServedDeck}
use Rattle.subsystem_laws.proofs.CheckCauses.{restore_same}
use Rattle.subsystem_laws.proofs.DeedWalk.{seat_of, IsDeedwise}
use Rattle.subsystem_laws.proofs.Pairing.{KeepsDeed, deeds_of, IsPairwise, run_pairs, ends_made, becomes_so, fair_of, started_number}
use Rattle.subsystem_laws.proofs.Walks.{AreSo}
use Rattle.device_defs.specs.Start as S
use Rattle.subsystem_laws.proofs.NothingChecked.{lend_past}

-- One of four

or_first : (a b c e : Bool) → a ≡ true → (a || b || c || e) ≡ true
or_first true b c e is = refl
or_first false b c e is = absurd (cc)

or_second : (a b c e : Bool) → b ≡ true → (a || b || c || e) ≡ true
or_second true b c e is = refl
or_second false true c e is = refl
or_second false false c e is = absurd (cc)

or_third : (a b c e : Bool) → c ≡ true → (a || b || c || e) ≡ true
or_third true b c e is = refl
or_third false true c e is = refl
or_third false false true e is = refl
or_third false false false e is = absurd (cc)

or_fourth : (a b c e : Bool) → e ≡ true → (a || b || c || e) ≡ true
or_fourth true b c e is = refl
or_fourth false true c e is = refl
or_fourth false false true e is = refl
or_fourth false false false true is = refl
or_fourth false false false false is = absurd (cc)

both_true : (a b : Bool) → a ≡ true → b ≡ true → (a && b) ≡ true
both_true true b e f = f
both_true false b e f = absurd (cc)

-- a side that is up takes writes where B is held only while A is up
takes_by : (a b held : Bool) → (held ≡ true → a ≡ true) → (a || b) ≡ true → (a || (b && not held)) ≡ true
takes_by true b held led up = refl
takes_by false true true led up = absurd (let both : false ≡ true = led refl in cc)
takes_by false true false led up = refl
takes_by false false held led up = absurd (cc)

unless_write : (writes up : Bool) → (writes && not up) ≡ false → writes ≡ true → up ≡ true
unless_write true true e w = refl
unless_write true false e w = absurd (cc)
unless_write false up e w = absurd (cc)

-- none is up where neither is tried
none_up : (a stale b held : Bool) → (held ≡ true → a ≡ true) → (a ≡ true → stale ≡ false) → (a && not stale) ≡ false → (b && not held) ≡ false →
    not (a || b) ≡ true
none_up true true b held led half level takes = absurd (let both : true ≡ false = half refl in cc)
none_up true false b held led half level takes = absurd (cc)
none_up false stale true true led half level takes = absurd (let both : false ≡ true = led refl in cc)
none_up false stale true false led half level takes = absurd (cc)
none_up false stale false held led half level takes = refl

differ : (n m : ℕ) → n < m → not (m - n == 0) ≡ true
differ n m lt = ap not (ne_eqb (m - n) 0 (omega (arith, lt)))

-- What came to a journal

pub record Grows (h k : History) : Type 0 where
  pub more : List Item
  pub grown : k.items ≡ h.items ++ more

behind_all : (xs more : List Item) → behind_first (length xs) (xs ++ more) ≡ more
behind_all [] more = refl
behind_all (x ∷ xs) more = behind_all xs more

pub new_are : (x y : MarksDevice) (g : Grows x.history y.history) → new_items x.history y.history ≡ g.more
new_are x y g = ap (behind_first (length x.history.items)) g.grown ∙ behind_all x.history.items g.more

none_first : (first : ℕ → List Track) (x y : MarksDevice) (xs : List Item) → AreNot ends_with_equipment_check xs → explained_first_by first x y xs ≡ true
none_first first x y [] h = refl
none_first first x y (items.Program e ∷ xs) h =
    ap (λ (b : Bool). not b || explains x y e (last_command x.plans (replay x.plans (first_of first x) x.history.items) e)) h.0
none_first first x y (items.Act act ∷ xs) h = refl
none_first first x y (items.Reset path ∷ xs) h = refl
none_first first x y (items.Fresh ∷ xs) h = refl
none_first first x y (items.Power ∷ xs) h = refl

-- no check came
pub explained_same : (first : ℕ → List Track) (x y : MarksDevice) → Grows x.history y.history → checks_of y ≡ checks_of x → explained_on_by first x y ≡ true
explained_same first x y g same =
    subst (λ (l : List Item). explained_first_by first x y l ≡ true) (sym (new_are x y g))
    (none_first first x y g.more (same_came ends_with_equipment_check x.history.items g.more
    (sym (ap (λ (l : List Item). count_by ends_with_equipment_check l) g.grown) ∙ same)))

-- or it has its cause
abbrev IsCaused : (ℕ → List Track) → MarksDevice → MarksDevice → Type 0
IsCaused first x y = (e : ProgramEntry) (xs : List Item) → y.history.items ≡ x.history.items ++ items.Program e ∷ xs → is_checked e.how ≡ true →
    explains x y e (last_command x.plans (replay x.plans (first_of first x) x.history.items) e) ≡ true

checked_or : (checked equipment cause : Bool) → (checked ≡ true → cause ≡ true) → (not (checked && equipment) || cause) ≡ true
checked_or false equipment cause h = refl
checked_or true false cause h = refl
checked_or true true cause h = h refl

caused_first : (first : ℕ → List Track) (x y : MarksDevice) (xs : List Item) → y.history.items ≡ x.history.items ++ xs → IsCaused first x y → explained_first_by first x y xs ≡ true
caused_first first x y [] grown h = refl
caused_first first x y (items.Program e ∷ xs) grown h = checked_or (is_checked e.how) (is_equipment_check (last_sense e.ends)) _ (h e xs grown)
caused_first first x y (items.Act act ∷ xs) grown h = refl
caused_first first x y (items.Reset path ∷ xs) grown h = refl
caused_first first x y (items.Fresh ∷ xs) grown h = refl
caused_first first x y (items.Power ∷ xs) grown h = refl

pub explained_cause : (first : ℕ → List Track) (x y : MarksDevice) → Grows x.history y.history → IsCaused first x y → explained_on_by first x y ≡ true
explained_cause first x y g h = subst (λ (l : List Item). explained_first_by first x y l ≡ true) (sym (new_are x y g)) (caused_first first x y g.more g.grown h)

-- A command

pub plainly_of : {first : ℕ → List Track} (d : MarksDevice) (p : PlainlyOn first d) → Follows p.number (first_of first d) d
plainly_of d p = subst (λ (e : PlainState). Follows p.number e d) p.base p.follows

module _ {first : ℕ → List Track} (d : MarksDevice) (f : Fair d) (p : PlainlyOn first d) (s : Steered d) (lt : d.store.counts.failed < top) where
  abbrev last_of : ProgramEntry → LastCommand
  last_of e = last_command d.plans (replay d.plans (first_of first d) d.history.items) e

  module _ (y : MarksDevice) (e : ProgramEntry) where
    lost_explains : has_lost y.store.lost (last_of e).touched ≡ true → explains d y e (last_of e) ≡ true
    lost_explains =
        or_first (has_lost y.store.lost (last_of e).touched) (not (y.store.counts.failed - d.store.counts.failed == 0))
        ((last_of e).writes && not (some_up d.store)) (has_loss e.acts)

    failed_explains : not (y.store.counts.failed - d.store.counts.failed == 0) ≡ true → explains d y e (last_of e) ≡ true
    failed_explains =
        or_second (has_lost y.store.lost (last_of e).touched) (not (y.store.counts.failed - d.store.counts.failed == 0))
        ((last_of e).writes && not (some_up d.store)) (has_loss e.acts)

    write_explains : ((last_of e).writes && not (some_up d.store)) ≡ true → explains d y e (last_of e) ≡ true
    write_explains =
        or_third (has_lost y.store.lost (last_of e).touched) (not (y.store.counts.failed - d.store.counts.failed == 0))
        ((last_of e).writes && not (some_up d.store)) (has_loss e.acts)

    data_explains : has_loss e.acts ≡ true → explains d y e (last_of e) ≡ true
    data_explains =
        or_fourth (has_lost y.store.lost (last_of e).touched) (not (y.store.counts.failed - d.store.counts.failed == 0))
        ((last_of e).writes && not (some_up d.store)) (has_loss e.acts)

  rose_explains : (y : MarksDevice) → Grows d.history y.history → d.store.counts.failed < y.store.counts.failed → explained_on_by first d y ≡ true
  rose_explains y g rose =
      explained_cause first d y g (λ e xs grown how. failed_explains y e (differ d.store.counts.failed y.store.counts.failed rose))

  not_full : {X : Type 0} → d.store.counts.failed ≡ top → X
  not_full full = absurd (omega (arith, full, lt))

  module _ (o : OpenEntry) (running : d.history.running ≡ Some o) (whole : d.store.half ≡ None) (chain : ChainState)
      (is : (plainly_of d p).before ≡ Some chain) where
    abbrev fol : Follows p.number (first_of first d) d
    fol = plainly_of d p

    now : d.chain ≡ Some chain
    now = none_mid (plain_core d.store) d.store.half d.history.running (plainly_of d p).before d.chain whole (plainly_of d p).mid ∙ is

    abbrev writes : Bool
    writes = is_write (command_of (word_of chain).command)

    adds : (t : CameTo (command by_plain d)) → Adds p.number (first_of first d) d (plainly_of d p) o running chain is t.state.history
    adds t = came_had (command_adds p.number (first_of first d) d (plainly_of d p) o running chain is now whole) t

    -- each of the causes
    told_cause : (y : MarksDevice) → Grows d.history y.history → Adds p.number (first_of first d) d (plainly_of d p) o running chain is y.history →
        ((e : ProgramEntry) → Tells p.number (first_of first d) d (plainly_of d p) o running chain is e →
        explains d y e (last_command d.plans (replay d.plans (first_of first d) d.history.items) e) ≡ true) → explained_on_by first d y ≡ true
    told_cause y g a h = explained_cause first d y g (λ e xs grown how. h e (a e xs grown how))

    pub command_explained : (t : CameTo (command by_plain d)) → Grows d.history t.state.history →
        explained_on_by first d t.state ≡ true
    command_explained t g =
        let y = t.state in
        let touched = (its_effect p.number (first_of first d) d (plainly_of d p) o running chain is).touched in
        by_failed d f (command by_plain d) (command_based by_plain d) t not_full (rose_explains y g)
        (λ less same.
        decided (has_loss o.acts)
        (λ gone. told_cause y g (adds t) (λ e tells. data_explains y e (tells.losses gone)))
        (λ stays. decided (has_lost d.store.lost touched)
        (λ lost. told_cause y g (adds t) (λ e tells. lost_explains y e (lost_behind y same t refl e tells lost)))
        (λ kept. decided (writes && not (some_up d.store))
        (λ none. told_cause y g (adds t) (λ e tells. write_explains y e
        (ap (λ (b : Bool). b && not (some_up d.store)) tells.writes ∙ none)))
        (λ some. explained_same first d y g
        (came_served (λ e _. equipment_checks e.history ≡ equipment_checks d.history) (command_based by_plain d) lt
        (command_touched p.number (first_of first d) d (plainly_of d p) o running chain is now whole (f.good.well (runs_home d f.good o running))
        (within d f.good chain now) kept
        (λ w. takes_by d.store.a.up d.store.b.up d.store.held (λ e. (s.led e).0) (unless_write writes (some_up d.store) some w)) stays) t same)))))
      where
        lost_behind : (y : MarksDevice) → y.store.counts.failed ≡ d.store.counts.failed → (t : CameTo (command by_plain d)) → t.state ≡ y →
            (e : ProgramEntry) → Tells p.number (first_of first d) d (plainly_of d p) o running chain is e →
            has_lost d.store.lost (its_effect p.number (first_of first d) d (plainly_of d p) o running chain is).touched ≡ true →
            has_lost y.store.lost (last_command d.plans (replay d.plans (first_of first d) d.history.items) e).touched ≡ true
        lost_behind y same t at_y e tells lost =
            let fine = at (where_none_failed (λ z _. Fine (core_of d.store) (core_of z.store)) (command_based by_plain d) lt
            (N.command_goes by_plain marks_are_faithful d (f.good.well (runs_home d f.good o running)))) t
            (ap (λ (z : MarksDevice). z.store.counts.failed) at_y ∙ same) in
            ap (λ (l : List ℕ). has_lost y.store.lost l) tells.touched
            ∙ ap (λ (l : List Bool). has_lost l (its_effect p.number (first_of first d) d (plainly_of d p) o running chain is).touched)
            (ap (λ (z : MarksDevice). z.store.lost) (sym at_y) ∙ fine.lost) ∙ lost

  by_before : (o : OpenEntry) → d.history.running ≡ Some o → d.store.half ≡ None → (k : Option ChainState) → (plainly_of d p).before ≡ k →
      (t : CameTo (command by_plain d)) → Grows d.history t.state.history → explained_on_by first d t.state ≡ true
  by_before o running whole None is t g =
      absurd (subst (λ (k : Option ChainState). RunsAt d.plans (replay d.plans (first_of first d) d.history.items) (Some o) k) is
      (subst (λ (r : Option OpenEntry). RunsAt d.plans (replay d.plans (first_of first d) d.history.items) r (plainly_of d p).before) running
      (plainly_of d p).runs))
  by_before o running whole (Some chain) is t g = command_explained o running whole chain is t g

  pub commands_explained : (o : OpenEntry) → d.history.running ≡ Some o → d.store.half ≡ None → (t : CameTo (command by_plain d)) →
      Grows d.history t.state.history → explained_on_by first d t.state ≡ true
  commands_explained o running whole t g = by_before o running whole (plainly_of d p).before refl t g

  -- The other part of a write

  module _ (h : HalfWrite (Unit {0})) (there : d.store.half ≡ Some h) where
    untried_up : takes_b d.store ≡ false → level_at d.store.a h.track ≡ false → not (some_up d.store) ≡ true
    untried_up takes level =
        none_up d.store.a.up (stale_at d.store.a h.track) d.store.b.up d.store.held (λ e. (s.led e).0)
        (λ up. s.half h.track (ap (option_map (λ (k : HalfWrite (Unit {0})). k.track)) there) up) level takes

    of_command : (bypass : Bool) (edit : Edit) → h.origin ≡ OfCommand bypass edit → (o : OpenEntry) → d.history.running ≡ Some o →
        not (some_up d.store) ≡ true → (t : CameTo (second by_plain d)) → Grows d.history t.state.history →
        explained_on_by first d t.state ≡ true
    of_command bypass edit origin o running none t g =
        let fol = plainly_of d p in
        let mid = halfway p.number (first_of first d) d fol h there bypass edit origin o running in
        let y = t.state in
        let write = edited_is_write mid.origin.fixed d.paths (track_in d.store.plain) o.path mid.origin.at.stance (word_of mid.origin)
        (record { track = h.track; edit = edit }) (P.its_edit p.number (first_of first d) d fol o running h.track edit mid) in
        explained_cause first d y g (λ e xs grown how.
        let tells = came_had (second_adds p.number (first_of first d) d fol h there bypass edit origin o running) t e xs grown how in
        let last = last_command d.plans (replay d.plans (first_of first d) d.history.items) e in
        or_third (has_lost y.store.lost last.touched) (not (y.store.counts.failed - d.store.counts.failed == 0)) (last.writes && not (some_up d.store))
        (has_loss e.acts) (both_true last.writes (not (some_up d.store)) (tells.writes ∙ write) none))

    its_half : (bypass : Bool) (edit : Edit) → h.origin ≡ OfCommand bypass edit →
        Halfway (plain_core d.store) h.track edit d.history.running (plainly_of d p).before d.chain
    its_half bypass edit origin =
        subst (λ (x : Origin). IsMidOf (plain_core d.store) h.track x d.history.running (plainly_of d p).before d.chain) origin
        (subst (λ (x : Option (HalfWrite (Unit {0}))). IsMid (plain_core d.store) x d.history.running (plainly_of d p).before d.chain) there
        (plainly_of d p).mid)

    by_running : (bypass : Bool) (edit : Edit) → h.origin ≡ OfCommand bypass edit → (r : Option OpenEntry) → d.history.running ≡ r →
        not (some_up d.store) ≡ true → (t : CameTo (second by_plain d)) → Grows d.history t.state.history →
        explained_on_by first d t.state ≡ true
    by_running bypass edit origin (Some o) running none t g = of_command bypass edit origin o running none t g
    by_running bypass edit origin None idle none t g = absurd (some_none d.history.running (its_half bypass edit origin).runs idle)

    -- no command ends
    other_ends : (y : MarksDevice) (done : Bool) (origin : Origin) → ((bypass : Bool) (edit : Edit) → origin ≡ OfCommand bypass edit → ⊥) →
        equipment_checks y.history ≡ equipment_checks d.history →
        Had (second_ended by_plain y h.track origin done) (λ x (_ : SecondEnd). equipment_checks x.history ≡ equipment_checks d.history)
    other_ends y done (OfCommand bypass edit) other e = absurd (other bypass edit refl)
    other_ends y done (OfCut bypass) other e = had_done e
    other_ends y done OfBackground other e = had_done e

    other_same : ((bypass : Bool) (edit : Edit) → h.origin ≡ OfCommand bypass edit → ⊥) →
        Had (second by_plain d) (λ y (_ : SecondEnd). equipment_checks y.history ≡ equipment_checks d.history)
    unfolding E.second
    other_same other =
        had_then
        (had_then (hear_same 960 (noted_begin d.store))
        (λ z _ e. subst (λ (x : Option (HalfWrite (Unit {0}))). Had (second_of by_plain (record (event_begun d) { store = z }) x)
        (λ y (_ : SecondEnd). equipment_checks y.history ≡ equipment_checks d.history))
        (sym (ap (λ (c : Core). c.half) e ∙ there))
        (had_then (had_always (always_any (second_part by_plain z h)))
        (λ y done _. other_ends (with_store (record (event_begun d) { store = z }) y) done h.origin other (acts_same d.history y.acts)))))
        (λ y a g. had_then (had_always (always_any (noted_end by_plain (waiting_count by_plain d.store) y.store))) (λ z _ _. had_done g))

    by_origin : (origin : Origin) → h.origin ≡ origin → not (some_up d.store) ≡ true → (t : CameTo (second by_plain d)) →
        Grows d.history t.state.history → explained_on_by first d t.state ≡ true
    by_origin (OfCommand bypass edit) is none t g = by_running bypass edit is d.history.running refl none t g
    by_origin (OfCut bypass) is none t g =
        explained_same first d t.state g
        (came_had (other_same (λ b e at. absurd (let both : OfCut bypass ≡ OfCommand b e = sym is ∙ at in cc))) t)
    by_origin OfBackground is none t g =
        explained_same first d t.state g
        (came_had (other_same (λ b e at. absurd (let both : OfBackground ≡ OfCommand b e = sym is ∙ at in cc))) t)

    pub second_explained : (t : CameTo (second by_plain d)) → Grows d.history t.state.history →
        explained_on_by first d t.state ≡ true
    second_explained t g =
        let y = t.state in
        by_failed d f (second by_plain d) (second_based by_plain d) t not_full (rose_explains y g)
        (λ less same.
        decided (takes_b d.store) (λ takes. by_tried same (inl takes))
        (λ none. decided (level_at d.store.a h.track) (λ level. by_tried same (inr level))
        (λ off. by_origin h.origin refl (untried_up none off) t g)))
      where
        by_tried : t.state.store.counts.failed ≡ d.store.counts.failed →
            ((takes_b d.store ≡ true) ⊎ (level_at d.store.a h.track ≡ true)) → explained_on_by first d t.state ≡ true
        by_tried same tried =
            explained_same first d t.state g
            (at (where_none_failed (λ e _. equipment_checks e.history ≡ equipment_checks d.history) (second_based by_plain d) lt
            (second_checks (equipment_checks d.history) d (f.good.well (half_home d f.good h there)) h there tried refl)) t same)

-- Other events

grows_if : (h : History) (b : Bool) (x y : History) → Grows h x → Grows h y → Grows h (if b then x else y)
grows_if h true x y f g = f
grows_if h false x y f g = g

grows_none : (h k : History) → k.items ≡ h.items → Grows h k
grows_none h k e = record { more = []; grown = e ∙ sym (append-nil h.items) }

reset_grows : (h : History) (path more : ℕ) (r : Option OpenEntry) → Grows h (reset_in h path more r)
reset_grows h path more (Some o) =
    grows_if h (o.path == path) (cut_by h o more) _
    (record { more = entry_of o (Cut (length o.ends + more)) ∷ items.Reset o.path ∷ resets_of h.waiting; grown = refl })
    (grows_if h (is_used path false h.items) (record h { waiting = put path h.waiting }) h (grows_none h (record h { waiting = put path h.waiting }) refl)
    (grows_none h h refl))
reset_grows h path more None =
    grows_if h (is_used path false h.items) (record h { items = h.items ++ items.Reset path ∷ [] }) h
    (record { more = items.Reset path ∷ []; grown = refl }) (grows_none h h refl)

power_grows : (h : History) (more : ℕ) (r : Option OpenEntry) → Grows h (lost_power_in h more r)
power_grows h more (Some o) = record { more = entry_of o (Cut (length o.ends + more)) ∷ items.Power ∷ []; grown = refl }
power_grows h more None =
    grows_if h (is_started false h.items) (record { items = h.items ++ items.Power ∷ []; running = None; waiting = [] }) h
    (record { more = items.Power ∷ []; grown = refl }) (grows_none h h refl)

module _ (d : MarksDevice) where
  reset_grows_by : (path : ℕ) (r : Option OpenEntry) → Always (reset_by by_plain d path r) (λ y _. Grows d.history y.history)
  reset_grows_by path (Some o) =
      always_if (o.path == path)
      (always_then (always_any (half_cut by_plain d.store d.store.half))
      (λ z _ _. always_done (reset_grows d.history path (counts_one_by d.store.half) d.history.running)))
      (always_done (reset_grows d.history path 0 d.history.running))
  reset_grows_by path None =
      always_if (has_used d.history path) (always_done (reset_grows d.history path 0 d.history.running)) (always_done (grows_none d.history d.history refl))

  pub reset_explained : (first : ℕ → List Track) (path : ℕ) (t : CameTo (reset by_plain d path)) → explained_on_by first d t.state ≡ true
  unfolding U.reset
  reset_explained first path t =
      explained_same first d t.state (at (reset_grows_by path d.history.running) t) (reset_same d path t)

  power_growing : Always (power by_plain d) (λ y _. Grows d.history y.history)
  unfolding U.power
  power_growing =
      always_then
      (always_then (always_any (half_cut by_plain (event_begun d).store (event_begun d).store.half))
      (λ z _ _. always_done (power_grows d.history (counts_one_by d.store.half) d.history.running)))
      (λ y a g. always_then (always_any (noted_end by_plain (waiting_count by_plain d.store) y.store)) (λ z _ _. always_done g))

  pub power_explained : (first : ℕ → List Track) (t : CameTo (power by_plain d)) → explained_on_by first d t.state ≡ true
  power_explained first t = explained_same first d t.state (at power_growing t) (power_same d t)

  grows_of : (y : MarksDevice) → Continues d.plans d.history y → Grows d.history y.history
  grows_of y k = record { more = k.history.more; grown = k.history.grown }

  pub its_own : Continues d.plans d.history d
  its_own = record { plans = refl; history = extends_itself d.history }

  pub lose_explained : (first : ℕ → List Track) (loss : Loss) (t : CameTo (lose by_plain d loss)) → explained_on_by first d t.state ≡ true
  lose_explained first loss t =
      let y = t.state in
      explained_same first d y (grows_of y (at (lose_goes by_plain d.plans d.history d loss its_own) t)) (loss_same d loss t)

  pub background_explained : (first : ℕ → List Track) (t : CameTo (background by_plain d)) → explained_on_by first d t.state ≡ true
  background_explained first t =
      let y = t.state in
      explained_same first d y (grows_of y (at (background_goes by_plain d.plans d.history d its_own) t)) (background_same d t)

  pub peek_explained : (first : ℕ → List Track) (n : ℕ) (t : CameTo (peek by_plain d n)) → explained_on_by first d t.state ≡ true
  peek_explained first n t =
      let y = t.state in
      explained_same first d y (grows_of y (at (peek_goes by_plain d.plans d.history d n its_own) t)) (peek_same d n t)

  pub command_grows : (t : CameTo (command by_plain d)) → Grows d.history t.state.history
  command_grows t = grows_of _ (at (command_goes by_plain d.plans d.history d its_own) t)

  pub second_grows : (t : CameTo (second by_plain d)) → Grows d.history t.state.history
  second_grows t = grows_of _ (at (second_goes by_plain d.plans d.history d its_own) t)

-- The run

-- what orders leave
abbrev pub AddsNone : MarksDevice → MarksDevice → Type 0
AddsNone x y = Grows x.history y.history × (checks_of y ≡ checks_of x)

-- of a device with a plain history, whose failed calls are counted
abbrev pub ExplainsOn : (ℕ → List Track) → MarksDevice → MarksDevice → Type 0
ExplainsOn first x y = PlainlyOn first x → Steered x → x.store.counts.failed < top → explained_on_by first x y ≡ true

abbrev pub ExplainsFrom : Firsts → MarksDevice → MarksDevice → Type 0
ExplainsFrom firsts x y = ExplainsOn (firsts x.store.device) x y

grows_on : (x y z : History) → Grows x y → Grows y z → Grows x z
grows_on x y z f g = record {
  more = f.more ++ g.more;
  grown = g.grown ∙ ap (λ (xs : List Item). xs ++ g.more) f.grown ∙ append_assoc x.items f.more g.more;
}

pub same_grows : (x y : MarksDevice) → y.history ≡ x.history → AddsNone x y
same_grows x y e = (grows_none x.history y.history (ap (λ (h : History). h.items) e), ap (λ (h : History). equipment_checks h) e)

pub start_adds : (d : MarksDevice) (path : ℕ) → AddsNone d (start d path)
unfolding S.start
start_adds d path = (grows_none d.history (start d path).history refl, refl)

replace_adds : (d : MarksDevice) (side : Side) → AddsNone d (replace d side)
replace_adds d sides.A = same_grows d (replace d sides.A) refl
replace_adds d sides.B = same_grows d (replace d sides.B) refl

pub lend_adds : (d : MarksDevice) (to : ℕ) (t : CameTo (lend by_plain d to)) → AddsNone d t.state
lend_adds d to t = same_grows d t.state (at (lend_past d to) t)

deeds_explain : (firsts : Firsts) (s : Subsystem) → AreSo Fair s.mounted → IsDeedwise s (KeepsDeed AddsNone (ExplainsFrom firsts) s)
deeds_explain firsts s q = record {
  ended = λ end. tt;
  started = λ d x path fault.
      becomes_so AddsNone (ExplainsFrom firsts) s d x (start d path) (started_number d path) (start_adds d path) (ends.Started (next_ordinal d path));
  seconded = λ d x h is. (
    seat_of s d x,
    ends_made AddsNone (ExplainsFrom firsts) d (second by_plain d) (λ a. Some (ends.Second a))
        (λ t p k lt. second_explained d (fair_of s q d x) p k lt h is t (second_grows d t)),
  );
  commanded = λ d x whole o running. (
    seat_of s d x,
    ends_made AddsNone (ExplainsFrom firsts) d (command by_plain d) (end_of ends.Stepped)
        (λ t p k lt. commands_explained d (fair_of s q d x) p k lt o running whole t (command_grows d t)),
  );
  worked = λ d x whole. (seat_of s d x, ends_made AddsNone (ExplainsFrom firsts) d (background by_plain d) (end_of ends.Back) (λ t p k lt. background_explained d (firsts d.store.device) t));
  cut = λ d x path. (seat_of s d x, ends_made AddsNone (ExplainsFrom firsts) d (reset by_plain d path) (λ a. Some (ends_done a)) (λ t p k lt. reset_explained d (firsts d.store.device) path t));
  lost_cache = λ d t. λ p k lt. lose_explained d (firsts d.store.device) losses.Cache t;
  lost_store = λ d t. λ p k lt. lose_explained d (firsts d.store.device) losses.Store t;
  lost_side = λ d x side fault. (
    seat_of s d x,
    ends_made AddsNone (ExplainsFrom firsts) d (lose by_plain d (losses.Side side)) (λ a. Some (ends_done a)) (λ t p k lt. lose_explained d (firsts d.store.device) (losses.Side side) t),
  );
  lost_power = λ d t. λ p k lt. power_explained d (firsts d.store.device) t;
  repaired_cache = tt;
  repaired_store = tt;
  lent = λ x y z w fault. (seat_of s y w, lend_adds y x.store.device);
  held = λ d x fault. becomes_so AddsNone (ExplainsFrom firsts) s d x (hold_side d) refl (same_grows d (hold_side d) refl) ends.Done;
  resumed = λ d x fault. becomes_so AddsNone (ExplainsFrom firsts) s d x (resume d) refl (same_grows d (resume d) refl) ends.Done;
}

pub explained_pairwise : (firsts : Firsts) → IsPairwise AddsNone (λ lossy alone. ExplainsFrom firsts)
explained_pairwise firsts = record {
  own = λ d. same_grows d d refl;
  on = λ x y z f g. (grows_on x.history y.history z.history f.0 g.0, g.1 ∙ f.1);
  made = λ lossy alone x y f. λ p k lt. explained_same (firsts x.store.device) x y f.0 f.1;
  joins = λ d. same_grows d (join d) refl;
  splits = λ d fault. same_grows d (split d) refl;
  replaces = λ d side fault. replace_adds d side;
  restores = λ d a is. (record { more = items.Fresh ∷ []; grown = refl }, restore_same d);
  deeds = λ s q. deeds_of AddsNone (ExplainsFrom firsts) s (deeds_explain firsts s q);
}

-- each device before an event with a plain history, steered sides, and counted calls has its checks explained behind it
pub run_explains : (firsts : Firsts) (deck : DeckLines) → IsServedDeck deck →
    All (λ (x : Logged). EachPair (ExplainsFrom firsts) (devices_of x.happened.before) (devices_of x.happened.behind)) (run_on firsts deck).events
run_explains firsts deck = run_pairs AddsNone (λ lossy alone. ExplainsFrom firsts) (explained_pairwise firsts) firsts deck
