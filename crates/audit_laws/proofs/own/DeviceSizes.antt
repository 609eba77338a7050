-- In the run of a deck that was read each device keeps its number, its cylinders and its plans, is lent to a device, and has at most 64 tracks to stage.
use Rattle.std.proofs.Common.{◌≡◌, ◌≤◌, ◌<◌, ℕ, Bool, List, [], ◌∷◌, length, map, Ok, refl, ◌∙◌, arith}
use Rattle.std.specs.Prelude.{All, IfSome}
use Rattle.std.proofs.lemmas.List.Elements.{All-head, All-tail}
use Rattle.ckd_types.specs.declared.paths.Side.{Side}
use Rattle.deck_text.specs.declared.line.DeviceLine.{DeviceLine}
use Rattle.deck_text.specs.DeckLines.{DeckLines}
use Rattle.deck_text.specs.Parse.{parsed}
use Rattle.deck_text.proofs.DeckAgain.{Each, ProgramOk}
use Rattle.deck_text.proofs.PlanLemmas.{plan_bound}
use Rattle.deck_text.proofs.Reached.{parsed_good}
use Rattle.plain_defs.specs.Journal.{planned, program_of}
use Rattle.loss_model.specs.declared.Loss.TheVariants as losses
use Rattle.track_image.specs.Image.{Image}
use Rattle.device_outside.specs.Interaction.{Interaction}
use Rattle.device_defs.specs.Command.{command}
use Rattle.device_defs.specs.Contents.{by_plain}
use Rattle.device_defs.specs.Cutting.{power, reset}
use Rattle.device_defs.specs.Events.{background, lose, second}
use Rattle.device_defs.specs.Marks.{MarksDevice}
use Rattle.device_defs.specs.Orders.{hold_side, join, replace, resume, split}
use Rattle.device_defs.specs.Start as S
use Rattle.device_defs.specs.Start.{start}
use Rattle.device_laws.proofs.Based.{Any, Base, Based, based_any, kept}
use Rattle.device_laws.proofs.BasedEvents.{background_based, base_in, command_based, lose_based, power_based, reset_body, second_based, with_one_loss}
use Rattle.device_laws.proofs.KeptEvents.{background_goes, command_goes, lose_goes, second_goes}
use Rattle.subsystem_defs.specs.Decks as D
use Rattle.subsystem_defs.specs.Decks.{opened, opened_device, run_of}
use Rattle.subsystem_defs.specs.Lines.{Logged, asked_by}
use Rattle.subsystem_defs.specs.Subsystem.{devices_of}
use Rattle.subsystem_laws.specs.Waits.{AreNumbered}
use Rattle.subsystem_laws.specs.Came.{CameTo}
use Rattle.subsystem_laws.proofs.Came.{at, came_had}
use Rattle.subsystem_laws.proofs.Explained.{its_own}
use Rattle.subsystem_laws.proofs.LendBase.{lend_lends, stays_still}
use Rattle.subsystem_laws.proofs.ReadDecks.{read_numbered, read_small}
use Rattle.subsystem_laws.proofs.RunLines.{AnyEvent, all_asked}
use Rattle.subsystem_laws.proofs.Shapes.{power_shape, reset_shape}
use Rattle.subsystem_laws.proofs.StoreFacts.{Bears, Facts, facts_of, fallen, background_leaves, command_leaves, lend_leaves, lose_leaves, power_leaves, reset_leaves, second_leaves}
use Rattle.device_laws.proofs.Always.{Always}
use Rattle.subsystem_laws.proofs.Walks.{AreSo, IsKept, lines_end_so, run_keeps}
use Rattle.audit_laws.proofs.own.LentDevices.{lend_makes}
use Rattle.audit_laws.proofs.own.PlannedWords.{GoodWords, planned_words}
use Rattle.deck_text.proofs.DeckAgain.{Each, ProgramOk}

pub record Sized (d : MarksDevice) : Type 0 where
  pub device : d.store.device < 16
  pub cylinders : d.store.cylinders ≤ 64
  pub lent : IfSome d.store.lent (λ n. n < 16)
  pub plans : (path : ℕ) → length (planned d.plans path) ≤ 512
  pub words : (path ordinal : ℕ) → GoodWords (program_of d.plans path ordinal)
  pub short : length d.store.queue ≤ 64

sized_as : (d y : MarksDevice) → y.store.device ≡ d.store.device → y.store.cylinders ≡ d.store.cylinders → y.store.lent ≡ d.store.lent →
    y.plans ≡ d.plans → length y.store.queue ≤ 64 → Sized d → Sized y
sized_as d y number cylinders lent plans short s = search arith

-- the tracks to stage
abbrev Few : Facts → Type 0
Few x = x.queued ≤ 64

few_fallen : (x : Facts) (side : Side) → Few x → Few (fallen side x)
few_fallen x side few = grind arith

few_bears : Bears Few
few_bears = grind arith

module _ (d : MarksDevice) (s : Sized d) where
  stays : {X : Type 0} (talk : Interaction Bool Image MarksDevice X) (b : Base) → b.device ≡ d.store.device →
      b.cylinders ≡ d.store.cylinders → b.lent ≡ d.store.lent → Based base_in Any b talk →
      ((t : CameTo talk) → t.state.plans ≡ d.plans) → Always talk (λ y (_ : X). Few (facts_of y.store)) → (t : CameTo talk) → Sized t.state
  stays talk b number cylinders lent x plans short t =
      let k = at (stays_still x) t in sized_as d t.state (k.0 ∙ number) (k.1 ∙ cylinders) (k.2 ∙ lent) (plans t) (at short t) s

  start_sized : (path : ℕ) → Sized (start d path)
  unfolding S.start
  start_sized path = sized_as d (start d path) refl refl refl refl s.short s

  replace_sized : (side : Side) → Sized (replace d side)
  replace_sized side = grind (arith, sized_as)

pub sized_kept : IsKept Sized AnyEvent
sized_kept = record {
  started = λ d path n may fault s. start_sized d s path;
  commanded = λ d o running whole s. stays d s (command by_plain d) (kept d.store) refl refl refl (command_based by_plain d)
      (λ t. (at (command_goes by_plain d.plans d.history d (its_own d)) t).plans) (command_leaves by_plain Few few_bears d s.short);
  seconded = λ d h is s. stays d s (second by_plain d) (kept d.store) refl refl refl (second_based by_plain d)
      (λ t. (at (second_goes by_plain d.plans d.history d (its_own d)) t).plans) (second_leaves by_plain Few few_bears d s.short);
  worked = λ d whole s. stays d s (background by_plain d) (kept d.store) refl refl refl (background_based by_plain d)
      (λ t. (at (background_goes by_plain d.plans d.history d (its_own d)) t).plans) (background_leaves by_plain Few few_bears d s.short);
  cut = λ d path s. stays d s (reset by_plain d path) (kept d.store) refl refl refl (based_any (reset_body by_plain d path))
      (λ t. (reset_shape d path t).1) (reset_leaves by_plain Few few_bears d path s.short);
  lost_cache = λ d s. stays d s (lose by_plain d losses.Cache) (with_one_loss losses.Cache (kept d.store)) refl refl refl
      (lose_based by_plain d losses.Cache) (λ t. (at (lose_goes by_plain d.plans d.history d losses.Cache (its_own d)) t).plans)
      (lose_leaves by_plain Few few_bears d losses.Cache s.short (λ x few. few));
  lost_store = λ d s. stays d s (lose by_plain d losses.Store) (with_one_loss losses.Store (kept d.store)) refl refl refl
      (lose_based by_plain d losses.Store) (λ t. (at (lose_goes by_plain d.plans d.history d losses.Store (its_own d)) t).plans)
      (lose_leaves by_plain Few few_bears d losses.Store s.short (λ x few. few));
  lost_side = λ d side fault s. stays d s (lose by_plain d (losses.Side side)) (with_one_loss (losses.Side side) (kept d.store)) refl refl refl
      (lose_based by_plain d (losses.Side side)) (λ t. (at (lose_goes by_plain d.plans d.history d (losses.Side side) (its_own d)) t).plans)
      (lose_leaves by_plain Few few_bears d (losses.Side side) s.short (λ x few. few_fallen x side few));
  lost_power = λ d s. stays d s (power by_plain d) (with_one_loss losses.Cache (kept d.store)) refl refl refl (power_based by_plain d)
      (λ t. (power_shape d t).1) (power_leaves by_plain Few few_bears d s.short);
  held = λ d fault s. sized_as d (hold_side d) refl refl refl refl s.short s;
  resumed = λ d fault s. sized_as d (resume d) refl refl refl refl s.short s;
  replaced = λ d side fault s. replace_sized d s side;
  lent = λ x y fault r s t.
      let l = lend_lends y x.store.device t in
      let plans = (came_had (lend_makes y x.store.device) t).plans in
      record {
        device = rw l.number s.device;
        cylinders = rw l.cylinders s.cylinders;
        lent = rw l.lent r.device;
        plans = λ path. rw plans (s.plans path);
        words = λ path ordinal. rw plans (s.words path ordinal);
        short = at (lend_leaves by_plain Few few_bears y x.store.device (omega arith)) t;
      };
  joins = λ d free s. sized_as d (join d) refl refl refl refl s.short s;
  splits = λ d fault s. sized_as d (split d) refl refl refl refl s.short s;
  restored = λ d a is s. record { device = s.device; cylinders = s.cylinders; lent = tt; plans = s.plans; words = s.words; short = s.short };
}

abbrev Small : DeviceLine → Type 0
Small d = d.cylinders ≤ 64

most_plans : (n k : ℕ) → n ≤ k → k ≤ 512 → n ≤ 512
most_plans n k le few = omega (arith, le, few)

opened_sized : (deck : DeckLines) → length deck.programs ≤ 512 → Each (ProgramOk deck.devices) deck.programs → (seen : List ℕ) (ds : List DeviceLine) → AreNumbered seen ds → All Small ds → AreSo Sized (map (opened_device deck) ds)
opened_sized deck few ok seen [] n s = tt
opened_sized deck few ok seen (d ∷ ds) n s =
    let plans = λ (path : ℕ). most_plans _ (length deck.programs) (plan_bound deck.programs d.number path) few in
    let words = planned_words deck.devices deck.programs d.number ok in
    let first : Sized (opened_device deck d).device = record { device = n.1; cylinders = All-head Small d ds s; lent = tt; plans = plans; words = words; short = omega arith } in
    (first, opened_sized deck few ok (d.number ∷ seen) ds n.2 (All-tail Small d ds s))

module _ (text : List ℕ) (deck : DeckLines) (read : parsed text ≡ Ok deck) where
  pub first_sized : AreSo Sized (opened deck).mounted
  first_sized = opened_sized deck (parsed_good text deck read).program_count (parsed_good text deck read).programs [] deck.devices (read_numbered text deck read) (read_small text deck read)

  pub run_sized : All (λ (x : Logged). All Sized (devices_of x.happened.behind)) (run_of deck).events
  unfolding D.run_asked_on
  run_sized = run_keeps Sized sized_kept (map asked_by deck.events) (opened deck) first_sized

  pub sized_behind : AreSo Sized (run_of deck).behind.mounted
  unfolding D.run_asked_on
  sized_behind = search (arith, lines_end_so, sized_kept, all_asked, first_sized)
