-- Each event of a device whose past was put away goes along with that event of the device with all of its past.
use Rattle.std.proofs.Common.{◌≡◌, ℕ, ◌==◌, ◌≤◌, Bool, true, false, List, [], ◌∷◌, Option, Some, None, refl, sym, ap, subst, ◌∙◌}
use Rattle.std.specs.Prelude.{if◌then◌else◌, option_map}
use Rattle.ckd_types.specs.declared.channel.CommandEnd.{CommandEnd}
use Rattle.ckd_chain.specs.declared.progress.Progress.{Progress}
use Rattle.ckd_chain.specs.declared.progress.Progress.TheVariants as progresses
use Rattle.ckd_chain.specs.declared.progress.Settled.TheVariants.{Equipment}
use Rattle.ckd_chain.specs.State.{ChainState}
use Rattle.ckd_chain.specs.Steps.{need_of, stepped}
use Rattle.loss_model.specs.declared.Loss.{Loss}
use Rattle.plain_defs.specs.declared.journal.Act.{Act}
use Rattle.plain_defs.specs.History.{History, OpenEntry, acted, ended, has_used, reset_in_history}
use Rattle.plain_defs.specs.Journal.{Plans}
use Rattle.plain_defs.specs.PlainState.{reset_path}
use Rattle.track_image.specs.Image.{Image}
use Rattle.device_outside.specs.Interaction.{Interaction, Done, and_then}
use Rattle.device_outside.specs.Keeper.{Hearing}
use Rattle.device_defs.specs.declared.answers.Came.{Came}
use Rattle.device_defs.specs.declared.answers.Came.TheVariants.{Ends, Checks, HalfOpen}
use Rattle.device_defs.specs.declared.answers.SecondEnd.TheVariants.{Finished, Unwritten}
use Rattle.device_defs.specs.declared.answers.Stepped.{Stepped}
use Rattle.device_defs.specs.Background.{work}
use Rattle.device_defs.specs.Command.{answered_by, came_out, command, command_at, command_by, follow, has_loss, on_tracks}
use Rattle.device_defs.specs.Contents.{Contents}
use Rattle.device_defs.specs.Cutting.{counts_one_by, half_cut, path_cut, power, powered_off, reset, reset_by, reset_noted}
use Rattle.device_defs.specs.Device.{Device, all_acted, all_reset, event, event_begun, event_ended, quiet_event, with_store}
use Rattle.device_defs.specs.Events.{background, command_ended, lose, losing, second, second_ended, second_of, second_told, second_turn}
use Rattle.device_defs.specs.Orders.{given_up, lend, lent_to, with_tracks}
use Rattle.device_defs.specs.Outcomes.{Turn, again, checks, ends_with, program_over, sense_kept, settles, turned, told_step}
use Rattle.device_defs.specs.Owed.{hear, noted_end, waiting_count}
use Rattle.device_defs.specs.Peek.{peek, peek_track}
use Rattle.device_defs.specs.Second.{second_part}
use Rattle.device_defs.specs.Store.{HalfWrite, Origin, OfCommand, OfCut, OfBackground, Store, tracks_of}
use Rattle.device_defs.specs.Losses.{over}
use Rattle.plain_device.specs.Acted.{paths_behind, settled_act}
use Rattle.past_laws.specs.PutAway.{IsPutAway, PutAway, whole_entry, whole_history, whole_plans}
use Rattle.past_laws.specs.WithPast.{with_past}
use Rattle.past_laws.proofs.Along.{Along, along_first, ends_along, same_first, tries_along}
use Rattle.past_laws.proofs.Histories.{
  acted_away,
  acted_whole,
  checked_away,
  checked_whole,
  ended_away,
  ended_whole,
  power_away,
  power_whole,
  reset_away,
  reset_whole,
  used_there,
}

acts_whole : (w : PutAway) (plans : Plans) (h : History) → IsPutAway w plans h → (acts : List Act) →
    whole_history w (all_acted h acts) ≡ all_acted (whole_history w h) acts
acts_whole w plans h away [] = refl
acts_whole w plans h away (act ∷ acts) =
    acts_whole w plans (acted h act) (acted_away w plans h away act) acts ∙ ap (λ (k : History). all_acted k acts) (acted_whole w plans h away act)

acts_away : (w : PutAway) (plans : Plans) (h : History) → IsPutAway w plans h → (acts : List Act) → IsPutAway w plans (all_acted h acts)
acts_away w plans h away [] = away
acts_away w plans h away (act ∷ acts) = acts_away w plans (acted h act) (acted_away w plans h away act) acts

module _ {F P H R : Type 0} (c : Contents F P H R) {K : Type 0} (had : Bool → Type 0) (hears : Hearing Image K) (w : PutAway) where
  abbrev pub Past : Device F P H → Type 0
  Past d = IsPutAway w d.plans d.history

  abbrev pub IsWhole : Device F P H → Device F P H → Type 0
  IsWhole d e = (e ≡ with_past w d) × Past d

  abbrev pub Same : {A : Type 0} → Interaction R Image (Device F P H) A → Interaction R Image (Device F P H) A → Type 0
  Same i j = Along had hears IsWhole i j

  ends_as : {A : Type 0} (d e : Device F P H) (a : A) → with_past w d ≡ e → Past d → Same (Done d a) (Done e a)
  ends_as d e a is away = ends_along had hears IsWhole d e a (sym is, away)

  -- over the device that it was before its work on its tracks
  over_same : {A : Type 0} {i : Interaction R Image (Device F P H) A} (j : Device F P H → Interaction R Image (Device F P H) A) (d : Device F P H) {e : Device F P H} →
      with_past w d ≡ e → Same i (j (with_past w d)) → Same i (j e)
  over_same {i = i} j d is goes = subst (λ (x : Device F P H). Same i (j x)) is goes

  -- ---- an event

  ended_same : {A : Type 0} (d e : Device F P H) (a : A) → Past e → Same (event_ended c d e a) (event_ended c (with_past w d) (with_past w e) a)
  ended_same d e a away =
      same_first had hears IsWhole (noted_end c (waiting_count c d.store) e.store) (λ s _. Done (record e { store = s }) a)
      (λ s _. Done (record (with_past w e) { store = s }) a) (λ s _. ends_as (record e { store = s }) (record (with_past w e) { store = s }) a refl away)

  quiet_same : {A : Type 0} (body : Device F P H → Interaction R Image (Device F P H) A) → ((z : Device F P H) → Past z → Same (body z) (body (with_past w z))) →
      (d : Device F P H) → Past d → Same (quiet_event c d body) (quiet_event c (with_past w d) body)
  quiet_same body goes d away =
      along_first had hears IsWhole IsWhole (body (event_begun d)) (body (event_begun (with_past w d))) (event_ended c d) (event_ended c (with_past w d))
      (goes (event_begun d) away)
      (λ s t a is. over_same (λ x. event_ended c (with_past w d) x a) s (sym is.0) (ended_same d s a is.1))

  event_same : {A : Type 0} (body : Device F P H → Interaction R Image (Device F P H) A) → ((z : Device F P H) → Past z → Same (body z) (body (with_past w z))) →
      (d : Device F P H) → Past d → Same (event c d body) (event c (with_past w d) body)
  event_same body goes =
      quiet_same (λ z. and_then (hear c 960 z.store) (λ s _. body (record z { store = s })))
      (λ z away. same_first had hears IsWhole (hear c 960 z.store) (λ s _. body (record z { store = s })) (λ s _. body (record (with_past w z) { store = s }))
      (λ s _. goes (record z { store = s }) away))

  -- ---- its work on its tracks is done

  stored : (d : Device F P H) (s : Store F P H) → Past d → with_past w (with_store d s) ≡ with_store (with_past w d) s
  stored d s away = ap (λ (h : History). record (with_past w d) { store = s; history = h }) (acts_whole w d.plans d.history away s.acts)

  stored_past : (d : Device F P H) (s : Store F P H) → Past d → Past (with_store d s)
  stored_past d s away = acts_away w d.plans d.history away s.acts

  stored_same : {A : Type 0} (d : Device F P H) (s : Store F P H) (a : A) → Past d → Same (Done (with_store d s) a) (Done (with_store (with_past w d) s) a)
  stored_same d s a away = ends_as (with_store d s) (with_store (with_past w d) s) a (stored d s away) (stored_past d s away)

  -- ---- a command came out

  ends_whole : (d : Device F P H) (chain : ChainState) (e : CommandEnd) (b : Bool) → Past d →
      with_past w (if b then program_over d (ended d.history e) else record d { chain = Some chain; history = ended d.history e })
      ≡ (if b then program_over (with_past w d) (ended (whole_history w d.history) e)
      else record (with_past w d) { chain = Some chain; history = ended (whole_history w d.history) e })
  ends_whole d chain e true away = ap (program_over (with_past w d)) (ended_whole w d.plans d.history away e)
  ends_whole d chain e false away =
      ap (λ (h : History). record (with_past w d) { chain = Some chain; history = h }) (ended_whole w d.plans d.history away e)

  ends_past : (d : Device F P H) (chain : ChainState) (e : CommandEnd) (b : Bool) → Past d →
      Past (if b then program_over d (ended d.history e) else record d { chain = Some chain; history = ended d.history e })
  ends_past d chain e true away = ended_away w d.plans d.history away e
  ends_past d chain e false away = ended_away w d.plans d.history away e

  turned_whole : (d : Device F P H) (path : ℕ) (turn : Turn) → Past d → with_past w (turned d path turn) ≡ turned (with_past w d) path turn
  turned_whole d path turn away = by turn.came
    where
      by : (came : Came) → with_past w (turned d path (record turn { came = came })) ≡ turned (with_past w d) path (record turn { came = came })
      by (Ends e) = ends_whole (sense_kept d path e) turn.chain e e.over away
      by (Checks e) = ap (program_over (with_past w (sense_kept d path e))) (checked_whole w d.plans d.history away e)
      by (HalfOpen t) = refl

  turned_past : (d : Device F P H) (path : ℕ) (turn : Turn) → Past d → Past (turned d path turn)
  turned_past d path turn away = by turn.came
    where
      by : (came : Came) → Past (turned d path (record turn { came = came }))
      by (Ends e) = ends_past (sense_kept d path e) turn.chain e e.over away
      by (Checks e) = checked_away w d.plans d.history away e
      by (HalfOpen t) = away

  turned_same : {A : Type 0} (d : Device F P H) (path : ℕ) (turn : Turn) (a : A) → Past d →
      Same (Done (turned d path turn) a) (Done (turned (with_past w d) path turn) a)
  turned_same d path turn a away = ends_as (turned d path turn) (turned (with_past w d) path turn) a (turned_whole d path turn away) (turned_past d path turn away)

  -- ---- a command

  tracks_same : (d : Device F P H) (path : ℕ) (chain : ChainState) (s : Store F P H) (o : Option Turn) → Past d →
      Same (on_tracks c d path chain s o) (on_tracks c (with_past w d) path chain s o)
  tracks_same d path chain s (Some turn) away =
      over_same (λ x. came_out c x path turn) (with_store d s) (stored d s away)
      (turned_same (with_store d s) path turn (Some (told_step turn.came)) (stored_past d s away))
  tracks_same d path chain s None away =
      over_same {A = Option Stepped} (λ x. Done (again x chain) None) (with_store d s) (stored d s away)
      (ends_as (again (with_store d s) chain) (again (with_past w (with_store d s)) chain) None refl (stored_past d s away))

  answered_same : (d : Device F P H) (path : ℕ) (chain : ChainState) (progress : Progress) → Past d →
      Same (answered_by c d path chain progress) (answered_by c (with_past w d) path chain progress)
  answered_same d path chain (progresses.Ended e) away = turned_same d path (ends_with chain e) (Some (told_step (Ends e))) away
  answered_same d path chain (progresses.Local act) away =
      let turn = settles chain (settled_act d.store.geometry d.paths path act) in
      turned_same (record d { paths = paths_behind d.paths path act }) path turn (Some (told_step turn.came)) away
  answered_same d path chain (progresses.Need q) away = turned_same d path (checks chain Equipment) (Some (told_step (checks chain Equipment).came)) away
  answered_same d path chain (progresses.Write q e) away = turned_same d path (checks chain Equipment) (Some (told_step (checks chain Equipment).came)) away

  command_at_same : (d : Device F P H) (path : ℕ) (chain : ChainState) (need : Option ℕ) → Past d →
      Same (command_at c d path chain need) (command_at c (with_past w d) path chain need)
  command_at_same d path chain (Some t) away =
      same_first had hears IsWhole (follow c (tracks_of d.store) t chain t d.store) (on_tracks c d path chain) (on_tracks c (with_past w d) path chain)
      (λ s o. tracks_same d path chain s o away)
  command_at_same d path chain None away =
      tries_along had hears IsWhole (λ ok. pick ok d) (λ ok. pick ok (with_past w d)) (λ ok. both ok)
    where
      pick : Bool → Device F P H → Interaction R Image (Device F P H) (Option Stepped)
      pick ok x = if ok then answered_by c x path (stepped chain None).chain (stepped chain None).progress else Done (again x chain) None

      both : (ok : Bool) → Same (pick ok d) (pick ok (with_past w d))
      both true = answered_same d path (stepped chain None).chain (stepped chain None).progress away
      both false = ends_as (again d chain) (again (with_past w d) chain) None refl away

  command_by_same : (d : Device F P H) (o : Option OpenEntry) (chain : Option ChainState) → Past d →
      Same (command_by c d o chain) (command_by c (with_past w d) (option_map (whole_entry w) o) chain)
  command_by_same d (Some o) (Some chain) away = both (has_loss o.acts)
    where
      both : (lost : Bool) → Same (if lost then came_out c d o.path (checks chain Equipment) else command_at c d o.path chain (need_of chain))
          (if lost then came_out c (with_past w d) o.path (checks chain Equipment) else command_at c (with_past w d) o.path chain (need_of chain))
      both true = turned_same d o.path (checks chain Equipment) (Some (told_step (checks chain Equipment).came)) away
      both false = command_at_same d o.path chain (need_of chain) away
  command_by_same d (Some o) None away = ends_as d (with_past w d) None refl away
  command_by_same d None chain away = ends_as d (with_past w d) None refl away

  pub command_same : (d : Device F P H) → Past d → Same (command c d) (command c (with_past w d))
  unfolding command
  command_same d away = tries_along had hears IsWhole (λ ok. pick ok d) (λ ok. pick ok (with_past w d)) (λ ok. both ok)
    where
      pick : Bool → Device F P H → Interaction R Image (Device F P H) (Option Stepped)
      pick ok x = if ok then event c x (λ z. command_by c z z.history.running z.chain) else Done x None

      both : (ok : Bool) → Same (pick ok d) (pick ok (with_past w d))
      both true = event_same (λ z. command_by c z z.history.running z.chain) (λ z far. command_by_same z z.history.running z.chain far) d away
      both false = ends_as d (with_past w d) None refl away

  -- ---- the second part of a write

  command_ended_same : (d : Device F P H) (t : ℕ) (o : Option OpenEntry) (chain : Option ChainState) (done : Bool) → Past d →
      Same (command_ended c d t o chain done) (command_ended c (with_past w d) t (option_map (whole_entry w) o) chain done)
  command_ended_same d t (Some o) (Some chain) done away =
      let turn = second_turn c chain done in turned_same d o.path turn (second_told c t turn.came) away
  command_ended_same d t (Some o) None done away = ends_as d (with_past w d) (Unwritten t) refl away
  command_ended_same d t None chain done away = ends_as d (with_past w d) (Unwritten t) refl away

  second_ended_same : (d : Device F P H) (t : ℕ) (origin : Origin) (done : Bool) → Past d →
      Same (second_ended c d t origin done) (second_ended c (with_past w d) t origin done)
  second_ended_same d t (OfCommand bypass e) done away = command_ended_same d t d.history.running d.chain done away
  second_ended_same d t (OfCut bypass) done away = ends_as d (with_past w d) (if done then Finished t else Unwritten t) refl away
  second_ended_same d t OfBackground done away = ends_as d (with_past w d) (if done then Finished t else Unwritten t) refl away

  second_of_same : (d : Device F P H) (half : Option (HalfWrite H)) → Past d → Same (second_of c d half) (second_of c (with_past w d) half)
  second_of_same d (Some h) away =
      same_first had hears IsWhole (second_part c d.store h) (λ s done. second_ended c (with_store d s) h.track h.origin done)
      (λ s done. second_ended c (with_store (with_past w d) s) h.track h.origin done)
      (λ s done. over_same (λ x. second_ended c x h.track h.origin done) (with_store d s) (stored d s away)
      (second_ended_same (with_store d s) h.track h.origin done (stored_past d s away)))
  second_of_same d None away = ends_as d (with_past w d) (Unwritten 0) refl away

  pub second_same : (d : Device F P H) → Past d → Same (second c d) (second c (with_past w d))
  unfolding second
  second_same d away = event_same (λ z. second_of c z z.store.half) (λ z far. second_of_same z z.store.half far) d away

  -- ---- what it does by itself, and losses

  pub background_same : (d : Device F P H) → Past d → Same (background c d) (background c (with_past w d))
  unfolding background
  background_same d away =
      event_same (λ z. and_then (work c z.store) (λ s did. Done (with_store z s) did))
      (λ z far. same_first had hears IsWhole (work c z.store) (λ s did. Done (with_store z s) did) (λ s did. Done (with_store (with_past w z) s) did)
      (λ s did. stored_same z s did far)) d away

  pub lose_same : (d : Device F P H) (loss : Loss) → Past d → Same (lose c d loss) (lose c (with_past w d) loss)
  unfolding lose
  lose_same d loss away =
      event_same (λ z. and_then (losing c z.store loss) (λ s _. Done (with_store z s) tt))
      (λ z far. same_first had hears IsWhole (losing c z.store loss) (λ s _. Done (with_store z s) tt) (λ s _. Done (with_store (with_past w z) s) tt)
      (λ s _. stored_same z s tt far)) d away

  -- ---- a reset, and a loss of power

  cut_same : (d : Device F P H) (path : ℕ) → 1 ≤ path → path ≤ 4 → Past d → Same (path_cut c d path) (path_cut c (with_past w d) path)
  cut_same d path least most away =
      same_first had hears IsWhole (half_cut c d.store d.store.half) (λ s _. Done (cut_by s (reset_in_history d.history path more)) tt)
      (λ s _. Done (cut_with (whole_plans w d.plans) s (reset_in_history (whole_history w d.history) path more)) tt)
      (λ s _. ends_as (cut_by s (reset_in_history d.history path more))
      (cut_with (whole_plans w d.plans) s (reset_in_history (whole_history w d.history) path more)) tt
      (ap (cut_with (whole_plans w d.plans) s) (reset_whole w d.plans d.history away path more least most)) (reset_away w d.plans d.history away path more))
    where
      more : ℕ
      more = counts_one_by d.store.half

      cut_with : Plans → Store F P H → History → Device F P H
      cut_with plans s h = record { store = s; chain = None; paths = all_reset (reset_path d.paths path) d.history.waiting; plans = plans; history = h }

      cut_by : Store F P H → History → Device F P H
      cut_by s h = cut_with d.plans s h

  noted_whole : (d : Device F P H) (path : ℕ) → 1 ≤ path → path ≤ 4 → Past d → with_past w (reset_noted c d path 0) ≡ reset_noted c (with_past w d) path 0
  noted_whole d path least most away =
      ap (λ (h : History). record (with_past w d) { history = h }) (reset_whole w d.plans d.history away path 0 least most)

  reset_by_same : (d : Device F P H) (path : ℕ) → 1 ≤ path → path ≤ 4 → Past d → (o : Option OpenEntry) →
      Same (reset_by c d path o) (reset_by c (with_past w d) path (option_map (whole_entry w) o))
  reset_by_same d path least most away (Some o) = both (o.path == path)
    where
      both : (own : Bool) → Same (if own then path_cut c d path else Done (reset_noted c d path 0) tt)
          (if own then path_cut c (with_past w d) path else Done (reset_noted c (with_past w d) path 0) tt)
      both true = cut_same d path least most away
      both false =
          ends_as (reset_noted c d path 0) (reset_noted c (with_past w d) path 0) tt (noted_whole d path least most away) (reset_away w d.plans d.history away path 0)
  reset_by_same d path least most away None = both (has_used d.history path) (used_there w d.plans d.history away path least most)
    where
      left : Bool → Device F P H → Interaction R Image (Device F P H) (Unit {0})
      left used x = if used then Done (record (reset_noted c x path 0) { paths = reset_path x.paths path }) tt else Done x tt

      same : (used : Bool) → Same (left used d) (left used (with_past w d))
      same true =
          ends_as (record (reset_noted c d path 0) { paths = reset_path d.paths path }) (record (reset_noted c (with_past w d) path 0) { paths = reset_path d.paths path }) tt
          (ap (λ (x : Device F P H). record x { paths = reset_path d.paths path }) (noted_whole d path least most away)) (reset_away w d.plans d.history away path 0)
      same false = ends_as d (with_past w d) tt refl away

      both : (used : Bool) {there : Bool} → there ≡ used → Same (left used d) (left there (with_past w d))
      both used is = subst (λ (b : Bool). Same (left used d) (left b (with_past w d))) (sym is) (same used)

  pub reset_same : (d : Device F P H) (path : ℕ) → 1 ≤ path → path ≤ 4 → Past d → Same (reset c d path) (reset c (with_past w d) path)
  unfolding reset
  reset_same d path least most away = reset_by_same d path least most away d.history.running

  pub power_same : (d : Device F P H) → Past d → Same (power c d) (power c (with_past w d))
  unfolding power
  power_same d away =
      quiet_same (λ z. and_then (half_cut c z.store z.store.half) (λ s _. Done (powered_off c z s) tt))
      (λ z far. same_first had hears IsWhole (half_cut c z.store z.store.half) (λ s _. Done (powered_off c z s) tt)
      (λ s _. Done (powered_off c (with_past w z) s) tt)
      (λ s _. ends_as (powered_off c z s) (powered_off c (with_past w z) s) tt
      (ap (λ (h : History). record (powered_off c (with_past w z) s) { history = h }) (power_whole w z.plans z.history far (counts_one_by z.store.half)))
      (power_away w z.plans z.history far (counts_one_by z.store.half)))) d away

  -- ---- it is lent, and a look

  pub lend_same : (d : Device F P H) (to : ℕ) → Past d → Same (lend c d to) (lend c (with_past w d) to)
  unfolding lend
  lend_same d to away =
      quiet_same (λ z. Done (with_tracks z (lent_to (over (tracks_of z.store) (given_up c) z.store) to)) tt)
      (λ z far. let s = lent_to (over (tracks_of z.store) (given_up c) z.store) to in
      ends_as (with_tracks z s) (with_tracks (with_past w z) s) tt refl far) d away

  pub peek_same : (d : Device F P H) (t : ℕ) → Past d → Same (peek c d t) (peek c (with_past w d) t)
  unfolding peek
  peek_same d t away =
      quiet_same (λ z. and_then (peek_track c z.store t) (λ s found. Done (with_store z s) found))
      (λ z far. same_first had hears IsWhole (peek_track c z.store t) (λ s found. Done (with_store z s) found) (λ s found. Done (with_store (with_past w z) s) found)
      (λ s found. stored_same z s found far)) d away
