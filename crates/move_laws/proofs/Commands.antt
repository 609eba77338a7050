-- A whole command makes exactly the reads of its looks and the writes of its write; what its event begins and ends with makes none. Behind a fast or a
-- provisional write it adds no check to the journal.
use Rattle.std.proofs.Common.{◌≡◌, ℕ, Bool, true, false, Option, Some, None, refl, sym, subst, ◌∙◌}
use Rattle.std.specs.Prelude.{if◌then◌else◌}
use Rattle.ckd_chain.specs.declared.progress.Progress.{Progress}
use Rattle.ckd_chain.specs.declared.progress.Progress.TheVariants as progresses
use Rattle.ckd_chain.specs.declared.progress.Settled.TheVariants.{Equipment}
use Rattle.ckd_chain.specs.State.{ChainState}
use Rattle.ckd_chain.specs.Steps.{need_of, stepped}
use Rattle.plain_defs.specs.History.{OpenEntry}
use Rattle.track_image.specs.Image.{Image}
use Rattle.device_outside.specs.Interaction.{Interaction, Done, and_then}
use Rattle.device_outside.specs.Told as T
use Rattle.device_outside.specs.Told.{Told, RunOutcome, hold}
use Rattle.device_defs.specs.declared.answers.Came.{Came}
use Rattle.device_defs.specs.declared.answers.Came.TheVariants.{Ends, Checks, HalfOpen}
use Rattle.device_defs.specs.declared.answers.Stepped.{Stepped}
use Rattle.device_defs.specs.Command as N
use Rattle.device_defs.specs.Command.{has_loss, follow, came_out, on_tracks, answered_by, command_at, command_by, command}
use Rattle.device_defs.specs.Contents.{by_plain}
use Rattle.device_defs.specs.Device.{with_store, event_begun, event_ended}
use Rattle.device_defs.specs.Marks.{MarksStore, MarksDevice}
use Rattle.device_defs.specs.Outcomes.{Turn, checks, told_step}
use Rattle.device_defs.specs.Owed.{hear, waiting_count, noted_end}
use Rattle.device_defs.specs.Store.{tracks_of}
use Rattle.device_laws.proofs.QuietParts.{hear_quiet, ended_quiet}
use Rattle.device_laws.proofs.Unchecked.{TurnSo}
use Rattle.device_laws.proofs.UncheckedEvents.{Has, acts_same, turned_has}
use Rattle.device_laws.specs.Seen.{is_half}
use Rattle.move_laws.specs.Chosen.{choice_at, writes_in_cache}
use Rattle.move_laws.specs.Exactly.{CommandWalk, no_walk, write_writes, walk_tracks, looks_walk, command_walk, is_half_step}
use Rattle.move_laws.proofs.Holds.{Made, made_none, made_on, made_still, hold_then, hold_on, quiet_made}
use Rattle.move_laws.proofs.Walks.{half_by, follow_walked}

told_half : (came : Came) → is_half_step (told_step came) ≡ is_half came
told_half (Ends e) = refl
told_half (Checks e) = refl
told_half (HalfOpen t) = refl

abbrev pub stepped_half : Option Stepped → Bool
stepped_half (Some x) = is_half_step x
stepped_half None = false

module _ (half : Bool) (n : ℕ) where
  -- if it ends as half says, it made these; and behind a write in the cache alone its device has n checks
  pub record Makes (x : CommandWalk) (w : Told) (o : RunOutcome MarksDevice (Option Stepped)) : Type 0 where
    pub made : stepped_half o.answer ≡ half → Made x.reads (write_writes half x.write) w o.told
    pub same : writes_in_cache (choice_at x.write) ≡ true → Has n o.state

  none_makes : (w : Told) (d : MarksDevice) (a : Option Stepped) → Makes no_walk w (record { state = d; answer = a; told = w })
  none_makes w d a = record { made = λ is. made_none w; same = λ fast. absurd (cc) }

  -- One that looks at tracks

  turn_makes : (d : MarksDevice) (path : ℕ) (chain : ChainState) (x : CommandWalk) (w y : Told) (s : MarksStore) (a : Option Turn) → Has n d →
      (half_by a ≡ half → Made x.reads (write_writes half x.write) w y) → (writes_in_cache (choice_at x.write) ≡ true → TurnSo a) →
      Makes x w (hold {I = Image} true (on_tracks by_plain d path chain s a) y)
  unfolding T.hold
  turn_makes d path chain x w y s (Some turn) had f g = record {
    made = λ is. f (sym (told_half turn.came) ∙ is);
    same = λ fast. turned_has n (with_store d s) path turn.chain turn.came (g fast) (acts_same d.history s.acts ∙ had);
  }
  turn_makes d path chain x w y s None had f g = record { made = f; same = λ fast. acts_same d.history s.acts ∙ had }

  tracks_make : (d : MarksDevice) (path : ℕ) (chain : ChainState) (t : ℕ) (w : Told) → Has n d →
      Makes (walk_tracks (tracks_of d.store) chain t d.store w) w (hold true (command_at by_plain d path chain (Some t)) w)
  tracks_make d path chain t w had =
      let talk = follow by_plain (tracks_of d.store) t chain t d.store in
      let x = walk_tracks (tracks_of d.store) chain t d.store w in
      let o = hold true talk w in
      let k = follow_walked t half (tracks_of d.store) chain t d.store w in
      subst (Makes x w) (sym (hold_then true talk (on_tracks by_plain d path chain) w))
      (turn_makes d path chain x w o.told o.state o.answer had k.made k.ends)

  -- One that looks at none

  answer_makes : (d : MarksDevice) (path : ℕ) (w : Told) (chain : ChainState) (p : Progress) →
      Makes no_walk w (hold {I = Image} true (answered_by by_plain d path chain p) w)
  unfolding T.hold
  answer_makes d path w chain (progresses.Ended e) = none_makes w _ _
  answer_makes d path w chain (progresses.Need q) = none_makes w _ _
  answer_makes d path w chain (progresses.Write q e) = none_makes w _ _
  answer_makes d path w chain (progresses.Local act) = none_makes w _ _

  need_makes : (b : MarksDevice) (o : RunOutcome MarksStore (Unit {0})) (path : ℕ) (chain : ChainState) (need : Option ℕ) → Has n b →
      Makes (looks_walk chain o need) o.told (hold true (command_at by_plain (record b { store = o.state }) path chain need) o.told)
  unfolding T.hold
  need_makes b o path chain (Some t) had = tracks_make (record b { store = o.state }) path chain t o.told had
  need_makes b o path chain None had =
      answer_makes (record b { store = o.state }) path o.told (stepped chain None).chain (stepped chain None).progress

  -- The program that runs

  abbrev Within : RunOutcome MarksStore (Unit {0}) → Option OpenEntry → Option ChainState → CommandWalk
  Within o (Some entry) (Some chain) = if has_loss entry.acts then no_walk else looks_walk chain o (need_of chain)
  Within o (Some entry) None = no_walk
  Within o None chain = no_walk

  loss_makes : (b : MarksDevice) (o : RunOutcome MarksStore (Unit {0})) (entry : OpenEntry) (chain : ChainState) (lost : Bool) → Has n b →
      Makes (if lost then no_walk else looks_walk chain o (need_of chain)) o.told
      (hold true (if lost then came_out by_plain (record b { store = o.state }) entry.path (checks chain Equipment)
      else command_at by_plain (record b { store = o.state }) entry.path chain (need_of chain)) o.told)
  unfolding T.hold
  loss_makes b o entry chain true had = none_makes o.told _ _
  loss_makes b o entry chain false had = need_makes b o entry.path chain (need_of chain) had

  by_makes : (b : MarksDevice) (o : RunOutcome MarksStore (Unit {0})) (entry : Option OpenEntry) (chain : Option ChainState) → Has n b →
      Makes (Within o entry chain) o.told (hold true (command_by by_plain (record b { store = o.state }) entry chain) o.told)
  unfolding T.hold
  by_makes b o (Some entry) (Some chain) had = loss_makes b o entry chain (has_loss entry.acts) had
  by_makes b o (Some entry) None had = none_makes o.told _ _
  by_makes b o None chain had = none_makes o.told _ _

  -- Its event

  ended_makes : (x : CommandWalk) (w y : Told) (z : MarksDevice) (a : Option Stepped) →
      (stepped_half a ≡ half → Made x.reads (write_writes half x.write) w y) → (writes_in_cache (choice_at x.write) ≡ true → Has n z) →
      Makes x w (hold {I = Image} true (Done z a) y)
  unfolding T.hold
  ended_makes x w y z a f g = record { made = f; same = g }

  over_makes : (d z : MarksDevice) (x : CommandWalk) (w y : Told) (a : Option Stepped) →
      (stepped_half a ≡ half → Made x.reads (write_writes half x.write) w y) → (writes_in_cache (choice_at x.write) ≡ true → Has n z) →
      Makes x w (hold true (event_ended by_plain d z a) y)
  over_makes d z x w y a f g =
      let m = waiting_count by_plain d.store in
      let o = hold true (noted_end by_plain m z.store) y in
      subst (Makes x w) (sym (hold_then true (noted_end by_plain m z.store) (λ s _. Done (record z { store = s }) a) y))
      (ended_makes x w o.told (record z { store = o.state }) a (λ is. made_still (f is) (quiet_made true (ended_quiet by_plain m z.store) y)) g)

  body_makes : (d : MarksDevice) (x : CommandWalk) (w y : Told) (talk : Interaction Bool Image MarksDevice (Option Stepped)) → Made 0 0 w y →
      Makes x y (hold true talk y) → Makes x w (hold true (and_then talk (event_ended by_plain d)) y)
  body_makes d x w y talk none f =
      let o = hold true talk y in
      subst (Makes x w) (sym (hold_then true talk (event_ended by_plain d) y))
      (over_makes d o.state x w o.told o.answer (λ is. made_on none (f.made is)) f.same)

  same_within : (d : MarksDevice) (w : Told) (entry : Option OpenEntry) (chain : Option ChainState) →
      Within (hold true (hear by_plain 960 (event_begun d).store) w) entry chain ≡ command_walk d w entry chain
  same_within d w (Some entry) (Some chain) = refl
  same_within d w (Some entry) None = refl
  same_within d w None chain = refl

  pub command_makes : (d : MarksDevice) (w : Told) → Has n d →
      Makes (command_walk d w d.history.running d.chain) w (hold true (command by_plain d) w)
  unfolding N.command T.hold
  command_makes d w had =
      let b = event_begun d in
      let talk = hear by_plain 960 b.store in
      let o = hold true talk w in
      let x = command_walk d w d.history.running d.chain in
      subst (Makes x w)
      (sym (hold_on true talk (λ s _. command_by by_plain (record b { store = s }) d.history.running d.chain) (event_ended by_plain d) w))
      (body_makes d x w o.told (command_by by_plain (record b { store = o.state }) d.history.running d.chain)
      (quiet_made true (hear_quiet by_plain 960 b.store) w)
      (subst (λ (y : CommandWalk). Makes y o.told (hold true (command_by by_plain (record b { store = o.state }) d.history.running d.chain) o.told))
      (same_within d w d.history.running d.chain) (by_makes b o d.history.running d.chain had)))
