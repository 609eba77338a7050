-- The tracks that a step and a piece of work tell of are the device's: that of its half write, of its chain, of its queue, or the least that needs something.
use Rattle.std.proofs.Common.{◌≡◌, ◌≤◌, ◌<◌, ◌*◌, ℕ, Bool, List, Option, Some, None, arith}
use Rattle.std.specs.Prelude.{IfSome}
use Rattle.ckd_chain.specs.declared.progress.Progress.{Progress}
use Rattle.ckd_chain.specs.State.{ChainState}
use Rattle.ckd_chain.specs.Steps.{need_of, stepped}
use Rattle.plain_defs.specs.History.{OpenEntry}
use Rattle.track_image.specs.Image.{Image}
use Rattle.device_outside.specs.Interaction.{Done, Interaction, and_then}
use Rattle.device_defs.specs.declared.answers.Came.{Came}
use Rattle.device_defs.specs.declared.answers.Did.{Did}
use Rattle.device_defs.specs.declared.answers.SecondEnd.{SecondEnd}
use Rattle.device_defs.specs.declared.answers.SecondEnd.TheVariants as seconds
use Rattle.device_defs.specs.declared.answers.Stepped.{Stepped}
use Rattle.device_defs.specs.declared.answers.Stepped.TheVariants as steps
use Rattle.device_defs.specs.declared.answers.Took.{Took}
use Rattle.device_defs.specs.Background.{work}
use Rattle.device_defs.specs.Command as N
use Rattle.device_defs.specs.Command.{answered_by, command, command_at, command_by, has_loss, on_tracks}
use Rattle.device_defs.specs.Contents.{by_plain}
use Rattle.device_defs.specs.Device.{event, event_begun, with_store}
use Rattle.device_defs.specs.Events as V
use Rattle.device_defs.specs.Events.{background, command_ended, second, second_ended, second_of, second_told, second_turn}
use Rattle.device_defs.specs.Marks.{MarksDevice, MarksStore}
use Rattle.device_defs.specs.Outcomes.{Turn, told_step, wrote_turn}
use Rattle.device_defs.specs.Owed.{noted_begin, noted_end, hear, waiting_count}
use Rattle.device_defs.specs.Second.{second_part}
use Rattle.device_defs.specs.Store.{HalfWrite, Origin, tracks_of}
use Rattle.device_laws.specs.InOrder.{AreBelow}
use Rattle.device_laws.specs.Standing.{IsWithin}
use Rattle.device_laws.proofs.ChainTracks.{whole_cylinders, within_stays}
use Rattle.device_laws.proofs.Had.{Had, had_done, had_if, had_then, had_try}
use Rattle.report_reading.specs.Ranges.{IsBack, IsTrack}
use Rattle.run_report.specs.Answers.{back_answer}
use Rattle.device_laws.proofs.PoolWalks.{asks_had, hear_asks}
use Rattle.subsystem_laws.proofs.HadAnswers.{FirstIs, IsAlong, IsTold, Says, any_had, follow_says, work_says}

-- what it works on is on the device, of at most 960 tracks
pub record WorksOn (d : MarksDevice) : Type 0 where
  pub cylinders : d.store.cylinders ≤ 64
  pub half : IfSome d.store.half (λ h. h.track < tracks_of d.store)
  pub queued : AreBelow (tracks_of d.store) d.store.queue
  pub chain : IfSome d.chain (IsWithin (tracks_of d.store))

-- a track of a device with so many cylinders
pub track_in_range : (k t : ℕ) → k ≤ 64 → t < k * 15 → IsTrack t
track_in_range k t small lt = omega (arith, small, lt)

-- notes change nothing of it
record Heard (s z : MarksStore) : Type 0 where
  half : z.half ≡ s.half
  queue : z.queue ≡ s.queue
  cylinders : z.cylinders ≡ s.cylinders

heard_had : (s : MarksStore) → Had (hear by_plain 960 (noted_begin s)) (λ y (_ : Unit {0}). Heard s y)
heard_had s = asks_had (hear_asks by_plain (Heard s) (λ z t clean k. (search arith)) 960 (noted_begin s) (search arith))

heard_works : (d : MarksDevice) (s : MarksStore) → Heard d.store s → WorksOn d → WorksOn (record (event_begun d) { store = s })
heard_works d s k w = search arith

event_had : {A : Type 0} (P : A → Type 0) (d : MarksDevice) (body : MarksDevice → Interaction Bool Image MarksDevice A) → WorksOn d →
    ((z : MarksDevice) → WorksOn z → Had (body z) (λ y a. P a)) → Had (event by_plain d body) (λ y a. P a)
event_had P d body w h =
    had_then (had_then (heard_had d.store)
    (λ s _ k. h (record (event_begun d) { store = s }) (heard_works d s k w)))
    (λ y a p. had_then (any_had (noted_end by_plain (waiting_count by_plain d.store) y.store)) (λ z _ _. had_done p))

-- The second part of a write

abbrev pub SecondIn : SecondEnd → Type 0
SecondIn (seconds.Ended e) = Unit {0}
SecondIn (seconds.Finished t) = IsTrack t
SecondIn (seconds.Unwritten t) = IsTrack t

second_ended_in : (d : MarksDevice) (t : ℕ) (origin : Origin) (done : Bool) → IsTrack t → Had (second_ended by_plain d t origin done) (λ y a. SecondIn a)
second_ended_in d t origin done lt = search (arith, had_done)

second_of_in : (d : MarksDevice) (o : Option (HalfWrite (Unit {0}))) → IfSome o (λ h. IsTrack h.track) → Had (second_of by_plain d o) (λ y a. SecondIn a)
second_of_in d (Some h) lt = had_then (any_had (second_part by_plain d.store h)) (λ s done _. second_ended_in (with_store d s) h.track h.origin done lt)
second_of_in d None lt = had_done (omega arith)

half_track : (d : MarksDevice) → WorksOn d → (o : Option (HalfWrite (Unit {0}))) → IfSome o (λ h. h.track < tracks_of d.store) → IfSome o (λ h. IsTrack h.track)
half_track d w o lt = grind (arith, track_in_range)

pub second_in : (d : MarksDevice) → WorksOn d → Had (second by_plain d) (λ y a. SecondIn a)
unfolding V.second
second_in d w = event_had SecondIn d (λ z. second_of by_plain z z.store.half) w (λ z k. second_of_in z z.store.half (half_track z k z.store.half k.half))

-- By itself

abbrev pub DidIn : Did → Type 0
DidIn x = IsBack (back_answer x)

abbrev pub MayDidIn : Option Did → Type 0
MayDidIn o = IfSome o DidIn

did_told : IsTold DidIn IsTrack
did_told = search arith

may_did : (o : Option Did) → Says DidIn o → MayDidIn o
may_did o h = grind arith

first_in : (k : ℕ) → k ≤ 64 → (l : List ℕ) → AreBelow (k * 15) l → FirstIs IsTrack l
first_in k small l below = grind (arith, track_in_range)

pub background_in : (d : MarksDevice) → WorksOn d → Had (background by_plain d) (λ y a. MayDidIn a)
unfolding V.background
background_in d w =
    event_had MayDidIn d (λ z. and_then (work by_plain z.store) (λ s x. Done (with_store z s) x)) w
    (λ z k. had_then
    (work_says by_plain did_told z.store (λ t lt. track_in_range z.store.cylinders t k.cylinders lt) (first_in z.store.cylinders k.cylinders z.store.queue k.queued))
    (λ s x h. had_done (may_did x h)))

-- A command

abbrev pub SteppedIn : Stepped → Type 0
SteppedIn (steps.Ended e) = Unit {0}
SteppedIn (steps.Half t) = IsTrack t

abbrev pub MayStepIn : Option Stepped → Type 0
MayStepIn o = IfSome o SteppedIn

abbrev CameIn : Came → Type 0
CameIn c = SteppedIn (told_step c)

module _ (k : ℕ) (small : k ≤ 64) where
  wrote_in : (chain : ChainState) (t : ℕ) (took : Took) → t < k * 15 → CameIn (wrote_turn chain t took).came
  wrote_in chain t took lt = grind (arith, track_in_range)

  along : IsAlong (λ chain t. IsWithin (k * 15) chain × (t < k * 15)) (λ turn. CameIn turn.came)
  along = record {
    checked = λ chain t fault on. tt;
    ended = λ chain t i e on is. tt;
    needs = λ chain t i q on is. (within_stays (k * 15) (whole_cylinders k)).goes chain i q on.0 is;
    wrote = λ chain t i took on. wrote_in (stepped chain (Some i)).chain t took on.1;
    refused = λ chain t i on. tt;
  }

on_tracks_in : (d : MarksDevice) (path : ℕ) (chain : ChainState) (s : MarksStore) (o : Option Turn) → Says (λ turn. CameIn turn.came) o →
    Had (on_tracks by_plain d path chain s o) (λ y a. MayStepIn a)
on_tracks_in d path chain s o h = grind (arith, had_done)

answered_in : (d : MarksDevice) (path : ℕ) (chain : ChainState) (p : Progress) → Had (answered_by by_plain d path chain p) (λ y a. MayStepIn a)
answered_in d path chain p = grind (arith, had_done)

command_at_in : (d : MarksDevice) → WorksOn d → (path : ℕ) (chain : ChainState) → IsWithin (tracks_of d.store) chain → (o : Option ℕ) → need_of chain ≡ o →
    Had (command_at by_plain d path chain o) (λ y a. MayStepIn a)
command_at_in d w path chain on (Some t) is =
    had_then (follow_says by_plain (along d.store.cylinders w.cylinders) (tracks_of d.store) t chain t d.store (on, on.needs t is))
    (λ s o h. on_tracks_in d path chain s o h)
command_at_in d w path chain on None is = had_try (answered_in d path (stepped chain None).chain (stepped chain None).progress)

command_by_in : (d : MarksDevice) → WorksOn d → (o : Option OpenEntry) (c : Option ChainState) → IfSome c (IsWithin (tracks_of d.store)) →
    Had (command_by by_plain d o c) (λ y a. MayStepIn a)
command_by_in d w o c on = search (arith, had_if, had_done, command_at_in)

pub command_in : (d : MarksDevice) → WorksOn d → Had (command by_plain d) (λ y a. MayStepIn a)
unfolding N.command
command_in d w =
    had_try (event_had MayStepIn d (λ z. command_by by_plain z z.history.running z.chain) w
    (λ z k. command_by_in z k z.history.running z.chain k.chain))
