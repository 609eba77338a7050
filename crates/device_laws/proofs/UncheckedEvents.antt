-- So a command adds no entry that ended with equipment check to its journal.
use Rattle.std.proofs.Common.{◌≡◌, ◌*◌, ℕ, Bool, true, false, List, [], ◌∷◌, Option, Some, None, get_or, refl, sym, ap, subst, ◌∙◌, arith}
use Rattle.std.specs.Prelude.{if◌then◌else◌, count_by}
use Rattle.ckd_chain.specs.declared.mark.Stage.{Stage}
use Rattle.ckd_chain.specs.declared.mark.Stage.TheVariants as stages
use Rattle.ckd_chain.specs.declared.progress.Progress.{Progress}
use Rattle.ckd_chain.specs.declared.progress.Progress.TheVariants as progresses
use Rattle.ckd_chain.specs.State.{ChainState}
use Rattle.ckd_chain.specs.Steps.{chain_opened as opened_chain, stage_of, track_needed, need_of, stepped_by, stepped}
use Rattle.ckd_types.specs.declared.channel.CommandEnd.{CommandEnd}
use Rattle.plain_defs.specs.declared.journal.Act.{Act}
use Rattle.plain_defs.specs.declared.journal.How.{How}
use Rattle.plain_defs.specs.declared.journal.How.TheVariants.{Full, Checked}
use Rattle.plain_defs.specs.declared.journal.Item.TheVariants as items
use Rattle.plain_defs.specs.History.{OpenEntry, History, acted, acted_in, checked_in, closed, ended, ended_in, entry_of, resets_of, with_end}
use Rattle.plain_device.specs.Acted.{settled_act, paths_behind}
use Rattle.track_image.specs.Image.{Image}
use Rattle.device_outside.specs.Interaction.{Interaction}
use Rattle.device_defs.specs.declared.answers.Came.{Came}
use Rattle.device_defs.specs.declared.answers.Came.TheVariants.{Ends, Checks, HalfOpen}
use Rattle.device_defs.specs.Command as N
use Rattle.device_defs.specs.Command.{has_loss, came_out, on_tracks, answered_by, command_at, command_by, command}
use Rattle.device_defs.specs.Contents.{Contents}
use Rattle.device_defs.specs.Device.{Device, all_acted, with_store, event_begun}
use Rattle.device_defs.specs.Excused.{is_equipment_check}
use Rattle.device_defs.specs.Outcomes.{Turn, ends_with, settles, sense_kept, program_over, turned_by}
use Rattle.device_defs.specs.Owed.{waiting_count, noted_end as event_end}
use Rattle.device_defs.specs.Store.{Store, tracks_of}
use Rattle.device_laws.specs.Standing.{IsWithin, IsChainOf}
use Rattle.device_laws.specs.Unharmed.{ends_with_equipment_check, RunsUnharmed, IsCalm}
use Rattle.device_laws.proofs.ChainTracks.{within_stays, whole_cylinders}
use Rattle.device_laws.proofs.Commands.{Stays}
use Rattle.device_laws.proofs.FailedCall.{IsWell, goes_same, goes_on as well_on}
use Rattle.device_laws.proofs.KeptHistories.{AreNot, count_more, last_is}
use Rattle.device_laws.proofs.LossEvents.{begun_same}
use Rattle.device_laws.proofs.Lucky.{Lucky, lucky_done, lucky_try, lucky_then, lucky_if, lucky_tried, with_always}
use Rattle.device_laws.proofs.Notices.{hearing_keeps_good}
use Rattle.device_laws.proofs.OrdersStand.{chain_stands}
use Rattle.device_laws.proofs.TrackMarks.{IsFaithful}
use Rattle.device_laws.proofs.Unchecked.{NoCheck, TurnSo, lucky_any, takes_still, follow_so}
use Rattle.device_laws.proofs.UnlostParts.{hear_goes}

-- Journals

abbrev pub equipment_checks : History → ℕ
equipment_checks h = count_by ends_with_equipment_check h.items

no_resets : (paths : List ℕ) → AreNot ends_with_equipment_check (resets_of paths)
no_resets [] = tt
no_resets (path ∷ paths) = (refl, no_resets paths)

closed_same : (h : History) (o : OpenEntry) (how : How) → ends_with_equipment_check (entry_of o how) ≡ false →
    equipment_checks (closed h o how) ≡ equipment_checks h
closed_same h o how none = count_more ends_with_equipment_check h.items (entry_of o how ∷ resets_of h.waiting) (none, no_resets h.waiting)

over_same : (h : History) (o : OpenEntry) (b : Bool) → equipment_checks (if b then closed h o Full else record h { running = Some o }) ≡ equipment_checks h
over_same h o true = closed_same h o Full refl
over_same h o false = refl

ended_same : (h : History) (e : CommandEnd) (r : Option OpenEntry) → equipment_checks (ended_in h e r) ≡ equipment_checks h
ended_same h e (Some o) = over_same h (with_end o e) e.over
ended_same h e None = refl

checked_same : (h : History) (e : CommandEnd) (r : Option OpenEntry) → is_equipment_check e.sense ≡ false →
    equipment_checks (checked_in h e r) ≡ equipment_checks h
checked_same h e (Some o) none = closed_same h (with_end o e) Checked (ap is_equipment_check (last_is o.ends e) ∙ none)
checked_same h e None none = refl

act_same : (h : History) (act : Act) (r : Option OpenEntry) → equipment_checks (acted_in h act r) ≡ equipment_checks h
act_same h act (Some o) = refl
act_same h act None = count_more ends_with_equipment_check h.items (items.Act act ∷ []) (refl, tt)

pub acts_same : (h : History) (acts : List Act) → equipment_checks (all_acted h acts) ≡ equipment_checks h
acts_same h [] = refl
acts_same h (act ∷ acts) = acts_same (acted h act) acts ∙ act_same h act h.running

-- A chain that looks at no track

abbrev pub NoTrack : Progress → Type 0
NoTrack (progresses.Ended e) = Unit {0}
NoTrack (progresses.Need q) = ⊥
NoTrack (progresses.Write q e) = ⊥
NoTrack (progresses.Local act) = Unit {0}

pub stage_none : (chain : ChainState) (stage : Stage) → need_of chain ≡ None → stage_of chain ≡ stage →
    NoTrack (stepped_by (opened_chain chain) None stage).progress
stage_none chain stages.Over none at = tt
stage_none chain (stages.Asks act) none at = tt
stage_none chain (stages.Looks look) none at =
    absurd (let some : None ≡ Some _ = sym none ∙ ap (λ (x : Stage). track_needed (opened_chain chain) x) at in cc)

-- The command

module _ {F P H : Type 0} (n : ℕ) where
  abbrev pub Has : Device F P H → Type 0
  Has d = equipment_checks d.history ≡ n

  over_has : (d : Device F P H) (k : History) (chain : ChainState) (b : Bool) → equipment_checks k ≡ n →
      Has (if b then program_over d k else record d { chain = Some chain; history = k })
  over_has d k chain true e = e
  over_has d k chain false e = e

  pub turned_has : (d : Device F P H) (path : ℕ) (chain : ChainState) (came : Came) → NoCheck came → Has d → Has (turned_by d path chain came)
  turned_has d path chain (Ends e) none f =
      over_has (sense_kept d path e) (ended d.history e) chain e.over (ended_same d.history e d.history.running ∙ f)
  turned_has d path chain (Checks e) none f = checked_same d.history e d.history.running none ∙ f
  turned_has d path chain (HalfOpen t) none f = f

module _ {F P H R : Type 0} (c : Contents F P H R) (n : ℕ) where
  abbrev Holds : {A : Type 0} → Interaction R Image (Device F P H) A → Type 0
  Holds i = Lucky (λ e _. Has n e) i

  pub out_has : (d : Device F P H) (path : ℕ) (turn : Turn) → NoCheck turn.came → Has n d → Holds (came_out c d path turn)
  out_has d path turn none f = lucky_done (turned_has n d path turn.chain turn.came none f)

  pub on_has : (d : Device F P H) (path : ℕ) (chain : ChainState) (s : Store F P H) (o : Option Turn) → TurnSo o → Has n d →
      Holds (on_tracks c d path chain s o)
  on_has d path chain s (Some turn) so f = out_has (with_store d s) path turn so (acts_same d.history s.acts ∙ f)
  on_has d path chain s None so f = lucky_done (acts_same d.history s.acts ∙ f)

  pub answered_has : (d : Device F P H) (path : ℕ) (chain : ChainState) (p : Progress) → NoTrack p → Has n d → Holds (answered_by c d path chain p)
  answered_has d path chain (progresses.Ended e) so f = out_has d path (ends_with chain e) tt f
  answered_has d path chain (progresses.Local act) so f =
      out_has (record d { paths = paths_behind d.paths path act }) path (settles chain (settled_act d.store.geometry d.paths path act)) tt f
  answered_has d path chain (progresses.Need q) so f = absurd so
  answered_has d path chain (progresses.Write q e) so f = absurd so

  module _ (faithful : IsFaithful c) where
    module _ (m : ℕ) (Within : ChainState → Type 0) (within : Stays m Within) where
      at_has : (d : Device F P H) (path : ℕ) (chain : ChainState) (o : Option ℕ) → need_of chain ≡ o → Within chain → tracks_of d.store ≡ m →
          IsWell c d.store → d.store.half ≡ None → IsCalm d.store → Has n d → Holds (command_at c d path chain o)
      at_has d path chain (Some t) needs is same w none calm f =
          lucky_then _
          (follow_so c faithful m Within within (tracks_of d.store) t chain t d.store is same (within.needs chain t is needs) w none needs
          (omega (arith, same)) calm.1 calm.0)
          (λ z o so. on_has d path chain z o so f)
      at_has d path chain None needs is same w none calm f =
          lucky_try (λ ok. lucky_if ok
          (λ _. answered_has d path (stepped chain None).chain (stepped chain None).progress (stage_none chain (stage_of chain) needs refl) f)
          (λ _. lucky_done f))

      by_has : (d : Device F P H) (o : Option OpenEntry) (k : Option ChainState) → RunsUnharmed o → ((chain : ChainState) → k ≡ Some chain → Within chain) →
          tracks_of d.store ≡ m → IsWell c d.store → d.store.half ≡ None → IsCalm d.store → Has n d → Holds (command_by c d o k)
      by_has d (Some o) (Some chain) un is same w none calm f =
          lucky_if (has_loss o.acts) (λ lost. absurd (let both : true ≡ false = sym lost ∙ un in cc))
          (λ _. at_has d o.path chain (need_of chain) refl (is chain refl) same w none calm f)
      by_has d (Some o) None un is same w none calm f = lucky_done f
      by_has d None k un is same w none calm f = lucky_done f

    pub command_unchecked_within : (d : Device F P H) → ((chain : ChainState) → d.chain ≡ Some chain → IsWithin (d.store.cylinders * 15) chain) →
        IsWell c d.store → d.store.half ≡ None → IsCalm d.store → RunsUnharmed d.history.running → Has n d → Holds (command c d)
    unfolding N.command
    command_unchecked_within d of_device w none calm un f =
        let m = tracks_of d.store in
        let front = goes_same c d.store (event_begun d).store w (begun_same c faithful d w) in
        lucky_tried d _ f
        (lucky_then _ (lucky_then _
        (with_always (hearing_keeps_good c 960 (event_begun d).store front.well) (hear_goes c 960 (event_begun d).store))
        (λ s _ g.
        let well = well_on c d.store (event_begun d).store s front g.0 in
        by_has m (IsWithin m) (within_stays m (whole_cylinders d.store.cylinders)) (record (event_begun d) { store = s }) d.history.running d.chain un
        of_device well.tracks well.well (well.half ∙ none)
        (takes_still c d.store s g.1.up g.1.takes calm.0, λ t. ap (λ (l : List Bool). get_or l t false) g.1.lost ∙ calm.1 t) f))
        (λ y a h. lucky_then _ (lucky_any (event_end c (waiting_count c d.store) y.store)) (λ z _ _. lucky_done h)))

    pub command_unchecked : (d : Device F P H) → ((chain : ChainState) → d.chain ≡ Some chain → IsChainOf d.store.cylinders chain) → IsWell c d.store →
        d.store.half ≡ None → IsCalm d.store → RunsUnharmed d.history.running → Has n d → Holds (command c d)
    command_unchecked d of_device w none calm un f =
        command_unchecked_within d
        (λ chain is. let k = of_device chain is in subst (λ (x : ℕ). IsWithin (x * 15) chain) k.cylinders (chain_stands chain k.is)) w none calm un f
