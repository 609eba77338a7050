-- A device behind want of memory: a command's program is where it was before the command.
use Rattle.std.proofs.Common.{◌≡◌, ℕ, List, [], Option, Some, None, refl, sym, subst}
use Rattle.ckd_chain.specs.declared.progress.Progress.{Progress}
use Rattle.ckd_chain.specs.declared.progress.Progress.TheVariants as progresses
use Rattle.ckd_chain.specs.State.{ChainState}
use Rattle.ckd_chain.specs.Steps.{need_of, stepped}
use Rattle.plain_defs.specs.declared.journal.Act.{Act}
use Rattle.plain_defs.specs.History.{OpenEntry}
use Rattle.track_image.specs.Image.{Image}
use Rattle.device_outside.specs.Interaction.{Interaction, Done, and_then}
use Rattle.device_defs.specs.declared.answers.Did.{Did}
use Rattle.device_defs.specs.declared.answers.Stepped.{Stepped}
use Rattle.device_defs.specs.Background.{work}
use Rattle.device_defs.specs.Command as N
use Rattle.device_defs.specs.Command.{answered_by, command, command_at, command_by, follow, has_loss, on_tracks}
use Rattle.device_defs.specs.Contents.{Contents}
use Rattle.device_defs.specs.Device.{Device, all_acted, event, event_begun, event_ended, with_store}
use Rattle.device_defs.specs.Events as V
use Rattle.device_defs.specs.Events.{background}
use Rattle.device_defs.specs.Outcomes.{Turn, again}
use Rattle.device_defs.specs.Owed.{noted_begin, noted_end, waiting_count}
use Rattle.device_defs.specs.Store.{Store, no_debt, tracks_of, with_owed}
use Rattle.device_laws.proofs.Always.{Always, always_done, always_then, always_try}
use Rattle.device_laws.proofs.KeptEvents.{always_any, always_if}
use Rattle.device_laws.proofs.PoolWalks.{asks_always, ended_asks, hear_asks}
use Rattle.subsystem_laws.proofs.turning.Lacking.{Quiet, Lacks, follow_lacks, work_lacks}

-- E is what is so of the device then, Q of its tracks
module _ {F P H R : Type 0} (c : Contents F P H R) (Q : Store F P H → Type 0) (k : Quiet c Q) (E : Device F P H → Type 0)
    (owed : (y : Device F P H) (t : ℕ) → E y → E (record y { store = with_owed y.store t no_debt })) where
  module _ {X : Type 0} where
    end_wants : (old y : Device F P H) (o : Option X) → Lacks E y o → Always (event_ended c old y o) (λ z (a : Option X). Lacks E z a)
    end_wants old y None e =
        always_then
        (asks_always (ended_asks c (λ z. E (record y { store = z })) (λ z t x. owed (record y { store = z }) t x) (waiting_count c old.store) y.store e))
        (λ z _ x. always_done x)
    end_wants old y (Some x) e = always_then (always_any (noted_end c (waiting_count c old.store) y.store)) (λ z _ _. always_done tt)

    pub event_wants : (d : Device F P H) (body : Device F P H → Interaction R Image (Device F P H) (Option X)) → Q (noted_begin d.store) →
        ((s : Store F P H) → Q s → s.acts ≡ [] → Always (body (record (event_begun d) { store = s })) (λ y (o : Option X). Lacks E y o)) →
        Always (event c d body) (λ y (o : Option X). Lacks E y o)
    event_wants d body q h =
        always_then
        (always_then (asks_always (hear_asks c (λ z. Q z × (z.acts ≡ [])) (λ z t clean x. (k.frames z t None x.0, x.1)) 960 (noted_begin d.store) (q, refl)))
        (λ s _ x. h s x.0 x.1))
        (λ y o e. end_wants d y o e)

  -- A command

  module _ (d : Device F P H) (q : Q (noted_begin d.store)) (o : OpenEntry) (chain : ChainState) (running : d.history.running ≡ Some o)
      (now : d.chain ≡ Some chain) (tracks : (y : Store F P H) → Q y → E (again (with_store d y) chain)) where
    abbrev began : Store F P H → Device F P H
    began s = record (event_begun d) { store = s }

    turned_wants : (s y : Store F P H) (a : Option Turn) → Lacks Q y a →
        Always (on_tracks c (began s) o.path chain y a) (λ z (x : Option Stepped). Lacks E z x)
    turned_wants s y None x = always_done (tracks y x)
    turned_wants s y (Some turn) x = always_done tt

    answered_wants : (s : Store F P H) (path : ℕ) (at : ChainState) (p : Progress) →
        Always (answered_by c (began s) path at p) (λ z (x : Option Stepped). Lacks E z x)
    answered_wants s path at (progresses.Ended e) = always_done tt
    answered_wants s path at (progresses.Need t) = always_done tt
    answered_wants s path at (progresses.Write t e) = always_done tt
    answered_wants s path at (progresses.Local act) = always_done tt

    at_wants : (s : Store F P H) (need : Option ℕ) → Q s → s.acts ≡ [] →
        Always (command_at c (began s) o.path chain need) (λ z (x : Option Stepped). Lacks E z x)
    at_wants s (Some t) x none = always_then (follow_lacks c Q k (tracks_of s) t chain t s x) (λ y a z. turned_wants s y a z)
    at_wants s None x none =
        always_try (λ ok. always_if ok (answered_wants s o.path (stepped chain None).chain (stepped chain None).progress)
        (always_done (subst (λ (l : List Act). E (again (record d { store = s; history = all_acted d.history l }) chain)) none (tracks s x))))

    by_wants : (s : Store F P H) → Q s → s.acts ≡ [] →
        Always (command_by c (began s) d.history.running d.chain) (λ z (x : Option Stepped). Lacks E z x)
    by_wants s x none =
        subst (λ (r : Option OpenEntry). Always (command_by c (began s) r d.chain) (λ z (a : Option Stepped). Lacks E z a)) (sym running)
        (subst (λ (r : Option ChainState). Always (command_by c (began s) (Some o) r) (λ z (a : Option Stepped). Lacks E z a)) (sym now)
        (always_if (has_loss o.acts) (always_done tt) (at_wants s (need_of chain) x none)))

    pub command_wants : E d → Always (command c d) (λ z (x : Option Stepped). Lacks E z x)
    unfolding N.command
    command_wants e =
        always_try (λ ok. always_if ok (event_wants d (λ z. command_by c z z.history.running z.chain) q by_wants) (always_done e))

  -- By itself

  done_wants : (d : Device F P H) (s y : Store F P H) (a : Option Did) → ((z : Store F P H) → Q z → E (with_store d z)) → Lacks Q y a →
      Always {R = R} {I = Image} (Done (with_store (record (event_begun d) { store = s }) y) a) (λ z (x : Option Did). Lacks E z x)
  done_wants d s y None worked x = always_done (worked y x)
  done_wants d s y (Some did) worked x = always_done tt

  pub background_wants : (d : Device F P H) → Q (noted_begin d.store) → ((y : Store F P H) → Q y → E (with_store d y)) →
      Always (background c d) (λ z (x : Option Did). Lacks E z x)
  unfolding V.background
  background_wants d q worked =
      event_wants d (λ z. and_then (work c z.store) (λ s did. Done (with_store z s) did)) q
      (λ s x none. always_then (work_lacks c Q k s x) (λ y a z. done_wants d s y a worked z))
