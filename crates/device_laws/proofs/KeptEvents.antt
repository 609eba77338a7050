-- The events of a turn go on with a device's plans and its journal: no reset, no empty volume, no cut program comes in between.
use Rattle.std.proofs.Common.{◌≡◌, ℕ, Bool, true, false, Option, Some, ◌∙◌}
use Rattle.std.specs.Prelude.{if◌then◌else◌}
use Rattle.ckd_chain.specs.State.{ChainState}
use Rattle.loss_model.specs.declared.Loss.{Loss}
use Rattle.plain_defs.specs.History.{History, ended}
use Rattle.plain_defs.specs.Journal.{Plans}
use Rattle.track_image.specs.Image.{Image}
use Rattle.device_outside.specs.Interaction.{Interaction, Done, Try, Ask, Read, Write, Tell, and_then}
use Rattle.device_defs.specs.declared.answers.Came.{Came}
use Rattle.device_defs.specs.declared.answers.Came.TheVariants.{Ends, Checks, HalfOpen}
use Rattle.device_defs.specs.declared.answers.Did.{Did}
use Rattle.device_defs.specs.Background.{work}
use Rattle.device_defs.specs.Command.{command}
use Rattle.device_defs.specs.Contents.{Contents}
use Rattle.device_defs.specs.Device.{Device, with_store, event_begun, event}
use Rattle.device_defs.specs.Events as E
use Rattle.device_defs.specs.Events.{losing, second_turn, command_ended, second_ended, second_of, second, background, lose}
use Rattle.device_defs.specs.Outcomes.{sense_kept, program_over, turned_by}
use Rattle.device_defs.specs.Owed.{noted_begin, hear, waiting_count, noted_end as event_end}
use Rattle.device_defs.specs.Peek.{peek}
use Rattle.device_defs.specs.Store.{Store}
use Rattle.device_laws.proofs.Always as A
use Rattle.device_laws.proofs.Always.{Behind, Always, always_done, always_try, always_then}
use Rattle.device_laws.proofs.walks.Within.{always, within_always}
use Rattle.device_laws.proofs.walks.Moves.{Kind, Shut, Half, Losing}
use Rattle.device_laws.proofs.walks.Events.{
  IsCarried,
  made_carries,
  reaches_any,
  carries,
  command_leaves,
  second_leaves,
  background_leaves,
  lose_leaves,
  peek_leaves,
}
use Rattle.device_laws.proofs.KeptHistories.{Extends, extends_on, ended_extends, checked_extends, acts_extend, data_checks, acts_check}

any_behind : {R I S A : Type 0} (i : Interaction R I S A) → Behind i (λ s a. Unit {0})
unfolding A.Behind
any_behind (Done s a) = tt
any_behind (Try k) = λ ok. any_behind (k ok)
any_behind (Ask call k) = λ a. any_behind (k a)
any_behind (Read side t k) = λ got. any_behind (k got)
any_behind (Write side t r k) = λ ok. any_behind (k ok)
any_behind (Tell m k) = λ r. any_behind (k r)

pub always_any : {R I S A : Type 0} (i : Interaction R I S A) → Always i (λ s a. Unit {0})
always_any i = record { holds = any_behind i }

pub always_if : {R I S A : Type 0} {q : S → A → Type 0} (b : Bool) {i j : Interaction R I S A} → Always i q → Always j q → Always (if b then i else j) q
always_if true f g = f
always_if false f g = g

module _ {F P H : Type 0} (programs : Plans) (past : History) where
  -- a device that goes on from these plans and this history
  pub record Continues (e : Device F P H) : Type 0 where
    pub plans : e.plans ≡ programs
    pub history : Extends past e.history

  over_continues : (d : Device F P H) (k : History) (chain : ChainState) (b : Bool) → d.plans ≡ programs → Extends past k →
      Continues (if b then program_over d k else record d { chain = Some chain; history = k })
  over_continues d k chain true same f = record { plans = same; history = f }
  over_continues d k chain false same f = record { plans = same; history = f }

  pub turned_continues : (d : Device F P H) (path : ℕ) (chain : ChainState) (came : Came) → Continues d → Continues (turned_by d path chain came)
  turned_continues d path chain (Ends e) f =
      over_continues (sense_kept d path e) (ended d.history e) chain e.over f.plans
      (extends_on past d.history (ended d.history e) f.history (ended_extends d.history e d.history.running))
  turned_continues d path chain (Checks e) f = record {
    plans = f.plans;
    history = extends_on past d.history _ f.history (checked_extends d.history e d.history.running);
  }
  turned_continues d path chain (HalfOpen t) f = record { plans = f.plans; history = f.history }

  pub store_continues : (d : Device F P H) (s : Store F P H) → Continues d → Continues (with_store d s)
  store_continues d s f = record { plans = f.plans; history = extends_on past d.history _ f.history (acts_extend d.history s.acts) }

module _ {F P H R : Type 0} (c : Contents F P H R) (programs : Plans) (past : History) where
  abbrev Goes : {A : Type 0} → Interaction R Image (Device F P H) A → Type 0
  Goes i = Always i (λ e _. Continues programs past e)

  continues : (kind : Kind) (s : Store F P H) → IsCarried always kind c tt s (λ (e : Device F P H). Continues programs past e)
  continues kind s = record {
    stores = λ n e z m f. store_continues programs past e z f;
    turns = λ e path turn f. turned_continues programs past e path turn.chain turn.came f;
    leads = λ e paths f. record { plans = f.plans; history = f.history };
    tries = λ e chain f. record { plans = f.plans; history = f.history };
    rests = λ e z f. record { plans = f.plans; history = f.history };
  }

  pub command_goes : (d : Device F P H) → Continues programs past d → Goes (command c d)
  command_goes d f =
      within_always (command_leaves always c tt d (reaches_any (λ t. tt)) (λ chain t is e. tt) (λ n e. Continues programs past e) f
      (λ n e m. made_carries (continues Shut (noted_begin d.store)) (record { plans = f.plans; history = f.history }) m))

  pub second_goes : (d : Device F P H) → Continues programs past d → Goes (second c d)
  second_goes d f = within_always (carries always c tt d (continues Half (noted_begin d.store)) f (second_leaves always c tt d Half (λ e. absurd (cc))))

  pub background_goes : (d : Device F P H) → Continues programs past d → Goes (background c d)
  background_goes d f =
      within_always (carries always c tt d (continues Shut (noted_begin d.store)) f (background_leaves always c tt d (λ t ts is. tt)))

  pub lose_goes : (d : Device F P H) (loss : Loss) → Continues programs past d → Goes (lose c d loss)
  lose_goes d loss f = within_always (carries always c tt d (continues (Losing loss) (noted_begin d.store)) f (lose_leaves always c tt d loss))

  pub peek_goes : (d : Device F P H) (t : ℕ) → Continues programs past d → Goes (peek c d t)
  peek_goes d t f = within_always (carries always c tt d (continues Half (noted_begin d.store)) f (peek_leaves always c tt d Half t tt))

-- Events in which no command ends add no data check

module _ {F P H R : Type 0} (c : Contents F P H R) (n : ℕ) where
  abbrev Holds : {A : Type 0} → Interaction R Image (Device F P H) A → Type 0
  Holds i = Always i (λ e _. data_checks e.history ≡ n)

  event_checks : {A : Type 0} (d : Device F P H) (body : Device F P H → Interaction R Image (Device F P H) A) → data_checks d.history ≡ n →
      ((y : Device F P H) → data_checks y.history ≡ n → Holds (body y)) → Holds (event c d body)
  event_checks d body f x =
      always_then
      (always_then (always_any (hear c 960 (event_begun d).store)) (λ s _ _. x (record (event_begun d) { store = s }) f))
      (λ y a g. always_then (always_any (event_end c (waiting_count c d.store) y.store)) (λ z _ _. always_done g))

  pub background_holds : (d : Device F P H) → data_checks d.history ≡ n → Holds (background c d)
  unfolding E.background
  background_holds d f =
      event_checks d (λ z. and_then (work c z.store) (λ s did. Done (with_store z s) did)) f
      (λ y g. always_then (always_any (work c y.store)) (λ s (did : Option Did) _. always_done (acts_check y.history s.acts ∙ g)))

  pub lose_holds : (d : Device F P H) (loss : Loss) → data_checks d.history ≡ n → Holds (lose c d loss)
  unfolding E.lose
  lose_holds d loss f =
      event_checks d (λ z. and_then (losing c z.store loss) (λ s _. Done (with_store z s) tt)) f
      (λ y g. always_then (always_any (losing c y.store loss)) (λ s _ _. always_done (acts_check y.history s.acts ∙ g)))
