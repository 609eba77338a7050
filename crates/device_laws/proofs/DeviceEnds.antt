-- A device's history behind its command at hand.
use Rattle.std.proofs.Common.{◌≡◌, ◌≤◌, ◌++◌, ◌∷◌, ℕ, List, [], Some, None, refl}
use Rattle.ckd_chain.specs.declared.progress.Settled.TheVariants.{Equipment, DataCheck}
use Rattle.ckd_chain.specs.State.{ChainState}
use Rattle.ckd_chain.specs.Steps.{end_with, settled_by}
use Rattle.plain_defs.specs.declared.journal.Act.{Act}
use Rattle.plain_defs.specs.History.{OpenEntry, History, no_history, plain_of, acted}
use Rattle.plain_defs.specs.Journal.{replay}
use Rattle.plain_defs.specs.Legal.{AreActs}
use Rattle.plain_defs.specs.PlainState.{PlainState}
use Rattle.device_defs.specs.Device.{Device, all_acted, with_store}
use Rattle.device_defs.specs.Outcomes.{checks, turned}
use Rattle.device_defs.specs.Start as S
use Rattle.device_defs.specs.Start.{start, start_fault}
use Rattle.device_defs.specs.Store.{Store}
use Rattle.device_laws.proofs.DeviceCuts.{StandsPlainly, stands_by}
use Rattle.device_laws.proofs.DeviceHistory.{IsAtHand, equipment_plain, data_check_plain, start_plain, start_due}
use Rattle.device_laws.proofs.DueResets.{checked_due, all_acted_due}
use Rattle.device_laws.proofs.HistoryActs.{all_acted_plain}
use Rattle.device_laws.proofs.WaitingResets.{nothing_is_due}

pub all_acted-append : (h : History) (acts : List Act) (act : Act) → all_acted h (acts ++ act ∷ []) ≡ acted (all_acted h acts) act
all_acted-append h [] act = refl
all_acted-append h (x ∷ acts) act = all_acted-append (acted h x) acts act

module _ {F P H : Type 0} (empty : PlainState) where
  -- the acts of an event
  pub acts_stand : (d : Device F P H) (s : Store F P H) → StandsPlainly empty d
      → AreActs (plain_of d.plans empty d.history) None s.acts → StandsPlainly empty (with_store d s)
  acts_stand d s stands are = record {
    plain = all_acted_plain d.plans empty s.acts d.history stands.plain are;
    due = all_acted_due s.acts d.history stands.due;
  }

  module _ (d : Device F P H) (path : ℕ) (chain : ChainState) (stands : StandsPlainly empty d) (o : OpenEntry)
      (running : d.history.running ≡ Some o) where
    -- the command at hand ends with equipment check
    pub equipment_stands : IsAtHand d.plans (replay d.plans empty d.history.items) o chain
        → StandsPlainly empty (turned d path (checks chain Equipment))
    equipment_stands at_hand = record {
      plain = equipment_plain empty d stands.plain stands.due o running chain at_hand path;
      due = checked_due d.history stands.due (end_with chain (settled_by chain Equipment));
    }

    -- with data check
    pub data_check_stands : IsAtHand d.plans (replay d.plans empty d.history.items) o chain
        → StandsPlainly empty (turned d path (checks chain DataCheck))
    data_check_stands at_hand = record {
      plain = data_check_plain empty d stands.plain stands.due o running chain at_hand path;
      due = checked_due d.history stands.due (end_with chain (settled_by chain DataCheck));
    }

  -- a new device
  pub new_stands : (d : Device F P H) → d.history ≡ no_history → StandsPlainly empty d
  new_stands d is = stands_by empty d no_history d (record { plans = refl; history = is }) (record { legal = tt; at = tt }) nothing_is_due

  -- a path's next program starts
  pub start_stands : (d : Device F P H) → StandsPlainly empty d → (path : ℕ) → 1 ≤ path → path ≤ 4
      → d.paths ≡ (replay d.plans empty d.history.items).paths → start_fault d path ≡ None → StandsPlainly empty (start d path)
  unfolding S.start
  start_stands d stands path least most paths_are is = record {
    plain = start_plain empty d stands.plain path least most paths_are is;
    due = start_due d path stands.due is;
  }
