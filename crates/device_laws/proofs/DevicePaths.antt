-- What a device keeps of its paths is what the plain device of its history keeps.
use Rattle.std.proofs.Common.{◌≡◌, ◌++◌, ◌∷◌, ℕ, List, [], None, Bool, true, false, refl, sym, ap, ◌∙◌}
use Rattle.std.proofs.lemmas.Bool.{true≢false}
use Rattle.plain_defs.specs.declared.journal.Act.{Act}
use Rattle.plain_defs.specs.declared.journal.Act.TheVariants.{Loosen, Harden, CfwLost}
use Rattle.plain_defs.specs.declared.journal.Item.{Item}
use Rattle.plain_defs.specs.declared.journal.Item.TheVariants as items
use Rattle.plain_defs.specs.History.{plain_of}
use Rattle.plain_defs.specs.Journal.{Plans, replay, replay_item}
use Rattle.plain_defs.specs.Legal.{IsLegal, IsLegalFrom, is_used, used_by, is_started}
use Rattle.plain_defs.specs.Loose.{act_done}
use Rattle.plain_defs.specs.PlainState.{PlainState, fresh_paths}
use Rattle.plain_defs.specs.Program.{acts_done}
use Rattle.device_defs.specs.Device.{Device, with_store}
use Rattle.device_defs.specs.Store.{Store}
use Rattle.plain_defs.specs.Legal.{AreActs}
use Rattle.device_laws.proofs.DeviceCuts.{StandsPlainly}
use Rattle.device_laws.proofs.HistoryActs.{all_acted_state}
use Rattle.device_laws.proofs.WaitingResets.{used-append}

-- Before the first start since a power loss

module _ (plans : Plans) where
  act_paths : (s : PlainState) (act : Act) → (act_done s act).paths ≡ s.paths
  act_paths s (Loosen t) = refl
  act_paths s (Harden t) = refl
  act_paths s CfwLost = refl

  used_as_before : (path : ℕ) (earlier : List Item) (x : Item) → ((used : Bool) → used_by path used x ≡ used)
      → is_used path false earlier ≡ false → is_used path false (earlier ++ x ∷ []) ≡ false
  used_as_before path earlier x same unused = used-append path false earlier (x ∷ []) ∙ same (is_used path false earlier) ∙ unused

  -- no path used anything, so its paths are fresh
  unstarted : (s : PlainState) (earlier xs : List Item) (began : Bool) → (began ≡ false → s.paths ≡ fresh_paths)
      → (began ≡ false → (path : ℕ) → is_used path false earlier ≡ false) → IsLegalFrom plans s earlier xs
      → is_started began xs ≡ false → (replay plans s xs).paths ≡ fresh_paths
  unstarted s earlier [] began fresh unused legal not_yet = fresh not_yet
  unstarted s earlier (items.Program e ∷ xs) began fresh unused legal not_yet =
      unstarted (replay_item plans s (items.Program e)) (earlier ++ items.Program e ∷ []) xs true (λ no. absurd (true≢false no))
      (λ no path. absurd (true≢false no)) legal.1 not_yet
  unstarted s earlier (items.Reset p ∷ xs) began fresh unused legal not_yet =
      unstarted (replay_item plans s (items.Reset p)) (earlier ++ items.Reset p ∷ []) xs began
      (λ no. absurd (true≢false (sym legal.0 ∙ unused no p))) (λ no path. absurd (true≢false (sym legal.0 ∙ unused no p))) legal.1 not_yet
  unstarted s earlier (items.Fresh ∷ xs) began fresh unused legal not_yet =
      unstarted (replay_item plans s items.Fresh) (earlier ++ items.Fresh ∷ []) xs began fresh
      (λ no path. used_as_before path earlier items.Fresh (λ used. refl) (unused no path)) legal.1 not_yet
  unstarted s earlier (items.Act act ∷ xs) began fresh unused legal not_yet =
      unstarted (replay_item plans s (items.Act act)) (earlier ++ items.Act act ∷ []) xs began (λ no. act_paths s act ∙ fresh no)
      (λ no path. used_as_before path earlier (items.Act act) (λ used. refl) (unused no path)) legal.1 not_yet
  unstarted s earlier (items.Power ∷ xs) began fresh unused legal not_yet =
      unstarted (replay_item plans s items.Power) (earlier ++ items.Power ∷ []) xs false (λ no. refl)
      (λ no path. used-append path false earlier (items.Power ∷ [])) legal.1 not_yet

  pub unstarted_is_fresh : (empty : PlainState) (journal : List Item) → empty.paths ≡ fresh_paths → IsLegal plans empty journal
      → is_started false journal ≡ false → (replay plans empty journal).paths ≡ fresh_paths
  unstarted_is_fresh empty journal fresh legal not_yet =
      unstarted empty [] journal false (λ no. fresh) (λ no path. refl) legal not_yet

  pub acts_keep_paths : (s : PlainState) (acts : List Act) → (acts_done s acts).paths ≡ s.paths
  acts_keep_paths s [] = refl
  acts_keep_paths s (act ∷ acts) = acts_keep_paths (act_done s act) acts ∙ act_paths s act

module _ {F P H : Type 0} (empty : PlainState) where
  -- the device keeps of its paths what the plain device does
  abbrev pub KeepsPaths : Device F P H → Type 0
  KeepsPaths d = d.paths ≡ (plain_of d.plans empty d.history).paths

  -- behind the acts of an event
  pub acts_keep_them : (d : Device F P H) (s : Store F P H) → StandsPlainly empty d
      → AreActs (plain_of d.plans empty d.history) None s.acts → KeepsPaths d → KeepsPaths (with_store d s)
  acts_keep_them d s stands are keeps =
      keeps ∙ sym (ap (λ (x : PlainState). x.paths) (all_acted_state d.plans empty s.acts d.history stands.plain are)
      ∙ acts_keep_paths d.plans (plain_of d.plans empty d.history) s.acts)
