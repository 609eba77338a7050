-- The acts that came to a history where a program starts, a command ends, a path is reset and the power is lost.
use Rattle.std.proofs.Common.{◌≡◌, ◌∙◌, ◌+◌, ◌++◌, [], ◌∷◌, ℕ, false, List, Option, Some, None, length, refl, sym, ap}
use Rattle.std.specs.Prelude.{◌==◌, if◌then◌else◌}
use Rattle.std.proofs.lemmas.Bool.{cond_both}
use Rattle.std.proofs.lemmas.List.{append-nil}
use Rattle.ckd_types.specs.declared.channel.CommandEnd.{CommandEnd}
use Rattle.plain_defs.specs.declared.journal.Act.{Act}
use Rattle.plain_defs.specs.declared.journal.How.TheVariants.{Cut}
use Rattle.plain_defs.specs.declared.journal.Item.TheVariants as items
use Rattle.plain_defs.specs.History.{
  History,
  OpenEntry,
  checked,
  cut_by,
  emptied,
  ended,
  entry_of,
  lost_power,
  lost_power_in,
  put,
  reset_in_history,
  reset_in,
  resets_of,
  started,
}
use Rattle.plain_defs.specs.Legal.{is_started, is_used}
use Rattle.device_defs.specs.Device.{all_acted}
use Rattle.run_report.proofs.ActsCome.{acts_both, all_acts, came, checked_acts, ended_acts, no_act, same_program}
use Rattle.subsystem_defs.specs.Beside.{acts_in, acts_of_entry, acts_of_items, acts_running, behind_first, has_power, new_acts, new_items}
use Rattle.run_report.specs.Beside.{over_of}
use Rattle.run_report.proofs.Quiet.{behind_more}

-- these acts came to a history since it was the one before
pub record Brought (before h : History) (acts : List Act) : Type 0 where
  pub acts_are : acts_in h ≡ acts_in before ++ acts

pub new_are : (before h : History) (acts : List Act) → Brought before h acts → new_acts before h ≡ acts
new_are before h acts b = came before h acts b.acts_are

pub brought_none : (before h : History) (acts : List Act) → h ≡ before → acts ≡ [] → Brought before h acts
brought_none before h acts is none =
    record { acts_are = ap acts_in is ∙ sym (append-nil (acts_in before)) ∙ ap (λ (l : List Act). acts_in before ++ l) (sym none) }

pub all_brought : (before h : History) (acts : List Act) → h ≡ before → Brought before (all_acted h acts) acts
all_brought before h acts is = record { acts_are = all_acts acts h ∙ ap (λ (k : History). acts_in k ++ acts) is }

pub ended_brought : (before h : History) (acts : List Act) (e : CommandEnd) → Brought before h acts → Brought before (ended h e) acts
ended_brought before h acts e b = record { acts_are = ended_acts h e ∙ b.acts_are }

pub checked_brought : (before h : History) (acts : List Act) (e : CommandEnd) → Brought before h acts → Brought before (checked h e) acts
checked_brought before h acts e b = record { acts_are = checked_acts h e ∙ b.acts_are }

-- A reset

cut_acts : (h : History) (o : OpenEntry) (more : ℕ) → acts_in (cut_by h o more) ≡ acts_of_items h.items ++ acts_of_entry o.acts
cut_acts h o more =
    let cut = entry_of o (Cut (length o.ends + more)) in
    append-nil (acts_of_items (h.items ++ cut ∷ items.Reset o.path ∷ resets_of h.waiting))
    ∙ acts_both h.items (cut ∷ items.Reset o.path ∷ resets_of h.waiting)
    ∙ ap (λ (l : List Act). acts_of_items h.items ++ (acts_of_entry o.acts ++ l)) (no_act h.waiting)
    ∙ ap (λ (l : List Act). acts_of_items h.items ++ l) (append-nil (acts_of_entry o.acts))

item_acts : (h : History) (path : ℕ) → acts_in (record h { items = h.items ++ items.Reset path ∷ [] }) ≡ acts_in h
item_acts h path =
    ap (λ (l : List Act). l ++ acts_running h.running)
    (acts_both h.items (items.Reset path ∷ []) ∙ append-nil (acts_of_items h.items))

reset_by : (h : History) (path more : ℕ) (r : Option OpenEntry) → h.running ≡ r → acts_in (reset_in h path more r) ≡ acts_in h
reset_by h path more None is =
    cond_both (is_used path false h.items) (record h { items = h.items ++ items.Reset path ∷ [] }) h (λ (k : History). acts_in k ≡ acts_in h)
    (λ _. item_acts h path) (λ _. refl)
reset_by h path more (Some o) is =
    cond_both (o.path == path) (cut_by h o more)
    (if is_used path false h.items then record h { waiting = put path h.waiting } else h) (λ (k : History). acts_in k ≡ acts_in h)
    (λ _. cut_acts h o more ∙ same_program h (Some o) is)
    (λ _. cond_both (is_used path false h.items) (record h { waiting = put path h.waiting }) h (λ (k : History). acts_in k ≡ acts_in h)
    (λ _. refl) (λ _. refl))

pub reset_brought : (before h : History) (path more : ℕ) → Brought before h [] → Brought before (reset_in_history h path more) []
reset_brought before h path more b = record { acts_are = reset_by h path more h.running refl ∙ b.acts_are }

-- A loss of power

power_by : (h : History) (more : ℕ) (r : Option OpenEntry) → h.running ≡ r → acts_in (lost_power_in h more r) ≡ acts_in h
power_by h more (Some o) is =
    let cut = entry_of o (Cut (length o.ends + more)) in
    append-nil (acts_of_items (h.items ++ cut ∷ items.Power ∷ []))
    ∙ acts_both h.items (cut ∷ items.Power ∷ [])
    ∙ ap (λ (l : List Act). acts_of_items h.items ++ l) (append-nil (acts_of_entry o.acts))
    ∙ same_program h (Some o) is
power_by h more None is =
    cond_both (is_started false h.items) (record { items = h.items ++ items.Power ∷ []; running = None; waiting = [] }) h
    (λ (k : History). acts_in k ≡ acts_in h)
    (λ _. append-nil (acts_of_items (h.items ++ items.Power ∷ [])) ∙ acts_both h.items (items.Power ∷ []) ∙ same_program h None is) (λ _. refl)

pub power_new : (h k : History) (more : ℕ) → k ≡ lost_power h more → new_acts h k ≡ []
power_new h k more is =
    came h k [] (ap acts_in is ∙ power_by h more h.running refl ∙ sym (append-nil (acts_in h)))

-- A start

past_end : {X : Type 0} (xs ys : List X) → behind_first (length (xs ++ ys)) (xs ++ []) ≡ []
past_end [] [] = refl
past_end [] (y ∷ ys) = refl
past_end (x ∷ xs) ys = past_end xs ys

pub started_new : (h : History) (path ordinal : ℕ) → new_acts h (started h path ordinal) ≡ []
started_new h path ordinal = past_end (acts_of_items h.items) (acts_running h.running)

-- Where nothing happened

pub none_behind : {X : Type 0} (xs : List X) → behind_first (length xs) xs ≡ []
none_behind [] = refl
none_behind (x ∷ xs) = none_behind xs

pub none_new : (h k : History) → k ≡ h → new_acts h k ≡ []
none_new h k is = ap (λ (x : History). new_acts h x) is ∙ none_behind (acts_in h)

-- nothing that is told came to a past
pub record NothingCame (h k : History) : Type 0 where
  pub acts : new_acts h k ≡ []
  pub power : has_power (new_items h k) ≡ false
  pub over : (n : ℕ) → over_of n (new_items h k) ≡ None

pub came_none : (h k : History) → k ≡ h → NothingCame h k
came_none h k is =
    let nothing : new_items h k ≡ [] = ap (λ (x : History). new_items h x) is ∙ none_behind h.items in
    record { acts = none_new h k is; power = ap has_power nothing; over = λ n. ap (over_of n) nothing }

-- a volume was made empty
pub came_fresh : (h : History) → NothingCame h (emptied h)
came_fresh h =
    let fresh : new_items h (emptied h) ≡ items.Fresh ∷ [] = behind_more h.items (items.Fresh ∷ []) in
    record {
      acts = came h (emptied h) [] (ap (λ (l : List Act). l ++ acts_running h.running) (acts_both h.items (items.Fresh ∷ [])
          ∙ append-nil (acts_of_items h.items)) ∙ sym (append-nil (acts_in h)));
      power = ap has_power fresh;
      over = λ n. ap (over_of n) fresh;
    }
