-- What an event adds to a journal: a program that ended is the first item, and none is behind it.
use Rattle.std.proofs.Common.{◌≡◌, ℕ, Bool, true, false, List, [], ◌∷◌, ◌++◌, length, Option, Some, None, refl, sym, ap, subst, ◌∙◌, append_assoc}
use Rattle.std.proofs.lemmas.List.{append-nil}
use Rattle.std.specs.Prelude.{◌+◌, ◌==◌, if◌then◌else◌}
use Rattle.ckd_types.specs.declared.channel.CommandEnd.{CommandEnd}
use Rattle.plain_defs.specs.declared.journal.Act.{Act}
use Rattle.plain_defs.specs.declared.journal.How.{How}
use Rattle.plain_defs.specs.declared.journal.How.TheVariants.{Full, Cut, Checked}
use Rattle.plain_defs.specs.declared.journal.Item.{Item}
use Rattle.plain_defs.specs.declared.journal.Item.TheVariants as items
use Rattle.plain_defs.specs.History.{
  OpenEntry,
  History,
  entry_of,
  resets_of,
  closed,
  with_end,
  ended_in,
  ended,
  checked_in,
  checked,
  put,
  cut_by,
  reset_in,
  acted_in,
  acted,
  lost_power_in,
  has_used,
}
use Rattle.plain_defs.specs.Legal.{is_used, is_started}
use Rattle.device_defs.specs.declared.answers.SecondEnd.{SecondEnd}
use Rattle.device_defs.specs.declared.answers.SecondEnd.TheVariants as seconds
use Rattle.device_defs.specs.declared.answers.Stepped.{Stepped}
use Rattle.device_defs.specs.declared.answers.Stepped.TheVariants as steps
use Rattle.device_defs.specs.Command.{command}
use Rattle.device_defs.specs.Contents.{by_plain}
use Rattle.device_defs.specs.Cutting as U
use Rattle.device_defs.specs.Cutting.{half_cut, counts_one_by, reset_by, reset, power}
use Rattle.device_defs.specs.Device.{all_acted, event_begun}
use Rattle.device_defs.specs.Events.{second, lose, background}
use Rattle.device_defs.specs.Marks.{MarksDevice}
use Rattle.device_defs.specs.Owed.{waiting_count, noted_end as event_end}
use Rattle.device_defs.specs.Peek.{peek}
use Rattle.device_laws.proofs.Always.{Always, always_done, always_then}
use Rattle.device_laws.proofs.HistoryTold.{
  HasActed,
  acted_so,
  HasEnded,
  ended_so,
  checked_so,
  StepTold,
  SecondTold,
  loss_told,
  background_told,
  command_told,
  peek_told,
  second_event_told,
}
use Rattle.device_laws.proofs.KeptEvents.{always_any, always_if}
use Rattle.device_laws.proofs.LastCommands.{runs_still}
use Rattle.loss_model.specs.declared.Loss.{Loss}
use Rattle.subsystem_laws.specs.Excused.{has_fresh}
use Rattle.subsystem_laws.specs.Came.{CameTo}
use Rattle.subsystem_laws.proofs.Came.{at}
use Rattle.subsystem_laws.proofs.Excusing.{NoProgram}

-- none behind the first
abbrev pub FirstAlone : List Item → Type 0
FirstAlone [] = Unit {0}
FirstAlone (x ∷ xs) = NoProgram xs

-- nor an empty volume
pub record Shape (h k : History) : Type 0 where
  pub more : List Item
  pub grown : k.items ≡ h.items ++ more
  pub alone : FirstAlone more
  pub stays : has_fresh more ≡ false

fresh_on : (xs ys : List Item) → has_fresh xs ≡ false → has_fresh ys ≡ false → has_fresh (xs ++ ys) ≡ false
fresh_on [] ys e f = f
fresh_on (items.Program x ∷ xs) ys e f = fresh_on xs ys e f
fresh_on (items.Act act ∷ xs) ys e f = fresh_on xs ys e f
fresh_on (items.Reset path ∷ xs) ys e f = fresh_on xs ys e f
fresh_on (items.Fresh ∷ xs) ys e f = e
fresh_on (items.Power ∷ xs) ys e f = fresh_on xs ys e f

-- so none comes behind it where there was none
pub none_fresh : (h k : History) → Shape h k → has_fresh h.items ≡ false → has_fresh k.items ≡ false
none_fresh h k s none = ap has_fresh s.grown ∙ fresh_on h.items s.more none s.stays

none_alone : (xs : List Item) → NoProgram xs → FirstAlone xs
none_alone [] h = tt
none_alone (items.Program e ∷ xs) h = absurd h
none_alone (items.Act act ∷ xs) h = h
none_alone (items.Reset path ∷ xs) h = h
none_alone (items.Fresh ∷ xs) h = h
none_alone (items.Power ∷ xs) h = h

resets_none : (paths : List ℕ) → NoProgram (resets_of paths)
resets_none [] = tt
resets_none (path ∷ paths) = resets_none paths

resets_stay : (paths : List ℕ) → has_fresh (resets_of paths) ≡ false
resets_stay [] = refl
resets_stay (path ∷ paths) = resets_stay paths

shape_none : (h k : History) → k.items ≡ h.items → Shape h k
shape_none h k e = record { more = []; grown = e ∙ sym (append-nil h.items); alone = tt; stays = refl }

shape_if : (h : History) (b : Bool) (x y : History) → Shape h x → Shape h y → Shape h (if b then x else y)
shape_if h true x y f g = f
shape_if h false x y f g = g

-- Acts

record Idle (h k : History) : Type 0 where
  running : k.running ≡ None
  more : List Item
  grown : k.items ≡ h.items ++ more
  none : NoProgram more
  stays : has_fresh more ≡ false

idle_acts : (acts : List Act) (h : History) → h.running ≡ None → Idle h (all_acted h acts)
idle_acts [] h none = record { running = none; more = []; grown = sym (append-nil h.items); none = tt; stays = refl }
idle_acts (act ∷ acts) h none =
    let first : acted h act ≡ record h { items = h.items ++ items.Act act ∷ [] } = ap (acted_in h act) none in
    let rest = idle_acts acts (acted h act) (ap (λ (k : History). k.running) first ∙ none) in
    record {
      running = rest.running;
      more = items.Act act ∷ rest.more;
      grown = rest.grown ∙ ap (λ (k : History). k.items ++ rest.more) first ∙ append_assoc h.items (items.Act act ∷ []) rest.more;
      none = rest.none;
      stays = rest.stays;
    }

acts_by : (acts : List Act) (h : History) (r : Option OpenEntry) → h.running ≡ r → Shape h (all_acted h acts)
acts_by acts h (Some o) is = shape_none h (all_acted h acts) (runs_still acts h o is).items
acts_by acts h None is = let i = idle_acts acts h is in record { more = i.more; grown = i.grown; alone = none_alone i.more i.none; stays = i.stays }

acted_shape : (h k : History) → HasActed h k → Shape h k
acted_shape h k (acted_so acts) = acts_by acts h h.running refl

-- Ends

closed_shape : (h k : History) (o : OpenEntry) (how : How) → k.items ≡ h.items → Shape h (closed k o how)
closed_shape h k o how e = record {
  more = entry_of o how ∷ resets_of k.waiting;
  grown = ap (λ (l : List Item). l ++ entry_of o how ∷ resets_of k.waiting) e;
  alone = resets_none k.waiting;
  stays = resets_stay k.waiting;
}

ended_by : (acts : List Act) (h : History) (e : CommandEnd) (r : Option OpenEntry) → h.running ≡ r → Shape h (ended (all_acted h acts) e)
ended_by acts h e (Some o) is =
    let k = all_acted h acts in
    let s = runs_still acts h o is in
    subst (λ (r : Option OpenEntry). Shape h (ended_in k e r)) (sym s.running)
    (shape_if h e.over (closed k (with_end s.entry e) Full) (record k { running = Some (with_end s.entry e) })
    (closed_shape h k (with_end s.entry e) Full s.items) (shape_none h (record k { running = Some (with_end s.entry e) }) s.items))
ended_by acts h e None is =
    let k = all_acted h acts in
    let i = idle_acts acts h is in
    subst (λ (r : Option OpenEntry). Shape h (ended_in k e r)) (sym i.running)
    (record { more = i.more; grown = i.grown; alone = none_alone i.more i.none; stays = i.stays })

checked_by : (acts : List Act) (h : History) (e : CommandEnd) (r : Option OpenEntry) → h.running ≡ r → Shape h (checked (all_acted h acts) e)
checked_by acts h e (Some o) is =
    let k = all_acted h acts in
    let s = runs_still acts h o is in
    subst (λ (r : Option OpenEntry). Shape h (checked_in k e r)) (sym s.running) (closed_shape h k (with_end s.entry e) Checked s.items)
checked_by acts h e None is =
    let k = all_acted h acts in
    let i = idle_acts acts h is in
    subst (λ (r : Option OpenEntry). Shape h (checked_in k e r)) (sym i.running)
    (record { more = i.more; grown = i.grown; alone = none_alone i.more i.none; stays = i.stays })

end_shape : (h : History) (e : CommandEnd) (k : History) → HasEnded h e k → Shape h k
end_shape h e k (ended_so acts) = ended_by acts h e h.running refl
end_shape h e k (checked_so acts) = checked_by acts h e h.running refl

step_shape : (h k : History) (a : Option Stepped) → StepTold h k a → Shape h k
step_shape h k (Some (steps.Ended e)) t = end_shape h e k t
step_shape h k (Some (steps.Half q)) t = acted_shape h k t
step_shape h k None t = acted_shape h k t

second_end_shape : (h k : History) (a : SecondEnd) → SecondTold h k a → Shape h k
second_end_shape h k (seconds.Ended e) t = end_shape h e k t
second_end_shape h k (seconds.Finished q) t = acted_shape h k t
second_end_shape h k (seconds.Unwritten q) t = acted_shape h k t

-- Cuts

reset_shapes : (h : History) (path more : ℕ) (r : Option OpenEntry) → Shape h (reset_in h path more r)
reset_shapes h path more (Some o) =
    shape_if h (o.path == path) (cut_by h o more) _
    (record {
      more = entry_of o (Cut (length o.ends + more)) ∷ items.Reset o.path ∷ resets_of h.waiting;
      grown = refl;
      alone = resets_none h.waiting;
      stays = resets_stay h.waiting;
    })
    (shape_if h (is_used path false h.items) (record h { waiting = put path h.waiting }) h (shape_none h (record h { waiting = put path h.waiting }) refl)
    (shape_none h h refl))
reset_shapes h path more None =
    shape_if h (is_used path false h.items) (record h { items = h.items ++ items.Reset path ∷ [] }) h
    (record { more = items.Reset path ∷ []; grown = refl; alone = tt; stays = refl }) (shape_none h h refl)

power_shapes : (h : History) (more : ℕ) (r : Option OpenEntry) → Shape h (lost_power_in h more r)
power_shapes h more (Some o) = record { more = entry_of o (Cut (length o.ends + more)) ∷ items.Power ∷ []; grown = refl; alone = tt; stays = refl }
power_shapes h more None =
    shape_if h (is_started false h.items) (record { items = h.items ++ items.Power ∷ []; running = None; waiting = [] }) h
    (record { more = items.Power ∷ []; grown = refl; alone = tt; stays = refl }) (shape_none h h refl)

-- Events

module _ (d : MarksDevice) where
  pub command_shape : (t : CameTo (command by_plain d)) → Shape d.history t.state.history
  command_shape t = step_shape d.history t.state.history t.answer (at (command_told by_plain d) t)

  pub second_shape : (t : CameTo (second by_plain d)) → Shape d.history t.state.history
  second_shape t = second_end_shape d.history t.state.history t.answer (at (second_event_told by_plain d) t)

  pub background_shape : (t : CameTo (background by_plain d)) → Shape d.history t.state.history
  background_shape t = acted_shape d.history _ (at (background_told by_plain d) t)

  pub peek_shape : (n : ℕ) (t : CameTo (peek by_plain d n)) → Shape d.history t.state.history
  peek_shape n t = acted_shape d.history _ (at (peek_told by_plain d n) t)

  pub lose_shape : (loss : Loss) (t : CameTo (lose by_plain d loss)) → Shape d.history t.state.history
  lose_shape loss t = acted_shape d.history _ (at (loss_told by_plain d loss) t)

  abbrev Shaped : MarksDevice → Type 0
  Shaped y = Shape d.history y.history × (y.plans ≡ d.plans)

  reset_shaped : (path : ℕ) (r : Option OpenEntry) → Always (reset_by by_plain d path r) (λ y _. Shaped y)
  reset_shaped path (Some o) =
      always_if (o.path == path)
      (always_then (always_any (half_cut by_plain d.store d.store.half))
      (λ z _ _. always_done (reset_shapes d.history path (counts_one_by d.store.half) d.history.running, refl)))
      (always_done (reset_shapes d.history path 0 d.history.running, refl))
  reset_shaped path None =
      always_if (has_used d.history path) (always_done (reset_shapes d.history path 0 d.history.running, refl))
      (always_done (shape_none d.history d.history refl, refl))

  pub reset_shape : (path : ℕ) (t : CameTo (reset by_plain d path)) → Shaped t.state
  unfolding U.reset
  reset_shape path t = at (reset_shaped path d.history.running) t

  power_shaped : Always (power by_plain d) (λ y _. Shaped y)
  unfolding U.power
  power_shaped =
      always_then
      (always_then (always_any (half_cut by_plain (event_begun d).store (event_begun d).store.half))
      (λ z _ _. always_done (power_shapes d.history (counts_one_by d.store.half) d.history.running, refl)))
      (λ y a g. always_then (always_any (event_end by_plain (waiting_count by_plain d.store) y.store)) (λ z _ _. always_done g))

  pub power_shape : (t : CameTo (power by_plain d)) → Shaped t.state
  power_shape t = at power_shaped t
