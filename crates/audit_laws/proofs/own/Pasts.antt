-- What an audit reads of a device's past: behind which end of a command an act stood isn't read, only what the plain device then is.
use Rattle.std.proofs.Common.{◌≡◌, ◌+◌, ◌==◌, ◌++◌, ℕ, zero, suc, Bool, true, false, List, [], ◌∷◌, map, length, Option, Some, None, refl, arith, sym, ap, ◌∙◌, if◌then◌else◌}
use Rattle.std.specs.Prelude.{IfSome, option_map}
use Rattle.std.proofs.lemmas.List.{map-append}
use Rattle.ckd_types.specs.declared.channel.Ccw.{Ccw}
use Rattle.ckd_types.specs.declared.channel.CommandEnd.{CommandEnd}
use Rattle.plain_defs.specs.declared.journal.Act.{Act}
use Rattle.plain_defs.specs.declared.journal.Acted.{Acted}
use Rattle.plain_defs.specs.declared.journal.How.{How}
use Rattle.plain_defs.specs.declared.journal.How.TheVariants.{Full, Cut, Checked}
use Rattle.plain_defs.specs.declared.journal.Item.{Item}
use Rattle.plain_defs.specs.declared.journal.Item.TheVariants as items
use Rattle.plain_defs.specs.History.{History, OpenEntry, acted, checked, closed, cut_by, emptied, ended, entry_of, lost_power, open_part, put, reset_in_history, resets_of, started, with_end}
use Rattle.plain_defs.specs.Journal.{Plans, last_sense, program_of, replay, replay_item}
use Rattle.plain_defs.specs.Legal.{AreInOrder, is_started, is_used, started_by, used_by}
use Rattle.plain_defs.specs.Loose.{act_done, power_off}
use Rattle.plain_defs.specs.PlainState.{PlainState, reset_path, with_sense}
use Rattle.plain_defs.specs.Program.{Part, part_of, command_run, with_act}
use Rattle.plain_defs.proofs.JournalLaws.{replay-append}
use Rattle.plain_defs.proofs.PartLemmas.{acted_beside, first_next, part_counts, part_more}
use Rattle.device_laws.proofs.HistoryEnds.{one_longer}
use Rattle.device_laws.proofs.OpenProgram.{no_acts, order_more, order_on, part_before, part_here}

-- but for what was told of edits
abbrev pub untold : Part → Part
untold p = record p { told = [] }

-- the program that runs, and where it is
pub record Going : Type 0 where
  pub path : ℕ
  pub ordinal : ℕ
  pub ends : List CommandEnd
  pub part : Part

abbrev pub going_of : Plans → PlainState → OpenEntry → Going
going_of plans state o = record { path = o.path; ordinal = o.ordinal; ends = o.ends; part = untold (open_part plans state o) }

-- an item but for the acts within a program
abbrev pub bare : Item → Item
bare (items.Program e) = items.Program (record e { acts = [] })
bare (items.Reset path) = items.Reset path
bare items.Fresh = items.Fresh
bare (items.Act act) = items.Act act
bare items.Power = items.Power

pub record Past : Type 0 where
  pub state : PlainState
  pub items : List Item
  pub running : Option Going
  pub waiting : List ℕ

abbrev pub past_of : Plans → PlainState → History → Past
past_of plans empty h = record {
  state = replay plans empty h.items;
  items = map bare h.items;
  running = option_map (going_of plans (replay plans empty h.items)) h.running;
  waiting = h.waiting;
}

-- no act stands behind more ends than came
abbrev pub IsTidyOpen : OpenEntry → Type 0
IsTidyOpen o = AreInOrder 0 (length o.ends + 1) o.acts

abbrev pub IsTidy : History → Type 0
IsTidy h = IfSome h.running IsTidyOpen

-- a change of a history of which the past behind it is known by the past before it
pub record IsRead (f : History → History) (go : Plans → Past → Past) : Type 0 where
  pub tidy : (h : History) → IsTidy h → IsTidy (f h)
  pub past : (plans : Plans) (empty : PlainState) (h : History) → IsTidy h → past_of plans empty (f h) ≡ go plans (past_of plans empty h)

-- Parts

abbrev pub act_by : Act → Part → Option ℕ → Part
act_by act p (Some i) = with_act p act
act_by act p None = p

-- an act, while the program runs
abbrev pub act_now : Act → Part → Part
act_now act p = act_by act p p.next

module _ (path : ℕ) (ccws : List Ccw) (state : PlainState) (acts : List Acted) where
  abbrev at : ℕ → Part
  at n = part_of state path ccws acts n

  -- a program that is over has no act any more
  over_still : (act : Act) (n : ℕ) → (part_of state path ccws acts n).next ≡ None →
      part_of state path ccws (acts ++ record { after = n; act = act } ∷ []) n ≡ part_of state path ccws acts n
  over_still act zero none = absurd (let never : Some 0 ≡ None = sym (first_next path ccws acts state) ∙ none in cc)
  over_still act (suc k) none = grind (arith, first_next, acted_beside, part_more, part_before)

  act_untold : (act : Act) (p : Part) (next : Option ℕ) → untold (act_by act p next) ≡ untold (act_by act (untold p) next)
  act_untold act p next = grind arith

  act_at : (act : Act) (n : ℕ) (next : Option ℕ) → (part_of state path ccws acts n).next ≡ next →
      part_of state path ccws (acts ++ record { after = n; act = act } ∷ []) n ≡ act_by act (part_of state path ccws acts n) next
  act_at act n next is = grind (arith, over_still, part_here, part_counts)

  pub act_more : (act : Act) (n : ℕ) → untold (part_of state path ccws (acts ++ record { after = n; act = act } ∷ []) n)
      ≡ untold (act_now act (untold (part_of state path ccws acts n)))
  act_more act n = ap untold (act_at act n (at n).next refl) ∙ act_untold act (at n) (at n).next

  pub step_more : (n : ℕ) → AreInOrder 0 (n + 1) acts → untold (part_of state path ccws acts (suc n))
      ≡ untold (command_run path ccws (untold (part_of state path ccws acts n)))
  step_more n order = grind (arith, acted_beside, part_more, part_counts, no_acts)

-- the state behind the next command
abbrev pub next_part : Plans → Going → Part
next_part plans g = untold (command_run g.path (program_of plans g.path g.ordinal) g.part)

-- one command more than ended, or none
abbrev pub IsFew : ℕ → Type 0
IsFew zero = Unit {0}
IsFew (suc zero) = Unit {0}
IsFew (suc (suc more)) = ⊥

abbrev pub cut_to : Plans → Going → ℕ → PlainState
cut_to plans g zero = g.part.state
cut_to plans g (suc more) = (next_part plans g).state

module _ (plans : Plans) (state : PlainState) (o : OpenEntry) (tidy : IsTidyOpen o) where
  abbrev words : List Ccw
  words = program_of plans o.path o.ordinal

  part_next : untold (part_of state o.path (program_of plans o.path o.ordinal) o.acts (suc (length o.ends))) ≡ next_part plans (going_of plans state o)
  part_next = step_more o.path words state o.acts (length o.ends) tidy

  part_ended : (e : CommandEnd) →
      untold (part_of state o.path (program_of plans o.path o.ordinal) o.acts (length (o.ends ++ e ∷ []))) ≡ next_part plans (going_of plans state o)
  part_ended e = ap (λ (k : ℕ). untold (part_of state o.path words o.acts k)) (one_longer o.ends e) ∙ part_next

-- What each change makes of a past

-- Behind more items, where no program runs

abbrev pub behind_items : Plans → Past → PlainState → Item → List Item → Past
behind_items plans x state item later = record {
  state = replay plans state later;
  items = x.items ++ item ∷ map bare later;
  running = None;
  waiting = [];
}

items_more : (plans : Plans) (empty : PlainState) (h : History) (item : Item) (later : List Item) →
    past_of plans empty (record { items = h.items ++ item ∷ later; running = None; waiting = [] })
    ≡ behind_items plans (past_of plans empty h) (replay_item plans (replay plans empty h.items) item) (bare item) later
items_more plans empty h item later = grind (arith, replay-append, map-append)

-- the program that ran is over
abbrev pub entry_past : Going → How → List CommandEnd → Item
entry_past g how ends = items.Program (record { path = g.path; ordinal = g.ordinal; how = how; ends = ends; acts = [] })

module _ (plans : Plans) (empty : PlainState) (h : History) (o : OpenEntry) (tidy : IsTidyOpen o) where
  abbrev s : PlainState
  s = replay plans empty h.items

  full_state : (e : CommandEnd) → replay_item plans (replay plans empty h.items) (entry_of (with_end o e) Full)
      ≡ (next_part plans (going_of plans (replay plans empty h.items) o)).state
  full_state e = ap (λ (p : Part). p.state) (part_ended plans s o tidy e)

  check_state : (e : CommandEnd) → replay_item plans (replay plans empty h.items) (entry_of (with_end o e) Checked)
      ≡ record (open_part plans (replay plans empty h.items) o).state {
        paths = with_sense (open_part plans (replay plans empty h.items) o).state.paths o.path (last_sense (o.ends ++ e ∷ []));
      }
  check_state e = grind (arith, one_longer)

  -- of a program that is cut as many commands took effect as ended, or one more
  cut_state : (more : ℕ) → IsFew more → replay_item plans (replay plans empty h.items) (entry_of o (Cut (length o.ends + more)))
      ≡ cut_to plans (going_of plans (replay plans empty h.items) o) more
  cut_state zero few = grind arith
  cut_state (suc zero) few = grind (arith, part_next plans s o tidy, tidy)
  cut_state (suc (suc more)) few = absurd few

abbrev pub over_past : Plans → Past → Going → How → List CommandEnd → PlainState → Past
over_past plans x g how ends state = behind_items plans x state (entry_past g how ends) (resets_of x.waiting)

-- An act

abbrev acted_by : Act → Past → Option Going → Past
acted_by act x (Some g) = record x { running = Some (record g { part = untold (act_now act g.part) }) }
acted_by act x None = record { state = act_done x.state act; items = x.items ++ items.Act act ∷ []; running = None; waiting = x.waiting }

abbrev pub acted_past : Act → Plans → Past → Past
acted_past act plans x = acted_by act x x.running

abbrev with_parts : List Item → Option OpenEntry → List ℕ → History
with_parts l r w = record { items = l; running = r; waiting = w }

act_tidy : (act : Act) (l : List Item) (r : Option OpenEntry) (w : List ℕ) → IsTidy (with_parts l r w) → IsTidy (acted (with_parts l r w) act)
act_tidy act l r w tidy = grind (arith, order_more)

act_past : (act : Act) (plans : Plans) (empty : PlainState) (l : List Item) (r : Option OpenEntry) (w : List ℕ) →
    past_of plans empty (acted (with_parts l r w) act) ≡ acted_past act plans (past_of plans empty (with_parts l r w))
act_past act plans empty l None w = ap (λ (x : Past). record x { waiting = w }) (items_more plans empty (with_parts l None w) (items.Act act) [])
act_past act plans empty l (Some o) w = grind (arith, act_more)

pub act_is_read : (act : Act) → IsRead (λ h. acted h act) (acted_past act)
act_is_read act = record {
  tidy = λ h tidy. act_tidy act h.items h.running h.waiting tidy;
  past = λ plans empty h tidy. act_past act plans empty h.items h.running h.waiting;
}

-- A command's end

abbrev pub goes_on : Past → Going → CommandEnd → Part → Past
goes_on x g e p = record x { running = Some (record g { ends = g.ends ++ e ∷ []; part = p }) }

abbrev pub ended_by : CommandEnd → Plans → Past → Option Going → Past
ended_by e plans x (Some g) =
    if e.over then over_past plans x g Full (g.ends ++ e ∷ []) (next_part plans g).state else goes_on x g e (next_part plans g)
ended_by e plans x None = x

abbrev pub ended_past : CommandEnd → Plans → Past → Past
ended_past e plans x = ended_by e plans x x.running

module _ (e : CommandEnd) (l : List Item) (o : OpenEntry) (w : List ℕ) (tidy : IsTidyOpen o) where
  abbrev h : History
  h = with_parts l (Some o) w

  order_ended : IsTidyOpen (with_end o e)
  order_ended = let much = one_longer o.ends e in order_on 0 (length o.ends + 1) (length (o.ends ++ e ∷ []) + 1) o.acts tidy (omega (arith, much))

  module _ (plans : Plans) (empty : PlainState) where
    closed_past : past_of plans empty (closed (with_parts l (Some o) w) (with_end o e) Full)
        ≡ over_past plans (past_of plans empty (with_parts l (Some o) w)) (going_of plans (replay plans empty l) o) Full (o.ends ++ e ∷ [])
        (next_part plans (going_of plans (replay plans empty l) o)).state
    closed_past =
        items_more plans empty h (entry_of (with_end o e) Full) (resets_of w)
        ∙ ap (λ (s : PlainState). behind_items plans (past_of plans empty h) s (bare (entry_of (with_end o e) Full)) (resets_of w))
        (full_state plans empty h o tidy e)

    ended_is : (over : Bool) → past_of plans empty (if over then closed (with_parts l (Some o) w) (with_end o e) Full
        else record (with_parts l (Some o) w) { running = Some (with_end o e) })
        ≡ (if over then over_past plans (past_of plans empty (with_parts l (Some o) w)) (going_of plans (replay plans empty l) o) Full (o.ends ++ e ∷ [])
        (next_part plans (going_of plans (replay plans empty l) o)).state
        else goes_on (past_of plans empty (with_parts l (Some o) w)) (going_of plans (replay plans empty l) o) e
        (next_part plans (going_of plans (replay plans empty l) o)))
    ended_is over = grind (arith, closed_past, part_ended)

end_tidy : (e : CommandEnd) (l : List Item) (r : Option OpenEntry) (w : List ℕ) → IsTidy (with_parts l r w) → IsTidy (ended (with_parts l r w) e)
end_tidy e l r w tidy = grind (arith, order_ended)

end_past : (e : CommandEnd) (plans : Plans) (empty : PlainState) (l : List Item) (r : Option OpenEntry) (w : List ℕ) → IsTidy (with_parts l r w) →
    past_of plans empty (ended (with_parts l r w) e) ≡ ended_past e plans (past_of plans empty (with_parts l r w))
end_past e plans empty l r w tidy = grind (arith, ended_is)

pub end_is_read : (e : CommandEnd) → IsRead (λ h. ended h e) (ended_past e)
end_is_read e = record {
  tidy = λ h tidy. end_tidy e h.items h.running h.waiting tidy;
  past = λ plans empty h tidy. end_past e plans empty h.items h.running h.waiting tidy;
}

-- One with equipment check or data check

abbrev checked_to : Going → List CommandEnd → PlainState
checked_to g ends = record g.part.state { paths = with_sense g.part.state.paths g.path (last_sense ends) }

abbrev checked_by : CommandEnd → Plans → Past → Option Going → Past
checked_by e plans x (Some g) = over_past plans x g Checked (g.ends ++ e ∷ []) (checked_to g (g.ends ++ e ∷ []))
checked_by e plans x None = x

abbrev pub checked_past : CommandEnd → Plans → Past → Past
checked_past e plans x = checked_by e plans x x.running

check_tidy : (e : CommandEnd) (l : List Item) (r : Option OpenEntry) (w : List ℕ) → IsTidy (checked (with_parts l r w) e)
check_tidy e l r w = grind arith

check_past : (e : CommandEnd) (plans : Plans) (empty : PlainState) (l : List Item) (r : Option OpenEntry) (w : List ℕ) → IsTidy (with_parts l r w) →
    past_of plans empty (checked (with_parts l r w) e) ≡ checked_past e plans (past_of plans empty (with_parts l r w))
check_past e plans empty l None w tidy = refl
check_past e plans empty l (Some o) w tidy =
    let h = with_parts l (Some o) w in
    items_more plans empty h (entry_of (with_end o e) Checked) (resets_of w)
    ∙ ap (λ (s : PlainState). behind_items plans (past_of plans empty h) s (bare (entry_of (with_end o e) Checked)) (resets_of w))
    (check_state plans empty h o tidy e)

pub check_is_read : (e : CommandEnd) → IsRead (λ h. checked h e) (checked_past e)
check_is_read e = record {
  tidy = λ h tidy. check_tidy e h.items h.running h.waiting;
  past = λ plans empty h tidy. check_past e plans empty h.items h.running h.waiting tidy;
}

-- Whether a path was used, and whether any program was started

used_bare : (path : ℕ) (l : List Item) (used : Bool) → is_used path used l ≡ is_used path used (map bare l)
used_bare path [] used = refl
used_bare path (item ∷ l) used = grind (arith, used_bare path l (used_by path used item))

started_bare : (l : List Item) (started : Bool) → is_started started l ≡ is_started started (map bare l)
started_bare [] started = refl
started_bare (item ∷ l) started = grind (arith, started_bare l (started_by started item))

-- A reset

abbrev cut_past : ℕ → Plans → Past → Going → Past
cut_past more plans x g =
    behind_items plans x (cut_to plans g more) (entry_past g (Cut (length g.ends + more)) g.ends) (items.Reset g.path ∷ resets_of x.waiting)

abbrev reset_by : ℕ → ℕ → Plans → Past → Option Going → Past
reset_by path more plans x (Some g) =
    if g.path == path then cut_past more plans x g
    else if is_used path false x.items then record x { waiting = put path x.waiting } else x
reset_by path more plans x None =
    if is_used path false x.items
    then record x { state = record x.state { paths = reset_path x.state.paths path }; items = x.items ++ items.Reset path ∷ [] } else x

abbrev pub reset_past : ℕ → ℕ → Plans → Past → Past
reset_past path more plans x = reset_by path more plans x x.running

module _ (path more : ℕ) (few : IsFew more) (l : List Item) (w : List ℕ) where
  module _ (o : OpenEntry) (tidy : IsTidyOpen o) where
    module _ (plans : Plans) (empty : PlainState) where
      abbrev before : Past
      before = past_of plans empty (with_parts l (Some o) w)

      abbrev g : Going
      g = going_of plans (replay plans empty l) o

      cuts_past : past_of plans empty (cut_by (with_parts l (Some o) w) o more)
          ≡ cut_past more plans (past_of plans empty (with_parts l (Some o) w)) (going_of plans (replay plans empty l) o)
      cuts_past =
          items_more plans empty (with_parts l (Some o) w) (entry_of o (Cut (length o.ends + more))) (items.Reset o.path ∷ resets_of w)
          ∙ ap (λ (s : PlainState). behind_items plans before s (entry_past g (Cut (length o.ends + more)) o.ends) (items.Reset o.path ∷ resets_of w))
          (cut_state plans empty (with_parts l (Some o) w) o tidy more few)

  idle_past : (plans : Plans) (empty : PlainState) (used : Bool) →
      past_of plans empty (if used then record (with_parts l None w) { items = l ++ items.Reset path ∷ [] } else with_parts l None w)
      ≡ (if used then record {
        state = record (replay plans empty l) { paths = reset_path (replay plans empty l).paths path };
        items = map bare l ++ items.Reset path ∷ [];
        running = None;
        waiting = w;
      } else past_of plans empty (with_parts l None w))
  idle_past plans empty true = ap (λ (x : Past). record x { waiting = w }) (items_more plans empty (with_parts l None w) (items.Reset path) [])
  idle_past plans empty false = refl

module _ (path more : ℕ) (few : IsFew more) (l : List Item) where
  reset_tidy : (r : Option OpenEntry) (w : List ℕ) → IsTidy (with_parts l r w) → IsTidy (reset_in_history (with_parts l r w) path more)
  reset_tidy r w tidy = grind arith

  reset_is : (plans : Plans) (empty : PlainState) (r : Option OpenEntry) (w : List ℕ) → IsTidy (with_parts l r w) →
      past_of plans empty (reset_in_history (with_parts l r w) path more) ≡ reset_past path more plans (past_of plans empty (with_parts l r w))
  reset_is plans empty r w tidy = grind (arith, idle_past, used_bare, cuts_past)

pub reset_is_read : (path more : ℕ) → IsFew more → IsRead (λ h. reset_in_history h path more) (reset_past path more)
reset_is_read path more few = record {
  tidy = λ h tidy. reset_tidy path more few h.items h.running h.waiting tidy;
  past = λ plans empty h tidy. reset_is path more few h.items plans empty h.running h.waiting tidy;
}

-- A loss of power

abbrev lost_by : Plans → Past → Option Going → Past
lost_by plans x (Some g) = behind_items plans x (cut_to plans g 0) (entry_past g (Cut (length g.ends + 0)) g.ends) (items.Power ∷ [])
lost_by plans x None = if is_started false x.items then behind_items plans x (power_off x.state) items.Power [] else x

abbrev pub lost_past : Plans → Past → Past
lost_past plans x = lost_by plans x x.running

module _ (l : List Item) (w : List ℕ) where
  dark_past : (plans : Plans) (empty : PlainState) (started : Bool) →
      past_of plans empty (if started then record { items = l ++ items.Power ∷ []; running = None; waiting = [] } else with_parts l None w)
      ≡ (if started then behind_items plans (past_of plans empty (with_parts l None w)) (power_off (replay plans empty l)) items.Power []
      else past_of plans empty (with_parts l None w))
  dark_past plans empty true = items_more plans empty (with_parts l None w) items.Power []
  dark_past plans empty false = refl

  power_tidy : (r : Option OpenEntry) → IsTidy (lost_power (with_parts l r w) 0)
  power_tidy r = grind arith

  power_past : (plans : Plans) (empty : PlainState) (r : Option OpenEntry) → IsTidy (with_parts l r w) →
      past_of plans empty (lost_power (with_parts l r w) 0) ≡ lost_past plans (past_of plans empty (with_parts l r w))
  power_past plans empty None tidy =
      dark_past plans empty (is_started false l)
      ∙ ap (λ (b : Bool). if b then behind_items plans (past_of plans empty (with_parts l None w)) (power_off (replay plans empty l)) items.Power []
      else past_of plans empty (with_parts l None w)) (started_bare l false)
  power_past plans empty (Some o) tidy =
      grind (arith, items_more plans empty (with_parts l (Some o) w) (entry_of o (Cut (length o.ends + 0))) (items.Power ∷ []), items.Power, cut_state plans empty (with_parts l (Some o) w) o tidy 0 tt)

pub power_is_read : IsRead (λ h. lost_power h 0) lost_past
power_is_read = record {
  tidy = λ h tidy. power_tidy h.items h.waiting h.running;
  past = λ plans empty h tidy. power_past h.items h.waiting plans empty h.running tidy;
}

-- A program that is cut

abbrev pub cut_in : ℕ → History → Option OpenEntry → History
cut_in more h (Some o) = record { items = h.items ++ entry_of o (Cut (length o.ends + more)) ∷ []; running = None; waiting = [] }
cut_in more h None = h

abbrev pub cut : ℕ → History → History
cut more h = cut_in more h h.running

abbrev broken_by : ℕ → Plans → Past → Option Going → Past
broken_by more plans x (Some g) = behind_items plans x (cut_to plans g more) (entry_past g (Cut (length g.ends + more)) g.ends) []
broken_by more plans x None = x

abbrev pub broken_past : ℕ → Plans → Past → Past
broken_past more plans x = broken_by more plans x x.running

break_tidy : (more : ℕ) (l : List Item) (r : Option OpenEntry) (w : List ℕ) → IsTidy (cut more (with_parts l r w))
break_tidy more l r w = grind arith

break_past : (more : ℕ) → IsFew more → (plans : Plans) (empty : PlainState) (l : List Item) (r : Option OpenEntry) (w : List ℕ) →
    IsTidy (with_parts l r w) → past_of plans empty (cut more (with_parts l r w)) ≡ broken_past more plans (past_of plans empty (with_parts l r w))
break_past more few plans empty l None w tidy = refl
break_past more few plans empty l (Some o) w tidy =
    let h = with_parts l (Some o) w in
    items_more plans empty h (entry_of o (Cut (length o.ends + more))) []
    ∙ ap (λ (s : PlainState). behind_items plans (past_of plans empty h) s (bare (entry_of o (Cut (length o.ends + more)))) [])
    (cut_state plans empty h o tidy more few)

pub cut_is_read : (more : ℕ) → IsFew more → IsRead (cut more) (broken_past more)
cut_is_read more few = record {
  tidy = λ h tidy. break_tidy more h.items h.running h.waiting;
  past = λ plans empty h tidy. break_past more few plans empty h.items h.running h.waiting tidy;
}

-- The volume is made empty, while no program runs

pub emptied_alike : (plans : Plans) (empty : PlainState) (h : History) → h.running ≡ None → past_of plans empty (emptied h)
    ≡ record (past_of plans empty h) {
      state = replay_item plans (past_of plans empty h).state items.Fresh;
      items = (past_of plans empty h).items ++ items.Fresh ∷ [];
    }
emptied_alike plans empty h idle = grind (arith, items_more)
