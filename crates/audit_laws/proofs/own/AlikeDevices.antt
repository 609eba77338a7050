-- Devices of an audit that differ at most in behind which ends of commands the acts of a program stand: every line finds both the same.
use Rattle.std.proofs.Common.{arith, ◌≡◌, ◌+◌, ℕ, Bool, true, false, List, [], ◌∷◌, map, length, Option, Some, None, cond, refl, ap, ◌∙◌, if◌then◌else◌}
use Rattle.std.specs.Prelude.{fold, nat_lt, ◌||◌}
use Rattle.std.specs.List.{list_any}
use Rattle.ckd_types.specs.declared.channel.Ccw.{Ccw}
use Rattle.ckd_types.specs.declared.paths.Owner.{Owner}
use Rattle.ckd_rules.specs.Walk.{TrackEdit}
use Rattle.deck_plan.specs.declared.event.EventLine.{EventLine}
use Rattle.plain_defs.specs.declared.journal.Item.{Item}
use Rattle.plain_defs.specs.History.{History, OpenEntry}
use Rattle.plain_defs.specs.Journal.{Plans, program_of, replay}
use Rattle.plain_defs.specs.Legal.{is_of_path, next_edit}
use Rattle.plain_defs.specs.PlainState.{PlainState}
use Rattle.report_text.specs.declared.answers.StartAnswer.TheVariants as start
use Rattle.deck_audit.specs.declared.state.Did.{Did}
use Rattle.deck_audit.specs.declared.state.Did.TheVariants.{CheckEnded, Ended}
use Rattle.deck_audit.specs.declared.state.HalfWrite.{HalfWrite}
use Rattle.deck_audit.specs.Device.{AuditedDevice, edit_of, four_paths, free_answer, has_left, has_loose, held_answer, is_edit_legal, loosens, may_loosen, may_start, next_ordinal, part_of_open, plain_end, start_answer, state_of}
use Rattle.deck_audit.specs.History.{given_back, is_legal, loss_line, runs_lent, without_power}
use Rattle.deck_audit.specs.State.{is_event_over, over_by, worked}
use Rattle.audit_laws.proofs.own.Pasts.{Going, IsRead, IsTidy, Past, bare, check_is_read, emptied_alike, end_is_read, going_of, past_of, power_is_read, untold}

pub record Seen : Type 0 where
  pub number : ℕ
  pub plans : Plans
  pub half : HalfWrite
  pub lent : Option ℕ
  pub past : Past

abbrev pub seen : AuditedDevice → Seen
seen a = record { number = a.number; plans = a.plans; half = a.half; lent = a.lent; past = past_of a.plans a.empty a.history }

pub record Alike (a b : AuditedDevice) : Type 0 where
  pub same : seen a ≡ seen b
  pub tidy : IsTidy a.history
  pub tidy_too : IsTidy b.history

pub alike_self : (a : AuditedDevice) → IsTidy a.history → Alike a a
alike_self a tidy = record { same = refl; tidy = tidy; tidy_too = tidy }

pub alike_then : (a b c : AuditedDevice) → Alike a b → Alike b c → Alike a c
alike_then a b c one two = record { same = one.same ∙ two.same; tidy = one.tidy; tidy_too = two.tidy_too }

-- What is read off a past

abbrev pub state_in : PlainState → Option Going → PlainState
state_in s (Some g) = g.part.state
state_in s None = s

abbrev one_more : ℕ → ℕ → Item → ℕ
one_more path n item = n + cond (is_of_path path item) 1 0

count_bare : (path : ℕ) (l : List Item) (n : ℕ) → fold (one_more path) n l ≡ fold (one_more path) n (map bare l)
count_bare path [] n = refl
count_bare path (item ∷ l) n = grind (arith, count_bare path l)

abbrev pub words_in : Plans → Going → List Ccw
words_in plans g = program_of plans g.path g.ordinal

abbrev pub edit_in : Plans → Going → Option TrackEdit
edit_in plans g = next_edit g.path (words_in plans g) g.part

-- how the next command ends, and whether it may come
module _ (a : AuditedDevice) (o : OpenEntry) where
  abbrev g : Going
  g = going_of a.plans (replay a.plans a.empty a.history.items) o

abbrev pub legal_by : Plans → Option Going → Bool
legal_by plans (Some g) = is_edit_legal g.part (edit_in plans g)
legal_by plans None = true

any_same : (f h : ℕ → Bool) → ((n : ℕ) → f n ≡ h n) → (l : List ℕ) → list_any f l ≡ list_any h l
any_same f h same [] = refl
any_same f h same (n ∷ l) = ap (λ (b : Bool). b || list_any f l) (same n) ∙ ap (λ (b : Bool). h n || b) (any_same f h same l)

-- Two devices alike

module _ (a b : AuditedDevice) (is : Alike a b) where
  abbrev first : PlainState
  first = replay a.plans a.empty a.history.items

  abbrev second : PlainState
  second = replay b.plans b.empty b.history.items

  pub number_same : a.number ≡ b.number
  number_same = ap (λ (x : Seen). x.number) is.same

  pub plans_same : a.plans ≡ b.plans
  plans_same = ap (λ (x : Seen). x.plans) is.same

  pub half_same : a.half ≡ b.half
  half_same = ap (λ (x : Seen). x.half) is.same

  pub state_same : state_of a ≡ state_of b
  state_same = grind arith

  pub loose_same : has_loose a ≡ has_loose b
  loose_same = ap (λ (s : PlainState). nat_lt 0 (length s.loose)) state_same

  -- the program that runs on the one, and on the other
  pub both : (P : Option OpenEntry → Option OpenEntry → Type 0) → P None None → ((o p : OpenEntry) → a.history.running ≡ Some o →
      b.history.running ≡ Some p → going_of a.plans (replay a.plans a.empty a.history.items) o
      ≡ going_of b.plans (replay b.plans b.empty b.history.items) p → P (Some o) (Some p)) → P a.history.running b.history.running
  both P none some = grind arith

  pub loss_same : loss_line a ≡ loss_line b
  loss_same = grind (arith, number_same, state_same)

  pub event_over_same : (e : Option EventLine) (did : Did) → is_event_over e a did ≡ is_event_over e b did
  event_over_same e did = grind arith

  -- START

  next_same : (path : ℕ) → next_ordinal a path ≡ next_ordinal b path
  next_same path = grind (arith, count_bare path a.history.items 0, count_bare path b.history.items 0)

  left_same : (path : ℕ) → has_left a path ≡ has_left b path
  left_same path = search (arith, next_same, plans_same)

  may_same : (path : ℕ) → may_start a path ≡ may_start b path
  may_same path = grind (arith, left_same path, state_same, next_same path, plans_same)

  held_same : (o : Option Owner) → held_answer a o ≡ held_answer b o
  held_same (Some owner) = ap (λ (m : Bool). if m then start.Reserved owner else start.Shut owner) (any_same (may_start a) (may_start b) may_same four_paths)
  held_same None = refl

  free_same : (path : ℕ) → free_answer a path ≡ free_answer b path
  free_same path = grind (arith, left_same path, may_same path, next_same path, held_same (state_of a).paths.owner, state_same)

  pub start_same : (path : ℕ) → start_answer a path ≡ start_answer b path
  start_same path = grind (arith, both, free_same)

  -- The next command

  module _ (o p : OpenEntry) (going : going_of a.plans (replay a.plans a.empty a.history.items) o
      ≡ going_of b.plans (replay b.plans b.empty b.history.items) p) where
    pub end_same : plain_end a o ≡ plain_end b p
    end_same = grind (arith, untold)

    loosens_so : (t : ℕ) → loosens (part_of_open a o) (edit_of a o) t ≡ loosens (part_of_open b p) (edit_of b p) t
    loosens_so t = grind (arith, untold, going_of, plans_same)

  pub may_loosen_same : (t : ℕ) → may_loosen a a.history.running t ≡ may_loosen b b.history.running t
  may_loosen_same t = both (λ r q. may_loosen a r t ≡ may_loosen b q t) refl (λ o p one two going. loosens_so o p going t)

  pub legal_same : (did : Did) → is_legal did a ≡ is_legal did b
  legal_same did = grind arith

  pub over_same : (did : Did) → over_by a did a.history.running ≡ over_by b did b.history.running
  over_same did = grind (arith, both, number_same)

  -- What lines make of both

  -- another history, and another half write
  pub with_alike : (f : History → History) (go : Plans → Past → Past) → IsRead f go → (h k : HalfWrite) → h ≡ k →
      Alike (record a { history = f a.history; half = h }) (record b { history = f b.history; half = k })
  with_alike f go r h k half_is = search arith

  pub history_alike : (f : History → History) (go : Plans → Past → Past) → IsRead f go →
      Alike (record a { history = f a.history }) (record b { history = f b.history })
  history_alike f go r = with_alike f go r a.half b.half half_same

  pub half_alike : (h k : HalfWrite) → h ≡ k → Alike (record a { half = h }) (record b { half = k })
  half_alike h k half_is = search arith

  pub worked_alike : (did : Did) → Alike (worked a did) (worked b did)
  worked_alike (Ended e) = history_alike (λ h. _) _ (end_is_read e)
  worked_alike (CheckEnded e) = history_alike (λ h. _) _ (check_is_read e)
  worked_alike did = is

  pub dark_alike : Alike (without_power a) (without_power b)
  dark_alike = with_alike (λ h. _) _ power_is_read _ _ refl

  -- a device that comes back empty runs no program
  pub back_alike : (n : ℕ) → runs_lent n a ≡ false → Alike (given_back n a) (given_back n b)
  back_alike n idle = grind (arith, emptied_alike)
