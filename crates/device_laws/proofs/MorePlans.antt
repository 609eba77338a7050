-- Over plans that have more programs behind those of each path, a history that a plain device could have is one still, and leads to the same plain device:
-- each program that it started has its place in both.
use Rattle.std.proofs.Common.{◌≡◌, ◌≤◌, ◌+◌, ◌-◌, ℕ, Bool, true, List, [], ◌∷◌, ◌++◌, Option, Some, None, length, refl, sym, ap, subst, ◌∙◌, arith}
use Rattle.std.specs.Prelude.{IfSome, IsSome, ◌&&◌, not, if◌then◌else◌}
use Rattle.ckd_types.specs.declared.channel.Ccw.{Ccw}
use Rattle.ckd_chain.specs.State.{ChainState}
use Rattle.plain_defs.specs.declared.journal.How.{How}
use Rattle.plain_defs.specs.declared.journal.How.TheVariants.{Full, Cut, Checked}
use Rattle.plain_defs.specs.declared.journal.Item.{Item}
use Rattle.plain_defs.specs.declared.journal.Item.TheVariants as items
use Rattle.plain_defs.specs.Acknowledged.{EditTold}
use Rattle.plain_defs.specs.Entry.{ProgramEntry}
use Rattle.plain_defs.specs.History.{OpenEntry, History, open_part, plain_of, state_by, IsOpen, IsPlain}
use Rattle.plain_defs.specs.Journal.{Plans, planned, program_of, entry_part, last_sense, told_of, replay_program, replay_item, replay, item_told, journal_told}
use Rattle.plain_defs.specs.Legal.{MayStart, HasEnds, EndsFull, EndsCut, IsLegalEntry, IsLegalItem, IsLegalFrom}
use Rattle.plain_defs.specs.PlainState.{PlainState, is_admitted}
use Rattle.plain_defs.specs.Program.{Part, part_of}
use Rattle.device_defs.specs.declared.counts.Counts.{Counts}
use Rattle.device_defs.specs.Command.{has_loss}
use Rattle.device_defs.specs.Excused.{command_in, is_checked, is_equipment_check, is_unexplained_by, unexplained, unexplained_item}
use Rattle.device_defs.specs.Marks.{MarksDevice}
use Rattle.device_laws.proofs.PlainStores.{core_of, IsOf}
use Rattle.device_laws.proofs.PlainTurns.{Follows, RunsAt}

-- the programs of each path stand first in the longer plans, in their places
pub record AreLonger (p q : Plans) : Type 0 where
  pub least : (path : ℕ) → length (planned p path) ≤ length (planned q path)
  pub same : (path n : ℕ) → 1 ≤ n → n ≤ length (planned p path) → program_of q path n ≡ program_of p path n

module _ (p q : Plans) (longer : AreLonger p q) where
  -- Programs that were started

  module _ (s : PlainState) (earlier : List Item) where
    started_same : (path n : ℕ) → MayStart p s earlier path n → program_of q path n ≡ program_of p path n
    started_same path n may = let is = may.ordinal_is in longer.same path n (omega (arith, is)) may.in_plan

    may_start : (path n : ℕ) → MayStart p s earlier path n → MayStart q s earlier path n
    may_start path n may = record {
      least = may.least;
      most = may.most;
      in_plan = let least = longer.least path in let inside = may.in_plan in omega (arith, least, inside);
      ordinal_is = may.ordinal_is;
      admitted = subst (λ (l : List Ccw). is_admitted s.paths path l ≡ true) (sym (started_same path n may)) may.admitted;
    }

    -- Entries

    module _ (e : ProgramEntry) (legal : IsLegalEntry p s earlier e) where
      same : program_of q e.path e.ordinal ≡ program_of p e.path e.ordinal
      same = started_same e.path e.ordinal legal.started

      part_same : (k : ℕ) → entry_part q s e k ≡ entry_part p s e k
      part_same k = ap (λ (l : List Ccw). part_of s e.path l e.acts k) same

      ends_legal : (how : How) → HasEnds p s e how → HasEnds q s e how
      ends_legal Full ends = subst (λ (x : Part). EndsFull x e.ends) (sym (part_same (length e.ends))) ends
      ends_legal (Cut effect) ends = subst (λ (x : Part). EndsCut x effect e.ends) (sym (part_same (length e.ends))) ends
      ends_legal Checked ends = rw same ends

      entry_legal : IsLegalEntry q s earlier e
      entry_legal = record {
        started = may_start e.path e.ordinal legal.started;
        ends = ends_legal e.how legal.ends;
        order = legal.order;
        acts = rw same legal.acts;
      }

      unexplained_entry : (lost : List Bool) (n : Counts) → unexplained_item q s lost n (items.Program e) ≡ unexplained_item p s lost n (items.Program e)
      unexplained_entry lost n =
          ap (λ (l : List Ccw). if is_checked e.how && is_equipment_check (last_sense e.ends) && not (has_loss e.acts)
          && is_unexplained_by lost n (command_in l e.path (part_of s e.path l e.acts (length e.ends - 1))) then 1 else 0) same

    -- Items

    item_legal : (x : Item) (later : List Item) → IsLegalItem p s earlier x later → IsLegalItem q s earlier x later
    item_legal (items.Program e) later h = (entry_legal e h.0, h.1)
    item_legal (items.Reset path) later h = h
    item_legal items.Fresh later h = h
    item_legal (items.Act act) later h = h
    item_legal items.Power later h = h

    item_same : (x : Item) (later : List Item) → IsLegalItem p s earlier x later → replay_item q s x ≡ replay_item p s x
    item_same (items.Program e) later h = ap (λ (l : List Ccw). replay_program l s e) (same e h.0)
    item_same (items.Reset path) later h = refl
    item_same items.Fresh later h = refl
    item_same (items.Act act) later h = refl
    item_same items.Power later h = refl

    told_item : (x : Item) (later : List Item) → IsLegalItem p s earlier x later → item_told q s x ≡ item_told p s x
    told_item (items.Program e) later h = ap (λ (y : Part). y.told) (part_same e h.0 (told_of e.how e.ends))
    told_item (items.Reset path) later h = refl
    told_item items.Fresh later h = refl
    told_item (items.Act act) later h = refl
    told_item items.Power later h = refl

    unexplained_same_item : (lost : List Bool) (n : Counts) (x : Item) (later : List Item) → IsLegalItem p s earlier x later →
        unexplained_item q s lost n x ≡ unexplained_item p s lost n x
    unexplained_same_item lost n (items.Program e) later h = unexplained_entry e h.0 lost n
    unexplained_same_item lost n (items.Reset path) later h = refl
    unexplained_same_item lost n items.Fresh later h = refl
    unexplained_same_item lost n (items.Act act) later h = refl
    unexplained_same_item lost n items.Power later h = refl

  -- Journals

  legal_from : (s : PlainState) (earlier xs : List Item) → IsLegalFrom p s earlier xs → IsLegalFrom q s earlier xs
  legal_from s earlier [] h = tt
  legal_from s earlier (x ∷ xs) h = (
    item_legal s earlier x xs h.0,
    rw (item_same s earlier x xs h.0) (legal_from (replay_item p s x) (earlier ++ x ∷ []) xs h.1),
  )

  -- it leads to the same plain device
  pub replay_same : (s : PlainState) (earlier xs : List Item) → IsLegalFrom p s earlier xs → replay q s xs ≡ replay p s xs
  replay_same s earlier [] h = refl
  replay_same s earlier (x ∷ xs) h =
      ap (λ (z : PlainState). replay q z xs) (item_same s earlier x xs h.0) ∙ replay_same (replay_item p s x) (earlier ++ x ∷ []) xs h.1

  -- it acknowledged the same edits
  pub told_same : (s : PlainState) (earlier xs : List Item) → IsLegalFrom p s earlier xs → journal_told q s xs ≡ journal_told p s xs
  told_same s earlier [] h = refl
  told_same s earlier (x ∷ xs) h =
      ap (λ (l : List EditTold). l ++ journal_told q (replay_item q s x) xs) (told_item s earlier x xs h.0)
      ∙ ap (λ (z : PlainState). item_told p s x ++ journal_told q z xs) (item_same s earlier x xs h.0)
      ∙ ap (λ (l : List EditTold). item_told p s x ++ l) (told_same (replay_item p s x) (earlier ++ x ∷ []) xs h.1)

  -- and the same checks in it are unexplained
  pub unexplained_same : (lost : List Bool) (n : Counts) (s : PlainState) (earlier xs : List Item) → IsLegalFrom p s earlier xs →
      unexplained q s lost n xs ≡ unexplained p s lost n xs
  unexplained_same lost n s earlier [] h = refl
  unexplained_same lost n s earlier (x ∷ xs) h =
      ap (λ (k : ℕ). k + unexplained q (replay_item q s x) lost n xs) (unexplained_same_item s earlier lost n x xs h.0)
      ∙ ap (λ (z : PlainState). unexplained_item p s lost n x + unexplained q z lost n xs) (item_same s earlier x xs h.0)
      ∙ ap (λ (k : ℕ). unexplained_item p s lost n x + k) (unexplained_same lost n (replay_item p s x) (earlier ++ x ∷ []) xs h.1)

  -- The program that runs

  module _ (s : PlainState) (journal : List Item) where
    open_same : (o : OpenEntry) → IsOpen p s journal o → open_part q s o ≡ open_part p s o
    open_same o is = ap (λ (l : List Ccw). part_of s o.path l o.acts (length o.ends)) (started_same s journal o.path o.ordinal is.start)

    open_by : (r : Option OpenEntry) → IfSome r (IsOpen p s journal) → IfSome r (IsOpen q s journal)
    open_by (Some o) is = record {
      start = may_start s journal o.path o.ordinal is.start;
      ends = is.ends ∙ ap (λ (x : Part). x.ends) (sym (open_same o is));
      runs = subst (λ (x : Part). IsSome x.next) (sym (open_same o is)) is.runs;
      order = is.order;
      acts = rw (started_same s journal o.path o.ordinal is.start) is.acts;
    }
    open_by None is = tt

    state_same : (r : Option OpenEntry) → IfSome r (IsOpen p s journal) → state_by q s r ≡ state_by p s r
    state_same (Some o) is = ap (λ (x : Part). x.state) (open_same o is)
    state_same None is = refl

    runs_on : (r : Option OpenEntry) (chain : Option ChainState) → IfSome r (IsOpen p s journal) → RunsAt p s r chain → RunsAt q s r chain
    runs_on (Some o) (Some chain) is at = record {
      hand = record {
        words = at.hand.words ∙ sym (started_same s journal o.path o.ordinal is.start);
        next = at.hand.next ∙ ap (λ (x : Part). x.next) (sym (open_same o is));
      };
      stance = at.stance ∙ ap (λ (x : Part). x.stance) (sym (open_same o is));
      fixed = at.fixed ∙ ap (λ (x : Part). x.fixed) (sym (open_same o is));
      fresh = at.fresh;
    }
    runs_on (Some o) None is at = at
    runs_on None chain is at = tt

  -- Histories

  module _ (empty : PlainState) (h : History) (plain : IsPlain p empty h) where
    journal_same : replay q empty h.items ≡ replay p empty h.items
    journal_same = replay_same empty [] h.items plain.legal

    pub plain_more : IsPlain q empty h
    plain_more = record {
      legal = legal_from empty [] h.items plain.legal;
      at = rw journal_same (open_by (replay p empty h.items) h.items h.running plain.at);
    }

    pub plain_of_same : plain_of q empty h ≡ plain_of p empty h
    plain_of_same = ap (λ (z : PlainState). state_by q z h.running) journal_same ∙ state_same (replay p empty h.items) h.items h.running plain.at

    goes_on : (chain : Option ChainState) → RunsAt p (replay p empty h.items) h.running chain → RunsAt q (replay q empty h.items) h.running chain
    goes_on chain at =
        subst (λ (z : PlainState). RunsAt q z h.running chain) (sym journal_same) (runs_on (replay p empty h.items) h.items h.running chain plain.at at)

-- a device that follows the plain device of its history does so over longer plans
pub longer_follows : (num : ℕ) (empty : PlainState) (d : MarksDevice) (q : Plans) → AreLonger d.plans q → Follows num empty d →
    Follows num empty (record d { plans = q })
longer_follows num empty d q longer f = record {
  number = f.number;
  base = f.base;
  some = f.some;
  stands = record { plain = plain_more d.plans q longer empty d.history f.stands.plain; due = f.stands.due };
  keeps = f.keeps ∙ ap (λ (x : PlainState). x.paths) (sym (plain_of_same d.plans q longer empty d.history f.stands.plain));
  of = subst (λ (x : PlainState). IsOf x (core_of d.store)) (sym (plain_of_same d.plans q longer empty d.history f.stands.plain)) f.of;
  places = f.places;
  before = f.before;
  runs = goes_on d.plans q longer empty d.history f.stands.plain f.before f.runs;
  chain = f.chain;
  mid = f.mid;
  home = f.home;
}
