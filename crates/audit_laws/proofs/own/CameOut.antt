-- What came of a command, and of acts, is what a plain device does: read off a history that is a plain device's before it and behind it.
use Rattle.std.proofs.Common.{◌≡◌, ◌++◌, ◌-◌, ℕ, suc, Bool, true, false, List, [], ◌∷◌, map, length, Option, Some, None, refl, sym, ap, subst, ◌∙◌, if◌then◌else◌, inl, inr, arith, append_assoc}
use Rattle.std.specs.Prelude.{◌⊎◌, IsSome, IfSome}
use Rattle.std.proofs.lemmas.List.{append-nil, append_cancel_left}
use Rattle.std.proofs.lemmas.Bool.{and_from}
use Rattle.ckd_types.specs.declared.channel.Ccw.{Ccw}
use Rattle.ckd_types.specs.declared.channel.CommandEnd.{CommandEnd}
use Rattle.ckd_types.specs.declared.record.Track.{Track}
use Rattle.ckd_types.specs.declared.sense.Sense.{Sense}
use Rattle.ckd_types.specs.Fixed.{Fixed}
use Rattle.ckd_types.specs.Parameters.{is_provisional}
use Rattle.ckd_types.specs.Sense.{data_check_sense, equipment_sense}
use Rattle.ckd_rules.specs.declared.stance.Stance.{Stance}
use Rattle.ckd_rules.specs.Walk.{TrackEdit}
use Rattle.plain_defs.specs.declared.journal.Act.{Act}
use Rattle.plain_defs.specs.declared.journal.Act.TheVariants.{Loosen, Harden, CfwLost}
use Rattle.plain_defs.specs.declared.journal.Acted.{Acted}
use Rattle.plain_defs.specs.declared.journal.How.TheVariants.{Checked}
use Rattle.plain_defs.specs.declared.journal.Item.{Item}
use Rattle.plain_defs.specs.declared.journal.Item.TheVariants as items
use Rattle.plain_defs.specs.Effect.{effect_on}
use Rattle.plain_defs.specs.History.{History, IsOpen, IsPlain, OpenEntry, checked, closed, ended, entry_of, resets_of, state_by, with_end}
use Rattle.plain_defs.specs.Journal.{Plans, program_of, replay, replay_item}
use Rattle.plain_defs.specs.Legal.{
  AreActs,
  IsCheck,
  IsLegalFrom,
  IsLegalItem,
  IsPoint,
  MayEdit,
  HasActs,
  bare_part,
  edit_at,
  next_edit,
  track_of,
}
use Rattle.plain_defs.specs.Loose.{act_done, is_loose_there, is_loose_in}
use Rattle.plain_defs.specs.PlainState.{LooseTrack, PlainState}
use Rattle.plain_defs.specs.Program.{Part, acts_at, acts_done, part_of}
use Rattle.plain_defs.proofs.PartLemmas.{IsBeside, acted_beside, more_ends, part_more}
use Rattle.device_defs.specs.Device.{all_acted}
use Rattle.device_laws.proofs.HistoryEnds.{one_longer}
use Rattle.device_laws.proofs.OpenProgram.{bare_before, part_is_acted, state_here, with_one_act}
use Rattle.deck_audit.specs.Device as A
use Rattle.deck_audit.specs.Device.{AuditedDevice, check_end, is_next_legal, may_loosen, part_of_open, plain_end, plain_end_at, state_of, words_of_open}
use Rattle.audit_laws.specs.Steps.{IsCheckSense, NoLoss, acted_to}
use Rattle.audit_laws.proofs.own.Resets.{legal_by}
use Rattle.audit_laws.proofs.own.Saying.{same_number}

-- Acts behind so many ends

abbrev pub behind_ends : ℕ → Act → Acted
behind_ends n act = record { after = n; act = act }

abbrev pub with_acts : OpenEntry → List Act → OpenEntry
with_acts o acts = record o { acts = o.acts ++ map (behind_ends (length o.ends)) acts }

running_acts : (acts : List Act) (h : History) (o : OpenEntry) →
    all_acted (record h { running = Some o }) acts ≡ record h { running = Some (with_acts o acts) }
running_acts [] h o = ap (λ (l : List Acted). record h { running = Some (record o { acts = l }) }) (sym (append-nil o.acts))
running_acts (act ∷ acts) h o = grind (arith, running_acts acts h (with_one_act o act), append_assoc)

-- so they stand in the entry of the program that runs
pub acts_run : (acts : List Act) (h : History) (o : OpenEntry) → h.running ≡ Some o → all_acted h acts ≡ record h { running = Some (with_acts o acts) }
acts_run acts h o is = ap (λ (r : Option OpenEntry). all_acted (record h { running = r }) acts) is ∙ running_acts acts h o

all_here : (n : ℕ) (acts : List Act) → acts_at (map (behind_ends n) acts) n ≡ acts
all_here n [] = refl
all_here n (act ∷ acts) = grind (arith, all_here n acts, same_number)

at_ends : (n : ℕ) (acts : List Act) (xs : List Acted) → acts_at (xs ++ map (behind_ends n) acts) n ≡ acts_at xs n ++ acts
at_ends n acts [] = all_here n acts
at_ends n acts (x ∷ xs) = grind (arith, at_ends n acts xs, all_here)

same_bare : (s : PlainState) (path : ℕ) (ccws : List Ccw) (n : ℕ) (acts : List Act) (xs : List Acted) →
    bare_part s path ccws (xs ++ map (behind_ends n) acts) n ≡ bare_part s path ccws xs n
same_bare s path ccws n [] xs = ap (λ (l : List Acted). bare_part s path ccws l n) (append-nil xs)
same_bare s path ccws n (act ∷ acts) xs =
    ap (λ (l : List Acted). bare_part s path ccws l n) (sym (append_assoc xs (behind_ends n act ∷ []) (map (behind_ends n) acts)))
    ∙ same_bare s path ccws n acts (xs ++ behind_ends n act ∷ [])
    ∙ bare_before path ccws s xs (behind_ends n act) n (omega arith)

-- Legal acts

pub split_acts : (s : PlainState) (edited : Option ℕ) (xs ys : List Act) → AreActs s edited (xs ++ ys) → AreActs (acts_done s xs) edited ys
split_acts s edited [] ys are = are
split_acts s edited (Loosen t ∷ []) [] are = tt
split_acts s edited (Harden t ∷ xs) ys are = split_acts (act_done s (Harden t)) edited xs ys are.1
split_acts s edited (CfwLost ∷ xs) ys are = split_acts (act_done s CfwLost) edited xs ys are.1
split_acts s edited xs ys are = absurd are

done_both : (s : PlainState) (xs ys : List Act) → acts_done s (xs ++ ys) ≡ acts_done (acts_done s xs) ys
done_both s [] ys = refl
done_both s (x ∷ xs) ys = done_both (act_done s x) xs ys

-- tracks that become firm, and at the end one that becomes loose
pub data Parted (s : PlainState) (edited : Option ℕ) : List Act → Type 0 where
  firm : (acts : List Act) → AreActs s None acts → Parted s edited acts
  loosens : (acts : List Act) (t : ℕ) → AreActs s None acts → is_loose_there (acts_done s acts) t ≡ false → edited ≡ Some t →
      Parted s edited (acts ++ Loosen t ∷ [])

more_parted : (s : PlainState) (edited : Option ℕ) (act : Act) (acts : List Act) →
    ((l : List Act) → AreActs (act_done s act) None l → AreActs s None (act ∷ l)) → Parted (act_done s act) edited acts → Parted s edited (act ∷ acts)
more_parted s edited act acts first (firm l are) = firm (act ∷ l) (first l are)
more_parted s edited act acts first (loosens l t are not_loose edits) = loosens (act ∷ l) t (first l are) not_loose edits

pub part_acts : (s : PlainState) (edited : Option ℕ) (acts : List Act) → AreActs s edited acts → Parted s edited acts
part_acts s edited [] are = firm [] tt
part_acts s edited (Loosen t ∷ []) are = loosens [] t tt are.0 are.1
part_acts s edited (Loosen t ∷ x ∷ acts) are = absurd are
part_acts s edited (Harden t ∷ acts) are = grind (arith, part_acts (act_done s (Harden t)) edited acts are.1, more_parted)
part_acts s edited (CfwLost ∷ acts) are = grind (arith, part_acts (act_done s CfwLost) edited acts are.1, more_parted)

no_loss_front : (xs ys : List Act) → NoLoss (xs ++ ys) → NoLoss xs
no_loss_front [] ys none = tt
no_loss_front (x ∷ xs) ys none = (none.0, no_loss_front xs ys none.1)

-- no command sees them
unseen : (f : Fixed) (path : ℕ) (z : Stance) (c : Ccw) (acts : List Act) (s : PlainState) → NoLoss acts →
    effect_on f (acts_done s acts) path z c ≡ effect_on f s path z c
unseen f path z c [] s none = refl
unseen f path z c (Loosen t ∷ acts) s none = unseen f path z c acts (act_done s (Loosen t)) none.1
unseen f path z c (Harden t ∷ acts) s none = unseen f path z c acts (act_done s (Harden t)) none.1
unseen f path z c (CfwLost ∷ acts) s none = absurd (let is : true ≡ false = none.0 in cc)

-- A program with more acts behind its last end

module _ (s : PlainState) (path : ℕ) (ccws : List Ccw) (xs : List Acted) (n : ℕ) (many : length (part_of s path ccws xs n).ends ≡ n)
    (runs : IsSome (part_of s path ccws xs n).next) (acts : List Act) where
  abbrev bare : Part
  bare = bare_part s path ccws xs n

  abbrev before : Part
  before = part_of s path ccws xs n

  abbrev behind : Part
  behind = part_of s path ccws (xs ++ map (behind_ends n) acts) n

  beside_before : IsBeside bare before
  beside_before = subst (λ (p : Part). IsBeside bare p) (sym (part_is_acted path ccws s xs n)) (acted_beside xs bare)

  beside_behind : IsBeside bare behind
  beside_behind = grind (arith, part_is_acted, same_bare, acted_beside)

  same_next : behind.next ≡ before.next
  same_next = beside_behind.next ∙ sym beside_before.next

  same_ends : behind.ends ≡ before.ends
  same_ends = beside_behind.ends ∙ sym beside_before.ends

  same_stance : behind.stance ≡ before.stance
  same_stance = beside_behind.stance ∙ sym beside_before.stance

  same_fixed : behind.fixed ≡ before.fixed
  same_fixed = beside_behind.fixed ∙ sym beside_before.fixed

  state_behind : behind.state ≡ acts_done before.state acts
  state_behind = grind (arith, state_here, same_ends, same_next, same_bare, at_ends, done_both)

  -- the legal acts of a point or of the end
  module _ (none : NoLoss acts) where
    same_effect : (c : Ccw) → effect_on behind.fixed behind.state path behind.stance c ≡ effect_on before.fixed before.state path before.stance c
    same_effect c =
        ap (λ (f : Fixed). effect_on f behind.state path behind.stance c) same_fixed
        ∙ ap (λ (z : Stance). effect_on before.fixed behind.state path z c) same_stance
        ∙ ap (λ (z : PlainState). effect_on before.fixed z path before.stance c) state_behind
        ∙ unseen before.fixed path before.stance c acts before.state none

    same_edit_at : (next : Option ℕ) → edit_at path ccws behind next ≡ edit_at path ccws before next
    same_edit_at next = grind (arith, same_effect)

    same_edit : next_edit path ccws behind ≡ next_edit path ccws before
    same_edit = ap (λ (k : Option ℕ). edit_at path ccws behind k) same_next ∙ same_edit_at before.next

    same_plain_end : (next : Option ℕ) → plain_end_at path ccws behind next ≡ plain_end_at path ccws before next
    same_plain_end next = grind (arith, same_effect)

  one_end : (e f : CommandEnd) (l : List CommandEnd) → l ++ e ∷ [] ≡ l ++ f ∷ [] → e ≡ f
  one_end e f l same = let tails : e ∷ [] ≡ f ∷ [] = append_cancel_left l (e ∷ []) (f ∷ []) same in cc

  -- the end of one command more is the plain device's
  end_is_plain : (ends : List CommandEnd) (e : CommandEnd) → ends ≡ before.ends → ends ++ e ∷ [] ≡ (part_of s path ccws (xs ++ map (behind_ends n) acts)
      (suc n)).ends → (next : Option ℕ) → behind.next ≡ next → IsSome next → plain_end_at path ccws behind next ≡ Some e
  end_is_plain ends e are longer next is some = grind (arith, one_end, part_more, more_ends, same_ends)

-- A legal item of a journal

item_in : (plans : Plans) (xs : List Item) (z : PlainState) (early : List Item) (y : Item) (ys : List Item) → IsLegalFrom plans z early (xs ++ y ∷ ys) →
    (l : List Item) × IsLegalItem plans (replay plans z xs) l y ys
item_in plans [] z early y ys legal = (early, legal.0)
item_in plans (x ∷ xs) z early y ys legal = item_in plans xs (replay_item plans z x) (early ++ x ∷ []) y ys legal.1

one_by_one : (plans : Plans) (l : List Act) (y : PlainState) (e : List Item) → IsLegalFrom plans y e (map (λ (act : Act). items.Act act) l) → AreActs y None l
one_by_one plans [] y e legal = tt
one_by_one plans (Loosen t ∷ l) y e legal = absurd (let none : None ≡ Some t = legal.0.1 in cc)
one_by_one plans (Harden t ∷ l) y e legal = (legal.0.0, one_by_one plans l (act_done y (Harden t)) (e ++ items.Act (Harden t) ∷ []) legal.1)
one_by_one plans (CfwLost ∷ l) y e legal = (legal.0.0, one_by_one plans l (act_done y CfwLost) (e ++ items.Act CfwLost ∷ []) legal.1)

acts_in_journal : (plans : Plans) (xs : List Item) (z : PlainState) (early : List Item) (acts : List Act) →
    IsLegalFrom plans z early (xs ++ map (λ (act : Act). items.Act act) acts) → AreActs (replay plans z xs) None acts
acts_in_journal plans [] z early acts legal = one_by_one plans acts z early legal
acts_in_journal plans (x ∷ xs) z early acts legal = acts_in_journal plans xs (replay_item plans z x) (early ++ x ∷ []) acts legal.1

pub idle_acts : (acts : List Act) (h : History) → all_acted (record h { running = None }) acts
    ≡ record h { items = h.items ++ map (λ (act : Act). items.Act act) acts; running = None }
idle_acts [] h = ap (λ (l : List Item). record h { items = l; running = None }) (sym (append-nil h.items))
idle_acts (act ∷ acts) h = grind (arith, idle_acts acts (record h { items = h.items ++ items.Act act ∷ [] }), append_assoc)

-- A device of the audit

-- of its command at hand: an end of the plain device, behind acts by which tracks become firm, and one at last by which one becomes loose
pub data EndsSo (a : AuditedDevice) (o : OpenEntry) (e : CommandEnd) : List Act → Type 0 where
  firmly : (acts : List Act) → plain_end a o ≡ Some e → NoLoss acts → AreActs (state_of a) None acts →
      is_next_legal (acted_to a acts) (all_acted a.history acts).running ≡ true → EndsSo a o e acts
  loosely : (acts : List Act) (t : ℕ) → plain_end a o ≡ Some e → NoLoss acts → AreActs (state_of a) None acts →
      may_loosen (acted_to a acts) (all_acted a.history acts).running t ≡ true →
      is_next_legal (acted_to a (acts ++ Loosen t ∷ [])) (all_acted a.history (acts ++ Loosen t ∷ [])).running ≡ true → EndsSo a o e (acts ++ Loosen t ∷ [])

pub ends_plain : (a : AuditedDevice) (o : OpenEntry) (e : CommandEnd) (acts : List Act) → EndsSo a o e acts → plain_end a o ≡ Some e
ends_plain a o e acts x5 = grind arith

-- or a check in its place
pub record ChecksSo (a : AuditedDevice) (o : OpenEntry) (e : CommandEnd) (acts : List Act) : Type 0 where
  pub plain : CommandEnd
  pub is_plain : plain_end a o ≡ Some plain
  pub sense : Sense
  pub is_check : IsCheckSense sense
  pub is_so : e ≡ check_end (words_of_open a o) plain.index sense
  pub are : AreActs (state_of a) None acts

module _ (a : AuditedDevice) (plainly : IsPlain a.plans a.empty a.history) (acts : List Act) where
  module _ (o : OpenEntry) (running : a.history.running ≡ Some o) where
    abbrev s : PlainState
    s = replay a.plans a.empty a.history.items

    abbrev n : ℕ
    n = length o.ends

    abbrev ccws : List Ccw
    ccws = program_of a.plans o.path o.ordinal

    is_open : IsOpen a.plans (replay a.plans a.empty a.history.items) a.history.items o
    is_open = subst (λ (r : Option OpenEntry). IfSome r (IsOpen a.plans s a.history.items)) running plainly.at

    as_many : length (part_of (replay a.plans a.empty a.history.items) o.path (program_of a.plans o.path o.ordinal) o.acts (length o.ends)).ends ≡ length o.ends
    as_many = ap length (sym is_open.ends)

    abbrev p : Part
    p = part_of (replay a.plans a.empty a.history.items) o.path (program_of a.plans o.path o.ordinal) o.acts (length o.ends)

    abbrev q : Part
    q = part_of (replay a.plans a.empty a.history.items) o.path (program_of a.plans o.path o.ordinal)
        (o.acts ++ map (behind_ends (length o.ends)) acts) (length o.ends)

    state_is : state_of a ≡ p.state
    state_is = ap (λ (r : Option OpenEntry). state_by a.plans s r) running

    acts_are : (edited : Option ℕ) → AreActs (bare_part s o.path ccws (o.acts ++ map (behind_ends n) acts) n).state edited
        (acts_at (o.acts ++ map (behind_ends n) acts) n) → AreActs (state_of a) edited acts
    acts_are edited are = grind (arith, state_is, state_here, split_acts, at_ends, same_bare, as_many)

    abbrev later : OpenEntry
    later = record o { acts = o.acts ++ map (behind_ends (length o.ends)) acts }

    -- acts alone
    open_acts : IsPlain a.plans a.empty (all_acted a.history acts) → AreActs (state_of a) None acts
    open_acts behind = grind (arith, acts_run, acts_are)

    -- A command that ended

    record HasOneMore (e : CommandEnd) : Type 0 where
      longer : o.ends ++ e ∷ [] ≡ (part_of s o.path ccws (o.acts ++ map (behind_ends n) acts) (suc n)).ends
      point : IsPoint s o.path ccws (o.acts ++ map (behind_ends n) acts) n

    has_one_more : (e : CommandEnd) → IsPlain a.plans a.empty (ended (all_acted a.history acts) e) → HasOneMore e
    has_one_more e behind = grind (arith, item_in, one_longer, acts_run)

    module _ (none : NoLoss acts) (e : CommandEnd) (has : HasOneMore e) where
      end_plain : plain_end a o ≡ Some e
      end_plain =
          sym (same_plain_end s o.path ccws o.acts n as_many is_open.runs acts none p.next)
          ∙ ap (λ (k : Option ℕ). plain_end_at o.path ccws q k) (sym (same_next s o.path ccws o.acts n as_many is_open.runs acts))
          ∙ end_is_plain s o.path ccws o.acts n as_many is_open.runs acts o.ends e is_open.ends has.longer q.next refl
          (subst (λ (k : Option ℕ). IsSome k) (sym (same_next s o.path ccws o.acts n as_many is_open.runs acts)) is_open.runs)

      legal : is_next_legal (acted_to a acts) (all_acted a.history acts).running ≡ true
      legal = grind (arith, acts_run, legal_by)

      edited_is : track_of (next_edit o.path ccws q) ≡ track_of (next_edit o.path ccws p)
      edited_is = ap track_of (same_edit s o.path ccws o.acts n as_many is_open.runs acts none)

      parted : Parted (state_of a) (track_of (next_edit o.path ccws p)) acts
      parted = grind (arith, part_acts, edited_is, acts_are)

    -- A check

    record HasCheck (e : CommandEnd) : Type 0 where
      next : q.next ≡ Some e.index
      is_check : IsCheck ccws e
      last : AreActs (bare_part s o.path ccws (o.acts ++ map (behind_ends n) acts) n).state None (acts_at (o.acts ++ map (behind_ends n) acts) n)

    check_at : (e : CommandEnd) (k : ℕ) → k ≡ n → (last : CommandEnd) →
        o.ends ++ e ∷ [] ≡ (part_of s o.path ccws (o.acts ++ map (behind_ends n) acts) k).ends ++ last ∷ [] →
        (part_of s o.path ccws (o.acts ++ map (behind_ends n) acts) k).next ≡ Some last.index → IsCheck ccws last →
        HasActs s o.path ccws (o.acts ++ map (behind_ends n) acts) k → HasCheck e
    check_at e k is last ends next check_is has = grind (arith, one_end, as_many, same_ends)

    has_check : (e : CommandEnd) → IsPlain a.plans a.empty (checked (all_acted a.history acts) e) → HasCheck e
    has_check e behind =
        let so : IsPlain a.plans a.empty (closed (record a.history { running = Some later }) (with_end later e) Checked) = subst
        (λ (h : History). IsPlain a.plans a.empty (checked h e)) (acts_run acts a.history o running) behind in
        let it = item_in a.plans a.history.items a.empty [] (entry_of (with_end later e) Checked) (resets_of a.history.waiting) so.legal in
        let ends = it.1.0.ends in
        check_at e (length (o.ends ++ e ∷ []) - 1) (omega (arith, one_longer o.ends e)) ends.last ends.ends_are ends.next_is ends.checked it.1.0.acts

    plain_at : (next : Option ℕ) (i : ℕ) → next ≡ Some i → (f : CommandEnd) × (plain_end_at o.path ccws p next ≡ Some f) × (f.index ≡ i)
    plain_at (Some j) i is = (_, refl, let same : j ≡ i = cc in same)
    plain_at None i is = absurd (cc)

    checks_by : (e : CommandEnd) (has : HasCheck e) (sense : Sense) → IsCheckSense sense → e.sense ≡ Some sense → ChecksSo a o e acts
    checks_by e has sense is sensed =
        let f = plain_at p.next e.index (sym (same_next s o.path ccws o.acts n as_many is_open.runs acts) ∙ has.next) in
        (search (arith, acts_are))

    pub checks_so : (e : CommandEnd) → IsPlain a.plans a.empty (checked (all_acted a.history acts) e) → ChecksSo a o e acts
    checks_so e behind = by_sense (has_check e behind) (has_check e behind).is_check.sense where
      by_sense : HasCheck e → (e.sense ≡ Some equipment_sense) ⊎ (e.sense ≡ Some data_check_sense) → ChecksSo a o e acts
      by_sense has (inl is) = checks_by e has equipment_sense (inl refl) is
      by_sense has (inr is) = checks_by e has data_check_sense (inr refl) is

  -- where no program runs
  idle_so : a.history.running ≡ None → IsPlain a.plans a.empty (all_acted a.history acts) → AreActs (state_of a) None acts
  idle_so none behind =
      let so : IsPlain a.plans a.empty (record a.history { items = a.history.items ++ map (λ (act : Act). items.Act act) acts; running = None }) = rw (← (ap
      (λ (r : Option OpenEntry). all_acted (record a.history { running = r }) acts) none ∙ idle_acts acts a.history)) behind in
      rw (ap (λ (r : Option OpenEntry). state_by a.plans (replay a.plans a.empty a.history.items) r) none)
      (acts_in_journal a.plans a.history.items a.empty [] acts so.legal)

  by_running : (r : Option OpenEntry) → a.history.running ≡ r → IsPlain a.plans a.empty (all_acted a.history acts) → AreActs (state_of a) None acts
  by_running r running behind = grind (arith, open_acts, idle_so)

  -- acts alone
  pub acts_so : IsPlain a.plans a.empty (all_acted a.history acts) → AreActs (state_of a) None acts
  acts_so behind = by_running a.history.running refl behind

-- A track that became loose

one_loose : (l : List LooseTrack) (t : ℕ) (track : Track) → is_loose_in (l ++ record { track = t; firm = track } ∷ []) t ≡ true
one_loose [] t track = ap (λ (b : Bool). if b then true else false) (same_number t)
one_loose (x ∷ l) t track = grind (arith, one_loose l t track, same_number)

loosens_by : (p : Part) (edit : Option TrackEdit) (t : ℕ) → track_of edit ≡ Some t → is_provisional p.stance.extent ≡ true → is_loose_there p.state t ≡ false →
    A.loosens p edit t ≡ true
loosens_by p edit t is provisional not_loose = grind (arith, and_from, same_number)

provisional_by : (z : PlainState) (s : Stance) (edit : Option TrackEdit) (t : ℕ) → track_of edit ≡ Some t → is_loose_there z t ≡ true → MayEdit z s edit →
    is_provisional s.extent ≡ true
provisional_by z s edit t is loose may = grind arith

module _ (a : AuditedDevice) (plainly : IsPlain a.plans a.empty a.history) (o : OpenEntry) (running : a.history.running ≡ Some o) where
  loosely_so : (bs : List Act) (t : ℕ) (e : CommandEnd) → NoLoss (bs ++ Loosen t ∷ []) → AreActs (state_of a) None bs →
      is_loose_there (acts_done (state_of a) bs) t ≡ false →
      track_of (next_edit o.path (words_of_open a o) (part_of_open a o)) ≡ Some t → HasOneMore a plainly (bs ++ Loosen t ∷ []) o running e →
      EndsSo a o e (bs ++ Loosen t ∷ [])
  loosely_so bs t e none are not_loose edits has =
      let all = bs ++ Loosen t ∷ [] in
      let s = replay a.plans a.empty a.history.items in
      let n = length o.ends in
      let ccws = words_of_open a o in
      let p = part_of_open a o in
      let front = no_loss_front bs (Loosen t ∷ []) none in
      let many = as_many a plainly bs o running in
      let runs = (is_open a plainly bs o running).runs in
      let q = part_of s o.path ccws (o.acts ++ map (behind_ends n) all) n in
      let z = part_of s o.path ccws (o.acts ++ map (behind_ends n) bs) n in
      let loose : is_loose_there q.state t ≡ true = ap (λ (y : PlainState). is_loose_there y t) (state_behind s o.path ccws o.acts n many runs all
      ∙ done_both p.state bs (Loosen t ∷ [])) ∙ one_loose (acts_done p.state bs).loose t _ in
      let edits_q : track_of (next_edit o.path ccws q) ≡ Some t = ap track_of (same_edit s o.path ccws o.acts n many runs all none) ∙ edits in
      loosely bs t (end_plain a plainly all o running none e has) front are (ap (λ (h : History). may_loosen (record a { history = h }) h.running t)
      (acts_run bs a.history o running) ∙ loosens_by z (next_edit o.path ccws z) t (ap track_of (same_edit s o.path ccws o.acts n many runs bs front)
      ∙ edits) (ap (λ (y : Stance). is_provisional y.extent) (same_stance s o.path ccws o.acts n many runs bs ∙ sym
      (same_stance s o.path ccws o.acts n many runs all)) ∙ provisional_by q.state q.stance (next_edit o.path ccws q) t edits_q loose has.point.edit_is) (ap
      (λ (y : PlainState). is_loose_there y t) (state_behind s o.path ccws o.acts n many runs bs ∙ ap (λ (y : PlainState). acts_done y bs) (sym
      (state_is a plainly bs o running))) ∙ not_loose)) (legal a plainly all o running none e has)

  by_parts : (e : CommandEnd) (acts : List Act) → NoLoss acts → HasOneMore a plainly acts o running e →
      Parted (state_of a) (track_of (next_edit o.path (words_of_open a o) (part_of_open a o))) acts → EndsSo a o e acts
  by_parts e acts none has (firm l are) = firmly l (end_plain a plainly l o running none e has) none are (legal a plainly l o running none e has)
  by_parts e acts none has (loosens bs t are not_loose edits) = loosely_so bs t e none are not_loose edits has

  pub ends_so : (e : CommandEnd) (acts : List Act) → NoLoss acts → IsPlain a.plans a.empty (ended (all_acted a.history acts) e) → EndsSo a o e acts
  ends_so e acts none behind =
      let has = has_one_more a plainly acts o running e behind in by_parts e acts none has (parted a plainly acts o running none e has)
