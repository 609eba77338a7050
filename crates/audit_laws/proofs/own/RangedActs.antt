-- A track that becomes loose or firm in a plain device's history is one of the device's.
use Rattle.std.proofs.Common.{◌≡◌, ◌≤◌, ◌<◌, ◌+◌, ◌*◌, ◌++◌, zero, suc, ℕ, Bool, true, List, [], ◌∷◌, length, Option, Some, None, cond, refl, sym, ap, subst, ◌∙◌, arith}
use Rattle.std.specs.Prelude.{◌⊎◌, IfSome, IsSome}
use Rattle.std.proofs.lemmas.Bool.{cases_lt, eq-eqb}
use Rattle.ckd_types.specs.declared.channel.Ccw.{Ccw}
use Rattle.ckd_rules.specs.Walk.{TrackEdit}
use Rattle.deck_text.proofs.DeckAgain.{Each}
use Rattle.plain_defs.specs.declared.journal.Act.{Act}
use Rattle.plain_defs.specs.declared.journal.Act.TheVariants.{CfwLost, Harden, Loosen}
use Rattle.plain_defs.specs.declared.journal.Acted.{Acted}
use Rattle.plain_defs.specs.declared.journal.How.{How}
use Rattle.plain_defs.specs.declared.journal.Item.{Item}
use Rattle.plain_defs.specs.declared.journal.Item.TheVariants as items
use Rattle.plain_defs.specs.Entry.{ProgramEntry}
use Rattle.plain_defs.specs.History.{History, IsOpen, IsPlain, OpenEntry}
use Rattle.plain_defs.specs.Journal.{Plans, effects_of, program_of, replay, replay_item}
use Rattle.plain_defs.specs.Legal.{AreActs, AreInOrder, HasActs, HasEnds, IsLegalFrom, IsLegalItem, acts_stop, bare_part, next_edit, track_of}
use Rattle.plain_defs.specs.Loose.{act_done, is_loose_in, without}
use Rattle.plain_defs.specs.PlainState.{LooseTrack, PlainState}
use Rattle.plain_defs.specs.Program.{Part, acted_at, acts_at, acts_done, part_of}
use Rattle.plain_defs.proofs.PartLemmas.{acted_beside, part_counts}
use Rattle.device_laws.proofs.OpenProgram.{part_is_acted, with_acts_state}
use Rattle.subsystem_defs.specs.Beside.{acts_in, acts_of_entry, acts_of_item, acts_of_items, acts_running, behind_first}
use Rattle.audit_laws.proofs.own.Enough.{edit_on}

each_append : {X : Type 0} (P : X → Type 0) (xs ys : List X) → Each P xs → Each P ys → Each P (xs ++ ys)
each_append P [] ys a b = b
each_append P (x ∷ xs) ys a b = (a.0, each_append P xs ys a.1 b)

pub each_behind : {X : Type 0} (P : X → Type 0) (n : ℕ) (xs : List X) → Each P xs → Each P (behind_first n xs)
each_behind P zero xs a = a
each_behind P (suc n) [] a = tt
each_behind P (suc n) (x ∷ xs) a = each_behind P n xs a.1

module _ (k : ℕ) (some : 0 < k) where
  abbrev n : ℕ
  n = k * 15

  -- Acts

  abbrev pub ActOn : Act → Type 0
  ActOn (Loosen t) = t < n
  ActOn (Harden t) = t < n
  ActOn CfwLost = Unit {0}

  abbrev LooseOn : List LooseTrack → Type 0
  LooseOn l = Each (λ (x : LooseTrack). x.track < n) l

  loose_below : (l : List LooseTrack) (t : ℕ) → LooseOn l → is_loose_in l t ≡ true → t < n
  loose_below [] t on is = absurd (cc)
  loose_below (x ∷ l) t on is = grind (arith, loose_below l t on.1)

  fewer_loose : (t : ℕ) (l : List LooseTrack) → LooseOn l → LooseOn (without t l)
  fewer_loose t [] on = tt
  fewer_loose t (x ∷ l) on = grind (arith, fewer_loose t l on.1)

  record StateOn (s : PlainState) : Type 0 where
    cylinders : s.cylinders ≡ k
    loose : LooseOn s.loose

  record ActsOn (acts : List Act) (s : PlainState) : Type 0 where
    each : Each ActOn acts
    state : StateOn s

  acts_on : (acts : List Act) (s : PlainState) (edited : Option ℕ) → StateOn s → IfSome edited (λ t. t < n) → AreActs s edited acts →
      ActsOn acts (acts_done s acts)
  acts_on [] s edited on at are = record { each = tt; state = on }
  acts_on (Loosen t ∷ []) s edited on at are = search (arith, each_append)
  acts_on (Loosen t ∷ act ∷ acts) s edited on at are = absurd are
  acts_on (Harden t ∷ acts) s edited on at are = search (arith, acts_on acts (act_done s (Harden t)) edited, fewer_loose, loose_below)
  acts_on (CfwLost ∷ acts) s edited on at are = search (arith, acts_on acts (act_done s CfwLost) edited)

  -- A program

  module _ (state : PlainState) (on : StateOn state) (path : ℕ) (ccws : List Ccw) (acts : List Acted) where
    tracked : (o : Option TrackEdit) → IfSome o (λ e. e.track < n) → IfSome (track_of o) (λ t. t < n)
    tracked o lt = grind arith

    record ActsAt (j : ℕ) : Type 0 where
      edited : Option ℕ
      below : IfSome edited (λ t. t < n)
      are : AreActs (bare_part state path ccws acts j).state edited (acts_at acts j)

    part_state : (j : ℕ) → ActsAt j → StateOn (bare_part state path ccws acts j).state → StateOn (part_of state path ccws acts j).state
    part_state j a s =
        let b = bare_part state path ccws acts j in
        subst (λ (p : Part). StateOn p.state) (sym (part_is_acted path ccws state acts j)) (by_next b.next refl)
      where
        by_next : (o : Option ℕ) → (bare_part state path ccws acts j).next ≡ o → StateOn (acted_at acts (bare_part state path ccws acts j) o).state
        by_next None is = s
        by_next (Some i) is =
            let b = bare_part state path ccws acts j in
            let beside = acted_beside acts b in
            let part = part_is_acted path ccws state acts j in
            let runs : IsSome (part_of state path ccws acts j).next =
            subst (λ (x : Option ℕ). IsSome x) (sym (ap (λ (p : Part). p.next) part ∙ beside.next ∙ is)) refl in
            let many : length b.ends ≡ j =
            ap length (sym (ap (λ (p : Part). p.ends) part ∙ beside.ends)) ∙ (part_counts path ccws acts state j).all runs in
            subst StateOn (sym (with_acts_state (acts_at acts (length b.ends)) b))
            (subst (λ (m : ℕ). StateOn (acts_done b.state (acts_at acts m))) (sym many)
            (acts_on (acts_at acts j) b.state a.edited s a.below a.are).state)

    bare_state : (j : ℕ) → ((i : ℕ) → i < j → ActsAt i) → StateOn (bare_part state path ccws acts j).state
    bare_state zero a = record { cylinders = on.cylinders; loose = on.loose }
    bare_state (suc j) a = grind (arith, bare_state j, part_state)

    module _ (m : ℕ) (h : HasActs state path ccws acts m) where
      acts_below : (j : ℕ) → j < m → ActsAt j
      acts_below j lt =
          let edit = next_edit path ccws (part_of state path ccws acts j) in
          let below = tracked edit (edit_on k some state on.cylinders path ccws acts j) in
          record { edited = track_of edit; below = below; are = (h.points j lt).acts_are }

      last_acts : ActsAt m
      last_acts = record { edited = None; below = tt; are = h.last }

      at_place : (j : ℕ) → (j < m) ⊎ (m ≤ j) → j ≤ m → ActsAt j
      at_place j x2 le = grind (arith, acts_below, last_acts)

      each_at : (j : ℕ) → j ≤ m → Each ActOn (acts_at acts j)
      each_at j le =
          let a = at_place j (cases_lt j m) le in
          (acts_on (acts_at acts j) (bare_part state path ccws acts j).state a.edited (bare_state j (λ i lt. acts_below i (omega (arith, lt, le))))
          a.below a.are).each

      behind_program : StateOn (part_of state path ccws acts m).state
      behind_program = part_state m last_acts (bare_state m acts_below)

  later_at : (a : Acted) (acts : List Acted) (j : ℕ) → Each ActOn (acts_at (a ∷ acts) j) → Each ActOn (acts_at acts j)
  later_at a acts j x4 = grind arith

  first_at : (a : Acted) (acts : List Acted) → Each ActOn (acts_at (a ∷ acts) a.after) → ActOn a.act
  first_at a acts all = (subst (λ (b : Bool). Each ActOn (cond b (a.act ∷ acts_at acts a.after) (acts_at acts a.after))) (eq-eqb a.after a.after refl) all).0

  entry_on : (m from stop : ℕ) (acts : List Acted) → stop ≤ suc m → AreInOrder from stop acts → ((j : ℕ) → j ≤ m → Each ActOn (acts_at acts j)) →
      Each ActOn (acts_of_entry acts)
  entry_on m from stop [] few order all = tt
  entry_on m from stop (a ∷ acts) few order all =
      (first_at a acts (all a.after (omega (arith, few, order.1))), entry_on m a.after stop acts few order.2 (λ j le. later_at a acts j (all j le)))

  -- A history

  module _ (plans : Plans) where
    few_stops : (s : PlainState) (e : ProgramEntry) (how : How) → HasEnds plans s e how → acts_stop how e.ends ≤ suc (effects_of how e.ends)
    few_stops s e how h = grind arith

    item_on : (s : PlainState) (earlier : List Item) (x : Item) (later : List Item) → StateOn s → IsLegalItem plans s earlier x later →
        ActsOn (acts_of_item x) (replay_item plans s x)
    item_on s earlier (items.Program e) later on l =
        let m = effects_of e.how e.ends in
        let ccws = program_of plans e.path e.ordinal in
        let behind = behind_program s on e.path ccws e.acts m l.0.acts in
        record {
          each = entry_on m 0 (acts_stop e.how e.ends) e.acts (few_stops s e e.how l.0.ends) l.0.order (each_at s on e.path ccws e.acts m l.0.acts);
          state = record { cylinders = behind.cylinders; loose = behind.loose };
        }
    item_on s earlier (items.Reset path) later on l = record { each = tt; state = record { cylinders = on.cylinders; loose = on.loose } }
    item_on s earlier items.Fresh later on l = record { each = tt; state = record { cylinders = on.cylinders; loose = tt } }
    item_on s earlier (items.Act act) later on l = acts_on (act ∷ []) s None on tt l
    item_on s earlier items.Power later on l = search arith

    items_on : (s : PlainState) (earlier xs : List Item) → StateOn s → IsLegalFrom plans s earlier xs → ActsOn (acts_of_items xs) (replay plans s xs)
    items_on s earlier [] on l = record { each = tt; state = on }
    items_on s earlier (x ∷ xs) on l =
        let first = item_on s earlier x xs on l.0 in
        let rest = items_on (replay_item plans s x) (earlier ++ x ∷ []) xs first.state l.1 in
        record { each = each_append ActOn (acts_of_item x) (acts_of_items xs) first.each rest.each; state = rest.state }

    running_on : (s : PlainState) (xs : List Item) (o : Option OpenEntry) → StateOn s → IfSome o (IsOpen plans s xs) → Each ActOn (acts_running o)
    running_on s xs (Some o) on at =
        let m = length o.ends in
        entry_on m 0 (m + 1) o.acts (omega arith) at.order (each_at s on o.path (program_of plans o.path o.ordinal) o.acts m at.acts)
    running_on s xs None on at = tt

    pub history_on : (empty : PlainState) (h : History) → empty.cylinders ≡ k → empty.loose ≡ [] → IsPlain plans empty h → Each ActOn (acts_in h)
    history_on empty h same none plain = search (arith, items_on, each_append, running_on)
