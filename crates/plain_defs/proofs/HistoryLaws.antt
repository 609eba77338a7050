-- A history with one event more.
use Rattle.std.proofs.Common.{
  ◌≡◌,
  ◌≤◌,
  ◌<◌,
  ◌+◌,
  ◌==◌,
  ℕ,
  suc,
  List,
  [],
  ◌∷◌,
  ◌++◌,
  Option,
  Some,
  None,
  Bool,
  true,
  false,
  length,
  cond,
  refl,
  arith,
  sym,
  ap,
  subst,
  ◌∙◌,
  inl,
  inr,
}
use Rattle.std.specs.Prelude.{◌⊎◌, IsSome, IfSome}
use Rattle.std.proofs.lemmas.Bool.{cases_lt, ne_eqb}
use Rattle.std.proofs.lemmas.List.{length-append}
use Rattle.ckd_types.specs.declared.channel.Ccw.{Ccw}
use Rattle.ckd_types.specs.declared.channel.CommandEnd.{CommandEnd}
use Rattle.ckd_types.specs.Ccw.{ccw_at}
use Rattle.ckd_rules.specs.Ends.{end_at_word, goes_to, is_over}
use Rattle.ckd_rules.specs.Walk.{TrackEdit}
use Rattle.ckd_rules.proofs.Goes.{over_stops, more_goes}
use Rattle.plain_defs.specs.declared.journal.Act.{Act}
use Rattle.plain_defs.specs.declared.journal.Act.TheVariants.{Loosen, Harden, CfwLost}
use Rattle.plain_defs.specs.declared.journal.Acted.{Acted}
use Rattle.plain_defs.specs.declared.journal.How.TheVariants.{Full}
use Rattle.plain_defs.specs.declared.journal.Item.{Item}
use Rattle.plain_defs.specs.Effect.{Effect, effect_on}
use Rattle.plain_defs.specs.History.{OpenEntry, History, open_part, entry_of, started, with_end, closed, ended, ended_in, resets_of, IsOpen, IsPlain}
use Rattle.plain_defs.specs.Journal.{Plans, program_of, replay}
use Rattle.plain_defs.specs.Legal.{AreInOrder, AreActs, MayEdit, edit_at, track_of, next_edit, bare_part, IsPoint, HasActs, MayStart}
use Rattle.plain_defs.specs.Loose.{act_done}
use Rattle.plain_defs.specs.PlainState.{PlainState}
use Rattle.plain_defs.specs.Program.{Part, acts_at, part_of}
use Rattle.plain_defs.proofs.JournalLaws.{legal_more}
use Rattle.plain_defs.proofs.PartLemmas.{no_ends, first_next, part_more, more_ends, more_next}

-- where no edit was allowed any other is
acts_before : (s : PlainState) (edited : Option ℕ) (acts : List Act) → AreActs s None acts → AreActs s edited acts
acts_before s edited [] are = tt
acts_before s edited (Loosen t ∷ []) are = absurd (let none : None ≡ Some t = are.1 in cc)
acts_before s edited (Loosen t ∷ act ∷ acts) are = absurd are
acts_before s edited (Harden t ∷ acts) are = (are.0, acts_before (act_done s (Harden t)) edited acts are.1)
acts_before s edited (CfwLost ∷ acts) are = (are.0, acts_before (act_done s CfwLost) edited acts are.1)

-- no act stands behind the last one
no_acts : (from stop n : ℕ) (acts : List Acted) → AreInOrder from stop acts → stop ≤ n → acts_at acts n ≡ []
no_acts from stop n [] order le = refl
no_acts from stop n (a ∷ acts) order le =
    let other : (a.after == n) ≡ false = ne_eqb a.after n (omega (arith, order.1, le)) in
    ap (λ (b : Bool). cond b (a.act ∷ acts_at acts n) (acts_at acts n)) other ∙ no_acts a.after stop n acts order.2 le

order_on : (from stop later : ℕ) (acts : List Acted) → AreInOrder from stop acts → stop ≤ later
    → AreInOrder from later acts
order_on from stop later [] order le = tt
order_on from stop later (a ∷ acts) order le = (
  order.0,
  omega (arith, order.1, le),
  order_on a.after stop later acts
      order.2 le,
)

module _ (plans : Plans) (empty : PlainState) (h : History) (plain : IsPlain plans empty h) where
  -- a program that may start starts
  pub started_plain : (path ordinal : ℕ) → MayStart plans (replay plans empty h.items) h.items path ordinal
      → IsPlain plans empty (started h path ordinal)
  started_plain path ordinal may =
      let state = replay plans empty h.items in
      let ccws = program_of plans path ordinal in record {
        legal = plain.legal;
        at = record {
          start = may;
          ends = sym (no_ends path ccws [] state);
          runs = subst (λ (next : Option ℕ). IsSome next) (sym (first_next path ccws [] state)) refl;
          order = tt;
          acts = record { points = λ j below. absurd (omega (arith, below)); last = tt };
        };
      }

  module _ (o : OpenEntry) (running : h.running ≡ Some o) (none_waits : h.waiting ≡ []) where
    state : PlainState
    state = replay plans empty h.items

    ccws : List Ccw
    ccws = program_of plans o.path o.ordinal

    p : Part
    p = part_of (replay plans empty h.items) o.path (program_of plans o.path o.ordinal) o.acts (length o.ends)

    is_open : IsOpen plans (replay plans empty h.items) h.items o
    is_open = subst (λ (x : Option OpenEntry). IfSome x (IsOpen plans (replay plans empty h.items) h.items)) running
        plain.at

    module _ (i : ℕ) (next : (open_part plans (replay plans empty h.items) o).next ≡ Some i) where
      abbrev effect : Effect
      effect = effect_on (open_part plans (replay plans empty h.items) o).fixed
          (open_part plans (replay plans empty h.items) o).state o.path
          (open_part plans (replay plans empty h.items) o).stance (ccw_at (program_of plans o.path o.ordinal) i)

      module _ (e : CommandEnd) (end_is : e ≡ end_at_word i (ccw_at (program_of plans o.path o.ordinal) i) effect.outcome)
          (may : MayEdit (open_part plans (replay plans empty h.items) o).state
          (open_part plans (replay plans empty h.items) o).stance effect.edit) where
        q : Part
        q = part_of (replay plans empty h.items) o.path (program_of plans o.path o.ordinal) o.acts (suc (length o.ends))

        many : length (o.ends ++ e ∷ []) ≡ suc (length o.ends)
        many = let sum = length-append o.ends (e ∷ []) in omega (arith, sum)

        later_ends : o.ends ++ e ∷ [] ≡ q.ends
        unfolding q
        later_ends =
            ap (λ (l : List CommandEnd). l ++ e ∷ []) is_open.ends
            ∙ ap (λ (x : CommandEnd). (open_part plans (replay plans empty h.items) o).ends ++ x ∷ []) end_is
            ∙ sym (ap (λ (x : Part). x.ends) (part_more o.path (program_of plans o.path o.ordinal) o.acts
            (replay plans empty h.items) (length o.ends))
            ∙ more_ends o.path (program_of plans o.path o.ordinal) o.acts
            (open_part plans (replay plans empty h.items) o) i next)

        later_next : q.next ≡ goes_to (program_of plans o.path o.ordinal) i effect.outcome
        unfolding q
        later_next =
            ap (λ (x : Part). x.next) (part_more o.path (program_of plans o.path o.ordinal) o.acts
            (replay plans empty h.items) (length o.ends))
            ∙ more_next o.path (program_of plans o.path o.ordinal) o.acts
            (open_part plans (replay plans empty h.items) o) i next

        at_end : length (o.ends ++ e ∷ []) ≡ suc (length o.ends)
            → part_of (replay plans empty h.items) o.path (program_of plans o.path o.ordinal) o.acts
            (length (o.ends ++ e ∷ [])) ≡ q
        unfolding q
        at_end is = ap (λ (k : ℕ). part_of (replay plans empty h.items) o.path (program_of plans o.path o.ordinal)
            o.acts k) is

        next_edit_is : next_edit o.path (program_of plans o.path o.ordinal)
            (open_part plans (replay plans empty h.items) o) ≡ effect.edit
        next_edit_is = ap (λ (n : Option ℕ). edit_at o.path (program_of plans o.path o.ordinal)
            (open_part plans (replay plans empty h.items) o) n) next

        point_by : (j : ℕ) → (j < length o.ends) ⊎ (length o.ends ≤ j) → j < suc (length o.ends)
            → IsPoint (replay plans empty h.items) o.path (program_of plans o.path o.ordinal) o.acts j
        point_by j (inl below) inside = is_open.acts.points j below
        point_by j (inr above) inside =
            let here : length o.ends ≡ j = omega (arith, above, inside) in
            subst (λ (k : ℕ). IsPoint (replay plans empty h.items) o.path (program_of plans o.path o.ordinal) o.acts k)
            here (record {
              acts_are = acts_before (bare_part (replay plans empty h.items) o.path (program_of plans o.path o.ordinal)
                  o.acts (length o.ends)).state
                  (track_of (next_edit o.path (program_of plans o.path o.ordinal)
                  (open_part plans (replay plans empty h.items) o))) (acts_at o.acts (length o.ends))
                  is_open.acts.last;
              edit_is = subst (λ (x : Option TrackEdit). MayEdit (open_part plans (replay plans empty h.items) o).state
                  (open_part plans (replay plans empty h.items) o).stance x) (sym next_edit_is) may;
            })

        later_acts : HasActs (replay plans empty h.items) o.path (program_of plans o.path o.ordinal) o.acts
            (suc (length o.ends))
        later_acts = record {
          points = λ j below. point_by j (cases_lt j (length o.ends)) below;
          last =
              let stop : length o.ends + 1 ≤ suc (length o.ends) = omega arith in
              subst (λ (l : List Act). AreActs (bare_part (replay plans empty h.items) o.path
              (program_of plans o.path o.ordinal) o.acts (suc (length o.ends))).state None l)
              (sym (no_acts 0 (length o.ends + 1) (suc (length o.ends)) o.acts is_open.order stop)) tt;
        }

        acts_at_end : HasActs (replay plans empty h.items) o.path (program_of plans o.path o.ordinal) o.acts
            (length (o.ends ++ e ∷ []))
        acts_at_end = subst (λ (k : ℕ). HasActs (replay plans empty h.items) o.path (program_of plans o.path o.ordinal)
            o.acts k) (sym many) later_acts

        over_is : e.over ≡ is_over (ccw_at (program_of plans o.path o.ordinal) i) effect.outcome
        over_is = ap (λ (x : CommandEnd). x.over) end_is

        goes_on : is_over (ccw_at (program_of plans o.path o.ordinal) i) effect.outcome ≡ false
            → IsPlain plans empty (record h { running = Some (with_end o e) })
        goes_on more = record {
          legal = plain.legal;
          at = record {
            start = is_open.start;
            ends = later_ends ∙ ap (λ (x : Part). x.ends) (sym (at_end many));
            runs = subst (λ (n : Option ℕ). IsSome n) (sym
                (ap (λ (x : Part). x.next) (at_end many) ∙ later_next
                ∙ more_goes (program_of plans o.path o.ordinal) i effect.outcome more)) refl;
            order = order_on 0 (length o.ends + 1) (length (o.ends ++ e ∷ []) + 1) o.acts is_open.order
                (omega (arith, many));
            acts = acts_at_end;
          };
        }

        full_item : Item
        full_item = entry_of (with_end o e) Full

        is_done : is_over (ccw_at (program_of plans o.path o.ordinal) i) effect.outcome ≡ true
            → IsPlain plans empty (record {
              items = h.items ++ entry_of (with_end o e) Full ∷ [];
              running =
                  None;
              waiting = [];
            })
        is_done over = record {
          legal = legal_more plans empty [] h.items (entry_of (with_end o e) Full) plain.legal (
            record {
              started = is_open.start;
              ends = record {
                ends_are = later_ends ∙ ap (λ (x : Part). x.ends) (sym (at_end many));
                over = ap (λ (x : Part). x.next) (at_end many) ∙ later_next
                    ∙ over_stops (program_of plans o.path o.ordinal) i effect.outcome over;
              };
              order = let same : length o.ends + 1 ≡ length (o.ends ++ e ∷ []) =
                  omega (arith, many) in subst (λ (stop : ℕ). AreInOrder 0 stop o.acts) same is_open.order;
              acts = acts_at_end;
            },
            tt,
          );
          at = tt;
        }

        by_over : (over : Bool) → is_over (ccw_at (program_of plans o.path o.ordinal) i) effect.outcome ≡ over
            → IsPlain plans empty (cond over (record {
              items = h.items ++ entry_of (with_end o e) Full ∷ [];
              running =
                  None;
              waiting = [];
            }) (record h { running = Some (with_end o e) }))
        by_over true over = is_done over
        by_over false over = goes_on over

        -- a command of the running program ends, where nobody waits for the program's end
        pub ended_plain : IsPlain plans empty (ended h e)
        ended_plain =
            subst (λ (x : Option OpenEntry). IsPlain plans empty (ended_in h e x)) (sym running)
            (subst (λ (over : Bool). IsPlain plans empty
            (cond over (closed h (with_end o e) Full) (record h { running = Some (with_end o e) }))) (sym over_is)
            (subst (λ (w : List ℕ). IsPlain plans empty
            (cond (is_over (ccw_at (program_of plans o.path o.ordinal) i) effect.outcome)
            (record { items = h.items ++ entry_of (with_end o e) Full ∷ resets_of w; running = None; waiting = [] })
            (record h { running = Some (with_end o e) }))) (sym none_waits)
            (by_over (is_over (ccw_at (program_of plans o.path o.ordinal) i) effect.outcome) refl)))
