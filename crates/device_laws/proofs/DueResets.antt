-- The resets that wait stay due along every event of a device's history.
use Rattle.std.proofs.Common.{◌≡◌, ◌≤◌, ◌==◌, ℕ, suc, List, [], ◌∷◌, ◌++◌, Option, Some, None, true, false, refl, arith, sym, subst}
use Rattle.std.specs.Prelude.{nat_lt, if◌then◌else◌}
use Rattle.std.proofs.lemmas.Bool.{cond_both, eqb-false, ltb-true, ltb-false}
use Rattle.ckd_types.specs.declared.channel.CommandEnd.{CommandEnd}
use Rattle.plain_defs.specs.declared.journal.Act.{Act}
use Rattle.plain_defs.specs.declared.journal.How.{How}
use Rattle.plain_defs.specs.declared.journal.How.TheVariants.{Full, Checked}
use Rattle.plain_defs.specs.declared.journal.Item.{Item}
use Rattle.plain_defs.specs.declared.journal.Item.TheVariants as items
use Rattle.plain_defs.specs.History.{
  History,
  OpenEntry,
  started,
  with_end,
  closed,
  ended,
  ended_in,
  checked,
  checked_in,
  put,
  cut_by,
  reset_in_history,
  reset_in,
  acted,
  acted_in,
  lost_power,
  lost_power_in,
  emptied,
}
use Rattle.plain_defs.specs.Legal.{is_used, is_started}
use Rattle.device_defs.specs.Device.{all_acted}
use Rattle.device_laws.proofs.OpenProgram.{with_one_act}
use Rattle.device_laws.proofs.WaitingResets.{AreDue, AreOthers, AreRising, AreUsed, WaitFor}

-- One more that waits

pub put_rising : (path least : ℕ) (paths : List ℕ) → least ≤ path → AreRising least paths → AreRising least (put path paths)
put_rising path least [] le rising = (le, tt)
put_rising path least (p ∷ paths) le rising =
    cond_both (path == p) (p ∷ paths) (if nat_lt path p then path ∷ p ∷ paths else p ∷ put path paths)
    (λ (l : List ℕ). AreRising least l) (λ same. rising)
    (λ other. cond_both (nat_lt path p) (path ∷ p ∷ paths) (p ∷ put path paths) (λ (l : List ℕ). AreRising least l)
    (λ below. (le, (ltb-true path p below, rising.1)))
    (λ above. (
      rising.0,
      put_rising path (suc p) paths (behind (eqb-false path p other) (ltb-false path p above)) rising.1,
    ))) where
      behind : (path ≡ p → ⊥) → p ≤ path → suc p ≤ path
      behind apart above = omega (arith, apart, above)

pub put_used : (items : List Item) (path : ℕ) (paths : List ℕ) → is_used path false items ≡ true → AreUsed items paths
    → AreUsed items (put path paths)
put_used items path [] used them = (used, tt)
put_used items path (p ∷ paths) used them =
    cond_both (path == p) (p ∷ paths) (if nat_lt path p then path ∷ p ∷ paths else p ∷ put path paths)
    (λ (l : List ℕ). AreUsed items l) (λ same. them)
    (λ other. cond_both (nat_lt path p) (path ∷ p ∷ paths) (p ∷ put path paths) (λ (l : List ℕ). AreUsed items l)
    (λ below. (used, them)) (λ above. (them.0, put_used items path paths used them.1)))

pub put_others : (own path : ℕ) (paths : List ℕ) → (own == path) ≡ false → AreOthers own paths → AreOthers own (put path paths)
put_others own path [] apart them = (apart, tt)
put_others own path (p ∷ paths) apart them =
    cond_both (path == p) (p ∷ paths) (if nat_lt path p then path ∷ p ∷ paths else p ∷ put path paths)
    (λ (l : List ℕ). AreOthers own l) (λ same. them)
    (λ other. cond_both (nat_lt path p) (path ∷ p ∷ paths) (p ∷ put path paths) (λ (l : List ℕ). AreOthers own l)
    (λ below. (apart, them)) (λ above. (them.0, put_others own path paths apart them.1)))

-- Events

none_due : (items : List Item) → AreDue (record { items = items; running = None; waiting = [] })
none_due items = record { rising = tt; used = tt; others = refl }

module _ (h : History) (due : AreDue h) where
  none_waits : h.running ≡ None → h.waiting ≡ []
  none_waits stands = subst (λ (r : Option OpenEntry). WaitFor r h.waiting) stands due.others

  others_of : (o : OpenEntry) → h.running ≡ Some o → AreOthers o.path h.waiting
  others_of o running = subst (λ (r : Option OpenEntry). WaitFor r h.waiting) running due.others

  -- whatever items follow while nothing runs
  idle_due : (items : List Item) → h.running ≡ None → AreDue (record h { items = items })
  idle_due items stands = record {
    rising = due.rising;
    used = subst (λ (l : List ℕ). AreUsed items l) (sym (none_waits stands)) tt;
    others = due.others;
  }

  -- the running program of the same path
  same_path : (o later : OpenEntry) → h.running ≡ Some o → later.path ≡ o.path → AreDue (record h { running = Some later })
  same_path o later running same = record {
    rising = due.rising;
    used = due.used;
    others = subst (λ (path : ℕ). AreOthers path h.waiting) (sym same) (others_of o running);
  }

  pub started_due : h.running ≡ None → (path ordinal : ℕ) → AreDue (started h path ordinal)
  started_due stands path ordinal = record {
    rising = due.rising;
    used = due.used;
    others = subst (λ (l : List ℕ). AreOthers path l) (sym (none_waits stands)) tt;
  }

  closed_due : (o : OpenEntry) (how : How) → AreDue (closed h o how)
  closed_due o how = record { rising = tt; used = tt; others = refl }

  ended_by : (e : CommandEnd) (r : Option OpenEntry) → h.running ≡ r → AreDue (ended_in h e r)
  ended_by e None stands = due
  ended_by e (Some o) running = cond_both e.over (closed h (with_end o e) Full) (record h { running = Some (with_end o e) })
      (λ (k : History). AreDue k) (λ over. closed_due (with_end o e) Full) (λ more. same_path o (with_end o e) running refl)

  pub ended_due : (e : CommandEnd) → AreDue (ended h e)
  ended_due e = ended_by e h.running refl

  checked_by : (e : CommandEnd) (r : Option OpenEntry) → AreDue (checked_in h e r)
  checked_by e None = due
  checked_by e (Some o) = closed_due (with_end o e) Checked

  pub checked_due : (e : CommandEnd) → AreDue (checked h e)
  checked_due e = checked_by e h.running

  waits_due : (o : OpenEntry) → h.running ≡ Some o → (path : ℕ) → (o.path == path) ≡ false → is_used path false h.items ≡ true
      → AreDue (record h { waiting = put path h.waiting })
  waits_due o running path apart used = record {
    rising = put_rising path 0 h.waiting (omega arith) due.rising;
    used = put_used h.items path h.waiting used due.used;
    others = rw running (put_others o.path path h.waiting apart (others_of o running));
  }

  reset_by : (path more : ℕ) (r : Option OpenEntry) → h.running ≡ r → AreDue (reset_in h path more r)
  reset_by path more None stands = cond_both (is_used path false h.items) (record h { items = h.items ++ items.Reset path ∷ [] }) h
      (λ (k : History). AreDue k) (λ used. idle_due (h.items ++ items.Reset path ∷ []) stands) (λ unused. due)
  reset_by path more (Some o) running =
      cond_both (o.path == path) (cut_by h o more) (if is_used path false h.items then record h { waiting = put path h.waiting } else h)
      (λ (k : History). AreDue k) (λ own. record { rising = tt; used = tt; others = refl })
      (λ apart. cond_both (is_used path false h.items) (record h { waiting = put path h.waiting }) h (λ (k : History). AreDue k)
      (λ used. waits_due o running path apart used) (λ unused. due))

  pub reset_due : (path more : ℕ) → AreDue (reset_in_history h path more)
  reset_due path more = reset_by path more h.running refl

  acted_by : (act : Act) (r : Option OpenEntry) → h.running ≡ r → AreDue (acted_in h act r)
  acted_by act None stands = idle_due (h.items ++ items.Act act ∷ []) stands
  acted_by act (Some o) running = same_path o (with_one_act o act) running refl

  pub acted_due : (act : Act) → AreDue (acted h act)
  acted_due act = acted_by act h.running refl

  pub emptied_due : h.running ≡ None → AreDue (emptied h)
  emptied_due stands = idle_due (h.items ++ items.Fresh ∷ []) stands

  power_by : (more : ℕ) (r : Option OpenEntry) → AreDue (lost_power_in h more r)
  power_by more None = cond_both (is_started false h.items)
      (record { items = h.items ++ items.Power ∷ []; running = None; waiting = [] }) h
      (λ (k : History). AreDue k) (λ began. none_due (h.items ++ items.Power ∷ [])) (λ unused. due)
  power_by more (Some o) = record { rising = tt; used = tt; others = refl }

  pub lost_power_due : (more : ℕ) → AreDue (lost_power h more)
  lost_power_due more = power_by more h.running

pub all_acted_due : (acts : List Act) (h : History) → AreDue h → AreDue (all_acted h acts)
all_acted_due [] h due = due
all_acted_due (act ∷ acts) h due = all_acted_due acts (acted h act) (acted_due h due act)
