-- The first line of an event isn't of the work before it, so lines that lead on from where that work is known to be done do so from where it isn't.
use Rattle.std.proofs.Common.{arith, ◌≡◌, ◌++◌, ℕ, Bool, true, false, List, [], ◌∷◌, Option, refl, sym, ap, subst, ◌∙◌, if◌then◌else◌}
use Rattle.std.specs.Prelude.{Result, Ok, Err}
use Rattle.std.proofs.lemmas.Bool.{or_from, and_right}
use Rattle.deck_plan.specs.declared.event.EventLine.{EventLine}
use Rattle.deck_plan.specs.declared.event.EventLine.TheVariants as events
use Rattle.report_text.specs.declared.answers.LooseAnswer.{LooseAnswer}
use Rattle.report_text.specs.declared.answers.LooseAnswer.TheVariants as loose
use Rattle.report_text.specs.declared.line.ReportLine.{ReportLine}
use Rattle.report_text.specs.declared.line.ReportLine.TheVariants as lines
use Rattle.report_text.specs.declared.order.Order.{Order}
use Rattle.deck_audit.specs.declared.state.Due.TheVariants.{Next, Behind, Nothing}
use Rattle.deck_audit.specs.declared.state.HalfWrite.{HalfWrite}
use Rattle.deck_audit.specs.declared.state.OpenProgram.{OpenProgram}
use Rattle.deck_audit.specs.declared.state.Outline.{Outline}
use Rattle.deck_audit.specs.Place.{holds, in_next, in_power, in_power_of, is_act_of, is_back_line, is_cut, is_end, is_half, is_io, is_loss, is_loss_of, is_of_work, is_order, is_power_done, is_reset, is_second_line, is_start, may_reset, may_step, second_of}
use Rattle.deck_audit.specs.Same.{says}
use Rattle.deck_audit.specs.State.{AuditState, worker_number}
use Rattle.deck_audit.specs.declared.status.AuditWhy.{AuditWhy}
use Rattle.deck_audit.specs.declared.status.AuditWhy.TheVariants.{Place}
use Rattle.subsystem_defs.specs.Subsystem.{Subsystem}
use Rattle.audit_laws.specs.Standing.{LeadsBy, stand}
use Rattle.audit_laws.specs.Steps.{LeadsTowards, Reaches, is_there, is_waiting}
use Rattle.audit_laws.proofs.own.Leading.{leads_on, waiting_leads}

-- an event line that isn't a volume's failure
abbrev pub IsCalm : EventLine → Type 0
IsCalm (events.FailVolume d side) = ⊥
IsCalm e = Unit {0}

-- A line that begins no event

record BeginsNothing (line : ReportLine) : Type 0 where
  ends : (d : ℕ) (o : OpenProgram) → is_end d o line ≡ false
  halves : (d : ℕ) (o : OpenProgram) → is_half d o line ≡ false
  seconds : (d : ℕ) → is_second_line d line ≡ false
  backs : (d : ℕ) → is_back_line d line ≡ false
  steps : (d : ℕ) → says (lines.StepIdle d) line ≡ false
  runs : (d : ℕ) → says (lines.RunIdle d) line ≡ false
  starts : (path d : ℕ) → is_start path d line ≡ false
  resets : (path d : ℕ) → is_reset path d line ≡ false
  cuts : (d : ℕ) (o : OpenProgram) → is_cut d o line ≡ false
  orders_are : (o : Order) → is_order o line ≡ false
  losses : (s : List Outline) → is_loss s line ≡ false
  loss_of : (d : ℕ) → is_loss_of d line ≡ false
  power : is_power_done line ≡ false
  totals : (s : List Outline) → in_next s line [] ≡ false

pub never_holds : {T : Type 0} (o : Option T) (f : T → Bool) → ((x : T) → f x ≡ false) → holds o f ≡ false
never_holds o f no_one = grind arith

module _ (line : ReportLine) (b : BeginsNothing line) where
  no_second : (a : Outline) (r : Option OpenProgram) → second_of a line r ≡ false
  no_second a r = never_holds r (λ o. is_end a.number o line) (b.ends a.number)

  no_step : (a : Outline) (idle : ReportLine) → says idle line ≡ false → (h : HalfWrite) → may_step a idle line h ≡ false
  no_step a idle no_idle h = grind (arith, or_from, no_second)

  no_reset : (path d : ℕ) (a : Outline) (r : Option OpenProgram) → may_reset path d a line r ≡ false
  no_reset path d a r = grind arith

  no_power_of : (a : Outline) (below : Bool) → below ≡ false → (r : Option OpenProgram) → in_power_of a line below r ≡ false
  no_power_of a below none r = grind (arith, or_from, and_right)

  no_power : (s : List Outline) → in_power line s ≡ false
  no_power [] = b.power
  no_power (a ∷ left) = no_power_of a (in_power line left) (no_power left) a.running

-- Lines of work behind its first one

loose_begins_none : (n : ℕ) (a : LooseAnswer) → ((s : List Outline) → is_loss s (lines.Loose n a) ≡ false) →
    ((d : ℕ) → is_loss_of d (lines.Loose n a) ≡ false) → BeginsNothing (lines.Loose n a)
loose_begins_none n a no_loss no_loss_of = search arith

-- Every line

pub of_none : (line : ReportLine) → is_io line ≡ false → ((d : ℕ) → is_act_of true d line ≡ false) → (more : Bool) (w : Option ℕ) →
    is_of_work more w line ≡ false
of_none line no_io act more w = grind arith

-- the first event line that is left, if there is one, is no volume's failure
abbrev pub BeginsCalmly : List EventLine → Type 0
BeginsCalmly [] = Unit {0}
BeginsCalmly (e ∷ later) = IsCalm e

module _ (s : List Outline) (left : List EventLine) (calm : BeginsCalmly left) (more : Bool) (w : Option ℕ) where
  refuted_in : (line : ReportLine) → BeginsNothing line → (l : List EventLine) → BeginsCalmly l → in_next s line l ≡ true → is_of_work more w line ≡ false
  refuted_in line b l calmly is = grind (arith, never_holds, no_step, no_second, no_reset, or_from, no_power)

  refuted : (line : ReportLine) → BeginsNothing line → in_next s line left ≡ true → is_of_work more w line ≡ false
  refuted line b is = refuted_in line b left calm is

  loose_by : (n : ℕ) (a : LooseAnswer) → in_next s (lines.Loose n a) left ≡ true → is_of_work more w (lines.Loose n a) ≡ false
  loose_by n (loose.Lost count id) is = of_none (lines.Loose n (loose.Lost count id)) refl (λ d. refl) more w
  loose_by n a is = refuted (lines.Loose n a) (loose_begins_none n a (λ s. refl) (λ d. refl)) is

  -- a line that comes next is none of the work before
  next_is_other : (line : ReportLine) → in_next s line left ≡ true → is_of_work more w line ≡ false
  next_is_other line is = grind (arith, loose_by, refuted, of_none)

-- From where a piece of work is known to be done at the next line

pub stands_so : (b : Bool) (r : Result AuditState AuditWhy) (u : AuditState) → (if b then r else Err Place) ≡ Ok u → (b ≡ true) × (r ≡ Ok u)
stands_so b r u is = grind arith

module _ (s : Subsystem) (later : List EventLine) (n : Option ℕ) (calm : BeginsCalmly later) where
  pub leads_from : (u : AuditState) → Reaches n u (stand s later) → (line : ReportLine) (lines : List ReportLine) (t : AuditState) →
      LeadsBy (stand s later) (line ∷ lines) t → LeadsBy u (line ∷ lines) t
  leads_from u x2 line lines t leads = search (arith, stands_so, waiting_leads, next_is_other)

  -- lines of the same device's work
  pub towards_from : (u : AuditState) → Reaches n u (stand s later) → (ls : List ReportLine) (t : AuditState) →
      (leads : (v : AuditState) × LeadsBy (stand s later) ls v × Reaches n v t) → (v : AuditState) × LeadsBy u ls v × Reaches n v t
  towards_from u reaches [] t leads = (u, refl, by_way leads.2) where
    by_way : Reaches n leads.0 t → Reaches n u t
    by_way (is_there same) = subst (λ (z : AuditState). Reaches n u z) (sym leads.1 ∙ same) reaches
    by_way (is_waiting more did is works legal same) =
        absurd (let none : Next ≡ Behind more did = ap (λ (z : AuditState). z.due) (sym leads.1) ∙ is in cc)
  towards_from u reaches (line ∷ ls) t leads = (leads.0, leads_from u reaches line ls leads.0 leads.1, leads.2)

  -- to the end
  pub to_the_end : (u : AuditState) → Reaches n u (stand s later) → (ls : List ReportLine) (t : AuditState) → t.due ≡ Nothing →
      LeadsBy (stand s later) ls t → LeadsBy u ls t
  to_the_end u reaches [] t done leads = absurd (let none : Nothing ≡ Next = sym done ∙ ap (λ (z : AuditState). z.due) leads in cc)
  to_the_end u reaches (line ∷ ls) t done leads = leads_from u reaches line ls t leads

  -- to where other events are left
  pub exactly_from : (u : AuditState) → Reaches n u (stand s later) → (z : Subsystem) (rest : List EventLine) → (later ≡ rest → ⊥) → (ls : List ReportLine) →
      LeadsBy (stand s later) ls (stand z rest) → LeadsBy u ls (stand z rest)
  exactly_from u reaches z rest other [] leads = absurd (other (ap (λ (k : AuditState). k.events) (sym leads)))
  exactly_from u reaches z rest other (line ∷ ls) leads = leads_from u reaches line ls (stand z rest) leads

  -- or towards there
  pub towards_other : (u : AuditState) → Reaches n u (stand s later) → (z : Subsystem) (rest : List EventLine) → (later ≡ rest → ⊥) → (ls : List ReportLine) →
      (k : Option ℕ) → (leads : (v : AuditState) × LeadsBy (stand s later) ls v × Reaches k v (stand z rest)) →
      (v : AuditState) × LeadsBy u ls v × Reaches k v (stand z rest)
  towards_other u reaches z rest other [] k leads = grind arith
  towards_other u reaches z rest other (line ∷ ls) k leads = (leads.0, leads_from u reaches line ls leads.0 leads.1, leads.2)

  -- lines lead on behind others
  pub towards_then : (z t : AuditState) (xs ys : List ReportLine) → worker_number z ≡ n → worker_number (stand s later) ≡ n →
      LeadsTowards z xs (stand s later) → LeadsTowards (stand s later) ys t → LeadsTowards z (xs ++ ys) t
  towards_then z t xs ys one two first rest =
      let from = subst (λ (k : Option ℕ). Reaches k first.0 (stand s later)) one first.2 in
      let more = towards_from first.0 from ys t (rest.0, rest.1, subst (λ (k : Option ℕ). Reaches k rest.0 t) two rest.2) in
      (more.0, leads_on z first.0 more.0 xs ys first.1 more.1, subst (λ (k : Option ℕ). Reaches k more.0 t) (sym one) more.2)
