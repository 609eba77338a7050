-- A track that becomes firm behind the end of a command reads as one that became so before it.
use Rattle.std.proofs.Common.{arith, ◌≡◌, ℕ, Bool, true, false, List, Option, Some, None, refl, sym, ap, subst, ◌∙◌}
use Rattle.std.specs.Prelude.{is_some, option_map}
use Rattle.std.proofs.lemmas.Bool.{or_right}
use Rattle.ckd_types.specs.declared.channel.CommandEnd.{CommandEnd}
use Rattle.ckd_types.specs.Fixed.{Fixed}
use Rattle.ckd_rules.specs.declared.stance.Stance.{Stance}
use Rattle.plain_defs.specs.declared.journal.Act.TheVariants.{Harden}
use Rattle.plain_defs.specs.Acknowledged.{EditTold}
use Rattle.plain_defs.specs.History.{IsPlain, OpenEntry, acted}
use Rattle.plain_defs.specs.Journal.{Plans, replay}
use Rattle.plain_defs.specs.Loose.{is_loose_there}
use Rattle.plain_defs.specs.PlainState.{PlainState}
use Rattle.plain_defs.specs.Program.{Part}
use Rattle.deck_audit.specs.declared.state.Did.{Did}
use Rattle.deck_audit.specs.declared.state.Did.TheVariants.{CheckEnded, Ended, Halved, Worked}
use Rattle.deck_plan.specs.declared.event.EventLine.{EventLine}
use Rattle.deck_audit.specs.Device.{AuditedDevice, state_of}
use Rattle.deck_audit.specs.History.{is_legal}
use Rattle.deck_audit.specs.State.{is_event_over, over_by, worked}
use Rattle.audit_laws.proofs.own.AlikeDevices.{Alike, Seen, edit_in, legal_by, seen, state_in}
use Rattle.audit_laws.proofs.own.LooseOnce.{fewer_loose}
use Rattle.audit_laws.proofs.own.Pasts.{Going, IsTidy, Past, act_by, act_is_read, act_now, acted_past, check_is_read, checked_past, end_is_read, ended_past, goes_on, going_of, next_part, over_past, untold}

-- behind this piece of work no program is over
abbrev pub IsQuiet : Did → Option Going → Type 0
IsQuiet (Ended e) (Some g) = e.over ≡ false
IsQuiet (CheckEnded e) (Some g) = ⊥
IsQuiet did r = Unit {0}

-- the program that runs has a next command
abbrev pub GoesOn : Option Going → Type 0
GoesOn (Some g) = is_some g.part.next ≡ true
GoesOn None = Unit {0}

abbrev done_past : Did → Plans → Past → Past
done_past (Ended e) plans x = ended_past e plans x
done_past (CheckEnded e) plans x = checked_past e plans x
done_past Halved plans x = x
done_past (Worked last) plans x = x

abbrev firm_part : ℕ → Part → Part
firm_part k p = untold (act_now (Harden k) p)

abbrev firmed : ℕ → Option Going → Option Going
firmed k (Some g) = Some (record g { part = firm_part k g.part })
firmed k None = None

-- A command that may edit its track may do so where fewer are loose

-- Where the program then is

module _ (plans : Plans) (k path ordinal : ℕ) (ends : List CommandEnd) (fixed : Fixed) (state : PlainState) (stance : Stance) (before : List CommandEnd)
    (told : List EditTold) where
  abbrev at : Option ℕ → Going
  at next = record {
    path = path;
    ordinal = ordinal;
    ends = ends;
    part = record { fixed = fixed; state = state; stance = stance; next = next; ends = before; told = told };
  }

  firm_first : (next : Option ℕ) → is_some (next_part plans (at next)).next ≡ true →
      next_part plans (record (at next) { part = firm_part k (at next).part }) ≡ firm_part k (next_part plans (at next))
  firm_first next more = grind (arith, untold, act_by)

  legal_firmed : (next : Option ℕ) → legal_by plans (Some (at next)) ≡ true → legal_by plans (Some (record (at next) { part = firm_part k (at next).part })) ≡ true
  legal_firmed next legal = grind (arith, edit_in, fewer_loose, or_right)

-- The same of any program

module _ (plans : Plans) (k : ℕ) (g : Going) where
  legal_kept : legal_by plans (Some g) ≡ true → legal_by plans (Some (record g { part = firm_part k g.part })) ≡ true
  legal_kept legal = legal_firmed plans k g.path g.ordinal g.ends g.part.fixed g.part.state g.part.stance g.part.ends g.part.told g.part.next legal

-- Pasts

abbrev with_going : Past → Option Going → Past
with_going x r = record x { running = r }

abbrev legal_did : Did → Plans → Option Going → Bool
legal_did (Ended e) plans r = legal_by plans r
legal_did (CheckEnded e) plans r = true
legal_did Halved plans r = true
legal_did (Worked last) plans r = true

module _ (plans : Plans) (k : ℕ) where
  commutes : (did : Did) (x : Past) (r : Option Going) → IsQuiet did r → GoesOn (done_past did plans (with_going x r)).running →
      done_past did plans (acted_past (Harden k) plans (with_going x r)) ≡ acted_past (Harden k) plans (done_past did plans (with_going x r))
  commutes did x r quiet goes = grind (arith, acted_past)

  running_firmed : (x : Past) (r : Option Going) → (acted_past (Harden k) plans (with_going x r)).running ≡ firmed k r
  running_firmed x r = grind arith

  still_quiet : (did : Did) (r : Option Going) → IsQuiet did r → IsQuiet did (firmed k r)
  still_quiet did r quiet = grind arith

  still_goes : (r : Option Going) → GoesOn r → GoesOn (firmed k r)
  still_goes r goes = grind arith

  still_legal : (did : Did) (r : Option Going) → legal_did did plans r ≡ true → legal_did did plans (firmed k r) ≡ true
  still_legal did r legal = grind (arith, legal_kept)

-- Devices

abbrev pub firmer : ℕ → AuditedDevice → AuditedDevice
firmer k a = record a { history = acted a.history (Harden k) }

pub done_tidy : (a : AuditedDevice) (did : Did) → IsTidy a.history → IsTidy (worked a did).history
done_tidy a (Ended e) tidy = (end_is_read e).tidy a.history tidy
done_tidy a (CheckEnded e) tidy = (check_is_read e).tidy a.history tidy
done_tidy a did tidy = tidy

seen_done : (a : AuditedDevice) (did : Did) → IsTidy a.history → seen (worked a did) ≡ record (seen a) { past = done_past did a.plans (seen a).past }
seen_done a (Ended e) tidy = ap (λ (x : Past). record (seen a) { past = x }) ((end_is_read e).past a.plans a.empty a.history tidy)
seen_done a (CheckEnded e) tidy = ap (λ (x : Past). record (seen a) { past = x }) ((check_is_read e).past a.plans a.empty a.history tidy)
seen_done a did tidy = refl

legal_seen : (a : AuditedDevice) (did : Did) → is_legal did a ≡ legal_did did a.plans (seen a).past.running
legal_seen a did = grind arith

module _ (a : AuditedDevice) where
  pub quiet_of : (did : Did) (r : Option OpenEntry) → over_by a did r ≡ None →
      IsQuiet did (option_map (going_of a.plans (replay a.plans a.empty a.history.items)) r)
  quiet_of did r none = grind arith

  -- the program of a plain device that isn't over goes on
  pub plain_goes : IsPlain a.plans a.empty a.history → GoesOn (seen a).past.running
  plain_goes plain = grind arith

  module _ (k : ℕ) where
    seen_firm : IsTidy a.history → seen (firmer k a) ≡ record (seen a) { past = acted_past (Harden k) a.plans (seen a).past }
    seen_firm tidy = ap (λ (x : Past). record (seen a) { past = x }) ((act_is_read (Harden k)).past a.plans a.empty a.history tidy)

    pub firm_tidy : IsTidy a.history → IsTidy (firmer k a).history
    firm_tidy tidy = (act_is_read (Harden k)).tidy a.history tidy

    firm_program : IsTidy a.history → (seen (firmer k a)).past.running ≡ firmed k (seen a).past.running
    firm_program tidy = ap (λ (x : Seen). x.past.running) (seen_firm tidy) ∙ running_firmed a.plans k (seen a).past (seen a).past.running

    pub firm_goes : IsTidy a.history → GoesOn (seen a).past.running → GoesOn (seen (firmer k a)).past.running
    firm_goes tidy goes = subst GoesOn (sym (firm_program tidy)) (still_goes a.plans k (seen a).past.running goes)

    pub firm_over : (e : Option EventLine) (did : Did) → is_event_over e (firmer k a) did ≡ is_event_over e a did
    firm_over e did = grind arith

    module _ (did : Did) (tidy : IsTidy a.history) (quiet : IsQuiet did (seen a).past.running) where
      pub firm_quiet : IsQuiet did (seen (firmer k a)).past.running
      firm_quiet = subst (IsQuiet did) (sym (firm_program tidy)) (still_quiet a.plans k did (seen a).past.running quiet)

      pub firm_legal : is_legal did a ≡ true → is_legal did (firmer k a) ≡ true
      firm_legal legal = grind (arith, legal_seen, firm_program, still_legal, seen)

      -- which tracks are loose
      pub loose_behind : (t : ℕ) → is_loose_there (state_of (worked a did)) t ≡ is_loose_there (state_of a) t
      loose_behind t = grind (arith, state_in, seen_done, seen, over_past, next_part, goes_on)

      -- before the end as behind it
      pub firm_either : GoesOn (seen (worked a did)).past.running → Alike (worked (firmer k a) did) (firmer k (worked a did))
      firm_either goes =
          let b = worked a did in
          let done = done_tidy a did tidy in
          let going = subst (λ (x : Seen). GoesOn x.past.running) (seen_done a did tidy) goes in
          record {
            same = seen_done (firmer k a) did (firm_tidy tidy)
                ∙ ap (λ (x : Seen). record x { past = done_past did x.plans x.past }) (seen_firm tidy)
                ∙ ap (λ (x : Past). record (seen a) { past = x }) (commutes a.plans k did (seen a).past (seen a).past.running quiet going)
                ∙ sym (ap (λ (x : Seen). record x { past = acted_past (Harden k) x.plans x.past }) (seen_done a did tidy))
                ∙ sym (ap (λ (x : Past). record (seen b) { past = x }) ((act_is_read (Harden k)).past b.plans b.empty b.history done));
            tidy = done_tidy (firmer k a) did (firm_tidy tidy);
            tidy_too = (act_is_read (Harden k)).tidy b.history done;
          }
