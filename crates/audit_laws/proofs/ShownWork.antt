-- What a SENSE, an act, a cut and an order show of plain devices is what the audit makes of them.
use Rattle.std.proofs.Common.{◌≡◌, ◌+◌, ◌∷◌, ◌++◌, ℕ, [], List, Option, Some, None, Bool, true, false, cond, length}
use Rattle.std.proofs.Common.{refl, arith, sym, ap, subst, ◌∙◌, append_assoc}
use Rattle.std.specs.Prelude.{◌⊎◌, ◌&&◌, ◌==◌, nat_lt}
use Rattle.std.specs.Str.{bytes_eq}
use Rattle.std.proofs.lemmas.Bool.{and_from, and_parts, eq-eqb, eqb-true, lt-ltb, ne_eqb}
use Rattle.ckd_types.specs.declared.channel.CommandEnd.{CommandEnd}
use Rattle.ckd_types.specs.declared.sense.Sense.{Sense}
use Rattle.ckd_types.specs.Sense.{equipment_sense, data_check_sense}
use Rattle.ckd_rules.specs.Ending.{check}
use Rattle.plain_defs.specs.declared.journal.Act.TheVariants.{Loosen, Harden, CfwLost}
use Rattle.plain_defs.specs.declared.journal.How.TheVariants.{Cut}
use Rattle.plain_defs.specs.declared.journal.Item.TheVariants as items
use Rattle.plain_defs.specs.History.{History, OpenEntry, acted, entry_of, reset_in_history, resets_of}
use Rattle.plain_defs.specs.Legal.{IsCheck, IsLegal, IsSomeLoose}
use Rattle.plain_defs.specs.Loose.{is_loose_there}
use Rattle.plain_defs.specs.PlainState.{LooseTrack}
use Rattle.report_text.specs.declared.line.ReportLine.{ReportLine}
use Rattle.report_text.specs.declared.line.ReportLine.TheVariants as lines
use Rattle.deck_audit.specs.declared.state.Did.{Did}
use Rattle.deck_audit.specs.declared.state.Did.TheVariants.{Ended, CheckEnded, Halved}
use Rattle.deck_audit.specs.declared.state.Due.{Due}
use Rattle.deck_audit.specs.declared.state.Due.TheVariants.{Next, Behind, Losses, ResetOf, Powers}
use Rattle.deck_audit.specs.Same.{says}
use Rattle.deck_audit.specs.Device.{AuditedDevice, check_end, device_in, has_loose, is_next_legal, state_of, with_device, words_of_open}
use Rattle.deck_audit.specs.History.{act_made, act_of_work, changed, check_made, cut_half, cut_open, harden_made, has_sense, loosen_made, loss_line, loss_made}
use Rattle.deck_audit.specs.History.{order_made, place_of, power_cut, power_made, reset_made, sense_made}
use Rattle.deck_audit.specs.History as made
use Rattle.deck_audit.specs.State.{AuditState, then_of, worker, worker_number}
use Rattle.device_laws.proofs.WaitingResets.{started-append}
use Rattle.audit_laws.specs.Shown.{ActShows, CanBePlain, CanDo, PlainPast, ResetShows, SenseShows, cut_as, dark_as}
use Rattle.audit_laws.proofs.Devices.{put_found}
use Rattle.audit_laws.proofs.Lines.{same_some}
use Rattle.audit_laws.proofs.ShownPasts.{act_so, checked_so, cut_so, ended_so, loose_so}
use Rattle.audit_laws.proofs.Works.{Ends, next_is}

-- SENSE

same_bytes : (xs ys : List ℕ) → bytes_eq xs ys ≡ true → xs ≡ ys
same_bytes [] [] is = refl
same_bytes (x ∷ xs) (y ∷ ys) is =
    let parts = and_parts (x == y) (bytes_eq xs ys) is in
    ap (λ (n : ℕ). n ∷ xs) (eqb-true x y parts.0) ∙ ap (λ (l : List ℕ). y ∷ l) (same_bytes xs ys parts.1)
same_bytes [] (y ∷ ys) is = absurd (cc)
same_bytes (x ∷ xs) [] is = absurd (cc)

not_both : (line : ReportLine) → says (lines.Sense data_check_sense) line ≡ true → says (lines.Sense equipment_sense) line ≡ false
not_both line is = grind (arith, same_bytes)

module _ (s u : AuditState) (line : ReportLine) (p e : CommandEnd) (d : ℕ) (a : AuditedDevice)
    (found : device_in s.devices d ≡ Some a) (works : worker s ≡ Some a) (ends : Ends p a) where
  module _ (o : OpenEntry) (running : a.history.running ≡ Some o) (has : has_sense line e.sense ≡ true) where
    sense_plain : u ≡ record s { due = Behind true (Ended e) } → CanDo (Ended e) a → sense_made s line p a ≡ Some u
    sense_plain is can = grind (arith, same_some, ended_so)

    abbrev check_of : Sense → CommandEnd
    check_of sense = check_end (words_of_open a o) p.index sense

    by_sense : (check : IsCheck (words_of_open a o) e) → e.index ≡ p.index
        → (e.sense ≡ Some equipment_sense) ⊎ (e.sense ≡ Some data_check_sense) → check_made s line a p o ≡ Some (record s { due = Behind true (CheckEnded e) })
    by_sense check index x2 = grind (arith, not_both)

  pub sense_shown : SenseShows s line e a u → CanBePlain u d → sense_made s line p a ≡ Some u
  sense_shown shows can = grind (arith, sense_plain, checked_so, same_some, next_is, by_sense)

-- Acts

some_loose : (loose : List LooseTrack) → IsSomeLoose loose → nat_lt 0 (length loose) ≡ true
some_loose loose some = grind (arith, lt-ltb)

module _ (s u : AuditState) (d : ℕ) (can : CanBePlain u d) (a : AuditedDevice) (found : device_in s.devices d ≡ Some a) (plain : PlainPast a) where
  hardened : (track : ℕ) (due : Due) → is_loose_there (state_of a) track ≡ true → u ≡ act_made s a (Harden track) due → harden_made s a track due ≡ Some u
  hardened track due loose is = grind arith

  -- of an order

  pub order_firm : (track : ℕ) → u ≡ act_made s a (Harden track) Next → harden_made s a track Next ≡ Some u
  order_firm track is =
      let b : AuditedDevice = record a { history = acted a.history (Harden track) } in
      hardened track Next (act_so a plain Halved (Harden track) []
      (subst (λ (x : AuditState). CanBePlain x d) is can b (put_found s.devices d a b found refl))) is

  pub order_lost : (line : ReportLine) → says (loss_line a) line ≡ true → u ≡ act_made s a CfwLost (Losses a.number) → loss_made s line a ≡ Some u
  order_lost line told is =
      let b : AuditedDevice = record a { history = acted a.history CfwLost } in
      let some = act_so a plain Halved CfwLost [] (subst (λ (x : AuditState). CanBePlain x d) is can b (put_found s.devices d a b found refl)) in
      ap (λ (c : Bool). cond c (Some (act_made s a CfwLost (Losses a.number))) None)
      (and_from (has_loose a) (says (loss_line a) line) (some_loose (state_of a).loose some) told)
      ∙ ap (λ (x : AuditState). Some x) (sym is)

  -- of a piece of work

  module _ (works : worker_number s ≡ Some d) (did : Did) where
    work_at : (b : AuditedDevice) → b.number ≡ a.number → then_of (worker_number s) (device_in (with_device s.devices b)) ≡ Some b
    work_at b number = ap (λ (n : Option ℕ). then_of n (device_in (with_device s.devices b))) works ∙ put_found s.devices d a b found number

    work_loose : (track : ℕ) → u ≡ act_made s a (Loosen track) (Behind false did) → loosen_made s a track did ≡ Some u
    work_loose track is = grind (arith, loose_so, put_found, work_at)

    pub act_shown : (line : ReportLine) → ActShows s line did a u → act_of_work s line did a ≡ Some u
    act_shown line shows = grind (arith, put_found, work_at, hardened, act_so, work_loose)

-- Cuts

pub reset_is : (a : AuditedDevice) (o : OpenEntry) → a.history.running ≡ Some o → (more : ℕ)
    → reset_in_history a.history o.path more ≡ cut_as a.history o (length o.ends + more)
reset_is a o running more = grind (arith, eq-eqb)

module _ (s u : AuditState) (d : ℕ) (can : CanBePlain u d) (a : AuditedDevice) (found : device_in s.devices d ≡ Some a) where
  module _ (o : OpenEntry) (running : a.history.running ≡ Some o) (k : ℕ) where
    abbrev Took : Type 0
    Took = (k ≡ length o.ends) ⊎ ((k ≡ length o.ends + 1) × (is_next_legal a a.history.running ≡ true))

    -- so many commands, or one more, took effect
    tested : (f : ℕ → AuditState) → f k ≡ u → Took
        → cond (k == length o.ends) (Some (f (length o.ends + 0)))
        (cond ((k == length o.ends + 1) && is_next_legal a a.history.running) (Some (f (length o.ends + 1))) None) ≡ Some u
    tested f is x2 = grind (arith, eq-eqb, ne_eqb, and_from)

    -- by a reset

    abbrev reset_at : ℕ → AuditState
    reset_at n = record (changed s (record a { history = cut_as a.history o n; half = cut_half a.half })) { due = ResetOf }

    pub reset_shown : u ≡ reset_at k → made.cut_by s a o k ≡ Some u
    reset_shown is =
        let b : AuditedDevice = record a { history = cut_as a.history o k; half = cut_half a.half } in
        let p : PlainPast b = subst (λ (x : AuditState). CanBePlain x d) is can b (put_found s.devices d a b found refl) in
        ap (λ (h : History). cond (k == length o.ends) (Some (record (changed s (record a { history = h; half = cut_half a.half })) { due = ResetOf }))
        (cond ((k == length o.ends + 1) && is_next_legal a a.history.running)
        (Some (record (changed s (record a { history = reset_in_history a.history o.path 1; half = cut_half a.half })) { due = ResetOf })) None)) (reset_is a o running 0)
        ∙ ap (λ (h : History). cond (k == length o.ends) (Some (reset_at (length o.ends + 0)))
        (cond ((k == length o.ends + 1) && is_next_legal a a.history.running)
        (Some (record (changed s (record a { history = h; half = cut_half a.half })) { due = ResetOf })) None)) (reset_is a o running 1)
        ∙ tested reset_at (sym is) (cut_so a o running k (items.Reset o.path ∷ resets_of a.history.waiting) p.legal)

    -- or by a loss of power

    abbrev dark_at : ℕ → AuditState
    dark_at n = record (changed s (record a { history = dark_as a.history o n })) { due = Powers (place_of s.devices a.number) }

    legal_dark : PlainPast (made.without_power (record a { history = dark_as a.history o k }))
        → IsLegal a.plans a.empty (a.history.items ++ entry_of o (Cut k) ∷ items.Power ∷ [])
    legal_dark p = grind (arith, started-append, append_assoc)

    pub power_shown : u ≡ dark_at k → power_cut s a k o ≡ Some u
    power_shown is =
        let b : AuditedDevice = record a { history = dark_as a.history o k } in
        let p = subst (λ (x : AuditState). CanBePlain x d) is can b (put_found s.devices d a b found refl) in
        tested dark_at (sym is) (cut_so a o running k (items.Power ∷ []) (legal_dark p))

  -- Lines of cuts and orders

  pub reset_line_shown : (line : ReportLine) (path : ℕ) → ResetShows s line path a u → reset_made s line path a ≡ Some u
  reset_line_shown line path shows = grind (arith, reset_shown)
