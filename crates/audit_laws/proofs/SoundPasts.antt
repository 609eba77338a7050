-- Behind lines without a fault each device can be plain.
use Rattle.std.proofs.Common.{arith, ◌≡◌, ◌∷◌, ℕ, [], List, Option, Some, None, Bool, true, false, not}
use Rattle.std.proofs.Common.{refl, sym, ap, ◌∙◌, inl}
use Rattle.std.proofs.lemmas.Bool.{or_left, or_parts}
use Rattle.ckd_types.specs.declared.channel.CommandEnd.{CommandEnd}
use Rattle.ckd_types.specs.Parameters.{is_provisional}
use Rattle.ckd_rules.specs.Walk.{TrackEdit}
use Rattle.deck_text.specs.declared.line.DeviceLine.{DeviceLine}
use Rattle.deck_text.specs.declared.line.PlannedProgram.{PlannedProgram}
use Rattle.plain_defs.specs.declared.journal.Act.TheVariants.{Harden}
use Rattle.plain_defs.specs.History.{OpenEntry, acted}
use Rattle.plain_defs.specs.Loose.{is_loose_in, is_loose_there, without}
use Rattle.plain_defs.specs.PlainState.{LooseTrack, PlainState}
use Rattle.deck_audit.specs.declared.state.Did.{Did}
use Rattle.deck_audit.specs.declared.state.Did.TheVariants.{Ended, CheckEnded}
use Rattle.deck_audit.specs.declared.state.Due.{Due}
use Rattle.deck_audit.specs.declared.state.Due.TheVariants.{DataOf, SenseOf, Behind, Powers}
use Rattle.deck_audit.specs.Device.{AuditedDevice, device_in, edit_of, is_edit_legal, is_next_legal, part_of_open, state_of}
use Rattle.deck_audit.specs.State.{AuditState, then_of, worker}
use Rattle.device_laws.proofs.OpenProgram.{with_one_act}
use Rattle.audit_laws.specs.Shown.{CanAllBePlain, CanBeAt, CanDo}
use Rattle.audit_laws.proofs.Devices.{each_found}
use Rattle.audit_laws.proofs.Lines.{AreSo, AtWork, IsSoundState}
use Rattle.audit_laws.proofs.ShownPasts.{state_is}
use Rattle.audit_laws.proofs.Sound.{Darkening, Sound, darkened_sound}
use Rattle.audit_laws.proofs.Works.{Checks, DidSo, Ends, acted_is, checked_sound, ended_sound, ends_hardened, part_is}

firm_now : (loose : List LooseTrack) (t : ℕ) → is_loose_in (without t loose) t ≡ false
firm_now [] t = refl
firm_now (l ∷ loose) t = grind (arith, firm_now loose t, loose)

record LooseEdit (a : AuditedDevice) (o : OpenEntry) : Type 0 where
  pub edit : TrackEdit
  pub is : edit_of a o ≡ Some edit
  pub loose : is_loose_there (part_of_open a o).state edit.track ≡ true

not_firm : (b : Bool) → not b ≡ false → b ≡ true
not_firm b is = grind arith

module _ (a : AuditedDevice) (e : CommandEnd) (ends : Ends e a) where
  module _ (o : OpenEntry) (running : a.history.running ≡ Some o) where
    loose_edit : (edit : Option TrackEdit) → edit_of a o ≡ edit → is_edit_legal (part_of_open a o) edit ≡ false → LooseEdit a o
    loose_edit None is bad = absurd (cc)
    loose_edit (Some x) is bad = record {
      edit = x;
      is = is;
      loose = not_firm (is_loose_there (part_of_open a o).state x.track)
          (or_parts (not (is_loose_there (part_of_open a o).state x.track)) (is_provisional (part_of_open a o).stance.extent) bad).0;
    }

    module _ (x : LooseEdit a o) where
      abbrev track : ℕ
      track = x.edit.track

      abbrev later : OpenEntry
      later = with_one_act o (Harden x.edit.track)

      abbrev firm : AuditedDevice
      firm = record a { history = acted a.history (Harden x.edit.track) }

      abbrev hardened : AuditedDevice
      hardened = record a { history = record a.history { running = Some (with_one_act o (Harden x.edit.track)) } }

      edit_is : edit_of hardened later ≡ Some x.edit
      edit_is = grind (arith, part_is)

      legal : is_next_legal firm firm.history.running ≡ true
      legal = grind (arith, acted_is, edit_is, part_is, or_left, firm_now)

      loose : is_loose_there (state_of a) x.edit.track ≡ true
      loose = ap (λ (z : PlainState). is_loose_there z x.edit.track) (state_is a o running) ∙ x.loose

      once_firm : CanDo (Ended e) a
      once_firm = (Harden x.edit.track ∷ [], tt, (ended_sound firm e (ends_hardened a x.edit.track loose e ends) legal).plain)

  by_running : (r : Option OpenEntry) → a.history.running ≡ r → is_next_legal a r ≡ false → CanDo (Ended e) a
  by_running (Some o) running bad = once_firm o running (loose_edit o running (edit_of a o) refl bad)
  by_running None stands bad = absurd (cc)

  by_legal : (b : Bool) → is_next_legal a a.history.running ≡ b → CanDo (Ended e) a
  by_legal true legal = ([], tt, (ended_sound a e ends legal).plain)
  by_legal false bad = by_running a.history.running refl bad

  -- a command can end as on the plain device, at once, or once its track became firm
  pub can_end : CanDo (Ended e) a
  can_end = by_legal (is_next_legal a a.history.running) refl

module _ (programs : List PlannedProgram) (of : List DeviceLine) (s : AuditState) (d : ℕ) (a : AuditedDevice) (found : device_in s.devices d ≡ Some a) where
  -- the device at work
  work_of : (G : AuditedDevice → Type 0) → AtWork programs of G s.events s.devices → worker s ≡ Some a → G a
  work_of G so works = so.2.here a (sym (ap (λ (n : Option ℕ). then_of n (device_in s.devices)) so.1) ∙ works)

  did_so : (more : Bool) (did : Did) → AtWork programs of (DidSo more did) s.events s.devices → CanBeAt s a (Behind more did)
  did_so true (Ended e) so = λ works. can_end a e (work_of (Ends e) so works)
  did_so true (CheckEnded e) so = λ works. ([], tt, (checked_sound a e (work_of (Checks e) so works)).plain)
  did_so true did so = λ works. ([], tt, (work_of Sound so works).plain)
  did_so false (Ended e) so = λ works. (work_of (DidSo false (Ended e)) so works).plain
  did_so false (CheckEnded e) so = λ works. (checked_sound a e (work_of (Checks e) so works)).plain
  did_so false did so = λ works. (work_of Sound so works).plain

  can_by : (due : Due) → AreSo programs of due s.events s.devices → CanBeAt s a due
  can_by (DataOf e) so = λ works. can_end a e (work_of (Ends e) so works)
  can_by (SenseOf e) so = λ works. inl (can_end a e (work_of (Ends e) so works))
  can_by (Behind more did) so = did_so more did so
  can_by (Powers k) so = (darkened_sound a (each_found programs Darkening d of s.devices so a found)).plain
  can_by due so = grind (arith, each_found)

pub can_all : (programs : List PlannedProgram) (of : List DeviceLine) (s : AuditState) → IsSoundState programs of s → CanAllBePlain s
can_all programs of s sound = λ d a found. can_by programs of s d a found s.due sound.devices
