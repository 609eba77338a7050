-- The lines at the end of a run: each device's totals and lost tracks, the frames, FINISH.
use Rattle.std.proofs.Common.{◌≡◌, ◌+◌, ◌++◌, ℕ, zero, suc, Bool, true, List, [], ◌∷◌, map, length, Option, Some, None, refl, ap, ◌∙◌, if◌then◌else◌, arith}
use Rattle.std.specs.Prelude.{All, Ok, Err, drop, slice_get}
use Rattle.std.specs.List.{flat_map}
use Rattle.std.proofs.lemmas.List.Elements.{All-head, All-tail}
use Rattle.std.proofs.lemmas.Bool.Decides.{nat_tests}
use Rattle.std.proofs.lemmas.Bool.{or_left, or_right, and_from}
use Rattle.device_outside.specs.Pool.{Frame}
use Rattle.device_defs.specs.Marks.{MarksDevice}
use Rattle.report_text.specs.declared.answers.DeviceTotals.{DeviceTotals}
use Rattle.report_text.specs.declared.answers.DeviceTotals.TheVariants as totals
use Rattle.report_text.specs.declared.line.ReportLine.{ReportLine}
use Rattle.report_text.specs.declared.line.ReportLine.TheVariants as lines
use Rattle.deck_audit.specs.declared.state.Due.{Due}
use Rattle.deck_audit.specs.declared.state.Due.TheVariants.{Totals, Frames, Nothing}
use Rattle.deck_audit.specs.declared.state.Outline.{Outline}
use Rattle.deck_audit.specs.Place.{in_totals, is_declared, is_totals_of}
use Rattle.deck_audit.specs.Device.{outline_of}
use Rattle.deck_audit.specs.History.{totals_made}
use Rattle.deck_audit.specs.State.{AuditState, outlines}
use Rattle.deck_audit.specs.declared.status.AuditWhy.TheVariants.{Place}
use Rattle.deck_audit.specs.Verdict.{judged}
use Rattle.run_report.specs.Closing.{device_lines, ending_lines, frame_line}
use Rattle.subsystem_defs.specs.Closing.{device_end, device_end_by, ending, lost_tracks}
use Rattle.subsystem_defs.specs.Subsystem.{Mounted, Subsystem}
use Rattle.audit_laws.specs.Standing.{FramesAreDeclared, LeadsBy, audited, stand}
use Rattle.audit_laws.proofs.own.Found.{devices}
use Rattle.audit_laws.proofs.own.Leading.{leads_on}
use Rattle.audit_laws.proofs.own.Saying.{same_number}

-- Where k devices have had their totals: at the first line none has

abbrev AtTotals : AuditState → ℕ → Type 0
AtTotals s k = (line : ReportLine) → judged s line ≡ (if in_totals (outlines s) line k then Ok (totals_made s line k) else Err Place)

at_first : (s : Subsystem) → AtTotals (stand s []) 0
at_first s line = refl

at_more : (s : AuditState) (k : ℕ) → s.due ≡ Totals k → AtTotals s k
at_more s k is = grind arith

judged_at : (s : AuditState) (k : ℕ) (line : ReportLine) → AtTotals s k → in_totals (outlines s) line k ≡ true → judged s line ≡ Ok (totals_made s line k)
judged_at s k line at is = at line ∙ ap (λ (b : Bool). if b then Ok (totals_made s line k) else Err Place) is

-- The outlines from a place on

same_tail : (x a : Outline) (xs rest : List Outline) → x ∷ xs ≡ a ∷ rest → xs ≡ rest
same_tail x a xs rest e = cc

same_head : (x a : Outline) (xs rest : List Outline) → x ∷ xs ≡ a ∷ rest → x ≡ a
same_head x a xs rest e = cc

drop_next : (outs : List Outline) (k : ℕ) (a : Outline) (rest : List Outline) → drop k outs ≡ a ∷ rest → drop (k + 1) outs ≡ rest
drop_next [] zero a rest is = absurd (cc)
drop_next [] (suc k) a rest is = absurd (cc)
drop_next (x ∷ outs) zero a rest is = same_tail x a outs rest is
drop_next (x ∷ outs) (suc k) a rest is = grind (arith, drop_next outs k a rest is, same_tail)

get_here : (outs : List Outline) (k : ℕ) (a : Outline) (rest : List Outline) → drop k outs ≡ a ∷ rest → slice_get outs k ≡ Some a
get_here [] zero a rest is = absurd (cc)
get_here [] (suc k) a rest is = absurd (cc)
get_here (x ∷ outs) zero a rest is = ap (λ (y : Outline). Some y) (same_head x a outs rest is)
get_here (x ∷ outs) (suc k) a rest is = get_here outs k a rest is

-- One device

abbrev totalled : AuditState → ℕ → AuditState
totalled s k = record s { due = Totals (k + 1) }

module _ (s : AuditState) (k : ℕ) (d : MarksDevice) (rest : List Outline) (left : drop k (outlines s) ≡ outline_of (audited d) ∷ rest) where
  lost_lead : (lost : List ℕ) → d.store.lent ≡ None → LeadsBy (totalled s k) (map (lines.Lost d.store.device) lost) (totalled s k)
  lost_lead [] home = refl
  lost_lead (t ∷ lost) home = search (arith, lost_lead lost home, judged_at, at_more, nat_tests, or_left, and_from, get_here, same_number)

  total_stands : (x : DeviceTotals) → is_totals_of (lines.Device d.store.device x) (outline_of (audited d)) d.store.lent ≡ true →
      in_totals (outlines s) (lines.Device d.store.device x) k ≡ true
  total_stands x is = grind (arith, or_right)

  module _ (at : AtTotals s k) where
    total_judged : (x : DeviceTotals) → is_totals_of (lines.Device d.store.device x) (outline_of (audited d)) d.store.lent ≡ true →
        judged s (lines.Device d.store.device x) ≡ Ok (totalled s k)
    total_judged x is = judged_at s k (lines.Device d.store.device x) at (total_stands x is)

    by_lent : (l : Option ℕ) → d.store.lent ≡ l → LeadsBy s (device_lines (device_end_by d.store l)) (totalled s k)
    by_lent (Some to) is = search (arith, total_judged, and_from, same_number)
    by_lent None is = (
      totalled s k,
      total_judged (totals.Calls d.store.counts.reads d.store.counts.writes (length (lost_tracks d.store)))
          (ap (is_totals_of (lines.Device d.store.device (totals.Calls d.store.counts.reads d.store.counts.writes (length (lost_tracks d.store))))
          (outline_of (audited d))) is ∙ same_number d.store.device),
      lost_lead (lost_tracks d.store) is,
    )

-- All devices

record EndsAt (s : AuditState) (ls : List ReportLine) : Type 0 where
  due : Due
  leads : LeadsBy s ls (record s { due = due })
  place : ℕ
  at : AtTotals (record s { due = due }) place
  none : drop place (outlines s) ≡ []

devices_lead : (s : AuditState) (ms : List Mounted) (k : ℕ) → AtTotals s k → drop k (outlines s) ≡ map outline_of (map audited (devices ms)) →
    EndsAt s (flat_map device_lines (map device_end ms))
devices_lead s [] k at left = record { due = s.due; leads = refl; place = k; at = at; none = left }
devices_lead s (m ∷ ms) k at left =
    let more = devices_lead (totalled s k) ms (k + 1) (at_more (totalled s k) (k + 1) refl) (drop_next (outlines s) k (outline_of (audited m.device))
    (map outline_of (map audited (devices ms))) left) in
    (search (arith, leads_on, by_lent))

-- The frames, and the last line

abbrev Declared : AuditState → Frame → Type 0
Declared s f = is_declared (outlines s) f.0.0 ≡ true

record AtEnd (s : AuditState) : Type 0 where
  frame : (d t : ℕ) (modified : Bool) → is_declared (outlines s) d ≡ true → judged s (lines.Frame d t modified) ≡ Ok (record s { due = Frames })
  finish : judged s lines.Finish ≡ Ok (record s { due = Nothing })

end_totals : (s : AuditState) (k : ℕ) → AtTotals s k → drop k (outlines s) ≡ [] → AtEnd s
end_totals s k at none = grind (arith, judged_at, or_right, or_left)

end_frames : (s : AuditState) → AtEnd (record s { due = Frames })
end_frames s = search (arith, or_left)

frames_lead : (s : AuditState) (fs : List Frame) → AtEnd s → All (Declared s) fs →
    LeadsBy s (map frame_line fs ++ lines.Finish ∷ []) (record s { due = Nothing })
frames_lead s [] at all = (record s { due = Nothing }, at.finish, refl)
frames_lead s (f ∷ fs) at all = (
  record s { due = Frames },
  at.frame f.0.0 f.0.1 f.1 (All-head (Declared s) f fs all),
  frames_lead (record s { due = Frames }) fs (end_frames s) (All-tail (Declared s) f fs all),
)

-- The whole

pub ending_leads : (s : Subsystem) → FramesAreDeclared s → LeadsBy (stand s []) (ending_lines (ending s)) (record (stand s []) { due = Nothing })
ending_leads s declared =
    let at = devices_lead (stand s []) s.mounted 0 (at_first s) refl in
    let end = record (stand s []) { due = at.due } in
    leads_on (stand s []) end (record (stand s []) { due = Nothing }) (flat_map device_lines (map device_end s.mounted))
    (map frame_line s.pool.frames ++ lines.Finish ∷ []) at.leads
    (frames_lead end s.pool.frames (end_totals end at.place at.at at.none) declared)
