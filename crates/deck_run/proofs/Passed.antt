-- What passed at an event, by what it tells.
use Rattle.std.proofs.Common.{◌≡◌, ◌∙◌, ℕ, List, Option, Some, None, refl, sym, ap, subst}
use Rattle.std.specs.Prelude.{length, option_map}
use Rattle.plain_defs.specs.declared.journal.Act.{Act}
use Rattle.plain_defs.specs.History.{OpenEntry}
use Rattle.device_outside.specs.declared.volume.Volume.{Ghosts}
use Rattle.device_core.specs.declared.device.Device.{Device}
use Rattle.device_core.specs.State.{device_of, history_of, last_end}
use Rattle.report_text.specs.declared.event.Loosed.{Loosed}
use Rattle.run_report.specs.Events.{running_program}
use Rattle.run_report.specs.OneDevice.{lines_by}
use Rattle.subsystem_core.specs.declared.subsystem.Subsystem.{Subsystem}
use Rattle.subsystem_core.specs.Devices.{device_at}
use Rattle.subsystem_defs.specs.declared.event.Event.{Event}
use Rattle.subsystem_defs.specs.Beside.{behind_first, has_power, loose_count, new_acts}
use Rattle.subsystem_defs.specs.Happening.{happens}
use Rattle.subsystem_defs.specs.Subsystem as runs
use Rattle.deck_run.specs.declared.pass.Passed.{Passed}
use Rattle.deck_run.specs.Counting.{more_calls}
use Rattle.deck_run.specs.Passing.{HasPassed}
use Rattle.deck_run.specs.Loosening.{all_loosed, is_quiet}
use Rattle.deck_run.specs.Recording.{IsTold, loosed_between, program_from, running_of}
use Rattle.deck_run.specs.Seen.{SeesEnd, acts_seen}
use Rattle.deck_run.specs.Standing.{StandsAs}
use Rattle.deck_run.proofs.Seen.{acts_are, sees_at}

some_same : {X : Type 0} {x y : X} → Some x ≡ Some y → x ≡ y
some_same e = cc

-- the program that runs, told as its path and its ordinal
pub program_told : (o : Option OpenEntry) →
    option_map program_from (option_map (λ (e : OpenEntry). (e.path, e.ordinal)) o) ≡ option_map running_program o
program_told None = refl
program_told (Some e) = refl

module _ {V : Type 0} {G : Ghosts V} where
  pub passed_so : (old new : Subsystem V G) (e : Event) (d : ℕ) (run : runs.Subsystem) (x y : Device V G) (p : Passed) (loose : ℕ) →
      device_at old.devices.items d ≡ Some x → device_at new.devices.items d ≡ Some y → IsTold old new e d run →
      StandsAs new (happens run e).behind → SeesEnd new d p.end (happens run e).end → p.running ≡ running_of x → p.items ≡ length x.past.items.items →
      p.acts.items ≡ all_loosed d loose (device_of y).store.number (acts_seen (is_quiet e) p.end (device_of y))
      (has_power (behind_first p.items y.past.items.items)) →
      loose ≡ loose_count (device_of x).store →
      ((k : ℕ) → y.store.counts.reads ≡ more_calls k x.store.counts.reads → p.calls.reads ≡ k) →
      ((k : ℕ) → y.store.counts.writes ≡ more_calls k x.store.counts.writes → p.calls.writes ≡ k) →
      HasPassed new run e d p
  passed_so old new e d run x y p loose at now told stands ended running items acts counted reads writes =
      let t = told x y at now in
      let same : (z : Device V G) → device_at new.devices.items d ≡ Some z → y ≡ z = λ z there. some_same (sym now ∙ there) in
      record {
        stands = stands;
        ended = ended;
        running = t.running ∙ sym running;
        lines = λ z there h.
            let came = behind_first (length x.past.items.items) z.past.items.items in
            let number = (device_of z).store.number in
            let noted : p.acts.items ≡ loosed_between d x z =
            subst (λ (v : Device V G). p.acts.items ≡ all_loosed d loose (device_of v).store.number (acts_seen (is_quiet e) p.end (device_of v))
            (has_power (behind_first p.items v.past.items.items))) (same z there) acts
            ∙ ap (λ (n : ℕ). all_loosed d n number (acts_seen (is_quiet e) p.end (device_of z)) (has_power (behind_first p.items z.past.items.items)))
            counted
            ∙ ap (λ (l : List Act). all_loosed d (loose_count (device_of x).store) number l (has_power (behind_first p.items z.past.items.items)))
            (acts_are (last_end z) (happens run e).end (is_quiet e) p.end (device_of z) (sees_at new d p.end (happens run e).end z there ended))
            ∙ ap (λ (l : List Act). all_loosed d (loose_count (device_of x).store) number l (has_power (behind_first p.items z.past.items.items)))
            (sym (told x z at there).acts)
            ∙ ap (λ (n : ℕ). all_loosed d (loose_count (device_of x).store) number (new_acts (history_of x.past) (history_of z.past))
            (has_power (behind_first n z.past.items.items))) items in
            (told x z at there).lines h
            ∙ ap (λ (l : List Loosed). lines_by d h l (happens run e).reads (happens run e).writes came) (sym noted)
            ∙ ap (λ (n : ℕ). lines_by d h p.acts.items n (happens run e).writes came) (sym (reads (happens run e).reads t.reads))
            ∙ ap (λ (n : ℕ). lines_by d h p.acts.items p.calls.reads n came) (sym (writes (happens run e).writes t.writes))
            ∙ ap (λ (n : ℕ). lines_by d h p.acts.items p.calls.reads p.calls.writes (behind_first n z.past.items.items)) (sym items);
      }
