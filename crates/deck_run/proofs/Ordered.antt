-- What is told of an order that calls no volume and brings nothing to the pasts of devices; and how a run stands behind it.
use Rattle.std.proofs.Common.{◌≡◌, ◌∙◌, ◌++◌, ℕ, List, [], ◌∷◌, sym, ap, subst}
use Rattle.device_outside.specs.declared.volume.Volume.{Ghosts}
use Rattle.device_outside.specs.Pool.{counted_slots}
use Rattle.device_defs.specs.Marks.{MarksDevice}
use Rattle.device_core.specs.declared.device.Device.{Device}
use Rattle.frame_pool.specs.Shared.{Shared}
use Rattle.report_text.specs.declared.event.Happened.TheVariants as did
use Rattle.report_text.specs.declared.line.ReportLine.{ReportLine}
use Rattle.report_text.specs.declared.line.ReportLine.TheVariants as lines
use Rattle.report_text.specs.declared.order.Order.{Order}
use Rattle.run_report.specs.Answers.{order_answer}
use Rattle.run_report.specs.Events.{event_lines, lines_of, work_lines}
use Rattle.subsystem_core.specs.declared.subsystem.Subsystem.{Subsystem}
use Rattle.subsystem_defs.specs.declared.end.EventEnd as ends
use Rattle.subsystem_defs.specs.Happening.{EventHappened}
use Rattle.subsystem_defs.specs.Lines.{Asked, logged}
use Rattle.subsystem_defs.specs.Subsystem as runs
use Rattle.subsystem_laws.specs.WholeStood.{AreMounted, Stood}
use Rattle.deck_run.specs.Standing.{StandsAs, all_stood}
use Rattle.deck_run.proofs.Telling.{AreKnown, HavePasts, none_came}

-- No volume is called

abbrev pub IsQuiet : runs.Subsystem → EventHappened → Type 0
IsQuiet s h = (h.before ≡ s) × ((h.reads ≡ 0) × (h.writes ≡ 0))

-- recorded where room was made before
pub order_told : (order : Order) (end : ends.EventEnd) (told room more here : List ReportLine) → room ≡ told →
    more ≡ room ++ lines.Order order (order_answer end) ∷ [] → here ≡ lines.Order order (order_answer end) ∷ [] → more ≡ told ++ here
order_told order end told room more here roomy is line =
    is ∙ ap (λ (l : List ReportLine). l ++ lines.Order order (order_answer end) ∷ []) roomy ∙ ap (λ (l : List ReportLine). told ++ l) (sym line)

module _ {V : Type 0} {G : Ghosts V} where
  pub ordered_tells : (asked : Asked) (o : EventHappened) (run : runs.Subsystem) (order : Order) (end : ends.EventEnd) (xs ys : List (Device V G)) →
      IsQuiet run o → o.end ≡ end →
      ((e : ends.EventEnd) (ds es : List MarksDevice) → event_lines asked e 0 0 ds es ≡ work_lines (did.Ordered order (order_answer e)) 0 0 ds es) →
      HavePasts xs ys → AreKnown (all_stood xs) run.mounted → AreKnown (all_stood ys) o.behind.mounted →
      lines_of (logged asked o) ≡ lines.Order order (order_answer end) ∷ []
  ordered_tells asked o run order end xs ys q ended works pasts known now =
      let ks = runs.devices_of o.behind in
      ap (λ (s : runs.Subsystem). event_lines asked o.end o.reads o.writes (runs.devices_of s) ks) q.0
      ∙ ap (λ (n : ℕ). event_lines asked o.end n o.writes (runs.devices_of run) ks) q.1.0
      ∙ ap (λ (n : ℕ). event_lines asked o.end 0 n (runs.devices_of run) ks) q.1.1
      ∙ ap (λ (e : ends.EventEnd). event_lines asked e 0 0 (runs.devices_of run) ks) ended
      ∙ works end (runs.devices_of run) ks
      ∙ none_came xs ys run.mounted o.behind.mounted (did.Ordered order (order_answer end)) pasts known now

  pub stands_by : (new : Subsystem V G) (s : runs.Subsystem) (p : Shared) (xs : List Stood) → s.pool ≡ counted_slots p.pool → AreMounted p.pool xs s.mounted →
      new.pool ≡ p → all_stood new.devices.items ≡ xs → StandsAs new s
  stands_by new s p xs pool mounted same are = record {
    pool = pool ∙ ap (λ (q : Shared). counted_slots q.pool) (sym same);
    mounted = subst (λ (q : Shared). AreMounted q.pool (all_stood new.devices.items) s.mounted) (sym same)
        (subst (λ (l : List Stood). AreMounted p.pool l s.mounted) (sym are) mounted);
  }
