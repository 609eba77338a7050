-- What is so of each line of an event is so of its lines: of those of what happened, of each device before and behind it, and of its volume calls.
use Rattle.std.proofs.Common.{◌++◌, ℕ, List, [], ◌∷◌}
use Rattle.std.specs.Prelude.{All}
use Rattle.std.specs.List.{flat_map}
use Rattle.std.proofs.lemmas.List.Elements.{All-append, All-cons, All-head, All-nil, All-tail}
use Rattle.device_defs.specs.Marks.{MarksDevice}
use Rattle.report_text.specs.declared.event.Happened.{Happened}
use Rattle.report_text.specs.declared.event.Happened.TheVariants as did
use Rattle.report_text.specs.declared.line.ReportLine.{ReportLine}
use Rattle.report_text.specs.declared.line.ReportLine.TheVariants as lines
use Rattle.report_text.specs.declared.order.Order.TheVariants as orders
use Rattle.report_text.specs.Events.{ended_lines, first_lines, io_lines, last_line, line_if}
use Rattle.run_report.specs.Answers.{order_answer}
use Rattle.run_report.specs.Beside.{loose_lines, of_each, over_lines, power_lines}
use Rattle.run_report.specs.Events.{event_lines, told}
use Rattle.subsystem_defs.specs.declared.end.EventEnd.{EventEnd}
use Rattle.subsystem_defs.specs.declared.event.Event.TheVariants as events
use Rattle.subsystem_defs.specs.Lines.{Asked, Once}

module _ (P : ReportLine → Type 0) where
  pub one : (line : ReportLine) → P line → All P (line ∷ [])
  one line is = All-cons P line [] is (All-nil P)

  -- what happened is told so
  abbrev pub Tells : Happened → Type 0
  Tells (did.First line) = P line
  Tells (did.Ended path d n e) = All P (ended_lines path d n e)
  Tells (did.Reset path d) = P (lines.Reset path d)
  Tells (did.Ordered order a) = P (lines.Order order a)

  first_all : (h : Happened) → Tells h → All P (first_lines h)
  first_all (did.First line) so = one line so
  first_all (did.Ended path d n e) so = so
  first_all h so = All-nil P

  last_all : (h : Happened) → Tells h → All P (line_if (last_line h))
  last_all (did.Reset path d) so = one (lines.Reset path d) so
  last_all (did.Ordered order a) so = one (lines.Order order a) so
  last_all h so = All-nil P

  pub all_flat : {X : Type 0} (f : X → List ReportLine) (xs : List X) → All (λ (x : X). All P (f x)) xs → All P (flat_map f xs)
  all_flat f [] all = All-nil P
  all_flat f (x ∷ xs) all =
      All-append P (f x) (flat_map f xs) (All-head (λ x. All P (f x)) x xs all) (all_flat f xs (All-tail (λ x. All P (f x)) x xs all))

  module _ (R : MarksDevice → Type 0) where
    each_pair : (f : MarksDevice → MarksDevice → List ReportLine) → ((x y : MarksDevice) → R x → R y → All P (f x y)) →
        (xs ys : List MarksDevice) → All R xs → All R ys → All P (of_each f xs ys)
    each_pair f so (x ∷ xs) (y ∷ ys) r s =
        All-append P (f x y) (of_each f xs ys) (so x y (All-head R x xs r) (All-head R y ys s))
        (each_pair f so xs ys (All-tail R x xs r) (All-tail R y ys s))
    each_pair f so xs ys r s = All-nil P

    pub event_all : ((x y : MarksDevice) → R x → R y → All P (loose_lines x y)) → ((x y : MarksDevice) → R x → R y → All P (over_lines x y)) →
        (xs ys : List MarksDevice) → All R xs → All R ys → (reads writes : ℕ) → All P (io_lines reads writes) → (end : EventEnd) (asked : Asked) →
        Tells (told xs end asked) → All P (event_lines asked end reads writes xs ys)
    event_all loose over xs ys r s reads writes calls end (Once events.Power) tells =
        All-append P (of_each power_lines xs ys) (lines.Order orders.Power (order_answer end) ∷ [])
        (each_pair power_lines (λ x y a b. All-append P (over_lines x y) (loose_lines x y) (over x y a b) (loose x y a b)) xs ys r s)
        (last_all (told xs end (Once events.Power)) tells)
    event_all loose over xs ys r s reads writes calls end asked tells =
        let last = last_all (told xs end asked) tells in
        let l = line_if (last_line (told xs end asked)) in
        let overs = of_each over_lines xs ys in
        let looses = of_each loose_lines xs ys in
        All-append P (first_lines (told xs end asked)) (looses ++ (io_lines reads writes ++ (overs ++ l))) (first_all (told xs end asked) tells)
        (All-append P looses (io_lines reads writes ++ (overs ++ l)) (each_pair loose_lines loose xs ys r s)
        (All-append P (io_lines reads writes) (overs ++ l) calls (All-append P overs l (each_pair over_lines over xs ys r s) last)))
