-- What is so of a subsystem before and behind each event, and what each event shows, holds of the events of all lines.
use Rattle.std.proofs.Common.{zero, suc, ℕ, List, [], ◌∷◌, ◌++◌}
use Rattle.std.specs.Prelude.{All}
use Rattle.std.proofs.lemmas.Bool.{cond_both}
use Rattle.std.proofs.lemmas.List.Elements.{All-nil, All-cons, All-head, All-tail}
use Rattle.ckd_types.specs.declared.paths.Side.{Side}
use Rattle.subsystem_defs.specs.declared.end.EventEnd.TheVariants as ends
use Rattle.subsystem_defs.specs.declared.event.Event.{Event}
use Rattle.subsystem_defs.specs.declared.event.Event.TheVariants as events
use Rattle.subsystem_defs.specs.Happening.{EventHappened, happens, quietly, replaced, unpaired}
use Rattle.subsystem_defs.specs.Lines as L
use Rattle.subsystem_defs.specs.Lines.{
  is_settled,
  most_backs,
  backs,
  Asked,
  Once,
  Replace,
  Unpair,
  Run,
  Settle,
  Logged,
  logged,
  is_busy,
  step_logged,
  steps,
  most_steps,
  run_logged,
  line_logged,
  last_behind,
  run_lines,
}
use Rattle.subsystem_defs.specs.Subsystem.{Subsystem, mounted_in, unfailing}

-- which events may come
module _ (May : Event → Type 0) where
  abbrev pub MayAsk : Asked → Type 0
  MayAsk (Once e) = May e
  MayAsk _ = Unit {0}

abbrev pub AnyEvent : Event → Type 0
AnyEvent e = Unit {0}

any_asked : (x : Asked) → MayAsk AnyEvent x
any_asked (Once e) = tt
any_asked (Replace d side) = tt
any_asked (Unpair a) = tt
any_asked (Run d) = tt
any_asked (Settle d) = tt

pub all_asked : (lines : List Asked) → All (MayAsk AnyEvent) lines
all_asked [] = All-nil (MayAsk AnyEvent)
all_asked (x ∷ xs) = All-cons (MayAsk AnyEvent) x xs (any_asked x) (all_asked xs)

-- what is so of the subsystem before an event, and what the event shows
module _ (Q : Subsystem → Type 0) (R : Subsystem → Logged → Type 0) where
  -- of events one after another, and of the subsystem behind them
  abbrev pub Logs : Subsystem → List Logged → Type 0
  Logs s [] = Q s
  Logs s (t ∷ ts) = R s t × Logs t.happened.behind ts

  pub logs_end : (s : Subsystem) (ts : List Logged) → Logs s ts → Q (last_behind s ts)
  logs_end s [] q = q
  logs_end s (t ∷ ts) q = logs_end t.happened.behind ts q.1

  logs_on : (s : Subsystem) (ts us : List Logged) → Logs s ts → Logs (last_behind s ts) us → Logs s (ts ++ us)
  logs_on s [] us q more = more
  logs_on s (t ∷ ts) us q more = (q.0, logs_on t.happened.behind ts us q.1 more)

  -- what an event keeps, and shows
  abbrev pub GoesBy : Subsystem → Asked → EventHappened → Type 0
  GoesBy s asked h = Q h.behind × R s (logged asked h)

  pub record Goes (May : Event → Type 0) : Type 0 where
    pub once : (s : Subsystem) (e : Event) → May e → Q s → GoesBy s (Once e) (happens s e)
    pub stepped : (s : Subsystem) (d : ℕ) → Q s → GoesBy s (Run d) (happens s (events.Step d))
    pub idle : (s : Subsystem) (d : ℕ) → Q s → GoesBy s (Run d) (quietly s s ends.Idle)
    pub backed : (s : Subsystem) (d : ℕ) → Q s → GoesBy s (Settle d) (happens s (events.Back d))
    pub replaces : (s : Subsystem) (d : ℕ) (side : Side) → Q s → GoesBy s (Replace d side) (replaced s d side unfailing)
    pub unpairs : (s : Subsystem) (a : ℕ) → Q s → GoesBy s (Unpair a) (unpaired s a unfailing)

  module _ (May : Event → Type 0) (g : Goes May) where
    steps_go : (n d : ℕ) (s : Subsystem) → Q s → Logs s (steps n d s)
    unfolding L.steps
    steps_go zero d s q = q
    steps_go (suc n) d s q =
        let x = g.stepped s d q in
        cond_both (is_busy (mounted_in s.mounted d)) (step_logged s d (steps n d)) [] (Logs s)
        (λ _. (x.1, steps_go n d (happens s (events.Step d)).behind x.0)) (λ _. q)

    run_goes : (d : ℕ) (s : Subsystem) → Q s → Logs s (run_logged s d)
    run_goes d s q =
        let x = g.idle s d q in
        cond_both (is_busy (mounted_in s.mounted d)) (steps most_steps d s) (logged (Run d) (quietly s s ends.Idle) ∷ []) (Logs s)
        (λ _. steps_go most_steps d s q) (λ _. (x.1, x.0))

    backs_go : (n d : ℕ) (s : Subsystem) → Q s → Logs s (backs n d s)
    unfolding L.backs
    backs_go zero d s q = q
    backs_go (suc n) d s q =
        let h = happens s (events.Back d) in
        let x = g.backed s d q in (
          x.1,
          cond_both (is_settled h.end) [] (backs n d h.behind) (Logs h.behind) (λ _. x.0) (λ _. backs_go n d h.behind x.0),
        )

    pub line_goes : (x : Asked) (s : Subsystem) → MayAsk May x → Q s → Logs s (line_logged s x)
    unfolding L.line_logged
    line_goes (Once e) s may q = let x = g.once s e may q in (x.1, x.0)
    line_goes (Replace d side) s may q = let x = g.replaces s d side q in (x.1, x.0)
    line_goes (Unpair a) s may q = let x = g.unpairs s a q in (x.1, x.0)
    line_goes (Run d) s may q = run_goes d s q
    line_goes (Settle d) s may q = backs_go most_backs d s q

    pub lines_go : (lines : List Asked) (s : Subsystem) → All (MayAsk May) lines → Q s → Logs s (run_lines lines s)
    unfolding L.run_lines
    lines_go [] s may q = q
    lines_go (line ∷ lines) s may q =
        let ts = line_logged s line in
        let here = line_goes line s (All-head (MayAsk May) line lines may) q in
        logs_on s ts (run_lines lines (last_behind s ts)) here
        (lines_go lines (last_behind s ts) (All-tail (MayAsk May) line lines may) (logs_end s ts here))

module _ (Q : Subsystem → Type 0) (R : Logged → Type 0) where
  pub logs_all : (s : Subsystem) (ts : List Logged) → Logs Q (λ s. R) s ts → All R ts
  logs_all s [] q = All-nil R
  logs_all s (t ∷ ts) q = All-cons R t ts q.0 (logs_all t.happened.behind ts q.1)

  pub run_shows : Goes Q (λ s. R) AnyEvent → (lines : List Asked) (s : Subsystem) → Q s → All R (run_lines lines s)
  run_shows g lines s q = logs_all s (run_lines lines s) (lines_go Q (λ s. R) AnyEvent g lines s (all_asked lines) q)

-- where any event may come
pub lines_keep : (Q : Subsystem → Type 0) (R : Subsystem → Logged → Type 0) → Goes Q R AnyEvent → (lines : List Asked) (s : Subsystem) → Q s →
    Logs Q R s (run_lines lines s)
lines_keep Q R g lines s q = lines_go Q R AnyEvent g lines s (all_asked lines) q
