-- How many events are enough for a RUN: one fewer behind each of its events.
use Rattle.std.proofs.Common.{◌≡◌, ◌≤◌, ◌+◌, ◌*◌, ℕ, suc, Bool, List, [], ◌∷◌, length, Option, Some, None, refl, ap, arith}
use Rattle.std.specs.Prelude.{◌⊎◌, if◌then◌else◌}
use Rattle.ckd_types.specs.declared.channel.CommandEnd.{CommandEnd}
use Rattle.plain_defs.specs.declared.journal.Act.{Act}
use Rattle.plain_defs.specs.declared.journal.How.TheVariants.{Full}
use Rattle.plain_defs.specs.History as Y
use Rattle.plain_defs.specs.History.{History, OpenEntry, acted_in, checked, closed, with_end}
use Rattle.device_defs.specs.Device.{all_acted}
use Rattle.device_defs.specs.Marks.{MarksDevice}
use Rattle.device_laws.proofs.HistoryEnds.{one_longer}
use Rattle.device_laws.proofs.HistoryTold.{HasActed, HasEnded, acted_so, checked_so, ended_so}
use Rattle.deck_audit.specs.declared.state.HalfWrite.{HalfWrite}
use Rattle.deck_audit.specs.declared.state.HalfWrite.TheVariants as half
use Rattle.audit_laws.specs.Standing.{half_by}
use Rattle.audit_laws.proofs.own.CameOut.{acts_run, with_acts}

-- So many events are enough

abbrev pub Enough : ℕ → Option OpenEntry → HalfWrite → Type 0
Enough k (Some o) half.Closed = 8192 ≤ k + 2 * length o.ends
Enough k (Some o) half.OfCommand = 8192 ≤ k + 1 + 2 * length o.ends
Enough k (Some o) half.OfBackground = 8193 ≤ k + 2 * length o.ends
Enough k None half.Closed = Unit {0}
Enough k None half.OfCommand = 1 ≤ k
Enough k None half.OfBackground = 1 ≤ k

-- What a history is behind an event

-- the program is over, or one more command of it ended
abbrev OneMore : OpenEntry → Option OpenEntry → Type 0
OneMore o r = (r ≡ None) ⊎ ((z : OpenEntry) × (r ≡ Some z) × (length z.ends ≡ length o.ends + 1))

over_by : (h : History) (o : OpenEntry) (e : CommandEnd) (b : Bool) →
    OneMore o (if b then closed h (with_end o e) Full else record h { running = Some (with_end o e) }).running
over_by h o e b = grind (arith, one_longer)

pub ended_more : (h : History) (e : CommandEnd) (o : OpenEntry) → h.running ≡ Some o → {k : History} → HasEnded h e k → OneMore o k.running
ended_more h e o is (ended_so acts) = rw (acts_run acts h o is) (over_by (record h { running = Some (with_acts o acts) }) (with_acts o acts) e e.over)
ended_more h e o is (checked_so acts) = grind arith

pub acted_more : (h : History) (o : OpenEntry) → h.running ≡ Some o → {k : History} → HasActed h k → (z : OpenEntry) × (k.running ≡ Some z) × (z.ends ≡ o.ends)
acted_more h o is (acted_so acts) = (with_acts o acts, ap (λ (z : History). z.running) (acts_run acts h o is), refl)

idle_by : (h : History) (act : Act) (r : Option OpenEntry) → r ≡ None → h.running ≡ None → (acted_in h act r).running ≡ None
idle_by h act r is none = grind arith

idle_acts : (acts : List Act) (h : History) → h.running ≡ None → (all_acted h acts).running ≡ None
idle_acts [] h none = none
idle_acts (act ∷ acts) h none = idle_acts acts (Y.acted h act) (idle_by h act h.running none none)

acted_none : (h : History) → h.running ≡ None → {k : History} → HasActed h k → k.running ≡ None
acted_none h none (acted_so acts) = idle_acts acts h none

-- One event fewer is enough behind an event

enough_as : (k : ℕ) (y : MarksDevice) (r : Option OpenEntry) (h : HalfWrite) → y.history.running ≡ r → half_by y.store.half ≡ h → Enough k r h →
    Enough k y.history.running (half_by y.store.half)
enough_as k y r h runs is enough = grind arith

pub ended_enough : (k : ℕ) (o : OpenEntry) (y : MarksDevice) → OneMore o y.history.running → half_by y.store.half ≡ half.Closed →
    8192 ≤ suc k + 1 + 2 * length o.ends → Enough k y.history.running (half_by y.store.half)
ended_enough k o y x4 is enough = grind (arith, enough_as)

pub acted_enough : (k : ℕ) (x y : MarksDevice) → HasActed x.history y.history → half_by y.store.half ≡ half.Closed → (r : Option OpenEntry) →
    x.history.running ≡ r → Enough (suc k) r half.OfBackground → Enough k y.history.running (half_by y.store.half)
acted_enough k x y acted is (Some o) runs enough =
    grind (arith, acted_more x.history o runs acted, enough_as k y (Some (acted_more x.history o runs acted).0) half.Closed (acted_more x.history o runs acted).1 is (omega (arith, ap length (acted_more x.history o runs acted).2, enough)))
acted_enough k x y acted is None runs enough = enough_as k y None half.Closed (acted_none x.history runs acted) is tt

pub halved_enough : (k : ℕ) (o : OpenEntry) (y : MarksDevice) → (z : OpenEntry) × (y.history.running ≡ Some z) × (z.ends ≡ o.ends) →
    half_by y.store.half ≡ half.OfCommand → 8192 ≤ suc k + 2 * length o.ends → Enough k y.history.running (half_by y.store.half)
halved_enough k o y z is enough = grind (arith, enough_as)

-- where a command runs, with no half write open or with its own
pub enough_whole : (k : ℕ) (r : Option OpenEntry) (h : HalfWrite) (o : OpenEntry) → r ≡ Some o → h ≡ half.Closed → Enough k r h → 8192 ≤ k + 2 * length o.ends
enough_whole k r h o is whole enough = grind arith

pub enough_second : (k : ℕ) (r : Option OpenEntry) (h : HalfWrite) (o : OpenEntry) → r ≡ Some o → h ≡ half.OfCommand → Enough k r h →
    8192 ≤ k + 1 + 2 * length o.ends
enough_second k r h o is open_half enough = grind arith
