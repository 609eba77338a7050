-- One step, and one line, of lines that are done by whoever has the devices; W is what stands for it in a run.
use Rattle.std.proofs.Common.{◌≡◌, ◌≤◌, ◌<◌, ◌∙◌, ◌+◌, ◌-◌, add-one, arith, ℕ, zero, suc, Bool, true, false, List, [], ◌∷◌, length, drop, get_or, map, Result, Ok, refl, sym, ap, subst}
use Rattle.std.specs.Prelude.{if◌then◌else◌}
use Rattle.std.proofs.lemmas.List.{drop_all}
use Rattle.deck_plan.specs.declared.event.EventLine.{EventLine}
use Rattle.subsystem_core.proofs.Running.{at_hand}
use Rattle.subsystem_defs.specs.declared.event.Event.TheVariants as events
use Rattle.subsystem_defs.specs.Lines.{Asked, Once, Replace, Unpair, Run, Settle, asked_by}
use Rattle.line_drive.specs.declared.stage.Stopped.{Stopped}
use Rattle.line_drive.specs.declared.stage.Stopped.TheVariants.{NoMemory, Ended}
use Rattle.line_drive.specs.Driven as driving
use Rattle.line_drive.specs.Driven.{
  Occurred,
  Comes,
  Course,
  Step,
  Goes,
  Ends,
  backs_on,
  driven,
  is_busy_at,
  line_on,
  moved,
  onward,
  run_on,
  settles_at,
  steps_on,
}
use Rattle.line_drive.specs.Staging.{GoesOn, LineMay, LinesMay, Reaches, StopsBy}

-- What goes on

module _ {S : Type 0} (numbers : S → List ℕ) (may : S → Occurred → Type 0) where
  pub goes_self : (s : S) → GoesOn numbers may s s
  goes_self s = record { same = refl; still = λ o m. m }

  pub goes_then : (s t u : S) → GoesOn numbers may s t → GoesOn numbers may t u → GoesOn numbers may s u
  goes_then s t u g h = record { same = h.same ∙ g.same; still = λ o m. h.still o (g.still o m) }

pub line_still : (old new : Occurred → Type 0) (x : Asked) → ((o : Occurred) → old o → new o) → LineMay old x → LineMay new x
line_still old new (Once e) still may = still _ may
line_still old new (Replace d side) still may = still _ may
line_still old new (Unpair a) still may = still _ may
line_still old new (Run d) still may = still _ may
line_still old new (Settle d) still may = still _ may

pub line_may_at : (may : Occurred → Type 0) (es : List EventLine) (i : ℕ) (e : EventLine) → i < length es → e ≡ get_or es i e → LinesMay may (map asked_by es) →
    LineMay may (asked_by e)
line_may_at may [] i e within is all = absurd (omega arith)
line_may_at may (x ∷ es) zero e within is all = subst (λ (y : EventLine). LineMay may (asked_by y)) (sym is) all.0
line_may_at may (x ∷ es) (suc i) e within is all = line_may_at may es i e (omega arith) is all.1

-- where all may be asked, all lines may
pub lines_may : (may : Occurred → Type 0) → ((o : Occurred) → may o) → (xs : List Asked) → LinesMay may xs
lines_may may all [] = tt
lines_may may all (x ∷ xs) = (line_still (λ o. Unit {0}) may x (λ o t. all o) (none x), lines_may may all xs)
  where
    none : (x : Asked) → LineMay (λ o. Unit {0}) x
    none (Once e) = tt
    none (Replace d side) = tt
    none (Unpair a) = tt
    none (Run d) = tt
    none (Settle d) = tt

-- Where it ends, or goes on

onward_goes : {W E : Type 0} (x : Step W E) (f : W → Step W E) (g : W) → x ≡ Goes g → onward x f ≡ f g
onward_goes x f g is = ap (λ z. onward z f) is

onward_ends : {W E : Type 0} (x : Step W E) (f : W → Step W E) (e : E) → x ≡ Ends e → onward x f ≡ Ends e
onward_ends x f e is = ap (λ z. onward z f) is

pub ended_so : {W E : Type 0} (why : Stopped E) (x y : Step W E) → ((e : E) → x ≡ Ends e → y ≡ Ends e) → StopsBy x why → StopsBy y why
ended_so NoMemory x y so ended = tt
ended_so (Ended e) x y so ended = so e ended

-- it stands where this is left of the whole
pub record Left {W E : Type 0} (stands : W → Type 0) (rest : W → Step W E) (whole : Step W E) : Type 0 where
  pub now : W
  pub stand : stands now
  pub is : rest now ≡ whole

module _ {W E : Type 0} (c : Course W E) where
  -- Steps

  steps_idle : (n d : ℕ) (w : W) → is_busy_at c w d ≡ false → steps_on c n d w ≡ Goes w
  unfolding driving.steps_on
  steps_idle zero d w idle = refl
  steps_idle (suc n) d w idle =
      ap (λ (b : Bool). if b then onward (moved c w (Comes (events.Step d))) (steps_on c n d) else Goes w) idle

  steps_one : (n d : ℕ) (w : W) → is_busy_at c w d ≡ true → steps_on c (suc n) d w ≡ onward (moved c w (Comes (events.Step d))) (steps_on c n d)
  unfolding driving.steps_on
  steps_one n d w busy =
      ap (λ (b : Bool). if b then onward (moved c w (Comes (events.Step d))) (steps_on c n d) else Goes w) busy

  steps_none : (d : ℕ) (w : W) → steps_on c 0 d w ≡ Goes w
  unfolding driving.steps_on
  steps_none d w = refl

  one_step_fewer : (k : ℕ) → k < 8193 → 8193 - k ≡ suc (8193 - (k + 1))
  one_step_fewer k within = omega arith

  steps_here : (k d : ℕ) (w : W) → k < 8193 → is_busy_at c w d ≡ true →
      steps_on c (8193 - k) d w ≡ onward (moved c w (Comes (events.Step d))) (steps_on c (8193 - (k + 1)) d)
  steps_here k d w within busy = ap (λ (m : ℕ). steps_on c m d w) (one_step_fewer k within) ∙ steps_one (8193 - (k + 1)) d w busy

  -- Pieces of work in the background

  backs_one : (n d : ℕ) (w : W) → backs_on c (suc n) d w
      ≡ onward (moved c w (Comes (events.Back d))) (λ v. if settles_at c w d then Goes v else backs_on c n d v)
  unfolding driving.backs_on
  backs_one n d w = refl

  backs_none : (d : ℕ) (w : W) → backs_on c 0 d w ≡ Goes w
  unfolding driving.backs_on
  backs_none d w = refl

  one_back_fewer : (k : ℕ) → k < 2946 → 2946 - k ≡ suc (2946 - (k + 1))
  one_back_fewer k within = omega arith

  backs_here : (k d : ℕ) (w : W) (b : Bool) → k < 2946 → b ≡ settles_at c w d → backs_on c (2946 - k) d w
      ≡ onward (moved c w (Comes (events.Back d))) (λ v. if b then Goes v else backs_on c (2946 - (k + 1)) d v)
  backs_here k d w b within is =
      ap (λ (m : ℕ). backs_on c m d w) (one_back_fewer k within) ∙ backs_one (2946 - (k + 1)) d w
      ∙ ap (λ (x : Bool). onward (moved c w (Comes (events.Back d))) (λ v. if x then Goes v else backs_on c (2946 - (k + 1)) d v)) (sym is)

  -- Lines

  driven_none : (w : W) → driven c [] w ≡ Goes w
  unfolding driving.driven
  driven_none w = refl

  driven_one : (x : Asked) (xs : List Asked) (w : W) → driven c (x ∷ xs) w ≡ onward (line_on c x w) (driven c xs)
  unfolding driving.driven
  driven_one x xs w = refl

  driven_here : (es : List EventLine) (i : ℕ) (e : EventLine) (w : W) → i < length es → e ≡ get_or es i e →
      driven c (map asked_by (drop i es)) w ≡ onward (line_on c (asked_by e) w) (driven c (map asked_by (drop (suc i) es)))
  driven_here es i e w within is =
      ap (λ (l : List EventLine). driven c (map asked_by l) w) (at_hand es e i within is)
      ∙ driven_one (asked_by e) (map asked_by (drop (suc i) es)) w

  -- A whole RUN

  pub run_busy : (d : ℕ) (w : W) → true ≡ is_busy_at c w d → run_on c d w ≡ steps_on c 8193 d w
  run_busy d w busy = ap (λ (b : Bool). if b then steps_on c 8193 d w else c.behind w) (sym busy)

  pub run_idle : (d : ℕ) (w : W) → false ≡ is_busy_at c w d → run_on c d w ≡ c.behind w
  run_idle d w idle = ap (λ (b : Bool). if b then steps_on c 8193 d w else c.behind w) (sym idle)

  -- What is left

  pub left_begin : (stands : W → Type 0) (rest : W → Step W E) (w : W) → stands w → Left stands rest (rest w)
  left_begin stands rest w stand = record { now = w; stand = stand; is = refl }

  left_over : (stands : W → Type 0) (rest : W → Step W E) (whole : Step W E) → (l : Left stands rest whole) → rest l.now ≡ Goes l.now →
      Reaches {T = Unit {0}} stands whole (Ok tt)
  left_over stands rest whole l over = (l.now, sym l.is ∙ over, l.stand)

  module _ (before behind : W → Type 0) (d k : ℕ) (whole : Step W E) where
    abbrev Moved : {T : Type 0} → Occurred → Result T (Stopped E) → Type 0
    Moved o r = (w : W) → before w → Reaches behind (moved c w o) r

    abbrev Stops : Occurred → Stopped E → Type 0
    Stops o why = (w : W) → before w → StopsBy (moved c w o) why

    abbrev is_at : Bool → Type 0
    is_at b = (w : W) → before w → b ≡ is_busy_at c w d

    -- Steps

    pub step_done : {T : Type 0} (x : T) → k < 8193 → is_at true → Moved (Comes (events.Step d)) (Ok x) →
        Left before (steps_on c (8193 - k) d) whole → Left behind (steps_on c (8193 - (k + 1)) d) whole
    step_done x within busy goes left =
        let m = goes left.now left.stand in
        record {
          now = m.0;
          stand = m.2;
          is = sym (onward_goes (moved c left.now (Comes (events.Step d))) (steps_on c (8193 - (k + 1)) d) m.0 m.1)
              ∙ sym (steps_here k d left.now within (sym (busy left.now left.stand))) ∙ left.is;
        }

    pub step_ended : (why : Stopped E) → k < 8193 → is_at true → Stops (Comes (events.Step d)) why → Left before (steps_on c (8193 - k) d) whole →
        StopsBy whole why
    step_ended why within busy goes left =
        ended_so why (moved c left.now (Comes (events.Step d))) whole
        (λ e ended. sym left.is ∙ steps_here k d left.now within (sym (busy left.now left.stand))
        ∙ onward_ends (moved c left.now (Comes (events.Step d))) (steps_on c (8193 - (k + 1)) d) e ended) (goes left.now left.stand)

    pub steps_over : is_at false → Left before (steps_on c (8193 - k) d) whole → Reaches {T = Unit {0}} before whole (Ok tt)
    steps_over idle left =
        left_over before (steps_on c (8193 - k) d) whole left (steps_idle (8193 - k) d left.now (sym (idle left.now left.stand)))

    pub steps_spent : 8193 ≤ k → Left before (steps_on c (8193 - k) d) whole → Reaches {T = Unit {0}} before whole (Ok tt)
    steps_spent past left =
        let none : 8193 - k ≡ 0 = omega arith in
        left_over before (steps_on c (8193 - k) d) whole left (ap (λ (n : ℕ). steps_on c n d left.now) none ∙ steps_none d left.now)

    -- Pieces of work in the background

    abbrev is_done : Bool → Type 0
    is_done b = (w : W) → before w → b ≡ settles_at c w d

    back_here : (w : W) (b : Bool) (g : W) → k < 2946 → b ≡ settles_at c w d → moved c w (Comes (events.Back d)) ≡ Goes g →
        backs_on c (2946 - k) d w ≡ (if b then Goes g else backs_on c (2946 - (k + 1)) d g)
    back_here w b g within is goes =
        backs_here k d w b within is
        ∙ onward_goes (moved c w (Comes (events.Back d))) (λ v. if b then Goes v else backs_on c (2946 - (k + 1)) d v) g goes

    pub back_done : {T : Type 0} (x : T) → k < 2946 → is_done false → Moved (Comes (events.Back d)) (Ok x) →
        Left before (backs_on c (2946 - k) d) whole → Left behind (backs_on c (2946 - (k + 1)) d) whole
    back_done x within done goes left =
        let m = goes left.now left.stand in
        record { now = m.0; stand = m.2; is = sym (back_here left.now false m.0 within (done left.now left.stand) m.1) ∙ left.is }

    pub back_over : {T : Type 0} (x : T) → k < 2946 → is_done true → Moved (Comes (events.Back d)) (Ok x) → Left before (backs_on c (2946 - k) d) whole →
        Reaches {T = Unit {0}} behind whole (Ok tt)
    back_over x within done goes left =
        let m = goes left.now left.stand in (m.0, sym left.is ∙ back_here left.now true m.0 within (done left.now left.stand) m.1, m.2)

    pub back_ended : (why : Stopped E) → k < 2946 → Stops (Comes (events.Back d)) why → Left before (backs_on c (2946 - k) d) whole → StopsBy whole why
    back_ended why within goes left =
        let b = settles_at c left.now d in
        ended_so why (moved c left.now (Comes (events.Back d))) whole
        (λ e ended. sym left.is ∙ backs_here k d left.now b within refl
        ∙ onward_ends (moved c left.now (Comes (events.Back d))) (λ v. if b then Goes v else backs_on c (2946 - (k + 1)) d v) e ended)
        (goes left.now left.stand)

    pub backs_spent : 2946 ≤ k → Left before (backs_on c (2946 - k) d) whole → Reaches {T = Unit {0}} before whole (Ok tt)
    backs_spent past left =
        let none : 2946 - k ≡ 0 = omega arith in
        left_over before (backs_on c (2946 - k) d) whole left (ap (λ (n : ℕ). backs_on c n d left.now) none ∙ backs_none d left.now)

  -- Event lines

  module _ (before behind : W → Type 0) (es : List EventLine) (i : ℕ) (e : EventLine) (whole : Step W E) (within : i < length es) (is : e ≡ get_or es i e) where
    abbrev LineMoved : {T : Type 0} → Result T (Stopped E) → Type 0
    LineMoved r = (w : W) → before w → Reaches behind (line_on c (asked_by e) w) r

    pub line_done : {T : Type 0} (x : T) → LineMoved (Ok x) → Left before (driven c (map asked_by (drop i es))) whole →
        Left behind (driven c (map asked_by (drop (i + 1) es))) whole
    line_done x goes left =
        let m = goes left.now left.stand in
        rw add-one
        (record {
          now = m.0;
          stand = m.2;
          is = sym (onward_goes (line_on c (asked_by e) left.now) (driven c (map asked_by (drop (suc i) es))) m.0 m.1)
              ∙ sym (driven_here es i e left.now within is) ∙ left.is;
        })

    pub line_ended : (why : Stopped E) → ((w : W) → before w → StopsBy (line_on c (asked_by e) w) why) →
        Left before (driven c (map asked_by (drop i es))) whole → StopsBy whole why
    line_ended why goes left =
        ended_so why (line_on c (asked_by e) left.now) whole
        (λ x ended. sym left.is ∙ driven_here es i e left.now within is
        ∙ onward_ends (line_on c (asked_by e) left.now) (driven c (map asked_by (drop (suc i) es))) x ended) (goes left.now left.stand)

  pub lines_over : (stands : W → Type 0) (es : List EventLine) (i : ℕ) (whole : Step W E) → length es ≤ i →
      Left stands (driven c (map asked_by (drop i es))) whole → Reaches {T = Unit {0}} stands whole (Ok tt)
  lines_over stands es i whole past left =
      left_over stands (driven c (map asked_by (drop i es))) whole left
      (ap (λ (l : List EventLine). driven c (map asked_by l) left.now) (drop_all i es past) ∙ driven_none left.now)
