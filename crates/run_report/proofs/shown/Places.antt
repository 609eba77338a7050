-- The place of one device before and behind an event.
use Rattle.std.proofs.Common.{◌≡◌, ◌==◌, ◌++◌, ℕ, Bool, true, false, List, [], ◌∷◌, map, Some, refl, sym, ap, subst, ◌∙◌, if◌then◌else◌}
use Rattle.std.proofs.lemmas.Bool.{cond_both, eqb-true, eqb-false, ne_eqb}
use Rattle.std.proofs.lemmas.List.{append-nil}
use Rattle.device_outside.specs.Pool.{Pool}
use Rattle.device_outside.specs.Told.{Calls}
use Rattle.device_defs.specs.Marks.{MarksDevice}
use Rattle.device_defs.specs.Orders.{restore}
use Rattle.report_text.specs.declared.line.ReportLine.{ReportLine}
use Rattle.report_text.specs.Events.{program_over_lines}
use Rattle.run_report.specs.Beside.{over_of, over_lines}
use Rattle.run_report.specs.Shown.{history_lines}
use Rattle.run_report.specs.Showing.{lines_by_history}
use Rattle.run_report.proofs.shown.Histories.{HistoryShows}
use Rattle.run_report.proofs.shown.Lines.{overs_of}
use Rattle.subsystem_defs.specs.Beside.{new_items}
use Rattle.subsystem_defs.specs.Decks.{Firsts}
use Rattle.subsystem_defs.specs.Deeds.{device_in}
use Rattle.subsystem_defs.specs.Happening as H
use Rattle.subsystem_defs.specs.Happening.{Talk, held_with, sweep, is_lent_to, restored_in}
use Rattle.subsystem_defs.specs.Subsystem.{Mounted, number_of, mounted_in, put_in}
use Rattle.subsystem_laws.proofs.PlainRuns.{PlainlyFrom, ArePlainOn}

abbrev pub devices : List Mounted → List MarksDevice
devices ms = map (λ (m : Mounted). m.device) ms

module _ (n : ℕ) where
  -- none has the number
  pub data Apart : List MarksDevice → List MarksDevice → Type 0 where
    apart_none : Apart [] []
    apart_more : {b a : MarksDevice} {bs ks : List MarksDevice} → (b.store.device == n) ≡ false → (a.store.device == n) ≡ false → Apart bs ks →
        Apart (b ∷ bs) (a ∷ ks)

  -- one has, and this is of it
  pub data At (q : MarksDevice → MarksDevice → Type 0) : List MarksDevice → List MarksDevice → Type 0 where
    here : {b a : MarksDevice} {bs ks : List MarksDevice} → (b.store.device == n) ≡ true → (a.store.device == n) ≡ true → q b a → Apart bs ks →
        At q (b ∷ bs) (a ∷ ks)
    there : {b a : MarksDevice} {bs ks : List MarksDevice} → (b.store.device == n) ≡ false → (a.store.device == n) ≡ false → At q bs ks →
        At q (b ∷ bs) (a ∷ ks)

  pub data Lone : List MarksDevice → Type 0 where
    lone_none : Lone []
    lone_more : {d : MarksDevice} {ds : List MarksDevice} → (d.store.device == n) ≡ false → Lone ds → Lone (d ∷ ds)

  pub data One : List MarksDevice → Type 0 where
    one_here : {d : MarksDevice} {ds : List MarksDevice} → (d.store.device == n) ≡ true → Lone ds → One (d ∷ ds)
    one_there : {d : MarksDevice} {ds : List MarksDevice} → (d.store.device == n) ≡ false → One ds → One (d ∷ ds)

  lone_behind : (bs ks : List MarksDevice) → Apart bs ks → Lone ks
  lone_behind [] [] apart_none = lone_none
  lone_behind (b ∷ bs) (a ∷ ks) (apart_more x y more) = lone_more y (lone_behind bs ks more)
  lone_behind [] (a ∷ ks) x = elim x [ ]
  lone_behind (b ∷ bs) [] x = elim x [ ]

  pub one_behind : {q : MarksDevice → MarksDevice → Type 0} (bs ks : List MarksDevice) → At q bs ks → One ks
  one_behind (b ∷ bs) (a ∷ ks) (here x y h more) = one_here y (lone_behind bs ks more)
  one_behind (b ∷ bs) (a ∷ ks) (there x y more) = one_there y (one_behind bs ks more)
  one_behind [] ks x = elim x [ ]
  one_behind (b ∷ bs) [] x = elim x [ ]

  apart_same : (ds : List MarksDevice) → Lone ds → Apart ds ds
  apart_same [] lone_none = apart_none
  apart_same (d ∷ ds) (lone_more x more) = apart_more x x (apart_same ds more)

  pub at_same : {q : MarksDevice → MarksDevice → Type 0} (ds : List MarksDevice) → One ds → ((d : MarksDevice) → q d d) → At q ds ds
  at_same (d ∷ ds) (one_here x more) f = here x x (f d) (apart_same ds more)
  at_same (d ∷ ds) (one_there x more) f = there x x (at_same ds more f)
  at_same [] x f = elim x [ ]

  apart_then : (bs cs ks : List MarksDevice) → Apart bs cs → Apart cs ks → Apart bs ks
  apart_then [] [] [] apart_none apart_none = apart_none
  apart_then (b ∷ bs) (c ∷ cs) (a ∷ ks) (apart_more x y f) (apart_more z w g) = apart_more x w (apart_then bs cs ks f g)
  apart_then [] [] (a ∷ ks) f g = elim g [ ]
  apart_then [] (c ∷ cs) ks f g = elim f [ ]
  apart_then (b ∷ bs) [] ks f g = elim f [ ]
  apart_then (b ∷ bs) (c ∷ cs) [] f g = elim g [ ]

  -- one change, and then another
  pub at_then : {p q r : MarksDevice → MarksDevice → Type 0} (bs cs ks : List MarksDevice) → At p bs cs → At q cs ks →
      ((b c a : MarksDevice) → p b c → q c a → r b a) → At r bs ks
  at_then (b ∷ bs) (c ∷ cs) (a ∷ ks) (here x y f more) (here z w g others) h = here x w (h b c a f g) (apart_then bs cs ks more others)
  at_then (b ∷ bs) (c ∷ cs) (a ∷ ks) (there x y f) (there z w g) h = there x w (at_then bs cs ks f g h)
  at_then (b ∷ bs) (c ∷ cs) (a ∷ ks) (here x y f more) (there z w g) h = absurd (let both : true ≡ false = sym y ∙ z in cc)
  at_then (b ∷ bs) (c ∷ cs) (a ∷ ks) (there x y f) (here z w g others) h = absurd (let both : true ≡ false = sym z ∙ y in cc)
  at_then [] cs ks f g h = elim f [ ]
  at_then (b ∷ bs) [] ks f g h = elim f [ ]
  at_then (b ∷ bs) (c ∷ cs) [] f g h = elim g [ ]

  pub at_weaker : {p q : MarksDevice → MarksDevice → Type 0} (bs ks : List MarksDevice) → At p bs ks → ((b a : MarksDevice) → p b a → q b a) → At q bs ks
  at_weaker (b ∷ bs) (a ∷ ks) (here x y f more) h = here x y (h b a f) more
  at_weaker (b ∷ bs) (a ∷ ks) (there x y f) h = there x y (at_weaker bs ks f h)
  at_weaker [] ks f h = elim f [ ]
  at_weaker (b ∷ bs) [] f h = elim f [ ]

  -- Another device in a place

  module _ (q : MarksDevice → MarksDevice → Type 0) where
    pub put_own : (ms : List Mounted) (x : Mounted) → (number_of x == n) ≡ true → One (devices ms) →
        ((m : Mounted) → mounted_in ms n ≡ Some m → q m.device x.device) → At q (devices ms) (devices (put_in ms n x))
    put_own [] x is one f = elim one [ ]
    put_own (m ∷ ms) x is (one_here at more) f =
        subst (λ (b : Bool). At q (devices (m ∷ ms)) (devices (if b then x ∷ ms else m ∷ put_in ms n x))) (sym at)
        (here at is (f m (ap (λ (b : Bool). if b then Some m else mounted_in ms n) at)) (apart_same (devices ms) more))
    put_own (m ∷ ms) x is (one_there at more) f =
        subst (λ (b : Bool). At q (devices (m ∷ ms)) (devices (if b then x ∷ ms else m ∷ put_in ms n x))) (sym at)
        (there at at (put_own ms x is more (λ k found. f k (ap (λ (b : Bool). if b then Some m else mounted_in ms n) at ∙ found))))

    apart_put : (ms : List Mounted) (k : ℕ) (x : Mounted) → (number_of x == n) ≡ false → Lone (devices ms) →
        Apart (devices ms) (devices (put_in ms k x))
    apart_put [] k x is lone_none = apart_none
    apart_put (m ∷ ms) k x is (lone_more at more) =
        cond_both (number_of m == k) (x ∷ ms) (m ∷ put_in ms k x) (λ (l : List Mounted). Apart (devices (m ∷ ms)) (devices l))
        (λ _. apart_more at is (apart_same (devices ms) more)) (λ _. apart_more at at (apart_put ms k x is more))

    numbers_differ : (a k : ℕ) → (a == n) ≡ true → (k == n) ≡ false → (a == k) ≡ false
    numbers_differ a k is other = ne_eqb a k (λ e. eqb-false k n other (sym e ∙ eqb-true a n is))

    pub put_other : (ms : List Mounted) (k : ℕ) (x : Mounted) → (k == n) ≡ false → (number_of x == n) ≡ false → One (devices ms) →
        ((d : MarksDevice) → q d d) → At q (devices ms) (devices (put_in ms k x))
    put_other [] k x other is one f = elim one [ ]
    put_other (m ∷ ms) k x other is (one_here at more) f =
        subst (λ (b : Bool). At q (devices (m ∷ ms)) (devices (if b then x ∷ ms else m ∷ put_in ms k x))) (sym (numbers_differ (number_of m) k at other))
        (here at at (f m.device) (apart_put ms k x is more))
    put_other (m ∷ ms) k x other is (one_there at more) f =
        cond_both (number_of m == k) (x ∷ ms) (m ∷ put_in ms k x) (λ (l : List Mounted). At q (devices (m ∷ ms)) (devices l))
        (λ _. there at is (at_same (devices ms) more f)) (λ _. there at at (put_other ms k x other is more f))

    -- whichever it is
    pub put_at : (ms : List Mounted) (k : ℕ) (x : Mounted) → number_of x ≡ k → One (devices ms) →
        (k ≡ n → (m : Mounted) → mounted_in ms n ≡ Some m → q m.device x.device) → ((k == n) ≡ false → (d : MarksDevice) → q d d) →
        At q (devices ms) (devices (put_in ms k x))
    put_at ms k x is one own other = by_test (k == n) refl where
      by_test : (b : Bool) → (k == n) ≡ b → At q (devices ms) (devices (put_in ms k x))
      by_test true at =
          let same = eqb-true k n at in
          subst (λ (i : ℕ). At q (devices ms) (devices (put_in ms i x))) (sym same)
          (put_own ms x (ap (λ (i : ℕ). i == n) is ∙ at) one (own same))
      by_test false at = put_other ms k x at (ap (λ (i : ℕ). i == n) is ∙ at) one (other at)

    -- each device
    module _ (firsts : Firsts) (f : MarksDevice → Talk (Unit {0}))
        (each : (m : Mounted) → PlainlyFrom firsts m.device → (pool : Pool) → ((held_with pool m (f m.device)).state.store.device ≡ m.device.store.device)
        × (m.device.store.device ≡ n → q m.device (held_with pool m (f m.device)).state)) where
      apart_swept : (ms : List Mounted) (pool : Pool) → ArePlainOn firsts ms → Lone (devices ms) → Apart (devices ms) (devices (sweep f ms pool).mounted)
      unfolding H.sweep
      apart_swept [] pool p lone_none = apart_none
      apart_swept (m ∷ ms) pool p (lone_more at more) =
          apart_more at (ap (λ (i : ℕ). i == n) (each m p.0 pool).0 ∙ at) (apart_swept ms (held_with pool m (f m.device)).told.pool p.1 more)

      pub swept_at : (ms : List Mounted) (pool : Pool) → ArePlainOn firsts ms → One (devices ms) → At q (devices ms) (devices (sweep f ms pool).mounted)
      unfolding H.sweep
      swept_at [] pool p one = elim one [ ]
      swept_at (m ∷ ms) pool p (one_here at more) =
          here at (ap (λ (i : ℕ). i == n) (each m p.0 pool).0 ∙ at) ((each m p.0 pool).1 (eqb-true m.device.store.device n at))
          (apart_swept ms (held_with pool m (f m.device)).told.pool p.1 more)
      swept_at (m ∷ ms) pool p (one_there at more) =
          there at (ap (λ (i : ℕ). i == n) (each m p.0 pool).0 ∙ at) (swept_at ms (held_with pool m (f m.device)).told.pool p.1 more)

  -- An empty volume for the device that was lent

  apart_restored : (ms : List Mounted) (a : ℕ) (calls : Calls) → Lone (devices ms) → Apart (devices ms) (devices (restored_in ms a calls))
  apart_restored [] a calls lone_none = apart_none
  apart_restored (m ∷ ms) a calls (lone_more at more) =
      cond_both (is_lent_to m.device.store.lent a) (record m { device = restore m.device; a = calls } ∷ ms) (m ∷ restored_in ms a calls)
      (λ (l : List Mounted). Apart (devices (m ∷ ms)) (devices l)) (λ _. apart_more at at (apart_same (devices ms) more))
      (λ _. apart_more at at (apart_restored ms a calls more))

  pub restored_at : (q : MarksDevice → MarksDevice → Type 0) → ((d : MarksDevice) → q d d) → ((d : MarksDevice) → q d (restore d)) →
      (ms : List Mounted) (a : ℕ) (calls : Calls) → One (devices ms) → At q (devices ms) (devices (restored_in ms a calls))
  restored_at q same new [] a calls one = elim one [ ]
  restored_at q same new (m ∷ ms) a calls (one_here at more) =
      cond_both (is_lent_to m.device.store.lent a) (record m { device = restore m.device; a = calls } ∷ ms) (m ∷ restored_in ms a calls)
      (λ (l : List Mounted). At q (devices (m ∷ ms)) (devices l)) (λ _. here at at (new m.device) (apart_same (devices ms) more))
      (λ _. here at at (same m.device) (apart_restored ms a calls more))
  restored_at q same new (m ∷ ms) a calls (one_there at more) =
      cond_both (is_lent_to m.device.store.lent a) (record m { device = restore m.device; a = calls } ∷ ms) (m ∷ restored_in ms a calls)
      (λ (l : List Mounted). At q (devices (m ∷ ms)) (devices l)) (λ _. there at at (at_same (devices ms) more same))
      (λ _. there at at (restored_at q same new ms a calls more))

  -- What the lines show then

  no_overs : (bs ks : List MarksDevice) → Apart bs ks → overs_of n bs ks ≡ []
  no_overs [] [] apart_none = refl
  no_overs (b ∷ bs) (a ∷ ks) (apart_more x y more) =
      ap (λ (c : Bool). (if c then over_lines b a else []) ++ overs_of n bs ks) x ∙ no_overs bs ks more
  no_overs [] (a ∷ ks) x = elim x [ ]
  no_overs (b ∷ bs) [] x = elim x [ ]

  abbrev pub ShowsSo : (Bool → List ReportLine) → MarksDevice → MarksDevice → Type 0
  ShowsSo says b a = (own : Bool) → HistoryShows n b.history a.history (says own)

  its_over : (b a : MarksDevice) (bs ks : List MarksDevice) → (b.store.device == n) ≡ true → Apart bs ks →
      overs_of n (b ∷ bs) (a ∷ ks) ≡ program_over_lines (over_of n (new_items b.history a.history))
  its_over b a bs ks is more =
      ap (λ (c : Bool). (if c then over_lines b a else []) ++ overs_of n bs ks) is
      ∙ ap (λ (l : List ReportLine). over_lines b a ++ l) (no_overs bs ks more)
      ∙ append-nil (over_lines b a)
      ∙ ap (λ (i : ℕ). program_over_lines (over_of i (new_items b.history a.history))) (eqb-true b.store.device n is)

  pub at_shows : (says : Bool → List ReportLine) (bs ks : List MarksDevice) → At (ShowsSo says) bs ks → (own : Bool) →
      lines_by_history n (device_in ks n) ≡ lines_by_history n (device_in bs n) ++ (says own ++ (overs_of n bs ks ++ []))
  at_shows says (b ∷ bs) (a ∷ ks) (here x y h more) own =
      ap (λ (c : Bool). lines_by_history n (if c then Some a else device_in ks n)) y ∙ h own
      ∙ ap (λ (l : List ReportLine). history_lines n b.history ++ (says own ++ l))
      (sym (append-nil (overs_of n (b ∷ bs) (a ∷ ks)) ∙ its_over b a bs ks x more))
      ∙ ap (λ (l : List ReportLine). l ++ (says own ++ (overs_of n (b ∷ bs) (a ∷ ks) ++ [])))
      (sym (ap (λ (c : Bool). lines_by_history n (if c then Some b else device_in bs n)) x))
  at_shows says (b ∷ bs) (a ∷ ks) (there x y h) own =
      ap (λ (c : Bool). lines_by_history n (if c then Some a else device_in ks n)) y ∙ at_shows says bs ks h own
      ∙ ap (λ (l : List ReportLine). l ++ (says own ++ (overs_of n bs ks ++ [])))
      (sym (ap (λ (c : Bool). lines_by_history n (if c then Some b else device_in bs n)) x))
      ∙ ap (λ (c : Bool). lines_by_history n (device_in (b ∷ bs) n) ++ (says own ++ (((if c then over_lines b a else []) ++ overs_of n bs ks) ++ []))) (sym x)
  at_shows says [] ks h own = elim h [ ]
  at_shows says (b ∷ bs) [] h own = elim h [ ]
