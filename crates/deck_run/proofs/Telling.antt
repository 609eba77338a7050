-- What the devices of a run tell of an event of one device, by the devices in code before and behind it.
use Rattle.std.proofs.Common.{◌≡◌, ◌∙◌, ◌++◌, ℕ, Bool, true, false, List, [], ◌∷◌, Option, Some, None, map, refl, sym, ap, subst}
use Rattle.std.specs.Prelude.{◌==◌, ◌&&◌, not, if◌then◌else◌, option_map, count_by, ⊤}
use Rattle.std.proofs.lemmas.Bool.{eqb-true}
use Rattle.std.proofs.lemmas.List.{append-nil, map-append}
use Rattle.plain_defs.specs.declared.journal.Act.{Act}
use Rattle.plain_defs.specs.declared.journal.Act.TheVariants.{Loosen, Harden, CfwLost}
use Rattle.plain_defs.specs.History.{History}
use Rattle.device_outside.specs.declared.volume.Volume.{Ghosts}
use Rattle.device_defs.specs.Device as D
use Rattle.device_defs.specs.Marks.{MarksDevice, half_mark}
use Rattle.device_core.specs.declared.device.Device.{Device}
use Rattle.device_core.specs.State.{device_of}
use Rattle.report_text.specs.declared.event.Happened.{Happened}
use Rattle.report_text.specs.declared.event.Loosed.{Loosed}
use Rattle.report_text.specs.declared.line.ReportLine.{ReportLine}
use Rattle.report_text.specs.Events.{first_lines, in_order, last_line, line_if, loosed_line, program_over_lines}
use Rattle.run_report.specs.declared.told.RunningProgram.{RunningProgram}
use Rattle.run_report.specs.Beside.{loose_lines, loosed, of_each, over_lines, over_of}
use Rattle.run_report.specs.Events.{running_by, running_in, running_program, work_lines}
use Rattle.run_report.specs.OneDevice.{lines_by}
use Rattle.subsystem_core.specs.Devices.{device_at, put_at}
use Rattle.subsystem_defs.specs.Beside.{WentBack, has_power, loose_count, loose_told, new_acts, new_items, power_told, told_act}
use Rattle.subsystem_defs.specs.Deeds.{device_in}
use Rattle.subsystem_defs.specs.Subsystem.{Mounted, mounted_in}
use Rattle.subsystem_laws.specs.WholeStood.{Stood, IsMounted, is_mounted, AreMountedBy, one_more, no_more}
use Rattle.deck_run.specs.Standing.{stood_of, all_stood}
use Rattle.deck_run.specs.Loosening.{loosed_by, all_loosed}
use Rattle.deck_run.specs.Recording.{loosed_between}
use Rattle.deck_run.proofs.Acting.{NothingCame, came_none}

some_same : {X : Type 0} {x y : X} → Some x ≡ Some y → x ≡ y
some_same e = cc

-- What a run knows of a device in code

pub record IsKnown (x : Stood) (m : Mounted) : Type 0 where
  pub number : m.device.store.device ≡ x.device.store.device
  pub history : m.device.history ≡ x.device.history
  pub counts : m.device.store.counts ≡ x.device.store.counts
  pub cylinders : m.device.store.cylinders ≡ x.device.store.cylinders
  pub lost : m.device.store.lost ≡ x.device.store.lost
  pub loose : m.device.store.loose ≡ x.device.store.loose
  pub id : m.device.store.number ≡ x.device.store.number
  pub half : m.device.store.half ≡ option_map half_mark x.device.store.half
  pub paired : m.device.store.paired ≡ x.device.store.paired
  pub lent : m.device.store.lent ≡ x.device.store.lent
  pub side_a : m.device.store.a ≡ x.device.store.a
  pub up_a : m.device.store.a.up ≡ x.device.store.a.up
  pub up_b : m.device.store.b.up ≡ x.device.store.b.up

pub known : {mine : List ℕ} {x : Stood} {m : Mounted} → IsMounted mine x m → IsKnown x m
known (is_mounted d v w h on_a on_b a b stands slots side_a side_b) = record {
  number = refl;
  history = refl;
  counts = refl;
  cylinders = refl;
  lost = refl;
  loose = refl;
  id = refl;
  half = refl;
  paired = refl;
  lent = refl;
  side_a = refl;
  up_a = refl;
  up_b = refl;
}

abbrev pub AreKnown : List Stood → List Mounted → Type 0
AreKnown [] [] = ⊤
AreKnown (x ∷ xs) (m ∷ ms) = IsKnown x m × AreKnown xs ms
AreKnown _ _ = ⊥

pub all_known : {used taken : List ℕ} (xs : List Stood) (ms : List Mounted) → AreMountedBy used taken xs ms → AreKnown xs ms
all_known [] [] (no_more f) = tt
all_known [] (m ∷ ms) all = elim all [ ]
all_known (x ∷ xs) [] all = elim all [ ]
all_known (x ∷ xs) (m ∷ ms) (one_more mine is apart all) = (known is, all_known xs ms all)

abbrev device : Mounted → MarksDevice
device m = m.device

-- What is told of data of cache fast write

module _ {F P H : Type 0} (n : ℕ) (before behind : D.Device F P H) where
  told_as : (act : Act) → loosed n (told_act before.store behind.store act) ≡ loosed_by n (loose_count before.store) behind.store.number act
  told_as (Loosen t) = refl
  told_as (Harden t) = refl
  told_as CfwLost = refl

  acts_as : (acts : List Act) → map (loosed n) (map (told_act before.store behind.store) acts)
      ≡ map (loosed_by n (loose_count before.store) behind.store.number) acts
  acts_as [] = refl
  acts_as (act ∷ acts) =
      ap (λ (x : Loosed). x ∷ map (loosed n) (map (told_act before.store behind.store) acts)) (told_as act)
      ∙ ap (λ (l : List Loosed). loosed_by n (loose_count before.store) behind.store.number act ∷ l) (acts_as acts)

  power_if : (b : Bool) → map (loosed n) (if b then WentBack (loose_count before.store) behind.store.number ∷ [] else [])
      ≡ (if b then loosed_by n (loose_count before.store) behind.store.number CfwLost ∷ [] else [])
  power_if true = refl
  power_if false = refl

  loose_as : map (loosed n) (loose_told before behind)
      ≡ all_loosed n (loose_count before.store) behind.store.number (new_acts before.history behind.history)
      (has_power (new_items before.history behind.history))
  loose_as =
      let acts = new_acts before.history behind.history in
      let lost = has_power (new_items before.history behind.history) in
      map-append (loosed n) (map (told_act before.store behind.store) acts) (power_told before.store behind.store lost)
      ∙ ap (λ (l : List Loosed). l ++ map (loosed n) (power_told before.store behind.store lost)) (acts_as acts)
      ∙ ap (λ (l : List Loosed). map (loosed_by n (loose_count before.store) behind.store.number) acts ++ l)
      (power_if (lost && not (loose_count before.store == 0)))

abbrev running_mounted : Option Mounted → Option RunningProgram
running_mounted (Some m) = option_map running_program m.device.history.running
running_mounted None = None

running_if : (m : Mounted) (o : Option MarksDevice) (q : Option Mounted) (b : Bool) → running_by o ≡ running_mounted q →
    running_by (if b then Some m.device else o) ≡ running_mounted (if b then Some m else q)
running_if m o q true e = refl
running_if m o q false e = e

running_there : (ms : List Mounted) (n : ℕ) → running_in (map device ms) n ≡ running_mounted (mounted_in ms n)
running_there [] n = refl
running_there (m ∷ ms) n =
    running_if m (device_in (map device ms) n) (mounted_in ms n) (m.device.store.device == n) (running_there ms n)

pub record FoundKnown {V : Type 0} {G : Ghosts V} (y : Device V G) (o : Option Mounted) : Type 0 where
  pub mounted : Mounted
  pub there : o ≡ Some mounted
  pub is : IsKnown (stood_of y) mounted

module _ {V : Type 0} {G : Ghosts V} where
  -- By its number

  known_by : (x y : Device V G) (m : Mounted) (o : Option (Device V G)) (q : Option Mounted) (b : Bool) → IsKnown (stood_of x) m →
      (o ≡ Some y → FoundKnown y q) → (if b then Some x else o) ≡ Some y → FoundKnown y (if b then Some m else q)
  known_by x y m o q true is rest at =
      record { mounted = m; there = refl; is = subst (λ (z : Device V G). IsKnown (stood_of z) m) (some_same at) is }
  known_by x y m o q false is rest at = rest at

  pub known_at : (xs : List (Device V G)) (ms : List Mounted) (n : ℕ) (y : Device V G) → AreKnown (all_stood xs) ms → device_at xs n ≡ Some y →
      FoundKnown y (mounted_in ms n)
  known_at [] ms n y all at = absurd (cc)
  known_at (x ∷ xs) [] n y all at = absurd all
  known_at (x ∷ xs) (m ∷ ms) n y all at =
      subst (λ (k : ℕ). FoundKnown y (if k == n then Some m else mounted_in ms n)) (sym all.0.number)
      (known_by x y m (device_at xs n) (mounted_in ms n) (x.store.number == n) all.0 (known_at xs ms n y all.1) at)

  -- What the others tell: nothing

  loose_none : (x y : Device V G) (m k : Mounted) → NothingCame (device_of x).history (device_of y).history → IsKnown (stood_of x) m →
      IsKnown (stood_of y) k → loose_lines m.device k.device ≡ []
  loose_none x y m k past is now =
      let d = m.device.store.device in
      let acts : new_acts m.device.history k.device.history ≡ [] =
      ap (λ (h : History). new_acts h k.device.history) is.history ∙ ap (λ (h : History). new_acts (device_of x).history h) now.history ∙ past.acts in
      let power : has_power (new_items m.device.history k.device.history) ≡ false =
      ap (λ (h : History). has_power (new_items h k.device.history)) is.history
      ∙ ap (λ (h : History). has_power (new_items (device_of x).history h)) now.history ∙ past.power in
      ap (λ (l : List Act). map loosed_line (map (loosed d) (map (told_act m.device.store k.device.store) l
      ++ power_told m.device.store k.device.store (has_power (new_items m.device.history k.device.history))))) acts
      ∙ ap (λ (b : Bool). map loosed_line (map (loosed d) (power_told m.device.store k.device.store b))) power

  over_none : (x y : Device V G) (m k : Mounted) → NothingCame (device_of x).history (device_of y).history → IsKnown (stood_of x) m →
      IsKnown (stood_of y) k → over_lines m.device k.device ≡ []
  over_none x y m k past is now =
      let d = m.device.store.device in
      ap (λ (h : History). program_over_lines (over_of d (new_items h k.device.history))) is.history
      ∙ ap (λ (h : History). program_over_lines (over_of d (new_items (device_of x).history h))) now.history
      ∙ ap program_over_lines (past.over d)

  -- to none of these devices anything came that is told
  pub data HavePasts : List (Device V G) → List (Device V G) → Type 0 where
    no_pasts : HavePasts [] []
    past_too : {x y : Device V G} {xs ys : List (Device V G)} → NothingCame (device_of x).history (device_of y).history → HavePasts xs ys →
        HavePasts (x ∷ xs) (y ∷ ys)

  pub same_pasts : (xs : List (Device V G)) → HavePasts xs xs
  same_pasts [] = no_pasts
  same_pasts (x ∷ xs) = past_too (came_none (device_of x).history (device_of x).history refl) (same_pasts xs)

  then_by : (x y d : Device V G) (ds zs : List (Device V G)) (n : ℕ) (b : Bool) → (device_of y).history ≡ (device_of x).history →
      ((ws : List (Device V G)) → device_at ds n ≡ Some x → HavePasts (put_at ds n y) ws → HavePasts ds ws) → (if b then Some d else device_at ds n) ≡ Some x →
      HavePasts (if b then y ∷ ds else d ∷ put_at ds n y) zs → HavePasts (d ∷ ds) zs
  then_by x y d ds [] n true past rest at all = elim all [ ]
  then_by x y d ds [] n false past rest at all = elim all [ ]
  then_by x y d ds (z ∷ zs) n true past rest at (past_too p ps) =
      past_too (subst (λ (h : History). NothingCame h (device_of z).history)
      (past ∙ ap (λ (w : Device V G). (device_of w).history) (sym (some_same at))) p) ps
  then_by x y d ds (z ∷ zs) n false past rest at (past_too p ps) = past_too p (rest zs at ps)

  -- before them one device had another state, and the same past
  pub put_then : (xs zs : List (Device V G)) (n : ℕ) (x y : Device V G) → (device_of y).history ≡ (device_of x).history → device_at xs n ≡ Some x →
      HavePasts (put_at xs n y) zs → HavePasts xs zs
  put_then [] zs n x y past at all = all
  put_then (d ∷ ds) zs n x y past at all =
      then_by x y d ds zs n (d.store.number == n) past (λ ws there more. put_then ds ws n x y past there more) at all

  pub all_loose_none : (xs ys : List (Device V G)) (ms ks : List Mounted) → HavePasts xs ys → AreKnown (all_stood xs) ms → AreKnown (all_stood ys) ks →
      of_each loose_lines (map device ms) (map device ks) ≡ []
  all_loose_none [] [] [] ks no_pasts all now = refl
  all_loose_none [] [] (m ∷ ms) ks no_pasts all now = absurd all
  all_loose_none (x ∷ xs) (y ∷ ys) [] ks (past_too p ps) all now = absurd all
  all_loose_none (x ∷ xs) (y ∷ ys) (m ∷ ms) [] (past_too p ps) all now = refl
  all_loose_none (x ∷ xs) (y ∷ ys) (m ∷ ms) (k ∷ ks) (past_too p ps) all now =
      ap (λ (l : List ReportLine). l ++ of_each loose_lines (map device ms) (map device ks)) (loose_none x y m k p all.0 now.0)
      ∙ all_loose_none xs ys ms ks ps all.1 now.1
  all_loose_none [] (y ∷ ys) ms ks ps all now = elim ps [ ]
  all_loose_none (x ∷ xs) [] ms ks ps all now = elim ps [ ]

  pub all_over_none : (xs ys : List (Device V G)) (ms ks : List Mounted) → HavePasts xs ys → AreKnown (all_stood xs) ms → AreKnown (all_stood ys) ks →
      of_each over_lines (map device ms) (map device ks) ≡ []
  all_over_none [] [] [] ks no_pasts all now = refl
  all_over_none [] [] (m ∷ ms) ks no_pasts all now = absurd all
  all_over_none (x ∷ xs) (y ∷ ys) [] ks (past_too p ps) all now = absurd all
  all_over_none (x ∷ xs) (y ∷ ys) (m ∷ ms) [] (past_too p ps) all now = refl
  all_over_none (x ∷ xs) (y ∷ ys) (m ∷ ms) (k ∷ ks) (past_too p ps) all now =
      ap (λ (l : List ReportLine). l ++ of_each over_lines (map device ms) (map device ks)) (over_none x y m k p all.0 now.0)
      ∙ all_over_none xs ys ms ks ps all.1 now.1
  all_over_none [] (y ∷ ys) ms ks ps all now = elim ps [ ]
  all_over_none (x ∷ xs) [] ms ks ps all now = elim ps [ ]

  pub over_by : (n : ℕ) (x y : Device V G) (m k : Mounted) → x.store.number ≡ n → IsKnown (stood_of x) m → IsKnown (stood_of y) k →
      over_lines m.device k.device ≡ program_over_lines (over_of n (new_items (device_of x).history (device_of y).history))
  over_by n x y m k here is now =
      ap (λ (d : ℕ). program_over_lines (over_of d (new_items m.device.history k.device.history))) (is.number ∙ here)
      ∙ ap (λ (h : History). program_over_lines (over_of n (new_items h k.device.history))) is.history
      ∙ ap (λ (h : History). program_over_lines (over_of n (new_items (device_of x).history h))) now.history

  -- with another one in the place of this number
  one_over_by : (n : ℕ) (d x y : Device V G) (ds : List (Device V G)) (m : Mounted) (ms ks : List Mounted) (b : Bool) → (d.store.number == n) ≡ b →
      (device_at ds n ≡ Some x → (js : List Mounted) → AreKnown (all_stood (put_at ds n y)) js →
      of_each over_lines (map device ms) (map device js) ≡ program_over_lines (over_of n (new_items (device_of x).history (device_of y).history))) →
      IsKnown (stood_of d) m → AreKnown (all_stood ds) ms → (if b then Some d else device_at ds n) ≡ Some x →
      AreKnown (all_stood (if b then y ∷ ds else d ∷ put_at ds n y)) ks →
      of_each over_lines (map device (m ∷ ms)) (map device ks)
      ≡ program_over_lines (over_of n (new_items (device_of x).history (device_of y).history))
  one_over_by n d x y ds m ms [] true e rest is all at now = absurd now
  one_over_by n d x y ds m ms [] false e rest is all at now = absurd now
  one_over_by n d x y ds m ms (k ∷ ks) true e rest is all at now =
      ap (λ (l : List ReportLine). over_lines m.device k.device ++ l) (all_over_none ds ds ms ks (same_pasts ds) all now.1)
      ∙ append-nil (over_lines m.device k.device)
      ∙ over_by n x y m k (ap (λ (z : Device V G). z.store.number) (sym (some_same at)) ∙ eqb-true d.store.number n e)
      (subst (λ (z : Device V G). IsKnown (stood_of z) m) (some_same at) is) now.0
  one_over_by n d x y ds m ms (k ∷ ks) false e rest is all at now =
      ap (λ (l : List ReportLine). l ++ of_each over_lines (map device ms) (map device ks))
      (over_none d d m k (came_none (device_of d).history (device_of d).history refl) is now.0)
      ∙ rest at ks now.1

  one_over : (n : ℕ) (x y : Device V G) (xs : List (Device V G)) (ms ks : List Mounted) → AreKnown (all_stood xs) ms → device_at xs n ≡ Some x →
      AreKnown (all_stood (put_at xs n y)) ks →
      of_each over_lines (map device ms) (map device ks) ≡ program_over_lines (over_of n (new_items (device_of x).history (device_of y).history))
  one_over n x y [] ms ks all at now = absurd (cc)
  one_over n x y (d ∷ ds) [] ks all at now = absurd all
  one_over n x y (d ∷ ds) (m ∷ ms) ks all at now =
      one_over_by n d x y ds m ms ks (d.store.number == n) refl (λ there js here. one_over n x y ds ms js all.1 there here) all.0 all.1 at now

  pub loose_by : (n : ℕ) (x y : Device V G) (m k : Mounted) → x.store.number ≡ n → IsKnown (stood_of x) m → IsKnown (stood_of y) k →
      loose_lines m.device k.device ≡ map loosed_line (loosed_between n x y)
  loose_by n x y m k here is now =
      let items = new_items m.device.history k.device.history in
      let acts = new_acts m.device.history k.device.history in
      let a = (device_of x).history in
      let b = (device_of y).history in
      let count = loose_count (device_of x).store in
      let number = (device_of y).store.number in
      ap (λ (l : List Loosed). map loosed_line l) (loose_as m.device.store.device m.device k.device)
      ∙ ap (λ (d : ℕ). map loosed_line (all_loosed d (loose_count m.device.store) k.device.store.number acts (has_power items))) (is.number ∙ here)
      ∙ ap (λ (l : List Bool). map loosed_line (all_loosed n (count_by (λ (b : Bool). b) l) k.device.store.number acts (has_power items))) is.loose
      ∙ ap (λ (d : ℕ). map loosed_line (all_loosed n count d acts (has_power items))) now.id
      ∙ ap (λ (h : History). map loosed_line (all_loosed n count number (new_acts h k.device.history) (has_power (new_items h k.device.history)))) is.history
      ∙ ap (λ (h : History). map loosed_line (all_loosed n count number (new_acts a h) (has_power (new_items a h)))) now.history

  one_loose_by : (n : ℕ) (d x y : Device V G) (ds : List (Device V G)) (m : Mounted) (ms ks : List Mounted) (b : Bool) → (d.store.number == n) ≡ b →
      (device_at ds n ≡ Some x → (js : List Mounted) → AreKnown (all_stood (put_at ds n y)) js →
      of_each loose_lines (map device ms) (map device js) ≡ map loosed_line (loosed_between n x y)) →
      IsKnown (stood_of d) m → AreKnown (all_stood ds) ms → (if b then Some d else device_at ds n) ≡ Some x →
      AreKnown (all_stood (if b then y ∷ ds else d ∷ put_at ds n y)) ks →
      of_each loose_lines (map device (m ∷ ms)) (map device ks)
      ≡ map loosed_line (loosed_between n x y)
  one_loose_by n d x y ds m ms [] true e rest is all at now = absurd now
  one_loose_by n d x y ds m ms [] false e rest is all at now = absurd now
  one_loose_by n d x y ds m ms (k ∷ ks) true e rest is all at now =
      ap (λ (l : List ReportLine). loose_lines m.device k.device ++ l) (all_loose_none ds ds ms ks (same_pasts ds) all now.1)
      ∙ append-nil (loose_lines m.device k.device)
      ∙ loose_by n x y m k (ap (λ (z : Device V G). z.store.number) (sym (some_same at)) ∙ eqb-true d.store.number n e)
      (subst (λ (z : Device V G). IsKnown (stood_of z) m) (some_same at) is) now.0
  one_loose_by n d x y ds m ms (k ∷ ks) false e rest is all at now =
      ap (λ (l : List ReportLine). l ++ of_each loose_lines (map device ms) (map device ks))
      (loose_none d d m k (came_none (device_of d).history (device_of d).history refl) is now.0)
      ∙ rest at ks now.1

  one_loose : (n : ℕ) (x y : Device V G) (xs : List (Device V G)) (ms ks : List Mounted) → AreKnown (all_stood xs) ms → device_at xs n ≡ Some x →
      AreKnown (all_stood (put_at xs n y)) ks →
      of_each loose_lines (map device ms) (map device ks) ≡ map loosed_line (loosed_between n x y)
  one_loose n x y [] ms ks all at now = absurd (cc)
  one_loose n x y (d ∷ ds) [] ks all at now = absurd all
  one_loose n x y (d ∷ ds) (m ∷ ms) ks all at now =
      one_loose_by n d x y ds m ms ks (d.store.number == n) refl (λ there js here. one_loose n x y ds ms js all.1 there here) all.0 all.1 at now

  -- The whole

  pub one_tells : (n : ℕ) (x y : Device V G) (xs : List (Device V G)) (ms ks : List Mounted) (h : Happened) (reads writes : ℕ) →
      AreKnown (all_stood xs) ms → device_at xs n ≡ Some x → AreKnown (all_stood (put_at xs n y)) ks →
      work_lines h reads writes (map device ms) (map device ks)
      ≡ lines_by n h (loosed_between n x y) reads writes (new_items (device_of x).history (device_of y).history)
  one_tells n x y xs ms ks h reads writes all at now =
      ap (λ (l : List ReportLine). in_order h l reads writes (of_each over_lines (map device ms) (map device ks))) (one_loose n x y xs ms ks all at now)
      ∙ ap (in_order h (map loosed_line (loosed_between n x y)) reads writes) (one_over n x y xs ms ks all at now)

  -- where nothing came to a past
  pub none_came : (xs ys : List (Device V G)) (ms ks : List Mounted) (h : Happened) → HavePasts xs ys → AreKnown (all_stood xs) ms →
      AreKnown (all_stood ys) ks → work_lines h 0 0 (map device ms) (map device ks) ≡ first_lines h ++ line_if (last_line h)
  none_came xs ys ms ks h past all now =
      ap (λ (l : List ReportLine). in_order h l 0 0 (of_each over_lines (map device ms) (map device ks))) (all_loose_none xs ys ms ks past all now)
      ∙ ap (in_order h [] 0 0) (all_over_none xs ys ms ks past all now)

  -- where nothing happened
  pub none_tells : (xs : List (Device V G)) (ms : List Mounted) (h : Happened) → AreKnown (all_stood xs) ms →
      work_lines h 0 0 (map device ms) (map device ms) ≡ first_lines h ++ line_if (last_line h)
  none_tells xs ms h all = none_came xs xs ms ms h (same_pasts xs) all all

  -- Which program runs

  pub running_known : (xs : List (Device V G)) (ms : List Mounted) (n : ℕ) (x : Device V G) → AreKnown (all_stood xs) ms → device_at xs n ≡ Some x →
      running_in (map device ms) n ≡ option_map running_program (device_of x).history.running
  running_known xs ms n x all at =
      let f = known_at xs ms n x all at in
      running_there ms n ∙ ap running_mounted f.there ∙ ap (λ (h : History). option_map running_program h.running) f.is.history
