-- Each device stands as it stood, beside the plain device of its history or lent.
use Rattle.std.proofs.Common.{◌≡◌, ◌∙◌, ◌<◌, ◌*◌, ◌==◌, ◌∷◌, [], ℕ, arith, Bool, true, false, List, Option, Some, None, IsSome, is_some, length, get_or, set, refl, sym, ap, subst}
use Rattle.std.specs.Prelude.{Result, Ok, Err, OnErr, OnOk, not, option_map}
use Rattle.std.proofs.lemmas.List.Elements.{All-cons, All-get_or, All-head, All-set, All-tail}
use Rattle.std.proofs.lemmas.Bool.{eqb-true}
use Rattle.std.proofs.lemmas.Option.{slice_get-get_or}
use Rattle.ckd_types.specs.declared.record.Track.{Track}
use Rattle.ckd_types.specs.declared.paths.Side.{Side}
use Rattle.ckd_types.specs.declared.paths.Side.TheVariants.{A}
use Rattle.device_outside.specs.declared.volume.Volume.{Ghosts}
use Rattle.device_outside.specs.After.{Tells}
use Rattle.device_outside.specs.Disk.{empty_contents}
use Rattle.device_outside.specs.Volume.{VolumeView}
use Rattle.device_defs.specs.Start.{fault_by, start_fault}
use Rattle.device_defs.specs.Orders.{restore}
use Rattle.device_defs.specs.Store.{side_of}
use Rattle.device_store.specs.State.{on_a}
use Rattle.device_core.specs.declared.device.Device.{Device}
use Rattle.device_core.specs.Promises.{ComesPlain, ForgetsNothing, HasPlainHistory, IsSound, StandsLent, StandsPlain, StaysLent, TellsTracks, told_by, whole_of}
use Rattle.device_core.specs.State.{DefinedDevice, device_of}
use Rattle.device_core.proofs.Planned.{still_lent}
use Rattle.device_core.proofs.Promising.{still_stays_plain}
use Rattle.past_laws.specs.Forgotten.{put_away}
use Rattle.past_laws.specs.PutAway.{PutAway}
use Rattle.subsystem_defs.specs.Refusals.{fail_fault, has_side, lent_by, replace_fault, resume_fault, suspend_fault, where_so}
use Rattle.subsystem_defs.specs.declared.end.OrderFault.TheVariants.{NoSide, Unpaired, Up}
use Rattle.subsystem_defs.proofs.Unrefused.{first_none, is_not, where_none}
use Rattle.subsystem_laws.proofs.turning.Sound.{beside_plain, beside_sound}
use Rattle.subsystem_defs.specs.Happening.{is_lent_to}
use Rattle.subsystem_core.specs.Comes.{Restored, another_was_lent, none_was_lent, this_was_lent}
use Rattle.subsystem_core.specs.Devices.{device_at, number_of, numbers_of, put_at}
use Rattle.subsystem_core.specs.Places.{are_rising}
use Rattle.subsystem_core.specs.Standing.{AllStand, NoneIsLent, Stands, StayForgetting, StayPlain, StayStanding, StaysStanding, TellsEmpty, with_more}
use Rattle.subsystem_core.proofs.Coming.{not_lent}
use Rattle.subsystem_core.proofs.Found.{below_others, eq_self, some_same}
use Rattle.subsystem_core.proofs.Numbers.{rest_rises}

-- What is refused where it isn't so

loan_none : (d : DefinedDevice) (path : ℕ) (o : Option ℕ) → fault_by d path o ≡ None → is_some o ≡ false
loan_none d path None is = refl
loan_none d path (Some to) is = absurd cc

pub starts_home : (d : DefinedDevice) (path : ℕ) → start_fault d path ≡ None → is_some d.store.lent ≡ false
unfolding start_fault
starts_home d path is = loan_none d path d.store.lent is

pub held_pair : (d : DefinedDevice) → suspend_fault d ≡ None → d.store.paired ≡ true
unfolding suspend_fault
held_pair d is = is_not d.store.paired (where_none (not d.store.paired) Unpaired (first_none (where_so (not d.store.paired) Unpaired) _ is).0)

pub resumed_pair : (d : DefinedDevice) → resume_fault d ≡ None → d.store.paired ≡ true
unfolding resume_fault
resumed_pair d is = is_not d.store.paired (where_none (not d.store.paired) Unpaired (first_none (where_so (not d.store.paired) Unpaired) _ is).0)

pub loses_home : (d : DefinedDevice) (side : Side) → fail_fault d side ≡ None → is_some d.store.lent ≡ false
unfolding fail_fault
loses_home d side is = not_lent d.store.lent _ is

mapped_none : {X Y : Type 0} (f : X → Y) (o : Option X) → IsSome o → option_map f o ≡ None → ⊥
mapped_none f (Some x) is none = cc
mapped_none f None is none = cc

half_none : {X : Type 0} (o : Option X) → is_some o ≡ true → o ≡ None → ⊥
half_none (Some x) is none = cc
half_none None is none = cc

never_both : (b : Bool) → b ≡ true → b ≡ false → ⊥
never_both b is off = let no : true ≡ false = sym is ∙ off in absurd cc

-- One device

module _ {V : Type 0} {G : Ghosts V} (x y : Device V G) (same : y.store.pair.lent ≡ x.store.pair.lent)
    (plain : (past : PutAway) (first : List Track) → StandsPlain past first x → StandsPlain past first y) where
  pub stays_by : ((past : PutAway) (first : List Track) → StandsLent past first x → StandsLent past first y) → StaysStanding x y
  stays_by away past first s = record {
    here = λ home. plain past first (s.here (sym (ap is_some same) ∙ home));
    lent = λ gone. away past first (s.lent (sym (ap is_some same) ∙ gone));
  }

  -- one that isn't lent
  pub stays_home : is_some x.store.pair.lent ≡ false → StaysStanding x y
  stays_home home past first s = record {
    here = λ h. plain past first (s.here home);
    lent = λ gone. absurd (never_both (is_some x.store.pair.lent) (sym (ap is_some same) ∙ gone) home);
  }

  -- one that has two sides
  pub stays_paired : (device_of x).store.paired ≡ true → StaysStanding x y
  stays_paired two = stays_by (λ past first s. absurd (never_both (device_of x).store.paired two s.is.lent.store.single))

  -- one whose program runs
  pub stays_running : IsSome (device_of x).history.running → StaysStanding x y
  stays_running runs = stays_by (λ past first s. absurd (mapped_none _ (device_of x).history.running runs s.is.lent.idle))

  -- one that worked in the background, or lacked memory for it while none is lent
  pub stays_worked : {X E : Type 0} (r : Result X E) → OnOk r (StaysLent x y) → (OnErr r (is_some x.store.pair.lent ≡ false)) → StaysStanding x y
  stays_worked (Ok a) away home = stays_by away.stands
  stays_worked (Err e) away home = stays_home home

  -- one with a half write
  pub stays_half : is_some (device_of x).store.half ≡ true → StaysStanding x y
  stays_half half = stays_by (λ past first s. absurd (half_none (device_of x).store.half half s.is.lent.store.half))

module _ {V : Type 0} {G : Ghosts V} where
  -- it has lent its volume
  pub stays_away : (x y : Device V G) (to : ℕ) → y.store.pair.lent ≡ Some to → is_some x.store.pair.lent ≡ false →
      ((past : PutAway) (first : List Track) → StandsPlain past first x → StandsLent past first y) → StaysStanding x y
  stays_away x y to lent home goes past first s = record {
    here = λ h. absurd (never_both (is_some y.store.pair.lent) (ap is_some lent) h);
    lent = λ gone. goes past first (s.here home);
  }

  -- the volume of one that stands so tells its tracks
  pub tells_tracks : (past : PutAway) (first : List Track) (x : Device V G) (v : V) → on_a x.store ≡ Some v → (device_of x).store.a.up ≡ true →
      (G.view v).tracks ≡ x.store.cylinders * 15 → StandsPlain past first x → TellsTracks (G.view v) (G.view v).tracks
  tells_tracks past first x v is up size s =
      (s.is.held.a, subst (λ (o : Option V). Tells (option_map G.view o) s.is.held.a) is s.is.untold.a, s.is.order.agrees.ground.long A up ∙ sym size)

  -- All devices

  pub set_stands : (ds : List (Device V G)) (i : ℕ) (x y : Device V G) → i < length ds → x ≡ get_or ds i x → y.store.number ≡ x.store.number →
      StaysStanding x y → StayStanding ds (set ds i y)
  set_stands ds i x y within read number stays pasts firsts all =
      let P : Device V G → Type 0 = λ (d : Device V G). Stands (pasts (number_of d)) (firsts (number_of d)) d in
      let before : P x = subst P (sym read) (All-get_or P ds i x within all) in
      let behind : Stands (pasts (number_of x)) (firsts (number_of x)) y = stays (pasts (number_of x)) (firsts (number_of x)) before in
      All-set P ds i y (subst (λ (n : ℕ). Stands (pasts n) (firsts n) y) (sym number) behind) all

  pub none_lent_at : {X E : Type 0} (r : Result X E) (ds : List (Device V G)) (i : ℕ) (x : Device V G) → i < length ds → x ≡ get_or ds i x →
      OnErr r (NoneIsLent ds) → OnErr r (is_some x.store.pair.lent ≡ false)
  none_lent_at (Ok a) ds i x within read none = tt
  none_lent_at (Err e) ds i x within read none =
      subst (λ (d : Device V G). is_some d.store.pair.lent ≡ false) (sym read)
      (All-get_or (λ (d : Device V G). is_some (device_of d).store.lent ≡ false) ds i x within none)

  -- what follows

  history_by : (past : PutAway) (first : List Track) (d : Device V G) (b : Bool) → is_some (device_of d).store.lent ≡ b → Stands past first d →
      HasPlainHistory past first d
  history_by past first d true is s = (s.lent is).is.follows.stands.plain
  history_by past first d false is s = beside_plain (whole_of past d) (told_by d) (s.here is).is

  sound_here : (past : PutAway) (first : List Track) (d : Device V G) → StandsPlain past first d → IsSound past first d
  sound_here past first d s = record {
    held = s.is.held;
    on_a = s.is.untold.a;
    on_b = s.is.untold.b;
    is = beside_sound (whole_of past d) (told_by d) s.is;
  }

  pub stay_plain : (olds news : List (Device V G)) → StayStanding olds news → StayPlain olds news
  stay_plain olds news stand = record {
    stand = stand;
    histories = λ pasts firsts all i d within.
        let e = get_or news i d in history_by (pasts (number_of e)) (firsts (number_of e)) e _ refl (stand pasts firsts all i d within);
    sound = λ pasts firsts all i d within home.
        let e = get_or news i d in sound_here (pasts (number_of e)) (firsts (number_of e)) e ((stand pasts firsts all i d within).here home);
  }

-- A volume comes

lent_some : (o : Option ℕ) (n : ℕ) → is_lent_to o n ≡ true → is_some o ≡ true
lent_some (Some to) n is = refl
lent_some None n is = absurd cc

pub replaces_down : (d : DefinedDevice) (side : Side) → replace_fault d side ≡ None → (side_of d.store side).up ≡ false
unfolding replace_fault
replaces_down d side is =
    let a = first_none (lent_by d.store.lent) _ is in
    let b = first_none (where_so (not (has_side d.store side)) NoSide) _ a.1 in
    where_none (side_of d.store side).up Up (first_none (where_so (side_of d.store side).up Up) _ b.1).0

module _ {V : Type 0} {G : Ghosts V} where
  pub stays_back : (x y : Device V G) → y.store.pair.lent ≡ None → is_some x.store.pair.lent ≡ true →
      ((past : PutAway) (first : List Track) → StandsLent past first x → StandsPlain past first y) → StaysStanding x y
  stays_back x y home lent comes past first s = record {
    here = λ h. comes past first (s.lent lent);
    lent = λ gone. absurd (never_both (is_some y.store.pair.lent) gone (ap is_some home));
  }

  -- the one that was lent has an empty volume again, or it is what it was
  pub restored_stands : {E : Type 0} (r : Result (Unit {0}) E) (ds : List (Device V G)) (i n : ℕ) (x y : Device V G) (v : VolumeView (List ℕ)) →
      i < length ds → x ≡ get_or ds i x → y.store.number ≡ x.store.number → is_lent_to x.store.pair.lent n ≡ true → v.tracks ≡ x.store.cylinders * 15 →
      OnOk r (device_of y ≡ restore (device_of x)) → OnErr r ((device_of y ≡ device_of x) × (y.store ≡ x.store)) →
      OnOk r (v.contents ≡ Some (empty_contents (x.store.cylinders * 15)) → ComesPlain x y) → OnOk r (TellsEmpty v) → StayStanding ds (set ds i y)
  restored_stands (Ok u) ds i n x y v within read number lent size is same comes empty =
      set_stands ds i x y within read number
      (stays_back x y (ap (λ (d : DefinedDevice). d.store.lent) is) (lent_some x.store.pair.lent n lent)
      (comes (rw size at empty)).stands)
  restored_stands (Err e) ds i n x y v within read number lent size is same comes empty =
      set_stands ds i x y within read number
      (stays_by x y (ap (λ s. s.pair.lent) same.1) (still_stays_plain x y same.0 same.1).stands (still_lent x y same.1 same.0).stands)

  -- one that parts is at home
  pub parts_home : (x : Device V G) → (device_of x).store.a.up ≡ true → is_some x.store.pair.lent ≡ false
  parts_home x up = by_lent (is_some x.store.pair.lent) refl
    where
      by_lent : (b : Bool) → is_some x.store.pair.lent ≡ b → is_some x.store.pair.lent ≡ false
      by_lent true is = absurd (never_both x.store.pair.a.up up (x.store.pair.away is).0)
      by_lent false is = is

  -- another one that was lent leaves it
  other_first : (w y x : Device V G) (xs : List (Device V G)) (n m : ℕ) → is_lent_to w.store.pair.lent n ≡ true → y.store.number ≡ w.store.number →
      is_some x.store.pair.lent ≡ false → (b : Bool) → (w.store.number == m) ≡ b → device_at (w ∷ xs) m ≡ Some x → device_at (y ∷ xs) m ≡ Some x
  other_first w y x xs n m lent number home true test at =
      let same : w ≡ x = some_same (rw test at at) in
      absurd (never_both (is_some x.store.pair.lent) (subst (λ (z : Device V G). is_some z.store.pair.lent ≡ true) same (lent_some w.store.pair.lent n lent)) home)
  other_first w y x xs n m lent number home false test at = rw (number, test) (rw test at at)

  other_behind : (w x : Device V G) (xs ys : List (Device V G)) (m : ℕ) → (device_at xs m ≡ Some x → device_at ys m ≡ Some x) → (b : Bool) →
      (w.store.number == m) ≡ b → device_at (w ∷ xs) m ≡ Some x → device_at (w ∷ ys) m ≡ Some x
  other_behind w x xs ys m rest true test at = rw test (rw test at at)
  other_behind w x xs ys m rest false test at = rw test (rest (rw test at at))

  pub restored_other : {n : ℕ} {volume : V} {xs ys : List (Device V G)} (m : ℕ) (x : Device V G) → is_some x.store.pair.lent ≡ false →
      Restored n volume xs ys → device_at xs m ≡ Some x → device_at ys m ≡ Some x
  restored_other m x home none_was_lent at = absurd cc
  restored_other {n = n} m x home (this_was_lent {x = w} {y = y} {xs = xs} lent so) at =
      other_first w y x xs n m lent (ap (λ (d : DefinedDevice). d.store.device) so.device) home _ refl at
  restored_other m x home (another_was_lent {x = w} {xs = xs} {ys = ys} off rest) at =
      other_behind w x xs ys m (restored_other m x home rest) _ refl at

-- One of them forgets

greater_other : (n k : ℕ) → n < k → (k == n) ≡ false
greater_other n k above = grind arith

above_other : (m n k : ℕ) → (m == n) ≡ true → m < k → (k == n) ≡ false
above_other m n k is above = greater_other n k (subst (λ (j : ℕ). j < k) (eqb-true m n is) above)

other_past : (pasts : ℕ → PutAway) (n m : ℕ) (more : PutAway) → (m == n) ≡ false → with_more pasts n more m ≡ pasts m
other_past pasts n m more off = rw off refl

own_past : (pasts : ℕ → PutAway) (n m : ℕ) (more : PutAway) → (m == n) ≡ true → with_more pasts n more m ≡ more
own_past pasts n m more is = rw is refl

module _ {V : Type 0} {G : Ghosts V} (pasts : ℕ → PutAway) (firsts : ℕ → List Track) (n : ℕ) (more : PutAway) where
  another : (d : Device V G) → (number_of d == n) ≡ false → Stands (pasts (number_of d)) (firsts (number_of d)) d →
      Stands (with_more pasts n more (number_of d)) (firsts (number_of d)) d
  another d off s = subst (λ (p : PutAway). Stands p (firsts (number_of d)) d) (sym (other_past pasts n (number_of d) more off)) s

  all_others : (d : Device V G) (ds : List (Device V G)) → are_rising (numbers_of (d ∷ ds)) ≡ true → (number_of d == n) ≡ true → AllStand pasts firsts ds →
      AllStand (with_more pasts n more) firsts ds
  all_others d ds up is all i e within =
      let f = get_or ds i e in
      another f (above_other d.store.number n f.store.number is (below_others d ds up i f (slice_get-get_or ds i e within))) (all i e within)

  module _ (x y : Device V G) (number : y.store.number ≡ x.store.number)
      (stays : (first : List Track) → Stands (pasts n) first x → Stands more first y) where
    this_one : (d : Device V G) → (number_of d == n) ≡ true → d ≡ x → Stands (pasts (number_of d)) (firsts (number_of d)) d →
        Stands (with_more pasts n more (number_of y)) (firsts (number_of y)) y
    this_one d is same s =
        let it : number_of d ≡ n = eqb-true (number_of d) n is in
        let its : number_of y ≡ n = number ∙ ap number_of (sym same) ∙ it in
        let before : Stands (pasts n) (firsts n) x =
        subst (λ (z : Device V G). Stands (pasts n) (firsts n) z) same (subst (λ (m : ℕ). Stands (pasts m) (firsts m) d) it s) in
        subst (λ (m : ℕ). Stands (with_more pasts n more m) (firsts m) y) (sym its)
        (subst (λ (p : PutAway). Stands p (firsts n) y) (sym (own_past pasts n n more (eq_self n))) (stays (firsts n) before))

    forgot_first : (d : Device V G) (ds : List (Device V G)) (b : Bool) → (number_of d == n) ≡ b → are_rising (numbers_of (d ∷ ds)) ≡ true →
        device_at (d ∷ ds) n ≡ Some x → AllStand pasts firsts (d ∷ ds) →
        (device_at ds n ≡ Some x → AllStand (with_more pasts n more) firsts (put_at ds n y)) → AllStand (with_more pasts n more) firsts (put_at (d ∷ ds) n y)
    forgot_first d ds true test up is all rest =
        let P : Device V G → Type 0 = λ (e : Device V G). Stands (pasts (number_of e)) (firsts (number_of e)) e in
        let Q : Device V G → Type 0 = λ (e : Device V G). Stands (with_more pasts n more (number_of e)) (firsts (number_of e)) e in
        let same : d ≡ x = some_same (rw test at is) in
        rw test (All-cons Q y ds (this_one d test same (All-head P d ds all)) (all_others d ds up test (All-tail P d ds all)))
    forgot_first d ds false test up is all rest =
        let P : Device V G → Type 0 = λ (e : Device V G). Stands (pasts (number_of e)) (firsts (number_of e)) e in
        let Q : Device V G → Type 0 = λ (e : Device V G). Stands (with_more pasts n more (number_of e)) (firsts (number_of e)) e in
        rw test (All-cons Q d (put_at ds n y) (another d test (All-head P d ds all)) (rest (rw test at is)))

    all_forgot : (ds : List (Device V G)) → are_rising (numbers_of ds) ≡ true → device_at ds n ≡ Some x → AllStand pasts firsts ds →
        AllStand (with_more pasts n more) firsts (put_at ds n y)
    all_forgot [] up is all = absurd cc
    all_forgot (d ∷ ds) up is all =
        forgot_first d ds (number_of d == n) refl up is all
        (λ there. all_forgot ds (rest_rises (number_of d) (numbers_of ds) up) there
        (All-tail (λ (e : Device V G). Stands (pasts (number_of e)) (firsts (number_of e)) e) d ds all))

module _ {V : Type 0} {G : Ghosts V} where
  forgetting_stays : (past : PutAway) (first : List Track) (x y : Device V G) → y.store.pair.lent ≡ x.store.pair.lent → ForgetsNothing x y →
      Stands past first x → Stands (put_away past (device_of x)) first y
  forgetting_stays past first x y same f s = record {
    here = λ home. f.plain past first (s.here (sym (ap is_some same) ∙ home));
    lent = λ gone. f.lent past first (s.lent (sym (ap is_some same) ∙ gone));
  }

  -- nothing of it changed
  pub still_stands : {E : Type 0} (r : Result (Unit {0}) E) (ds : List (Device V G)) (i : ℕ) (x y : Device V G) → i < length ds → x ≡ get_or ds i x →
      OnErr r (device_of y ≡ device_of x) → y.store ≡ x.store → OnErr r (StayStanding ds (set ds i y))
  still_stands (Ok u) ds i x y within read same store = tt
  still_stands (Err e) ds i x y within read same store =
      set_stands ds i x y within read (ap (λ s. s.number) store)
      (stays_by x y (ap (λ s. s.pair.lent) store) (still_stays_plain x y same store).stands (still_lent x y store same).stands)

  pub stay_forgetting : {E : Type 0} (r : Result (Unit {0}) E) (ds news : List (Device V G)) (n : ℕ) (x y : Device V G) → are_rising (numbers_of ds) ≡ true →
      device_at ds n ≡ Some x → news ≡ put_at ds n y → y.store ≡ x.store → OnOk r (ForgetsNothing x y) → OnErr r (StayStanding ds news) →
      StayForgetting n r ds news
  stay_forgetting (Err e) ds news n x y up there stands store forgets stay = record { forgot = tt; same = stay }
  stay_forgetting (Ok u) ds news n x y up there stands store forgets stay = record {
    forgot = λ pasts firsts z is all.
        let same : x ≡ z = some_same (sym there ∙ is) in
        subst (λ (w : Device V G). AllStand (with_more pasts n (put_away (pasts n) (device_of w))) firsts news) same
        (subst (λ (ws : List (Device V G)). AllStand (with_more pasts n (put_away (pasts n) (device_of x))) firsts ws) (sym stands)
        (all_forgot pasts firsts n (put_away (pasts n) (device_of x)) x y (ap (λ s. s.number) store)
        (λ first s. forgetting_stays (pasts n) first x y (ap (λ s. s.pair.lent) store) forgets s) ds up there all));
    same = tt;
  }
