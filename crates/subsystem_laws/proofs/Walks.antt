-- What each event of a device keeps holds of all devices behind every event of a run.
use Rattle.std.proofs.Common.{
  ◌≡◌,
  ◌==◌,
  ℕ,
  Bool,
  true,
  false,
  List,
  [],
  ◌∷◌,
  map,
  Option,
  Some,
  None,
  is_some,
  refl,
  sym,
  ap,
  subst,
  ◌∙◌,
  arith,
}
use Rattle.std.specs.Prelude.{All, ⊤, IfSome, not, if◌then◌else◌}
use Rattle.std.proofs.lemmas.Bool.{cond_both, eqb-true}
use Rattle.std.proofs.lemmas.List.Elements.{All-nil, All-cons, All-head, All-tail}
use Rattle.plain_defs.specs.History.{OpenEntry}
use Rattle.ckd_types.specs.declared.paths.Side.{Side}
use Rattle.ckd_types.specs.declared.paths.Side.TheVariants.{A, B}
use Rattle.loss_model.specs.declared.Loss.TheVariants as losses
use Rattle.track_image.specs.Image.{Image}
use Rattle.device_outside.specs.Told as T
use Rattle.device_outside.specs.Told.{Calls, Told, calls_of, read_fails, write_fails, told_read, told_write}
use Rattle.device_outside.specs.Interaction.{Interaction, Done, Try, Ask, Read, Write, Tell, and_then}
use Rattle.device_outside.specs.Keeper.{reply}
use Rattle.device_outside.specs.Pool.{Pool, answer, after}
use Rattle.device_defs.specs.Command.{command}
use Rattle.device_defs.specs.Contents.{by_plain}
use Rattle.device_defs.specs.Cutting.{reset, power}
use Rattle.device_defs.specs.Events.{second, lose, background}
use Rattle.device_defs.specs.Orders.{join, split, restore, hold_side, resume, replace, lend}
use Rattle.device_defs.specs.Marks.{MarksDevice}
use Rattle.device_defs.specs.Start.{start_fault, start}
use Rattle.device_defs.specs.Store.{HalfWrite}
use Rattle.subsystem_defs.specs.declared.end.EventEnd.{EventEnd}
use Rattle.subsystem_defs.specs.declared.end.EventEnd.TheVariants as ends
use Rattle.subsystem_defs.specs.declared.end.OrderFault.{OrderFault}
use Rattle.subsystem_defs.specs.declared.event.Event.{Event}
use Rattle.subsystem_defs.specs.declared.event.Event.TheVariants as events
use Rattle.subsystem_defs.specs.Deeds.{Ends, Becomes, Asks, Each, Repairs, Lends, deed, device_in, ends_done, end_of}
use Rattle.subsystem_defs.specs.Happening as H
use Rattle.subsystem_defs.specs.Happening.{
  MarksDeed,
  Talk,
  held_with,
  told_to,
  mounted_behind,
  behind_outcome,
  joined,
  lends,
  is_lent_to,
  restored_in,
  asks,
  becomes,
  happens_by,
  happens,
  sweep,
  replaced_by,
  replaced_at,
  replaced,
  unpaired_by,
  unpaired_at,
  unpaired,
}
use Rattle.subsystem_defs.specs.Lines.{Asked, Logged, line_logged, last_behind, run_lines}
use Rattle.subsystem_defs.specs.Subsystem.{Mounted, Subsystem, number_of, devices_of, mounted_in, put_in, with_calls, unfailing}
use Rattle.subsystem_defs.specs.declared.end.OrderFault.TheVariants.{Same, Paired, Unpaired}
use Rattle.subsystem_defs.specs.Refusals as R
use Rattle.subsystem_defs.specs.Refusals.{pair_fault, suspend_fault, resume_fault, fail_fault, replace_fault, unpair_fault}
use Rattle.subsystem_laws.specs.Came.{CameTo}
use Rattle.subsystem_laws.proofs.Came.{answered, told_came}
use Rattle.subsystem_laws.proofs.DeedWalk.{Stands, seat_of, IsEventwise, event_deed_is}
use Rattle.subsystem_laws.proofs.LendBase.{lend_lends}
use Rattle.subsystem_laws.proofs.RunLines.{AnyEvent, MayAsk, all_asked, Logs, logs_end, logs_all, Goes, line_goes, lines_go}
use Rattle.subsystem_defs.proofs.Unrefused.{first_none, where_none, is_not}

-- an answer changes nothing of the device behind it
pub hold_answer : {S X Y : Type 0} (i : Interaction Bool Image S X) (f : X → Y) (t : Told) →
    (T.hold true (and_then i (λ d a. Done d (f a))) t).state ≡ (T.hold true i t).state
unfolding T.hold
hold_answer (Done s a) f t = refl
hold_answer (Try k) f t = hold_answer (k true) f t
hold_answer (Ask call k) f t = hold_answer (k (answer t.pool call)) f (record t { pool = after t.pool call (answer t.pool call) })
hold_answer (Read side q k) f t = hold_answer (k (if read_fails (calls_of t side) then None else Some true)) f (told_read t side)
hold_answer (Write side q r k) f t = hold_answer (k (if write_fails (calls_of t side) then false else true)) f (told_write t side)
hold_answer (Tell m k) f t = hold_answer (k (reply m)) f t

-- nor of what the outside tells then
pub hold_told : {S X Y : Type 0} (i : Interaction Bool Image S X) (f : X → Y) (t : Told) →
    (T.hold true (and_then i (λ d a. Done d (f a))) t).told ≡ (T.hold true i t).told
unfolding T.hold
hold_told (Done s a) f t = refl
hold_told (Try k) f t = hold_told (k true) f t
hold_told (Ask call k) f t = hold_told (k (answer t.pool call)) f (record t { pool = after t.pool call (answer t.pool call) })
hold_told (Read side q k) f t = hold_told (k (if read_fails (calls_of t side) then None else Some true)) f (told_read t side)
hold_told (Write side q r k) f t = hold_told (k (if write_fails (calls_of t side) then false else true)) f (told_write t side)
hold_told (Tell m k) f t = hold_told (k (reply m)) f t

-- Numbers

number_if : (b : Bool) (k m : Mounted) (n : ℕ) (o : Option Mounted) → (number_of k == n) ≡ b → (if b then Some k else o) ≡ Some m →
    (o ≡ Some m → number_of m ≡ n) → number_of m ≡ n
number_if true k m n o is at more = let same : k ≡ m = cc in subst (λ (x : Mounted). number_of x ≡ n) same (eqb-true (number_of k) n is)
number_if false k m n o is at more = more at

pub mounted_number : (ms : List Mounted) (n : ℕ) (m : Mounted) → mounted_in ms n ≡ Some m → number_of m ≡ n
mounted_number [] n m at = absurd (cc)
mounted_number (k ∷ ms) n m at = number_if (number_of k == n) k m n (mounted_in ms n) refl at (mounted_number ms n m)

not_of : (k a b : ℕ) (y : Mounted) (o : Option Mounted) → k ≡ b → (b == a) ≡ false → (if k == a then Some y else o) ≡ o
not_of k a b y o e other = ap (λ (x : ℕ). if x == a then Some y else o) e ∙ ap (λ (t : Bool). if t then Some y else o) other

other_if : (t : Bool) (k y : Mounted) (ms : List Mounted) (a b : ℕ) → (number_of k == b) ≡ t → number_of y ≡ b → (b == a) ≡ false →
    mounted_in (put_in ms b y) a ≡ mounted_in ms a → mounted_in (if t then y ∷ ms else k ∷ put_in ms b y) a ≡ mounted_in (k ∷ ms) a
other_if true k y ms a b is number other more =
    not_of (number_of y) a b y (mounted_in ms a) number other ∙ sym (not_of (number_of k) a b k (mounted_in ms a) (eqb-true (number_of k) b is) other)
other_if false k y ms a b is number other more = ap (λ (o : Option Mounted). if number_of k == a then Some k else o) more

-- another one's place
put_other : (ms : List Mounted) (a b : ℕ) (y : Mounted) → number_of y ≡ b → (b == a) ≡ false → mounted_in (put_in ms b y) a ≡ mounted_in ms a
put_other [] a b y number other = refl
put_other (k ∷ ms) a b y number other = other_if (number_of k == b) k y ms a b refl number other (put_other ms a b y number other)

turned_round : (a b : ℕ) → (a == b) ≡ false → (b == a) ≡ false
turned_round a b e = by_test (b == a) refl where
  by_test : (t : Bool) → (b == a) ≡ t → t ≡ false
  by_test false f = refl
  by_test true f =
      absurd (let same : b ≡ a = eqb-true b a f in let back : (a == a) ≡ false = subst (λ (x : ℕ). (a == x) ≡ false) same e in grind arith)

-- two devices that may become a pair
pub none_lent : (o : Option ℕ) → R.lent_by o ≡ None → is_some o ≡ false
none_lent (Some to) e = absurd (cc)
none_lent None e = refl

pub fail_home : (d : MarksDevice) (side : Side) → fail_fault d side ≡ None → is_some d.store.lent ≡ false
unfolding R.fail_fault
fail_home d side is = none_lent d.store.lent (first_none (R.lent_by d.store.lent) _ is).0

resume_paired : (d : MarksDevice) → resume_fault d ≡ None → d.store.paired ≡ true
unfolding R.resume_fault
resume_paired d is =
    is_not d.store.paired (where_none (not d.store.paired) Unpaired (first_none (R.where_so (not d.store.paired) Unpaired) _ is).0)

abbrev pub IsFree : MarksDevice → Type 0
IsFree d = (d.store.paired ≡ false) × (is_some d.store.lent ≡ false)

may_pair : (x y : MarksDevice) → pair_fault x y ≡ None → ((y.store.device == x.store.device) ≡ false) × IsFree x
unfolding R.pair_fault
may_pair x y is =
    let a = first_none (R.where_so (x.store.device == y.store.device) Same) _ is in
    let b = first_none (R.lent_by x.store.lent) _ a.1 in
    let c = first_none (R.lent_by y.store.lent) _ b.1 in
    let e = first_none (R.where_so x.store.paired Paired) _ c.1 in (
      turned_round x.store.device y.store.device (where_none (x.store.device == y.store.device) Same a.0),
      (where_none x.store.paired Paired e.0, none_lent x.store.lent b.0),
    )

-- the steps of a program and the work of a device may come
pub record HasOwn (May : Event → Type 0) : Type 0 where
  pub step : (d : ℕ) → May (events.Step d)
  pub back : (d : ℕ) → May (events.Back d)

module _ (P : MarksDevice → Type 0) where
  -- so it is behind an interaction, whatever is answered
  abbrev pub LeavesSo : {A : Type 0} → Talk A → Type 0
  LeavesSo talk = (t : CameTo talk) → P t.state

  -- what each deed keeps, where these events may come
  pub record IsKept (May : Event → Type 0) : Type 0 where
    pub started : (d : MarksDevice) (path n : ℕ) → May (events.Start path n) → start_fault d path ≡ None → P d → P (start d path)
    pub commanded : (d : MarksDevice) (o : OpenEntry) → d.history.running ≡ Some o → d.store.half ≡ None → P d → LeavesSo (command by_plain d)
    pub seconded : (d : MarksDevice) (h : HalfWrite (Unit {0})) → d.store.half ≡ Some h → P d → LeavesSo (second by_plain d)
    pub worked : (d : MarksDevice) → d.store.half ≡ None → P d → LeavesSo (background by_plain d)
    pub cut : (d : MarksDevice) (path : ℕ) → P d → LeavesSo (reset by_plain d path)
    pub lost_cache : (d : MarksDevice) → P d → LeavesSo (lose by_plain d losses.Cache)
    pub lost_store : (d : MarksDevice) → P d → LeavesSo (lose by_plain d losses.Store)
    pub lost_side : (d : MarksDevice) (side : Side) → is_some d.store.lent ≡ false → P d → LeavesSo (lose by_plain d (losses.Side side))
    pub lost_power : (d : MarksDevice) → P d → LeavesSo (power by_plain d)
    pub held : (d : MarksDevice) → suspend_fault d ≡ None → P d → P (hold_side d)
    pub resumed : (d : MarksDevice) → (is_some d.store.lent ≡ true → d.store.paired ≡ true) → P d → P (resume d)
    pub replaced : (d : MarksDevice) (side : Side) → replace_fault d side ≡ None → P d → P (replace d side)
    pub lent : (x y : MarksDevice) → pair_fault x y ≡ None → P x → P y → LeavesSo (lend by_plain y x.store.device)
    pub joins : (d : MarksDevice) → IsFree d → P d → P (join d)
    pub splits : (d : MarksDevice) → unpair_fault d ≡ None → P d → P (split d)
    pub restored : (d : MarksDevice) (a : ℕ) → is_lent_to d.store.lent a ≡ true → P d → P (restore d)

  abbrev pub IsSo : Mounted → Type 0
  IsSo m = P m.device

  abbrev pub AreSo : List Mounted → Type 0
  AreSo [] = Unit {0}
  AreSo (m ∷ ms) = P m.device × AreSo ms

  all_so : (ms : List Mounted) → AreSo ms → All P (map (λ (m : Mounted). m.device) ms)
  all_so [] p = All-nil P
  all_so (m ∷ ms) p = All-cons P m.device (map (λ (m : Mounted). m.device) ms) p.0 (all_so ms p.1)

  -- Devices by their numbers

  found_if : (b : Bool) (d : MarksDevice) (o : Option MarksDevice) → P d → IfSome o P → IfSome (if b then Some d else o) P
  found_if true d o p rest = p
  found_if false d o p rest = rest

  pub device_so : (ms : List Mounted) (n : ℕ) → AreSo ms → IfSome (device_in (map (λ (m : Mounted). m.device) ms) n) P
  device_so [] n p = tt
  device_so (m ∷ ms) n p =
      found_if (number_of m == n) m.device (device_in (map (λ (x : Mounted). x.device) ms) n) p.0 (device_so ms n p.1)

  mounted_if : (b : Bool) (m : Mounted) (o : Option Mounted) → IsSo m → IfSome o IsSo → IfSome (if b then Some m else o) IsSo
  mounted_if true m o p rest = p
  mounted_if false m o p rest = rest

  pub mounted_so : (ms : List Mounted) (n : ℕ) → AreSo ms → IfSome (mounted_in ms n) IsSo
  mounted_so [] n p = tt
  mounted_so (m ∷ ms) n p = mounted_if (number_of m == n) m (mounted_in ms n) p.0 (mounted_so ms n p.1)

  pub put_so : (ms : List Mounted) (n : ℕ) (x : Mounted) → AreSo ms → IsSo x → AreSo (put_in ms n x)
  put_so [] n x p new = tt
  put_so (m ∷ ms) n x p new =
      cond_both (number_of m == n) (x ∷ ms) (m ∷ put_in ms n x) AreSo (λ _. (new, p.1)) (λ _. (p.0, put_so ms n x p.1 new))

  -- Deeds that keep it

  record MayLend (ms : List Mounted) (a b : ℕ) : Type 0 where
    lent : (m : Mounted) → mounted_in ms b ≡ Some m → LeavesSo (lend by_plain m.device a)
    single : (m : Mounted) → mounted_in ms a ≡ Some m → IsFree m.device
    other : (b == a) ≡ false

  abbrev KeepsDeed : List Mounted → MarksDeed → Type 0
  KeepsDeed ms (Ends end) = ⊤
  KeepsDeed ms (Becomes d end) = P d
  KeepsDeed ms (Asks d talk) = LeavesSo talk
  KeepsDeed ms (Each pool f) = (d : MarksDevice) → P d → LeavesSo (f d)
  KeepsDeed ms (Repairs pool) = ⊤
  KeepsDeed ms (Lends a b) = MayLend ms a.store.device b.store.device

  swept_so : (f : MarksDevice → Talk (Unit {0})) → ((d : MarksDevice) → P d → LeavesSo (f d)) → (ms : List Mounted) (pool : Pool) → AreSo ms →
      AreSo (sweep f ms pool).mounted
  unfolding H.sweep
  swept_so f h [] pool p = tt
  swept_so f h (m ∷ ms) pool p =
      (h m.device p.0 (told_came (f m.device) (told_to pool m)), swept_so f h ms (held_with pool m (f m.device)).told.pool p.1)

  asked_so : (s : Subsystem) (n : ℕ) (talk : Talk (Option EventEnd)) → LeavesSo talk → AreSo s.mounted → (o : Option Mounted) →
      AreSo (asks s n o talk).behind.mounted
  asked_so s n talk h p None = p
  asked_so s n talk h p (Some m) = put_so s.mounted n (mounted_behind (held_with s.pool m talk)) p (h (told_came talk (told_to s.pool m)))

  becomes_so : (s : Subsystem) (n : ℕ) (d : MarksDevice) → P d → AreSo s.mounted → (o : Option Mounted) → AreSo (becomes s n o d).mounted
  becomes_so s n d new p None = p
  becomes_so s n d new p (Some m) = put_so s.mounted n (record m { device = d }) p new

  module _ (May : Event → Type 0) (k : IsKept May) where
    joined_so : (s : Subsystem) (n : ℕ) (volume : Calls) → AreSo s.mounted → (o : Option Mounted) → IfSome o IsSo →
        ((m : Mounted) → o ≡ Some m → IsFree m.device) → AreSo (joined s n volume o).mounted
    joined_so s n volume p None q single = p
    joined_so s n volume p (Some m) q single =
        put_so s.mounted n (record m { device = join m.device; b = volume }) p (k.joins m.device (single m refl) q)

    lends_so : (s : Subsystem) (a b : ℕ) → AreSo s.mounted → (o : Option Mounted) → mounted_in s.mounted b ≡ o → MayLend s.mounted a b →
        AreSo (lends s a b o).mounted
    lends_so s a b p None is h = p
    lends_so s a b p (Some m) is h =
        let o = held_with s.pool m (lend by_plain m.device a) in
        let t = told_came (lend by_plain m.device a) (told_to s.pool m) in
        let z = behind_outcome s b o in
        let pz = put_so s.mounted b (mounted_behind o) p (h.lent m is t) in
        let number = (lend_lends m.device a t).number ∙ mounted_number s.mounted b m is in
        joined_so z a o.told.a pz (mounted_in z.mounted a) (mounted_so z.mounted a pz)
        (λ y at. h.single y (sym (put_other s.mounted a b (mounted_behind o) number h.other) ∙ at))

    happens_so : (s : Subsystem) (x : MarksDeed) → AreSo s.mounted → KeepsDeed s.mounted x → AreSo (happens_by s x).behind.mounted
    happens_so s (Ends end) p h = p
    happens_so s (Becomes d end) p h = becomes_so s d.store.device d h p (mounted_in s.mounted d.store.device)
    happens_so s (Asks d talk) p h = asked_so s d.store.device talk h p (mounted_in s.mounted d.store.device)
    happens_so s (Each pool f) p h = swept_so f h s.mounted pool p
    happens_so s (Repairs pool) p h = p
    happens_so s (Lends a b) p h = lends_so s a.store.device b.store.device p (mounted_in s.mounted b.store.device) refl h

    -- Events

    -- an answer is an event's end
    answers : {X Y : Type 0} (talk : Talk X) (f : X → Y) → LeavesSo talk → LeavesSo (and_then talk (λ d a. Done d (f a)))
    answers talk f h = λ t. h (answered talk f t)

    module _ (s : Subsystem) (p : AreSo s.mounted) where
      so_of : (d : MarksDevice) → Stands s d → P d
      so_of d x = subst (λ (o : Option MarksDevice). IfSome o P) x.found (device_so s.mounted x.number p)

      may_lend : (x y : MarksDevice) → Stands s x → Stands s y → pair_fault x y ≡ None → MayLend s.mounted x.store.device y.store.device
      may_lend x y stands_x stands_y fault = record {
        lent = λ m there.
            subst (λ (d : MarksDevice). LeavesSo (lend by_plain d x.store.device)) (sym (seat_of s y stands_y m there))
            (k.lent x y fault (so_of x stands_x) (so_of y stands_y));
        single = λ m there. subst IsFree (sym (seat_of s x stands_x m there)) (may_pair x y fault).1;
        other = (may_pair x y fault).0;
      }

      abbrev KeepsEvent : Event → MarksDeed → Type 0
      KeepsEvent e x = May e → KeepsDeed s.mounted x

      deeds_keep : IsEventwise s KeepsEvent
      deeds_keep = record {
        ended = λ e end may. tt;
        started = λ path n d x fault may. k.started d path n may fault (so_of d x);
        seconded = λ e calm d x h is may. answers (second by_plain d) (λ a. Some (ends.Second a)) (k.seconded d h is (so_of d x));
        commanded = λ n d x whole o running may. answers (command by_plain d) (end_of ends.Stepped) (k.commanded d o running whole (so_of d x));
        worked = λ n d x whole may. answers (background by_plain d) (end_of ends.Back) (k.worked d whole (so_of d x));
        cut = λ path n d x may. answers (reset by_plain d path) (λ a. Some (ends_done a)) (k.cut d path (so_of d x));
        lost_cache = λ may. k.lost_cache;
        lost_store = λ may. k.lost_store;
        lost_side = λ n d x here side fault may.
            answers (lose by_plain d (losses.Side side)) (λ a. Some (ends_done a)) (k.lost_side d side (fail_home d side fault) (so_of d x));
        lost_power = λ may. k.lost_power;
        repaired_cache = λ may. tt;
        repaired_store = λ may. tt;
        lent = λ a b x y z w fault may. may_lend x y z w fault;
        held = λ n d x fault may. k.held d fault (so_of d x);
        resumed = λ n d x fault may. k.resumed d (λ away. resume_paired d fault) (so_of d x);
      }

      -- one event
      pub event_so : (e : Event) → May e → AreSo (happens s e).behind.mounted
      unfolding H.happens
      event_so e may = happens_so s (deed by_plain s.pool (devices_of s) e) p (event_deed_is s KeepsEvent deeds_keep e may)

    -- The two orders for which a volume is handed in

    with_side : (side : Side) (calls : Calls) (m : Mounted) → IsSo m → IsSo (with_calls m side calls)
    with_side A calls m q = q
    with_side B calls m q = q

    pub replaced_so : (s : Subsystem) (n : ℕ) (side : Side) (calls : Calls) → AreSo s.mounted → (o : Option Mounted) → IfSome o IsSo →
        AreSo (replaced_at s n side calls o).behind.mounted
    replaced_so s n side calls p None q = p
    replaced_so s n side calls p (Some m) q = by_fault (replace_fault m.device side) refl where
      by_fault : (o : Option OrderFault) → replace_fault m.device side ≡ o → AreSo (replaced_by s n side calls m o).behind.mounted
      by_fault (Some fault) is = p
      by_fault None is =
          put_so s.mounted n (with_calls (record m { device = replace m.device side }) side calls) p
          (with_side side calls (record m { device = replace m.device side }) (k.replaced m.device side is q))

    restored_so : (ms : List Mounted) (a : ℕ) (calls : Calls) → AreSo ms → AreSo (restored_in ms a calls)
    restored_so [] a calls p = p
    restored_so (m ∷ ms) a calls p =
        cond_both (is_lent_to m.device.store.lent a) (record m { device = restore m.device; a = calls } ∷ ms) (m ∷ restored_in ms a calls) AreSo
        (λ is. (k.restored m.device a is p.0, p.1)) (λ _. (p.0, restored_so ms a calls p.1))

    pub unpaired_so : (s : Subsystem) (n : ℕ) (calls : Calls) → AreSo s.mounted → (o : Option Mounted) → IfSome o IsSo →
        AreSo (unpaired_at s n calls o).behind.mounted
    unpaired_so s n calls p None q = p
    unpaired_so s n calls p (Some m) q = by_fault (unpair_fault m.device) refl where
      by_fault : (o : Option OrderFault) → unpair_fault m.device ≡ o → AreSo (unpaired_by s n calls m o).behind.mounted
      by_fault (Some fault) is = p
      by_fault None is =
          let x = record m { device = split m.device } in
          restored_so (put_in s.mounted n x) n calls (put_so s.mounted n x p (k.splits m.device is q))

    -- All lines

    abbrev pub IsBehind : Logged → Type 0
    IsBehind x = All P (devices_of x.happened.behind)

    shown : (s : Subsystem) → AreSo s.mounted → AreSo s.mounted × All P (devices_of s)
    shown s p = (p, all_so s.mounted p)

    lines_so : HasOwn May → Goes (λ s. AreSo s.mounted) (λ s. IsBehind) May
    unfolding H.replaced H.unpaired
    lines_so own = record {
      once = λ s e may p. shown (happens s e).behind (event_so s p e may);
      stepped = λ s d p. shown (happens s (events.Step d)).behind (event_so s p (events.Step d) (own.step d));
      idle = λ s d p. shown s p;
      backed = λ s d p. shown (happens s (events.Back d)).behind (event_so s p (events.Back d) (own.back d));
      replaces = λ s d side p. shown (replaced s d side unfailing).behind
          (replaced_so s d side unfailing p (mounted_in s.mounted d) (mounted_so s.mounted d p));
      unpairs = λ s a p. shown (unpaired s a unfailing).behind (unpaired_so s a unfailing p (mounted_in s.mounted a) (mounted_so s.mounted a p));
    }

    -- so it is behind each event of lines that may come, and behind all of them
    pub line_keeps : HasOwn May → (x : Asked) (s : Subsystem) → MayAsk May x → AreSo s.mounted → AreSo (last_behind s (line_logged s x)).mounted
    line_keeps own x s may p =
        logs_end (λ s. AreSo s.mounted) (λ s. IsBehind) s (line_logged s x)
        (line_goes (λ s. AreSo s.mounted) (λ s. IsBehind) May (lines_so own) x s may p)

    all_keep : HasOwn May → (lines : List Asked) (s : Subsystem) → All (MayAsk May) lines → AreSo s.mounted →
        Logs (λ s. AreSo s.mounted) (λ s. IsBehind) s (run_lines lines s)
    all_keep own lines s may p = lines_go (λ s. AreSo s.mounted) (λ s. IsBehind) May (lines_so own) lines s may p

    pub lines_keep_so : HasOwn May → (lines : List Asked) (s : Subsystem) → All (MayAsk May) lines → AreSo s.mounted → All IsBehind (run_lines lines s)
    lines_keep_so own lines s may p = logs_all (λ s. AreSo s.mounted) IsBehind s (run_lines lines s) (all_keep own lines s may p)

    pub lines_end_so : HasOwn May → (lines : List Asked) (s : Subsystem) → All (MayAsk May) lines → AreSo s.mounted
        → AreSo (last_behind s (run_lines lines s)).mounted
    lines_end_so own lines s may p = logs_end (λ s. AreSo s.mounted) (λ s. IsBehind) s (run_lines lines s) (all_keep own lines s may p)

  -- where any event may come
  pub run_keeps : IsKept AnyEvent → (lines : List Asked) (s : Subsystem) → AreSo s.mounted
      → All (λ (x : Logged). All P (devices_of x.happened.behind)) (run_lines lines s)
  run_keeps k lines s p = lines_keep_so AnyEvent k (record { step = λ d. tt; back = λ d. tt }) lines s (all_asked lines) p

-- and so is what follows from it
pub all_weaker : (P Q : MarksDevice → Type 0) → ((d : MarksDevice) → P d → Q d) → (ds : List MarksDevice) → All P ds → All Q ds
all_weaker P Q f [] h = All-nil Q
all_weaker P Q f (d ∷ ds) h = All-cons Q d ds (f d (All-head P d ds h)) (all_weaker P Q f ds (All-tail P d ds h))

pub behind_weaker : (P Q : MarksDevice → Type 0) → ((d : MarksDevice) → P d → Q d) → (ts : List Logged) →
    All (λ (x : Logged). All P (devices_of x.happened.behind)) ts → All (λ (x : Logged). All Q (devices_of x.happened.behind)) ts
behind_weaker P Q f [] h = All-nil (λ (x : Logged). All Q (devices_of x.happened.behind))
behind_weaker P Q f (t ∷ ts) h =
    All-cons (λ (x : Logged). All Q (devices_of x.happened.behind)) t ts
    (all_weaker P Q f (devices_of t.happened.behind) (All-head (λ (x : Logged). All P (devices_of x.happened.behind)) t ts h))
    (behind_weaker P Q f ts (All-tail (λ (x : Logged). All P (devices_of x.happened.behind)) t ts h))

-- and what follows from two of them
pub both_all : (P Q R : MarksDevice → Type 0) → ((d : MarksDevice) → P d → Q d → R d) → (ds : List MarksDevice) → All P ds → All Q ds → All R ds
both_all P Q R f [] h k = All-nil R
both_all P Q R f (d ∷ ds) h k =
    All-cons R d ds (f d (All-head P d ds h) (All-head Q d ds k)) (both_all P Q R f ds (All-tail P d ds h) (All-tail Q d ds k))

pub both_behind : (P Q R : MarksDevice → Type 0) → ((d : MarksDevice) → P d → Q d → R d) → (ts : List Logged) →
    All (λ (x : Logged). All P (devices_of x.happened.behind)) ts → All (λ (x : Logged). All Q (devices_of x.happened.behind)) ts →
    All (λ (x : Logged). All R (devices_of x.happened.behind)) ts
both_behind P Q R f [] h k = All-nil (λ (x : Logged). All R (devices_of x.happened.behind))
both_behind P Q R f (t ∷ ts) h k =
    All-cons (λ (x : Logged). All R (devices_of x.happened.behind)) t ts
    (both_all P Q R f (devices_of t.happened.behind) (All-head (λ (x : Logged). All P (devices_of x.happened.behind)) t ts h)
    (All-head (λ (x : Logged). All Q (devices_of x.happened.behind)) t ts k))
    (both_behind P Q R f ts (All-tail (λ (x : Logged). All P (devices_of x.happened.behind)) t ts h)
    (All-tail (λ (x : Logged). All Q (devices_of x.happened.behind)) t ts k))
