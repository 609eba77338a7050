-- Devices of a deck to which nothing happened but that some of them became pairs.
use Rattle.std.proofs.Common.{◌≡◌, ◌≤◌, ◌+◌, ◌∙◌, ℕ, suc, Bool, true, false, List, [], ◌∷◌, length, map, Option, Some, None, is_some, refl, sym, ap, subst, arith, eqb-true, le_of_eq, le_trans}
use Rattle.std.proofs.lemmas.Bool.Decides.{nat_tests}
use Rattle.std.specs.Prelude.{◌==◌, ◌&&◌, All, if◌then◌else◌}
use Rattle.std.proofs.lemmas.Bool.{cond_both}
use Rattle.std.proofs.lemmas.List.Elements.{All-head, All-tail}
use Rattle.ckd_types.specs.declared.paths.Side.TheVariants as sides
use Rattle.deck_text.specs.declared.line.DeviceLine.{DeviceLine}
use Rattle.deck_text.specs.DeckLines.{DeckLines}
use Rattle.deck_text.specs.Plans.{plans_of}
use Rattle.plain_defs.specs.History.{History, no_history}
use Rattle.plain_defs.specs.PlainState.{PlainState}
use Rattle.device_outside.specs.Interaction.{Interaction, Done, Try, Ask, Read, Write, Tell}
use Rattle.device_outside.specs.Keeper.{reply}
use Rattle.device_outside.specs.Pool.{Pool, answer, after}
use Rattle.device_outside.specs.Told as T
use Rattle.device_outside.specs.Volume.{Plan}
use Rattle.device_outside.specs.Told.{Calls, RunOutcome, Told, told_read, read_fails, told_write, write_fails}
use Rattle.device_defs.specs.Contents.{by_plain}
use Rattle.device_defs.specs.Marks.{MarksDevice, no_counts}
use Rattle.device_defs.specs.Orders as O
use Rattle.device_defs.specs.Orders.{join, lend}
use Rattle.device_defs.specs.Owed.{waiting_count}
use Rattle.device_defs.specs.Device.{event_ended}
use Rattle.device_laws.specs.NewDevice.{first_state}
use Rattle.device_laws.proofs.Always.{Always, always_done, always_then}
use Rattle.device_laws.proofs.Had.{held}
use Rattle.device_laws.proofs.PlainCommand.{follows_store}
use Rattle.device_laws.proofs.PlainEvents.{first_follows, had_always}
use Rattle.device_laws.proofs.PlainOrders.{lend_follows}
use Rattle.device_laws.proofs.PlainTurns.{Follows}
use Rattle.device_laws.proofs.PoolWalks.{asks_always, ended_asks}
use Rattle.subsystem_defs.specs.declared.end.OrderFault.{OrderFault}
use Rattle.subsystem_defs.specs.declared.event.Event.TheVariants as events
use Rattle.subsystem_defs.specs.Decks.{Firsts, opened_device_on, opened_on, plan_for}
use Rattle.subsystem_defs.specs.Deeds as D
use Rattle.subsystem_defs.specs.Deeds.{Lends, device_in, on_device, order}
use Rattle.subsystem_defs.specs.Happening as H
use Rattle.subsystem_defs.specs.Happening.{happens, happens_by, joined, lends, held_with, mounted_behind, behind_outcome, told_to}
use Rattle.subsystem_defs.specs.Refusals.{pair_fault}
use Rattle.subsystem_defs.specs.Subsystem.{Mounted, Subsystem, devices_of, mounted_in, number_of, put_in}
use Rattle.subsystem_defs.proofs.Unrefused.{may_pair}
use Rattle.subsystem_laws.proofs.Came.{told_came}
use Rattle.subsystem_laws.proofs.FoundDevices.{number_found, same_found}
use Rattle.subsystem_laws.proofs.LendBase.{Lent, lend_lends, lent_counts}
use Rattle.subsystem_laws.specs.CameAbout as about
use Rattle.subsystem_laws.specs.CameAbout.{CameAboutOn}
use Rattle.subsystem_laws.proofs.Walks.{IsFree, mounted_number}
use Rattle.path_workers.specs.Planned.{come_once}
use Rattle.path_workers.proofs.Keeping.{none_of}
use Rattle.path_top.specs.Excuses.{faults_of, lent_faults}
use Rattle.path_top.specs.Pairs.{AllFit, before_start, paired_on}
use Rattle.path_top.proofs.Paired.{lines_keep}
use Rattle.path_top.proofs.Failing.{FailsFew, failing_in, lent_part, lent_part_is, one_lent, planned, same_lent}

-- another one's place
not_of : (k a b : ℕ) (y : Mounted) (o : Option Mounted) → k ≡ b → (b == a) ≡ false → (if k == a then Some y else o) ≡ o
not_of k a b y o e other = ap (λ (x : ℕ). if x == a then Some y else o) e ∙ ap (λ (t : Bool). if t then Some y else o) other

other_if : (t : Bool) (k y : Mounted) (ms : List Mounted) (a b : ℕ) → (number_of k == b) ≡ t → number_of y ≡ b → (b == a) ≡ false →
    mounted_in (put_in ms b y) a ≡ mounted_in ms a → mounted_in (if t then y ∷ ms else k ∷ put_in ms b y) a ≡ mounted_in (k ∷ ms) a
other_if true k y ms a b is number other more =
    not_of (number_of y) a b y (mounted_in ms a) number other ∙ sym (not_of (number_of k) a b k (mounted_in ms a) (eqb-true (number_of k) b is) other)
other_if false k y ms a b is number other more = ap (λ (o : Option Mounted). if number_of k == a then Some k else o) more

put_other : (ms : List Mounted) (a b : ℕ) (y : Mounted) → number_of y ≡ b → (b == a) ≡ false → mounted_in (put_in ms b y) a ≡ mounted_in ms a
put_other [] a b y number other = refl
put_other (k ∷ ms) a b y number other = other_if (number_of k == b) k y ms a b refl number other (put_other ms a b y number other)

-- the plain device of a line, whose volume held these tracks first
abbrev pub begun : Firsts → DeviceLine → PlainState
begun firsts line = first_state line.geometry line.cylinders (firsts line.number line.cylinders)

-- Of a line of the deck: it came about by the pairs, unless it is lent. Of its own volume those calls may fail that FAULT lines name, and so many of another that came to its side B
pub record IsNew (firsts : Firsts) (deck : DeckLines) (lent : ℕ → ℕ) (line : DeviceLine) (m : Mounted) : Type 0 where
  pub plans : m.device.plans ≡ plans_of deck.programs line.number
  pub none : m.device.history ≡ no_history
  pub follows : Follows line.number (begun firsts line) m.device
  pub cylinders : m.device.store.cylinders ≡ line.cylinders
  pub counts : m.device.store.counts ≡ no_counts
  pub own : m.a.plan ≡ plan_for deck.faults line.number
  pub mate : m.device.store.lent ≡ None → m.device.store.paired ≡ true → FailsFew (lent line.number) m.b.plan
  pub about : m.device.store.lent ≡ None → CameAboutOn (firsts line.number) m.device

abbrev pub AreNewWith : Firsts → DeckLines → (ℕ → ℕ) → List DeviceLine → List Mounted → Type 0
AreNewWith firsts deck lent [] [] = Unit {0}
AreNewWith firsts deck lent [] (m ∷ ms) = ⊥
AreNewWith firsts deck lent (line ∷ ls) [] = ⊥
AreNewWith firsts deck lent (line ∷ ls) (m ∷ ms) = IsNew firsts deck lent line m × AreNewWith firsts deck lent ls ms

-- with those of the devices among them that are lent
abbrev pub AreNew : Firsts → DeckLines → List DeviceLine → List Mounted → Type 0
AreNew firsts deck ls ms = AreNewWith firsts deck (λ n. lent_faults deck n ms) ls ms

pub new_long : (firsts : Firsts) (deck : DeckLines) (f : ℕ → ℕ) (ls : List DeviceLine) (ms : List Mounted) → AreNewWith firsts deck f ls ms → length ms ≡ length ls
new_long firsts deck f [] [] p = refl
new_long firsts deck f [] (m ∷ ms) p = absurd p
new_long firsts deck f (line ∷ ls) [] p = absurd p
new_long firsts deck f (line ∷ ls) (m ∷ ms) p = ap suc (new_long firsts deck f ls ms p.1)

-- Another one in its place

found_here : (b : Bool) (m : Mounted) (o : Option Mounted) → b ≡ true → (if b then Some m else o) ≡ Some m
found_here true m o e = refl
found_here false m o e = absurd (cc)

found_on : (b : Bool) (m k : Mounted) (o : Option Mounted) → b ≡ false → o ≡ Some k → (if b then Some m else o) ≡ Some k
found_on true m k o e at = absurd (cc)
found_on false m k o e at = at

module _ (firsts : Firsts) (deck : DeckLines) where
  put_new : (f : ℕ → ℕ) (ls : List DeviceLine) (ms : List Mounted) (n : ℕ) (x : Mounted) → AreNewWith firsts deck f ls ms →
      ((line : DeviceLine) (m : Mounted) → mounted_in ms n ≡ Some m → IsNew firsts deck f line m → IsNew firsts deck f line x) → AreNewWith firsts deck f ls (put_in ms n x)
  put_new f [] [] n x p h = tt
  put_new f [] (m ∷ ms) n x p h = absurd p
  put_new f (line ∷ ls) [] n x p h = absurd p
  put_new f (line ∷ ls) (m ∷ ms) n x p h =
      cond_both (number_of m == n) (x ∷ ms) (m ∷ put_in ms n x) (AreNewWith firsts deck f (line ∷ ls))
      (λ is. (h line m (found_here (number_of m == n) m (mounted_in ms n) is) p.0, p.1))
      (λ not. (p.0, put_new f ls ms n x p.1 (λ l k at. h l k (found_on (number_of m == n) m k (mounted_in ms n) not at))))

  -- where more calls may fail
  all_more : (f g : ℕ → ℕ) → ((n : ℕ) → f n ≤ g n) → (ls : List DeviceLine) (ms : List Mounted) → AreNewWith firsts deck f ls ms → AreNewWith firsts deck g ls ms
  all_more f g le [] [] p = tt
  all_more f g le [] (m ∷ ms) p = absurd p
  all_more f g le (line ∷ ls) [] p = absurd p
  all_more f g le (line ∷ ls) (m ∷ ms) p = (
    record {
      plans = p.0.plans;
      none = p.0.none;
      follows = p.0.follows;
      cylinders = p.0.cylinders;
      counts = p.0.counts;
      own = p.0.own;
      mate = λ free paired. (le_trans (p.0.mate free paired).0 (le line.number), (p.0.mate free paired).1);
      about = p.0.about;
    },
    all_more f g le ls ms p.1,
  )

  record HasLine (f : ℕ → ℕ) (m : Mounted) : Type 0 where
    line : DeviceLine
    is : IsNew firsts deck f line m

  line_at : (f : ℕ → ℕ) (ls : List DeviceLine) (ms : List Mounted) (n : ℕ) (m : Mounted) → AreNewWith firsts deck f ls ms → mounted_in ms n ≡ Some m → HasLine f m
  line_at f [] [] n m p at = absurd (cc)
  line_at f [] (k ∷ ms) n m p at = absurd p
  line_at f (line ∷ ls) [] n m p at = absurd p
  line_at f (line ∷ ls) (k ∷ ms) n m p at = by_test (number_of k == n) at (line_at f ls ms n m p.1) where
    by_test : (b : Bool) → (if b then Some k else mounted_in ms n) ≡ Some m → (mounted_in ms n ≡ Some m → HasLine f m) → HasLine f m
    by_test true is more = record { line = line; is = subst (IsNew firsts deck f line) (let same : k ≡ m = cc in same) p.0 }
    by_test false is more = more is

-- No call changes which are to fail

plans_stay : {I S A : Type 0} (i : Interaction Bool I S A) (t : Told) → (T.hold true i t).told.a.plan ≡ t.a.plan
unfolding T.hold
plans_stay (Done s a) t = refl
plans_stay (Try k) t = plans_stay (k true) t
plans_stay (Ask call k) t = plans_stay (k (answer t.pool call)) (record t { pool = after t.pool call (answer t.pool call) })
plans_stay (Read sides.A q k) t = plans_stay (k (if read_fails t.a then None else Some true)) (told_read t sides.A)
plans_stay (Read sides.B q k) t = plans_stay (k (if read_fails t.b then None else Some true)) (told_read t sides.B)
plans_stay (Write sides.A q r k) t = plans_stay (k (if write_fails t.a then false else true)) (told_write t sides.A)
plans_stay (Write sides.B q r k) t = plans_stay (k (if write_fails t.b then false else true)) (told_write t sides.B)
plans_stay (Tell m k) t = plans_stay (k (reply m)) t

-- A device that is lent

abbrev IsAsBefore : MarksDevice → MarksDevice → Type 0
IsAsBefore d y = (y.plans ≡ d.plans) × ((y.history ≡ d.history) × (y.store.counts ≡ d.store.counts))

lend_past : (d : MarksDevice) (to : ℕ) → Always (lend by_plain d to) (λ y (_ : Unit {0}). IsAsBefore d y)
unfolding O.lend
lend_past d to =
    always_then {S = MarksDevice} {A = Unit {0}} {f = event_ended by_plain d} {p = λ y _. IsAsBefore d y} (always_done (refl, (refl, lent_counts d to)))
    (λ y a g.
    always_then (asks_always (ended_asks by_plain (λ z. z.counts ≡ d.store.counts) (λ z t h. h) (waiting_count by_plain d.store) y.store g.1.1))
    (λ z _ same. always_done (g.0, (g.1.0, same))))

module _ (firsts : Firsts) (deck : DeckLines) (f : ℕ → ℕ) (line : DeviceLine) (m : Mounted) where
  lent_new : (to : ℕ) (pool : Pool) → IsNew firsts deck f line m → IsNew firsts deck f line (mounted_behind (held_with pool m (lend by_plain m.device to)))
  lent_new to pool p =
      let t = told_to pool m in
      let past = held true (had_always (lend_past m.device to)) t in
      let idle = ap (λ (h : History). h.running) p.none in
      let lent = lend_lends m.device to (told_came (lend by_plain m.device to) t) in
      record {
        plans = past.0 ∙ p.plans;
        none = past.1.0 ∙ p.none;
        follows = held true (lend_follows line.number (begun firsts line) m.device p.follows idle to) t;
        cylinders = lent.cylinders ∙ p.cylinders;
        counts = past.1.1 ∙ p.counts;
        own = plans_stay (lend by_plain m.device to) t ∙ p.own;
        mate = λ free paired. absurd (let both = lent.lent in cc);
        about = λ free. absurd (let both = lent.lent in cc);
      }

  joined_new : (volume : Calls) → FailsFew (f line.number) volume.plan → IsFree m.device → IsNew firsts deck f line m → IsNew firsts deck f line (record m { device = join m.device; b = volume })
  joined_new volume few free p = record {
    plans = p.plans;
    none = p.none;
    follows = follows_store line.number (begun firsts line) m.device p.follows (join m.device).store refl;
    cylinders = p.cylinders;
    counts = p.counts;
    own = p.own;
    mate = λ free paired. few;
    about = λ home. about.joined (p.about home) free.0 free.1;
  }

-- A pair

same_mounted : {m k : Mounted} {o : Option Mounted} → o ≡ Some m → o ≡ Some k → m ≡ k
same_mounted e f = cc

at_least : (x y z : ℕ) → z ≡ x + y → x ≤ z
at_least x y z e = omega (arith, e)

least_part : (x y z : ℕ) → z ≡ x + y → y ≤ z
least_part x y z e = omega (arith, e)

turned : (a b : ℕ) → (a == b) ≡ false → (b == a) ≡ false
turned a b e = grind (arith, nat_tests)

module _ (firsts : Firsts) (deck : DeckLines) (ls : List DeviceLine) (once : (n : ℕ) → FailsFew (failing_in (plan_for deck.faults n)) (plan_for deck.faults n)) where
  -- the device of this number may become one of a pair
  abbrev MayJoin : List Mounted → ℕ → Type 0
  MayJoin ms n = (k : Mounted) → mounted_in ms n ≡ Some k → IsFree k.device

  join_on : (s : Subsystem) (n : ℕ) (volume : Calls) → AreNew firsts deck ls s.mounted → FailsFew (lent_faults deck n s.mounted) volume.plan → MayJoin s.mounted n →
      (o : Option Mounted) → mounted_in s.mounted n ≡ o → AreNew firsts deck ls (joined s n volume o).mounted
  join_on s n volume p few free None at = p
  join_on s n volume p few free (Some m) at =
      let x = record m { device = join m.device; b = volume } in
      let f : ℕ → ℕ = λ i. lent_faults deck i s.mounted in
      all_more firsts deck f (λ i. lent_faults deck i (put_in s.mounted n x)) (λ i. le_of_eq (sym (same_lent deck i s.mounted n m x at refl refl))) ls
      (put_in s.mounted n x)
      (put_new firsts deck f ls s.mounted n x p
      (λ line k there q.
      subst (λ (y : Mounted). IsNew firsts deck f line (record y { device = join y.device; b = volume })) (same_mounted there at)
      (joined_new firsts deck f line k volume
      (subst (λ (i : ℕ). FailsFew (f i) volume.plan) (sym (mounted_number s.mounted n k there) ∙ q.follows.number) few) (free k there) q)))

  module _ (s : Subsystem) (a b : ℕ) (m : Mounted) (at : mounted_in s.mounted b ≡ Some m) (free : m.device.store.lent ≡ None) (p : AreNew firsts deck ls s.mounted) where
    abbrev o : RunOutcome MarksDevice (Unit {0})
    o = held_with s.pool m (lend by_plain m.device a)

    abbrev k : Mounted
    k = mounted_behind o

    abbrev ms : List Mounted
    ms = put_in s.mounted b k

    abbrev before : ℕ → ℕ
    before i = lent_faults deck i s.mounted

    lends_it : Lent m.device a k.device
    lends_it = lend_lends m.device a (told_came (lend by_plain m.device a) (told_to s.pool m))

    lent_on : AreNew firsts deck ls ms
    lent_on =
        all_more firsts deck before (λ i. lent_faults deck i ms) (λ i. at_least (before i) _ (lent_faults deck i ms) (one_lent deck i s.mounted b m k at free)) ls ms
        (put_new firsts deck before ls s.mounted b k p
        (λ line y there q.
        subst (λ (x : Mounted). IsNew firsts deck before line (mounted_behind (held_with s.pool x (lend by_plain x.device a)))) (same_mounted there at)
        (lent_new firsts deck before line y a s.pool q)))

    few_on : FailsFew (lent_faults deck a ms) o.told.a.plan
    few_on =
        let l = line_at firsts deck before ls s.mounted b m p at in
        let is : o.told.a.plan ≡ plan_for deck.faults l.line.number = plans_stay (lend by_plain m.device a) (told_to s.pool m) ∙ l.is.own in
        let plan : failing_in o.told.a.plan ≡ faults_of deck l.line.number = ap failing_in is ∙ planned l.line.number deck.faults in
        let part : lent_part deck a k ≡ faults_of deck l.line.number =
        lent_part_is deck a k lends_it.lent ∙ ap (faults_of deck) (lends_it.number ∙ l.is.follows.number) in (
          subst (λ (i : ℕ). i ≤ lent_faults deck a ms) (part ∙ sym plan)
              (least_part (before a) (lent_part deck a k) (lent_faults deck a ms) (one_lent deck a s.mounted b m k at free)),
          subst (λ (q : Plan). (come_once q.reads && come_once q.writes) ≡ true) (sym is) (once l.line.number).1,
        )

    free_on : (b == a) ≡ false → MayJoin s.mounted a → MayJoin ms a
    free_on other may = λ x there.
        may x (sym (put_other s.mounted a b k (lends_it.number ∙ mounted_number s.mounted b m at) other) ∙ there)

  lend_on : (s : Subsystem) (a b : ℕ) → AreNew firsts deck ls s.mounted → (b == a) ≡ false → MayJoin s.mounted a → (o : Option Mounted) →
      mounted_in s.mounted b ≡ o → ((m : Mounted) → o ≡ Some m → m.device.store.lent ≡ None) → AreNew firsts deck ls (lends s a b o).mounted
  lend_on s a b p other may None at free = p
  lend_on s a b p other may (Some m) at free =
      let o = held_with s.pool m (lend by_plain m.device a) in
      let z = behind_outcome s b o in
      join_on z a o.told.a (lent_on s a b m at (free m refl) p) (few_on s a b m at (free m refl) p) (free_on s a b m at (free m refl) p other may)
      (mounted_in z.mounted a) refl

  order_on : (s : Subsystem) → AreNew firsts deck ls s.mounted → (a b : ℕ) (x y : MarksDevice) → device_in (devices_of s) a ≡ Some x →
      device_in (devices_of s) b ≡ Some y → (o : Option OrderFault) →
      pair_fault x y ≡ o → AreNew firsts deck ls (happens_by s (order o (Lends x y))).behind.mounted
  order_on s p a b x y at_x at None fault =
      let may = may_pair x y fault in
      let there : device_in (devices_of s) y.store.device ≡ Some y =
      ap (device_in (devices_of s)) (number_found s.mounted b y at) ∙ at in
      let there_x : device_in (devices_of s) x.store.device ≡ Some x =
      ap (device_in (devices_of s)) (number_found s.mounted a x at_x) ∙ at_x in
      lend_on s x.store.device y.store.device p (turned x.store.device y.store.device may.other)
      (λ m is. subst IsFree (sym (same_found s.mounted x.store.device x m there_x is)) (may.single_x, may.free_x))
      (mounted_in s.mounted y.store.device) refl
      (λ m is. none_of m.device.store.lent
      (ap (λ (d : MarksDevice). is_some d.store.lent) (same_found s.mounted y.store.device y m there is) ∙ may.free_y))
  order_on s p a b x y at_x at (Some f) fault = p

  second_on : (s : Subsystem) → AreNew firsts deck ls s.mounted → (a b : ℕ) (x : MarksDevice) → device_in (devices_of s) a ≡ Some x → (o : Option MarksDevice) →
      device_in (devices_of s) b ≡ o → AreNew firsts deck ls (happens_by s (on_device o (λ y. order (pair_fault x y) (Lends x y)))).behind.mounted
  second_on s p a b x at_x None at = p
  second_on s p a b x at_x (Some y) at = order_on s p a b x y at_x at (pair_fault x y) refl

  first_on : (s : Subsystem) → AreNew firsts deck ls s.mounted → (a b : ℕ) (o q : Option MarksDevice) → device_in (devices_of s) a ≡ o →
      device_in (devices_of s) b ≡ q →
      AreNew firsts deck ls (happens_by s (on_device o (λ x. on_device q (λ y. order (pair_fault x y) (Lends x y))))).behind.mounted
  first_on s p a b None q at_x at = p
  first_on s p a b (Some x) q at_x at = second_on s p a b x at_x q at

  pair_on : (s : Subsystem) (a b : ℕ) → AreNew firsts deck ls s.mounted → AreNew firsts deck ls (happens s (events.Pair a b)).behind.mounted
  unfolding H.happens D.deed
  pair_on s a b p = first_on s p a b (device_in (devices_of s) a) (device_in (devices_of s) b) refl refl

-- A deck

opened_new : (firsts : Firsts) (deck : DeckLines) (f : ℕ → ℕ) (ls : List DeviceLine) → All (λ (d : DeviceLine). 1 ≤ d.cylinders) ls → AllFit firsts ls →
    AreNewWith firsts deck f ls (map (opened_device_on firsts deck) ls)
opened_new firsts deck f [] h fit = tt
opened_new firsts deck f (d ∷ ls) h fit =
    let some = All-head (λ (l : DeviceLine). 1 ≤ l.cylinders) d ls h in
    let long = fit.0.tracks in (
      record {
        plans = refl;
        none = refl;
        follows = first_follows d.number d.geometry d.cylinders (firsts d.number d.cylinders) (plans_of deck.programs d.number) long (omega (arith, some));
        cylinders = refl;
        counts = refl;
        own = refl;
        mate = λ free paired. absurd (cc);
        about = λ free. about.opened d.number d.geometry d.cylinders (plans_of deck.programs d.number) some long;
      },
      opened_new firsts deck f ls (All-tail (λ (l : DeviceLine). 1 ≤ l.cylinders) d ls h) fit.1,
    )

pub paired_new : (firsts : Firsts) (deck : DeckLines) → All (λ (d : DeviceLine). 1 ≤ d.cylinders) deck.devices → AllFit firsts deck.devices →
    ((n : ℕ) → (come_once (plan_for deck.faults n).reads && come_once (plan_for deck.faults n).writes) ≡ true) →
    AreNew firsts deck deck.devices (paired_on firsts deck).mounted
paired_new firsts deck h fit once =
    lines_keep (λ s. AreNew firsts deck deck.devices s.mounted) (pair_on firsts deck deck.devices (λ n. (le_of_eq refl, once n)))
    (opened_on firsts deck) (before_start deck.events)
    (opened_new firsts deck (λ i. lent_faults deck i (opened_on firsts deck).mounted) deck.devices h fit)
