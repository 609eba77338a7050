-- Two devices become a pair: the one lends its volume, and it becomes side B of the other.
use Rattle.std.proofs.Common.{◌≡◌, ℕ, ◌==◌, ◌*◌, Bool, true, false, List, [], length, Option, Some, None, is_some, refl, sym, ap, subst, ◌∙◌, arith, eqb-true}
use Rattle.ckd_types.specs.declared.paths.Side.TheVariants.{A, B}
use Rattle.ckd_types.specs.declared.record.Track.{Track}
use Rattle.track_image.specs.Image.{Image}
use Rattle.device_outside.specs.Both.{SideTold, Linked}
use Rattle.device_outside.specs.Keeper.{Hearing}
use Rattle.device_outside.specs.Pool.{Pool, counted_slots}
use Rattle.device_outside.specs.Slots.{AreShared}
use Rattle.device_outside.specs.Told.{Calls, RunOutcome}
use Rattle.device_outside.specs.Volume.{VolumeView}
use Rattle.device_outside.proofs.Link.{linked}
use Rattle.device_defs.specs.Contents.{contents, by_plain}
use Rattle.device_defs.specs.Marks.{MarksDevice}
use Rattle.device_defs.specs.Orders.{join, lend}
use Rattle.device_defs.specs.Store.{tracks_of}
use Rattle.device_laws.specs.Agrees.{Held}
use Rattle.device_laws.specs.InOrder.{IsInOrder}
use Rattle.device_laws.specs.Lent.{Stands, in_order, is_away}
use Rattle.device_laws.specs.Whole.{WholeDevice, marks_device, WholeTwin, holding}
use Rattle.device_laws.proofs.Lending.{LeavesLending, lend_long}
use Rattle.device_laws.proofs.OrdersInOrder.{join_order, join_same}
use Rattle.subsystem_defs.specs.declared.end.EventEnd.TheVariants as ends
use Rattle.subsystem_defs.specs.Happening.{told_to, held_with, mounted_behind, behind_outcome, joined, lends, quietly}
use Rattle.subsystem_defs.specs.Subsystem.{Mounted, Subsystem, mounted_in, put_in}
use Rattle.subsystem_defs.proofs.Unrefused.{MayPair}
use Rattle.subsystem_laws.specs.WholeComes.{subsystem_of, outside_at, Asked, Joins, IsWhatCame}
use Rattle.subsystem_laws.specs.WholeStood.{Stood, stood_in, put_at, IsMounted, is_mounted, AreMounted}
use Rattle.subsystem_laws.proofs.WholeDeeds.{Seat}
use Rattle.subsystem_laws.proofs.WholeFinding.{Found, none_found, both_found, find, stood_other}
use Rattle.subsystem_laws.proofs.WholeTalks.{told_pool, shared_by, stands, mounts, tells}

some_is : {X : Type 0} (x y : X) → Some x ≡ Some y → x ≡ y
some_is x y e = cc

pub here_in_order : {v w : List Track} {d : WholeDevice} {h : Held} → Stands v w d h → is_some d.store.lent ≡ false → IsInOrder v w d.store h
here_in_order (in_order i) free = i
here_in_order (is_away i) free = absurd (let lent = i.store.lent in cc)

turned : (m n : ℕ) → (m == n) ≡ false → (n == m) ≡ false
turned m n e = by_case (n == m) refl
  where
    by_case : (b : Bool) → (n == m) ≡ b → b ≡ false
    by_case true f = absurd (let same : n ≡ m = eqb-true n m f in let k : (m == m)
        ≡ true = grind arith in let l = subst (λ (i : ℕ). (m == i) ≡ false) same e in cc)
    by_case false f = refl

-- What the one that lends leaves

record Left (pool : Pool) (others : List ℕ) (number tracks : ℕ) (y : Stood) (o : RunOutcome MarksDevice (Unit {0})) : Type 0 where
  left : o.told.pool ≡ counted_slots pool
  mine : List ℕ
  volume : List (List ℕ)
  long : length volume ≡ tracks
  told : SideTold y.a volume o.told.a
  mounted : IsMounted mine (record y { a = None }) (mounted_behind o)
  shared : AreShared pool.used mine others
  numbered : y.device.store.device ≡ number
  marked : o.state.store.device ≡ number

module _ {K : Type 0} (hears : Hearing Image K) (p q : Pool) (d : WholeDevice) (v w : List Track) (h : Held) (mine others : List ℕ)
    (on_a on_b : Option (VolumeView (List ℕ))) (a b : Calls) (slots : h.slots ≡ Some mine)
    (shared : AreShared p.used mine others) (told_a : SideTold on_a h.a a) (told_b : SideTold on_b h.b b) (to : ℕ) where
  left_by : (y : Stood) (f : Asked hears (lend contents d to) tt p (stands d on_a on_b) y q) →
      Linked others true (WholeTwin (LeavesLending (length h.a) d.store.device)) (lend by_plain (marks_device v w d) to)
      (told_to (counted_slots p) (mounts v w d a b)) y.device tt (outside_at f.after y f.later) →
      Left q others d.store.device (length h.a) y (held_with (counted_slots p) (mounts v w d a b) (lend by_plain (marks_device v w d) to))
  left_by y f t =
      let x = t.is in
      let o : RunOutcome MarksDevice (Unit {0}) = record { state = marks_device x.plain x.firm y.device; answer = t.answer; told = t.told } in
      let ran = t.ran ∙ ap (λ (m : MarksDevice). record { state = m; answer = t.answer; told = t.told }) (sym x.marks) in
      subst (λ (u : RunOutcome MarksDevice (Unit {0})). Left q others d.store.device (length h.a) y u) (sym ran)
      (record {
        left = told_pool f.after.pool q t.told.pool f.pool_behind t.tells.pool;
        mine = t.tells.mine;
        volume = t.holdings.a;
        long = x.is.long;
        told = t.tells.a;
        mounted = is_mounted y.device x.plain x.firm t.holdings None y.b t.told.a t.told.b (is_away x.is.lent) t.tells.slots tt t.tells.b;
        shared = shared_by f.after.pool q t.tells.mine others f.pool_behind t.tells.shared;
        numbered = x.is.number;
        marked = x.is.number;
      })

  left_so : (y : Stood) → IsInOrder v w d.store h → d.store.paired ≡ false → d.history.running ≡ None →
      Asked hears (lend contents d to) tt p (stands d on_a on_b) y q →
      Left q others d.store.device (length h.a) y (held_with (counted_slots p) (mounts v w d a b) (lend by_plain (marks_device v w d) to))
  left_so y order single idle f =
      left_by y f
      (linked others (λ ok e. e) [] true (WholeTwin (LeavesLending (length h.a) d.store.device)) h (told_to (counted_slots p) (mounts v w d a b))
      (lend_long v w d h to order single idle) f.ran (tells p d v w h mine others on_a on_b a b slots shared told_a told_b f.port f.keeper f.pool_before))

-- The volume becomes side B

module _ (q : Pool) (xs ys : List Stood) (ms : List Mounted) (n : ℕ) (volume : List (List ℕ)) (view : Option (VolumeView (List ℕ))) (calls : Calls)
    (told : SideTold view volume calls) (all : AreMounted q xs ms) where
  joined_at : (x : Stood) (m : Mounted) (mine : List ℕ) → IsMounted mine x m → is_some x.device.store.lent ≡ false → x.device.store.paired ≡ false →
      length volume ≡ tracks_of x.device.store →
      IsMounted mine (record { device = join x.device; a = x.a; b = view }) (record m { device = join m.device; b = calls })
  joined_at x m mine (is_mounted d v w h on_a on_b a b now slots told_a told_b) free single long =
      let order = join_order v w d h volume (here_in_order now free) single long in
      subst (λ (k : MarksDevice). IsMounted mine (record { device = join d; a = on_a; b = view }) (record { device = k; a = a; b = calls }))
      (join_same v w d h)
      (is_mounted (join d) v w (holding h B volume) on_a view a calls (in_order order) slots told_a told)

  join_so : (x : Stood) → Found q.used [] xs ms n → stood_in xs n ≡ Some x → is_some x.device.store.lent ≡ false → x.device.store.paired ≡ false →
      length volume ≡ tracks_of x.device.store → (s : Subsystem) → s.mounted ≡ ms →
      AreMounted q (put_at xs n (record { device = join x.device; a = x.a; b = view })) (joined s n calls (mounted_in ms n)).mounted
  join_so x (none_found f g) at free single long s is = absurd (cc)
  join_so x (both_found u m mine others f g there shared number put) at free single long s is =
      let same = some_is u x (sym f ∙ at) in
      subst (λ (o : Option Mounted). AreMounted q (put_at xs n (record { device = join x.device; a = x.a; b = view })) (joined s n calls o).mounted) (sym g)
      (subst (λ (l : List Mounted). AreMounted q (put_at xs n (record { device = join x.device; a = x.a; b = view }))
      (put_in l n (record m { device = join m.device; b = calls }))) (sym is)
      (put q.used mine (record { device = join x.device; a = x.a; b = view }) (record m { device = join m.device; b = calls })
      (joined_at x m mine (subst (λ (z : Stood). IsMounted mine z m) same there) free single long) shared))

joined_pool : (s : Subsystem) (n : ℕ) (calls : Calls) (o : Option Mounted) → (joined s n calls o).pool ≡ s.pool
joined_pool s n calls (Some m) = refl
joined_pool s n calls None = refl

-- Both

module _ {K : Type 0} (hears : Hearing Image K) (p q : Pool) (xs ys : List Stood) (ms : List Mounted) (all : AreMounted p xs ms) where
  module _ (n m : ℕ) (x : Seat p xs ms n) (y : Seat p xs ms m) (may : MayPair x.device y.device) where
    abbrev there : Mounted
    there = record { device = marks_device y.plain y.firm y.device; a = y.a; b = y.b }

    lends_at : Joins hears n m y.device p xs q ys → IsWhatCame
        (quietly (subsystem_of p ms) (lends (subsystem_of p ms) n m (mounted_in ms m)) ends.Done) ends.Done q ys
    lends_at f =
        let s = subsystem_of p ms in
        let order_y = here_in_order y.stands may.free_y in
        let here : Stood = record { device = y.device; a = y.on_a; b = y.on_b } in
        let same : f.before ≡ here = some_is f.before here (sym f.stood ∙ y.stood) in
        let o = held_with (counted_slots p) there (lend by_plain (marks_device y.plain y.firm y.device) n) in
        let so = left_so hears p q y.device y.plain y.firm y.held y.mine y.others y.on_a y.on_b y.a y.b y.slots y.shared y.told_a y.told_b n f.behind order_y
        may.single_y may.idle (subst (λ (u : Stood). Asked hears (lend contents y.device n) tt p u f.behind q) same f.asked) in
        let away : Stood = record f.behind { a = None } in
        let zs = put_at xs m away in
        let ks = put_in ms m (mounted_behind o) in
        let between : AreMounted q zs ks = y.put q.used so.mine away (mounted_behind o) so.mounted so.shared in
        let off : (m == n) ≡ false = turned n m (subst (λ (i : ℕ). (n == i) ≡ false) y.number (subst (λ (i : ℕ). (i == y.device.store.device) ≡ false)
        x.number may.other)) in
        let number : away.device.store.device ≡ m = so.numbered ∙ y.number in
        let first : f.first ≡ record { device = x.device; a = x.on_a; b = x.on_b } =
        some_is f.first (record { device = x.device; a = x.on_a; b = x.on_b }) (sym f.other ∙ stood_other xs m n away number off ∙ x.stood) in
        let free = ap (λ (u : Stood). is_some u.device.store.lent) first ∙ may.free_x in
        let single = ap (λ (u : Stood). u.device.store.paired) first ∙ may.single_x in
        let long : length so.volume ≡ tracks_of f.first.device.store =
        so.long ∙ order_y.agrees.ground.long A may.up ∙ ap (λ (c : ℕ). c * 15) (sym may.alike) ∙ ap (λ (u : Stood). tracks_of u.device.store) (sym first) in
        let z = behind_outcome s m o in
        let end = join_so q zs ys ks n so.volume f.behind.a o.told.a so.told between f.first (find q.used [] zs ks n between) f.other free single long z refl in
        subst (λ (u : Option Mounted). IsWhatCame (quietly s (lends s n m u) ends.Done) ends.Done q ys) (sym y.mounted)
        (record {
          ended = refl;
          left = joined_pool z n o.told.a (mounted_in z.mounted n) ∙ so.left;
          mounted = subst (λ (l : List Stood). AreMounted q l (joined z n o.told.a (mounted_in z.mounted n)).mounted) (sym f.stands) end;
        })

    pub lends_so : (j k : ℕ) → j ≡ n → k ≡ m → Joins hears j k y.device p xs q ys →
        IsWhatCame (quietly (subsystem_of p ms) (lends (subsystem_of p ms) j k (mounted_in ms k)) ends.Done) ends.Done q ys
    lends_so j k jn km f =
        let s = subsystem_of p ms in
        subst (λ (i : ℕ). IsWhatCame (quietly s (lends s i k (mounted_in ms k)) ends.Done) ends.Done q ys) (sym jn)
        (subst (λ (i : ℕ). IsWhatCame (quietly s (lends s n i (mounted_in ms i)) ends.Done) ends.Done q ys) (sym km)
        (lends_at (subst (λ (i : ℕ). Joins hears n i y.device p xs q ys) km (subst (λ (i : ℕ). Joins hears i k y.device p xs q ys) jn f))))
