-- What a keeper hears in an event is what it is told in that of a run.
use Rattle.std.proofs.Common.{◌≡◌, ℕ, true, List, [], ◌∷◌, ◌++◌, Option, Some, sym, ap, subst, ◌∙◌}
use Rattle.ckd_types.specs.declared.record.Track.{Track}
use Rattle.track_image.specs.Image.{Image}
use Rattle.device_outside.specs.Hears.{HeardAll, heard_none, heard_next}
use Rattle.device_outside.specs.Keeper.{Hearing, Message}
use Rattle.device_outside.specs.Pool.{Pool, counted_slots}
use Rattle.device_outside.proofs.Link.{linked_hears}
use Rattle.device_defs.specs.Contents.{contents}
use Rattle.device_defs.specs.Marks.{MarksDevice}
use Rattle.device_laws.specs.Agrees.{Held as Holds}
use Rattle.device_laws.specs.Lent.{Stands}
use Rattle.device_laws.specs.Whole.{WholeDevice, marks_device, WholeTwin}
use Rattle.subsystem_defs.specs.declared.end.EventEnd.{EventEnd}
use Rattle.subsystem_defs.specs.declared.event.Event.{Event}
use Rattle.subsystem_defs.specs.Deeds.{Ends, Becomes, Asks, Each, Repairs, Lends, order, deed}
use Rattle.subsystem_defs.specs.Happening.{MarksDeed, Talk, told_to}
use Rattle.subsystem_defs.specs.Subsystem.{Mounted, Subsystem, mounted_in}
use Rattle.subsystem_laws.specs.WholeComes.{OwnDeed, OwnTalk, subsystem_of, Changes, Asked, Swept, all_swept as all_went, one_swept as one_went, CameBy, Comes}
use Rattle.subsystem_laws.specs.WholeStood.{Stood, devices_at, stood_in, is_mounted, AreMountedBy, one_more, AreMounted, HaveChains}
use Rattle.subsystem_laws.proofs.WholeDeeds.{Seat, IsOfDeeds}
use Rattle.subsystem_laws.proofs.WholeHappens.{deeds_related}
use Rattle.subsystem_laws.proofs.WholeSlots.{slots_of, first_shared, rest_now}
use Rattle.subsystem_laws.proofs.WholeTalks.{LeavesSo, AreTwins, stands, mounts, tells, held_so}
use Rattle.subsystem_laws.specs.Looking.{AskedWith}
use Rattle.keeper_laws.specs.Keeping.{SweptWith, all_swept, one_swept, CameWith, ComesWith}
use Rattle.keeper_laws.specs.Messages as M
use Rattle.keeper_laws.specs.Messages.{asked_messages, swept_messages, deed_messages, event_messages}

some_is : {X : Type 0} (x y : X) → Some x ≡ Some y → x ≡ y
some_is x y e = cc

-- first these, and then those
heard_both : {I K : Type 0} {hears : Hearing I K} {k l n : K} {ms ns : List (Message I)} → HeardAll hears k ms l → HeardAll hears l ns n →
    HeardAll hears k (ms ++ ns) n
heard_both heard_none y = y
heard_both (heard_next h x) y = heard_next h (heard_both x y)

-- With a keeper of which no more is said

module _ {K : Type 0} (hears : Hearing Image K) where
  asked_plainly : {A : Type 0} {talk : OwnTalk A} {answer : A} {pool new : Pool} {keeper later : K} {x y : Stood} →
      AskedWith hears keeper later talk answer pool x y new → Asked hears talk answer pool x y new
  asked_plainly {keeper = keeper} {later = later} f = record {
    port = f.port;
    after = f.after;
    keeper = keeper;
    later = later;
    pool_before = f.pool_before;
    pool_behind = f.pool_behind;
    ran = f.ran;
  }

  swept_plainly : {f : WholeDevice → OwnTalk (Unit {0})} {pool new : Pool} {keeper later : K} {xs ys : List Stood} →
      SweptWith hears f pool keeper xs ys new later → Swept hears f pool xs ys new
  swept_plainly all_swept = all_went
  swept_plainly (one_swept asked more) = one_went (asked_plainly asked) (swept_plainly more)

  came_by : (d : OwnDeed) (pool new_pool : Pool) (keeper later : K) (old new : List Stood) (e : EventEnd) →
      CameWith hears d pool keeper old e new_pool later new → CameBy hears d pool old e new_pool new
  came_by (Ends end) pool new_pool keeper later old new e c = c.0
  came_by (Becomes d end) pool new_pool keeper later old new e c = c.0
  came_by (Asks d talk) pool new_pool keeper later old new e c = record {
    before = c.before;
    behind = c.behind;
    stood = c.stood;
    stands = c.stands;
    is_so = asked_plainly c.is_so;
  }
  came_by (Each swept f) pool new_pool keeper later old new e c = (c.0, swept_plainly c.1)
  came_by (Repairs repaired) pool new_pool keeper later old new e c = c.0
  came_by (Lends x y) pool new_pool keeper later old new e c = c.0

  pub event_came : (e : Event) (p q : Pool) (keeper later : K) (xs ys : List Stood) (end : EventEnd) → ComesWith hears e p keeper xs end q later ys →
      Comes hears e p xs end q ys
  event_came e p q keeper later xs ys end c = came_by (deed contents p (devices_at xs) e) p q keeper later xs ys end c

-- Every device, one after another

module _ {K : Type 0} (hears : Hearing Image K) (f : WholeDevice → OwnTalk (Unit {0})) (g : MarksDevice → Talk (Unit {0}))
    (twins : (v w : List Track) (d : WholeDevice) (h : Holds) → Stands v w d h → AreTwins h (f d) (g (marks_device v w d))) where
  swept_hears : (p q : Pool) (keeper later : K) (taken : List ℕ) (xs ys : List Stood) (ms : List Mounted) → AreMountedBy p.used taken xs ms →
      SweptWith hears f p keeper xs ys q later → HeardAll hears keeper (swept_messages g ms (counted_slots p)) later
  unfolding M.swept_messages
  swept_hears p q keeper later taken [] [] [] all all_swept = heard_none
  swept_hears p q keeper later taken [] [] (m ∷ ms) all c = elim all [ ]
  swept_hears p q keeper later taken [] (y ∷ ys) ms all c = elim c [ ]
  swept_hears p q keeper later taken (x ∷ xs) [] ms all c = elim c [ ]
  swept_hears p q keeper later taken (x ∷ xs) (y ∷ ys) [] all c = elim all [ ]
  swept_hears p q keeper later taken (x ∷ xs) (y ∷ ys) (m ∷ ms) (one_more mine (is_mounted d v w h on_a on_b a b order slots told_a told_b) apart rest)
      (one_swept {behind = r} {between = between} asked more) =
      let others = slots_of rest ++ taken in
      let shared = first_shared taken mine apart rest in
      let so = held_so hears p r d v w h mine others on_a on_b a b slots shared told_a told_b (f d) (g (marks_device v w d)) tt y
      (twins v w d h order) (asked_plainly hears asked) in
      heard_both
      (linked_hears others (λ ok e. e) [] true (WholeTwin LeavesSo) h (told_to (counted_slots p) (mounts v w d a b)) (twins v w d h order).twins
      asked.ran (tells p d v w h mine others on_a on_b a b slots shared told_a told_b asked.port keeper asked.pool_before))
      (subst (λ (t : Pool). HeardAll hears between (swept_messages g ms t) later) (sym so.left)
      (swept_hears r q between later (so.mine ++ taken) xs ys ms (rest_now taken mine apart rest r.used so.mine so.shared) more))

-- Each deed

module _ {K : Type 0} (hears : Hearing Image K) (p q : Pool) (keeper later : K) (xs ys : List Stood) (ms : List Mounted) (e : EventEnd)
    (all : AreMounted p xs ms) where
  abbrev s : Subsystem
  s = subsystem_of p ms

  -- what came of the one deed was heard as the other tells it. A record, so that the deeds can be inferred
  record Hears (x : OwnDeed) (u : MarksDeed) : Type 0 where
    so : CameWith hears x p keeper xs e q later ys → HeardAll hears keeper (deed_messages s u) later

  silent : later ≡ keeper → HeardAll hears keeper [] later
  silent e = subst (λ (z : K). HeardAll hears keeper [] z) (sym e) heard_none

  module _ (n : ℕ) (x : Seat p xs ms n) where
    abbrev d : WholeDevice
    d = x.device

    abbrev m : MarksDevice
    m = marks_device x.plain x.firm x.device

    abbrev here : Stood
    here = stands x.device x.on_a x.on_b

    abbrev there : Mounted
    there = mounts x.plain x.firm x.device x.a x.b

    asked_at : (talk : OwnTalk (Option EventEnd)) (other : Talk (Option EventEnd)) → AreTwins x.held talk other → (k : ℕ) → k ≡ n →
        Changes k (λ u v. AskedWith hears keeper later talk (Some e) p u v q) xs ys → HeardAll hears keeper (asked_messages s (mounted_in ms k) other) later
    asked_at talk other twins k is f =
        let same : f.before ≡ here = some_is f.before here (sym f.stood ∙ ap (stood_in xs) is ∙ x.stood) in
        let asked = subst (λ (u : Stood). AskedWith hears keeper later talk (Some e) p u f.behind q) same f.is_so in
        subst (λ (o : Option Mounted). HeardAll hears keeper (asked_messages s o other) later) (sym (ap (mounted_in ms) is ∙ x.mounted))
        (linked_hears x.others (λ ok e. e) [] true (WholeTwin LeavesSo) x.held (told_to (counted_slots p) there) twins.twins asked.ran
        (tells p x.device x.plain x.firm x.held x.mine x.others x.on_a x.on_b x.a x.b x.slots x.shared x.told_a x.told_b asked.port keeper
        asked.pool_before))

    asks_hears : (talk : OwnTalk (Option EventEnd)) (other : Talk (Option EventEnd)) → AreTwins x.held talk other → Hears (Asks d talk) (Asks m other)
    asks_hears talk other twins = record { so = λ c. asked_at talk other twins x.device.store.device x.number c }

  -- and that of each

  each_hears : (r : Pool) → r.used ≡ p.used → (f : WholeDevice → OwnTalk (Unit {0})) (g : MarksDevice → Talk (Unit {0})) →
      ((v w : List Track) (d : WholeDevice) (h : Holds) → Stands v w d h → AreTwins h (f d) (g (marks_device v w d))) →
      Hears (Each r f) (Each (counted_slots r) g)
  each_hears r same f g twins = record {
    so = λ c.
        swept_hears hears f g twins r q keeper later [] xs ys ms (subst (λ (used : List ℕ). AreMountedBy used [] xs ms) (sym same) all) c.1;
  }

  hears_deeds : IsOfDeeds p xs ms Hears
  hears_deeds = record {
    ended = λ end. record { so = λ c. silent c.1 };
    repaired = λ r same. record { so = λ c. silent c.1 };
    asked = λ n x talk other twins. asks_hears n x talk other twins;
    became = λ n x d end now is. record { so = λ c. silent c.1 };
    swept = λ r same f g twins. each_hears r same f g twins;
    lent = λ a b x y free. record { so = λ c. silent c.1 };
  }

  event_hears : (event : Event) → HaveChains xs → ComesWith hears event p keeper xs e q later ys →
      HeardAll hears keeper (event_messages (subsystem_of p ms) event) later
  unfolding M.event_messages
  event_hears event chains came = (deeds_related p xs ms all Hears hears_deeds event chains).so came

pub event_is_heard : {K : Type 0} (hears : Hearing Image K) (e : Event) (p q : Pool) (keeper later : K) (xs ys : List Stood) (ms : List Mounted)
    (end : EventEnd) → AreMounted p xs ms → HaveChains xs → ComesWith hears e p keeper xs end q later ys →
    HeardAll hears keeper (event_messages (subsystem_of p ms) e) later
event_is_heard hears e p q keeper later xs ys ms end all chains came = event_hears hears p q keeper later xs ys ms end all e chains came
