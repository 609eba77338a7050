-- Each kind of deed, over devices and in a run.
use Rattle.std.proofs.Common.{◌≡◌, ℕ, true, false, List, [], ◌∷◌, ◌++◌, Option, Some, None, refl, sym, ap, subst, ◌∙◌}
use Rattle.std.specs.Prelude.{option_map}
use Rattle.ckd_types.specs.declared.record.Track.{Track}
use Rattle.track_image.specs.Image.{Image}
use Rattle.device_outside.specs.Both.{SideTold}
use Rattle.device_outside.specs.Keeper.{Hearing}
use Rattle.device_outside.specs.Lists.{is_in}
use Rattle.device_outside.specs.Pool.{Pool, counted_slots}
use Rattle.device_outside.specs.Slots.{AreShared}
use Rattle.device_outside.specs.Told.{Calls, RunOutcome}
use Rattle.device_outside.specs.Volume.{VolumeView}
use Rattle.device_defs.specs.Marks.{MarksDevice}
use Rattle.device_laws.specs.Agrees.{Held}
use Rattle.device_laws.specs.Lent.{Stands}
use Rattle.device_laws.specs.Whole.{WholeDevice, marks_device}
use Rattle.subsystem_defs.specs.declared.end.EventEnd.{EventEnd}
use Rattle.subsystem_defs.specs.declared.end.EventEnd.TheVariants as ends
use Rattle.subsystem_defs.specs.Deeds.{Ends, Becomes, Asks, Each, Repairs, Lends, device_in, on_device}
use Rattle.subsystem_defs.specs.Happening as H
use Rattle.subsystem_defs.specs.Happening.{MarksDeed, Talk, held_with, mounted_behind, told_end, asks, becomes, Swept as RunSwept, swept_on, sweep, happens_by}
use Rattle.subsystem_defs.specs.Refusals.{pair_fault}
use Rattle.subsystem_defs.specs.Subsystem.{Mounted, Subsystem, devices_of, mounted_in, put_in}
use Rattle.subsystem_laws.specs.WholeComes.{OwnDeed, OwnTalk, subsystem_of, Changes, IsNow, Asked, Swept, all_swept, one_swept, CameBy, IsWhatCame}
use Rattle.subsystem_laws.specs.WholeStood.{HasChain, Stood, devices_at, stood_in, put_at, IsMounted, is_mounted, AreMountedBy, one_more, AreMounted, HaveChains}
use Rattle.subsystem_laws.proofs.WholeFinding.{device_mounted, Found, none_found, both_found, find, chain_at, device_stood}
use Rattle.subsystem_laws.proofs.WholeSlots.{slots_of, first_shared, still_apart, rest_now}
use Rattle.subsystem_laws.proofs.WholeTalks.{AreTwins, held_so}

some_is : {X : Type 0} (x y : X) → Some x ≡ Some y → x ≡ y
some_is x y e = cc

-- a device that stands at this number, what is mounted for it, and both with another one in its place
pub record Seat (p : Pool) (xs : List Stood) (ms : List Mounted) (n : ℕ) : Type 0 where
  pub device : WholeDevice
  pub plain : List Track
  pub firm : List Track
  pub held : Held
  pub mine : List ℕ
  pub others : List ℕ
  pub on_a : Option (VolumeView (List ℕ))
  pub on_b : Option (VolumeView (List ℕ))
  pub a : Calls
  pub b : Calls
  pub stands : Stands plain firm device held
  pub slots : held.slots ≡ Some mine
  pub shared : AreShared p.used mine others
  pub told_a : SideTold on_a held.a a
  pub told_b : SideTold on_b held.b b
  pub chains : HasChain device
  pub number : device.store.device ≡ n
  pub stood : stood_in xs n ≡ Some (record { device = device; a = on_a; b = on_b })
  pub mounted : mounted_in ms n ≡ Some (record { device = marks_device plain firm device; a = a; b = b })
  pub put : (now own : List ℕ) (y : Stood) (k : Mounted) → IsMounted own y k → AreShared now own others →
      AreMountedBy now [] (put_at xs n y) (put_in ms n k)

abbrev pub seat_of : (p : Pool) (xs : List Stood) (ms : List Mounted) (n : ℕ) (x : Stood) (m : Mounted) (mine others : List ℕ) → stood_in xs n ≡ Some x →
    mounted_in ms n ≡ Some m → IsMounted mine x m → AreShared p.used mine others → HasChain x.device → x.device.store.device ≡ n →
    ((now own : List ℕ) (y : Stood) (k : Mounted) → IsMounted own y k → AreShared now own others → AreMountedBy now [] (put_at xs n y) (put_in ms n k)) →
    Seat p xs ms n
seat_of p xs ms n x m mine others s t (is_mounted d v w h on_a on_b a b stands slots told_a told_b) shared chains number put = record {
  device = d;
  plain = v;
  firm = w;
  held = h;
  mine = mine;
  others = others;
  on_a = on_a;
  on_b = on_b;
  a = a;
  b = b;
  stands = stands;
  slots = slots;
  shared = shared;
  told_a = told_a;
  told_b = told_b;
  chains = chains;
  number = number;
  stood = s;
  mounted = t;
  put = put;
}

-- a relation of deeds over devices to those in a run, by each kind of deed
module _ (p : Pool) (xs : List Stood) (ms : List Mounted) (Rel : OwnDeed → MarksDeed → Type 0) where
  pub record IsOfDeeds : Type 0 where
    pub ended : (end : EventEnd) → Rel (Ends end) (Ends end)
    pub repaired : (r : Pool) → r.used ≡ p.used → Rel (Repairs r) (Repairs (counted_slots r))
    pub asked : (n : ℕ) (x : Seat p xs ms n) (talk : OwnTalk (Option EventEnd)) (other : Talk (Option EventEnd)) → AreTwins x.held talk other →
        Rel (Asks x.device talk) (Asks (marks_device x.plain x.firm x.device) other)
    pub became : (n : ℕ) (x : Seat p xs ms n) (d : WholeDevice) (end : EventEnd) → Stands x.plain x.firm d x.held → d.store.device ≡ n →
        Rel (Becomes d end) (Becomes (marks_device x.plain x.firm d) end)
    pub swept : (r : Pool) → r.used ≡ p.used → (f : WholeDevice → OwnTalk (Unit {0})) (g : MarksDevice → Talk (Unit {0})) →
        ((v w : List Track) (d : WholeDevice) (h : Held) → Stands v w d h → AreTwins h (f d) (g (marks_device v w d))) →
        Rel (Each r f) (Each (counted_slots r) g)
    pub lent : (a b : ℕ) (x : Seat p xs ms a) (y : Seat p xs ms b) → pair_fault x.device y.device ≡ None →
        Rel (Lends x.device y.device) (Lends (marks_device x.plain x.firm x.device) (marks_device y.plain y.firm y.device))

  module _ (all : AreMounted p xs ms) (k : IsOfDeeds) where
    by_found : (n : ℕ) (f : WholeDevice → OwnDeed) (g : MarksDevice → MarksDeed) → Found p.used [] xs ms n → HaveChains xs →
        ((x : Seat p xs ms n) → Rel (f x.device) (g (marks_device x.plain x.firm x.device))) →
        Rel (on_device (option_map (λ (x : Stood). x.device) (stood_in xs n)) f) (on_device (option_map (λ (m : Mounted). m.device) (mounted_in ms n)) g)
    by_found n f g (none_found t u) chains w =
        subst (λ (o : Option Stood). Rel (on_device (option_map (λ (x : Stood). x.device) o) f)
        (on_device (option_map (λ (m : Mounted). m.device) (mounted_in ms n)) g)) (sym t)
        (subst (λ (o : Option Mounted). Rel (Ends ends.Done) (on_device (option_map (λ (m : Mounted). m.device) o) g)) (sym u) (k.ended ends.Done))
    by_found n f g (both_found x m mine others t u (is_mounted d v w' h on_a on_b a b order slots told_a told_b) shared number put) chains w =
        subst (λ (o : Option Stood). Rel (on_device (option_map (λ (x : Stood). x.device) o) f)
        (on_device (option_map (λ (m : Mounted). m.device) (mounted_in ms n)) g)) (sym t)
        (subst (λ (o : Option Mounted). Rel (f d) (on_device (option_map (λ (m : Mounted). m.device) o) g)) (sym u)
        (w (seat_of p xs ms n (record { device = d; a = on_a; b = on_b }) (record { device = marks_device v w' d; a = a; b = b }) mine others t u
        (is_mounted d v w' h on_a on_b a b order slots told_a told_b) shared (chain_at xs n (record { device = d; a = on_a; b = on_b }) chains t) number put)))

    -- the event of one device
    pub by_device : (n : ℕ) (f : WholeDevice → OwnDeed) (g : MarksDevice → MarksDeed) → HaveChains xs →
        ((x : Seat p xs ms n) → Rel (f x.device) (g (marks_device x.plain x.firm x.device))) →
        Rel (on_device (device_in (devices_at xs) n) f) (on_device (device_in (devices_of (subsystem_of p ms)) n) g)
    by_device n f g chains w =
        subst (λ (o : Option WholeDevice). Rel (on_device o f) (on_device (device_in (devices_of (subsystem_of p ms)) n) g)) (sym (device_stood xs n))
        (subst (λ (o : Option MarksDevice). Rel (on_device (option_map (λ (x : Stood). x.device) (stood_in xs n)) f) (on_device o g))
        (sym (device_mounted ms n)) (by_found n f g (find p.used [] xs ms n all) chains w))

module _ {K : Type 0} (hears : Hearing Image K) (p q : Pool) (xs ys : List Stood) (ms : List Mounted) (e : EventEnd) (all : AreMounted p xs ms) where
  abbrev s : Subsystem
  s = subsystem_of p ms

  -- the one deed leads to what the other does in a run. A record, so that the deeds can be inferred
  pub record Leads (x : OwnDeed) (u : MarksDeed) : Type 0 where
    pub leads : CameBy hears x p xs e q ys → IsWhatCame (happens_by s u) e q ys

  pub ends_so : (end : EventEnd) → Leads (Ends end) (Ends end)
  ends_so end = record {
    leads = λ c. record {
      ended = sym c.0;
      left = ap counted_slots (sym c.1);
      mounted = subst (λ (r : Pool). AreMounted r ys ms) (sym c.1) (subst (λ (l : List Stood). AreMounted p l ms) (sym c.2) all);
    };
  }

  pub repairs_so : (r : Pool) → r.used ≡ p.used → Leads (Repairs r) (Repairs (counted_slots r))
  repairs_so r same = record {
    leads = λ c. record {
      ended = sym c.0;
      left = ap counted_slots (sym c.1);
      mounted = subst (λ (t : Pool). AreMounted t ys ms) (sym c.1)
          (subst (λ (l : List Stood). AreMounted r l ms) (sym c.2) (subst (λ (used : List ℕ). AreMountedBy used [] xs ms) (sym same) all));
    };
  }

  module _ (n : ℕ) (x : Seat p xs ms n) where
    abbrev here : Stood
    here = record { device = x.device; a = x.on_a; b = x.on_b }

    abbrev there : Mounted
    there = record { device = marks_device x.plain x.firm x.device; a = x.a; b = x.b }

    asked_at : (talk : OwnTalk (Option EventEnd)) (other : Talk (Option EventEnd)) → AreTwins x.held talk other → (k : ℕ) → k ≡ n →
        Changes k (λ x y. Asked hears talk (Some e) p x y q) xs ys → IsWhatCame (asks s k (mounted_in ms k) other) e q ys
    asked_at talk other twins k is f =
        let same : f.before ≡ here = some_is f.before here (sym f.stood ∙ ap (stood_in xs) is ∙ x.stood) in
        let o = held_with (counted_slots p) there other in
        let so = held_so hears p q x.device x.plain x.firm x.held x.mine x.others x.on_a x.on_b x.a x.b x.slots x.shared x.told_a x.told_b talk other
        (Some e) f.behind twins (subst (λ (u : Stood). Asked hears talk (Some e) p u f.behind q) same f.is_so) in
        subst (λ (m : Option Mounted). IsWhatCame (asks s k m other) e q ys) (sym (ap (mounted_in ms) is ∙ x.mounted))
        (record {
          ended = ap told_end so.answered;
          left = so.left;
          mounted = subst (λ (l : List Stood). AreMounted q l (put_in ms k (mounted_behind o))) (sym f.stands)
              (subst (λ (j : ℕ). AreMounted q (put_at xs j f.behind) (put_in ms j (mounted_behind o))) (sym is)
              (x.put q.used so.mine f.behind (mounted_behind o) so.mounted so.shared));
        })

    pub asks_so : (talk : OwnTalk (Option EventEnd)) (other : Talk (Option EventEnd)) → AreTwins x.held talk other →
        Leads (Asks x.device talk) (Asks (marks_device x.plain x.firm x.device) other)
    asks_so talk other twins = record { leads = λ c. asked_at talk other twins x.device.store.device x.number c }

    became_at : (d : WholeDevice) → Stands x.plain x.firm d x.held → (k : ℕ) → k ≡ n → q ≡ p → Changes k (IsNow d) xs ys →
        AreMounted q ys (becomes s k (mounted_in ms k) (marks_device x.plain x.firm d)).mounted
    became_at d now k is pool f =
        let same : f.before ≡ here = some_is f.before here (sym f.stood ∙ ap (stood_in xs) is ∙ x.stood) in
        let z : Stood = record { device = d; a = x.on_a; b = x.on_b } in
        let m : Mounted = record { device = marks_device x.plain x.firm d; a = x.a; b = x.b } in
        let stands : z ≡ f.behind =
        ap (λ (u : WholeDevice). record { device = u; a = x.on_a; b = x.on_b }) (sym f.is_so.device)
        ∙ ap (λ (u : Option (VolumeView (List ℕ))). record { device = f.behind.device; a = u; b = x.on_b }) (sym (f.is_so.a ∙ ap (λ (u : Stood). u.a) same))
        ∙ ap (λ (u : Option (VolumeView (List ℕ))). record { device = f.behind.device; a = f.behind.a; b = u })
        (sym (f.is_so.b ∙ ap (λ (u : Stood). u.b) same)) in
        let is_so : IsMounted x.mine f.behind m =
        subst (λ (u : Stood). IsMounted x.mine u m) stands (is_mounted d x.plain x.firm x.held x.on_a x.on_b x.a x.b now x.slots x.told_a x.told_b) in
        subst (λ (r : Pool). AreMounted r ys (becomes s k (mounted_in ms k) (marks_device x.plain x.firm d)).mounted) (sym pool)
        (subst (λ (o : Option Mounted). AreMounted p ys (becomes s k o (marks_device x.plain x.firm d)).mounted) (sym (ap (mounted_in ms) is ∙ x.mounted))
        (subst (λ (l : List Stood). AreMounted p l (put_in ms k m)) (sym f.stands)
        (subst (λ (j : ℕ). AreMounted p (put_at xs j f.behind) (put_in ms j m)) (sym is) (x.put p.used x.mine f.behind m is_so x.shared))))

    becomes_pool : (k : ℕ) (o : Option Mounted) (d : MarksDevice) → (becomes s k o d).pool ≡ counted_slots p
    becomes_pool k (Some m) d = refl
    becomes_pool k None d = refl

    pub becomes_so : (d : WholeDevice) (end : EventEnd) → Stands x.plain x.firm d x.held → d.store.device ≡ n →
        Leads (Becomes d end) (Becomes (marks_device x.plain x.firm d) end)
    becomes_so d end now is = record {
      leads = λ c. record {
        ended = sym c.0;
        left = becomes_pool d.store.device (mounted_in ms d.store.device) (marks_device x.plain x.firm d) ∙ ap counted_slots (sym c.1);
        mounted = became_at d now d.store.device is c.1 c.2;
      };
    }

-- Every device

pub record AreSwept (q : Pool) (taken : List ℕ) (ys : List Stood) (o : RunSwept) : Type 0 where
  pub pool : o.pool ≡ counted_slots q
  pub mounted : AreMountedBy q.used taken ys o.mounted

module _ {K : Type 0} (hears : Hearing Image K) (f : WholeDevice → OwnTalk (Unit {0})) (g : MarksDevice → Talk (Unit {0}))
    (twins : (v w : List Track) (d : WholeDevice) (h : Held) → Stands v w d h → AreTwins h (f d) (g (marks_device v w d))) where
  swept_one : (q : Pool) (taken mine : List ℕ) (y : Stood) (ys : List Stood) (ms : List Mounted) (r : Pool) (o : RunOutcome MarksDevice (Unit {0})) →
      o.told.pool ≡ counted_slots r → IsMounted mine y (mounted_behind o) →
      ((k : ℕ) → is_in k mine ≡ true → is_in k taken ≡ false) →
      AreSwept q (mine ++ taken) ys (sweep g ms (counted_slots r)) → AreSwept q taken (y ∷ ys) (swept_on (sweep g ms) o)
  swept_one q taken mine y ys ms r o left is apart rest =
      let after : AreSwept q (mine ++ taken) ys (sweep g ms o.told.pool) =
      subst (λ (t : Pool). AreSwept q (mine ++ taken) ys (sweep g ms t)) (sym left) rest in
      record { pool = after.pool; mounted = one_more mine is apart after.mounted }

  pub swept_so : (p q : Pool) (taken : List ℕ) (xs ys : List Stood) (ms : List Mounted) → AreMountedBy p.used taken xs ms → Swept hears f p xs ys q →
      AreSwept q taken ys (sweep g ms (counted_slots p))
  unfolding H.sweep
  swept_so p q taken [] [] [] all all_swept = record { pool = refl; mounted = all }
  swept_so p q taken [] [] (m ∷ ms) all c = elim all [ ]
  swept_so p q taken [] (y ∷ ys) ms all c = elim c [ ]
  swept_so p q taken (x ∷ xs) [] ms all c = elim c [ ]
  swept_so p q taken (x ∷ xs) (y ∷ ys) [] all c = elim all [ ]
  swept_so p q taken (x ∷ xs) (y ∷ ys) (m ∷ ms) (one_more mine (is_mounted d v w h on_a on_b a b order slots told_a told_b) apart rest)
      (one_swept {behind = r} asked more) =
      let others = slots_of rest ++ taken in
      let so = held_so hears p r d v w h mine others on_a on_b a b slots (first_shared taken mine apart rest) told_a told_b (f d) (g (marks_device v w d)) tt y
      (twins v w d h order) asked in
      swept_one q taken so.mine y ys ms r (held_with (counted_slots p) (record { device = marks_device v w d; a = a; b = b }) (g (marks_device v w d)))
      so.left so.mounted (still_apart taken mine apart rest r.used so.mine so.shared)
      (swept_so r q (so.mine ++ taken) xs ys ms (rest_now taken mine apart rest r.used so.mine so.shared) more)

  pub each_so : (p r q : Pool) (xs ys : List Stood) (ms : List Mounted) (e : EventEnd) → AreMounted p xs ms → r.used ≡ p.used →
      CameBy hears (Each r f) p xs e q ys → IsWhatCame (happens_by (subsystem_of p ms) (Each (counted_slots r) g)) e q ys
  each_so p r q xs ys ms e all same came =
      let o = swept_so r q [] xs ys ms (subst (λ (used : List ℕ). AreMountedBy used [] xs ms) (sym same) all) came.1 in
      record { ended = sym came.0; left = o.pool; mounted = o.mounted }
