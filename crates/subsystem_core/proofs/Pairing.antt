-- Two devices become a pair.
use Rattle.std.proofs.Common.{◌≡◌, ◌∙◌, ◌==◌, ◌*◌, ◌<◌, ℕ, Bool, true, false, List, Option, Some, None, get_or, is_some, length, refl, sym, ap, subst}
use Rattle.std.specs.Prelude.{IfSome}
use Rattle.std.proofs.lemmas.Bool.{eqb-true}
use Rattle.std.proofs.lemmas.List.Elements.{All-get_or}
use Rattle.ckd_types.specs.declared.record.Track.{Track}
use Rattle.past_laws.specs.PutAway.{PutAway}
use Rattle.device_core.specs.Promises.{TellsTracks}
use Rattle.track_image.specs.Image.{Image}
use Rattle.device_outside.specs.declared.volume.Volume.{Ghosts}
use Rattle.device_outside.specs.Keeper.{Hearing}
use Rattle.device_defs.specs.Contents.{contents}
use Rattle.frame_pool.specs.Shared.{Shared}
use Rattle.device_store.specs.State.{on_a}
use Rattle.duplex_pair.specs.Volumes.{view_in}
use Rattle.device_core.specs.declared.device.Device.{Device}
use Rattle.device_core.specs.State.{device_of}
use Rattle.subsystem_defs.specs.declared.end.EventEnd.TheVariants as answers
use Rattle.subsystem_defs.specs.declared.end.OrderFault.{OrderFault}
use Rattle.subsystem_defs.specs.declared.event.Event.TheVariants as events
use Rattle.subsystem_defs.proofs.Unrefused.{MayPair, may_pair}
use Rattle.subsystem_core.specs.declared.subsystem.Subsystem.{Subsystem}
use Rattle.subsystem_core.specs.declared.end.EventEnd.TheVariants as ends
use Rattle.subsystem_core.specs.Comes.{CameKept, Changes, IsSame, JoinsKept}
use Rattle.subsystem_core.specs.Devices.{device_at, number_of, put_at}
use Rattle.subsystem_core.specs.Pairs.{HasPairFault, IsJoined, IsLent}
use Rattle.subsystem_core.proofs.Coming.{became_pair, ended}
use Rattle.subsystem_core.proofs.Deeds as deeds
use Rattle.subsystem_core.specs.Standing.{AllStand, Stands}
use Rattle.subsystem_core.proofs.Standing.{tells_tracks}
use Rattle.subsystem_core.proofs.Found.{at_other, eq_self, found_in, number_found, some_same}

turned : (m n : ℕ) → (m == n) ≡ false → (n == m) ≡ false
turned m n off = by_test (n == m) refl
  where
    by_test : (b : Bool) → (n == m) ≡ b → b ≡ false
    by_test true e = let same : (m == n) ≡ true = rw (eqb-true n m e) (eq_self m) in absurd (cc)
    by_test false e = refl

module _ {V : Type 0} {G : Ghosts V} where
  -- The one that lends

  pub record MayLend (o : Option (Device V G)) (x : Device V G) : Type 0 where
    pub to : Device V G
    pub stands : o ≡ Some to
    pub may : MayPair (device_of to) (device_of x)

  pub may_lend : (o p : Option (Device V G)) (x : Device V G) → p ≡ Some x → HasPairFault o p None → MayLend o x
  may_lend (Some to) (Some y) x is free =
      let same : y ≡ x = some_same is in
      record {
        to = to;
        stands = refl;
        may = subst (λ (z : Device V G). MayPair (device_of to) (device_of z)) same
            (may_pair (device_of to) (device_of y) free);
      }
  may_lend (Some to) None x is free = absurd free
  may_lend None p x is free = absurd free

  -- its volume is there
  pub not_gone : (x : Device V G) (o : Option V) → o ≡ on_a x.store → x.store.pair.a.up ≡ true → o ≡ None → ⊥
  not_gone x o is up none =
      let there : is_some o ≡ true = ap is_some is ∙ x.store.pair.a_there up in
      let gone : is_some o ≡ false = ap is_some none in absurd (cc)

  volume_size : (x : Device V G) (volume : V) → on_a x.store ≡ Some volume → (G.view volume).tracks ≡ x.store.cylinders * 15
  volume_size x volume is =
      ap (λ (o : Option V). (view_in G.view o).tracks) (sym is) ∙ x.store.pair.a_size (ap is_some is) ∙ x.store.stale_of_each

  -- and tells its tracks, where the device stands beside its plain device
  pub told_of : (pasts : ℕ → PutAway) (firsts : ℕ → List Track) (ds : List (Device V G)) (i : ℕ) (x : Device V G) → i < length ds → x ≡ get_or ds i x →
      x.store.pair.a.up ≡ true → is_some x.store.pair.lent ≡ false → (o : Option V) → o ≡ on_a x.store → AllStand pasts firsts ds →
      IfSome o (λ v. TellsTracks (G.view v) (G.view v).tracks)
  told_of pasts firsts ds i x within read up home None is all = tt
  told_of pasts firsts ds i x within read up home (Some v) is all =
      let P : Device V G → Type 0 = λ (d : Device V G). Stands (pasts (number_of d)) (firsts (number_of d)) d in
      let s : P x = subst P (sym read) (All-get_or P ds i x within all) in
      tells_tracks (pasts (number_of x)) (firsts (number_of x)) x v (sym is) up (volume_size x v (sym is)) (s.here home)

  -- The one that is lent to

  pub record MayJoin (volume : V) (o : Option (Device V G)) : Type 0 where
    pub first : Device V G
    pub stands : o ≡ Some first
    pub free : is_some first.store.pair.lent ≡ false
    pub single : (device_of first).store.paired ≡ false
    pub size : (G.view volume).tracks ≡ first.store.cylinders * 15

module _ {V : Type 0} {G : Ghosts V} {K : Type 0} {hears : Hearing Image K} where
  -- it is what it was
  pub may_join : (a b : ℕ) (olds mids : List (Device V G)) (volume : V) (o : Option V) (pool new : Shared) → o ≡ Some volume →
      HasPairFault (device_at olds a) (device_at olds b) None → Changes b (IsLent hears a o pool new) olds mids → MayJoin volume (device_at mids a)
  may_join a b olds mids volume o pool new is free ch =
      let l = may_lend (device_at olds a) (device_at olds b) ch.before ch.stood free in
      let number_a : l.to.store.number ≡ a = number_found olds a l.to l.stands in
      let number_b : ch.before.store.number ≡ b = number_found olds b ch.before ch.stood in
      let apart : (a == b) ≡ false = subst (λ (m : ℕ). (m == b) ≡ false) number_a (subst (λ (m : ℕ). (l.to.store.number == m) ≡ false) number_b l.may.other) in
      let still : device_at (put_at olds b ch.behind) a ≡ device_at olds a =
      at_other olds b a ch.behind (ch.is_so.number ∙ number_b) (turned a b apart) in
      let large : (G.view volume).tracks ≡ ch.before.store.cylinders * 15 = volume_size ch.before volume (sym ch.is_so.volume_is ∙ is) in
      record {
        first = l.to;
        stands = ap (λ (ds : List (Device V G)). device_at ds a) ch.stands ∙ still ∙ l.stands;
        free = l.may.free_x;
        single = l.may.single_x;
        size = large ∙ ap (λ (n : ℕ). n * 15) (sym l.may.alike);
      }

  -- Both

  pub joins : (a b : ℕ) (old new : Subsystem V G) (mids : List (Device V G)) (pool : Shared) (volume : V) (o : Option V) → o ≡ Some volume →
      Changes b (IsLent hears a o old.pool pool) old.devices.items mids → new.pool ≡ pool → Changes a (IsJoined volume) mids new.devices.items →
      IfSome (device_at old.devices.items b) (λ y. JoinsKept hears a b (device_of y) old new)
  joins a b old new mids pool volume o is lent same ch =
      let l : Changes b (IsLent hears a (Some volume) old.pool new.pool) old.devices.items mids =
      subst (λ (p : Shared). Changes b (IsLent hears a (Some volume) old.pool p) old.devices.items mids) (sym same)
      (subst (λ (v : Option V). Changes b (IsLent hears a v old.pool pool) old.devices.items mids) is lent) in
      let j : JoinsKept hears a b (device_of l.before) old new = record {
        before = l.before;
        behind = l.behind;
        first = ch.before;
        second = ch.behind;
        volume = volume;
        stood = l.stood;
        asked = l.is_so.asked;
        gone = l.is_so.gone;
        other = subst (λ (ds : List (Device V G)). device_at ds a ≡ Some ch.before) l.stands ch.stood;
        joined = ch.is_so.device;
        a = ch.is_so.a;
        b = ch.is_so.b;
        stands = ch.stands ∙ ap (λ (ds : List (Device V G)). put_at ds a ch.behind) l.stands;
      } in
      subst (λ (p : Option (Device V G)). IfSome p (λ y. JoinsKept hears a b (device_of y) old new)) (sym l.stood) j

module _ {V : Type 0} {G : Ghosts V} {K : Type 0} (hears : Hearing Image K) (k : K) where
  -- The event

  pub pair_refused : (a b : ℕ) (old new : Subsystem V G) (o p : Option (Device V G)) (fault : OrderFault) → device_at old.devices.items a ≡ o →
      device_at old.devices.items b ≡ p → HasPairFault o p (Some fault) → IsSame old new →
      CameKept hears (events.Pair a b) old k (Some (ends.Refused fault)) new k
  pair_refused a b old new (Some x) (Some y) fault first second is same =
      ended hears k old new (events.Pair a b) (answers.Refused fault) (ends.Refused fault)
      (deeds.pair_refused contents _ _ a b _ _ (found_in old.devices.items a x first) (found_in old.devices.items b y second) fault is) (λ h. refl) same
  pair_refused a b old new (Some x) None fault first second is same = absurd is
  pair_refused a b old new None p fault first second is same = absurd is

  pub pair_done : (a b : ℕ) (old new : Subsystem V G) (o p : Option (Device V G)) → device_at old.devices.items a ≡ o →
      device_at old.devices.items b ≡ p → HasPairFault o p None →
      IfSome p (λ y. JoinsKept hears a b (device_of y) old new) → CameKept hears (events.Pair a b) old k (Some ends.Done) new k
  pair_done a b old new (Some x) (Some y) first second is so =
      became_pair hears k old new (events.Pair a b) a b x y first second
      (deeds.paired contents _ _ a b _ _ (found_in old.devices.items a x first) (found_in old.devices.items b y second) is) so
  pair_done a b old new (Some x) None first second is so = absurd is
  pair_done a b old new None p first second is so = absurd is
