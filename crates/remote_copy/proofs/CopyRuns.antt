-- A mirror stands over a run behind each copy of a track, and the copy answers as the run's look.
use Rattle.std.proofs.Common.{◌≡◌, ◌∙◌, ◌<◌, ◌+◌, ◌*◌, ◌==◌, ◌&&◌, ◌⊎◌, inl, inr, ℕ, Bool, true, false, List, length, Option, Some, None, Result, Ok, Err, not, refl, sym, ap, subst, arith}
use Rattle.std.specs.Prelude.{IfOk, IfSome, OnOk, if◌then◌else◌}
use Rattle.std.proofs.lemmas.Bool.{ltb-true}
use Rattle.ckd_types.specs.declared.memory.NoMemory.{NoMemory}
use Rattle.ckd_types.specs.declared.record.Track.{Track}
use Rattle.ckd_types.specs.Volume.{track_in}
use Rattle.ckd_outside.specs.declared.faults.Failed.{Failed}
use Rattle.ckd_outside.specs.Causes.{Rose}
use Rattle.track_image.specs.Image.{Image}
use Rattle.device_outside.specs.declared.volume.Volume.{Ghosts}
use Rattle.device_outside.specs.Hears.{HeardAll}
use Rattle.device_outside.specs.Keeper.{Heard}
use Rattle.device_outside.specs.Lists.{is_in}
use Rattle.device_outside.specs.Outside.{Ran}
use Rattle.device_outside.specs.Pool as pools
use Rattle.device_defs.specs.Contents.{contents}
use Rattle.device_defs.specs.Peek as peeks
use Rattle.device_defs.specs.Peek.{Peeked, peek}
use Rattle.device_defs.specs.Store.{is_loose, tracks_of}
use Rattle.device_core.specs.declared.device.Device.{Device}
use Rattle.device_core.specs.State.{device_of}
use Rattle.frame_pool.specs.Shared.{shared_view}
use Rattle.subsystem_core.specs.declared.subsystem.Subsystem.{Subsystem}
use Rattle.subsystem_core.specs.Devices.{device_at, numbers_of}
use Rattle.subsystem_core.specs.Ends.{where_some}
use Rattle.subsystem_defs.specs.Looks.{looked}
use Rattle.subsystem_defs.specs.Subsystem as runs
use Rattle.subsystem_defs.specs.Subsystem.{Mounted, mounted_in}
use Rattle.subsystem_laws.specs.WholeComes as laws
use Rattle.subsystem_laws.specs.WholeComes.{subsystem_of}
use Rattle.subsystem_laws.specs.Looking.{IsLooked, IsPlainly, is_written_at, look_messages}
use Rattle.subsystem_laws.proofs.looking.Hears.{look_is_heard}
use Rattle.subsystem_laws.proofs.looking.Leaves.{look_finds_plain}
use Rattle.subsystem_laws.proofs.looking.Talks.{look_so}
use Rattle.keeper_laws.specs.Quiet.{StaysQuiet}
use Rattle.keeper_laws.proofs.FirmMounts.{mounted_is_told}
use Rattle.keeper_laws.proofs.FirmNumbers.{one_look}
use Rattle.keeper_laws.proofs.FirmRuns.{firm_look}
use Rattle.keeper_laws.proofs.Mounts.{mounted_is_quiet}
use Rattle.keeper_laws.proofs.Quiet.{quiet_look}
use Rattle.keeper_laws.proofs.There.{there_look}
use Rattle.deck_run.specs.Standing.{all_stood, stood_of}
use Rattle.deck_run.proofs.Events.{HasOne, has_one}
use Rattle.deck_run.proofs.Found.{put_stood, stood_found}
use Rattle.track_looks.specs.Looking.{LooksKept}
use Rattle.track_looks.proofs.Owning.{kept_looks_own}
use Rattle.remote_copy.specs.declared.remote.Remote.{Remote}
use Rattle.remote_copy.specs.declared.remote.Remote.TheVariants.{LinkFault}
use Rattle.remote_copy.specs.declared.state.MirrorState.{MirrorState}
use Rattle.remote_copy.specs.declared.state.MirrorState.TheVariants.{Copying, Level, Suspended}
use Rattle.remote_copy.specs.Copies.{
  AnswersAs,
  AnswersBy,
  CopiedBy,
  IsFoundAs,
  IsUnchanged,
  LookedBy,
  LooksToCopy,
  PutsCopy,
  TrackAs,
  TrackBy,
  answer_put,
  behind_put,
  gets_suspended,
}
use Rattle.remote_copy.specs.Following.{Follows, IsFarFor, is_within}
use Rattle.remote_copy.specs.Linking.{IsPut, LinkView, with_put}
use Rattle.remote_copy.specs.Mirroring.{
  HasCopied,
  IsFar,
  MirrorRun,
  MirrorsAs,
  copied_to,
  is_waiting,
  mirror_copied,
  mirror_looked,
  next_track,
  waits_at,
  with_told,
}
use Rattle.remote_copy.specs.Sending.{SenderView, hears_sent, is_suspended, state_behind, takes_sent}
use Rattle.remote_copy.proofs.Copied.{copied_far, copied_fault, copied_follows, copy_follows, copy_link, or_fst, or_snd, same_ok, waits_same}
use Rattle.remote_copy.proofs.Fitting.{far_for}
use Rattle.remote_copy.proofs.Keeping.{follows, ran_sends}
use Rattle.remote_copy.proofs.Mirrors.{heard_mirrors, if_any, some_size}
use Rattle.remote_copy.proofs.Mounts.{mounted_firmly}
use Rattle.remote_copy.proofs.Puttings.{SendsAll, far_size, size_by}
use Rattle.remote_copy.proofs.Seats.{Sits, changed_sits, seat_of_own}
use Rattle.remote_copy.proofs.Sent.{copying_state}

some_same : {X : Type 0} {x y : X} → Some x ≡ Some y → x ≡ y
some_same e = cc

has_copied : (m : MirrorState) → HasCopied m true
has_copied Level = tt
has_copied (Suspended k) = tt
has_copied (Copying b) = refl

-- of a mirror whose far volume isn't a front any more
module _ {V : Type 0} {G : Ghosts V} (sub : Subsystem V G) (s : SenderView) (c : MirrorRun) where
  pub looked_since : MirrorsAs sub s c → MirrorsAs sub s (record c { copied = true })
  looked_since is = record {
    stands = is.stands;
    own = is.own;
    device = is.device;
    mounted = is.mounted;
    there = is.there;
    one = is.one;
    home = is.home;
    firm = is.firm;
    of = is.of;
    copies = has_copied s.state;
    far = is.far;
    first = λ no. absurd (cc);
    exact = λ no. absurd (cc);
  }

-- The look

module _ {V : Type 0} {G : Ghosts V} (sub new : Subsystem V G) (s z : SenderView) (t : ℕ) (f : Peeked) (c : MirrorRun) (is : MirrorsAs sub s c)
    (here : is_in s.device (numbers_of sub.devices.items) ≡ true) (lt : t < tracks_of is.mounted.device.store)
    (free : waits_at (mounted_in c.run.mounted c.device) t ≡ false) (kept : LooksKept (Heard hears_sent takes_sent) c.device t (Some f) sub s new z) where
  waits_not : is_waiting is.mounted.device.store t ≡ false
  waits_not = sym (ap (λ (o : Option Mounted). waits_at o t) is.there) ∙ free

  written_not : is_written_at is.mounted.device.store.half t ≡ false
  written_not = or_fst (is_written_at is.mounted.device.store.half t) (is_loose is.mounted.device.store t) waits_not

  loose_not : is_loose is.mounted.device.store t ≡ false
  loose_not = or_snd (is_written_at is.mounted.device.store.half t) (is_loose is.mounted.device.store t) waits_not

  ran_so : Ran (λ ok. ok ≡ true) (Heard hears_sent takes_sent) (peek contents (device_of kept.asked.before) t)
      (laws.outside_at (shared_view sub.pool) (stood_of kept.asked.before) s) (device_of kept.asked.behind) (Some f)
      (laws.outside_at (shared_view new.pool) (stood_of kept.asked.behind) z)
  ran_so =
      subst (λ (o : Option Peeked). Ran (where_some o) (Heard hears_sent takes_sent) (peek contents (device_of kept.asked.before) t)
      (laws.outside_at (shared_view sub.pool) (stood_of kept.asked.before) s) (device_of kept.asked.behind) o
      (laws.outside_at (shared_view new.pool) (stood_of kept.asked.behind) z)) kept.told_is kept.asked.is_so

  looks_so : IsLooked (looked c.run c.device t) f new.pool.pool (all_stood new.devices.items)
  looks_so =
      let ch = kept.asked in
      subst (λ (r : runs.Subsystem). IsLooked (looked r c.device t) f new.pool.pool (all_stood new.devices.items))
      (sym (ap (λ (p : pools.Pool). record { pool = p; mounted = c.run.mounted }) is.stands.pool))
      (look_so (Heard hears_sent takes_sent) sub.pool.pool new.pool.pool (all_stood sub.devices.items) (all_stood new.devices.items) c.run.mounted c.device t
      is.mounted f is.stands.mounted is.there written_not lt
      (record {
        before = stood_of ch.before;
        behind = stood_of ch.behind;
        stood = stood_found sub.devices.items c.device ch.before ch.stood;
        stands = ap all_stood ch.stands ∙ put_stood sub.devices.items c.device ch.behind;
        is_so = record {
          port = shared_view sub.pool;
          after = shared_view new.pool;
          keeper = s;
          later = z;
          pool_before = refl;
          pool_behind = refl;
          ran = ran_so;
        };
      }))

  heard_so : HeardAll (Heard hears_sent takes_sent) s (look_messages c.run c.device t) z
  heard_so =
      let ch = kept.asked in
      subst (λ (r : runs.Subsystem). HeardAll (Heard hears_sent takes_sent) s (look_messages r c.device t) z)
      (sym (ap (λ (p : pools.Pool). record { pool = p; mounted = c.run.mounted }) is.stands.pool))
      (look_is_heard (Heard hears_sent takes_sent) s z sub.pool.pool new.pool.pool (all_stood sub.devices.items) (all_stood new.devices.items) c.run.mounted
      c.device t is.mounted f is.stands.mounted is.there written_not lt
      (record {
        before = stood_of ch.before;
        behind = stood_of ch.behind;
        stood = stood_found sub.devices.items c.device ch.before ch.stood;
        stands = ap all_stood ch.stands ∙ put_stood sub.devices.items c.device ch.behind;
        is_so = record { port = shared_view sub.pool; after = shared_view new.pool; pool_before = refl; pool_behind = refl; ran = ran_so };
      }))

  sits_so : (x : Device V G) → device_at sub.devices.items s.device ≡ Some x → Sits s.device new.devices.items x
  sits_so x at =
      changed_sits s.device c.device _ sub.devices.items new.devices.items x kept.asked
      (seat_of_own kept.asked.before kept.asked.behind t kept.asked.is_so) at

  pub look_mirrors : MirrorsAs new z (mirror_looked c t)
  look_mirrors =
      looked_since new z (with_told c (look_messages c.run c.device t) (looked c.run c.device t).behind)
      (heard_mirrors sub new s z c is here (looked c.run c.device t).behind (record { pool = looks_so.left; mounted = looks_so.mounted })
      (kept_looks_own (Heard hears_sent takes_sent) c.device t (Some f) sub new s z kept is.own) (one_look c.run c.device c.device t is.one)
      (there_look c.device is.mounted c.run is.there c.device t) sits_so (look_messages c.run c.device t) heard_so
      (firm_look c.device is.mounted c.run is.there
      (mounted_is_told sub.pool.pool (all_stood sub.devices.items) c.run.mounted c.device is.mounted is.stands.mounted is.there) c.device t))

  pub look_found : (looked c.run c.device t).found ≡ f
  look_found = looks_so.found

  -- in a run the track that was found is the firm one behind the look too
  plain_so : IsPlainly is.mounted t f
  plain_so = subst (IsPlainly is.mounted t) looks_so.found (look_finds_plain c.run c.device t is.mounted is.there written_not)

  quiet_so : StaysQuiet is.mounted t (looked c.run c.device t).behind c.device
  quiet_so =
      quiet_look c.device t is.mounted c.run is.there
      (mounted_is_quiet sub.pool.pool (all_stood sub.devices.items) c.run.mounted c.device t is.mounted is.stands.mounted is.there lt loose_not written_not)
      c.device t

  image_firm : (i : Image) → f ≡ peeks.Track i → i.track ≡ track_in look_mirrors.mounted.device.store.firm t
  image_firm i e =
      let plain : i ≡ record { geometry = is.mounted.device.store.geometry; track = track_in is.mounted.device.store.plain t } =
      subst (IsPlainly is.mounted t) e plain_so in
      let q = quiet_so in
      let same : q.mounted ≡ look_mirrors.mounted = some_same (sym q.there ∙ look_mirrors.there) in
      ap (λ (j : Image). j.track) plain ∙ sym q.plain ∙ sym q.quiet.firm ∙ ap (λ (m : Mounted). track_in m.device.store.firm t) same

-- The put

module _ {V : Type 0} {G : Ghosts V} (sub : Subsystem V G) (c : MirrorRun) (since : c.copied ≡ true) (tracks t : ℕ) (x : Track) (s : SenderView) (r : Remote)
    (z : SenderView) (is : MirrorsAs sub s c) (p : PutsCopy tracks t x s r z) (long : s.link.tracks ≡ tracks)
    (size : length is.mounted.device.store.firm ≡ tracks) (lt : t < tracks) (firm : x ≡ track_in is.mounted.device.store.firm t)
    (below : (f : List Track) → s.link.far ≡ Some f → (k : ℕ) → k < t → track_in f k ≡ track_in is.mounted.device.store.firm k) where
  abbrev IsFarNow : MirrorState → Option (List Track) → Type 0
  IsFarNow m o = IfSome o (IsFar m is.mounted.device.store.firm)

  put_size_so : far_size p.put.link.far ≡ far_size s.link.far
  put_size_so = size_by p.result t x s.link.far p.put.link.far p.is.put.far

  far_length : (f : List Track) → s.link.far ≡ Some f → length f ≡ tracks
  far_length f told = subst (λ (o : Option (List Track)). IfSome o (λ g. length g ≡ s.link.tracks)) told is.of.long ∙ long

  ok_far : (o : Option (List Track)) → s.link.far ≡ o → (b : Bool) → (t + 1 == tracks) ≡ b →
      IsFarNow (if b then Level else Copying (t + 1)) (with_put t x o)
  ok_far None told b e = tt
  ok_far (Some f) told b e = copied_far f is.mounted.device.store.firm t tracks x (far_length f told) size lt (below f told) firm b e

  put_far_by : (q : Result (Unit {0}) Failed) → p.result ≡ q → IsPut q t x s.link.far p.put.link.far → IsFarNow z.state p.put.link.far
  put_far_by (Ok y) e put =
      subst (λ (m : MirrorState). IsFarNow m p.put.link.far)
      (sym (ap (λ (k : SenderView). k.state) (p.behind ∙ ap (λ q. behind_put tracks t q p.put) e)))
      (subst (λ (o : Option (List Track)). IsFarNow (copied_to tracks t) o) (sym put) (ok_far s.link.far refl (t + 1 == tracks) refl))
  put_far_by (Err why) e put =
      let on : z.state ≡ Suspended s.sent =
      ap (λ (k : SenderView). k.state) (p.behind ∙ ap (λ q. behind_put tracks t q p.put) e) ∙ p.is.state ∙ ap (state_behind s) e in
      if_any (IsFar z.state is.mounted.device.store.firm) p.put.link.far
      (λ far. subst (λ (m : MirrorState). IsFar m is.mounted.device.store.firm far) (sym on) tt)

  not_since : {P : Type 0} → c.copied ≡ false → P
  not_since off = absurd (let both : true ≡ false = sym since ∙ off in cc)

  pub put_mirrors : MirrorsAs sub z c
  put_mirrors =
      let on = copy_follows tracks t x s r z p in
      let link : z.link ≡ p.put.link = copy_link tracks t x s r z p in
      record {
        stands = is.stands;
        own = is.own;
        device = on.device ∙ is.device;
        mounted = is.mounted;
        there = is.there;
        one = is.one;
        home = is.home;
        firm = is.firm;
        of = record {
          geometry = on.geometry ∙ is.of.geometry;
          tracks = on.tracks ∙ is.of.tracks;
          long = some_size s.link.far z.link.far s.link.tracks z.link.tracks (ap (λ (v : LinkView). far_size v.far) link ∙ put_size_so) on.tracks is.of.long;
        };
        copies = subst (HasCopied z.state) (sym since) (has_copied z.state);
        far = subst (λ (v : LinkView). IsFarNow z.state v.far) (sym link) (put_far_by p.result refl p.is.put.far);
        first = λ off. not_since off;
        exact = λ off. not_since off;
      }

-- What is copied so far, behind a look in which no put failed

module _ (s z : SenderView) (t : ℕ) (next : next_track s.state ≡ Some t) (fine : gets_suspended s.state z.state ≡ false) where
  some_next : {a b : ℕ} → Some a ≡ Some b → a ≡ b
  some_next e = cc

  -- the first track, or the next one of those that are copied
  next_by : (m : MirrorState) → s.state ≡ m → {ws : _} → SendsAll s ws z → (t ≡ 0) ⊎ (z.state ≡ Copying t)
  next_by Level is sends = absurd (let no : None ≡ Some t = sym (ap next_track is) ∙ next in cc)
  next_by (Suspended k) is sends = inl (sym (some_next (sym (ap next_track is) ∙ next)))
  next_by (Copying b) is sends = by_state (copying_state b sends is).0
    where
      same : b ≡ t
      same = some_next (sym (ap next_track is) ∙ next)

      by_state : (z.state ≡ Copying b) ⊎ (z.state ≡ Suspended s.sent) → (t ≡ 0) ⊎ (z.state ≡ Copying t)
      by_state (inl e) = inr (e ∙ ap Copying same)
      by_state (inr e) =
          absurd (let yes : gets_suspended s.state z.state ≡ true =
          ap (λ (m : MirrorState). is_suspended m && not (is_suspended s.state)) e ∙ ap (λ (m : MirrorState). not (is_suspended m)) is in
          let no : true ≡ false = sym yes ∙ fine in cc)

  pub below_next : {ws : _} → SendsAll s ws z → (firm : List Track) → IfSome z.link.far (IsFar z.state firm) → (f : List Track) →
      z.link.far ≡ Some f → (k : ℕ) → k < t → track_in f k ≡ track_in firm k
  below_next sends firm far f told k lt = by_next (next_by s.state refl sends)
    where
      by_next : (t ≡ 0) ⊎ (z.state ≡ Copying t) → track_in f k ≡ track_in firm k
      by_next (inl none) = absurd (omega (arith, lt, none))
      by_next (inr on) =
          subst (λ (m : MirrorState). IsFar m firm f) on (subst (λ (o : Option (List Track)). IfSome o (IsFar z.state firm)) told far) k lt

-- A whole call

module _ {V : Type 0} {G : Ghosts V} (tracks t : ℕ) (sub new : Subsystem V G) (s z : SenderView) (c : MirrorRun) (is : MirrorsAs sub s c)
    (here : is_in s.device (numbers_of sub.devices.items) ≡ true) (lt : t < tracks) (long : s.link.tracks ≡ tracks)
    (next : next_track s.state ≡ Some t) (free : waits_at (mounted_in c.run.mounted c.device) t ≡ false) where
  below_so : t < tracks_of is.mounted.device.store
  below_so = omega (arith, lt, long, is.of.tracks)

  kept_at : (h : SenderView) (f : Peeked) → LooksKept (Heard hears_sent takes_sent) s.device t (Some f) sub s new h →
      LooksKept (Heard hears_sent takes_sent) c.device t (Some f) sub s new h
  kept_at h f k = subst (λ (n : ℕ). LooksKept (Heard hears_sent takes_sent) n t (Some f) sub s new h) is.device k

  -- what came of a track that was found
  pub record IsCopied (answer : Remote) : Type 0 where
    pub mirrors : MirrorsAs new z (mirror_looked c t)
    pub found : IsFoundAs t (looked c.run c.device t).found answer

  module _ (h : SenderView) (f : Peeked) (k : LooksKept (Heard hears_sent takes_sent) s.device t (Some f) sub s new h) where
    abbrev stood : MirrorsAs new h (mirror_looked c t)
    stood = look_mirrors sub new s h t f c is here below_so free (kept_at h f k)

    found_is : (looked c.run c.device t).found ≡ f
    found_is = look_found sub new s h t f c is here below_so free (kept_at h f k)

    plain_is : IsPlainly is.mounted t f
    plain_is = plain_so sub new s h t f c is here below_so free (kept_at h f k)

    found_as : (answer : Remote) → IsFoundAs t f answer → IsFoundAs t (looked c.run c.device t).found answer
    found_as answer so = subst (λ (p : Peeked). IsFoundAs t p answer) (sym found_is) so

    fault_as : (p : Peeked) → IsPlainly is.mounted t p → IsFoundAs t p LinkFault
    fault_as (peeks.Track i) plain = inr refl
    fault_as peeks.Lost plain = inr refl
    fault_as (peeks.Fault side) plain = inr refl
    fault_as (peeks.BadBytes side) plain = plain

    same_mirrors : z ≡ h → MirrorsAs new z (mirror_looked c t)
    same_mirrors same = subst (λ (y : SenderView). MirrorsAs new y (mirror_looked c t)) (sym same) stood

    still_long : h.link.tracks ≡ tracks
    still_long = (follows (ran_sends k.asked.is_so)).tracks ∙ long

    firm_size : length stood.mounted.device.store.firm ≡ tracks
    firm_size =
        let one = has_one sub.devices.items s.device here in
        let sits = sits_so sub new s h t f c is here below_so free (kept_at h f k) one.device one.found in
        (mounted_firmly new (looked c.run c.device t).behind c.device sits.device stood.mounted stood.stands
        (ap (device_at new.devices.items) (sym is.device) ∙ sits.found) stood.there).firm.tracks
        ∙ sym stood.of.tracks ∙ still_long

    by_found : (answer : Remote) (p : Peeked) → f ≡ p → gets_suspended s.state h.state ≡ false → AnswersBy tracks t p h answer z → IsCopied answer
    by_found answer (peeks.Track i) e fine a = record {
      mirrors = put_mirrors new (mirror_looked c t) refl tracks t i.track h answer z stood a
          still_long firm_size lt
          (image_firm sub new s h t f c is here below_so free (kept_at h f k) i e)
          (below_next s h t next fine (ran_sends k.asked.is_so).sends stood.mounted.device.store.firm stood.far);
      found = found_as answer (subst (λ (p : Peeked). IsFoundAs t p answer) (sym e) (put_as a.result a.answer));
    }
      where
        put_as : (q : Result (Unit {0}) Failed) → answer ≡ answer_put t q → IsFoundAs t (peeks.Track i) answer
        put_as (Ok y) is = inl is
        put_as (Err why) is = inr is
    by_found answer peeks.Lost e fine a = record {
      mirrors = same_mirrors a.1;
      found = found_as answer (subst (λ (p : Peeked). IsFoundAs t p answer) (sym e) (inl a.0));
    }
    by_found answer (peeks.Fault side) e fine a = record {
      mirrors = same_mirrors a.1;
      found = found_as answer (subst (λ (p : Peeked). IsFoundAs t p answer) (sym e) (inl a.0));
    }
    by_found answer (peeks.BadBytes side) e fine a = absurd (subst (IsPlainly is.mounted t) e plain_is)

    pub by_look : (failed : Bool) (answer : Remote) → gets_suspended s.state h.state ≡ failed → LookedBy tracks t failed (Some f) h (Ok answer) z →
        IsCopied answer
    by_look true answer e l = record {
      mirrors = same_mirrors l.1;
      found = found_as answer (subst (IsFoundAs t f) (sym (same_ok (Ok answer) refl l.0)) (fault_as f plain_is));
    }
    by_look false answer e l = by_found answer f refl e l.1

  looked_copy : (answer : Remote) (h : SenderView) (o : Option Peeked) → LooksKept (Heard hears_sent takes_sent) s.device t o sub s new h →
      LookedBy tracks t (gets_suspended s.state h.state) o h (Ok answer) z → IsCopied answer
  looked_copy answer h (Some f) k l = by_look h f k (gets_suspended s.state h.state) answer refl l
  looked_copy answer h None k l = absurd (l.0 refl)

  pub copy_is : (answer : Remote) → LooksToCopy tracks t sub s (Ok answer) new z → IsCopied answer
  copy_is answer l = looked_copy answer l.heard l.found l.look l.answers

-- what a call comes to, whether or not the track waits
module _ {V : Type 0} {G : Ghosts V} (sub new : Subsystem V G) (s z : SenderView) (c : MirrorRun) (is : MirrorsAs sub s c)
    (here : is_in s.device (numbers_of sub.devices.items) ≡ true) (x : Device V G) (at : device_at sub.devices.items s.device ≡ Some x)
    (long : s.link.tracks ≡ x.store.cylinders * 15) (within : (t : ℕ) → next_track s.state ≡ Some t → t < x.store.cylinders * 15) where
  pub record IsDone (next : Option ℕ) (answer : Remote) : Type 0 where
    pub mirrors : MirrorsAs new z (mirror_copied c next)
    pub answers : AnswersAs c next answer

  unchanged : IsUnchanged sub s new z → MirrorsAs new z c
  unchanged same =
      subst (λ (y : SenderView). MirrorsAs new y c) (sym same.sender) (subst (λ (u : Subsystem V G). MirrorsAs u s c) (sym same.sub) is)

  waits_run : (t : ℕ) → waits_at (mounted_in c.run.mounted c.device) t ≡ is_waiting (device_of x).store t
  waits_run t = waits_same sub c.run c.device t x is.stands (ap (device_at sub.devices.items) (sym is.device) ∙ at)

  track_done : (t : ℕ) (answer : Remote) → next_track s.state ≡ Some t → (b : Bool) → waits_at (mounted_in c.run.mounted c.device) t ≡ b →
      TrackBy (x.store.cylinders * 15) t b sub s (Ok answer) new z →
      MirrorsAs new z (if b then c else mirror_looked c t) × TrackAs c t b answer
  track_done t answer next true e d = (unchanged d.1, same_ok (Ok answer) refl d.0)
  track_done t answer next false e d =
      let so = copy_is (x.store.cylinders * 15) t sub new s z c is here (within t next) long next e answer d in (so.mirrors, so.found)

  next_done : (answer : Remote) (next : Option ℕ) → next_track s.state ≡ next →
      CopiedBy (x.store.cylinders * 15) next (is_waiting (device_of x).store) sub s (Ok answer) new z → IsDone next answer
  next_done answer None e d = record { mirrors = unchanged d.1; answers = same_ok (Ok answer) refl d.0 }
  next_done answer (Some t) e d =
      let so = track_done t answer e (waits_at (mounted_in c.run.mounted c.device) t) refl
      (subst (λ (b : Bool). TrackBy (x.store.cylinders * 15) t b sub s (Ok answer) new z) (sym (waits_run t)) d) in
      record { mirrors = so.0; answers = so.1 }

  pub copy_mirrors : (r : Result Remote NoMemory) →
      CopiedBy (x.store.cylinders * 15) (next_track s.state) (is_waiting (device_of x).store) sub s r new z →
      OnOk r (MirrorsAs new z (mirror_copied c (next_track s.state)))
  copy_mirrors (Ok answer) d = (next_done answer (next_track s.state) refl d).mirrors
  copy_mirrors (Err e) d = tt

  pub copy_answers : (r : Result Remote NoMemory) →
      CopiedBy (x.store.cylinders * 15) (next_track s.state) (is_waiting (device_of x).store) sub s r new z → IfOk r (AnswersAs c (next_track s.state))
  copy_answers (Ok answer) d = (next_done answer (next_track s.state) refl d).answers
  copy_answers (Err e) d = tt

-- The next track is one of the device

next_below : (m : MirrorState) (tracks n : ℕ) → next_track m ≡ Some n → is_within m tracks ≡ true → 0 < tracks → n < tracks
next_below Level tracks n e within some = absurd (cc)
next_below (Suspended k) tracks n e within some = let none : 0 ≡ n = some_same e in omega (arith, some, none)
next_below (Copying b) tracks n e within some = let same : b ≡ n = some_same e in let lt = ltb-true b tracks within in omega (arith, lt, same)

-- and a track's number
pub record IsNext {V : Type 0} {G : Ghosts V} (x : Device V G) (n : ℕ) : Type 0 where
  pub below : n < x.store.cylinders * 15
  pub few : n < 65535

module _ {V : Type 0} {G : Ghosts V} (sub : Subsystem V G) (s : SenderView) (here : is_in s.device (numbers_of sub.devices.items) ≡ true)
    (fits : IfSome (device_at sub.devices.items s.device) (IsFarFor s.link)) (within : is_within s.state s.link.tracks ≡ true) where
  pub next_is : (x : Device V G) → device_at sub.devices.items s.device ≡ Some x → (n : ℕ) → next_track s.state ≡ Some n → IsNext x n
  next_is x at n e =
      let f = far_for s.link sub.devices.items s.device x at fits in
      let below : n < x.store.cylinders * 15 =
      subst (λ (k : ℕ). n < k) f.1 (next_below s.state s.link.tracks n e within (omega (arith, f.1, x.store.some))) in
      record { below = below; few = omega (arith, below, x.store.most) }

  pub next_few : (n : ℕ) → next_track s.state ≡ Some n → n < 65535
  next_few n e = let one = has_one sub.devices.items s.device here in (next_is one.device one.found n e).few

-- What a call comes to, of the device that is found

module _ {V : Type 0} {G : Ghosts V} (sub new : Subsystem V G) (s z : SenderView) (here : is_in s.device (numbers_of sub.devices.items) ≡ true)
    (r : Result Remote NoMemory)
    (copied : IfSome (device_at sub.devices.items s.device)
    (λ x. CopiedBy (x.store.cylinders * 15) (next_track s.state) (is_waiting (device_of x).store) sub s r new z)) where
  abbrev one : HasOne sub.devices.items s.device
  one = has_one sub.devices.items s.device here

  done : CopiedBy (one.device.store.cylinders * 15) (next_track s.state) (is_waiting (device_of one.device).store) sub s r new z
  done =
      subst (λ (o : Option (Device V G)). IfSome o (λ x. CopiedBy (x.store.cylinders * 15) (next_track s.state) (is_waiting (device_of x).store) sub s r new z))
      one.found copied

  pub all_follow : Follows s z
  all_follow = copied_follows (one.device.store.cylinders * 15) (next_track s.state) (is_waiting (device_of one.device).store) sub s r new z done

  pub all_fault : r ≡ Ok LinkFault → Rose s.link.faults z.link.faults × (is_suspended z.state ≡ true)
  all_fault is = copied_fault (one.device.store.cylinders * 15) (next_track s.state) (is_waiting (device_of one.device).store) sub s r new z done is

  module _ (c : MirrorRun) (is : MirrorsAs sub s c) (fits : IfSome (device_at sub.devices.items s.device) (IsFarFor s.link))
      (within : is_within s.state s.link.tracks ≡ true) where
    long : s.link.tracks ≡ one.device.store.cylinders * 15
    long = (far_for s.link sub.devices.items s.device one.device one.found fits).1

    below : (t : ℕ) → next_track s.state ≡ Some t → t < one.device.store.cylinders * 15
    below t e = (next_is sub s here fits within one.device one.found t e).below

    pub all_mirrors : OnOk r (MirrorsAs new z (mirror_copied c (next_track s.state)))
    all_mirrors = copy_mirrors sub new s z c is here one.device one.found long below r done

    pub all_answer : IfOk r (AnswersAs c (next_track s.state))
    all_answer = copy_answers sub new s z c is here one.device one.found long below r done
