-- A mirror that begins stands over a run, and stands over it behind each event and order.
use Rattle.std.proofs.Common.{◌≡◌, ◌∙◌, ◌*◌, ◌⊎◌, inl, inr, ℕ, Bool, true, List, [], ◌++◌, length, Option, Some, None, option_map, Result, Ok, Err, refl, sym, ap, subst, arith}
use Rattle.std.specs.Prelude.{IfOk, IfSome, IsOk, OnErr, OnOk}
use Rattle.ckd_types.specs.declared.paths.Side.{Side}
use Rattle.ckd_types.specs.declared.record.Track.{Track}
use Rattle.track_image.specs.Image.{Image}
use Rattle.device_outside.specs.declared.volume.Volume.{Ghosts}
use Rattle.device_outside.specs.Hears.{HeardAll}
use Rattle.device_outside.specs.Keeper.{Heard, Message}
use Rattle.device_outside.specs.Lists.{is_in}
use Rattle.device_core.specs.declared.device.Device.{Device}
use Rattle.subsystem_core.specs.declared.end.EventEnd as ends
use Rattle.subsystem_core.specs.declared.subsystem.Subsystem.{Subsystem}
use Rattle.subsystem_core.specs.Comes.{AreStill, Replaced, Unpaired}
use Rattle.subsystem_core.specs.Devices.{device_at, numbers_of}
use Rattle.subsystem_defs.specs.declared.event.Event.{Event}
use Rattle.subsystem_defs.specs.Happening.{happens, replaced, unpaired}
use Rattle.subsystem_defs.specs.Subsystem as runs
use Rattle.subsystem_defs.specs.Subsystem.{Mounted, mounted_in, unfailing}
use Rattle.keeper_laws.specs.Firmness.{IsFirm, has_one, told_firm}
use Rattle.keeper_laws.specs.Messages.{event_messages}
use Rattle.keeper_laws.specs.Quiet.{StaysThere}
use Rattle.keeper_laws.proofs.FirmMounts.{mounted_is_told}
use Rattle.keeper_laws.proofs.FirmNumbers.{one_event}
use Rattle.keeper_laws.proofs.FirmRuns.{firm_event, firm_replaced, firm_unpaired}
use Rattle.keeper_laws.proofs.There.{there_event, there_replaced, there_unpaired}
use Rattle.deck_run.specs.Owning.{AreOwn}
use Rattle.deck_run.specs.Standing.{StandsAs, all_stood}
use Rattle.deck_run.proofs.Events as events
use Rattle.line_drive.specs.Driven.{Comes, Replaces, Unpairs}
use Rattle.remote_copy.specs.declared.state.MirrorState.{MirrorState}
use Rattle.remote_copy.specs.declared.state.MirrorState.TheVariants.{Copying, Level, Suspended}
use Rattle.remote_copy.specs.Following.{IsFarFor}
use Rattle.remote_copy.specs.Linking.{LinkView, PutCalls}
use Rattle.remote_copy.specs.Mirroring.{HasCopied, IsFar, MirrorRun, MirrorsAs, mirror_begun, mirror_did, with_told}
use Rattle.firm_laws.specs.FirmWrites.{FirmWrite, firms_in}
use Rattle.remote_copy.specs.Sending.{IsLevelled, IsReached, SenderView, hears_sent, is_suspended, put_all, takes_sent}
use Rattle.remote_copy.proofs.Fitting.{far_for}
use Rattle.remote_copy.proofs.Mounts.{home_so, mounted_firmly, one_mounted}
use Rattle.remote_copy.proofs.Puttings.{SendsAll, far_size, heard_sends, put_all_more, stays, told_is_put}
use Rattle.remote_copy.proofs.Reached.{reaches}
use Rattle.remote_copy.proofs.Seats.{Sits, replaced_sits, still_sits, unpaired_sits}
use Rattle.remote_copy.proofs.Sent.{CopiesOn, PutsAll, StopsAt, copying, copying_state, level, levelled, none_stays, suspended_same}

some_same : {X : Type 0} {x y : X} → Some x ≡ Some y → x ≡ y
some_same e = cc

-- Lists that are told are as long as they were

pub some_size : {X : Type 0} (o q : Option (List X)) (n k : ℕ) → option_map (λ (f : List X). length f) q ≡ option_map (λ (f : List X). length f) o → k ≡ n →
    IfSome o (λ f. length f ≡ n) → IfSome q (λ f. length f ≡ k)
some_size None None n k same is size = tt
some_size None (Some g) n k same is size = absurd (cc)
some_size (Some f) None n k same is size = tt
some_size (Some f) (Some g) n k same is size = some_same same ∙ size ∙ sym is

-- The far volume behind firm writes

-- where what is asked of it is nothing
pub if_any : {X : Type 0} (p : X → Type 0) (o : Option X) → ((x : X) → p x) → IfSome o p
if_any p None all = tt
if_any p (Some x) all = all x

if_told : {X : Type 0} (p : X → Type 0) (o : Option X) (x : X) → o ≡ Some x → p x → IfSome o p
if_told {X = X} p o x is so = subst (λ (q : Option X). IfSome q p) (sym is) so

at_told : {X : Type 0} (p : X → Type 0) (o : Option X) (x : X) → o ≡ Some x → IfSome o p → p x
at_told {X = X} p o x is so = subst (λ (q : Option X). IfSome q p) is so

module _ (s z : SenderView) (ws : List FirmWrite) (firm : List Track) (sends : SendsAll s ws z) where
  suspended_far : (k : ℕ) → z.state ≡ Suspended k → IfSome z.link.far (IsFar z.state (put_all ws firm))
  suspended_far k is =
      if_any (IsFar z.state (put_all ws firm)) z.link.far (λ far. subst (λ (m : MirrorState). IsFar m (put_all ws firm) far) (sym is) tt)

  level_far : (f : List Track) → s.link.far ≡ Some f → f ≡ firm → PutsAll ws s z ⊎ StopsAt ws s z → IfSome z.link.far (IsFar z.state (put_all ws firm))
  level_far f told same (inl all) =
      if_told (IsFar z.state (put_all ws firm)) z.link.far (put_all ws f) (all.far ∙ ap (option_map (put_all ws)) told)
      (subst (λ (m : MirrorState). IsFar m (put_all ws firm) (put_all ws f)) (sym all.state) (ap (put_all ws) same))
  level_far f told same (inr at) = suspended_far z.sent at.state

  copying_far : (b : ℕ) → CopiesOn b ws firm z ⊎ (z.state ≡ Suspended s.sent) → IfSome z.link.far (IsFar z.state (put_all ws firm))
  copying_far b (inl on) =
      if_told (IsFar z.state (put_all ws firm)) z.link.far on.far on.told
      (subst (λ (m : MirrorState). IsFar m (put_all ws firm) on.far) (sym on.state) on.alike)
  copying_far b (inr is) = suspended_far s.sent is

  told_far : (f : List Track) (m : MirrorState) → s.link.far ≡ Some f → length f ≡ length firm → s.state ≡ m → IsFar m firm f →
      IfSome z.link.far (IsFar z.state (put_all ws firm))
  told_far f Level told size is far = level_far f told far (level sends is)
  told_far f (Suspended k) told size is far =
      suspended_far k (ap (λ (y : SenderView). y.state) (suspended_same sends (ap is_suspended is)) ∙ is)
  told_far f (Copying b) told size is far = copying_far b (copying b f firm sends is told size far)

  -- where it is told, it is as it should be
  pub far_behind : (o : Option (List Track)) → s.link.far ≡ o → IfSome o (λ f. length f ≡ length firm) → IfSome o (IsFar s.state firm) →
      IfSome z.link.far (IsFar z.state (put_all ws firm))
  far_behind None told size far =
      subst (λ (o : Option (List Track)). IfSome o (IsFar z.state (put_all ws firm))) (sym (none_stays z.link.far ((stays sends).size ∙ ap far_size told))) tt
  far_behind (Some f) told size far = told_far f s.state told size refl far

  copied_by : (copied : Bool) (m : MirrorState) → s.state ≡ m → HasCopied m copied → HasCopied z.state copied
  copied_by copied Level is has = level_copied (level sends is)
    where
      level_copied : PutsAll ws s z ⊎ StopsAt ws s z → HasCopied z.state copied
      level_copied (inl all) = subst (λ (m : MirrorState). HasCopied m copied) (sym all.state) tt
      level_copied (inr at) = subst (λ (m : MirrorState). HasCopied m copied) (sym at.state) tt
  copied_by copied (Suspended k) is has =
      subst (λ (m : MirrorState). HasCopied m copied) (sym (ap (λ (y : SenderView). y.state) (suspended_same sends (ap is_suspended is)) ∙ is)) tt
  copied_by copied (Copying b) is has = copying_copied (copying_state b sends is).0
    where
      copying_copied : (z.state ≡ Copying b) ⊎ (z.state ≡ Suspended s.sent) → HasCopied z.state copied
      copying_copied (inl e) = subst (λ (m : MirrorState). HasCopied m copied) (sym e) has
      copying_copied (inr e) = subst (λ (m : MirrorState). HasCopied m copied) (sym e) tt

  pub copied_behind : (copied : Bool) → HasCopied s.state copied → HasCopied z.state copied
  copied_behind copied has = copied_by copied s.state refl has

  pub long_behind : IfSome s.link.far (λ f. length f ≡ s.link.tracks) → IfSome z.link.far (λ f. length f ≡ z.link.tracks)
  long_behind size = let st = stays sends in some_size s.link.far z.link.far s.link.tracks z.link.tracks st.size st.tracks size

  reached_some : (p : PutCalls) (fs : List FirmWrite) (start : List Track) (o : Option (List Track)) → s.link.far ≡ o →
      IfSome o (λ far. IsReached p fs start s) → IfSome z.link.far (λ far. IsReached p (fs ++ ws) start z)
  reached_some p fs start None told is =
      subst (λ (o : Option (List Track)). IfSome o (λ far. IsReached p (fs ++ ws) start z))
      (sym (none_stays z.link.far ((stays sends).size ∙ ap far_size told))) tt
  reached_some p fs start (Some f) told is =
      if_any (λ far. IsReached p (fs ++ ws) start z) z.link.far (λ far. reaches p fs start sends is)

  pub exact_behind : (o : Option PutCalls) (fs : List FirmWrite) (start : List Track) →
      IfSome o (λ p. IfSome s.link.far (λ far. IsReached p fs start s)) → IfSome o (λ p. IfSome z.link.far (λ far. IsReached p (fs ++ ws) start z))
  exact_behind None fs start is = tt
  exact_behind (Some p) fs start is = reached_some p fs start s.link.far refl is

far_as_long : (o : Option (List Track)) (n k : ℕ) → n ≡ k → IfSome o (λ f. length f ≡ n) → IfSome o (λ f. length f ≡ k)
far_as_long None n k is size = tt
far_as_long (Some f) n k is size = size ∙ is

pub event_ends : {X E : Type 0} (A : X → Type 0) (B : Type 0) (r : Result X E) → IfOk r (λ end. A end × B) → IfOk r A
event_ends A B (Ok end) happened = happened.0
event_ends A B (Err why) happened = tt

-- At the beginning

begun_far : (o : Option (List Track)) (firm : List Track) → IfSome o (λ far. far ≡ firm) → IfSome o (IsFar Level firm)
begun_far None firm is = tt
begun_far (Some far) firm is = is

begun_long : (o : Option (List Track)) (firm : List Track) (n : ℕ) → length firm ≡ n → IfSome o (λ far. far ≡ firm) → IfSome o (λ far. length far ≡ n)
begun_long None firm n long is = tt
begun_long (Some far) firm n long is = ap (λ (l : List Track). length l) is ∙ long

begun_first : (o : Option (List Track)) (firm : List Track) → IfSome o (λ far. far ≡ firm) → IfSome o (IsLevelled [] firm Level 0)
begun_first None firm is = tt
begun_first (Some far) firm is = (is, omega arith)

begun_reached : (p q : PutCalls) (s : SenderView) (firm : List Track) (o : Option (List Track)) → s.state ≡ Level → s.sent ≡ 0 → s.link.calls ≡ Some q →
    p ≡ q → s.link.far ≡ o → IfSome o (λ far. far ≡ firm) → IfSome o (λ far. IsReached p [] firm s)
begun_reached p q s firm None on none calls same told is = tt
begun_reached p q s firm (Some far) on none calls same told is = record {
  far = told ∙ ap Some is;
  sent = none ∙ omega arith;
  state = (on, calls ∙ ap Some (sym same));
}

begun_exact : (s : SenderView) (firm : List Track) (o : Option PutCalls) → s.state ≡ Level → s.sent ≡ 0 → s.link.calls ≡ o →
    IfSome s.link.far (λ far. far ≡ firm) → IfSome o (λ p. IfSome s.link.far (λ far. IsReached p [] firm s))
begun_exact s firm None on none calls is = tt
begun_exact s firm (Some p) on none calls is = begun_reached p p s firm s.link.far on none calls refl refl is

-- Behind something in which the sender was told this

module _ {V : Type 0} {G : Ghosts V} where
  -- the firm volume is as long as the device
  firm_long : (sub : Subsystem V G) (run : runs.Subsystem) (n : ℕ) (m : Mounted) → is_in n (numbers_of sub.devices.items) ≡ true → StandsAs sub run →
      mounted_in run.mounted n ≡ Some m → length m.device.store.firm ≡ m.device.store.cylinders * 15
  firm_long sub run n m here stands there =
      let one = events.has_one sub.devices.items n here in (mounted_firmly sub run n one.device m stands one.found there).firm.tracks

  module _ (sub new : Subsystem V G) (s z : SenderView) (c : MirrorRun) (is : MirrorsAs sub s c) (here : is_in s.device (numbers_of sub.devices.items) ≡ true)
      (next : runs.Subsystem) (stands : StandsAs new next) (own : AreOwn new.devices.items) (one : has_one c.device next.mounted ≡ true)
      (there : StaysThere is.mounted next c.device)
      (sits : (x : Device V G) → device_at sub.devices.items s.device ≡ Some x → Sits s.device new.devices.items x) where
    here_at : is_in c.device (numbers_of sub.devices.items) ≡ true
    here_at = ap (λ (n : ℕ). is_in n (numbers_of sub.devices.items)) (sym is.device) ∙ here

    home_behind : there.mounted.device.store.lent ≡ None
    home_behind =
        home_so sub new c.run next c.device is.mounted there.mounted here_at is.stands is.there is.home stands there.there
        (subst (λ (n : ℕ). (x : Device V G) → device_at sub.devices.items n ≡ Some x → Sits n new.devices.items x) is.device sits)

    pub heard_mirrors : (ms : List (Message Image)) → HeardAll (Heard hears_sent takes_sent) s ms z →
        IsFirm (told_firm c.device ms is.mounted.device.store.firm) next c.device → MirrorsAs new z (with_told c ms next)
    heard_mirrors ms heard firm =
        let ws = firms_in c.device ms in
        let sends : SendsAll s ws z = subst (λ (n : ℕ). SendsAll s (firms_in n ms) z) is.device (heard_sends heard) in
        let st = stays sends in
        let same : firm.mounted ≡ there.mounted = some_same (sym firm.there ∙ there.there) in
        let told : there.mounted.device.store.firm ≡ put_all ws is.mounted.device.store.firm =
        ap (λ (m : Mounted). m.device.store.firm) (sym same) ∙ firm.firm ∙ told_is_put c.device ms is.mounted.device.store.firm in
        let long : s.link.tracks ≡ length is.mounted.device.store.firm =
        is.of.tracks ∙ sym (firm_long sub c.run c.device is.mounted here_at is.stands is.there) in
        record {
          stands = stands;
          own = own;
          device = st.device ∙ is.device;
          mounted = there.mounted;
          there = there.there;
          one = one;
          home = home_behind;
          firm = told ∙ ap (put_all ws) is.firm ∙ sym (put_all_more c.firms ws c.start);
          of = record {
            geometry = st.geometry ∙ is.of.geometry ∙ sym there.geometry;
            tracks = st.tracks ∙ is.of.tracks ∙ ap (λ (n : ℕ). n * 15) (sym there.cylinders);
            long = long_behind s z ws is.mounted.device.store.firm sends is.of.long;
          };
          copies = copied_behind s z ws is.mounted.device.store.firm sends c.copied is.copies;
          far = subst (λ (v : List Track). IfSome z.link.far (IsFar z.state v)) (sym told)
              (far_behind s z ws is.mounted.device.store.firm sends s.link.far refl
              (far_as_long s.link.far s.link.tracks (length is.mounted.device.store.firm) long is.of.long) is.far);
          first = λ no. levelled c.firms c.start sends (is.first no);
          exact = λ no. exact_behind s z ws is.mounted.device.store.firm sends c.calls c.firms c.start (is.exact no);
        }

    -- or nothing was told, and the firm volume is as it was
    pub still_mirrors : IsFirm is.mounted.device.store.firm next c.device → MirrorsAs new s (record c { run = next })
    still_mirrors firm =
        let same : firm.mounted ≡ there.mounted = some_same (sym firm.there ∙ there.there) in
        let told : there.mounted.device.store.firm ≡ is.mounted.device.store.firm = ap (λ (m : Mounted). m.device.store.firm) (sym same) ∙ firm.firm in
        record {
          stands = stands;
          own = own;
          device = is.device;
          mounted = there.mounted;
          there = there.there;
          one = one;
          home = home_behind;
          firm = told ∙ is.firm;
          of = record {
            geometry = is.of.geometry ∙ sym there.geometry;
            tracks = is.of.tracks ∙ ap (λ (n : ℕ). n * 15) (sym there.cylinders);
            long = is.of.long;
          };
          copies = is.copies;
          far = subst (λ (v : List Track). IfSome s.link.far (IsFar s.state v)) (sym told) is.far;
          first = is.first;
          exact = is.exact;
        }

  -- Events

  module _ {X E : Type 0} (sub new : Subsystem V G) (s z : SenderView) (c : MirrorRun) (is : MirrorsAs sub s c)
      (here : is_in s.device (numbers_of sub.devices.items) ≡ true)
      (sits : (x : Device V G) → device_at sub.devices.items s.device ≡ Some x → Sits s.device new.devices.items x) where
    pub event_mirrors : (A : X → Type 0) (e : Event) (r : Result X E) → OnOk r (AreOwn new.devices.items) →
        IfOk r (λ end. A end × StandsAs new (happens c.run e).behind) → OnOk r (HeardAll (Heard hears_sent takes_sent) s (event_messages c.run e) z) →
        OnOk r (MirrorsAs new z (mirror_did c (Comes e)))
    event_mirrors A e (Ok end) own happened heard =
        heard_mirrors sub new s z c is here (happens c.run e).behind happened.1 own (one_event c.run c.device e is.one)
        (there_event c.device is.mounted c.run is.there e) sits (event_messages c.run e) heard
        (firm_event c.device is.mounted c.run is.there
        (mounted_is_told sub.pool.pool (all_stood sub.devices.items) c.run.mounted c.device is.mounted is.stands.mounted is.there) is.one e)
    event_mirrors A e (Err why) own happened heard = tt

  -- Orders

  -- exactly one device still has the number
  one_behind : (new : Subsystem V G) (next : runs.Subsystem) (n k : ℕ) → is_in n (numbers_of new.devices.items) ≡ true → n ≡ k → StandsAs new next →
      has_one k next.mounted ≡ true
  one_behind new next n k here same stands = one_mounted new next k (ap (λ (m : ℕ). is_in m (numbers_of new.devices.items)) (sym same) ∙ here) stands

  module _ {X E : Type 0} (sub new : Subsystem V G) (s : SenderView) (c : MirrorRun) (is : MirrorsAs sub s c)
      (here : is_in s.device (numbers_of sub.devices.items) ≡ true) (numbers : numbers_of new.devices.items ≡ numbers_of sub.devices.items) where
    pub replace_mirrors : (A : X → Type 0) (d : ℕ) (side : Side) (r : Result X E) → OnOk r (AreOwn new.devices.items) →
        IfOk r (λ end. (x : Device V G) → device_at sub.devices.items s.device ≡ Some x → Sits s.device new.devices.items x) →
        IfOk r (λ end. A end × StandsAs new (replaced c.run d side unfailing).behind) → OnOk r (MirrorsAs new s (mirror_did c (Replaces d side)))
    replace_mirrors A d side (Ok end) own sits happened =
        still_mirrors sub new s s c is here (replaced c.run d side unfailing).behind happened.1 own
        (one_behind new (replaced c.run d side unfailing).behind s.device c.device (ap (is_in s.device) numbers ∙ here) is.device happened.1)
        (there_replaced c.device is.mounted c.run is.there d side unfailing) sits
        (firm_replaced c.device is.mounted c.run is.there
        (mounted_is_told sub.pool.pool (all_stood sub.devices.items) c.run.mounted c.device is.mounted is.stands.mounted is.there) d side unfailing)
    replace_mirrors A d side (Err why) own sits happened = tt

    pub unpair_mirrors : (A : X → Type 0) (a : ℕ) (r : Result X E) → OnOk r (AreOwn new.devices.items) →
        IfOk r (λ end. (x : Device V G) → device_at sub.devices.items s.device ≡ Some x → Sits s.device new.devices.items x) →
        IfOk r (λ end. A end × StandsAs new (unpaired c.run a unfailing).behind) → OnOk r (MirrorsAs new s (mirror_did c (Unpairs a)))
    unpair_mirrors A a (Ok end) own sits happened =
        still_mirrors sub new s s c is here (unpaired c.run a unfailing).behind happened.1 own
        (one_behind new (unpaired c.run a unfailing).behind s.device c.device (ap (is_in s.device) numbers ∙ here) is.device happened.1)
        (there_unpaired c.device is.mounted c.run is.there a unfailing) sits
        (firm_unpaired c.device is.mounted c.run is.there
        (mounted_is_told sub.pool.pool (all_stood sub.devices.items) c.run.mounted c.device is.mounted is.stands.mounted is.there) is.home a unfailing)
    unpair_mirrors A a (Err why) own sits happened = tt

  -- What the results of orders leave of a device

  abbrev AllSit : ℕ → Subsystem V G → Subsystem V G → Type 0
  AllSit n old new = (x : Device V G) → device_at old.devices.items n ≡ Some x → Sits n new.devices.items x

  module _ {E : Type 0} (n : ℕ) (old new : Subsystem V G) where
    pub replaced_sitting : (d : ℕ) (side : Side) (volume : V) (o : Option (Device V G)) (r : Result ends.EventEnd E) →
        IfOk r (λ end. Replaced d side volume o old end new) → IfOk r (λ end. AllSit n old new)
    replaced_sitting d side volume o (Ok end) came = λ x at. replaced_sits n old new x at d side volume o end came
    replaced_sitting d side volume o (Err why) came = tt

    pub replaced_all : (d : ℕ) (side : Side) (volume : V) (o : Option (Device V G)) (r : Result ends.EventEnd E) → IsOk r →
        IfOk r (λ end. Replaced d side volume o old end new) → AllSit n old new
    replaced_all d side volume o (Ok end) had came = λ x at. replaced_sits n old new x at d side volume o end came
    replaced_all d side volume o (Err why) had came = absurd (cc)

    pub unpaired_sitting : (a : ℕ) (volume : V) (o : Option (Device V G)) (r : Result ends.EventEnd E) →
        IfOk r (λ end. Unpaired a volume o old end new) → IfOk r (λ end. AllSit n old new)
    unpaired_sitting a volume o (Ok end) came = λ x at. unpaired_sits n old new x at a volume o end came
    unpaired_sitting a volume o (Err why) came = tt

    pub unpaired_all : (a : ℕ) (volume : V) (o : Option (Device V G)) (r : Result ends.EventEnd E) →
        IfOk r (λ end. Unpaired a volume o old end new) → OnErr r ((new.pool ≡ old.pool) × AreStill old.devices.items new.devices.items) → AllSit n old new
    unpaired_all a volume o (Ok end) came lacked = λ x at. unpaired_sits n old new x at a volume o end came
    unpaired_all a volume o (Err why) came lacked = λ x at. still_sits n old.devices.items new.devices.items x lacked.1 at

  -- The beginning

  pub begun_mirrors : (sub : Subsystem V G) (run : runs.Subsystem) (d : ℕ) (m : Mounted) (v : LinkView) → is_in d (numbers_of sub.devices.items) ≡ true →
      IfSome (device_at sub.devices.items d) (λ x. x.store.pair.lent ≡ None) → IfSome (device_at sub.devices.items d) (IsFarFor v) →
      StandsAs sub run → AreOwn sub.devices.items → mounted_in run.mounted d ≡ Some m → IfSome v.far (λ far. far ≡ m.device.store.firm) →
      MirrorsAs sub (record { device = d; sent = 0; state = Level; link = v }) (mirror_begun run d m.device.store.firm v.calls)
  begun_mirrors sub run d m v here home fits stands own there same =
      let one = events.has_one sub.devices.items d here in
      let is = mounted_firmly sub run d one.device m stands one.found there in
      let f : IsFarFor v one.device = far_for v sub.devices.items d one.device one.found fits in
      let s : SenderView = record { device = d; sent = 0; state = Level; link = v } in
      record {
        stands = stands;
        own = own;
        device = refl;
        mounted = m;
        there = there;
        one = one_mounted sub run d here stands;
        home = is.lent ∙ subst (λ (o : Option (Device V G)). IfSome o (λ x. x.store.pair.lent ≡ None)) one.found home;
        firm = refl;
        of = record {
          geometry = f.0 ∙ sym is.geometry;
          tracks = f.1 ∙ ap (λ (n : ℕ). n * 15) (sym is.cylinders);
          long = begun_long v.far m.device.store.firm v.tracks (is.firm.tracks ∙ ap (λ (n : ℕ). n * 15) is.cylinders ∙ sym f.1) same;
        };
        copies = tt;
        far = begun_far v.far m.device.store.firm same;
        first = λ no. begun_first v.far m.device.store.firm same;
        exact = λ no. begun_exact s m.device.store.firm v.calls refl refl refl same;
      }
