-- A copy of a track: what it makes of the sender, and that the mirror stands over the run behind the look.
use Rattle.std.proofs.Common.{◌≡◌, ◌≢◌, ◌∙◌, ◌≤◌, ◌<◌, ◌+◌, ◌*◌, ◌==◌, ◌||◌, ◌&&◌, ◌⊎◌, inl, inr, ℕ, Bool, true, false, List, length, length-set, get_or, set, get_or-set_same, get_or-set_other, Option, Some, None, Result, Ok, Err, not, refl, sym, ap, subst, arith}
use Rattle.std.specs.Prelude.{IfSome, IsOk, OnErr, if◌then◌else◌}
use Rattle.std.proofs.lemmas.Bool.{cases_eq, cases_lt, eqb-true}
use Rattle.std.proofs.lemmas.Bool.Decides.{nat_tests}
use Rattle.std.proofs.lemmas.List.{get_or_default, same_lists}
use Rattle.ckd_types.specs.declared.memory.NoMemory.{NoMemory}
use Rattle.ckd_types.specs.declared.record.Track.{Track}
use Rattle.ckd_types.specs.Track.{empty_track}
use Rattle.ckd_types.specs.Volume.{track_in}
use Rattle.ckd_outside.specs.declared.faults.Failed.{Failed}
use Rattle.ckd_outside.specs.Causes.{Rose}
use Rattle.device_outside.specs.declared.volume.Volume.{Ghosts}
use Rattle.device_outside.specs.Lists.{is_in}
use Rattle.device_defs.specs.Peek as peeks
use Rattle.device_defs.specs.Peek.{Peeked, peek}
use Rattle.device_defs.specs.Store.{is_loose}
use Rattle.device_store.specs.declared.store.Peeked as looks
use Rattle.device_store.specs.Looks.{peeked_by}
use Rattle.device_store.specs.State.{state_of}
use Rattle.device_core.specs.declared.device.Device.{Device}
use Rattle.device_core.specs.State.{device_of}
use Rattle.subsystem_core.specs.declared.subsystem.Subsystem.{Subsystem}
use Rattle.subsystem_core.specs.Devices.{device_at, numbers_of}
use Rattle.subsystem_defs.specs.Subsystem as runs
use Rattle.subsystem_defs.specs.Subsystem.{Mounted, mounted_in}
use Rattle.subsystem_laws.specs.Looking.{is_written_at}
use Rattle.subsystem_laws.proofs.looking.Talks.{marked_same}
use Rattle.deck_run.specs.Standing.{StandsAs, all_stood}
use Rattle.deck_run.proofs.Telling.{all_known, known_at}
use Rattle.remote_copy.specs.declared.remote.Remote.{Remote}
use Rattle.remote_copy.specs.declared.remote.Remote.TheVariants.{BadBytes, Copied, Fault, Idle, LinkFault, Lost, Waits}
use Rattle.remote_copy.specs.declared.state.MirrorState.{MirrorState}
use Rattle.remote_copy.specs.declared.state.MirrorState.TheVariants.{Copying, Level}
use Rattle.remote_copy.specs.Copies.{AnswersBy, CopiedBy, LookedBy, LooksToCopy, MayPut, PutsCopy, TrackBy, answer_put, behind_put, gets_suspended}
use Rattle.remote_copy.specs.Following.{Follows, IsFarFor, is_within}
use Rattle.remote_copy.specs.Linking.{LinkView}
use Rattle.remote_copy.specs.Mirroring.{IsFar, copied_to, is_waiting, waits_at}
use Rattle.remote_copy.specs.Sending.{SenderView, is_suspended, state_behind}
use Rattle.remote_copy.proofs.Fitting.{far_for, follows_fits}
use Rattle.remote_copy.proofs.Keeping.{SendsSome, follows, ran_sends}
use Rattle.remote_copy.proofs.Seats.{sits_still}

pub either : {P : Type 0} (b : Bool) → (b ≡ true → P) → (b ≡ false → P) → P
either true x y = x refl
either false x y = y refl

pub same_ok : {X E : Type 0} {x y : X} (r : Result X E) → r ≡ Ok x → r ≡ Ok y → x ≡ y
same_ok r e f = cc

-- The put of a copy

pub set_to : (put new : SenderView) (m k : MirrorState) → new ≡ record put { state = m } → m ≡ k → new ≡ record put { state = k }
set_to put new m k is same = is ∙ ap (λ (n : MirrorState). record put { state = n }) same

-- the sender keeps its device, and the link its sizes
module _ (tracks t : ℕ) (r : Result (Unit {0}) Failed) where
  put_device : (s : SenderView) → (behind_put tracks t r s).device ≡ s.device
  put_device s = by_result r
    where
      by_result : (q : Result (Unit {0}) Failed) → (behind_put tracks t q s).device ≡ s.device
      by_result (Ok y) = refl
      by_result (Err e) = refl

  put_link : (s : SenderView) → (behind_put tracks t r s).link ≡ s.link
  put_link s = by_result r
    where
      by_result : (q : Result (Unit {0}) Failed) → (behind_put tracks t q s).link ≡ s.link
      by_result (Ok y) = refl
      by_result (Err e) = refl

free_if : (tracks t : ℕ) (b : Bool) → is_suspended (if b then Level else Copying (t + 1)) ≡ false
free_if tracks t true = refl
free_if tracks t false = refl

-- a state that a copy leads to isn't suspended
copied_free : (tracks t : ℕ) → is_suspended (copied_to tracks t) ≡ false
copied_free tracks t = free_if tracks t (t + 1 == tracks)

module _ (tracks t : ℕ) (x : Track) (old : SenderView) (r : Remote) (new : SenderView) (p : PutsCopy tracks t x old r new) where
  pub copy_device : new.device ≡ old.device
  copy_device = ap (λ (s : SenderView). s.device) p.behind ∙ put_device tracks t p.result p.put ∙ p.is.device

  pub copy_link : new.link ≡ p.put.link
  copy_link = ap (λ (s : SenderView). s.link) p.behind ∙ put_link tracks t p.result p.put

  copy_later : old.link.faults ≤ new.link.faults
  copy_later = subst (λ (v : LinkView). old.link.faults ≤ v.faults) (sym copy_link) p.is.put.cause.later

  cause_by : (q : Result (Unit {0}) Failed) → p.result ≡ q → is_suspended new.state ≡ true → Rose old.link.faults new.link.faults
  cause_by (Ok y) is on =
      absurd (let off : is_suspended new.state ≡ false =
      ap (λ (s : SenderView). is_suspended s.state) (p.behind ∙ ap (λ q. behind_put tracks t q p.put) is) ∙ copied_free tracks t in
      let no : true ≡ false = sym on ∙ off in cc)
  cause_by (Err e) is on =
      subst (λ (v : LinkView). Rose old.link.faults v.faults) (sym copy_link)
      (failed_so p.result is p.is.put.cause.failed)
    where
      failed_so : (q : Result (Unit {0}) Failed) → q ≡ Err e → OnErr q (Rose old.link.faults p.put.link.faults) → Rose old.link.faults p.put.link.faults
      failed_so (Ok y) off rose = absurd (cc)
      failed_so (Err f) off rose = rose

  pub copy_follows : Follows old new
  copy_follows = record {
    device = copy_device;
    geometry = ap (λ (v : LinkView). v.geometry) copy_link ∙ p.is.put.geometry;
    tracks = ap (λ (v : LinkView). v.tracks) copy_link ∙ p.is.put.tracks;
    later = copy_later;
    cause = λ on off. cause_by p.result refl on;
  }

  -- a put that failed suspends
  fault_by : (q : Result (Unit {0}) Failed) → p.result ≡ q → r ≡ LinkFault → is_suspended new.state ≡ true
  fault_by (Ok y) is fault = absurd (let no : Copied t ≡ LinkFault = sym (p.answer ∙ ap (answer_put t) is) ∙ fault in cc)
  fault_by (Err e) is fault =
      ap (λ (s : SenderView). is_suspended s.state) (p.behind ∙ ap (λ q. behind_put tracks t q p.put) is)
      ∙ ap is_suspended (p.is.state ∙ ap (state_behind old) is)

  pub copy_fault : r ≡ LinkFault → is_suspended new.state ≡ true
  copy_fault fault = fault_by p.result refl fault

  within_by : (q : Result (Unit {0}) Failed) → p.result ≡ q → t < tracks → (b : Bool) → (t + 1 == tracks) ≡ b → is_within new.state tracks ≡ true
  within_by (Ok y) is lt b e =
      ap (λ (s : SenderView). is_within s.state tracks) (p.behind ∙ ap (λ q. behind_put tracks t q p.put) is)
      ∙ ap (λ (c : Bool). is_within (if c then Level else Copying (t + 1)) tracks) e ∙ below_by b e
    where
      below_by : (c : Bool) → (t + 1 == tracks) ≡ c → is_within (if c then Level else Copying (t + 1)) tracks ≡ true
      below_by true e = refl
      below_by false e = grind (arith, nat_tests, e, lt)
  within_by (Err e) is lt b f =
      ap (λ (s : SenderView). is_within s.state tracks) (p.behind ∙ ap (λ q. behind_put tracks t q p.put) is)
      ∙ ap (λ (m : MirrorState). is_within m tracks) (p.is.state ∙ ap (state_behind old) is)

  pub copy_within : t < tracks → is_within new.state tracks ≡ true
  copy_within lt = within_by p.result refl lt (t + 1 == tracks) refl

-- What was found is put, or told

pub follows_same : (s : SenderView) → Follows s s
follows_same s = record { device = refl; geometry = refl; tracks = refl; later = omega arith; cause = λ on off. absurd (let no : true ≡ false = sym on ∙ off in cc) }

still_follows : (s z : SenderView) → z ≡ s → Follows s z
still_follows s z same = subst (λ (k : SenderView). Follows s k) (sym same) (follows_same s)

pub follows_then : {s l z : SenderView} → Follows s l → Follows l z → Follows s z
follows_then {s} {l} {z} a b =
    let first : s.link.faults ≤ l.link.faults = a.later in
    let second : l.link.faults ≤ z.link.faults = b.later in
    record {
      device = b.device ∙ a.device;
      geometry = b.geometry ∙ a.geometry;
      tracks = b.tracks ∙ a.tracks;
      later = omega arith;
      cause = λ on off.
          either (is_suspended l.state)
          (λ mid. let rose : Rose s.link.faults l.link.faults = a.cause mid off in omega arith)
          (λ mid. let rose : Rose l.link.faults z.link.faults = b.cause on mid in omega arith);
    }

pub answers_follow : (tracks t : ℕ) (found : Peeked) (s : SenderView) (r : Remote) (z : SenderView) → AnswersBy tracks t found s r z → Follows s z
answers_follow tracks t (peeks.Track i) s r z a = copy_follows tracks t i.track s r z a
answers_follow tracks t peeks.Lost s r z a = still_follows s z a.1
answers_follow tracks t (peeks.Fault side) s r z a = still_follows s z a.1
answers_follow tracks t (peeks.BadBytes side) s r z a = still_follows s z a.1

-- the next track is still one of so many
pub answers_within : (tracks t : ℕ) (found : Peeked) (s : SenderView) (r : Remote) (z : SenderView) → AnswersBy tracks t found s r z → t < tracks →
    tracks ≡ s.link.tracks → is_within s.state s.link.tracks ≡ true → is_within z.state z.link.tracks ≡ true
answers_within tracks t found s r z a lt same within =
    ap (λ (n : ℕ). is_within z.state n) (answers_follow tracks t found s r z a).tracks ∙ by_found found a
  where
    kept : z ≡ s → is_within z.state s.link.tracks ≡ true
    kept e = ap (λ (k : SenderView). is_within k.state s.link.tracks) e ∙ within

    by_found : (f : Peeked) → AnswersBy tracks t f s r z → is_within z.state s.link.tracks ≡ true
    by_found (peeks.Track i) b = ap (λ (n : ℕ). is_within z.state n) (sym same) ∙ copy_within tracks t i.track s r z b lt
    by_found peeks.Lost b = kept b.1
    by_found (peeks.Fault side) b = kept b.1
    by_found (peeks.BadBytes side) b = kept b.1

-- of the device that is found
module _ {V : Type 0} {G : Ghosts V} (t : ℕ) (sub : Subsystem V G) (s z : SenderView) (y : Device V G) (p : looks.Peeked) (r : Remote)
    (at : device_at sub.devices.items s.device ≡ Some y) (fits : IfSome (device_at sub.devices.items s.device) (IsFarFor s.link))
    (found : IfSome (device_at sub.devices.items s.device) (λ x. MayPut t x p))
    (a : AnswersBy (y.store.cylinders * 15) t (peeked_by (state_of y.store) t p) s r z) where
  pub put_follows : Follows s z
  put_follows = answers_follow (y.store.cylinders * 15) t (peeked_by (state_of y.store) t p) s r z a

  pub put_fits : is_in s.device (numbers_of sub.devices.items) ≡ true → IfSome (device_at sub.devices.items z.device) (IsFarFor z.link)
  put_fits here =
      follows_fits s z sub.devices.items sub.devices.items here fits put_follows
      (λ x there. sits_still s.device sub.devices.items sub.devices.items x refl there)

  pub put_within : is_within s.state s.link.tracks ≡ true → is_within z.state z.link.tracks ≡ true
  put_within within =
      answers_within (y.store.cylinders * 15) t (peeked_by (state_of y.store) t p) s r z a
      (subst (λ (o : Option (Device V G)). IfSome o (λ x. MayPut t x p)) at found).track
      (sym (far_for s.link sub.devices.items s.device y at fits).1) within

and_fst : (a b : Bool) → (a && b) ≡ true → a ≡ true
and_fst true b e = refl
and_fst false b e = absurd (cc)

not_false : (b : Bool) → not b ≡ true → b ≡ false
not_false true e = absurd (cc)
not_false false e = refl

and_snd : (a b : Bool) → (a && b) ≡ true → b ≡ true
and_snd true b e = e
and_snd false b e = absurd (cc)

-- A whole call

looked_follows : (tracks t : ℕ) (failed : Bool) (o : Option Peeked) (s : SenderView) (r : Result Remote NoMemory) (z : SenderView) →
    LookedBy tracks t failed o s r z → Follows s z
looked_follows tracks t failed None s r z l = still_follows s z l.1
looked_follows tracks t true (Some found) s r z l = still_follows s z l.1
looked_follows tracks t false (Some found) s (Ok answer) z l = answers_follow tracks t found s answer z l.1
looked_follows tracks t false (Some found) s (Err e) z l = absurd (let no = l.0 in cc)

-- a fault of the link raised its count
looked_fault : (tracks t : ℕ) (failed : Bool) (o : Option Peeked) (s : SenderView) (r : Result Remote NoMemory) (z : SenderView) →
    LookedBy tracks t failed o s r z → r ≡ Ok LinkFault → (failed ≡ true) ⊎ (Rose s.link.faults z.link.faults × (is_suspended z.state ≡ true))
looked_fault tracks t failed None s r z l is = absurd (l.0 (subst (λ (q : Result Remote NoMemory). IsOk q) (sym is) refl))
looked_fault tracks t true (Some found) s r z l is = inl refl
looked_fault tracks t false (Some found) s (Err e) z l is = absurd (cc)
looked_fault tracks t false (Some found) s (Ok answer) z l is = inr (by_found found l.1 (same_ok (Ok answer) refl is))
  where
    by_found : (f : Peeked) → AnswersBy tracks t f s answer z → answer ≡ LinkFault → Rose s.link.faults z.link.faults × (is_suspended z.state ≡ true)
    by_found (peeks.Track i) a e =
        let on = copy_fault tracks t i.track s answer z a e in (cause_by tracks t i.track s answer z a a.result refl on, on)
    by_found peeks.Lost a e = absurd (let no : Lost t ≡ LinkFault = sym a.0 ∙ e in cc)
    by_found (peeks.Fault side) a e = absurd (let no : Fault side ≡ LinkFault = sym a.0 ∙ e in cc)
    by_found (peeks.BadBytes side) a e = absurd (let no : BadBytes side ≡ LinkFault = sym a.0 ∙ e in cc)

module _ {V : Type 0} {G : Ghosts V} (tracks t : ℕ) (old : Subsystem V G) (s : SenderView) (r : Result Remote NoMemory) (new : Subsystem V G) (z : SenderView)
    (l : LooksToCopy tracks t old s r new z) where
  look_sends : SendsSome s l.heard
  look_sends = ran_sends l.look.asked.is_so

  pub look_follows : Follows s z
  look_follows = follows_then (follows look_sends) (looked_follows tracks t (gets_suspended s.state l.heard.state) l.found l.heard r z l.answers)

  pub look_fault : r ≡ Ok LinkFault → Rose s.link.faults z.link.faults × (is_suspended z.state ≡ true)
  look_fault is = by_answer (looked_fault tracks t (gets_suspended s.state l.heard.state) l.found l.heard r z l.answers is)
    where
      same_by : (failed : Bool) (o : Option Peeked) → failed ≡ true → LookedBy tracks t failed o l.heard r z → z ≡ l.heard
      same_by failed None e a = a.1
      same_by true (Some found) e a = a.1
      same_by false (Some found) e a = absurd (cc)

      by_answer : (gets_suspended s.state l.heard.state ≡ true) ⊎ (Rose l.heard.link.faults z.link.faults × (is_suspended z.state ≡ true)) →
          Rose s.link.faults z.link.faults × (is_suspended z.state ≡ true)
      by_answer (inl failed) =
          let same : z ≡ l.heard = same_by (gets_suspended s.state l.heard.state) l.found failed l.answers in
          let on : is_suspended l.heard.state ≡ true = and_fst (is_suspended l.heard.state) (not (is_suspended s.state)) failed in
          let off : is_suspended s.state ≡ false =
          not_false (is_suspended s.state) (and_snd (is_suspended l.heard.state) (not (is_suspended s.state)) failed) in
          subst (λ (k : SenderView). Rose s.link.faults k.link.faults × (is_suspended k.state ≡ true)) (sym same) ((follows look_sends).cause on off, on)
      by_answer (inr so) =
          let first : s.link.faults ≤ l.heard.link.faults = (follows look_sends).later in
          let rose : Rose l.heard.link.faults z.link.faults = so.0 in
          (omega arith, so.1)

-- any call
pub copied_follows : {V : Type 0} {G : Ghosts V} (tracks : ℕ) (next : Option ℕ) (waits : ℕ → Bool) (old : Subsystem V G) (s : SenderView)
    (r : Result Remote NoMemory) (new : Subsystem V G) (z : SenderView) → CopiedBy tracks next waits old s r new z → Follows s z
copied_follows tracks None waits old s r new z c = still_follows s z c.1.sender
copied_follows tracks (Some t) waits old s r new z c = by_test (waits t) c
  where
    by_test : (b : Bool) → TrackBy tracks t b old s r new z → Follows s z
    by_test true d = still_follows s z d.1.sender
    by_test false d = look_follows tracks t old s r new z d

pub copied_fault : {V : Type 0} {G : Ghosts V} (tracks : ℕ) (next : Option ℕ) (waits : ℕ → Bool) (old : Subsystem V G) (s : SenderView)
    (r : Result Remote NoMemory) (new : Subsystem V G) (z : SenderView) → CopiedBy tracks next waits old s r new z → r ≡ Ok LinkFault →
    Rose s.link.faults z.link.faults × (is_suspended z.state ≡ true)
copied_fault tracks None waits old s r new z c is = absurd (let no : Idle ≡ LinkFault = same_ok r c.0 is in cc)
copied_fault tracks (Some t) waits old s r new z c is = by_test (waits t) c
  where
    by_test : (b : Bool) → TrackBy tracks t b old s r new z → Rose s.link.faults z.link.faults × (is_suspended z.state ≡ true)
    by_test true d = absurd (let no : Waits ≡ LinkFault = same_ok r d.0 is in cc)
    by_test false d = look_fault tracks t old s r new z d is

-- Over a run

-- the copied track is the firm one
alike_more : (f firm : List Track) (t u : ℕ) (x : Track) → t < length f → ((k : ℕ) → k < t → track_in f k ≡ track_in firm k) → x ≡ track_in firm t →
    u < t + 1 → (u ≡ t) ⊎ (u ≢ t) → track_in (set f t x) u ≡ track_in firm u
alike_more f firm t u x lt below is le (inl same) =
    ap (λ (k : ℕ). get_or (set f t x) k (empty_track k)) same ∙ get_or-set_same f t x (empty_track t) lt ∙ is ∙ sym (ap (track_in firm) same)
alike_more f firm t u x lt below is le (inr other) =
    get_or-set_other f t u x (empty_track u) other ∙ below u (lower u t le other)
  where
    lower : (u t : ℕ) → u < t + 1 → u ≢ t → u < t
    lower u t le other = by_cases (cases_lt u t)
      where
        by_cases : (u < t) ⊎ (t ≤ u) → u < t
        by_cases (inl lt) = lt
        by_cases (inr ge) = absurd (other (omega (arith, le, ge)))

pub copied_far : (f firm : List Track) (t tracks : ℕ) (x : Track) → length f ≡ tracks → length firm ≡ tracks → t < tracks →
    ((k : ℕ) → k < t → track_in f k ≡ track_in firm k) → x ≡ track_in firm t → (b : Bool) → (t + 1 == tracks) ≡ b →
    IsFar (if b then Level else Copying (t + 1)) firm (set f t x)
copied_far f firm t tracks x long size lt below is true e =
    let last : t + 1 ≡ tracks = eqb-true (t + 1) tracks e in
    let same : length (set f t x) ≡ length firm = length-set f t x ∙ long ∙ sym size in
    same_lists (set f t x) firm same
    (λ k d within.
    let there : k < length firm = omega (arith, within, same) in
    get_or_default (set f t x) k d (empty_track k) within
    ∙ alike_more f firm t k x (omega (arith, lt, long)) below is (omega (arith, there, size, last)) (cases_eq k t)
    ∙ get_or_default firm k (empty_track k) d there)
copied_far f firm t tracks x long size lt below is false e = λ u le. alike_more f firm t u x (omega (arith, lt, long)) below is le (cases_eq u t)

-- Marks and images: what waits in the code waits in a run
pub waits_same : {V : Type 0} {G : Ghosts V} (sub : Subsystem V G) (run : runs.Subsystem) (d t : ℕ) (x : Device V G) → StandsAs sub run →
    device_at sub.devices.items d ≡ Some x → waits_at (mounted_in run.mounted d) t ≡ is_waiting (device_of x).store t
waits_same sub run d t x stands at =
    let k = known_at sub.devices.items run.mounted d x (all_known (all_stood sub.devices.items) run.mounted stands.mounted) at in
    ap (λ (o : Option Mounted). waits_at o t) k.there
    ∙ ap (λ o. is_written_at o t || is_loose k.mounted.device.store t) k.is.half
    ∙ ap (λ (b : Bool). b || is_loose k.mounted.device.store t) (marked_same (device_of x).store.half t)
    ∙ ap (λ (l : List Bool). is_written_at (device_of x).store.half t || get_or l t false) k.is.loose

pub or_fst : (a b : Bool) → (a || b) ≡ false → a ≡ false
or_fst true b e = absurd (cc)
or_fst false b e = refl

pub or_snd : (a b : Bool) → (a || b) ≡ false → b ≡ false
or_snd true b e = absurd (cc)
or_snd false b e = e
