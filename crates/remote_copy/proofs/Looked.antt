-- A look with the sender as keeper: what it leaves of the devices and of the sender, and that what was found may be put.
use Rattle.std.proofs.Common.{◌≡◌, ◌∙◌, ◌<◌, ◌*◌, ℕ, Bool, true, false, List, Option, Some, None, option_map, Result, Ok, Err, refl, sym, ap, subst, arith}
use Rattle.std.specs.Prelude.{IfOk, IfSome}
use Rattle.ckd_types.specs.declared.geometry.Geometry.{Geometry}
use Rattle.ckd_types.specs.declared.memory.NoMemory.{NoMemory}
use Rattle.device_outside.specs.declared.volume.Volume.{Ghosts}
use Rattle.device_outside.specs.Keeper.{Heard}
use Rattle.device_outside.specs.Lists.{is_in}
use Rattle.device_outside.specs.Outside.{where_ok}
use Rattle.device_defs.specs.Contents.{contents}
use Rattle.device_defs.specs.Peek.{Peeked, peek}
use Rattle.device_defs.specs.Store.{frame_at}
use Rattle.device_store.specs.declared.half.HalfWrite as halves
use Rattle.device_store.specs.declared.store.Peeked as looks
use Rattle.device_store.specs.Images.{IsImageOf}
use Rattle.device_store.specs.Looks.{IsPeeked, peeked_by}
use Rattle.device_store.specs.State.{had, half_of, state_of}
use Rattle.device_core.specs.declared.device.Device.{Device}
use Rattle.device_core.specs.State.{device_of}
use Rattle.subsystem_core.specs.declared.subsystem.Subsystem.{Subsystem}
use Rattle.subsystem_core.specs.Comes.{AskedKept, Changes}
use Rattle.subsystem_core.specs.Devices.{device_at, numbers_of}
use Rattle.subsystem_core.specs.Ends.{where_some}
use Rattle.deck_run.proofs.Events.{has_one}
use Rattle.deck_run.proofs.Found.{again}
use Rattle.track_looks.specs.Looking.{LooksKept}
use Rattle.remote_copy.specs.declared.remote.Remote.{Remote}
use Rattle.remote_copy.specs.declared.remote.Remote.TheVariants.{LinkFault}
use Rattle.remote_copy.specs.Copies.{AnswersBy, LookedBy, LooksAt, LooksToCopy, MayPut, gets_suspended}
use Rattle.remote_copy.specs.Sending.{SenderView, hears_sent, takes_sent}
use Rattle.remote_copy.proofs.Found.{ran_finds}
use Rattle.remote_copy.proofs.Keeping.{SendsSome, ran_sends}
use Rattle.remote_copy.proofs.Seats.{SameSeat, Sits, changed_sits, seat_of_own}

some_same : {X : Type 0} {x y : X} → Some x ≡ Some y → x ≡ y
some_same e = cc

-- What a look leaves of the devices and of the sender

module _ {V : Type 0} {G : Ghosts V} (d t : ℕ) (old : Subsystem V G) (s : SenderView) (new : Subsystem V G) (z : SenderView) where
  abbrev pub Peeks : Result looks.Peeked NoMemory → Type 0
  Peeks r = Changes d (λ x y. IfOk r (IsPeeked (state_of y.store) t) × AskedKept (Heard hears_sent takes_sent) (where_ok r) (peek contents (device_of x) t)
      (had (peeked_by (state_of y.store) t) r) old.pool s x y new.pool z) old.devices.items new.devices.items

  module _ (r : Result looks.Peeked NoMemory) (ch : Peeks r) where
    pub peeks_send : SendsSome s z
    peeks_send = ran_sends ch.is_so.1

    peeks_seat : SameSeat ch.before ch.behind
    peeks_seat = seat_of_own ch.before ch.behind t ch.is_so.1

    pub peeks_sit : (n : ℕ) (x : Device V G) → device_at old.devices.items n ≡ Some x → Sits n new.devices.items x
    peeks_sit n x at = changed_sits n d _ old.devices.items new.devices.items x ch peeks_seat at

    module _ (x y : Device V G) (numbers : numbers_of new.devices.items ≡ numbers_of old.devices.items) (at : device_at old.devices.items d ≡ Some x)
        (now : device_at new.devices.items d ≡ Some y) where
      before_is : ch.before ≡ x
      before_is = some_same (sym ch.stood ∙ at)

      behind_is : ch.behind ≡ y
      behind_is =
          some_same (sym (again old.devices.items d ch.before ch.behind ch.stood
          (subst (λ (l : List (Device V G)). numbers_of l ≡ numbers_of old.devices.items) ch.stands numbers))
          ∙ ap (λ (l : List (Device V G)). device_at l d) (sym ch.stands) ∙ now)

      seat_is : SameSeat x y
      seat_is = subst (λ (u : Device V G). SameSeat u y) before_is (subst (λ (u : Device V G). SameSeat ch.before u) behind_is peeks_seat)

      so_at : IfOk r (IsPeeked (state_of y.store) t) × AskedKept (Heard hears_sent takes_sent) (where_ok r) (peek contents (device_of x) t)
          (had (peeked_by (state_of y.store) t) r) old.pool s x y new.pool z
      so_at =
          subst (λ (u : Device V G). IfOk r (IsPeeked (state_of y.store) t) × AskedKept (Heard hears_sent takes_sent) (where_ok r)
          (peek contents (device_of u) t) (had (peeked_by (state_of y.store) t) r) old.pool s u y new.pool z) before_is
          (subst (λ (u : Device V G). IfOk r (IsPeeked (state_of u.store) t) × AskedKept (Heard hears_sent takes_sent) (where_ok r)
          (peek contents (device_of ch.before) t) (had (peeked_by (state_of u.store) t) r) old.pool s ch.before u new.pool z) behind_is ch.is_so)

      asked_at : Changes d (λ u v. AskedKept (Heard hears_sent takes_sent) (where_ok r) (peek contents (device_of u) t)
          (had (peeked_by (state_of y.store) t) r) old.pool s u v new.pool z) old.devices.items new.devices.items
      asked_at = record {
        before = ch.before;
        behind = ch.behind;
        stood = ch.stood;
        stands = ch.stands;
        is_so = subst (λ (u : Device V G). AskedKept (Heard hears_sent takes_sent) (where_ok r) (peek contents (device_of ch.before) t)
            (had (peeked_by (state_of u.store) t) r) old.pool s ch.before ch.behind new.pool z) behind_is ch.is_so.1;
      }

half_so : (g : Geometry) (o : Option halves.HalfWrite) → IfSome o (λ h. IsImageOf g h.track h.image) → IfSome (option_map half_of o) (λ h. IsImageOf g h.track h.image)
half_so g None of = tt
half_so g (Some h) of = of

module _ {V : Type 0} {G : Ghosts V} (d t : ℕ) (old : Subsystem V G) (s : SenderView) (new : Subsystem V G) (z : SenderView) (x y : Device V G)
    (numbers : numbers_of new.devices.items ≡ numbers_of old.devices.items) (at : device_at old.devices.items d ≡ Some x)
    (now : device_at new.devices.items d ≡ Some y) where
  told_is : (o : Option Peeked) → IfSome o (λ found. o ≡ Some found)
  told_is None = tt
  told_is (Some found) = refl

  -- an image that was found may be put
  pub peeks_may : (p : looks.Peeked) → t < x.store.cylinders * 15 → Peeks d t old s new z (Ok p) → MayPut t y p
  peeks_may p lt ch =
      let so = so_at d t old s new z (Ok p) ch x y numbers at now in
      let seat = seat_is d t old s new z (Ok p) ch x y numbers at now in
      record {
        track = omega (arith, lt, seat.cylinders);
        there = so.0;
        image = ran_finds y.store.geometry t (device_of x) (device_of y) (peeked_by (state_of y.store) t p) (sym seat.geometry)
            (subst (λ (g : Geometry). IfSome (frame_at (state_of x.store) t) (λ f. IsImageOf g t f.image)) (sym seat.geometry) (x.store.frames_of_tracks t))
            (subst (λ (g : Geometry). IfSome (option_map half_of x.store.half) (λ h. IsImageOf g h.track h.image)) (sym seat.geometry) (half_so x.store.geometry x.store.half x.store.half_of_track)) so.1;
      }

  looks_by : (r : Result looks.Peeked NoMemory) → Peeks d t old s new z r →
      LooksKept (Heard hears_sent takes_sent) d t (had (peeked_by (state_of y.store) t) r) old s new z
  looks_by r ch = record {
    answer = had (peeked_by (state_of y.store) t) r;
    told_is = told_is (had (peeked_by (state_of y.store) t) r);
    asked = asked_by r (asked_at d t old s new z r ch x y numbers at now);
  }
    where
      asked_by : (r : Result looks.Peeked NoMemory) → Changes d (λ u v. AskedKept (Heard hears_sent takes_sent) (where_ok r) (peek contents (device_of u) t)
          (had (peeked_by (state_of y.store) t) r) old.pool s u v new.pool z) old.devices.items new.devices.items →
          Changes d (λ u v. AskedKept (Heard hears_sent takes_sent) (where_some (had (peeked_by (state_of y.store) t) r)) (peek contents (device_of u) t)
          (had (peeked_by (state_of y.store) t) r) old.pool s u v new.pool z) old.devices.items new.devices.items
      asked_by (Ok p) ch = ch
      asked_by (Err e) ch = ch

  pub peeks_look : (r : Result looks.Peeked NoMemory) → t < x.store.cylinders * 15 → Peeks d t old s new z r → d ≡ s.device →
      LooksAt t old s x r new z y
  peeks_look (Ok p) lt ch mine = record {
    cylinders = (seat_is d t old s new z (Ok p) ch x y numbers at now).cylinders;
    found = peeks_may p lt ch;
    look = subst (λ (n : ℕ). LooksKept (Heard hears_sent takes_sent) n t (Some (peeked_by (state_of y.store) t p)) old s new z) mine
        (looks_by (Ok p) ch);
  }
  peeks_look (Err e) lt ch mine = record {
    cylinders = (seat_is d t old s new z (Err e) ch x y numbers at now).cylinders;
    found = tt;
    look = subst (λ (n : ℕ). LooksKept (Heard hears_sent takes_sent) n t None old s new z) mine (looks_by (Err e) ch);
  }

-- of the devices that are found
module _ {V : Type 0} {G : Ghosts V} (t : ℕ) (old : Subsystem V G) (s : SenderView) (new : Subsystem V G) (z : SenderView) where
  pub looks_found : (r : Result looks.Peeked NoMemory) → is_in s.device (numbers_of old.devices.items) ≡ true →
      numbers_of new.devices.items ≡ numbers_of old.devices.items → IfSome (device_at old.devices.items s.device) (λ x. t < x.store.cylinders * 15) →
      Peeks s.device t old s new z r → z.device ≡ s.device →
      IfSome (device_at old.devices.items s.device) (λ x. IfSome (device_at new.devices.items z.device) (LooksAt t old s x r new z))
  looks_found r here numbers lt ch same =
      let one = has_one old.devices.items s.device here in
      let sits = peeks_sit s.device t old s new z r ch s.device one.device one.found in
      let below : t < one.device.store.cylinders * 15 =
      subst (λ (o : Option (Device V G)). IfSome o (λ x. t < x.store.cylinders * 15)) one.found lt in
      subst (λ (o : Option (Device V G)). IfSome o (λ x. IfSome (device_at new.devices.items z.device) (LooksAt t old s x r new z))) (sym one.found)
      (subst (λ (n : ℕ). IfSome (device_at new.devices.items n) (LooksAt t old s one.device r new z)) (sym same)
      (subst (λ (o : Option (Device V G)). IfSome o (LooksAt t old s one.device r new z)) (sym sits.found)
      (peeks_look s.device t old s new z one.device sits.device numbers one.found sits.found r below ch refl)))

  -- a copy from what was found so
  pub copy_from : {r : Result looks.Peeked NoMemory} (p : Device V G → Type 0) → is_in s.device (numbers_of old.devices.items) ≡ true →
      is_in z.device (numbers_of new.devices.items) ≡ true →
      IfSome (device_at old.devices.items s.device) (λ x. IfSome (device_at new.devices.items z.device) (LooksAt t old s x r new z)) →
      ((x y : Device V G) → device_at new.devices.items z.device ≡ Some y → LooksAt t old s x r new z y → p x) →
      IfSome (device_at old.devices.items s.device) p
  copy_from {r = r} p here there found goes =
      let one = has_one old.devices.items s.device here in
      let two = has_one new.devices.items z.device there in
      let at = subst (λ (o : Option (Device V G)). IfSome o (λ x. IfSome (device_at new.devices.items z.device) (LooksAt t old s x r new z))) one.found found in
      subst (λ (o : Option (Device V G)). IfSome o p) (sym one.found)
      (goes one.device two.device two.found
      (subst (λ (o : Option (Device V G)). IfSome o (LooksAt t old s one.device r new z)) two.found at))

  -- what was found may be put
  pub may_from : (p : looks.Peeked) → is_in s.device (numbers_of old.devices.items) ≡ true → is_in z.device (numbers_of new.devices.items) ≡ true →
      IfSome (device_at old.devices.items s.device) (λ x. IfSome (device_at new.devices.items z.device) (LooksAt t old s x (Ok p) new z)) →
      IfSome (device_at new.devices.items z.device) (λ y. MayPut t y p)
  may_from p here there found =
      let one = has_one old.devices.items s.device here in
      let two = has_one new.devices.items z.device there in
      let at = subst (λ (o : Option (Device V G)). IfSome o (λ x. IfSome (device_at new.devices.items z.device) (LooksAt t old s x (Ok p) new z))) one.found found in
      subst (λ (o : Option (Device V G)). IfSome o (λ y. MayPut t y p)) (sym two.found)
      (subst (λ (o : Option (Device V G)). IfSome o (LooksAt t old s one.device (Ok p) new z)) two.found at).found

  -- memory was lacking
  pub copy_lacked : (e : NoMemory) (x y : Device V G) → LooksAt t old s x (Err e) new z y → LooksToCopy (x.store.cylinders * 15) t old s (Err e) new z
  copy_lacked e x y l = record { found = None; heard = z; look = l.look; answers = ((λ ok. absurd (cc)), refl) }

  -- a put failed
  pub copy_faulted : (p : looks.Peeked) (x y : Device V G) → gets_suspended s.state z.state ≡ true → LooksAt t old s x (Ok p) new z y →
      LooksToCopy (x.store.cylinders * 15) t old s (Ok LinkFault) new z
  copy_faulted p x y failed l = record {
    found = Some (peeked_by (state_of y.store) t p);
    heard = z;
    look = l.look;
    answers = subst (λ (b : Bool). LookedBy (x.store.cylinders * 15) t b (Some (peeked_by (state_of y.store) t p)) z (Ok LinkFault) z) (sym failed) (refl, refl);
  }

  -- what was found is put, or told
  pub copy_put : (p : looks.Peeked) (x y : Device V G) (answer : Remote) (last : Subsystem V G) (w : SenderView) → gets_suspended s.state z.state ≡ false →
      last ≡ new → LooksAt t old s x (Ok p) new z y → AnswersBy (y.store.cylinders * 15) t (peeked_by (state_of y.store) t p) z answer w →
      LooksToCopy (x.store.cylinders * 15) t old s (Ok answer) last w
  copy_put p x y answer last w fine same l a = record {
    found = Some (peeked_by (state_of y.store) t p);
    heard = z;
    look = subst (λ (u : Subsystem V G). LooksKept (Heard hears_sent takes_sent) s.device t (Some (peeked_by (state_of y.store) t p)) old s u z) (sym same) l.look;
    answers = subst (λ (b : Bool). LookedBy (x.store.cylinders * 15) t b (Some (peeked_by (state_of y.store) t p)) z (Ok answer) w) (sym fine)
        (refl, subst (λ (n : ℕ). AnswersBy (n * 15) t (peeked_by (state_of y.store) t p) z answer w) l.cylinders a);
  }
