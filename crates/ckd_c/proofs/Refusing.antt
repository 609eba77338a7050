-- What a call comes to where it is refused, and where it isn't.
use Rattle.std.proofs.Common.{◌≡◌, ◌∙◌, ℕ, Bool, true, false, List, [], ◌∷◌, Option, Some, None, refl, sym, ap, subst}
use Rattle.std.specs.Prelude.{IfSome, OnErr, Result, Ok, Err, if◌then◌else◌, ◌==◌, map}
use Rattle.ckd_types.specs.declared.paths.Side.{Side}
use Rattle.device_core.specs.State.{device_of, own_volumes}
use Rattle.subsystem_defs.specs.declared.event.Event.{Event}
use Rattle.subsystem_core.specs.declared.end.EventEnd.{EventEnd}
use Rattle.subsystem_core.specs.Comes.{AreStill, Came, Changes, IsStill}
use Rattle.subsystem_core.specs.Ends.{answer_of}
use Rattle.subsystem_core.specs.Standing.{StayPlain}
use Rattle.subsystem_core.specs.Devices.{device_at, devices_of, number_of, put_at, volumes_of}
use Rattle.ckd_c.specs.declared.code.Code.{Code}
use Rattle.ckd_c.specs.declared.opened.Opened.{Opened}
use Rattle.ckd_c.specs.declared.volume.HostVolume.{HostVolume}
use Rattle.ckd_c.specs.Codes.{IsRefusal, code_of, code_of_end}
use Rattle.ckd_c.specs.Calls.{Asks, AsksOnSide, Device, EventCame, Has, How, IsSame, KeepsPlain, OnSide, OrRefused, Reads, Subsystem, Tries, TriesTo, WithVolume, code_told, refused, side_of, went}

pub same : (x : Opened) → IsSame x x
same x = (refl, (refl, refl))

module _ (how : How) where
  pub is_refused : {code : Code} {x y : Opened} → IsRefusal code → IsSame x y → OrRefused how code x y
  is_refused why is = refused why is

  pub is_refused_first : (code : Code) (x : Opened) → IsRefusal code → OrRefused how code x x
  is_refused_first code x why = refused why (same x)

  pub has_gone : {code : Code} {x y : Opened} → how code x y → OrRefused how code x y
  has_gone so = went so

-- what was tried within is what the call tried
pub by_tries : (how : Opened → Opened → Type 0) (r : Result (Unit {0}) Code) {code : Code} {x y : Opened} → code ≡ code_told r → TriesTo how r x y →
    Tries how code x y
by_tries how (Ok u) is came = went (is, came)
by_tries how (Err e) {x = x} {y = y} is came = subst (λ (c : Code). Tries how c x y) (sym is) (refused came.0 came.1)

module _ (e : Event) (tells : EventEnd → Type 0) where
  -- an event came, and was told
  pub has_come : (answer : Option EventEnd) {code : Code} {x y : Opened} → code ≡ code_of answer → Came e x.subsystem answer y.subsystem →
      IfSome answer tells → KeepsPlain answer x y → Asks e tells code x y
  has_come answer is came says plain = went (record { answer = answer; is = is; came = came; says = says; plain = plain })

pub of_silent : (answer : Option EventEnd) → IfSome answer (λ (end : EventEnd). Unit {0})
of_silent None = tt
of_silent (Some end) = tt

-- with a volume it ended so
pub has_ended : (how : HostVolume → Subsystem → EventEnd → Subsystem → Type 0) (volume : HostVolume) (end : EventEnd) {code : Code} {x y : Opened} →
    code ≡ code_of_end end → how volume x.subsystem end y.subsystem → OrRefused (WithVolume how) code x y
has_ended how volume end is came = went (record { volume = volume; end = end; is = is; came = came })

-- A device that is what it was leaves all as they were

some_same : {X : Type 0} {a b : X} → Some a ≡ Some b → a ≡ b
some_same e = cc

devices_by : (ds : List Device) (d a b : Device) (n : ℕ) (t : Bool) → (if t then Some d else device_at ds n) ≡ Some a → IsStill a b →
    (device_at ds n ≡ Some a → devices_of (put_at ds n b) ≡ devices_of ds) →
    devices_of (if t then b ∷ ds else d ∷ put_at ds n b) ≡ devices_of (d ∷ ds)
devices_by ds d a b n true at still rest =
    let here : d ≡ a = some_same at in ap (λ x. x ∷ devices_of ds) (still.0 ∙ ap (λ (x : Device). device_of x) (sym here))
devices_by ds d a b n false at still rest = ap (λ xs. device_of d ∷ xs) (rest at)

devices_still : (ds : List Device) (a b : Device) (n : ℕ) → device_at ds n ≡ Some a → IsStill a b → devices_of (put_at ds n b) ≡ devices_of ds
devices_still [] a b n at still = refl
devices_still (d ∷ ds) a b n at still = devices_by ds d a b n (number_of d == n) at still (λ there. devices_still ds a b n there still)

volumes_by : (ds : List Device) (d a b : Device) (n : ℕ) (t : Bool) → (if t then Some d else device_at ds n) ≡ Some a → IsStill a b →
    (device_at ds n ≡ Some a → volumes_of (put_at ds n b) ≡ volumes_of ds) →
    volumes_of (if t then b ∷ ds else d ∷ put_at ds n b) ≡ volumes_of (d ∷ ds)
volumes_by ds d a b n true at still rest =
    let here : d ≡ a = some_same at in ap (λ x. x ∷ volumes_of ds) (still.1 ∙ ap (λ (x : Device). own_volumes x) (sym here))
volumes_by ds d a b n false at still rest = ap (λ xs. own_volumes d ∷ xs) (rest at)

volumes_still : (ds : List Device) (a b : Device) (n : ℕ) → device_at ds n ≡ Some a → IsStill a b → volumes_of (put_at ds n b) ≡ volumes_of ds
volumes_still [] a b n at still = refl
volumes_still (d ∷ ds) a b n at still = volumes_by ds d a b n (number_of d == n) at still (λ there. volumes_still ds a b n there still)

pub all_still : {n : ℕ} {old new : List Device} (how : Device → Device → Type 0) → ((a b : Device) → how a b → IsStill a b) → Changes n how old new →
    AreStill old new
all_still {n = n} {old = old} how means c =
    let still = means c.before c.behind c.is_so in
    rw c.stands (devices_still old c.before c.behind n c.stood still, volumes_still old c.before c.behind n c.stood still)

pub one_changes : {n : ℕ} {old new : List Device} (how also : Device → Device → Type 0) → ((a b : Device) → how a b → also a b) → Changes n how old new →
    Changes n also old new
one_changes how also means c =
    record { before = c.before; behind = c.behind; stood = c.stood; stands = c.stands; is_so = means c.before c.behind c.is_so }
