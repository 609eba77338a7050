-- What a look finds in a run, and what it leaves there.
use Rattle.std.proofs.Common.{◌≡◌, ◌==◌, ◌&&◌, ◌||◌, not, ℕ, Bool, true, false, List, [], ◌∷◌, Option, Some, None, is_some, refl, sym, ap, subst, ◌∙◌, arith, ◌⊎◌, inl, inr}
use Rattle.std.specs.Prelude.{if◌then◌else◌}
use Rattle.ckd_types.specs.declared.paths.Side.{Side}
use Rattle.ckd_types.specs.declared.paths.Side.TheVariants.{A, B}
use Rattle.device_outside.specs.Told.{RunOutcome}
use Rattle.device_defs.specs.Contents.{by_plain}
use Rattle.device_defs.specs.Marks.{MarksDevice}
use Rattle.device_defs.specs.Owed.{is_modified, is_clean}
use Rattle.device_defs.specs.Peek.{Peeked, Track, Lost, Fault, BadBytes, peek}
use Rattle.device_defs.specs.Sound.{has_patch, loose_is_kept, is_bare, has_sound_marks}
use Rattle.device_defs.specs.Store.{has_level, frame_at, is_lost, is_loose, half_is}
use Rattle.subsystem_defs.specs.Happening.{told_to, held_with, mounted_behind}
use Rattle.subsystem_defs.specs.Looks as L
use Rattle.subsystem_defs.specs.Looks.{told_found, with_look, looked_at, looked}
use Rattle.subsystem_defs.specs.Subsystem.{Mounted, Subsystem, number_of, mounted_in, put_in}
use Rattle.subsystem_laws.proofs.Walks.{mounted_number}
use Rattle.subsystem_laws.specs.Looking.{is_written_at, IsPlainly, StaysOwn, HasFailed, IsNowhere}
use Rattle.subsystem_laws.proofs.looking.Finds.{Failed, PeekIs, Looks, peek_seen}
use Rattle.subsystem_laws.proofs.looking.Own.{same_device, same_geometry, same_cylinders, same_lent, same_half, same_plain}
use Rattle.subsystem_laws.proofs.looking.Seen.{seen_held}

put_by : (b : Bool) (k m x : Mounted) (ms : List Mounted) (n : ℕ) → (number_of k == n) ≡ b → number_of x ≡ n →
    (mounted_in ms n ≡ Some m → mounted_in (put_in ms n x) n ≡ Some x) → (if b then Some k else mounted_in ms n) ≡ Some m →
    mounted_in (if b then x ∷ ms else k ∷ put_in ms n x) n ≡ Some x
put_by true k m x ms n e is later at =
    let same : (number_of x == n) ≡ true = grind arith in ap (λ (b : Bool). if b then Some x else mounted_in ms n) same
put_by false k m x ms n e is later at = ap (λ (b : Bool). if b then Some k else mounted_in (put_in ms n x) n) e ∙ later at

put_found : (ms : List Mounted) (n : ℕ) (m x : Mounted) → mounted_in ms n ≡ Some m → number_of x ≡ n → mounted_in (put_in ms n x) n ≡ Some x
put_found [] n m x at is = absurd (cc)
put_found (k ∷ ms) n m x at is = put_by (number_of k == n) k m x ms n refl is (λ e. put_found ms n m x e is) at

module _ (s : Subsystem) (n t : ℕ) (m : Mounted) (there : mounted_in s.mounted n ≡ Some m) where
  abbrev o : RunOutcome MarksDevice (Option Peeked)
  o = held_with s.pool m (peek by_plain m.device t)

  sees : Looks m.device t m.a m.b (held_with s.pool m (peek by_plain m.device t)).state (held_with s.pool m (peek by_plain m.device t)).answer
  sees = seen_held (λ x y e f. Looks m.device t m.a m.b e f) (told_to s.pool m) (peek_seen m.device t m.a m.b)

  found_is : (looked s n t).found ≡ told_found (held_with s.pool m (peek by_plain m.device t)).answer
  unfolding L.looked
  found_is = ap (λ (u : Option Mounted). (looked_at s n t u).found) there

  behind_is : (looked s n t).behind.mounted ≡ put_in s.mounted n (mounted_behind (held_with s.pool m (peek by_plain m.device t)))
  unfolding L.looked
  behind_is = ap (λ (u : Option Mounted). (looked_at s n t u).behind.mounted) there

  -- memory is had, so there is an answer
  answer_by : (a : Option Peeked) → PeekIs m.device.store t m.a m.b a → a ≡ Some (told_found a)
  answer_by None h = absurd h
  answer_by (Some f) h = refl

  found_so : PeekIs m.device.store t m.a m.b (Some (looked s n t).found)
  found_so =
      subst (PeekIs m.device.store t m.a m.b)
      (answer_by (held_with s.pool m (peek by_plain m.device t)).answer sees.is ∙ ap Some (sym found_is)) sees.is

  plainly : (f : Peeked) → is_written_at m.device.store.half t ≡ false → PeekIs m.device.store t m.a m.b (Some f) → IsPlainly m t f
  plainly (Track i) may h = h.1 may
  plainly Lost may h = tt
  plainly (Fault side) may h = tt
  plainly (BadBytes side) may h = h

  pub look_finds_plain : is_written_at m.device.store.half t ≡ false → IsPlainly m t (looked s n t).found
  look_finds_plain may = plainly (looked s n t).found may found_so

  pub look_leaves_own : StaysOwn s n t m
  look_leaves_own =
      let k = mounted_behind (held_with s.pool m (peek by_plain m.device t)) in
      let z = k.device.store in
      record {
        mounted = k;
        there = ap (λ (l : List Mounted). mounted_in l n) behind_is
            ∙ put_found s.mounted n m k there (same_device m.device.store z sees.own ∙ mounted_number s.mounted n m there);
        own = record {
          number = same_device m.device.store z sees.own;
          geometry = same_geometry m.device.store z sees.own;
          cylinders = same_cylinders m.device.store z sees.own;
          lent = same_lent m.device.store z sees.own;
          half = same_half m.device.store z sees.own;
          plain = same_plain m.device.store z sees.own;
          plans = sees.plans;
          paths = sees.paths;
          chain = sees.chain;
        };
      }

  pub lost_is_lost : (looked s n t).found ≡ Lost → is_lost m.device.store t ≡ true
  lost_is_lost e = subst (λ (f : Peeked). PeekIs m.device.store t m.a m.b (Some f)) e found_so

  only_lost : (f : Peeked) → is_lost m.device.store t ≡ true → PeekIs m.device.store t m.a m.b (Some f) → f ≡ Lost
  only_lost (Track i) lost h = absurd (let there = h.0 in cc)
  only_lost Lost lost h = refl
  only_lost (Fault side) lost h = absurd (let there = h.0 in cc)
  only_lost (BadBytes side) lost h = absurd h

  pub lost_is_found : is_lost m.device.store t ≡ true → (looked s n t).found ≡ Lost
  lost_is_found lost = only_lost (looked s n t).found lost found_so

  -- where a track has a copy, a fault is a failed call

  sound_somewhere : (f : Option Bool) (half level patched loose rest : Bool) → half ≡ false →
      (if half then not loose
      else (not (is_clean by_plain f) || (level && not patched && not loose)) && (is_some f || level) && rest) ≡ true →
      level ≡ false → is_modified by_plain f ≡ false → ⊥
  sound_somewhere f true level patched loose rest off marks none clean = absurd (cc)
  sound_somewhere (Some true) false level patched loose rest off marks none clean = absurd (cc)
  sound_somewhere (Some false) false true patched loose rest off marks none clean = absurd (cc)
  sound_somewhere (Some false) false false patched loose rest off marks none clean = absurd (cc)
  sound_somewhere None false true patched loose rest off marks none clean = absurd (cc)
  sound_somewhere None false false patched loose rest off marks none clean = absurd (cc)

  unless_lost : (x y l : Bool) → l ≡ false → (if l then x else y) ≡ true → y ≡ true
  unless_lost x y true e marks = absurd (cc)
  unless_lost x y false e marks = marks

  nowhere : has_sound_marks by_plain m.device.store t ≡ true → half_is m.device.store.half t ≡ false → is_lost m.device.store t ≡ false →
      has_level m.device.store t ≡ false → is_modified by_plain (frame_at m.device.store t) ≡ false → ⊥
  nowhere marks off kept none clean =
      let z = m.device.store in
      sound_somewhere (frame_at z t) (half_is z.half t) (has_level z t) (has_patch by_plain z t) (is_loose z t) (loose_is_kept by_plain z t) off
      (unless_lost (is_bare by_plain z t) _ (is_lost z t) kept marks) none clean

  failed_is : (side : Side) → Failed m.device.store t m.a m.b side → HasFailed m t side
  failed_is A h = record { level = h.0; fails = h.1.0; other = h.1.1 }
  failed_is B h = record { level = h.0; fails = h.1.0; other = h.1.1 }

  fault_of : (side : Side) → PeekIs m.device.store t m.a m.b (Some (Fault side)) → HasFailed m t side ⊎ IsNowhere m.device.store t
  fault_of side (kept, inl h) = inl (failed_is side h)
  fault_of side (kept, inr h) = inr h

  -- a fault is a failed call, or the track is in no place that a look asks
  pub fault_is : (side : Side) → (looked s n t).found ≡ Fault side → HasFailed m t side ⊎ IsNowhere m.device.store t
  fault_is side e = fault_of side (subst (λ (f : Peeked). PeekIs m.device.store t m.a m.b (Some f)) e found_so)

  fault_by : (side : Side) → has_sound_marks by_plain m.device.store t ≡ true → half_is m.device.store.half t ≡ false →
      PeekIs m.device.store t m.a m.b (Some (Fault side)) → HasFailed m t side
  fault_by side marks off (kept, inl h) = failed_is side h
  fault_by side marks off (kept, inr h) = absurd (nowhere marks off kept h.0 h.1)

pub fault_has_failed : (s : Subsystem) (n t : ℕ) (m : Mounted) (side : Side) → mounted_in s.mounted n ≡ Some m →
    has_sound_marks by_plain m.device.store t ≡ true → half_is m.device.store.half t ≡ false → (looked s n t).found ≡ Fault side → HasFailed m t side
fault_has_failed s n t m side there marks off e =
    fault_by s n t m there side marks off (subst (λ (f : Peeked). PeekIs m.device.store t m.a m.b (Some f)) e (found_so s n t m there))
