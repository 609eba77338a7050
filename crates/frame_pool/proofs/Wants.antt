-- What a call for a frame answers and leaves, by whether the track has one, whether one is granted, and which frame goes.
use Rattle.std.proofs.Common.{◌≡◌, ℕ, Bool, true, false, cond, not, is_some, Option, Some, None, ◌∷◌, refl, sym, ap, subst, ◌∙◌}
use Rattle.device_outside.specs.Pool as P
use Rattle.device_outside.specs.Pool.{Pool, WantFrame, in_front, less_frame, noted, is_listed, has_room, grants, evicted, victim}
use Rattle.device_outside.specs.Volume.{counted_if}
use Rattle.device_outside.specs.Outside.{Answered}
use Rattle.frame_pool.specs.Shared.{Shared, shared_view}

abbrev after_by : Pool → ℕ → ℕ → Bool → Bool → Option (ℕ × ℕ) → Pool
after_by p d t listed given gone = record p {
  frames = cond listed (in_front p.frames d t) (cond given (((d, t), false) ∷ less_frame p.frames gone) p.frames);
  notes = cond listed p.notes (cond given (noted p.notes gone) p.notes);
}

abbrev behind : Shared → ℕ → ℕ → Bool → Bool → Option (ℕ × ℕ) → Shared
behind s d t listed given gone = record { pool = after_by s.pool d t listed given gone; denials = counted_if (not (cond listed true given)) s.denials }

as_defined : (s z : Shared) (d t : ℕ) → z ≡ behind s d t (is_listed s.pool.frames d t) (grants s.pool)
    (evicted s.pool) → Answered (shared_view s) (WantFrame d t) (cond (is_listed s.pool.frames d t) true
    (grants s.pool)) (shared_view z)
unfolding P.answer P.after
as_defined s z d t e =
    subst (λ (y : Shared). Answered (shared_view s) (WantFrame d t) (cond (is_listed s.pool.frames d t) true (grants s.pool)) (shared_view y)) (sym e)
    (record { by_pool = (record { same = refl; free = tt }, refl); denials = refl })

wants : (s z : Shared) (d t : ℕ) (l g : Bool) (v : Option (ℕ × ℕ)) → is_listed s.pool.frames d t ≡ l →
    grants s.pool ≡ g → evicted s.pool ≡ v → z ≡ behind s d t l g v →
    Answered (shared_view s) (WantFrame d t) (cond l true g) (shared_view z)
wants s z d t l g v el eg ev =
    subst (λ (b : Bool). z ≡ behind s d t b g v → Answered (shared_view s) (WantFrame d t) (cond b true g) (shared_view z)) el
    (subst (λ (b : Bool). z ≡ behind s d t (is_listed s.pool.frames d t) b v →
    Answered (shared_view s) (WantFrame d t) (cond (is_listed s.pool.frames d t) true b) (shared_view z)) eg
    (subst (λ (o : Option (ℕ × ℕ)). z ≡ behind s d t (is_listed s.pool.frames d t) (grants s.pool) o →
    Answered (shared_view s) (WantFrame d t) (cond (is_listed s.pool.frames d t) true (grants s.pool))
    (shared_view z)) ev (as_defined s z d t)))

pub wants_listed : (s z : Shared) (d t : ℕ) → is_listed s.pool.frames d t ≡ true →
    z ≡ record s { pool = record s.pool { frames = in_front s.pool.frames d t } } →
    Answered (shared_view s) (WantFrame d t) true (shared_view z)
wants_listed s z d t e f = wants s z d t true (grants s.pool) (evicted s.pool) e refl refl f

pub wants_down : (s z : Shared) (d t : ℕ) → is_listed s.pool.frames d t ≡ false → s.pool.cache_up ≡ false →
    z ≡ record s { denials = counted_if true s.denials } → Answered (shared_view s) (WantFrame d t) false
    (shared_view z)
wants_down s z d t e down f = wants s z d t false false (evicted s.pool) e
    (ap (λ (b : Bool). cond b (cond (has_room s.pool) true (is_some (victim s.pool.frames))) false) down) refl f

pub wants_room : (s z : Shared) (d t : ℕ) → is_listed s.pool.frames d t ≡ false → s.pool.cache_up ≡ true →
    has_room s.pool ≡ true → z ≡ record s { pool = record s.pool { frames = ((d, t), false) ∷ s.pool.frames } } →
    Answered (shared_view s) (WantFrame d t) true (shared_view z)
wants_room s z d t e up room f =
    wants s z d t false true None e
    (ap (λ (b : Bool). cond b (cond (has_room s.pool) true (is_some (victim s.pool.frames))) false) up ∙ ap
    (λ (b : Bool). cond b true (is_some (victim s.pool.frames))) room)
    (ap (λ (b : Bool). cond b None (victim s.pool.frames)) room) f

pub wants_none : (s z : Shared) (d t : ℕ) → is_listed s.pool.frames d t ≡ false → s.pool.cache_up ≡ true →
    has_room s.pool ≡ false → victim s.pool.frames ≡ None → z ≡ record s { denials = counted_if true s.denials } →
    Answered (shared_view s) (WantFrame d t) false (shared_view z)
wants_none s z d t e up full none f =
    wants s z d t false false (evicted s.pool) e
    (ap (λ (b : Bool). cond b (cond (has_room s.pool) true (is_some (victim s.pool.frames))) false) up ∙ ap
    (λ (b : Bool). cond b true (is_some (victim s.pool.frames))) full ∙ ap is_some none)
    refl f

pub wants_over : (s z : Shared) (d t : ℕ) (old : ℕ × ℕ) → is_listed s.pool.frames d t ≡ false →
    s.pool.cache_up ≡ true → has_room s.pool ≡ false → victim s.pool.frames ≡ Some old
    → z ≡ record s {
      pool = record s.pool {
        frames = ((d, t), false) ∷ less_frame s.pool.frames (Some old);
        notes =
            noted s.pool.notes (Some old);
      };
    } → Answered (shared_view s) (WantFrame d t) true (shared_view z)
wants_over s z d t old e up full some f =
    wants s z d t false true (Some old) e
    (ap (λ (b : Bool). cond b (cond (has_room s.pool) true (is_some (victim s.pool.frames))) false) up ∙ ap
    (λ (b : Bool). cond b true (is_some (victim s.pool.frames))) full ∙ ap is_some some)
    (ap (λ (b : Bool). cond b None (victim s.pool.frames)) full ∙ some) f
