-- What port, volumes and keeper tell, and what it means that an interaction was run with them.
use Rattle.std.specs.Prelude.{◌≡◌, ℕ, Bool, true, false, Option, Some, None, Result, Ok, Err, not}
use Rattle.ckd_types.specs.declared.paths.Side.{Side}
use Rattle.ckd_types.specs.declared.paths.Side.TheVariants.{A, B}
use Rattle.device_outside.specs.declared.port.Grant.{Grant}
use Rattle.device_outside.specs.declared.port.Grant.TheVariants.{Given, Denied}
use Rattle.device_outside.specs.Pool.{Pool, Call, WantFrame, AnswerTo, IsAnswer, after}
use Rattle.device_outside.specs.Volume.{VolumeView, ReadOf, WriteOf, counted_if}
use Rattle.device_outside.specs.Keeper.{Message, BeforeEdit, Firm, ReplyTo, Hearing}
use Rattle.device_outside.specs.Interaction.{Interaction, Done, Try, Ask, Read, Write, Tell}

-- what a port tells
pub record PortView : Type 0 where
  pub pool : Option Pool  -- where told
  pub denials : ℕ  -- how often it denied a frame

-- it tells no pool
abbrev pub no_pool : ℕ → PortView
no_pool denials = record { pool = None; denials = denials }

abbrev pub is_given : Grant → Bool
is_given Given = true
is_given Denied = false

-- whether a frame was denied
abbrev pub denies : (c : Call) → AnswerTo c → Bool
denies (WantFrame d t) a = not a
denies c a = false

abbrev pub ByPool : Option Pool → (c : Call) → AnswerTo c → Option Pool → Type 0
ByPool None call a new = new ≡ None
ByPool (Some p) call a new = IsAnswer p call a × (new ≡ Some (after p call a))

-- a call of a port with this answer
pub record Answered (old : PortView) (call : Call) (a : AnswerTo call) (new : PortView) : Type 0 where
  pub by_pool : ByPool old.pool call a new.pool
  pub denials : new.denials ≡ counted_if (denies call a) old.denials

-- the same of a call that may lack memory, which then changes nothing. The grant is seen by view
abbrev pub WantedFrame : {G E : Type 0} → PortView → (call : Call) → (G → AnswerTo call) → Result G E → PortView → Type 0
WantedFrame old call view (Ok grant) new = Answered old call (view grant) new
WantedFrame old call view (Err e) new = new ≡ old

-- the port, the two sides and the keeper; a device that has no such side asks nothing of it
pub record Outside (R K : Type 0) : Type 0 where
  pub port : PortView
  pub a : Option (VolumeView R)
  pub b : Option (VolumeView R)
  pub keeper : K

abbrev pub view_of : {R K : Type 0} → Outside R K → Side → Option (VolumeView R)
view_of w A = w.a
view_of w B = w.b

abbrev pub with_view : {R K : Type 0} → Outside R K → Side → VolumeView R → Outside R K
with_view w A v = record w { a = Some v }
with_view w B v = record w { b = Some v }

-- whether a keeper had memory
abbrev pub Had : {I : Type 0} → (Bool → Type 0) → (m : Message I) → ReplyTo m → Type 0
Had had (BeforeEdit d t i) ok = had ok
Had had (Firm d t i) r = Unit {0}

-- The interaction was run between these two outsides, and left this state with this answer. What is known of memory is had.
pub data Ran {R I K S A : Type 0} (had : Bool → Type 0) (hears : Hearing I K) : Interaction R I S A → Outside R K → S → A → Outside R K → Type 0 where
  done : {s : S} {a : A} {w : Outside R K} → Ran had hears (Done s a) w s a w
  tried : {k : Bool → Interaction R I S A} {w z : Outside R K} {s : S} {o : A} → (ok : Bool) → had ok →
      Ran had hears (k ok) w s o z → Ran had hears (Try k) w s o z
  asked : {call : Call} {a : AnswerTo call} {k : AnswerTo call →
      Interaction R I S A} {p : PortView} {w z : Outside R K} {s : S} {o : A} → Answered w.port call a p →
      Ran had hears (k a) (record w { port = p }) s o z → Ran had hears (Ask call k) w s o z
  read : {side : Side} {t : ℕ} {k : Option R → Interaction R I S A} {got : Option R} {v u : VolumeView R}
      {w z : Outside R K} {s : S} {o : A} → view_of w side ≡ Some v → ReadOf v t got u →
      Ran had hears (k got) (with_view w side u) s o z → Ran had hears (Read side t k) w s o z
  wrote : {side : Side} {t : ℕ} {r : R} {k : Bool → Interaction R I S A} {ok : Bool} {v u : VolumeView R}
      {w z : Outside R K} {s : S} {o : A} → view_of w side ≡ Some v → WriteOf v t r ok u →
      Ran had hears (k ok) (with_view w side u) s o z → Ran had hears (Write side t r k) w s o z
  told : {m : Message I} {k : ReplyTo m → Interaction R I S A} {l : K} {w z : Outside R K} {s : S} {o : A} →
      (r : ReplyTo m) → hears w.keeper m r l → Had had m r → Ran had hears (k r) (record w { keeper = l }) s o z →
      Ran had hears (Tell m k) w s o z

-- memory was had, where the answer doesn't say that it was lacking
abbrev pub where_ok : {X E : Type 0} → Result X E → Bool → Type 0
where_ok (Ok x) ok = ok ≡ true
where_ok (Err e) ok = Unit {0}
