-- How interactions are run.
use Rattle.std.proofs.Common.{◌≡◌, ℕ, Bool, Option, Some, subst}
use Rattle.ckd_types.specs.declared.paths.Side.TheVariants as sides
use Rattle.device_outside.specs.Pool.{Call, AnswerTo}
use Rattle.device_outside.specs.Volume.{VolumeView, ReadOf, WriteOf}
use Rattle.device_outside.specs.Keeper.{Message, BeforeEdit, Firm, ReplyTo, Hearing}
use Rattle.device_outside.specs.Interaction.{Interaction, Done, Try, Ask, Read, Write, Tell, and_then}
use Rattle.device_outside.specs.Outside.{PortView, Answered, Outside, Had, Ran, done, tried, asked, read, wrote, told}

module _ {R I K : Type 0} {had : Bool → Type 0} {hears : Hearing I K} where
  -- it ends in an equal state, with an equal answer
  pub ended : {S A : Type 0} {s z : S} {a b : A} {w : Outside R K} → s ≡ z → a ≡ b → Ran had hears (Done s a) w z b w
  ended {s = s} {a = a} {b = b} {w = w} is says = subst (λ x. Ran had hears (Done s a) w x b w) is (subst (λ y. Ran had hears (Done s a) w s y w) says done)

  -- the constructors as functions, which are applied before their last argument is known
  pub tries : {S A : Type 0} {k : Bool → Interaction R I S A} {w z : Outside R K} {s : S} {o : A} → (ok : Bool) →
      had ok → Ran had hears (k ok) w s o z → Ran had hears (Try k) w s o z
  tries ok x h = tried ok x h

  pub asks : {S A : Type 0} {call : Call} {a : AnswerTo call} {k : AnswerTo call →
      Interaction R I S A} {p : PortView} {w z : Outside R K} {s : S} {o : A} → Answered w.port call a p →
      Ran had hears (k a) (record w { port = p }) s o z → Ran had hears (Ask call k) w s o z
  asks says h = asked says h

  pub reads_a : {S A : Type 0} {t : ℕ} {got : Option R} {k : Option R →
      Interaction R I S A} {v u : VolumeView R} {w z : Outside R K} {s : S} {o : A} → w.a ≡ Some v →
      ReadOf v t got u → Ran had hears (k got) (record w { a = Some u }) s o z →
      Ran had hears (Read sides.A t k) w s o z
  reads_a is gives h = read is gives h

  pub reads_b : {S A : Type 0} {t : ℕ} {got : Option R} {k : Option R →
      Interaction R I S A} {v u : VolumeView R} {w z : Outside R K} {s : S} {o : A} → w.b ≡ Some v →
      ReadOf v t got u → Ran had hears (k got) (record w { b = Some u }) s o z →
      Ran had hears (Read sides.B t k) w s o z
  reads_b is gives h = read is gives h

  pub writes_a : {S A : Type 0} {t : ℕ} {r : R} {ok : Bool} {k : Bool →
      Interaction R I S A} {v u : VolumeView R} {w z : Outside R K} {s : S} {o : A} → w.a ≡ Some v →
      WriteOf v t r ok u → Ran had hears (k ok) (record w { a = Some u }) s o z →
      Ran had hears (Write sides.A t r k) w s o z
  writes_a is takes h = wrote is takes h

  pub writes_b : {S A : Type 0} {t : ℕ} {r : R} {ok : Bool} {k : Bool →
      Interaction R I S A} {v u : VolumeView R} {w z : Outside R K} {s : S} {o : A} → w.b ≡ Some v →
      WriteOf v t r ok u → Ran had hears (k ok) (record w { b = Some u }) s o z →
      Ran had hears (Write sides.B t r k) w s o z
  writes_b is takes h = wrote is takes h

  pub tells : {S A : Type 0} {m : Message I} {k : ReplyTo m → Interaction R I S A} {l : K} {w z : Outside R K}
      {s : S} {o : A} → (r : ReplyTo m) → hears w.keeper m r l → Had had m r →
      Ran had hears (k r) (record w { keeper = l }) s o z → Ran had hears (Tell m k) w s o z
  tells r heard x h = told r heard x h

  -- one after another
  pub joined : {S T A B : Type 0} {first : Interaction R I S A} (rest : S → A →
      Interaction R I T B) {u v w : Outside R K} {s : S} {z : T} {a : A} {b : B} → Ran had hears first u s a v →
      Ran had hears (rest s a) v z b w → Ran had hears (and_then first rest) u z b w
  joined rest done r = r
  joined rest (tried ok x h) r = tried ok x (joined rest h r)
  joined rest (asked a h) r = asked a (joined rest h r)
  joined rest (read is a h) r = read is a (joined rest h r)
  joined rest (wrote is a h) r = wrote is a (joined rest h r)
  joined rest (told y a x h) r = told y a x (joined rest h r)

had_weaker : {I : Type 0} {had less : Bool → Type 0} (m : Message I) (r : ReplyTo m) → ((ok : Bool) → had ok → less ok) → Had had m r → Had less m r
had_weaker (BeforeEdit d t i) ok f x = f ok x
had_weaker (Firm d t i) r f x = x

-- less may be known of memory
pub ran_weaker : {R I K S A : Type 0} {had less : Bool → Type 0} {hears : Hearing I K} {i : Interaction R I S A}
    {v w : Outside R K} {s : S} {a : A} → ((ok : Bool) → had ok → less ok) → Ran had hears i v s a w →
    Ran less hears i v s a w
ran_weaker f done = done
ran_weaker f (tried ok x h) = tried ok (f ok x) (ran_weaker f h)
ran_weaker f (asked a h) = asked a (ran_weaker f h)
ran_weaker f (read is a h) = read is a (ran_weaker f h)
ran_weaker f (wrote is a h) = wrote is a (ran_weaker f h)
ran_weaker f (told {m = m} r a x h) = told r a (had_weaker m r f x) (ran_weaker f h)
