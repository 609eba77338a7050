-- What holds behind an interaction where memory is had holds where it was run so.
use Rattle.std.proofs.Common.{◌≡◌, Bool, true, refl, sym, subst}
use Rattle.track_image.specs.Image.{Image}
use Rattle.device_outside.specs.Interaction.{Interaction}
use Rattle.device_outside.specs.Keeper.{Message, BeforeEdit, Firm, ReplyTo, Hearing, reply}
use Rattle.device_outside.specs.Outside as outsides
use Rattle.device_outside.specs.Outside.{Outside, Ran, done, tried, asked, read, wrote, told}
use Rattle.device_outside.specs.Pool.{Call}
use Rattle.device_laws.proofs.Based.{Base, Based}
use Rattle.device_laws.proofs.Had as H
use Rattle.device_laws.proofs.Had.{BehindHad, Had}
use Rattle.device_laws.proofs.PlainEvents.{had_always}
use Rattle.subsystem_laws.proofs.LendBase.{IsStill, stays_still}

abbrev pub is_had : Bool → Type 0
is_had ok = ok ≡ true

reply_is : {I : Type 0} (m : Message I) (r : ReplyTo m) → outsides.Had is_had m r → r ≡ reply m
reply_is (BeforeEdit d t i) r h = h
reply_is (Firm d t i) r h = refl

module _ {R I K S A : Type 0} {hears : Hearing I K} (q : S → A → Type 0) where
  behind_ran : {i : Interaction R I S A} {w z : Outside R K} {s : S} {a : A} → Ran is_had hears i w s a z → BehindHad i q → q s a
  unfolding H.BehindHad
  behind_ran done h = h
  behind_ran (tried {k = k} ok x r) h = behind_ran r (subst (λ (b : Bool). BehindHad (k b) q) (sym x) h)
  behind_ran (asked {a = a} y r) h = behind_ran r (h a)
  behind_ran (read {got = got} is y r) h = behind_ran r (h got)
  behind_ran (wrote {ok = ok} is y r) h = behind_ran r (h ok)
  behind_ran (told {m = m} {k = k} a y x r) h = behind_ran r (subst (λ (b : ReplyTo m). BehindHad (k b) q) (sym (reply_is m a x)) h)

  pub ran_so : {i : Interaction R I S A} {w z : Outside R K} {s : S} {a : A} → Ran is_had hears i w s a z → Had i q → q s a
  ran_so r h = behind_ran r h.holds

-- what a device is stays
pub had_still : {R S A : Type 0} {base : S → Base} {may : Call → Type 0} {b : Base} {i : Interaction R Image S A} → Based base may b i → Had i (λ s a. IsStill b (base s))
had_still x = had_always (stays_still x)
