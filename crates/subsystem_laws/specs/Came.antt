-- What an interaction over marks can come to where memory is had, whatever is answered: each read that doesn't fail delivers a track.
use Rattle.std.specs.Prelude.{◌≡◌, Bool, true, Option, Some, None, if◌then◌else◌}
use Rattle.device_outside.specs.Interaction.{Interaction, Done, Try, Ask, Read, Write, Tell}
use Rattle.device_outside.specs.Keeper.{reply}
use Rattle.device_outside.specs.Pool.{AnswerTo}

-- what a read hands over
abbrev pub delivered : Bool → Option Bool
delivered ok = if ok then Some true else None

unfoldable pub Came : {I S A : Type 0} → Interaction Bool I S A → S → A → Type 0
Came (Done s a) y b = (y ≡ s) × (b ≡ a)
Came (Try k) y b = Came (k true) y b
Came (Ask call k) y b = (a : AnswerTo call) × Came (k a) y b
Came (Read side t k) y b = (ok : Bool) × Came (k (delivered ok)) y b
Came (Write side t r k) y b = (ok : Bool) × Came (k ok) y b
Came (Tell m k) y b = Came (k (reply m)) y b

pub record CameTo {I S A : Type 0} (i : Interaction Bool I S A) : Type 0 where
  pub state : S
  pub answer : A
  pub is : Came i state answer
