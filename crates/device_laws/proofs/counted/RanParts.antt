-- The runs of two interactions one behind the other, and of one that calls no volume.
use Rattle.std.proofs.Common.{Bool, refl, ◌∙◌}
use Rattle.track_image.specs.Image.{Image}
use Rattle.device_outside.specs.Interaction.{Interaction, Done, Try, Ask, Read, Write, Tell, and_then}
use Rattle.device_outside.specs.Keeper.{Hearing}
use Rattle.device_outside.specs.Outside.{Outside, Ran, done, tried, asked, read, wrote, told}
use Rattle.device_laws.proofs.QuietParts.{Quiet, quiet_done, quiet_try, quiet_ask, quiet_tell}
use Rattle.device_laws.specs.Seen.{NotCalled}

pub same_calls : {R K : Type 0} {u v w : Outside R K} → NotCalled u v → NotCalled v w → NotCalled u w
same_calls x y = record { a = y.a ∙ x.a; b = y.b ∙ x.b }

-- what stands between two
pub record Split {R K S T X Y : Type 0} (had : Bool → Type 0) (hears : Hearing Image K) (i : Interaction R Image S X)
    (f : S → X → Interaction R Image T Y) (u : Outside R K) (e : T) (o : Y) (z : Outside R K) : Type 0 where
  pub state : S
  pub answer : X
  pub outside : Outside R K
  pub first : Ran had hears i u state answer outside
  pub rest : Ran had hears (f state answer) outside e o z

module _ {R K : Type 0} {had : Bool → Type 0} {hears : Hearing Image K} where
  pub split : {S T X Y : Type 0} (i : Interaction R Image S X) (f : S → X → Interaction R Image T Y) {u z : Outside R K} {e : T} {o : Y} →
      Ran had hears (and_then i f) u e o z → Split had hears i f u e o z
  split (Done s a) f r = record { state = s; answer = a; outside = _; first = done; rest = r }
  split (Try k) f (tried ok m r) =
      let y = split (k ok) f r in record { state = y.state; answer = y.answer; outside = y.outside; first = tried ok m y.first; rest = y.rest }
  split (Ask call k) f (asked {a = a} says r) =
      let y = split (k a) f r in record { state = y.state; answer = y.answer; outside = y.outside; first = asked says y.first; rest = y.rest }
  split (Read side t k) f (read {got = got} seen of r) =
      let y = split (k got) f r in record { state = y.state; answer = y.answer; outside = y.outside; first = read seen of y.first; rest = y.rest }
  split (Write side t b k) f (wrote {ok = ok} seen of r) =
      let y = split (k ok) f r in record { state = y.state; answer = y.answer; outside = y.outside; first = wrote seen of y.first; rest = y.rest }
  split (Tell m k) f (told q heard had r) =
      let y = split (k q) f r in record { state = y.state; answer = y.answer; outside = y.outside; first = told q heard had y.first; rest = y.rest }

  pub quiet_ran : {S X : Type 0} {i : Interaction R Image S X} {u z : Outside R K} {s : S} {a : X} → Quiet i → Ran had hears i u s a z → NotCalled u z
  quiet_ran quiet_done done = record { a = refl; b = refl }
  quiet_ran (quiet_try x) (tried ok m r) = quiet_ran (x ok) r
  quiet_ran (quiet_ask x) (asked {a = a} says r) = let y = quiet_ran (x a) r in record { a = y.a; b = y.b }
  quiet_ran (quiet_tell x) (told q heard had r) = let y = quiet_ran (x q) r in record { a = y.a; b = y.b }
