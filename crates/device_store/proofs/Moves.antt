-- Runs from equal states, and what is known of memory and of what was heard.
use Rattle.std.proofs.Common.{◌≡◌, ℕ, Bool, true, refl, subst}
use Rattle.std.specs.Prelude.{Result, Ok, Err}
use Rattle.device_outside.specs.Keeper.{Heard, Hearing}
use Rattle.device_outside.specs.Interaction.{Interaction}
use Rattle.device_outside.specs.Outside.{Outside, Ran, done, tried, asked, read, wrote, told, where_ok}
use Rattle.device_outside.proofs.Runs.{ran_weaker}
use Rattle.device_store.specs.State.{surely}

-- memory that was had
pub had_ok : {X E : Type 0} (r : Result X E) → where_ok r true
had_ok (Ok x) = refl
had_ok (Err e) = tt

less_known : {X E : Type 0} (r : Result X E) (ok : Bool) → surely ok → where_ok r ok
less_known (Ok x) ok is = is
less_known (Err e) ok is = tt

pub weaker : {R I K S A X E : Type 0} {hears : Hearing I K} {i : Interaction R I S A} {v w : Outside R K} {s : S} {a : A} (r : Result X E) →
    Ran surely hears i v s a w → Ran (where_ok r) hears i v s a w
weaker r ran = ran_weaker (less_known r) ran

-- the same run, from an equal state and an equal outside
pub from_equal : {R I K S A T : Type 0} {had : Bool → Type 0} {hears : Hearing I K} (f : T → Interaction R I S A) {x y : T} {v w z : Outside R K}
    {s : S} {a : A} → x ≡ y → v ≡ w → Ran had hears (f x) v s a z → Ran had hears (f y) w s a z
from_equal {had = had} {hears = hears} f {x} {y} {v} {w} {z} {s} {a} same there ran =
    subst (λ o. Ran had hears (f y) o s a z) there (subst (λ u. Ran had hears (f u) v s a z) same ran)

-- the same run, to an equal outside
pub lands : {R I K S A : Type 0} {had : Bool → Type 0} {hears : Hearing I K} {i : Interaction R I S A} {v w z : Outside R K} {s : S} {a : A} →
    w ≡ z → Ran had hears i v s a w → Ran had hears i v s a z
lands {had = had} {hears = hears} {i = i} {v = v} {s = s} {a = a} there ran = subst (λ o. Ran had hears i v s a o) there ran

-- the same run, with nothing said of what the keeper may still be called with
pub heard_alone : {R I K S A : Type 0} {had : Bool → Type 0} {hears : Hearing I K} {may : K → ℕ → ℕ → I → Type 0} {i : Interaction R I S A}
    {v w : Outside R K} {s : S} {a : A} → Ran had (Heard hears may) i v s a w → Ran had hears i v s a w
heard_alone done = done
heard_alone (tried ok x h) = tried ok x (heard_alone h)
heard_alone (asked says h) = asked says (heard_alone h)
heard_alone (read is says h) = read is says (heard_alone h)
heard_alone (wrote is says h) = wrote is says (heard_alone h)
heard_alone (told r heard x h) = told r heard.moves x (heard_alone h)
