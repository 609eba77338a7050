-- What a keeper hears in a look is what it is told in that of a run.
use Rattle.std.proofs.Common.{◌≡◌, ◌<◌, ℕ, true, false, List, [], Option, Some, None, sym, ap, subst, ◌∙◌}
use Rattle.track_image.specs.Image.{Image}
use Rattle.device_outside.specs.Hears.{HeardAll}
use Rattle.device_outside.specs.Keeper.{Hearing}
use Rattle.device_outside.specs.Pool.{Pool, counted_slots}
use Rattle.device_outside.proofs.Link.{linked_hears}
use Rattle.device_defs.specs.Contents.{contents}
use Rattle.device_defs.specs.Peek.{Peeked, peek}
use Rattle.device_defs.specs.Store.{tracks_of}
use Rattle.device_laws.specs.Whole.{WholeTwin}
use Rattle.subsystem_defs.specs.Happening.{told_to}
use Rattle.subsystem_defs.specs.Subsystem.{Mounted, mounted_in}
use Rattle.subsystem_laws.specs.WholeComes.{subsystem_of, Changes}
use Rattle.subsystem_laws.specs.WholeStood.{Stood, is_mounted, AreMounted}
use Rattle.subsystem_laws.proofs.WholeFinding.{Found, none_found, both_found, find}
use Rattle.subsystem_laws.proofs.WholeTalks.{LeavesSo, stands, mounts, tells}
use Rattle.subsystem_laws.specs.Looking.{is_written_at, messages_at, look_messages, AskedWith}
use Rattle.subsystem_laws.proofs.looking.Talks.{marked_same, peek_twins}

some_is : {X : Type 0} {x y : X} → Some x ≡ Some y → x ≡ y
some_is e = cc

module _ {K : Type 0} (hears : Hearing Image K) (keeper later : K) (p q : Pool) (xs ys : List Stood) (ms : List Mounted) (n t : ℕ) (m : Mounted) (f : Peeked)
    (there : mounted_in ms n ≡ Some m) (may : is_written_at m.device.store.half t ≡ false) (lt : t < tracks_of m.device.store)
    (came : Changes n (λ x y. AskedWith hears keeper later (peek contents x.device t) (Some f) p x y q) xs ys) where
  by_found : Found p.used [] xs ms n → HeardAll hears keeper (look_messages (subsystem_of p ms) n t) later
  by_found (none_found s e) = absurd (let no : None ≡ Some m = sym e ∙ there in cc)
  by_found (both_found x k mine others s e (is_mounted d v w h on_a on_b a b is slots told_a told_b) shared number put) =
      let same : mounts v w d a b ≡ m = some_is (sym e ∙ there) in
      let here : came.before ≡ stands d on_a on_b = some_is (sym came.stood ∙ s) in
      let free : is_written_at d.store.half t ≡ false =
      sym (marked_same d.store.half t) ∙ ap (λ (u : Mounted). is_written_at u.device.store.half t) same ∙ may in
      let below : t < tracks_of d.store = subst (λ (u : Mounted). t < tracks_of u.device.store) (sym same) lt in
      let asked = subst (λ (u : Stood). AskedWith hears keeper later (peek contents u.device t) (Some f) p u came.behind q) here came.is_so in
      subst (λ (u : Option Mounted). HeardAll hears keeper (messages_at (subsystem_of p ms) t u) later) (sym e)
      (linked_hears others (λ ok e. e) [] true (WholeTwin LeavesSo) h (told_to (counted_slots p) (mounts v w d a b)) (peek_twins v w d h t below free is).twins
      asked.ran (tells p d v w h mine others on_a on_b a b slots shared told_a told_b asked.port keeper asked.pool_before))

pub look_is_heard : {K : Type 0} (hears : Hearing Image K) (keeper later : K) (p q : Pool) (xs ys : List Stood) (ms : List Mounted) (n t : ℕ) (m : Mounted)
    (f : Peeked) → AreMounted p xs ms → mounted_in ms n ≡ Some m → is_written_at m.device.store.half t ≡ false → t < tracks_of m.device.store →
    Changes n (λ x y. AskedWith hears keeper later (peek contents x.device t) (Some f) p x y q) xs ys →
    HeardAll hears keeper (look_messages (subsystem_of p ms) n t) later
look_is_heard hears keeper later p q xs ys ms n t m f all there may lt came =
    by_found hears keeper later p q xs ys ms n t m f there may lt came (find p.used [] xs ms n all)
