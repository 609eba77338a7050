-- The volume of a device that lends it is no volume of its own any more.
use Rattle.std.proofs.Common.{◌≡◌, ◌∙◌, Bool, true, false, Option, Some, None, refl, sym}
use Rattle.ckd_types.specs.declared.paths.Side.{Side}
use Rattle.ckd_types.specs.declared.paths.Side.TheVariants as sides
use Rattle.device_outside.specs.Volume.{VolumeView}
use Rattle.device_outside.specs.Keeper.{Hearing}
use Rattle.device_outside.specs.Interaction.{Interaction}
use Rattle.device_outside.specs.Outside.{Outside, Ran, view_of, done, tried, asked, read, wrote, told}

no_view : {R K : Type 0} (w : Outside R K) (side : Side) (v : VolumeView R) → view_of w side ≡ Some v → w.a ≡ None → w.b ≡ None → ⊥
no_view w sides.A v is a b = let no : None ≡ Some v = sym a ∙ is in absurd (cc)
no_view w sides.B v is a b = let no : None ≡ Some v = sym b ∙ is in absurd (cc)

-- what is run beside no volume is run beside any that it leaves alone
pub beside : {R I K S A : Type 0} {had : Bool → Type 0} {hears : Hearing I K} {i : Interaction R I S A} {w z : Outside R K} {s : S} {o : A}
    (x : Option (VolumeView R)) → Ran had hears i w s o z → w.a ≡ None → w.b ≡ None → Ran had hears i (record w { a = x }) s o (record z { a = x })
beside x done a b = done
beside x (tried ok h r) a b = tried ok h (beside x r a b)
beside x (asked h r) a b = asked h (beside x r a b)
beside {w = w} x (read {side = side} {v = v} is h r) a b = absurd (no_view w side v is a b)
beside {w = w} x (wrote {side = side} {v = v} is h r) a b = absurd (no_view w side v is a b)
beside x (told l h m r) a b = told l h m (beside x r a b)

-- a side that isn't there isn't up
pub down_alone : (up there : Bool) → (up ≡ true → there ≡ true) → there ≡ false → up ≡ false
down_alone false there f none = refl
down_alone true there f none = let no : true ≡ false = sym (f refl) ∙ none in absurd (cc)
