-- What an event comes to with a keeper that is known, where the pool is told and memory is had.
use Rattle.std.specs.Prelude.{◌≡◌, List, [], ◌∷◌, Some}
use Rattle.track_image.specs.Image.{Image}
use Rattle.device_outside.specs.Keeper.{Hearing}
use Rattle.device_outside.specs.Pool.{Pool}
use Rattle.device_defs.specs.Contents.{contents}
use Rattle.device_laws.specs.Whole.{WholeDevice}
use Rattle.subsystem_defs.specs.declared.end.EventEnd.{EventEnd}
use Rattle.subsystem_defs.specs.declared.end.EventEnd.TheVariants.{Done}
use Rattle.subsystem_defs.specs.declared.event.Event.{Event}
use Rattle.subsystem_defs.specs.Deeds.{Asks, Each, deed}
use Rattle.subsystem_laws.specs.WholeComes.{OwnDeed, OwnTalk, Changes, CameBy}
use Rattle.subsystem_laws.specs.WholeStood.{Stood, devices_at}
use Rattle.subsystem_laws.specs.Looking.{AskedWith}

module _ {K : Type 0} (hears : Hearing Image K) where
  -- each device in its turn, and the keeper goes on from one to the next
  pub data SweptWith (f : WholeDevice → OwnTalk (Unit {0})) : Pool → K → List Stood → List Stood → Pool → K → Type 0 where
    all_swept : {pool : Pool} {keeper : K} → SweptWith f pool keeper [] [] pool keeper
    one_swept : {pool behind last : Pool} {keeper between later : K} {x y : Stood} {xs ys : List Stood} →
        AskedWith hears keeper between (f x.device) tt pool x y behind → SweptWith f behind between xs ys last later →
        SweptWith f pool keeper (x ∷ xs) (y ∷ ys) last later

  -- where no device is asked it hears nothing, nor of a volume that is lent
  abbrev pub CameWith : OwnDeed → Pool → K → List Stood → EventEnd → Pool → K → List Stood → Type 0
  CameWith (Asks d talk) pool keeper old e new_pool later new =
      Changes d.store.device (λ x y. AskedWith hears keeper later talk (Some e) pool x y new_pool) old new
  CameWith (Each swept f) pool keeper old e new_pool later new = (e ≡ Done) × SweptWith f swept keeper old new new_pool later
  CameWith d pool keeper old e new_pool later new = CameBy hears d pool old e new_pool new × (later ≡ keeper)

  -- an event came, and ended so
  abbrev pub ComesWith : Event → Pool → K → List Stood → EventEnd → Pool → K → List Stood → Type 0
  ComesWith e pool keeper old end new_pool later new = CameWith (deed contents pool (devices_at old) e) pool keeper old end new_pool later new
