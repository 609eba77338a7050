-- A command that wrote a volume chose to write through.
use Rattle.std.proofs.Common.{◌≡◌, ℕ, Bool, List, Option, Some}
use Rattle.track_image.specs.Image.{Image}
use Rattle.ckd_chain.specs.State.{ChainState}
use Rattle.ckd_chain.specs.Steps.{need_of}
use Rattle.plain_defs.specs.History.{OpenEntry}
use Rattle.device_outside.specs.Keeper.{Hearing}
use Rattle.device_outside.specs.Outside.{Outside, Ran}
use Rattle.device_defs.specs.declared.answers.Choice.{Choice}
use Rattle.device_defs.specs.declared.answers.Choice.TheVariants.{Fast, Provisional, Through}
use Rattle.device_defs.specs.declared.answers.Stepped.{Stepped}
use Rattle.device_defs.specs.Choosing.{choose}
use Rattle.device_defs.specs.Contents.{contents}
use Rattle.device_defs.specs.Outcomes.{Turn, usage_of}
use Rattle.device_defs.specs.Sound.{DeviceStore}
use Rattle.device_defs.specs.Store.{tracks_of}
use Rattle.device_laws.specs.Moved.{Counted, choice_writes, sides_writing}
use Rattle.device_laws.specs.Seen as seen
use Rattle.device_laws.specs.Seen.{CameAsSeen, CommandCame, Look, Noticed, Saw, WentOn, Wrote}
use Rattle.device_laws.specs.Whole.{WholeDevice}
use Rattle.device_core.specs.Promises as promises
use Rattle.device_core.specs.Promises.{EndsSeen, FastWritesNone, NoneOrThrough}

module _ {K : Type 0} (had : Bool → Type 0) (hears : Hearing Image K) (d e : WholeDevice) (chain : ChainState) (u : Outside (List ℕ) K) where
  module _ {s x y : DeviceStore} {v w p : Outside (List ℕ) K} {looks : List Look} {final : ChainState} {t : ℕ} {i : Image} {reads sum : ℕ}
      (begun : Noticed had hears d u s v) (went : WentOn had hears chain s v looks final x w) (needs : need_of final ≡ Some t)
      (saw : Saw had hears x (usage_of final) t w i reads y p) where
    by_choice : {q : Outside (List ℕ) K} (choice : Choice) (half : Bool) → Ran had hears (choose contents y (usage_of final) t) p y choice q →
        Counted sum (choice_writes (sides_writing y) choice half) d.store.counts e.store.counts → NoneOrThrough had hears d chain u e
    by_choice Provisional half ran made = promises.none made.write_count
    by_choice (Fast slot) half ran made = promises.none made.write_count
    by_choice {q = q} Through half ran made =
        promises.through s x y v w p q looks final t i reads half begun went needs saw ran made.write_count

    by_write : {z : DeviceStore} {k : Outside (List ℕ) K} {asked half : Bool} {writes : ℕ} →
        Wrote had hears (usage_of final) t y p asked half writes z k → Counted sum writes d.store.counts e.store.counts →
        NoneOrThrough had hears d chain u e
    by_write (seen.no_write by is quiet) made = promises.none made.write_count
    by_write {half = half} (seen.wrote q choice by ran quiet own) made = by_choice choice half ran made

  by_looks : {s : DeviceStore} {v w : Outside (List ℕ) K} {turn : Turn} → Noticed had hears d u s v →
      CameAsSeen had hears (tracks_of d.store) d.store.geometry chain s v turn d.store.counts e.store.counts w → NoneOrThrough had hears d chain u e
  by_looks begun (seen.came looks final t i reads writes x y z p q went needs saw last ends made) = by_write begun went needs saw last made
  by_looks begun (seen.unseen looks final t reads x y p checks went needs none made) = promises.none made.write_count
  by_looks begun (seen.too_many looks final x count checks went made) = promises.none made.write_count

  by_command : {o : OpenEntry} {a : Stepped} {z : Outside (List ℕ) K} → CommandCame had hears d o chain u a e z → NoneOrThrough had hears d chain u e
  by_command (seen.data_lost lost kept quiet made) = promises.none made.write_count
  by_command (seen.looked t s v w turn needs begun looks quiet kept) = by_looks begun looks
  by_command (seen.asked turn needs quiet ends kept made) = promises.none made.write_count

pub fast_writes_none : {K : Type 0} {had : Bool → Type 0} {hears : Hearing Image K} (d : WholeDevice) {e : WholeDevice} {u z : Outside (List ℕ) K}
    {a : Option Stepped} → EndsSeen had hears d u e a z → FastWritesNone had hears d u e a
fast_writes_none {had = had} {hears = hears} d {e = e} {u = u} ends o chain x running now is =
    by_command had hears d e chain u (ends o chain x running now is)
