-- The other events of a device: the second part of a write, what it does by itself, and losses.
use Rattle.std.specs.Prelude.{ℕ, Bool, Option, Some, None, if◌then◌else◌}
use Rattle.ckd_chain.specs.declared.progress.Settled.TheVariants.{Written, Equipment}
use Rattle.ckd_chain.specs.State.{ChainState}
use Rattle.loss_model.specs.declared.Loss.{Loss}
use Rattle.loss_model.specs.declared.Loss.TheVariants as losses
use Rattle.plain_defs.specs.History.{OpenEntry}
use Rattle.track_image.specs.Image.{Image}
use Rattle.device_outside.specs.Volume.{counted}
use Rattle.device_outside.specs.Interaction.{Interaction, Done, and_then}
use Rattle.device_defs.specs.declared.answers.Came.{Came}
use Rattle.device_defs.specs.declared.answers.Came.TheVariants.{Ends, Checks, HalfOpen}
use Rattle.device_defs.specs.declared.answers.Did.{Did}
use Rattle.device_defs.specs.declared.answers.SecondEnd.{SecondEnd}
use Rattle.device_defs.specs.declared.answers.SecondEnd.TheVariants.{Ended, Finished, Unwritten}
use Rattle.device_defs.specs.declared.counts.Losses.{Losses}
use Rattle.device_defs.specs.Background.{work}
use Rattle.device_defs.specs.Contents.{Contents}
use Rattle.device_defs.specs.Device.{Device, with_store, event}
use Rattle.device_defs.specs.Losses.{side_lost, cache_lost, store_lost, all_firm_told}
use Rattle.device_defs.specs.Second.{second_part}
use Rattle.device_defs.specs.Store.{Origin, OfCommand, OfCut, OfBackground, HalfWrite, Store, tracks_of}
use Rattle.device_defs.specs.Outcomes.{Turn, settles, checks, turned}

abbrev pub one_loss_more : Losses → Loss → Losses
one_loss_more l losses.Cache = record l { cache = counted l.cache }
one_loss_more l losses.Store = record l { store = counted l.store }
one_loss_more l (losses.Side side) = record l { sides = counted l.sides }

module _ {F P H : Type 0} where
  abbrev pub with_loss : Store F P H → Loss → Store F P H
  with_loss s loss = record s { counts = record s.counts { losses = one_loss_more s.counts.losses loss } }

module _ {F P H R : Type 0} (c : Contents F P H R) where
  -- The second part

  abbrev pub second_told : ℕ → Came → SecondEnd
  second_told t (Ends e) = Ended e
  second_told t (Checks e) = Ended e
  second_told t (HalfOpen q) = Finished t

  -- the command whose write it was ends: well, or with equipment check
  abbrev pub second_turn : ChainState → Bool → Turn
  second_turn chain done = if done then settles chain Written else checks chain Equipment

  abbrev pub command_ended : Device F P H → ℕ → Option OpenEntry → Option ChainState → Bool → Interaction R Image (Device F P H) SecondEnd
  command_ended d t (Some o) (Some chain) done =
      let turn = second_turn chain done in Done (turned d o.path turn) (second_told t turn.came)
  command_ended d t _ _ done = Done d (Unwritten t)

  abbrev pub second_ended : Device F P H → ℕ → Origin → Bool → Interaction R Image (Device F P H) SecondEnd
  second_ended d t (OfCommand bypass e) done = command_ended d t d.history.running d.chain done
  second_ended d t (OfCut bypass) done = Done d (if done then Finished t else Unwritten t)
  second_ended d t OfBackground done = Done d (if done then Finished t else Unwritten t)

  abbrev pub second_of : Device F P H → Option (HalfWrite H) → Interaction R Image (Device F P H) SecondEnd
  second_of d (Some h) =
      and_then (second_part c d.store h) (λ s done. second_ended (with_store d s) h.track h.origin done)
  second_of d None = Done d (Unwritten 0)

  -- while a half write is open
  unfoldable pub second : Device F P H → Interaction R Image (Device F P H) SecondEnd
  second d = event c d (λ z. second_of z z.store.half)

  -- By itself

  -- while no half write is open
  unfoldable pub background : Device F P H → Interaction R Image (Device F P H) (Option Did)
  background d = event c d (λ z. and_then (work c z.store) (λ s did. Done (with_store z s) did))

  -- Losses

  abbrev pub lost_by : Store F P H → Loss → Store F P H
  lost_by s losses.Cache = cache_lost c s
  lost_by s losses.Store = store_lost c s
  lost_by s (losses.Side side) = side_lost c s side None

  abbrev pub losing : Store F P H → Loss → Interaction R Image (Store F P H) (Unit {0})
  losing s loss = all_firm_told c (tracks_of s) (lost_by (with_loss s loss) loss)

  unfoldable pub lose : Device F P H → Loss → Interaction R Image (Device F P H) (Unit {0})
  lose d loss = event c d (λ z. and_then (losing z.store loss) (λ s _. Done (with_store z s) tt))
