-- In the run of a deck that was read each frame of the pool is of one of the first 960 tracks.
use Rattle.std.proofs.Common.{◌≡◌, ◌<◌, ◌≤◌, ◌*◌, ◌%◌, ℕ, List, [], ◌∷◌, Option, Some, Ok, refl, subst, arith}
use Rattle.std.specs.Prelude.{All, IfSome}
use Rattle.std.proofs.lemmas.List.Elements.{All-cons, All-nil}
use Rattle.ckd_chain.specs.State.{ChainState}
use Rattle.deck_text.specs.DeckLines.{DeckLines}
use Rattle.deck_text.specs.Parse.{parsed}
use Rattle.deck_text.proofs.DeckAgain.{Each}
use Rattle.device_outside.specs.Pool.{Frame}
use Rattle.device_defs.specs.Marks.{MarksDevice}
use Rattle.device_laws.specs.InOrder.{AreBelow}
use Rattle.device_laws.specs.Standing.{IsWithin}
use Rattle.device_laws.proofs.ChainTracks.{whole_cylinders, within_stays}
use Rattle.device_laws.proofs.Sweeps.{all_queued}
use Rattle.report_reading.specs.Ranges.{IsTrack}
use Rattle.subsystem_defs.specs.Decks.{empty_firsts, run_of}
use Rattle.subsystem_laws.proofs.GoodMarks.{Good, by_lent, good_kept, opened_good, within}
use Rattle.subsystem_laws.proofs.ReadDecks.{read_served}
use Rattle.audit_laws.proofs.own.DeviceSizes.{Sized, first_sized, sized_kept}
use Rattle.device_laws.proofs.walks.Writes.{Stages}
use Rattle.device_laws.proofs.walks.Events.{Reaches, Begins}
use Rattle.audit_laws.proofs.own.FramesOwned.{own, AllOf, run_so}

-- a chain that stays on few tracks
record Near (chain : ChainState) : Type 0 where
  tracks : ℕ
  few : tracks ≤ 960
  whole : tracks % 15 ≡ 0
  within : IsWithin tracks chain

below_few : (t n : ℕ) → t < n → n ≤ 960 → IsTrack t
below_few t n less few = omega (arith, less, few)

-- one that stands on a track
abbrev On : ChainState → ℕ → Type 0
On chain t = Near chain × IsTrack t

near_reaches : (n : ℕ) → Reaches (own IsTrack n) n On
near_reaches n = record {
  wanted = λ chain t k. (refl, k.1);
  goes = λ chain t i q is e.
      let k = is.0 in
      let g = (within_stays k.tracks k.whole).goes chain i q k.within e in
      (record { tracks = k.tracks; few = k.few; whole = k.whole; within = g.0 }, below_few q k.tracks g.1 k.few);
}

few_tracks : (k : ℕ) → k ≤ 64 → k * 15 ≤ 960
few_tracks k most = omega (arith, most)

each_track : (n : ℕ) (queue : List ℕ) → n ≤ 960 → AreBelow n queue → Each IsTrack queue
each_track n [] few below = tt
each_track n (t ∷ ts) few below = (below_few t n below.0 few, each_track n ts few below.1)

module _ (d : MarksDevice) (good : Good d) (sized : Sized d) where
  chain_near : (o : Option ChainState) → d.chain ≡ o → IfSome o Near
  chain_near o is = search (arith, few_tracks, whole_cylinders, within)

  queue_near : Each IsTrack d.store.queue
  queue_near = grind (arith, by_lent, each_track, few_tracks, all_queued)

  begins_near : Begins On d.chain
  begins_near chain t is e = let k = chain_near (Some chain) is in (k, below_few t k.tracks (k.within.needs t e) k.few)

  stages_near : Stages (own IsTrack d.store.device) d.store.device d.store.queue
  stages_near t ts is = (refl, (subst (λ (queue : List ℕ). Each IsTrack queue) is queue_near).0)

abbrev pub OnTrack : Frame → Type 0
OnTrack f = IsTrack f.0.1

on_tracks : (P : ℕ → Type 0) (fs : List Frame) → AllOf P IsTrack fs → All OnTrack fs
on_tracks P [] all = All-nil OnTrack
on_tracks P (f ∷ fs) all = All-cons OnTrack f fs all.0.1 (on_tracks P fs all.1)

pub frames_have_tracks : (text : List ℕ) (deck : DeckLines) → parsed text ≡ Ok deck → All OnTrack (run_of deck).behind.pool.frames
frames_have_tracks text deck read =
    let good = opened_good empty_firsts deck deck.devices (read_served text deck read).devices in
    on_tracks _ (run_of deck).behind.pool.frames (run_so IsTrack On near_reaches Good Sized good_kept sized_kept
    (λ d g s. (begins_near d g s, stages_near d g s)) deck good (first_sized text deck read)).3
