-- A command over a device that is in order: how it comes out is how the chain does that is fed with the plain tracks.
use Rattle.std.specs.Prelude.{◌≡◌, ◌<◌, ℕ, List, Option, None, Some, IfSome, slice_set}
use Rattle.ckd_types.specs.declared.geometry.Geometry.{Geometry}
use Rattle.ckd_types.specs.declared.record.Edit.{Edit}
use Rattle.ckd_types.specs.declared.record.Track.{Track}
use Rattle.ckd_types.specs.Edit.{apply_edit}
use Rattle.ckd_types.specs.Track.{Fits}
use Rattle.ckd_types.specs.Volume.{track_in}
use Rattle.ckd_rules.specs.declared.order.LocalAct.{LocalAct}
use Rattle.ckd_rules.specs.Walk.{TrackEdit}
use Rattle.ckd_chain.specs.declared.progress.Progress.TheVariants.{Need, Write}
use Rattle.ckd_chain.specs.declared.progress.Settled.{Settled}
use Rattle.ckd_chain.specs.declared.progress.Settled.TheVariants.{Written}
use Rattle.ckd_chain.specs.Fed.{Fed, fed}
use Rattle.ckd_chain.specs.State.{ChainState}
use Rattle.ckd_chain.specs.Steps.{need_of, stepped, behind, end_with, settled_by}
use Rattle.track_image.specs.Image.{Image}
use Rattle.device_defs.specs.declared.answers.Came.{Came}
use Rattle.device_defs.specs.declared.answers.Came.TheVariants.{Ends, Checks, HalfOpen}
use Rattle.device_defs.specs.Outcomes.{Turn, usage_of}
use Rattle.device_defs.specs.Sound.{DeviceStore}
use Rattle.device_laws.specs.Agrees.{Held}
use Rattle.device_laws.specs.InOrder.{IsInOrder}
use Rattle.device_laws.specs.PlainWrites.{SuitsTrack}

-- a chain that looks at track t, one of the first `tracks`, with an extent among these, of programs on volumes of this geometry, and what a step of it leads to
pub record Feeds (tracks : ℕ) (g : Geometry) (looks : ChainState → ℕ → Type 0) : Type 0 where
  pub needs : (chain : ChainState) (t : ℕ) → looks chain t → need_of chain ≡ Some t
  pub inside : (chain : ChainState) (t : ℕ) → looks chain t → t < tracks
  pub reaches : (chain : ChainState) (t : ℕ) → looks chain t → IfSome (usage_of chain).last (λ l. l < tracks)
  pub fixed : (chain : ChainState) (t : ℕ) → looks chain t → chain.fixed.geometry ≡ g
  pub goes : (chain : ChainState) (t : ℕ) (i : Image) (q : ℕ) → looks chain t → (stepped chain (Some i)).progress ≡ Need q →
      looks (stepped chain (Some i)).chain q
  pub writes : (chain : ChainState) (t : ℕ) (i : Image) (q : ℕ) (e : Edit) → looks chain t → i.geometry ≡ g → Fits g i.track →
      (stepped chain (Some i)).progress ≡ Write q e → (q ≡ t) × SuitsTrack g i.track e

-- the volume with a command's edit
abbrev pub volume_with : List Track → Option TrackEdit → List Track
volume_with u None = u
volume_with u (Some e) = slice_set u e.track (apply_edit e.edit (track_in u e.track))

-- it ends as fed, and the plain volume has its edit; with equipment or data check nothing was done; or it is half done, and as fed once it is done
abbrev pub IsAsFed : List Track → Fed → ChainState → Came → List Track → Type 0
IsAsFed u f chain (Ends e) v = (f.end ≡ e) × ((f.chain ≡ chain) × (v ≡ volume_with u f.edit))
IsAsFed u f chain (Checks e) v = v ≡ u
IsAsFed u f chain (HalfOpen t) v =
    (v ≡ u) × ((f.end ≡ end_with chain (settled_by chain Written)) × (f.chain ≡ behind chain (settled_by chain Written)))

-- want of memory leaves the plain volume
abbrev pub ComesAsFed : List Track → ℕ → ChainState → Option Turn → List Track → Type 0
ComesAsFed u n chain None v = v ≡ u
ComesAsFed u n chain (Some turn) v = (answer : LocalAct → Settled) → IsAsFed u (fed n (track_in u) answer chain) turn.chain turn.came v

pub record FollowIs (u : List Track) (n : ℕ) (chain : ChainState) (v w : List Track) (z : DeviceStore) (a b : Option Turn) (k : Held) : Type 0 where
  pub order : IsInOrder v w z k
  pub same : a ≡ b
  pub came : ComesAsFed u n chain a v
