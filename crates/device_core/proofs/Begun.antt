-- A command that has begun goes on as one that begins.
use Rattle.std.proofs.Common.{◌≡◌, ℕ, zero, suc, List, Option, Some, None, Ok, Err, refl, ap, ◌∙◌}
use Rattle.std.proofs.Math.Path.{fun_ext}
use Rattle.std.specs.Prelude.{Result, if◌then◌else◌}
use Rattle.ckd_types.specs.declared.channel.Ccw.{Ccw}
use Rattle.ckd_types.specs.declared.command.Read.{Read}
use Rattle.ckd_types.specs.declared.command.ReadArea.{ReadArea}
use Rattle.ckd_types.specs.declared.command.ReadArea.TheVariants as areas
use Rattle.ckd_types.specs.declared.command.Write.{Write}
use Rattle.ckd_types.specs.declared.command.Write.TheVariants as writes
use Rattle.ckd_types.specs.declared.parameters.Domain.{Domain}
use Rattle.ckd_types.specs.declared.parameters.Extent.{Extent}
use Rattle.ckd_types.specs.declared.sense.Sense.{Sense}
use Rattle.ckd_types.specs.Fixed.{Fixed}
use Rattle.ckd_types.specs.Parameters.{is_provisional}
use Rattle.ckd_rules.specs.declared.ending.Ending.{Ending}
use Rattle.ckd_rules.specs.declared.opening.Opening.{Opening}
use Rattle.ckd_rules.specs.declared.opening.Opening.TheVariants as openings
use Rattle.ckd_rules.specs.declared.order.Look.{Look}
use Rattle.ckd_rules.specs.declared.order.Look.TheVariants as looks
use Rattle.ckd_rules.specs.declared.order.CommandOrder.{CommandOrder}
use Rattle.ckd_rules.specs.declared.order.CommandOrder.TheVariants as orders
use Rattle.ckd_rules.specs.declared.stance.Place.{Place}
use Rattle.ckd_rules.specs.declared.stance.Place.TheVariants as places
use Rattle.ckd_rules.specs.declared.stance.Stance.{Stance}
use Rattle.ckd_rules.specs.Checks.{order_of}
use Rattle.ckd_rules.specs.Control.{unseen_place}
use Rattle.ckd_rules.specs.Finding.{track_after}
use Rattle.ckd_rules.specs.Opening.{Opened, moved, read_from, look_from, locating, begun, opening_with}
use Rattle.ckd_chain.specs.declared.mark.Mark.{Mark}
use Rattle.ckd_chain.specs.declared.mark.Stage.{Stage}
use Rattle.ckd_chain.specs.State.{ChainState}
use Rattle.ckd_chain.specs.Steps as S
use Rattle.ckd_chain.specs.Steps.{opening_at, chain_opened, need_of, stepped, word_of}
use Rattle.track_image.specs.Image.{Image}
use Rattle.device_outside.specs.Interaction.{Interaction}
use Rattle.device_defs.specs.declared.usage.Usage.{Usage}
use Rattle.device_defs.specs.Command as command
use Rattle.device_defs.specs.Command.{Went, Over, look, follow, goes_on, went_by, looked}
use Rattle.device_defs.specs.Image.{Imaged, Has, NoBytes, BadTrack, image}
use Rattle.device_defs.specs.Memory.{tried, and_had}
use Rattle.device_outside.specs.Interaction.{Done}
use Rattle.ckd_chain.specs.declared.progress.Settled.TheVariants.{Equipment}
use Rattle.device_defs.specs.Contents.{Contents}
use Rattle.device_defs.specs.Outcomes.{usage_of, checks}
use Rattle.device_defs.specs.Store.{Store, is_lost}

-- where a command looks at a track, its extent is as it was before it began
abbrev KeepsBy : Stance → Opened → Opening → Type 0
KeepsBy s o (openings.Looks look) = o.stance.extent ≡ s.extent
KeepsBy s o (openings.Over e) = Unit {0}
KeepsBy s o (openings.Asks act) = Unit {0}

record Keeps (s : Stance) (o : Opened) : Type 0 where
  by : KeepsBy s o o.opening

module _ (s : Stance) (c : Ccw) where
  moved_keeps : (look : Look) (r : Result ℕ Sense) → Keeps s (moved s c look r)
  moved_keeps look (Ok t) = record { by = refl }
  moved_keeps look (Err sense) = record { by = tt }

  track_keeps : (r : Read) (p : Place) → Keeps s (read_from s c r areas.Track p)
  track_keeps r places.Index = record { by = refl }
  track_keeps r places.Home = moved_keeps (looks.Reads r) (track_after s.extent s.track)
  track_keeps r (places.Count i) = moved_keeps (looks.Reads r) (track_after s.extent s.track)
  track_keeps r (places.Key i) = moved_keeps (looks.Reads r) (track_after s.extent s.track)
  track_keeps r (places.Body i) = moved_keeps (looks.Reads r) (track_after s.extent s.track)

  read_keeps : (r : Read) (a : ReadArea) → Keeps s (read_from s c r a s.place)
  read_keeps r areas.Track = track_keeps r s.place
  read_keeps r areas.Home = record { by = refl }
  read_keeps r areas.Zero = record { by = refl }
  read_keeps r areas.Count = record { by = refl }
  read_keeps r areas.Data = record { by = refl }
  read_keeps r areas.KeyData = record { by = refl }
  read_keeps r areas.CountKeyData = record { by = refl }
  read_keeps r areas.Multiple = record { by = refl }

  write_keeps : (w : Write) → Keeps s (look_from s c (looks.Writes w))
  write_keeps writes.NextTrack = moved_keeps (looks.Writes writes.NextTrack) (track_after s.extent s.track)
  write_keeps writes.Data = record { by = refl }
  write_keeps writes.UpdateData = record { by = refl }
  write_keeps writes.KeyData = record { by = refl }
  write_keeps writes.UpdateKeyData = record { by = refl }
  write_keeps writes.CountKeyData = record { by = refl }
  write_keeps writes.Zero = record { by = refl }

  look_keeps : (look : Look) → Keeps s (look_from s c look)
  look_keeps (looks.Finds d) = record { by = refl }
  look_keeps (looks.Searches x) = record { by = refl }
  look_keeps (looks.Reads r) = read_keeps r r.area
  look_keeps (looks.Writes w) = write_keeps w

  locating_keeps : (d : Domain) (p : Option Place) → Keeps s (locating s c d p)
  locating_keeps d (Some place) = record { by = tt }
  locating_keeps d None = record { by = refl }

  begun_keeps : (o : CommandOrder) → Keeps s (begun s c o)
  begun_keeps orders.Nothing = record { by = tt }
  begun_keeps (orders.Seeks t) = record { by = tt }
  begun_keeps orders.Recalibrates = record { by = tt }
  begun_keeps orders.SetsSector = record { by = tt }
  begun_keeps (orders.SetsMask mask) = record { by = tt }
  begun_keeps (orders.Defines e) = record { by = tt }
  begun_keeps (orders.Locates d) = locating_keeps d (unseen_place d.orientation)
  begun_keeps (orders.Looks look) = look_keeps look
  begun_keeps (orders.Asks act) = record { by = tt }

  opened_keeps : (r : Result CommandOrder Sense) → Keeps s (opening_with s c r)
  opened_keeps (Ok order) = begun_keeps order
  opened_keeps (Err sense) = record { by = tt }

abbrev usage_by : Option Extent → Usage
usage_by e = record { mode = S.mode_by e; inhibit = S.inhibits_by e; last = S.last_by e; provisional = is_provisional e }

usage_at : (chain : ChainState) (z : Stance) (h : Opening) (t : ℕ) → KeepsBy chain.at.stance (record { stance = z; opening = h }) h →
    S.track_needed (S.begin_with chain (record { stance = z; opening = h })) (S.stage_for h) ≡ Some t →
    usage_of (S.begin_with chain (record { stance = z; opening = h })) ≡ usage_of chain
usage_at chain z (openings.Looks look) t keeps needs = ap usage_by keeps
usage_at chain z (openings.Over e) t keeps needs = absurd cc
usage_at chain z (openings.Asks act) t keeps needs = absurd cc

-- a chain whose command hasn't begun
module _ (ccws : List Ccw) (fixed : Fixed) (at before : Mark) (held : Option Ending) where
  abbrev fresh : ChainState
  fresh = record { ccws = ccws; fixed = fixed; at = at; before = before; stage = None; held = held }

  fresh_usage : (t : ℕ) → need_of fresh ≡ Some t → usage_of (chain_opened fresh) ≡ usage_of fresh
  fresh_usage t needs =
      let o = opening_at fresh in
      usage_at fresh o.stance o.opening t (opened_keeps at.stance (word_of fresh) (order_of fixed at.stance (word_of fresh))).by needs

  module _ {F P H R : Type 0} (c : Contents F P H R) (q : ℕ) (needs : need_of fresh ≡ Some q) where
    looked_same : (first t : ℕ) (s : Store F P H) (i : Imaged) → looked c (chain_opened fresh) first t s i ≡ looked c fresh first t s i
    looked_same first t s (Has i) =
        ap (λ (u : Usage). tried s (went_by c u first t s i (stepped fresh (Some i)).chain (stepped fresh (Some i)).progress)) (fresh_usage q needs)
    looked_same first t s (NoBytes fault) = refl
    looked_same first t s (BadTrack side) = refl

    look_same : (first t : ℕ) (s : Store F P H) → look c (chain_opened fresh) first t s ≡ look c fresh first t s
    unfolding command.look
    look_same first t s =
        ap (λ (f : Store F P H → Imaged → Interaction R Image (Store F P H) (Option Went)).
        if is_lost s t then Done s (Some (Over (checks fresh Equipment))) else and_had (image c s (usage_of (chain_opened fresh)) t) f)
        (fun_ext (λ z. fun_ext (λ i. looked_same first t z i)))
        ∙ ap (λ (u : Usage). if is_lost s t then Done s (Some (Over (checks fresh Equipment))) else and_had (image c s u t) (looked c fresh first t))
        (fresh_usage q needs)

    follow_fresh : (n first t : ℕ) (s : Store F P H) → follow c n first (chain_opened fresh) t s ≡ follow c n first fresh t s
    unfolding command.follow
    follow_fresh zero first t s = refl
    follow_fresh (suc n) first t s =
        ap (λ (i : Interaction R Image (Store F P H) (Option Went)). and_had i (goes_on c (follow c n first))) (look_same first t s)

module _ {F P H R : Type 0} (c : Contents F P H R) (n first t q : ℕ) (s : Store F P H) where
  by_stage : (chain : ChainState) (o : Option Stage) → chain.stage ≡ o → need_of (record chain { stage = o }) ≡ Some q →
      follow c n first (chain_opened (record chain { stage = o })) t s ≡ follow c n first (record chain { stage = o }) t s
  by_stage chain None e needs = follow_fresh chain.ccws chain.fixed chain.at chain.before chain.held c q needs n first t s
  by_stage chain (Some stage) e needs = refl

  pub follow_opened : (chain : ChainState) → need_of chain ≡ Some q → follow c n first (chain_opened chain) t s ≡ follow c n first chain t s
  follow_opened chain needs = by_stage chain chain.stage refl needs

-- a step of a command that has begun is one of a command that begins
steps_by : (chain : ChainState) (o : Option Stage) (i : Option Image) →
    stepped (chain_opened (record chain { stage = o })) i ≡ stepped (record chain { stage = o }) i
steps_by chain None i = refl
steps_by chain (Some stage) i = refl

pub stepped_opened : (chain : ChainState) (i : Option Image) → stepped (chain_opened chain) i ≡ stepped chain i
stepped_opened chain i = steps_by chain chain.stage i

fixed_by : (chain : ChainState) (o : Option Stage) → (chain_opened (record chain { stage = o })).fixed ≡ chain.fixed
fixed_by chain None = refl
fixed_by chain (Some stage) = refl

pub same_fixed : (chain : ChainState) → (chain_opened chain).fixed ≡ chain.fixed
same_fixed chain = fixed_by chain chain.stage
