-- The devices of a deck, and those behind events of them, came about by these.
use Rattle.std.proofs.Common.{◌≤◌, ◌*◌, ℕ, List, [], ◌∷◌, map}
use Rattle.std.proofs.lemmas.List.Elements.{All-head, All-tail}
use Rattle.std.proofs.lemmas.List.FromFn.{length-map-range_with_len}
use Rattle.std.specs.Prelude.{All}
use Rattle.ckd_types.specs.declared.record.Track.{Track}
use Rattle.ckd_types.specs.Track.{empty_track}
use Rattle.ckd_types.specs.Volume.{empty_volume}
use Rattle.deck_text.specs.declared.line.DeviceLine.{DeviceLine}
use Rattle.deck_text.specs.DeckLines.{DeckLines}
use Rattle.loss_model.specs.declared.Loss.TheVariants as losses
use Rattle.subsystem_defs.specs.declared.event.Event.{Event}
use Rattle.subsystem_defs.specs.Decks.{opened_device}
use Rattle.subsystem_defs.specs.Happening.{happens}
use Rattle.subsystem_defs.specs.Subsystem.{Subsystem}
use Rattle.subsystem_laws.specs.CameAbout as about
use Rattle.subsystem_laws.specs.CameAbout.{CameAbout, CameAboutOn}
use Rattle.subsystem_laws.specs.Served.{IsServedEvent}
use Rattle.subsystem_laws.proofs.Walks.{AreSo, IsKept, event_so}

pub about_kept_on : (first : ℕ → List Track) → IsKept (CameAboutOn first) IsServedEvent
about_kept_on first = record {
  started = λ d path n may fault x. about.started x path may.0 may.1 fault;
  commanded = λ d o running whole x. λ t. about.commanded x o running whole t;
  seconded = λ d h is x. λ t. about.seconded x h is t;
  worked = λ d whole x. λ t. about.worked x whole t;
  cut = λ d path x. λ t. about.cut x path t;
  lost_cache = λ d x. λ t. about.lost x losses.Cache tt t;
  lost_store = λ d x. λ t. about.lost x losses.Store tt t;
  lost_side = λ d side home x. λ t. about.lost x (losses.Side side) home t;
  lost_power = λ d x. λ t. about.lost_power x t;
  held = λ d fault x. about.held x fault;
  resumed = λ d pair x. about.resumed x pair;
  replaced = λ d side fault x. about.replaced x side fault;
  lent = λ x y fault e f. λ t. about.lent e f fault t;
  joins = λ d free x. about.joined x free.0 free.1;
  splits = λ d fault x. about.parted x fault;
  restored = λ d a is x. about.restored x a is;
}

pub about_kept : IsKept CameAbout IsServedEvent
about_kept = about_kept_on empty_volume

pub opened_about : (deck : DeckLines) (ds : List DeviceLine) → All (λ (d : DeviceLine). 1 ≤ d.cylinders) ds → AreSo CameAbout (map (opened_device deck) ds)
opened_about deck [] h = tt
opened_about deck (d ∷ ds) h = (
  about.opened d.number d.geometry d.cylinders _ (All-head (λ (d : DeviceLine). 1 ≤ d.cylinders) d ds h)
      (length-map-range_with_len empty_track 0 (d.cylinders * 15)),
  opened_about deck ds (All-tail (λ (d : DeviceLine). 1 ≤ d.cylinders) d ds h),
)

pub event_about : (s : Subsystem) → AreSo CameAbout s.mounted → (e : Event) → IsServedEvent e → AreSo CameAbout (happens s e).behind.mounted
event_about s x e may = event_so CameAbout IsServedEvent about_kept s x e may
