-- Each device of a run keeps its cylinders: what is so of those of all lines of a deck is so of those of all its devices.
use Rattle.std.proofs.Common.{◌≡◌, ℕ, Bool, List, [], ◌∷◌, map, Option, Some, refl, sym, subst, ◌∙◌}
use Rattle.std.specs.Prelude.{All, IfSome}
use Rattle.std.proofs.lemmas.List.Elements.{All-head, All-tail}
use Rattle.ckd_types.specs.declared.paths.Side.{Side}
use Rattle.ckd_types.specs.declared.paths.Side.TheVariants as sides
use Rattle.deck_text.specs.declared.line.DeviceLine.{DeviceLine}
use Rattle.deck_text.specs.DeckLines.{DeckLines}
use Rattle.loss_model.specs.declared.Loss.TheVariants as losses
use Rattle.track_image.specs.Image.{Image}
use Rattle.device_outside.specs.Interaction.{Interaction}
use Rattle.device_defs.specs.Contents.{by_plain}
use Rattle.device_defs.specs.Marks.{MarksDevice}
use Rattle.device_defs.specs.Orders.{replace}
use Rattle.device_defs.specs.Start as S
use Rattle.device_defs.specs.Start.{start}
use Rattle.device_laws.proofs.Based.{Any, Base, Based, based_any, kept}
use Rattle.device_laws.proofs.BasedEvents.{background_based, base_in, command_based, lose_based, power_based, reset_body, second_based, with_one_loss}
use Rattle.subsystem_defs.specs.Decks as D
use Rattle.subsystem_defs.specs.Decks.{Firsts, opened_device_on, opened_on, run_asked_on}
use Rattle.subsystem_defs.specs.Lines.{Asked}
use Rattle.subsystem_defs.specs.Subsystem.{Mounted, mounted_in}
use Rattle.subsystem_laws.specs.Came.{CameTo}
use Rattle.subsystem_laws.proofs.Came.{at}
use Rattle.subsystem_laws.proofs.LendBase.{lend_lends, stays_still}
use Rattle.subsystem_laws.proofs.RunLines.{AnyEvent, all_asked}
use Rattle.subsystem_laws.proofs.Walks.{AreSo, IsKept, lines_end_so, mounted_so}

module _ (P : ℕ → Type 0) where
  abbrev pub Sized : MarksDevice → Type 0
  Sized d = P d.store.cylinders

  abbrev pub SizedLine : DeviceLine → Type 0
  SizedLine d = P d.cylinders

  module _ (d : MarksDevice) (s : Sized d) where
    stays : {X : Type 0} {talk : Interaction Bool Image MarksDevice X} (b : Base) → b.cylinders ≡ d.store.cylinders → Based base_in Any b talk →
        (t : CameTo talk) → Sized t.state
    stays b same x t = subst P (sym ((at (stays_still x) t).1 ∙ same)) s

    start_sized : (path : ℕ) → Sized (start d path)
    unfolding S.start
    start_sized path = s

    replace_sized : (side : Side) → Sized (replace d side)
    replace_sized sides.A = s
    replace_sized sides.B = s

  sized_kept : IsKept Sized AnyEvent
  sized_kept = record {
    started = λ d path n may fault s. start_sized d s path;
    commanded = λ d o running whole s. stays d s (kept d.store) refl (command_based by_plain d);
    seconded = λ d h is s. stays d s (kept d.store) refl (second_based by_plain d);
    worked = λ d whole s. stays d s (kept d.store) refl (background_based by_plain d);
    cut = λ d path s. stays d s (kept d.store) refl (based_any (reset_body by_plain d path));
    lost_cache = λ d s. stays d s (with_one_loss losses.Cache (kept d.store)) refl (lose_based by_plain d losses.Cache);
    lost_store = λ d s. stays d s (with_one_loss losses.Store (kept d.store)) refl (lose_based by_plain d losses.Store);
    lost_side = λ d side home s. stays d s (with_one_loss (losses.Side side) (kept d.store)) refl (lose_based by_plain d (losses.Side side));
    lost_power = λ d s. stays d s (with_one_loss losses.Cache (kept d.store)) refl (power_based by_plain d);
    held = λ d fault s. s;
    resumed = λ d paired s. s;
    replaced = λ d side fault s. replace_sized d s side;
    lent = λ x y fault r s t. subst P (sym (lend_lends y x.store.device t).cylinders) s;
    joins = λ d free s. s;
    splits = λ d fault s. s;
    restored = λ d a is s. s;
  }

  opened_sized : (firsts : Firsts) (deck : DeckLines) (ds : List DeviceLine) → All SizedLine ds → AreSo Sized (map (opened_device_on firsts deck) ds)
  opened_sized firsts deck [] all = tt
  opened_sized firsts deck (d ∷ ds) all = (All-head SizedLine d ds all, opened_sized firsts deck ds (All-tail SizedLine d ds all))

  pub asked_sized : (firsts : Firsts) (deck : DeckLines) (asked : List Asked) → All SizedLine deck.devices →
      AreSo Sized (run_asked_on firsts deck asked).behind.mounted
  unfolding D.run_asked_on
  asked_sized firsts deck asked all =
      lines_end_so Sized AnyEvent sized_kept (record { step = λ d. tt; back = λ d. tt }) asked (opened_on firsts deck) (all_asked asked)
      (opened_sized firsts deck deck.devices all)

  mounted_is : (o : Option Mounted) (m : Mounted) → o ≡ Some m → IfSome o (λ (x : Mounted). Sized x.device) → Sized m.device
  mounted_is o m is so = subst (λ (x : Option Mounted). IfSome x (λ (y : Mounted). Sized y.device)) is so

  -- so it is of each device that is mounted behind these lines
  pub sized_behind : (firsts : Firsts) (deck : DeckLines) (asked : List Asked) (d : ℕ) (m : Mounted) → All SizedLine deck.devices →
      mounted_in (run_asked_on firsts deck asked).behind.mounted d ≡ Some m → Sized m.device
  sized_behind firsts deck asked d m all there =
      mounted_is _ m there (mounted_so Sized (run_asked_on firsts deck asked).behind.mounted d (asked_sized firsts deck asked all))
