-- A write that is chosen to be fast or provisional is done at once.
use Rattle.std.proofs.Common.{◌≡◌, ℕ, true, Option, Some, refl, sym, subst}
use Rattle.ckd_types.specs.declared.record.Edit.{Edit}
use Rattle.track_image.specs.Image.{Image}
use Rattle.device_outside.specs.Told as T
use Rattle.device_outside.specs.Told.{Told, RunOutcome, hold}
use Rattle.device_defs.specs.declared.answers.Choice.{Choice}
use Rattle.device_defs.specs.declared.answers.Choice.TheVariants.{Provisional, Fast, Through}
use Rattle.device_defs.specs.declared.answers.Took.{Took}
use Rattle.device_defs.specs.declared.answers.Took.TheVariants.{Whole}
use Rattle.device_defs.specs.declared.usage.Usage.{Usage}
use Rattle.device_defs.specs.Choosing.{choose}
use Rattle.device_defs.specs.Contents.{by_plain}
use Rattle.device_defs.specs.Editing as E
use Rattle.device_defs.specs.Editing.{write_chosen, write}
use Rattle.device_defs.specs.Marks.{MarksStore}
use Rattle.device_laws.specs.Seen.{is_in_cache}
use Rattle.move_laws.proofs.Holds.{hold_then}

module _ (u : Usage) (first t : ℕ) (old : Image) (e : Edit) where
  chosen_whole : (s : MarksStore) (w : Told) (choice : Choice) → is_in_cache choice ≡ true →
      (hold true (write_chosen by_plain u first t old e s choice) w).answer ≡ Some Whole
  unfolding T.hold
  chosen_whole s w Provisional is = refl
  chosen_whole s w (Fast slot) is = refl
  chosen_whole s w Through is = absurd (cc)

  pub write_whole : (s : MarksStore) (w : Told) → is_in_cache (hold true (choose by_plain s u t) w).answer ≡ true →
      (hold true (write by_plain s u first t old e) w).answer ≡ Some Whole
  unfolding E.write T.hold
  write_whole s w is =
      let talk = choose by_plain s u t in
      let o = hold true talk w in
      subst (λ (x : RunOutcome MarksStore (Option Took)). x.answer ≡ Some Whole) (sym (hold_then true talk (write_chosen by_plain u first t old e) w))
      (chosen_whole o.state o.told o.answer is)
