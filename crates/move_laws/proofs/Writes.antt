-- A command's write makes exactly the writes of the rules: none in the cache alone, else one to each side that takes it, or one where it is half done.
use Rattle.std.proofs.Common.{◌≡◌, ℕ, Bool, true, false, Option, Some, refl, sym, subst}
use Rattle.std.specs.Prelude.{if◌then◌else◌}
use Rattle.ckd_types.specs.declared.record.Edit.{Edit}
use Rattle.track_image.specs.Image.{Image, edited_image}
use Rattle.device_outside.specs.Interaction.{Done, Tell}
use Rattle.device_outside.specs.Keeper.{BeforeEdit}
use Rattle.device_outside.specs.Told as T
use Rattle.device_outside.specs.Told.{Told, RunOutcome, hold}
use Rattle.device_defs.specs.declared.answers.Choice.{Choice}
use Rattle.device_defs.specs.declared.answers.Took.{Took}
use Rattle.device_defs.specs.declared.usage.Usage.{Usage}
use Rattle.device_defs.specs.Choosing.{choose}
use Rattle.device_defs.specs.Contents.{by_plain}
use Rattle.device_defs.specs.Editing as E
use Rattle.device_defs.specs.Editing.{write_by, written, is_given, unchosen, write_chosen, write}
use Rattle.device_defs.specs.Marks.{MarksStore}
use Rattle.device_laws.proofs.PoolWalks.{asks_always, choose_asks}
use Rattle.device_laws.proofs.QuietParts.{asks_quiet}
use Rattle.device_laws.specs.Moved.{sides_writing, choice_writes}
use Rattle.device_laws.specs.Seen.{is_opened}
use Rattle.device_laws.proofs.counted.Exact.{written_by}
use Rattle.move_laws.proofs.Holds.{Made, made_on, hold_then, held_behind, quiet_made, has}

-- A command's whole write, where the outside is told and memory is had

module _ (u : Usage) (first t : ℕ) (old : Image) (e : Edit) where
  -- it came out so, by the choice that was made
  pub record WroteSo (n : ℕ) (choice : Choice) (w : Told) (o : RunOutcome MarksStore (Option Took)) : Type 0 where
    pub took : Took
    pub answer : o.answer ≡ Some took
    pub made : Made 0 (choice_writes n choice (is_opened took)) w o.told

  done_so : (n : ℕ) (choice : Choice) (w : Told) (o : RunOutcome MarksStore Took) (r m : ℕ) → Made r m w o.told → r ≡ 0 →
      m ≡ choice_writes n choice (is_opened o.answer) → WroteSo n choice w (hold {I = Image} true (Done o.state (Some o.answer)) o.told)
  unfolding T.hold
  done_so n choice w o r m x a b = record {
    took = o.answer;
    answer = refl;
    made = subst (λ (k : ℕ). Made 0 k w o.told) b (subst (λ (k : ℕ). Made k m w o.told) a x);
  }

  written_so : (s : MarksStore) (choice : Choice) (w : Told) →
      WroteSo (sides_writing s) choice w (hold true (written by_plain s u first t old e choice) w)
  written_so s choice w =
      let i = edited_image e old in
      let talk = write_by by_plain u first t i e s choice in
      let h = has true (written_by by_plain u first t old e s i choice) w in
      subst (WroteSo (sides_writing s) choice w) (sym (hold_then true talk (λ z took. Done z (Some took)) w))
      (done_so (sides_writing s) choice w (hold true talk w) h.reads h.writes h.made h.is.0 h.is.1)

  given_so : (s : MarksStore) (choice : Choice) (w : Told) (given : Bool) → WroteSo (sides_writing s) choice w
      (hold true (if given then
      Tell (BeforeEdit s.device t old) (λ ok. if ok then written by_plain s u first t old e choice else unchosen by_plain s t choice)
      else written by_plain s u first t old e choice) w)
  unfolding T.hold
  given_so s choice w true = written_so s choice w
  given_so s choice w false = written_so s choice w

  chosen_so : (s : MarksStore) (choice : Choice) (w : Told) →
      WroteSo (sides_writing s) choice w (hold true (write_chosen by_plain u first t old e s choice) w)
  chosen_so s choice w = given_so s choice w (is_given by_plain s choice)

  past_choice : (s z : MarksStore) (choice : Choice) (w y : Told) (o : RunOutcome MarksStore (Option Took)) → z ≡ s → Made 0 0 w y →
      WroteSo (sides_writing z) choice y o → WroteSo (sides_writing s) choice w o
  past_choice s z choice w y o same x k = record {
    took = k.took;
    answer = k.answer;
    made = subst (λ (d : MarksStore). Made 0 (choice_writes (sides_writing d) choice (is_opened k.took)) w o.told) same (made_on x k.made);
  }

  pub write_so : (s : MarksStore) (w : Told) →
      WroteSo (sides_writing s) (hold true (choose by_plain s u t) w).answer w (hold true (write by_plain s u first t old e) w)
  unfolding E.write T.hold
  write_so s w =
      let talk = choose by_plain s u t in
      let asks = choose_asks by_plain (λ z. z ≡ s) s u t refl in
      let o = hold true talk w in
      subst (WroteSo (sides_writing s) o.answer w) (sym (hold_then true talk (write_chosen by_plain u first t old e) w))
      (past_choice s o.state o.answer w o.told (hold true (write_chosen by_plain u first t old e o.state o.answer) o.told)
      (held_behind true talk (λ z _. z ≡ s) w (asks_always asks).holds) (quiet_made true (asks_quiet asks) w) (chosen_so o.state o.answer o.told))
