-- The writes of a command's write, by what came of them: not bounds but the numbers.
use Rattle.std.proofs.Common.{◌≡◌, ◌≤◌, arith, ℕ, Bool, true, false, Option, Some, None, refl, sym, subst, ◌∙◌}
use Rattle.std.specs.Prelude.{if◌then◌else◌, not}
use Rattle.ckd_types.specs.declared.paths.Side.TheVariants.{B}
use Rattle.ckd_types.specs.declared.record.Edit.{Edit}
use Rattle.ckd_types.specs.Parameters.{is_bypass}
use Rattle.track_image.specs.Image.{Image, edited_image}
use Rattle.device_outside.specs.Interaction.{Done}
use Rattle.device_defs.specs.declared.answers.Choice.{Choice}
use Rattle.device_defs.specs.declared.answers.Choice.TheVariants.{Provisional, Fast, Through}
use Rattle.device_defs.specs.declared.answers.Took.{Took}
use Rattle.device_defs.specs.declared.answers.Took.TheVariants.{Whole, Opened, Unwritten}
use Rattle.device_defs.specs.declared.usage.Usage.{Usage}
use Rattle.device_defs.specs.Contents.{Contents}
use Rattle.device_defs.specs.Editing as E
use Rattle.device_defs.specs.Editing.{
  whole,
  at_once,
  through_by,
  through,
  write_by,
  written,
  is_given,
  clean_again,
  unchosen,
  write_chosen,
  another_loose,
  write,
}
use Rattle.device_defs.specs.Owed.{is_clean}
use Rattle.device_defs.specs.Store.{OfCommand, Store, has_level, takes_b, frame_at}
use Rattle.device_defs.specs.Writing as V
use Rattle.device_defs.specs.Writing.{write_side, write_counted, tried_b, write_second}
use Rattle.device_laws.proofs.QuietParts.{done_quiet}
use Rattle.device_laws.specs.Moved.{sides_writing, choice_writes, sides_up}
use Rattle.device_laws.specs.Seen.{is_opened}
use Rattle.device_laws.proofs.counted.Counting.{
  Counts,
  counts_done,
  counts_ask,
  counts_tell,
  counts_write,
  counts_then,
  counts_any,
  counts_first,
  counts_past,
  counts_if,
  counts_weaker,
  counts_try,
}
use Rattle.device_laws.proofs.counted.SidesLeft.{writing_up}
use Rattle.device_laws.proofs.counted.WriteCounts.{tried_quiet, firm_quiet, firm_writes, opened_quiet, FirstBy, first_writes, Written, choice_so}

-- what an answer says of the writes of a choice, where n sides take what is written
abbrev pub ByAnswer : ℕ → Choice → ℕ → ℕ → Option Took → Type 0
ByAnswer n choice r w (Some took) = (r ≡ 0) × (w ≡ choice_writes n choice (is_opened took)) × (w ≤ n)
ByAnswer n choice r w None = (r ≡ 0) × (w ≡ 0)

-- A command's write

module _ {F P H R : Type 0} (c : Contents F P H R) where
  -- A write through, where n sides take it

  module _ (n t : ℕ) (i : Image) (e : Edit) where
    abbrev By : ℕ → ℕ → Store F P H → Took → Type 0
    By r w z took = (r ≡ 0) × (w ≡ choice_writes n Through (is_opened took)) × (w ≤ n)

    whole_exact : (s : Store F P H) (bypass : Bool) (w : ℕ) → w ≡ n → Counts By 0 w (whole c s t i e bypass)
    whole_exact s bypass w is = counts_tell (λ _. counts_past (λ y _. Done y Whole) (done_quiet c _ t i bypass) (λ y _. counts_done (refl, is, omega (arith, is))))

    abbrev Second : ℕ → ℕ → Store F P H → Unit {0} → Type 0
    Second r w z a = (r ≡ 0) × (w ≡ 2)

    second_if : (s : Store F P H) (r : R) (b : Bool) → b ≡ true → Counts Second 0 1 (if b then write_side c s B t r (tried_b c t) else Done s (tt {0}))
    second_if s r true takes = counts_write (λ ok. counts_any (tried_quiet c t (write_counted s ok) ok) (λ z x. (refl, refl)))
    second_if s r false takes = absurd (cc)

    second_exact : (s : Store F P H) (r : R) → takes_b s ≡ true → Counts Second 0 1 (write_second c s t r)
    unfolding V.write_second
    second_exact s r takes = second_if s r (takes_b s) takes

    once_exact : (s : Store F P H) (bypass : Bool) → 2 ≡ n → takes_b s ≡ true → Counts By 0 1 (at_once c s t i e bypass)
    once_exact s bypass two takes =
        counts_then _ (second_exact s (c.bytes i) takes)
        (λ m w z _ h.
        counts_if (has_level z t)
        (λ _. subst (λ (k : ℕ). Counts By k w (whole c z t i e bypass)) (sym h.0) (whole_exact z bypass w (h.1 ∙ two)))
        (λ _. let all : w ≡ n = h.1 ∙ two in counts_done (h.0, all, omega (arith, all))))

    part_exact : (bypass opens was_loose : Bool) (w : ℕ) (z : Store F P H) (took : Took) → FirstBy n w z took →
        Counts By 0 w (through_by c t i e bypass opens was_loose z took)
    part_exact bypass opens was_loose w z Whole h = whole_exact z bypass w h
    part_exact bypass opens was_loose w z Opened h =
        counts_if opens
        (λ _. counts_past (λ y _. Done y Opened) (opened_quiet c z t i (OfCommand bypass e) was_loose)
        (λ y _. let one = h.0 in let two = h.1 in counts_done (refl, one, omega (arith, one, two))))
        (λ _. subst (λ (k : ℕ). Counts By 0 k (at_once c z t i e bypass)) (sym h.0) (once_exact z bypass h.1 h.2))
    part_exact bypass opens was_loose w z Unwritten h = counts_done (refl, h, omega (arith, h))

    through_exact : (s : Store F P H) → sides_writing s ≡ n → (bypass opens : Bool) → Counts By 0 0 (through c s t i e bypass opens)
    unfolding E.through
    through_exact s same bypass opens =
        counts_first _ (firm_quiet c s t)
        (firm_writes c s t).holds
        (λ z was_loose k.
        counts_then _ (first_writes c z t (c.bytes i))
        (λ m w y x h.
        rw h.reads (part_exact bypass opens was_loose w y x.took (subst (λ (j : ℕ). FirstBy j w y x.took) (k.is ∙ same) h.by))))

  -- A write that was chosen

  module _ (u : Usage) (first t : ℕ) (old : Image) (e : Edit) (s : Store F P H) where
    pub written_by : (i : Image) (choice : Choice) →
        Counts (λ r w z took. ByAnswer (sides_writing s) choice r w (Some took)) 0 0 (write_by c u first t i e s choice)
    written_by i Provisional = counts_done (refl, refl, omega arith)
    written_by i (Fast slot) = counts_tell (λ _. counts_done (refl, refl, omega arith))
    written_by i Through = through_exact (sides_writing s) t i e s refl (is_bypass u.mode) (not (another_loose s first t))

    abbrev Ends : Choice → ℕ → ℕ → Store F P H → Option Took → Type 0
    Ends choice r w z o = ByAnswer (sides_writing s) choice r w o

    took_exact : (choice : Choice) → Counts (Ends choice) 0 0 (written c s u first t old e choice)
    took_exact choice = counts_then _ (written_by (edited_image e old) choice) (λ r w z took h. counts_done h)

    clean_exact : (choice : Choice) → Counts (Ends choice) 0 0 (clean_again c s t)
    clean_exact choice = counts_if (is_clean c (frame_at s t)) (λ _. counts_ask (λ _. counts_done (refl, refl))) (λ _. counts_done (refl, refl))

    unchosen_exact : (choice : Choice) → Counts (Ends choice) 0 0 (unchosen c s t choice)
    unchosen_exact Provisional = clean_exact Provisional
    unchosen_exact (Fast (Some slot)) = counts_ask (λ _. clean_exact (Fast (Some slot)))
    unchosen_exact (Fast None) = clean_exact (Fast None)
    unchosen_exact Through = counts_done (refl, refl)

    pub chosen_exact : (choice : Choice) → Counts (Ends choice) 0 0 (write_chosen c u first t old e s choice)
    chosen_exact choice =
        counts_if (is_given c s choice) (λ _. counts_tell (λ ok. counts_if ok (λ _. took_exact choice) (λ _. unchosen_exact choice))) (λ _. took_exact choice)

    answer_within : (choice : Choice) (r w : ℕ) (o : Option Took) → ByAnswer (sides_writing s) choice r w o → Written (sides_up s) r w
    answer_within choice r w (Some took) h =
        let most = writing_up s in let le = h.2 in record { reads = h.0; writes = omega (arith, most, le) }
    answer_within choice r w None h = let none = h.1 in record { reads = h.0; writes = omega (arith, none) }

    pub write_writes : Counts (λ r w z o. Written (sides_up s) r w) 0 0 (write c s u first t old e)
    unfolding E.write
    write_writes = counts_try (λ ok. counts_if ok
        (λ _. counts_then _ (choice_so c s u t)
        (λ r w z choice h.
        rw h.reads (rw h.writes (rw h.same (counts_weaker (chosen_exact choice) (λ m n y o g. answer_within choice m n o g))))))
        (λ _. counts_done (record { reads = refl; writes = omega arith })))
