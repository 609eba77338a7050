-- Lines behind whose events nothing is done come to what they come to in a run.
use Rattle.std.proofs.Common.{◌≡◌, ◌∙◌, ◌++◌, ℕ, zero, suc, Bool, true, false, List, [], ◌∷◌, refl, sym, ap}
use Rattle.std.specs.Prelude.{if◌then◌else◌}
use Rattle.subsystem_defs.specs.declared.end.EventEnd.TheVariants as ends
use Rattle.subsystem_defs.specs.declared.event.Event.TheVariants as events
use Rattle.subsystem_defs.specs.Happening.{happens, quietly}
use Rattle.subsystem_defs.specs.Lines as lines
use Rattle.subsystem_defs.specs.Lines.{
  Asked,
  Once,
  Replace,
  Unpair,
  Run,
  Settle,
  Logged,
  back_logged,
  backs,
  is_busy,
  is_settled,
  last_behind,
  line_logged,
  logged,
  most_steps,
  run_lines,
  run_logged,
  step_logged,
  steps,
}
use Rattle.subsystem_defs.specs.Subsystem.{Subsystem, mounted_in}
use Rattle.line_drive.specs.Driven as driving
use Rattle.line_drive.specs.Driven.{Step, Goes, backs_on, driven, line_on, onward, run_course, run_on, steps_on}

either : (b : Bool) (p : Bool → Type 0) → p true → p false → p b
either true p x y = x
either false p x y = y

behind_both : (s : Subsystem) (ts us : List Logged) → last_behind s (ts ++ us) ≡ last_behind (last_behind s ts) us
behind_both s [] us = refl
behind_both s (t ∷ ts) us = behind_both t.happened.behind ts us

module _ {E : Type 0} where
  abbrev course : driving.Course Subsystem E
  course = run_course

  steps_same : (n d : ℕ) (s : Subsystem) → steps_on course n d s ≡ Goes (last_behind s (steps n d s))
  unfolding driving.steps_on lines.steps
  steps_same zero d s = refl
  steps_same (suc n) d s =
      either (is_busy (mounted_in s.mounted d))
      (λ (b : Bool). (if b then onward (driving.moved course s (driving.Comes (events.Step d))) (steps_on course n d) else Goes s)
      ≡ Goes (last_behind s (if b then step_logged s d (steps n d) else [])))
      (steps_same n d (happens s (events.Step d)).behind) refl

  run_same : (d : ℕ) (s : Subsystem) → run_on course d s ≡ Goes (last_behind s (run_logged s d))
  run_same d s =
      either (is_busy (mounted_in s.mounted d))
      (λ (b : Bool). (if b then steps_on course most_steps d s else Goes s)
      ≡ Goes (last_behind s (if b then steps most_steps d s else logged (Run d) (quietly s s ends.Idle) ∷ [])))
      (steps_same most_steps d s) refl

  backs_same : (n d : ℕ) (s : Subsystem) → backs_on course n d s ≡ Goes (last_behind s (backs n d s))
  unfolding driving.backs_on lines.backs
  backs_same zero d s = refl
  backs_same (suc n) d s =
      let h = happens s (events.Back d) in
      either (is_settled h.end)
      (λ (b : Bool). (if b then Goes h.behind else backs_on course n d h.behind)
      ≡ Goes (last_behind h.behind (if b then [] else backs n d h.behind)))
      refl (backs_same n d h.behind)

  line_same : (x : Asked) (s : Subsystem) → line_on course x s ≡ Goes (last_behind s (line_logged s x))
  unfolding lines.line_logged
  line_same (Once e) s = refl
  line_same (Replace d side) s = refl
  line_same (Unpair a) s = refl
  line_same (Run d) s = run_same d s
  line_same (Settle d) s = backs_same lines.most_backs d s

  pub driven_same : (xs : List Asked) (s : Subsystem) → driven course xs s ≡ Goes (last_behind s (run_lines xs s))
  unfolding driving.driven lines.run_lines
  driven_same [] s = refl
  driven_same (x ∷ xs) s =
      let ts = line_logged s x in
      ap (λ (z : Step Subsystem E). onward z (driven course xs)) (line_same x s)
      ∙ driven_same xs (last_behind s ts)
      ∙ ap Goes (sym (behind_both s ts (run_lines xs (last_behind s ts))))
