-- One look more of a copy that is being made, and the looks at its end.
use Rattle.std.proofs.Common.{◌≡◌, ◌∙◌, ◌≤◌, ◌<◌, ◌+◌, ◌-◌, ℕ, suc, List, Ok, Err, Result, refl, sym, ap, subst, arith}
use Rattle.track_image.specs.Image.{Image}
use Rattle.line_drive.specs.declared.stage.Stopped.{Stopped}
use Rattle.line_drive.specs.Driven.{Step, Goes, onward}
use Rattle.line_drive.specs.Staging.{Reaches, StopsBy}
use Rattle.line_drive.proofs.Driving.{Left, ended_so}
use Rattle.point_copy.specs.declared.given.Early.{Early}
use Rattle.point_copy.specs.declared.given.Given.{Given}
use Rattle.point_copy.specs.Copying.{CopyState, next_given}
use Rattle.point_copy.specs.CopyRun as R
use Rattle.point_copy.specs.CopyRun.{Copying, copy_look, gave, looks_on}
use Rattle.point_copy.specs.Sessions.{GivesAs}
use Rattle.copy_tool.specs.declared.copying.CopyStage.{CopyStage}
use Rattle.copy_tool.specs.Standing.{IsCopying}

-- One look: x is before it, and y behind it

abbrev HasImages : CopyState → List Image → Copying → Type 0
HasImages c images g = g ≡ record { state = c; images = images }

module _ (x y : CopyStage) (c : Copying) (is : IsCopying x c) (given : Given) where
  pub look_so : (r : Result (Unit {0}) (Stopped Early)) → GivesAs (next_given c.state) c.state.kept is.old given y.session →
      Reaches (HasImages (next_given c.state).behind y.images.items) (gave x.images.items (next_given c.state).behind given) r →
      Reaches (IsCopying y) (copy_look c) r
  look_so (Ok u) g took =
      let same : copy_look c ≡ gave x.images.items (next_given c.state).behind given =
      ap (λ (l : List Image). gave l (next_given c.state).behind (next_given c.state).given) (sym is.images)
      ∙ ap (gave x.images.items (next_given c.state).behind) g.given in
      (took.0, same ∙ took.1, subst (IsCopying y) (sym took.2) (record { old = is.old; copy = g.copy; images = refl }))
  look_so (Err why) g took =
      let same : copy_look c ≡ gave x.images.items (next_given c.state).behind given =
      ap (λ (l : List Image). gave l (next_given c.state).behind (next_given c.state).given) (sym is.images)
      ∙ ap (gave x.images.items (next_given c.state).behind) g.given in
      ended_so why (gave x.images.items (next_given c.state).behind given) (copy_look c) (λ e ends. same ∙ ends) took

-- The looks at the end

looks_one : (n : ℕ) (c : Copying) → looks_on (suc n) c ≡ onward (copy_look c) (looks_on n)
unfolding R.looks_on
looks_one n c = refl

looks_none : (c : Copying) → looks_on 0 c ≡ Goes c
unfolding R.looks_on
looks_none c = refl

one_fewer : (k : ℕ) → k < 961 → 961 - k ≡ suc (961 - (k + 1))
one_fewer k within = omega arith

looks_here : (k : ℕ) (c : Copying) → k < 961 → looks_on (961 - k) c ≡ onward (copy_look c) (looks_on (961 - (k + 1)))
looks_here k c within = ap (λ (m : ℕ). looks_on m c) (one_fewer k within) ∙ looks_one (961 - (k + 1)) c

pub looks_begin : (x : CopyStage) (c : Copying) → IsCopying x c → Left (IsCopying x) (looks_on 961) (looks_on 961 c)
looks_begin x c is = record { now = c; stand = is; is = refl }

module _ (x y : CopyStage) (k : ℕ) (whole : Step Copying Early) where
  pub look_done : (u : Unit {0}) → k < 961 → ((c : Copying) → IsCopying x c → Reaches (IsCopying y) (copy_look c) (Ok u)) →
      Left (IsCopying x) (looks_on (961 - k)) whole → Left (IsCopying y) (looks_on (961 - (k + 1))) whole
  look_done u within goes left =
      let m = goes left.now left.stand in
      record {
        now = m.0;
        stand = m.2;
        is = sym (ap (λ z. onward z (looks_on (961 - (k + 1)))) m.1) ∙ sym (looks_here k left.now within) ∙ left.is;
      }

  pub look_ended : (why : Stopped Early) → k < 961 → ((c : Copying) → IsCopying x c → StopsBy (copy_look c) why) →
      Left (IsCopying x) (looks_on (961 - k)) whole → StopsBy whole why
  look_ended why within ends left =
      ended_so why (copy_look left.now) whole
      (λ e ended. sym left.is ∙ looks_here k left.now within ∙ ap (λ z. onward z (looks_on (961 - (k + 1)))) ended) (ends left.now left.stand)

  pub looks_spent : 961 ≤ k → Left (IsCopying x) (looks_on (961 - k)) whole → Reaches {T = Unit {0}} (IsCopying x) whole (Ok tt)
  looks_spent past left =
      let none : 961 - k ≡ 0 = omega arith in
      (left.now, sym left.is ∙ ap (λ (n : ℕ). looks_on n left.now) none ∙ looks_none left.now, left.stand)

-- The lines, and then the looks

pub lines_ended : (f : Copying → Step Copying Early) (s : Step Copying Early) (why : Stopped Early) → StopsBy s why → StopsBy (onward s f) why
lines_ended f s why ended = ended_so why s (onward s f) (λ e is. ap (λ z. onward z f) is) ended

pub lines_done : {T : Type 0} (stands : Copying → Type 0) (f : Copying → Step Copying Early) (s : Step Copying Early) (c : Copying)
    (r : Result T (Stopped Early)) → s ≡ Goes c → Reaches stands (f c) r → Reaches stands (onward s f) r
lines_done stands f s c r goes reached = subst (λ z. Reaches stands z r) (sym (ap (λ z. onward z f) goes)) reached
