use Rattle.std.proofs.Common.{◌≡◌, ◌∙◌, ℕ, refl, sym}
use Rattle.std.specs.Prelude.{◌&&◌, ◌||◌, not, is_some}
use Rattle.track_table.specs.Bits.{is_marked}
use Rattle.track_table.proofs.Rising.{least_none}
use Rattle.duplex_pair.specs.Sides.{copies_in, marks_of}
use Rattle.duplex_pair.proofs.Copies.{none_copied, none_past, held_copied, free_copied}
use Rattle.duplex_pair.proofs.Fronts.{least_of}
use Rattle.duplex_pair.proofs.pair.DuplexPair.to_copy.Goals as goal

pub returns-then-not-both_up : goal.returns-then-not-both_up
returns-then-not-both_up g c =
    let p = c.args.self.now in
    sym (least_none _ (λ t. is_some (copies_in (marks_of p.a) (marks_of p.b) p.held t))
    (λ t below. none_copied (marks_of p.a) (marks_of p.b) p.held t (sym c.both_up.ensures ∙ c.if-not-both_up.true)))

pub returns-then-self : goal.returns-then-self
returns-then-self g c =
    let p = c.args.self.now in
    let up = sym c.both_up.ensures ∙ c.if-not-both_up.false in
    let each : (t : ℕ) → (is_marked c.marks.result.now t && not (is_marked c.marks-2.result.now t))
    ≡ is_some (copies_in (marks_of p.a) (marks_of p.b) p.held t) =
    λ t. rw (c.marks.ensures.each t, c.marks-2.ensures.each t)
    (held_copied (marks_of p.a) (marks_of p.b) p.held t up c.if-self.true)
    in
    c.first.ensures
    ∙ least_of _ _ (λ t. is_some (copies_in (marks_of p.a) (marks_of p.b) p.held t)) c.marks.ensures.few each
    (λ t le. none_past (marks_of p.a) (marks_of p.b) p.held _ t refl p.same_size up le)

pub returns : goal.returns
returns g c =
    let p = c.args.self.now in
    let up = sym c.both_up.ensures ∙ c.if-not-both_up.false in
    let each : (t : ℕ) → ((is_marked c.marks.result.now t && not (is_marked c.marks-2.result.now t))
    || (is_marked c.marks-3.result.now t && not (is_marked c.marks-4.result.now t)))
    ≡ is_some (copies_in (marks_of p.a) (marks_of p.b) p.held t) =
    λ t. rw (
      c.marks.ensures.each t,
      c.marks-2.ensures.each t,
      c.marks-3.ensures.each t,
      c.marks-4.ensures.each t,
    )
    (free_copied (marks_of p.a) (marks_of p.b) p.held t up c.if-self.false)
    in
    c.first-2.ensures
    ∙ least_of _ _ (λ t. is_some (copies_in (marks_of p.a) (marks_of p.b) p.held t)) c.marks.ensures.few each
    (λ t le. none_past (marks_of p.a) (marks_of p.b) p.held _ t refl p.same_size up le)
