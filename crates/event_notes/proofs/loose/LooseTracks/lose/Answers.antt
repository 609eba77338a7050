use Rattle.std.proofs.Common.{◌≡◌, true, false, List, Bool, replicate, length, sym, ap, ◌∙◌, arith}
use Rattle.std.proofs.lemmas.List.{length-replicate, length-take-le, take-replicate}
use Rattle.std.specs.Prelude.{is_some}
use Rattle.track_table.specs.Bits.{is_marked}
use Rattle.track_table.specs.Tracks.{count_below, least}
use Rattle.track_table.proofs.Places.{empty_places}
use Rattle.event_notes.specs.Loose.{is_loose_in}
use Rattle.event_notes.proofs.Counted.{count_none, some_counted}
use Rattle.event_notes.proofs.Loosely.{count_is, counted, least_is}
use Rattle.event_notes.proofs.loose.LooseTracks.lose.Goals as goal

none : (marks : List Bool) → marks ≡ replicate 65535 false → count_below 65535 (is_marked marks) ≡ 0
none marks e = count_none 65535 (is_marked marks) (λ t. rw e (empty_places 65535 t false))

pub push_reserved-requires : goal.push_reserved-requires
push_reserved-requires c =
    let i = c.self.invariant in
    let is = least_is c.self.inside.marks c.self.inside.tracks i.0 i.1 i.2 in
    let some : is_some (least 65535 (is_marked c.self.inside.marks)) ≡ true =
    ap is_some (sym is) ∙ ap (λ v. is_some (least (length v.loose) (is_loose_in v.loose))) c.self.view_is ∙ c.requires in
    let one = some_counted 65535 (is_marked c.self.inside.marks) some in
    omega (arith, one, i.3)

pub invariant_of-self : goal.invariant_of-self
invariant_of-self c =
    let i = c.self.invariant in
    let is = least_is c.self.inside.marks c.self.inside.tracks i.0 i.1 i.2 in
    let some : is_some (least 65535 (is_marked c.self.inside.marks)) ≡ true =
    ap is_some (sym is) ∙ ap (λ v. is_some (least (length v.loose) (is_loose_in v.loose))) c.self.view_is ∙ c.requires in
    let one = some_counted 65535 (is_marked c.self.inside.marks) some in
    let no_more = none c.clear.new.self c.clear.ensures in (
      i.0,
      ap length c.clear.ensures ∙ length-replicate 65535 false,
      λ t behind. rw c.clear.ensures (empty_places 65535 t false),
      omega (arith, no_more, one, i.3, c.push_reserved.ensures.len, c.push_reserved.ensures.capacity),
    )

pub returns-clause-loose : goal.returns-clause-loose
returns-clause-loose c =
    let n = c.self.inside.tracks in
    let marks = c.self.inside.marks in
    let tracks : length c.args.self.now.loose ≡ n = ap (λ v. length v.loose) (sym c.self.view_is)
    ∙ length-take-le n marks (omega (arith, c.self.invariant.0, c.self.invariant.1)) in
    rw (c.clear.ensures, tracks) (take-replicate n 65535 false c.self.invariant.0)

pub returns-clause-weight : goal.returns-clause-weight
returns-clause-weight c =
    let i = c.self.invariant in
    let is = least_is c.self.inside.marks c.self.inside.tracks i.0 i.1 i.2 in
    let some : is_some (least 65535 (is_marked c.self.inside.marks)) ≡ true =
    ap is_some (sym is) ∙ ap (λ v. is_some (least (length v.loose) (is_loose_in v.loose))) c.self.view_is ∙ c.requires in
    let one = some_counted 65535 (is_marked c.self.inside.marks) some in
    let no_more = none c.clear.new.self c.clear.ensures in
    let was = count_is c.self.inside.marks c.self.inside.tracks i.2 c.args.self.now.loose (ap (λ v. v.loose) c.self.view_is) in
    let now = counted c.clear.new.self c.self.inside.tracks (λ t behind. rw c.clear.ensures (empty_places 65535 t false)) in
    omega (arith, no_more, one, was, now, ap (λ v. length v.acts) c.self.view_is, c.push_reserved.ensures.len)
