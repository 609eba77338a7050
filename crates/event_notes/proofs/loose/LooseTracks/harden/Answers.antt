use Rattle.std.proofs.Common.{◌≡◌, ◌<◌, true, false, length, sym, ap, ◌∙◌, arith}
use Rattle.std.proofs.Math.Seq.{take-set-lt}
use Rattle.std.proofs.lemmas.List.{length-take, length-set}
use Rattle.loss_model.proofs.Fronts.{front_mark}
use Rattle.track_table.specs.Bits.{is_marked}
use Rattle.event_notes.specs.Loose.{is_loose_in}
use Rattle.event_notes.proofs.Counted.{count_one_less, counted_one}
use Rattle.event_notes.proofs.Loosely.{none_behind, count_is, counted}
use Rattle.event_notes.proofs.loose.LooseTracks.harden.Goals as goal

pub push_reserved-requires : goal.push_reserved-requires
push_reserved-requires c =
    let i = c.self.invariant in
    let n = c.self.inside.tracks in
    let marks = c.self.inside.marks in
    let there : c.args.t < n = omega (arith, c.requires.track, ap (λ v. length v.loose) (sym c.self.view_is), length-take n marks) in
    let is : is_marked marks c.args.t ≡ true = front_mark marks n c.args.t i.2 ∙ ap (λ v. is_loose_in v.loose c.args.t) c.self.view_is ∙ c.requires.loose in
    let one = counted_one 65535 (is_marked marks) c.args.t (omega (arith, there, i.0)) is in
    omega (arith, one, i.3)

pub invariant_of-self : goal.invariant_of-self
invariant_of-self c =
    let i = c.self.invariant in
    let n = c.self.inside.tracks in
    let marks = c.self.inside.marks in
    let there : c.args.t < n = omega (arith, c.requires.track, ap (λ v. length v.loose) (sym c.self.view_is), length-take n marks) in
    let is : is_marked marks c.args.t ≡ true = front_mark marks n c.args.t i.2 ∙ ap (λ v. is_loose_in v.loose c.args.t) c.self.view_is ∙ c.requires.loose in
    let less = count_one_less 65535 (is_marked marks) (is_marked c.set.new.self) c.args.t c.set.ensures.each (omega (arith, there, i.0)) is in (
      i.0,
      ap length c.set.ensures.marks ∙ length-set marks c.args.t false ∙ i.1,
      none_behind marks c.set.new.self n c.args.t false there i.2 c.set.ensures.each,
      omega (arith, less, i.3, c.push_reserved.ensures.len, c.push_reserved.ensures.capacity),
    )

pub returns-clause-loose : goal.returns-clause-loose
returns-clause-loose c =
    let n = c.self.inside.tracks in
    let marks = c.self.inside.marks in
    let there : c.args.t < n = omega (arith, c.requires.track, ap (λ v. length v.loose) (sym c.self.view_is), length-take n marks) in
    rw (c.set.ensures.marks, ← c.self.view_is) (take-set-lt n marks c.args.t false there)

pub returns-clause-weight : goal.returns-clause-weight
returns-clause-weight c =
    let i = c.self.invariant in
    let n = c.self.inside.tracks in
    let marks = c.self.inside.marks in
    let there : c.args.t < n = omega (arith, c.requires.track, ap (λ v. length v.loose) (sym c.self.view_is), length-take n marks) in
    let is : is_marked marks c.args.t ≡ true = front_mark marks n c.args.t i.2 ∙ ap (λ v. is_loose_in v.loose c.args.t) c.self.view_is ∙ c.requires.loose in
    let less = count_one_less 65535 (is_marked marks) (is_marked c.set.new.self) c.args.t c.set.ensures.each (omega (arith, there, i.0)) is in
    let was = count_is marks n i.2 c.args.self.now.loose (ap (λ v. v.loose) c.self.view_is) in
    let now = counted c.set.new.self n (none_behind marks c.set.new.self n c.args.t false there i.2 c.set.ensures.each) in
    omega (arith, less, was, now, ap (λ v. length v.acts) c.self.view_is, c.push_reserved.ensures.len)
