use Rattle.std.proofs.Common.{◌≡◌, ◌∙◌, arith, sym, ap, refl, subst, slice_index}
use mathlib.Core.Option.{none}
use Rattle.atomic_table.specs.Table.{step}
use Rattle.device_turn.specs.Rule.{KeptBy, boxed, counts_in}
use Rattle.device_turn.specs.Answers.{IsComplete, MayLeave}
use Rattle.device_turn.proofs.Moves.{returns_device, ends_turn}
use Rattle.device_turn.proofs.place.Turn.give_back.Goals as goal

pub load-requires : goal.load-requires
load-requires g c =
    let seat = c.args.seat.now in
    let words = c.args.self.now.seven_words in
    let me = c.exchange-empty.ensures.3 in
    let same = sym (ap (λ m. m.0) me) in
    let held = ap (λ m. m.1) me in (
      c.exchange-empty.ensures.0 ∙ c.requires.own,
      omega arith,
      returns_device _ _ _ _ (step 1 0 0 0 none) _ _ c.args.holder (ap (λ m. m.0.live) me ∙ seat.live)
          (ap (λ m. m.0.stage) me ∙ c.requires.out.0) (rw held refl) (g.met.H.Holder.six_counts c.args.holder.value)
          (subst (λ v. IsComplete v) same c.requires.keeps.0)
          (subst (λ v. MayLeave (KeptBy (boxed g.H.Holder.keeps)) (counts_in g.H.Holder.counts) v c.args.holder) same c.requires.keeps.1)
          (subst (λ v. slice_index (g.H.Holder.counts c.args.holder.value) v.number ≡ v.word) same c.requires.keeps.2),
    )

pub store-requires : goal.store-requires
store-requires g c =
    let words = c.args.self.now.seven_words in (
      c.load.ensures.0 ∙ (c.exchange-empty.ensures.0 ∙ c.requires.own),
      omega arith,
      ends_turn _ _ _ _ (step 1 0 0 0 none) _ _ (ap (λ m. m.0.stage) c.load.ensures.2),
    )
