use Rattle.std.proofs.Common.{ℕ, List, ◌≡◌, ◌∙◌, Box, Global, sym, ap, subst}
use Rattle.device_turn.specs.declared.counters.Counters.{Counters}
use Rattle.device_turn.specs.Rule.{Still, Without, boxed}
use Rattle.device_turn.proofs.Views.{kept_through, still_set}
use Rattle.device_turn.proofs.tests.count_one.Goals as goal

pub leave-requires-clause-keeps : goal.leave-requires-clause-keeps
leave-requires-clause-keeps g c =
    let e = c.in-Got.ensures.entered in
    let v = c.enter.new.seat.seat.me.0 in
    let loaded : v.loaded ≡ e.loaded = ap (λ m. m.0.loaded) e.out in
    let apart : Without c.enter.new.seat.number v.loaded = subst
    (λ (k : ℕ). Without k v.loaded) c.enter.new.seat.numbered
    (subst (λ (es : List (ℕ × ℕ)). Without v.number es) (sym loaded) e.others) in
    let counted = c.with_one-counted.ensures.counts in (
      kept_through {P = ℕ} {H = Box Counters Global} (boxed (λ tag x. x.tag ≡ tag)) v.pledge c.in-Got.counters c.with_one-counted.result
          (λ p h. c.with_one-counted.ensures.tag ∙ h) e.kept.0,
      subst (λ (ws : List ℕ). Still ws v.loaded) (sym counted.1) (still_set c.in-Got.counters.value.counts _ counted.0 v.loaded apart e.kept.1),
    )
