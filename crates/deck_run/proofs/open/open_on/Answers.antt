use Rattle.std.proofs.Common.{◌≡◌, ◌∙◌, refl, sym, ap, subst, true, List, ℕ, None}
use Rattle.device_outside.specs.Pool.{new_pool}
use Rattle.frame_pool.specs.Shared.{Shared}
use Rattle.subsystem_core.specs.Places.{are_rising}
use Rattle.subsystem_defs.specs.Decks.{opened_on}
use Rattle.deck_run.proofs.Accounted.{fresh_accounted, fresh_alike}
use Rattle.deck_run.proofs.Lines.{numbers_rise}
use Rattle.deck_run.proofs.Opened.{opened_stands}
use Rattle.deck_run.proofs.open.open_on.Goals as goal

pub new-requires-2-clause-rising : goal.new-requires-2-clause-rising
new-requires-2-clause-rising g c =
    subst (λ (l : List ℕ). are_rising l ≡ true) (sym c.in_ok-devices.ensures.numbers) (numbers_rise c.args.deck.now.devices None c.requires.devices)

pub new-requires-2-clause-alike : goal.new-requires-2-clause-alike
new-requires-2-clause-alike g c = fresh_alike c.in_ok-devices.devices.items c.in_ok-devices.ensures.fresh

pub returns-clause-stands : goal.returns-clause-stands
returns-clause-stands g c = λ firsts all.
    opened_stands c.in_ok-made.made (opened_on firsts c.args.deck.now) c.args.deck.now.frames c.args.deck.now.slots
    (ap (λ (s : Shared). s.pool) (c.in_ok-made.ensures.pool ∙ c.in_ok-pool.ensures)
    ∙ ap (λ (n : ℕ). new_pool n c.slots.result) c.frames.ensures ∙ ap (new_pool c.args.deck.now.frames) c.slots.ensures) refl
    (λ p. rw c.in_ok-made.ensures.devices (c.in_ok-devices.ensures.mounted p firsts all))

pub returns-clause-numbers : goal.returns-clause-numbers
returns-clause-numbers g c = rw c.in_ok-made.ensures.devices c.in_ok-devices.ensures.numbers

pub returns-clause-own : goal.returns-clause-own
returns-clause-own g c = rw c.in_ok-made.ensures.devices (record {
  each = c.in_ok-devices.ensures.own;
  accounted = fresh_accounted c.in_ok-devices.devices.items c.in_ok-devices.ensures.fresh;
})

pub returns-clause-unused : goal.returns-clause-unused
returns-clause-unused g c = rw c.in_ok-made.ensures.devices c.in_ok-devices.ensures.unused
