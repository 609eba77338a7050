-- The devices that an event line of a deck that was read names are among the deck's.
use Rattle.std.proofs.Common.{arith, ◌≡◌, ℕ, true, List, [], ◌∷◌, map, Ok}
use Rattle.std.specs.Prelude.{IsSome, Result}
use Rattle.ckd_types.specs.declared.paths.Side.{Side}
use Rattle.deck_plan.specs.declared.event.EventLine.{EventLine}
use Rattle.deck_plan.specs.declared.event.EventLine.TheVariants as events
use Rattle.deck_text.specs.declared.line.DeckWhy.{DeckWhy}
use Rattle.deck_text.specs.declared.line.DeviceLine.{DeviceLine}
use Rattle.deck_text.specs.DeckLines.{DeckLines}
use Rattle.deck_text.specs.Events.{device_words}
use Rattle.deck_text.specs.Forms.{then_read, is_declared}
use Rattle.deck_text.specs.Parse.{parsed}
use Rattle.deck_text.proofs.DeckAgain.{Each, EventOk}
use Rattle.deck_text.proofs.FormsAgain.{went}
use Rattle.deck_text.proofs.Reached.{parsed_good}
use Rattle.device_defs.specs.Marks.{MarksDevice}
use Rattle.subsystem_defs.specs.Deeds.{device_in}

-- each device that it names
abbrev pub OfNamed : (ℕ → Type 0) → EventLine → Type 0
OfNamed P (events.Start path d) = P d
OfNamed P (events.Step d) = P d
OfNamed P (events.Run d) = P d
OfNamed P (events.Back d) = P d
OfNamed P (events.Settle d) = P d
OfNamed P (events.Reset path d) = P d
OfNamed P (events.FailVolume d side) = P d
OfNamed P (events.Replace d side) = P d
OfNamed P (events.Pair a b) = P a × P b
OfNamed P (events.Unpair d) = P d
OfNamed P (events.Suspend d) = P d
OfNamed P (events.Resume d) = P d
OfNamed P _ = Unit {0}

module _ (devices : List DeviceLine) where
  -- an event of one device
  of_device : (f : ℕ → EventLine) → ((x y : ℕ) → ◌≡◌ {A = Result EventLine DeckWhy} (Ok (f x)) (Ok (f y)) → x ≡ y) → (words : List (List ℕ)) (d : ℕ) →
      then_read (device_words devices words) (λ x. Ok (f x)) ≡ Ok (f d) → is_declared devices d ≡ true
  of_device f same words d h = grind (arith, went)

  volume_is : (x y : ℕ) (s t : Side) → ◌≡◌ {A = Result EventLine DeckWhy} (Ok (events.FailVolume x s)) (Ok (events.FailVolume y t)) → x ≡ y
  volume_is x y s t h = cc

  of_event : (e : EventLine) → EventOk devices e → OfNamed (λ d. is_declared devices d ≡ true) e
  of_event e ok = grind (arith, went)

  of_events : (es : List EventLine) → Each (EventOk devices) es → Each (OfNamed (λ d. is_declared devices d ≡ true)) es
  of_events [] h = tt
  of_events (e ∷ es) h = (of_event e h.0, of_events es h.1)

pub read_names : (text : List ℕ) (deck : DeckLines) → parsed text ≡ Ok deck →
    Each (OfNamed (λ d. is_declared deck.devices d ≡ true)) deck.events
read_names text deck read = of_events deck.devices deck.events (parsed_good text deck read).events

-- a declared device is one of a run that has the deck's numbers
pub declared_has : (lines : List DeviceLine) (ds : List MarksDevice) (d : ℕ) →
    map (λ (x : MarksDevice). x.store.device) ds ≡ map (λ (l : DeviceLine). l.number) lines → is_declared lines d ≡ true → IsSome (device_in ds d)
declared_has (l ∷ lines) (x ∷ ds) d same is = grind (arith, declared_has lines ds d)
declared_has lines ds d same is = absurd (cc)
