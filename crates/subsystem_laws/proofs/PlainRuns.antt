-- In the run of a deck each device's history is one of a plain device after every event.
use Rattle.std.proofs.Common.{
  ◌≡◌,
  ◌≤◌,
  ◌*◌,
  ◌==◌,
  ℕ,
  Bool,
  true,
  List,
  [],
  ◌∷◌,
  length,
  map,
  Option,
  Some,
  None,
  refl,
  sym,
  ap,
  subst,
  ◌∙◌,
  arith,
}
use Rattle.std.specs.Prelude.{not, All}
use Rattle.std.proofs.lemmas.List.FromFn.{length-map-range_with_len}
use Rattle.std.proofs.lemmas.List.Elements.{All-nil, All-cons, All-head, All-tail}
use Rattle.deck_plan.specs.declared.event.EventLine.{EventLine}
use Rattle.deck_text.specs.declared.line.DeviceLine.{DeviceLine}
use Rattle.deck_text.specs.DeckLines.{DeckLines}
use Rattle.plain_defs.specs.History.{OpenEntry, IsPlain}
use Rattle.plain_defs.specs.Journal.{Plans}
use Rattle.plain_defs.specs.PlainState.{PlainState}
use Rattle.ckd_types.specs.declared.geometry.Geometry as geometries
use Rattle.ckd_types.specs.declared.paths.Side.{Side}
use Rattle.ckd_types.specs.declared.record.Track.{Track}
use Rattle.ckd_types.specs.Track.{empty_track}
use Rattle.ckd_types.specs.Volume.{empty_volume}
use Rattle.ckd_types.specs.declared.paths.Side.TheVariants.{A, B}
use Rattle.loss_model.specs.declared.Loss.TheVariants as losses
use Rattle.track_image.specs.Image.{Image}
use Rattle.device_outside.specs.Interaction.{Interaction}
use Rattle.device_defs.specs.Orders.{join, split, restore, hold_side, resume, replace}
use Rattle.device_defs.specs.Start.{start}
use Rattle.device_defs.specs.Marks.{MarksDevice, MarksStore, new_device}
use Rattle.device_laws.specs.NewDevice.{device_on, first_state}
use Rattle.device_laws.proofs.Had.{Had}
use Rattle.device_laws.proofs.PlainCommand.{command_follows, follows_store}
use Rattle.device_laws.proofs.PlainCuts.{reset_follows}
use Rattle.device_laws.proofs.PlainEvents.{first_follows, start_follows}
use Rattle.device_laws.proofs.PlainLosses.{loss_follows, background_follows}
use Rattle.device_laws.proofs.PlainOrders.{lend_follows, restore_follows}
use Rattle.device_laws.proofs.PlainPower.{power_follows}
use Rattle.device_laws.proofs.PlainSeconds.{second_follows}
use Rattle.device_laws.proofs.PlainStores.{core_of}
use Rattle.device_laws.proofs.PlainTurns.{IsAtHome, Follows}
use Rattle.subsystem_defs.specs.declared.end.OrderFault.{OrderFault}
use Rattle.subsystem_defs.specs.declared.end.OrderFault.TheVariants.{Same, Paired, Geometry, Down}
use Rattle.subsystem_defs.specs.declared.event.Event.{Event}
use Rattle.subsystem_defs.specs.Decks as D
use Rattle.subsystem_defs.specs.Decks.{Firsts, AreWhole, empty_firsts, opened_device, opened_device_on, opened_on, run_of, run_on}
use Rattle.subsystem_defs.specs.Happening.{is_lent_to, happens}
use Rattle.subsystem_defs.specs.Lines.{Asked, Once, Replace, Unpair, Run, Settle, asked_by, Logged, line_logged, last_behind}
use Rattle.subsystem_defs.specs.Promised.{HasPlainHistoryOn, IsPlainBehind, IsPlainBehindOn, first_of}
use Rattle.subsystem_defs.specs.Subsystem.{Mounted, Subsystem, devices_of}
use Rattle.subsystem_defs.specs.Refusals as R
use Rattle.subsystem_defs.specs.Refusals.{first_cause, where_so, lent_by, active_by, is_alike, pair_fault}
use Rattle.subsystem_defs.proofs.Unrefused.{first_none}
use Rattle.subsystem_laws.specs.Served.{IsServedEvent, IsServed, IsServedDeck}
use Rattle.subsystem_laws.specs.Came.{CameTo}
use Rattle.subsystem_laws.proofs.Came.{came_had}
use Rattle.subsystem_laws.proofs.RunLines.{MayAsk}
use Rattle.subsystem_laws.proofs.Walks.{HasOwn, IsKept, AreSo, event_so, line_keeps, lines_keep_so, lines_end_so, behind_weaker}

-- a device that follows the plain device of its history, on a volume that held these tracks first, where it has so many cylinders
pub record PlainlyOn (first : ℕ → List Track) (d : MarksDevice) : Type 0 where
  pub number : ℕ
  pub empty : PlainState
  pub follows : Follows number empty d
  pub base : empty ≡ first_of first d

-- on what the volume of the device of its number held
abbrev pub PlainlyFrom : Firsts → MarksDevice → Type 0
PlainlyFrom firsts d = PlainlyOn (firsts d.store.device) d

-- on an empty one
abbrev pub Plainly : MarksDevice → Type 0
Plainly d = PlainlyFrom empty_firsts d

abbrev pub ArePlainOn : Firsts → List Mounted → Type 0
ArePlainOn firsts ms = AreSo (PlainlyFrom firsts) ms

abbrev pub ArePlain : List Mounted → Type 0
ArePlain ms = ArePlainOn empty_firsts ms

plain_history : (firsts : Firsts) (d : MarksDevice) → PlainlyFrom firsts d → HasPlainHistoryOn firsts d
plain_history firsts d p = subst (λ (x : PlainState). IsPlain d.plans x d.history) p.base p.follows.stands.plain

-- Another device that follows the same began so too

pub still_first : (first : ℕ → List Track) (num : ℕ) (empty : PlainState) (y : MarksDevice) → Follows num empty y →
    empty.volume ≡ first empty.cylinders → empty ≡ first_of first y
still_first first num empty y f held =
    f.base
    ∙ ap (first_state y.store.geometry y.store.cylinders) (held ∙ ap (λ (x : PlainState). first x.cylinders) f.base)

pub first_held : (first : ℕ → List Track) (empty : PlainState) (d : MarksDevice) → empty ≡ first_of first d → empty.volume ≡ first empty.cylinders
first_held first empty d base =
    ap (λ (x : PlainState). x.volume) base ∙ sym (ap (λ (x : PlainState). first x.cylinders) base)

-- Deeds that leave each device's history plain

pub follows_on : {first : ℕ → List Track} (d y : MarksDevice) (p : PlainlyOn first d) → Follows p.number p.empty y → PlainlyOn first y
follows_on {first = first} d y p f = record {
  number = p.number;
  empty = p.empty;
  follows = f;
  base = still_first first p.number p.empty y f (first_held first p.empty d p.base);
}

module _ (firsts : Firsts) where
  follows_from : (d y : MarksDevice) (p : PlainlyFrom firsts d) → Follows p.number p.empty y → PlainlyFrom firsts y
  follows_from d y p f = subst (λ (n : ℕ). PlainlyOn (firsts n) y) (p.follows.number ∙ sym f.number) (follows_on d y p f)

  leaves : {A : Type 0} {talk : Interaction Bool Image MarksDevice A} (d : MarksDevice) (p : PlainlyFrom firsts d) →
      Had talk (λ y (_ : A). Follows p.number p.empty y) → (t : CameTo talk) → PlainlyFrom firsts t.state
  leaves d p h t = follows_from d t.state p (came_had h t)

  -- an order that changes nothing of what a plain device has
  stored : (d : MarksDevice) (z : MarksStore) → core_of z ≡ core_of d.store → PlainlyFrom firsts d → PlainlyFrom firsts (record d { store = z })
  stored d z e p = follows_from d (record d { store = z }) p (follows_store p.number p.empty d p.follows z e)

  replaced_side : (d : MarksDevice) (side : Side) → PlainlyFrom firsts d → PlainlyFrom firsts (replace d side)
  replaced_side d A p = stored d (replace d A).store refl p
  replaced_side d B p = stored d (replace d B).store refl p

home_lent : (l : Option ℕ) (a : ℕ) (r : Option OpenEntry) → is_lent_to l a ≡ true → IsAtHome l r → r ≡ None
home_lent (Some to) a r is home = home
home_lent None a r is home = absurd (cc)

restored : (firsts : Firsts) (d : MarksDevice) → d.history.running ≡ None → PlainlyFrom firsts d → PlainlyFrom firsts (restore d)
restored firsts d none p = follows_from firsts d (restore d) p (restore_follows p.number p.empty d p.follows none)

-- a device is lent while it runs nothing

none_active : (r : Option OpenEntry) → active_by r ≡ None → r ≡ None
none_active (Some o) is = absurd (cc)
none_active None is = refl

-- the last of these causes isn't one
last_none : (a b c d e f g : Option OrderFault) (fs : List (Option OrderFault)) → first_cause (a ∷ b ∷ c ∷ d ∷ e ∷ f ∷ g ∷ fs) ≡ None → g ≡ None
last_none a b c d e f g fs is =
    (first_none g fs (first_none f (g ∷ fs) (first_none e (f ∷ g ∷ fs) (first_none d (e ∷ f ∷ g ∷ fs) (first_none c (d ∷ e ∷ f ∷ g ∷ fs)
    (first_none b (c ∷ d ∷ e ∷ f ∷ g ∷ fs) (first_none a (b ∷ c ∷ d ∷ e ∷ f ∷ g ∷ fs) is).1).1).1).1).1).1).0

pub lent_is_idle : (x y : MarksDevice) → pair_fault x y ≡ None → y.history.running ≡ None
unfolding R.pair_fault
lent_is_idle x y is =
    none_active y.history.running
    (last_none (where_so (x.store.device == y.store.device) Same) (lent_by x.store.lent) (lent_by y.store.lent) (where_so x.store.paired Paired)
    (where_so y.store.paired Paired) (active_by x.history.running) (active_by y.history.running)
    (where_so (not (is_alike x.store y.store)) Geometry ∷ where_so (not x.store.a.up) Down ∷ where_so (not y.store.a.up) Down ∷ []) is)

pub plain_kept_from : (firsts : Firsts) → IsKept (PlainlyFrom firsts) IsServedEvent
plain_kept_from firsts = record {
  started = λ d path n may fault p. follows_from firsts d (start d path) p (start_follows p.number p.empty d p.follows path may.0 may.1 fault);
  commanded = λ d o running whole p. leaves firsts d p (command_follows p.number p.empty d p.follows o running whole);
  seconded = λ d h is p. leaves firsts d p (second_follows p.number p.empty d p.follows h is);
  worked = λ d whole p. leaves firsts d p (background_follows p.number p.empty d p.follows whole);
  cut = λ d path p. leaves firsts d p (reset_follows p.number p.empty d p.follows path);
  lost_cache = λ d p. leaves firsts d p (loss_follows p.number p.empty d p.follows losses.Cache);
  lost_store = λ d p. leaves firsts d p (loss_follows p.number p.empty d p.follows losses.Store);
  lost_side = λ d side home p. leaves firsts d p (loss_follows p.number p.empty d p.follows (losses.Side side));
  lost_power = λ d p. leaves firsts d p (power_follows p.number p.empty d p.follows);
  held = λ d fault p. stored firsts d (hold_side d).store refl p;
  resumed = λ d pair p. stored firsts d (resume d).store refl p;
  replaced = λ d side fault p. replaced_side firsts d side p;
  lent = λ x y fault p q. leaves firsts y q (lend_follows q.number q.empty y q.follows (lent_is_idle x y fault) x.store.device);
  joins = λ d free p. stored firsts d (join d).store refl p;
  splits = λ d fault p. stored firsts d (split d).store refl p;
  restored = λ d a is p. restored firsts d (home_lent d.store.lent a d.history.running is p.follows.home) p;
}

pub plain_kept : IsKept Plainly IsServedEvent
plain_kept = plain_kept_from empty_firsts

pub plain_kept_on : (first : ℕ → List Track) → IsKept (PlainlyOn first) IsServedEvent
plain_kept_on first = plain_kept_from (λ number. first)

-- Lines

plain_own : HasOwn IsServedEvent
plain_own = record { step = λ d. tt; back = λ d. tt }

may_ask : (x : Asked) → IsServed x → MayAsk IsServedEvent x
may_ask (Once e) h = h
may_ask (Replace d side) h = tt
may_ask (Unpair a) h = tt
may_ask (Run d) h = tt
may_ask (Settle d) h = tt

pub all_may : (lines : List EventLine) → All (λ (line : EventLine). IsServed (asked_by line)) lines → All (MayAsk IsServedEvent) (map asked_by lines)
all_may [] h = All-nil (MayAsk IsServedEvent)
all_may (line ∷ lines) h =
    All-cons (MayAsk IsServedEvent) (asked_by line) (map asked_by lines)
    (may_ask (asked_by line) (All-head (λ (l : EventLine). IsServed (asked_by l)) line lines h))
    (all_may lines (All-tail (λ (l : EventLine). IsServed (asked_by l)) line lines h))

-- one event, and one line
pub event_plain_on : (firsts : Firsts) (s : Subsystem) → ArePlainOn firsts s.mounted → (e : Event) → IsServedEvent e →
    ArePlainOn firsts (happens s e).behind.mounted
event_plain_on firsts s p e h = event_so (PlainlyFrom firsts) IsServedEvent (plain_kept_from firsts) s p e h

pub event_plain : (s : Subsystem) → ArePlain s.mounted → (e : Event) → IsServedEvent e → ArePlain (happens s e).behind.mounted
event_plain = event_plain_on empty_firsts

pub line_plain : (firsts : Firsts) (x : Asked) (s : Subsystem) → IsServed x → ArePlainOn firsts s.mounted →
    ArePlainOn firsts (last_behind s (line_logged s x)).mounted
line_plain firsts x s h p = line_keeps (PlainlyFrom firsts) IsServedEvent (plain_kept_from firsts) plain_own x s (may_ask x h) p

-- Decks

pub first_plainly : (first : ℕ → List Track) (number : ℕ) (on : geometries.Geometry) (n : ℕ) (plans : Plans) → length (first n) ≡ n * 15 → 1 ≤ n →
    PlainlyOn first (device_on number on n (first n) plans)
first_plainly first number on n plans many some = record {
  number = number;
  empty = first_state on n (first n);
  follows = first_follows number on n (first n) plans many (omega (arith, some));
  base = refl;
}

pub new_plainly : (number : ℕ) (on : geometries.Geometry) (n : ℕ) (plans : Plans) → 1 ≤ n → Plainly (new_device number on n plans)
new_plainly number on n plans some = first_plainly empty_volume number on n plans (length-map-range_with_len empty_track 0 (n * 15)) some

pub empty_whole : AreWhole empty_firsts
empty_whole d n = length-map-range_with_len empty_track 0 (n * 15)

pub opened_plain_on : (firsts : Firsts) → AreWhole firsts → (deck : DeckLines) (ds : List DeviceLine) → All (λ (d : DeviceLine). 1 ≤ d.cylinders) ds →
    ArePlainOn firsts (map (opened_device_on firsts deck) ds)
opened_plain_on firsts whole deck [] h = tt
opened_plain_on firsts whole deck (d ∷ ds) h = (
  first_plainly (firsts d.number) d.number d.geometry d.cylinders _ (whole d.number d.cylinders)
      (All-head (λ (d : DeviceLine). 1 ≤ d.cylinders) d ds h),
  opened_plain_on firsts whole deck ds (All-tail (λ (d : DeviceLine). 1 ≤ d.cylinders) d ds h),
)

pub opened_plain : (deck : DeckLines) (ds : List DeviceLine) → All (λ (d : DeviceLine). 1 ≤ d.cylinders) ds →
    ArePlain (map (opened_device deck) ds)
opened_plain = opened_plain_on empty_firsts empty_whole

module _ (firsts : Firsts) (whole : AreWhole firsts) (deck : DeckLines) (h : IsServedDeck deck) where
  pub run_stays_plain_on : All (λ (x : Logged). All (PlainlyFrom firsts) (devices_of x.happened.behind)) (run_on firsts deck).events
  unfolding D.run_asked_on
  run_stays_plain_on =
      lines_keep_so (PlainlyFrom firsts) IsServedEvent (plain_kept_from firsts) plain_own (map asked_by deck.events) (opened_on firsts deck)
      (all_may deck.events h.events) (opened_plain_on firsts whole deck deck.devices h.devices)

  pub run_plainly_on : All (IsPlainBehindOn firsts) (run_on firsts deck).events
  run_plainly_on =
      behind_weaker (PlainlyFrom firsts) (HasPlainHistoryOn firsts) (plain_history firsts) (run_on firsts deck).events run_stays_plain_on

  -- at its end
  pub plain_behind_on : ArePlainOn firsts (run_on firsts deck).behind.mounted
  unfolding D.run_asked_on
  plain_behind_on =
      lines_end_so (PlainlyFrom firsts) IsServedEvent (plain_kept_from firsts) plain_own (map asked_by deck.events) (opened_on firsts deck)
      (all_may deck.events h.events) (opened_plain_on firsts whole deck deck.devices h.devices)

pub run_stays_plain : (deck : DeckLines) → IsServedDeck deck → All (λ (x : Logged). All Plainly (devices_of x.happened.behind)) (run_of deck).events
run_stays_plain = run_stays_plain_on empty_firsts empty_whole

pub run_plainly : (deck : DeckLines) → IsServedDeck deck → All IsPlainBehind (run_of deck).events
run_plainly = run_plainly_on empty_firsts empty_whole

pub plain_behind : (deck : DeckLines) → IsServedDeck deck → ArePlain (run_of deck).behind.mounted
plain_behind = plain_behind_on empty_firsts empty_whole
