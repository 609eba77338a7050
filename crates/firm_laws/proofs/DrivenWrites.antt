-- Whoever goes along with the run of a deck, and keeps what is told as firm of one of its devices, has that device's firm writes behind it.
use Rattle.std.proofs.Common.{
  ◌≡◌,
  ◌==◌,
  ◌++◌,
  ◌*◌,
  ℕ,
  zero,
  suc,
  Bool,
  true,
  false,
  List,
  [],
  ◌∷◌,
  map,
  Option,
  Some,
  None,
  Ok,
  get_or,
  replicate,
  refl,
  sym,
  ap,
  subst,
  ◌∙◌,
}
use Rattle.std.specs.Prelude.{All, if◌then◌else◌}
use Rattle.std.proofs.lemmas.List.{length-replicate}
use Rattle.std.proofs.lemmas.List.Elements.{All-head, All-tail}
use Rattle.ckd_types.specs.declared.paths.Side.{Side}
use Rattle.deck_plan.specs.declared.event.EventLine.{EventLine}
use Rattle.deck_text.specs.declared.line.DeviceLine.{DeviceLine}
use Rattle.deck_text.specs.DeckLines.{DeckLines}
use Rattle.deck_text.specs.Parse.{parsed}
use Rattle.device_outside.specs.Told.{Calls}
use Rattle.device_defs.specs.Marks.{MarksDevice}
use Rattle.device_defs.specs.Orders.{split, restore}
use Rattle.device_defs.specs.Store.{HalfWrite, no_debt, tracks_of}
use Rattle.device_laws.proofs.PlainEvents.{none_loose}
use Rattle.subsystem_defs.specs.declared.event.Event.{Event}
use Rattle.subsystem_defs.specs.declared.event.Event.TheVariants as events
use Rattle.subsystem_defs.specs.Decks.{AreWhole, Firsts, opened_device_on, opened_on}
use Rattle.subsystem_defs.specs.Happening.{happens, replaced, unpaired}
use Rattle.subsystem_defs.specs.Lines.{Asked, Once, Replace, Unpair, Run, Settle, asked_by, most_backs, most_steps}
use Rattle.subsystem_defs.specs.Subsystem.{Mounted, Subsystem, mounted_in, unfailing}
use Rattle.subsystem_laws.specs.Served.{IsServedEvent, IsServed, IsServedDeck}
use Rattle.subsystem_laws.proofs.PlainRuns.{ArePlainOn, event_plain_on, opened_plain_on}
use Rattle.subsystem_laws.proofs.ReadDecks.{read_served, read_numbered}
use Rattle.subsystem_laws.proofs.Walks.{mounted_number}
use Rattle.keeper_laws.specs.Firmness.{is_half_loose, IsTold, has_one}
use Rattle.keeper_laws.specs.Messages.{event_messages}
use Rattle.keeper_laws.proofs.FirmNumbers.{one_event}
use Rattle.keeper_laws.proofs.FirmRuns.{firm_event, firm_replaced}
use Rattle.keeper_laws.proofs.Places.{unpaired_there}
use Rattle.line_drive.specs.Driven as D
use Rattle.line_drive.specs.Driven.{
  Course,
  Occurred,
  Comes,
  Replaces,
  Unpairs,
  Step,
  Goes,
  onward,
  moved,
  is_busy_at,
  settles_at,
  steps_on,
  backs_on,
  line_on,
  driven,
}
use Rattle.firm_laws.specs.FirmWrites.{FirmWrite, firm_writes_on, firms_in}
use Rattle.firm_laws.specs.Telling.{IsTelling}
use Rattle.firm_laws.specs.Written.{BeginsWith}
use Rattle.firm_laws.proofs.OneNumber.{one_replaced, one_unpaired, one_opened}
use Rattle.firm_laws.proofs.StillPlain.{plain_there, replaced_plain, unpaired_plain}
use Rattle.firm_laws.proofs.WrittenRuns.{written_event, written_replaced, written_unpaired}

some_is : {X : Type 0} {x y : X} → Some x ≡ Some y → x ≡ y
some_is e = cc

-- A subsystem in a run

module _ (firsts : Firsts) (n : ℕ) where
  -- these are the firm writes of the device of number n
  record Stands (s : Subsystem) (ws : List FirmWrite) : Type 0 where
    plain : ArePlainOn firsts s.mounted
    one : has_one n s.mounted ≡ true
    mounted : Mounted
    there : mounted_in s.mounted n ≡ Some mounted
    told : IsTold mounted.device.store
    writes : ws ≡ firm_writes_on firsts mounted.device

  event_stands : (s : Subsystem) (ws : List FirmWrite) (e : Event) → IsServedEvent e → Stands s ws →
      Stands (happens s e).behind (ws ++ firms_in n (event_messages s e))
  event_stands s ws e may x =
      let f = firm_event n x.mounted s x.there x.told x.one e in
      let w = written_event firsts n x.mounted s x.there x.told (plain_there firsts s x.plain n x.mounted x.there) x.one e in
      let same : w.mounted ≡ f.mounted = some_is (sym w.there ∙ f.there) in
      record {
        plain = event_plain_on firsts s x.plain e may;
        one = one_event s n e x.one;
        mounted = f.mounted;
        there = f.there;
        told = f.told;
        writes =
            ap (λ (l : List FirmWrite). l ++ firms_in n (event_messages s e)) x.writes
            ∙ sym w.writes ∙ ap (λ (m : Mounted). firm_writes_on firsts m.device) same;
      }

  replaced_stands : (s : Subsystem) (ws : List FirmWrite) (d : ℕ) (side : Side) (volume : Calls) → Stands s ws → Stands (replaced s d side volume).behind ws
  replaced_stands s ws d side volume x =
      let f = firm_replaced n x.mounted s x.there x.told d side volume in
      let w = written_replaced firsts n x.mounted s x.there x.told (plain_there firsts s x.plain n x.mounted x.there) d side volume in
      let same : w.mounted ≡ f.mounted = some_is (sym w.there ∙ f.there) in
      record {
        plain = replaced_plain firsts s x.plain d side volume;
        one = one_replaced s n d side volume x.one;
        mounted = f.mounted;
        there = f.there;
        told = f.told;
        writes = x.writes ∙ sym w.writes ∙ ap (λ (m : Mounted). firm_writes_on firsts m.device) same;
      }

  -- nothing is owed of a device that gets an empty volume, either
  half_firm : (h : Option (HalfWrite (Unit {0}))) (k : ℕ) → is_half_loose h (replicate k false) ≡ false
  half_firm None k = refl
  half_firm (Some h) k = none_loose k h.track

  splits_told : (d : MarksDevice) → IsTold d.store → IsTold (split d).store
  splits_told d x = record { room = x.room; free = x.free; half = x.half }

  restores_told : (d : MarksDevice) → IsTold d.store → IsTold (restore d).store
  restores_told d x = record { room = x.room; free = x.free; half = half_firm d.store.half (tracks_of d.store) }

  unpaired_stands : (s : Subsystem) (ws : List FirmWrite) (d : ℕ) (volume : Calls) → Stands s ws → Stands (unpaired s d volume).behind ws
  unpaired_stands s ws d volume x =
      let f = unpaired_there n (λ (y : MarksDevice). IsTold y.store) s x.mounted x.there x.told splits_told d volume (λ y told lent. restores_told y told) in
      let w = written_unpaired firsts n x.mounted s x.there x.told (plain_there firsts s x.plain n x.mounted x.there) d volume in
      let same : w.mounted ≡ f.mounted = some_is (sym w.there ∙ f.there) in
      record {
        plain = unpaired_plain firsts s x.plain d volume;
        one = one_unpaired s n d volume x.one;
        mounted = f.mounted;
        there = f.there;
        told = f.is_so;
        writes = x.writes ∙ sym w.writes ∙ ap (λ (m : Mounted). firm_writes_on firsts m.device) same;
      }

  -- Along a course

  -- the events of lines that were read
  abbrev MayOccur : Occurred → Type 0
  MayOccur (Comes e) = IsServedEvent e
  MayOccur (Replaces d side) = Unit {0}
  MayOccur (Unpairs a) = Unit {0}

  module _ {G E : Type 0} (c : Course G E) (number : G → ℕ) (firms : G → List FirmWrite) (t : IsTelling c number firms) where
    record So (g : G) : Type 0 where
      is : number g ≡ n
      stands : Stands (c.sub g) (firms g)

    record GoesSo (x : Step G E) : Type 0 where
      next : G
      goes : x ≡ Goes next
      so : So next

    did_so : (g : G) (o : Occurred) → MayOccur o → So g → So (c.did g o)
    did_so g (Comes e) may x = record {
      is = t.stays g (Comes e) ∙ x.is;
      stands =
          subst (λ (z : Subsystem). Stands z (firms (c.did g (Comes e)))) (sym (t.sub g (Comes e)))
          (subst (Stands (happens (c.sub g) e).behind)
          (sym (t.comes g e ∙ ap (λ (k : ℕ). firms g ++ firms_in k (event_messages (c.sub g) e)) x.is))
          (event_stands (c.sub g) (firms g) e may x.stands));
    }
    did_so g (Replaces d side) may x = record {
      is = t.stays g (Replaces d side) ∙ x.is;
      stands =
          subst (λ (z : Subsystem). Stands z (firms (c.did g (Replaces d side)))) (sym (t.sub g (Replaces d side)))
          (subst (Stands (replaced (c.sub g) d side unfailing).behind) (sym (t.replaces g d side))
          (replaced_stands (c.sub g) (firms g) d side unfailing x.stands));
    }
    did_so g (Unpairs a) may x = record {
      is = t.stays g (Unpairs a) ∙ x.is;
      stands =
          subst (λ (z : Subsystem). Stands z (firms (c.did g (Unpairs a)))) (sym (t.sub g (Unpairs a)))
          (subst (Stands (unpaired (c.sub g) a unfailing).behind) (sym (t.unpairs g a))
          (unpaired_stands (c.sub g) (firms g) a unfailing x.stands));
    }

    behind_so : (g : G) → So g → GoesSo (c.behind g)
    behind_so g x = record { next = g; goes = t.behind g; so = x }

    moved_so : (g : G) (o : Occurred) → MayOccur o → So g → GoesSo (moved c g o)
    moved_so g o may x = behind_so (c.did g o) (did_so g o may x)

    onward_so : (x : Step G E) (f : G → Step G E) → GoesSo x → ((g : G) → So g → GoesSo (f g)) → GoesSo (onward x f)
    onward_so x f k rest = subst (λ (z : Step G E). GoesSo (onward z f)) (sym k.goes) (rest k.next k.so)

    if_so : (b : Bool) (x y : Step G E) → GoesSo x → GoesSo y → GoesSo (if b then x else y)
    if_so true x y p q = p
    if_so false x y p q = q

    here_so : (g : G) → So g → GoesSo (Goes g)
    here_so g x = record { next = g; goes = refl; so = x }

    steps_so : (k d : ℕ) (g : G) → So g → GoesSo (steps_on c k d g)
    unfolding D.steps_on
    steps_so zero d g x = here_so g x
    steps_so (suc k) d g x =
        if_so (is_busy_at c g d) (onward (moved c g (Comes (events.Step d))) (steps_on c k d)) (Goes g)
        (onward_so (moved c g (Comes (events.Step d))) (steps_on c k d) (moved_so g (Comes (events.Step d)) tt x) (λ h y. steps_so k d h y)) (here_so g x)

    backs_so : (k d : ℕ) (g : G) → So g → GoesSo (backs_on c k d g)
    unfolding D.backs_on
    backs_so zero d g x = here_so g x
    backs_so (suc k) d g x =
        onward_so (moved c g (Comes (events.Back d))) (λ h. if settles_at c g d then Goes h else backs_on c k d h)
        (moved_so g (Comes (events.Back d)) tt x) (λ h y. if_so (settles_at c g d) (Goes h) (backs_on c k d h) (here_so h y) (backs_so k d h y))

    line_so : (x : Asked) → IsServed x → (g : G) → So g → GoesSo (line_on c x g)
    line_so (Once e) may g y = moved_so g (Comes e) may y
    line_so (Replace d side) may g y = moved_so g (Replaces d side) tt y
    line_so (Unpair a) may g y = moved_so g (Unpairs a) tt y
    line_so (Run d) may g y =
        if_so (is_busy_at c g d) (steps_on c most_steps d g) (c.behind g) (steps_so most_steps d g y) (behind_so g y)
    line_so (Settle d) may g y = backs_so most_backs d g y

    driven_so : (lines : List EventLine) → All (λ (line : EventLine). IsServed (asked_by line)) lines → (g : G) → So g →
        GoesSo (driven c (map asked_by lines) g)
    unfolding D.driven
    driven_so [] may g x = here_so g x
    driven_so (line ∷ lines) may g x =
        onward_so (line_on c (asked_by line) g) (driven c (map asked_by lines))
        (line_so (asked_by line) (All-head (λ (l : EventLine). IsServed (asked_by l)) line lines may) g x)
        (λ h y. driven_so lines (All-tail (λ (l : EventLine). IsServed (asked_by l)) line lines may) h y)

    goes_same : {x y : G} → ◌≡◌ {A = Step G E} (Goes x) (Goes y) → x ≡ y
    goes_same e = cc

    -- a deck's lines
    course_written : (deck : DeckLines) → IsServedDeck deck → (g : G) → number g ≡ n → Stands (c.sub g) (firms g) → (h : G) →
        driven c (map asked_by deck.events) g ≡ Goes h → (m : Mounted) → mounted_in (c.sub h).mounted n ≡ Some m → firms h ≡ firm_writes_on firsts m.device
    course_written deck served g is stands h goes m there =
        let x = driven_so deck.events served.events g (record { is = is; stands = stands }) in
        let same : x.next ≡ h = goes_same (sym x.goes ∙ goes) in
        let y = subst So same x.so in
        y.stands.writes ∙ ap (λ (k : Mounted). firm_writes_on firsts k.device) (some_is (sym y.stands.there ∙ there))

  -- Where a deck is opened

  no_debts : (k t : ℕ) → (get_or (replicate k no_debt) t no_debt).firm ≡ false
  no_debts zero t = refl
  no_debts (suc k) zero = refl
  no_debts (suc k) (suc t) = no_debts k t

  record IsNew (m : Mounted) : Type 0 where
    told : IsTold m.device.store
    writes : firm_writes_on firsts m.device ≡ []
    begins : BeginsWith (firsts m.device.store.device m.device.store.cylinders) m.device

  module _ (deck : DeckLines) where
    new_at : (d : DeviceLine) → IsNew (opened_device_on firsts deck d)
    new_at d = record {
      told = record {
        room = length-replicate (d.cylinders * 15) no_debt;
        free = λ t. no_debts (d.cylinders * 15) t;
        half = refl;
      };
      writes = refl;
      begins = record { history = refl; plain = refl; firm = refl };
    }

    found_new : (ds : List DeviceLine) (m : Mounted) → mounted_in (map (opened_device_on firsts deck) ds) n ≡ Some m → IsNew m
    found_new [] m there = absurd (cc)
    found_new (d ∷ ds) m there = by_test (d.number == n) there (found_new ds m)
      where
        by_test : (b : Bool) → (if b then Some (opened_device_on firsts deck d) else mounted_in (map (opened_device_on firsts deck) ds) n) ≡ Some m →
            (mounted_in (map (opened_device_on firsts deck) ds) n ≡ Some m → IsNew m) → IsNew m
        by_test true at rest = subst IsNew (some_is at) (new_at d)
        by_test false at rest = rest at

  pub opened_begins : (deck : DeckLines) (m : Mounted) → mounted_in (opened_on firsts deck).mounted n ≡ Some m →
      BeginsWith (firsts n m.device.store.cylinders) m.device
  opened_begins deck m there =
      subst (λ (k : ℕ). BeginsWith (firsts k m.device.store.cylinders) m.device) (mounted_number (opened_on firsts deck).mounted n m there)
      (found_new deck deck.devices m there).begins

  opened_stands : AreWhole firsts → (text : List ℕ) (deck : DeckLines) → parsed text ≡ Ok deck → (m : Mounted) →
      mounted_in (opened_on firsts deck).mounted n ≡ Some m → Stands (opened_on firsts deck) []
  opened_stands whole text deck read m there =
      let x = found_new deck deck.devices m there in
      record {
        plain = opened_plain_on firsts whole deck deck.devices (read_served text deck read).devices;
        one = one_opened firsts deck n [] deck.devices (read_numbered text deck read) m there;
        mounted = m;
        there = there;
        told = x.told;
        writes = sym x.writes;
      }

-- so behind the run of a deck that was read
pub driven_written : {G E : Type 0} (firsts : Firsts) → AreWhole firsts → (c : Course G E) (number : G → ℕ) (firms : G → List FirmWrite) →
    IsTelling c number firms → (text : List ℕ) (deck : DeckLines) → parsed text ≡ Ok deck → (g : G) → c.sub g ≡ opened_on firsts deck → firms g ≡ [] →
    (first : Mounted) → mounted_in (opened_on firsts deck).mounted (number g) ≡ Some first → (h : G) → driven c (map asked_by deck.events) g ≡ Goes h →
    (m : Mounted) → mounted_in (c.sub h).mounted (number g) ≡ Some m → firms h ≡ firm_writes_on firsts m.device
driven_written firsts whole c number firms t text deck read g sub none first at h goes m there =
    course_written firsts (number g) c number firms t deck (read_served text deck read) g refl
    (subst (λ (s : Subsystem). Stands firsts (number g) s (firms g)) (sym sub)
    (subst (Stands firsts (number g) (opened_on firsts deck)) (sym none) (opened_stands firsts (number g) whole text deck read first at)))
    h goes m there
