-- What the history of a deck tells of the devices behind the run of its paths.
use Rattle.std.proofs.Common.{◌≡◌, ◌*◌, ◌∙◌, ℕ, true, false, List, [], ◌∷◌, length, map, Option, Some, None, is_some, refl, sym, ap, subst, arith}
use Rattle.std.specs.Prelude.{All}
use Rattle.std.specs.List.{AllZip}
use Rattle.std.proofs.lemmas.List.Elements.{All-cons, All-head, All-nil, All-tail}
use Rattle.ckd_types.specs.declared.record.Track.{Track}
use Rattle.ckd_types.specs.Volume.{empty_volume}
use Rattle.ckd_types.specs.declared.geometry.Geometry.{Geometry}
use Rattle.deck_text.specs.declared.line.DeviceLine.{DeviceLine}
use Rattle.deck_text.specs.DeckLines.{DeckLines}
use Rattle.deck_text.specs.Plans.{plans_of}
use Rattle.plain_defs.specs.declared.journal.Item.{Item}
use Rattle.plain_defs.specs.History.{History}
use Rattle.plain_defs.specs.Journal.{Plans}
use Rattle.plain_defs.specs.Legal.{IsLegal}
use Rattle.plain_defs.specs.PlainState.{PlainState}
use Rattle.device_outside.specs.declared.volume.Volume.{Ghosts}
use Rattle.device_laws.specs.NewDevice.{first_state}
use Rattle.device_laws.specs.SoundOn.{begun_as}
use Rattle.device_defs.specs.Pledge.{are_kept, fresh_count, is_kept_journal}
use Rattle.subsystem_core.specs.Devices.{numbers_of}
use Rattle.subsystem_defs.specs.Decks.{Firsts}
use Rattle.subsystem_laws.proofs.turning.Sound.{beside_plain}
use Rattle.device_core.specs.declared.device.Device.{Device}
use Rattle.device_core.specs.State.{device_of}
use Rattle.deck_run.specs.Ending.{lost_in}
use Rattle.deck_run.specs.Unused.{AreUnused, IsUnused}
use Rattle.device_defs.specs.declared.counts.Losses.{Losses}
use Rattle.path_workers.specs.Keeping.{IsFinished, KeepsPledge, KeepsWithin, StandsFirst, pledge_with, told_of}
use Rattle.path_threads.specs.declared.orders.Order.{Order}
use Rattle.path_threads.specs.Allowed.{allowed_of}
use Rattle.path_threads.specs.Places.{KeepsOrdered}
use Rattle.path_top.specs.Devices.{all_told, told_by}
use Rattle.path_top.specs.Excuses.{excuses_on}
use Rattle.path_top.specs.Histories.{AreToldOfOn, IsExcusedBy, IsToldBy, IsToldOfOn}
use Rattle.path_top.specs.Orders.{line_of, orders_in}
use Rattle.path_top.specs.Pairs.{all_lent, paired_on}
use Rattle.path_top.specs.Told.{DeviceTold}
use Rattle.path_top.proofs.Finished.{IsOver, told_so}
use Rattle.path_top.proofs.Counted.{AreFew, counts_at_most}
use Rattle.path_top.proofs.NewDevices.{begun}
use Rattle.path_top.proofs.Readied.{IsOpened}
use Rattle.path_top.proofs.RunExcused.{told_excused}

none_in : (xs : List Item) → length xs ≡ 0 → xs ≡ []
none_in [] e = refl
none_in (x ∷ xs) e = absurd (omega (arith, e))

-- Whatever the volumes held

module _ {V : Type 0} {G : Ghosts V} where
  unsaid : (most : Losses) (d e : Device V G) → KeepsWithin most d e → KeepsPledge empty_volume (pledge_with false d most) e
  unsaid most d e kept = kept empty_volume false (λ e. absurd (cc))

  one_kept : (most : Losses) (d e : Device V G) → KeepsWithin most d e → IsUnused d → are_kept (device_of e).history.items ≡ true
  one_kept most d e kept none =
      subst (λ (n : ℕ). is_kept_journal n (device_of e).history.items ≡ true) (ap (λ (h : History). fresh_count h.items) none)
      (unsaid most d e kept).keeps.keeps.journal

  module _ {M : Type 0} (orders : List (Order M)) where
    pub all_kept : (xs ys : List (Device V G)) → AreUnused xs → AllZip (KeepsOrdered orders) xs ys →
        All (λ (x : DeviceTold). are_kept x.journal ≡ true) (all_told ys)
    all_kept [] [] none k = All-nil (λ (x : DeviceTold). are_kept x.journal ≡ true)
    all_kept [] (y ∷ ys) none k = absurd k
    all_kept (x ∷ xs) [] none k = absurd k
    all_kept (x ∷ xs) (y ∷ ys) none k =
        All-cons (λ (x : DeviceTold). are_kept x.journal ≡ true) (told_by y) (all_told ys) (one_kept (allowed_of orders x) x y k.0 none.0) (all_kept xs ys none.1 k.1)

    pub numbers : (xs ys : List (Device V G)) → AllZip (KeepsOrdered orders) xs ys → map (λ (x : DeviceTold). x.device) (all_told ys) ≡ numbers_of xs
    numbers [] [] k = refl
    numbers [] (y ∷ ys) k = absurd k
    numbers (x ∷ xs) [] k = absurd k
    numbers (x ∷ xs) (y ∷ ys) k =
        ap (λ (l : List ℕ). (device_of y).store.device ∷ l) (numbers xs ys k.1) ∙ ap (λ (n : ℕ). n ∷ numbers_of xs) (unsaid (allowed_of orders x) x y k.0).keeps.keeps.number

    pub lents : (xs ys : List (Device V G)) → AllZip (KeepsOrdered orders) xs ys →
        map (λ (x : DeviceTold). x.lent) (all_told ys) ≡ map (λ (x : Device V G). (device_of x).store.lent) xs
    lents [] [] k = refl
    lents [] (y ∷ ys) k = absurd k
    lents (x ∷ xs) [] k = absurd k
    lents (x ∷ xs) (y ∷ ys) k =
        ap (λ (l : List (Option ℕ)). (device_of y).store.lent ∷ l) (lents xs ys k.1)
        ∙ ap (λ (o : Option ℕ). o ∷ map (λ (z : Device V G). (device_of z).store.lent) xs) (unsaid (allowed_of orders x) x y k.0).keeps.keeps.lent

-- On what they held

same_begun : (first : ℕ → List Track) (g h : Geometry) (n m : ℕ) → g ≡ h → n ≡ m → first_state g n (first n) ≡ first_state h m (first m)
same_begun first g h n m e f = ap (λ (x : Geometry). first_state x n (first n)) e ∙ ap (λ (k : ℕ). first_state h k (first k)) f

module _ {V : Type 0} {G : Ghosts V} (firsts : Firsts) (deck : DeckLines) where
  module _ (line : DeviceLine) (most : Losses) (d e : Device V G) (u : IsOpened firsts deck line d) (kept : KeepsWithin most d e) (f : IsFinished e) where
    stood : StandsFirst (firsts line.number) d
    stood = record { tells = u.tells_it; stands = u.stands }

    k : KeepsPledge (firsts line.number) (pledge_with true d most) e
    k = kept (firsts line.number) true (λ _. stood)

    no_fresh : fresh_count (device_of d).history.items ≡ 0
    no_fresh = ap (λ (h : History). fresh_count h.items) u.none

    away : is_some (device_of e).store.lent ≡ true → (device_of e).history.items ≡ []
    away lent =
        none_in (device_of e).history.items
        (k.keeps.keeps.still (sym (ap (λ (o : Option ℕ). is_some o) k.keeps.keeps.lent) ∙ lent) ∙ no_fresh)

    abbrev first : PlainState
    first = begun_as (firsts line.number) (device_of e)

    legal_by : (o : Option ℕ) → (device_of e).store.lent ≡ o → IsLegal (device_of e).plans first (device_of e).history.items
    legal_by None free = (beside_plain (device_of e) (told_of e) (k.stands refl free).beside).legal
    legal_by (Some to) lent =
        subst (IsLegal (device_of e).plans first) (sym (away (ap (λ (o : Option ℕ). is_some o) lent))) tt

    over : IsOver (device_of e) first (lost_in e)
    over = record {
      over = f.over;
      kept = subst (λ (n : ℕ). is_kept_journal n (device_of e).history.items ≡ true) no_fresh k.keeps.keeps.journal;
      good = k.keeps.keeps.checks refl;
      away = away;
      legal = legal_by (device_of e).store.lent refl;
      paths = λ free. (k.stands refl free).beside.follows.keeps;
    }

    base : first ≡ begun firsts line
    base =
        same_begun (firsts line.number) (device_of e).store.geometry (device_of d).store.geometry (device_of e).store.cylinders (device_of d).store.cylinders
        k.keeps.keeps.geometry k.keeps.keeps.cylinders ∙ sym u.base

    -- what is so of it by its own plans and size is so by those of the line
    by_line : (P : Plans → PlainState → ℕ → Type 0) → P (device_of e).plans first ((device_of e).store.cylinders * 15) →
        P (plans_of deck.programs line.number) (begun firsts line) (line.cylinders * 15)
    by_line P x =
        subst (λ (n : ℕ). P (plans_of deck.programs line.number) (begun firsts line) (n * 15)) (k.keeps.keeps.cylinders ∙ u.cylinders)
        (subst (λ (p : PlainState). P (plans_of deck.programs line.number) p ((device_of e).store.cylinders * 15)) base
        (subst (λ (p : Plans). P p first ((device_of e).store.cylinders * 15)) (k.keeps.keeps.plans ∙ u.plans) x))

    one_told : ((told_by e).lent ≡ None →
        IsExcusedBy (device_of e).plans first ((device_of e).store.cylinders * 15) (excuses_on firsts deck line.number) (told_by e)) →
        IsToldOfOn firsts deck line (told_by e)
    one_told excused = record {
      device = k.keeps.keeps.number ∙ u.number;
      is = by_line (λ plans p n. IsToldBy plans p (told_by e)) (told_so (device_of e) first (lost_in e) over);
      excused = λ free. by_line (λ plans p n. IsExcusedBy plans p n (excuses_on firsts deck line.number) (told_by e)) (excused free);
    }

module _ {V : Type 0} {G : Ghosts V} {M : Type 0} (firsts : Firsts) (deck : DeckLines) (orders : List (Order M))
    (lines_are : map line_of orders ≡ orders_in deck.events) (few : (n : ℕ) → AreFew (excuses_on firsts deck n)) where
  one_excused : (line : DeviceLine) (d e : Device V G) → IsOpened firsts deck line d → KeepsOrdered orders d e → (device_of e).store.lent ≡ None →
      IsExcusedBy (device_of e).plans (begun_as (firsts line.number) (device_of e)) ((device_of e).store.cylinders * 15)
      (excuses_on firsts deck line.number) (told_by e)
  one_excused line d e u kept free =
      let k = kept (firsts line.number) true (λ _. record { tells = u.tells_it; stands = u.stands }) in
      told_excused (firsts line.number) e (excuses_on firsts deck line.number)
      (counts_at_most firsts deck line d e u (sym k.keeps.keeps.lent ∙ free) orders lines_are kept) (k.stands refl free) (few line.number).failed
      (few line.number).cache

  all_so : (ls : List DeviceLine) (xs ys : List (Device V G)) → AllZip (IsOpened firsts deck) ls xs → AllZip (KeepsOrdered orders) xs ys → All IsFinished ys →
      AllZip (IsToldOfOn firsts deck) ls (all_told ys)
  all_so [] [] [] o k f = tt
  all_so [] [] (y ∷ ys) o k f = absurd k
  all_so [] (x ∷ xs) ys o k f = absurd o
  all_so (line ∷ ls) [] ys o k f = absurd o
  all_so (line ∷ ls) (x ∷ xs) [] o k f = absurd k
  all_so (line ∷ ls) (x ∷ xs) (y ∷ ys) o k f = (
    one_told firsts deck line (allowed_of orders x) x y o.0 k.0 (All-head IsFinished y ys f) (one_excused line x y o.0 k.0),
    all_so ls xs ys o.1 k.1 (All-tail IsFinished y ys f),
  )

  pub all_are_told : (xs ys : List (Device V G)) →
      AllZip (IsOpened firsts deck) deck.devices xs × (map (λ (x : Device V G). (device_of x).store.lent) xs ≡ all_lent (paired_on firsts deck)) →
      AllZip (KeepsOrdered orders) xs ys → All IsFinished ys → AreToldOfOn firsts deck (all_told ys)
  all_are_told xs ys o k f = record { each = all_so deck.devices xs ys o.0 k f; lent = lents orders xs ys k ∙ o.1 }
