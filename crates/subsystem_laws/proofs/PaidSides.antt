-- While no side of a device was lost and its volume never lent, each side of a pair that is down was paid for by a failed call, and a volume that is
-- alone is up.
use Rattle.std.proofs.Common.{
  ◌≡◌,
  ◌≤◌,
  ◌+◌,
  ℕ,
  zero,
  suc,
  Bool,
  true,
  false,
  List,
  [],
  ◌∷◌,
  ◌++◌,
  map,
  Option,
  is_some,
  min,
  refl,
  sym,
  ap,
  ◌∙◌,
  arith,
  ◌⊎◌,
  inl,
  inr,
}
use Rattle.std.specs.Prelude.{◌||◌, if◌then◌else◌}
use Rattle.ckd_types.specs.declared.geometry.Geometry.{Geometry}
use Rattle.ckd_types.specs.declared.paths.Side.{Side}
use Rattle.ckd_types.specs.declared.paths.Side.TheVariants as sides
use Rattle.ckd_types.specs.declared.record.Track.{Track}
use Rattle.deck_text.specs.declared.line.DeviceLine.{DeviceLine}
use Rattle.deck_text.specs.DeckLines.{DeckLines}
use Rattle.loss_model.specs.declared.Loss.TheVariants as losses
use Rattle.plain_defs.specs.declared.journal.Item.{Item}
use Rattle.plain_defs.specs.declared.journal.Item.TheVariants as items
use Rattle.plain_defs.specs.Journal.{Plans}
use Rattle.track_image.specs.Image.{Image}
use Rattle.device_outside.specs.Interaction.{Interaction}
use Rattle.device_outside.specs.Volume as V
use Rattle.device_outside.specs.Volume.{counted}
use Rattle.device_defs.specs.declared.counts.Losses.{Losses}
use Rattle.device_defs.specs.Command.{command}
use Rattle.device_defs.specs.Contents.{by_plain}
use Rattle.device_defs.specs.Cutting.{reset, power}
use Rattle.device_defs.specs.Events.{second, lose, background}
use Rattle.device_defs.specs.Marks.{MarksDevice}
use Rattle.device_defs.specs.Orders.{restore, replace}
use Rattle.device_defs.specs.Peek.{peek}
use Rattle.device_defs.specs.Start as S
use Rattle.device_defs.specs.Start.{start}
use Rattle.device_laws.specs.NewDevice.{device_on}
use Rattle.device_laws.proofs.Based.{Base, Any, Based, kept, based_any}
use Rattle.device_laws.proofs.BasedEvents.{base_in, with_one_loss, command_based, second_based, background_based, lose_based, peek_based, power_based, reset_body}
use Rattle.device_laws.proofs.LossLaws.{some_counted}
use Rattle.device_laws.proofs.Lucky.{top}
use Rattle.subsystem_defs.specs.Decks.{Firsts, opened_device_on}
use Rattle.subsystem_defs.proofs.Unrefused.{parts_up}
use Rattle.subsystem_laws.specs.Excused.{has_fresh, WasNeverLent}
use Rattle.subsystem_laws.specs.Came.{CameTo}
use Rattle.subsystem_laws.proofs.Came.{at}
use Rattle.subsystem_laws.proofs.Excusing.{IsPaid}
use Rattle.subsystem_laws.proofs.StoreFacts.{
  Facts,
  facts_of,
  failed_more,
  fallen,
  Bears,
  command_leaves,
  second_leaves,
  background_leaves,
  lose_leaves,
  peek_leaves,
  power_leaves,
  reset_leaves,
}
use Rattle.subsystem_laws.proofs.LendBase.{stays_still, lend_lends}
use Rattle.subsystem_laws.proofs.RunLines.{AnyEvent}
use Rattle.subsystem_laws.proofs.Shapes.{Shape, command_shape, second_shape, background_shape, lose_shape, peek_shape, reset_shape, power_shape}
use Rattle.subsystem_laws.proofs.Walks.{AreSo, IsKept}

-- Sides that are down

abbrev down_count : Bool → Bool → ℕ
down_count a b = (if a then 0 else 1) + (if b then 0 else 1)

pub record Paid (x : Facts) : Type 0 where
  pub pair : x.paired ≡ true → down_count x.a x.b ≤ x.failed
  pub alone : x.paired ≡ false → x.a ≡ true

counted_most : (m n : ℕ) → m ≤ n + 1 → m ≤ 2 → m ≤ counted n
unfolding V.counted
counted_most m n le most = least_of (n + 1) top m le (omega (arith, most)) where
  least_of : (x y m : ℕ) → m ≤ x → m ≤ y → m ≤ min x y
  least_of x y m f g = omega (arith, f, g)

two_at_most : (a b : Bool) → down_count a b ≤ 2
two_at_most true true = omega arith
two_at_most true false = omega arith
two_at_most false true = omega arith
two_at_most false false = omega arith

one_falls_a : (a b : Bool) (n : ℕ) → down_count a b ≤ n → down_count false b ≤ n + 1
one_falls_a true true n le = omega (arith, le)
one_falls_a true false n le = omega (arith, le)
one_falls_a false true n le = omega (arith, le)
one_falls_a false false n le = omega (arith, le)

one_falls_b : (a b : Bool) (n : ℕ) → down_count a b ≤ n → down_count a false ≤ n + 1
one_falls_b true true n le = omega (arith, le)
one_falls_b true false n le = omega (arith, le)
one_falls_b false true n le = omega (arith, le)
one_falls_b false false n le = omega (arith, le)

up_a : (a b : Bool) (n : ℕ) → down_count a b ≤ n → down_count true b ≤ n
up_a true b n le = le
up_a false true n le = omega (arith, le)
up_a false false n le = omega (arith, le)

up_b : (a b : Bool) (n : ℕ) → down_count a b ≤ n → down_count a true ≤ n
up_b true true n le = le
up_b false true n le = le
up_b true false n le = omega (arith, le)
up_b false false n le = omega (arith, le)

not_both : {X : Type 0} (b : Bool) → b ≡ true → b ≡ false → X
not_both true e f = absurd (cc)
not_both false e f = absurd (cc)

one_more : (m n : ℕ) → m ≤ n → m ≤ n + 1
one_more m n le = omega (arith, le)

side_falls : (x : Facts) (side : Side) → x.paired ≡ true → Paid x → Paid (fallen side (failed_more x))
side_falls x sides.A pair p = record {
  pair = λ e. counted_most (down_count false x.b) x.failed (one_falls_a x.a x.b x.failed (p.pair pair)) (two_at_most false x.b);
  alone = λ e. not_both x.paired pair e;
}
side_falls x sides.B pair p = record {
  pair = λ e. counted_most (down_count x.a false) x.failed (one_falls_b x.a x.b x.failed (p.pair pair)) (two_at_most x.a false);
  alone = λ e. not_both x.paired pair e;
}

paid_bears : Bears Paid
paid_bears = record {
  loses = λ x t p. record { pair = p.pair; alone = p.alone };
  fails = λ x p. record {
    pair = λ e. counted_most (down_count x.a x.b) x.failed (one_more (down_count x.a x.b) x.failed (p.pair e)) (two_at_most x.a x.b);
    alone = p.alone;
  };
  falls = side_falls;
  queues = λ x room p. record { pair = p.pair; alone = p.alone };
  dequeues = λ x n less p. record { pair = p.pair; alone = p.alone };
}

-- A device that was never lent

pub fresh_front : (xs ys : List Item) → has_fresh (xs ++ ys) ≡ false → has_fresh xs ≡ false
fresh_front [] ys e = refl
fresh_front (items.Program x ∷ xs) ys e = fresh_front xs ys e
fresh_front (items.Act act ∷ xs) ys e = fresh_front xs ys e
fresh_front (items.Reset path ∷ xs) ys e = fresh_front xs ys e
fresh_front (items.Fresh ∷ xs) ys e = e
fresh_front (items.Power ∷ xs) ys e = fresh_front xs ys e

pub fresh_last : (xs : List Item) → has_fresh (xs ++ items.Fresh ∷ []) ≡ true
fresh_last [] = refl
fresh_last (items.Program x ∷ xs) = fresh_last xs
fresh_last (items.Act act ∷ xs) = fresh_last xs
fresh_last (items.Reset path ∷ xs) = fresh_last xs
fresh_last (items.Fresh ∷ xs) = refl
fresh_last (items.Power ∷ xs) = fresh_last xs

pub never_before : (d y : MarksDevice) → y.store.lent ≡ d.store.lent → Shape d.history y.history → WasNeverLent y → WasNeverLent d
never_before d y lent s n = record {
  home = sym (ap (λ (o : Option ℕ). is_some o) lent) ∙ n.home;
  none = fresh_front d.history.items s.more (sym (ap has_fresh s.grown) ∙ n.none);
}

abbrev pub PaidFor : MarksDevice → Type 0
PaidFor d = WasNeverLent d → d.store.counts.losses.sides ≡ 0 → Paid (facts_of d.store)

-- Events

event_paid : {X : Type 0} (d : MarksDevice) (i : Interaction Bool Image MarksDevice X) (b : Base) → b.lent ≡ d.store.lent →
    b.counts.losses.sides ≡ d.store.counts.losses.sides → Based base_in Any b i → (t : CameTo i) →
    (Paid (facts_of d.store) → Paid (facts_of t.state.store)) → Shape d.history t.state.history → PaidFor d →
    PaidFor t.state
event_paid d i b lent sides x t leaves s f never none =
    let y = t.state in
    let k = at (stays_still x) t in
    leaves (f (never_before d y (k.2 ∙ lent) s never) (sym sides ∙ ap (λ (l : Losses). l.sides) (sym k.3) ∙ none))

pub peek_paid : (d : MarksDevice) (n : ℕ) (t : CameTo (peek by_plain d n)) → PaidFor d → PaidFor t.state
peek_paid d n t f =
    event_paid d (peek by_plain d n) (kept d.store) refl refl (peek_based by_plain d n) t (λ p. at (peek_leaves by_plain Paid paid_bears d n p) t)
    (peek_shape d n t) f

side_lost_paid : (d : MarksDevice) (side : Side) (t : CameTo (lose by_plain d (losses.Side side))) → PaidFor t.state
side_lost_paid d side t never none =
    absurd (some_counted d.store.counts.losses.sides
    (ap (λ (l : Losses). l.sides) (sym (at (stays_still (lose_based by_plain d (losses.Side side))) t).3) ∙ none))

-- Orders

start_paid : (d : MarksDevice) (path : ℕ) → PaidFor d → PaidFor (start d path)
unfolding S.start
start_paid d path f never none = let p = f (record { home = never.home; none = never.none }) none in record { pair = p.pair; alone = p.alone }

replaced_paid : (d : MarksDevice) (side : Side) → PaidFor d → PaidFor (replace d side)
replaced_paid d sides.A f never none =
    let p = f (record { home = never.home; none = never.none }) none in
    record { pair = λ e. up_a d.store.a.up d.store.b.up d.store.counts.failed (p.pair e); alone = λ e. refl }
replaced_paid d sides.B f never none =
    let p = f (record { home = never.home; none = never.none }) none in
    record { pair = λ e. up_b d.store.a.up d.store.b.up d.store.counts.failed (p.pair e); alone = p.alone }

none_down : (a : Bool) (n : ℕ) → a ≡ true → down_count a true ≤ n
none_down true n e = omega arith
none_down false n e = absurd (cc)

pub paid_kept : IsKept PaidFor AnyEvent
paid_kept = record {
  started = λ d path n may fault f. start_paid d path f;
  commanded = λ d o running whole f t.
      event_paid d (command by_plain d) (kept d.store) refl refl (command_based by_plain d) t
      (λ p. at (command_leaves by_plain Paid paid_bears d p) t) (command_shape d t) f;
  seconded = λ d h is f t.
      event_paid d (second by_plain d) (kept d.store) refl refl (second_based by_plain d) t
      (λ p. at (second_leaves by_plain Paid paid_bears d p) t) (second_shape d t) f;
  worked = λ d whole f t.
      event_paid d (background by_plain d) (kept d.store) refl refl (background_based by_plain d) t
      (λ p. at (background_leaves by_plain Paid paid_bears d p) t) (background_shape d t) f;
  cut = λ d path f t.
      event_paid d (reset by_plain d path) (kept d.store) refl refl (based_any (reset_body by_plain d path)) t
      (λ p. at (reset_leaves by_plain Paid paid_bears d path p) t) (reset_shape d path t).0 f;
  lost_cache = λ d f t.
      event_paid d (lose by_plain d losses.Cache) (with_one_loss losses.Cache (kept d.store)) refl refl (lose_based by_plain d losses.Cache) t
      (λ p. at (lose_leaves by_plain Paid paid_bears d losses.Cache p (λ x q. q)) t) (lose_shape d losses.Cache t) f;
  lost_store = λ d f t.
      event_paid d (lose by_plain d losses.Store) (with_one_loss losses.Store (kept d.store)) refl refl (lose_based by_plain d losses.Store) t
      (λ p. at (lose_leaves by_plain Paid paid_bears d losses.Store p (λ x q. q)) t) (lose_shape d losses.Store t) f;
  lost_side = λ d side home f t. side_lost_paid d side t;
  lost_power = λ d f t.
      event_paid d (power by_plain d) (with_one_loss losses.Cache (kept d.store)) refl refl (power_based by_plain d) t
      (λ p. at (power_leaves by_plain Paid paid_bears d p) t) (power_shape d t).0 f;
  held = λ d fault f. λ never none. let p = f (record { home = never.home; none = never.none }) none in record { pair = p.pair; alone = p.alone };
  resumed = λ d pair f. λ never none. let p = f (record { home = never.home; none = never.none }) none in record { pair = p.pair; alone = p.alone };
  replaced = λ d side fault f. replaced_paid d side f;
  lent = λ x y fault f g t. λ never none.
      not_both (is_some t.state.store.lent)
      (ap (λ (o : Option ℕ). is_some o) (lend_lends y x.store.device t).lent) never.home;
  joins = λ d free f. λ never none.
      let p = f (record { home = never.home; none = never.none }) none in
      record { pair = λ e. none_down d.store.a.up d.store.counts.failed (p.alone free.0); alone = λ e. absurd (cc) };
  splits = λ d fault f. λ never none. record { pair = λ e. absurd (cc); alone = λ e. parts_up d fault };
  restored = λ d a is f. λ never none. not_both (has_fresh (restore d).history.items) (fresh_last d.history.items) never.none;
}

pub new_paid : (number : ℕ) (on : Geometry) (n : ℕ) (v : List Track) (plans : Plans) → PaidFor (device_on number on n v plans)
new_paid number on n v plans never none = record { pair = λ e. absurd (cc); alone = λ e. refl }

pub opened_paid : (firsts : Firsts) (deck : DeckLines) (ds : List DeviceLine) → AreSo PaidFor (map (opened_device_on firsts deck) ds)
opened_paid firsts deck [] = tt
opened_paid firsts deck (d ∷ ds) = (new_paid d.number d.geometry d.cylinders (firsts d.number d.cylinders) _, opened_paid firsts deck ds)

-- So no side is up only where a side was lost, or two calls failed

some_left : (n : ℕ) → (n ≡ 0) ⊎ (1 ≤ n)
some_left zero = inl refl
some_left (suc n) = inr (omega arith)

both_down : (a b : Bool) (n : ℕ) → (a || b) ≡ false → down_count a b ≤ n → 2 ≤ n
both_down true b n e le = absurd (cc)
both_down false true n e le = absurd (cc)
both_down false false n e le = omega (arith, le)

or_up : (a b : Bool) → (a || b) ≡ false → a ≡ false
or_up true b e = absurd (cc)
or_up false b e = refl

pub paid_of : (d : MarksDevice) → PaidFor d → WasNeverLent d → IsPaid d
paid_of d f never none_up = by_losses (some_left d.store.counts.losses.sides) where
  by_pair : Paid (facts_of d.store) → (b : Bool) → d.store.paired ≡ b → 2 ≤ d.store.counts.failed
  by_pair p true e = both_down d.store.a.up d.store.b.up d.store.counts.failed none_up (p.pair e)
  by_pair p false e = not_both d.store.a.up (p.alone e) (or_up d.store.a.up d.store.b.up none_up)

  by_losses : (d.store.counts.losses.sides ≡ 0) ⊎ (1 ≤ d.store.counts.losses.sides) → (1 ≤ d.store.counts.losses.sides) ⊎ (2 ≤ d.store.counts.failed)
  by_losses (inl none) = inr (by_pair (f never none) d.store.paired refl)
  by_losses (inr some) = inl some
