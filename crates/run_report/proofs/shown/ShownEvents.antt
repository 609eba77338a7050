-- What an event's lines show of each device's programs is what came to its history.
use Rattle.std.proofs.Common.{◌≡◌, ◌==◌, ℕ, Bool, true, false, List, [], ◌∷◌, Option, Some, None, refl, sym, ap, subst, ◌∙◌, if◌then◌else◌}
use Rattle.std.specs.Prelude.{IfSome}
use Rattle.std.proofs.lemmas.Bool.{eqb-true}
use Rattle.ckd_types.specs.declared.record.Track.{Track}
use Rattle.device_outside.specs.Told.{Calls}
use Rattle.device_outside.specs.Pool.{Pool}
use Rattle.device_defs.specs.Contents.{by_plain}
use Rattle.device_defs.specs.Marks.{MarksDevice}
use Rattle.device_defs.specs.Orders.{join, lend}
use Rattle.device_laws.proofs.Had.{Had, held}
use Rattle.device_laws.proofs.HistoryTold.{lend_told}
use Rattle.device_laws.proofs.PlainEvents.{had_always, had_both}
use Rattle.device_laws.proofs.PlainOrders.{lend_follows}
use Rattle.report_text.specs.declared.event.Happened.{Happened}
use Rattle.report_text.specs.declared.line.ReportLine.{ReportLine}
use Rattle.report_text.specs.Events.{first_lines}
use Rattle.run_report.specs.Shown.{shown_from}
use Rattle.run_report.proofs.shown.Histories.{HistoryShows, same_shows}
use Rattle.run_report.proofs.shown.Places.{devices, At, One, at_same, at_then, at_weaker, one_behind, put_at, swept_at, ShowsSo}
use Rattle.subsystem_defs.specs.declared.end.EventEnd.{EventEnd}
use Rattle.subsystem_defs.specs.declared.end.EventEnd.TheVariants as ends
use Rattle.subsystem_defs.specs.Decks.{Firsts}
use Rattle.subsystem_defs.specs.Deeds.{Ends, Becomes, Asks, Each, Repairs, Lends}
use Rattle.subsystem_defs.specs.Happening.{
  MarksDeed,
  Talk,
  happens_by,
  asks,
  becomes,
  lends,
  joined,
  held_with,
  told_to,
  mounted_behind,
  told_end,
  behind_outcome,
}
use Rattle.subsystem_defs.specs.Subsystem.{Mounted, Subsystem, number_of, mounted_in, put_in}
use Rattle.subsystem_laws.proofs.PlainRuns.{PlainlyOn, PlainlyFrom, ArePlainOn}
use Rattle.subsystem_laws.proofs.Walks.{IsSo, mounted_so}

module _ (n : ℕ) where
  abbrev pub says : Happened → Bool → List ReportLine
  says h own = shown_from n own (first_lines h)

  abbrev pub Silent : Happened → Type 0
  Silent h = (own : Bool) → shown_from n own (first_lines h) ≡ []

  abbrev pub Shows : Happened → MarksDevice → MarksDevice → Type 0
  Shows h b a = ShowsSo n (says h) b a

  pub kept : (h : Happened) → Silent h → (b a : MarksDevice) → HistoryShows n b.history a.history [] → Shows h b a
  kept h silent b a s = λ own. subst (HistoryShows n b.history a.history) (sym (silent own)) s

  pub same_kept : (h : Happened) → Silent h → (d : MarksDevice) → Shows h d d
  same_kept h silent d = kept h silent d d (same_shows n d.history d.history refl)

  -- Deeds, by what is told of each end

  module _ (s : Subsystem) (told : EventEnd → Happened) where
    -- of the device that was asked
    pub record Answered (d : MarksDevice) (m : Mounted) (y : MarksDevice) (end : EventEnd) : Type 0 where
      pub number : y.store.device ≡ d.store.device
      pub own : d.store.device ≡ n → Shows (told end) m.device y
      pub other : (d.store.device == n) ≡ false → Silent (told end)

    abbrev pub ShowsDeed : MarksDeed → Type 0
    ShowsDeed (Ends end) = Silent (told end)
    ShowsDeed (Becomes d end) = (mounted_in s.mounted d.store.device ≡ None → Silent (told end)) ×
        ((m : Mounted) → mounted_in s.mounted d.store.device ≡ Some m → Answered d m d end)
    ShowsDeed (Asks d talk) =
        Silent (told ends.Idle) × ((m : Mounted) → mounted_in s.mounted d.store.device ≡ Some m → Had talk (λ y end. Answered d m y (told_end end)))
    ShowsDeed (Each pool f) =
        Silent (told ends.Done) × ((m : Mounted) (first : ℕ → List Track) → PlainlyOn first m.device → (pool : Pool) →
        ((held_with pool m (f m.device)).state.store.device ≡ m.device.store.device)
        × (m.device.store.device ≡ n → HistoryShows n m.device.history (held_with pool m (f m.device)).state.history []))
    ShowsDeed (Repairs pool) = Silent (told ends.Done)
    ShowsDeed (Lends a b) =
        Silent (told ends.Done) × ((m : Mounted) → mounted_in s.mounted b.store.device ≡ Some m → m.device.history.running ≡ None)

    module _ (firsts : Firsts) (one : One n (devices s.mounted)) (plain : ArePlainOn firsts s.mounted) where
      same_mounted : (k : ℕ) (m x : Mounted) → mounted_in s.mounted k ≡ Some m → k ≡ n → mounted_in s.mounted n ≡ Some x → m ≡ x
      same_mounted k m x is same at =
          let both : Some m ≡ Some x = sym is ∙ ap (mounted_in s.mounted) same ∙ at in cc

      answered_at : (d : MarksDevice) (m x : Mounted) (end : EventEnd) → mounted_in s.mounted d.store.device ≡ Some m → Answered d m x.device end →
          At n (Shows (told end)) (devices s.mounted) (devices (put_in s.mounted d.store.device x))
      answered_at d m x end is a =
          put_at n (Shows (told end)) s.mounted d.store.device x a.number one
          (λ same k at. subst (λ (i : Mounted). Shows (told end) i.device x.device) (same_mounted d.store.device m k is same at) (a.own same))
          (λ other y. same_kept (told end) (a.other other) y)

      asks_at : (d : MarksDevice) (talk : Talk (Option EventEnd)) (o : Option Mounted) → mounted_in s.mounted d.store.device ≡ o →
          ShowsDeed (Asks d talk) →
          At n (Shows (told (asks s d.store.device o talk).end)) (devices s.mounted) (devices (asks s d.store.device o talk).behind.mounted)
      asks_at d talk None is h = at_same n (devices s.mounted) one (same_kept (told ends.Idle) h.0)
      asks_at d talk (Some m) is h =
          let o = held_with s.pool m talk in
          answered_at d m (mounted_behind o) (told_end o.answer) is (held true (h.1 m is) (told_to s.pool m))

      becomes_at : (d : MarksDevice) (end : EventEnd) (o : Option Mounted) → mounted_in s.mounted d.store.device ≡ o → ShowsDeed (Becomes d end) →
          At n (Shows (told end)) (devices s.mounted) (devices (becomes s d.store.device o d).mounted)
      becomes_at d end None is h = at_same n (devices s.mounted) one (same_kept (told end) (h.0 is))
      becomes_at d end (Some m) is h = answered_at d m (record m { device = d }) end is (h.1 m is)

      -- a device that is lent, and the one that gets its volume
      kept_put : (t : Subsystem) → One n (devices t.mounted) → (k : ℕ) (m x : Mounted) → mounted_in t.mounted k ≡ Some m → number_of x ≡ k →
          x.device.history ≡ m.device.history →
          At n (λ b a. a.history ≡ b.history) (devices t.mounted) (devices (put_in t.mounted k x))
      kept_put t o k m x is number same =
          put_at n (λ b a. a.history ≡ b.history) t.mounted k x number o
          (λ e i at. let both : Some m ≡ Some i = sym is ∙ ap (mounted_in t.mounted) e ∙ at in
          let it : m ≡ i = cc in subst (λ (j : Mounted). x.device.history ≡ j.device.history) it same)
          (λ other y. refl)

      number_if : (b : Bool) (k m : Mounted) (i : ℕ) (o : Option Mounted) → (number_of k == i) ≡ b → (if b then Some k else o) ≡ Some m →
          (o ≡ Some m → number_of m ≡ i) → number_of m ≡ i
      number_if true k m i o is at more = let same : k ≡ m = cc in subst (λ (x : Mounted). number_of x ≡ i) same (eqb-true (number_of k) i is)
      number_if false k m i o is at more = more at

      number_at : (ms : List Mounted) (i : ℕ) (m : Mounted) → mounted_in ms i ≡ Some m → number_of m ≡ i
      number_at [] i m at = absurd (cc)
      number_at (k ∷ ms) i m at = number_if (number_of k == i) k m i (mounted_in ms i) refl at (number_at ms i m)

      abbrev SameHistory : MarksDevice → MarksDevice → Type 0
      SameHistory b a = a.history ≡ b.history

      joined_at : (t : Subsystem) → One n (devices t.mounted) → (a : ℕ) (calls : Calls) (o : Option Mounted) → mounted_in t.mounted a ≡ o →
          At n SameHistory (devices t.mounted) (devices (joined t a calls o).mounted)
      joined_at t o a calls None is = at_same n (devices t.mounted) o (λ d. refl)
      joined_at t o a calls (Some m) is =
          kept_put t o a m (record m { device = join m.device; b = calls }) is (number_at t.mounted a m is) refl

      lends_at : (a b : ℕ) (o : Option Mounted) → mounted_in s.mounted b ≡ o → IfSome o (IsSo (PlainlyFrom firsts)) →
          ((m : Mounted) → mounted_in s.mounted b ≡ Some m → m.device.history.running ≡ None) →
          At n SameHistory (devices s.mounted) (devices (lends s a b o).mounted)
      lends_at a b None is p none = at_same n (devices s.mounted) one (λ d. refl)
      lends_at a b (Some m) is p none =
          let o = held_with s.pool m (lend by_plain m.device a) in
          let z = behind_outcome s b o in
          let g = held true (had_both (lend_follows p.number p.empty m.device p.follows (none m is) a) (had_always (lend_told by_plain m.device a)))
          (told_to s.pool m) in
          let first = kept_put s one b m (mounted_behind o) is (g.0.number ∙ sym p.follows.number ∙ number_at s.mounted b m is) g.1 in
          at_then n (devices s.mounted) (devices z.mounted) (devices (joined z a o.told.a (mounted_in z.mounted a)).mounted) first
          (joined_at z (one_behind n (devices s.mounted) (devices z.mounted) first) a o.told.a (mounted_in z.mounted a) refl)
          (λ b c k x y. y ∙ x)

      pub happens_at : (x : MarksDeed) → ShowsDeed x →
          At n (Shows (told (happens_by s x).end)) (devices s.mounted) (devices (happens_by s x).behind.mounted)
      happens_at (Ends end) h = at_same n (devices s.mounted) one (same_kept (told end) h)
      happens_at (Becomes d end) h = becomes_at d end (mounted_in s.mounted d.store.device) refl h
      happens_at (Asks d talk) h = asks_at d talk (mounted_in s.mounted d.store.device) refl h
      happens_at (Each pool f) h =
          swept_at n (Shows (told ends.Done)) firsts f (λ m p pool. (
            (h.1 m (firsts m.device.store.device) p pool).0,
            λ same. kept (told ends.Done) h.0 m.device (held_with pool m (f m.device)).state
                ((h.1 m (firsts m.device.store.device) p pool).1 same),
          )) s.mounted pool plain one
      happens_at (Repairs pool) h = at_same n (devices s.mounted) one (same_kept (told ends.Done) h)
      happens_at (Lends a b) h =
          at_weaker n (devices s.mounted) (devices (lends s a.store.device b.store.device (mounted_in s.mounted b.store.device)).mounted)
          (lends_at a.store.device b.store.device (mounted_in s.mounted b.store.device) refl (mounted_so (PlainlyFrom firsts) s.mounted b.store.device plain) h.1)
          (λ b a e. kept (told ends.Done) h.0 b a (same_shows n b.history a.history e))

  pub before_same : (s : Subsystem) (x : MarksDeed) → (happens_by s x).before ≡ s
  before_same s (Ends end) = refl
  before_same s (Becomes d end) = refl
  before_same s (Asks d talk) = by_mounted (mounted_in s.mounted d.store.device) where
    by_mounted : (o : Option Mounted) → (asks s d.store.device o talk).before ≡ s
    by_mounted (Some m) = refl
    by_mounted None = refl
  before_same s (Each pool f) = refl
  before_same s (Repairs pool) = refl
  before_same s (Lends a b) = refl
