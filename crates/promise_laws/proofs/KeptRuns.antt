-- Behind each event of a run the firm volume of each device is what the writes since its last new volume made of what that held.
use Rattle.std.proofs.Common.{◌≡◌, ◌<◌, ℕ, false, List, length, refl, sym, ap, subst, ◌∙◌, arith}
use Rattle.std.proofs.lemmas.List.{get_or_default, ext_get_or}
use Rattle.std.specs.Prelude.{All}
use Rattle.ckd_types.specs.declared.record.Track.{Track}
use Rattle.ckd_types.specs.Track.{empty_track}
use Rattle.ckd_types.specs.Volume.{track_in}
use Rattle.deck_text.specs.DeckLines.{DeckLines}
use Rattle.plain_defs.specs.History.{plain_of, IsPlain}
use Rattle.plain_defs.specs.PlainState.{PlainState}
use Rattle.device_defs.specs.Marks.{MarksDevice}
use Rattle.device_defs.specs.Store.{is_loose}
use Rattle.device_laws.proofs.PlainStores.{core_of, IsOf, not_loose}
use Rattle.subsystem_defs.specs.Decks.{Firsts, AreWhole, empty_firsts, run_of, run_on}
use Rattle.subsystem_laws.specs.Served.{IsServedDeck}
use Rattle.subsystem_laws.proofs.PlainRuns.{PlainlyFrom, empty_whole, run_stays_plain_on}
use Rattle.subsystem_laws.proofs.Walks.{behind_weaker}
use Rattle.promise_laws.specs.Kept.{begun_of, held_since, kept_edits, kept_on, edited_by, KeepsWrites, KeepsWritesOn, KeepWrites, KeepWritesOn}
use Rattle.promise_laws.proofs.AcknowledgedKept.{history_among}
use Rattle.promise_laws.proofs.KeptJournals.{history_so, track_so, length_edited, edited_track, held_empty, held_long}

module _ (firsts : Firsts) (whole : AreWhole firsts) (d : MarksDevice) (p : PlainlyFrom firsts d) where
  abbrev n : ℕ
  n = d.store.cylinders

  abbrev begun : PlainState
  begun = begun_of firsts d

  abbrev plain : PlainState
  plain = plain_of d.plans begun d.history

  abbrev held : List Track
  held = held_since n (firsts d.store.device n) d.history.items

  of : IsOf plain (core_of d.store)
  of = subst (λ (x : PlainState). IsOf (plain_of d.plans x d.history) (core_of d.store)) p.base p.follows.of

  many : length d.store.firm ≡ length held
  many = of.firms ∙ of.tracks ∙ sym (held_long n (firsts d.store.device n) d.history.items (whole d.store.device n))

  track_is : (t : ℕ) → t < length d.store.firm → track_in d.store.firm t ≡ track_in (edited_by held (kept_on firsts d)) t
  track_is t lt =
      let inside : t < length held = subst (λ (k : ℕ). t < k) many lt in
      sym (of.firm t)
      ∙ sym (track_so d.plans t n held _ plain (history_so d.plans t begun refl d.history) inside)
      ∙ sym (edited_track t plain (kept_on firsts d) held inside)

  firm_is : d.store.firm ≡ edited_by held (kept_on firsts d)
  firm_is =
      let v = edited_by held (kept_on firsts d) in
      let same : length d.store.firm ≡ length v = many ∙ sym (length_edited (kept_on firsts d) held) in
      ext_get_or (empty_track 0) d.store.firm v same
      (λ t lt. get_or_default d.store.firm t (empty_track 0) (empty_track t) lt ∙ track_is t lt
      ∙ sym (get_or_default v t (empty_track 0) (empty_track t) (omega (arith, lt, same))))

  plain_is : (t : ℕ) → is_loose d.store t ≡ false → track_in d.store.plain t ≡ track_in d.store.firm t
  plain_is t none =
      ap (λ (v : List Track). track_in v t) (sym of.volume)
      ∙ sym (not_loose plain.loose t (track_in plain.volume t) (of.loose t ∙ none))
      ∙ of.firm t

  keeps : KeepsWritesOn firsts d
  keeps = record {
    firm = firm_is;
    all = history_among d.plans begun d.history
        (subst (λ (x : PlainState). IsPlain d.plans x d.history) p.base p.follows.stands.plain);
    plain = plain_is;
  }

pub run_keeps_writes_on : (firsts : Firsts) → AreWhole firsts → (deck : DeckLines) → IsServedDeck deck → All (KeepWritesOn firsts) (run_on firsts deck).events
run_keeps_writes_on firsts whole deck h =
    behind_weaker (PlainlyFrom firsts) (KeepsWritesOn firsts) (keeps firsts whole) (run_on firsts deck).events (run_stays_plain_on firsts whole deck h)

pub on_empty : (d : MarksDevice) → KeepsWritesOn empty_firsts d → KeepsWrites d
on_empty d k = record {
  firm = k.firm ∙ ap (λ (v : List Track). edited_by v (kept_edits d)) (held_empty d.store.cylinders d.history.items);
  all = k.all;
  plain = k.plain;
}

pub run_keeps_writes : (deck : DeckLines) → IsServedDeck deck → All KeepWrites (run_of deck).events
run_keeps_writes deck h =
    behind_weaker (KeepsWritesOn empty_firsts) KeepsWrites on_empty (run_of deck).events (run_keeps_writes_on empty_firsts empty_whole deck h)
