-- In the run of a deck each equipment check is explained.
use Rattle.std.proofs.Common.{◌≡◌, Bool, true, false, List, [], ◌∷◌, map, refl, sym, subst}
use Rattle.std.proofs.lemmas.List.Elements.{All-head, All-tail}
use Rattle.std.specs.Prelude.{All, ◌&&◌}
use Rattle.deck_text.specs.DeckLines.{DeckLines}
use Rattle.device_defs.specs.Marks.{MarksDevice}
use Rattle.subsystem_defs.specs.Decks as D
use Rattle.subsystem_defs.specs.Decks.{Firsts, AreWhole, empty_firsts, opened_on, run_of, run_on}
use Rattle.subsystem_defs.specs.Lines.{Logged, asked_by}
use Rattle.subsystem_defs.specs.Promised as P
use Rattle.subsystem_defs.specs.Promised.{explained_from, all_explained_from, explained_in, are_explained, are_explained_from}
use Rattle.subsystem_defs.specs.Subsystem.{Mounted, Subsystem, devices_of}
use Rattle.subsystem_laws.specs.Causes.{EachPair, CountsFailures, CountFailures}
use Rattle.subsystem_laws.specs.Served.{IsServedDeck}
use Rattle.subsystem_laws.proofs.CalmRuns.{AllSo, all_so}
use Rattle.subsystem_laws.proofs.Explained.{ExplainsFrom, run_explains}
use Rattle.subsystem_laws.proofs.PlainRuns.{PlainlyFrom, empty_whole, opened_plain_on, run_stays_plain_on}
use Rattle.subsystem_laws.proofs.RunLinks.{Linked, lines_linked}
use Rattle.subsystem_laws.proofs.SteeredRuns.{Steered, steered_kept, opened_steered}
use Rattle.subsystem_laws.proofs.Walks.{AreSo, run_keeps}

and_true : (x y : Bool) → x ≡ true → y ≡ true → (x && y) ≡ true
and_true true y e f = f
and_true false y e f = absurd (cc)

all_mounted : (P : MarksDevice → Type 0) (ms : List Mounted) → AreSo P ms → AllSo P (map (λ (m : Mounted). m.device) ms)
all_mounted P [] p = tt
all_mounted P (m ∷ ms) p = (p.0, all_mounted P ms p.1)

abbrev AreBehind : (MarksDevice → Type 0) → Logged → Type 0
AreBehind P x = All P (devices_of x.happened.behind)

behind : (P : MarksDevice → Type 0) (t : Logged) (ts : List Logged) → All (AreBehind P) (t ∷ ts) → AllSo P (devices_of t.happened.behind)
behind P t ts h = all_so P (devices_of t.happened.behind) (All-head (AreBehind P) t ts h)

module _ (firsts : Firsts) where
  -- before an event
  record Stands (s : Subsystem) : Type 0 where
    plain : AllSo (PlainlyFrom firsts) (devices_of s)
    steered : AllSo Steered (devices_of s)

  -- each device's pair
  all_explained : (xs ys : List MarksDevice) → EachPair (ExplainsFrom firsts) xs ys → AllSo (PlainlyFrom firsts) xs → AllSo Steered xs →
      AllSo CountsFailures xs → all_explained_from firsts xs ys ≡ true
  all_explained [] ys h p q n = refl
  all_explained (x ∷ xs) [] h p q n = absurd h
  all_explained (x ∷ xs) (y ∷ ys) h p q n =
      and_true (explained_from firsts x y) (all_explained_from firsts xs ys) (h.0 p.0 q.0 n.0) (all_explained xs ys h.1 p.1 q.1 n.1)

  abbrev PairsExplain : Logged → Type 0
  PairsExplain x = EachPair (ExplainsFrom firsts) (devices_of x.happened.before) (devices_of x.happened.behind)

  event_explained : (t : Logged) → PairsExplain t → Stands t.happened.before → All CountsFailures (devices_of t.happened.before) →
      explained_in firsts t ≡ true
  event_explained t h z n =
      all_explained (devices_of t.happened.before) (devices_of t.happened.behind) h z.plain z.steered
      (all_so CountsFailures (devices_of t.happened.before) n)

  -- event by event
  explained_along : (ts : List Logged) (s : Subsystem) → Linked s ts → All PairsExplain ts → All (AreBehind (PlainlyFrom firsts)) ts →
      All (AreBehind Steered) ts → All CountFailures ts → Stands s → are_explained_from firsts ts ≡ true
  unfolding P.are_explained_from
  explained_along [] s l h p q n z = refl
  explained_along (t ∷ ts) s l h p q n z =
      and_true (explained_in firsts t) (are_explained_from firsts ts)
      (event_explained t (All-head PairsExplain t ts h) (subst Stands (sym l.0) z) (All-head CountFailures t ts n))
      (explained_along ts t.happened.behind l.1 (All-tail PairsExplain t ts h) (All-tail (AreBehind (PlainlyFrom firsts)) t ts p)
      (All-tail (AreBehind Steered) t ts q) (All-tail CountFailures t ts n)
      (record { plain = behind (PlainlyFrom firsts) t ts p; steered = behind Steered t ts q }))

  pub run_is_explained_on : AreWhole firsts → (deck : DeckLines) → IsServedDeck deck → All CountFailures (run_on firsts deck).events →
      are_explained_from firsts (run_on firsts deck).events ≡ true
  unfolding D.run_asked_on
  run_is_explained_on whole deck h n =
      let lines = map asked_by deck.events in
      let first = opened_on firsts deck in
      let steered : AreSo Steered first.mounted = opened_steered firsts deck deck.devices in
      explained_along (run_on firsts deck).events first (lines_linked lines first) (run_explains firsts deck h)
      (run_stays_plain_on firsts whole deck h) (run_keeps Steered steered_kept lines first steered) n
      (record {
        plain = all_mounted (PlainlyFrom firsts) first.mounted (opened_plain_on firsts whole deck deck.devices h.devices);
        steered = all_mounted Steered first.mounted steered;
      })

pub run_is_explained : (deck : DeckLines) → IsServedDeck deck → All CountFailures (run_of deck).events → are_explained (run_of deck).events ≡ true
run_is_explained = run_is_explained_on empty_firsts empty_whole
