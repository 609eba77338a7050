-- A command that goes from track to track ends as the chain does that is fed with the images that it saw.
use Rattle.std.proofs.Common.{◌≡◌, ◌+◌, ℕ, zero, suc, Bool, true, false, List, [], ◌∷◌, Option, Some, None, refl, sym, ap, subst, ◌∙◌, arith}
use Rattle.std.specs.Prelude.{if◌then◌else◌}
use Rattle.ckd_types.specs.declared.geometry.Geometry.{Geometry}
use Rattle.ckd_types.specs.declared.record.Edit.{Edit}
use Rattle.ckd_types.specs.declared.record.Track.{Track}
use Rattle.ckd_rules.specs.declared.order.LocalAct.{LocalAct}
use Rattle.ckd_chain.specs.declared.progress.Progress.{Progress}
use Rattle.ckd_chain.specs.declared.progress.Progress.TheVariants as progresses
use Rattle.ckd_chain.specs.declared.progress.Settled.{Settled}
use Rattle.ckd_chain.specs.declared.progress.Settled.TheVariants.{Written, Equipment}
use Rattle.ckd_chain.specs.Fed as F
use Rattle.ckd_chain.specs.Fed.{Fed, ended_by, fed_image, fed_by, fed}
use Rattle.ckd_chain.specs.State.{ChainState}
use Rattle.ckd_chain.specs.Steps.{need_of, stepped, settled_by}
use Rattle.track_image.specs.Image.{Image, edited_image}
use Rattle.device_outside.specs.Interaction.{Done, and_then}
use Rattle.device_outside.specs.Keeper.{Hearing}
use Rattle.device_outside.specs.Outside.{Outside, Ran, done, tried}
use Rattle.device_defs.specs.declared.answers.Came.TheVariants.{Checks}
use Rattle.device_defs.specs.declared.answers.Choice.{Choice}
use Rattle.device_defs.specs.declared.answers.Choice.TheVariants.{Provisional, Fast, Through}
use Rattle.device_defs.specs.declared.answers.Took.{Took}
use Rattle.device_defs.specs.declared.answers.Took.TheVariants.{Whole, Opened, Unwritten}
use Rattle.device_defs.specs.declared.counts.Counts.{Counts}
use Rattle.device_defs.specs.declared.usage.Usage.{Usage}
use Rattle.device_defs.specs.Choosing.{choose}
use Rattle.device_defs.specs.Command as N
use Rattle.device_defs.specs.Command.{Went, Over, On, came_of_write, went_by, looked, look, goes_on, follow}
use Rattle.device_defs.specs.Contents.{contents}
use Rattle.device_defs.specs.Editing as E
use Rattle.device_defs.specs.Editing.{unchosen, write, write_by, write_chosen, written, is_given}
use Rattle.device_defs.specs.Image.{Imaged, Has, NoBytes, BadTrack, image}
use Rattle.device_defs.specs.Memory.{had_by}
use Rattle.device_defs.specs.Outcomes.{Turn, ends_with, checks, wrote_turn, usage_of}
use Rattle.device_defs.specs.Owed.{is_clean}
use Rattle.device_defs.specs.Sound.{DeviceStore}
use Rattle.device_defs.specs.Store.{frame_at, is_lost}
use Rattle.device_laws.specs.Feeding.{Feeds}
use Rattle.device_laws.proofs.Based.{base_of, Hushed, Based}
use Rattle.device_laws.proofs.invariants.CallCounts.{write_steady}
use Rattle.device_laws.proofs.QuietParts.{Quiet, quiet_done, quiet_tell, quiet_ask, quiet_if, quiet_then, asks_quiet}
use Rattle.device_laws.specs.Seen as seen
use Rattle.device_laws.specs.Seen.{
  NotCalled,
  Look,
  look_at,
  EndsAs,
  reads_of,
  asks_write,
  is_opened,
  is_half,
  is_in_cache,
  Saw,
  SawNone,
  WentOn,
  Wrote,
  CameAsSeen,
}
use Rattle.device_laws.specs.Moved.{Moved, Counted, choice_writes, sides_writing}
use Rattle.device_laws.proofs.counted.Counting.{ran_moved, ran_counted}
use Rattle.device_laws.proofs.counted.Exact.{ByAnswer, chosen_exact}
use Rattle.device_laws.proofs.counted.WriteCounts.{choice_so}
use Rattle.device_laws.proofs.counted.RanCounts.{none_counted, counted_then, counted_as, moved_counted, try_based, based_past}
use Rattle.device_laws.proofs.counted.RanParts.{split, quiet_ran, same_calls}
use Rattle.device_laws.proofs.counted.Looks.{image_saw}
use Rattle.device_laws.proofs.PoolWalks.{choose_asks}

-- A write

module _ {K : Type 0} (had : Bool → Type 0) (hears : Hearing Image K) where
  abbrev pub Calls : Type 0
  Calls = Outside (List ℕ) K

  no_call : (u : Calls) → NotCalled u u
  no_call u = record { a = refl; b = refl }

  module _ (usage : Usage) (first t : ℕ) (old : Image) (edit : Edit) where
    by_quiet : (s : DeviceStore) (choice : Choice) → is_in_cache choice ≡ true →
        Quiet {R = List ℕ} (write_by contents usage first t (edited_image edit old) edit s choice)
    by_quiet s Provisional is = quiet_done
    by_quiet s (Fast slot) is = quiet_tell (λ _. quiet_done)
    by_quiet s Through is = absurd (cc)

    written_quiet : (s : DeviceStore) (choice : Choice) → is_in_cache choice ≡ true → Quiet {R = List ℕ} (written contents s usage first t old edit choice)
    written_quiet s choice is = quiet_then _ (by_quiet s choice is) (λ z took. quiet_done)

    clean_quiet : (s : DeviceStore) → Quiet {R = List ℕ} (E.clean_again contents s t)
    clean_quiet s = quiet_if (is_clean contents (frame_at s t)) (quiet_ask (λ _. quiet_done)) quiet_done

    unchosen_quiet : (s : DeviceStore) (choice : Choice) → Quiet {R = List ℕ} (unchosen contents s t choice)
    unchosen_quiet s Provisional = clean_quiet s
    unchosen_quiet s (Fast (Some slot)) = quiet_ask (λ _. clean_quiet s)
    unchosen_quiet s (Fast None) = clean_quiet s
    unchosen_quiet s Through = quiet_done

    chosen_quiet : (s : DeviceStore) (choice : Choice) → is_in_cache choice ≡ true → Quiet {R = List ℕ} (write_chosen contents usage first t old edit s choice)
    chosen_quiet s choice is =
        quiet_if (is_given contents s choice)
        (quiet_tell (λ ok. quiet_if ok (written_quiet s choice is) (unchosen_quiet s choice)))
        (written_quiet s choice is)

  choice_quiet : (s : DeviceStore) (u : Usage) (t : ℕ) → Quiet {R = List ℕ} (choose contents s u t)
  choice_quiet s u t = asks_quiet (choose_asks contents (λ z. Unit {0}) s u t tt)

  choice_keeps : (s y : DeviceStore) (u : Usage) (t : ℕ) (choice : Choice) {v z : Calls} → Ran had hears (choose contents s u t) v y choice z → y ≡ s
  choice_keeps s y u t choice r = (ran_counted (choice_so contents s u t) r).2.same

  -- by what came of it
  took_counted : (n : ℕ) (choice : Choice) {old new : Counts} (took : Took) → Moved (λ r w. ByAnswer n choice r w (Some took)) old new →
      Counted 0 (choice_writes n choice (is_opened took)) old new
  took_counted n choice took m = moved_counted 0 (choice_writes n choice (is_opened took)) m m.is.0 m.is.1

  tried_write : (s : DeviceStore) (u : Usage) (first t : ℕ) (old : Image) (edit : Edit) (ok : Bool) {v z : Calls} {e : DeviceStore} {took : Took} →
      Based base_of Hushed (base_of s) (if ok then and_then (choose contents s u t) (write_chosen contents u first t old edit) else Done s None) →
      Ran had hears (if ok then and_then (choose contents s u t) (write_chosen contents u first t old edit) else Done s None) v e (Some took) z →
      (writes : ℕ) × Wrote had hears u t s v true (is_opened took) writes e z
  tried_write s u first t old edit true {v = v} {took = took} based r =
      let y = split (choose contents s u t) (write_chosen contents u first t old edit) r in
      let same = choice_keeps s y.state u t y.answer y.first in
      let rest = based_past (write_chosen contents u first t old edit) (choice_quiet s u t) based y.first in
      let m = took_counted (sides_writing y.state) y.answer took (ran_moved rest (chosen_exact contents u first t old edit y.state y.answer) y.rest) in (
        choice_writes (sides_writing s) y.answer (is_opened took),
        seen.wrote y.outside y.answer refl (subst (λ (x : DeviceStore). Ran had hears (choose contents s u t) v x y.answer y.outside) same y.first)
            (λ is. same_calls (quiet_ran (choice_quiet s u t) y.first) (quiet_ran (chosen_quiet u first t old edit y.state y.answer is) y.rest))
            (counted_as m refl (ap (λ (x : DeviceStore). choice_writes (sides_writing x) y.answer (is_opened took)) same)),
      )
  tried_write s u first t old edit false based r = elim r [ ]

  -- one that is fast or provisional calls no volume
  pub write_wrote : (s : DeviceStore) (u : Usage) (first t : ℕ) (old : Image) (edit : Edit) {v z : Calls} {e : DeviceStore} {took : Took} →
      Ran had hears (write contents s u first t old edit) v e (Some took) z → (writes : ℕ) × Wrote had hears u t s v true (is_opened took) writes e z
  unfolding E.write
  write_wrote s u first t old edit (tried ok m r) =
      tried_write s u first t old edit ok (try_based (write_steady contents s u first t old edit) ok) r

  -- From track to track

  module _ (m : ℕ) (g : Geometry) (looks : ChainState → ℕ → Type 0) (feeds : Feeds m g looks) where
    fed_step : (n : ℕ) (tracks : ℕ → Track) (answer : LocalAct → Settled) (chain : ChainState) (t : ℕ) (i : Image) → looks chain t →
        i ≡ record { geometry = g; track = tracks t } →
        fed (suc n) tracks answer chain ≡ fed_by answer (fed n tracks answer) (stepped chain (Some i)).chain (stepped chain (Some i)).progress
    unfolding F.fed
    fed_step n tracks answer chain t i at same =
        let is : fed_image chain.fixed tracks (need_of chain) ≡ Some i =
        ap (fed_image chain.fixed tracks) (feeds.needs chain t at)
        ∙ ap (λ (x : Geometry). Some (record { geometry = x; track = tracks t })) (feeds.fixed chain t at)
        ∙ ap Some (sym same) in
        ap (λ (o : Option Image). fed_by answer (fed n tracks answer) (stepped chain o).chain (stepped chain o).progress) is

    -- what a look at one track leads to
    data LookedSo (chain : ChainState) (t : ℕ) (s : DeviceStore) (u : Calls) : DeviceStore → Went → Calls → Type 0 where
      look_none : {z : DeviceStore} {w : Calls} {turn : Turn} {c : _} (reads : ℕ) → turn.came ≡ Checks c → SawNone had hears s (usage_of chain) t u reads z w →
          LookedSo chain t s u z (Over turn) w
      look_over : {z : DeviceStore} {w : Calls} {turn : Turn} (i : Image) (y : DeviceStore) (v : Calls) (reads writes : ℕ) →
          Saw had hears s (usage_of chain) t u i reads y v →
          Wrote had hears (usage_of chain) t y v (asks_write (stepped chain (Some i)).progress) (is_half turn.came) writes z w →
          ((n : ℕ) (tracks : ℕ → Track) (answer : LocalAct → Settled) → i ≡ record { geometry = g; track = tracks t } →
          EndsAs (fed (suc n) tracks answer chain) turn.chain turn.came) → LookedSo chain t s u z (Over turn) w
      look_on : {z : DeviceStore} {w : Calls} {next : ChainState} {q : ℕ} (i : Image) (reads : ℕ) → Saw had hears s (usage_of chain) t u i reads z w →
          looks next q → (stepped chain (Some i)).chain ≡ next → (stepped chain (Some i)).progress ≡ progresses.Need q →
          ((n : ℕ) (tracks : ℕ → Track) (answer : LocalAct → Settled) → i ≡ record { geometry = g; track = tracks t } →
          fed (suc n) tracks answer chain ≡ fed n tracks answer next) → LookedSo chain t s u z (On next q) w

    module _ (chain : ChainState) (first t : ℕ) (at : looks chain t) where
      -- by what came of its write
      wrote_so : (next : ChainState) (q : ℕ) (e : Edit) (i : Image) → (stepped chain (Some i)).chain ≡ next →
          (stepped chain (Some i)).progress ≡ progresses.Write q e → {s y z : DeviceStore} {u v w : Calls} (took : Took) (reads writes : ℕ) →
          Saw had hears s (usage_of chain) t u i reads y v → Wrote had hears (usage_of chain) t y v true (is_opened took) writes z w →
          LookedSo chain t s u z (Over (wrote_turn next t took)) w
      wrote_so next q e i is p {s = s} {y = y} {z = z} {u = u} {v = v} {w = w} took reads writes saw rest = by_took took rest
        where
          step : (n : ℕ) (tracks : ℕ → Track) (answer : LocalAct → Settled) → i ≡ record { geometry = g; track = tracks t } →
              fed (suc n) tracks answer chain ≡ ended_by next (settled_by next Written) (Some (record { track = q; edit = e }))
          step n tracks answer same =
              fed_step n tracks answer chain t i at same
              ∙ ap (λ (x : Progress). fed_by answer (fed n tracks answer) (stepped chain (Some i)).chain x) p
              ∙ ap (λ (x : ChainState). ended_by x (settled_by x Written) (Some (record { track = q; edit = e }))) is

          as_asked : {half : Bool} → Wrote had hears (usage_of chain) t y v true half writes z w →
              Wrote had hears (usage_of chain) t y v (asks_write (stepped chain (Some i)).progress) half writes z w
          as_asked {half = half} = subst (λ (b : Bool). Wrote had hears (usage_of chain) t y v b half writes z w) (sym (ap asks_write p))

          by_took : (took : Took) → Wrote had hears (usage_of chain) t y v true (is_opened took) writes z w →
              LookedSo chain t s u z (Over (wrote_turn next t took)) w
          by_took Whole behind =
              look_over i y v reads writes saw (as_asked behind)
              (λ n tracks answer same. (ap (λ (x : Fed). x.end) (step n tracks answer same), ap (λ (x : Fed). x.chain) (step n tracks answer same)))
          by_took Opened behind =
              look_over i y v reads writes saw (as_asked behind)
              (λ n tracks answer same. (ap (λ (x : Fed). x.end) (step n tracks answer same), ap (λ (x : Fed). x.chain) (step n tracks answer same)))
          by_took Unwritten behind = look_over i y v reads writes saw (as_asked behind) (λ n tracks answer same. tt)

      took_so : (next : ChainState) (q : ℕ) (e : Edit) (i : Image) → (stepped chain (Some i)).chain ≡ next →
          (stepped chain (Some i)).progress ≡ progresses.Write q e → {s y y2 z : DeviceStore} {u v v2 w : Calls} {went : Went} (took : Took)
          (reads writes : ℕ) → Saw had hears s (usage_of chain) t u i reads y v → Wrote had hears (usage_of chain) t y v true (is_opened took) writes y2 v2 →
          Ran had hears (came_of_write contents next t y2 took) v2 z (Some went) w → LookedSo chain t s u z went w
      took_so next q e i is p took reads writes saw rest done = wrote_so next q e i is p took reads writes saw rest

      answer_so : (next : ChainState) (q : ℕ) (e : Edit) (i : Image) → (stepped chain (Some i)).chain ≡ next →
          (stepped chain (Some i)).progress ≡ progresses.Write q e → {s y y2 z : DeviceStore} {u v v2 w : Calls} {went : Went} (a : Option Took)
          (reads : ℕ) → Saw had hears s (usage_of chain) t u i reads y v → Ran had hears (write contents y (usage_of chain) first t i e) v y2 a v2 →
          Ran had hears (had_by (came_of_write contents next t) y2 a) v2 z (Some went) w → LookedSo chain t s u z went w
      answer_so next q e i is p None reads saw first_ran rest = elim rest [ ]
      answer_so next q e i is p {y = y} (Some took) reads saw first_ran rest =
          let x = write_wrote y (usage_of chain) first t i e first_ran in took_so next q e i is p took reads x.0 saw x.1 rest

      by_progress : (next : ChainState) (p : Progress) (i : Image) → (stepped chain (Some i)).chain ≡ next → (stepped chain (Some i)).progress ≡ p →
          {s y z : DeviceStore} {u v w : Calls} {went : Went} (reads : ℕ) → Saw had hears s (usage_of chain) t u i reads y v →
          Ran had hears (went_by contents (usage_of chain) first t y i next p) v z (Some went) w → LookedSo chain t s u z went w
      by_progress next (progresses.Ended e) i is p {v = v} reads saw done =
          look_over i _ _ reads 0 saw (seen.no_write (ap asks_write p) refl (no_call v)) (λ n tracks answer same. ended n tracks answer same)
        where
          ended : (n : ℕ) (tracks : ℕ → Track) (answer : LocalAct → Settled) → i ≡ record { geometry = g; track = tracks t } →
              EndsAs (fed (suc n) tracks answer chain) next (ends_with next e).came
          ended n tracks answer same =
              let f : fed (suc n) tracks answer chain ≡ record { end = e; chain = next; edit = None } =
              fed_step n tracks answer chain t i at same
              ∙ ap (λ (x : Progress). fed_by answer (fed n tracks answer) (stepped chain (Some i)).chain x) p
              ∙ ap (λ (x : ChainState). record { end = e; chain = x; edit = None }) is in
              (ap (λ (x : Fed). x.end) f, ap (λ (x : Fed). x.chain) f)
      by_progress next (progresses.Need q) i is p reads saw done =
          look_on i reads saw (subst (λ (x : ChainState). looks x q) is (feeds.goes chain t i q at p)) is p
          (λ n tracks answer same.
          fed_step n tracks answer chain t i at same
          ∙ ap (λ (x : Progress). fed_by answer (fed n tracks answer) (stepped chain (Some i)).chain x) p
          ∙ ap (fed n tracks answer) is)
      by_progress next (progresses.Write q e) i is p {y = y} reads saw r =
          let x = split (write contents y (usage_of chain) first t i e) (had_by (came_of_write contents next t)) r in
          answer_so next q e i is p x.answer reads saw x.first x.rest
      by_progress next (progresses.Local act) i is p {v = v} reads saw done =
          look_over i _ _ reads 0 saw (seen.no_write (ap asks_write p) refl (no_call v)) (λ n tracks answer same. tt)

      went_so : (i : Image) (ok : Bool) {s y z : DeviceStore} {u v w : Calls} {went : Went} (reads : ℕ) →
          Saw had hears s (usage_of chain) t u i reads y v →
          Ran had hears (if ok then went_by contents (usage_of chain) first t y i (stepped chain (Some i)).chain (stepped chain (Some i)).progress
          else Done y None) v z (Some went) w → LookedSo chain t s u z went w
      went_so i true reads saw r = by_progress (stepped chain (Some i)).chain (stepped chain (Some i)).progress i refl refl reads saw r
      went_so i false reads saw r = elim r [ ]

      by_image : (s y : DeviceStore) (a : Option Imaged) {z : DeviceStore} {u v w : Calls} {went : Went} →
          Ran had hears (image contents s (usage_of chain) t) u y a v → Ran had hears (had_by (looked contents chain first t) y a) v z (Some went) w →
          LookedSo chain t s u z went w
      by_image s y None first_ran rest = elim rest [ ]
      by_image s y (Some (Has i)) first_ran (tried ok m r) =
          let x = image_saw had hears (usage_of chain) t s (Has i) first_ran in went_so i ok x.0 x.1 r
      by_image s y (Some (NoBytes fault)) first_ran done =
          let x = image_saw had hears (usage_of chain) t s (NoBytes fault) first_ran in look_none x.0 refl x.1
      by_image s y (Some (BadTrack side)) first_ran done =
          let x = image_saw had hears (usage_of chain) t s (BadTrack side) first_ran in look_none x.0 refl x.1

      by_lost : (s : DeviceStore) (lost : Bool) → is_lost s t ≡ lost → {z : DeviceStore} {u w : Calls} {went : Went} →
          Ran had hears (if lost then Done s (Some (Over (checks chain Equipment)))
          else and_then (image contents s (usage_of chain) t) (had_by (looked contents chain first t))) u z (Some went) w → LookedSo chain t s u z went w
      by_lost s true lost {u = u} done = look_none 0 refl (seen.lost lost (no_call u))
      by_lost s false lost r =
          let x = split (image contents s (usage_of chain) t) (had_by (looked contents chain first t)) r in by_image s x.state x.answer x.first x.rest

      look_so : (s : DeviceStore) {z : DeviceStore} {u w : Calls} {went : Went} → Ran had hears (look contents chain first t s) u z (Some went) w →
          LookedSo chain t s u z went w
      unfolding N.look
      look_so s r = by_lost s (is_lost s t) refl r

    -- what a look, and the write behind it, counted
    pub saw_counted : {s y : DeviceStore} {usage : Usage} {t reads : ℕ} {i : Image} {u v : Calls} → Saw had hears s usage t u i reads y v →
        Counted reads 0 s.counts y.counts
    saw_counted (seen.hit f is why same quiet) = none_counted refl
    saw_counted (seen.missed x y v w side bytes fault from ran read last is quiet made) = made

    none_saw : {s y : DeviceStore} {usage : Usage} {t reads : ℕ} {u v : Calls} → SawNone had hears s usage t u reads y v → Counted reads 0 s.counts y.counts
    none_saw (seen.lost is quiet) = none_counted refl
    none_saw (seen.unread x y v w reads side fault from ran none quiet made) = made
    none_saw (seen.no_track x y v w side bytes fault from ran read last is quiet made) = made

    wrote_counted : {s y : DeviceStore} {usage : Usage} {t writes : ℕ} {asked half : Bool} {u v : Calls} → Wrote had hears usage t s u asked half writes y v →
        Counted 0 writes s.counts y.counts
    wrote_counted (seen.no_write by is quiet) = none_counted refl
    wrote_counted (seen.wrote v choice by ran quiet made) = made

    -- the looks behind the first one
    further : {chain next final : ChainState} {t q : ℕ} {i : Image} {s y x : DeviceStore} {u v w : Calls} {ls : List Look} {reads : ℕ} → looks chain t →
        Saw had hears s (usage_of chain) t u i reads y v → (stepped chain (Some i)).chain ≡ next → (stepped chain (Some i)).progress ≡ progresses.Need q →
        WentOn had hears next y v ls final x w → WentOn had hears chain s u (look_at t i reads ∷ ls) final x w
    further {chain = chain} {final = final} {t = t} {q = q} {i = i} {y = y} {x = x} {v = v} {w = w} {ls = ls} {reads = reads} at saw is p all =
        seen.one_more t q i reads (feeds.needs chain t at) saw p (subst (λ (k : ChainState). WentOn had hears k y v ls final x w) (sym is) all)

    more_seen : (n : ℕ) (chain next : ChainState) (t q : ℕ) (i : Image) {s y : DeviceStore} {u v w : Calls} {turn : Turn} {new : Counts} (reads : ℕ) →
        looks chain t → Saw had hears s (usage_of chain) t u i reads y v → (stepped chain (Some i)).chain ≡ next →
        (stepped chain (Some i)).progress ≡ progresses.Need q →
        ((tracks : ℕ → Track) (answer : LocalAct → Settled) → i ≡ record { geometry = g; track = tracks t } →
        fed (suc n) tracks answer chain ≡ fed n tracks answer next) → CameAsSeen had hears n g next y v turn y.counts new w →
        CameAsSeen had hears (suc n) g chain s u turn s.counts new w
    more_seen n chain next t q i {y = y} {v = v} {turn = turn} reads at saw is p same
        (seen.came ls final k j more writes x y2 e v2 w2 all needs last rest ends made) =
        let sum : reads + (reads_of ls + more) ≡ (reads + reads_of ls) + more = omega arith in
        seen.came (look_at t i reads ∷ ls) final k j more writes x y2 e v2 w2 (further at saw is p all) needs last rest
        (λ tracks answer are one. subst (λ (f : Fed). EndsAs f turn.chain turn.came) (sym (same tracks answer are.0)) (ends tracks answer are.1 one))
        (counted_as (counted_then (saw_counted saw) made) sum (omega arith))
    more_seen n chain next t q i reads at saw is p same (seen.unseen ls final k more x y2 v2 checks all needs none made) =
        let sum : reads + (reads_of ls + more) ≡ (reads + reads_of ls) + more = omega arith in
        seen.unseen (look_at t i reads ∷ ls) final k more x y2 v2 checks (further at saw is p all) needs none
        (counted_as (counted_then (saw_counted saw) made) sum (omega arith))
    more_seen n chain next t q i reads at saw is p same (seen.too_many ls final x count checks all made) =
        seen.too_many (look_at t i reads ∷ ls) final x (ap suc count) checks (further at saw is p all)
        (counted_as (counted_then (saw_counted saw) made) refl (omega arith))

    abbrev pub Following : ℕ → ℕ → Type 0
    Following n first =
        (chain : ChainState) (t : ℕ) (s : DeviceStore) → looks chain t → (z : DeviceStore) (u w : Calls) (turn : Turn) →
        Ran had hears (follow contents n first chain t s) u z (Some turn) w → CameAsSeen had hears n g chain s u turn s.counts z.counts w

    goes_further : (n first : ℕ) (chain : ChainState) (t : ℕ) → looks chain t → Following n first → {s y : DeviceStore} {u v : Calls} (went : Went) →
        LookedSo chain t s u y went v → {z : DeviceStore} {w : Calls} {turn : Turn} →
        Ran had hears (goes_on contents (follow contents n first) y went) v z (Some turn) w →
        CameAsSeen had hears (suc n) g chain s u turn s.counts z.counts w
    goes_further n first chain t at later {s = s} {y = y} {u = u} (Over turn) (look_none reads checks none) done =
        seen.unseen [] chain t reads s y u checks seen.none_yet (feeds.needs chain t at) none (counted_as (none_saw none) (omega arith) refl)
    goes_further n first chain t at later {s = s} {y = e} {u = u} (Over turn) (look_over i y v reads writes saw rest ends) done =
        seen.came [] chain t i reads writes s y e u v seen.none_yet (feeds.needs chain t at) saw rest (λ tracks answer are one. ends n tracks answer one)
        (counted_as (counted_then (saw_counted saw) (wrote_counted rest)) (omega arith) (omega arith))
    goes_further n first chain t at later (On next q) (look_on i reads saw there is p same) r =
        more_seen n chain next t q i reads at saw is p (same n) (later next q _ there _ _ _ _ r)

    by_went : (n first : ℕ) (chain : ChainState) (t : ℕ) → looks chain t → Following n first → {s y : DeviceStore} {u v : Calls} (a : Option Went) →
        Ran had hears (look contents chain first t s) u y a v → {z : DeviceStore} {w : Calls} {turn : Turn} →
        Ran had hears (had_by (goes_on contents (follow contents n first)) y a) v z (Some turn) w →
        CameAsSeen had hears (suc n) g chain s u turn s.counts z.counts w
    by_went n first chain t at later None first_ran rest = elim rest [ ]
    by_went n first chain t at later {s = s} (Some went) first_ran rest =
        goes_further n first chain t at later went (look_so chain first t at s first_ran) rest

    pub follow_so : (n first : ℕ) → Following n first
    unfolding N.follow
    follow_so zero first chain t s at z u w turn done = seen.too_many [] chain s refl refl seen.none_yet (none_counted refl)
    follow_so (suc n) first chain t s at z u w turn r =
        let x = split (look contents chain first t s) (had_by (goes_on contents (follow contents n first))) r in
        by_went n first chain t at (follow_so n first) x.answer x.first x.rest
