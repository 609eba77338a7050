-- A mirror behind the lines of a deck: its run is that of the deck, and what it was told as firm are the firm writes of the device.
use Rattle.std.proofs.Common.{◌≡◌, ◌∙◌, ℕ, false, List, Option, Some, Ok, map, refl, sym, ap}
use Rattle.std.specs.declared.convert.Infallible.{Infallible}
use Rattle.ckd_types.specs.declared.record.Track.{Track}
use Rattle.deck_text.specs.DeckLines.{DeckLines}
use Rattle.deck_text.specs.Parse.{parsed}
use Rattle.subsystem_defs.specs.Decks as decks
use Rattle.subsystem_defs.specs.Decks.{AreWhole, Firsts, opened_on, run_on}
use Rattle.subsystem_defs.specs.Happening.{happens, replaced, unpaired}
use Rattle.subsystem_defs.specs.Lines.{asked_by, last_behind, run_lines}
use Rattle.subsystem_defs.specs.Subsystem.{Mounted, Subsystem, mounted_in, unfailing}
use Rattle.line_drive.specs.Driven.{Occurred, Comes, Replaces, Unpairs, Step, Goes, driven, run_course, run_did}
use Rattle.line_drive.proofs.Alike.{Alike, driven_alike}
use Rattle.line_drive.proofs.Same.{driven_same}
use Rattle.firm_laws.specs.FirmWrites.{FirmWrite, firm_writes_on}
use Rattle.firm_laws.specs.Telling.{IsTelling}
use Rattle.firm_laws.proofs.DrivenWrites.{driven_written, opened_begins}
use Rattle.remote_copy.specs.Linking.{PutCalls}
use Rattle.remote_copy.specs.Mirrored.{IsMirrored, mirror_course}
use Rattle.remote_copy.specs.Mirroring.{MirrorRun, mirror_begun, mirror_did}
use Rattle.remote_copy.specs.Sending.{IsLevelled, put_all}
use Rattle.remote_copy.specs.declared.state.MirrorState.TheVariants.{Level}

goes_same : {G E : Type 0} (x y : G) (s : Step G E) → s ≡ Goes x → s ≡ Goes y → x ≡ y
goes_same x y s e f = cc

-- the device of a mirror stays the same, and its run goes along

stays : (c : MirrorRun) (o : Occurred) → (mirror_did c o).device ≡ c.device
stays c (Comes e) = refl
stays c (Replaces n side) = refl
stays c (Unpairs a) = refl

runs : (c : MirrorRun) (o : Occurred) → (mirror_did c o).run ≡ run_did c.run o
runs c (Comes e) = refl
runs c (Replaces n side) = refl
runs c (Unpairs a) = refl

tells : IsTelling mirror_course (λ c. c.device) (λ c. c.firms)
tells = record {
  stays = stays;
  sub = runs;
  comes = λ c e. refl;
  replaces = λ c n side. refl;
  unpairs = λ c a. refl;
  behind = λ c. refl;
}

-- a mirror of a device beside the run without it, with what it began with
record IsBeside (d : ℕ) (start : List Track) (calls : Option PutCalls) (c : MirrorRun) (s : Subsystem) : Type 0 where
  run : c.run ≡ s
  device : c.device ≡ d
  start_is : c.start ≡ start
  calls_are : c.calls ≡ calls
  uncopied : c.copied ≡ false

module _ (d : ℕ) (start : List Track) (calls : Option PutCalls) where
  did_beside : (c : MirrorRun) (s : Subsystem) (o : Occurred) → IsBeside d start calls c s → IsBeside d start calls (mirror_did c o) (run_did s o)
  did_beside c s (Comes e) b = record {
    run = ap (λ (x : Subsystem). (happens x e).behind) b.run;
    device = b.device;
    start_is = b.start_is;
    calls_are = b.calls_are;
    uncopied = b.uncopied;
  }
  did_beside c s (Replaces n side) b = record {
    run = ap (λ (x : Subsystem). (replaced x n side unfailing).behind) b.run;
    device = b.device;
    start_is = b.start_is;
    calls_are = b.calls_are;
    uncopied = b.uncopied;
  }
  did_beside c s (Unpairs a) b = record {
    run = ap (λ (x : Subsystem). (unpaired x a unfailing).behind) b.run;
    device = b.device;
    start_is = b.start_is;
    calls_are = b.calls_are;
    uncopied = b.uncopied;
  }

run_is : (firsts : Firsts) (deck : DeckLines) →
    last_behind (opened_on firsts deck) (run_lines (map asked_by deck.events) (opened_on firsts deck)) ≡ (run_on firsts deck).behind
unfolding decks.run_asked_on
run_is firsts deck = refl

-- a mirror behind the lines of a deck
pub record IsOver (firsts : Firsts) (deck : DeckLines) (d : ℕ) (start : List Track) (calls : Option PutCalls) (z : MirrorRun) : Type 0 where
  pub run : z.run ≡ (run_on firsts deck).behind
  pub device : z.device ≡ d
  pub start_is : z.start ≡ start
  pub calls_are : z.calls ≡ calls
  pub uncopied : z.copied ≡ false

module _ (firsts : Firsts) (deck : DeckLines) (d : ℕ) (start : List Track) (calls : Option PutCalls) (z : MirrorRun)
    (goes : driven mirror_course (map asked_by deck.events) (mirror_begun (opened_on firsts deck) d start calls) ≡ Goes z) where
  beside : Alike {E = Infallible} {F = Infallible} (IsBeside d start calls)
      (driven mirror_course (map asked_by deck.events) (mirror_begun (opened_on firsts deck) d start calls))
      (driven run_course (map asked_by deck.events) (opened_on firsts deck))
  beside =
      driven_alike mirror_course (run_course {E = Infallible}) (IsBeside d start calls) (λ c s b. b.run) (did_beside d start calls) (λ g. refl) (λ h. refl)
      (map asked_by deck.events) (mirror_begun (opened_on firsts deck) d start calls) (opened_on firsts deck)
      (record { run = refl; device = refl; start_is = refl; calls_are = refl; uncopied = refl })

  pub over_so : IsOver firsts deck d start calls z
  over_so =
      let b = beside in
      let lines = map asked_by deck.events in
      let s = opened_on firsts deck in
      let same : b.left ≡ z = goes_same b.left z (driven mirror_course lines (mirror_begun s d start calls)) b.goes_left goes in
      let right : b.right ≡ last_behind s (run_lines lines s) =
      goes_same b.right (last_behind s (run_lines lines s)) (driven (run_course {E = Infallible}) lines s) b.goes_right
      (driven_same {E = Infallible} lines s) in
      record {
        run = ap (λ (c : MirrorRun). c.run) (sym same) ∙ b.is.run ∙ right ∙ run_is firsts deck;
        device = ap (λ (c : MirrorRun). c.device) (sym same) ∙ b.is.device;
        start_is = ap (λ (c : MirrorRun). c.start) (sym same) ∙ b.is.start_is;
        calls_are = ap (λ (c : MirrorRun). c.calls) (sym same) ∙ b.is.calls_are;
        uncopied = ap (λ (c : MirrorRun). c.copied) (sym same) ∙ b.is.uncopied;
      }

  -- of a deck that was read
  pub firms_so : AreWhole firsts → (text : List ℕ) → parsed text ≡ Ok deck → (first : Mounted) →
      mounted_in (opened_on firsts deck).mounted d ≡ Some first → (m : Mounted) → mounted_in z.run.mounted d ≡ Some m → z.firms ≡ firm_writes_on firsts m.device
  firms_so whole text read first at m there =
      driven_written firsts whole mirror_course (λ c. c.device) (λ c. c.firms) tells text deck read (mirror_begun (opened_on firsts deck) d start calls)
      refl refl first at z goes m there

-- So it is where it began with the firm volume of its device

pub mirrored_so : (firsts : Firsts) → AreWhole firsts → (text : List ℕ) (deck : DeckLines) → parsed text ≡ Ok deck → (d : ℕ) (first : Mounted) →
    mounted_in (opened_on firsts deck).mounted d ≡ Some first → (calls : Option PutCalls) (z : MirrorRun) →
    driven mirror_course (map asked_by deck.events) (mirror_begun (opened_on firsts deck) d first.device.store.firm calls) ≡ Goes z →
    IsMirrored firsts deck d first z
mirrored_so firsts whole text deck read d first at calls z goes =
    let over = over_so firsts deck d first.device.store.firm calls z goes in
    record {
      run = over.run;
      device = over.device;
      uncopied = over.uncopied;
      start = over.start_is ∙ (opened_begins firsts d deck first at).firm;
      firms = λ m there. firms_so firsts deck d first.device.store.firm calls z goes whole text read first at m there;
    }

pub level_so : (firsts : Firsts) (deck : DeckLines) (d : ℕ) (first : Mounted) (z : MirrorRun) → IsMirrored firsts deck d first z → (m : Mounted) →
    mounted_in z.run.mounted d ≡ Some m → (sent : ℕ) (far : List Track) → IsLevelled z.firms z.start Level sent far →
    far ≡ put_all (firm_writes_on firsts m.device) (firsts d first.device.store.cylinders)
level_so firsts deck d first z is m there sent far level =
    level.0
    ∙ ap (λ (ws : List FirmWrite). put_all ws z.start) (is.firms m there)
    ∙ ap (put_all (firm_writes_on firsts m.device)) is.start
