-- What a calm run keeps of a device, and what each event makes of it where none of its calls fails.
use Rattle.std.proofs.Common.{
  ◌≡◌,
  ◌<◌,
  ◌≤◌,
  ◌==◌,
  ℕ,
  Bool,
  true,
  false,
  not,
  List,
  [],
  ◌∷◌,
  Option,
  Some,
  None,
  is_some,
  length,
  option_map,
  refl,
  sym,
  ap,
  subst,
  ◌∙◌,
  arith,
  ◌⊎◌,
  inl,
  inr,
}
use Rattle.std.proofs.lemmas.Bool.{cases_lt, eqb-true}
use Rattle.std.proofs.lemmas.List.{get_or_past}
use Rattle.std.specs.Prelude.{if◌then◌else◌, ◌&&◌, ◌||◌, count_by}
use Rattle.track_table.specs.Tracks.{least}
use Rattle.plain_defs.specs.declared.journal.How.TheVariants.{Checked}
use Rattle.plain_defs.specs.declared.journal.Item.{Item}
use Rattle.plain_defs.specs.declared.journal.Item.TheVariants as items
use Rattle.ckd_types.specs.declared.channel.CommandEnd.{CommandEnd}
use Rattle.plain_defs.specs.History.{OpenEntry, History, checked_in, entry_of, resets_of, with_end}
use Rattle.plain_defs.specs.Journal.{last_sense}
use Rattle.ckd_chain.specs.State.{ChainState}
use Rattle.ckd_chain.specs.Steps.{end_with, settled_by}
use Rattle.ckd_chain.specs.declared.progress.Settled.TheVariants.{Equipment}
use Rattle.track_image.specs.Image.{Image}
use Rattle.device_outside.specs.Interaction.{Interaction}
use Rattle.device_defs.specs.declared.answers.Stepped.{Stepped}
use Rattle.device_defs.specs.Command as N
use Rattle.device_defs.specs.Command.{has_loss, command_by, command}
use Rattle.device_defs.specs.Contents.{by_plain}
use Rattle.device_defs.specs.Device.{event_begun}
use Rattle.device_defs.specs.Excused.{is_checked, is_equipment_check}
use Rattle.device_defs.specs.Marks.{MarksDevice, MarksStore}
use Rattle.device_defs.specs.Owed as O
use Rattle.device_defs.specs.Owed.{hear, is_clean, waits_by, waits, waiting_count, noted_end}
use Rattle.device_defs.specs.Store.{HalfWrite, tracks_of, stale_at, has_level, frame_at, patch_at, is_lost, is_loose, half_is}
use Rattle.device_laws.specs.Unharmed.{IsWholeOnA, ends_with_equipment_check}
use Rattle.device_laws.proofs.Bools.{up_level}
use Rattle.device_laws.proofs.Always.{Always, always_done, always_try, always_then}
use Rattle.device_laws.proofs.CacheLost.{none_below}
use Rattle.device_laws.proofs.FailedCall.{IsWell}
use Rattle.device_laws.proofs.KeptEvents.{Continues, always_any, always_if}
use Rattle.device_laws.proofs.KeptHistories.{AreNot, count_more, same_came, extends_itself}
use Rattle.device_laws.proofs.OneFailed.{sides_of, fallen_a, OnBoth, OnSideA, IsSomewhere}
use Rattle.device_laws.proofs.TrackMarks as M
use Rattle.device_laws.proofs.TrackMarks.{marks, is_good, frame_mark}
use Rattle.device_laws.proofs.UncheckedEvents.{equipment_checks}
use Rattle.device_laws.proofs.Unlost.{core_of, Steady}
use Rattle.device_laws.proofs.FramesKept.{plates_of, HasFrames}
use Rattle.subsystem_defs.specs.Calm.{is_behind, has_all_sides, has_whole_sides, is_whole_device}
use Rattle.subsystem_laws.proofs.WholeUnpairs.{none_counted}

-- an equipment check that isn't behind a loss of the program's own data of cache fast write
abbrev pub is_unserved : Item → Bool
is_unserved (items.Program e) = is_checked e.how && is_equipment_check (last_sense e.ends) && not (has_loss e.acts)
is_unserved _ = false

abbrev pub unserved : History → ℕ
unserved h = count_by is_unserved h.items

pub record Calm (d : MarksDevice) : Type 0 where
  pub steady : is_some d.store.lent ≡ false → Steady (core_of d.store)
  pub kept : (q : ℕ) → is_lost d.store q ≡ false
  pub served : unserved d.history ≡ 0

-- Journals

not_unserved : (ys : List Item) → AreNot ends_with_equipment_check ys → AreNot is_unserved ys
not_unserved [] h = tt
not_unserved (items.Program e ∷ ys) h = (ap (λ (b : Bool). b && not (has_loss e.acts)) h.0, not_unserved ys h.1)
not_unserved (items.Act act ∷ ys) h = (refl, not_unserved ys h.1)
not_unserved (items.Reset path ∷ ys) h = (refl, not_unserved ys h.1)
not_unserved (items.Fresh ∷ ys) h = (refl, not_unserved ys h.1)
not_unserved (items.Power ∷ ys) h = (refl, not_unserved ys h.1)

pub served_on : (d y : MarksDevice) → Continues d.plans d.history y → equipment_checks y.history ≡ equipment_checks d.history → unserved d.history ≡ 0 →
    unserved y.history ≡ 0
served_on d y k same none =
    let x = k.history in
    ap (λ (xs : List Item). count_by is_unserved xs) x.grown
    ∙ count_more is_unserved d.history.items x.more
    (not_unserved x.more (same_came ends_with_equipment_check d.history.items x.more
    (sym (ap (λ (xs : List Item). count_by ends_with_equipment_check xs) x.grown) ∙ same)))
    ∙ none

pub itself : (d : MarksDevice) → Continues d.plans d.history d
itself d = record { plans = refl; history = extends_itself d.history }

-- once data of its own program's cache fast write are lost, a program ends so
resets_served : (paths : List ℕ) → AreNot is_unserved (resets_of paths)
resets_served [] = tt
resets_served (path ∷ paths) = (refl, resets_served paths)

not_both : (b : Bool) (a : Bool) → a ≡ true → (b && not a) ≡ false
not_both true a e = ap not e
not_both false a e = refl

always_true : {A : Type 0} {q : MarksDevice → A → Type 0} (b : Bool) {i : Interaction Bool Image MarksDevice A} (j : Interaction Bool Image MarksDevice A) →
    b ≡ true → Always i q →
    Always (if b then i else j) q
always_true true j e f = f
always_true false j e f = absurd (cc)

module _ (d : MarksDevice) (o : OpenEntry) (running : d.history.running ≡ Some o) (gone : has_loss o.acts ≡ true) (none : unserved d.history ≡ 0) where
  checked_served : (e : CommandEnd) → unserved (checked_in d.history e d.history.running) ≡ 0
  checked_served e =
      subst (λ (r : Option OpenEntry). unserved (checked_in d.history e r) ≡ 0) (sym running)
      (count_more is_unserved d.history.items (entry_of (with_end o e) Checked ∷ resets_of d.history.waiting)
      (not_both _ (has_loss o.acts) gone, resets_served d.history.waiting) ∙ none)

  by_served : (s : MarksStore) (r : Option OpenEntry) → r ≡ Some o → (k : Option ChainState) →
      Always (command_by by_plain (record (event_begun d) { store = s }) r k) (λ y (a : Option Stepped). unserved y.history ≡ 0)
  by_served s (Some p) e (Some chain) =
      always_true (has_loss p.acts) _ (let same : p ≡ o = cc in ap (λ (x : OpenEntry). has_loss x.acts) same ∙ gone)
      (always_done (checked_served (end_with chain (settled_by chain Equipment))))
  by_served s (Some p) e None = always_done none
  by_served s None e k = absurd (cc)

  pub command_served : Always (command by_plain d) (λ y (a : Option Stepped). unserved y.history ≡ 0)
  unfolding N.command
  command_served =
      always_try (λ ok. always_if ok
      (always_then {p = λ (y : MarksDevice) (a : Option Stepped). unserved y.history ≡ 0}
      (always_then (always_any (hear by_plain 960 (event_begun d).store)) (λ s _ _. by_served s d.history.running running d.chain))
      (λ y a g. always_then (always_any (noted_end by_plain (waiting_count by_plain d.store) y.store)) (λ z _ _. always_done g)))
      (always_done none))

-- Where everything is repaired

and_left : (x y : Bool) → (x && y) ≡ true → x ≡ true
and_left true y e = refl
and_left false y e = absurd (cc)

and_right : (x y : Bool) → (x && y) ≡ true → y ≡ true
and_right true y e = e
and_right false y e = absurd (cc)

is_off : (b : Bool) → not b ≡ true → b ≡ false
is_off true e = absurd (cc)
is_off false e = refl

neither_a : (x y z : Bool) → ((x || y) && not z) ≡ false → z ≡ false → x ≡ false
neither_a true y z e f = absurd (cc)
neither_a false y z e f = refl

neither_b : (x y z : Bool) → ((x || y) && not z) ≡ false → z ≡ false → y ≡ false
neither_b true y z e f = absurd (cc)
neither_b false y z e f = sym (ap (λ (b : Bool). y && not b) f ∙ as_is y) ∙ e where
  as_is : (b : Bool) → (b && true) ≡ b
  as_is true = refl
  as_is false = refl

half_track : (o : Option (HalfWrite (Unit {0}))) (q : ℕ) → half_is o q ≡ true → option_map (λ (h : HalfWrite (Unit {0})). h.track) o ≡ Some q
half_track (Some h) q e = ap (λ (t : ℕ). Some t) (eqb-true h.track q e)
half_track None q e = absurd (cc)

module _ (d : MarksDevice) (w : IsWell by_plain d.store) (x : Steady (core_of d.store)) (home : is_some d.store.lent ≡ false)
    (whole : is_whole_device d ≡ true) where
  whole_sides : has_whole_sides d.store ≡ true
  whole_sides =
      ap (λ (b : Bool). b || has_whole_sides d.store) (sym home)
      ∙ and_right (waiting_count by_plain d.store == 0) (is_some d.store.lent || has_whole_sides d.store) whole

  up_and_free : (has_all_sides d.store && not d.store.held) ≡ true
  up_and_free = and_left (has_all_sides d.store && not d.store.held) _ whole_sides

  all_sides : has_all_sides d.store ≡ true
  all_sides = and_left (has_all_sides d.store) (not d.store.held) up_and_free

  pub whole_a : d.store.a.up ≡ true
  whole_a = and_left d.store.a.up (d.store.b.up || not d.store.paired) all_sides

  pub whole_b : d.store.paired ≡ true → d.store.b.up ≡ true
  whole_b paired = up_by d.store.b.up d.store.paired paired (and_right d.store.a.up (d.store.b.up || not d.store.paired) all_sides) where
    up_by : (b p : Bool) → p ≡ true → (b || not p) ≡ true → b ≡ true
    up_by true p e f = refl
    up_by false true e f = absurd (cc)
    up_by false false e f = absurd (cc)

  pub whole_free : d.store.held ≡ false
  whole_free = is_off d.store.held (and_right (has_all_sides d.store) (not d.store.held) up_and_free)

  not_behind : (q : ℕ) → q < tracks_of d.store → is_behind d.store q ≡ false
  not_behind q lt =
      none_below (tracks_of d.store) (is_behind d.store)
      (is_off (is_some (least (tracks_of d.store) (is_behind d.store)))
      (and_right (has_all_sides d.store && not d.store.held) (not (is_some (least (tracks_of d.store) (is_behind d.store)))) whole_sides)) q lt

  -- side A has each track, and side B each that isn't half written

  a_by : (q : ℕ) (b : Bool) → half_is d.store.half q ≡ b → q < tracks_of d.store → stale_at d.store.a q ≡ false
  a_by q true is lt = x.half q (half_track d.store.half q is) whole_a
  a_by q false none lt = neither_a (stale_at d.store.a q) (stale_at d.store.b q) (half_is d.store.half q) (not_behind q lt) none

  pub whole_level : (q : ℕ) → stale_at d.store.a q ≡ false
  whole_level q = by_place (cases_lt q (tracks_of d.store)) where
    long : length d.store.a.stale ≡ tracks_of d.store
    long = cc (w.sizes.are)

    by_place : ((q < tracks_of d.store) ⊎ (tracks_of d.store ≤ q)) → stale_at d.store.a q ≡ false
    by_place (inl lt) = a_by q (half_is d.store.half q) refl lt
    by_place (inr le) = get_or_past d.store.a.stale q false (let same = long in omega (arith, same, le))

  pub whole_level_b : (q : ℕ) → half_is d.store.half q ≡ false → stale_at d.store.b q ≡ false
  whole_level_b q none = by_place (cases_lt q (tracks_of d.store)) where
    long : length d.store.b.stale ≡ tracks_of d.store
    long = cc (w.sizes.are)

    by_place : ((q < tracks_of d.store) ⊎ (tracks_of d.store ≤ q)) → stale_at d.store.b q ≡ false
    by_place (inl lt) = neither_b (stale_at d.store.a q) (stale_at d.store.b q) (half_is d.store.half q) (not_behind q lt) none
    by_place (inr le) = get_or_past d.store.b.stale q false (let same = long in omega (arith, same, le))

  pub whole_on_a : IsWholeOnA d.store
  whole_on_a = record { up = whole_a; level = whole_level; kept = x.kept }

  pub whole_side_a : d.store.paired ≡ true → OnSideA (sides_of d.store)
  whole_side_a paired = record { paired = paired; up = whole_a; level = whole_level; kept = x.kept }

  pub whole_both : d.store.paired ≡ true → d.store.half ≡ None → OnBoth None (sides_of d.store)
  whole_both paired none = record {
    paired = paired;
    up_a = whole_a;
    up_b = whole_b paired;
    free = whole_free;
    a = λ q e. whole_level q;
    b = λ q e. whole_level_b q (ap (λ (o : Option (HalfWrite (Unit {0}))). half_is o q) none);
    kept = x.kept;
  }

  pub whole_somewhere : d.store.paired ≡ true → (q : ℕ) → IsSomewhere by_plain (fallen_a (sides_of d.store)) q
  whole_somewhere paired q = by_half (half_is d.store.half q) refl where
    by_half : (b : Bool) → half_is d.store.half q ≡ b → IsSomewhere by_plain (fallen_a (sides_of d.store)) q
    by_half true is = inr is
    by_half false none = inl (up_level d.store.b.up (stale_at d.store.b q) (whole_b paired) (whole_level_b q none))

  -- no track waits, so each with a patch has a frame

  none_waits : (q : ℕ) → q < tracks_of d.store → waits by_plain d.store q ≡ false
  none_waits q lt =
      none_counted (tracks_of d.store) (waits by_plain d.store)
      (eqb-true (waiting_count by_plain d.store) 0 (and_left (waiting_count by_plain d.store == 0)
      (is_some d.store.lent || has_whole_sides d.store) whole)) q lt

  not_waiting : (l p : Bool) → l ≡ false → p ≡ true → (not l && p) ≡ false → ⊥
  not_waiting true p e f g = cc
  not_waiting false true e f g = cc
  not_waiting false false e f g = cc

  framed_at : (q : ℕ) → q < tracks_of d.store → (f : Option Bool) → frame_at d.store q ≡ f → is_some (patch_at d.store q) ≡ true → is_some f ≡ true
  unfolding O.waits
  framed_at q lt (Some m) e patched = refl
  framed_at q lt None e patched =
      absurd (not_waiting (is_lost d.store q) (is_some (patch_at d.store q)) (x.kept q) patched
      (ap (λ (f : Option Bool). not (is_lost d.store q) && waits_by by_plain d.store q f) (sym e) ∙ none_waits q lt))

  clean_bare : (f : Option Bool) (p l o h v : Bool) → l ≡ false → h ≡ false → is_clean by_plain f ≡ true →
      is_good (marks (frame_mark by_plain f) p l o h v) ≡ true →
      p ≡ false
  clean_bare f false l o h v e g clean good = refl
  clean_bare f true true o h v e g clean good = absurd (cc)
  clean_bare f true false o true v e g clean good = absurd (cc)
  clean_bare None true false o false v e g clean good = absurd (cc)
  clean_bare (Some true) true false o false v e g clean good = absurd (cc)
  clean_bare (Some false) true false o false true e g clean good = absurd (cc)
  clean_bare (Some false) true false o false false e g clean good = absurd (cc)

  clean_at : (q : ℕ) → q < tracks_of d.store → half_is d.store.half q ≡ false → is_clean by_plain (frame_at d.store q) ≡ true →
      is_some (patch_at d.store q) ≡ false
  unfolding M.track_at
  clean_at q lt none clean =
      clean_bare (frame_at d.store q) (is_some (patch_at d.store q)) (is_lost d.store q) (is_loose d.store q) (half_is d.store.half q) (has_level d.store q)
      (x.kept q) none clean (w.good q lt)

  pub whole_frames : HasFrames by_plain (plates_of d.store)
  whole_frames = record {
    framed = λ q none patched. framed q patched (cases_lt q (tracks_of d.store));
    clean = λ q none clean. clean_by q none clean
        (cases_lt q (tracks_of d.store));
  } where
    patches_long : length d.store.patches ≡ tracks_of d.store
    patches_long = cc (w.sizes.are)

    frames_long : length d.store.frames ≡ tracks_of d.store
    frames_long = cc (w.sizes.are)

    framed : (q : ℕ) → is_some (patch_at d.store q) ≡ true → ((q < tracks_of d.store) ⊎ (tracks_of d.store ≤ q)) → is_some (frame_at d.store q) ≡ true
    framed q patched (inl lt) = framed_at q lt (frame_at d.store q) refl patched
    framed q patched (inr le) =
        let past = get_or_past d.store.patches q None (let same = patches_long in omega (arith, same, le)) in
        absurd (let both : false ≡ true = sym (ap (λ (p : Option (Unit {0})). is_some p) past) ∙ patched in cc)

    clean_by : (q : ℕ) → half_is d.store.half q ≡ false → is_clean by_plain (frame_at d.store q) ≡ true →
        ((q < tracks_of d.store) ⊎ (tracks_of d.store ≤ q)) → is_some (patch_at d.store q) ≡ false
    clean_by q none clean (inl lt) = clean_at q lt none clean
    clean_by q none clean (inr le) =
        let past = get_or_past d.store.frames q None (let same = frames_long in omega (arith, same, le)) in
        absurd (let both : false ≡ true = sym (ap (λ (f : Option Bool). is_clean by_plain f) past) ∙ clean in cc)
