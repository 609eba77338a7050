-- A device of a run that isn't lent: its plain volume is one, and its marks are sound.
use Rattle.std.proofs.Common.{◌≡◌, ◌∙◌, ◌<◌, ◌&&◌, ◌||◌, not, ℕ, Bool, true, false, List, [], Option, Some, None, is_some, refl, sym, ap, subst}
use Rattle.std.specs.Prelude.{IfSome, if◌then◌else◌, option_map}
use Rattle.std.proofs.lemmas.Option.{none-some}
use Rattle.ckd_types.specs.declared.record.Track.{Track}
use Rattle.ckd_types.specs.Volume.{IsVolume}
use Rattle.track_cache.specs.declared.frames.Frame.{Frame}
use Rattle.deck_text.specs.DeckLines.{DeckLines}
use Rattle.plain_defs.specs.PlainState.{PlainState}
use Rattle.device_outside.specs.Pool.{Pool}
use Rattle.device_defs.specs.Contents.{contents, by_plain}
use Rattle.device_defs.specs.Marks.{frame_mark, marks_of}
use Rattle.device_defs.specs.Owed.{is_modified, is_clean}
use Rattle.device_defs.specs.Sound.{DeviceStore, has_sound_marks}
use Rattle.device_defs.specs.Store.{tracks_of, has_level, frame_at, patch_at, is_lost, is_loose, half_is}
use Rattle.device_laws.specs.InOrder.{IsInOrder}
use Rattle.device_laws.specs.Lent.{in_order, is_away}
use Rattle.device_laws.proofs.PlainStores.{IsOf, core_of}
use Rattle.device_laws.proofs.TwinChanges.{frame_twin, has_patch_twin, half_twin}
use Rattle.plain_defs.specs.History.{plain_of}
use Rattle.subsystem_defs.specs.Decks.{AreWhole, Firsts, run_on}
use Rattle.subsystem_defs.specs.Subsystem.{Mounted, mounted_in}
use Rattle.subsystem_laws.specs.Served.{IsServedDeck}
use Rattle.subsystem_laws.specs.WholeStood.{Stood, AreMounted, IsMounted, is_mounted}
use Rattle.subsystem_laws.proofs.PlainRuns.{PlainlyFrom, plain_behind_on}
use Rattle.subsystem_laws.proofs.Walks.{mounted_so}
use Rattle.subsystem_laws.proofs.WholeFinding.{Found, none_found, both_found, find}
use Rattle.volume_save.specs.Saving.{plain_tracks}

some_same : {X : Type 0} {x y : X} → Some x ≡ Some y → x ≡ y
some_same e = cc

not_both : (b : Bool) → b ≡ true → b ≡ false → ⊥
not_both true p q = cc
not_both false p q = cc

-- Marks say the same as what they stand for

marks_by : (o : Option Frame) (l h v p q : Bool) →
    (if l then not (is_some (option_map frame_mark o)) && not p && not q
    else if h then not q
    else (not (is_clean by_plain (option_map frame_mark o)) || (v && not p && not q)) && (is_some (option_map frame_mark o) || v)
    && (not q || (is_modified by_plain (option_map frame_mark o) && not p && v)))
    ≡ (if l then not (is_some o) && not p && not q
    else if h then not q
    else (not (is_clean contents o) || (v && not p && not q)) && (is_some o || v) && (not q || (is_modified contents o && not p && v)))
marks_by None l h v p q = refl
marks_by (Some f) l h v p q = refl

marks_twin : (v w : List Track) (s : DeviceStore) (t : ℕ) → has_sound_marks by_plain (marks_of v w s) t ≡ has_sound_marks contents s t
marks_twin v w s t =
    rw (frame_twin v w s t, has_patch_twin v w s t, half_twin v w s t)
    (marks_by (frame_at s t) (is_lost s t) (half_is s.half t) (has_level s t) (is_some (patch_at s t)) (is_loose s t))

pub record InRun (m : Mounted) : Type 0 where
  pub plain : IsVolume m.device.store.geometry m.device.store.cylinders m.device.store.plain
  pub marks : (t : ℕ) → t < tracks_of m.device.store → has_sound_marks by_plain m.device.store t ≡ true

in_run : {mine : List ℕ} {x : Stood} {m : Mounted} → IsMounted mine x m → is_some m.device.store.lent ≡ false → InRun m
in_run (is_mounted d v w h on_a on_b a b (in_order i) slots told_a told_b) home = record {
  plain = i.agrees.ground.plain;
  marks = λ t lt. marks_twin v w d.store t ∙ i.marks t lt;
}
in_run (is_mounted d v w h on_a on_b a b (is_away l) slots told_a told_b) home = absurd (not_both (is_some d.store.lent) l.store.lent home)

found_run : (used taken : List ℕ) (xs : List Stood) (ms : List Mounted) (n : ℕ) (m : Mounted) → Found used taken xs ms n → mounted_in ms n ≡ Some m →
    is_some m.device.store.lent ≡ false → InRun m
found_run used taken xs ms n m (none_found s t) there home = absurd (none-some m (sym t ∙ there))
found_run used taken xs ms n m (both_found x k mine others s t is shared number put) there home =
    let same : k ≡ m = some_same (sym t ∙ there) in
    subst InRun same (in_run is (subst (λ (z : Mounted). is_some z.device.store.lent ≡ false) (sym same) home))

pub stands_in_run : (p : Pool) (xs : List Stood) (ms : List Mounted) (n : ℕ) (m : Mounted) → AreMounted p xs ms → mounted_in ms n ≡ Some m →
    is_some m.device.store.lent ≡ false → InRun m
stands_in_run p xs ms n m all there home = found_run p.used [] xs ms n m (find p.used [] xs ms n all) there home

-- Behind the run of a deck the plain volume is that of the plain device of the history

of_plainly : (firsts : Firsts) (m : Mounted) → PlainlyFrom firsts m.device → plain_tracks firsts m.device ≡ m.device.store.plain
of_plainly firsts m p =
    (subst (λ (x : PlainState). IsOf (plain_of m.device.plans x m.device.history) (core_of m.device.store)) p.base p.follows.of).volume

pub plain_after : (firsts : Firsts) → AreWhole firsts → (deck : DeckLines) (n : ℕ) (m : Mounted) → IsServedDeck deck →
    mounted_in (run_on firsts deck).behind.mounted n ≡ Some m → plain_tracks firsts m.device ≡ m.device.store.plain
plain_after firsts whole deck n m served there =
    of_plainly firsts m (subst (λ (o : Option Mounted). IfSome o (λ z. PlainlyFrom firsts z.device)) there
    (mounted_so (PlainlyFrom firsts) (run_on firsts deck).behind.mounted n (plain_behind_on firsts whole deck served)))
