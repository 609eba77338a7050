-- A bay of volumes in memory is one that hands out empty volumes.
use Rattle.std.proofs.Common.{◌≡◌, ◌<◌, ◌≤◌, ◌∙◌, ◌+◌, ◌++◌, ◌∷◌, [], ℕ, Bool, true, false, List, Option, Some, None, length, map, refl, sym, ap, subst, arith, ◌⊎◌, inl, inr}
use Rattle.std.specs.Prelude.{if◌then◌else◌, slice_index_or}
use Rattle.std.proofs.lemmas.Bool.{cases_lt}
use Rattle.std.proofs.lemmas.List.{get_or_past, length-map}
use Rattle.std.proofs.lemmas.Option.{none-some, same_Some}
use Rattle.ckd_types.specs.Volume.{empty_volume}
use Rattle.deck_text.specs.declared.line.DeviceLine.{DeviceLine}
use Rattle.deck_text.specs.DeckLines.{DeckLines}
use Rattle.device_laws.specs.NewDevice.{volume_contents}
use Rattle.device_laws.proofs.NewDevices.{empty_is_contents}
use Rattle.device_outside.specs.Bay as bays
use Rattle.device_outside.specs.Bay.{Bay, spoil_all}
use Rattle.device_outside.specs.Both.{SideIs}
use Rattle.device_outside.specs.declared.bay.Spoiled.{Spoiled}
use Rattle.device_outside.specs.declared.bay.Taken.{Taken}
use Rattle.device_outside.specs.Disk.{Disk, disk_view, new_disk}
use Rattle.device_outside.specs.Volume.{Plan, VolumeView}
use Rattle.plain_device.proofs.Wholes.{volume_empty}
use Rattle.promise_laws.specs.Kept.{KeepsWrites, KeepsWritesOn}
use Rattle.promise_laws.proofs.KeptRuns.{on_empty}
use Rattle.subsystem_defs.specs.Closing.{HandedOut}
use Rattle.subsystem_defs.specs.Decks.{Firsts, empty_firsts, run_of}
use Rattle.subsystem_defs.specs.Subsystem.{new_calls}
use Rattle.subsystem_laws.proofs.PlainRuns.{empty_whole}
use Rattle.subsystem_laws.proofs.Walks.{behind_weaker}
use Rattle.deck_top.specs.declared.task.Task.{Task}
use Rattle.deck_top.specs.declared.task.Task.TheVariants.{Run, Check, Generate}
use Rattle.deck_top.specs.declared.top.Status.{Status}
use Rattle.deck_top.specs.Answers.{IsOutput, IsOutputOn, Ran, RanOn, RunsAsPromised, RunsAsPromisedOn, Tells, TellsOn}
use Rattle.deck_top.specs.Bays.{Back, BeginsOn, HandsOut, back_of, memory_view}
use Rattle.deck_top.specs.Handed.{AreHandedBack, AreHandedOut, HoldsBytes, IsHandedBack, IsHandedOut, IsKnownAs, TakesBack, TakesBackOn}
use Rattle.deck_top.proofs.OverBays.{tells_too}

-- What it hands out

same_firsts : (a b : Firsts) → Some a ≡ Some b → a ≡ b
same_firsts a b e = same_Some a b e

empty_begins : (d : DeviceLine) (plan : Plan) (v : VolumeView (List ℕ)) → d.cylinders ≤ 4369 → v ≡ disk_view (new_disk d.cylinders plan.reads plan.writes) →
    BeginsOn empty_firsts d plan v
empty_begins d plan v most is = record {
  fits = volume_empty d.geometry d.cylinders most;
  tells = subst (λ (x : VolumeView (List ℕ)). SideIs x (volume_contents (empty_volume d.cylinders)) (new_calls plan)) (sym is)
      (record { contents = ap (λ (l : List (List ℕ)). Some l) (empty_is_contents d.cylinders); reads = refl; writes = refl; plan = refl });
}

none_spoiled : (spoiled : List Spoiled) (d : ℕ) (disk : Disk) → spoiled ≡ [] → spoil_all spoiled d disk ≡ disk
unfolding bays.spoil_all
none_spoiled spoiled d disk none = ap (λ (l : List Spoiled). spoil_all l d disk) none

-- where no track is spoiled
pub memory_begins : (b : Bay) (firsts : Firsts) (d : DeviceLine) (reads writes : List ℕ) (v : Disk) → d.cylinders ≤ 64 →
    v ≡ spoil_all b.spoiled d.number (new_disk d.cylinders reads writes) → HandsOut (memory_view b) firsts →
    BeginsOn firsts d (record { reads = reads; writes = writes }) (disk_view v)
memory_begins b firsts d reads writes v most is hands =
    subst (λ (f : Firsts). BeginsOn f d (record { reads = reads; writes = writes }) (disk_view v)) (same_firsts empty_firsts firsts hands.told)
    (empty_begins d (record { reads = reads; writes = writes }) (disk_view v) (omega (arith, most))
    (ap disk_view (is ∙ none_spoiled b.spoiled d.number (new_disk d.cylinders reads writes) hands.whole)))

pub one_more_made : (b c : Bay) → c ≡ record b { made = b.made + 1 } → memory_view c ≡ record (memory_view b) { made = (memory_view b).made + 1 }
one_more_made b c is = ap memory_view is

-- What it takes back

told_tracks : (spoiled : Bool) (tracks held : List (List ℕ)) → (if spoiled then None else Some tracks) ≡ Some held → tracks ≡ held
told_tracks true tracks held e = absurd (none-some held e)
told_tracks false tracks held e = same_Some tracks held e

-- what is so of the tracks that there are is so of any
pub held_so_far : (tracks : List (List ℕ)) (n : ℕ) → length tracks ≤ n →
    ((t i : ℕ) → t < n → slice_index_or (slice_index_or tracks t []) i 0 < 256) →
    (t i : ℕ) → t < 65535 → slice_index_or (slice_index_or tracks t []) i 0 < 256
held_so_far tracks n past are t i lt = by_place (cases_lt t n) where
  by_place : (t < n) ⊎ (n ≤ t) → slice_index_or (slice_index_or tracks t []) i 0 < 256
  by_place (inl before) = are t i before
  by_place (inr behind) = subst (λ (l : List ℕ). slice_index_or l i 0 < 256) (sym (get_or_past tracks t [] (omega (arith, past, behind)))) (omega arith)

pub told_bytes : (v : Disk) → ((t i : ℕ) → t < 65535 → slice_index_or (slice_index_or v.tracks t []) i 0 < 256) → HoldsBytes (disk_view v)
told_bytes v are = λ held told t i lt.
    subst (λ (l : List (List ℕ)). slice_index_or (slice_index_or l t []) i 0 < 256) (told_tracks v.spoiled v.tracks held told) (are t i lt)

long_back : (b : Bay) → length (memory_view b).taken ≡ length b.taken
long_back b = length-map b.taken back_of

pub room_back : (b : Bay) → length (memory_view b).taken < (memory_view b).made → length b.taken < b.made
room_back b room = subst (λ (n : ℕ). n < b.made) (long_back b) room

pub number_back : (b : Bay) (n : ℕ) → n ≡ length b.taken → n ≡ length (memory_view b).taken
number_back b n is = is ∙ sym (long_back b)

pub most_back : (b : Bay) → length b.taken ≤ b.made → length (memory_view b).taken ≤ (memory_view b).made
most_back b most = subst (λ (n : ℕ). n ≤ b.made) (sym (long_back b)) most

pub one_more_back : (b c : Bay) (t : Taken) → c ≡ record b { taken = b.taken ++ t ∷ [] } →
    memory_view c ≡ record (memory_view b) { taken = map back_of b.taken ++ back_of t ∷ [] }
one_more_back b c t is =
    ap memory_view is ∙ ap (λ (l : List (Back Disk)). record (memory_view b) { taken = l }) (go b.taken)
  where
    go : (ts : List Taken) → map back_of (ts ++ t ∷ []) ≡ map back_of ts ++ back_of t ∷ []
    go [] = refl
    go (s ∷ ts) = ap (λ (l : List (Back Disk)). back_of s ∷ l) (go ts)

abbrev taken_by : Back Disk → Taken
taken_by x = record { device = x.device; side = x.side; volume = x.volume }

same_taken : (ts : List Taken) → map taken_by (map back_of ts) ≡ ts
same_taken [] = refl
same_taken (t ∷ ts) = ap (λ (l : List Taken). t ∷ l) (same_taken ts)

both_taken : (xs ys : List (Back Disk)) → map taken_by (xs ++ ys) ≡ map taken_by xs ++ map taken_by ys
both_taken [] ys = refl
both_taken (x ∷ xs) ys = ap (λ (l : List Taken). taken_by x ∷ l) (both_taken xs ys)

-- it took back what it had
pub taken_same : (b c : Bay) → (memory_view c).taken ≡ (memory_view b).taken → c.taken ≡ b.taken
taken_same b c is = sym (same_taken c.taken) ∙ ap (map taken_by) is ∙ same_taken b.taken

one_out : (t : Back Disk) (h : HandedOut) → IsHandedBack disk_view t h → IsHandedOut (taken_by t) h
one_out t h back = record {
  device = back.device;
  side = back.side;
  reads = back.reads;
  writes = back.writes;
  tracks = λ n. subst (λ (l : List (List ℕ)). IsKnownAs (slice_index_or l n []) (slice_index_or h.tracks n None))
      (sym (told_tracks t.volume.spoiled t.volume.tracks back.held back.told)) (back.tracks n);
}

all_out : (ts : List (Back Disk)) (hs : List HandedOut) → AreHandedBack disk_view ts hs → AreHandedOut (map taken_by ts) hs
all_out [] [] back = tt
all_out [] (h ∷ hs) back = absurd back
all_out (t ∷ ts) [] back = absurd back
all_out (t ∷ ts) (h ∷ hs) back = (one_out t h back.0, all_out ts hs back.1)

takes_back : (d : DeckLines) (old new : Bay) → TakesBackOn disk_view d (memory_view old) (memory_view new) → TakesBack d old new
takes_back d old new back = record {
  more = map taken_by back.more;
  taken =
      sym (same_taken new.taken) ∙ ap (map taken_by) back.taken ∙ both_taken (map back_of old.taken) back.more
      ∙ ap (λ (l : List Taken). l ++ map taken_by back.more) (same_taken old.taken);
  number = length-map back.more taken_by ∙ back.number;
  are = λ none. all_out back.more _ (back.are empty_firsts (record { told = refl; whole = none }));
}

-- What is promised on empty volumes is what is promised of the deck

pub promised_on_empty : (d : DeckLines) → RunsAsPromisedOn empty_firsts d → RunsAsPromised d
promised_on_empty d p = record {
  shown = p.shown;
  promised = p.promised;
  fast = p.fast;
  origins = p.origins;
  kept = behind_weaker (KeepsWritesOn empty_firsts) KeepsWrites on_empty (run_of d).events p.kept;
  transfers = p.transfers;
}

-- So is what an answer says

writes_too : (old : Bay) (task : Task) (d : DeckLines) (text : List ℕ) → IsOutputOn (memory_view old) task d text → IsOutput old.spoiled task d text
writes_too old Run d text out = λ none. out empty_firsts (record { told = refl; whole = none })
writes_too old Check d text out = λ none. out empty_firsts (record { told = refl; whole = none })
writes_too old (Generate seed count) d text out = λ none. out empty_firsts (record { told = refl; whole = none })

ran_too : (old new : Bay) (d : DeckLines) → RanOn disk_view (memory_view old) (memory_view new) d → Ran old new d
ran_too old new d ran = record {
  promised = promised_on_empty d (ran.promised empty_firsts empty_whole);
  volumes = takes_back d old new ran.volumes;
}

pub empty_tells : (status : Status) (task : Option Task) (old new : Bay) (before after held holds : Option (List ℕ)) →
    TellsOn disk_view (memory_view old) (memory_view new) status task before after held holds → Tells status task old new before after held holds
empty_tells status task old new before after held holds told =
    tells_too (IsOutputOn (memory_view old)) (IsOutput old.spoiled) (RanOn disk_view (memory_view old) (memory_view new)) (Ran old new)
    (writes_too old) (ran_too old new) held holds before after status task told
