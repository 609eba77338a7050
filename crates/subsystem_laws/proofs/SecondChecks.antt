-- The other part of a write ends with no equipment check where side A is up and has each track, and no call fails; nor does anything of itself.
use Rattle.std.proofs.Common.{◌≡◌, ◌≤◌, ◌+◌, ℕ, Bool, true, false, List, [], ◌∷◌, Option, Some, None, refl, sym, ◌∙◌, arith, ◌⊎◌, inr}
use Rattle.std.specs.List.{fold}
use Rattle.std.specs.Prelude.{if◌then◌else◌}
use Rattle.ckd_chain.specs.State.{ChainState}
use Rattle.plain_defs.specs.declared.journal.Acted.{Acted}
use Rattle.plain_defs.specs.History.{OpenEntry}
use Rattle.track_image.specs.Image.{Image}
use Rattle.device_outside.specs.Interaction.{Interaction, Done}
use Rattle.device_defs.specs.declared.answers.Did.{Did}
use Rattle.device_defs.specs.Background.{work}
use Rattle.device_defs.specs.Command.{is_loss, has_loss}
use Rattle.device_defs.specs.Contents.{by_plain}
use Rattle.device_defs.specs.Device.{with_store, event_begun, event_ended}
use Rattle.device_defs.specs.Events as E
use Rattle.device_defs.specs.Events.{second_turn, command_ended, second_ended, second_of, second, background}
use Rattle.device_defs.specs.Marks.{MarksDevice, MarksStore}
use Rattle.device_defs.specs.Owed.{hear, waiting_count, noted_end}
use Rattle.device_defs.specs.Second as D
use Rattle.device_defs.specs.Second.{half_closed, half_image_of, finished, second_done, second_by, second_part}
use Rattle.device_defs.specs.Store.{Origin, OfCommand, OfCut, OfBackground, HalfWrite, takes_b, has_level, stale_at, level_at}
use Rattle.device_defs.specs.Writing.{write_done}
use Rattle.device_laws.specs.Unharmed.{IsWholeOnA, RunsUnharmed, running_losses}
use Rattle.device_laws.proofs.Always.{Always, always_done, always_then}
use Rattle.device_laws.proofs.KeptEvents.{always_any}
use Rattle.device_laws.proofs.LossLaws.{whole_behind}
use Rattle.device_laws.proofs.Lucky.{Lucky, lucky_done, lucky_tell, lucky_then, lucky_if}
use Rattle.device_laws.proofs.TrackMarks.{marks_are_faithful}
use Rattle.device_laws.proofs.Unchecked.{lucky_any}
use Rattle.device_laws.proofs.UncheckedEvents.{equipment_checks, turned_has, acts_same}
use Rattle.device_laws.proofs.Unlost.{has_a}
use Rattle.device_laws.proofs.UnlostParts.{hear_goes, tried_lucky}

finished_done : (s : MarksStore) (t : ℕ) (i : Image) (bypass : Bool) → Lucky (λ z a. a ≡ true) (finished by_plain s t i bypass)
finished_done s t i bypass = lucky_then (λ z _. Done z true) (lucky_any (write_done by_plain s t i bypass)) (λ z _ _. lucky_done refl)

pub done_by : (s : MarksStore) (t : ℕ) (i : Image) (origin : Origin) → Lucky (λ z a. a ≡ true) (second_done by_plain s t i origin)
done_by s t i (OfCommand bypass e) = lucky_tell (λ r. finished_done _ t i bypass)
done_by s t i (OfCut bypass) = finished_done s t i bypass
done_by s t i OfBackground = finished_done s t i false

-- where side B takes writes, or some side has the track
pub part_done : (s : MarksStore) (h : HalfWrite (Unit {0})) → (takes_b s ≡ true) ⊎ (has_level s h.track ≡ true) →
    Lucky (λ z a. a ≡ true) (second_part by_plain s h)
unfolding D.second_part
part_done s h tried =
    lucky_then (λ z _. second_by by_plain h.track (half_image_of by_plain s h) h.origin z)
    (tried_lucky by_plain marks_are_faithful s h.track (by_plain.bytes (half_image_of by_plain s h)) tried)
    (λ z _ g. lucky_if (has_level z h.track) (λ _. done_by (half_closed z) h.track (half_image_of by_plain s h) h.origin)
    (λ none. absurd (let both : true ≡ false = sym g.1 ∙ none in cc)))

module _ (n : ℕ) where
  abbrev Holds : {A : Type 0} → Interaction Bool Image MarksDevice A → Type 0
  Holds i = Lucky (λ e _. equipment_checks e.history ≡ n) i

  turned_so : (d : MarksDevice) (t : ℕ) (path : ℕ) (chain : ChainState) (done : Bool) → done ≡ true → equipment_checks d.history ≡ n →
      Holds (command_ended by_plain d t (Some (record { path = path; ordinal = 0; ends = []; acts = [] })) (Some chain) done)
  turned_so d t path chain true is f = lucky_done (turned_has n d path (second_turn by_plain chain true).chain (second_turn by_plain chain true).came tt f)
  turned_so d t path chain false is f = absurd (cc)

  ended_so : (d : MarksDevice) (t : ℕ) (o : Option OpenEntry) (k : Option ChainState) (done : Bool) → done ≡ true → equipment_checks d.history ≡ n →
      Holds (command_ended by_plain d t o k done)
  ended_so d t (Some o) (Some chain) done is f = turned_so d t o.path chain done is f
  ended_so d t (Some o) None done is f = lucky_done f
  ended_so d t None k done is f = lucky_done f

  pub end_so : (d : MarksDevice) (t : ℕ) (origin : Origin) (done : Bool) → done ≡ true → equipment_checks d.history ≡ n →
      Holds (second_ended by_plain d t origin done)
  end_so d t (OfCommand bypass e) done is f = ended_so d t d.history.running d.chain done is f
  end_so d t (OfCut bypass) done is f = lucky_done f
  end_so d t OfBackground done is f = lucky_done f

  of_half_so : (d : MarksDevice) (o : Option (HalfWrite (Unit {0}))) → IsWholeOnA d.store → equipment_checks d.history ≡ n → Holds (second_of by_plain d o)
  of_half_so d (Some h) whole f =
      lucky_then (λ s done. second_ended by_plain (with_store d s) h.track h.origin done)
      (part_done d.store h (inr (has_a d.store.a.up (stale_at d.store.a h.track) (level_at d.store.b h.track) whole.up (whole.level h.track))))
      (λ s done is. end_so (with_store d s) h.track h.origin done is (acts_same d.history s.acts ∙ f))
  of_half_so d None whole f = lucky_done f

  pub second_unchecked : (d : MarksDevice) → IsWholeOnA d.store → equipment_checks d.history ≡ n → Holds (second by_plain d)
  unfolding E.second
  second_unchecked d whole f =
      lucky_then (event_ended by_plain d)
      (lucky_then (λ s _. second_of by_plain (record (event_begun d) { store = s }) s.half) (hear_goes by_plain 960 (event_begun d).store)
      (λ s _ g. of_half_so (record (event_begun d) { store = s }) s.half (whole_behind d.store s g whole) f))
      (λ y a h. lucky_then (λ z _. Done (record y { store = z }) a) (lucky_any (noted_end by_plain (waiting_count by_plain d.store) y.store))
      (λ z _ _. lucky_done h))

  pub background_unchecked : (d : MarksDevice) → equipment_checks d.history ≡ n → Always (background by_plain d) (λ e _. equipment_checks e.history ≡ n)
  unfolding E.background
  background_unchecked d f =
      always_then {p = λ (y : MarksDevice) _. equipment_checks y.history ≡ n}
      (always_then (always_any (hear by_plain 960 (event_begun d).store))
      (λ s _ _. always_then (always_any (work by_plain s)) (λ z (did : Option Did) _. always_done (acts_same d.history z.acts ∙ f))))
      (λ y a g. always_then (always_any (noted_end by_plain (waiting_count by_plain d.store) y.store)) (λ z _ _. always_done g))

-- No data of its program were lost

abbrev count_acts : ℕ → List Acted → ℕ
count_acts m acts = fold (λ (k : ℕ) (a : Acted). k + (if is_loss a.act then 1 else 0)) m acts

grows : (m : ℕ) (acts : List Acted) → m ≤ count_acts m acts
grows m [] = omega arith
grows m (a ∷ acts) = let more = grows (m + (if is_loss a.act then 1 else 0)) acts in by_loss (is_loss a.act) more where
  by_loss : (b : Bool) → m + (if b then 1 else 0) ≤ count_acts (m + (if b then 1 else 0)) acts → m ≤ count_acts (m + (if b then 1 else 0)) acts
  by_loss true le = omega (arith, le)
  by_loss false le = omega (arith, le)

loss_if : (n m : ℕ) (acts : List Acted) (b : Bool) → count_acts (m + (if b then 1 else 0)) acts ≡ n → n ≤ m →
    ((k : ℕ) → count_acts k acts ≡ n → n ≤ k → has_loss acts ≡ false) → (if b then true else has_loss acts) ≡ false
loss_if n m acts true is le more = absurd (let up = grows (m + 1) acts in omega (arith, up, is, le))
loss_if n m acts false is le more = more (m + 0) is (omega (arith, le))

no_loss : (n m : ℕ) (acts : List Acted) → count_acts m acts ≡ n → n ≤ m → has_loss acts ≡ false
no_loss n m [] is le = refl
no_loss n m (a ∷ acts) is le = loss_if n m acts (is_loss a.act) is le (λ k e f. no_loss n k acts e f)

pub runs_unharmed : (r : Option OpenEntry) → running_losses r ≡ 0 → RunsUnharmed r
runs_unharmed (Some o) is = no_loss 0 0 o.acts is (omega arith)
runs_unharmed None is = tt
