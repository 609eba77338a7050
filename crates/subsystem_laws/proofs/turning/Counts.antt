-- What an event makes of the counts of a device's seats: of the path whose program runs, or of none.
use Rattle.std.proofs.Common.{
  ◌≡◌,
  ◌≤◌,
  ◌+◌,
  ◌*◌,
  ◌==◌,
  zero,
  suc,
  ℕ,
  Bool,
  true,
  false,
  List,
  [],
  ◌∷◌,
  ◌++◌,
  Option,
  Some,
  None,
  refl,
  sym,
  ap,
  subst,
  ◌∙◌,
  arith,
}
use Rattle.std.specs.Prelude.{◌≢◌, if◌then◌else◌, count_by, slice_set}
use Rattle.std.proofs.lemmas.Bool.Decides.{nat_tests}
use Rattle.ckd_types.specs.declared.channel.CommandEnd.{CommandEnd}
use Rattle.plain_defs.specs.declared.journal.Act.{Act}
use Rattle.plain_defs.specs.declared.journal.How.{How}
use Rattle.plain_defs.specs.declared.journal.How.TheVariants.{Full, Checked}
use Rattle.plain_defs.specs.declared.journal.Item.TheVariants as items
use Rattle.plain_defs.specs.History.{OpenEntry, History, acted, acted_in, checked_in, closed, ended_in, entry_of, is_path_of, resets_of, started, with_end}
use Rattle.plain_defs.specs.Legal.{is_of_path}
use Rattle.track_image.specs.Image.{Image}
use Rattle.device_outside.specs.Keeper.{Hearing}
use Rattle.device_outside.specs.Outside.{Outside, Ran}
use Rattle.device_defs.specs.declared.answers.Did.{Did}
use Rattle.device_defs.specs.declared.answers.SecondEnd.{SecondEnd}
use Rattle.device_defs.specs.declared.answers.SecondEnd.TheVariants as seconds
use Rattle.device_defs.specs.declared.answers.Stepped.{Stepped}
use Rattle.device_defs.specs.declared.answers.Stepped.TheVariants as steps
use Rattle.device_defs.specs.Command.{command}
use Rattle.device_defs.specs.Contents.{Contents}
use Rattle.device_defs.specs.Device.{Device, all_acted, event_begun}
use Rattle.device_defs.specs.Events as V
use Rattle.device_defs.specs.Events.{background, lose, second, second_ended, second_of}
use Rattle.device_defs.specs.Owed.{noted_end as told_at_end, waiting_count}
use Rattle.device_defs.specs.Pledge.{command_count, seat_counts}
use Rattle.device_defs.specs.Second.{second_part}
use Rattle.device_defs.specs.Start as S
use Rattle.device_defs.specs.Start.{start}
use Rattle.device_defs.specs.Store.{HalfWrite, OfBackground, Origin, Store}
use Rattle.loss_model.specs.declared.Loss.{Loss}
use Rattle.device_laws.proofs.Always.{Always, always_done, always_then}
use Rattle.device_laws.proofs.HistoryTold.{
  HasActed,
  acted_so,
  HasEnded,
  ended_so,
  checked_so,
  StepTold,
  SecondTold,
  loss_told,
  background_told,
  command_told,
  second_event_told,
}
use Rattle.device_laws.proofs.KeepLaws.{always_ran}
use Rattle.device_laws.proofs.KeptEvents.{always_any}
use Rattle.device_laws.proofs.KeptHistories.{AreNot, count_more}
use Rattle.device_laws.proofs.PoolWalks.{asks_always, hear_asks}

-- Histories

abbrev pub path_count : History → ℕ → ℕ
path_count h path = 2 * count_by (is_of_path path) h.items + (if is_path_of h.running path then 1 else 0)

-- the same path runs, and each has its count
pub record SamePaths (h k : History) : Type 0 where
  pub counts : (path : ℕ) → path_count k path ≡ path_count h path
  pub runs : (path : ℕ) → is_path_of k.running path ≡ is_path_of h.running path

-- each path but one has its count
pub record OtherPaths (path : ℕ) (h k : History) : Type 0 where
  pub counts : (q : ℕ) → q ≢ path → path_count k q ≡ path_count h q

act_same : (h : History) (act : Act) (r : Option OpenEntry) → h.running ≡ r → SamePaths h (acted_in h act r)
act_same h act (Some o) is = record {
  counts = λ q. ap (λ (r : Option OpenEntry). 2 * count_by (is_of_path q) h.items + (if is_path_of r q then 1 else 0)) (sym is);
  runs = λ q. ap (λ (r : Option OpenEntry). is_path_of r q) (sym is);
}
act_same h act None is = record {
  counts = λ q. ap (λ (n : ℕ). 2 * n + (if is_path_of h.running q then 1 else 0)) (count_more (is_of_path q) h.items (items.Act act ∷ []) (refl, tt));
  runs = λ q. refl;
}

pub acts_same : (h : History) (acts : List Act) → SamePaths h (all_acted h acts)
acts_same h [] = record { counts = λ q. refl; runs = λ q. refl }
acts_same h (act ∷ acts) =
    let first = act_same h act h.running refl in
    let rest = acts_same (acted h act) acts in
    record { counts = λ q. rest.counts q ∙ first.counts q; runs = λ q. rest.runs q ∙ first.runs q }

no_resets : (q : ℕ) (paths : List ℕ) → AreNot (is_of_path q) (resets_of paths)
no_resets q [] = tt
no_resets q (path ∷ paths) = (refl, no_resets q paths)

closed_other : (h : History) (o : OpenEntry) (e : CommandEnd) (how : How) (q : ℕ) → h.running ≡ Some o → (o.path == q) ≡ false →
    path_count (closed h (with_end o e) how) q ≡ path_count h q
closed_other h o e how q is other =
    let more : count_by (is_of_path q) (h.items ++ entry_of (with_end o e) how ∷ resets_of h.waiting) ≡ count_by (is_of_path q) h.items
    = count_more (is_of_path q) h.items (entry_of (with_end o e) how ∷ resets_of h.waiting) (other, no_resets q h.waiting) in
    let idle : is_path_of h.running q ≡ false = ap (λ (r : Option OpenEntry). is_path_of r q) is ∙ other in
    ap (λ (n : ℕ). 2 * n + 0) more ∙ ap (λ (b : Bool). 2 * count_by (is_of_path q) h.items + (if b then 1 else 0)) (sym idle)

over_other : (h : History) (o : OpenEntry) (e : CommandEnd) (b : Bool) (q : ℕ) → h.running ≡ Some o → (o.path == q) ≡ false →
    path_count (if b then closed h (with_end o e) Full else record h { running = Some (with_end o e) }) q ≡ path_count h q
over_other h o e true q is other = closed_other h o e Full q is other
over_other h o e false q is other =
    ap (λ (r : Option OpenEntry). 2 * count_by (is_of_path q) h.items + (if is_path_of r q then 1 else 0)) (sym is)

not_path : (x path q : ℕ) → (x == path) ≡ true → q ≢ path → (x == q) ≡ false
not_path x path q is other = grind (arith, nat_tests)

ended_other : (path : ℕ) (h : History) (e : CommandEnd) (r : Option OpenEntry) → h.running ≡ r → is_path_of r path ≡ true →
    OtherPaths path h (ended_in h e r)
ended_other path h e (Some o) is runs = record { counts = λ q other. over_other h o e e.over q is (not_path o.path path q runs other) }
ended_other path h e None is runs = record { counts = λ q other. refl }

checked_other : (path : ℕ) (h : History) (e : CommandEnd) (r : Option OpenEntry) → h.running ≡ r → is_path_of r path ≡ true →
    OtherPaths path h (checked_in h e r)
checked_other path h e (Some o) is runs = record { counts = λ q other. closed_other h o e Checked q is (not_path o.path path q runs other) }
checked_other path h e None is runs = record { counts = λ q other. refl }

acted_counts : (path : ℕ) (h k : History) → HasActed h k → OtherPaths path h k
acted_counts path h k (acted_so acts) = record { counts = λ q other. (acts_same h acts).counts q }

ended_counts : (path : ℕ) (h k : History) (e : CommandEnd) → is_path_of h.running path ≡ true → HasEnded h e k → OtherPaths path h k
ended_counts path h k e runs (ended_so acts) =
    let same = acts_same h acts in
    let other = ended_other path (all_acted h acts) e (all_acted h acts).running refl (same.runs path ∙ runs) in
    record { counts = λ q no. other.counts q no ∙ same.counts q }
ended_counts path h k e runs (checked_so acts) =
    let same = acts_same h acts in
    let other = checked_other path (all_acted h acts) e (all_acted h acts).running refl (same.runs path ∙ runs) in
    record { counts = λ q no. other.counts q no ∙ same.counts q }

step_counts : (path : ℕ) (h k : History) (a : Option Stepped) → is_path_of h.running path ≡ true → StepTold h k a → OtherPaths path h k
step_counts path h k (Some (steps.Ended e)) runs t = ended_counts path h k e runs t
step_counts path h k (Some (steps.Half q)) runs t = acted_counts path h k t
step_counts path h k None runs t = acted_counts path h k t

part_counts : (path : ℕ) (h k : History) (a : SecondEnd) → is_path_of h.running path ≡ true → SecondTold h k a → OtherPaths path h k
part_counts path h k (seconds.Ended e) runs t = ended_counts path h k e runs t
part_counts path h k (seconds.Finished q) runs t = acted_counts path h k t
part_counts path h k (seconds.Unwritten q) runs t = acted_counts path h k t

started_other : (path ordinal : ℕ) (h : History) → h.running ≡ None → OtherPaths path h (started h path ordinal)
started_other path ordinal h idle = record {
  counts = λ q other.
      let no : (path == q) ≡ false = grind (arith, nat_tests) in
      let none : is_path_of h.running q ≡ false = ap (λ (r : Option OpenEntry). is_path_of r q) idle in
      ap (λ (b : Bool). 2 * count_by (is_of_path q) h.items + (if b then 1 else 0)) (no ∙ sym none);
}

-- Seats

row_set : (f g : ℕ → ℕ) (path : ℕ) → 1 ≤ path → path ≤ 4 → ((q : ℕ) → q ≢ path → g q ≡ f q) →
    (0 ∷ g 1 ∷ g 2 ∷ g 3 ∷ g 4 ∷ 0 ∷ []) ≡ slice_set (0 ∷ f 1 ∷ f 2 ∷ f 3 ∷ f 4 ∷ 0 ∷ []) path (g path)
row_set f g zero least most same = absurd (omega (arith, least))
row_set f g (suc zero) least most same = rw (same 2 (λ e. cc), same 3 (λ e. cc), same 4 (λ e. cc)) refl
row_set f g (suc (suc zero)) least most same = rw (same 1 (λ e. cc), same 3 (λ e. cc), same 4 (λ e. cc)) refl
row_set f g (suc (suc (suc zero))) least most same = rw (same 1 (λ e. cc), same 2 (λ e. cc), same 4 (λ e. cc)) refl
row_set f g (suc (suc (suc (suc zero)))) least most same = rw (same 1 (λ e. cc), same 2 (λ e. cc), same 3 (λ e. cc)) refl
row_set f g (suc (suc (suc (suc (suc n))))) least most same = absurd (omega (arith, most))

acted_same : (h k : History) → HasActed h k → (q : ℕ) → path_count k q ≡ path_count h q
acted_same h k (acted_so acts) = (acts_same h acts).counts

module _ {F P H : Type 0} (d e : Device F P H) where
  -- an event of one path changes that path's count alone
  pub others_set : (path : ℕ) → 1 ≤ path → path ≤ 4 → OtherPaths path d.history e.history →
      seat_counts e ≡ slice_set (seat_counts d) path (command_count e path)
  others_set path least most other = row_set (command_count d) (command_count e) path least most other.counts

  -- one of no path changes none
  pub same_counts : HasActed d.history e.history → seat_counts e ≡ seat_counts d
  same_counts acted =
      let same = acted_same d.history e.history acted in rw (same 1, same 2, same 3, same 4) refl

-- Events

module _ {F P H R K : Type 0} (c : Contents F P H R) {hears : Hearing Image K} (d : Device F P H) {e : Device F P H} {u z : Outside R K} where
  pub command_counts : (path : ℕ) {a : Option Stepped} → is_path_of d.history.running path ≡ true → Ran (λ ok. Unit {0}) hears (command c d) u e a z →
      OtherPaths path d.history e.history
  command_counts path {a = a} runs r =
      step_counts path d.history e.history a runs (always_ran (command c d) (λ y b. StepTold d.history y.history b) (command_told c d).holds r)

  pub second_counts : (path : ℕ) {a : SecondEnd} → is_path_of d.history.running path ≡ true → Ran (λ ok. Unit {0}) hears (second c d) u e a z →
      OtherPaths path d.history e.history
  second_counts path {a = a} runs r =
      part_counts path d.history e.history a runs (always_ran (second c d) (λ y b. SecondTold d.history y.history b) (second_event_told c d).holds r)

  pub background_acts : {a : Option Did} → Ran (λ ok. Unit {0}) hears (background c d) u e a z → HasActed d.history e.history
  background_acts r = always_ran (background c d) (λ y _. HasActed d.history y.history) (background_told c d).holds r

  pub loss_acts : (loss : Loss) {a : Unit {0}} → Ran (λ ok. Unit {0}) hears (lose c d loss) u e a z → HasActed d.history e.history
  loss_acts loss r = always_ran (lose c d loss) (λ y _. HasActed d.history y.history) (loss_told c d loss).holds r

-- The other part of a write of the background ends no command

module _ {F P H R : Type 0} (c : Contents F P H R) (d : Device F P H) (h : HalfWrite H) (opened : d.store.half ≡ Some h)
    (own : h.origin ≡ OfBackground) where
  abbrev Acts : Device F P H → SecondEnd → Type 0
  Acts y a = HasActed d.history y.history

  abbrev here : Store F P H → Device F P H
  here s = record (event_begun d) { store = s }

  part_acts : (s : Store F P H) → s.half ≡ Some h → Always (second_of c (here s) s.half) Acts
  part_acts s same =
      subst (λ (x : Option (HalfWrite H)). Always (second_of c (here s) x) Acts) (sym same)
      (always_then (always_any (second_part c s h)) (λ z done _.
      subst (λ (o : Origin). Always (second_ended c (record (here s) { store = z; history = all_acted d.history z.acts }) h.track o done) Acts) (sym own)
      (always_done (acted_so z.acts))))

  pub own_second_told : Always (second c d) Acts
  unfolding V.second
  own_second_told =
      always_then {p = Acts} (always_then (asks_always (hear_asks c (λ (z : Store F P H). z.half ≡ Some h) (λ z t clean f. f) 960 (event_begun d).store opened))
      (λ s _ same. part_acts s same))
      (λ y a g. always_then (always_any (told_at_end c (waiting_count c d.store) y.store)) (λ z _ _. always_done g))

  pub own_second_acts : {K : Type 0} {hears : Hearing Image K} {e : Device F P H} {u z : Outside R K} {a : SecondEnd} →
      Ran (λ ok. Unit {0}) hears (second c d) u e a z → HasActed d.history e.history
  own_second_acts r = always_ran (second c d) Acts own_second_told.holds r

-- A start

pub start_counts : {F P H : Type 0} (d : Device F P H) (path : ℕ) → d.history.running ≡ None → OtherPaths path d.history (start d path).history
unfolding S.start
start_counts d path idle = started_other path (S.next_ordinal d path) d.history idle
