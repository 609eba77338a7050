-- How often something failed of a device behind the run of its paths: at most as often as lines of the deck say.
use Rattle.std.proofs.Common.{◌≡◌, ◌≤◌, ◌<◌, ◌+◌, ◌*◌, ◌-◌, ◌^◌, ◌∙◌, ℕ, suc, Bool, false, true, List, [], ◌∷◌, length, map, Ok, Option, Some, None, is_some, option_map, refl, sym, ap, subst, arith, le_trans}
use Rattle.std.proofs.lemmas.Option.{same_Some}
use Rattle.std.specs.Prelude.{if◌then◌else◌}
use Rattle.std.proofs.lemmas.List.Sums.{count_by-le-length}
use Rattle.ckd_outside.specs.Memory.{to_come}
use Rattle.deck_text.specs.declared.line.DeviceLine.{DeviceLine}
use Rattle.deck_text.specs.DeckLines.{DeckLines}
use Rattle.deck_text.specs.Parse.{parsed}
use Rattle.deck_text.proofs.Reached.{parsed_good}
use Rattle.device_outside.specs.declared.volume.Volume.{Ghosts}
use Rattle.device_outside.specs.Volume.{Plan, VolumeView}
use Rattle.device_defs.specs.declared.counts.Counts.{Counts}
use Rattle.device_defs.specs.declared.counts.Losses.{Losses}
use Rattle.device_defs.specs.Pledge.{StaysWithin, failures_of}
use Rattle.device_laws.specs.Handed.{allowance_in, allowance_of, in_all}
use Rattle.device_store.specs.State.{on_a, on_b}
use Rattle.device_core.specs.declared.device.Device.{Device}
use Rattle.device_core.specs.State.{device_of}
use Rattle.path_workers.specs.Keeping.{KeepsPledge, pledge_with, told_of}
use Rattle.path_workers.specs.Planned.{as_planned, still_failing}
use Rattle.path_threads.specs.declared.orders.Order.{Order}
use Rattle.path_threads.specs.Allowed.{allowed_of}
use Rattle.path_threads.specs.Places.{KeepsOrdered}
use Rattle.subsystem_defs.specs.Decks.{Firsts}
use Rattle.subsystem_defs.specs.Happening.{is_lent_to}
use Rattle.subsystem_defs.specs.Subsystem.{Mounted, number_of}
use Rattle.subsystem_laws.proofs.ReadDecks.{read_few_devices}
use Rattle.path_top.specs.Excuses.{excuses_on, faults_of, lent_faults}
use Rattle.path_top.specs.Orders.{line_of, orders_in}
use Rattle.path_top.specs.Pairs.{paired_on}
use Rattle.path_top.proofs.Allowing.{IsMore, orders_allow}
use Rattle.path_top.proofs.Failing.{few_to_come}
use Rattle.path_top.proofs.MoreExcused.{AtMost}
use Rattle.path_top.proofs.Readied.{FailsWithin, IsOpened}

-- Failed calls

record Allows (o : Option ℕ) (most : ℕ) : Type 0 where
  calls : ℕ
  told : o ≡ Some calls
  few : calls ≤ most

stays_few : (o a : Option ℕ) (calls failed now most : ℕ) → o ≡ Some calls → calls ≤ most → failed ≡ 0 → StaysWithin (failures_of failed o) now a → now ≤ most
stays_few (Some n) (Some left) calls failed now most told few none within =
    let same : n ≡ calls = same_Some _ _ told in omega (arith, same, few, none, within)
stays_few (Some n) None calls failed now most told few none within = absurd within
stays_few None a calls failed now most told few none within = absurd (cc)

both_few : (x y n k : ℕ) → x ≤ n → y ≤ k → x + y ≤ n + k
both_few x y n k few more = omega (arith, few, more)

both_told : (x y : Option ℕ) (n k : ℕ) → x ≡ Some n → y ≡ Some k → in_all x y ≡ Some (n + k)
both_told x y n k e f = ap (λ (o : Option ℕ). in_all o y) e ∙ ap (in_all (Some n)) f

few_lost : (x y z n : ℕ) → x ≡ 0 → y ≤ x + n → z ≤ y → z ≤ n
few_lost x y z n none more le = omega (arith, none, more, le)

if_so : {X : Type 0} (b : Bool) (x y : X) → b ≡ true → (if b then x else y) ≡ x
if_so true x y e = refl
if_so false x y e = absurd (cc)

side_allows : (o : Option (VolumeView (List ℕ))) (n : ℕ) → FailsWithin n o → Allows (allowance_of (option_map as_planned o)) n
side_allows None n within = record { calls = 0; told = refl; few = omega arith }
side_allows (Some v) n within =
    let p = within.0 in record {
      calls = to_come v.reads p.reads + to_come v.writes p.writes;
      told =
          ap (λ (o : Option Plan). still_failing o v.reads v.writes v.allowance) within.1.0
          ∙ if_so _ (Some (to_come v.reads p.reads + to_come v.writes p.writes)) v.allowance within.1.1.1;
      few = le_trans (few_to_come p v.reads v.writes) within.1.1.0;
    }

mate_allows : (o : Option (VolumeView (List ℕ))) (n : ℕ) → (is_some o ≡ true → FailsWithin n o) → Allows (allowance_of (option_map as_planned o)) n
mate_allows None n within = record { calls = 0; told = refl; few = omega arith }
mate_allows (Some v) n within = side_allows (Some v) n (within refl)

is_there : {X Y : Type 0} (f : X → Y) (o : Option X) → is_some (option_map f o) ≡ is_some o
is_there f None = refl
is_there f (Some x) = refl

module _ {V : Type 0} {G : Ghosts V} where
  module _ {M : Type 0} (firsts : Firsts) (deck : DeckLines) (line : DeviceLine) (d e : Device V G) (u : IsOpened firsts deck line d)
      (free : (device_of d).store.lent ≡ None) (os : List (Order M)) (lines_are : map line_of os ≡ orders_in deck.events) (kept : KeepsOrdered os d e) where
    abbrev k : KeepsPledge (firsts line.number) (pledge_with true d (allowed_of os d)) e
    k = kept (firsts line.number) true (λ _. record { tells = u.tells_it; stands = u.stands })

    a_allows : Allows (allowance_of (told_of d).a) (faults_of deck line.number)
    a_allows = side_allows (option_map G.view (on_a d.store)) (faults_of deck line.number) u.own

    b_allows : Allows (allowance_of (told_of d).b) (lent_faults deck line.number (paired_on firsts deck).mounted)
    b_allows = mate_allows (option_map G.view (on_b d.store)) (lent_faults deck line.number (paired_on firsts deck).mounted)
        (λ pair. u.mate free (sym (is_there G.view (on_b d.store)) ∙ pair))

    few_failed : (device_of e).store.counts.failed ≤ (excuses_on firsts deck line.number).failed
    few_failed =
        let calls = a_allows.calls + b_allows.calls in
        stays_few (allowance_in (told_of d)) (allowance_in (told_of e)) calls (device_of d).store.counts.failed (device_of e).store.counts.failed
        (excuses_on firsts deck line.number).failed (both_told _ _ a_allows.calls b_allows.calls a_allows.told b_allows.told)
        (both_few a_allows.calls b_allows.calls (faults_of deck line.number) (lent_faults deck line.number (paired_on firsts deck).mounted) a_allows.few b_allows.few)
        (ap (λ (n : Counts). n.failed) u.counts) k.keeps.keeps.failures

    more : IsMore (d.store.counts.losses) (allowed_of os d) (excuses_on firsts deck line.number).losses.cache (excuses_on firsts deck line.number).losses.store
        (excuses_on firsts deck line.number).losses.sides
    more =
        subst (λ (n : ℕ). IsMore d.store.counts.losses (allowed_of os d) (excuses_on firsts deck n).losses.cache (excuses_on firsts deck n).losses.store
        (excuses_on firsts deck n).losses.sides) u.number (orders_allow d.store.number d.store.counts.losses os deck.events lines_are)

    none_lost : d.store.counts.losses ≡ record { cache = 0; store = 0; sides = 0 }
    none_lost = ap (λ (n : Counts). n.losses) u.counts

    pub counts_at_most : AtMost (device_of e).store.counts (excuses_on firsts deck line.number)
    counts_at_most = record {
      failed = few_failed;
      cache = few_lost _ _ _ _ (ap (λ (l : Losses). l.cache) none_lost) more.cache k.keeps.keeps.cache;
      store = few_lost _ _ _ _ (ap (λ (l : Losses). l.store) none_lost) more.store k.keeps.keeps.store;
      sides = few_lost _ _ _ _ (ap (λ (l : Losses). l.sides) none_lost) more.sides k.keeps.keeps.sides;
    }

-- Of a deck that was read these counts are far below the greatest number

few_faults : (deck : DeckLines) (n : ℕ) → length deck.faults ≤ 1024 → faults_of deck n ≤ 1024
few_faults deck n few = le_trans (count_by-le-length _ deck.faults) few

few_part : (b : Bool) (n : ℕ) → n ≤ 1024 → (if b then n else 0) ≤ 1024
few_part true n few = few
few_part false n few = omega arith

few_lent : (deck : DeckLines) (n : ℕ) (ms : List Mounted) → length deck.faults ≤ 1024 → lent_faults deck n ms ≤ length ms * 1024
few_lent deck n [] few = omega arith
few_lent deck n (m ∷ ms) few =
    one_part (if is_lent_to m.device.store.lent n then faults_of deck (number_of m) else 0) (lent_faults deck n ms) (length ms)
    (few_part (is_lent_to m.device.store.lent n) (faults_of deck (number_of m)) (few_faults deck (number_of m) few)) (few_lent deck n ms few)
  where
    one_part : (x y k : ℕ) → x ≤ 1024 → y ≤ k * 1024 → x + y ≤ suc k * 1024
    one_part x y k one rest = omega (arith, one, rest)

pub record AreFew (n : Counts) : Type 0 where
  pub failed : n.failed < 2 ^ 64 - 1
  pub cache : n.losses.cache < 2 ^ 64 - 1

pub few_counts : (firsts : Firsts) (text : List ℕ) (deck : DeckLines) (n : ℕ) → parsed text ≡ Ok deck → length (paired_on firsts deck).mounted ≡ length deck.devices →
    AreFew (excuses_on firsts deck n)
few_counts firsts text deck n read long =
    let good = parsed_good text deck read in
    let devices = read_few_devices text deck read in
    record {
      failed =
          few_in_all (faults_of deck n) (lent_faults deck n (paired_on firsts deck).mounted) (length (paired_on firsts deck).mounted) (length deck.devices)
          (few_faults deck n good.fault_count) (few_lent deck n (paired_on firsts deck).mounted good.fault_count) long devices;
      cache = few_lines (excuses_on firsts deck n).losses.cache (length deck.events) (count_by-le-length _ deck.events) good.event_count;
    }
  where
    few_in_all : (x y k n : ℕ) → x ≤ 1024 → y ≤ k * 1024 → k ≡ n → n ≤ 16 → x + y < 2 ^ 64 - 1
    few_in_all x y k n own lent same few = omega (arith, own, lent, same, few)

    few_lines : (x n : ℕ) → x ≤ n → n ≤ 65536 → x < 2 ^ 64 - 1
    few_lines x n le few = omega (arith, le, few)
