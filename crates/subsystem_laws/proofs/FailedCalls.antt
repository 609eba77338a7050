-- In the run of a deck that was read fewer calls of each device fail than are counted, and few reads and writes are.
use Rattle.std.proofs.Common.{◌≡◌, ◌≤◌, ℕ, not, List, refl}
use Rattle.std.specs.Prelude.{All, Ok}
use Rattle.deck_text.specs.DeckLines.{DeckLines}
use Rattle.deck_text.specs.Parse.{parsed}
use Rattle.device_defs.specs.declared.counts.Counts as K
use Rattle.device_defs.specs.Marks.{MarksDevice}
use Rattle.subsystem_defs.specs.Decks.{Firsts, run_on}
use Rattle.subsystem_defs.specs.Subsystem.{devices_of}
use Rattle.subsystem_laws.specs.Causes.{CountFailures}
use Rattle.subsystem_laws.proofs.CallCounts.{IsCallCount, if_few, none_few, one_few, read_run_counts_all, read_run_counts_few}
use Rattle.subsystem_laws.proofs.CalmRuns.{AllSo}

failed_count : IsCallCount (λ (c : K.Counts). c.failed)
failed_count = record {
  at_first = refl;
  on_read = λ c ok. if_few (not ok) c.failed;
  on_write = λ c ok. if_few (not ok) c.failed;
  no_loss = λ c l. refl;
}

read_count : IsCallCount (λ (c : K.Counts). c.reads)
read_count = record {
  at_first = refl;
  on_read = λ c ok. one_few c.reads;
  on_write = λ c ok. none_few c.reads;
  no_loss = λ c l. refl;
}

write_count : IsCallCount (λ (c : K.Counts). c.writes)
write_count = record {
  at_first = refl;
  on_read = λ c ok. none_few c.writes;
  on_write = λ c ok. one_few c.writes;
  no_loss = λ c l. refl;
}

pub read_run_counts_failures : (firsts : Firsts) (text : List ℕ) (deck : DeckLines) → parsed text ≡ Ok deck → All CountFailures (run_on firsts deck).events
read_run_counts_failures firsts text deck read = read_run_counts_all (λ (c : K.Counts). c.failed) failed_count firsts text deck read

pub read_run_reads_few : (firsts : Firsts) (text : List ℕ) (deck : DeckLines) → parsed text ≡ Ok deck →
    AllSo (λ (d : MarksDevice). d.store.counts.reads ≤ 1033065725952) (devices_of (run_on firsts deck).behind)
read_run_reads_few firsts text deck read = read_run_counts_few (λ (c : K.Counts). c.reads) read_count firsts text deck read

pub read_run_writes_few : (firsts : Firsts) (text : List ℕ) (deck : DeckLines) → parsed text ≡ Ok deck →
    AllSo (λ (d : MarksDevice). d.store.counts.writes ≤ 1033065725952) (devices_of (run_on firsts deck).behind)
read_run_writes_few firsts text deck read = read_run_counts_few (λ (c : K.Counts). c.writes) write_count firsts text deck read
