use Rattle.std.proofs.Common.{◌∙◌, ap, subst}
use Rattle.std.specs.List.{AllZip}
use Rattle.deck_run.proofs.Ready.{read_lines}
use Rattle.subsystem_laws.proofs.ReadDecks.{read_served}
use Rattle.path_threads.specs.Places.{KeepsOrdered}
use Rattle.path_top.specs.Orders.{orders_in}
use Rattle.path_top.specs.Pairs.{paired_on}
use Rattle.path_top.proofs.Counted.{few_counts}
use Rattle.path_top.proofs.FaultCalls.{calls_once}
use Rattle.path_top.proofs.NewDevices.{new_long, paired_new}
use Rattle.path_top.proofs.Readied.{are_opened}
use Rattle.path_top.proofs.RunTold.{all_are_told, all_kept, numbers}
use Rattle.path_top.proofs.Unused.{ready_at}
use Rattle.path_top.proofs.run.run_deck.Goals as goal

pub orders_in-requires : goal.orders_in-requires
orders_in-requires g c =
    rw (c.in_ok-sub.ensures.numbers, c.as_slice.ensures, c.schedule.ensures) (read_lines c.requires.0 c.args.deck.now c.requires.1)

pub run_paths-requires-clause-ready : goal.run_paths-requires-clause-ready
run_paths-requires-clause-ready g c =
    rw (ap (λ p. p.1.items) c.into_parts-pool.ensures) (λ κs outlives k d within. ready_at c.in_ok-sub.sub.devices.items c.in_ok-sub.ensures.unused k d within)

pub run_paths-requires-clause-spare : goal.run_paths-requires-clause-spare
run_paths-requires-clause-spare g c =
    rw (ap (λ p. p.1.items) c.into_parts-pool.ensures) (λ κs outlives k order within. c.in_ok-orders.ensures.spare k order within)

pub returns-clause-told : goal.returns-clause-told
returns-clause-told g c = λ firsts hands.
    let deck = c.args.deck.now in
    let text = c.requires.0 in
    let served = read_served text deck c.requires.1 in
    let once = calls_once text deck c.requires.1 in
    let new = paired_new firsts deck served.devices (c.in_ok-sub.ensures.fit firsts hands) once in
    let all = are_opened firsts deck once c.in_ok-sub.sub (c.in_ok-sub.ensures.stands firsts hands) new c.in_ok-sub.ensures.own.each in
    all_are_told firsts deck c.in_ok-orders.orders.items (c.in_ok-orders.ensures.lines ∙ ap orders_in (c.as_slice.ensures ∙ c.schedule.ensures))
    (λ n. few_counts firsts text deck n c.requires.1 (new_long firsts deck _ deck.devices (paired_on firsts deck).mounted new)) c.in_ok-sub.sub.devices.items
    c.in_ok-ran.ran.devices.items all
    (subst (λ xs. AllZip (KeepsOrdered c.in_ok-orders.orders.items) xs c.in_ok-ran.ran.devices.items) (ap (λ p. p.1.items) c.into_parts-pool.ensures)
    c.in_ok-ran.ensures.kept)
    c.in_ok-ran.ensures.finished

pub returns-clause-numbers : goal.returns-clause-numbers
returns-clause-numbers g c =
    numbers c.in_ok-orders.orders.items c.in_ok-sub.sub.devices.items c.in_ok-ran.ran.devices.items
    (subst (λ xs. AllZip (KeepsOrdered c.in_ok-orders.orders.items) xs c.in_ok-ran.ran.devices.items) (ap (λ p. p.1.items) c.into_parts-pool.ensures)
    c.in_ok-ran.ensures.kept)
    ∙ c.in_ok-sub.ensures.numbers

pub returns-clause-kept : goal.returns-clause-kept
returns-clause-kept g c =
    all_kept c.in_ok-orders.orders.items c.in_ok-sub.sub.devices.items c.in_ok-ran.ran.devices.items c.in_ok-sub.ensures.unused
    (subst (λ xs. AllZip (KeepsOrdered c.in_ok-orders.orders.items) xs c.in_ok-ran.ran.devices.items) (ap (λ p. p.1.items) c.into_parts-pool.ensures)
    c.in_ok-ran.ensures.kept)
