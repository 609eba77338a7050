use Rattle.std.proofs.Common.{◌∙◌, List, refl, ap, sym}
use Rattle.std.proofs.lemmas.Result.{on_err_weaker}
use Rattle.device_outside.specs.Interaction.{and_then}
use Rattle.device_defs.specs.Command.{follow, on_tracks, command_at}
use Rattle.device_defs.specs.Contents.{contents}
use Rattle.device_defs.specs.Device.{all_acted, with_store}
use Rattle.device_defs.specs.Store.{Store, tracks_of}
use Rattle.plain_defs.specs.declared.journal.Act.{Act}
use Rattle.nv_store.specs.declared.patches.Stored.{Stored}
use Rattle.track_cache.specs.declared.frames.Frame.{Frame}
use Rattle.track_image.specs.Image.{Image}
use Rattle.plain_defs.specs.PlainState.{PathsState}
use Rattle.device_store.specs.State.{state_of}
use Rattle.device_store.proofs.Moves.{from_equal}
use Rattle.device_core.specs.State.{came_to}
use Rattle.device_core.proofs.Whole.{to_equal, paths_ran, word_again}
use Rattle.device_core.proofs.step.on_running.Goals as goal

pub returns-in-Some-clause-run : goal.returns-in-Some-clause-run
returns-in-Some-clause-run g c =
    λ d store paths.
    let needs = sym c.need.ensures.need ∙ c.in-Some.is in
    from_equal (λ n. command_at contents d c.args.running.now.path c.args.running.now.chain n) (sym needs) refl
    (from_equal (λ x. and_then (follow contents (tracks_of x) c.in-Some.t c.args.running.now.chain c.in-Some.t x)
    (on_tracks contents d c.args.running.now.path c.args.running.now.chain)) (sym store) refl
    (to_equal (ap (λ (p : PathsState). came_to (record (with_store d (state_of c.on_tracks.new.store)) { paths = p }) c.args.running.now.path
    c.on_tracks.new.running.chain c.on_tracks.result) paths)
    (c.on_tracks.ensures.run d c.args.running.now.path c.args.running.now.chain c.need.ensures.chain needs)))

pub returns-in-None-clause-run : goal.returns-in-None-clause-run
returns-in-None-clause-run g c =
    λ d store paths.
    from_equal (λ n. command_at contents d c.args.running.now.path c.args.running.now.chain n) (sym (sym c.need.ensures.need ∙ c.in-None.is)) refl
    (to_equal (ap (λ (x : Store Frame Stored Image). came_to (record d { store = x; paths = c.on_paths.new.paths }) c.args.running.now.path
    c.on_paths.new.running.chain c.on_paths.result) store
    ∙ ap (λ (acts : List Act). came_to (record d { store = state_of c.args.store.now; history = all_acted d.history acts; paths = c.on_paths.new.paths })
    c.args.running.now.path c.on_paths.new.running.chain c.on_paths.result) (sym c.requires.fresh))
    (paths_ran d c.args.store.now.geometry c.args.paths.now c.on_paths.new.paths c.args.running.now.path c.args.running.now.chain c.need.new.self
    c.on_paths.new.running.chain c.on_paths.result c.need.ensures.chain (ap (λ (x : Store Frame Stored Image). x.geometry) store) paths
    c.on_paths.ensures.answers c.on_paths.ensures.again))

pub returns-in-Some-clause-word : goal.returns-in-Some-clause-word
returns-in-Some-clause-word g c =
    on_err_weaker c.on_tracks.result (λ again. word_again c.args.store.now.cylinders c.args.running.now.chain c.need.new.self _ c.requires.word
    c.need.ensures.chain again) c.on_tracks.ensures.again

pub returns-in-None-clause-word : goal.returns-in-None-clause-word
returns-in-None-clause-word g c =
    on_err_weaker c.on_paths.result (λ again. word_again c.args.store.now.cylinders c.args.running.now.chain c.need.new.self _ c.requires.word
    c.need.ensures.chain again.0) c.on_paths.ensures.again
