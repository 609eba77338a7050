use Rattle.std.proofs.Common.{rules, ◌≡◌, ◌≤◌, ◌∙◌, ◌<◌, ◌+◌, ◌*◌, ℕ, arith, ap, refl, subst, sym, length}
use Rattle.std.proofs.lemmas.Grind.{common_steps}
use Rattle.std.proofs.lemmas.List.FromFn.{length-map-range_with_len}
use Rattle.device_outside.specs.Lists.{is_in}
use Rattle.subsystem_defs.specs.Decks.{empty_firsts, run_of, run_on}
use Rattle.subsystem_laws.proofs.PlainRuns.{empty_whole}
use Rattle.volume_file.specs.File.{ImageVolume, empty_image}
use Rattle.volume_save.proofs.Stepping.{
  gives_ok,
  gives_stop,
  gives_why,
  has_reason_by,
  is_saved,
  looks_first,
  looks_on,
  looks_over,
  reason_first,
  refused_first,
}
use Rattle.volume_save.proofs.saving.saved.Goals as goal

pub returns-in-Some-clause-found : goal.returns-in-Some-clause-found
returns-in-Some-clause-found g c = λ run stands.
    gives_why c.in-Some.why _
    (refused_first c.args.sub.now run c.args.d c.device-device.result.now c.in-Some.why stands c.device-device.ensures (sym c.refusal.ensures ∙ c.in-Some.is))

pub returns-in-Some-clause-reason : goal.returns-in-Some-clause-reason
returns-in-Some-clause-reason g c = λ run stands.
    reason_first c.args.sub.now run c.args.d c.device-device.result.now c.in-Some.why stands c.device-device.ensures (sym c.refusal.ensures ∙ c.in-Some.is)

pub save_track-requires-clause-here : goal.save_track-requires-clause-here
save_track-requires-clause-here g c = rw c.loop-t.invariant.numbers c.requires.here

pub save_track-requires-clause-stands : goal.save_track-requires-clause-stands
save_track-requires-clause-stands g c =
    let l = c.loop-t.invariant.left c.requires.stands.0 c.requires.stands.1 in (l.now, l.stands, l.fits)

pub returns-in-Err-clause-found : goal.returns-in-Err-clause-found
returns-in-Err-clause-found g c = λ run stands.
    let l = c.loop-t.invariant.left run stands in
    let at : c.unwrap-track.result ≡ c.loop-t.t = grind (arith, common_steps) in
    gives_stop run c.args.d c.loop-t.t _ c.unwrap-track.result c.loop-t.sub c.save_track.new.sub c.loop-t.volume c.save_track.new.volume c.in-Err.why l
    at c.loop-t-test.true (c.in-Err.ensures.found l.now l.stands l.fits)

pub loop-t-preserved : goal.loop-t-preserved
loop-t-preserved g c =
    let at : c.unwrap-track.result ≡ c.loop-t.t = grind (arith, common_steps) in
    record {
      numbers = c.in-Ok.ensures.numbers ∙ c.loop-t.invariant.numbers;
      size = c.in-Ok.ensures.size ∙ c.loop-t.invariant.size;
      most = c.loop-t.invariant.most;
      left = λ run stands.
          let l = c.loop-t.invariant.left run stands in
          looks_on run c.args.d c.loop-t.t _ c.unwrap-track.result c.loop-t.sub c.save_track.new.sub c.loop-t.volume c.save_track.new.volume l at
          c.loop-t-test.true (omega (arith, c.loop-t-test.true, c.loop-t.invariant.size)) (c.in-Ok.ensures.found l.now l.stands l.fits);
    }

pub returns-clause-found : goal.returns-clause-found
returns-clause-found g c = λ run stands.
    gives_ok c.loop-t.volume _
    (looks_over run c.args.d c.loop-t.t _ c.loop-t.sub c.loop-t.volume (c.loop-t.invariant.left run stands) (omega (arith, c.loop-t-test.false))
    (omega (arith, c.loop-t-test.false, c.loop-t.invariant.size)))

pub returns-clause-plain : goal.returns-clause-plain
returns-clause-plain g c = λ deck served small stands.
    is_saved c.args.sub.now empty_firsts empty_whole deck c.args.d c.loop-t.volume served small stands
    (looks_over (run_of deck).behind c.args.d c.loop-t.t _ c.loop-t.sub c.loop-t.volume (c.loop-t.invariant.left (run_of deck).behind stands)
    (omega (arith, c.loop-t-test.false)) (omega (arith, c.loop-t-test.false, c.loop-t.invariant.size))) c.has_all_tracks-2.ensures

pub returns-clause-plain_on_volumes : goal.returns-clause-plain_on_volumes
returns-clause-plain_on_volumes g c = λ firsts whole deck served small stands.
    is_saved c.args.sub.now firsts whole deck c.args.d c.loop-t.volume served small stands
    (looks_over (run_on firsts deck).behind c.args.d c.loop-t.t _ c.loop-t.sub c.loop-t.volume (c.loop-t.invariant.left (run_on firsts deck).behind stands)
    (omega (arith, c.loop-t-test.false)) (omega (arith, c.loop-t-test.false, c.loop-t.invariant.size))) c.has_all_tracks-2.ensures

pub returns-in-Err-clause-reason : goal.returns-in-Err-clause-reason
returns-in-Err-clause-reason g c = λ run stands.
    let l = c.loop-t.invariant.left run stands in
    let at : c.unwrap-track.result ≡ c.loop-t.t = grind (arith, common_steps) in
    has_reason_by run c.args.d c.loop-t.t _ c.unwrap-track.result c.loop-t.sub c.save_track.new.sub c.loop-t.volume c.save_track.new.volume c.in-Err.why l
    at c.has_all_tracks.ensures (omega (arith, c.loop-t-test.true, c.loop-t.invariant.size)) (c.in-Err.ensures.found l.now l.stands l.fits)

pub loop-t-init : goal.loop-t-init
loop-t-init g c =
    let few : c.cylinders-cylinders.result ≤ 4369 = search rules in
    record {
      numbers = refl;
      size =
          ap (λ (v : ImageVolume). length v.images) c.in_ok-volume.ensures
          ∙ length-map-range_with_len (empty_image c.geometry.result) 0 (c.cylinders-cylinders.result * 15);
      most = omega (arith, few);
      left = λ run stands.
          looks_first c.args.sub.now run c.args.d (c.cylinders-cylinders.result * 15) c.device-device.result.now c.in_ok-volume.volume stands
          c.device-device.ensures (sym c.refusal.ensures ∙ c.in_default.is)
          (ap (λ (v : ImageVolume). v.geometry) c.in_ok-volume.ensures ∙ c.geometry.ensures)
          (ap (λ (v : ImageVolume). v.cylinders) c.in_ok-volume.ensures ∙ c.cylinders-cylinders.ensures)
          (ap (λ (n : ℕ). n * 15) c.cylinders-cylinders.ensures);
    }
