use Rattle.std.proofs.Common.{◌∙◌, ◌*◌, ◌+◌, refl, sym, ap, arith}
use Rattle.device_outside.specs.Outside.{done}
use Rattle.device_outside.proofs.Runs.{joined}
use Rattle.device_defs.specs.Contents.{contents}
use Rattle.device_defs.specs.Owed.{all_told, track_told}
use Rattle.event_notes.proofs.Paid.{not_not, paid_none}
use Rattle.device_store.specs.Looks.{StoreOf}
use Rattle.device_store.specs.State.{state_of}
use Rattle.device_store.proofs.Moves.{from_equal}
use Rattle.device_store.proofs.Skipping.{ran_to}
use Rattle.device_store.proofs.Telling.{owed_here, told_first, told_more, told_none}
use Rattle.device_store.proofs.store.DeviceStore.tell_each.Goals as goal

pub loop-t-init : goal.loop-t-init
loop-t-init g c = record {
  number = refl;
  cylinders = refl;
  geometry = refl;
  volume = refl;
  half = refl;
  loose = refl;
  rest = refl;
  low = omega arith;
  ran = λ k. from_equal (λ i. i) (sym (told_none contents (state_of c.args.self.now))) refl done;
}

pub loop-t-preserved : goal.loop-t-preserved
loop-t-preserved g c =
    let i = c.loop-t.invariant in
    let s = state_of c.args.self.now in
    let t = c.in-Some.t in
    let here = owed_here c.loop-t.self.owed t (sym (c.tracks.ensures t) ∙ c.in-Some.ensures.2) in record {
      number = c.tell_track.ensures.leaves.number ∙ i.number;
      cylinders = c.tell_track.ensures.leaves.cylinders ∙ i.cylinders;
      geometry = c.tell_track.ensures.leaves.geometry ∙ i.geometry;
      volume = c.tell_track.ensures.leaves.volume ∙ i.volume;
      half = c.tell_track.ensures.leaves.half ∙ i.half;
      loose = c.tell_track.ensures.leaves.loose ∙ i.loose;
      rest = c.tell_track.ensures.rest ∙ ap (λ (z : StoreOf). record z { owed = c.tell_track.new.self.owed }) i.rest;
      low = omega (arith, c.get-from.ensures.value, here, c.loop-t.self.owed_of_each, i.cylinders);
      ran = λ k. rw c.get-from.ensures.value (from_equal (λ i. i) (sym (told_more contents t (t + 1) s refl)) refl (joined (λ z _. track_told contents t z)
          (ran_to (λ n. all_told contents n s) (λ n z. track_told contents n z) (λ n. told_more contents n (n + 1) s refl) c.loop-t.from t c.in-Some.ensures.0 (i.ran k)
          (λ q low high. told_first contents (state_of c.loop-t.self) q (paid_none _ (not_not _ (sym (c.tracks.ensures q) ∙ c.in-Some.ensures.3 q low high)))))
          (c.tell_track.ensures.run k)));
    }

pub returns-clause-run : goal.returns-clause-run
returns-clause-run g c =
    let i = c.loop-t.invariant in
    let s = state_of c.args.self.now in
    λ k. ran_to (λ n. all_told contents n s) (λ n z. track_told contents n z) (λ n. told_more contents n (n + 1) s refl) c.loop-t.from (c.args.self.now.cylinders * 15)
    i.low (i.ran k) (λ q low high. told_first contents (state_of c.loop-t.self) q (paid_none _ (not_not _ (sym (c.tracks.ensures q) ∙ c.in_default.ensures q low))))
