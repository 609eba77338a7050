use Rattle.std.proofs.Common.{◌≡◌, ◌∙◌, true, false, refl, rules}
use Rattle.remote_copy.specs.FarVolume.{FarVolume}
use Rattle.remote_copy.specs.Linking.{next_fails}
use Rattle.remote_copy.proofs.FarImages.{tracks_of}
use Rattle.remote_copy.proofs.FarPuts.{put_done, put_failed, put_is}
use Rattle.remote_copy.proofs.link.MemLinkLink.put.Goals as goal

pub returns-then-is_listed-clause-puts : goal.returns-then-is_listed-clause-puts
returns-then-is_listed-clause-puts c =
    let s = c.self.inside in
    let v : FarVolume = record {
      geometry = s.geometry;
      tracks = tracks_of s.rooms.items;
      calls = record { done = s.puts; failing = s.failing.items };
      faults =
          s.faults;
    } in
    let fails : next_fails v.calls ≡ true = search rules in
    let count = c.counted-self-inside-then-is_listed in
    put_failed v c.args.self.now c.self.view_is c.counted-self-inside.result c.counted-self-inside.ensures.value c.args.t c.args.now.now.track (record {})
    count.result fails count.ensures.value count.ensures.later

pub returns-clause-far : goal.returns-clause-far
returns-clause-far c =
    let s = c.self.inside in
    let v : FarVolume = record {
      geometry = s.geometry;
      tracks = tracks_of s.rooms.items;
      calls = record { done = s.puts; failing = s.failing.items };
      faults =
          s.faults;
    } in
    let fails : next_fails v.calls ≡ false = search rules in
    let at : c.from.result ≡ c.args.t = c.from.ensures ∙ c.get.ensures.value in
    let is : c.assign.new.self ≡ c.args.now.now = c.assign.ensures in
    rw (at, is)
    (put_is v c.args.self.now c.self.view_is c.counted-self-inside.result c.counted-self-inside.ensures.value s.rooms.items c.args.t c.args.now.now refl fails)

pub returns-clause-puts : goal.returns-clause-puts
returns-clause-puts c =
    let s = c.self.inside in
    let v : FarVolume = record {
      geometry = s.geometry;
      tracks = tracks_of s.rooms.items;
      calls = record { done = s.puts; failing = s.failing.items };
      faults =
          s.faults;
    } in
    let fails : next_fails v.calls ≡ false = search rules in
    let at : c.from.result ≡ c.args.t = c.from.ensures ∙ c.get.ensures.value in
    let is : c.assign.new.self ≡ c.args.now.now = c.assign.ensures in
    rw (at, is)
    (put_done v c.args.self.now c.self.view_is c.counted-self-inside.result c.counted-self-inside.ensures.value s.rooms.items c.args.t c.args.now.now refl
    fails tt)
