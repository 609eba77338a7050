use Rattle.std.proofs.Common.{ℕ, subst}
use Rattle.remote_copy.proofs.Fitting.{follows_fits, still_here, takes_all}
use Rattle.remote_copy.proofs.Keeping.{follows, still_within}
use Rattle.remote_copy.proofs.Looked.{Peeks, looks_found, peeks_send, peeks_sit}
use Rattle.remote_copy.proofs.mirror.Mirror.look.Goals as goal

pub peek_track_with-requires-clause-here : goal.peek_track_with-requires-clause-here
peek_track_with-requires-clause-here g c = rw c.device-d.ensures c.args.self.now.here

pub peek_track_with-requires-clause-track : goal.peek_track_with-requires-clause-track
peek_track_with-requires-clause-track g c = rw c.device-d.ensures c.requires.track

pub peek_track_with-requires-clause-takes : goal.peek_track_with-requires-clause-takes
peek_track_with-requires-clause-takes g c =
    takes_all c.args.self.now.sender c.args.self.now.sub.devices.items c.args.self.now.sub.rising c.args.self.now.fits

pub invariant_of-self : goal.invariant_of-self
invariant_of-self g c =
    let old = c.args.self.now in
    let new = c.peek_track_with.new in
    let ch = subst (λ (n : ℕ). Peeks n c.args.t old.sub old.sender new.self new.keep c.peek_track_with.result) c.device-d.ensures
    c.peek_track_with.ensures.looked in
    let sends = peeks_send old.sender.device c.args.t old.sub old.sender new.self new.keep c.peek_track_with.result ch in
    let on = follows sends in
    record {
      here = still_here old.sender new.keep old.sub.devices.items new.self.devices.items old.here c.peek_track_with.ensures.numbers on.device;
      fits = follows_fits old.sender new.keep old.sub.devices.items new.self.devices.items old.here old.fits on
          (peeks_sit old.sender.device c.args.t old.sub old.sender new.self new.keep c.peek_track_with.result ch old.sender.device);
      within = still_within sends old.within;
    }

pub returns-clause-follows : goal.returns-clause-follows
returns-clause-follows g c =
    let old = c.args.self.now in
    let new = c.peek_track_with.new in
    let ch = subst (λ (n : ℕ). Peeks n c.args.t old.sub old.sender new.self new.keep c.peek_track_with.result) c.device-d.ensures
    c.peek_track_with.ensures.looked in
    follows (peeks_send old.sender.device c.args.t old.sub old.sender new.self new.keep c.peek_track_with.result ch)

pub returns-clause-found : goal.returns-clause-found
returns-clause-found g c =
    let old = c.args.self.now in
    let new = c.peek_track_with.new in
    let ch = subst (λ (n : ℕ). Peeks n c.args.t old.sub old.sender new.self new.keep c.peek_track_with.result) c.device-d.ensures
    c.peek_track_with.ensures.looked in
    looks_found c.args.t old.sub old.sender new.self new.keep c.peek_track_with.result old.here c.peek_track_with.ensures.numbers c.requires.track ch
    (returns-clause-follows g c).device
