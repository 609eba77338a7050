use Rattle.subsystem_defs.specs.Happening.{happens}
use Rattle.line_drive.specs.Ending.{EndsAs}
use Rattle.remote_copy.proofs.Fitting.{follows_fits, still_here, takes_all}
use Rattle.remote_copy.proofs.Keeping.{came_sends, follows, still_within}
use Rattle.remote_copy.proofs.Mirrors.{event_ends, event_mirrors}
use Rattle.remote_copy.proofs.Seats.{came_sits}
use Rattle.remote_copy.proofs.mirror.Mirror.event.Goals as goal

pub do_event_with-requires-clause-takes : goal.do_event_with-requires-clause-takes
do_event_with-requires-clause-takes g c =
    takes_all c.args.self.now.sender c.args.self.now.sub.devices.items c.args.self.now.sub.rising c.args.self.now.fits

pub invariant_of-self : goal.invariant_of-self
invariant_of-self g c =
    let old = c.args.self.now in
    let end = c.do_event_with in
    let sends = came_sends c.args.e old.sub end.new.sub old.sender end.new.keep _ end.ensures.came in
    let on = follows sends in
    record {
      here = still_here old.sender end.new.keep old.sub.devices.items end.new.sub.devices.items old.here end.ensures.numbers on.device;
      fits = follows_fits old.sender end.new.keep old.sub.devices.items end.new.sub.devices.items old.here old.fits on
          (λ x at. came_sits _ old.sender.device old.sub end.new.sub old.sender end.new.keep x at _ c.args.e c.requires.come c.requires.home end.ensures.came);
      within = still_within sends old.within;
    }

pub returns-clause-follows : goal.returns-clause-follows
returns-clause-follows g c =
    let old = c.args.self.now in
    let end = c.do_event_with in
    follows (came_sends c.args.e old.sub end.new.sub old.sender end.new.keep _ end.ensures.came)

pub returns-clause-mirrors : goal.returns-clause-mirrors
returns-clause-mirrors g c = λ s is.
    let old = c.args.self.now in
    let end = c.do_event_with in
    event_mirrors old.sub end.new.sub old.sender end.new.keep s is old.here
    (λ x at. came_sits _ old.sender.device old.sub end.new.sub old.sender end.new.keep x at _ c.args.e c.requires.come c.requires.home end.ensures.came)
    (λ z. EndsAs c.args.e end.new.sub z (happens s.run c.args.e).end) c.args.e end.result (end.ensures.own is.own)
    (end.ensures.happened s.run is.stands is.own) (end.ensures.heard s.run is.stands is.own)

pub returns-clause-ended : goal.returns-clause-ended
returns-clause-ended g c = λ s is.
    let end = c.do_event_with in
    event_ends (λ z. EndsAs c.args.e end.new.sub z (happens s.run c.args.e).end) _ end.result (end.ensures.happened s.run is.stands is.own)

pub returns-clause-settled : goal.returns-clause-settled
returns-clause-settled g c = λ s is. c.do_event_with.ensures.settled s.run is.stands is.own
