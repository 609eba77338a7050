use Rattle.device_outside.specs.Keeper.{Heard}
use Rattle.track_looks.proofs.Kept.{looks_had, looks_lacked, peeked_there}
use Rattle.track_looks.proofs.Owning.{kept_looks_own}
use Rattle.track_looks.proofs.looking.look_with.Goals as goal

pub look_of-requires : goal.look_of-requires
look_of-requires g c =
    peeked_there (Heard g.K.Keep.hears g.K.Keep.takes) c.args.d c.args.t c.args.sub.now c.args.keep.now c.peek_track_with.new.self
    c.peek_track_with.new.keep c.in-Ok.peeked c.device.result.now c.in-Ok.ensures.looked c.in-Ok.ensures.numbers c.device.ensures

pub returns-in-Ok-clause-looked : goal.returns-in-Ok-clause-looked
returns-in-Ok-clause-looked g c =
    looks_had (Heard g.K.Keep.hears g.K.Keep.takes) c.args.d c.args.t c.args.sub.now c.args.keep.now c.peek_track_with.new.self
    c.peek_track_with.new.keep c.in-Ok.peeked c.device.result.now c.look_of.result c.in-Ok.ensures.looked c.in-Ok.ensures.numbers c.device.ensures
    c.look_of.ensures

pub returns-in-Ok-clause-own : goal.returns-in-Ok-clause-own
returns-in-Ok-clause-own g c = λ own.
    kept_looks_own (Heard g.K.Keep.hears g.K.Keep.takes) c.args.d c.args.t _ c.args.sub.now c.peek_track_with.new.self c.args.keep.now
    c.peek_track_with.new.keep (returns-in-Ok-clause-looked g c) own

pub returns-in-Err-clause-looked : goal.returns-in-Err-clause-looked
returns-in-Err-clause-looked g c =
    looks_lacked (Heard g.K.Keep.hears g.K.Keep.takes) c.args.d c.args.t c.args.sub.now c.args.keep.now c.peek_track_with.new.self
    c.peek_track_with.new.keep c.in-Err.field-0 c.in-Err.ensures.looked

pub returns-in-Err-clause-own : goal.returns-in-Err-clause-own
returns-in-Err-clause-own g c = λ own.
    kept_looks_own (Heard g.K.Keep.hears g.K.Keep.takes) c.args.d c.args.t _ c.args.sub.now c.peek_track_with.new.self c.args.keep.now
    c.peek_track_with.new.keep (returns-in-Err-clause-looked g c) own
