use Rattle.std.proofs.Common.{◌<◌, sym, subst}
use Rattle.device_store.proofs.Firmly.{less_loose}
use Rattle.device_store.proofs.Halved.{hardened_stays, still_firm}
use Rattle.device_store.proofs.store.DeviceStore.harden.Goals as goal

pub invariant_of-self-clause-loose_modified : goal.invariant_of-self-clause-loose_modified
invariant_of-self-clause-loose_modified g c =
    λ here. rw c.harden.ensures.loose (less_loose c.args.self.now.loose.loose c.args.self.now.frames c.args.t (c.args.self.now.loose_modified here)
    (subst (λ n. c.args.t < n) (sym c.args.self.now.loose_of_each) c.requires.track))

pub invariant_of-self-clause-half_firm : goal.invariant_of-self-clause-half_firm
invariant_of-self-clause-half_firm g c =
    still_firm c.args.self.now.loose.loose _ c.args.self.now.half (λ q e. rw c.harden.ensures.loose (hardened_stays _ c.args.t q e)) c.args.self.now.half_firm

pub returns-clause-firm : goal.returns-clause-firm
returns-clause-firm g c = λ q e. rw c.harden.ensures.loose (hardened_stays _ c.args.t q e)
