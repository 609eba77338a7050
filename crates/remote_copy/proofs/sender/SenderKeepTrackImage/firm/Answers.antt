use Rattle.std.proofs.Common.{◌≡◌, ◌==◌, true, rules}
use Rattle.std.proofs.lemmas.Bool.{and_from}
use Rattle.remote_copy.specs.Sending.{is_put}
use Rattle.remote_copy.proofs.Puttings.{firm_is_heard}
use Rattle.remote_copy.proofs.sender.SenderKeepTrackImage.firm.Goals as goal

pub returns-then-puts : goal.returns-then-puts
returns-then-puts g c =
    let mine : (c.args.d == c.args.self.now.device) ≡ true = search rules in
    let puts : is_put c.args.self.now.state c.args.t ≡ true = search rules in
    firm_is_heard c.args.self.now c.put-put.new.self c.args.d c.args.t c.args.now.now c.put-put.result
    (and_from (c.args.d == c.args.self.now.device) (is_put c.args.self.now.state c.args.t) mine puts) c.put-put.ensures
