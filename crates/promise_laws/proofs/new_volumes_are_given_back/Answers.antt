use Rattle.promise_laws.proofs.FreshItems.{fresh_given_back}
use Rattle.promise_laws.proofs.new_volumes_are_given_back.Goals as goal

pub returns : goal.returns
returns c = λ asked end d k brings. fresh_given_back asked end d k brings
