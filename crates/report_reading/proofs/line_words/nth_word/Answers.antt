use Rattle.std.proofs.Common.{rules}
use Rattle.std.proofs.lemmas.Bool.Decides.{nat_tests}
use Rattle.std.proofs.lemmas.Iterator.Consumers.{nth_from_yields_List}
use Rattle.std.proofs.lemmas.Iterator.Splits.{YieldsList-from_slice_split}
use Rattle.report_reading.specs.Places.{cut_words}
use Rattle.report_reading.proofs.line_words.nth_word.Goals as goal

pub returns : goal.returns
unfolding cut_words
returns c =
    nth_from_yields_List _ _ c.args.i c.nth.ensures.ran
    (YieldsList-from_slice_split _ _ c.args.text.now c.split.ensures.rest c.split.ensures.done c.split.ensures.closure (λ x r q k. search (rules, nat_tests)))
