use Rattle.subsystem_defs.specs.Decks.{empty_firsts}
use Rattle.path_top.specs.Answers.{IsHistoryText}
use Rattle.path_top.proofs.Facts as facts
use Rattle.path_top.proofs.top.paths_top.Goals as goal

pub returns-clause-reported : goal.returns-clause-reported
returns-clause-reported g c = λ is paths. facts.paths_reported IsHistoryText _ _ _ _ empty_firsts (λ d text is. is) is paths c.over_new_bay.ensures.told

pub returns-clause-refused : goal.returns-clause-refused
returns-clause-refused g c = λ line why is. facts.deck_refused IsHistoryText _ _ _ _ _ _ line why is c.over_new_bay.ensures.told

pub returns-clause-limit : goal.returns-clause-limit
returns-clause-limit g c = λ which is. facts.deck_past_limit IsHistoryText _ _ _ _ _ _ which is c.over_new_bay.ensures.told

pub returns-clause-usage : goal.returns-clause-usage
returns-clause-usage g c = λ other. facts.usage_told IsHistoryText _ _ _ _ other c.over_new_bay.ensures.told

pub returns-clause-faults : goal.returns-clause-faults
returns-clause-faults g c = λ is. facts.nothing_read IsHistoryText _ _ _ _ _ _ is c.over_new_bay.ensures.told

pub returns-clause-front : goal.returns-clause-front
returns-clause-front g c = λ is paths. facts.front_written _ _ _ _ is paths c.over_new_bay.ensures.told

pub returns-clause-memory : goal.returns-clause-memory
returns-clause-memory g c = λ is. facts.nothing_written IsHistoryText _ _ _ _ _ _ is c.over_new_bay.ensures.told

pub returns-clause-complete : goal.returns-clause-complete
returns-clause-complete g c = λ text d is names parses calm_source calm_sink.
    facts.deck_is_run IsHistoryText _ _ _ _ text d is names parses c.over_new_bay.ensures.told (λ r. calm_source (c.over_new_bay.ensures.read r))
    (λ w. calm_sink (c.over_new_bay.ensures.write w))
