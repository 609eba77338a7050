-- What an answer says over one bay, it says over another, where the same texts are written and the same is so of what ran.
use Rattle.std.proofs.Common.{ℕ, List, Option, Some, None, Result, Ok, Err}
use Rattle.deck_gen.specs.Generated.{deck_of_seed}
use Rattle.deck_text.specs.DeckLines.{DeckLines}
use Rattle.deck_text.specs.declared.line.DeckFault.{DeckFault}
use Rattle.deck_text.specs.Parse.{parsed}
use Rattle.deck_top.specs.declared.task.Task.{Task}
use Rattle.deck_top.specs.declared.task.Task.TheVariants.{Run, Check, Generate}
use Rattle.deck_top.specs.declared.top.Status.{Status}
use Rattle.deck_top.specs.declared.top.Status.TheVariants.{Reported, DeckRefused, ReadFault, WriteFault, Limit, NoMemory, Usage}
use Rattle.deck_top.specs.Answers.{FrontBy, IsDoneBy, TellsBy, TellsDeckBy, TellsReadBy, TellsTaskBy}

module _ (P Q : Task → DeckLines → List ℕ → Type 0) (D E : DeckLines → Type 0)
    (writes : (task : Task) (d : DeckLines) (text : List ℕ) → P task d text → Q task d text) (ran : (d : DeckLines) → D d → E d)
    (held holds : Option (List ℕ)) where
  done : (task : Task) (d : DeckLines) → IsDoneBy P D task d held holds → IsDoneBy Q E task d held holds
  done Check d k = k
  done Run d k = (k.0, writes Run d k.0 k.1, k.2, ran d k.3)
  done (Generate seed count) d k = (k.0, writes (Generate seed count) d k.0 k.1, k.2, ran d k.3)

  front : (deck : Result DeckLines DeckFault) (task : Task) → FrontBy P deck task held holds → FrontBy Q deck task held holds
  front (Err fault) task k = k
  front (Ok d) Check k = k
  front (Ok d) Run k = (k.0, writes Run d k.0 k.1, k.2)
  front (Ok d) (Generate seed count) k = (k.0, writes (Generate seed count) d k.0 k.1, k.2)

  by_deck : (status : Status) (task : Task) (deck : Result DeckLines DeckFault) → TellsDeckBy P D status task deck held holds →
      TellsDeckBy Q E status task deck held holds
  by_deck Reported task deck k = (k.0, k.1, done task k.0 k.2)
  by_deck (DeckRefused line why) task deck k = k
  by_deck (Limit which) task deck k = k
  by_deck WriteFault task deck k = front deck task k
  by_deck NoMemory task deck k = k
  by_deck ReadFault task deck k = k
  by_deck Usage task deck k = k

  module _ (before after : Option (List ℕ)) where
    by_read : (status : Status) (task : Task) → TellsReadBy P D status task before after held holds → TellsReadBy Q E status task before after held holds
    by_read ReadFault task k = k
    by_read NoMemory task k = k
    by_read Reported task k = (k.0, k.1, by_deck Reported task (parsed k.0) k.2)
    by_read (DeckRefused line why) task k = k
    by_read (Limit which) task k = k
    by_read WriteFault task k = (k.0, k.1, by_deck WriteFault task (parsed k.0) k.2)
    by_read Usage task k = k

    by_task : (status : Status) (task : Task) → TellsTaskBy P D status task before after held holds → TellsTaskBy Q E status task before after held holds
    by_task status Run k = by_read status Run k
    by_task status Check k = by_read status Check k
    by_task status (Generate seed count) k = (k.0, by_deck status (Generate seed count) (Ok (deck_of_seed seed count)) k.1)

    pub tells_too : (status : Status) (task : Option Task) → TellsBy P D status task before after held holds → TellsBy Q E status task before after held holds
    tells_too status None k = k
    tells_too status (Some task) k = by_task status task k
