-- The journal, and its room: how many items more it takes without memory, and how many acts beside these.
use Rattle.std.specs.Prelude.{ℕ, List}
use Rattle.plain_defs.specs.declared.journal.Item.{Item}

pub record LogView : Type 0 where
  pub items : List Item
  pub spare : ℕ
  pub aside : ℕ
