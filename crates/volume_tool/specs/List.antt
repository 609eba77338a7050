-- The rows of a volume whose file a source gave.
use Rattle.std.specs.Prelude.{◌≡◌, ℕ, List, Option}
use Rattle.ckd_types.specs.declared.geometry.Geometry.{Geometry}
use Rattle.track_image.specs.Image.{Image}
use Rattle.volume_texts.specs.declared.listing.Row.{Row}
use Rattle.volume_texts.specs.Given.{IsFile}
use Rattle.volume_texts.specs.List.{rows_from}

-- of a volume whose file a source gave, these are the rows
pub record Lists (before after : Option (List ℕ)) (g : Geometry) (cylinders : ℕ) (rows : List Row) : Type 0 where
  pub images : List Image
  pub file : IsFile before after (record { geometry = g; cylinders = cylinders; images = images })
  pub each : rows ≡ rows_from 0 images
