use Rattle.std.proofs.Common.{◌∙◌, sym}
use Rattle.device_store.proofs.Looks.{clean_not, clean_if}
use Rattle.device_store.proofs.store.DeviceStore.is_clean.Goals as goal

pub returns-then-modified : goal.returns-then-modified
returns-then-modified g c = clean_not _ (sym c.modified.ensures ∙ c.if-modified.true)

pub returns : goal.returns
returns g c = c.has.ensures ∙ clean_if _ (sym c.modified.ensures ∙ c.if-modified.false)
