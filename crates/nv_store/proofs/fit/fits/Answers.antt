use Rattle.std.proofs.Common.{length}
use Rattle.std.proofs.lemmas.Bool.{ltb-true}
use Rattle.nv_store.proofs.Units.{whole_fits, front_fits}
use Rattle.nv_store.proofs.fit.fits.Goals as goal

pub returns-in-Whole : goal.returns-in-Whole
returns-in-Whole c =
    let none = rw c.in-Whole.is at c.requires.behind in
    rw c.in-Whole.is (whole_fits c.args.image.now c.args.behind.now c.fits.ensures none)

pub returns-in-UpTo : goal.returns-in-UpTo
returns-in-UpTo c =
    let reached = rw c.in-UpTo.is at c.requires.reached in
    let there = ltb-true c.in-UpTo.last (length c.args.image.now.track.records) reached in
    rw (c.fit_behind.ensures, c.geometry.ensures, c.units_to.ensures.value, c.in-UpTo.is)
    (front_fits c.args.image.now c.in-UpTo.last c.args.behind.now c.fits.ensures there)
