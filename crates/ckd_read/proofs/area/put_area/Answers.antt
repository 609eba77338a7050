use Rattle.ckd_read.proofs.Takes.{takes_both}
use Rattle.ckd_read.proofs.area.put_area.Goals as goal

pub returns-in_ok-put-in-Zero-2 : goal.returns-in_ok-put-in-Zero-2
returns-in_ok-put-in-Zero-2 c =
    let count = rw (c.count_area.ensures, c.record_at-read.ensures) at c.in_ok-put-in-Zero.ensures in
    let body = rw (c.body.ensures, c.record_at-read.ensures) at c.in_ok-put-in-Zero-2.ensures in
    rw c.in-Zero.is (takes_both _ _ _ _ _ count body)

pub returns-in_ok-put-in-KeyData-2 : goal.returns-in_ok-put-in-KeyData-2
returns-in_ok-put-in-KeyData-2 c =
    let key = rw (c.key.ensures, c.record_at-read.ensures) at c.in_ok-put-in-KeyData.ensures in
    let body = rw (c.body-in-KeyData.ensures, c.record_at-read.ensures) at c.in_ok-put-in-KeyData-2.ensures in
    rw c.in-KeyData.is (takes_both _ _ _ _ _ key body)
