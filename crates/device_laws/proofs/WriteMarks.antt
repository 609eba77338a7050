-- What a write makes of the marks of its track, and when they are good.
use Rattle.std.proofs.Common.{◌≡◌, Bool, true, false, Option, Some, None, is_some, refl, sym, subst}
use Rattle.device_laws.proofs.TrackMarks.{TrackMarks, marks, settled_marks, is_near, is_good}

-- a track that isn't lost becomes level
taken_by : (f : Option Bool) (p o h v : Bool) → is_near (marks f p false o h v) ≡ true → is_good (marks f p false o h true) ≡ true
taken_by f p o true v e = e
taken_by None p false false v e = refl
taken_by None p true false v e = absurd (cc)
taken_by (Some true) p false false v e = refl
taken_by (Some true) false true false v e = refl
taken_by (Some true) true true false v e = absurd (cc)
taken_by (Some false) false false false v e = refl
taken_by (Some false) false true false v e = absurd (cc)
taken_by (Some false) true o false v e = absurd (cc)

pub taken_good : (x : TrackMarks) → x.lost ≡ false → is_near x ≡ true → is_good (record x { level = true }) ≡ true
taken_good x lost near =
    subst (λ (l : Bool). is_good (marks x.frame x.patched l x.loose x.half true) ≡ true) (sym lost)
    (taken_by x.frame x.patched x.loose x.half x.level
    (subst (λ (l : Bool). is_near (marks x.frame x.patched l x.loose x.half x.level) ≡ true) lost near))

-- a write that is done leaves a clean frame or none, and no patch
done_by : (f : Option Bool) (h : Bool) → is_some f ≡ false → is_good (marks f false false false h true) ≡ true
done_by None true e = refl
done_by None false e = refl
done_by (Some m) h e = absurd (cc)

pub done_without_frame : (x : TrackMarks) → x.lost ≡ false → x.loose ≡ false → x.level ≡ true →
    is_good (record x { frame = None; patched = false }) ≡ true
done_without_frame x lost loose level = rw lost (rw loose (rw level (done_by None x.half refl)))

clean_by : (h : Bool) → is_good (marks (Some false) false false false h true) ≡ true
clean_by true = refl
clean_by false = refl

pub done_with_frame : (x : TrackMarks) → x.lost ≡ false → x.loose ≡ false → x.level ≡ true →
    is_good (record x { frame = Some false; patched = false }) ≡ true
done_with_frame x lost loose level = rw lost (rw loose (rw level (clean_by x.half)))

-- no side has the track: settling makes its marks good, whatever they are
absent_by : (f : Option Bool) (p h : Bool) → is_good (settled_marks (marks f p false false h false)) ≡ true
absent_by (Some m) p true = refl
absent_by (Some m) p false = refl
absent_by None p true = refl
absent_by None p false = refl

pub absent_good : (x : TrackMarks) → x.lost ≡ false → x.loose ≡ false → x.level ≡ false → is_good (settled_marks x) ≡ true
absent_good x lost loose level = rw lost (rw loose (rw level (absent_by x.frame x.patched x.half)))

-- the track of an open half write need only not be loose
half_by : (f : Option Bool) (p v : Bool) → is_good (marks f p false false true v) ≡ true
half_by f p v = refl

pub half_good : (x : TrackMarks) → x.lost ≡ false → x.loose ≡ false → is_good (record x { half = true }) ≡ true
half_good x lost loose = rw lost (rw loose (half_by x.frame x.patched x.level))

-- a level track isn't lost, and one that has a frame neither
level_by : (f : Option Bool) (p l o h v : Bool) → is_good (marks f p l o h v) ≡ true → v ≡ true → l ≡ false
level_by f p false o h v e up = refl
level_by None false true false h true e up = absurd (cc)
level_by None true true o h true e up = absurd (cc)
level_by None false true true h true e up = absurd (cc)
level_by (Some m) p true o h true e up = absurd (cc)
level_by f p true o h false e up = absurd (cc)

pub level_is_there : (x : TrackMarks) → is_good x ≡ true → x.level ≡ true → x.lost ≡ false
level_is_there x good level = level_by x.frame x.patched x.lost x.loose x.half x.level good level

framed_by : (f : Option Bool) (p l o h v : Bool) → is_good (marks f p l o h v) ≡ true → is_some f ≡ true → l ≡ false
framed_by f p false o h v e some = refl
framed_by (Some m) p true o h v e some = absurd (cc)
framed_by None p true o h v e some = absurd (cc)

pub framed_is_there : (x : TrackMarks) → is_good x ≡ true → is_some x.frame ≡ true → x.lost ≡ false
framed_is_there x good some = framed_by x.frame x.patched x.lost x.loose x.half x.level good some

patched_by : (f : Option Bool) (l o h v : Bool) → is_good (marks f true l o h v) ≡ true → l ≡ false
patched_by f false o h v e = refl
patched_by (Some m) true o h v e = absurd (cc)
patched_by None true o h v e = absurd (cc)

pub patched_is_there : (x : TrackMarks) → is_good x ≡ true → x.patched ≡ true → x.lost ≡ false
patched_is_there x good patched =
    patched_by x.frame x.lost x.loose x.half x.level
    (subst (λ (p : Bool). is_good (marks x.frame p x.lost x.loose x.half x.level) ≡ true) patched good)

loose_by : (f : Option Bool) (p l h v : Bool) → is_good (marks f p l true h v) ≡ true → l ≡ false
loose_by f p false h v e = refl
loose_by (Some m) p true h v e = absurd (cc)
loose_by None true true h v e = absurd (cc)
loose_by None false true h v e = absurd (cc)

pub loose_is_there : (x : TrackMarks) → is_good x ≡ true → x.loose ≡ true → x.lost ≡ false
loose_is_there x good loose =
    loose_by x.frame x.patched x.lost x.half x.level
    (subst (λ (o : Bool). is_good (marks x.frame x.patched x.lost o x.half x.level) ≡ true) loose good)

-- before its first write a loose track becomes firm, and is level on no side: its frame keeps it
firm_by : (f : Option Bool) (p l h v : Bool) → is_good (marks f p l true h v) ≡ true → is_good (marks f p l false h false) ≡ true
firm_by (Some m) p true h v e = absurd (cc)
firm_by None true true h v e = absurd (cc)
firm_by None false true h v e = absurd (cc)
firm_by f p false true v e = absurd (cc)
firm_by (Some true) p false false v e = refl
firm_by (Some false) true false false true e = absurd (cc)
firm_by (Some false) false false false true e = absurd (cc)
firm_by (Some false) p false false false e = absurd (cc)
firm_by None p false false true e = absurd (cc)
firm_by None p false false false e = absurd (cc)

pub firm_good : (x : TrackMarks) → is_good x ≡ true → x.loose ≡ true → is_good (record x { loose = false; level = false }) ≡ true
firm_good x good loose =
    firm_by x.frame x.patched x.lost x.half x.level
    (subst (λ (o : Bool). is_good (marks x.frame x.patched x.lost o x.half x.level) ≡ true) loose good)

-- a fast write: a modified frame with a patch, on a track that has a frame and isn't loose
fast_by : (h v : Bool) → is_good (marks (Some true) true false false h v) ≡ true
fast_by true v = refl
fast_by false v = refl

pub fast_good : (x : TrackMarks) → x.lost ≡ false → x.loose ≡ false → is_good (record x { frame = Some true; patched = true }) ≡ true
fast_good x lost loose = rw lost (rw loose (fast_by x.half x.level))

-- a provisional one: on a loose track
again_by : (f : Option Bool) (p l h v : Bool) → is_good (marks f p l true h v) ≡ true → is_good (marks (Some true) p l true h v) ≡ true
again_by (Some m) p true h v e = absurd (cc)
again_by None true true h v e = absurd (cc)
again_by None false true h v e = absurd (cc)
again_by f p false true v e = absurd (cc)
again_by (Some true) p false false v e = e
again_by (Some false) true false false true e = absurd (cc)
again_by (Some false) false false false true e = absurd (cc)
again_by (Some false) p false false false e = absurd (cc)
again_by None p false false true e = absurd (cc)
again_by None p false false false e = absurd (cc)

pub again_good : (x : TrackMarks) → is_good x ≡ true → x.loose ≡ true → is_good (record x { frame = Some true }) ≡ true
again_good x good loose =
    subst (λ (o : Bool). is_good (marks (Some true) x.patched x.lost o x.half x.level) ≡ true) (sym loose)
    (again_by x.frame x.patched x.lost x.half x.level
    (subst (λ (o : Bool). is_good (marks x.frame x.patched x.lost o x.half x.level) ≡ true) loose good))

-- or on one that isn't loose and has a clean frame, while no half write is open
loosened_by : (p l o v : Bool) → is_good (marks (Some false) p l o false v) ≡ true → is_good (marks (Some true) p l true false v) ≡ true
loosened_by p true o v e = absurd (cc)
loosened_by false false false true e = refl
loosened_by false false true true e = absurd (cc)
loosened_by true false o true e = absurd (cc)
loosened_by p false o false e = absurd (cc)

pub loosened_good : (x : TrackMarks) → is_good x ≡ true → x.frame ≡ Some false → x.half ≡ false →
    is_good (record x { frame = Some true; loose = true }) ≡ true
loosened_good x good clean half =
    subst (λ (h : Bool). is_good (marks (Some true) x.patched x.lost true h x.level) ≡ true) (sym half)
    (loosened_by x.patched x.lost x.loose x.level
    (subst (λ (h : Bool). is_good (marks (Some false) x.patched x.lost x.loose h x.level) ≡ true) half
    (subst (λ (f : Option Bool). is_good (marks f x.patched x.lost x.loose x.half x.level) ≡ true) clean good)))
