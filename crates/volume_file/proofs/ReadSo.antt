-- How far a file was read, and which images its tracks gave.
use Rattle.std.proofs.Common.{
  ◌≡◌,
  ℕ,
  zero,
  suc,
  ◌+◌,
  ◌-◌,
  ◌*◌,
  ◌<◌,
  ◌≤◌,
  inl,
  inr,
  List,
  [],
  ◌∷◌,
  ◌++◌,
  length,
  get_or,
  Option,
  Some,
  None,
  Result,
  Ok,
  Err,
  IfOk,
  OnOk,
  refl,
  sym,
  ap,
  subst,
  ◌∙◌,
  append_assoc,
  arith,
}
use Rattle.std.specs.List.{flat_map}
use Rattle.std.specs.Io.KnownBytes.{Consumes, IsAtEnd}
use Rattle.std.proofs.KnownBytes.{Consumes-trans}
use Rattle.std.proofs.lemmas.Bool.{cases_lt}
use Rattle.std.proofs.lemmas.List.{append-nil, length-append, get_or_append_left, get_or_push}
use Rattle.std.proofs.lemmas.List.Concat.{flat_map-append}
use Rattle.ckd_types.specs.declared.geometry.Geometry.{Geometry}
use Rattle.track_image.specs.Image.{Image}
use Rattle.volume_file.specs.declared.fault.LoadFault.{LoadFault}
use Rattle.volume_file.specs.declared.fault.LoadFault.TheVariants.{BadHead, BadTrack, Trailing, ReadFault, NoMemory}
use Rattle.volume_file.specs.File.{ImageVolume, IsPlaced, IsWhole, file_of, head_of, track_part}
use Rattle.volume_file.specs.Loading.{end_at, head_at, loading, track_at, tracks_at}
use Rattle.volume_file.specs.Answers.{Gives, IsProgress, IsRefused, Progress, Tells, TellsFault}
use Rattle.volume_file.proofs.Told.{refused_first, refused_then, tells_on}
use Rattle.volume_file.proofs.Through.{loads_back, refused_through}

-- the volume of the tracks so far
abbrev pub so_far : Progress → List Image → ImageVolume
so_far p images = record { geometry = p.geometry; cylinders = p.cylinders; images = images }

pub record ReadSo (before now : Option (List ℕ)) (p : Progress) (images : List Image) : Type 0 where
  pub least : 1 ≤ p.cylinders
  pub most : p.cylinders ≤ 64
  pub next : p.next ≡ length images
  pub offset : p.offset ≡ length (file_of (so_far p images))
  pub placed : (k : ℕ) (d : Image) → k < length images → IsPlaced p.geometry k (get_or images k d)
  pub read : Consumes before now (file_of (so_far p images))

-- the head was read
pub starts_so : (before now : Option (List ℕ)) (p : Progress) (images : List Image) → Consumes before now (head_of p.geometry p.cylinders)
    → IsProgress p × (p.next ≡ 0) × (p.offset ≡ 12)
    → images ≡ [] → ReadSo before now p images
starts_so before now p images read start none = subst (ReadSo before now p) (sym none) (record {
  least = start.0.least;
  most = start.0.most;
  next = start.1;
  offset = start.2;
  placed = λ k d inside. absurd (omega (arith, inside));
  read = read;
})

-- a fault of the head is the file's
pub head_told : (before : Option (List ℕ)) (fault : LoadFault) → TellsFault head_at before fault → TellsFault loading before fault
unfolding loading
head_told before fault told = tells_on head_at loading before before fault (refused_first head_at loading before fault (λ text e. rw e refl)) told

one_more : (p : Progress) (images : List Image) (i : Image)
    → file_of (so_far p (images ++ i ∷ [])) ≡ file_of (so_far p images) ++ track_part i
one_more p images i =
    let head = head_of p.geometry p.cylinders in
    ap (λ (l : List ℕ). head ++ l)
    (flat_map-append track_part images (i ∷ []) ∙ ap (λ (l : List ℕ). flat_map track_part images ++ l) (append-nil (track_part i)))
    ∙ sym (append_assoc head (flat_map track_part images) (track_part i))

-- and one track more
pub reads_on : (before now later : Option (List ℕ)) (p q : Progress) (images more : List Image) (i : Image) → ReadSo before now p images
    → Consumes now later (track_part i)
    → IsPlaced p.geometry p.next i → q ≡ record p { next = p.next + 1; offset = p.offset + length (track_part i) } → more ≡ images ++ i ∷ []
    → ReadSo before later q more
reads_on before now later p q images more i s read place moved pushed =
    let on : Progress = record p { next = p.next + 1; offset = p.offset + length (track_part i) } in
    let count : length (images ++ i ∷ []) ≡ length images + 1 = length-append images (i ∷ []) in
    let made : ReadSo before later on (images ++ i ∷ []) = record {
      least = s.least;
      most = s.most;
      next = omega (arith, s.next, count);
      offset = omega (arith, s.offset, ap length (one_more p images i), length-append (file_of (so_far p images)) (track_part i));
      placed = λ k d inside. elim (cases_lt k (length images)) [
        | inl old ↦ subst (IsPlaced p.geometry k) (sym (get_or_append_left images (i ∷ []) d k old)) (s.placed k d old)
        | inr new ↦
            (let last : k ≡ length images = omega (arith, new, inside, count) in
            subst (λ (x : Image). IsPlaced p.geometry k x) (sym (get_or_push images i d k (sym last)))
            (subst (λ (x : ℕ). IsPlaced p.geometry x i) (s.next ∙ sym last) place))
      ];
      read = subst (λ (l : List ℕ). Consumes before later l) (sym (one_more p images i))
          (Consumes-trans before now later (file_of (so_far p images)) (track_part i) s.read read);
    } in
    subst (λ (x : Progress). ReadSo before later x more) (sym moved) (subst (λ (l : List Image). ReadSo before later on l) (sym pushed) made)

stopped : (n : ℕ) (g : Geometry) (t at : ℕ) (text : List ℕ) (fault : LoadFault) → 0 < n → track_at g t at text ≡ Err fault
    → tracks_at n g t at text ≡ Err fault
unfolding tracks_at
stopped zero g t at text fault some e = absurd (omega (arith, some))
stopped (suc n) g t at text fault some e = rw e refl

-- a fault of the next track is the file's
pub track_told : (before now : Option (List ℕ)) (p : Progress) (images : List Image) (fault : LoadFault) → ReadSo before now p images
    → p.next < p.cylinders * 15
    → TellsFault (track_at p.geometry p.next p.offset) now fault → TellsFault loading before fault
track_told before now p images fault s more told =
    let v = so_far p images in
    let n = p.cylinders * 15 - p.next in
    tells_on (track_at p.geometry p.next p.offset) loading before now fault
    (refused_then (track_at p.geometry p.next p.offset) loading before now (file_of v) fault s.read
    (λ text e.
    let here : track_at p.geometry (length images) (length (file_of v)) text ≡ Err fault =
    ap (λ (x : ℕ). track_at p.geometry x (length (file_of v)) text) (sym s.next) ∙ ap (λ (x : ℕ). track_at p.geometry p.next x text) (sym s.offset) ∙ e in
    refused_through v n text fault s.least s.most (omega (arith, s.next, more)) s.placed
    (stopped n p.geometry (length images) (length (file_of v)) text fault (omega (arith, more)) here)))
    told

-- a byte behind the last track
pub end_told : (before now : Option (List ℕ)) (p : Progress) (images : List Image) (fault : LoadFault) → ReadSo before now p images
    → p.next ≡ p.cylinders * 15
    → TellsFault (end_at p.offset) now fault → TellsFault loading before fault
unfolding tracks_at
end_told before now p images fault s all told =
    let v = so_far p images in
    tells_on (end_at p.offset) loading before now fault
    (refused_then (end_at p.offset) loading before now (file_of v) fault s.read
    (λ text e. refused_through v 0 text fault s.least s.most (omega (arith, s.next, all)) s.placed (ap (λ (x : ℕ). end_at x text) (sym s.offset) ∙ e)))
    told

-- all tracks were read
pub whole : (before now : Option (List ℕ)) (p : Progress) (images : List Image) → ReadSo before now p images → p.next ≡ p.cylinders * 15
    → IsWhole (so_far p images)
whole before now p images s all = record {
  least = s.least;
  most = s.most;
  tracks = omega (arith, s.next, all);
  placed = λ t inside. s.placed t _ inside;
}

-- and nothing more
pub ended : (before now after : Option (List ℕ)) (text : List ℕ) → Consumes before now text → Consumes now after []
    → Consumes before after text
ended before now after text front none = subst (Consumes before after) (append-nil text) (Consumes-trans before now after text [] front none)

no_fault : {A : Type 0} (x : A) (fault : LoadFault) (r : Result A LoadFault) → r ≡ Ok x → r ≡ Err fault → ⊥
no_fault x fault r p q = cc

pub not_refused : (v : ImageVolume) (before : Option (List ℕ)) (fault : LoadFault) → IsWhole v → before ≡ Some (file_of v)
    → IsRefused loading before fault → ⊥
not_refused v before fault w is r =
    let text : file_of v ≡ r.text = rw is at r.left in
    no_fault v fault (loading (file_of v)) (loads_back v w) (ap loading text ∙ r.refused)

same_file : (v u : ImageVolume) (before after : Option (List ℕ)) → IsWhole v → IsWhole u → before ≡ Some (file_of v)
    → Consumes before after (file_of u) → IsAtEnd after
    → ◌≡◌ {A = Result ImageVolume LoadFault} (Ok u) (Ok v)
same_file v u before None w x is read end = absurd (rw is at read)
same_file v u before (Some left) w x is read end =
    let all : file_of v ≡ file_of u ++ left = rw is at read in
    let text : file_of u ≡ file_of v = sym (all ∙ ap (λ (l : List ℕ). file_of u ++ l) end ∙ append-nil (file_of u)) in
    sym (loads_back u x) ∙ ap loading text ∙ loads_back v w

-- what was saved is loaded
pub saved : (v : ImageVolume) (before after : Option (List ℕ)) (r : Result ImageVolume LoadFault) → IsWhole v → before ≡ Some (file_of v)
    → Tells loading file_of before after r
    → OnOk r (IsAtEnd after) → IfOk r (λ u. IsWhole u) → Gives r (Ok v)
saved v before after (Ok u) w is told end x = same_file v u before after w x is told end
saved v before after (Err (BadHead offset)) w is told end x = absurd (not_refused v before (BadHead offset) w is told)
saved v before after (Err (BadTrack track offset)) w is told end x = absurd (not_refused v before (BadTrack track offset) w is told)
saved v before after (Err (Trailing offset)) w is told end x = absurd (not_refused v before (Trailing offset) w is told)
saved v before after (Err ReadFault) w is told end x = tt
saved v before after (Err NoMemory) w is told end x = tt
