-- What a task needs is there, and nothing fails: it is done.
use Rattle.std.proofs.Common.{◌≡◌, ◌⊎◌, inl, inr, ℕ, zero, suc, ◌+◌, ◌*◌, ◌<◌, ◌≤◌, List, [], ◌∷◌, ◌++◌, length, Option, Some, None, Result, Ok, Err, refl, sym, ap, subst, ◌∙◌, arith}
use Rattle.ckd_types.specs.declared.geometry.Geometry.{Geometry}
use Rattle.std.specs.Io.KnownBytes.{Consumes, IsAtEnd}
use Rattle.std.proofs.lemmas.Bool.{false≢true}
use Rattle.std.proofs.lemmas.List.{append-nil}
use Rattle.disk_image.specs.declared.fault.ImageFault.{ImageFault}
use Rattle.disk_image.specs.declared.fault.ImageFault.TheVariants as faults
use Rattle.disk_image.specs.declared.layout.Layout.{Layout}
use Rattle.disk_image.specs.declared.volume.TrackFault.{TrackFault}
use Rattle.disk_image.specs.Opening.{opening}
use Rattle.disk_image.specs.Volume.{Holds, IsDiskVolume, Told, fault_at, faults_in, layout_of}
use Rattle.disk_image.proofs.Found.{faults_more}
use Rattle.disk_image.proofs.Once.{good_track, of_file}
use Rattle.volume_file.specs.declared.fault.LoadFault.{LoadFault}
use Rattle.volume_file.specs.declared.fault.LoadFault.TheVariants as loads
use Rattle.volume_file.specs.Answers.{TellsFault}
use Rattle.volume_file.specs.File.{ImageVolume, IsWhole, file_of}
use Rattle.volume_texts.specs.List.{list_text}
use Rattle.volume_file.specs.Loading.{loading}
use Rattle.volume_file.proofs.ReadSo.{not_refused}
use Rattle.volume_file.proofs.Through.{loads_back}
use Rattle.volume_texts.specs.Given.{IsFile}
use Rattle.image_tool.specs.declared.task.Task.{Task}
use Rattle.image_tool.specs.declared.task.Task.TheVariants as tasks
use Rattle.image_tool.specs.declared.status.ImageStatus.{ImageStatus}
use Rattle.image_tool.specs.declared.status.ImageStatus.TheVariants.{
  Done,
  ReadFault,
  WriteFault,
  NoMemory,
  Usage,
  HasBytes,
  Other,
  BadImage,
  BadTracks,
  BadVolume,
  FileFault,
}
use Rattle.image_tool.specs.Answers.{Suits, Tells}
use Rattle.image_tool.specs.Reading.{Checks, Finds, IsChecked, IsFiled, IsFirstBad, IsHeld, IsOpened, Shows, ShowsFile, ShowsList, check_status, checking, refused_by, shown_status}
use Rattle.image_tool.specs.Storing.{MadeBy, StoredBy, TellsFrom, TellsGiven, TellsLoad, TellsNew, TellsVolume, is_alike}
use Rattle.image_tool.specs.Written.{IsWritten, Outside}
use Rattle.image_tool.proofs.Stored.{self_alike}

-- ---- no track of an image that holds a volume is bad

no_faults : (v : ImageVolume) (all : List ℕ) → IsDiskVolume v → Holds v all → (n : ℕ) → n ≤ v.cylinders * 15 → faults_in v.geometry n all ≡ []
no_faults v all w h zero few = refl
no_faults v all w h (suc n) few =
    let before : n < v.cylinders * 15 = omega (arith, few) in
    let within : n < length v.images = omega (arith, before, w.tracks) in
    let one : suc n ≡ n + 1 = omega arith in
    ap (λ (k : ℕ). faults_in v.geometry k all) one
    ∙ faults_more v.geometry n all
    ∙ ap (λ (l : List TrackFault). l ++ fault_at v.geometry all n) (no_faults v all w h n (omega (arith, few)))
    ∙ good_track v all n (w.placed n within) (h.tracks n before)

not_cons : (f : TrackFault) (fs xs : List TrackFault) → xs ≡ [] → xs ≡ f ∷ fs → ⊥
not_cons f fs xs none some = cc

same_ok : {A : Type 0} (r : Result A ImageFault) (x y : A) → r ≡ Ok x → r ≡ Ok y → x ≡ y
same_ok r x y p q = cc

not_both : {A : Type 0} (r : Result A ImageFault) (x : A) (e : ImageFault) → r ≡ Ok x → r ≡ Err e → ⊥
not_both r x e p q = cc

none_bad : (v : ImageVolume) (all : List ℕ) (t offset : ℕ) → IsDiskVolume v → Holds v all → IsFirstBad all t offset → ⊥
none_bad v all t offset w h bad =
    let same : bad.layout ≡ layout_of v = same_ok (opening all) bad.layout (layout_of v) bad.opens h.opens in
    let within : t < v.cylinders * 15 = subst (λ (l : Layout). t < l.cylinders * 15) same bad.within in
    let first : faults_in v.geometry (t + 1) all ≡ record { track = t; offset = offset } ∷ [] =
    subst (λ (l : Layout). faults_in l.geometry (t + 1) all ≡ record { track = t; offset = offset } ∷ []) same bad.first in
    not_cons _ [] (faults_in v.geometry (t + 1) all) (no_faults v all w h (t + 1) (omega (arith, within))) first

-- ---- the volume of a source

file_again : (u v : ImageVolume) (before after : Option (List ℕ)) → before ≡ Some (file_of v) → Consumes before after (file_of u) → IsAtEnd after
    → file_of u ≡ file_of v
file_again u v before None is read end = absurd (rw is at read)
file_again u v before (Some left) is read end =
    let all : file_of v ≡ file_of u ++ left = rw is at read in
    sym (all ∙ ap (λ (l : List ℕ). file_of u ++ l) end ∙ append-nil (file_of u))

same_loaded : (u v : ImageVolume) (r : Result ImageVolume LoadFault) → r ≡ Ok u → r ≡ Ok v → u ≡ v
same_loaded u v r p q = cc

same_volume : (u v : ImageVolume) (before after : Option (List ℕ)) → IsWhole v → before ≡ Some (file_of v) → IsFile before after u → u ≡ v
same_volume u v before after w is f =
    let text : file_of u ≡ file_of v = file_again u v before after is f.read f.end in
    same_loaded u v (loading (file_of v)) (ap loading (sym text) ∙ loads_back u f.whole) (loads_back v w)

-- ---- how each task ends

abbrev IsOver : ImageStatus → Type 0
IsOver status = (status ≡ Done) ⊎ (status ≡ NoMemory)

made : (status : ImageStatus) (g : Geometry) (cylinders : ℕ) (file : Option (List ℕ)) → MadeBy status g cylinders file → (status ≡ FileFault → ⊥)
    → IsOver status
made Done g cylinders file m nf = inl refl
made NoMemory g cylinders file m nf = inr refl
made FileFault g cylinders file m nf = absurd (nf refl)
made ReadFault g cylinders file m nf = absurd m
made WriteFault g cylinders file m nf = absurd m
made Usage g cylinders file m nf = absurd m
made HasBytes g cylinders file m nf = absurd m
made (Other image volume) g cylinders file m nf = absurd m
made (BadImage fault) g cylinders file m nf = absurd m
made BadTracks g cylinders file m nf = absurd m
made (BadVolume fault) g cylinders file m nf = absurd m

stored : (status : ImageStatus) (v : ImageVolume) (file files : Option (List ℕ)) → StoredBy status v file files → (status ≡ FileFault → ⊥)
    → IsOver status
stored Done v file files s nf = inl refl
stored NoMemory v file files s nf = inr refl
stored FileFault v file files s nf = absurd (nf refl)
stored ReadFault v file files s nf = absurd s
stored WriteFault v file files s nf = absurd s
stored Usage v file files s nf = absurd s
stored HasBytes v file files s nf = absurd s
stored (Other image volume) v file files s nf = absurd s
stored (BadImage fault) v file files s nf = absurd s
stored BadTracks v file files s nf = absurd s
stored (BadVolume fault) v file files s nf = absurd s

module _ (status : ImageStatus) (nr : status ≡ ReadFault → ⊥) (nw : status ≡ WriteFault → ⊥) (nf : status ≡ FileFault → ⊥) where
  by_written : (wanted : ImageStatus) (held holds : Option (List ℕ)) (text : List ℕ) → IsWritten status wanted held holds text → status ≡ wanted
  by_written wanted held holds text written = elim written [ inl w ↦ w.0 | inr f ↦ absurd (nw f.0) ]

  by_refusal : {A : Type 0} (IsSo : List ℕ → Result A ImageFault → Type 0) (all : List ℕ) (e : ImageFault) → Finds IsSo (Some all) (Err e)
      → (IsSo all (Err e) → ⊥) → status ≡ refused_by e → IsOver status
  by_refusal IsSo all faults.FileFault is never so = absurd (nf so)
  by_refusal IsSo all faults.NoMemory is never so = inr so
  by_refusal IsSo all (faults.BadHead offset) is never so = absurd (never is)
  by_refusal IsSo all (faults.BadLength size) is never so = absurd (never is)
  by_refusal IsSo all (faults.BadTrack t offset) is never so = absurd (never is)
  by_refusal IsSo all faults.Compressed is never so = absurd (never is)
  by_refusal IsSo all faults.Parts is never so = absurd (never is)
  by_refusal IsSo all (faults.ManyCylinders n) is never so = absurd (never is)

  by_found : (all : List ℕ) (found : Result (List TrackFault) ImageFault) → checking all ≡ Ok [] → Finds IsChecked (Some all) found
      → status ≡ check_status found → IsOver status
  by_found all (Ok []) good is so = inl so
  by_found all (Ok (f ∷ found)) good is so = absurd (not_cons f found [] refl (same_ok (checking all) [] (f ∷ found) good is))
  by_found all (Err e) good is so = by_refusal IsChecked all e is (not_both (checking all) [] e good) so

  by_check : (all : List ℕ) (held holds : Option (List ℕ)) → checking all ≡ Ok [] → Checks status (Some all) held holds → IsOver status
  by_check all held holds good c = by_found all c.found good c.is (by_written _ _ _ _ c.written)

  not_held : (v : ImageVolume) (all : List ℕ) (e : ImageFault) → IsDiskVolume v → Holds v all → IsHeld all (Err e) → ⊥
  not_held v all (faults.BadTrack t offset) w h is = none_bad v all t offset w h is
  not_held v all faults.FileFault w h is = not_both (opening all) (layout_of v) faults.FileFault h.opens is
  not_held v all faults.NoMemory w h is = not_both (opening all) (layout_of v) faults.NoMemory h.opens is
  not_held v all (faults.BadHead offset) w h is = not_both (opening all) (layout_of v) (faults.BadHead offset) h.opens is
  not_held v all (faults.BadLength size) w h is = not_both (opening all) (layout_of v) (faults.BadLength size) h.opens is
  not_held v all faults.Compressed w h is = not_both (opening all) (layout_of v) faults.Compressed h.opens is
  not_held v all faults.Parts w h is = not_both (opening all) (layout_of v) faults.Parts h.opens is
  not_held v all (faults.ManyCylinders n) w h is = not_both (opening all) (layout_of v) (faults.ManyCylinders n) h.opens is

  not_filed : (v : ImageVolume) (all : List ℕ) (e : ImageFault) → IsWhole v → Holds v all → IsFiled all (Err e) → ⊥
  not_filed v all (faults.ManyCylinders n) w h is =
      let same : is.layout ≡ layout_of v = same_ok (opening all) is.layout (layout_of v) is.opens h.opens in
      let count : is.layout.cylinders ≡ v.cylinders = ap (λ (l : Layout). l.cylinders) same in
      omega (arith, is.many, is.count, count, w.most)
  not_filed v all (faults.BadTrack t offset) w h is = not_held v all (faults.BadTrack t offset) (of_file v w) h is
  not_filed v all faults.FileFault w h is = not_held v all faults.FileFault (of_file v w) h is
  not_filed v all faults.NoMemory w h is = not_held v all faults.NoMemory (of_file v w) h is
  not_filed v all (faults.BadHead offset) w h is = not_held v all (faults.BadHead offset) (of_file v w) h is
  not_filed v all (faults.BadLength size) w h is = not_held v all (faults.BadLength size) (of_file v w) h is
  not_filed v all faults.Compressed w h is = not_held v all faults.Compressed (of_file v w) h is
  not_filed v all faults.Parts w h is = not_held v all faults.Parts (of_file v w) h is

  by_shown : (IsSo : List ℕ → Result ImageVolume ImageFault → Type 0) (all : List ℕ) (found : Result ImageVolume ImageFault)
      → ((e : ImageFault) → IsSo all (Err e) → ⊥) → Finds IsSo (Some all) found → status ≡ shown_status found → IsOver status
  by_shown IsSo all (Ok u) never is so = inl so
  by_shown IsSo all (Err e) never is so = by_refusal IsSo all e is (never e) so

  by_show : (IsSo : List ℕ → Result ImageVolume ImageFault → Type 0) (IsOne : ImageVolume → Type 0) (text : ImageVolume → List ℕ) (all : List ℕ)
      (held holds : Option (List ℕ)) → ((e : ImageFault) → IsSo all (Err e) → ⊥) → Shows IsSo IsOne text status (Some all) held holds
      → IsOver status
  by_show IsSo IsOne text all held holds never s = by_shown IsSo all s.found never s.is (by_written _ _ _ _ s.written)

  by_new : (g : Geometry) (cylinders : ℕ) (file files held holds : Option (List ℕ)) → file ≡ Some [] → TellsNew status g cylinders file files held holds
      → IsOver status
  by_new g cylinders file files held holds none told = elim told [
    | inl full ↦ absurd (subst (λ (o : Option (List ℕ)). Told o (λ all. all ≡ [] → ⊥)) none full.bytes refl)
    | inr new ↦ made status g cylinders files new.made nf
  ]

  by_load : (v : ImageVolume) (left held holds : Option (List ℕ)) (fault : LoadFault) → IsWhole v → left ≡ Some (file_of v)
      → TellsFault loading left fault → TellsLoad status fault held holds → IsOver status
  by_load v left held holds loads.ReadFault w is why told = absurd (nr told.0)
  by_load v left held holds loads.NoMemory w is why told = inr told.0
  by_load v left held holds (loads.BadHead offset) w is why told = absurd (not_refused v left (loads.BadHead offset) w is why)
  by_load v left held holds (loads.BadTrack t offset) w is why told = absurd (not_refused v left (loads.BadTrack t offset) w is why)
  by_load v left held holds (loads.Trailing offset) w is why told = absurd (not_refused v left (loads.Trailing offset) w is why)

  by_volume : (l : Layout) (v : ImageVolume) (file files held holds : Option (List ℕ)) → l ≡ layout_of v → TellsVolume status l v file files held holds
      → IsOver status
  by_volume l v file files held holds same told = elim told [
    | inl u ↦ absurd (false≢true (sym u.unlike ∙ ap (λ (k : Layout). is_alike k (layout_of v)) same ∙ self_alike (layout_of v)))
    | inr s ↦ stored status v file files s.stored nf
  ]

  by_given : (l : Layout) (v : ImageVolume) (old new : Outside) → IsWhole v → old.left ≡ Some (file_of v) → l ≡ layout_of v
      → TellsGiven status l old new → IsOver status
  by_given l v old new w is same told = elim told [
    | inl n ↦ by_load v old.left old.held new.held n.fault w is n.is n.told
    | inr g ↦
        (let u_is = same_volume g.volume v old.left new.left w is g.given in
        by_volume l g.volume old.file new.file old.held new.held (same ∙ ap layout_of (sym u_is)) g.told)
  ]

  by_from : (v : ImageVolume) (all : List ℕ) (old new : Outside) → IsWhole v → old.left ≡ Some (file_of v) → old.file ≡ Some all
      → opening all ≡ Ok (layout_of v) → TellsFrom status old new → IsOver status
  by_from v all old new w is has opens told = elim told [
    | inl n ↦
        by_refusal IsOpened all n.fault (subst (λ (o : Option (List ℕ)). Finds IsOpened o (Err n.fault)) has n.is)
        (not_both (opening all) (layout_of v) n.fault opens) (by_written _ _ _ _ n.written)
    | inr i ↦
        (let here : opening all ≡ Ok i.layout = subst (λ (o : Option (List ℕ)). Told o (λ x. opening x ≡ Ok i.layout)) has i.opened in
        by_given i.layout v old new w is (same_ok (opening all) i.layout (layout_of v) here opens) i.told)
  ]

  by_task : (task : Task) (old new : Outside) → Suits task old.left old.file → Tells status (Some task) old new → IsOver status
  by_task (tasks.New g cylinders) old new suits told = by_new g cylinders old.file new.file old.held new.held suits told.1
  by_task tasks.Check old new suits told =
      by_check suits.0 old.held new.held suits.2 (subst (λ (o : Option (List ℕ)). Checks status o old.held new.held) suits.1 told.1)
  by_task tasks.List old new suits told =
      by_show IsHeld IsDiskVolume list_text suits.0 old.held new.held (λ e. not_held suits.2.0 suits.0 e suits.2.1 suits.2.2)
      (subst (λ (o : Option (List ℕ)). ShowsList status o old.held new.held) suits.1 told.1)
  by_task tasks.ToVolume old new suits told =
      by_show IsFiled IsWhole file_of suits.0 old.held new.held (λ e. not_filed suits.2.0 suits.0 e suits.2.1 suits.2.2)
      (subst (λ (o : Option (List ℕ)). ShowsFile status o old.held new.held) suits.1 told.1)
  by_task tasks.FromVolume old new suits told = by_from suits.0 suits.3.0 old new suits.1 suits.2 suits.3.1 suits.3.2 told

pub complete : (status : ImageStatus) (named : Option Task) (task : Task) (old new : Outside) → named ≡ Some task → Suits task old.left old.file
    → Tells status named old new → (status ≡ ReadFault → ⊥) → (status ≡ WriteFault → ⊥) → (status ≡ FileFault → ⊥)
    → (status ≡ Done) ⊎ (status ≡ NoMemory)
complete status named task old new is suits told nr nw nf =
    by_task status nr nw nf task old new suits (subst (λ (o : Option Task). Tells status o old new) is told)
