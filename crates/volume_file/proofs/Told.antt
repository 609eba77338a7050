-- What one read after another tells.
use Rattle.std.proofs.Common.{
  Bool,
  false,
  eqb,
  eq-eqb,
  ◌≡◌,
  inl,
  inr,
  ℕ,
  List,
  [],
  ◌∷◌,
  ◌++◌,
  length,
  take,
  Option,
  Some,
  None,
  Result,
  Ok,
  Err,
  IfOk,
  refl,
  sym,
  ap,
  subst,
  ◌∙◌,
  arith,
}
use Rattle.std.proofs.lemmas.Bool.{cases_lt, false≢true}
use Rattle.std.proofs.lemmas.List.{append-nil, take_all, take_at}
use Rattle.std.specs.Io.KnownBytes.{Consumes, IsAtEnd}
use Rattle.volume_file.specs.declared.fault.LoadFault.{LoadFault}
use Rattle.volume_file.specs.declared.fault.LoadFault.TheVariants.{BadHead, BadTrack, Trailing, ReadFault, NoMemory}
use Rattle.volume_file.specs.Loading.{end_at}
use Rattle.volume_file.specs.Answers.{Gives, IsCaused, IsField, IsRefused, IsText, Tells, TellsFault}

-- what is left, where that is told
left_of : Option (List ℕ) → List ℕ
left_of None = []
left_of (Some left) = left

none_left : (a : Option (List ℕ)) → IsAtEnd a → left_of a ≡ []
unfolding left_of
none_left None end = refl
none_left (Some left) end = end

-- what was taken and what is left
pub text_then : (b a : Option (List ℕ)) (front text : List ℕ) → Consumes b a front → IsText a text → IsText b (front ++ text)
text_then None a front text taken is = tt
text_then (Some x) None front text taken is = absurd taken
text_then (Some x) (Some y) front text taken is = taken ∙ ap (λ (l : List ℕ). front ++ l) is

text_left : (a : Option (List ℕ)) → IsText a (left_of a)
unfolding left_of
text_left None = tt
text_left (Some left) = refl

field_taken : (b a : Option (List ℕ)) (size : ℕ) (field : List ℕ) → IsField b a size field → take size (field ++ left_of a) ≡ field
field_taken b a size field f = elim (cases_lt (length field) size) [
  | inl short ↦
      ap (λ (l : List ℕ). take size (field ++ l)) (none_left a (f.end short))
      ∙ ap (take size) (append-nil field)
      ∙ take_all size field (omega (arith, short))
  | inr long ↦ take_at field (left_of a) size (omega (arith, long, f.bound))
]

-- a field that is wrong or cut
pub refused_field : {B : Type 0} (read : List ℕ → Result B LoadFault) (b a : Option (List ℕ)) (size : ℕ) (field : List ℕ) (fault : LoadFault)
    → IsField b a size field → read field ≡ Err fault → IsRefused (λ bytes. read (take size bytes)) b fault
refused_field read b a size field fault f wrong = record {
  text = field ++ left_of a;
  left = text_then b a field (left_of a) f.read (text_left a);
  refused = ap read (field_taken b a size field f) ∙ wrong;
}

-- a fault behind what was read
pub refused_then : {B C : Type 0} (later : List ℕ → Result C LoadFault) (read : List ℕ → Result B LoadFault) (b m : Option (List ℕ)) (front : List ℕ)
    (fault : LoadFault)
    → Consumes b m front → ((text : List ℕ) → later text ≡ Err fault → read (front ++ text) ≡ Err fault) → IsRefused later m fault
    → IsRefused read b fault
refused_then later read b m front fault taken same r =
    record { text = front ++ r.text; left = text_then b m front r.text taken r.left; refused = same r.text r.refused }

-- a fault in a first part
pub refused_first : {B C : Type 0} (first : List ℕ → Result C LoadFault) (read : List ℕ → Result B LoadFault) (b : Option (List ℕ)) (fault : LoadFault)
    → ((text : List ℕ) → first text ≡ Err fault → read text ≡ Err fault) → IsRefused first b fault → IsRefused read b fault
refused_first first read b fault same r = record { text = r.text; left = r.left; refused = same r.text r.refused }

pub tells_refused : {B : Type 0} (read : List ℕ → Result B LoadFault) (b : Option (List ℕ)) (fault : LoadFault) → IsRefused read b fault
    → TellsFault read b fault
tells_refused read b (BadHead offset) r = r
tells_refused read b (BadTrack track offset) r = r
tells_refused read b (Trailing offset) r = r
tells_refused read b ReadFault r = tt
tells_refused read b NoMemory r = tt

-- a fault that is handed on
pub tells_on : {B C : Type 0} (later : List ℕ → Result C LoadFault) (read : List ℕ → Result B LoadFault) (b m : Option (List ℕ)) (fault : LoadFault)
    → (IsRefused later m fault → IsRefused read b fault) → TellsFault later m fault → TellsFault read b fault
tells_on later read b m (BadHead offset) on t = on t
tells_on later read b m (BadTrack track offset) on t = on t
tells_on later read b m (Trailing offset) on t = on t
tells_on later read b m ReadFault on t = tt
tells_on later read b m NoMemory on t = tt

-- a field that was read by itself
pub field_told : {A : Type 0} (read : List ℕ → Result A LoadFault) (spelled : A → List ℕ) (b a : Option (List ℕ)) (size : ℕ) (field : List ℕ)
    (r : Result A LoadFault)
    → IsField b a size field → Gives r (read field) → IfOk r (λ x. field ≡ spelled x)
    → Tells (λ bytes. read (take size bytes)) spelled b a r
field_told read spelled b a size field (Ok x) f gives is = subst (Consumes b a) is f.read
field_told read spelled b a size field (Err (BadHead offset)) f gives is = refused_field read b a size field (BadHead offset) f (sym gives)
field_told read spelled b a size field (Err (BadTrack track offset)) f gives is = refused_field read b a size field (BadTrack track offset) f (sym gives)
field_told read spelled b a size field (Err (Trailing offset)) f gives is = refused_field read b a size field (Trailing offset) f (sym gives)
field_told read spelled b a size field (Err ReadFault) f gives is = tt
field_told read spelled b a size field (Err NoMemory) f gives is = tt

pub gives_same : {A : Type 0} (r wanted : Result A LoadFault) → r ≡ wanted → Gives r wanted
gives_same (Ok x) wanted is = is
gives_same (Err (BadHead offset)) wanted is = is
gives_same (Err (BadTrack track offset)) wanted is = is
gives_same (Err (Trailing offset)) wanted is = is
gives_same (Err ReadFault) wanted is = tt
gives_same (Err NoMemory) wanted is = tt

-- a fault that is handed on
pub caused_on : (A B : Type 0) (b n : ℕ) (fault : LoadFault) → (let r : Result A LoadFault = Err fault in IsCaused b n r)
    → (let r : Result B LoadFault = Err fault in IsCaused b n r)
caused_on A B b n (BadHead offset) c = c
caused_on A B b n (BadTrack track offset) c = c
caused_on A B b n (Trailing offset) c = c
caused_on A B b n ReadFault c = c
caused_on A B b n NoMemory c = c

pub caused_then : {A : Type 0} (b m n : ℕ) (r : Result A LoadFault) → m ≡ b → IsCaused m n r → IsCaused b n r
caused_then b m n r same c = subst (λ (x : ℕ). IsCaused x n r) same c

-- the end of a file is looked for, and a byte is there
pub end_told : (at : ℕ) (b a : Option (List ℕ)) (size : ℕ) (field : List ℕ) → IsField b a size field → (length field ≡ 0 → ⊥)
    → IsRefused (end_at at) b (Trailing at)
end_told at b a size [] f some = absurd (some refl)
end_told at b a size (x ∷ field) f some =
    record { text = x ∷ (field ++ left_of a); left = text_then b a (x ∷ field) (left_of a) f.read (text_left a); refused = refl }

pub field_refused : {B : Type 0} (read : List ℕ → Result B LoadFault) (b a : Option (List ℕ)) (size : ℕ) (field : List ℕ) (fault : LoadFault)
    → IsField b a size field
    → Err fault ≡ read field → TellsFault (λ bytes. read (take size bytes)) b fault
field_refused read b a size field fault f wrong =
    tells_refused (λ bytes. read (take size bytes)) b fault (refused_field read b a size field fault f (sym wrong))

pub not_none : (n : ℕ) (b : Bool) → b ≡ eqb n 0 → b ≡ false → n ≡ 0 → ⊥
not_none n b is untrue none = absurd (false≢true (sym untrue ∙ is ∙ eq-eqb n 0 none))

-- a fault is handed on behind reads that did not fail
pub caused_behind : (A B : Type 0) (b m n : ℕ) (fault : LoadFault) → m ≡ b → (let r : Result A LoadFault = Err fault in IsCaused m n r)
    → (let r : Result B LoadFault = Err fault in IsCaused b n r)
caused_behind A B b m n fault same c = caused_on A B b n fault (caused_then {A = A} b m n (Err fault) same c)
