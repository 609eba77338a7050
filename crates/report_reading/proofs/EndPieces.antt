-- What stands at the front of a text, as a line spells it, and a space behind it.
use Rattle.std.proofs.Common.{◌≡◌, ◌<◌, ◌≤◌, ◌+◌, ◌-◌, ◌*◌, ◌/◌, ◌%◌, ◌∷◌, [], ◌++◌, ℕ, List, Bool, true, false, cond, Some, None, length, get_or, take, drop}
use Rattle.std.proofs.Common.{refl, sym, ap, ◌∙◌, arith, rules}
use Rattle.std.specs.Prelude.{codes, decimal, slice_index}
use Rattle.std.specs.Str.{bytes_eq}
use Rattle.std.proofs.lemmas.Bool.{and_from, and_parts}
use Rattle.std.proofs.lemmas.Bool.Decides.{nat_tests}
use Rattle.std.proofs.lemmas.Fmt.{decimal-digits_value}
use Rattle.std.proofs.lemmas.List.{append-nil, drop_more, get_or-take, length-take-le, take-append-drop, take_more}
use Rattle.std.proofs.lemmas.Slice.Eq.{bytes_eq-Decides}
use Rattle.std.proofs.lemmas.Str.Parse.{IsNumeralModel, numerals_by_fold}
use Rattle.ckd_types.specs.declared.channel.Note.{Note}
use Rattle.ckd_types.specs.declared.channel.Note.TheVariants.{IncorrectLength, Limit, Plain}
use Rattle.hex.specs.Hex.{encode_upper, encode_with, upper_digits}
use Rattle.report_text.specs.Keywords.{keyword_text}
use Rattle.report_text.specs.Numbers.{are_digits, is_digit, value_after}
use Rattle.report_text.specs.Words.{note_key}
use Rattle.report_text.specs.Lines.{text_of}
use Rattle.report_text.specs.declared.keyword.Keyword.{Keyword}
use Rattle.report_text.specs.declared.keyword.Keyword.TheVariants as words
use Rattle.report_text.specs.declared.line.EndLine.{EndLine}
use Rattle.report_text.specs.declared.line.ReportLine.TheVariants.{End}
use Rattle.report_reading.specs.Places.{is_key, note_of}

-- one digit more
are_more : (ds : List ℕ) (b : ℕ) → are_digits ds ≡ true → is_digit b ≡ true → are_digits (ds ++ b ∷ []) ≡ true
are_more [] b h d = and_from (is_digit b) true d refl
are_more (x ∷ ds) b h d =
    let p = and_parts (is_digit x) (are_digits ds) h in
    and_from (is_digit x) (are_digits (ds ++ b ∷ [])) p.0 (are_more ds b p.1 d)

value_more : (n : ℕ) (ds : List ℕ) (b : ℕ) → value_after n (ds ++ b ∷ []) ≡ value_after n ds * 10 + (b - 48)
value_more n [] b = refl
value_more n (x ∷ ds) b = value_more (n * 10 + (x - 48)) ds b

digit_is : (b : ℕ) → 48 ≤ b → b ≤ 57 → is_digit b ≡ true
digit_is b least most = grind (arith, nat_tests)

module _ (text : List ℕ) (i value : ℕ) (within : i < length text) (least : 48 ≤ get_or text i 0) (most : get_or text i 0 ≤ 57) where
  pub digits_on : are_digits (take i text) ≡ true → are_digits (take (i + 1) text) ≡ true
  digits_on h = ap are_digits (take_more text i 0 within) ∙ are_more (take i text) (get_or text i 0) h (digit_is (get_or text i 0) least most)

  pub value_on : value_after 0 (take i text) ≡ value → value_after 0 (take (i + 1) text) ≡ value * 10 + (get_or text i 0 - 48)
  value_on h =
      ap (value_after 0) (take_more text i 0 within) ∙ value_more 0 (take i text) (get_or text i 0)
      ∙ ap (λ (n : ℕ). n * 10 + (get_or text i 0 - 48)) h

-- the digits of a number
own : IsNumeralModel (λ ds. are_digits ds ≡ true) (value_after 0)
own = numerals_by_fold _ (search rules) value_after (search rules)

split_at : (text : List ℕ) (i : ℕ) → i < length text → text ≡ take i text ++ get_or text i 0 ∷ drop (i + 1) text
split_at text i within = sym (take-append-drop i text) ∙ ap (λ (l : List ℕ). take i text ++ l) (drop_more text i 0 within)

pub number_stands : (text : List ℕ) (i value : ℕ) → i < length text → are_digits (take i text) ≡ true → value_after 0 (take i text) ≡ value
    → value ≤ 65535 → 0 < i → get_or text i 0 ≡ 32 → (get_or text 0 0 ≡ 48 → i ≡ 1) → text ≡ decimal value ++ 32 ∷ drop (i + 1) text
number_stands text i value within digits is most some space first =
    let long : length (take i text) ≡ i = length-take-le i text (omega (arith, within)) in
    let spelled : decimal (value_after 0 (take i text)) ≡ take i text =
    decimal-digits_value own (take i text) digits (omega (arith, long, some))
    (λ zero. long ∙ first (sym (get_or-take i text 0 0 some) ∙ zero)) (omega (arith, is, most)) in
    split_at text i within
    ∙ ap (λ (l : List ℕ). l ++ get_or text i 0 ∷ drop (i + 1) text) (sym spelled ∙ ap decimal is)
    ∙ ap (λ (b : ℕ). decimal value ++ b ∷ drop (i + 1) text) space

-- the digits of a byte
pub byte_stands : (text left rest : List ℕ) (b : ℕ)
    → ((l : List ℕ) → bytes_eq text (slice_index upper_digits (b / 16) ∷ slice_index upper_digits (b % 16) ∷ l) ≡ bytes_eq left l)
    → bytes_eq (take 1 left) (codes " ") ≡ true → rest ≡ drop 1 left → text ≡ encode_upper (b ∷ []) ++ 32 ∷ rest
unfolding encode_with
byte_stands text left rest b digits space is =
    let left_is : left ≡ 32 ∷ rest =
    sym (take-append-drop 1 left) ∙ ap (λ (l : List ℕ). l ++ drop 1 left) ((bytes_eq-Decides (take 1 left) (codes " ")).0 space)
    ∙ ap (λ (l : List ℕ). 32 ∷ l) (sym is) in
    (bytes_eq-Decides text (encode_upper (b ∷ []) ++ 32 ∷ rest)).0
    (digits (32 ∷ rest) ∙ (bytes_eq-Decides left (32 ∷ rest)).1 left_is)

-- a note
keyword_is : (w : List ℕ) (key : Keyword) → is_key w key ≡ true → w ≡ keyword_text key
unfolding is_key
keyword_is w key is = (bytes_eq-Decides w (keyword_text key)).0 is

note_by : (w : List ℕ) (n : Note) (x y z : Bool) → (x ≡ true → w ≡ keyword_text words.Plain) → (y ≡ true → w ≡ keyword_text words.Incorrect)
    → (z ≡ true → w ≡ keyword_text words.Limit)
    → cond x (Some Plain) (cond y (Some IncorrectLength) (cond z (Some Limit) None)) ≡ Some n → w ≡ keyword_text (note_key n)
note_by w n true y z p q r is = p refl ∙ ap (λ (m : Note). keyword_text (note_key m)) (let e : Plain ≡ n = cc in e)
note_by w n false true z p q r is = q refl ∙ ap (λ (m : Note). keyword_text (note_key m)) (let e : IncorrectLength ≡ n = cc in e)
note_by w n false false true p q r is = r refl ∙ ap (λ (m : Note). keyword_text (note_key m)) (let e : Limit ≡ n = cc in e)
note_by w n false false false p q r is = absurd (cc)

note_text : (w : List ℕ) (n : Note) → note_of w ≡ Some n → w ≡ keyword_text (note_key n)
note_text w n is =
    note_by w n (is_key w words.Plain) (is_key w words.Incorrect) (is_key w words.Limit)
    (keyword_is w words.Plain) (keyword_is w words.Incorrect) (keyword_is w words.Limit) is

-- an END line
spelled_before : (word rest left : List ℕ) → rest ≡ left → word ++ 32 ∷ rest ≡ word ++ (32 ∷ left)
spelled_before word rest left is = ap (λ (l : List ℕ). word ++ 32 ∷ l) is

pub end_stands : (e : EndLine) (text t0 t1 t2 t3 t4 t5 t6 : List ℕ) → bytes_eq (take 4 text) (codes "END ") ≡ true → t0 ≡ drop 4 text
    → t0 ≡ decimal e.path ++ 32 ∷ t1 → t1 ≡ decimal e.device ++ 32 ∷ t2 → t2 ≡ decimal e.ordinal ++ 32 ∷ t3 → t3 ≡ decimal e.index ++ 32 ∷ t4
    → t4 ≡ encode_upper (e.status.0 ∷ []) ++ 32 ∷ t5 → t5 ≡ decimal e.residual ++ 32 ∷ t6 → note_of t6 ≡ Some e.note → text ≡ text_of (End e)
unfolding text_of
end_stands e text t0 t1 t2 t3 t4 t5 t6 starts rest path device ordinal index status residual note =
    sym (take-append-drop 4 text) ∙ ap (λ (l : List ℕ). l ++ drop 4 text) ((bytes_eq-Decides (take 4 text) (codes "END ")).0 starts)
    ∙ ap (λ (l : List ℕ). codes "END " ++ l) (sym rest
    ∙ path ∙ spelled_before (decimal e.path) t1 _ (device
    ∙ spelled_before (decimal e.device) t2 _ (ordinal
    ∙ spelled_before (decimal e.ordinal) t3 _ (index
    ∙ spelled_before (decimal e.index) t4 _ (status
    ∙ spelled_before (encode_upper (e.status.0 ∷ [])) t5 _ (residual
    ∙ spelled_before (decimal e.residual) t6 _ (note_text t6 e.note note ∙ sym (append-nil (keyword_text (note_key e.note))))))))))
