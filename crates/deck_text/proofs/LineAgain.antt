-- A line of words with one space between them is read as these words.
use Rattle.std.proofs.Common.{◌≡◌, ◌≢◌, ◌≤◌, ◌∷◌, [], ◌++◌, ◌+◌, ℕ, List, true, false, Option, Some, Ok, refl, ap, ◌∙◌, arith, append_assoc}
use Rattle.std.specs.Prelude.{slice_index, nat_lt, nat_le, ◌&&◌}
use Rattle.std.proofs.lemmas.Bool.{and_parts}
use Rattle.std.proofs.lemmas.Bool.Decides.{nat_tests}
use Rattle.std.proofs.lemmas.List.{append-nil}
use Rattle.deck_text.specs.declared.keyword.DeckKeyword.{DeckKeyword}
use Rattle.deck_text.specs.Lines.{text_lines, has_bad_byte, is_comment}
use Rattle.deck_text.specs.Words.{words_of}
use Rattle.deck_text.specs.Keywords.{keyword_of}
use Rattle.deck_text.specs.Reading.{State, may_stand, line_put, put_words, take_line}
use Rattle.deck_text.specs.Parse.{or_stop, read_lines}
use Rattle.deck_text.proofs.ReadBack.{are_letters, word_then, word_alone, line_then}
use Rattle.deck_text.proofs.CcwAgain.{IsWord}

abbrev pub AreWords : List (List ℕ) → Type 0
AreWords [] = Unit {0}
AreWords (w ∷ ws) = IsWord w × AreWords ws

-- with one space between words
unfoldable pub join : List (List ℕ) → List ℕ
join [] = []
join (w ∷ []) = w
join (w ∷ v ∷ ws) = w ++ 32 ∷ join (v ∷ ws)

words_joined : (ws : List (List ℕ)) → AreWords ws → words_of (join ws) ≡ ws
unfolding join
words_joined [] h = refl
words_joined ([] ∷ ws) h = let p = h.0.some in absurd (omega arith)
words_joined ((b ∷ w) ∷ []) h = word_alone b w h.0.letters
words_joined ((b ∷ w) ∷ v ∷ ws) h = word_then b w (join (v ∷ ws)) h.0.letters ∙ ap (λ (l : List (List ℕ)). (b ∷ w) ∷ l) (words_joined (v ∷ ws) h.1)

good_byte : (b : ℕ) (bytes : List ℕ) → 32 ≤ b → b ≤ 126 → has_bad_byte bytes ≡ false → has_bad_byte (b ∷ bytes) ≡ false
good_byte b bytes low high h = grind (arith, nat_tests)

printed : (b : ℕ) → (nat_lt 32 b && nat_le b 126) ≡ true → (32 ≤ b) × (b ≤ 126)
printed b h = (grind (arith, nat_tests), grind (arith, nat_tests))

letters_good : (w rest : List ℕ) → are_letters w ≡ true → has_bad_byte rest ≡ false → has_bad_byte (w ++ rest) ≡ false
letters_good [] rest h g = g
letters_good (b ∷ w) rest h g =
    let p = and_parts (nat_lt 32 b && nat_le b 126) (are_letters w) h in
    let r = printed b p.0 in
    good_byte b (w ++ rest) r.0 r.1 (letters_good w rest p.1 g)

joined_good : (ws : List (List ℕ)) → AreWords ws → has_bad_byte (join ws) ≡ false
unfolding join
joined_good [] h = refl
joined_good (w ∷ []) h = let e = letters_good w [] h.0.letters refl in rw append-nil at e
joined_good (w ∷ v ∷ ws) h =
    letters_good w (32 ∷ join (v ∷ ws)) h.0.letters (good_byte 32 (join (v ∷ ws)) (omega arith) (omega arith) (joined_good (v ∷ ws) h.1))

joined_first : (b : ℕ) (w : List ℕ) (ws : List (List ℕ)) → slice_index (join ((b ∷ w) ∷ ws)) 0 ≡ b
unfolding join
joined_first b w [] = refl
joined_first b w (v ∷ ws) = refl

no_comment : (line : List ℕ) (b : ℕ) → slice_index line 0 ≡ b → b ≢ 42 → is_comment line ≡ false
no_comment line b is ne = grind (arith, nat_tests)

-- a line of these words does what they say
line_does : (n : ℕ) (s : State) (b : ℕ) (w : List ℕ) (ws : List (List ℕ)) → b ≢ 42 → AreWords ((b ∷ w) ∷ ws)
    → take_line n (join ((b ∷ w) ∷ ws)) s ≡ put_words n s (keyword_of (b ∷ w)) ws
line_does n s b w ws ne h =
    let comment = no_comment (join ((b ∷ w) ∷ ws)) b (joined_first b w ws) ne in
    let good = joined_good ((b ∷ w) ∷ ws) h in
    let words = words_joined ((b ∷ w) ∷ ws) h in
    rw (comment, words, good) refl

-- a text leads from one state of a reading to another, whatever its lines' numbers are and whatever follows
abbrev pub Leads : State → List ℕ → State → Type 0
Leads s text t = (n : ℕ) (rest : List ℕ) → (m : ℕ) × (read_lines n s (text_lines (text ++ rest)) ≡ read_lines m t (text_lines rest))

pub leads_none : (s : State) → Leads s [] s
leads_none s = λ n rest. (n, refl)

pub leads_then : (s t u : State) (a b : List ℕ) → Leads s a t → Leads t b u → Leads s (a ++ b) u
leads_then s t u a b first second = λ n rest.
    let f = first n (b ++ rest) in
    let g = second f.0 rest in
    (g.0, ap (λ (l : List ℕ). read_lines n s (text_lines l)) (append_assoc a b rest) ∙ f.1 ∙ g.1)

put_known : (n : ℕ) (s t : State) (word : Option DeckKeyword) (k : DeckKeyword) (ws : List (List ℕ)) → word ≡ Some k → may_stand k s.place ≡ true → line_put n s k ws ≡ Ok t
    → put_words n s word ws ≡ Ok t
put_known n s t word k ws is stands does = rw (is, stands) does

one_line : (n : ℕ) (s t : State) (b : ℕ) (w : List ℕ) (ws : List (List ℕ)) (k : DeckKeyword) (rest : List ℕ) → b ≢ 42 → AreWords ((b ∷ w) ∷ ws)
    → keyword_of (b ∷ w) ≡ Some k → may_stand k s.place ≡ true → line_put n s k ws ≡ Ok t
    → read_lines n s (text_lines (join ((b ∷ w) ∷ ws) ++ 10 ∷ rest)) ≡ read_lines (n + 1) t (text_lines rest)
one_line n s t b w ws k rest ne h is stands does =
    ap (read_lines n s) (line_then (join ((b ∷ w) ∷ ws)) rest (joined_good ((b ∷ w) ∷ ws) h))
    ∙ ap (λ r. or_stop r (λ u. read_lines (n + 1) u (text_lines rest))) (line_does n s b w ws ne h ∙ put_known n s t (keyword_of (b ∷ w)) k ws is stands does)

-- one line, with what it does at each number
pub leads_line : (s t : State) (b : ℕ) (w : List ℕ) (ws : List (List ℕ)) (k : DeckKeyword) (text : List ℕ) → text ≡ join ((b ∷ w) ∷ ws) ++ 10 ∷ [] → b ≢ 42
    → AreWords ((b ∷ w) ∷ ws) → keyword_of (b ∷ w) ≡ Some k → may_stand k s.place ≡ true
    → ((n : ℕ) → line_put n s k ws ≡ Ok t) → Leads s text t
leads_line s t b w ws k text is ne h key stands does = λ n rest. (
  n + 1,
  ap (λ (l : List ℕ). read_lines n s (text_lines l)) (ap (λ (l : List ℕ). l ++ rest) is ∙ append_assoc (join ((b ∷ w) ∷ ws)) (10 ∷ []) rest)
      ∙ one_line n s t b w ws k rest ne h key stands (does n),
)

-- the same where the state behind it has the line's number
pub line_at : (n : ℕ) (s t : State) (b : ℕ) (w : List ℕ) (ws : List (List ℕ)) (k : DeckKeyword) (text rest : List ℕ) → text ≡ join ((b ∷ w) ∷ ws) ++ 10 ∷ []
    → b ≢ 42 → AreWords ((b ∷ w) ∷ ws) → keyword_of (b ∷ w) ≡ Some k → may_stand k s.place ≡ true
    → line_put n s k ws ≡ Ok t → read_lines n s (text_lines (text ++ rest)) ≡ read_lines (n + 1) t (text_lines rest)
line_at n s t b w ws k text rest is ne h key stands does =
    ap (λ (l : List ℕ). read_lines n s (text_lines l)) (ap (λ (l : List ℕ). l ++ rest) is ∙ append_assoc (join ((b ∷ w) ∷ ws)) (10 ∷ []) rest)
    ∙ one_line n s t b w ws k rest ne h key stands does
