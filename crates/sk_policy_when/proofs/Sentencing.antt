-- Words of lines are sentences, one after the other.
use Rattle.std.proofs.Common.{◌≡◌, ◌+◌, ◌-◌, ◌==◌, not, ◌∙◌, ap, sym, refl, subst, inl, inr, ℕ, zero, suc, List, [], ◌∷◌, ◌++◌, length, take, drop, map, codes, if◌then◌else◌, bytes_eq, slice_get, true, false, Ok, append_assoc}
use Rattle.std.specs.List.{All, before_first, list_all, position_or_len}
use Rattle.std.proofs.lemmas.Bool.{and_from, and_left, and_parts, and_right, cases_Bool, false≢true, or_right}
use Rattle.std.proofs.lemmas.List.{append-nil}
use Rattle.std.proofs.lemmas.List.Elements.{All-nil, All-cons, All-head, All-tail, All-append}
use Rattle.sk_text.specs.Lines.{lines_of}
use Rattle.sk_text.proofs.Cuts.{one_further}
use Rattle.sk_names.specs.declared.architecture.Architecture.{Architecture}
use Rattle.sk_policy_text.specs.declared.word.Place.{Place}
use Rattle.sk_policy_text.specs.declared.word.Place.TheVariants as place
use Rattle.sk_policy_text.specs.Words.{Word, begins_blank, begins_joined, begun, ended, goes_on, is_blank, is_comma, place_of, placed, words_behind, words_of_line, words_with}
use Rattle.sk_policy_text.specs.Sentences.{Said, begins, sentence_in, sentence_length}
use Rattle.sk_policy_text.specs.PolicyMade.{first_words, words_behind as others_behind}
use Rattle.sk_policy_when.specs.Written.{words_in}
use Rattle.sk_policy_when.specs.Texts.{AreSentences, together}
use Rattle.sk_policy_when.proofs.Cutting.{AreClean, both_clean, is_clean}
use Rattle.sk_policy_when.proofs.Splitting.{before_clean}

-- ---- words that are no commas

abbrev pub NoComma : List ℕ → Type 0
NoComma text = bytes_eq text (codes ",") ≡ false

abbrev pub IsOther : Word → Type 0
IsOther word = NoComma word.text

no_comma : (byte : ℕ) → is_clean byte ≡ true → (byte == 44) ≡ false
no_comma byte h = elim (cases_Bool (byte == 44)) [
  | inl t ↦ absurd (false≢true (rw (t, and_right (not (byte == 35)) false refl, and_right (not (byte == 10)) false refl) at h))
  | inr f ↦ f
]

clean_word : (word : List ℕ) → AreClean word → NoComma word
clean_word [] h = refl
clean_word (byte ∷ word) h = and_left (byte == 44) (bytes_eq word []) (no_comma byte (and_parts (is_clean byte) (list_all is_clean word) h).0)

clean_ended : (word : List ℕ) → AreClean word → All NoComma (ended word)
clean_ended [] h = All-nil NoComma
clean_ended (byte ∷ word) h = All-cons NoComma (byte ∷ word) [] (clean_word (byte ∷ word) h) (All-nil NoComma)

clean_begun : (byte : ℕ) → is_clean byte ≡ true → AreClean (begun byte)
unfolding begun
clean_begun byte h = elim (cases_Bool (is_blank byte)) [
  | inl t ↦ rw t refl
  | inr f ↦ rw f (and_from (is_clean byte) true h refl)
]

clean_words : (word line : List ℕ) → AreClean word → AreClean line → All NoComma (words_behind word line)
clean_words word [] h k = clean_ended word h
clean_words word (byte ∷ line) h k =
    let parts = and_parts (is_clean byte) (list_all is_clean line) k in
    elim (cases_Bool (goes_on word byte)) [
      | inl t ↦ rw t (clean_words (word ++ byte ∷ []) line (both_clean word (byte ∷ []) h (and_from (is_clean byte) true parts.0 refl)) parts.1)
      | inr f ↦ rw f (All-append NoComma (ended word) (words_behind (begun byte) line) (clean_ended word h) (clean_words (begun byte) line (clean_begun byte parts.0) parts.1))
    ]

pub clean_line : (line : List ℕ) → AreClean line → All NoComma (words_of_line line)
clean_line line h =
    let alone : before_first (λ byte. byte == 35) line ≡ line = ap (before_first (λ byte. byte == 35)) (sym (append-nil line)) ∙ before_clean line [] h ∙ append-nil line in
    subst (λ (l : List ℕ). All NoComma (words_behind [] l)) (sym alone) (clean_words [] line refl h)

pub placed_others : (number : ℕ) (where_ : Place) (texts : List (List ℕ)) → All NoComma texts → All IsOther (placed number where_ texts)
placed_others number where_ [] h = All-nil IsOther
placed_others number where_ (text ∷ texts) h =
    All-cons IsOther (record { text = text; line = number; place = where_ }) (placed number place.Behind texts)
    (All-head NoComma text texts h) (placed_others number place.Behind texts (All-tail NoComma text texts h))

not_comma : (words : List Word) (n : ℕ) → All IsOther words → is_comma (slice_get words n) ≡ false
not_comma [] n h = refl
not_comma (word ∷ words) zero h = All-head IsOther word words h
not_comma (word ∷ words) (suc n) h = not_comma words n (All-tail IsOther word words h)

-- ---- places

place_first : (before : List Word) (line : List ℕ) → All IsOther before → begins_joined (words_of_line line) ≡ false
    → place_of before line ≡ (if begins_blank line then place.Case else place.Row)
unfolding place_of
place_first before line others h = let other = not_comma before (length before - 1) others in rw (other, h) refl

place_behind : (before : List Word) (line : List ℕ) → begins_joined (words_of_line line) ≡ true → place_of before line ≡ place.Behind
unfolding place_of
place_behind before line h =
    let t = or_right (is_comma (slice_get before (length before - 1))) (begins_joined (words_of_line line)) h in rw t refl

abbrev pub IsBehind : Word → Type 0
IsBehind word = begins word.place ≡ false

pub placed_behind : (number : ℕ) (texts : List (List ℕ)) → All IsBehind (placed number place.Behind texts)
placed_behind number [] = All-nil IsBehind
placed_behind number (text ∷ texts) =
    All-cons IsBehind (record { text = text; line = number; place = place.Behind }) (placed number place.Behind texts) refl (placed_behind number texts)

pub texts_placed : (number : ℕ) (where_ : Place) (texts : List (List ℕ)) → map (λ (word : Word). word.text) (placed number where_ texts) ≡ texts
texts_placed number where_ [] = refl
texts_placed number where_ (text ∷ texts) = ap (λ l. text ∷ l) (texts_placed number place.Behind texts)

-- ---- lines that go on

abbrev GoesOn : List ℕ → Type 0
GoesOn line = begins_joined (words_of_line line) ≡ true

-- the words of such lines belong to the sentence before them
pub record GoneOn (before : List Word) (number : ℕ) (lines : List (List ℕ)) : Type 0 where
  pub more : List Word
  pub after : ℕ
  pub texts : map (λ (word : Word). word.text) more ≡ words_in lines
  pub behind : All IsBehind more
  pub are : (rest : List (List ℕ)) → words_with before number (lines ++ rest) ≡ words_with (before ++ more) after rest

map_both : (one other : List Word) → map (λ (word : Word). word.text) (one ++ other) ≡ map (λ (word : Word). word.text) one ++ map (λ (word : Word). word.text) other
map_both [] other = refl
map_both (word ∷ one) other = ap (λ l. word.text ∷ l) (map_both one other)

pub gone_on : (before : List Word) (number : ℕ) (lines : List (List ℕ)) → All GoesOn lines → GoneOn before number lines
gone_on before number [] h = record { more = []; after = number; texts = refl; behind = All-nil IsBehind; are = λ rest. ap (λ l. words_with l number rest) (sym (append-nil before)) }
gone_on before number (line ∷ lines) h =
    let here = placed number place.Behind (words_of_line line) in
    let is = place_behind before line (All-head GoesOn line lines h) in
    let other = gone_on (before ++ here) (number + 1) lines (All-tail GoesOn line lines h) in
    record {
      more = here ++ other.more;
      after = other.after;
      texts = map_both here other.more ∙ ap (λ l. l ++ map (λ (word : Word). word.text) other.more) (texts_placed number place.Behind (words_of_line line)) ∙ ap (λ l. words_of_line line ++ l) other.texts;
      behind = All-append IsBehind here other.more (placed_behind number (words_of_line line)) other.behind;
      are = λ rest.
          ap (λ p. words_with (before ++ placed number p (words_of_line line)) (number + 1) (lines ++ rest)) is
          ∙ other.are rest
          ∙ ap (λ l. words_with l other.after rest) (append_assoc before here other.more);
    }

-- ---- sentences

pub record IsSentence (by : Architecture) (words : List Word) (it : Said) : Type 0 where
  pub first : Word
  pub rest : List Word
  pub are : words ≡ first ∷ rest
  pub begins_it : begins first.place ≡ true
  pub behind : All IsBehind rest
  pub said : sentence_in by words ≡ Ok it
  pub others : All IsOther words

abbrev pub AreEach : Architecture → List (List Word) → List Said → Type 0
AreEach by [] [] = Unit {0}
AreEach by (words ∷ others) (it ∷ said) = IsSentence by words it × AreEach by others said
AreEach by words said = ⊥

each_both : (by : Architecture) (one other : List (List Word)) (said more : List Said) → AreEach by one said → AreEach by other more → AreEach by (one ++ other) (said ++ more)
each_both by [] other [] more h k = k
each_both by [] other (it ∷ said) more h k = absurd h
each_both by (words ∷ one) other [] more h k = absurd h
each_both by (words ∷ one) other (it ∷ said) more h k = (h.0, each_both by one other said more h.1 k)

each_other : (by : Architecture) (words : List (List Word)) (said : List Said) → AreEach by words said → All IsOther (together words)
each_other by [] said h = All-nil IsOther
each_other by (words ∷ others) [] h = absurd h
each_other by (words ∷ others) (it ∷ said) h = All-append IsOther words (together others) h.0.others (each_other by others said h.1)

together_both : (one other : List (List Word)) → together (one ++ other) ≡ together one ++ together other
together_both [] other = refl
together_both (words ∷ one) other = ap (λ l. words ++ l) (together_both one other) ∙ sym (append_assoc words (together one) (together other))

-- a sentence ends where the next one begins
abbrev Begins : List Word → Type 0
Begins [] = Unit {0}
Begins (word ∷ words) = begins word.place ≡ true

each_begins : (by : Architecture) (words : List (List Word)) (said : List Said) → AreEach by words said → Begins (together words)
each_begins by [] said h = tt
each_begins by (words ∷ others) [] h = absurd h
each_begins by (words ∷ others) (it ∷ said) h = subst (λ (l : List Word). Begins (l ++ together others)) (sym h.0.are) h.0.begins_it

length_behind : (rest others : List Word) → All IsBehind rest → Begins others → position_or_len (λ word. begins word.place) (rest ++ others) ≡ length rest
length_behind [] [] h b = refl
length_behind [] (word ∷ others) h b = rw b refl
length_behind (word ∷ rest) others h b =
    let f = All-head IsBehind word rest h in rw (f, one_further) (ap suc (length_behind rest others (All-tail IsBehind word rest h) b))

take_front : (one other : List Word) → take (length one) (one ++ other) ≡ one
take_front [] other = refl
take_front (word ∷ one) other = ap (λ l. word ∷ l) (take_front one other)

drop_front : (one other : List Word) → drop (length one) (one ++ other) ≡ other
drop_front [] other = refl
drop_front (word ∷ one) other = drop_front one other

length_first : (first : Word) (rest others : List Word) → All IsBehind rest → Begins others → sentence_length ((first ∷ rest) ++ others) ≡ suc (length rest)
length_first first rest others h b = one_further (position_or_len (λ word. begins word.place) (rest ++ others)) ∙ ap suc (length_behind rest others h b)

first_is : (words others : List Word) (first : Word) (rest : List Word) → words ≡ first ∷ rest → All IsBehind rest → Begins others → first_words (words ++ others) ≡ words
first_is words others first rest is h b =
    ap (λ l. first_words (l ++ others)) is
    ∙ ap (λ n. take n ((first ∷ rest) ++ others)) (length_first first rest others h b)
    ∙ take_front (first ∷ rest) others
    ∙ sym is

behind_is : (words others : List Word) (first : Word) (rest : List Word) → words ≡ first ∷ rest → All IsBehind rest → Begins others → others_behind (words ++ others) ≡ others
behind_is words others first rest is h b =
    ap (λ l. others_behind (l ++ others)) is
    ∙ ap (λ n. drop n ((first ∷ rest) ++ others)) (length_first first rest others h b)
    ∙ drop_front (first ∷ rest) others

pub each_sentence : (by : Architecture) (words : List (List Word)) (said : List Said) → AreEach by words said → AreSentences by (together words) said
each_sentence by [] [] h = refl
each_sentence by [] (it ∷ said) h = absurd h
each_sentence by (words ∷ others) [] h = absurd h
each_sentence by (words ∷ others) (it ∷ said) h =
    let one = h.0 in
    let next = each_begins by others said h.1 in (
      ap (sentence_in by) (first_is words (together others) one.first one.rest one.are one.behind next) ∙ one.said,
      subst (λ (l : List Word). AreSentences by l said) (sym (behind_is words (together others) one.first one.rest one.are one.behind next)) (each_sentence by others said h.1),
    )

-- ---- texts

-- a text behind others is sentences
pub record Reads (by : Architecture) (text : List ℕ) (Are : List Said → Type 0) (before : List Word) (number : ℕ) : Type 0 where
  pub words : List (List Word)
  pub after : ℕ
  pub said : List Said
  pub are : Are said
  pub each : AreEach by words said
  pub lines : (rest : List ℕ) → words_with before number (lines_of (text ++ rest)) ≡ words_with (before ++ together words) after (lines_of rest)

abbrev pub ReadsAs : Architecture → List ℕ → (List Said → Type 0) → Type 0
ReadsAs by text Are = (before : List Word) (number : ℕ) → All IsOther before → Reads by text Are before number

pub read_none : (by : Architecture) (Are : List Said → Type 0) → Are [] → ReadsAs by [] Are
read_none by Are are before number others =
    record { words = []; after = number; said = []; are = are; each = tt; lines = λ rest. ap (λ l. words_with l number (lines_of rest)) (sym (append-nil before)) }

pub read_both : (by : Architecture) (text more : List ℕ) (One Other Both : List Said → Type 0) → ((said others : List Said) → One said → Other others → Both (said ++ others))
    → ReadsAs by text One → ReadsAs by more Other → ReadsAs by (text ++ more) Both
read_both by text more One Other Both joins first second before number others =
    let one = first before number others in
    let other = second (before ++ together one.words) one.after (All-append IsOther before (together one.words) others (each_other by one.words one.said one.each)) in
    record {
      words = one.words ++ other.words;
      after = other.after;
      said = one.said ++ other.said;
      are = joins one.said other.said one.are other.are;
      each = each_both by one.words other.words one.said other.said one.each other.each;
      lines = λ rest.
          ap (λ l. words_with before number (lines_of l)) (append_assoc text more rest)
          ∙ one.lines (more ++ rest)
          ∙ other.lines rest
          ∙ ap (λ l. words_with l other.after (lines_of rest)) (append_assoc before (together one.words) (together other.words) ∙ ap (λ l. before ++ l) (sym (together_both one.words other.words)));
    }

-- the words of a first line
pub record BeginsWith (words : List (List ℕ)) : Type 0 where
  pub word : List ℕ
  pub others : List (List ℕ)
  pub are : words ≡ word ∷ others
  pub no_sign : begins_joined words ≡ false

-- one sentence in one line or more
pub read_one : (by : Architecture) (text first : List ℕ) (others : List (List ℕ)) (where_ : Place) (it : (number : ℕ) (more : List Word) → Said) (Are : List Said → Type 0)
    → ((rest : List ℕ) → lines_of (text ++ rest) ≡ first ∷ (others ++ lines_of rest))
    → BeginsWith (words_of_line first) → (if begins_blank first then place.Case else place.Row) ≡ where_ → begins where_ ≡ true
    → All GoesOn others → All NoComma (words_of_line first ++ words_in others)
    → ((number : ℕ) (more : List Word) → map (λ (word : Word). word.text) more ≡ words_in others
    → (sentence_in by (placed number where_ (words_of_line first) ++ more) ≡ Ok (it number more)) × Are (it number more ∷ []))
    → ReadsAs by text Are
read_one by text first others where_ it Are lines starts is begins_it go_on commas reads before number free =
    let here = placed number where_ (words_of_line first) in
    let more = gone_on (before ++ here) (number + 1) others go_on in
    let read = reads number more.more more.texts in
    let texts : map (λ (word : Word). word.text) (here ++ more.more) ≡ words_of_line first ++ words_in others =
    map_both here more.more ∙ ap (λ l. l ++ map (λ (word : Word). word.text) more.more) (texts_placed number where_ (words_of_line first)) ∙ ap (λ l. words_of_line first ++ l) more.texts in
    record {
      words = (here ++ more.more) ∷ [];
      after = more.after;
      said = it number more.more ∷ [];
      are = read.1;
      each = (
        record {
          first = record { text = starts.word; line = number; place = where_ };
          rest = placed number place.Behind starts.others ++ more.more;
          are = ap (λ l. placed number where_ l ++ more.more) starts.are;
          begins_it = begins_it;
          behind = All-append IsBehind (placed number place.Behind starts.others) more.more (placed_behind number starts.others) more.behind;
          said = read.0;
          others = all_other (here ++ more.more) (subst (All NoComma) (sym texts) commas);
        },
        tt,
      );
      lines = λ rest.
          ap (words_with before number) (lines rest)
          ∙ ap (λ p. words_with (before ++ placed number p (words_of_line first)) (number + 1) (others ++ lines_of rest)) (place_first before first free starts.no_sign ∙ is)
          ∙ more.are (lines_of rest)
          ∙ ap (λ l. words_with l more.after (lines_of rest)) (append_assoc before here more.more ∙ ap (λ l. before ++ l) (sym (append-nil (here ++ more.more))));
    }
  where
    all_other : (words : List Word) → All NoComma (map (λ (word : Word). word.text) words) → All IsOther words
    all_other [] h = All-nil IsOther
    all_other (word ∷ words) h =
        All-cons IsOther word words (All-head NoComma word.text (map (λ (w : Word). w.text) words) h) (all_other words (All-tail NoComma word.text (map (λ (w : Word). w.text) words) h))
