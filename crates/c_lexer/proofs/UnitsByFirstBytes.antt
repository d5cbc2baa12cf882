-- Which unit comes before a text, by its first bytes.
use Rattle.std.proofs.Common.{◌≡◌, ℕ, suc, zero, ◌+◌, ◌<◌, ◌≤◌, Bool, true, false, ◌&&◌, ◌==◌, List, [], ◌∷◌, length, take, drop, get_or, Option, None, refl, subst, ⊎_elim, arith}
use Rattle.std.specs.Prelude.{if◌then◌else◌}
use Rattle.std.proofs.str.Laws.{order}
use Rattle.std.specs.Char.{is_ascii_digit}
use Rattle.std.specs.List.{list_all}
use Rattle.std.specs.Str.{is_utf8, chars}
use Rattle.std.proofs.lemmas.Bool.{eqb-true}
use Rattle.std.proofs.lemmas.Bool.Decides.{nat_tests}
use Rattle.c_lexer.specs.declared.token.TokenKind.TheVariants.{Number, Character, Str, Punctuator}
use Rattle.c_lexer.specs.declared.unit.Reading.{Reading}
use Rattle.c_lexer.specs.declared.unit.Reading.TheVariants.{Space, Lexeme, Bad}
use Rattle.c_lexer.specs.declared.unit.Fault.TheVariants.{Byte, Literal}
use Rattle.c_lexer.specs.Bytes.{is_blank, stays_in_line, continues_word, may_start_word}
use Rattle.c_lexer.specs.Words.{word_kind, is_one_of}
use Rattle.c_lexer.specs.Numbers.{is_number}
use Rattle.c_lexer.specs.Units.{reading, when, is_empty, begins_with, consists_of, is_name, closes_character, closes_string, read_comment, read_line, punctuators}
use Rattle.c_lexer.specs.Prefixes.{IsLongest, IsOnly, NonePasses, Passes}
use Rattle.c_lexer.specs.Cut.{IsUnit}
use Rattle.c_lexer.proofs.LongestPrefixes.{when_unit, formed_unit, broken_unit, read_formed, unit_behind, unit_behind_two, alone_unit, tail_longest, tail_none, not_empty}

-- a length with one byte more, and with two
one_more : (read : List ℕ → Option Reading) (rest : List ℕ) (n : ℕ) (r : Reading) → IsUnit read rest (suc n) r → IsUnit read rest (n + 1) r
one_more read rest n r unit = let same : suc n ≡ n + 1 = omega arith in subst (λ k. IsUnit read rest k r) same unit

two_more : (read : List ℕ → Option Reading) (rest : List ℕ) (n : ℕ) (r : Reading) → IsUnit read rest (suc (suc n)) r → IsUnit read rest (n + 2) r
two_more read rest n r unit = let same : suc (suc n) ≡ n + 2 = omega arith in subst (λ k. IsUnit read rest k r) same unit

-- blanks

blank_form : (starts : Bool) (b : ℕ) (cs : List ℕ) → is_blank b ≡ true → reading starts (b ∷ cs) ≡ when (is_empty cs) Space
unfolding reading
blank_form starts b cs blank = rw blank refl

pub blank_is : (starts : Bool) (rest : List ℕ) → 0 < length rest → is_blank (get_or rest 0 0) ≡ true → IsUnit (reading starts) rest 1 Space
blank_is starts [] some blank = absurd (omega arith)
blank_is starts (b ∷ bs) some blank =
    unit_behind (reading starts) (λ s. when (is_empty s) Space) b bs 0 Space (λ m. blank_form starts b (take m bs) blank) (alone_unit Space bs)

-- comments

line_comment_form : (starts : Bool) (a b : ℕ) (cs : List ℕ) → a ≡ 47 → b ≡ 47 → reading starts (a ∷ b ∷ cs) ≡ when (list_all stays_in_line cs) Space
unfolding reading
line_comment_form starts a b cs one two = rw (one, two) refl

pub line_comment_is : (starts : Bool) (rest : List ℕ) (n : ℕ) → 1 < length rest → get_or rest 0 0 ≡ 47 → begins_with 47 (drop 1 rest) ≡ true
    → IsLongest (list_all stays_in_line) (drop 2 rest) n → IsUnit (reading starts) rest (n + 2) Space
line_comment_is starts [] n some one two front = absurd (omega arith)
line_comment_is starts (a ∷ []) n some one two front = absurd (omega arith)
line_comment_is starts (a ∷ b ∷ bs) n some one two front =
    two_more (reading starts) (a ∷ b ∷ bs) n Space
    (unit_behind_two (reading starts) (λ s. when (list_all stays_in_line s) Space) a b bs n Space
    (λ m. line_comment_form starts a b (take m bs) one (eqb-true b 47 two)) (when_unit (list_all stays_in_line) (λ s. Space) bs n front))

comment_form : (starts : Bool) (a b : ℕ) (cs : List ℕ) → a ≡ 47 → b ≡ 42 → reading starts (a ∷ b ∷ cs) ≡ read_comment cs
unfolding reading
comment_form starts a b cs one two = rw (one, two) refl

pub comment_is : (starts : Bool) (rest : List ℕ) (n : ℕ) (r : Reading) → 1 < length rest → get_or rest 0 0 ≡ 47 → begins_with 42 (drop 1 rest) ≡ true
    → IsUnit read_comment (drop 2 rest) n r → IsUnit (reading starts) rest (n + 2) r
comment_is starts [] n r some one two unit = absurd (omega arith)
comment_is starts (a ∷ []) n r some one two unit = absurd (omega arith)
comment_is starts (a ∷ b ∷ bs) n r some one two unit =
    two_more (reading starts) (a ∷ b ∷ bs) n r
    (unit_behind_two (reading starts) read_comment a b bs n r (λ m. comment_form starts a b (take m bs) one (eqb-true b 42 two)) unit)

-- what doesn't begin a text doesn't begin its prefixes
begins_front : (c : ℕ) (bs : List ℕ) (m : ℕ) → begins_with c bs ≡ false → begins_with c (take m bs) ≡ false
begins_front c [] zero h = refl
begins_front c [] (suc m) h = refl
begins_front c (b ∷ bs) zero h = refl
begins_front c (b ∷ bs) (suc m) h = h

pub both_front : (test : Bool) (c : ℕ) (bs : List ℕ) (m : ℕ) → (test && begins_with c bs) ≡ false → (test && begins_with c (take m bs)) ≡ false
both_front false c bs m h = refl
both_front true c bs m h = begins_front c bs m h

comment_step : (b : ℕ) (bs : List ℕ) → ((b == 42) && begins_with 47 bs) ≡ false → read_comment (b ∷ bs) ≡ read_comment bs
comment_step b [] open_ = refl
comment_step b (c ∷ bs) open_ = rw open_ refl

pub comment_passes : (rest : List ℕ) → 0 < length rest → ((get_or rest 0 0 == 42) && begins_with 47 (drop 1 rest)) ≡ false → Passes read_comment rest 1
comment_passes [] some open_ = absurd (omega arith)
comment_passes (b ∷ bs) some open_ = record {
  within = omega arith;
  beyond = λ m. let more : suc m ≡ 1 + m = omega arith in
      subst (λ k. read_comment (take k (b ∷ bs)) ≡ read_comment (take m bs)) more (comment_step b (take m bs) (both_front (b == 42) 47 bs m open_));
}

pub comment_closes : (rest : List ℕ) → ((get_or rest 0 0 == 42) && begins_with 47 (drop 1 rest)) ≡ true → IsUnit read_comment rest 2 Space
comment_closes [] close = let h : false ≡ true = close in cc
comment_closes (b ∷ []) close = let h : false ≡ true = last_false (b == 42) close in cc
  where
    last_false : (test : Bool) → (test && false) ≡ true → false ≡ true
    last_false true h = h
    last_false false h = h
comment_closes (b ∷ c ∷ bs) close = record { within = omega arith; is = rw close refl; longest = longer }
  where
    longer : (m : ℕ) → 2 < m → m ≤ length (b ∷ c ∷ bs) → read_comment (take m (b ∷ c ∷ bs)) ≡ None
    longer zero more least = absurd (omega arith)
    longer (suc zero) more least = absurd (omega arith)
    longer (suc (suc m)) more least = let e = not_empty bs m (omega arith) (omega arith) in rw (close, e) refl

-- lines from a `#` on

line_form : (starts : Bool) (b : ℕ) (cs : List ℕ) → b ≡ 35 → reading starts (b ∷ cs) ≡ when (list_all stays_in_line cs) (read_line starts (b ∷ cs))
unfolding reading
line_form starts b cs hash = rw hash refl

pub line_is : (starts : Bool) (rest : List ℕ) (n : ℕ) → 0 < length rest → get_or rest 0 0 ≡ 35 → IsLongest (list_all stays_in_line) (drop 1 rest) n
    → IsUnit (reading starts) rest (n + 1) (read_line starts (take (n + 1) rest))
line_is starts [] n some hash front = absurd (omega arith)
line_is starts (b ∷ bs) n some hash front =
    let same : suc n ≡ n + 1 = omega arith in
    subst (λ k. IsUnit (reading starts) (b ∷ bs) k (read_line starts (take k (b ∷ bs)))) same
    (unit_behind (reading starts) (λ s. when (list_all stays_in_line s) (read_line starts (b ∷ s))) b bs n (read_line starts (b ∷ take n bs))
    (λ m. line_form starts b (take m bs) hash) (when_unit (list_all stays_in_line) (λ s. read_line starts (b ∷ s)) bs n front))

-- digits

-- how a word that begins with a digit is read
abbrev pub read_digits : List ℕ → Reading
read_digits word = if is_number word then Lexeme Number else Bad Literal

digits_form : (starts : Bool) (b : ℕ) (cs : List ℕ) → is_blank b ≡ false → (b == 47) ≡ false → (b == 35) ≡ false → is_ascii_digit b ≡ true
    → reading starts (b ∷ cs) ≡ when (consists_of continues_word cs) (read_digits (b ∷ cs))
unfolding reading
digits_form starts b cs blank slash hash digit = rw (blank, slash, hash, digit) refl

digit_blank : (b : ℕ) → is_ascii_digit b ≡ true → is_blank b ≡ false
digit_blank b digit = grind (arith, nat_tests)

digit_slash : (b : ℕ) → is_ascii_digit b ≡ true → (b == 47) ≡ false
digit_slash b digit = grind (arith, nat_tests)

digit_hash : (b : ℕ) → is_ascii_digit b ≡ true → (b == 35) ≡ false
digit_hash b digit = grind (arith, nat_tests)

pub digits_are : (starts : Bool) (rest : List ℕ) (n : ℕ) → 0 < length rest → is_ascii_digit (get_or rest 0 0) ≡ true → IsLongest (consists_of continues_word) (drop 1 rest) n
    → IsUnit (reading starts) rest (n + 1) (read_digits (take (n + 1) rest))
digits_are starts [] n some digit front = absurd (omega arith)
digits_are starts (b ∷ bs) n some digit front =
    let same : suc n ≡ n + 1 = omega arith in
    subst (λ k. IsUnit (reading starts) (b ∷ bs) k (read_digits (take k (b ∷ bs)))) same
    (unit_behind (reading starts) (λ s. when (consists_of continues_word s) (read_digits (b ∷ s))) b bs n (read_digits (b ∷ take n bs))
    (λ m. digits_form starts b (take m bs) (digit_blank b digit) (digit_slash b digit) (digit_hash b digit) digit)
    (when_unit (consists_of continues_word) (λ s. read_digits (b ∷ s)) bs n front))

-- characters and strings

character_form : (starts : Bool) (b : ℕ) (cs : List ℕ) → b ≡ 39 → reading starts (b ∷ cs) ≡ read_formed closes_character (λ s. Lexeme Character) (Bad Literal) cs
unfolding reading
character_form starts b cs quote = rw quote refl

pub character_is : (starts : Bool) (rest : List ℕ) (n : ℕ) → 0 < length rest → get_or rest 0 0 ≡ 39 → IsLongest closes_character (drop 1 rest) n
    → IsUnit (reading starts) rest (n + 1) (Lexeme Character)
character_is starts [] n some quote front = absurd (omega arith)
character_is starts (b ∷ bs) n some quote front =
    one_more (reading starts) (b ∷ bs) n (Lexeme Character)
    (unit_behind (reading starts) (read_formed closes_character (λ s. Lexeme Character) (Bad Literal)) b bs n (Lexeme Character)
    (λ m. character_form starts b (take m bs) quote) (formed_unit closes_character (λ s. Lexeme Character) (Bad Literal) bs n front))

pub no_character : (starts : Bool) (rest : List ℕ) → 0 < length rest → get_or rest 0 0 ≡ 39 → NonePasses closes_character (drop 1 rest) → IsUnit (reading starts) rest 1 (Bad Literal)
no_character starts [] some quote none = absurd (omega arith)
no_character starts (b ∷ bs) some quote none =
    unit_behind (reading starts) (read_formed closes_character (λ s. Lexeme Character) (Bad Literal)) b bs 0 (Bad Literal)
    (λ m. character_form starts b (take m bs) quote) (broken_unit closes_character (λ s. Lexeme Character) (Bad Literal) bs none)

-- what follows the opening quote of a string
abbrev pub is_string : List ℕ → Bool
is_string s = closes_string s && is_utf8 s

string_form : (starts : Bool) (b : ℕ) (cs : List ℕ) → b ≡ 34 → reading starts (b ∷ cs) ≡ read_formed is_string (λ s. Lexeme Str) (Bad Literal) cs
unfolding reading
string_form starts b cs quote = rw quote refl

pub string_is : (starts : Bool) (rest : List ℕ) (n : ℕ) → 0 < length rest → get_or rest 0 0 ≡ 34 → IsLongest is_string (drop 1 rest) n → IsUnit (reading starts) rest (n + 1) (Lexeme Str)
string_is starts [] n some quote front = absurd (omega arith)
string_is starts (b ∷ bs) n some quote front =
    one_more (reading starts) (b ∷ bs) n (Lexeme Str)
    (unit_behind (reading starts) (read_formed is_string (λ s. Lexeme Str) (Bad Literal)) b bs n (Lexeme Str)
    (λ m. string_form starts b (take m bs) quote) (formed_unit is_string (λ s. Lexeme Str) (Bad Literal) bs n front))

pub no_string : (starts : Bool) (rest : List ℕ) → 0 < length rest → get_or rest 0 0 ≡ 34 → NonePasses is_string (drop 1 rest) → IsUnit (reading starts) rest 1 (Bad Literal)
no_string starts [] some quote none = absurd (omega arith)
no_string starts (b ∷ bs) some quote none =
    unit_behind (reading starts) (read_formed is_string (λ s. Lexeme Str) (Bad Literal)) b bs 0 (Bad Literal)
    (λ m. string_form starts b (take m bs) quote) (broken_unit is_string (λ s. Lexeme Str) (Bad Literal) bs none)

-- the one prefix that closes is a string where it is UTF-8
pub string_utf8 : (tail : List ℕ) (n : ℕ) → IsOnly closes_string tail n → is_utf8 (take n tail) ≡ true → IsLongest is_string tail n
string_utf8 tail n front utf8 = record {
  within = front.within;
  passes = rw (front.passes, utf8) refl;
  longest = λ m more least. let h = front.others m (λ same. omega arith) least in rw h refl;
}

pub string_other : (tail : List ℕ) (n : ℕ) → IsOnly closes_string tail n → is_utf8 (take n tail) ≡ false → NonePasses is_string tail
string_other tail n front other m least =
    ⊎_elim (λ below. fails (front.others m (λ same. omega arith) least))
    (λ upto. ⊎_elim (λ above. fails (front.others m (λ same. omega arith) least))
    (λ past. let same : n ≡ m = omega arith in subst (λ k. is_string (take k tail) ≡ false) same (last_fails (closes_string (take n tail)) (is_utf8 (take n tail)) other)) (order n m))
    (order m n)
  where
    fails : closes_string (take m tail) ≡ false → is_string (take m tail) ≡ false
    fails h = rw h refl

    last_fails : (a b : Bool) → b ≡ false → (a && b) ≡ false
    last_fails true b h = h
    last_fails false b h = refl

-- a byte that isn't in the way of a later form
pub record Past (b : ℕ) : Type 0 where
  pub blank : is_blank b ≡ false
  pub hash : (b == 35) ≡ false
  pub digit : is_ascii_digit b ≡ false
  pub quote : (b == 39) ≡ false
  pub double : (b == 34) ≡ false

-- names

letter_blank : (b : ℕ) → may_start_word b ≡ true → is_blank b ≡ false
letter_blank b letter = grind (arith, nat_tests)

letter_slash : (b : ℕ) → may_start_word b ≡ true → (b == 47) ≡ false
letter_slash b letter = grind (arith, nat_tests)

letter_hash : (b : ℕ) → may_start_word b ≡ true → (b == 35) ≡ false
letter_hash b letter = grind (arith, nat_tests)

letter_digit : (b : ℕ) → may_start_word b ≡ true → is_ascii_digit b ≡ false
letter_digit b letter = grind (arith, nat_tests)

letter_quote : (b : ℕ) → may_start_word b ≡ true → (b == 39) ≡ false
letter_quote b letter = grind (arith, nat_tests)

letter_double : (b : ℕ) → may_start_word b ≡ true → (b == 34) ≡ false
letter_double b letter = grind (arith, nat_tests)

letter_past : (b : ℕ) → may_start_word b ≡ true → Past b
letter_past b letter = record {
  blank = letter_blank b letter;
  hash = letter_hash b letter;
  digit = letter_digit b letter;
  quote = letter_quote b letter;
  double = letter_double b letter;
}

-- how a spelling is read that is a name
abbrev read_name : ℕ → List ℕ → Reading
read_name b s = Lexeme (word_kind (b ∷ s))

name_form : (starts : Bool) (b : ℕ) (cs : List ℕ) → Past b → (b == 47) ≡ false → may_start_word b ≡ true
    → reading starts (b ∷ cs) ≡ read_formed (λ s. is_name (b ∷ s)) (read_name b) (Bad Byte) cs
unfolding reading
name_form starts b cs past slash letter = rw (past.blank, slash, past.hash, past.digit, past.quote, past.double, letter) refl

pub name_is : (starts : Bool) (rest : List ℕ) (n : ℕ) → 0 < length rest → may_start_word (get_or rest 0 0) ≡ true → IsLongest is_name rest n
    → IsUnit (reading starts) rest n (Lexeme (word_kind (take n rest)))
unfolding is_name is_utf8 chars
name_is starts [] n some letter front = absurd (omega arith)
name_is starts (b ∷ bs) zero some letter front = let h : false ≡ true = front.passes in cc
name_is starts (b ∷ bs) (suc n) some letter front =
    unit_behind (reading starts) (read_formed (λ s. is_name (b ∷ s)) (read_name b) (Bad Byte)) b bs n (read_name b (take n bs))
    (λ m. name_form starts b (take m bs) (letter_past b letter) (letter_slash b letter) letter)
    (formed_unit (λ s. is_name (b ∷ s)) (read_name b) (Bad Byte) bs n (tail_longest is_name b bs n front))

pub no_name : (starts : Bool) (rest : List ℕ) → 0 < length rest → may_start_word (get_or rest 0 0) ≡ true → NonePasses is_name rest → IsUnit (reading starts) rest 1 (Bad Byte)
no_name starts [] some letter none = absurd (omega arith)
no_name starts (b ∷ bs) some letter none =
    unit_behind (reading starts) (read_formed (λ s. is_name (b ∷ s)) (read_name b) (Bad Byte)) b bs 0 (Bad Byte)
    (λ m. name_form starts b (take m bs) (letter_past b letter) (letter_slash b letter) letter)
    (broken_unit (λ s. is_name (b ∷ s)) (read_name b) (Bad Byte) bs (tail_none is_name b bs none))

-- punctuators

-- the text begins with none of the other forms
pub record Other (rest : List ℕ) : Type 0 where
  pub past : Past (get_or rest 0 0)
  pub line : ((get_or rest 0 0 == 47) && begins_with 47 (drop 1 rest)) ≡ false
  pub block : ((get_or rest 0 0 == 47) && begins_with 42 (drop 1 rest)) ≡ false
  pub letter : may_start_word (get_or rest 0 0) ≡ false

punctuator_form : (starts : Bool) (b : ℕ) (cs : List ℕ) → Past b → ((b == 47) && begins_with 47 cs) ≡ false → ((b == 47) && begins_with 42 cs) ≡ false → may_start_word b ≡ false
    → reading starts (b ∷ cs) ≡ read_formed (λ s. is_one_of punctuators (b ∷ s)) (λ s. Lexeme Punctuator) (Bad Byte) cs
unfolding reading
punctuator_form starts b cs past line block letter = rw (line, block, past.blank, past.hash, past.digit, past.quote, past.double, letter) refl

other_form : (starts : Bool) (b : ℕ) (bs : List ℕ) → Other (b ∷ bs) → (m : ℕ)
    → reading starts (b ∷ take m bs) ≡ read_formed (λ s. is_one_of punctuators (b ∷ s)) (λ s. Lexeme Punctuator) (Bad Byte) (take m bs)
other_form starts b bs other m =
    punctuator_form starts b (take m bs) other.past (both_front (b == 47) 47 bs m other.line) (both_front (b == 47) 42 bs m other.block) other.letter

pub punctuator_is : (starts : Bool) (rest : List ℕ) (n : ℕ) → 0 < length rest → Other rest → IsLongest (is_one_of punctuators) rest n → IsUnit (reading starts) rest n (Lexeme Punctuator)
unfolding punctuators
punctuator_is starts [] n some other front = absurd (omega arith)
punctuator_is starts (b ∷ bs) zero some other front = let h : false ≡ true = front.passes in cc
punctuator_is starts (b ∷ bs) (suc n) some other front =
    unit_behind (reading starts) (read_formed (λ s. is_one_of punctuators (b ∷ s)) (λ s. Lexeme Punctuator) (Bad Byte)) b bs n (Lexeme Punctuator) (other_form starts b bs other)
    (formed_unit (λ s. is_one_of punctuators (b ∷ s)) (λ s. Lexeme Punctuator) (Bad Byte) bs n (tail_longest (is_one_of punctuators) b bs n front))

pub no_punctuator : (starts : Bool) (rest : List ℕ) → 0 < length rest → Other rest → NonePasses (is_one_of punctuators) rest → IsUnit (reading starts) rest 1 (Bad Byte)
no_punctuator starts [] some other none = absurd (omega arith)
no_punctuator starts (b ∷ bs) some other none =
    unit_behind (reading starts) (read_formed (λ s. is_one_of punctuators (b ∷ s)) (λ s. Lexeme Punctuator) (Bad Byte)) b bs 0 (Bad Byte) (other_form starts b bs other)
    (broken_unit (λ s. is_one_of punctuators (b ∷ s)) (λ s. Lexeme Punctuator) (Bad Byte) bs (tail_none (is_one_of punctuators) b bs none))
