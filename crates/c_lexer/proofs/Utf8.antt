-- The spelling of each token is UTF-8.
use Rattle.std.proofs.Common.{◌≡◌, ℕ, suc, zero, ◌+◌, ◌<◌, Bool, true, false, cond, ◌||◌, ◌&&◌, ◌==◌, List, [], ◌∷◌, length, take, drop, get_or, Option, Some, None, sym, refl, subst, ⊎_elim, inl, inr, arith, IsUtf8}
use Rattle.std.specs.Prelude.{◌⊎◌, nat_lt}
use Rattle.std.specs.List.{list_all}
use Rattle.std.specs.Str.{bytes_eq, IsAscii, is_utf8, chars}
use Rattle.std.specs.Char.{is_ascii_digit}
use Rattle.std.proofs.lemmas.Bool.{ltb-true, eqb-true}
use Rattle.std.proofs.lemmas.Bool.Decides.{nat_tests}
use Rattle.std.proofs.lemmas.Slice.Eq.{bytes_eq-Decides}
use Rattle.std.proofs.lemmas.Str.{IsUtf8-from_ascii, IsUtf8-from_is_utf8, IsUtf8-append}
use Rattle.c_lexer.specs.declared.token.TokenKind.{TokenKind}
use Rattle.c_lexer.specs.declared.unit.Reading.{Reading}
use Rattle.c_lexer.specs.declared.unit.Reading.TheVariants.{Space, Lexeme, Bad}
use Rattle.c_lexer.specs.declared.unit.Fault.TheVariants.{Byte, Literal, Directive}
use Rattle.c_lexer.specs.Bytes.{is_blank, stays_in_line, continues_word, may_start_word, is_plain, is_escape}
use Rattle.c_lexer.specs.Words.{is_one_of}
use Rattle.c_lexer.specs.Units.{reading, when, is_empty, begins_with, consists_of, is_word, is_name, is_include, closes_character, closes_string, read_comment, read_line, punctuators}
use Rattle.c_lexer.proofs.LongestOfThree.{both_true}
use Rattle.c_lexer.proofs.UnitsByFirstBytes.{read_digits}

ascii_more : (b : ℕ) (bs : List ℕ) → b < 128 → IsAscii bs → IsAscii (b ∷ bs)
ascii_more b bs small rest zero = small
ascii_more b bs small rest (suc i) = rest i

ascii_none : IsAscii []
ascii_none i = omega arith

-- an ASCII byte in front keeps a text UTF-8
utf8_more : (b : ℕ) (bs : List ℕ) → b < 128 → IsUtf8 bs → IsUtf8 (b ∷ bs)
utf8_more b bs small text = IsUtf8-append (b ∷ []) bs (IsUtf8-from_ascii (b ∷ []) (ascii_more b [] small ascii_none)) text

digit_byte : (b : ℕ) → is_ascii_digit b ≡ true → b < 128
digit_byte b h = grind (arith, nat_tests)

plain_byte : (b : ℕ) → is_plain 39 b ≡ true → b < 128
plain_byte b h = grind (arith, nat_tests)

escape_byte : (b : ℕ) → (is_escape b || (b == 48)) ≡ true → b < 128
escape_byte b h = grind (arith, nat_tests)

character_ascii : (s : List ℕ) → closes_character s ≡ true → IsAscii s
character_ascii [] h = let k : false ≡ true = h in cc
character_ascii (b ∷ []) h = let k : false ≡ true = h in cc
character_ascii (b ∷ c ∷ []) h =
    let k = both_true (is_plain 39 b) (c == 39) h in
    let quote = eqb-true c 39 k.1 in
    ascii_more b (c ∷ []) (plain_byte b k.0) (ascii_more c [] (omega arith) ascii_none)
character_ascii (b ∷ c ∷ d ∷ []) h =
    let k = both_true (b == 92) ((is_escape c || (c == 48)) && (d == 39)) h in
    let j = both_true (is_escape c || (c == 48)) (d == 39) k.1 in
    let slash = eqb-true b 92 k.0 in
    let quote = eqb-true d 39 j.1 in
    ascii_more b (c ∷ d ∷ []) (omega arith) (ascii_more c (d ∷ []) (escape_byte c j.0) (ascii_more d [] (omega arith) ascii_none))
character_ascii (b ∷ c ∷ d ∷ e ∷ s) h = let k : false ≡ true = h in cc

small_ascii : (bs : List ℕ) → list_all (λ b. nat_lt b 128) bs ≡ true → IsAscii bs
small_ascii [] h = ascii_none
small_ascii (b ∷ bs) h = let k = both_true (nat_lt b 128) (list_all (λ b. nat_lt b 128) bs) h in ascii_more b bs (ltb-true b 128 k.0) (small_ascii bs k.1)

one_of_ascii : (texts : List (List ℕ)) (s : List ℕ) → list_all (λ t. list_all (λ b. nat_lt b 128) t) texts ≡ true → is_one_of texts s ≡ true → IsAscii s
one_of_ascii [] s all one = let h : false ≡ true = one in cc
one_of_ascii (t ∷ texts) s all one =
    let h = both_true (list_all (λ b. nat_lt b 128) t) (list_all (λ t. list_all (λ b. nat_lt b 128) t) texts) all in
    (elim (bytes_eq s t) as (λ v. bytes_eq s t ≡ v → IsAscii s) [
      | true ↦ λ e. subst IsAscii (sym ((bytes_eq-Decides s t).0 e)) (small_ascii t h.0)
      | false ↦ λ e. one_of_ascii texts s h.1 (let k : (false || is_one_of texts s) ≡ true = subst (λ v. (v || is_one_of texts s) ≡ true) e one in k)
    ]) refl

punctuator_ascii : (s : List ℕ) → is_one_of punctuators s ≡ true → IsAscii s
unfolding punctuators
punctuator_ascii s one = one_of_ascii punctuators s refl one

-- which branch was taken
chosen : (test : Bool) (p q : Option Reading) (r : Reading) → cond test p q ≡ Some r → ((test ≡ true) × (p ≡ Some r)) ⊎ ((test ≡ false) × (q ≡ Some r))
chosen true p q r h = inl (refl, h)
chosen false p q r h = inr (refl, h)

whole : (form : Bool) (r s : Reading) → when form r ≡ Some s → (form ≡ true) × (r ≡ s)
whole true r s h = (refl, cc)
whole false r s h = let k : None ≡ Some s = h in cc

-- a comment is no token, and neither is a line from a `#` on
no_lexeme : (form : Bool) (r : Reading) (kind : TokenKind) → (r ≡ Lexeme kind → ⊥) → when form r ≡ Some (Lexeme kind) → ⊥
no_lexeme form r kind other h = other (whole form r (Lexeme kind) h).1

comment_no_lexeme : (s : List ℕ) (kind : TokenKind) → read_comment s ≡ Some (Lexeme kind) → ⊥
comment_no_lexeme [] kind h = cc
comment_no_lexeme (b ∷ []) kind h = cc
comment_no_lexeme (b ∷ c ∷ bs) kind h =
    ⊎_elim (λ closes. no_lexeme (is_empty bs) Space kind (λ e. cc) closes.1) (λ goes. comment_no_lexeme (c ∷ bs) kind goes.1)
    (chosen ((b == 42) && (c == 47)) (when (is_empty bs) Space) (read_comment (c ∷ bs)) (Lexeme kind) h)

line_no_lexeme : (starts : Bool) (line : List ℕ) (kind : TokenKind) → read_line starts line ≡ Lexeme kind → ⊥
line_no_lexeme false line kind h = cc
line_no_lexeme true line kind h = by_test (is_include line) h
  where
    by_test : (v : Bool) → cond v Space (Bad Directive) ≡ Lexeme kind → ⊥
    by_test true h = cc
    by_test false h = cc

-- the fault of a malformed literal or a stray byte is no token
fault_no_lexeme : (bs : List ℕ) (fault : Reading) (kind : TokenKind) → (fault ≡ Lexeme kind → ⊥) → when (is_empty bs) fault ≡ Some (Lexeme kind) → ⊥
fault_no_lexeme bs fault kind other h = no_lexeme (is_empty bs) fault kind other h

pub lexeme_utf8 : (starts : Bool) (s : List ℕ) (kind : TokenKind) → reading starts s ≡ Some (Lexeme kind) → IsUtf8 s
unfolding reading consists_of is_name
lexeme_utf8 starts [] kind h = IsUtf8-from_ascii [] ascii_none
lexeme_utf8 starts (b ∷ bs) kind h =
    ⊎_elim (λ blank. absurd (no_lexeme (is_empty bs) Space kind (λ e. cc) blank.1))
    (λ h1. ⊎_elim (λ line. absurd (no_lexeme (list_all stays_in_line bs) Space kind (λ e. cc) line.1))
    (λ h2. ⊎_elim (λ block. absurd (comment_no_lexeme (drop 1 bs) kind block.1))
    (λ h3. ⊎_elim (λ hash. absurd (no_lexeme (list_all stays_in_line bs) (read_line starts (b ∷ bs)) kind (line_no_lexeme starts (b ∷ bs) kind) hash.1))
    (λ h4. ⊎_elim (λ digits.
    let form = (whole (consists_of continues_word bs) (read_digits (b ∷ bs)) (Lexeme kind) digits.1).0 in
    utf8_more b bs (digit_byte b digits.0) (IsUtf8-from_is_utf8 bs (both_true (is_utf8 bs) (list_all continues_word (chars bs)) form).0))
    (λ h5. ⊎_elim (λ quote. ⊎_elim (λ closes. let e = eqb-true b 39 quote.0 in utf8_more b bs (omega arith) (IsUtf8-from_ascii bs (character_ascii bs closes.0)))
    (λ broken. absurd (fault_no_lexeme bs (Bad Literal) kind (λ e. cc) broken.1)) (chosen (closes_character bs) _ _ (Lexeme kind) quote.1))
    (λ h6. ⊎_elim (λ double. ⊎_elim (λ closes. let e = eqb-true b 34 double.0 in utf8_more b bs (omega arith) (IsUtf8-from_is_utf8 bs (both_true (closes_string bs) (is_utf8 bs) closes.0).1))
    (λ broken. absurd (fault_no_lexeme bs (Bad Literal) kind (λ e. cc) broken.1)) (chosen (closes_string bs && is_utf8 bs) _ _ (Lexeme kind) double.1))
    (λ h7. ⊎_elim (λ letter. ⊎_elim (λ name. IsUtf8-from_is_utf8 (b ∷ bs) (both_true (is_utf8 (b ∷ bs)) (is_word (chars (b ∷ bs))) name.0).0)
    (λ broken. absurd (fault_no_lexeme bs (Bad Byte) kind (λ e. cc) broken.1)) (chosen (is_name (b ∷ bs)) _ _ (Lexeme kind) letter.1))
    (λ h8. ⊎_elim (λ punctuator. IsUtf8-from_ascii (b ∷ bs) (punctuator_ascii (b ∷ bs) punctuator.0)) (λ broken. absurd (fault_no_lexeme bs (Bad Byte) kind (λ e. cc) broken.1))
    (chosen (is_one_of punctuators (b ∷ bs)) _ _ (Lexeme kind) h8.1))
    (chosen (may_start_word b) _ _ (Lexeme kind) h7.1))
    (chosen (b == 34) _ _ (Lexeme kind) h6.1))
    (chosen (b == 39) _ _ (Lexeme kind) h5.1))
    (chosen (is_ascii_digit b) _ _ (Lexeme kind) h4.1))
    (chosen (b == 35) _ _ (Lexeme kind) h3.1))
    (chosen ((b == 47) && begins_with 42 bs) _ _ (Lexeme kind) h2.1))
    (chosen ((b == 47) && begins_with 47 bs) _ _ (Lexeme kind) h1.1))
    (chosen (is_blank b) _ _ (Lexeme kind) h)

-- a word that begins with a digit
pub digits_utf8 : (rest : List ℕ) (n : ℕ) → 0 < length rest → is_ascii_digit (get_or rest 0 0) ≡ true → consists_of continues_word (take n (drop 1 rest)) ≡ true → IsUtf8 (take (n + 1) rest)
unfolding consists_of
digits_utf8 [] n some digit tail = absurd (omega arith)
digits_utf8 (b ∷ bs) n some digit tail =
    let same : suc n ≡ n + 1 = omega arith in
    subst (λ k. IsUtf8 (take k (b ∷ bs))) same
    (utf8_more b (take n bs) (digit_byte b digit) (IsUtf8-from_is_utf8 (take n bs) (both_true (is_utf8 (take n bs)) (list_all continues_word (chars (take n bs))) tail).0))
