-- The spelling of a character constant has bytes of ASCII alone.
use Rattle.std.proofs.Common.{◌≡◌, ◌≤◌, ℕ, Bool, true, false, not, ◌&&◌, ◌||◌, ◌==◌, List, [], ◌∷◌, ◌++◌, map, length, slice_index, take, drop, Option, Some, None, Ok, Err, nat_le, nat_lt, refl, sym, ap, subst, ◌∙◌, arith, eqb-true, if◌then◌else◌}
use Rattle.std.specs.Char.{is_ascii_digit}
use Rattle.std.specs.Int.{is_in_range}
use Rattle.std.specs.List.{list_all}
use Rattle.std.specs.Str.{is_utf8}
use Rattle.std.proofs.lemmas.Bool.{leb-true}
use Rattle.c_lexer.specs.declared.token.Token.{Token}
use Rattle.c_lexer.specs.declared.token.TokenKind.{TokenKind}
use Rattle.c_lexer.specs.declared.token.TokenKind.TheVariants.{Identifier, Keyword, LibraryWord, Number, Character, Str, Punctuator}
use Rattle.c_lexer.specs.declared.token.LexFault.{LexFault}
use Rattle.c_lexer.specs.declared.token.LexFault.TheVariants.{TooMany}
use Rattle.c_lexer.specs.declared.unit.Reading.{Reading}
use Rattle.c_lexer.specs.declared.unit.Reading.TheVariants.{Space, Lexeme, Bad}
use Rattle.c_lexer.specs.declared.unit.Fault.TheVariants.{Byte, Literal, Directive}
use Rattle.c_lexer.specs.Bytes.{backslash, continues_word, double_quote, hash, is_blank, is_escape, is_plain, may_start_word, quote, slash, star, starts_line, stays_in_line}
use Rattle.c_lexer.specs.Words.{is_one_of, keywords, library_words, word_kind}
use Rattle.c_lexer.specs.Numbers.{is_number}
use Rattle.c_lexer.specs.Units.{begins_with, closes_character, closes_string, consists_of, is_empty, is_include, is_name, punctuators, read_comment, read_line, reading, when}
use Rattle.c_lexer.specs.Cut.{Cut, Lexes, answer, most_tokens, or_fault}
use Rattle.c_tree.specs.BareExpr.{Bytes}
use Rattle.c_expr_parser.specs.Quoted.{IsQuoted, escaped, unescaped}

-- ---- bytes of ASCII

abbrev pub AreSmall : Bytes → Type 0
AreSmall [] = Unit {0}
AreSmall (b ∷ bs) = (b ≤ 127) × AreSmall bs

-- those after the first one
abbrev pub RestSmall : Bytes → Type 0
RestSmall [] = Unit {0}
RestSmall (b ∷ bs) = AreSmall bs

both_true : (a b : Bool) → (a && b) ≡ true → (a ≡ true) × (b ≡ true)
both_true true b e = (refl, e)
both_true false b e = absurd (no e)
  where
    no : false ≡ true → ⊥
    no e = cc

one_of : (a b : Bool) (P : Type 0) → (a ≡ true → P) → (b ≡ true → P) → (a || b) ≡ true → P
one_of true b P f g e = f refl
one_of false b P f g e = g e

small_by : (b n : ℕ) → n ≤ 127 → (b == n) ≡ true → b ≤ 127
small_by b n h e = subst (λ m. m ≤ 127) (sym (eqb-true b n e)) h

small_plain : (b : ℕ) → is_plain quote b ≡ true → b ≤ 127
small_plain b e = omega (arith, leb-true b 126 (both_true (nat_le 32 b) (nat_le b 126) (both_true (is_in_range 32 126 b) (not (b == quote) && not (b == backslash)) e).0).1)

small_escape : (c : ℕ) → is_escape c ≡ true → c ≤ 127
small_escape c =
    one_of _ (c == double_quote) (c ≤ 127)
    (one_of _ (c == quote) (c ≤ 127)
    (one_of _ (c == backslash) (c ≤ 127)
    (one_of _ (c == 114) (c ≤ 127)
    (one_of (c == 110) (c == 116) (c ≤ 127) (small_by c 110 (omega arith)) (small_by c 116 (omega arith)))
    (small_by c 114 (omega arith)))
    (small_by c 92 (omega arith)))
    (small_by c 39 (omega arith)))
    (small_by c 34 (omega arith))

-- what closes a character
closing_small : (bs : Bytes) → closes_character bs ≡ true → AreSmall bs
closing_small [] e = tt
closing_small (b ∷ []) e = absurd (no e)
  where
    no : false ≡ true → ⊥
    no e = cc
closing_small (b ∷ c ∷ []) e =
    let h = both_true (is_plain quote b) (c == quote) e in (small_plain b h.0, (small_by c 39 (omega arith) h.1, tt))
closing_small (b ∷ c ∷ d ∷ []) e =
    let h = both_true (b == backslash) ((is_escape c || (c == 48)) && (d == quote)) e in
    let g = both_true (is_escape c || (c == 48)) (d == quote) h.1 in (
      small_by b 92 (omega arith) h.0,
      (one_of (is_escape c) (c == 48) (c ≤ 127) (small_escape c) (small_by c 48 (omega arith)) g.0, (small_by d 39 (omega arith) g.1, tt)),
    )
closing_small (b ∷ c ∷ d ∷ f ∷ bs) e = absurd (no e)
  where
    no : false ≡ true → ⊥
    no e = cc

-- ---- what is read as a character

read_as : (r : Reading) → Some r ≡ Some (Lexeme Character) → r ≡ Lexeme Character
read_as r e = cc

when_other : (form : Bool) (r : Reading) → (r ≡ Lexeme Character → ⊥) → when form r ≡ Some (Lexeme Character) → ⊥
when_other true r other e = other (read_as r e)
when_other false r other e = cc

comment_other : (s : Bytes) → read_comment s ≡ Some (Lexeme Character) → ⊥
comment_other [] e = cc
comment_other (b ∷ []) e = cc
comment_other (b ∷ c ∷ bs) e = by ((b == star) && (c == slash)) (comment_other (c ∷ bs)) e
  where
    by : (x : Bool) → (read_comment (c ∷ bs) ≡ Some (Lexeme Character) → ⊥)
        → (if x then when (is_empty bs) Space else read_comment (c ∷ bs)) ≡ Some (Lexeme Character) → ⊥
    by true rest e = when_other (is_empty bs) Space (λ f. cc) e
    by false rest e = rest e

line_other : (starts : Bool) (line : Bytes) → read_line starts line ≡ Lexeme Character → ⊥
line_other true line e = by (is_include line) e
  where
    by : (b : Bool) → (if b then Space else Bad Directive) ≡ Lexeme Character → ⊥
    by true e = cc
    by false e = cc
line_other false line e = cc

word_other : (s : Bytes) → Lexeme (word_kind s) ≡ Lexeme Character → ⊥
word_other s e = by (is_one_of keywords s) (is_one_of library_words s) e
  where
    by : (x y : Bool) → Lexeme (if x then Keyword else (if y then LibraryWord else Identifier)) ≡ Lexeme Character → ⊥
    by true y e = cc
    by false true e = cc
    by false false e = cc

-- a reading by the first of two conditions that holds
elsewhere : (b : Bool) (x y : Option Reading) (P : Type 0) → (x ≡ Some (Lexeme Character) → P) → (y ≡ Some (Lexeme Character) → P)
    → (if b then x else y) ≡ Some (Lexeme Character) → P
elsewhere true x y P f g e = f e
elsewhere false x y P f g e = g e

character_read : (starts : Bool) (s : Bytes) → reading starts s ≡ Some (Lexeme Character) → RestSmall s
unfolding reading
character_read starts [] e = tt
character_read starts (b ∷ bs) e0 =
    elsewhere (is_blank b) _ _ _ (λ e. absurd (when_other (is_empty bs) Space (λ f. cc) e))
    (elsewhere ((b == slash) && begins_with slash bs) _ _ _ (λ e. absurd (when_other (list_all stays_in_line bs) Space (λ f. cc) e))
    (elsewhere ((b == slash) && begins_with star bs) _ _ _ (λ e. absurd (comment_other (drop 1 bs) e))
    (elsewhere (b == hash) _ _ _ (λ e. absurd (when_other (list_all stays_in_line bs) (read_line starts (b ∷ bs)) (line_other starts (b ∷ bs)) e))
    (elsewhere (is_ascii_digit b) _ _ _ (λ e. absurd (when_other (consists_of continues_word bs) (if is_number (b ∷ bs) then Lexeme Number else Bad Literal) (number_other (is_number (b ∷ bs))) e))
    (elsewhere (b == quote) _ _ _ (closed (closes_character bs) refl)
    (elsewhere (b == double_quote) _ _ _ (λ e. absurd (formed_other (closes_string bs && is_utf8 bs) Str (is_empty bs) (Bad Literal) (λ f. cc) (λ f. cc) e))
    (elsewhere (may_start_word b) _ _ _ (λ e. absurd (formed_other (is_name (b ∷ bs)) (word_kind (b ∷ bs)) (is_empty bs) (Bad Byte) (word_other (b ∷ bs)) (λ f. cc) e))
    (λ e. absurd (formed_other (is_one_of punctuators (b ∷ bs)) Punctuator (is_empty bs) (Bad Byte) (λ f. cc) (λ f. cc) e))))))))) e0
  where
    number_other : (x : Bool) → (if x then Lexeme Number else Bad Literal) ≡ Lexeme Character → ⊥
    number_other true e = cc
    number_other false e = cc

    formed_other : (x : Bool) (k : TokenKind) (y : Bool) (r : Reading) → (Lexeme k ≡ Lexeme Character → ⊥) → (r ≡ Lexeme Character → ⊥)
        → (if x then Some (Lexeme k) else when y r) ≡ Some (Lexeme Character) → ⊥
    formed_other true k y r f g e = f (read_as (Lexeme k) e)
    formed_other false k y r f g e = when_other y r g e

    closed : (x : Bool) → closes_character bs ≡ x
        → (if x then Some (Lexeme Character) else when (is_empty bs) (Bad Literal)) ≡ Some (Lexeme Character) → AreSmall bs
    closed true is e = closing_small bs is
    closed false is e = absurd (when_other (is_empty bs) (Bad Literal) (λ f. cc) e)

-- ---- tokens

-- a character among the tokens of a text
abbrev pub IsSmall : Token → Type 0
IsSmall t = t.kind ≡ Character → RestSmall t.text

abbrev pub TokensSmall : List Token → Type 0
TokensSmall [] = Unit {0}
TokensSmall (t ∷ ts) = IsSmall t × TokensSmall ts

cut_small : (text : Bytes) (at : ℕ) (tokens : List Token) (fault : Option LexFault) → Cut text at tokens fault → TokensSmall tokens
cut_small text at tokens fault (Cut.finish e) = tt
cut_small text at tokens fault (Cut.space n u rest) = cut_small text _ tokens fault rest
cut_small text at _ fault (Cut.lexeme n kind u rest) =
    ((λ is. character_read (starts_line text at) (take n (drop at text)) (u.is ∙ ap (λ k. Some (Lexeme k)) is)), cut_small text _ _ fault rest)
cut_small text at tokens fault (Cut.bad n f u) = tt

answered : (found tokens : List Token) (fault : Option LexFault) → Ok tokens ≡ answer found fault → tokens ≡ found
answered found tokens fault = by (nat_lt most_tokens (length found)) (TooMany (slice_index (map (λ t. t.at) found) most_tokens)) fault
  where
    by : (b : Bool) (many : LexFault) (fault : Option LexFault) → Ok tokens ≡ (if b then Err many else or_fault found fault) → tokens ≡ found
    by true many fault e = cc
    by false many None e = cc
    by false many (Some f) e = cc

pub lexed_small : (text : Bytes) (tokens : List Token) → Lexes text (Ok tokens) → TokensSmall tokens
lexed_small text tokens l = subst TokensSmall (sym (answered l.0 tokens l.1 l.3)) (cut_small text 0 l.0 l.1 l.2)

-- ---- the byte that is meant

before : (xs ys : Bytes) → AreSmall (xs ++ ys) → AreSmall xs
before [] ys h = tt
before (x ∷ xs) ys h = (h.0, before xs ys h.1)

escaped_small : (c : ℕ) → c ≤ 127 → escaped c ≤ 127
escaped_small c h = by (c == 110) (c == 116) (c == 114) (c == 48)
  where
    by : (n t r z : Bool) → (if n then 10 else (if t then 9 else (if r then 13 else (if z then 0 else c)))) ≤ 127
    by true t r z = omega arith
    by false true r z = omega arith
    by false false true z = omega arith
    by false false false true = omega arith
    by false false false false = h

unescaped_small : (bs : Bytes) → AreSmall bs → AreSmall (unescaped bs)
unescaped_small [] h = tt
unescaped_small (b ∷ []) h = h
unescaped_small (b ∷ c ∷ bs) h = by (b == backslash) (unescaped_small bs h.1.1) (unescaped_small (c ∷ bs) h.1)
  where
    by : (x : Bool) → AreSmall (unescaped bs) → AreSmall (unescaped (c ∷ bs))
        → AreSmall (if x then escaped c ∷ unescaped bs else b ∷ unescaped (c ∷ bs))
    by true rest more = (escaped_small c h.1.0, rest)
    by false rest more = (h.0, more)

pub quoted_small : (spelling : Bytes) (byte : ℕ) → RestSmall spelling → IsQuoted quote spelling (byte ∷ []) → byte ≤ 127
quoted_small spelling byte h q =
    let inside : RestSmall (quote ∷ q.body ++ quote ∷ []) = subst RestSmall q.are h in
    (subst AreSmall (sym q.means) (unescaped_small q.body (before q.body (quote ∷ []) inside))).0
