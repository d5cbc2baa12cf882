-- The names that an accepted text declares are identifiers, so none begins with `struct `.
use Rattle.std.proofs.Common.{◌≡◌, ℕ, Bool, true, false, ◌&&◌, ◌==◌, List, [], ◌∷◌, map, length, slice_index, take, drop, Option, Some, None, Ok, Err, nat_lt, refl, sym, ap, subst, ◌∙◌, if◌then◌else◌}
use Rattle.std.specs.Char.{is_ascii_digit}
use Rattle.std.specs.List.{list_all}
use Rattle.std.specs.Str.{is_utf8, chars}
use Rattle.c_lexer.specs.declared.token.Token.{Token}
use Rattle.c_lexer.specs.declared.token.TokenKind.{TokenKind}
use Rattle.c_lexer.specs.declared.token.TokenKind.TheVariants.{Identifier, Number, Character, Str, Punctuator}
use Rattle.c_lexer.specs.declared.token.LexFault.{LexFault}
use Rattle.c_lexer.specs.declared.token.LexFault.TheVariants.{TooMany}
use Rattle.c_lexer.specs.declared.unit.Reading.{Reading}
use Rattle.c_lexer.specs.declared.unit.Reading.TheVariants.{Space, Lexeme, Bad}
use Rattle.c_lexer.specs.declared.unit.Fault.TheVariants.{Byte, Literal, Directive}
use Rattle.c_lexer.specs.Bytes.{continues_word, hash, is_blank, may_start_word, double_quote, quote, slash, star, starts_line, stays_in_line}
use Rattle.c_lexer.specs.Words.{is_one_of, word_kind}
use Rattle.c_lexer.specs.Numbers.{is_number}
use Rattle.c_lexer.specs.Units.{begins_with, closes_character, closes_string, consists_of, is_empty, is_include, is_name, punctuators, read_comment, read_line, reading, when}
use Rattle.c_lexer.specs.Cut.{Cut, Lexes, answer, most_tokens, or_fault}
use Rattle.c_tree.specs.BareExpr.{Bytes}
use Rattle.c_semantics.specs.Names.{struct_name}

-- the name of a struct isn't one token
and_false : (b : Bool) → (b && false) ≡ false
and_false true = refl
and_false false = refl

pub no_identifier : (tag : Bytes) → is_name (struct_name tag) ≡ false
unfolding is_name chars
no_identifier [] = and_false (is_utf8 (struct_name []))
no_identifier (b ∷ bs) = and_false (is_utf8 (struct_name (b ∷ bs)))

-- what is read as a name is one
read_as : (r : Reading) → Some r ≡ Some (Lexeme Identifier) → r ≡ Lexeme Identifier
read_as r e = cc

when_other : (form : Bool) (r : Reading) → (r ≡ Lexeme Identifier → ⊥) → when form r ≡ Some (Lexeme Identifier) → ⊥
when_other true r other e = other (read_as r e)
when_other false r other e = cc

comment_other : (s : Bytes) → read_comment s ≡ Some (Lexeme Identifier) → ⊥
comment_other [] e = cc
comment_other (b ∷ []) e = cc
comment_other (b ∷ c ∷ bs) e = by ((b == star) && (c == slash)) (comment_other (c ∷ bs)) e
  where
    by : (x : Bool) → (read_comment (c ∷ bs) ≡ Some (Lexeme Identifier) → ⊥) →
        (if x then when (is_empty bs) Space else read_comment (c ∷ bs)) ≡ Some (Lexeme Identifier) → ⊥
    by true rest e = when_other (is_empty bs) Space (λ f. cc) e
    by false rest e = rest e

line_other : (starts : Bool) (line : Bytes) → read_line starts line ≡ Lexeme Identifier → ⊥
line_other true line e = by (is_include line) e
  where
    by : (b : Bool) → (if b then Space else Bad Directive) ≡ Lexeme Identifier → ⊥
    by true e = cc
    by false e = cc
line_other false line e = cc

-- a reading by the first of two conditions that holds
elsewhere : (b : Bool) (x y : Option Reading) (P : Type 0) → (x ≡ Some (Lexeme Identifier) → P) → (y ≡ Some (Lexeme Identifier) → P) →
    (if b then x else y) ≡ Some (Lexeme Identifier) → P
elsewhere true x y P f g e = f e
elsewhere false x y P f g e = g e

identifier_read : (starts : Bool) (s : Bytes) → reading starts s ≡ Some (Lexeme Identifier) → is_name s ≡ true
unfolding reading
identifier_read starts [] e = cc
identifier_read starts (b ∷ bs) e0 =
    elsewhere (is_blank b) _ _ _ (λ e. absurd (when_other (is_empty bs) Space (λ f. cc) e))
    (elsewhere ((b == slash) && begins_with slash bs) _ _ _ (λ e. absurd (when_other (list_all stays_in_line bs) Space (λ f. cc) e))
    (elsewhere ((b == slash) && begins_with star bs) _ _ _ (λ e. absurd (comment_other (drop 1 bs) e))
    (elsewhere (b == hash) _ _ _ (λ e. absurd (when_other (list_all stays_in_line bs) (read_line starts (b ∷ bs)) (line_other starts (b ∷ bs)) e))
    (elsewhere (is_ascii_digit b) _ _ _ (λ e. absurd (when_other (consists_of continues_word bs) (if is_number (b ∷ bs) then Lexeme Number else Bad Literal) (number_other (is_number (b ∷ bs))) e))
    (elsewhere (b == quote) _ _ _ (λ e. absurd (formed_other (closes_character bs) Character (is_empty bs) (Bad Literal) (λ f. cc) (λ f. cc) e))
    (elsewhere (b == double_quote) _ _ _ (λ e. absurd (formed_other (closes_string bs && is_utf8 bs) Str (is_empty bs) (Bad Literal) (λ f. cc) (λ f. cc) e))
    (elsewhere (may_start_word b) _ _ _ (name_read (is_name (b ∷ bs)) refl)
    (λ e. absurd (formed_other (is_one_of punctuators (b ∷ bs)) Punctuator (is_empty bs) (Bad Byte) (λ f. cc) (λ f. cc) e))))))))) e0
  where
    number_other : (x : Bool) → (if x then Lexeme Number else Bad Literal) ≡ Lexeme Identifier → ⊥
    number_other true e = cc
    number_other false e = cc

    formed_other : (x : Bool) (k : TokenKind) (y : Bool) (r : Reading) → (Lexeme k ≡ Lexeme Identifier → ⊥) → (r ≡ Lexeme Identifier → ⊥) →
        (if x then Some (Lexeme k) else when y r) ≡ Some (Lexeme Identifier) → ⊥
    formed_other true k y r f g e = f (read_as (Lexeme k) e)
    formed_other false k y r f g e = when_other y r g e

    name_read : (x : Bool) → is_name (b ∷ bs) ≡ x →
        (if x then Some (Lexeme (word_kind (b ∷ bs))) else when (is_empty bs) (Bad Byte)) ≡ Some (Lexeme Identifier) → is_name (b ∷ bs) ≡ true
    name_read true is e = is
    name_read false is e = absurd (when_other (is_empty bs) (Bad Byte) (λ f. cc) e)

-- each identifier of a text is a name
abbrev pub IsWord : Token → Type 0
IsWord t = t.kind ≡ Identifier → is_name t.text ≡ true

abbrev pub AreWords : List Token → Type 0
AreWords [] = Unit {0}
AreWords (t ∷ ts) = IsWord t × AreWords ts

cut_words : (text : Bytes) (at : ℕ) (tokens : List Token) (fault : Option LexFault) → Cut text at tokens fault → AreWords tokens
cut_words text at tokens fault (Cut.finish e) = tt
cut_words text at tokens fault (Cut.space n u rest) = cut_words text _ tokens fault rest
cut_words text at _ fault (Cut.lexeme n kind u rest) =
    ((λ is. identifier_read (starts_line text at) (take n (drop at text)) (u.is ∙ ap (λ k. Some (Lexeme k)) is)), cut_words text _ _ fault rest)
cut_words text at tokens fault (Cut.bad n f u) = tt

answered : (found tokens : List Token) (fault : Option LexFault) → Ok tokens ≡ answer found fault → tokens ≡ found
answered found tokens fault = by (nat_lt most_tokens (length found)) (TooMany (slice_index (map (λ t. t.at) found) most_tokens)) fault
  where
    by : (b : Bool) (many : LexFault) (fault : Option LexFault) → Ok tokens ≡ (if b then Err many else or_fault found fault) → tokens ≡ found
    by true many fault e = cc
    by false many None e = cc
    by false many (Some f) e = cc

pub lexed_words : (text : Bytes) (tokens : List Token) → Lexes text (Ok tokens) → AreWords tokens
lexed_words text tokens l = subst AreWords (sym (answered l.0 tokens l.1 l.3)) (cut_words text 0 l.0 l.1 l.2)
