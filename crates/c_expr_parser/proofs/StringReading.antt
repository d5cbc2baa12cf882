-- Strings as the parser reads them: what stands between quotes, and escapes read character by character.
use Rattle.std.proofs.Common.{◌≡◌, ◌≢◌, ℕ, suc, ◌<◌, ◌≤◌, Bool, true, false, List, [], ◌∷◌, ◌++◌, length, get_or, Option, Some, None, refl, sym, ap, ◌∙◌, arith, ⊎_elim, append-nil, append_assoc}
use Rattle.std.specs.Prelude.{◌==◌, if◌then◌else◌, option_map, is_some, unwrap_or}
use Rattle.std.specs.Char.{encode_utf8}
use Rattle.std.proofs.lemmas.Bool.{ne_eqb, eq-eqb, cases_lt}
use Rattle.std.proofs.lemmas.Str.{encode_ascii, inside_one, length-encode, len_utf8_bounds}
use Rattle.c_lexer.specs.Bytes.{backslash, double_quote}
use Rattle.c_lexer.specs.declared.token.Token.{Token}
use Rattle.c_lexer.specs.declared.token.TokenKind.TheVariants.{Str}
use Rattle.c_expr_parser.specs.Quoted.{escaped, unescaped}
use Rattle.c_expr_parser.specs.Readings.{most_depth}
use Rattle.c_expr_parser.specs.Tables.{is_kind, when_some, before_quote, unquoted}
use Rattle.c_expr_parser.specs.Plans.{Return, Then, Strings, MoreStrings, takes, quoted, read, reads}
use Rattle.c_expr_parser.proofs.PlanResults.{parsed_takes, parsed_left, parsed_end_left, parsed_return, fits}

-- ---- between quotes

before_is : (quote : ℕ) (body : List ℕ) → before_quote quote (body ++ quote ∷ []) ≡ Some body
before_is quote [] = rw (eq-eqb quote quote refl) refl
before_is quote (b ∷ []) = ap (option_map (λ front. b ∷ front)) (before_is quote [])
before_is quote (b ∷ c ∷ body) = ap (option_map (λ front. b ∷ front)) (before_is quote (c ∷ body))

before_none : (quote : ℕ) (bytes : List ℕ) → ((front : List ℕ) → bytes ≢ front ++ quote ∷ []) → before_quote quote bytes ≡ None
before_none quote [] other = refl
before_none quote (b ∷ []) other = rw (ne_eqb b quote (λ e. other [] (ap (λ k. k ∷ []) e))) refl
before_none quote (b ∷ c ∷ bytes) other =
    ap (option_map (λ front. b ∷ front)) (before_none quote (c ∷ bytes) (λ front e. other (b ∷ front) (ap (λ rest. b ∷ rest) e)))

pub between : (quote : ℕ) (text rest body : List ℕ) → text ≡ quote ∷ rest → rest ≡ body ++ quote ∷ []
    → unquoted quote text ≡ Some (unescaped body)
between quote text rest body t r = rw (t, r, eq-eqb quote quote refl, before_is quote body) refl

pub no_first : (quote : ℕ) (text : List ℕ) → ((rest : List ℕ) → text ≢ quote ∷ rest) → unquoted quote text ≡ None
no_first quote [] other = refl
no_first quote (b ∷ bytes) other = rw (ne_eqb b quote (λ e. other bytes (ap (λ k. k ∷ bytes) e))) refl

pub no_last : (quote : ℕ) (text rest : List ℕ) → text ≡ quote ∷ rest → ((front : List ℕ) → rest ≢ front ++ quote ∷ [])
    → unquoted quote text ≡ None
no_last quote text rest t other = rw (t, eq-eqb quote quote refl, before_none quote rest other) refl

-- ---- escapes

plain : (b : ℕ) (rest : List ℕ) → b ≢ backslash → unescaped (b ∷ rest) ≡ b ∷ unescaped rest
plain b [] other = refl
plain b (c ∷ rest) other = rw (ne_eqb b 92 other) refl

plain_all : (bytes rest : List ℕ) → ((k : ℕ) → k < length bytes → get_or bytes k 0 ≢ backslash)
    → unescaped (bytes ++ rest) ≡ bytes ++ unescaped rest
plain_all [] rest other = refl
plain_all (b ∷ bytes) rest other =
    plain b (bytes ++ rest) (other 0 (omega arith)) ∙ ap (λ more. b ∷ more) (plain_all bytes rest (λ k h. other (suc k) (omega arith)))

-- a byte of a character is the character or past ASCII
byte_of : (c k : ℕ) → k < length (encode_utf8 c) → get_or (encode_utf8 c) k 0 < 128 → c ≡ get_or (encode_utf8 c) k 0
byte_of c k within small = inside_one c [] (encode_utf8 c) k (sym (append-nil _)) within small

-- a character that is no backslash is meant itself
plain_char : (c : ℕ) (rest : List ℕ) → c ≢ backslash → unescaped (encode_utf8 c ++ rest) ≡ encode_utf8 c ++ unescaped rest
plain_char c rest other =
    plain_all (encode_utf8 c) rest (λ k h e. other (byte_of c k h (omega (arith, e)) ∙ e))

small_escape : (c : ℕ) → c < 128 → escaped c < 128
small_escape c h = elim (c == 110) as (λ v. (if v then 10 else (if c == 116 then 9 else (if c == 114 then 13 else (if c == 48 then 0 else c)))) < 128) [
  | true ↦ omega arith
  | false ↦ elim (c == 116) as (λ v. (if v then 9 else (if c == 114 then 13 else (if c == 48 then 0 else c))) < 128) [
    | true ↦ omega arith
    | false ↦ elim (c == 114) as (λ v. (if v then 13 else (if c == 48 then 0 else c)) < 128) [
      | true ↦ omega arith
      | false ↦ elim (c == 48) as (λ v. (if v then 0 else c) < 128) [ true ↦ omega arith | false ↦ h ]
    ]
  ]
]

large_escape : (c : ℕ) → 128 ≤ c → escaped c ≡ c
large_escape c h =
    rw (ne_eqb c 110 (λ e. absurd (omega arith)), ne_eqb c 116 (λ e. absurd (omega arith)), ne_eqb c 114 (λ e. absurd (omega arith)), ne_eqb c 48 (λ e. absurd (omega arith))) refl

-- the bytes of a character past ASCII after a backslash
wide_bytes : (bytes rest : List ℕ) → 0 < length bytes → ((k : ℕ) → k < length bytes → 128 ≤ get_or bytes k 0)
    → unescaped (backslash ∷ bytes ++ rest) ≡ bytes ++ unescaped rest
wide_bytes [] rest some wide = absurd (omega (arith, some))
wide_bytes (b ∷ bytes) rest some wide =
    ap (λ e. e ∷ unescaped (bytes ++ rest)) (large_escape b (wide 0 (omega arith)))
    ∙ ap (λ more. b ∷ more) (plain_all bytes rest (λ k h e. let far : 128 ≤ get_or bytes k 0 = wide (suc k) (omega arith) in absurd (omega arith)))

-- a backslash and a character are one character
escaped_char : (c : ℕ) (rest : List ℕ) → unescaped (backslash ∷ encode_utf8 c ++ rest) ≡ encode_utf8 (escaped c) ++ unescaped rest
escaped_char c rest = ⊎_elim ascii wide (cases_lt c 128)
  where
    ascii : c < 128 → unescaped (backslash ∷ encode_utf8 c ++ rest) ≡ encode_utf8 (escaped c) ++ unescaped rest
    ascii h = rw (encode_ascii c h, encode_ascii (escaped c) (small_escape c h)) refl

    wide : 128 ≤ c → unescaped (backslash ∷ encode_utf8 c ++ rest) ≡ encode_utf8 (escaped c) ++ unescaped rest
    wide h =
        wide_bytes (encode_utf8 c) rest (omega (arith, length-encode c, len_utf8_bounds c))
        (λ k within. ⊎_elim (λ small. absurd (omega (arith, byte_of c k within small))) (λ far. far) (cases_lt (get_or (encode_utf8 c) k 0) 128))
        ∙ ap (λ e. encode_utf8 e ++ unescaped rest) (sym (large_escape c h))

-- what is meant by the bytes after a backslash or another byte
abbrev pub pending : Bool → List ℕ → List ℕ
pending true rest = unescaped (backslash ∷ rest)
pending false rest = unescaped rest

-- a character is read: after a backslash, as a backslash, and as itself
pub after_escape : (into new rest more whole : List ℕ) (b : Bool) (c e : ℕ) → b ≡ true → rest ≡ encode_utf8 c ++ more
    → new ≡ into ++ encode_utf8 e → e ≡ escaped c → into ++ pending b rest ≡ whole → new ++ unescaped more ≡ whole
after_escape into new rest more whole b c e behind parts pushed meant held =
    rw (pushed, meant, append_assoc) (ap (λ m. into ++ m) (sym (escaped_char c more)) ∙ rw (behind, parts) at held)

pub after_backslash : (into rest more whole : List ℕ) (b : Bool) (c : ℕ) → b ≡ false → rest ≡ encode_utf8 c ++ more → c ≡ backslash
    → into ++ pending b rest ≡ whole → into ++ unescaped (backslash ∷ more) ≡ whole
after_backslash into rest more whole b c plain parts is held = rw (plain, parts, is, encode_ascii 92 (omega arith)) at held

pub after_plain : (into new rest more whole : List ℕ) (b : Bool) (c : ℕ) → b ≡ false → rest ≡ encode_utf8 c ++ more → c ≢ backslash
    → new ≡ into ++ encode_utf8 c → into ++ pending b rest ≡ whole → new ++ pending b more ≡ whole
after_plain into new rest more whole b c plain parts other pushed held =
    rw (pushed, plain, append_assoc) (ap (λ m. into ++ m) (sym (plain_char c more other)) ∙ rw (plain, parts) at held)

-- ---- adjacent strings

-- what a token means, where it is a string
abbrev pub string_of : Token → Option (List ℕ)
string_of t = when_some (is_kind Str t) (unquoted double_quote t.text)

pub begins : (d : ℕ) (t : Token) (bytes : List ℕ) → string_of t ≡ Some bytes → takes (Strings d) t ≡ Some (Then (MoreStrings d t.at bytes) Return)
begins d t bytes e = elim (is_kind Str t) as (λ v. when_some v (unquoted double_quote t.text) ≡ Some bytes → when_some v (option_map (λ bytes. Then (MoreStrings d t.at bytes) Return) (unquoted double_quote t.text)) ≡ Some (Then (MoreStrings d t.at bytes) Return)) [
  | true ↦ λ h. ap (option_map (λ bytes. Then (MoreStrings d t.at bytes) Return)) h
  | false ↦ λ h. cc
] e

pub no_begin : (d : ℕ) (t : Token) → string_of t ≡ None → takes (Strings d) t ≡ None
no_begin d t e = elim (is_kind Str t) as (λ v. when_some v (unquoted double_quote t.text) ≡ None → when_some v (option_map (λ bytes. Then (MoreStrings d t.at bytes) Return) (unquoted double_quote t.text)) ≡ None) [
  | true ↦ λ h. ap (option_map (λ bytes. Then (MoreStrings d t.at bytes) Return)) h
  | false ↦ λ h. refl
] e

goes_on : (d place : ℕ) (bytes : List ℕ) (t : Token) (more : List ℕ) → string_of t ≡ Some more
    → takes (MoreStrings d place bytes) t ≡ Some (Then (MoreStrings d place (bytes ++ more)) Return)
goes_on d place bytes t more e = elim (is_kind Str t) as (λ v. when_some v (unquoted double_quote t.text) ≡ Some more → when_some v (option_map (λ more. Then (MoreStrings d place (bytes ++ more)) Return) (unquoted double_quote t.text)) ≡ Some (Then (MoreStrings d place (bytes ++ more)) Return)) [
  | true ↦ λ h. ap (option_map (λ more. Then (MoreStrings d place (bytes ++ more)) Return)) h
  | false ↦ λ h. cc
] e

ends : (d place : ℕ) (bytes : List ℕ) (t : Token) → string_of t ≡ None → takes (MoreStrings d place bytes) t ≡ None
ends d place bytes t e = elim (is_kind Str t) as (λ v. when_some v (unquoted double_quote t.text) ≡ None → when_some v (option_map (λ more. Then (MoreStrings d place (bytes ++ more)) Return) (unquoted double_quote t.text)) ≡ None) [
  | true ↦ λ h. ap (option_map (λ more. Then (MoreStrings d place (bytes ++ more)) Return)) h
  | false ↦ λ h. refl
] e

-- a string, and none
pub some_meant : (o : Option (List ℕ)) → is_some o ≡ true → o ≡ Some (unwrap_or o [])
some_meant None h = cc
some_meant (Some bytes) h = refl

pub none_meant : (o : Option (List ℕ)) → is_some o ≡ false → o ≡ None
none_meant None h = refl
none_meant (Some bytes) h = cc

pub first_string : (d : ℕ) (tokens : List Token) (t : Token) (ts : List Token) (bytes : List ℕ) → tokens ≡ t ∷ ts
    → string_of t ≡ Some bytes → d ≤ most_depth → reads (Strings d) tokens ≡ reads (MoreStrings d t.at bytes) ts
first_string d tokens t ts bytes are e shallow =
    rw are (parsed_takes (Strings d) Return t ts (Then (MoreStrings d t.at bytes) Return) (begins d t bytes e) ∙ fits _ _ _ shallow)

-- one string more
pub more_strings : (d place : ℕ) (bytes : List ℕ) (tokens : List Token) (t : Token) (ts : List Token) (more : List ℕ) → tokens ≡ t ∷ ts
    → string_of t ≡ Some more → d ≤ most_depth → reads (MoreStrings d place bytes) tokens ≡ reads (MoreStrings d place (bytes ++ more)) ts
more_strings d place bytes tokens t ts more are e shallow =
    rw are (parsed_takes (MoreStrings d place bytes) Return t ts (Then (MoreStrings d place (bytes ++ more)) Return) (goes_on d place bytes t more e) ∙ fits _ _ _ shallow)

-- no further string
pub no_more_strings : (d place : ℕ) (bytes : List ℕ) (tokens : List Token) (t : Token) (ts : List Token) → tokens ≡ t ∷ ts
    → string_of t ≡ None → reads (MoreStrings d place bytes) tokens ≡ read (quoted place bytes) tokens
no_more_strings d place bytes tokens t ts are e =
    rw are (parsed_left (MoreStrings d place bytes) Return t ts (quoted place bytes) (ends d place bytes t e) refl ∙ parsed_return (quoted place bytes) (t ∷ ts))

pub strings_end : (d place : ℕ) (bytes : List ℕ) (tokens : List Token) → length tokens ≡ 0
    → reads (MoreStrings d place bytes) tokens ≡ read (quoted place bytes) tokens
strings_end d place bytes [] none = parsed_end_left (MoreStrings d place bytes) Return (quoted place bytes) refl ∙ parsed_return (quoted place bytes) []
strings_end d place bytes (t ∷ ts) none = absurd (omega (arith, none))
