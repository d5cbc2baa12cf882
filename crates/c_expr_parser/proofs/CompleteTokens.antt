-- Tokens as the walk takes them: what a rule of the grammar says of a token is what the walk looks at.
use Rattle.std.specs.Prelude.{◌≡◌, ℕ, pos, Bool, true, false, List, [], ◌∷◌, ◌++◌, Some}
use Rattle.std.proofs.Common.{refl, ap, subst, ◌∙◌, append_assoc}
use Rattle.std.proofs.lemmas.Slice.Eq.{bytes_eq-Decides}
use Rattle.std.proofs.lemmas.Bool.{eq-eqb}
use Rattle.c_ints.specs.declared.int.Int.{Int}
use Rattle.c_ints.specs.Number.{value_of}
use Rattle.c_ints.proofs.Reading.{reading_value}
use Rattle.c_lexer.specs.declared.token.Token.{Token}
use Rattle.c_lexer.specs.declared.token.TokenKind.{TokenKind}
use Rattle.c_expr_parser.specs.Placed.{Placed, at, start}
use Rattle.c_expr_parser.specs.Terminals.{Spells, IsIdentifier, IsNumber, IsConstant, Strings, name}
use Rattle.c_expr_parser.specs.Quoted.{IsQuoted}
use Rattle.std.specs.Str.{bytes_eq}
use Rattle.c_expr_parser.specs.Tables.{is, kind_number, before_quote, unquoted, constant_of}
use Rattle.c_expr_parser.specs.Plans.{Value, Wanted, Plan, after, depth_of, takes, operand_plan}
use Rattle.c_expr_parser.specs.Plans.Value.{nothing, named}
use Rattle.c_expr_parser.specs.Plans.Wanted.{Word, Naming, One, MoreStrings, Cast, Unary}
use Rattle.c_expr_parser.specs.Plans.Plan.{Return, Then}
use Rattle.c_expr_parser.proofs.CompletePlans.{Reaches, stays, taken}

bytes_same : (s : List ℕ) → bytes_eq s s ≡ true
bytes_same s = (bytes_eq-Decides s s).1 refl

-- a token of a kind with a spelling
is_spelled : {kind : TokenKind} {d : ℕ} {spelling : List ℕ} {t : Placed} → Spells kind d spelling t → is kind spelling t.token ≡ true
is_spelled {kind} {d} {spelling} s = rw (s.sort, s.spelled, eq-eqb (kind_number kind) (kind_number kind) refl, bytes_same spelling) refl

-- a token of a kind at a place, with a spelling
abbrev pub token_of : TokenKind → ℕ → ℕ → List ℕ → Token
token_of kind place many spelling = record { kind = kind; at = place; len = many; text = spelling }

pub as_spelled : {kind : TokenKind} {d : ℕ} {spelling : List ℕ} {t : Placed} → Spells kind d spelling t
    → t.token ≡ token_of kind (at t) t.token.len spelling
as_spelled {t} s = λ i. record { kind = s.sort i; at = at t; len = t.token.len; text = s.spelled i }

-- what is spelled is taken
pub taken_spelled : {w : Wanted} {p q : Plan} {kind : TokenKind} {d : ℕ} {spelling : List ℕ} {t : Placed} {ts : List Placed}
    {rest : List Token} {k : Value → Plan}
    → Spells kind d spelling t → takes w (token_of kind (at t) t.token.len spelling) ≡ Some p → d ≡ depth_of w
    → Reaches ts rest (after p k) q → Reaches (t ∷ ts) rest (Then w k) q
taken_spelled {w} s e d r = taken (ap (takes w) (as_spelled s) ∙ e) (s.stands ∙ d) r

-- a token that must come
pub word : {kind : TokenKind} {d : ℕ} {spelling : List ℕ} {t : Placed} {ts : List Placed} {rest : List Token} {k : Value → Plan}
    {q : Plan} → Spells kind d spelling t → Reaches ts rest (k nothing) q
    → Reaches (t ∷ ts) rest (Then (Word kind spelling d) k) q
word s r = taken {p = Return nothing} (rw (is_spelled s) refl) s.stands r

-- a name
pub naming : {d : ℕ} {t : Placed} {ts : List Placed} {rest : List Token} {k : Value → Plan} {q : Plan} → IsIdentifier d t
    → Reaches ts rest (k (named (name t))) q → Reaches (t ∷ ts) rest (Then (Naming d) k) q
naming {t} s r = taken {p = Return (named (name t))} (rw s.sort refl) s.stands r

-- the value of a constant
pub constant_is : {spelling : List ℕ} {value : Int} → IsConstant spelling value → constant_of spelling ≡ Some value
constant_is {spelling} c = rw (reading_value spelling c.radix c.digits c.suffix c.literal, c.typed) refl

-- the number 1
pub one : {d : ℕ} {value : Int} {t : Placed} {ts : List Placed} {rest : List Token} {k : Value → Plan} {q : Plan}
    → IsNumber d value t → value_of value ≡ pos 1 → Reaches ts rest (k nothing) q → Reaches (t ∷ ts) rest (Then (One d) k) q
one n v r = taken {p = Return nothing} (rw (n.sort, constant_is n.constant, v) refl) n.stands r

-- what stands between two quotes
before_closing : (q : ℕ) (body : List ℕ) → before_quote q (body ++ q ∷ []) ≡ Some body
before_closing q [] = rw (eq-eqb q q refl) refl
before_closing q (b ∷ []) = rw (eq-eqb q q refl) refl
before_closing q (b ∷ c ∷ body) = rw (before_closing q (c ∷ body)) refl

pub unquoted_is : {q : ℕ} {spelling bytes : List ℕ} → IsQuoted q spelling bytes → unquoted q spelling ≡ Some bytes
unquoted_is {q} i = rw (i.are, eq-eqb q q refl, before_closing q i.body, i.means) refl

-- further strings after some
more_strings : {d : ℕ} {ts : List Placed} {bytes : List ℕ} {rest : List Token} {k : Value → Plan} → Strings d ts bytes
    → (place : ℕ) (before : List ℕ)
    → Reaches ts rest (Then (MoreStrings d place before) k) (Then (MoreStrings d place (before ++ bytes)) k)
more_strings {d} {bytes = bytes} (Strings.last s) place before =
    taken {p = Then (MoreStrings d place (before ++ bytes)) Return} (rw (s.sort, unquoted_is s.quoted) refl) s.stands stays
more_strings {d} {rest = rest} {k} (Strings.more {t} {ts} {bytes} {others} s further) place before =
    subst (λ all. Reaches (t ∷ ts) rest (Then (MoreStrings d place before) k) (Then (MoreStrings d place all) k))
    (append_assoc before bytes others)
    (taken {p = Then (MoreStrings d place (before ++ bytes)) Return} (rw (s.sort, unquoted_is s.quoted) refl) s.stands
    (more_strings further place (before ++ bytes)))

-- adjacent strings
pub strings : {d : ℕ} {ts : List Placed} {bytes : List ℕ} {rest : List Token} {k : Value → Plan} → Strings d ts bytes
    → Reaches ts rest (Then (Wanted.Strings d) k) (Then (MoreStrings d (start ts) bytes) k)
strings {d} (Strings.last {t} {bytes} s) =
    taken {p = Then (MoreStrings d (at t) bytes) Return} (rw (s.sort, unquoted_is s.quoted) refl) s.stands stays
strings {d} (Strings.more {t} {bytes} s further) =
    taken {p = Then (MoreStrings d (at t) bytes) Return} (rw (s.sort, unquoted_is s.quoted) refl) s.stands
    (more_strings further (at t) bytes)

-- where casts are wanted, or else unary expressions
abbrev pub first : Bool → ℕ → Wanted
first true d = Cast d
first false d = Unary d

first_takes : (casts : Bool) (d : ℕ) (t : Token) → takes (first casts d) t ≡ operand_plan casts d t
first_takes true d t = refl
first_takes false d t = refl

first_depth : (casts : Bool) (d : ℕ) → d ≡ depth_of (first casts d)
first_depth true d = refl
first_depth false d = refl

-- a token that begins an operand
pub began : (casts : Bool) {d : ℕ} {p q : Plan} {t : Placed} {ts : List Placed} {rest : List Token} {k : Value → Plan}
    → operand_plan casts d t.token ≡ Some p → t.depth ≡ d → Reaches ts rest (after p k) q
    → Reaches (t ∷ ts) rest (Then (first casts d) k) q
began casts {d} {t} e s r = taken (first_takes casts d t.token ∙ e) (s ∙ first_depth casts d) r

pub began_spelled : (casts : Bool) {p q : Plan} {kind : TokenKind} {d : ℕ} {spelling : List ℕ} {t : Placed} {ts : List Placed}
    {rest : List Token} {k : Value → Plan}
    → Spells kind d spelling t → operand_plan casts d (token_of kind (at t) t.token.len spelling) ≡ Some p
    → Reaches ts rest (after p k) q → Reaches (t ∷ ts) rest (Then (first casts d) k) q
began_spelled casts {d = d} s e r = began casts (ap (operand_plan casts d) (as_spelled s) ∙ e) s.stands r
