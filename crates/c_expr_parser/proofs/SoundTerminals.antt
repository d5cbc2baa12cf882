-- Numbers, characters and strings.
use Rattle.std.specs.Prelude.{◌≡◌, ℕ, ◌==◌, true, false, pos, List, [], ◌∷◌, ◌++◌, Option, Some, None, Result, Ok, Err, option_map}
use Rattle.std.specs.Option.{option_map_or}
use Rattle.std.specs.Ordering.{int_eq}
use Rattle.std.proofs.Common.{refl, ap, sym, subst, arith, inl, inr, append_assoc, append-nil}
use Rattle.std.proofs.lemmas.Bool.{and_parts, false≢true, eqb-true}
use Rattle.std.proofs.lemmas.Bool.Decides.{Decides-int_eq}
use Rattle.c_ints.specs.declared.int.Int.{Int}
use Rattle.c_ints.specs.declared.constant.Radix.{Radix}
use Rattle.c_ints.specs.declared.constant.Suffix.{Suffix}
use Rattle.c_ints.specs.declared.constant.LiteralFault.{LiteralFault}
use Rattle.c_ints.specs.Number.{value_of}
use Rattle.c_ints.specs.Literal.{IsLiteral, literal_value}
use Rattle.c_ints.proofs.Reading.{reading, reading_value, reading_some}
use Rattle.c_lexer.specs.Bytes.{double_quote}
use Rattle.c_lexer.specs.declared.token.Token.{Token}
use Rattle.c_lexer.specs.declared.token.TokenKind.TheVariants.{Number, Str}
use Rattle.c_expr_parser.specs.Placed.{Placed}
use Rattle.c_expr_parser.specs.Quoted.{IsQuoted, unescaped}
use Rattle.c_expr_parser.specs.Terminals.{IsConstant, IsString, Strings}
use Rattle.c_expr_parser.specs.Tables.{is_kind, before_quote, unquoted, only, if_ok, constant_of, is_one}
use Rattle.c_expr_parser.specs.Plans.{Value, Wanted, Plan, takes, left_out}
use Rattle.c_expr_parser.specs.Plans.Plan.{Return, Then}
use Rattle.c_expr_parser.proofs.TraceMeaning.{Sound, sound_return, sound_map}
use Rattle.c_expr_parser.proofs.WantedMeaning.{IsOne, IsQuotation, Means, Fits}
use Rattle.c_expr_parser.proofs.SoundTables.{placed_at, Each, each_at, each_if, each_when, each_map, each_mapped, of_kind}

-- what comes before the closing quote
before_is : (quote : ℕ) (bytes : List ℕ) → Each (λ front. bytes ≡ front ++ quote ∷ []) (before_quote quote bytes)
before_is quote [] = tt
before_is quote (b ∷ []) =
    each_if (λ front. b ∷ [] ≡ front ++ quote ∷ []) (b == quote) (Some []) None (λ h. ap (λ c. c ∷ []) (eqb-true b quote h)) (λ h. tt)
before_is quote (b ∷ c ∷ bs) =
    each_mapped (λ front. c ∷ bs ≡ front ++ quote ∷ []) (λ front. b ∷ c ∷ bs ≡ front ++ quote ∷ []) (λ front. b ∷ front)
    (before_quote quote (c ∷ bs)) (before_is quote (c ∷ bs)) (λ front e. ap (λ l. b ∷ l) e)

quoted_as : (quote b : ℕ) (bs front : List ℕ) → b ≡ quote → bs ≡ front ++ quote ∷ [] → IsQuoted quote (b ∷ bs) (unescaped front)
quoted_as quote b bs front e k = record { body = front; are = cc; means = refl }

pub unquoted_is : (quote : ℕ) (spelling : List ℕ) → Each (λ bytes. IsQuoted quote spelling bytes) (unquoted quote spelling)
unquoted_is quote [] = tt
unquoted_is quote (b ∷ bs) =
    each_if (λ bytes. IsQuoted quote (b ∷ bs) bytes) (b == quote) (option_map unescaped (before_quote quote bs)) None
    (λ h. each_mapped (λ front. bs ≡ front ++ quote ∷ []) (λ bytes. IsQuoted quote (b ∷ bs) bytes) unescaped (before_quote quote bs)
    (before_is quote bs) (λ front e. quoted_as quote b bs front (eqb-true b quote h) e))
    (λ h. tt)

pub only_is : {A : Type 0} (o : Option (List A)) (a : A) → only o ≡ Some a → o ≡ Some (a ∷ [])
only_is None a e = absurd (grind (arith, e))
only_is (Some []) a e = absurd (grind (arith, e))
only_is (Some (b ∷ [])) a e = ap (option_map (λ x. x ∷ [])) e
only_is (Some (b ∷ c ∷ rest)) a e = absurd (grind (arith, e))

valued : (spelling : List ℕ) (radix : Radix) (digits : List ℕ) (suffix : Suffix) (r : Result Int LiteralFault)
    → IsLiteral spelling radix digits suffix → literal_value radix digits suffix ≡ r → Each (IsConstant spelling) (if_ok r)
valued spelling radix digits suffix (Ok value) h e = record { radix = radix; digits = digits; suffix = suffix; literal = h; typed = e }
valued spelling radix digits suffix (Err fault) h e = tt

constant_some : (spelling : List ℕ) → Each (IsConstant spelling) (constant_of spelling)
constant_some spelling = elim (reading_some spelling) [
  | inl h ↦
      valued spelling h.0 h.1.0 h.1.1.0 (reading spelling) h.1.1.1 (sym (reading_value spelling h.0 h.1.0 h.1.1.0 h.1.1.1))
  | inr e ↦ subst (λ r. Each (IsConstant spelling) (if_ok r)) (sym e) tt
]

pub constant_is : (spelling : List ℕ) (value : Int) → constant_of spelling ≡ Some value → IsConstant spelling value
constant_is spelling value e = each_at (IsConstant spelling) (constant_of spelling) value e (constant_some spelling)

one_of : (d : ℕ) (t : Token) → is_kind Number t ≡ true → (o : Option Int) → constant_of t.text ≡ o
    → option_map_or (λ n. int_eq (value_of n) (pos 1)) o false ≡ true → (v : Value) → IsOne d (placed_at d t ∷ []) v
one_of d t h None e k v = absurd (false≢true k)
one_of d t h (Some value) e k v =
    IsOne.one value (record { sort = of_kind Number t h; stands = refl; constant = constant_is t.text value e })
    ((Decides-int_eq (value_of value) (pos 1)).0 k)

-- a number of value 1
pub one_taken : (n d : ℕ) (t : Token)
    → Each (λ p. Sound n (λ more v. IsOne d (placed_at d t ∷ more) v) p) (takes (Wanted.One d) t)
one_taken n d t =
    each_when (λ p. Sound n (λ more v. IsOne d (placed_at d t ∷ more) v) p) (is_one t) _
    (λ h. sound_return (let both = and_parts (is_kind Number t) (option_map_or (λ n. int_eq (value_of n) (pos 1)) (constant_of t.text) false) h in
    one_of d t both.0 (constant_of t.text) refl both.1 _))

string_at : (d : ℕ) (t : Token) (bytes : List ℕ) → is_kind Str t ≡ true → unquoted double_quote t.text ≡ Some bytes
    → IsString d bytes (placed_at d t)
string_at d t bytes h e = record {
  sort = of_kind Str t h;
  stands = refl;
  quoted = each_at (λ b. IsQuoted double_quote t.text b) (unquoted double_quote t.text) bytes e (unquoted_is double_quote t.text);
}

strings_more : {d : ℕ} {ts : List Placed} {bytes more : List ℕ} {t : Placed} → Strings d ts bytes → IsString d more t
    → Strings d (ts ++ t ∷ []) (bytes ++ more)
strings_more (Strings.last s) i = Strings.more s (Strings.last i)
strings_more {more} (Strings.more {bytes} {others} s ss) i = rw append_assoc (Strings.more s (strings_more ss i))

pub strings_taken : {n : ℕ} → Fits n → (d : ℕ) (t : Token)
    → Each (λ p. Sound n (λ more v. IsQuotation d (placed_at d t ∷ more) v) p) (takes (Wanted.Strings d) t)
strings_taken {n} fits d t =
    each_when P (is_kind Str t) _ (λ h. each_map P (λ bytes. Then (Wanted.MoreStrings d t.at bytes) Return) (unquoted double_quote t.text)
    (λ bytes e. sound_map (λ more v m. m (placed_at d t) [] (Strings.last (string_at d t bytes h e)) refl)
    (fits.wanted (Wanted.MoreStrings d t.at bytes))))
  where
    P : Plan → Type 0
    P p = Sound n (λ more v. IsQuotation d (placed_at d t ∷ more) v) p

pub further_taken : {n : ℕ} → Fits n → (d place : ℕ) (bytes : List ℕ) (t : Token)
    → Each (λ p. Sound n (λ more v. Means (Wanted.MoreStrings d place bytes) (placed_at d t ∷ more) v) p)
    (takes (Wanted.MoreStrings d place bytes) t)
further_taken {n} fits d place bytes t =
    each_when P (is_kind Str t) _ (λ h. each_map P (λ more. Then (Wanted.MoreStrings d place (bytes ++ more)) Return)
    (unquoted double_quote t.text) (λ more e. longer more h e))
  where
    P : Plan → Type 0
    P p = Sound n (λ more v. Means (Wanted.MoreStrings d place bytes) (placed_at d t ∷ more) v) p

    longer : (more : List ℕ) → is_kind Str t ≡ true → unquoted double_quote t.text ≡ Some more
        → P (Then (Wanted.MoreStrings d place (bytes ++ more)) Return)
    longer more h e =
        sound_map (λ ts v m. λ first left s k.
        rw append_assoc at (m first (left ++ placed_at d t ∷ []) (strings_more s (string_at d t more h e)) k))
        (fits.wanted (Wanted.MoreStrings d place (bytes ++ more)))

pub strings_left : (d place : ℕ) (bytes : List ℕ) → Each (Means (Wanted.MoreStrings d place bytes) []) (left_out (Wanted.MoreStrings d place bytes))
strings_left d place bytes = λ t left s e. rw (e, append-nil) (IsQuotation.strings s)
