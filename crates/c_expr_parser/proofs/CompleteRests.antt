-- Which tokens go on with an expression, by their spelling: where the next token is no such, the expression ends.
use Rattle.std.specs.Prelude.{◌≡◌, ◌&&◌, ◌||◌, ℕ, Bool, true, false, List, [], ◌∷◌, map, None, codes}
use Rattle.std.specs.Str.{bytes_eq}
use Rattle.std.proofs.Common.{refl, sym}
use Rattle.std.proofs.lemmas.Bool.{false≢true}
use Rattle.c_lexer.specs.Words.{is_one_of}
use Rattle.c_lexer.specs.declared.token.Token.{Token}
use Rattle.c_lexer.specs.declared.token.TokenKind.TheVariants.{Punctuator}
use Rattle.c_expr_parser.specs.Tables.{look, is_kind, is_integer_word, binary_operators, compound_operators}
use Rattle.c_expr_parser.proofs.CompleteEnds.{EndsUnary, EndsExpression, at_end, no_assignment}
use Rattle.c_expr_parser.proofs.CompleteTypes.{EndsType}

-- no token is left, or the next doesn't pass the test
abbrev pub Rests : (Token → Bool) → List Token → Type 0
Rests test [] = Unit {0}
Rests test (t ∷ ts) = test t ≡ false

-- the spellings of a table
abbrev spelled_in : {A : Type 0} → List (List ℕ × A) → List (List ℕ)
spelled_in rows = map (λ row. row.0) rows

-- the punctuators that go on with a unary expression, and with an expression
abbrev postfix_punctuators : List (List ℕ)
postfix_punctuators = codes "(" ∷ codes "[" ∷ codes "->" ∷ codes "." ∷ codes "++" ∷ codes "--" ∷ []

abbrev pub goes_on_unary : Token → Bool
goes_on_unary t = is_kind Punctuator t && is_one_of postfix_punctuators t.text

abbrev pub goes_on_expression : Token → Bool
goes_on_expression t =
    is_kind Punctuator t
    && (is_one_of postfix_punctuators t.text
    || (is_one_of (codes "=" ∷ codes "?" ∷ []) t.text
    || (is_one_of (spelled_in compound_operators) t.text || is_one_of (spelled_in binary_operators) t.text)))

neither : (a b : Bool) → (a || b) ≡ false → (a ≡ false) × (b ≡ false)
neither true b h = absurd (false≢true (sym h))
neither false b h = (refl, h)

look_none : {A : Type 0} (spelling : List ℕ) (rows : List (List ℕ × A)) → is_one_of (spelled_in rows) spelling ≡ false
    → look spelling rows ≡ None
look_none spelling [] h = refl
look_none spelling (row ∷ rows) h =
    let parts = neither (bytes_eq spelling row.0) _ h in
    rw parts.0 (look_none spelling rows parts.1)

-- of six texts
each_of_six : (text a b c d e f : List ℕ) → is_one_of (a ∷ b ∷ c ∷ d ∷ e ∷ f ∷ []) text ≡ false
    → (bytes_eq text a ≡ false) × ((bytes_eq text b ≡ false) × ((bytes_eq text c ≡ false) × ((bytes_eq text d ≡ false) × ((bytes_eq text e ≡ false) × (bytes_eq text f ≡ false)))))
each_of_six text a b c d e f h =
    let h1 = neither (bytes_eq text a) _ h in
    let h2 = neither (bytes_eq text b) _ h1.1 in
    let h3 = neither (bytes_eq text c) _ h2.1 in
    let h4 = neither (bytes_eq text d) _ h3.1 in
    let h5 = neither (bytes_eq text e) _ h4.1 in
    (h1.0, (h2.0, (h3.0, (h4.0, (h5.0, (neither (bytes_eq text f) _ h5.1).0)))))

-- what is no punctuator goes on with nothing
no_punctuator : (t : Token) (ts : List Token) → is_kind Punctuator t ≡ false → EndsExpression (t ∷ ts)
no_punctuator t ts k = record {
  unary = record { behind = λ d place text. rw k refl; postfix = λ d a. rw k refl };
  assigned = λ d a. no_assignment d a t (rw k refl);
  chains = λ i d a. rw k refl;
  chosen = λ d a. rw k refl;
}

unary_punctuator : (t : Token) (ts : List Token) → is_kind Punctuator t ≡ true → is_one_of postfix_punctuators t.text ≡ false → EndsUnary (t ∷ ts)
unary_punctuator t ts k h =
    let parts = each_of_six t.text _ _ _ _ _ _ h in
    record {
      behind = λ d place text. rw (k, parts.0, parts.1.0) refl;
      postfix = λ d a. rw (k, parts.1.1.0, parts.1.1.1.0, parts.1.1.1.1.0, parts.1.1.1.1.1) refl;
    }

other_punctuator : (t : Token) (ts : List Token) → is_kind Punctuator t ≡ true
    → (is_one_of postfix_punctuators t.text
    || (is_one_of (codes "=" ∷ codes "?" ∷ []) t.text
    || (is_one_of (spelled_in compound_operators) t.text || is_one_of (spelled_in binary_operators) t.text))) ≡ false
    → EndsExpression (t ∷ ts)
other_punctuator t ts k h =
    let first = neither (is_one_of postfix_punctuators t.text) _ h in
    let second = neither (is_one_of (codes "=" ∷ codes "?" ∷ []) t.text) _ first.1 in
    let third = neither (is_one_of (spelled_in compound_operators) t.text) _ second.1 in
    let equals = neither (bytes_eq t.text (codes "=")) _ second.0 in
    let asks = neither (bytes_eq t.text (codes "?")) _ equals.1 in
    record {
      unary = unary_punctuator t ts k first.0;
      assigned = λ d a. no_assignment d a t (rw (k, equals.0, look_none t.text compound_operators third.0) refl);
      chains = λ i d a. rw (k, look_none t.text binary_operators third.1) refl;
      chosen = λ d a. rw (k, asks.0) refl;
    }

-- where the next token doesn't go on with an expression, the expression ends
pub ends_expression : (rest : List Token) → Rests goes_on_expression rest → EndsExpression rest
ends_expression [] h = at_end
ends_expression (t ∷ ts) h =
    (elim (is_kind Punctuator t) as (λ punctuator. is_kind Punctuator t ≡ punctuator → EndsExpression (t ∷ ts)) [
      | true ↦ λ k. other_punctuator t ts k (rw k at h)
      | false ↦ λ k. no_punctuator t ts k
    ]) refl

pub ends_unary : (rest : List Token) → Rests goes_on_unary rest → EndsUnary rest
ends_unary [] h = at_end.unary
ends_unary (t ∷ ts) h =
    (elim (is_kind Punctuator t) as (λ punctuator. is_kind Punctuator t ≡ punctuator → EndsUnary (t ∷ ts)) [
      | true ↦ λ k. unary_punctuator t ts k (rw k at h)
      | false ↦ λ k. (no_punctuator t ts k).unary
    ]) refl

-- and a type, where the next token is no word of an integer type
pub ends_type : (rest : List Token) → Rests is_integer_word rest → EndsType rest
ends_type [] h = record { words = λ d words. tt }
ends_type (t ∷ ts) h = record { words = λ d words. rw h refl }
