-- What the tests and look-ups of a token say of it.
use Rattle.std.specs.Prelude.{◌≡◌, ℕ, ◌==◌, Bool, true, false, if◌then◌else◌, List, [], ◌∷◌, Option, Some, None, option_map, get_or, unwrap_or}
use Rattle.std.specs.Str.{bytes_eq}
use Rattle.std.proofs.Common.{refl, ap, sym, subst, ◌∙◌, arith, ap₂}
use Rattle.std.proofs.lemmas.Bool.{eqb-true, and_parts}
use Rattle.std.proofs.lemmas.Slice.Eq.{bytes_eq-Decides}
use Rattle.c_ints.specs.declared.operator.BinOp.{BinOp}
use Rattle.c_ints.specs.declared.operator.UnOp.{UnOp}
use Rattle.c_lexer.specs.declared.token.Token.{Token}
use Rattle.c_lexer.specs.declared.token.TokenKind.{TokenKind}
use Rattle.c_lexer.specs.declared.token.TokenKind.TheVariants.{Identifier, Keyword, LibraryWord, Number, Character, Str, Punctuator}
use Rattle.c_expr_parser.specs.Placed.{Placed}
use Rattle.c_expr_parser.specs.Terminals.{IsToken, Spells}
use Rattle.c_expr_parser.specs.declared.operators.Joint.{Joint}
use Rattle.c_expr_parser.specs.Operators.{BinaryOperator, UnaryOperator, CompoundOperator}
use Rattle.c_expr_parser.specs.Tables.{look, kind_number, is_kind, is, when_some, at_level, binary_operators, unary_operators, compound_operators, binary_operator, unary_operator, compound_operator}
use Rattle.c_expr_parser.proofs.Tables.{binary_found, unary_found, compound_found}

-- P holds of what there is
abbrev pub Each : {A : Type 0} → (A → Type 0) → Option A → Type 0
Each P None = Unit {0}
Each P (Some a) = P a

pub each_at : {A : Type 0} (P : A → Type 0) (o : Option A) (a : A) → o ≡ Some a → Each P o → P a
each_at P None a e all = absurd (grind (arith, e))
each_at P (Some b) a e all = subst P (ap (λ o. unwrap_or o b) e) all

-- a choice by a test
pub each_if : {A : Type 0} (P : A → Type 0) (test : Bool) (a b : Option A) → (test ≡ true → Each P a) → (test ≡ false → Each P b)
    → Each P (if test then a else b)
each_if P true a b first second = first refl
each_if P false a b first second = second refl

pub each_when : {A : Type 0} (P : A → Type 0) (test : Bool) (a : Option A) → (test ≡ true → Each P a) → Each P (when_some test a)
each_when P true a there = there refl
each_when P false a there = tt

-- what a function makes of what there is
pub each_map : {A B : Type 0} (P : B → Type 0) (f : A → B) (o : Option A) → ((a : A) → o ≡ Some a → P (f a)) → Each P (option_map f o)
each_map P f None all = tt
each_map P f (Some a) all = all a refl

pub each_mapped : {A B : Type 0} (P : A → Type 0) (Q : B → Type 0) (f : A → B) (o : Option A) → Each P o → ((a : A) → P a → Q (f a))
    → Each Q (option_map f o)
each_mapped P Q f None e all = tt
each_mapped P Q f (Some a) e all = all a e

-- a row of a table, and those below it
pub each_row : {A : Type 0} (P : A → Type 0) (spelling row : List ℕ) (a : A) (below : Option A) → (spelling ≡ row → P a) → Each P below
    → Each P (if bytes_eq spelling row then Some a else below)
each_row P spelling row a below here later =
    each_if P (bytes_eq spelling row) (Some a) below (λ h. here ((bytes_eq-Decides spelling row).0 h)) (λ h. later)

-- the kind of a number
abbrev kind_at : ℕ → TokenKind
kind_at n = get_or (Identifier ∷ Keyword ∷ LibraryWord ∷ Number ∷ Character ∷ Str ∷ []) n Punctuator

numbered : (kind : TokenKind) → kind_at (kind_number kind) ≡ kind
numbered Identifier = refl
numbered Keyword = refl
numbered LibraryWord = refl
numbered Number = refl
numbered Character = refl
numbered Str = refl
numbered Punctuator = refl

pub of_kind : (kind : TokenKind) (t : Token) → is_kind kind t ≡ true → t.kind ≡ kind
of_kind kind t h = sym (numbered t.kind) ∙ (ap kind_at (eqb-true (kind_number t.kind) (kind_number kind) h) ∙ numbered kind)

-- a token at a depth
abbrev pub placed_at : ℕ → Token → Placed
placed_at d t = record { token = t; depth = d }

-- a token of a kind, placed
pub token_at : (kind : TokenKind) (d : ℕ) (t : Token) → is_kind kind t ≡ true → IsToken kind d (placed_at d t)
token_at kind d t h = record { sort = of_kind kind t h; stands = refl }

-- a token of a kind and a spelling, placed
pub spelled_as : (kind : TokenKind) (d : ℕ) (spelling : List ℕ) (t : Token) → t.kind ≡ kind → t.text ≡ spelling
    → Spells kind d spelling (placed_at d t)
spelled_as kind d spelling t h e = record { sort = h; stands = refl; spelled = e }

pub spelled_at : (kind : TokenKind) (d : ℕ) (spelling : List ℕ) (t : Token) → is kind spelling t ≡ true
    → Spells kind d spelling (placed_at d t)
spelled_at kind d spelling t h =
    let both = and_parts (is_kind kind t) (bytes_eq t.text spelling) h in
    spelled_as kind d spelling t (of_kind kind t both.0) ((bytes_eq-Decides t.text spelling).0 both.1)

-- the parts of a test and what it lets through
pub when_parts : {A : Type 0} (test : Bool) (o : Option A) (a : A) → when_some test o ≡ Some a → (test ≡ true) × (o ≡ Some a)
when_parts true o a e = (refl, e)
when_parts false o a e = absurd (grind (arith, e))

row_parts : (level : ℕ) (o : Option (ℕ × Joint)) (joint : Joint) → at_level level o ≡ Some joint → o ≡ Some (level, joint)
row_parts level None joint e = absurd (grind (arith, e))
row_parts level (Some row) joint e = by_test (row.0 == level) refl e
  where
    by_test : (test : Bool) → (row.0 == level) ≡ test → (if test then Some row.1 else None) ≡ Some joint → Some row ≡ Some (level, joint)
    by_test true h e =
        let same : row.0 ≡ level = eqb-true row.0 level h in
        let joints : row.1 ≡ joint = ap (λ o. unwrap_or o row.1) e in
        ap₂ (λ l j. Some (l, j)) same joints
    by_test false h e = absurd (grind (arith, e))

pub binary_is : (level d : ℕ) (t : Token) (joint : Joint) → binary_operator level t ≡ Some joint
    → BinaryOperator level t.text joint × Spells Punctuator d t.text (placed_at d t)
binary_is level d t joint e =
    let parts = when_parts (is_kind Punctuator t) (at_level level (look t.text binary_operators)) joint e in (
      binary_found level t.text joint (row_parts level (look t.text binary_operators) joint parts.1),
      spelled_as Punctuator d t.text t (of_kind Punctuator t parts.0) refl,
    )

pub unary_is : (d : ℕ) (t : Token) (op : UnOp) → unary_operator t ≡ Some op
    → UnaryOperator t.text op × Spells Punctuator d t.text (placed_at d t)
unary_is d t op e =
    let parts = when_parts (is_kind Punctuator t) (look t.text unary_operators) op e in
    (unary_found t.text op parts.1, spelled_as Punctuator d t.text t (of_kind Punctuator t parts.0) refl)

pub compound_is : (d : ℕ) (t : Token) (op : BinOp) → compound_operator t ≡ Some op
    → CompoundOperator t.text op × Spells Punctuator d t.text (placed_at d t)
compound_is d t op e =
    let parts = when_parts (is_kind Punctuator t) (look t.text compound_operators) op e in
    (compound_found t.text op parts.1, spelled_as Punctuator d t.text t (of_kind Punctuator t parts.0) refl)
