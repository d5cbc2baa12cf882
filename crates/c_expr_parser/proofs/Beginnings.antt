-- What expressions, types and statements begin with.
use Rattle.std.specs.Prelude.{◌≡◌, ◌||◌, ℕ, Bool, true, false, IsTrue, List, [], ◌∷◌, ◌++◌, codes}
use Rattle.std.proofs.Common.{refl, ap, sym, subst, arith}
use Rattle.std.proofs.lemmas.Bool.{false≢true, or_right}
use Rattle.c_ints.specs.declared.operator.UnOp.{UnOp}
use Rattle.c_lexer.specs.Words.{is_one_of}
use Rattle.c_lexer.specs.declared.token.TokenKind.{TokenKind}
use Rattle.c_lexer.specs.declared.token.TokenKind.TheVariants.{Identifier, Keyword, LibraryWord, Number, Character, Str, Punctuator}
use Rattle.c_ints.specs.declared.kind.Kind.{Kind}
use Rattle.c_ints.specs.declared.kind.Kind.TheVariants.{I8, U8, I16, U16, I32, U32, I64, U64}
use Rattle.c_tree.specs.declared.name.CType.{CType}
use Rattle.c_tree.specs.declared.stmt.Stmt.{Stmt}
use Rattle.c_tree.specs.declared.expr.Expr.{Expr}
use Rattle.c_expr_parser.specs.Placed.{Placed, text}
use Rattle.c_expr_parser.specs.Terminals.{IsToken, Spells}
use Rattle.c_expr_parser.specs.TypeNames.{TypeName, IntegerWords, IsIntegerWord, integer_words, is_spelling}
use Rattle.c_expr_parser.specs.Statements.{Statement, Ending}
use Rattle.c_expr_parser.specs.Operators.{UnaryOperator}
use Rattle.c_expr_parser.specs.Expressions.{Assignment, Conditional, Binary, Cast, Unary, Postfix, Primary}

-- the tokens that an expression begins with
abbrev pub begins_expression : TokenKind → List ℕ → Bool
begins_expression Identifier spelling = true
begins_expression Number spelling = true
begins_expression Character spelling = true
begins_expression Punctuator spelling =
    is_one_of (codes "(" ∷ codes "+" ∷ codes "-" ∷ codes "~" ∷ codes "!" ∷ codes "++" ∷ codes "--" ∷ []) spelling
begins_expression LibraryWord spelling =
    is_one_of (codes "NULL" ∷ codes "thrd_success" ∷ codes "thrd_error" ∷ codes "printf" ∷ codes "calloc" ∷ codes "free"
    ∷ codes "thrd_create" ∷ codes "thrd_join" ∷ codes "mtx_init" ∷ codes "mtx_lock" ∷ codes "mtx_unlock" ∷ []) spelling
begins_expression Keyword spelling = false
begins_expression Str spelling = false

-- the first token passes a test of tokens, and is at the depth
pub record Opens (test : TokenKind → List ℕ → Bool) (d : ℕ) (ts : List Placed) : Type 0 where
  pub first : Placed
  pub rest : List Placed
  pub are : ts ≡ first ∷ rest
  pub stands : first.depth ≡ d
  pub begins : IsTrue (test first.token.kind (text first))

spelled : {test : TokenKind → List ℕ → Bool} {kind : TokenKind} {d : ℕ} {spelling : List ℕ} {t : Placed} → Spells kind d spelling t
    → IsTrue (test kind spelling) → (rest : List Placed) → Opens test d (t ∷ rest)
spelled {t} s b rest = record { first = t; rest = rest; are = refl; stands = s.stands; begins = rw (s.sort, s.spelled) b }

named : {d : ℕ} {t : Placed} → IsToken Identifier d t → (rest : List Placed) → Opens begins_expression d (t ∷ rest)
named {t} s rest = record { first = t; rest = rest; are = refl; stands = s.stands; begins = rw s.sort refl }

before : {test : TokenKind → List ℕ → Bool} {d : ℕ} {ts : List Placed} → Opens test d ts → (more : List Placed)
    → Opens test d (ts ++ more)
before o more = record {
  first = o.first;
  rest = o.rest ++ more;
  are = ap (λ ts. ts ++ more) o.are;
  stands = o.stands;
  begins = o.begins;
}

signed : {spelling : List ℕ} {op : UnOp} → UnaryOperator spelling op → IsTrue (begins_expression Punctuator spelling)
signed UnaryOperator.plus = refl
signed UnaryOperator.negate = refl
signed UnaryOperator.complement = refl
signed UnaryOperator.not = refl

primary_opens : {d : ℕ} {ts : List Placed} {e : Expr} → Primary d ts e → Opens begins_expression d ts
primary_opens (Primary.variable t) = named t _
primary_opens (Primary.number {t} n) = record { first = t; rest = []; are = refl; stands = n.stands; begins = rw n.sort refl }
primary_opens (Primary.character {t} c) = record { first = t; rest = []; are = refl; stands = c.stands; begins = rw c.sort refl }
primary_opens (Primary.null s) = spelled s refl _
primary_opens (Primary.success s) = spelled s refl _
primary_opens (Primary.error s) = spelled s refl _
primary_opens (Primary.parentheses s _ _) = spelled s refl _
primary_opens (Primary.print s _ _ _ _) = spelled s refl _
primary_opens (Primary.calloc s _ _ _ _ _ _ _ _ _ _) = spelled s refl _
primary_opens (Primary.free s _ _ _) = spelled s refl _
primary_opens (Primary.create s _ _ _ _ _ _ _ _) = spelled s refl _
primary_opens (Primary.join s _ _ _ _ _) = spelled s refl _
primary_opens (Primary.join_into s _ _ _ _ _ _) = spelled s refl _
primary_opens (Primary.init_mutex s _ _ _ _ _ _) = spelled s refl _
primary_opens (Primary.lock s _ _ _ _) = spelled s refl _
primary_opens (Primary.unlock s _ _ _ _) = spelled s refl _

pub postfix_opens : {d : ℕ} {ts : List Placed} {e : Expr} → Postfix d ts e → Opens begins_expression d ts
postfix_opens (Postfix.primary p) = primary_opens p
postfix_opens (Postfix.call s _ _ _) = named s _
postfix_opens (Postfix.element s _ _ _) = named s _
postfix_opens (Postfix.arrow p _ _) = before (postfix_opens p) _
postfix_opens (Postfix.dot p _ _) = before (postfix_opens p) _
postfix_opens (Postfix.post_increment p _) = before (postfix_opens p) _
postfix_opens (Postfix.post_decrement p _) = before (postfix_opens p) _

pub unary_opens : {d : ℕ} {ts : List Placed} {e : Expr} → Unary d ts e → Opens begins_expression d ts
unary_opens (Unary.postfix p) = postfix_opens p
unary_opens (Unary.operator op s _) = spelled s (signed op) _
unary_opens (Unary.pre_increment s _) = spelled s refl _
unary_opens (Unary.pre_decrement s _) = spelled s refl _

cast_opens : {d : ℕ} {ts : List Placed} {e : Expr} → Cast d ts e → Opens begins_expression d ts
cast_opens (Cast.unary u) = unary_opens u
cast_opens (Cast.cast s _ _ _) = spelled s refl _

pub binary_opens : {level d : ℕ} {ts : List Placed} {e : Expr} → Binary level d ts e → Opens begins_expression d ts
binary_opens (Binary.operand c) = cast_opens c
binary_opens (Binary.tighter b) = binary_opens b
binary_opens (Binary.chain a _ _ _) = before (binary_opens a) _

conditional_opens : {d : ℕ} {ts : List Placed} {e : Expr} → Conditional d ts e → Opens begins_expression d ts
conditional_opens (Conditional.binary b) = binary_opens b
conditional_opens (Conditional.choice b _ _ _ _) = before (binary_opens b) _

-- an expression begins with one of these tokens
pub opens : {d : ℕ} {ts : List Placed} {e : Expr} → Assignment d ts e → Opens begins_expression d ts
opens (Assignment.conditional c) = conditional_opens c
opens (Assignment.assign u _ _) = before (unary_opens u) _
opens (Assignment.update u _ _ _) = before (unary_opens u) _

-- the first of some tokens, or another
abbrev first_or : Placed → List Placed → Placed
first_or other [] = other
first_or other (t ∷ ts) = t

-- an expression has a token, and the first is no keyword; so a parenthesised type is no parenthesised expression
pub no_tokens : {d : ℕ} {e : Expr} → ¬ Assignment d [] e
no_tokens a = let o = opens a in grind (arith, o.are)

pub no_keyword : {d : ℕ} {t : Placed} {ts : List Placed} {e : Expr} → t.token.kind ≡ Keyword → ¬ Assignment d (t ∷ ts) e
no_keyword {t} k a =
    let o = opens a in
    let same : o.first ≡ t = sym (ap (first_or t) o.are) in
    let begins = subst (λ first. IsTrue (begins_expression first.token.kind (text first))) same o.begins in
    false≢true (subst (λ kind. IsTrue (begins_expression kind (text t))) k begins)

-- the tokens that a type begins with
abbrev pub begins_type : TokenKind → List ℕ → Bool
begins_type Keyword spelling = is_one_of (codes "struct" ∷ integer_words) spelling
begins_type LibraryWord spelling = is_one_of (codes "thrd_t" ∷ []) spelling
begins_type _ spelling = false

word_opens : {d : ℕ} {t : Placed} → IsIntegerWord d t → (rest : List Placed) → Opens begins_type d (t ∷ rest)
word_opens {t} w rest = record {
  first = t;
  rest = rest;
  are = refl;
  stands = w.keyword.stands;
  begins = subst (λ kind. IsTrue (begins_type kind (text t))) (sym w.keyword.sort) (or_right _ _ w.known);
}

pub none_means : (kind : Kind) → ¬ IsTrue (is_spelling kind [])
none_means I8 h = false≢true h
none_means U8 h = false≢true h
none_means I16 h = false≢true h
none_means U16 h = false≢true h
none_means I32 h = false≢true h
none_means U32 h = false≢true h
none_means I64 h = false≢true h
none_means U64 h = false≢true h

words_open : (kind : Kind) {d : ℕ} {ts : List Placed} {words : List (List ℕ)} → IntegerWords d ts words → IsTrue (is_spelling kind words)
    → Opens begins_type d ts
words_open kind IntegerWords.none h = absurd (none_means kind h)
words_open kind (IntegerWords.more w ws) h = word_opens w _

-- a type begins with one of these
pub type_opens : {d : ℕ} {ts : List Placed} {t : CType} → TypeName d ts t → Opens begins_type d ts
type_opens (TypeName.integer {kind} words h) = words_open kind words h
type_opens (TypeName.handle s _ _) = spelled s refl _
type_opens (TypeName.thread s) = spelled s refl _

-- the tokens that a statement begins with
abbrev pub begins_statement : TokenKind → List ℕ → Bool
begins_statement Punctuator spelling = is_one_of (codes "{" ∷ codes ";" ∷ []) spelling || begins_expression Punctuator spelling
begins_statement Keyword spelling =
    is_one_of (codes "if" ∷ codes "while" ∷ codes "do" ∷ codes "for" ∷ codes "break" ∷ codes "continue" ∷ codes "return" ∷ []) spelling
begins_statement LibraryWord spelling =
    is_one_of (codes "dsu_update" ∷ codes "dsu_tx" ∷ []) spelling || begins_expression LibraryWord spelling
begins_statement kind spelling = begins_expression kind spelling

widened : (kind : TokenKind) (spelling : List ℕ) → IsTrue (begins_expression kind spelling) → IsTrue (begins_statement kind spelling)
widened Identifier s h = h
widened Keyword s h = absurd (false≢true h)
widened LibraryWord s h = or_right _ _ h
widened Number s h = h
widened Character s h = h
widened Str s h = h
widened Punctuator s h = or_right _ _ h

as_statement : {d : ℕ} {ts : List Placed} → Opens begins_expression d ts → Opens begins_statement d ts
as_statement o = record {
  first = o.first;
  rest = o.rest;
  are = o.are;
  stands = o.stands;
  begins = widened o.first.token.kind (text o.first) o.begins;
}

-- a statement begins with one of these, so never with `else`, a closing bracket or a type
pub statement_opens : {ending : Ending} {d : ℕ} {ts : List Placed} {s : Stmt} → Statement ending d ts s → Opens begins_statement d ts
statement_opens (Statement.block s _ _) = spelled s refl _
statement_opens (Statement.empty s) = spelled s refl _
statement_opens (Statement.evaluate e _) = before (as_statement (opens e)) _
statement_opens (Statement.if_only s _ _ _ _) = spelled s refl _
statement_opens (Statement.if_else s _ _ _ _ _ _) = spelled s refl _
statement_opens (Statement.while s _ _ _ _) = spelled s refl _
statement_opens (Statement.do_while s _ _ _ _ _ _) = spelled s refl _
statement_opens (Statement.for s _ _ _ _ _ _ _) = spelled s refl _
statement_opens (Statement.break s _) = spelled s refl _
statement_opens (Statement.continue s _) = spelled s refl _
statement_opens (Statement.return s _) = spelled s refl _
statement_opens (Statement.return_value s _ _) = spelled s refl _
statement_opens (Statement.update s _ _ _) = spelled s refl _
statement_opens (Statement.transaction s _ _ _) = spelled s refl _
