-- What begins an operand, by its first token.
use Rattle.std.proofs.Common.{◌≡◌, ◌≤◌, ◌<◌, ℕ, suc, Bool, true, false, List, [], ◌∷◌, length, Option, Some, None, ◌⊎◌, inl, inr, refl, sym, ap, ◌∙◌}
use Rattle.std.specs.Prelude.{option_map, if◌then◌else◌, codes, pos}
use Rattle.std.specs.Str.{bytes_eq}
use Rattle.c_ints.specs.declared.int.Int.{Int}
use Rattle.c_ints.specs.declared.kind.Kind.TheVariants.{I32}
use Rattle.c_ints.specs.Number.{number}
use Rattle.c_lexer.specs.Bytes.{quote}
use Rattle.c_lexer.specs.declared.token.Token.{Token}
use Rattle.c_lexer.specs.declared.token.TokenKind.{TokenKind}
use Rattle.c_lexer.specs.declared.token.TokenKind.TheVariants.{Keyword, LibraryWord, Number, Character, Str, Punctuator}
use Rattle.c_tree.specs.declared.name.Name.{Name}
use Rattle.c_tree.specs.declared.expr.Expr.{Expr}
use Rattle.c_tree.specs.declared.expr.ExprNode.{ExprNode}
use Rattle.c_tree.specs.declared.expr.ExprNode.TheVariants as node
use Rattle.c_expr_parser.specs.declared.library.LibraryName.{LibraryName}
use Rattle.c_expr_parser.specs.declared.library.LibraryName.TheVariants as library
use Rattle.c_expr_parser.specs.declared.operators.Prefix.{Prefix}
use Rattle.c_expr_parser.specs.declared.operators.Prefix.TheVariants as prefix
use Rattle.c_expr_parser.specs.Readings.{most_depth}
use Rattle.c_expr_parser.specs.Tables.{look, only, unquoted, constant_of, is, holds_ahead, unary_operators, unary_operator, begins_type, library_name, prefix_of}
use Rattle.c_expr_parser.specs.Plans.{Value, nothing, operand, listed, Word, Cast, Unary, Typing, Inside, Behind, Postfix, Arguments, Further, Target, Plan, Return, Then, after, as_operand, as_expr, as_name, as_list, as_type, unary, other, depth_of, takes, left_out, punctuator, name_then, expr_then, primary, assignment, assignment_rest, operand_plan, operand_by, punctuator_operand, library_word_operand, word_call, mutex_call, mutex_argument, create_call, create_place, create_function, behind_name, arguments, prefixed, cast_plan, parenthesised, type_plan, wanted, read, stuck, deep, at_depth, parsed, reads}
use Rattle.c_expr_parser.proofs.JoinedTraces.{after_return, after_after}
use Rattle.c_expr_parser.proofs.PlanResults.{next, fits, sinks, parsed_after, parsed_then, parsed_return, parsed_takes, parsed_left, parsed_dead, parsed_end, parsed_end_left, no_items}
use Rattle.c_expr_parser.proofs.OperandContinuations.{with_values, look_values, takes_first, sinks_first, is_spelled}

-- an operand by what follows its first token
takes_wanted : (casts : Bool) (d : ℕ) (t : Token) → takes (wanted casts d) t ≡ operand_plan casts d t
takes_wanted true d t = refl
takes_wanted false d t = refl

depth_wanted : (casts : Bool) (d : ℕ) → depth_of (wanted casts d) ≡ d
depth_wanted true d = refl
depth_wanted false d = refl

needed : (casts : Bool) (d : ℕ) → left_out (wanted casts d) ≡ None
needed true d = refl
needed false d = refl

pub operand_end : (casts : Bool) (d : ℕ) (ts : List Token) → length ts ≡ 0 → reads (wanted casts d) ts ≡ stuck 0
operand_end casts d ts h = rw (no_items ts h) (parsed_end (wanted casts d) Return (needed casts d))

pub operand_none : (casts : Bool) (d : ℕ) (t : Token) (us ts : List Token) → ts ≡ t ∷ us → operand_plan casts d t ≡ None
    → reads (wanted casts d) ts ≡ stuck (length ts)
operand_none casts d t us ts are e = rw are (parsed_dead (wanted casts d) Return t us (takes_wanted casts d t ∙ e) (needed casts d))

pub operand_some : (casts : Bool) (d : ℕ) (p : Plan) (t : Token) (us ts : List Token) → ts ≡ t ∷ us → operand_plan casts d t ≡ Some p
    → reads (wanted casts d) ts ≡ at_depth d (length ts) (parsed p us)
operand_some casts d p t us ts are e =
    rw are (parsed_takes (wanted casts d) Return t us p (takes_wanted casts d t ∙ e)
    ∙ ap (λ n. at_depth n (length (t ∷ us)) (parsed (after p Return) us)) (depth_wanted casts d)
    ∙ ap (λ q. at_depth d (length (t ∷ us)) (parsed q us)) (after_return p))

pub operand_takes : (casts : Bool) (d : ℕ) (p : Plan) (t : Token) (us ts : List Token) → ts ≡ t ∷ us → operand_plan casts d t ≡ Some p
    → d ≤ most_depth → reads (wanted casts d) ts ≡ parsed p us
operand_takes casts d p t us ts are e shallow = operand_some casts d p t us ts are e ∙ fits _ _ _ shallow

pub operand_deep : (casts : Bool) (d : ℕ) (p : Plan) (t : Token) (us ts : List Token) → ts ≡ t ∷ us → operand_plan casts d t ≡ Some p
    → most_depth < d → reads (wanted casts d) ts ≡ deep (length ts)
operand_deep casts d p t us ts are e low = operand_some casts d p t us ts are e ∙ sinks _ _ _ low

-- by the kind of the first token
pub plan_by : (kind : TokenKind) (casts : Bool) (d : ℕ) (t : Token) → t.kind ≡ kind → operand_plan casts d t ≡ operand_by kind casts d t
plan_by kind casts d t e = ap (λ k. operand_by k casts d t) e

-- a token of which no operand begins
pub no_plan : (casts : Bool) (d : ℕ) (t : Token) → (t.kind ≡ Keyword) ⊎ (t.kind ≡ Str) → operand_plan casts d t ≡ None
no_plan casts d t (inl e) = plan_by Keyword casts d t e
no_plan casts d t (inr e) = plan_by Str casts d t e

-- names of the library
pub library_word_is : (d : ℕ) (t : Token) → library_word_operand d t ≡ option_map (λ w. word_call w d t.at) (library_name t.text)
library_word_is d t = look_values (λ w. word_call w d t.at) t.text (
    (codes "NULL", library.Null) ∷ (codes "thrd_success", library.Success) ∷ (codes "thrd_error", library.Error)
    ∷ (codes "printf", library.Printf) ∷ (codes "calloc", library.Calloc) ∷ (codes "free", library.Free)
    ∷ (codes "thrd_create", library.Create) ∷ (codes "thrd_join", library.Join) ∷ (codes "mtx_init", library.Init)
    ∷ (codes "mtx_lock", library.Lock) ∷ (codes "mtx_unlock", library.Unlock) ∷ [])

-- punctuators
same_if : {A : Type 0} (b : Bool) (x y z : A) → y ≡ z → (if b then x else y) ≡ (if b then x else z)
same_if true x y z e = refl
same_if false x y z e = e

map_if : {A B : Type 0} (f : A → B) (b : Bool) (x : A) (o : Option A) → option_map f (if b then Some x else o) ≡ (if b then Some (f x) else option_map f o)
map_if f true x o = refl
map_if f false x o = refl

option_map_map : {A B C : Type 0} (f : A → B) (g : B → C) (o : Option A) → option_map g (option_map f o) ≡ option_map (λ x. g (f x)) o
option_map_map f g (Some x) = refl
option_map_map f g None = refl

pub punctuator_is : (casts : Bool) (d : ℕ) (t : Token) → t.kind ≡ Punctuator → punctuator_operand casts d t ≡ option_map (prefixed casts d t.at) (prefix_of t.text)
punctuator_is casts d t kind =
    let f = prefixed casts d t.at in
    let unary_is : option_map (λ op. f (prefix.Operator op)) (unary_operator t) ≡ option_map f (look t.text (with_values prefix.Operator unary_operators)) =
    ap (option_map (λ op. f (prefix.Operator op))) (rw kind refl)
    ∙ sym (option_map_map prefix.Operator f (look t.text unary_operators)) ∙ ap (option_map f) (sym (look_values prefix.Operator t.text unary_operators)) in
    same_if (bytes_eq t.text (codes "(")) _ _ _ (same_if (bytes_eq t.text (codes "++")) _ _ _ (same_if (bytes_eq t.text (codes "--")) _ _ _ unary_is
    ∙ sym (map_if f (bytes_eq t.text (codes "--")) prefix.Decrement _))
    ∙ sym (map_if f (bytes_eq t.text (codes "++")) prefix.Increment _))
    ∙ sym (map_if f (bytes_eq t.text (codes "(")) prefix.Open _)

-- the plan of an operand by what its first token is found to be
pub number_plan : (casts : Bool) (d : ℕ) (t : Token) (o : Option Int) → t.kind ≡ Number → o ≡ constant_of t.text
    → operand_plan casts d t ≡ option_map (λ n. primary d t.at (node.Number n)) o
number_plan casts d t o kind e = plan_by Number casts d t kind ∙ ap (option_map (λ n. primary d t.at (node.Number n))) (sym e)

pub character_plan : (casts : Bool) (d : ℕ) (t : Token) (o : Option Int) → t.kind ≡ Character
    → o ≡ option_map (λ b. number I32 (pos b)) (only (unquoted quote t.text))
    → operand_plan casts d t ≡ option_map (λ n. primary d t.at (node.Character n)) o
character_plan casts d t o kind e =
    plan_by Character casts d t kind
    ∙ sym (option_map_map (λ b. number I32 (pos b)) (λ n. primary d t.at (node.Character n)) (only (unquoted quote t.text)))
    ∙ ap (option_map (λ n. primary d t.at (node.Character n))) (sym e)

pub library_word_plan : (casts : Bool) (d : ℕ) (t : Token) (o : Option LibraryName) → t.kind ≡ LibraryWord → o ≡ library_name t.text
    → operand_plan casts d t ≡ option_map (λ w. word_call w d t.at) o
library_word_plan casts d t o kind e = plan_by LibraryWord casts d t kind ∙ library_word_is d t ∙ ap (option_map (λ w. word_call w d t.at)) (sym e)

pub punctuator_plan : (casts : Bool) (d : ℕ) (t : Token) (o : Option Prefix) → t.kind ≡ Punctuator → o ≡ prefix_of t.text
    → operand_plan casts d t ≡ option_map (prefixed casts d t.at) o
punctuator_plan casts d t o kind e = plan_by Punctuator casts d t kind ∙ punctuator_is casts d t kind ∙ ap (option_map (prefixed casts d t.at)) (sym e)

-- the first of two lists that are equal
first_or : Token → List Token → Token
first_or t [] = t
first_or t (u ∷ us) = u

pub same_first : {t u : Token} {ts us : List Token} → t ∷ ts ≡ u ∷ us → t ≡ u
unfolding first_or
same_first {t} e = ap (first_or t) e

-- after an opening parenthesis: no type, so an expression
abbrev pub closing : ℕ → ℕ → Value → Plan
closing d place v = punctuator (codes ")") d (Then (Postfix d (record { expr = as_expr v; start = place; is_unary = true })) Return)

expr_by : (casts : Bool) (d place : ℕ) (t : Token) (us : List Token) (o : Option Plan) → operand_plan true (suc d) t ≡ o
    → takes (Inside casts d place) t ≡ option_map (λ p. after (after p (assignment_rest (suc d))) (closing d place)) o
    → reads (Inside casts d place) (t ∷ us) ≡ parsed (after (assignment (suc d)) (closing d place)) (t ∷ us)
expr_by casts d place t us None e f = parsed_dead (Inside casts d place) Return t us f refl ∙ sym (parsed_dead (Cast (suc d)) _ t us e refl)
expr_by casts d place t us (Some p) e f =
    parsed_takes (Inside casts d place) Return t us _ f
    ∙ ap (λ q. at_depth (suc d) (length (t ∷ us)) (parsed q us)) (after_return _ ∙ after_after p (assignment_rest (suc d)) (closing d place))
    ∙ sym (parsed_takes (Cast (suc d)) (λ v. after (assignment_rest (suc d) v) (closing d place)) t us p e)

pub inside_expr : (casts : Bool) (d place : ℕ) (t : Token) (us ts : List Token) → ts ≡ t ∷ us → begins_type t ≡ false
    → reads (Inside casts d place) ts ≡ next (parsed (assignment (suc d)) ts) (λ v rest. parsed (closing d place v) rest)
inside_expr casts d place t us ts are e =
    rw are (expr_by casts d place t us (operand_plan true (suc d) t) refl (ap (λ b. if b then cast_plan casts d place t else parenthesised d place t) e)
    ∙ parsed_after (assignment (suc d)) (closing d place) (t ∷ us))

pub inside_end : (casts : Bool) (d place : ℕ) (ts : List Token) → length ts ≡ 0 → reads (Inside casts d place) ts ≡ stuck 0
inside_end casts d place ts h = rw (no_items ts h) (parsed_end (Inside casts d place) Return refl)

-- a type
abbrev pub converted : ℕ → ℕ → Value → Plan
converted d place ty = punctuator (codes ")") d (Then (Cast (suc d)) (λ v. Return (operand (other place (node.Cast (as_type ty) (as_expr v))))))

type_by : (d place : ℕ) (t : Token) (us : List Token) (o : Option Plan) → type_plan (suc d) t ≡ o
    → takes (Inside true d place) t ≡ option_map (λ p. after p (converted d place)) o
    → reads (Inside true d place) (t ∷ us) ≡ parsed (Then (Typing (suc d)) (converted d place)) (t ∷ us)
type_by d place t us None e f = parsed_dead (Inside true d place) Return t us f refl ∙ sym (parsed_dead (Typing (suc d)) _ t us e refl)
type_by d place t us (Some p) e f =
    parsed_takes (Inside true d place) Return t us _ f
    ∙ ap (λ q. at_depth (suc d) (length (t ∷ us)) (parsed q us)) (after_return _)
    ∙ sym (parsed_takes (Typing (suc d)) (converted d place) t us p e)

pub inside_type : (casts : Bool) (d place : ℕ) (t : Token) (us ts : List Token) → ts ≡ t ∷ us → begins_type t ≡ true → casts ≡ true
    → reads (Inside casts d place) ts ≡ next (reads (Typing (suc d)) ts) (λ v rest. parsed (converted d place v) rest)
inside_type casts d place t us ts are e yes_ =
    rw (are, yes_) (type_by d place t us (type_plan (suc d) t) refl (ap (λ b. if b then cast_plan true d place t else parenthesised d place t) e)
    ∙ parsed_then (Typing (suc d)) (converted d place) (t ∷ us))

pub inside_no_cast : (casts : Bool) (d place : ℕ) (t : Token) (us ts : List Token) → ts ≡ t ∷ us → begins_type t ≡ true → casts ≡ false
    → reads (Inside casts d place) ts ≡ stuck (length ts)
inside_no_cast casts d place t us ts are e no_ =
    rw (are, no_) (parsed_dead (Inside false d place) Return t us (ap (λ b. if b then cast_plan false d place t else parenthesised d place t) e) refl)

-- after a name
call_rest : ℕ → ℕ → List ℕ → Value → Plan
call_rest d place text es = primary d place (node.Call text (as_list es))

pub behind_call : (d place : ℕ) (text : List ℕ) (t : Token) (us ts : List Token) → ts ≡ t ∷ us → is Punctuator (codes "(") t ≡ true → d ≤ most_depth
    → parsed (behind_name d place text) ts ≡ next (parsed (arguments d) us) (λ es rest. parsed (primary d place (node.Call text (as_list es))) rest)
behind_call d place text t us ts are e shallow =
    takes_first (Behind d place text) (λ v. Then (Postfix d (as_operand v)) Return) t us ts
    (Then (Arguments (suc d)) (λ es. punctuator (codes ")") d (Return (operand (unary place (node.Call text (as_list es))))))) are (rw e refl) shallow
    ∙ parsed_after (arguments d) (λ es. primary d place (node.Call text (as_list es))) us

pub behind_index : (d place : ℕ) (text : List ℕ) (t : Token) (us ts : List Token) → ts ≡ t ∷ us → is Punctuator (codes "(") t ≡ false
    → is Punctuator (codes "[") t ≡ true → d ≤ most_depth
    → parsed (behind_name d place text) ts
    ≡ next (parsed (assignment (suc d)) us) (λ v rest. parsed (punctuator (codes "]") d (primary d place (node.Element text (as_expr v)))) rest)
behind_index d place text t us ts are no_ e shallow =
    takes_first (Behind d place text) (λ v. Then (Postfix d (as_operand v)) Return) t us ts
    (expr_then (suc d) (λ i. punctuator (codes "]") d (Return (operand (unary place (node.Element text i)))))) are (rw (no_, e) refl) shallow
    ∙ ap (λ p. parsed p us) (after_after (assignment (suc d)) (λ v. punctuator (codes "]") d (Return (operand (unary place (node.Element text (as_expr v))))))
    (λ v. Then (Postfix d (as_operand v)) Return))
    ∙ parsed_after (assignment (suc d)) (λ v. punctuator (codes "]") d (primary d place (node.Element text (as_expr v)))) us

pub behind_none : (d place : ℕ) (text : List ℕ) (ts : List Token) → holds_ahead (is Punctuator (codes "(")) ts ≡ false → holds_ahead (is Punctuator (codes "[")) ts ≡ false
    → parsed (behind_name d place text) ts ≡ parsed (primary d place (node.Variable text)) ts
behind_none d place text [] a b = parsed_end_left (Behind d place text) (λ v. Then (Postfix d (as_operand v)) Return) (operand (unary place (node.Variable text))) refl
behind_none d place text (t ∷ ts) a b =
    parsed_left (Behind d place text) (λ v. Then (Postfix d (as_operand v)) Return) t ts (operand (unary place (node.Variable text))) (rw (a, b) refl) refl

-- arguments
no_operand : (d : ℕ) (t : Token) → is Punctuator (codes ")") t ≡ true → operand_plan true d t ≡ None
no_operand d t e = let s = is_spelled Punctuator (codes ")") t e in rw (s.0, s.1) refl

pub arguments_none : (d : ℕ) (t : Token) (us ts : List Token) → ts ≡ t ∷ us → is Punctuator (codes ")") t ≡ true → d ≤ most_depth
    → parsed (arguments d) ts ≡ read (listed []) us
arguments_none d t us ts are e shallow =
    rw are (parsed_left (Arguments (suc d)) (λ es. punctuator (codes ")") d (Return es)) t us (listed []) (rw (no_operand (suc d) t e) refl) refl
    ∙ parsed_takes (Word Punctuator (codes ")") d) (λ v. Return (listed [])) t us (Return nothing) (rw e refl) ∙ fits _ _ _ shallow ∙ parsed_return _ _)

argument_rest : ℕ → Value → Plan
argument_rest d v = Then (Further (suc d) (as_expr v ∷ [])) (λ es. punctuator (codes ")") d (Return es))

arguments_by : (d : ℕ) (t : Token) (us : List Token) (o : Option Plan) → operand_plan true (suc d) t ≡ o → is Punctuator (codes ")") t ≡ false
    → takes (Arguments (suc d)) t ≡ option_map (λ p. after (after p (assignment_rest (suc d))) (λ v. Then (Further (suc d) (as_expr v ∷ [])) Return)) o
    → parsed (arguments d) (t ∷ us) ≡ parsed (after (assignment (suc d)) (argument_rest d)) (t ∷ us)
unfolding argument_rest
arguments_by d t us None e no_ f =
    parsed_left (Arguments (suc d)) (λ es. punctuator (codes ")") d (Return es)) t us (listed []) f refl
    ∙ parsed_dead (Word Punctuator (codes ")") d) _ t us (rw no_ refl) refl ∙ sym (parsed_dead (Cast (suc d)) _ t us e refl)
arguments_by d t us (Some p) e no_ f =
    parsed_takes (Arguments (suc d)) (λ es. punctuator (codes ")") d (Return es)) t us _ f
    ∙ ap (λ q. at_depth (suc d) (length (t ∷ us)) (parsed q us))
    (after_after (after p (assignment_rest (suc d))) _ _ ∙ after_after p (assignment_rest (suc d)) _)
    ∙ sym (parsed_takes (Cast (suc d)) (λ v. after (assignment_rest (suc d) v) (argument_rest d)) t us p e)

pub arguments_some : (d : ℕ) (ts : List Token) → holds_ahead (is Punctuator (codes ")")) ts ≡ false
    → parsed (arguments d) ts ≡ next (parsed (assignment (suc d)) ts)
    (λ v rest. parsed (Then (Further (suc d) (as_expr v ∷ [])) (λ es. punctuator (codes ")") d (Return es))) rest)
unfolding argument_rest
arguments_some d [] e =
    parsed_end_left (Arguments (suc d)) (λ es. punctuator (codes ")") d (Return es)) (listed []) refl ∙ parsed_end (Word Punctuator (codes ")") d) _ refl
    ∙ sym (parsed_end (Cast (suc d)) (λ v. after (assignment_rest (suc d) v) (argument_rest d)) refl) ∙ parsed_after (assignment (suc d)) (argument_rest d) []
arguments_some d (t ∷ ts) e =
    arguments_by d t ts (operand_plan true (suc d) t) refl e refl ∙ parsed_after (assignment (suc d)) (argument_rest d) (t ∷ ts)

-- the second argument of a join
pub target_null : (d : ℕ) (t : Token) (us ts : List Token) → ts ≡ t ∷ us → is LibraryWord (codes "NULL") t ≡ true → d ≤ most_depth
    → reads (Target d) ts ≡ read nothing us
target_null d t us ts are e shallow = takes_first (Target d) Return t us ts (Return nothing) are (rw e refl) shallow ∙ parsed_return _ _

pub target_deep : (d : ℕ) (t : Token) (us ts : List Token) → ts ≡ t ∷ us → is LibraryWord (codes "NULL") t ≡ true → most_depth < d
    → reads (Target d) ts ≡ deep (length ts)
target_deep d t us ts are e low = sinks_first (Target d) Return t us ts (Return nothing) are (rw e refl) low

target_by : (d : ℕ) (t : Token) (us : List Token) (b : Bool) → is Punctuator (codes "&") t ≡ b → is LibraryWord (codes "NULL") t ≡ false
    → reads (Target d) (t ∷ us) ≡ parsed (punctuator (codes "&") d (Then (Unary d) Return)) (t ∷ us)
target_by d t us true e no_ =
    parsed_takes (Target d) Return t us (Then (Unary d) Return) (rw (no_, e) refl)
    ∙ sym (parsed_takes (Word Punctuator (codes "&") d) (λ v. Then (Unary d) Return) t us (Return nothing) (rw e refl))
target_by d t us false e no_ =
    parsed_dead (Target d) Return t us (rw (no_, e) refl) refl
    ∙ sym (parsed_dead (Word Punctuator (codes "&") d) (λ v. Then (Unary d) Return) t us (rw e refl) refl)

pub target_place : (d : ℕ) (ts : List Token) → holds_ahead (is LibraryWord (codes "NULL")) ts ≡ false
    → reads (Target d) ts ≡ next (reads (Word Punctuator (codes "&") d) ts) (λ v rest. reads (Unary d) rest)
target_place d [] e = parsed_end (Target d) Return refl ∙ sym (parsed_end (Word Punctuator (codes "&") d) (λ v. Then (Unary d) Return) refl) ∙ parsed_then _ _ _
target_place d (t ∷ ts) e = target_by d t ts (is Punctuator (codes "&") t) refl e ∙ parsed_then _ _ _

-- calls of the library in parts
pub lock_goes : (made : Name → ExprNode Expr) (d start : ℕ) (ts : List Token)
    → parsed (mutex_call made d start) ts ≡ next (parsed (mutex_argument d) ts) (λ v rest. parsed (primary d start (made (as_name v))) rest)
lock_goes made d start ts = parsed_after (mutex_argument d) (λ v. primary d start (made (as_name v))) ts

pub create_rest : ℕ → ℕ → Value → Plan
create_rest d start v =
    name_then (suc d) (λ function. punctuator (codes ",") (suc d) (expr_then (suc d) (λ argument.
    punctuator (codes ")") d (primary d start (node.Create (as_expr v) function argument)))))

pub create_goes : (d start : ℕ) (ts : List Token)
    → parsed (create_call d start) ts ≡ next (parsed (create_place d) ts) (λ v rest. parsed (create_rest d start v) rest)
unfolding create_rest
create_goes d start ts = parsed_after (create_place d) (create_rest d start) ts

pub create_last : ℕ → ℕ → Value → Value → Plan
create_last d start v w =
    expr_then (suc d) (λ argument. punctuator (codes ")") d (primary d start (node.Create (as_expr v) (as_name w) argument)))

pub create_rest_goes : (d start : ℕ) (v : Value) (ts : List Token)
    → parsed (create_rest d start v) ts ≡ next (parsed (create_function (suc d)) ts) (λ w rest. parsed (create_last d start v w) rest)
unfolding create_rest create_last
create_rest_goes d start v ts = parsed_after (create_function (suc d)) (create_last d start v) ts

pub create_last_goes : (d start : ℕ) (v w : Value) (ts : List Token)
    → parsed (create_last d start v w) ts
    ≡ next (parsed (assignment (suc d)) ts) (λ x rest. parsed (punctuator (codes ")") d (primary d start (node.Create (as_expr v) (as_name w) (as_expr x)))) rest)
unfolding create_last
create_last_goes d start v w ts =
    parsed_after (assignment (suc d)) (λ x. punctuator (codes ")") d (primary d start (node.Create (as_expr v) (as_name w) (as_expr x)))) ts
