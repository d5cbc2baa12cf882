-- What begins an expression, a type or a statement of a text, by its first token.
use Rattle.std.proofs.Common.{◌≡◌, ◌<◌, ◌≤◌, ℕ, suc, Bool, true, false, List, [], ◌∷◌, ◌++◌, length, Option, Some, None, refl, sym, ap, ◌∙◌, append_assoc, append-nil}
use Rattle.std.specs.Prelude.{option_map, if◌then◌else◌, codes}
use Rattle.std.specs.Str.{bytes_eq}
use Rattle.std.proofs.Math.Path.{fun_ext}
use Rattle.c_lexer.specs.declared.token.Token.{Token}
use Rattle.c_lexer.specs.declared.token.TokenKind.{TokenKind}
use Rattle.c_lexer.specs.declared.token.TokenKind.TheVariants.{Identifier, Keyword, LibraryWord, Number, Character, Str, Punctuator}
use Rattle.c_tree.specs.declared.name.CType.{CType}
use Rattle.c_tree.specs.declared.expr.Expr.{Expr}
use Rattle.c_tree.specs.declared.stmt.Declaration.{Declaration}
use Rattle.c_tree.specs.declared.stmt.Stmt.{Stmt}
use Rattle.c_tree.specs.declared.stmt.StmtNode.TheVariants.{Evaluate}
use Rattle.c_expr_parser.specs.Readings.{most_depth}
use Rattle.c_expr_parser.specs.Statements.{stmt, declares}
use Rattle.c_expr_parser.specs.Tables.{is, when_some, holds_ahead, begins_type, is_integer_word, prefix_of}
use Rattle.c_expr_parser.specs.Plans.{Value, Wanted, Plan, Word, nothing, Cast, Typing, takes, depth_of, after, as_expr, as_type, assignment_rest, operand_plan, operand_by, type_plan}
use Rattle.c_expr_parser.specs.Plans.Plan.{Return, Then}
use Rattle.c_expr_parser.proofs.OperandContinuations.{look_values, is_spelled}
use Rattle.c_expr_parser.proofs.OperandBeginnings.{punctuator_plan}
use Rattle.c_expr_parser.proofs.PlanResults.{no_items}
use Rattle.c_parser.specs.TextPlans.{Found, TextWanted, TextPlan, then_text, behind, as_part, text_depth, text_takes, text_left_out, text_at_depth, text_parsed, punctuator, expr_then, expr_from, type_then, type_from, as_place, as_statement, as_statements, declaration_behind, statement_by, statement_plan, expression_statement, text_reads}
use Rattle.c_parser.specs.TextPlans.Found.{part, place, optional, statement, statements}
use Rattle.c_parser.specs.TextPlans.TextPlan.{Give, Want}
use Rattle.c_parser.specs.TextPlans.TextWanted.{Of, Optional, Statement, Items, Place, First}
use Rattle.c_parser.specs.TextPlans.TextParsed.{stuck_at, deep_at}
use Rattle.c_parser.specs.declared.opening.StatementWord.{StatementWord}
use Rattle.c_parser.specs.declared.opening.StatementWord.TheVariants as word
use Rattle.c_parser.specs.declared.opening.Opening.{Opening}
use Rattle.c_parser.specs.declared.opening.Opening.TheVariants as opening
use Rattle.c_parser.specs.Parts.{word_of, word_opening, opening_by, opening_of, word_plan, opened, optional_then, evaluate_then, items_then}
use Rattle.c_parser.proofs.JoinedTraces.{then_then, then_behind, behind_after}
use Rattle.c_parser.proofs.PlanResults.{parsed_takes, parsed_left, parsed_dead, parsed_end, parsed_end_left, takes_first, sinks_first}

-- something that begins as something of the walk through expressions does
pub begins_as : (w : TextWanted) (v : Wanted) (rest : Value → Plan) (j : Value → TextPlan) (k : Found → TextPlan) (t : Token) (us : List Token) (p : Plan)
    → text_takes w t ≡ Some (behind (after p rest) j) → takes v t ≡ Some p → text_depth w ≡ depth_of v
    → text_parsed (Want w k) (t ∷ us) ≡ text_parsed (behind (Then v rest) (λ x. then_text (j x) k)) (t ∷ us)
begins_as w v rest j k t us p e f same =
    parsed_takes w k t us (behind (after p rest) j) e
    ∙ ap (λ d. text_at_depth d (length (t ∷ us)) (text_parsed (then_text (behind (after p rest) j) k) us)) same
    ∙ ap (λ q. text_at_depth (depth_of v) (length (t ∷ us)) (text_parsed q us)) (
    then_behind (after p rest) j k ∙ behind_after p rest (λ x. then_text (j x) k)
    ∙ sym (then_behind p (λ x. Give (part x)) (λ f. behind (rest (as_part f)) (λ x. then_text (j x) k)))
    )
    ∙ sym (parsed_takes (Of v) (λ f. behind (rest (as_part f)) (λ x. then_text (j x) k)) t us (behind p (λ x. Give (part x)))
    (ap (option_map (λ p. behind p (λ x. Give (part x)))) f))

-- an expression or nothing before a punctuator
pub no_operand : (d : ℕ) (closing : List ℕ) (t : Token) → prefix_of closing ≡ None → is Punctuator closing t ≡ true → operand_plan true d t ≡ None
no_operand d closing t none here =
    let s = is_spelled Punctuator closing t here in
    punctuator_plan true d t None s.0 (sym none ∙ ap prefix_of (sym s.1))

pub optional_absent : (d : ℕ) (closing : List ℕ) (e : ℕ) (k : Option Expr → TextPlan) (ts : List Token) → prefix_of closing ≡ None
    → holds_ahead (is Punctuator closing) ts ≡ true → text_parsed (optional_then d closing e k) ts ≡ text_parsed (punctuator closing e (k None)) ts
optional_absent d closing e k [] none here = let h : false ≡ true = here in absurd (cc)
optional_absent d closing e k (t ∷ ts) none here =
    parsed_left (Optional d) _ t ts (optional None)
    (ap (option_map (λ p. behind (after p (assignment_rest d)) (λ v. Give (optional (Some (as_expr v)))))) (no_operand d closing t none here)) refl

optional_by : (d : ℕ) (closing : List ℕ) (e : ℕ) (k : Option Expr → TextPlan) (t : Token) (ts : List Token) (o : Option Plan)
    → operand_plan true d t ≡ o → is Punctuator closing t ≡ false
    → text_parsed (optional_then d closing e k) (t ∷ ts) ≡ text_parsed (expr_then d (λ x. punctuator closing e (k (Some x)))) (t ∷ ts)
optional_by d closing e k t ts (Some p) h no_ =
    begins_as (Optional d) (Cast d) (assignment_rest d) (λ v. Give (optional (Some (as_expr v)))) _ t ts p
    (ap (option_map (λ p. behind (after p (assignment_rest d)) (λ v. Give (optional (Some (as_expr v)))))) h) h refl
optional_by d closing e k t ts None h no_ =
    parsed_left (Optional d) _ t ts (optional None)
    (ap (option_map (λ p. behind (after p (assignment_rest d)) (λ v. Give (optional (Some (as_expr v)))))) h) refl
    ∙ parsed_dead (Of (Word Punctuator closing e)) (λ f. k None) t ts
    (ap (option_map (λ p. behind p (λ v. Give (part v)))) (ap (λ b. when_some b (Some (Return nothing))) no_)) refl
    ∙ sym (parsed_dead (Of (Cast d)) _ t ts (ap (option_map (λ p. behind p (λ v. Give (part v)))) h) refl)

pub optional_present : (d : ℕ) (closing : List ℕ) (e : ℕ) (k : Option Expr → TextPlan) (ts : List Token)
    → holds_ahead (is Punctuator closing) ts ≡ false
    → text_parsed (optional_then d closing e k) ts ≡ text_parsed (expr_then d (λ x. punctuator closing e (k (Some x)))) ts
optional_present d closing e k [] no_ =
    parsed_end_left (Optional d) _ (optional None) refl ∙ parsed_end (Of (Word Punctuator closing e)) (λ f. k None) refl
    ∙ sym (parsed_end (Of (Cast d)) _ refl)
optional_present d closing e k (t ∷ ts) no_ = optional_by d closing e k t ts (operand_plan true d t) refl no_

-- a plan with nothing after it
pub then_give : (p : TextPlan) → then_text p Give ≡ p
then_give (Give f) = refl
then_give (Want w k) = ap (Want w) (fun_ext (λ f. then_give (k f)))

-- statements by what begins them
abbrev pub opening_plan : ℕ → Token → Option Opening → Option TextPlan
opening_plan d t None = expression_statement d t
opening_plan d t (Some o) = Some (opened d t.at o)

word_opens : (d : ℕ) (t : Token) (o : Option StatementWord) → t.kind ≡ Keyword
    → option_map (word_plan d t.at) o ≡ opening_plan d t (word_opening o)
word_opens d t (Some w) same = refl
word_opens d t None same =
    sym (ap (λ kind. option_map (λ p. behind (after p (assignment_rest d)) (λ v. punctuator (codes ";") d (Give (statement (stmt t.at (Evaluate (as_expr v)))))))
    (operand_by kind true d t)) same)

two_tests : (d : ℕ) (t : Token) (a b : Bool) (x y : Opening)
    → (if a then Some (opened d t.at x) else (if b then Some (opened d t.at y) else expression_statement d t))
    ≡ opening_plan d t (if a then Some x else (if b then Some y else None))
two_tests d t true b x y = refl
two_tests d t false true x y = refl
two_tests d t false false x y = refl

opens_by : (kind : TokenKind) (d : ℕ) (t : Token) → t.kind ≡ kind → statement_by kind d t ≡ opening_plan d t (opening_by kind t.text)
opens_by Identifier d t same = refl
opens_by Keyword d t same =
    look_values (word_plan d t.at) t.text (
    (codes "if", word.If) ∷ (codes "while", word.While) ∷ (codes "do", word.Do) ∷ (codes "for", word.For)
    ∷ (codes "break", word.Break) ∷ (codes "continue", word.Continue) ∷ (codes "return", word.Return) ∷ []
    )
    ∙ word_opens d t (word_of t.text) same
opens_by LibraryWord d t same = two_tests d t (bytes_eq t.text (codes "dsu_update")) (bytes_eq t.text (codes "dsu_tx")) opening.Update opening.Transaction
opens_by Number d t same = refl
opens_by Character d t same = refl
opens_by Str d t same = refl
opens_by Punctuator d t same = two_tests d t (bytes_eq t.text (codes "{")) (bytes_eq t.text (codes ";")) opening.Brace opening.Semicolon

opens : (d : ℕ) (t : Token) → statement_plan d t ≡ opening_plan d t (opening_of t)
opens d t = opens_by t.kind d t refl

pub opened_reads : (d : ℕ) (o : Opening) (t : Token) (us ts : List Token) → ts ≡ t ∷ us → Some o ≡ opening_of t → d ≤ most_depth
    → text_reads (Statement d) ts ≡ text_parsed (opened d t.at o) us
opened_reads d o t us ts are e shallow =
    takes_first (Statement d) Give (opened d t.at o) t us ts are (opens d t ∙ ap (opening_plan d t) (sym e)) shallow
    ∙ ap (λ p. text_parsed p us) (then_give (opened d t.at o))

pub opened_deep : (d : ℕ) (o : Opening) (t : Token) (us ts : List Token) → ts ≡ t ∷ us → Some o ≡ opening_of t → most_depth < d
    → text_reads (Statement d) ts ≡ deep_at (length ts)
opened_deep d o t us ts are e low =
    sinks_first (Statement d) Give (opened d t.at o) t us ts are (opens d t ∙ ap (opening_plan d t) (sym e)) low

-- where nothing else begins it, a statement is an expression's
evaluate_by : (w : TextWanted) (d : ℕ) (j : Stmt → TextPlan) (t : Token) (us : List Token) (o : Option Plan) → operand_plan true d t ≡ o
    → text_takes w t ≡ option_map (λ p. behind (after p (assignment_rest d)) (λ v. punctuator (codes ";") d (j (stmt t.at (Evaluate (as_expr v)))))) (operand_plan true d t)
    → text_depth w ≡ d → text_left_out w ≡ None
    → text_parsed (Want w Give) (t ∷ us) ≡ text_parsed (expr_then d (λ e. punctuator (codes ";") d (then_text (j (stmt t.at (Evaluate e))) Give))) (t ∷ us)
evaluate_by w d j t us (Some p) h form same needed =
    begins_as w (Cast d) (assignment_rest d) (λ v. punctuator (codes ";") d (j (stmt t.at (Evaluate (as_expr v))))) Give t us p
    (form ∙ ap (option_map (λ p. behind (after p (assignment_rest d)) (λ v. punctuator (codes ";") d (j (stmt t.at (Evaluate (as_expr v))))))) h) h same
evaluate_by w d j t us None h form same needed =
    parsed_dead w Give t us
    (form ∙ ap (option_map (λ p. behind (after p (assignment_rest d)) (λ v. punctuator (codes ";") d (j (stmt t.at (Evaluate (as_expr v))))))) h) needed
    ∙ sym (parsed_dead (Of (Cast d)) _ t us (ap (option_map (λ p. behind p (λ v. Give (part v)))) h) refl)

pub evaluate_reads : (d : ℕ) (t : Token) (us ts : List Token) → ts ≡ t ∷ us → None ≡ opening_of t
    → text_reads (Statement d) ts ≡ text_parsed (evaluate_then d t.at (λ s. Give (statement s))) ts
evaluate_reads d t us ts are e =
    rw are (evaluate_by (Statement d) d (λ s. Give (statement s)) t us (operand_plan true d t) refl (opens d t ∙ ap (opening_plan d t) (sym e)) refl refl)

-- types
some_if : {A : Type 0} (a b c : Bool) (x y z : A) → (if a then true else (if b then true else c)) ≡ true
    → (p : A) × ((if a then Some x else (if b then Some y else (if c then Some z else None))) ≡ Some p)
some_if true b c x y z h = (x, refl)
some_if false true c x y z h = (y, refl)
some_if false false true x y z h = (z, refl)
some_if false false false x y z h = let e : false ≡ true = h in absurd (cc)

none_if : {A : Type 0} (a b c : Bool) (x y z : A) → (if a then true else (if b then true else c)) ≡ false
    → (if a then Some x else (if b then Some y else (if c then Some z else None))) ≡ None
none_if true b c x y z h = let e : true ≡ false = h in absurd (cc)
none_if false true c x y z h = let e : true ≡ false = h in absurd (cc)
none_if false false true x y z h = let e : true ≡ false = h in absurd (cc)
none_if false false false x y z h = refl

pub type_some : (d : ℕ) (t : Token) → begins_type t ≡ true → (p : Plan) × (type_plan d t ≡ Some p)
type_some d t h = some_if (is_integer_word t) (is Keyword (codes "struct") t) (is LibraryWord (codes "thrd_t") t) _ _ _ h

pub type_none : (d : ℕ) (t : Token) → begins_type t ≡ false → type_plan d t ≡ None
type_none d t h = none_if (is_integer_word t) (is Keyword (codes "struct") t) (is LibraryWord (codes "thrd_t") t) _ _ _ h

pub begins_type_as : (w : TextWanted) (d : ℕ) (q : CType → TextPlan) (k : Found → TextPlan) (t : Token) (us : List Token) → begins_type t ≡ true
    → text_takes w t ≡ type_from d t q → text_depth w ≡ d
    → text_parsed (Want w k) (t ∷ us) ≡ text_parsed (type_then d (λ ty. then_text (q ty) k)) (t ∷ us)
begins_type_as w d q k t us h form same =
    let s = type_some d t h in
    begins_as w (Typing d) Return (λ v. q (as_type v)) k t us s.0
    (form ∙ ap (option_map (λ p. behind (after p Return) (λ v. q (as_type v)))) s.1) s.1 same

-- the items of a block
abbrev pub statement_behind : ℕ → List Stmt → (List Stmt → ℕ → TextPlan) → Stmt → TextPlan
statement_behind d before k s =
    Want (Items (suc d)) (λ f. Want (Place (codes "}") d) (λ end. k (before ++ s ∷ as_statements f) (as_place end)))

pub items_end : (d : ℕ) (before : List Stmt) (k : List Stmt → ℕ → TextPlan) (ts : List Token) → length ts ≡ 0
    → text_parsed (items_then d before k) ts ≡ stuck_at 0
items_end d before k ts h =
    rw (no_items ts h) (parsed_end_left (Items (suc d)) _ (statements []) refl ∙ parsed_end (Place (codes "}") d) _ refl)

items_by : (d : ℕ) (before : List Stmt) (k : List Stmt → ℕ → TextPlan) (t : Token) (us : List Token) (o : Option TextPlan)
    → statement_plan (suc d) t ≡ o → begins_type t ≡ false → is Punctuator (codes "}") t ≡ false
    → text_parsed (items_then d before k) (t ∷ us) ≡ text_parsed (Want (Statement (suc d)) (λ s. statement_behind d before k (as_statement s))) (t ∷ us)
items_by d before k t us (Some p) h no_type no_brace =
    parsed_takes (Items (suc d)) _ t us (then_text p (λ s. Want (Items (suc d)) (λ ss. Give (statements (as_statement s ∷ as_statements ss)))))
    (ap (λ b. if b then type_from (suc d) t (λ ty. declaration_behind (suc d) ty (λ ds. Want (Items (suc d)) (λ ss.
    Give (statements (declares t.at ds ++ as_statements ss)))))
    else option_map (λ p. then_text p (λ s. Want (Items (suc d)) (λ ss. Give (statements (as_statement s ∷ as_statements ss))))) (statement_plan (suc d) t)) no_type
    ∙ ap (option_map (λ p. then_text p (λ s. Want (Items (suc d)) (λ ss. Give (statements (as_statement s ∷ as_statements ss)))))) h)
    ∙ ap (λ q. text_at_depth (suc d) (length (t ∷ us)) (text_parsed q us)) (then_then p (λ s. Want (Items (suc d)) (λ ss. Give (statements (as_statement s ∷ as_statements ss)))) _)
    ∙ sym (parsed_takes (Statement (suc d)) _ t us p h)
items_by d before k t us None h no_type no_brace =
    parsed_left (Items (suc d)) _ t us (statements [])
    (ap (λ b. if b then type_from (suc d) t (λ ty. declaration_behind (suc d) ty (λ ds. Want (Items (suc d)) (λ ss.
    Give (statements (declares t.at ds ++ as_statements ss)))))
    else option_map (λ p. then_text p (λ s. Want (Items (suc d)) (λ ss. Give (statements (as_statement s ∷ as_statements ss))))) (statement_plan (suc d) t)) no_type
    ∙ ap (option_map (λ p. then_text p (λ s. Want (Items (suc d)) (λ ss. Give (statements (as_statement s ∷ as_statements ss)))))) h)
    refl
    ∙ parsed_dead (Place (codes "}") d) _ t us (ap (λ b. when_some b (Some (Give (place t.at)))) no_brace) refl
    ∙ sym (parsed_dead (Statement (suc d)) _ t us h refl)

pub items_statement : (d : ℕ) (before : List Stmt) (k : List Stmt → ℕ → TextPlan) (t : Token) (us ts : List Token) → ts ≡ t ∷ us
    → begins_type t ≡ false → holds_ahead (is Punctuator (codes "}")) ts ≡ false
    → text_parsed (items_then d before k) ts ≡ text_parsed (Want (Statement (suc d)) (λ s. statement_behind d before k (as_statement s))) ts
items_statement d before k t us ts are no_type no_brace =
    rw are (items_by d before k t us (statement_plan (suc d) t) refl no_type (sym (ap (holds_ahead (is Punctuator (codes "}"))) are) ∙ no_brace))

pub items_declaration : (d : ℕ) (before : List Stmt) (k : List Stmt → ℕ → TextPlan) (t : Token) (us ts : List Token) → ts ≡ t ∷ us
    → begins_type t ≡ true
    → text_parsed (items_then d before k) ts
    ≡ text_parsed (type_then (suc d) (λ ty. declaration_behind (suc d) ty (λ ds. items_then d (before ++ declares t.at ds) k))) ts
items_declaration d before k t us ts are h =
    rw are (begins_type_as (Items (suc d)) (suc d) (λ ty. declaration_behind (suc d) ty (λ ds. Want (Items (suc d)) (λ ss.
    Give (statements (declares t.at ds ++ as_statements ss))))) _ t us h (ap (λ b. if b then type_from (suc d) t (λ ty. declaration_behind (suc d) ty (λ ds. Want (Items (suc d)) (λ ss.
    Give (statements (declares t.at ds ++ as_statements ss)))))
    else option_map (λ p. then_text p (λ s. Want (Items (suc d)) (λ ss. Give (statements (as_statement s ∷ as_statements ss))))) (statement_plan (suc d) t)) h) refl
    ∙ ap (λ (q : List Declaration → TextPlan). text_parsed (type_then (suc d) (λ ty. declaration_behind (suc d) ty q)) (t ∷ us))
    (fun_ext (λ ds. ap (Want (Items (suc d))) (fun_ext (λ f. ap (λ l. Want (Place (codes "}") d) (λ end. k l (as_place end)))
    (sym (append_assoc before (declares t.at ds) (as_statements f))))))))

brace_begins : (d : ℕ) (t : Token) → is Punctuator (codes "}") t ≡ true → text_takes (Items d) t ≡ None
brace_begins d t h =
    let s = is_spelled Punctuator (codes "}") t h in
    ap (λ b. if b then type_from d t (λ ty. declaration_behind d ty (λ ds. Want (Items d) (λ ss.
    Give (statements (declares t.at ds ++ as_statements ss)))))
    else option_map (λ p. then_text p (λ s. Want (Items d) (λ ss. Give (statements (as_statement s ∷ as_statements ss))))) (statement_plan d t)) (punctuator_no_type t s.0)
    ∙ ap (option_map (λ p. then_text p (λ s. Want (Items d) (λ ss. Give (statements (as_statement s ∷ as_statements ss))))))
    (opens d t ∙ ap (opening_plan d t) (ap (λ kind. opening_by kind t.text) s.0 ∙ ap (opening_by Punctuator) s.1)
    ∙ ap (option_map (λ p. behind (after p (assignment_rest d)) (λ v. punctuator (codes ";") d (Give (statement (stmt t.at (Evaluate (as_expr v)))))))) (no_operand d (codes "}") t refl h))
  where
    punctuator_no_type : (t : Token) → t.kind ≡ Punctuator → begins_type t ≡ false
    punctuator_no_type t e = rw e refl

pub items_close : (d : ℕ) (before : List Stmt) (k : List Stmt → ℕ → TextPlan) (ts : List Token) → holds_ahead (is Punctuator (codes "}")) ts ≡ true
    → text_parsed (items_then d before k) ts ≡ text_parsed (Want (Place (codes "}") d) (λ end. k before (as_place end))) ts
items_close d before k [] h = let e : false ≡ true = h in absurd (cc)
items_close d before k (t ∷ ts) h =
    parsed_left (Items (suc d)) _ t ts (statements []) (brace_begins (suc d) t h) refl
    ∙ ap (λ l. text_parsed (Want (Place (codes "}") d) (λ end. k l (as_place end))) (t ∷ ts)) (append-nil before)

-- the first part of a `for`
abbrev pub first_by : ℕ → Token → Bool → Bool → Option TextPlan
first_by d t a b =
    if a then type_from d t (λ ty. declaration_behind d ty (λ ds. Give (statements (declares t.at ds))))
    else (if b then Some (Give (statements []))
    else expr_from d t (λ e. punctuator (codes ";") d (Give (statements (stmt t.at (Evaluate e) ∷ [])))))

pub first_declaration : (d : ℕ) (t : Token) (us ts : List Token) → ts ≡ t ∷ us → begins_type t ≡ true
    → text_reads (First d) ts ≡ text_parsed (type_then d (λ ty. declaration_behind d ty (λ ds. Give (statements (declares t.at ds))))) ts
first_declaration d t us ts are h =
    rw are (begins_type_as (First d) d (λ ty. declaration_behind d ty (λ ds. Give (statements (declares t.at ds)))) Give t us h
    (ap (λ a. first_by d t a (is Punctuator (codes ";") t)) h) refl)

first_semicolon : (d : ℕ) (t : Token) → begins_type t ≡ false → is Punctuator (codes ";") t ≡ true → text_takes (First d) t ≡ Some (Give (statements []))
first_semicolon d t no_type h = ap (λ a. first_by d t a (is Punctuator (codes ";") t)) no_type ∙ ap (first_by d t false) h

pub first_none : (d : ℕ) (t : Token) (us ts : List Token) → ts ≡ t ∷ us → begins_type t ≡ false → is Punctuator (codes ";") t ≡ true → d ≤ most_depth
    → text_reads (First d) ts ≡ text_parsed (Give (statements [])) us
first_none d t us ts are no_type h shallow = takes_first (First d) Give (Give (statements [])) t us ts are (first_semicolon d t no_type h) shallow

pub first_deep : (d : ℕ) (t : Token) (us ts : List Token) → ts ≡ t ∷ us → begins_type t ≡ false → is Punctuator (codes ";") t ≡ true → most_depth < d
    → text_reads (First d) ts ≡ deep_at (length ts)
first_deep d t us ts are no_type h low = sinks_first (First d) Give (Give (statements [])) t us ts are (first_semicolon d t no_type h) low

pub first_expression : (d : ℕ) (t : Token) (us ts : List Token) → ts ≡ t ∷ us → begins_type t ≡ false → is Punctuator (codes ";") t ≡ false
    → text_reads (First d) ts ≡ text_parsed (evaluate_then d t.at (λ s. Give (statements (s ∷ [])))) ts
first_expression d t us ts are no_type no_punctuator =
    rw are (evaluate_by (First d) d (λ s. Give (statements (s ∷ []))) t us (operand_plan true d t) refl
    (ap (λ a. first_by d t a (is Punctuator (codes ";") t)) no_type ∙ ap (first_by d t false) no_punctuator) refl refl)
