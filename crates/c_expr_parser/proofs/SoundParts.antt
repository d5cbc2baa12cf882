-- What stands inside parentheses, and what may follow a name, an operand or an argument.
use Rattle.std.specs.Prelude.{◌≡◌, ℕ, suc, Bool, true, false, List, [], ◌∷◌, ◌++◌, Option, Some, codes}
use Rattle.std.proofs.Common.{refl, sym, ◌∙◌, inr, append_assoc}
use Rattle.std.proofs.lemmas.Bool.{false≢true}
use Rattle.c_ints.specs.declared.operator.BinOp.{BinOp}
use Rattle.c_lexer.specs.declared.token.Token.{Token}
use Rattle.c_lexer.specs.declared.token.TokenKind.TheVariants.{LibraryWord, Punctuator}
use Rattle.c_tree.specs.declared.name.CType.{CType}
use Rattle.c_tree.specs.declared.expr.Expr.{Expr}
use Rattle.c_tree.specs.declared.expr.ExprNode.TheVariants as node
use Rattle.c_tree.specs.declared.expr.StepOp.TheVariants.{PostIncrement, PostDecrement}
use Rattle.c_expr_parser.specs.declared.operand.Operand.{Operand}
use Rattle.c_expr_parser.specs.Placed.{Placed, at, text}
use Rattle.c_expr_parser.specs.Terminals.{IsPunctuator, IsIdentifier, name}
use Rattle.c_expr_parser.specs.TypeNames.{TypeName}
use Rattle.c_expr_parser.specs.declared.operators.Joint.{Joint}
use Rattle.c_expr_parser.specs.Operators.{joined}
use Rattle.c_expr_parser.specs.Expressions.{Assignment, Conditional, Binary, Cast, Unary, Postfix, Primary, Arguments, Further}
use Rattle.c_expr_parser.specs.Tables.{is, is_kind, begins_type, binary_operator}
use Rattle.c_expr_parser.specs.Plans.{Value, Wanted, Plan, after, as_expr, as_type, unary, other, binary, name_then, punctuator, operand_plan, cast_plan, parenthesised, type_plan, assignment_rest, assigned, assignment_operator, postfix_plan, takes}
use Rattle.c_expr_parser.specs.Plans.Value.{operand}
use Rattle.c_expr_parser.specs.Plans.Plan.{Return, Then}
use Rattle.c_expr_parser.proofs.TraceMeaning.{Sound, sound_return, sound_map, Behind, behind_return, behind_after}
use Rattle.c_expr_parser.proofs.WantedMeaning.{IsTyped, Reads, IsListed, AreArguments, IsTarget, AsOperand, AsPostfix, Means, Fits, sound_word, sound_naming, sound_arguments, sound_cast_then, sound_unary_then, typed_case, reads_map}
use Rattle.c_expr_parser.proofs.SoundTables.{placed_at, spelled_as, Each, each_if, each_when, each_map, each_mapped, each_row, of_kind, spelled_at, binary_is}
use Rattle.c_expr_parser.proofs.SoundTypes.{type_taken}
use Rattle.c_expr_parser.proofs.SoundAssignment.{by_operator}
use Rattle.c_expr_parser.proofs.SoundRest.{sound_binary, sound_conditional_then}
use Rattle.c_expr_parser.proofs.SoundCalls.{unary_operand, sound_expr}
use Rattle.c_expr_parser.proofs.SoundOperands.{operand_taken, assignment_begun}

-- after an opening parenthesis at a place
abbrev InParens : Bool → ℕ → ℕ → List Placed → Value → Type 0
InParens casts d place ts v = (paren : Placed) → IsPunctuator d "(" paren → place ≡ at paren → Reads (AsOperand casts d) (paren ∷ ts) v

cast_read : {d place : ℕ} {ts operand : List Placed} {close : Placed} {t : CType} {e : Expr}
    → TypeName (suc d) ts t → IsPunctuator d ")" close → Cast (suc d) operand e
    → InParens true d place (ts ++ close ∷ operand) (Value.operand (other place (node.Cast t e)))
cast_read {d} {place} {ts} {operand} {close} {t} {e} type c p = λ paren h l.
    rw l (Reads.reads {a = other (at paren) (node.Cast t e)} (Cast.cast h type c p, λ u. absurd (false≢true u)) refl)

cast_sound : {n : ℕ} → Fits n → (d place : ℕ) (t : Placed) (p : Plan) → Behind n (IsTyped (suc d)) (t ∷ []) p
    → Behind n (InParens true d place) (t ∷ []) (after p (λ ty. punctuator (codes ")") d (Then (Wanted.Cast (suc d)) (λ v.
    Return (operand (other place (node.Cast (as_type ty) (as_expr v))))))))
cast_sound {n} fits d place t p s =
    behind_after (IsTyped (suc d)) (InParens true d place) p made (t ∷ []) s (λ ts v m.
    typed_case (InParens true d place) made (λ us ty type. sound_word fits (λ close c.
    sound_cast_then fits (λ u os a q e.
    behind_return (λ more v. InParens true d place (us ++ (close ∷ more)) v) (u ∷ os) (cast_read type c q.0)))) m)
  where
    made : Value → Plan
    made ty = punctuator (codes ")") d (Then (Wanted.Cast (suc d)) (λ v. Return (operand (other place (node.Cast (as_type ty) (as_expr v))))))

cast_taken : {n : ℕ} → Fits n → (casts : Bool) (d place : ℕ) (t : Token)
    → Each (Behind n (InParens casts d place) (placed_at (suc d) t ∷ [])) (cast_plan casts d place t)
cast_taken fits false d place t = tt
cast_taken {n} fits true d place t =
    each_mapped (Behind n (IsTyped (suc d)) (placed_at (suc d) t ∷ []))
    (Behind n (InParens true d place) (placed_at (suc d) t ∷ [])) _ (type_plan (suc d) t) (type_taken fits (suc d) t)
    (λ p s. cast_sound fits d place (placed_at (suc d) t) p s)

paren_read : (casts : Bool) {d place : ℕ} {ts : List Placed} {close : Placed} {e : Expr} → Assignment (suc d) ts e → IsPunctuator d ")" close
    → (more : List Placed) (v : Value) → Means (Wanted.Postfix d (record { expr = e; start = place; is_unary = true })) more v
    → InParens casts d place (ts ++ close ∷ more) v
paren_read casts {d} {place} {ts} {close} {e} a c more v m = λ paren h l.
    reads_map {Q = AsOperand casts d} (λ us b p. unary_operand casts b (Unary.postfix p))
    (rw append_assoc at (m paren (ts ++ close ∷ []) (Postfix.primary (Primary.parentheses h a c)) l))

paren_sound : {n : ℕ} → Fits n → (casts : Bool) (d place : ℕ) (t : Placed) (p : Plan)
    → Behind n (Reads (AsOperand true (suc d))) (t ∷ []) p
    → Behind n (InParens casts d place) (t ∷ []) (after (after p (assignment_rest (suc d))) (λ v. punctuator (codes ")") d
    (Then (Wanted.Postfix d (record { expr = as_expr v; start = place; is_unary = true })) Return)))
paren_sound fits casts d place t p s =
    assignment_begun (InParens casts d place) (λ v. punctuator (codes ")") d
    (Then (Wanted.Postfix d (record { expr = as_expr v; start = place; is_unary = true })) Return)) fits (suc d) t p s (λ u us a q e. sound_word fits (λ close c.
    sound_map (λ more v m. paren_read casts q c more v m)
    (fits.wanted (Wanted.Postfix d (record { expr = a.expr; start = place; is_unary = true })))))

parens_taken : {n : ℕ} → Fits n → (casts : Bool) (d place : ℕ) (t : Token)
    → Each (Behind n (InParens casts d place) (placed_at (suc d) t ∷ [])) (parenthesised d place t)
parens_taken {n} fits casts d place t =
    each_mapped (Behind n (Reads (AsOperand true (suc d))) (placed_at (suc d) t ∷ []))
    (Behind n (InParens casts d place) (placed_at (suc d) t ∷ [])) _ (operand_plan true (suc d) t)
    (operand_taken fits true (suc d) t) (λ p s. paren_sound fits casts d place (placed_at (suc d) t) p s)

pub inside_taken : {n : ℕ} → Fits n → (casts : Bool) (d place : ℕ) (t : Token)
    → Each (λ p. Sound n (λ more v. Means (Wanted.Inside casts d place) (placed_at (suc d) t ∷ more) v) p)
    (takes (Wanted.Inside casts d place) t)
inside_taken {n} fits casts d place t =
    each_if (λ p. Sound n (λ more v. Means (Wanted.Inside casts d place) (placed_at (suc d) t ∷ more) v) p) (begins_type t)
    (cast_plan casts d place t) (parenthesised d place t) (λ h. cast_taken fits casts d place t) (λ h. parens_taken fits casts d place t)

-- after a name
abbrev BehindName : ℕ → ℕ → List ℕ → List Placed → Value → Type 0
BehindName d place spelling ts v =
    (t : Placed) → IsIdentifier d t → place ≡ at t → spelling ≡ text t → Reads (AsPostfix d) (t ∷ ts) v

call_read : {d place : ℕ} {spelling : List ℕ} {paren close : Placed} {ts : List Placed} {es : List Expr}
    → IsPunctuator d "(" paren → Arguments (suc d) ts es → IsPunctuator d ")" close
    → BehindName d place spelling (paren ∷ ts ++ close ∷ []) (operand (unary place (node.Call spelling es)))
call_read {es} p a c = λ t i e s. rw (e, s) (Reads.reads {a = unary (at t) (node.Call (text t) es)} (Postfix.call i p a c) refl)

element_read : {d place : ℕ} {spelling : List ℕ} {bracket close : Placed} {ts : List Placed} {x : Expr}
    → IsPunctuator d "[" bracket → Assignment (suc d) ts x → IsPunctuator d "]" close
    → BehindName d place spelling (bracket ∷ ts ++ close ∷ []) (operand (unary place (node.Element spelling x)))
element_read {x} b a c = λ t i e s. rw (e, s) (Reads.reads {a = unary (at t) (node.Element (text t) x)} (Postfix.element i b a c) refl)

pub behind_taken : {n : ℕ} → Fits n → (d place : ℕ) (spelling : List ℕ) (t : Token)
    → Each (λ p. Sound n (λ more v. Means (Wanted.Behind d place spelling) (placed_at d t ∷ more) v) p)
    (takes (Wanted.Behind d place spelling) t)
behind_taken {n} fits d place spelling t =
    each_if P (is Punctuator (codes "(") t) _ _ (λ h.
    sound_arguments fits (λ ts es a. sound_word fits (λ close c.
    sound_return (call_read (spelled_at Punctuator d (codes "(") t h) a c))))
    (λ h. each_if P (is Punctuator (codes "[") t) _ _ (λ h.
    sound_expr fits (suc d) (λ u us x a. sound_word fits (λ close c.
    sound_return (element_read (spelled_at Punctuator d (codes "[") t h) a c))))
    (λ h. tt))
  where
    P : Plan → Type 0
    P p = Sound n (λ more v. Means (Wanted.Behind d place spelling) (placed_at d t ∷ more) v) p

-- after a postfix expression: a longer one
longer : {d : ℕ} (a b : Operand) (mid : List Placed)
    → ((t : Placed) (left : List Placed) → Postfix d (t ∷ left) a.expr → a.start ≡ at t → Postfix d (t ∷ (left ++ mid)) b.expr)
    → a.start ≡ b.start → (more : List Placed) (v : Value) → Means (Wanted.Postfix d b) more v → Means (Wanted.Postfix d a) (mid ++ more) v
longer a b mid f same more v m = λ t left p e. rw append_assoc at (m t (left ++ mid) (f t left p e) (sym same ∙ e))

arrow_sound : {n : ℕ} → Fits n → (d : ℕ) (a : Operand) (t : Placed) → IsPunctuator d "->" t
    → Behind n (Means (Wanted.Postfix d a)) (t ∷ [])
    (name_then d (λ field. Then (Wanted.Postfix d (unary a.start (node.Arrow a.expr field))) Return))
arrow_sound fits d a t s = sound_naming fits (λ field i.
    sound_map (longer a (unary a.start (node.Arrow a.expr (name field))) (t ∷ field ∷ []) (λ u left p e. rw e (Postfix.arrow p s i)) refl)
    (fits.wanted (Wanted.Postfix d (unary a.start (node.Arrow a.expr (name field))))))

dot_sound : {n : ℕ} → Fits n → (d : ℕ) (a : Operand) (t : Placed) → IsPunctuator d "." t
    → Behind n (Means (Wanted.Postfix d a)) (t ∷ [])
    (name_then d (λ field. Then (Wanted.Postfix d (unary a.start (node.Dot a.expr field))) Return))
dot_sound fits d a t s = sound_naming fits (λ field i.
    sound_map (longer a (unary a.start (node.Dot a.expr (name field))) (t ∷ field ∷ []) (λ u left p e. rw e (Postfix.dot p s i)) refl)
    (fits.wanted (Wanted.Postfix d (unary a.start (node.Dot a.expr (name field))))))

increment_sound : {n : ℕ} → Fits n → (d : ℕ) (a : Operand) (t : Placed) → IsPunctuator d "++" t
    → Behind n (Means (Wanted.Postfix d a)) (t ∷ []) (Then (Wanted.Postfix d (unary a.start (node.Step PostIncrement a.expr))) Return)
increment_sound fits d a t s =
    sound_map (longer a (unary a.start (node.Step PostIncrement a.expr)) (t ∷ []) (λ u left p e. rw e (Postfix.post_increment p s)) refl)
    (fits.wanted (Wanted.Postfix d (unary a.start (node.Step PostIncrement a.expr))))

decrement_sound : {n : ℕ} → Fits n → (d : ℕ) (a : Operand) (t : Placed) → IsPunctuator d "--" t
    → Behind n (Means (Wanted.Postfix d a)) (t ∷ []) (Then (Wanted.Postfix d (unary a.start (node.Step PostDecrement a.expr))) Return)
decrement_sound fits d a t s =
    sound_map (longer a (unary a.start (node.Step PostDecrement a.expr)) (t ∷ []) (λ u left p e. rw e (Postfix.post_decrement p s)) refl)
    (fits.wanted (Wanted.Postfix d (unary a.start (node.Step PostDecrement a.expr))))

pub postfix_taken : {n : ℕ} → Fits n → (d : ℕ) (a : Operand) (t : Token)
    → Each (λ p. Sound n (λ more v. Means (Wanted.Postfix d a) (placed_at d t ∷ more) v) p) (postfix_plan d a t)
postfix_taken {n} fits d a t =
    each_when P (is_kind Punctuator t) _ (λ h.
    each_row P t.text (codes "->") _ _ (λ e. arrow_sound fits d a (placed_at d t) (spelled_as Punctuator d (codes "->") t (of_kind Punctuator t h) e))
    (each_row P t.text (codes ".") _ _ (λ e. dot_sound fits d a (placed_at d t) (spelled_as Punctuator d (codes ".") t (of_kind Punctuator t h) e))
    (each_row P t.text (codes "++") _ _ (λ e. increment_sound fits d a (placed_at d t) (spelled_as Punctuator d (codes "++") t (of_kind Punctuator t h) e))
    (each_row P t.text (codes "--") _ _ (λ e. decrement_sound fits d a (placed_at d t) (spelled_as Punctuator d (codes "--") t (of_kind Punctuator t h) e))
    tt))))
  where
    P : Plan → Type 0
    P p = Sound n (λ more v. Means (Wanted.Postfix d a) (placed_at d t ∷ more) v) p

-- after an operand: an assignment's operator
assigned_read : {d : ℕ} (a : Operand) {b : Expr} {right : List Placed} (x : Token) (o : Option BinOp) → assignment_operator x ≡ Some o
    → Assignment (suc d) right b
    → Means (Wanted.Assigned d a) (placed_at d x ∷ right) (operand (other a.start (assigned o a.expr b)))
assigned_read {d} a {b} x o k r = inr (λ t left u e.
    rw e (Reads.reads {a = other (at t) (assigned o a.expr b)} (by_operator x o u r k) refl))

pub assigned_taken : {n : ℕ} → Fits n → (d : ℕ) (a : Operand) (t : Token)
    → Each (λ p. Sound n (λ more v. Means (Wanted.Assigned d a) (placed_at d t ∷ more) v) p) (takes (Wanted.Assigned d a) t)
assigned_taken {n} fits d a t =
    each_when P a.is_unary _ (λ h. each_map P _ (assignment_operator t) (λ o k. sound_expr fits (suc d) (λ u us b r.
    behind_return (λ more v. Means (Wanted.Assigned d a) (placed_at d t ∷ more) v) (u ∷ us) (assigned_read a t o k r))))
  where
    P : Plan → Type 0
    P p = Sound n (λ more v. Means (Wanted.Assigned d a) (placed_at d t ∷ more) v) p

-- an operator of a level, and its right operand
chain_read : {level d : ℕ} (a : Operand) {b : Expr} {right : List Placed} (x : Token) (joint : Joint)
    → binary_operator (suc level) x ≡ Some joint → Binary level d right b → (more : List Placed) (v : Value)
    → Means (Wanted.Chain level d (other a.start (joined joint a.expr b))) more v
    → Means (Wanted.Chain level d a) (placed_at d x ∷ right ++ more) v
chain_read {level} {d} a {b} {right} x joint k q more v m = λ t left p e.
    let is = binary_is (suc level) d x joint k in
    rw append_assoc at (m t (left ++ placed_at d x ∷ right) (rw e (Binary.chain p is.0 is.1 q)) e)

pub chain_taken : {n : ℕ} → Fits n → (level d : ℕ) (a : Operand) (t : Token)
    → Each (λ p. Sound n (λ more v. Means (Wanted.Chain level d a) (placed_at d t ∷ more) v) p) (takes (Wanted.Chain level d a) t)
chain_taken {n} fits level d a t =
    each_map P made (binary_operator (suc level) t) (λ joint k.
    sound_binary {Q = λ more v. Means (Wanted.Chain level d a) (placed_at d t ∷ more) v}
    (λ b. Then (Wanted.Chain level d (other a.start (joined joint a.expr (as_expr b)))) Return) fits level d (λ u us b q l.
    sound_map (chain_read a t joint k q) (fits.wanted (Wanted.Chain level d (other a.start (joined joint a.expr b.expr))))))
  where
    P : Plan → Type 0
    P p = Sound n (λ more v. Means (Wanted.Chain level d a) (placed_at d t ∷ more) v) p

    made : Joint → Plan
    made joint = after (binary level d) (λ b. Then (Wanted.Chain level d (other a.start (joined joint a.expr (as_expr b)))) Return)

-- the parts of `?:`
chosen_read : {d : ℕ} (a : Operand) {question colon : Placed} {first second : List Placed} {b c : Expr}
    → IsPunctuator d "?" question → Assignment d first b → IsPunctuator d ":" colon → Conditional (suc d) second c
    → Means (Wanted.Chosen d a) (question ∷ first ++ colon ∷ second) (operand (other a.start (node.Choice a.expr b c)))
chosen_read a {b} {c} q first k second = λ t left p e.
    rw e (Reads.reads {a = other (at t) (node.Choice a.expr b c)} (Conditional.choice p q first k second) refl)

pub chosen_taken : {n : ℕ} → Fits n → (d : ℕ) (a : Operand) (t : Token)
    → Each (λ p. Sound n (λ more v. Means (Wanted.Chosen d a) (placed_at d t ∷ more) v) p) (takes (Wanted.Chosen d a) t)
chosen_taken {n} fits d a t =
    each_when P (is Punctuator (codes "?") t) _ (λ h. sound_expr fits d (λ u us b first. sound_word fits (λ colon k.
    sound_conditional_then (λ c. Return (operand (other a.start (node.Choice a.expr b (as_expr c))))) fits (suc d) (λ w ws c second l.
    behind_return (λ more v. Means (Wanted.Chosen d a) (placed_at d t ∷ (u ∷ us ++ (colon ∷ more))) v) (w ∷ ws)
    (chosen_read a (spelled_at Punctuator d (codes "?") t h) first k second)))))
  where
    P : Plan → Type 0
    P p = Sound n (λ more v. Means (Wanted.Chosen d a) (placed_at d t ∷ more) v) p

-- arguments
arguments_read : {d : ℕ} {ts : List Placed} {e : Expr} → Assignment d ts e → (more : List Placed) (v : Value)
    → IsListed d (e ∷ []) more v → AreArguments d (ts ++ more) v
arguments_read a more v (IsListed.further f) = AreArguments.arguments (Arguments.some a f)

pub arguments_taken : {n : ℕ} → Fits n → (d : ℕ) (t : Token)
    → Each (λ p. Sound n (λ more v. AreArguments d (placed_at d t ∷ more) v) p) (takes (Wanted.Arguments d) t)
arguments_taken {n} fits d t =
    each_mapped (Behind n (Reads (AsOperand true d)) (placed_at d t ∷ []))
    (Behind n (AreArguments d) (placed_at d t ∷ [])) _ (operand_plan true d t) (operand_taken fits true d t)
    (λ p s. assignment_begun (AreArguments d) (λ v. Then (Wanted.Further d (as_expr v ∷ [])) Return) fits d
    (placed_at d t) p s (λ u us a q e. sound_map (arguments_read q) (fits.wanted (Wanted.Further d (a.expr ∷ [])))))

further_read : {d : ℕ} {es : List Expr} {comma : Placed} {ts : List Placed} {e : Expr} → IsPunctuator d "," comma → Assignment d ts e
    → (more : List Placed) (v : Value) → IsListed d (es ++ e ∷ []) more v → IsListed d es (comma ∷ ts ++ more) v
further_read c a more v (IsListed.further f) = rw append_assoc (IsListed.further (Further.more c a f))

pub further_argument_taken : {n : ℕ} → Fits n → (d : ℕ) (es : List Expr) (t : Token)
    → Each (λ p. Sound n (λ more v. IsListed d es (placed_at d t ∷ more) v) p) (takes (Wanted.Further d es) t)
further_argument_taken {n} fits d es t =
    each_when P (is Punctuator (codes ",") t) _ (λ h. sound_expr fits d (λ u us e a.
    sound_map (further_read (spelled_at Punctuator d (codes ",") t h) a) (fits.wanted (Wanted.Further d (es ++ e ∷ [])))))
  where
    P : Plan → Type 0
    P p = Sound n (λ more v. IsListed d es (placed_at d t ∷ more) v) p

pub target_taken : {n : ℕ} → Fits n → (d : ℕ) (t : Token)
    → Each (λ p. Sound n (λ more v. IsTarget d (placed_at d t ∷ more) v) p) (takes (Wanted.Target d) t)
target_taken {n} fits d t =
    each_if P (is LibraryWord (codes "NULL") t) _ _ (λ h. sound_return (IsTarget.null (spelled_at LibraryWord d (codes "NULL") t h)))
    (λ h. each_when P (is Punctuator (codes "&") t) _ (λ h. sound_unary_then {k = Return} fits (λ u us a p e.
    behind_return (λ more v. IsTarget d (placed_at d t ∷ more) v) (u ∷ us)
    (IsTarget.into (spelled_at Punctuator d (codes "&") t h) p))))
  where
    P : Plan → Type 0
    P p = Sound n (λ more v. IsTarget d (placed_at d t ∷ more) v) p
