-- Arguments on the stack, and operands that are integers.
use Rattle.std.proofs.Common.{◌≡◌, ℕ, suc, List, [], ◌∷◌, ◌++◌, length, Option, Some, None, reverse, refl, sym, ap, subst, ◌∙◌, append_assoc, append-nil}
use Rattle.std.proofs.lemmas.List.{reverse-append}
use Rattle.c_ints.specs.declared.kind.Kind.{Kind}
use Rattle.c_ints.specs.declared.operator.BinOp.{BinOp}
use Rattle.c_tree.specs.BareExpr.{BareType, Integer, Handle, Thread}
use Rattle.c_semantics.specs.Texts.{Definitions}
use Rattle.c_semantics.specs.Resolved.{Expressions, NoExpressions, ExpressionThen}
use Rattle.c_semantics.specs.Evaluation.{count}
use Rattle.typed_trees.specs.ValueTypes.{Environment}
use Rattle.typed_trees.specs.ExpressionTypes.{AreOperands, ArePrinted, Becomes, FitFormat, IsInteger, types_of}
use Rattle.typed_trees.specs.PieceTypes.{Pops, PopsFormat, PopsPrinted, Stack, pushed}
use Rattle.typed_trees.proofs.SafeSteps.{pops}

turned : {A : Type 0} (x : A) (xs ys : List A) → reverse (x ∷ xs) ++ ys ≡ reverse xs ++ (x ∷ ys)
turned x xs ys = ap (λ zs. zs ++ ys) (reverse-append (x ∷ []) xs) ∙ append_assoc (reverse xs) (x ∷ []) ys

pushed_is : (ts : List BareType) (stack : Stack) → pushed ts stack ≡ reverse ts ++ stack
pushed_is [] stack = refl
pushed_is (t ∷ ts) stack = pushed_is ts (t ∷ stack) ∙ sym (turned t ts stack)

pub pops_arguments : (ts : List BareType) (stack : Stack) (P : Stack → Type 0) → P stack → Pops (reverse ts) (pushed ts stack) P
pops_arguments ts stack P h = subst (λ xs. Pops (reverse ts) xs P) (sym (pushed_is ts stack)) (pops (reverse ts) stack P h)

pub count_is : (look : Definitions) (env : Environment) (es : Expressions) → length (types_of look env es) ≡ count es
count_is look env NoExpressions = refl
count_is look env (ExpressionThen e es) = ap suc (count_is look env es)

printed_length : (ks : List Kind) (ts : List BareType) → ArePrinted ks ts → length ks ≡ length ts
printed_length [] [] h = refl
printed_length [] (t ∷ ts) h = absurd h
printed_length (k ∷ ks) [] h = absurd h
printed_length (k ∷ ks) (Integer j ∷ ts) h = ap suc (printed_length ks ts h.1)
printed_length (k ∷ ks) (Handle tag ∷ ts) h = absurd h
printed_length (k ∷ ks) (Thread ∷ ts) h = absurd h

-- popped from the end: what is popped after the last ones
printed_onto : (ks : List Kind) (ts : List BareType) (done : List Kind) (stack : Stack) (P : Stack → Type 0) → ArePrinted ks ts
    → PopsPrinted done stack P → PopsPrinted (reverse ks ++ done) (pushed ts stack) P
printed_onto [] [] done stack P h p = p
printed_onto [] (t ∷ ts) done stack P h p = absurd h
printed_onto (k ∷ ks) [] done stack P h p = absurd h
printed_onto (k ∷ ks) (Integer j ∷ ts) done stack P h p =
    subst (λ xs. PopsPrinted xs (pushed ts (Integer j ∷ stack)) P) (sym (turned k ks done)) (printed_onto ks ts (k ∷ done) (Integer j ∷ stack) P h.1 (h.0, p))
printed_onto (k ∷ ks) (Handle tag ∷ ts) done stack P h p = absurd h
printed_onto (k ∷ ks) (Thread ∷ ts) done stack P h p = absurd h

pub format_pops : (o : Option (List Kind)) (ts : List BareType) (n : ℕ) (stack : Stack) (P : Stack → Type 0) → FitFormat o ts
    → length ts ≡ n → P stack → PopsFormat o n (pushed ts stack) P
format_pops None ts n stack P h e p = absurd h
format_pops (Some ks) ts n stack P h e p =
    (printed_length ks ts h ∙ e, subst (λ xs. PopsPrinted xs (pushed ts stack) P) (append-nil (reverse ks)) (printed_onto ks ts [] stack P h p))

pub int_operands : (op : BinOp) (t u : BareType) → IsInteger t → IsInteger u → AreOperands op t u
int_operands op (Integer j) (Integer k) a b = tt
int_operands op (Integer j) (Handle tag) a b = absurd b
int_operands op (Integer j) Thread a b = absurd b
int_operands op (Handle tag) u a b = absurd a
int_operands op Thread u a b = absurd a

pub int_becomes : (t : BareType) (k : Kind) → IsInteger t → Becomes t (Integer k)
int_becomes (Integer j) k a = tt
int_becomes (Handle tag) k a = absurd a
int_becomes Thread k a = absurd a
