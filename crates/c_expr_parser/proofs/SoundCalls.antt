-- What follows a postfix expression, and the calls of the library.
use Rattle.std.specs.Prelude.{◌≡◌, ℕ, suc, Bool, true, false, List, [], ◌∷◌, ◌++◌, codes}
use Rattle.std.proofs.Common.{refl, ap, subst, ◌∙◌, append_assoc}
use Rattle.c_lexer.specs.declared.token.Token.{Token}
use Rattle.c_lexer.specs.declared.token.TokenKind.TheVariants.{LibraryWord}
use Rattle.c_tree.specs.declared.expr.Expr.{Expr}
use Rattle.c_tree.specs.declared.expr.ExprNode.TheVariants as node
use Rattle.c_expr_parser.specs.declared.operand.Operand.{Operand}
use Rattle.c_expr_parser.specs.Placed.{Placed, at}
use Rattle.c_expr_parser.specs.Terminals.{IsLibraryWord}
use Rattle.c_expr_parser.specs.Expressions.{Assignment, Cast, Unary, Postfix, Primary}
use Rattle.c_expr_parser.specs.Plans.{Value, Wanted, Plan, as_expr, as_name, punctuator, join_node, primary, expr_then, unary_then, print_call, calloc_call, free_call, create_call, join_call, init_call, mutex_call, library_word_operand}
use Rattle.c_expr_parser.specs.Plans.Plan.{Return, Then}
use Rattle.c_expr_parser.proofs.TraceMeaning.{Sound, sound_map, Behind, behind_return}
use Rattle.c_expr_parser.proofs.WantedMeaning.{Reads, AsOperand, AsPostfix, Fits, sound_word, sound_naming, sound_one, sound_strings, sound_further, sound_target, sound_unary_then, sound_on}
use Rattle.c_expr_parser.proofs.SoundAssignment.{sound_assignment_then}
use Rattle.c_expr_parser.proofs.SoundTables.{Each, each_row, placed_at, spelled_as}

pub unary_operand : (casts : Bool) {d : ℕ} {ts : List Placed} (a : Operand) → Unary d ts a.expr → AsOperand casts d ts a
unary_operand true a u = (Cast.unary u, λ h. u)
unary_operand false a u = u

-- after a postfix expression
pub postfix_on : {n : ℕ} → Fits n → (casts : Bool) {d : ℕ} {t : Placed} {left : List Placed} (a : Operand) → Postfix d (t ∷ left) a.expr
    → a.start ≡ at t → Behind n (Reads (AsOperand casts d)) (t ∷ left) (Then (Wanted.Postfix d a) Return)
postfix_on fits casts {d} {t} {left} a p e =
    sound_on (Reads (AsOperand casts d)) Return a (AsPostfix d) (AsPostfix d) (Wanted.Postfix d a)
    (fits.wanted (Wanted.Postfix d a)) p e
    (λ u us b q l. behind_return (Reads (AsOperand casts d)) (u ∷ us) (Reads.reads (unary_operand casts b (Unary.postfix q)) l))

-- after a primary expression
pub primary_on : {n : ℕ} → Fits n → (casts : Bool) {d : ℕ} {t : Placed} {left : List Placed} {e : Expr} → Primary d (t ∷ left) e
    → Behind n (Reads (AsOperand casts d)) (t ∷ left) (Then (Wanted.Postfix d (record { expr = e; start = at t; is_unary = true })) Return)
primary_on fits casts {t} {e} p = postfix_on fits casts (record { expr = e; start = at t; is_unary = true }) (Postfix.primary p) refl

-- after a primary expression that is written in another way
primary_as : {n : ℕ} → Fits n → (casts : Bool) {d : ℕ} {t : Placed} {left : List Placed} {e : Expr} {joined : List Placed → List Placed}
    → Primary d (t ∷ left) e → ((more : List Placed) → left ++ more ≡ joined more)
    → Sound n (λ more v. Reads (AsOperand casts d) (t ∷ joined more) v)
    (Then (Wanted.Postfix d (record { expr = e; start = at t; is_unary = true })) Return)
primary_as fits casts {d} {t} p same =
    sound_map (λ more v m. subst (λ ts. Reads (AsOperand casts d) (t ∷ ts) v) (same more) m) (primary_on fits casts p)

two_parts : (ts us end more : List Placed) → (ts ++ (us ++ end)) ++ more ≡ ts ++ (us ++ (end ++ more))
two_parts ts us end more = append_assoc ts (us ++ end) more ∙ ap (λ l. ts ++ l) (append_assoc us end more)

-- an expression in a plan
pub sound_expr : {n : ℕ} {Q : List Placed → Value → Type 0} {k : Expr → Plan} → Fits n → (d : ℕ)
    → ((t : Placed) (ts : List Placed) (e : Expr) → Assignment d (t ∷ ts) e → Behind n Q (t ∷ ts) (k e)) → Sound n Q (expr_then d k)
sound_expr {Q} {k} fits d f = sound_assignment_then {Q = Q} (λ v. k (as_expr v)) fits d (λ t ts a p e. f t ts a.expr p)

pub sound_unary : {n : ℕ} {Q : List Placed → Value → Type 0} {k : Expr → Plan} → Fits n → (d : ℕ)
    → ((t : Placed) (ts : List Placed) (e : Expr) → Unary d (t ∷ ts) e → Behind n Q (t ∷ ts) (k e)) → Sound n Q (unary_then d k)
sound_unary {Q} {k} fits d f = sound_unary_then {Q = Q} {k = λ v. k (as_expr v)} fits (λ t ts a p e. f t ts a.expr p)

-- the tokens are an operand after a word
abbrev pub After : ℕ → Bool → ℕ → Placed → Plan → Type 0
After n casts d word p = Behind n (Reads (AsOperand casts d)) (word ∷ []) p

print_sound : {n : ℕ} → Fits n → (casts : Bool) (d : ℕ) (word : Placed) → IsLibraryWord d "printf" word
    → After n casts d word (print_call d (at word))
print_sound fits casts d word w =
    sound_word fits (λ paren p. sound_strings fits (λ s ss bytes strings. sound_further fits (λ ts es further.
    sound_word fits (λ close c. primary_as fits casts (Primary.print w p strings further c)
    (λ more. ap (λ l. paren ∷ s ∷ l) (two_parts ss ts (close ∷ []) more))))))

calloc_sound : {n : ℕ} → Fits n → (casts : Bool) (d : ℕ) (word : Placed) → IsLibraryWord d "calloc" word
    → After n casts d word (calloc_call d (at word))
calloc_sound fits casts d word w =
    sound_word fits (λ paren p. sound_one fits (λ one value number is. sound_word fits (λ comma c. sound_word fits (λ sizeof s.
    sound_word fits (λ inner i. sound_word fits (λ struct k. sound_naming fits (λ tag t. sound_word fits (λ end e.
    sound_word fits (λ close l. primary_on fits casts (Primary.calloc w p number is c s i k t e l))))))))))

free_sound : {n : ℕ} → Fits n → (casts : Bool) (d : ℕ) (word : Placed) → IsLibraryWord d "free" word
    → After n casts d word (free_call d (at word))
free_sound fits casts d word w =
    sound_word fits (λ paren p. sound_expr fits (suc d) (λ t ts e a. sound_word fits (λ close c.
    primary_as fits casts (Primary.free w p a c) (λ more. ap (λ l. paren ∷ t ∷ l) (append_assoc ts (close ∷ []) more)))))

create_sound : {n : ℕ} → Fits n → (casts : Bool) (d : ℕ) (word : Placed) → IsLibraryWord d "thrd_create" word
    → After n casts d word (create_call d (at word))
create_sound fits casts d word w =
    sound_word fits (λ paren p. sound_word fits (λ ampersand a. sound_unary fits (suc d) (λ t ts e place. sound_word fits (λ first f.
    sound_naming {k = λ v. punctuator (codes ",") (suc d) (expr_then (suc d) (λ x. punctuator (codes ")") d
    (primary d (at word) (node.Create e (as_name v) x))))} fits (λ function i. sound_word fits (λ second s. sound_expr fits (suc d) (λ u us x argument.
    sound_word fits (λ close c. primary_as fits casts (Primary.create w p a place f i s argument c)
    (λ more. ap (λ l. paren ∷ ampersand ∷ t ∷ l) (two_parts ts (first ∷ function ∷ second ∷ u ∷ us) (close ∷ []) more))))))))))

join_sound : {n : ℕ} → Fits n → (casts : Bool) (d : ℕ) (word : Placed) → IsLibraryWord d "thrd_join" word
    → After n casts d word (join_call d (at word))
join_sound fits casts d word w =
    sound_word fits (λ paren p. sound_expr fits (suc d) (λ t ts e a. sound_word fits (λ comma k.
    sound_target {k = λ target. punctuator (codes ")") d (primary d (at word) (join_node e target))} fits
    (λ null i. sound_word fits (λ close c. primary_as fits casts (Primary.join w p a k i c)
    (λ more. ap (λ l. paren ∷ t ∷ l) (append_assoc ts (comma ∷ null ∷ close ∷ []) more))))
    (λ ampersand us b s place. sound_word fits (λ close c.
    primary_as fits casts (Primary.join_into w p a k s place c)
    (λ more. ap (λ l. paren ∷ t ∷ l) (two_parts ts (comma ∷ ampersand ∷ us) (close ∷ []) more)))))))

init_sound : {n : ℕ} → Fits n → (casts : Bool) (d : ℕ) (word : Placed) → IsLibraryWord d "mtx_init" word
    → After n casts d word (init_call d (at word))
init_sound fits casts d word w =
    sound_word fits (λ paren p. sound_word fits (λ ampersand a. sound_naming fits (λ mutex m. sound_word fits (λ comma k.
    sound_word fits (λ plain l. sound_word fits (λ close c. primary_on fits casts (Primary.init_mutex w p a m k l c)))))))

lock_sound : {n : ℕ} → Fits n → (casts : Bool) (d : ℕ) (word : Placed) → IsLibraryWord d "mtx_lock" word
    → After n casts d word (mutex_call node.Lock d (at word))
lock_sound fits casts d word w =
    sound_word fits (λ paren p. sound_word fits (λ ampersand a. sound_naming fits (λ mutex m. sound_word fits (λ close c.
    primary_on fits casts (Primary.lock w p a m c)))))

unlock_sound : {n : ℕ} → Fits n → (casts : Bool) (d : ℕ) (word : Placed) → IsLibraryWord d "mtx_unlock" word
    → After n casts d word (mutex_call node.Unlock d (at word))
unlock_sound fits casts d word w =
    sound_word fits (λ paren p. sound_word fits (λ ampersand a. sound_naming fits (λ mutex m. sound_word fits (λ close c.
    primary_on fits casts (Primary.unlock w p a m c)))))

-- a name of the library
pub library_word_taken : {n : ℕ} → Fits n → (casts : Bool) (d : ℕ) (t : Token) → t.kind ≡ LibraryWord
    → Each (After n casts d (placed_at d t)) (library_word_operand d t)
library_word_taken {n} fits casts d t h =
    each_row P t.text (codes "NULL") _ _ (λ e. primary_on fits casts (Primary.null (spelled_as LibraryWord d (codes "NULL") t h e)))
    (each_row P t.text (codes "thrd_success") _ _ (λ e. primary_on fits casts (Primary.success (spelled_as LibraryWord d (codes "thrd_success") t h e)))
    (each_row P t.text (codes "thrd_error") _ _ (λ e. primary_on fits casts (Primary.error (spelled_as LibraryWord d (codes "thrd_error") t h e)))
    (each_row P t.text (codes "printf") _ _ (λ e. print_sound fits casts d word (spelled_as LibraryWord d (codes "printf") t h e))
    (each_row P t.text (codes "calloc") _ _ (λ e. calloc_sound fits casts d word (spelled_as LibraryWord d (codes "calloc") t h e))
    (each_row P t.text (codes "free") _ _ (λ e. free_sound fits casts d word (spelled_as LibraryWord d (codes "free") t h e))
    (each_row P t.text (codes "thrd_create") _ _ (λ e. create_sound fits casts d word (spelled_as LibraryWord d (codes "thrd_create") t h e))
    (each_row P t.text (codes "thrd_join") _ _ (λ e. join_sound fits casts d word (spelled_as LibraryWord d (codes "thrd_join") t h e))
    (each_row P t.text (codes "mtx_init") _ _ (λ e. init_sound fits casts d word (spelled_as LibraryWord d (codes "mtx_init") t h e))
    (each_row P t.text (codes "mtx_lock") _ _ (λ e. lock_sound fits casts d word (spelled_as LibraryWord d (codes "mtx_lock") t h e))
    (each_row P t.text (codes "mtx_unlock") _ _ (λ e. unlock_sound fits casts d word (spelled_as LibraryWord d (codes "mtx_unlock") t h e)) tt))))))))))
  where
    word : Placed
    word = placed_at d t

    P : Plan → Type 0
    P p = After n casts d (placed_at d t) p
