-- What the plans of statements mean.
use Rattle.std.specs.Prelude.{◌≡◌, ℕ, suc, ◌≤◌, Bool, true, false, List, [], ◌∷◌, ◌++◌, length, Some, None, codes}
use Rattle.std.proofs.Common.{refl, sym, subst, ◌∙◌, arith, append-nil}
use Rattle.c_lexer.specs.declared.token.Token.{Token}
use Rattle.c_lexer.specs.declared.token.TokenKind.TheVariants.{Keyword, Punctuator}
use Rattle.c_tree.specs.declared.expr.Expr.{Expr}
use Rattle.c_tree.specs.declared.stmt.Stmt.{Stmt}
use Rattle.c_expr_parser.specs.Placed.{Placed, at}
use Rattle.c_expr_parser.specs.Terminals.{Spells, IsPunctuator}
use Rattle.c_expr_parser.specs.Expressions.{Assignment}
use Rattle.c_expr_parser.specs.Statements.{Ending, dangling, complete, Optional, First, Statement, Items}
use Rattle.c_expr_parser.specs.Tables.{is}
use Rattle.c_expr_parser.proofs.SoundTables.{placed_at}
use Rattle.c_parser.specs.TextPlans.{Found, TextWanted, TextPlan, text_takes, run_text, punctuator, test_then, as_statement}
use Rattle.c_parser.specs.TextPlans.Found.{part, place, optional, statement, statements}
use Rattle.c_parser.specs.TextPlans.TextPlan.{Give, Want}
use Rattle.c_expr_parser.specs.Plans.Value.{nothing}
use Rattle.c_parser.proofs.CompletePlans.{Passes, at_token, skip}
use Rattle.c_parser.proofs.CompleteStatements.{Fits}
use Rattle.c_parser.proofs.TraceMeaning.{Meaning, From, TextExplained, Explains, explains_at}
use Rattle.c_parser.proofs.WantedMeaning.{text_word, text_expr}
use Rattle.c_parser.proofs.SoundDeclarations.{Made, Declares}

pub data IsPlace (spelling : List ℕ) (d : ℕ) : ℕ → List Placed → Type 0 where
  it_is : {t : Placed} → Spells Punctuator d spelling t → IsPlace spelling d (at t) (t ∷ [])

pub data IsStatement (d : ℕ) : Stmt → List Placed → List Token → Type 0 where
  it_is : {ending : Ending} {s : Stmt} {ts : List Placed} {rest : List Token} → Statement ending d ts s → Fits ending rest
      → IsStatement d s ts rest

-- on at most so many tokens, these are found as the grammar says
pub record Speaks (n : ℕ) : Type 0 where
  pub declares_so : Declares n
  pub punctuator_at : (spelling : List ℕ) (d : ℕ) → Explains n (Made place (λ p ts r. IsPlace spelling d p ts)) (Want (TextWanted.Place spelling d) Give)
  pub optional_so : (d : ℕ) → Explains n (Made optional (λ o ts r. Optional d ts o)) (Want (TextWanted.Optional d) Give)
  pub first_so : (d : ℕ) → Explains n (Made statements (λ ss ts r. First d ts ss)) (Want (TextWanted.First d) Give)
  pub statement_so : (d : ℕ) → Explains n (Made statement (λ s ts r. IsStatement d s ts r)) (Want (TextWanted.Statement d) Give)
  pub items_so : (d : ℕ) → Explains n (Made statements (λ ss ts r. Items d ts ss)) (Want (TextWanted.Items d) Give)

pub given : (Q : Meaning) (f : Found) (rest : List Token) → Q [] f rest → TextExplained Q (run_text rest (Give f))
given Q f [] q = q
given Q f (t ∷ ts) q = q

-- a statement that is the last part of another
last_case : (Q : Meaning) (k : Stmt → Found) {d : ℕ}
    → ((s : Stmt) (us : List Placed) (rest : List Token) → IsStatement d s us rest → Q us (k s) rest)
    → {us : List Placed} {f : Found} {rest : List Token} → Made statement (λ s ts r. IsStatement d s ts r) us f rest
    → TextExplained (From us Q) (run_text rest (Give (k (as_statement f))))
last_case Q k g {us} {rest = rest} (Made.it_is {a = s} p) =
    given (From us Q) (k s) rest (subst (λ l. Q l (k s) rest) (sym (append-nil us)) (g s us rest p))

pub last_statement : {n : ℕ} (Q : Meaning) → Speaks n → (k : Stmt → Found) (d : ℕ)
    → ((s : Stmt) (us : List Placed) (rest : List Token) → IsStatement d s us rest → Q us (k s) rest)
    → Explains n Q (Want (TextWanted.Statement d) (λ f. Give (k (as_statement f))))
last_statement Q speaks k d g =
    explains_at {p = Want (TextWanted.Statement d) Give} {k = λ f. Give (k (as_statement f))} (speaks.statement_so d)
    (λ us f rest m h. last_case Q k g m)

-- a test between parentheses
pub test_explained : {n : ℕ} (Q : Meaning) (d : ℕ) (k : Expr → TextPlan)
    → ((paren close : Placed) (us : List Placed) (c : Expr) → IsPunctuator d "(" paren → Assignment (suc d) us c → IsPunctuator d ")" close
    → Explains n (λ ts f r. Q (paren ∷ (us ++ close ∷ ts)) f r) (k c))
    → Explains n Q (test_then d k)
test_explained Q d k g =
    text_word Q (λ p hp. text_expr (From (p ∷ []) Q) (λ c. punctuator (codes ")") d (k c)) (λ us c a.
    text_word (From us (From (p ∷ []) Q)) (λ q hq. g p q us c hp a hq)))

-- `else`, or nothing
no_else : (e d : ℕ) (t : Token) → is Keyword (codes "else") t ≡ false → text_takes (TextWanted.Else e) t ≡ None
no_else e d t h = rw h refl

pub fits_else : (ending : Ending) (d : ℕ) (t : Token) (ts : List Token) → is Keyword (codes "else") t ≡ true → Fits ending (t ∷ ts)
    → ending ≡ complete
fits_else complete d t ts h f = refl
fits_else dangling d t ts h f =
    let e : Some (Want (TextWanted.Statement (suc d)) Give) ≡ None = sym (rw h refl) ∙ f d in absurd (cc)

pub else_explained : {n : ℕ} (Q : Meaning) → Speaks n → (d : ℕ) (k : Found → Found) (rest : List Token) → length rest ≤ n
    → (((e : ℕ) → Passes (TextWanted.Else e) rest) → Q [] (k (part nothing)) rest)
    → ((t : Token) (ts : List Token) → rest ≡ t ∷ ts → is Keyword (codes "else") t ≡ true → (s : Stmt) (us : List Placed) (r : List Token)
    → IsStatement (suc d) s us r → Q (placed_at d t ∷ us) (k (statement s)) r)
    → TextExplained Q (run_text rest (Want (TextWanted.Else d) (λ r. Give (k r))))
else_explained Q speaks d k [] h none some = none (λ e. tt)
else_explained {n} Q speaks d k (t ∷ ts) h none some = by_test (is Keyword (codes "else") t) refl
  where
    by_test : (b : Bool) → is Keyword (codes "else") t ≡ b
        → TextExplained Q (run_text (t ∷ ts) (Want (TextWanted.Else d) (λ r. Give (k r))))
    by_test true e =
        subst (TextExplained Q)
        (sym (at_token (TextWanted.Else d) t ts (λ r. Give (k r)) (Want (TextWanted.Statement (suc d)) Give) (rw e refl)))
        ((else_statement (From (placed_at d t ∷ []) Q) (λ s us r m. some t ts refl e s us r m)).trace ts (omega arith))
      where
        else_case : (Q : Meaning)
            → ((s : Stmt) (us : List Placed) (rest : List Token) → IsStatement (suc d) s us rest → Q us (k (statement s)) rest)
            → {us : List Placed} {f : Found} {rest : List Token} → Made statement (λ s ts r. IsStatement (suc d) s ts r) us f rest
            → TextExplained (From us Q) (run_text rest (Give (k f)))
        else_case Q g {us} {rest = rest} (Made.it_is {a = s} p) =
            given (From us Q) (k (statement s)) rest (subst (λ l. Q l (k (statement s)) rest) (sym (append-nil us)) (g s us rest p))

        else_statement : (Q : Meaning)
            → ((s : Stmt) (us : List Placed) (rest : List Token) → IsStatement (suc d) s us rest → Q us (k (statement s)) rest)
            → Explains n Q (Want (TextWanted.Statement (suc d)) (λ f. Give (k f)))
        else_statement Q g =
            explains_at {p = Want (TextWanted.Statement (suc d)) Give} {k = λ f. Give (k f)} (speaks.statement_so (suc d))
            (λ us f rest m h. else_case Q g m)
    by_test false e =
        subst (TextExplained Q) (sym (skip (TextWanted.Else d) (part nothing) (t ∷ ts) (λ r. Give (k r)) refl (no_else d d t e)))
        (none (λ f. no_else f d t e))
