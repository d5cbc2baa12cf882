-- What becomes of something wanted in a text, by its first token: a sign that it begins with, or nothing.
use Rattle.std.proofs.Common.{◌≡◌, ◌<◌, ◌≤◌, ℕ, Bool, true, false, List, [], ◌∷◌, ◌++◌, length, Some, refl, sym, ap, ◌∙◌, append_assoc}
use Rattle.std.proofs.Math.Path.{fun_ext}
use Rattle.c_lexer.specs.declared.token.Token.{Token}
use Rattle.c_tree.specs.declared.name.CType.{CType}
use Rattle.c_tree.specs.declared.name.CType.TheVariants.{Integer, Handle, Thread}
use Rattle.c_tree.specs.declared.expr.Expr.{Expr}
use Rattle.c_expr_parser.specs.Readings.{most_depth}
use Rattle.c_expr_parser.specs.Tables.{when_some, holds_ahead}
use Rattle.c_expr_parser.specs.Plans.{assignment, conditional, as_expr}
use Rattle.c_parser.specs.TextPlans.{Found, TextWanted, TextPlan, then_text, text_depth, text_takes, text_left_out, text_parsed, star_then, expr_then, conditional_then}
use Rattle.c_parser.specs.TextPlans.TextPlan.{Want}
use Rattle.c_parser.specs.TextPlans.TextParsed.{deep_at}
use Rattle.c_parser.proofs.JoinedTraces.{then_behind}
use Rattle.c_parser.proofs.PlanResults.{takes_first, sinks_first, passes_held}

-- something that begins with a sign
abbrev pub Begins : TextWanted → (Token → Bool) → TextPlan → Type 0
Begins w test p = (t : Token) → text_takes w t ≡ when_some (test t) (Some p)

-- the sign is the first token
abbrev pub IsFirst : (Token → Bool) → List Token → List Token → Type 0
IsFirst test ts us = (t : Token) × (ts ≡ t ∷ us) × (test t ≡ true)

pub sign_none : (w : TextWanted) (test : Token → Bool) (p : TextPlan) (k : Found → TextPlan) (f : Found) (ts : List Token) → Begins w test p
    → text_left_out w ≡ Some f → holds_ahead test ts ≡ false → text_parsed (Want w k) ts ≡ text_parsed (k f) ts
sign_none w test p k f ts form left e = passes_held test w k f ts (λ t h. form t ∙ ap (λ b. when_some b (Some p)) h) left e

pub sign_some : (w : TextWanted) (test : Token → Bool) (p : TextPlan) (k : Found → TextPlan) (us ts : List Token) → Begins w test p
    → IsFirst test ts us → text_depth w ≤ most_depth → text_parsed (Want w k) ts ≡ text_parsed (then_text p k) us
sign_some w test p k us ts form f shallow = takes_first w k p f.0 us ts f.1 (form f.0 ∙ ap (λ b. when_some b (Some p)) f.2) shallow

pub sign_deep : (w : TextWanted) (test : Token → Bool) (p : TextPlan) (k : Found → TextPlan) (us ts : List Token) → Begins w test p
    → IsFirst test ts us → most_depth < text_depth w → text_parsed (Want w k) ts ≡ deep_at (length ts)
sign_deep w test p k us ts form f low = sinks_first w k p f.0 us ts f.1 (form f.0 ∙ ap (λ b. when_some b (Some p)) f.2) low

-- plans after others
pub then_star : (d : ℕ) (t : CType) (p : TextPlan) (k : Found → TextPlan) → then_text (star_then d t p) k ≡ star_then d t (then_text p k)
then_star d (Integer kind) p k = refl
then_star d (Handle tag) p k = refl
then_star d Thread p k = refl

pub then_expr : (d : ℕ) (q : Expr → TextPlan) (k : Found → TextPlan) → then_text (expr_then d q) k ≡ expr_then d (λ e. then_text (q e) k)
then_expr d q k = then_behind (assignment d) (λ v. q (as_expr v)) k

pub then_conditional : (d : ℕ) (q : Expr → TextPlan) (k : Found → TextPlan)
    → then_text (conditional_then d q) k ≡ conditional_then d (λ e. then_text (q e) k)
then_conditional d q k = then_behind (conditional d) (λ v. q (as_expr v)) k

-- a list with one item more
pub shifted : {A : Type 0} (w : TextWanted) (xs : List A) (x : A) (rest : Found → List A) (k : List A → TextPlan) (all : List A) (ts : List Token)
    → all ≡ xs ++ x ∷ [] → text_parsed (Want w (λ f. k (xs ++ x ∷ rest f))) ts ≡ text_parsed (Want w (λ f. k (all ++ rest f))) ts
shifted w xs x rest k all ts e =
    ap (λ h. text_parsed (Want w h) ts) (fun_ext (λ f. ap k (sym (append_assoc xs (x ∷ []) (rest f)) ∙ ap (λ l. l ++ rest f) (sym e))))
