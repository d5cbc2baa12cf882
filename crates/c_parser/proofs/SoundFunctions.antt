-- What the plans of functions after their names mean.
use Rattle.std.specs.Prelude.{◌≡◌, ℕ, zero, suc, true, List, [], ◌∷◌, ◌++◌, Option, Some, None, codes}
use Rattle.std.proofs.Common.{refl, append-nil}
use Rattle.c_lexer.specs.declared.token.Token.{Token}
use Rattle.c_lexer.specs.declared.token.TokenKind.TheVariants.{Punctuator}
use Rattle.c_tree.specs.declared.name.Name.{Name}
use Rattle.c_tree.specs.declared.name.CType.{CType}
use Rattle.c_tree.specs.declared.stmt.Stmt.{Stmt}
use Rattle.c_tree.specs.declared.def.Binding.{Binding}
use Rattle.c_tree.specs.declared.def.Def.{Def}
use Rattle.c_tree.specs.declared.def.Parameters.{Parameters}
use Rattle.c_tree.specs.declared.def.Parameters.TheVariants.{Named}
use Rattle.c_expr_parser.specs.Placed.{Placed, at}
use Rattle.c_expr_parser.specs.Terminals.{IsPunctuator}
use Rattle.c_expr_parser.specs.Statements.{Items}
use Rattle.c_expr_parser.specs.Definitions.{ParameterList, PrototypeParameters}
use Rattle.c_expr_parser.specs.Tables.{is}
use Rattle.c_expr_parser.specs.Plans.Value.{nothing}
use Rattle.c_expr_parser.proofs.Samples.{punctuator, is_punctuator}
use Rattle.c_expr_parser.proofs.SoundTables.{placed_at, Each, each_if, each_when, spelled_at}
use Rattle.c_parser.specs.TextPlans.{Found, TextWanted, TextPlan, text_takes, text_left_out, function_by, function_made, prototype_made, as_parameters}
use Rattle.c_parser.specs.TextPlans as walk
use Rattle.c_parser.specs.TextPlans.Found.{part, made}
use Rattle.c_parser.specs.TextPlans.TextPlan.{Give, Want}
use Rattle.c_parser.proofs.TraceMeaning.{Meaning, From, Explains, gives}
use Rattle.c_parser.proofs.WantedMeaning.{text_word}
use Rattle.c_parser.proofs.SoundDeclarations.{Made, text_want}
use Rattle.c_parser.proofs.StatementsByFirstToken.{block_explained}
use Rattle.c_parser.proofs.SoundPhrases.{Left, on_none, on_more, speaks_all}
use Rattle.c_parser.proofs.SoundMembers.{defines_all}

-- after parameters with names
pub data IsBody (start : ℕ) (r : Option CType) (n : Name) (bs : List Binding) : (ℕ → List Def) → List Placed → Type 0 where
  body : {brace final : Placed} {ts : List Placed} {ss : List Stmt} → IsPunctuator 0 "{" brace → Items 1 ts ss → IsPunctuator 0 "}" final
      → IsBody start r n bs (function_made start r n bs ss (at final)) (brace ∷ (ts ++ final ∷ []))
  end : {semicolon : Placed} → IsPunctuator 0 ";" semicolon → IsBody start r n bs (prototype_made start r n (Named bs)) (semicolon ∷ [])

-- after a name
pub data IsFunction (start : ℕ) (r : Option CType) (n : Name) : List Placed → Found → List Token → Type 0 where
  body : {paren close brace final : Placed} {ps ts : List Placed} {bs : List Binding} {ss : List Stmt} {rest : List Token}
      → IsPunctuator 0 "(" paren → ParameterList 1 ps bs → IsPunctuator 0 ")" close → IsPunctuator 0 "{" brace → Items 1 ts ss → IsPunctuator 0 "}" final
      → IsFunction start r n (paren ∷ (ps ++ (close ∷ brace ∷ (ts ++ final ∷ [])))) (made (function_made start r n bs ss (at final))) rest
  prototype : {paren close semicolon : Placed} {ts : List Placed} {ps : Parameters} {rest : List Token}
      → IsPunctuator 0 "(" paren → PrototypeParameters 1 ts ps → IsPunctuator 0 ")" close → IsPunctuator 0 ";" semicolon
      → IsFunction start r n (paren ∷ (ts ++ close ∷ semicolon ∷ [])) (made (prototype_made start r n ps)) rest
  none : {t : CType} {rest : List Token} → r ≡ Some t → IsFunction start r n [] (part nothing) rest

abbrev Bodies : ℕ → Option CType → Name → List Binding → Meaning
Bodies start r n bs = Made made (λ f ts rest. IsBody start r n bs f ts)

body_taken : (n : ℕ) (start : ℕ) (r : Option CType) (m : Name) (bs : List Binding) (t : Token)
    → Each (λ p. Explains n (From (placed_at 0 t ∷ []) (Bodies start r m bs)) p) (text_takes (TextWanted.Body start r m bs) t)
body_taken n start r m bs t =
    each_if (λ p. Explains n Q p) (is Punctuator (codes "{") t) _ _
    (λ h. block_explained Q (speaks_all n) 0 (λ ss end. Give (made (function_made start r m bs ss end)))
    (λ us final ss i hf. gives (λ rest. Made.it_is (IsBody.body (spelled_at Punctuator 0 (codes "{") t h) i hf))))
    (λ h. each_when (λ p. Explains n Q p) (is Punctuator (codes ";") t) _
    (λ s. gives (λ rest. Made.it_is (IsBody.end (spelled_at Punctuator 0 (codes ";") t s)))))
  where
    Q : Meaning
    Q = From (placed_at 0 t ∷ []) (Bodies start r m bs)

body_left : (start : ℕ) (r : Option CType) (m : Name) (bs : List Binding) → Left (TextWanted.Body start r m bs) (Bodies start r m bs) None
body_left start r m bs = (punctuator 0 0 ";" ∷ [], _, Made.it_is (IsBody.end (is_punctuator 0 0 ";")))

pub body_all : (n : ℕ) (start : ℕ) (r : Option CType) (m : Name) (bs : List Binding)
    → Explains n (Bodies start r m bs) (Want (TextWanted.Body start r m bs) Give)
body_all zero start r m bs = on_none (TextWanted.Body start r m bs) (Bodies start r m bs) (body_left start r m bs)
body_all (suc n) start r m bs = on_more (TextWanted.Body start r m bs) (Bodies start r m bs) (body_left start r m bs) (body_taken n start r m bs)

function_taken : (n : ℕ) (start : ℕ) (r : Option CType) (m : Name) (t : Token)
    → Each (λ p. Explains n (From (placed_at 0 t ∷ []) (IsFunction start r m)) p) (text_takes (TextWanted.Function start r m) t)
function_taken n start r m t =
    each_when (λ p. Explains n Q p) (is Punctuator (codes "(") t) _
    (λ h. text_want Q (λ ps. walk.punctuator (codes ")") 0 (function_by start r m (as_parameters ps))) (TextWanted.ParameterList 1) ((defines_all n).list_so 1)
    (λ ps us rest x. text_word (From us Q) (λ c hc. behind_it h hc x)))
  where
    Q : Meaning
    Q = From (placed_at 0 t ∷ []) (IsFunction start r m)

    ended : is Punctuator (codes "(") t ≡ true → {c : Placed} → IsPunctuator 0 ")" c → {us : List Placed} {bs : List Binding} → ParameterList 1 us bs
        → {f : ℕ → List Def} {vs : List Placed} → IsBody start r m bs f vs → (rest : List Token) → IsFunction start r m (placed_at 0 t ∷ (us ++ (c ∷ vs))) (made f) rest
    ended h hc pl (IsBody.body hb i hf) rest = IsFunction.body (spelled_at Punctuator 0 (codes "(") t h) pl hc hb i hf
    ended h hc pl (IsBody.end hs) rest = IsFunction.prototype (spelled_at Punctuator 0 (codes "(") t h) (PrototypeParameters.named pl) hc hs

    behind_it : is Punctuator (codes "(") t ≡ true → {c : Placed} → IsPunctuator 0 ")" c → {ps : Parameters} {us : List Placed} → PrototypeParameters 1 us ps
        → Explains n (From (c ∷ []) (From us Q)) (function_by start r m ps)
    behind_it h {c} hc {us = us} (PrototypeParameters.named {parameters = bs} pl) =
        text_want (From (c ∷ []) (From us Q)) Give (TextWanted.Body start r m bs) (body_all n start r m bs)
        (λ f vs rest b. gives (λ rest. rw append-nil (ended h hc pl b rest)))
    behind_it h {c} hc {us = us} (PrototypeParameters.unnamed ts) =
        text_word (From (c ∷ []) (From us Q)) (λ s hs.
        gives (λ rest. IsFunction.prototype (spelled_at Punctuator 0 (codes "(") t h) (PrototypeParameters.unnamed ts) hc hs))

function_left : (start : ℕ) (r : Option CType) (m : Name)
    → Left (TextWanted.Function start r m) (IsFunction start r m) (text_left_out (TextWanted.Function start r m))
function_left start None m = (
  punctuator 0 0 "(" ∷ punctuator 0 1 ")" ∷ punctuator 0 2 ";" ∷ [],
  made (prototype_made start None m (Named [])),
  IsFunction.prototype (is_punctuator 0 0 "(") (PrototypeParameters.named ParameterList.nothing) (is_punctuator 0 1 ")") (is_punctuator 0 2 ";"),
)
function_left start (Some t) m = λ rest p. IsFunction.none refl

pub function_all : (n : ℕ) (start : ℕ) (r : Option CType) (m : Name)
    → Explains n (IsFunction start r m) (Want (TextWanted.Function start r m) Give)
function_all zero start r m = on_none (TextWanted.Function start r m) (IsFunction start r m) (function_left start r m)
function_all (suc n) start r m = on_more (TextWanted.Function start r m) (IsFunction start r m) (function_left start r m) (function_taken n start r m)
