-- What is read after the first token of a statement, and of an item of a block.
use Rattle.std.specs.Prelude.{◌≡◌, ℕ, suc, ◌≤◌, true, List, [], ◌∷◌, ◌++◌, length, Option, Some, codes}
use Rattle.std.proofs.Common.{refl, subst, append-nil}
use Rattle.c_lexer.specs.declared.token.Token.{Token}
use Rattle.c_lexer.specs.declared.token.TokenKind.{TokenKind}
use Rattle.c_lexer.specs.declared.token.TokenKind.TheVariants.{Identifier, Keyword, LibraryWord, Number, Character, Str, Punctuator}
use Rattle.c_tree.specs.declared.name.CType.{CType}
use Rattle.c_tree.specs.declared.expr.Expr.{Expr}
use Rattle.c_tree.specs.declared.stmt.Declaration.{Declaration}
use Rattle.c_tree.specs.declared.stmt.Stmt.{Stmt}
use Rattle.c_tree.specs.declared.stmt.StmtNode.TheVariants as node
use Rattle.c_expr_parser.specs.Placed.{Placed, at}
use Rattle.c_expr_parser.specs.Terminals.{IsPunctuator, IsKeyword}
use Rattle.c_expr_parser.specs.Expressions.{Assignment}
use Rattle.c_expr_parser.specs.Declarations.{Declarators, Variable, Variables}
use Rattle.c_expr_parser.specs.Statements.{stmt, declares, dangling, complete, Optional, First, Statement, Items}
use Rattle.c_expr_parser.specs.Tables.{is, begins_type}
use Rattle.c_expr_parser.proofs.SoundTables.{placed_at, Each, each_if, each_mapped, each_row, spelled_at, spelled_as}
use Rattle.c_parser.specs.TextPlans.{Found, TextWanted, TextPlan, then_text, text_takes, run_text, punctuator, keyword, simple, test_then, if_else, returned, block_then, declaration_behind, as_place, as_optional, as_statement, as_statements, statement_by, statement_plan, expression_statement, if_statement, while_statement, do_statement, for_statement}
use Rattle.c_parser.specs.TextPlans.Found.{optional, statement, statements}
use Rattle.c_parser.specs.TextPlans.TextPlan.{Give, Want}
use Rattle.c_parser.proofs.TraceMeaning.{Meaning, From, TextExplained, Explains, gives, explains_at, explains_then}
use Rattle.c_parser.proofs.WantedMeaning.{text_word, expr_begun, type_begun}
use Rattle.c_parser.proofs.CompleteStatements.{Fits}
use Rattle.c_parser.proofs.SoundDeclarations.{Made, text_want, regroup, Declares, variables_explained}
use Rattle.c_parser.proofs.SoundStatements.{IsPlace, IsStatement, Speaks, last_statement, test_explained, else_explained, fits_else}

-- a statement of which the first token is known
abbrev Rest : ℕ → Token → Meaning
Rest d t = From (placed_at d t ∷ []) (Made statement (λ s ts r. IsStatement d s ts r))

abbrev Spoken : ℕ → ℕ → Token → TextPlan → Type 0
Spoken n d t p = Explains n (Rest d t) p

-- what stands between braces that are open
pub block_explained : {n : ℕ} (Q : Meaning) → Speaks n → (d : ℕ) (k : List Stmt → ℕ → TextPlan)
    → ((us : List Placed) (final : Placed) (ss : List Stmt) → Items (suc d) us ss → IsPunctuator d "}" final
    → Explains n (λ ts f r. Q (us ++ final ∷ ts) f r) (k ss (at final)))
    → Explains n Q (block_then d k)
block_explained {n} Q speaks d k g =
    text_want Q (λ ss. Want (TextWanted.Place (codes "}") d) (λ end. k (as_statements ss) (as_place end))) (TextWanted.Items (suc d)) (speaks.items_so (suc d))
    (λ ss us rest i. text_want (From us Q) (λ end. k ss (as_place end)) (TextWanted.Place (codes "}") d) (speaks.punctuator_at (codes "}") d)
    (λ p vs rest m. punctuator_case ss us i m))
  where
    punctuator_case : (ss : List Stmt) (us : List Placed) → Items (suc d) us ss → {p : ℕ} {vs : List Placed} → IsPlace (codes "}") d p vs
        → Explains n (From vs (From us Q)) (k ss p)
    punctuator_case ss us i (IsPlace.it_is s) = g us _ ss i s

-- statements by their first token
if_taken : {n : ℕ} → Speaks n → (d : ℕ) (t : Token) → IsKeyword d "if" (placed_at d t) → Spoken n d t (if_statement d t.at)
if_taken {n} speaks d t w =
    test_explained (Rest d t) d (λ c. Want (TextWanted.Statement (suc d)) (λ s. Want (TextWanted.Else d) (λ r.
    Give (statement (stmt t.at (if_else c (as_statement s) r))))))
    (λ p q us c hp a hq. explains_at {p = Want (TextWanted.Statement (suc d)) Give}
    {k = λ s. Want (TextWanted.Else d) (λ r. Give (statement (stmt t.at (if_else c (as_statement s) r))))}
    (speaks.statement_so (suc d)) (λ vs f rest m h. governed p q us c hp a hq m h))
  where
    governed : (p q : Placed) (us : List Placed) (c : Expr) → IsPunctuator d "(" p → Assignment (suc d) us c → IsPunctuator d ")" q
        → {vs : List Placed} {f : Found} {rest : List Token} → Made statement (λ s ts r. IsStatement (suc d) s ts r) vs f rest
        → length rest ≤ n
        → TextExplained (λ ts f r. Rest d t (p ∷ (us ++ q ∷ (vs ++ ts))) f r)
        (run_text rest (Want (TextWanted.Else d) (λ r. Give (statement (stmt t.at (if_else c (as_statement f) r))))))
    governed p q us c hp a hq {vs} {rest = rest} (Made.it_is {a = s} (IsStatement.it_is {ending} st fits)) h =
        else_explained (λ ts f r. Rest d t (p ∷ (us ++ q ∷ (vs ++ ts))) f r) speaks d (λ r. statement (stmt t.at (if_else c s r))) rest h
        (λ none. rw append-nil (Made.it_is (IsStatement.it_is {ending = dangling} (Statement.if_only w hp a hq st) none)))
        (λ u us e y r vs rest m. other u e y m)
      where
        other : (u : Token) {ts : List Token} → rest ≡ u ∷ ts → is Keyword (codes "else") u ≡ true → {r : Stmt} {ws : List Placed} {left : List Token}
            → IsStatement (suc d) r ws left
            → Rest d t (p ∷ (us ++ q ∷ (vs ++ placed_at d u ∷ ws))) (statement (stmt t.at (if_else c s (statement r)))) left
        other u {ts} e y (IsStatement.it_is sr more) =
            let whole : ending ≡ complete = fits_else ending d u ts y (subst (Fits ending) e fits) in
            Made.it_is (IsStatement.it_is (Statement.if_else w hp a hq (subst (λ x. Statement x (suc d) vs s) whole st)
            (spelled_at Keyword d (codes "else") u y) sr) more)

while_taken : {n : ℕ} → Speaks n → (d : ℕ) (t : Token) → IsKeyword d "while" (placed_at d t) → Spoken n d t (while_statement d t.at)
while_taken speaks d t w =
    test_explained (Rest d t) d (λ c. Want (TextWanted.Statement (suc d)) (λ s. Give (statement (stmt t.at (node.While c (as_statement s))))))
    (λ p q us c hp a hq. last_statement (λ ts f r. Rest d t (p ∷ (us ++ q ∷ ts)) f r) speaks (λ s. statement (stmt t.at (node.While c s))) (suc d)
    (λ s vs rest m. body p q us c hp a hq m))
  where
    body : (p q : Placed) (us : List Placed) (c : Expr) → IsPunctuator d "(" p → Assignment (suc d) us c → IsPunctuator d ")" q
        → {s : Stmt} {vs : List Placed} {rest : List Token} → IsStatement (suc d) s vs rest
        → Rest d t (p ∷ (us ++ q ∷ vs)) (statement (stmt t.at (node.While c s))) rest
    body p q us c hp a hq (IsStatement.it_is st fits) = Made.it_is (IsStatement.it_is (Statement.while w hp a hq st) fits)

do_taken : {n : ℕ} → Speaks n → (d : ℕ) (t : Token) → IsKeyword d "do" (placed_at d t) → Spoken n d t (do_statement d t.at)
do_taken {n} speaks d t w =
    text_want (Rest d t) (λ s. keyword (codes "while") d (test_then d (λ c. simple d t.at (node.DoWhile (as_statement s) c))))
    (TextWanted.Statement (suc d)) (speaks.statement_so (suc d)) (λ s us rest m. behind_body m)
  where
    behind_body : {s : Stmt} {us : List Placed} {rest : List Token} → IsStatement (suc d) s us rest
        → Explains n (From us (Rest d t)) (keyword (codes "while") d (test_then d (λ c. simple d t.at (node.DoWhile s c))))
    behind_body {s} {us} (IsStatement.it_is st fits) =
        text_word (From us (Rest d t)) (λ x hx.
        test_explained (From (x ∷ []) (From us (Rest d t))) d (λ c. simple d t.at (node.DoWhile s c)) (λ p q vs c hp a hq.
        text_word (λ ts f r. Rest d t (us ++ (x ∷ p ∷ (vs ++ q ∷ ts))) f r)
        (λ y hy. gives (λ rest. Made.it_is (IsStatement.it_is (Statement.do_while w st hx hp a hq hy) tt)))))

for_taken : {n : ℕ} → Speaks n → (d : ℕ) (t : Token) → IsKeyword d "for" (placed_at d t) → Spoken n d t (for_statement d t.at)
for_taken speaks d t w =
    text_word (Rest d t) (λ p hp.
    text_want (From (p ∷ []) (Rest d t)) _ (TextWanted.First (suc d)) (speaks.first_so (suc d)) (λ before us rest f.
    text_want (λ ts f r. Rest d t (p ∷ (us ++ ts)) f r) _ (TextWanted.Optional (suc d)) (speaks.optional_so (suc d)) (λ c vs rest o.
    text_word (λ ts f r. Rest d t (p ∷ (us ++ (vs ++ ts))) f r) (λ s hs.
    text_want (λ ts f r. Rest d t (p ∷ (us ++ (vs ++ (s ∷ ts)))) f r) _ (TextWanted.Optional (suc d)) (speaks.optional_so (suc d)) (λ e ws rest x.
    text_word (λ ts f r. Rest d t (p ∷ (us ++ (vs ++ (s ∷ (ws ++ ts))))) f r) (λ q hq.
    last_statement (λ ts f r. Rest d t (p ∷ (us ++ (vs ++ (s ∷ (ws ++ (q ∷ ts)))))) f r) speaks (λ b. statement (stmt t.at (node.For before c e b))) (suc d)
    (λ b xs rest m. body p hp f o hs x hq m)))))))
  where
    body : (p : Placed) → IsPunctuator d "(" p → {before : List Stmt} {us : List Placed} → First (suc d) us before
        → {c : Option Expr} {vs : List Placed} → Optional (suc d) vs c → {s : Placed} → IsPunctuator (suc d) ";" s
        → {e : Option Expr} {ws : List Placed} → Optional (suc d) ws e → {q : Placed} → IsPunctuator d ")" q
        → {b : Stmt} {xs : List Placed} {rest : List Token} → IsStatement (suc d) b xs rest
        → Rest d t (p ∷ (us ++ (vs ++ (s ∷ (ws ++ (q ∷ xs)))))) (statement (stmt t.at (node.For before c e b))) rest
    body p hp f o hs x hq (IsStatement.it_is st fits) = Made.it_is (IsStatement.it_is (Statement.for w hp f o hs x hq st) fits)

return_taken : {n : ℕ} → Speaks n → (d : ℕ) (t : Token) → IsKeyword d "return" (placed_at d t)
    → Spoken n d t (Want (TextWanted.Optional d) (λ e. simple d t.at (returned (as_optional e))))
return_taken {n} speaks d t w =
    text_want (Rest d t) (λ e. simple d t.at (returned (as_optional e))) (TextWanted.Optional d) (speaks.optional_so d) (λ o us rest m. by_value m)
  where
    by_value : {o : Option Expr} {us : List Placed} → Optional d us o → Explains n (From us (Rest d t)) (simple d t.at (returned o))
    by_value Optional.absent = text_word (Rest d t) (λ s hs. gives (λ rest. Made.it_is (IsStatement.it_is (Statement.return w hs) tt)))
    by_value (Optional.present {ts} a) =
        text_word (From ts (Rest d t)) (λ s hs. gives (λ rest. Made.it_is (IsStatement.it_is (Statement.return_value w a hs) tt)))

expression_taken : {n : ℕ} → Speaks n → (d : ℕ) (t : Token) → Each (Spoken n d t) (expression_statement d t)
expression_taken speaks d t =
    expr_begun (Rest d t) (λ e. simple d t.at (node.Evaluate e)) d t (λ us e a.
    text_word (From us (Rest d t)) (λ s hs. gives (λ rest. Made.it_is (IsStatement.it_is (Statement.evaluate a hs) tt))))

spoken_by : {n : ℕ} → Speaks n → (d : ℕ) (t : Token) (kind : TokenKind) → t.kind ≡ kind → Each (Spoken n d t) (statement_by kind d t)
spoken_by {n} speaks d t Keyword e =
    each_row (Spoken n d t) t.text (codes "if") _ _ (λ x. if_taken speaks d t (spelled_as Keyword d (codes "if") t e x))
    (each_row (Spoken n d t) t.text (codes "while") _ _ (λ x. while_taken speaks d t (spelled_as Keyword d (codes "while") t e x))
    (each_row (Spoken n d t) t.text (codes "do") _ _ (λ x. do_taken speaks d t (spelled_as Keyword d (codes "do") t e x))
    (each_row (Spoken n d t) t.text (codes "for") _ _ (λ x. for_taken speaks d t (spelled_as Keyword d (codes "for") t e x))
    (each_row (Spoken n d t) t.text (codes "break") _ _ (λ x. text_word (Rest d t) (λ s hs.
    gives (λ rest. Made.it_is (IsStatement.it_is (Statement.break (spelled_as Keyword d (codes "break") t e x) hs) tt))))
    (each_row (Spoken n d t) t.text (codes "continue") _ _ (λ x. text_word (Rest d t) (λ s hs.
    gives (λ rest. Made.it_is (IsStatement.it_is (Statement.continue (spelled_as Keyword d (codes "continue") t e x) hs) tt))))
    (each_row (Spoken n d t) t.text (codes "return") _ _ (λ x. return_taken speaks d t (spelled_as Keyword d (codes "return") t e x)) tt))))))
spoken_by {n} speaks d t LibraryWord e =
    each_row (Spoken n d t) t.text (codes "dsu_update") _ _ (λ x. text_word (Rest d t) (λ p hp. text_word (From (p ∷ []) (Rest d t)) (λ q hq.
    text_word (λ ts f r. Rest d t (p ∷ q ∷ ts) f r) (λ s hs.
    gives (λ rest. Made.it_is (IsStatement.it_is (Statement.update (spelled_as LibraryWord d (codes "dsu_update") t e x) hp hq hs) tt))))))
    (each_row (Spoken n d t) t.text (codes "dsu_tx") _ _ (λ x. text_word (Rest d t) (λ b hb.
    block_explained (From (b ∷ []) (Rest d t)) speaks d (λ ss end. Give (statement (stmt t.at (node.Transaction ss end)))) (λ us final ss i hf.
    gives (λ rest. Made.it_is (IsStatement.it_is (Statement.transaction (spelled_as LibraryWord d (codes "dsu_tx") t e x) hb i hf) tt)))))
    (expression_taken speaks d t))
spoken_by {n} speaks d t Punctuator e =
    each_row (Spoken n d t) t.text (codes "{") _ _ (λ x. block_explained (Rest d t) speaks d (λ ss end. Give (statement (stmt t.at (node.Block ss)))) (λ us final ss i hf.
    gives (λ rest. Made.it_is (IsStatement.it_is (Statement.block (spelled_as Punctuator d (codes "{") t e x) i hf) tt))))
    (each_row (Spoken n d t) t.text (codes ";") _ _ (λ x.
    gives (λ rest. Made.it_is (IsStatement.it_is (Statement.empty (spelled_as Punctuator d (codes ";") t e x)) tt)))
    (expression_taken speaks d t))
spoken_by {n} speaks d t Identifier e = expression_taken speaks d t
spoken_by {n} speaks d t Number e = expression_taken speaks d t
spoken_by {n} speaks d t Character e = expression_taken speaks d t
spoken_by {n} speaks d t Str e = expression_taken speaks d t

pub statement_taken : {n : ℕ} → Speaks n → (d : ℕ) (t : Token) → Each (Spoken n d t) (statement_plan d t)
statement_taken speaks d t = spoken_by speaks d t t.kind refl

-- a declaration after its type
declaration_explained : {n : ℕ} (Q : Meaning) → Declares n → (d : ℕ) (t : CType) (k : List Declaration → TextPlan)
    → ((us : List Placed) (s : Placed) (ds : List Declaration) → Declarators d t (Variable d t) us ds → IsPunctuator d ";" s
    → Explains n (From (us ++ s ∷ []) Q) (k ds))
    → Explains n Q (declaration_behind d t k)
declaration_explained Q fits d t k g =
    variables_explained Q fits d t (λ ds. punctuator (codes ";") d (k ds))
    (λ us ds x. text_word (From us Q) (λ s hs. regroup Q us (s ∷ []) (g us s ds x hs)))

-- after the first token of an item of a block
abbrev InBlock : ℕ → Token → Meaning
InBlock d t = From (placed_at d t ∷ []) (Made statements (λ ss ts r. Items d ts ss))

pub items_taken : {n : ℕ} → Speaks n → (d : ℕ) (t : Token) → Each (λ p. Explains n (InBlock d t) p) (text_takes (TextWanted.Items d) t)
items_taken {n} speaks d t =
    each_if (λ p. Explains n (InBlock d t) p) (begins_type t) _ _
    (λ h. type_begun (InBlock d t) (λ ty. declaration_behind d ty (λ ds. Want (TextWanted.Items d) (λ ss.
    Give (statements (declares t.at ds ++ as_statements ss))))) d t
    (λ us ty x. declaration_explained (From us (InBlock d t)) speaks.declares_so d ty (λ ds. Want (TextWanted.Items d) (λ ss.
    Give (statements (declares t.at ds ++ as_statements ss))))
    (λ vs s ds y hs. regroup (InBlock d t) us (vs ++ s ∷ [])
    (text_want (From (us ++ (vs ++ s ∷ [])) (InBlock d t)) (λ ss. Give (statements (declares t.at ds ++ as_statements ss)))
    (TextWanted.Items d) (speaks.items_so d)
    (λ ss ws rest i. gives (λ rest. rw append-nil (Made.it_is (Items.declaration (Variables.declaration x y hs) i))))))))
    (λ h. each_mapped (Spoken n d t) (λ p. Explains n (InBlock d t) p)
    (λ p. then_text p (λ s. Want (TextWanted.Items d) (λ ss. Give (statements (as_statement s ∷ as_statements ss))))) (statement_plan d t)
    (statement_taken speaks d t) (λ p s. explains_then s (λ us f rest m. behind_statement m)))
  where
    behind_statement : {us : List Placed} {f : Found} {rest : List Token} → Rest d t us f rest
        → Explains n (From us (InBlock d t)) (Want (TextWanted.Items d) (λ ss. Give (statements (as_statement f ∷ as_statements ss))))
    behind_statement {us} m = by_meaning m refl
      where
        by_meaning : {all : List Placed} {f : Found} {rest : List Token} → Made statement (λ s ts r. IsStatement d s ts r) all f rest
            → all ≡ placed_at d t ∷ us
            → Explains n (From us (InBlock d t)) (Want (TextWanted.Items d) (λ ss. Give (statements (as_statement f ∷ as_statements ss))))
        by_meaning (Made.it_is {a = s} (IsStatement.it_is {ending} st fits)) e =
            text_want (From us (InBlock d t)) (λ ss. Give (statements (s ∷ as_statements ss))) (TextWanted.Items d) (speaks.items_so d)
            (λ ss ws rest i. gives (λ rest. rw append-nil (Made.it_is (Items.statement (subst (λ l. Statement ending d l s) e st) i))))

-- and of the first part of a `for`
abbrev InFirst : ℕ → Token → Meaning
InFirst d t = From (placed_at d t ∷ []) (Made statements (λ ss ts r. First d ts ss))

pub first_taken : {n : ℕ} → Speaks n → (d : ℕ) (t : Token) → Each (λ p. Explains n (InFirst d t) p) (text_takes (TextWanted.First d) t)
first_taken {n} speaks d t =
    each_if (λ p. Explains n (InFirst d t) p) (begins_type t) _ _
    (λ h. type_begun (InFirst d t) (λ ty. declaration_behind d ty (λ ds. Give (statements (declares t.at ds)))) d t
    (λ us ty x. declaration_explained (From us (InFirst d t)) speaks.declares_so d ty (λ ds. Give (statements (declares t.at ds)))
    (λ vs s ds y hs. regroup (InFirst d t) us (vs ++ s ∷ [])
    (gives (λ rest. rw append-nil (Made.it_is (First.declaration (Variables.declaration x y hs))))))))
    (λ h. each_if (λ p. Explains n (InFirst d t) p) (is Punctuator (codes ";") t) _ _
    (λ m. gives (λ rest. Made.it_is (First.nothing (spelled_at Punctuator d (codes ";") t m))))
    (λ m. expr_begun (InFirst d t) (λ e. punctuator (codes ";") d (Give (statements (stmt t.at (node.Evaluate e) ∷ [])))) d t
    (λ us e a. text_word (From us (InFirst d t)) (λ s hs. gives (λ rest. Made.it_is (First.expression a hs))))))

pub optional_taken : (n d : ℕ) (t : Token)
    → Each (λ p. Explains n (From (placed_at d t ∷ []) (Made optional (λ o ts r. Optional d ts o))) p) (text_takes (TextWanted.Optional d) t)
optional_taken n d t =
    expr_begun (From (placed_at d t ∷ []) (Made optional (λ o ts r. Optional d ts o))) (λ e. Give (optional (Some e))) d t
    (λ us e a. gives (λ rest. rw append-nil (Made.it_is (Optional.present a))))
