-- The walk reads what is a statement.
use Rattle.std.specs.Prelude.{◌≡◌, ℕ, suc, Bool, false, IsTrue, List, [], ◌∷◌, ◌++◌, Option, Some, None, codes}
use Rattle.std.proofs.Common.{refl, ap, sym, subst, ◌∙◌}
use Rattle.std.proofs.lemmas.Bool.{false≢true}
use Rattle.c_lexer.specs.declared.token.Token.{Token}
use Rattle.c_lexer.specs.declared.token.TokenKind.{TokenKind}
use Rattle.c_lexer.specs.declared.token.TokenKind.TheVariants.{Identifier, Keyword, LibraryWord, Number, Character, Str, Punctuator}
use Rattle.c_tree.specs.declared.expr.Expr.{Expr}
use Rattle.c_tree.specs.declared.stmt.Declaration.{Declaration}
use Rattle.c_tree.specs.declared.stmt.Stmt.{Stmt}
use Rattle.c_tree.specs.declared.stmt.StmtNode.TheVariants as node
use Rattle.c_expr_parser.specs.Placed.{Placed, tokens, start, at}
use Rattle.c_expr_parser.specs.Terminals.{Spells, IsPunctuator}
use Rattle.c_expr_parser.specs.TypeNames.{integer_words}
use Rattle.c_expr_parser.specs.Declarations.{Variables}
use Rattle.c_expr_parser.specs.Statements.{stmt, declares, Ending, dangling, complete, Optional, First, Statement, Items}
use Rattle.c_expr_parser.specs.Tables.{begins_type}
use Rattle.c_expr_parser.proofs.Beginnings.{Opens, opens, type_opens, statement_opens, begins_expression, begins_statement}
use Rattle.c_expr_parser.proofs.Beginnings
use Rattle.c_expr_parser.proofs.CompleteTokens.{token_of}
use Rattle.c_expr_parser.proofs.CompleteEnds.{Closing, closes}
use Rattle.c_expr_parser.proofs.CompleteTypes.{no_type, is_type, begins_same}
use Rattle.c_parser.specs.TextPlans.{Found, TextWanted, TextPlan, TextTrace, then_text, text_takes, run_text, punctuator, keyword, simple, test_then, if_else, returned, as_place, as_optional, as_statement, as_statements, statement_by, statement_plan, expression_statement}
use Rattle.c_parser.specs.TextPlans.Found.{optional, statement, statements}
use Rattle.c_parser.specs.TextPlans.TextPlan.{Give, Want}
use Rattle.c_parser.specs.TextPlans.TextWanted.{Place, Else}
use Rattle.c_parser.specs.TextPlans.TextTrace.{Next, Stopped}
use Rattle.c_parser.proofs.JoinedTraces.{then_then, nexts}
use Rattle.c_parser.proofs.CompletePlans.{Goes, Passes, at_token, at_none, stays, spelled, and_then, passing, skipped, expression}
use Rattle.c_parser.proofs.CompleteTokens.{word, closing, refuses, opens_before, apart, none_of, is_other, from_expression}
use Rattle.c_parser.proofs.CompleteDeclarations.{declaration_walk}

-- what may come after a statement by how it ends
abbrev pub Fits : Ending → List Token → Type 0
Fits dangling rest = (d : ℕ) → Passes (Else d) rest
Fits complete rest = Unit {0}

fits : (rest : List Token) (ending : Ending) → ((d : ℕ) → Passes (Else d) rest) → Fits ending rest
fits rest dangling f = f
fits rest complete f = tt

-- a token that begins an expression begins an expression statement
by_kind : (kind : TokenKind) (d : ℕ) (t : Token) → IsTrue (begins_expression kind t.text) → statement_by kind d t ≡ expression_statement d t
by_kind Identifier d t h = refl
by_kind Keyword d t h = absurd (false≢true h)
by_kind LibraryWord d t h =
    rw (apart (begins_expression LibraryWord) t.text (codes "dsu_update") refl h, apart (begins_expression LibraryWord) t.text (codes "dsu_tx") refl h) refl
by_kind Number d t h = refl
by_kind Character d t h = refl
by_kind Str d t h = refl
by_kind Punctuator d t h =
    rw (apart (begins_expression Punctuator) t.text (codes "{") refl h, apart (begins_expression Punctuator) t.text (codes ";") refl h) refl

-- a statement begins with no type
type_kind : (kind : TokenKind) (spelling : List ℕ) → IsTrue (begins_statement kind spelling) → Beginnings.begins_type kind spelling ≡ false
type_kind Identifier s h = refl
type_kind Keyword s h =
    none_of (begins_statement Keyword) s (codes "struct" ∷ integer_words) (refl, (refl, (refl, (refl, (refl, (refl, (refl, tt))))))) h
type_kind LibraryWord s h = none_of (begins_statement LibraryWord) s (codes "thrd_t" ∷ []) (refl, tt) h
type_kind Number s h = refl
type_kind Character s h = refl
type_kind Str s h = refl
type_kind Punctuator s h = refl

begins_no_type : (t : Token) → IsTrue (begins_statement t.kind t.text) → begins_type t ≡ false
begins_no_type t h = begins_same t.kind t.at t.len t.text ∙ type_kind t.kind t.text h

-- a statement in a block
abbrev items_then : ℕ → (Found → TextPlan) → Found → TextPlan
items_then d k s = Want (TextWanted.Items d) (λ ss. k (statements (as_statement s ∷ as_statements ss)))

items_same : (d : ℕ) (k : Found → TextPlan) (t : Token) (ts : List Token) (u : Placed) (more : TextTrace) → begins_type t ≡ false
    → run_text (t ∷ ts) (Want (TextWanted.Statement d) (items_then d k)) ≡ Next u more
    → run_text (t ∷ ts) (Want (TextWanted.Items d) k) ≡ run_text (t ∷ ts) (Want (TextWanted.Statement d) (items_then d k))
items_same d k t ts u more b goes = by_plan (statement_plan d t) refl
  where
    by_plan : (o : Option TextPlan) → statement_plan d t ≡ o
        → run_text (t ∷ ts) (Want (TextWanted.Items d) k) ≡ run_text (t ∷ ts) (Want (TextWanted.Statement d) (items_then d k))
    by_plan None e =
        let stopped : Stopped (t ∷ ts) ≡ Next u more = sym (at_none (TextWanted.Statement d) t ts (items_then d k) e refl) ∙ goes in
        absurd (cc)
    by_plan (Some p) e =
        at_token (TextWanted.Items d) t ts k (then_text p (items_then d Give)) (rw (b, e) refl)
        ∙ (ap (λ q. Next (record { token = t; depth = d }) (run_text ts q)) (then_then p (items_then d Give) k)
        ∙ sym (at_token (TextWanted.Statement d) t ts (items_then d k) p e))

item_statement : {d : ℕ} {ts : List Placed} {rest : List Token} {target : TextPlan} (k : Found → TextPlan)
    → Opens begins_statement d ts → Goes ts rest (Want (TextWanted.Statement d) (items_then d k)) target
    → Goes ts rest (Want (TextWanted.Items d) k) target
item_statement {d} {rest = rest} {target} k o =
    subst (λ ts. Goes ts rest (Want (TextWanted.Statement d) (items_then d k)) target → Goes ts rest (Want (TextWanted.Items d) k) target)
    (sym o.are)
    (λ g. record {
      carried = items_same d k o.first.token (tokens o.rest ++ rest) o.first (nexts o.rest (run_text rest target))
          (begins_no_type o.first.token o.begins) g.carried ∙ g.carried;
    })

-- neither a declaration nor a statement begins with `else`
no_else : {test : TokenKind → List ℕ → Bool} {d : ℕ} {ts : List Placed} → Opens test d ts → test Keyword (codes "else") ≡ false
    → (more : List Placed) (rest : List Token) (e : ℕ) → Passes (Else e) (tokens (ts ++ more) ++ rest)
no_else {test} o none more rest e =
    subst (λ ts. Passes (Else e) (tokens (ts ++ more) ++ rest)) (sym o.are)
    (rw (is_other test Keyword (codes "else") o.first.token none o.begins) refl)

variables_open : {d : ℕ} {ts : List Placed} {ds : List Declaration} → Variables d ts ds → Opens Beginnings.begins_type d ts
variables_open (Variables.declaration ty vs s) = opens_before (type_opens ty) _

items_fit : {d e : ℕ} {ts : List Placed} {ss : List Stmt} {brace : Placed} → Items d ts ss → IsPunctuator e "}" brace → (rest : List Token)
    → (f : ℕ) → Passes (Else f) (tokens ts ++ brace.token ∷ rest)
items_fit Items.none s rest f = refuses (Else f) s refl
items_fit (Items.declaration {rest = others} vs is) s rest f = no_else (variables_open vs) refl others _ f
items_fit (Items.statement {rest = others} st is) s rest f = no_else (statement_opens st) refl others _ f

-- an optional expression before a punctuator that ends it
closing_optional : {spelling : List ℕ} → Closing spelling → (d place many : ℕ)
    → text_takes (TextWanted.Optional d) (token_of Punctuator place many spelling) ≡ None
closing_optional Closing.paren d p m = refl
closing_optional _ d p m = refl

optional_walk : {d f : ℕ} {ts : List Placed} {e : Option Expr} {spelling : List ℕ} {u : Placed} → Optional d ts e → Closing spelling
    → Spells Punctuator f spelling u → (rest : List Token) (k : Found → TextPlan)
    → Goes ts (u.token ∷ rest) (Want (TextWanted.Optional d) k) (k (optional e))
optional_walk {d} {u = u} Optional.absent c s rest k =
    passing refl (refuses (TextWanted.Optional d) s (closing_optional c d (at u) u.token.len)) stays
optional_walk {d} (Optional.present a) c s rest k =
    from_expression (TextWanted.Optional d) (λ p e. Give (optional (Some e))) k a (closes c s rest) (λ t h. refl) refl

first_walk : {d : ℕ} {ts : List Placed} {ss : List Stmt} → First d ts ss → (rest : List Token) (k : Found → TextPlan)
    → Goes ts rest (Want (TextWanted.First d) k) (k (statements ss))
first_walk {d} (First.declaration vs) rest k =
    declaration_walk (TextWanted.First d) (λ place ds. Give (statements (declares place ds))) k rest vs (λ u h. rw (is_type u h) refl) refl
first_walk {d} (First.expression {ts} {semicolon} {e} a s) rest k =
    and_then
    (from_expression (TextWanted.First d) (λ place e. punctuator (codes ";") d (Give (statements (stmt place (node.Evaluate e) ∷ [])))) k a
    (closes Closing.semicolon s rest) (λ t h. rw (no_type t h, is_other begins_expression Punctuator (codes ";") t refl h) refl) refl)
    (word s stays)
first_walk {d} (First.nothing s) rest k = spelled {w = TextWanted.First d} s refl refl stays

mutual
  pub statement_walk : {ending : Ending} {d : ℕ} {ts : List Placed} {s : Stmt} → Statement ending d ts s → (rest : List Token)
      → Fits ending rest → (k : Found → TextPlan) → Goes ts rest (Want (TextWanted.Statement d) k) (k (statement s))
  statement_walk (Statement.block {d} {brace} {ss = held} b is e) rest ends k =
      spelled {w = TextWanted.Statement d} b refl refl
      (and_then (items_walk is e rest (λ ss. Want (Place (codes "}") d) (λ end. k (statement (stmt (at brace) (node.Block (as_statements ss)))))))
      (closing (λ end. k (statement (stmt (at brace) (node.Block held)))) e stays))
  statement_walk (Statement.empty {d} s) rest ends k = spelled {w = TextWanted.Statement d} s refl refl stays
  statement_walk (Statement.evaluate {d} {ts} {semicolon} {e} a s) rest ends k =
      and_then
      (from_expression (TextWanted.Statement d) (λ place e. simple d place (node.Evaluate e)) k a (closes Closing.semicolon s rest)
      (λ t h. by_kind t.kind d t h) refl)
      (word s stays)
  statement_walk (Statement.if_only {ending} {d} {word = first} {close} {body} {c} {s} w p a cl st) rest ends k =
      spelled {w = TextWanted.Statement d} w refl refl (word p
      (and_then (expression a (close.token ∷ (tokens body ++ rest)) (closes Closing.paren cl _)
      (λ c. punctuator (codes ")") d (Want (TextWanted.Statement (suc d)) (λ s. Want (Else d) (λ r. k (statement (stmt (at first) (if_else c (as_statement s) r))))))))
      (word cl
      (skipped (statement_walk st rest (fits rest ending ends) (λ s. Want (Else d) (λ r. k (statement (stmt (at first) (if_else c (as_statement s) r))))))
      refl (ends d)))))
  statement_walk (Statement.if_else {ending} {d} {word = begin} {close} {other} {first} {second} {c} {s} {r} w p a cl st el sr) rest ends k =
      spelled {w = TextWanted.Statement d} w refl refl (word p
      (and_then (expression a (close.token ∷ (tokens (first ++ other ∷ second) ++ rest)) (closes Closing.paren cl _)
      (λ c. punctuator (codes ")") d (Want (TextWanted.Statement (suc d)) (λ s. Want (Else d) (λ r. k (statement (stmt (at begin) (if_else c (as_statement s) r))))))))
      (word cl
      (and_then (statement_walk st (other.token ∷ (tokens second ++ rest)) tt (λ s. Want (Else d) (λ r. k (statement (stmt (at begin) (if_else c (as_statement s) r))))))
      (spelled {w = Else d} el refl refl
      (statement_walk sr rest ends (λ r. k (statement (stmt (at begin) (if_else c s r))))))))))
  statement_walk (Statement.while {ending} {d} {word = first} {close} {body} {c} w p a cl st) rest ends k =
      spelled {w = TextWanted.Statement d} w refl refl (word p
      (and_then (expression a (close.token ∷ (tokens body ++ rest)) (closes Closing.paren cl _)
      (λ c. punctuator (codes ")") d (Want (TextWanted.Statement (suc d)) (λ s. k (statement (stmt (at first) (node.While c (as_statement s))))))))
      (word cl (statement_walk st rest ends (λ s. k (statement (stmt (at first) (node.While c (as_statement s)))))))))
  statement_walk (Statement.do_while {ending} {d} {word = first} {again} {paren} {close} {semicolon} {body} {test} {c} {s} w st ag p a cl se) rest ends k =
      spelled {w = TextWanted.Statement d} w refl refl
      (and_then (statement_walk st (again.token ∷ (tokens (paren ∷ test ++ close ∷ semicolon ∷ []) ++ rest)) (fits _ ending (λ e. refuses (Else e) ag refl))
      (λ s. keyword (codes "while") d (test_then d (λ c. punctuator (codes ";") d (k (statement (stmt (at first) (node.DoWhile (as_statement s) c))))))))
      (word ag (word p
      (and_then (expression a (close.token ∷ (semicolon.token ∷ rest)) (closes Closing.paren cl _)
      (λ c. punctuator (codes ")") d (punctuator (codes ";") d (k (statement (stmt (at first) (node.DoWhile s c)))))))
      (word cl (word se stays))))))
  statement_walk (Statement.for {ending} {d} {word = begin} {paren} {semicolon} {close} {first} {test} {step} {body} {before} {c} {e} {s} w p f t se x cl st) rest ends k =
      spelled {w = TextWanted.Statement d} w refl refl (word p
      (and_then (first_walk f (tokens (test ++ (semicolon ∷ step ++ close ∷ body)) ++ rest)
      (λ before. Want (TextWanted.Optional (suc d)) (λ c. punctuator (codes ";") (suc d) (Want (TextWanted.Optional (suc d)) (λ e. punctuator (codes ")") d
      (Want (TextWanted.Statement (suc d)) (λ s. k (statement (stmt (at begin) (node.For (as_statements before) (as_optional c) (as_optional e) (as_statement s)))))))))))
      (and_then (optional_walk t Closing.semicolon se (tokens (step ++ close ∷ body) ++ rest)
      (λ c. punctuator (codes ";") (suc d) (Want (TextWanted.Optional (suc d)) (λ e. punctuator (codes ")") d
      (Want (TextWanted.Statement (suc d)) (λ s. k (statement (stmt (at begin) (node.For before (as_optional c) (as_optional e) (as_statement s))))))))))
      (word se
      (and_then (optional_walk x Closing.paren cl (tokens body ++ rest)
      (λ e. punctuator (codes ")") d (Want (TextWanted.Statement (suc d)) (λ s. k (statement (stmt (at begin) (node.For before c (as_optional e) (as_statement s))))))))
      (word cl (statement_walk st rest ends (λ s. k (statement (stmt (at begin) (node.For before c e (as_statement s))))))))))))
  statement_walk (Statement.break {d} w s) rest ends k = spelled {w = TextWanted.Statement d} w refl refl (word s stays)
  statement_walk (Statement.continue {d} w s) rest ends k = spelled {w = TextWanted.Statement d} w refl refl (word s stays)
  statement_walk (Statement.return {d} w s) rest ends k =
      spelled {w = TextWanted.Statement d} w refl refl (passing refl (refuses (TextWanted.Optional d) s refl) (word s stays))
  statement_walk (Statement.return_value {d} {word = first} {e} w a s) rest ends k =
      spelled {w = TextWanted.Statement d} w refl refl
      (and_then (optional_walk (Optional.present a) Closing.semicolon s rest
      (λ e. punctuator (codes ";") d (k (statement (stmt (at first) (returned (as_optional e)))))))
      (word s stays))
  statement_walk (Statement.update {d} w p c s) rest ends k =
      spelled {w = TextWanted.Statement d} w refl refl (word p (word c (word s stays)))
  statement_walk (Statement.transaction {d} {word = first} {ss} w b is e) rest ends k =
      spelled {w = TextWanted.Statement d} w refl refl (word b
      (and_then (items_walk is e rest (λ ss. Want (Place (codes "}") d) (λ end. k (statement (stmt (at first) (node.Transaction (as_statements ss) (as_place end)))))))
      (closing (λ end. k (statement (stmt (at first) (node.Transaction ss (as_place end))))) e stays)))

  pub items_walk : {d e : ℕ} {ts : List Placed} {ss : List Stmt} {brace : Placed} → Items d ts ss → IsPunctuator e "}" brace
      → (rest : List Token) (k : Found → TextPlan)
      → Goes ts (brace.token ∷ rest) (Want (TextWanted.Items d) k) (k (statements ss))
  items_walk (Items.none {d}) b rest k = passing refl (refuses (TextWanted.Items d) b refl) stays
  items_walk {brace = brace} (Items.declaration {d} {ts} {rest = others} {declared} {ss} vs is) b rest k =
      and_then
      (declaration_walk (TextWanted.Items d) (λ place ds. Want (TextWanted.Items d) (λ ss. Give (statements (declares place ds ++ as_statements ss)))) k
      (tokens others ++ brace.token ∷ rest) vs (λ u h. rw (is_type u h) refl) refl)
      (items_walk is b rest (λ ss. k (statements (declares (start ts) declared ++ as_statements ss))))
  items_walk {brace = brace} (Items.statement {ending} {d} {ts} {rest = others} {s} {ss} st is) b rest k =
      and_then
      (item_statement k (statement_opens st)
      (statement_walk st (tokens others ++ brace.token ∷ rest) (fits _ ending (items_fit is b rest)) (items_then d k)))
      (items_walk is b rest (λ ss. k (statements (s ∷ as_statements ss))))
