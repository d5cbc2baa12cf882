-- The walk reads globals and their initialisers, and the updates of a transformer.
use Rattle.std.specs.Prelude.{◌≡◌, ℕ, List, [], ◌∷◌, ◌++◌, Some, None, codes}
use Rattle.std.proofs.Common.{refl, ap, sym, subst, append-nil}
use Rattle.c_ints.specs.declared.int.Int.{Int}
use Rattle.c_lexer.specs.declared.token.Token.{Token}
use Rattle.c_lexer.specs.declared.token.TokenKind.TheVariants.{Punctuator}
use Rattle.c_tree.specs.declared.name.CType.{CType}
use Rattle.c_tree.specs.declared.name.Name.{Name}
use Rattle.c_tree.specs.declared.expr.Expr.{Expr}
use Rattle.c_tree.specs.declared.def.FieldValue.{FieldValue}
use Rattle.c_tree.specs.declared.def.DefKind.{DefKind}
use Rattle.c_tree.specs.declared.def.DefKind.TheVariants as kind
use Rattle.c_expr_parser.specs.Placed.{Placed, tokens, at}
use Rattle.c_expr_parser.specs.Terminals.{Spells, IsPunctuator, IsIdentifier, IsNumber, name}
use Rattle.c_expr_parser.specs.Expressions.{Conditional}
use Rattle.c_expr_parser.specs.Declarations.{Commas, Declarators}
use Rattle.c_expr_parser.specs.Definitions.{defs, TrailingComma, GlobalDeclarator, Updates}
use Rattle.c_expr_parser.proofs.CompletePlans.{tokens_append}
use Rattle.c_expr_parser.proofs.CompleteTokens.{token_of, constant_is}
use Rattle.c_expr_parser.proofs.CompleteEnds.{EndsExpression, Closing, closes}
use Rattle.c_expr_parser.proofs.CompleteTypes.{EndsType}
use Rattle.c_parser.specs.TextPlans.{Found, TextWanted, TextPlan, then_text, text_takes, punctuator, name_then, conditional_then, as_values, as_length, as_listed, as_global, as_globals, as_updates, globals_by}
use Rattle.c_parser.specs.TextPlans.Found.{numbered, values, global, globals, updates, made}
use Rattle.c_parser.specs.TextPlans.TextPlan.{Give, Want}
use Rattle.c_parser.specs.TextPlans.TextWanted.{ArrayLength, MoreValues, AfterComma, ArrayInitial, Global, MoreGlobals, Function}
use Rattle.c_parser.proofs.CompletePlans.{Goes, Passes, stays, taken, spelled, and_then, passing, skipped, to, conditional_part}
use Rattle.c_parser.proofs.CompleteTokens.{word, naming, refuses, type_before_name, from_conditional}
use Rattle.c_parser.proofs.CompleteDeclarations.{starred}

-- initialisers after a comma, and from the first on
comma_values : {d : ℕ} {ts : List Placed} {es : List Expr} → Commas d (Conditional d) ts es → (rest : List Token)
    → EndsExpression rest → (k : List Expr → TextPlan)
    → Goes ts rest (Want (AfterComma d) (λ f. k (as_values f))) (Want (MoreValues d) (λ more. k (es ++ as_values more)))
comma_values {d} (Commas.last c) rest ends k =
    from_conditional (AfterComma d) (λ e. Want (MoreValues d) (λ more. Give (values (e ∷ as_values more)))) (λ f. k (as_values f)) c ends
    (λ t h. refl) refl
comma_values {d} (Commas.more {a = e} c comma cs) rest ends k =
    and_then
    (from_conditional (AfterComma d) (λ e. Want (MoreValues d) (λ more. Give (values (e ∷ as_values more)))) (λ f. k (as_values f)) c
    (closes Closing.comma comma _) (λ t h. refl) refl)
    (spelled {w = MoreValues d} comma refl refl (comma_values cs rest ends (λ es. k (e ∷ es))))

values_walk : {d : ℕ} {ts : List Placed} {es : List Expr} → Commas d (Conditional d) ts es → (rest : List Token)
    → EndsExpression rest → (k : List Expr → TextPlan)
    → Goes ts rest (conditional_then d (λ e. Want (MoreValues d) (λ more. k (e ∷ as_values more))))
    (Want (MoreValues d) (λ more. k (es ++ as_values more)))
values_walk {d} (Commas.last c) rest ends k =
    conditional_part c rest ends (λ e. Want (MoreValues d) (λ more. k (e ∷ as_values more)))
values_walk {d} (Commas.more {rest = others} {comma} {a = e} c s cs) rest ends k =
    and_then
    (conditional_part c (comma.token ∷ (tokens others ++ rest)) (closes Closing.comma s _) (λ e. Want (MoreValues d) (λ more. k (e ∷ as_values more))))
    (spelled {w = MoreValues d} s refl refl (comma_values cs rest ends (λ es. k (e ∷ es))))

-- a comma after them, or nothing
trailing_closes : {d e : ℕ} {ts : List Placed} {final : Placed} → TrailingComma d ts → IsPunctuator e "}" final → (rest : List Token)
    → EndsExpression (tokens ts ++ final.token ∷ rest)
trailing_closes TrailingComma.absent s rest = closes Closing.brace s rest
trailing_closes (TrailingComma.present c) s rest = closes Closing.comma c _

trailing_walk : {d e : ℕ} {ts : List Placed} {final : Placed} → TrailingComma d ts → IsPunctuator e "}" final → (rest : List Token)
    → (k : Found → TextPlan) → Goes ts (final.token ∷ rest) (Want (MoreValues d) k) (k (values []))
trailing_walk {d} TrailingComma.absent s rest k = passing refl (refuses (MoreValues d) s refl) stays
trailing_walk {d} (TrailingComma.present c) s rest k =
    spelled {w = MoreValues d} c refl refl (passing refl (refuses (AfterComma d) s refl) stays)

-- punctuators that end a global
abbrev Separates : List ℕ → Type 0
Separates spelling =
    ((place many : ℕ) (t : CType) (name : Name) → text_takes (Global t name) (token_of Punctuator place many spelling) ≡ None)
    × ((place many : ℕ) → text_takes ArrayInitial (token_of Punctuator place many spelling) ≡ None)
    × ((place many begin : ℕ) (t : CType) (name : Name) → text_takes (Function begin (Some t) name) (token_of Punctuator place many spelling) ≡ None)

comma_separates : Separates (codes ",")
comma_separates = (λ p m t n. refl, λ p m. refl, λ p m b t n. refl)

semicolon_separates : Separates (codes ";")
semicolon_separates = (λ p m t n. refl, λ p m. refl, λ p m b t n. refl)

-- a global by its name and what follows it
record Tail (t : CType) (ts : List Placed) (g : DefKind) (rest : List Token) : Type 0 where
  pub named : Placed
  pub more : List Placed
  pub are : ts ≡ named ∷ more
  pub is : IsIdentifier 0 named
  pub no_function : (begin : ℕ) → Passes (Function begin (Some t) (name named)) (tokens more ++ rest)
  pub goes : (k : Found → TextPlan) → Goes more rest (Want (Global t (name named)) k) (k (global g))

number_walk : {d : ℕ} {length : Int} {t : Placed} {ts : List Placed} {rest : List Token} {q : TextPlan} (k : Found → TextPlan)
    → IsNumber d length t → Goes ts rest (k (numbered (record { place = at t; value = length }))) q
    → Goes (t ∷ ts) rest (Want (ArrayLength d) k) q
number_walk {length = length} {t} k n r =
    taken {p = Give (numbered (record { place = at t; value = length }))} (rw (n.sort, constant_is n.constant) refl) n.stands r

tail_of : {t : CType} {ts : List Placed} {g : DefKind} {e : ℕ} {spelling : List ℕ} {u : Placed} → GlobalDeclarator t ts g
    → Separates spelling → Closing spelling → Spells Punctuator e spelling u → (rest : List Token) → Tail t ts g (u.token ∷ rest)
tail_of {t} {u = u} (GlobalDeclarator.plain {global = first} id) p c s rest = record {
  named = first;
  more = [];
  are = refl;
  is = id;
  no_function = λ b. refuses (Function b (Some t) (name first)) s (p.2 (at u) u.token.len b t (name first));
  goes = λ k. passing refl (refuses (Global t (name first)) s (p.0 (at u) u.token.len t (name first))) stays;
}
tail_of {t} {u = u} (GlobalDeclarator.initialised {global = first} {sign} {ts} {e} id eq a) p c s rest = record {
  named = first;
  more = sign ∷ ts;
  are = refl;
  is = id;
  no_function = λ b. refuses (Function b (Some t) (name first)) eq refl;
  goes = λ k. spelled {w = Global t (name first)} eq refl refl
      (conditional_part a (u.token ∷ rest) (closes c s rest)
      (λ e. k (global (kind.Global (record { declared = t; name = name first; initial = Some e })))));
}
tail_of {t} {u = u} (GlobalDeclarator.array {global = first} {bracket} {number} {close} {length} id b n cl) p c s rest = record {
  named = first;
  more = bracket ∷ number ∷ close ∷ [];
  are = refl;
  is = id;
  no_function = λ f. refuses (Function f (Some t) (name first)) b refl;
  goes = λ k. spelled {w = Global t (name first)} b refl refl
      (number_walk (λ n. punctuator (codes "]") 0 (Want ArrayInitial (λ es. k (global (kind.Array (record {
        element = t;
        name = name first;
        length = as_length n;
        initial = as_listed es;
      }))))))
      n
      (word cl (passing refl (refuses ArrayInitial s (p.1 (at u) u.token.len)) stays)));
}
tail_of {t} {u = u} (GlobalDeclarator.initialised_array {global = first} {bracket} {number} {close} {sign} {brace} {final} {ts} {trailing} {length} {es} id b n cl eq br cs tr f) p c s rest = record {
  named = first;
  more = bracket ∷ number ∷ close ∷ sign ∷ brace ∷ ts ++ (trailing ++ final ∷ []);
  are = refl;
  is = id;
  no_function = λ f. refuses (Function f (Some t) (name first)) b refl;
  goes = λ k. spelled {w = Global t (name first)} b refl refl
      (number_walk (λ n. punctuator (codes "]") 0 (Want ArrayInitial (λ es. k (global (kind.Array (record {
        element = t;
        name = name first;
        length = as_length n;
        initial = as_listed es;
      }))))))
      n
      (word cl
      (spelled {w = ArrayInitial} eq refl refl
      (word br (initialisers cs tr f (u.token ∷ rest) (λ es. k (global (kind.Array (record {
        element = t;
        name = name first;
        length = record { place = at number; value = length };
        initial = Some es;
      })))))))));
}
  where
    initialisers : {ts trailing : List Placed} {final : Placed} {es : List Expr} → Commas 1 (Conditional 1) ts es → TrailingComma 1 trailing
        → IsPunctuator 0 "}" final → (rest : List Token) (k : List Expr → TextPlan)
        → Goes (ts ++ (trailing ++ final ∷ [])) rest
        (conditional_then 1 (λ e. Want (MoreValues 1) (λ more. punctuator (codes "}") 0 (k (e ∷ as_values more))))) (k es)
    initialisers {ts} {trailing} {final} {es} cs tr f rest k =
        to (ap k (append-nil es))
        (and_then
        (values_walk cs (tokens (trailing ++ final ∷ []) ++ rest)
        (subst EndsExpression (sym (tokens_append trailing (final ∷ []) rest)) (trailing_closes tr f rest))
        (λ es. punctuator (codes "}") 0 (k es)))
        (and_then (trailing_walk tr f rest (λ more. punctuator (codes "}") 0 (k (es ++ as_values more)))) (word f stays)))

-- a global that isn't the first, and the first
further_global : {t : CType} {ts : List Placed} {g : DefKind} {rest : List Token} → Tail t ts g rest → (k : Found → TextPlan)
    → Goes ts rest (name_then 0 (λ name. Want (Global t name) k)) (k (global g))
further_global {t} {g = g} {rest} x k =
    subst (λ ts. Goes ts rest (name_then 0 (λ name. Want (Global t name) k)) (k (global g))) (sym x.are)
    (naming (λ name. Want (Global t name) k) x.is (x.goes k))

abbrev pub first_then : ℕ → CType → (Found → TextPlan) → TextPlan
first_then begin t k = name_then 0 (λ name. Want (Function begin (Some t) name) (λ f. then_text (globals_by begin t name f) k))

-- further globals, as many as follow
further_globals : {t : CType} {ts : List Placed} {gs : List DefKind} {semicolon : Placed} → Declarators 0 t (GlobalDeclarator t) ts gs
    → IsPunctuator 0 ";" semicolon → (rest : List Token) (k : List DefKind → TextPlan)
    → Goes ts (semicolon.token ∷ rest)
    (name_then 0 (λ name. Want (Global t name) (λ g. Want (MoreGlobals t) (λ more. k (as_global g ∷ as_globals more))))) (k gs)
further_globals {t} (Declarators.last g) s rest k =
    skipped (further_global (tail_of g semicolon_separates Closing.semicolon s rest) (λ g. Want (MoreGlobals t) (λ more. k (as_global g ∷ as_globals more))))
    refl (refuses (MoreGlobals t) s refl)
further_globals {t} {semicolon = semicolon} (Declarators.more {stars} {rest = others} {a = first} g c star gs) s rest k =
    and_then
    (further_global (tail_of g comma_separates Closing.comma c (tokens (stars ++ others) ++ semicolon.token ∷ rest))
    (λ g. Want (MoreGlobals t) (λ more. k (as_global g ∷ as_globals more))))
    (spelled {w = MoreGlobals t} c refl refl
    (starred (name_then 0 (λ name. Want (Global t name) (λ g. Want (MoreGlobals t) (λ more. Give (globals (as_global g ∷ as_globals more))))))
    (λ more. k (first ∷ as_globals more)) star (further_globals gs s rest (λ gs. k (first ∷ gs)))))

first_global : {t : CType} {ts : List Placed} {g : DefKind} {rest : List Token} → Tail t ts g rest → (begin : ℕ) (k : Found → TextPlan)
    → Goes ts rest (first_then begin t k)
    (Want (MoreGlobals t) (λ more. punctuator (codes ";") 0 (k (made (λ n. defs begin (g ∷ as_globals more))))))
first_global {t} {g = g} {rest} x begin k =
    subst
    (λ ts. Goes ts rest (first_then begin t k)
    (Want (MoreGlobals t) (λ more. punctuator (codes ";") 0 (k (made (λ n. defs begin (g ∷ as_globals more)))))))
    (sym x.are)
    (naming (λ name. Want (Function begin (Some t) name) (λ f. then_text (globals_by begin t name f) k)) x.is
    (passing refl (x.no_function begin)
    (x.goes (λ g. Want (MoreGlobals t) (λ more. punctuator (codes ";") 0 (k (made (λ n. defs begin (as_global g ∷ as_globals more)))))))))

-- the globals of a type, after it
pub globals_walk : {t : CType} {ts : List Placed} {gs : List DefKind} {semicolon : Placed} → Declarators 0 t (GlobalDeclarator t) ts gs
    → IsPunctuator 0 ";" semicolon → (begin : ℕ) (rest : List Token) (k : Found → TextPlan)
    → Goes ts (semicolon.token ∷ rest) (first_then begin t k) (punctuator (codes ";") 0 (k (made (λ n. defs begin gs))))
globals_walk {t} (Declarators.last g) s begin rest k =
    skipped (first_global (tail_of g semicolon_separates Closing.semicolon s rest) begin k) refl (refuses (MoreGlobals t) s refl)
globals_walk {t} {semicolon = semicolon} (Declarators.more {stars} {rest = others} {a = first} g c star gs) s begin rest k =
    and_then
    (first_global (tail_of g comma_separates Closing.comma c (tokens (stars ++ others) ++ semicolon.token ∷ rest)) begin k)
    (spelled {w = MoreGlobals t} c refl refl
    (starred (name_then 0 (λ name. Want (Global t name) (λ g. Want (MoreGlobals t) (λ more. Give (globals (as_global g ∷ as_globals more))))))
    (λ more. punctuator (codes ";") 0 (k (made (λ n. defs begin (first ∷ as_globals more))))) star
    (further_globals gs s rest (λ gs. punctuator (codes ";") 0 (k (made (λ n. defs begin (first ∷ gs))))))))

-- a global's name after its type
tail_name : {t : CType} {ts : List Placed} {g : DefKind} → GlobalDeclarator t ts g → (rest : List Token) → EndsType (tokens ts ++ rest)
tail_name (GlobalDeclarator.plain id) rest = type_before_name id rest
tail_name (GlobalDeclarator.initialised id s a) rest = type_before_name id _
tail_name (GlobalDeclarator.array id b n c) rest = type_before_name id _
tail_name (GlobalDeclarator.initialised_array id b n c s br cs tr f) rest = type_before_name id _

pub globals_name : {t : CType} {ts : List Placed} {gs : List DefKind} → Declarators 0 t (GlobalDeclarator t) ts gs
    → (rest : List Token) → EndsType (tokens ts ++ rest)
globals_name (Declarators.last g) rest = tail_name g rest
globals_name (Declarators.more {ts} {stars} {rest = others} {comma} g c star gs) rest =
    subst EndsType (sym (tokens_append ts (comma ∷ stars ++ others) rest)) (tail_name g (tokens (comma ∷ stars ++ others) ++ rest))

-- updates of fields
pub updates_walk : {d e : ℕ} {ts : List Placed} {us : List FieldValue} {final : Placed} → Updates d ts us → IsPunctuator e "}" final
    → (rest : List Token) (k : Found → TextPlan) → Goes ts (final.token ∷ rest) (Want (TextWanted.Updates d) k) (k (updates us))
updates_walk {d} Updates.none s rest k = passing refl (refuses (TextWanted.Updates d) s refl) stays
updates_walk {d} {final = final} (Updates.more {field} {semicolon} {rest = others} {e} id eq c se us) s rest k =
    taken {w = TextWanted.Updates d} {p = punctuator (codes "=") d (conditional_then d (λ e. punctuator (codes ";") d (Want (TextWanted.Updates d) (λ more.
    Give (updates (record { field = name field; value = e } ∷ as_updates more))))))} (rw id.sort refl) id.stands
    (word eq
    (and_then (conditional_part c (semicolon.token ∷ (tokens others ++ final.token ∷ rest)) (closes Closing.semicolon se _)
    (λ e. punctuator (codes ";") d (Want (TextWanted.Updates d) (λ more. k (updates (record { field = name field; value = e } ∷ as_updates more))))))
    (word se (updates_walk us s rest (λ more. k (updates (record { field = name field; value = e } ∷ as_updates more)))))))
