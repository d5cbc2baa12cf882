-- The walk reads what is an item of a text.
use Rattle.std.specs.Prelude.{◌≡◌, ℕ, Bool, false, IsTrue, List, [], ◌∷◌, ◌++◌, length, Option, Some, None, codes}
use Rattle.std.proofs.Common.{refl, ap, sym, subst}
use Rattle.c_ints.specs.declared.kind.Kind.{Kind}
use Rattle.c_lexer.specs.Words.{is_one_of}
use Rattle.c_lexer.specs.declared.token.Token.{Token}
use Rattle.c_lexer.specs.declared.token.TokenKind.{TokenKind}
use Rattle.c_lexer.specs.declared.token.TokenKind.TheVariants.{Keyword, LibraryWord}
use Rattle.c_tree.specs.declared.name.CType.{CType}
use Rattle.c_tree.specs.declared.def.Def.{Def}
use Rattle.c_tree.specs.declared.def.Function.{Function}
use Rattle.c_tree.specs.declared.def.DefKind.{DefKind}
use Rattle.c_tree.specs.declared.def.DefKind.TheVariants as kind
use Rattle.c_tree.specs.declared.def.Prototype.{Prototype}
use Rattle.c_expr_parser.specs.Placed.{Placed, tokens, start, at, text}
use Rattle.c_expr_parser.specs.Terminals.{IsPunctuator, IsKeyword, IsLibraryWord, IsIdentifier, name}
use Rattle.c_expr_parser.specs.TypeNames.{TypeName, IntegerWords, integer_words, is_spelling}
use Rattle.c_expr_parser.specs.Plans.{as_type}
use Rattle.c_expr_parser.specs.Plans.Wanted.{Typing}
use Rattle.c_expr_parser.specs.Plans.Plan.{Return}
use Rattle.c_expr_parser.specs.Declarations.{Declarators}
use Rattle.c_expr_parser.specs.Definitions.{def, defs, GlobalDeclarator, Static, ResultType, FunctionDefinition, PrototypeDeclaration, Item}
use Rattle.c_expr_parser.proofs.Beginnings.{Opens, type_opens, begins_type, none_means}
use Rattle.c_expr_parser.proofs.CompletePlans.{tokens_append}
use Rattle.c_expr_parser.proofs.CompleteEnds.{Closing, closes}
use Rattle.c_expr_parser.proofs.CompleteTypes.{EndsType}
use Rattle.c_parser.specs.TextPlans.{Found, TextWanted, TextPlan, then_text, punctuator, name_then, conditional_then, as_made, as_updates, as_bindings, typed_item, globals_by, function_made, prototype_made, behind_static}
use Rattle.c_parser.specs.TextPlans.Found.{made}
use Rattle.c_parser.specs.TextPlans.TextPlan.{Give, Want}
use Rattle.c_parser.specs.TextPlans.TextWanted.{Declared, Tagged, Transformed, MoreMembers}
use Rattle.c_parser.proofs.CompletePlans.{Goes, stays, taken, spelled, and_then, to, type_part, conditional_part}
use Rattle.c_parser.proofs.CompleteTokens.{word, naming, refuses, starts, type_before_name, is_other, from_type, opened}
use Rattle.c_parser.proofs.CompleteDeclarations.{members_walk}
use Rattle.c_parser.proofs.CompleteParameters.{body_walk, prototype_walk}
use Rattle.c_parser.proofs.CompleteGlobals.{first_then, globals_walk, globals_name, updates_walk}

-- where an item may begin: at the first level, and after `static`
data Entry : TextWanted → Type 0 where
  whole : Entry TextWanted.Item
  behind_it : Entry Declared

-- what is wanted reads the tokens as the definitions
pub record Yields (w : TextWanted) (ts : List Placed) (definitions : List Def) : Type 0 where
  pub by_count : ℕ → List Def
  pub are : by_count (length ts) ≡ definitions
  pub goes : (rest : List Token) (k : Found → TextPlan) → Goes ts rest (Want w k) (k (made by_count))

-- the words of integer types
abbrev integer_word : TokenKind → List ℕ → Bool
integer_word Keyword spelling = is_one_of integer_words spelling
integer_word _ spelling = false

words_open : (kind : Kind) {d : ℕ} {ts : List Placed} {words : List (List ℕ)} → IntegerWords d ts words
    → IsTrue (is_spelling kind words) → Opens integer_word d ts
words_open kind IntegerWords.none h = absurd (none_means kind h)
words_open kind (IntegerWords.more {t} {ts} w ws) h = record {
  first = t;
  rest = ts;
  are = refl;
  stands = w.keyword.stands;
  begins = subst (λ kind. IsTrue (integer_word kind (text t))) (sym w.keyword.sort) w.known;
}

-- a type at the first level
typed_walk : {w : TextWanted} {ts : List Placed} {t : CType} → Entry w → TypeName 0 ts t → (rest : List Token) → EndsType rest
    → (k : Found → TextPlan) → Goes ts rest (Want w k) (then_text (typed_item (start ts) t) k)
typed_walk Entry.behind_it ty rest ends k =
    from_type Declared (λ place t. typed_item place t) k ty ends
    (λ u h. rw (is_other begins_type Keyword (codes "void") u refl h, is_other begins_type LibraryWord (codes "mtx_t") u refl h) refl) refl
typed_walk {ts = ts} Entry.whole (TypeName.integer {kind} {words} ws h) rest ends k =
    opened TextWanted.Item (Typing 0) Return (λ place v. typed_item place (as_type v)) k (words_open kind ws h)
    (λ u h. rw (
      is_other integer_word Keyword (codes "static") u refl h,
      is_other integer_word Keyword (codes "struct") u refl h,
      is_other integer_word LibraryWord (codes "dsu_transform") u refl h,
      is_other integer_word Keyword (codes "void") u refl h,
      is_other integer_word LibraryWord (codes "mtx_t") u refl h,
    ) refl) refl refl
    (type_part (TypeName.integer {kind = kind} {words = words} ws h) rest ends (λ t. then_text (typed_item (start ts) t) k))
typed_walk Entry.whole (TypeName.handle {word = first} {tag} s id star) rest ends k =
    spelled {w = TextWanted.Item} s refl refl
    (naming (λ tag. Want (Tagged (at first) tag) k) id (spelled {w = Tagged (at first) (name tag)} star refl refl stays))
typed_walk Entry.whole (TypeName.thread s) rest ends k = spelled {w = TextWanted.Item} s refl refl stays

-- what follows a function's result type
abbrev result_then : ℕ → Option CType → (Found → TextPlan) → TextPlan
result_then place None k = name_then 0 (λ name. Want (TextWanted.Function place None name) k)
result_then place (Some t) k = first_then place t k

void_walk : {w : TextWanted} {word : Placed} → Entry w → IsKeyword 0 "void" word → (rest : List Token) (k : Found → TextPlan)
    → Goes (word ∷ []) rest (Want w k) (result_then (at word) None k)
void_walk Entry.whole s rest k = spelled {w = TextWanted.Item} s refl refl stays
void_walk Entry.behind_it s rest k = spelled {w = Declared} s refl refl stays

result_walk : {w : TextWanted} {ts : List Placed} {r : Option CType} → Entry w → ResultType ts r → (rest : List Token)
    → EndsType rest → (k : Found → TextPlan) → Goes ts rest (Want w k) (result_then (start ts) r k)
result_walk entry (ResultType.nothing s) rest ends k = void_walk entry s rest k
result_walk entry (ResultType.value ty) rest ends k = typed_walk entry ty rest ends k

pub result_starts : {ts : List Placed} {r : Option CType} → ResultType ts r → (more : List Placed) → start (ts ++ more) ≡ start ts
result_starts (ResultType.nothing s) more = refl
result_starts (ResultType.value ty) more = starts (type_opens ty) more

-- a function after its result type
named_function : {ts : List Placed} {function : Placed} {rest : List Token} (r : Option CType) (place : ℕ) (k : Found → TextPlan)
    (f : ℕ → List Def) → IsIdentifier 0 function
    → ((k : Found → TextPlan) → Goes ts rest (Want (TextWanted.Function place r (name function)) k) (k (made f)))
    → Goes (function ∷ ts) rest (result_then place r k) (k (made f))
named_function None place k f id g = naming (λ name. Want (TextWanted.Function place None name) k) id (g k)
named_function {function = function} (Some t) place k f id g =
    naming (λ name. Want (TextWanted.Function place (Some t) name) (λ f. then_text (globals_by place t name f) k)) id
    (g (λ f. then_text (globals_by place t (name function) f) k))

function_yields : {w : TextWanted} {ts : List Placed} {f : Function} → Entry w → FunctionDefinition ts f
    → Yields w ts (def (start ts) (kind.Function f) ∷ [])
function_yields {w} entry (FunctionDefinition.function {whole} {result} {parameters} {body} {function} {paren} {close} {brace} {final} {r} {ps} {ss} rt id p list c b is e eq) = record {
  by_count = function_made (start whole) r (name function) ps ss (at final);
  are = refl;
  goes = λ rest k.
      let behind = function ∷ paren ∷ parameters ++ (close ∷ brace ∷ body ++ final ∷ []) in
      subst (λ ts. Goes ts rest (Want w k) (k (made (function_made (start ts) r (name function) ps ss (at final))))) (sym eq)
      (to (ap (λ place. k (made (function_made place r (name function) ps ss (at final)))) (sym (result_starts rt behind)))
      (and_then (result_walk entry rt (tokens behind ++ rest) (type_before_name id _) k)
      (named_function r (start result) k (function_made (start result) r (name function) ps ss (at final)) id
      (λ k. body_walk p list c b is e (start result) r (name function) rest k))));
}

prototype_yields : {w : TextWanted} {ts : List Placed} {p : Prototype} → Entry w → PrototypeDeclaration ts p
    → Yields w ts (def (start ts) (kind.Prototype p) ∷ [])
prototype_yields {w} entry (PrototypeDeclaration.prototype {result} {parameters} {function} {paren} {close} {semicolon} {r} {ps} rt id p list c s) = record {
  by_count = prototype_made (start (result ++ (function ∷ paren ∷ parameters ++ close ∷ semicolon ∷ []))) r (name function) ps;
  are = refl;
  goes = λ rest k.
      let behind = function ∷ paren ∷ parameters ++ close ∷ semicolon ∷ [] in
      to (ap (λ place. k (made (prototype_made place r (name function) ps))) (sym (result_starts rt behind)))
      (and_then (result_walk entry rt (tokens behind ++ rest) (type_before_name id _) k)
      (named_function r (start result) k (prototype_made (start result) r (name function) ps) id
      (λ k. prototype_walk p list c s (start result) r (name function) rest k)));
}

mutex_yields : {w : TextWanted} {word variable semicolon : Placed} → Entry w → IsLibraryWord 0 "mtx_t" word → IsIdentifier 0 variable
    → IsPunctuator 0 ";" semicolon → Yields w (word ∷ variable ∷ semicolon ∷ []) (def (at word) (kind.Mutex (name variable)) ∷ [])
mutex_yields {word = first} {variable} Entry.whole m id s = record {
  by_count = λ n. def (at first) (kind.Mutex (name variable)) ∷ [];
  are = refl;
  goes = λ rest k. spelled {w = TextWanted.Item} m refl refl
      (naming (λ name. punctuator (codes ";") 0 (k (made (λ n. def (at first) (kind.Mutex name) ∷ [])))) id (word s stays));
}
mutex_yields {word = first} {variable} Entry.behind_it m id s = record {
  by_count = λ n. def (at first) (kind.Mutex (name variable)) ∷ [];
  are = refl;
  goes = λ rest k. spelled {w = Declared} m refl refl
      (naming (λ name. punctuator (codes ";") 0 (k (made (λ n. def (at first) (kind.Mutex name) ∷ [])))) id (word s stays));
}

-- what may come after `static`, with it and without
static_yields : {static ts : List Placed} {definitions : List Def} → Static static → ((w : TextWanted) → Entry w → Yields w ts definitions)
    → Yields TextWanted.Item (static ++ ts) definitions
static_yields Static.absent y = y TextWanted.Item Entry.whole
static_yields (Static.present s) y =
    let inner = y Declared Entry.behind_it in record {
      by_count = behind_static inner.by_count;
      are = inner.are;
      goes = λ rest k. spelled {w = TextWanted.Item} s refl refl (inner.goes rest (λ f. k (made (behind_static (as_made f)))));
    }

globals_yields : {w : TextWanted} {ts names : List Placed} {semicolon : Placed} {t : CType} {globals : List DefKind} → Entry w
    → TypeName 0 ts t → Declarators 0 t (GlobalDeclarator t) names globals → IsPunctuator 0 ";" semicolon
    → Yields w (ts ++ (names ++ semicolon ∷ [])) (defs (start ts) globals)
globals_yields {ts = ts} {names} {semicolon} {globals = globals} entry ty gs s = record {
  by_count = λ n. defs (start ts) globals;
  are = refl;
  goes = λ rest k.
      and_then
      (typed_walk entry ty (tokens (names ++ semicolon ∷ []) ++ rest)
      (subst EndsType (sym (tokens_append names (semicolon ∷ []) rest)) (globals_name gs (semicolon.token ∷ rest))) k)
      (and_then (globals_walk gs s (start ts) rest k) (word s stays));
}

-- each item of a text is read
pub item_yields : {ts : List Placed} {definitions : List Def} → Item ts definitions → Yields TextWanted.Item ts definitions
item_yields (Item.forward {word = first} {tag} w id s) = record {
  by_count = λ n. def (at first) (kind.Forward (name tag)) ∷ [];
  are = refl;
  goes = λ rest k. spelled {w = TextWanted.Item} w refl refl
      (naming (λ tag. Want (Tagged (at first) tag) k) id (spelled {w = Tagged (at first) (name tag)} s refl refl stays));
}
item_yields (Item.struct {word = first} {tag} {final} {semicolon} {members} w id b ms e s) = record {
  by_count = λ n. def (at first) (kind.Struct (name tag) members) ∷ [];
  are = refl;
  goes = λ rest k. spelled {w = TextWanted.Item} w refl refl
      (naming (λ tag. Want (Tagged (at first) tag) k) id
      (spelled {w = Tagged (at first) (name tag)} b refl refl
      (and_then (members_walk ms (final.token ∷ (semicolon.token ∷ rest)) (refuses (MoreMembers 1) e refl)
      (λ ms. punctuator (codes "}") 0 (punctuator (codes ";") 0 (k (made (λ n. def (at first) (kind.Struct (name tag) (as_bindings ms)) ∷ []))))))
      (word e (word s stays)))));
}
item_yields (Item.mutex st m id s) = static_yields st (λ w entry. mutex_yields entry m id s)
item_yields (Item.function st f) = static_yields st (λ w entry. function_yields entry f)
item_yields (Item.prototype st p) = static_yields st (λ w entry. prototype_yields entry p)
item_yields (Item.global st ty gs s) = static_yields st (λ w entry. globals_yields entry ty gs s)
item_yields (Item.transform_struct {word = first} {tag} {final} {updates} w s id b us e) = record {
  by_count = λ n. def (at first) (kind.TransformStruct (record { name = name tag; values = updates })) ∷ [];
  are = refl;
  goes = λ rest k. spelled {w = TextWanted.Item} w refl refl
      (spelled {w = Transformed (at first)} s refl refl
      (naming (λ tag. punctuator (codes "{") 0 (Want (TextWanted.Updates 1) (λ us. punctuator (codes "}") 0
      (k (made (λ n. def (at first) (kind.TransformStruct (record { name = tag; values = as_updates us })) ∷ [])))))) id
      (word b
      (and_then (updates_walk us e rest (λ us. punctuator (codes "}") 0
      (k (made (λ n. def (at first) (kind.TransformStruct (record { name = name tag; values = as_updates us })) ∷ [])))))
      (word e stays)))));
}
item_yields (Item.transform_global {word = first} {global} {semicolon} {e} w id eq c s) = record {
  by_count = λ n. def (at first) (kind.TransformGlobal (name global) e) ∷ [];
  are = refl;
  goes = λ rest k. spelled {w = TextWanted.Item} w refl refl
      (taken {w = Transformed (at first)} {p = punctuator (codes "=") 0 (conditional_then 0 (λ e. punctuator (codes ";") 0
      (Give (made (λ n. def (at first) (kind.TransformGlobal (name global) e) ∷ [])))))}
      (rw id.sort refl) id.stands
      (word eq
      (and_then (conditional_part c (semicolon.token ∷ rest) (closes Closing.semicolon s rest)
      (λ e. punctuator (codes ";") 0 (k (made (λ n. def (at first) (kind.TransformGlobal (name global) e) ∷ [])))))
      (word s stays))));
}
