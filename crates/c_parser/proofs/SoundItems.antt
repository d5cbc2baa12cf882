-- Whatever the tokens: what the walk takes as an item of a text is one, and where nothing fits, what it took begins one.
use Rattle.std.specs.Prelude.{◌≡◌, ℕ, zero, suc, List, [], ◌∷◌, ◌++◌, true, length, Option, Some, None, codes}
use Rattle.std.proofs.Common.{refl, ap, subst, ◌∙◌, arith, append-nil, append_assoc}
use Rattle.c_lexer.specs.declared.token.Token.{Token}
use Rattle.c_lexer.specs.declared.token.TokenKind.TheVariants.{Identifier, Keyword, LibraryWord, Punctuator}
use Rattle.c_tree.specs.declared.name.CType.{CType}
use Rattle.c_tree.specs.declared.name.CType.TheVariants.{Handle}
use Rattle.c_tree.specs.declared.def.Binding.{Binding}
use Rattle.c_tree.specs.declared.def.Def.{Def}
use Rattle.c_tree.specs.declared.def.DefKind.TheVariants as kind
use Rattle.c_expr_parser.specs.Placed.{Placed, at, start}
use Rattle.c_expr_parser.specs.Terminals.{IsPunctuator, IsKeyword, IsLibraryWord, IsIdentifier, name}
use Rattle.c_expr_parser.specs.TypeNames.{TypeName}
use Rattle.c_expr_parser.specs.Declarations.{Members}
use Rattle.c_expr_parser.specs.Definitions.{def, defs, Static, ResultType, FunctionDefinition, PrototypeDeclaration, Updates, Item}
use Rattle.c_expr_parser.specs.Tables.{is, is_kind}
use Rattle.c_expr_parser.proofs.Samples.{punctuator, keyword, library_word, identifier, is_punctuator, is_keyword, is_library_word, is_identifier}
use Rattle.c_expr_parser.proofs.SoundTables.{placed_at, Each, each_if, each_when, spelled_at, token_at}
use Rattle.c_parser.specs.TextPlans.{Found, TextWanted, TextPlan, then_text, text_takes, run_text, name_then, type_then, conditional_then, members_behind, typed_item, globals_by, declared_plan, function_made, prototype_made, behind_static, as_made, as_bindings, as_global, as_globals, as_updates, item}
use Rattle.c_parser.specs.TextPlans as walk
use Rattle.c_parser.specs.TextPlans.Found.{made}
use Rattle.c_parser.specs.TextPlans.TextPlan.{Give, Want}
use Rattle.c_parser.proofs.CompleteItems.{result_starts}
use Rattle.c_parser.proofs.TraceMeaning.{Meaning, From, TextExplained, Explains, gives, explains_map, explains_then}
use Rattle.c_parser.proofs.WantedMeaning.{text_word, text_name, text_type, text_conditional, type_begun}
use Rattle.c_parser.proofs.SoundDeclarations.{Made, text_want, regroup, further_of}
use Rattle.c_parser.proofs.SoundPhrases.{Left, on_none, on_more, declares_all}
use Rattle.c_parser.proofs.SoundMembers.{members_explained, members_of, defines_all}
use Rattle.c_parser.proofs.SoundInitialisers.{holds_all}
use Rattle.c_parser.proofs.SoundFunctions.{IsFunction, function_all}

-- the definitions of an item by the number of its tokens
abbrev pub IsItem : (ℕ → List Def) → List Placed → Type 0
IsItem f ts = Item ts (f (length ts))

-- of what may come after `static`, whose number of tokens doesn't count it
abbrev pub IsDeclared : (ℕ → List Def) → List Placed → Type 0
IsDeclared f ts = (static : List Placed) → Static static → Item (static ++ ts) (f (length ts))

abbrev pub AsItem : Meaning
AsItem = Made made (λ f ts rest. IsItem f ts)

abbrev AsDeclared : Meaning
AsDeclared = Made made (λ f ts rest. IsDeclared f ts)

-- a function after its result type
function_is : {front : List Placed} {r : Option CType} {x : Placed} {us : List Placed} {f : ℕ → List Def} {rest : List Token}
    → ResultType front r → IsIdentifier 0 x → IsFunction (start front) r (name x) us (made f) rest → IsDeclared f (front ++ x ∷ us)
function_is {front} {r} {x} rt id (IsFunction.body {paren} {close} {brace} {final} {ps} {ts} {bs} {ss} hp pl hc hb i hf) static st =
    let behind = x ∷ paren ∷ (ps ++ (close ∷ brace ∷ (ts ++ final ∷ []))) in
    subst (λ place. Item (static ++ (front ++ behind)) (function_made place r (name x) bs ss (at final) (length (front ++ behind))))
    (result_starts rt behind) (Item.function st (FunctionDefinition.function rt id hp pl hc hb i hf refl))
function_is {front} {r} {x} rt id (IsFunction.prototype {paren} {close} {semicolon} {ts} {ps} hp pl hc hs) static st =
    let behind = x ∷ paren ∷ (ts ++ close ∷ semicolon ∷ []) in
    subst (λ place. Item (static ++ (front ++ behind)) (prototype_made place r (name x) ps (length (front ++ behind))))
    (result_starts rt behind) (Item.prototype st (PrototypeDeclaration.prototype rt id hp pl hc hs))

-- what comes after a type at the first level
typed_explained : (n : ℕ) (front : List Placed) (t : CType) → TypeName 0 front t
    → Explains n (From front AsDeclared) (typed_item (start front) t)
typed_explained n front t ty =
    text_name Q (λ name. Want (TextWanted.Function (start front) (Some t) name) (globals_by (start front) t name))
    (λ x id. explains_then {p = Want (TextWanted.Function (start front) (Some t) (name x)) Give} {k = globals_by (start front) t (name x)}
    (function_all n (start front) (Some t) (name x)) (λ us f rest m. by_function x id us f rest m))
  where
    Q : Meaning
    Q = From front AsDeclared

    globals_explained : (x : Placed) → IsIdentifier 0 x
        → Explains n (From (x ∷ []) Q) (Want (TextWanted.Global t (name x)) (λ g. Want (TextWanted.MoreGlobals t) (λ more.
        walk.punctuator (codes ";") 0 (Give (made (λ n. defs (start front) (as_global g ∷ as_globals more)))))))
    globals_explained x id =
        text_want (From (x ∷ []) Q) _ (TextWanted.Global t (name x)) ((holds_all n).global_so t (name x))
        (λ g us rest tail. text_want (From us (From (x ∷ []) Q)) _ (TextWanted.MoreGlobals t) ((holds_all n).globals_so t)
        (λ gs vs rest others. regroup (From (x ∷ []) Q) us vs
        (text_word (From (us ++ vs) (From (x ∷ []) Q)) (λ s hs.
        gives (λ rest. Made.it_is (λ static st. Item.global st ty (further_of (x ∷ us) (tail x id refl) others) hs))))))

    by_function : (x : Placed) → IsIdentifier 0 x → (us : List Placed) (f : Found) (rest : List Token)
        → IsFunction (start front) (Some t) (name x) us f rest
        → Explains n (From us (From (x ∷ []) Q)) (globals_by (start front) t (name x) f)
    by_function x id us f rest (IsFunction.body hp pl hc hb i hf) =
        gives (λ rest. rw append-nil (Made.it_is (function_is (ResultType.value ty) id (IsFunction.body {rest = rest} hp pl hc hb i hf))))
    by_function x id us f rest (IsFunction.prototype hp pl hc hs) =
        gives (λ rest. rw append-nil (Made.it_is (function_is (ResultType.value ty) id (IsFunction.prototype {rest = rest} hp pl hc hs))))
    by_function x id us f rest (IsFunction.none e) = globals_explained x id

-- a function without a result
void_explained : (n : ℕ) (t : Token) → is Keyword (codes "void") t ≡ true
    → Explains n (From (placed_at 0 t ∷ []) AsDeclared) (name_then 0 (λ name. Want (TextWanted.Function t.at None name) Give))
void_explained n t h =
    text_name Q (λ name. Want (TextWanted.Function t.at None name) Give)
    (λ x id. explains_then {p = Want (TextWanted.Function t.at None (name x)) Give} {k = Give}
    (function_all n t.at None (name x)) (λ us f rest m. by_function x id us f rest m))
  where
    Q : Meaning
    Q = From (placed_at 0 t ∷ []) AsDeclared

    void : ResultType (placed_at 0 t ∷ []) None
    void = ResultType.nothing (spelled_at Keyword 0 (codes "void") t h)

    by_function : (x : Placed) → IsIdentifier 0 x → (us : List Placed) (f : Found) (rest : List Token)
        → IsFunction t.at None (name x) us f rest → Explains n (From us (From (x ∷ []) Q)) (Give f)
    by_function x id us f rest (IsFunction.body hp pl hc hb i hf) =
        gives (λ rest. rw append-nil (Made.it_is (function_is void id (IsFunction.body {rest = rest} hp pl hc hb i hf))))
    by_function x id us f rest (IsFunction.prototype hp pl hc hs) =
        gives (λ rest. rw append-nil (Made.it_is (function_is void id (IsFunction.prototype {rest = rest} hp pl hc hs))))
    by_function x id us f rest (IsFunction.none e) = absurd (cc)

-- what may come after `static`
declared_explained : (n : ℕ) (t : Token) → Each (λ p. Explains n (From (placed_at 0 t ∷ []) AsDeclared) p) (declared_plan t)
declared_explained n t =
    each_if P (is Keyword (codes "void") t) _ _ (λ h. void_explained n t h)
    (λ h. each_if P (is LibraryWord (codes "mtx_t") t) _ _
    (λ m. text_name Q (λ name. walk.punctuator (codes ";") 0 (Give (made (λ n. def t.at (kind.Mutex name) ∷ [])))) (λ x id.
    text_word (From (x ∷ []) Q) (λ s hs.
    gives (λ rest. Made.it_is (λ static st. Item.mutex st (spelled_at LibraryWord 0 (codes "mtx_t") t m) id hs)))))
    (λ m. type_begun Q (typed_item t.at) 0 t (λ us ty x. typed us ty x)))
  where
    Q : Meaning
    Q = From (placed_at 0 t ∷ []) AsDeclared

    P : TextPlan → Type 0
    P p = Explains n Q p

    typed : (us : List Placed) (ty : CType) → TypeName 0 (placed_at 0 t ∷ us) ty → Explains n (From us Q) (typed_item t.at ty)
    typed us ty x = typed_explained n (placed_at 0 t ∷ us) ty x

declared_left : Left TextWanted.Declared AsDeclared None
declared_left = (
  library_word 0 0 "mtx_t" ∷ identifier 0 6 "m" ∷ punctuator 0 7 ";" ∷ [],
  _,
  Made.it_is {a = λ n. def 0 (kind.Mutex (name (identifier 0 6 "m"))) ∷ []}
      (λ static st. Item.mutex st (is_library_word 0 0 "mtx_t") (is_identifier 0 6 "m") (is_punctuator 0 7 ";")),
)

declared_all : (n : ℕ) → Explains n AsDeclared (Want TextWanted.Declared Give)
declared_all zero = on_none TextWanted.Declared AsDeclared declared_left
declared_all (suc n) = on_more TextWanted.Declared AsDeclared declared_left (declared_explained n)

-- without `static` it's an item
as_item : {n : ℕ} {p : TextPlan} (front : List Placed) → Explains n (From front AsDeclared) p → Explains n (From front AsItem) p
as_item front s = explains_map (λ ts f rest m. alone (front ++ ts) f m) s
  where
    alone : (ts : List Placed) (f : Found) {rest : List Token} → AsDeclared ts f rest → AsItem ts f rest
    alone ts f (Made.it_is d) = Made.it_is (d [] Static.absent)

-- what follows `struct` and a tag
tagged_taken : (n : ℕ) (word named : Placed) → IsKeyword 0 "struct" word → IsIdentifier 0 named → (t : Token)
    → Each (λ p. Explains n (From (placed_at 0 t ∷ []) (From (word ∷ named ∷ []) AsItem)) p)
    (text_takes (TextWanted.Tagged (at word) (name named)) t)
tagged_taken n word named hw id t =
    each_if P (is Punctuator (codes "{") t) _ _
    (λ h. text_type Q (λ ty. then_text (members_behind 1 ty) (λ ms. walk.punctuator (codes "}") 0 (walk.punctuator (codes ";") 0
    (Give (made (λ n. def (at word) (kind.Struct (name named) (as_bindings ms)) ∷ [])))))) (λ us ty x.
    members_explained (From us Q) (declares_all n) (defines_all n) 1 ty (λ ms. walk.punctuator (codes "}") 0 (walk.punctuator (codes ";") 0
    (Give (made (λ n. def (at word) (kind.Struct (name named) (as_bindings ms)) ∷ []))))) (λ ns vs s these more y hs m.
    text_word (λ ts f r. From us Q (ns ++ (s ∷ (vs ++ ts))) f r) (λ e he.
    text_word (λ ts f r. From us Q (ns ++ (s ∷ (vs ++ e ∷ ts))) f r) (λ c hc.
    gives (λ rest. Made.it_is (braced us ns vs s e c (spelled_at Punctuator 0 (codes "{") t h) (members_of us x y hs m) he hc)))))))
    (λ h. each_if P (is Punctuator (codes ";") t) _ _
    (λ s. gives (λ rest. Made.it_is (Item.forward hw id (spelled_at Punctuator 0 (codes ";") t s))))
    (λ s. each_when P (is Punctuator (codes "*") t) _ (λ star.
    as_item (word ∷ named ∷ placed_at 0 t ∷ [])
    (typed_explained n (word ∷ named ∷ placed_at 0 t ∷ []) (Handle (name named)) (TypeName.handle hw id (spelled_at Punctuator 0 (codes "*") t star))))))
  where
    Q : Meaning
    Q = From (placed_at 0 t ∷ []) (From (word ∷ named ∷ []) AsItem)

    P : TextPlan → Type 0
    P p = Explains n Q p

    braced : (us ns vs : List Placed) (s e c : Placed) {ms : List Binding} → IsPunctuator 0 "{" (placed_at 0 t)
        → Members 1 (us ++ (ns ++ (s ∷ vs))) ms → IsPunctuator 0 "}" e → IsPunctuator 0 ";" c
        → Item (word ∷ named ∷ placed_at 0 t ∷ (us ++ (ns ++ (s ∷ (vs ++ e ∷ c ∷ []))))) (def (at word) (kind.Struct (name named) ms) ∷ [])
    braced us ns vs s e c {ms} hb m he hc =
        subst (λ ts. Item (word ∷ named ∷ placed_at 0 t ∷ ts) (def (at word) (kind.Struct (name named) ms) ∷ []))
        (append_assoc us (ns ++ (s ∷ vs)) (e ∷ c ∷ []) ∙ ap (λ ts. us ++ ts) (append_assoc ns (s ∷ vs) (e ∷ c ∷ [])))
        (Item.struct hw id hb m he hc)

tagged_left : (word named : Placed) → IsKeyword 0 "struct" word → IsIdentifier 0 named
    → Left (TextWanted.Tagged (at word) (name named)) (From (word ∷ named ∷ []) AsItem) None
tagged_left word named hw id = (
  punctuator 0 0 ";" ∷ [],
  made (λ n. def (at word) (kind.Forward (name named)) ∷ []),
  Made.it_is (Item.forward hw id (is_punctuator 0 0 ";")),
)

tagged_all : (n : ℕ) (word named : Placed) → IsKeyword 0 "struct" word → IsIdentifier 0 named
    → Explains n (From (word ∷ named ∷ []) AsItem) (Want (TextWanted.Tagged (at word) (name named)) Give)
tagged_all zero word named hw id =
    on_none (TextWanted.Tagged (at word) (name named)) (From (word ∷ named ∷ []) AsItem) (tagged_left word named hw id)
tagged_all (suc n) word named hw id =
    on_more (TextWanted.Tagged (at word) (name named)) (From (word ∷ named ∷ []) AsItem) (tagged_left word named hw id)
    (tagged_taken n word named hw id)

-- what follows `dsu_transform`
transformed_taken : (n : ℕ) (word : Placed) → IsLibraryWord 0 "dsu_transform" word → (t : Token)
    → Each (λ p. Explains n (From (placed_at 0 t ∷ []) (From (word ∷ []) AsItem)) p) (text_takes (TextWanted.Transformed (at word)) t)
transformed_taken n word hw t =
    each_if P (is Keyword (codes "struct") t) _ _
    (λ h. text_name Q (λ tag. walk.punctuator (codes "{") 0 (Want (TextWanted.Updates 1) (λ us. walk.punctuator (codes "}") 0
    (Give (made (λ n. def (at word) (kind.TransformStruct (record { name = tag; values = as_updates us })) ∷ [])))))) (λ x id.
    text_word (From (x ∷ []) Q) (λ b hb.
    text_want (From (b ∷ []) (From (x ∷ []) Q)) (λ us. walk.punctuator (codes "}") 0
    (Give (made (λ n. def (at word) (kind.TransformStruct (record { name = name x; values = as_updates us })) ∷ []))))
    (TextWanted.Updates 1) ((defines_all n).updates_so 1) (λ us vs rest m.
    text_word (From vs (From (b ∷ []) (From (x ∷ []) Q))) (λ e he.
    gives (λ rest. Made.it_is (Item.transform_struct hw (spelled_at Keyword 0 (codes "struct") t h) id hb m he)))))))
    (λ h. each_when P (is_kind Identifier t) _ (λ i.
    text_word Q (λ s hs. text_conditional (From (s ∷ []) Q) (λ e. walk.punctuator (codes ";") 0
    (Give (made (λ n. def (at word) (kind.TransformGlobal (record { place = t.at; text = t.text }) e) ∷ [])))) (λ us e c.
    text_word (From us (From (s ∷ []) Q)) (λ x hx.
    gives (λ rest. Made.it_is (Item.transform_global hw (token_at Identifier 0 t i) hs c hx)))))))
  where
    Q : Meaning
    Q = From (placed_at 0 t ∷ []) (From (word ∷ []) AsItem)

    P : TextPlan → Type 0
    P p = Explains n Q p

transformed_left : (word : Placed) → IsLibraryWord 0 "dsu_transform" word
    → Left (TextWanted.Transformed (at word)) (From (word ∷ []) AsItem) None
transformed_left word hw = (
  keyword 0 0 "struct" ∷ identifier 0 0 "s" ∷ punctuator 0 0 "{" ∷ punctuator 0 0 "}" ∷ [],
  made (λ n. def (at word) (kind.TransformStruct (record { name = name (identifier 0 0 "s"); values = [] })) ∷ []),
  Made.it_is (Item.transform_struct hw (is_keyword 0 0 "struct") (is_identifier 0 0 "s") (is_punctuator 0 0 "{") Updates.none (is_punctuator 0 0 "}")),
)

transformed_all : (n : ℕ) (word : Placed) → IsLibraryWord 0 "dsu_transform" word
    → Explains n (From (word ∷ []) AsItem) (Want (TextWanted.Transformed (at word)) Give)
transformed_all zero word hw = on_none (TextWanted.Transformed (at word)) (From (word ∷ []) AsItem) (transformed_left word hw)
transformed_all (suc n) word hw =
    on_more (TextWanted.Transformed (at word)) (From (word ∷ []) AsItem) (transformed_left word hw) (transformed_taken n word hw)

-- an item
each_other : {A : Type 0} (P Q : A → Type 0) (o : Option A) → Each P o → ((a : A) → P a → Q a) → Each Q o
each_other P Q None e f = tt
each_other P Q (Some a) e f = f a e

item_taken : (n : ℕ) (t : Token) → Each (λ p. Explains n (From (placed_at 0 t ∷ []) AsItem) p) (text_takes TextWanted.Item t)
item_taken n t =
    each_if P (is Keyword (codes "static") t) _ _
    (λ h. text_want Q (λ f. Give (made (behind_static (as_made f)))) TextWanted.Declared (declared_all n) (λ f us rest d.
    gives (λ rest. rw append-nil (Made.it_is (d (placed_at 0 t ∷ []) (Static.present (spelled_at Keyword 0 (codes "static") t h)))))))
    (λ h. each_if P (is Keyword (codes "struct") t) _ _
    (λ s. text_name Q (λ tag. Want (TextWanted.Tagged t.at tag) Give) (λ x id.
    tagged_all n (placed_at 0 t) x (spelled_at Keyword 0 (codes "struct") t s) id))
    (λ s. each_if P (is LibraryWord (codes "dsu_transform") t) _ _
    (λ d. transformed_all n (placed_at 0 t) (spelled_at LibraryWord 0 (codes "dsu_transform") t d))
    (λ d. each_other (λ p. Explains n (From (placed_at 0 t ∷ []) AsDeclared) p) P (declared_plan t) (declared_explained n t)
    (λ p s. as_item (placed_at 0 t ∷ []) s))))
  where
    Q : Meaning
    Q = From (placed_at 0 t ∷ []) AsItem

    P : TextPlan → Type 0
    P p = Explains n Q p

item_left : Left TextWanted.Item AsItem None
item_left = (
  keyword 0 0 "struct" ∷ identifier 0 7 "s" ∷ punctuator 0 8 ";" ∷ [],
  made (λ n. def 0 (kind.Forward (name (identifier 0 7 "s"))) ∷ []),
  Made.it_is (Item.forward (is_keyword 0 0 "struct") (is_identifier 0 7 "s") (is_punctuator 0 8 ";")),
)

item_all : (n : ℕ) → Explains n AsItem item
item_all zero = on_none TextWanted.Item AsItem item_left
item_all (suc n) = on_more TextWanted.Item AsItem item_left (item_taken n)

pub sound_item : (ts : List Token) → TextExplained AsItem (run_text ts item)
sound_item ts = (item_all (length ts)).trace ts (omega arith)
