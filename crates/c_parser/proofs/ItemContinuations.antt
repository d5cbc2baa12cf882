-- How the plans of functions, transformers and items go on, by their first tokens, and what items make.
use Rattle.std.proofs.Common.{◌≡◌, ◌<◌, ◌≤◌, ◌-◌, ℕ, suc, Bool, true, false, List, [], ◌∷◌, ◌++◌, length, Option, Some, None, Result, refl, sym, ap, subst, ◌∙◌, arith}
use Rattle.std.specs.Prelude.{option_map, if◌then◌else◌, codes, MatchResult, IfOk, Ok, Err}
use Rattle.std.specs.Result.{IsErrAnd}
use Rattle.std.proofs.Math.Path.{fun_ext}
use Rattle.c_lexer.specs.declared.token.Token.{Token}
use Rattle.c_lexer.specs.declared.token.TokenKind.TheVariants.{Identifier, Keyword, LibraryWord, Punctuator}
use Rattle.c_tree.specs.declared.name.Name.{Name}
use Rattle.c_tree.specs.declared.name.CType.{CType}
use Rattle.c_tree.specs.declared.name.CType.TheVariants.{Handle}
use Rattle.c_tree.specs.declared.def.Binding.{Binding}
use Rattle.c_tree.specs.declared.def.Parameters.TheVariants.{Named}
use Rattle.c_tree.specs.declared.def.Def.{Def}
use Rattle.c_tree.specs.declared.def.DefKind.TheVariants as kind
use Rattle.c_expr_parser.specs.declared.stop.Stop.{Stop}
use Rattle.c_expr_parser.specs.Definitions.{def}
use Rattle.c_expr_parser.specs.Tables.{is, is_kind, when_some, holds_ahead}
use Rattle.c_expr_parser.specs.Plans.{Plan, Word, Naming, Typing, nothing, named, after, as_type, type_plan}
use Rattle.c_expr_parser.specs.Plans.Plan.{Return}
use Rattle.c_parser.specs.TextPlans.{Found, TextWanted, TextPlan, TextParsed, then_text, behind, as_bindings, as_made, as_updates, as_parameters, text_at_depth, text_depth, text_takes, text_left_out, text_parsed, text_reads, TextStops, punctuator, name_then, type_then, conditional_then, type_from, members_behind, block_then, function_by, function_made, prototype_made, globals_by, typed_item, declared_plan, behind_static}
use Rattle.c_parser.specs.TextPlans.Found.{part, made}
use Rattle.c_parser.specs.TextPlans.TextPlan.{Give, Want}
use Rattle.c_parser.specs.TextPlans.TextWanted.{Of, ParameterList, Body, Function, Tagged, Updates, Transformed, Item, Declared}
use Rattle.c_parser.specs.TextPlans.TextParsed.{found}
use Rattle.c_parser.specs.Parts.{function_plan, members_then, global_transformer_plan, Makes}
use Rattle.c_parser.proofs.PlanResults.{text_next, parsed_takes, parsed_dead, parsed_end, parsed_give, parsed_then_text, passes_held, takes_first}
use Rattle.c_parser.proofs.FunctionReturns.{hands, stops_text, through}
use Rattle.c_parser.proofs.SignsByFirstToken.{IsFirst}
use Rattle.c_parser.proofs.PhraseBeginnings.{begins_as, then_give}

-- a punctuator that must come
takes_punctuator : (spelling : List ℕ) (d : ℕ) (t : Token) → is Punctuator spelling t ≡ true → text_takes (Of (Word Punctuator spelling d)) t ≡ Some (Give (part nothing))
takes_punctuator spelling d t h = ap (option_map (λ p. behind p (λ v. Give (part v)))) (ap (λ b. when_some b (Some (Return nothing))) h)

no_punctuator : (spelling : List ℕ) (d : ℕ) (t : Token) → is Punctuator spelling t ≡ false → text_takes (Of (Word Punctuator spelling d)) t ≡ None
no_punctuator spelling d t h = ap (option_map (λ p. behind p (λ v. Give (part v)))) (ap (λ b. when_some b (Some (Return nothing))) h)

-- something that only a punctuator begins is that punctuator and what follows
punctuator_by : (w : TextWanted) (spelling : List ℕ) (p : TextPlan) (k : Found → TextPlan) (t : Token) (us : List Token) (b : Bool) → is Punctuator spelling t ≡ b
    → text_takes w t ≡ when_some b (Some p) → text_depth w ≡ 0 → text_left_out w ≡ None
    → text_parsed (Want w k) (t ∷ us) ≡ text_parsed (punctuator spelling 0 (then_text p k)) (t ∷ us)
punctuator_by w spelling p k t us true h form same needed =
    parsed_takes w k t us p form ∙ ap (λ d. text_at_depth d (length (t ∷ us)) (text_parsed (then_text p k) us)) same
    ∙ sym (parsed_takes (Of (Word Punctuator spelling 0)) (λ f. then_text p k) t us (Give (part nothing)) (takes_punctuator spelling 0 t h))
punctuator_by w spelling p k t us false h form same needed =
    parsed_dead w k t us form needed ∙ sym (parsed_dead (Of (Word Punctuator spelling 0)) (λ f. then_text p k) t us (no_punctuator spelling 0 t h) refl)

-- transformers
abbrev pub transformed_by : ℕ → Token → Bool → Bool → Option TextPlan
transformed_by start t a b =
    if a then Some (name_then 0 (λ tag. punctuator (codes "{") 0 (Want (Updates 1) (λ us. punctuator (codes "}") 0
    (Give (made (λ n. def start (kind.TransformStruct (record { name = tag; values = as_updates us })) ∷ [])))))))
    else when_some b (Some (punctuator (codes "=") 0 (conditional_then 0 (λ e. punctuator (codes ";") 0
    (Give (made (λ n. def start (kind.TransformGlobal (record { place = t.at; text = t.text }) e) ∷ [])))))))

pub transformed_struct : (start : ℕ) (us ts : List Token) → IsFirst (is Keyword (codes "struct")) ts us
    → text_reads (Transformed start) ts ≡ text_parsed (name_then 0 (λ tag. punctuator (codes "{") 0 (Want (Updates 1) (λ us. punctuator (codes "}") 0
    (Give (made (λ n. def start (kind.TransformStruct (record { name = tag; values = as_updates us })) ∷ []))))))) us
transformed_struct start us ts f =
    takes_first (Transformed start) Give _ f.0 us ts f.1 (ap (λ a. transformed_by start f.0 a (is_kind Identifier f.0)) f.2) (omega arith)

transformed_at : (start : ℕ) (t : Token) (us : List Token) (b : Bool) → is_kind Identifier t ≡ b → is Keyword (codes "struct") t ≡ false
    → text_reads (Transformed start) (t ∷ us) ≡ text_parsed (global_transformer_plan start) (t ∷ us)
transformed_at start t us true h no_ =
    parsed_takes (Transformed start) Give t us _ (ap (λ a. transformed_by start t a (is_kind Identifier t)) no_ ∙ ap (transformed_by start t false) h)
    ∙ ap (λ p. text_at_depth 0 (length (t ∷ us)) (text_parsed p us)) (then_give _)
    ∙ sym (parsed_takes (Of (Naming 0)) _ t us (Give (part (named (record { place = t.at; text = t.text }))))
    (ap (option_map (λ p. behind p (λ v. Give (part v)))) (ap (λ b. when_some b (Some (Return (named (record { place = t.at; text = t.text }))))) h)))
transformed_at start t us false h no_ =
    parsed_dead (Transformed start) Give t us (ap (λ a. transformed_by start t a (is_kind Identifier t)) no_ ∙ ap (transformed_by start t false) h) refl
    ∙ sym (parsed_dead (Of (Naming 0)) _ t us
    (ap (option_map (λ p. behind p (λ v. Give (part v)))) (ap (λ b. when_some b (Some (Return (named (record { place = t.at; text = t.text }))))) h)) refl)

pub transformed_global : (start : ℕ) (ts : List Token) → holds_ahead (is Keyword (codes "struct")) ts ≡ false
    → text_reads (Transformed start) ts ≡ text_parsed (global_transformer_plan start) ts
transformed_global start [] no_ = parsed_end (Transformed start) Give refl ∙ sym (parsed_end (Of (Naming 0)) _ refl)
transformed_global start (t ∷ us) no_ = transformed_at start t us (is_kind Identifier t) refl no_

-- functions
abbrev pub function_rest : ℕ → Option CType → Name → TextPlan
function_rest start r name = Want (ParameterList 1) (λ ps. punctuator (codes ")") 0 (function_by start r name (as_parameters ps)))

pub function_some : (start : ℕ) (r : Option CType) (name : Name) (k : Found → TextPlan) (ts : List Token) → holds_ahead (is Punctuator (codes "(")) ts ≡ true
    → text_parsed (Want (Function start r name) k) ts ≡ text_parsed (then_text (function_plan start r name) k) ts
function_some start r name k [] h = let e : false ≡ true = h in absurd (cc)
function_some start r name k (t ∷ us) h =
    parsed_takes (Function start r name) k t us (function_rest start r name) (ap (λ b. when_some b (Some (function_rest start r name))) h)
    ∙ sym (parsed_takes (Of (Word Punctuator (codes "(") 0)) _ t us (Give (part nothing)) (takes_punctuator (codes "(") 0 t h))

pub function_none : (start : ℕ) (ty : CType) (name : Name) (k : Found → TextPlan) (ts : List Token) → holds_ahead (is Punctuator (codes "(")) ts ≡ false
    → text_parsed (Want (Function start (Some ty) name) k) ts ≡ text_parsed (k (part nothing)) ts
function_none start ty name k ts h =
    passes_held (is Punctuator (codes "(")) (Function start (Some ty) name) k (part nothing) ts
    (λ t e. ap (λ b. when_some b (Some (function_rest start (Some ty) name))) e) refl h

pub function_void : (start : ℕ) (name : Name) (ts : List Token)
    → text_reads (Function start None name) ts ≡ text_parsed (function_plan start None name) ts
function_void start name [] = parsed_end (Function start None name) Give refl ∙ sym (parsed_end (Of (Word Punctuator (codes "(") 0)) _ refl)
function_void start name (t ∷ us) =
    punctuator_by (Function start None name) (codes "(") (function_rest start None name) Give t us (is Punctuator (codes "(") t) refl refl refl refl
    ∙ ap (λ p. text_parsed (punctuator (codes "(") 0 p) (t ∷ us)) (then_give (function_rest start None name))

abbrev pub body_by : ℕ → Option CType → Name → List Binding → Bool → Bool → Option TextPlan
body_by start r name bs a b =
    if a then Some (block_then 0 (λ ss end. Give (made (function_made start r name bs ss end))))
    else when_some b (Some (Give (made (prototype_made start r name (Named bs)))))

pub body_block : (start : ℕ) (r : Option CType) (name : Name) (bs : List Binding) (us ts : List Token) → IsFirst (is Punctuator (codes "{")) ts us
    → text_reads (Body start r name bs) ts ≡ text_parsed (block_then 0 (λ ss end. Give (made (function_made start r name bs ss end)))) us
body_block start r name bs us ts f =
    takes_first (Body start r name bs) Give _ f.0 us ts f.1 (ap (λ a. body_by start r name bs a (is Punctuator (codes ";") f.0)) f.2) (omega arith)

pub body_end : (start : ℕ) (r : Option CType) (name : Name) (bs : List Binding) (ts : List Token) → holds_ahead (is Punctuator (codes "{")) ts ≡ false
    → text_reads (Body start r name bs) ts ≡ text_parsed (punctuator (codes ";") 0 (Give (made (prototype_made start r name (Named bs))))) ts
body_end start r name bs [] no_ = parsed_end (Body start r name bs) Give refl ∙ sym (parsed_end (Of (Word Punctuator (codes ";") 0)) _ refl)
body_end start r name bs (t ∷ us) no_ =
    punctuator_by (Body start r name bs) (codes ";") (Give (made (prototype_made start r name (Named bs)))) Give t us (is Punctuator (codes ";") t) refl
    (ap (λ a. body_by start r name bs a (is Punctuator (codes ";") t)) no_) refl refl

-- what follows a struct's tag
abbrev pub tagged_by : ℕ → Name → Bool → Bool → Bool → Option TextPlan
tagged_by start tag a b c =
    if a then Some (type_then 1 (λ ty. then_text (members_behind 1 ty) (λ ms. punctuator (codes "}") 0 (punctuator (codes ";") 0
    (Give (made (λ n. def start (kind.Struct tag (as_bindings ms)) ∷ [])))))))
    else (if b then Some (Give (made (λ n. def start (kind.Forward tag) ∷ [])))
    else when_some c (Some (typed_item start (Handle tag))))

pub tagged_members : (start : ℕ) (tag : Name) (us ts : List Token) → IsFirst (is Punctuator (codes "{")) ts us
    → text_reads (Tagged start tag) ts ≡ text_parsed (members_then 1 (λ bs. punctuator (codes "}") 0 (punctuator (codes ";") 0
    (Give (made (λ n. def start (kind.Struct tag bs) ∷ [])))))) us
tagged_members start tag us ts f =
    takes_first (Tagged start tag) Give _ f.0 us ts f.1 (ap (λ a. tagged_by start tag a (is Punctuator (codes ";") f.0) (is Punctuator (codes "*") f.0)) f.2) (omega arith)

pub tagged_forward : (start : ℕ) (tag : Name) (us ts : List Token) → holds_ahead (is Punctuator (codes "{")) ts ≡ false → IsFirst (is Punctuator (codes ";")) ts us
    → text_reads (Tagged start tag) ts ≡ text_parsed (Give (made (λ n. def start (kind.Forward tag) ∷ []))) us
tagged_forward start tag us ts no_ f =
    takes_first (Tagged start tag) Give _ f.0 us ts f.1
    (ap (λ a. tagged_by start tag a (is Punctuator (codes ";") f.0) (is Punctuator (codes "*") f.0)) (sym (ap (holds_ahead (is Punctuator (codes "{"))) f.1) ∙ no_)
    ∙ ap (λ b. tagged_by start tag false b (is Punctuator (codes "*") f.0)) f.2) (omega arith)

typed_give : (start : ℕ) (ty : CType) → then_text (typed_item start ty) Give ≡ typed_item start ty
typed_give start ty = then_give (typed_item start ty)

pub tagged_star : (start : ℕ) (tag : Name) (ts : List Token) → holds_ahead (is Punctuator (codes "{")) ts ≡ false → holds_ahead (is Punctuator (codes ";")) ts ≡ false
    → text_reads (Tagged start tag) ts ≡ text_parsed (punctuator (codes "*") 0 (typed_item start (Handle tag))) ts
tagged_star start tag [] no_ none = parsed_end (Tagged start tag) Give refl ∙ sym (parsed_end (Of (Word Punctuator (codes "*") 0)) _ refl)
tagged_star start tag (t ∷ us) no_ none =
    punctuator_by (Tagged start tag) (codes "*") (typed_item start (Handle tag)) Give t us (is Punctuator (codes "*") t) refl
    (ap (λ a. tagged_by start tag a (is Punctuator (codes ";") t) (is Punctuator (codes "*") t)) no_ ∙ ap (λ b. tagged_by start tag false b (is Punctuator (codes "*") t)) none) refl refl
    ∙ ap (λ p. text_parsed (punctuator (codes "*") 0 p) (t ∷ us)) (typed_give start (Handle tag))

-- items
abbrev pub declared_by : Token → Bool → Bool → Option TextPlan
declared_by t a b =
    if a then Some (name_then 0 (λ name. Want (Function t.at None name) Give))
    else (if b then Some (name_then 0 (λ name. punctuator (codes ";") 0 (Give (made (λ n. def t.at (kind.Mutex name) ∷ [])))))
    else type_from 0 t (typed_item t.at))

pub declared_void : (t : Token) (us ts : List Token) → ts ≡ t ∷ us → is Keyword (codes "void") t ≡ true
    → text_reads Declared ts ≡ text_parsed (name_then 0 (λ name. Want (Function t.at None name) Give)) us
declared_void t us ts are h = takes_first Declared Give _ t us ts are (ap (λ a. declared_by t a (is LibraryWord (codes "mtx_t") t)) h) (omega arith)

pub declared_mutex : (t : Token) (us ts : List Token) → ts ≡ t ∷ us → is Keyword (codes "void") t ≡ false → is LibraryWord (codes "mtx_t") t ≡ true
    → text_reads Declared ts ≡ text_parsed (name_then 0 (λ name. punctuator (codes ";") 0 (Give (made (λ n. def t.at (kind.Mutex name) ∷ []))))) us
declared_mutex t us ts are no_ h =
    takes_first Declared Give _ t us ts are (ap (λ a. declared_by t a (is LibraryWord (codes "mtx_t") t)) no_ ∙ ap (declared_by t false) h) (omega arith)

typed_by : (t : Token) (us : List Token) (o : Option Plan) → type_plan 0 t ≡ o → text_takes Declared t ≡ type_from 0 t (typed_item t.at)
    → text_reads Declared (t ∷ us) ≡ text_parsed (type_then 0 (typed_item t.at)) (t ∷ us)
typed_by t us (Some p) h form =
    begins_as Declared (Typing 0) Return (λ v. typed_item t.at (as_type v)) Give t us p
    (form ∙ ap (option_map (λ p. behind (after p Return) (λ v. typed_item t.at (as_type v)))) h) h refl
    ∙ ap (λ (q : CType → TextPlan). text_parsed (type_then 0 q) (t ∷ us)) (fun_ext (λ ty. typed_give t.at ty))
typed_by t us None h form =
    parsed_dead Declared Give t us (form ∙ ap (option_map (λ p. behind (after p Return) (λ v. typed_item t.at (as_type v)))) h) refl
    ∙ sym (parsed_dead (Of (Typing 0)) _ t us (ap (option_map (λ p. behind p (λ v. Give (part v)))) h) refl)

pub declared_type : (t : Token) (us ts : List Token) → ts ≡ t ∷ us → is Keyword (codes "void") t ≡ false → is LibraryWord (codes "mtx_t") t ≡ false
    → text_reads Declared ts ≡ text_parsed (type_then 0 (typed_item t.at)) ts
declared_type t us ts are no_ none =
    rw are (typed_by t us (type_plan 0 t) refl (ap (λ a. declared_by t a (is LibraryWord (codes "mtx_t") t)) no_ ∙ ap (declared_by t false) none))

abbrev pub item_by : Token → Bool → Bool → Bool → Option TextPlan
item_by t a b c =
    if a then Some (Want Declared (λ f. Give (made (behind_static (as_made f)))))
    else (if b then Some (name_then 0 (λ tag. Want (Tagged t.at tag) Give))
    else (if c then Some (Want (Transformed t.at) Give) else declared_plan t))

pub item_static : (t : Token) (us ts : List Token) → ts ≡ t ∷ us → is Keyword (codes "static") t ≡ true
    → text_reads Item ts ≡ text_parsed (Want Declared (λ f. Give (made (behind_static (as_made f))))) us
item_static t us ts are h =
    takes_first Item Give _ t us ts are (ap (λ a. item_by t a (is Keyword (codes "struct") t) (is LibraryWord (codes "dsu_transform") t)) h) (omega arith)

item_form : (t : Token) (a b c : Bool) → is Keyword (codes "static") t ≡ a → is Keyword (codes "struct") t ≡ b → is LibraryWord (codes "dsu_transform") t ≡ c
    → text_takes Item t ≡ item_by t a b c
item_form t a b c e f g =
    ap (λ a. item_by t a (is Keyword (codes "struct") t) (is LibraryWord (codes "dsu_transform") t)) e
    ∙ ap (λ b. item_by t a b (is LibraryWord (codes "dsu_transform") t)) f ∙ ap (item_by t a b) g

pub item_struct : (t : Token) (us ts : List Token) → ts ≡ t ∷ us → is Keyword (codes "static") t ≡ false → is Keyword (codes "struct") t ≡ true
    → text_reads Item ts ≡ text_parsed (name_then 0 (λ tag. Want (Tagged t.at tag) Give)) us
item_struct t us ts are no_ h =
    takes_first Item Give _ t us ts are (item_form t false true (is LibraryWord (codes "dsu_transform") t) no_ h refl) (omega arith)

pub item_transformer : (t : Token) (us ts : List Token) → ts ≡ t ∷ us → is Keyword (codes "static") t ≡ false → is Keyword (codes "struct") t ≡ false
    → is LibraryWord (codes "dsu_transform") t ≡ true → text_reads Item ts ≡ text_reads (Transformed t.at) us
item_transformer t us ts are no_ none h = takes_first Item Give _ t us ts are (item_form t false false true no_ none h) (omega arith)

declared_at : (t : Token) (us : List Token) (o : Option TextPlan) → declared_plan t ≡ o → text_takes Item t ≡ declared_plan t
    → text_reads Item (t ∷ us) ≡ text_reads Declared (t ∷ us)
declared_at t us (Some p) h form = parsed_takes Item Give t us p (form ∙ h) ∙ sym (parsed_takes Declared Give t us p h)
declared_at t us None h form = parsed_dead Item Give t us (form ∙ h) refl ∙ sym (parsed_dead Declared Give t us h refl)

pub item_declared : (t : Token) (us ts : List Token) → ts ≡ t ∷ us → is Keyword (codes "static") t ≡ false → is Keyword (codes "struct") t ≡ false
    → is LibraryWord (codes "dsu_transform") t ≡ false → text_reads Item ts ≡ text_reads Declared ts
item_declared t us ts are no_ none neither = rw are (declared_at t us (declared_plan t) refl (item_form t false false false no_ none neither))

-- what items make
pub makes_tail : {T : Type 0} (r : Result T Stop) (count : ℕ) (before : List Def) (A : T → List Def) (R : T → List Token) {m behind : TextParsed} → m ≡ behind
    → MatchResult r (λ x. Makes behind count before (A x) (R x)) (λ s. TextStops s behind)
    → MatchResult r (λ x. Makes m count before (A x) (R x)) (λ s. TextStops s m)
makes_tail r count before A R e h = subst (λ n. MatchResult r (λ x. Makes n count before (A x) (R x)) (λ s. TextStops s n)) (sym e) h

-- definitions that no count changes
pub makes_plain : {m : TextParsed} (count : ℕ) (before all ds : List Def) (rest : List Token) → m ≡ found (made (λ n. ds)) rest → length rest ≤ count
    → all ≡ before ++ ds → Makes m count before all rest
makes_plain count before all ds rest e h f =
    record { by_count = λ n. ds; taken = count - length rest; gives = e; counted = omega arith; added = f }

-- a definition after others
pub makes_added : {m behind : TextParsed} (count : ℕ) (before all : List Def) (x : Def) (rest : List Token) → m ≡ behind
    → Makes behind count [] (x ∷ []) rest → all ≡ before ++ x ∷ [] → Makes m count before all rest
makes_added count before all x rest e h f =
    record { by_count = h.by_count; taken = h.taken; gives = e ∙ h.gives; counted = h.counted; added = f ∙ ap (λ l. before ++ l) h.added }

-- a function after a type
pub makes_typed : {m : TextParsed} (start : ℕ) (ty : CType) (name : Name) (ts : List Token) (count : ℕ) (before all : List Def) (x : Def) (rest : List Token)
    → m ≡ text_parsed (then_text (function_plan start (Some ty) name) (globals_by start ty name)) ts
    → Makes (text_parsed (function_plan start (Some ty) name) ts) count [] (x ∷ []) rest → all ≡ before ++ x ∷ [] → Makes m count before all rest
makes_typed start ty name ts count before all x rest e h f =
    record {
      by_count = h.by_count;
      taken = h.taken;
      gives = e ∙ parsed_then_text (function_plan start (Some ty) name) (globals_by start ty name) ts
          ∙ ap (λ y. text_next y (λ f rest. text_parsed (globals_by start ty name f) rest)) h.gives ∙ parsed_give (made h.by_count) rest;
      counted = h.counted;
      added = f ∙ ap (λ l. before ++ l) h.added;
    }

pub hands_then : {T : Type 0} (V : T → Type 0) (r : Result T Stop) (stop : Stop) {m : TextParsed} (p : TextPlan) (k : Found → TextPlan) (ts : List Token)
    → IsErrAnd r (λ told. told ≡ stop) → m ≡ text_parsed (then_text p k) ts → TextStops stop (text_parsed p ts)
    → MatchResult r V (λ s. TextStops s m)
hands_then V r stop p k ts told e h =
    hands V r stop told e (stops_text stop _ (λ f rest. text_parsed (k f) rest) (parsed_then_text p k ts) h)

-- globals
pub globals_tail : {T : Type 0} (r : Result T Stop) (count : ℕ) (before : List Def) (A : T → List Def) (R : T → List Token) (len : ℕ) {m behind : TextParsed}
    → m ≡ behind → len ≤ count
    → MatchResult r (λ x. (ds : List Def) × (behind ≡ found (made (λ n. ds)) (R x)) × (A x ≡ before ++ ds)) (λ s. TextStops s behind)
    → IfOk r (λ x. length (R x) < len) → MatchResult r (λ x. Makes m count before (A x) (R x)) (λ s. TextStops s m)
globals_tail (Ok x) count before A R len e h d w = makes_plain count before (A x) d.0 (R x) (e ∙ d.1) (omega (arith, h, w)) d.2
globals_tail (Err s) count before A R len e h d w = subst (TextStops s) (sym e) d

-- what comes after `static`
pub static_tail : {T : Type 0} (r : Result T Stop) (before : List Def) (A : T → List Def) (R : T → List Token) (ts us : List Token) {m : TextParsed}
    → m ≡ text_parsed (Want Declared (λ f. Give (made (behind_static (as_made f))))) us → length ts ≡ suc (length us)
    → MatchResult r (λ x. Makes (text_reads Declared us) (length us) before (A x) (R x)) (λ s. TextStops s (text_reads Declared us))
    → MatchResult r (λ x. Makes m (length ts) before (A x) (R x)) (λ s. TextStops s m)
static_tail (Ok x) before A R ts us e len h =
    record {
      by_count = behind_static h.by_count;
      taken = suc h.taken;
      gives = through _ _ _ e h.gives ∙ parsed_give _ _;
      counted = omega (arith, h.counted, len);
      added = h.added;
    }
static_tail (Err s) before A R ts us e len h =
    subst (TextStops s) (sym e) (stops_text s _ (λ f rest. text_parsed (Give (made (behind_static (as_made f)))) rest)
    (parsed_then_text (Want Declared Give) (λ f. Give (made (behind_static (as_made f)))) us) h)
