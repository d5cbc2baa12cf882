-- What definitions are made of, and what a list of them has by name.
use Rattle.std.proofs.Common.{◌≡◌, ℕ, ◌+◌, ◌<◌, Bool, true, false, List, [], ◌∷◌, ◌++◌, length, get_or, map, take, find, Option, Some, None, refl, sym, ap, subst, ◌∙◌, if◌then◌else◌}
use Rattle.std.specs.Prelude.{bytes_eq, slice_get, IfSome, Result, Ok, Err, IfOk, Vec}
use Rattle.std.specs.declared.alloc.Global.{Global}
use Rattle.std.specs.Option.{is_some, option_and_then, option_map_or, option_or}
use Rattle.std.proofs.lemmas.List.{take_more, map-append}
use Rattle.std.proofs.lemmas.List.Folds.{find-append}
use Rattle.c_ints.specs.declared.kind.Kind.TheVariants.{I32}
use Rattle.c_tree.specs.declared.def.Def.{Def}
use Rattle.c_tree.specs.Bare.{bare_def}
use Rattle.c_tree.specs.BareExpr.{Bytes}
use Rattle.c_tree.specs.BareDef.{BareBinding, BareDef, Struct}
use Rattle.c_semantics.specs.Names.{struct_name}
use Rattle.c_semantics.specs.Resolved.{NoStatements}
use Rattle.c_semantics.specs.Texts.{Definitions, defined, defines, definition, names}
use Rattle.resolved_tree.specs.declared.node.ValueType.TheVariants.{Integer}
use Rattle.source_programs.specs.declared.definition.Binding.{Binding}
use Rattle.source_programs.specs.declared.definition.Definition.{Definition}
use Rattle.resolved_tree.specs.declared.words.Word.{Word}
use Rattle.resolved_tree.specs.Nodes.{Table, word, type_of, statements_at}
use Rattle.name_resolution.specs.Found.{Grows}
use Rattle.name_resolution.specs.Known.{known_of}
use Rattle.source_programs.specs.Definitions.{bindings_of, kept, IsDefinition, IsPlain, Defines, DefinesIf, AreDefinitions, names_in, tree_kept}
use Rattle.source_programs.proofs.Reported.{reported_none, reported_some}

-- ---- one definition

-- what has only its name
pub plain_ok : {E : Type 0} (now : Table) (r : Result Definition E) (name : Word) (own : Bytes) (members : List Binding)
    → IfOk r (λ d. d.name ≡ name) → IfOk r (λ d. d.parameters.items ≡ [])
    → IfOk r (λ d. (u : Table) → Grows now u → statements_at u d.body ≡ NoStatements) → IfOk r (λ d. d.result ≡ Integer I32)
    → IfOk r (λ d. d.members.items ≡ members) → members ≡ [] → ((u : Table) → Grows now u → word u name ≡ own)
    → IfOk r (λ d. (u : Table) → Grows now u → IsPlain u d own)
plain_ok now (Ok d) name own members n p b r m none w = λ u g. record {
  name = ap (word u) n ∙ w u g;
  parameters = ap (bindings_of u) p;
  members = ap (bindings_of u) (m ∙ none);
  result = ap (type_of u) r;
  body = b u g;
}
plain_ok now (Err x) name own members n p b r m none w = tt

-- a struct
pub struct_ok : {E : Type 0} (now : Table) (r : Result Definition E) (name : Word) (tag : Bytes) (members : List Binding) (own : List BareBinding)
    → IfOk r (λ d. d.name ≡ name) → IfOk r (λ d. d.parameters.items ≡ [])
    → IfOk r (λ d. (u : Table) → Grows now u → statements_at u d.body ≡ NoStatements) → IfOk r (λ d. d.result ≡ Integer I32)
    → IfOk r (λ d. d.members.items ≡ members) → ((u : Table) → Grows now u → bindings_of u members ≡ own)
    → ((u : Table) → Grows now u → word u name ≡ struct_name tag)
    → IfOk r (λ d. (u : Table) → Grows now u → (look : Definitions) → Defines u look d (Struct tag own))
struct_ok now (Ok d) name tag members own n p b r m fields w = λ u g look. record {
  name = ap Some (sym (ap (word u) n ∙ w u g));
  definition = record {
    there = refl;
    parameters = ap (bindings_of u) p;
    members = ap (bindings_of u) m ∙ fields u g;
    result = ap (type_of u) r;
    body = b u g;
  };
}
struct_ok now (Err x) name tag members own n p b r m fields w = tt

-- ---- definitions by name

as_definition : (t : Table) (look : Definitions) (a c : Option Definition) (b e : Option BareDef) → c ≡ a → e ≡ b → IsDefinition t look a b → IsDefinition t look c e
as_definition t look a c b e p q h =
    let P : Option Definition → Type 0 = λ x. IsDefinition t look x b in
    let Q : Option BareDef → Type 0 = λ x. IsDefinition t look c x in
    subst Q (sym q) (subst P (sym p) h)

-- nothing is what a text doesn't define
no_definition : (t : Table) (look : Definitions) → IsDefinition t look None None
no_definition t look = record { there = refl; parameters = refl; members = refl; result = refl; body = refl }

-- the first of two wins
either_definition : (t : Table) (look : Definitions) (a c : Option Definition) (b e : Option BareDef)
    → IsDefinition t look a b → IsDefinition t look c e → IsDefinition t look (option_or a c) (option_or b e)
either_definition t look None c None e h k = k
either_definition t look None c (Some y) e h k = let no : false ≡ true = h.there in absurd (cc)
either_definition t look (Some x) c None e h k = let no : true ≡ false = h.there in absurd (cc)
either_definition t look (Some x) c (Some y) e h k = h

or_nothing : (o : Option BareDef) → option_or o None ≡ o
or_nothing None = refl
or_nothing (Some d) = refl

-- what a text defines with one more definition that defines nothing
same_definitions : (text texts : List BareDef) (own : BareDef) → texts ≡ text ++ own ∷ [] → defined own ≡ None
    → (name : Bytes) → definition texts name ≡ definition text name
same_definitions text texts own e none name =
    ap (λ xs. definition xs name) e ∙ find-append (defines name) text (own ∷ [])
    ∙ ap (λ o. option_or (definition text name) (if option_map_or (bytes_eq name) o false then Some own else None)) none
    ∙ or_nothing (definition text name)

-- and with one that defines a name
more_definitions : (text texts : List BareDef) (own : BareDef) (n : Bytes) → texts ≡ text ++ own ∷ [] → defined own ≡ Some n
    → (name : Bytes) → definition texts name ≡ option_or (definition text name) (if bytes_eq name n then Some own else None)
more_definitions text texts own n e is name =
    ap (λ xs. definition xs name) e ∙ find-append (defines name) text (own ∷ [])
    ∙ ap (λ o. option_or (definition text name) (if option_map_or (bytes_eq name) o false then Some own else None)) is

-- what is kept with one more definition
more_kept : (t : Table) (ds more : List Definition) (d : Definition) → more ≡ ds ++ d ∷ []
    → (name : Bytes) → kept t more name ≡ option_or (kept t ds name) (if bytes_eq name (word t d.name) then Some d else None)
more_kept t ds more d e name =
    let same : Definition → Bool = λ x. bytes_eq name (word t x.name) in
    ap (find same) e ∙ find-append same ds (d ∷ [])

-- one more definition of a text that defines nothing
pub added_none : (t : Table) (look : Definitions) (ds : List Definition) (text texts : List BareDef) (own : BareDef) → texts ≡ text ++ own ∷ []
    → defined own ≡ None → (name : Bytes) → IsDefinition t look (kept t ds name) (definition text name) → IsDefinition t look (kept t ds name) (definition texts name)
added_none t look ds text texts own e none name h =
    as_definition t look (kept t ds name) (kept t ds name) (definition text name) (definition texts name) refl (same_definitions text texts own e none name) h

-- one more definition of a text with what it defines
pub added_some : (t : Table) (look : Definitions) (ds more : List Definition) (text texts : List BareDef) (d : Definition) (own : BareDef)
    → more ≡ ds ++ d ∷ [] → texts ≡ text ++ own ∷ [] → Defines t look d own
    → (name : Bytes) → IsDefinition t look (kept t ds name) (definition text name) → IsDefinition t look (kept t more name) (definition texts name)
added_some t look ds more text texts d own e f made name h =
    let here = bytes_eq name (word t d.name) in
    as_definition t look (option_or (kept t ds name) (if here then Some d else None)) (kept t more name)
    (option_or (definition text name) (if here then Some own else None)) (definition texts name)
    (more_kept t ds more d e name) (more_definitions text texts own (word t d.name) f made.name name)
    (either_definition t look (kept t ds name) (if here then Some d else None) (definition text name) (if here then Some own else None) h (last here))
  where
    last : (b : Bool) → IsDefinition t look (if b then Some d else None) (if b then Some own else None)
    last true = made.definition
    last false = no_definition t look

-- ---- their trees

-- the tree of what is kept, after one more definition that defines nothing
pub trees_none : (t : Table) (whole : List BareDef) (ds : List Definition) (text texts : List BareDef) (own : BareDef) → texts ≡ text ++ own ∷ []
    → defined own ≡ None → (name : Bytes) → tree_kept t whole ds name ≡ definition text name → tree_kept t whole ds name ≡ definition texts name
trees_none t whole ds text texts own e none name h = h ∙ sym (same_definitions text texts own e none name)

-- and after one with what it defines
pub trees_some : (t : Table) (whole : List BareDef) (ds more : List Definition) (text texts : List BareDef) (d : Definition) (own : BareDef)
    → more ≡ ds ++ d ∷ [] → texts ≡ text ++ own ∷ [] → defined own ≡ Some (word t d.name) → slice_get whole d.place ≡ Some own
    → (name : Bytes) → is_some (kept t ds name) ≡ is_some (definition text name)
    → tree_kept t whole ds name ≡ definition text name → tree_kept t whole more name ≡ definition texts name
trees_some t whole ds more text texts d own e f named placed name there h =
    let here = bytes_eq name (word t d.name) in
    ap (option_and_then at) (more_kept t ds more d e name)
    ∙ by (kept t ds name) (definition text name) here there h
    ∙ sym (more_definitions text texts own (word t d.name) f named name)
  where
    at : Definition → Option BareDef
    at x = slice_get whole x.place

    last : (b : Bool) → option_and_then at (if b then Some d else None) ≡ (if b then Some own else None)
    last true = placed
    last false = refl

    by : (a : Option Definition) (b : Option BareDef) (here : Bool) → is_some a ≡ is_some b → option_and_then at a ≡ b
        → option_and_then at (option_or a (if here then Some d else None)) ≡ option_or b (if here then Some own else None)
    by None None here i g = last here
    by None (Some y) here i g = cc
    by (Some x) None here i g = cc
    by (Some x) (Some y) here i g = g

-- ---- a list of definitions

-- definitions are those of a text, by name and in order, with the places of their trees in a whole text
pub record AreOf (t : Table) (look : Definitions) (whole text : List BareDef) (ds : List Definition) : Type 0 where
  pub made : (name : Bytes) → IsDefinition t look (kept t ds name) (definition text name)
  pub trees : (name : Bytes) → tree_kept t whole ds name ≡ definition text name
  pub names : names_in t ds ≡ names text

-- those of no text
pub are_of_none : (t : Table) (look : Definitions) (whole : List BareDef) (ds : List Definition) → ds ≡ [] → AreOf t look whole [] ds
are_of_none t look whole ds e =
    subst (AreOf t look whole []) (sym e) (record { made = λ name. no_definition t look; trees = λ name. refl; names = refl })

-- one more that defines nothing
pub are_of_same : (t : Table) (look : Definitions) (whole text texts : List BareDef) (ds more : List Definition) (own : BareDef) → more ≡ ds
    → texts ≡ text ++ own ∷ [] → defined own ≡ None → AreOf t look whole text ds → AreOf t look whole texts more
are_of_same t look whole text texts ds more own same longer none before =
    subst (AreOf t look whole texts) (sym same) (record {
      made = λ name. added_none t look ds text texts own longer none name (before.made name);
      trees = λ name. trees_none t whole ds text texts own longer none name (before.trees name);
      names = reported_none (λ d. word t d.name) defined ds text texts own longer before.names (sym none);
    })

-- one more that defines a name
pub are_of_more : (t : Table) (look : Definitions) (whole text texts : List BareDef) (ds more : List Definition) (d : Definition) (own : BareDef)
    → more ≡ ds ++ d ∷ [] → texts ≡ text ++ own ∷ [] → Defines t look d own → slice_get whole d.place ≡ Some own
    → AreOf t look whole text ds → AreOf t look whole texts more
are_of_more t look whole text texts ds more d own e longer made placed before = record {
  made = λ name. added_some t look ds more text texts d own e longer made name (before.made name);
  trees = λ name. trees_some t whole ds more text texts d own e longer made.name placed name (before.made name).there (before.trees name);
  names = reported_some (λ d. word t d.name) defined ds more d text texts own e longer before.names (sym made.name);
}

-- the first definitions of a text with the next one
pub next_definition : {A B : Type 0} (f : A → B) (xs : List A) (i : ℕ) (x : A) → i < length xs → x ≡ get_or xs i x
    → map f (take (i + 1) xs) ≡ map f (take i xs) ++ f x ∷ []
next_definition f xs i x l is = ap (map f) (take_more xs i x l ∙ ap (λ z. take i xs ++ z ∷ []) (sym is)) ∙ map-append f (take i xs) (x ∷ [])

-- ---- what a call gives

pub defines_some : (t : Table) (by look : Definitions) (o : Option Definition) (d : Definition) (own : BareDef) → by ≡ look → o ≡ Some d
    → DefinesIf t by o own → Defines t look d own
defines_some t by look o d own e f h =
    let P : Definitions → Type 0 = λ x. DefinesIf t x o own in
    let Q : Option Definition → Type 0 = λ x. DefinesIf t look x own in
    subst Q f (subst P e h)

pub defines_none : (t : Table) (look : Definitions) (o : Option Definition) (own : BareDef) → o ≡ None → DefinesIf t look o own → defined own ≡ None
defines_none t look o own f h = let Q : Option Definition → Type 0 = λ x. DefinesIf t look x own in subst Q f h

-- the definitions of a text that are known are the text's own
pub defined_by_text : {E : Type 0} (now : Table) (known text : List Def) (r : Result (Vec Definition Global) E) → known ≡ text
    → IfOk r (λ ds. (u : Table) → Grows now u → (name : Bytes) → IsDefinition u (known_of known) (kept u ds.items name) (definition (map bare_def text) name))
    → IfOk r (λ ds. (u : Table) → Grows now u → AreDefinitions u (map bare_def text) ds.items)
defined_by_text now known text r same h =
    let P : List Def → Type 0 = λ k. IfOk r (λ ds. (u : Table) → Grows now u → (name : Bytes) → IsDefinition u (known_of k) (kept u ds.items name) (definition (map bare_def text) name)) in
    subst P same h

-- the place of what a call made
pub place_some : (o : Option Definition) (d : Definition) (place : ℕ) → o ≡ Some d → IfSome o (λ x. x.place ≡ place) → d.place ≡ place
place_some o d place e h = subst (λ x. IfSome x (λ y. y.place ≡ place)) e h
