-- What accepted texts have: a function `main`, and each global and array under a name of its own.
use Rattle.std.proofs.Common.{◌≡◌, ◌≢◌, ℕ, true, false, List, [], ◌∷◌, ◌++◌, map, Option, Some, None, is_none, is_some, option_and_then, All, codes, refl, sym, ap, subst, ◌∙◌, arith}
use Rattle.std.specs.Prelude.{AllPairs}
use Rattle.std.proofs.lemmas.List.Elements.{All-cons, All-nil}
use Rattle.std.proofs.lemmas.List.Kept.{AllPairs-cons}
use Rattle.c_tree.specs.BareExpr.{Bytes}
use Rattle.c_tree.specs.BareDef.{BareDef}
use Rattle.c_tree.specs.Bare.{bare_def, bare_kind}
use Rattle.c_tree.specs.declared.name.CType.{CType}
use Rattle.c_tree.specs.declared.def.Def.{Def}
use Rattle.c_tree.specs.declared.def.DefKind.{DefKind}
use Rattle.c_tree.specs.declared.def.DefKind.TheVariants.{Struct, Forward, Mutex, Function, Prototype, Global, Array, TransformStruct, TransformGlobal}
use Rattle.c_definitions.specs.Lookup.{Meaning, definition_of, is_named, meaning_in, name_of}
use Rattle.c_definitions.specs.Lookup.Meaning.{AVariable, AnArray, AFunction, AMutex}
use Rattle.c_expr_types.specs.declared.fault.TypeKind.TheVariants.{DeclaredTwice, NoMain}
use Rattle.c_expr_types.specs.Expressions.{unknown_tag}
use Rattle.c_types.specs.Definitions.{all_faults, defines_main, is_main, kind_faults, main_faults, name_place, named_twice}
use Rattle.c_semantics.specs.SourceTexts.{Text}
use Rattle.source_model.specs.JournalLaws.{HasMain}
use Rattle.typed_uses.proofs.Faultless.{none_after, none_before, none_hidden, passes}
use Rattle.typed_uses.proofs.Lookups.{look}
use Rattle.frame_bodies.specs.AcceptedTexts.{IsAccepted, is_function}
use Rattle.frame_bodies.proofs.AcceptedFacts.{bare_of, facts_in}
use Rattle.frame_bodies.proofs.TypedExpressions.{function_of}
use Rattle.frame_bodies.proofs.OnlyOnce.{found_still, found_last}
use Rattle.world_laws.specs.Holdings.{names_with_cells}
use Rattle.world_laws.specs.WorldLaws.{NamedOnce}
use Rattle.world_laws.proofs.Found.{itself}

no : false ≡ true → ⊥
no e = cc

-- ---- main

-- what has the name main takes no arguments and returns a value
abbrev IsMain : Option Meaning → Type 0
IsMain m = (t : CType) × (m ≡ Some (AFunction (Some t) []))

main_is : (m : Option Meaning) → is_main m ≡ true → IsMain m
main_is None e = cc
main_is (Some (AVariable t)) e = cc
main_is (Some (AnArray t)) e = cc
main_is (Some AMutex) e = cc
main_is (Some (AFunction None types)) e = cc
main_is (Some (AFunction (Some t) (u ∷ us))) e = cc
main_is (Some (AFunction (Some t) [])) e = (t, refl)

main_found : (end : ℕ) (o : Option Def) → main_faults end o ≡ [] → IsMain (option_and_then (λ d. meaning_in d.kind) o)
main_found end None e = cc
main_found end (Some d) e = main_is (meaning_in d.kind) (passes (defines_main d.kind) NoMain (name_place end (name_of d.kind)) e)

function_there : (o : Option BareDef) → is_function o ≡ true → is_some o ≡ true
function_there None h = absurd (no h)
function_there (Some d) h = refl

pub main_in : (text : Text) → IsAccepted text → HasMain text.definitions
main_in text a =
    let ds = text.tree.definitions in
    let main = main_found text.tree.end (definition_of ds (codes "main")) (none_hidden (all_faults ds [] ds) _ a.accepted.types).1 in
    subst HasMain (bare_of text a)
    (function_there (look ds (codes "main")) (function_of ds (codes "main") (Some main.0) [] (facts_in text a) main.1))

-- ---- each name once

-- a name differs from those of some definitions that have cells
abbrev Apart : Bytes → List BareDef → Type 0
Apart n ds = All (λ m. n ≢ m) (names_with_cells ds)

-- a definition with cells has no name that is there before it
new_name : (text before : List Def) (e : Def) (n own : Bytes) → is_none (definition_of before n) ≡ false
    → is_none (definition_of before own) ≡ true → n ≢ own
new_name text before e n own there none is = no (sym there ∙ ap (λ x. is_none (definition_of before x)) is ∙ none)

variable_new : (text before : List Def) (e : Def) (k : DefKind) → kind_faults text before e k ≡ [] → (n : Bytes)
    → is_none (definition_of before n) ≡ false → (ds : List BareDef) → Apart n ds → Apart n (bare_kind k ∷ ds)
variable_new text before e (Global d) h n there ds rest =
    All-cons (λ m. n ≢ m) d.name.text (names_with_cells ds)
    (new_name text before e n d.name.text there
    (passes (is_none (definition_of before d.name.text)) DeclaredTwice d.name.place
    (none_before (named_twice before d.name) _ (none_after (unknown_tag text d.declared) _ (none_hidden _ _ h).1)))) rest
variable_new text before e (Array a) h n there ds rest =
    All-cons (λ m. n ≢ m) a.name.text (names_with_cells ds)
    (new_name text before e n a.name.text there
    (passes (is_none (definition_of before a.name.text)) DeclaredTwice a.name.place
    (none_before (named_twice before a.name) _ (none_after (unknown_tag text a.element) _ (none_hidden _ _ h).1)))) rest
variable_new text before e (Struct tag members) h n there ds rest = rest
variable_new text before e (Forward tag) h n there ds rest = rest
variable_new text before e (Mutex name) h n there ds rest = rest
variable_new text before e (Function f) h n there ds rest = rest
variable_new text before e (Prototype p) h n there ds rest = rest
variable_new text before e (TransformStruct t) h n there ds rest = rest
variable_new text before e (TransformGlobal name v) h n there ds rest = rest

later_apart : (text before ds : List Def) (n : Bytes) → is_none (definition_of before n) ≡ false → all_faults text before ds ≡ []
    → Apart n (map bare_def ds)
later_apart text before [] n there h = All-nil (λ m. n ≢ m)
later_apart text before (e ∷ es) n there h =
    let own = kind_faults text before e e.kind in
    variable_new text before e e.kind (none_before own _ h) n there (map bare_def es)
    (later_apart text (before ++ e ∷ []) es n (found_still (λ d. is_named n (name_of d.kind)) before (e ∷ []) there) (none_after own _ h))

once_from : (text before ds : List Def) → all_faults text before ds ≡ [] → AllPairs (λ a b. a ≢ b) (names_with_cells (map bare_def ds))
once_from text before [] h = λ i j d less within. absurd (omega arith)
once_from text before (d ∷ ds) h = by d.place d.kind (once_from text (before ++ d ∷ []) ds rest) rest
  where
    rest : all_faults text (before ++ d ∷ []) ds ≡ []
    rest = none_after (kind_faults text before d d.kind) _ h

    more : (place : ℕ) (k : DefKind) (n : Bytes) → is_named n (name_of k) ≡ true
        → AllPairs (λ a b. a ≢ b) (names_with_cells (map bare_def ds)) → all_faults text (before ++ record { place = place; kind = k } ∷ []) ds ≡ []
        → AllPairs (λ a b. a ≢ b) (n ∷ names_with_cells (map bare_def ds))
    more place k n own others faults =
        AllPairs-cons (λ a b. a ≢ b) n (names_with_cells (map bare_def ds))
        (later_apart text (before ++ record { place = place; kind = k } ∷ []) ds n
        (found_last (λ d. is_named n (name_of d.kind)) before (record { place = place; kind = k }) own) faults) others

    by : (place : ℕ) (k : DefKind) → AllPairs (λ a b. a ≢ b) (names_with_cells (map bare_def ds))
        → all_faults text (before ++ record { place = place; kind = k } ∷ []) ds ≡ []
        → AllPairs (λ a b. a ≢ b) (names_with_cells (bare_kind k ∷ map bare_def ds))
    by place (Global v) others faults = more place (Global v) v.name.text (itself v.name.text) others faults
    by place (Array a) others faults = more place (Array a) a.name.text (itself a.name.text) others faults
    by place (Struct tag members) others faults = others
    by place (Forward tag) others faults = others
    by place (Mutex name) others faults = others
    by place (Function f) others faults = others
    by place (Prototype p) others faults = others
    by place (TransformStruct t) others faults = others
    by place (TransformGlobal name v) others faults = others

pub named_once : NamedOnce
named_once text a =
    let ds = text.tree.definitions in
    subst (λ x. AllPairs (λ a b. a ≢ b) (names_with_cells x)) (bare_of text a) (once_from ds [] ds (none_hidden _ _ a.accepted.types).0)
