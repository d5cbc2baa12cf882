-- How the changes of names are made of their definitions, one by one and together.
use Rattle.std.proofs.Common.{◌≡◌, Bool, true, false, not, ◌&&◌, List, [], ◌∷◌, ◌++◌, map, filter, Option, None, Some, bytes_eq, refl, sym, ap, ◌∙◌, subst, if◌then◌else◌}
use Rattle.std.specs.Prelude.{All, is_some}
use Rattle.std.specs.Option.{option_map_or}
use Rattle.std.proofs.lemmas.List.{map_push}
use Rattle.std.proofs.lemmas.List.Elements.{All-push, filter-append}
use Rattle.std.proofs.lemmas.Slice.Eq.{bytes_eq-Decides}
use Rattle.name_sets.specs.NameLists.{name_set}
use Rattle.c_tree.specs.BareExpr.{Bytes, BareExpr}
use Rattle.c_tree.specs.BareDef.{BareBinding, BareFieldValue, BareDef, Struct}
use Rattle.c_semantics.specs.Names.{struct_name}
use Rattle.c_semantics.specs.Texts.{defined, defines, definition, members_of, names}
use Rattle.c_semantics.specs.Changes.{same_interface, agree}
use Rattle.c_semantics.specs.Transformers.{given_fields, given_value, new_cells}
use Rattle.versioned_structs.specs.Transforms.{layout_in}
use Rattle.versioned_structs.specs.declared.transform.FieldChange.{FieldChange}
use Rattle.type_transformers.specs.declared.change.Change.{Change}
use Rattle.type_transformers.specs.declared.change.Change.TheVariants as change
use Rattle.type_transformers.specs.declared.global.GlobalChange.{GlobalChange}
use Rattle.type_transformers.specs.Hows.{how_global}
use Rattle.type_transformers.specs.Fields.{AreFieldChanges}
use Rattle.type_transformers.specs.Globals.{IsGlobalBy}
use Rattle.type_transformers.specs.Changes.{has_cells, has_data, is_struct, changing, name_of, IsChange}
use Rattle.type_transformers.specs.Made.{has_new_data, changes_data, is_changing, IsMadeFrom, IsMadeIf, IsChangeFor, Adds}
use Rattle.type_transformers.proofs.FieldChanges.{changes_transform, hows}

-- ---- one change

pub struct_made : (a : BareDef) (q : List BareDef) (tag : Bytes) (layout members : List BareBinding) (given : List BareFieldValue) (changes : List FieldChange)
    → layout ≡ members_of (Some a) → given ≡ given_fields q tag → AreFieldChanges layout given members changes
    → IsMadeFrom a (Struct tag members) q (change.Struct tag changes)
struct_made a q tag layout members given changes layout_is given_is are = λ p name named was is.
    let same : struct_name tag ≡ name = cc in
    let before : layout ≡ layout_in p tag = layout_is ∙ ap members_of (sym (ap (definition p) same ∙ was)) in
    let after : members ≡ layout_in q tag = ap members_of (sym (ap (definition q) same ∙ is)) in
    let all : AreFieldChanges (layout_in p tag) (given_fields q tag) (layout_in q tag) changes =
    subst {A = List BareBinding} (λ l. AreFieldChanges l (given_fields q tag) (layout_in q tag) changes) before
    (subst {A = List BareFieldValue} (λ g. AreFieldChanges layout g (layout_in q tag) changes) given_is
    (subst {A = List BareBinding} (λ m. AreFieldChanges layout given m changes) after are))
    in
    record {
      named = same;
      is = record {
        defined = ap is_struct (ap (definition q) same ∙ is);
        transform = changes_transform p q tag changes all;
        hows = hows (layout_in p tag) (given_fields q tag) (layout_in q tag) changes all;
      };
    }

pub global_made : (a b : BareDef) (own : Bytes) (q : List BareDef) (given : Option BareExpr) (made : GlobalChange)
    → defined b ≡ Some own → has_cells (Some b) ≡ true → given ≡ given_value q own → IsGlobalBy (Some a) (Some b) given made
    → IsMadeFrom a b q (change.Global own made)
global_made a b own q given made owns cells given_is by = λ p name named was is.
    let same : own ≡ name = cc in
    let before : definition p own ≡ Some a = ap (definition p) same ∙ was in
    let after : definition q own ≡ Some b = ap (definition q) same ∙ is in
    record {
      named = same;
      is = record {
        defined = ap has_cells after ∙ cells;
        cells = λ cells.
            by.cells cells
            ∙ sym (ap (λ o. new_cells o (definition q own) (given_value q own) cells) before
            ∙ ap (λ o. new_cells (Some a) o (given_value q own) cells) after
            ∙ ap (λ g. new_cells (Some a) (Some b) g cells) (sym given_is));
        how =
            by.how
            ∙ sym (ap (λ o. how_global o (definition q own) (given_value q own)) before
            ∙ ap (λ o. how_global (Some a) o (given_value q own)) after
            ∙ ap (λ g. how_global (Some a) (Some b) g) (sym given_is));
      };
    }

-- ---- whether a name has one

-- a definition that is found for a name defines it
found_defines : (name : Bytes) (d : BareDef) → defines name d ≡ true → defined d ≡ Some name
found_defines name d e = by (defined d) e
  where
    by : (own : Option Bytes) → option_map_or (bytes_eq name) own false ≡ true → own ≡ Some name
    by None e = cc
    by (Some x) e = ap Some (sym ((bytes_eq-Decides name x).0 e))

found_name : (text : List BareDef) (name : Bytes) (b : BareDef) → definition text name ≡ Some b → defined b ≡ Some name
found_name [] name b e = cc
found_name (d ∷ text) name b e = by (defines name d) refl (found_name text name b) e
  where
    by : (t : Bool) → defines name d ≡ t → (definition text name ≡ Some b → defined b ≡ Some name)
        → (if t then Some d else definition text name) ≡ Some b → defined b ≡ Some name
    by true is rest e = let same : d ≡ b = cc in subst {A = BareDef} (λ d. defined d ≡ Some name) same (found_defines name d is)
    by false is rest e = rest e

both_defined : (p q : List BareDef) (name : Bytes) (a b : BareDef) → definition p name ≡ Some a → definition q name ≡ Some b
    → is_changing p q name ≡ has_new_data a b
both_defined p q name a b was is =
    ap (λ o. changes_data o (definition q name)) was ∙ ap (changes_data (Some a)) is

pub change_made : (p q : List BareDef) (name : Bytes) (a b : BareDef) (o : Option Change)
    → definition p name ≡ Some a → definition q name ≡ Some b → has_new_data a b ≡ true → IsMadeIf a b q o
    → IsChangeFor p q name o
change_made p q name a b None was is new none =
    let never : false ≡ true = sym (ap (λ t. t && not (same_interface a b)) none) ∙ new in cc
change_made p q name a b (Some c) was is new made =
    (both_defined p q name a b was is ∙ new, made p name (found_name q name b is) was is)

pub no_change : (p q : List BareDef) (name : Bytes) (a b : BareDef)
    → definition p name ≡ Some a → definition q name ≡ Some b → has_new_data a b ≡ false → is_changing p q name ≡ false
no_change p q name a b was is old = both_defined p q name a b was is ∙ old

pub not_before : (p q : List BareDef) (name : Bytes) → definition p name ≡ None → is_changing p q name ≡ false
not_before p q name was = ap (λ o. changes_data o (definition q name)) was

pub not_after : (p q : List BareDef) (name : Bytes) (a : BareDef) → definition p name ≡ Some a → definition q name ≡ None → is_changing p q name ≡ false
not_after p q name a was is = ap (λ o. changes_data o (definition q name)) was ∙ ap (changes_data (Some a)) is

-- ---- all changes

one_kept : (p q : List BareDef) (name : Bytes) (t : Bool) → is_changing p q name ≡ t
    → filter (is_changing p q) (name ∷ []) ≡ (if t then name ∷ [] else [])
one_kept p q name t is = ap (λ t. if t then name ∷ [] else []) is

pub adds_one : (p q : List BareDef) (name : Bytes) (old new : List Change) (c : Change)
    → IsChangeFor p q name (Some c) → new ≡ old ++ c ∷ [] → Adds p q name old new
adds_one p q name old new c made is = λ names are. record {
  named =
      ap (map name_of) is ∙ map_push name_of old c
      ∙ ap (λ xs. xs ++ name_of c ∷ []) are.named
      ∙ ap (λ n. filter (is_changing p q) names ++ n ∷ []) made.1.named
      ∙ ap (λ xs. filter (is_changing p q) names ++ xs) (sym (one_kept p q name true made.0))
      ∙ sym (filter-append (is_changing p q) names (name ∷ []));
  are = subst {A = List Change} (All (IsChange p q)) (sym is) (All-push (IsChange p q) old c are.are made.1.is);
}

without_more : (xs ys : List Bytes) → ys ≡ [] → xs ≡ xs ++ ys
without_more [] ys e = sym e
without_more (x ∷ xs) ys e = ap (λ zs. x ∷ zs) (without_more xs ys e)

pub adds_none : (p q : List BareDef) (name : Bytes) (old : List Change) → is_changing p q name ≡ false → Adds p q name old old
adds_none p q name old none = λ names are. record {
  named =
      are.named
      ∙ without_more (filter (is_changing p q) names) (filter (is_changing p q) (name ∷ [])) (one_kept p q name false none)
      ∙ sym (filter-append (is_changing p q) names (name ∷ []));
  are = are.are;
}

-- ---- the names that have one

commutes : (s h : Bool) → (h && not s) ≡ (not s && (true && h))
commutes true true = refl
commutes true false = refl
commutes false true = refl
commutes false false = refl

alike : (a b : Option BareDef) → changes_data a b ≡ (not (agree same_interface a b) && (is_some a && has_data b))
alike None b = refl
alike (Some a) None = refl
alike (Some a) (Some b) = commutes (same_interface a b) (has_data (Some b))

filtered_twice : (f g h : Bytes → Bool) → ((z : Bytes) → h z ≡ (g z && f z)) → (zs : List Bytes) → filter h zs ≡ filter f (filter g zs)
filtered_twice f g h same [] = refl
filtered_twice f g h same (z ∷ zs) =
    ap (λ t. if t then z ∷ filter h zs else filter h zs) (same z) ∙ by (g z) (f z) refl (filtered_twice f g h same zs)
  where
    by : (s t : Bool) → f z ≡ t → filter h zs ≡ filter f (filter g zs)
        → (if s && t then z ∷ filter h zs else filter h zs) ≡ filter f (if s then z ∷ filter g zs else filter g zs)
    by true true is rest = ap (λ l. z ∷ l) rest ∙ sym (ap (λ t. if t then z ∷ filter f (filter g zs) else filter f (filter g zs)) is)
    by true false is rest = rest ∙ sym (ap (λ t. if t then z ∷ filter f (filter g zs) else filter f (filter g zs)) is)
    by false t is rest = rest

pub all_changing : (p q : List BareDef) → filter (is_changing p q) (name_set (names p)) ≡ changing p q
all_changing p q =
    filtered_twice (λ z. is_some (definition p z) && has_data (definition q z)) (λ z. not (agree same_interface (definition p z) (definition q z)))
    (is_changing p q) (λ z. alike (definition p z) (definition q z)) (name_set (names p))
