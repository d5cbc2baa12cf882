-- The lines of the changes between two texts are those of the names that are transformed.
use Rattle.std.proofs.Common.{◌≡◌, ℕ, Bool, true, false, ◌&&◌, cond, List, [], ◌∷◌, ◌++◌, map, Option, None, Some, bytes_eq, refl, sym, ◌∙◌, ap, subst, if◌then◌else◌}
use Rattle.std.specs.Prelude.{All, filter, is_some}
use Rattle.std.specs.Option.{option_map_or}
use Rattle.std.specs.List.{flat_map}
use Rattle.std.proofs.lemmas.Bool.{false≢true}
use Rattle.std.proofs.lemmas.Option.{same_Some}
use Rattle.std.proofs.lemmas.Slice.Eq.{bytes_eq-Decides}
use Rattle.std.proofs.lemmas.List.Elements.{All-nil, All-cons, All-head, All-tail}
use Rattle.c_tree.specs.BareExpr.{Bytes}
use Rattle.c_tree.specs.BareDef.{BareBinding, BareDef}
use Rattle.c_tree.specs.BareDef as def
use Rattle.c_semantics.specs.Names.{struct_name}
use Rattle.c_semantics.specs.Texts.{defined, defines, definition, members_of}
use Rattle.c_semantics.specs.Changes.{interface}
use Rattle.c_semantics.specs.Transformers.{given_fields, given_value}
use Rattle.type_transformers.specs.Hows.{How, how_field, how_global, how_of_global}
use Rattle.type_transformers.specs.Changes.{IsChange, changing, has_cells, has_data, is_struct, name_of}
use Rattle.type_transformers.specs.declared.change.Change.{Change}
use Rattle.type_transformers.specs.declared.change.Change.TheVariants as change
use Rattle.changes_report.specs.ChangesText.{field_line, global_line, lines_by, transform_lines}
use Rattle.changes_report.specs.Shown.{change_text, fields_text}

-- names without lines may be left out
pub kept_lines : {X : Type 0} (f : X → List ℕ) (test : X → Bool) → ((x : X) → test x ≡ false → f x ≡ []) → (xs : List X)
    → flat_map f (filter test xs) ≡ flat_map f xs
kept_lines f test silent [] = refl
kept_lines {X} f test silent (x ∷ xs) = by (test x) refl (kept_lines f test silent xs)
  where
    by : (b : Bool) → test x ≡ b → flat_map f (filter test xs) ≡ flat_map f xs
        → flat_map f (cond b (x ∷ filter test xs) (filter test xs)) ≡ f x ++ flat_map f xs
    by true is rest = ap (λ ys. f x ++ ys) rest
    by false is rest = rest ∙ ap (λ ys. ys ++ flat_map f xs) (sym (silent x is))

-- each item has the lines of its name
pub named_lines : {X Y : Type 0} (f : Y → List ℕ) (g : X → List ℕ) (name : X → Y) (xs : List X) → All (λ x. g x ≡ f (name x)) xs
    → flat_map g xs ≡ flat_map f (map name xs)
named_lines f g name [] all = refl
named_lines f g name (x ∷ xs) all =
    ap (λ ys. ys ++ flat_map g xs) (All-head (λ x. g x ≡ f (name x)) x xs all)
    ∙ ap (λ ys. f (name x) ++ ys) (named_lines f g name xs (All-tail (λ x. g x ≡ f (name x)) x xs all))

-- the lines of fields by how each comes
pub fields_are : (name : Bytes) (how : BareBinding → How) (bs : List BareBinding)
    → fields_text name bs (map how bs) ≡ flat_map (λ b. field_line name b.name (how b)) bs
fields_are name how [] = refl
fields_are name how (b ∷ bs) = ap (λ ys. field_line name b.name (how b) ++ ys) (fields_are name how bs)

-- ---- the definition of a name

-- a definition that is found for a name defines it
found_defines : (name : Bytes) (d : BareDef) → defines name d ≡ true → defined d ≡ Some name
found_defines name d e = by (defined d) e
  where
    by : (own : Option Bytes) → option_map_or (bytes_eq name) own false ≡ true → own ≡ Some name
    by None e = cc
    by (Some x) e = ap Some (sym ((bytes_eq-Decides name x).0 e))

found_name : (text : List BareDef) (name : Bytes) (b : BareDef) → definition text name ≡ Some b → defined b ≡ Some name
found_name [] name b e = cc
found_name (d ∷ text) name b e = by (defines name d) refl (found_name text name b) e
  where
    by : (t : Bool) → defines name d ≡ t → (definition text name ≡ Some b → defined b ≡ Some name)
        → (if t then Some d else definition text name) ≡ Some b → defined b ≡ Some name
    by true is rest e = let same : d ≡ b = cc in subst {A = BareDef} (λ d. defined d ≡ Some name) same (found_defines name d is)
    by false is rest e = rest e

-- what comes after the first seven bytes
behind : List ℕ → List ℕ
behind (a ∷ b ∷ c ∷ d ∷ e ∷ f ∷ g ∷ rest) = rest
behind _ = []

-- a struct that is found by its tag has that tag
same_tag : (q : List BareDef) (tag own : Bytes) (fields : List BareBinding) → definition q (struct_name tag) ≡ Some (def.Struct own fields)
    → own ≡ tag
unfolding behind
same_tag q tag own fields is =
    ap behind (same_Some (struct_name own) (struct_name tag) (found_name q (struct_name tag) (def.Struct own fields) is))

-- ---- a change

left_holds : (a b : Bool) → (a && b) ≡ true → a ≡ true
left_holds true b holds = refl
left_holds false b holds = absurd (false≢true holds)

-- a name that isn't transformed has no lines
silent : (q : List BareDef) (name : Bytes) (old new : Option BareDef) → (is_some old && has_data new) ≡ false → lines_by q name old new ≡ []
silent q name None new fails = refl
silent q name (Some old) None fails = refl
silent q name (Some old) (Some (def.Struct tag fields)) fails = absurd (false≢true (sym fails))
silent q name (Some old) (Some (def.Forward tag)) fails = refl
silent q name (Some old) (Some (def.Mutex own)) fails = refl
silent q name (Some old) (Some (def.Function result own parameters body)) fails = refl
silent q name (Some old) (Some (def.Prototype result own parameters)) fails = refl
silent q name (Some old) (Some (def.Global d)) fails = absurd (false≢true (sym fails))
silent q name (Some old) (Some (def.Array type own n values)) fails = absurd (false≢true (sym fails))
silent q name (Some old) (Some (def.TransformStruct tag values)) fails = refl
silent q name (Some old) (Some (def.TransformGlobal own e)) fails = refl

-- a struct has a line for each field
struct_is : (q : List BareDef) (tag : Bytes) (old new : Option BareDef) → is_some old ≡ true → is_struct new ≡ true
    → ((own : Bytes) (fields : List BareBinding) → new ≡ Some (def.Struct own fields) → own ≡ tag)
    → flat_map (λ b. field_line (struct_name tag) b.name (how_field (members_of old) (given_fields q tag) b)) (members_of new)
    ≡ lines_by q (struct_name tag) old new
struct_is q tag None new there is same = absurd (false≢true there)
struct_is q tag (Some old) None there is same = absurd (false≢true is)
struct_is q tag (Some old) (Some (def.Struct own fields)) there is same =
    ap (λ t. flat_map (λ b. field_line (struct_name tag) b.name (how_field (members_of (Some old)) (given_fields q t) b)) fields)
    (sym (same own fields refl))
struct_is q tag (Some old) (Some (def.Forward own)) there is same = absurd (false≢true is)
struct_is q tag (Some old) (Some (def.Mutex own)) there is same = absurd (false≢true is)
struct_is q tag (Some old) (Some (def.Function result own parameters body)) there is same = absurd (false≢true is)
struct_is q tag (Some old) (Some (def.Prototype result own parameters)) there is same = absurd (false≢true is)
struct_is q tag (Some old) (Some (def.Global d)) there is same = absurd (false≢true is)
struct_is q tag (Some old) (Some (def.Array type own n values)) there is same = absurd (false≢true is)
struct_is q tag (Some old) (Some (def.TransformStruct own values)) there is same = absurd (false≢true is)
struct_is q tag (Some old) (Some (def.TransformGlobal own e)) there is same = absurd (false≢true is)

-- a variable or an array has one line
global_is : (q : List BareDef) (name : Bytes) (old new : Option BareDef) (how : How) → is_some old ≡ true → has_cells new ≡ true
    → how ≡ how_global old new (given_value q name) → global_line name how ≡ lines_by q name old new
global_is q name None new how there holds is = absurd (false≢true there)
global_is q name (Some old) None how there holds is = absurd (false≢true holds)
global_is q name (Some old) (Some (def.Struct tag fields)) how there holds is = absurd (false≢true holds)
global_is q name (Some old) (Some (def.Forward tag)) how there holds is = absurd (false≢true holds)
global_is q name (Some old) (Some (def.Mutex own)) how there holds is = absurd (false≢true holds)
global_is q name (Some old) (Some (def.Function result own parameters body)) how there holds is = absurd (false≢true holds)
global_is q name (Some old) (Some (def.Prototype result own parameters)) how there holds is = absurd (false≢true holds)
global_is q name (Some old) (Some (def.Global d)) how there holds is = ap (global_line name) is
global_is q name (Some old) (Some (def.Array type own n values)) how there holds is = ap (global_line name) is
global_is q name (Some old) (Some (def.TransformStruct tag values)) how there holds is = absurd (false≢true holds)
global_is q name (Some old) (Some (def.TransformGlobal own e)) how there holds is = absurd (false≢true holds)

-- a change has the lines of its name
shown : (p q : List BareDef) (c : Change) → IsChange p q c → is_some (definition p (name_of c)) ≡ true
    → change_text q c ≡ transform_lines p q (name_of c)
shown p q (change.Struct tag t) is there =
    let name : Bytes = struct_name tag in
    let how : BareBinding → How = how_field (members_of (definition p name)) (given_fields q tag) in
    ap (fields_text name (members_of (definition q name))) is.hows ∙ fields_are name how (members_of (definition q name))
    ∙ struct_is q tag (definition p name) (definition q name) there is.defined (same_tag q tag)
shown p q (change.Global name c) is there =
    global_is q name (definition p name) (definition q name) (how_of_global c) there is.defined is.how

all_shown : (p q : List BareDef) (changes : List Change) → All (IsChange p q) changes
    → All (λ z. is_some (definition p z) ≡ true) (map name_of changes)
    → All (λ c. change_text q c ≡ transform_lines p q (name_of c)) changes
all_shown p q [] all there = All-nil (λ c. change_text q c ≡ transform_lines p q (name_of c))
all_shown p q (c ∷ changes) all there =
    All-cons (λ c. change_text q c ≡ transform_lines p q (name_of c)) c changes
    (shown p q c (All-head (IsChange p q) c changes all)
    (All-head (λ z. is_some (definition p z) ≡ true) (name_of c) (map name_of changes) there))
    (all_shown p q changes (All-tail (IsChange p q) c changes all)
    (All-tail (λ z. is_some (definition p z) ≡ true) (name_of c) (map name_of changes) there))

-- the test of a name that passed a filter has its first part
passed : (first second : Bytes → Bool) (names : List Bytes) → All (λ z. first z ≡ true) (filter (λ z. first z && second z) names)
passed first second [] = All-nil (λ z. first z ≡ true)
passed first second (name ∷ names) = by (first name && second name) refl (passed first second names)
  where
    by : (b : Bool) → (first name && second name) ≡ b → All (λ z. first z ≡ true) (filter (λ z. first z && second z) names)
        → All (λ z. first z ≡ true) (cond b (name ∷ filter (λ z. first z && second z) names) (filter (λ z. first z && second z) names))
    by true is rest =
        All-cons (λ z. first z ≡ true) name (filter (λ z. first z && second z) names) (left_holds (first name) (second name) is) rest
    by false is rest = rest

-- all changes have the lines of the interface
pub transforms_are : (p q : List BareDef) (changes : List Change) → map name_of changes ≡ changing p q → All (IsChange p q) changes
    → flat_map (change_text q) changes ≡ flat_map (transform_lines p q) (interface p q)
transforms_are p q changes names all =
    named_lines (transform_lines p q) (change_text q) name_of changes
    (all_shown p q changes all
    (subst {A = List Bytes} (All (λ z. is_some (definition p z) ≡ true)) (sym names)
    (passed (λ z. is_some (definition p z)) (λ z. has_data (definition q z)) (interface p q))))
    ∙ ap (flat_map (transform_lines p q)) names
    ∙ kept_lines (transform_lines p q) (λ z. is_some (definition p z) && has_data (definition q z))
    (λ z fails. silent q z (definition p z) (definition q z) fails) (interface p q)
