-- The names by which a run numbers things have each global, array, mutex and struct of each of its texts.
use Rattle.std.proofs.Common.{◌≡◌, ℕ, zero, suc, ◌<◌, ◌||◌, Bool, true, false, List, [], ◌∷◌, ◌++◌, map, length, All, Contains, Option, Some, None, drop, slice_get, slice_index_or, refl, sym, ap, subst, arith, bytes_eq, if◌then◌else◌}
use Rattle.std.specs.Prelude.{filter_map, flat_map}
use Rattle.std.specs.List.{cons_option, list_any}
use Rattle.std.proofs.lemmas.List.Elements.{All-map, All-weaker, Contains-append_left, Contains-append_right, Contains-push}
use Rattle.std.proofs.lemmas.Option.{none-some, same_Some, slice_get-get_or}
use Rattle.name_sets.specs.NameLists.{is_among}
use Rattle.c_tree.specs.BareExpr.{Bytes}
use Rattle.c_tree.specs.BareDef.{BareDef, Global, Array, Mutex, Struct}
use Rattle.c_semantics.specs.Names.{struct_name}
use Rattle.c_semantics.specs.Texts.{defines, definition}
use Rattle.source_model.specs.Worlds.{Cells, cells_at_first}
use Rattle.world_laws.proofs.Found.{same_bytes}
use Rattle.typed_transformers.specs.TransformerTypes.{HasCells}
use Rattle.typed_trees.specs.ExpressionTypes.{IsMutex, IsStruct}
use Rattle.code_run_laws.specs.WorldMatches.{Numbers}
use Rattle.code_image.specs.Images.{mutex_name, names_in, names_of, tag_of, with_more, with_new}
use Rattle.code_machine.specs.Versions.{texts_by}

here : (x : Bytes) (xs : List Bytes) → Contains (x ∷ xs) x
here x xs = let within : 0 < length (x ∷ xs) = omega arith in (0, within, refl)

later : (y : Bytes) (xs : List Bytes) (x : Bytes) → Contains xs x → Contains (y ∷ xs) x
later y xs x h =
    let own = h.1 in
    let within : suc h.0 < length (y ∷ xs) = omega (arith, own) in (suc h.0, within, h.2)

-- the first name is another spelling of the one that is looked for
first_is : (name own : Bytes) (rest : List Bytes) → bytes_eq name own ≡ true → Contains (own ∷ rest) name
first_is name own rest e = subst (λ m. Contains (m ∷ rest) name) (same_bytes name own e) (here name rest)

-- ---- globals and arrays

abbrev names_with : List Cells → List Bytes
names_with gs = map (λ g. g.name) gs

after_cells : (o : Option Cells) (gs : List Cells) (name : Bytes) → Contains (names_with gs) name → Contains (names_with (cons_option o gs)) name
after_cells None gs name h = h
after_cells (Some g) gs name h = later g.name (names_with gs) name h

own_cells : (x : BareDef) (gs : List Cells) (name : Bytes) → defines name x ≡ true → HasCells (Some x)
    → Contains (names_with (cons_option (cells_at_first x) gs)) name
own_cells (Global d) gs name is h = first_is name d.name (names_with gs) is
own_cells (Array type own n values) gs name is h = first_is name own (names_with gs) is
own_cells _ gs name is h = absurd h

cells_have : (text : List BareDef) (name : Bytes) → HasCells (definition text name) → Contains (names_with (filter_map cells_at_first text)) name
cells_have [] name h = absurd h
cells_have (x ∷ text) name h = by (cells_have text name) (defines name x) refl h
  where
    by : (HasCells (definition text name) → Contains (names_with (filter_map cells_at_first text)) name) → (b : Bool) → defines name x ≡ b
        → HasCells (if b then Some x else definition text name) → Contains (names_with (filter_map cells_at_first (x ∷ text))) name
    by rest true is h = own_cells x (filter_map cells_at_first text) name is h
    by rest false is h = after_cells (cells_at_first x) (filter_map cells_at_first text) name (rest h)

-- ---- mutexes

after_mutex : (o : Option Bytes) (ms : List Bytes) (name : Bytes) → Contains ms name → Contains (cons_option o ms) name
after_mutex None ms name h = h
after_mutex (Some m) ms name h = later m ms name h

own_mutex : (x : BareDef) (ms : List Bytes) (name : Bytes) → defines name x ≡ true → IsMutex (Some x)
    → Contains (cons_option (mutex_name x) ms) name
own_mutex (Mutex own) ms name is h = first_is name own ms is
own_mutex _ ms name is h = absurd h

mutexes_have : (text : List BareDef) (name : Bytes) → IsMutex (definition text name) → Contains (filter_map mutex_name text) name
mutexes_have [] name h = absurd h
mutexes_have (x ∷ text) name h = by (mutexes_have text name) (defines name x) refl h
  where
    by : (IsMutex (definition text name) → Contains (filter_map mutex_name text) name) → (b : Bool) → defines name x ≡ b
        → IsMutex (if b then Some x else definition text name) → Contains (filter_map mutex_name (x ∷ text)) name
    by rest true is h = own_mutex x (filter_map mutex_name text) name is h
    by rest false is h = after_mutex (mutex_name x) (filter_map mutex_name text) name (rest h)

-- ---- structs

-- the tag is the name without what comes before it
abbrev untagged : Bytes → Bytes
untagged name = drop 7 name

same_tag : (a b : Bytes) → bytes_eq (struct_name a) (struct_name b) ≡ true → a ≡ b
same_tag a b e = ap untagged (same_bytes (struct_name a) (struct_name b) e)

after_tag : (o : Option Bytes) (ts : List Bytes) (tag : Bytes) → Contains ts tag → Contains (cons_option o ts) tag
after_tag None ts tag h = h
after_tag (Some t) ts tag h = later t ts tag h

own_tag : (x : BareDef) (ts : List Bytes) (tag : Bytes) → defines (struct_name tag) x ≡ true → IsStruct (Some x)
    → Contains (cons_option (tag_of x) ts) tag
own_tag (Struct own members) ts tag is h = subst (λ t. Contains (t ∷ ts) tag) (same_tag tag own is) (here tag ts)
own_tag _ ts tag is h = absurd h

tags_have : (text : List BareDef) (tag : Bytes) → IsStruct (definition text (struct_name tag)) → Contains (filter_map tag_of text) tag
tags_have [] tag h = absurd h
tags_have (x ∷ text) tag h = by (tags_have text tag) (defines (struct_name tag) x) refl h
  where
    by : (IsStruct (definition text (struct_name tag)) → Contains (filter_map tag_of text) tag) → (b : Bool) → defines (struct_name tag) x ≡ b
        → IsStruct (if b then Some x else definition text (struct_name tag)) → Contains (filter_map tag_of (x ∷ text)) tag
    by rest true is h = own_tag x (filter_map tag_of text) tag is h
    by rest false is h = after_tag (tag_of x) (filter_map tag_of text) tag (rest h)

pub numbers_of_text : (text : List BareDef) → Numbers (names_of text) text
numbers_of_text text = record { cells = cells_have text; mutexes = mutexes_have text; tags = tags_have text }

-- ---- names of several texts

-- what is among names is one of them
among_is : (names : List Bytes) (name : Bytes) → is_among names name ≡ true → Contains names name
among_is [] name e = cc
among_is (x ∷ xs) name e = by (among_is xs name) (bytes_eq name x) refl e
  where
    by : (is_among xs name ≡ true → Contains xs name) → (b : Bool) → bytes_eq name x ≡ b → (b || list_any (bytes_eq name) xs) ≡ true
        → Contains (x ∷ xs) name
    by rest true is e = first_is name x xs is
    by rest false is e = later x xs name (rest e)

with_new_keeps : (names : List Bytes) (name x : Bytes) → Contains names x → Contains (with_new names name) x
with_new_keeps names name x h = by (is_among names name)
  where
    by : (b : Bool) → Contains (if b then names else names ++ name ∷ []) x
    by true = h
    by false = Contains-append_left names (name ∷ []) x h

with_new_has : (names : List Bytes) (name : Bytes) → Contains (with_new names name) name
with_new_has names name = by (is_among names name) refl
  where
    by : (b : Bool) → is_among names name ≡ b → Contains (if b then names else names ++ name ∷ []) name
    by true is = among_is names name is
    by false is = Contains-push names name

with_more_keeps : (names more : List Bytes) (x : Bytes) → Contains names x → Contains (with_more names more) x
with_more_keeps names [] x h = h
with_more_keeps names (m ∷ more) x h = with_more_keeps (with_new names m) more x (with_new_keeps names m x h)

with_more_has : (names more : List Bytes) (x : Bytes) → Contains more x → Contains (with_more names more) x
with_more_has names [] x h = let no = h.1 in absurd (omega (arith, no))
with_more_has names (m ∷ more) x h = by h.0 (with_more_has (with_new names m) more x) h.1 h.2
  where
    by : (k : ℕ) → (Contains more x → Contains (with_more (with_new names m) more) x) → k < length (m ∷ more)
        → slice_index_or (m ∷ more) k x ≡ x → Contains (with_more names (m ∷ more)) x
    by zero rest lt is =
        subst (Contains (with_more (with_new names m) more)) is (with_more_keeps (with_new names m) more m (with_new_has names m))
    by (suc k) rest lt is = let inside : k < length more = omega (arith, lt) in rest (k, inside, is)

in_flat : (f : List BareDef → List Bytes) (texts : List (List BareDef)) (n : ℕ) (text : List BareDef) (x : Bytes)
    → slice_get texts n ≡ Some text → Contains (f text) x → Contains (flat_map f texts) x
in_flat f [] n text x e h = absurd (none-some text e)
in_flat f (t ∷ texts) zero text x e h =
    Contains-append_left (f t) (flat_map f texts) x (subst (λ y. Contains (f y) x) (sym (same_Some t text e)) h)
in_flat f (t ∷ texts) (suc n) text x e h = Contains-append_right (f t) (flat_map f texts) x (in_flat f texts n text x e h)

-- each of the texts
pub numbers_in : (texts : List (List BareDef)) (n : ℕ) (text : List BareDef) → slice_get texts n ≡ Some text → Numbers (names_in texts) text
numbers_in texts n text e =
    let own = numbers_of_text text in
    record {
      cells = λ name h.
          with_more_has [] (flat_map (λ t. (names_of t).cells) texts) name
          (in_flat (λ t. (names_of t).cells) texts n text name e (own.cells name h));
      mutexes = λ name h.
          with_more_has [] (flat_map (λ t. (names_of t).mutexes) texts) name
          (in_flat (λ t. (names_of t).mutexes) texts n text name e (own.mutexes name h));
      tags = λ tag h.
          with_more_has [] (flat_map (λ t. (names_of t).tags) texts) tag
          (in_flat (λ t. (names_of t).tags) texts n text tag e (own.tags tag h));
    }

-- and each version
pub numbers_of_versions : (texts : List (List BareDef)) (versions : List ℕ) → All (λ n. n < length texts) versions
    → All (Numbers (names_in texts)) (texts_by texts versions)
numbers_of_versions texts versions known =
    All-map (Numbers (names_in texts)) (λ n. slice_index_or texts n []) versions
    (All-weaker (λ n. n < length texts) (λ n. Numbers (names_in texts) (slice_index_or texts n []))
    (λ n lt. numbers_in texts n (slice_index_or texts n []) (slice_get-get_or texts n [] lt)) versions known)
