-- Names that a text defines have numbers in its lists of names.
use Rattle.std.proofs.Common.{◌≡◌, ◌≤◌, ◌<◌, ◌+◌, Bool, true, false, not, ◌||◌, IsTrue, List, [], ◌∷◌, map, filter_map, length, drop, Option, Some, None, find, cond, is_some, bytes_eq, refl, ap, ◌∙◌, arith}
use Rattle.std.specs.List.{cons_option, list_any, position, position_or_len}
use Rattle.std.proofs.lemmas.Bool.{lt-ltb}
use Rattle.std.proofs.lemmas.List.{length-map}
use Rattle.std.proofs.lemmas.Slice.Eq.{bytes_eq-Decides}
use Rattle.name_sets.specs.Limit.{most_names}
use Rattle.c_tree.specs.BareDef.{BareBinding, BareDef}
use Rattle.c_tree.specs.BareDef as bare
use Rattle.c_tree.specs.BareExpr.{Bytes}
use Rattle.c_semantics.specs.Names.{struct_name}
use Rattle.c_semantics.specs.Texts.{bound, defined, defines, definition, names}
use Rattle.typed_uses.proofs.Lookups.{same_bytes}
use Rattle.typed_trees.specs.ExpressionTypes.{IsArray, IsFunction, IsMutex, IsStruct, IsVariable}
use Rattle.source_model.specs.Worlds.{cells_at_first}
use Rattle.text_code.specs.Bodies.{coded, outline_if, outlines_of}
use Rattle.code_runs.specs.CodeData.{most_fields}
use Rattle.code_image.specs.Images.{mutex_name, names_of, tag_of}
use Rattle.accepted_stops.specs.StopNames.{IsMember, IsNumbered, function_names}

-- ---- positions

within : {X : Type 0} (p : X → Bool) (xs : List X) → list_any p xs ≡ true → position_or_len p xs < length xs
within p [] e = cc
within p (x ∷ xs) e = by (p x) (within p xs) e
  where
    by : (b : Bool) → (list_any p xs ≡ true → position_or_len p xs < length xs) → (b || list_any p xs) ≡ true
        → cond (not b) (1 + position_or_len p xs) 0 < length (x ∷ xs)
    by true rest e = omega arith
    by false rest e = let later = rest e in omega (arith, later)

placed : {X : Type 0} (p : X → Bool) (xs : List X) → list_any p xs ≡ true → position p xs ≡ Some (position_or_len p xs)
placed p xs e = ap (λ b. cond b (Some (position_or_len p xs)) None) (lt-ltb (position_or_len p xs) (length xs) (within p xs e))

is_numbered : (xs : List Bytes) (name : Bytes) → list_any (bytes_eq name) xs ≡ true → length xs ≤ most_names → IsNumbered xs name
is_numbered xs name e few =
    let low = within (bytes_eq name) xs e in record { there = placed (bytes_eq name) xs e; few = omega (arith, low, few) }

any_mapped : {X : Type 0} (p : Bytes → Bool) (f : X → Bytes) (xs : List X) → list_any p (map f xs) ≡ list_any (λ x. p (f x)) xs
any_mapped p f [] = refl
any_mapped p f (x ∷ xs) = ap (λ b. p (f x) || b) (any_mapped p f xs)

-- ---- what the definition of a name gives is in a list of what definitions give

first_passes : {X : Type 0} (test : X → Bool) (o : Option X) (xs : List X) → list_any test (cons_option o []) ≡ true
    → list_any test (cons_option o xs) ≡ true
first_passes test None xs e = cc
first_passes test (Some x) xs e = by (test x) e
  where
    by : (b : Bool) → (b || false) ≡ true → (b || list_any test xs) ≡ true
    by true e = refl
    by false e = cc

later_passes : {X : Type 0} (test : X → Bool) (o : Option X) (xs : List X) → list_any test xs ≡ true → list_any test (cons_option o xs) ≡ true
later_passes test None xs e = e
later_passes test (Some x) xs e = by (test x)
  where
    by : (b : Bool) → (b || list_any test xs) ≡ true
    by true = refl
    by false = e

module _ {X : Type 0} (gives : BareDef → Option X) (test : X → Bool) (Is : Option BareDef → Type 0) (name : Bytes) (none : Is None → ⊥)
    (own : (d : BareDef) → defines name d ≡ true → Is (Some d) → list_any test (cons_option (gives d) []) ≡ true) where
  listed : (ds : List BareDef) → Is (definition ds name) → list_any test (filter_map gives ds) ≡ true
  listed [] h = absurd (none h)
  listed (d ∷ ds) h = by (listed ds) (defines name d) refl h
    where
      by : (Is (definition ds name) → list_any test (filter_map gives ds) ≡ true) → (b : Bool) → defines name d ≡ b
          → Is (cond b (Some d) (definition ds name)) → list_any test (cons_option (gives d) (filter_map gives ds)) ≡ true
      by rest true is h = first_passes test (gives d) (filter_map gives ds) (own d is h)
      by rest false is h = later_passes test (gives d) (filter_map gives ds) (rest h)

or_false : {b : Bool} → b ≡ true → (b || false) ≡ true
or_false e = ap (λ x. x || false) e

never : ⊥ → ⊥
never h = h

-- ---- globals and arrays

variable_own : (name : Bytes) (d : BareDef) → defines name d ≡ true → IsVariable (Some d)
    → list_any (λ c. bytes_eq name c.name) (cons_option (cells_at_first d) []) ≡ true
variable_own name (bare.Global v) is h = or_false is
variable_own name _ is h = absurd h

array_own : (name : Bytes) (d : BareDef) → defines name d ≡ true → IsArray (Some d)
    → list_any (λ c. bytes_eq name c.name) (cons_option (cells_at_first d) []) ≡ true
array_own name (bare.Array type own n values) is h = or_false is
array_own name _ is h = absurd h

-- ---- mutexes, structs, functions

mutex_own : (name : Bytes) (d : BareDef) → defines name d ≡ true → IsMutex (Some d)
    → list_any (bytes_eq name) (cons_option (mutex_name d) []) ≡ true
mutex_own name (bare.Mutex own) is h = or_false is
mutex_own name _ is h = absurd h

-- the tag is the name without what comes before it
abbrev untagged : Bytes → Bytes
untagged name = drop 7 name

same_tag : (a b : Bytes) → bytes_eq (struct_name a) (struct_name b) ≡ true → bytes_eq a b ≡ true
same_tag a b e =
    let same : a ≡ b = ap untagged (same_bytes (struct_name a) (struct_name b) e) in (bytes_eq-Decides a b).1 same

struct_own : (tag : Bytes) (d : BareDef) → defines (struct_name tag) d ≡ true → IsStruct (Some d)
    → list_any (bytes_eq tag) (cons_option (tag_of d) []) ≡ true
struct_own tag (bare.Struct own members) is h = or_false (same_tag tag own is)
struct_own tag _ is h = absurd h

function_own : (ds : List BareDef) (name : Bytes) (d : BareDef) → defines name d ≡ true → IsFunction (Some d)
    → list_any (λ f. bytes_eq name f.name) (cons_option (outline_if (definition ds) d) []) ≡ true
function_own ds name (bare.Function result own parameters body) is h = or_false is
function_own ds name _ is h = absurd h

-- ---- how many there are

fewer : {X : Type 0} (gives : BareDef → Option X)
    → ((d : BareDef) → length (cons_option (gives d) []) ≤ length (cons_option (defined d) []))
    → (ds : List BareDef) → length (filter_map gives ds) ≤ length (names ds)
fewer gives own [] = omega arith
fewer {X} gives own (d ∷ ds) = by (gives d) (defined d) (own d) (fewer gives own ds)
  where
    by : (o : Option X) (n : Option Bytes) → length (cons_option o []) ≤ length (cons_option n [])
        → length (filter_map gives ds) ≤ length (names ds)
        → length (cons_option o (filter_map gives ds)) ≤ length (cons_option n (names ds))
    by None None l rest = rest
    by None (Some m) l rest = omega (arith, rest)
    by (Some x) None l rest = absurd (omega (arith, l))
    by (Some x) (Some m) l rest = omega (arith, rest)

cells_fewer : (d : BareDef) → length (cons_option (cells_at_first d) []) ≤ length (cons_option (defined d) [])
cells_fewer (bare.Global v) = omega arith
cells_fewer (bare.Array type own n values) = omega arith
cells_fewer _ = omega arith

mutexes_fewer : (d : BareDef) → length (cons_option (mutex_name d) []) ≤ length (cons_option (defined d) [])
mutexes_fewer (bare.Mutex own) = omega arith
mutexes_fewer _ = omega arith

tags_fewer : (d : BareDef) → length (cons_option (tag_of d) []) ≤ length (cons_option (defined d) [])
tags_fewer (bare.Struct own members) = omega arith
tags_fewer _ = omega arith

functions_fewer : (ds : List BareDef) (d : BareDef) → length (cons_option (outline_if (definition ds) d) []) ≤ length (cons_option (defined d) [])
functions_fewer ds (bare.Function result own parameters body) = omega arith
functions_fewer ds _ = omega arith

-- ---- so each is numbered

module _ (ds : List BareDef) (few : length (names ds) ≤ most_names) where
  cells_few : length (names_of ds).cells ≤ most_names
  cells_few =
      let less = fewer cells_at_first cells_fewer ds in
      omega (arith, few, less, length-map (filter_map cells_at_first ds) (λ c. c.name))

  pub variable_numbered : (name : Bytes) → IsVariable (definition ds name) → IsNumbered (names_of ds).cells name
  variable_numbered name h =
      is_numbered (names_of ds).cells name
      (any_mapped (bytes_eq name) (λ c. c.name) (filter_map cells_at_first ds)
      ∙ listed cells_at_first (λ c. bytes_eq name c.name) IsVariable name never (variable_own name) ds h) cells_few

  pub array_numbered : (name : Bytes) → IsArray (definition ds name) → IsNumbered (names_of ds).cells name
  array_numbered name h =
      is_numbered (names_of ds).cells name
      (any_mapped (bytes_eq name) (λ c. c.name) (filter_map cells_at_first ds)
      ∙ listed cells_at_first (λ c. bytes_eq name c.name) IsArray name never (array_own name) ds h) cells_few

  pub mutexes_few : length (names_of ds).mutexes ≤ most_names
  mutexes_few = let less = fewer mutex_name mutexes_fewer ds in omega (arith, few, less)

  pub mutex_numbered : (name : Bytes) → IsMutex (definition ds name) → IsNumbered (names_of ds).mutexes name
  mutex_numbered name h =
      is_numbered (names_of ds).mutexes name (listed mutex_name (bytes_eq name) IsMutex name never (mutex_own name) ds h) mutexes_few

  pub tags_few : length (names_of ds).tags ≤ most_names
  tags_few = let less = fewer tag_of tags_fewer ds in omega (arith, few, less)

  pub tag_numbered : (tag : Bytes) → IsStruct (definition ds (struct_name tag)) → IsNumbered (names_of ds).tags tag
  tag_numbered tag h =
      is_numbered (names_of ds).tags tag (listed tag_of (bytes_eq tag) IsStruct (struct_name tag) never (struct_own tag) ds h) tags_few

  pub function_numbered : (name : Bytes) → IsFunction (definition ds name) → IsNumbered (function_names ds) name
  function_numbered name h =
      let look = definition ds in
      let fs = outlines_of look ds in
      let less = fewer (outline_if look) (functions_fewer ds) ds in
      is_numbered (function_names ds) name
      (any_mapped (bytes_eq name) (λ c. c.name) (map (coded look) fs) ∙ any_in (λ c. bytes_eq name c.name) (coded look) fs
      ∙ listed (outline_if look) (λ f. bytes_eq name f.name) IsFunction name never (function_own ds name) ds h)
      (omega (arith, few, less, length-map (map (coded look) fs) (λ c. c.name), length-map fs (coded look)))
    where
      any_in : {X Y : Type 0} (p : Y → Bool) (f : X → Y) (xs : List X) → list_any p (map f xs) ≡ list_any (λ x. p (f x)) xs
      any_in p f [] = refl
      any_in p f (x ∷ xs) = ap (λ b. p (f x) || b) (any_in p f xs)

-- ---- members

any_found : (p : BareBinding → Bool) (bs : List BareBinding) → is_some (find p bs) ≡ true → list_any p bs ≡ true
any_found p [] e = e
any_found p (b ∷ bs) e = by (p b) (any_found p bs) e
  where
    by : (t : Bool) → (is_some (find p bs) ≡ true → list_any p bs ≡ true) → is_some (cond t (Some b) (find p bs)) ≡ true
        → (t || list_any p bs) ≡ true
    by true rest e = refl
    by false rest e = rest e

pub is_member : (members : List BareBinding) (name : Bytes) → length members ≤ most_fields → IsTrue (is_some (bound members name)) → IsMember members name
is_member members name few e =
    let p = λ (b : BareBinding). bytes_eq name b.name in
    let there = any_found p members e in
    let low = within p members there in
    record { there = placed p members there; few = omega (arith, low, few) }
