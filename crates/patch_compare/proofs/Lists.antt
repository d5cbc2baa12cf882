-- The three lists are in the order of bytes, and a text that is compared with itself has none.
use Rattle.std.proofs.Common.{◌≡◌, Bool, true, false, not, ◌||◌, List, [], ◌∷◌, map, filter, Option, Some, None, IfSome, refl, sym, ap, ◌∙◌, bytes_eq, if◌then◌else◌}
use Rattle.std.specs.Option.{is_some}
use Rattle.std.specs.Ordering.{int_eq, nat_cmp}
use Rattle.std.specs.Cmp.Lexicographic.{slice_cmp}
use Rattle.std.proofs.lemmas.Bool.Decides.{Decides-and, Decides-int_eq}
use Rattle.std.proofs.lemmas.List.Kept.{IsStrictlySortedBy-filter}
use Rattle.c_ints.specs.Number.{value_of}
use Rattle.c_tree.specs.BareExpr.{Bytes}
use Rattle.c_tree.specs.BareDef.{BareDef, Struct, Forward, Mutex, Function, Prototype, Global, Array, TransformStruct, TransformGlobal}
use Rattle.name_sets.specs.NameLists.{is_among, name_set}
use Rattle.c_semantics.specs.Texts.{defined, definition, names}
use Rattle.c_semantics.specs.Same.{same_binding, same_list, same_option, same_type}
use Rattle.c_semantics.specs.Changes.{agree, same_definition, same_interface}
use Rattle.source_model.specs.ChangeLaws.{SameDecides}
use Rattle.sorted_names.proofs.Order.{set_ascends, among_set, first_among}
use Rattle.patch_compare.specs.Laws.{ListsAreOrdered, SameChangesNothing}
use Rattle.patch_compare.proofs.SameDecides.{types_decide, bindings_decide, lists_decide, options_decide, functions_decide}
use Rattle.patch_compare.proofs.Found.{found_name, among_names}

pub lists_are_ordered : ListsAreOrdered
lists_are_ordered p q = (
  IsStrictlySortedBy-filter (slice_cmp nat_cmp) (λ z. not (agree same_definition (definition p z) (definition q z))) (name_set (names p)) (set_ascends (names p)),
  IsStrictlySortedBy-filter (slice_cmp nat_cmp) (λ z. not (agree same_interface (definition p z) (definition q z))) (name_set (names p)) (set_ascends (names p)),
  IsStrictlySortedBy-filter (slice_cmp nat_cmp) (λ z. not (is_among (names p) z)) (name_set (names q)) (set_ascends (names q)),
)

-- a definition of a name has its own interface
pub own_interface : (name : Bytes) (d : BareDef) → defined d ≡ Some name → same_interface d d ≡ true
own_interface name (Struct tag ms) e = (lists_decide same_binding bindings_decide ms ms).1 refl
own_interface name (Forward tag) e = cc
own_interface name (Mutex m) e = refl
own_interface name (Function r own ps body) e =
    (Decides-and (same_option same_type r r) (same_list same_type (map (λ b. b.declared) ps) (map (λ b. b.declared) ps))
    (options_decide same_type types_decide r r) (lists_decide same_type types_decide (map (λ b. b.declared) ps) (map (λ b. b.declared) ps))).1 (refl, refl)
own_interface name (Prototype r own ps) e = cc
own_interface name (Global d) e = (types_decide d.declared d.declared).1 refl
own_interface name (Array t own n initial) e =
    (Decides-and (same_type t t) (int_eq (value_of n) (value_of n)) (types_decide t t) (Decides-int_eq (value_of n) (value_of n))).1 (refl, refl)
own_interface name (TransformStruct tag values) e = cc
own_interface name (TransformGlobal own value) e = cc

-- and is the same as itself
own_definition : SameDecides → (name : Bytes) (d : BareDef) → defined d ≡ Some name → same_definition d d ≡ true
own_definition bodies name (Struct tag ms) e = own_interface name (Struct tag ms) e
own_definition bodies name (Forward tag) e = cc
own_definition bodies name (Mutex m) e = refl
own_definition bodies name (Function r own ps body) e = (functions_decide bodies own r r ps ps body body).1 refl
own_definition bodies name (Prototype r own ps) e = cc
own_definition bodies name (Global d) e = own_interface name (Global d) e
own_definition bodies name (Array t own n initial) e = own_interface name (Array t own n initial) e
own_definition bodies name (TransformStruct tag values) e = cc
own_definition bodies name (TransformGlobal own value) e = cc

-- a text agrees with itself on its names
agrees : (same : BareDef → BareDef → Bool) (name : Bytes) → ((d : BareDef) → defined d ≡ Some name → same d d ≡ true)
    → (o : Option BareDef) → is_some o ≡ true → IfSome o (λ d. defined d ≡ Some name) → agree same o o ≡ true
agrees same name alike None e named = cc
agrees same name alike (Some d) e named = alike d named

-- a test that no item of a list passes lists nothing
nothing : (f : Bytes → Bool) (ns : List Bytes) → ((z : Bytes) → is_among ns z ≡ true → f z ≡ false) → filter f ns ≡ []
nothing f [] none = refl
nothing f (n ∷ ns) none =
    ap (λ b. if b then n ∷ filter f ns else filter f ns) (none n (first_among n ns))
    ∙ nothing f ns (λ z e. none z (later (bytes_eq z n) (is_among ns z) e))
  where
    later : (b c : Bool) → c ≡ true → (b || c) ≡ true
    later true c e = refl
    later false c e = e

none_differ : (same : BareDef → BareDef → Bool) → ((name : Bytes) (d : BareDef) → defined d ≡ Some name → same d d ≡ true)
    → (p : List BareDef) → filter (λ z. not (agree same (definition p z) (definition p z))) (name_set (names p)) ≡ []
none_differ same alike p =
    nothing (λ z. not (agree same (definition p z) (definition p z))) (name_set (names p))
    (λ z e. ap not
    (agrees same z (alike z) (definition p z) (among_names p z ∙ sym (among_set z (names p)) ∙ e) (found_name p z)))

pub same_changes_nothing : SameDecides → SameChangesNothing
same_changes_nothing bodies p = (
  none_differ same_definition (own_definition bodies) p,
  none_differ same_interface own_interface p,
  nothing (λ z. not (is_among (names p) z)) (name_set (names p)) (λ z e. ap not (sym (among_set z (names p)) ∙ e)),
)
