-- In a text whose types are right each function is defined once, and has its own number of tokens.
use Rattle.std.proofs.Common.{◌≡◌, ℕ, zero, suc, ◌<◌, Bool, true, false, List, [], ◌∷◌, ◌++◌, length, get_or, take, Option, Some, None, refl, sym, subst, ◌∙◌, arith, append_assoc, append-nil}
use Rattle.std.specs.Prelude.{IfSome, bytes_eq, is_none, find, filter_map, if◌then◌else◌}
use Rattle.std.specs.Option.{option_map_or}
use Rattle.std.specs.List.{cons_option}
use Rattle.c_tree.specs.BareExpr.{Bytes}
use Rattle.c_tree.specs.declared.name.Name.{Name}
use Rattle.c_tree.specs.declared.def.Def.{Def}
use Rattle.c_tree.specs.declared.def.DefKind.{DefKind}
use Rattle.c_tree.specs.declared.def.DefKind.TheVariants as kind
use Rattle.c_tree.specs.declared.def.Program.{Program}
use Rattle.c_expr_types.specs.declared.fault.Fault.{Fault}
use Rattle.c_expr_types.specs.declared.fault.TypeKind.TheVariants.{DeclaredTwice}
use Rattle.c_expr_types.specs.Faults.{unless}
use Rattle.c_definitions.specs.Lookup.{definition_of, is_named, name_of}
use Rattle.c_types.specs.Definitions.{Types, all_faults, kind_faults, named_twice}
use Rattle.c_semantics.specs.SourceTexts.{Tokens, tokens_of_kind}
use Rattle.typed_uses.proofs.Faultless.{none_before, none_after, none_hidden}
use Rattle.typed_uses.proofs.Lookups.{itself}

-- each definition of a function has a name that no definition before it declares
abbrev pub DefinesOnce : List Def → Type 0
DefinesOnce ds =
    (i : ℕ) (d : Def) → i < length ds → d ≡ get_or ds i d
    → IfSome (tokens_of_kind d.kind) (λ t. definition_of (take i ds) t.function ≡ None)

is_new_name : (o : Option Def) (at : ℕ) → unless (is_none o) DeclaredTwice at ≡ [] → o ≡ None
is_new_name None at e = refl
is_new_name (Some d) at e = cc

by_kind : (text before : List Def) (d : Def) (k : DefKind) → kind_faults text before d k ≡ []
    → IfSome (tokens_of_kind k) (λ t. definition_of before t.function ≡ None)
by_kind text before d (kind.Struct name members) e = tt
by_kind text before d (kind.Forward name) e = tt
by_kind text before d (kind.Mutex name) e = tt
by_kind text before d (kind.Function f) e =
    is_new_name (definition_of before f.name.text) f.name.place
    (none_before (named_twice before f.name) _ (none_after _ _ (none_hidden _ _ e).1))
by_kind text before d (kind.Prototype p) e = tt
by_kind text before d (kind.Global v) e = tt
by_kind text before d (kind.Array a) e = tt
by_kind text before d (kind.TransformStruct t) e = tt
by_kind text before d (kind.TransformGlobal name value) e = tt

once_after : (text before ds : List Def) → all_faults text before ds ≡ []
    → (i : ℕ) (d : Def) → i < length ds → d ≡ get_or ds i d
    → IfSome (tokens_of_kind d.kind) (λ t. definition_of (before ++ take i ds) t.function ≡ None)
once_after text before [] e i d l is = absurd (omega arith)
once_after text before (a ∷ ds) e zero d l is =
    subst {A = Def} (λ d. IfSome (tokens_of_kind d.kind) (λ t. definition_of (before ++ []) t.function ≡ None)) (sym is)
    (subst {A = List Def} (λ ds. IfSome (tokens_of_kind a.kind) (λ t. definition_of ds t.function ≡ None)) (sym (append-nil before))
    (by_kind text before a a.kind (none_before _ _ e)))
once_after text before (a ∷ ds) e (suc i) d l is =
    subst {A = List Def} (λ xs. IfSome (tokens_of_kind d.kind) (λ t. definition_of xs t.function ≡ None)) (append_assoc before (a ∷ []) (take i ds))
    (once_after text (before ++ a ∷ []) ds (none_after _ _ e) i d (omega arith) is)

pub typed_once : (p : Program) → Types p → DefinesOnce p.definitions
typed_once p types = once_after p.definitions [] p.definitions (none_hidden _ _ types).0

-- ---- tokens

-- the number of tokens of a function of some definitions
abbrev pub count_in : List Def → Bytes → ℕ
count_in ds name = option_map_or (λ t. t.count) (find (λ t. bytes_eq name t.function) (filter_map (λ d. tokens_of_kind d.kind) ds)) 0

first_count : (t : Tokens) (ts : List Tokens) (b : Bool) → b ≡ true
    → option_map_or (λ t. t.count) (if b then Some t else find (λ u. bytes_eq t.function u.function) ts) 0 ≡ t.count
first_count t ts true e = refl
first_count t ts false e = cc

count_of_first : (k : DefKind) (ds : List Def) → IfSome (tokens_of_kind k)
    (λ t. option_map_or (λ t. t.count) (find (λ u. bytes_eq t.function u.function) (cons_option (tokens_of_kind k) (filter_map (λ d. tokens_of_kind d.kind) ds))) 0 ≡ t.count)
count_of_first k ds = by (tokens_of_kind k)
  where
    by : (o : Option Tokens) → IfSome o
        (λ t. option_map_or (λ t. t.count) (find (λ u. bytes_eq t.function u.function) (cons_option o (filter_map (λ d. tokens_of_kind d.kind) ds))) 0 ≡ t.count)
    by None = tt
    by (Some t) = first_count t (filter_map (λ d. tokens_of_kind d.kind) ds) (bytes_eq t.function t.function) (itself t.function)

-- a definition that doesn't declare a name has no part in its number
passed : (name : Bytes) (own : Name) (t : Tokens) (d : Def) (ds : List Def) (ts : List Tokens) (b : Bool)
    → (if b then Some d else definition_of ds name) ≡ None
    → option_map_or (λ t. t.count) (if b then Some t else find (λ u. bytes_eq name u.function) ts) 0
    ≡ option_map_or (λ t. t.count) (find (λ u. bytes_eq name u.function) ts) 0
passed name own t d ds ts true e = cc
passed name own t d ds ts false e = refl

past : (name : Bytes) (d : Def) (k : DefKind) (ds : List Def) (ts : List Tokens)
    → (if is_named name (name_of k) then Some d else definition_of ds name) ≡ None
    → option_map_or (λ t. t.count) (find (λ u. bytes_eq name u.function) (cons_option (tokens_of_kind k) ts)) 0
    ≡ option_map_or (λ t. t.count) (find (λ u. bytes_eq name u.function) ts) 0
past name d (kind.Struct tag members) ds ts e = refl
past name d (kind.Forward tag) ds ts e = refl
past name d (kind.Mutex own) ds ts e = refl
past name d (kind.Function f) ds ts e =
    passed name f.name (record { function = f.name.text; count = f.tokens }) d ds ts (bytes_eq name f.name.text) e
past name d (kind.Prototype p) ds ts e = refl
past name d (kind.Global v) ds ts e = refl
past name d (kind.Array a) ds ts e = refl
past name d (kind.TransformStruct t) ds ts e = refl
past name d (kind.TransformGlobal own value) ds ts e = refl

none_later : (b : Bool) (d : Def) (o : Option Def) → (if b then Some d else o) ≡ None → o ≡ None
none_later true d o e = cc
none_later false d o e = e

own_count : (ds : List Def) (i : ℕ) (d : Def) → i < length ds → d ≡ get_or ds i d
    → IfSome (tokens_of_kind d.kind) (λ t. definition_of (take i ds) t.function ≡ None)
    → IfSome (tokens_of_kind d.kind) (λ t. count_in ds t.function ≡ t.count)
own_count [] i d l is new = absurd (omega arith)
own_count (a ∷ ds) zero d l is new =
    subst {A = Def} (λ d. IfSome (tokens_of_kind d.kind) (λ t. count_in (a ∷ ds) t.function ≡ t.count)) (sym is) (count_of_first a.kind ds)
own_count (a ∷ ds) (suc i) d l is new = by (tokens_of_kind d.kind) new (own_count ds i d (omega arith) is)
  where
    by : (o : Option Tokens) → IfSome o (λ t. definition_of (a ∷ take i ds) t.function ≡ None)
        → (IfSome o (λ t. definition_of (take i ds) t.function ≡ None) → IfSome o (λ t. count_in ds t.function ≡ t.count))
        → IfSome o (λ t. count_in (a ∷ ds) t.function ≡ t.count)
    by None new rest = tt
    by (Some t) new rest =
        past t.function a a.kind (take i ds) (filter_map (λ d. tokens_of_kind d.kind) ds) new
        ∙ rest (none_later (is_named t.function (name_of a.kind)) a (definition_of (take i ds) t.function) new)

pub own_tokens : (ds : List Def) → DefinesOnce ds → (i : ℕ) (d : Def) → i < length ds → d ≡ get_or ds i d
    → IfSome (tokens_of_kind d.kind) (λ t. count_in ds t.function ≡ t.count)
own_tokens ds once i d l is = own_count ds i d l is (once i d l is)
