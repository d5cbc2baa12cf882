-- The bodies of a text, definition by definition.
use Rattle.std.proofs.Common.{◌≡◌, ℕ, ◌+◌, ◌<◌, Bool, true, false, List, [], ◌∷◌, ◌++◌, All, map, length, get_or, take, Option, Some, None, refl, sym, ap, subst, ◌∙◌, arith, append-nil}
use Rattle.std.specs.Prelude.{IfSome, not, ◌||◌, bytes_eq, filter_map, option_map, is_some, if◌then◌else◌, Contains}
use Rattle.std.specs.Option.{option_or}
use Rattle.std.specs.List.{cons_option, list_any}
use Rattle.std.proofs.lemmas.List.{map_more, map_push, take_more, length-map, get_or-map}
use Rattle.std.proofs.lemmas.List.Elements.{All-push, All-weaker, Contains-get_or, filter_map-append}
use Rattle.std.proofs.lemmas.List.Folds.{find-append}
use Rattle.std.proofs.lemmas.Slice.Eq.{bytes_eq-Decides}
use Rattle.std.proofs.lemmas.Option.{none-some, same_Some}
use Rattle.run_types.specs.Skeleton.{Skeleton}
use Rattle.name_sets.specs.NameLists.{is_among}
use Rattle.name_sets.specs.Texts.{text_of}
use Rattle.c_tree.specs.BareExpr.{Bytes}
use Rattle.c_tree.specs.BareDef.{BareDef}
use Rattle.c_tree.specs.Bare.{bare_def}
use Rattle.c_tree.specs.declared.def.Def.{Def}
use Rattle.c_tree.specs.declared.def.DefKind.{DefKind}
use Rattle.c_tree.specs.declared.def.DefKind.TheVariants as kind
use Rattle.c_tree.specs.declared.def.Function.{Function}
use Rattle.c_definitions.specs.Lookup.{definition_of, is_named, name_of}
use Rattle.c_semantics.specs.SourceTexts.{Text, tokens_of_kind}
use Rattle.c_semantics.specs.Texts.{names}
use Rattle.c_semantics.specs.Changes.{changed, interface}
use Rattle.c_semantics.specs.Skeletons.{direct_uses}
use Rattle.c_semantics.specs.Store.{Body, body_if_new, is_new, tokens_of}
use Rattle.skeletons.specs.Meaning.{meant}
use Rattle.code_store.specs.declared.body.StoredBody.{StoredBody}
use Rattle.code_store.specs.Stored.{meant_body, IsNamed, AreDistinct}
use Rattle.code_store.proofs.StoredBodies.{distinct_push}
use Rattle.name_resolution.specs.Known.{known_of}
use Rattle.brought_bodies.specs.Patches.{IsBodyIn, function_of}
use Rattle.brought_bodies.specs.Unknown.{IsUnknownIn, HasUnknownFunction}

-- ---- one function

given : (b : Bool) (body : Body) → b ≡ true → Some body ≡ (if b then Some body else None)
given true body e = refl
given false body e = cc

not_given : (b : Bool) (body : Body) → b ≡ false → None ≡ (if b then Some body else None)
not_given false body e = refl
not_given true body e = cc

-- a stored body is that of a function with a new one
pub body_is_new : (p : List BareDef) (q : Text) (table : List Bytes) (version : ℕ) (name : Bytes) (s : Skeleton) (b : StoredBody)
    → text_of table b.function ≡ name → b.generation ≡ version → meant table b.skeleton ≡ s → tokens_of q name ≡ b.tokens
    → is_new p q.definitions name s ≡ true
    → Some (meant_body table b) ≡ body_if_new version p q name s
body_is_new p q table version name s b function generation skeleton tokens new =
    let same : meant_body table b ≡ record { function = name; generation = version; skeleton = s; tokens = tokens_of q name } = cc in
    ap Some same ∙ given (is_new p q.definitions name s) (record { function = name; generation = version; skeleton = s; tokens = tokens_of q name }) new

pub no_new_body : (p : List BareDef) (q : Text) (version : ℕ) (name : Bytes) (s : Skeleton)
    → is_new p q.definitions name s ≡ false
    → None ≡ body_if_new version p q name s
no_new_body p q version name s new =
    not_given (is_new p q.definitions name s) (record { function = name; generation = version; skeleton = s; tokens = tokens_of q name }) new

or_grouped : (a b c : Bool) → (a || b || c) ≡ ((a || b) || c)
or_grouped true b c = refl
or_grouped false true c = refl
or_grouped false false c = refl

-- a function is added or changed, or uses a name whose interface changes
pub reason_is : (p q other : List BareDef) (name : Bytes) (s : Skeleton) (own uses : Bool) → q ≡ other
    → own ≡ (not (is_among (names p) name) || is_among (changed p other) name)
    → uses ≡ list_any (is_among (interface p other)) (direct_uses s)
    → is_new p q name s ≡ (own || uses)
reason_is p q other name s own uses same own_is uses_is =
    let rest = list_any (is_among (interface p other)) (direct_uses s) in
    ap (λ q. is_new p q name s) same
    ∙ or_grouped (not (is_among (names p) name)) (is_among (changed p other) name) rest
    ∙ ap (λ o. o || rest) (sym own_is) ∙ ap (λ u. own || u) (sym uses_is)

-- ---- one definition more

pub bodies_more : (names : List Bytes) (F : BareDef → Option Body) (ds : List Def) (i : ℕ) (d : Def) (bs : List StoredBody) (o : Option StoredBody)
    → i < length ds → d ≡ get_or ds i d
    → map (meant_body names) bs ≡ filter_map F (map bare_def (take i ds)) → option_map (meant_body names) o ≡ F (bare_def d)
    → map (meant_body names) (bs ++ cons_option o []) ≡ filter_map F (map bare_def (take (i + 1) ds))
bodies_more names F ds i d bs o l is before new =
    pushed o ∙ ap (λ x. map (meant_body names) bs ++ cons_option x []) new
    ∙ ap (λ xs. xs ++ cons_option (F (bare_def d)) []) before
    ∙ sym (ap (filter_map F) (map_more bare_def ds i d l) ∙ filter_map-append F (map bare_def (take i ds)) (bare_def (get_or ds i d) ∷ [])
    ∙ ap (λ x. filter_map F (map bare_def (take i ds)) ++ cons_option (F (bare_def x)) []) (sym is))
  where
    pushed : (o : Option StoredBody) → map (meant_body names) (bs ++ cons_option o []) ≡ map (meant_body names) bs ++ cons_option (option_map (meant_body names) o) []
    pushed None = ap (map (meant_body names)) (append-nil bs) ∙ sym (append-nil (map (meant_body names) bs))
    pushed (Some b) = map_push (meant_body names) bs b

-- a body that a version brings, of a function that some definitions define
pub record IsAmong (names : List Bytes) (version : ℕ) (ds : List Def) (b : StoredBody) : Type 0 where
  pub named : IsNamed names b
  pub of_version : b.generation ≡ version
  pub defined : is_some (definition_of ds (text_of names b.function)) ≡ true

kept : (a b : Option Def) → is_some a ≡ true → is_some (option_or a b) ≡ true
kept None b e = cc
kept (Some d) b e = refl

added : (a b : Option Def) → is_some b ≡ true → is_some (option_or a b) ≡ true
added None b e = e
added (Some d) b e = refl

defined_more : (ds : List Def) (i : ℕ) (d : Def) (name : Bytes) → i < length ds
    → definition_of (take (i + 1) ds) name ≡ option_or (definition_of (take i ds) name) (definition_of (get_or ds i d ∷ []) name)
defined_more ds i d name l =
    ap (λ xs. definition_of xs name) (take_more ds i d l)
    ∙ find-append (λ d. is_named name (name_of d.kind)) (take i ds) (get_or ds i d ∷ [])

still_among : (names : List Bytes) (version : ℕ) (ds : List Def) (i : ℕ) (d : Def) (b : StoredBody) → i < length ds
    → IsAmong names version (take i ds) b → IsAmong names version (take (i + 1) ds) b
still_among names version ds i d b l is = record {
  named = is.named;
  of_version = is.of_version;
  defined = ap is_some (defined_more ds i d (text_of names b.function) l) ∙ kept _ _ is.defined;
}

own_name : (name : Bytes) (b : Bool) (d : Def) → b ≡ true → is_some (if b then Some d else None) ≡ true
own_name name true d e = refl
own_name name false d e = cc

own_defined : (k : DefKind) (d : Def) (f : Function) → function_of k ≡ Some f
    → is_some (if is_named f.name.text (name_of k) then Some d else None) ≡ true
own_defined (kind.Function g) d f e =
    own_name f.name.text (bytes_eq f.name.text g.name.text) d
    ((bytes_eq-Decides f.name.text g.name.text).1 (ap (λ (h : Function). h.name.text) (sym (same_Some g f e))))
own_defined (kind.Struct tag members) d f e = absurd (none-some f e)
own_defined (kind.Forward tag) d f e = absurd (none-some f e)
own_defined (kind.Mutex own) d f e = absurd (none-some f e)
own_defined (kind.Prototype p) d f e = absurd (none-some f e)
own_defined (kind.Global v) d f e = absurd (none-some f e)
own_defined (kind.Array a) d f e = absurd (none-some f e)
own_defined (kind.TransformStruct t) d f e = absurd (none-some f e)
own_defined (kind.TransformGlobal own value) d f e = absurd (none-some f e)

own_tokens_of : (k : DefKind) (f : Function) → function_of k ≡ Some f
    → tokens_of_kind k ≡ Some (record { function = f.name.text; count = f.tokens })
own_tokens_of (kind.Function g) f e = ap (λ (h : Function). Some (record { function = h.name.text; count = h.tokens })) (same_Some g f e)
own_tokens_of (kind.Struct tag members) f e = absurd (none-some f e)
own_tokens_of (kind.Forward tag) f e = absurd (none-some f e)
own_tokens_of (kind.Mutex own) f e = absurd (none-some f e)
own_tokens_of (kind.Prototype p) f e = absurd (none-some f e)
own_tokens_of (kind.Global v) f e = absurd (none-some f e)
own_tokens_of (kind.Array a) f e = absurd (none-some f e)
own_tokens_of (kind.TransformStruct t) f e = absurd (none-some f e)
own_tokens_of (kind.TransformGlobal own value) f e = absurd (none-some f e)

newly_among : (names : List Bytes) (version : ℕ) (ds : List Def) (i : ℕ) (d : Def) (b : StoredBody) → i < length ds → d ≡ get_or ds i d
    → IsBodyIn names version d.kind b → IsAmong names version (take (i + 1) ds) b
newly_among names version ds i d b l at is = record {
  named = is.body.named;
  of_version = is.body.of_version;
  defined =
      ap (λ name. is_some (definition_of (take (i + 1) ds) name)) is.body.of_function
      ∙ ap is_some (defined_more ds i d is.tree.name.text l)
      ∙ ap (λ x. is_some (option_or (definition_of (take i ds) is.tree.name.text) (definition_of (x ∷ []) is.tree.name.text))) (sym at)
      ∙ added _ _ (own_defined d.kind d is.tree is.defined);
}

pub among_more : (names : List Bytes) (version : ℕ) (ds : List Def) (i : ℕ) (d : Def) (bs : List StoredBody) (o : Option StoredBody)
    → i < length ds → d ≡ get_or ds i d → All (IsAmong names version (take i ds)) bs → IfSome o (IsBodyIn names version d.kind)
    → All (IsAmong names version (take (i + 1) ds)) (bs ++ cons_option o [])
among_more names version ds i d bs o l at all new = by o new
  where
    before : All (IsAmong names version (take (i + 1) ds)) bs
    before =
        All-weaker (IsAmong names version (take i ds)) (IsAmong names version (take (i + 1) ds))
        (λ b is. still_among names version ds i d b l is) bs all

    by : (o : Option StoredBody) → IfSome o (IsBodyIn names version d.kind) → All (IsAmong names version (take (i + 1) ds)) (bs ++ cons_option o [])
    by None new = subst {A = List StoredBody} (All (IsAmong names version (take (i + 1) ds))) (sym (append-nil bs)) before
    by (Some b) new = All-push (IsAmong names version (take (i + 1) ds)) bs b before (newly_among names version ds i d b l at new)

no_more : (o : Option Def) → o ≡ None → is_some o ≡ true → ⊥
no_more None e some = cc
no_more (Some d) e some = absurd (none-some d (sym e))

is_other : (names : List Bytes) (version : ℕ) (before : List Def) (k : DefKind) (a b : StoredBody)
    → IfSome (tokens_of_kind k) (λ t. definition_of before t.function ≡ None)
    → IsAmong names version before a → IsBodyIn names version k b → a.function ≡ b.function → ⊥
is_other names version before k a b once among is same =
    let new : definition_of before is.tree.name.text ≡ None =
    subst (λ o. IfSome o (λ t. definition_of before t.function ≡ None)) (own_tokens_of k is.tree is.defined) once
    in
    no_more (definition_of before is.tree.name.text) new
    (ap (λ name. is_some (definition_of before name)) (sym (ap (text_of names) same ∙ is.body.of_function)) ∙ among.defined)

pub distinct_more : (names : List Bytes) (version : ℕ) (ds : List Def) (i : ℕ) (d : Def) (bs : List StoredBody) (o : Option StoredBody)
    → IfSome (tokens_of_kind d.kind) (λ t. definition_of (take i ds) t.function ≡ None)
    → All (IsAmong names version (take i ds)) bs → IfSome o (IsBodyIn names version d.kind)
    → AreDistinct bs → AreDistinct (bs ++ cons_option o [])
distinct_more names version ds i d bs o once all new distinct = by o new
  where
    by : (o : Option StoredBody) → IfSome o (IsBodyIn names version d.kind) → AreDistinct (bs ++ cons_option o [])
    by None new = subst {A = List StoredBody} AreDistinct (sym (append-nil bs)) distinct
    by (Some b) new =
        distinct_push bs b distinct
        (All-weaker (IsAmong names version (take i ds)) (λ a. ¬ ((a.function ≡ b.function) × (a.generation ≡ b.generation)))
        (λ a is e. is_other names version (take i ds) d.kind a b once is new e.0) bs all)

-- ---- a name that isn't in the table

pub unknown_at : (names : List Bytes) (ds known : List Def) (i : ℕ) (d : Def) → i < length ds → d ≡ get_or ds i d → ds ≡ known
    → IsUnknownIn names (known_of known) (bare_def d) → HasUnknownFunction names (map bare_def ds)
unknown_at names ds known i d l at same is =
    let within : i < length (map bare_def ds) = omega (arith, length-map ds bare_def) in
    record {
      function = bare_def d;
      is_there =
          subst (Contains (map bare_def ds)) (get_or-map bare_def ds i d (bare_def d) l ∙ ap bare_def (sym at))
          (Contains-get_or (map bare_def ds) i (bare_def d) within);
      unknown = subst {A = List Def} (λ known. IsUnknownIn names (known_of known) (bare_def d)) (sym same) is;
    }
