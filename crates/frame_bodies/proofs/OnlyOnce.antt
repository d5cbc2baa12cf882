-- A text that types defines no function under a name that it has already.
use Rattle.std.proofs.Common.{◌≡◌, ℕ, Bool, true, false, IsTrue, List, [], ◌∷◌, ◌++◌, map, Some, None, is_some, is_none, option_and_then, find, cond, bytes_eq, refl, sym, ap, subst, ◌∙◌}
use Rattle.c_tree.specs.BareExpr.{Bytes}
use Rattle.c_tree.specs.BareDef.{BareDef}
use Rattle.c_tree.specs.BareDef as bare
use Rattle.c_tree.specs.Bare.{bare_def, bare_kind}
use Rattle.c_tree.specs.declared.def.Def.{Def}
use Rattle.c_tree.specs.declared.def.DefKind.{DefKind}
use Rattle.c_tree.specs.declared.def.DefKind.TheVariants.{Struct, Forward, Mutex, Function, Prototype, Global, Array, TransformStruct, TransformGlobal}
use Rattle.c_expr_types.specs.declared.fault.TypeKind.TheVariants.{DeclaredTwice}
use Rattle.c_definitions.specs.Lookup.{Meaning, defined, definition_of, is_named, meaning_in, members_of, name_of}
use Rattle.c_types.specs.Definitions.{all_faults, kind_faults, named_twice, result_faults}
use Rattle.c_semantics.specs.Names.{struct_name}
use Rattle.c_semantics.specs.Texts.{defines}
use Rattle.c_semantics.specs.SourceTexts.{Text}
use Rattle.typed_uses.specs.UseLaws.{NamesApart}
use Rattle.typed_uses.proofs.DeclaredNames.{names_of_texts_are_apart}
use Rattle.typed_uses.proofs.Faultless.{none_after, none_before, none_hidden, passes}
use Rattle.typed_uses.proofs.Lookups.{itself, more_members, own_members, same_bytes}
use Rattle.frame_bodies.specs.AcceptedTexts.{IsAccepted}
use Rattle.frame_bodies.proofs.AcceptedFacts.{bare_of}

no : false ≡ true → ⊥
no e = cc

-- a definition is no function with that name
abbrev pub NotNamed : Bytes → BareDef → Type 0
NotNamed f (bare.Function r name ps body) = bytes_eq f name ≡ false
NotNamed f _ = Unit {0}

abbrev pub NoFunction : Bytes → List BareDef → Type 0
NoFunction f [] = Unit {0}
NoFunction f (d ∷ ds) = NotNamed f d × NoFunction f ds

-- no function follows under a name that is defined
abbrev pub Lone : List BareDef → Type 0
Lone [] = Unit {0}
Lone (d ∷ ds) = ((f : Bytes) → defines f d ≡ true → NoFunction f ds) × Lone ds

-- ---- what is found in a longer list

pub found_still : (test : Def → Bool) (before more : List Def) → is_none (find test before) ≡ false → is_none (find test (before ++ more)) ≡ false
found_still test [] more h = absurd (no (sym h))
found_still test (x ∷ xs) more h = by (test x) (found_still test xs more) h
  where
    by : (b : Bool) → (is_none (find test xs) ≡ false → is_none (find test (xs ++ more)) ≡ false)
        → is_none (cond b (Some x) (find test xs)) ≡ false → is_none (cond b (Some x) (find test (xs ++ more))) ≡ false
    by true rest h = h
    by false rest h = rest h

pub found_last : (test : Def → Bool) (before : List Def) (d : Def) → test d ≡ true → is_none (find test (before ++ d ∷ [])) ≡ false
found_last test [] d h = ap (λ b. is_none (cond b (Some d) None)) h
found_last test (x ∷ xs) d h = by (test x) (found_last test xs d h)
  where
    by : (b : Bool) → is_none (find test (xs ++ d ∷ [])) ≡ false → is_none (cond b (Some x) (find test (xs ++ d ∷ []))) ≡ false
    by true rest = refl
    by false rest = rest

-- ---- after a definition of the name

later_none : (text before ds : List Def) (n : Bytes) → is_none (definition_of before n) ≡ false → all_faults text before ds ≡ []
    → NoFunction n (map bare_def ds)
later_none text before [] n there h = tt
later_none text before (e ∷ es) n there h =
    let own = kind_faults text before e e.kind in (
      by e.kind (none_before own _ h),
      later_none text (before ++ e ∷ []) es n (found_still (λ d. is_named n (name_of d.kind)) before (e ∷ []) there) (none_after own _ h),
    )
  where
    new : (own : Bytes) → is_none (definition_of before own) ≡ true → (b : Bool) → bytes_eq n own ≡ b → b ≡ false
    new own none false e = refl
    new own none true e = absurd (no (sym there ∙ ap (λ x. is_none (definition_of before x)) (same_bytes n own e) ∙ none))

    by : (k : DefKind) → kind_faults text before e k ≡ [] → NotNamed n (bare_kind k)
    by (Struct tag members) h = tt
    by (Forward tag) h = tt
    by (Mutex name) h = tt
    by (Function f) h =
        new f.name.text
        (passes (is_none (definition_of before f.name.text)) DeclaredTwice f.name.place
        (none_before (named_twice before f.name) _ (none_after (result_faults text f.result) _ (none_hidden _ _ h).1)))
        (bytes_eq n f.name.text) refl
    by (Prototype p) h = tt
    by (Global d) h = tt
    by (Array a) h = tt
    by (TransformStruct t) h = tt
    by (TransformGlobal name v) h = tt

-- ---- after a struct, whose name is no function's

undefined_functions : (ds : List Def) (n : Bytes) → defined ds n ≡ None → NoFunction n (map bare_def ds)
undefined_functions [] n e = tt
undefined_functions (d ∷ ds) n e = by d.place d.kind e (undefined_functions ds n)
  where
    apart : (m : Meaning) (x : Def) (b : Bool) → meaning_in x.kind ≡ Some m
        → option_and_then (λ y. meaning_in y.kind) (cond b (Some x) (definition_of ds n)) ≡ None → (b ≡ false) × (defined ds n ≡ None)
    apart m x true is e = absurd (let clash : Some m ≡ None = sym is ∙ e in cc)
    apart m x false is e = (refl, e)

    by : (place : ℕ) (k : DefKind) → defined (record { place = place; kind = k } ∷ ds) n ≡ None
        → (defined ds n ≡ None → NoFunction n (map bare_def ds)) → NotNamed n (bare_kind k) × NoFunction n (map bare_def ds)
    by place (Struct t members) e rest = (tt, rest e)
    by place (Forward t) e rest = (tt, rest e)
    by place (Mutex m) e rest = (tt, rest (apart _ (record { place = place; kind = Mutex m }) (bytes_eq n m.text) refl e).1)
    by place (Function f) e rest =
        let h = apart _ (record { place = place; kind = Function f }) (bytes_eq n f.name.text) refl e in (h.0, rest h.1)
    by place (Prototype p) e rest = (tt, rest e)
    by place (Global g) e rest = (tt, rest (apart _ (record { place = place; kind = Global g }) (bytes_eq n g.name.text) refl e).1)
    by place (Array a) e rest = (tt, rest (apart _ (record { place = place; kind = Array a }) (bytes_eq n a.name.text) refl e).1)
    by place (TransformStruct t) e rest = (tt, rest e)
    by place (TransformGlobal m v) e rest = (tt, rest e)

-- ---- a whole text

alone : (text before ds : List Def) → NamesApart text
    → ((tag : Bytes) → IsTrue (is_some (members_of ds tag)) → IsTrue (is_some (members_of text tag)))
    → ((n : Bytes) → defined text n ≡ None → NoFunction n (map bare_def ds)) → all_faults text before ds ≡ [] → Lone (map bare_def ds)
alone text before [] apart grows none h = tt
alone text before (d ∷ ds) apart grows none h =
    let own = kind_faults text before d d.kind in
    let rest = none_after own _ h in (
      by d.place d.kind grows (λ n e. (none n e).1) rest,
      alone text (before ++ d ∷ []) ds apart (λ t i. grows t (more_members d ds t i)) (λ n e. (none n e).1) rest,
    )
  where
    by : (place : ℕ) (k : DefKind)
        → ((tag : Bytes) → IsTrue (is_some (members_of (record { place = place; kind = k } ∷ ds) tag)) → IsTrue (is_some (members_of text tag)))
        → ((n : Bytes) → defined text n ≡ None → NoFunction n (map bare_def ds))
        → all_faults text (before ++ record { place = place; kind = k } ∷ []) ds ≡ []
        → (f : Bytes) → defines f (bare_kind k) ≡ true → NoFunction f (map bare_def ds)
    by place (Struct t members) grows none rest f e =
        subst (λ n. NoFunction n (map bare_def ds)) (sym (same_bytes f (struct_name t.text) e))
        (none (struct_name t.text) (apart t.text (grows t.text (own_members place t members ds t.text (itself t.text)))))
    by place (Forward t) grows none rest f e = absurd (no e)
    by place (Mutex m) grows none rest f e =
        later_none text (before ++ record { place = place; kind = Mutex m } ∷ []) ds f
        (found_last (λ d. is_named f (name_of d.kind)) before (record { place = place; kind = Mutex m }) e) rest
    by place (Function g) grows none rest f e =
        later_none text (before ++ record { place = place; kind = Function g } ∷ []) ds f
        (found_last (λ d. is_named f (name_of d.kind)) before (record { place = place; kind = Function g }) e) rest
    by place (Prototype p) grows none rest f e = absurd (no e)
    by place (Global g) grows none rest f e =
        later_none text (before ++ record { place = place; kind = Global g } ∷ []) ds f
        (found_last (λ d. is_named f (name_of d.kind)) before (record { place = place; kind = Global g }) e) rest
    by place (Array a) grows none rest f e =
        later_none text (before ++ record { place = place; kind = Array a } ∷ []) ds f
        (found_last (λ d. is_named f (name_of d.kind)) before (record { place = place; kind = Array a }) e) rest
    by place (TransformStruct t) grows none rest f e = absurd (no e)
    by place (TransformGlobal m v) grows none rest f e = absurd (no e)

pub alone_in : (text : Text) → IsAccepted text → Lone text.definitions
alone_in text a =
    let ds = text.tree.definitions in
    subst Lone (bare_of text a)
    (alone ds [] ds (names_of_texts_are_apart a.bytes text.tree a.accepted.is_read) (λ tag h. h) (undefined_functions ds)
    (none_hidden _ _ a.accepted.types).0)
