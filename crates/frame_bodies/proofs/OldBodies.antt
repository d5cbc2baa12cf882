-- A function without a new body stays as it was.
use Rattle.std.proofs.Common.{◌≡◌, Bool, true, false, not, ◌&&◌, ◌||◌, List, [], ◌∷◌, Option, Some, None, is_some, refl, sym, ap, ap₂, subst, Contains, inl, inr, ◌∙◌, find, cond}
use Rattle.std.specs.List.{list_any}
use Rattle.std.proofs.lemmas.Slice.Eq.{bytes_eq-Decides}
use Rattle.std.proofs.lemmas.Option.{none-some, same_Some}
use Rattle.c_tree.specs.BareExpr.{Bytes, BareType}
use Rattle.c_tree.specs.BareStmt.{BareStmts}
use Rattle.c_tree.specs.BareDef.{BareBinding, BareDef, Struct, Forward, Mutex, Function, Prototype, Global, Array, TransformStruct, TransformGlobal}
use Rattle.name_sets.specs.NameLists.{is_among, name_set}
use Rattle.c_semantics.specs.Texts.{definition, defines, names}
use Rattle.c_semantics.specs.Same.{same_type}
use Rattle.c_semantics.specs.Changes.{agree, changed, interface, same_definition, same_interface}
use Rattle.c_semantics.specs.Resolution.{resolved_body}
use Rattle.c_semantics.specs.Skeletons.{skeleton_of, direct_uses}
use Rattle.definition_laws.proofs.SameTrees.{types as types_same, same_options, blocks_same}
use Rattle.typed_uses.proofs.Points.{either_of}
use Rattle.definition_laws.proofs.Tests.{no, left_of, right_of}
use Rattle.version_laws.proofs.SameDefinitions.{layouts_same}
use Rattle.definition_laws.proofs.Names.{among_names, among_set, among_filtered}
use Rattle.version_laws.proofs.DefinedNames.{stays_where_same}
use Rattle.frame_bodies.specs.AcceptedTexts.{is_function, looked_up}
use Rattle.frame_bodies.specs.Unchanged.{OldBodiesStay}
use Rattle.frame_bodies.proofs.Lists.{none_in}
use Rattle.frame_bodies.proofs.AcceptedFacts.{resolved_by_uses}

neither : (a b : Bool) → (a || b) ≡ false → (a ≡ false) × (b ≡ false)
neither true b h = absurd (no (sym h))
neither false b h = (refl, h)

negated : (a : Bool) → not a ≡ false → a ≡ true
negated true h = refl
negated false h = absurd (no (sym h))

-- what is found under a name is one that defines it
pub found_passes : (test : BareDef → Bool) (text : List BareDef) (d : BareDef) → find test text ≡ Some d → test d ≡ true
found_passes test [] d h = absurd (none-some d h)
found_passes test (x ∷ text) d h = by (test x) refl (found_passes test text d) h
  where
    by : (b : Bool) → test x ≡ b → (find test text ≡ Some d → test d ≡ true) → cond b (Some x) (find test text) ≡ Some d → test d ≡ true
    by true e rest h = ap test (sym (same_Some x d h)) ∙ e
    by false e rest h = rest h

pub function_name : (text : List BareDef) (f : Bytes) (r : Option BareType) (name : Bytes) (ps : List BareBinding) (body : BareStmts)
    → definition text f ≡ Some (Function r name ps body) → f ≡ name
function_name text f r name ps body h = (bytes_eq-Decides f name).0 (found_passes (defines f) text (Function r name ps body) h)

-- definitions of one function that are the same are equal
pub same_functions : (p q : List BareDef) (f : Bytes) (o u : Option BareDef) → definition p f ≡ o → definition q f ≡ u
    → is_function u ≡ true → agree same_definition o u ≡ true → o ≡ u
same_functions p q f (Some (Function r name ps body)) (Some (Function s other qs code)) is was fun h =
    let own = function_name p f r name ps body is in
    let theirs = function_name q f s other qs code was in
    four_same (same_options same_type r s types_same (left_of _ _ (left_of _ _ h))) (sym own ∙ theirs)
    (layouts_same ps qs (right_of _ _ (left_of _ _ h))) (blocks_same body code (right_of _ _ h))
  where
    four_same : {a b : Option BareType} {m n : Bytes} {xs ys : List BareBinding} {x y : BareStmts} → a ≡ b → m ≡ n → xs ≡ ys → x ≡ y
        → Some (Function a m xs x) ≡ Some (Function b n ys y)
    four_same e g i j = cc
same_functions p q f o (Some (Struct tag ms)) is was fun h = absurd (no fun)
same_functions p q f o (Some (Forward tag)) is was fun h = absurd (no fun)
same_functions p q f o (Some (Mutex name)) is was fun h = absurd (no fun)
same_functions p q f o (Some (Prototype r name ps)) is was fun h = absurd (no fun)
same_functions p q f o (Some (Global d)) is was fun h = absurd (no fun)
same_functions p q f o (Some (Array t name n initial)) is was fun h = absurd (no fun)
same_functions p q f o (Some (TransformStruct tag values)) is was fun h = absurd (no fun)
same_functions p q f o (Some (TransformGlobal name value)) is was fun h = absurd (no fun)
same_functions p q f o None is was fun h = absurd (no fun)
same_functions p q f None (Some (Function s other qs code)) is was fun h = absurd (no h)
same_functions p q f (Some (Struct tag ms)) (Some (Function s other qs code)) is was fun h = absurd (no h)
same_functions p q f (Some (Forward tag)) (Some (Function s other qs code)) is was fun h = absurd (no h)
same_functions p q f (Some (Mutex name)) (Some (Function s other qs code)) is was fun h = absurd (no h)
same_functions p q f (Some (Prototype r name ps)) (Some (Function s other qs code)) is was fun h = absurd (no h)
same_functions p q f (Some (Global d)) (Some (Function s other qs code)) is was fun h = absurd (no h)
same_functions p q f (Some (Array t name n initial)) (Some (Function s other qs code)) is was fun h = absurd (no h)
same_functions p q f (Some (TransformStruct tag values)) (Some (Function s other qs code)) is was fun h = absurd (no h)
same_functions p q f (Some (TransformGlobal name value)) (Some (Function s other qs code)) is was fun h = absurd (no h)

-- none of some names passes a test
none_passes : (test : Bytes → Bool) (ns : List Bytes) (u : Bytes) → list_any test ns ≡ false → Contains ns u → test u ≡ false
none_passes test [] u none h = absurd (none_in u h)
none_passes test (n ∷ ns) u none h =
    let both = neither (test n) (list_any test ns) none in
    elim (either_of n u ns h) [ inl is ↦ ap test (sym is) ∙ both.0 | inr later ↦ none_passes test ns u both.1 later ]

-- a name that is defined, and not among those whose interface changes, keeps its interface
keeps_interface : (p q : List BareDef) (u : Bytes) → is_among (interface p q) u ≡ false → is_some (definition p u) ≡ true
    → agree same_interface (definition p u) (definition q u) ≡ true
keeps_interface p q u none there =
    let is = among_filtered (λ z. not (agree same_interface (definition p z) (definition q z))) (name_set (names p)) u in
    let known = among_set (names p) u ∙ among_names p u ∙ there in
    by (agree same_interface (definition p u) (definition q u)) (is_among (name_set (names p)) u) known (sym is ∙ none)
  where
    by : (b known : Bool) → known ≡ true → (not b && known) ≡ false → b ≡ true
    by true known k e = refl
    by false known k e = absurd (no (sym e ∙ k))

pub old_bodies_stay : OldBodiesStay
old_bodies_stay p q function a fun old =
    let lp = looked_up p in
    let lq = looked_up q in
    let s = skeleton_of lq (lq function) in
    let halves = neither (not (is_among (names p.definitions) function) || is_among (changed p.definitions q.definitions) function)
    (list_any (is_among (interface p.definitions q.definitions)) (direct_uses s)) old in
    let first = neither (not (is_among (names p.definitions) function)) (is_among (changed p.definitions q.definitions) function) halves.0 in
    let stayed = sym (stays_where_same p.definitions q.definitions function)
    ∙ ap₂ (λ x y. x && not y) (negated (is_among (names p.definitions) function) first.0) first.1 in
    let same = same_functions p.definitions q.definitions function (lp function) (lq function) refl refl fun stayed in
    let uses = λ (u : Bytes) (h : Contains (direct_uses (skeleton_of lq (lp function))) u) (there : is_some (lp u) ≡ true).
    keeps_interface p.definitions q.definitions u
    (none_passes (is_among (interface p.definitions q.definitions)) (direct_uses s) u halves.1
    (subst (λ o. Contains (direct_uses (skeleton_of lq o)) u) same h)) there in
    record {
      definition_stays = same;
      body_stays = resolved_by_uses p lq function a uses ∙ ap (resolved_body lq) same;
    }
