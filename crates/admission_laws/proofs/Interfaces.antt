-- The test of equal interfaces is transitive.
use Rattle.std.proofs.Common.{◌≡◌, Bool, true, false, ◌&&◌, ℤ, List, [], ◌∷◌, map, Option, Some, None, refl, sym, ap, ap₂, ◌∙◌}
use Rattle.std.specs.Ordering.{int_eq}
use Rattle.std.proofs.lemmas.Bool.{false≢true, and_parts}
use Rattle.std.proofs.lemmas.Bool.Decides.{Decides-int_eq}
use Rattle.c_ints.specs.Number.{value_of}
use Rattle.c_tree.specs.BareExpr.{BareType}
use Rattle.c_tree.specs.BareDef.{BareBinding, BareDef, Struct, Forward, Mutex, Function, Prototype, Global, Array, TransformStruct, TransformGlobal}
use Rattle.c_semantics.specs.Same.{same_list, same_option, same_type}
use Rattle.c_semantics.specs.Changes.{same_layout, same_interface, agree}
use Rattle.definition_laws.proofs.SameTrees.{types as types_same, same_options}
use Rattle.version_laws.proofs.SameDefinitions.{layouts_same}

-- what an interface is of
data Face : Type 0 where
  OfStruct : List BareBinding → Face
  OfMutex : Face
  OfFunction : Option BareType → List BareType → Face
  OfGlobal : BareType → Face
  OfArray : BareType → ℤ → Face
  OfNothing : Face

abbrev face : BareDef → Face
face (Struct tag ms) = OfStruct ms
face (Forward tag) = OfNothing
face (Mutex name) = OfMutex
face (Function r name ps body) = OfFunction r (map (λ b. b.declared) ps)
face (Prototype r name ps) = OfNothing
face (Global d) = OfGlobal d.declared
face (Array t name n initial) = OfArray t (value_of n)
face (TransformStruct tag values) = OfNothing
face (TransformGlobal name value) = OfNothing

abbrev same_face : Face → Face → Bool
same_face (OfStruct ms) (OfStruct ns) = same_layout ms ns
same_face OfMutex OfMutex = true
same_face (OfFunction r ps) (OfFunction q qs) = same_option same_type r q && same_list same_type ps qs
same_face (OfGlobal t) (OfGlobal u) = same_type t u
same_face (OfArray t n) (OfArray u m) = same_type t u && int_eq n m
same_face _ _ = false

by_face : (a b : BareDef) → same_interface a b ≡ same_face (face a) (face b)
by_face (Struct tag ms) (Struct other ns) = refl
by_face (Mutex name) (Mutex other) = refl
by_face (Function r name ps body) (Function q other qs code) = refl
by_face (Global a) (Global b) = refl
by_face (Array t name n initial) (Array u other m values) = refl
by_face _ _ = refl

lists_same : (xs ys : List BareType) → same_list same_type xs ys ≡ true → xs ≡ ys
lists_same [] [] h = refl
lists_same [] (y ∷ ys) h = absurd (false≢true h)
lists_same (x ∷ xs) [] h = absurd (false≢true h)
lists_same (x ∷ xs) (y ∷ ys) h =
    let both = and_parts _ _ h in ap₂ (◌∷◌) (types_same x y both.0) (lists_same xs ys both.1)

faces_same : (a b : Face) → same_face a b ≡ true → a ≡ b
faces_same (OfStruct ms) (OfStruct ns) h = ap OfStruct (layouts_same ms ns h)
faces_same OfMutex OfMutex h = refl
faces_same (OfFunction r ps) (OfFunction q qs) h =
    let both = and_parts _ _ h in ap₂ OfFunction (same_options same_type r q types_same both.0) (lists_same ps qs both.1)
faces_same (OfGlobal t) (OfGlobal u) h = ap OfGlobal (types_same t u h)
faces_same (OfArray t n) (OfArray u m) h =
    let both = and_parts _ _ h in ap₂ OfArray (types_same t u both.0) ((Decides-int_eq n m).0 both.1)
faces_same _ _ h = absurd (false≢true h)

through : (a b c : BareDef) → same_interface a b ≡ true → same_interface b c ≡ true → same_interface a c ≡ true
through a b c h i =
    by_face a c ∙ ap (λ x. same_face x (face c)) (faces_same (face a) (face b) (sym (by_face a b) ∙ h)) ∙ sym (by_face b c) ∙ i

pub agree_through : (a b c : Option BareDef) → agree same_interface a b ≡ true → agree same_interface b c ≡ true
    → agree same_interface a c ≡ true
agree_through None b c h i = absurd (false≢true h)
agree_through (Some a) None c h i = absurd (false≢true h)
agree_through (Some a) (Some b) None h i = absurd (false≢true i)
agree_through (Some a) (Some b) (Some c) h i = through a b c h i
