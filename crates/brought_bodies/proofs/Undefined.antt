-- Where a table has the names of a text, only a name that the text doesn't define is unknown.
use Rattle.std.proofs.Common.{◌≡◌, ◌<◌, List, [], ◌∷◌, Option, Some, None, Contains, filter_map, inl, inr, refl, sym, ap, subst, ◌∙◌, arith}
use Rattle.std.specs.List.{cons_option}
use Rattle.std.specs.Option.{MatchOption}
use Rattle.name_sets.specs.NameLists.{name_set}
use Rattle.run_types.specs.Skeleton.{Point, direct_use}
use Rattle.c_tree.specs.BareExpr.{Bytes, BareType}
use Rattle.c_tree.specs.BareStmt.{BareStmts}
use Rattle.c_tree.specs.BareDef.{BareBinding, BareDef, Struct, Forward, Mutex, Function, Prototype, Global, Array, TransformStruct, TransformGlobal}
use Rattle.c_semantics.specs.Texts.{defined, definition, names}
use Rattle.c_semantics.specs.Skeletons.{skeleton_of}
use Rattle.typed_uses.proofs.Points.{either_of, first_of, later_of}
use Rattle.sorted_names.proofs.Order.{among_set}
use Rattle.brought_bodies.specs.Unknown.{HasUnknownFunction, IsUnknownIn}
use Rattle.brought_bodies.specs.Undefined.{HasUndefinedUse}
use Rattle.brought_bodies.proofs.NamesUsed.{among_decides}

-- what is given of an item is among what is given of all
in_filtered : {X Y : Type 0} (f : X → Option Y) (xs : List X) (x : X) (y : Y) → Contains xs x → f x ≡ Some y → Contains (filter_map f xs) y
in_filtered f [] x y there e = let below : there.0 < 0 = there.1 in absurd (omega arith)
in_filtered {Y = Y} f (z ∷ zs) x y there e = elim (either_of z x zs there) [
  | inl is ↦ subst (λ o. Contains (cons_option o (filter_map f zs)) y) (sym (ap f is ∙ e)) (first_of y (filter_map f zs))
  | inr later ↦ behind (f z) (in_filtered f zs x y later e)
]
  where
    behind : (o : Option Y) → Contains (filter_map f zs) y → Contains (cons_option o (filter_map f zs)) y
    behind None h = h
    behind (Some w) h = later_of w y (filter_map f zs) h

in_set : (xs : List Bytes) (z : Bytes) → Contains xs z → Contains (name_set xs) z
in_set xs z there = (among_decides (name_set xs) z).0 (among_set z xs ∙ (among_decides xs z).1 there)

module _ (table : List Bytes) (text : List BareDef) (has : (name : Bytes) → Contains (names text) name → Contains table name) where
  of_point : (result : Option BareType) (name : Bytes) (parameters : List BareBinding) (body : BareStmts)
      → let function = Function result name parameters body in
      Contains text function
      → (point : Point) → Contains (skeleton_of (definition text) (Some function)).points point
      → (o : Option Bytes) → direct_use point.kind ≡ o → MatchOption o ⊥ (λ z. ¬ Contains table z) → HasUndefinedUse text
  of_point result name parameters body there point at None is unknown = absurd unknown
  of_point result name parameters body there point at (Some used) is unknown =
      let points = (skeleton_of (definition text) (Some (Function result name parameters body))).points in
      let each = filter_map (λ (p : Point). direct_use p.kind) points in
      record {
        result = result;
        name = name;
        parameters = parameters;
        body = body;
        is_there = there;
        used = used;
        uses = in_set each used (in_filtered (λ (p : Point). direct_use p.kind) points point used at is);
        undefined = λ is_defined. unknown (has used is_defined);
      }

  of_function : (d : BareDef) → Contains text d → IsUnknownIn table (definition text) d → HasUndefinedUse text
  of_function (Function result name parameters body) there (inl absent) =
      absurd (absent (has name (in_filtered defined text (Function result name parameters body) name there refl)))
  of_function (Function result name parameters body) there (inr u) =
      of_point result name parameters body there u.point u.is_there (direct_use u.point.kind) refl u.unknown
  of_function (Struct tag members) there never = absurd never
  of_function (Forward tag) there never = absurd never
  of_function (Mutex name) there never = absurd never
  of_function (Prototype result name parameters) there never = absurd never
  of_function (Global d) there never = absurd never
  of_function (Array element name length initial) there never = absurd never
  of_function (TransformStruct tag values) there never = absurd never
  of_function (TransformGlobal name value) there never = absurd never

  pub undefined_use : HasUnknownFunction table text → HasUndefinedUse text
  undefined_use u = of_function u.function u.is_there u.unknown
