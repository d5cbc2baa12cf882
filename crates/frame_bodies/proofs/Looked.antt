-- What resolution looks up of definitions with the same interface.
use Rattle.std.proofs.Common.{◌≡◌, true, List, [], ◌∷◌, map, Option, Some, None, refl, ap, ap₂, ◌∙◌}
use Rattle.c_tree.specs.BareExpr.{Bytes, BareType}
use Rattle.c_tree.specs.BareStmt.{BareStmts}
use Rattle.c_tree.specs.BareDef.{BareBinding, BareDef, Struct, Mutex, Function, Global, Array}
use Rattle.c_semantics.specs.Texts.{result_type}
use Rattle.c_semantics.specs.Same.{same_list, same_type}
use Rattle.c_semantics.specs.Changes.{agree, same_interface}
use Rattle.definition_laws.proofs.SameTrees.{types as types_same, same_options}
use Rattle.definition_laws.proofs.Tests.{no, left_of, right_of}
use Rattle.version_laws.proofs.SameDefinitions.{layouts_same}
use Rattle.frame_bodies.proofs.ResolvedSame.{LooksSame}

lists_same : (xs ys : List BareType) → same_list same_type xs ys ≡ true → xs ≡ ys
lists_same [] [] h = refl
lists_same [] (y ∷ ys) h = absurd (no h)
lists_same (x ∷ xs) [] h = absurd (no h)
lists_same (x ∷ xs) (y ∷ ys) h = ap₂ (◌∷◌) (types_same x y (left_of _ _ h)) (lists_same xs ys (right_of _ _ h))

results_same : (r : Option BareType) (name other : Bytes) (ps qs : List BareBinding) (body code : BareStmts)
    → result_type (Some (Function r name ps body)) ≡ result_type (Some (Function r other qs code))
results_same None name other ps qs body code = refl
results_same (Some t) name other ps qs body code = refl

looks : (a b : BareDef) → same_interface a b ≡ true → LooksSame (Some a) (Some b)
looks (Struct tag ms) (Struct other ns) h = record { global = refl; result = refl; parameters = refl; members = layouts_same ms ns h }
looks (Mutex name) (Mutex other) h = record { global = refl; result = refl; parameters = refl; members = refl }
looks (Function r name ps body) (Function q other qs code) h =
    record {
      global = refl;
      result = results_same r name other ps qs body code
          ∙ ap (λ x. result_type (Some (Function x other qs code))) (same_options same_type r q types_same (left_of _ _ h));
      parameters = lists_same (map (λ b. b.declared) ps) (map (λ b. b.declared) qs) (right_of _ _ h);
      members = refl;
    }
looks (Global a) (Global b) h = record { global = types_same a.declared b.declared h; result = refl; parameters = refl; members = refl }
looks (Array t name n initial) (Array u other m values) h =
    record { global = types_same t u (left_of _ _ h); result = refl; parameters = refl; members = refl }
looks _ _ h = absurd (no h)

pub looks_same : (a b : Option BareDef) → agree same_interface a b ≡ true → LooksSame a b
looks_same (Some a) (Some b) h = looks a b h
looks_same (Some a) None h = absurd (no h)
looks_same None (Some b) h = absurd (no h)
looks_same None None h = absurd (no h)
