use Rattle.std.proofs.Common.{◌≡◌, Bool, true, ◌&&◌, List, map, sym, ap, ◌∙◌}
use Rattle.std.proofs.lemmas.Simd.{map-map}
use Rattle.c_tree.specs.Bare.{bare_binding, bare_type}
use Rattle.c_tree.specs.BareExpr.{BareType}
use Rattle.c_tree.specs.declared.def.Binding.{Binding}
use Rattle.c_semantics.specs.Same.{same_list, same_type}
use Rattle.patch_compare.proofs.alike.same_signature.Goals as goal

abbrev types_of : List Binding → List BareType
types_of bs = map (λ b. b.declared) (map bare_binding bs)

-- the types of parameters, one map for two
same_types_of : (a b : List Binding) → same_list same_type (map (λ b. bare_type b.declared) a) (map (λ b. bare_type b.declared) b)
    ≡ same_list same_type (types_of a) (types_of b)
same_types_of a b =
    ap (λ l. same_list same_type l (map (λ b. bare_type b.declared) b)) (sym (map-map (λ b. b.declared) bare_binding a))
    ∙ ap (same_list same_type (types_of a)) (sym (map-map (λ b. b.declared) bare_binding b))

-- after a first test that is met
second : (r s t : Bool) → r ≡ s → r ≡ true → t ≡ (s && t)
second r s t e h = ap (λ b. b && t) (sym h ∙ e)

pub returns-then-same_result : goal.returns-then-same_result
returns-then-same_result c =
    c.same_types.ensures
    ∙ ap (λ l. same_list same_type (map (λ b. bare_type b.declared) l) (map (λ b. bare_type b.declared) c.as_slice-then-same_result.result.now)) c.as_slice.ensures
    ∙ ap (λ l. same_list same_type (map (λ b. bare_type b.declared) c.args.a.now.parameters) (map (λ b. bare_type b.declared) l)) c.as_slice-then-same_result.ensures
    ∙ same_types_of c.args.a.now.parameters c.args.b.now.parameters
    ∙ second c.same_result.result _ _ c.same_result.ensures c.if-same_result.true
