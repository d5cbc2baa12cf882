use Rattle.std.proofs.Common.{◌≡◌, ℕ, ◌+◌, ◌<◌, [], ◌∷◌, ◌++◌, List, length, map, take, get_or, sym, ap, ◌∙◌}
use Rattle.std.proofs.lemmas.List.{map_more}
use Rattle.std.proofs.lemmas.List.Elements.{filter_map-append}
use Rattle.c_tree.specs.Bare.{bare_def}
use Rattle.c_tree.specs.declared.def.Def.{Def}
use Rattle.c_semantics.specs.Texts.{defined, names}
use Rattle.sorted_names.proofs.names.names_in_text.Goals as goal

names_more : (ds : List Def) (i : ℕ) (d : Def) → i < length ds → d ≡ get_or ds i d
    → names (map bare_def (take i ds)) ++ names (bare_def d ∷ []) ≡ names (map bare_def (take (i + 1) ds))
names_more ds i d within is =
    sym (filter_map-append defined (map bare_def (take i ds)) (bare_def d ∷ []))
    ∙ ap names (ap (λ x. map bare_def (take i ds) ++ bare_def x ∷ []) is ∙ sym (map_more bare_def ds i d within))

pub loop-definition-preserved : goal.loop-definition-preserved
loop-definition-preserved c =
    c.in_ok-add_name.ensures
    ∙ ap (λ done. done ++ names (bare_def c.definition-item.result ∷ [])) c.loop-definition.invariant
    ∙ names_more c.args.definitions.now c.loop-definition.definition-index c.definition-item.result c.loop-definition-test.true c.definition-item.is
