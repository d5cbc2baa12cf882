-- Definitions one after another.
use Rattle.std.proofs.Common.{◌≡◌, ℕ, ◌+◌, ◌<◌, List, ◌++◌, ◌∷◌, [], take, drop, length, get_or, slice_get, Option, Some, refl, sym, ap, ◌∙◌}
use Rattle.std.proofs.lemmas.List.{at_drop_more}
use Rattle.std.proofs.lemmas.Option.{slice_get_read}
use Rattle.c_tree.specs.declared.def.Def.{Def}
use Rattle.c_expr_types.specs.declared.fault.Fault.{Fault}
use Rattle.c_expr_types.specs.Faults.{first, sooner}
use Rattle.c_types.specs.Definitions.{all_faults, kind_faults}
use Rattle.c_types.proofs.Counts.{taken_more}
use Rattle.c_expr_types.proofs.Firsts.{first_append, sooner_of_three}

-- the definition at an index
pub definition_at_index : (ds text : List Def) (i : ℕ) (d : Def) → ds ≡ text → i < length ds → d ≡ get_or ds i d → slice_get text i ≡ Some d
definition_at_index ds text i d same below is = ap (λ xs. slice_get xs i) (sym same) ∙ slice_get_read ds (length ds) i d refl below is

-- one step along the definitions of a text
pub definition_faults_step : (ds text : List Def) (i : ℕ) (d : Def) (now next : Option Fault) → ds ≡ text → i < length ds → d ≡ get_or ds i d →
    next ≡ sooner now (first (kind_faults text (take i text) d d.kind)) →
    sooner next (first (all_faults text (take (i + 1) text) (drop (i + 1) text))) ≡ sooner now (first (all_faults text (take i text) (drop i text)))
definition_faults_step ds text i d now next same below is made =
    let own : List Fault = kind_faults text (take i text) d d.kind in
    let rest : List Fault = all_faults text (take i text ++ d ∷ []) (drop (i + 1) text) in
    ap (λ n. sooner n (first (all_faults text (take (i + 1) text) (drop (i + 1) text)))) made
    ∙ ap (λ before. sooner (sooner now (first own)) (first (all_faults text before (drop (i + 1) text)))) (taken_more text i d (definition_at_index ds text i d same below is))
    ∙ sym (sooner_of_three now (first own) (first rest))
    ∙ ap (sooner now)
    (sym (first_append own rest)
    ∙ ap (λ y. first (all_faults text (take i text) (y ∷ drop (i + 1) text))) (is ∙ ap (λ xs. get_or xs i d) same)
    ∙ sym (at_drop_more (λ ys. first (all_faults text (take i text) ys)) text i d (transported same below)))
  where
    transported : ds ≡ text → i < length ds → i < length text
    transported e h = rw (← e) h
