use Rattle.std.proofs.Common.{◌≡◌, ◌+◌, ◌<◌, [], ◌++◌, ◌∷◌, All, length, map, take, sym, ap, subst, ◌∙◌, arith}
use Rattle.std.proofs.lemmas.List.{get_or-map, length-map, map-append, take_all, take_more}
use Rattle.std.proofs.lemmas.List.Elements.{All-get_or, filter_map-append}
use Rattle.std.specs.Prelude.{filter_map}
use Rattle.std.specs.List.{cons_option}
use Rattle.std.specs.Option.{option_map}
use Rattle.c_tree.specs.Bare.{bare_def}
use Rattle.source_model.specs.Installs.{global_after}
use Rattle.source_programs.specs.Globals.{cells_of}
use Rattle.source_programs.specs.Programs.{text_at}
use Rattle.source_install.specs.OwnCells.{IsOwn}
use Rattle.source_install.proofs.globals.all_cells.Goals as goal

pub loop-definition-preserved : goal.loop-definition-preserved
loop-definition-preserved c = λ w install.
    let q = text_at c.args.program.now c.args.number in
    let ds = c.definitions_in-definitions.result.now in
    let i = c.loop-definition.definition-index in
    let d = c.definition-item.result in
    let within : i < length ds = c.loop-definition-test.true in
    let long = length-map ds bare_def in
    let all : All (IsOwn q) (map bare_def ds) =
    subst (All (IsOwn q)) (sym c.definitions_in-definitions.ensures.text) c.definitions_in-definitions.ensures.own
    in
    let own : IsOwn q (bare_def d) =
    subst (IsOwn q) (get_or-map bare_def ds i d (bare_def d) within ∙ ap bare_def (sym c.definition-item.is))
    (All-get_or (IsOwn q) (map bare_def ds) i (bare_def d) (omega (arith, within, long)) all)
    in
    let longer : map bare_def (take (i + 1) ds) ≡ map bare_def (take i ds) ++ bare_def d ∷ [] =
    ap (map bare_def) (take_more ds i d within ∙ ap (λ x. take i ds ++ x ∷ []) (sym c.definition-item.is)) ∙ map-append bare_def (take i ds) (d ∷ [])
    in
    c.in_ok-push_if.ensures
    ∙ ap (λ gs. gs ++ cons_option (option_map cells_of c.in_ok-cells.cells) []) (c.loop-definition.invariant w install)
    ∙ ap (λ o. filter_map (global_after w w.text q) (map bare_def (take i ds)) ++ cons_option o [])
    (c.in_ok-cells.ensures c.args.number w install.follows (ap (λ w. w.globals) install.shared) own)
    ∙ sym (filter_map-append (global_after w w.text q) (map bare_def (take i ds)) (bare_def d ∷ []))
    ∙ ap (filter_map (global_after w w.text q)) (sym longer)

pub returns : goal.returns
returns c = λ w install.
    let q = text_at c.args.program.now c.args.number in
    let ds = c.definitions_in-definitions.result.now in
    let i = c.loop-definition.definition-index in
    c.loop-definition.invariant w install
    ∙ ap (λ l. filter_map (global_after w w.text q) (map bare_def l)) (take_all i ds (omega (arith, c.loop-definition-test.false)))
    ∙ ap (filter_map (global_after w w.text q)) c.definitions_in-definitions.ensures.text
