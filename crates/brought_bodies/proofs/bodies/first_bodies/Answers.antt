use Rattle.std.proofs.Common.{◌≡◌, List, [], map, subst}
use Rattle.std.specs.Prelude.{IfOk}
use Rattle.c_tree.specs.Bare.{bare_def}
use Rattle.c_tree.specs.declared.def.Def.{Def}
use Rattle.c_tree.specs.declared.def.Program.{Program}
use Rattle.c_semantics.specs.Changes.{changed, interface}
use Rattle.c_semantics.specs.SourceTexts.{text_of}
use Rattle.c_semantics.specs.Store.{brought_bodies}
use Rattle.code_store.specs.Stored.{meant_body}
use Rattle.brought_bodies.specs.Sets.{IsSetOf}
use Rattle.brought_bodies.proofs.NamesUsed.{set_of_none}
use Rattle.brought_bodies.proofs.bodies.first_bodies.Goals as goal

pub returns-clause-bodies : goal.returns-clause-bodies
returns-clause-bodies c =
    let names = c.args.names.now in
    let set = c.empty-none.result in
    let Gives : List Def → Program → Type 0 = λ ds program.
    IsSetOf names set (changed (map bare_def ds) (map bare_def program.definitions))
    → IsSetOf names set (interface (map bare_def ds) (map bare_def program.definitions))
    → IfOk c.bodies_after.result (λ bodies. map (meant_body names) bodies.items ≡ brought_bodies 1 (map bare_def ds) (text_of program))
    in
    let all : Gives [] c.args.text.now =
    subst {A = List Def} (λ ds. Gives ds c.args.text.now) c.in_ok-old.ensures
    (subst {A = Program} (λ p. Gives c.in_ok-old.old p) c.program.ensures.tree c.bodies_after.ensures.bodies)
    in
    all (set_of_none names set c.empty-none.ensures) (set_of_none names set c.empty-none.ensures)
