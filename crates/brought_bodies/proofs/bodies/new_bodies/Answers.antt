use Rattle.std.proofs.Common.{◌≡◌, ◌+◌, ◌<◌, List, [], ◌++◌, All, map, length, get_or, take, sym, ap, subst, ◌∙◌}
use Rattle.std.specs.Prelude.{IfSome}
use Rattle.std.specs.List.{cons_option}
use Rattle.c_tree.specs.Bare.{bare_def}
use Rattle.c_tree.specs.declared.def.Def.{Def}
use Rattle.c_semantics.specs.SourceTexts.{text_of, tokens_of_kind}
use Rattle.c_semantics.specs.Store.{body_of, tokens_of}
use Rattle.code_store.specs.declared.body.StoredBody.{StoredBody}
use Rattle.code_store.specs.Stored.{meant_body, AreDistinct}
use Rattle.brought_bodies.proofs.Once.{typed_once, own_tokens}
use Rattle.brought_bodies.proofs.NewBodies.{IsAmong, bodies_more, among_more, distinct_more}
use Rattle.brought_bodies.proofs.bodies.new_bodies.Goals as goal

pub loop-one-preserved : goal.loop-one-preserved
loop-one-preserved c =
    let patch = c.args.patch.now in
    let names = patch.names.now in
    let version = patch.version in
    let program = c.args.program.now in
    let ds = program.definitions in
    let i = c.loop-one.one-index in
    let d = c.one-item.result in
    let bs = c.loop-one.bodies.items in
    let o = c.in_ok-body.body in
    let within : i < length ds = subst {A = List Def} (λ xs. i < length xs) c.as_slice-one-items.ensures c.loop-one-test.true in
    let at : d ≡ get_or ds i d = subst {A = List Def} (λ xs. d ≡ get_or xs i d) c.as_slice-one-items.ensures c.one-item.is in
    let pushed : c.push_if.new.bodies.items ≡ bs ++ cons_option o [] = c.in_ok-push_if.ensures in
    let tokens : IfSome (tokens_of_kind d.kind) (λ t. tokens_of (text_of program) t.function ≡ t.count) =
    own_tokens ds (typed_once program c.requires.types) i d within at
    in
    record {
      bodies = λ sets.
          ap (map (meant_body names)) pushed
          ∙ bodies_more names (body_of version (map bare_def patch.old.now) (text_of program)) ds i d bs o within at
          (c.loop-one.invariant.bodies sets)
          (c.in_ok-body.ensures.body (text_of program) (ap (map bare_def) c.requires.text) sets tokens);
      among =
          subst {A = List StoredBody} (All (IsAmong names version (take (i + 1) ds))) (sym pushed)
          (among_more names version ds i d bs o within at c.loop-one.invariant.among c.in_ok-body.ensures.known);
      distinct =
          subst {A = List StoredBody} AreDistinct (sym pushed)
          (distinct_more names version ds i d bs o (typed_once program c.requires.types i d within at) c.loop-one.invariant.among
          c.in_ok-body.ensures.known c.loop-one.invariant.distinct);
    }
