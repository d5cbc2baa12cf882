use Rattle.std.proofs.Common.{Bool, true, false, List, [], ◌∷◌, ◌++◌, sym, subst, if◌then◌else◌}
use Rattle.std.specs.Prelude.{All}
use Rattle.std.specs.Result.{is_ok}
use Rattle.std.proofs.lemmas.List.Elements.{All-push}
use Rattle.c_tree.specs.declared.def.Program.{Program}
use Rattle.run_tests.specs.ReadTexts.{IsRead}
use Rattle.run_tests.proofs.texts.trees_of.Goals as goal

-- some trees, or more where one was added
either : (added : Bool) (trees more : List Program) → All IsRead trees → All IsRead more → All IsRead (if added then more else trees)
either true trees more are all = all
either false trees more are all = are

pub loop-offer-preserved : goal.loop-offer-preserved
loop-offer-preserved c =
    let trees = c.loop-offer.trees.items in
    let typed = c.in_ok-typed_of.field-0 in
    subst (All IsRead) (sym c.push.ensures.items)
    (either (is_ok c.push.result) trees (trees ++ typed ∷ []) c.loop-offer.invariant
    (All-push IsRead trees typed c.loop-offer.invariant c.in_ok-typed_of.ensures))
