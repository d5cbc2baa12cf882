use Rattle.run_tests.proofs.ReadTexts.{read_texts_are_accepted}
use Rattle.run_tests.proofs.compiled.engine_over.Goals as goal

pub compiled_engine-requires-clause-accepted : goal.compiled_engine-requires-clause-accepted
compiled_engine-requires-clause-accepted c =
    let a = c.args in
    read_texts_are_accepted c.texts_of_programs_are_accepted.ensures a.typed a.newer.items a.lines.items 100 c.requires.first c.requires.offered
