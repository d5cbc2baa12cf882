use Rattle.std.proofs.Common.{◌≡◌, Some, sym, subst, ◌∙◌}
use Rattle.std.specs.Prelude.{slice_get}
use Rattle.resolved_tree.specs.Nodes.{word}
use Rattle.code_image.specs.declared.image.CodeImage.{CodeImage}
use Rattle.code_machine.specs.Seen.{words_of}
use Rattle.code_machine.proofs.work.Work.is_namesake.Goals as goal

pub returns : goal.returns
returns c = λ yes.
    let done = c.function-done.result.now in
    record {
      first = c.function-done.result.now;
      second = c.function-here.result.now;
      there = subst (λ (i : CodeImage). slice_get i.functions.items c.args.self.now.from.unit ≡ Some c.function-done.result.now) c.deref-2.ensures c.function-done.ensures;
      here = c.function-here.ensures;
      text = c.if-done-here.false;
      name =
          sym (subst (λ (i : CodeImage). c.word.result.now ≡ word (words_of i) done.name) c.deref-3.ensures c.word.ensures)
          ∙ c.is_same_name.ensures yes ∙ c.word-2.ensures;
    }
