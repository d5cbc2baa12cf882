use Rattle.std.proofs.Common.{ap, sym, []}
use Rattle.std.proofs.lemmas.Option.{get_or_from_slice_get}
use Rattle.name_sets.specs.Texts.{with_text}
use Rattle.resolved_tree.proofs.Growing.{word_keeps_trees, sound_after}
use Rattle.resolved_tree.proofs.trees.Trees.word.Goals as goal

pub invariant_of-self : goal.invariant_of-self
invariant_of-self c = record {
  sound = sound_after c.args.self.now.words c.add.new.self c.args.text.now c.args.self.now.entries.items c.add.result c.add.ensures.texts c.add.ensures.fault c.args.self.now.sound;
}

pub returns-clause-table : goal.returns-clause-table
returns-clause-table c =
    let es = c.args.self.now.entries.items in
    rw c.in_ok-word.ensures.texts
    (ap (λ trees. record { words = with_text c.args.self.now.words c.args.text.now; trees = trees })
    (sym (word_keeps_trees c.args.self.now.words c.args.text.now es c.args.self.now.sound)))

pub returns-clause-word : goal.returns-clause-word
returns-clause-word c =
    get_or_from_slice_get c.add.new.self c.in_ok-word.word.0 c.args.text.now [] c.in_ok-word.ensures.word
