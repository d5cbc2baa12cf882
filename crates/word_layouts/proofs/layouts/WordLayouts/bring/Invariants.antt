use Rattle.std.proofs.Common.{◌≡◌, ◌≤◌, ◌-◌}
use Rattle.word_layouts.specs.ChangedWords.{brought_words, change_at}
use Rattle.word_layouts.proofs.layouts.WordLayouts.bring.Given as goal

abbrev pub invariant-loop-number : goal.invariant-loop-number
invariant-loop-number l = record {
  after : l.fn.object.layout ≤ l.number;
  within : l.number ≤ l.version;
  object : l.object ≡ record l.fn.object {
    fields = brought_words (change_at l.self.versions.items l.fn.object.tag) l.fn.object.layout (l.number - l.fn.object.layout) l.fn.object.fields;
  };
}
