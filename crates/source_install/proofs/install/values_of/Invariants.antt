use Rattle.std.proofs.Common.{◌≡◌, map, take}
use Rattle.source_install.proofs.install.values_of.Given as goal

abbrev pub invariant-loop-field : goal.invariant-loop-field
invariant-loop-field l = l.values.items ≡ map (λ f. f.value) (take l.field-index l.fields)
