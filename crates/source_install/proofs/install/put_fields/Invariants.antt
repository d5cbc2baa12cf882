use Rattle.std.proofs.Common.{◌≡◌}
use Rattle.source_install.specs.NewData.{with_new}
use Rattle.source_install.proofs.install.put_fields.Given as goal

abbrev pub invariant-loop-new : goal.invariant-loop-new
invariant-loop-new l = with_new l.new-iterator.rest.items l.objects.all.items ≡ with_new l.fn.news.items l.fn.objects.all.items
