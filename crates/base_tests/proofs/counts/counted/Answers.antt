use Rattle.std.proofs.Common.{rules, arith, ◌≡◌, length, length-take, length-append, length-drop, ap, ◌∙◌}
use Rattle.pass_lock.specs.Passes.{fresh_from}
use Rattle.base_tests.proofs.Tallies.{fresh_count, fresh_ready}
use Rattle.base_tests.proofs.counts.counted.Goals as goal

pub all_count-requires-after_bounds : goal.all_count-requires-after_bounds
all_count-requires-after_bounds g c κs within = let it : c.as_mut_slice.result.now ≡ fresh_from c.in-Ok.lock.table 0 c.args.threads = search rules in
    fresh_ready c.in-Ok.lock.table c.args.threads c.as_mut_slice.result.now it (search rules) (search rules)

pub close-by-requires-clause-all : goal.close-by-requires-clause-all
close-by-requires-clause-all g c = let it : c.in-Ok.passes.items ≡ fresh_from c.in-Ok.lock.table 0 c.args.threads = search rules in
    let items : length c.in-Ok.passes.items ≡ c.args.threads = ap length it ∙ fresh_count _ c.in-Ok.lock.table 0 c.args.threads in
    let same : length c.all_count.new.passes ≡ length c.in-Ok.passes.items = search rules in let len : c.in-Ok.passes.len ≡ length c.in-Ok.passes.items = search rules in
    let passes : c.in-Ok.lock.passes ≡ c.args.threads = search rules in simp (length-take, length-append, length-drop) (omega arith)
