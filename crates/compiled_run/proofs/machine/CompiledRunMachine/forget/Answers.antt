use Rattle.std.proofs.Common.{ℕ, ◌+◌, ◌<◌, List, Option, length, sym, subst, ap, ◌∙◌, arith}
use Rattle.std.specs.Prelude.{◌^◌}
use Rattle.std.specs.Option.{SomeIff}
use Rattle.code_machine.specs.Seen.{output_of}
use Rattle.compiled_run.proofs.Lasting.{bytes_few, none_counted}
use Rattle.compiled_run.proofs.RunsAfter.{forgotten}
use Rattle.compiled_run.proofs.machine.CompiledRunMachine.forget.Goals as goal

pub returns-in-Some-clause-run : goal.returns-in-Some-clause-run
returns-in-Some-clause-run c = λ texts limits moves h.
    let sum = c.args.self.now.kept + length c.output.result.now in
    let is = subst (λ (o : Option ℕ). SomeIff o (sum < 2 ^ 64) sum) c.in-Some.is c.checked_add.ensures in
    let counts = is.1 ∙ ap (λ (out : List ℕ). c.args.self.now.kept + length out) c.output.ensures in
    forgotten texts limits moves _ _ _ h c.forget.new.self c.in-Some.kept counts (c.forget.ensures.run texts h.machine_is) c.forget.ensures.versions
    c.forget.ensures.world c.forget.ensures.output

pub returns-in-Some-clause-lasts : goal.returns-in-Some-clause-lasts
returns-in-Some-clause-lasts c = λ n spent.
    let sum = c.args.self.now.kept + length c.output.result.now in
    let is = subst (λ (o : Option ℕ). SomeIff o (sum < 2 ^ 64) sum) c.in-Some.is c.checked_add.ensures in
    let counts = is.1 ∙ ap (λ (out : List ℕ). c.args.self.now.kept + length out) c.output.ensures in
    let nothing = ap length c.forget.ensures.output in
    let short = spent.short in
    record {
      spent = record {
        moves = spent.moves;
        used = c.forget.ensures.used spent.moves spent.used;
        within = spent.within;
        short = omega (arith, counts, nothing, short);
        works = spent.works;
      };
      emptied = c.forget.ensures.output;
    }

pub returns-in_default-clause-lasts : goal.returns-in_default-clause-lasts
returns-in_default-clause-lasts c = λ n spent.
    let kept = c.args.self.now.kept in
    let sum = kept + length c.output.result.now in
    let few = bytes_few spent.moves kept (output_of c.args.self.now.machine) n spent.short spent.within in
    absurd (none_counted c.checked_add.result (sum < 2 ^ 64) sum c.checked_add.ensures c.in_default.not-Some
    (subst (λ (out : List ℕ). kept + length out < 2 ^ 64) (sym c.output.ensures) few))
