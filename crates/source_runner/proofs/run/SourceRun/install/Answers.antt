use Rattle.std.proofs.Common.{not, sym, ap, ◌∙◌}
use Rattle.source_programs.specs.Programs.{trees_of}
use Rattle.source_runner.proofs.Installing.{installs, installed_run, none_cannot, over_cannot}
use Rattle.source_data.proofs.Texts.{asked_none, asked_some}
use Rattle.source_runner.proofs.run.SourceRun.install.Goals as goal

pub returns-then-is_over-clause-made : goal.returns-then-is_over-clause-made
returns-then-is_over-clause-made c = λ texts limits moves h named are.
    (h, over_cannot texts limits moves c.args.number c.args.self.now h (sym (c.is_over.ensures h.world h.stands) ∙ c.if-is_over.true))

pub returns-then-is_none-clause-made : goal.returns-then-is_none-clause-made
returns-then-is_none-clause-made c = λ texts limits moves h named are.
    let trees = trees_of c.args.self.now.machine.program in (
      h,
      none_cannot texts limits moves c.args.number c.args.self.now h
          (asked_none c.text.result trees c.args.number c.text.ensures (c.is_none.ensures ∙ ap not c.if-is_none.true)),
    )

pub returns-clause-made : goal.returns-clause-made
returns-clause-made c = λ texts limits moves h named are.
    let run = c.args.self.now in
    let new = record run { machine = c.follow.new.self } in
    let followed = c.in_ok-follow.ensures in
    let below = asked_some c.text.result (trees_of run.machine.program) c.args.number c.text.ensures
    (c.is_none.ensures ∙ ap not c.if-is_none.false) in
    installed_run texts limits moves c.args.number run new h (sym (c.is_over.ensures h.world h.stands) ∙ c.if-is_over.false) below
    (followed.stands h.world h.stands (installs texts limits moves c.args.number run c.args.changes.now h named are))
    followed.same.0 followed.follows
