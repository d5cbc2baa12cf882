use Rattle.std.proofs.Common.{sym, subst, ◌∙◌}
use Rattle.c_parser.specs.TextPlans.{ItemsRead}
use Rattle.c_parser.proofs.ItemAnswers.{items_stop, items_more, some_left, none_left}
use Rattle.c_parser.proofs.parser.items.Goals as goal

pub loop-rest-init : goal.loop-rest-init
loop-rest-init c =
    subst (λ l. ItemsRead c.args.tokens.now l c.args.tokens.now) (sym c.new-list.ensures.items) ItemsRead.none

pub returns-in_err-longer : goal.returns-in_err-longer
returns-in_err-longer c =
    items_stop _ c.from_residual.result c.in_err-longer.field-0.0 c.from_residual.ensures.1 c.loop-rest.invariant (some_left _ (sym c.is_empty.ensures ∙ c.loop-rest-test.true)) c.in_err-longer.ensures.reads

pub loop-rest-preserved : goal.loop-rest-preserved
loop-rest-preserved c =
    items_more c.loop-rest.invariant c.in_ok-longer.ensures.reads

pub returns : goal.returns
returns c =
    subst (λ l. ItemsRead c.args.tokens.now c.loop-rest.list.items l) (none_left _ (sym c.is_empty.ensures ∙ c.loop-rest-test.false)) c.loop-rest.invariant
