use Rattle.std.proofs.Common.{min, max, map, sym, ap, ◌∙◌}
use Rattle.c_expr_types.specs.Need.{in_turn, need}
use Rattle.c_expr_types.proofs.Needs.{need_of_call, need_of_print, bounded}
use Rattle.c_expr_types.proofs.room.+need.Goals as goal

pub call_need_of-returns : goal.call_need_of-returns
call_need_of-returns t c =
    c.max.ensures
    ∙ ap (λ n. max n 1) (c.in_turn.ensures ∙ ap (λ es. min (in_turn (map need es)) 65) c.as_slice.ensures)
    ∙ bounded (in_turn (map need c.args.arguments.now))

pub need-returns-in-Call : goal.need-returns-in-Call
need-returns-in-Call t c = c.call_need_of.ensures ∙ ap (λ n. min n 65) (sym (need_of_call _ _ _ c.in-Call.is))

pub need-returns-in-Print : goal.need-returns-in-Print
need-returns-in-Print t c = c.call_need_of-in-Print.ensures ∙ ap (λ n. min n 65) (sym (need_of_print _ _ _ _ c.in-Print.is))
