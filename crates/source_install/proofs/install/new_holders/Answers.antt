use Rattle.std.proofs.Common.{filter, ap, ◌∙◌, arith}
use Rattle.std.proofs.lemmas.List.{take_all}
use Rattle.c_semantics.specs.Texts.{definition}
use Rattle.source_model.specs.Installs.{is_mutex}
use Rattle.source_programs.specs.Programs.{table_of, text_at}
use Rattle.source_data.specs.Stores.{holders_of}
use Rattle.source_install.proofs.install.new_holders.Goals as goal

pub returns : goal.returns
returns c = λ are.
    let p = c.args.program.now in
    c.loop-held.invariant are
    ∙ ap (λ hs. filter (λ h. is_mutex (definition (text_at p c.args.number) h.mutex)) (holders_of (table_of p) hs))
    (take_all c.loop-held.held-index c.args.holders.now (omega (arith, c.loop-held-test.false)))
