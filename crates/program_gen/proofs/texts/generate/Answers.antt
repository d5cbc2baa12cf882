use Rattle.std.proofs.Common.{◌≡◌, ap, ◌∙◌, sym, length, arith}
use Rattle.std.specs.Prelude.{vec_len}
use Rattle.program_gen.specs.Generated.{amount, changed_amount}
use Rattle.program_gen.proofs.Growing.{text_is}
use Rattle.program_gen.proofs.Middle.{all_functions, amount_small, changed}
use Rattle.program_gen.proofs.texts.generate.Goals as goal

pub index_mut-requires : goal.index_mut-requires
index_mut-requires c =
    let some = c.requires in
    let n : vec_len c.in_ok-functions.functions ≡ c.args.size =
    sym c.deref.ensures.len ∙ ap length (c.deref.ensures.value ∙ c.in_ok-functions.ensures)
    ∙ all_functions c.args.seed c.args.size (amount c.args.seed) in
    omega arith

pub overflow_add-index_mut : goal.overflow_add-index_mut
overflow_add-index_mut c =
    let some = c.requires in
    let small = amount_small c.args.seed c.args.size _ c.in_ok-functions.functions.items c.index_mut.result.now (omega arith)
    c.in_ok-functions.ensures c.index_mut.ensures.value in
    omega arith

pub returns-clause-program : goal.returns-clause-program
returns-clause-program c =
    ap (λ v. v.items) c.into_bytes.ensures.value ∙ c.in_ok-program.ensures
    ∙ text_is c.args.seed c.args.size (amount c.args.seed) c.deref.result.now (c.deref.ensures.value ∙ c.in_ok-functions.ensures)

pub returns-clause-offer : goal.returns-clause-offer
returns-clause-offer c =
    ap (λ v. v.items) c.into_bytes-2.ensures.value ∙ c.in_ok-offer.ensures
    ∙ text_is c.args.seed c.args.size (changed_amount c.args.seed c.args.size) c.deref-2.result.now
    (changed c.args.seed c.args.size c.in_ok-functions.functions.items _ c.index_mut.result.now c.requires c.in_ok-functions.ensures
    c.index_mut.ensures.value c.deref-2.ensures.value)
