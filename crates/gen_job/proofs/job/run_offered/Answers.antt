use Rattle.std.proofs.Common.{inr}
use Rattle.std.specs.Prelude.{◌/◌}
use Rattle.program_gen.specs.Generated.{offer_text}
use Rattle.gen_job.proofs.Summing.{comes_with_offer, read_offer_is_accepted}
use Rattle.gen_job.proofs.job.run_offered.Goals as goal

pub engine_for-requires : goal.engine_for-requires
engine_for-requires g c =
    let accepted = c.requires.accepted in
    record { accepted = c.texts_of_programs_are_accepted.ensures accepted.0 c.args.program accepted.1 }

pub run_compiled-requires-clause-accepted : goal.run_compiled-requires-clause-accepted
run_compiled-requires-clause-accepted g c =
    let a = c.args in
    read_offer_is_accepted c.texts_of_programs_are_accepted.ensures a.program c.requires.accepted (offer_text a.seed a.size) (a.size / 2) 4096
    a.offers c.requires.offer

pub run_compiled-requires-clause-offer : goal.run_compiled-requires-clause-offer
run_compiled-requires-clause-offer g c = c.requires.offer.texts

pub run_compiled-requires-clause-named : goal.run_compiled-requires-clause-named
run_compiled-requires-clause-named g c = c.in-Ok-Compiled.ensures.named c.in-Ok-Compiled.field-0-is

pub run_plain-requires-clause-accepted : goal.run_plain-requires-clause-accepted
run_plain-requires-clause-accepted g c =
    let a = c.args in
    read_offer_is_accepted c.texts_of_programs_are_accepted.ensures a.program c.requires.accepted (offer_text a.seed a.size) (a.size / 2) 4096
    a.offers c.requires.offer

pub run_plain-requires-clause-offer : goal.run_plain-requires-clause-offer
run_plain-requires-clause-offer g c = c.requires.offer.texts

pub returns-in-Ok-Compiled : goal.returns-in-Ok-Compiled
returns-in-Ok-Compiled g c = λ next is.
    let a = c.args in
    comes_with_offer a.seed a.size a.program next (offer_text a.seed a.size) (a.size / 2) 4096 a.offers _ c.requires.offer is c.run_compiled.ensures

pub returns-in-Ok-Plain : goal.returns-in-Ok-Plain
returns-in-Ok-Plain g c = λ next is.
    let a = c.args in
    comes_with_offer a.seed a.size a.program next (offer_text a.seed a.size) (a.size / 2) 4096 a.offers _ c.requires.offer is c.run_plain.ensures

pub returns-in-Err : goal.returns-in-Err
returns-in-Err g c = λ next is. inr (inr c.stop.ensures)
