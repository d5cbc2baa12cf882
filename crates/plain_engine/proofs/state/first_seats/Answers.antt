use Rattle.std.proofs.Common.{◌∙◌, ◌∷◌, false, ap, sym, refl}
use Rattle.std.specs.Prelude.{replicate}
use Rattle.source_model.specs.Guards.{first_guard}
use Rattle.source_model.specs.JournalLaws.{texts_of}
use Rattle.source_model.specs.Worlds.{in_slot, is_over}
use Rattle.source_runner.specs.Queries.{entering_in}
use Rattle.plain_engine.specs.declared.seat.Seat.{Seat}
use Rattle.plain_engine.specs.Kept.{started}
use Rattle.plain_engine.proofs.Standing.{asked, given}
use Rattle.plain_engine.proofs.Starting.{first_slots}
use Rattle.plain_engine.proofs.state.first_seats.Goals as goal

pub returns : goal.returns
returns g c = λ setup slots at.
    let run = g.M.Machine.shown c.args.run.now in
    first_slots setup run c.entering.result _ slots
    (sym (asked setup (first_guard setup) run at (λ x. entering_in (in_slot x.world 0)) _
    (c.entering.ensures (texts_of setup) setup.limits at.moves at.run
    (given setup (first_guard setup) run at (λ x. is_over x.world) false refl))))
    (c.of.ensures
    ∙ ap (λ (s : Seat). s ∷ replicate 15 c.empty-seats.result) c.started.ensures
    ∙ ap (λ (s : Seat). started c.entering.result ∷ replicate 15 s) c.empty-seats.ensures)
