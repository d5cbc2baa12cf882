use Rattle.std.proofs.Common.{◌≡◌, ◌++◌, false, map, All, sym, subst}
use Rattle.c_semantics.specs.SourceTexts.{text_of}
use Rattle.run_types.specs.declared.run.Event.TheVariants.{Decide}
use Rattle.source_model.specs.JournalLaws.{texts_of}
use Rattle.source_model.specs.Runs.{Install}
use Rattle.run_machine.specs.Machines.{CameBy}
use Rattle.type_transformers.specs.Changes.{IsChange, changing, name_of}
use Rattle.plain_engine.specs.Plain.{IsStateAt, state_shown}
use Rattle.plain_engine.specs.Steps.{Stayed}
use Rattle.code_store.specs.Limits.{are_too_many}
use Rattle.code_store.specs.Stored.{meant_body}
use Rattle.plain_engine.proofs.Installing.{after, cannot, changing_is, few, followed, install_needs, installs_so, names_are, roomy, store_is, transforms_are}
use Rattle.plain_engine.proofs.Moving.{unmoved}
use Rattle.version_laws.specs.Histories.{last_text, versions_by}
use Rattle.std.specs.Prelude.{slice_index_or, ◌∷◌, []}
use Rattle.plain_engine.proofs.state.State.install.Goals as goal

pub returns-then-not-has_room-clause-made : goal.returns-then-not-has_room-clause-made
returns-then-not-has_room-clause-made g c = λ setup x at going right offered some is.
    let s = state_shown g.M.Machine.shown c.args.self.now in
    let k = c.args.k in
    let patch = c.args.patch in
    let pins = c.args.pins.now in
    absurd
    (c.has_room.ensures.full c.if-not-has_room.true setup x at (few setup x k s at going right offered some patch pins is)
    (λ names. subst (λ bodies. are_too_many (map (meant_body names) s.installed.store ++ map (meant_body names) bodies) ≡ false)
    (sym c.deref.ensures.value) (roomy setup x k s at going right offered some patch pins is names)))

pub returns-in-Ok-Done-clause-made : goal.returns-in-Ok-Done-clause-made
returns-in-Ok-Done-clause-made g c = λ setup x at going right offered some is.
    let s = state_shown g.M.Machine.shown c.args.self.now in
    let k = c.args.k in
    let patch = c.args.patch in
    let pins = c.args.pins.now in
    let new = g.M.Machine.shown c.install-2.new.self in
    let i = c.install.new.self in
    let p = last_text (versions_by (texts_of setup) at.run.moves) in
    let q = slice_index_or (texts_of setup) k [] in
    let brought = c.in_ok-replaced.ensures.installed x.versions (text_of is.next) at.versions.installed
    (names_are setup x k s at going right offered some patch pins is) (store_is setup x k s at going right offered some patch pins is) in
    let named = c.in_ok-replaced.ensures.names in
    let fresh = c.in_ok-replaced.ensures.rows in
    let came = subst (CameBy (texts_of setup) setup.limits at.run.moves (Install k) new) c.in-Ok-Done.field-0-is
    (c.in-Ok-Done.ensures.made (texts_of setup) setup.limits at.run.moves at.run.run (install_needs setup x k s at going right offered some patch pins is)
    (subst (λ cs. map name_of cs ≡ changing p q) (sym c.deref-2.ensures.value) (changing_is setup x k s at going right offered some patch pins is))
    (subst (All (IsChange p q)) (sym c.deref-2.ensures.value) (transforms_are setup x k s at going right offered some patch pins is))) in
    let there = new.reached (texts_of setup) setup.limits (at.run.moves ++ Install k ∷ []) came in
    installs_so setup x k s at going right offered some patch pins is new i c.install-2.ensures.same came there.0 there.1 brought named fresh
    (state_shown g.M.Machine.shown c.follow.new.self)
    (c.follow.ensures.followed setup x (after setup x k s at going right offered some patch pins is there.0 there.1)
    (followed setup x k s at going right offered some patch pins is new i c.install-2.ensures.same came there.0 there.1 brought named fresh))

pub returns-in-Ok-CannotMove-clause-made : goal.returns-in-Ok-CannotMove-clause-made
returns-in-Ok-CannotMove-clause-made g c = λ setup x at going right offered some is.
    let s = state_shown g.M.Machine.shown c.args.self.now in
    let k = c.args.k in
    let patch = c.args.patch in
    let pins = c.args.pins.now in
    let new = g.M.Machine.shown c.install-2.new.self in
    let p = last_text (versions_by (texts_of setup) at.run.moves) in
    let q = slice_index_or (texts_of setup) k [] in
    let came = subst (CameBy (texts_of setup) setup.limits at.run.moves (Install k) new) c.in-Ok-CannotMove.field-0-is
    (c.in-Ok-CannotMove.ensures.made (texts_of setup) setup.limits at.run.moves at.run.run (install_needs setup x k s at going right offered some patch pins is)
    (subst (λ cs. map name_of cs ≡ changing p q) (sym c.deref-2.ensures.value) (changing_is setup x k s at going right offered some patch pins is))
    (subst (All (IsChange p q)) (sym c.deref-2.ensures.value) (transforms_are setup x k s at going right offered some patch pins is))) in
    subst (λ i. Stayed setup (Decide k) x (record s { run = new; installed = i }))
    (sym (c.take_back.ensures s.installed c.in_ok-replaced.ensures.replaced))
    (cannot setup x k s at going right offered some patch pins is new c.install-2.ensures.same came.0 came.1)

pub returns-clause-stays : goal.returns-clause-stays
returns-clause-stays g c = λ setup x at.
    let s = state_shown g.M.Machine.shown c.args.self.now in
    let new = g.M.Machine.shown c.install-2.new.self in
    subst (λ i. IsStateAt setup x (record s { run = new; installed = i }))
    (sym (c.take_back-in-Err.ensures s.installed c.in_ok-replaced.ensures.replaced))
    (unmoved setup x s at new c.install-2.ensures.same (c.in-Err.ensures.stays (texts_of setup) setup.limits at.run.moves at.run.run))
