use Rattle.std.proofs.Common.{sym, subst, List}
use Rattle.code_store.specs.declared.body.StoredBody.{StoredBody}
use Rattle.code_store.specs.Stored.{IsStoreOf}
use Rattle.admits_report.proofs.Named.{list_of_part}
use Rattle.admits_report.proofs.tested.admission_of.Goals as goal

pub returns-clause-over : goal.returns-clause-over
returns-clause-over c = λ bodies changed interface store in_c in_i.
    let names = c.args.versions.names.now in
    let patch = c.args.patch.now in
    record {
      table = store.table;
      store = subst {A = List StoredBody} (IsStoreOf names bodies) (sym c.bodies.ensures.bodies) store;
      rows = c.in_ok-rows.ensures names bodies store;
      changed_is = list_of_part names patch.changed c.within-changed.result changed c.within-changed.ensures in_c;
      interface_is = list_of_part names patch.interface c.within-interface.result interface c.within-interface.ensures in_i;
    }
