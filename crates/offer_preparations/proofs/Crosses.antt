-- A preparation may be sent to a thread, and what it made. What leads to a formula or to a text's tree gets no such proof by itself:
-- where one crosses, the answer cites these.
use denote.Struct.Declared.{shape}
use denote.Param.Send.{IsSend, recorded_send, sendable, struct_send}
use Rattle.std.proofs.Crossing.{Arc-send, Vec-send, Vec-sync}
use Rattle.dsu_io.proofs.text.Text.TheSendSync as text
use Rattle.name_sets.proofs.table.Names.TheSendSync as names
use Rattle.name_sets.proofs.set.NameSet.TheSendSync as set
use Rattle.code_store.proofs.body.StoredBody.TheSendSync as body
use Rattle.code_store.proofs.store.Store.TheSendSync as store
use Rattle.checkin_rows.specs.contracts.rows.Rows as Rows
use Rattle.checkin_rows.proofs.rows.Rows.TheSendSync as rows
use Rattle.source_model.specs.contracts.patch.NotPatch as NotPatch
use Rattle.versioned_structs.specs.contracts.formula.Formula as Formula
use Rattle.versioned_structs.specs.contracts.transform.FieldChange as FieldChange
use Rattle.versioned_structs.specs.contracts.transform.Transform as Transform
use Rattle.versioned_structs.proofs.formula.Formula.TheLaws.TheKnot.{send-Formula}
use Rattle.versioned_structs.proofs.formula.FormulaNode.TheSendSync as node
use Rattle.type_transformers.specs.contracts.global.GlobalChange as GlobalChange
use Rattle.type_transformers.specs.contracts.change.Change as Change
use Rattle.patch_build.specs.contracts.patch.Patch as Patch
use Rattle.c_types.proofs.TreesCross.{Typed-send, Typed-sync}
use Rattle.offer_decision.specs.contracts.prepared.Found as Found
use Rattle.offer_decision.specs.contracts.prepared.Prepared as Prepared
use Rattle.offer_preparations.specs.contracts.preparation.Preparation as Preparation

Formula-send : IsSend (Formula.the_field).row
Formula-send = search (sendable, send-Formula, node.the_send)

FieldChange-send : IsSend (FieldChange.the_field).row
FieldChange-send = search (sendable, Formula-send) depth 20

Transform-send : IsSend (Transform.the_field).row
Transform-send = search (sendable, Vec-send, FieldChange-send) depth 20

GlobalChange-send : IsSend (GlobalChange.the_field).row
GlobalChange-send = search (sendable, Formula-send) depth 20

Change-send : IsSend Change.the_row
Change-send = search (sendable, Transform-send, GlobalChange-send, text.the_send) depth 20

Patch-send : IsSend (Patch.the_field).row
Patch-send = search (sendable, Vec-send, Change-send, body.the_send, names.the_send, set.the_send) depth 20

NotPatch-send : IsSend (NotPatch.the_field).row
NotPatch-send = search (sendable, text.the_send) depth 20

Found-send : IsSend (Found.the_field).row
Found-send = search (sendable, Arc-send, Patch-send, rows.the_send, rows.the_sync, NotPatch-send) depth 30

pub Prepared-send : IsSend Prepared.the_row
Prepared-send = search (sendable, Found-send) depth 20

pub Preparation-send : IsSend Preparation.the_row
Preparation-send =
    recorded_send _ _ _ ((Preparation.the_type).to_one)
    (struct_send (shape Preparation.the_type) (
      search sendable,
      (
        search sendable,
        (
          search sendable,
          (
            search (sendable, names.the_send),
            (
              search (sendable, store.the_send),
              (
                search (sendable, Arc-send Rows.the_row rows.the_send rows.the_sync) depth 20,
                (
                  Arc-send _ (Vec-send _ Typed-send) (Vec-sync _ Typed-sync),
                  (search (sendable, Prepared-send) depth 20, (search sendable, tt)),
                ),
              ),
            ),
          ),
        ),
      ),
    ))
