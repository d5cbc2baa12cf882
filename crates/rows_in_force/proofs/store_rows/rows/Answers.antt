use Rattle.std.proofs.Common.{List}
use Rattle.std.proofs.lemmas.Result.{IfOk-weaker}
use Rattle.c_tree.specs.BareExpr.{Bytes}
use Rattle.c_semantics.specs.Store.{Body}
use Rattle.effect_flow.specs.Flows.{IsFlowOf}
use Rattle.contextual_effects.specs.Effects.{AreEffectsOf}
use Rattle.code_store.specs.Stored.{IsStoreOf}
use Rattle.checkin_rows.specs.Rows.{AreRowsOf}
use Rattle.rows_in_force.proofs.store_rows.rows.Goals as goal

pub returns : goal.returns
returns c =
    IfOk-weaker c.rows_of.result
    (λ r. (names : List Bytes) (bodies : List Body) → IsFlowOf names bodies c.in_ok-flow.flow
    → AreEffectsOf names bodies c.in_ok-effects.effects → AreRowsOf names bodies r)
    (λ r. (names : List Bytes) (bodies : List Body) → IsStoreOf names bodies c.args.store.now → AreRowsOf names bodies r)
    (λ r rows names bodies store.
    let flow = c.in_ok-flow.ensures.flow names bodies store in
    rows names bodies flow (c.in_ok-effects.ensures.effects names bodies flow))
    c.rows_of.ensures.rows
