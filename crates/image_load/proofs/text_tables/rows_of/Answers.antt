use Rattle.std.proofs.Common.{◌∷◌, ◌++◌, [], List, map, take, sym, subst}
use Rattle.std.specs.Prelude.{string_bytes}
use Rattle.c_tree.specs.Bare.{bare_def}
use Rattle.c_tree.specs.BareExpr.{Bytes}
use Rattle.word_installs.specs.TextRows.{IsRowOf}
use Rattle.image_load.specs.TextTables.{HaveRows}
use Rattle.image_load.proofs.NameNumbers.{next_item}
use Rattle.image_load.proofs.Rows.{more_rows}
use Rattle.image_load.proofs.text_tables.rows_of.Goals as goal

pub loop-name-preserved : goal.loop-name-preserved
loop-name-preserved c =
    let text = map bare_def c.args.known.now in
    let own = c.name-item.result in
    let i = c.loop-name.name-index in
    let before = c.loop-name.rows.items in
    let listed = map string_bytes (take i c.args.names.now) in
    let next = next_item string_bytes c.args.names.now i own c.loop-name-test.true c.name-item.is in
    subst (λ (ns : List Bytes). HaveRows (IsRowOf text) ns c.push.new.self.items) (sym next)
    (subst (λ rs. HaveRows (IsRowOf text) (listed ++ string_bytes own ∷ []) rs) (sym c.in_ok-push.ensures.items)
    (more_rows (IsRowOf text) listed before c.loop-name.invariant (string_bytes own) c.in_ok-made.made
    (subst (λ (n : Bytes). IsRowOf text n c.in_ok-made.made) c.as_str.ensures.value c.in_ok-made.ensures.row)))
