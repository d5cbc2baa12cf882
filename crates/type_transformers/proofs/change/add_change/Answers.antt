use Rattle.std.proofs.Common.{Option, map, subst}
use Rattle.c_tree.specs.Bare.{bare_def}
use Rattle.type_transformers.specs.declared.change.Change.{Change}
use Rattle.type_transformers.specs.Made.{IsChangeFor}
use Rattle.type_transformers.proofs.Changing.{adds_one, adds_none}
use Rattle.type_transformers.proofs.change.add_change.Goals as goal

pub returns-in_ok-push-in-Some : goal.returns-in_ok-push-in-Some
returns-in_ok-push-in-Some c =
    let p = map bare_def c.args.old.now in
    let q = map bare_def c.args.new.now in
    adds_one p q c.args.name.now c.args.changes.now.items c.push.new.self.items c.in-Some.change
    (subst {A = Option Change} (IsChangeFor p q c.args.name.now) c.in-Some.is c.in_ok-change.ensures) c.in_ok-push-in-Some.ensures.items

pub returns-in-None : goal.returns-in-None
returns-in-None c =
    let p = map bare_def c.args.old.now in
    let q = map bare_def c.args.new.now in
    adds_none p q c.args.name.now c.args.changes.now.items
    (subst {A = Option Change} (IsChangeFor p q c.args.name.now) c.in-None.is c.in_ok-change.ensures)
