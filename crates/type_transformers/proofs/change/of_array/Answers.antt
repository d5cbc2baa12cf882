use Rattle.std.proofs.Common.{ℕ, List, refl, sym, subst}
use Rattle.c_tree.specs.Bare.{bare_array, bare_kind}
use Rattle.c_semantics.specs.Transformers.{given_value}
use Rattle.type_transformers.specs.declared.change.Change.TheVariants as change
use Rattle.type_transformers.specs.Made.{IsMadeFrom}
use Rattle.type_transformers.proofs.Changing.{global_made}
use Rattle.type_transformers.proofs.change.of_array.Goals as goal

pub returns : goal.returns
returns c = λ q.
    let a = bare_kind c.args.old.now in
    let b = bare_array c.args.array.now in
    let own = c.args.array.now.name.text in
    subst {A = List ℕ} (λ name. IsMadeFrom a b q (change.Global name c.array_change.result)) (sym c.in_ok-name.ensures.cases)
    (global_made a b own q (given_value q own) c.array_change.result refl refl refl (c.array_change.ensures (given_value q own)))
