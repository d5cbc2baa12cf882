use Rattle.std.proofs.Common.{◌≡◌, ap, sym, ◌∙◌, true, false, [], ◌∷◌, ◌++◌}
use Rattle.local_evaluation.specs.declared.work.Local.TheVariants.{Block, Variable}
use Rattle.resolved_tree.specs.Nodes.{Table, word}
use Rattle.local_evaluation.specs.Values.{seen}
use Rattle.local_evaluation.specs.Work.{scopes_of, entered}
use Rattle.local_evaluation.proofs.Variables.{behind, is_open, scopes_push, closes, after_declared, declared_opens, always_open}
use Rattle.local_evaluation.proofs.scopes.close.Goals as goal

pub returns-in-Block : goal.returns-in-Block
returns-in-Block c = λ t k values.
    let now = c.loop-local.scopes.items in
    let was = c.args.scopes.now.items in
    let e : now ≡ c.pop.new.self.items ++ Block ∷ [] = c.in-Some.ensures.items ∙ ap (λ l. c.pop.new.self.items ++ l ∷ []) c.in-Block.is in
    let f : scopes_of t now ≡ [] ∷ scopes_of t c.pop.new.self.items = ap (scopes_of t) e ∙ scopes_push t c.pop.new.self.items Block in
    let some : is_open false (scopes_of t was) ≡ true =
    sym (c.loop-local.invariant.some t) ∙ ap (is_open c.loop-local.variables) f
    in
    closes k values (scopes_of t was) some
    ∙ ap (k values) (sym (c.loop-local.invariant.rest t) ∙ ap behind f)

pub loop-local-preserved : goal.loop-local-preserved
loop-local-preserved c =
    let now = c.loop-local.scopes.items in
    let mid = c.pop.new.self.items in
    let l = Variable c.in_default-local.field-0 c.in_default-local.field-1 in
    let e : now ≡ mid ++ l ∷ [] = c.in-Some.ensures.items ∙ ap (λ x. mid ++ x ∷ []) c.in_default-local.is in
    let f : (t : Table) → scopes_of t now ≡ entered t l (scopes_of t mid) = λ t. ap (scopes_of t) e ∙ scopes_push t mid l in
    record {
      rest = λ t. sym (after_declared (word t c.in_default-local.field-0) (seen c.in_default-local.field-1) (scopes_of t mid))
          ∙ ap behind (sym (f t)) ∙ c.loop-local.invariant.rest t;
      some = λ t. always_open (scopes_of t mid)
          ∙ sym (declared_opens c.loop-local.variables (word t c.in_default-local.field-0) (seen c.in_default-local.field-1) (scopes_of t mid))
          ∙ ap (is_open c.loop-local.variables) (sym (f t)) ∙ c.loop-local.invariant.some t;
    }
