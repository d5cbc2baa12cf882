use Rattle.std.proofs.Common.{◌≡◌, List, map, None, Result, Ok, Err, IfOk, IfErr, ap, subst, ◌∙◌}
use Rattle.c_tree.specs.Bare.{bare_def}
use Rattle.c_tree.specs.BareDef.{BareDef}
use Rattle.c_semantics.specs.Changes.{changed, interface, added}
use Rattle.patch_faults.specs.Sorts.{other_kind}
use Rattle.patch_compare.specs.declared.answer.Changes.{Changes}
use Rattle.patch_compare.specs.declared.answer.CompareFault.{CompareFault}
use Rattle.patch_compare.specs.Faults.{IsAnswer, IsFault}
use Rattle.patch_compare.proofs.comparison.compare.Goals as goal

-- each fact of an answer
module _ (p q : List BareDef) where
  has_changed : (r : Result Changes CompareFault) → IsAnswer p q r → IfOk r (λ c. c.changed ≡ changed p q)
  has_changed (Ok c) a = a.0
  has_changed (Err e) a = tt

  has_interface : (r : Result Changes CompareFault) → IsAnswer p q r → IfOk r (λ c. c.interface ≡ interface p q)
  has_interface (Ok c) a = a.1
  has_interface (Err e) a = tt

  has_added : (r : Result Changes CompareFault) → IsAnswer p q r → IfOk r (λ c. c.added ≡ added p q)
  has_added (Ok c) a = a.2
  has_added (Err e) a = tt

  has_sorts : (r : Result Changes CompareFault) → IsAnswer p q r → IfOk r (λ c. other_kind p q ≡ None)
  has_sorts (Ok c) a = a.3
  has_sorts (Err e) a = tt

  has_fault : (r : Result Changes CompareFault) → IsAnswer p q r → IfErr r (IsFault (other_kind p q))
  has_fault (Ok c) a = tt
  has_fault (Err e) a = a

pub returns : goal.returns
returns c =
    let p = map bare_def c.args.old.now.definitions in
    let q = map bare_def c.args.new.now.definitions in
    let r = c.compare_definitions.result in
    let a : IsAnswer p q r =
    subst (λ ds. IsAnswer (map bare_def ds) q r) (c.as_slice-earlier.ensures ∙ ap (λ t. t.definitions) c.program.ensures.tree)
    (subst (λ ds. IsAnswer (map bare_def c.as_slice-earlier.result.now) (map bare_def ds) r)
    (c.as_slice-later.ensures ∙ ap (λ t. t.definitions) c.program-2.ensures.tree) c.compare_definitions.ensures) in
    record {
      changed = has_changed p q r a;
      interface = has_interface p q r a;
      added = has_added p q r a;
      sorts = has_sorts p q r a;
      fault = has_fault p q r a;
    }
