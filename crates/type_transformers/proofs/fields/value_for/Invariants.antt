use Rattle.std.proofs.Common.{◌≡◌, drop, find, bytes_eq}
use Rattle.type_transformers.proofs.fields.value_for.Given as goal

-- no value so far is given for the field
abbrev pub invariant-loop-value : goal.invariant-loop-value
invariant-loop-value l =
    find (λ v. bytes_eq l.fn.name v.field.text) l.fn.given ≡ find (λ v. bytes_eq l.fn.name v.field.text) (drop l.value-index l.given)
