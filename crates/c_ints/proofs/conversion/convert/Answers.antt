-- `convert` gives the number that its definition makes, and the laws hold of that.
use Rattle.std.proofs.Common.{◌≡◌, rules}
use Rattle.c_ints.specs.Number.{converted}
use Rattle.c_ints.proofs.Reduction.{convert_laws, reduced_range, held}
use Rattle.c_ints.proofs.conversion.convert.Goals as goal

pub new-requires : goal.new-requires
new-requires c = held c.args.to c.reduce.result (rw c.reduce.ensures (reduced_range c.args.to _))

pub returns-clause-kind : goal.returns-clause-kind
returns-clause-kind c =
    let same : c.new.result ≡ converted c.args.a c.args.to = search rules in
    rw same (convert_laws c.args.a c.args.to).kind

pub returns-clause-range : goal.returns-clause-range
returns-clause-range c =
    let same : c.new.result ≡ converted c.args.a c.args.to = search rules in
    rw same (convert_laws c.args.a c.args.to).range

pub returns-clause-kept : goal.returns-clause-kept
returns-clause-kept c =
    let same : c.new.result ≡ converted c.args.a c.args.to = search rules in
    rw same (convert_laws c.args.a c.args.to).kept

pub returns-clause-idempotent : goal.returns-clause-idempotent
returns-clause-idempotent c =
    let same : c.new.result ≡ converted c.args.a c.args.to = search rules in
    rw same (convert_laws c.args.a c.args.to).idempotent

pub returns-clause-congruent : goal.returns-clause-congruent
returns-clause-congruent c =
    let same : c.new.result ≡ converted c.args.a c.args.to = search rules in
    rw same (convert_laws c.args.a c.args.to).congruent

pub returns-clause-only : goal.returns-clause-only
returns-clause-only c =
    let same : c.new.result ≡ converted c.args.a c.args.to = search rules in
    rw same (convert_laws c.args.a c.args.to).only
