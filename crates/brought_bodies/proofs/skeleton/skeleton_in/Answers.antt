use Rattle.std.proofs.Common.{◌≡◌, Some, subst}
use Rattle.std.specs.Prelude.{IfOk, IsErrOf}
use Rattle.c_tree.specs.Bare.{bare_function}
use Rattle.c_semantics.specs.Resolved.{Statements}
use Rattle.c_semantics.specs.Resolution.{resolved_body}
use Rattle.c_semantics.specs.Skeletons.{skeleton}
use Rattle.name_resolution.specs.Known.{known_of}
use Rattle.resolved_tree.specs.Nodes.{statements_at}
use Rattle.resolved_tree.specs.Trees.{table}
use Rattle.name_resolution.proofs.Kept.{grows_refl}
use Rattle.skeletons.specs.Meaning.{meant}
use Rattle.skeleton_gen.specs.declared.naming.SkeletonFault.TheVariants.{Unknown}
use Rattle.skeleton_gen.specs.Naming.{HasUnknown}
use Rattle.brought_bodies.proofs.skeleton.skeleton_in.Goals as goal

pub returns-clause-skeleton : goal.returns-clause-skeleton
returns-clause-skeleton c =
    let t = table c.resolve_body.new.trees in
    let body : statements_at t c.in_ok-body.body ≡ resolved_body (known_of c.args.known.now) (Some (bare_function c.args.function.now)) =
    c.in_ok-body.ensures.body t (grows_refl t)
    in
    subst {A = Statements} (λ b. IfOk c.skeleton_of.result (λ s. meant c.args.names.now s ≡ skeleton b)) body c.skeleton_of.ensures.skeleton

pub returns-clause-unknown : goal.returns-clause-unknown
returns-clause-unknown c =
    let t = table c.resolve_body.new.trees in
    let body : statements_at t c.in_ok-body.body ≡ resolved_body (known_of c.args.known.now) (Some (bare_function c.args.function.now)) =
    c.in_ok-body.ensures.body t (grows_refl t)
    in
    subst {A = Statements} (λ b. IsErrOf c.skeleton_of.result Unknown → HasUnknown c.args.names.now (skeleton b).points) body
    c.skeleton_of.ensures.unknown
