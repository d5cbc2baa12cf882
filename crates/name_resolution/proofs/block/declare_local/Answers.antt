use Rattle.std.proofs.Common.{◌∷◌, ap, ◌∙◌}
use Rattle.c_tree.specs.BareExpr.{Bytes}
use Rattle.c_tree.specs.Bare.{bare_type}
use Rattle.name_resolution.specs.Known.{locals_of}
use Rattle.name_resolution.proofs.Resolving.{one_more_local}
use Rattle.name_resolution.proofs.block.declare_local.Goals as goal

pub returns : goal.returns
returns c =
    one_more_local c.args.locals.now.items c.push.new.self.items _ c.in_ok-push.ensures.items
    ∙ ap (λ (name : Bytes). record { declared = bare_type c.args.declaration.now.declared; name = name } ∷ locals_of c.args.locals.now.items) c.as_str.ensures
