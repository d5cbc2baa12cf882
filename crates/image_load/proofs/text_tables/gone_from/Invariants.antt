use Rattle.std.proofs.Common.{map, not}
use Rattle.std.specs.Prelude.{string_bytes}
use Rattle.c_tree.specs.Bare.{bare_def}
use Rattle.c_semantics.specs.Texts.{definition}
use Rattle.source_model.specs.Installs.{is_mutex}
use Rattle.image_load.proofs.Rows.{NumbersTo}
use Rattle.image_load.proofs.text_tables.gone_from.Given as goal

abbrev pub invariant-loop-place : goal.invariant-loop-place
invariant-loop-place l =
    NumbersTo (λ name. not (is_mutex (definition (map bare_def l.known) name))) (map string_bytes l.names) l.place l.gone.items
