use Rattle.std.proofs.Common.{◌≡◌, filter, take}
use Rattle.c_semantics.specs.Texts.{definition}
use Rattle.source_model.specs.Installs.{is_mutex}
use Rattle.source_programs.specs.Programs.{ArePrograms, table_of, text_at}
use Rattle.source_data.specs.Stores.{holders_of}
use Rattle.source_install.proofs.install.new_holders.Given as goal

abbrev pub invariant-loop-held : goal.invariant-loop-held
invariant-loop-held l =
    let t = table_of l.program in
    ArePrograms l.program → holders_of t l.kept.items
    ≡ filter (λ h. is_mutex (definition (text_at l.program l.number) h.mutex)) (holders_of t (take l.held-index l.holders))
