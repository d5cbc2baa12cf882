use Rattle.std.proofs.Common.{◌≡◌, map, take, string_bytes}
use Rattle.patch_build.specs.Tables.{with_texts}
use Rattle.installed_versions.proofs.installed.add_all.Given as goal

-- the texts so far are added
abbrev pub invariant-loop-text : goal.invariant-loop-text
invariant-loop-text l = l.names ≡ with_texts l.fn.names (map string_bytes (take l.text-index l.texts))
