use Rattle.std.proofs.Common.{◌≡◌, map, drop, string_bytes}
use Rattle.dsu_io.specs.MemoryFiles.{content_of}
use Rattle.dsu_io.proofs.memory_files.find.Given as goal

-- none of the files so far has the name
abbrev pub invariant-loop-file : goal.invariant-loop-file
invariant-loop-file l =
    content_of (map (λ file. (string_bytes file.0, file.1.items)) l.files) l.name
    ≡ content_of (map (λ file. (string_bytes file.0, file.1.items)) (drop l.file-index l.files)) l.name
