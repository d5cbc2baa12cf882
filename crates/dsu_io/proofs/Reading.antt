-- Reads of files in memory.
use Rattle.std.proofs.Common.{◌≡◌, ℕ, List, Some, IsTrue, false}
use Rattle.dsu_io.specs.MemoryFiles.{Folder, content_of, read_fails}
use Rattle.dsu_io.specs.MemorySink.{is_listed}

-- a read that isn't listed, of a file that is there, doesn't fail
pub no_failure : (folder : Folder) (name content : List ℕ) → is_listed folder.failing folder.calls ≡ false
    → content_of folder.files name ≡ Some content → IsTrue (read_fails folder name) → ⊥
no_failure folder name content unlisted found = rw (unlisted, found) (λ fails. cc)
