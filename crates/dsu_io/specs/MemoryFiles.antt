-- Files in memory, as a value: their names and contents, and which reads fail.
use Rattle.std.specs.Prelude.{ℕ, Bool, if◌then◌else◌, ◌||◌, is_none, List, [], ◌∷◌, ◌++◌, nat_eq, Option, None, Some}
use lib.Pointwise.{pointwise}
use Rattle.dsu_io.specs.Causes.{FailedReads}
use Rattle.dsu_io.specs.MemorySink.{next_count, is_listed}

pub record Folder : Type 0 where
  -- each file's name and content
  pub files : List (List ℕ × List ℕ)
  -- the numbers of the reads that fail, counted from 1
  pub failing : List ℕ
  pub calls : ℕ
  pub faults : FailedReads

-- the content of the first file with a name
abbrev pub content_of : List (List ℕ × List ℕ) → List ℕ → Option (List ℕ)
content_of [] name = None
content_of (file ∷ files) name = if pointwise nat_eq file.0 name then Some file.1 else content_of files name

-- a read fails where its call is listed, and where there is no such file
abbrev pub read_fails : Folder → List ℕ → Bool
read_fails folder name = is_listed folder.failing folder.calls || is_none (content_of folder.files name)

-- one more read failed, of a file with this name
abbrev pub one_more_failed : FailedReads → List ℕ → FailedReads
one_more_failed faults name = record { count = next_count faults.count; names = faults.names ++ name ∷ [] }

-- the folder after a read that was answered
abbrev pub after_read : Folder → List ℕ → Folder
after_read folder name =
    if read_fails folder name
    then record folder { calls = next_count folder.calls; faults = one_more_failed folder.faults name }
    else record folder { calls = next_count folder.calls }
