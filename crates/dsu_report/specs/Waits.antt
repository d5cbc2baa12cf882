-- What standard error has, after a deadlock, for a thread that waits.
use Rattle.std.specs.Prelude.{ℕ, List, ◌++◌, codes}
use Rattle.std.specs.Fmt.{decimal}

-- a thread waits for a mutex that the thread in another slot holds
abbrev pub mutex_wait_line : ℕ → List ℕ → ℕ → List ℕ
mutex_wait_line thread mutex holder =
    codes "# thread " ++ decimal thread ++ codes " waits for mutex " ++ mutex ++ codes " held by " ++ decimal holder ++ codes "\n"

-- a thread waits for the end of the thread in a slot
abbrev pub thread_wait_line : ℕ → ℕ → List ℕ
thread_wait_line thread joined = codes "# thread " ++ decimal thread ++ codes " waits for thread " ++ decimal joined ++ codes "\n"
