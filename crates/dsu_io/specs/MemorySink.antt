-- A sink in memory, as a value: what it holds, how much it can hold, and which of its calls fail.
use Rattle.std.specs.Prelude.{ℕ, ◌+◌, ◌-◌, ◌^◌, min, Bool, if◌then◌else◌, ◌||◌, ◌&&◌, nat_lt, nat_le, List, ◌++◌, ◌==◌, length, take, Result, Ok, Err}
use Rattle.std.specs.List.{list_any}
use Rattle.dsu_io.specs.declared.sink.Failed.{Failed}

pub record Storage : Type 0 where
  pub bytes : List ℕ
  -- how many bytes it can hold
  pub room : ℕ
  -- the numbers of the calls that fail, counted from 1
  pub failing : List ℕ
  pub calls : ℕ
  pub faults : ℕ

-- one more, up to the greatest number that a count can hold
abbrev pub next_count : ℕ → ℕ
next_count n = min (n + 1) (2 ^ 64 - 1)

-- the next call is one that is to fail
abbrev pub is_listed : List ℕ → ℕ → Bool
is_listed failing calls = list_any (λ n. n == next_count calls) failing

-- a write fails where its call is listed, and where there are bytes and no room
abbrev pub write_fails : Storage → List ℕ → Bool
write_fails s bytes = is_listed s.failing s.calls || (nat_lt 0 (length bytes) && nat_le s.room (length s.bytes))

-- a write takes what there is room for
abbrev pub taken_count : Storage → List ℕ → ℕ
taken_count s bytes = min (length bytes) (s.room - length s.bytes)

-- what a write answers: how many bytes it took, or that it failed
abbrev pub write_answer : Storage → List ℕ → Result ℕ Failed
write_answer s bytes = if write_fails s bytes then Err (record {}) else Ok (taken_count s bytes)

-- the sink after a write
abbrev pub after_write : Storage → List ℕ → Storage
after_write s bytes =
    if write_fails s bytes
    then record s { calls = next_count s.calls; faults = next_count s.faults }
    else record s { bytes = s.bytes ++ take (taken_count s bytes) bytes; calls = next_count s.calls }
