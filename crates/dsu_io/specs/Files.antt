-- What reading a file leaves in a buffer, where the file's content is known.
use Rattle.std.specs.Prelude.{ℕ, ◌+◌, ◌<◌, ◌≡◌, List, length, take, ⊤, Option, None, Some}

-- the bytes are the content
abbrev pub IsContent : Option (List ℕ) → List ℕ → Type 0
IsContent None bytes = ⊤
IsContent (Some content) bytes = bytes ≡ content

-- the content is longer than the limit, and the bytes are a prefix of it that shows this
abbrev pub IsCutAt : ℕ → Option (List ℕ) → List ℕ → Type 0
IsCutAt limit None bytes = length bytes ≡ limit + 1
IsCutAt limit (Some content) bytes = (limit < length content) × (bytes ≡ take (limit + 1) content)
