-- Words on histories: lists of entries, each with the number of the pass that made it.
use Rattle.std.specs.Prelude.{◌≡◌, ◌==◌, ℕ, ◌≤◌, List, [], ◌∷◌, ◌++◌, cond, map, length}
use Rattle.pass_lock.specs.declared.notes.Entry.{Entry}

module _ {E : Type 0} where
  -- the history begins with what was seen
  abbrev pub StartsWith : List (Entry E) → List (Entry E) → Type 0
  StartsWith log seen = (rest : List (Entry E)) × (log ≡ seen ++ rest)

  -- the entry that the pass of this number makes of x
  abbrev pub entry : ℕ → E → Entry E
  entry number x = record { pass = number; what = x }

  -- what the entries say that name this pass, each once and in order
  abbrev pub entries_of : ℕ → List (Entry E) → List E
  entries_of number [] = []
  entries_of number (e ∷ es) = cond (e.pass == number) (e.what ∷ entries_of number es) (entries_of number es)

  -- the later history is the earlier one with these entries of the pass added, of which there is one at most
  abbrev pub Adds : ℕ → List (Entry E) → List E → List (Entry E) → Type 0
  Adds number log added later = (later ≡ log ++ map (entry number) added) × (length added ≤ 1)
