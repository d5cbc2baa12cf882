-- What the private functions say that read offers.
use Rattle.std.specs.Prelude.{◌≡◌, ℕ, List, [], ◌∷◌, ◌++◌, Option}
use Rattle.c_tree.specs.declared.def.Program.{Program}
use Rattle.input_files.specs.Sources.{IsSource}
use Rattle.reported_runs.specs.declared.offers.Offers.{Offers}

-- the text and the program of one more file were added, with its number of lines
pub record IsOneMore (content : Option (List ℕ)) (lines : ℕ) (before after : Offers) : Type 0 where
  pub text : List ℕ
  pub program : Program
  pub source : IsSource content text program
  pub texts : after.texts.items ≡ before.texts.items ++ text ∷ []
  pub programs : after.programs.items ≡ before.programs.items ++ program ∷ []
  pub counts : after.lines.items ≡ before.lines.items ++ lines ∷ []
