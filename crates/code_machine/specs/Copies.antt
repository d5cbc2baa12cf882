-- Private work that is done on a copy.
use Rattle.std.specs.Prelude.{◌≡◌, ℕ, List, slice_get, Some}
use Rattle.c_tree.specs.BareDef.{BareDef}
use Rattle.resolved_tree.specs.Nodes.{word}
use Rattle.thread_state.specs.declared.steps.End.{End}
use Rattle.thread_state.specs.Frames.{state_at}
use Rattle.word_frames.specs.declared.frames.Frames.{Frames}
use Rattle.word_frames.specs.Blocks.{room}
use Rattle.word_frames.specs.Seen.{innermost, innermost_state}
use Rattle.code_image.specs.declared.function.CodeFunction.{CodeFunction}
use Rattle.code_image.specs.declared.image.CodeImage.{CodeImage}
use Rattle.code_image.specs.Images.{IsImage}
use Rattle.code_machine.specs.declared.work.Stage.TheVariants.{Done, Due}
use Rattle.code_machine.specs.declared.work.Work.{Work}
use Rattle.code_machine.specs.Seen.{words_of}

-- the code that a work shares
abbrev pub work_image : Work → CodeImage
work_image w = w.image.value

-- two images are of the same texts
pub record IsSameCode (a b : CodeImage) : Type 0 where
  pub texts : List (List BareDef)
  pub first : IsImage texts a
  pub second : IsImage texts b

-- functions of two images have the same name, and are of the text with the same number
pub record IsNamesake (a : CodeImage) (m : ℕ) (b : CodeImage) (n : ℕ) : Type 0 where
  pub first : CodeFunction
  pub second : CodeFunction
  pub there : slice_get a.functions.items m ≡ Some first
  pub here : slice_get b.functions.items n ≡ Some second
  pub text : first.text ≡ second.text
  pub name : word (words_of a) first.name ≡ word (words_of b) second.name

-- a work has the words of the innermost of some frames
abbrev pub HasWordsOf : Frames → Work → Type 0
HasWordsOf s w =
    (place : ℕ) → state_at w.before.items 0 room place (innermost s).height ≡ innermost_state s place (innermost s).height

-- it is what that frame has to do
pub record IsCopyOf (s : Frames) (w : Work) : Type 0 where
  pub due : w.stage ≡ Due
  pub unit : w.from.unit ≡ (innermost s).unit
  pub place : w.from.place ≡ (innermost s).place
  pub height : w.from.height ≡ (innermost s).height
  pub words : HasWordsOf s w

-- and it was done
pub record IsWorkOf (image : CodeImage) (s : Frames) (w : Work) (end : End) : Type 0 where
  pub done : w.stage ≡ Done end
  pub function : IsNamesake (work_image w) w.from.unit image (innermost s).unit
  pub place : w.from.place ≡ (innermost s).place
  pub height : w.from.height ≡ (innermost s).height
  pub words : HasWordsOf s w
