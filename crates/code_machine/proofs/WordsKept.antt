-- A thread whose words are kept elsewhere, and are the same or changed on its stack alone.
use Rattle.std.proofs.Common.{◌≡◌, ℕ, ◌+◌, ◌<◌, ◌≤◌, List, length, vec_capacity, refl, sym, subst, ap, ◌∙◌}
use Rattle.std.specs.Prelude.{Vec}
use Rattle.std.specs.declared.alloc.Global.{Global}
use Rattle.code_runs.specs.CodeThreads.{Live as LiveSlot}
use Rattle.thread_state.specs.Frames.{most_words, upward}
use Rattle.word_frames.specs.declared.frames.Frames.{Frames}
use Rattle.word_frames.specs.Blocks.{base_of, words_for}
use Rattle.word_frames.specs.Seen.{IsKept, arguments_at, depth_of, frames_below, innermost}
use Rattle.code_image.specs.declared.function.CodeFunction.{CodeFunction}
use Rattle.code_image.specs.declared.image.CodeImage.{CodeImage}
use Rattle.code_machine.specs.declared.running.Next.{Next}
use Rattle.code_machine.specs.declared.running.Next.TheVariants.{Continues, Enters, Stands}
use Rattle.code_machine.specs.declared.running.Running.{Running}
use Rattle.code_machine.specs.declared.running.Stand.{Stand}
use Rattle.code_machine.specs.declared.running.Stand.TheVariants.{Free, Live, Over}
use Rattle.code_machine.specs.Kept.{Due, Fits, Owes, Stood}
use Rattle.code_machine.specs.Seen.{code_at, entering_with, name_at, settled_first, slot_by, slot_of, standing_with, thread_by, words_of}

-- as many words, with as much memory
pub kept_words : (s : Frames) (v : Vec ℕ Global) → IsKept s → length v.items ≡ length s.words.items → vec_capacity v ≡ vec_capacity s.words
    → IsKept (record s { words = v })
kept_words s v kept long room = record {
  few = kept.few;
  most = kept.most;
  words = subst (λ (n : ℕ). base_of s.highest_stack (depth_of s) + most_words < n) (sym long) kept.words;
  low = kept.low;
  words_fit = subst (λ (n : ℕ). words_for s.highest_stack ≤ n) (sym room) kept.words_fit;
  frames_fit = kept.frames_fit;
}

module _ (r : Running) (v : Vec ℕ Global) (same : v.items ≡ r.frames.words.items) where
  -- the same words fit
  pub fits_words : (functions : List CodeFunction) (callees : ℕ) → IsKept (record r.frames { words = v }) → Fits functions callees r
      → Fits functions callees (record r { frames = record r.frames { words = v } })
  fits_words functions callees kept fits = record {
    kept = kept;
    serial = fits.serial;
    frames = fits.frames;
    due = λ n count e.
        let d : Due functions callees r.frames n count = fits.due n count e in
        record { inside = d.inside; there = record { few = d.there.few; inside = d.there.inside }; wait = d.wait };
    owes = λ e.
        let o : Owes functions r.frames = fits.owes e in
        record { some = o.some; height = o.height; wait = o.wait };
    leaves = fits.leaves;
    stood = λ end e.
        let s : Stood functions r.frames end = fits.stood end e in
        record {
          some = s.some;
          height = s.height;
          ends = λ t g f below found seen.
              s.ends t g f below found (sym (ap (λ (ws : List ℕ). frames_below t r.frames.highest_stack ws r.frames.frames.items (depth_of r.frames)) same) ∙ seen);
          wait = s.wait;
        };
    stacks = fits.stacks;
  }

  same_thread : (image : CodeImage) (n : Next) → thread_by image (record r { frames = record r.frames { words = v } }) n ≡ thread_by image r n
  same_thread image (Enters n count) =
      ap (λ (ws : List ℕ). entering_with r (record { function = name_at image n; arguments = upward ws (arguments_at r.frames.highest_stack (depth_of r.frames) r.frames.frames.items) count; version = r.version })
      (frames_below (words_of image) r.frames.highest_stack ws r.frames.frames.items (depth_of r.frames))) same
  same_thread image Continues =
      ap (λ (ws : List ℕ). standing_with r (settled_first (code_at image (innermost r.frames).unit) (frames_below (words_of image) r.frames.highest_stack ws r.frames.frames.items (depth_of r.frames)))) same
  same_thread image (Stands end) = ap (λ (ws : List ℕ). standing_with r (frames_below (words_of image) r.frames.highest_stack ws r.frames.frames.items (depth_of r.frames))) same

  same_slot : (image : CodeImage) (s : Stand) → slot_by image (record r { frames = record r.frames { words = v } }) s ≡ slot_by image r s
  same_slot image Free = refl
  same_slot image Live = ap LiveSlot (same_thread image r.next)
  same_slot image (Over word) = refl

  -- and are seen as before
  pub slot_words : (image : CodeImage) → slot_of image (record r { frames = record r.frames { words = v } }) ≡ slot_of image r
  slot_words image = same_slot image r.stand
