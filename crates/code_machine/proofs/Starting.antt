-- A thread starts, and slots before one does.
use Rattle.std.proofs.Common.{◌≡◌, ℕ, ◌+◌, ◌<◌, ◌≤◌, List, [], length, sym, subst, ap, ◌∙◌, arith}
use Rattle.thread_state.specs.declared.steps.End.{End}
use Rattle.code_runs.specs.CodeThreads.{CodeEnter, CodeFrame, Enters as EntersSeen, Live, starting}
use Rattle.word_frames.specs.declared.frame.Frame.{Frame}
use Rattle.word_frames.specs.declared.frames.Frames.{Frames}
use Rattle.word_frames.specs.Blocks.{base_of}
use Rattle.word_frames.specs.Seen.{HasArguments, IsKept, arguments_at, arguments_of, depth_of, frames_below, frames_of}
use Rattle.code_image.specs.declared.function.CodeFunction.{CodeFunction}
use Rattle.code_image.specs.declared.image.CodeImage.{CodeImage}
use Rattle.code_image.specs.Stacks.{AreNeverHigher}
use Rattle.code_machine.specs.declared.running.Next.TheVariants.{Continues, Enters, Stands}
use Rattle.code_machine.specs.declared.running.Running.{Running}
use Rattle.code_machine.specs.declared.running.Stand.TheVariants.{Live as LiveStand}
use Rattle.code_machine.specs.Kept.{Fits, most_threads}
use Rattle.code_machine.specs.Seen.{enter_of, name_at, slot_by, slot_of, thread_by, thread_of, words_of}

-- what a thread does next is one thing
pub first_of : (a b m n : ℕ) → Enters a m ≡ Enters b n → a ≡ b
first_of a b m n e = cc

pub second_of : (a b m n : ℕ) → Enters a m ≡ Enters b n → m ≡ n
second_of a b m n e = cc

pub not_continues : (a m : ℕ) → Enters a m ≡ Continues → ⊥
not_continues a m e = cc

pub not_stands : (a m : ℕ) (end : End) → Enters a m ≡ Stands end → ⊥
not_stands a m end e = cc

-- no frames have no arguments
pub no_arguments : (s : Frames) → s.frames.items ≡ [] → HasArguments s 0
no_arguments s none = record {
  few = omega arith;
  inside = subst (λ (fs : List Frame). arguments_at s.highest_stack (length fs) fs + 0 ≤ base_of s.highest_stack (length fs)) (sym none) (omega arith);
}

-- a thread with no frames, that enters a function
pub fresh : (functions : List CodeFunction) (callees : ℕ) (s : Frames) (r : Running) (main count : ℕ) → r.frames ≡ s → IsKept s → s.frames.items ≡ [] → r.serial < most_threads
    → r.next ≡ Enters main count → main < callees → AreNeverHigher s.highest_stack functions → HasArguments s count → Fits functions callees r
fresh functions callees s r main count same kept none serial next inside stacks there =
    let empty : depth_of r.frames ≡ 0 = ap (λ (q : Frames). depth_of q) same ∙ ap (λ (fs : List Frame). length fs) none in
    record {
      kept = subst IsKept (sym same) kept;
      serial = serial;
      frames = λ n h. absurd (omega (arith, empty));
      due = λ n c e. record {
        inside = subst (λ (k : ℕ). k < callees) (first_of main n count c (sym next ∙ e)) inside;
        there = subst (λ (k : ℕ). HasArguments r.frames k) (second_of main n count c (sym next ∙ e)) (subst (λ (q : Frames). HasArguments q count) (sym same) there);
        wait = λ k h. absurd (omega (arith, empty));
      };
      owes = λ e. absurd (not_continues main count (sym next ∙ e));
      leaves = λ e. absurd (not_continues main count (sym next ∙ e));
      stood = λ end e. absurd (not_stands main count end (sym next ∙ e));
      stacks = subst (λ (q : Frames). AreNeverHigher q.highest_stack functions) (sym same) stacks;
    }

-- a thread that starts
pub starts : (image : CodeImage) (s : Frames) (r : Running) (version function serial : ℕ) (arguments : List ℕ) (count : ℕ) → r.frames ≡ s → s.frames.items ≡ []
    → arguments_of s count ≡ arguments → r.stand ≡ LiveStand → r.serial ≡ serial → r.depth ≡ 0 → r.version ≡ version → r.next ≡ Enters function count
    → slot_of image r ≡ Live (starting serial (record { function = name_at image function; arguments = arguments; version = version }))
starts image s r version function serial arguments count same none given stand number outside behalf next =
    let all : frames_of (words_of image) r.frames ≡ [] =
    ap (λ (q : Frames). frames_of (words_of image) q) same ∙ ap (λ (fs : List Frame). frames_below (words_of image) s.highest_stack s.words.items fs (length fs)) none in
    let words : arguments_of r.frames count ≡ arguments = ap (λ (q : Frames). arguments_of q count) same ∙ given in
    let e : CodeEnter = record { function = name_at image function; arguments = arguments; version = version } in
    let enter : enter_of image r function count ≡ e =
    ap (λ (ws : List ℕ). record { function = name_at image function; arguments = ws; version = r.version }) words
    ∙ ap (λ (v : ℕ). record { function = name_at image function; arguments = arguments; version = v }) behalf in
    let thread : thread_of image r ≡ starting serial e =
    ap (thread_by image r) next
    ∙ ap (λ (d : CodeEnter). record { serial = r.serial; depth = r.depth; next = EntersSeen d; below = frames_of (words_of image) r.frames }) enter
    ∙ ap (λ (fs : List CodeFrame). record { serial = r.serial; depth = r.depth; next = EntersSeen e; below = fs }) all
    ∙ ap (λ (n : ℕ). record { serial = n; depth = r.depth; next = EntersSeen e; below = [] }) number
    ∙ ap (λ (n : ℕ). record { serial = serial; depth = n; next = EntersSeen e; below = [] }) outside in
    ap (slot_by image r) stand ∙ ap Live thread
