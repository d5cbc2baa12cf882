use Rattle.std.proofs.Common.{◌≡◌, ℕ, List, length, Option, Some, refl, subst, sym}
use Rattle.std.specs.Prelude.{slice_get}
use Rattle.bytecode.specs.declared.instr.Instr.{Instr}
use Rattle.bytecode.specs.Seen.{code_of}
use Rattle.code_kinds.specs.WellFormed.{most_variables}
use Rattle.thread_state.specs.Heights.{HasHeight, Sound}
use Rattle.fused_code.specs.Fused.{AreFused}
use Rattle.word_frames.specs.declared.frame.Frame.{Frame}
use Rattle.word_frames.specs.Seen.{innermost}
use Rattle.word_frames.specs.Changes as change
use Rattle.code_image.specs.StopHeights.{IsNeverHigher}
use Rattle.code_machine.specs.Seen.{words_of}
use Rattle.code_machine.proofs.Going.{fits_on, runs_moved}
use Rattle.code_machine.proofs.running.Running.execute.Goals as goal

pub go_on-end-requires-clause-sound : goal.go_on-end-requires-clause-sound
go_on-end-requires-clause-sound c = λ t.
    let g = c.function-function.result.now in
    subst (λ (hs : List (Option ℕ)). Sound (code_of t c.as_slice.result.now) most_variables hs) (sym c.as_slice-2.ensures.value)
    (subst (λ (is : List Instr). Sound (code_of t is) most_variables g.verified.heights.items) (sym c.as_slice.ensures.value) (g.fits.sound t))

pub go_on-end-requires-clause-fused : goal.go_on-end-requires-clause-fused
go_on-end-requires-clause-fused c =
    let g = c.function-function.result.now in
    let code = g.verified.body.code.items in
    let heights = g.verified.heights.items in
    subst (λ (is : List Instr). AreFused is most_variables c.as_slice-2.result.now c.as_slice-3.result.now) (sym c.as_slice.ensures.value)
    (subst (λ (hs : List (Option ℕ)). AreFused code most_variables hs c.as_slice-3.result.now) (sym c.as_slice-2.ensures.value)
    (subst (AreFused code most_variables heights) (sym c.as_slice-3.ensures.value) g.fused))

pub go_on-end-requires-clause-low : goal.go_on-end-requires-clause-low
go_on-end-requires-clause-low c =
    let g = c.function-function.result.now in
    let functions = c.args.image.now.functions.items in
    let old = c.args.self.now in
    let found : slice_get functions (innermost old.frames).unit ≡ Some g =
    subst (λ (f : Frame). slice_get functions f.unit ≡ Some g) c.innermost.ensures c.function-function.ensures in
    subst (IsNeverHigher old.frames.highest_stack) (sym c.as_slice-2.ensures.value) (c.requires.stacks (innermost old.frames).unit g found)

pub returns-clause-fits : goal.returns-clause-fits
returns-clause-fits c =
    let g = c.function-function.result.now in
    let functions = c.args.image.now.functions.items in
    let old = c.args.self.now in
    let new = c.go_on-end.new.self in
    let found : slice_get functions (innermost old.frames).unit ≡ Some g =
    subst (λ (f : Frame). slice_get functions f.unit ≡ Some g) c.innermost.ensures c.function-function.ensures in
    let low : HasHeight g.verified.heights.items (innermost new).place (innermost new).height =
    subst (λ (hs : List (Option ℕ)). HasHeight hs (innermost new).place (innermost new).height) c.as_slice-2.ensures.value c.go_on-end.ensures.height in
    fits_on functions (length c.args.image.now.callees.items) g old new c.args.point c.args.place c.args.height c.go_on-end.result c.requires found c.go_on-end.ensures.frames c.go_on-end.ensures.high c.go_on-end.ensures.kept low
    (λ t. subst (λ (is : List Instr). change.WentOn t is old.frames new c.args.point c.args.place c.args.height c.go_on-end.result) c.as_slice.ensures.value (c.go_on-end.ensures.goes t))

pub returns-clause-executed : goal.returns-clause-executed
returns-clause-executed c =
    let g = c.function-function.result.now in
    let functions = c.args.image.now.functions.items in
    let old = c.args.self.now in
    let new = c.go_on-end.new.self in
    record {
      function = g;
      there = subst (λ (f : Frame). slice_get functions f.unit ≡ Some g) c.innermost.ensures c.function-function.ensures;
      end = c.go_on-end.result;
      goes = subst (λ (is : List Instr). change.WentOn (words_of c.args.image.now) is old.frames new c.args.point c.args.place c.args.height c.go_on-end.result) c.as_slice.ensures.value (c.go_on-end.ensures.goes (words_of c.args.image.now));
      is = refl;
    }

pub returns-clause-runs : goal.returns-clause-runs
returns-clause-runs c = λ all versions code.
    let new = c.go_on-end.new.self in
    runs_moved all versions c.args.image.now c.args.self.now _ c.args.point (innermost new).place (innermost new).height c.requires.some c.go_on-end.ensures.frames code
