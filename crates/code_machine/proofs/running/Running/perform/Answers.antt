use Rattle.std.proofs.Common.{◌≡◌, inl, ℕ, ◌+◌, ◌-◌, ◌≤◌, List, length, refl, sym, subst, ap, ◌∙◌, arith}
use Rattle.std.specs.Prelude.{slice_index}
use Rattle.std.specs.Vec.{with_items}
use Rattle.std.proofs.lemmas.List.{with_items_is}
use Rattle.c_scope.proofs.KeptLemmas.{after_fault}
use Rattle.version_laws.specs.Histories.{text_in}
use Rattle.local_evaluation.specs.Pieces.{stop_of}
use Rattle.thread_state.specs.Frames.{downward}
use Rattle.code_runs.specs.Layouts.{Freshens}
use Rattle.word_frames.specs.Seen.{innermost, stack_base}
use Rattle.word_data.specs.declared.stop.Did.{Did}
use Rattle.word_data.specs.Performing.{LeavesOne, MayFail, Performs}
use Rattle.word_data.specs.Resolved.{takes}
use Rattle.code_image.specs.Images.{names_in}
use Rattle.code_image.specs.StopHeights.{act_leaves, act_takes, returns}
use Rattle.code_machine.specs.Seen.{words_of}
use Rattle.code_machine.specs.Versions.{texts_by}
use Rattle.code_machine.proofs.Going.{runs_so}
use Rattle.code_machine.proofs.Resuming.{can_resume, words_there}
use Rattle.code_machine.proofs.SharedDone.{counted, does_so, fresh_so, may_fail_so, performed_on, performed_trap, performed_waits, resolves, traps_so}
use Rattle.code_machine.proofs.WordsKept.{fits_words, kept_words, slot_words}
use Rattle.code_machine.proofs.running.Running.perform.Goals as goal

pub freshen_newer-requires-clause-taken : goal.freshen_newer-requires-clause-taken
freshen_newer-requires-clause-taken c =
    subst (λ (h : ℕ). takes c.args.what ≤ h) (sym c.stack-low.ensures.height)
    (subst (λ a. act_takes a ≤ (innermost c.args.self.now.frames).height) c.requires.act
    (words_there c.args.image.now.functions.items (length c.args.image.now.callees.items) c.args.self.now c.args.stop.now c.requires.rests))

pub perform-requires-clause-taken : goal.perform-requires-clause-taken
perform-requires-clause-taken c =
    subst (λ (h : ℕ). takes c.args.what ≤ h) (sym c.stack-low.ensures.height)
    (subst (λ a. act_takes a ≤ (innermost c.args.self.now.frames).height) c.requires.act
    (words_there c.args.image.now.functions.items (length c.args.image.now.callees.items) c.args.self.now c.args.stop.now c.requires.rests))

pub returns-in_err-did-clause-fits : goal.returns-in_err-did-clause-fits
returns-in_err-did-clause-fits c =
    let r = c.args.self.now in
    let v = with_items r.frames.words c.perform.new.words in
    let row : v.items ≡ c.perform.new.words = with_items_is r.frames.words c.perform.new.words (omega (arith, c.perform.auto.words, c.deref_mut.ensures.len, r.frames.words.ok.0)) in
    let same : v.items ≡ r.frames.words.items = row ∙ c.in_err-did.ensures.fault.1 ∙ c.deref_mut.ensures.value in
    fits_words r v same c.args.image.now.functions.items (length c.args.image.now.callees.items) (kept_words r.frames v c.requires.rests.fits.kept (ap length same) refl) c.requires.rests.fits

pub go_on-requires : goal.go_on-requires
go_on-requires c =
    let r = c.args.self.now in
    let x = c.args.stop.now in
    let v = with_items r.frames.words c.perform.new.words in
    let row : v.items ≡ c.perform.new.words = with_items_is r.frames.words c.perform.new.words (omega (arith, c.perform.auto.words, c.deref_mut.ensures.len, r.frames.words.ok.0)) in
    let long : length v.items ≡ length r.frames.words.items = ap length row ∙ omega (arith, c.perform.auto.words, c.deref_mut.ensures.len, r.frames.words.ok.0) in
    let one : c.in-On.height ≡ c.stack-low.result.1 - takes c.args.what + 1 =
    subst (λ (q : Did). LeavesOne (takes c.args.what) (record { low = c.stack-low.result.0; height = c.stack-low.result.1 }) q c.deref_mut.result.now c.perform.new.words) c.in-On.is c.in_ok-did.ensures.keeps in
    let taken : act_takes x.act ≡ takes c.args.what = ap act_takes c.requires.act in
    let left : act_leaves x.act ≡ 1 = ap act_leaves c.requires.act in
    can_resume c.args.image.now.functions.items (length c.args.image.now.callees.items) r x c.requires.rests (record r.frames { words = v }) c.in-On.height
    (kept_words r.frames v c.requires.rests.fits.kept long refl) refl refl (ap returns c.requires.act)
    (one ∙ ap (λ (h : ℕ). h - takes c.args.what + 1) c.stack-low.ensures.height
    ∙ sym (ap (λ (k : ℕ). (innermost r.frames).height - k + act_leaves x.act) taken ∙ ap (λ (k : ℕ). (innermost r.frames).height - takes c.args.what + k) left))

pub returns-in-On-clause-made : goal.returns-in-On-clause-made
returns-in-On-clause-made c = λ all versions code well.
    let image = c.args.image.now in
    let r = c.args.self.now in
    let x = c.args.stop.now in
    let slot = c.args.slot in
    let v = with_items r.frames.words c.perform.new.words in
    let row : v.items ≡ c.perform.new.words = with_items_is r.frames.words c.perform.new.words (omega (arith, c.perform.auto.words, c.deref_mut.ensures.len, r.frames.words.ok.0)) in
    let names = names_in all in
    let texts = texts_by all versions in
    let own = text_in (texts_by all versions) (innermost r.frames).version in
    let s = stop_of (words_of image) x.stop in
    let stack = downward r.frames.words.items (stack_base r.frames) (innermost r.frames).height in
    let does = resolves all versions image slot r x c.args.what code c.requires.rests c.requires.act in
    let mid = c.freshen_newer.new.shared in
    let fresh : Freshens texts names s stack c.args.shared.now c.freshen_newer.new.shared =
    fresh_so texts names s c.args.shared.now c.freshen_newer.new.shared c.as_slice.result.now r.frames.words.items c.stack-low.result.0 c.stack-low.result.1 (stack_base r.frames) (innermost r.frames).height
    c.as_slice.ensures.value c.stack-low.ensures.low c.stack-low.ensures.height
    (c.freshen_newer.ensures.freshens (words_of image) names texts own s does well.layouts_of.stand (counted all versions c.args.layouts.now c.args.shared.now well.layouts_of) well.layouts_of.known well.layouts_of.tags) in
    let p = c.in_ok-did.ensures.performs names own s does in
    let q = subst (λ (did : Did). Performs names own slot s (record { low = c.stack-low.result.0; height = c.stack-low.result.1 }) mid c.deref_mut.result.now did c.perform.new.self c.perform.new.words p.0) c.in-On.is p.1.1 in
    performed_on all versions image slot r x c.args.what code c.requires.rests c.requires.act c.args.layouts.now c.args.shared.now mid c.perform.new.self well p.0 c.args.output.now.items c.perform.new.printed.items p.1.0 fresh
    (record r.frames { words = v }) c.go_on.new.self c.in-On.height refl refl
    (λ i h. ap (λ (xs : List ℕ). slice_index xs i) row ∙ c.in_ok-did.ensures.elsewhere i (inl (omega (arith, h, c.stack-low.ensures.low))) ∙ ap (λ (xs : List ℕ). slice_index xs i) c.deref_mut.ensures.value)
    (c.go_on.ensures.same.stand ∙ c.requires.rests.live)
    (does_so names own slot s mid c.perform.new.self p.0 c.deref_mut.result.now c.perform.new.words r.frames.words.items v.items
    c.stack-low.result.0 c.stack-low.result.1 (stack_base r.frames) (innermost r.frames).height c.in-On.height c.deref_mut.ensures.value (sym row) c.stack-low.ensures.low c.stack-low.ensures.height q)
    (c.go_on.ensures.went all versions (runs_so all versions image r (record r { frames = record r.frames { words = v } }) refl code))

pub returns-in-Trap-clause-fits : goal.returns-in-Trap-clause-fits
returns-in-Trap-clause-fits c =
    let r = c.args.self.now in
    let v = with_items r.frames.words c.perform.new.words in
    let row : v.items ≡ c.perform.new.words = with_items_is r.frames.words c.perform.new.words (omega (arith, c.perform.auto.words, c.deref_mut.ensures.len, r.frames.words.ok.0)) in
    let kept : c.perform.new.words ≡ c.deref_mut.result.now =
    subst (λ (q : Did). LeavesOne (takes c.args.what) (record { low = c.stack-low.result.0; height = c.stack-low.result.1 }) q c.deref_mut.result.now c.perform.new.words) c.in-Trap.is c.in_ok-did.ensures.keeps in
    let same : v.items ≡ r.frames.words.items = row ∙ kept ∙ c.deref_mut.ensures.value in
    fits_words r v same c.args.image.now.functions.items (length c.args.image.now.callees.items) (kept_words r.frames v c.requires.rests.fits.kept (ap length same) refl) c.requires.rests.fits

pub returns-in-Trap-clause-made : goal.returns-in-Trap-clause-made
returns-in-Trap-clause-made c = λ all versions code well.
    let image = c.args.image.now in
    let r = c.args.self.now in
    let x = c.args.stop.now in
    let slot = c.args.slot in
    let v = with_items r.frames.words c.perform.new.words in
    let row : v.items ≡ c.perform.new.words = with_items_is r.frames.words c.perform.new.words (omega (arith, c.perform.auto.words, c.deref_mut.ensures.len, r.frames.words.ok.0)) in
    let kept : c.perform.new.words ≡ c.deref_mut.result.now =
    subst (λ (q : Did). LeavesOne (takes c.args.what) (record { low = c.stack-low.result.0; height = c.stack-low.result.1 }) q c.deref_mut.result.now c.perform.new.words) c.in-Trap.is c.in_ok-did.ensures.keeps in
    let same : v.items ≡ r.frames.words.items = row ∙ kept ∙ c.deref_mut.ensures.value in
    let names = names_in all in
    let texts = texts_by all versions in
    let own = text_in (texts_by all versions) (innermost r.frames).version in
    let s = stop_of (words_of image) x.stop in
    let stack = downward r.frames.words.items (stack_base r.frames) (innermost r.frames).height in
    let does = resolves all versions image slot r x c.args.what code c.requires.rests c.requires.act in
    let mid = c.freshen_newer.new.shared in
    let fresh : Freshens texts names s stack c.args.shared.now c.freshen_newer.new.shared =
    fresh_so texts names s c.args.shared.now c.freshen_newer.new.shared c.as_slice.result.now r.frames.words.items c.stack-low.result.0 c.stack-low.result.1 (stack_base r.frames) (innermost r.frames).height
    c.as_slice.ensures.value c.stack-low.ensures.low c.stack-low.ensures.height
    (c.freshen_newer.ensures.freshens (words_of image) names texts own s does well.layouts_of.stand (counted all versions c.args.layouts.now c.args.shared.now well.layouts_of) well.layouts_of.known well.layouts_of.tags) in
    let p = c.in_ok-did.ensures.performs names own s does in
    let q = subst (λ (did : Did). Performs names own slot s (record { low = c.stack-low.result.0; height = c.stack-low.result.1 }) mid c.deref_mut.result.now did c.perform.new.self c.perform.new.words p.0) c.in-Trap.is p.1.1 in
    performed_trap all versions image slot r x c.args.what code c.requires.rests c.requires.act c.args.layouts.now c.args.shared.now mid c.perform.new.self well p.0 c.args.output.now.items c.perform.new.printed.items p.1.0 fresh
    (record r { frames = record r.frames { words = v } }) c.in-Trap.kind (slot_words r v same image)
    (traps_so names own slot s mid c.perform.new.self p.0 c.deref_mut.result.now r.frames.words.items
    c.stack-low.result.0 c.stack-low.result.1 (stack_base r.frames) (innermost r.frames).height c.in-Trap.kind c.deref_mut.ensures.value c.stack-low.ensures.low c.stack-low.ensures.height q)

pub returns-in-Waits-clause-fits : goal.returns-in-Waits-clause-fits
returns-in-Waits-clause-fits c =
    let r = c.args.self.now in
    let v = with_items r.frames.words c.perform.new.words in
    let row : v.items ≡ c.perform.new.words = with_items_is r.frames.words c.perform.new.words (omega (arith, c.perform.auto.words, c.deref_mut.ensures.len, r.frames.words.ok.0)) in
    let kept : c.perform.new.words ≡ c.deref_mut.result.now =
    subst (λ (q : Did). LeavesOne (takes c.args.what) (record { low = c.stack-low.result.0; height = c.stack-low.result.1 }) q c.deref_mut.result.now c.perform.new.words) c.in-Waits.is c.in_ok-did.ensures.keeps in
    let same : v.items ≡ r.frames.words.items = row ∙ kept ∙ c.deref_mut.ensures.value in
    fits_words r v same c.args.image.now.functions.items (length c.args.image.now.callees.items) (kept_words r.frames v c.requires.rests.fits.kept (ap length same) refl) c.requires.rests.fits

pub returns-in-Waits-clause-made : goal.returns-in-Waits-clause-made
returns-in-Waits-clause-made c = λ all versions code well.
    let image = c.args.image.now in
    let r = c.args.self.now in
    let x = c.args.stop.now in
    let slot = c.args.slot in
    let v = with_items r.frames.words c.perform.new.words in
    let row : v.items ≡ c.perform.new.words = with_items_is r.frames.words c.perform.new.words (omega (arith, c.perform.auto.words, c.deref_mut.ensures.len, r.frames.words.ok.0)) in
    let kept : c.perform.new.words ≡ c.deref_mut.result.now =
    subst (λ (q : Did). LeavesOne (takes c.args.what) (record { low = c.stack-low.result.0; height = c.stack-low.result.1 }) q c.deref_mut.result.now c.perform.new.words) c.in-Waits.is c.in_ok-did.ensures.keeps in
    let same : v.items ≡ r.frames.words.items = row ∙ kept ∙ c.deref_mut.ensures.value in
    let names = names_in all in
    let texts = texts_by all versions in
    let own = text_in (texts_by all versions) (innermost r.frames).version in
    let s = stop_of (words_of image) x.stop in
    let stack = downward r.frames.words.items (stack_base r.frames) (innermost r.frames).height in
    let does = resolves all versions image slot r x c.args.what code c.requires.rests c.requires.act in
    let mid = c.freshen_newer.new.shared in
    let fresh : Freshens texts names s stack c.args.shared.now c.freshen_newer.new.shared =
    fresh_so texts names s c.args.shared.now c.freshen_newer.new.shared c.as_slice.result.now r.frames.words.items c.stack-low.result.0 c.stack-low.result.1 (stack_base r.frames) (innermost r.frames).height
    c.as_slice.ensures.value c.stack-low.ensures.low c.stack-low.ensures.height
    (c.freshen_newer.ensures.freshens (words_of image) names texts own s does well.layouts_of.stand (counted all versions c.args.layouts.now c.args.shared.now well.layouts_of) well.layouts_of.known well.layouts_of.tags) in
    let p = c.in_ok-did.ensures.performs names own s does in
    let q = subst (λ (did : Did). Performs names own slot s (record { low = c.stack-low.result.0; height = c.stack-low.result.1 }) mid c.deref_mut.result.now did c.perform.new.self c.perform.new.words p.0) c.in-Waits.is p.1.1 in
    performed_waits all versions image slot r x c.args.what code c.requires.rests c.requires.act c.args.layouts.now c.args.shared.now mid c.perform.new.self well p.0 c.args.output.now.items c.perform.new.printed.items p.1.0 fresh
    (record r { frames = record r.frames { words = v } }) c.in-Waits.field-0 q.0 (slot_words r v same image) q.1.2 q.1.4 q.1.0 q.1.1

pub returns-in-On-clause-runs : goal.returns-in-On-clause-runs
returns-in-On-clause-runs c = λ all versions code.
    let r = c.args.self.now in
    let v = with_items r.frames.words c.perform.new.words in
    c.go_on.ensures.runs all versions (runs_so all versions c.args.image.now r (record r { frames = record r.frames { words = v } }) refl code)

pub returns-in_err-did-clause-cause : goal.returns-in_err-did-clause-cause
returns-in_err-did-clause-cause c =
    let fails : MayFail (words_of c.args.image.now) c.args.what c.args.shared.now c.args.output.now =
    may_fail_so (words_of c.args.image.now) c.args.what c.args.shared.now c.freshen_newer.new.shared c.args.output.now c.freshen_newer.ensures.created c.in_err-did.ensures.cause in
    after_fault c.from_residual.result (MayFail (words_of c.args.image.now) c.args.what c.args.shared.now c.args.output.now) fails
