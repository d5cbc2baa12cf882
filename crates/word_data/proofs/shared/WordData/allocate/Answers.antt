use Rattle.std.proofs.Common.{◌≡◌, ℕ, subst, sym, ap, ◌∙◌, ◌∷◌, []}
use Rattle.object_store.specs.Stores.{Creates}
use Rattle.code_runs.specs.CodeData.{Data, new_object}
use Rattle.code_runs.specs.SharedStops.{goes, handle_word, with_objects}
use Rattle.word_data.specs.Stacks.{stack_of}
use Rattle.word_data.proofs.StackWords.{made}
use Rattle.word_data.proofs.shared.WordData.allocate.Goals as goal
use Rattle.word_data.proofs.shared.WordData.allocate.Goals.{in-Some, in-None}

pub returns-clause-made : goal.returns-clause-made
returns-clause-made c =
    let old = c.args.self.now in
    let now = c.create.new.self in
    let ws = stack_of c.args.words.now c.args.stack in
    let word : c.match-create.word ≡ handle_word c.create.result = elim c.match-create.branch [
      | in-Some w ↦ w.word-is ∙ w.word-word.ensures ∙ sym (ap handle_word w.in-Some.is)
      | in-None w ↦ w.word-is ∙ sym (ap handle_word w.in-None.is)
    ] in
    let creates : Creates old.objects (new_object c.args.tag old.version) c.create.result now =
    subst (λ (d : Data). Creates d.objects (new_object c.args.tag d.version) c.create.result now) c.self.view_is c.create.ensures in
    made _ c.leave.new.words c.args.stack [] _ c.leave.result _ c.leave.ensures.leaves (
      c.create.result,
      (
        now,
        (
          creates,
          ap (λ (d : Data). goes (with_objects d now) (c.match-create.word ∷ ws)) c.self.view_is
              ∙ ap (λ (w : ℕ). goes (with_objects old now) (w ∷ ws)) word,
        ),
      ),
    )
