use Rattle.std.proofs.Common.{◌≡◌, ℕ, List, ◌+◌, ◌-◌, sym, ap, ◌∙◌, arith}
use Rattle.object_store.specs.declared.object.Object.{Object}
use Rattle.word_layouts.specs.ChangedWords.{brought_words, change_at, changed_words}
use Rattle.word_layouts.proofs.Bringing.{brings, brought_more}
use Rattle.word_layouts.proofs.layouts.WordLayouts.bring.Goals as goal

pub loop-number-preserved : goal.loop-number-preserved
loop-number-preserved c =
    let before = c.loop-number.invariant in
    let old = c.args.object.now in
    let now = c.loop-number.object in
    let number = c.loop-number.number in
    let changes = change_at c.args.self.now.versions.items old.tag in
    let words : c.change_words.new.own ≡ brought_words changes old.layout (number + 1 - old.layout) old.fields =
    c.change_words.ensures
    ∙ ap (λ x. changed_words x now.fields) c.after-change.ensures
    ∙ ap (λ o. changed_words (changes number) o.fields) before.object
    ∙ sym (brought_more changes old.layout number old.fields before.after)
    in
    record {
      after = omega (arith, before.after);
      within = omega (arith, c.loop-number-test.true);
      object = ap {A = List ℕ} {B = Object} (λ ws. record now { fields = ws }) words
          ∙ ap {A = Object} {B = Object} (λ o. record o { fields = brought_words changes old.layout (number + 1 - old.layout) old.fields }) before.object;
    }

pub returns-clause-brings : goal.returns-clause-brings
returns-clause-brings c = λ texts tags tag all last known numbered.
    let old = c.args.object.now in
    let version = c.args.version in
    let now = c.loop-number.invariant in
    let number = c.loop-number.number in
    let end : number ≡ version = omega (arith, now.within, c.loop-number-test.false) in
    let changes = change_at c.args.self.now.versions.items old.tag in
    brings texts tags c.args.self.now.versions.items tag old _ version all last known numbered c.requires
    (ap {A = Object} {B = Object} (λ o. record o { layout = version }) now.object
    ∙ ap {A = ℕ} {B = Object} (λ k. record old { layout = version; fields = brought_words changes old.layout (k - old.layout) old.fields }) end)
