use Rattle.std.proofs.Common.{◌≡◌, ◌||◌, ◌&&◌, Bool, true, false, map, take, string_bytes, bytes_eq, refl, sym, ap, ap₂, ◌∙◌}
use Rattle.c_tree.specs.Bare.{bare_def}
use Rattle.name_sets.specs.NameLists.{is_among}
use Rattle.version_spans.specs.Beginnings.{differ}
use Rattle.version_spans.specs.Kept.{name_of, texts_in}
use Rattle.version_spans.proofs.AmongTexts.{among_more, among_all}
use Rattle.version_spans.proofs.differences.put_differing.Goals as goal

one_more : (e m d o : Bool) → ((e && d) || ((m && d) || o)) ≡ (((e || m) && d) || o)
one_more true true true o = refl
one_more true true false o = refl
one_more true false true o = refl
one_more true false false o = refl
one_more false m d o = refl

pub loop-name-preserved : goal.loop-name-preserved
loop-name-preserved c = λ form text.
    let d = differ (map bare_def c.args.old.now) (map bare_def c.args.new.now) (name_of form text) in
    let so_far = is_among (map string_bytes (take c.loop-name.name-index c.args.names.now)) (name_of form text) in
    let was = is_among (texts_in c.args.set.now form) text in
    c.in_ok-put_if_differing.ensures form text
    ∙ ap₂ (λ n o. (bytes_eq (name_of form text) n && d) || o) c.as_str.ensures.value (c.loop-name.invariant form text)
    ∙ one_more (bytes_eq (name_of form text) (string_bytes c.name-item.result)) so_far d was
    ∙ ap (λ b. (b && d) || was)
    (sym (among_more c.args.names.now c.loop-name.name-index c.name-item.result (name_of form text) c.loop-name-test.true c.name-item.is))

pub returns : goal.returns
returns c = λ form text.
    c.loop-name.invariant form text
    ∙ ap (λ b. (b && differ (map bare_def c.args.old.now) (map bare_def c.args.new.now) (name_of form text)) || is_among (texts_in c.args.set.now form) text)
    (among_all c.args.names.now c.loop-name.name-index (name_of form text) c.loop-name-test.false)
