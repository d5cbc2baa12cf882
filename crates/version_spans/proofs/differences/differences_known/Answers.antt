use Rattle.std.proofs.Common.{◌≡◌, ◌&&◌, ◌||◌, Bool, false, List, map, [], ap, ap₂, ◌∙◌, string_bytes}
use Rattle.c_tree.specs.Bare.{bare_def}
use Rattle.c_tree.specs.BareExpr.{Bytes}
use Rattle.c_tree.specs.BareDef.{BareDef}
use Rattle.name_sets.specs.NameLists.{is_among}
use Rattle.version_spans.specs.declared.names.NameForm.{NameForm as Form}
use Rattle.version_spans.specs.declared.names.NameForm.TheVariants.{Plain, Struct}
use Rattle.version_spans.specs.declared.names.NameSet.{NameSet}
use Rattle.version_spans.specs.Beginnings.{differ}
use Rattle.version_spans.specs.Kept.{name_of, texts_in}
use Rattle.version_spans.proofs.DifferingNames.{are_differences}
use Rattle.version_spans.proofs.differences.differences_known.Goals as goal

empty : (s : NameSet) → (s.plain ≡ []) × (s.tags ≡ []) → (form : Form) (text : Bytes) → is_among (texts_in s form) text ≡ false
empty s h Plain text = ap (λ l. is_among l text) h.0
empty s h Struct text = ap (λ l. is_among l text) h.1

-- what is put in, where the names and the tables are those of the texts
differs : (asked names : List Bytes) (p_known p q_known q : List BareDef) → asked ≡ names → p_known ≡ p → q_known ≡ q → (name : Bytes) (was : Bool)
    → ((is_among asked name && differ p_known q_known name) || was) ≡ ((is_among names name && differ p q name) || was)
differs asked names p_known p q_known q are p_is q_is name was =
    ap (λ l. (is_among l name && differ p_known q_known name) || was) are
    ∙ ap₂ (λ a b. (is_among names name && differ a b name) || was) p_is q_is

pub returns : goal.returns
returns c =
    are_differences (map bare_def c.args.old.now) (map bare_def c.args.new.now) (map string_bytes c.in_ok-old_names.old_names.items)
    (map string_bytes c.in_ok-new_names.new_names.items) c.new-set.result c.put_differing.new.set c.put_differing-2.new.set
    c.in_ok-old_names.ensures c.in_ok-new_names.ensures (empty c.new-set.result c.new-set.ensures)
    (λ form text. c.in_ok-put_differing.ensures form text
    ∙ differs (map string_bytes c.as_slice.result.now) (map string_bytes c.in_ok-old_names.old_names.items)
    (map bare_def c.args.old_known.now) (map bare_def c.args.old.now) (map bare_def c.args.new_known.now) (map bare_def c.args.new.now)
    (ap (map string_bytes) c.as_slice.ensures.value) (ap (map bare_def) c.requires.old) (ap (map bare_def) c.requires.new) (name_of form text)
    (is_among (texts_in c.new-set.result form) text))
    (λ form text. c.in_ok-put_differing-2.ensures form text
    ∙ differs (map string_bytes c.as_slice-2.result.now) (map string_bytes c.in_ok-new_names.new_names.items)
    (map bare_def c.args.old_known.now) (map bare_def c.args.old.now) (map bare_def c.args.new_known.now) (map bare_def c.args.new.now)
    (ap (map string_bytes) c.as_slice-2.ensures.value) (ap (map bare_def) c.requires.old) (ap (map bare_def) c.requires.new) (name_of form text)
    (is_among (texts_in c.put_differing.new.set form) text))
