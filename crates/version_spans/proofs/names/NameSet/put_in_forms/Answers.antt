use Rattle.std.proofs.Common.{◌≡◌, ◌||◌, List, ap, bytes_eq, ◌∙◌}
use Rattle.std.proofs.lemmas.Result.{on_ok_weaker}
use Rattle.c_tree.specs.BareExpr.{Bytes}
use Rattle.c_semantics.specs.Names.{struct_name}
use Rattle.name_sets.specs.NameLists.{is_among}
use Rattle.name_sets.specs.Texts.{with_text}
use Rattle.version_spans.specs.declared.names.NameForm.{NameForm as Form}
use Rattle.version_spans.specs.declared.names.NameForm.TheVariants.{Plain, Struct}
use Rattle.version_spans.specs.declared.names.NameSet.{NameSet}
use Rattle.version_spans.specs.Kept.{name_of, texts_in}
use Rattle.version_spans.proofs.AmongTexts.{among_with}
use Rattle.version_spans.proofs.names.NameSet.put_in_forms.Goals as goal

in_forms : (old : NameSet) (plain tags : List Bytes) (name : Bytes) → plain ≡ with_text old.plain name
    → ((tag : Bytes) → is_among tags tag ≡ (bytes_eq (struct_name tag) name || is_among old.tags tag))
    → (form : Form) (text : Bytes)
    → is_among (texts_in (record { plain = plain; tags = tags }) form) text ≡ (bytes_eq (name_of form text) name || is_among (texts_in old form) text)
in_forms old plain tags name is tagged Plain text = ap (λ l. is_among l text) is ∙ among_with old.plain name text
in_forms old plain tags name is tagged Struct text = tagged text

pub returns : goal.returns
returns c =
    on_ok_weaker c.put_tag.result
    (λ tagged. in_forms c.args.self.now c.put.new.self c.put_tag.new.tags c.args.name.now c.in_ok-put.ensures.texts tagged) c.put_tag.ensures
