-- The changes of all names, by the definitions that were looked up.
use Rattle.std.proofs.Common.{◌≡◌, List, map, filter, ap, ◌∙◌, subst}
use Rattle.std.specs.Prelude.{All}
use Rattle.name_sets.specs.NameLists.{name_set}
use Rattle.c_tree.specs.BareExpr.{Bytes}
use Rattle.c_tree.specs.Bare.{bare_def}
use Rattle.c_tree.specs.declared.def.Def.{Def}
use Rattle.c_semantics.specs.Texts.{names}
use Rattle.type_transformers.specs.declared.change.Change.{Change}
use Rattle.type_transformers.specs.Changes.{changing, name_of, IsChange}
use Rattle.type_transformers.specs.Made.{is_changing, AreChanges}
use Rattle.type_transformers.proofs.Changing.{all_changing}

pub moved : (old new p q : List Def) (zs : List Bytes) (changes : List Change) → old ≡ p → new ≡ q
    → AreChanges (map bare_def old) (map bare_def new) zs changes → AreChanges (map bare_def p) (map bare_def q) zs changes
moved old new p q zs changes is_old is_new are =
    subst {A = List Def} (λ ds. AreChanges (map bare_def ds) (map bare_def q) zs changes) is_old
    (subst {A = List Def} (λ ds. AreChanges (map bare_def old) (map bare_def ds) zs changes) is_new are)

-- they have the names that change
pub all_named : (old new p q : List Def) (zs : List Bytes) (changes : List Change) → old ≡ p → new ≡ q
    → zs ≡ name_set (names (map bare_def p)) → AreChanges (map bare_def old) (map bare_def new) zs changes
    → map name_of changes ≡ changing (map bare_def p) (map bare_def q)
all_named old new p q zs changes is_old is_new names_are are =
    (moved old new p q zs changes is_old is_new are).named
    ∙ ap (filter (is_changing (map bare_def p) (map bare_def q))) names_are
    ∙ all_changing (map bare_def p) (map bare_def q)

-- and each is that of its name
pub all_made : (old new p q : List Def) (zs : List Bytes) (changes : List Change) → old ≡ p → new ≡ q
    → AreChanges (map bare_def old) (map bare_def new) zs changes → All (IsChange (map bare_def p) (map bare_def q)) changes
all_made old new p q zs changes is_old is_new are = (moved old new p q zs changes is_old is_new are).are
