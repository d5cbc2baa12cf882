use Rattle.std.proofs.Common.{◌≤◌, List, [], ◌++◌, length, subst, sym, arith}
use Rattle.std.proofs.lemmas.List.{append-nil}
use Rattle.c_tree.specs.BareExpr.{Bytes}
use Rattle.code_image.specs.Images.{each_once, names_of}
use Rattle.image_load.proofs.NameLists.{more_long}
use Rattle.image_load.proofs.numbers.accepted_text_has_few_names.Goals as goal

no_more : (names : List Bytes) → length (each_once (names ++ [])) ≤ length names
no_more names =
    let most = more_long [] names in
    let own : length (each_once names) ≤ length names = omega (arith, most) in
    subst (λ (ns : List Bytes). length (each_once ns) ≤ length names) (sym (append-nil names)) own

pub returns : goal.returns
returns c = λ text accepted.
    let few = c.accepted_names_are_few.ensures text accepted in
    let mutexes = few.mutexes in
    let tags = few.tags in
    record {
      mutexes = omega (arith, mutexes, no_more (names_of text.definitions).mutexes);
      tags = omega (arith, tags, no_more (names_of text.definitions).tags);
    }
