use Rattle.std.proofs.Common.{◌≡◌, ◌||◌, not, false, [], map, Some, refl, sym, ap, ◌∙◌}
use Rattle.std.specs.List.{list_any}
use Rattle.std.proofs.lemmas.Option.{slice_get_within, get_or_from_slice_get}
use Rattle.name_sets.specs.NameLists.{is_among}
use Rattle.name_sets.specs.Texts.{text_of}
use Rattle.c_tree.specs.Bare.{bare_def, bare_function}
use Rattle.c_semantics.specs.Changes.{changed, interface}
use Rattle.c_semantics.specs.Texts.{definition, names}
use Rattle.c_semantics.specs.Skeletons.{skeleton_of, direct_uses}
use Rattle.c_semantics.specs.Store.{is_new}
use Rattle.skeletons.specs.Meaning.{meant}
use Rattle.brought_bodies.proofs.NamesUsed.{none_used}
use Rattle.brought_bodies.proofs.NewBodies.{reason_is, body_is_new, no_new_body}
use Rattle.brought_bodies.proofs.patch.Patch.new_body.Goals as goal

pub returns-then-has_no_reason-clause-body : goal.returns-then-has_no_reason-clause-body
returns-then-has_no_reason-clause-body c = λ q text sets tokens.
    let table = c.args.self.now.names.now in
    let p = map bare_def c.args.self.now.old.now in
    let other = map bare_def c.args.self.now.new.now in
    let f = c.args.function.now in
    let name = f.name.text in
    let s = skeleton_of (definition q.definitions) (Some (bare_function f)) in
    let own : c.is_own-is_own.result ≡ (not (is_among (names p) name) || is_among (changed p other) name) =
    c.is_own-is_own.ensures (changed p other) sets.changed_is c.in-Some.ensures.found
    ∙ ap (λ z. not (is_among (names p) z) || is_among (changed p other) z) c.as_str-name.ensures
    in
    let unused = none_used table (interface p other) c.args.self.now.interface.now (direct_uses s) sets.interface_is c.if-has_no_reason.ensures.interface in
    no_new_body p q c.args.self.now.version name s
    (reason_is p q.definitions other name s c.is_own-is_own.result false text own (sym unused)
    ∙ ap (λ o. o || false) c.if-has_no_reason.ensures.own)

pub returns-then-not-has_reason-clause-body : goal.returns-then-not-has_reason-clause-body
returns-then-not-has_reason-clause-body c = λ q text sets tokens.
    let table = c.args.self.now.names.now in
    let p = map bare_def c.args.self.now.old.now in
    let other = map bare_def c.args.self.now.new.now in
    let f = c.args.function.now in
    let name = f.name.text in
    let s = skeleton_of (definition q.definitions) (Some (bare_function f)) in
    let own : c.is_own-is_own.result ≡ (not (is_among (names p) name) || is_among (changed p other) name) =
    c.is_own-is_own.ensures (changed p other) sets.changed_is c.in-Some.ensures.found
    ∙ ap (λ z. not (is_among (names p) z) || is_among (changed p other) z) c.as_str-name.ensures
    in
    let skeleton : meant table c.in_ok-skeleton.skeleton ≡ s =
    c.in_ok-skeleton.ensures.skeleton ∙ ap (λ ds. skeleton_of (definition ds) (Some (bare_function f))) (sym text)
    in
    let uses = list_any (is_among (interface p other)) (direct_uses (meant table c.in_ok-skeleton.skeleton)) in
    let reason : is_new p q.definitions name s ≡ c.has_reason.result =
    reason_is p q.definitions other name s c.is_own-is_own.result uses text own
    (ap (λ s. list_any (is_among (interface p other)) (direct_uses s)) skeleton)
    ∙ sym (c.has_reason.ensures (interface p other) sets.interface_is c.in_ok-skeleton.ensures.known)
    in
    no_new_body p q c.args.self.now.version name s (reason ∙ c.if-not-has_reason.true)

pub returns-clause-body : goal.returns-clause-body
returns-clause-body c = λ q text sets tokens.
    let table = c.args.self.now.names.now in
    let p = map bare_def c.args.self.now.old.now in
    let other = map bare_def c.args.self.now.new.now in
    let f = c.args.function.now in
    let name = f.name.text in
    let s = skeleton_of (definition q.definitions) (Some (bare_function f)) in
    let own : c.is_own-is_own.result ≡ (not (is_among (names p) name) || is_among (changed p other) name) =
    c.is_own-is_own.ensures (changed p other) sets.changed_is c.in-Some.ensures.found
    ∙ ap (λ z. not (is_among (names p) z) || is_among (changed p other) z) c.as_str-name.ensures
    in
    let skeleton : meant table c.in_ok-skeleton.skeleton ≡ s =
    c.in_ok-skeleton.ensures.skeleton ∙ ap (λ ds. skeleton_of (definition ds) (Some (bare_function f))) (sym text)
    in
    let uses = list_any (is_among (interface p other)) (direct_uses (meant table c.in_ok-skeleton.skeleton)) in
    let reason : is_new p q.definitions name s ≡ c.has_reason.result =
    reason_is p q.definitions other name s c.is_own-is_own.result uses text own
    (ap (λ s. list_any (is_among (interface p other)) (direct_uses s)) skeleton)
    ∙ sym (c.has_reason.ensures (interface p other) sets.interface_is c.in_ok-skeleton.ensures.known)
    in
    let function : text_of table c.in-Some.id ≡ name =
    get_or_from_slice_get table c.in-Some.id _ [] c.in-Some.ensures.found ∙ c.as_str-name.ensures
    in
    body_is_new p q table c.args.self.now.version name s
    (record { function = c.in-Some.id; generation = c.args.self.now.version; tokens = f.tokens; skeleton = c.in_ok-skeleton.skeleton })
    function refl skeleton tokens (reason ∙ c.if-not-has_reason.false)

pub returns-clause-known : goal.returns-clause-known
returns-clause-known c = record {
  named = record { named_function = slice_get_within c.args.self.now.names.now c.in-Some.id _ c.in-Some.ensures.found; named_uses = c.in_ok-skeleton.ensures.known };
  of_version = refl;
  of_function = get_or_from_slice_get c.args.self.now.names.now c.in-Some.id _ [] c.in-Some.ensures.found ∙ c.as_str-name.ensures;
}
