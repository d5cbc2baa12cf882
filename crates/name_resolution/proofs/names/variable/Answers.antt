use Rattle.c_tree.specs.Bare.{bare_type}
use Rattle.c_semantics.specs.Texts.{bound}
use Rattle.resolved_tree.specs.Parts.{a_word, in_type}
use Rattle.name_resolution.specs.Known.{known_of, locals_of}
use Rattle.name_resolution.proofs.Kept.{grows_trans, in_later, both_in}
use Rattle.name_resolution.proofs.Resolving.{local_variable, global_variable}
use Rattle.name_resolution.proofs.names.variable.Goals as goal

pub returns-in_ok-name-in-Some-clause-found : goal.returns-in_ok-name-in-Some-clause-found
returns-in_ok-name-in-Some-clause-found c = λ u g.
    let e1 = c.in_ok-name-in-Some.ensures.word u g in
    let e2 = c.in_ok-declared-in-Some.ensures.declared u (grows_trans _ _ u c.in_ok-name-in-Some.ensures.grows g) in
    let e3 = local_variable (known_of c.args.known.now) c.args.name.now (bound (locals_of c.args.locals.now) c.args.name.now) (bare_type c.in-Some.declared.now) c.in-Some.ensures in
    cc

pub returns-in_ok-name-in-None-clause-found : goal.returns-in_ok-name-in-None-clause-found
returns-in_ok-name-in-None-clause-found c = λ u g.
    let e1 = c.in_ok-name-in-None.ensures.word u g in
    let e2 = c.in_ok-declared-in-None.ensures.declared u (grows_trans _ _ u c.in_ok-name-in-None.ensures.grows g) in
    let e3 = global_variable (known_of c.args.known.now) c.args.name.now (bound (locals_of c.args.locals.now) c.args.name.now) c.in-None.ensures in
    let e4 = c.global_type.ensures in
    cc

pub returns-in_err-declared-in-Some-clause-grows : goal.returns-in_err-declared-in-Some-clause-grows
returns-in_err-declared-in-Some-clause-grows c = c.in_err-declared-in-Some.ensures.grows

pub returns-in_err-name-in-Some-clause-grows : goal.returns-in_err-name-in-Some-clause-grows
returns-in_err-name-in-Some-clause-grows c = grows_trans _ _ _ c.in_ok-declared-in-Some.ensures.grows c.in_err-name-in-Some.ensures.grows

pub returns-in_ok-name-in-Some-clause-grows : goal.returns-in_ok-name-in-Some-clause-grows
returns-in_ok-name-in-Some-clause-grows c = grows_trans _ _ _ c.in_ok-declared-in-Some.ensures.grows c.in_ok-name-in-Some.ensures.grows

pub returns-in_err-declared-in-None-clause-grows : goal.returns-in_err-declared-in-None-clause-grows
returns-in_err-declared-in-None-clause-grows c = c.in_err-declared-in-None.ensures.grows

pub returns-in_err-name-in-None-clause-grows : goal.returns-in_err-name-in-None-clause-grows
returns-in_err-name-in-None-clause-grows c = grows_trans _ _ _ c.in_ok-declared-in-None.ensures.grows c.in_err-name-in-None.ensures.grows

pub returns-in_ok-name-in-None-clause-grows : goal.returns-in_ok-name-in-None-clause-grows
returns-in_ok-name-in-None-clause-grows c = grows_trans _ _ _ c.in_ok-declared-in-None.ensures.grows c.in_ok-name-in-None.ensures.grows

pub returns-in_ok-name-in-Some-clause-within : goal.returns-in_ok-name-in-Some-clause-within
returns-in_ok-name-in-Some-clause-within c =
    both_in _ (a_word c.in_ok-name-in-Some.name) (in_type c.in_ok-declared-in-Some.declared) c.in_ok-name-in-Some.ensures.within
    (in_later _ _ (in_type c.in_ok-declared-in-Some.declared) c.in_ok-name-in-Some.ensures.grows c.in_ok-declared-in-Some.ensures.within)

pub returns-in_ok-name-in-None-clause-within : goal.returns-in_ok-name-in-None-clause-within
returns-in_ok-name-in-None-clause-within c =
    both_in _ (a_word c.in_ok-name-in-None.name) (in_type c.in_ok-declared-in-None.declared) c.in_ok-name-in-None.ensures.within
    (in_later _ _ (in_type c.in_ok-declared-in-None.declared) c.in_ok-name-in-None.ensures.grows c.in_ok-declared-in-None.ensures.within)
