use Rattle.std.proofs.Common.{◌≡◌, ◌∷◌, [], ◌++◌, length, map, sym, ap, ◌∙◌, append_assoc, append-nil, arith}
use Rattle.std.specs.Vec.Iter.{into_iter_items}
use Rattle.std.proofs.lemmas.List.{map-append}
use Rattle.name_resolution.proofs.Kept.{grows_refl, grows_trans}
use Rattle.source_programs.specs.Programs.{IsReady}
use Rattle.source_programs.proofs.Items.{all_more, all_none, nothing_left}
use Rattle.source_programs.proofs.ready.all_ready.Goals as goal

pub loop-text-init : goal.loop-text-init
loop-text-init c =
    let given = c.into_iter-text-iterator.ensures.into_iter_gives in
    record {
      rest = sym given.0;
      left = let long = c.args.texts.ok.0 in let items = ap length given.0 in let many = given.1 in omega (arith, long, items, many);
      grows = grows_refl _;
      ready = λ u g. all_none (IsReady u) c.in_ok-all.all.items c.in_ok-all.ensures.items;
      texts = ap (map (λ r. r.text)) c.in_ok-all.ensures.items;
    }

pub loop-text-preserved : goal.loop-text-preserved
loop-text-preserved c =
    let at = c.loop-text in
    let text = c.in-Some.text in
    let steps : into_iter_items at.text-iterator ≡ text ∷ into_iter_items c.next.new.self = c.in-Some.ensures.steps.0 in
    let grown = c.in_ok-ready.ensures.grows in
    record {
      rest = at.invariant.rest ∙ ap (λ l. at.yielded ++ l) steps ∙ sym (append_assoc at.yielded (text ∷ []) _);
      left = let was = at.invariant.left in let gone = c.in-Some.ensures.steps.1 in let short = ap length steps in omega arith;
      grows = grows_trans _ _ _ at.invariant.grows grown;
      ready = λ u g. all_more (IsReady u) at.all.items c.push.new.self.items c.in_ok-ready.ready c.in_ok-push.ensures.items
          (at.invariant.ready u (grows_trans _ _ u grown g)) (c.in_ok-ready.ensures.ready u g);
      texts = ap (map (λ r. r.text)) c.in_ok-push.ensures.items
          ∙ map-append (λ r. r.text) at.all.items (c.in_ok-ready.ready ∷ [])
          ∙ ap (λ l. l ++ c.in_ok-ready.ready.text ∷ []) at.invariant.texts
          ∙ ap (λ t. at.yielded ++ t ∷ []) c.in_ok-ready.ensures.text;
    }

pub returns-in_err-ready-clause-grows : goal.returns-in_err-ready-clause-grows
returns-in_err-ready-clause-grows c = grows_trans _ _ _ c.loop-text.invariant.grows c.in_err-ready.ensures.grows

pub returns-in_err-push-clause-grows : goal.returns-in_err-push-clause-grows
returns-in_err-push-clause-grows c = grows_trans _ _ _ c.loop-text.invariant.grows c.in_ok-ready.ensures.grows

pub returns-in_err-all-clause-grows : goal.returns-in_err-all-clause-grows
returns-in_err-all-clause-grows c = grows_refl _

pub returns-clause-texts : goal.returns-clause-texts
returns-clause-texts c =
    let at = c.loop-text in
    let empty : into_iter_items at.text-iterator ≡ [] = nothing_left _ (sym at.invariant.left ∙ c.in-None.ensures.steps.0) in
    at.invariant.texts ∙ sym (at.invariant.rest ∙ ap (λ l. at.yielded ++ l) empty ∙ append-nil at.yielded)

pub returns-clause-ready : goal.returns-clause-ready
returns-clause-ready c = c.loop-text.invariant.ready

pub returns-clause-grows : goal.returns-clause-grows
returns-clause-grows c = c.loop-text.invariant.grows
