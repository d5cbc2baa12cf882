use Rattle.std.proofs.Common.{◌≡◌, ◌∙◌, Ok, Err, List, refl, subst, ap, sym, inl, inr}
use Rattle.c_lexer.specs.declared.token.Token.{Token}
use Rattle.c_lexer.specs.Cut.{Lexes}
use Rattle.c_types.specs.Definitions.{Types}
use Rattle.c_front.specs.declared.fault.TextFault.TheVariants.{Refused, Memory}
use Rattle.c_front.specs.Told.{lexical, syntactic, typed_fault}
use Rattle.c_front.proofs.Layers.{lexical_first, lexical_accepts, lexical_only, in_answer, OnlyTokens, IsExact, syntax_first, syntax_accepts, syntax_only, types_accepts, types_first, types_refuse_none, types_only, types_have_none}
use Rattle.c_front.proofs.read.read_text.Goals as goal

pub returns-in-Err-clause-refused : goal.returns-in-Err-clause-refused
returns-in-Err-clause-refused c wrong at is =
    lexical_first c.args.text.now c.in-Err.fault wrong at c.in-Err.ensures.cut (sym c.of_tokens.ensures ∙ cc)

pub returns-in-Err-clause-complete : goal.returns-in-Err-clause-complete
returns-in-Err-clause-complete c program accepted =
    inr (ap (λ f. Err f) (c.of_tokens.ensures ∙ lexical_accepts c.args.text.now c.in-Err.fault program c.in-Err.ensures.only accepted))

pub returns-in-Err-clause-first : goal.returns-in-Err-clause-first
returns-in-Err-clause-first c wrong at first =
    in_answer _ c.of_tokens.result (lexical c.in-Err.fault) (Refused wrong at) Memory c.of_tokens.ensures
    (lexical_only c.args.text.now c.in-Err.fault wrong at c.in-Err.ensures.only first)

pub returns-in-Err-parse-clause-refused : goal.returns-in-Err-parse-clause-refused
returns-in-Err-parse-clause-refused c wrong at is =
    let told : syntactic c.args.text.now c.deref-in-Err-parse.result.now c.in-Err-parse.fault ≡ Refused wrong at = sym c.of_syntax.ensures ∙ cc in
    let tokens : c.deref-in-Err-parse.result.now ≡ c.deref.result.now = c.deref-in-Err-parse.ensures.value ∙ sym c.deref.ensures.value in
    syntax_first c.args.text.now c.deref.result.now c.in-Err-parse.fault wrong at
    (subst {A = List Token} (λ ts. Lexes c.args.text.now (Ok ts)) (sym c.deref.ensures.value) c.in-Ok.ensures.cut)
    c.in-Err-parse.ensures.sound
    (ap (λ ts. syntactic c.args.text.now ts c.in-Err-parse.fault) (sym tokens) ∙ told)

pub returns-in-Err-parse-clause-complete : goal.returns-in-Err-parse-clause-complete
returns-in-Err-parse-clause-complete c program accepted =
    let tokens : c.deref-in-Err-parse.result.now ≡ c.deref.result.now = c.deref-in-Err-parse.ensures.value ∙ sym c.deref.ensures.value in
    let only : OnlyTokens c.args.text.now c.deref.result.now = (λ other lexes. c.in-Ok.ensures.only other lexes ∙ ap (λ ts. Ok ts) (sym c.deref.ensures.value)) in
    let exact : IsExact c.args.text.now c.deref.result.now (Err c.in-Err-parse.fault) = record {
      complete = c.in-Err-parse.ensures.complete;
      stuck = c.in-Err-parse.ensures.stuck;
      deep = c.in-Err-parse.ensures.deep;
    } in
    inr (ap (λ f. Err f) (c.of_syntax.ensures ∙ ap (λ ts. syntactic c.args.text.now ts c.in-Err-parse.fault) tokens
    ∙ syntax_accepts c.args.text.now c.deref.result.now c.in-Err-parse.fault program only exact accepted))

pub returns-in-Err-parse-clause-first : goal.returns-in-Err-parse-clause-first
returns-in-Err-parse-clause-first c wrong at first =
    let tokens : c.deref-in-Err-parse.result.now ≡ c.deref.result.now = c.deref-in-Err-parse.ensures.value ∙ sym c.deref.ensures.value in
    let only : OnlyTokens c.args.text.now c.deref.result.now = (λ other lexes. c.in-Ok.ensures.only other lexes ∙ ap (λ ts. Ok ts) (sym c.deref.ensures.value)) in
    let exact : IsExact c.args.text.now c.deref.result.now (Err c.in-Err-parse.fault) = record {
      complete = c.in-Err-parse.ensures.complete;
      stuck = c.in-Err-parse.ensures.stuck;
      deep = c.in-Err-parse.ensures.deep;
    } in
    in_answer _ c.of_syntax.result (syntactic c.args.text.now c.deref.result.now c.in-Err-parse.fault) (Refused wrong at) Memory
    (c.of_syntax.ensures ∙ ap (λ ts. syntactic c.args.text.now ts c.in-Err-parse.fault) tokens)
    (syntax_only c.args.text.now c.deref.result.now c.in-Err-parse.fault wrong at only exact first)

pub returns-in-Ok-check-clause-accepted : goal.returns-in-Ok-check-clause-accepted
returns-in-Ok-check-clause-accepted c =
    record {
      is_read = record {
        tokens = c.deref.result.now;
        read = c.in-Ok-parse.ensures.sound.read;
        lexes = subst {A = List Token} (λ ts. Lexes c.args.text.now (Ok ts)) (sym c.deref.ensures.value) c.in-Ok.ensures.cut;
        reads = c.in-Ok-parse.ensures.sound.reads;
        ends = c.in-Ok-check.ensures.typed.1 ∙ c.in-Ok-parse.ensures.sound.ends;
      };
      types = subst Types (sym c.in-Ok-check.ensures.typed.1) c.in-Ok-check.ensures.typed.0;
    }

pub returns-in-Ok-check-clause-complete : goal.returns-in-Ok-check-clause-complete
returns-in-Ok-check-clause-complete c program accepted =
    let only : OnlyTokens c.args.text.now c.deref.result.now = (λ other lexes. c.in-Ok.ensures.only other lexes ∙ ap (λ ts. Ok ts) (sym c.deref.ensures.value)) in
    let exact : IsExact c.args.text.now c.deref.result.now (Ok c.in-Ok-parse.program) = record {
      complete = c.in-Ok-parse.ensures.complete;
      stuck = c.in-Ok-parse.ensures.stuck;
      deep = c.in-Ok-parse.ensures.deep;
    } in
    inl (ap (λ p. Ok p) (c.in-Ok-check.ensures.typed.1 ∙ sym (types_accepts c.args.text.now c.deref.result.now c.in-Ok-parse.program program only exact accepted)))

pub returns-in-Ok-check-clause-first : goal.returns-in-Ok-check-clause-first
returns-in-Ok-check-clause-first c wrong at first =
    let only : OnlyTokens c.args.text.now c.deref.result.now = (λ other lexes. c.in-Ok.ensures.only other lexes ∙ ap (λ ts. Ok ts) (sym c.deref.ensures.value)) in
    let exact : IsExact c.args.text.now c.deref.result.now (Ok c.in-Ok-parse.program) = record {
      complete = c.in-Ok-parse.ensures.complete;
      stuck = c.in-Ok-parse.ensures.stuck;
      deep = c.in-Ok-parse.ensures.deep;
    } in
    absurd (types_have_none c.args.text.now c.deref.result.now c.in-Ok-parse.program wrong at only exact c.in-Ok-check.ensures.typed.0 first)

pub returns-clause-refused : goal.returns-clause-refused
returns-clause-refused c wrong at is =
    types_first c.args.text.now c.in-Ok-parse.program c.in-Err-check.fault wrong at
    (record {
      tokens = c.deref.result.now;
      read = c.in-Ok-parse.ensures.sound.read;
      lexes = subst {A = List Token} (λ ts. Lexes c.args.text.now (Ok ts)) (sym c.deref.ensures.value) c.in-Ok.ensures.cut;
      reads = c.in-Ok-parse.ensures.sound.reads;
      ends = c.in-Ok-parse.ensures.sound.ends;
    })
    c.in-Err-check.ensures.told (sym c.of_types.ensures ∙ cc)

pub returns-clause-complete : goal.returns-clause-complete
returns-clause-complete c program accepted =
    let only : OnlyTokens c.args.text.now c.deref.result.now = (λ other lexes. c.in-Ok.ensures.only other lexes ∙ ap (λ ts. Ok ts) (sym c.deref.ensures.value)) in
    let exact : IsExact c.args.text.now c.deref.result.now (Ok c.in-Ok-parse.program) = record {
      complete = c.in-Ok-parse.ensures.complete;
      stuck = c.in-Ok-parse.ensures.stuck;
      deep = c.in-Ok-parse.ensures.deep;
    } in
    inr (ap (λ f. Err f) (c.of_types.ensures
    ∙ types_refuse_none c.args.text.now c.deref.result.now c.in-Ok-parse.program program c.in-Err-check.fault only exact c.in-Err-check.ensures.told accepted))

pub returns-clause-first : goal.returns-clause-first
returns-clause-first c wrong at first =
    let only : OnlyTokens c.args.text.now c.deref.result.now = (λ other lexes. c.in-Ok.ensures.only other lexes ∙ ap (λ ts. Ok ts) (sym c.deref.ensures.value)) in
    let exact : IsExact c.args.text.now c.deref.result.now (Ok c.in-Ok-parse.program) = record {
      complete = c.in-Ok-parse.ensures.complete;
      stuck = c.in-Ok-parse.ensures.stuck;
      deep = c.in-Ok-parse.ensures.deep;
    } in
    in_answer _ c.of_types.result (typed_fault c.in-Err-check.fault) (Refused wrong at) Memory c.of_types.ensures
    (types_only c.args.text.now c.deref.result.now c.in-Ok-parse.program c.in-Err-check.fault wrong at only exact c.in-Err-check.ensures.told first)
