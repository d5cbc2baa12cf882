use Rattle.std.proofs.Common.{◌≡◌, [], ◌++◌, length, append-nil, sym, ap, ◌∙◌, arith, string_bytes, unwrap_or}
use Rattle.c_expr_parser.specs.Plans.{MoreStrings, read, quoted, reads}
use Rattle.c_expr_parser.proofs.StringReading.{string_of, some_meant, none_meant, more_strings, no_more_strings, strings_end}
use Rattle.c_expr_parser.proofs.quoted.append_strings.Goals as goal
use Rattle.c_expr_parser.proofs.quoted.append_strings.Goals.{in-Some+in_ok-append_token+then-not-branch, in_default}

pub loop-token-preserved : goal.loop-token-preserved
loop-token-preserved c =
    let t = c.in-Some.token.now in
    let rest = c.in-Some.behind.now in
    let appended = c.in_ok-append_token.ensures in
    record {
      reads = λ depth place shallow.
          c.loop-token.invariant.reads depth place shallow
          ∙ more_strings depth place (string_bytes c.loop-token.into) c.loop-token.rest.now t rest (unwrap_or (string_of t) []) c.in-Some.ensures.cases.0
          (some_meant (string_of t) (sym appended.0 ∙ c.if-not-branch.false)) shallow
          ∙ ap (λ bytes. reads (MoreStrings depth place bytes) rest) (sym appended.1);
      within = omega (arith, ap length c.in-Some.ensures.cases.0);
    }

pub returns-clause-reads : goal.returns-clause-reads
returns-clause-reads c depth place shallow =
    let rest = c.loop-token.rest.now in
    let bytes = string_bytes c.loop-token.into in
    let last : reads (MoreStrings depth place bytes) rest ≡ read (quoted place (string_bytes c.match-split_first.into)) rest
    = elim c.match-split_first.branch [
      | in-Some+in_ok-append_token+then-not-branch w ↦
          let t = w.in-Some.token.now in
          let appended = w.in_ok-append_token.ensures in
          let none = none_meant (string_of t) (sym appended.0 ∙ w.if-not-branch.true) in
          let same = ap string_bytes w.into-is ∙ appended.1 ∙ ap (λ o. bytes ++ unwrap_or o []) none ∙ append-nil bytes in
          no_more_strings depth place bytes rest t w.in-Some.behind.now w.in-Some.ensures.cases.0 none ∙ ap (λ b. read (quoted place b) rest) (sym same)
      | in_default w ↦ strings_end depth place bytes rest w.in_default.ensures.cases ∙ ap (λ s. read (quoted place (string_bytes s)) rest) (sym w.into-is)
    ] in
    c.loop-token.invariant.reads depth place shallow ∙ last
