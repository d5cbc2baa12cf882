-- The functions of a text, and their code.
use Rattle.std.specs.Prelude.{ℕ, List, map, length, filter_map, Option, Some, None}
use Rattle.c_tree.specs.BareExpr.{Bytes, BareType}
use Rattle.c_tree.specs.BareDef.{BareBinding, BareDef, Function}
use Rattle.c_semantics.specs.Resolved.{Statements}
use Rattle.c_semantics.specs.Resolution.{resolved_body}
use Rattle.c_semantics.specs.Texts.{Definitions, defined, parameters_of, result_type}
use Rattle.resolved_tree.specs.Nodes.{Table, word, type_of, statements_at}
use Rattle.bytecode.specs.Seen.{code_of}
use Rattle.tree_code.specs.Code.{Code, body_code}
use Rattle.expr_gen.specs.Scope.{variables_of}
use Rattle.text_code.specs.declared.outline.Outline.{Outline}
use Rattle.text_code.specs.declared.body.Body.{Body}

-- a function with its resolved body
pub record ResolvedFunction : Type 0 where
  pub name : Bytes
  pub parameters : List BareBinding
  pub result : BareType
  pub body : Statements

-- a function with its code
pub record CodedFunction : Type 0 where
  pub name : Bytes
  pub parameters : ℕ
  pub code : Code

-- the functions of a text, resolved under its definitions
abbrev pub outline_if : Definitions → BareDef → Option ResolvedFunction
outline_if look (Function result name parameters body) = Some (record {
  name = name;
  parameters = parameters;
  result = result_type (Some (Function result name parameters body));
  body = resolved_body look (Some (Function result name parameters body));
})
outline_if look d = None

abbrev pub outlines_of : Definitions → List BareDef → List ResolvedFunction
outlines_of look text = filter_map (outline_if look) text

-- a function's code
abbrev pub coded : Definitions → ResolvedFunction → CodedFunction
coded look f = record { name = f.name; parameters = length f.parameters; code = body_code look f.parameters f.result f.body }

-- the code of a text
abbrev pub code_of_text : Definitions → List BareDef → List CodedFunction
code_of_text look text = map (coded look) (outlines_of look text)

-- what is kept of a function in a table of trees
abbrev pub outlined : Table → Outline → ResolvedFunction
outlined t o = record {
  name = word t o.name;
  parameters = variables_of t o.parameters.items;
  result = type_of t o.result;
  body = statements_at t o.body;
}

abbrev pub body_of : Table → Body → CodedFunction
body_of t b = record { name = word t b.name; parameters = b.parameters; code = code_of t b.code.items }
