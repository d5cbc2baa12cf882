-- What forms of expressions and statements make of their parts, as the definitions resolve them.
use Rattle.c_ints.specs.Arithmetic.{unary_kind}
use Rattle.c_tree.specs.BareExpr.{Integer}
use Rattle.c_tree.specs.Bare.{bare_type}
use Rattle.c_semantics.specs.Resolved.{Expression, Expressions, Statement, Statements}
use Rattle.c_semantics.specs.Resolved as made
use Rattle.c_semantics.specs.Texts.{Definitions, int, global_type, result_type, parameters_of}
use Rattle.c_semantics.specs.Resolution.{Resolved, value, located, kind, tag_of, binary, assignment, update, step, field, passed, handed}
use Rattle.name_resolution.specs.declared.form.One.{One}
use Rattle.name_resolution.specs.declared.form.One.TheVariants.{Unary, Step, Cast, Element, Field, Free, Join}
use Rattle.name_resolution.specs.declared.form.Two.{Two}
use Rattle.name_resolution.specs.declared.form.Two.TheVariants.{Binary, And, Or, Assign, Update, Create, JoinInto}
use Rattle.name_resolution.specs.declared.form.Many.{Many}
use Rattle.name_resolution.specs.declared.form.Many.TheVariants.{Call, Print}
use Rattle.name_resolution.specs.declared.form.Guarded.{Guarded}
use Rattle.name_resolution.specs.declared.form.Guarded.TheVariants.{If, While, DoWhile}
use Rattle.name_resolution.specs.declared.form.Nested.{Nested}
use Rattle.name_resolution.specs.declared.form.Nested.TheVariants.{Block, Transaction}

-- of one part
abbrev pub of_one : Definitions → One → Resolved → Resolved
of_one look (Unary op) x = value (made.Unary op x.tree) (Integer (unary_kind op (kind x.type)))
of_one look (Step op) x = step op x
of_one look (Cast to) x = value (made.Convert (bare_type to.now) x.tree) (bare_type to.now)
of_one look (Element name) x = located (made.Element name.now x.tree) (global_type (look name.now))
of_one look (Field name) x = field look x name.now
of_one look Free x = value (made.Free (tag_of x.type) x.tree) int
of_one look Join x = value (made.Join x.tree) int

-- of two parts
abbrev pub of_two : Definitions → Two → Resolved → Resolved → Resolved
of_two look (Binary op) x y = binary op x y
of_two look And x y = value (made.And x.tree y.tree) int
of_two look Or x y = value (made.Or x.tree y.tree) int
of_two look Assign x y = assignment x y
of_two look (Update op) x y = update op x y
of_two look (Create name) x y =
    value (made.Create x.place name.now (handed (parameters_of (look name.now)) y.tree)) int
of_two look JoinInto x y = value (made.JoinInto x.tree y.place) int

-- with arguments
abbrev pub of_many : Definitions → Many → Expressions → Resolved
of_many look (Call name) es =
    value (made.Call name.now (passed es (parameters_of (look name.now)))) (result_type (look name.now))
of_many look (Print format) es = value (made.Print format.now es) int

-- of a test and a statement
abbrev pub of_guarded : Guarded → Expression → Statement → Statement
of_guarded If c s = made.If c s
of_guarded While c s = made.While c s
of_guarded DoWhile c s = made.DoWhile s c

-- of a block
abbrev pub of_nested : Nested → Statements → Statement
of_nested Block ss = made.Block ss
of_nested Transaction ss = made.Transaction ss
