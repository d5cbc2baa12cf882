-- The type that is found of an expression is that of its tree.
use Rattle.std.proofs.Common.{◌≡◌, ◌∙◌, List, [], ◌∷◌, map, Some, ap, sym, subst}
use Rattle.std.proofs.lemmas.Option.{same_Some}
use Rattle.c_tree.specs.Bare.{bare_def, bare_expr, bare_type}
use Rattle.c_tree.specs.BareDef.{BareBinding, BareDef}
use Rattle.c_tree.specs.BareExpr.{BareType}
use Rattle.c_tree.specs.declared.def.Def.{Def}
use Rattle.c_tree.specs.declared.expr.Expr.{Expr}
use Rattle.c_tree.specs.declared.name.CType.{CType}
use Rattle.c_tree.specs.declared.name.CType.TheVariants.{Integer}
use Rattle.c_expr_types.specs.declared.found.Found.{Found}
use Rattle.c_expr_types.specs.declared.found.Found.TheVariants.{Wrong, Place, Value, Zero, Null, Nothing, Designator}
use Rattle.c_expr_types.specs.Found.{faults_of, type_of}
use Rattle.c_definitions.specs.Lookup.{Names, Scopes}
use Rattle.c_expr_types.specs.Expressions.{infer}
use Rattle.c_semantics.specs.Texts.{definition}
use Rattle.c_semantics.specs.Resolution.{resolved}
use Rattle.typed_uses.proofs.Agreement.{TypeFits}
use Rattle.typed_uses.proofs.Locals.{InStep, Within}
use Rattle.typed_uses.proofs.SoundTexts.{Facts}
use Rattle.frame_bodies.proofs.AcceptedFacts.{bare_of, facts_in}
use Rattle.typed_trees.specs.ValueTypes.{Environment}
use Rattle.typed_texts.specs.TypedTexts.{ExpressionsHaveOneType, HasBlock, HasOneType, SameVariables}
use Rattle.typed_texts.proofs.Expressions.{expression}

has_block : (scopes : Scopes) → HasBlock scopes → Within scopes
has_block [] b = b
has_block (block ∷ outer) b = tt

in_step : (text : List Def) (scopes : Scopes) (locals : List BareBinding) (env : Environment) → SameVariables text scopes locals env
    → InStep text scopes locals
in_step text scopes locals env s = record { within = has_block scopes s.within; same = s.in_resolution; known = s.known }

-- what is found of a value is the type that it fits
fitting_type : (text : List Def) (found : Found) (type : BareType) (t : CType) → TypeFits text found type → type_of found ≡ Some t
    → type ≡ bare_type t
fitting_type text (Wrong f) type t fits e = cc
fitting_type text (Place u) type t fits e = fits.is ∙ ap bare_type (same_Some u t e)
fitting_type text (Value u) type t fits e = fits.is ∙ ap bare_type (same_Some u t e)
fitting_type text (Zero k) type t fits e = fits ∙ ap bare_type (same_Some (Integer k) t e)
fitting_type text Null type t fits e = cc
fitting_type text Nothing type t fits e = cc
fitting_type text Designator type t fits e = cc

one_type : (names : Names) (locals : List BareBinding) (env : Environment) (e : Expr) → Facts names.text
    → SameVariables names.text names.scopes locals env → faults_of (infer names e).found ≡ []
    → HasOneType (definition (map bare_def names.text)) names env e (resolved (definition (map bare_def names.text)) locals (bare_expr e))
one_type names locals env e facts s clean =
    let has = expression names locals env facts (in_step names.text names.scopes locals env s) s.in_trees e clean in record {
      found = λ t is. fitting_type names.text (infer names e).found _ t has.good.type is;
      typed = has.fits.typed;
      tree = has.fits.type;
    }

abbrev OneTypeBy : Names → List BareBinding → Environment → Expr → List BareDef → Type 0
OneTypeBy names locals env e ds = HasOneType (definition ds) names env e (resolved (definition ds) locals (bare_expr e))

pub expressions_have_one_type : ExpressionsHaveOneType
expressions_have_one_type text names locals env e a same s clean =
    let facts = subst Facts (sym same) (facts_in text a) in
    let one = one_type names locals env e facts s clean in
    subst (OneTypeBy names locals env e) (bare_of text a) (subst (λ ds. OneTypeBy names locals env e (map bare_def ds)) same one)
