-- In a text that types, each name that a function uses is one that the text defines.
use Rattle.std.proofs.Common.{Bool, true, false, cond, List, [], ◌∷◌, map, Option, Some, find, option_map, unwrap_or}
use Rattle.run_types.specs.Skeleton as kind
use Rattle.c_tree.specs.BareExpr.{Bytes}
use Rattle.c_tree.specs.BareDef.{BareDef}
use Rattle.c_tree.specs.Bare.{bare_binding, bare_def, bare_kind, bare_type}
use Rattle.c_tree.specs.declared.stmt.Stmt.{Stmt}
use Rattle.c_tree.specs.declared.def.Def.{Def}
use Rattle.c_tree.specs.declared.def.DefKind.{DefKind}
use Rattle.c_tree.specs.declared.def.DefKind.TheVariants.{Struct, Forward, Mutex, Function, Prototype, Global, Array, TransformStruct, TransformGlobal}
use Rattle.c_types.specs.Definitions.{inside}
use Rattle.c_semantics.specs.Texts.{defines, int}
use Rattle.c_semantics.specs.Resolution.{as_locals, resolved_body}
use Rattle.c_semantics.specs.Points.{at_depth, of_body}
use Rattle.c_semantics.specs.Skeletons.{skeleton_of}
use Rattle.typed_uses.specs.UseLaws.{AcceptedTextsDefineTheirUses, EachUseIsDefined}
use Rattle.typed_uses.proofs.DeclaredNames.{names_of_texts_are_apart}
use Rattle.typed_uses.proofs.Points.{EachPoint, each_use_has_it, points_together}
use Rattle.typed_uses.proofs.SoundTexts.{AllSound, Facts, Sound, facts_of}
use Rattle.typed_uses.proofs.Lookups.{Named, look}
use Rattle.typed_uses.proofs.Locals.{with_all}
use Rattle.typed_uses.proofs.Statements.{EachStmtFits, all_follow, stmt_fits}

each_fits : (ss : List Stmt) → EachStmtFits ss
each_fits [] = tt
each_fits (s ∷ ss) = (stmt_fits s, each_fits ss)

-- the points of a definition's body
abbrev Uses : List Def → Option BareDef → Type 0
Uses text d = EachPoint (Named text) (of_body (resolved_body (look text) d))

uses_of : (text : List Def) → Facts text → (k : DefKind) → Sound text k → Uses text (Some (bare_kind k))
uses_of text facts (Struct tag members) s = (tt, (tt, tt))
uses_of text facts (Forward tag) s = (tt, (tt, tt))
uses_of text facts (Mutex name) s = (tt, (tt, tt))
uses_of text facts (Function f) s =
    let body = all_follow f.body (each_fits f.body) (inside text f) (as_locals (map bare_binding f.parameters)) facts (with_all text f.parameters s.parameters)
    s.body in
    (tt, points_together (Named text) _ (at_depth 0 kind.Return ∷ []) (body.points (unwrap_or (option_map bare_type f.result) int) 0) (tt, tt))
uses_of text facts (Prototype p) s = (tt, (tt, tt))
uses_of text facts (Global d) s = (tt, (tt, tt))
uses_of text facts (Array a) s = (tt, (tt, tt))
uses_of text facts (TransformStruct t) s = (tt, (tt, tt))
uses_of text facts (TransformGlobal name v) s = (tt, (tt, tt))

uses_of_found : (text ds : List Def) (name : Bytes) → Facts text → AllSound text ds → Uses text (find (defines name) (map bare_def ds))
uses_of_found text [] name facts s = (tt, (tt, tt))
uses_of_found text (d ∷ ds) name facts s = by (defines name (bare_def d)) (uses_of_found text ds name facts s.1)
  where
    by : (b : Bool) → Uses text (find (defines name) (map bare_def ds)) →
        Uses text (cond b (Some (bare_def d)) (find (defines name) (map bare_def ds)))
    by true rest = uses_of text facts d.kind s.0
    by false rest = rest

pub each_use_is_defined : EachUseIsDefined
each_use_is_defined program types apart name used h =
    let text = program.definitions in
    let facts = facts_of program types apart in
    each_use_has_it (Named text) (skeleton_of (look text) (look text name)) used (uses_of_found text text name facts facts.sound) h

pub accepted_texts_define_their_uses : AcceptedTextsDefineTheirUses
accepted_texts_define_their_uses bytes program accepted =
    each_use_is_defined program accepted.types (names_of_texts_are_apart bytes program accepted.is_read)
