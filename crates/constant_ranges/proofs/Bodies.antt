-- The resolved bodies of an accepted text have their constants in their ranges.
use Rattle.std.proofs.Common.{◌≡◌, Bool, true, false, List, [], ◌∷◌, map, Option, Some, None, find, cond, unwrap_or, option_map, sym, ap, subst}
use Rattle.c_tree.specs.Bare.{bare_binding, bare_block, bare_def, bare_kind, bare_stmt, bare_type}
use Rattle.c_tree.specs.BareDef.{BareDef}
use Rattle.c_tree.specs.BareExpr.{Bytes}
use Rattle.c_tree.specs.declared.def.Def.{Def}
use Rattle.c_tree.specs.declared.def.DefKind.{DefKind}
use Rattle.c_tree.specs.declared.def.DefKind.TheVariants as kind
use Rattle.c_semantics.specs.Texts.{Definitions, defines, definition, int}
use Rattle.c_semantics.specs.Resolution.{as_locals, resolved_body}
use Rattle.c_semantics.specs.SourceTexts.{Text}
use Rattle.frame_bodies.specs.AcceptedTexts.{IsAccepted}
use Rattle.constant_ranges.specs.Ranges.{ConstantsAreInRange, StatementsRanged}
use Rattle.constant_ranges.proofs.Functions.{BodiesFine, BodyFine, bodies_fine}
use Rattle.constant_ranges.proofs.Resolution.{statements_fine}

of_kind : (look : Definitions) (k : DefKind) → BodyFine k → StatementsRanged (resolved_body look (Some (bare_kind k)))
of_kind look (kind.Struct tag members) h = tt
of_kind look (kind.Forward tag) h = tt
of_kind look (kind.Mutex name) h = tt
of_kind look (kind.Function f) h =
    statements_fine look (unwrap_or (option_map bare_type f.result) int) (as_locals (map bare_binding f.parameters)) (bare_block (map bare_stmt f.body)) h
of_kind look (kind.Prototype p) h = tt
of_kind look (kind.Global d) h = tt
of_kind look (kind.Array a) h = tt
of_kind look (kind.TransformStruct t) h = tt
of_kind look (kind.TransformGlobal name v) h = tt

of_found : (look : Definitions) (ds : List Def) (name : Bytes) → BodiesFine ds
    → StatementsRanged (resolved_body look (find (defines name) (map bare_def ds)))
of_found look [] name h = tt
of_found look (d ∷ ds) name h = by (defines name (bare_def d)) (of_found look ds name h.1)
  where
    by : (b : Bool) → StatementsRanged (resolved_body look (find (defines name) (map bare_def ds)))
        → StatementsRanged (resolved_body look (cond b (Some (bare_def d)) (find (defines name) (map bare_def ds))))
    by true rest = of_kind look d.kind h.0
    by false rest = rest

-- its definitions are those of its tree
bare_of : (text : Text) → IsAccepted text → map bare_def text.tree.definitions ≡ text.definitions
bare_of text a = sym (ap (λ t. t.definitions) a.is)

abbrev RangedIn : Bytes → List BareDef → Type 0
RangedIn name ds = StatementsRanged (resolved_body (definition ds) (definition ds name))

pub constants_are_in_range : ConstantsAreInRange
constants_are_in_range text function a =
    subst (RangedIn function) (bare_of text a)
    (of_found (definition (map bare_def text.tree.definitions)) text.tree.definitions function
    (bodies_fine a.bytes text.tree a.accepted.is_read))
