-- The store of one text has the bodies of its functions, in the order of the text.
use Rattle.std.proofs.Common.{◌≡◌, List, [], ◌∷◌, map, refl, ap, ◌∙◌, append-nil}
use Rattle.std.specs.Prelude.{filter_map}
use Rattle.std.specs.List.{cons_option}
use Rattle.c_tree.specs.Bare.{bare_def, bare_kind}
use Rattle.c_tree.specs.declared.def.Def.{Def}
use Rattle.c_tree.specs.declared.def.DefKind.{DefKind}
use Rattle.c_tree.specs.declared.def.DefKind.TheVariants as kind
use Rattle.c_tree.specs.declared.def.Function.{Function}
use Rattle.c_tree.specs.declared.def.Program.{Program}
use Rattle.c_semantics.specs.SourceTexts.{Text, text_of}
use Rattle.c_semantics.specs.Store.{Body, store}
use Rattle.c_semantics.specs.Store.{body_of as stored_body}
use Rattle.check_in_places.specs.CheckIns.{function_of, functions_in, functions}
use Rattle.check_in_places.specs.Bodies.{body_of}

by_kind : (q : Text) (k : DefKind) (rest : List Body) (fs : List Function) → rest ≡ map (body_of q) fs
    → cons_option (stored_body 1 [] q (bare_kind k)) rest ≡ map (body_of q) (cons_option (function_of k) fs)
by_kind q (kind.Struct name members) rest fs e = e
by_kind q (kind.Forward name) rest fs e = e
by_kind q (kind.Mutex name) rest fs e = e
by_kind q (kind.Function f) rest fs e = ap (λ bodies. body_of q f ∷ bodies) e
by_kind q (kind.Prototype p) rest fs e = e
by_kind q (kind.Global d) rest fs e = e
by_kind q (kind.Array a) rest fs e = e
by_kind q (kind.TransformStruct t) rest fs e = e
by_kind q (kind.TransformGlobal name value) rest fs e = e

bodies_by : (q : Text) (ds : List Def) → filter_map (stored_body 1 [] q) (map bare_def ds) ≡ map (body_of q) (functions_in ds)
bodies_by q [] = refl
bodies_by q (d ∷ ds) = by_kind q d.kind (filter_map (stored_body 1 [] q) (map bare_def ds)) (functions_in ds) (bodies_by q ds)

pub store_of : (p : Program) → store (text_of p ∷ []) ≡ map (body_of (text_of p)) (functions p)
store_of p = append-nil _ ∙ bodies_by (text_of p) p.definitions
